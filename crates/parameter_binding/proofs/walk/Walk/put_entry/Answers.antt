use Rattle.std.proofs.Common.{◌++◌, sym, ap, ◌∙◌}
use Rattle.std.specs.Option.{option_map}
use Rattle.parameter_targets.proofs.CallerLemmas.{read_at}
use Rattle.parameter_binding.specs.declared.sets.MappingOf.{MappingOf}
use Rattle.parameter_binding.proofs.MoveLemmas.{come_none}
use Rattle.parameter_binding.proofs.walk.Walk.put_entry.Goals as goal

pub returns-in-None : goal.returns-in-None
returns-in-None c =
    let mapping = c.args.mapping.now.mapping in
    let entry = c.index-as_slice-e.result in
    let there = read_at mapping.entries c.as_slice.result.now c.args.e entry c.as_slice.ensures c.requires.within c.index-as_slice-e.is in
    come_none c.args.self.now c.args.b c.args.e c.args.binding.now c.args.given.now mapping entry c.requires.at.is c.requires.at.has (ap (option_map (λ (m : MappingOf). m.mapping)) c.requires.mapped) there c.args.gathered.now
    (λ name e. c.in-None.ensures.none name (c.as_str.ensures ∙ e ∙ ap (λ z. z ++ name) (sym c.as_str-2.ensures))) c.requires.before
