use Rattle.std.proofs.Common.{◌≡◌, length, sym, ap, subst, arith}
use Rattle.std.specs.Option.{option_map}
use Rattle.parameter_binding.specs.declared.sets.MappingOf.{MappingOf}
use Rattle.parameter_binding.specs.Binds.{IsLater}
use Rattle.parameter_binding.specs.Walk.{triple_at}
use Rattle.parameter_binding.proofs.MoveLemmas.{next_binding, real_entry}
use Rattle.parameter_binding.proofs.walk.Walk.put_mapped.Goals as goal

pub returns : goal.returns
returns c =
    let w = c.args.self.now in
    let given = c.args.given.now in
    let mapping = c.args.mapping.now in
    let e = c.loop-e.e in
    let all : e ≡ length mapping.mapping.entries = omega arith in
    next_binding w.tree.now w.shapes.now w.sets.now c.args.b e 0 c.loop-e.gathered
    (λ t real same. subst (λ n. IsLater (triple_at c.args.b n 0) t) (sym all) (real_entry w.tree.now w.sets.now c.args.b given mapping.mapping c.requires.at.has (ap (option_map (λ (m : MappingOf). m.mapping)) c.requires.mapped) t real same)) c.loop-e.invariant
