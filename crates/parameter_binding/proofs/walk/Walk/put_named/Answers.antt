use Rattle.std.proofs.Common.{◌+◌, ◌<◌, ◌++◌, length, refl, sym, ap, ◌∙◌, subst, arith}
use Rattle.std.specs.Option.{option_map}
use Rattle.std.proofs.lemmas.List.{length-map}
use Rattle.parameter_values.specs.declared.set.Parameter.{Parameter}
use Rattle.parameter_targets.specs.Chains.{FindsFrom, next_of, text_at}
use Rattle.parameter_targets.proofs.CallerLemmas.{left_smaller, read_at}
use Rattle.parameter_binding.specs.declared.sets.MappingOf.{MappingOf}
use Rattle.parameter_binding.specs.Binds.{change_of}
use Rattle.parameter_binding.specs.Walk.{IsAtNext, names_in}
use Rattle.parameter_binding.proofs.MoveLemmas.{come_all, come_to, named_at, next_parameter}
use Rattle.parameter_binding.proofs.WalkLemmas.{owner_at, range_at, visit_mapped}
use Rattle.parameter_binding.proofs.walk.Walk.put_named.Goals as goal

pub loop-next-init : goal.loop-next-init
loop-next-init c = record {
  name = c.args.source.now;
  source_is = c.requires.source;
  n = 0;
  finds = subst (FindsFrom (names_in c.args.given.now.values.set.parameters) 0 c.args.source.now) (sym c.find-next.ensures) (c.requires.chains.finds c.args.source.now);
  come = c.requires.before;
}

pub put-requires-clause-owner : goal.put-requires-clause-owner
put-requires-clause-owner c = owner_at c.args.self.now c.args.b c.args.binding.now c.requires.walk c.requires.at.is

pub put-requires-clause-range : goal.put-requires-clause-range
put-requires-clause-range c =
    let given = c.args.given.now in
    let parameters = given.values.set.parameters in
    let place = c.in-Some.place in
    let w = subst (λ o. IsAtNext c.args.self.now c.args.b c.args.e c.args.binding.now given c.args.entry.now o c.loop-next.gathered) c.in-Some.is c.loop-next.invariant in
    let within : place < length parameters = let l = w.finds.1 in omega (arith, l, length-map parameters (λ (z : Parameter). z.name)) in
    let at = read_at parameters c.as_slice-parameters.result.now place c.index-parameters-place.result c.as_slice-parameters.ensures within c.index-parameters-place.is in
    range_at c.args.self.now c.args.b place given c.index-parameters-place.result c.requires.walk c.requires.at.has at

pub loop-next-preserved : goal.loop-next-preserved
loop-next-preserved c =
    let self = c.args.self.now in
    let given = c.args.given.now in
    let binding = c.args.binding.now in
    let mapping = c.args.mapping.now in
    let entry = c.args.entry.now in
    let parameters = given.values.set.parameters in
    let place = c.in-Some.place in
    let parameter = c.index-parameters-place.result in
    let w = subst (λ o. IsAtNext self c.args.b c.args.e binding given entry o c.loop-next.gathered) c.in-Some.is c.loop-next.invariant in
    let maps = ap (option_map (λ (m : MappingOf). m.mapping)) c.requires.mapped in
    let within : place < length parameters = let l = w.finds.1 in omega (arith, l, length-map parameters (λ (z : Parameter). z.name)) in
    let at = read_at parameters c.as_slice-parameters.result.now place parameter c.as_slice-parameters.ensures within c.index-parameters-place.is in
    let named = named_at parameters place parameter w.name at w.finds.2 in
    let source = w.source_is ∙ ap (λ n. binding.prefix ++ n) (sym named) in
    let visit = visit_mapped self _ binding given c.as_str.result.now c.requires.walk c.requires.at at refl mapping entry c.requires.mapped c.requires.entry source c.as_str.ensures c.requires.ready refl c.transformation_of.ensures in
    let come = come_to self c.args.b c.args.e binding given mapping.mapping entry c.requires.at.is c.requires.at.has maps c.requires.entry c.loop-next.gathered place w.n w.name w.source_is w.finds w.come in
    record {
      name = w.name;
      source_is = w.source_is;
      n = place + 1;
      finds = subst (FindsFrom (names_in parameters) (place + 1) w.name) (sym c.next-next.ensures) (subst (λ z. FindsFrom (names_in parameters) (place + 1) z (next_of c.args.chains.now place)) w.finds.2 (c.requires.chains.goes_on place (omega arith) w.finds.1));
      come = next_parameter self.tree.now self.shapes.now self.sets.now c.args.b c.args.e place c.put.new.gathered (c.in_ok-put.ensures (change_of entry) visit come);
    }

pub loop-next-smaller : goal.loop-next-smaller
loop-next-smaller c =
    let given = c.args.given.now in
    let names = names_in given.values.set.parameters in
    let place = c.in-Some.place in
    let w = subst (λ o. IsAtNext c.args.self.now c.args.b c.args.e c.args.binding.now given c.args.entry.now o c.loop-next.gathered) c.in-Some.is c.loop-next.invariant in
    left_smaller names place (text_at names place) c.loop-next.next c.next-next.result c.in-Some.is w.finds.1
    (subst (FindsFrom names (place + 1) (text_at names place)) (sym c.next-next.ensures) (c.requires.chains.goes_on place (omega arith) w.finds.1))

pub returns : goal.returns
returns c =
    let given = c.args.given.now in
    let w = subst (λ o. IsAtNext c.args.self.now c.args.b c.args.e c.args.binding.now given c.args.entry.now o c.loop-next.gathered) c.in_default.is c.loop-next.invariant in
    let maps = ap (option_map (λ (m : MappingOf). m.mapping)) c.requires.mapped in
    come_all c.args.self.now c.args.b c.args.e c.args.binding.now given c.args.mapping.now.mapping c.args.entry.now c.requires.at.is c.requires.at.has maps c.requires.entry c.loop-next.gathered w.n w.name w.source_is w.finds w.come
