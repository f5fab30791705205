use Rattle.std.proofs.Common.{◌≡◌, take, sym, ◌∙◌, subst, refl, arith}
use Rattle.std.specs.List.{Contains}
use Rattle.std.proofs.lemmas.List.{take_all}
use Rattle.parameter_targets.specs.Tables.{AreNames, IsNamedIn}
use Rattle.parameter_targets.proofs.ListLemmas.{element_at, read_at}
use Rattle.parameter_targets.proofs.SharedLemmas.{named_at, place_there}
use Rattle.parameter_targets.proofs.TargetLemmas.{named_in, puts_as, puts_place}
use Rattle.parameter_targets.proofs.targets.Targets.put_named.Goals as goal

pub index-names-requires : goal.index-names-requires
index-names-requires c =
    let self = c.args.self.now in
    let shape = element_at self.shapes.now c.args.component c.requires.within in
    let all = c.requires.targets.names in
    let of_len = all.of_len in
    let within = c.requires.within in
    let at = c.index.result.now in
    let place = read_at self.names.of.items self.names.of.items c.args.component at refl (omega (arith, of_len, within)) c.index.ensures in
    let less = place_there self.shapes.now self.names.tables.items self.names.of.items c.args.component at shape.0 all shape.1 place in
    omega (arith, less, self.names.tables.ok.0)

pub places_of-requires : goal.places_of-requires
places_of-requires c =
    let self = c.args.self.now in
    let shape = element_at self.shapes.now c.args.component c.requires.within in
    (named_at self c.args.component c.index.result.now c.index-names.result.now shape.0 c.requires.targets shape.1 c.index.ensures c.index-names.ensures).chains

pub loop-variable-preserved : goal.loop-variable-preserved
loop-variable-preserved c =
    puts_place c.args.seen.now.items c.loop-variable.seen.items c.push.new.self.items c.args.component c.deref-variable-items.result.now c.loop-variable.variable-index 0 c.loop-variable-test.true c.in_ok-push.ensures.items c.loop-variable.invariant

pub returns : goal.returns
returns c =
    let self = c.args.self.now in
    let shape = element_at self.shapes.now c.args.component c.requires.within in
    let are : AreNames shape.0.variables c.index-names.result.now = named_at self c.args.component c.index.result.now c.index-names.result.now shape.0 c.requires.targets shape.1 c.index.ensures c.index-names.ensures in
    let places = c.deref-variable-items.result.now in
    let i = c.loop-variable.variable-index in
    let whole : take i places ≡ c.in_ok-places.places.items = take_all i places (omega arith) ∙ c.deref-variable-items.ensures.value in
    puts_as c.args.seen.now.items c.loop-variable.seen.items c.args.component (Contains (take i places)) (IsNamedIn self.shapes.now c.args.component c.args.name.now)
    (λ v.
    let told = c.in_ok-places.ensures v in
    let entry = are.entries c.args.name.now v in
    let named = named_in self.shapes.now c.args.component shape.0 c.args.name.now v shape.1 in
    (λ h. named.0 (entry.0 (told.0 (subst (λ z. Contains z v) whole h))), λ h. subst (λ z. Contains z v) (sym whole) (told.1 (entry.1 (named.1 h)))))
    c.loop-variable.invariant
