use Rattle.std.proofs.Common.{◌≡◌, ◌<◌, ◌-◌, [], length, take, refl, inl, ap, ◌∙◌, rules}
use Rattle.std.proofs.lemmas.List.{append-nil}
use Rattle.std.proofs.lemmas.Option.{slice_get_read}
use Rattle.ssd_tree.proofs.ScopeLemmas.{dotted_at, dotted_within, way_begins, way_ends, way_more, way_system}
use Rattle.ssd_tree.proofs.indexed.IndexedTree.scope.Goals as goal

pub path_out-requires-clause-part : goal.path_out-requires-clause-part
path_out-requires-clause-part c = inl c.requires.is

pub loop-inner-init : goal.loop-inner-init
loop-inner-init c = way_begins c.args.self.now.tree.now c.args.system c.in_ok-path.path.items c.new-scope.result c.in_ok-path.ensures c.new-scope.ensures

pub system_place-place-requires-clause-is : goal.system_place-place-requires-clause-is
system_place-place-requires-clause-is c =
    way_system c.args.self.now.tree.now c.args.system c.loop-inner.path.items c.pop.new.self.items c.in-Some.inner c.loop-inner.scope c.requires.sound c.requires.is c.in-Some.ensures.items c.loop-inner.invariant

pub bounds-names-place : goal.bounds-names-place
bounds-names-place c =
    dotted_within c.args.self.now.tree.now c.args.self.now.lists.systems.items c.args.names.now c.system_place-place.result c.in-Some.inner c.requires.names c.system_place-place.ensures

pub offset_bounds-names-place : goal.offset_bounds-names-place
offset_bounds-names-place c =
    let within = dotted_within c.args.self.now.tree.now c.args.self.now.lists.systems.items c.args.names.now c.system_place-place.result c.in-Some.inner c.requires.names c.system_place-place.ensures in
    search rules

pub loop-inner-preserved : goal.loop-inner-preserved
loop-inner-preserved c =
    let t = c.args.self.now.tree.now in
    let names = c.args.names.now in
    let place = c.system_place-place.result in
    let within : place < length names = dotted_within t c.args.self.now.lists.systems.items names place c.in-Some.inner c.requires.names c.system_place-place.ensures in
    let named = dotted_at t c.args.self.now.lists.systems.items names place c.in-Some.inner c.index-names-place.result c.requires.names c.system_place-place.ensures
    (slice_get_read names (length names) place c.index-names-place.result refl within c.index-names-place.is) in
    way_more t c.args.system c.loop-inner.path.items c.pop.new.self.items c.in-Some.inner c.loop-inner.scope c.append.new.self c.index-names-place.result c.requires.sound c.requires.is c.in-Some.ensures.items c.loop-inner.invariant named c.in_ok-append.ensures

pub returns : goal.returns
returns c =
    let path = c.loop-inner.path.items in
    let empty : path ≡ [] = c.in_default.ensures.items ∙ append-nil c.pop.new.self.items ∙ c.in_default.ensures.rest ∙ ap (λ n. take (n - 1) path) c.in_default.ensures.cases.0 in
    way_ends c.args.self.now.tree.now c.args.system path c.loop-inner.scope empty c.loop-inner.invariant
