use Rattle.std.proofs.Common.{◌≡◌, List, ℕ, [], get_or, length, map, take, ap, subst, arith}
use Rattle.parameter_targets.proofs.TargetLemmas.{led_all, near_of, place_in_row, prefix_within, prefixes_in_row}
use Rattle.parameter_targets.proofs.targets.Targets.near_paths.Goals as goal

pub bounds-row-place : goal.bounds-row-place
bounds-row-place c =
    let prefixes = prefixes_in_row c.args.system c.requires.targets c.requires.within c.index.ensures c.as_bytes.ensures.value c.in_ok-places.ensures in
    place_in_row c.args.self.now.paths c.args.system c.loop-place.place-index prefixes c.deref-place-items.ensures.value c.loop-place-test.true c.row-row.ensures

pub offset_bounds-row-place : goal.offset_bounds-row-place
offset_bounds-row-place c =
    let prefixes = prefixes_in_row c.args.system c.requires.targets c.requires.within c.index.ensures c.as_bytes.ensures.value c.in_ok-places.ensures in
    let below = place_in_row c.args.self.now.paths c.args.system c.loop-place.place-index prefixes c.deref-place-items.ensures.value c.loop-place-test.true c.row-row.ensures in
    let size = c.row-row.type_inv in
    let bytes = size.1 in
    omega (arith, below, bytes)

pub returns : goal.returns
returns c =
    let paths = c.args.self.now.paths in
    let s = c.args.system in
    let prefixes = prefixes_in_row s c.requires.targets c.requires.within c.index.ensures c.as_bytes.ensures.value c.in_ok-places.ensures in
    let row = get_or paths.below s [] in
    let places = c.in_ok-places.places.items in
    let i = c.loop-place.place-index in
    let past = ap length c.deref-place-items.ensures.value in
    let is = subst (λ (z : List ℕ). c.loop-place.ats.items ≡ map (λ k. get_or z k 0) (take i places)) c.row-row.ensures (subst (λ (z : List ℕ). c.loop-place.ats.items ≡ map (λ k. get_or c.row-row.result.now k 0) (take i z)) c.deref-place-items.ensures.value c.loop-place.invariant) in
    near_of paths s c.args.name.now places c.loop-place.ats.items prefixes (led_all row places c.loop-place.ats.items i (let l = c.loop-place-test.false in omega (arith, l, past)) is (λ k. prefix_within paths s k c.args.name.now places prefixes))
