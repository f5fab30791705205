use Rattle.std.proofs.Common.{◌≡◌, ℕ, map, All, Some}
use Rattle.std.specs.List.{slice_get}
use Rattle.value_types.proofs.IndexLemmas.{HasBelow}
use Rattle.value_types.proofs.listed.index_of.Given as goal

abbrev pub invariant-loop-place : goal.invariant-loop-place
invariant-loop-place g l = record {
  told : All (λ (e : ℕ × ℕ). slice_get (map g.T.Referenced.reference l.items) e.1 ≡ Some e.0) l.index.items;
  has : HasBelow (map g.T.Referenced.reference l.items) l.index.items l.place;
}
