use Rattle.std.proofs.Common.{◌≡◌, ◌↔◌, ℕ, ◌<◌, length, Some}
use Rattle.std.specs.Prelude.{slice_get}
use Rattle.dependency_order.specs.Paths.{IsMarked}
use Rattle.connection_paths.specs.Paths.{IsOfSystem}
use Rattle.connection_paths.specs.declared.point.Point.{Point}
use Rattle.connection_paths.proofs.links.system_marks.Given as goal

abbrev pub invariant-loop-point : goal.invariant-loop-point
invariant-loop-point l = record {
  len : length l.marks.items ≡ l.point-index;
  marks : (c : ℕ) (p : Point) → c < l.point-index → slice_get l.points c ≡ Some p → IsMarked l.marks.items c ↔ IsOfSystem p;
}
