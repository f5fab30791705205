use Rattle.std.proofs.Common.{◌≡◌, ℕ, ◌<◌, length, Some}
use Rattle.std.specs.List.{slice_get}
use Rattle.ssd_tree.specs.declared.tree.Connector.{Connector}
use Rattle.flatten.specs.Indexed.{place_for, number_for}
use Rattle.flatten.proofs.connectors.points.Given as goal

abbrev pub invariant-loop-number : goal.invariant-loop-number
invariant-loop-number l = record {
  len : length l.points.items ≡ l.number;
  each : (c : ℕ) (k : Connector) → c < l.number → slice_get l.tree.connectors c ≡ Some k → slice_get l.points.items c ≡ Some (number_for l.fn.shapes c k.owner (place_for l.fn.shapes k.owner k.name));
}
