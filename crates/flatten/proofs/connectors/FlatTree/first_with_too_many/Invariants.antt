use Rattle.std.proofs.Common.{◌≡◌, ◌+◌, ◌-◌, ◌^◌, ◌<◌, map, min, sum, take}
use Rattle.doc_tables.specs.Violations.{FindsLeast}
use Rattle.flatten.specs.Rules.{ports_in}
use Rattle.flatten.proofs.LeastLemmas.{HasBelow, HasBroken}
use Rattle.flatten.proofs.connectors.FlatTree.first_with_too_many.Given as goal

abbrev pub invariant-loop-component : goal.invariant-loop-component
invariant-loop-component l = record {
  count : l.count ≡ min (sum (map ports_in (take l.component l.self.shapes.now))) (2 ^ 64 - 1);
  first : FindsLeast (HasBelow (HasBroken l.self.tree.now.components (λ k. k.node) (λ i k. 65536 < sum (map ports_in (take (i + 1) l.self.shapes.now)))) l.component) l.first;
}
