use Rattle.doc_tables.specs.Violations.{FindsLeast}
use Rattle.flatten.proofs.LeastLemmas.{HasBelow, HasBroken}
use Rattle.trace_text.specs.Holding.{KeepsFromHolding}
use Rattle.system_files.proofs.holding.first_unheld.Given as goal

abbrev pub invariant-loop-number : goal.invariant-loop-number
invariant-loop-number l =
    FindsLeast (HasBelow (HasBroken l.outline.systems.components (λ k. k.node) (λ i k. KeepsFromHolding l.system.components l.system.ports l.fn.plan i)) l.number) l.first
