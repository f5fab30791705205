use Rattle.std.proofs.Common.{ℕ, List, take, Option, position}
use Rattle.ssd_tree.specs.declared.tree.Connector.{Connector}
use Rattle.flatten.specs.Points.{has_name}
use Rattle.flatten.specs.Indexed.{LeadTo, with_places}
use Rattle.flatten.proofs.names.VariableNames.note_component.Given as goal

abbrev pub invariant-loop-place : goal.invariant-loop-place
invariant-loop-place l = (connectors : List Connector) (places : ℕ → List ℕ → Option ℕ) → LeadTo connectors places l.fn.self → LeadTo connectors (with_places places l.component (λ name. position (has_name name) (take l.place l.variables))) l.self
