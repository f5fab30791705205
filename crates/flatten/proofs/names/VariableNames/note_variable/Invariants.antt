use Rattle.std.proofs.Common.{ℕ, ◌||◌, List, take, Option}
use Rattle.std.specs.List.{list_any}
use Rattle.std.specs.Str.{bytes_eq}
use Rattle.ssd_tree.specs.declared.tree.Connector.{Connector}
use Rattle.flatten.specs.Indexed.{LeadTo, place_if, with_places}
use Rattle.flatten.proofs.names.VariableNames.note_variable.Given as goal

abbrev pub invariant-loop-alias : goal.invariant-loop-alias
invariant-loop-alias l = (connectors : List Connector) (places : ℕ → List ℕ → Option ℕ) → LeadTo connectors places l.fn.self → LeadTo connectors (with_places places l.component (λ name. place_if (bytes_eq l.variable.name name || list_any (λ z. bytes_eq z name) (take l.alias-index l.variable.aliases)) l.place)) l.self
