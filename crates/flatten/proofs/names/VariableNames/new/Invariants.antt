use Rattle.std.proofs.Common.{ℕ, List, take}
use Rattle.ssd_tree.specs.declared.tree.Owner.TheVariants.{Component}
use Rattle.flatten.specs.Indexed.{LeadTo, place_for}
use Rattle.flatten.proofs.names.VariableNames.new.Given as goal

abbrev pub invariant-loop-component : goal.invariant-loop-component
invariant-loop-component l = LeadTo l.fn.connectors (λ (component : ℕ) (name : List ℕ). place_for (take l.component l.shapes) (Component component) name) l.names
