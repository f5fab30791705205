-- The system that an outline and the shapes of its FMUs make together, or the first rule that they break together.
use Rattle.std.specs.Prelude.{◌≡◌, ℕ, List, []}
use Rattle.sim_base.specs.declared.numbers.PortId.{PortId}
use Rattle.value_types.specs.declared.shape.Shape.{Shape}
use Rattle.doc_tree.specs.declared.rule.Rule.{Rule}
use Rattle.doc_tree.specs.declared.rule.Rule.TheVariants.{Loop}
use Rattle.system_model.specs.declared.system.System.{System}
use Rattle.flatten.specs.Answers.{TellsLoop}
use Rattle.flatten.specs.Flat.{Flattens}
use Rattle.flatten.specs.Rules.{IsFirstFlatteningViolation, IsFitting}
use Rattle.system_loading.specs.declared.outline.Outline.{Outline}

-- ---- rules that the files break together

-- there is no flattened system whose ports have orders, though no element breaks a rule
abbrev pub HasNoOrder : Outline → List Shape → Type 0
HasNoOrder o shapes =
    IsFitting o.systems shapes × ((system : System) → Flattens o.systems shapes system → ⊥)

-- the first rule that is broken, at an element of the tree, and the ports of a loop
pub data BreaksTogether (o : Outline) (shapes : List Shape) : Rule → ℕ →
    List PortId → Type 0 where
  -- connectors, connections, saved states, or too many ports
  ByPart : (node : ℕ) (rule : Rule) (ports : List PortId) →
      IsFirstFlatteningViolation o.systems shapes node rule → ports ≡ [] →
      BreaksTogether o shapes rule node ports
  -- a loop
  ByLoop : (node : ℕ) (rule : Rule) (ports : List PortId) → HasNoOrder o shapes →
      TellsLoop o.systems shapes node ports → rule ≡ Loop → BreaksTogether o shapes rule node ports

-- ---- the system

-- no rule is broken, and this is the flattened system
pub record Makes (o : Outline) (shapes : List Shape) (system : System) : Type 0 where
  pub fits : IsFitting o.systems shapes
  pub flattens : Flattens o.systems shapes system

-- they have the same components and ports; the orders of the ports may be others
abbrev pub HaveSameParts : System → System → Type 0
HaveSameParts one other = (one.components ≡ other.components) × (one.ports ≡ other.ports)

-- this system is made, and no other but for the orders of its ports; no rule is broken
pub record MakesAlone (o : Outline) (shapes : List Shape) (system : System) : Type 0 where
  pub is : Makes o shapes system
  pub only : (other : System) → Makes o shapes other → HaveSameParts system other
  pub none : (rule : Rule) (node : ℕ) (ports : List PortId) →
      BreaksTogether o shapes rule node ports → ⊥

-- this rule is broken first, at this element and no other, and no system is made
pub record BreaksTogetherAlone (o : Outline) (shapes : List Shape) (rule : Rule) (node : ℕ)
    (ports : List PortId) : Type 0 where
  pub broken : BreaksTogether o shapes rule node ports
  pub only : (other : Rule) (at : ℕ) (loop : List PortId) →
      BreaksTogether o shapes other at loop → (rule ≡ other) × (node ≡ at)
  pub none : (system : System) → Makes o shapes system → ⊥
