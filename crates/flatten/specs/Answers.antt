-- What a flattening answers: the system, the first violation, or a loop of its ports.
use Rattle.std.specs.Prelude.{◌≡◌, ◌⊎◌, ℕ, List, [], slice_get, Result, Ok, Err, IfOk, IfErr, ⊤}
use Rattle.std.specs.Option.{option_map_or}
use Rattle.sim_base.specs.declared.numbers.PortId.{PortId}
use Rattle.value_types.specs.declared.shape.Shape.{Shape}
use Rattle.doc_tree.specs.declared.refusal.Refusal.{Refusal}
use Rattle.doc_tree.specs.declared.refusal.Refusal.TheVariants.{At, Memory}
use Rattle.doc_tree.specs.declared.rule.Rule.{Rule}
use Rattle.doc_tree.specs.declared.rule.Rule.TheVariants.{Loop}
use Rattle.system_model.specs.declared.system.System.{System}
use Rattle.system_model.specs.Ports.{port_numbers}
use Rattle.port_orders.specs.Outcome.{HasLoop}
use Rattle.ssd_tree.specs.declared.tree.SystemPart.{SystemPart}
use Rattle.ssd_tree.specs.declared.tree.SystemTree.{SystemTree}
use Rattle.flatten.specs.Rules.{IsFirstFlatteningViolation, IsFitting}
use Rattle.system_model.specs.Sound.{IsSound}
use Rattle.doc_tables.specs.Answers.{Refuses}
use Rattle.flatten.specs.Flat.{Flattens, IsFlat}

-- the element of the outermost System
abbrev pub root_node : SystemTree → ℕ
root_node t = option_map_or (λ (s : SystemPart). s.node) (slice_get t.systems 0) 0

-- 46: no rule is broken, and these ports of the flattened system need each other in a loop; it is told at the outermost System
pub record TellsLoop (t : SystemTree) (shapes : List Shape) (node : ℕ)
    (ports : List PortId) : Type 0 where
  pub fitting : IsFitting t shapes
  pub system : System
  pub flat : IsFlat t shapes system
  pub loop : HasLoop system (port_numbers ports)
  pub at : node ≡ root_node t

-- the refusal is the first violation or tells a loop, unless memory ran out
abbrev pub Faults : SystemTree → List Shape → Refusal → Type 0
Faults t shapes (At file node rule ports) =
    (file ≡ 0) × (((ports ≡ []) × IsFirstFlatteningViolation t shapes node rule) ⊎
    ((rule ≡ Loop) × TellsLoop t shapes node ports))
Faults t shapes Memory = ⊤

-- the answer is a system of these components and ports, unless memory ran out
abbrev pub GivesParts : Result System Refusal → System → Type 0
GivesParts (Ok system) wanted =
    (system.components ≡ wanted.components) × (system.ports ≡ wanted.ports)
GivesParts (Err (At file node rule ports)) wanted = ⊥
GivesParts (Err Memory) wanted = ⊤

-- what a flattening of this tree and these shapes answers
pub record IsAnswer (t : SystemTree) (shapes : List Shape)
    (result : Result System Refusal) : Type 0 where
  pub fitting : IfOk result (λ system. IsFitting t shapes)
  pub found : IfOk result (Flattens t shapes)
  pub sound : IfOk result IsSound
  pub fault : IfErr result (Faults t shapes)
  pub exact : (rule : Rule) (node : ℕ) → IsFirstFlatteningViolation t shapes node rule →
      Refuses result rule node
  pub only : (system : System) → IsFitting t shapes → Flattens t shapes system →
      GivesParts result system
