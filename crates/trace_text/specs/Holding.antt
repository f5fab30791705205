-- Which runs can be held: each FMU can serialize its state (FMI 3.0, 2.2.6.4), and a checkpoint has room for the header of the trace.
use Rattle.std.specs.Prelude.{◌≡◌, ◌⊎◌, ℕ, ◌+◌, ◌<◌, ◌≤◌, ◌^◌, true, false, List, ◌∷◌, length, take, Some, IsSomeAnd, All}
use Rattle.std.specs.List.{slice_get}
use Rattle.system_model.specs.declared.plan.Plan.{Plan}
use Rattle.system_model.specs.declared.system.Component.{Component}
use Rattle.system_model.specs.declared.system.Port.{Port}
use Rattle.system_model.specs.declared.system.System.{System}
use Rattle.system_model.specs.Text.{header_line, header_text, lines_text, port_lines_from}

-- a checkpoint has room for a header of so many bytes
abbrev pub held_header_max : ℕ
held_header_max = 2 ^ 27

-- the header of a trace, with the lines of the first n ports
abbrev pub header_up_to : List Component → List Port → Plan → ℕ → List ℕ
header_up_to components ports plan n =
    lines_text (header_line plan.resolution plan.start plan.stop ∷
    port_lines_from components 0 (take n ports))

-- with the line of the k-th port the header has more for the first time
pub record PassesAt (components : List Component) (ports : List Port) (plan : Plan)
    (k : ℕ) : Type 0 where
  pub before : length (header_up_to components ports plan k) ≤ held_header_max
  pub after : held_header_max < length (header_up_to components ports plan (k + 1))

-- with the lines of the ports of the i-th component it has more for the first time
abbrev pub PassesWith : List Component → List Port → Plan → ℕ → Type 0
PassesWith components ports plan i =
    (k : ℕ) × ((port : Port) × (slice_get ports k ≡ Some port) × (port.component.0 ≡ i) ×
    PassesAt components ports plan k)

-- the i-th component keeps the run from being held
abbrev pub KeepsFromHolding : List Component → List Port → Plan → ℕ → Type 0
KeepsFromHolding components ports plan i =
    IsSomeAnd (slice_get components i) (λ (c : Component). c.shape.can_serialize_state ≡ false) ⊎
    PassesWith components ports plan i

-- a run of the system by the plan can be held
pub record IsHoldable (system : System) (plan : Plan) : Type 0 where
  pub serializes : All (λ (c : Component). c.shape.can_serialize_state ≡ true) system.components
  pub header : length (header_text system plan.resolution plan.start plan.stop) ≤ held_header_max
