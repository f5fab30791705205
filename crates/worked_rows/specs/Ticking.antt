-- An FMU that asks for a second Update at each point feeds the u of one that counts its Updates with its constant Clock active (FMI 3.0, 2.1.5: super-dense time; 2.2.8: constant Clocks). The Clock c ticks each 10 counts, and clocks u.
use Rattle.std.specs.Prelude.{true, List, [], ◌∷◌, Some, None, codes}
use Rattle.sim_base.specs.declared.numbers.PortId.{PortId}
use Rattle.value_types.specs.declared.values.PortType.TheVariants as T
use Rattle.value_types.specs.declared.shape.Causality.TheVariants as V
use Rattle.value_types.specs.declared.shape.ClockTiming.{ClockTiming}
use Rattle.value_types.specs.declared.shape.Knowns.TheVariants.{Listed}
use Rattle.value_types.specs.declared.shape.Variable.{Variable}
use Rattle.value_types.specs.declared.shape.Shape.{Shape}
use Rattle.system_model.specs.declared.system.Component.{Component}
use Rattle.system_model.specs.declared.system.Port.{Port}
use Rattle.system_model.specs.declared.system.Role.TheVariants.{Input, Output, TimeClock}
use Rattle.system_model.specs.declared.system.System.{System}
use Rattle.system_model.specs.declared.system.Timing.TheVariants.{Periodic}
use Rattle.run_rows.specs.Parts.{constant_timing, shape_of}
use Rattle.worked_rows.specs.Chain.{by_place, port_of}
use Rattle.worked_rows.specs.Trio.{component, number}

-- ---- the FMUs

abbrev pub shown : Variable
shown = number (codes "y") 3 V.Output None

abbrev pub clock : Variable
clock = record (number (codes "c") 2 V.Input None) { kind = Some T.Clock }

abbrev pub clocked : Variable
clocked = record (number (codes "u") 5 V.Input None) { clocks = 2 ∷ [] }

-- an FMU with event mode whose output depends on nothing
abbrev pub eventful : List Variable → List ClockTiming → Shape
eventful variables clocks =
    shape_of true variables clocks (record { output = 3; on = Listed [] } ∷ [])

-- a hundredth of a second, from the start on
abbrev pub each_hundredth : ClockTiming
each_hundredth =
    constant_timing 2 (record { counter = 1; resolution = 100 })
    (record { counter = 0; resolution = 1 })

abbrev pub settling : Component
settling = component (codes "settle") 0 (eventful (shown ∷ []) [])

abbrev pub own : Component
own = component (codes "own") 1 (eventful (clock ∷ clocked ∷ shown ∷ []) (each_hundredth ∷ []))

-- ---- the system

abbrev pub clock_port : Port
clock_port = record (port_of 1 (codes "c") 2 (TimeClock (Periodic 10 0))) { kind = T.Clock }

abbrev pub clocked_port : Port
clocked_port =
    record (port_of 1 (codes "u") 5 (Input (Some (record { from = record { 0 = 0 }; changes = [] })))) {
      clocks = record { 0 = 1 } ∷ [];
    }

abbrev pub outputs_alone : List PortId
outputs_alone = record { 0 = 0 } ∷ record { 0 = 3 } ∷ []

abbrev pub ticking : System
ticking = record {
  components = settling ∷ own ∷ [];
  ports =
      port_of 0 (codes "y") 3 Output ∷ clock_port ∷ clocked_port ∷
      port_of 1 (codes "y") 3 Output ∷ [];
  instant_order = by_place;
  initial_order = outputs_alone;
}
