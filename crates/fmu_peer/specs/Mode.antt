-- Typed states.
use Rattle.std.specs.Prelude.{ℕ, ◌==◌, Bool, true, false, ◌||◌}
use Rattle.value_types.specs.declared.shape.Shape.{Shape}
use Rattle.fmi_calls.specs.declared.call.Call.{Call}
use Rattle.fmi_calls.specs.declared.call.Call.TheVariants as C
use Rattle.fmi_calls.specs.declared.phase.InstanceState.{InstanceState}
use Rattle.fmi_calls.specs.declared.phase.InstanceState.TheVariants.{Fresh, Instantiated, Initialization, Event, Step, Terminated, Dead, Lost, Gone}

abbrev pub same_state : InstanceState → InstanceState → Bool
same_state Fresh Fresh = true
same_state Instantiated Instantiated = true
same_state Initialization Initialization = true
same_state Event Event = true
same_state Step Step = true
same_state Terminated Terminated = true
same_state Dead Dead = true
same_state Lost Lost = true
same_state Gone Gone = true
same_state _ _ = false

-- the instance is dead or lost
abbrev pub is_over : InstanceState → Bool
is_over Dead = true
is_over Lost = true
is_over _ = false

-- a typed state and the phase's state agree, or the instance is dead or lost
abbrev pub agrees : InstanceState → InstanceState → Bool
agrees mode state = same_state state mode || is_over state

-- the Instantiate that a shape's flags ask for, with batches where the link has version 2
abbrev pub instantiate_of : ℕ → Shape → Call
instantiate_of link shape =
    C.Instantiate shape.has_event_mode shape.might_return_early (link == 2)
