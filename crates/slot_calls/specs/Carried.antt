-- What answers carry: values of outputs, and whether the FMU asks for the end (FMI 3.0, 2.2.7: getting variables; 4.2.1.2: terminateSimulation of fmi3DoStep).
use Rattle.std.specs.Prelude.{ℤ, Bool, false, List, map, Option, Some, None, Result, Ok, Err, IfSome, FitsSigned}
use Rattle.std.specs.Int.{w128}
use Rattle.std.specs.List.{list_any}
use Rattle.std.specs.Result.{result_ok}
use Rattle.fmi_calls.specs.declared.call.Call.{Call}
use Rattle.fmi_calls.specs.declared.call.Call.TheVariants as C
use Rattle.fmi_calls.specs.declared.call.Reply.{Reply}
use Rattle.fmu_peer.specs.declared.peer.Exchange.{Exchange}
use Rattle.fmu_peer.specs.declared.peer.PeerFault.{PeerFault}
use Rattle.system_model.specs.declared.system.Port.{Port}
use Rattle.run_model.specs.Equations.{value_in}
use Rattle.run_model.specs.Stepping.{is_terminating}
use Rattle.slot_calls.specs.Log.{Sent, ComponentCall}

-- ---- values

abbrev pub get_of : Port → Call
get_of port = C.Get port.kind port.reference

-- the Get of each port, in port order
abbrev pub gets : List Port → List ComponentCall
gets ports =
    map (λ (port : Port). record { component = port.component.0; call = get_of port }) ports

abbrev pub value_by : Call → Result Reply PeerFault → Option ℤ
value_by (C.Get kind reference) (Ok reply) = value_in kind reply
value_by call result = None

-- the value that the answer to a Get carries
abbrev pub value_of : Exchange → Option ℤ
value_of e = value_by e.call e.result

abbrev pub values_of : List Sent → List (Option ℤ)
values_of log = map (λ (s : Sent). value_of s.exchange) log

-- a value of at most 128 bits, or none
abbrev pub IsWide : Option ℤ → Type 0
IsWide value = IfSome value (FitsSigned w128)

-- ---- replies

-- the reply, but for a fault in its place
abbrev pub reply_in : Exchange → Option Reply
reply_in e = result_ok e.result

-- a result whose good value is there for sure
abbrev pub with_some : {A E : Type 0} → Result A E → Result (Option A) E
with_some (Ok a) = Ok (Some a)
with_some (Err e) = Err e

-- ---- the end

abbrev pub ends_by : Result Reply PeerFault → Bool
ends_by (Ok reply) = is_terminating reply
ends_by (Err fault) = false

-- the answer asks for the end of the run
abbrev pub asks_to_end : Exchange → Bool
asks_to_end e = ends_by e.result

-- one of the answers does
abbrev pub any_asks_to_end : List Sent → Bool
any_asks_to_end log = list_any (λ (s : Sent). asks_to_end s.exchange) log
