-- The closing of an instance (FMI 3.0, 4.2.1: fmi3Terminate, fmi3FreeInstance; 2.2.6: fmi3FreeFMUState; 2.2.3: Fatal).
use Rattle.std.specs.Prelude.{◌≡◌, ◌⊎◌, Bool, true, false, not, ◌||◌, if◌then◌else◌, List, [], ◌∷◌, Result, Ok, Err}
use Rattle.std.specs.List.{list_any}
use Rattle.value_types.specs.declared.shape.Shape.{Shape}
use Rattle.fmi_calls.specs.declared.call.Call.{Call}
use Rattle.fmi_calls.specs.declared.call.Call.TheVariants as C
use Rattle.fmi_calls.specs.declared.call.Reply.{Reply}
use Rattle.fmi_calls.specs.declared.call.BadStatus.{BadStatus}
use Rattle.fmi_calls.specs.declared.call.BadStatus.TheVariants.{Discard, Error, Fatal}
use Rattle.fmi_calls.specs.declared.call.Grade.{Grade}
use Rattle.fmi_calls.specs.declared.call.Grade.TheVariants.{Good, Refused, Misreply}
use Rattle.fmi_calls.specs.declared.phase.Phase.{Phase}
use Rattle.fmi_calls.specs.Kinds.{bad_status_of}
use Rattle.fmi_calls.specs.Permission.{Permitted}
use Rattle.fmi_calls.specs.Worth.{grade_of}
use Rattle.fmu_peer.specs.declared.peer.Exchange.{Exchange}
use Rattle.fmu_peer.specs.declared.peer.PeerFault.{PeerFault}
use Rattle.fmu_peer.specs.Mode.{is_over}
use Rattle.fmu_peer.specs.View.{View, Asked}

-- an instance can be closed with no saved state, but where it is dead or lost, or is to be sent nothing
abbrev pub can_be_closed : Phase → Bool → Bool
can_be_closed phase silent = silent || (not phase.slot.is_full || is_over phase.state)

-- ---- what is sent

-- what closes an instance: a state that is still held saved is freed, then the instance is terminated, and freed
abbrev pub closing_calls : Bool → List Call
closing_calls true = C.Free ∷ C.Terminate ∷ C.FreeInstance ∷ []
closing_calls false = C.Terminate ∷ C.FreeInstance ∷ []

-- these calls are sent in their order, each where it is permitted when its turn comes, and nothing else
abbrev pub SendsInTurn : List Call → View → List Exchange → View → Type 0
SendsInTurn [] old sent new = (sent ≡ []) × (new ≡ old)
SendsInTurn (c ∷ cs) old sent new =
    (Permitted old.fixed.shape old.phase c ×
    ((result : Result Reply PeerFault) × (rest : List Exchange) × (mid : View)
    × (sent ≡ record { call = c; result = result } ∷ rest) × Asked old c result mid ×
    SendsInTurn cs mid rest new))
    ⊎ ((Permitted old.fixed.shape old.phase c → ⊥) × SendsInTurn cs old sent new)

-- the instance is closed, or is sent nothing
abbrev pub IsClosed : Bool → View → View → Type 0
IsClosed silent old new =
    (sent : List Exchange) × SendsInTurn (if silent then [] else closing_calls false) old sent new

-- ---- Fatal

abbrev pub is_fatal_status : BadStatus → Bool
is_fatal_status Discard = false
is_fatal_status Error = false
is_fatal_status Fatal = true

abbrev pub is_fatal_reply : Grade → Reply → Bool
is_fatal_reply Good reply = false
is_fatal_reply Refused reply = is_fatal_status (bad_status_of reply)
is_fatal_reply Misreply reply = false

-- the answer is a refusal with Fatal
abbrev pub is_fatal_answer : Shape → Call → Result Reply PeerFault → Bool
is_fatal_answer shape call (Ok reply) = is_fatal_reply (grade_of shape call reply) reply
is_fatal_answer shape call (Err fault) = false

-- one of the exchanges was refused with Fatal
abbrev pub any_fatal : Shape → List Exchange → Bool
any_fatal shape es = list_any (λ (e : Exchange). is_fatal_answer shape e.call e.result) es

-- the calls were sent in turn, and this tells whether one was refused with Fatal
pub record ClosesWith (calls : List Call) (old : View) (fatal : Bool) (new : View) : Type 0 where
  pub sent : List Exchange
  pub turn : SendsInTurn calls old sent new
  pub fatal_is : fatal ≡ any_fatal old.fixed.shape sent
