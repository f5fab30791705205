-- What a peer is, and what it tells.
use Rattle.std.specs.Prelude.{◌≡◌, ℕ, ◌≤◌, ◌^◌, List, [], ◌∷◌, ◌++◌, length, Bool, true, false, Option, Some, None, IsSome, IfSome, option_map, Result, Ok, Err}
use Rattle.std.specs.Result.{result_ok}
use Rattle.sim_base.specs.Causes.{HasCause}
use Rattle.value_types.specs.declared.shape.Shape.{Shape}
use Rattle.fmi_calls.specs.declared.call.Call.{Call}
use Rattle.fmi_calls.specs.declared.call.Call.TheVariants as C
use Rattle.fmi_calls.specs.declared.call.Content.TheVariants.{Serialize}
use Rattle.fmi_calls.specs.declared.call.Reply.{Reply}
use Rattle.fmi_calls.specs.declared.call.Reply.TheVariants.{Done}
use Rattle.fmi_calls.specs.declared.phase.Phase.{Phase}
use Rattle.fmi_calls.specs.Next.{next_of}
use Rattle.fmu_peer.specs.declared.peer.PeerFault.{PeerFault}
use Rattle.fmu_peer.specs.declared.peer.Exchange.{Exchange}
use Rattle.fmu_peer.specs.Talk as T
use Rattle.fmu_peer.specs.Talk.{Legal, phase_after}
use Rattle.fmu_peer.specs.Machine.{IsInPhase, Machine, MachineState, after, bytes_after_reply, taken_in}

-- what a peer was started with, beside its shape
pub record Origin : Type 0 where
  pub host : List ℕ
  pub name : List ℕ
  pub directory : List ℕ

-- what stays through a peer's life; origin and machine where it tells them
pub record Fixed : Type 0 where
  pub shape : Shape
  pub origin : Option Origin
  pub machine : Option Machine

-- what stays, and what changes: the phase, the talk where it is told, the machine's state where it is told, and the count of faults
pub record View : Type 0 where
  pub fixed : Fixed
  pub phase : Phase
  pub talk : Option (List Exchange)
  pub state : Option MachineState
  pub faults : ℕ

-- the talk once an exchange is added
abbrev pub talked : Option (List Exchange) → Call → Result Reply PeerFault → Option (List Exchange)
talked None call result = None
talked (Some es) call result = Some (es ++ record { call = call; result = result } ∷ [])

-- where a machine is told, the reply is its look and its state goes on; after a fault it tells some state
abbrev pub AnswersAs : Option Machine → Option MachineState → Call → Result Reply PeerFault →
    Option MachineState → Type 0
AnswersAs (Some m) (Some s) call (Ok reply) new =
    (reply ≡ m.look s call) × (new ≡ Some (after m s call))
AnswersAs (Some m) (Some s) call (Err fault) new = IsSome new
AnswersAs (Some m) None call result new = new ≡ None
AnswersAs None old call result new = new ≡ None

-- the peer was asked this call alone, with this result
pub record Asked (old : View) (call : Call) (result : Result Reply PeerFault)
    (new : View) : Type 0 where
  pub fixed : new.fixed ≡ old.fixed
  pub phase : new.phase ≡ next_of old.fixed.shape old.phase call (result_ok result)
  pub talk : new.talk ≡ talked old.talk call result
  pub state : AnswersAs old.fixed.machine old.state call result new.state
  pub cause : HasCause old.faults new.faults result

-- ---- states as bytes

-- the bytes of a state follow the call, or its reply
abbrev pub carries_bytes : Call → Bool
carries_bytes C.Serialize = true
carries_bytes (C.Deserialize length point stop) = true
carries_bytes _ = false

-- where a machine is told, a reply that tells of a state is followed by the bytes of the one in its slot
abbrev pub ArePacked : Option Machine → Option MachineState → Reply → List ℕ → Type 0
ArePacked (Some m) (Some s) (Done is_warning (Serialize length)) bytes =
    option_map m.packing.pack s.slot ≡ Some bytes
ArePacked machine state reply bytes = Unit {0}

-- the reply to Serialize is followed by these bytes: as many as it tells of, at most 2^20
pub record IsFollowedBy (old : View) (reply : Reply) (bytes : List ℕ) : Type 0 where
  pub count : length bytes ≡ bytes_after_reply reply
  pub few : length bytes ≤ 2 ^ 20
  pub packed : ArePacked old.fixed.machine old.state reply bytes

abbrev pub Serializes : View → Result Reply PeerFault → List ℕ → Type 0
Serializes old (Ok reply) bytes = IsFollowedBy old reply bytes
Serializes old (Err fault) bytes = Unit {0}

-- the call is a Deserialize of so many bytes
abbrev pub IsDeserialize : Call → ℕ → Type 0
IsDeserialize (C.Deserialize length point stop) count = length ≡ count
IsDeserialize call count = ⊥

-- where a machine is told, the reply is its look at the bytes, and its slot has what they are read back as; after a fault it tells some state
abbrev pub TakesIn : Option Machine → Option MachineState → Call → List ℕ →
    Result Reply PeerFault → Option MachineState → Type 0
TakesIn (Some m) (Some s) call bytes (Ok reply) new =
    (reply ≡ m.look_at s call bytes) × (new ≡ Some (taken_in m s bytes))
TakesIn (Some m) (Some s) call bytes (Err fault) new = IsSome new
TakesIn (Some m) None call bytes result new = new ≡ None
TakesIn None old call bytes result new = new ≡ None

-- the peer was asked this Deserialize alone, with these bytes and this result
pub record AskedWith (old : View) (call : Call) (bytes : List ℕ) (result : Result Reply PeerFault)
    (new : View) : Type 0 where
  pub fixed : new.fixed ≡ old.fixed
  pub phase : new.phase ≡ next_of old.fixed.shape old.phase call (result_ok result)
  pub talk : new.talk ≡ talked old.talk call result
  pub state : TakesIn old.fixed.machine old.state call bytes result new.state
  pub cause : HasCause old.faults new.faults result

-- what a peer is and tells, but for its machine: so far a Deserialize is asked like any call
abbrev pub without_machine : View → View
without_machine v = record v { fixed = record v.fixed { machine = None }; state = None }

-- ---- what each peer keeps to

-- a told talk is legal, and leads to the phase
abbrev pub IsLegal : View → Type 0
IsLegal v = IfSome v.talk (λ es. Legal v.fixed.shape es × (v.phase ≡ phase_after v.fixed.shape es))

-- each reply of a told talk is good
abbrev pub AllGood : View → Type 0
AllGood v = IfSome v.talk (T.AllGood v.fixed.shape)

-- where a machine is told, so is its state, which is one of an instance in this phase
abbrev pub IsToldInPhase : Option Machine → Option MachineState → Phase → Type 0
IsToldInPhase (Some m) (Some s) phase = IsInPhase m phase s
IsToldInPhase (Some m) None phase = ⊥
IsToldInPhase None state phase = Unit {0}

abbrev pub TellsItsPhase : View → Type 0
TellsItsPhase v = IsToldInPhase v.fixed.machine v.state v.phase
