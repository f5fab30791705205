-- A talk is the list of exchanges with one instance. An exchange is a call with its reply, or with the fault in place of the reply.
use Rattle.std.specs.Prelude.{◌≡◌, ◌⊎◌, true, List, [], ◌∷◌, ◌++◌, map, All, MatchResult, Ok}
use Rattle.std.specs.Result.{result_ok}
use Rattle.value_types.specs.declared.shape.Shape.{Shape}
use Rattle.fmi_calls.specs.declared.call.Call.{Call}
use Rattle.fmi_calls.specs.declared.call.Call.TheVariants as C
use Rattle.fmi_calls.specs.declared.call.Reply.TheVariants as R
use Rattle.fmi_calls.specs.declared.call.Kind.TheVariants as K
use Rattle.fmi_calls.specs.declared.call.BadStatus.TheVariants as B
use Rattle.fmi_calls.specs.declared.call.Grade.TheVariants as G
use Rattle.fmi_calls.specs.declared.phase.Phase.{Phase}
use Rattle.fmi_calls.specs.declared.phase.InstanceState.TheVariants as P
use Rattle.fmi_calls.specs.Worth.{grade_of}
use Rattle.fmi_calls.specs.Permission.{Permitted, is_running}
use Rattle.fmi_calls.specs.Next.{next_of, fresh}
use Rattle.fmu_peer.specs.declared.peer.Exchange.{Exchange}

-- the calls of a talk
abbrev pub calls_in : List Exchange → List Call
calls_in es = map (λ (e : Exchange). e.call) es

-- the phase after an exchange
abbrev pub next_by : Shape → Phase → Exchange → Phase
next_by shape phase e = next_of shape phase e.call (result_ok e.result)

-- the phase after a talk, from a phase on
abbrev pub phase_from : Shape → Phase → List Exchange → Phase
phase_from shape phase [] = phase
phase_from shape phase (e ∷ es) = phase_from shape (next_by shape phase e) es

abbrev pub phase_after : Shape → List Exchange → Phase
phase_after shape talk = phase_from shape (fresh shape) talk

-- each call is permitted in the phase after the exchanges before it
abbrev pub LegalFrom : Shape → Phase → List Exchange → Type 0
LegalFrom shape phase [] = Unit {0}
LegalFrom shape phase (e ∷ es) =
    Permitted shape phase e.call × LegalFrom shape (next_by shape phase e) es

abbrev pub Legal : Shape → List Exchange → Type 0
Legal shape talk = LegalFrom shape (fresh shape) talk

-- the reply is good
abbrev pub IsGood : Shape → Exchange → Type 0
IsGood shape e = MatchResult e.result (λ reply. grade_of shape e.call reply ≡ G.Good) (λ fault. ⊥)

-- each reply is good
abbrev pub AllGood : Shape → List Exchange → Type 0
AllGood shape talk = All (IsGood shape) talk

-- from this phase on the talk ends with FreeInstance, which in Event Mode and in Step Mode stands right after a Terminate
pub record EndsFreed (shape : Shape) (phase : Phase) (talk : List Exchange) : Type 0 where
  pub prefix : List Exchange
  pub last : Exchange
  pub is : talk ≡ prefix ++ last ∷ []
  pub frees : last.call ≡ C.FreeInstance
  pub terminated : is_running (phase_from shape phase prefix).state ≡ true →
      (before : List Exchange) × (t : Exchange) × (prefix ≡ before ++ t ∷ []) ×
      (t.call ≡ C.Terminate)

-- the talk ends with a Free that was answered by Discard: the state that was saved is given up with the instance
pub record EndsKeeping (talk : List Exchange) : Type 0 where
  pub prefix : List Exchange
  pub last : Exchange
  pub is : talk ≡ prefix ++ last ∷ []
  pub frees : last.call ≡ C.Free
  pub discarded : last.result ≡ Ok (R.Refused K.Free B.Discard)

-- the first exchange is an Instantiate whose reply isn't good
pub record StartsBadly (shape : Shape) (talk : List Exchange) : Type 0 where
  pub first : Exchange
  pub rest : List Exchange
  pub is : talk ≡ first ∷ rest
  pub bad : IsGood shape first → ⊥

-- from this phase on: the instance was freed, or may be sent nothing more, or its saved state is given up with it
abbrev pub IsShut : Shape → Phase → List Exchange → Type 0
IsShut shape phase talk =
    ((phase_from shape phase talk).state ≡ P.Lost) ⊎ (EndsFreed shape phase talk ⊎ EndsKeeping talk)

-- the talk is over: there is no instance to free, or it is shut
abbrev pub Closed : Shape → List Exchange → Type 0
Closed shape talk = (talk ≡ []) ⊎ (StartsBadly shape talk ⊎ IsShut shape (fresh shape) talk)
