-- What a peer that keeps its exchanges in a book tells after a call.
use Rattle.std.proofs.Common.{◌≡◌, ℕ, List, [], ◌∷◌, ◌++◌, Option, Some, None, Result, Ok, Err, Bool, true, false, if◌then◌else◌, refl, sym, ap, ◌∙◌, subst}
use Rattle.std.specs.Prelude.{option_map}
use Rattle.std.specs.Result.{result_ok}
use Rattle.value_types.specs.declared.shape.Shape.{Shape}
use Rattle.fmi_calls.specs.Next.{next_of}
use Rattle.fmi_calls.specs.Permission.{Permitted}
use Rattle.fmi_calls.specs.declared.call.Call.{Call}
use Rattle.fmi_calls.specs.declared.phase.Phase.{Phase}
use Rattle.fmi_calls.specs.declared.call.Reply.{Reply}
use Rattle.fmu_peer.specs.declared.peer.PeerFault.{PeerFault}
use Rattle.fmu_peer.specs.declared.talk_room.TalkRoom.{TalkRoom}
use Rattle.fmu_peer.specs.Machine.{IsInPhase, IsMachineOf, Machine, MachineState, UnpacksWell, after, taken_in}
use Rattle.fmu_peer.proofs.CallerLemmas.{in_phase_after, in_phase_lost, in_phase_taken_in}
use Rattle.fmu_peer.specs.View.{AnswersAs, IsDeserialize, IsFollowedBy, Serializes, TakesIn, View, talked}
use Rattle.bench_fmus.specs.Told.{talk_in}

-- a book's talk goes on as a told talk does
pub talk_goes_on : (old new : Option TalkRoom) (call : Call) (result : Result Reply PeerFault) →
    option_map (λ (t : TalkRoom). t.exchanges.items) new ≡ option_map (λ (t : TalkRoom). t.exchanges.items ++ record { call = call; result = result } ∷ []) old →
    talk_in new ≡ talked (talk_in old) call result
talk_goes_on None new call result is = is
talk_goes_on (Some t) new call result is = is

-- what a machine answers, or a fault in its place, is the machine's
pub answers_as : (m : Machine) (s t : MachineState) (call : Call) (reply : Reply) (fills : Bool) (fault : PeerFault) (result : Result Reply PeerFault) →
    reply ≡ m.look s call → t ≡ after m s call → result ≡ (if fills then Err fault else Ok reply) →
    AnswersAs (Some m) (Some s) call result (Some t)
answers_as m s t call reply true fault result reply_is state_is result_is =
    subst (λ (r : Result Reply PeerFault). AnswersAs (Some m) (Some s) call r (Some t)) (sym result_is) refl
answers_as m s t call reply false fault result reply_is state_is result_is =
    subst (λ (r : Result Reply PeerFault). AnswersAs (Some m) (Some s) call r (Some t)) (sym result_is) (reply_is, ap (λ (u : MachineState). Some u) state_is)

-- what it answers to bytes, or a fault in its place, is the machine's
pub takes_in : (m : Machine) (s t : MachineState) (call : Call) (bytes : List ℕ) (reply : Reply) (fills : Bool) (fault : PeerFault) (result : Result Reply PeerFault) →
    reply ≡ m.look_at s call bytes → t ≡ taken_in m s bytes → result ≡ (if fills then Err fault else Ok reply) →
    TakesIn (Some m) (Some s) call bytes result (Some t)
takes_in m s t call bytes reply true fault result reply_is state_is result_is =
    subst (λ (r : Result Reply PeerFault). TakesIn (Some m) (Some s) call bytes r (Some t)) (sym result_is) refl
takes_in m s t call bytes reply false fault result reply_is state_is result_is =
    subst (λ (r : Result Reply PeerFault). TakesIn (Some m) (Some s) call bytes r (Some t)) (sym result_is) (reply_is, ap (λ (u : MachineState). Some u) state_is)

-- its state is one of an instance in the phase that a book goes on to
pub in_phase_kept : (shape : Shape) (m : Machine) (phase next : Phase) (s t : MachineState) (call : Call) (reply : Reply) (fills : Bool) (fault : PeerFault) (result : Result Reply PeerFault) →
    IsMachineOf shape m → Permitted shape phase call → IsInPhase m phase s → reply ≡ m.look s call → t ≡ after m s call → result ≡ (if fills then Err fault else Ok reply) →
    next ≡ next_of shape phase call (result_ok result) → IsInPhase m next t
in_phase_kept shape m phase next s t call reply true fault result is may old reply_is state_is result_is next_is =
    subst (λ (p : Phase). IsInPhase m p t) (sym (next_is ∙ ap (λ (r : Result Reply PeerFault). next_of shape phase call (result_ok r)) result_is)) (in_phase_lost shape m phase call t)
in_phase_kept shape m phase next s t call reply false fault result is may old reply_is state_is result_is next_is =
    subst (λ (p : Phase). IsInPhase m p t) (sym (next_is ∙ ap (λ (r : Result Reply PeerFault). next_of shape phase call (result_ok r)) result_is ∙ ap (λ (r : Reply). next_of shape phase call (Some r)) reply_is))
    (subst (λ (u : MachineState). IsInPhase m (next_of shape phase call (Some (m.look s call))) u) (sym state_is) (in_phase_after shape m is phase s old call may))

-- so it is after bytes that it takes in
pub in_phase_taken : (shape : Shape) (m : Machine) (phase next : Phase) (s t : MachineState) (call : Call) (count : ℕ) (bytes : List ℕ) (reply : Reply) (fills : Bool) (fault : PeerFault) (result : Result Reply PeerFault) →
    IsMachineOf shape m → UnpacksWell m → IsDeserialize call count → Permitted shape phase call → IsInPhase m phase s → t ≡ taken_in m s bytes → result ≡ (if fills then Err fault else Ok reply) →
    next ≡ next_of shape phase call (result_ok result) → IsInPhase m next t
in_phase_taken shape m phase next s t call count bytes reply true fault result is unpacks takes may old state_is result_is next_is =
    subst (λ (p : Phase). IsInPhase m p t) (sym (next_is ∙ ap (λ (r : Result Reply PeerFault). next_of shape phase call (result_ok r)) result_is)) (in_phase_lost shape m phase call t)
in_phase_taken shape m phase next s t call count bytes reply false fault result is unpacks takes may old state_is result_is next_is =
    subst (λ (p : Phase). IsInPhase m p t) (sym (next_is ∙ ap (λ (r : Result Reply PeerFault). next_of shape phase call (result_ok r)) result_is))
    (subst (λ (u : MachineState). IsInPhase m (next_of shape phase call (Some reply)) u) (sym state_is) (in_phase_taken_in shape m is phase s old unpacks call count bytes reply takes may))

-- ---- bytes after a reply to Serialize

-- where the answer is kept, its bytes are those that it tells of
pub serializes_by : (view : View) (reply : Reply) (bytes : List ℕ) (fills : Bool) (fault : PeerFault) (result : Result Reply PeerFault) →
    IsFollowedBy view reply bytes → result ≡ (if fills then Err fault else Ok reply) → Serializes view result bytes
serializes_by view reply bytes true fault result followed is = subst (λ (r : Result Reply PeerFault). Serializes view r bytes) (sym is) tt
serializes_by view reply bytes false fault result followed is = subst (λ (r : Result Reply PeerFault). Serializes view r bytes) (sym is) followed
