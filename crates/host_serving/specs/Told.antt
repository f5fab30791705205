-- What told bytes come to where the FMU is told as a function of its state (FMI 3.0, 2.2.6: FMU state; 4.2: the functions of Co-Simulation; 4.2.1: which of them are permitted).
use Rattle.std.specs.Prelude.{◌≡◌, ◌≢◌, ◌⊎◌, ℕ, ◌+◌, ◌-◌, ◌^◌, ◌<◌, List, [], ◌∷◌, ◌++◌, length, Some}
use Rattle.sim_base.specs.Sink.{SinkView, with_piece}
use Rattle.value_types.specs.declared.shape.Shape.{Shape}
use Rattle.fmi_calls.specs.Next.{next_of}
use Rattle.fmi_calls.specs.Permission.{Permitted}
use Rattle.fmi_calls.specs.declared.call.Call.{Call}
use Rattle.fmi_calls.specs.declared.call.Call.TheVariants as C
use Rattle.fmi_calls.specs.declared.call.Reply.{Reply}
use Rattle.fmi_calls.specs.declared.phase.Phase.{Phase}
use Rattle.link_frames.specs.Call.{IsCallFrame}
use Rattle.link_frames.specs.Reply.{frame_of}
use Rattle.exact_parts.specs.Taking.{Breaks, IsPrefix}
use Rattle.link_frames.specs.declared.call.CallFrame.{CallFrame}
use Rattle.fmu_peer.specs.Machine.{Machine, MachineState, after, bytes_after_reply, taken_in}
use Rattle.fmu_peer.specs.View.{ArePacked}
use Rattle.host_serving.specs.declared.serving.ServeEnd.{ServeEnd}
use Rattle.host_serving.specs.declared.serving.ServeEnd.TheVariants as E
use Rattle.fmi_calls.specs.Worth.{grade_of}
use Rattle.fmi_calls.specs.declared.call.Grade.TheVariants as G
use Rattle.link_frames.specs.Batch.{batch_head}
use Rattle.link_frames.specs.Head.{spelling}
use Rattle.host_serving.specs.Frames.{IsBatchOfCalls, IsLinkFrame, bytes_after}
use Rattle.host_serving.specs.Serving.{Scene, as_sent}

-- ---- what a machine answers

-- its reply to the call with the bytes that follow it
abbrev pub reply_to : Machine → MachineState → Call → List ℕ → Reply
reply_to m s (C.Deserialize length point stop) taken =
    m.look_at s (C.Deserialize length point stop) taken
reply_to m s call taken = m.look s call

-- the state that it is in after that
abbrev pub leads_to : Machine → MachineState → Call → List ℕ → MachineState
leads_to m s (C.Deserialize length point stop) taken = taken_in m s taken
leads_to m s call taken = after m s call

-- these bytes follow its reply: those of the state in its slot, where the reply to a Serialize tells of it
abbrev pub Gives : Machine → MachineState → Call → List ℕ → Type 0
Gives m s C.Serialize given =
    (length given ≡ bytes_after_reply (m.look s C.Serialize)) ×
    ArePacked (Some m) (Some s) (m.look s C.Serialize) given
Gives m s call given = given ≡ []

-- the piece of the bytes that follow a frame, where there are some
abbrev pub state_pieces : List ℕ → List (List ℕ)
state_pieces [] = []
state_pieces (byte ∷ bytes) = (byte ∷ bytes) ∷ []

-- ---- what the bytes ask for

-- the bytes begin with the frame of this call, and these follow
pub record StartsWith (bytes : List ℕ) (call : Call) (rest : List ℕ) : Type 0 where
  pub frame : CallFrame
  pub prefix : List ℕ
  pub spelled : IsCallFrame frame prefix
  pub is : frame.call ≡ call
  pub both : bytes ≡ prefix ++ rest

-- the bytes begin with the batch of these calls, and these follow
pub record StartsWithBatch (bytes : List ℕ) (calls : List Call) (rest : List ℕ) : Type 0 where
  pub prefix : List ℕ
  pub batch : IsBatchOfCalls calls prefix
  pub both : bytes ≡ prefix ++ rest

-- the calls of a batch, from a phase and a state of the machine on, with the replies up to the first that isn't good, and the phase and the state after them
pub data ItemsCome (shape : Shape) (m : Machine) : Phase → MachineState → List Call → List Reply →
    Phase → MachineState → Type 0 where
  Through : (phase : Phase) (s : MachineState) → ItemsCome shape m phase s [] [] phase s
  Bad : (phase : Phase) (s : MachineState) (call : Call) (left : List Call) →
      Permitted shape phase call → (grade_of shape call (m.look s call) ≡ G.Good → ⊥) →
      ItemsCome shape m phase s (call ∷ left) (m.look s call ∷ [])
      (next_of shape phase call (Some (m.look s call))) (after m s call)
  Good : (phase q : Phase) (s z : MachineState) (call : Call) (left : List Call)
      (replies : List Reply) → Permitted shape phase call →
      grade_of shape call (m.look s call) ≡ G.Good →
      ItemsCome shape m (next_of shape phase call (Some (m.look s call))) (after m s call) left replies q z →
      ItemsCome shape m phase s (call ∷ left) (m.look s call ∷ replies) q z

-- after good replies this call of a batch isn't permitted
pub data ItemForbidden (shape : Shape) (m : Machine) (call : Call) : Phase → MachineState →
    List Call → Type 0 where
  Now : (phase : Phase) (s : MachineState) (left : List Call) →
      (Permitted shape phase call → ⊥) → ItemForbidden shape m call phase s (call ∷ left)
  Later : (phase : Phase) (s : MachineState) (first : Call) (left : List Call) →
      Permitted shape phase first → grade_of shape first (m.look s first) ≡ G.Good →
      ItemForbidden shape m call (next_of shape phase first (Some (m.look s first))) (after m s first) left →
      ItemForbidden shape m call phase s (first ∷ left)

-- the bytes of a batch of replies
abbrev pub frames_of : List Reply → List ℕ
frames_of [] = []
frames_of (reply ∷ replies) = frame_of reply ++ frames_of replies

abbrev pub batch_of : List Reply → List ℕ
batch_of replies = spelling (batch_head (length replies)) ++ frames_of replies

-- in this phase and this state of the machine the bytes come to these pieces, one for each frame that is served and one for each state that is given, for so many calls, and to this end: no byte is left; or one of them is the first that continues no frame; or they end inside a frame, or inside what follows it; or the next call isn't permitted, or one of the next batch; or it is FreeInstance, whatever follows; or it is another, or a batch, and what follows comes to the other pieces and to the end
pub data Comes (shape : Shape) (m : Machine) : Phase → MachineState → List ℕ → List (List ℕ) → ℕ →
    ServeEnd → Type 0 where
  Over : (phase : Phase) (s : MachineState) → Comes shape m phase s [] [] 0 E.Ended
  NoFrame : (phase : Phase) (s : MachineState) (bytes : List ℕ) (at : ℕ) →
      Breaks IsLinkFrame bytes at → Comes shape m phase s bytes [] 0 (E.BadFrame at)
  CutFrame : (phase : Phase) (s : MachineState) (bytes : List ℕ) → 0 < length bytes →
      IsPrefix IsLinkFrame bytes → Comes shape m phase s bytes [] 0 (E.BadFrame (length bytes))
  CutState : (phase : Phase) (s : MachineState) (bytes rest : List ℕ) (call : Call) →
      StartsWith bytes call rest → Permitted shape phase call → length rest < bytes_after call →
      Comes shape m phase s bytes [] 0 (E.BadFrame (24 + length rest))
  Forbidden : (phase : Phase) (s : MachineState) (bytes rest : List ℕ) (call : Call) →
      StartsWith bytes call rest →
      (Permitted shape phase call → ⊥) → Comes shape m phase s bytes [] 0 (E.NotPermitted call)
  ForbiddenItem : (phase : Phase) (s : MachineState) (bytes rest : List ℕ) (calls : List Call)
      (call : Call) → StartsWithBatch bytes calls rest → ItemForbidden shape m call phase s calls →
      Comes shape m phase s bytes [] 0 (E.NotPermitted call)
  Last : (phase : Phase) (s : MachineState) (bytes rest : List ℕ) (call : Call) →
      StartsWith bytes call rest → Permitted shape phase call → call ≡ C.FreeInstance →
      Comes shape m phase s bytes (frame_of (as_sent call (m.look s call)) ∷ []) 1 E.Freed
  Next : (phase : Phase) (s : MachineState) (bytes rest : List ℕ) (call : Call)
      (taken given more : List ℕ) (pieces : List (List ℕ)) (count : ℕ) (end : ServeEnd) →
      StartsWith bytes call rest → Permitted shape phase call → call ≢ C.FreeInstance →
      rest ≡ taken ++ more → length taken ≡ bytes_after call → Gives m s call given →
      Comes shape m (next_of shape phase call (Some (reply_to m s call taken)))
      (leads_to m s call taken) more pieces count end →
      Comes shape m phase s bytes (frame_of (as_sent call (reply_to m s call taken)) ∷
      (state_pieces given ++ pieces)) (1 + count) end
  NextBatch : (phase q : Phase) (s z : MachineState) (bytes rest : List ℕ) (calls : List Call)
      (replies : List Reply) (pieces : List (List ℕ)) (count : ℕ) (end : ServeEnd) →
      StartsWithBatch bytes calls rest → ItemsCome shape m phase s calls replies q z →
      Comes shape m q z rest pieces count end →
      Comes shape m phase s bytes (batch_of replies ∷ pieces) (length replies + count) end

-- the FMU is told as a machine with its state, and so are the bytes of the input, which come to these pieces and this end
pub record Tells (old : Scene) (pieces : List (List ℕ)) (count : ℕ) (end : ServeEnd) : Type 0 where
  pub machine : Machine
  pub state : MachineState
  pub bytes : List ℕ
  pub is_machine : old.machine.fixed.machine ≡ Some machine
  pub in_state : old.machine.state ≡ Some state
  pub has : old.input.left ≡ Some bytes
  pub comes : Comes old.machine.fixed.shape machine old.machine.phase state bytes pieces count end

-- ---- what is done with them

-- these pieces were put, one after another
abbrev pub with_pieces : SinkView → List (List ℕ) → SinkView
with_pieces view [] = view
with_pieces view (piece ∷ pieces) = with_pieces (with_piece view piece) pieces

-- these pieces were put, and this end was answered
pub record KeepsTo (old new : Scene) (result : ServeEnd) (pieces : List (List ℕ))
    (end : ServeEnd) : Type 0 where
  pub ends : result ≡ end
  pub output : new.output ≡ with_pieces old.output pieces

-- or a take, a put or a call failed, or memory ran out
abbrev pub MayKeepTo : Scene → Scene → ServeEnd → List (List ℕ) → ServeEnd → Type 0
MayKeepTo old new result pieces end =
    KeepsTo old new result pieces end ⊎ ((result ≡ E.Failed) ⊎ (result ≡ E.Memory))

-- what is told decides: the pieces, where their calls are fewer than are counted, and the end
abbrev pub ServesAsTold : Scene → Scene → ServeEnd → Type 0
ServesAsTold old new result =
    (pieces : List (List ℕ)) (count : ℕ) (end : ServeEnd) → Tells old pieces count end →
    count < 2 ^ 64 - 1 → MayKeepTo old new result pieces end
