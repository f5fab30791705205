-- A call over a wire: its frame is sent, and the 24 bytes that come are its reply, where they are a reply frame.
use Rattle.std.specs.Prelude.{◌≡◌, ◌⊎◌, ℕ, ◌<◌, List, ◌++◌, length, Result, Ok, Err}
use Rattle.sim_base.specs.Causes.{one_more}
use Rattle.fmi_calls.specs.declared.call.Call.{Call}
use Rattle.fmi_calls.specs.declared.call.Call.TheVariants as C
use Rattle.fmi_calls.specs.declared.call.Reply.{Reply}
use Rattle.fmu_peer.specs.Machine.{bytes_after_reply}
use Rattle.fmu_peer.specs.declared.peer.PeerFault.{PeerFault}
use Rattle.fmu_peer.specs.declared.peer.PeerFault.TheVariants as P
use Rattle.link_frames.specs.Call.{IsFrameOf}
use Rattle.link_frames.specs.Reply.{IsReplyFrame}
use Rattle.fmu_link.specs.declared.wire.WireFault.{WireFault}
use Rattle.fmu_link.specs.declared.wire.WireFault.TheVariants.{Failed, Ended}
use Rattle.fmu_link.specs.Wire.{WireView, NotesSend, NotesReceive, with_prefix, with_sent}

-- they are the frame of no reply
abbrev pub IsNoReply : List ℕ → Type 0
IsNoReply bytes = (reply : Reply) → IsReplyFrame reply bytes → ⊥

-- what the bytes that came say
abbrev pub Says : List ℕ → Result Reply PeerFault → Type 0
Says bytes (Ok reply) = IsReplyFrame reply bytes
Says bytes (Err (P.Garbled garbled)) = (garbled ≡ bytes) × IsNoReply bytes
Says bytes (Err P.Failed) = ⊥

-- the wire took all of the frame, and these 24 bytes came
pub record Arrives (old : WireView) (frame bytes : List ℕ) (new : WireView) : Type 0 where
  pub whole : length bytes ≡ 24
  pub noted : with_sent old frame ≡ with_prefix bytes new

-- the wire failed while it was sent the frame, or it took the frame, and failed or ended before 24 bytes came
abbrev pub Breaks : WireView → List ℕ → WireFault → WireView → Type 0
Breaks old frame fault new =
    NotesSend {T = Unit {0}} old new frame (Err fault)
    ⊎ ((room : List ℕ) × (length room ≡ 24) ×
    NotesReceive {T = Unit {0}} (with_sent old frame) new room (Err fault))

-- what a wire tells, and how many replies were garbled or cut
pub record LineView : Type 0 where
  pub wire : WireView
  pub bad_replies : ℕ

-- a reply that is cut, as one that is garbled, is counted here, and a failure of the wire by the wire
abbrev pub bad_after : ℕ → WireFault → ℕ
bad_after bad_replies Failed = bad_replies
bad_after bad_replies Ended = one_more bad_replies

-- what a call with this frame makes of it
abbrev pub NotesCall : LineView → LineView → List ℕ → Result Reply PeerFault → Type 0
NotesCall old new frame (Ok reply) =
    (bytes : List ℕ) × Arrives old.wire frame bytes new.wire × IsReplyFrame reply bytes ×
    (new.bad_replies ≡ old.bad_replies)
NotesCall old new frame (Err (P.Garbled bytes)) =
    Arrives old.wire frame bytes new.wire × IsNoReply bytes ×
    (new.bad_replies ≡ one_more old.bad_replies)
NotesCall old new frame (Err P.Failed) =
    (fault : WireFault) × Breaks old.wire frame fault new.wire ×
    (new.bad_replies ≡ bad_after old.bad_replies fault)

-- the frame of the call, with the texts of Instantiate, was sent alone, and its reply awaited
pub record Exchanged (call : Call) (name token : List ℕ) (old new : LineView)
    (result : Result Reply PeerFault) : Type 0 where
  pub frame : List ℕ
  pub is_frame : IsFrameOf call name token frame
  pub noted : NotesCall old new frame result

-- ---- the bytes of a state

-- how many follow an answer
abbrev pub count_after : Result Reply PeerFault → ℕ
count_after (Ok reply) = bytes_after_reply reply
count_after (Err fault) = 0

-- as many bytes came as follow the answer: they are the state, and the answer is the result
pub record HearsState (old new : LineView) (answer result : Result Reply PeerFault)
    (state : List ℕ) : Type 0 where
  pub is : result ≡ answer
  pub whole : length state ≡ count_after answer
  pub came : old.wire ≡ with_prefix state new.wire
  pub counted : new.bad_replies ≡ old.bad_replies

-- the wire failed or ended before so many came
pub record LosesState (old new : LineView) (answer result : Result Reply PeerFault) : Type 0 where
  pub some : 0 < count_after answer
  pub fault : WireFault
  pub is : result ≡ Err P.Failed
  pub room : List ℕ
  pub awaited : length room ≡ count_after answer
  pub broke : NotesReceive {T = Unit {0}} old.wire new.wire room (Err fault)
  pub counted : new.bad_replies ≡ bad_after old.bad_replies fault

-- what a Serialize with this frame makes of the line: its reply came, and the state after it
pub record NotesSerialize (old new : LineView) (frame : List ℕ) (result : Result Reply PeerFault)
    (state : List ℕ) : Type 0 where
  pub answer : Result Reply PeerFault
  pub mid : LineView
  pub called : NotesCall old mid frame answer
  pub after : HearsState mid new answer result state ⊎ LosesState mid new answer result

-- the frame of a Serialize was sent alone, and its reply awaited, and as many bytes as follow that
pub record ExchangedState (name token : List ℕ) (old new : LineView)
    (result : Result Reply PeerFault) (state : List ℕ) : Type 0 where
  pub frame : List ℕ
  pub is_frame : IsFrameOf C.Serialize name token frame
  pub noted : NotesSerialize old new frame result state

-- the frame of the call was sent with these bytes after it, and its reply awaited
pub record ExchangedWith (call : Call) (state name token : List ℕ) (old new : LineView)
    (result : Result Reply PeerFault) : Type 0 where
  pub frame : List ℕ
  pub is_frame : IsFrameOf call name token frame
  pub noted : NotesCall old new (frame ++ state) result
