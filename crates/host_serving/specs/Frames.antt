-- What a source of call frames comes to, from one frame's first byte on.
use Rattle.std.specs.Prelude.{◌≡◌, ◌⊎◌, ℕ, ◌+◌, ◌*◌, ◌<◌, List, [], ◌∷◌, ◌++◌, length, map, slice_index, take, drop, ◌≤◌}
use Rattle.std.proofs.Common.{inl, inr}
use Rattle.std.specs.Io.KnownBytes.{Consumes, IsAtEnd}
use Rattle.sim_base.specs.Causes.{Rose}
use Rattle.sim_base.specs.Source.{SourceView}
use Rattle.fmi_calls.specs.Kinds.{kind_of}
use Rattle.fmi_calls.specs.declared.call.Call.{Call}
use Rattle.fmi_calls.specs.declared.call.Call.TheVariants as C
use Rattle.link_frames.specs.declared.call.CallFrame.{CallFrame}
use Rattle.link_frames.specs.Batch.{IsBatch, IsCallBatch}
use Rattle.link_frames.specs.Call.{IsCallFrame}
use Rattle.exact_parts.specs.Taking.{Breaks, IsPrefix}
use Rattle.host_serving.specs.declared.reading.NextFrame.{NextFrame}
use Rattle.host_serving.specs.declared.reading.NextFrame.TheVariants.{Came, Batch, AtEnd, Bad, Failed, Memory}
use Rattle.host_serving.specs.declared.state.NextState.{NextState}
use Rattle.host_serving.specs.declared.state.NextState.TheVariants as S

-- ---- frames of both kinds

-- a single call, or a batch of so many
abbrev pub IsLinkFrame : CallFrame ⊎ ℕ → List ℕ → Type 0
IsLinkFrame (inl frame) bytes = IsCallFrame frame bytes
IsLinkFrame (inr count) bytes = IsCallBatch count bytes

-- a batch of these calls, and its bytes
pub record IsBatchOfCalls (calls : List Call) (bytes : List ℕ) : Type 0 where
  pub frames : List CallFrame
  pub is : map (λ (frame : CallFrame). frame.call) frames ≡ calls
  pub batch : IsBatch IsCallFrame (λ (frame : CallFrame). kind_of frame.call) frames bytes

-- ---- what was taken

-- these bytes were taken, and no take failed
pub record Takes (old new : SourceView) (bytes : List ℕ) : Type 0 where
  pub taken : Consumes old.left new.left bytes
  pub quiet : new.faults ≡ old.faults

-- a whole frame of the call was taken, and no byte after it
pub record TakesCall (old new : SourceView) (call : Call) : Type 0 where
  pub frame : CallFrame
  pub bytes : List ℕ
  pub spelled : IsCallFrame frame bytes
  pub is : frame.call ≡ call
  pub takes : Takes old new bytes

-- a whole batch of so many calls was taken, which stand at the start of this room, and no byte after it
pub record TakesBatch (old new : SourceView) (room : List ℕ) (count : ℕ) : Type 0 where
  pub spelled : IsCallBatch count (take (24 * (count + 1)) room)
  pub takes : Takes old new (take (24 * (count + 1)) room)

-- the bytes end between two frames
pub record EndsBetween (old new : SourceView) : Type 0 where
  pub takes : Takes old new []
  pub at_end : IsAtEnd new.left

-- the byte at this place of what was taken is the first that continues no frame
pub record TakesBad (old new : SourceView) (at : ℕ) : Type 0 where
  pub bytes : List ℕ
  pub takes : Takes old new bytes
  pub breaks : Breaks IsLinkFrame bytes at

-- the bytes end inside a frame, of which so many are there
pub record EndsInside (old new : SourceView) (at : ℕ) : Type 0 where
  pub bytes : List ℕ
  pub takes : Takes old new bytes
  pub at_end : IsAtEnd new.left
  pub some : 0 < length bytes
  pub prefix : IsPrefix IsLinkFrame bytes
  pub at_is : at ≡ length bytes

-- no frame begins so
abbrev pub IsNoFrame : SourceView → SourceView → ℕ → Type 0
IsNoFrame old new at = TakesBad old new at ⊎ EndsInside old new at

-- the answer is right for what the source had; the calls of a batch stand in this room
abbrev pub ComesTo : SourceView → SourceView → List ℕ → NextFrame → Type 0
ComesTo old new room (Came call) = TakesCall old new call
ComesTo old new room (Batch count) = TakesBatch old new room count
ComesTo old new room AtEnd = EndsBetween old new
ComesTo old new room (Bad at) = IsNoFrame old new at
ComesTo old new room Failed = Rose old.faults new.faults
ComesTo old new room Memory = Unit {0}

-- ---- the bytes of a state

-- how many bytes follow the frame of a call: those of the state that Deserialize brings
abbrev pub bytes_after : Call → ℕ
bytes_after (C.Deserialize length point stop) = length
bytes_after call = 0

-- a whole frame of the call was taken, and then the bytes that follow it, and no byte after these
pub record TakesWhole (old new : SourceView) (call : Call) (state : List ℕ) : Type 0 where
  pub mid : SourceView
  pub frame : TakesCall old mid call
  pub follow : Takes mid new state
  pub all : length state ≡ bytes_after call

-- fewer bytes were to come, of which so many are gone
pub record EndsBefore (old new : SourceView) (wanted count : ℕ) : Type 0 where
  pub state : List ℕ
  pub takes : Takes old new state
  pub at_end : IsAtEnd new.left
  pub short : length state < wanted
  pub count_is : count ≡ length state

-- the bytes end inside those that follow the frame of the call, of which with its frame so many are there
pub record EndsInState (old new : SourceView) (call : Call) (at : ℕ) : Type 0 where
  pub mid : SourceView
  pub frame : TakesCall old mid call
  pub count : ℕ
  pub ends : EndsBefore mid new (bytes_after call) count
  pub at_is : at ≡ 24 + count

-- so many bytes are to be taken: they are the state; or the bytes end before; or a take failed
abbrev pub BringsState : SourceView → SourceView → ℕ → NextState → Type 0
BringsState old new wanted (S.Came state) =
    Takes old new state.items × (length state.items ≡ wanted)
BringsState old new wanted (S.Short count) = EndsBefore old new wanted count
BringsState old new wanted S.Failed = Rose old.faults new.faults
BringsState old new wanted S.Memory = Unit {0}

-- some bytes more come after those of the state: as many as there is room for, or fewer where the bytes end
pub record Gains (old new : SourceView) (before after : List ℕ) (room count : ℕ) : Type 0 where
  pub part : List ℕ
  pub takes : Takes old new part
  pub joined : after ≡ before ++ part
  pub size : length part ≡ count
  pub within : count ≤ room
  pub at_end : count < room → IsAtEnd new.left

-- ---- rooms

-- a call stands at this place of a batch in a room
abbrev pub IsItem : List ℕ → ℕ → Type 0
IsItem room i =
    (24 * (i + 2) ≤ length room) ×
    ((frame : CallFrame) × IsCallFrame frame (take 24 (drop (24 * (i + 1)) room)))

-- the eight bytes from a place on
abbrev pub eight_at : List ℕ → ℕ → List ℕ
eight_at bytes place =
    slice_index bytes place ∷ slice_index bytes (place + 1) ∷ slice_index bytes (place + 2) ∷
    slice_index bytes (place + 3)
    ∷ slice_index bytes (place + 4) ∷ slice_index bytes (place + 5) ∷
    slice_index bytes (place + 6) ∷ slice_index bytes (place + 7) ∷ []

-- so much follows the beginning in any frame that goes on after it
abbrev pub IsRoom : List ℕ → ℕ → Type 0
IsRoom beginning room =
    (value : CallFrame) (more : List ℕ) → 0 < length more →
    IsCallFrame value (beginning ++ more) → room ≡ length more
