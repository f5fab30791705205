-- What a wire tells, and what sending and receiving change of it.
use Rattle.std.specs.Prelude.{◌≡◌, ℕ, ◌<◌, List, [], ◌++◌, length, take, drop, Option, option_map, unwrap_or, Result, Ok, Err}
use Rattle.sim_base.specs.Causes.{one_more}
use Rattle.fmu_link.specs.declared.wire.WireFault.{WireFault}
use Rattle.fmu_link.specs.declared.wire.WireFault.TheVariants.{Failed, Ended}

-- what a wire tells: the bytes that were sent, and those that are still to come, where it tells them; how often it has failed
pub record WireView : Type 0 where
  pub sent : Option (List ℕ)
  pub coming : Option (List ℕ)
  pub faults : ℕ

abbrev pub wire_view : Option (List ℕ) → Option (List ℕ) → ℕ → WireView
wire_view sent coming faults = record { sent = sent; coming = coming; faults = faults }

-- these bytes were sent too
abbrev pub with_sent : WireView → List ℕ → WireView
with_sent view bytes = record view { sent = option_map (λ before. before ++ bytes) view.sent }

-- these bytes are still to come, before the others
abbrev pub with_prefix : List ℕ → WireView → WireView
with_prefix bytes view = record view { coming = option_map (λ rest. bytes ++ rest) view.coming }

-- so many of the first bytes are no longer to come
abbrev pub without_prefix : ℕ → WireView → WireView
without_prefix n view = record view { coming = option_map (λ bytes. drop n bytes) view.coming }

-- nothing more is to come
abbrev pub at_end : WireView → WireView
at_end view = record view { coming = option_map (λ bytes. []) view.coming }

-- one more failure
abbrev pub with_fault : WireView → WireView
with_fault view = record view { faults = one_more view.faults }

-- the bytes to come don't fill this room; where they aren't told there may be none
abbrev pub FallsShort : Option (List ℕ) → List ℕ → Type 0
FallsShort coming into = length (unwrap_or coming []) < length into

-- what sending makes of what a wire tells: all of the bytes were sent, or after a failure a prefix of them
abbrev pub NotesSend : {T : Type 0} → WireView → WireView → List ℕ → Result T WireFault → Type 0
NotesSend old new bytes (Ok _) = new ≡ with_sent old bytes
NotesSend old new bytes (Err Failed) = (n : ℕ) × (new ≡ with_fault (with_sent old (take n bytes)))
NotesSend old new bytes (Err Ended) = ⊥

-- what receiving makes of it: the room is filled with the first bytes of what was to come, which are gone from it; or there were fewer, and all are gone; or after a failure some of the first bytes are gone
abbrev pub NotesReceive : {T : Type 0} → WireView → WireView → List ℕ → Result T WireFault → Type 0
NotesReceive old new into (Ok _) = old ≡ with_prefix into new
NotesReceive old new into (Err Ended) = FallsShort old.coming into × (new ≡ at_end old)
NotesReceive old new into (Err Failed) = (n : ℕ) × (new ≡ with_fault (without_prefix n old))
