-- What a sink tells, and what a put of bytes changes.
use Rattle.std.specs.Prelude.{◌≡◌, ℕ, ◌-◌, ◌^◌, nat_lt, if◌then◌else◌, List, [], ◌∷◌, ◌++◌, take, Option, option_map, Result, Ok, Err, IfSome}
use Rattle.std.specs.List.{concat}
use Rattle.sim_base.specs.Causes.{one_more}

-- what a sink tells: its bytes and its pieces, one for each put, where it tells them; how often a put has failed
pub record SinkView : Type 0 where
  pub content : Option (List ℕ)
  pub puts : Option (List (List ℕ))
  pub faults : ℕ

-- the pieces make up the bytes, where both are told
abbrev pub IsJoined : SinkView → Type 0
IsJoined view = IfSome view.puts (λ pieces. IfSome view.content (λ bytes. bytes ≡ concat pieces))

-- one more put, of which these bytes were taken
abbrev pub with_piece : SinkView → List ℕ → SinkView
with_piece view piece = record view {
  content = option_map (λ bytes. bytes ++ piece) view.content;
  puts = option_map (λ pieces. pieces ++ piece ∷ []) view.puts;
}

-- one more put, which failed once these bytes were taken. Where the count stands at its last value, no such put is told
abbrev pub with_fault : SinkView → List ℕ → SinkView
with_fault view piece = record {
  content = option_map (λ bytes. bytes ++ piece) view.content;
  puts = option_map (λ pieces. pieces ++ (if nat_lt view.faults (2 ^ 64 - 1) then piece ∷ [] else [])) view.puts;
  faults = one_more view.faults;
}

-- what a put makes of what a sink tells: all of the bytes are one more piece, or after a fault a prefix of them
abbrev pub NotesPut : {T E : Type 0} → SinkView → SinkView → List ℕ → Result T E → Type 0
NotesPut old new bytes (Ok _) = new ≡ with_piece old bytes
NotesPut old new bytes (Err _) = (n : ℕ) × (new ≡ with_fault old (take n bytes))
