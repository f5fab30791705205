-- What is put on a sink, one piece a put.
use Rattle.std.specs.Prelude.{◌≡◌, ℕ, List, [], ◌∷◌, take}
use Rattle.sim_base.specs.Sink.{SinkView, with_piece, with_fault}

-- these pieces were put
abbrev pub with_pieces : SinkView → List (List ℕ) → SinkView
with_pieces view [] = view
with_pieces view (piece ∷ pieces) = with_pieces (with_piece view piece) pieces

-- the put of a piece failed, and a prefix of it was taken
abbrev pub PutsPrefixOf : SinkView → List ℕ → SinkView → Type 0
PutsPrefixOf old piece new = (n : ℕ) × (new ≡ with_fault old (take n piece))
