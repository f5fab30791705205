-- What a read answers.
use Rattle.std.specs.Prelude.{ℕ, List, ⊤, ◌<◌, ◌^◌}
use Rattle.doc_grammar.specs.Faults.{IsFault, judged}
use Rattle.doc_events.specs.declared.state.Stop.{Stop}
use Rattle.doc_events.specs.declared.state.Stop.TheVariants.{Dead}
use Rattle.doc_events.specs.declared.state.Stop.TheVariants as s
use Rattle.doc_events.specs.declared.error.DocError.{DocError}
use Rattle.doc_events.specs.declared.error.DocError.TheVariants.{At, Memory}

-- the error of a character that ends all documents, where these bytes are left
abbrev pub refused : Stop → List ℕ → ℕ → DocError
refused (Dead why) rest at = At (judged why rest at).0 (judged why rest at).1
refused s.Memory rest at = Memory

abbrev pub PlaceFits : Stop → List ℕ → ℕ → Type 0
PlaceFits (Dead why) rest at = (judged why rest at).1 < 2 ^ 64
PlaceFits s.Memory rest at = ⊤

-- what an error says of the bytes
abbrev pub Faults : DocError → List ℕ → Type 0
Faults (At rule byte) bytes = IsFault bytes rule byte
Faults Memory bytes = ⊤
