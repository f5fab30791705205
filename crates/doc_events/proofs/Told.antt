-- The error at a character that was not taken.
use Rattle.std.proofs.Common.{◌≡◌, ℕ, List, ◌<◌, ◌^◌, length, arith}
use Rattle.doc_grammar.specs.Grammar.{strict, Event}
use Rattle.doc_grammar.specs.Faults.{IsDocument, IsFault, IsBroken, judged}
use Rattle.doc_grammar.specs.declared.reasons.Rule.{Rule}
use Rattle.doc_grammar.specs.declared.reasons.Rule.TheVariants.{NotUtf8, Malformed, Doctype, TooDeep, AttributeTwice}
use Rattle.doc_grammar.proofs.CallerLemmas.{document_utf8}
use Rattle.doc_events.specs.Answers.{refused, PlaceFits, Faults}
use Rattle.doc_events.specs.View.{Stops}
use Rattle.doc_events.proofs.Steps.{broken_within, broken_fault}
use Rattle.doc_events.specs.declared.state.Stop.{Stop}
use Rattle.doc_events.specs.declared.state.Stop.TheVariants.{Dead}
use Rattle.doc_events.specs.declared.state.Stop.TheVariants as s
use Rattle.doc_grammar.specs.Machine as m
use Rattle.doc_grammar.specs.declared.reasons.Why.{Why}

pub refused_fits : (bytes rest : List ℕ) (at : ℕ) (stop : Stop) (w : m.Step) → ((y : Why) → w ≡ m.dead y → IsBroken bytes (judged y rest at).0 (judged y rest at).1) → Stops w stop → length bytes < 2 ^ 64 → PlaceFits stop rest at
refused_fits bytes rest at (Dead y) w f e h = let k = broken_within bytes (judged y rest at).0 (judged y rest at).1 (f y e) in omega (arith, k, h)
refused_fits bytes rest at s.Memory w f e h = tt

pub refused_fault : (bytes rest : List ℕ) (at : ℕ) (stop : Stop) (w : m.Step) → ((y : Why) → w ≡ m.dead y → IsBroken bytes (judged y rest at).0 (judged y rest at).1) → Stops w stop → Faults (refused stop rest at) bytes
refused_fault bytes rest at (Dead y) w f e = broken_fault bytes (judged y rest at).0 (judged y rest at).1 (f y e)
refused_fault bytes rest at s.Memory w f e = tt

-- bytes that break a rule are no document
pub no_document : (bytes : List ℕ) (rule : Rule) (place : ℕ) (tree : List Event) → IsFault bytes rule place → IsDocument strict bytes tree → ⊥
no_document bytes NotUtf8 place tree h d = h.none (document_utf8 strict bytes tree d)
no_document bytes Malformed place tree h d = h.none tree d
no_document bytes Doctype place tree h d = h.none tree d
no_document bytes TooDeep place tree h d = h.none tree d
no_document bytes AttributeTwice place tree h d = h.none tree d
