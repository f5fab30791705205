use Rattle.std.proofs.Common.{◌≡◌, ◌++◌, ℕ, List, length}
use Rattle.std.specs.Str.{encode_utf8_all}
use Rattle.doc_grammar.specs.Grammar.{strict, Event}
use Rattle.doc_grammar.specs.Machine.{Leads, start}
use Rattle.doc_events.specs.View.{state_of}
use Rattle.doc_tree.specs.Building.{HasBuilt}
use Rattle.doc_tree.proofs.builder.read_text.Given as goal

abbrev pub invariant-loop-at : goal.invariant-loop-at
invariant-loop-at l =
    (prefix : List ℕ) × (events : List Event) × (l.text ≡ encode_utf8_all prefix ++ l.at-iterator.rest.now) × (l.at-iterator.at ≡ length (encode_utf8_all prefix))
    × Leads strict start prefix (state_of l.reader) events × HasBuilt events l.builder.0 l.builder.1
