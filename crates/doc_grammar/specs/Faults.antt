-- The bytes that are a document, and where they are none the rule that is broken and its place.
use Rattle.std.specs.Prelude.{◌≡◌, ℕ, ◌+◌, ◌-◌, ◌≤◌, nat_eq, if◌then◌else◌, List, [], ◌∷◌, ◌++◌, length, ◌⊎◌, codes}
use Rattle.std.specs.Str.{IsUtf8, IsValidUpTo, encode_utf8_all}
use Rattle.std.specs.List.{starts_with}
use Rattle.doc_grammar.specs.Characters.{class, IsName}
use Rattle.doc_grammar.specs.Grammar.{Limits, strict, deeper, repeated, Document, Event}
use Rattle.doc_grammar.specs.declared.characters.Class.TheVariants.{Blank, Equal, Letter}
use Rattle.doc_grammar.specs.declared.reasons.Why.{Why}
use Rattle.doc_grammar.specs.declared.reasons.Why.TheVariants as w
use Rattle.doc_grammar.specs.declared.reasons.Rule.{Rule}
use Rattle.doc_grammar.specs.declared.reasons.Rule.TheVariants.{NotUtf8, Malformed, Doctype, TooDeep, AttributeTwice}

-- the bytes are a document's, in UTF-8
abbrev pub IsDocument : Limits → List ℕ → List Event → Type 0
IsDocument l bytes tree = (text : List ℕ) × (bytes ≡ encode_utf8_all text) × Document l text tree

-- some document begins with these bytes
abbrev pub BeginsOne : Limits → List ℕ → Type 0
BeginsOne l p = (rest : List ℕ) × (tree : List Event) × IsDocument l (p ++ rest) tree

-- p is the longest prefix of the bytes that some document begins with
pub record IsLongestOf (l : Limits) (bytes p : List ℕ) : Type 0 where
  pub prefix : (rest : List ℕ) × (bytes ≡ p ++ rest)
  pub begins : BeginsOne l p
  pub longest : (q rest : List ℕ) → bytes ≡ q ++ rest → BeginsOne l q → length q ≤ length p

-- `DOCTYPE`
abbrev pub doctype : List ℕ
doctype = codes "DOCTYPE"

-- p ends in `<!`, and `DOCTYPE` follows (28)
pub record IsDoctype (p rest : List ℕ) (place : ℕ) : Type 0 where
  pub before : (prefix : List ℕ) × (p ≡ prefix ++ codes "<!") × (place ≡ length prefix)
  pub after : (more : List ℕ) × (rest ≡ doctype ++ more)

-- a byte that begins a character that may begin a name
abbrev pub BeginsName : ℕ → Type 0
BeginsName b = (class b ≡ Letter) ⊎ (0x80 ≤ b)

-- p ends in `<`, and the next byte begins the name of an element that stands too deep
pub record IsTooDeep (p rest : List ℕ) (place : ℕ) : Type 0 where
  pub before : (prefix : List ℕ) × (p ≡ prefix ++ codes "<") × (place ≡ length prefix)
  pub after :
      (b : ℕ) × (more : List ℕ) × (rest ≡ b ∷ more) × BeginsName b × BeginsOne deeper (p ++ b ∷ [])

-- p ends in the name of an attribute that its tag has already, and white space or `=` shows that it
-- ends there
pub record IsTwice (p rest : List ℕ) (place : ℕ) : Type 0 where
  pub before :
      (prefix : List ℕ) × (c : ℕ) × (name : List ℕ) × (p ≡ prefix ++ c ∷ encode_utf8_all name)
      × (class c ≡ Blank) × IsName name × (place ≡ length prefix + 1)
  pub after :
      (b : ℕ) × (more : List ℕ) × (rest ≡ b ∷ more) × ((class b ≡ Blank) ⊎ (class b ≡ Equal))
      × BeginsOne repeated (p ++ b ∷ [])

-- the rule that the end of the longest prefix shows, and its place
abbrev pub IsRule : Rule → List ℕ → List ℕ → ℕ → Type 0
IsRule NotUtf8 p rest place = ⊥
IsRule Doctype p rest place = IsDoctype p rest place
IsRule TooDeep p rest place = IsTooDeep p rest place
IsRule AttributeTwice p rest place = IsTwice p rest place
IsRule Malformed p rest place =
    (place ≡ length p) × ((n : ℕ) → IsDoctype p rest n → ⊥) × ((n : ℕ) → IsTooDeep p rest n → ⊥)
    × ((n : ℕ) → IsTwice p rest n → ⊥)

-- bytes in UTF-8 that are no document
pub record IsBroken (bytes : List ℕ) (rule : Rule) (place : ℕ) : Type 0 where
  pub text : IsUtf8 bytes
  pub none : (tree : List Event) → IsDocument strict bytes tree → ⊥
  pub shown :
      (p : List ℕ) × (rest : List ℕ) × (bytes ≡ p ++ rest) × IsLongestOf strict bytes p
      × IsRule rule p rest place

-- bytes that are not in UTF-8, which is told by the first byte that is not
pub record IsIll (bytes : List ℕ) (place : ℕ) : Type 0 where
  pub none : IsUtf8 bytes → ⊥
  pub shown : IsValidUpTo bytes place

-- the rule that bytes break which are no document, and its place
abbrev pub IsFault : List ℕ → Rule → ℕ → Type 0
IsFault bytes NotUtf8 place = IsIll bytes place
IsFault bytes Malformed place = IsBroken bytes Malformed place
IsFault bytes Doctype place = IsBroken bytes Doctype place
IsFault bytes TooDeep place = IsBroken bytes TooDeep place
IsFault bytes AttributeTwice place = IsBroken bytes AttributeTwice place

-- the rule and the place that the machine's reason gives, where these bytes are left
abbrev pub judged : Why → List ℕ → ℕ → Rule × ℕ
judged w.Plain rest at = (Malformed, at)
judged w.Bang rest at =
    if starts_with nat_eq rest doctype then (Doctype, at - 2) else (Malformed, at)
judged w.Deep rest at = (TooDeep, at - 1)
judged (w.Twice n) rest at = (AttributeTwice, at - n)
judged (w.Partly n) rest at = (Malformed, at + n)
