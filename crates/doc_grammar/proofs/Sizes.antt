-- How many bytes the text of a document takes in UTF-8: after any part of it at least as many as what follows.
use Rattle.std.proofs.Common.{◌≡◌, ℕ, ◌+◌, ◌≤◌, Bool, true, false, if◌then◌else◌, ◌==◌, ◌&&◌, List, [], ◌∷◌, ◌++◌, length, Option, Some, None, ap, ◌∙◌, arith, length-append}
use Rattle.std.proofs.lemmas.Str.{length-encode, len_utf8_bounds, encodes-append, length-le-encodes}
use Rattle.std.specs.Str.{encode_utf8_all}
use Rattle.std.specs.Char.{encode_utf8, len_utf8}
use Rattle.doc_grammar.specs.Characters.{is_blank}
use Rattle.doc_grammar.specs.Grammar.{quote_char, Part, version, encoding, standalone, word, Setting, print_setting, print_maybe, Declaration, print_declaration, Reference, named, numbered, lt, gt, amp, apos, quot, base_mark, print_reference, code_of, Piece, raw, ref, print_value, raw_value, value_of, Tag}

-- how many bytes a text has in UTF-8
abbrev pub size : List ℕ → ℕ
size text = length (encode_utf8_all text)

pub size_cons : (c : ℕ) (text : List ℕ) → size (c ∷ text) ≡ len_utf8 c + size text
size_cons c text =
    length-append (encode_utf8 c) (encode_utf8_all text) ∙ ap (λ n. n + size text) (length-encode c)

pub size_append : (a b : List ℕ) → size (a ++ b) ≡ size a + size b
size_append a b = ap length (encodes-append a b) ∙ length-append (encode_utf8_all a) (encode_utf8_all b)

-- a text of at least so many bytes
pub record Takes (n : ℕ) (text : List ℕ) : Type 0 where
  pub bytes : n ≤ size text

pub past_char : (c : ℕ) {n : ℕ} {text : List ℕ} → Takes n text → Takes n (c ∷ text)
past_char c {n} {text} h = record { bytes = omega (arith, size_cons c text, h.bytes) }

pub past : (x : List ℕ) {n : ℕ} {text : List ℕ} → Takes n text → Takes n (x ++ text)
past x {n} {text} h = record { bytes = omega (arith, size_append x text, h.bytes) }

-- ---- references and values

-- each character has a byte
pub at_least : (x text : List ℕ) → length x + size text ≤ size (x ++ text)
at_least x text = omega (arith, size_append x text, length-le-encodes x)

-- a reference has at least the four bytes that a character may have
pub four_bytes : (r : Reference) (text : List ℕ) → 4 + size text ≤ size (38 ∷ print_reference r text)
four_bytes (named lt) text = at_least (38 ∷ 108 ∷ 116 ∷ 59 ∷ []) text
four_bytes (named gt) text = at_least (38 ∷ 103 ∷ 116 ∷ 59 ∷ []) text
four_bytes (named amp) text =
    let h = at_least (38 ∷ 97 ∷ 109 ∷ 112 ∷ 59 ∷ []) text in
    omega (arith, h)
four_bytes (named apos) text =
    let h = at_least (38 ∷ 97 ∷ 112 ∷ 111 ∷ 115 ∷ 59 ∷ []) text in
    omega (arith, h)
four_bytes (named quot) text =
    let h = at_least (38 ∷ 113 ∷ 117 ∷ 111 ∷ 116 ∷ 59 ∷ []) text in
    omega (arith, h)
four_bytes (numbered base c digits) text =
    let after = c ∷ (digits ++ 59 ∷ text) in
    let marked = at_least (38 ∷ 35 ∷ []) (base_mark base ++ after) in
    let unmarked = size_append (base_mark base) after in
    let one = at_least (c ∷ []) (digits ++ 59 ∷ text) in
    let many = size_append digits (59 ∷ text) in
    let last = at_least (59 ∷ []) text in
    omega (arith, marked, unmarked, one, many, last)

pub past_reference : (r : Reference) {n : ℕ} {text : List ℕ} → Takes n text → Takes n (38 ∷ print_reference r text)
past_reference r {n} {text} h = record { bytes = omega (arith, four_bytes r text, h.bytes) }

raw_cases : (joined blank : Bool) (c : ℕ) → size (if joined then [] else (if blank then 32 else c) ∷ []) ≤ len_utf8 c
raw_cases true blank c = omega arith
raw_cases false true c = omega (arith, size_cons 32 [], (len_utf8_bounds c).0)
raw_cases false false c = omega (arith, size_cons c [])

raw_size : (after_return : Bool) (c : ℕ) → size (raw_value after_return c) ≤ len_utf8 c
raw_size after_return c = raw_cases (after_return && (c == 10)) (is_blank c) c

-- what a reference names has at most four bytes; any other character of a value is one of the text, or a space in its place
pub value_size : (after_return : Bool) (ps : List Piece) (text : List ℕ) → size (value_of after_return ps) + size text ≤ size (print_value ps text)
value_size after_return [] text = omega arith
value_size after_return (raw c ∷ ps) text =
    let rest = value_size (c == 13) ps text in
    omega (arith, rest, size_append (raw_value after_return c) (value_of (c == 13) ps), raw_size after_return c, size_cons c (print_value ps text))
value_size after_return (ref r ∷ ps) text =
    let rest = value_size false ps text in
    omega (arith, rest, size_cons (code_of r) (value_of false ps), (len_utf8_bounds (code_of r)).1, four_bytes r (print_value ps text))

-- ---- content

pub past_end : (t : Tag) (gap : List ℕ) {n : ℕ} {text : List ℕ} → Takes n text → Takes n (60 ∷ 47 ∷ (t.name ++ (gap ++ 62 ∷ text)))
past_end t gap h = past_char 60 (past_char 47 (past t.name (past gap (past_char 62 h))))

pub past_comment : (t : List ℕ) {n : ℕ} {text : List ℕ} → Takes n text → Takes n (60 ∷ 33 ∷ 45 ∷ 45 ∷ (t ++ 45 ∷ 45 ∷ 62 ∷ text))
past_comment t h = past (60 ∷ 33 ∷ 45 ∷ 45 ∷ []) (past t (past (45 ∷ 45 ∷ 62 ∷ []) h))

pub past_instruction : (target t : List ℕ) {n : ℕ} {text : List ℕ} → Takes n text → Takes n (60 ∷ 63 ∷ (target ++ (t ++ 63 ∷ 62 ∷ text)))
past_instruction target t h = past (60 ∷ 63 ∷ []) (past target (past t (past (63 ∷ 62 ∷ []) h)))

pub past_section : (t : List ℕ) {n : ℕ} {text : List ℕ} → Takes n text → Takes n (60 ∷ 33 ∷ 91 ∷ 67 ∷ 68 ∷ 65 ∷ 84 ∷ 65 ∷ 91 ∷ (t ++ 93 ∷ 93 ∷ 62 ∷ text))
past_section t h = past (60 ∷ 33 ∷ 91 ∷ 67 ∷ 68 ∷ 65 ∷ 84 ∷ 65 ∷ 91 ∷ []) (past t (past (93 ∷ 93 ∷ 62 ∷ []) h))

-- ---- documents

pub past_setting : (part : Part) (s : Setting) {n : ℕ} {text : List ℕ} → Takes n text → Takes n (print_setting part s text)
past_setting part s h =
    past_char s.first (past s.before (past (word part) (past s.left (past_char 61 (past s.right (past_char (quote_char s.quote) (past s.value (past_char (quote_char s.quote) h))))))))

pub past_maybe : (part : Part) (s : Option Setting) {n : ℕ} {text : List ℕ} → Takes n text → Takes n (print_maybe part s text)
past_maybe part None h = h
past_maybe part (Some s) h = past_setting part s h

pub past_declaration : (d : Declaration) {n : ℕ} {text : List ℕ} → Takes n text → Takes n (print_declaration d text)
past_declaration d h =
    past (60 ∷ 63 ∷ 120 ∷ 109 ∷ 108 ∷ []) (past_setting version d.version (past_maybe encoding d.encoding (past_maybe standalone d.standalone (past d.gap (past (63 ∷ 62 ∷ []) h)))))
