-- The state after a prefix, and the next.
use Rattle.std.specs.Prelude.{◌≡◌, ℕ, suc, Bool, true, false, if◌then◌else◌, ◌==◌, not, nat_le, List, [], ◌∷◌, ◌++◌, length, codes}
use Prim.Native.Char.{code}
use Rattle.std.specs.Str.{bytes_eq, encode_utf8_all}
use Rattle.std.specs.Char.{encode_utf8}
use Rattle.doc_grammar.specs.Characters.{class, is_char}
use Rattle.doc_grammar.specs.Grammar.{Quote, with_double, with_single, quote_char, is_xml, Part, version, encoding, standalone, fold_for, Base, ten, sixteen, is_numeral, with_digit, raw_value, Pair, Limits, may_stand, clashes, Event, begin, close, byte_order_mark}
use Rattle.doc_grammar.specs.declared.characters.Class.{Class}
use Rattle.doc_grammar.specs.declared.characters.Class.TheVariants.{Less, Greater, Slash, Bang, Question, Dash, Ampersand, Equal, DoubleQuote, SingleQuote, OpenBracket, CloseBracket, Blank, Letter, Digit, Bad}
use Rattle.doc_grammar.specs.declared.reasons.Why.{Why}
use Rattle.doc_grammar.specs.declared.reasons.Why.TheVariants.{Plain, Deep, Twice, Partly}
use Rattle.doc_grammar.specs.declared.reasons.Why.TheVariants as why

-- before the root, or inside these open elements, the innermost first (none: after the root)
pub data Place : Type 0 where
  before : Place
  within : List (List ℕ) → Place

-- where a reference stands
pub data Hole : Type 0 where
  in_text : List ℕ → List (List ℕ) → Hole
  in_value : Place → List ℕ → List Pair → List ℕ → Quote → List ℕ → Hole

pub data State : Type 0 where
  -- nothing was read, or a byte order mark; then a declaration may begin
  start : State
  after_byte_order_mark : State
  document_tag_open : State
  document_processing_instruction : State
  document_instruction_target : List ℕ → State
  -- in the declaration: before its first part, after a part and white space there, in a part
  before_version : State
  after_setting : Part → State
  between_settings : Part → State
  setting_name : Part → ℕ → List ℕ → State
  after_setting_name : Part → State
  before_setting_value : Part → State
  standalone_value : Quote → State
  setting_value : Part → Quote → ℕ → List ℕ → State
  setting_value_end : Part → Quote → State
  declaration_end : State
  -- between the tokens, and in comments, instructions and sections
  content : Place → State
  tag_open : Place → State
  markup_declaration : Place → State
  comment_start : Place → State
  comment : Place → State
  comment_dash : Place → State
  comment_end : Place → State
  processing_instruction : Place → State
  instruction_target : Place → List ℕ → State
  instruction_target_end : Place → State
  instruction_text : Place → State
  instruction_end : Place → State
  cdata_start : List ℕ → List (List ℕ) → ℕ → List ℕ → State
  cdata_section : List ℕ → List (List ℕ) → State
  cdata_section_bracket : List ℕ → List (List ℕ) → State
  cdata_section_end : List ℕ → List (List ℕ) → State
  -- in tags
  tag_name : Place → List ℕ → State
  before_attribute_name : Place → List ℕ → List Pair → State
  attribute_name : Place → List ℕ → List Pair → List ℕ → State
  after_attribute_name : Place → List ℕ → List Pair → List ℕ → State
  before_attribute_value : Place → List ℕ → List Pair → List ℕ → State
  attribute_value : Place → List ℕ → List Pair → List ℕ → Quote → List ℕ → Bool → State
  after_attribute_value : Place → List ℕ → List Pair → State
  self_closing_start_tag : Place → List ℕ → List Pair → State
  end_tag_name : List (List ℕ) → List ℕ → State
  after_end_tag_name : List (List ℕ) → State
  -- in references
  reference : Hole → State
  reference_a : Hole → State
  named_reference : Hole → ℕ → ℕ → List ℕ → State
  numeric_reference : Hole → State
  hexadecimal_reference : Hole → State
  reference_digits : Hole → Base → ℕ → State

pub data Step : Type 0 where
  dead : Why → Step
  go : State → Step
  emit : State → List Event → Step

abbrev pub stack : Place → List (List ℕ)
stack before = []
stack (within ns) = ns

abbrev pub may_open : Limits → Place → Bool
may_open l before = true
may_open l (within []) = false
may_open l (within (n ∷ ns)) = may_stand l (length (n ∷ ns))

abbrev pub guard : Why → Bool → State → Step
guard w true s = go s
guard w false s = dead w

-- why no element may begin there
abbrev pub why_open : Place → Why
why_open before = Plain
why_open (within []) = Plain
why_open (within (n ∷ ns)) = Deep

abbrev pub after_reference : Hole → ℕ → State
after_reference (in_text n ns) code = content (within (n ∷ ns))
after_reference (in_value p name xs x q v) code =
    attribute_value p name xs x q (v ++ code ∷ []) false

-- how many bytes two lists begin with alike
abbrev pub common_prefix_length : List ℕ → List ℕ → ℕ
common_prefix_length [] ys = 0
common_prefix_length (x ∷ xs) [] = 0
common_prefix_length (x ∷ xs) (y ∷ ys) = if x == y then suc (common_prefix_length xs ys) else 0

-- another character than the one that goes on
abbrev pub partly : ℕ → ℕ → Why
partly c b = Partly (common_prefix_length (encode_utf8 c) (encode_utf8 b))

-- a character that may stand nowhere, where any past ASCII may stand: U+FFFE and U+FFFF differ in
-- their third byte
abbrev pub bad : ℕ → Why
bad b = if nat_le 0x80 b then Partly 2 else Plain

-- the same where an element may begin
abbrev pub bad_tag_open : Limits → Place → ℕ → Why
bad_tag_open l p b =
    if nat_le 0x80 b then (if may_open l p then Partly 2 else why_open p) else Plain

-- what only this character leads on
abbrev pub exactly : ℕ → ℕ → State → Step
exactly c b s = guard Plain (b == c) s

-- ---- between the tokens

abbrev pub step_content : Place → Class → ℕ → Step
step_content p Less b = go (tag_open p)
step_content (within (n ∷ ns)) Bad b = dead (bad b)
step_content (within (n ∷ ns)) Ampersand b = go (reference (in_text n ns))
step_content (within (n ∷ ns)) k b = go (content (within (n ∷ ns)))
step_content (within []) Blank b = go (content (within []))
step_content before Blank b = go (content before)
step_content p k b = dead Plain

abbrev pub step_tag_open : Limits → Place → Class → ℕ → Step
step_tag_open l p Bang b = go (markup_declaration p)
step_tag_open l p Question b = go (processing_instruction p)
step_tag_open l p Letter b = guard (why_open p) (may_open l p) (tag_name p (b ∷ []))
step_tag_open l p Bad b = dead (bad_tag_open l p b)
step_tag_open l (within (n ∷ ns)) Slash b = go (end_tag_name ns n)
step_tag_open l p k b = dead Plain

abbrev pub step_markup_declaration : Place → Class → Step
step_markup_declaration p Dash = go (comment_start p)
step_markup_declaration (within (n ∷ ns)) OpenBracket =
    go (cdata_start n ns (code "C") (codes "DATA["))
step_markup_declaration p k = dead why.Bang

abbrev pub step_dash : Class → State → Step
step_dash Dash s = go s
step_dash k s = dead Plain

abbrev pub step_comment : Place → Class → ℕ → Step
step_comment p Dash b = go (comment_dash p)
step_comment p Bad b = dead (bad b)
step_comment p k b = go (comment p)

abbrev pub step_comment_dash : Place → Class → ℕ → Step
step_comment_dash p Dash b = go (comment_end p)
step_comment_dash p Bad b = dead (bad b)
step_comment_dash p k b = go (comment p)

abbrev pub step_greater : Class → Step → Step
step_greater Greater s = s
step_greater k s = dead Plain

abbrev pub step_processing_instruction : Place → Class → ℕ → Step
step_processing_instruction p Letter b = go (instruction_target p (b ∷ []))
step_processing_instruction p Bad b = dead (bad b)
step_processing_instruction p k b = dead Plain

abbrev pub step_instruction_target : Place → List ℕ → Class → ℕ → Step
step_instruction_target p n Letter b = go (instruction_target p (n ++ b ∷ []))
step_instruction_target p n Digit b = go (instruction_target p (n ++ b ∷ []))
step_instruction_target p n Dash b = go (instruction_target p (n ++ b ∷ []))
step_instruction_target p n Blank b = guard Plain (not (is_xml n)) (instruction_text p)
step_instruction_target p n Question b = guard Plain (not (is_xml n)) (instruction_target_end p)
step_instruction_target p n Bad b = dead (bad b)
step_instruction_target p n k b = dead Plain

abbrev pub step_instruction_text : Place → Class → ℕ → Step
step_instruction_text p Question b = go (instruction_end p)
step_instruction_text p Bad b = dead (bad b)
step_instruction_text p k b = go (instruction_text p)

abbrev pub step_instruction_end : Place → Class → ℕ → Step
step_instruction_end p Greater b = go (content p)
step_instruction_end p Question b = go (instruction_end p)
step_instruction_end p Bad b = dead (bad b)
step_instruction_end p k b = go (instruction_text p)

abbrev pub step_cdata_start : List ℕ → List (List ℕ) → ℕ → List ℕ → ℕ → Step
step_cdata_start n ns t [] b = exactly t b (cdata_section n ns)
step_cdata_start n ns t (u ∷ todo) b = exactly t b (cdata_start n ns u todo)

abbrev pub step_cdata_section : List ℕ → List (List ℕ) → Class → ℕ → Step
step_cdata_section n ns CloseBracket b = go (cdata_section_bracket n ns)
step_cdata_section n ns Bad b = dead (bad b)
step_cdata_section n ns k b = go (cdata_section n ns)

abbrev pub step_cdata_section_bracket : List ℕ → List (List ℕ) → Class → ℕ → Step
step_cdata_section_bracket n ns CloseBracket b = go (cdata_section_end n ns)
step_cdata_section_bracket n ns Bad b = dead (bad b)
step_cdata_section_bracket n ns k b = go (cdata_section n ns)

abbrev pub step_cdata_section_end : List ℕ → List (List ℕ) → Class → ℕ → Step
step_cdata_section_end n ns CloseBracket b = go (cdata_section_end n ns)
step_cdata_section_end n ns Greater b = go (content (within (n ∷ ns)))
step_cdata_section_end n ns Bad b = dead (bad b)
step_cdata_section_end n ns k b = go (cdata_section n ns)

-- ---- where a document begins

abbrev pub step_after_byte_order_mark : Why → Class → Step
step_after_byte_order_mark w Less = go document_tag_open
step_after_byte_order_mark w Blank = go (content before)
step_after_byte_order_mark w k = dead w

abbrev pub step_start : Class → ℕ → Step
step_start k b =
    if b == byte_order_mark then go after_byte_order_mark
    else step_after_byte_order_mark (partly byte_order_mark b) k

abbrev pub step_document_tag_open : Limits → Class → ℕ → Step
step_document_tag_open l Question b = go document_processing_instruction
step_document_tag_open l k b = step_tag_open l before k b

abbrev pub step_document_processing_instruction : Class → ℕ → Step
step_document_processing_instruction Letter b = go (document_instruction_target (b ∷ []))
step_document_processing_instruction Bad b = dead (bad b)
step_document_processing_instruction k b = dead Plain

abbrev pub is_small_xml : List ℕ → Bool
is_small_xml n = bytes_eq n (codes "xml")

abbrev pub step_document_instruction_target : List ℕ → Class → ℕ → Step
step_document_instruction_target n Letter b = go (document_instruction_target (n ++ b ∷ []))
step_document_instruction_target n Digit b = go (document_instruction_target (n ++ b ∷ []))
step_document_instruction_target n Dash b = go (document_instruction_target (n ++ b ∷ []))
step_document_instruction_target n Blank b =
    if is_small_xml n then go before_version
    else guard Plain (not (is_xml n)) (instruction_text before)
step_document_instruction_target n Question b =
    guard Plain (not (is_xml n)) (instruction_target_end before)
step_document_instruction_target n Bad b = dead (bad b)
step_document_instruction_target n k b = dead Plain

abbrev pub step_before_version : Class → ℕ → Step
step_before_version Blank b = go before_version
step_before_version k b = exactly (code "v") b (setting_name version (code "e") (codes "rsion"))

abbrev pub step_after_setting : Part → Class → Step
step_after_setting part Blank = go (between_settings part)
step_after_setting part Question = go declaration_end
step_after_setting part k = dead Plain

abbrev pub standalone_word : State
standalone_word = setting_name standalone (code "t") (codes "andalone")

abbrev pub step_part : Part → ℕ → Step
step_part version b =
    if b == code "e" then go (setting_name encoding (code "n") (codes "coding"))
    else exactly (code "s") b standalone_word
step_part encoding b = exactly (code "s") b standalone_word
step_part standalone b = dead Plain

abbrev pub step_between_settings : Part → Class → ℕ → Step
step_between_settings part Blank b = go (between_settings part)
step_between_settings part Question b = go declaration_end
step_between_settings part k b = step_part part b

abbrev pub step_setting_name : Part → ℕ → List ℕ → ℕ → Step
step_setting_name part t [] b = exactly t b (after_setting_name part)
step_setting_name part t (u ∷ todo) b = exactly t b (setting_name part u todo)

abbrev pub step_after_setting_name : Part → Class → Step
step_after_setting_name part Blank = go (after_setting_name part)
step_after_setting_name part Equal = go (before_setting_value part)
step_after_setting_name part k = dead Plain

abbrev pub setting_value_start : Part → Quote → State
setting_value_start version q = setting_value version q (code "1") (codes ".0")
setting_value_start encoding q = setting_value encoding q (code "u") (codes "tf-8")
setting_value_start standalone q = standalone_value q

abbrev pub step_before_setting_value : Part → Class → Step
step_before_setting_value part Blank = go (before_setting_value part)
step_before_setting_value part DoubleQuote = go (setting_value_start part with_double)
step_before_setting_value part SingleQuote = go (setting_value_start part with_single)
step_before_setting_value part k = dead Plain

abbrev pub step_standalone_value : Quote → ℕ → Step
step_standalone_value q b =
    if b == code "y" then go (setting_value standalone q (code "e") (codes "s"))
    else exactly (code "n") b (setting_value standalone q (code "o") [])

abbrev pub step_setting_value : Part → Quote → ℕ → List ℕ → ℕ → Step
step_setting_value part q t [] b =
    exactly (fold_for part t) (fold_for part b) (setting_value_end part q)
step_setting_value part q t (u ∷ todo) b =
    exactly (fold_for part t) (fold_for part b) (setting_value part q u todo)

-- ---- tags

-- after a name or a value in a tag
abbrev pub step_tag : Place → List ℕ → List Pair → Class → Step
step_tag p n xs Blank = go (before_attribute_name p n xs)
step_tag p n xs Slash = go (self_closing_start_tag p n xs)
step_tag p n xs Greater = emit (content (within (n ∷ stack p))) (begin n xs ∷ [])
step_tag p n xs k = dead Plain

abbrev pub step_tag_name : Place → List ℕ → Class → ℕ → Step
step_tag_name p n Letter b = go (tag_name p (n ++ b ∷ []))
step_tag_name p n Digit b = go (tag_name p (n ++ b ∷ []))
step_tag_name p n Dash b = go (tag_name p (n ++ b ∷ []))
step_tag_name p n Bad b = dead (bad b)
step_tag_name p n k b = step_tag p n [] k

abbrev pub step_before_attribute_name : Place → List ℕ → List Pair → Class → ℕ → Step
step_before_attribute_name p n xs Letter b = go (attribute_name p n xs (b ∷ []))
step_before_attribute_name p n xs Bad b = dead (bad b)
step_before_attribute_name p n xs k b = step_tag p n xs k

abbrev pub step_attribute_name : Limits → Place → List ℕ → List Pair → List ℕ → Class → ℕ → Step
step_attribute_name l p n xs x Letter b = go (attribute_name p n xs (x ++ b ∷ []))
step_attribute_name l p n xs x Digit b = go (attribute_name p n xs (x ++ b ∷ []))
step_attribute_name l p n xs x Dash b = go (attribute_name p n xs (x ++ b ∷ []))
step_attribute_name l p n xs x Blank b =
    if clashes l xs x then dead (Twice (length (encode_utf8_all x)))
    else go (after_attribute_name p n xs x)
step_attribute_name l p n xs x Equal b =
    if clashes l xs x then dead (Twice (length (encode_utf8_all x)))
    else go (before_attribute_value p n xs x)
step_attribute_name l p n xs x Bad b = dead (bad b)
step_attribute_name l p n xs x k b = dead Plain

abbrev pub step_after_attribute_name : Place → List ℕ → List Pair → List ℕ → Class → Step
step_after_attribute_name p n xs x Blank = go (after_attribute_name p n xs x)
step_after_attribute_name p n xs x Equal = go (before_attribute_value p n xs x)
step_after_attribute_name p n xs x k = dead Plain

abbrev pub step_before_attribute_value : Place → List ℕ → List Pair → List ℕ → Class → Step
step_before_attribute_value p n xs x Blank = go (before_attribute_value p n xs x)
step_before_attribute_value p n xs x DoubleQuote =
    go (attribute_value p n xs x with_double [] false)
step_before_attribute_value p n xs x SingleQuote =
    go (attribute_value p n xs x with_single [] false)
step_before_attribute_value p n xs x k = dead Plain

abbrev pub step_attribute_value :
    Place → List ℕ → List Pair → List ℕ → Quote → List ℕ → Bool → Class → ℕ → Step
step_attribute_value p n xs x with_double v r DoubleQuote b =
    go (after_attribute_value p n (xs ++ (x, v) ∷ []))
step_attribute_value p n xs x with_single v r SingleQuote b =
    go (after_attribute_value p n (xs ++ (x, v) ∷ []))
step_attribute_value p n xs x q v r Less b = dead Plain
step_attribute_value p n xs x q v r Bad b = dead (bad b)
step_attribute_value p n xs x q v r Ampersand b = go (reference (in_value p n xs x q v))
step_attribute_value p n xs x q v r k b =
    go (attribute_value p n xs x q (v ++ raw_value r b) (b == code "\r"))

abbrev pub step_after_end_tag_name : List (List ℕ) → Class → Step
step_after_end_tag_name ns Blank = go (after_end_tag_name ns)
step_after_end_tag_name ns Greater = emit (content (within ns)) (close ∷ [])
step_after_end_tag_name ns k = dead Plain

abbrev pub step_end_tag_name : List (List ℕ) → List ℕ → Class → ℕ → Step
step_end_tag_name ns [] k b = step_after_end_tag_name ns k
step_end_tag_name ns (t ∷ todo) k b = guard (partly t b) (b == t) (end_tag_name ns todo)

-- ---- references

abbrev pub step_named_reference : Hole → ℕ → ℕ → List ℕ → ℕ → Step
step_named_reference h code t [] b = exactly t b (after_reference h code)
step_named_reference h code t (u ∷ todo) b = exactly t b (named_reference h code u todo)

abbrev pub step_reference : Hole → ℕ → Step
step_reference h b =
    if b == code "l" then go (named_reference h (code "<") (code "t") (codes ";"))
    else if b == code "g" then go (named_reference h (code ">") (code "t") (codes ";"))
    else if b == code "q" then go (named_reference h (code "\"") (code "u") (codes "ot;"))
    else if b == code "#" then go (numeric_reference h)
    else exactly (code "a") b (reference_a h)

abbrev pub step_reference_a : Hole → ℕ → Step
step_reference_a h b =
    if b == code "m" then go (named_reference h (code "&") (code "p") (codes ";"))
    else exactly (code "p") b (named_reference h (code "'") (code "o") (codes "s;"))

-- one digit more, where some further digits can make a character
abbrev pub step_digit : Hole → Base → ℕ → ℕ → Step
step_digit h base n b =
    if is_numeral base b
    then guard Plain (nat_le (with_digit base n b) 0x10ffff)
    (reference_digits h base (with_digit base n b))
    else dead Plain

abbrev pub step_numeric_reference : Hole → ℕ → Step
step_numeric_reference h b =
    if b == code "x" then go (hexadecimal_reference h) else step_digit h ten 0 b

abbrev pub step_reference_digits : Hole → Base → ℕ → ℕ → Step
step_reference_digits h base n b =
    if b == code ";" then guard Plain (is_char n) (after_reference h n) else step_digit h base n b

-- ---- every state

abbrev pub step : Limits → State → Class → ℕ → Step
step l start k b = step_start k b
step l after_byte_order_mark k b = step_after_byte_order_mark Plain k
step l document_tag_open k b = step_document_tag_open l k b
step l document_processing_instruction k b = step_document_processing_instruction k b
step l (document_instruction_target n) k b = step_document_instruction_target n k b
step l before_version k b = step_before_version k b
step l (after_setting part) k b = step_after_setting part k
step l (between_settings part) k b = step_between_settings part k b
step l (setting_name part t todo) k b = step_setting_name part t todo b
step l (after_setting_name part) k b = step_after_setting_name part k
step l (before_setting_value part) k b = step_before_setting_value part k
step l (standalone_value q) k b = step_standalone_value q b
step l (setting_value part q t todo) k b = step_setting_value part q t todo b
step l (setting_value_end part q) k b = exactly (quote_char q) b (after_setting part)
step l declaration_end k b = step_greater k (go (content before))
step l (content p) k b = step_content p k b
step l (tag_open p) k b = step_tag_open l p k b
step l (markup_declaration p) k b = step_markup_declaration p k
step l (comment_start p) k b = step_dash k (comment p)
step l (comment p) k b = step_comment p k b
step l (comment_dash p) k b = step_comment_dash p k b
step l (comment_end p) k b = step_greater k (go (content p))
step l (processing_instruction p) k b = step_processing_instruction p k b
step l (instruction_target p n) k b = step_instruction_target p n k b
step l (instruction_target_end p) k b = step_greater k (go (content p))
step l (instruction_text p) k b = step_instruction_text p k b
step l (instruction_end p) k b = step_instruction_end p k b
step l (cdata_start n ns t todo) k b = step_cdata_start n ns t todo b
step l (cdata_section n ns) k b = step_cdata_section n ns k b
step l (cdata_section_bracket n ns) k b = step_cdata_section_bracket n ns k b
step l (cdata_section_end n ns) k b = step_cdata_section_end n ns k b
step l (tag_name p n) k b = step_tag_name p n k b
step l (before_attribute_name p n xs) k b = step_before_attribute_name p n xs k b
step l (attribute_name p n xs x) k b = step_attribute_name l p n xs x k b
step l (after_attribute_name p n xs x) k b = step_after_attribute_name p n xs x k
step l (before_attribute_value p n xs x) k b = step_before_attribute_value p n xs x k
step l (attribute_value p n xs x q v r) k b = step_attribute_value p n xs x q v r k b
step l (after_attribute_value p n xs) k b = step_tag p n xs k
step l (self_closing_start_tag p n xs) k b =
    step_greater k (emit (content (within (stack p))) (begin n xs ∷ close ∷ []))
step l (end_tag_name ns todo) k b = step_end_tag_name ns todo k b
step l (after_end_tag_name ns) k b = step_after_end_tag_name ns k
step l (reference h) k b = step_reference h b
step l (reference_a h) k b = step_reference_a h b
step l (named_reference h code t todo) k b = step_named_reference h code t todo b
step l (numeric_reference h) k b = step_numeric_reference h b
step l (hexadecimal_reference h) k b = step_digit h sixteen 0 b
step l (reference_digits h base n) k b = step_reference_digits h base n b

abbrev pub along : (State → List Event → Type 0) → Step → List Event → Type 0
along P (dead w) out = ⊥
along P (go s) out = P s out
along P (emit s es) out = (more : List Event) × (out ≡ es ++ more) × P s more

abbrev pub Final : State → Type 0
Final (content (within [])) = Unit {0}
Final s = ⊥

-- the machine reads all of the text, from a state, and ends well
abbrev pub Run : Limits → State → List ℕ → List Event → Type 0
Run l s [] out = Final s × (out ≡ [])
Run l s (b ∷ text) out = along (λ t. Run l t text) (step l s (class b) b) out

-- from s this text leads to t
abbrev pub Leads : Limits → State → List ℕ → State → List Event → Type 0
Leads l s [] t out = (s ≡ t) × (out ≡ [])
Leads l s (b ∷ text) t out = along (λ u more. Leads l u text t more) (step l s (class b) b) out
