-- The machine reads every document.
use Rattle.std.proofs.Common.{◌≡◌, ℕ, ◌≤◌, Bool, true, false, cond, not, ◌&&◌, List, [], ◌∷◌, ◌++◌, length, map, inl, inr, refl, sym, ap, ◌∙◌, subst, append_assoc, arith, eqb, eq-eqb, leb, Option, Some, None}
use Rattle.std.proofs.lemmas.List.{append-nil}
use Rattle.std.proofs.lemmas.Bool.{eqb-true}
use Rattle.std.specs.Str.{encode_utf8_all}
use Rattle.std.proofs.lemmas.Bool.Decides.{nat_tests, eqb_tells}
use Rattle.std.proofs.lemmas.Slice.Eq.{bytes_eq-Decides}
use Rattle.doc_grammar.specs.Characters.{class, other_class, names, blanks, legal, is_text, is_char, IsName, IsSpace, AllOf}
use Rattle.doc_grammar.specs.Grammar.{Limits, clashes, is_valued, Quote, with_double, with_single, quote_char, Part, version, encoding, standalone, fold_for, word, IsSettingValue, Setting, print_setting_rest, IsSetting, print_maybe, IsMaybe, Declaration, print_declaration, IsDeclaration, Base, ten, sixteen, is_numeral, AllNumerals, with_digit, with_digits, Reference, named, numbered, print_reference, IsReference, code_of, Attr, IsAttr, IsAttrs, print_attr, print_attrs, attr_of, Pair, print_tag, tag_event, is_xml, IsFree, starts, IsTarget, IsInstruction, IsSection, Content, done, char, reference, comment, instruction, section, empty, element, print, IsContent, IsMisc, IsWhole, IsComment, no_dash_first, Event, begin, close, events, raw_value, Piece, raw, ref, print_value, IsValue, value_of, lt, gt, amp, apos, quot, Body, Unmarked, Document}
use Rattle.doc_grammar.specs.declared.characters.Class.{Class}
use Rattle.doc_grammar.specs.declared.reasons.Why.{Why}
use Rattle.doc_grammar.specs.declared.reasons.Why.TheVariants as w
use Rattle.doc_grammar.specs.declared.characters.Class.TheVariants.{Less, Greater, Slash, Bang, Question, Dash, Ampersand, Equal, DoubleQuote, SingleQuote, OpenBracket, CloseBracket, Blank, Letter, Digit, Bad}
use Rattle.doc_grammar.specs.Machine.{Place, before, within, State, dead, go, along, guard, exactly, stack, may_open, Hole, in_text, in_value, tag_open, markup_declaration, comment_start, comment_dash, comment_end, tag_name, before_attribute_name, attribute_name, after_attribute_name, before_attribute_value, attribute_value, after_attribute_value, self_closing_start_tag, end_tag_name, after_end_tag_name, after_reference, setting_value_start, is_small_xml, step_content, step_tag_open, step_comment, step_comment_dash, step_instruction_text, step_instruction_end, step_cdata_section, step_cdata_section_bracket, step_cdata_section_end, step_instruction_target, step_after_byte_order_mark, step_document_tag_open, step_document_processing_instruction, step_document_instruction_target, step_tag, step_tag_name, step_before_attribute_name, step_attribute_name, step_attribute_value, step_digit, step, Run}
use Rattle.doc_grammar.specs.Machine as m
use Rattle.doc_grammar.proofs.Classes.{class_less, class_greater, class_slash, class_bang, class_question, class_dash, class_ampersand, class_equal, class_double, class_single, class_open_bracket, class_close_bracket, class_of_mark, blank_is, dash_is, question_is, close_bracket_is, greater_is}

module _ (l : Limits) where
  -- a byte of this class
  pub byte : (s : State) (b : ℕ) (k : Class) (bytes : List ℕ) (out : List Event) → class b ≡ k → along (λ t. Run l t bytes) (step l s k b) out → Run l s (b ∷ bytes) out
  byte s b k bytes out e h = subst (λ c. along (λ t. Run l t bytes) (step l s c b) out) (sym e) h

  pub space : (s : State) (b : ℕ) (bytes : List ℕ) (out : List Event) → blanks (class b) ≡ true → along (λ t. Run l t bytes) (step l s Blank b) out → Run l s (b ∷ bytes) out
  space s b bytes out e h = byte s b Blank bytes out (blank_is (class b) e) h

  -- the white space in a tag
  before_attribute_name_spaces : (p : Place) (n : List ℕ) (xs : List Pair) (sp k : List ℕ) (out : List Event) → IsSpace sp → Run l (before_attribute_name p n xs) k out → Run l (before_attribute_name p n xs) (sp ++ k) out
  before_attribute_name_spaces p n xs [] k out g h = h
  before_attribute_name_spaces p n xs (b ∷ sp) k out g h = space (before_attribute_name p n xs) b (sp ++ k) out g.0 (before_attribute_name_spaces p n xs sp k out g.1 h)

  before_attribute_name_ends : (P : State → List Event → Type 0) (p : Place) (n : List ℕ) (xs : List Pair) (k : Class) (b : ℕ) (out : List Event) → along P (step_tag p n xs k) out → along P (step_before_attribute_name p n xs k b) out
  before_attribute_name_ends P p n xs Letter b out h = absurd h
  before_attribute_name_ends P p n xs Bad b out h = absurd h
  before_attribute_name_ends P p n xs k b out h = h

  tag_name_ends : (P : State → List Event → Type 0) (p : Place) (n : List ℕ) (k : Class) (b : ℕ) (out : List Event) → along P (step_tag p n [] k) out → along P (step_tag_name p n k b) out
  tag_name_ends P p n Letter b out h = absurd h
  tag_name_ends P p n Digit b out h = absurd h
  tag_name_ends P p n Dash b out h = absurd h
  tag_name_ends P p n Bad b out h = absurd h
  tag_name_ends P p n k b out h = h

  pub before_attribute_name_run : (p : Place) (n : List ℕ) (xs : List Pair) (k : List ℕ) (out : List Event) → Run l (after_attribute_value p n xs) k out → Run l (before_attribute_name p n xs) k out
  before_attribute_name_run p n xs [] out h = absurd h.0
  before_attribute_name_run p n xs (b ∷ k) out h = before_attribute_name_ends (λ t. Run l t k) p n xs (class b) b out h

  pub tag_name_run : (p : Place) (n : List ℕ) (k : List ℕ) (out : List Event) → Run l (after_attribute_value p n []) k out → Run l (tag_name p n) k out
  tag_name_run p n [] out h = absurd h.0
  tag_name_run p n (b ∷ k) out h = tag_name_ends (λ t. Run l t k) p n (class b) b out h

  gap_run : (p : Place) (n : List ℕ) (xs : List Pair) (gap k : List ℕ) (out : List Event) → IsSpace gap → Run l (after_attribute_value p n xs) k out → Run l (after_attribute_value p n xs) (gap ++ k) out
  gap_run p n xs [] k out g h = h
  gap_run p n xs (b ∷ gap) k out g h = space (after_attribute_value p n xs) b (gap ++ k) out g.0 (before_attribute_name_spaces p n xs gap k out g.1 (before_attribute_name_run p n xs k out h))

  -- names
  tag_name_step : (p : Place) (n : List ℕ) (k : Class) (b : ℕ) → names k ≡ true → go (tag_name p (n ++ b ∷ [])) ≡ step_tag_name p n k b
  tag_name_step p n Letter b h = refl
  tag_name_step p n Digit b h = refl
  tag_name_step p n Dash b h = refl
  tag_name_step p n k b h = cc

  pub name_run : (p : Place) (n rest k : List ℕ) (out : List Event) → AllOf names rest → Run l (tag_name p (n ++ rest)) k out → Run l (tag_name p n) (rest ++ k) out
  name_run p n [] k out g h = subst (λ x. Run l (tag_name p x) k out) (append-nil n) h
  name_run p n (b ∷ rest) k out g h =
      subst (λ s. along (λ t. Run l t (rest ++ k)) s out) (tag_name_step p n (class b) b g.0)
      (name_run p (n ++ b ∷ []) rest k out g.1 (subst (λ x. Run l (tag_name p x) k out) (sym (append_assoc n (b ∷ []) rest)) h))

  attribute_name_step : (p : Place) (n : List ℕ) (xs : List Pair) (x : List ℕ) (k : Class) (b : ℕ) → names k ≡ true → go (attribute_name p n xs (x ++ b ∷ [])) ≡ step_attribute_name l p n xs x k b
  attribute_name_step p n xs x Letter b h = refl
  attribute_name_step p n xs x Digit b h = refl
  attribute_name_step p n xs x Dash b h = refl
  attribute_name_step p n xs x k b h = cc

  pub attribute_name_run : (p : Place) (n : List ℕ) (xs : List Pair) (x rest k : List ℕ) (out : List Event) → AllOf names rest → Run l (attribute_name p n xs (x ++ rest)) k out → Run l (attribute_name p n xs x) (rest ++ k) out
  attribute_name_run p n xs x [] k out g h = subst (λ y. Run l (attribute_name p n xs y) k out) (append-nil x) h
  attribute_name_run p n xs x (b ∷ rest) k out g h =
      subst (λ s. along (λ t. Run l t (rest ++ k)) s out) (attribute_name_step p n xs x (class b) b g.0)
      (attribute_name_run p n xs (x ++ b ∷ []) rest k out g.1 (subst (λ y. Run l (attribute_name p n xs y) k out) (sym (append_assoc x (b ∷ []) rest)) h))

  -- what only this character leads on
  pub one : (s t : State) (c : ℕ) (k : List ℕ) (out : List Event) → step l s (class c) c ≡ exactly c c t → Run l t k out → Run l s (c ∷ k) out
  one s t c k out e h = subst (λ v. along (λ u. Run l u k) v out) (sym e) (subst (λ v. along (λ u. Run l u k) (guard w.Plain v t) out) (sym (eq-eqb c c refl)) h)

  -- references
  numeral_small : (base : Base) (c : ℕ) → is_numeral base c ≡ true → eqb c 59 ≡ false
  numeral_small ten c h = grind (arith, nat_tests)
  numeral_small sixteen c h = grind (arith, nat_tests)

  numeral_ten : (c : ℕ) → is_numeral ten c ≡ true → eqb c 120 ≡ false
  numeral_ten c h = grind (arith, nat_tests)

  more_digits : (base : Base) (n c : ℕ) → n ≤ with_digit base n c
  more_digits ten n c = omega arith
  more_digits sixteen n c = omega arith

  grows : (base : Base) (n : ℕ) (ds : List ℕ) → n ≤ with_digits base n ds
  grows base n [] = omega arith
  grows base n (c ∷ ds) = let a = more_digits base n c in let b = grows base (with_digit base n c) ds in omega (arith, a, b)

  char_least : (n : ℕ) → is_char n ≡ true → n ≤ 1114111
  char_least n h = grind (arith, nat_tests)

  within_char : (n m : ℕ) → n ≤ m → is_char m ≡ true → leb n 1114111 ≡ true
  within_char n m h k = let a = char_least m k in let b : n ≤ 1114111 = omega arith in grind (arith, nat_tests)

  digit_run : (h : Hole) (base : Base) (n c : ℕ) (k : List ℕ) (out : List Event) → is_numeral base c ≡ true → leb (with_digit base n c) 1114111 ≡ true → Run l (m.reference_digits h base (with_digit base n c)) k out → along (λ t. Run l t k) (step_digit h base n c) out
  digit_run h base n c k out e f r =
      subst (λ v. along (λ t. Run l t k) (cond v (guard w.Plain (leb (with_digit base n c) 1114111) (m.reference_digits h base (with_digit base n c))) (dead w.Plain)) out) (sym e)
      (subst (λ v. along (λ t. Run l t k) (guard w.Plain v (m.reference_digits h base (with_digit base n c))) out) (sym f) r)

  pub reference_digits_run : (h : Hole) (base : Base) (n : ℕ) (ds k : List ℕ) (out : List Event) → AllNumerals base ds → is_char (with_digits base n ds) ≡ true → Run l (after_reference h (with_digits base n ds)) k out → Run l (m.reference_digits h base n) (ds ++ 59 ∷ k) out
  reference_digits_run h base n [] k out g e r = subst (λ v. along (λ t. Run l t k) (guard w.Plain v (after_reference h n)) out) (sym e) r
  reference_digits_run h base n (c ∷ ds) k out g e r =
      subst (λ v. along (λ t. Run l t (ds ++ 59 ∷ k)) (cond v (guard w.Plain (is_char n) (after_reference h n)) (step_digit h base n c)) out) (sym (numeral_small base c g.0))
      (digit_run h base n c (ds ++ 59 ∷ k) out g.0 (within_char (with_digit base n c) (with_digits base n (c ∷ ds)) (grows base (with_digit base n c) ds) e) (reference_digits_run h base (with_digit base n c) ds k out g.1 e r))

  first_digit : (h : Hole) (base : Base) (c : ℕ) (ds k : List ℕ) (out : List Event) → IsReference (numbered base c ds) → Run l (after_reference h (with_digits base 0 (c ∷ ds))) k out → along (λ t. Run l t (ds ++ 59 ∷ k)) (step_digit h base 0 c) out
  first_digit h base c ds k out g r =
      digit_run h base 0 c (ds ++ 59 ∷ k) out g.0.0 (within_char (with_digit base 0 c) (with_digits base 0 (c ∷ ds)) (grows base (with_digit base 0 c) ds) g.1) (reference_digits_run h base (with_digit base 0 c) ds k out g.0.1 g.1 r)

  pub hole_run : (h : Hole) (r : Reference) (k : List ℕ) (out : List Event) → IsReference r → Run l (after_reference h (code_of r)) k out → Run l (m.reference h) (print_reference r k) out
  hole_run h (named lt) k out g r = r
  hole_run h (named gt) k out g r = r
  hole_run h (named amp) k out g r = r
  hole_run h (named apos) k out g r = r
  hole_run h (named quot) k out g r = r
  hole_run h (numbered ten c ds) k out g r =
      subst (λ v. along (λ t. Run l t (ds ++ 59 ∷ k)) (cond v (go (m.hexadecimal_reference h)) (step_digit h ten 0 c)) out) (sym (numeral_ten c g.0.0)) (first_digit h ten c ds k out g r)
  hole_run h (numbered sixteen c ds) k out g r = first_digit h sixteen c ds k out g r

  -- values
  attribute_value_step : (p : Place) (n : List ℕ) (xs : List Pair) (x : List ℕ) (q : Quote) (v : List ℕ) (r : Bool) (k : Class) (b : ℕ) → is_valued q k ≡ true → go (attribute_value p n xs x q (v ++ raw_value r b) (eqb b 13)) ≡ step_attribute_value p n xs x q v r k b
  attribute_value_step p n xs x with_double v r DoubleQuote b h = cc
  attribute_value_step p n xs x with_single v r SingleQuote b h = cc
  attribute_value_step p n xs x with_double v r Less b h = cc
  attribute_value_step p n xs x with_single v r Less b h = cc
  attribute_value_step p n xs x with_double v r Bad b h = cc
  attribute_value_step p n xs x with_single v r Bad b h = cc
  attribute_value_step p n xs x with_double v r Ampersand b h = cc
  attribute_value_step p n xs x with_single v r Ampersand b h = cc
  attribute_value_step p n xs x with_double v r k b h = refl
  attribute_value_step p n xs x with_single v r k b h = refl

  amp_value : (p : Place) (n : List ℕ) (xs : List Pair) (x : List ℕ) (q : Quote) (v : List ℕ) (r : Bool) (k : List ℕ) (out : List Event) → Run l (m.reference (in_value p n xs x q v)) k out → Run l (attribute_value p n xs x q v r) (38 ∷ k) out
  amp_value p n xs x with_double v r k out h = byte (attribute_value p n xs x with_double v r) 38 Ampersand k out class_ampersand h
  amp_value p n xs x with_single v r k out h = byte (attribute_value p n xs x with_single v r) 38 Ampersand k out class_ampersand h

  -- the piece before the end
  abbrev pub ends_return : Bool → List Piece → Bool
  ends_return r [] = r
  ends_return r (raw b ∷ ps) = ends_return (eqb b 13) ps
  ends_return r (ref e ∷ ps) = ends_return false ps

  attribute_value_run : (p : Place) (n : List ℕ) (xs : List Pair) (x : List ℕ) (q : Quote) (v : List ℕ) (r : Bool) (ps : List Piece) (k : List ℕ) (out : List Event) → IsValue q ps → Run l (attribute_value p n xs x q (v ++ value_of r ps) (ends_return r ps)) k out → Run l (attribute_value p n xs x q v r) (print_value ps k) out
  attribute_value_run p n xs x q v r [] k out g h = subst (λ y. Run l (attribute_value p n xs x q y r) k out) (append-nil v) h
  attribute_value_run p n xs x q v r (raw b ∷ ps) k out g h =
      subst (λ s. along (λ t. Run l t (print_value ps k)) s out) (attribute_value_step p n xs x q v r (class b) b g.0)
      (attribute_value_run p n xs x q (v ++ raw_value r b) (eqb b 13) ps k out g.1 (subst (λ y. Run l (attribute_value p n xs x q y (ends_return (eqb b 13) ps)) k out) (sym (append_assoc v (raw_value r b) (value_of (eqb b 13) ps))) h))
  attribute_value_run p n xs x q v r (ref e ∷ ps) k out g h =
      amp_value p n xs x q v r (print_reference e (print_value ps k)) out (hole_run (in_value p n xs x q v) e (print_value ps k) out g.0
      (attribute_value_run p n xs x q (v ++ code_of e ∷ []) false ps k out g.1 (subst (λ y. Run l (attribute_value p n xs x q y (ends_return false ps)) k out) (sym (append_assoc v (code_of e ∷ []) (value_of false ps))) h)))

  pub quote_run : (p : Place) (n : List ℕ) (xs : List Pair) (x : List ℕ) (q : Quote) (v : List ℕ) (r : Bool) (k : List ℕ) (out : List Event) → Run l (after_attribute_value p n (xs ++ (x, v) ∷ [])) k out → Run l (attribute_value p n xs x q v r) (quote_char q ∷ k) out
  quote_run p n xs x with_double v r k out h = byte (attribute_value p n xs x with_double v r) 34 DoubleQuote k out class_double h
  quote_run p n xs x with_single v r k out h = byte (attribute_value p n xs x with_single v r) 39 SingleQuote k out class_single h

  pub open_quote : (p : Place) (n : List ℕ) (xs : List Pair) (x : List ℕ) (q : Quote) (k : List ℕ) (out : List Event) → Run l (attribute_value p n xs x q [] false) k out → Run l (before_attribute_value p n xs x) (quote_char q ∷ k) out
  open_quote p n xs x with_double k out h = byte (before_attribute_value p n xs x) 34 DoubleQuote k out class_double h
  open_quote p n xs x with_single k out h = byte (before_attribute_value p n xs x) 39 SingleQuote k out class_single h

  right_run : (p : Place) (n : List ℕ) (xs : List Pair) (x : List ℕ) (right k : List ℕ) (out : List Event) → IsSpace right → Run l (before_attribute_value p n xs x) k out → Run l (before_attribute_value p n xs x) (right ++ k) out
  right_run p n xs x [] k out g h = h
  right_run p n xs x (b ∷ right) k out g h = space (before_attribute_value p n xs x) b (right ++ k) out g.0 (right_run p n xs x right k out g.1 h)

  pub after_attribute_name_run : (p : Place) (n : List ℕ) (xs : List Pair) (x : List ℕ) (left k : List ℕ) (out : List Event) → IsSpace left → Run l (before_attribute_value p n xs x) k out → Run l (after_attribute_name p n xs x) (left ++ 61 ∷ k) out
  after_attribute_name_run p n xs x [] k out g h = byte (after_attribute_name p n xs x) 61 Equal k out class_equal h
  after_attribute_name_run p n xs x (b ∷ left) k out g h = space (after_attribute_name p n xs x) b (left ++ 61 ∷ k) out g.0 (after_attribute_name_run p n xs x left k out g.1 h)

  pub left_run : (p : Place) (n : List ℕ) (xs : List Pair) (x : List ℕ) (left k : List ℕ) (out : List Event) → clashes l xs x ≡ false → IsSpace left → Run l (before_attribute_value p n xs x) k out → Run l (attribute_name p n xs x) (left ++ 61 ∷ k) out
  left_run p n xs x [] k out o g h = byte (attribute_name p n xs x) 61 Equal k out class_equal (subst (λ t. along (λ t. Run l t k) (cond t (dead (w.Twice (length (encode_utf8_all x)))) (go (before_attribute_value p n xs x))) out) (sym o) h)
  left_run p n xs x (b ∷ left) k out o g h =
      space (attribute_name p n xs x) b (left ++ 61 ∷ k) out g.0 (subst (λ t. along (λ t. Run l t (left ++ 61 ∷ k)) (cond t (dead (w.Twice (length (encode_utf8_all x)))) (go (after_attribute_name p n xs x))) out) (sym o) (after_attribute_name_run p n xs x left k out g.1 h))

  first_run : (p : Place) (n : List ℕ) (xs : List Pair) (x k : List ℕ) (out : List Event) → IsName x → Run l (attribute_name p n xs x) k out → Run l (before_attribute_name p n xs) (x ++ k) out
  first_run p n xs [] k out g h = absurd g
  first_run p n xs (b ∷ x) k out g h = byte (before_attribute_name p n xs) b Letter (x ++ k) out g.0 (attribute_name_run p n xs (b ∷ []) x k out g.1 h)

  one_attr : (p : Place) (n : List ℕ) (xs : List Pair) (a : Attr) (k : List ℕ) (out : List Event) → IsAttr l xs a → Run l (after_attribute_value p n (xs ++ attr_of a ∷ [])) k out → Run l (after_attribute_value p n xs) (print_attr a k) out
  one_attr p n xs a k out g h =
      let q = a.quote in
      let k1 = quote_char q ∷ k in
      let k2 = print_value a.value k1 in
      let k3 = quote_char q ∷ k2 in
      let k4 = a.right ++ k3 in
      let k5 = a.left ++ 61 ∷ k4 in
      let k6 = a.name ++ k5 in
      space (after_attribute_value p n xs) a.first (a.before ++ k6) out g.first (before_attribute_name_spaces p n xs a.before k6 out g.before (first_run p n xs a.name k5 out g.name
      (left_run p n xs a.name a.left k4 out g.once g.left (right_run p n xs a.name a.right k3 out g.right (open_quote p n xs a.name q k2 out
      (attribute_value_run p n xs a.name q [] false a.value k1 out g.value (quote_run p n xs a.name q (value_of false a.value) (ends_return false a.value) k out h)))))))

  attrs_run : (p : Place) (n : List ℕ) (xs : List Pair) (ys : List Attr) (k : List ℕ) (out : List Event) → IsAttrs l xs ys → Run l (after_attribute_value p n (xs ++ map attr_of ys)) k out → Run l (after_attribute_value p n xs) (print_attrs ys k) out
  attrs_run p n xs [] k out g h = subst (λ y. Run l (after_attribute_value p n y) k out) (append-nil xs) h
  attrs_run p n xs (a ∷ ys) k out g h =
      one_attr p n xs a (print_attrs ys k) out g.0
      (attrs_run p n (xs ++ attr_of a ∷ []) ys k out g.1 (subst (λ y. Run l (after_attribute_value p n y) k out) (sym (append_assoc xs (attr_of a ∷ []) (map attr_of ys))) h))

  -- a tag
  letter_run : (p : Place) (b : ℕ) (k : List ℕ) (out : List Event) → class b ≡ Letter → may_open l p ≡ true → Run l (tag_name p (b ∷ [])) k out → Run l (tag_open p) (b ∷ k) out
  letter_run before b k out e o h = byte (tag_open before) b Letter k out e h
  letter_run (within []) b k out e o h = cc
  letter_run (within (n ∷ ns)) b k out e o h = byte (tag_open (within (n ∷ ns))) b Letter k out e (subst (λ t. along (λ t. Run l t k) (guard w.Deep t (tag_name (within (n ∷ ns)) (b ∷ []))) out) (sym o) h)

  pub tag_run : (p : Place) (n : List ℕ) (ys : List Attr) (gap k : List ℕ) (out : List Event) → may_open l p ≡ true → IsName n → IsAttrs l [] ys → IsSpace gap → Run l (after_attribute_value p n (map attr_of ys)) k out → Run l (tag_open p) (n ++ print_attrs ys (gap ++ k)) out
  tag_run p [] ys gap k out o gn ga gg h = absurd gn
  tag_run p (b ∷ n) ys gap k out o gn ga gg h =
      let k1 = print_attrs ys (gap ++ k) in
      letter_run p b (n ++ k1) out gn.0 o (name_run p (b ∷ []) n k1 out gn.1 (tag_name_run p (b ∷ n) k1 out
      (attrs_run p (b ∷ n) [] ys (gap ++ k) out ga (gap_run p (b ∷ n) (map attr_of ys) gap k out gg h))))

  pub content_less : (p : Place) (k : List ℕ) (out : List Event) → Run l (tag_open p) k out → Run l (m.content p) (60 ∷ k) out
  content_less before k out h = byte (m.content before) 60 Less k out class_less h
  content_less (within []) k out h = byte (m.content (within [])) 60 Less k out class_less h
  content_less (within (n ∷ ns)) k out h = byte (m.content (within (n ∷ ns))) 60 Less k out class_less h

  pub tag_open_bang : (p : Place) (k : List ℕ) (out : List Event) → Run l (markup_declaration p) k out → Run l (tag_open p) (33 ∷ k) out
  tag_open_bang before k out h = byte (tag_open before) 33 Bang k out class_bang h
  tag_open_bang (within []) k out h = byte (tag_open (within [])) 33 Bang k out class_bang h
  tag_open_bang (within (n ∷ ns)) k out h = byte (tag_open (within (n ∷ ns))) 33 Bang k out class_bang h

  pub markup_declaration_dash : (p : Place) (k : List ℕ) (out : List Event) → Run l (comment_start p) k out → Run l (markup_declaration p) (45 ∷ k) out
  markup_declaration_dash before k out h = byte (markup_declaration before) 45 Dash k out class_dash h
  markup_declaration_dash (within []) k out h = byte (markup_declaration (within [])) 45 Dash k out class_dash h
  markup_declaration_dash (within (n ∷ ns)) k out h = byte (markup_declaration (within (n ∷ ns))) 45 Dash k out class_dash h

  pub tag_open_question : (p : Place) (k : List ℕ) (out : List Event) → Run l (m.processing_instruction p) k out → Run l (tag_open p) (63 ∷ k) out
  tag_open_question before k out h = byte (tag_open before) 63 Question k out class_question h
  tag_open_question (within []) k out h = byte (tag_open (within [])) 63 Question k out class_question h
  tag_open_question (within (n ∷ ns)) k out h = byte (tag_open (within (n ∷ ns))) 63 Question k out class_question h

  -- after a tag that ends
  greater_run : (p : Place) (n : List ℕ) (xs : List Pair) (k : List ℕ) (out : List Event) → Run l (m.content (within (n ∷ stack p))) k out → Run l (after_attribute_value p n xs) (62 ∷ k) (begin n xs ∷ out)
  greater_run p n xs k out h = byte (after_attribute_value p n xs) 62 Greater k (begin n xs ∷ out) class_greater (out, refl, h)

  pub empty_run : (p : Place) (n : List ℕ) (xs : List Pair) (k : List ℕ) (out : List Event) → Run l (m.content (within (stack p))) k out → Run l (after_attribute_value p n xs) (47 ∷ 62 ∷ k) (begin n xs ∷ close ∷ out)
  empty_run p n xs k out h = byte (after_attribute_value p n xs) 47 Slash (62 ∷ k) (begin n xs ∷ close ∷ out) class_slash (byte (self_closing_start_tag p n xs) 62 Greater k (begin n xs ∷ close ∷ out) class_greater (out, refl, h))

  -- the end of an element
  pub after_end_tag_name_run : (ns : List (List ℕ)) (gap k : List ℕ) (out : List Event) → IsSpace gap → Run l (m.content (within ns)) k out → Run l (after_end_tag_name ns) (gap ++ 62 ∷ k) (close ∷ out)
  after_end_tag_name_run ns [] k out g h = byte (after_end_tag_name ns) 62 Greater k (close ∷ out) class_greater (out, refl, h)
  after_end_tag_name_run ns (b ∷ gap) k out g h = space (after_end_tag_name ns) b (gap ++ 62 ∷ k) (close ∷ out) g.0 (after_end_tag_name_run ns gap k out g.1 h)

  ended : (ns : List (List ℕ)) (k : List ℕ) (out : List Event) → Run l (after_end_tag_name ns) k out → Run l (end_tag_name ns []) k out
  ended ns [] out h = absurd h.0
  ended ns (b ∷ k) out h = h

  pub end_tag_name_run : (ns : List (List ℕ)) (todo k : List ℕ) (out : List Event) → Run l (after_end_tag_name ns) k out → Run l (end_tag_name ns todo) (todo ++ k) out
  end_tag_name_run ns [] k out h = ended ns k out h
  end_tag_name_run ns (b ∷ todo) k out h = subst (λ t. along (λ t. Run l t (todo ++ k)) (guard (m.partly b b) t (end_tag_name ns todo)) out) (sym (eq-eqb b b refl)) (end_tag_name_run ns todo k out h)

  pub close_run : (n : List ℕ) (ns : List (List ℕ)) (gap k : List ℕ) (out : List Event) → IsSpace gap → Run l (m.content (within ns)) k out → Run l (m.content (within (n ∷ ns))) (60 ∷ 47 ∷ (n ++ (gap ++ 62 ∷ k))) (close ∷ out)
  close_run n ns gap k out g h =
      let k1 = gap ++ 62 ∷ k in
      content_less (within (n ∷ ns)) (47 ∷ (n ++ k1)) (close ∷ out) (byte (tag_open (within (n ∷ ns))) 47 Slash (n ++ k1) (close ∷ out) class_slash (end_tag_name_run ns n k1 (close ∷ out) (after_end_tag_name_run ns gap k out g h)))

  -- comments
  comment_step : (p : Place) (k : Class) (b : ℕ) → legal k ≡ true → (k ≡ Dash → ⊥) → go (m.comment p) ≡ step_comment p k b
  comment_step p Dash b g d = absurd (d refl)
  comment_step p Bad b g d = cc
  comment_step p k b g d = refl

  dash_step : (p : Place) (k : Class) (b : ℕ) → legal k ≡ true → (k ≡ Dash → ⊥) → go (m.comment p) ≡ step_comment_dash p k b
  dash_step p Dash b g d = absurd (d refl)
  dash_step p Bad b g d = cc
  dash_step p k b g d = refl

  not_dash : (b : ℕ) (bytes : List ℕ) → no_dash_first (b ∷ bytes) ≡ true → class b ≡ Dash → ⊥
  not_dash b bytes h e = let f : b ≡ 45 = dash_is b e in cc

  pub comment_end_run : (p : Place) (k : List ℕ) (out : List Event) → Run l (m.content p) k out → Run l (m.comment p) (45 ∷ 45 ∷ 62 ∷ k) out
  comment_end_run p k out h =
      byte (m.comment p) 45 Dash (45 ∷ 62 ∷ k) out class_dash (byte (comment_dash p) 45 Dash (62 ∷ k) out class_dash (byte (comment_end p) 62 Greater k out class_greater h))

  -- the text, from a state after a dash too
  mutual
    comment_run : (p : Place) (t k : List ℕ) (out : List Event) → IsComment t → Run l (m.content p) k out → Run l (m.comment p) (t ++ 45 ∷ 45 ∷ 62 ∷ k) out
    comment_run p [] k out g h = comment_end_run p k out h
    comment_run p (b ∷ t) k out g h =
        elim (eqb_tells b 45) [
          | inl e ↦ byte (m.comment p) b Dash (t ++ 45 ∷ 45 ∷ 62 ∷ k) out (ap class e.1 ∙ class_dash) (comment_start_run p t k out (g.1 e.1) g.2 h)
          | inr e ↦ subst (λ s. along (λ u. Run l u (t ++ 45 ∷ 45 ∷ 62 ∷ k)) s out) (comment_step p (class b) b g.0 (λ d. e.1 (dash_is b d))) (comment_run p t k out g.2 h)
        ]

    comment_start_run : (p : Place) (t k : List ℕ) (out : List Event) → no_dash_first t ≡ true → IsComment t → Run l (m.content p) k out → Run l (comment_dash p) (t ++ 45 ∷ 45 ∷ 62 ∷ k) out
    comment_start_run p [] k out f g h = cc
    comment_start_run p (b ∷ t) k out f g h =
        subst (λ s. along (λ u. Run l u (t ++ 45 ∷ 45 ∷ 62 ∷ k)) s out) (dash_step p (class b) b g.0 (not_dash b t f)) (comment_run p t k out g.2 h)

  pub comment_at : (p : Place) (t k : List ℕ) (out : List Event) → IsComment t → Run l (m.content p) k out → Run l (m.content p) (60 ∷ 33 ∷ 45 ∷ 45 ∷ (t ++ 45 ∷ 45 ∷ 62 ∷ k)) out
  comment_at p t k out g h =
      let k1 = t ++ 45 ∷ 45 ∷ 62 ∷ k in
      content_less p (33 ∷ 45 ∷ 45 ∷ k1) out (tag_open_bang p (45 ∷ 45 ∷ k1) out (markup_declaration_dash p (45 ∷ k1) out (byte (comment_start p) 45 Dash k1 out class_dash (comment_run p t k out g h))))

  -- instructions
  ask_step : (p : Place) (k : Class) (b : ℕ) → legal k ≡ true → (k ≡ Question → ⊥) → go (m.instruction_text p) ≡ step_instruction_text p k b
  ask_step p Question b g d = absurd (d refl)
  ask_step p Bad b g d = cc
  ask_step p k b g d = refl

  ask_end_step : (p : Place) (k : Class) (b : ℕ) → legal k ≡ true → (k ≡ Question → ⊥) → (k ≡ Greater → ⊥) → go (m.instruction_text p) ≡ step_instruction_end p k b
  ask_end_step p Question b g d c = absurd (d refl)
  ask_end_step p Greater b g d c = absurd (c refl)
  ask_end_step p Bad b g d c = cc
  ask_end_step p k b g d c = refl

  -- where a test that holds is joined to another that does not
  joined : (s t : Bool) → s ≡ true → s && t ≡ false → t ≡ false
  joined true t e f = f
  joined false t e f = cc

  left_off : (s : Bool) → s && true ≡ false → s ≡ false
  left_off true h = h
  left_off false h = refl

  not_it : (b c : ℕ) → eqb b c ≡ false → b ≡ c → ⊥
  not_it b c h e = let z = eq-eqb b c e in absurd (cc (h, z))

  pub instruction_end_run : (p : Place) (k : List ℕ) (out : List Event) → Run l (m.content p) k out → Run l (m.instruction_end p) (62 ∷ k) out
  instruction_end_run p k out h = byte (m.instruction_end p) 62 Greater k out class_greater h

  mutual
    pub instruction_text_run : (p : Place) (t k : List ℕ) (out : List Event) → IsFree (63 ∷ 62 ∷ []) t → Run l (m.content p) k out → Run l (m.instruction_text p) (t ++ 63 ∷ 62 ∷ k) out
    instruction_text_run p [] k out g h = byte (m.instruction_text p) 63 Question (62 ∷ k) out class_question (instruction_end_run p k out h)
    instruction_text_run p (b ∷ t) k out g h =
        elim (eqb_tells b 63) [
          | inl e ↦ byte (m.instruction_text p) b Question (t ++ 63 ∷ 62 ∷ k) out (ap class e.1 ∙ class_question) (asking_run p t k out (joined (eqb b 63) (starts t (62 ∷ [])) (eq-eqb b 63 e.1) g.1) g.2 h)
          | inr e ↦ subst (λ s. along (λ u. Run l u (t ++ 63 ∷ 62 ∷ k)) s out) (ask_step p (class b) b g.0 (λ d. e.1 (question_is b d))) (instruction_text_run p t k out g.2 h)
        ]

    asking_run : (p : Place) (t k : List ℕ) (out : List Event) → starts t (62 ∷ []) ≡ false → IsFree (63 ∷ 62 ∷ []) t → Run l (m.content p) k out → Run l (m.instruction_end p) (t ++ 63 ∷ 62 ∷ k) out
    asking_run p [] k out f g h = byte (m.instruction_end p) 63 Question (62 ∷ k) out class_question (instruction_end_run p k out h)
    asking_run p (b ∷ t) k out f g h =
        elim (eqb_tells b 63) [
          | inl e ↦ byte (m.instruction_end p) b Question (t ++ 63 ∷ 62 ∷ k) out (ap class e.1 ∙ class_question) (asking_run p t k out (joined (eqb b 63) (starts t (62 ∷ [])) (eq-eqb b 63 e.1) g.1) g.2 h)
          | inr e ↦ subst (λ s. along (λ u. Run l u (t ++ 63 ∷ 62 ∷ k)) s out) (ask_end_step p (class b) b g.0 (λ d. e.1 (question_is b d)) (λ d. not_it b 62 (left_off (eqb b 62) f) (greater_is b d))) (instruction_text_run p t k out g.2 h)
        ]

  target_step : (p : Place) (n : List ℕ) (k : Class) (b : ℕ) → names k ≡ true → go (m.instruction_target p (n ++ b ∷ [])) ≡ step_instruction_target p n k b
  target_step p n Letter b h = refl
  target_step p n Digit b h = refl
  target_step p n Dash b h = refl
  target_step p n k b h = cc

  target_names : (p : Place) (n rest k : List ℕ) (out : List Event) → AllOf names rest → Run l (m.instruction_target p (n ++ rest)) k out → Run l (m.instruction_target p n) (rest ++ k) out
  target_names p n [] k out g h = subst (λ x. Run l (m.instruction_target p x) k out) (append-nil n) h
  target_names p n (b ∷ rest) k out g h =
      subst (λ s. along (λ t. Run l t (rest ++ k)) s out) (target_step p n (class b) b g.0)
      (target_names p (n ++ b ∷ []) rest k out g.1 (subst (λ x. Run l (m.instruction_target p x) k out) (sym (append_assoc n (b ∷ []) rest)) h))

  pub target_run : (p : Place) (n t k : List ℕ) (out : List Event) → is_xml n ≡ false → IsInstruction t → Run l (m.content p) k out → Run l (m.instruction_target p n) (t ++ 63 ∷ 62 ∷ k) out
  target_run p n [] k out e g h =
      byte (m.instruction_target p n) 63 Question (62 ∷ k) out class_question (subst (λ v. along (λ u. Run l u (62 ∷ k)) (guard w.Plain (not v) (m.instruction_target_end p)) out) (sym e) (byte (m.instruction_target_end p) 62 Greater k out class_greater h))
  target_run p n (b ∷ t) k out e g h =
      space (m.instruction_target p n) b (t ++ 63 ∷ 62 ∷ k) out g.0 (subst (λ v. along (λ u. Run l u (t ++ 63 ∷ 62 ∷ k)) (guard w.Plain (not v) (m.instruction_text p)) out) (sym e) (instruction_text_run p t k out g.1 h))

  named_target : (p : Place) (n k : List ℕ) (out : List Event) → IsName n → Run l (m.instruction_target p n) k out → Run l (m.processing_instruction p) (n ++ k) out
  named_target p [] k out g h = absurd g
  named_target p (b ∷ n) k out g h = byte (m.processing_instruction p) b Letter (n ++ k) out g.0 (target_names p (b ∷ []) n k out g.1 h)

  instruction_at : (p : Place) (n t k : List ℕ) (out : List Event) → IsTarget n → IsInstruction t → Run l (m.content p) k out → Run l (m.content p) (60 ∷ 63 ∷ (n ++ (t ++ 63 ∷ 62 ∷ k))) out
  instruction_at p n t k out y z h =
      let k1 = t ++ 63 ∷ 62 ∷ k in
      content_less p (63 ∷ (n ++ k1)) out (tag_open_question p (n ++ k1) out (named_target p n k1 out y.name (target_run p n t k out y.other z h)))

  -- sections
  plain_step : (n : List ℕ) (ns : List (List ℕ)) (k : Class) (b : ℕ) → legal k ≡ true → (k ≡ CloseBracket → ⊥) → go (m.cdata_section n ns) ≡ step_cdata_section n ns k b
  plain_step n ns CloseBracket b g d = absurd (d refl)
  plain_step n ns Bad b g d = cc
  plain_step n ns k b g d = refl

  one_step : (n : List ℕ) (ns : List (List ℕ)) (k : Class) (b : ℕ) → legal k ≡ true → (k ≡ CloseBracket → ⊥) → go (m.cdata_section n ns) ≡ step_cdata_section_bracket n ns k b
  one_step n ns CloseBracket b g d = absurd (d refl)
  one_step n ns Bad b g d = cc
  one_step n ns k b g d = refl

  two_step : (n : List ℕ) (ns : List (List ℕ)) (k : Class) (b : ℕ) → legal k ≡ true → (k ≡ CloseBracket → ⊥) → (k ≡ Greater → ⊥) → go (m.cdata_section n ns) ≡ step_cdata_section_end n ns k b
  two_step n ns CloseBracket b g d c = absurd (d refl)
  two_step n ns Greater b g d c = absurd (c refl)
  two_step n ns Bad b g d c = cc
  two_step n ns k b g d c = refl

  pub two_end : (n : List ℕ) (ns : List (List ℕ)) (k : List ℕ) (out : List Event) → Run l (m.content (within (n ∷ ns))) k out → Run l (m.cdata_section_end n ns) (62 ∷ k) out
  two_end n ns k out h = byte (m.cdata_section_end n ns) 62 Greater k out class_greater h

  pub one_end : (n : List ℕ) (ns : List (List ℕ)) (k : List ℕ) (out : List Event) → Run l (m.content (within (n ∷ ns))) k out → Run l (m.cdata_section_bracket n ns) (93 ∷ 62 ∷ k) out
  one_end n ns k out h = byte (m.cdata_section_bracket n ns) 93 CloseBracket (62 ∷ k) out class_close_bracket (two_end n ns k out h)

  mutual
    pub cdata_section_run : (n : List ℕ) (ns : List (List ℕ)) (t k : List ℕ) (out : List Event) → IsSection t → Run l (m.content (within (n ∷ ns))) k out → Run l (m.cdata_section n ns) (t ++ 93 ∷ 93 ∷ 62 ∷ k) out
    cdata_section_run n ns [] k out g h = byte (m.cdata_section n ns) 93 CloseBracket (93 ∷ 62 ∷ k) out class_close_bracket (one_end n ns k out h)
    cdata_section_run n ns (b ∷ t) k out g h =
        let k1 = t ++ 93 ∷ 93 ∷ 62 ∷ k in
        elim (eqb_tells b 93) [
          | inl e ↦ byte (m.cdata_section n ns) b CloseBracket k1 out (ap class e.1 ∙ class_close_bracket) (one_run n ns t k out (joined (eqb b 93) (starts t (93 ∷ 62 ∷ [])) (eq-eqb b 93 e.1) g.1) g.2 h)
          | inr e ↦ subst (λ s. along (λ u. Run l u k1) s out) (plain_step n ns (class b) b g.0 (λ d. e.1 (close_bracket_is b d))) (cdata_section_run n ns t k out g.2 h)
        ]

    one_run : (n : List ℕ) (ns : List (List ℕ)) (t k : List ℕ) (out : List Event) → starts t (93 ∷ 62 ∷ []) ≡ false → IsSection t → Run l (m.content (within (n ∷ ns))) k out → Run l (m.cdata_section_bracket n ns) (t ++ 93 ∷ 93 ∷ 62 ∷ k) out
    one_run n ns [] k out f g h = byte (m.cdata_section_bracket n ns) 93 CloseBracket (93 ∷ 62 ∷ k) out class_close_bracket (byte (m.cdata_section_end n ns) 93 CloseBracket (62 ∷ k) out class_close_bracket (two_end n ns k out h))
    one_run n ns (b ∷ t) k out f g h =
        let k1 = t ++ 93 ∷ 93 ∷ 62 ∷ k in
        elim (eqb_tells b 93) [
          | inl e ↦ byte (m.cdata_section_bracket n ns) b CloseBracket k1 out (ap class e.1 ∙ class_close_bracket)
              (two_run n ns t k out (joined (eqb b 93) (starts t (93 ∷ 62 ∷ [])) (eq-eqb b 93 e.1) g.1) (joined (eqb b 93) (starts t (62 ∷ [])) (eq-eqb b 93 e.1) f) g.2 h)
          | inr e ↦ subst (λ s. along (λ u. Run l u k1) s out) (one_step n ns (class b) b g.0 (λ d. e.1 (close_bracket_is b d))) (cdata_section_run n ns t k out g.2 h)
        ]

    two_run : (n : List ℕ) (ns : List (List ℕ)) (t k : List ℕ) (out : List Event) → starts t (93 ∷ 62 ∷ []) ≡ false → starts t (62 ∷ []) ≡ false → IsSection t → Run l (m.content (within (n ∷ ns))) k out → Run l (m.cdata_section_end n ns) (t ++ 93 ∷ 93 ∷ 62 ∷ k) out
    two_run n ns [] k out f c g h = byte (m.cdata_section_end n ns) 93 CloseBracket (93 ∷ 62 ∷ k) out class_close_bracket (byte (m.cdata_section_end n ns) 93 CloseBracket (62 ∷ k) out class_close_bracket (two_end n ns k out h))
    two_run n ns (b ∷ t) k out f c g h =
        let k1 = t ++ 93 ∷ 93 ∷ 62 ∷ k in
        elim (eqb_tells b 93) [
          | inl e ↦ byte (m.cdata_section_end n ns) b CloseBracket k1 out (ap class e.1 ∙ class_close_bracket)
              (two_run n ns t k out (joined (eqb b 93) (starts t (93 ∷ 62 ∷ [])) (eq-eqb b 93 e.1) g.1) (joined (eqb b 93) (starts t (62 ∷ [])) (eq-eqb b 93 e.1) f) g.2 h)
          | inr e ↦ subst (λ s. along (λ u. Run l u k1) s out) (two_step n ns (class b) b g.0 (λ d. e.1 (close_bracket_is b d)) (λ d. not_it b 62 (left_off (eqb b 62) c) (greater_is b d))) (cdata_section_run n ns t k out g.2 h)
        ]

  pub bracket_run : (n : List ℕ) (ns : List (List ℕ)) (t : ℕ) (todo k : List ℕ) (out : List Event) → Run l (m.cdata_section n ns) k out → Run l (m.cdata_start n ns t todo) (t ∷ (todo ++ k)) out
  bracket_run n ns t [] k out h = one (m.cdata_start n ns t []) (m.cdata_section n ns) t k out refl h
  bracket_run n ns t (u ∷ todo) k out h = one (m.cdata_start n ns t (u ∷ todo)) (m.cdata_start n ns u todo) t (u ∷ (todo ++ k)) out refl (bracket_run n ns u todo k out h)

  section_at : (n : List ℕ) (ns : List (List ℕ)) (t k : List ℕ) (out : List Event) → IsSection t → Run l (m.content (within (n ∷ ns))) k out → Run l (m.content (within (n ∷ ns))) (60 ∷ 33 ∷ 91 ∷ 67 ∷ 68 ∷ 65 ∷ 84 ∷ 65 ∷ 91 ∷ (t ++ 93 ∷ 93 ∷ 62 ∷ k)) out
  section_at n ns t k out g h =
      let k1 = t ++ 93 ∷ 93 ∷ 62 ∷ k in
      let p = within (n ∷ ns) in
      content_less p (33 ∷ 91 ∷ 67 ∷ 68 ∷ 65 ∷ 84 ∷ 65 ∷ 91 ∷ k1) out (tag_open_bang p (91 ∷ 67 ∷ 68 ∷ 65 ∷ 84 ∷ 65 ∷ 91 ∷ k1) out
      (byte (markup_declaration p) 91 OpenBracket (67 ∷ 68 ∷ 65 ∷ 84 ∷ 65 ∷ 91 ∷ k1) out class_open_bracket (bracket_run n ns 67 (68 ∷ 65 ∷ 84 ∷ 65 ∷ 91 ∷ []) k1 out (cdata_section_run n ns t k out g h))))

  -- content
  text_step : (n : List ℕ) (ns : List (List ℕ)) (k : Class) (b : ℕ) → is_text k ≡ true → go (m.content (within (n ∷ ns))) ≡ step_content (within (n ∷ ns)) k b
  text_step n ns Less b h = cc
  text_step n ns Ampersand b h = cc
  text_step n ns Bad b h = cc
  text_step n ns k b h = refl

  content_run : (c : Content) (n : List ℕ) (ns : List (List ℕ)) (k : List ℕ) (out : List Event) → IsContent l (length (n ∷ ns)) c → Run l (m.content (within (n ∷ ns))) k out → Run l (m.content (within (n ∷ ns))) (print c k) (events c out)
  content_run done n ns k out g h = h
  content_run (char b c) n ns k out g h =
      subst (λ s. along (λ t. Run l t (print c k)) s (events c out)) (text_step n ns (class b) b g.0) (content_run c n ns k out g.1 h)
  content_run (reference r c) n ns k out g h =
      byte (m.content (within (n ∷ ns))) 38 Ampersand (print_reference r (print c k)) (events c out) class_ampersand
      (hole_run (in_text n ns) r (print c k) (events c out) g.0 (content_run c n ns k out g.1 h))
  content_run (instruction y t c) n ns k out g h = instruction_at (within (n ∷ ns)) y t (print c k) (events c out) g.0 g.1 (content_run c n ns k out g.2 h)
  content_run (section t c) n ns k out g h = section_at n ns t (print c k) (events c out) g.0 (content_run c n ns k out g.1 h)
  content_run (comment t c) n ns k out g h = comment_at (within (n ∷ ns)) t (print c k) (events c out) g.0 (content_run c n ns k out g.1 h)
  content_run (empty t c) n ns k out g h =
      let q = print c k in let o = events c out in
      content_less (within (n ∷ ns)) (print_tag t (47 ∷ 62 ∷ q)) (tag_event t ∷ close ∷ o)
      (tag_run (within (n ∷ ns)) t.name t.attrs t.gap (47 ∷ 62 ∷ q) (tag_event t ∷ close ∷ o) g.0 g.1.name g.1.attrs g.1.gap
      (empty_run (within (n ∷ ns)) t.name (map attr_of t.attrs) q o (content_run c n ns k out g.2 h)))
  content_run (element t kids gap c) n ns k out g h =
      let q = print c k in let o = events c out in
      let q1 = 60 ∷ 47 ∷ (t.name ++ (gap ++ 62 ∷ q)) in
      let q2 = print kids q1 in let o2 = events kids (close ∷ o) in
      content_less (within (n ∷ ns)) (print_tag t (62 ∷ q2)) (tag_event t ∷ o2)
      (tag_run (within (n ∷ ns)) t.name t.attrs t.gap (62 ∷ q2) (tag_event t ∷ o2) g.0 g.1.name g.1.attrs g.1.gap
      (greater_run (within (n ∷ ns)) t.name (map attr_of t.attrs) q2 o2
      (content_run kids t.name (n ∷ ns) q1 (close ∷ o) g.2 (close_run t.name (n ∷ ns) gap q o g.3 (content_run c n ns k out g.4 h)))))

  misc_run : (c : Content) → IsMisc c → Run l (m.content (within [])) (print c []) (events c [])
  misc_run done g = (tt, refl)
  misc_run (char b c) g = space (m.content (within [])) b (print c []) (events c []) g.0 (misc_run c g.1)
  misc_run (comment t c) g = comment_at (within []) t (print c []) (events c []) g.0 (misc_run c g.1)
  misc_run (instruction y t c) g = instruction_at (within []) y t (print c []) (events c []) g.0 g.1 (misc_run c g.2)
  misc_run (reference r c) g = absurd g
  misc_run (section t c) g = absurd g
  misc_run (empty t c) g = absurd g
  misc_run (element t kids gap c) g = absurd g

  whole_run : (c : Content) → IsWhole l c → Run l (m.content before) (print c []) (events c [])
  whole_run done g = absurd g
  whole_run (char b c) g = space (m.content before) b (print c []) (events c []) g.0 (whole_run c g.1)
  whole_run (comment t c) g = comment_at before t (print c []) (events c []) g.0 (whole_run c g.1)
  whole_run (instruction y t c) g = instruction_at before y t (print c []) (events c []) g.0 g.1 (whole_run c g.2)
  whole_run (reference r c) g = absurd g
  whole_run (section t c) g = absurd g
  whole_run (empty t c) g =
      let q = print c [] in let o = events c [] in
      content_less before (print_tag t (47 ∷ 62 ∷ q)) (tag_event t ∷ close ∷ o)
      (tag_run before t.name t.attrs t.gap (47 ∷ 62 ∷ q) (tag_event t ∷ close ∷ o) refl g.0.name g.0.attrs g.0.gap
      (empty_run before t.name (map attr_of t.attrs) q o (misc_run c g.1)))
  whole_run (element t kids gap c) g =
      let q = print c [] in let o = events c [] in
      let q1 = 60 ∷ 47 ∷ (t.name ++ (gap ++ 62 ∷ q)) in
      let q2 = print kids q1 in let o2 = events kids (close ∷ o) in
      content_less before (print_tag t (62 ∷ q2)) (tag_event t ∷ o2)
      (tag_run before t.name t.attrs t.gap (62 ∷ q2) (tag_event t ∷ o2) refl g.0.name g.0.attrs g.0.gap
      (greater_run before t.name (map attr_of t.attrs) q2 o2
      (content_run kids t.name [] q1 (close ∷ o) g.1 (close_run t.name [] gap q o g.2 (misc_run c g.3)))))

  body_run : (text : List ℕ) (out : List Event) → Body l text out → Run l (m.content before) text out
  body_run text out (c, g, e, f) = subst (λ b. Run l (m.content before) b out) (sym e) (subst (λ o. Run l (m.content before) (print c []) o) (sym f) (whole_run c g))

  -- the declaration
  pub setting_name_run : (part : Part) (t : ℕ) (todo k : List ℕ) (out : List Event) → Run l (m.after_setting_name part) k out → Run l (m.setting_name part t todo) (t ∷ (todo ++ k)) out
  setting_name_run part t [] k out h = one (m.setting_name part t []) (m.after_setting_name part) t k out refl h
  setting_name_run part t (u ∷ todo) k out h = one (m.setting_name part t (u ∷ todo)) (m.setting_name part u todo) t (u ∷ (todo ++ k)) out refl (setting_name_run part u todo k out h)

  pub after_setting_name_run : (part : Part) (left k : List ℕ) (out : List Event) → IsSpace left → Run l (m.before_setting_value part) k out → Run l (m.after_setting_name part) (left ++ 61 ∷ k) out
  after_setting_name_run part [] k out g h = byte (m.after_setting_name part) 61 Equal k out class_equal h
  after_setting_name_run part (b ∷ left) k out g h = space (m.after_setting_name part) b (left ++ 61 ∷ k) out g.0 (after_setting_name_run part left k out g.1 h)

  pub before_setting_value_run : (part : Part) (right : List ℕ) (q : Quote) (k : List ℕ) (out : List Event) → IsSpace right → Run l (setting_value_start part q) k out → Run l (m.before_setting_value part) (right ++ quote_char q ∷ k) out
  before_setting_value_run part [] with_double k out g h = byte (m.before_setting_value part) 34 DoubleQuote k out class_double h
  before_setting_value_run part [] with_single k out g h = byte (m.before_setting_value part) 39 SingleQuote k out class_single h
  before_setting_value_run part (b ∷ right) q k out g h = space (m.before_setting_value part) b (right ++ quote_char q ∷ k) out g.0 (before_setting_value_run part right q k out g.1 h)

  fold_one : (s t : State) (part : Part) (u b : ℕ) (k : List ℕ) (out : List Event) → step l s (class b) b ≡ exactly (fold_for part u) (fold_for part b) t → fold_for part b ≡ fold_for part u → Run l t k out → Run l s (b ∷ k) out
  fold_one s t part u b k out e f h = subst (λ v. along (λ z. Run l z k) v out) (sym e) (subst (λ v. along (λ z. Run l z k) (guard w.Plain v t) out) (sym (eq-eqb (fold_for part b) (fold_for part u) f)) h)

  pub setting_value_end_run : (part : Part) (q : Quote) (k : List ℕ) (out : List Event) → Run l (m.after_setting part) k out → Run l (m.setting_value_end part q) (quote_char q ∷ k) out
  setting_value_end_run part q k out h = one (m.setting_value_end part q) (m.after_setting part) (quote_char q) k out refl h

  pub setting_value_run : (part : Part) (q : Quote) (t : ℕ) (todo v k : List ℕ) (out : List Event) → map (fold_for part) v ≡ map (fold_for part) (t ∷ todo) → Run l (m.after_setting part) k out → Run l (m.setting_value part q t todo) (v ++ quote_char q ∷ k) out
  setting_value_run part q t todo [] k out e h = absurd (cc)
  setting_value_run part q t [] (b ∷ []) k out e h = fold_one (m.setting_value part q t []) (m.setting_value_end part q) part t b (quote_char q ∷ k) out refl (cc e) (setting_value_end_run part q k out h)
  setting_value_run part q t [] (b ∷ c ∷ v) k out e h = absurd (cc)
  setting_value_run part q t (u ∷ todo) (b ∷ v) k out e h =
      fold_one (m.setting_value part q t (u ∷ todo)) (m.setting_value part q u todo) part t b (v ++ quote_char q ∷ k) out refl (cc e) (setting_value_run part q u todo v k out (cc e) h)

  standalone_value_run : (q : Quote) (v k : List ℕ) (out : List Event) → IsSettingValue standalone (map (fold_for standalone) v) → Run l (m.after_setting standalone) k out → Run l (m.standalone_value q) (v ++ quote_char q ∷ k) out
  standalone_value_run q [] k out (inl e) h = absurd (cc)
  standalone_value_run q [] k out (inr e) h = absurd (cc)
  standalone_value_run q (b ∷ v) k out (inl e) h =
      let f : b ≡ 121 = cc in
      subst (λ z. along (λ u. Run l u (v ++ quote_char q ∷ k)) (m.step_standalone_value q z) out) (sym f) (setting_value_run standalone q 101 (115 ∷ []) v k out (cc e) h)
  standalone_value_run q (b ∷ v) k out (inr e) h =
      let f : b ≡ 110 = cc in
      subst (λ z. along (λ u. Run l u (v ++ quote_char q ∷ k)) (m.step_standalone_value q z) out) (sym f) (setting_value_run standalone q 111 [] v k out (cc e) h)

  setting_value_start_run : (part : Part) (q : Quote) (v k : List ℕ) (out : List Event) → IsSettingValue part (map (fold_for part) v) → Run l (m.after_setting part) k out → Run l (setting_value_start part q) (v ++ quote_char q ∷ k) out
  setting_value_start_run version q v k out e h = setting_value_run version q 49 (46 ∷ 48 ∷ []) v k out e h
  setting_value_start_run encoding q v k out e h = setting_value_run encoding q 117 (116 ∷ 102 ∷ 45 ∷ 56 ∷ []) v k out e h
  setting_value_start_run standalone q v k out e h = standalone_value_run q v k out e h

  setting_run : (part : Part) (s : Setting) (k : List ℕ) (out : List Event) → IsSetting part s → Run l (m.after_setting part) k out → Run l (m.after_setting_name part) (print_setting_rest s k) out
  setting_run part s k out g h =
      let q = s.quote in
      let k1 = quote_char q ∷ k in
      let k2 = s.value ++ k1 in
      let k3 = quote_char q ∷ k2 in
      let k4 = s.right ++ k3 in
      after_setting_name_run part s.left k4 out g.left (before_setting_value_run part s.right q k2 out g.right (setting_value_start_run part q s.value k out g.value h))

  before_version_spaces : (sp k : List ℕ) (out : List Event) → IsSpace sp → Run l m.before_version k out → Run l m.before_version (sp ++ k) out
  before_version_spaces [] k out g h = h
  before_version_spaces (b ∷ sp) k out g h = space m.before_version b (sp ++ k) out g.0 (before_version_spaces sp k out g.1 h)

  between_settings_spaces : (part : Part) (sp k : List ℕ) (out : List Event) → IsSpace sp → Run l (m.between_settings part) k out → Run l (m.between_settings part) (sp ++ k) out
  between_settings_spaces part [] k out g h = h
  between_settings_spaces part (b ∷ sp) k out g h = space (m.between_settings part) b (sp ++ k) out g.0 (between_settings_spaces part sp k out g.1 h)

  class_v : class 118 ≡ Letter
  unfolding class other_class
  class_v = refl

  class_e : class 101 ≡ Letter
  unfolding class other_class
  class_e = refl

  class_s : class 115 ≡ Letter
  unfolding class other_class
  class_s = refl

  pub version_run : (k : List ℕ) (out : List Event) → Run l (m.after_setting_name version) k out → Run l m.before_version (word version ++ k) out
  version_run k out h = byte m.before_version 118 Letter (101 ∷ 114 ∷ 115 ∷ 105 ∷ 111 ∷ 110 ∷ k) out class_v (setting_name_run version 101 (114 ∷ 115 ∷ 105 ∷ 111 ∷ 110 ∷ []) k out h)

  encoding_run : (k : List ℕ) (out : List Event) → Run l (m.after_setting_name encoding) k out → Run l (m.between_settings version) (word encoding ++ k) out
  encoding_run k out h = byte (m.between_settings version) 101 Letter (110 ∷ 99 ∷ 111 ∷ 100 ∷ 105 ∷ 110 ∷ 103 ∷ k) out class_e (setting_name_run encoding 110 (99 ∷ 111 ∷ 100 ∷ 105 ∷ 110 ∷ 103 ∷ []) k out h)

  -- the parts after which `standalone` may stand
  abbrev MayStand : Part → Type 0
  MayStand version = Unit {0}
  MayStand encoding = Unit {0}
  MayStand standalone = ⊥

  standalone_run : (part : Part) (k : List ℕ) (out : List Event) → MayStand part → Run l (m.after_setting_name standalone) k out → Run l (m.between_settings part) (word standalone ++ k) out
  standalone_run version k out g h = byte (m.between_settings version) 115 Letter (116 ∷ 97 ∷ 110 ∷ 100 ∷ 97 ∷ 108 ∷ 111 ∷ 110 ∷ 101 ∷ k) out class_s (setting_name_run standalone 116 (97 ∷ 110 ∷ 100 ∷ 97 ∷ 108 ∷ 111 ∷ 110 ∷ 101 ∷ []) k out h)
  standalone_run encoding k out g h = byte (m.between_settings encoding) 115 Letter (116 ∷ 97 ∷ 110 ∷ 100 ∷ 97 ∷ 108 ∷ 111 ∷ 110 ∷ 101 ∷ k) out class_s (setting_name_run standalone 116 (97 ∷ 110 ∷ 100 ∷ 97 ∷ 108 ∷ 111 ∷ 110 ∷ 101 ∷ []) k out h)
  standalone_run standalone k out g h = absurd g

  pub declaration_end_run : (k : List ℕ) (out : List Event) → Run l (m.content before) k out → Run l m.declaration_end (62 ∷ k) out
  declaration_end_run k out h = byte m.declaration_end 62 Greater k out class_greater h

  pub after_setting_close : (part : Part) (gap k : List ℕ) (out : List Event) → IsSpace gap → Run l (m.content before) k out → Run l (m.after_setting part) (gap ++ 63 ∷ 62 ∷ k) out
  after_setting_close part [] k out g h = byte (m.after_setting part) 63 Question (62 ∷ k) out class_question (declaration_end_run k out h)
  after_setting_close part (b ∷ gap) k out g h =
      space (m.after_setting part) b (gap ++ 63 ∷ 62 ∷ k) out g.0 (between_settings_spaces part gap (63 ∷ 62 ∷ k) out g.1 (byte (m.between_settings part) 63 Question (62 ∷ k) out class_question (declaration_end_run k out h)))

  after_setting_standalone : (part : Part) (s : Option Setting) (gap k : List ℕ) (out : List Event) → MayStand part → IsMaybe standalone s → IsSpace gap → Run l (m.content before) k out → Run l (m.after_setting part) (print_maybe standalone s (gap ++ 63 ∷ 62 ∷ k)) out
  after_setting_standalone part None gap k out y g sp h = after_setting_close part gap k out sp h
  after_setting_standalone part (Some s) gap k out y g sp h =
      let k1 = gap ++ 63 ∷ 62 ∷ k in
      space (m.after_setting part) s.first (s.before ++ (word standalone ++ print_setting_rest s k1)) out g.first
      (between_settings_spaces part s.before (word standalone ++ print_setting_rest s k1) out g.before (standalone_run part (print_setting_rest s k1) out y (setting_run standalone s k1 out g (after_setting_close standalone gap k out sp h))))

  after_setting_encoding : (e s : Option Setting) (gap k : List ℕ) (out : List Event) → IsMaybe encoding e → IsMaybe standalone s → IsSpace gap → Run l (m.content before) k out → Run l (m.after_setting version) (print_maybe encoding e (print_maybe standalone s (gap ++ 63 ∷ 62 ∷ k))) out
  after_setting_encoding None s gap k out f g sp h = after_setting_standalone version s gap k out tt g sp h
  after_setting_encoding (Some e) s gap k out f g sp h =
      let k1 = print_maybe standalone s (gap ++ 63 ∷ 62 ∷ k) in
      space (m.after_setting version) e.first (e.before ++ (word encoding ++ print_setting_rest e k1)) out f.first
      (between_settings_spaces version e.before (word encoding ++ print_setting_rest e k1) out f.before (encoding_run (print_setting_rest e k1) out (setting_run encoding e k1 out f (after_setting_standalone encoding s gap k out tt g sp h))))

  class_x : class 120 ≡ Letter
  unfolding class other_class
  class_x = refl

  class_m : class 109 ≡ Letter
  unfolding class other_class
  class_m = refl

  class_l : class 108 ≡ Letter
  unfolding class other_class
  class_l = refl

  pub xml_run : (b : ℕ) (k : List ℕ) (out : List Event) → blanks (class b) ≡ true → Run l m.before_version k out → Run l m.after_byte_order_mark (60 ∷ 63 ∷ 120 ∷ 109 ∷ 108 ∷ b ∷ k) out
  xml_run b k out g h =
      byte m.after_byte_order_mark 60 Less (63 ∷ 120 ∷ 109 ∷ 108 ∷ b ∷ k) out class_less (byte m.document_tag_open 63 Question (120 ∷ 109 ∷ 108 ∷ b ∷ k) out class_question
      (byte m.document_processing_instruction 120 Letter (109 ∷ 108 ∷ b ∷ k) out class_x (byte (m.document_instruction_target (120 ∷ [])) 109 Letter (108 ∷ b ∷ k) out class_m
      (byte (m.document_instruction_target (120 ∷ 109 ∷ [])) 108 Letter (b ∷ k) out class_l (space (m.document_instruction_target (120 ∷ 109 ∷ 108 ∷ [])) b k out g h)))))

  declaration_run : (d : Declaration) (k : List ℕ) (out : List Event) → IsDeclaration d → Run l (m.content before) k out → Run l m.after_byte_order_mark (print_declaration d k) out
  declaration_run d k out g h =
      let v = d.version in
      let k1 = print_maybe encoding d.encoding (print_maybe standalone d.standalone (d.gap ++ 63 ∷ 62 ∷ k)) in
      xml_run v.first (v.before ++ (word version ++ print_setting_rest v k1)) out g.version.first
      (before_version_spaces v.before (word version ++ print_setting_rest v k1) out g.version.before (version_run (print_setting_rest v k1) out (setting_run version v k1 out g.version (after_setting_encoding d.encoding d.standalone d.gap k out g.encoding g.standalone g.gap h))))

  -- where a document begins, with no declaration
  small_xml : (n : List ℕ) → is_small_xml n ≡ true → is_xml n ≡ true
  small_xml n h = ap is_xml ((bytes_eq-Decides n (120 ∷ 109 ∷ 108 ∷ [])).0 h)

  not_small : (P : State → List Event → Type 0) (n : List ℕ) (out : List Event) (t : Bool) → t ≡ is_small_xml n → along P (guard w.Plain (not (is_xml n)) (m.instruction_text before)) out → along P (cond t (go m.before_version) (guard w.Plain (not (is_xml n)) (m.instruction_text before))) out
  not_small P n out true e h = absurd (subst (λ v. along P (guard w.Plain (not v) (m.instruction_text before)) out) (small_xml n (sym e)) h)
  not_small P n out false e h = h

  document_target_step : (P Q : State → List Event → Type 0) (n : List ℕ) (k : Class) (b : ℕ) (out : List Event) → ((o : List Event) → P (m.instruction_target before (n ++ b ∷ [])) o → Q (m.document_instruction_target (n ++ b ∷ [])) o) → ((s : State) (o : List Event) → P s o → Q s o) → along P (step_instruction_target before n k b) out → along Q (step_document_instruction_target n k b) out
  document_target_step P Q n Letter b out f i h = f out h
  document_target_step P Q n Digit b out f i h = f out h
  document_target_step P Q n Dash b out f i h = f out h
  document_target_step P Q n Blank b out f i h = not_small Q n out (is_small_xml n) refl (through (not (is_xml n)) (m.instruction_text before) h)
    where
      through : (t : Bool) (s : State) → along P (guard w.Plain t s) out → along Q (guard w.Plain t s) out
      through true s h = i s out h
      through false s h = absurd h
  document_target_step P Q n Question b out f i h = through (not (is_xml n)) (m.instruction_target_end before) h
    where
      through : (t : Bool) (s : State) → along P (guard w.Plain t s) out → along Q (guard w.Plain t s) out
      through true s h = i s out h
      through false s h = absurd h
  document_target_step P Q n k b out f i h = absurd h

  pub document_target_run : (n k : List ℕ) (out : List Event) → Run l (m.instruction_target before n) k out → Run l (m.document_instruction_target n) k out
  document_target_run n [] out h = absurd h.0
  document_target_run n (b ∷ k) out h = document_target_step (λ t. Run l t k) (λ t. Run l t k) n (class b) b out (λ o. document_target_run (n ++ b ∷ []) k o) (λ s o g. g) h

  document_processing_instruction_step : (k : List ℕ) (c : Class) (b : ℕ) (out : List Event) → along (λ t. Run l t k) (m.step_processing_instruction before c b) out → along (λ t. Run l t k) (step_document_processing_instruction c b) out
  document_processing_instruction_step k Letter b out h = document_target_run (b ∷ []) k out h
  document_processing_instruction_step k c b out h = absurd h

  pub document_processing_instruction_run : (k : List ℕ) (out : List Event) → Run l (m.processing_instruction before) k out → Run l m.document_processing_instruction k out
  document_processing_instruction_run [] out h = absurd h.0
  document_processing_instruction_run (b ∷ k) out h = document_processing_instruction_step k (class b) b out h

  document_tag_open_step : (k : List ℕ) (c : Class) (b : ℕ) (out : List Event) → along (λ t. Run l t k) (step_tag_open l before c b) out → along (λ t. Run l t k) (step_document_tag_open l c b) out
  document_tag_open_step k Question b out h = document_processing_instruction_run k out h
  document_tag_open_step k c b out h = h

  document_tag_open_run : (k : List ℕ) (out : List Event) → Run l (tag_open before) k out → Run l m.document_tag_open k out
  document_tag_open_run [] out h = absurd h.0
  document_tag_open_run (b ∷ k) out h = document_tag_open_step k (class b) b out h

  after_mark_step : (y : Why) (k : List ℕ) (c : Class) (b : ℕ) (out : List Event) → along (λ t. Run l t k) (step_content before c b) out → along (λ t. Run l t k) (step_after_byte_order_mark y c) out
  after_mark_step y k Less b out h = document_tag_open_run k out h
  after_mark_step y k Blank b out h = h
  after_mark_step y k c b out h = absurd h

  pub after_mark_run : (k : List ℕ) (out : List Event) → Run l (m.content before) k out → Run l m.after_byte_order_mark k out
  after_mark_run [] out h = absurd h.0
  after_mark_run (b ∷ k) out h = after_mark_step w.Plain k (class b) b out h

  after_mark_why : (k : List ℕ) (y z : Why) (c : Class) (out : List Event) → along (λ u. Run l u k) (step_after_byte_order_mark y c) out → along (λ u. Run l u k) (step_after_byte_order_mark z c) out
  after_mark_why k y z Less out h = h
  after_mark_why k y z Blank out h = h
  after_mark_why k y z c out h = absurd h

  start_step : (k : List ℕ) (b : ℕ) (out : List Event) (t : Bool) → t ≡ eqb b 65279 → along (λ u. Run l u k) (step_after_byte_order_mark w.Plain (class b)) out → along (λ u. Run l u k) (cond t (go m.after_byte_order_mark) (step_after_byte_order_mark (m.partly 65279 b) (class b))) out
  start_step k b out true e h = absurd (subst (λ c. along (λ u. Run l u k) (step_after_byte_order_mark w.Plain c) out) (ap class (eqb-true b 65279 (sym e)) ∙ class_of_mark) h)
  start_step k b out false e h = after_mark_why k w.Plain (m.partly 65279 b) (class b) out h

  pub start_run : (k : List ℕ) (out : List Event) → Run l m.after_byte_order_mark k out → Run l m.start k out
  start_run [] out h = absurd h.0
  start_run (b ∷ k) out h = start_step k b out (eqb b 65279) refl h

  unmarked_run : (text : List ℕ) (out : List Event) → Unmarked l text out → Run l m.after_byte_order_mark text out
  unmarked_run text out (inl h) = after_mark_run text out (body_run text out h)
  unmarked_run text out (inr (d, rest, g, e, h)) = subst (λ t. Run l m.after_byte_order_mark t out) (sym e) (declaration_run d rest out g (body_run rest out h))

  pub run_complete : (text : List ℕ) (out : List Event) → Document l text out → Run l m.start text out
  run_complete text out (inl h) = start_run text out (unmarked_run text out h)
  run_complete text out (inr (rest, e, h)) = subst (λ t. Run l m.start t out) (sym e) (unmarked_run rest out h)
