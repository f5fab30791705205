-- From each state that the machine comes to some text leads to the end of a document.
use Rattle.std.proofs.Common.{◌≡◌, ℕ, suc, ◌+◌, ◌*◌, ◌<◌, ◌≤◌, Bool, true, false, cond, List, [], ◌∷◌, ◌++◌, length, map, ◌⊎◌, inl, inr, refl, sym, ap, subst, arith, eqb, ltb, ◌||◌, ◌&&◌, not, length-append, replicate, zero}
use Rattle.std.proofs.lemmas.List.{length-replicate}
use Rattle.std.proofs.lemmas.Bool.Decides.{nat_tests}
use Rattle.std.proofs.lemmas.Slice.Eq.{bytes_eq-Decides}
use Rattle.std.specs.Str.{bytes_eq}
use Rattle.doc_grammar.specs.Characters.{class, other_class, names, is_char, AllOf}
use Rattle.doc_grammar.specs.Grammar.{Limits, clashes, Quote, with_double, quote_char, Part, version, encoding, standalone, word, fold_case, is_xml, Base, ten, sixteen, is_numeral, AllNumerals, with_digits, named, Pair, has, Event, begin, close, lt}
use Rattle.doc_grammar.specs.declared.characters.Class.TheVariants.{Letter, Dash, Greater, Question}
use Rattle.doc_grammar.specs.Machine.{Place, before, within, State, Step, dead, go, emit, stack, Hole, in_text, in_value, after_reference, setting_value_start, Run}
use Rattle.doc_grammar.specs.Machine as m
use Rattle.doc_grammar.proofs.Classes.{class_dash, class_greater, class_question, class_of_a}
use Rattle.doc_grammar.proofs.Forward as f

-- the number of a state that the machine comes to can still be a character's
abbrev pub Sane : State → Type 0
Sane (m.reference_digits h base n) = n ≤ 1114111
Sane s = Unit {0}

abbrev pub SaneStep : Step → Type 0
SaneStep (dead y) = Unit {0}
SaneStep (go s) = Sane s
SaneStep (emit s es) = Sane s

module _ (l : Limits) where
  -- what some bytes lead to
  abbrev pub Ends : State → List ℕ → Type 0
  Ends s bytes = (out : List Event) × Run l s bytes out

  abbrev pub closing : List (List ℕ) → List ℕ
  closing [] = []
  closing (n ∷ ns) = 60 ∷ 47 ∷ (n ++ 62 ∷ closing ns)

  closing_run : (ns : List (List ℕ)) → Ends (m.content (within ns)) (closing ns)
  closing_run [] = ([], (tt, refl))
  closing_run (n ∷ ns) = let h = closing_run ns in (close ∷ h.0, f.close_run l n ns [] (closing ns) h.0 tt h.1)

  abbrev pub finish_content : Place → List ℕ
  finish_content before = 60 ∷ 97 ∷ 47 ∷ 62 ∷ []
  finish_content (within ns) = closing ns

  empty_end : (p : Place) (n : List ℕ) (xs : List Pair) → Ends (m.after_attribute_value p n xs) (47 ∷ 62 ∷ closing (stack p))
  empty_end p n xs = let h = closing_run (stack p) in (begin n xs ∷ close ∷ h.0, f.empty_run l p n xs (closing (stack p)) h.0 h.1)

  content_end : (p : Place) → Ends (m.content p) (finish_content p)
  content_end before =
      let h = empty_end before (97 ∷ []) [] in
      (h.0, f.content_less l before (97 ∷ 47 ∷ 62 ∷ []) h.0 (f.byte l (m.tag_open before) 97 Letter (47 ∷ 62 ∷ []) h.0 class_of_a (f.tag_name_run l before (97 ∷ []) (47 ∷ 62 ∷ []) h.0 h.1)))
  content_end (within ns) = closing_run ns

  -- a name that a tag does not have yet
  abbrev pub total : List Pair → ℕ
  total [] = 0
  total (p ∷ ps) = length p.0 + total ps

  not_true : (t : Bool) → (t ≡ true → ⊥) → t ≡ false
  not_true true h = absurd (h refl)
  not_true false h = refl

  other_length : (a b : List ℕ) → length a < length b → bytes_eq a b ≡ false
  other_length a b h = not_true (bytes_eq a b) (λ e. let q = ap length ((bytes_eq-Decides a b).0 e) in absurd (omega (arith, q)))

  none_of : (s t : Bool) → s ≡ false → t ≡ false → s || t ≡ false
  none_of s t h k = cc

  longer : (xs : List Pair) (y : List ℕ) → total xs < length y → has xs y ≡ false
  longer [] y h = refl
  longer (p ∷ ps) y h = none_of (bytes_eq p.0 y) (has ps y) (other_length p.0 y (omega arith)) (longer ps y (omega arith))

  and_false : (s t : Bool) → t ≡ false → s && t ≡ false
  and_false true t h = h
  and_false false t h = refl

  abbrev pub pad : List Pair → List ℕ
  pad xs = replicate (suc (total xs)) 97

  fresh : (xs : List Pair) (x : List ℕ) → clashes l xs (x ++ pad xs) ≡ false
  fresh xs x = and_false (not l.twice) (has xs (x ++ pad xs)) (longer xs (x ++ pad xs) (omega (arith, length-append x (pad xs), length-replicate {A = ℕ} (suc (total xs)) 97)))

  pads : (n : ℕ) → AllOf names (replicate n 97)
  unfolding class other_class
  pads zero = tt
  pads (suc n) = (refl, pads n)

  abbrev pub tag_end : Place → List ℕ
  tag_end p = 47 ∷ 62 ∷ closing (stack p)

  attribute_value_end : (p : Place) (n : List ℕ) (xs : List Pair) (x : List ℕ) (q : Quote) (v : List ℕ) (r : Bool) → Ends (m.attribute_value p n xs x q v r) (quote_char q ∷ tag_end p)
  attribute_value_end p n xs x q v r = let h = empty_end p n (xs ++ (x, v) ∷ []) in (h.0, f.quote_run l p n xs x q v r (tag_end p) h.0 h.1)

  before_attribute_value_end : (p : Place) (n : List ℕ) (xs : List Pair) (x : List ℕ) → Ends (m.before_attribute_value p n xs x) (34 ∷ 34 ∷ tag_end p)
  before_attribute_value_end p n xs x = let h = attribute_value_end p n xs x with_double [] false in (h.0, f.open_quote l p n xs x with_double (34 ∷ tag_end p) h.0 h.1)

  abbrev pub finish_hole : Hole → List ℕ
  finish_hole (in_text n ns) = closing (n ∷ ns)
  finish_hole (in_value p n xs x q v) = quote_char q ∷ tag_end p

  hole_end : (h : Hole) (code : ℕ) → Ends (after_reference h code) (finish_hole h)
  hole_end (in_text n ns) code = closing_run (n ∷ ns)
  hole_end (in_value p n xs x q v) code = attribute_value_end p n xs x q (v ++ code ∷ []) false

  -- the digits that make a character of a number, and the end of the reference
  abbrev pub more_digits : ℕ → List ℕ
  more_digits n = cond (is_char n) [] (cond (eqb n 0) (57 ∷ []) (cond (ltb n 32) (48 ∷ 48 ∷ []) (48 ∷ [])))

  abbrev pub body_end : List ℕ
  body_end = finish_content before

  abbrev pub after_setting_ending : List ℕ
  after_setting_ending = 63 ∷ 62 ∷ body_end

  -- the value, from the end of the quote on
  abbrev pub setting_value_ending : Part → Quote → List ℕ
  setting_value_ending version q = 49 ∷ 46 ∷ 48 ∷ quote_char q ∷ after_setting_ending
  setting_value_ending encoding q = 117 ∷ 116 ∷ 102 ∷ 45 ∷ 56 ∷ quote_char q ∷ after_setting_ending
  setting_value_ending standalone q = 110 ∷ 111 ∷ quote_char q ∷ after_setting_ending

  abbrev pub after_setting_name_ending : Part → List ℕ
  after_setting_name_ending part = 61 ∷ 34 ∷ setting_value_ending part with_double

  abbrev pub finish : State → List ℕ
  finish m.start = body_end
  finish m.after_byte_order_mark = body_end
  finish m.document_tag_open = 63 ∷ 97 ∷ 63 ∷ 62 ∷ body_end
  finish m.document_processing_instruction = 97 ∷ 63 ∷ 62 ∷ body_end
  finish (m.document_instruction_target n) = 97 ∷ 63 ∷ 62 ∷ body_end
  finish m.before_version = word version ++ after_setting_name_ending version
  finish (m.after_setting part) = after_setting_ending
  finish (m.between_settings part) = after_setting_ending
  finish (m.setting_name part t todo) = t ∷ (todo ++ after_setting_name_ending part)
  finish (m.after_setting_name part) = after_setting_name_ending part
  finish (m.before_setting_value part) = 34 ∷ setting_value_ending part with_double
  finish (m.standalone_value q) = 110 ∷ 111 ∷ quote_char q ∷ after_setting_ending
  finish (m.setting_value part q t todo) = t ∷ (todo ++ quote_char q ∷ after_setting_ending)
  finish (m.setting_value_end part q) = quote_char q ∷ after_setting_ending
  finish m.declaration_end = 62 ∷ body_end
  finish (m.content p) = finish_content p
  finish (m.tag_open p) = 33 ∷ 45 ∷ 45 ∷ 45 ∷ 45 ∷ 62 ∷ finish_content p
  finish (m.markup_declaration p) = 45 ∷ 45 ∷ 45 ∷ 45 ∷ 62 ∷ finish_content p
  finish (m.comment_start p) = 45 ∷ 45 ∷ 45 ∷ 62 ∷ finish_content p
  finish (m.comment p) = 45 ∷ 45 ∷ 62 ∷ finish_content p
  finish (m.comment_dash p) = 45 ∷ 62 ∷ finish_content p
  finish (m.comment_end p) = 62 ∷ finish_content p
  finish (m.processing_instruction p) = 97 ∷ 63 ∷ 62 ∷ finish_content p
  finish (m.instruction_target p n) = 97 ∷ 63 ∷ 62 ∷ finish_content p
  finish (m.instruction_target_end p) = 62 ∷ finish_content p
  finish (m.instruction_text p) = 63 ∷ 62 ∷ finish_content p
  finish (m.instruction_end p) = 62 ∷ finish_content p
  finish (m.cdata_start n ns t todo) = t ∷ (todo ++ 93 ∷ 93 ∷ 62 ∷ closing (n ∷ ns))
  finish (m.cdata_section n ns) = 93 ∷ 93 ∷ 62 ∷ closing (n ∷ ns)
  finish (m.cdata_section_bracket n ns) = 93 ∷ 62 ∷ closing (n ∷ ns)
  finish (m.cdata_section_end n ns) = 62 ∷ closing (n ∷ ns)
  finish (m.tag_name p n) = tag_end p
  finish (m.before_attribute_name p n xs) = tag_end p
  finish (m.attribute_name p n xs x) = pad xs ++ 61 ∷ 34 ∷ 34 ∷ tag_end p
  finish (m.after_attribute_name p n xs x) = 61 ∷ 34 ∷ 34 ∷ tag_end p
  finish (m.before_attribute_value p n xs x) = 34 ∷ 34 ∷ tag_end p
  finish (m.attribute_value p n xs x q v r) = quote_char q ∷ tag_end p
  finish (m.after_attribute_value p n xs) = tag_end p
  finish (m.self_closing_start_tag p n xs) = 62 ∷ closing (stack p)
  finish (m.end_tag_name ns todo) = todo ++ 62 ∷ closing ns
  finish (m.after_end_tag_name ns) = 62 ∷ closing ns
  finish (m.reference h) = 108 ∷ 116 ∷ 59 ∷ finish_hole h
  finish (m.reference_a h) = 109 ∷ 112 ∷ 59 ∷ finish_hole h
  finish (m.named_reference h code t todo) = t ∷ (todo ++ finish_hole h)
  finish (m.numeric_reference h) = 57 ∷ 59 ∷ finish_hole h
  finish (m.hexadecimal_reference h) = 57 ∷ 59 ∷ finish_hole h
  finish (m.reference_digits h base n) = more_digits n ++ 59 ∷ finish_hole h

  comment_end : (p : Place) → Ends (m.comment p) (45 ∷ 45 ∷ 62 ∷ finish_content p)
  comment_end p = let h = content_end p in (h.0, f.comment_end_run l p (finish_content p) h.0 h.1)

  comment_start_end : (p : Place) → Ends (m.comment_start p) (45 ∷ 45 ∷ 45 ∷ 62 ∷ finish_content p)
  comment_start_end p = let h = comment_end p in (h.0, f.byte l (m.comment_start p) 45 Dash (45 ∷ 45 ∷ 62 ∷ finish_content p) h.0 class_dash h.1)

  markup_declaration_end : (p : Place) → Ends (m.markup_declaration p) (45 ∷ 45 ∷ 45 ∷ 45 ∷ 62 ∷ finish_content p)
  markup_declaration_end p = let h = comment_start_end p in (h.0, f.markup_declaration_dash l p (45 ∷ 45 ∷ 45 ∷ 62 ∷ finish_content p) h.0 h.1)

  named_reference_end : (h : Hole) (code t : ℕ) (todo k : List ℕ) (out : List Event) → Run l (after_reference h code) k out → Run l (m.named_reference h code t todo) (t ∷ (todo ++ k)) out
  named_reference_end h code t [] k out r = f.one l (m.named_reference h code t []) (after_reference h code) t k out refl r
  named_reference_end h code t (u ∷ todo) k out r = f.one l (m.named_reference h code t (u ∷ todo)) (m.named_reference h code u todo) t (u ∷ (todo ++ k)) out refl (named_reference_end h code u todo k out r)

  -- no name that ends in `a` is `xml`
  not_xml : (n : List ℕ) → is_xml (n ++ 97 ∷ []) ≡ false
  not_xml [] = refl
  not_xml (a ∷ []) = and_false (eqb (fold_case a) 120) false refl
  not_xml (a ∷ b ∷ []) = and_false (eqb (fold_case a) 120) (eqb (fold_case b) 109 && false) (and_false (eqb (fold_case b) 109) false refl)
  not_xml (a ∷ b ∷ c ∷ n) = and_false (eqb (fold_case a) 120) _ (and_false (eqb (fold_case b) 109) _ (and_false (eqb (fold_case c) 108) _ (no_more n)))
    where
      no_more : (n : List ℕ) → bytes_eq (map fold_case (n ++ 97 ∷ [])) [] ≡ false
      no_more [] = refl
      no_more (d ∷ n) = refl

  target_ends : (p : Place) (n : List ℕ) → Ends (m.instruction_target p n) (97 ∷ 63 ∷ 62 ∷ finish_content p)
  target_ends p n = let h = content_end p in (h.0, f.byte l (m.instruction_target p n) 97 Letter (63 ∷ 62 ∷ finish_content p) h.0 class_of_a (f.target_run l p (n ++ 97 ∷ []) [] (finish_content p) h.0 (not_xml n) tt h.1))

  processing_instruction_ends : (p : Place) → Ends (m.processing_instruction p) (97 ∷ 63 ∷ 62 ∷ finish_content p)
  processing_instruction_ends p = let h = content_end p in (h.0, f.byte l (m.processing_instruction p) 97 Letter (63 ∷ 62 ∷ finish_content p) h.0 class_of_a (f.target_run l p (97 ∷ []) [] (finish_content p) h.0 refl tt h.1))

  document_target_ends : (n : List ℕ) → Ends (m.document_instruction_target n) (97 ∷ 63 ∷ 62 ∷ body_end)
  document_target_ends n = let h = content_end before in (h.0, f.byte l (m.document_instruction_target n) 97 Letter (63 ∷ 62 ∷ body_end) h.0 class_of_a (f.document_target_run l (n ++ 97 ∷ []) (63 ∷ 62 ∷ body_end) h.0 (f.target_run l before (n ++ 97 ∷ []) [] body_end h.0 (not_xml n) tt h.1)))

  document_instruction_ends : Ends m.document_processing_instruction (97 ∷ 63 ∷ 62 ∷ body_end)
  document_instruction_ends = let h = processing_instruction_ends before in (h.0, f.document_processing_instruction_run l (97 ∷ 63 ∷ 62 ∷ body_end) h.0 h.1)

  after_setting_ends : (part : Part) → Ends (m.after_setting part) after_setting_ending
  after_setting_ends part = let h = content_end before in (h.0, f.after_setting_close l part [] body_end h.0 tt h.1)

  setting_value_closes : (part : Part) (q : Quote) → Ends (m.setting_value_end part q) (quote_char q ∷ after_setting_ending)
  setting_value_closes part q = let h = after_setting_ends part in (h.0, f.setting_value_end_run l part q after_setting_ending h.0 h.1)

  setting_value_ends : (part : Part) (q : Quote) (t : ℕ) (todo : List ℕ) → Ends (m.setting_value part q t todo) (t ∷ (todo ++ quote_char q ∷ after_setting_ending))
  setting_value_ends part q t todo = let h = after_setting_ends part in (h.0, f.setting_value_run l part q t todo (t ∷ todo) after_setting_ending h.0 refl h.1)

  open_end : (part : Part) (q : Quote) → Ends (setting_value_start part q) (setting_value_ending part q)
  open_end version q = setting_value_ends version q 49 (46 ∷ 48 ∷ [])
  open_end encoding q = setting_value_ends encoding q 117 (116 ∷ 102 ∷ 45 ∷ 56 ∷ [])
  open_end standalone q = let h = setting_value_ends standalone q 111 [] in (h.0, h.1)

  before_setting_value_end : (part : Part) → Ends (m.before_setting_value part) (34 ∷ setting_value_ending part with_double)
  before_setting_value_end part = let h = open_end part with_double in (h.0, f.before_setting_value_run l part [] with_double (setting_value_ending part with_double) h.0 tt h.1)

  after_setting_name_end : (part : Part) → Ends (m.after_setting_name part) (after_setting_name_ending part)
  after_setting_name_end part = let h = before_setting_value_end part in (h.0, f.after_setting_name_run l part [] (34 ∷ setting_value_ending part with_double) h.0 tt h.1)

  section_end : (n : List ℕ) (ns : List (List ℕ)) → Ends (m.cdata_section n ns) (93 ∷ 93 ∷ 62 ∷ closing (n ∷ ns))
  section_end n ns = let h = closing_run (n ∷ ns) in (h.0, f.cdata_section_run l n ns [] (closing (n ∷ ns)) h.0 tt h.1)

  -- numbers
  more_numerals : (base : Base) (n : ℕ) → AllNumerals base (more_digits n)
  more_numerals base n = pick (is_char n) (eqb n 0) (ltb n 32) (nine base) (naught base)
    where
      nine : (base : Base) → is_numeral base 57 ≡ true
      nine ten = refl
      nine sixteen = refl

      naught : (base : Base) → is_numeral base 48 ≡ true
      naught ten = refl
      naught sixteen = refl

      pick : (t u v : Bool) → is_numeral base 57 ≡ true → is_numeral base 48 ≡ true → AllNumerals base (cond t [] (cond u (57 ∷ []) (cond v (48 ∷ 48 ∷ []) (48 ∷ []))))
      pick true u v a b = tt
      pick false true v a b = (a, tt)
      pick false false true a b = (b, (b, tt))
      pick false false false a b = (b, tt)

  small_char : (n m : ℕ) → n < 32 → 0 < n → (m ≡ 100 * n) ⊎ (m ≡ 256 * n) → is_char m ≡ true
  small_char n m h k (inl e) = let a : 32 ≤ m = omega arith in let b : m ≤ 55295 = omega arith in grind (arith, nat_tests)
  small_char n m h k (inr e) = let a : 32 ≤ m = omega arith in let b : m ≤ 55295 = omega arith in grind (arith, nat_tests)

  great_char : (m : ℕ) → 65536 ≤ m → m ≤ 1114111 → is_char m ≡ true
  great_char m a b = grind (arith, nat_tests)

  -- a number past white space that is no character
  gap_char : (n : ℕ) → is_char n ≡ false → 32 ≤ n → n ≤ 1114111 → (55296 ≤ n) × (n ≤ 65535)
  gap_char n e a b = (grind (arith, nat_tests), grind (arith, nat_tests))

  done_char : (base : Base) (n : ℕ) → n ≤ 1114111 → (t : Bool) → t ≡ is_char n → (u : Bool) → u ≡ eqb n 0 → (v : Bool) → v ≡ ltb n 32
      → is_char (with_digits base n (cond t [] (cond u (57 ∷ []) (cond v (48 ∷ 48 ∷ []) (48 ∷ []))))) ≡ true
  done_char base n h true e u f v k = sym e
  done_char ten n h false e true f v k = let z : n ≡ 0 = grind (arith, nat_tests) in subst (λ y. is_char (with_digits ten y (57 ∷ [])) ≡ true) (sym z) refl
  done_char sixteen n h false e true f v k = let z : n ≡ 0 = grind (arith, nat_tests) in subst (λ y. is_char (with_digits sixteen y (57 ∷ [])) ≡ true) (sym z) refl
  done_char ten n h false e false f true k =
      let a : n < 32 = grind (arith, nat_tests) in let b : 0 < n = grind (arith, nat_tests) in small_char n (with_digits ten n (48 ∷ 48 ∷ [])) a b (inl (omega arith))
  done_char sixteen n h false e false f true k =
      let a : n < 32 = grind (arith, nat_tests) in let b : 0 < n = grind (arith, nat_tests) in small_char n (with_digits sixteen n (48 ∷ 48 ∷ [])) a b (inr (omega arith))
  done_char ten n h false e false f false k =
      let a : 32 ≤ n = grind (arith, nat_tests) in let b = gap_char n (sym e) a h in great_char (with_digits ten n (48 ∷ [])) (omega (arith, b)) (omega (arith, b))
  done_char sixteen n h false e false f false k =
      let a : 32 ≤ n = grind (arith, nat_tests) in let b = gap_char n (sym e) a h in great_char (with_digits sixteen n (48 ∷ [])) (omega (arith, b)) (omega (arith, b))

  reference_digits_end : (h : Hole) (base : Base) (n : ℕ) → n ≤ 1114111 → Ends (m.reference_digits h base n) (more_digits n ++ 59 ∷ finish_hole h)
  reference_digits_end h base n s =
      let ds = more_digits n in
      let r = hole_end h (with_digits base n ds) in
      (r.0, f.reference_digits_run l h base n ds (finish_hole h) r.0 (more_numerals base n) (done_char base n s (is_char n) refl (eqb n 0) refl (ltb n 32) refl) r.1)

  first_end : (h : Hole) (base : Base) (n : ℕ) → n ≡ 9 → Ends (m.reference_digits h base n) (59 ∷ finish_hole h)
  first_end h base n e =
      subst (λ z. Ends (m.reference_digits h base z) (59 ∷ finish_hole h)) (sym e) (let r = hole_end h 9 in (r.0, f.reference_digits_run l h base 9 [] (finish_hole h) r.0 tt refl r.1))

  pub finish_run : (s : State) → Sane s → Ends s (finish s)
  finish_run m.start y = let h = content_end before in (h.0, f.start_run l body_end h.0 (f.after_mark_run l body_end h.0 h.1))
  finish_run m.after_byte_order_mark y = let h = content_end before in (h.0, f.after_mark_run l body_end h.0 h.1)
  finish_run m.document_tag_open y = let h = document_instruction_ends in (h.0, f.byte l m.document_tag_open 63 Question (97 ∷ 63 ∷ 62 ∷ body_end) h.0 class_question h.1)
  finish_run m.document_processing_instruction y = document_instruction_ends
  finish_run (m.document_instruction_target n) y = document_target_ends n
  finish_run m.before_version y = let h = after_setting_name_end version in (h.0, f.version_run l (after_setting_name_ending version) h.0 h.1)
  finish_run (m.after_setting part) y = after_setting_ends part
  finish_run (m.between_settings part) y = let h = content_end before in (h.0, f.byte l (m.between_settings part) 63 Question (62 ∷ body_end) h.0 class_question (f.declaration_end_run l body_end h.0 h.1))
  finish_run (m.setting_name part t todo) y = let h = after_setting_name_end part in (h.0, f.setting_name_run l part t todo (after_setting_name_ending part) h.0 h.1)
  finish_run (m.after_setting_name part) y = after_setting_name_end part
  finish_run (m.before_setting_value part) y = before_setting_value_end part
  finish_run (m.standalone_value q) y = open_end standalone q
  finish_run (m.setting_value part q t todo) y = setting_value_ends part q t todo
  finish_run (m.setting_value_end part q) y = setting_value_closes part q
  finish_run m.declaration_end y = let h = content_end before in (h.0, f.declaration_end_run l body_end h.0 h.1)
  finish_run (m.content p) y = content_end p
  finish_run (m.tag_open p) y = let h = markup_declaration_end p in (h.0, f.tag_open_bang l p (45 ∷ 45 ∷ 45 ∷ 45 ∷ 62 ∷ finish_content p) h.0 h.1)
  finish_run (m.markup_declaration p) y = markup_declaration_end p
  finish_run (m.comment_start p) y = comment_start_end p
  finish_run (m.comment p) y = comment_end p
  finish_run (m.comment_dash p) y = let h = content_end p in (h.0, f.byte l (m.comment_dash p) 45 Dash (62 ∷ finish_content p) h.0 class_dash (f.byte l (m.comment_end p) 62 Greater (finish_content p) h.0 class_greater h.1))
  finish_run (m.comment_end p) y = let h = content_end p in (h.0, f.byte l (m.comment_end p) 62 Greater (finish_content p) h.0 class_greater h.1)
  finish_run (m.processing_instruction p) y = processing_instruction_ends p
  finish_run (m.instruction_target p n) y = target_ends p n
  finish_run (m.instruction_target_end p) y = let h = content_end p in (h.0, f.byte l (m.instruction_target_end p) 62 Greater (finish_content p) h.0 class_greater h.1)
  finish_run (m.instruction_text p) y = let h = content_end p in (h.0, f.instruction_text_run l p [] (finish_content p) h.0 tt h.1)
  finish_run (m.instruction_end p) y = let h = content_end p in (h.0, f.instruction_end_run l p (finish_content p) h.0 h.1)
  finish_run (m.cdata_start n ns t todo) y = let h = section_end n ns in (h.0, f.bracket_run l n ns t todo (93 ∷ 93 ∷ 62 ∷ closing (n ∷ ns)) h.0 h.1)
  finish_run (m.cdata_section n ns) y = section_end n ns
  finish_run (m.cdata_section_bracket n ns) y = let h = closing_run (n ∷ ns) in (h.0, f.one_end l n ns (closing (n ∷ ns)) h.0 h.1)
  finish_run (m.cdata_section_end n ns) y = let h = closing_run (n ∷ ns) in (h.0, f.two_end l n ns (closing (n ∷ ns)) h.0 h.1)
  finish_run (m.tag_name p n) y = let h = empty_end p n [] in (h.0, f.tag_name_run l p n (tag_end p) h.0 h.1)
  finish_run (m.before_attribute_name p n xs) y = let h = empty_end p n xs in (h.0, f.before_attribute_name_run l p n xs (tag_end p) h.0 h.1)
  finish_run (m.attribute_name p n xs x) y =
      let h = before_attribute_value_end p n xs (x ++ pad xs) in
      (h.0, f.attribute_name_run l p n xs x (pad xs) (61 ∷ 34 ∷ 34 ∷ tag_end p) h.0 (pads (suc (total xs))) (f.left_run l p n xs (x ++ pad xs) [] (34 ∷ 34 ∷ tag_end p) h.0 (fresh xs x) tt h.1))
  finish_run (m.after_attribute_name p n xs x) y = let h = before_attribute_value_end p n xs x in (h.0, f.after_attribute_name_run l p n xs x [] (34 ∷ 34 ∷ tag_end p) h.0 tt h.1)
  finish_run (m.before_attribute_value p n xs x) y = before_attribute_value_end p n xs x
  finish_run (m.attribute_value p n xs x q v r) y = attribute_value_end p n xs x q v r
  finish_run (m.after_attribute_value p n xs) y = empty_end p n xs
  finish_run (m.self_closing_start_tag p n xs) y = let h = closing_run (stack p) in (begin n xs ∷ close ∷ h.0, f.byte l (m.self_closing_start_tag p n xs) 62 Greater (closing (stack p)) (begin n xs ∷ close ∷ h.0) class_greater (h.0, refl, h.1))
  finish_run (m.end_tag_name ns todo) y = let h = closing_run ns in (close ∷ h.0, f.end_tag_name_run l ns todo (62 ∷ closing ns) (close ∷ h.0) (f.after_end_tag_name_run l ns [] (closing ns) h.0 tt h.1))
  finish_run (m.after_end_tag_name ns) y = let h = closing_run ns in (close ∷ h.0, f.after_end_tag_name_run l ns [] (closing ns) h.0 tt h.1)
  finish_run (m.reference h) y = let r = hole_end h 60 in (r.0, f.hole_run l h (named lt) (finish_hole h) r.0 tt r.1)
  finish_run (m.reference_a h) y = let r = hole_end h 38 in (r.0, r.1)
  finish_run (m.named_reference h code t todo) y = let r = hole_end h code in (r.0, named_reference_end h code t todo (finish_hole h) r.0 r.1)
  finish_run (m.numeric_reference h) y = first_end h ten 9 refl
  finish_run (m.hexadecimal_reference h) y = first_end h sixteen 9 refl
  finish_run (m.reference_digits h base n) y = reference_digits_end h base n y
