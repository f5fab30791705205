-- What the machine reads is of the grammar: a step back from what may follow.
use Rattle.std.proofs.Common.{◌≡◌, ℕ, Bool, true, false, cond, not, ◌&&◌, List, [], ◌∷◌, ◌++◌, length, map, ◌⊎◌, inl, inr, refl, sym, ap, ◌∙◌, subst, append_assoc, arith, eqb, leb, Some, None}
use Rattle.std.proofs.lemmas.Bool.{eqb-true}
use Rattle.std.specs.Str.{encode_utf8_all}
use Rattle.std.proofs.lemmas.List.{append-nil}
use Rattle.std.proofs.lemmas.Bool.Decides.{nat_tests}
use Rattle.std.proofs.lemmas.Slice.Eq.{bytes_eq-Decides}
use Rattle.doc_grammar.specs.Characters.{class, names, blanks, legal, is_text, IsName, is_char}
use Rattle.doc_grammar.specs.Grammar.{Limits, clashes, is_valued, Quote, with_double, with_single, quote_char, Part, version, encoding, standalone, fold_for, word, IsSettingValue, Setting, IsSetting, print_setting, print_maybe, Base, ten, sixteen, is_numeral, with_digit, Reference, named, numbered, print_reference, IsReference, code_of, print_named, attr_of, Pair, Tag, is_xml, IsTarget, IsInstruction, print, Event, begin, close, raw_value, Entity, lt, gt, amp, apos, quot, entity_text, entity_code, Body, Unmarked, Document}
use Rattle.doc_grammar.specs.declared.characters.Class.{Class}
use Rattle.doc_grammar.specs.declared.reasons.Why.{Why}
use Rattle.doc_grammar.specs.declared.reasons.Why.TheVariants as w
use Rattle.doc_grammar.specs.declared.characters.Class.TheVariants.{Less, Greater, Slash, Bang, Question, Dash, Ampersand, Equal, DoubleQuote, SingleQuote, OpenBracket, CloseBracket, Blank, Letter, Digit, Bad}
use Rattle.doc_grammar.specs.Grammar as g
use Rattle.doc_grammar.specs.Machine.{Place, before, within, State, Step, dead, go, emit, along, guard, exactly, stack, may_open, why_open, Hole, in_text, in_value, tag_name, comment, attribute_name, after_attribute_name, before_attribute_value, end_tag_name, named_reference, reference_a, after_reference, step_content, step_tag_open, step_markup_declaration, step_dash, step_comment, step_comment_dash, step_greater, step_processing_instruction, step_instruction_target, step_instruction_text, step_instruction_end, step_cdata_start, step_cdata_section, step_cdata_section_bracket, step_cdata_section_end, step_after_byte_order_mark, step_start, step_document_tag_open, step_document_processing_instruction, is_small_xml, step_document_instruction_target, step_before_version, step_after_setting, step_part, step_between_settings, step_setting_name, step_after_setting_name, setting_value_start, step_before_setting_value, step_standalone_value, step_setting_value, step_tag, step_tag_name, step_before_attribute_name, step_attribute_name, step_after_attribute_name, step_before_attribute_value, step_attribute_value, step_after_end_tag_name, step_end_tag_name, step_reference, step_reference_a, step_named_reference, step_digit, step_numeric_reference, step_reference_digits, step, Run, Final}
use Rattle.doc_grammar.specs.Machine as m
use Rattle.doc_grammar.proofs.Rest.{After, RestContent, Ends, RestTag, InTag, InValue, BeforeAttributeValue, AfterAttributeName, InAttributeName, InName, InEndTagName, InComment, InInstruction, AfterTarget, InTarget, InSection, RestHole, AfterReference, InReferenceDigits, BeforeDeclarationEnd, WithStandalone, AfterSetting, InSettingValue, AtSettingValue, BeforeSettingValue, AfterSettingName, InSettingName, Next, BetweenSettings, Rest}
use Rattle.doc_grammar.proofs.Classes.{less_is, greater_is, slash_is, bang_is, question_is, dash_is, ampersand_is, equal_is, double_is, single_is, open_bracket_is, close_bracket_is, class_dash, class_greater, class_question, class_close_bracket, class_of_space}

module _ (l : Limits) where
  -- the state that a guard lets through
  guarded : (P : State → List Event → Type 0) (out : List Event) (y : Why) (t : Bool) (s : State) → along P (guard y t s) out → (t ≡ true) × P s out
  guarded P out y true s h = (refl, h)
  guarded P out y false s h = absurd h

  -- the character that leads on, and its state
  only : (P : State → List Event → Type 0) (out : List Event) (c b : ℕ) (s : State) → along P (exactly c b s) out → (b ≡ c) × P s out
  only P out c b s h = let d = guarded P out w.Plain (eqb b c) s h in (eqb-true b c d.0, d.1)

  unguarded : (P : State → List Event → Type 0) (out : List Event) (y : Why) (t : Bool) (s : State) → along P (cond t (dead y) (go s)) out → (t ≡ false) × P s out
  unguarded P out y true s h = absurd h
  unguarded P out y false s h = (refl, h)

  choice : (P : State → List Event → Type 0) (out : List Event) (t : Bool) (s : State) (u : Step) → along P (cond t (go s) u) out → ((t ≡ true) × P s out) ⊎ along P u out
  choice P out true s u h = inl (refl, h)
  choice P out false s u h = inr h

  ruled : (P : State → List Event → Type 0) (out : List Event) (t : Bool) (u : Step) → along P (cond t u (dead w.Plain)) out → (t ≡ true) × along P u out
  ruled P out true u h = (refl, h)
  ruled P out false u h = absurd h

  was_not : (t : Bool) → not t ≡ true → t ≡ false
  was_not true h = cc
  was_not false h = refl

  -- text and references
  text_back : (n : List ℕ) (ns : List (List ℕ)) (b : ℕ) (bytes : List ℕ) (out : List Event) → is_text (class b) ≡ true → After l (n ∷ ns) bytes out → After l (n ∷ ns) (b ∷ bytes) out
  text_back n ns b bytes out t (c, gap, rest, more, good, sp, e, f, r) = (g.char b c, gap, rest, more, (t, good), sp, ap (λ k. b ∷ k) e, f, r)

  blank_back : (b : ℕ) (bytes : List ℕ) (out : List Event) → blanks (class b) ≡ true → Body l bytes out → Body l (b ∷ bytes) out
  blank_back b bytes out t (c, good, e, f) = (g.char b c, (t, good), ap (λ k. b ∷ k) e, f)

  misc_back : (b : ℕ) (bytes : List ℕ) (out : List Event) → blanks (class b) ≡ true → After l [] bytes out → After l [] (b ∷ bytes) out
  misc_back b bytes out t (c, good, e, f) = (g.char b c, (t, good), ap (λ k. b ∷ k) e, f)

  text_hole : (n : List ℕ) (ns : List (List ℕ)) (t : List ℕ) (out : List Event) → RestHole l (in_text n ns) t out → After l (n ∷ ns) t out
  text_hole n ns t out (r, k, good, e, (c, gap, rest, more, gc, sp, f, o, a)) = (g.reference r c, gap, rest, more, (good, gc), sp, e ∙ ap (λ y. 38 ∷ print_reference r y) f, o, a)

  value_hole : (p : Place) (n : List ℕ) (xs : List Pair) (x : List ℕ) (q : Quote) (v : List ℕ) (r : Bool) (t : List ℕ) (out : List Event) → RestHole l (in_value p n xs x q v) t out → InValue l p n xs x q v r t out
  value_hole p n xs x q v r t out (f, j, good, e, (ps, k, gps, d, rt)) =
      (g.ref f ∷ ps, k, (good, gps), e ∙ ap (λ y. 38 ∷ print_reference f y) d, subst (λ y. RestTag l p n (xs ++ (x, y) ∷ []) k out) (append_assoc v (code_of f ∷ []) (g.value_of false ps)) rt)

  sound_content : (p : Place) (k : Class) (b : ℕ) → class b ≡ k → (bytes : List ℕ) (out : List Event) → along (λ t. Rest l t bytes) (step_content p k b) out → RestContent l p (b ∷ bytes) out
  sound_content before Less b e bytes out h = subst (λ x. RestContent l before (x ∷ bytes) out) (sym (less_is b e)) h
  sound_content before Blank b e bytes out h = blank_back b bytes out (ap blanks e) h
  sound_content before k b e bytes out h = absurd h
  sound_content (within []) Less b e bytes out h = subst (λ x. After l [] (x ∷ bytes) out) (sym (less_is b e)) h
  sound_content (within []) Blank b e bytes out h = misc_back b bytes out (ap blanks e) h
  sound_content (within []) k b e bytes out h = absurd h
  sound_content (within (n ∷ ns)) Less b e bytes out h = subst (λ x. After l (n ∷ ns) (x ∷ bytes) out) (sym (less_is b e)) h
  sound_content (within (n ∷ ns)) Bad b e bytes out h = absurd h
  sound_content (within (n ∷ ns)) Ampersand b e bytes out h = subst (λ x. After l (n ∷ ns) (x ∷ bytes) out) (sym (ampersand_is b e)) (text_hole n ns (38 ∷ bytes) out h)
  sound_content (within (n ∷ ns)) k b e bytes out h = text_back n ns b bytes out (ap is_text e) h

  -- comments
  comment_back : (p : Place) (bytes : List ℕ) (out : List Event) → InComment l p bytes out → RestContent l p (60 ∷ 33 ∷ 45 ∷ 45 ∷ bytes) out
  comment_back before bytes out (t, k, good, e, (c, whole, d, f)) =
      (g.comment t c, (good, whole), ap (λ x. 60 ∷ 33 ∷ 45 ∷ 45 ∷ x) (e ∙ ap (λ x. t ++ 45 ∷ 45 ∷ 62 ∷ x) d), f)
  comment_back (within []) bytes out (t, k, good, e, (c, whole, d, f)) =
      (g.comment t c, (good, whole), ap (λ x. 60 ∷ 33 ∷ 45 ∷ 45 ∷ x) (e ∙ ap (λ x. t ++ 45 ∷ 45 ∷ 62 ∷ x) d), f)
  comment_back (within (n ∷ ns)) bytes out (t, k, good, e, (c, gap, rest, more, fine, sp, d, f, r)) =
      (g.comment t c, gap, rest, more, (good, fine), sp, ap (λ x. 60 ∷ 33 ∷ 45 ∷ 45 ∷ x) (e ∙ ap (λ x. t ++ 45 ∷ 45 ∷ 62 ∷ x) d), f, r)

  section_back : (n : List ℕ) (ns : List (List ℕ)) (bytes : List ℕ) (out : List Event) → InSection l n ns bytes out → After l (n ∷ ns) (60 ∷ 33 ∷ 91 ∷ 67 ∷ 68 ∷ 65 ∷ 84 ∷ 65 ∷ 91 ∷ bytes) out
  section_back n ns bytes out (t, k, good, e, (c, gap, rest, more, fine, sp, d, f, r)) =
      (g.section t c, gap, rest, more, (good, fine), sp, ap (λ x. 60 ∷ 33 ∷ 91 ∷ 67 ∷ 68 ∷ 65 ∷ 84 ∷ 65 ∷ 91 ∷ x) (e ∙ ap (λ x. t ++ 93 ∷ 93 ∷ 62 ∷ x) d), f, r)

  bracket_back : (n : List ℕ) (ns : List (List ℕ)) (bytes : List ℕ) (out : List Event) → Rest l (m.cdata_start n ns 67 (68 ∷ 65 ∷ 84 ∷ 65 ∷ 91 ∷ [])) bytes out → After l (n ∷ ns) (60 ∷ 33 ∷ 91 ∷ bytes) out
  bracket_back n ns bytes out (k, e, h) = subst (λ x. After l (n ∷ ns) (60 ∷ 33 ∷ 91 ∷ x) out) (sym e) (section_back n ns k out h)

  sound_markup_declaration : (p : Place) (k : Class) (b : ℕ) → class b ≡ k → (bytes : List ℕ) (out : List Event) → along (λ t. Rest l t bytes) (step_markup_declaration p k) out → RestContent l p (60 ∷ 33 ∷ b ∷ bytes) out
  sound_markup_declaration p Dash b e bytes out h = subst (λ x. RestContent l p (60 ∷ 33 ∷ x ∷ bytes) out) (sym (dash_is b e)) h
  sound_markup_declaration (within (n ∷ ns)) OpenBracket b e bytes out h = subst (λ x. After l (n ∷ ns) (60 ∷ 33 ∷ x ∷ bytes) out) (sym (open_bracket_is b e)) (bracket_back n ns bytes out h)
  sound_markup_declaration before k b e bytes out h = absurd h
  sound_markup_declaration (within []) k b e bytes out h = absurd h
  sound_markup_declaration (within (n ∷ ns)) k b e bytes out h = absurd h

  sound_comment_start : (p : Place) (k : Class) (b : ℕ) → class b ≡ k → (bytes : List ℕ) (out : List Event) → along (λ t. Rest l t bytes) (step_dash k (comment p)) out → RestContent l p (60 ∷ 33 ∷ 45 ∷ b ∷ bytes) out
  sound_comment_start p Dash b e bytes out h = subst (λ x. RestContent l p (60 ∷ 33 ∷ 45 ∷ x ∷ bytes) out) (sym (dash_is b e)) (comment_back p bytes out h)
  sound_comment_start p k b e bytes out h = absurd h

  not_dash : (k : Class) (b : ℕ) → class b ≡ k → (Dash ≡ k → ⊥) → b ≡ 45 → ⊥
  not_dash k b e d h = d (sym class_dash ∙ ap class (sym h) ∙ e)

  other_back : (p : Place) (k : Class) (b : ℕ) → class b ≡ k → legal k ≡ true → (Dash ≡ k → ⊥) → (bytes : List ℕ) (out : List Event) → InComment l p bytes out → InComment l p (b ∷ bytes) out
  other_back p k b e y d bytes out (t, rest, good, f, r) = (b ∷ t, rest, (ap legal e ∙ y, (λ h. absurd (not_dash k b e d h)), good), ap (λ x. b ∷ x) f, r)

  differs : (b c : ℕ) → (b ≡ c → ⊥) → eqb b c ≡ false
  differs b c h = grind (arith, nat_tests)

  second : (k : Class) (b : ℕ) → class b ≡ k → (Dash ≡ k → ⊥) → (t : List ℕ) → g.no_dash_first (b ∷ t) ≡ true
  second k b e d t = ap not (differs b 45 (not_dash k b e d))

  dash_legal : legal (class 45) ≡ true
  dash_legal = ap legal class_dash

  after_dash : (p : Place) (k : Class) (b : ℕ) → class b ≡ k → legal k ≡ true → (Dash ≡ k → ⊥) → (bytes : List ℕ) (out : List Event) → InComment l p bytes out → InComment l p (45 ∷ b ∷ bytes) out
  after_dash p k b e y d bytes out (t, rest, good, f, r) =
      (45 ∷ b ∷ t, rest, (dash_legal, (λ _. second k b e d t), (ap legal e ∙ y, (λ h. absurd (not_dash k b e d h)), good)), ap (λ x. 45 ∷ b ∷ x) f, r)

  sound_comment : (p : Place) (k : Class) (b : ℕ) → class b ≡ k → (bytes : List ℕ) (out : List Event) → along (λ t. Rest l t bytes) (step_comment p k b) out → InComment l p (b ∷ bytes) out
  sound_comment p Dash b e bytes out h = subst (λ x. InComment l p (x ∷ bytes) out) (sym (dash_is b e)) h
  sound_comment p Bad b e bytes out h = absurd h
  sound_comment p k b e bytes out h = other_back p _ b e refl (λ x. cc) bytes out h

  sound_comment_dash : (p : Place) (k : Class) (b : ℕ) → class b ≡ k → (bytes : List ℕ) (out : List Event) → along (λ t. Rest l t bytes) (step_comment_dash p k b) out → InComment l p (45 ∷ b ∷ bytes) out
  sound_comment_dash p Dash b e bytes out h = subst (λ x. InComment l p (45 ∷ x ∷ bytes) out) (sym (dash_is b e)) h
  sound_comment_dash p Bad b e bytes out h = absurd h
  sound_comment_dash p k b e bytes out h = after_dash p _ b e refl (λ x. cc) bytes out h

  sound_comment_end : (p : Place) (k : Class) (b : ℕ) → class b ≡ k → (bytes : List ℕ) (out : List Event) → along (λ t. Rest l t bytes) (step_greater k (go (m.content p))) out → InComment l p (45 ∷ 45 ∷ b ∷ bytes) out
  sound_comment_end p Greater b e bytes out h = subst (λ x. InComment l p (45 ∷ 45 ∷ x ∷ bytes) out) (sym (greater_is b e)) ([], bytes, tt, refl, h)
  sound_comment_end p k b e bytes out h = absurd h

  -- processing instructions
  instruction_back : (p : Place) (n t k : List ℕ) (out : List Event) → IsTarget n → IsInstruction t → RestContent l p k out → RestContent l p (60 ∷ 63 ∷ (n ++ (t ++ 63 ∷ 62 ∷ k))) out
  instruction_back before n t k out y z (c, whole, d, f) = (g.instruction n t c, (y, z, whole), ap (λ x. 60 ∷ 63 ∷ (n ++ (t ++ 63 ∷ 62 ∷ x))) d, f)
  instruction_back (within []) n t k out y z (c, whole, d, f) = (g.instruction n t c, (y, z, whole), ap (λ x. 60 ∷ 63 ∷ (n ++ (t ++ 63 ∷ 62 ∷ x))) d, f)
  instruction_back (within (w ∷ ws)) n t k out y z (c, gap, rest, more, fine, sp, d, f, r) =
      (g.instruction n t c, gap, rest, more, (y, z, fine), sp, ap (λ x. 60 ∷ 63 ∷ (n ++ (t ++ 63 ∷ 62 ∷ x))) d, f, r)

  processing_instruction_back : (p : Place) (b : ℕ) → class b ≡ Letter → (bytes : List ℕ) (out : List Event) → InTarget l p (b ∷ []) bytes out → RestContent l p (60 ∷ 63 ∷ b ∷ bytes) out
  processing_instruction_back p b e bytes out (rest, k, good, f, other, inl (j, d, r)) =
      subst (λ y. RestContent l p (60 ∷ 63 ∷ b ∷ y) out) (sym (f ∙ ap (λ y. rest ++ y) d)) (instruction_back p (b ∷ rest) [] j out (record { name = (e, good); other = other }) tt r)
  processing_instruction_back p b e bytes out (rest, k, good, f, other, inr (c, j, bl, d, (t, i, free, h, r))) =
      subst (λ y. RestContent l p (60 ∷ 63 ∷ b ∷ y) out) (sym (f ∙ ap (λ y. rest ++ y) (d ∙ ap (λ y. c ∷ y) h))) (instruction_back p (b ∷ rest) (c ∷ t) i out (record { name = (e, good); other = other }) (ap blanks bl, free) r)

  sound_processing_instruction : (p : Place) (k : Class) (b : ℕ) → class b ≡ k → (bytes : List ℕ) (out : List Event) → along (λ t. Rest l t bytes) (step_processing_instruction p k b) out → RestContent l p (60 ∷ 63 ∷ b ∷ bytes) out
  sound_processing_instruction p Letter b e bytes out h = processing_instruction_back p b e bytes out h
  sound_processing_instruction p Bad b e bytes out h = absurd h
  sound_processing_instruction p k b e bytes out h = absurd h

  target_more : (p : Place) (n : List ℕ) (b : ℕ) (bytes : List ℕ) (out : List Event) → names (class b) ≡ true → InTarget l p (n ++ b ∷ []) bytes out → InTarget l p n (b ∷ bytes) out
  target_more p n b bytes out t (rest, k, good, e, other, r) =
      (b ∷ rest, k, (t, good), ap (λ x. b ∷ x) e, subst (λ x. is_xml x ≡ false) (append_assoc n (b ∷ []) rest) other, r)

  target_done : (p : Place) (n : List ℕ) (bytes : List ℕ) (out : List Event) → not (is_xml n) ≡ true → AfterTarget l p bytes out → InTarget l p n bytes out
  target_done p n bytes out t r = ([], bytes, tt, refl, subst (λ x. is_xml x ≡ false) (sym (append-nil n)) (was_not (is_xml n) t), r)

  target_space : (p : Place) (n : List ℕ) (b : ℕ) → class b ≡ Blank → (bytes : List ℕ) (out : List Event) → along (λ t. Rest l t bytes) (guard w.Plain (not (is_xml n)) (m.instruction_text p)) out → InTarget l p n (b ∷ bytes) out
  target_space p n b e bytes out h =
      let d = guarded (λ t. Rest l t bytes) out w.Plain (not (is_xml n)) (m.instruction_text p) h in
      target_done p n (b ∷ bytes) out d.0 (inr (b, bytes, e, refl, d.1))

  target_ask : (p : Place) (n : List ℕ) (b : ℕ) → class b ≡ Question → (bytes : List ℕ) (out : List Event) → along (λ t. Rest l t bytes) (guard w.Plain (not (is_xml n)) (m.instruction_target_end p)) out → InTarget l p n (b ∷ bytes) out
  target_ask p n b e bytes out h =
      let d = guarded (λ t. Rest l t bytes) out w.Plain (not (is_xml n)) (m.instruction_target_end p) h in
      target_done p n (b ∷ bytes) out d.0 (inl (d.1.0, ap (λ y. y ∷ bytes) (question_is b e) ∙ ap (λ y. 63 ∷ y) d.1.1, d.1.2))

  sound_instruction_target : (p : Place) (n : List ℕ) (k : Class) (b : ℕ) → class b ≡ k → (bytes : List ℕ) (out : List Event) → along (λ t. Rest l t bytes) (step_instruction_target p n k b) out → InTarget l p n (b ∷ bytes) out
  sound_instruction_target p n Letter b e bytes out h = target_more p n b bytes out (ap names e) h
  sound_instruction_target p n Digit b e bytes out h = target_more p n b bytes out (ap names e) h
  sound_instruction_target p n Dash b e bytes out h = target_more p n b bytes out (ap names e) h
  sound_instruction_target p n Blank b e bytes out h = target_space p n b e bytes out h
  sound_instruction_target p n Question b e bytes out h = target_ask p n b e bytes out h
  sound_instruction_target p n k b e bytes out h = absurd h

  sound_instruction_target_end : (p : Place) (k : Class) (b : ℕ) → class b ≡ k → (bytes : List ℕ) (out : List Event) → along (λ t. Rest l t bytes) (step_greater k (go (m.content p))) out → Rest l (m.instruction_target_end p) (b ∷ bytes) out
  sound_instruction_target_end p Greater b e bytes out h = (bytes, ap (λ y. y ∷ bytes) (greater_is b e), h)
  sound_instruction_target_end p k b e bytes out h = absurd h

  not_class : (c : ℕ) (k j : Class) (b : ℕ) → class c ≡ j → class b ≡ k → (j ≡ k → ⊥) → b ≡ c → ⊥
  not_class c k j b f e d h = d (sym f ∙ ap class (sym h) ∙ e)

  and_off : (s t : Bool) → s ≡ false → s && t ≡ false
  and_off true t h = cc
  and_off false t h = refl

  off_and : (s t : Bool) → t ≡ false → s && t ≡ false
  off_and true t h = h
  off_and false t h = refl

  ask_more : (p : Place) (b : ℕ) (bytes : List ℕ) (out : List Event) → legal (class b) ≡ true → (b ≡ 63 → ⊥) → InInstruction l p bytes out → InInstruction l p (b ∷ bytes) out
  ask_more p b bytes out y d (t, j, free, f, r) = (b ∷ t, j, (y, and_off (eqb b 63) _ (differs b 63 d), free), ap (λ x. b ∷ x) f, r)

  question_legal : legal (class 63) ≡ true
  question_legal = ap legal class_question

  ask_other : (p : Place) (b : ℕ) (bytes : List ℕ) (out : List Event) → legal (class b) ≡ true → (b ≡ 63 → ⊥) → (b ≡ 62 → ⊥) → InInstruction l p bytes out → InInstruction l p (63 ∷ b ∷ bytes) out
  ask_other p b bytes out y d c (t, j, free, f, r) =
      (63 ∷ b ∷ t, j, (question_legal, and_off (eqb b 62) true (differs b 62 c), (y, and_off (eqb b 63) _ (differs b 63 d), free)), ap (λ x. 63 ∷ b ∷ x) f, r)

  no_greater : (t j bytes : List ℕ) → 63 ∷ bytes ≡ t ++ 63 ∷ 62 ∷ j → g.starts t (62 ∷ []) ≡ false
  no_greater [] j bytes e = refl
  no_greater (c ∷ t) j bytes e = let z : c ≡ 63 = cc in and_off (eqb c 62) true (differs c 62 (λ y. omega (arith, y, z)))

  ask_again : (p : Place) (bytes : List ℕ) (out : List Event) → InInstruction l p (63 ∷ bytes) out → InInstruction l p (63 ∷ 63 ∷ bytes) out
  ask_again p bytes out (t, j, free, f, r) = (63 ∷ t, j, (question_legal, no_greater t j bytes f, free), ap (λ x. 63 ∷ x) f, r)

  sound_instruction_text : (p : Place) (k : Class) (b : ℕ) → class b ≡ k → (bytes : List ℕ) (out : List Event) → along (λ t. Rest l t bytes) (step_instruction_text p k b) out → InInstruction l p (b ∷ bytes) out
  sound_instruction_text p Question b e bytes out h = subst (λ x. InInstruction l p (x ∷ bytes) out) (sym (question_is b e)) h
  sound_instruction_text p Bad b e bytes out h = absurd h
  sound_instruction_text p k b e bytes out h = ask_more p b bytes out (ap legal e) (not_class 63 _ Question b class_question e (λ x. cc)) h

  sound_instruction_end : (p : Place) (k : Class) (b : ℕ) → class b ≡ k → (bytes : List ℕ) (out : List Event) → along (λ t. Rest l t bytes) (step_instruction_end p k b) out → InInstruction l p (63 ∷ b ∷ bytes) out
  sound_instruction_end p Greater b e bytes out h = subst (λ x. InInstruction l p (63 ∷ x ∷ bytes) out) (sym (greater_is b e)) ([], bytes, tt, refl, h)
  sound_instruction_end p Question b e bytes out h = subst (λ x. InInstruction l p (63 ∷ x ∷ bytes) out) (sym (question_is b e)) (ask_again p bytes out h)
  sound_instruction_end p Bad b e bytes out h = absurd h
  sound_instruction_end p k b e bytes out h =
      ask_other p b bytes out (ap legal e) (not_class 63 _ Question b class_question e (λ x. cc)) (not_class 62 _ Greater b class_greater e (λ x. cc)) h

  -- sections
  bracket_legal : legal (class 93) ≡ true
  bracket_legal = ap legal class_close_bracket

  section_more : (n : List ℕ) (ns : List (List ℕ)) (b : ℕ) (bytes : List ℕ) (out : List Event) → legal (class b) ≡ true → (b ≡ 93 → ⊥) → InSection l n ns bytes out → InSection l n ns (b ∷ bytes) out
  section_more n ns b bytes out y d (t, j, free, f, r) = (b ∷ t, j, (y, and_off (eqb b 93) _ (differs b 93 d), free), ap (λ x. b ∷ x) f, r)

  cdata_section_bracket_more : (n : List ℕ) (ns : List (List ℕ)) (b : ℕ) (bytes : List ℕ) (out : List Event) → legal (class b) ≡ true → (b ≡ 93 → ⊥) → InSection l n ns bytes out → InSection l n ns (93 ∷ b ∷ bytes) out
  cdata_section_bracket_more n ns b bytes out y d (t, j, free, f, r) =
      let q = differs b 93 d in
      (93 ∷ b ∷ t, j, (bracket_legal, and_off (eqb b 93) _ q, (y, and_off (eqb b 93) _ q, free)), ap (λ x. 93 ∷ b ∷ x) f, r)

  cdata_section_end_more : (n : List ℕ) (ns : List (List ℕ)) (b : ℕ) (bytes : List ℕ) (out : List Event) → legal (class b) ≡ true → (b ≡ 93 → ⊥) → (b ≡ 62 → ⊥) → InSection l n ns bytes out → InSection l n ns (93 ∷ 93 ∷ b ∷ bytes) out
  cdata_section_end_more n ns b bytes out y d c (t, j, free, f, r) =
      let q = differs b 93 d in
      (93 ∷ 93 ∷ b ∷ t, j, (bracket_legal, and_off (eqb b 62) true (differs b 62 c), (bracket_legal, and_off (eqb b 93) _ q, (y, and_off (eqb b 93) _ q, free))), ap (λ x. 93 ∷ 93 ∷ b ∷ x) f, r)

  no_end : (t j bytes : List ℕ) → 93 ∷ 93 ∷ bytes ≡ t ++ 93 ∷ 93 ∷ 62 ∷ j → g.starts t (93 ∷ 62 ∷ []) ≡ false
  no_end [] j bytes e = refl
  no_end (c ∷ []) j bytes e = off_and (eqb c 93) false refl
  no_end (c ∷ d ∷ t) j bytes e = let z : d ≡ 93 = cc in off_and (eqb c 93) _ (and_off (eqb d 62) true (differs d 62 (λ y. omega (arith, y, z))))

  section_again : (n : List ℕ) (ns : List (List ℕ)) (bytes : List ℕ) (out : List Event) → InSection l n ns (93 ∷ 93 ∷ bytes) out → InSection l n ns (93 ∷ 93 ∷ 93 ∷ bytes) out
  section_again n ns bytes out (t, j, free, f, r) = (93 ∷ t, j, (bracket_legal, no_end t j bytes f, free), ap (λ x. 93 ∷ x) f, r)

  sound_cdata_section : (n : List ℕ) (ns : List (List ℕ)) (k : Class) (b : ℕ) → class b ≡ k → (bytes : List ℕ) (out : List Event) → along (λ t. Rest l t bytes) (step_cdata_section n ns k b) out → InSection l n ns (b ∷ bytes) out
  sound_cdata_section n ns CloseBracket b e bytes out h = subst (λ x. InSection l n ns (x ∷ bytes) out) (sym (close_bracket_is b e)) h
  sound_cdata_section n ns Bad b e bytes out h = absurd h
  sound_cdata_section n ns k b e bytes out h = section_more n ns b bytes out (ap legal e) (not_class 93 _ CloseBracket b class_close_bracket e (λ x. cc)) h

  sound_cdata_section_bracket : (n : List ℕ) (ns : List (List ℕ)) (k : Class) (b : ℕ) → class b ≡ k → (bytes : List ℕ) (out : List Event) → along (λ t. Rest l t bytes) (step_cdata_section_bracket n ns k b) out → InSection l n ns (93 ∷ b ∷ bytes) out
  sound_cdata_section_bracket n ns CloseBracket b e bytes out h = subst (λ x. InSection l n ns (93 ∷ x ∷ bytes) out) (sym (close_bracket_is b e)) h
  sound_cdata_section_bracket n ns Bad b e bytes out h = absurd h
  sound_cdata_section_bracket n ns k b e bytes out h = cdata_section_bracket_more n ns b bytes out (ap legal e) (not_class 93 _ CloseBracket b class_close_bracket e (λ x. cc)) h

  sound_cdata_section_end : (n : List ℕ) (ns : List (List ℕ)) (k : Class) (b : ℕ) → class b ≡ k → (bytes : List ℕ) (out : List Event) → along (λ t. Rest l t bytes) (step_cdata_section_end n ns k b) out → InSection l n ns (93 ∷ 93 ∷ b ∷ bytes) out
  sound_cdata_section_end n ns CloseBracket b e bytes out h = subst (λ x. InSection l n ns (93 ∷ 93 ∷ x ∷ bytes) out) (sym (close_bracket_is b e)) (section_again n ns bytes out h)
  sound_cdata_section_end n ns Greater b e bytes out h = subst (λ x. InSection l n ns (93 ∷ 93 ∷ x ∷ bytes) out) (sym (greater_is b e)) ([], bytes, tt, refl, h)
  sound_cdata_section_end n ns Bad b e bytes out h = absurd h
  sound_cdata_section_end n ns k b e bytes out h =
      cdata_section_end_more n ns b bytes out (ap legal e) (not_class 93 _ CloseBracket b class_close_bracket e (λ x. cc)) (not_class 62 _ Greater b class_greater e (λ x. cc)) h

  sound_cdata_start : (n : List ℕ) (ns : List (List ℕ)) (t : ℕ) (todo : List ℕ) (b : ℕ) (bytes : List ℕ) (out : List Event) → along (λ t. Rest l t bytes) (step_cdata_start n ns t todo b) out → Rest l (m.cdata_start n ns t todo) (b ∷ bytes) out
  sound_cdata_start n ns t [] b bytes out r = let d = only (λ t. Rest l t bytes) out t b (m.cdata_section n ns) r in (bytes, ap (λ y. y ∷ bytes) d.0, d.1)
  sound_cdata_start n ns t (u ∷ todo) b bytes out r =
      let d = only (λ t. Rest l t bytes) out t b (m.cdata_start n ns u todo) r in
      (d.1.0, ap (λ y. b ∷ y) d.1.1 ∙ ap (λ y. y ∷ u ∷ (todo ++ d.1.0)) d.0, d.1.2)

  -- tags
  ends_back : (p : Place) (n : List ℕ) (xs : List Pair) (bytes : List ℕ) (out : List Event) → Ends l p n xs bytes out → RestTag l p n xs bytes out
  ends_back p n xs bytes out h = ([], [], bytes, tt, tt, refl, subst (λ x. Ends l p n x bytes out) (sym (append-nil xs)) h)

  bare_back : (p : Place) (n : List ℕ) (xs : List Pair) (b : ℕ) (bytes : List ℕ) (out : List Event) → blanks (class b) ≡ true → InTag l p n xs bytes out → RestTag l p n xs (b ∷ bytes) out
  bare_back p n xs b bytes out t (sp, k, good, e, inl h) =
      ([], b ∷ sp, k, tt, (t, good), ap (λ x. b ∷ x) e, subst (λ x. Ends l p n x k out) (sym (append-nil xs)) h)
  bare_back p n xs b bytes out t (sp, k, good, e, inr (a, rest, fine, f, (ys, gap, j, goods, sp2, d, ends))) = (
    record a { first = b; before = sp } ∷ ys,
    gap,
    j,
    (record { first = t; before = good; name = fine.name; left = fine.left; right = fine.right; value = fine.value; once = fine.once }, goods),
    sp2,
    ap (λ x. b ∷ x) (e ∙ ap (λ x. sp ++ x) (f ∙ ap (λ x. print_named a x) d)),
    subst (λ x. Ends l p n x j out) (append_assoc xs (attr_of a ∷ []) (map attr_of ys)) ends,
  )

  tag_back : (p : Place) (n : List ℕ) (xs : List Pair) (k : Class) (b : ℕ) → class b ≡ k → (bytes : List ℕ) (out : List Event) → along (λ t. Rest l t bytes) (step_tag p n xs k) out → RestTag l p n xs (b ∷ bytes) out
  tag_back p n xs Blank b e bytes out h = bare_back p n xs b bytes out (ap blanks e) h
  tag_back p n xs Slash b e bytes out h = ends_back p n xs (b ∷ bytes) out (subst (λ x. Ends l p n xs (x ∷ bytes) out) (sym (slash_is b e)) h)
  tag_back p n xs Greater b e bytes out (more, f, r) = ends_back p n xs (b ∷ bytes) out (inl (bytes, more, ap (λ x. x ∷ bytes) (greater_is b e), f, r))
  tag_back p n xs k b e bytes out h = absurd h

  intag_back : (p : Place) (n : List ℕ) (xs : List Pair) (k : Class) (b : ℕ) → class b ≡ k → (bytes : List ℕ) (out : List Event) → along (λ t. Rest l t bytes) (step_tag p n xs k) out → InTag l p n xs (b ∷ bytes) out
  intag_back p n xs Blank b e bytes out (sp, k, good, f, r) = (b ∷ sp, k, (ap blanks e, good), ap (λ x. b ∷ x) f, r)
  intag_back p n xs Slash b e bytes out h = ([], b ∷ bytes, tt, refl, inl (subst (λ x. Ends l p n xs (x ∷ bytes) out) (sym (slash_is b e)) h))
  intag_back p n xs Greater b e bytes out (more, f, r) = ([], b ∷ bytes, tt, refl, inl (inl (bytes, more, ap (λ x. x ∷ bytes) (greater_is b e), f, r)))
  intag_back p n xs k b e bytes out h = absurd h

  name_back : (p : Place) (n : List ℕ) (b : ℕ) (bytes : List ℕ) (out : List Event) → names (class b) ≡ true → InName l p (n ++ b ∷ []) bytes out → InName l p n (b ∷ bytes) out
  name_back p n b bytes out t (rest, k, good, e, r) =
      (b ∷ rest, k, (t, good), ap (λ x. b ∷ x) e, subst (λ x. RestTag l p x [] k out) (append_assoc n (b ∷ []) rest) r)

  named_back : (p : Place) (n : List ℕ) (bytes : List ℕ) (out : List Event) → RestTag l p n [] bytes out → InName l p n bytes out
  named_back p n bytes out r = ([], bytes, tt, refl, subst (λ x. RestTag l p x [] bytes out) (sym (append-nil n)) r)

  sound_tag_name : (p : Place) (n : List ℕ) (k : Class) (b : ℕ) → class b ≡ k → (bytes : List ℕ) (out : List Event) → along (λ t. Rest l t bytes) (step_tag_name p n k b) out → InName l p n (b ∷ bytes) out
  sound_tag_name p n Letter b e bytes out h = name_back p n b bytes out (ap names e) h
  sound_tag_name p n Digit b e bytes out h = name_back p n b bytes out (ap names e) h
  sound_tag_name p n Dash b e bytes out h = name_back p n b bytes out (ap names e) h
  sound_tag_name p n Bad b e bytes out h = absurd h
  sound_tag_name p n k b e bytes out h = named_back p n (b ∷ bytes) out (tag_back p n [] _ b e bytes out h)

  -- an attribute, from the back
  attribute_name_back : (p : Place) (n : List ℕ) (xs : List Pair) (x : List ℕ) (b : ℕ) (bytes : List ℕ) (out : List Event) → names (class b) ≡ true → InAttributeName l p n xs (x ++ b ∷ []) bytes out → InAttributeName l p n xs x (b ∷ bytes) out
  attribute_name_back p n xs x b bytes out t (rest, k, good, e, once, r) =
      (b ∷ rest, k, (t, good), ap (λ y. b ∷ y) e, subst (λ y. clashes l xs y ≡ false) (append_assoc x (b ∷ []) rest) once, subst (λ y. AfterAttributeName l p n xs y k out) (append_assoc x (b ∷ []) rest) r)

  after_attribute_name_back : (p : Place) (n : List ℕ) (xs : List Pair) (x : List ℕ) (bytes : List ℕ) (out : List Event) → clashes l xs x ≡ false → AfterAttributeName l p n xs x bytes out → InAttributeName l p n xs x bytes out
  after_attribute_name_back p n xs x bytes out once r =
      ([], bytes, tt, refl, subst (λ y. clashes l xs y ≡ false) (sym (append-nil x)) once, subst (λ y. AfterAttributeName l p n xs y bytes out) (sym (append-nil x)) r)

  left_back : (p : Place) (n : List ℕ) (xs : List Pair) (x : List ℕ) (b : ℕ) (bytes : List ℕ) (out : List Event) → blanks (class b) ≡ true → AfterAttributeName l p n xs x bytes out → AfterAttributeName l p n xs x (b ∷ bytes) out
  left_back p n xs x b bytes out t (left, k, good, e, r) = (b ∷ left, k, (t, good), ap (λ y. b ∷ y) e, r)

  sign_back : (p : Place) (n : List ℕ) (xs : List Pair) (x : List ℕ) (b : ℕ) (bytes : List ℕ) (out : List Event) → b ≡ 61 → BeforeAttributeValue l p n xs x bytes out → AfterAttributeName l p n xs x (b ∷ bytes) out
  sign_back p n xs x b bytes out e r = ([], bytes, tt, ap (λ y. y ∷ bytes) e, r)

  -- the first letter of an attribute's name stands there
  first_back : (p : Place) (n : List ℕ) (xs : List Pair) (b : ℕ) (bytes : List ℕ) (out : List Event) → class b ≡ Letter → InAttributeName l p n xs (b ∷ []) bytes out → InTag l p n xs (b ∷ bytes) out
  first_back p n xs b bytes out e (rest, k, good, f, once, (left, j, gleft, fl, (right, q, i, gright, fr, (ps, l, gv, fv, r)))) = (
    [],
    b ∷ bytes,
    tt,
    refl,
    inr (
      record { first = 32; before = []; name = b ∷ rest; left = left; right = right; quote = q; value = ps },
      l,
      record { first = ap blanks class_of_space; before = tt; name = (e, good); left = gleft; right = gright; value = gv; once = once },
      ap (λ y. b ∷ y) (f ∙ ap (λ y. rest ++ y) (fl ∙ ap (λ y. left ++ 61 ∷ y) (fr ∙ ap (λ y. right ++ g.quote_char q ∷ y) fv))),
      r,
    ),
  )

  sound_before_attribute_name : (p : Place) (n : List ℕ) (xs : List Pair) (k : Class) (b : ℕ) → class b ≡ k → (bytes : List ℕ) (out : List Event) → along (λ t. Rest l t bytes) (step_before_attribute_name p n xs k b) out → InTag l p n xs (b ∷ bytes) out
  sound_before_attribute_name p n xs Letter b e bytes out h = first_back p n xs b bytes out e h
  sound_before_attribute_name p n xs Bad b e bytes out h = absurd h
  sound_before_attribute_name p n xs k b e bytes out h = intag_back p n xs _ b e bytes out h

  sound_attribute_name : (p : Place) (n : List ℕ) (xs : List Pair) (x : List ℕ) (k : Class) (b : ℕ) → class b ≡ k → (bytes : List ℕ) (out : List Event) → along (λ t. Rest l t bytes) (step_attribute_name l p n xs x k b) out → InAttributeName l p n xs x (b ∷ bytes) out
  sound_attribute_name p n xs x Letter b e bytes out h = attribute_name_back p n xs x b bytes out (ap names e) h
  sound_attribute_name p n xs x Digit b e bytes out h = attribute_name_back p n xs x b bytes out (ap names e) h
  sound_attribute_name p n xs x Dash b e bytes out h = attribute_name_back p n xs x b bytes out (ap names e) h
  sound_attribute_name p n xs x Blank b e bytes out h =
      let d = unguarded (λ t. Rest l t bytes) out (w.Twice (length (encode_utf8_all x))) (clashes l xs x) (after_attribute_name p n xs x) h in
      after_attribute_name_back p n xs x (b ∷ bytes) out d.0 (left_back p n xs x b bytes out (ap blanks e) d.1)
  sound_attribute_name p n xs x Equal b e bytes out h =
      let d = unguarded (λ t. Rest l t bytes) out (w.Twice (length (encode_utf8_all x))) (clashes l xs x) (before_attribute_value p n xs x) h in
      after_attribute_name_back p n xs x (b ∷ bytes) out d.0 (sign_back p n xs x b bytes out (equal_is b e) d.1)
  sound_attribute_name p n xs x k b e bytes out h = absurd h

  sound_after_attribute_name : (p : Place) (n : List ℕ) (xs : List Pair) (x : List ℕ) (k : Class) (b : ℕ) → class b ≡ k → (bytes : List ℕ) (out : List Event) → along (λ t. Rest l t bytes) (step_after_attribute_name p n xs x k) out → AfterAttributeName l p n xs x (b ∷ bytes) out
  sound_after_attribute_name p n xs x Blank b e bytes out h = left_back p n xs x b bytes out (ap blanks e) h
  sound_after_attribute_name p n xs x Equal b e bytes out h = sign_back p n xs x b bytes out (equal_is b e) h
  sound_after_attribute_name p n xs x k b e bytes out h = absurd h

  sound_before_attribute_value : (p : Place) (n : List ℕ) (xs : List Pair) (x : List ℕ) (k : Class) (b : ℕ) → class b ≡ k → (bytes : List ℕ) (out : List Event) → along (λ t. Rest l t bytes) (step_before_attribute_value p n xs x k) out → BeforeAttributeValue l p n xs x (b ∷ bytes) out
  sound_before_attribute_value p n xs x Blank b e bytes out (right, q, k, good, f, r) = (b ∷ right, q, k, (ap blanks e, good), ap (λ y. b ∷ y) f, r)
  sound_before_attribute_value p n xs x DoubleQuote b e bytes out h = ([], with_double, bytes, tt, ap (λ y. y ∷ bytes) (double_is b e), h)
  sound_before_attribute_value p n xs x SingleQuote b e bytes out h = ([], with_single, bytes, tt, ap (λ y. y ∷ bytes) (single_is b e), h)
  sound_before_attribute_value p n xs x k b e bytes out h = absurd h

  raw_back : (p : Place) (n : List ℕ) (xs : List Pair) (x : List ℕ) (q : Quote) (v : List ℕ) (r : Bool) (b : ℕ) (bytes : List ℕ) (out : List Event) → is_valued q (class b) ≡ true → InValue l p n xs x q (v ++ raw_value r b) (eqb b 13) bytes out → InValue l p n xs x q v r (b ∷ bytes) out
  raw_back p n xs x q v r b bytes out t (ps, k, good, e, h) =
      (g.raw b ∷ ps, k, (t, good), ap (λ y. b ∷ y) e, subst (λ y. RestTag l p n (xs ++ (x, y) ∷ []) k out) (append_assoc v (raw_value r b) (g.value_of (eqb b 13) ps)) h)

  quote_back : (p : Place) (n : List ℕ) (xs : List Pair) (x : List ℕ) (q : Quote) (v : List ℕ) (r : Bool) (b : ℕ) (bytes : List ℕ) (out : List Event) → b ≡ quote_char q → RestTag l p n (xs ++ (x, v) ∷ []) bytes out → InValue l p n xs x q v r (b ∷ bytes) out
  quote_back p n xs x q v r b bytes out e h = ([], bytes, tt, ap (λ y. y ∷ bytes) e, subst (λ y. RestTag l p n (xs ++ (x, y) ∷ []) bytes out) (sym (append-nil v)) h)

  amp_back : (p : Place) (n : List ℕ) (xs : List Pair) (x : List ℕ) (q : Quote) (v : List ℕ) (r : Bool) (b : ℕ) → class b ≡ Ampersand → (bytes : List ℕ) (out : List Event) → RestHole l (in_value p n xs x q v) (38 ∷ bytes) out → InValue l p n xs x q v r (b ∷ bytes) out
  amp_back p n xs x q v r b e bytes out h = subst (λ y. InValue l p n xs x q v r (y ∷ bytes) out) (sym (ampersand_is b e)) (value_hole p n xs x q v r (38 ∷ bytes) out h)

  sound_attribute_value : (p : Place) (n : List ℕ) (xs : List Pair) (x : List ℕ) (q : Quote) (v : List ℕ) (r : Bool) (k : Class) (b : ℕ) → class b ≡ k → (bytes : List ℕ) (out : List Event) → along (λ t. Rest l t bytes) (step_attribute_value p n xs x q v r k b) out → InValue l p n xs x q v r (b ∷ bytes) out
  sound_attribute_value p n xs x with_double v r DoubleQuote b e bytes out h = quote_back p n xs x with_double v r b bytes out (double_is b e) h
  sound_attribute_value p n xs x with_single v r SingleQuote b e bytes out h = quote_back p n xs x with_single v r b bytes out (single_is b e) h
  sound_attribute_value p n xs x with_double v r Less b e bytes out h = absurd h
  sound_attribute_value p n xs x with_single v r Less b e bytes out h = absurd h
  sound_attribute_value p n xs x with_double v r Bad b e bytes out h = absurd h
  sound_attribute_value p n xs x with_single v r Bad b e bytes out h = absurd h
  sound_attribute_value p n xs x with_double v r Ampersand b e bytes out h = amp_back p n xs x with_double v r b e bytes out h
  sound_attribute_value p n xs x with_single v r Ampersand b e bytes out h = amp_back p n xs x with_single v r b e bytes out h
  sound_attribute_value p n xs x with_double v r k b e bytes out h = raw_back p n xs x with_double v r b bytes out (ap (is_valued with_double) e) h
  sound_attribute_value p n xs x with_single v r k b e bytes out h = raw_back p n xs x with_single v r b bytes out (ap (is_valued with_single) e) h

  sound_self_closing_start_tag : (p : Place) (n : List ℕ) (xs : List Pair) (k : Class) (b : ℕ) → class b ≡ k → (bytes : List ℕ) (out : List Event) → along (λ t. Rest l t bytes) (step_greater k (emit (m.content (within (stack p))) (begin n xs ∷ close ∷ []))) out → Ends l p n xs (47 ∷ b ∷ bytes) out
  sound_self_closing_start_tag p n xs Greater b e bytes out (more, f, r) = inr (bytes, more, ap (λ y. 47 ∷ y ∷ bytes) (greater_is b e), f, r)
  sound_self_closing_start_tag p n xs k b e bytes out h = absurd h

  -- an element, from the end of its name on
  open_back : (p : Place) (n : List ℕ) (bytes : List ℕ) (out : List Event) → may_open l p ≡ true → IsName n → RestTag l p n [] bytes out → RestContent l p (60 ∷ (n ++ bytes)) out
  open_back before n bytes out m t (ys, gap, k, good, sp, e, inl (rest, more, f, o, (c, gap2, rest2, more2, fine, sp2, e2, o2, (d, misc, e3, o3)))) =
      let tag : Tag = record { name = n; attrs = ys; gap = gap } in (
        g.element tag c gap2 d,
        (record { name = t; attrs = good; gap = sp }, fine, sp2, misc),
        ap (λ y. 60 ∷ (n ++ y)) (e ∙ ap (λ y. g.print_attrs ys (gap ++ y)) (f ∙ ap (λ y. 62 ∷ y) (e2 ∙ ap (λ y. print c (60 ∷ 47 ∷ (n ++ (gap2 ++ 62 ∷ y)))) e3))),
        o ∙ ap (λ y. begin n (map attr_of ys) ∷ y) (o2 ∙ ap (λ y. g.events c (close ∷ y)) o3),
      )
  open_back before n bytes out m t (ys, gap, k, good, sp, e, inr (rest, more, f, o, (d, misc, e3, o3))) =
      let tag : Tag = record { name = n; attrs = ys; gap = gap } in (
        g.empty tag d,
        (record { name = t; attrs = good; gap = sp }, misc),
        ap (λ y. 60 ∷ (n ++ y)) (e ∙ ap (λ y. g.print_attrs ys (gap ++ y)) (f ∙ ap (λ y. 47 ∷ 62 ∷ y) e3)),
        o ∙ ap (λ y. begin n (map attr_of ys) ∷ close ∷ y) o3,
      )
  open_back (within []) n bytes out m t h = cc
  open_back (within (w ∷ ws)) n bytes out m t (ys, gap, k, good, sp, e, inl (rest, more, f, o, (c, gap2, rest2, more2, fine, sp2, e2, o2, (d, gap3, rest3, more3, fine3, sp3, e3, o3, r)))) =
      let tag : Tag = record { name = n; attrs = ys; gap = gap } in (
        g.element tag c gap2 d,
        gap3,
        rest3,
        more3,
        (m, record { name = t; attrs = good; gap = sp }, fine, sp2, fine3),
        sp3,
        ap (λ y. 60 ∷ (n ++ y)) (e ∙ ap (λ y. g.print_attrs ys (gap ++ y)) (f ∙ ap (λ y. 62 ∷ y) (e2 ∙ ap (λ y. print c (60 ∷ 47 ∷ (n ++ (gap2 ++ 62 ∷ y)))) e3))),
        o ∙ ap (λ y. begin n (map attr_of ys) ∷ y) (o2 ∙ ap (λ y. g.events c (close ∷ y)) o3),
        r,
      )
  open_back (within (w ∷ ws)) n bytes out m t (ys, gap, k, good, sp, e, inr (rest, more, f, o, (d, gap3, rest3, more3, fine3, sp3, e3, o3, r))) =
      let tag : Tag = record { name = n; attrs = ys; gap = gap } in (
        g.empty tag d,
        gap3,
        rest3,
        more3,
        (m, record { name = t; attrs = good; gap = sp }, fine3),
        sp3,
        ap (λ y. 60 ∷ (n ++ y)) (e ∙ ap (λ y. g.print_attrs ys (gap ++ y)) (f ∙ ap (λ y. 47 ∷ 62 ∷ y) e3)),
        o ∙ ap (λ y. begin n (map attr_of ys) ∷ close ∷ y) o3,
        r,
      )

  letter_back : (p : Place) (b : ℕ) → class b ≡ Letter → (bytes : List ℕ) (out : List Event) → along (λ t. Rest l t bytes) (guard (why_open p) (may_open l p) (tag_name p (b ∷ []))) out → RestContent l p (60 ∷ b ∷ bytes) out
  letter_back p b e bytes out h =
      let d = guarded (λ t. Rest l t bytes) out (why_open p) (may_open l p) (tag_name p (b ∷ [])) h in
      let r = d.1 in
      subst (λ y. RestContent l p (60 ∷ b ∷ y) out) (sym r.3) (open_back p (b ∷ r.0) r.1 out d.0 (e, r.2) r.4)

  sound_tag_open : (p : Place) (k : Class) (b : ℕ) → class b ≡ k → (bytes : List ℕ) (out : List Event) → along (λ t. Rest l t bytes) (step_tag_open l p k b) out → RestContent l p (60 ∷ b ∷ bytes) out
  sound_tag_open before Bang b e bytes out h = subst (λ x. RestContent l before (60 ∷ x ∷ bytes) out) (sym (bang_is b e)) h
  sound_tag_open before Question b e bytes out h = subst (λ x. RestContent l before (60 ∷ x ∷ bytes) out) (sym (question_is b e)) h
  sound_tag_open before Letter b e bytes out h = letter_back before b e bytes out h
  sound_tag_open before k b e bytes out h = absurd h
  sound_tag_open (within []) Bang b e bytes out h = subst (λ x. After l [] (60 ∷ x ∷ bytes) out) (sym (bang_is b e)) h
  sound_tag_open (within []) Question b e bytes out h = subst (λ x. After l [] (60 ∷ x ∷ bytes) out) (sym (question_is b e)) h
  sound_tag_open (within []) Letter b e bytes out h = letter_back (within []) b e bytes out h
  sound_tag_open (within []) k b e bytes out h = absurd h
  sound_tag_open (within (n ∷ ns)) Bang b e bytes out h = subst (λ x. After l (n ∷ ns) (60 ∷ x ∷ bytes) out) (sym (bang_is b e)) h
  sound_tag_open (within (n ∷ ns)) Question b e bytes out h = subst (λ x. After l (n ∷ ns) (60 ∷ x ∷ bytes) out) (sym (question_is b e)) h
  sound_tag_open (within (n ∷ ns)) Letter b e bytes out h = letter_back (within (n ∷ ns)) b e bytes out h
  sound_tag_open (within (n ∷ ns)) Slash b e bytes out (gap, rest, more, sp, f, o, r) =
      subst (λ x. After l (n ∷ ns) (60 ∷ x ∷ bytes) out) (sym (slash_is b e)) (g.done, gap, rest, more, tt, sp, ap (λ y. 60 ∷ 47 ∷ y) f, o, r)
  sound_tag_open (within (n ∷ ns)) k b e bytes out h = absurd h

  -- the end of an element
  sound_after_end_tag_name : (ns : List (List ℕ)) (k : Class) (b : ℕ) → class b ≡ k → (bytes : List ℕ) (out : List Event) → along (λ t. Rest l t bytes) (step_after_end_tag_name ns k) out → InEndTagName l ns [] (b ∷ bytes) out
  sound_after_end_tag_name ns Blank b e bytes out (gap, rest, more, sp, f, o, r) = (b ∷ gap, rest, more, (ap blanks e, sp), ap (λ y. b ∷ y) f, o, r)
  sound_after_end_tag_name ns Greater b e bytes out (more, o, r) = ([], bytes, more, tt, ap (λ y. y ∷ bytes) (greater_is b e), o, r)
  sound_after_end_tag_name ns k b e bytes out h = absurd h

  sound_end_tag_name : (ns : List (List ℕ)) (todo : List ℕ) (k : Class) (b : ℕ) → class b ≡ k → (bytes : List ℕ) (out : List Event) → along (λ t. Rest l t bytes) (step_end_tag_name ns todo k b) out → InEndTagName l ns todo (b ∷ bytes) out
  sound_end_tag_name ns [] k b e bytes out h = sound_after_end_tag_name ns k b e bytes out h
  sound_end_tag_name ns (t ∷ todo) k b e bytes out h =
      let d = guarded (λ t. Rest l t bytes) out (m.partly t b) (eqb b t) (end_tag_name ns todo) h in
      let r = d.1 in
      (r.0, r.1, r.2, r.3, ap (λ y. b ∷ y) r.4 ∙ ap (λ y. y ∷ (todo ++ (r.0 ++ 62 ∷ r.1))) (eqb-true b t d.0), r.5, r.6)

  -- references
  hole_back : (h : Hole) (r : Reference) (k : List ℕ) (out : List Event) → IsReference r → AfterReference l h (code_of r) k out → RestHole l h (38 ∷ print_reference r k) out
  hole_back h r k out y f = (r, k, y, refl, f)

  after_reference_is : (h : Hole) (code : ℕ) (k : List ℕ) (out : List Event) → Rest l (after_reference h code) k out → AfterReference l h code k out
  after_reference_is (in_text n ns) code k out r = r
  after_reference_is (in_value p n xs x q v) code k out r = r

  sound_named_reference : (h : Hole) (code t : ℕ) (todo : List ℕ) (b : ℕ) (bytes : List ℕ) (out : List Event) → along (λ t. Rest l t bytes) (step_named_reference h code t todo b) out → Rest l (named_reference h code t todo) (b ∷ bytes) out
  sound_named_reference h code t [] b bytes out r =
      let d = only (λ t. Rest l t bytes) out t b (after_reference h code) r in
      (bytes, ap (λ y. y ∷ bytes) d.0, after_reference_is h code bytes out d.1)
  sound_named_reference h code t (u ∷ todo) b bytes out r =
      let d = only (λ t. Rest l t bytes) out t b (named_reference h code u todo) r in
      (d.1.0, ap (λ y. b ∷ y) d.1.1 ∙ ap (λ y. y ∷ u ∷ (todo ++ d.1.0)) d.0, d.1.2)

  -- the reference that is forced after its first letters
  entity_back : (h : Hole) (e : Entity) (bytes : List ℕ) (t : ℕ) (todo : List ℕ) (start : List ℕ) (out : List Event) → start ++ t ∷ todo ≡ 38 ∷ entity_text e → Rest l (named_reference h (entity_code e) t todo) bytes out → RestHole l h (start ++ bytes) out
  entity_back h e bytes t todo start out s (k, f, r) =
      subst (λ y. RestHole l h y out) (sym (ap (λ y. start ++ y) f ∙ sym (append_assoc start (t ∷ todo) k) ∙ ap (λ y. y ++ k) s)) (hole_back h (named e) k out tt r)

  sound_reference_a : (h : Hole) (b : ℕ) (bytes : List ℕ) (out : List Event) → along (λ t. Rest l t bytes) (step_reference_a h b) out → RestHole l h (38 ∷ 97 ∷ b ∷ bytes) out
  sound_reference_a h b bytes out r =
      elim (choice (λ t. Rest l t bytes) out (eqb b 109) (named_reference h 38 112 (59 ∷ [])) _ r) [
        | inl d ↦ subst (λ y. RestHole l h (38 ∷ 97 ∷ y ∷ bytes) out) (sym (eqb-true b 109 d.0)) (entity_back h amp bytes 112 (59 ∷ []) (38 ∷ 97 ∷ 109 ∷ []) out refl d.1)
        | inr s ↦ let d = only (λ t. Rest l t bytes) out 112 b (named_reference h 39 111 (115 ∷ 59 ∷ [])) s in
            subst (λ y. RestHole l h (38 ∷ 97 ∷ y ∷ bytes) out) (sym d.0) (entity_back h apos bytes 111 (115 ∷ 59 ∷ []) (38 ∷ 97 ∷ 112 ∷ []) out refl d.1)
      ]

  sound_reference : (h : Hole) (b : ℕ) (bytes : List ℕ) (out : List Event) → along (λ t. Rest l t bytes) (step_reference h b) out → RestHole l h (38 ∷ b ∷ bytes) out
  sound_reference h b bytes out r =
      elim (choice (λ t. Rest l t bytes) out (eqb b 108) (named_reference h 60 116 (59 ∷ [])) _ r) [
        | inl d ↦ subst (λ y. RestHole l h (38 ∷ y ∷ bytes) out) (sym (eqb-true b 108 d.0)) (entity_back h lt bytes 116 (59 ∷ []) (38 ∷ 108 ∷ []) out refl d.1)
        | inr s ↦ elim (choice (λ t. Rest l t bytes) out (eqb b 103) (named_reference h 62 116 (59 ∷ [])) _ s) [
          | inl d ↦ subst (λ y. RestHole l h (38 ∷ y ∷ bytes) out) (sym (eqb-true b 103 d.0)) (entity_back h gt bytes 116 (59 ∷ []) (38 ∷ 103 ∷ []) out refl d.1)
          | inr v ↦ elim (choice (λ t. Rest l t bytes) out (eqb b 113) (named_reference h 34 117 (111 ∷ 116 ∷ 59 ∷ [])) _ v) [
            | inl d ↦ subst (λ y. RestHole l h (38 ∷ y ∷ bytes) out) (sym (eqb-true b 113 d.0)) (entity_back h quot bytes 117 (111 ∷ 116 ∷ 59 ∷ []) (38 ∷ 113 ∷ []) out refl d.1)
            | inr u ↦ elim (choice (λ t. Rest l t bytes) out (eqb b 35) (m.numeric_reference h) _ u) [
              | inl d ↦ subst (λ y. RestHole l h (38 ∷ y ∷ bytes) out) (sym (eqb-true b 35 d.0)) d.1
              | inr z ↦ let d = only (λ t. Rest l t bytes) out 97 b (reference_a h) z in
                  subst (λ y. RestHole l h (38 ∷ y ∷ bytes) out) (sym d.0) d.1
            ]
          ]
        ]
      ]

  -- numbers
  digit_back : (h : Hole) (base : Base) (n b : ℕ) (bytes : List ℕ) (out : List Event) → along (λ t. Rest l t bytes) (step_digit h base n b) out → (is_numeral base b ≡ true) × InReferenceDigits l h base (with_digit base n b) bytes out
  digit_back h base n b bytes out r =
      let d = ruled (λ t. Rest l t bytes) out (is_numeral base b) _ r in
      let f = guarded (λ t. Rest l t bytes) out w.Plain (leb (with_digit base n b) 1114111) (m.reference_digits h base (with_digit base n b)) d.1 in
      (d.0, f.1)

  sound_reference_digits : (h : Hole) (base : Base) (n b : ℕ) (bytes : List ℕ) (out : List Event) → along (λ t. Rest l t bytes) (step_reference_digits h base n b) out → InReferenceDigits l h base n (b ∷ bytes) out
  sound_reference_digits h base n b bytes out r =
      elim (split r) [
        | inl d ↦ ([], bytes, tt, d.1.0, ap (λ y. y ∷ bytes) (eqb-true b 59 d.0), after_reference_is h n bytes out d.1.1)
        | inr s ↦ let d = digit_back h base n b bytes out s in (b ∷ d.1.0, d.1.1, (d.0, d.1.2), d.1.3, ap (λ y. b ∷ y) d.1.4, d.1.5)
      ]
    where
      cut : (t : Bool) → along (λ t. Rest l t bytes) (cond t (guard w.Plain (is_char n) (after_reference h n)) (step_digit h base n b)) out
          → ((t ≡ true) × ((is_char n ≡ true) × Rest l (after_reference h n) bytes out)) ⊎ along (λ t. Rest l t bytes) (step_digit h base n b) out
      cut true r = inl (refl, guarded (λ t. Rest l t bytes) out w.Plain (is_char n) (after_reference h n) r)
      cut false r = inr r

      split : along (λ t. Rest l t bytes) (step_reference_digits h base n b) out → ((eqb b 59 ≡ true) × ((is_char n ≡ true) × Rest l (after_reference h n) bytes out)) ⊎ along (λ t. Rest l t bytes) (step_digit h base n b) out
      split r = cut (eqb b 59) r

  first_digit : (h : Hole) (base : Base) (b : ℕ) (bytes : List ℕ) (out : List Event) → along (λ t. Rest l t bytes) (step_digit h base 0 b) out → RestHole l h (38 ∷ 35 ∷ (g.base_mark base ++ b ∷ bytes)) out
  first_digit h base b bytes out r =
      let d = digit_back h base 0 b bytes out r in
      (numbered base b d.1.0, d.1.1, ((d.0, d.1.2), d.1.3), ap (λ y. 38 ∷ 35 ∷ (g.base_mark base ++ b ∷ y)) d.1.4, d.1.5)

  sound_numeric_reference : (h : Hole) (b : ℕ) (bytes : List ℕ) (out : List Event) → along (λ t. Rest l t bytes) (step_numeric_reference h b) out → RestHole l h (38 ∷ 35 ∷ b ∷ bytes) out
  sound_numeric_reference h b bytes out r =
      elim (choice (λ t. Rest l t bytes) out (eqb b 120) (m.hexadecimal_reference h) _ r) [
        | inl d ↦ subst (λ y. RestHole l h (38 ∷ 35 ∷ y ∷ bytes) out) (sym (eqb-true b 120 d.0)) d.1
        | inr s ↦ first_digit h ten b bytes out s
      ]

  -- the declaration, from the back
  standalone_back : (bytes : List ℕ) (out : List Event) → BeforeDeclarationEnd l bytes out → WithStandalone l bytes out
  standalone_back bytes out h = (None, bytes, tt, refl, h)

  -- a part whose white space is open at its start
  setting_back : (part : Part) (b : ℕ) (bytes : List ℕ) (out : List Event) → class b ≡ Blank → Next l part bytes out → (s : Setting) × (k : List ℕ) × IsSetting part s × (b ∷ bytes ≡ print_setting part s k) × AfterSetting l part k out
  setting_back part b bytes out e (sp, k1, g1, e1, (k2, e2, (left, k3, g3, e3, (right, q, k4, g4, e4, (v, k5, g5, e5, r))))) = (
    record { first = b; before = sp; left = left; right = right; quote = q; value = v },
    k5,
    record { first = ap blanks e; before = g1; left = g3; right = g4; value = g5 },
    ap (λ y. b ∷ y) (e1 ∙ ap (λ y. sp ++ y) (e2 ∙ ap (λ y. word part ++ y) (e3 ∙ ap (λ y. left ++ 61 ∷ y) (e4 ∙ ap (λ y. right ++ quote_char q ∷ y) e5)))),
    r,
  )

  maybe_standalone : (b : ℕ) (bytes : List ℕ) (out : List Event) → class b ≡ Blank → Next l standalone bytes out ⊎ BeforeDeclarationEnd l bytes out → WithStandalone l (b ∷ bytes) out
  maybe_standalone b bytes out e (inl h) = let d = setting_back standalone b bytes out e h in (Some d.0, d.1, d.2, d.3, d.4)
  maybe_standalone b bytes out e (inr (gap, k, sp, f, r)) = standalone_back (b ∷ bytes) out (b ∷ gap, k, (ap blanks e, sp), ap (λ y. b ∷ y) f, r)

  after_setting_back : (part : Part) (b : ℕ) (bytes : List ℕ) (out : List Event) → class b ≡ Blank → BetweenSettings l part bytes out → AfterSetting l part (b ∷ bytes) out
  after_setting_back version b bytes out e (inl h) = let d = setting_back encoding b bytes out e h in (Some d.0, d.1, d.2, d.3, d.4)
  after_setting_back version b bytes out e (inr h) = (None, b ∷ bytes, tt, refl, maybe_standalone b bytes out e h)
  after_setting_back encoding b bytes out e h = maybe_standalone b bytes out e h
  after_setting_back standalone b bytes out e (gap, k, sp, f, r) = (b ∷ gap, k, (ap blanks e, sp), ap (λ y. b ∷ y) f, r)

  declaration_end_back : (bytes : List ℕ) (out : List Event) → Rest l m.declaration_end bytes out → BeforeDeclarationEnd l (63 ∷ bytes) out
  declaration_end_back bytes out (k, e, r) = ([], k, tt, ap (λ y. 63 ∷ y) e, r)

  ask_after_setting : (part : Part) (bytes : List ℕ) (out : List Event) → BeforeDeclarationEnd l bytes out → AfterSetting l part bytes out
  ask_after_setting version bytes out h = (None, bytes, tt, refl, standalone_back bytes out h)
  ask_after_setting encoding bytes out h = standalone_back bytes out h
  ask_after_setting standalone bytes out h = h

  ask_between_settings : (part : Part) (bytes : List ℕ) (out : List Event) → BeforeDeclarationEnd l bytes out → BetweenSettings l part bytes out
  ask_between_settings version bytes out h = inr (inr h)
  ask_between_settings encoding bytes out h = inr h
  ask_between_settings standalone bytes out h = h

  sound_after_setting : (part : Part) (k : Class) (b : ℕ) → class b ≡ k → (bytes : List ℕ) (out : List Event) → along (λ t. Rest l t bytes) (step_after_setting part k) out → AfterSetting l part (b ∷ bytes) out
  sound_after_setting part Blank b e bytes out h = after_setting_back part b bytes out e h
  sound_after_setting part Question b e bytes out h = subst (λ y. AfterSetting l part (y ∷ bytes) out) (sym (question_is b e)) (ask_after_setting part (63 ∷ bytes) out (declaration_end_back bytes out h))
  sound_after_setting part k b e bytes out h = absurd h

  next_space : (part : Part) (b : ℕ) (bytes : List ℕ) (out : List Event) → class b ≡ Blank → Next l part bytes out → Next l part (b ∷ bytes) out
  next_space part b bytes out e (sp, k, good, f, r) = (b ∷ sp, k, (ap blanks e, good), ap (λ y. b ∷ y) f, r)

  declaration_space : (b : ℕ) (bytes : List ℕ) (out : List Event) → class b ≡ Blank → BeforeDeclarationEnd l bytes out → BeforeDeclarationEnd l (b ∷ bytes) out
  declaration_space b bytes out e (sp, k, good, f, r) = (b ∷ sp, k, (ap blanks e, good), ap (λ y. b ∷ y) f, r)

  between_settings_space : (part : Part) (b : ℕ) (bytes : List ℕ) (out : List Event) → class b ≡ Blank → BetweenSettings l part bytes out → BetweenSettings l part (b ∷ bytes) out
  between_settings_space version b bytes out e (inl h) = inl (next_space encoding b bytes out e h)
  between_settings_space version b bytes out e (inr (inl h)) = inr (inl (next_space standalone b bytes out e h))
  between_settings_space version b bytes out e (inr (inr h)) = inr (inr (declaration_space b bytes out e h))
  between_settings_space encoding b bytes out e (inl h) = inl (next_space standalone b bytes out e h)
  between_settings_space encoding b bytes out e (inr h) = inr (declaration_space b bytes out e h)
  between_settings_space standalone b bytes out e h = declaration_space b bytes out e h

  next_word : (part : Part) (c t : ℕ) (todo : List ℕ) (bytes : List ℕ) (out : List Event) → word part ≡ c ∷ t ∷ todo → Rest l (m.setting_name part t todo) bytes out → Next l part (c ∷ bytes) out
  next_word part c t todo bytes out e (k, f, r) = ([], c ∷ bytes, tt, refl, (k, ap (λ y. c ∷ y) f ∙ ap (λ y. y ++ k) (sym e), r))

  standalone_next : (b : ℕ) (bytes : List ℕ) (out : List Event) → along (λ t. Rest l t bytes) (exactly 115 b m.standalone_word) out → Next l standalone (b ∷ bytes) out
  standalone_next b bytes out h =
      let d = only (λ t. Rest l t bytes) out 115 b m.standalone_word h in
      subst (λ y. Next l standalone (y ∷ bytes) out) (sym d.0) (next_word standalone 115 116 _ bytes out refl d.1)

  sound_part : (part : Part) (b : ℕ) (bytes : List ℕ) (out : List Event) → along (λ t. Rest l t bytes) (step_part part b) out → BetweenSettings l part (b ∷ bytes) out
  sound_part version b bytes out h =
      elim (choice (λ t. Rest l t bytes) out (eqb b 101) (m.setting_name encoding 110 (99 ∷ 111 ∷ 100 ∷ 105 ∷ 110 ∷ 103 ∷ [])) _ h) [
        | inl d ↦ inl (subst (λ y. Next l encoding (y ∷ bytes) out) (sym (eqb-true b 101 d.0)) (next_word encoding 101 110 _ bytes out refl d.1))
        | inr s ↦ inr (inl (standalone_next b bytes out s))
      ]
  sound_part encoding b bytes out h = inl (standalone_next b bytes out h)
  sound_part standalone b bytes out h = absurd h

  sound_between_settings : (part : Part) (k : Class) (b : ℕ) → class b ≡ k → (bytes : List ℕ) (out : List Event) → along (λ t. Rest l t bytes) (step_between_settings part k b) out → BetweenSettings l part (b ∷ bytes) out
  sound_between_settings part Blank b e bytes out h = between_settings_space part b bytes out e h
  sound_between_settings part Question b e bytes out h = subst (λ y. BetweenSettings l part (y ∷ bytes) out) (sym (question_is b e)) (ask_between_settings part (63 ∷ bytes) out (declaration_end_back bytes out h))
  sound_between_settings part k b e bytes out h = sound_part part b bytes out h

  sound_before_version : (k : Class) (b : ℕ) → class b ≡ k → (bytes : List ℕ) (out : List Event) → along (λ t. Rest l t bytes) (step_before_version k b) out → Next l version (b ∷ bytes) out
  sound_before_version Blank b e bytes out h = next_space version b bytes out e h
  sound_before_version k b e bytes out h =
      let d = only (λ t. Rest l t bytes) out 118 b (m.setting_name version 101 (114 ∷ 115 ∷ 105 ∷ 111 ∷ 110 ∷ [])) h in
      subst (λ y. Next l version (y ∷ bytes) out) (sym d.0) (next_word version 118 101 _ bytes out refl d.1)

  sound_setting_name : (part : Part) (t : ℕ) (todo : List ℕ) (b : ℕ) (bytes : List ℕ) (out : List Event) → along (λ t. Rest l t bytes) (step_setting_name part t todo b) out → InSettingName l part (t ∷ todo) (b ∷ bytes) out
  sound_setting_name part t [] b bytes out h = let d = only (λ t. Rest l t bytes) out t b (m.after_setting_name part) h in (bytes, ap (λ y. y ∷ bytes) d.0, d.1)
  sound_setting_name part t (u ∷ todo) b bytes out h =
      let d = only (λ t. Rest l t bytes) out t b (m.setting_name part u todo) h in
      (d.1.0, ap (λ y. b ∷ y) d.1.1 ∙ ap (λ y. y ∷ u ∷ (todo ++ d.1.0)) d.0, d.1.2)

  sound_after_setting_name : (part : Part) (k : Class) (b : ℕ) → class b ≡ k → (bytes : List ℕ) (out : List Event) → along (λ t. Rest l t bytes) (step_after_setting_name part k) out → AfterSettingName l part (b ∷ bytes) out
  sound_after_setting_name part Blank b e bytes out (sp, k, good, f, r) = (b ∷ sp, k, (ap blanks e, good), ap (λ y. b ∷ y) f, r)
  sound_after_setting_name part Equal b e bytes out h = ([], bytes, tt, ap (λ y. y ∷ bytes) (equal_is b e), h)
  sound_after_setting_name part k b e bytes out h = absurd h

  setting_value_start_back : (part : Part) (q : Quote) (bytes : List ℕ) (out : List Event) → Rest l (setting_value_start part q) bytes out → AtSettingValue l part q bytes out
  setting_value_start_back version q bytes out h = h
  setting_value_start_back encoding q bytes out h = h
  setting_value_start_back standalone q bytes out h = h

  sound_before_setting_value : (part : Part) (k : Class) (b : ℕ) → class b ≡ k → (bytes : List ℕ) (out : List Event) → along (λ t. Rest l t bytes) (step_before_setting_value part k) out → BeforeSettingValue l part (b ∷ bytes) out
  sound_before_setting_value part Blank b e bytes out (right, q, k, good, f, r) = (b ∷ right, q, k, (ap blanks e, good), ap (λ y. b ∷ y) f, r)
  sound_before_setting_value part DoubleQuote b e bytes out h = ([], with_double, bytes, tt, ap (λ y. y ∷ bytes) (double_is b e), setting_value_start_back part with_double bytes out h)
  sound_before_setting_value part SingleQuote b e bytes out h = ([], with_single, bytes, tt, ap (λ y. y ∷ bytes) (single_is b e), setting_value_start_back part with_single bytes out h)
  sound_before_setting_value part k b e bytes out h = absurd h

  standalone_value_back : (q : Quote) (b : ℕ) (todo : List ℕ) (bytes : List ℕ) (out : List Event) → IsSettingValue standalone (b ∷ map (fold_for standalone) todo) → InSettingValue l standalone q todo bytes out → AtSettingValue l standalone q (b ∷ bytes) out
  standalone_value_back q b todo bytes out y (v, k, e, f, r) = (b ∷ v, k, subst (IsSettingValue standalone) (ap (λ z. b ∷ z) (sym e)) y, ap (λ z. b ∷ z) f, r)

  sound_standalone_value : (q : Quote) (b : ℕ) (bytes : List ℕ) (out : List Event) → along (λ t. Rest l t bytes) (step_standalone_value q b) out → AtSettingValue l standalone q (b ∷ bytes) out
  sound_standalone_value q b bytes out h =
      elim (choice (λ t. Rest l t bytes) out (eqb b 121) (m.setting_value standalone q 101 (115 ∷ [])) _ h) [
        | inl d ↦ standalone_value_back q b (101 ∷ 115 ∷ []) bytes out (inl (ap (λ z. z ∷ 101 ∷ 115 ∷ []) (eqb-true b 121 d.0))) d.1
        | inr s ↦ let d = only (λ t. Rest l t bytes) out 110 b (m.setting_value standalone q 111 []) s in
            standalone_value_back q b (111 ∷ []) bytes out (inr (ap (λ z. z ∷ 111 ∷ []) d.0)) d.1
      ]

  setting_value_more : (part : Part) (q : Quote) (t : ℕ) (todo : List ℕ) (b : ℕ) (bytes : List ℕ) (out : List Event) → fold_for part b ≡ fold_for part t → InSettingValue l part q todo bytes out → InSettingValue l part q (t ∷ todo) (b ∷ bytes) out
  setting_value_more part q t todo b bytes out e (v, k, f, d, r) = (b ∷ v, k, ap (λ z. z ∷ map (fold_for part) v) e ∙ ap (λ z. fold_for part t ∷ z) f, ap (λ z. b ∷ z) d, r)

  sound_setting_value : (part : Part) (q : Quote) (t : ℕ) (todo : List ℕ) (b : ℕ) (bytes : List ℕ) (out : List Event) → along (λ t. Rest l t bytes) (step_setting_value part q t todo b) out → InSettingValue l part q (t ∷ todo) (b ∷ bytes) out
  sound_setting_value part q t [] b bytes out h =
      let d = only (λ t. Rest l t bytes) out (fold_for part t) (fold_for part b) (m.setting_value_end part q) h in setting_value_more part q t [] b bytes out d.0 d.1
  sound_setting_value part q t (u ∷ todo) b bytes out h =
      let d = only (λ t. Rest l t bytes) out (fold_for part t) (fold_for part b) (m.setting_value part q u todo) h in setting_value_more part q t (u ∷ todo) b bytes out d.0 d.1

  sound_setting_value_end : (part : Part) (q : Quote) (b : ℕ) (bytes : List ℕ) (out : List Event) → along (λ t. Rest l t bytes) (exactly (quote_char q) b (m.after_setting part)) out → InSettingValue l part q [] (b ∷ bytes) out
  sound_setting_value_end part q b bytes out h =
      let d = only (λ t. Rest l t bytes) out (quote_char q) b (m.after_setting part) h in ([], bytes, refl, ap (λ z. z ∷ bytes) d.0, d.1)

  sound_declaration_end : (k : Class) (b : ℕ) → class b ≡ k → (bytes : List ℕ) (out : List Event) → along (λ t. Rest l t bytes) (step_greater k (go (m.content before))) out → Rest l m.declaration_end (b ∷ bytes) out
  sound_declaration_end Greater b e bytes out h = (bytes, ap (λ y. y ∷ bytes) (greater_is b e), h)
  sound_declaration_end k b e bytes out h = absurd h

  -- where a document begins
  sound_after_mark : (y : Why) (k : Class) (b : ℕ) → class b ≡ k → (bytes : List ℕ) (out : List Event) → along (λ t. Rest l t bytes) (step_after_byte_order_mark y k) out → Unmarked l (b ∷ bytes) out
  sound_after_mark y Less b e bytes out h = subst (λ x. Unmarked l (x ∷ bytes) out) (sym (less_is b e)) h
  sound_after_mark y Blank b e bytes out h = inl (blank_back b bytes out (ap blanks e) h)
  sound_after_mark y k b e bytes out h = absurd h

  sound_start : (b : ℕ) (bytes : List ℕ) (out : List Event) → along (λ t. Rest l t bytes) (step_start (class b) b) out → Document l (b ∷ bytes) out
  sound_start b bytes out h =
      elim (choice (λ t. Rest l t bytes) out (eqb b 65279) m.after_byte_order_mark _ h) [
        | inl d ↦ inr (bytes, ap (λ y. y ∷ bytes) (eqb-true b 65279 d.0), d.1)
        | inr s ↦ inl (sound_after_mark (m.partly 65279 b) (class b) b refl bytes out s)
      ]

  sound_document_tag_open : (k : Class) (b : ℕ) → class b ≡ k → (bytes : List ℕ) (out : List Event) → along (λ t. Rest l t bytes) (step_document_tag_open l k b) out → Unmarked l (60 ∷ b ∷ bytes) out
  sound_document_tag_open Question b e bytes out h = subst (λ x. Unmarked l (60 ∷ x ∷ bytes) out) (sym (question_is b e)) h
  sound_document_tag_open k b e bytes out h = inl (sound_tag_open before _ b e bytes out h)

  xml_back : (b : ℕ) (rest : List ℕ) (c : ℕ) (k : List ℕ) (out : List Event) → b ∷ rest ≡ 120 ∷ 109 ∷ 108 ∷ [] → class c ≡ Blank → Next l version k out → Unmarked l (60 ∷ 63 ∷ b ∷ (rest ++ c ∷ k)) out
  xml_back b rest c k out e bl h =
      let d = setting_back version c k out bl h in
      let s = d.4 in
      let t = s.4 in
      let u = t.4 in
      inr (
        record { version = d.0; encoding = s.0; standalone = t.0; gap = u.0 },
        u.1,
        record { version = d.2; encoding = s.2; standalone = t.2; gap = u.2 },
        ap (λ y. 60 ∷ 63 ∷ (y ++ c ∷ k)) e ∙ ap (λ y. 60 ∷ 63 ∷ 120 ∷ 109 ∷ 108 ∷ y) (d.3 ∙ ap (λ y. print_setting version d.0 y) (s.3 ∙ ap (λ y. print_maybe encoding s.0 y) (t.3 ∙ ap (λ y. print_maybe standalone t.0 y) u.3))),
        u.4,
      )

  sound_document_instruction : (k : Class) (b : ℕ) → class b ≡ k → (bytes : List ℕ) (out : List Event) → along (λ t. Rest l t bytes) (step_document_processing_instruction k b) out → Unmarked l (60 ∷ 63 ∷ b ∷ bytes) out
  sound_document_instruction Letter b e bytes out (inl h) = inl (processing_instruction_back before b e bytes out h)
  sound_document_instruction Letter b e bytes out (inr (rest, c, k, y, f, bl, h)) = subst (λ x. Unmarked l (60 ∷ 63 ∷ b ∷ x) out) (sym f) (xml_back b rest c k out y bl h)
  sound_document_instruction k b e bytes out h = absurd h

  document_target_more : (n : List ℕ) (b : ℕ) (bytes : List ℕ) (out : List Event) → names (class b) ≡ true → Rest l (m.document_instruction_target (n ++ b ∷ [])) bytes out → Rest l (m.document_instruction_target n) (b ∷ bytes) out
  document_target_more n b bytes out t (inl h) = inl (target_more before n b bytes out t h)
  document_target_more n b bytes out t (inr (rest, c, k, y, f, bl, h)) = inr (b ∷ rest, c, k, sym (append_assoc n (b ∷ []) rest) ∙ y, ap (λ x. b ∷ x) f, bl, h)

  xml_is : (n : List ℕ) → is_small_xml n ≡ true → n ≡ 120 ∷ 109 ∷ 108 ∷ []
  xml_is n h = (bytes_eq-Decides n (120 ∷ 109 ∷ 108 ∷ [])).0 h

  sound_document_target : (n : List ℕ) (k : Class) (b : ℕ) → class b ≡ k → (bytes : List ℕ) (out : List Event) → along (λ t. Rest l t bytes) (step_document_instruction_target n k b) out → Rest l (m.document_instruction_target n) (b ∷ bytes) out
  sound_document_target n Letter b e bytes out h = document_target_more n b bytes out (ap names e) h
  sound_document_target n Digit b e bytes out h = document_target_more n b bytes out (ap names e) h
  sound_document_target n Dash b e bytes out h = document_target_more n b bytes out (ap names e) h
  sound_document_target n Blank b e bytes out h =
      elim (choice (λ t. Rest l t bytes) out (is_small_xml n) m.before_version _ h) [
        | inl d ↦ inr ([], b, bytes, append-nil n ∙ xml_is n d.0, refl, e, d.1)
        | inr s ↦ inl (target_space before n b e bytes out s)
      ]
  sound_document_target n Question b e bytes out h = inl (target_ask before n b e bytes out h)
  sound_document_target n k b e bytes out h = absurd h

  -- a step back, in each state
  sound_step : (s : State) (k : Class) (b : ℕ) → class b ≡ k → (bytes : List ℕ) (out : List Event) → along (λ t. Rest l t bytes) (step l s k b) out → Rest l s (b ∷ bytes) out
  sound_step m.start k b e bytes out h = sound_start b bytes out (subst (λ c. along (λ t. Rest l t bytes) (step_start c b) out) (sym e) h)
  sound_step m.after_byte_order_mark k b e bytes out h = sound_after_mark w.Plain k b e bytes out h
  sound_step m.document_tag_open k b e bytes out h = sound_document_tag_open k b e bytes out h
  sound_step m.document_processing_instruction k b e bytes out h = sound_document_instruction k b e bytes out h
  sound_step (m.document_instruction_target n) k b e bytes out h = sound_document_target n k b e bytes out h
  sound_step m.before_version k b e bytes out h = sound_before_version k b e bytes out h
  sound_step (m.after_setting part) k b e bytes out h = sound_after_setting part k b e bytes out h
  sound_step (m.between_settings part) k b e bytes out h = sound_between_settings part k b e bytes out h
  sound_step (m.setting_name part t todo) k b e bytes out h = sound_setting_name part t todo b bytes out h
  sound_step (m.after_setting_name part) k b e bytes out h = sound_after_setting_name part k b e bytes out h
  sound_step (m.before_setting_value part) k b e bytes out h = sound_before_setting_value part k b e bytes out h
  sound_step (m.standalone_value q) k b e bytes out h = sound_standalone_value q b bytes out h
  sound_step (m.setting_value part q t todo) k b e bytes out h = sound_setting_value part q t todo b bytes out h
  sound_step (m.setting_value_end part q) k b e bytes out h = sound_setting_value_end part q b bytes out h
  sound_step m.declaration_end k b e bytes out h = sound_declaration_end k b e bytes out h
  sound_step (m.processing_instruction p) k b e bytes out h = sound_processing_instruction p k b e bytes out h
  sound_step (m.instruction_target p n) k b e bytes out h = sound_instruction_target p n k b e bytes out h
  sound_step (m.instruction_target_end p) k b e bytes out h = sound_instruction_target_end p k b e bytes out h
  sound_step (m.instruction_text p) k b e bytes out h = sound_instruction_text p k b e bytes out h
  sound_step (m.instruction_end p) k b e bytes out h = sound_instruction_end p k b e bytes out h
  sound_step (m.cdata_start n ns t todo) k b e bytes out h = sound_cdata_start n ns t todo b bytes out h
  sound_step (m.cdata_section n ns) k b e bytes out h = sound_cdata_section n ns k b e bytes out h
  sound_step (m.cdata_section_bracket n ns) k b e bytes out h = sound_cdata_section_bracket n ns k b e bytes out h
  sound_step (m.cdata_section_end n ns) k b e bytes out h = sound_cdata_section_end n ns k b e bytes out h
  sound_step (m.numeric_reference h) k b e bytes out r = sound_numeric_reference h b bytes out r
  sound_step (m.hexadecimal_reference h) k b e bytes out r = first_digit h sixteen b bytes out r
  sound_step (m.reference_digits h base n) k b e bytes out r = sound_reference_digits h base n b bytes out r
  sound_step (m.content p) k b e bytes out h = sound_content p k b e bytes out h
  sound_step (m.tag_open p) k b e bytes out h = sound_tag_open p k b e bytes out h
  sound_step (m.markup_declaration p) k b e bytes out h = sound_markup_declaration p k b e bytes out h
  sound_step (m.comment_start p) k b e bytes out h = sound_comment_start p k b e bytes out h
  sound_step (m.comment p) k b e bytes out h = sound_comment p k b e bytes out h
  sound_step (m.comment_dash p) k b e bytes out h = sound_comment_dash p k b e bytes out h
  sound_step (m.comment_end p) k b e bytes out h = sound_comment_end p k b e bytes out h
  sound_step (m.tag_name p n) k b e bytes out h = sound_tag_name p n k b e bytes out h
  sound_step (m.before_attribute_name p n xs) k b e bytes out h = sound_before_attribute_name p n xs k b e bytes out h
  sound_step (m.attribute_name p n xs x) k b e bytes out h = sound_attribute_name p n xs x k b e bytes out h
  sound_step (m.after_attribute_name p n xs x) k b e bytes out h = sound_after_attribute_name p n xs x k b e bytes out h
  sound_step (m.before_attribute_value p n xs x) k b e bytes out h = sound_before_attribute_value p n xs x k b e bytes out h
  sound_step (m.attribute_value p n xs x q v r) k b e bytes out h = sound_attribute_value p n xs x q v r k b e bytes out h
  sound_step (m.after_attribute_value p n xs) k b e bytes out h = tag_back p n xs k b e bytes out h
  sound_step (m.self_closing_start_tag p n xs) k b e bytes out h = sound_self_closing_start_tag p n xs k b e bytes out h
  sound_step (m.end_tag_name ns todo) k b e bytes out h = sound_end_tag_name ns todo k b e bytes out h
  sound_step (m.after_end_tag_name ns) k b e bytes out h = sound_after_end_tag_name ns k b e bytes out h
  sound_step (m.reference h) k b e bytes out r = sound_reference h b bytes out r
  sound_step (m.reference_a h) k b e bytes out r = sound_reference_a h b bytes out r
  sound_step (m.named_reference h code t todo) k b e bytes out r = sound_named_reference h code t todo b bytes out r

  along-map : (P Q : State → List Event → Type 0) → ((s : State) (out : List Event) → P s out → Q s out) → (w : Step) (out : List Event) → along P w out → along Q w out
  along-map P Q f (dead y) out h = h
  along-map P Q f (go s) out h = f s out h
  along-map P Q f (emit s es) out (more, e, h) = (more, e, f s more h)

  final_rest : (s : State) → Final s → Rest l s [] []
  final_rest (m.content (within [])) h = (g.done, tt, refl, refl)
  final_rest s h = absurd h

  pub run_sound : (bytes : List ℕ) (s : State) (out : List Event) → Run l s bytes out → Rest l s bytes out
  run_sound [] s out (f, e) = subst (λ o. Rest l s [] o) (sym e) (final_rest s f)
  run_sound (b ∷ bytes) s out h =
      sound_step s (class b) b refl bytes out (along-map (λ t. Run l t bytes) (λ t. Rest l t bytes) (λ t o. run_sound bytes t o) (step l s (class b) b) out h)
