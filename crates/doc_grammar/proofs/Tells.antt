-- Which state gives a reason, and that it is the limit's alone.
use Rattle.std.proofs.Common.{◌≡◌, ℕ, ◌≤◌, Bool, true, false, cond, not, List, [], ◌∷◌, length, ◌⊎◌, inl, inr, refl, sym, ap, arith, eqb, leb}
use Rattle.std.proofs.lemmas.Bool.Decides.{nat_tests}
use Rattle.std.specs.Str.{encode_utf8_all}
use Rattle.std.specs.Char.{encode_utf8}
use Rattle.doc_grammar.specs.Characters.{is_char}
use Rattle.doc_grammar.specs.Grammar.{with_double, with_single, quote_char, Part, version, encoding, standalone, fold_for, is_xml, Base, ten, sixteen, is_numeral, with_digit, Pair, has, strict, deeper, repeated, may_stand}
use Rattle.doc_grammar.specs.declared.characters.Class.{Class}
use Rattle.doc_grammar.specs.declared.characters.Class.TheVariants.{Less, Greater, Slash, Question, Dash, Equal, DoubleQuote, SingleQuote, OpenBracket, CloseBracket, Blank, Letter, Digit, Bad}
use Rattle.doc_grammar.specs.declared.reasons.Why.{Why}
use Rattle.doc_grammar.specs.declared.reasons.Why.TheVariants as w
use Rattle.doc_grammar.specs.Machine.{Place, before, within, Hole, State, Step, dead, go, emit, guard, step, after_reference, partly, bad, bad_tag_open, common_prefix_length, is_small_xml, step_after_byte_order_mark, step_tag, step_digit, step_part}
use Rattle.doc_grammar.specs.Machine as m

abbrev pub TellsStart : State → ℕ → ℕ → Type 0
TellsStart s b n = (s ≡ m.start) × (n ≡ common_prefix_length (encode_utf8 65279) (encode_utf8 b)) × (eqb b 65279 ≡ false)

abbrev pub TellsName : State → ℕ → ℕ → Type 0
TellsName s b n = (ns : List (List ℕ)) × (t : ℕ) × (todo : List ℕ) × (s ≡ m.end_tag_name ns (t ∷ todo)) × (n ≡ common_prefix_length (encode_utf8 t) (encode_utf8 b)) × (eqb b t ≡ false)

abbrev pub TellsBad : State → Class → ℕ → ℕ → Type 0
TellsBad s k b n = (u : State) × (k ≡ Bad) × (128 ≤ b) × (n ≡ 2) × (step strict s Letter 65533 ≡ go u)

abbrev pub Tells : State → Class → ℕ → Step → Type 0
Tells s k b (dead w.Plain) = Unit {0}
Tells s k b (dead w.Bang) = (p : Place) × (s ≡ m.markup_declaration p)
Tells s k b (dead w.Deep) = (p : Place) × (s ≡ m.tag_open p) × ((k ≡ Letter) ⊎ ((k ≡ Bad) × (128 ≤ b))) × ((x : ℕ) → step deeper s Letter x ≡ go (m.tag_name p (x ∷ [])))
Tells s k b (dead (w.Twice n)) =
    (p : Place) × (e : List ℕ) × (xs : List Pair) × (y : List ℕ) × (t : State) × (s ≡ m.attribute_name p e xs y) × (n ≡ length (encode_utf8_all y)) × ((k ≡ Blank) ⊎ (k ≡ Equal)) × (step repeated s k b ≡ go t)
Tells s k b (dead (w.Partly n)) = TellsStart s b n ⊎ (TellsName s b n ⊎ TellsBad s k b n)
Tells s k b (go t) = Unit {0}
Tells s k b (emit t es) = Unit {0}

tells_guard : (s : State) (k : Class) (b : ℕ) (t : Bool) (u : State) → Tells s k b (guard w.Plain t u)
tells_guard s k b true u = tt
tells_guard s k b false u = tt

tells_deep : (s : State) (k : Class) (b : ℕ) (t : Bool) (u : State) → Tells s k b (dead w.Deep) → Tells s k b (guard w.Deep t u)
tells_deep s k b true u h = tt
tells_deep s k b false u h = h

tells_cond : (s : State) (k : Class) (b : ℕ) (t : Bool) (u v : Step) → Tells s k b u → Tells s k b v → Tells s k b (cond t u v)
tells_cond s k b true u v h g = h
tells_cond s k b false u v h g = g

tells_digit : (s : State) (k : Class) (b : ℕ) (h : Hole) (base : Base) (n : ℕ) → Tells s k b (step_digit h base n b)
tells_digit s k b h base n = tells_cond s k b (is_numeral base b) _ _ (tells_guard s k b (leb (with_digit base n b) 1114111) (m.reference_digits h base (with_digit base n b))) tt

-- a character that may stand nowhere, where a letter may
tells_bad : (s : State) (b : ℕ) (u : State) → step strict s Letter 65533 ≡ go u → Tells s Bad b (dead (bad b))
tells_bad s b u e = pick (leb 128 b) refl
  where
    pick : (t : Bool) → t ≡ leb 128 b → Tells s Bad b (dead (cond t (w.Partly 2) w.Plain))
    pick true f = inr (inr (u, refl, grind (arith, nat_tests), refl, e))
    pick false f = tt

tells_after_mark : (s : State) (k : Class) (b : ℕ) (y : Why) → Tells s k b (dead y) → Tells s k b (step_after_byte_order_mark y k)
tells_after_mark s Less b y h = tt
tells_after_mark s Blank b y h = tt
tells_after_mark s k b y h = h

tells_start : (k : Class) (b : ℕ) (t : Bool) → t ≡ eqb b 65279 → Tells m.start k b (cond t (go m.after_byte_order_mark) (step_after_byte_order_mark (partly 65279 b) k))
tells_start k b true e = tt
tells_start k b false e = tells_after_mark m.start k b (partly 65279 b) (inl (refl, refl, sym e))

tells_name : (ns : List (List ℕ)) (t : ℕ) (todo : List ℕ) (k : Class) (b : ℕ) (z : Bool) → z ≡ eqb b t → Tells (m.end_tag_name ns (t ∷ todo)) k b (guard (partly t b) z (m.end_tag_name ns todo))
tells_name ns t todo k b true e = tt
tells_name ns t todo k b false e = inr (inl (ns, t, todo, refl, refl, sym e))

tells_part : (s : State) (k : Class) (b : ℕ) (part : Part) → Tells s k b (step_part part b)
tells_part s k b version = tells_cond s k b (eqb b 101) _ _ tt (tells_guard s k b (eqb b 115) m.standalone_word)
tells_part s k b encoding = tells_guard s k b (eqb b 115) m.standalone_word
tells_part s k b standalone = tt

tells_tag : (s : State) (p : Place) (n : List ℕ) (xs : List Pair) (k : Class) (b : ℕ) → Tells s k b (step_tag p n xs k)
tells_tag s p n xs Blank b = tt
tells_tag s p n xs Slash b = tt
tells_tag s p n xs Greater b = tt
tells_tag s p n xs k b = tt

-- where an element would begin
tells_bad_deep : (n : List ℕ) (ns : List (List ℕ)) (b : ℕ) → Tells (m.tag_open (within (n ∷ ns))) Bad b (dead (bad_tag_open strict (within (n ∷ ns)) b))
tells_bad_deep n ns b = pick (leb 128 b) (may_stand strict (length (n ∷ ns))) refl refl
  where
    pick : (t z : Bool) → t ≡ leb 128 b → z ≡ may_stand strict (length (n ∷ ns)) → Tells (m.tag_open (within (n ∷ ns))) Bad b (dead (cond t (cond z (w.Partly 2) w.Deep) w.Plain))
    pick false z e f = tt
    pick true true e f = inr (inr (m.tag_name (within (n ∷ ns)) (65533 ∷ []), refl, grind (arith, nat_tests), refl, ap (λ q. guard w.Deep q (m.tag_name (within (n ∷ ns)) (65533 ∷ []))) (sym f)))
    pick true false e f = (within (n ∷ ns), refl, inr (refl, grind (arith, nat_tests)), λ x. refl)

pub tells_step : (s : State) (k : Class) (b : ℕ) → Tells s k b (step strict s k b)
tells_step m.start k b = tells_start k b (eqb b 65279) refl
tells_step m.after_byte_order_mark k b = tells_after_mark m.after_byte_order_mark k b w.Plain tt
tells_step m.document_tag_open Question b = tt
tells_step m.document_tag_open Letter b = tt
tells_step m.document_tag_open Bad b = tells_bad m.document_tag_open b _ refl
tells_step m.document_tag_open k b = tt
tells_step m.document_processing_instruction Letter b = tt
tells_step m.document_processing_instruction Bad b = tells_bad m.document_processing_instruction b _ refl
tells_step m.document_processing_instruction k b = tt
tells_step (m.document_instruction_target n) Letter b = tt
tells_step (m.document_instruction_target n) Digit b = tt
tells_step (m.document_instruction_target n) Dash b = tt
tells_step (m.document_instruction_target n) Blank b = tells_cond (m.document_instruction_target n) Blank b (is_small_xml n) _ _ tt (tells_guard (m.document_instruction_target n) Blank b (not (is_xml n)) (m.instruction_text before))
tells_step (m.document_instruction_target n) Question b = tells_guard (m.document_instruction_target n) Question b (not (is_xml n)) (m.instruction_target_end before)
tells_step (m.document_instruction_target n) Bad b = tells_bad (m.document_instruction_target n) b _ refl
tells_step (m.document_instruction_target n) k b = tt
tells_step m.before_version Blank b = tt
tells_step m.before_version k b = tells_guard m.before_version k b (eqb b 118) _
tells_step (m.after_setting part) Blank b = tt
tells_step (m.after_setting part) Question b = tt
tells_step (m.after_setting part) k b = tt
tells_step (m.between_settings part) Blank b = tt
tells_step (m.between_settings part) Question b = tt
tells_step (m.between_settings part) k b = tells_part (m.between_settings part) k b part
tells_step (m.setting_name part t []) k b = tells_guard (m.setting_name part t []) k b (eqb b t) (m.after_setting_name part)
tells_step (m.setting_name part t (u ∷ todo)) k b = tells_guard (m.setting_name part t (u ∷ todo)) k b (eqb b t) (m.setting_name part u todo)
tells_step (m.after_setting_name part) Blank b = tt
tells_step (m.after_setting_name part) Equal b = tt
tells_step (m.after_setting_name part) k b = tt
tells_step (m.before_setting_value part) Blank b = tt
tells_step (m.before_setting_value part) DoubleQuote b = tt
tells_step (m.before_setting_value part) SingleQuote b = tt
tells_step (m.before_setting_value part) k b = tt
tells_step (m.standalone_value q) k b = tells_cond (m.standalone_value q) k b (eqb b 121) _ _ tt (tells_guard (m.standalone_value q) k b (eqb b 110) (m.setting_value standalone q 111 []))
tells_step (m.setting_value part q t []) k b = tells_guard (m.setting_value part q t []) k b (eqb (fold_for part b) (fold_for part t)) (m.setting_value_end part q)
tells_step (m.setting_value part q t (u ∷ todo)) k b = tells_guard (m.setting_value part q t (u ∷ todo)) k b (eqb (fold_for part b) (fold_for part t)) (m.setting_value part q u todo)
tells_step (m.setting_value_end part q) k b = tells_guard (m.setting_value_end part q) k b (eqb b (quote_char q)) (m.after_setting part)
tells_step m.declaration_end Greater b = tt
tells_step m.declaration_end k b = tt
tells_step (m.content before) Less b = tt
tells_step (m.content before) k b = tt
tells_step (m.content (within [])) Less b = tt
tells_step (m.content (within [])) k b = tt
tells_step (m.content (within (n ∷ ns))) Less b = tt
tells_step (m.content (within (n ∷ ns))) Bad b = tells_bad (m.content (within (n ∷ ns))) b _ refl
tells_step (m.content (within (n ∷ ns))) k b = tt
tells_step (m.tag_open before) Bad b = tells_bad (m.tag_open before) b _ refl
tells_step (m.tag_open (within [])) Bad b = tells_cond_why (leb 128 b)
  where
    tells_cond_why : (t : Bool) → Tells (m.tag_open (within [])) Bad b (dead (cond t w.Plain w.Plain))
    tells_cond_why true = tt
    tells_cond_why false = tt
tells_step (m.tag_open (within (n ∷ ns))) Bad b = tells_bad_deep n ns b
tells_step (m.tag_open before) Letter b = tt
tells_step (m.tag_open (within [])) Letter b = tt
tells_step (m.tag_open (within (n ∷ ns))) Letter b =
    tells_deep (m.tag_open (within (n ∷ ns))) Letter b (may_stand strict (length (n ∷ ns))) (m.tag_name (within (n ∷ ns)) (b ∷ [])) (within (n ∷ ns), refl, inl refl, λ x. refl)
tells_step (m.tag_open before) k b = tt
tells_step (m.tag_open (within [])) k b = tt
tells_step (m.tag_open (within (n ∷ ns))) k b = tt
tells_step (m.markup_declaration p) Dash b = tt
tells_step (m.markup_declaration (within (n ∷ ns))) OpenBracket b = tt
tells_step (m.markup_declaration before) k b = (before, refl)
tells_step (m.markup_declaration (within [])) k b = (within [], refl)
tells_step (m.markup_declaration (within (n ∷ ns))) k b = (within (n ∷ ns), refl)
tells_step (m.comment_start p) Dash b = tt
tells_step (m.comment_start p) k b = tt
tells_step (m.comment p) Bad b = tells_bad (m.comment p) b _ refl
tells_step (m.comment p) Dash b = tt
tells_step (m.comment p) k b = tt
tells_step (m.comment_dash p) Bad b = tells_bad (m.comment_dash p) b _ refl
tells_step (m.comment_dash p) Dash b = tt
tells_step (m.comment_dash p) k b = tt
tells_step (m.comment_end p) Greater b = tt
tells_step (m.comment_end p) k b = tt
tells_step (m.processing_instruction p) Letter b = tt
tells_step (m.processing_instruction p) Bad b = tells_bad (m.processing_instruction p) b _ refl
tells_step (m.processing_instruction p) k b = tt
tells_step (m.instruction_target p n) Letter b = tt
tells_step (m.instruction_target p n) Digit b = tt
tells_step (m.instruction_target p n) Dash b = tt
tells_step (m.instruction_target p n) Blank b = tells_guard (m.instruction_target p n) Blank b (not (is_xml n)) (m.instruction_text p)
tells_step (m.instruction_target p n) Question b = tells_guard (m.instruction_target p n) Question b (not (is_xml n)) (m.instruction_target_end p)
tells_step (m.instruction_target p n) Bad b = tells_bad (m.instruction_target p n) b _ refl
tells_step (m.instruction_target p n) k b = tt
tells_step (m.instruction_target_end p) Greater b = tt
tells_step (m.instruction_target_end p) k b = tt
tells_step (m.instruction_text p) Bad b = tells_bad (m.instruction_text p) b _ refl
tells_step (m.instruction_text p) Question b = tt
tells_step (m.instruction_text p) k b = tt
tells_step (m.instruction_end p) Bad b = tells_bad (m.instruction_end p) b _ refl
tells_step (m.instruction_end p) Question b = tt
tells_step (m.instruction_end p) Greater b = tt
tells_step (m.instruction_end p) k b = tt
tells_step (m.cdata_start n ns t []) k b = tells_guard (m.cdata_start n ns t []) k b (eqb b t) (m.cdata_section n ns)
tells_step (m.cdata_start n ns t (u ∷ todo)) k b = tells_guard (m.cdata_start n ns t (u ∷ todo)) k b (eqb b t) (m.cdata_start n ns u todo)
tells_step (m.cdata_section n ns) Bad b = tells_bad (m.cdata_section n ns) b _ refl
tells_step (m.cdata_section n ns) CloseBracket b = tt
tells_step (m.cdata_section n ns) k b = tt
tells_step (m.cdata_section_bracket n ns) Bad b = tells_bad (m.cdata_section_bracket n ns) b _ refl
tells_step (m.cdata_section_bracket n ns) CloseBracket b = tt
tells_step (m.cdata_section_bracket n ns) k b = tt
tells_step (m.cdata_section_end n ns) Bad b = tells_bad (m.cdata_section_end n ns) b _ refl
tells_step (m.cdata_section_end n ns) CloseBracket b = tt
tells_step (m.cdata_section_end n ns) Greater b = tt
tells_step (m.cdata_section_end n ns) k b = tt
tells_step (m.tag_name p n) Letter b = tt
tells_step (m.tag_name p n) Digit b = tt
tells_step (m.tag_name p n) Dash b = tt
tells_step (m.tag_name p n) Bad b = tells_bad (m.tag_name p n) b _ refl
tells_step (m.tag_name p n) k b = tells_tag (m.tag_name p n) p n [] k b
tells_step (m.before_attribute_name p n xs) Letter b = tt
tells_step (m.before_attribute_name p n xs) Bad b = tells_bad (m.before_attribute_name p n xs) b _ refl
tells_step (m.before_attribute_name p n xs) k b = tells_tag (m.before_attribute_name p n xs) p n xs k b
tells_step (m.attribute_name p n xs y) Blank b = tells_cond (m.attribute_name p n xs y) Blank b (has xs y) (dead (w.Twice (length (encode_utf8_all y)))) (go (m.after_attribute_name p n xs y)) (p, n, xs, y, m.after_attribute_name p n xs y, refl, refl, inl refl, refl) tt
tells_step (m.attribute_name p n xs y) Equal b = tells_cond (m.attribute_name p n xs y) Equal b (has xs y) (dead (w.Twice (length (encode_utf8_all y)))) (go (m.before_attribute_value p n xs y)) (p, n, xs, y, m.before_attribute_value p n xs y, refl, refl, inr refl, refl) tt
tells_step (m.attribute_name p n xs y) Bad b = tells_bad (m.attribute_name p n xs y) b _ refl
tells_step (m.attribute_name p n xs y) k b = tt
tells_step (m.after_attribute_name p n xs y) Blank b = tt
tells_step (m.after_attribute_name p n xs y) Equal b = tt
tells_step (m.after_attribute_name p n xs y) k b = tt
tells_step (m.before_attribute_value p n xs y) Blank b = tt
tells_step (m.before_attribute_value p n xs y) DoubleQuote b = tt
tells_step (m.before_attribute_value p n xs y) SingleQuote b = tt
tells_step (m.before_attribute_value p n xs y) k b = tt
tells_step (m.attribute_value p n xs y with_double v r) Less b = tt
tells_step (m.attribute_value p n xs y with_single v r) Less b = tt
tells_step (m.attribute_value p n xs y with_double v r) Bad b = tells_bad (m.attribute_value p n xs y with_double v r) b _ refl
tells_step (m.attribute_value p n xs y with_single v r) Bad b = tells_bad (m.attribute_value p n xs y with_single v r) b _ refl
tells_step (m.attribute_value p n xs y with_double v r) k b = tt
tells_step (m.attribute_value p n xs y with_single v r) k b = tt
tells_step (m.after_attribute_value p n xs) k b = tells_tag (m.after_attribute_value p n xs) p n xs k b
tells_step (m.self_closing_start_tag p n xs) Greater b = tt
tells_step (m.self_closing_start_tag p n xs) k b = tt
tells_step (m.end_tag_name ns []) Blank b = tt
tells_step (m.end_tag_name ns []) Greater b = tt
tells_step (m.end_tag_name ns []) k b = tt
tells_step (m.end_tag_name ns (t ∷ todo)) k b = tells_name ns t todo k b (eqb b t) refl
tells_step (m.after_end_tag_name ns) Blank b = tt
tells_step (m.after_end_tag_name ns) Greater b = tt
tells_step (m.after_end_tag_name ns) k b = tt
tells_step (m.reference h) k b =
    let s = m.reference h in
    tells_cond s k b (eqb b 108) _ _ tt (tells_cond s k b (eqb b 103) _ _ tt (tells_cond s k b (eqb b 113) _ _ tt (tells_cond s k b (eqb b 35) _ _ tt (tells_guard s k b (eqb b 97) (m.reference_a h)))))
tells_step (m.reference_a h) k b = let s = m.reference_a h in tells_cond s k b (eqb b 109) _ _ tt (tells_guard s k b (eqb b 112) _)
tells_step (m.named_reference h code t []) k b = tells_guard (m.named_reference h code t []) k b (eqb b t) (after_reference h code)
tells_step (m.named_reference h code t (u ∷ todo)) k b = tells_guard (m.named_reference h code t (u ∷ todo)) k b (eqb b t) (m.named_reference h code u todo)
tells_step (m.numeric_reference h) k b = tells_cond (m.numeric_reference h) k b (eqb b 120) _ _ tt (tells_digit (m.numeric_reference h) k b h ten 0)
tells_step (m.hexadecimal_reference h) k b = tells_digit (m.hexadecimal_reference h) k b h sixteen 0
tells_step (m.reference_digits h base n) k b = tells_cond (m.reference_digits h base n) k b (eqb b 59) _ _ (tells_guard (m.reference_digits h base n) k b (is_char n) (after_reference h n)) (tells_digit (m.reference_digits h base n) k b h base n)
