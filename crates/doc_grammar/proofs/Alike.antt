-- A reason that is not told by a part of a character holds for every character with the same first byte.
use Rattle.std.proofs.Common.{◌≡◌, ℕ, ◌<◌, ◌≤◌, Bool, true, false, cond, List, [], ◌∷◌, length, map, ◌⊎◌, inl, inr, refl, sym, ap, ◌∙◌, subst, arith, eqb, leb}
use Rattle.std.proofs.lemmas.Bool.Decides.{nat_tests}
use Rattle.std.proofs.lemmas.Bool.{cases_lt, eqb-true}
use Rattle.std.specs.Char.{encode_utf8}
use Rattle.doc_grammar.specs.Characters.{class}
use Rattle.doc_grammar.specs.Grammar.{Quote, with_double, with_single, quote_char, Part, version, encoding, standalone, fold_for, fold_case, Base, ten, sixteen, is_numeral, Limits, may_stand}
use Rattle.doc_grammar.specs.declared.characters.Class.{Class}
use Rattle.doc_grammar.specs.declared.characters.Class.TheVariants.{Letter, Bad}
use Rattle.doc_grammar.specs.declared.reasons.Why.{Why}
use Rattle.doc_grammar.specs.declared.reasons.Why.TheVariants as w
use Rattle.doc_grammar.specs.Machine.{before, within, Hole, State, Step, dead, go, emit, guard, exactly, step, after_reference, partly, bad, step_digit, step_part}
use Rattle.doc_grammar.specs.Machine as m
use Rattle.doc_grammar.proofs.Classes.{high_class, class_of_mark}
use Rattle.doc_grammar.proofs.Bytes.{ascii_same}
use Rattle.doc_grammar.proofs.Keeps.{Keeps, low}

abbrev pub is_dead : Step → Bool
is_dead (dead y) = true
is_dead (go s) = false
is_dead (emit s es) = false

abbrev pub IsWholly : Why → Type 0
IsWholly (w.Partly n) = ⊥
IsWholly w.Plain = Unit {0}
IsWholly w.Bang = Unit {0}
IsWholly w.Deep = Unit {0}
IsWholly (w.Twice n) = Unit {0}

guard_off : (y : Why) (t : Bool) (s : State) → t ≡ false → is_dead (guard y t s) ≡ true
guard_off y true s h = cc
guard_off y false s h = refl

cond_off : (t : Bool) (u v : Step) → t ≡ false → is_dead v ≡ true → is_dead (cond t u v) ≡ true
cond_off true u v h k = cc
cond_off false u v h k = k

guard_alike : (y z : Why) (t : Bool) (s u : State) → guard y t s ≡ dead z → is_dead (guard y t u) ≡ true
guard_alike y z true s u e = cc
guard_alike y z false s u e = refl

high_apart : (d t : ℕ) → t < 128 → 128 ≤ d → eqb d t ≡ false
high_apart d t h k = grind (arith, nat_tests)

exactly_high : (t d : ℕ) (s : State) → t < 128 → 128 ≤ d → is_dead (exactly t d s) ≡ true
exactly_high t d s h k = guard_off w.Plain (eqb d t) s (high_apart d t h k)

numeral_high : (base : Base) (d : ℕ) → 128 ≤ d → is_numeral base d ≡ false
numeral_high ten d h = grind (arith, nat_tests)
numeral_high sixteen d h = grind (arith, nat_tests)

digit_high : (h : Hole) (base : Base) (n d : ℕ) → 128 ≤ d → is_dead (step_digit h base n d) ≡ true
digit_high h base n d k = cond_off (is_numeral base d) _ _ (numeral_high base d k) refl

fold_for_high : (part : Part) (d : ℕ) → 128 ≤ d → 128 ≤ fold_for part d
fold_for_high version d h = h
fold_for_high encoding d h = let e : fold_case d ≡ d = grind (arith, nat_tests) in subst (λ z. 128 ≤ z) (sym e) h
fold_for_high standalone d h = h

quote_low : (q : Quote) → quote_char q < 128
quote_low with_double = omega arith
quote_low with_single = omega arith

bad_partly : (c : ℕ) (y : Why) → IsWholly y → 128 ≤ c → (v : Why) → v ≡ bad c → dead v ≡ dead y → ⊥
bad_partly c y i h v e f = pick (leb 128 c) refl
  where
    pick : (t : Bool) → t ≡ leb 128 c → ⊥
    pick true g = let z : w.Partly 2 ≡ y = ap (λ q. cond q (w.Partly 2) w.Plain) g ∙ sym e ∙ cc f in subst IsWholly (sym z) i
    pick false g = grind (arith, nat_tests)

start_never : (l : Limits) (k : Class) (c : ℕ) (y : Why) → (k ≡ Letter) ⊎ (k ≡ Bad) → IsWholly y → step l m.start k c ≡ dead y → ⊥
start_never l k c y (inl e) i f = pick (eqb c 65279) (ap (λ q. step l m.start q c) (sym e) ∙ f)
  where
    pick : (t : Bool) → cond t (go m.after_byte_order_mark) (dead (partly 65279 c)) ≡ dead y → ⊥
    pick true g = cc
    pick false g = let z : partly 65279 c ≡ y = cc g in subst IsWholly (sym z) i
start_never l k c y (inr e) i f = pick (eqb c 65279) (ap (λ q. step l m.start q c) (sym e) ∙ f)
  where
    pick : (t : Bool) → cond t (go m.after_byte_order_mark) (dead (partly 65279 c)) ≡ dead y → ⊥
    pick true g = cc
    pick false g = let z : partly 65279 c ≡ y = cc g in subst IsWholly (sym z) i

name_never : (t c : ℕ) (s : State) (y : Why) (z : Bool) → IsWholly y → guard (partly t c) z s ≡ dead y → ⊥
name_never t c s y true i e = cc
name_never t c s y false i e = let q : partly t c ≡ y = cc e in subst IsWholly (sym q) i

abbrev pub Dead : Limits → State → Class → ℕ → Type 0
Dead l s k d = is_dead (step l s k d) ≡ true

part_high : (part : Part) (d : ℕ) → 128 ≤ d → is_dead (step_part part d) ≡ true
part_high version d h = cond_off (eqb d 101) _ _ (high_apart d 101 (omega arith) h) (exactly_high 115 d m.standalone_word (omega arith) h)
part_high encoding d h = exactly_high 115 d m.standalone_word (omega arith) h
part_high standalone d h = refl

-- a character past ASCII that may stand nowhere, in a state where no other text is compared with it
bad_dead : (l : Limits) (s : State) (f : List ℕ) (d : ℕ) → Keeps s f → 128 ≤ d → (eqb d 65279 ≡ false) → ((ns : List (List ℕ)) (t : ℕ) (todo : List ℕ) → s ≡ m.end_tag_name ns (t ∷ todo) → ⊥) → Dead l s Bad d
bad_dead l m.start f d g h o n = cond_off (eqb d 65279) _ _ o refl
bad_dead l (m.end_tag_name ns (t ∷ todo)) f d g h o n = absurd (n ns t todo refl)
bad_dead l m.before_version f d g h o z = exactly_high 118 d _ (omega arith) h
bad_dead l (m.between_settings part) f d g h o z = part_high part d h
bad_dead l (m.setting_name part t []) f d g h o z = exactly_high t d (m.after_setting_name part) (low t [] g).ascii h
bad_dead l (m.setting_name part t (u ∷ todo)) f d g h o z = exactly_high t d (m.setting_name part u todo) (low t (u ∷ todo) g).ascii h
bad_dead l (m.standalone_value q) f d g h o z = cond_off (eqb d 121) _ _ (high_apart d 121 (omega arith) h) (exactly_high 110 d (m.setting_value standalone q 111 []) (omega arith) h)
bad_dead l (m.setting_value part q t []) f d g h o z = exactly_high (fold_for part t) (fold_for part d) (m.setting_value_end part q) (low (fold_for part t) [] g).ascii (fold_for_high part d h)
bad_dead l (m.setting_value part q t (u ∷ todo)) f d g h o z = exactly_high (fold_for part t) (fold_for part d) (m.setting_value part q u todo) (low (fold_for part t) (map (fold_for part) (u ∷ todo)) g).ascii (fold_for_high part d h)
bad_dead l (m.setting_value_end part q) f d g h o z = exactly_high (quote_char q) d (m.after_setting part) (quote_low q) h
bad_dead l (m.cdata_start n ns t []) f d g h o z = exactly_high t d (m.cdata_section n ns) (low t [] g.1).ascii h
bad_dead l (m.cdata_start n ns t (u ∷ todo)) f d g h o z = exactly_high t d (m.cdata_start n ns u todo) (low t (u ∷ todo) g.1).ascii h
bad_dead l (m.reference i) f d g h o z = cond_off (eqb d 108) _ _ (high_apart d 108 (omega arith) h) (cond_off (eqb d 103) _ _ (high_apart d 103 (omega arith) h) (cond_off (eqb d 113) _ _ (high_apart d 113 (omega arith) h) (cond_off (eqb d 35) _ _ (high_apart d 35 (omega arith) h) (exactly_high 97 d (m.reference_a i) (omega arith) h))))
bad_dead l (m.reference_a i) f d g h o z = cond_off (eqb d 109) _ _ (high_apart d 109 (omega arith) h) (exactly_high 112 d _ (omega arith) h)
bad_dead l (m.named_reference i code t []) f d g h o z = exactly_high t d (after_reference i code) (low t [] g.1).ascii h
bad_dead l (m.named_reference i code t (u ∷ todo)) f d g h o z = exactly_high t d (m.named_reference i code u todo) (low t (u ∷ todo) g.1).ascii h
bad_dead l (m.numeric_reference i) f d g h o z = cond_off (eqb d 120) _ _ (high_apart d 120 (omega arith) h) (digit_high i ten 0 d h)
bad_dead l (m.hexadecimal_reference i) f d g h o z = digit_high i sixteen 0 d h
bad_dead l (m.reference_digits i base n) f d g h o z = cond_off (eqb d 59) _ _ (high_apart d 59 (omega arith) h) (digit_high i base n d h)
bad_dead l m.after_byte_order_mark f d g h o z = refl
bad_dead l (m.after_setting part) f d g h o z = refl
bad_dead l (m.after_setting_name part) f d g h o z = refl
bad_dead l (m.before_setting_value part) f d g h o z = refl
bad_dead l m.declaration_end f d g h o z = refl
bad_dead l (m.content before) f d g h o z = refl
bad_dead l (m.content (within [])) f d g h o z = refl
bad_dead l (m.markup_declaration before) f d g h o z = refl
bad_dead l (m.markup_declaration (within [])) f d g h o z = refl
bad_dead l (m.markup_declaration (within (n ∷ ns))) f d g h o z = refl
bad_dead l (m.comment_start p) f d g h o z = refl
bad_dead l (m.comment_end p) f d g h o z = refl
bad_dead l (m.instruction_target_end p) f d g h o z = refl
bad_dead l (m.after_attribute_name p n xs x) f d g h o z = refl
bad_dead l (m.before_attribute_value p n xs x) f d g h o z = refl
bad_dead l (m.after_attribute_value p n xs) f d g h o z = refl
bad_dead l (m.self_closing_start_tag p n xs) f d g h o z = refl
bad_dead l (m.end_tag_name ns []) f d g h o z = refl
bad_dead l (m.after_end_tag_name ns) f d g h o z = refl
bad_dead l m.document_tag_open f d g h o z = refl
bad_dead l m.document_processing_instruction f d g h o z = refl
bad_dead l (m.document_instruction_target n) f d g h o z = refl
bad_dead l (m.content (within (n ∷ ns))) f d g h o z = refl
bad_dead l (m.tag_open before) f d g h o z = refl
bad_dead l (m.comment p) f d g h o z = refl
bad_dead l (m.comment_dash p) f d g h o z = refl
bad_dead l (m.processing_instruction p) f d g h o z = refl
bad_dead l (m.instruction_target p n) f d g h o z = refl
bad_dead l (m.instruction_text p) f d g h o z = refl
bad_dead l (m.instruction_end p) f d g h o z = refl
bad_dead l (m.cdata_section n ns) f d g h o z = refl
bad_dead l (m.cdata_section_bracket n ns) f d g h o z = refl
bad_dead l (m.cdata_section_end n ns) f d g h o z = refl
bad_dead l (m.tag_name p n) f d g h o z = refl
bad_dead l (m.before_attribute_name p n xs) f d g h o z = refl
bad_dead l (m.attribute_name p n xs x) f d g h o z = refl
bad_dead l (m.attribute_value p n xs x with_double v r) f d g h o z = refl
bad_dead l (m.attribute_value p n xs x with_single v r) f d g h o z = refl
bad_dead l (m.tag_open (within [])) f d g h o z = refl
bad_dead l (m.tag_open (within (n ∷ ns))) f d g h o z = refl

-- where a letter ends it, every letter past ASCII does
letter_dead : (l : Limits) (s : State) (f : List ℕ) (c d : ℕ) (y : Why) → Keeps s f → 128 ≤ d → IsWholly y → step l s Letter c ≡ dead y → Dead l s Letter d
letter_dead l m.start f c d y g h o e = absurd (start_never l Letter c y (inl refl) o e)
letter_dead l (m.end_tag_name ns (t ∷ todo)) f c d y g h o e = absurd (name_never t c (m.end_tag_name ns todo) y (eqb c t) o e)
letter_dead l (m.tag_open (within [])) f c d y g h o e = refl
letter_dead l (m.tag_open (within (n ∷ ns))) f c d y g h o e = guard_alike w.Deep y (may_stand l (length (n ∷ ns))) _ _ e
letter_dead l m.before_version f c d y g h o e = exactly_high 118 d _ (omega arith) h
letter_dead l (m.between_settings part) f c d y g h o e = part_high part d h
letter_dead l (m.setting_name part t []) f c d y g h o e = exactly_high t d (m.after_setting_name part) (low t [] g).ascii h
letter_dead l (m.setting_name part t (u ∷ todo)) f c d y g h o e = exactly_high t d (m.setting_name part u todo) (low t (u ∷ todo) g).ascii h
letter_dead l (m.standalone_value q) f c d y g h o e = cond_off (eqb d 121) _ _ (high_apart d 121 (omega arith) h) (exactly_high 110 d (m.setting_value standalone q 111 []) (omega arith) h)
letter_dead l (m.setting_value part q t []) f c d y g h o e = exactly_high (fold_for part t) (fold_for part d) (m.setting_value_end part q) (low (fold_for part t) [] g).ascii (fold_for_high part d h)
letter_dead l (m.setting_value part q t (u ∷ todo)) f c d y g h o e = exactly_high (fold_for part t) (fold_for part d) (m.setting_value part q u todo) (low (fold_for part t) (map (fold_for part) (u ∷ todo)) g).ascii (fold_for_high part d h)
letter_dead l (m.setting_value_end part q) f c d y g h o e = exactly_high (quote_char q) d (m.after_setting part) (quote_low q) h
letter_dead l (m.cdata_start n ns t []) f c d y g h o e = exactly_high t d (m.cdata_section n ns) (low t [] g.1).ascii h
letter_dead l (m.cdata_start n ns t (u ∷ todo)) f c d y g h o e = exactly_high t d (m.cdata_start n ns u todo) (low t (u ∷ todo) g.1).ascii h
letter_dead l (m.reference i) f c d y g h o e = cond_off (eqb d 108) _ _ (high_apart d 108 (omega arith) h) (cond_off (eqb d 103) _ _ (high_apart d 103 (omega arith) h) (cond_off (eqb d 113) _ _ (high_apart d 113 (omega arith) h) (cond_off (eqb d 35) _ _ (high_apart d 35 (omega arith) h) (exactly_high 97 d (m.reference_a i) (omega arith) h))))
letter_dead l (m.reference_a i) f c d y g h o e = cond_off (eqb d 109) _ _ (high_apart d 109 (omega arith) h) (exactly_high 112 d _ (omega arith) h)
letter_dead l (m.named_reference i code t []) f c d y g h o e = exactly_high t d (after_reference i code) (low t [] g.1).ascii h
letter_dead l (m.named_reference i code t (u ∷ todo)) f c d y g h o e = exactly_high t d (m.named_reference i code u todo) (low t (u ∷ todo) g.1).ascii h
letter_dead l (m.numeric_reference i) f c d y g h o e = cond_off (eqb d 120) _ _ (high_apart d 120 (omega arith) h) (digit_high i ten 0 d h)
letter_dead l (m.hexadecimal_reference i) f c d y g h o e = digit_high i sixteen 0 d h
letter_dead l (m.reference_digits i base n) f c d y g h o e = cond_off (eqb d 59) _ _ (high_apart d 59 (omega arith) h) (digit_high i base n d h)
letter_dead l m.after_byte_order_mark f c d y g h o e = refl
letter_dead l (m.after_setting part) f c d y g h o e = refl
letter_dead l (m.after_setting_name part) f c d y g h o e = refl
letter_dead l (m.before_setting_value part) f c d y g h o e = refl
letter_dead l m.declaration_end f c d y g h o e = refl
letter_dead l (m.content before) f c d y g h o e = refl
letter_dead l (m.content (within [])) f c d y g h o e = refl
letter_dead l (m.markup_declaration before) f c d y g h o e = refl
letter_dead l (m.markup_declaration (within [])) f c d y g h o e = refl
letter_dead l (m.markup_declaration (within (n ∷ ns))) f c d y g h o e = refl
letter_dead l (m.comment_start p) f c d y g h o e = refl
letter_dead l (m.comment_end p) f c d y g h o e = refl
letter_dead l (m.instruction_target_end p) f c d y g h o e = refl
letter_dead l (m.after_attribute_name p n xs x) f c d y g h o e = refl
letter_dead l (m.before_attribute_value p n xs x) f c d y g h o e = refl
letter_dead l (m.after_attribute_value p n xs) f c d y g h o e = refl
letter_dead l (m.self_closing_start_tag p n xs) f c d y g h o e = refl
letter_dead l (m.end_tag_name ns []) f c d y g h o e = refl
letter_dead l (m.after_end_tag_name ns) f c d y g h o e = refl
letter_dead l m.document_tag_open f c d y g h o e = cc
letter_dead l m.document_processing_instruction f c d y g h o e = cc
letter_dead l (m.document_instruction_target n) f c d y g h o e = cc
letter_dead l (m.content (within (n ∷ ns))) f c d y g h o e = cc
letter_dead l (m.tag_open before) f c d y g h o e = cc
letter_dead l (m.comment p) f c d y g h o e = cc
letter_dead l (m.comment_dash p) f c d y g h o e = cc
letter_dead l (m.processing_instruction p) f c d y g h o e = cc
letter_dead l (m.instruction_target p n) f c d y g h o e = cc
letter_dead l (m.instruction_text p) f c d y g h o e = cc
letter_dead l (m.instruction_end p) f c d y g h o e = cc
letter_dead l (m.cdata_section n ns) f c d y g h o e = cc
letter_dead l (m.cdata_section_bracket n ns) f c d y g h o e = cc
letter_dead l (m.cdata_section_end n ns) f c d y g h o e = cc
letter_dead l (m.tag_name p n) f c d y g h o e = cc
letter_dead l (m.before_attribute_name p n xs) f c d y g h o e = cc
letter_dead l (m.attribute_name p n xs x) f c d y g h o e = cc
letter_dead l (m.attribute_value p n xs x with_double v r) f c d y g h o e = cc
letter_dead l (m.attribute_value p n xs x with_single v r) f c d y g h o e = cc

tag_open_bad : (l : Limits) (n : List ℕ) (ns : List (List ℕ)) (c d : ℕ) (y : Why) → 128 ≤ c → IsWholly y → (t z : Bool) → t ≡ leb 128 c → dead (cond t (cond z (w.Partly 2) w.Deep) w.Plain) ≡ dead y → is_dead (guard w.Deep z (m.tag_name (within (n ∷ ns)) (d ∷ []))) ≡ true
tag_open_bad l n ns c d y h o true true e f = let q : w.Partly 2 ≡ y = cc f in absurd (subst IsWholly (sym q) o)
tag_open_bad l n ns c d y h o true false e f = refl
tag_open_bad l n ns c d y h o false z e f = absurd (grind (arith, nat_tests))

-- where a character that may stand nowhere ends it, every letter past ASCII does
bad_letter : (l : Limits) (s : State) (f : List ℕ) (c d : ℕ) (y : Why) → Keeps s f → 128 ≤ c → 128 ≤ d → IsWholly y → step l s Bad c ≡ dead y → Dead l s Letter d
bad_letter l m.start f c d y g j h o e = absurd (start_never l Bad c y (inr refl) o e)
bad_letter l (m.end_tag_name ns (t ∷ todo)) f c d y g j h o e = absurd (name_never t c (m.end_tag_name ns todo) y (eqb c t) o e)
bad_letter l (m.tag_open (within [])) f c d y g j h o e = refl
bad_letter l (m.tag_open (within (n ∷ ns))) f c d y g j h o e = tag_open_bad l n ns c d y j o (leb 128 c) (may_stand l (length (n ∷ ns))) refl e
bad_letter l m.before_version f c d y g j h o e = exactly_high 118 d _ (omega arith) h
bad_letter l (m.between_settings part) f c d y g j h o e = part_high part d h
bad_letter l (m.setting_name part t []) f c d y g j h o e = exactly_high t d (m.after_setting_name part) (low t [] g).ascii h
bad_letter l (m.setting_name part t (u ∷ todo)) f c d y g j h o e = exactly_high t d (m.setting_name part u todo) (low t (u ∷ todo) g).ascii h
bad_letter l (m.standalone_value q) f c d y g j h o e = cond_off (eqb d 121) _ _ (high_apart d 121 (omega arith) h) (exactly_high 110 d (m.setting_value standalone q 111 []) (omega arith) h)
bad_letter l (m.setting_value part q t []) f c d y g j h o e = exactly_high (fold_for part t) (fold_for part d) (m.setting_value_end part q) (low (fold_for part t) [] g).ascii (fold_for_high part d h)
bad_letter l (m.setting_value part q t (u ∷ todo)) f c d y g j h o e = exactly_high (fold_for part t) (fold_for part d) (m.setting_value part q u todo) (low (fold_for part t) (map (fold_for part) (u ∷ todo)) g).ascii (fold_for_high part d h)
bad_letter l (m.setting_value_end part q) f c d y g j h o e = exactly_high (quote_char q) d (m.after_setting part) (quote_low q) h
bad_letter l (m.cdata_start n ns t []) f c d y g j h o e = exactly_high t d (m.cdata_section n ns) (low t [] g.1).ascii h
bad_letter l (m.cdata_start n ns t (u ∷ todo)) f c d y g j h o e = exactly_high t d (m.cdata_start n ns u todo) (low t (u ∷ todo) g.1).ascii h
bad_letter l (m.reference i) f c d y g j h o e = cond_off (eqb d 108) _ _ (high_apart d 108 (omega arith) h) (cond_off (eqb d 103) _ _ (high_apart d 103 (omega arith) h) (cond_off (eqb d 113) _ _ (high_apart d 113 (omega arith) h) (cond_off (eqb d 35) _ _ (high_apart d 35 (omega arith) h) (exactly_high 97 d (m.reference_a i) (omega arith) h))))
bad_letter l (m.reference_a i) f c d y g j h o e = cond_off (eqb d 109) _ _ (high_apart d 109 (omega arith) h) (exactly_high 112 d _ (omega arith) h)
bad_letter l (m.named_reference i code t []) f c d y g j h o e = exactly_high t d (after_reference i code) (low t [] g.1).ascii h
bad_letter l (m.named_reference i code t (u ∷ todo)) f c d y g j h o e = exactly_high t d (m.named_reference i code u todo) (low t (u ∷ todo) g.1).ascii h
bad_letter l (m.numeric_reference i) f c d y g j h o e = cond_off (eqb d 120) _ _ (high_apart d 120 (omega arith) h) (digit_high i ten 0 d h)
bad_letter l (m.hexadecimal_reference i) f c d y g j h o e = digit_high i sixteen 0 d h
bad_letter l (m.reference_digits i base n) f c d y g j h o e = cond_off (eqb d 59) _ _ (high_apart d 59 (omega arith) h) (digit_high i base n d h)
bad_letter l m.after_byte_order_mark f c d y g j h o e = refl
bad_letter l (m.after_setting part) f c d y g j h o e = refl
bad_letter l (m.after_setting_name part) f c d y g j h o e = refl
bad_letter l (m.before_setting_value part) f c d y g j h o e = refl
bad_letter l m.declaration_end f c d y g j h o e = refl
bad_letter l (m.content before) f c d y g j h o e = refl
bad_letter l (m.content (within [])) f c d y g j h o e = refl
bad_letter l (m.markup_declaration before) f c d y g j h o e = refl
bad_letter l (m.markup_declaration (within [])) f c d y g j h o e = refl
bad_letter l (m.markup_declaration (within (n ∷ ns))) f c d y g j h o e = refl
bad_letter l (m.comment_start p) f c d y g j h o e = refl
bad_letter l (m.comment_end p) f c d y g j h o e = refl
bad_letter l (m.instruction_target_end p) f c d y g j h o e = refl
bad_letter l (m.after_attribute_name p n xs x) f c d y g j h o e = refl
bad_letter l (m.before_attribute_value p n xs x) f c d y g j h o e = refl
bad_letter l (m.after_attribute_value p n xs) f c d y g j h o e = refl
bad_letter l (m.self_closing_start_tag p n xs) f c d y g j h o e = refl
bad_letter l (m.end_tag_name ns []) f c d y g j h o e = refl
bad_letter l (m.after_end_tag_name ns) f c d y g j h o e = refl
bad_letter l m.document_tag_open f c d y g j h o e = absurd (bad_partly c y o j (bad c) refl e)
bad_letter l m.document_processing_instruction f c d y g j h o e = absurd (bad_partly c y o j (bad c) refl e)
bad_letter l (m.document_instruction_target n) f c d y g j h o e = absurd (bad_partly c y o j (bad c) refl e)
bad_letter l (m.content (within (n ∷ ns))) f c d y g j h o e = absurd (bad_partly c y o j (bad c) refl e)
bad_letter l (m.tag_open before) f c d y g j h o e = absurd (bad_partly c y o j (bad c) refl e)
bad_letter l (m.comment p) f c d y g j h o e = absurd (bad_partly c y o j (bad c) refl e)
bad_letter l (m.comment_dash p) f c d y g j h o e = absurd (bad_partly c y o j (bad c) refl e)
bad_letter l (m.processing_instruction p) f c d y g j h o e = absurd (bad_partly c y o j (bad c) refl e)
bad_letter l (m.instruction_target p n) f c d y g j h o e = absurd (bad_partly c y o j (bad c) refl e)
bad_letter l (m.instruction_text p) f c d y g j h o e = absurd (bad_partly c y o j (bad c) refl e)
bad_letter l (m.instruction_end p) f c d y g j h o e = absurd (bad_partly c y o j (bad c) refl e)
bad_letter l (m.cdata_section n ns) f c d y g j h o e = absurd (bad_partly c y o j (bad c) refl e)
bad_letter l (m.cdata_section_bracket n ns) f c d y g j h o e = absurd (bad_partly c y o j (bad c) refl e)
bad_letter l (m.cdata_section_end n ns) f c d y g j h o e = absurd (bad_partly c y o j (bad c) refl e)
bad_letter l (m.tag_name p n) f c d y g j h o e = absurd (bad_partly c y o j (bad c) refl e)
bad_letter l (m.before_attribute_name p n xs) f c d y g j h o e = absurd (bad_partly c y o j (bad c) refl e)
bad_letter l (m.attribute_name p n xs x) f c d y g j h o e = absurd (bad_partly c y o j (bad c) refl e)
bad_letter l (m.attribute_value p n xs x with_double v r) f c d y g j h o e = absurd (bad_partly c y o j (bad c) refl e)
bad_letter l (m.attribute_value p n xs x with_single v r) f c d y g j h o e = absurd (bad_partly c y o j (bad c) refl e)

no_name : (l : Limits) (s : State) (c : ℕ) (y : Why) → IsWholly y → step l s (class c) c ≡ dead y → (ns : List (List ℕ)) (t : ℕ) (todo : List ℕ) → s ≡ m.end_tag_name ns (t ∷ todo) → ⊥
no_name l s c y o e ns t todo f = name_never t c (m.end_tag_name ns todo) y (eqb c t) o (ap (λ q. step l q (class c) c) (sym f) ∙ e)

-- of two characters past ASCII
high_dead : (l : Limits) (s : State) (f : List ℕ) (c d : ℕ) (y : Why) → Keeps s f → 128 ≤ c → 128 ≤ d → IsWholly y → step l s (class c) c ≡ dead y → Dead l s (class d) d
high_dead l s f c d y g j h o e =
    elim (high_class d h) [
      | inl ed ↦ ap (λ q. is_dead (step l s q d)) ed ∙ elim (high_class c j) [
        | inl ec ↦ letter_dead l s f c d y g h o (ap (λ q. step l s q c) (sym ec) ∙ e)
        | inr ec ↦ bad_letter l s f c d y g j h o (ap (λ q. step l s q c) (sym ec) ∙ e)
      ]
      | inr ed ↦ ap (λ q. is_dead (step l s q d)) ed ∙ bad_dead l s f d g h (not_mark d ed) (no_name l s c y o e)
    ]
  where
    not_true : (t : Bool) → (t ≡ true → ⊥) → t ≡ false
    not_true true k = absurd (k refl)
    not_true false k = refl

    not_mark : (d : ℕ) → class d ≡ Bad → eqb d 65279 ≡ false
    not_mark d ed = not_true (eqb d 65279) (λ t. let z = sym (ap class (eqb-true d 65279 t) ∙ class_of_mark) ∙ ed in cc)

pub dead_from : (v : Step) → is_dead v ≡ true → (y : Why) × (v ≡ dead y)
dead_from (dead y) h = (y, refl)
dead_from (go s) h = cc
dead_from (emit s es) h = cc

-- of two characters with one first byte
pub dead_alike : (l : Limits) (s : State) (f : List ℕ) (c d b : ℕ) (u v : List ℕ) (y : Why) → Keeps s f → IsWholly y → step l s (class c) c ≡ dead y → encode_utf8 c ≡ b ∷ u → encode_utf8 d ≡ b ∷ v → Dead l s (class d) d
dead_alike l s f c d b u v y g o h e i =
    elim (cases_lt c 128) [
      | inl lt ↦ let z = ascii_same c d b u v lt e i in subst (λ x. Dead l s (class x) x) (sym z) (ap is_dead h)
      | inr le ↦ elim (cases_lt d 128) [
        | inl lt ↦ let z = ascii_same d c b v u lt i e in absurd (omega (arith, z, lt, le))
        | inr le2 ↦ high_dead l s f c d y g le le2 o h
      ]
    ]
