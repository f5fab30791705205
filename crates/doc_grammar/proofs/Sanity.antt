-- The numbers of the states that the machine comes to.
use Rattle.std.proofs.Common.{◌≡◌, ℕ, Bool, true, false, cond, List, [], ◌∷◌, refl, arith, eqb, leb, not}
use Rattle.std.proofs.lemmas.Bool.Decides.{nat_tests}
use Rattle.doc_grammar.specs.Characters.{is_char}
use Rattle.doc_grammar.specs.Grammar.{Limits, clashes, Quote, with_double, with_single, quote_char, Part, version, encoding, standalone, fold_for, is_xml, Base, ten, sixteen, is_numeral, with_digit, Pair}
use Rattle.doc_grammar.specs.declared.characters.Class.{Class}
use Rattle.doc_grammar.specs.declared.characters.Class.TheVariants.{Less, Greater, Slash, Bang, Question, Dash, Ampersand, Equal, DoubleQuote, SingleQuote, OpenBracket, CloseBracket, Blank, Letter, Digit, Bad}
use Rattle.doc_grammar.specs.declared.reasons.Why.{Why}
use Rattle.doc_grammar.specs.declared.reasons.Why.TheVariants as w
use Rattle.doc_grammar.specs.Machine.{Place, before, within, Hole, in_text, in_value, State, Step, guard, after_reference, setting_value_start, may_open, why_open, is_small_xml, step_tag_open, step_after_byte_order_mark, step_tag, step_digit, step_part, step, start}
use Rattle.doc_grammar.specs.Machine as m
use Rattle.doc_grammar.proofs.Finish.{Sane, SaneStep}

sane_guard : (y : Why) (t : Bool) (s : State) → Sane s → SaneStep (guard y t s)
sane_guard y true s h = h
sane_guard y false s h = tt

sane_cond : (t : Bool) (u v : Step) → SaneStep u → SaneStep v → SaneStep (cond t u v)
sane_cond true u v h k = h
sane_cond false u v h k = k

sane_after_reference : (h : Hole) (code : ℕ) → Sane (after_reference h code)
sane_after_reference (in_text n ns) code = tt
sane_after_reference (in_value p n xs x q v) code = tt

sane_open : (part : Part) (q : Quote) → Sane (setting_value_start part q)
sane_open version q = tt
sane_open encoding q = tt
sane_open standalone q = tt

-- a number comes only where it is small enough
sane_reference_digits : (h : Hole) (base : Base) (n : ℕ) (t : Bool) → t ≡ leb n 1114111 → SaneStep (guard w.Plain t (m.reference_digits h base n))
sane_reference_digits h base n true e = grind (arith, nat_tests)
sane_reference_digits h base n false e = tt

sane_digit : (h : Hole) (base : Base) (n b : ℕ) → SaneStep (step_digit h base n b)
sane_digit h base n b = sane_cond (is_numeral base b) _ _ (sane_reference_digits h base (with_digit base n b) (leb (with_digit base n b) 1114111) refl) tt

sane_tag : (p : Place) (n : List ℕ) (xs : List Pair) (k : Class) → SaneStep (step_tag p n xs k)
sane_tag p n xs Blank = tt
sane_tag p n xs Slash = tt
sane_tag p n xs Greater = tt
sane_tag p n xs k = tt

sane_tag_open : (l : Limits) (p : Place) (k : Class) (b : ℕ) → SaneStep (step_tag_open l p k b)
sane_tag_open l p Bang b = tt
sane_tag_open l p Question b = tt
sane_tag_open l p Letter b = sane_guard (why_open p) (may_open l p) (m.tag_name p (b ∷ [])) tt
sane_tag_open l p Bad b = tt
sane_tag_open l (within (n ∷ ns)) Slash b = tt
sane_tag_open l before k b = tt
sane_tag_open l (within []) k b = tt
sane_tag_open l (within (n ∷ ns)) k b = tt

sane_after_mark : (y : Why) (k : Class) → SaneStep (step_after_byte_order_mark y k)
sane_after_mark y Less = tt
sane_after_mark y Blank = tt
sane_after_mark y k = tt

sane_part : (part : Part) (b : ℕ) → SaneStep (step_part part b)
sane_part version b = sane_cond (eqb b 101) _ _ tt (sane_guard w.Plain (eqb b 115) m.standalone_word tt)
sane_part encoding b = sane_guard w.Plain (eqb b 115) m.standalone_word tt
sane_part standalone b = tt

pub sane_step : (l : Limits) (s : State) (k : Class) (b : ℕ) → SaneStep (step l s k b)
sane_step l m.start k b = sane_cond (eqb b 65279) _ _ tt (sane_after_mark (m.partly 65279 b) k)
sane_step l m.after_byte_order_mark k b = sane_after_mark w.Plain k
sane_step l m.document_tag_open Question b = tt
sane_step l m.document_tag_open k b = sane_tag_open l before k b
sane_step l m.document_processing_instruction Letter b = tt
sane_step l m.document_processing_instruction k b = tt
sane_step l (m.document_instruction_target n) Letter b = tt
sane_step l (m.document_instruction_target n) Digit b = tt
sane_step l (m.document_instruction_target n) Dash b = tt
sane_step l (m.document_instruction_target n) Blank b = sane_cond (is_small_xml n) _ _ tt (sane_guard w.Plain (not (is_xml n)) (m.instruction_text before) tt)
sane_step l (m.document_instruction_target n) Question b = sane_guard w.Plain (not (is_xml n)) (m.instruction_target_end before) tt
sane_step l (m.document_instruction_target n) k b = tt
sane_step l m.before_version Blank b = tt
sane_step l m.before_version k b = sane_guard w.Plain (eqb b 118) _ tt
sane_step l (m.after_setting part) Blank b = tt
sane_step l (m.after_setting part) Question b = tt
sane_step l (m.after_setting part) k b = tt
sane_step l (m.between_settings part) Blank b = tt
sane_step l (m.between_settings part) Question b = tt
sane_step l (m.between_settings part) k b = sane_part part b
sane_step l (m.setting_name part t []) k b = sane_guard w.Plain (eqb b t) (m.after_setting_name part) tt
sane_step l (m.setting_name part t (u ∷ todo)) k b = sane_guard w.Plain (eqb b t) (m.setting_name part u todo) tt
sane_step l (m.after_setting_name part) Blank b = tt
sane_step l (m.after_setting_name part) Equal b = tt
sane_step l (m.after_setting_name part) k b = tt
sane_step l (m.before_setting_value part) Blank b = tt
sane_step l (m.before_setting_value part) DoubleQuote b = sane_open part with_double
sane_step l (m.before_setting_value part) SingleQuote b = sane_open part with_single
sane_step l (m.before_setting_value part) k b = tt
sane_step l (m.standalone_value q) k b = sane_cond (eqb b 121) _ _ tt (sane_guard w.Plain (eqb b 110) (m.setting_value standalone q 111 []) tt)
sane_step l (m.setting_value part q t []) k b = sane_guard w.Plain (eqb (fold_for part b) (fold_for part t)) (m.setting_value_end part q) tt
sane_step l (m.setting_value part q t (u ∷ todo)) k b = sane_guard w.Plain (eqb (fold_for part b) (fold_for part t)) (m.setting_value part q u todo) tt
sane_step l (m.setting_value_end part q) k b = sane_guard w.Plain (eqb b (quote_char q)) (m.after_setting part) tt
sane_step l m.declaration_end Greater b = tt
sane_step l m.declaration_end k b = tt
sane_step l (m.content before) Less b = tt
sane_step l (m.content before) Bad b = tt
sane_step l (m.content before) Blank b = tt
sane_step l (m.content before) k b = tt
sane_step l (m.content (within [])) Less b = tt
sane_step l (m.content (within [])) Bad b = tt
sane_step l (m.content (within [])) Blank b = tt
sane_step l (m.content (within [])) k b = tt
sane_step l (m.content (within (n ∷ ns))) Less b = tt
sane_step l (m.content (within (n ∷ ns))) Bad b = tt
sane_step l (m.content (within (n ∷ ns))) Ampersand b = tt
sane_step l (m.content (within (n ∷ ns))) k b = tt
sane_step l (m.tag_open p) k b = sane_tag_open l p k b
sane_step l (m.markup_declaration p) Dash b = tt
sane_step l (m.markup_declaration (within (n ∷ ns))) OpenBracket b = tt
sane_step l (m.markup_declaration before) k b = tt
sane_step l (m.markup_declaration (within [])) k b = tt
sane_step l (m.markup_declaration (within (n ∷ ns))) k b = tt
sane_step l (m.comment_start p) Dash b = tt
sane_step l (m.comment_start p) k b = tt
sane_step l (m.comment p) Dash b = tt
sane_step l (m.comment p) Bad b = tt
sane_step l (m.comment p) k b = tt
sane_step l (m.comment_dash p) Dash b = tt
sane_step l (m.comment_dash p) Bad b = tt
sane_step l (m.comment_dash p) k b = tt
sane_step l (m.comment_end p) Greater b = tt
sane_step l (m.comment_end p) k b = tt
sane_step l (m.processing_instruction p) Letter b = tt
sane_step l (m.processing_instruction p) k b = tt
sane_step l (m.instruction_target p n) Letter b = tt
sane_step l (m.instruction_target p n) Digit b = tt
sane_step l (m.instruction_target p n) Dash b = tt
sane_step l (m.instruction_target p n) Blank b = sane_guard w.Plain (not (is_xml n)) (m.instruction_text p) tt
sane_step l (m.instruction_target p n) Question b = sane_guard w.Plain (not (is_xml n)) (m.instruction_target_end p) tt
sane_step l (m.instruction_target p n) k b = tt
sane_step l (m.instruction_target_end p) Greater b = tt
sane_step l (m.instruction_target_end p) k b = tt
sane_step l (m.instruction_text p) Question b = tt
sane_step l (m.instruction_text p) Bad b = tt
sane_step l (m.instruction_text p) k b = tt
sane_step l (m.instruction_end p) Greater b = tt
sane_step l (m.instruction_end p) Question b = tt
sane_step l (m.instruction_end p) Bad b = tt
sane_step l (m.instruction_end p) k b = tt
sane_step l (m.cdata_start n ns t []) k b = sane_guard w.Plain (eqb b t) (m.cdata_section n ns) tt
sane_step l (m.cdata_start n ns t (u ∷ todo)) k b = sane_guard w.Plain (eqb b t) (m.cdata_start n ns u todo) tt
sane_step l (m.cdata_section n ns) CloseBracket b = tt
sane_step l (m.cdata_section n ns) Bad b = tt
sane_step l (m.cdata_section n ns) k b = tt
sane_step l (m.cdata_section_bracket n ns) CloseBracket b = tt
sane_step l (m.cdata_section_bracket n ns) Bad b = tt
sane_step l (m.cdata_section_bracket n ns) k b = tt
sane_step l (m.cdata_section_end n ns) CloseBracket b = tt
sane_step l (m.cdata_section_end n ns) Greater b = tt
sane_step l (m.cdata_section_end n ns) Bad b = tt
sane_step l (m.cdata_section_end n ns) k b = tt
sane_step l (m.tag_name p n) Letter b = tt
sane_step l (m.tag_name p n) Digit b = tt
sane_step l (m.tag_name p n) Dash b = tt
sane_step l (m.tag_name p n) Bad b = tt
sane_step l (m.tag_name p n) k b = sane_tag p n [] k
sane_step l (m.before_attribute_name p n xs) Letter b = tt
sane_step l (m.before_attribute_name p n xs) Bad b = tt
sane_step l (m.before_attribute_name p n xs) k b = sane_tag p n xs k
sane_step l (m.attribute_name p n xs x) Letter b = tt
sane_step l (m.attribute_name p n xs x) Digit b = tt
sane_step l (m.attribute_name p n xs x) Dash b = tt
sane_step l (m.attribute_name p n xs x) Blank b = sane_cond (clashes l xs x) _ _ tt tt
sane_step l (m.attribute_name p n xs x) Equal b = sane_cond (clashes l xs x) _ _ tt tt
sane_step l (m.attribute_name p n xs x) k b = tt
sane_step l (m.after_attribute_name p n xs x) Blank b = tt
sane_step l (m.after_attribute_name p n xs x) Equal b = tt
sane_step l (m.after_attribute_name p n xs x) k b = tt
sane_step l (m.before_attribute_value p n xs x) Blank b = tt
sane_step l (m.before_attribute_value p n xs x) DoubleQuote b = tt
sane_step l (m.before_attribute_value p n xs x) SingleQuote b = tt
sane_step l (m.before_attribute_value p n xs x) k b = tt
sane_step l (m.attribute_value p n xs x with_double v r) DoubleQuote b = tt
sane_step l (m.attribute_value p n xs x with_single v r) SingleQuote b = tt
sane_step l (m.attribute_value p n xs x with_double v r) Less b = tt
sane_step l (m.attribute_value p n xs x with_single v r) Less b = tt
sane_step l (m.attribute_value p n xs x with_double v r) Bad b = tt
sane_step l (m.attribute_value p n xs x with_single v r) Bad b = tt
sane_step l (m.attribute_value p n xs x with_double v r) Ampersand b = tt
sane_step l (m.attribute_value p n xs x with_single v r) Ampersand b = tt
sane_step l (m.attribute_value p n xs x with_double v r) k b = tt
sane_step l (m.attribute_value p n xs x with_single v r) k b = tt
sane_step l (m.after_attribute_value p n xs) k b = sane_tag p n xs k
sane_step l (m.self_closing_start_tag p n xs) Greater b = tt
sane_step l (m.self_closing_start_tag p n xs) k b = tt
sane_step l (m.end_tag_name ns []) Blank b = tt
sane_step l (m.end_tag_name ns []) Greater b = tt
sane_step l (m.end_tag_name ns []) k b = tt
sane_step l (m.end_tag_name ns (t ∷ todo)) k b = sane_guard (m.partly t b) (eqb b t) (m.end_tag_name ns todo) tt
sane_step l (m.after_end_tag_name ns) Blank b = tt
sane_step l (m.after_end_tag_name ns) Greater b = tt
sane_step l (m.after_end_tag_name ns) k b = tt
sane_step l (m.reference h) k b =
    sane_cond (eqb b 108) _ _ tt (sane_cond (eqb b 103) _ _ tt (sane_cond (eqb b 113) _ _ tt (sane_cond (eqb b 35) _ _ tt (sane_guard w.Plain (eqb b 97) (m.reference_a h) tt))))
sane_step l (m.reference_a h) k b = sane_cond (eqb b 109) _ _ tt (sane_guard w.Plain (eqb b 112) _ tt)
sane_step l (m.named_reference h code t []) k b = sane_guard w.Plain (eqb b t) (after_reference h code) (sane_after_reference h code)
sane_step l (m.named_reference h code t (u ∷ todo)) k b = sane_guard w.Plain (eqb b t) (m.named_reference h code u todo) tt
sane_step l (m.numeric_reference h) k b = sane_cond (eqb b 120) _ _ tt (sane_digit h ten 0 b)
sane_step l (m.hexadecimal_reference h) k b = sane_digit h sixteen 0 b
sane_step l (m.reference_digits h base n) k b = sane_cond (eqb b 59) _ _ (sane_guard w.Plain (is_char n) (after_reference h n) (sane_after_reference h n)) (sane_digit h base n b)
