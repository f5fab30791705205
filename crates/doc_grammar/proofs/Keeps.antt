-- What is known of a state from the text that leads to it.
use Rattle.std.proofs.Common.{◌≡◌, ℕ, ◌<◌, Bool, true, false, cond, not, ◌&&◌, List, [], ◌∷◌, ◌++◌, length, map, refl, sym, ap, ◌∙◌, subst, arith, append_assoc, eqb, ltb, leb}
use Rattle.std.proofs.lemmas.List.{append-nil}
use Rattle.std.proofs.lemmas.Bool.Decides.{nat_tests}
use Rattle.std.specs.Str.{encode_utf8_all}
use Rattle.doc_grammar.specs.Characters.{class, names, AllOf, IsName, is_char}
use Rattle.doc_grammar.specs.Grammar.{Quote, with_double, with_single, quote_char, Part, version, encoding, standalone, fold_for, is_xml, Base, ten, sixteen, is_numeral, with_digit, Pair, has, strict, may_stand, Event}
use Rattle.doc_grammar.specs.declared.characters.Class.{Class}
use Rattle.doc_grammar.specs.declared.characters.Class.TheVariants.{Less, Greater, Slash, Bang, Question, Dash, Equal, DoubleQuote, SingleQuote, OpenBracket, Blank, Letter, Digit, Bad}
use Rattle.doc_grammar.specs.declared.reasons.Why.{Why}
use Rattle.doc_grammar.specs.declared.reasons.Why.TheVariants as w
use Rattle.doc_grammar.specs.Machine.{Place, before, within, Hole, in_text, in_value, State, Step, dead, go, emit, along, guard, step, Leads, stack, after_reference, setting_value_start, partly, is_small_xml, step_tag_open, step_after_byte_order_mark, step_tag, step_digit, step_part}
use Rattle.doc_grammar.specs.Machine as m
use Rattle.doc_grammar.proofs.Classes.{less_is, bang_is}

abbrev pub AllNames : List (List ℕ) → Type 0
AllNames [] = Unit {0}
AllNames (n ∷ ns) = AllOf names n × AllNames ns

abbrev pub GoodPlace : Place → Type 0
GoodPlace before = Unit {0}
GoodPlace (within ns) = AllNames ns

abbrev pub GoodHole : Hole → Type 0
GoodHole (in_text n ns) = AllOf names n × AllNames ns
GoodHole (in_value p n xs y q v) = GoodPlace p × AllOf names n

-- characters of ASCII, and none is `<`
abbrev pub low_all : List ℕ → Bool
low_all [] = true
low_all (t ∷ todo) = ltb t 128 && (not (eqb 60 t) && low_all todo)

pub record Low (t : ℕ) (todo : List ℕ) : Type 0 where
  pub ascii : t < 128
  pub other : eqb 60 t ≡ false
  pub after : low_all todo ≡ true

low_parts : (t : ℕ) (todo : List ℕ) (u v : Bool) → u ≡ ltb t 128 → v ≡ eqb 60 t → u && (not v && low_all todo) ≡ true → Low t todo
low_parts t todo true false e f h = record { ascii = grind (arith, nat_tests); other = sym f; after = h }
low_parts t todo true true e f h = cc
low_parts t todo false v e f h = cc

pub low : (t : ℕ) (todo : List ℕ) → low_all (t ∷ todo) ≡ true → Low t todo
low t todo h = low_parts t todo (ltb t 128) (eqb 60 t) refl refl h

-- what is known of a state, and of how the text before it ends
abbrev pub Keeps : State → List ℕ → Type 0
Keeps m.start f = Unit {0}
Keeps m.after_byte_order_mark f = Unit {0}
Keeps m.document_tag_open f = (prefix : List ℕ) × (f ≡ prefix ++ 60 ∷ [])
Keeps m.document_processing_instruction f = Unit {0}
Keeps (m.document_instruction_target n) f = Unit {0}
Keeps m.before_version f = Unit {0}
Keeps (m.after_setting part) f = Unit {0}
Keeps (m.between_settings part) f = Unit {0}
Keeps (m.setting_name part t todo) f = low_all (t ∷ todo) ≡ true
Keeps (m.after_setting_name part) f = Unit {0}
Keeps (m.before_setting_value part) f = Unit {0}
Keeps (m.standalone_value q) f = Unit {0}
Keeps (m.setting_value part q t todo) f = low_all (map (fold_for part) (t ∷ todo)) ≡ true
Keeps (m.setting_value_end part q) f = Unit {0}
Keeps m.declaration_end f = Unit {0}
Keeps (m.content p) f = GoodPlace p
Keeps (m.tag_open p) f = GoodPlace p × ((prefix : List ℕ) × (f ≡ prefix ++ 60 ∷ []))
Keeps (m.markup_declaration p) f = GoodPlace p × ((prefix : List ℕ) × (f ≡ prefix ++ 60 ∷ 33 ∷ []))
Keeps (m.comment_start p) f = GoodPlace p
Keeps (m.comment p) f = GoodPlace p
Keeps (m.comment_dash p) f = GoodPlace p
Keeps (m.comment_end p) f = GoodPlace p
Keeps (m.processing_instruction p) f = GoodPlace p
Keeps (m.instruction_target p n) f = GoodPlace p
Keeps (m.instruction_target_end p) f = GoodPlace p
Keeps (m.instruction_text p) f = GoodPlace p
Keeps (m.instruction_end p) f = GoodPlace p
Keeps (m.cdata_start n ns t todo) f = (AllOf names n × AllNames ns) × (low_all (t ∷ todo) ≡ true)
Keeps (m.cdata_section n ns) f = AllOf names n × AllNames ns
Keeps (m.cdata_section_bracket n ns) f = AllOf names n × AllNames ns
Keeps (m.cdata_section_end n ns) f = AllOf names n × AllNames ns
Keeps (m.tag_name p n) f = GoodPlace p × AllOf names n
Keeps (m.before_attribute_name p n xs) f = GoodPlace p × AllOf names n × ((prefix : List ℕ) × (c : ℕ) × (f ≡ prefix ++ c ∷ []) × (class c ≡ Blank))
Keeps (m.attribute_name p n xs y) f = GoodPlace p × AllOf names n × ((prefix : List ℕ) × (c : ℕ) × (f ≡ prefix ++ c ∷ y) × (class c ≡ Blank) × IsName y)
Keeps (m.after_attribute_name p n xs y) f = GoodPlace p × AllOf names n
Keeps (m.before_attribute_value p n xs y) f = GoodPlace p × AllOf names n
Keeps (m.attribute_value p n xs y q v r) f = GoodPlace p × AllOf names n
Keeps (m.after_attribute_value p n xs) f = GoodPlace p × AllOf names n
Keeps (m.self_closing_start_tag p n xs) f = GoodPlace p × AllOf names n
Keeps (m.end_tag_name ns todo) f = AllNames ns × AllOf names todo
Keeps (m.after_end_tag_name ns) f = AllNames ns
Keeps (m.reference h) f = GoodHole h
Keeps (m.reference_a h) f = GoodHole h
Keeps (m.named_reference h code t todo) f = GoodHole h × (low_all (t ∷ todo) ≡ true)
Keeps (m.numeric_reference h) f = GoodHole h
Keeps (m.hexadecimal_reference h) f = GoodHole h
Keeps (m.reference_digits h base n) f = GoodHole h

abbrev pub Kept : List ℕ → Step → Type 0
Kept f (dead y) = Unit {0}
Kept f (go s) = Keeps s f
Kept f (emit s es) = Keeps s f

kept_guard : (f : List ℕ) (y : Why) (t : Bool) (s : State) → Keeps s f → Kept f (guard y t s)
kept_guard f y true s h = h
kept_guard f y false s h = tt

kept_cond : (f : List ℕ) (t : Bool) (u v : Step) → Kept f u → Kept f v → Kept f (cond t u v)
kept_cond f true u v h k = h
kept_cond f false u v h k = k

names_push : (n : List ℕ) (b : ℕ) → AllOf names n → names (class b) ≡ true → AllOf names (n ++ b ∷ [])
names_push [] b h e = (e, tt)
names_push (c ∷ n) b h e = (h.0, names_push n b h.1 e)

name_push : (n : List ℕ) (b : ℕ) → IsName n → names (class b) ≡ true → IsName (n ++ b ∷ [])
name_push [] b h e = absurd h
name_push (c ∷ n) b h e = (h.0, names_push n b h.1 e)

stack_good : (p : Place) → GoodPlace p → AllNames (stack p)
stack_good before h = tt
stack_good (within ns) h = h

after_reference_good : (h : Hole) (code : ℕ) (f : List ℕ) → GoodHole h → Keeps (after_reference h code) f
after_reference_good (in_text n ns) code f g = g
after_reference_good (in_value p n xs y q v) code f g = g

open_good : (part : Part) (q : Quote) (f : List ℕ) → Keeps (setting_value_start part q) f
open_good version q f = refl
open_good encoding q f = refl
open_good standalone q f = tt

digit_good : (h : Hole) (base : Base) (n b : ℕ) (f : List ℕ) → GoodHole h → Kept f (step_digit h base n b)
digit_good h base n b f g = kept_cond f (is_numeral base b) _ _ (kept_guard f w.Plain (leb (with_digit base n b) 1114111) (m.reference_digits h base (with_digit base n b)) g) tt

keep_tag : (p : Place) (n : List ℕ) (xs : List Pair) (k : Class) (b : ℕ) (f : List ℕ) → class b ≡ k → GoodPlace p × AllOf names n → Kept (f ++ b ∷ []) (m.step_tag p n xs k)
keep_tag p n xs Blank b f e h = (h.0, h.1, (f, b, refl, e))
keep_tag p n xs Slash b f e h = h
keep_tag p n xs Greater b f e h = (h.1, stack_good p h.0)
keep_tag p n xs k b f e h = tt

attribute_name_more : (p : Place) (n : List ℕ) (xs : List Pair) (y : List ℕ) (b : ℕ) (f : List ℕ) → names (class b) ≡ true → Keeps (m.attribute_name p n xs y) f → Keeps (m.attribute_name p n xs (y ++ b ∷ [])) (f ++ b ∷ [])
attribute_name_more p n xs y b f e (g, a, (prefix, c, d, s, i)) = (g, a, (prefix, c, ap (λ z. z ++ b ∷ []) d ∙ append_assoc prefix (c ∷ y) (b ∷ []), s, name_push y b i e))

less_more : (b : ℕ) (f : List ℕ) → class b ≡ Less → (prefix : List ℕ) × (f ++ b ∷ [] ≡ prefix ++ 60 ∷ [])
less_more b f e = (f, ap (λ z. f ++ z ∷ []) (less_is b e))

bang_more : (b : ℕ) (f : List ℕ) → class b ≡ Bang → ((prefix : List ℕ) × (f ≡ prefix ++ 60 ∷ [])) → (prefix : List ℕ) × (f ++ b ∷ [] ≡ prefix ++ 60 ∷ 33 ∷ [])
bang_more b f e (prefix, d) = (prefix, ap (λ z. z ++ b ∷ []) d ∙ append_assoc prefix (60 ∷ []) (b ∷ []) ∙ ap (λ z. prefix ++ 60 ∷ z ∷ []) (bang_is b e))

keep_tag_open : (p : Place) (k : Class) (b : ℕ) (f : List ℕ) → class b ≡ k → GoodPlace p → ((prefix : List ℕ) × (f ≡ prefix ++ 60 ∷ [])) → Kept (f ++ b ∷ []) (step_tag_open strict p k b)
keep_tag_open before Bang b f e h d = (h, bang_more b f e d)
keep_tag_open (within []) Bang b f e h d = (h, bang_more b f e d)
keep_tag_open (within (n ∷ ns)) Bang b f e h d = (h, bang_more b f e d)
keep_tag_open p Question b f e h d = h
keep_tag_open before Letter b f e h d = (h, (ap names e, tt))
keep_tag_open (within []) Letter b f e h d = tt
keep_tag_open (within (n ∷ ns)) Letter b f e h d = kept_guard (f ++ b ∷ []) w.Deep (may_stand strict (length (n ∷ ns))) (m.tag_name (within (n ∷ ns)) (b ∷ [])) (h, (ap names e, tt))
keep_tag_open p Bad b f e h d = tt
keep_tag_open (within (n ∷ ns)) Slash b f e h d = (h.1, h.0)
keep_tag_open before k b f e h d = tt
keep_tag_open (within []) k b f e h d = tt
keep_tag_open (within (n ∷ ns)) k b f e h d = tt

keep_after_mark : (y : Why) (k : Class) (b : ℕ) (f : List ℕ) → class b ≡ k → Kept (f ++ b ∷ []) (step_after_byte_order_mark y k)
keep_after_mark y Less b f e = less_more b f e
keep_after_mark y Blank b f e = tt
keep_after_mark y k b f e = tt

keep_part : (part : Part) (b : ℕ) (f : List ℕ) → Kept f (step_part part b)
keep_part version b f = kept_cond f (eqb b 101) _ _ refl (kept_guard f w.Plain (eqb b 115) m.standalone_word refl)
keep_part encoding b f = kept_guard f w.Plain (eqb b 115) m.standalone_word refl
keep_part standalone b f = tt

keep_step : (s : State) (k : Class) (b : ℕ) (f : List ℕ) → class b ≡ k → Keeps s f → Kept (f ++ b ∷ []) (step strict s k b)
keep_step m.start k b f e h = kept_cond (f ++ b ∷ []) (eqb b 65279) _ _ tt (keep_after_mark (partly 65279 b) k b f e)
keep_step m.after_byte_order_mark k b f e h = keep_after_mark w.Plain k b f e
keep_step m.document_tag_open Question b f e h = tt
keep_step m.document_tag_open k b f e h = keep_tag_open before k b f e tt h
keep_step m.document_processing_instruction Letter b f e h = tt
keep_step m.document_processing_instruction k b f e h = tt
keep_step (m.document_instruction_target n) Letter b f e h = tt
keep_step (m.document_instruction_target n) Digit b f e h = tt
keep_step (m.document_instruction_target n) Dash b f e h = tt
keep_step (m.document_instruction_target n) Blank b f e h = kept_cond (f ++ b ∷ []) (is_small_xml n) _ _ tt (kept_guard (f ++ b ∷ []) w.Plain (not (is_xml n)) (m.instruction_text before) tt)
keep_step (m.document_instruction_target n) Question b f e h = kept_guard (f ++ b ∷ []) w.Plain (not (is_xml n)) (m.instruction_target_end before) tt
keep_step (m.document_instruction_target n) k b f e h = tt
keep_step m.before_version Blank b f e h = tt
keep_step m.before_version k b f e h = kept_guard (f ++ b ∷ []) w.Plain (eqb b 118) _ refl
keep_step (m.after_setting part) Blank b f e h = tt
keep_step (m.after_setting part) Question b f e h = tt
keep_step (m.after_setting part) k b f e h = tt
keep_step (m.between_settings part) Blank b f e h = tt
keep_step (m.between_settings part) Question b f e h = tt
keep_step (m.between_settings part) k b f e h = keep_part part b (f ++ b ∷ [])
keep_step (m.setting_name part t []) k b f e h = kept_guard (f ++ b ∷ []) w.Plain (eqb b t) (m.after_setting_name part) tt
keep_step (m.setting_name part t (u ∷ todo)) k b f e h = kept_guard (f ++ b ∷ []) w.Plain (eqb b t) (m.setting_name part u todo) (low t (u ∷ todo) h).after
keep_step (m.after_setting_name part) Blank b f e h = tt
keep_step (m.after_setting_name part) Equal b f e h = tt
keep_step (m.after_setting_name part) k b f e h = tt
keep_step (m.before_setting_value part) Blank b f e h = tt
keep_step (m.before_setting_value part) DoubleQuote b f e h = open_good part with_double (f ++ b ∷ [])
keep_step (m.before_setting_value part) SingleQuote b f e h = open_good part with_single (f ++ b ∷ [])
keep_step (m.before_setting_value part) k b f e h = tt
keep_step (m.standalone_value q) k b f e h = kept_cond (f ++ b ∷ []) (eqb b 121) _ _ refl (kept_guard (f ++ b ∷ []) w.Plain (eqb b 110) (m.setting_value standalone q 111 []) refl)
keep_step (m.setting_value part q t []) k b f e h = kept_guard (f ++ b ∷ []) w.Plain (eqb (fold_for part b) (fold_for part t)) (m.setting_value_end part q) tt
keep_step (m.setting_value part q t (u ∷ todo)) k b f e h =
    kept_guard (f ++ b ∷ []) w.Plain (eqb (fold_for part b) (fold_for part t)) (m.setting_value part q u todo) (low (fold_for part t) (map (fold_for part) (u ∷ todo)) h).after
keep_step (m.setting_value_end part q) k b f e h = kept_guard (f ++ b ∷ []) w.Plain (eqb b (quote_char q)) (m.after_setting part) tt
keep_step m.declaration_end Greater b f e h = tt
keep_step m.declaration_end k b f e h = tt
keep_step (m.content before) Less b f e h = (h, less_more b f e)
keep_step (m.content (within [])) Less b f e h = (h, less_more b f e)
keep_step (m.content (within (n ∷ ns))) Less b f e h = (h, less_more b f e)
keep_step (m.content before) Blank b f e h = h
keep_step (m.content before) k b f e h = tt
keep_step (m.content (within [])) Blank b f e h = h
keep_step (m.content (within [])) k b f e h = tt
keep_step (m.content (within (n ∷ ns))) Bad b f e h = tt
keep_step (m.content (within (n ∷ ns))) k b f e h = h
keep_step (m.tag_open p) k b f e h = keep_tag_open p k b f e h.0 h.1
keep_step (m.markup_declaration p) Dash b f e h = h.0
keep_step (m.markup_declaration (within (n ∷ ns))) OpenBracket b f e h = (h.0, refl)
keep_step (m.markup_declaration before) k b f e h = tt
keep_step (m.markup_declaration (within [])) k b f e h = tt
keep_step (m.markup_declaration (within (n ∷ ns))) k b f e h = tt
keep_step (m.comment_start p) Dash b f e h = h
keep_step (m.comment_start p) k b f e h = tt
keep_step (m.comment p) Bad b f e h = tt
keep_step (m.comment p) k b f e h = h
keep_step (m.comment_dash p) Bad b f e h = tt
keep_step (m.comment_dash p) k b f e h = h
keep_step (m.comment_end p) Greater b f e h = h
keep_step (m.comment_end p) k b f e h = tt
keep_step (m.processing_instruction p) Letter b f e h = h
keep_step (m.processing_instruction p) k b f e h = tt
keep_step (m.instruction_target p n) Letter b f e h = h
keep_step (m.instruction_target p n) Digit b f e h = h
keep_step (m.instruction_target p n) Dash b f e h = h
keep_step (m.instruction_target p n) Blank b f e h = kept_guard (f ++ b ∷ []) w.Plain (not (is_xml n)) (m.instruction_text p) h
keep_step (m.instruction_target p n) Question b f e h = kept_guard (f ++ b ∷ []) w.Plain (not (is_xml n)) (m.instruction_target_end p) h
keep_step (m.instruction_target p n) k b f e h = tt
keep_step (m.instruction_target_end p) Greater b f e h = h
keep_step (m.instruction_target_end p) k b f e h = tt
keep_step (m.instruction_text p) Bad b f e h = tt
keep_step (m.instruction_text p) k b f e h = h
keep_step (m.instruction_end p) Bad b f e h = tt
keep_step (m.instruction_end p) k b f e h = h
keep_step (m.cdata_start n ns t []) k b f e h = kept_guard (f ++ b ∷ []) w.Plain (eqb b t) (m.cdata_section n ns) h.0
keep_step (m.cdata_start n ns t (u ∷ todo)) k b f e h = kept_guard (f ++ b ∷ []) w.Plain (eqb b t) (m.cdata_start n ns u todo) (h.0, (low t (u ∷ todo) h.1).after)
keep_step (m.cdata_section n ns) Bad b f e h = tt
keep_step (m.cdata_section n ns) k b f e h = h
keep_step (m.cdata_section_bracket n ns) Bad b f e h = tt
keep_step (m.cdata_section_bracket n ns) k b f e h = h
keep_step (m.cdata_section_end n ns) Bad b f e h = tt
keep_step (m.cdata_section_end n ns) k b f e h = h
keep_step (m.tag_name p n) Letter b f e h = (h.0, names_push n b h.1 (ap names e))
keep_step (m.tag_name p n) Digit b f e h = (h.0, names_push n b h.1 (ap names e))
keep_step (m.tag_name p n) Dash b f e h = (h.0, names_push n b h.1 (ap names e))
keep_step (m.tag_name p n) Bad b f e h = tt
keep_step (m.tag_name p n) k b f e h = keep_tag p n [] k b f e h
keep_step (m.before_attribute_name p n xs) Letter b f e (g, a, (prefix, c, d, s)) = (g, a, (prefix, c, ap (λ z. z ++ b ∷ []) d ∙ append_assoc prefix (c ∷ []) (b ∷ []), s, (e, tt)))
keep_step (m.before_attribute_name p n xs) Bad b f e h = tt
keep_step (m.before_attribute_name p n xs) k b f e h = keep_tag p n xs k b f e (h.0, h.1)
keep_step (m.attribute_name p n xs y) Letter b f e h = attribute_name_more p n xs y b f (ap names e) h
keep_step (m.attribute_name p n xs y) Digit b f e h = attribute_name_more p n xs y b f (ap names e) h
keep_step (m.attribute_name p n xs y) Dash b f e h = attribute_name_more p n xs y b f (ap names e) h
keep_step (m.attribute_name p n xs y) Blank b f e h = kept_cond (f ++ b ∷ []) (has xs y) (dead (w.Twice (length (encode_utf8_all y)))) (go (m.after_attribute_name p n xs y)) tt (h.0, h.1)
keep_step (m.attribute_name p n xs y) Equal b f e h = kept_cond (f ++ b ∷ []) (has xs y) (dead (w.Twice (length (encode_utf8_all y)))) (go (m.before_attribute_value p n xs y)) tt (h.0, h.1)
keep_step (m.attribute_name p n xs y) k b f e h = tt
keep_step (m.after_attribute_name p n xs y) Blank b f e h = h
keep_step (m.after_attribute_name p n xs y) Equal b f e h = h
keep_step (m.after_attribute_name p n xs y) k b f e h = tt
keep_step (m.before_attribute_value p n xs y) Blank b f e h = h
keep_step (m.before_attribute_value p n xs y) DoubleQuote b f e h = h
keep_step (m.before_attribute_value p n xs y) SingleQuote b f e h = h
keep_step (m.before_attribute_value p n xs y) k b f e h = tt
keep_step (m.attribute_value p n xs y with_double v r) Less b f e h = tt
keep_step (m.attribute_value p n xs y with_single v r) Less b f e h = tt
keep_step (m.attribute_value p n xs y with_double v r) Bad b f e h = tt
keep_step (m.attribute_value p n xs y with_single v r) Bad b f e h = tt
keep_step (m.attribute_value p n xs y with_double v r) DoubleQuote b f e h = h
keep_step (m.attribute_value p n xs y with_single v r) SingleQuote b f e h = h
keep_step (m.attribute_value p n xs y with_double v r) k b f e h = h
keep_step (m.attribute_value p n xs y with_single v r) k b f e h = h
keep_step (m.after_attribute_value p n xs) k b f e h = keep_tag p n xs k b f e h
keep_step (m.self_closing_start_tag p n xs) Greater b f e h = stack_good p h.0
keep_step (m.self_closing_start_tag p n xs) k b f e h = tt
keep_step (m.end_tag_name ns []) Blank b f e h = h.0
keep_step (m.end_tag_name ns []) Greater b f e h = h.0
keep_step (m.end_tag_name ns []) k b f e h = tt
keep_step (m.end_tag_name ns (t ∷ todo)) k b f e h = kept_guard (f ++ b ∷ []) (partly t b) (eqb b t) (m.end_tag_name ns todo) (h.0, h.1.1)
keep_step (m.after_end_tag_name ns) Blank b f e h = h
keep_step (m.after_end_tag_name ns) Greater b f e h = h
keep_step (m.after_end_tag_name ns) k b f e h = tt
keep_step (m.reference h) k b f e g =
    let f2 = f ++ b ∷ [] in
    kept_cond f2 (eqb b 108) _ _ (g, refl) (kept_cond f2 (eqb b 103) _ _ (g, refl)
    (kept_cond f2 (eqb b 113) _ _ (g, refl) (kept_cond f2 (eqb b 35) _ _ g (kept_guard f2 w.Plain (eqb b 97) (m.reference_a h) g))))
keep_step (m.reference_a h) k b f e g = kept_cond (f ++ b ∷ []) (eqb b 109) _ _ (g, refl) (kept_guard (f ++ b ∷ []) w.Plain (eqb b 112) _ (g, refl))
keep_step (m.named_reference h code t []) k b f e g = kept_guard (f ++ b ∷ []) w.Plain (eqb b t) (after_reference h code) (after_reference_good h code (f ++ b ∷ []) g.0)
keep_step (m.named_reference h code t (u ∷ todo)) k b f e g = kept_guard (f ++ b ∷ []) w.Plain (eqb b t) (m.named_reference h code u todo) (g.0, (low t (u ∷ todo) g.1).after)
keep_step (m.numeric_reference h) k b f e g = kept_cond (f ++ b ∷ []) (eqb b 120) _ _ g (digit_good h ten 0 b (f ++ b ∷ []) g)
keep_step (m.hexadecimal_reference h) k b f e g = digit_good h sixteen 0 b (f ++ b ∷ []) g
keep_step (m.reference_digits h base n) k b f e g = kept_cond (f ++ b ∷ []) (eqb b 59) _ _ (kept_guard (f ++ b ∷ []) w.Plain (is_char n) (after_reference h n) (after_reference_good h n (f ++ b ∷ []) g)) (digit_good h base n b (f ++ b ∷ []) g)

along_kept : (P : State → List Event → Type 0) (f : List ℕ) (v : Step) (o : List Event) → Kept f v → along P v o → (s : State) × (o2 : List Event) × Keeps s f × P s o2
along_kept P f (dead y) o g h = absurd h
along_kept P f (go s) o g h = (s, o, g, h)
along_kept P f (emit s es) o g h = (s, h.0, g, h.2)

pub keeps : (p : List ℕ) (s t : State) (o : List Event) (f : List ℕ) → Keeps s f → Leads strict s p t o → Keeps t (f ++ p)
keeps [] s t o f g (e, r) = subst (λ z. Keeps t z) (sym (append-nil f)) (subst (λ u. Keeps u f) e g)
keeps (b ∷ p) s t o f g h =
    let d = along_kept (λ u o. Leads strict u p t o) (f ++ b ∷ []) (step strict s (class b) b) o (keep_step s (class b) b f refl g) h in
    subst (λ z. Keeps t z) (append_assoc f (b ∷ []) p) (keeps p d.0 t d.1 (f ++ b ∷ []) d.2 d.3)
