-- A limit that is lifted changes no other end, and after `<!` the `D` of `DOCTYPE` is no other end.
use Rattle.std.proofs.Common.{◌≡◌, ℕ, Bool, true, false, cond, List, [], ◌∷◌, ◌++◌, length, map, refl, sym, ap, ◌∙◌, subst, eqb, leb}
use Rattle.std.proofs.lemmas.Bool.{eqb-true}
use Rattle.std.specs.Str.{encode_utf8_all}
use Rattle.doc_grammar.specs.Characters.{class, names}
use Rattle.doc_grammar.specs.Grammar.{with_double, with_single, Part, version, encoding, standalone, fold_for, ten, sixteen, has, Limits, strict, deeper, repeated, may_stand, Event}
use Rattle.doc_grammar.specs.declared.characters.Class.{Class}
use Rattle.doc_grammar.specs.declared.characters.Class.TheVariants.{Less, Bang, Equal, Blank, Letter, Bad}
use Rattle.doc_grammar.specs.declared.reasons.Why.{Why}
use Rattle.doc_grammar.specs.declared.reasons.Why.TheVariants as w
use Rattle.doc_grammar.specs.Machine.{before, within, State, Step, dead, go, emit, along, guard, step, Leads, after_reference, partly}
use Rattle.doc_grammar.specs.Machine as m
use Rattle.doc_grammar.proofs.Classes.{class_less, class_bang, class_of_D}
use Rattle.doc_grammar.proofs.Keeps.{Keeps, keeps, low}
use Rattle.doc_grammar.proofs.Prefix as x

-- a step with a limit lifted: it can only be live where the strict one is not, and then for that limit
abbrev pub Lifted : Step → Step → Type 0
Lifted (dead w.Plain) v = v ≡ dead w.Plain
Lifted (dead w.Bang) v = v ≡ dead w.Bang
Lifted (dead w.Deep) v = Unit {0}
Lifted (dead (w.Twice n)) v = Unit {0}
Lifted (dead (w.Partly n)) v = v ≡ dead (w.Partly n)
Lifted (go s) v = v ≡ go s
Lifted (emit s es) v = v ≡ emit s es

self : (v : Step) → Lifted v v
self (dead w.Plain) = refl
self (dead w.Bang) = refl
self (dead w.Deep) = tt
self (dead (w.Twice n)) = tt
self (dead (w.Partly n)) = refl
self (go s) = refl
self (emit s es) = refl

guard_deep : (t : Bool) (s : State) → Lifted (guard w.Deep t s) (go s)
guard_deep true s = refl
guard_deep false s = tt

cond_twice : (t : Bool) (n : ℕ) (s : State) → Lifted (cond t (dead (w.Twice n)) (go s)) (go s)
cond_twice true n s = tt
cond_twice false n s = refl

bad_deep : (t z : Bool) → Lifted (dead (cond t (cond z (w.Partly 2) w.Deep) w.Plain)) (dead (cond t (w.Partly 2) w.Plain))
bad_deep true true = refl
bad_deep true false = tt
bad_deep false z = refl

pub deeper_step : (s : State) (k : Class) (b : ℕ) → Lifted (step strict s k b) (step deeper s k b)
deeper_step (m.tag_open before) k b = self (step strict (m.tag_open before) k b)
deeper_step (m.tag_open (within [])) k b = self (step strict (m.tag_open (within [])) k b)
deeper_step (m.tag_open (within (n ∷ ns))) Letter b = guard_deep (may_stand strict (length (n ∷ ns))) (m.tag_name (within (n ∷ ns)) (b ∷ []))
deeper_step (m.tag_open (within (n ∷ ns))) Bad b = bad_deep (leb 128 b) (may_stand strict (length (n ∷ ns)))
deeper_step (m.tag_open (within (n ∷ ns))) k b = self (step strict (m.tag_open (within (n ∷ ns))) k b)
deeper_step s k b = self (step strict s k b)

pub repeated_step : (s : State) (k : Class) (b : ℕ) → Lifted (step strict s k b) (step repeated s k b)
repeated_step (m.attribute_name p n xs y) Blank b = cond_twice (has xs y) (length (encode_utf8_all y)) (m.after_attribute_name p n xs y)
repeated_step (m.attribute_name p n xs y) Equal b = cond_twice (has xs y) (length (encode_utf8_all y)) (m.before_attribute_value p n xs y)
repeated_step s k b = self (step strict s k b)

along_lifted : (P : State → List Event → Type 0) (u v : Step) (o : List Event) → Lifted u v → along P u o → along P v o
along_lifted P (dead y) v o e h = absurd h
along_lifted P (go s) v o e h = subst (λ z. along P z o) (sym e) h
along_lifted P (emit s es) v o e h = subst (λ z. along P z o) (sym e) h

pub lift_leads : (l : Limits) → ((s : State) (k : Class) (b : ℕ) → Lifted (step strict s k b) (step l s k b)) → (p : List ℕ) (s t : State) (o : List Event) → Leads strict s p t o → Leads l s p t o
lift_leads l f [] s t o h = h
lift_leads l f (b ∷ p) s t o h =
    along_lifted (λ u o. Leads l u p t o) (step strict s (class b) b) (step l s (class b) b) o (f s (class b) b)
    (x.along_map (λ u o. Leads strict u p t o) (λ u o. Leads l u p t o) (λ u o g. lift_leads l f p u t o g) (step strict s (class b) b) o h)

abbrev pub IsHarmless : Why → Type 0
IsHarmless w.Plain = Unit {0}
IsHarmless w.Bang = Unit {0}
IsHarmless w.Deep = ⊥
IsHarmless (w.Twice n) = ⊥
IsHarmless (w.Partly n) = Unit {0}

pub lifted_dead : (y : Why) (u v : Step) → IsHarmless y → u ≡ dead y → Lifted u v → v ≡ dead y
lifted_dead w.Plain u v h e f = subst (λ z. Lifted z v) e f
lifted_dead w.Bang u v h e f = subst (λ z. Lifted z v) e f
lifted_dead (w.Partly n) u v h e f = subst (λ z. Lifted z v) e f
lifted_dead w.Deep u v h e f = absurd h
lifted_dead (w.Twice n) u v h e f = absurd h

-- the reasons that no rule but the last has
abbrev pub IsQuiet : Why → Type 0
IsQuiet w.Plain = Unit {0}
IsQuiet (w.Partly n) = Unit {0}
IsQuiet w.Bang = ⊥
IsQuiet w.Deep = ⊥
IsQuiet (w.Twice n) = ⊥

-- no state is left quietly by the `D` after `<!`
abbrev pub NotQuiet : Step → Type 0
NotQuiet (dead w.Plain) = ⊥
NotQuiet (dead (w.Partly n)) = ⊥
NotQuiet (dead w.Bang) = Unit {0}
NotQuiet (dead w.Deep) = Unit {0}
NotQuiet (dead (w.Twice n)) = Unit {0}
NotQuiet (go s) = Unit {0}
NotQuiet (emit s es) = Unit {0}

quiet_not : (y : Why) → IsQuiet y → NotQuiet (dead y) → ⊥
quiet_not w.Plain h k = k
quiet_not (w.Partly n) h k = k
quiet_not w.Bang h k = h
quiet_not w.Deep h k = h
quiet_not (w.Twice n) h k = h

abbrev pub Then : (State → Type 0) → Step → Type 0
Then P (dead y) = Unit {0}
Then P (go s) = P s
Then P (emit s es) = P s

then_false : (P : State → Type 0) (y : Why) (t : Bool) (s : State) → t ≡ false → Then P (guard y t s)
then_false P y true s e = cc
then_false P y false s e = tt

not_true : (t : Bool) → (t ≡ true → ⊥) → t ≡ false
not_true true h = absurd (h refl)
not_true false h = refl

name_not_less : (t : ℕ) → names (class t) ≡ true → eqb 60 t ≡ false
name_not_less t h = not_true (eqb 60 t) (λ e. let f = sym (ap (λ z. names (class z)) (eqb-true 60 t e)) ∙ ap names class_less in cc)

fold_less : (part : Part) → fold_for part 60 ≡ 60
fold_less version = refl
fold_less encoding = refl
fold_less standalone = refl

abbrev pub AfterBang : State → Type 0
AfterBang s = Then (λ u. NotQuiet (step strict u Letter 68)) (step strict s Bang 33)

after_less : (s : State) (f : List ℕ) → Keeps s f → Then AfterBang (step strict s Less 60)
after_less (m.content before) f h = tt
after_less (m.content (within [])) f h = tt
after_less (m.content (within (n ∷ ns))) f h = tt
after_less (m.tag_open before) f h = tt
after_less (m.tag_open (within [])) f h = tt
after_less (m.tag_open (within (n ∷ ns))) f h = tt
after_less (m.markup_declaration before) f h = tt
after_less (m.markup_declaration (within [])) f h = tt
after_less (m.markup_declaration (within (n ∷ ns))) f h = tt
after_less (m.between_settings version) f h = tt
after_less (m.between_settings encoding) f h = tt
after_less (m.between_settings standalone) f h = tt
after_less (m.setting_name part t []) f h = then_false AfterBang w.Plain (eqb 60 t) (m.after_setting_name part) (low t [] h).other
after_less (m.setting_name part t (u ∷ todo)) f h = then_false AfterBang w.Plain (eqb 60 t) (m.setting_name part u todo) (low t (u ∷ todo) h).other
after_less (m.setting_value part q t []) f h =
    then_false AfterBang w.Plain (eqb (fold_for part 60) (fold_for part t)) (m.setting_value_end part q) (ap (λ z. eqb z (fold_for part t)) (fold_less part) ∙ (low (fold_for part t) [] h).other)
after_less (m.setting_value part q t (u ∷ todo)) f h =
    then_false AfterBang w.Plain (eqb (fold_for part 60) (fold_for part t)) (m.setting_value part q u todo) (ap (λ z. eqb z (fold_for part t)) (fold_less part) ∙ (low (fold_for part t) (map (fold_for part) (u ∷ todo)) h).other)
after_less (m.setting_value_end part with_double) f h = tt
after_less (m.setting_value_end part with_single) f h = tt
after_less (m.cdata_start n ns t []) f h = then_false AfterBang w.Plain (eqb 60 t) (m.cdata_section n ns) (low t [] h.1).other
after_less (m.cdata_start n ns t (u ∷ todo)) f h = then_false AfterBang w.Plain (eqb 60 t) (m.cdata_start n ns u todo) (low t (u ∷ todo) h.1).other
after_less (m.attribute_value p n xs y with_double v r) f h = tt
after_less (m.attribute_value p n xs y with_single v r) f h = tt
after_less (m.end_tag_name ns []) f h = tt
after_less (m.end_tag_name ns (t ∷ todo)) f h = then_false AfterBang (partly t 60) (eqb 60 t) (m.end_tag_name ns todo) (name_not_less t h.1.0)
after_less (m.named_reference i code t []) f g = then_false AfterBang w.Plain (eqb 60 t) (after_reference i code) (low t [] g.1).other
after_less (m.named_reference i code t (u ∷ todo)) f g = then_false AfterBang w.Plain (eqb 60 t) (m.named_reference i code u todo) (low t (u ∷ todo) g.1).other
after_less (m.reference_digits i ten n) f g = tt
after_less (m.reference_digits i sixteen n) f g = tt
after_less s f h = tt

split_along : (P : State → List Event → Type 0) (v : Step) (o : List Event) → along P v o → (s : State) × (o2 : List Event) × P s o2 × ((Q : State → List Event → Type 0) (o3 : List Event) → Q s o3 → (o4 : List Event) × along Q v o4)
split_along P (dead y) o h = absurd h
split_along P (go s) o h = (s, o, h, λ Q o3 q. (o3, q))
split_along P (emit s es) o h = (s, h.0, h.2, λ Q o3 q. (es ++ o3, (o3, refl, q)))

-- a lead over two parts
lead_split : (p q : List ℕ) (s t : State) (o : List Event) → Leads strict s (p ++ q) t o → (u : State) × (o1 : List Event) × (o2 : List Event) × Leads strict s p u o1 × Leads strict u q t o2
lead_split [] q s t o h = (s, [], o, (refl, refl), h)
lead_split (b ∷ p) q s t o h =
    let d = split_along (λ v o. Leads strict v (p ++ q) t o) (step strict s (class b) b) o h in
    let r = lead_split p q d.0 t d.1 d.2 in
    let e = d.3 (λ v o. Leads strict v p r.0 o) r.1 r.3 in
    (r.0, e.0, r.2, e.1, r.4)

then_along : (P : State → List Event → Type 0) (Q : State → Type 0) (v : Step) (o : List Event) → Then Q v → along P v o → (s : State) × (o2 : List Event) × Q s × P s o2
then_along P Q (dead y) o h g = absurd g
then_along P Q (go s) o h g = (s, o, h, g)
then_along P Q (emit s es) o h g = (s, g.0, h, g.2)

-- after `<!` the `D` ends nothing quietly
pub no_quiet : (prefix : List ℕ) (t : State) (o : List Event) (y : Why) → IsQuiet y → Leads strict m.start (prefix ++ 60 ∷ 33 ∷ []) t o → step strict t (class 68) 68 ≡ dead y → ⊥
no_quiet prefix t o y q h e =
    let d = lead_split prefix (60 ∷ 33 ∷ []) m.start t o h in
    let k = keeps prefix m.start d.0 d.1 [] tt d.3 in
    let a = then_along (λ v o. Leads strict v (33 ∷ []) t o) AfterBang (step strict d.0 (class 60) 60) d.2
    (subst (λ c. Then AfterBang (step strict d.0 c 60)) (sym class_less) (after_less d.0 prefix k)) d.4 in
    let b = then_along (λ v o. Leads strict v [] t o) (λ u. NotQuiet (step strict u Letter 68)) (step strict a.0 (class 33) 33) a.1
    (subst (λ c. Then (λ u. NotQuiet (step strict u Letter 68)) (step strict a.0 c 33)) (sym class_bang) a.2) a.3 in
    let c : NotQuiet (step strict t Letter 68) = subst (λ u. NotQuiet (step strict u Letter 68)) b.3.0 b.2 in
    quiet_not y q (subst NotQuiet (ap (λ z. step strict t z 68) (sym class_of_D) ∙ e) c)
