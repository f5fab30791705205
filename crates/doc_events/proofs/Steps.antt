-- From the steps of the machine to those of the reader.
use Rattle.std.proofs.Common.{◌≡◌, ℕ, ◌+◌, ◌-◌, ◌≤◌, Bool, true, false, ◌&&◌, List, [], ◌∷◌, ◌++◌, length, take, drop, refl, sym, ap, ◌∙◌, subst, arith, append_assoc, length-append, length-drop, Result, Ok, Err}
use Rattle.std.proofs.lemmas.List.{append-nil, take_all, length-reverse, length-map}
use Rattle.std.proofs.lemmas.Str.{encodes-append, encodes-chars, scalars-chars, cons_from_encodes}
use Rattle.std.specs.Str.{encode_utf8_all, all_scalars, IsUtf8, chars}
use Rattle.std.specs.Char.{encode_utf8, IsScalar}
use Rattle.doc_grammar.specs.Characters.{class}
use Rattle.doc_grammar.specs.Grammar.{strict}
use Rattle.doc_grammar.specs.Grammar as g
use Rattle.doc_grammar.specs.Machine as m
use Rattle.doc_grammar.specs.Faults.{IsDocument, IsBroken, IsFault, judged}
use Rattle.doc_grammar.specs.declared.reasons.Why.{Why}
use Rattle.doc_grammar.specs.declared.reasons.Rule.{Rule}
use Rattle.doc_grammar.specs.declared.reasons.Rule.TheVariants.{NotUtf8, Malformed, Doctype, TooDeep, AttributeTwice}
use Rattle.doc_grammar.proofs.CallerLemmas.{lead_lead, strip, judged_fault, end_fault, end_document}
use Rattle.doc_events.specs.declared.state.State.{State}
use Rattle.doc_events.specs.declared.state.Reader.{Reader}
use Rattle.doc_events.specs.declared.state.Token.{Token}
use Rattle.doc_events.specs.declared.state.Token.TheVariants.{Nothing}
use Rattle.doc_events.specs.declared.state.Place.{Place}
use Rattle.doc_events.specs.declared.state.Hole.{Hole}
use Rattle.doc_events.specs.declared.state.Hole.TheVariants.{InText, InValue}
use Rattle.doc_events.specs.declared.state.Stop.{Stop}
use Rattle.doc_grammar.specs.declared.characters.Class.{Class}
use Rattle.doc_grammar.specs.declared.characters.Class.TheVariants.{DoubleQuote, SingleQuote, Less, Bad, Ampersand}
use Rattle.doc_events.specs.declared.state.Place.TheVariants.{Within, Before}
use Rattle.doc_events.specs.declared.state.State.TheVariants as s
use Rattle.std.specs.declared.vec.Vec.{Vec}
use Rattle.std.specs.declared.alloc.Global.{Global}
use Rattle.std.proofs.Common.{map}
use Rattle.doc_events.specs.View.{state_in, state_of, place_of, hole_of, tail_of, base_of, events_at, quieted, StepTaken, Took, Moves, setting_name_from, setting_value_from, cdata_start_from, name_of, names_of, is_return}

-- a step that emits nothing completes nothing
pub goes_moves : (w : m.Step) (x : Result State Stop) (y : Result (State × Token) Stop) (r : Reader) → StepTaken w x r → y ≡ quieted x → Moves w y r
goes_moves w x y r h e = subst (λ z. Moves w z r) (sym e) (quiet w x r h)
  where
    quiet : (w : m.Step) (x : Result State Stop) (r : Reader) → StepTaken w x r → Moves w (quieted x) r
    quiet w (Ok t) r h = subst (λ z. Took z t Nothing r) (sym h) (refl, refl)
    quiet w (Err e) r h = h

-- a step in a value of the declaration
pub setting_value_step : (part : g.Part) (q : g.Quote) (t : ℕ) (todo : List ℕ) (k : Class) (b : ℕ) → m.step strict (setting_value_from part q (t ∷ todo)) k b ≡ m.exactly (g.fold_for part t) (g.fold_for part b) (setting_value_from part q todo)
setting_value_step part q t [] k b = refl
setting_value_step part q t (u ∷ todo) k b = refl

pub setting_value_goes : (part : g.Part) (q : g.Quote) (text rest : List ℕ) (t : ℕ) (k : Class) (b fe fb : ℕ) (u : m.State) (x : Result State Stop) (r : Reader) → text ≡ t ∷ rest → fe ≡ g.fold_for part t → fb ≡ g.fold_for part b → u ≡ setting_value_from part q rest
    → StepTaken (m.exactly fe fb u) x r → StepTaken (m.step strict (setting_value_from part q text) k b) x r
setting_value_goes part q text rest t k b fe fb u x r e f h i j =
    subst (λ z. StepTaken (m.step strict (setting_value_from part q z) k b) x r) (sym e) (subst (λ z. StepTaken z x r) (sym (setting_value_step part q t rest k b))
    (subst (λ z. StepTaken (m.exactly z (g.fold_for part b) (setting_value_from part q rest)) x r) f (subst (λ z. StepTaken (m.exactly fe z (setting_value_from part q rest)) x r) h (subst (λ z. StepTaken (m.exactly fe fb z) x r) i j))))

not_setting_name : (part : g.Part) (todo : List ℕ) → m.Final (setting_name_from part todo) → ⊥
not_setting_name part [] h = h
not_setting_name part (t ∷ todo) h = h

not_setting_value : (part : g.Part) (q : g.Quote) (todo : List ℕ) → m.Final (setting_value_from part q todo) → ⊥
not_setting_value part q [] h = h
not_setting_value part q (t ∷ todo) h = h

not_cdata_start : (n : List ℕ) (ns : List (List ℕ)) (todo : List ℕ) → m.Final (cdata_start_from n ns todo) → ⊥
not_cdata_start n ns [] h = h
not_cdata_start n ns (t ∷ todo) h = h

none_within : (vs : List (Vec ℕ Global)) → m.Final (m.content (m.within (names_of vs))) → length vs ≡ 0
none_within [] h = refl
none_within (v ∷ vs) h = absurd (some (names_of (v ∷ vs)) h (not_none vs v))
  where
    not_none : (vs : List (Vec ℕ Global)) (v : Vec ℕ Global) → names_of (v ∷ vs) ≡ [] → ⊥
    not_none vs v e = let q = ap length e in absurd (omega (arith, q, length-reverse (map name_of (v ∷ vs)), length-map (v ∷ vs) name_of))

    some : (ns : List (List ℕ)) → m.Final (m.content (m.within ns)) → (ns ≡ [] → ⊥) → ⊥
    some [] h k = k refl
    some (n ∷ ns) h k = h

-- the state in which a document may end: after the root
abbrev pub IsEndAt : Place → Type 0
IsEndAt (Within v) = length v.items ≡ 0
IsEndAt Before = ⊥

abbrev pub IsEnd : State → Place → Type 0
IsEnd s.Content p = IsEndAt p
IsEnd t p = ⊥

end_at : (p : Place) → m.Final (m.content (place_of p)) → IsEndAt p
end_at (Within v) h = none_within v.items h
end_at Before h = absurd h

pub final_is : (t : State) (r : Reader) → m.Final (state_in t r) → IsEnd t r.place
final_is s.Content r h = end_at r.place h
final_is (s.SettingName part k) r h = absurd (not_setting_name _ _ h)
final_is (s.SettingValue w q k) r h = absurd (not_setting_value _ _ _ h)
final_is (s.CdataStart k) r h = absurd (not_cdata_start _ _ _ h)
final_is t r h = absurd h

-- the reader that has this state, and else is the same
abbrev pub put_in : State → Reader → Reader
put_in t r = record r { state = t }

same_hole : (h : Hole) (u : State) (r : Reader) → hole_of h r ≡ hole_of h (put_in u r)
same_hole InText u r = refl
same_hole (InValue q) u r = refl

same_state : (t u : State) (r : Reader) → state_in t r ≡ state_in t (put_in u r)
same_state (s.Reference h) u r = ap m.reference (same_hole h u r)
same_state (s.ReferenceA h) u r = ap m.reference_a (same_hole h u r)
same_state (s.NamedReference h code n rest) u r = ap (λ z. m.named_reference z code n (tail_of rest)) (same_hole h u r)
same_state (s.NumericReference h) u r = ap m.numeric_reference (same_hole h u r)
same_state (s.HexadecimalReference h) u r = ap m.hexadecimal_reference (same_hole h u r)
same_state (s.ReferenceDigits h base n) u r = ap (λ z. m.reference_digits z (base_of base) n) (same_hole h u r)
same_state t u r = refl

same_events : (k : Token) (u : State) (r : Reader) → events_at k r ≡ events_at k (put_in u r)
same_events Nothing u r = refl
same_events k u r = refl

-- the state is put in
pub took_in : (w : m.Step) (t : State) (k : Token) (r : Reader) → Took w t k r → Took w t k (put_in t r)
took_in (m.dead y) t k r h = absurd h
took_in (m.go s) t k r h = (h.0 ∙ same_state t t r, sym (same_events k t r) ∙ h.1)
took_in (m.emit s es) t k r h = (h.0 ∙ same_state t t r, h.1 ∙ same_events k t r)

took_along : (w : m.Step) (t : State) (k : Token) (r : Reader) → Took w t k r → m.along (λ u o. (u ≡ state_in t r) × (o ≡ [])) w (events_at k r)
took_along (m.dead y) t k r h = absurd h
took_along (m.go s) t k r h = (h.0, h.1)
took_along (m.emit s es) t k r h = ([], sym h.1 ∙ sym (append-nil es), (h.0, refl))

-- the reader took a character more
pub moved : (p : List ℕ) (u : m.State) (b : ℕ) (k : Token) (r : Reader) (old : List g.Event) → m.Leads strict m.start p u old → Took (m.step strict u (class b) b) r.state k r → m.Leads strict m.start (p ++ b ∷ []) (state_of r) (old ++ events_at k r)
moved p u b k r old h t =
    lead_lead strict p m.start u (state_of r) old (events_at k r) (b ∷ []) h (took_along (m.step strict u (class b) b) r.state k r t)

enc_snoc : (prefix : List ℕ) (c : ℕ) → encode_utf8_all (prefix ++ c ∷ []) ≡ encode_utf8_all prefix ++ encode_utf8 c
enc_snoc prefix c = encodes-append prefix (c ∷ []) ∙ ap (λ z. encode_utf8_all prefix ++ z) (append-nil (encode_utf8 c))

pub step_text : (text prefix rest rest2 : List ℕ) (c : ℕ) → text ≡ encode_utf8_all prefix ++ rest → rest ≡ encode_utf8 c ++ rest2 → text ≡ encode_utf8_all (prefix ++ c ∷ []) ++ rest2
step_text text prefix rest rest2 c e f =
    e ∙ ap (λ z. encode_utf8_all prefix ++ z) f ∙ sym (append_assoc (encode_utf8_all prefix) (encode_utf8 c) rest2) ∙ ap (λ z. z ++ rest2) (sym (enc_snoc prefix c))

pub step_place : (prefix : List ℕ) (c a b : ℕ) → a ≡ length (encode_utf8_all prefix) → b ≡ a + length (encode_utf8 c) → b ≡ length (encode_utf8_all (prefix ++ c ∷ []))
step_place prefix c a b e f = let g = ap length (enc_snoc prefix c) in omega (arith, e, f, g, length-append (encode_utf8_all prefix) (encode_utf8 c))

no_rest : (rest : List ℕ) → length rest ≡ 0 → rest ≡ []
no_rest [] h = refl
no_rest (b ∷ rest) h = absurd (omega (arith, h))

-- all of the text was read
pub whole_text : (text prefix rest : List ℕ) → text ≡ encode_utf8_all prefix ++ rest → length rest ≡ 0 → text ≡ encode_utf8_all prefix
whole_text text prefix rest e h = e ∙ ap (λ z. encode_utf8_all prefix ++ z) (no_rest rest h) ∙ append-nil (encode_utf8_all prefix)

inner_scalar : (a : List ℕ) (c : ℕ) (b : List ℕ) → all_scalars (a ++ c ∷ b) ≡ true → IsScalar c
inner_scalar [] c b h = first _ _ h
  where
    first : (s t : Bool) → s && t ≡ true → s ≡ true
    first true t h = refl
    first false t h = h
inner_scalar (x ∷ a) c b h = inner_scalar a c b (second _ _ h)
  where
    second : (s t : Bool) → s && t ≡ true → t ≡ true
    second true t h = h
    second false t h = cc

drop_prefix : (a b : List ℕ) → drop (length a) (a ++ b) ≡ b
drop_prefix [] b = refl
drop_prefix (x ∷ a) b = drop_prefix a b

-- a character that no document goes on with
pub dead_fault : (text prefix rest rest2 : List ℕ) (c at : ℕ) (s : m.State) (o : List g.Event) (why : Why) → IsUtf8 text → text ≡ encode_utf8_all prefix ++ rest → rest ≡ encode_utf8 c ++ rest2 → at ≡ length (encode_utf8_all prefix)
    → m.Leads strict m.start prefix s o → m.step strict s (class c) c ≡ m.dead why → IsBroken text (judged why (drop at text) at).0 (judged why (drop at text) at).1
dead_fault text prefix rest rest2 c at s o why u e f a h k =
    let d = strip prefix (chars text) rest (encodes-chars text u ∙ e) in
    let q = cons_from_encodes d.0 rest2 c (d.2 ∙ f) in
    let whole : chars text ≡ prefix ++ c ∷ q.0 = d.1 ∙ ap (λ z. prefix ++ z) q.1 in
    let t : encode_utf8_all (prefix ++ c ∷ q.0) ≡ text = ap encode_utf8_all (sym whole) ∙ encodes-chars text u in
    let i = inner_scalar prefix c q.0 (ap all_scalars (sym whole) ∙ scalars-chars text u) in
    let r = judged_fault prefix c q.0 s o why i (subst IsUtf8 (sym t) u) h k in
    let left : encode_utf8_all (c ∷ q.0) ≡ drop at text =
    sym (drop_prefix (encode_utf8_all prefix) (encode_utf8_all (c ∷ q.0))) ∙ ap (drop (length (encode_utf8_all prefix))) (sym (encodes-append prefix (c ∷ q.0)) ∙ t) ∙ ap (λ z. drop z text) (sym a) in
    let j : judged why (encode_utf8_all (c ∷ q.0)) (length (encode_utf8_all prefix)) ≡ judged why (drop at text) at = ap (λ z. judged why z (length (encode_utf8_all prefix))) left ∙ ap (judged why (drop at text)) (sym a) in
    subst (λ z. IsBroken text z.0 z.1) j (subst (λ z. IsBroken z (judged why (encode_utf8_all (c ∷ q.0)) (length (encode_utf8_all prefix))).0 (judged why (encode_utf8_all (c ∷ q.0)) (length (encode_utf8_all prefix))).1) t r)

-- the same, where the rest is given by a slice
pub slice_fault : (text prefix rest rest2 left : List ℕ) (c at : ℕ) (s : m.State) (o : List g.Event) → IsUtf8 text → text ≡ encode_utf8_all prefix ++ rest → rest ≡ encode_utf8 c ++ rest2 → at ≡ length (encode_utf8_all prefix)
    → m.Leads strict m.start prefix s o → left ≡ drop at text → (why : Why) → m.step strict s (class c) c ≡ m.dead why → IsBroken text (judged why left at).0 (judged why left at).1
slice_fault text prefix rest rest2 left c at s o u e f a h d why k = subst (λ z. IsBroken text (judged why z at).0 (judged why z at).1) (sym d) (dead_fault text prefix rest rest2 c at s o why u e f a h k)

pub slice_left : (text : List ℕ) (at : ℕ) → take (length text - at) (drop at text) ≡ drop at text
slice_left text at = take_all (length text - at) (drop at text) (omega (arith, length-drop at text))

-- a fault stands within the bytes
pub broken_within : (bytes : List ℕ) (rule : Rule) (place : ℕ) → IsBroken bytes rule place → place ≤ length bytes
broken_within bytes NotUtf8 place h = absurd h.shown.4
broken_within bytes Malformed place h = let e = ap length h.shown.2 in let f = h.shown.4.0 in omega (arith, e, f, length-append h.shown.0 h.shown.1)
broken_within bytes Doctype place h =
    let e = ap length h.shown.2 in let f = ap length h.shown.4.before.1 in let i = h.shown.4.before.2 in
    omega (arith, e, f, i, length-append h.shown.0 h.shown.1, length-append h.shown.4.before.0 (60 ∷ 33 ∷ []))
broken_within bytes TooDeep place h =
    let e = ap length h.shown.2 in let f = ap length h.shown.4.before.1 in let i = h.shown.4.before.2 in
    omega (arith, e, f, i, length-append h.shown.0 h.shown.1, length-append h.shown.4.before.0 (60 ∷ []))
broken_within bytes AttributeTwice place h =
    let e = ap length h.shown.2 in let f = ap length h.shown.4.before.3 in let i = h.shown.4.before.6 in
    omega (arith, e, f, i, length-append h.shown.0 h.shown.1, length-append h.shown.4.before.0 (h.shown.4.before.1 ∷ encode_utf8_all h.shown.4.before.2))

pub broken_fault : (bytes : List ℕ) (rule : Rule) (place : ℕ) → IsBroken bytes rule place → IsFault bytes rule place
broken_fault bytes NotUtf8 place h = absurd h.shown.4
broken_fault bytes Malformed place h = h
broken_fault bytes Doctype place h = h
broken_fault bytes TooDeep place h = h
broken_fault bytes AttributeTwice place h = h

-- the text ends too early
pub early : (text prefix : List ℕ) (s : m.State) (o : List g.Event) → IsUtf8 text → text ≡ encode_utf8_all prefix → m.Leads strict m.start prefix s o → (m.Final s → ⊥) → IsBroken text Malformed (length text)
early text prefix s o u e h f = subst (λ z. IsBroken z Malformed (length z)) (sym e) (end_fault prefix s o (subst IsUtf8 e u) h f)

-- the text is a document
pub ended : (text prefix : List ℕ) (s : m.State) (o : List g.Event) → text ≡ encode_utf8_all prefix → m.Leads strict m.start prefix s o → m.Final s → IsDocument strict text o
ended text prefix s o e h f = (prefix, e, end_document prefix s o h f)

value_step : (p : m.Place) (n : List ℕ) (xs : List g.Pair) (x : List ℕ) (q : g.Quote) (v : List ℕ) (r : Bool) (k : Class) (b : ℕ) → g.is_valued q k ≡ true → m.step_attribute_value p n xs x q v r k b ≡ m.go (m.attribute_value p n xs x q (v ++ g.raw_value r b) (is_return b))
value_step p n xs x g.with_double v r DoubleQuote b h = cc
value_step p n xs x g.with_single v r SingleQuote b h = cc
value_step p n xs x g.with_double v r Less b h = cc
value_step p n xs x g.with_single v r Less b h = cc
value_step p n xs x g.with_double v r Bad b h = cc
value_step p n xs x g.with_single v r Bad b h = cc
value_step p n xs x g.with_double v r Ampersand b h = cc
value_step p n xs x g.with_single v r Ampersand b h = cc
value_step p n xs x g.with_double v r k b h = refl
value_step p n xs x g.with_single v r k b h = refl

-- a step in an attribute's value, with a character that stands for itself
pub itself_step : (p : m.Place) (n : List ℕ) (xs : List g.Pair) (x : List ℕ) (q : g.Quote) (v : List ℕ) (r : Bool) (k : Class) (b : ℕ) → g.is_valued q k ≡ true → g.raw_value r b ≡ b ∷ [] → is_return b ≡ false → m.step_attribute_value p n xs x q v r k b ≡ m.go (m.attribute_value p n xs x q (v ++ b ∷ []) false)
itself_step p n xs x q v r k b h e f =
    value_step p n xs x q v r k b h ∙ ap (λ z. m.go (m.attribute_value p n xs x q (v ++ z) (is_return b))) e ∙ ap (λ z. m.go (m.attribute_value p n xs x q (v ++ b ∷ []) z)) f
