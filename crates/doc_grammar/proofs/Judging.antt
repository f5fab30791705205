-- The machine's reason is the rule of the longest prefix, in bytes.
use Rattle.std.proofs.Common.{◌≡◌, ℕ, ◌+◌, ◌<◌, ◌≤◌, ◌-◌, Bool, true, false, cond, List, [], ◌∷◌, ◌++◌, length, length-append, drop, ◌⊎◌, inl, inr, refl, sym, ap, ◌∙◌, subst, arith, append_assoc, eqb}
use Rattle.std.proofs.lemmas.List.{append-nil}
use Rattle.std.proofs.lemmas.Bool.{cases_lt}
use Rattle.std.proofs.lemmas.Bool.Decides.{Decides-eqb}
use Rattle.std.proofs.lemmas.Slice.Eq.{starts_is}
use Rattle.std.proofs.lemmas.Str.{encodes-append, encodes_same, encode_ascii}
use Rattle.std.specs.List.{starts_with}
use Rattle.std.specs.Str.{encode_utf8_all, IsUtf8}
use Rattle.std.specs.Char.{encode_utf8, IsScalar}
use Rattle.doc_grammar.specs.Characters.{class, other_class, IsName}
use Rattle.doc_grammar.specs.Grammar.{Limits, strict, deeper, repeated, Event, Document, Begins}
use Rattle.doc_grammar.specs.declared.characters.Class.{Class}
use Rattle.doc_grammar.specs.declared.characters.Class.TheVariants.{Equal, Blank, Letter, Bad}
use Rattle.doc_grammar.specs.declared.reasons.Why.{Why}
use Rattle.doc_grammar.specs.declared.reasons.Why.TheVariants as w
use Rattle.doc_grammar.specs.Machine.{before, State, dead, step, Run, Leads, Final}
use Rattle.doc_grammar.specs.Machine as m
use Rattle.doc_grammar.specs.declared.reasons.Rule.{Rule}
use Rattle.doc_grammar.specs.declared.reasons.Rule.TheVariants.{Malformed, Doctype, TooDeep, AttributeTwice}
use Rattle.doc_grammar.specs.Faults.{IsDocument, BeginsOne, BeginsName, IsLongestOf, doctype, IsDoctype, IsTooDeep, IsTwice, IsRule, IsBroken, judged}
use Rattle.doc_grammar.proofs.Classes.{blank_low, equal_is}
use Rattle.doc_grammar.proofs.Bytes.{ascii_of, high_byte, ends_ascii}
use Rattle.doc_grammar.proofs.Keeps.{Keeps, keeps}
use Rattle.doc_grammar.proofs.Tells.{Tells, tells_step}
use Rattle.doc_grammar.proofs.Limits.{Lifted, deeper_step, repeated_step, lift_leads, IsHarmless, lifted_dead, IsQuiet, no_quiet}
use Rattle.doc_grammar.proofs.Lift.{other_char, lift_begins}
use Rattle.doc_grammar.proofs.Cuts.{Cut, part_cut, wholly_cut, blocks, cut_longest, prefix_begins, on_step, one_more, two_bad, encode_fffd, encode_fffe, encode_ffff}
use Rattle.doc_grammar.proofs.Prefix as x
use Rattle.doc_grammar.proofs.Backward as back
use Rattle.doc_grammar.proofs.Forward as forth

not_true : (t : Bool) → (t ≡ true → ⊥) → t ≡ false
not_true true h = absurd (h refl)
not_true false h = refl

-- the text is no document
not_document : (pc : List ℕ) (c : ℕ) (rest : List ℕ) (s : State) (o : List Event) (y : Why) → Leads strict m.start pc s o → step strict s (class c) c ≡ dead y → (tree : List Event) → IsDocument strict (encode_utf8_all (pc ++ c ∷ rest)) tree → ⊥
not_document pc c rest s o y h e tree (text, f, d) =
    x.dead_end strict y pc c rest s o tree h e (subst (λ z. Document strict z tree) (sym (encodes_same (pc ++ c ∷ rest) text f)) d)

regroup : (pc : List ℕ) (c : ℕ) (rest prefix after : List ℕ) (b : ℕ) → encode_utf8 c ≡ prefix ++ b ∷ after → (encode_utf8_all pc ++ prefix) ++ b ∷ (after ++ encode_utf8_all rest) ≡ encode_utf8_all (pc ++ c ∷ rest)
regroup pc c rest prefix after b e =
    append_assoc (encode_utf8_all pc) prefix (b ∷ (after ++ encode_utf8_all rest))
    ∙ ap (λ z. encode_utf8_all pc ++ z) (sym (append_assoc prefix (b ∷ after) (encode_utf8_all rest)) ∙ ap (λ z. z ++ encode_utf8_all rest) (sym e))
    ∙ sym (encodes-append pc (c ∷ rest))

-- where the machine stops, with a rule for the end of the longest prefix
shown : (pc : List ℕ) (c : ℕ) (rest : List ℕ) (s : State) (o : List Event) (y : Why) (k : Cut pc s c y) (rule : Rule) (place : ℕ) → IsUtf8 (encode_utf8_all (pc ++ c ∷ rest)) → Leads strict m.start pc s o → step strict s (class c) c ≡ dead y
    → IsRule rule (encode_utf8_all pc ++ k.prefix) (k.next ∷ (k.after ++ encode_utf8_all rest)) place → IsBroken (encode_utf8_all (pc ++ c ∷ rest)) rule place
shown pc c rest s o y k rule place u h e r =
    let g = regroup pc c rest k.prefix k.after k.next k.is in
    record {
      text = u;
      none = λ tree d. not_document pc c rest s o y h e tree d;
      shown = (
        encode_utf8_all pc ++ k.prefix,
        k.next ∷ (k.after ++ encode_utf8_all rest),
        sym g,
        subst (λ z. IsLongestOf strict z (encode_utf8_all pc ++ k.prefix)) g (cut_longest pc s o c (encode_utf8_all rest) y k h e),
        r,
      );
    }

-- a limit that is lifted does not lead on, where it was not the reason
not_lifted : (l : Limits) → ((s : State) (k : Class) (b : ℕ) → Lifted (step strict s k b) (step l s k b)) → (pc : List ℕ) (s : State) (o : List Event) (c : ℕ) (y : Why) (k : Cut pc s c y) → IsHarmless y → Leads strict m.start pc s o → step strict s (class c) c ≡ dead y
    → BeginsOne l ((encode_utf8_all pc ++ k.prefix) ++ k.next ∷ []) → ⊥
not_lifted l f pc s o c y k q h e (rest, tree, (text, g, d)) =
    let dead_too = lifted_dead y (step strict s (class c) c) (step l s (class c) c) q e (f s (class c) c) in
    other_char l pc c k.prefix k.next k.after rest tree k.is (blocks l pc s o c y k (lift_leads l f pc m.start s o h) dead_too) text d
    (sym g ∙ append_assoc (encode_utf8_all pc ++ k.prefix) (k.next ∷ []) rest ∙ append_assoc (encode_utf8_all pc) k.prefix (k.next ∷ rest))

no_deep : (pc : List ℕ) (s : State) (o : List Event) (c : ℕ) (y : Why) (k : Cut pc s c y) (rest : List ℕ) → IsHarmless y → Leads strict m.start pc s o → step strict s (class c) c ≡ dead y
    → (n : ℕ) → IsTooDeep (encode_utf8_all pc ++ k.prefix) (k.next ∷ rest) n → ⊥
no_deep pc s o c y k rest q h e n r =
    let z : k.next ≡ r.after.0 = cc r.after.2 in
    not_lifted deeper deeper_step pc s o c y k q h e (subst (λ b. BeginsOne deeper ((encode_utf8_all pc ++ k.prefix) ++ b ∷ [])) (sym z) r.after.4)

no_twice : (pc : List ℕ) (s : State) (o : List Event) (c : ℕ) (y : Why) (k : Cut pc s c y) (rest : List ℕ) → IsHarmless y → Leads strict m.start pc s o → step strict s (class c) c ≡ dead y
    → (n : ℕ) → IsTwice (encode_utf8_all pc ++ k.prefix) (k.next ∷ rest) n → ⊥
no_twice pc s o c y k rest q h e n r =
    let z : k.next ≡ r.after.0 = cc r.after.2 in
    not_lifted repeated repeated_step pc s o c y k q h e (subst (λ b. BeginsOne repeated ((encode_utf8_all pc ++ k.prefix) ++ b ∷ [])) (sym z) r.after.4)

-- an ASCII byte that follows the prefix is the character, and the prefix is the text before it
alone : (c b : ℕ) (prefix after : List ℕ) → encode_utf8 c ≡ prefix ++ b ∷ after → b < 128 → (c ≡ b) × (prefix ≡ [])
alone c b prefix after e h =
    let z = ascii_of c prefix after b e h in
    let y : b ∷ [] ≡ prefix ++ b ∷ after = sym (encode_ascii b h) ∙ ap encode_utf8 (sym z) ∙ e in
    (z, none prefix y)
  where
    empty_cons : (u v : List ℕ) (b : ℕ) → [] ≡ u ++ b ∷ v → ⊥
    empty_cons [] v b e = cc
    empty_cons (a ∷ u) v b e = cc

    none : (u : List ℕ) → b ∷ [] ≡ u ++ b ∷ after → u ≡ []
    none [] y = refl
    none (a ∷ u) y = absurd (empty_cons u after b (cc y))

quiet_doctype : (pc : List ℕ) (s : State) (o : List Event) (c : ℕ) (y : Why) (k : Cut pc s c y) (rest : List ℕ) → IsQuiet y → Leads strict m.start pc s o → step strict s (class c) c ≡ dead y
    → (n : ℕ) → IsDoctype (encode_utf8_all pc ++ k.prefix) (k.next ∷ rest) n → ⊥
quiet_doctype pc s o c y k rest q h e n r =
    let z : k.next ≡ 68 = cc r.after.1 in
    let a = alone c k.next k.prefix k.after k.is (subst (λ b. b < 128) (sym z) (omega arith)) in
    let p : encode_utf8_all pc ≡ (r.before.0 ++ 60 ∷ []) ++ 33 ∷ [] =
    sym (append-nil (encode_utf8_all pc)) ∙ ap (λ w. encode_utf8_all pc ++ w) (sym a.1) ∙ r.before.1 ∙ sym (append_assoc r.before.0 (60 ∷ []) (33 ∷ [])) in
    let i = ends_ascii pc (r.before.0 ++ 60 ∷ []) 33 (omega arith) p in
    let j = ends_ascii i.0 r.before.0 60 (omega arith) i.2 in
    let t : pc ≡ j.0 ++ 60 ∷ 33 ∷ [] = i.1 ∙ ap (λ w. w ++ 33 ∷ []) j.1 ∙ append_assoc j.0 (60 ∷ []) (33 ∷ []) in
    no_quiet j.0 s o y q (subst (λ w. Leads strict m.start w s o) t h) (subst (λ w. step strict s (class w) w ≡ dead y) (a.0 ∙ z) e)

malformed : (pc : List ℕ) (c : ℕ) (rest : List ℕ) (s : State) (o : List Event) (y : Why) (k : Cut pc s c y) → IsHarmless y → IsUtf8 (encode_utf8_all (pc ++ c ∷ rest)) → Leads strict m.start pc s o → step strict s (class c) c ≡ dead y
    → ((n : ℕ) → IsDoctype (encode_utf8_all pc ++ k.prefix) (k.next ∷ (k.after ++ encode_utf8_all rest)) n → ⊥)
    → (place : ℕ) → place ≡ length (encode_utf8_all pc) + length k.prefix → IsBroken (encode_utf8_all (pc ++ c ∷ rest)) Malformed place
malformed pc c rest s o y k q u h e d place f =
    shown pc c rest s o y k Malformed place u h e (
      f ∙ sym (length-append (encode_utf8_all pc) k.prefix),
      d,
      no_deep pc s o c y k (k.after ++ encode_utf8_all rest) q h e,
      no_twice pc s o c y k (k.after ++ encode_utf8_all rest) q h e,
    )

no_more : (pc : List ℕ) → encode_utf8_all pc ++ [] ≡ encode_utf8_all pc
no_more pc = append-nil (encode_utf8_all pc)

state_keeps : (pc : List ℕ) (s : State) (o : List Event) → Leads strict m.start pc s o → Keeps s pc
state_keeps pc s o h = keeps pc m.start s o [] tt h

plain_fault : (pc : List ℕ) (c : ℕ) (rest : List ℕ) (s : State) (o : List Event) → IsUtf8 (encode_utf8_all (pc ++ c ∷ rest)) → Leads strict m.start pc s o → step strict s (class c) c ≡ dead w.Plain
    → IsBroken (encode_utf8_all (pc ++ c ∷ rest)) Malformed (length (encode_utf8_all pc))
unfolding wholly_cut
plain_fault pc c rest s o u h e =
    let k = wholly_cut pc s o c w.Plain tt (state_keeps pc s o h) h in
    malformed pc c rest s o w.Plain k tt u h e (quiet_doctype pc s o c w.Plain k (k.after ++ encode_utf8_all rest) tt h e) (length (encode_utf8_all pc)) (omega arith)

partly_fault : (pc : List ℕ) (c : ℕ) (rest : List ℕ) (s : State) (o : List Event) (n : ℕ) → IsScalar c → IsUtf8 (encode_utf8_all (pc ++ c ∷ rest)) → Leads strict m.start pc s o → step strict s (class c) c ≡ dead (w.Partly n)
    → IsBroken (encode_utf8_all (pc ++ c ∷ rest)) Malformed (length (encode_utf8_all pc) + n)
partly_fault pc c rest s o n i u h e =
    let t = part_cut pc s o c n i h (subst (Tells s (class c) c) e (tells_step s (class c) c)) in
    let k = t.cut in
    malformed pc c rest s o (w.Partly n) k tt u h e (quiet_doctype pc s o c (w.Partly n) k (k.after ++ encode_utf8_all rest) tt h e) (length (encode_utf8_all pc) + n) (ap (λ z. length (encode_utf8_all pc) + z) (sym t.size))

-- the bytes after `<!`
bang_prefix : (pc : List ℕ) (s : State) (c : ℕ) (o : List Event) → Leads strict m.start pc s o → step strict s (class c) c ≡ dead w.Bang → (prefix : List ℕ) × (encode_utf8_all pc ≡ encode_utf8_all prefix ++ 60 ∷ 33 ∷ [])
bang_prefix pc s c o h e =
    let k = subst (Tells s (class c) c) e (tells_step s (class c) c) in
    let f : (prefix : List ℕ) × (pc ≡ prefix ++ 60 ∷ 33 ∷ []) = (subst (λ z. Keeps z pc) k.1 (state_keeps pc s o h)).1 in
    (f.0, ap encode_utf8_all f.1 ∙ encodes-append f.0 (60 ∷ 33 ∷ []) ∙ ap (λ z. encode_utf8_all f.0 ++ z) two)
  where
    two : encode_utf8_all (60 ∷ 33 ∷ []) ≡ 60 ∷ 33 ∷ []
    two = ap (λ z. z ++ (encode_utf8 33 ++ [])) (encode_ascii 60 (omega arith)) ∙ ap (λ z. 60 ∷ (z ++ [])) (encode_ascii 33 (omega arith))

prefix_length : (p prefix t : List ℕ) → p ≡ prefix ++ t → length p - length t ≡ length prefix
prefix_length p prefix t e = let q = ap length e in omega (arith, q, length-append prefix t)

fault_bang : (pc : List ℕ) (c : ℕ) (rest : List ℕ) (s : State) (o : List Event) → IsUtf8 (encode_utf8_all (pc ++ c ∷ rest)) → Leads strict m.start pc s o → step strict s (class c) c ≡ dead w.Bang
    → (t : Bool) → t ≡ starts_with eqb (encode_utf8_all (c ∷ rest)) doctype
    → (r : Rule × ℕ) → r ≡ cond t (Doctype, length (encode_utf8_all pc) - 2) (Malformed, length (encode_utf8_all pc)) → IsBroken (encode_utf8_all (pc ++ c ∷ rest)) r.0 r.1
unfolding wholly_cut
fault_bang pc c rest s o u h e true q r d =
    let k = wholly_cut pc s o c w.Bang tt (state_keeps pc s o h) h in
    let f = bang_prefix pc s c o h e in
    let after = encode_utf8_all (c ∷ rest) in
    let g : k.next ∷ (k.after ++ encode_utf8_all rest) ≡ after = ap (λ z. z ++ encode_utf8_all rest) (sym k.is) in
    subst (λ z. IsBroken (encode_utf8_all (pc ++ c ∷ rest)) z.0 z.1) (sym d)
    (shown pc c rest s o w.Bang k Doctype (length (encode_utf8_all pc) - 2) u h e
    record { before = (encode_utf8_all f.0, no_more pc ∙ f.1, prefix_length (encode_utf8_all pc) (encode_utf8_all f.0) (60 ∷ 33 ∷ []) f.1); after = (drop 7 after, g ∙ (starts_is Decides-eqb after doctype true q).0 refl) })
fault_bang pc c rest s o u h e false q r d =
    let k = wholly_cut pc s o c w.Bang tt (state_keeps pc s o h) h in
    let after = encode_utf8_all (c ∷ rest) in
    let g : k.next ∷ (k.after ++ encode_utf8_all rest) ≡ after = ap (λ z. z ++ encode_utf8_all rest) (sym k.is) in
    subst (λ z. IsBroken (encode_utf8_all (pc ++ c ∷ rest)) z.0 z.1) (sym d)
    (malformed pc c rest s o w.Bang k tt u h e (λ n r. let y : false ≡ true = (starts_is Decides-eqb after doctype false q).1 r.after.0 (sym g ∙ r.after.1) in cc) (length (encode_utf8_all pc)) (omega arith))

-- the letter that begins an element, or one with the same first byte
deep_letter : (c b : ℕ) (u : List ℕ) → IsScalar c → encode_utf8 c ≡ b ∷ u → (class c ≡ Letter) ⊎ ((class c ≡ Bad) × (128 ≤ c)) → (d : ℕ) × (v : List ℕ) × (class d ≡ Letter) × (encode_utf8 d ≡ b ∷ v)
unfolding class other_class
deep_letter c b u i e (inl k) = (c, u, k, e)
deep_letter c b u i e (inr (k, h)) =
    elim (two_bad c i h k) [
      | inl z ↦ (65533, 191 ∷ 189 ∷ [], refl, encode_fffd ∙ ap (λ x. x ∷ 191 ∷ 189 ∷ []) (first_is 65534 190 encode_fffe z))
      | inr z ↦ (65533, 191 ∷ 189 ∷ [], refl, encode_fffd ∙ ap (λ x. x ∷ 191 ∷ 189 ∷ []) (first_is 65535 191 encode_ffff z))
    ]
  where
    first_is : (n t : ℕ) → encode_utf8 n ≡ 239 ∷ 191 ∷ t ∷ [] → c ≡ n → 239 ≡ b
    first_is n t f z = cc (sym f ∙ ap encode_utf8 (sym z) ∙ e)

begins_name : (c b : ℕ) (u : List ℕ) → encode_utf8 c ≡ b ∷ u → (class c ≡ Letter) ⊎ ((class c ≡ Bad) × (128 ≤ c)) → BeginsName b
begins_name c b u e (inl k) =
    elim (cases_lt b 128) [
      | inl lt ↦ inl (ap class (sym (ascii_of c [] u b e lt)) ∙ k)
      | inr le ↦ inr le
    ]
begins_name c b u e (inr (k, h)) = inr (high_byte c [] u b e h)

-- the first byte of a character that leads on
byte_begins : (l : Limits) (pc : List ℕ) (d b : ℕ) (v : List ℕ) → encode_utf8 d ≡ b ∷ v → Begins l (pc ++ d ∷ []) → BeginsOne l ((encode_utf8_all pc ++ []) ++ b ∷ [])
byte_begins l pc d b v e h =
    prefix_begins l ((encode_utf8_all pc ++ []) ++ b ∷ []) v (subst (λ z. BeginsOne l z)
    (one_more pc d ∙ ap (λ z. encode_utf8_all pc ++ z) e ∙ ap (λ z. z ++ b ∷ v) (sym (no_more pc)) ∙ sym (append_assoc (encode_utf8_all pc ++ []) (b ∷ []) v)) (lift_begins l (pc ++ d ∷ []) h))

fault_deep : (pc : List ℕ) (c : ℕ) (rest : List ℕ) (s : State) (o : List Event) → IsScalar c → IsUtf8 (encode_utf8_all (pc ++ c ∷ rest)) → Leads strict m.start pc s o → step strict s (class c) c ≡ dead w.Deep
    → IsBroken (encode_utf8_all (pc ++ c ∷ rest)) TooDeep (length (encode_utf8_all pc) - 1)
unfolding wholly_cut
fault_deep pc c rest s o i u h e =
    let t = subst (Tells s (class c) c) e (tells_step s (class c) c) in
    let k = wholly_cut pc s o c w.Deep tt (state_keeps pc s o h) h in
    let f : (prefix : List ℕ) × (pc ≡ prefix ++ 60 ∷ []) = (subst (λ z. Keeps z pc) t.1 (state_keeps pc s o h)).1 in
    let g : encode_utf8_all pc ≡ encode_utf8_all f.0 ++ 60 ∷ [] = ap encode_utf8_all f.1 ∙ one_more f.0 60 ∙ ap (λ z. encode_utf8_all f.0 ++ z) (encode_ascii 60 (omega arith)) in
    let d = deep_letter c k.next k.after i k.is t.2 in
    let up = lift_leads deeper deeper_step pc m.start s o h in
    let y = on_step deeper pc d.0 s (m.tag_name t.0 (d.0 ∷ [])) o up (ap (λ z. step deeper s z d.0) d.2 ∙ t.3 d.0) in
    shown pc c rest s o w.Deep k TooDeep (length (encode_utf8_all pc) - 1) u h e
    record {
      before = (encode_utf8_all f.0, no_more pc ∙ g, prefix_length (encode_utf8_all pc) (encode_utf8_all f.0) (60 ∷ []) g);
      after = (k.next, k.after ++ encode_utf8_all rest, refl, begins_name c k.next k.after k.is t.2, byte_begins deeper pc d.0 k.next d.1 d.3 y);
    }

low_end : (c : ℕ) → (class c ≡ Blank) ⊎ (class c ≡ Equal) → c < 128
low_end c (inl h) = blank_low c h
low_end c (inr h) = let z = equal_is c h in omega arith

fault_twice : (pc : List ℕ) (c : ℕ) (rest : List ℕ) (s : State) (o : List Event) (n : ℕ) → IsUtf8 (encode_utf8_all (pc ++ c ∷ rest)) → Leads strict m.start pc s o → step strict s (class c) c ≡ dead (w.Twice n)
    → IsBroken (encode_utf8_all (pc ++ c ∷ rest)) AttributeTwice (length (encode_utf8_all pc) - n)
unfolding wholly_cut
fault_twice pc c rest s o n u h e =
    let t = subst (Tells s (class c) c) e (tells_step s (class c) c) in
    let k = wholly_cut pc s o c (w.Twice n) tt (state_keeps pc s o h) h in
    let name = t.3 in
    let f : (prefix : List ℕ) × (a : ℕ) × (pc ≡ prefix ++ a ∷ name) × (class a ≡ Blank) × IsName name = (subst (λ z. Keeps z pc) t.5 (state_keeps pc s o h)).2 in
    let g : encode_utf8_all pc ≡ encode_utf8_all f.0 ++ f.1 ∷ encode_utf8_all name =
    ap encode_utf8_all f.2 ∙ encodes-append f.0 (f.1 ∷ name) ∙ ap (λ z. encode_utf8_all f.0 ++ (z ++ encode_utf8_all name)) (encode_ascii f.1 (blank_low f.1 f.3)) in
    let size = ap length g in
    let it = t.6 in
    let up = lift_leads repeated repeated_step pc m.start s o h in
    let y = on_step repeated pc c s t.4 o up t.8 in
    let same : k.next ≡ c = cc (sym k.is ∙ encode_ascii c (low_end c t.7)) in
    shown pc c rest s o (w.Twice n) k AttributeTwice (length (encode_utf8_all pc) - n) u h e
    record {
      before = (encode_utf8_all f.0, f.1, name, no_more pc ∙ g, f.3, f.4, omega (arith, size, it, length-append (encode_utf8_all f.0) (f.1 ∷ encode_utf8_all name)));
      after = (k.next, k.after ++ encode_utf8_all rest, refl, subst (λ z. (class z ≡ Blank) ⊎ (class z ≡ Equal)) (sym same) t.7, byte_begins repeated pc c k.next k.after k.is y);
    }

-- a character that no document goes on with
pub judged_fault : (pc : List ℕ) (c : ℕ) (rest : List ℕ) (s : State) (o : List Event) (y : Why) → IsScalar c → IsUtf8 (encode_utf8_all (pc ++ c ∷ rest)) → Leads strict m.start pc s o → step strict s (class c) c ≡ dead y
    → let r = judged y (encode_utf8_all (c ∷ rest)) (length (encode_utf8_all pc)) in IsBroken (encode_utf8_all (pc ++ c ∷ rest)) r.0 r.1
judged_fault pc c rest s o w.Plain i u h e = plain_fault pc c rest s o u h e
judged_fault pc c rest s o w.Bang i u h e = fault_bang pc c rest s o u h e (starts_with eqb (encode_utf8_all (c ∷ rest)) doctype) refl _ refl
judged_fault pc c rest s o w.Deep i u h e = fault_deep pc c rest s o i u h e
judged_fault pc c rest s o (w.Twice n) i u h e = fault_twice pc c rest s o n u h e
judged_fault pc c rest s o (w.Partly n) i u h e = partly_fault pc c rest s o n i u h e

no_cons : {b : ℕ} {bs : List ℕ} → [] ≡ b ∷ bs → ⊥
no_cons e = cc

-- the text ends too early
pub end_fault : (p : List ℕ) (s : State) (o : List Event) → IsUtf8 (encode_utf8_all p) → Leads strict m.start p s o → (Final s → ⊥) → IsBroken (encode_utf8_all p) Malformed (length (encode_utf8_all p))
end_fault p s o u h q =
    let bytes = encode_utf8_all p in
    record {
      text = u;
      none = λ tree d. q (x.run_lead strict p m.start s o tree [] h (subst (λ z. Run strict m.start z tree) (sym (append-nil p)) (forth.run_complete strict p tree (subst (λ z. Document strict z tree) (sym (encodes_same p d.0 d.1)) d.2)))).1.0;
      shown = (
        bytes,
        [],
        sym (append-nil bytes),
        record { prefix = ([], sym (append-nil bytes)); begins = lift_begins strict p (x.lead_begins strict p s o h); longest = λ z rest e g. let k = ap length e in omega (arith, k, length-append z rest) },
        (refl, λ n r. no_cons r.after.1, λ n r. no_cons r.after.2, λ n r. no_cons r.after.2),
      );
    }

-- the text ends where a document may
pub end_document : (p : List ℕ) (s : State) (o : List Event) → Leads strict m.start p s o → Final s → Document strict p o
end_document p s o h f =
    let r = x.lead_run strict p m.start s o [] [] h (f, refl) in
    subst (λ z. Document strict z o) (append-nil p) (subst (λ t. Document strict (p ++ []) t) (append-nil o) (back.run_sound strict (p ++ []) m.start (o ++ []) r))

-- a document has one tree
pub one_tree : (bytes : List ℕ) (t1 t2 : List Event) → IsDocument strict bytes t1 → IsDocument strict bytes t2 → t1 ≡ t2
one_tree bytes t1 t2 (a, e, d) (b, f, g) = x.one_tree strict b t1 t2 (subst (λ z. Document strict z t1) (encodes_same a b (sym e ∙ f)) d) g
