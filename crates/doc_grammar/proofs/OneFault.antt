-- Bytes that are no document have one fault.
use Rattle.std.proofs.Common.{◌≡◌, ℕ, ◌<◌, ◌≤◌, List, [], ◌∷◌, ◌++◌, length, ◌⊎◌, inl, inr, refl, sym, ap, ◌∙◌, subst, arith, append_assoc}
use Rattle.std.proofs.lemmas.List.{append_cancel_left, append_cancel_right}
use Rattle.std.proofs.lemmas.Bool.{cases_lt}
use Rattle.std.specs.Str.{encode_utf8_all}
use Rattle.std.proofs.lemmas.Str.{utf8_valid_len-IsValidUpTo}
use Rattle.doc_grammar.specs.Characters.{class, names, IsName}
use Rattle.doc_grammar.specs.Grammar.{strict}
use Rattle.doc_grammar.specs.declared.characters.Class.TheVariants.{Blank, Equal}
use Rattle.doc_grammar.specs.Faults.{BeginsName, IsLongestOf, IsRule, IsBroken, IsIll, IsFault}
use Rattle.doc_grammar.specs.declared.reasons.Rule.{Rule}
use Rattle.doc_grammar.specs.declared.reasons.Rule.TheVariants.{NotUtf8, Malformed, Doctype, TooDeep, AttributeTwice}
use Rattle.doc_grammar.proofs.Classes.{class_of_D, blank_low, equal_is}
use Rattle.doc_grammar.proofs.Bytes.{ascii_inside, all_named}
use Rattle.doc_grammar.proofs.Prefix as x

same_prefix : (p q u v : List ℕ) → length p ≡ length q → p ++ u ≡ q ++ v → p ≡ q
same_prefix [] [] u v h e = refl
same_prefix [] (b ∷ q) u v h e = absurd (omega (arith, h))
same_prefix (a ∷ p) [] u v h e = absurd (omega (arith, h))
same_prefix (a ∷ p) (b ∷ q) u v h e =
    let e2 : p ++ u ≡ q ++ v = cc in
    let e3 : a ≡ b = cc in
    let r : p ≡ q = same_prefix p q u v (omega (arith, h)) e2 in cc

one_longest : (bytes p q u v : List ℕ) → IsLongestOf strict bytes p → IsLongestOf strict bytes q → bytes ≡ p ++ u → bytes ≡ q ++ v → p ≡ q
one_longest bytes p q u v hp hq e f =
    let a = hp.longest q v f hq.begins in
    let b = hq.longest p u e hp.begins in
    same_prefix p q u v (omega (arith, a, b)) (sym e ∙ f)

-- the last byte
no_snoc : (f : List ℕ) (a : ℕ) → f ++ a ∷ [] ≡ [] → ⊥
no_snoc [] a e = cc
no_snoc (x ∷ f) a e = cc

last_same : (f g : List ℕ) (a b : ℕ) → f ++ a ∷ [] ≡ g ++ b ∷ [] → a ≡ b
last_same [] [] a b e = cc
last_same [] (y ∷ g) a b e = let z : g ++ b ∷ [] ≡ [] = cc in absurd (no_snoc g b z)
last_same (x ∷ f) [] a b e = let z : f ++ a ∷ [] ≡ [] = cc in absurd (no_snoc f a z)
last_same (x ∷ f) (y ∷ g) a b e = let z : f ++ a ∷ [] ≡ g ++ b ∷ [] = cc in last_same f g a b z

last_apart : (f g : List ℕ) → f ++ 60 ∷ 33 ∷ [] ≡ g ++ 60 ∷ [] → ⊥
last_apart f g e = let z = last_same (f ++ 60 ∷ []) g 33 60 (append_assoc f (60 ∷ []) (33 ∷ []) ∙ e) in omega (arith, z)

low_end : (b : ℕ) → (class b ≡ Blank) ⊎ (class b ≡ Equal) → b < 128
low_end b (inl h) = blank_low b h
low_end b (inr h) = let z = equal_is b h in omega arith

letter_apart : (b c : ℕ) (u v : List ℕ) → b ∷ u ≡ c ∷ v → BeginsName b → (class c ≡ Blank) ⊎ (class c ≡ Equal) → ⊥
letter_apart b c u v e (inl h) (inl k) = let z : b ≡ c = cc in let y = ap class z in cc
letter_apart b c u v e (inl h) (inr k) = let z : b ≡ c = cc in let y = ap class z in cc
letter_apart b c u v e (inr h) k = let z : b ≡ c = cc in let y = low_end c k in omega arith

not_longer : (f g n m : List ℕ) (c d : ℕ) → f ++ c ∷ encode_utf8_all n ≡ g ++ d ∷ encode_utf8_all m → IsName n → class d ≡ Blank → length g ≤ length f
not_longer f g n m c d e h k =
    elim (cases_lt (length f) (length g)) [
      | inl lt ↦ let r = x.longer_prefix strict f g (c ∷ encode_utf8_all n) (d ∷ encode_utf8_all m) e lt in
          let z : encode_utf8_all n ≡ r.1 ++ d ∷ encode_utf8_all m = cc r.3 in
          let y = ascii_inside names n r.1 (encode_utf8_all m) d (blank_low d k) (all_named n h) z in
          let w = ap names k in absurd (cc (y, w))
      | inr le ↦ le
    ]

pub both : (p u : List ℕ) (r1 r2 : Rule) (a b : ℕ) → IsRule r1 p u a → IsRule r2 p u b → (r1 ≡ r2) × (a ≡ b)
both p u NotUtf8 r2 a b h k = absurd h
both p u Malformed NotUtf8 a b h k = absurd k
both p u Doctype NotUtf8 a b h k = absurd k
both p u TooDeep NotUtf8 a b h k = absurd k
both p u AttributeTwice NotUtf8 a b h k = absurd k
both p u Malformed Malformed a b h k = (refl, h.0 ∙ sym k.0)
both p u Malformed Doctype a b h k = absurd (h.1 b k)
both p u Malformed TooDeep a b h k = absurd (h.2 b k)
both p u Malformed AttributeTwice a b h k = absurd (h.3 b k)
both p u Doctype Malformed a b h k = absurd (k.1 a h)
both p u TooDeep Malformed a b h k = absurd (k.2 a h)
both p u AttributeTwice Malformed a b h k = absurd (k.3 a h)
both p u Doctype Doctype a b h k =
    (refl, h.before.2 ∙ ap length (append_cancel_right h.before.0 k.before.0 (60 ∷ 33 ∷ []) (sym h.before.1 ∙ k.before.1)) ∙ sym k.before.2)
both p u TooDeep TooDeep a b h k =
    (refl, h.before.2 ∙ ap length (append_cancel_right h.before.0 k.before.0 (60 ∷ []) (sym h.before.1 ∙ k.before.1)) ∙ sym k.before.2)
both p u Doctype TooDeep a b h k = absurd (last_apart h.before.0 k.before.0 (sym h.before.1 ∙ k.before.1))
both p u TooDeep Doctype a b h k = absurd (last_apart k.before.0 h.before.0 (sym k.before.1 ∙ h.before.1))
both p u Doctype AttributeTwice a b h k = absurd (letter_apart 68 k.after.0 _ _ (sym h.after.1 ∙ k.after.2) (inl class_of_D) k.after.3)
both p u AttributeTwice Doctype a b h k = absurd (letter_apart 68 h.after.0 _ _ (sym k.after.1 ∙ h.after.2) (inl class_of_D) h.after.3)
both p u TooDeep AttributeTwice a b h k = absurd (letter_apart h.after.0 k.after.0 _ _ (sym h.after.2 ∙ k.after.2) h.after.3 k.after.3)
both p u AttributeTwice TooDeep a b h k = absurd (letter_apart k.after.0 h.after.0 _ _ (sym k.after.2 ∙ h.after.2) k.after.3 h.after.3)
both p u AttributeTwice AttributeTwice a b h k =
    let e = sym h.before.3 ∙ k.before.3 in
    let i = not_longer h.before.0 k.before.0 h.before.2 k.before.2 h.before.1 k.before.1 e h.before.5 k.before.4 in
    let j = not_longer k.before.0 h.before.0 k.before.2 h.before.2 k.before.1 h.before.1 (sym e) k.before.5 h.before.4 in
    (refl, (let c = h.before.6 in let d = k.before.6 in omega (arith, i, j, c, d)))

pub one_broken : (bytes : List ℕ) (r1 r2 : Rule) (a b : ℕ) → IsBroken bytes r1 a → IsBroken bytes r2 b → (r1 ≡ r2) × (a ≡ b)
one_broken bytes r1 r2 a b h k =
    let e : h.shown.0 ≡ k.shown.0 = one_longest bytes h.shown.0 k.shown.0 h.shown.1 k.shown.1 h.shown.3 k.shown.3 h.shown.2 k.shown.2 in
    let f : h.shown.1 ≡ k.shown.1 = append_cancel_left h.shown.0 h.shown.1 k.shown.1 (sym h.shown.2 ∙ k.shown.2 ∙ ap (λ z. z ++ k.shown.1) (sym e)) in
    both k.shown.0 k.shown.1 r1 r2 a b (subst (λ z. IsRule r1 k.shown.0 z a) f (subst (λ z. IsRule r1 z h.shown.1 a) e h.shown.4)) k.shown.4

one_ill : (bytes : List ℕ) (a b : ℕ) → IsIll bytes a → IsIll bytes b → a ≡ b
one_ill bytes a b h k = sym (utf8_valid_len-IsValidUpTo bytes a h.shown) ∙ utf8_valid_len-IsValidUpTo bytes b k.shown

-- bytes that are no document break one rule, at one place
pub one_fault : (bytes : List ℕ) (r1 r2 : Rule) (a b : ℕ) → IsFault bytes r1 a → IsFault bytes r2 b → (r1 ≡ r2) × (a ≡ b)
one_fault bytes NotUtf8 NotUtf8 a b h k = (refl, one_ill bytes a b h k)
one_fault bytes NotUtf8 Malformed a b h k = absurd (h.none k.text)
one_fault bytes Malformed NotUtf8 a b h k = absurd (k.none h.text)
one_fault bytes NotUtf8 Doctype a b h k = absurd (h.none k.text)
one_fault bytes Doctype NotUtf8 a b h k = absurd (k.none h.text)
one_fault bytes NotUtf8 TooDeep a b h k = absurd (h.none k.text)
one_fault bytes TooDeep NotUtf8 a b h k = absurd (k.none h.text)
one_fault bytes NotUtf8 AttributeTwice a b h k = absurd (h.none k.text)
one_fault bytes AttributeTwice NotUtf8 a b h k = absurd (k.none h.text)
one_fault bytes Malformed Malformed a b h k = one_broken bytes Malformed Malformed a b h k
one_fault bytes Malformed Doctype a b h k = one_broken bytes Malformed Doctype a b h k
one_fault bytes Malformed TooDeep a b h k = one_broken bytes Malformed TooDeep a b h k
one_fault bytes Malformed AttributeTwice a b h k = one_broken bytes Malformed AttributeTwice a b h k
one_fault bytes Doctype Malformed a b h k = one_broken bytes Doctype Malformed a b h k
one_fault bytes Doctype Doctype a b h k = one_broken bytes Doctype Doctype a b h k
one_fault bytes Doctype TooDeep a b h k = one_broken bytes Doctype TooDeep a b h k
one_fault bytes Doctype AttributeTwice a b h k = one_broken bytes Doctype AttributeTwice a b h k
one_fault bytes TooDeep Malformed a b h k = one_broken bytes TooDeep Malformed a b h k
one_fault bytes TooDeep Doctype a b h k = one_broken bytes TooDeep Doctype a b h k
one_fault bytes TooDeep TooDeep a b h k = one_broken bytes TooDeep TooDeep a b h k
one_fault bytes TooDeep AttributeTwice a b h k = one_broken bytes TooDeep AttributeTwice a b h k
one_fault bytes AttributeTwice Malformed a b h k = one_broken bytes AttributeTwice Malformed a b h k
one_fault bytes AttributeTwice Doctype a b h k = one_broken bytes AttributeTwice Doctype a b h k
one_fault bytes AttributeTwice TooDeep a b h k = one_broken bytes AttributeTwice TooDeep a b h k
one_fault bytes AttributeTwice AttributeTwice a b h k = one_broken bytes AttributeTwice AttributeTwice a b h k
