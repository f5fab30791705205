-- The longest prefix of characters gives the longest prefix of bytes.
use Rattle.std.proofs.Common.{◌≡◌, ℕ, ◌≤◌, List, [], ◌∷◌, ◌++◌, length, refl, sym, ap, ◌∙◌, subst, arith, append_assoc, inl, inr}
use Rattle.std.proofs.lemmas.List.{append-nil}
use Rattle.std.proofs.lemmas.Bool.{cases_lt}
use Rattle.std.proofs.lemmas.Str.{encodes-append, cons_from_encodes, encode_same}
use Rattle.std.specs.Str.{encode_utf8_all}
use Rattle.std.specs.Char.{encode_utf8}
use Rattle.doc_grammar.specs.Grammar.{Limits, Document, Event, Begins}
use Rattle.doc_grammar.specs.Faults.{BeginsOne, IsLongestOf}
use Rattle.doc_grammar.proofs.Prefix.{longer_prefix}

pub strip : (pc cs z : List ℕ) → encode_utf8_all cs ≡ encode_utf8_all pc ++ z → (es : List ℕ) × (cs ≡ pc ++ es) × (encode_utf8_all es ≡ z)
strip [] cs z e = (cs, refl, e)
strip (c ∷ pc) cs z e =
    let d = cons_from_encodes cs (encode_utf8_all pc ++ z) c (e ∙ append_assoc (encode_utf8 c) (encode_utf8_all pc) z) in
    let r = strip pc d.0 z d.2 in
    (r.0, d.1 ∙ ap (λ y. c ∷ y) r.1, r.2)

no_tail : (w u : List ℕ) (b : ℕ) → [] ≡ w ++ b ∷ u → ⊥
no_tail [] u b e = cc
no_tail (x ∷ w) u b e = cc

-- no character's bytes begin another's
shorter : (c d : ℕ) (w u : List ℕ) (b : ℕ) → encode_utf8 c ≡ encode_utf8 d ++ (w ++ b ∷ u) → ⊥
shorter c d w u b e = no_tail w u b (encode_same c d [] (w ++ b ∷ u) (append-nil (encode_utf8 c) ∙ e)).1

-- where a list is no longer than the prefix that it shares
within_prefix : (p q x y : List ℕ) → p ++ x ≡ q ++ y → length p ≤ length q → (w : List ℕ) × (q ≡ p ++ w)
within_prefix [] q x y e h = (q, refl)
within_prefix (a ∷ p) [] x y e h = absurd (omega (arith, h))
within_prefix (a ∷ p) (b ∷ q) x y e h =
    let e2 : p ++ x ≡ q ++ y = cc in
    let e3 : b ≡ a = cc in
    let r = within_prefix p q x y e2 (omega (arith, h)) in
    (r.0, ap (λ z. b ∷ z) r.1 ∙ ap (λ z. z ∷ (p ++ r.0)) e3)

module _ (l : Limits) where
  -- the character that stands there in another document agrees with c on one byte more
  other_first : (pc : List ℕ) (c : ℕ) (prefix : List ℕ) (b : ℕ) (u : List ℕ) (more : List ℕ) (tree : List Event) → encode_utf8 c ≡ prefix ++ b ∷ u
      → ((d : ℕ) (v : List ℕ) → encode_utf8 d ≡ prefix ++ b ∷ v → Begins l (pc ++ d ∷ []) → ⊥)
      → (es : List ℕ) → Document l (pc ++ es) tree → encode_utf8_all es ≡ prefix ++ b ∷ more → ⊥
  other_first pc c prefix b u more tree e f [] doc g = no_tail prefix more b g
  other_first pc c prefix b u more tree e f (d ∷ es) doc g =
      elim (cases_lt (length prefix) (length (encode_utf8 d))) [
        | inl lt ↦ let r = longer_prefix l prefix (encode_utf8 d) (b ∷ more) (encode_utf8_all es) (sym g) lt in
            let z : b ≡ r.0 = cc r.3 in
            f d r.1 (r.2 ∙ ap (λ y. prefix ++ y ∷ r.1) (sym z)) (es, tree, subst (λ y. Document l y tree) (sym (append_assoc pc (d ∷ []) es)) doc)
        | inr le ↦ let r = within_prefix (encode_utf8 d) prefix (encode_utf8_all es) (b ∷ more) g le in
            shorter c d r.0 u b (e ∙ ap (λ y. y ++ b ∷ u) r.1 ∙ append_assoc (encode_utf8 d) r.0 (b ∷ u))
      ]

  -- the character that stands there in another document agrees with c on one byte more
  pub other_char : (pc : List ℕ) (c : ℕ) (prefix : List ℕ) (b : ℕ) (u : List ℕ) (more : List ℕ) (tree : List Event) → encode_utf8 c ≡ prefix ++ b ∷ u
      → ((d : ℕ) (v : List ℕ) → encode_utf8 d ≡ prefix ++ b ∷ v → Begins l (pc ++ d ∷ []) → ⊥)
      → (cs : List ℕ) → Document l cs tree → encode_utf8_all cs ≡ encode_utf8_all pc ++ (prefix ++ b ∷ more) → ⊥
  other_char pc c prefix b u more tree e f cs doc g =
      let s = strip pc cs (prefix ++ b ∷ more) g in
      other_first pc c prefix b u more tree e f s.0 (subst (λ z. Document l z tree) s.1 doc) s.2

  too_long : (pc : List ℕ) (c : ℕ) (prefix : List ℕ) (b : ℕ) (u rest : List ℕ) → encode_utf8 c ≡ prefix ++ b ∷ u
      → ((d : ℕ) (v : List ℕ) → encode_utf8 d ≡ prefix ++ b ∷ v → Begins l (pc ++ d ∷ []) → ⊥)
      → (q more : List ℕ) → (encode_utf8_all pc ++ prefix) ++ b ∷ (u ++ rest) ≡ q ++ more → BeginsOne l q → length q ≤ length (encode_utf8_all pc ++ prefix)
  too_long pc c prefix b u rest e f q more g h =
      elim (cases_lt (length (encode_utf8_all pc ++ prefix)) (length q)) [
        | inl lt ↦ let p = encode_utf8_all pc ++ prefix in
            let r = longer_prefix l p q (b ∷ (u ++ rest)) more g lt in
            let z : b ≡ r.0 = cc r.3 in
            let k : encode_utf8_all h.2.0 ≡ encode_utf8_all pc ++ (prefix ++ b ∷ (r.1 ++ h.0)) =
            sym h.2.1 ∙ ap (λ y. y ++ h.0) r.2 ∙ append_assoc p (r.0 ∷ r.1) h.0 ∙ append_assoc (encode_utf8_all pc) prefix (r.0 ∷ (r.1 ++ h.0)) ∙ ap (λ y. encode_utf8_all pc ++ (prefix ++ y ∷ (r.1 ++ h.0))) (sym z) in
            absurd (other_char pc c prefix b u (r.1 ++ h.0) h.1 e f h.2.0 h.2.2 k)
        | inr le ↦ le
      ]

  pub lifted : (pc : List ℕ) (c : ℕ) (prefix : List ℕ) (b : ℕ) (u rest : List ℕ) → encode_utf8 c ≡ prefix ++ b ∷ u → BeginsOne l (encode_utf8_all pc ++ prefix)
      → ((d : ℕ) (v : List ℕ) → encode_utf8 d ≡ prefix ++ b ∷ v → Begins l (pc ++ d ∷ []) → ⊥)
      → IsLongestOf l ((encode_utf8_all pc ++ prefix) ++ b ∷ (u ++ rest)) (encode_utf8_all pc ++ prefix)
  lifted pc c prefix b u rest e g f = record {
    prefix = (b ∷ (u ++ rest), refl);
    begins = g;
    longest = λ q more h k. too_long pc c prefix b u rest e f q more h k;
  }

  -- what characters begin, their bytes begin
  pub lift_begins : (p : List ℕ) → Begins l p → BeginsOne l (encode_utf8_all p)
  lift_begins p (rest, tree, d) = (encode_utf8_all rest, tree, (p ++ rest, sym (encodes-append p rest), d))
