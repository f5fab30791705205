-- Characters and their bytes.
use Rattle.std.proofs.Common.{◌≡◌, ℕ, suc, ◌<◌, ◌≤◌, Bool, true, false, cond, List, [], ◌∷◌, ◌++◌, length, ◌⊎◌, inl, inr, refl, sym, ap, ◌∙◌, subst, arith, length-append, get_or, eqb, eq-eqb}
use Rattle.std.proofs.lemmas.List.{append-nil}
use Rattle.std.proofs.lemmas.Bool.{cases_lt, eqb-true}
use Rattle.std.proofs.lemmas.Str.{encode_ascii, inside_one, length-encode, len_utf8_bounds, encode_same}
use Rattle.std.specs.Str.{encode_utf8_all}
use Rattle.std.specs.Char.{encode_utf8}
use Rattle.doc_grammar.specs.Characters.{class, names, AllOf, IsName}
use Rattle.doc_grammar.specs.Machine.{common_prefix_length}
use Rattle.doc_grammar.specs.declared.characters.Class.{Class}

at_middle : (u v : List ℕ) (b : ℕ) → get_or (u ++ b ∷ v) (length u) 0 ≡ b
at_middle [] v b = refl
at_middle (a ∷ u) v b = at_middle u v b

-- an ASCII byte of a character is that character
pub ascii_of : (c : ℕ) (u v : List ℕ) (b : ℕ) → encode_utf8 c ≡ u ++ b ∷ v → b < 128 → c ≡ b
ascii_of c u v b e h =
    let m : get_or (encode_utf8 c) (length u) 0 ≡ b = ap (λ z. get_or z (length u) 0) e ∙ at_middle u v b in
    let n : length u < length (encode_utf8 c) = (let q = ap length e in omega (arith, q, length-append u (b ∷ v))) in
    inside_one c [] (encode_utf8 c) (length u) (sym (append-nil (encode_utf8 c))) n (subst (λ z. z < 128) (sym m) h) ∙ m

-- no byte of a character past ASCII is ASCII
pub high_byte : (c : ℕ) (u v : List ℕ) (b : ℕ) → encode_utf8 c ≡ u ++ b ∷ v → 128 ≤ c → 128 ≤ b
high_byte c u v b e h =
    elim (cases_lt b 128) [
      | inl lt ↦ let z = ascii_of c u v b e lt in absurd (omega (arith, z, lt, h))
      | inr le ↦ le
    ]

no_cons : (u v : List ℕ) (b : ℕ) → [] ≡ u ++ b ∷ v → ⊥
no_cons [] v b e = cc
no_cons (a ∷ u) v b e = cc

uncons : (bs : List ℕ) → 1 ≤ length bs → (b : ℕ) × (u : List ℕ) × (bs ≡ b ∷ u)
uncons [] h = absurd (omega (arith, h))
uncons (b ∷ u) h = (b, u, refl)

pub first_byte : (c : ℕ) → (b : ℕ) × (u : List ℕ) × (encode_utf8 c ≡ b ∷ u)
first_byte c = let e = length-encode c in let f = len_utf8_bounds c in uncons (encode_utf8 c) (omega (arith, e, f))

-- a character with the first byte of an ASCII one is that one
pub ascii_same : (c d b : ℕ) (u v : List ℕ) → c < 128 → encode_utf8 c ≡ b ∷ u → encode_utf8 d ≡ b ∷ v → d ≡ c
ascii_same c d b u v h e f =
    let z : b ≡ c = cc (encode_ascii c h, e) in
    ascii_of d [] v b f (subst (λ y. y < 128) (sym z) h) ∙ z

-- two parts of one list
pub split_at : (xs ys u v : List ℕ) (b : ℕ) → xs ++ ys ≡ u ++ b ∷ v → ((w : List ℕ) × (xs ≡ u ++ b ∷ w)) ⊎ ((w : List ℕ) × (u ≡ xs ++ w) × (ys ≡ w ++ b ∷ v))
split_at [] ys u v b e = inr (u, refl, e)
split_at (x ∷ xs) ys [] v b e = inl (xs, (let z : x ≡ b = cc in ap (λ y. y ∷ xs) z))
split_at (x ∷ xs) ys (a ∷ u) v b e =
    let z : x ≡ a = cc in
    let f : xs ++ ys ≡ u ++ b ∷ v = cc in
    elim (split_at xs ys u v b f) [
      | inl r ↦ inl (r.0, ap (λ y. x ∷ y) r.1 ∙ ap (λ y. y ∷ (u ++ b ∷ r.0)) z)
      | inr r ↦ inr (r.0, ap (λ y. a ∷ y) r.1 ∙ ap (λ y. y ∷ (xs ++ r.0)) (sym z), r.2)
    ]

-- an ASCII byte of a text is one of its characters
pub ascii_inside : (p : Class → Bool) (n u v : List ℕ) (d : ℕ) → d < 128 → AllOf p n → encode_utf8_all n ≡ u ++ d ∷ v → p (class d) ≡ true
ascii_inside p [] u v d h g e = absurd (no_cons u v d e)
ascii_inside p (c ∷ n) u v d h g e =
    elim (split_at (encode_utf8 c) (encode_utf8_all n) u v d e) [
      | inl r ↦ subst (λ y. p (class y) ≡ true) (ascii_of c u r.0 d r.1 h) g.0
      | inr r ↦ ascii_inside p n r.0 v d h g.1 r.2
    ]

pub all_named : (n : List ℕ) → IsName n → AllOf names n
all_named [] h = absurd h
all_named (b ∷ n) h = (ap names h.0, h.1)

-- a text whose bytes end in an ASCII one ends in that character
pub ends_ascii : (pc prefix : List ℕ) (a : ℕ) → a < 128 → encode_utf8_all pc ≡ prefix ++ a ∷ [] → (fc : List ℕ) × (pc ≡ fc ++ a ∷ []) × (encode_utf8_all fc ≡ prefix)
ends_ascii [] prefix a h e = absurd (no_cons prefix [] a e)
ends_ascii (c ∷ pc) prefix a h e =
    elim (split_at (encode_utf8 c) (encode_utf8_all pc) prefix [] a e) [
      | inl r ↦
          let z = ascii_of c prefix r.0 a r.1 h in
          let y = encode_ascii a h in
          let x : encode_utf8 c ≡ a ∷ [] = ap encode_utf8 z ∙ y in
          let w = one_prefix a prefix r.0 (sym x ∙ r.1) in
          let k = no_more c pc prefix a (ap (λ q. q ++ encode_utf8_all pc) (sym x) ∙ e ∙ ap (λ q. q ++ a ∷ []) w) in
          ([], ap (λ q. q ∷ pc) z ∙ ap (λ q. a ∷ q) k, sym w)
      | inr r ↦ let d = ends_ascii pc r.0 a h r.2 in (c ∷ d.0, ap (λ q. c ∷ q) d.1, ap (λ q. encode_utf8 c ++ q) d.2 ∙ sym r.1)
    ]
  where
    no_bytes : (pc : List ℕ) → encode_utf8_all pc ≡ [] → pc ≡ []
    no_bytes [] e = refl
    no_bytes (c ∷ pc) e = let f = first_byte c in absurd (cc (ap (λ q. q ++ encode_utf8_all pc) (sym f.2) ∙ e))

    one_prefix : (a : ℕ) (u v : List ℕ) → a ∷ [] ≡ u ++ a ∷ v → u ≡ []
    one_prefix a [] v e = refl
    one_prefix a (b ∷ u) v e = absurd (no_cons u v a (cc e))

    no_more : (c : ℕ) (pc prefix : List ℕ) (a : ℕ) → a ∷ encode_utf8_all pc ≡ a ∷ [] → pc ≡ []
    no_more c pc prefix a e = no_bytes pc (cc e)

-- ---- where the bytes of two characters part

abbrev pub common : List ℕ → List ℕ → List ℕ
common [] ys = []
common (a ∷ xs) [] = []
common (a ∷ xs) (b ∷ ys) = cond (eqb a b) (a ∷ common xs ys) []

pub length-common : (xs ys : List ℕ) → length (common xs ys) ≡ common_prefix_length xs ys
length-common [] ys = refl
length-common (a ∷ xs) [] = refl
length-common (a ∷ xs) (b ∷ ys) = pick (eqb a b) (length-common xs ys)
  where
    pick : (t : Bool) → length (common xs ys) ≡ common_prefix_length xs ys → length (cond t (a ∷ common xs ys) []) ≡ cond t (suc (common_prefix_length xs ys)) 0
    pick true h = ap suc h
    pick false h = refl

-- ys goes on after it, where xs does not; or xs begins with all of ys
abbrev pub Parts : List ℕ → List ℕ → List ℕ → Type 0
Parts f xs ys =
    ((b : ℕ) × (u : List ℕ) × (v : List ℕ) × (ys ≡ f ++ b ∷ u) × (xs ≡ f ++ v) × ((z : List ℕ) → xs ≡ f ++ b ∷ z → ⊥))
    ⊎ ((z : List ℕ) × (xs ≡ ys ++ z))

more_parts : (t : Bool) (a b : ℕ) (xs ys : List ℕ) → t ≡ eqb a b → Parts (common xs ys) xs ys → Parts (cond t (a ∷ common xs ys) []) (a ∷ xs) (b ∷ ys)
more_parts false a b xs ys e h = inl (b, ys, a ∷ xs, refl, refl, λ z f. let g : a ≡ b = cc in let k = eq-eqb a b g in cc)
more_parts true a b xs ys e (inl (c, u, v, p, q, r)) =
    let g = eqb-true a b (sym e) in
    inl (c, u, v, ap (λ z. b ∷ z) p ∙ ap (λ z. z ∷ (common xs ys ++ c ∷ u)) (sym g), ap (λ z. a ∷ z) q, λ z f. r z (cc f))
more_parts true a b xs ys e (inr (z, p)) = let g = eqb-true a b (sym e) in inr (z, ap (λ y. a ∷ y) p ∙ ap (λ y. y ∷ (ys ++ z)) g)

parts : (xs ys : List ℕ) → Parts (common xs ys) xs ys
parts [] [] = inr ([], refl)
parts [] (b ∷ ys) = inl (b, ys, [], refl, refl, λ z f. cc f)
parts (a ∷ xs) [] = inr (a ∷ xs, refl)
parts (a ∷ xs) (b ∷ ys) = more_parts (eqb a b) a b xs ys refl (parts xs ys)

-- what two characters' bytes begin with alike, and how that of c goes on as no other that t's would
pub record Apart (t c n : ℕ) : Type 0 where
  pub prefix : List ℕ
  pub next : ℕ
  pub after : List ℕ
  pub other : List ℕ
  pub size : length prefix ≡ n
  pub is : encode_utf8 c ≡ prefix ++ next ∷ after
  pub along : encode_utf8 t ≡ prefix ++ other
  pub parted : (z : List ℕ) → encode_utf8 t ≡ prefix ++ next ∷ z → ⊥

pub apart : (t c : ℕ) → eqb c t ≡ false → Apart t c (common_prefix_length (encode_utf8 t) (encode_utf8 c))
apart t c e =
    elim (parts (encode_utf8 t) (encode_utf8 c)) [
      | inl p ↦ record {
        prefix = common (encode_utf8 t) (encode_utf8 c);
        next = p.0;
        after = p.1;
        other = p.2;
        size = length-common (encode_utf8 t) (encode_utf8 c);
        is = p.3;
        along = p.4;
        parted = p.5;
      }
      | inr p ↦ let z = (encode_same t c [] p.0 (append-nil (encode_utf8 t) ∙ p.1)).0 in let y = eq-eqb c t (sym z) in absurd (cc (y, e))
    ]
