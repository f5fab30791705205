-- Names and attributes, where one character or attribute more follows.
use Rattle.std.proofs.Common.{◌≡◌, ◌≢◌, ℕ, ◌+◌, ◌<◌, ◌≤◌, Bool, true, false, ◌==◌, ◌||◌, if◌then◌else◌, List, [], ◌∷◌, ◌++◌, length, take, drop, map, get_or, refl, sym, ap, ◌∙◌, arith}
use Rattle.std.proofs.lemmas.List.{map-append, take_more, drop_all, drop-append-le, length-take-le}
use Rattle.std.proofs.lemmas.Bool.{eqb-true}
use Rattle.doc_grammar.specs.Grammar.{Pair}
use Rattle.doc_events.specs.declared.attributes.Attribute.{Attribute}
use Rattle.doc_events.specs.Pairs.{pair_of}
use Rattle.doc_grammar.specs.Nodes.{is_prefixed, local_name, is_kept, kept_if, kept}

prefixed_colon : (xs : List ℕ) → is_prefixed (xs ++ 58 ∷ []) ≡ true
prefixed_colon [] = refl
prefixed_colon (x ∷ xs) = ap (λ b. (x == 58) || b) (prefixed_colon xs) ∙ or_true (x == 58)
  where
    or_true : (b : Bool) → b || true ≡ true
    or_true true = refl
    or_true false = refl

prefixed_other : (xs : List ℕ) (c : ℕ) → (c == 58) ≡ false → is_prefixed (xs ++ c ∷ []) ≡ is_prefixed xs
prefixed_other [] c f = ap (λ b. b || false) f
prefixed_other (x ∷ xs) c f = ap (λ b. (x == 58) || b) (prefixed_other xs c f)

local_colon : (xs : List ℕ) → local_name (xs ++ 58 ∷ []) ≡ []
local_colon [] = refl
local_colon (x ∷ xs) = ap (λ b. if b then local_name (xs ++ 58 ∷ []) else x ∷ (xs ++ 58 ∷ [])) (prefixed_colon (x ∷ xs)) ∙ local_colon xs

local_other : (xs : List ℕ) (c : ℕ) → (c == 58) ≡ false → local_name (xs ++ c ∷ []) ≡ local_name xs ++ c ∷ []
local_other [] c f = ap (λ b. if b || false then [] else c ∷ []) f
local_other (x ∷ xs) c f =
    ap (λ b. if b then local_name (xs ++ c ∷ []) else x ∷ (xs ++ c ∷ [])) (prefixed_other (x ∷ xs) c f)
    ∙ ap (λ z. if is_prefixed (x ∷ xs) then z else x ∷ (xs ++ c ∷ [])) (local_other xs c f) ∙ out (is_prefixed (x ∷ xs))
  where
    out : (b : Bool) → (if b then local_name xs ++ c ∷ [] else x ∷ (xs ++ c ∷ [])) ≡ (if b then local_name xs else x ∷ xs) ++ c ∷ []
    out true = refl
    out false = refl

not_colon : (c : ℕ) → c ≢ 58 → (c == 58) ≡ false
not_colon c h = at (c == 58) refl
  where
    at : (b : Bool) → (c == 58) ≡ b → b ≡ false
    at true f = absurd (h (eqb-true c 58 f))
    at false f = refl

pub colon_more : (name : List ℕ) (i : ℕ) → i < length name → get_or name i 0 ≡ 58 → local_name (take (i + 1) name) ≡ drop (i + 1) (take (i + 1) name)
colon_more name i h e =
    ap local_name (take_more name i 0 h ∙ ap (λ z. take i name ++ z ∷ []) e) ∙ local_colon (take i name) ∙ sym (drop_all (i + 1) (take (i + 1) name) (omega (arith, length-take-le (i + 1) name (omega arith))))

pub other_more : (name : List ℕ) (i from : ℕ) → i < length name → get_or name i 0 ≢ 58 → from ≤ i → local_name (take i name) ≡ drop from (take i name) → local_name (take (i + 1) name) ≡ drop from (take (i + 1) name)
other_more name i from h e w f =
    let c = get_or name i 0 in
    ap local_name (take_more name i 0 h) ∙ local_other (take i name) c (not_colon c e) ∙ ap (λ z. z ++ c ∷ []) f
    ∙ sym (drop-append-le from (take i name) (c ∷ []) (omega (arith, length-take-le i name (omega arith)))) ∙ sym (ap (drop from) (take_more name i 0 h))

kept_if_append : (b : Bool) (p : Pair) (xs ys : List Pair) → kept_if b p (xs ++ ys) ≡ kept_if b p xs ++ ys
kept_if_append true p xs ys = refl
kept_if_append false p xs ys = refl

pub kept_snoc : (ps : List Pair) (p : Pair) → kept (ps ++ p ∷ []) ≡ kept ps ++ kept_if (is_kept p.0) p []
kept_snoc [] p = refl
kept_snoc (q ∷ ps) p = ap (kept_if (is_kept q.0) q) (kept_snoc ps p) ∙ kept_if_append (is_kept q.0) q (kept ps) (kept_if (is_kept p.0) p [])

pub kept_more : (all : List Attribute) (i : ℕ) (attr : Attribute) (old : List Pair) → i < length all → attr ≡ get_or all i attr → old ≡ kept (map pair_of (take i all)) → old ++ kept_if (is_kept attr.name.items) (pair_of attr) [] ≡ kept (map pair_of (take (i + 1) all))
kept_more all i attr old h e f =
    ap (λ z. z ++ kept_if (is_kept attr.name.items) (pair_of attr) []) f ∙ sym (kept_snoc (map pair_of (take i all)) (pair_of attr))
    ∙ ap kept (sym (ap (map pair_of) (take_more all i attr h ∙ ap (λ z. take i all ++ z ∷ []) (sym e)) ∙ map-append pair_of (take i all) (attr ∷ [])))
