-- The Components that wait stand in the order of the whole.
use Rattle.std.proofs.Common.{◌≡◌, ◌∙◌, ℕ, suc, ◌+◌, ◌-◌, ◌<◌, ◌≤◌, nat_le, false, if◌then◌else◌, List, [], ◌∷◌, ◌++◌, map, refl, sym, ap, subst, arith}
use Rattle.std.proofs.lemmas.Bool.Decides.{nat_tests}
use Rattle.ssd_tree.specs.declared.tree.NestedComponent.{NestedComponent}
use Rattle.nested_documents.specs.declared.components.Waiting.{Waiting}
use Rattle.nested_documents.specs.declared.seam.Seam.{Seam}
use Rattle.ssd_tree.specs.Lists.{AreBetween}
use Rattle.nested_documents.specs.Nest.{moved_waiting, waiting_from}

lower : (low mid high : ℕ) (xs : List ℕ) → low ≤ mid → AreBetween mid high xs → AreBetween low high xs
lower low mid high [] le b = tt
lower low mid high (x ∷ xs) le b = let h = b.0 in (omega (arith, h), b.1)

joined : (low mid high : ℕ) (xs ys : List ℕ) → low ≤ mid → mid ≤ high → AreBetween low mid xs → AreBetween mid high ys → AreBetween low high (xs ++ ys)
joined low mid high [] ys le _ a b = lower low mid high ys le b
joined low mid high (x ∷ xs) ys le more a b =
    let h = a.1.0 in (a.0, (omega (arith, h), joined (suc x) mid high xs ys (omega (arith, h)) more a.1.1 b))

inner : (k low high : ℕ) (xs : List ℕ) → AreBetween low high xs → AreBetween (low + k) (high + k) (map (λ (x : ℕ). x + k) xs)
inner k low high [] a = tt
inner k low high (x ∷ xs) a =
    let e : suc x + k ≡ suc (x + k) = omega arith in
    let at = a.0 in
    let below = a.1.0 in (
      omega (arith, at),
      (omega (arith, below), subst (λ (m : ℕ). AreBetween m (high + k) (map (λ (x : ℕ). x + k) xs)) e (inner k (suc x) high xs a.1.1)),
    )

abbrev moved : ℕ → ℕ → ℕ → ℕ
moved k n x = if nat_le x k then x else (x - 1) + n

moved_after : (k n x : ℕ) → k < x → moved k n x ≡ (x - 1) + n
moved_after k n x less = let e : nat_le x k ≡ false = grind (arith, nat_tests) in rw e refl

outer : (k n low high : ℕ) (xs : List ℕ) → k < low → AreBetween low high xs → AreBetween ((low - 1) + n) ((high - 1) + n) (map (moved k n) xs)
outer k n low high [] less a = tt
outer k n low high (x ∷ xs) less a =
    let at = a.0 in
    let below = a.1.0 in
    let here : moved k n x ≡ (x - 1) + n = moved_after k n x (omega (arith, at)) in
    let e : (suc x - 1) + n ≡ suc (moved k n x) = rw here (omega (arith, at)) in (
      rw here (omega (arith, at)),
      (rw here (omega (arith, at, below)), subst (λ (m : ℕ). AreBetween m ((high - 1) + n) (map (moved k n) xs)) e (outer k n (suc x) high xs (omega (arith, at)) a.1.1)),
    )

places_inner : (before document level : ℕ) (ns : List NestedComponent) → map (λ (w : Waiting). w.component) (map (waiting_from before document level) ns) ≡ map (λ (x : ℕ). x + before) (map (λ (n : NestedComponent). n.component) ns)
places_inner before document level [] = refl
places_inner before document level (n ∷ ns) = ap (λ (xs : List ℕ). (n.component + before) ∷ xs) (places_inner before document level ns)

places_outer : (s : Seam) (ws : List Waiting) → map (λ (w : Waiting). w.component) (map (moved_waiting s) ws) ≡ map (moved s.component s.components) (map (λ (w : Waiting). w.component) ws)
places_outer s [] = refl
places_outer s (w ∷ ws) = ap (λ (xs : List ℕ). moved s.component s.components w.component ∷ xs) (places_outer s ws)

places_append : (vs ws : List Waiting) → map (λ (w : Waiting). w.component) (vs ++ ws) ≡ map (λ (w : Waiting). w.component) vs ++ map (λ (w : Waiting). w.component) ws
places_append [] ws = refl
places_append (v ∷ vs) ws = ap (λ (xs : List ℕ). v.component ∷ xs) (places_append vs ws)

pub places_top : (ns : List NestedComponent) → map (λ (w : Waiting). w.component) (map (waiting_from 0 0 1) ns) ≡ map (λ (n : NestedComponent). n.component) ns
places_top ns = places_inner 0 0 1 ns ∙ from_none (map (λ (n : NestedComponent). n.component) ns)
  where
    from_none : (xs : List ℕ) → map (λ (x : ℕ). x + 0) xs ≡ xs
    from_none [] = refl
    from_none (x ∷ xs) = let e : x + 0 ≡ x = omega arith in ap (λ (y : ℕ). y ∷ map (λ (x : ℕ). x + 0) xs) e ∙ ap (λ (ys : List ℕ). x ∷ ys) (from_none xs)

-- the inner document's stand in place of the first that waited, and the others after them
pub placed_more : (s : Seam) (document level count : ℕ) (ns : List NestedComponent) (ws all : List Waiting) → s.component < count → AreBetween 0 s.components (map (λ (n : NestedComponent). n.component) ns)
    → AreBetween (suc s.component) count (map (λ (w : Waiting). w.component) ws) → all ≡ map (waiting_from s.component document level) ns ++ map (moved_waiting s) ws
    → AreBetween 0 ((count - 1) + s.components) (map (λ (w : Waiting). w.component) all)
placed_more s document level count ns ws all less inside rest e =
    let k = s.component in
    let n = s.components in
    let xs = map (λ (n : NestedComponent). n.component) ns in
    let ys = map (λ (w : Waiting). w.component) ws in
    let f : 0 + k ≡ k = omega arith in
    let g : (suc k - 1) + n ≡ n + k = omega arith in
    let prefix : AreBetween k (n + k) (map (λ (x : ℕ). x + k) xs) = subst (λ (m : ℕ). AreBetween m (n + k) (map (λ (x : ℕ). x + k) xs)) f (inner k 0 n xs inside) in
    let back : AreBetween (n + k) ((count - 1) + n) (map (moved k n) ys) = subst (λ (m : ℕ). AreBetween m ((count - 1) + n) (map (moved k n) ys)) g (outer k n (suc k) count ys (omega arith) rest) in
    let whole : AreBetween 0 ((count - 1) + n) (map (λ (x : ℕ). x + k) xs ++ map (moved k n) ys) = lower 0 k ((count - 1) + n) (map (λ (x : ℕ). x + k) xs ++ map (moved k n) ys) (omega arith) (joined k (n + k) ((count - 1) + n) (map (λ (x : ℕ). x + k) xs) (map (moved k n) ys) (omega arith) (omega (arith, less)) prefix back) in
    let places : map (λ (w : Waiting). w.component) all ≡ map (λ (x : ℕ). x + k) xs ++ map (moved k n) ys =
    ap (map (λ (w : Waiting). w.component)) e ∙ (places_append (map (waiting_from s.component document level) ns) (map (moved_waiting s) ws)
    ∙ (ap (λ (zs : List ℕ). zs ++ map (λ (w : Waiting). w.component) (map (moved_waiting s) ws)) (places_inner s.component document level ns) ∙ ap (λ (zs : List ℕ). map (λ (x : ℕ). x + k) xs ++ zs) (places_outer s ws))) in
    subst (λ (zs : List ℕ). AreBetween 0 ((count - 1) + n) zs) (sym places) whole
