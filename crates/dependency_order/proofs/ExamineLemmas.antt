-- What examining a node leaves, where it waits and where it is placed.
use Rattle.std.proofs.Common.{◌≡◌, ◌⊎◌, inl, inr, ℕ, ◌+◌, ◌<◌, ◌≤◌, Bool, true, false, List, [], ◌∷◌, ◌++◌, length, take, get_or, set, sym, ap, ◌∙◌, subst, arith, below_more}
use Rattle.std.specs.List.{Contains}
use Rattle.std.proofs.lemmas.List.{take_more}
use Rattle.std.proofs.lemmas.List.Elements.{Contains-push_cases}
use Rattle.dependency_order.specs.Graph.{Needs, IsClosed}
use Rattle.dependency_order.specs.Sorting.{IsSorting, IsHeld, IsFurther}
use Rattle.dependency_order.specs.Paths.{IsMarked}
use Rattle.dependency_order.proofs.SortLemmas.{sorting_waits, further_waits, held_waits, sorting_places, further_places}

-- ---- it waits

need_within : (g : List (List ℕ)) (waiting : List (List ℕ)) (need node : ℕ) → length waiting ≡ length g → IsClosed g → Needs g node need → need < length waiting
need_within g waiting need node lists closed needs = let l = closed.below node need needs in omega (arith, l, lists)

pub waits_for : (g : List (List ℕ)) (order : List ℕ) (placed : List Bool) (passed : List ℕ) (waiting more : List (List ℕ)) (need node : ℕ) → IsSorting g order placed passed waiting → IsClosed g → Needs g node need → node < length g
    → more ≡ set waiting need (get_or waiting need [] ++ node ∷ []) → IsSorting g order placed passed more
waits_for g order placed passed waiting more need node s closed needs inside is =
    subst (IsSorting g order placed passed) (sym is) (sorting_waits g order placed passed waiting need node s (need_within g waiting need node s.lists closed needs) inside)

pub further_for : (g : List (List ℕ)) (order order' : List ℕ) (placed placed' : List Bool) (passed : List ℕ) (waiting waiting' more : List (List ℕ)) (need node : ℕ) → order' ≡ order → placed' ≡ placed → waiting' ≡ waiting
    → IsSorting g order' placed' passed waiting' → IsClosed g → Needs g node need → more ≡ set waiting' need (get_or waiting' need [] ++ node ∷ []) → IsFurther g order order' placed placed' waiting more
further_for g order order' placed placed' passed waiting waiting' more need node a b d s closed needs is =
    subst (λ z. IsFurther g z order' placed placed' waiting more) a
    (subst (λ z. IsFurther g order' order' z placed' waiting more) b
    (subst (λ z. IsFurther g order' order' placed' placed' z more) d
    (subst (λ z. IsFurther g order' order' placed' placed' waiting' z) (sym is)
    (further_waits g order' placed' waiting' need node (need_within g waiting' need node s.lists closed needs)))))

pub held_for : (g : List (List ℕ)) (order : List ℕ) (placed placed' : List Bool) (passed : List ℕ) (waiting more : List (List ℕ)) (need node at : ℕ) → placed' ≡ placed → IsSorting g order placed' passed waiting → IsClosed g → Needs g node need
    → (IsMarked placed need → ⊥) → more ≡ set waiting need (get_or waiting need [] ++ node ∷ []) → IsHeld g order placed' more at node
held_for g order placed placed' passed waiting more need node at b s closed needs free is =
    subst (λ z. IsHeld g order placed' z at node) (sym is)
    (held_waits g order placed' passed waiting need node at s (need_within g waiting need node s.lists closed needs) needs (λ m. free (subst (λ z. IsMarked z need) b m)))

-- ---- it is placed

pub places_it : (g : List (List ℕ)) (order more : List ℕ) (placed placed' : List Bool) (passed : List ℕ) (waiting : List (List ℕ)) (node : ℕ) → placed' ≡ placed → IsSorting g order placed' passed waiting → node < length g
    → get_or placed node false ≡ false → ((q : ℕ) → Needs g node q → IsMarked placed q) → more ≡ order ++ node ∷ [] → IsSorting g more (set placed' node true) passed waiting
places_it g order more placed placed' passed waiting node b s inside free all is =
    subst (λ z. IsSorting g z (set placed' node true) passed waiting) (sym is)
    (sorting_places g order placed' passed waiting node s inside (ap (λ z. get_or z node false) b ∙ free) (λ q r. subst (λ z. IsMarked z q) (sym b) (all q r)))

pub further_it : (g : List (List ℕ)) (order order' more : List ℕ) (placed placed' : List Bool) (passed : List ℕ) (waiting waiting' : List (List ℕ)) (node : ℕ) → order' ≡ order → placed' ≡ placed → waiting' ≡ waiting
    → IsSorting g order' placed' passed waiting' → node < length g → more ≡ order' ++ node ∷ [] → IsFurther g order more placed (set placed' node true) waiting waiting'
further_it g order order' more placed placed' passed waiting waiting' node a b d s inside is =
    subst (λ z. IsFurther g z more placed (set placed' node true) waiting waiting') a
    (subst (λ z. IsFurther g order' more z (set placed' node true) waiting waiting') b
    (subst (λ z. IsFurther g order' more placed' (set placed' node true) z waiting') d
    (subst (λ z. IsFurther g order' z placed' (set placed' node true) waiting' waiting') (sym is)
    (further_places g order' placed' waiting' node (let m = s.marks in omega (arith, m))))))

-- ---- one after another

pub held_more : (g : List (List ℕ)) (o o' o'' : List ℕ) (m' m'' : List Bool) (w' w'' : List (List ℕ)) (nodes : List ℕ) (i : ℕ) → i < length nodes → length o ≤ length o' → IsFurther g o' o'' m' m'' w' w''
    → ((at p : ℕ) → at ≤ length o → Contains (take i nodes) p → IsHeld g o' m' w' at p) → ((at : ℕ) → at ≤ length o' → IsHeld g o'' m'' w'' at (get_or nodes i 0))
    → (at p : ℕ) → at ≤ length o → Contains (take (i + 1) nodes) p → IsHeld g o'' m'' w'' at p
held_more g o o' o'' m' m'' w' w'' nodes i within longer further before here at p l h = by (Contains-push_cases (take i nodes) (get_or nodes i 0) p (subst (λ z. Contains z p) (take_more nodes i 0 within) h))
  where
    by : Contains (take i nodes) p ⊎ (get_or nodes i 0 ≡ p) → IsHeld g o'' m'' w'' at p
    by (inl c) = further.held at p (omega arith) (before at p l c)
    by (inr e) = subst (λ z. IsHeld g o'' m'' w'' at z) e (here at (omega arith))

pub held_next : (g : List (List ℕ)) (o o' : List ℕ) (m m' : List Bool) (w w' : List (List ℕ)) (node : ℕ) → IsFurther g o o' m m' w w' → ((p : ℕ) → p < node → IsHeld g o m w 0 p)
    → ((at : ℕ) → at ≤ length o → IsHeld g o' m' w' at node) → (p : ℕ) → p < node + 1 → IsHeld g o' m' w' 0 p
held_next g o o' m m' w w' node further before here = below_more (λ p. IsHeld g o' m' w' 0 p) node (λ p l. further.held 0 p (omega arith) (before p l)) (here 0 (omega arith))
