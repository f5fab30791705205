-- One list of values, and one number of unresolved names.
use Rattle.std.proofs.Common.{◌≡◌, ◌+◌, ◌⊎◌, ◌<◌, ◌≤◌, ℕ, ℤ, suc, List, [], ◌∷◌, length, Option, Some, refl, sym, ap, ◌∙◌, subst, inl, inr, arith}
use Rattle.std.specs.List.{slice_get, AllZip}
use Rattle.std.proofs.lemmas.Option.{same_Some}
use Rattle.value_types.specs.declared.shape.Shape.{Shape}
use Rattle.value_types.specs.declared.shape.Variable.{Variable}
use Rattle.system_model.specs.declared.bound.Bound.{Bound}
use Rattle.system_model.specs.declared.bound.BoundValue.{BoundValue}
use Rattle.parameter_values.specs.declared.change.Change.{Change}
use Rattle.parameter_values.specs.declared.set.Parameter.{Parameter}
use Rattle.parameter_values.specs.Values.{Gives}
use Rattle.ssd_tree.specs.declared.tree.Binding.{Binding}
use Rattle.ssd_tree.specs.declared.tree.Owner.{Owner}
use Rattle.ssd_tree.specs.declared.tree.Owner.TheVariants as owner
use Rattle.ssd_tree.specs.declared.tree.ComponentPart.{ComponentPart}
use Rattle.ssd_tree.specs.declared.tree.SystemTree.{SystemTree}
use Rattle.doc_tables.proofs.CallerLemmas.{no_longer}
use Rattle.ssd_tree.proofs.CallerLemmas.{one_listing}
use Rattle.parameter_targets.specs.declared.target.Target.{Target}
use Rattle.parameter_targets.specs.Scopes.{IsDepth, IsLevel}
use Rattle.parameter_targets.proofs.CallerLemmas.{contains_at, place_of, depth_once}
use Rattle.parameter_binding.specs.declared.sets.BindingSets.{BindingSets}
use Rattle.parameter_binding.specs.Binds.{AreBound, AreBoundOf, Beats, Binds, HasLevel, IsBoundAt, IsCandidate, IsLater, IsReached, ListsUnreached, ReachesTarget, Triple, Wins, target_at}
use Rattle.parameter_binding.proofs.OnceLemmas.{candidate_once, gives_once, target_once}

-- ---- one winner

level_once : (t : SystemTree) (o : Owner) (m n : ℕ) → IsLevel t o m → IsLevel t o n → m ≡ n
level_once t (owner.System s) m n a b = depth_once t s m n a b
level_once t (owner.Component i) m n a b =
    let same : a.0 ≡ b.0 = same_Some a.0 b.0 (sym a.1 ∙ b.1) in
    let depths : a.2.0 ≡ b.2.0 = depth_once t b.0.system a.2.0 b.2.0 (subst (λ (c : ComponentPart). IsDepth t c.system a.2.0) same a.2.1) b.2.1 in
    a.2.2 ∙ ap (λ z. z + 1) depths ∙ sym b.2.2

binding_level_once : (t : SystemTree) (b m n : ℕ) → HasLevel t b m → HasLevel t b n → m ≡ n
binding_level_once t b m n h k =
    let same : h.0 ≡ k.0 = same_Some h.0 k.0 (sym h.1 ∙ k.1) in
    level_once t k.0.owner m n (subst (λ (z : Binding). IsLevel t z.owner m) same h.2) k.2

not_both_later : (c d : Triple) → IsLater c d → IsLater d c → ⊥
not_both_later c d (inl h) (inl k) = omega (arith, h, k)
not_both_later c d (inl h) (inr k) = omega (arith, h, k.0)
not_both_later c d (inr h) (inl k) = omega (arith, h.0, k)
not_both_later c d (inr h) (inr k) = by h.1 k.1
  where
    by : (d.entry < c.entry) ⊎ ((d.entry ≡ c.entry) × (d.parameter < c.parameter)) → (c.entry < d.entry) ⊎ ((c.entry ≡ d.entry) × (c.parameter < d.parameter)) → ⊥
    by (inl x) (inl y) = omega (arith, x, y)
    by (inl x) (inr y) = omega (arith, x, y.0)
    by (inr x) (inl y) = omega (arith, x.0, y)
    by (inr x) (inr y) = omega (arith, x.1, y.1)

not_both_beat : (t : SystemTree) (c d : Triple) → Beats t c d → Beats t d c → ⊥
not_both_beat t c d x y = by x.higher y.higher
  where
    mine : x.own ≡ y.other
    mine = binding_level_once t c.binding x.own y.other x.own_is y.other_is

    yours : x.other ≡ y.own
    yours = binding_level_once t d.binding x.other y.own x.other_is y.own_is

    by : (x.own < x.other) ⊎ ((x.own ≡ x.other) × IsLater c d) → (y.own < y.other) ⊎ ((y.own ≡ y.other) × IsLater d c) → ⊥
    by (inl h) (inl k) = omega (arith, h, k, mine, yours)
    by (inl h) (inr k) = omega (arith, h, k.0, mine, yours)
    by (inr h) (inl k) = omega (arith, h.0, k, mine, yours)
    by (inr h) (inr k) = not_both_later c d h.1 k.1

one_winner : (t : SystemTree) (shapes : List Shape) (sets : List BindingSets) (target : Target) (c d : Triple) → Wins t shapes sets target c → Wins t shapes sets target d → c ≡ d
one_winner t shapes sets target c d v w = by (v.beats d w.reaches) (w.beats c v.reaches)
  where
    by : (d ≡ c) ⊎ Beats t c d → (c ≡ d) ⊎ Beats t d c → c ≡ d
    by (inl e) k = sym e
    by (inr h) (inl e) = e
    by (inr h) (inr k) = absurd (not_both_beat t c d h k)

one_value : (t : SystemTree) (shapes : List Shape) (sets : List BindingSets) (target : Target) (x y : ℤ) → Binds t shapes sets target x → Binds t shapes sets target y → x ≡ y
one_value t shapes sets target x y a b =
    let same : a.0 ≡ b.0 = one_winner t shapes sets target a.0 b.0 a.1.0 b.1.0 in
    by a.0 b.0 same a.1.0.reaches b.1.0.reaches a.1.1 b.1.1
  where
    by : (c d : Triple) → c ≡ d → (r : ReachesTarget t shapes sets target c) (s : ReachesTarget t shapes sets target d) → Gives r.change r.parameter.value x → Gives s.change s.parameter.value y → x ≡ y
    by c d e r s g h =
        let one = candidate_once t sets d r.binding s.binding r.parameter s.parameter r.name s.name r.change s.change (subst (λ z. IsCandidate t sets z r.binding r.parameter r.name r.change) e r.is) s.is in
        gives_once s.change s.parameter.value x y
        (subst (λ (p : Parameter). Gives s.change p.value x) one.parameter (subst (λ (z : Option Change). Gives z r.parameter.value x) one.change g)) h

-- ---- one list for a component

same_list : {X : Type 0} (xs ys : List X) → length xs ≡ length ys → ((i : ℕ) (x y : X) → slice_get xs i ≡ Some x → slice_get ys i ≡ Some y → x ≡ y) → xs ≡ ys
same_list [] [] len each = refl
same_list [] (y ∷ ys) len each = absurd (let e : 0 ≡ suc (length ys) = len in omega (arith, e))
same_list (x ∷ xs) [] len each = absurd (let e : suc (length xs) ≡ 0 = len in omega (arith, e))
same_list {X} (x ∷ xs) (y ∷ ys) len each =
    let more : length xs ≡ length ys = (let e : suc (length xs) ≡ suc (length ys) = len in omega (arith, e)) in
    let head : x ≡ y = each 0 x y refl refl in
    let tail : xs ≡ ys = same_list xs ys more (λ i a b at_a at_b. each (suc i) a b at_a at_b) in
    ap (λ z. z ∷ xs) head ∙ ap (λ zs. y ∷ zs) tail

one_bound_value : (a b : BoundValue) → a.kind ≡ b.kind → a.reference ≡ b.reference → a.value ≡ b.value → a ≡ b
one_bound_value a b k r v =
    ap (λ z. record { kind = z; reference = a.reference; value = a.value }) k
    ∙ ap (λ z. record { kind = b.kind; reference = z; value = a.value }) r
    ∙ ap (λ z. record { kind = b.kind; reference = b.reference; value = z }) v

one_at : (t : SystemTree) (shapes : List Shape) (sets : List BindingSets) (i v : ℕ) (a b : BoundValue) → IsBoundAt t shapes sets i v a → IsBoundAt t shapes sets i v b → a ≡ b
one_at t shapes sets i v a b x y =
    let same : x.variable ≡ y.variable = target_once shapes (target_at i v) x.variable y.variable x.is y.is in
    one_bound_value a b
    (same_Some a.kind b.kind (sym x.kind ∙ ap (λ (w : Variable). w.kind) same ∙ y.kind))
    (sym x.reference ∙ ap (λ (w : Variable). w.reference) same ∙ y.reference)
    (one_value t shapes sets (target_at i v) a.value b.value x.binds y.binds)

one_each : (t : SystemTree) (shapes : List Shape) (sets : List BindingSets) (i : ℕ) (places : List ℕ) (xs ys : List BoundValue) → AllZip (IsBoundAt t shapes sets i) places xs → AllZip (IsBoundAt t shapes sets i) places ys → xs ≡ ys
one_each t shapes sets i [] [] [] p q = refl
one_each t shapes sets i [] (x ∷ xs) ys p q = absurd p
one_each t shapes sets i [] [] (y ∷ ys) p q = absurd q
one_each t shapes sets i (v ∷ vs) [] ys p q = absurd p
one_each t shapes sets i (v ∷ vs) (x ∷ xs) [] p q = absurd q
one_each t shapes sets i (v ∷ vs) (x ∷ xs) (y ∷ ys) p q =
    ap (λ z. z ∷ xs) (one_at t shapes sets i v x y p.0 q.0) ∙ ap (λ zs. y ∷ zs) (one_each t shapes sets i vs xs ys p.1 q.1)

one_of : (t : SystemTree) (shapes : List Shape) (sets : List BindingSets) (i : ℕ) (xs ys : List BoundValue) → AreBoundOf t shapes sets i xs → AreBoundOf t shapes sets i ys → xs ≡ ys
one_of t shapes sets i xs ys a b =
    let same : a.places ≡ b.places = one_listing (IsReached t shapes sets i) a.places b.places a.listed b.listed in
    one_each t shapes sets i b.places xs ys (subst (λ places. AllZip (IsBoundAt t shapes sets i) places xs) same a.each) b.each

-- ---- one number of unresolved names

one_count : (t : SystemTree) (shapes : List Shape) (sets : List BindingSets) (xs ys : List Triple) → ListsUnreached t shapes sets xs → ListsUnreached t shapes sets ys → length xs ≤ length ys
one_count t shapes sets xs ys a b =
    no_longer xs ys a.once (λ c j e. place_of ys c ((b.each c).1 ((a.each c).0 (contains_at xs j c e))))

-- ---- the law

one_of_components : (t : SystemTree) (shapes : List Shape) (sets : List BindingSets) (a b : Bound) → AreBound t shapes sets a → AreBound t shapes sets b → a.components ≡ b.components
one_of_components t shapes sets a b x y =
    same_list a.components b.components (x.len ∙ sym y.len)
    (λ i vs ws p q. one_of t shapes sets i vs ws (x.values i vs p) (y.values i ws q))

pub one_bound : (t : SystemTree) (shapes : List Shape) (sets : List BindingSets) (a b : Bound) → AreBound t shapes sets a → AreBound t shapes sets b → a ≡ b
one_bound t shapes sets a b x y =
    let low : length x.all ≤ length y.all = one_count t shapes sets x.all y.all x.lists y.lists in
    let high : length y.all ≤ length x.all = one_count t shapes sets y.all x.all y.lists x.lists in
    let count : length x.all ≡ length y.all = omega (arith, low, high) in
    ap (λ z. record { components = z; unreached = a.unreached }) (one_of_components t shapes sets a b x y)
    ∙ ap (λ z. record { components = b.components; unreached = z }) (x.unreached ∙ count ∙ sym y.unreached)
