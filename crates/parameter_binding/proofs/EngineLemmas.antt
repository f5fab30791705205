-- The values of a component are values for its parameters, each once.
use Rattle.std.proofs.Common.{◌≡◌, ◌<◌, ℕ, zero, suc, Bool, true, false, List, [], ◌∷◌, length, map, get_or, Some, None, refl, sym, ap, ◌∙◌, subst, inl, inr, arith, All, nat_eq, Result, Ok, Err}
use Rattle.std.specs.List.{slice_get, AllZip, IsDistinct}
use Rattle.std.specs.Option.{option_map}
use Rattle.std.specs.Result.{IfOk}
use Rattle.std.proofs.lemmas.Bool.{eq-eqb, ne_eqb}
use Rattle.std.proofs.lemmas.List.{length-map}
use Rattle.std.proofs.lemmas.List.Elements.{All-contains}
use Rattle.std.proofs.lemmas.Map.Keys.{IsDistinct-from_apart, apart_from_distinct}
use Rattle.std.proofs.lemmas.Option.{same_Some, get_or_from_slice_get, slice_get-map, slice_get_within}
use Rattle.value_types.specs.Shape.{is_clock, is_parameter, variable_at}
use Rattle.value_types.specs.declared.shape.Causality.{Causality}
use Rattle.value_types.specs.declared.shape.Causality.TheVariants as causality
use Rattle.value_types.specs.declared.shape.IntervalVariability.{IntervalVariability}
use Rattle.value_types.specs.declared.shape.IntervalVariability.TheVariants.{Constant, Fixed, Tunable, Changing, Countdown, Triggered}
use Rattle.value_types.specs.declared.shape.Shape.{Shape}
use Rattle.value_types.specs.declared.shape.Variable.{Variable}
use Rattle.doc_tree.specs.declared.refusal.Refusal.{Refusal}
use Rattle.system_model.specs.declared.bound.Bound.{Bound}
use Rattle.system_model.specs.declared.bound.BoundValue.{BoundValue}
use Rattle.system_model.specs.Bounds.{AreParameterValues, IsParameterValue}
use Rattle.system_model.specs.Shapes.{IsSoundClock, IsSoundShape, MayTick}
use Rattle.system_model.proofs.CallerLemmas.{all_by_place, filtered_partner, found_under}
use Rattle.ssd_tree.specs.declared.tree.SystemTree.{SystemTree}
use Rattle.parameter_targets.proofs.CallerLemmas.{contains_at, element_at}
use Rattle.parameter_binding.specs.declared.gathered.Gathered.{Gathered}
use Rattle.parameter_binding.specs.declared.sets.BindingSets.{BindingSets}
use Rattle.parameter_binding.specs.Binds.{IsLater, target_at}
use Rattle.parameter_binding.specs.Walk.{AreAllGathered, AreValues, IsBest, IsBoundOf, triple_at}
use Rattle.parameter_binding.proofs.BoundLemmas.{IsValueOf, winner_at}

-- ---- a parameter of a sound shape

parameter_of : (c : Causality) → is_parameter c ≡ true → c ≡ causality.Parameter
parameter_of causality.Parameter e = refl
parameter_of causality.CalculatedParameter e = cc
parameter_of causality.StructuralParameter e = cc
parameter_of causality.Input e = cc
parameter_of causality.Output e = cc
parameter_of causality.Local e = cc
parameter_of causality.Independent e = cc
parameter_of causality.Other e = cc

never_ticks : (v : IntervalVariability) → MayTick v causality.Parameter → ⊥
never_ticks Constant h = cc
never_ticks Fixed h = cc
never_ticks Countdown h = cc
never_ticks Triggered (inl h) = cc
never_ticks Triggered (inr h) = cc
never_ticks Tunable h = h
never_ticks Changing h = cc

no_clock : (shape : Shape) (k : ℕ) (v : Variable) → IsSoundShape shape → slice_get shape.variables k ≡ Some v → v.causality ≡ causality.Parameter → is_clock v ≡ false
no_clock shape k v sound is parameter = by (is_clock v) refl
  where
    by : (b : Bool) → is_clock v ≡ b → is_clock v ≡ false
    by false e = e
    by true e =
        let partner = filtered_partner (IsSoundClock shape) is_clock shape.variables shape.clocks k v sound.clocks is e in
        absurd (never_ticks partner.other.variability (subst (MayTick partner.other.variability) parameter partner.holds.causality))

-- ---- two lists side by side

zip_at : {A B : Type 0} (R : A → B → Type 0) (xs : List A) (ys : List B) (k : ℕ) (y : B) → AllZip R xs ys → slice_get ys k ≡ Some y → (x : A) × ((slice_get xs k ≡ Some x) × R x y)
zip_at R [] [] k y all e = cc
zip_at R [] (b ∷ ys) k y all e = absurd all
zip_at R (a ∷ xs) [] k y all e = absurd all
zip_at R (a ∷ xs) (b ∷ ys) zero y all e = (a, (refl, subst (R a) (same_Some b y e) all.0))
zip_at R (a ∷ xs) (b ∷ ys) (suc k) y all e = zip_at R xs ys k y all.1 e

zip_from : {A B : Type 0} (R : A → B → Type 0) (xs : List A) (ys : List B) → length ys ≡ length xs → ((k : ℕ) (x : A) (y : B) → slice_get xs k ≡ Some x → slice_get ys k ≡ Some y → R x y) → AllZip R xs ys
zip_from R [] [] len each = tt
zip_from R [] (y ∷ ys) len each = absurd (omega (arith, len))
zip_from R (x ∷ xs) [] len each = absurd (omega (arith, len))
zip_from R (x ∷ xs) (y ∷ ys) len each = (each 0 x y refl refl, zip_from R xs ys (omega (arith, len)) (λ k a b e f. each (suc k) a b e f))

module _ (t : SystemTree) (shapes : List Shape) (sets : List BindingSets) (g : Gathered) (are : AreAllGathered t shapes sets g) (none : g.fault ≡ None) where
  module _ (i : ℕ) (s : Shape) (values : List BoundValue) (is : slice_get shapes i ≡ Some s) (sound : IsSoundShape s) (are_values : AreValues g.winners i (length s.variables) values) where
    best_at : (v : ℕ) (b : BoundValue) → (h : IsValueOf g.winners i v b) → IsBest t shapes sets (IsLater (triple_at are.b 0 0)) (target_at i v) h.0
    best_at v b h = winner_at t shapes sets g are none (target_at i v) (Some h.0) h.1

    -- the variable at the place
    variable_of : (v : ℕ) (b : BoundValue) → (h : IsValueOf g.winners i v b) → (x : Variable) × ((slice_get s.variables v ≡ Some x) × (x.reference ≡ b.reference))
    variable_of v b h =
        let w = best_at v b h in
        let target = w.reaches.sees.is in
        (w.reaches.sees.variable, (ap (λ (z : Shape). slice_get z.variables v) (same_Some s target.shape (sym is ∙ target.of)) ∙ target.at, w.reference ∙ ap (λ (z : BoundValue). z.reference) h.2))

    value_of : (v : ℕ) (b : BoundValue) → IsValueOf g.winners i v b → IsParameterValue s b
    value_of v b h = subst (IsParameterValue s) h.2 (by (best_at v b h) (variable_of v b h))
      where
        by : (w : IsBest t shapes sets (IsLater (triple_at are.b 0 0)) (target_at i v) h.0) → (x : Variable) × ((slice_get s.variables v ≡ Some x) × (x.reference ≡ b.reference)) → IsParameterValue s h.0.value
        by w x =
            let target = w.reaches.sees.is in
            let at : slice_get s.variables v ≡ Some w.reaches.sees.variable = ap (λ (z : Shape). slice_get z.variables v) (same_Some s target.shape (sym is ∙ target.of)) ∙ target.at in
            let parameter = parameter_of w.reaches.sees.variable.causality target.parameter in
            record {
              variable = w.reaches.sees.variable;
              at = subst (λ n. variable_at s.variables n ≡ Some w.reaches.sees.variable) w.reference (found_under (λ (z : Variable). z.reference) s.variables v w.reaches.sees.variable sound.variables.distinct at);
              parameter = parameter;
              kind = w.kind;
              no_clock = no_clock s v w.reaches.sees.variable sound at parameter;
              fits = w.taken.2;
            }

    references : List BoundValue → List ℕ
    references xs = map (λ (b : BoundValue). b.reference) xs

    -- of two values the first stands at an earlier place
    apart : (j k : ℕ) (a b : BoundValue) → slice_get values j ≡ Some a → slice_get values k ≡ Some b → j < k → a.reference ≡ b.reference → ⊥
    apart j k a b x y less same =
        let p = zip_at (IsValueOf g.winners i) are_values.places values j a are_values.each x in
        let q = zip_at (IsValueOf g.winners i) are_values.places values k b are_values.each y in
        let pv = variable_of p.0 a p.1.1 in
        let qv = variable_of q.0 b q.1.1 in
        let inside = slice_get_within are_values.places k q.0 q.1.0 in
        let rising = are_values.listed.rising j k less inside in
        let first : get_or are_values.places j 0 ≡ p.0 = get_or_from_slice_get are_values.places j p.0 0 p.1.0 in
        let second : get_or are_values.places k 0 ≡ q.0 = get_or_from_slice_get are_values.places k q.0 0 q.1.0 in
        let below : p.0 < q.0 = omega (arith, rising, first, second) in
        let within = slice_get_within s.variables q.0 qv.0 qv.1.0 in
        let keys = map (λ (z : Variable). z.reference) s.variables in
        let len = length-map s.variables (λ (z : Variable). z.reference) in
        let distinct = apart_from_distinct nat_eq keys p.0 q.0 0 sound.variables.distinct below (omega (arith, within, len)) in
        let one : get_or keys p.0 0 ≡ a.reference = get_or_from_slice_get keys p.0 pv.0.reference 0 (slice_get-map (λ (z : Variable). z.reference) s.variables p.0 ∙ ap (option_map (λ (z : Variable). z.reference)) pv.1.0) ∙ pv.1.1 in
        let other : get_or keys q.0 0 ≡ b.reference = get_or_from_slice_get keys q.0 qv.0.reference 0 (slice_get-map (λ (z : Variable). z.reference) s.variables q.0 ∙ ap (option_map (λ (z : Variable). z.reference)) qv.1.0) ∙ qv.1.1 in
        let equal : nat_eq (get_or keys p.0 0) (get_or keys q.0 0) ≡ true = eq-eqb (get_or keys p.0 0) (get_or keys q.0 0) (one ∙ same ∙ sym other) in
        cc

    once : IsDistinct nat_eq (map (λ (b : BoundValue). b.reference) values)
    once = IsDistinct-from_apart nat_eq (map (λ (b : BoundValue). b.reference) values) at
      where
        at : (j k d : ℕ) → j < k → k < length (map (λ (b : BoundValue). b.reference) values) → nat_eq (get_or (map (λ (b : BoundValue). b.reference) values) j d) (get_or (map (λ (b : BoundValue). b.reference) values) k d) ≡ false
        at j k d less within =
            let len = length-map values (λ (b : BoundValue). b.reference) in
            let a = element_at values j (omega (arith, less, within, len)) in
            let b = element_at values k (omega (arith, within, len)) in
            let x : get_or (map (λ (b : BoundValue). b.reference) values) j d ≡ a.0.reference = get_or_from_slice_get (map (λ (b : BoundValue). b.reference) values) j a.0.reference d (slice_get-map (λ (b : BoundValue). b.reference) values j ∙ ap (option_map (λ (b : BoundValue). b.reference)) a.1) in
            let y : get_or (map (λ (b : BoundValue). b.reference) values) k d ≡ b.0.reference = get_or_from_slice_get (map (λ (b : BoundValue). b.reference) values) k b.0.reference d (slice_get-map (λ (b : BoundValue). b.reference) values k ∙ ap (option_map (λ (b : BoundValue). b.reference)) b.1) in
            ne_eqb _ _ (λ e. apart j k a.0 b.0 a.1 b.1 less (sym x ∙ e ∙ y))

    pub component_bound : AreParameterValues s values
    component_bound = record {
      each = all_by_place (IsParameterValue s) values (λ k b at. let p = zip_at (IsValueOf g.winners i) are_values.places values k b are_values.each at in value_of p.0 b p.1.1);
      once = once;
    }

  pub all_bound : (bound : Bound) → All IsSoundShape shapes → IsBoundOf shapes g bound → AllZip AreParameterValues shapes bound.components
  all_bound bound sound is = zip_from AreParameterValues shapes bound.components is.values.values_len (λ k s values at there.
      component_bound k s values at (All-contains IsSoundShape shapes s sound (contains_at shapes k s at)) (is.values.each k s values at there))

pub ok_parameters : (t : SystemTree) (shapes : List Shape) (sets : List BindingSets) (g : Gathered) (r : Result Bound Refusal) → AreAllGathered t shapes sets g → g.fault ≡ None → All IsSoundShape shapes → IfOk r (IsBoundOf shapes g)
    → IfOk r (λ bound. AllZip AreParameterValues shapes bound.components)
ok_parameters t shapes sets g (Ok bound) are none sound is = all_bound t shapes sets g are none bound sound is
ok_parameters t shapes sets g (Err e) are none sound is = tt
