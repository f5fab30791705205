-- One more that reaches a target.
use Rattle.std.proofs.Common.{◌≡◌, ◌⊎◌, ◌<◌, ◌≤◌, ◌+◌, ℕ, List, [], ◌∷◌, ◌++◌, length, take, get_or, Option, Some, None, refl, sym, ap, ◌∙◌, subst, inl, inr, arith}
use Rattle.std.specs.List.{Contains}
use Rattle.std.specs.BTreeMap.{UpdatesBy}
use Rattle.std.specs.Ordering.{nat_cmp}
use Rattle.std.proofs.lemmas.Bool.{cases_eq, cases_lt}
use Rattle.std.proofs.lemmas.List.{take_more, take_all}
use Rattle.std.proofs.lemmas.List.Elements.{Contains-append_left, Contains-push, Contains-push_cases}
use Rattle.std.proofs.lemmas.Map.Lookups.{exact_pairs, exact_unsigned}
use Rattle.std.proofs.lemmas.Option.{same_Some}
use Rattle.value_types.specs.Index.{pair_cmp}
use Rattle.value_types.proofs.CallerLemmas.{pair_total}
use Rattle.value_types.specs.declared.shape.Shape.{Shape}
use Rattle.value_types.specs.declared.shape.Variable.{Variable}
use Rattle.parameter_values.specs.declared.change.Change.{Change}
use Rattle.parameter_values.specs.Values.{IsTaken}
use Rattle.ssd_tree.specs.declared.tree.Owner.{Owner}
use Rattle.ssd_tree.specs.declared.tree.Owner.TheVariants.{System, Component}
use Rattle.ssd_tree.specs.declared.tree.Binding.{Binding}
use Rattle.ssd_tree.specs.declared.tree.ComponentPart.{ComponentPart}
use Rattle.ssd_tree.specs.declared.tree.SystemTree.{SystemTree}
use Rattle.parameter_targets.specs.declared.target.Target.{Target}
use Rattle.parameter_targets.specs.Scopes.{IsDepth, IsLevel, IsTarget, Sees}
use Rattle.parameter_targets.proofs.CallerLemmas.{depth_once}
use Rattle.parameter_binding.specs.declared.sets.BindingSets.{BindingSets}
use Rattle.parameter_binding.specs.declared.visit.Visit.{Visit}
use Rattle.parameter_binding.specs.declared.winners.Best.{Best}
use Rattle.parameter_binding.specs.declared.winners.Winners.{Winners}
use Rattle.parameter_binding.specs.Binds.{Beats, HasLevel, IsLater, ReachesTarget, Triple}
use Rattle.parameter_binding.specs.Walk.{AreSeen, AreWinners, IsBest, IsPut, IsUpToTriple, IsVisit, IsWinner, PutsBest, PutsTaken, best_of, triple_of}
use Rattle.parameter_binding.proofs.MapLemmas.{updated_each}
use Rattle.parameter_binding.proofs.OnceLemmas.{target_once}
use Rattle.parameter_binding.proofs.VisitLemmas.{in_list, nothing, reaches_own}

-- ---- the table

abbrev key_of : Target → ℕ × ℕ
key_of target = (target.component, target.variable)

same_target : (a b : Target) → key_of a ≡ key_of b → a ≡ b
same_target a b e =
    let component : a.component ≡ b.component = ap (λ (z : ℕ × ℕ). z.0) e in
    let variable : a.variable ≡ b.variable = ap (λ (z : ℕ × ℕ). z.1) e in
    ap (λ n. target_at n a.variable) component ∙ ap (λ n. target_at b.component n) variable
  where
    target_at : ℕ → ℕ → Target
    target_at i v = record { component = i; variable = v }

pub put_each : (target : Target) (old new : Winners) (w : Option Best) → UpdatesBy pair_cmp (pair_cmp (target.component, target.variable)) old.best new.best w
    → (q : Target) → ((q ≡ target) × (best_of new q ≡ w)) ⊎ ((q ≡ target → ⊥) × (best_of new q ≡ best_of old q))
put_each target old new w u q = by (updated_each pair_cmp pair_total (exact_pairs nat_cmp nat_cmp exact_unsigned exact_unsigned) old.best new.best (target.component, target.variable) w u (q.component, q.variable))
  where
    by : ((key_of q ≡ key_of target) × (best_of new q ≡ w)) ⊎ ((key_of q ≡ key_of target → ⊥) × (best_of new q ≡ best_of old q))
        → ((q ≡ target) × (best_of new q ≡ w)) ⊎ ((q ≡ target → ⊥) × (best_of new q ≡ best_of old q))
    by (inl h) = inl (same_target q target h.0, h.1)
    by (inr h) = inr (λ e. h.0 (ap key_of e), h.1)

pub put_best : (target : Target) (next : Best) (old new : Winners) → UpdatesBy pair_cmp (pair_cmp (target.component, target.variable)) old.best new.best (Some next) → IsPut (best_of old target) next (Some next) → PutsBest target next old new
put_best target next old new u put = record { at = at (put_each target old new (Some next) u target); others = λ q apart. others q apart (put_each target old new (Some next) u q) }
  where
    at : ((target ≡ target) × (best_of new target ≡ Some next)) ⊎ ((target ≡ target → ⊥) × (best_of new target ≡ best_of old target)) → IsPut (best_of old target) next (best_of new target)
    at (inl h) = subst (IsPut (best_of old target) next) (sym h.1) put
    at (inr h) = absurd (h.0 refl)

    others : (q : Target) → (q ≡ target → ⊥) → ((q ≡ target) × (best_of new q ≡ Some next)) ⊎ ((q ≡ target → ⊥) × (best_of new q ≡ best_of old q)) → best_of new q ≡ best_of old q
    others q apart (inl h) = absurd (apart h.0)
    others q apart (inr h) = h.1

-- ---- levels

pub level_once : (t : SystemTree) (owner : Owner) (m n : ℕ) → IsLevel t owner m → IsLevel t owner n → m ≡ n
level_once t (System s) m n a b = depth_once t s m n a b
level_once t (Component i) m n a b =
    let same : a.0 ≡ b.0 = same_Some a.0 b.0 (sym a.1 ∙ b.1) in
    let depths : a.2.0 ≡ b.2.0 = depth_once t b.0.system a.2.0 b.2.0 (subst (λ (z : ComponentPart). IsDepth t z.system a.2.0) same a.2.1) b.2.1 in
    a.2.2 ∙ ap (λ k. k + 1) depths ∙ sym b.2.2

pub has_level_once : (t : SystemTree) (b m n : ℕ) → HasLevel t b m → HasLevel t b n → m ≡ n
has_level_once t b m n x y = level_once t y.0.owner m n (subst (λ (z : Binding). IsLevel t z.owner m) (same_Some x.0 y.0 (sym x.1 ∙ y.1)) x.2) y.2

-- ---- winners among other triples

pub winner_as : (t : SystemTree) (shapes : List Shape) (sets : List BindingSets) (Done More : Triple → Type 0) (target : Target) (w : Option Best) → ((d : Triple) → Done d → More d) → ((d : Triple) → More d → ReachesTarget t shapes sets target d → Done d)
    → IsWinner t shapes sets Done target w → IsWinner t shapes sets More target w
winner_as t shapes sets Done More target None there back was = λ d done reaches. was d (back d done reaches) reaches
winner_as t shapes sets Done More target (Some b) there back was = record {
  triple = was.triple;
  done = there was.triple was.done;
  reaches = was.reaches;
  level = was.level;
  kind = was.kind;
  reference = was.reference;
  taken = was.taken;
  beats = λ d done reaches. was.beats d (back d done reaches) reaches;
}

module _ (t : SystemTree) (shapes : List Shape) (sets : List BindingSets) (binding : Binding) (name : List ℕ) (change : Option Change) (v : Visit) (visit : IsVisit t sets v binding name change) where
  own_level : HasLevel t v.binding v.level
  own_level = (binding, visit.candidate.is, visit.level)

  module _ (target : Target) (sees : Sees t shapes binding.owner name target) (Done More : Triple → Type 0) (there : (d : Triple) → Done d → More d) (back : (d : Triple) → More d → Done d ⊎ (d ≡ triple_of v))
      (own : More (triple_of v)) (before : (d : Triple) → Done d → IsLater (triple_of v) d ⊎ (d ≡ triple_of v)) (best : Best) (level : best.level ≡ v.level) (w : Variable) (is : IsTarget shapes target w) (kind : w.kind ≡ Some best.value.kind)
      (reference : w.reference ≡ best.value.reference) (taken : IsTaken change v.parameter.now.value best.value.kind best.value.value) where
    variable_is : sees.variable ≡ w
    variable_is = target_once shapes target sees.variable w sees.is is

    -- the next wins, where all others have no higher level
    next_best : ((d : Triple) → Done d → ReachesTarget t shapes sets target d → (n : ℕ) × (HasLevel t d.binding n × (best.level ≤ n))) → IsBest t shapes sets More target best
    next_best lower = record {
      triple = triple_of v;
      done = own;
      reaches = reaches_own t shapes sets binding name change v visit target sees;
      level = subst (HasLevel t v.binding) (sym level) own_level;
      kind = ap (λ (z : Variable). z.kind) variable_is ∙ kind;
      reference = ap (λ (z : Variable). z.reference) variable_is ∙ reference;
      taken = taken;
      beats = λ d done reaches. beats d (back d done) reaches;
    }
      where
        over : (d : Triple) → IsLater (triple_of v) d ⊎ (d ≡ triple_of v) → (n : ℕ) × (HasLevel t d.binding n × (best.level ≤ n)) → (d ≡ triple_of v) ⊎ Beats t (triple_of v) d
        over d (inr same) h = inl same
        over d (inl later) h = inr (record { own = best.level; other = h.0; own_is = subst (HasLevel t v.binding) (sym level) own_level; other_is = h.1.0; higher = by (cases_lt best.level h.0) })
          where
            by : (best.level < h.0) ⊎ (h.0 ≤ best.level) → (best.level < h.0) ⊎ ((best.level ≡ h.0) × IsLater (triple_of v) d)
            by (inl less) = inl less
            by (inr more) = let low = h.1.1 in inr (omega (arith, low, more), later)

        beats : (d : Triple) → Done d ⊎ (d ≡ triple_of v) → ReachesTarget t shapes sets target d → (d ≡ triple_of v) ⊎ Beats t (triple_of v) d
        beats d (inl done) reaches = over d (before d done) (lower d done reaches)
        beats d (inr same) reaches = inl same

    -- the levels of all that the best of before beats
    lower_than : (b : Best) → IsBest t shapes sets Done target b → best.level ≤ b.level → (d : Triple) → Done d → ReachesTarget t shapes sets target d → (n : ℕ) × (HasLevel t d.binding n × (best.level ≤ n))
    lower_than b was less d done reaches = by (was.beats d done reaches)
      where
        by : (d ≡ was.triple) ⊎ Beats t was.triple d → (n : ℕ) × (HasLevel t d.binding n × (best.level ≤ n))
        by (inl same) = (b.level, (subst (λ (z : Triple). HasLevel t z.binding b.level) (sym same) was.level, less))
        by (inr beats) =
            let one : beats.own ≡ b.level = has_level_once t was.triple.binding beats.own b.level beats.own_is was.level in
            (beats.other, (beats.other_is, at_least beats.higher one))
          where
            at_least : (beats.own < beats.other) ⊎ ((beats.own ≡ beats.other) × IsLater was.triple d) → beats.own ≡ b.level → best.level ≤ beats.other
            at_least (inl x) one = omega (arith, x, one, less)
            at_least (inr x) one = let e = x.0 in omega (arith, e, one, less)

    -- the best of before stays
    best_kept : (b : Best) → IsBest t shapes sets Done target b → b.level < best.level → IsBest t shapes sets More target b
    best_kept b was less = record {
      triple = was.triple;
      done = there was.triple was.done;
      reaches = was.reaches;
      level = was.level;
      kind = was.kind;
      reference = was.reference;
      taken = was.taken;
      beats = λ d done reaches. beats d (back d done) reaches;
    }
      where
        beats : (d : Triple) → Done d ⊎ (d ≡ triple_of v) → ReachesTarget t shapes sets target d → (d ≡ was.triple) ⊎ Beats t was.triple d
        beats d (inl done) reaches = was.beats d done reaches
        beats d (inr same) reaches = inr (record {
          own = b.level;
          other = best.level;
          own_is = was.level;
          other_is = subst (λ (z : Triple). HasLevel t z.binding best.level) (sym same) (subst (HasLevel t v.binding) (sym level) own_level);
          higher = inl less;
        })

    put_here : (old new : Option Best) → IsPut old best new → IsWinner t shapes sets Done target old → IsWinner t shapes sets More target new
    put_here None new put was = subst (IsWinner t shapes sets More target) (sym put) (next_best (λ d done reaches. absurd (was d done reaches)))
    put_here (Some b) new (inl put) was = subst (IsWinner t shapes sets More target) (sym put.1) (next_best (lower_than b was put.0))
    put_here (Some b) new (inr put) was = subst (IsWinner t shapes sets More target) (sym put.1) (best_kept b was put.0)

  -- the triple at the first targets of the list, and all before it
  abbrev pub IsDoneAt : List Target → Target → Triple → Type 0
  IsDoneAt some target d = IsLater (triple_of v) d ⊎ ((d ≡ triple_of v) × Contains some target)

  abbrev pub AreWinnersAt : List Target → Winners → Type 0
  AreWinnersAt some winners = (target : Target) → IsWinner t shapes sets (IsDoneAt some target) target (best_of winners target)

  pub winners_start : (targets : List Target) (winners : Winners) → AreWinners t shapes sets (IsLater (triple_of v)) winners → AreWinnersAt (take 0 targets) winners
  winners_start targets winners was target = winner_as t shapes sets (IsLater (triple_of v)) (IsDoneAt (take 0 targets) target) target (best_of winners target) (λ d h. inl h) (λ d h reaches. back d h) (was target)
    where
      back : (d : Triple) → IsDoneAt (take 0 targets) target d → IsLater (triple_of v) d
      back d (inl h) = h
      back d (inr h) = absurd (let i = h.1.1 in omega (arith, i))

  pub winners_more : (targets : List Target) (i : ℕ) (old new : Winners) → i < length targets → Sees t shapes binding.owner name (get_or targets i nothing) → PutsTaken t shapes change v (get_or targets i nothing) old new → AreWinnersAt (take i targets) old
      → AreWinnersAt (take (i + 1) targets) new
  winners_more targets i old new less sees puts was q = at (same_or q (get_or targets i nothing))
    where
      last : Target
      last = get_or targets i nothing

      more : take (i + 1) targets ≡ take i targets ++ get_or targets i nothing ∷ []
      more = take_more targets i nothing less

      same_or : (a b : Target) → (a ≡ b) ⊎ (a ≡ b → ⊥)
      same_or a b = by (cases_eq a.component b.component) (cases_eq a.variable b.variable)
        where
          by : (a.component ≡ b.component) ⊎ (a.component ≡ b.component → ⊥) → (a.variable ≡ b.variable) ⊎ (a.variable ≡ b.variable → ⊥) → (a ≡ b) ⊎ (a ≡ b → ⊥)
          by (inl x) (inl y) = inl (same_target a b (let e : key_of a ≡ key_of b = ap (λ z. (z, a.variable)) x ∙ ap (λ z. (b.component, z)) y in e))
          by (inl x) (inr y) = inr (λ e. y (ap (λ (z : Target). z.variable) e))
          by (inr x) y = inr (λ e. x (ap (λ (z : Target). z.component) e))

      there : (target : Target) (d : Triple) → IsDoneAt (take i targets) target d → IsDoneAt (take (i + 1) targets) target d
      there target d (inl h) = inl h
      there target d (inr h) = inr (h.0, subst (λ (z : List Target). Contains z target) (sym more) (Contains-append_left (take i targets) (get_or targets i nothing ∷ []) target h.1))

      back : (target : Target) → (target ≡ get_or targets i nothing → ⊥) → (d : Triple) → IsDoneAt (take (i + 1) targets) target d → IsDoneAt (take i targets) target d
      back target apart d (inl h) = inl h
      back target apart d (inr h) = by (Contains-push_cases (take i targets) (get_or targets i nothing) target (subst (λ (z : List Target). Contains z target) more h.1))
        where
          by : Contains (take i targets) target ⊎ (get_or targets i nothing ≡ target) → IsDoneAt (take i targets) target d
          by (inl x) = inr (h.0, x)
          by (inr e) = absurd (apart (sym e))

      forget : (target : Target) (some : List Target) (d : Triple) → IsDoneAt some target d → IsLater (triple_of v) d ⊎ (d ≡ triple_of v)
      forget target some d (inl h) = inl h
      forget target some d (inr h) = inr h.0

      back_or : (d : Triple) → IsDoneAt (take (i + 1) targets) (get_or targets i nothing) d → IsDoneAt (take i targets) (get_or targets i nothing) d ⊎ (d ≡ triple_of v)
      back_or d (inl h) = inl (inl h)
      back_or d (inr h) = inr h.0

      own : IsDoneAt (take (i + 1) targets) (get_or targets i nothing) (triple_of v)
      own = inr (refl, subst (λ (z : List Target). Contains z (get_or targets i nothing)) (sym more) (Contains-push (take i targets) (get_or targets i nothing)))

      at : (q ≡ get_or targets i nothing) ⊎ (q ≡ get_or targets i nothing → ⊥) → IsWinner t shapes sets (IsDoneAt (take (i + 1) targets) q) q (best_of new q)
      at (inl same) = subst (λ z. IsWinner t shapes sets (IsDoneAt (take (i + 1) targets) z) z (best_of new z)) (sym same)
          (put_here (get_or targets i nothing) sees (IsDoneAt (take i targets) (get_or targets i nothing)) (IsDoneAt (take (i + 1) targets) (get_or targets i nothing)) (there (get_or targets i nothing)) back_or own (forget (get_or targets i nothing) (take i targets))
          puts.best puts.level puts.variable puts.is puts.kind puts.reference puts.taken (best_of old (get_or targets i nothing)) (best_of new (get_or targets i nothing)) puts.puts.at (was (get_or targets i nothing)))
      at (inr apart) = subst (IsWinner t shapes sets (IsDoneAt (take (i + 1) targets) q) q) (sym (puts.puts.others q apart))
          (winner_as t shapes sets (IsDoneAt (take i targets) q) (IsDoneAt (take (i + 1) targets) q) q (best_of old q) (there q) (λ d done reaches. back q apart d done) (was q))

  pub winners_end : (targets : List Target) (i : ℕ) (winners : Winners) → AreSeen t shapes binding name targets → length targets ≤ i → AreWinnersAt (take i targets) winners → AreWinners t shapes sets (IsUpToTriple (triple_of v)) winners
  winners_end targets i winners seen past was target =
      winner_as t shapes sets (IsDoneAt (take i targets) target) (IsUpToTriple (triple_of v)) target (best_of winners target) there back (was target)
    where
      there : (d : Triple) → IsDoneAt (take i targets) target d → IsUpToTriple (triple_of v) d
      there d (inl h) = inl h
      there d (inr h) = inr h.0

      back : (d : Triple) → IsUpToTriple (triple_of v) d → ReachesTarget t shapes sets target d → IsDoneAt (take i targets) target d
      back d (inl h) reaches = inl h
      back d (inr same) reaches = inr (same, subst (λ (z : List Target). Contains z target) (sym (take_all i targets past)) (in_list t shapes sets binding name change v visit targets seen target (subst (ReachesTarget t shapes sets target) same reaches)))
