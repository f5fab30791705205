-- What is gathered, one triple after another.
use Rattle.std.proofs.Common.{◌≡◌, ◌⊎◌, ◌↔◌, ◌<◌, ◌+◌, ℕ, true, false, List, [], ◌∷◌, ◌++◌, length, Option, Some, None, refl, sym, ap, ◌∙◌, subst, inl, inr, arith}
use Rattle.std.specs.List.{slice_get, Contains}
use Rattle.std.specs.Option.{is_none}
use Rattle.std.proofs.lemmas.List.{length_push}
use Rattle.std.proofs.lemmas.List.Elements.{Contains-append_left, Contains-push, Contains-push_cases}
use Rattle.value_types.specs.declared.shape.Shape.{Shape}
use Rattle.doc_tree.specs.declared.rule.ParameterRule.{ParameterRule}
use Rattle.parameter_values.specs.declared.change.Change.{Change}
use Rattle.ssd_tree.specs.declared.tree.Binding.{Binding}
use Rattle.ssd_tree.specs.declared.tree.SystemTree.{SystemTree}
use Rattle.parameter_targets.specs.declared.target.Target.{Target}
use Rattle.parameter_targets.specs.Scopes.{Sees}
use Rattle.parameter_targets.proofs.CallerLemmas.{contains_at, push_cases}
use Rattle.parameter_binding.specs.declared.fault.Fault.{Fault}
use Rattle.parameter_binding.specs.declared.gathered.Gathered.{Gathered}
use Rattle.parameter_binding.specs.declared.sets.BindingSets.{BindingSets}
use Rattle.parameter_binding.specs.declared.visit.Visit.{Visit}
use Rattle.parameter_binding.specs.Binds.{IsLater, IsUnreached, Triple}
use Rattle.parameter_binding.specs.Rules.{Breaks, Place}
use Rattle.parameter_binding.specs.Walk.{AreCounted, AreGathered, AreSeen, AreWinners, CoveredBy, FindsFault, IsCounted, IsFirstFault, IsGathered, IsOneMore, IsUpTo, IsUpToTriple, IsVisit, NoneBreaks, place_of, triple_of}
use Rattle.parameter_binding.proofs.OnceLemmas.{candidate_once}

-- a triple isn't later than itself
pub later_apart : (c d : Triple) → IsLater c d → d ≡ c → ⊥
later_apart c d (inl h) e = let b = ap (λ (z : Triple). z.binding) e in omega (arith, h, b)
later_apart c d (inr h) e = by h.1
  where
    by : (d.entry < c.entry) ⊎ ((d.entry ≡ c.entry) × (d.parameter < c.parameter)) → ⊥
    by (inl x) = let n = ap (λ (z : Triple). z.entry) e in omega (arith, x, n)
    by (inr x) = let n = ap (λ (z : Triple). z.parameter) e in let l = x.1 in omega (arith, l, n)

-- ---- faults of two lots of triples

module _ (t : SystemTree) (shapes : List Shape) (sets : List BindingSets) (One Other : Triple → Type 0) where
  covered_one : (Done : Triple → Type 0) (o : Option Fault) → FindsFault t shapes sets Done o → (c : Triple) (rule : ParameterRule) (p : Place) → Done c → Breaks t shapes sets rule p c → CoveredBy o p rule
  covered_one Done None finds c rule p done broken = finds c rule p done broken
  covered_one Done (Some f) finds c rule p done broken = finds.least c rule p done broken

  pub finds_both : (a b o : Option Fault) → (o ≡ a) ⊎ (o ≡ b) → ((p : Place) (rule : ParameterRule) → CoveredBy a p rule ⊎ CoveredBy b p rule → CoveredBy o p rule) → FindsFault t shapes sets One a → FindsFault t shapes sets Other b
      → FindsFault t shapes sets (λ c. One c ⊎ Other c) o
  finds_both a b o either both one other = make o refl
    where
      covers : (c : Triple) (rule : ParameterRule) (p : Place) → One c ⊎ Other c → Breaks t shapes sets rule p c → CoveredBy o p rule
      covers c rule p (inl h) broken = both p rule (inl (covered_one One a one c rule p h broken))
      covers c rule p (inr h) broken = both p rule (inr (covered_one Other b other c rule p h broken))

      make : (w : Option Fault) → o ≡ w → FindsFault t shapes sets (λ c. One c ⊎ Other c) w
      make None e = λ c rule p done broken. subst (λ z. CoveredBy z p rule) e (covers c rule p done broken)
      make (Some f) e = by either
        where
          least : (c : Triple) (rule : ParameterRule) (p : Place) → One c ⊎ Other c → Breaks t shapes sets rule p c → IsUpTo (place_of f) f.rule p rule
          least c rule p done broken = subst (λ z. CoveredBy z p rule) e (covers c rule p done broken)

          by : (o ≡ a) ⊎ (o ≡ b) → IsFirstFault t shapes sets (λ c. One c ⊎ Other c) f
          by (inl s) =
              let h = subst (FindsFault t shapes sets One) (sym s ∙ e) one in
              record { triple = h.triple; done = inl h.done; broken = h.broken; told = h.told; least = least }
          by (inr s) =
              let h = subst (FindsFault t shapes sets Other) (sym s ∙ e) other in
              record { triple = h.triple; done = inr h.done; broken = h.broken; told = h.told; least = least }

-- ---- counting

pub counted_zero : (t : SystemTree) (shapes : List Shape) (sets : List BindingSets) (Done : Triple → Type 0) → ((c : Triple) → Done c → ⊥) → AreCounted t shapes sets Done 0
counted_zero t shapes sets Done none = record {
  all = [];
  each = λ c. (λ i. absurd (let l = i.1 in omega (arith, l)), λ h. absurd (none c h.0));
  once = λ j k c a b. cc;
  number = refl;
}

-- the next is unresolved
pub counted_more : (t : SystemTree) (shapes : List Shape) (sets : List BindingSets) (q : Triple) (n : ℕ) → IsUnreached t shapes sets q → AreCounted t shapes sets (IsLater q) n → AreCounted t shapes sets (IsUpToTriple q) (n + 1)
counted_more t shapes sets q n none was = record {
  all = was.all ++ q ∷ [];
  each = λ c. (λ i. there c (Contains-push_cases was.all q c i), λ h. back c h.0 h.1);
  once = λ j k c a b. once j k c (push_cases was.all q j c a) (push_cases was.all q k c b);
  number = ap (λ k. k + 1) was.number ∙ sym (length_push was.all q);
}
  where
    there : (c : Triple) → Contains was.all c ⊎ (q ≡ c) → IsUpToTriple q c × IsUnreached t shapes sets c
    there c (inl i) = let h = (was.each c).0 i in (inl h.0, h.1)
    there c (inr e) = (inr (sym e), subst (IsUnreached t shapes sets) e none)

    back : (c : Triple) → IsUpToTriple q c → IsUnreached t shapes sets c → Contains (was.all ++ q ∷ []) c
    back c (inl later) u = Contains-append_left was.all (q ∷ []) c ((was.each c).1 (later, u))
    back c (inr e) u = subst (Contains (was.all ++ q ∷ [])) (sym e) (Contains-push was.all q)

    old : (j : ℕ) (c : Triple) → slice_get was.all j ≡ Some c → q ≡ c → ⊥
    old j c a e = later_apart q c ((was.each c).0 (contains_at was.all j c a)).0 (sym e)

    once : (j k : ℕ) (c : Triple) → (slice_get was.all j ≡ Some c) ⊎ ((j ≡ length was.all) × (q ≡ c)) → (slice_get was.all k ≡ Some c) ⊎ ((k ≡ length was.all) × (q ≡ c)) → j ≡ k
    once j k c (inl a) (inl b) = was.once j k c a b
    once j k c (inl a) (inr b) = absurd (old j c a b.1)
    once j k c (inr a) (inl b) = absurd (old k c b a.1)
    once j k c (inr a) (inr b) = a.0 ∙ sym b.0

-- the same triples
pub counted_as : (t : SystemTree) (shapes : List Shape) (sets : List BindingSets) (Done More : Triple → Type 0) (n : Option ℕ) → ((c : Triple) → IsUnreached t shapes sets c → Done c ↔ More c) → IsCounted t shapes sets Done n → IsCounted t shapes sets More n
counted_as t shapes sets Done More None same was = tt
counted_as t shapes sets Done More (Some n) same was = record {
  all = was.all;
  each = λ c. (λ i. let h = (was.each c).0 i in ((same c h.1).0 h.0, h.1), λ h. (was.each c).1 ((same c h.1).1 h.0, h.1));
  once = was.once;
  number = was.number;
}

counted_next : (t : SystemTree) (shapes : List Shape) (sets : List BindingSets) (q : Triple) (old new : Option ℕ) → IsUnreached t shapes sets q → IsOneMore old new → IsCounted t shapes sets (IsLater q) old → IsCounted t shapes sets (IsUpToTriple q) new
counted_next t shapes sets q None new none more was = subst (IsCounted t shapes sets (IsUpToTriple q)) (sym more) tt
counted_next t shapes sets q (Some n) new none (inl full) was = subst (IsCounted t shapes sets (IsUpToTriple q)) (sym full) tt
counted_next t shapes sets q (Some n) new none (inr more) was = subst (IsCounted t shapes sets (IsUpToTriple q)) (sym more) (counted_more t shapes sets q n none was)

-- ---- the next triple

module _ (t : SystemTree) (shapes : List Shape) (sets : List BindingSets) (binding : Binding) (name : List ℕ) (change : Option Change) (v : Visit) (visit : IsVisit t sets v binding name change) (targets : List Target) (seen : AreSeen t shapes binding name targets)
  where
    -- it is unresolved where it has no targets
    unreached_own : targets ≡ [] → IsUnreached t shapes sets (triple_of v)
    unreached_own e = record {
      binding = binding;
      parameter = v.parameter.now;
      name = name;
      change = change;
      is = visit.candidate;
      none = λ target sees. let i = (subst (λ (z : List Target). Contains z target) e ((seen target).1 sees)).1 in omega (arith, i);
    }

    -- and else something
    reached_own : (target : Target) → Contains targets target → IsUnreached t shapes sets (triple_of v) → ⊥
    reached_own target i u =
        let one = candidate_once t sets (triple_of v) binding u.binding v.parameter.now u.parameter name u.name change u.change visit.candidate u.is in
        u.none target (subst (λ (z : Binding). Sees t shapes z.owner u.name target) one.binding (subst (λ n. Sees t shapes binding.owner n target) one.name ((seen target).0 i)))

    pub count_here : (old new : Option ℕ) → (targets ≡ [] → IsOneMore old new) → ((target : Target) → Contains targets target → new ≡ old) → (targets ≡ []) ⊎ ((target : Target) × Contains targets target) → IsCounted t shapes sets (IsLater (triple_of v)) old → IsCounted t shapes sets (IsUpToTriple (triple_of v)) new
    count_here old new more same (inl none) was = counted_next t shapes sets (triple_of v) old new (unreached_own none) (more none) was
    count_here old new more same (inr some) was =
        subst (IsCounted t shapes sets (IsUpToTriple (triple_of v))) (sym (same some.0 some.1))
        (counted_as t shapes sets (IsLater (triple_of v)) (IsUpToTriple (triple_of v)) old (λ c u. (λ h. inl h, λ h. by c u h)) was)
      where
        by : (c : Triple) → IsUnreached t shapes sets c → IsUpToTriple (triple_of v) c → IsLater (triple_of v) c
        by c u (inl h) = h
        by c u (inr e) = absurd (reached_own some.0 some.1 (subst (IsUnreached t shapes sets) e u))

pub empty_or : (targets : List Target) → (targets ≡ []) ⊎ ((target : Target) × Contains targets target)
empty_or [] = inl refl
empty_or (x ∷ xs) = inr (x, contains_at (x ∷ xs) 0 x refl)

up_to_itself : (f : Fault) → IsUpTo (place_of f) f.rule (place_of f) f.rule
up_to_itself f = inr (refl, inr (refl, inr (refl, omega arith)))

-- no fault in all is none in each lot
pub none_each : (a b o : Option Fault) → ((p : Place) (rule : ParameterRule) → CoveredBy a p rule ⊎ CoveredBy b p rule → CoveredBy o p rule) → o ≡ None → (a ≡ None) × (b ≡ None)
none_each a b o both none = (first a (λ p rule h. both p rule (inl h)), first b (λ p rule h. both p rule (inr h)))
  where
    first : (w : Option Fault) → ((p : Place) (rule : ParameterRule) → CoveredBy w p rule → CoveredBy o p rule) → w ≡ None
    first None covers = refl
    first (Some f) covers = absurd (subst (λ z. CoveredBy z (place_of f) f.rule) none (covers (place_of f) f.rule (up_to_itself f)))

pub none_of : {A : Type 0} (o : Option A) → is_none o ≡ true → o ≡ None
none_of None e = refl
none_of (Some x) e = cc

pub some_of : {A : Type 0} (o : Option A) → is_none o ≡ false → o ≡ None → ⊥
some_of None e n = cc
some_of (Some x) e n = cc

module _ (t : SystemTree) (shapes : List Shape) (sets : List BindingSets) (binding : Binding) (name : List ℕ) (change : Option Change) (v : Visit) (visit : IsVisit t sets v binding name change) (targets : List Target) (seen : AreSeen t shapes binding name targets)
  where
    pub gathered_next : (old new : Gathered) (found : Option Fault) → FindsFault t shapes sets (λ c. c ≡ triple_of v) found → (new.fault ≡ old.fault) ⊎ (new.fault ≡ found) → ((p : Place) (rule : ParameterRule) → CoveredBy old.fault p rule ⊎ CoveredBy found p rule → CoveredBy new.fault p rule)
        → (new.fault ≡ None → NoneBreaks t shapes sets (λ c. c ≡ triple_of v) → AreWinners t shapes sets (IsLater (triple_of v)) old.winners → AreWinners t shapes sets (IsUpToTriple (triple_of v)) new.winners)
        → (new.fault ≡ None → targets ≡ [] → IsOneMore old.unreached new.unreached) → (new.fault ≡ None → (target : Target) → Contains targets target → new.unreached ≡ old.unreached)
        → IsGathered t shapes sets (triple_of v) old → AreGathered t shapes sets (IsUpToTriple (triple_of v)) new
    gathered_next old new found finds either both winners more same was = record {
      fault = finds_both t shapes sets (IsLater (triple_of v)) (λ c. c ≡ triple_of v) old.fault found new.fault either both was.fault finds;
      winners = λ none. let each = none_each old.fault found new.fault both none in winners none (subst (FindsFault t shapes sets (λ c. c ≡ triple_of v)) each.1 finds) (was.winners each.0);
      unreached = λ none. let each = none_each old.fault found new.fault both none in count_here t shapes sets binding name change v visit targets seen old.unreached new.unreached (more none) (same none) (empty_or targets) (was.unreached each.0);
    }
