-- From the winners of all triples to the values of all parameters.
use Rattle.std.proofs.Common.{◌≡◌, ◌⊎◌, ◌↔◌, ◌<◌, ◌≤◌, ◌+◌, ◌-◌, ℕ, zero, suc, Bool, true, false, Result, Ok, Err, IsSomeAnd, List, [], ◌∷◌, ◌++◌, length, Option, Some, None, IsSome, refl, sym, ap, ◌∙◌, subst, inl, inr, arith}
use Rattle.std.specs.List.{slice_get, AllZip}
use Rattle.std.specs.Result.{IfErr, IfOk}
use Rattle.std.proofs.lemmas.Bool.{cases_lt}
use Rattle.std.proofs.lemmas.List.{length_push}
use Rattle.std.proofs.lemmas.Option.{same_Some, slice_get_within}
use Rattle.value_types.specs.declared.shape.Shape.{Shape}
use Rattle.doc_tree.specs.declared.refusal.Refusal.{Refusal}
use Rattle.doc_tree.specs.declared.refusal.Refusal.TheVariants.{At, Memory}
use Rattle.doc_tree.specs.declared.rule.Rule.TheVariants.{Parameters}
use Rattle.doc_tree.specs.declared.rule.ParameterRule.TheVariants as r
use Rattle.doc_tree.specs.declared.rule.ParameterRule.{ParameterRule}
use Rattle.doc_tree.specs.Rules.{parameter_number}
use Rattle.system_model.specs.declared.bound.Bound.{Bound}
use Rattle.system_model.specs.declared.bound.BoundValue.{BoundValue}
use Rattle.ssd_tree.specs.declared.tree.SystemTree.{SystemTree}
use Rattle.ssd_tree.proofs.CallerLemmas.{listing_no, listing_none, listing_yes}
use Rattle.parameter_targets.specs.declared.target.Target.{Target}
use Rattle.parameter_targets.proofs.CallerLemmas.{push_cases}
use Rattle.parameter_binding.specs.declared.fault.Fault.{Fault}
use Rattle.parameter_binding.specs.declared.gathered.Gathered.{Gathered}
use Rattle.parameter_binding.specs.declared.sets.BindingSets.{BindingSets}
use Rattle.parameter_binding.specs.declared.winners.Best.{Best}
use Rattle.parameter_binding.specs.declared.winners.Winners.{Winners}
use Rattle.parameter_binding.specs.Answers.{Faults, IsToldIn, Refuses, file_in}
use Rattle.parameter_binding.specs.Binds.{AreBound, AreBoundOf, IsBoundAt, IsLater, IsReached, ListsUnreached, ReachesTarget, Triple, Wins, target_at}
use Rattle.parameter_binding.specs.Rules.{Breaks, IsBefore, IsSetBefore, IsFirstParameterViolation, IsFitting, Place, ViolatesParameters}
use Rattle.parameter_binding.specs.Walk.{AreAllGathered, AreAllValues, AreCounted, AreValues, FindsFault, IsBest, IsBoundOf, IsCounted, IsFirstFault, IsRefusalOf, IsUpTo, IsWinner, best_of, place_of, part_number, triple_at}
use Rattle.parameter_binding.proofs.MoveLemmas.{IsReal, real_of_broken}

-- ---- the values of a component

-- the value that wins at a place
abbrev pub IsValueOf : Winners → ℕ → ℕ → BoundValue → Type 0
IsValueOf winners i v b = (best : Best) × (best_of winners (target_at i v) ≡ Some best) × (best.value ≡ b)

zip_push : {A B : Type 0} (R : A → B → Type 0) (xs : List A) (ys : List B) (x : A) (y : B) → AllZip R xs ys → R x y → AllZip R (xs ++ x ∷ []) (ys ++ y ∷ [])
zip_push R [] [] x y all r = (r, tt)
zip_push R [] (b ∷ ys) x y all r = absurd all
zip_push R (a ∷ xs) [] x y all r = absurd all
zip_push R (a ∷ xs) (b ∷ ys) x y all r = (all.0, zip_push R xs ys x y all.1 r)

abbrev pub HasBest : Winners → ℕ → ℕ → Type 0
HasBest winners i v = IsSome (best_of winners (target_at i v))

pub values_none : (winners : Winners) (i : ℕ) (values : List BoundValue) → values ≡ [] → AreValues winners i 0 values
values_none winners i values e = subst (AreValues winners i 0) (sym e) (record { places = []; listed = listing_none (HasBest winners i); each = tt })

pub values_more : (winners : Winners) (i n : ℕ) (old new : List BoundValue) (best : Best) → best_of winners (target_at i n) ≡ Some best → new ≡ old ++ best.value ∷ [] → AreValues winners i n old → AreValues winners i (n + 1) new
values_more winners i n old new best is pushed was = record {
  places = was.places ++ n ∷ [];
  listed = listing_yes (HasBest winners i) n was.places was.listed (subst (λ (o : Option Best). IsSome o) (sym is) refl);
  each = subst (AllZip (IsValueOf winners i) (was.places ++ n ∷ [])) (sym pushed) (zip_push (IsValueOf winners i) was.places old n best.value was.each (best, is, refl));
}

pub values_skip : (winners : Winners) (i n : ℕ) (values : List BoundValue) → best_of winners (target_at i n) ≡ None → AreValues winners i n values → AreValues winners i (n + 1) values
values_skip winners i n values none was = record {
  places = was.places;
  listed = listing_no (HasBest winners i) n was.places was.listed (λ some. let h = subst (λ (o : Option Best). IsSome o) none some in cc);
  each = was.each;
}

pub all_none : (shapes : List Shape) (winners : Winners) (components : List (List BoundValue)) → components ≡ [] → AreAllValues shapes winners 0 components
all_none shapes winners components e = record {
  values_len = ap length e;
  each = λ i s values is there. absurd (let w = slice_get_within components i values there in let l = ap length e in omega (arith, w, l));
}

pub all_more : (shapes : List Shape) (winners : Winners) (n : ℕ) (old new : List (List BoundValue)) (s : Shape) (values : List BoundValue) → slice_get shapes n ≡ Some s → AreValues winners n (length s.variables) values → new ≡ old ++ values ∷ [] → AreAllValues shapes winners n old
    → AreAllValues shapes winners (n + 1) new
all_more shapes winners n old new s values is are pushed was = record {
  values_len = ap length pushed ∙ length_push old values ∙ ap (λ k. k + 1) was.values_len;
  each = λ i x ys at there. each i x ys at (push_cases old values i ys (subst (λ z. slice_get z i ≡ Some ys) pushed there));
}
  where
    each : (i : ℕ) (x : Shape) (ys : List BoundValue) → slice_get shapes i ≡ Some x → (slice_get old i ≡ Some ys) ⊎ ((i ≡ length old) × (values ≡ ys)) → AreValues winners i (length x.variables) ys
    each i x ys at (inl there) = was.each i x ys at there
    each i x ys at (inr h) =
        let here : i ≡ n = h.0 ∙ was.values_len in
        let same : s ≡ x = same_Some s x (sym is ∙ ap (slice_get shapes) (sym here) ∙ at) in
        subst (λ k. AreValues winners k (length x.variables) ys) (sym here) (subst (λ (z : Shape). AreValues winners n (length z.variables) ys) same (subst (AreValues winners n (length s.variables)) h.1 are))

-- ---- all triples have come

-- a triple that there is
come_all : (t : SystemTree) (sets : List BindingSets) (b : ℕ) (c : Triple) → length t.bindings ≤ b → IsReal t sets c → IsLater (triple_at b 0 0) c
come_all t sets b c past real = let w = slice_get_within t.bindings c.binding real.binding real.is.is in inl (omega (arith, w, past))

module _ (t : SystemTree) (shapes : List Shape) (sets : List BindingSets) (g : Gathered) (are : AreAllGathered t shapes sets g) (none : g.fault ≡ None) where
  past : length t.bindings ≤ are.b
  past = are.all none

  later_reached : (target : Target) (c : Triple) → ReachesTarget t shapes sets target c → IsLater (triple_at are.b 0 0) c
  later_reached target c h = come_all t sets are.b c past (record { binding = h.binding; parameter = h.parameter; name = h.name; change = h.change; is = h.is })

  pub fitting_all : IsFitting t shapes sets
  fitting_all = λ rule p v. none_breaks v.0 rule p (come_all t sets are.b v.0 past (real_of_broken t shapes sets rule p v.0 v.1)) v.1
    where
      none_breaks : (c : Triple) (rule : ParameterRule) (p : Place) → IsLater (triple_at are.b 0 0) c → Breaks t shapes sets rule p c → ⊥
      none_breaks = subst (FindsFault t shapes sets (IsLater (triple_at are.b 0 0))) none are.come.fault

  pub winner_at : (target : Target) (o : Option Best) → best_of g.winners target ≡ o → IsWinner t shapes sets (IsLater (triple_at are.b 0 0)) target o
  winner_at target o e = subst (IsWinner t shapes sets (IsLater (triple_at are.b 0 0)) target) e (are.come.winners none target)

  wins_of : (target : Target) (best : Best) → (w : IsBest t shapes sets (IsLater (triple_at are.b 0 0)) target best) → Wins t shapes sets target w.triple
  wins_of target best w = record { reaches = w.reaches; beats = λ d reaches. w.beats d (later_reached target d reaches) reaches }

  bound_at : (i v : ℕ) (b : BoundValue) → IsValueOf g.winners i v b → IsBoundAt t shapes sets i v b
  bound_at i v b h = subst (IsBoundAt t shapes sets i v) h.2 (by (winner_at (target_at i v) (Some h.0) h.1))
    where
      by : IsBest t shapes sets (IsLater (triple_at are.b 0 0)) (target_at i v) h.0 → IsBoundAt t shapes sets i v h.0.value
      by w = record {
        variable = w.reaches.sees.variable;
        is = w.reaches.sees.is;
        kind = w.kind;
        reference = w.reference;
        binds = (w.triple, (record { reaches = w.reaches; beats = λ d reaches. w.beats d (later_reached (target_at i v) d reaches) reaches }, w.taken.1));
      }

  -- a place has a winner exactly where something reaches it
  reached_at : (i v : ℕ) → HasBest g.winners i v ↔ IsReached t shapes sets i v
  reached_at i v = (λ some. there (best_of g.winners (target_at i v)) refl some, λ reached. back (best_of g.winners (target_at i v)) refl reached)
    where
      there : (o : Option Best) → best_of g.winners (target_at i v) ≡ o → IsSome o → IsReached t shapes sets i v
      there None e some = cc
      there (Some b) e some = let w = winner_at (target_at i v) (Some b) e in (w.triple, w.reaches)

      back : (o : Option Best) → best_of g.winners (target_at i v) ≡ o → IsReached t shapes sets i v → IsSome o
      back None e reached = absurd (winner_at (target_at i v) None e reached.0 (later_reached (target_at i v) reached.0 reached.1) reached.1)
      back (Some b) e reached = refl

  zip_as : {A B : Type 0} (P Q : A → B → Type 0) (xs : List A) (ys : List B) → ((x : A) (y : B) → P x y → Q x y) → AllZip P xs ys → AllZip Q xs ys
  zip_as P Q [] [] f all = tt
  zip_as P Q [] (y ∷ ys) f all = absurd all
  zip_as P Q (x ∷ xs) [] f all = absurd all
  zip_as P Q (x ∷ xs) (y ∷ ys) f all = (f x y all.0, zip_as P Q xs ys f all.1)

  bound_component : (i : ℕ) (s : Shape) (values : List BoundValue) → slice_get shapes i ≡ Some s → AreValues g.winners i (length s.variables) values → AreBoundOf t shapes sets i values
  bound_component i s values is are_values = record {
    places = are_values.places;
    listed = record {
      rising = are_values.listed.rising;
      each = λ v. (λ c. (reached_at i v).0 ((are_values.listed.each v).0 c).1, λ reached. (are_values.listed.each v).1 (within v reached, (reached_at i v).1 reached));
    };
    each = zip_as (IsValueOf g.winners i) (IsBoundAt t shapes sets i) are_values.places values (bound_at i) are_values.each;
  }
    where
      within : (v : ℕ) → IsReached t shapes sets i v → v < length s.variables
      within v reached =
          let target = reached.1.sees.is in
          let same : target.shape ≡ s = same_Some target.shape s (sym target.of ∙ is) in
          slice_get_within s.variables v reached.1.sees.variable (ap (λ (z : Shape). slice_get z.variables v) (sym same) ∙ target.at)

  counted_all : (n : ℕ) → AreCounted t shapes sets (IsLater (triple_at are.b 0 0)) n → (all : List Triple) × (ListsUnreached t shapes sets all × (n ≡ length all))
  counted_all n c = (c.all, (record { each = λ x. (λ i. ((c.each x).0 i).1, λ u. (c.each x).1 (come_all t sets are.b x past (record { binding = u.binding; parameter = u.parameter; name = u.name; change = u.change; is = u.is }), u)); once = c.once }, c.number))

  pub bound_all : (bound : Bound) → IsBoundOf shapes g bound → AreBound t shapes sets bound
  bound_all bound is =
      let counted = counted_all bound.unreached (subst (IsCounted t shapes sets (IsLater (triple_at are.b 0 0))) is.count (are.come.unreached none)) in
      record {
        len = is.values.values_len;
        values = λ i values there. values_at i values there (slice_get shapes i) refl;
        all = counted.0;
        lists = counted.1.0;
        unreached = counted.1.1;
      }
    where
      values_at : (i : ℕ) (values : List BoundValue) → slice_get bound.components i ≡ Some values → (o : Option Shape) → slice_get shapes i ≡ o → AreBoundOf t shapes sets i values
      values_at i values there (Some s) e = bound_component i s values e (is.values.each i s values e there)
      values_at i values there None e = absurd (by (slice_get_within bound.components i values there))
        where
          some_at : {A : Type 0} (xs : List A) (k : ℕ) → k < length xs → slice_get xs k ≡ None → ⊥
          some_at [] k l n = omega (arith, l)
          some_at (x ∷ xs) zero l n = cc
          some_at (x ∷ xs) (suc k) l n = some_at xs k (omega (arith, l)) n

          by : i < length bound.components → ⊥
          by l = some_at shapes i (let n = is.values.values_len in omega (arith, l, n)) e

-- ---- the first fault is the first violation

stages : (a b : Bool) → IsSetBefore a b → part_number b ≤ part_number a → ⊥
stages false true h l = omega (arith, l)
stages false false h l = absurd h
stages true true h l = absurd h
stages true false h l = absurd h

not_before : (p q : Place) (r s : ParameterRule) → IsUpTo p r q s → IsBefore q p → ⊥
not_before p q r s (inl x) (inl y) = omega (arith, x, y)
not_before p q r s (inl x) (inr y) = let e = y.0 in omega (arith, x, e)
not_before p q r s (inr x) (inl y) = let e = x.0 in omega (arith, y, e)
not_before p q r s (inr x) (inr y) = by x.1 y.1
  where
    by : (part_number p.in_mapping < part_number q.in_mapping) ⊎ ((part_number p.in_mapping ≡ part_number q.in_mapping) × ((p.node < q.node) ⊎ ((p.node ≡ q.node) × (parameter_number r ≤ parameter_number s)))) → IsSetBefore q.in_mapping p.in_mapping ⊎ ((q.in_mapping ≡ p.in_mapping) × (q.node < p.node)) → ⊥
    by (inl a) (inl b) = stages q.in_mapping p.in_mapping b (omega (arith, a))
    by (inl a) (inr b) = let e = ap part_number b.0 in omega (arith, a, e)
    by (inr a) (inl b) = let e = a.0 in stages q.in_mapping p.in_mapping b (omega (arith, e))
    by (inr a) (inr b) = at a.1
      where
        at : (p.node < q.node) ⊎ ((p.node ≡ q.node) × (parameter_number r ≤ parameter_number s)) → ⊥
        at (inl x) = let l = b.1 in omega (arith, x, l)
        at (inr x) = let e = x.0 in let l = b.1 in omega (arith, e, l)

not_less : (p : Place) (r s : ParameterRule) → IsUpTo p r p s → parameter_number s < parameter_number r → ⊥
not_less p r s (inl x) l = omega (arith, x)
not_less p r s (inr (e, inl x)) l = omega (arith, x)
not_less p r s (inr (e, inr (f, inl x))) l = omega (arith, x)
not_less p r s (inr (e, inr (f, inr x))) l = let m = x.1 in omega (arith, m, l)

-- the rules in the order of their numbers
rule_at : ℕ → ParameterRule
rule_at zero = r.Structure
rule_at (suc zero) = r.Incomplete
rule_at (suc (suc zero)) = r.OtherClass
rule_at (suc (suc (suc zero))) = r.OutOfRange
rule_at (suc (suc (suc (suc zero)))) = r.Transformation
rule_at (suc (suc (suc (suc (suc zero))))) = r.NoMapEntry
rule_at (suc (suc (suc (suc (suc (suc n)))))) = r.NamesTwo

rule_back : (a : ParameterRule) → rule_at (parameter_number a - 50) ≡ a
unfolding rule_at
rule_back r.Structure = refl
rule_back r.Incomplete = refl
rule_back r.OtherClass = refl
rule_back r.OutOfRange = refl
rule_back r.Transformation = refl
rule_back r.NoMapEntry = refl
rule_back r.NamesTwo = refl

-- a number is that of one rule
number_once : (a b : ParameterRule) → parameter_number a ≡ parameter_number b → a ≡ b
number_once a b e = sym (rule_back a) ∙ ap (λ n. rule_at (n - 50)) e ∙ rule_back b

breaks_binding : (t : SystemTree) (shapes : List Shape) (sets : List BindingSets) (rule : ParameterRule) (p : Place) (c : Triple) → Breaks t shapes sets rule p c → c.binding ≡ p.binding
breaks_binding t shapes sets r.Structure p c h = absurd h
breaks_binding t shapes sets r.Incomplete p c h = absurd h
breaks_binding t shapes sets r.OtherClass p c h = h.binding
breaks_binding t shapes sets r.OutOfRange p c h = h.binding
breaks_binding t shapes sets r.Transformation p c h = h.binding
breaks_binding t shapes sets r.NoMapEntry p c h = h.binding
breaks_binding t shapes sets r.NamesTwo p c h = h.binding

before_binding : (q p : Place) → IsBefore q p → q.binding ≤ p.binding
before_binding q p (inl h) = omega (arith, h)
before_binding q p (inr h) = let e = h.0 in omega (arith, e)

abbrev place_at : ℕ → Bool → ℕ → Place
place_at b m n = record { binding = b; in_mapping = m; node = n }

-- it is before the first triple of a binding where its own binding is
before_at : (b : ℕ) (c : Triple) → IsLater (triple_at b 0 0) c → c.binding < b
before_at b c (inl h) = h
before_at b c (inr (e, inl h)) = absurd (omega (arith, h))
before_at b c (inr (e, inr h)) = absurd (let l = h.1 in omega (arith, l))

stage_once : (a b : Bool) → part_number a ≡ part_number b → a ≡ b
stage_once false false e = refl
stage_once true true e = refl
stage_once false true e = absurd (omega (arith, e))
stage_once true false e = absurd (omega (arith, e))

module _ (t : SystemTree) (shapes : List Shape) (sets : List BindingSets) (b : ℕ) (f : Fault) (first : IsFirstFault t shapes sets (IsLater (triple_at b 0 0)) f) where
  binding_below : f.binding < b
  binding_below = let e = breaks_binding t shapes sets f.rule (place_of f) first.triple first.broken in let l = before_at b first.triple first.done in omega (arith, e, l)

  up_to : (rule : ParameterRule) (p : Place) → p.binding < b → ViolatesParameters t shapes sets rule p → IsUpTo (place_of f) f.rule p rule
  up_to rule p less v = first.least v.0 rule p (inl (let e = breaks_binding t shapes sets rule p v.0 v.1 in omega (arith, e, less))) v.1

  pub first_violation : IsFirstParameterViolation t shapes sets (place_of f) f.rule
  first_violation = record {
    broken = (first.triple, first.broken);
    least = λ other less v. not_less (place_of f) f.rule other (up_to other (place_of f) binding_below v) less;
    first = λ q other before v. not_before (place_of f) q f.rule other (up_to other q (let l = before_binding q (place_of f) before in let m = binding_below in omega (arith, l, m)) v) before;
  }

  -- there is one first violation
  one_violation : (p : Place) (rule : ParameterRule) → IsFirstParameterViolation t shapes sets p rule → (place_of f ≡ p) × (f.rule ≡ rule)
  one_violation p rule other = by (cases_lt p.binding b)
    where
      same_place : f.binding ≡ p.binding → f.in_mapping ≡ p.in_mapping → f.node ≡ p.node → place_of f ≡ p
      same_place x y z = ap (λ n. place_at n f.in_mapping f.node) x ∙ ap (λ m. place_at p.binding m f.node) y ∙ ap (λ k. place_at p.binding p.in_mapping k) z

      mine : ViolatesParameters t shapes sets f.rule (place_of f)
      mine = (first.triple, first.broken)

      same_rule : place_of f ≡ p → parameter_number f.rule ≤ parameter_number rule → f.rule ≡ rule
      same_rule e up = at (cases_lt (parameter_number f.rule) (parameter_number rule))
        where
          at : (parameter_number f.rule < parameter_number rule) ⊎ (parameter_number rule ≤ parameter_number f.rule) → f.rule ≡ rule
          at (inl less) = absurd (other.least f.rule less (subst (ViolatesParameters t shapes sets f.rule) e mine))
          at (inr more) = number_once f.rule rule (omega (arith, up, more))

      stage_less : (x y : Bool) → part_number x < part_number y → IsSetBefore x y
      stage_less false true l = tt
      stage_less false false l = absurd (omega (arith, l))
      stage_less true true l = absurd (omega (arith, l))
      stage_less true false l = absurd (omega (arith, l))

      decide : IsUpTo (place_of f) f.rule p rule → (place_of f ≡ p) × (f.rule ≡ rule)
      decide (inl x) = absurd (other.first (place_of f) f.rule (inl x) mine)
      decide (inr (x, inl y)) = absurd (other.first (place_of f) f.rule (inr (x, inl (stage_less f.in_mapping p.in_mapping y))) mine)
      decide (inr (x, inr (y, inl z))) = absurd (other.first (place_of f) f.rule (inr (x, inr (stage_once f.in_mapping p.in_mapping y, z))) mine)
      decide (inr (x, inr (y, inr z))) = let e = same_place x (stage_once f.in_mapping p.in_mapping y) z.0 in (e, same_rule e z.1)

      by : (p.binding < b) ⊎ (b ≤ p.binding) → (place_of f ≡ p) × (f.rule ≡ rule)
      by (inl less) = decide (up_to rule p less other.broken)
      by (inr more) = absurd (other.first (place_of f) f.rule (inl (let m = binding_below in omega (arith, m, more))) mine)

  one_file : (p : Place) (file : ℕ) → IsToldIn sets p file → (other : ℕ) → IsToldIn sets p other → file ≡ other
  one_file p file told other again = by (slice_get sets p.binding) told again
    where
      by : (o : Option BindingSets) → IsSomeAnd o (λ given. file_in p.in_mapping given ≡ Some file) → IsSomeAnd o (λ given. file_in p.in_mapping given ≡ Some other) → file ≡ other
      by None x y = absurd x
      by (Some given) x y = same_Some file other (sym x ∙ y)

  pub faults_of : (e : Refusal) → IsRefusalOf f e → Faults t shapes sets e
  faults_of (At file node rule ports) h = (f.rule, record { place = place_of f; first = first_violation; node_is = sym h.1; file_is = subst (IsToldIn sets (place_of f)) (sym h.0) first.told }, h.2, h.3)
  faults_of Memory h = absurd h

  pub refuses_of : (A : Type 0) (e : Refusal) (p : Place) (rule : ParameterRule) (file : ℕ) → IsRefusalOf f e → IsFirstParameterViolation t shapes sets p rule → IsToldIn sets p file → Refuses {A = A} (Err e) file p.node rule
  refuses_of A (At k node told ports) p rule file h other in_file =
      let one = one_violation p rule other in
      (h.0 ∙ one_file p f.file (subst (λ z. IsToldIn sets z f.file) one.0 first.told) file in_file, h.1 ∙ ap (λ (z : Place). z.node) one.0, h.2 ∙ ap (λ z. Parameters z) one.1, h.3)
  refuses_of A Memory p rule file h other in_file = absurd h

-- ---- the answer

pub ok_bound : (t : SystemTree) (shapes : List Shape) (sets : List BindingSets) (g : Gathered) (r : Result Bound Refusal) → AreAllGathered t shapes sets g → g.fault ≡ None → IfOk r (IsBoundOf shapes g) → IfOk r (AreBound t shapes sets)
ok_bound t shapes sets g (Ok bound) are none is = bound_all t shapes sets g are none bound is
ok_bound t shapes sets g (Err e) are none is = tt

pub ok_fitting : (t : SystemTree) (shapes : List Shape) (sets : List BindingSets) (g : Gathered) (r : Result Bound Refusal) → AreAllGathered t shapes sets g → g.fault ≡ None → IfOk r (λ bound. IsFitting t shapes sets)
ok_fitting t shapes sets g (Ok bound) are none = fitting_all t shapes sets g are none
ok_fitting t shapes sets g (Err e) are none = tt

pub ok_exact : (t : SystemTree) (shapes : List Shape) (sets : List BindingSets) (g : Gathered) (r : Result Bound Refusal) → AreAllGathered t shapes sets g → g.fault ≡ None → IfErr r (λ e. e ≡ Memory) → (place : Place) (rule : ParameterRule) (file : ℕ) → IsFirstParameterViolation t shapes sets place rule → Refuses r file place.node rule
ok_exact t shapes sets g (Ok bound) are none memory place rule file first = fitting_all t shapes sets g are none rule place first.broken
ok_exact t shapes sets g (Err e) are none memory place rule file first = subst (λ z. Refuses {A = Bound} (Err z) file place.node rule) (sym memory) tt

pub first_fault : (t : SystemTree) (shapes : List Shape) (sets : List BindingSets) (g : Gathered) (f : Fault) (are : AreAllGathered t shapes sets g) → g.fault ≡ Some f → IsFirstFault t shapes sets (IsLater (triple_at are.b 0 0)) f
first_fault t shapes sets g f are e = subst (FindsFault t shapes sets (IsLater (triple_at are.b 0 0))) e are.come.fault
