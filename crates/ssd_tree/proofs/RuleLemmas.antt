-- The rules by their numbers; past the last element none is broken.
use Rattle.std.proofs.Common.{◌≡◌, ◌⊎◌, ◌↔◌, ℕ, zero, suc, ◌+◌, ◌-◌, ◌<◌, ◌≤◌, List, length, get_or, slice_get, Some, false, IsTrue, ◌==◌, codes, refl, sym, ap, ◌∙◌, subst, inl, inr, arith}
use Rattle.std.specs.List.{Contains}
use Rattle.std.proofs.lemmas.Bool.{both_ways, eqb-true, eq-eqb}
use Rattle.std.proofs.lemmas.Option.{same_Some}
use Rattle.doc_grammar.specs.Nodes.{Node}
use Rattle.doc_tree.specs.declared.rule.SystemRule.{SystemRule}
use Rattle.doc_tree.specs.declared.rule.SystemRule.TheVariants as r
use Rattle.doc_tree.specs.declared.rule.TheConstants.{SYSTEM_RULES}
use Rattle.doc_tree.specs.Rules.{system_number}
use Rattle.doc_tables.proofs.CallerLemmas.{AreApart, IsListed}
use Rattle.doc_tables.specs.Elements.{parent}
use Rattle.ssd_tree.specs.Elements.{IsMappingOf, IsPart}
use Rattle.ssd_tree.specs.declared.tree.Setting.{Setting}
use Rattle.ssd_tree.specs.Listings.{IsListing}
use Rattle.ssd_tree.specs.Rules.{IsFmu, ViolatesStructure, IsTooMany, HasNoPath, MappingHasNoSource, ReadsBelowSystem, HasOtherType, HasNoSource, IsIncomplete}
use Rattle.ssd_tree.proofs.ListingLemmas.{one_listing, one_place, contains_at}
use Rattle.ssd_tree.proofs.ElementLemmas.{parent_within, system_within, component_within, of_part_within, of_system_within}

-- ---- numbers

place_in : SystemRule → ℕ
place_in r.Structure = 0
place_in r.ElementTwice = 1
place_in r.OtherType = 2
place_in r.NoSource = 3
place_in r.ModelExchange = 4
place_in r.Incomplete = 5
place_in r.Transformation = 6
place_in r.NoEnd = 7
place_in r.WrongEnd = 8
place_in r.TooManyComponents = 9

-- the rules are numbered from 30 on, but the last
IsNumbered : ℕ → ℕ → Type 0
IsNumbered place number = ((place < 9) × (number ≡ 30 + place)) ⊎ ((place ≡ 9) × (number ≡ 48))

number_in : (rule : SystemRule) → IsNumbered (place_in rule) (system_number rule)
unfolding place_in IsNumbered
number_in r.Structure = inl (omega arith, refl)
number_in r.ElementTwice = inl (omega arith, refl)
number_in r.OtherType = inl (omega arith, refl)
number_in r.NoSource = inl (omega arith, refl)
number_in r.ModelExchange = inl (omega arith, refl)
number_in r.Incomplete = inl (omega arith, refl)
number_in r.Transformation = inl (omega arith, refl)
number_in r.NoEnd = inl (omega arith, refl)
number_in r.WrongEnd = inl (omega arith, refl)
number_in r.TooManyComponents = inr (refl, refl)

number_at : (i : ℕ) → i < 10 → IsNumbered i (system_number (get_or SYSTEM_RULES i r.Structure))
unfolding IsNumbered
number_at zero h = inl (omega arith, refl)
number_at (suc zero) h = inl (omega arith, refl)
number_at (suc (suc zero)) h = inl (omega arith, refl)
number_at (suc (suc (suc zero))) h = inl (omega arith, refl)
number_at (suc (suc (suc (suc zero)))) h = inl (omega arith, refl)
number_at (suc (suc (suc (suc (suc zero))))) h = inl (omega arith, refl)
number_at (suc (suc (suc (suc (suc (suc zero)))))) h = inl (omega arith, refl)
number_at (suc (suc (suc (suc (suc (suc (suc zero))))))) h = inl (omega arith, refl)
number_at (suc (suc (suc (suc (suc (suc (suc (suc zero)))))))) h = inl (omega arith, refl)
number_at (suc (suc (suc (suc (suc (suc (suc (suc (suc zero))))))))) h = inr (refl, refl)
number_at (suc (suc (suc (suc (suc (suc (suc (suc (suc (suc i)))))))))) h = absurd (omega arith)

listed_at : (rule : SystemRule) → get_or SYSTEM_RULES (place_in rule) r.Structure ≡ rule
unfolding place_in
listed_at r.Structure = refl
listed_at r.ElementTwice = refl
listed_at r.OtherType = refl
listed_at r.NoSource = refl
listed_at r.ModelExchange = refl
listed_at r.Incomplete = refl
listed_at r.Transformation = refl
listed_at r.NoEnd = refl
listed_at r.WrongEnd = refl
listed_at r.TooManyComponents = refl

lower_first : (p i m n : ℕ) → IsNumbered p m → IsNumbered i n → m < n → p < i
unfolding IsNumbered
lower_first p i m n (inl a) (inl b) lower = let x = a.1 in let y = b.1 in omega (arith, x, y)
lower_first p i m n (inl a) (inr b) lower = let x = a.0 in let y = b.0 in omega (arith, x, y)
lower_first p i m n (inr a) (inl b) lower = let x = a.1 in let y = b.1 in let z = b.0 in absurd (omega (arith, x, y, z))
lower_first p i m n (inr a) (inr b) lower = let x = a.1 in let y = b.1 in absurd (omega (arith, x, y))

one_number : (p i m n : ℕ) → IsNumbered p m → IsNumbered i n → m ≡ n → p ≡ i
unfolding IsNumbered
one_number p i m n (inl a) (inl b) same = let x = a.1 in let y = b.1 in omega (arith, x, y)
one_number p i m n (inl a) (inr b) same = let x = a.1 in let y = b.1 in let z = a.0 in absurd (omega (arith, x, y, z))
one_number p i m n (inr a) (inl b) same = let x = a.1 in let y = b.1 in let z = b.0 in absurd (omega (arith, x, y, z))
one_number p i m n (inr a) (inr b) same = a.0 ∙ sym b.0

within_in : (p m : ℕ) → IsNumbered p m → p < 10
unfolding IsNumbered
within_in p m (inl a) = let x = a.0 in omega (arith, x)
within_in p m (inr a) = let x = a.0 in omega (arith, x)

pub rules_listed : IsListed system_number SYSTEM_RULES r.Structure
rules_listed = record {
  place = place_in;
  within = λ rule. within_in (place_in rule) (system_number rule) (number_in rule);
  is = listed_at;
  lower = λ rule i within less.
      lower_first (place_in rule) i (system_number rule) (system_number (get_or SYSTEM_RULES i r.Structure)) (number_in rule) (number_at i within) less;
}

pub rules_apart : AreApart system_number
rules_apart one other same =
    sym (listed_at one)
    ∙ ap (λ (i : ℕ). get_or SYSTEM_RULES i r.Structure) (one_number (place_in one) (place_in other) (system_number one) (system_number other) (number_in one) (number_in other) same)
    ∙ listed_at other

-- ---- the 257th component

pub too_many : (s : Setting) (t : List Node) (k : ℕ) (xs : List ℕ) → IsListing (IsFmu s t) xs → IsTooMany s t k → slice_get xs (256 - s.fmus) ≡ Some k
too_many s t k xs all many = subst (λ (ys : List ℕ). slice_get ys (256 - s.fmus) ≡ Some k) (one_listing (IsFmu s t) many.0 xs many.1 all) many.2

pub too_many_at : (s : Setting) (t : List Node) (k place : ℕ) (xs ys : List ℕ) → IsListing (IsFmu s t) xs → ys ≡ xs → slice_get ys place ≡ Some k → IsTrue (place == (256 - s.fmus)) ↔ IsTooMany s t k
too_many_at s t k place xs ys all same at =
    let here : slice_get xs place ≡ Some k = subst (λ (zs : List ℕ). slice_get zs place ≡ Some k) same at in (
      λ e. (xs, all, subst (λ (i : ℕ). slice_get xs i ≡ Some k) (eqb-true place (256 - s.fmus) e) here),
      λ many. eq-eqb place (256 - s.fmus) (one_place xs place (256 - s.fmus) k all.rising here (too_many s t k xs all many)),
    )

pub few : (s : Setting) (t : List Node) (k : ℕ) (xs ys : List ℕ) → IsListing (IsFmu s t) xs → ys ≡ xs → (Contains ys k → ⊥) → IsTrue false ↔ IsTooMany s t k
few s t k xs ys all same none =
    (λ e. absurd (both_ways _ refl e), λ many. absurd (none (subst (λ (zs : List ℕ). Contains zs k) (sym same) (contains_at xs (256 - s.fmus) k (too_many s t k xs all many)))))

-- ---- sources

pub no_mapping : (t : List Node) (k binding : ℕ) → parent t k ≡ Some binding → (IsMappingOf t k binding → ⊥) → MappingHasNoSource t k → ⊥
no_mapping t k binding up none has =
    let same : has.0 ≡ binding = same_Some has.0 binding (sym has.1.1 ∙ up) in
    none (subst (λ (z : ℕ). IsMappingOf t k z) same has.1)

pub reads_mapping : (t : List Node) (k binding : ℕ) → parent t k ≡ Some binding → (HasNoPath t k → ⊥) → MappingHasNoSource t k → ReadsBelowSystem t k binding
reads_mapping t k binding up none has = at has.2
  where
    same : has.0 ≡ binding
    same = same_Some has.0 binding (sym has.1.1 ∙ up)

    at : HasNoPath t k ⊎ ReadsBelowSystem t k has.0 → ReadsBelowSystem t k binding
    at (inl h) = absurd (none h)
    at (inr h) = subst (λ (z : ℕ). ReadsBelowSystem t k z) same h

-- ---- past the last element

module _ (s : Setting) (t : List Node) (k : ℕ) (past : length t ≤ k) where
  outside : k < length t → ⊥
  outside h = omega arith

  no_part : IsPart t k → ⊥
  no_part (inl is) = outside (system_within t k is)
  no_part (inr is) = outside (component_within t k is)

  other_past : HasOtherType s t k → ⊥
  other_past (inl a) = outside (component_within t k a.0.0)
  other_past (inr a) = outside (of_part_within t k (codes "ParameterBindings") a.0.1)

  source_past : HasNoSource t k → ⊥
  source_past (inl a) = outside (component_within t k a.0)
  source_past (inr (inl a)) = outside (of_part_within t k (codes "ParameterBindings") a.0.1)
  source_past (inr (inr a)) = outside (parent_within t k a.0 a.1.1)

  incomplete_past : (k ≡ 0 → ⊥) → IsIncomplete t k → ⊥
  incomplete_past inside (inl (inl a)) = inside a.0
  incomplete_past inside (inl (inr (inl a))) = outside (system_within t k a.0)
  incomplete_past inside (inl (inr (inr a))) = outside (component_within t k a.0)
  incomplete_past inside (inr (inl a)) = outside (of_part_within t k (codes "Connectors") a.0.1)
  incomplete_past inside (inr (inr (inl a))) = outside (of_system_within t k (codes "Connections") a.0.1)
  incomplete_past inside (inr (inr (inr a))) = outside (of_part_within t k (codes "ParameterBindings") a.0.1)

  pub breaks_none : (k ≡ 0 → ⊥) → (rule : SystemRule) → ViolatesStructure s t rule k → ⊥
  breaks_none inside r.Structure h = inside h.0
  breaks_none inside r.ElementTwice h = no_part h.0
  breaks_none inside r.OtherType h = other_past h
  breaks_none inside r.NoSource h = source_past h
  breaks_none inside r.ModelExchange h = outside (component_within t k h.0.0)
  breaks_none inside r.Incomplete h = incomplete_past inside h
  breaks_none inside r.Transformation h = outside (of_system_within t k (codes "Connections") h.0.1)
  breaks_none inside r.NoEnd h = outside (of_system_within t k (codes "Connections") h.0.1)
  breaks_none inside r.WrongEnd h = outside (of_system_within t k (codes "Connections") h.0.1)
  breaks_none inside r.TooManyComponents (inl h) = outside (component_within t k ((h.1.each k).0 (contains_at h.0 (256 - s.fmus) k h.2)).0)
  breaks_none inside r.TooManyComponents (inr h) = outside (component_within t k h.0)
