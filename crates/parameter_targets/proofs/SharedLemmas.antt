-- The names of the parameters of all components, one component after another.
use Rattle.std.proofs.Common.{◌≡◌, ◌⊎◌, ℕ, zero, suc, ◌<◌, ◌+◌, List, [], ◌∷◌, ◌++◌, length, get_or, Some, refl, sym, ap, ◌∙◌, subst, inl, inr, arith}
use Rattle.std.specs.List.{slice_get}
use Rattle.std.proofs.lemmas.List.{length-append}
use Rattle.std.proofs.lemmas.Option.{same_Some, slice_get_within}
use Rattle.value_types.specs.declared.shape.Shape.{Shape}
use Rattle.value_types.specs.declared.shape.Variable.{Variable}
use Rattle.parameter_targets.specs.declared.names.ParameterNames.{ParameterNames}
use Rattle.parameter_targets.specs.declared.targets.Targets.{Targets}
use Rattle.parameter_targets.specs.Tables.{AreAllNames, AreEntries, AreNames, AreTargets, HasNames}
use Rattle.parameter_targets.proofs.ListLemmas.{element_at, push_cases, read_at}

-- the elements before stay where they are
pub kept : {X : Type 0} (xs : List X) (y : X) (j : ℕ) (x : X) → slice_get xs j ≡ Some x → slice_get (xs ++ y ∷ []) j ≡ Some x
kept [] y j x is = absurd (omega (arith, slice_get_within [] j x is))
kept (z ∷ xs) y zero x is = is
kept (z ∷ xs) y (suc j) x is = kept xs y j x is

pub last : {X : Type 0} (xs : List X) (y : X) → slice_get (xs ++ y ∷ []) (length xs) ≡ Some y
last [] y = refl
last (x ∷ xs) y = last xs y

pub none_named : AreAllNames [] [] []
none_named = record { of_len = refl; each = λ i s is. absurd (let w = slice_get_within [] i s is in omega (arith, w)) }

-- one component more, whose names stand among the tables; those before stand where they did
pub named_more : (shapes : List Shape) (tables now : List ParameterNames) (of : List ℕ) (s : Shape) (at : ℕ) (t : ParameterNames) → ((k : ℕ) (x : ParameterNames) → slice_get tables k ≡ Some x → slice_get now k ≡ Some x) → slice_get now at ≡ Some t → AreNames s.variables t
    → AreAllNames shapes tables of → AreAllNames (shapes ++ s ∷ []) now (of ++ at ∷ [])
named_more shapes tables now of s at t stay there are was = record {
  of_len = length-append of (at ∷ []) ∙ ap (λ k. k + 1) was.of_len ∙ sym (length-append shapes (s ∷ []));
  each = λ i x is. each i x (push_cases shapes s i x is);
}
  where
    each : (i : ℕ) (x : Shape) → (slice_get shapes i ≡ Some x) ⊎ ((i ≡ length shapes) × (s ≡ x)) → HasNames now (of ++ at ∷ []) i x.variables
    each i x (inl a) =
        let h = was.each i x a in
        record { at = h.at; place = kept of at i h.at h.place; table = h.table; is = stay h.at h.table h.is; are = h.are }
    each i x (inr a) = record {
      at = at;
      place = ap (slice_get (of ++ at ∷ [])) (a.0 ∙ sym was.of_len) ∙ last of at;
      table = t;
      is = there;
      are = subst (λ (z : Shape). AreNames z.variables t) a.1 are;
    }

-- the table of an earlier component that has these entries
pub found_names : (shapes : List Shape) (tables : List ParameterNames) (of : List ℕ) (first at : ℕ) (t : ParameterNames) (variables : List Variable) → slice_get of first ≡ Some at → slice_get tables at ≡ Some t → AreEntries variables t.entries.items
    → AreAllNames shapes tables of → AreNames variables t
found_names shapes tables of first at t variables place there entries was =
    let w = slice_get_within of first at place in
    let len = was.of_len in
    let shape = element_at shapes first (omega (arith, w, len)) in
    let h = was.each first shape.0 shape.1 in
    let at_same : h.at ≡ at = same_Some h.at at (sym h.place ∙ place) in
    let same : h.table ≡ t = same_Some h.table t (sym h.is ∙ ap (slice_get tables) at_same ∙ there) in
    let are : AreNames shape.0.variables t = subst (AreNames shape.0.variables) same h.are in
    record { entries = entries; chains = are.chains }

-- where the names of a component stand
pub place_there : (shapes : List Shape) (tables : List ParameterNames) (of : List ℕ) (component at : ℕ) (shape : Shape) → AreAllNames shapes tables of → slice_get shapes component ≡ Some shape → slice_get of component ≡ Some at → at < length tables
place_there shapes tables of component at shape are is place =
    let h = are.each component shape is in
    let at_same : h.at ≡ at = same_Some h.at at (sym h.place ∙ place) in
    let w = slice_get_within tables h.at h.table h.is in
    omega (arith, w, at_same)

-- what is read there
pub named_at : (targets : Targets) (component at : ℕ) (t : ParameterNames) (shape : Shape) → AreTargets targets → slice_get targets.shapes.now component ≡ Some shape → at ≡ get_or targets.names.of.items component at → t ≡ get_or targets.names.tables.items at t → AreNames shape.variables t
named_at targets component at t shape are is at_is t_is =
    let all = are.names in
    let of = targets.names.of.items in
    let tables = targets.names.tables.items in
    let of_len = all.of_len in
    let inside = slice_get_within targets.shapes.now component shape is in
    let place = read_at of of component at refl (omega (arith, of_len, inside)) at_is in
    let there = read_at tables tables at t refl (place_there targets.shapes.now tables of component at shape all is place) t_is in
    let h = all.each component shape is in
    let at_same : h.at ≡ at = same_Some h.at at (sym h.place ∙ place) in
    subst (AreNames shape.variables) (same_Some h.table t (sym h.is ∙ ap (slice_get tables) at_same ∙ there)) h.are
