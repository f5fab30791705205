-- In a sound system the equations of Initialization Mode have a solution.
use Rattle.std.proofs.Common.{◌≡◌, ℕ, ℤ, true, false, List, [], ◌∷◌, ◌++◌, length, refl, sym, ◌∙◌, ap, subst, inl, inr, ◌<◌, ◌≤◌, append_assoc, append-nil, set, replicate, Contains}
use Rattle.std.specs.Prelude.{Option, Some, None, slice_get}
use Rattle.std.proofs.lemmas.List.{length-set, get_or-set_same, get_or-set_other, length-replicate, get_or-replicate, get_or_past}
use Rattle.std.proofs.lemmas.Bool.{cases_lt}
use Rattle.std.proofs.lemmas.Option.{none-some as none_some, same_Some, slice_get_within}
use Rattle.system_model.specs.declared.system.Port.{Port}
use Rattle.system_model.specs.Ports.{port_numbers}
use Rattle.system_model.specs.Needs.{NeedsInitially, is_unclocked, is_unclocked_at}
use Rattle.system_model.specs.Sound.{IsSound}
use Rattle.system_model.proofs.CallerLemmas.{IsOrderFrom, order_from}
use Rattle.run_model.specs.Run.{Run}
use Rattle.system_model.specs.Values.{value}
use Rattle.run_model.specs.Initial.{SolvesInitially, initial_value}
use Rattle.run_model.specs.Machines.{AreMachines}
use Rattle.run_model.proofs.Decided.{same_number}
use Rattle.run_model.proofs.Unique.{IsClosed, AgreeOn, closed-push, push_cases, none_in}
use Rattle.run_model.proofs.Initially.{NoneOutside, Both, initial_same, initial_none, unclocked_at-is}

-- the ports of a list have values that solve their equations
abbrev SolvedOn : Run → List ℕ → List (Option ℤ) → Type 0
SolvedOn r taken W = (q : ℕ) (port : Port) → Contains taken q → slice_get r.system.ports q ≡ Some port → value W q ≡ initial_value port.role r W q port

-- values that solve the equations of a list of ports, and are none at ports with Clocks
record Solution (r : Run) (taken : List ℕ) : Type 0 where
  values : List (Option ℤ)
  places : length values ≡ length r.system.ports
  outside : NoneOutside r values
  solved : SolvedOn r taken values

solve_from : (r : Run) → IsSound r.system → AreMachines r → (taken rest : List ℕ) → Solution r taken → IsClosed (NeedsInitially r.system) taken → IsOrderFrom (NeedsInitially r.system) taken rest → Solution r (taken ++ rest)
solve_from r sound machines taken [] now closed order = subst (Solution r) (sym (append-nil taken)) now
solve_from r sound machines taken (p ∷ rest) now closed order =
    let W : List (Option ℤ) = now.values in
    let next : Solution r (taken ++ p ∷ []) = (elim (slice_get r.system.ports p) as (λ o. slice_get r.system.ports p ≡ o → Solution r (taken ++ p ∷ [])) [
      | None ↦ λ e. record {
        values = W;
        places = now.places;
        outside = now.outside;
        solved = λ q port m is. push_cases taken p q m (λ old. now.solved q port old is) (λ same. absurd (none_some _ (sym e ∙ ap (slice_get r.system.ports) same ∙ is)));
      }
      | Some here ↦ λ e.
          let new : Option ℤ = initial_value here.role r W p here in
          let values : List (Option ℤ) = set W p new in
          let inside : p < length W = subst (λ n. p < n) (sym now.places) (slice_get_within r.system.ports p here e) in
          let other : (q : ℕ) → (p ≡ q → ⊥) → value W q ≡ value values q = λ q not_p. sym (get_or-set_other W p q new None (λ same. not_p (sym same))) in
          let agree : AgreeOn taken W values = λ q m. other q (λ same. order.0 (subst (Contains taken) (sym same) m)) in
          let outside : NoneOutside r values = λ q port is out. (elim (same_number p q) as (λ c. value values q ≡ None) [
            | inr not_p ↦ sym (other q not_p) ∙ now.outside q port is out
            | inl same ↦
                let is_here : here ≡ port = same_Some _ _ (sym e ∙ ap (slice_get r.system.ports) same ∙ is) in
                ap (λ x. value values x) (sym same) ∙ get_or-set_same W p new None inside ∙ initial_none r W p here e here.role (ap is_unclocked is_here ∙ out)
          ]) in
          let both : Both r W values = record { w = now.outside; z = outside } in
          let moved : (q : ℕ) (port : Port) → slice_get r.system.ports q ≡ Some port → ((d : ℕ) → NeedsInitially r.system q d → Contains taken d) → initial_value port.role r W q port ≡ initial_value port.role r values q port =
          λ q port is needed. initial_same r sound machines W values both q port is (λ d n. agree d (needed d n)) port.role refl in
          record {
            values = values;
            places = length-set W p new ∙ now.places;
            outside = outside;
            solved = λ q port m is. push_cases taken p q m
                (λ old. sym (agree q old) ∙ now.solved q port old is ∙ moved q port is (λ d n. closed q d old n))
                (λ same. let is_here : here ≡ port = same_Some _ _ (sym e ∙ ap (slice_get r.system.ports) same ∙ is) in
                subst (λ x. value values x ≡ initial_value port.role r values x port) same
                (subst (λ (x : Port). value values p ≡ initial_value x.role r values p x) is_here (get_or-set_same W p new None inside ∙ moved p here e order.1)));
          }
    ]) refl in
    subst (Solution r) (append_assoc taken (p ∷ []) rest)
    (solve_from r sound machines (taken ++ p ∷ []) rest next (closed-push (NeedsInitially r.system) taken p closed order.1) order.2)

nones : ℕ → List (Option ℤ)
nones n = replicate n None

none_at : (n p : ℕ) → value (nones n) p ≡ None
unfolding nones
none_at n p = (elim (cases_lt p n) as (λ c. value (nones n) p ≡ None) [
  | inl lt ↦ get_or-replicate n p None None lt
  | inr past ↦ get_or_past (nones n) p None (subst (λ k. k ≤ p) (sym (length-replicate n None)) past)
])

length_nones : (n : ℕ) → length (nones n) ≡ n
unfolding nones
length_nones n = length-replicate n None

-- there is a solution
pub solvable_initially : (r : Run) → IsSound r.system → AreMachines r → (W : List (Option ℤ)) × SolvesInitially r W
solvable_initially r sound machines =
    let n = length r.system.ports in
    let order = port_numbers r.system.initial_order in
    let made = solve_from r sound machines [] order
    (record { values = nones n; places = length_nones n; outside = λ q port is out. none_at n q; solved = λ q port m is. absurd (none_in q m) })
    (λ p q m a. absurd (none_in p m)) (order_from (λ p. is_unclocked_at r.system.ports p ≡ true) (NeedsInitially r.system) order sound.initial_order [] order refl) in (
      made.values,
      record {
        places = made.places;
        equations = λ p port is. (elim (is_unclocked port) as (λ b. is_unclocked port ≡ b → value made.values p ≡ initial_value port.role r made.values p port) [
          | true ↦ λ u. made.solved p port (sound.initial_order.each p (unclocked_at-is r.system.ports p port is ∙ u)) is
          | false ↦ λ out. made.outside p port is out ∙ sym (initial_none r made.values p port is port.role out)
        ]) refl;
      },
    )
