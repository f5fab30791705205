-- Tables that grow by one port after another.
use Rattle.std.proofs.Common.{◌≡◌, ◌⊎◌, ℕ, zero, suc, ◌+◌, ◌-◌, ◌<◌, ◌≤◌, Bool, true, false, List, [], ◌∷◌, ◌++◌, length, map, replicate, get_or, set, Option, Some, None, inl, inr, refl, sym, ap, ◌∙◌, subst, arith}
use Rattle.std.specs.Prelude.{◌&&◌, ◌==◌, if◌then◌else◌}
use Rattle.std.specs.List.{Contains, slice_get}
use Rattle.std.specs.Option.{option_and_then}
use Rattle.std.proofs.lemmas.Bool.{cases_eq, cases_lt, false≢true}
use Rattle.std.proofs.lemmas.List.{get_or-set_same, get_or-set_other, length-append, length-set, length-map, length-replicate}
use Rattle.std.proofs.lemmas.List.Elements.{Contains-push}
use Rattle.std.proofs.lemmas.Option.{same_Some, none-some as none_some}
use Rattle.dependency_order.specs.Graph.{Needs}
use Rattle.dependency_order.specs.Paths.{IsMarked}
use Rattle.dependency_order.proofs.CallerLemmas.{in_pushed, in_pushed_back, in_same, contains_none}
use Rattle.value_types.specs.Shape.{place_of}
use Rattle.value_types.proofs.CallerLemmas.{placed_within}
use Rattle.value_types.specs.declared.shape.Variable.{Variable}
use Rattle.system_model.specs.declared.system.Component.{Component}
use Rattle.system_model.specs.declared.system.Port.{Port}
use Rattle.system_model.proofs.CallerLemmas.{all_at}
use Rattle.port_orders.specs.Placed.{ArePlaced, IsPlaced}
use Rattle.port_orders.specs.Gathered.{AreInputs, AreTables, IsInputOf, IsPortAt, is_input_in, place_in}

pub component_within : (components : List Component) (ports : List Port) (p : ℕ) (port : Port) → ArePlaced components ports → slice_get ports p ≡ Some port → port.component.0 < length components
component_within components ports p port placed at = (all_at (IsPlaced (length components) (length ports)) ports p port placed.each at).component

module _ (components : List Component) (ports : List Port) (taken : List Bool) (number : ℕ) where
  -- ---- inputs

  pub inputs_pass : (inputs : List (List ℕ)) → ((c : ℕ) → IsInputOf components ports taken c number → ⊥) → AreInputs components ports taken number inputs → AreInputs components ports taken (number + 1) inputs
  inputs_pass inputs none are = record { len = are.len; stands = λ c q. (λ h. let w = (are.stands c q).0 h in let l = w.0 in (omega (arith, l), w.1), λ h. by c q h.1 (cases_lt q number) h.0) }
    where
      by : (c q : ℕ) → IsInputOf components ports taken c q → (q < number) ⊎ (number ≤ q) → q < number + 1 → Needs inputs c q
      by c q i (inl l) m = (are.stands c q).1 (l, i)
      by c q i (inr l) m = let e : q ≡ number = omega arith in absurd (none c (subst (IsInputOf components ports taken c) e i))

  pub inputs_next : (inputs more : List (List ℕ)) (port : Port) → slice_get ports number ≡ Some port → IsMarked taken number → is_input_in components port ≡ true → port.component.0 < length inputs
      → more ≡ set inputs port.component.0 (get_or inputs port.component.0 [] ++ number ∷ []) → AreInputs components ports taken number inputs → AreInputs components ports taken (number + 1) more
  inputs_next inputs more port at marked input within is are = record {
    len = ap length is ∙ length-set inputs port.component.0 (get_or inputs port.component.0 [] ++ number ∷ []) ∙ are.len;
    stands = λ c q. (λ h. on c q (in_pushed_back inputs port.component.0 number c q within (subst (λ z. Needs z c q) is h)), λ h. subst (λ z. Needs z c q) (sym is) (by c q h.1 (cases_lt q number) h.0));
  }
    where
      on : (c q : ℕ) → Needs inputs c q ⊎ ((c ≡ port.component.0) × (number ≡ q)) → (q < number + 1) × IsInputOf components ports taken c q
      on c q (inl h) = let w = (are.stands c q).0 h in let l = w.0 in (omega (arith, l), w.1)
      on c q (inr e) =
          let same = e.1 in
          (omega (arith, same), subst (IsInputOf components ports taken c) e.1 (record { port = port; at = at; of = sym e.0; marked = marked; input = input }))

      by : (c q : ℕ) → IsInputOf components ports taken c q → (q < number) ⊎ (number ≤ q) → q < number + 1 → Needs (set inputs port.component.0 (get_or inputs port.component.0 [] ++ number ∷ [])) c q
      by c q i (inl l) m = in_pushed inputs port.component.0 number c q within ((are.stands c q).1 (l, i))
      by c q i (inr l) m =
          let e : number ≡ q = omega arith in
          let same : port ≡ i.port = same_Some port i.port (sym at ∙ subst (λ z. slice_get ports z ≡ Some i.port) (sym e) i.at) in
          let c_is : port.component.0 ≡ c = ap (λ (z : Port). z.component.0) same ∙ i.of in
          subst (λ z. Needs (set inputs port.component.0 (get_or inputs port.component.0 [] ++ number ∷ [])) z q) c_is
          (subst (Needs (set inputs port.component.0 (get_or inputs port.component.0 [] ++ number ∷ [])) port.component.0) e
          (in_same inputs port.component.0 (get_or inputs port.component.0 [] ++ number ∷ []) number within (Contains-push (get_or inputs port.component.0 []) number)))

  -- ---- tables

  pub tables_pass : (tables : List (List (List ℕ))) → ((c k : ℕ) → IsPortAt components ports taken c k number → ⊥) → AreTables components ports taken number tables → AreTables components ports taken (number + 1) tables
  tables_pass tables none are = record { len = are.len; stands = λ c k q. (λ h. let w = (are.stands c k q).0 h in let l = w.0 in (omega (arith, l), w.1), λ h. by c k q h.1 (cases_lt q number) h.0) }
    where
      by : (c k q : ℕ) → IsPortAt components ports taken c k q → (q < number) ⊎ (number ≤ q) → q < number + 1 → Needs (get_or tables c []) k q
      by c k q i (inl l) m = (are.stands c k q).1 (l, i)
      by c k q i (inr l) m = let e : q ≡ number = omega arith in absurd (none c k (subst (IsPortAt components ports taken c k) e i))

  module _ (tables more : List (List (List ℕ))) (port : Port) (place : ℕ) (at : slice_get ports number ≡ Some port) (marked : IsMarked taken number) (stands : place_in components port port.reference ≡ Some place)
      (within : port.component.0 < length tables) (inside : place < length (get_or tables port.component.0 [])) (are : AreTables components ports taken number tables)
      (is : more ≡ set tables port.component.0 (set (get_or tables port.component.0 []) place (get_or (get_or tables port.component.0 []) place [] ++ number ∷ []))) where
    table : List (List ℕ)
    table = get_or tables port.component.0 []

    table' : List (List ℕ)
    table' = set (get_or tables port.component.0 []) place (get_or (get_or tables port.component.0 []) place [] ++ number ∷ [])

    here : get_or more port.component.0 [] ≡ set (get_or tables port.component.0 []) place (get_or (get_or tables port.component.0 []) place [] ++ number ∷ [])
    here = ap (λ z. get_or z port.component.0 []) is ∙ get_or-set_same tables port.component.0 (set (get_or tables port.component.0 []) place (get_or (get_or tables port.component.0 []) place [] ++ number ∷ [])) [] within

    there : (c : ℕ) → (c ≡ port.component.0 → ⊥) → get_or more c [] ≡ get_or tables c []
    there c ne = ap (λ z. get_or z c []) is ∙ get_or-set_other tables port.component.0 c (set (get_or tables port.component.0 []) place (get_or (get_or tables port.component.0 []) place [] ++ number ∷ [])) [] ne

    old_on : (c k q : ℕ) → Needs (get_or tables c []) k q → (q < number + 1) × IsPortAt components ports taken c k q
    old_on c k q h = let w = (are.stands c k q).0 h in let l = w.0 in (omega (arith, l), w.1)

    new_on : (k q : ℕ) → Needs (get_or tables port.component.0 []) k q ⊎ ((k ≡ place) × (number ≡ q)) → (q < number + 1) × IsPortAt components ports taken port.component.0 k q
    new_on k q (inl h) = old_on port.component.0 k q h
    new_on k q (inr e) =
        let same = e.1 in
        (omega (arith, same), subst (IsPortAt components ports taken port.component.0 k) e.1 (record { port = port; at = at; of = refl; marked = marked; stands = stands ∙ ap Some (sym e.0) }))

    on : (c k q : ℕ) → Needs (get_or more c []) k q → (c ≡ port.component.0) ⊎ (c ≡ port.component.0 → ⊥) → (q < number + 1) × IsPortAt components ports taken c k q
    on c k q h (inl e) =
        subst (λ z. (q < number + 1) × IsPortAt components ports taken z k q) (sym e)
        (new_on k q (in_pushed_back (get_or tables port.component.0 []) place number k q inside (subst (λ z. Needs z k q) here (subst (λ z. Needs (get_or more z []) k q) e h))))
    on c k q h (inr ne) = old_on c k q (subst (λ z. Needs z k q) (there c ne) h)

    kept : (c k q : ℕ) → Needs (get_or tables c []) k q → (c ≡ port.component.0) ⊎ (c ≡ port.component.0 → ⊥) → Needs (get_or more c []) k q
    kept c k q h (inl e) =
        subst (λ z. Needs (get_or more z []) k q) (sym e)
        (subst (λ z. Needs z k q) (sym here) (in_pushed (get_or tables port.component.0 []) place number k q inside (subst (λ z. Needs (get_or tables z []) k q) e h)))
    kept c k q h (inr ne) = subst (λ z. Needs z k q) (sym (there c ne)) h

    added : Needs (get_or more port.component.0 []) place number
    added = subst (λ z. Needs z place number) (sym here) (in_same (get_or tables port.component.0 []) place (get_or (get_or tables port.component.0 []) place [] ++ number ∷ []) number inside (Contains-push (get_or (get_or tables port.component.0 []) place []) number))

    back : (c k q : ℕ) → IsPortAt components ports taken c k q → (q < number) ⊎ (number ≤ q) → q < number + 1 → Needs (get_or more c []) k q
    back c k q i (inl l) m = kept c k q ((are.stands c k q).1 (l, i)) (cases_eq c port.component.0)
    back c k q i (inr l) m =
        let e : number ≡ q = omega arith in
        let same : port ≡ i.port = same_Some port i.port (sym at ∙ subst (λ z. slice_get ports z ≡ Some i.port) (sym e) i.at) in
        let c_is : port.component.0 ≡ c = ap (λ (z : Port). z.component.0) same ∙ i.of in
        let k_is : place ≡ k = same_Some place k (sym stands ∙ ap (λ (z : Port). place_in components z z.reference) same ∙ i.stands) in
        subst (λ z. Needs (get_or more z []) k q) c_is (subst (λ z. Needs (get_or more port.component.0 []) z q) k_is (subst (Needs (get_or more port.component.0 []) place) e added))

    pub tables_next : AreTables components ports taken (number + 1) more
    tables_next = record {
      len = ap length is ∙ length-set tables port.component.0 (set (get_or tables port.component.0 []) place (get_or (get_or tables port.component.0 []) place [] ++ number ∷ [])) ∙ are.len;
      stands = λ c k q. (λ h. on c k q h (cases_eq c port.component.0), λ h. back c k q h.1 (cases_lt q number) h.0);
    }

-- ---- the code's steps

and_parts : (a b : Bool) → (a && b) ≡ true → (a ≡ true) × (b ≡ true)
and_parts true b e = (refl, e)
and_parts false b e = absurd (false≢true e)

if_parts : (part : Bool) (found : Option ℕ) (place : ℕ) → (if part then found else None) ≡ Some place → (part ≡ true) × (found ≡ Some place)
if_parts true found place e = (refl, e)
if_parts false found place e = absurd (none_some place e)

pub inputs_taken : (components : List Component) (ports : List Port) (taken : List Bool) (number : ℕ) (inputs more : List (List ℕ)) (port : Port) (test : Bool) → slice_get ports number ≡ Some port → test ≡ (get_or taken number false && is_input_in components port) → test ≡ true
    → port.component.0 < length inputs → more ≡ set inputs port.component.0 (get_or inputs port.component.0 [] ++ number ∷ []) → AreInputs components ports taken number inputs → AreInputs components ports taken (number + 1) more
inputs_taken components ports taken number inputs more port test at is marked within pushed are =
    let both = and_parts (get_or taken number false) (is_input_in components port) (sym is ∙ marked) in
    inputs_next components ports taken number inputs more port at both.0 both.1 within pushed are

pub inputs_left : (components : List Component) (ports : List Port) (taken : List Bool) (number : ℕ) (inputs : List (List ℕ)) (port : Port) (test : Bool) → slice_get ports number ≡ Some port → test ≡ (get_or taken number false && is_input_in components port) → test ≡ false
    → AreInputs components ports taken number inputs → AreInputs components ports taken (number + 1) inputs
inputs_left components ports taken number inputs port test at is out are = inputs_pass components ports taken number inputs (λ c i. none c i) are
  where
    none : (c : ℕ) → IsInputOf components ports taken c number → ⊥
    none c i =
        let same : i.port ≡ port = same_Some i.port port (sym i.at ∙ at) in
        let both : (get_or taken number false && is_input_in components port) ≡ true = ap (λ b. b && is_input_in components port) i.marked ∙ ap (is_input_in components) (sym same) ∙ i.input in
        false≢true (sym out ∙ is ∙ both)

pub tables_taken : (components : List Component) (ports : List Port) (taken : List Bool) (number : ℕ) (tables more : List (List (List ℕ))) (port : Port) (place : ℕ) (found : Option ℕ) → slice_get ports number ≡ Some port
    → found ≡ (if get_or taken number false then place_in components port port.reference else None) → found ≡ Some place → port.component.0 < length tables → place < length (get_or tables port.component.0 [])
    → more ≡ set tables port.component.0 (set (get_or tables port.component.0 []) place (get_or (get_or tables port.component.0 []) place [] ++ number ∷ [])) → AreTables components ports taken number tables → AreTables components ports taken (number + 1) more
tables_taken components ports taken number tables more port place found at is some within inside pushed are =
    let both = if_parts (get_or taken number false) (place_in components port port.reference) place (sym is ∙ some) in
    tables_next components ports taken number tables more port place at both.0 both.1 within inside are pushed

pub tables_left : (components : List Component) (ports : List Port) (taken : List Bool) (number : ℕ) (tables : List (List (List ℕ))) (port : Port) (found : Option ℕ) → slice_get ports number ≡ Some port
    → found ≡ (if get_or taken number false then place_in components port port.reference else None) → found ≡ None → AreTables components ports taken number tables → AreTables components ports taken (number + 1) tables
tables_left components ports taken number tables port found at is nothing are = tables_pass components ports taken number tables (λ c k i. none c k i) are
  where
    none : (c k : ℕ) → IsPortAt components ports taken c k number → ⊥
    none c k i =
        let same : i.port ≡ port = same_Some i.port port (sym i.at ∙ at) in
        let e : (if get_or taken number false then place_in components port port.reference else None) ≡ Some k =
        ap (λ b. if b then place_in components port port.reference else None) i.marked ∙ ap (λ (z : Port). place_in components z z.reference) (sym same) ∙ i.stands in
        none_some k (sym nothing ∙ is ∙ e)

-- ---- a table that reaches further

empty_row : (n k : ℕ) → get_or {A = List ℕ} (replicate n []) k [] ≡ []
empty_row zero k = refl
empty_row (suc n) zero = refl
empty_row (suc n) (suc k) = empty_row n k

same_rows : (table : List (List ℕ)) (n k : ℕ) → get_or (table ++ replicate n []) k [] ≡ get_or table k []
same_rows [] n k = empty_row n k
same_rows (x ∷ xs) n zero = refl
same_rows (x ∷ xs) n (suc k) = same_rows xs n k

pub tables_reach : (components : List Component) (ports : List Port) (taken : List Bool) (number : ℕ) (tables : List (List (List ℕ))) (at n : ℕ) → at < length tables → AreTables components ports taken number tables
    → AreTables components ports taken number (set tables at (get_or tables at [] ++ replicate n []))
tables_reach components ports taken number tables at n within are = record {
  len = length-set tables at (get_or tables at [] ++ replicate n []) ∙ are.len;
  stands = λ c k q. (λ h. (are.stands c k q).0 (subst (λ z. Contains z q) (row c k (cases_eq c at)) h), λ h. subst (λ z. Contains z q) (sym (row c k (cases_eq c at))) ((are.stands c k q).1 h));
}
  where
    row : (c k : ℕ) → (c ≡ at) ⊎ (c ≡ at → ⊥) → get_or (get_or (set tables at (get_or tables at [] ++ replicate n [])) c []) k [] ≡ get_or (get_or tables c []) k []
    row c k (inl e) =
        subst (λ z. get_or (get_or (set tables at (get_or tables at [] ++ replicate n [])) z []) k [] ≡ get_or (get_or tables z []) k []) (sym e)
        (ap (λ z. get_or z k []) (get_or-set_same tables at (get_or tables at [] ++ replicate n []) [] within) ∙ same_rows (get_or tables at []) n k)
    row c k (inr ne) = ap (λ z. get_or z k []) (get_or-set_other tables at c (get_or tables at [] ++ replicate n []) [] ne)

-- one empty list more
pub one_empty : (n : ℕ) → replicate n [] ++ ([] ∷ []) ≡ replicate {A = List ℕ} (suc n) []
one_empty zero = refl
one_empty (suc n) = ap (λ (z : List (List ℕ)). [] ∷ z) (one_empty n)

-- ---- the beginning

no_tables : (components : List Component) (c k q : ℕ) → Needs (get_or (map (λ (z : Component). []) components) c []) k q → ⊥
no_tables [] c k q h = contains_none q h
no_tables (x ∷ xs) zero k q h = contains_none q h
no_tables (x ∷ xs) (suc c) k q h = no_tables xs c k q h

pub tables_begin : (components : List Component) (ports : List Port) (taken : List Bool) (tables : List (List (List ℕ))) → tables ≡ map (λ (z : Component). []) components → AreTables components ports taken 0 tables
tables_begin components ports taken tables is = subst (AreTables components ports taken 0) (sym is) (record {
  len = length-map {A = Component} components (λ (z : Component). []);
  stands = λ c k q. (λ h. absurd (no_tables components c k q h), λ h. let l = h.0 in absurd (omega (arith, l)));
})
