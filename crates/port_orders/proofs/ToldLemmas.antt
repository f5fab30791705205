-- From what a port's list got to what the port needs by it.
use Rattle.std.proofs.Common.{◌≡◌, ◌⊎◌, ◌↔◌, ℕ, ◌+◌, ◌<◌, ◌≤◌, Bool, false, List, [], length, get_or, Option, Some, None, inl, inr, refl, sym, ap, ◌∙◌, subst, arith}
use Rattle.std.specs.List.{Contains, slice_get}
use Rattle.std.proofs.lemmas.Bool.{cases_lt, false≢true}
use Rattle.std.proofs.lemmas.Option.{same_Some, slice_get_within}
use Rattle.value_types.specs.declared.shape.Knowns.{Knowns}
use Rattle.value_types.specs.declared.shape.Knowns.TheVariants.{AllInputs, Listed}
use Rattle.dependency_order.specs.Graph.{AreBelow, Needs}
use Rattle.dependency_order.specs.Paths.{IsMarked}
use Rattle.dependency_order.proofs.CallerLemmas.{contains_none}
use Rattle.system_model.specs.declared.system.Component.{Component}
use Rattle.system_model.specs.declared.system.Port.{Port}
use Rattle.system_model.specs.Ports.{port_numbers, source_of}
use Rattle.port_orders.specs.Gathered.{Adds, AreTables, Concerns, IsKnown, IsKnownOf, IsNamed, IsTold, knowns_in, place_in, row_at}

abbrev pub AreTold : List Component → List Port → List Bool → Bool → ℕ → List (List ℕ) → Type 0
AreTold components ports taken initializing count lists = (p q : ℕ) → Needs lists p q ↔ ((p < count) × IsTold components ports taken initializing p q)

-- the tables name ports alone
pub table_below : (components : List Component) (ports : List Port) (taken : List Bool) (count c : ℕ) (tables : List (List (List ℕ))) → AreTables components ports taken count tables → AreBelow (get_or tables c []) count
table_below components ports taken count c tables are k q h = ((are.stands c k q).0 h).0

module _ (components : List Component) (ports : List Port) (taken : List Bool) (initializing : Bool) (number : ℕ) (port : Port) (tables : List (List (List ℕ))) (at : slice_get ports number ≡ Some port)
    (are : AreTables components ports taken (length ports) tables) where
  Why : ℕ → Type 0
  Why q = (source_of port.role ≡ Some q) ⊎ (((initializing ≡ false) × Contains (port_numbers port.clocks) q) ⊎ IsNamed components ports taken initializing port q)

  named : (q : ℕ) (o : Option Knowns) → knowns_in components initializing port ≡ o → IsKnownOf components port o (get_or tables port.component.0 []) q → IsNamed components ports taken initializing port q
  named q None e h = absurd h
  named q (Some AllInputs) e h = absurd h
  named q (Some (Listed on)) e h = by (place_in components port h.0) refl h.1.1
    where
      by : (o : Option ℕ) → place_in components port h.0 ≡ o → Contains (row_at (get_or tables port.component.0 []) o) q → IsNamed components ports taken initializing port q
      by None s c = absurd (contains_none q c)
      by (Some place) s c = record { on = on; reference = h.0; place = place; knowns = e; listed = h.1.0; stands = s; there = ((are.stands port.component.0 place q).0 c).1 }

  why : (q : ℕ) → Concerns components initializing port (get_or tables port.component.0 []) q → Why q
  unfolding Why
  why q (inl e) = inl e
  why q (inr (inl e)) = inr (inl e)
  why q (inr (inr h)) = inr (inr (named q (knowns_in components initializing port) refl h))

  referred : (q : ℕ) → IsNamed components ports taken initializing port q → IsKnown components initializing port (get_or tables port.component.0 []) q
  referred q n =
      let l = slice_get_within ports q n.there.port n.there.at in
      let c : Contains (row_at (get_or tables port.component.0 []) (place_in components port n.reference)) q = subst (λ z. Contains (row_at (get_or tables port.component.0 []) z) q) (sym n.stands) ((are.stands port.component.0 n.place q).1 (l, n.there)) in
      subst (λ z. IsKnownOf components port z (get_or tables port.component.0 []) q) (sym n.knowns) (n.reference, (n.listed, c))

  concerns : (q : ℕ) → Why q → Concerns components initializing port (get_or tables port.component.0 []) q
  unfolding Why
  concerns q (inl e) = inl e
  concerns q (inr (inl e)) = inr (inl e)
  concerns q (inr (inr n)) = inr (inr (referred q n))

  pub told_next : (old new : List (List ℕ)) → IsMarked taken number → Adds taken number (Concerns components initializing port (get_or tables port.component.0 [])) old new → AreTold components ports taken initializing number old → AreTold components ports taken initializing (number + 1) new
  unfolding Why
  told_next old new marked adds told p q = (λ h. on ((adds.cases p q).0 h), λ h. back h.1 (cases_lt p number) h.0)
    where
      on : Needs old p q ⊎ ((p ≡ number) × (Concerns components initializing port (get_or tables port.component.0 []) q × IsMarked taken q)) → (p < number + 1) × IsTold components ports taken initializing p q
      on (inl h) = let w = (told p q).0 h in let l = w.0 in (omega (arith, l), w.1)
      on (inr e) =
          let same = e.0 in
          (omega (arith, same), subst (λ z. IsTold components ports taken initializing z q) (sym e.0) (record { port = port; at = at; part = marked; marked = e.1.1; why = why q e.1.0 }))

      back : IsTold components ports taken initializing p q → (p < number) ⊎ (number ≤ p) → p < number + 1 → Needs new p q
      back t (inl l) m = (adds.cases p q).1 (inl ((told p q).1 (l, t)))
      back t (inr l) m =
          let e : p ≡ number = omega arith in
          let same : t.port ≡ port = same_Some t.port port (sym t.at ∙ ap (slice_get ports) e ∙ at) in
          let w : (source_of port.role ≡ Some q) ⊎ (((initializing ≡ false) × Contains (port_numbers port.clocks) q) ⊎ IsNamed components ports taken initializing port q) =
          subst (λ (z : Port). (source_of z.role ≡ Some q) ⊎ (((initializing ≡ false) × Contains (port_numbers z.clocks) q) ⊎ IsNamed components ports taken initializing z q)) same t.why in
          (adds.cases p q).1 (inr (e, (concerns q w, t.marked)))

pub told_left : (components : List Component) (ports : List Port) (taken : List Bool) (initializing : Bool) (number : ℕ) (lists : List (List ℕ)) → get_or taken number false ≡ false → AreTold components ports taken initializing number lists → AreTold components ports taken initializing (number + 1) lists
told_left components ports taken initializing number lists out told p q = (λ h. let w = (told p q).0 h in let l = w.0 in (omega (arith, l), w.1), λ h. back h.1 (cases_lt p number) h.0)
  where
    back : IsTold components ports taken initializing p q → (p < number) ⊎ (number ≤ p) → p < number + 1 → Needs lists p q
    back t (inl l) m = (told p q).1 (l, t)
    back t (inr l) m = let e : p ≡ number = omega arith in absurd (false≢true (sym out ∙ subst (IsMarked taken) e t.part))

-- at the end each port has been looked at
pub told_end : (components : List Component) (ports : List Port) (taken : List Bool) (initializing : Bool) (number : ℕ) (lists : List (List ℕ)) → length ports ≤ number → AreTold components ports taken initializing number lists
    → (p q : ℕ) → Needs lists p q ↔ IsTold components ports taken initializing p q
told_end components ports taken initializing number lists past told p q = (λ h. ((told p q).0 h).1, λ t. (told p q).1 ((let w = slice_get_within ports p t.port t.at in omega (arith, w)), t))
