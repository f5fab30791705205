-- In a sound system the equations of an instant have one solution at most.
use Rattle.std.proofs.Common.{◌≡◌, ℕ, zero, suc, ℤ, false, List, [], ◌∷◌, ◌++◌, length, refl, sym, ◌∙◌, ap, subst, inl, inr, arith, ◌<◌, ◌≤◌, append_assoc, append-nil, Contains}
use Rattle.std.specs.Prelude.{Option, Some, None, if◌then◌else◌, slice_get}
use Rattle.std.proofs.lemmas.List.{ext_get_or, get_or_past}
use Rattle.std.proofs.lemmas.List.Elements.{Contains-push_cases, Contains-append_left}
use Rattle.std.proofs.lemmas.Option.{none-some as none_some}
use Rattle.system_model.specs.declared.system.Role.{Role}
use Rattle.system_model.specs.declared.system.Role.TheVariants.{Input, Output, ClockInput, ClockOutput, TimeClock}
use Rattle.system_model.specs.declared.system.Port.{Port}
use Rattle.system_model.specs.Ports.{port_numbers, is_output_role, is_clock_role, source_of}
use Rattle.system_model.specs.Needs.{Needs, ByFeed}
use Rattle.system_model.specs.Sound.{IsSound}
use Rattle.system_model.proofs.CallerLemmas.{IsOrderFrom, order_from}
use Rattle.run_model.specs.Run.{Run, Situation}
use Rattle.system_model.specs.Values.{value, is_present}
use Rattle.run_model.specs.Equations.{Solves, SolvesAt, IsTickValue, fed}
use Rattle.run_model.specs.Machines.{AreMachines, AreStates}
use Rattle.run_model.proofs.Alike.{Alike, fed_same, present_alike, output_alike, ticking_alike}

tick_same : (Ticks : Type 0) (v w : Option ℤ) → IsTickValue Ticks v → IsTickValue Ticks w → v ≡ w
tick_same Ticks v w (inl a) (inl b) = a.1 ∙ sym b.1
tick_same Ticks v w (inl a) (inr b) = absurd (b.0 a.0)
tick_same Ticks v w (inr a) (inl b) = absurd (a.0 b.0)
tick_same Ticks v w (inr a) (inr b) = a.1 ∙ sym b.1

-- where V and W are alike for a port, they have the same value there
pub value_same : (r : Run) → IsSound r.system → AreMachines r → (s : Situation) → AreStates r false s.states → (p : ℕ) (port : Port) (last : Option ℤ) (V W : List (Option ℤ)) →
    slice_get r.system.ports p ≡ Some port → Alike r.system p V W → (role : Role) → port.role ≡ role → (v w : Option ℤ) →
    SolvesAt role r s V p port last v → SolvesAt role r s W p port last w → v ≡ w
value_same r sound machines s fit p port last V W is alike (Input None) e v w x y = x ∙ sym y
value_same r sound machines s fit p port last V W is alike (Input (Some feed)) e v w x y =
    x ∙ ap (λ b. if b then fed port.kind feed V else last) (present_alike r.system p port V W is alike.direct)
    ∙ ap (λ o. if is_present port W then o else last) (fed_same port.kind feed V W (alike.direct feed.from.0 (ByFeed port is (ap source_of e)))) ∙ sym y
value_same r sound machines s fit p port last V W is alike Output e v w x y =
    x ∙ output_alike r sound machines s fit p port last V W is (ap is_output_role e) alike ∙ sym y
value_same r sound machines s fit p port last V W is alike (ClockInput None) e v w x y = x ∙ sym y
value_same r sound machines s fit p port last V W is alike (ClockInput (Some feed)) e v w x y =
    x ∙ alike.direct feed.from.0 (ByFeed port is (ap source_of e)) ∙ sym y
value_same r sound machines s fit p port last V W is alike ClockOutput e v w x y =
    x ∙ ticking_alike r sound machines s fit p port V W is (ap is_output_role e) (ap is_clock_role e) alike ∙ sym y
value_same r sound machines s fit p port last V W is alike (TimeClock timing) e v w x y = tick_same _ v w x y

-- ---- along an order

-- what each of them needs is among them
abbrev pub IsClosed : (ℕ → ℕ → Type 0) → List ℕ → Type 0
IsClosed NeedsOf taken = (p q : ℕ) → Contains taken p → NeedsOf p q → Contains taken q

abbrev pub AgreeOn : List ℕ → List (Option ℤ) → List (Option ℤ) → Type 0
AgreeOn taken V W = (q : ℕ) → Contains taken q → value V q ≡ value W q

-- an element is among those taken, or the one after them
pub push_cases : (taken : List ℕ) (p q : ℕ) {P : Type 0} → Contains (taken ++ p ∷ []) q → (Contains taken q → P) → (p ≡ q → P) → P
push_cases taken p q {P} m before here = (elim (Contains-push_cases taken p q m) as (λ c. P) [
  | inl old ↦ before old
  | inr same ↦ here same
])

pub closed-push : (NeedsOf : ℕ → ℕ → Type 0) (taken : List ℕ) (p : ℕ) → IsClosed NeedsOf taken → ((q : ℕ) → NeedsOf p q → Contains taken q) → IsClosed NeedsOf (taken ++ p ∷ [])
closed-push NeedsOf taken p closed needed a q m n = Contains-append_left taken (p ∷ []) q
    (push_cases taken p a m (λ old. closed a q old n) (λ same. needed q (subst (λ x. NeedsOf x q) (sym same) n)))

pub none_in : (q : ℕ) → Contains [] q → ⊥
none_in q m = let less : m.0 < 0 = m.1 in omega (arith, less)

-- where the value of a port follows from what it needs, two valuations agree along an order
pub agree_along : (NeedsOf : ℕ → ℕ → Type 0) (V W : List (Option ℤ)) →
    ((taken : List ℕ) (p : ℕ) → IsClosed NeedsOf taken → AgreeOn taken V W → ((q : ℕ) → NeedsOf p q → Contains taken q) → value V p ≡ value W p) →
    (taken rest : List ℕ) → IsClosed NeedsOf taken → AgreeOn taken V W → IsOrderFrom NeedsOf taken rest → AgreeOn (taken ++ rest) V W
agree_along NeedsOf V W here taken [] closed agree order = rw append-nil agree
agree_along NeedsOf V W here taken (p ∷ rest) closed agree order =
    let now : value V p ≡ value W p = here taken p closed agree order.1 in
    let more = agree_along NeedsOf V W here (taken ++ p ∷ []) rest (closed-push NeedsOf taken p closed order.1)
    (λ q m. push_cases taken p q m (agree q) (λ same. subst (λ x. value V x ≡ value W x) same now)) order.2 in
    subst (λ xs. AgreeOn xs V W) (append_assoc taken (p ∷ []) rest) more

-- where there is no port there is no value
pub past : {X : Type 0} (xs : List X) (p : ℕ) → slice_get xs p ≡ None → length xs ≤ p
past [] p e = omega arith
past (x ∷ xs) zero e = absurd (none_some _ (sym e))
past (x ∷ xs) (suc p) e = let more : length xs ≤ p = past xs p e in omega arith

pub value_past : (V : List (Option ℤ)) (p n : ℕ) → length V ≡ n → n ≤ p → value V p ≡ None
value_past V p n len h = get_or_past V p None (subst (λ k. k ≤ p) (sym len) h)

-- the equations of an instant have one solution at most
pub solves_same : (r : Run) → IsSound r.system → AreMachines r → (s : Situation) → AreStates r false s.states → (V W : List (Option ℤ)) → Solves r s V → Solves r s W → V ≡ W
solves_same r sound machines s fit V W v w =
    let ports = r.system.ports in
    let agree : AgreeOn (port_numbers r.system.instant_order) V W = agree_along (Needs r.system) V W (λ taken p closed agree needed.
    (elim (slice_get ports p) as (λ o. slice_get ports p ≡ o → value V p ≡ value W p) [
      | None ↦ λ e. value_past V p (length ports) v.places (past ports p e) ∙ sym (value_past W p (length ports) w.places (past ports p e))
      | Some port ↦ λ e.
          let alike : Alike r.system p V W = record { direct = λ q n. agree q (needed q n); further = λ q c n m. agree c (closed q c (needed q n) m) } in
          value_same r sound machines s fit p port (value s.before p) V W e alike port.role refl (value V p) (value W p) (v.equations p port e) (w.equations p port e)
    ]) refl) [] (port_numbers r.system.instant_order) (λ p q m n. absurd (none_in p m)) (λ q m. absurd (none_in q m))
    (order_from (λ p. p < length ports) (Needs r.system) (port_numbers r.system.instant_order) sound.instant_order [] (port_numbers r.system.instant_order) refl) in
    ext_get_or None V W (v.places ∙ sym w.places) (λ p lt. agree p (sound.instant_order.each p (subst (λ n. p < n) v.places lt)))
