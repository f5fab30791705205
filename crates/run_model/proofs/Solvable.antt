-- In a sound system the equations of an instant have a solution.
use Rattle.std.proofs.Common.{◌≡◌, ℕ, ℤ, pos, false, List, [], ◌∷◌, ◌++◌, length, refl, sym, ◌∙◌, ap, subst, inl, inr, ◌⊎◌, ◌<◌, append_assoc, append-nil, set, replicate, Contains}
use Rattle.std.specs.Prelude.{Option, Some, None, if◌then◌else◌, slice_get}
use Rattle.std.proofs.lemmas.List.{length-set, get_or-set_same, get_or-set_other, length-replicate}
use Rattle.std.proofs.lemmas.Option.{none-some as none_some, same_Some, slice_get_within}
use Rattle.system_model.specs.declared.system.Role.{Role}
use Rattle.system_model.specs.declared.system.Role.TheVariants.{Input, Output, ClockInput, ClockOutput, TimeClock}
use Rattle.system_model.specs.declared.system.Port.{Port}
use Rattle.system_model.specs.Ports.{port_numbers}
use Rattle.system_model.specs.Needs.{Needs}
use Rattle.system_model.specs.Sound.{IsSound}
use Rattle.system_model.proofs.CallerLemmas.{IsOrderFrom, order_from}
use Rattle.run_model.specs.Run.{Run, Situation, at_fmu}
use Rattle.system_model.specs.Values.{value, is_present}
use Rattle.run_model.specs.Inputs.{state_with}
use Rattle.run_model.specs.Timers.{IsDue}
use Rattle.run_model.specs.Equations.{Solves, SolvesAt, IsTickValue, fed, output_value, source_value, ticking, timer_of}
use Rattle.run_model.specs.Machines.{AreMachines, AreStates}
use Rattle.run_model.proofs.Alike.{Alike}
use Rattle.run_model.proofs.Unique.{IsClosed, AgreeOn, closed-push, push_cases, none_in, value_same}

-- of each Clock it is known whether it ticks
abbrev pub AreDecided : Run → Situation → Type 0
AreDecided r s = (p : ℕ) → IsDue r.plan.start (timer_of s.timers p) s.t s.n ⊎ (IsDue r.plan.start (timer_of s.timers p) s.t s.n → ⊥)

-- a value that solves the equation of a port
solution : (r : Run) (s : Situation) → AreDecided r s → (V : List (Option ℤ)) (p : ℕ) (port : Port) (last : Option ℤ) (role : Role) → (v : Option ℤ) × SolvesAt role r s V p port last v
solution r s decided V p port last (Input None) = (None, refl)
solution r s decided V p port last (Input (Some feed)) = (if is_present port V then fed port.kind feed V else last, refl)
solution r s decided V p port last Output = (at_fmu r s.states port.component.0 (output_value r s V last port), refl)
solution r s decided V p port last (ClockInput None) = (Some (pos 0), refl)
solution r s decided V p port last (ClockInput (Some feed)) = (source_value feed V, refl)
solution r s decided V p port last ClockOutput = (at_fmu r s.states port.component.0 (λ c m state. ticking m (state_with r.system.ports V port.component.0 m state) port), refl)
solution r s decided V p port last (TimeClock timing) =
    (elim (decided p) as (λ d. (v : Option ℤ) × IsTickValue (IsDue r.plan.start (timer_of s.timers p) s.t s.n) v) [
      | inl due ↦ (Some (pos 1), inl (due, refl))
      | inr never ↦ (Some (pos 0), inr (never, refl))
    ])

-- where V and W are alike for a port, what solves its equation in V does in W
moved : (r : Run) → IsSound r.system → AreMachines r → (s : Situation) → AreStates r false s.states → AreDecided r s → (p : ℕ) (port : Port) (V W : List (Option ℤ)) → slice_get r.system.ports p ≡ Some port →
    Alike r.system p V W → (v : Option ℤ) → SolvesAt port.role r s V p port (value s.before p) v → SolvesAt port.role r s W p port (value s.before p) v
moved r sound machines s fit decided p port V W is alike v h =
    let there = solution r s decided W p port (value s.before p) port.role in
    let same : v ≡ there.0 = value_same r sound machines s fit p port (value s.before p) V W is alike port.role refl v there.0 h there.1 in
    subst (λ x. SolvesAt port.role r s W p port (value s.before p) x) (sym same) there.1

-- the ports of a list have values that solve their equations
abbrev SolvedOn : Run → Situation → List ℕ → List (Option ℤ) → Type 0
SolvedOn r s taken V = (q : ℕ) (port : Port) → Contains taken q → slice_get r.system.ports q ≡ Some port → SolvesAt port.role r s V q port (value s.before q) (value V q)

solve_from : (r : Run) → IsSound r.system → AreMachines r → (s : Situation) → AreStates r false s.states → AreDecided r s → (V : List (Option ℤ)) → length V ≡ length r.system.ports →
    (taken rest : List ℕ) → IsClosed (Needs r.system) taken → SolvedOn r s taken V → IsOrderFrom (Needs r.system) taken rest →
    (W : List (Option ℤ)) × (length W ≡ length r.system.ports) × SolvedOn r s (taken ++ rest) W
solve_from r sound machines s fit decided V len taken [] closed solved order = (V, len, rw append-nil solved)
solve_from r sound machines s fit decided V len taken (p ∷ rest) closed solved order =
    (elim (slice_get r.system.ports p) as (λ o. slice_get r.system.ports p ≡ o → (W : List (Option ℤ)) × (length W ≡ length r.system.ports) × SolvedOn r s (taken ++ p ∷ rest) W) [
      | None ↦ λ e.
          let now : SolvedOn r s (taken ++ p ∷ []) V = λ q port m is. push_cases taken p q m (λ old. solved q port old is) (λ same. absurd (none_some _ (sym e ∙ ap (slice_get r.system.ports) same ∙ is))) in
          let more = solve_from r sound machines s fit decided V len (taken ++ p ∷ []) rest (closed-push (Needs r.system) taken p closed order.1) now order.2 in
          (more.0, more.1, subst (λ xs. SolvedOn r s xs more.0) (append_assoc taken (p ∷ []) rest) more.2)
      | Some here ↦ λ e.
          let found = solution r s decided V p here (value s.before p) here.role in
          let next : List (Option ℤ) = set V p found.0 in
          let inside : p < length V = subst (λ n. p < n) (sym len) (slice_get_within r.system.ports p here e) in
          let agree : AgreeOn taken V next = λ q m. sym (get_or-set_other V p q found.0 None (λ same. order.0 (subst (Contains taken) same m))) in
          let alike : (q : ℕ) → ((d : ℕ) → Needs r.system q d → Contains taken d) → Alike r.system q V next =
          λ q needed. record { direct = λ d n. agree d (needed d n); further = λ d c n m. agree c (closed d c (needed d n) m) } in
          let new : SolvesAt here.role r s next p here (value s.before p) (value next p) =
          subst (λ x. SolvesAt here.role r s next p here (value s.before p) x) (sym (get_or-set_same V p found.0 None inside))
          (moved r sound machines s fit decided p here V next e (alike p order.1) found.0 found.1) in
          let now : SolvedOn r s (taken ++ p ∷ []) next = λ q port m is. push_cases taken p q m
          (λ old. subst (λ x. SolvesAt port.role r s next q port (value s.before q) x) (agree q old)
          (moved r sound machines s fit decided q port V next is (alike q (λ d n. closed q d old n)) (value V q) (solved q port old is)))
          (λ same. let is_here : here ≡ port = same_Some _ _ (sym e ∙ ap (slice_get r.system.ports) same ∙ is) in
          subst (λ x. SolvesAt port.role r s next x port (value s.before x) (value next x)) same
          (subst (λ (x : Port). SolvesAt x.role r s next p x (value s.before p) (value next p)) is_here new)) in
          let more = solve_from r sound machines s fit decided next (length-set V p found.0 ∙ len) (taken ++ p ∷ []) rest (closed-push (Needs r.system) taken p closed order.1) now order.2 in
          (more.0, more.1, subst (λ xs. SolvedOn r s xs more.0) (append_assoc taken (p ∷ []) rest) more.2)
    ]) refl

-- there is a solution
pub solvable : (r : Run) → IsSound r.system → AreMachines r → (s : Situation) → AreStates r false s.states → AreDecided r s → (V : List (Option ℤ)) × Solves r s V
solvable r sound machines s fit decided =
    let order = port_numbers r.system.instant_order in
    let made = solve_from r sound machines s fit decided (replicate (length r.system.ports) None) (length-replicate (length r.system.ports) None) [] order
    (λ p q m n. absurd (none_in p m)) (λ q port m is. absurd (none_in q m)) (order_from (λ p. p < length r.system.ports) (Needs r.system) order sound.instant_order [] order refl) in
    (made.0, record { places = made.1; equations = λ p port is. made.2 p port (sound.instant_order.each p (slice_get_within r.system.ports p port is)) is })
