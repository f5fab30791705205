-- The places that wait for Clocks, put into the Clocks' lists one after the other.
use Rattle.std.proofs.Common.{◌≡◌, ℕ, ◌+◌, ◌<◌, ◌≤◌, ℤ, ◌⊎◌, Bool, true, false, inl, inr, List, [], ◌∷◌, ◌++◌, Option, Some, None, Contains, ap, arith, get_or, length, length-set, map, refl, set, subst, suc, sym, take, zero, ◌∙◌}
use Rattle.std.specs.Prelude.{All, ◌&&◌, is_some, replicate, slice_get, slice_set}
use Rattle.std.proofs.lemmas.List.{get_or-set_other, get_or-set_same, length-replicate, map-append, take_more}
use Rattle.std.proofs.lemmas.List.Elements.{Contains-append_left, Contains-push}
use Rattle.std.proofs.lemmas.Option.{same_Some, slice_get_within}
use Rattle.sim_base.specs.declared.numbers.PortId.{PortId}
use Rattle.dependency_order.proofs.CallerLemmas.{in_pushed, in_pushed_back, in_same}
use Rattle.system_model.specs.declared.system.Port.{Port}
use Rattle.system_model.specs.declared.system.System.{System}
use Rattle.system_model.specs.Ports.{port_numbers}
use Rattle.system_model.specs.Values.{value}
use Rattle.system_model.specs.Sound.{IsSound}
use Rattle.system_model.proofs.CallerLemmas.{at_contains, clock_at, place_of, true_false}
use Rattle.run_model.proofs.CallerLemmas.{none_in, push_cases}
use Rattle.event_iteration.specs.Participants.{AreAtTicks, Awaits, HasClockAt, is_unfed, waits_for_ticks}
use Rattle.event_iteration.proofs.Rounds.{number_at}
use Rattle.event_iteration.proofs.Skipping.{place_in_order}
use Rattle.event_iteration.proofs.Walking.{by_number}

-- ---- one Clock after another

pub await_none : (k : ℕ) (lists : List (List ℕ)) → Awaits [] k lists lists
await_none k lists = record { size = refl; there = λ c m. absurd (none_in c m); kept = λ c j m. m; only = λ c j m. inl m }

numbers_push : (clocks : List PortId) (c : PortId) → port_numbers (clocks ++ c ∷ []) ≡ port_numbers clocks ++ c.0 ∷ []
numbers_push clocks c = map-append (λ (x : PortId). x.0) clocks (c ∷ [])

module _ (clocks : List PortId) (k : ℕ) (before lists : List (List ℕ)) (c : PortId) (lt : c.0 < length lists) (so_far : Awaits clocks k before lists) where
  await_push : Awaits (clocks ++ c ∷ []) k before (set lists c.0 (get_or lists c.0 [] ++ k ∷ []))
  await_push = record {
    size = length-set lists c.0 (get_or lists c.0 [] ++ k ∷ []) ∙ so_far.size;
    there = λ d m. push_cases (port_numbers clocks) c.0 d (subst (λ (l : List ℕ). Contains l d) (numbers_push clocks c) m)
        (λ old. in_pushed lists c.0 k d k lt (so_far.there d old))
        (λ same. subst (λ (n : ℕ). Contains (get_or (set lists c.0 (get_or lists c.0 [] ++ k ∷ [])) n []) k) same (in_same lists c.0 (get_or lists c.0 [] ++ k ∷ []) k lt (Contains-push (get_or lists c.0 []) k)));
    kept = λ d j m. in_pushed lists c.0 k d j lt (so_far.kept d j m);
    only = λ d j m. elim (in_pushed_back lists c.0 k d j lt m) as (λ o. Contains (get_or before d []) j ⊎ ((j ≡ k) × Contains (port_numbers (clocks ++ c ∷ [])) d)) [
      | inl old ↦ further d j (so_far.only d j old)
      | inr new ↦ inr (sym new.1, subst (λ (l : List ℕ). Contains l d) (sym (numbers_push clocks c)) (subst (λ (n : ℕ). Contains (port_numbers clocks ++ c.0 ∷ []) n) (sym new.0) (Contains-push (port_numbers clocks) c.0)))
    ];
  }
    where
      further : (d j : ℕ) → Contains (get_or before d []) j ⊎ ((j ≡ k) × Contains (port_numbers clocks) d) → Contains (get_or before d []) j ⊎ ((j ≡ k) × Contains (port_numbers (clocks ++ c ∷ [])) d)
      further d j (inl old) = inl old
      further d j (inr both) = inr (both.0, subst (λ (l : List ℕ). Contains l d) (sym (numbers_push clocks c)) (Contains-append_left (port_numbers clocks) (c.0 ∷ []) d both.1))

pub await_next : (clocks : List PortId) (i k : ℕ) (d : PortId) (before lists after : List (List ℕ)) → i < length clocks → (get_or clocks i d).0 < length lists → Awaits (take i clocks) k before lists →
    after ≡ set lists (get_or clocks i d).0 (get_or lists (get_or clocks i d).0 [] ++ k ∷ []) → Awaits (take (i + 1) clocks) k before after
await_next clocks i k d before lists after within lt so_far is =
    let P : List PortId → Type 0 = λ cs. Awaits cs k before after in
    let Q : List (List ℕ) → Type 0 = λ ls. Awaits (take i clocks ++ get_or clocks i d ∷ []) k before ls in
    subst P (sym (take_more clocks i d within)) (subst Q (sym is) (await_push (take i clocks) k before lists (get_or clocks i d) lt so_far))

-- ---- inputs that nothing feeds

-- those before k that have a value are still to be taken
abbrev pub AwaitedBefore : System → ℕ → List (Option ℤ) → List Bool → Type 0
AwaitedBefore system k values pending =
    (j p : ℕ) (port : Port) → j < k → slice_get (port_numbers system.instant_order) j ≡ Some p → slice_get system.ports p ≡ Some port → is_unfed port.role ≡ true → (value values p ≡ None) ⊎ (get_or pending j false ≡ true)

empty_one : (u : Bool) (v : Option ℤ) → u ≡ true → (u && is_some v) ≡ false → v ≡ None
empty_one u None unfed none = refl
empty_one true (Some x) unfed none = absurd (true_false none)
empty_one false (Some x) unfed none = absurd (true_false (sym unfed))

module _ (system : System) (k p : ℕ) (port : Port) (at : slice_get (port_numbers system.instant_order) k ≡ Some p) (is : slice_get system.ports p ≡ Some port) (values : List (Option ℤ)) (pending : List Bool) (so_far : AwaitedBefore system k values pending) where
  -- its place is added
  pub awaited_more : k < length pending → AwaitedBefore system (k + 1) values (slice_set pending k true)
  awaited_more lt j q x low q_at x_is unfed = by_number j k
      (λ same. inr (ap (λ (i : ℕ). get_or (slice_set pending k true) i false) same ∙ get_or-set_same pending k true false lt))
      (λ other. elim (so_far j q x (omega (arith, low, other)) q_at x_is unfed) as (λ o. (value values q ≡ None) ⊎ (get_or (slice_set pending k true) j false ≡ true)) [
        | inl none ↦ inl none
        | inr due ↦ inr (get_or-set_other pending k j true false other ∙ due)
      ])

  -- it is no such input, or has no value
  pub awaited_same : (is_unfed port.role && is_some (value values p)) ≡ false → AwaitedBefore system (k + 1) values pending
  awaited_same none j q x low q_at x_is unfed = by_number j k
      (λ same.
      let number : p ≡ q = same_Some p q (sym at ∙ subst (λ (i : ℕ). slice_get (port_numbers system.instant_order) i ≡ Some q) same q_at) in
      let own : port ≡ x = same_Some port x (sym is ∙ ap (slice_get system.ports) number ∙ x_is) in
      inl (subst (λ (n : ℕ). value values n ≡ None) number (empty_one (is_unfed port.role) (value values p) (ap (λ (y : Port). is_unfed y.role) own ∙ unfed) none)))
      (λ other. so_far j q x (omega (arith, low, other)) q_at x_is unfed)

-- ---- one place after another

-- the lists hold the places before k that wait
pub record HoldPlaces (system : System) (k : ℕ) (lists : List (List ℕ)) : Type 0 where
  pub size : length lists ≡ length system.ports
  pub only : (c j : ℕ) → Contains (get_or lists c []) j → HasClockAt system c j
  pub there : (c j p : ℕ) (port : Port) → j < k → slice_get (port_numbers system.instant_order) j ≡ Some p → slice_get system.ports p ≡ Some port → waits_for_ticks port ≡ true → Contains (port_numbers port.clocks) c → Contains (get_or lists c []) j

none_of : (n c : ℕ) → get_or (replicate {A = List ℕ} n []) c [] ≡ []
none_of zero c = refl
none_of (suc n) zero = refl
none_of (suc n) (suc c) = none_of n c

-- none yet
pub hold_none : (system : System) (n : ℕ) (lists : List (List ℕ)) → lists ≡ replicate n [] → n ≡ length system.ports → HoldPlaces system 0 lists
hold_none system n lists is long = record {
  size = ap length is ∙ length-replicate n [] ∙ long;
  only = λ c j m. absurd (none_in j (subst (λ (l : List ℕ). Contains l j) (ap (λ (ls : List (List ℕ)). get_or ls c []) is ∙ none_of n c) m));
  there = λ c j p port low at port_is waits m. absurd (omega (arith, low));
}

-- all of them
pub hold_all : (system : System) (sound : IsSound system) (k : ℕ) (lists : List (List ℕ)) → length system.instant_order ≤ k → HoldPlaces system k lists → AreAtTicks system lists
hold_all system sound k lists all held = record {
  size = held.size;
  only = held.only;
  there = λ c j p port at is waits m. held.there c j p port (let low = place_in_order system sound j p at in omega (arith, low, all)) at is waits m;
}

-- the Clocks of a port are ports
pub clocks_within : (system : System) (sound : IsSound system) (p : ℕ) (port : Port) → slice_get system.ports p ≡ Some port → (n : ℕ) → n ≡ length system.ports → All (λ (c : PortId). c.0 < n) port.clocks
clocks_within system sound p port is n long = λ i d lt.
    let c = get_or port.clocks i d in
    let m : Contains (port_numbers port.clocks) c.0 = at_contains (port_numbers port.clocks) i c.0 (number_at port.clocks port.clocks i d refl lt) in
    let clock = clock_at system sound p port (place_of system sound p port is) c.0 m in
    let low = slice_get_within system.ports c.0 clock.clock clock.is in
    omega (arith, low, long)

module _ (system : System) (k p : ℕ) (port : Port) (at : slice_get (port_numbers system.instant_order) k ≡ Some p) (is : slice_get system.ports p ≡ Some port) (lists : List (List ℕ)) (so_far : HoldPlaces system k lists) where
  same_port : (q : ℕ) (x : Port) → slice_get (port_numbers system.instant_order) k ≡ Some q → slice_get system.ports q ≡ Some x → port ≡ x
  same_port q x q_at x_is = same_Some port x (sym is ∙ ap (slice_get system.ports) (same_Some p q (sym at ∙ q_at)) ∙ x_is)

  -- it doesn't wait
  pub hold_same : waits_for_ticks port ≡ false → HoldPlaces system (k + 1) lists
  hold_same none = record {
    size = so_far.size;
    only = so_far.only;
    there = λ c j q x low q_at x_is waits m. by_number j k
        (λ same.
        let own = same_port q x (subst (λ (i : ℕ). slice_get (port_numbers system.instant_order) i ≡ Some q) same q_at) x_is in
        absurd (true_false (sym waits ∙ ap waits_for_ticks (sym own) ∙ none)))
        (λ other. so_far.there c j q x (omega (arith, low, other)) q_at x_is waits m);
  }

  -- it waits for each of its Clocks
  pub hold_more : (after : List (List ℕ)) → Awaits port.clocks k lists after → HoldPlaces system (k + 1) after
  hold_more after awaits = record {
    size = awaits.size ∙ so_far.size;
    only = λ c j m. elim (awaits.only c j m) as (λ o. HasClockAt system c j) [
      | inl old ↦ so_far.only c j old
      | inr new ↦ record { p = p; port = port; at = ap (slice_get (port_numbers system.instant_order)) new.0 ∙ at; is = is; clock = new.1 }
    ];
    there = λ c j q x low q_at x_is waits m. by_number j k
        (λ same.
        let own = same_port q x (subst (λ (i : ℕ). slice_get (port_numbers system.instant_order) i ≡ Some q) same q_at) x_is in
        subst (λ (i : ℕ). Contains (get_or after c []) i) (sym same) (awaits.there c (subst (λ (y : Port). Contains (port_numbers y.clocks) c) (sym own) m)))
        (λ other. awaits.kept c j (so_far.there c j q x (omega (arith, low, other)) q_at x_is waits m));
  }
