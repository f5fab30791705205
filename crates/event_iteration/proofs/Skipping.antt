-- The first places that aren't left out, written from the last place on.
use Rattle.std.proofs.Common.{◌≡◌, ℕ, ◌+◌, ◌-◌, ◌<◌, ◌≤◌, ◌⊎◌, Bool, true, false, inl, inr, List, [], ◌∷◌, Option, Some, None, Result, Ok, Err, ap, arith, get_or, length, refl, subst, suc, sym, zero, ◌∙◌}
use Rattle.std.specs.Prelude.{IfOk, ◌&&◌, not, slice_get, slice_set}
use Rattle.std.specs.declared.alloc.AllocError.{AllocError}
use Rattle.std.specs.Option.{option_map_or}
use Rattle.std.proofs.lemmas.Bool.{cases_lt}
use Rattle.std.proofs.lemmas.List.{get_or-set_other, get_or-set_same, get_or_past, length-map}
use Rattle.std.proofs.lemmas.List.FromFn.{length-range_with_len}
use Rattle.std.proofs.lemmas.Option.{same_Some, slice_get-get_or, slice_get_within}
use Rattle.sim_base.specs.declared.numbers.PortId.{PortId}
use Rattle.system_model.specs.declared.system.Component.{Component}
use Rattle.system_model.specs.declared.system.Port.{Port}
use Rattle.system_model.specs.declared.system.System.{System}
use Rattle.system_model.specs.Ports.{port_numbers}
use Rattle.system_model.specs.Sound.{IsSound}
use Rattle.system_model.proofs.CallerLemmas.{at_contains}
use Rattle.event_iteration.specs.declared.skips.Skips.{Skips}
use Rattle.event_iteration.specs.Participants.{AreMarks, AreSkips, LacksAt, is_fed_input, is_set_before_step}
use Rattle.event_iteration.specs.Settings.{port_order}
use Rattle.event_iteration.proofs.Rounds.{number_at}
use Rattle.event_iteration.proofs.Setting.{port_number}
use Rattle.event_iteration.proofs.Walking.{by_number}

-- from the place k on the place x is the first that is kept, or the one after the last
pub record IsFirst (keeps : List Bool) (k x : ℕ) : Type 0 where
  pub after : k ≤ x
  pub within : x ≤ length keeps
  pub out : (j : ℕ) → k ≤ j → j < x → get_or keeps j false ≡ false

pub last : (keeps : List Bool) (k : ℕ) → k ≡ length keeps → IsFirst keeps k (length keeps)
last keeps k is = record { after = omega (arith, is); within = omega arith; out = λ j low high. absurd (omega (arith, is, low, high)) }

pub kept : (keeps : List Bool) (k : ℕ) → k < length keeps → IsFirst keeps k k
kept keeps k lt = record { after = omega arith; within = omega (arith, lt); out = λ j low high. absurd (omega (arith, low, high)) }

pub left : (keeps : List Bool) (k x : ℕ) → get_or keeps k false ≡ false → IsFirst keeps (k + 1) x → IsFirst keeps k x
left keeps k x none first = record {
  after = (let b = first.after in omega (arith, b));
  within = first.within;
  out = λ j low high. by_number j k (λ same. ap (λ (i : ℕ). get_or keeps i false) same ∙ none) (λ other. first.out j (omega (arith, low, other)) high);
}

-- what stands at a place after a set
set_cases : {P : Type 0} (xs : List ℕ) (k v q x : ℕ) → slice_get (slice_set xs k v) q ≡ Some x → (q ≡ k → x ≡ v → P) → (slice_get xs q ≡ Some x → P) → P
set_cases [] k v q x is here there = there is
set_cases (y ∷ xs) zero v zero x is here there = here refl cc
set_cases (y ∷ xs) zero v (suc q) x is here there = there is
set_cases (y ∷ xs) (suc k) v zero x is here there = there is
set_cases (y ∷ xs) (suc k) v (suc q) x is here there = set_cases xs k v q x is (λ same new. here (ap suc same) new) there

-- from a place on the first ones are written
abbrev pub AreFirstFrom : List Bool → ℕ → List ℕ → Type 0
AreFirstFrom keeps k next = (q x : ℕ) → k ≤ q → slice_get next q ≡ Some x → IsFirst keeps q x

pub written : (keeps : List Bool) (k first : ℕ) (next : List ℕ) → AreFirstFrom keeps (k + 1) next → IsFirst keeps k first → AreFirstFrom keeps k (slice_set next k first)
written keeps k first next rest own q x low is = by_number q k
    (λ same. set_cases next k first q x is (λ here new. subst (λ (i : ℕ). IsFirst keeps i x) (sym same) (subst (IsFirst keeps k) (sym new) own)) (λ old. absurd_or_old same old))
    (λ other. set_cases next k first q x is (λ here new. absurd (other here)) (λ old. rest q x (omega (arith, low, other)) old))
  where
    absurd_or_old : q ≡ k → slice_get next q ≡ Some x → IsFirst keeps q x
    absurd_or_old same old = subst (λ (i : ℕ). IsFirst keeps i x) (sym same) (subst (IsFirst keeps k) (sym (stands next k first x (subst (λ (i : ℕ). slice_get (slice_set next k first) i ≡ Some x) same is))) own)
      where
        stands : (xs : List ℕ) (k v x : ℕ) → slice_get (slice_set xs k v) k ≡ Some x → x ≡ v
        stands [] k v x h = absurd (cc)
        stands (y ∷ xs) zero v x h = cc
        stands (y ∷ xs) (suc k) v x h = stands xs k v x h

-- all of them
pub all_written : (keeps : List Bool) (next : List ℕ) → length next ≡ length keeps → AreFirstFrom keeps 0 next → AreSkips (length keeps) (λ j. get_or keeps j false ≡ false) next
all_written keeps next long all = record {
  after = λ k. by k (λ lt. (at k lt).after) (λ past. let e = get_or_past next k k past in omega (arith, e));
  within = λ k le. by k (λ lt. (at k lt).within) (λ past. let e = get_or_past next k k past in omega (arith, e, le));
  out_between = λ k j low high. by k (λ lt. (at k lt).out j low high) (λ past. let e = get_or_past next k k past in absurd (omega (arith, e, low, high)));
}
  where
    at : (k : ℕ) → k < length next → IsFirst keeps k (get_or next k k)
    at k lt = all k (get_or next k k) (omega arith) (slice_get-get_or next k k lt)

    by : {P : Type 0} (k : ℕ) → (k < length next → P) → (length next ≤ k → P) → P
    by {P = P} k here past = elim (cases_lt k (length next)) as (λ o. P) [
      | inl lt ↦ here lt
      | inr le ↦ past le
    ]

-- marks tell which ports are left out
pub by_marks : (system : System) (order : List ℕ) (f : Port → Bool) (keeps : List Bool) (next : List ℕ) → AreMarks system order f keeps → AreSkips (length keeps) (λ j. get_or keeps j false ≡ false) next → AreSkips (length keeps) (LacksAt system order f) next
by_marks system order f keeps next marks skips = record {
  after = skips.after;
  within = skips.within;
  out_between = λ k j low high p port at is. sym (marks j p port at is) ∙ skips.out_between k j low high;
}

-- and so where they were made
pub by_marks_if : (system : System) (order : List ℕ) (f : Port → Bool) (n : ℕ) (keeps : List Bool) (r : Result Skips AllocError) → AreMarks system order f keeps → length keeps ≡ n → IfOk r (λ s. AreSkips (length keeps) (λ j. get_or keeps j false ≡ false) s.next.items) →
    IfOk r (λ s. AreSkips n (LacksAt system order f) s.next.items)
by_marks_if system order f n keeps (Ok s) marks long skips = subst (λ (m : ℕ). AreSkips m (LacksAt system order f) s.next.items) long (by_marks system order f keeps s.next.items marks skips)
by_marks_if system order f n keeps (Err e) marks long skips = tt

-- the marks of the ports are those of the order that has each port at its number
pub in_port_order : (system : System) (f : Port → Bool) (keeps : List Bool) → ((p : ℕ) (port : Port) → slice_get system.ports p ≡ Some port → get_or keeps p false ≡ f port) → AreMarks system (port_order system) f keeps
in_port_order system f keeps marks j p port at is =
    let within = slice_get_within (port_order system) j p at in
    let long = length-range_with_len 0 (length system.ports) in
    ap (λ (i : ℕ). get_or keeps i false) (same_Some j p (sym (port_number system j (omega (arith, within, long))) ∙ at)) ∙ marks p port is

-- ---- ports of the instants' order

module _ (system : System) (sound : IsSound system) where
  pub port_in_order : (read : List PortId) (k : ℕ) (d : PortId) → read ≡ system.instant_order → k < length read → (get_or read k d).0 < length system.ports
  port_in_order read k d same lt = sound.instant_order.only (get_or read k d).0 (at_contains (port_numbers system.instant_order) k (get_or read k d).0 (number_at system.instant_order read k d same lt))

  pub place_in_order : (j p : ℕ) → slice_get (port_numbers system.instant_order) j ≡ Some p → j < length system.instant_order
  place_in_order j p at = let w = slice_get_within (port_numbers system.instant_order) j p at in let n = length-map system.instant_order (λ (x : PortId). x.0) in omega (arith, w, n)

-- whether it is set before a step, by its component
pub set_before : (system : System) (port : Port) (c : Component) → slice_get system.components port.component.0 ≡ Some c → (is_fed_input port.role && not c.shape.has_event_mode) ≡ is_set_before_step system port
set_before system port c of = sym (ap (λ (o : Option Component). is_fed_input port.role && option_map_or (λ (y : Component). not y.shape.has_event_mode) o false) of)

-- ---- marks, one after the other

-- what holds of the ports at the places before k, and of the one there, holds of those before k + 1
pub mark_more : (f : Port → Bool) (R : ℕ → Port → Type 0) → ((j : ℕ) (a b : Port) → R j a → R j b → a ≡ b) → (marks now : List Bool) (k : ℕ) (here : Port) (b : Bool) → R k here → k < length marks → b ≡ f here → now ≡ slice_set marks k b →
    ((j : ℕ) (port : Port) → j < k → R j port → get_or marks j false ≡ f port) → (j : ℕ) (port : Port) → j < k + 1 → R j port → get_or now j false ≡ f port
mark_more f R unique marks now k here b at lt b_is now_is before j port low is = by_number j k
    (λ same.
    let own : here ≡ port = unique k here port at (subst (λ (i : ℕ). R i port) same is) in
    ap (λ (l : List Bool). get_or l j false) now_is ∙ ap (λ (i : ℕ). get_or (slice_set marks k b) i false) same ∙ get_or-set_same marks k b false lt ∙ b_is ∙ ap f own)
    (λ other. ap (λ (l : List Bool). get_or l j false) now_is ∙ get_or-set_other marks k j b false other ∙ before j port (omega (arith, low, other)) is)

-- of the ports in an order
pub mark_in_order : (system : System) (order : List ℕ) (f : Port → Bool) (marks : List Bool) (k p : ℕ) (here : Port) (b : Bool) → slice_get order k ≡ Some p → slice_get system.ports p ≡ Some here → k < length marks → b ≡ f here →
    ((j q : ℕ) (port : Port) → j < k → slice_get order j ≡ Some q → slice_get system.ports q ≡ Some port → get_or marks j false ≡ f port) → (j q : ℕ) (port : Port) → j < k + 1 → slice_get order j ≡ Some q → slice_get system.ports q ≡ Some port → get_or (slice_set marks k b) j false ≡ f port
mark_in_order system order f marks k p here b at is lt b_is before j q port low q_at port_is =
    mark_more f R (λ i x y x_is y_is. same_Some x y (sym x_is.2 ∙ ap (slice_get system.ports) (same_Some x_is.0 y_is.0 (sym x_is.1 ∙ y_is.1)) ∙ y_is.2)) marks (slice_set marks k b) k here b (p, at, is) lt b_is refl (λ i x low x_is. before i x_is.0 x low x_is.1 x_is.2) j port low (q, q_at, port_is)
  where
    R : ℕ → Port → Type 0
    R i x = (n : ℕ) × (slice_get order i ≡ Some n) × (slice_get system.ports n ≡ Some x)

-- of the ports themselves
pub mark_port : (ports : List Port) (f : Port → Bool) (marks : List Bool) (k : ℕ) (here : Port) (b : Bool) → slice_get ports k ≡ Some here → k < length marks → b ≡ f here →
    ((j : ℕ) (port : Port) → j < k → slice_get ports j ≡ Some port → get_or marks j false ≡ f port) → (j : ℕ) (port : Port) → j < k + 1 → slice_get ports j ≡ Some port → get_or (slice_set marks k b) j false ≡ f port
mark_port ports f marks k here b is lt b_is before = mark_more f (λ (i : ℕ) (x : Port). slice_get ports i ≡ Some x) (λ i x y x_is y_is. same_Some x y (sym x_is ∙ y_is)) marks (slice_set marks k b) k here b is lt b_is refl before
