-- The connected inputs of a system by when they are present.
use Rattle.std.proofs.Common.{arith, ◌≡◌, refl, sym, ap, ◌∙◌, subst, ℕ, ◌+◌, ◌<◌, ◌≤◌, ℤ, pos, Bool, true, false, List, [], ◌∷◌, ◌++◌, Option, Some, None, inl, inr, length, take, get_or, set, length-set, below_more}
use Rattle.std.specs.Prelude.{is_some, slice_get, Contains, ◌||◌}
use Rattle.std.specs.List.{list_any}
use Rattle.std.proofs.lemmas.List.{take_all, take_more}
use Rattle.std.proofs.lemmas.List.Elements.{Contains-append_left, Contains-append_right, Contains-push, Contains-push_cases}
use Rattle.std.proofs.lemmas.Option.{none-some as none_some, slice_get_within}
use Rattle.sim_base.specs.declared.numbers.PortId.{PortId}
use Rattle.value_types.specs.declared.values.PortType.{PortType}
use Rattle.system_model.specs.Carried.{comes_to}
use Rattle.system_model.specs.declared.system.Port.{Port}
use Rattle.system_model.specs.declared.system.Role.{Role}
use Rattle.system_model.specs.declared.system.Role.TheVariants.{Input, Output, ClockInput, ClockOutput, TimeClock}
use Rattle.system_model.specs.declared.system.System.{System}
use Rattle.system_model.specs.Ports.{source_of}
use Rattle.system_model.specs.Values.{value, is_active}
use Rattle.system_model.proofs.CallerLemmas.{at_contains, true_false}
use Rattle.trace_reading.proofs.CallerLemmas.{unsome}
use Rattle.trace_reading.specs.declared.trace.TraceLine.{TraceLine}
use Rattle.trace_reading.specs.declared.trace.TraceLine.TheVariants.{Value}
use Rattle.trace_reading.specs.Form.{told_values_from}
use Rattle.dependency_order.proofs.CallerLemmas.{in_pushed, in_same}
use Rattle.trace_check.specs.Inputs.{HoldInputs, IsFed, WaitToo, is_steady}
use Rattle.trace_check.specs.Values.{DiffersFromSource}
use Rattle.trace_check.proofs.SourceLemmas.{has_line, value_within}
use Rattle.trace_check.proofs.TickLemmas.{active_is}

-- ---- made one port after another

-- with the port at k
hold_more : (ports : List Port) (k : ℕ) (steady now : List ℕ) (lists after : List (List ℕ)) → HoldInputs ports k steady lists → length after ≡ length lists →
    ((p : ℕ) → Contains steady p → Contains now p) → ((c p : ℕ) → Contains (get_or lists c []) p → Contains (get_or after c []) p) →
    ((port : Port) → IsFed ports k port true → Contains now k) →
    ((port : Port) (c : PortId) → IsFed ports k port false → Contains port.clocks c → c.0 < length ports → Contains (get_or after c.0 []) k) → HoldInputs ports (k + 1) now after
hold_more ports k steady now lists after so_far size more more_at own own_at =
    let P : ℕ → Type 0 = λ p. (port : Port) → IsFed ports p port true → Contains now p in
    let Q : ℕ → Type 0 = λ p. (port : Port) (c : PortId) → IsFed ports p port false → Contains port.clocks c → c.0 < length ports → Contains (get_or after c.0 []) p in
    record {
      size = size ∙ so_far.size;
      always = λ p port low. below_more P k (λ q below it fed. more q (so_far.always q it below fed)) own p low port;
      by_ticks = λ p port c low. below_more Q k (λ q below it d fed has within. more_at d.0 q (so_far.by_ticks q it d below fed has within)) own_at p low port c;
    }

module _ (ports : List Port) (k : ℕ) (steady : List ℕ) (lists : List (List ℕ)) (port : Port) (so_far : HoldInputs ports k steady lists) (at : slice_get ports k ≡ Some port) where
  same_port : (other : Port) (b : Bool) → IsFed ports k other b → other ≡ port
  same_port other b fed = unsome other port (sym fed.at ∙ at)

  held : (now : List ℕ) (after : List (List ℕ)) (xs : List ℕ) (ls : List (List ℕ)) → now ≡ xs → after ≡ ls → HoldInputs ports (k + 1) xs ls → HoldInputs ports (k + 1) now after
  held now after xs ls now_is after_is hold =
      let P : List ℕ → Type 0 = λ ys. HoldInputs ports (k + 1) ys after in
      let Q : List (List ℕ) → Type 0 = λ ys. HoldInputs ports (k + 1) xs ys in
      subst P (sym now_is) (subst Q (sym after_is) hold)

  unfed : is_some (source_of port.role) ≡ false → HoldInputs ports (k + 1) steady lists
  unfed none = hold_more ports k steady steady lists lists so_far refl (λ p has. has) (λ c p has. has)
      (λ other fed. absurd (true_false (sym fed.fed ∙ (ap (λ (o : Port). is_some (source_of o.role)) (same_port other true fed) ∙ none))))
      (λ other c fed has within. absurd (true_false (sym fed.fed ∙ (ap (λ (o : Port). is_some (source_of o.role)) (same_port other false fed) ∙ none))))

  pub hold_unfed : (now : List ℕ) (after : List (List ℕ)) → now ≡ steady → after ≡ lists → is_some (source_of port.role) ≡ false → HoldInputs ports (k + 1) now after
  hold_unfed now after now_is after_is none = held now after steady lists now_is after_is (unfed none)

  always_present : is_steady port ≡ true → HoldInputs ports (k + 1) (steady ++ k ∷ []) lists
  always_present is = hold_more ports k steady (steady ++ k ∷ []) lists lists so_far refl (λ p has. Contains-append_left steady (k ∷ []) p has) (λ c p has. has)
      (λ other fed. Contains-push steady k)
      (λ other c fed has within. absurd (true_false (sym is ∙ (ap is_steady (sym (same_port other false fed)) ∙ fed.kind))))

  pub hold_steady : (now : List ℕ) (after : List (List ℕ)) → now ≡ steady ++ k ∷ [] → after ≡ lists → is_steady port ≡ true → HoldInputs ports (k + 1) now after
  hold_steady now after now_is after_is is = held now after (steady ++ k ∷ []) lists now_is after_is (always_present is)

  pub hold_ticks : (now : List ℕ) (after : List (List ℕ)) → now ≡ steady → is_steady port ≡ false → WaitToo port.clocks k lists after → HoldInputs ports (k + 1) now after
  hold_ticks now after now_is is waits = held now after steady after now_is refl (hold_more ports k steady steady lists after so_far waits.size (λ p has. has) waits.kept
      (λ other fed. absurd (true_false (sym fed.kind ∙ (ap is_steady (same_port other true fed) ∙ is))))
      (λ other c fed has within.
      let own : Contains port.clocks c = subst (λ (o : Port). Contains o.clocks c) (same_port other false fed) has in
      let size = so_far.size in
      waits.waits c own (omega (arith, within, size))))

-- ---- one Clock after another

module _ (clocks : List PortId) (input : ℕ) (before lists : List (List ℕ)) (clock : PortId) (so_far : WaitToo clocks input before lists) where
  pub wait_more : clock.0 < length lists → WaitToo (clocks ++ clock ∷ []) input before (set lists clock.0 (get_or lists clock.0 [] ++ input ∷ []))
  wait_more within = record {
    size = length-set lists clock.0 (get_or lists clock.0 [] ++ input ∷ []) ∙ so_far.size;
    kept = λ c p has. in_pushed lists clock.0 input c p within (so_far.kept c p has);
    waits = λ c has low. elim (Contains-push_cases clocks clock c has) [
      | inl old ↦ in_pushed lists clock.0 input c.0 input within (so_far.waits c old low)
      | inr new ↦
          subst (λ (d : PortId). Contains (get_or (set lists clock.0 (get_or lists clock.0 [] ++ input ∷ [])) d.0 []) input) new
          (in_same lists clock.0 (get_or lists clock.0 [] ++ input ∷ []) input within (Contains-push (get_or lists clock.0 []) input))
    ];
  }

  pub wait_past : length lists ≤ clock.0 → WaitToo (clocks ++ clock ∷ []) input before lists
  wait_past past = record {
    size = so_far.size;
    kept = so_far.kept;
    waits = λ c has low. elim (Contains-push_cases clocks clock c has) [
      | inl old ↦ so_far.waits c old low
      | inr new ↦
          let same : clock.0 ≡ c.0 = ap (λ (d : PortId). d.0) new in
          let size = so_far.size in
          absurd (omega (arith, past, same, size, low))
    ];
  }

-- with the Clock at i
pub wait_next : (clocks : List PortId) (i input : ℕ) (d : PortId) (before lists after : List (List ℕ)) → i < length clocks → WaitToo (take i clocks) input before lists → (get_or clocks i d).0 < length lists →
    after ≡ set lists (get_or clocks i d).0 (get_or lists (get_or clocks i d).0 [] ++ input ∷ []) → WaitToo (take (i + 1) clocks) input before after
wait_next clocks i input d before lists after within so_far low is =
    let P : List PortId → Type 0 = λ cs. WaitToo cs input before after in
    let Q : List (List ℕ) → Type 0 = λ ls. WaitToo (take i clocks ++ get_or clocks i d ∷ []) input before ls in
    subst P (sym (take_more clocks i d within)) (subst Q (sym is) (wait_more (take i clocks) input before lists (get_or clocks i d) so_far low))

pub wait_skip : (clocks : List PortId) (i input : ℕ) (d : PortId) (before lists : List (List ℕ)) → i < length clocks → WaitToo (take i clocks) input before lists → length lists ≤ (get_or clocks i d).0 →
    WaitToo (take (i + 1) clocks) input before lists
wait_skip clocks i input d before lists within so_far past =
    subst (λ (cs : List PortId). WaitToo cs input before lists) (sym (take_more clocks i d within)) (wait_past (take i clocks) input before lists (get_or clocks i d) so_far past)

-- ---- where a present input stands

-- a Clock of the list is active
record ActiveIn (values : List (Option ℤ)) (clocks : List PortId) : Type 0 where
  clock : PortId
  has : Contains clocks clock
  active : value values clock.0 ≡ Some (pos 1)

active_in : (values : List (Option ℤ)) (all clocks : List PortId) → ((c : PortId) → Contains clocks c → Contains all c) → list_any (λ (c : PortId). is_active (value values c.0)) clocks ≡ true → ActiveIn values all
active_in values all [] within any = absurd (true_false (sym any))
active_in values all (c ∷ clocks) within any =
    (elim (is_active (value values c.0)) as (λ b. is_active (value values c.0) ≡ b → (b || list_any (λ (d : PortId). is_active (value values d.0)) clocks) ≡ true → ActiveIn values all) [
      | true ↦ λ is some. record { clock = c; has = within c (at_contains (c ∷ clocks) 0 c refl); active = active_is (value values c.0) is }
      | false ↦ λ is some. active_in values all clocks (λ d has. within d (Contains-append_right (c ∷ []) clocks d has)) some
    ]) refl any

-- a present input is one of those that are present in each instant, or of those at a tick that a line tells
pub data Listed (steady : List ℕ) (lists : List (List ℕ)) (told : List TraceLine) (p : ℕ) : Type 0 where
  Always : Contains steady p → Listed steady lists told p
  AtTick : (line c : ℕ) → slice_get told line ≡ Some (Value c (pos 1)) → Contains (get_or lists c []) p → Listed steady lists told p

-- what something comes to has a source
has_source : (role : Role) (kind : PortType) (values : List (Option ℤ)) (comes : Option ℤ) → comes_to role kind values ≡ Some comes → is_some (source_of role) ≡ true
has_source (Input None) kind values comes e = absurd (none_some comes e)
has_source (Input (Some feed)) kind values comes e = refl
has_source Output kind values comes e = absurd (none_some comes e)
has_source (ClockInput None) kind values comes e = absurd (none_some comes e)
has_source (ClockInput (Some feed)) kind values comes e = refl
has_source ClockOutput kind values comes e = absurd (none_some comes e)
has_source (TimeClock timing) kind values comes e = absurd (none_some comes e)

pub listed : (system : System) (steady : List ℕ) (lists : List (List ℕ)) (told : List TraceLine) (values : List (Option ℤ)) (p : ℕ) → HoldInputs system.ports (length system.ports) steady lists →
    told ≡ told_values_from 0 values → length values ≡ length system.ports → DiffersFromSource system values p → Listed steady lists told p
listed system steady lists told values p hold same size differs =
    let port = differs.port in
    let low = slice_get_within system.ports p port differs.at in
    let fed : is_some (source_of port.role) ≡ true = has_source port.role port.kind values differs.comes differs.fed in
    (elim (is_steady port) as (λ b. is_steady port ≡ b → (b || list_any (λ (c : PortId). is_active (value values c.0)) port.clocks) ≡ true → Listed steady lists told p) [
      | true ↦ λ is present. Always (hold.always p port low (record { at = differs.at; fed = fed; kind = is }))
      | false ↦ λ is present.
          let active = active_in values port.clocks port.clocks (λ c has. has) present in
          let c = active.clock in
          let own = has_line told values c.0 (pos 1) same active.active in
          let within : c.0 < length values = value_within values c.0 (pos 1) active.active in
          AtTick own.line c.0 own.is (hold.by_ticks p port c low (record { at = differs.at; fed = fed; kind = is }) active.has (omega (arith, within, size)))
    ]) refl differs.present

-- ---- what lacks a value

-- an input that lacks its value: it differs from its source, and has none
abbrev pub NoneLack : System → List (Option ℤ) → List ℕ → Type 0
NoneLack system values inputs = (p : ℕ) → Contains inputs p → DiffersFromSource system values p → value values p ≡ None → ⊥

pub lack_more : (system : System) (values : List (Option ℤ)) (inputs : List ℕ) (i : ℕ) → i < length inputs → NoneLack system values (take i inputs) →
    (DiffersFromSource system values (get_or inputs i 0) → value values (get_or inputs i 0) ≡ None → ⊥) → NoneLack system values (take (i + 1) inputs)
lack_more system values inputs i within before own q has differs none =
    elim (Contains-push_cases (take i inputs) (get_or inputs i 0) q (subst (λ (xs : List ℕ). Contains xs q) (take_more inputs i 0 within) has)) [
      | inl old ↦ before q old differs none
      | inr new ↦ own (subst (λ (x : ℕ). DiffersFromSource system values x) (sym new) differs) (ap (λ (x : ℕ). value values x) new ∙ none)
    ]

pub lack_all : (system : System) (values : List (Option ℤ)) (inputs : List ℕ) (i : ℕ) → NoneLack system values (take i inputs) → length inputs ≤ i → NoneLack system values inputs
lack_all system values inputs i all past = subst (NoneLack system values) (take_all i inputs past) all

-- none does that is present by a tick of the first lines
abbrev pub NoneLackAt : System → List (Option ℤ) → List TraceLine → List (List ℕ) → ℕ → Type 0
NoneLackAt system values told lists k = (j c : ℕ) → j < k → slice_get told j ≡ Some (Value c (pos 1)) → NoneLack system values (get_or lists c [])

pub none_lacks : (system : System) (steady : List ℕ) (lists : List (List ℕ)) (told : List TraceLine) (values : List (Option ℤ)) (k : ℕ) → HoldInputs system.ports (length system.ports) steady lists →
    told ≡ told_values_from 0 values → length values ≡ length system.ports → NoneLack system values steady → NoneLackAt system values told lists k → length told ≤ k →
    (p : ℕ) → DiffersFromSource system values p → value values p ≡ None → ⊥
none_lacks system steady lists told values k hold same size always at_ticks past p differs none =
    elim (listed system steady lists told values p hold same size differs) [
      | Always has ↦ always p has differs none
      | AtTick line c is has ↦ let within = slice_get_within told line (Value c (pos 1)) is in at_ticks line c (omega (arith, within, past)) is p has differs none
    ]
