-- The first line of an instant that breaks a rule: its `at` line, where the instant stands out of order, an input has no value or a Clock is off, or else the first line of an input.
use Rattle.std.proofs.Common.{arith, ◌≡◌, refl, sym, ℕ, ◌<◌, ◌≤◌, List, Option, Some, None, ◌⊎◌, inl, inr, length, true, false}
use Rattle.std.specs.Prelude.{IfNone, IfSome, is_some}
use Rattle.std.proofs.lemmas.Bool.{cases_lt}
use Rattle.system_model.specs.Text.{Instant}
use Rattle.system_model.specs.declared.system.System.{System}
use Rattle.system_model.proofs.CallerLemmas.{all_at, contains_at}
use Rattle.trace_reading.specs.declared.trace.Trace.{Trace}
use Rattle.trace_reading.specs.Form.{told_values_from}
use Rattle.trace_check.specs.declared.ticks.ConstantClock.{ConstantClock}
use Rattle.trace_check.specs.Instants.{IsInOrder, lines_to}
use Rattle.system_model.specs.Values.{value}
use Rattle.trace_check.specs.Values.{DiffersFromSource}
use Rattle.trace_check.specs.Ticks.{IsConstantClock, IsOffTick}
use Rattle.trace_check.specs.Rules.{BreaksIn}
use Rattle.trace_check.specs.Rules.BreaksIn.{OutOfOrder, OffSource, OffTick}
use Rattle.trace_check.specs.Steps.{AreConstantClocks, IsAnyOff, IsFirstIn, IsOtherValue}
use Rattle.trace_check.proofs.SourceLemmas.{lines_none, lines_within, lines_zero}

-- a line that isn't after another, with a rule that isn't above its, comes first
pub comes_first : (line l rule r : ℕ) → line ≤ l → rule ≤ r → (line < l) ⊎ ((line ≡ l) × (rule ≤ r))
comes_first line l rule r order less = elim (cases_lt line l) [ inl before ↦ inl before | inr after ↦ inr (omega (arith, order, after), less) ]

-- the rules of an instant's lines are 2 to 4
pub rule_above : (system : System) (t : Trace) (last : Option (ℕ × ℕ)) (i : Instant) (o r : ℕ) → BreaksIn system t last i o r → 2 ≤ r
rule_above system t last i o r (OutOfOrder at rule no_order) = omega (arith, rule)
rule_above system t last i o r (OffSource p at rule differs) = omega (arith, rule)
rule_above system t last i o r (OffTick at rule p interval shift clock off) = omega (arith, rule)

-- and stand up to the last of its values
pub offset_within : (system : System) (t : Trace) (last : Option (ℕ × ℕ)) (i : Instant) (o r : ℕ) → BreaksIn system t last i o r → o ≤ length (told_values_from 0 i.values)
offset_within system t last i o r (OutOfOrder at rule no_order) = omega (arith, at)
offset_within system t last i o r (OffSource p at rule differs) = let within = lines_within i.values p in omega (arith, at, within)
offset_within system t last i o r (OffTick at rule p interval shift clock off) = omega (arith, at)

-- ---- out of order

pub out_of_order : (system : System) (t : Trace) (last : Option (ℕ × ℕ)) (i : Instant) → (IsInOrder t.start t.stop last i.t i.n → ⊥) → IsFirstIn system t last i 0 2
out_of_order system t last i no_order = record {
  breaks = OutOfOrder refl refl no_order;
  least = λ o r breaks. comes_first 0 o 2 r (omega arith) (rule_above system t last i o r breaks);
}

-- ---- an input without a value

without_value_least : (system : System) (t : Trace) (last : Option (ℕ × ℕ)) (i : Instant) → IsInOrder t.start t.stop last i.t i.n →
    (o r : ℕ) → BreaksIn system t last i o r → (0 < o) ⊎ ((0 ≡ o) × (3 ≤ r))
without_value_least system t last i order o r (OutOfOrder at rule no_order) = absurd (no_order order)
without_value_least system t last i order o r (OffSource p at rule differs) = comes_first 0 o 3 r (omega arith) (omega (arith, rule))
without_value_least system t last i order o r (OffTick at rule p interval shift clock off) = comes_first 0 o 3 r (omega arith) (omega (arith, rule))

pub without_value : (system : System) (t : Trace) (last : Option (ℕ × ℕ)) (i : Instant) (p : ℕ) → IsInOrder t.start t.stop last i.t i.n →
    DiffersFromSource system i.values p → value i.values p ≡ None → IsFirstIn system t last i 0 3
without_value system t last i p order differs none = record {
  breaks = OffSource p (sym (lines_none i.values p none)) refl differs;
  least = without_value_least system t last i order;
}

-- ---- a Clock that is off

-- each input that differs has a line of its own
abbrev HaveLines : System → Instant → Type 0
HaveLines system i = (p : ℕ) → DiffersFromSource system i.values p → value i.values p ≡ None → ⊥

own_line : (system : System) (i : Instant) (p : ℕ) → HaveLines system i → DiffersFromSource system i.values p → 0 < lines_to i.values p
own_line system i p have differs = elim (cases_lt 0 (lines_to i.values p)) [ inl above ↦ above | inr below ↦ absurd (have p differs (lines_zero i.values p (omega (arith, below)))) ]

off_tick_least : (system : System) (t : Trace) (last : Option (ℕ × ℕ)) (i : Instant) → IsInOrder t.start t.stop last i.t i.n → HaveLines system i →
    (o r : ℕ) → BreaksIn system t last i o r → (0 < o) ⊎ ((0 ≡ o) × (4 ≤ r))
off_tick_least system t last i order have o r (OutOfOrder at rule no_order) = absurd (no_order order)
off_tick_least system t last i order have o r (OffSource p at rule differs) = let above = own_line system i p have differs in inl (omega (arith, at, above))
off_tick_least system t last i order have o r (OffTick at rule p interval shift clock off) = comes_first 0 o 4 r (omega arith) (omega (arith, rule))

pub off_tick : (system : System) (clocks : List ConstantClock) (t : Trace) (last : Option (ℕ × ℕ)) (i : Instant) → AreConstantClocks system clocks →
    IsInOrder t.start t.stop last i.t i.n → ((p : ℕ) → DiffersFromSource system i.values p → value i.values p ≡ None → ⊥) →
    IsAnyOff clocks t.start last i.t i.n i.values → IsFirstIn system t last i 0 4
off_tick system clocks t last i are order have off =
    let clock : IsConstantClock system off.clock.port off.clock.interval off.clock.shift =
    all_at (λ (c : ConstantClock). IsConstantClock system c.port c.interval c.shift) clocks off.place off.clock are.each off.at in
    record {
      breaks = OffTick refl refl off.clock.port off.clock.interval off.clock.shift clock off.off;
      least = off_tick_least system t last i order have;
    }

-- a constant Clock that is off is one of those
any_off : (system : System) (clocks : List ConstantClock) (start : ℕ) (last : Option (ℕ × ℕ)) (i : Instant) (p interval shift : ℕ) → AreConstantClocks system clocks →
    IsConstantClock system p interval shift → IsOffTick start interval shift last i.t i.n (value i.values p) → IsAnyOff clocks start last i.t i.n i.values
any_off system clocks start last i p interval shift are clock off =
    let found = contains_at clocks (record { port = p; interval = interval; shift = shift }) (are.all p interval shift clock) in
    record { place = found.0; clock = record { port = p; interval = interval; shift = shift }; at = found.1; off = off }

-- ---- an input with another value

other_value_least : (system : System) (clocks : List ConstantClock) (t : Trace) (last : Option (ℕ × ℕ)) (i : Instant) (lines : ℕ) → AreConstantClocks system clocks →
    IsInOrder t.start t.stop last i.t i.n → HaveLines system i → (IsAnyOff clocks t.start last i.t i.n i.values → ⊥) →
    ((p : ℕ) → DiffersFromSource system i.values p → 0 < lines_to i.values p → lines ≤ lines_to i.values p) →
    (o r : ℕ) → BreaksIn system t last i o r → (lines < o) ⊎ ((lines ≡ o) × (3 ≤ r))
other_value_least system clocks t last i lines are order have no_off first o r (OutOfOrder at rule no_order) = absurd (no_order order)
other_value_least system clocks t last i lines are order have no_off first o r (OffSource p at rule differs) =
    let later = first p differs (own_line system i p have differs) in
    comes_first lines o 3 r (omega (arith, at, later)) (omega (arith, rule))
other_value_least system clocks t last i lines are order have no_off first o r (OffTick at rule p interval shift clock off) =
    absurd (no_off (any_off system clocks t.start last i p interval shift are clock off))

pub other_value : (system : System) (clocks : List ConstantClock) (t : Trace) (last : Option (ℕ × ℕ)) (i : Instant) (lines : ℕ) → AreConstantClocks system clocks →
    IsInOrder t.start t.stop last i.t i.n → ((p : ℕ) → DiffersFromSource system i.values p → value i.values p ≡ None → ⊥) → (IsAnyOff clocks t.start last i.t i.n i.values → ⊥) →
    IsOtherValue system i.values lines → ((p : ℕ) → DiffersFromSource system i.values p → 0 < lines_to i.values p → lines ≤ lines_to i.values p) → IsFirstIn system t last i lines 3
other_value system clocks t last i lines are order have no_off found first = record {
  breaks = OffSource found.input found.line refl found.differs;
  least = other_value_least system clocks t last i lines are order have no_off first;
}

-- ---- none

pub no_break : (system : System) (clocks : List ConstantClock) (t : Trace) (last : Option (ℕ × ℕ)) (i : Instant) → AreConstantClocks system clocks →
    IsInOrder t.start t.stop last i.t i.n → ((p : ℕ) → DiffersFromSource system i.values p → value i.values p ≡ None → ⊥) → (IsAnyOff clocks t.start last i.t i.n i.values → ⊥) →
    ((p : ℕ) → DiffersFromSource system i.values p → lines_to i.values p ≡ 0) → (o r : ℕ) → BreaksIn system t last i o r → ⊥
no_break system clocks t last i are order have no_off none o r (OutOfOrder at rule no_order) = no_order order
no_break system clocks t last i are order have no_off none o r (OffSource p at rule differs) = have p differs (lines_zero i.values p (none p differs))
no_break system clocks t last i are order have no_off none o r (OffTick at rule p interval shift clock off) = no_off (any_off system clocks t.start last i p interval shift are clock off)

pub some_without_value : (system : System) (t : Trace) (last : Option (ℕ × ℕ)) (i : Instant) (found : Option ℕ) → IsInOrder t.start t.stop last i.t i.n →
    IfSome found (λ (p : ℕ). DiffersFromSource system i.values p × (value i.values p ≡ None)) → is_some found ≡ true → IsFirstIn system t last i 0 3
some_without_value system t last i None order said is = absurd (cc is)
some_without_value system t last i (Some p) order said is = without_value system t last i p order said.0 said.1

pub none_without_value : (system : System) (i : Instant) (found : Option ℕ) → IfNone found ((p : ℕ) → DiffersFromSource system i.values p → value i.values p ≡ None → ⊥) → is_some found ≡ false →
    (p : ℕ) → DiffersFromSource system i.values p → value i.values p ≡ None → ⊥
none_without_value system i None said is = said
none_without_value system i (Some p) said is = absurd (cc is)
