-- A checkpoint is the spelling of what it keeps.
use Rattle.std.proofs.Common.{◌≡◌, ℕ, zero, suc, ◌+◌, ◌-◌, ◌*◌, ◌/◌, ◌%◌, ◌<◌, ◌≤◌, ◌^◌, Bool, true, false, List, [], ◌∷◌, ◌++◌, length, refl, sym, ap, subst, ◌∙◌, append_assoc, append-nil, arith, inl, inr}
use Rattle.std.specs.Prelude.{Option, Some, None, IfSome, ◌==◌, if◌then◌else◌}
use Rattle.std.specs.List.{flat_map}
use Rattle.std.specs.Int.{w32, w64, to_be_bytes}
use Rattle.std.proofs.lemmas.Bool.{eqb-false, eqb-true}
use Rattle.std.proofs.lemmas.Nat.{div-add-mod', mod_below}
use Rattle.value_types.specs.declared.values.PortType.{PortType}
use Rattle.value_types.specs.declared.values.PortType.TheVariants.{Int8, UInt8, Int16, UInt16, Int32, UInt32, Int64, UInt64, Boolean, Enumeration, Clock}
use Rattle.system_model.specs.declared.plan.Plan.{Plan}
use Rattle.system_model.specs.declared.system.System.{System}
use Rattle.system_model.specs.declared.system.Component.{Component}
use Rattle.system_model.specs.declared.system.Port.{Port}
use Rattle.exact_parts.specs.declared.field.Spans.{Spans}
use Rattle.exact_parts.specs.Field.{AreBytes, Field, InSpans}
use Rattle.exact_parts.specs.Each.{Each, EachFrom, Made}
use Rattle.exact_parts.proofs.CallerLemmas.{field_1, field_4, field_8, only_1, only_4, only_8}
use Rattle.system_checkpoint.specs.declared.first.First.{First}
use Rattle.system_checkpoint.specs.declared.snapshot.Arming.{Arming}
use Rattle.system_checkpoint.specs.declared.snapshot.Arming.TheVariants.{NoClock, Unarmed, At}
use Rattle.system_checkpoint.specs.declared.snapshot.ClockTimes.{ClockTimes}
use Rattle.system_checkpoint.specs.declared.snapshot.Snapshot.{Snapshot}
use Rattle.system_checkpoint.specs.Parts.{Known, Nothing, Optional, Times, Wide, arming_of, between, clock_times, low_span, option_of, spans_after, words}
use Rattle.system_checkpoint.specs.First.{IsFirst, count_max, first_of, limit_max, magic, plan_of}
use Rattle.system_checkpoint.specs.Whole.{ArmingIf, ArmingOf, Checkpoint, EventOf, StateOf, TimesIf, TimesOf, WordOf, begun, is_asked, may_be_armed}
use Rattle.system_checkpoint.specs.Spelling.{AllBy, AreTimes, CanBeHeld, HasArming, HasEvent, HasTimes, IsArming, IsInLimits, IsState, IsToCome, IsWord, arming_bytes, first_bytes, option_bytes, sized, spelling, times_bytes, wide_bytes}
use Rattle.system_checkpoint.proofs.PartLemmas.{in_between, within}

both_are : (bytes prefix rest one other : List ℕ) → bytes ≡ prefix ++ rest → prefix ≡ one → rest ≡ other → bytes ≡ one ++ other
both_are bytes prefix rest one other both e f = both ∙ ap (λ xs. xs ++ rest) e ∙ ap (λ xs. one ++ xs) f

-- ---- a number or none

pub record Right (most : ℕ) (spans : Spans) (value : Option ℕ) (bytes : List ℕ) : Type 0 where
  pub is : bytes ≡ option_bytes value
  pub right : IfSome value (λ word. InSpans spans word × (1 ≤ most))

by_flag : (most : ℕ) (spans : Spans) (flag word : ℕ) (value : Option ℕ) (prefix rest : List ℕ) → flag ≤ 1 → flag ≤ most → prefix ≡ flag ∷ [] → Field 8 (spans_after spans flag) word rest → value ≡ option_of flag word → Right most spans value (prefix ++ rest)
by_flag most spans zero word value prefix rest le few e field is =
    let o = only_8 (between 0 0) word rest field in
    let none : word ≡ 0 = omega (arith, (within 0 0 word field.span).up_to) in
    record { is = ap (λ xs. xs ++ rest) e ∙ ap (λ xs. 0 ∷ xs) (o.is ∙ ap (to_be_bytes w64) none) ∙ ap option_bytes (sym is); right = subst (λ (v : Option ℕ). IfSome v (λ word. InSpans spans word × (1 ≤ most))) (sym is) tt }
by_flag most spans (suc zero) word value prefix rest le few e field is =
    let o = only_8 spans word rest field in
    record { is = ap (λ xs. xs ++ rest) e ∙ ap (λ xs. 1 ∷ xs) o.is ∙ ap option_bytes (sym is); right = subst (λ (v : Option ℕ). IfSome v (λ word. InSpans spans word × (1 ≤ most))) (sym is) (field.span, few) }
by_flag most spans (suc (suc n)) word value prefix rest le few e field is = absurd (omega (arith, le))

optional_once : (most : ℕ) → most ≤ 1 → (spans : Spans) (value : Option ℕ) (bytes : List ℕ) → Optional most spans value bytes → Right most spans value bytes
optional_once most one spans value bytes h =
    let made = h.is_next in
    let flag = within 0 most h.number h.is_first.span in
    let right = by_flag most spans h.number made.value value h.prefix h.rest (omega (arith, flag.up_to, one)) flag.up_to (only_1 (between 0 most) h.number h.prefix h.is_first).is made.spelled made.is in
    record { is = h.both ∙ right.is; right = right.right }

optional_all : (most : ℕ) (spans : Spans) (value : Option ℕ) → IfSome value (λ word. (InSpans spans word × (1 ≤ most)) × (word < 2 ^ 64)) → Optional most spans value (option_bytes value)
optional_all most spans None h = record {
  number = 0;
  prefix = 0 ∷ [];
  rest = to_be_bytes w64 0;
  is_first = field_1 (between 0 most) 0 (omega arith) (in_between 0 most 0 (omega arith) (omega arith));
  is_next = record { value = 0; is = refl; spelled = field_8 (between 0 0) 0 (omega arith) (in_between 0 0 0 (omega arith) (omega arith)) };
  both = refl;
}
optional_all most spans (Some word) h = record {
  number = 1;
  prefix = 1 ∷ [];
  rest = to_be_bytes w64 word;
  is_first = field_1 (between 0 most) 1 (omega arith) (in_between 0 most 1 (omega arith) h.0.1);
  is_next = record { value = word; is = refl; spelled = field_8 spans word h.1 h.0.0 };
  both = refl;
}

small_spans : (spans : Spans) (n : ℕ) → spans.one.high < 2 ^ 64 → spans.other.high < 2 ^ 64 → InSpans spans n → n < 2 ^ 64
small_spans spans n one other (inl s) = omega (arith, s.up_to, one)
small_spans spans n one other (inr s) = omega (arith, s.up_to, other)

words_small : (kind : PortType) (n : ℕ) → InSpans (words kind) n → n < 2 ^ 64
words_small Int8 n h = small_spans (words Int8) n (omega arith) (omega arith) h
words_small UInt8 n h = small_spans (words UInt8) n (omega arith) (omega arith) h
words_small Int16 n h = small_spans (words Int16) n (omega arith) (omega arith) h
words_small UInt16 n h = small_spans (words UInt16) n (omega arith) (omega arith) h
words_small Int32 n h = small_spans (words Int32) n (omega arith) (omega arith) h
words_small UInt32 n h = small_spans (words UInt32) n (omega arith) (omega arith) h
words_small Int64 n h = small_spans (words Int64) n (omega arith) (omega arith) h
words_small UInt64 n h = small_spans (words UInt64) n (omega arith) (omega arith) h
words_small Boolean n h = small_spans (words Boolean) n (omega arith) (omega arith) h
words_small Enumeration n h = small_spans (words Enumeration) n (omega arith) (omega arith) h
words_small Clock n h = small_spans (words Clock) n (omega arith) (omega arith) h

-- ---- the timing of a Clock

pub record LowIs (least high low : ℕ) : Type 0 where
  pub top : high ≡ 2 ^ 62 → low ≡ 0
  pub bottom : high ≡ 0 → least ≤ low

bottom_is : (least high low : ℕ) → InSpans (between (if high == 0 then least else 0) (2 ^ 64 - 1)) low → high ≡ 0 → least ≤ low
bottom_is least high low h e = (within least (2 ^ 64 - 1) low (subst (λ (k : ℕ). InSpans (between (if k == 0 then least else 0) (2 ^ 64 - 1)) low) e h)).from

low_is : (least high low : ℕ) → InSpans (low_span least high) low → LowIs least high low
low_is least high low h = (elim (high == 2 ^ 62) as (λ b. high == 2 ^ 62 ≡ b → InSpans (if b then between 0 0 else between (if high == 0 then least else 0) (2 ^ 64 - 1)) low → LowIs least high low) [
  | true ↦ λ e s. record {
    top = λ t. omega (arith, (within 0 0 low s).up_to);
    bottom = λ z. absurd (omega (arith, z, eqb-true high (2 ^ 62) e));
  }
  | false ↦ λ e s. record { top = λ t. absurd (eqb-false high (2 ^ 62) e t); bottom = bottom_is least high low s }
]) refl h

pub record WideIs (least n : ℕ) (bytes : List ℕ) : Type 0 where
  pub is : bytes ≡ wide_bytes n
  pub from : least ≤ n
  pub up_to : n ≤ 2 ^ 126

at_most : (high low n : ℕ) → high ≤ 2 ^ 62 → low < 2 ^ 64 → (high ≡ 2 ^ 62 → low ≡ 0) → n ≡ high * 2 ^ 64 + low → n ≤ 2 ^ 126
at_most high low n le lt top is = (elim (high == 2 ^ 62) as (λ b. high == 2 ^ 62 ≡ b → n ≤ 2 ^ 126) [
  | true ↦ λ e. let t = eqb-true high (2 ^ 62) e in omega (arith, is, t, top t)
  | false ↦ λ e. omega (arith, is, le, lt, eqb-false high (2 ^ 62) e)
]) refl

at_least : (least high low n : ℕ) → least ≤ 1 → (high ≡ 0 → least ≤ low) → n ≡ high * 2 ^ 64 + low → least ≤ n
at_least least zero low n one bottom is = omega (arith, is, bottom refl)
at_least least (suc high) low n one bottom is = omega (arith, is, one)

-- a number has one higher and one lower half
halves : (high low q r n : ℕ) → n ≡ high * 2 ^ 64 + low → low < 2 ^ 64 → q * 2 ^ 64 + r ≡ n → r < 2 ^ 64 → (high ≡ q) × (low ≡ r)
halves high low q r n is lt other less =
    let same : high ≡ q = omega (arith, is, lt, other, less) in
    (same, omega (arith, is, other, same))

wide_once : (least n : ℕ) (bytes : List ℕ) → least ≤ 1 → Wide least n bytes → WideIs least n bytes
wide_once least n bytes one h =
    let made = h.is_next in
    let high = h.number in
    let low = made.value in
    let w = within 0 (2 ^ 62) high h.is_first.span in
    let o = only_8 (between 0 (2 ^ 62)) high h.prefix h.is_first in
    let p = only_8 (low_span least high) low h.rest made.spelled in
    let facts = low_is least high low made.spelled.span in
    let is : n ≡ high * 2 ^ 64 + low = made.is in
    let same = halves high low (n / 2 ^ 64) (n % 2 ^ 64) n is p.below (div-add-mod' n (2 ^ 64)) (mod_below n (2 ^ 64) (omega arith)) in
    record {
      is = both_are bytes h.prefix h.rest (to_be_bytes w64 (n / 2 ^ 64)) (to_be_bytes w64 (n % 2 ^ 64)) h.both (o.is ∙ ap (to_be_bytes w64) same.0) (p.is ∙ ap (to_be_bytes w64) same.1);
      from = at_least least high low n one facts.bottom is;
      up_to = at_most high low n w.up_to p.below facts.top is;
    }

in_least : (least high low : ℕ) → low < 2 ^ 64 → (high ≡ 0 → least ≤ low) → InSpans (between (if high == 0 then least else 0) (2 ^ 64 - 1)) low
in_least least high low lt bottom = (elim (high == 0) as (λ b. high == 0 ≡ b → InSpans (between (if b then least else 0) (2 ^ 64 - 1)) low) [
  | true ↦ λ e. in_between least (2 ^ 64 - 1) low (bottom (eqb-true high 0 e)) (omega (arith, lt))
  | false ↦ λ e. in_between 0 (2 ^ 64 - 1) low (omega arith) (omega (arith, lt))
]) refl

in_low : (least high low : ℕ) → low < 2 ^ 64 → (high ≡ 2 ^ 62 → low ≡ 0) → (high ≡ 0 → least ≤ low) → InSpans (low_span least high) low
in_low least high low lt top bottom = (elim (high == 2 ^ 62) as (λ b. high == 2 ^ 62 ≡ b → InSpans (if b then between 0 0 else between (if high == 0 then least else 0) (2 ^ 64 - 1)) low) [
  | true ↦ λ e. in_between 0 0 low (omega arith) (omega (arith, top (eqb-true high (2 ^ 62) e)))
  | false ↦ λ e. in_least least high low lt bottom
]) refl

by_halves : (least n high low : ℕ) → least ≤ n → n ≤ 2 ^ 126 → n ≡ high * 2 ^ 64 + low → low < 2 ^ 64 → Wide least n (to_be_bytes w64 high ++ to_be_bytes w64 low)
by_halves least n high low from up_to is lt =
    let le : high ≤ 2 ^ 62 = omega (arith, is, up_to) in
    record {
      number = high;
      prefix = to_be_bytes w64 high;
      rest = to_be_bytes w64 low;
      is_first = field_8 (between 0 (2 ^ 62)) high (omega (arith, le)) (in_between 0 (2 ^ 62) high (omega arith) le);
      is_next = record {
        value = low;
        is = is;
        spelled = field_8 (low_span least high) low lt (in_low least high low lt (λ e. omega (arith, is, e, up_to)) (λ e. omega (arith, is, e, from)));
      };
      both = refl;
    }

wide_all : (least n : ℕ) → least ≤ n → n ≤ 2 ^ 126 → Wide least n (wide_bytes n)
wide_all least n from up_to =
    by_halves least n (n / 2 ^ 64) (n % 2 ^ 64) from up_to (sym (div-add-mod' n (2 ^ 64))) (mod_below n (2 ^ 64) (omega arith))

times_once : (times : ClockTimes) (bytes : List ℕ) → Times times bytes → (bytes ≡ times_bytes (Some times)) × AreTimes times
times_once times bytes h =
    let made = h.is_next in
    let one = wide_once 1 h.number h.prefix (omega arith) h.is_first in
    let other = wide_once 0 made.value h.rest (omega arith) made.spelled in
    let is : times ≡ clock_times h.number made.value = made.is in (
      both_are bytes h.prefix h.rest (wide_bytes h.number) (wide_bytes made.value) h.both one.is other.is ∙ ap (λ (t : ClockTimes). times_bytes (Some t)) (sym is),
      subst AreTimes (sym is) (record { moves = one.from; interval = one.up_to; shift = other.up_to }),
    )

times_all : (times : ClockTimes) → AreTimes times → Times times (times_bytes (Some times))
times_all times h = record {
  number = times.interval;
  prefix = wide_bytes times.interval;
  rest = wide_bytes times.shift;
  is_first = wide_all 1 times.interval h.moves h.interval;
  is_next = record { value = times.shift; is = refl; spelled = wide_all 0 times.shift (omega arith) h.shift };
  both = refl;
}

-- ---- the parts of components and ports

pub state_once : (component : Component) (state bytes : List ℕ) → StateOf component state bytes → (bytes ≡ sized state) × IsState component state
state_once component state bytes h =
    let block = h.is_next in
    let state_is : h.rest ≡ state = sym block.is in
    let size : h.number ≡ length state = sym block.size_is ∙ ap length state_is in
    let w = within 0 (2 ^ 20) h.number h.is_first.span in (
      both_are bytes h.prefix h.rest (to_be_bytes w32 (length state)) state h.both ((only_4 (between 0 (2 ^ 20)) h.number h.prefix h.is_first).is ∙ ap (to_be_bytes w32) size) state_is,
      record { size = omega (arith, size, w.up_to); are_bytes = subst AreBytes state_is block.are_bytes },
    )

pub state_all : (component : Component) (state : List ℕ) → IsState component state → StateOf component state (sized state)
state_all component state h = record {
  number = length state;
  prefix = to_be_bytes w32 (length state);
  rest = state;
  is_first = field_4 (between 0 (2 ^ 20)) (length state) (omega (arith, h.size)) (in_between 0 (2 ^ 20) (length state) (omega arith) h.size);
  is_next = record { is = refl; size_is = refl; are_bytes = h.are_bytes };
  both = refl;
}

word_from : (spans : Spans) (word : Option ℕ) → IfSome word (λ n. InSpans spans n × (1 ≤ 1)) → IfSome word (λ n. InSpans spans n)
word_from spans None h = tt
word_from spans (Some n) h = h.0

word_to : (kind : PortType) (word : Option ℕ) → IfSome word (λ n. InSpans (words kind) n) → IfSome word (λ n. (InSpans (words kind) n × (1 ≤ 1)) × (n < 2 ^ 64))
word_to kind None h = tt
word_to kind (Some n) h = ((h, omega arith), words_small kind n h)

pub word_once : (port : Port) (word : Option ℕ) (bytes : List ℕ) → WordOf port word bytes → (bytes ≡ option_bytes word) × IsWord port word
word_once port word bytes h =
    let r = optional_once 1 (omega arith) (words port.kind) word bytes h in
    (r.is, word_from (words port.kind) word r.right)

pub word_all : (port : Port) (word : Option ℕ) → IsWord port word → WordOf port word (option_bytes word)
word_all port word h = optional_all 1 (words port.kind) word (word_to port.kind word h)

nothing_once : {V : Type 0} (none value : V) (spell : V → List ℕ) (bytes : List ℕ) → spell none ≡ [] → Nothing none value bytes → (bytes ≡ spell value) × (value ≡ none)
nothing_once {V} none value spell bytes e h = (h.spelled ∙ sym e ∙ ap spell (sym h.is), h.is)

nothing_all : {V : Type 0} (none value : V) (spell : V → List ℕ) → spell none ≡ [] → value ≡ none → Nothing none value (spell value)
nothing_all {V} none value spell e is = record { value = tt; is = is; spelled = ap spell is ∙ e }

made_times : (times : Option ClockTimes) (bytes : List ℕ) → Made Times Some times bytes → (bytes ≡ times_bytes times) × HasTimes true times
made_times times bytes h =
    let o = times_once h.value bytes h.spelled in
    (o.0 ∙ ap times_bytes (sym h.is), subst (HasTimes true) (sym h.is) o.1)

times_made : (times : Option ClockTimes) → HasTimes true times → Made Times Some times (times_bytes times)
times_made None h = absurd h
times_made (Some times) h = record { value = times; is = refl; spelled = times_all times h }

times_if_once : (asked : Bool) (times : Option ClockTimes) (bytes : List ℕ) → TimesIf asked times bytes → (bytes ≡ times_bytes times) × HasTimes asked times
times_if_once true times bytes h = made_times times bytes h
times_if_once false times bytes h = nothing_once None times times_bytes bytes refl h

times_if_all : (asked : Bool) (times : Option ClockTimes) → HasTimes asked times → TimesIf asked times (times_bytes times)
times_if_all true times h = times_made times h
times_if_all false times h = nothing_all None times times_bytes refl h

pub times_of_once : (port : Port) (times : Option ClockTimes) (bytes : List ℕ) → TimesOf port times bytes → (bytes ≡ times_bytes times) × HasTimes (is_asked port.role) times
times_of_once port times bytes h = times_if_once (is_asked port.role) times bytes h

pub times_of_all : (port : Port) (times : Option ClockTimes) → HasTimes (is_asked port.role) times → TimesOf port times (times_bytes times)
times_of_all port times h = times_if_all (is_asked port.role) times h

-- points to come

module _ (held : Snapshot) where
  abbrev low : ℕ
  low = held.point + 1

  abbrev high : ℕ
  high = held.plan.stop

  abbrev coming : Spans
  coming = between low high

  to_come : (point : ℕ) → InSpans coming point → IsToCome held point
  to_come point h = let w = within low high point h in (omega (arith, w.from), w.up_to)

  is_coming : (point : ℕ) → IsToCome held point → InSpans coming point
  is_coming point h = in_between low high point (omega (arith, h.0)) h.1

  arming_right : (point : Option ℕ) → IfSome point (λ n. InSpans coming n × (1 ≤ 1)) → IsArming held (arming_of point)
  arming_right None h = tt
  arming_right (Some point) h = to_come point h.0

  arming_spelled : (point : Option ℕ) → option_bytes point ≡ arming_bytes (arming_of point)
  arming_spelled None = refl
  arming_spelled (Some point) = refl

  made_arming : (arming : Arming) (bytes : List ℕ) → Made (Optional 1 coming) arming_of arming bytes → (bytes ≡ arming_bytes arming) × IsArming held arming
  made_arming arming bytes h =
      let r = optional_once 1 (omega arith) coming h.value bytes h.spelled in
      (r.is ∙ arming_spelled h.value ∙ ap arming_bytes (sym h.is), subst (IsArming held) (sym h.is) (arming_right h.value r.right))

  arming_made : held.plan.stop ≤ 2 ^ 62 → (arming : Arming) → IsArming held arming → Made (Optional 1 coming) arming_of arming (arming_bytes arming)
  arming_made near NoClock h = absurd h
  arming_made near Unarmed h = record { value = None; is = refl; spelled = optional_all 1 coming None tt }
  arming_made near (At point) h = record { value = Some point; is = refl; spelled = optional_all 1 coming (Some point) ((is_coming point h, omega arith), omega (arith, h.1, near)) }

  arming_if_once : (may : Bool) (arming : Arming) (bytes : List ℕ) → ArmingIf low high may arming bytes → (bytes ≡ arming_bytes arming) × HasArming held may arming
  arming_if_once true arming bytes h = made_arming arming bytes h
  arming_if_once false arming bytes h = nothing_once NoClock arming arming_bytes bytes refl h

  arming_if_all : held.plan.stop ≤ 2 ^ 62 → (may : Bool) (arming : Arming) → HasArming held may arming → ArmingIf low high may arming (arming_bytes arming)
  arming_if_all near true arming h = arming_made near arming h
  arming_if_all near false arming h = nothing_all NoClock arming arming_bytes refl h

  pub arming_of_once : (port : Port) (arming : Arming) (bytes : List ℕ) → ArmingOf held port arming bytes → (bytes ≡ arming_bytes arming) × HasArming held (may_be_armed port.role) arming
  arming_of_once port arming bytes h = arming_if_once (may_be_armed port.role) arming bytes h

  pub arming_of_all : held.plan.stop ≤ 2 ^ 62 → (port : Port) (arming : Arming) → HasArming held (may_be_armed port.role) arming → ArmingOf held port arming (arming_bytes arming)
  arming_of_all near port arming h = arming_if_all near (may_be_armed port.role) arming h

  event_right : (most : ℕ) (event : Option ℕ) → IfSome event (λ n. InSpans coming n × (1 ≤ most)) → IfSome event (λ n. IsToCome held n × (1 ≤ most))
  event_right most None h = tt
  event_right most (Some n) h = (to_come n h.0, h.1)

  event_back : (most : ℕ) → held.plan.stop ≤ 2 ^ 62 → (event : Option ℕ) → IfSome event (λ n. IsToCome held n × (1 ≤ most)) → IfSome event (λ n. (InSpans coming n × (1 ≤ most)) × (n < 2 ^ 64))
  event_back most near None h = tt
  event_back most near (Some n) h = ((is_coming n h.0, h.1), omega (arith, h.0.1, near))

  flag_small : (b : Bool) → (if b then 1 else 0) ≤ 1
  flag_small true = omega arith
  flag_small false = omega arith

  pub event_of_once : (component : Component) (event : Option ℕ) (bytes : List ℕ) → EventOf held component event bytes → (bytes ≡ option_bytes event) × HasEvent held component event
  event_of_once component event bytes h =
      let most = if component.shape.has_event_mode then 1 else 0 in
      let r = optional_once most (flag_small component.shape.has_event_mode) coming event bytes h in
      (r.is, event_right most event r.right)

  pub event_of_all : held.plan.stop ≤ 2 ^ 62 → (component : Component) (event : Option ℕ) → HasEvent held component event → EventOf held component event (option_bytes event)
  event_of_all near component event h =
      let most = if component.shape.has_event_mode then 1 else 0 in
      optional_all most coming event (event_back most near event h)

-- ---- a part for each

module _ {A V : Type 0} (part : A → V → List ℕ → Type 0) (spell : V → List ℕ) (right : A → V → Type 0) (once : (a : A) (v : V) (bytes : List ℕ) → part a v bytes → (bytes ≡ spell v) × right a v) (all : (a : A) (v : V) → right a v → part a v (spell v)) where
  record Spelled (things : List A) (before values : List V) (bytes : List ℕ) : Type 0 where
    own : List V
    values_are : values ≡ before ++ own
    is : bytes ≡ flat_map spell own
    are_right : AllBy right things own

  from_once : (things : List A) (before values : List V) (bytes : List ℕ) → EachFrom part things before values bytes → Spelled things before values bytes
  from_once [] before values bytes h = record { own = []; values_are = h.0 ∙ sym (append-nil before); is = h.1; are_right = tt }
  from_once (a ∷ things) before values bytes h =
      let one = once a h.number h.prefix h.is_first in
      let more = from_once things (before ++ h.number ∷ []) values h.rest h.is_next in
      record {
        own = h.number ∷ more.own;
        values_are = more.values_are ∙ append_assoc before (h.number ∷ []) more.own;
        is = both_are bytes h.prefix h.rest (spell h.number) (flat_map spell more.own) h.both one.0 more.is;
        are_right = (one.1, more.are_right);
      }

  pub each_once : (things : List A) (values : List V) (bytes : List ℕ) → Each part things values bytes → (bytes ≡ flat_map spell values) × AllBy right things values
  each_once things values bytes h =
      let s = from_once things [] values bytes h in
      (s.is ∙ ap (flat_map spell) (sym s.values_are), subst (AllBy right things) (sym s.values_are) s.are_right)

  from_all : (things : List A) (before values : List V) → AllBy right things values → EachFrom part things before (before ++ values) (flat_map spell values)
  from_all [] before [] h = (append-nil before, refl)
  from_all [] before (v ∷ values) h = absurd h
  from_all (a ∷ things) before [] h = absurd h
  from_all (a ∷ things) before (v ∷ values) h = record {
    number = v;
    prefix = spell v;
    rest = flat_map spell values;
    is_first = all a v h.0;
    is_next = subst (λ every. EachFrom part things (before ++ v ∷ []) every (flat_map spell values)) (append_assoc before (v ∷ []) values) (from_all things (before ++ v ∷ []) values h.1);
    both = refl;
  }

  pub each_all : (things : List A) (values : List V) → AllBy right things values → Each part things values (flat_map spell values)
  each_all things values h = from_all things [] values h

-- ---- what it begins with

pub first_once : (first : First) (bytes : List ℕ) → IsFirst first bytes → (bytes ≡ first_bytes first.plan first.point) × IsInLimits first.plan first.point
first_once first bytes h =
    let p1 = h.is_next in
    let p2 = p1.is_next in
    let p3 = p2.is_next in
    let p4 = p3.is_next in
    let p5 = p4.is_next in
    let p6 = p5.is_next in
    let w1 = within 1 count_max p1.number p1.is_first.span in
    let w2 = within 0 (count_max - 1) p2.number p2.is_first.span in
    let w3 = within 1 count_max p3.number p3.is_first.span in
    let w4 = within (p2.number + 1) count_max p4.number p4.is_first.span in
    let w5 = within 1 limit_max p5.number p5.is_first.span in
    let w6 = within p2.number (p4.number - 1) p6.value p6.spelled.span in
    let plan = plan_of p1.number p2.number p3.number p4.number p5.number in
    let is : first ≡ first_of plan p6.value = p6.is in
    let text : bytes ≡ first_bytes plan p6.value =
    both_are bytes h.prefix h.rest magic _ h.both h.is_first
    (both_are h.rest p1.prefix p1.rest (to_be_bytes w64 p1.number) _ p1.both (only_8 _ p1.number p1.prefix p1.is_first).is
    (both_are p1.rest p2.prefix p2.rest (to_be_bytes w64 p2.number) _ p2.both (only_8 _ p2.number p2.prefix p2.is_first).is
    (both_are p2.rest p3.prefix p3.rest (to_be_bytes w64 p3.number) _ p3.both (only_8 _ p3.number p3.prefix p3.is_first).is
    (both_are p3.rest p4.prefix p4.rest (to_be_bytes w64 p4.number) _ p4.both (only_8 _ p4.number p4.prefix p4.is_first).is
    (both_are p4.rest p5.prefix p5.rest (to_be_bytes w64 p5.number) _ p5.both (only_8 _ p5.number p5.prefix p5.is_first).is
    (only_8 _ p6.value p5.rest p6.spelled).is))))) in
    let limits : IsInLimits plan p6.value = record {
      resolution = (w1.from, w1.up_to);
      step = (w3.from, w3.up_to);
      limit = (w5.from, w5.up_to);
      from = w6.from;
      before = omega (arith, w6.up_to, w4.from);
      near = w4.up_to;
      workers = refl;
      link = refl;
    } in
    (text ∙ ap (λ (f : First). first_bytes f.plan f.point) (sym is), subst (λ (f : First). IsInLimits f.plan f.point) (sym is) limits)

pub first_all : (plan : Plan) (point : ℕ) → IsInLimits plan point → IsFirst (first_of plan point) (first_bytes plan point)
first_all plan point h =
    let start_small : plan.start ≤ count_max - 1 = omega (arith, h.from, h.before, h.near) in
    record {
      number = tt;
      prefix = magic;
      rest = _;
      both = refl;
      is_first = refl;
      is_next = record {
        number = plan.resolution;
        prefix = to_be_bytes w64 plan.resolution;
        rest = _;
        both = refl;
        is_first = field_8 _ plan.resolution (omega (arith, h.resolution.1)) (in_between 1 count_max plan.resolution h.resolution.0 h.resolution.1);
        is_next = record {
          number = plan.start;
          prefix = to_be_bytes w64 plan.start;
          rest = _;
          both = refl;
          is_first = field_8 _ plan.start (omega (arith, start_small)) (in_between 0 (count_max - 1) plan.start (omega arith) start_small);
          is_next = record {
            number = plan.step;
            prefix = to_be_bytes w64 plan.step;
            rest = _;
            both = refl;
            is_first = field_8 _ plan.step (omega (arith, h.step.1)) (in_between 1 count_max plan.step h.step.0 h.step.1);
            is_next = record {
              number = plan.stop;
              prefix = to_be_bytes w64 plan.stop;
              rest = _;
              both = refl;
              is_first = field_8 _ plan.stop (omega (arith, h.near)) (in_between (plan.start + 1) count_max plan.stop (omega (arith, h.from, h.before)) h.near);
              is_next = record {
                number = plan.limit;
                prefix = to_be_bytes w64 plan.limit;
                rest = to_be_bytes w64 point;
                both = refl;
                is_first = field_8 _ plan.limit (omega (arith, h.limit.1)) (in_between 1 limit_max plan.limit h.limit.0 h.limit.1);
                is_next = record {
                  value = point;
                  is = ap (λ (w : ℕ). first_of (record plan { workers = w }) point) h.workers ∙ ap (λ (l : ℕ). first_of (record plan { workers = 1; link = l }) point) h.link;
                  spelled = field_8 _ point (omega (arith, h.before, h.near)) (in_between plan.start (plan.stop - 1) point h.from (omega (arith, h.before)));
                };
              };
            };
          };
        };
      };
    }

-- ---- a text after its length

known_once : (header bytes : List ℕ) (v : Unit {0}) → Known header v bytes → bytes ≡ sized header
known_once header bytes v h =
    let w = within (length header) (length header) h.number h.is_first.span in
    let size : h.number ≡ length header = omega (arith, w.from, w.up_to) in
    both_are bytes h.prefix h.rest (to_be_bytes w32 (length header)) header h.both ((only_4 (between (length header) (length header)) h.number h.prefix h.is_first).is ∙ ap (to_be_bytes w32) size) h.is_next

known_all : (header : List ℕ) → length header < 2 ^ 32 → Known header tt (sized header)
known_all header short = record {
  number = length header;
  prefix = to_be_bytes w32 (length header);
  rest = header;
  is_first = field_4 (between (length header) (length header)) (length header) short (in_between (length header) (length header) (length header) (omega arith) (omega arith));
  is_next = refl;
  both = refl;
}

-- ---- the whole

pub spells_once : (system : System) (header : List ℕ) (held : Snapshot) (bytes : List ℕ) → length header < 2 ^ 32 → Checkpoint system header held bytes → (bytes ≡ spelling header held) × CanBeHeld system held
spells_once system header held bytes short h =
    let p1 = h.is_next in
    let p2 = p1.is_next in
    let p3 = p2.is_next in
    let p4 = p3.is_next in
    let p5 = p4.is_next in
    let p6 = p5.is_next in
    let first = h.number in
    let so_far : Snapshot = record (begun first) { states = p2.number; words = p3.number; times = p4.number } in
    let armed : Snapshot = record so_far { armings = p5.number } in
    let all : Snapshot = record armed { events = p6.value } in
    let begins = first_once first h.prefix h.is_first in
    let states = each_once StateOf sized IsState state_once state_all system.components p2.number p2.prefix p2.is_first in
    let words = each_once WordOf option_bytes IsWord word_once word_all system.ports p3.number p3.prefix p3.is_first in
    let times = each_once TimesOf times_bytes (λ (port : Port). HasTimes (is_asked port.role)) times_of_once times_of_all system.ports p4.number p4.prefix p4.is_first in
    let armings = each_once (ArmingOf so_far) arming_bytes (λ (port : Port). HasArming so_far (may_be_armed port.role)) (arming_of_once so_far) (arming_of_all so_far begins.1.near) system.ports p5.number p5.prefix p5.is_first in
    let events = each_once (EventOf armed) option_bytes (HasEvent armed) (event_of_once armed) (event_of_all armed begins.1.near) system.components p6.value p5.rest p6.spelled in
    let is : held ≡ all = p6.is in
    let text : bytes ≡ spelling header all =
    both_are bytes h.prefix h.rest _ _ h.both begins.0
    (both_are h.rest p1.prefix p1.rest _ _ p1.both (known_once header p1.prefix p1.number p1.is_first)
    (both_are p1.rest p2.prefix p2.rest _ _ p2.both states.0
    (both_are p2.rest p3.prefix p3.rest _ _ p3.both words.0
    (both_are p3.rest p4.prefix p4.rest _ _ p4.both times.0
    (both_are p4.rest p5.prefix p5.rest _ _ p5.both armings.0 events.0))))) in
    let can : CanBeHeld system all = record { limits = begins.1; states = states.1; words = words.1; times = times.1; armings = armings.1; events = events.1 } in
    (text ∙ ap (spelling header) (sym is), subst (CanBeHeld system) (sym is) can)

pub spells_all : (system : System) (header : List ℕ) (held : Snapshot) → length header < 2 ^ 32 → CanBeHeld system held → Checkpoint system header held (spelling header held)
spells_all system header held short h =
    let so_far : Snapshot = record held { armings = []; events = [] } in
    let armed : Snapshot = record held { events = [] } in
    record {
      number = first_of held.plan held.point;
      prefix = first_bytes held.plan held.point;
      rest = _;
      both = refl;
      is_first = first_all held.plan held.point h.limits;
      is_next = record {
        number = tt;
        prefix = sized header;
        rest = _;
        both = refl;
        is_first = known_all header short;
        is_next = record {
          number = held.states;
          prefix = flat_map sized held.states;
          rest = _;
          both = refl;
          is_first = each_all StateOf sized IsState state_once state_all system.components held.states h.states;
          is_next = record {
            number = held.words;
            prefix = flat_map option_bytes held.words;
            rest = _;
            both = refl;
            is_first = each_all WordOf option_bytes IsWord word_once word_all system.ports held.words h.words;
            is_next = record {
              number = held.times;
              prefix = flat_map times_bytes held.times;
              rest = _;
              both = refl;
              is_first = each_all TimesOf times_bytes (λ (port : Port). HasTimes (is_asked port.role)) times_of_once times_of_all system.ports held.times h.times;
              is_next = record {
                number = held.armings;
                prefix = flat_map arming_bytes held.armings;
                rest = flat_map option_bytes held.events;
                both = refl;
                is_first = each_all (ArmingOf so_far) arming_bytes (λ (port : Port). HasArming so_far (may_be_armed port.role)) (arming_of_once so_far) (arming_of_all so_far h.limits.near) system.ports held.armings h.armings;
                is_next = record { value = held.events; is = refl; spelled = each_all (EventOf armed) option_bytes (HasEvent armed) (event_of_once armed) (event_of_all armed h.limits.near) system.components held.events h.events };
              };
            };
          };
        };
      };
    }
