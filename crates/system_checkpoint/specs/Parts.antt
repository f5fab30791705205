-- The parts of a checkpoint, each in numbers with their most significant byte first: texts and states after their length, numbers that may be missing, and the timings of Clocks.
use Rattle.std.specs.Prelude.{ℕ, ◌+◌, ◌*◌, ◌-◌, ◌^◌, ◌==◌, List, [], length, Option, Some, None, if◌then◌else◌}
use Rattle.value_types.specs.declared.values.PortType.{PortType}
use Rattle.value_types.specs.declared.values.PortType.TheVariants.{Int8, UInt8, Int16, UInt16, Int32, UInt32, Int64, UInt64, Boolean, Enumeration, Clock}
use Rattle.exact_parts.specs.declared.field.Spans.{Spans}
use Rattle.exact_parts.specs.Taking.{After}
use Rattle.exact_parts.specs.Field.{Field}
use Rattle.exact_parts.specs.Each.{Block, IsText, Made}
use Rattle.system_checkpoint.specs.declared.snapshot.Arming.{Arming}
use Rattle.system_checkpoint.specs.declared.snapshot.Arming.TheVariants.{Unarmed, At}
use Rattle.system_checkpoint.specs.declared.snapshot.ClockTimes.{ClockTimes}

-- ---- spans

abbrev pub between : ℕ → ℕ → Spans
between low high =
    record { one = record { low = low; high = high }; other = record { low = low; high = high } }

-- each number of 8 bytes
abbrev pub any : Spans
any = between 0 (2 ^ 64 - 1)

-- the words of the values with a sign, of which the greatest is one less than half
abbrev pub around_zero : ℕ → Spans
around_zero half = record {
  one = record { low = 0; high = half - 1 };
  other = record { low = 2 ^ 64 - half; high = 2 ^ 64 - 1 };
}

-- the words that are right for a type
abbrev pub words : PortType → Spans
words Int8 = around_zero (2 ^ 7)
words Int16 = around_zero (2 ^ 15)
words Int32 = around_zero (2 ^ 31)
words UInt8 = between 0 (2 ^ 8 - 1)
words UInt16 = between 0 (2 ^ 16 - 1)
words UInt32 = between 0 (2 ^ 32 - 1)
words Boolean = between 0 1
words Clock = between 0 1
words Int64 = any
words UInt64 = any
words Enumeration = any

-- ---- a number or none

abbrev pub option_of : ℕ → ℕ → Option ℕ
option_of flag word = if flag == 1 then Some word else None

abbrev pub spans_after : Spans → ℕ → Spans
spans_after spans flag = if flag == 1 then spans else between 0 0

abbrev pub Word : Spans → ℕ → Option ℕ → List ℕ → Type 0
Word spans flag = Made (Field 8 (spans_after spans flag)) (option_of flag)

-- 1 in one byte and a number of the spans in 8, or nine times 0; where none may be there, the flag 0 alone
abbrev pub Optional : ℕ → Spans → Option ℕ → List ℕ → Type 0
Optional most spans = After (Field 1 (between 0 most)) (Word spans)

-- the point of a Clock that may be armed
abbrev pub arming_of : Option ℕ → Arming
arming_of None = Unarmed
arming_of (Some point) = At point

-- ---- bytes after their length

-- the greatest length of a state, in bytes
abbrev pub state_max : ℕ
state_max = 2 ^ 20

-- a state
abbrev pub State : List ℕ → List ℕ → Type 0
State = After (Field 4 (between 0 state_max)) Block

-- a text that is known
abbrev pub Known : List ℕ → Unit {0} → List ℕ → Type 0
Known text = After (Field 4 (between (length text) (length text))) (λ (n : ℕ). IsText text)

-- ---- the timing of a Clock that was asked for it

-- what may stand in the lower eight bytes of a number up to 2^126 that is at least 0 or 1
abbrev pub low_span : ℕ → ℕ → Spans
low_span least high =
    if high == 2 ^ 62 then between 0 0
    else between (if high == 0 then least else 0) (2 ^ 64 - 1)

-- a number of 16 bytes
abbrev pub joined : ℕ → ℕ → ℕ
joined high low = high * 2 ^ 64 + low

abbrev pub Low : ℕ → ℕ → ℕ → List ℕ → Type 0
Low least high = Made (Field 8 (low_span least high)) (joined high)

abbrev pub Wide : ℕ → ℕ → List ℕ → Type 0
Wide least = After (Field 8 (between 0 (2 ^ 62))) (Low least)

abbrev pub clock_times : ℕ → ℕ → ClockTimes
clock_times interval shift = record { interval = interval; shift = shift }

-- its interval and its shift
abbrev pub Shift : ℕ → ClockTimes → List ℕ → Type 0
Shift interval = Made (Wide 0) (clock_times interval)

abbrev pub Times : ClockTimes → List ℕ → Type 0
Times = After (Wide 1) Shift

-- ---- nothing

-- where a port has no such part, this value and no byte
abbrev pub Nothing : {V : Type 0} → V → V → List ℕ → Type 0
Nothing value = Made (IsText []) (λ (nothing : Unit {0}). value)
