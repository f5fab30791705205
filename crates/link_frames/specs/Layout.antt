-- The layouts of the frames (FMI 3.0, 4.2: the functions of Co-Simulation): for each kind of call and of reply the spans of its numbers. A frame begins with seven numbers, in 1, 1, 1, 1, 4, 8 and 8 bytes: the kind; the type or the status; the flags; 0; the reference or the qualifier; two more.
use Rattle.std.specs.Prelude.{ℕ, ◌-◌, ◌^◌, ◌==◌, nat_le, nat_lt, List, [], ◌∷◌, length, find, slice_index, if◌then◌else◌}
use Rattle.std.specs.Option.{unwrap_or}
use Rattle.fmi_calls.specs.KindFacts.{facts_of}
use Rattle.fmi_calls.specs.declared.call.Kind.{Kind}
use Rattle.fmi_calls.specs.declared.call.Kind.TheVariants as K
use Rattle.value_types.specs.declared.values.PortType.{PortType}
use Rattle.value_types.specs.declared.values.PortType.TheVariants.{Int8, UInt8, Int16, UInt16, Int32, UInt32, Int64, UInt64, Boolean, Enumeration, Clock}
use Rattle.exact_parts.specs.declared.field.Spans.{Spans}
use Rattle.link_frames.specs.declared.layout.Form.{Form}
use Rattle.link_frames.specs.declared.layout.Form.TheVariants.{OfCall, OfReply, OfBatch, CallItem, ReplyItem}
use Rattle.link_frames.specs.declared.layout.Items.{Items}
use Rattle.link_frames.specs.declared.layout.Items.TheVariants.{Either, Gets, Sets}
use Rattle.link_frames.specs.declared.layout.Row.{Row}

-- ---- numbers of kinds and types

-- the kinds that have frames
abbrev pub kinds : List Kind
kinds =
    K.Instantiate ∷ K.EnterInitialization ∷ K.ExitInitialization ∷ K.EnterEvent ∷ K.EnterStep ∷
    K.DoStep ∷ K.Update ∷ K.Get ∷ K.Set ∷ K.GetClock ∷ K.SetClock ∷ K.GetInterval ∷ K.GetShift ∷
    K.Save ∷ K.Restore ∷ K.Free ∷ K.Terminate ∷ K.FreeInstance ∷ K.Serialize ∷ K.Deserialize ∷ []

-- the kind with a number from 1 to 18, or 20 or 21
abbrev pub kind_at : ℕ → Kind
kind_at number = unwrap_or (find (λ kind. (facts_of kind).number == number) kinds) K.FreeInstance

-- the number of a type
abbrev pub type_number : PortType → ℕ
type_number Int8 = 1
type_number UInt8 = 2
type_number Int16 = 3
type_number UInt16 = 4
type_number Int32 = 5
type_number UInt32 = 6
type_number Int64 = 7
type_number UInt64 = 8
type_number Boolean = 9
type_number Enumeration = 10
type_number Clock = 11

-- the types that a frame may tell
abbrev pub types : List PortType
types = Int8 ∷ UInt8 ∷ Int16 ∷ UInt16 ∷ Int32 ∷ UInt32 ∷ Int64 ∷ UInt64 ∷ Boolean ∷ Enumeration ∷ []

-- the type with a number from 1 to 10
abbrev pub type_at : ℕ → PortType
type_at number = unwrap_or (find (λ kind. type_number kind == number) types) Clock

-- ---- spans

-- the numbers from one to another
abbrev pub between : ℕ → ℕ → Spans
between low high =
    record { one = record { low = low; high = high }; other = record { low = low; high = high } }

-- 0 alone
abbrev pub zero_only : Spans
zero_only = between 0 0

-- each number of 8 bytes
abbrev pub any : Spans
any = between 0 (2 ^ 64 - 1)

-- each number of 4 bytes
abbrev pub any_reference : Spans
any_reference = between 0 (2 ^ 32 - 1)

-- the words of the values of so many bits with a sign
abbrev pub around_zero : ℕ → Spans
around_zero half = record {
  one = record { low = 0; high = half - 1 };
  other = record { low = 2 ^ 64 - half; high = 2 ^ 64 - 1 };
}

-- the words that are right for a type
abbrev pub words : PortType → Spans
words Int8 = around_zero (2 ^ 7)
words Int16 = around_zero (2 ^ 15)
words Int32 = around_zero (2 ^ 31)
words UInt8 = between 0 (2 ^ 8 - 1)
words UInt16 = between 0 (2 ^ 16 - 1)
words UInt32 = between 0 (2 ^ 32 - 1)
words Boolean = between 0 1
words Clock = between 0 1
words Int64 = any
words UInt64 = any
words Enumeration = any

-- ---- rows

-- a row by the spans of its numbers
abbrev pub row : Spans → Spans → Spans → Spans → Spans → Row
row detail flags reference first last =
    record { detail = detail; flags = flags; reference = reference; first = first; last = last }

-- the greatest length of a text, in bytes
abbrev pub text_max : ℕ
text_max = 2 ^ 24

-- a call with its kind alone
abbrev pub plain_call : Row
plain_call = row zero_only zero_only zero_only zero_only zero_only

-- the greatest length of a state, in bytes
abbrev pub state_max : ℕ
state_max = 2 ^ 20

-- a call that names a Clock
abbrev pub of_clock : Row
of_clock = row zero_only zero_only any_reference zero_only zero_only

-- a call: type, 0, reference, and two numbers, the first of Set by the type. Of Deserialize the reference is the length of the state, and the numbers are its point and the stop. Of Instantiate the reference has bit 0 for event mode, bit 1 for early return and bit 2 for batches, and the numbers are the lengths of the name and the token
abbrev pub call_row : Kind → PortType → Row
call_row K.Instantiate kind =
    row zero_only zero_only (between 0 7) (between 1 text_max) (between 0 text_max)
call_row K.EnterInitialization kind = row zero_only zero_only zero_only any any
call_row K.ExitInitialization kind = plain_call
call_row K.EnterEvent kind = plain_call
call_row K.EnterStep kind = plain_call
call_row K.DoStep kind = row zero_only zero_only zero_only any any
call_row K.Update kind = plain_call
call_row K.Get kind = row (between 1 10) zero_only any_reference zero_only zero_only
call_row K.Set kind = row (between 1 10) zero_only any_reference (words kind) zero_only
call_row K.GetClock kind = of_clock
call_row K.SetClock kind = of_clock
call_row K.GetInterval kind = of_clock
call_row K.GetShift kind = of_clock
call_row K.Save kind = plain_call
call_row K.Restore kind = plain_call
call_row K.Free kind = plain_call
call_row K.Terminate kind = plain_call
call_row K.FreeInstance kind = plain_call
call_row K.Serialize kind = plain_call
call_row K.Deserialize kind = row zero_only zero_only any_reference any any

-- the statuses
abbrev pub status_span : Spans
status_span = between 0 4

-- a reply with its kind and its status alone
abbrev pub plain_reply : Row
plain_reply = row status_span zero_only zero_only zero_only zero_only

-- an interval: with the qualifier 0 there is none
abbrev pub interval_row : ℕ → Row
interval_row qualifier =
    if nat_lt 0 qualifier then row status_span zero_only (between 0 2) any any
    else row status_span zero_only (between 0 2) zero_only zero_only

-- a reply with OK or Warning: status, flags, qualifier, and two numbers, by the flags and the qualifier
abbrev pub done_row : Kind → ℕ → ℕ → Row
done_row K.Instantiate flags qualifier =
    row status_span (between 0 1) zero_only zero_only zero_only
done_row K.EnterInitialization flags qualifier = plain_reply
done_row K.ExitInitialization flags qualifier = plain_reply
done_row K.EnterEvent flags qualifier = plain_reply
done_row K.EnterStep flags qualifier = plain_reply
done_row K.DoStep flags qualifier = row status_span (between 0 7) zero_only any zero_only
done_row K.Update flags qualifier =
    row status_span (between 0 7) zero_only (if nat_le 4 flags then any else zero_only) zero_only
done_row K.Get flags qualifier = row status_span zero_only zero_only any zero_only
done_row K.Set flags qualifier = plain_reply
done_row K.GetClock flags qualifier = row status_span zero_only zero_only any zero_only
done_row K.SetClock flags qualifier = plain_reply
done_row K.GetInterval flags qualifier = interval_row qualifier
done_row K.GetShift flags qualifier = row status_span zero_only zero_only any any
done_row K.Save flags qualifier = plain_reply
done_row K.Restore flags qualifier = plain_reply
done_row K.Free flags qualifier = plain_reply
done_row K.Terminate flags qualifier = plain_reply
done_row K.FreeInstance flags qualifier = plain_reply
done_row K.Serialize flags qualifier =
    row status_span zero_only (between 0 state_max) zero_only zero_only
done_row K.Deserialize flags qualifier = plain_reply

-- a reply: with another status than OK and Warning all after it is 0
abbrev pub reply_row : Kind → ℕ → ℕ → ℕ → Row
reply_row kind status flags qualifier =
    if nat_le 2 status then plain_reply else done_row kind flags qualifier

-- the head of a batch: the number of its items, where a call has its reference
abbrev pub batch_row : Row
batch_row = row zero_only zero_only (between 1 64) zero_only zero_only

-- the row, by the numbers read so far
abbrev pub row_by : Form → Kind → ℕ → ℕ → ℕ → Row
row_by OfCall kind detail flags reference = call_row kind (type_at detail)
row_by OfReply kind detail flags reference = reply_row kind detail flags reference
row_by OfBatch kind detail flags reference = batch_row
row_by (CallItem items) kind detail flags reference = call_row kind (type_at detail)
row_by (ReplyItem items) kind detail flags reference = reply_row kind detail flags reference

-- the row for these numbers, of which the first is the kind
abbrev pub row_of : Form → List ℕ → Row
row_of form before =
    row_by form (kind_at (slice_index before 0)) (slice_index before 1) (slice_index before 2)
    (slice_index before 4)

-- ---- the seven numbers

-- the numbers of the kinds of a batch's items
abbrev pub kinds_of_items : Items → Spans
kinds_of_items Either = between 8 9
kinds_of_items Gets = between 8 8
kinds_of_items Sets = between 9 9

-- the numbers of the kinds of single frames: 19 is that of a batch
abbrev pub kind_numbers : Spans
kind_numbers =
    record { one = record { low = 1; high = 18 }; other = record { low = 20; high = 21 } }

-- the numbers of the kinds that a frame of the form may have
abbrev pub kinds_of : Form → Spans
kinds_of OfCall = kind_numbers
kinds_of OfReply = kind_numbers
kinds_of OfBatch = between 19 19
kinds_of (CallItem items) = kinds_of_items items
kinds_of (ReplyItem items) = kinds_of_items items

-- how many bytes the number at a place has
abbrev pub size_at : ℕ → ℕ
size_at place = if nat_lt place 4 then 1 else if place == 4 then 4 else 8

-- the spans of the number that follows these
abbrev pub spans_at : Form → List ℕ → Spans
spans_at form before =
    if length before == 0 then kinds_of form
    else if length before == 1 then (row_of form before).detail
    else if length before == 2 then (row_of form before).flags
    else if length before == 4 then (row_of form before).reference
    else if length before == 5 then (row_of form before).first
    else if length before == 6 then (row_of form before).last
    else zero_only
