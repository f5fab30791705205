-- The spans of a row have numbers, and so many bytes hold them.
use Rattle.std.proofs.Common.{ℕ, zero, suc, ◌<◌, ◌≤◌, Bool, true, false, List, length, arith}
use Rattle.std.specs.Prelude.{◌==◌, if◌then◌else◌, nat_le, nat_lt, slice_index}
use Rattle.fmi_calls.specs.declared.call.Kind.{Kind}
use Rattle.fmi_calls.specs.declared.call.Kind.TheVariants as K
use Rattle.value_types.specs.declared.values.PortType.{PortType}
use Rattle.value_types.specs.declared.values.PortType.TheVariants.{Int8, UInt8, Int16, UInt16, Int32, UInt32, Int64, UInt64, Boolean, Enumeration, Clock}
use Rattle.exact_parts.specs.declared.field.Spans.{Spans}
use Rattle.link_frames.specs.declared.layout.Form.{Form}
use Rattle.link_frames.specs.declared.layout.Form.TheVariants.{OfCall, OfReply, OfBatch, CallItem, ReplyItem}
use Rattle.link_frames.specs.declared.layout.Items.{Items}
use Rattle.link_frames.specs.declared.layout.Items.TheVariants.{Either, Gets, Sets}
use Rattle.link_frames.specs.declared.layout.Row.{Row}
use Rattle.exact_parts.specs.Field.{IsSane}
use Rattle.link_frames.specs.Layout.{any, between, call_row, done_row, kind_at, kind_numbers, kinds_of, kinds_of_items, of_clock, plain_call, plain_reply, row, row_by, row_of, size_at, spans_at, state_max, status_span, text_max, type_at, words, zero_only}

record IsSaneRow (row : Row) : Type 0 where
  detail : IsSane 1 row.detail
  flags : IsSane 1 row.flags
  reference : IsSane 4 row.reference
  first : IsSane 8 row.first
  last : IsSane 8 row.last

zero_1 : IsSane 1 zero_only
zero_1 = record { one = omega arith; other = omega arith; fits = omega arith }

zero_4 : IsSane 4 zero_only
zero_4 = record { one = omega arith; other = omega arith; fits = omega arith }

zero_8 : IsSane 8 zero_only
zero_8 = record { one = omega arith; other = omega arith; fits = omega arith }

any_8 : IsSane 8 any
any_8 = record { one = omega arith; other = omega arith; fits = omega arith }

between_1 : (low high : ℕ) → low ≤ high → low < 256 → IsSane 1 (between low high)
between_1 low high le lt = record { one = le; other = le; fits = omega arith }

between_4 : (low high : ℕ) → low ≤ high → low < 256 → IsSane 4 (between low high)
between_4 low high le lt = record { one = le; other = le; fits = omega arith }

between_8 : (low high : ℕ) → low ≤ high → low < 256 → IsSane 8 (between low high)
between_8 low high le lt = record { one = le; other = le; fits = omega arith }

words_sane : (kind : PortType) → IsSane 8 (words kind)
words_sane Int8 = record { one = omega arith; other = omega arith; fits = omega arith }
words_sane UInt8 = record { one = omega arith; other = omega arith; fits = omega arith }
words_sane Int16 = record { one = omega arith; other = omega arith; fits = omega arith }
words_sane UInt16 = record { one = omega arith; other = omega arith; fits = omega arith }
words_sane Int32 = record { one = omega arith; other = omega arith; fits = omega arith }
words_sane UInt32 = record { one = omega arith; other = omega arith; fits = omega arith }
words_sane Int64 = record { one = omega arith; other = omega arith; fits = omega arith }
words_sane UInt64 = record { one = omega arith; other = omega arith; fits = omega arith }
words_sane Boolean = record { one = omega arith; other = omega arith; fits = omega arith }
words_sane Enumeration = record { one = omega arith; other = omega arith; fits = omega arith }
words_sane Clock = record { one = omega arith; other = omega arith; fits = omega arith }

plain_call_sane : IsSaneRow plain_call
plain_call_sane = record { detail = zero_1; flags = zero_1; reference = zero_4; first = zero_8; last = zero_8 }

of_clock_sane : IsSaneRow of_clock
of_clock_sane = record { detail = zero_1; flags = zero_1; reference = between_4 0 _ (omega arith) (omega arith); first = zero_8; last = zero_8 }

two_numbers_sane : IsSaneRow (row zero_only zero_only zero_only any any)
two_numbers_sane = record { detail = zero_1; flags = zero_1; reference = zero_4; first = any_8; last = any_8 }

call_sane : (kind : Kind) (port_type : PortType) → IsSaneRow (call_row kind port_type)
call_sane K.Instantiate port_type = record { detail = zero_1; flags = zero_1; reference = between_4 0 7 (omega arith) (omega arith); first = between_8 1 text_max (omega arith) (omega arith); last = between_8 0 text_max (omega arith) (omega arith) }
call_sane K.EnterInitialization port_type = two_numbers_sane
call_sane K.ExitInitialization port_type = plain_call_sane
call_sane K.EnterEvent port_type = plain_call_sane
call_sane K.EnterStep port_type = plain_call_sane
call_sane K.DoStep port_type = two_numbers_sane
call_sane K.Update port_type = plain_call_sane
call_sane K.Get port_type = record { detail = between_1 1 10 (omega arith) (omega arith); flags = zero_1; reference = between_4 0 _ (omega arith) (omega arith); first = zero_8; last = zero_8 }
call_sane K.Set port_type = record { detail = between_1 1 10 (omega arith) (omega arith); flags = zero_1; reference = between_4 0 _ (omega arith) (omega arith); first = words_sane port_type; last = zero_8 }
call_sane K.GetClock port_type = of_clock_sane
call_sane K.SetClock port_type = of_clock_sane
call_sane K.GetInterval port_type = of_clock_sane
call_sane K.GetShift port_type = of_clock_sane
call_sane K.Save port_type = plain_call_sane
call_sane K.Restore port_type = plain_call_sane
call_sane K.Free port_type = plain_call_sane
call_sane K.Terminate port_type = plain_call_sane
call_sane K.FreeInstance port_type = plain_call_sane
call_sane K.Serialize port_type = plain_call_sane
call_sane K.Deserialize port_type = record { detail = zero_1; flags = zero_1; reference = between_4 0 _ (omega arith) (omega arith); first = any_8; last = any_8 }

status_1 : IsSane 1 status_span
status_1 = record { one = omega arith; other = omega arith; fits = omega arith }

plain_reply_sane : IsSaneRow plain_reply
plain_reply_sane = record { detail = status_1; flags = zero_1; reference = zero_4; first = zero_8; last = zero_8 }

if_sane : (test : Bool) → IsSane 8 (if test then any else zero_only)
if_sane true = any_8
if_sane false = zero_8

interval_sane : (test : Bool) → IsSaneRow (if test then row status_span zero_only (between 0 2) any any else row status_span zero_only (between 0 2) zero_only zero_only)
interval_sane true = record { detail = status_1; flags = zero_1; reference = between_4 0 2 (omega arith) (omega arith); first = any_8; last = any_8 }
interval_sane false = record { detail = status_1; flags = zero_1; reference = between_4 0 2 (omega arith) (omega arith); first = zero_8; last = zero_8 }

done_sane : (kind : Kind) (flags qualifier : ℕ) → IsSaneRow (done_row kind flags qualifier)
done_sane K.Instantiate flags qualifier = record { detail = status_1; flags = between_1 0 1 (omega arith) (omega arith); reference = zero_4; first = zero_8; last = zero_8 }
done_sane K.EnterInitialization flags qualifier = plain_reply_sane
done_sane K.ExitInitialization flags qualifier = plain_reply_sane
done_sane K.EnterEvent flags qualifier = plain_reply_sane
done_sane K.EnterStep flags qualifier = plain_reply_sane
done_sane K.DoStep flags qualifier = record { detail = status_1; flags = between_1 0 7 (omega arith) (omega arith); reference = zero_4; first = any_8; last = zero_8 }
done_sane K.Update flags qualifier = record { detail = status_1; flags = between_1 0 7 (omega arith) (omega arith); reference = zero_4; first = if_sane (nat_le 4 flags); last = zero_8 }
done_sane K.Get flags qualifier = record { detail = status_1; flags = zero_1; reference = zero_4; first = any_8; last = zero_8 }
done_sane K.Set flags qualifier = plain_reply_sane
done_sane K.GetClock flags qualifier = record { detail = status_1; flags = zero_1; reference = zero_4; first = any_8; last = zero_8 }
done_sane K.SetClock flags qualifier = plain_reply_sane
done_sane K.GetInterval flags qualifier = interval_sane (nat_lt 0 qualifier)
done_sane K.GetShift flags qualifier = record { detail = status_1; flags = zero_1; reference = zero_4; first = any_8; last = any_8 }
done_sane K.Save flags qualifier = plain_reply_sane
done_sane K.Restore flags qualifier = plain_reply_sane
done_sane K.Free flags qualifier = plain_reply_sane
done_sane K.Terminate flags qualifier = plain_reply_sane
done_sane K.FreeInstance flags qualifier = plain_reply_sane
done_sane K.Serialize flags qualifier = record { detail = status_1; flags = zero_1; reference = between_4 0 state_max (omega arith) (omega arith); first = zero_8; last = zero_8 }
done_sane K.Deserialize flags qualifier = plain_reply_sane

reply_sane : (bad : Bool) (kind : Kind) (flags qualifier : ℕ) → IsSaneRow (if bad then plain_reply else done_row kind flags qualifier)
reply_sane true kind flags qualifier = plain_reply_sane
reply_sane false kind flags qualifier = done_sane kind flags qualifier

row_sane : (form : Form) (kind : Kind) (detail flags reference : ℕ) → IsSaneRow (row_by form kind detail flags reference)
row_sane OfCall kind detail flags reference = call_sane kind (type_at detail)
row_sane OfReply kind detail flags reference = reply_sane (nat_le 2 detail) kind flags reference
row_sane OfBatch kind detail flags reference = record { detail = zero_1; flags = zero_1; reference = between_4 1 64 (omega arith) (omega arith); first = zero_8; last = zero_8 }
row_sane (CallItem items) kind detail flags reference = call_sane kind (type_at detail)
row_sane (ReplyItem items) kind detail flags reference = reply_sane (nat_le 2 detail) kind flags reference

items_sane : (items : Items) → IsSane 1 (kinds_of_items items)
items_sane Either = between_1 8 9 (omega arith) (omega arith)
items_sane Gets = between_1 8 8 (omega arith) (omega arith)
items_sane Sets = between_1 9 9 (omega arith) (omega arith)

numbers_sane : IsSane 1 kind_numbers
numbers_sane = record { one = omega arith; other = omega arith; fits = omega arith }

kinds_sane : (form : Form) → IsSane 1 (kinds_of form)
kinds_sane OfCall = numbers_sane
kinds_sane OfReply = numbers_sane
kinds_sane OfBatch = between_1 19 19 (omega arith) (omega arith)
kinds_sane (CallItem items) = items_sane items
kinds_sane (ReplyItem items) = items_sane items

abbrev picked : Spans → ℕ → Row → Spans
picked kinds n row =
    if n == 0 then kinds
    else if n == 1 then row.detail
    else if n == 2 then row.flags
    else if n == 4 then row.reference
    else if n == 5 then row.first
    else if n == 6 then row.last
    else zero_only

picked_sane : (kinds : Spans) (n : ℕ) (row : Row) → n < 7 → IsSane 1 kinds → IsSaneRow row → IsSane (size_at n) (picked kinds n row)
picked_sane kinds zero row lt k h = k
picked_sane kinds (suc zero) row lt k h = h.detail
picked_sane kinds (suc (suc zero)) row lt k h = h.flags
picked_sane kinds (suc (suc (suc zero))) row lt k h = zero_1
picked_sane kinds (suc (suc (suc (suc zero)))) row lt k h = h.reference
picked_sane kinds (suc (suc (suc (suc (suc zero))))) row lt k h = h.first
picked_sane kinds (suc (suc (suc (suc (suc (suc zero)))))) row lt k h = h.last
picked_sane kinds (suc (suc (suc (suc (suc (suc (suc n))))))) row lt k h = absurd (omega arith)

pub spans_sane : (form : Form) (before : List ℕ) → length before < 7 → IsSane (size_at (length before)) (spans_at form before)
spans_sane form before lt = picked_sane (kinds_of form) (length before) (row_of form before) lt (kinds_sane form) (row_sane form (kind_at (slice_index before 0)) (slice_index before 1) (slice_index before 2) (slice_index before 4))
