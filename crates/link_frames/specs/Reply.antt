-- Replies as frames (FMI 3.0, 2.2.3: status returned by functions; 4.2.1.2: fmi3DoStep; 2.2.9: Clocks, fmi3GetInterval and fmi3GetShift; fmi3UpdateDiscreteStates): status 0 OK, 1 Warning, 2 Discard, 3 Error, 4 Fatal.
use Rattle.std.specs.Prelude.{◌≡◌, ℕ, ◌+◌, ◌/◌, ◌%◌, ◌==◌, ◌≤◌, nat_lt, List, slice_index, Some, None, is_some, if◌then◌else◌}
use Rattle.std.specs.Option.{unwrap_or}
use Rattle.clock_fraction.specs.declared.fraction.Fraction.{Fraction}
use Rattle.fmi_calls.specs.KindFacts.{facts_of}
use Rattle.fmi_calls.specs.Kinds.{kind_of_content}
use Rattle.fmi_calls.specs.declared.call.BadStatus.{BadStatus}
use Rattle.fmi_calls.specs.declared.call.BadStatus.TheVariants as B
use Rattle.fmi_calls.specs.declared.call.Content.{Content}
use Rattle.fmi_calls.specs.declared.call.Content.TheVariants as A
use Rattle.fmi_calls.specs.declared.call.Interval.{Interval}
use Rattle.fmi_calls.specs.declared.call.Interval.TheVariants.{NotYetKnown, Unchanged, Changed}
use Rattle.fmi_calls.specs.declared.call.Kind.{Kind}
use Rattle.fmi_calls.specs.declared.call.Kind.TheVariants as K
use Rattle.fmi_calls.specs.declared.call.Reply.{Reply}
use Rattle.fmi_calls.specs.declared.call.Reply.TheVariants.{Done, Refused}
use Rattle.link_frames.specs.declared.head.Head.{Head}
use Rattle.link_frames.specs.Head.{InRange, flag, head, spelling}
use Rattle.link_frames.specs.Layout.{kind_at, state_max}

-- ---- from a reply to its numbers

-- of Instantiate: batches 1; of DoStep: event handling needed 1, terminate 2, early 4; of Update: needs update 1, terminate 2, next event time defined 4
abbrev pub flags_of : Content → ℕ
flags_of (A.Instantiate batches) = flag batches 1
flags_of (A.DoStep event_needed terminate early end) =
    flag event_needed 1 + flag terminate 2 + flag early 4
flags_of (A.Update again terminate event_time) =
    flag again 1 + flag terminate 2 + flag (is_some event_time) 4
flags_of content = 0

-- of an interval: not yet known 0, unchanged 1, changed 2; of Serialize the length of the state
abbrev pub qualifier_of : Content → ℕ
qualifier_of (A.GetInterval NotYetKnown) = 0
qualifier_of (A.GetInterval (Unchanged fraction)) = 1
qualifier_of (A.GetInterval (Changed fraction)) = 2
qualifier_of (A.Serialize room) = room
qualifier_of content = 0

-- the end of a step, the next event time, a value's word, or the counter of an interval or a shift
abbrev pub first_of : Content → ℕ
first_of (A.DoStep event_needed terminate early end) = end
first_of (A.Update again terminate event_time) = unwrap_or event_time 0
first_of (A.Get word) = word
first_of (A.GetClock word) = word
first_of (A.GetInterval (Unchanged fraction)) = fraction.counter
first_of (A.GetInterval (Changed fraction)) = fraction.counter
first_of (A.GetShift shift) = shift.counter
first_of content = 0

-- the resolution of an interval or a shift
abbrev pub last_of : Content → ℕ
last_of (A.GetInterval (Unchanged fraction)) = fraction.resolution
last_of (A.GetInterval (Changed fraction)) = fraction.resolution
last_of (A.GetShift shift) = shift.resolution
last_of content = 0

-- the number of a status that isn't good
abbrev pub bad_number : BadStatus → ℕ
bad_number B.Discard = 2
bad_number B.Error = 3
bad_number B.Fatal = 4

-- the numbers of a content with a status
abbrev pub head_of_content : ℕ → Content → Head
head_of_content status content =
    head (facts_of (kind_of_content content)).number status (flags_of content)
    (qualifier_of content) (first_of content) (last_of content)

-- a head whose qualifier and numbers are those of an interval
abbrev pub with_interval : Head → Interval → Head
with_interval plain interval =
    record plain {
      reference = qualifier_of (A.GetInterval interval);
      first = first_of (A.GetInterval interval);
      last = last_of (A.GetInterval interval);
    }

-- the numbers of a reply
abbrev pub head_of_reply : Reply → Head
head_of_reply (Done is_warning content) = head_of_content (flag is_warning 1) content
head_of_reply (Refused kind status) = head (facts_of kind).number (bad_number status) 0 0 0 0

-- the bytes of its frame
abbrev pub frame_of : Reply → List ℕ
frame_of reply = spelling (head_of_reply reply)

-- a state that is told has at most 2^20 bytes
abbrev pub CanBeTold : Reply → Type 0
CanBeTold (Done is_warning (A.Serialize room)) = room ≤ state_max
CanBeTold reply = Unit {0}

-- a reply and the bytes of its frame
pub record IsReplyFrame (reply : Reply) (bytes : List ℕ) : Type 0 where
  pub can_be_told : CanBeTold reply
  pub in_range : InRange (head_of_reply reply)
  pub spelled : bytes ≡ spelling (head_of_reply reply)

-- ---- from the numbers to the reply

-- the interval of a qualifier
abbrev pub interval_at : ℕ → Fraction → Interval
interval_at qualifier fraction =
    if qualifier == 0 then NotYetKnown else if qualifier == 1 then Unchanged fraction
    else Changed fraction

-- a fraction of seconds by its numbers
abbrev pub fraction_at : ℕ → ℕ → Fraction
fraction_at counter resolution = record { counter = counter; resolution = resolution }

-- the content of a kind with these flags, qualifier and numbers
abbrev pub content_at : Kind → ℕ → ℕ → ℕ → ℕ → Content
content_at K.Instantiate flags qualifier first last = A.Instantiate (flags == 1)
content_at K.EnterInitialization flags qualifier first last = A.EnterInitialization
content_at K.ExitInitialization flags qualifier first last = A.ExitInitialization
content_at K.EnterEvent flags qualifier first last = A.EnterEvent
content_at K.EnterStep flags qualifier first last = A.EnterStep
content_at K.DoStep flags qualifier first last =
    A.DoStep (flags % 2 == 1) (flags / 2 % 2 == 1) (flags / 4 == 1) first
content_at K.Update flags qualifier first last =
    A.Update (flags % 2 == 1) (flags / 2 % 2 == 1) (if flags / 4 == 1 then Some first else None)
content_at K.Get flags qualifier first last = A.Get first
content_at K.Set flags qualifier first last = A.Set
content_at K.GetClock flags qualifier first last = A.GetClock first
content_at K.SetClock flags qualifier first last = A.SetClock
content_at K.GetInterval flags qualifier first last =
    A.GetInterval (interval_at qualifier (fraction_at first last))
content_at K.GetShift flags qualifier first last = A.GetShift (fraction_at first last)
content_at K.Save flags qualifier first last = A.Save
content_at K.Restore flags qualifier first last = A.Restore
content_at K.Free flags qualifier first last = A.Free
content_at K.Terminate flags qualifier first last = A.Terminate
content_at K.FreeInstance flags qualifier first last = A.FreeInstance
content_at K.Serialize flags qualifier first last = A.Serialize qualifier
content_at K.Deserialize flags qualifier first last = A.Deserialize

-- the status of a number from 2 to 4
abbrev pub bad_status_at : ℕ → BadStatus
bad_status_at status = if status == 2 then B.Discard else if status == 3 then B.Error else B.Fatal

-- the reply of a kind with these numbers
abbrev pub reply_by : Kind → ℕ → ℕ → ℕ → ℕ → ℕ → Reply
reply_by kind status flags qualifier first last =
    if nat_lt status 2 then Done (status == 1) (content_at kind flags qualifier first last)
    else Refused kind (bad_status_at status)

-- the reply of the seven numbers
abbrev pub reply_at : List ℕ → Reply
reply_at numbers =
    reply_by (kind_at (slice_index numbers 0)) (slice_index numbers 1) (slice_index numbers 2)
    (slice_index numbers 4) (slice_index numbers 5) (slice_index numbers 6)
