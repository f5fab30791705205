-- Calls as frames (FMI 3.0, 4.2: the functions of Co-Simulation; 2.2.9: Clocks). A frame of Instantiate ends with two texts in UTF-8, the instance's name and its instantiation token.
use Rattle.std.specs.Prelude.{◌≡◌, ◌≢◌, ℕ, ◌+◌, ◌/◌, ◌%◌, ◌==◌, ◌≤◌, ◌<◌, ◌^◌, ℤ, pos, List, [], ◌++◌, length, slice_index, slice_range, IsUtf8}
use Rattle.std.specs.Option.{unwrap_or}
use Rattle.std.specs.declared.ops.Range.{Range}
use Rattle.fmi_calls.specs.KindFacts.{facts_of}
use Rattle.fmi_calls.specs.Kinds.{kind_of}
use Rattle.fmi_calls.specs.declared.call.Call.{Call}
use Rattle.fmi_calls.specs.declared.call.Call.TheVariants as C
use Rattle.fmi_calls.specs.declared.call.Kind.{Kind}
use Rattle.fmi_calls.specs.declared.call.Kind.TheVariants as K
use Rattle.value_types.specs.Values.{Fits, word_of, word_value}
use Rattle.value_types.specs.declared.values.PortType.{PortType}
use Rattle.value_types.specs.declared.values.PortType.TheVariants.{Clock}
use Rattle.link_frames.specs.declared.call.CallFrame.{CallFrame}
use Rattle.link_frames.specs.declared.head.Head.{Head}
use Rattle.link_frames.specs.declared.layout.Form.TheVariants.{OfCall}
use Rattle.link_frames.specs.Head.{InRange, flag, head, spelling}
use Rattle.link_frames.specs.Layout.{kind_at, text_max, type_at, type_number}
use Rattle.link_frames.specs.Numbers.{Reads}
use Rattle.exact_parts.specs.Taking.{After}
use Rattle.link_frames.specs.Text.{IsText}

-- ---- from a call to its numbers

-- the type of the variable
abbrev pub detail_of : Call → ℕ
detail_of (C.Get kind reference) = type_number kind
detail_of (C.Set kind reference value) = type_number kind
detail_of call = 0

-- of Instantiate: event mode 1, early return 2, batches 4; else the value reference
abbrev pub reference_of : Call → ℕ
reference_of (C.Instantiate event_mode early_return batches) =
    flag event_mode 1 + flag early_return 2 + flag batches 4
reference_of (C.Get kind reference) = reference
reference_of (C.Set kind reference value) = reference
reference_of (C.GetClock reference) = reference
reference_of (C.SetClock reference) = reference
reference_of (C.GetInterval reference) = reference
reference_of (C.GetShift reference) = reference
reference_of (C.Deserialize room point stop) = room
reference_of call = 0

-- the length of the name, the start, the point where a step begins or that a state has, or a value's word
abbrev pub first_of : Call → ℕ → ℕ
first_of (C.Instantiate event_mode early_return batches) name_len = name_len
first_of (C.EnterInitialization start stop) name_len = start
first_of (C.DoStep at size) name_len = at
first_of (C.Set kind reference value) name_len = word_of value
first_of (C.Deserialize room point stop) name_len = point
first_of call name_len = 0

-- the length of the token, the stop, or the size of a step
abbrev pub last_of : Call → ℕ → ℕ
last_of (C.Instantiate event_mode early_return batches) token_len = token_len
last_of (C.EnterInitialization start stop) token_len = stop
last_of (C.DoStep at size) token_len = size
last_of (C.Deserialize room point stop) token_len = stop
last_of call token_len = 0

-- the numbers of a call whose texts have these lengths
abbrev pub head_of_call : Call → ℕ → ℕ → Head
head_of_call call name_len token_len =
    head (facts_of (kind_of call)).number (detail_of call) 0 (reference_of call)
    (first_of call name_len) (last_of call token_len)

-- the texts of Instantiate have these lengths, in bytes; the types of Get and Set aren't Clock, and the value of Set is in the range of its type
abbrev pub CanBeSent : Call → ℕ → ℕ → Type 0
CanBeSent (C.Instantiate event_mode early_return batches) name_len token_len =
    (1 ≤ name_len) × (name_len ≤ text_max) × (token_len ≤ text_max)
CanBeSent (C.Get kind reference) name_len token_len = kind ≢ Clock
CanBeSent (C.Set kind reference value) name_len token_len = (kind ≢ Clock) × Fits kind value
CanBeSent call name_len token_len = Unit {0}

-- the text goes with Instantiate alone
abbrev pub sent : Call → List ℕ → List ℕ
sent (C.Instantiate event_mode early_return batches) text = text
sent call text = []

-- a call with its name and token, and the bytes of its frame
pub record IsFrameOf (call : Call) (name token : List ℕ) (bytes : List ℕ) : Type 0 where
  pub can_be_sent : CanBeSent call (length name) (length token)
  pub name_text : IsUtf8 name
  pub token_text : IsUtf8 token
  pub in_range : InRange (head_of_call call (length name) (length token))
  pub spelled : bytes ≡ spelling (head_of_call call (length name) (length token)) ++
      (sent call name ++ sent call token)

-- the places from one to before another
abbrev pub range : ℕ → ℕ → Range ℕ
range start end = record { start = start; end = end }

-- the bytes at a place
abbrev pub bytes_at : Range ℕ → List ℕ → List ℕ
bytes_at place bytes = slice_range bytes place.start place.end

-- a call with the places of its name and its token in the frame, the one right after the other, and the bytes of the frame
pub record IsCallFrame (frame : CallFrame) (bytes : List ℕ) : Type 0 where
  pub is_frame : IsFrameOf frame.call (bytes_at frame.name bytes) (bytes_at frame.token bytes) bytes
  pub name_at : frame.name ≡ range 24 (24 + length (bytes_at frame.name bytes))
  pub token_at : frame.token ≡ range frame.name.end (frame.name.end +
      length (bytes_at frame.token bytes))

-- a call with the places that its texts have in its frame
abbrev pub frame_with : Call → List ℕ → List ℕ → CallFrame
frame_with call name token =
    record {
      call = call;
      name = range 24 (24 + length (sent call name));
      token =
          range (24 + length (sent call name)) (24 + length (sent call name) +
          length (sent call token));
    }

-- ---- from the numbers to the call

-- the value of a word
abbrev pub value_at : PortType → ℕ → ℤ
value_at kind word = unwrap_or (word_value kind word) (pos 0)

-- the call of a kind with these numbers
abbrev pub call_by : Kind → ℕ → ℕ → ℕ → ℕ → Call
call_by K.Instantiate detail reference first last =
    C.Instantiate (reference % 2 == 1) (reference / 2 % 2 == 1) (reference / 4 == 1)
call_by K.EnterInitialization detail reference first last = C.EnterInitialization first last
call_by K.ExitInitialization detail reference first last = C.ExitInitialization
call_by K.EnterEvent detail reference first last = C.EnterEvent
call_by K.EnterStep detail reference first last = C.EnterStep
call_by K.DoStep detail reference first last = C.DoStep first last
call_by K.Update detail reference first last = C.Update
call_by K.Get detail reference first last = C.Get (type_at detail) reference
call_by K.Set detail reference first last =
    C.Set (type_at detail) reference (value_at (type_at detail) first)
call_by K.GetClock detail reference first last = C.GetClock reference
call_by K.SetClock detail reference first last = C.SetClock reference
call_by K.GetInterval detail reference first last = C.GetInterval reference
call_by K.GetShift detail reference first last = C.GetShift reference
call_by K.Save detail reference first last = C.Save
call_by K.Restore detail reference first last = C.Restore
call_by K.Free detail reference first last = C.Free
call_by K.Terminate detail reference first last = C.Terminate
call_by K.FreeInstance detail reference first last = C.FreeInstance
call_by K.Serialize detail reference first last = C.Serialize
call_by K.Deserialize detail reference first last = C.Deserialize reference first last

-- the call of the seven numbers
abbrev pub call_at : List ℕ → Call
call_at numbers =
    call_by (kind_at (slice_index numbers 0)) (slice_index numbers 1) (slice_index numbers 4)
    (slice_index numbers 5) (slice_index numbers 6)

-- the length of a text, by the kind
abbrev pub text_len : Kind → ℕ → ℕ
text_len K.Instantiate len = len
text_len kind len = 0

-- the lengths of the name and of the token that the numbers tell
abbrev pub name_len : List ℕ → ℕ
name_len numbers = text_len (kind_at (slice_index numbers 0)) (slice_index numbers 5)

abbrev pub token_len : List ℕ → ℕ
token_len numbers = text_len (kind_at (slice_index numbers 0)) (slice_index numbers 6)

-- the call of the numbers, with the places of its texts
abbrev pub frame_at : List ℕ → CallFrame
frame_at numbers = record {
  call = call_at numbers;
  name = range 24 (24 + name_len numbers);
  token = range (24 + name_len numbers) (24 + name_len numbers + token_len numbers);
}

-- the numbers have room where the call needs it
pub record IsCallNumbers (numbers : List ℕ) : Type 0 where
  pub reference : slice_index numbers 4 < 2 ^ 32
  pub name : name_len numbers ≤ text_max
  pub token : token_len numbers ≤ text_max

-- ---- the parts of a frame, one after another

-- the token, after which the frame ends
abbrev pub TokenOf : List ℕ → CallFrame → List ℕ → Type 0
TokenOf numbers frame bytes = (frame ≡ frame_at numbers) × IsText (token_len numbers) tt bytes

-- the name, and after it the token
abbrev pub TextsOf : List ℕ → CallFrame → List ℕ → Type 0
TextsOf numbers = After (IsText (name_len numbers)) (λ (name : Unit {0}). TokenOf numbers)

-- the numbers, and after them the texts
abbrev pub PartsOf : CallFrame → List ℕ → Type 0
PartsOf = After (Reads OfCall 7 []) TextsOf
