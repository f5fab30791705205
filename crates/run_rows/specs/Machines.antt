-- Small machines (FMI 3.0, 4.2.1: Co-Simulation). The first of a machine's numbers marks Initialization Mode, and its values are by place in its shape.
use Rattle.std.specs.Prelude.{ℕ, ◌+◌, ℤ, pos, ◌+ℤ◌, ◌*ℤ◌, int_lt, nat_abs, Bool, true, false, not, ◌&&◌, if◌then◌else◌, List, [], ◌∷◌, map, filter, Some, None, unwrap_or, slice_index_or}
use Rattle.std.specs.Ordering.{int_eq}
use Rattle.std.specs.Option.{option_map_or}
use Rattle.value_types.specs.Values.{word_of}
use Rattle.value_types.specs.Shape.{is_declared, variable_at}
use Rattle.value_types.specs.declared.shape.Variable.{Variable}
use Rattle.value_types.specs.declared.shape.Shape.{Shape}
use Rattle.fmi_calls.specs.declared.call.BadStatus.TheVariants.{Error}
use Rattle.fmi_calls.specs.declared.call.Call.{Call}
use Rattle.fmi_calls.specs.declared.call.Call.TheVariants as C
use Rattle.fmi_calls.specs.declared.call.Content.{Content}
use Rattle.fmi_calls.specs.declared.call.Content.TheVariants as A
use Rattle.fmi_calls.specs.declared.call.Interval.{Interval}
use Rattle.fmi_calls.specs.declared.call.Interval.TheVariants.{NotYetKnown, Unchanged, Changed}
use Rattle.fmi_calls.specs.declared.call.Kind.TheVariants as K
use Rattle.fmi_calls.specs.declared.call.Reply.TheVariants.{Done, Refused}
use Rattle.fmu_peer.specs.Machine.{Machine, mark_after}
use Rattle.fmi_calls.specs.Permission.{is_input_clock}

-- ---- what they share

abbrev pub at : List ℤ → ℕ → ℤ
at xs k = slice_index_or xs k (pos 0)

abbrev pub after : List ℤ → List ℤ
after [] = []
after (x ∷ xs) = xs

-- a reply that tells nothing: each step ends at its bound, no Update asks for another, and no interval is known
abbrev pub plain : Call → Content
plain (C.Instantiate event_mode early_return batches) = A.Instantiate false
plain (C.EnterInitialization start stop) = A.EnterInitialization
plain C.ExitInitialization = A.ExitInitialization
plain C.EnterEvent = A.EnterEvent
plain C.EnterStep = A.EnterStep
plain (C.DoStep at size) = A.DoStep false false false (at + size)
plain C.Update = A.Update false false None
plain (C.Get kind reference) = A.Get 0
plain (C.Set kind reference value) = A.Set
plain (C.GetClock reference) = A.GetClock 0
plain (C.SetClock reference) = A.SetClock
plain (C.GetInterval reference) = A.GetInterval NotYetKnown
plain (C.GetShift reference) = A.GetShift (record { counter = 0; resolution = 1 })
plain C.Save = A.Save
plain C.Restore = A.Restore
plain C.Free = A.Free
plain C.Terminate = A.Terminate
plain C.FreeInstance = A.FreeInstance
plain C.Serialize = A.Serialize 0
plain (C.Deserialize length point stop) = A.Deserialize

-- what a machine says and does: by whether it is in Initialization Mode, its own numbers and its values
pub record Behaviour : Type 0 where
  pub first : List ℤ
  pub look : Bool → List ℤ → List ℤ → Call → Content
  pub change : List ℤ → List ℤ → Call → List ℤ

-- a machine of the shape: its values are start values at first, or 0. It takes no state in from bytes
abbrev pub machine_of : Shape → Behaviour → Machine
machine_of shape b = record {
  references = map (λ (v : Variable). v.reference) shape.variables;
  clocks = map (λ (v : Variable). v.reference) (filter is_input_clock shape.variables);
  first = record {
    numbers = pos 0 ∷ b.first;
    values = map (λ (v : Variable). unwrap_or v.start (pos 0)) shape.variables;
    slot = None;
  };
  initializing = λ numbers. int_eq (at numbers 0) (pos 1);
  look =
      λ s call. Done false (b.look (int_eq (at s.numbers 0) (pos 1))
      (after s.numbers) s.values call);
  change = λ s call. mark_after (at s.numbers 0) call ∷ b.change (after s.numbers) s.values call;
  packing = record { pack = λ kept. []; unpack = λ bytes. None };
  look_at = λ s call bytes. Refused K.Deserialize Error;
}

-- what the output sees of the variable under a reference: its value where it is declared to depend on it, and else what was kept of it
abbrev pub seen : Shape → Bool → ℕ → ℕ → ℤ → ℤ → ℤ
seen shape initializing output reference value kept =
    if option_map_or (is_declared shape initializing output) (variable_at shape.variables reference)
    false then value else kept

-- ---- the machines

-- counter, with the variables inc and y: y is a count, to which each step adds inc
abbrev pub counter_content : List ℤ → Call → Content
counter_content own (C.Get kind reference) = A.Get (word_of (at own 0))
counter_content own call = plain call

abbrev pub counter_change : List ℤ → List ℤ → Call → List ℤ
counter_change own values (C.DoStep t size) = (at own 0 +ℤ at values 0) ∷ []
counter_change own values call = own

abbrev pub counter : Behaviour
counter = record {
  first = pos 0 ∷ [];
  look = λ initializing own values call. counter_content own call;
  change = counter_change;
}

-- gain, with the variables k, u and y: y is k times u; what is kept of u is that of the last ExitInitialization, Update or step
abbrev pub gain_content : ℤ → Call → Content
gain_content y (C.Get kind reference) = A.Get (word_of y)
gain_content y call = plain call

abbrev pub gain_change : List ℤ → List ℤ → Call → List ℤ
gain_change own values C.ExitInitialization = at values 1 ∷ []
gain_change own values C.Update = at values 1 ∷ []
gain_change own values (C.DoStep t size) = at values 1 ∷ []
gain_change own values call = own

abbrev pub gain : Shape → Behaviour
gain shape = record {
  first = pos 0 ∷ [];
  look =
      λ initializing own values call.
      gain_content (at values 0 *ℤ seen shape initializing 3 2 (at values 1) (at own 0)) call;
  change = gain_change;
}

-- sampler, with the variables c, u and y: y is u; what is kept of u is that of the last Update with c active
abbrev pub sampler_change : List ℤ → List ℤ → Call → List ℤ
sampler_change own values C.Update =
    (if int_eq (at values 0) (pos 1) then at values 1 else at own 0) ∷ []
sampler_change own values call = own

abbrev pub sampler : Shape → Behaviour
sampler shape = record {
  first = pos 0 ∷ [];
  look =
      λ initializing own values call.
      gain_content (seen shape initializing 3 2 (at values 1) (at own 0)) call;
  change = sampler_change;
}

-- ticker, with the variables c, u and y: y is the number of Updates with c active
abbrev pub ticker_change : List ℤ → List ℤ → Call → List ℤ
ticker_change own values C.Update =
    (if int_eq (at values 0) (pos 1) then at own 0 +ℤ pos 1 else at own 0) ∷ []
ticker_change own values call = own

abbrev pub ticker : Behaviour
ticker = record {
  first = pos 0 ∷ [];
  look = λ initializing own values call. counter_content own call;
  change = ticker_change;
}

-- the same with a fixed Clock of a hundredth of a second, which ticks first after one
abbrev pub fixed_content : List ℤ → Call → Content
fixed_content own (C.Get kind reference) = A.Get (word_of (at own 0))
fixed_content own (C.GetInterval reference) =
    A.GetInterval (Changed (record { counter = 1; resolution = 100 }))
fixed_content own (C.GetShift reference) = A.GetShift (record { counter = 10; resolution = 1000 })
fixed_content own call = plain call

abbrev pub fixed_ticker : Behaviour
fixed_ticker = record {
  first = pos 0 ∷ [];
  look = λ initializing own values call. fixed_content own call;
  change = ticker_change;
}

-- relay, with the variables u, o and y: y is u, and o is active where u differs from that of the last Update
abbrev pub relay_content : Bool → ℤ → Call → Content
relay_content differs y (C.Get kind reference) = A.Get (word_of y)
relay_content differs y (C.GetClock reference) = A.GetClock (if differs then 1 else 0)
relay_content differs y call = plain call

abbrev pub relay_change : List ℤ → List ℤ → Call → List ℤ
relay_change own values C.Update = at values 0 ∷ []
relay_change own values call = own

abbrev pub relay : Shape → Behaviour
relay shape = record {
  first = pos 0 ∷ [];
  look = λ initializing own values call.
      relay_content (not (int_eq (seen shape initializing 2 1 (at values 0) (at own 0)) (at own 0)))
      (seen shape initializing 3 1 (at values 0) (at own 0)) call;
  change = relay_change;
}

-- timer, with the variables when, wait, c and y: at the point `when` it arms its countdown Clock c once, for `wait` counts later; y is the number of Updates with c active. Its own numbers are the point, that number, and 1 once it has armed the Clock
abbrev pub timer_interval : List ℤ → List ℤ → Interval
timer_interval own values =
    if int_eq (at own 2) (pos 0)
    then (if int_eq (at own 0) (at values 0)
    then Changed (record { counter = nat_abs (at values 1); resolution = 1000 })
    else NotYetKnown)
    else Unchanged (record { counter = 0; resolution = 1000 })

abbrev pub timer_content : List ℤ → List ℤ → Call → Content
timer_content own values (C.Get kind reference) = A.Get (word_of (at own 1))
timer_content own values (C.GetInterval reference) = A.GetInterval (timer_interval own values)
timer_content own values call = plain call

abbrev pub timer_change : List ℤ → List ℤ → Call → List ℤ
timer_change own values (C.EnterInitialization start stop) = pos start ∷ at own 1 ∷ at own 2 ∷ []
timer_change own values (C.DoStep t size) = pos (t + size) ∷ at own 1 ∷ at own 2 ∷ []
timer_change own values C.Update =
    at own 0
    ∷ (if int_eq (at values 2) (pos 1) then at own 1 +ℤ pos 1 else at own 1)
    ∷ (if int_eq (at own 0) (at values 0) then pos 1 else at own 2) ∷ []
timer_change own values call = own

abbrev pub timer : Behaviour
timer = record {
  first = pos 0 ∷ pos 0 ∷ pos 0 ∷ [];
  look =
      λ initializing own values call. timer_content own values call;
  change = timer_change;
}

-- settle, with the variables k and y: y is the number of Updates since Event Mode was entered, and each asks for another until there were k
abbrev pub settle_content : List ℤ → List ℤ → Call → Content
settle_content own values (C.Get kind reference) = A.Get (word_of (at own 0))
settle_content own values C.Update = A.Update (int_lt (at own 0) (at values 0)) false None
settle_content own values call = plain call

abbrev pub settle_change : List ℤ → List ℤ → Call → List ℤ
settle_change own values C.EnterEvent = pos 0 ∷ []
settle_change own values C.Update = (at own 0 +ℤ pos 1) ∷ []
settle_change own values call = own

abbrev pub settle : Behaviour
settle = record {
  first = pos 0 ∷ [];
  look = λ initializing own values call.
      settle_content own values call;
  change = settle_change;
}

-- tally, with the variable y: y has a digit for each kind of call that changes a state, from Instantiate in the last to Update in the first of seven
abbrev pub digit_of : Call → ℤ
digit_of (C.Instantiate event_mode early_return batches) = pos 1
digit_of (C.EnterInitialization start stop) = pos 10
digit_of C.ExitInitialization = pos 100
digit_of C.EnterStep = pos 1000
digit_of C.EnterEvent = pos 10000
digit_of (C.DoStep t size) = pos 100000
digit_of C.Update = pos 1000000
digit_of call = pos 0

abbrev pub tally : Behaviour
tally = record {
  first = pos 0 ∷ [];
  look = λ initializing own values call. counter_content own call;
  change = λ own values call. (at own 0 +ℤ digit_of call) ∷ [];
}

-- alarm, with the variables at and y: a step that passes the point `at` ends there, and y is the number of such steps
abbrev pub passes : ℕ → ℕ → ℤ → Bool
passes t size moment = int_lt (pos t) moment && int_lt moment (pos (t + size))

abbrev pub alarm_content : List ℤ → List ℤ → Call → Content
alarm_content own values (C.Get kind reference) = A.Get (word_of (at own 0))
alarm_content own values (C.DoStep t size) =
    if passes t size (at values 0) then A.DoStep true false true (nat_abs (at values 0))
    else A.DoStep false false false (t + size)
alarm_content own values call = plain call

abbrev pub alarm_change : List ℤ → List ℤ → Call → List ℤ
alarm_change own values (C.DoStep t size) =
    (if passes t size (at values 0) then at own 0 +ℤ pos 1 else at own 0) ∷ []
alarm_change own values call = own

abbrev pub alarm : Behaviour
alarm = record {
  first = pos 0 ∷ [];
  look = λ initializing own values call.
      alarm_content own values call;
  change = alarm_change;
}

-- pulse, with the variables c, d, s and y: its changing Clock c ticks first s counts after the start, and after each tick d counts later and one more for each tick before; y is the number of Updates with c active
abbrev pub pulse_content : List ℤ → List ℤ → Call → Content
pulse_content own values (C.Get kind reference) = A.Get (word_of (at own 0))
pulse_content own values (C.GetInterval reference) =
    A.GetInterval (Changed (record {
      counter = nat_abs (at values 1 +ℤ at own 0);
      resolution = 1000;
    }))
pulse_content own values (C.GetShift reference) =
    A.GetShift (record { counter = nat_abs (at values 2); resolution = 1000 })
pulse_content own values call = plain call

abbrev pub pulse : Behaviour
pulse = record {
  first = pos 0 ∷ [];
  look = λ initializing own values call. pulse_content own values call;
  change = ticker_change;
}

-- waker, with the variables at and y: each Update before the point `at` asks for an instant there; y is the number of Updates at that point. Its own numbers are the point where it stands, and that number
abbrev pub waker_content : List ℤ → List ℤ → Call → Content
waker_content own values (C.Get kind reference) = A.Get (word_of (at own 1))
waker_content own values C.Update =
    A.Update false false (if int_lt (at own 0) (at values 0)
    then Some (nat_abs (at values 0)) else None)
waker_content own values call = plain call

abbrev pub waker_change : List ℤ → List ℤ → Call → List ℤ
waker_change own values (C.EnterInitialization start stop) = pos start ∷ at own 1 ∷ []
waker_change own values (C.DoStep t size) = pos (t + size) ∷ at own 1 ∷ []
waker_change own values C.Update =
    at own 0 ∷
    (if int_eq (at own 0) (at values 0) then at own 1 +ℤ pos 1 else at own 1) ∷ []
waker_change own values call = own

abbrev pub waker : Behaviour
waker = record {
  first = pos 0 ∷ pos 0 ∷ [];
  look = λ initializing own values call. waker_content own values call;
  change = waker_change;
}

-- quiet: every output is 0, and nothing changes
abbrev pub quiet : Behaviour
quiet = record {
  first = [];
  look = λ initializing own values call. plain call;
  change = λ own values call. own;
}
