-- Two machines of the tests' own (FMI 3.0, 2.2.6: FMU state; 2.2.8: Clocks). One counts its Updates since Event Mode was entered, and asks for another at the first of them. The other counts its Updates with the Clock under reference 2 active. The output under reference 3 shows the count; nothing else can be read.
use Rattle.std.specs.Prelude.{ℕ, ◌+◌, ◌==◌, ℤ, pos, ◌+ℤ◌, int_lt, Bool, true, false, List, [], ◌∷◌, Option, None, option_map, if◌then◌else◌}
use Rattle.std.specs.Ordering.{int_eq}
use Rattle.value_types.specs.Values.{word_of}
use Rattle.fmi_calls.specs.declared.call.BadStatus.TheVariants.{Error}
use Rattle.fmi_calls.specs.declared.call.Call.{Call}
use Rattle.fmi_calls.specs.declared.call.Call.TheVariants as C
use Rattle.fmi_calls.specs.declared.call.Content.TheVariants as A
use Rattle.fmi_calls.specs.declared.call.Interval.TheVariants.{NotYetKnown}
use Rattle.fmi_calls.specs.declared.call.Kind.TheVariants as K
use Rattle.fmi_calls.specs.declared.call.Reply.{Reply}
use Rattle.fmi_calls.specs.declared.call.Reply.TheVariants.{Done, Refused}
use Rattle.fmu_peer.specs.Machine.{Machine, MachineState, SavedMachine}
use Rattle.bench_fmus.specs.Told.{number_of_flag}
use Rattle.worked_rows.specs.declared.counted.Counted.{Counted}
use Rattle.worked_rows.specs.declared.counted.Counts.{Counts}
use Rattle.worked_rows.specs.declared.counted.Counts.TheVariants.{Ticks, Updates}

-- ---- a state

-- the mark of Initialization Mode, and the count
pub record Numbers : Type 0 where
  pub mark : ℤ
  pub count : ℤ

abbrev pub listed : Numbers → List ℤ
listed n = n.mark ∷ n.count ∷ []

abbrev pub numbers_in : List ℤ → Numbers
numbers_in (mark ∷ count ∷ []) = record { mark = mark; count = count }
numbers_in _ = record { mark = pos 0; count = pos 0 }

-- the state is in Initialization Mode
abbrev pub is_in_initialization : Numbers → Bool
is_in_initialization n = int_lt (pos 0) n.mark

-- the first value of those that a state has
abbrev pub first_of : List ℤ → ℤ
first_of (x ∷ xs) = x
first_of [] = pos 0

-- ---- the machines

abbrev pub references_of : Counts → List ℕ
references_of Updates = 3 ∷ []
references_of Ticks = 2 ∷ 5 ∷ 3 ∷ []

abbrev pub clocks_of : Counts → List ℕ
clocks_of Updates = []
clocks_of Ticks = 2 ∷ []

abbrev pub first_values : Counts → List ℤ
first_values Updates = pos 0 ∷ []
first_values Ticks = pos 0 ∷ pos 0 ∷ pos 0 ∷ []

-- the count has a most
abbrev pub one_more : ℤ → ℤ
one_more count = if int_lt count (pos 1000) then count +ℤ pos 1 else count

-- the count after an Update: without event the Clock, or with it active
abbrev pub updated : Counts → ℤ → List ℤ → ℤ
updated Updates count values = one_more count
updated Ticks count values = if int_eq (first_of values) (pos 1) then one_more count else count

abbrev pub entered : Counts → ℤ → ℤ
entered Updates count = pos 0
entered Ticks count = count

abbrev pub numbers_after : Counts → Numbers → List ℤ → Call → Numbers
numbers_after counts n values (C.EnterInitialization start stop) = record n { mark = pos 1 }
numbers_after counts n values C.ExitInitialization = record n { mark = pos 0 }
numbers_after counts n values C.EnterEvent = record n { count = entered counts n.count }
numbers_after counts n values C.Update = record n { count = updated counts n.count values }
numbers_after counts n values _ = n

-- the first Update asks for another
abbrev pub asks_again : Counts → ℤ → Bool
asks_again Updates count = int_lt count (pos 1)
asks_again Ticks count = false

abbrev pub shown : Numbers → ℕ → Reply
shown n reference =
    if reference == 3 then Done false (A.Get (word_of n.count)) else Refused K.Get Error

-- the reply to a call
abbrev pub answer : Counts → Numbers → Call → Reply
answer counts n (C.Get kind reference) = shown n reference
answer counts n (C.DoStep at size) = Done false (A.DoStep false false false (at + size))
answer counts n C.Update = Done false (A.Update (asks_again counts n.count) false None)
answer counts n (C.GetClock reference) = Done false (A.GetClock 0)
answer counts n (C.GetInterval reference) = Done false (A.GetInterval NotYetKnown)
answer counts n (C.GetShift reference) =
    Done false (A.GetShift (record { counter = 0; resolution = 1 }))
answer counts n (C.Instantiate event_mode early_return batches) = Done false (A.Instantiate false)
answer counts n (C.EnterInitialization start stop) = Done false A.EnterInitialization
answer counts n C.ExitInitialization = Done false A.ExitInitialization
answer counts n C.EnterEvent = Done false A.EnterEvent
answer counts n C.EnterStep = Done false A.EnterStep
answer counts n (C.Set kind reference value) = Done false A.Set
answer counts n (C.SetClock reference) = Done false A.SetClock
answer counts n C.Save = Done false A.Save
answer counts n C.Restore = Done false A.Restore
answer counts n C.Free = Done false A.Free
answer counts n C.Terminate = Done false A.Terminate
answer counts n C.FreeInstance = Done false A.FreeInstance
answer counts n C.Serialize = Refused K.Serialize Error
answer counts n (C.Deserialize length point stop) = Refused K.Deserialize Error

abbrev pub ticker : Counts → Machine
ticker counts = record {
  references = references_of counts;
  clocks = clocks_of counts;
  first = record {
    numbers = listed (record { mark = pos 0; count = pos 0 });
    values = first_values counts;
    slot = None;
  };
  initializing = λ numbers. is_in_initialization (numbers_in numbers);
  look = λ s call. answer counts (numbers_in s.numbers) call;
  change = λ s call. listed (numbers_after counts (numbers_in s.numbers) s.values call);
  packing = record { pack = λ kept. []; unpack = λ bytes. None };
  look_at = λ s call bytes. Refused K.Deserialize Error;
}

-- ---- what a peer tells

abbrev pub told : Counted → Numbers
told s = record { mark = number_of_flag s.is_initializing; count = s.count }

abbrev pub values_in : Counts → Counted → List ℤ
values_in Updates s = s.output ∷ []
values_in Ticks s = s.clock ∷ s.clocked ∷ s.output ∷ []

-- what Save kept
abbrev pub saved_in : Counts → Counted → SavedMachine
saved_in counts s = record { numbers = listed (told s); values = values_in counts s }

abbrev pub state_in : Counts → Counted → Option Counted → MachineState
state_in counts s saved = record {
  numbers = listed (told s);
  values = values_in counts s;
  slot = option_map (saved_in counts) saved;
}
