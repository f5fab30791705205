-- A machine whose output shows its count, whatever the output declares to depend on, and which refuses each Get of a variable that isn't this output (FMI 3.0, 2.4.9: dependencies of outputs). What else it does is what a built-in machine does.
use Rattle.std.specs.Prelude.{ℕ, ℤ, ◌==◌, List, Option, Some, None, option_map, unwrap_or, false, if◌then◌else◌}
use Rattle.value_types.specs.Values.{word_of}
use Rattle.fmi_calls.specs.declared.call.BadStatus.TheVariants.{Error}
use Rattle.fmi_calls.specs.declared.call.Call.{Call}
use Rattle.fmi_calls.specs.declared.call.Call.TheVariants as C
use Rattle.fmi_calls.specs.declared.call.Content.TheVariants as A
use Rattle.fmi_calls.specs.declared.call.Kind.TheVariants as K
use Rattle.fmi_calls.specs.declared.call.Reply.{Reply}
use Rattle.fmi_calls.specs.declared.call.Reply.TheVariants.{Done, Refused}
use Rattle.fmu_peer.specs.Machine.{Machine, MachineState}
use Rattle.fmu_peer.specs.View.{Fixed, View}
use Rattle.bench_fmus.specs.BuiltIn.{numbers_in}
use Rattle.bench_fmus.specs.BuiltInView.{built_in_view}
use Rattle.worked_rows.specs.declared.own_counter.OwnCounter.{OwnCounter}

-- the output under reference 3 shows the count; nothing else can be read
abbrev pub shown : List ℤ → ℕ → Reply
shown numbers reference =
    if reference == 3 then Done false (A.Get (word_of (numbers_in numbers).count))
    else Refused K.Get Error

-- what it answers otherwise than a built-in machine
abbrev pub own_answer : List ℤ → Call → Option Reply
own_answer numbers (C.Get kind reference) = Some (shown numbers reference)
own_answer numbers _ = None

abbrev pub own_look : Machine → MachineState → Call → Reply
own_look m s call = unwrap_or (own_answer s.numbers call) (m.look s call)

abbrev pub own_machine : Machine → Machine
own_machine m = record m { look = own_look m }

abbrev pub own_fixed : Fixed → Fixed
own_fixed fixed = record fixed { machine = option_map own_machine fixed.machine }

-- what it tells
abbrev pub own_view : OwnCounter → View
own_view p = record (built_in_view p.inner) { fixed = own_fixed (built_in_view p.inner).fixed }
