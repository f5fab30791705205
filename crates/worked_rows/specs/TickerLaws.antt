-- The machines of the tests' own meet the laws of a peer.
use Rattle.std.proofs.Common.{◌≡◌, true, false, [], ◌∷◌, ◌++◌, filter, length, map, Option, Some, None, Result, refl}
use Rattle.std.specs.Prelude.{option_map}
use Rattle.value_types.specs.declared.shape.Shape.{Shape}
use Rattle.value_types.specs.declared.shape.Variable.{Variable}
use Rattle.fmi_calls.specs.declared.call.Call.{Call}
use Rattle.fmi_calls.specs.declared.call.Call.TheVariants as C
use Rattle.fmi_calls.specs.declared.call.Reply.{Reply}
use Rattle.fmu_peer.specs.declared.peer.PeerFault.{PeerFault}
use Rattle.fmu_peer.specs.declared.talk_room.TalkRoom.{TalkRoom}
use Rattle.fmu_peer.specs.Machine.{IgnoresSlot, IsLawful, IsMachineOf, MachineState, UnpacksWell, changes_mode, is_discard}
use Rattle.fmi_calls.specs.Permission.{is_input_clock}
use Rattle.worked_rows.specs.declared.counted.Counts.{Counts}
use Rattle.worked_rows.specs.Ticker.{answer, clocks_of, first_values, is_in_initialization, numbers_after, numbers_in, references_of, ticker}

pub keeps_mark : (counts : Counts) (s : MachineState) (call : Call) → changes_mode call ≡ false →
    is_in_initialization (numbers_after counts (numbers_in s.numbers) s.values call) ≡
    is_in_initialization (numbers_in s.numbers)
keeps_mark counts s (C.EnterInitialization start stop) other = absurd (cc)
keeps_mark counts s C.ExitInitialization other = absurd (cc)
keeps_mark counts s (C.DoStep at size) other = refl
keeps_mark counts s (C.Instantiate event_mode early_return batches) other = refl
keeps_mark counts s C.EnterEvent other = refl
keeps_mark counts s C.EnterStep other = refl
keeps_mark counts s C.Update other = refl
keeps_mark counts s (C.Get kind reference) other = refl
keeps_mark counts s (C.Set kind reference value) other = refl
keeps_mark counts s (C.GetClock reference) other = refl
keeps_mark counts s (C.SetClock reference) other = refl
keeps_mark counts s (C.GetInterval reference) other = refl
keeps_mark counts s (C.GetShift reference) other = refl
keeps_mark counts s C.Save other = refl
keeps_mark counts s C.Restore other = refl
keeps_mark counts s C.Free other = refl
keeps_mark counts s C.Terminate other = refl
keeps_mark counts s C.FreeInstance other = refl
keeps_mark counts s C.Serialize other = refl
keeps_mark counts s (C.Deserialize length point stop) other = refl

pub never_discards : (counts : Counts) (s : MachineState) (call : Call) → changes_mode call ≡ true →
    is_discard (answer counts (numbers_in s.numbers) call) ≡ false
never_discards counts s (C.EnterInitialization start stop) changes = refl
never_discards counts s C.ExitInitialization changes = refl
never_discards counts s (C.DoStep at size) changes = absurd (cc)
never_discards counts s (C.Instantiate event_mode early_return batches) changes = absurd (cc)
never_discards counts s C.EnterEvent changes = absurd (cc)
never_discards counts s C.EnterStep changes = absurd (cc)
never_discards counts s C.Update changes = absurd (cc)
never_discards counts s (C.Get kind reference) changes = absurd (cc)
never_discards counts s (C.Set kind reference value) changes = absurd (cc)
never_discards counts s (C.GetClock reference) changes = absurd (cc)
never_discards counts s (C.SetClock reference) changes = absurd (cc)
never_discards counts s (C.GetInterval reference) changes = absurd (cc)
never_discards counts s (C.GetShift reference) changes = absurd (cc)
never_discards counts s C.Save changes = absurd (cc)
never_discards counts s C.Restore changes = absurd (cc)
never_discards counts s C.Free changes = absurd (cc)
never_discards counts s C.Terminate changes = absurd (cc)
never_discards counts s C.FreeInstance changes = absurd (cc)
never_discards counts s C.Serialize changes = absurd (cc)
never_discards counts s (C.Deserialize length point stop) changes = absurd (cc)

pub ticker_alike : (counts : Counts) → IgnoresSlot (ticker counts)
ticker_alike counts =
    record { looks = λ call s slot other. refl; changes = λ call s slot other. refl }

-- no bytes are those of a state
pub ticker_unpacks : (counts : Counts) → UnpacksWell (ticker counts)
ticker_unpacks counts = record {
  outside = λ bytes kept is. absurd (cc);
  fills = λ s call bytes is_warning is. absurd (cc);
}

-- no reply reads a value
pub ticker_lawful : (counts : Counts) (shape : Shape) → IsLawful shape (ticker counts)
ticker_lawful counts shape = λ call output s xs ys looked found mode agree. refl

-- a machine is one of a shape with these variables
pub machine_by : (shape : Shape) (counts : Counts) →
    references_of counts ≡ map (λ (v : Variable). v.reference) shape.variables →
    clocks_of counts ≡ map (λ (v : Variable). v.reference) (filter is_input_clock shape.variables) →
    length (first_values counts) ≡ length shape.variables → IsMachineOf shape (ticker counts)
machine_by shape counts references clocks values = record {
  references = references;
  clocks = clocks;
  values = values;
  empty = refl;
  before = refl;
  enters = λ s start stop. refl;
  exits = λ s. refl;
  keeps = keeps_mark counts;
  undiscarded = never_discards counts;
}

-- a peer that keeps no talk goes on to keep none
pub untold_kept : (old new : Option TalkRoom) (call : Call) (result : Result Reply PeerFault) →
    old ≡ None →
    option_map (λ (t : TalkRoom). t.exchanges.items) new ≡
    option_map (λ (t : TalkRoom). t.exchanges.items ++ record { call = call; result = result } ∷
    []) old → new ≡ None
untold_kept old None call result none is = refl
untold_kept None (Some t) call result none is = absurd (cc)
untold_kept (Some o) (Some t) call result none is = absurd (cc)
