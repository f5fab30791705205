-- The built-in machines behave well along runs.
use Rattle.std.proofs.Common.{◌≡◌, ℕ, ℤ, Bool, true, false, List, Option, Some, if◌then◌else◌, refl, sym, ap, ◌∙◌, subst}
use Rattle.std.specs.List.{slice_get}
use Rattle.value_types.specs.declared.shape.Shape.{Shape}
use Rattle.fmi_calls.specs.declared.call.Call.{Call}
use Rattle.fmi_calls.specs.declared.call.Call.TheVariants as C
use Rattle.fmi_calls.specs.declared.call.Grade.TheVariants.{Good, Misreply}
use Rattle.fmu_peer.specs.Machine.{IsMachineOf, Machine, MachineState}
use Rattle.bench_fmus.specs.BuiltIn.{Behaviour, machine_of, numbers_in}
use Rattle.bench_fmus.specs.Laws.{machine_is}
use Rattle.bench_fmus.specs.Models.{behaviour_of}
use Rattle.system_model.specs.declared.system.Component.{Component}
use Rattle.system_model.specs.declared.system.Port.{Port}
use Rattle.system_model.specs.declared.system.Role.{Role}
use Rattle.system_model.specs.declared.system.Role.TheVariants.{Input, Output, ClockInput, ClockOutput, TimeClock}
use Rattle.system_model.specs.declared.system.Timing.{Timing}
use Rattle.system_model.specs.declared.system.Timing.TheVariants.{Periodic, Answered, Countdown, Changing}
use Rattle.system_model.specs.Sound.{IsSound}
use Rattle.run_model.specs.AlwaysWell.{RunSends, TimesWell, WellButTimings, asks_timing}
use Rattle.run_model.specs.AfterInstant.{written}
use Rattle.run_model.specs.Behaved as B
use Rattle.run_model.specs.Behaved.{IsAnsweredWell}
use Rattle.run_model.specs.Initial.{bound_values, initialized}
use Rattle.run_model.specs.Run.{IsFmu, Run, Situation}
use Rattle.run_model.proofs.CallerLemmas.{IsOwn, changing_shift_call, own_port, shift_call, timed_behaves, timing_of}
use Rattle.built_in_laws.specs.BuiltInRuns.{BuiltInsAnswerWell, BuiltInsBehaveWell, IsBuiltIn, IsBuiltInOf}
use Rattle.built_in_laws.proofs.AlongRun as R
use Rattle.built_in_laws.proofs.Timings.{AreSet, countdown_right, interval_right, shift_right}
use Rattle.built_in_laws.proofs.WellLemmas.{EndsRight, clock_right, ends_right, step_right, word_right}

good : (valid : Bool) → valid ≡ true → (if valid then Good else Misreply) ≡ Good
good true e = refl
good false e = cc

answers : (b : Behaviour) (shape : Shape) → EndsRight b shape → (s : MachineState) (call : Call) → RunSends shape call → asks_timing call ≡ false → IsAnsweredWell shape (machine_of b shape) s call
answers b shape ends s (C.Get kind reference) may untimed = good _ (word_right kind (b.shown shape (numbers_in s.numbers) s.values reference))
answers b shape ends s (C.GetClock reference) may untimed = good _ (clock_right (b.shown shape (numbers_in s.numbers) s.values reference))
answers b shape ends s (C.GetInterval reference) may untimed = absurd (cc)
answers b shape ends s (C.GetShift reference) may untimed = absurd (cc)
answers b shape ends s (C.DoStep at size) may untimed =
    good _ (step_right shape at size (b.asks_to_end shape.variables s.values size) (b.early_end shape s.values at size) may (ends s.values at size))
answers b shape ends s (C.Instantiate event_mode early_return true) may untimed = refl
answers b shape ends s (C.Instantiate event_mode early_return false) may untimed = refl
answers b shape ends s (C.EnterInitialization start stop) may untimed = refl
answers b shape ends s C.ExitInitialization may untimed = refl
answers b shape ends s C.EnterEvent may untimed = refl
answers b shape ends s C.EnterStep may untimed = refl
answers b shape ends s C.Update may untimed = refl
answers b shape ends s (C.Set kind reference value) may untimed = refl
answers b shape ends s (C.SetClock reference) may untimed = refl
answers b shape ends s C.Save may untimed = refl
answers b shape ends s C.Restore may untimed = refl
answers b shape ends s C.Free may untimed = refl
answers b shape ends s C.Terminate may untimed = absurd may
answers b shape ends s C.FreeInstance may untimed = absurd may
answers b shape ends s C.Serialize may untimed = absurd may
answers b shape ends s (C.Deserialize length point stop) may untimed = absurd may

pub answer_well : BuiltInsAnswerWell
answer_well shape m is = subst (WellButTimings shape) (sym is.is) (λ s call valued may untimed. answers (behaviour_of is.model) shape (ends_right is.model shape) s call may untimed)

-- ---- the timing of Clocks

module _ (r : Run) (sound : IsSound r.system) (i : ℕ) (all : (c : Component) (m : Machine) → slice_get r.system.components i ≡ Some c → slice_get r.machines i ≡ Some m → IsBuiltInOf r i c m) where
  -- the states in which each such FMU has the values that were set
  abbrev AreSetAt : List MachineState → Type 0
  AreSetAt states = (c : Component) (m : Machine) (s : MachineState) → IsFmu r states i c m s → AreSet c.shape (bound_values r i) s.values

  of_behaviour : (c : Component) (m : Machine) (of_c : slice_get r.system.components i ≡ Some c) (of_m : slice_get r.machines i ≡ Some m) →
      slice_get r.machines i ≡ Some (machine_of (behaviour_of (all c m of_c of_m).built_in.model) c.shape)
  of_behaviour c m of_c of_m = of_m ∙ ap (λ (x : Machine). Some x) (all c m of_c of_m).built_in.is

  set_initially : (V : List (Option ℤ)) → AreSetAt (initialized r V)
  set_initially V c m s fmu =
      R.initialized r sound i c (behaviour_of (all c m fmu.component fmu.machine).built_in.model) fmu.component (of_behaviour c m fmu.component fmu.machine) V s fmu.state

  set_written : (z : Situation) (V : List (Option ℤ)) → B.Reached r z → AreSetAt (written r z V)
  set_written z V reached c m s fmu =
      let b = behaviour_of (all c m fmu.component fmu.machine).built_in.model in
      let of_m = of_behaviour c m fmu.component fmu.machine in
      R.written r sound i c b fmu.component of_m z V (R.reached r sound i c b fmu.component of_m reached) s fmu.state

  -- what holds of a machine of its model holds of the machine
  at_model : (c : Component) (m : Machine) (is : IsBuiltInOf r i c m) (s : MachineState) (call : Call) → IsAnsweredWell c.shape (machine_of (behaviour_of is.built_in.model) c.shape) s call → IsAnsweredWell c.shape m s call
  at_model c m is s call well = subst (λ (x : Machine). IsAnsweredWell c.shape x s call) (sym is.built_in.is) well

  module _ (p : ℕ) (port : Port) (at_port : slice_get r.system.ports p ≡ Some port) (at : port.component.0 ≡ i) where
    own : (c : Component) → slice_get r.system.components i ≡ Some c → IsOwn r port c
    own c of_c = own_port r sound p port at_port c (ap (slice_get r.system.components) at ∙ of_c)

    -- a Clock whose shift is asked
    abbrev Asks : Type 0
    Asks = (c : Component) → IsOwn r port c → RunSends c.shape (C.GetShift port.reference)

    shifts : (states : List MachineState) → AreSetAt states → Asks → B.AnswersWell r states port.component.0 (λ shape. C.GetShift port.reference)
    shifts states set asks = subst (λ (k : ℕ). B.AnswersWell r states k (λ shape. C.GetShift port.reference)) (sym at)
        (λ c m s fmu. let is = all c m fmu.component fmu.machine in
        at_model c m is s (C.GetShift port.reference)
        (good _ (shift_right c.shape (bound_values r i) s.values (set c m s fmu) is.built_in.counts (numbers_in s.numbers) port.reference is.built_in.model is.timings (asks c (own c fmu.component)))))

    intervals : (states : List MachineState) → AreSetAt states → Asks → B.AnswersWell r states port.component.0 (λ shape. C.GetInterval port.reference)
    intervals states set asks = subst (λ (k : ℕ). B.AnswersWell r states k (λ shape. C.GetInterval port.reference)) (sym at)
        (λ c m s fmu. let is = all c m fmu.component fmu.machine in
        at_model c m is s (C.GetInterval port.reference)
        (good _ (interval_right c.shape (bound_values r i) s.values (set c m s fmu) is.built_in.counts (numbers_in s.numbers) port.reference is.built_in.model is.timings (asks c (own c fmu.component)))))

    initially : (states : List MachineState) → AreSetAt states → (role : Role) → port.role ≡ role → B.AnswersInitially role r states port
    initially states set (TimeClock Answered) e = (intervals states set (λ c mine. shift_call r port c mine e), shifts states set (λ c mine. shift_call r port c mine e))
    initially states set (TimeClock Changing) e = shifts states set (λ c mine. changing_shift_call r port c mine e)
    initially states set (TimeClock (Periodic interval shift)) e = tt
    initially states set (TimeClock Countdown) e = tt
    initially states set (Input feed) e = tt
    initially states set Output e = tt
    initially states set (ClockInput feed) e = tt
    initially states set ClockOutput e = tt

    counting : (states : List MachineState) → AreSetAt states → port.role ≡ TimeClock Countdown → B.AnswersWell r states port.component.0 (λ shape. C.GetInterval port.reference)
    counting states set e = subst (λ (k : ℕ). B.AnswersWell r states k (λ shape. C.GetInterval port.reference)) (sym at)
        (λ c m s fmu. let is = all c m fmu.component fmu.machine in
        at_model c m is s (C.GetInterval port.reference)
        (good _ (countdown_right c.shape (bound_values r i) s.values (set c m s fmu) is.built_in.counts (numbers_in s.numbers) port.reference is.built_in.model is.timings (timing_of r port c (own c fmu.component) Countdown e))))

    in_instant : (s : Situation) (values : List (Option ℤ)) → AreSetAt (written r s values) → (timing : Timing) → port.role ≡ TimeClock timing → B.AnswersAt (TimeClock timing) r s values p port
    in_instant s values set Countdown e = counting (written r s values) set e
    in_instant s values set Changing e = λ active. intervals (written r s values) set (λ c mine. changing_shift_call r port c mine e)
    in_instant s values set (Periodic interval shift) e = tt
    in_instant s values set Answered e = tt

  times_well : TimesWell r i
  times_well = record {
    initially = λ values solves p port at_port at. initially p port at_port at (initialized r values) (set_initially values) port.role refl;
    in_instants = λ s values reached solves p port at_port at. in_instant p port at_port at s values (set_written s values reached);
  }

pub behave_well : BuiltInsBehaveWell
behave_well r sound i all = timed_behaves r sound i
    (λ c m of_c of_m.
    let is : IsBuiltIn c.shape m = (all c m of_c of_m).built_in in
    (subst (IsMachineOf c.shape) (sym is.is) (machine_is (behaviour_of is.model) c.shape), answer_well c.shape m is))
    (times_well r sound i all)
