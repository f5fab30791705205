-- Where the parts of a run lead instances that are told machines: by what their logs make of these.
use Rattle.std.proofs.Common.{◌≡◌, ℕ, ℤ, List, Option, Ok, sym, ap, ap₂, ◌∙◌, subst}
use Rattle.value_types.specs.declared.shape.Shape.{Shape}
use Rattle.fmu_peer.specs.CloseAll.{Instance}
use Rattle.fmu_peer.specs.Machine.{MachineState}
use Rattle.system_model.specs.declared.system.System.{System}
use Rattle.system_model.specs.Sound.{IsSound}
use Rattle.run_model.specs.AfterInstant.{written}
use Rattle.run_model.specs.Initial.{initialized}
use Rattle.run_model.specs.Run.{Timer}
use Rattle.slot_calls.specs.Log.{Sent, Told}
use Rattle.slot_calls.specs.Stage.{IsAnswered, shapes, shapes_of}
use Rattle.event_iteration.specs.Intervals.{FixesForMachines, Rearms, RearmsForMachines, first_told, timing_calls}
use Rattle.event_iteration.specs.Intervals as V
use Rattle.event_iteration.specs.Machines.{AreAt}
use Rattle.event_iteration.specs.Settings.{port_order}
use Rattle.event_iteration.specs.Updates.{LeadsForMachines, events_told, updated_by, updating}
use Rattle.event_iteration.specs.declared.updates.Updated.{Updated}
use Rattle.event_iteration.proofs.ByLog.{fixed_by_log, intervals_by_log, updates_by_log}
use Rattle.event_iteration.proofs.Fmus.{are_replies}
use Rattle.event_iteration.proofs.Stages.{told_on}
use Rattle.event_iteration.proofs.WalkAnswers.{last_alone_is_bad}

module _ (olds news : List Instance) (log : List Sent) (told : Told log olds news) where
  pub fixes_for_machines : (system : System) → IsSound system → (per_second start : ℕ) (timers : List Timer) → IsAnswered (shapes_of system) (timing_calls system) log → timers ≡ first_told per_second start system log → FixesForMachines system per_second start timers olds news
  fixes_for_machines system sound per_second start timers answered are r values same counts starts machines at =
      let there : List MachineState = initialized r values in
      let own = subst (λ (x : System). IsAnswered (shapes_of x) (timing_calls x) log) (sym same) answered in
      let by = fixed_by_log r values log (subst IsSound (sym same) sound) machines own (are_replies r there olds news at log told) in
      (subst (λ (ss : List MachineState). AreAt r ss news) by.0 (told_on r there olds news at log told own.good), are ∙ ap (λ (n : ℕ). first_told per_second n system log) (sym starts) ∙ ap₂ (λ (n : ℕ) (x : System). first_told n r.plan.start x log) (sym counts) (sym same) ∙ by.1)

  pub rearms_for_machines : (system : System) → IsSound system → (per_second t : ℕ) (values : List (Option ℤ)) (before after : List Timer) → Rearms system per_second t values before after log → RearmsForMachines system per_second t values before after olds news
  rearms_for_machines system sound per_second t values before after rearms r s same counts machines situation at_point timers at =
      let there : List MachineState = written r s values in
      let own : Rearms r.system r.plan.resolution s.t values s.timers after log =
      subst (λ (x : System). Rearms x r.plan.resolution s.t values s.timers after log) (sym same)
      (subst (λ (n : ℕ). Rearms system n s.t values s.timers after log) (sym counts) (subst (λ (n : ℕ). Rearms system per_second n values s.timers after log) (sym at_point) (subst (λ (ts : List Timer). Rearms system per_second t values ts after log) (sym timers) rearms))) in
      let by = intervals_by_log r s values after log (subst IsSound (sym same) sound) machines situation own (are_replies r there olds news at log told) in
      (subst (λ (ss : List MachineState). AreAt r ss news) by.0 (told_on r there olds news at log told ((last_alone_is_bad r.system (V.intervals values) values (port_order r.system) values log).good own.explains)), by.1)

  pub leads_for_machines : (system : System) → shapes olds ≡ shapes_of system → IsAnswered (shapes olds) (updating (shapes olds)) log → (u : Updated) → u ≡ updated_by log → (t : ℕ) (events : List (Option ℕ)) → events ≡ events_told t (shapes olds) log → LeadsForMachines system t events olds news (Ok u)
  leads_for_machines system alike sent u is t events told_are r s values same machines situation at_point at =
      let there : List MachineState = written r s values in
      let own = subst (λ ss. IsAnswered ss (updating ss) log) (alike ∙ ap shapes_of (sym same)) sent in
      let by = updates_by_log r s values log machines situation own (are_replies r there olds news at log told) in
      (subst (λ (ss : List MachineState). AreAt r ss news) by.0 (told_on r there olds news at log told own.good), ap (λ (x : Updated). x.again) is ∙ by.1, ap (λ (x : Updated). x.asked) is ∙ by.2, told_are ∙ ap₂ (λ (n : ℕ) (ss : List Shape). events_told n ss log) (sym at_point) (alike ∙ ap shapes_of (sym same)) ∙ by.3)
