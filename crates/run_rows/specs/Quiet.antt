-- An FMU that answers each call of a run well, and a run of such FMUs, which is well behaved.
use Rattle.std.specs.Prelude.{ℕ, [], ◌∷◌}
use Rattle.fmi_calls.specs.declared.call.Call.TheVariants as C
use Rattle.value_types.specs.declared.shape.Shape.{Shape}
use Rattle.run_model.specs.Run.{Run}
use Rattle.run_model.specs.AlwaysWell.{AlwaysWell, RunSends}
use Rattle.run_rows.specs.Machines.{machine_of, quiet}
use Rattle.run_rows.specs.Relayed.{relayed_run, counter_shape, relay_shape, sampler_shape}

-- it does so where no Clock is asked for its shift
abbrev pub QuietAnswersWell : Type 0
QuietAnswersWell =
    (shape : Shape) → ((reference : ℕ) → RunSends shape (C.GetShift reference) → ⊥) →
    AlwaysWell shape (machine_of shape quiet)

abbrev pub quiet_run : Run
quiet_run = record relayed_run {
  machines = machine_of counter_shape quiet ∷ machine_of relay_shape quiet ∷
      machine_of sampler_shape quiet ∷ [];
}
