-- The timer of a periodic Clock stays the same along a run.
use Rattle.std.proofs.Common.{◌≡◌, ℕ, zero, suc, ℤ, List, [], ◌∷◌, ap, ◌∙◌}
use Rattle.std.specs.Prelude.{Option, Some, slice_get}
use Rattle.std.specs.Option.{option_map}
use Rattle.std.proofs.lemmas.Option.{none-some as none_some, same_Some, slice_get-map}
use Rattle.fmu_peer.specs.Machine.{MachineState}
use Rattle.system_model.specs.declared.system.Role.{Role}
use Rattle.system_model.specs.declared.system.Role.TheVariants.{TimeClock}
use Rattle.system_model.specs.declared.system.Timing.TheVariants.{Periodic}
use Rattle.system_model.specs.declared.system.Port.{Port}
use Rattle.run_model.specs.Run.{Every, Run, Situation, Timer}
use Rattle.run_model.specs.Initial.{first_timer, first_timers}
use Rattle.run_model.specs.AfterInstant.{next_timer, next_timers, next_timers_from}

-- the port is a Clock with this interval and this shift
pub record IsPeriodicPort (ports : List Port) (p interval shift : ℕ) : Type 0 where
  pub port : Port
  pub at : slice_get ports p ≡ Some port
  pub role : port.role ≡ TimeClock (Periodic interval shift)

-- the timers of such Clocks are theirs
abbrev pub KeepPeriods : Run → List Timer → Type 0
KeepPeriods r timers = (p interval shift : ℕ) → IsPeriodicPort r.system.ports p interval shift → slice_get timers p ≡ Some (Every interval shift)

pub first_periods : (r : Run) (states : List MachineState) → KeepPeriods r (first_timers r states)
first_periods r states p interval shift is =
    slice_get-map (λ (port : Port). first_timer port.role r states port) r.system.ports p
    ∙ ap (option_map (λ (port : Port). first_timer port.role r states port)) is.at
    ∙ ap (λ (role : Role). Some (first_timer role r states is.port)) is.role

kept_from : (r : Run) (s : Situation) (V : List (Option ℤ)) (k : ℕ) (ports : List Port) (olds : List Timer) (p interval shift : ℕ) (port : Port) → slice_get ports p ≡ Some port →
    port.role ≡ TimeClock (Periodic interval shift) → slice_get olds p ≡ Some (Every interval shift) → slice_get (next_timers_from r s V k ports olds) p ≡ Some (Every interval shift)
kept_from r s V k [] olds p interval shift port at role old = absurd (none_some _ at)
kept_from r s V k (x ∷ ports) [] p interval shift port at role old = absurd (none_some _ old)
kept_from r s V k (x ∷ ports) (y ∷ olds) zero interval shift port at role old =
    ap (λ (w : Role). Some (next_timer w r s V k x y)) (ap (λ (w : Port). w.role) (same_Some x port at) ∙ role) ∙ old
kept_from r s V k (x ∷ ports) (y ∷ olds) (suc p) interval shift port at role old = kept_from r s V (suc k) ports olds p interval shift port at role old

pub next_periods : (r : Run) (s : Situation) (V : List (Option ℤ)) → KeepPeriods r s.timers → KeepPeriods r (next_timers r s V)
next_periods r s V keep p interval shift is = kept_from r s V 0 r.system.ports s.timers p interval shift is.port is.at is.role (keep p interval shift is)
