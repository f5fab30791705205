-- The quiet FMU answers each call of a run well.
use Rattle.std.proofs.Common.{◌≡◌, ◌⊎◌, ℕ, ◌+◌, ◌<◌, Bool, true, false, not, ◌&&◌, ◌||◌, List, refl, sym, ◌∙◌, ap, subst, inl, inr, arith, nat_lt, nat_le}
use Rattle.std.specs.Prelude.{Some, None, IsSomeAnd, is_some, if◌then◌else◌, codes}
use Rattle.std.specs.Option.{option_map}
use Rattle.std.proofs.lemmas.Bool.{lt-ltb, le-leb, le-ltb}
use Rattle.value_types.specs.Shape.{timing_at}
use Rattle.value_types.specs.Values.{word_value}
use Rattle.value_types.specs.declared.values.PortType.{PortType}
use Rattle.value_types.specs.declared.values.PortType.TheVariants as T
use Rattle.value_types.specs.declared.shape.IntervalVariability.TheVariants as v
use Rattle.value_types.specs.declared.shape.ClockTiming.{ClockTiming}
use Rattle.value_types.specs.declared.shape.Shape.{Shape}
use Rattle.fmi_calls.specs.declared.call.Call.TheVariants as C
use Rattle.fmi_calls.specs.declared.call.Grade.TheVariants.{Good, Misreply}
use Rattle.fmi_calls.specs.declared.call.Interval.TheVariants.{NotYetKnown}
use Rattle.fmi_calls.specs.Worth.{is_interval, is_step_end, variability_at}
use Rattle.fmu_peer.specs.Machine.{Machine, IsMachineOf}
use Rattle.system_model.specs.declared.system.Component.{Component}
use Rattle.run_model.specs.Behaved.{WellBehaved}
use Rattle.run_model.specs.AlwaysWell.{AlwaysWell, RunSends, IsAskedForShift}
use Rattle.run_model.proofs.CallerLemmas.{always_behaves}
use Rattle.run_rows.specs.Machines.{machine_of, quiet}
use Rattle.run_rows.specs.Quiet.{QuietAnswersWell, quiet_run}
use Rattle.run_rows.specs.Relayed.{counter_shape, relay_shape, sampler_shape}
use Rattle.run_rows.specs.Parts.{component_of}
use Rattle.system_model.proofs.CallerLemmas.{all_at, found_at}
use Rattle.run_rows.proofs.Lawful.{each_is, is_machine}
use Rattle.run_rows.proofs.SystemTests.{is_of}
use Rattle.run_rows.proofs.Tests.{true_false, left, right, every, all_by}
use Rattle.run_rows.proofs.Sound.{relayed_sound}

good_if : (b : Bool) → b ≡ true → (if b then Good else Misreply) ≡ Good
good_if true e = refl
good_if false e = absurd (cc)

zero_word : (kind : PortType) → is_some (word_value kind 0) ≡ true
zero_word T.Int8 = refl
zero_word T.UInt8 = refl
zero_word T.Int16 = refl
zero_word T.UInt16 = refl
zero_word T.Int32 = refl
zero_word T.UInt32 = refl
zero_word T.Int64 = refl
zero_word T.UInt64 = refl
zero_word T.Boolean = refl
zero_word T.Enumeration = refl
zero_word T.Clock = refl

-- a step that ends at its bound
whole_step : (shape : Shape) (at size : ℕ) → 0 < size → is_step_end shape at size false (at + size) ≡ true
whole_step shape at size positive =
    by (nat_lt at (at + size)) (nat_le (at + size) (at + size)) (nat_lt (at + size) (at + size)) shape.might_return_early
    (lt-ltb at (at + size) (omega (arith, positive))) (le-leb (at + size) (at + size) (omega arith)) (le-ltb (at + size) (at + size) (omega arith))
  where
    by : (a b c e : Bool) → a ≡ true → b ≡ true → c ≡ false → (a && b && not c && (e || true)) ≡ true
    by true true false true f g h = refl
    by true true false false f g h = refl
    by true true true e f g h = absurd (true_false h)
    by true false c e f g h = absurd (true_false (sym g))
    by false b c e f g h = absurd (true_false (sym f))

-- a countdown Clock's interval needn't be known
unknown : (shape : Shape) (reference : ℕ) → ((r : ℕ) → RunSends shape (C.GetShift r) → ⊥) → RunSends shape (C.GetInterval reference) → is_interval (variability_at shape reference) NotYetKnown shape.resolution ≡ true
unknown shape reference none asked =
    (elim (timing_at shape.clocks reference) as (λ o. timing_at shape.clocks reference ≡ o → IsSomeAnd o (λ (t : ClockTiming). (t.variability ≡ v.Countdown) ⊎ IsAskedForShift t) → is_interval (option_map (λ (c : ClockTiming). c.variability) o) NotYetKnown shape.resolution ≡ true) [
      | None ↦ λ e h. absurd h
      | Some t ↦ λ e h. by t e h
    ]) refl asked
  where
    by : (t : ClockTiming) → timing_at shape.clocks reference ≡ Some t → (t.variability ≡ v.Countdown) ⊎ IsAskedForShift t → is_interval (Some t.variability) NotYetKnown shape.resolution ≡ true
    by t e (inl countdown) = ap (λ x. is_interval (Some x) NotYetKnown shape.resolution) countdown
    by t e (inr shift) = absurd (none reference (subst (λ o. IsSomeAnd o IsAskedForShift) (sym e) shift))

pub quiet_answers_well : QuietAnswersWell
quiet_answers_well shape none s (C.Instantiate event_mode early_return true) many sent = refl
quiet_answers_well shape none s (C.Instantiate event_mode early_return false) many sent = refl
quiet_answers_well shape none s (C.EnterInitialization start stop) many sent = refl
quiet_answers_well shape none s C.ExitInitialization many sent = refl
quiet_answers_well shape none s C.EnterEvent many sent = refl
quiet_answers_well shape none s C.EnterStep many sent = refl
quiet_answers_well shape none s (C.DoStep at size) many sent = good_if (is_step_end shape at size false (at + size)) (whole_step shape at size sent)
quiet_answers_well shape none s C.Update many sent = refl
quiet_answers_well shape none s (C.Get kind reference) many sent = good_if (is_some (word_value kind 0)) (zero_word kind)
quiet_answers_well shape none s (C.Set kind reference value) many sent = refl
quiet_answers_well shape none s (C.GetClock reference) many sent = refl
quiet_answers_well shape none s (C.SetClock reference) many sent = refl
quiet_answers_well shape none s (C.GetInterval reference) many sent = good_if (is_interval (variability_at shape reference) NotYetKnown shape.resolution) (unknown shape reference none sent)
quiet_answers_well shape none s (C.GetShift reference) many sent = absurd (none reference sent)
quiet_answers_well shape none s C.Save many sent = refl
quiet_answers_well shape none s C.Restore many sent = refl
quiet_answers_well shape none s C.Free many sent = refl
quiet_answers_well shape none s C.Terminate many sent = absurd sent
quiet_answers_well shape none s C.FreeInstance many sent = absurd sent
quiet_answers_well shape none s C.Serialize many sent = absurd sent
quiet_answers_well shape none s (C.Deserialize length point stop) many sent = absurd sent

-- ---- the run

-- no Clock is a fixed or changing one
abbrev is_timeless : ClockTiming → Bool
is_timeless t = not (is_of v.Fixed t.variability) && not (is_of v.Changing t.variability)

none_asked : (clocks : List ClockTiming) → every is_timeless clocks ≡ true → (reference : ℕ) → IsSomeAnd (timing_at clocks reference) IsAskedForShift → ⊥
none_asked clocks none reference asked =
    (elim (timing_at clocks reference) as (λ o. timing_at clocks reference ≡ o → IsSomeAnd o IsAskedForShift → ⊥) [
      | None ↦ λ e h. h
      | Some t ↦ λ e h.
          let found = found_at (λ (x : ClockTiming). x.reference) clocks reference t e in
          by t (all_at (λ (x : ClockTiming). is_timeless x ≡ true) clocks found.place t (all_by is_timeless (λ (x : ClockTiming). is_timeless x ≡ true) (λ x k. k) clocks none) found.is) h
    ]) refl asked
  where
    by : (t : ClockTiming) → is_timeless t ≡ true → IsAskedForShift t → ⊥
    by t here (inl changing) = true_false (sym (right (not (is_of v.Fixed t.variability)) (not (is_of v.Changing t.variability)) here) ∙ ap (λ x. not (is_of v.Changing x)) changing)
    by t here (inr fixed) = true_false (sym (left (not (is_of v.Fixed t.variability)) (not (is_of v.Changing t.variability)) here) ∙ ap (λ x. not (is_of v.Fixed x)) fixed.0)

abbrev IsQuiet : Component → Machine → Type 0
IsQuiet c m = IsMachineOf c.shape m × AlwaysWell c.shape m

quiet_component : (source : ℕ) (name : List ℕ) (shape : Shape) → every is_timeless shape.clocks ≡ true → IsQuiet (component_of source name shape) (machine_of shape quiet)
quiet_component source name shape none = (is_machine shape quiet, quiet_answers_well shape (none_asked shape.clocks none))

pub quiet_behaves : WellBehaved quiet_run
quiet_behaves i = always_behaves quiet_run relayed_sound i (each_is IsQuiet quiet_run.system.components quiet_run.machines
    (quiet_component 0 (codes "c") counter_shape refl, (quiet_component 1 (codes "r") relay_shape refl, (quiet_component 2 (codes "s") sampler_shape refl, tt))) i)
