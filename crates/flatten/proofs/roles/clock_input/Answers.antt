use Rattle.std.proofs.Common.{◌≡◌, refl, sym, ◌∙◌, ap}
use Rattle.std.specs.Prelude.{Some, None, option_copied}
use Rattle.value_types.specs.Shape.{timing_at}
use Rattle.value_types.specs.declared.shape.ClockTiming.{ClockTiming}
use Rattle.value_types.specs.declared.shape.IntervalVariability.TheVariants.{Triggered}
use Rattle.system_model.specs.Sound.{IsTiming}
use Rattle.flatten.proofs.RoleLemmas.{found_timing, no_timing, some_at}
use Rattle.flatten.proofs.roles.clock_input.Goals as goal

pub returns-in_default : goal.returns-in_default
returns-in_default c =
    let x = c.args.variable.now in
    let clock = c.in-Some.clock.now in
    let found : timing_at c.args.shape.now.clocks x.reference ≡ Some clock = sym c.find.ensures ∙ ap option_copied c.in-Some.is in
    let sound = found_timing c.args.shape.now x clock c.requires.sound c.requires.variable c.requires.clock found in
    record {
      role = (c.requires.input, c.requires.clock, some_at (timing_at c.args.shape.now.clocks x.reference) (λ t. IsTiming c.args.shape.now.resolution t c.timing.result) clock found (c.timing.ensures c.args.shape.now x sound refl c.in_default.not-Triggered));
      source = some_at (timing_at c.args.shape.now.clocks x.reference) (λ (t : ClockTiming). t.variability ≡ Triggered → ⊥) clock found c.in_default.not-Triggered;
    }

pub returns-in-None-clause-role : goal.returns-in-None-clause-role
returns-in-None-clause-role c =
    let found : timing_at c.args.shape.now.clocks c.args.variable.now.reference ≡ None = sym c.find.ensures ∙ ap option_copied c.in-None.is in
    absurd (no_timing c.args.shape.now c.args.variable.now c.requires.sound c.requires.variable c.requires.clock found)
