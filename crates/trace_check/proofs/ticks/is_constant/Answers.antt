use Rattle.std.proofs.Common.{rules, ◌≡◌, sym, Some, None}
use Rattle.std.specs.List.{slice_get}
use Rattle.value_types.specs.Shape.{timing_at}
use Rattle.system_model.proofs.CallerLemmas.{true_false}
use Rattle.trace_check.proofs.TickLemmas.{constant_from, no_timing}
use Rattle.trace_check.proofs.ticks.is_constant.Goals as goal

pub returns-in-Some-find : goal.returns-in-Some-find
returns-in-Some-find c =
    let of : slice_get c.args.system.now.components c.args.port.now.component.0 ≡ Some c.in-Some.component.now = search rules in
    let described : timing_at c.in-Some.component.now.shape.clocks c.args.port.now.reference ≡ Some c.in-Some-find.timing.now = search rules in
    constant_from c.args.system.now c.args.port.now c.in-Some.component.now c.in-Some-find.timing.now c.is_constant_interval.result of described c.is_constant_interval.ensures

pub returns-in-None : goal.returns-in-None
returns-in-None c =
    let of : slice_get c.args.system.now.components c.args.port.now.component.0 ≡ Some c.in-Some.component.now = search rules in
    let described : timing_at c.in-Some.component.now.shape.clocks c.args.port.now.reference ≡ None = search rules in
    ((λ e. absurd (true_false (sym e))), (λ constant. absurd (no_timing c.args.system.now c.args.port.now c.in-Some.component.now of described constant)))
