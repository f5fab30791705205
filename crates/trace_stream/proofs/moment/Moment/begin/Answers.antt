use Rattle.std.proofs.Common.{arith, ◌∙◌, ap, ℤ, ◌<◌, List, [], ◌∷◌, ◌++◌, length, Option, None}
use Rattle.std.proofs.lemmas.List.{take_more_set, replicate_more}
use Rattle.trace_stream.proofs.moment.Moment.begin.Goals as goal

pub loop-value-preserved : goal.loop-value-preserved
loop-value-preserved c =
    let within : c.loop-value.value-index < length c.loop-value.value-items = omega (arith, c.loop-value-test.true, c.loop-value.auto.value-items) in
    take_more_set c.loop-value.value-items c.loop-value.value-index None within
    ∙ ap (λ (values : List (Option ℤ)). values ++ (None ∷ [])) c.loop-value.invariant
    ∙ replicate_more c.loop-value.value-index None
