use Rattle.std.proofs.Common.{List, ℤ, pos, map, get_or, ap, ◌∙◌}
use Rattle.value_types.specs.declared.shape.Variable.{Variable}
use Rattle.fmu_peer.specs.Machine.{written}
use Rattle.bench_fmus.proofs.ClockLemmas.{none_silenced, one_silenced}
use Rattle.bench_fmus.proofs.built_in_state.untick.Goals as goal

pub loop-reference-init : goal.loop-reference-init
loop-reference-init c = (none_silenced c.args.variables.now c.args.values.now, c.requires.room)

pub loop-reference-preserved : goal.loop-reference-preserved
loop-reference-preserved c =
    let variables : List Variable = c.args.variables.now in
    let clocks = c.args.clocks.now in
    let i = c.loop-reference.reference-index in (
      c.write_value.ensures.values
          ∙ ap (λ (xs : List ℤ). written (map (λ (v : Variable). v.reference) variables) xs (get_or clocks i 0) (pos 0)) c.loop-reference.invariant.0
          ∙ one_silenced variables c.args.values.now clocks i 0 c.loop-reference-test.true,
      c.write_value.ensures.room ∙ c.loop-reference.invariant.1,
    )
