use Rattle.std.proofs.Common.{arith, subst}
use Rattle.trace_check.proofs.InputLemmas.{NoneLack, none_lacks}
use Rattle.trace_check.proofs.sources.first_without_value.Goals as goal

pub returns-clause-none : goal.returns-clause-none
returns-clause-none c =
    let always = subst (NoneLack c.args.system.now c.args.values.now) c.as_slice.ensures.value c.in_default.ensures.none in
    none_lacks c.args.system.now c.args.inputs.now.steady.items c.args.inputs.now.at_ticks c.args.told.now c.args.values.now c.loop-line.line-index c.requires.inputs c.requires.told c.requires.size
    always c.loop-line.invariant (omega arith)
