use Rattle.std.proofs.Common.{◌∙◌, arith}
use Rattle.clock_fraction.proofs.DigitLemmas.{zeros_more}
use Rattle.clock_fraction.proofs.digits.significant_len.Goals as goal

pub loop-len-preserved : goal.loop-len-preserved
loop-len-preserved c =
    (omega arith, λ n. c.loop-len.invariant.1 n ∙ zeros_more n c.args.digits.now c.loop-len.len (omega arith) c.loop-len.invariant.0 c.if-digits-len-eq48.true)
