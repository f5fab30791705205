use Rattle.std.proofs.Common.{◌≡◌, ◌+◌, ◌-◌, length, map, subst, arith}
use Rattle.parameter_targets.specs.Chains.{IsChainedFrom}
use Rattle.parameter_targets.specs.Tables.{text_of}
use Rattle.parameter_targets.proofs.ChainLemmas.{text_is}
use Rattle.parameter_targets.proofs.chains.NameChains.of.Goals as goal

pub loop-i-preserved : goal.loop-i-preserved
loop-i-preserved c =
    let texts = map text_of c.args.entries.now in
    let len = length c.args.entries.now in
    let i = c.loop-i.i in
    let place = len - 1 - i in
    let before : len - i ≡ place + 1 = omega arith in
    let after : place ≡ len - (i + 1) = omega arith in
    let was = subst (λ n. IsChainedFrom texts n c.loop-i.chains) before c.loop-i.invariant in
    subst (λ n. IsChainedFrom texts n c.put.new.self) after (c.in_ok-put.ensures.chained texts (text_is c.args.entries.now place _ (omega arith)) was)
