use Rattle.std.proofs.Common.{refl}
use Rattle.parameter_targets.proofs.ChainLemmas.{put_chained}
use Rattle.parameter_targets.proofs.chains.NameChains.put.Goals as goal

pub returns-clause-chained : goal.returns-clause-chained
returns-clause-chained c = λ texts same was.
    put_chained texts c.args.place c.args.self.now _ c.args.name.now c.in_ok-later.later c.in_ok-later.ensures.updates c.in_ok-later.ensures.old refl same c.requires.within was
