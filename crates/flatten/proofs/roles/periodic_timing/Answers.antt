use Rattle.flatten.proofs.RoleLemmas.{periodic}
use Rattle.flatten.proofs.roles.periodic_timing.Goals as goal

pub returns : goal.returns
returns c = λ shape v sound same described.
    periodic shape v c.args.clock.now c.args.resolution c.counts.result c.counts-2.result sound same c.requires.above described
    c.counts.ensures.exact c.counts-2.ensures.exact (c.counts.ensures.within c.requires.within) (c.counts-2.ensures.within c.requires.within)
