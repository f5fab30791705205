use Rattle.std.proofs.Common.{◌≡◌, get_or, arith, rules}
use Rattle.std.proofs.lemmas.Bool.{false≢true}
use Rattle.parameter_binding.proofs.VisitLemmas.{first_all, first_more, nothing}
use Rattle.parameter_binding.proofs.visit.names_two.Goals as goal

pub loop-target-preserved : goal.loop-target-preserved
loop-target-preserved c =
    let targets = c.args.targets.now in
    let i = c.loop-target.target-index in
    let same : get_or targets i nothing ≡ get_or targets 0 nothing = search rules in
    first_more targets i c.loop-target-test.true same c.loop-target.invariant

pub returns : goal.returns
returns c = (λ e. absurd (false≢true e), λ two. absurd (first_all c.args.targets.now c.loop-target.target-index (omega arith) c.loop-target.invariant two))
