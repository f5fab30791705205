use Rattle.std.proofs.Common.{get_or, arith}
use Rattle.std.proofs.lemmas.List.Elements.{Contains-get_or}
use Rattle.parameter_binding.proofs.VisitLemmas.{nothing}
use Rattle.parameter_binding.proofs.WinnerLemmas.{winners_end, winners_more, winners_start}
use Rattle.parameter_binding.proofs.visit.Visit.put_all.Goals as goal

pub loop-target-init : goal.loop-target-init
loop-target-init c = λ t sets binding name change visit seen none was. winners_start t c.args.shapes.now sets binding name change c.args.self.now visit c.args.targets.now c.args.winners.now was

pub loop-target-preserved : goal.loop-target-preserved
loop-target-preserved c = λ t sets binding name change visit seen none was.
    let targets = c.args.targets.now in
    let i = c.loop-target.target-index in
    let sees = (seen (get_or targets i nothing)).0 (Contains-get_or targets i nothing c.loop-target-test.true) in
    winners_more t c.args.shapes.now sets binding name change c.args.self.now visit targets i c.loop-target.winners c.put.new.winners c.loop-target-test.true sees
    (c.in_ok-put.ensures t sets binding name change visit sees none) (c.loop-target.invariant t sets binding name change visit seen none was)

pub returns : goal.returns
returns c = λ t sets binding name change visit seen none was.
    winners_end t c.args.shapes.now sets binding name change c.args.self.now visit c.args.targets.now c.loop-target.target-index c.loop-target.winners seen (omega arith) (c.loop-target.invariant t sets binding name change visit seen none was)
