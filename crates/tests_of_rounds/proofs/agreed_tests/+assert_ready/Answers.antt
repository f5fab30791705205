use Rattle.std.proofs.Common.{All, rules, subst, sym}
use Rattle.std.proofs.lemmas.List.Elements.{All-cons}
use Rattle.rollback.specs.Standing.{IsReady}
use Rattle.tests_of_rounds.proofs.agreed_tests.+assert_ready.Goals as goal

pub returns-in-Some : goal.returns-in-Some
returns-in-Some g t c = λ step.
    let view = g.L.Peer.view in
    let first = c.in-Some.first.now in
    let rest = c.in-Some.rest.now in
    let one : IsReady view c.args.t c.args.bound step first = c.is_ready.ensures (search rules) step in
    subst (All (IsReady view c.args.t c.args.bound step)) (sym c.in-Some.ensures.cases.0)
    (All-cons (IsReady view c.args.t c.args.bound step) first rest one (c.assert_ready.ensures step))
