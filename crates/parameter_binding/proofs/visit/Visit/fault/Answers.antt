use Rattle.std.proofs.Common.{◌≡◌, ◌⊎◌, List, Some, get_or, sym, ◌∙◌, subst, arith}
use Rattle.std.proofs.lemmas.Bool.{false≢true}
use Rattle.std.proofs.lemmas.List.{take_all}
use Rattle.std.proofs.lemmas.List.Elements.{Contains-get_or}
use Rattle.parameter_targets.specs.declared.target.Target.{Target}
use Rattle.parameter_binding.specs.declared.fault.Fault.{Fault}
use Rattle.parameter_binding.specs.Walk.{CoveredBy, triple_of}
use Rattle.parameter_binding.proofs.VisitLemmas.{AreJudged, found_one, found_two, judged_more, nothing}
use Rattle.parameter_binding.proofs.visit.Visit.fault.Goals as goal

pub loop-target-preserved : goal.loop-target-preserved
loop-target-preserved c = λ t sets binding name change visit seen.
    let targets = c.args.targets.now in
    let shapes = c.args.shapes.now in
    let i = c.loop-target.target-index in
    let target = get_or targets i nothing in
    let sees = (seen target).0 (Contains-get_or targets i nothing c.loop-target-test.true) in
    judged_more t shapes sets (triple_of c.args.self.now) targets i nothing c.loop-target.fault c.fault_for_type.result c.first_of-fault.result c.loop-target-test.true c.first_of-fault.ensures.either c.first_of-fault.ensures.covers
    (c.fault_for_type.ensures t shapes sets binding name change target c.variable_of.result.now visit sees c.variable_of.ensures c.unwrap-kind.ensures) (c.loop-target.invariant t sets binding name change visit seen)

pub returns-then-names_two : goal.returns-then-names_two
returns-then-names_two c = λ t sets binding name change visit seen.
    let targets = c.args.targets.now in
    let shapes = c.args.shapes.now in
    let i = c.loop-target.target-index in
    let judged = subst (λ (z : List Target). AreJudged t shapes sets (triple_of c.args.self.now) z c.loop-target.fault) (take_all i targets (omega arith)) (c.loop-target.invariant t sets binding name change visit seen) in
    let f = c.first_of-fault-then-names_two.result in
    let either = subst (λ (z : Fault). (f ≡ c.loop-target.fault) ⊎ (f ≡ Some z)) c.fault_in_set.ensures c.first_of-fault-then-names_two.ensures.either in
    found_two t shapes sets binding name change c.args.self.now visit targets seen c.loop-target.fault f judged (c.names_two.ensures.0 c.if-names_two.true) either
    (λ p rule. subst (λ (z : Fault). CoveredBy c.loop-target.fault p rule ⊎ CoveredBy (Some z) p rule → CoveredBy f p rule) c.fault_in_set.ensures (c.first_of-fault-then-names_two.ensures.covers p rule))

pub returns-else-names_two : goal.returns-else-names_two
returns-else-names_two c = λ t sets binding name change visit seen.
    let targets = c.args.targets.now in
    let shapes = c.args.shapes.now in
    let i = c.loop-target.target-index in
    let judged = subst (λ (z : List Target). AreJudged t shapes sets (triple_of c.args.self.now) z c.loop-target.fault) (take_all i targets (omega arith)) (c.loop-target.invariant t sets binding name change visit seen) in
    found_one t shapes sets binding name change c.args.self.now visit targets seen c.loop-target.fault judged (λ two. false≢true (sym c.if-names_two.false ∙ c.names_two.ensures.1 two))
