use Rattle.std.proofs.Common.{◌≡◌, None, rules}
use Rattle.parameter_binding.proofs.GatherLemmas.{gathered_next, some_of}
use Rattle.parameter_binding.proofs.gathered.Gathered.put.Goals as goal

pub returns-in_ok-put_all : goal.returns-in_ok-put_all
returns-in_ok-put_all c = λ t sets binding name change visit seen was.
    gathered_next t c.args.shapes.now sets binding name change c.args.visit.now visit c.args.targets.now seen c.args.self.now _ c.fault.result (c.fault.ensures t sets binding name change visit seen) c.first_of-self.ensures.either c.first_of-self.ensures.covers
    (λ none. c.in_ok-put_all.ensures t sets binding name change visit seen) (λ none. c.count_unreached-self.ensures.more) (λ none. c.count_unreached-self.ensures.same) was

pub returns-else-is_none : goal.returns-else-is_none
returns-else-is_none c = λ t sets binding name change visit seen was.
    let some : c.first_of-self.result ≡ None → ⊥ = some_of c.first_of-self.result (search rules) in
    gathered_next t c.args.shapes.now sets binding name change c.args.visit.now visit c.args.targets.now seen c.args.self.now _ c.fault.result (c.fault.ensures t sets binding name change visit seen) c.first_of-self.ensures.either c.first_of-self.ensures.covers
    (λ none. absurd (some none)) (λ none. absurd (some none)) (λ none. absurd (some none)) was
