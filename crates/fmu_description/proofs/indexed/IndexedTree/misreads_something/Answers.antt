use Rattle.std.proofs.Common.{refl, inl, inr}
use Rattle.fmu_description.proofs.MisreadLemmas.{or_last, if_ok}
use Rattle.fmu_description.proofs.indexed.IndexedTree.misreads_something.Goals as goal

pub returns-then-branch : goal.returns-then-branch
returns-then-branch c = (λ _. inr (inl (c.in_ok-misreads_of_variable.ensures.0 c.if-branch.true)), λ _. refl)

pub returns-then-misreads_of_clock : goal.returns-then-misreads_of_clock
returns-then-misreads_of_clock c = (λ _. inr (inr (inl (c.misreads_of_clock.ensures.0 c.if-misreads_of_clock.true))), λ _. refl)

pub returns : goal.returns
returns c =
    if_ok c.misreads_of_unknown.result c.misreads_of_unknown.ensures
    (λ b unknown. or_last c.misreads_of_co_simulation.ensures c.if-misreads_of_co_simulation.false
    (or_last c.in_ok-misreads_of_variable.ensures c.if-branch.false (or_last c.misreads_of_clock.ensures c.if-misreads_of_clock.false unknown)))
