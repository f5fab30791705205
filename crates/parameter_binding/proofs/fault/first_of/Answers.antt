use Rattle.std.proofs.Common.{inl, inr}
use Rattle.parameter_binding.proofs.FaultLemmas.{covers_more, covers_own}
use Rattle.parameter_binding.proofs.fault.first_of.Goals as goal

pub returns-then-is_up_to-clause-covers : goal.returns-then-is_up_to-clause-covers
returns-then-is_up_to-clause-covers c = λ p rule. λ either.
    let x = c.in-Some-Some in
    elim either [
      | inl h ↦ covers_own x.a p rule c.args.one x.is-0 h
      | inr h ↦ covers_more x.a x.b p rule c.args.other x.is-1 (c.is_up_to.ensures.first c.if-is_up_to.true) h
    ]

pub returns-else-is_up_to-clause-covers : goal.returns-else-is_up_to-clause-covers
returns-else-is_up_to-clause-covers c = λ p rule. λ either.
    let x = c.in-Some-Some in
    elim either [
      | inl h ↦ covers_more x.b x.a p rule c.args.one x.is-0 (c.is_up_to.ensures.second c.if-is_up_to.false) h
      | inr h ↦ covers_own x.b p rule c.args.other x.is-1 h
    ]
