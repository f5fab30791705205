use Rattle.std.proofs.Common.{Some, sym, subst}
use Rattle.parameter_binding.specs.Walk.{IsJudged, triple_of}
use Rattle.parameter_binding.proofs.VisitLemmas.{judged_change, judged_class, judged_outside, judged_pair, judged_taken}
use Rattle.parameter_binding.proofs.visit.Visit.fault_for_type.Goals as goal

pub returns-in-Taken : goal.returns-in-Taken
returns-in-Taken c = λ t shapes sets binding name change target w visit sees is kind_is.
    judged_taken t shapes sets binding name change c.args.self.now visit target c.args.kind w sees is kind_is c.in-Taken.field-0 (c.in-Taken.ensures change visit.ready)

pub returns-in-OtherClass : goal.returns-in-OtherClass
returns-in-OtherClass c = λ t shapes sets binding name change target w visit sees is kind_is.
    subst (λ f. IsJudged t shapes sets (triple_of c.args.self.now) target (Some f)) (sym c.fault_in_set.ensures) (judged_class t shapes sets binding name change c.args.self.now visit target c.args.kind w sees is kind_is (c.in-OtherClass.ensures change visit.ready))

pub returns-in-OtherChange : goal.returns-in-OtherChange
returns-in-OtherChange c = λ t shapes sets binding name change target w visit sees is kind_is.
    let judged = c.in-OtherChange.ensures change visit.ready in
    subst (λ f. IsJudged t shapes sets (triple_of c.args.self.now) target (Some f)) (sym c.fault_in_mapping.ensures) (judged_change t shapes sets binding name change c.args.self.now visit target c.args.kind w sees is kind_is judged.0 judged.1)

pub returns-in-NoPair : goal.returns-in-NoPair
returns-in-NoPair c = λ t shapes sets binding name change target w visit sees is kind_is.
    subst (λ f. IsJudged t shapes sets (triple_of c.args.self.now) target (Some f)) (sym c.fault_in_set-in-NoPair.ensures) (judged_pair t shapes sets binding name change c.args.self.now visit target c.args.kind w sees is kind_is (c.in-NoPair.ensures change visit.ready))

pub returns-in-Outside : goal.returns-in-Outside
returns-in-Outside c = λ t shapes sets binding name change target w visit sees is kind_is.
    subst (λ f. IsJudged t shapes sets (triple_of c.args.self.now) target (Some f)) (sym c.fault_in_set-in-Outside.ensures) (judged_outside t shapes sets binding name change c.args.self.now visit target c.args.kind w sees is kind_is (c.in-Outside.ensures change visit.ready))
