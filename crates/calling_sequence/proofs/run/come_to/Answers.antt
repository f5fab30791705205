use Rattle.std.proofs.Common.{Bool, refl, subst, sym, arith, ◌∙◌, ◌+◌}
use Rattle.calling_sequence.specs.Ready.{AreTimed}
use Rattle.calling_sequence.proofs.ScheduleSteps.{never_first}
use Rattle.calling_sequence.proofs.Ways.{again_there, asked_there, done_there, limited_there, stops_there}
use Rattle.calling_sequence.proofs.run.come_to.Goals as goal

pub instants-init : goal.instants-init
instants-init g c = record { ready = c.requires.ready; timed = c.requires.timed; begun = c.requires.begun; below = c.requires.ready.may.plan.limit_above; text = refl; onward = λ olds past goes h. h }

pub returns-in-None-clause-comes : goal.returns-in-None-clause-comes
returns-in-None-clause-comes g c olds past goes h = c.in-None.ensures.puts olds past goes.puts_them (c.instants.invariant.onward olds past goes h)

pub returns-then-updated-clause-comes : goal.returns-then-updated-clause-comes
returns-then-updated-clause-comes g c olds past goes h = asked_there c.args.experiment.now _ _ c.take.new.buffers c.in-Some.updated olds past _ _ _ (c.in-Some.ensures.puts olds past goes.puts_them (c.instants.invariant.onward olds past goes h)) c.if-updated.true

pub returns-then-n-plan-clause-comes : goal.returns-then-n-plan-clause-comes
returns-then-n-plan-clause-comes g c olds past goes h =
    limited_there c.args.experiment.now _ _ c.take.new.buffers c.in-Some.updated olds past _ _ _ (c.in-Some.ensures.puts olds past goes.puts_them (c.instants.invariant.onward olds past goes h)) c.if-updated-2.true c.if-updated.false c.if-n-plan.true

pub instants-preserved-then-updated-2 : goal.instants-preserved-then-updated-2
instants-preserved-then-updated-2 g c =
    let e = c.args.experiment.now in
    let below = c.instants.invariant.below in
    let other = c.if-n-plan.false in
    record {
      ready = c.in-Some.ensures.ready;
      timed = subst (λ (x : Bool). AreTimed e c.instants.t (c.instants.n + 1) x c.take.new.buffers) (sym (never_first _ c.instants.n (omega arith))) c.in-Some.ensures.timed;
      begun = c.instants.invariant.begun;
      below = omega (arith, below, other);
      text = c.in-Some.ensures.text ∙ c.instants.invariant.text;
      onward = λ olds past goes h. again_there c.args.experiment.now _ _ c.take.new.buffers c.in-Some.updated olds past _ _ _ (c.in-Some.ensures.puts olds past goes.puts_them (c.instants.invariant.onward olds past goes h)) c.if-updated-2.true c.if-updated.false c.if-n-plan.false
          c.in-Some.ensures.timed;
    }

pub returns-then-t-plan-clause-comes : goal.returns-then-t-plan-clause-comes
returns-then-t-plan-clause-comes g c olds past goes h =
    stops_there c.args.experiment.now _ _ c.take.new.buffers c.in-Some.updated olds past _ _ _ (c.in-Some.ensures.puts olds past goes.puts_them (c.instants.invariant.onward olds past goes h)) c.if-updated-2.false c.if-updated.false c.if-t-plan.true

pub returns-then-limit-t-clause-ready : goal.returns-then-limit-t-clause-ready
returns-then-limit-t-clause-ready g c = c.in-Some.ensures.settled c.if-updated-2.false

pub returns-then-limit-t-clause-done : goal.returns-then-limit-t-clause-done
returns-then-limit-t-clause-done g c = (c.instants.n + 1, record { timed = c.in-Some.ensures.timed; modes = c.in-Some.ensures.modes; unarmed = c.in-Some.ensures.unarmed c.if-updated-2.false; later = c.in-Some.ensures.later })

pub returns-then-limit-t-clause-early : goal.returns-then-limit-t-clause-early
returns-then-limit-t-clause-early g c =
    let within = c.in-Some.ensures.timed.stands.within in
    let stops = c.in-Some.ensures.timed.stops in
    let other = c.if-t-plan.false in
    omega (arith, other, within, stops)

pub returns-then-limit-t-clause-comes : goal.returns-then-limit-t-clause-comes
returns-then-limit-t-clause-comes g c olds past goes h =
    (c.instants.n, done_there c.args.experiment.now _ _ c.take.new.buffers c.in-Some.updated olds past _ _ _ (c.in-Some.ensures.puts olds past goes.puts_them (c.instants.invariant.onward olds past goes h)) c.if-updated-2.false c.if-updated.false)

pub step_on-requires-clause-ready : goal.step_on-requires-clause-ready
step_on-requires-clause-ready g c κs within = c.in-Some.ensures.settled c.if-updated-2.false

pub step_on-requires-clause-done : goal.step_on-requires-clause-done
step_on-requires-clause-done g c κs within = record { timed = c.in-Some.ensures.timed; modes = c.in-Some.ensures.modes; unarmed = c.in-Some.ensures.unarmed c.if-updated-2.false; later = c.in-Some.ensures.later }

pub step_on-requires-clause-before : goal.step_on-requires-clause-before
step_on-requires-clause-before g c κs lives =
    let within = c.in-Some.ensures.timed.stands.within in
    let stops = c.in-Some.ensures.timed.stops in
    let other = c.if-t-plan.false in
    omega (arith, other, within, stops)

pub instants-preserved : goal.instants-preserved
instants-preserved g c =
    let begun = c.instants.invariant.begun in
    let later = c.in-Some-step_on.ensures.later in
    let other = c.if-limit-t.false in
    record {
      ready = c.in-Some-step_on.ensures.ready;
      timed = c.in-Some-step_on.ensures.timed;
      begun = omega (arith, begun, later);
      below = c.requires.ready.may.plan.limit_above;
      text = c.in-Some.ensures.text ∙ c.instants.invariant.text;
      onward = λ olds past goes h. c.in-Some-step_on.ensures.steps _ _ olds past (goes.leaves c.instants.t (omega (arith, other)))
          (done_there c.args.experiment.now _ _ c.take.new.buffers c.in-Some.updated olds past _ _ _ (c.in-Some.ensures.puts olds past goes.puts_them (c.instants.invariant.onward olds past goes h)) c.if-updated-2.false c.if-updated.false);
    }

pub returns-in-None-step_on-clause-comes : goal.returns-in-None-step_on-clause-comes
returns-in-None-step_on-clause-comes g c olds past goes h =
    let other = c.if-limit-t.false in
    c.in-None-step_on.ensures.steps _ _ olds past (goes.leaves c.instants.t (omega (arith, other)))
    (done_there c.args.experiment.now _ _ c.take.new.buffers c.in-Some.updated olds past _ _ _ (c.in-Some.ensures.puts olds past goes.puts_them (c.instants.invariant.onward olds past goes h)) c.if-updated-2.false c.if-updated.false)
