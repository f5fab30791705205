use Rattle.std.proofs.Common.{◌≡◌, length, refl, ◌==◌, ◌∙◌}
use Rattle.std.proofs.lemmas.Result.{on_ok_weaker}
use Rattle.system_model.specs.Ports.{port_numbers}
use Rattle.event_iteration.specs.BadEnds.{or_bad}
use Rattle.event_iteration.specs.Clocks.{is_due_at}
use Rattle.event_iteration.specs.Instants.{in_instant}
use Rattle.event_iteration.specs.Participants.{AreUnfedAwaited}
use Rattle.calling_sequence.specs.Course.{Reads}
use Rattle.calling_sequence.specs.StageOutcomes.{before_instant, spot}
use Rattle.calling_sequence.specs.Place.{IsAt, IsTaking}
use Rattle.calling_sequence.proofs.Phases.{begins_at, taking_at, taking_keeps}
use Rattle.calling_sequence.proofs.Stages.{both_ok, by_good_walk, keeping_walk, weaker}
use Rattle.calling_sequence.proofs.Walks.{IsOfInstant, instant_goodly}
use Rattle.calling_sequence.proofs.instants.find.Goals as goal

pub instant-requires-clause-begins : goal.instant-requires-clause-begins
instant-requires-clause-begins g c κs lives = λ k d w. begins_at c.args.t _ _ _ (c.requires.ready.stand k d w)

pub returns-clause-ready : goal.returns-clause-ready
returns-clause-ready g c =
    let e = c.args.experiment.now in
    let t = c.args.t in
    let values = c.args.buffers.now.values in
    let order = port_numbers e.system.instant_order in
    let ticks = is_due_at c.args.buffers.now.schedule t in
    keeping_walk g.L.Peer.view e (IsTaking t) c.args.slots.now _ (weaker g.L.Peer.view e (IsAt t) (IsTaking t) (taking_at t e.plan.stop e.plan.step) c.args.slots.now c.requires.ready) IsOfInstant (taking_keeps t e.plan.stop e.plan.step) (in_instant ticks (c.args.n == 0)) values order _
    (λ log. instant_goodly e.system values order _ log ticks (c.args.n == 0)) (or_bad c.instant.result c.instant.new.bad) c.instant.ensures.walks c.instant.ensures.live

-- after an answer that isn't good nothing is asked of the buffers
pub returns-clause-timed : goal.returns-clause-timed
returns-clause-timed g c =
    let timed = c.requires.timed in
    let found = c.instant.ensures in
    let e = c.args.experiment.now in
    let values = c.instant.new.values in
    let pending = c.instant.new.pending in
    on_ok_weaker (or_bad c.instant.result c.instant.new.bad)
    (λ (w : (length values ≡ length e.system.ports) × AreUnfedAwaited e.system values pending). record {
      know = record { participants = timed.know.participants; room = found.pending ∙ timed.know.room };
      awaited = w.1;
      starts = timed.starts;
      stops = timed.stops;
      stands = timed.stands;
      places = w.0;
      fitting = found.fitting;
      holds = timed.holds;
      limited = timed.limited;
      few = timed.few;
    })
    (both_ok (length values ≡ length e.system.ports) (AreUnfedAwaited e.system values pending) (or_bad c.instant.result c.instant.new.bad) found.values found.awaited)

pub returns-clause-goes : goal.returns-clause-goes
returns-clause-goes g c =
    let e = c.args.experiment.now in
    let b = c.args.buffers.now in
    let rules = in_instant (is_due_at b.schedule c.args.t) (c.args.n == 0) in
    let order = port_numbers e.system.instant_order in
    by_good_walk e (before_instant c.args.t c.args.n b) _ refl (λ extent. tt) _ _ b.instants rules b.values order _ refl (or_bad c.instant.result c.instant.new.bad)
    (λ log. on_ok_weaker (or_bad c.instant.result c.instant.new.bad) (λ (long : length c.instant.new.values ≡ length e.system.ports). Reads (spot c.args.t c.args.n b) _ c.instant.new.values log long) c.instant.ensures.values) c.instant.ensures.walks
