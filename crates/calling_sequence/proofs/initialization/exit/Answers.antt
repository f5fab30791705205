use Rattle.std.proofs.Common.{ℕ, ℤ, List, Option, true, ap, arith, length, refl, ◌∙◌}
use Rattle.std.proofs.lemmas.List.{length-map}
use Rattle.fmi_calls.specs.declared.call.Call.TheVariants as C
use Rattle.slot_calls.specs.Stage.{nothing, to_each}
use Rattle.event_iteration.specs.Clocks.{timers_in}
use Rattle.event_iteration.specs.Initialization.{no_values}
use Rattle.calling_sequence.specs.Course.{Exits, Spot}
use Rattle.calling_sequence.specs.StageOutcomes.{timed}
use Rattle.calling_sequence.specs.Place.{IsAt, IsInitializing}
use Rattle.calling_sequence.proofs.Phases.{exit_leads}
use Rattle.calling_sequence.proofs.ScheduleSteps.{begins}
use Rattle.calling_sequence.proofs.Stages.{by_stage, still_each}
use Rattle.calling_sequence.proofs.Stands.{no_values_are, none_fit, none_unfed}
use Rattle.calling_sequence.proofs.initialization.exit.Goals as goal

pub each-requires-clause-permitted : goal.each-requires-clause-permitted
each-requires-clause-permitted g c κs lives = λ k d w asks. (c.requires.ready.stand k d w).state

pub returns-clause-ready : goal.returns-clause-ready
returns-clause-ready g c =
    let plan = c.args.experiment.now.plan in
    still_each g.L.Peer.view c.args.experiment.now (λ stop step. IsInitializing plan.start stop) c.args.slots.now _ c.requires.ready (IsAt plan.start) (λ shape. C.ExitInitialization) (exit_leads plan.start plan.stop plan.step) nothing c.each.result c.each.ensures.stage c.each.ensures.live

pub returns-clause-timed : goal.returns-clause-timed
returns-clause-timed g c =
    let e = c.args.experiment.now in
    let t = c.requires.fixed in
    let none = no_values_are e.system (length c.args.buffers.now.values) c.clear.new.self c.clear.ensures t.places in
    let first = t.none in
    record { know = record { participants = t.know.participants; room = t.know.room }; awaited = none_unfed e.system _ _ none; starts = t.starts; stops = t.stops; stands = t.stands; places = ap length none ∙ length-map e.system.ports _; fitting = none_fit e.system _ none; holds = t.holds; limited = omega arith; few = omega (arith, first) }

pub returns-clause-goes : goal.returns-clause-goes
returns-clause-goes g c =
    let e = c.args.experiment.now in
    let t = c.requires.fixed in
    let none = no_values_are e.system (length c.args.buffers.now.values) c.clear.new.self c.clear.ensures t.places in
    let first : List (Option ℤ) → List (Option ℕ) → Spot = λ vs es. record { t = e.plan.start; n = 0; values = vs; timers = timers_in c.args.buffers.now.schedule; events = es } in
    let same = ap (λ (vs : List (Option ℤ)). first vs c.args.buffers.now.schedule.events) none ∙ ap (λ (es : List (Option ℕ)). first (no_values e.system) es) c.requires.none in
    by_stage e (timed c.args.buffers.now) _ (λ x. refl) (λ x extent. tt) _ _ _ c.requires.ready.shapes_are (λ ss. to_each (λ shape. C.ExitInitialization) ss) nothing refl
    (λ x log done is. Exits _ _ log _ _ same (begins e.system e.plan _ e.plan.start 0 true _ (ap length none ∙ length-map e.system.ports _) t.starts t.stands refl)) c.each.result c.each.ensures.stage
