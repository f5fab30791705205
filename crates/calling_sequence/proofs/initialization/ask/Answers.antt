use Rattle.std.proofs.Common.{arith, ap, ◌∙◌}
use Rattle.tick_schedule.specs.Timetable.{Timetable}
use Rattle.calling_sequence.specs.Place.{IsInitializing}
use Rattle.calling_sequence.proofs.Chains.{IsQuestion}
use Rattle.calling_sequence.proofs.Phases.{timing_keeps}
use Rattle.calling_sequence.proofs.ScheduleSteps.{first_again}
use Rattle.calling_sequence.proofs.Stages.{by_fixes, fixes_as, fixes_goodly, keeping}
use Rattle.calling_sequence.proofs.initialization.ask.Goals as goal

pub fix_clocks-requires-clause-initializing : goal.fix_clocks-requires-clause-initializing
fix_clocks-requires-clause-initializing g c κs lives = λ k d w. (c.requires.ready.stand k d w).state

pub fix_clocks-requires-clause-first : goal.fix_clocks-requires-clause-first
fix_clocks-requires-clause-first g c κs lives = first_again c.args.experiment.now.system _ _ _ c.requires.fresh.clocks

pub fix_clocks-requires-clause-run : goal.fix_clocks-requires-clause-run
fix_clocks-requires-clause-run g c κs lives =
    let start = ap (λ (x : Timetable). x.start) c.requires.fresh.clocks in
    let stop = ap (λ (x : Timetable). x.stop) c.requires.fresh.clocks in
    let ordered = c.requires.ready.may.plan.ordered in
    omega (arith, start, stop, ordered)

pub fix_clocks-requires-clause-start : goal.fix_clocks-requires-clause-start
fix_clocks-requires-clause-start g c κs lives = ap (λ (x : Timetable). x.start) c.requires.fresh.clocks

pub returns-clause-none : goal.returns-clause-none
returns-clause-none g c = c.fix_clocks.ensures.events ∙ ap (λ (x : Timetable). x.events) c.requires.fresh.clocks

pub returns-clause-ready : goal.returns-clause-ready
returns-clause-ready g c =
    let e = c.args.experiment.now in
    let f = c.fix_clocks.ensures in
    keeping g.L.Peer.view e (λ stop step. IsInitializing e.plan.start stop) c.args.slots.now _ c.requires.ready (λ shape. IsQuestion) (timing_keeps e.plan.start e.plan.stop) c.fix_clocks.result f.fixes.log f.fixes.told
    (fixes_goodly e.system e.plan.resolution _ _ _ _ c.fix_clocks.result f.fixes) f.live

pub returns-clause-goes : goal.returns-clause-goes
returns-clause-goes g c =
    let e = c.args.experiment.now in
    by_fixes e c.args.buffers.now.values c.requires.kept _ _ _ _ c.fix_clocks.result (fixes_as e.system e.plan.resolution _ _ (ap (λ (x : Timetable). x.start) c.requires.fresh.clocks) _ _ _ c.fix_clocks.result c.fix_clocks.ensures.fixes)
