use Rattle.std.proofs.Common.{◌≡◌, ℕ, List, Some, sym, ap, ◌∙◌, arith, map}
use Rattle.std.specs.Prelude.{All, slice_get}
use Rattle.std.proofs.lemmas.List.Elements.{All-map}
use Rattle.fmi_calls.specs.declared.phase.InstanceState.TheVariants as P
use Rattle.fmu_peer.specs.CloseAll.{Instance, instance_in}
use Rattle.system_model.proofs.CallerLemmas.{all_at}
use Rattle.slot_calls.proofs.CallerLemmas.{shapes_same}
use Rattle.event_iteration.specs.Clocks.{timers_in}
use Rattle.event_iteration.specs.Initialization.{IsInInitialization}
use Rattle.event_iteration.specs.Questions.{InstanceMode, mode_of, modes}
use Rattle.event_iteration.proofs.Fixing.{fixing_all, fixing_more, fixing_none, fixing_stands, fixing_until}
use Rattle.event_iteration.proofs.Fmus.{got}
use Rattle.event_iteration.proofs.OverMachines.{fixes_for_machines}
use Rattle.event_iteration.proofs.Rounds.{all_instances}
use Rattle.event_iteration.proofs.clocks.fix_clocks.Goals as goal

-- an instance that is in Initialization Mode is so by its mode, also later
all_initializing : (olds mids : List Instance) → modes mids ≡ modes olds → All (λ (x : Instance). IsInInitialization x.view) olds →
    (i : ℕ) (mode : InstanceMode) → slice_get (modes mids) i ≡ Some mode → mode.state ≡ P.Initialization
all_initializing olds mids same all i mode at =
    all_at (λ (m : InstanceMode). m.state ≡ P.Initialization) (modes olds) i mode
    (All-map (λ (m : InstanceMode). m.state ≡ P.Initialization) mode_of olds all)
    (ap (λ (xs : List InstanceMode). slice_get xs i) (sym same) ∙ at)

pub loop-p-init : goal.loop-p-init
loop-p-init g c = record {
  live = c.requires.live;
  fixing = fixing_none c.args.system.now c.args.per_second c.args.schedule.now (map (λ s. instance_in g.L.Peer.view s) c.args.slots.now) c.requires.first;
}

pub fix_clock-requires-clause-shapes : goal.fix_clock-requires-clause-shapes
fix_clock-requires-clause-shapes g c κs lives =
    let prefix = c.loop-p.invariant.fixing in
    shapes_same prefix.log _ _ prefix.told ∙ c.requires.shapes

pub fix_clock-requires-clause-initializing : goal.fix_clock-requires-clause-initializing
fix_clock-requires-clause-initializing g c κs lives =
    all_initializing (map (λ s. instance_in g.L.Peer.view s) c.args.slots.now) (map (λ s. instance_in g.L.Peer.view s) c.loop-p.slots) c.loop-p.invariant.fixing.modes_are
    (all_instances (λ s. instance_in g.L.Peer.view s) (λ (x : Instance). IsInInitialization x.view) c.args.slots.now c.requires.initializing)

pub fix_clock-requires-clause-first : goal.fix_clock-requires-clause-first
fix_clock-requires-clause-first g c κs lives port is = c.loop-p.invariant.fixing.fixed.ahead c.loop-p.p port (omega arith) is

pub fix_clock-requires-clause-start : goal.fix_clock-requires-clause-start
fix_clock-requires-clause-start g c κs lives = c.loop-p.invariant.fixing.start ∙ c.requires.start

pub returns-in-Err-clause-fixes : goal.returns-in-Err-clause-fixes
returns-in-Err-clause-fixes g c =
    let system = c.args.system.now in
    let here = got system.ports c.loop-p.p (omega arith) in
    fixing_until system c.args.per_second c.loop-p.p here.0 here.1 c.args.schedule.now c.loop-p.schedule c.fix_clock.new.schedule
    (map (λ s. instance_in g.L.Peer.view s) c.args.slots.now) (map (λ s. instance_in g.L.Peer.view s) c.loop-p.slots) (map (λ s. instance_in g.L.Peer.view s) c.fix_clock.new.slots)
    c.requires.shapes c.loop-p.invariant.fixing c.in-Err.bad (c.in-Err.ensures.fixes here.0 here.1)

pub loop-p-preserved : goal.loop-p-preserved
loop-p-preserved g c =
    let system = c.args.system.now in
    let here = got system.ports c.loop-p.p (omega arith) in
    record {
      live = c.in-Ok.ensures.live;
      fixing = fixing_more system c.args.per_second c.loop-p.p here.0 here.1 c.args.schedule.now c.loop-p.schedule c.fix_clock.new.schedule
          (map (λ s. instance_in g.L.Peer.view s) c.args.slots.now) (map (λ s. instance_in g.L.Peer.view s) c.loop-p.slots) (map (λ s. instance_in g.L.Peer.view s) c.fix_clock.new.slots)
          c.requires.shapes c.loop-p.invariant.fixing (c.in-Ok.ensures.fixes here.0 here.1) c.in-Ok.ensures.modes;
    }

pub returns-clause-stands : goal.returns-clause-stands
returns-clause-stands g c =
    fixing_stands c.args.system.now c.args.per_second c.loop-p.p c.args.schedule.now c.loop-p.schedule (map (λ s. instance_in g.L.Peer.view s) c.args.slots.now) (map (λ s. instance_in g.L.Peer.view s) c.loop-p.slots)
    c.loop-p.invariant.fixing (omega arith) c.requires.first c.requires.run

pub returns-clause-fixes : goal.returns-clause-fixes
returns-clause-fixes g c =
    fixing_all c.args.system.now c.args.per_second c.loop-p.p c.args.schedule.now c.loop-p.schedule (map (λ s. instance_in g.L.Peer.view s) c.args.slots.now) (map (λ s. instance_in g.L.Peer.view s) c.loop-p.slots)
    c.loop-p.invariant.fixing (omega arith)

pub returns-clause-machines : goal.returns-clause-machines
returns-clause-machines g c =
    let all = fixing_all c.args.system.now c.args.per_second c.loop-p.p c.args.schedule.now c.loop-p.schedule (map (λ s. instance_in g.L.Peer.view s) c.args.slots.now) (map (λ s. instance_in g.L.Peer.view s) c.loop-p.slots) c.loop-p.invariant.fixing (omega arith) in
    fixes_for_machines (map (λ s. instance_in g.L.Peer.view s) c.args.slots.now) (map (λ s. instance_in g.L.Peer.view s) c.loop-p.slots) all.log all.told c.args.system.now c.requires.sound c.args.per_second c.args.schedule.now.start (timers_in c.loop-p.schedule) all.says.0 all.says.1
