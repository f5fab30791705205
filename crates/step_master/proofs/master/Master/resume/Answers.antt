use Rattle.std.proofs.Common.{refl, sym, subst, ◌≤◌, ◌<◌}
use Rattle.step_master.proofs.Resuming.{binds_none, few_states}
use Rattle.step_master.proofs.CallerLemmas.{can_keep}
use Rattle.step_master.proofs.SessionLemmas.{states_each}
use Rattle.step_master.proofs.master.Master.resume.Goals as goal

pub make_slots-requires-clause-may : goal.make_slots-requires-clause-may
make_slots-requires-clause-may g c κs within = record {
  sound = c.requires.sound;
  binds = binds_none c.args.system c.in-Ok.bound c.as_slice.result.now c.as_slice.ensures c.in-Ok.ensures;
  plan = c.requires.plan;
  counts = c.requires.counts;
}

pub returns-clause-ready : goal.returns-clause-ready
returns-clause-ready g c =
    let held = c.args.held in
    let b = c.in-Ok-resume.ensures in
    record {
      unrun = refl;
      begins = record {
        may = record {
          ready = c.in_ok-slot_table.ensures.ready;
          can = can_keep c.args.system c.args.plan c.requires.sound c.requires.holdable;
          each = states_each c.args.system held c.requires.can;
          few = few_states c.args.system.components held.states c.requires.can.states;
          begun = subst (λ t. t ≤ held.point) (sym c.requires.plan_of.start) c.requires.can.limits.from;
          early = subst (λ t. held.point < t) (sym c.requires.plan_of.stop) c.requires.can.limits.before;
          done = b.done;
          none = b.none;
        };
        spot_is = b.spot_is;
      };
      roomy = λ whole can. absurd (cc);
    }

pub returns-clause-ok : goal.returns-clause-ok
returns-clause-ok g c =
    let m = c.in_ok-slot_table.ensures.makes in
    record {
      log = m.log;
      told = m.told;
      answered = m.answered;
      system_is = refl;
      plan_is = refl;
      held_is = refl;
      unrun = refl;
      none = c.in-Ok-resume.ensures.none;
      machines = m.machines;
    }
