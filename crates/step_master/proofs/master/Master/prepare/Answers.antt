use Rattle.std.proofs.Common.{refl}
use Rattle.step_master.proofs.master.Master.prepare.Goals as goal

pub make_slots-requires-clause-may : goal.make_slots-requires-clause-may
make_slots-requires-clause-may g c κs within = record { sound = c.requires.sound; binds = c.requires.bound; plan = c.requires.plan; counts = c.requires.counts }

pub returns-clause-ready : goal.returns-clause-ready
returns-clause-ready g c = record {
  unrun = refl;
  begins = record { ready = c.in_ok-slot_table.ensures.ready; fresh = c.in-Ok.ensures.fresh };
  roomy = λ whole can. c.in-Ok.ensures.roomy can;
}

pub returns-clause-ok : goal.returns-clause-ok
returns-clause-ok g c =
    let m = c.in_ok-slot_table.ensures.makes in
    record {
      log = m.log;
      told = m.told;
      answered = m.answered;
      system_is = refl;
      bound_is = refl;
      plan_is = refl;
      whole = refl;
      unrun = refl;
      none = c.in-Ok.ensures.fresh.none;
      machines = m.machines;
    }
