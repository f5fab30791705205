use Rattle.std.proofs.Common.{refl}
use Rattle.system_files.specs.Order.{Found, Whole, asked_with}
use Rattle.run_program.specs.Facts.{search_for}
use Rattle.inlined_runs.proofs.Twins.{Laws, runs_alike, sizes_alike, unknown_alike}
use Rattle.inlined_runs.proofs.laws.inlined_runs.Goals as goal

pub returns-clause-found : goal.returns-clause-found
returns-clause-found c = λ h k line loaded d. (
  record {
    reads = d.reads;
    alike = d.alike.0;
    asked = asked_with (search_for line) d.nested d.nested.systems.bindings;
    comes =
        Whole d.nested d.shapes d.given loaded (asked_with (search_for line) d.nested d.nested.systems.bindings) (Found loaded) d.taken d.made.binds d.made.makes d.made.folders refl refl;
  },
  record {
    reads = d.others;
    alike = d.alike.1;
    asked = asked_with (search_for line) d.inlined d.inlined.systems.bindings;
    comes =
        c.inlined_answers.ensures.found (search_for line) d.reads d.others d.nested d.inlined d.shapes d.given d.other loaded d.taken d.made d.taken_alone d.same d.give;
  },
)

pub returns-clause-runs : goal.returns-clause-runs
returns-clause-runs c =
    let laws : Laws = record {
      one = c.one_trace.ensures;
      trace = c.orders_and_workers_are_free.ensures.trace;
      behave = c.orders_and_workers_are_free.ensures.behaved;
      fixed = c.one_fixed_end.ensures;
      lost = c.one_lost_value.ensures;
    } in
    runs_alike laws

pub returns-clause-unknown : goal.returns-clause-unknown
returns-clause-unknown c = unknown_alike

pub returns-clause-sizes : goal.returns-clause-sizes
returns-clause-sizes c = sizes_alike
