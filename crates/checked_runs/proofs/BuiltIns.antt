-- Built-in machines put their states as bytes and take them in, in a run with either version of the link.
use Rattle.std.proofs.Common.{ℕ}
use Rattle.system_model.specs.declared.plan.Plan.{Plan}
use Rattle.system_model.specs.Plans.{IsPlan}
use Rattle.run_model.specs.Machines.{AreMachines}
use Rattle.run_model.specs.Run.{Run}
use Rattle.held_laws.specs.BuiltIns.{AreBuiltIn, BuiltInsKeep}
use Rattle.checked_runs.specs.TwoParts.{BuiltInsGoInParts}

abbrev with_link : Run → ℕ → Run
with_link r link = record r { plan = record r.plan { link = link } }

machines_too : (r : Run) (link : ℕ) → AreMachines r → AreMachines (with_link r link)
machines_too r link m = record { count = m.count; each = m.each }

plan_too : (plan : Plan) (link : ℕ) → IsPlan plan → IsPlan (record plan { link = link })
plan_too plan link p = record {
  step_above = p.step_above;
  step_within = p.step_within;
  ordered = p.ordered;
  stop_within = p.stop_within;
  limit_above = p.limit_above;
  limit_within = p.limit_within;
}

built_too : (r : Run) (link : ℕ) → AreBuiltIn r → AreBuiltIn (with_link r link)
built_too r link built i c m here there =
    let b = built i c m here there in
    record { own = record { built_in = b.own.built_in; timings = b.own.timings }; few = b.few }

pub built_ins_go : BuiltInsKeep → BuiltInsGoInParts
built_ins_go keep r link sound machines binds plan built =
    let own : Plan = record r.plan { link = link } in
    let k = keep r own sound machines binds plan built in
    let other = keep (with_link r link) own sound (machines_too r link machines) binds (plan_too r.plan link plan) (built_too r link built) in
    (record { well = k.well; puts = k.puts; read_back = k.reads }, record { well = other.well; takes = k.takes })
