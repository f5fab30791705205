use Rattle.std.proofs.Common.{ap, map, ◌∙◌}
use Rattle.tick_schedule.specs.Pending.{is_to_take}
use Rattle.tick_schedule.proofs.PendingLemmas.{flags_none}
use Rattle.tick_schedule.proofs.pending.Pending.none.Goals as goal

pub returns : goal.returns
returns c = ap (map is_to_take) c.in_ok-none.ensures.same ∙ flags_none c.args.places
