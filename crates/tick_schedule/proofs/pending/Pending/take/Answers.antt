use Rattle.std.proofs.Common.{ap, map, ◌∙◌}
use Rattle.std.specs.Prelude.{slice_set, false}
use Rattle.tick_schedule.specs.Pending.{is_to_take}
use Rattle.tick_schedule.proofs.PendingLemmas.{flags_set}
use Rattle.tick_schedule.proofs.pending.Pending.take.Goals as goal

pub returns : goal.returns
returns c = ap (map is_to_take) c.put_by.ensures ∙ flags_set c.self.inside.heap c.args.place _ ∙ ap (λ flags. slice_set flags c.args.place false) c.self.view_is
