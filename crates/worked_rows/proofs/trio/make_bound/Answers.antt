use Rattle.std.proofs.Common.{◌∙◌}
use Rattle.worked_rows.proofs.TrioSound.{trio_bound}
use Rattle.worked_rows.proofs.trio.make_bound.Goals as goal

pub returns : goal.returns
returns c = trio_bound _ _ _ c.in_ok-make_values.ensures c.in_ok-make_values-2.ensures c.in_ok-make_values-3.ensures (record { components = c.from_vec.result; unreached = 0 }) (c.from_vec.ensures ∙ c.in_ok-components.ensures.items)
