use Rattle.std.proofs.Common.{◌∙◌}
use Rattle.worked_rows.proofs.TrioSound.{inc_bound, inc_unbound}
use Rattle.worked_rows.proofs.trio.make_values.Goals as goal

pub returns-in_ok-vec-in-Some : goal.returns-in_ok-vec-in-Some
returns-in_ok-vec-in-Some c = inc_bound c.from_vec.result c.inc_value.result (c.from_vec.ensures ∙ c.in_ok-vec-in-Some.ensures.items) c.inc_value.ensures.value c.inc_value.ensures.fits

pub returns-in-None : goal.returns-in-None
returns-in-None c = inc_unbound c.from_vec-in-None.result (c.from_vec-in-None.ensures ∙ c.new.ensures.items)
