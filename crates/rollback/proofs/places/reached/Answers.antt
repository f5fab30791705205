use Rattle.std.proofs.Common.{sym, ◌∙◌}
use Rattle.rollback.proofs.Least.{least_reduced}
use Rattle.rollback.proofs.places.reached.Goals as goal

pub returns-in-Some : goal.returns-in-Some
returns-in-Some g c = least_reduced c.args.bound _ c.in-Some.end (sym c.least_end.ensures ∙ c.in-Some.is)
