use Rattle.std.proofs.Common.{◌-◌}
use Rattle.link_frames.proofs.numbers.+take_from.Given as goal

abbrev pub decreases-take_from : goal.decreases-take_from
decreases-take_from l = 7 - l.place
