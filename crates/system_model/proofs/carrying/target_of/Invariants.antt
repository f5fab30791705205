use Rattle.std.proofs.Common.{◌≡◌, take}
use Rattle.system_model.specs.Carried.{target_of}
use Rattle.system_model.proofs.carrying.target_of.Given as goal

abbrev pub invariant-loop-pair : goal.invariant-loop-pair
invariant-loop-pair l = l.target ≡ target_of (take l.pair-index l.pairs) l.number
