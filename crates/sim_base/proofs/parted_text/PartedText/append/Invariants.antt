use Rattle.std.proofs.Common.{◌≡◌, ◌++◌, take}
use Rattle.sim_base.specs.Parted.{whole}
use Rattle.sim_base.proofs.parted_text.PartedText.append.Given as goal

abbrev pub invariant-loop-part : goal.invariant-loop-part
invariant-loop-part l = l.self ≡ l.initial.self ++ whole (take l.part-index l.part-items)
