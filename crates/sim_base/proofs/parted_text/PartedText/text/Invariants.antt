use Rattle.std.proofs.Common.{◌≡◌, take, string_bytes}
use Rattle.sim_base.specs.Parted.{whole}
use Rattle.sim_base.proofs.parted_text.PartedText.text.Given as goal

abbrev pub invariant-loop-part : goal.invariant-loop-part
invariant-loop-part l = string_bytes l.text ≡ whole (take l.part-index l.part-items)
