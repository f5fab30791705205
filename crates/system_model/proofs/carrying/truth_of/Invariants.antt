use Rattle.std.proofs.Common.{◌≡◌, take}
use Rattle.std.specs.Prelude.{IfSome}
use Rattle.system_model.specs.Carried.{IsWide, truth_of}
use Rattle.system_model.proofs.carrying.truth_of.Given as goal

abbrev pub invariant-loop-pair : goal.invariant-loop-pair
invariant-loop-pair l = record {
  found : l.target ≡ truth_of (take l.pair-index l.pairs) l.number;
  wide : IfSome l.target IsWide;
}
