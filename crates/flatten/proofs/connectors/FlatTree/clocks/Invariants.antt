use Rattle.std.proofs.Common.{take}
use Rattle.std.specs.List.{AllZip}
use Rattle.flatten.specs.Ports.{IsPortUnder}
use Rattle.flatten.proofs.connectors.FlatTree.clocks.Given as goal

abbrev pub invariant-loop-reference : goal.invariant-loop-reference
invariant-loop-reference l = AllZip (IsPortUnder l.self.shapes.now l.component) (take l.reference-index l.references) l.clocks.items
