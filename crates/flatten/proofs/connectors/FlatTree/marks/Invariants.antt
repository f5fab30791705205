use Rattle.flatten.specs.Paths.{plain}
use Rattle.std.proofs.Common.{take}
use Rattle.std.specs.List.{AllZip}
use Rattle.flatten.specs.declared.marks.TheConstants.{CLASSES, INTEGER_TYPES}
use Rattle.flatten.specs.Marks.{AreClassMarks, AreTypeMarks}
use Rattle.flatten.proofs.connectors.FlatTree.marks.Given as goal

abbrev pub invariant-loop-class : goal.invariant-loop-class
invariant-loop-class l = AllZip (AreClassMarks l.self.tree.now l.self.shapes.now) (take l.class-index CLASSES) l.classes.items

abbrev pub invariant-loop-kind : goal.invariant-loop-kind
invariant-loop-kind l = AllZip (AreTypeMarks (plain l.self.tree.now) l.self.shapes.now) (take l.kind-index INTEGER_TYPES) l.types.items
