use Rattle.std.proofs.Common.{ℕ, List, Option, take}
use Rattle.parameter_values.specs.declared.change.Change.{Change}
use Rattle.ssd_tree.specs.declared.tree.Binding.{Binding}
use Rattle.ssd_tree.specs.declared.tree.SystemTree.{SystemTree}
use Rattle.parameter_binding.specs.declared.sets.BindingSets.{BindingSets}
use Rattle.parameter_binding.specs.Walk.{AreSeen, IsVisit, triple_of}
use Rattle.parameter_binding.proofs.VisitLemmas.{AreJudged}
use Rattle.parameter_binding.proofs.visit.Visit.fault.Given as goal

abbrev pub invariant-loop-target : goal.invariant-loop-target
invariant-loop-target l = (t : SystemTree) (sets : List BindingSets) (binding : Binding) (name : List ℕ) (change : Option Change) → IsVisit t sets l.self binding name change → AreSeen t l.shapes binding name l.targets → AreJudged t l.shapes sets (triple_of l.self) (take l.target-index l.targets) l.fault
