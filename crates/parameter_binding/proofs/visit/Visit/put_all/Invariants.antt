use Rattle.std.proofs.Common.{◌≡◌, ℕ, List, Option, take}
use Rattle.parameter_values.specs.declared.change.Change.{Change}
use Rattle.ssd_tree.specs.declared.tree.Binding.{Binding}
use Rattle.ssd_tree.specs.declared.tree.SystemTree.{SystemTree}
use Rattle.parameter_binding.specs.declared.sets.BindingSets.{BindingSets}
use Rattle.parameter_binding.specs.Binds.{IsLater}
use Rattle.parameter_binding.specs.Walk.{AreSeen, AreWinners, IsVisit, NoneBreaks, triple_of}
use Rattle.parameter_binding.proofs.WinnerLemmas.{AreWinnersAt}
use Rattle.parameter_binding.proofs.visit.Visit.put_all.Given as goal

abbrev pub invariant-loop-target : goal.invariant-loop-target
invariant-loop-target l = (t : SystemTree) (sets : List BindingSets) (binding : Binding) (name : List ℕ) (change : Option Change) (visit : IsVisit t sets l.self binding name change) → AreSeen t l.shapes binding name l.targets → NoneBreaks t l.shapes sets (λ c. c ≡ triple_of l.self)
    → AreWinners t l.shapes sets (IsLater (triple_of l.self)) l.fn.winners → AreWinnersAt t l.shapes sets binding name change l.self visit (take l.target-index l.targets) l.winners
