use Rattle.std.proofs.Common.{◌≡◌, sym, ◌∙◌, subst, arith, length, replicate, false, List, Bool}
use Rattle.fmi_calls.proofs.MarkLemmas.{none-count}
use Rattle.fmi_calls.proofs.marks.Marks.clear.Goals as goal

pub returns-else-self-gt0 : goal.returns-else-self-gt0
returns-else-self-gt0 c =
    let none : c.self.inside.count ≡ 0 = omega arith in
    subst (λ (flags : List Bool). flags ≡ replicate (length flags) false) c.self.view_is (none-count c.self.inside.flags.items (sym c.self.invariant ∙ none))
