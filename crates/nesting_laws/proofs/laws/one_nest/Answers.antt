use Rattle.std.proofs.Common.{◌≡◌, ◌∙◌, sym}
use Rattle.nesting_laws.proofs.OneLemmas as one
use Rattle.nesting_laws.proofs.laws.one_nest.Goals as goal

pub returns-clause-said : goal.returns-clause-said
returns-clause-said c = λ s t a b p q.
    let tree : a.tree ≡ b.tree = c.one_tree.ensures t a.tree b.tree (s, p.sound) p.tree q.tree in
    let nested : a.nested ≡ b.nested = c.one_nested.ensures s t a.nested b.nested p.nested q.nested in
    let elements : a.elements ≡ b.elements = p.elements ∙ sym q.elements in
    λ i. record { tree = tree i; nested = nested i; elements = elements i }

pub returns-clause-next : goal.returns-clause-next
returns-clause-next c = one.one_next

pub returns-clause-top : goal.returns-clause-top
returns-clause-top c = one.one_top

pub returns-clause-added : goal.returns-clause-added
returns-clause-added c = one.one_added
