use Rattle.std.proofs.Common.{◌≡◌, ℕ, ◌≤◌, ◌+◌, take, drop, get_or, sym, subst, ◌∙◌, arith}
use Rattle.std.proofs.lemmas.List.{get_or_read}
use Rattle.doc_grammar.specs.Nodes.{local_name}
use Rattle.doc_tree.proofs.KeptLemmas.{colon_more, other_more}
use Rattle.doc_tree.proofs.element.local.Goals.{then-name-i-eq58, else-name-i-eq58}
use Rattle.doc_tree.proofs.element.local.Goals as goal

pub loop-i-preserved : goal.loop-i-preserved
loop-i-preserved c =
    let name = c.args.name.now in
    let i = c.loop-i.i in
    let from = c.loop-i.from in
    let is : c.index-name-i.result ≡ get_or name i 0 = get_or_read name i c.index-name-i.result c.loop-i-test.true c.index-name-i.is 0 in
    let P : ℕ → Type 0 = λ z. (z ≤ i + 1) × (local_name (take (i + 1) name) ≡ drop z (take (i + 1) name)) in
    elim c.if-name-i-eq58.branch [
      | then-name-i-eq58 w ↦ subst P (sym w.from-is) (omega arith, colon_more name i c.loop-i-test.true (sym is ∙ w.if-name-i-eq58.true))
      | else-name-i-eq58 w ↦
          subst P (sym w.from-is) (omega (arith, c.loop-i.invariant.0), other_more name i from c.loop-i-test.true (λ q. w.if-name-i-eq58.false (is ∙ q)) c.loop-i.invariant.0 c.loop-i.invariant.1)
    ]
