use Rattle.std.proofs.Common.{◌≡◌, ◌+◌, true, sym, ap, ◌∙◌, subst, arith}
use Rattle.fmu_description.specs.Elements.{is_variable}
use Rattle.fmu_description.specs.Marks.{IsSource}
use Rattle.fmu_description.proofs.FollowLemmas.{ListsAllBelow, all_yes, all_no}
use Rattle.fmu_description.proofs.TableLemmas.{is_variable_within}
use Rattle.fmu_description.proofs.ignored.sources.Goals as goal
use Rattle.fmu_description.proofs.ignored.sources.Goals.{then-is_variable+then-is_ignored_itself+in_ok-push, else-is_variable, else-is_variable-via-then-is_variable+else-is_ignored_itself, else-is_variable-via-else-is_variable}

pub loop-node-preserved : goal.loop-node-preserved
loop-node-preserved c =
    let t = c.args.tree.now in
    let n = c.loop-node.node in
    let all = c.loop-node.all.items in
    elim c.if-is_variable.branch [
      | then-is_variable+then-is_ignored_itself+in_ok-push w ↦
          let is : IsSource t n = (sym c.is_variable.ensures ∙ w.if-is_variable.true, w.is_ignored_itself.ensures.0 w.if-is_ignored_itself.true) in
          subst (ListsAllBelow (IsSource t) (n + 1)) (sym (ap (λ v. v.items) w.all-is ∙ w.in_ok-push.ensures.items)) (all_yes (IsSource t) n all c.loop-node.invariant is)
      | else-is_variable w ↦
          let same = ap (λ v. v.items) w.all-is in
          elim w.else-is_variable.branch [
            | else-is_variable-via-then-is_variable+else-is_ignored_itself w' ↦
                subst (ListsAllBelow (IsSource t) (n + 1)) (sym same) (all_no (IsSource t) n all c.loop-node.invariant (λ s. let is = w'.is_ignored_itself.ensures.1 s.1 in cc))
            | else-is_variable-via-else-is_variable w' ↦
                subst (ListsAllBelow (IsSource t) (n + 1)) (sym same) (all_no (IsSource t) n all c.loop-node.invariant (λ s. let is : is_variable t n ≡ true = s.0 in cc))
          ]
    ]

pub returns : goal.returns
returns c = λ k. (λ h. ((c.loop-node.invariant k).0 h).1, λ s. (c.loop-node.invariant k).1 (let within = is_variable_within c.args.tree.now k s.0 in omega arith, s))
