use Rattle.std.proofs.Common.{◌+◌, sym, ap, ◌∙◌, subst, arith}
use Rattle.flatten.proofs.MarkLemmas.{ListsBelow, lists_more, lists_past, lists_whole}
use Rattle.flatten.proofs.marks.marked_connectors.Goals as goal
use Rattle.flatten.proofs.marks.marked_connectors.Goals.{then-marks-number+in_ok-push, else-marks-number}

pub loop-number-preserved : goal.loop-number-preserved
loop-number-preserved c =
    let i = c.loop-number.number in
    let marks = c.args.marks.now in
    let was = c.loop-number.all.items in
    elim c.if-marks-number.branch [
      | then-marks-number+in_ok-push w ↦
          let pushed = ap (λ z. z.items) w.all-is ∙ w.in_ok-push.ensures.items in
          subst (ListsBelow marks (i + 1)) (sym pushed) (lists_more marks i was w.if-marks-number.true c.loop-number.invariant)
      | else-marks-number w ↦
          let same = ap (λ z. z.items) w.all-is in
          subst (ListsBelow marks (i + 1)) (sym same) (lists_past marks i was w.if-marks-number.false c.loop-number.invariant)
    ]

pub returns : goal.returns
returns c = lists_whole c.args.marks.now c.loop-number.number c.loop-number.all.items (omega arith) c.loop-number.invariant
