use Rattle.std.proofs.Common.{◌≡◌, ℕ, ◌+◌, ◌<◌, suc, Bool, true, false, List, [], drop, get_or, length, sym, ap, ◌∙◌, arith}
use Rattle.std.specs.Prelude.{if◌then◌else◌}
use Rattle.std.proofs.Math.Seq.{drop-cons}
use Rattle.std.proofs.lemmas.List.{length-drop, nil_from_length}
use Rattle.fmi_calls.specs.KindFacts.{same_kind}
use Rattle.fmi_calls.specs.Kinds.{kind_of_reply}
use Rattle.fmi_calls.specs.declared.call.Kind.TheVariants as K
use Rattle.fmi_calls.specs.declared.call.Reply.{Reply}
use Rattle.fmu_peer.specs.Many.{count_came}
use Rattle.fmu_peer.proofs.fmu.came.Goals as goal

came_from : (replies : List Reply) (i : ℕ) (d : Reply) (b : Bool) → i < length replies → b ≡ same_kind (kind_of_reply (get_or replies i d)) K.FreeInstance →
    count_came (drop i replies) ≡ (if b then 0 else suc (count_came (drop (suc i) replies)))
came_from replies i d b lt is =
    ap count_came (drop-cons replies i d lt) ∙ ap (λ (t : Bool). if t then 0 else suc (count_came (drop (suc i) replies))) (sym is)

pub returns-then-is_to_come : goal.returns-then-is_to_come
returns-then-is_to_come c =
    let i = c.loop-i.i in
    let here : count_came (drop i c.args.replies.now) ≡ 0 = came_from c.args.replies.now i _ true c.loop-i-test.true (sym c.if-is_to_come.true ∙ c.is_to_come.ensures) in
    omega (arith, c.loop-i.invariant, here)

pub loop-i-preserved : goal.loop-i-preserved
loop-i-preserved c =
    let i = c.loop-i.i in
    let next : suc i ≡ i + 1 = omega arith in
    let here : count_came (drop i c.args.replies.now) ≡ suc (count_came (drop (i + 1) c.args.replies.now)) =
    came_from c.args.replies.now i _ false c.loop-i-test.true (sym c.if-is_to_come.false ∙ c.is_to_come.ensures) ∙ ap (λ (n : ℕ). suc (count_came (drop n c.args.replies.now))) next in
    omega (arith, c.loop-i.invariant, here)

pub returns : goal.returns
returns c =
    let none : drop c.loop-i.i c.args.replies.now ≡ [] = nil_from_length (drop c.loop-i.i c.args.replies.now) (omega (arith, c.loop-i-test.false, length-drop c.loop-i.i c.args.replies.now)) in
    let here : count_came (drop c.loop-i.i c.args.replies.now) ≡ 0 = ap count_came none in
    omega (arith, c.loop-i.invariant, here, c.loop-i-test.false)
