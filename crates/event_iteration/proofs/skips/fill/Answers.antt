use Rattle.std.proofs.Common.{◌≡◌, ◌-◌, ◌+◌, ◌<◌, ◌≤◌, ℕ, List, ap, arith, get_or, length, length-set, subst, sym, ◌∙◌}
use Rattle.std.specs.Prelude.{false, slice_set}
use Rattle.std.proofs.lemmas.Option.{slice_get_within}
use Rattle.event_iteration.proofs.Skipping.{AreFirstFrom, IsFirst, all_written, kept, last, left, written}
use Rattle.event_iteration.proofs.skips.fill.Goals as goal
use Rattle.event_iteration.proofs.skips.fill.Goals.{then-keeps-k, else-keeps-k}

pub loop-i-init : goal.loop-i-init
loop-i-init c =
    let keeps = c.args.keeps.now in
    let n : length keeps - 0 ≡ length keeps = omega arith in
    record {
      long = c.requires;
      own = last keeps (length keeps - 0) n;
      rest = λ q x low is. absurd (let lt = slice_get_within c.args.next.now q x is in let long = c.requires in omega (arith, low, lt, long));
    }

pub loop-i-preserved : goal.loop-i-preserved
loop-i-preserved c =
    let keeps = c.args.keeps.now in
    let i = c.loop-i.i in
    let lt = c.loop-i-test.true in
    let k = length keeps - 1 - i in
    let up : k + 1 ≡ length keeps - i = omega (arith, lt) in
    let same : k ≡ length keeps - (i + 1) = omega (arith, lt) in
    let inv = c.loop-i.invariant in
    let own_up : IsFirst keeps (k + 1) c.loop-i.first = subst (λ (n : ℕ). IsFirst keeps n c.loop-i.first) (sym up) inv.own in
    let rest_up : AreFirstFrom keeps (k + 1) c.loop-i.next = subst (λ (n : ℕ). AreFirstFrom keeps n c.loop-i.next) (sym up) inv.rest in
    let own : IsFirst keeps k c.if-keeps-k.first = elim c.if-keeps-k.branch as (λ b. IsFirst keeps k c.if-keeps-k.first) [
      | then-keeps-k w ↦ subst (IsFirst keeps k) (sym w.first-is) (kept keeps k (omega (arith, lt)))
      | else-keeps-k w ↦ subst (IsFirst keeps k) (sym w.first-is) (left keeps k c.loop-i.first w.if-keeps-k.false own_up)
    ] in
    record {
      long = length-set c.loop-i.next k c.if-keeps-k.first ∙ inv.long;
      own = subst (λ (n : ℕ). IsFirst keeps n c.if-keeps-k.first) same own;
      rest = subst (λ (n : ℕ). AreFirstFrom keeps n (slice_set c.loop-i.next k c.if-keeps-k.first)) same (written keeps k c.if-keeps-k.first c.loop-i.next rest_up own);
    }

pub returns : goal.returns
returns c =
    let keeps = c.args.keeps.now in
    let past = c.loop-i-test.false in
    let none : length keeps - c.loop-i.i ≡ 0 = omega (arith, past) in
    all_written keeps c.loop-i.next c.loop-i.invariant.long (subst (λ (n : ℕ). AreFirstFrom keeps n c.loop-i.next) none c.loop-i.invariant.rest)
