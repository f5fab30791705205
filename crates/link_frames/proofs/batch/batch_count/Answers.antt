use Rattle.std.proofs.Common.{◌≡◌, ℕ, length, take, sym, subst, arith}
use Rattle.link_frames.specs.Batch.{IsHeadOf}
use Rattle.link_frames.proofs.BatchHeads.{head_taken, no_head_taken}
use Rattle.link_frames.proofs.BatchLemmas.{count_in}
use Rattle.link_frames.proofs.batch.batch_count.Goals as goal

pub count_in-requires : goal.count_in-requires
count_in-requires c = (count_in c.in-Got.value (take c.in-Got.length c.args.head.now) c.in-Got.ensures.spelled).few

pub returns-in-Got-clause-some : goal.returns-in-Got-clause-some
returns-in-Got-clause-some c =
    let whole : length c.args.head.now ≡ 24 = omega arith in
    subst (λ (n : ℕ). IsHeadOf n c.args.head.now) (sym c.count_in.ensures) (head_taken c.args.head.now c.in-Got.value c.in-Got.length whole c.in-Got.ensures)

pub returns-in-NeedMore-clause-none : goal.returns-in-NeedMore-clause-none
returns-in-NeedMore-clause-none c =
    let whole : length c.args.head.now ≡ 24 = omega arith in
    no_head_taken c.args.head.now c.take_numbers.result whole c.take_numbers.ensures c.in-NeedMore.is
