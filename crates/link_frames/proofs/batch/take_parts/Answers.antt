use Rattle.std.proofs.Common.{◌≡◌, ℕ, ◌-◌, [], List, length, take, drop, sym, subst, arith}
use Rattle.std.proofs.lemmas.List.{length-drop, take_all}
use Rattle.link_frames.specs.declared.layout.Form.TheVariants.{OfBatch}
use Rattle.exact_parts.specs.declared.taken.Taken.{Taken}
use Rattle.link_frames.specs.Batch.{BatchParts, CountOf}
use Rattle.link_frames.specs.Numbers.{Reads}
use Rattle.exact_parts.specs.Taking.{Takes}
use Rattle.exact_parts.proofs.CallerLemmas.{first_bad, first_more, next_takes}
use Rattle.link_frames.proofs.BatchLemmas.{count_followed, count_in}
use Rattle.link_frames.proofs.NumbersLemmas.{reads_single}
use Rattle.link_frames.proofs.batch.take_parts.Goals as goal

pub take_counted-requires-clause-some : goal.take_counted-requires-clause-some
take_counted-requires-clause-some c = (count_in c.in-Got.value (take c.in-Got.length c.args.bytes.now) c.in-Got.ensures.spelled).some

pub take_counted-requires-clause-few : goal.take_counted-requires-clause-few
take_counted-requires-clause-few c = (count_in c.in-Got.value (take c.in-Got.length c.args.bytes.now) c.in-Got.ensures.spelled).few

pub returns-in-Got : goal.returns-in-Got
returns-in-Got c =
    let a = c.args in
    let n = c.in-Got.length in
    let tail : take (length a.bytes.now - n) (drop n a.bytes.now) ≡ drop n a.bytes.now = take_all _ _ (omega (arith, length-drop n a.bytes.now)) in
    let rest : Takes (CountOf a.side c.in-Got.value) (drop n a.bytes.now) c.take_counted.result = subst (λ (t : List ℕ). Takes (CountOf a.side c.in-Got.value) t c.take_counted.result) tail c.take_counted.ensures in
    subst (λ (t : Taken ℕ). Takes (BatchParts a.side) a.bytes.now t) (sym c.after.ensures)
    (next_takes (Reads OfBatch 7 []) (CountOf a.side) (reads_single OfBatch 7 []) a.bytes.now c.in-Got.value n c.take_counted.result c.in-Got.ensures rest)

pub returns-in-NeedMore : goal.returns-in-NeedMore
returns-in-NeedMore c = first_more (Reads OfBatch 7 []) (CountOf c.args.side) (count_followed c.args.side) c.args.bytes.now c.in-NeedMore.ensures

pub returns-in-Bad : goal.returns-in-Bad
returns-in-Bad c = first_bad (Reads OfBatch 7 []) (CountOf c.args.side) (reads_single OfBatch 7 []) (count_followed c.args.side) c.args.bytes.now c.in-Bad.at c.in-Bad.ensures
