use Rattle.std.proofs.Common.{◌≡◌, ◌<◌, ◌-◌, take, drop, length, arith}
use Rattle.std.proofs.lemmas.List.{length-drop, take_all}
use Rattle.link_frames.proofs.NumbersLemmas.{sane_at, from_next, from_more, from_bad}
use Rattle.link_frames.proofs.numbers.+take_from.Goals as goal

pub take_number-requires-clause-sane : goal.take_number-requires-clause-sane
take_number-requires-clause-sane t c =
    let lt : c.args.place < 7 = omega (arith, c.requires, c.if-place-eq7.false) in
    let len : length c.args.numbers ≡ 7 = omega arith in
    sane_at c.args.form c.args.place c.args.numbers c.size_at.result c.spans_at.result lt len c.size_at.ensures c.spans_at.ensures

pub returns-in-Got : goal.returns-in-Got
returns-in-Got t c =
    let a = c.args in
    let lt : a.place < 7 = omega (arith, c.requires, c.if-place-eq7.false) in
    let len : length a.numbers ≡ 7 = omega arith in
    let tail : take (length a.bytes.now - c.in-Got.length) (drop c.in-Got.length a.bytes.now) ≡ drop c.in-Got.length a.bytes.now = take_all _ _ (omega (arith, length-drop c.in-Got.length a.bytes.now)) in
    from_next a.form a.place a.numbers c.size_at.result c.spans_at.result a.bytes.now _ c.in-Got.value c.in-Got.length c.take_from-rest.result c.after.result lt len c.size_at.ensures c.spans_at.ensures c.in-Got.ensures tail c.take_from-rest.ensures c.after.ensures

pub returns-in-NeedMore : goal.returns-in-NeedMore
returns-in-NeedMore t c =
    let lt : c.args.place < 7 = omega (arith, c.requires, c.if-place-eq7.false) in
    let len : length c.args.numbers ≡ 7 = omega arith in
    from_more c.args.form c.args.place c.args.numbers c.size_at.result c.spans_at.result c.args.bytes.now lt len c.size_at.ensures c.spans_at.ensures c.in-NeedMore.ensures

pub returns-in-Bad : goal.returns-in-Bad
returns-in-Bad t c =
    let lt : c.args.place < 7 = omega (arith, c.requires, c.if-place-eq7.false) in
    let len : length c.args.numbers ≡ 7 = omega arith in
    from_bad c.args.form c.args.place c.args.numbers c.size_at.result c.spans_at.result c.args.bytes.now c.in-Bad.at lt len c.size_at.ensures c.spans_at.ensures c.in-Bad.ensures
