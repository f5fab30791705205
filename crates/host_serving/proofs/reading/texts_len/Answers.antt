use Rattle.std.proofs.Common.{arith, rules, ◌≡◌, length}
use Rattle.host_serving.proofs.HeadLemmas.{tells_texts}
use Rattle.host_serving.proofs.reading.texts_len.Goals as goal

pub returns : goal.returns
returns c = λ value more some is.
    let long : length c.args.head.now ≡ 24 = search rules in
    let told = tells_texts value c.args.head.now more long some is in
    omega (arith, told.name_is, told.token_is, told.more_is, told.small, c.number_at-name.ensures, c.number_at-token.ensures, c.saturating_add.ensures)
