use Rattle.std.proofs.Common.{◌≡◌, ◌++◌, get_or, string_bytes, ◌∙◌, sym, ap}
use Rattle.std.proofs.lemmas.List.{get_or_read}
use Rattle.std.specs.Char.{encode_utf8}
use Rattle.doc_events.proofs.Names.{chars_more}
use Rattle.doc_events.proofs.attributes.text_of.Goals as goal

pub loop-c-preserved : goal.loop-c-preserved
loop-c-preserved c =
    let e = chars_more c.args.chars.now c.loop-c.c-index (string_bytes c.loop-c.text) c.loop-c-test.true c.loop-c.invariant in
    let it : c.c-item.result ≡ get_or c.args.chars.now c.loop-c.c-index 0 = get_or_read c.args.chars.now c.loop-c.c-index c.c-item.result c.loop-c-test.true c.c-item.is 0 in
    c.in_ok-push.ensures.bytes ∙ ap (λ z. string_bytes c.loop-c.text ++ encode_utf8 z) it ∙ sym e
