use Rattle.std.proofs.Common.{ℕ, take, sym, subst, ◌∙◌}
use Rattle.std.specs.Prelude.{IsUtf8}
use Rattle.std.specs.Str.{valid_up_to}
use Rattle.link_frames.proofs.TextLemmas.{whole_prefix, taken_room, taken_error, taken_cut}
use Rattle.link_frames.proofs.text.take_text.Goals as goal

pub returns-then-not-has_room : goal.returns-then-not-has_room
returns-then-not-has_room c =
    taken_room c.args.size c.min.result c.valid_up_to-valid.result (valid_up_to c.in-Err.error) c.args.bytes.now c.min.ensures c.valid_up_to-valid.ensures c.in-Err.ensures.cases.1 (sym c.has_room.ensures ∙ c.if-not-has_room.true)

pub returns-then-bytes-size : goal.returns-then-bytes-size
returns-then-bytes-size c =
    whole_prefix c.args.size c.args.bytes.now c.if-bytes-size.true (subst (λ (n : ℕ). IsUtf8 (take n c.args.bytes.now)) c.min.ensures c.in-Ok.ensures.cases.1)

pub returns-in-Some : goal.returns-in-Some
returns-in-Some c =
    taken_error c.args.size c.min.result c.valid_up_to-valid.result (valid_up_to c.in-Err.error) c.in-Some.len c.args.bytes.now c.min.ensures c.valid_up_to-valid.ensures c.in-Err.ensures.cases.1 (sym c.has_room.ensures ∙ c.if-not-has_room.false)
    (sym c.in-Err.ensures.fault ∙ sym c.error_len.ensures ∙ c.in-Some.is)

pub returns-in-None : goal.returns-in-None
returns-in-None c =
    taken_cut c.args.size c.min.result c.valid_up_to-valid.result (valid_up_to c.in-Err.error) c.args.bytes.now c.min.ensures c.valid_up_to-valid.ensures c.in-Err.ensures.cases.1 (sym c.has_room.ensures ∙ c.if-not-has_room.false)
    (sym c.in-Err.ensures.fault ∙ sym c.error_len.ensures ∙ c.in-None.is)
