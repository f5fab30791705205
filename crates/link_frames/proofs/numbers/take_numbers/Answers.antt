use Rattle.std.proofs.Common.{List, [], ℕ, take, subst, sym, arith}
use Rattle.std.proofs.lemmas.List.{length-take}
use Rattle.exact_parts.specs.Field.{AreBytes}
use Rattle.link_frames.specs.Numbers.{AreInSpans, Reads, numbers_in}
use Rattle.link_frames.proofs.AtOnceLemmas.{read_at_once}
use Rattle.exact_parts.proofs.CallerLemmas.{are_bytes, taken_bytes}
use Rattle.link_frames.proofs.numbers.take_numbers.Goals as goal

pub returns-then-are_in_spans : goal.returns-then-are_in_spans
returns-then-are_in_spans c =
    let a = c.args in
    let frame = take 24 a.bytes.now in
    let small : AreBytes a.bytes.now = are_bytes a.bytes.now (λ i. omega (arith, c.type_inv.bytes i)) in
    let good : AreInSpans a.form (numbers_in frame) = subst (λ (ns : List ℕ). AreInSpans a.form ns) c.numbers_in-numbers.ensures (c.are_in_spans.ensures c.if-are_in_spans.true) in
    record {
      within = c.if-bytes-ge24.true;
      spelled = subst (λ (ns : List ℕ). Reads a.form 7 [] ns frame) (sym c.numbers_in-numbers.ensures) (read_at_once a.form frame (omega (arith, c.if-bytes-ge24.true, length-take 24 a.bytes.now)) (taken_bytes 24 a.bytes.now small) good);
    }
