use Rattle.std.proofs.Common.{◌≡◌, ◌+◌, ◌++◌, ◌∙◌, List, ℕ, ap, length, arith}
use Rattle.std.proofs.lemmas.Grind.{common_steps}
use Rattle.sim_base.specs.Escape.{escaped}
use Rattle.trace_text.proofs.RoomLemmas.{length-escaped}
use Rattle.trace_text.proofs.holding.parts_length.Goals as goal

length-both : (part rest : List ℕ) → length (escaped (part ++ rest)) ≡ length (escaped part) + length (escaped rest)
length-both part rest = grind (arith, common_steps)

pub overflow_add-length : goal.overflow_add-length
overflow_add-length c =
    let so_far = c.loop-part.invariant.whole_is in
    let most = length-escaped c.args.name.now in
    let small = c.parts-parts.ensures.small in
    let next = ap (λ (xs : List ℕ). length (escaped xs)) c.in-Some.ensures.text ∙ length-both c.in-Some.part.now c.next.new.self.0 in
    let long = c.name_length-length.ensures.length in
    omega (arith, so_far, most, small, next, long)

pub returns-clause-short : goal.returns-clause-short
returns-clause-short c =
    let so_far = c.loop-part.invariant.whole_is in
    let most = length-escaped c.args.name.now in
    let small = c.parts-parts.ensures.small in
    omega (arith, so_far, most, small)
