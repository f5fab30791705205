use Rattle.std.proofs.Common.{arith, ◌≡◌, sym, subst, ◌∙◌, ℕ, Option, Some}
use Rattle.trace_reading.specs.Form.{IsRange}
use Rattle.trace_reading.proofs.ListLemmas.{unsome}
use Rattle.trace_reading.proofs.reading.read_header_line.Goals as goal

same_range : (a b d r s e : ℕ) (o : Option (ℕ × ℕ × ℕ)) → o ≡ Some (a, b, d) → o ≡ Some (r, s, e) → IsRange r s e → IsRange a b d
same_range a b d r s e o first second range =
    let P : ℕ × ℕ × ℕ → Type 0 = λ t. IsRange t.0 t.1 t.2 in
    subst P (unsome (r, s, e) (a, b, d) (sym second ∙ first)) range

pub returns-in_err-resolution-clause-none : goal.returns-in_err-resolution-clause-none
returns-in_err-resolution-clause-none c = λ r s e range is.
    let read = c.read_header.ensures.exact r s e (omega (arith, range.within)) (omega (arith, range.order, range.end)) (omega (arith, range.end)) is in
    let none = c.in_err-resolution.was in
    absurd (cc (read, none))

pub returns-else-is_range-clause-none : goal.returns-else-is_range-clause-none
returns-else-is_range-clause-none c = λ r s e range is.
    let read = c.read_header.ensures.exact r s e (omega (arith, range.within)) (omega (arith, range.order, range.end)) (omega (arith, range.end)) is in
    let there = same_range c.in_ok-resolution.resolution c.in_ok-resolution.start c.in_ok-resolution.stop r s e c.read_header.result c.in_ok-resolution.was read range in
    let passes = c.is_range.ensures.1 there in
    let fails = c.if-is_range.false in
    absurd (cc (passes, fails))
