use Rattle.std.proofs.Common.{arith, ◌≡◌, ◌∙◌, ap, ℕ, Some, length, get_or, below_more, sym}
use Rattle.std.specs.List.{slice_get}
use Rattle.std.proofs.lemmas.Option.{slice_get-get_or}
use Rattle.trace_reading.specs.declared.trace.TraceLine.TheVariants.{At, Value}
use Rattle.trace_check.proofs.ValueLemmas.{cut_told, starts_at, starts_past}
use Rattle.trace_check.proofs.reading.value_lines.Goals as goal

pub returns-in-At-clause-told : goal.returns-in-At-clause-told
returns-in-At-clause-told c = λ ports values after begins.
    let own : get_or c.args.lines.now c.loop-k.k (At 0 0) ≡ At c.in-At.t c.in-At.n = cc in
    let at : slice_get c.args.lines.now c.loop-k.k ≡ Some (At c.in-At.t c.in-At.n) = slice_get-get_or c.args.lines.now c.loop-k.k (At 0 0) (omega arith) ∙ ap Some own in
    c.split_at.ensures.front ∙ (cut_told c.args.lines.now values after c.loop-k.k begins.parts begins.ends c.loop-k.invariant (starts_at c.args.lines.now c.loop-k.k c.in-At.t c.in-At.n at)).0

pub returns-in-At-clause-rest : goal.returns-in-At-clause-rest
returns-in-At-clause-rest c = λ ports values after begins.
    let own : get_or c.args.lines.now c.loop-k.k (At 0 0) ≡ At c.in-At.t c.in-At.n = cc in
    let at : slice_get c.args.lines.now c.loop-k.k ≡ Some (At c.in-At.t c.in-At.n) = slice_get-get_or c.args.lines.now c.loop-k.k (At 0 0) (omega arith) ∙ ap Some own in
    c.split_at.ensures.back ∙ (cut_told c.args.lines.now values after c.loop-k.k begins.parts begins.ends c.loop-k.invariant (starts_at c.args.lines.now c.loop-k.k c.in-At.t c.in-At.n at)).1

pub loop-k-preserved : goal.loop-k-preserved
loop-k-preserved c =
    let is_value : get_or c.args.lines.now c.loop-k.k (At 0 0) ≡ Value c.in_default.field-0 c.in_default.field-1 = cc in
    let own : slice_get c.args.lines.now c.loop-k.k ≡ Some (Value c.in_default.field-0 c.in_default.field-1) = slice_get-get_or c.args.lines.now c.loop-k.k (At 0 0) (omega arith) ∙ ap Some is_value in
    let P : ℕ → Type 0 = λ j. (t n : ℕ) → slice_get c.args.lines.now j ≡ Some (At t n) → ⊥ in
    λ j t n low. below_more P c.loop-k.k (λ i below u m is. c.loop-k.invariant i u m below is) (λ u m is. let e = sym own ∙ is in cc e) j low t n

pub returns-clause-told : goal.returns-clause-told
returns-clause-told c = λ ports values after begins.
    let lines = c.args.lines.now in
    c.split_at-2.ensures.front
    ∙ (cut_told lines values after (length lines) begins.parts begins.ends (λ j t n low is. c.loop-k.invariant j t n (omega (arith, low)) is) (starts_past lines (length lines) (omega arith))).0

pub returns-clause-rest : goal.returns-clause-rest
returns-clause-rest c = λ ports values after begins.
    let lines = c.args.lines.now in
    c.split_at-2.ensures.back
    ∙ (cut_told lines values after (length lines) begins.parts begins.ends (λ j t n low is. c.loop-k.invariant j t n (omega (arith, low)) is) (starts_past lines (length lines) (omega arith))).1
