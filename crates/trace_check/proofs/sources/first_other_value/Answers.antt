use Rattle.std.proofs.Common.{arith, ◌≡◌, ◌∙◌, ap, sym, subst, ℕ, Some, get_or}
use Rattle.std.specs.List.{slice_get}
use Rattle.std.proofs.lemmas.Option.{slice_get-get_or}
use Rattle.trace_reading.specs.declared.trace.TraceLine.TheVariants.{At, Value}
use Rattle.system_model.proofs.CallerLemmas.{true_false}
use Rattle.trace_check.specs.Values.{DiffersFromSource}
use Rattle.trace_check.proofs.SourceLemmas.{agree_more, first_line, no_line, other_line}
use Rattle.trace_check.proofs.sources.first_other_value.Goals as goal
use Rattle.trace_check.proofs.sources.first_other_value.Goals.{in-Value+else-differs, in_default}

pub returns-then-differs-clause-found : goal.returns-then-differs-clause-found
returns-then-differs-clause-found c =
    let own : get_or c.args.told.now c.loop-k.k (At 0 0) ≡ Value c.in-Value.port c.in-Value.value = cc in
    let at : slice_get c.args.told.now c.loop-k.k ≡ Some (Value c.in-Value.port c.in-Value.value) = slice_get-get_or c.args.told.now c.loop-k.k (At 0 0) (omega arith) ∙ ap Some own in
    other_line c.args.system.now c.args.values.now c.args.told.now c.loop-k.k c.in-Value.port c.in-Value.value c.requires.told at (c.differs.ensures.0 c.if-differs.true)

pub returns-then-differs-clause-first : goal.returns-then-differs-clause-first
returns-then-differs-clause-first c = first_line c.args.system.now c.args.values.now c.args.told.now c.loop-k.k c.requires.told c.loop-k.invariant

pub loop-k-preserved : goal.loop-k-preserved
loop-k-preserved c =
    elim c.match-line.branch [
      | in-Value+else-differs w ↦
          let own : get_or c.args.told.now c.loop-k.k (At 0 0) ≡ Value w.in-Value.port w.in-Value.value = cc in
          let at : slice_get c.args.told.now c.loop-k.k ≡ Some (Value w.in-Value.port w.in-Value.value) = slice_get-get_or c.args.told.now c.loop-k.k (At 0 0) (omega arith) ∙ ap Some own in
          agree_more c.args.system.now c.args.values.now c.args.told.now c.loop-k.k (Value w.in-Value.port w.in-Value.value) c.loop-k.invariant at (λ p v is differs.
          let same : p ≡ w.in-Value.port = cc is in
          true_false (sym (w.differs.ensures.1 (subst (λ (q : ℕ). DiffersFromSource c.args.system.now c.args.values.now q) same differs)) ∙ w.if-differs.false))
      | in_default w ↦
          let own : get_or c.args.told.now c.loop-k.k (At 0 0) ≡ At w.in_default.field-0 w.in_default.field-1 = cc in
          let at : slice_get c.args.told.now c.loop-k.k ≡ Some (At w.in_default.field-0 w.in_default.field-1) = slice_get-get_or c.args.told.now c.loop-k.k (At 0 0) (omega arith) ∙ ap Some own in
          agree_more c.args.system.now c.args.values.now c.args.told.now c.loop-k.k (At w.in_default.field-0 w.in_default.field-1) c.loop-k.invariant at (λ p v is differs. cc is)
    ]

pub returns-clause-none : goal.returns-clause-none
returns-clause-none c = no_line c.args.system.now c.args.values.now c.args.told.now c.loop-k.k c.requires.told c.loop-k.invariant (omega arith)
