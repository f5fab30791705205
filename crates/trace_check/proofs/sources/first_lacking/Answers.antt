use Rattle.std.proofs.Common.{arith, ◌≡◌, ◌∙◌, ap, sym, ℤ, Option, None, get_or, true, false}
use Rattle.std.specs.Prelude.{is_none, is_some, not}
use Rattle.system_model.specs.Values.{value}
use Rattle.system_model.proofs.CallerLemmas.{true_false}
use Rattle.trace_check.specs.Values.{DiffersFromSource}
use Rattle.trace_check.proofs.InputLemmas.{lack_all, lack_more}
use Rattle.trace_check.proofs.sources.first_lacking.Goals as goal
use Rattle.trace_check.proofs.sources.first_lacking.Goals.{else-is_none-via-then-is_none+else-differs, else-is_none-via-else-is_none}

pub loop-p-preserved : goal.loop-p-preserved
loop-p-preserved c =
    let values = c.args.values.now in
    let p = get_or c.args.ports.now c.loop-p.p-index 0 in
    let own : DiffersFromSource c.args.system.now values p → value values p ≡ None → ⊥ = elim c.else-is_none.branch [
      | else-is_none-via-then-is_none+else-differs w ↦ λ differs none. true_false (sym (w.differs.ensures.1 differs) ∙ w.if-differs.false)
      | else-is_none-via-else-is_none w ↦ λ differs none.
          let v : c.value.result ≡ None = c.value.ensures ∙ none in
          let some : is_some c.value.result ≡ false = ap (λ (o : Option ℤ). is_some o) v in
          let no : is_none c.value.result ≡ true = ap (λ (o : Option ℤ). is_none o) v in
          let said = c.is_none.ensures in
          let not_none = w.if-is_none.false in
          let opposite : not c.is_none.result ≡ true = ap not not_none in
          cc
    ] in
    lack_more c.args.system.now values c.args.ports.now c.loop-p.p-index (omega arith) c.loop-p.invariant own

pub returns-clause-none : goal.returns-clause-none
returns-clause-none c = lack_all c.args.system.now c.args.values.now c.args.ports.now c.loop-p.p-index c.loop-p.invariant (omega arith)
