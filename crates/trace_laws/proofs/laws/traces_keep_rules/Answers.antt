use Rattle.std.proofs.Common.{◌≡◌, ℕ, List, sym, subst}
use Rattle.system_model.specs.Text.{trace_text}
use Rattle.trace_reading.specs.declared.trace.Trace.{Trace}
use Rattle.trace_reading.specs.Form.{IsTextOf}
use Rattle.trace_reading.specs.Written.{trace_told}
use Rattle.trace_check.specs.Rules.{KeepsRules}
use Rattle.trace_laws.proofs.Parts.{of_parts}
use Rattle.trace_laws.proofs.Pieces.{in_pieces}
use Rattle.trace_laws.proofs.Rules.{is_writable, keeps_rules}
use Rattle.trace_laws.proofs.laws.traces_keep_rules.Goals as goal

pub returns : goal.returns
returns c =
    let fitting = c.type_laws.ensures.instant in
    let texts = c.texts_of_traces.ensures in
    record {
      form = is_writable fitting;
      rules = keeps_rules fitting;
      same = of_parts;
      pieces = in_pieces;
      fault = λ r is kind end of bytes is_text n fault.
          let whole = texts.written r.system r.plan is kind end (is_writable fitting r is kind end of) in
          texts.none bytes n (trace_told r.system r.plan is kind end) fault (subst (λ (bs : List ℕ). IsTextOf bs (trace_told r.system r.plan is kind end)) (sym is_text) whole);
      read = λ r is kind end of bytes is_text t text other components ports.
          let whole = texts.written r.system r.plan is kind end (is_writable fitting r is kind end of) in
          let told : Trace = trace_told r.system r.plan is kind end in
          let same : told ≡ t = texts.one (trace_text r.system r.plan is kind end) told t whole (subst (λ (bs : List ℕ). IsTextOf bs t) is_text text) in
          of_parts r.system other t components ports (subst (KeepsRules r.system) same (keeps_rules fitting r is kind end of));
    }
