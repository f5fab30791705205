use Rattle.std.proofs.Common.{◌≡◌, ◌∙◌, sym, true, true≢false}
use Rattle.std.proofs.lemmas.Result.{IfErr-weaker, IfOk-weaker}
use Rattle.clap.specs.Words.{app_of}
use Rattle.command_line.specs.Form.{has_form}
use Rattle.command_line.specs.Line.{texts}
use Rattle.command_line.proofs.Tables.{line_from, line_taken}
use Rattle.command_line.proofs.lines.read_line.Goals as goal

pub returns-then-not-has_line_form-clause-none : goal.returns-then-not-has_line_form-clause-none
returns-then-not-has_line_form-clause-none c = λ rows table _ name get line.
    true≢false (sym (line_taken (app_of c.args.command) rows table _ name get line).form ∙ sym c.has_line_form.ensures ∙ c.if-not-has_line_form.true)

pub returns-clause-ok : goal.returns-clause-ok
returns-clause-ok c = λ rows table.
    let form : has_form (texts c.args.words.now) ≡ true = sym c.has_line_form.ensures ∙ c.if-not-has_line_form.false in
    IfOk-weaker c.parse.result _ _ (λ m h.
    let g = line_from (app_of c.args.command) rows table _ form h.0 in
    record { name = g.name; values = g.rows; sub = h.1 ∙ g.sub; line = g.line }) c.parse.ensures.ok

pub returns-clause-none : goal.returns-clause-none
returns-clause-none c = λ rows table.
    IfErr-weaker c.parse.result _ _ (λ e h is name get line. h is (line_taken (app_of c.args.command) rows table _ name get line).none) c.parse.ensures.none
