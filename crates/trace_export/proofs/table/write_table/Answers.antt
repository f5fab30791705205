use Rattle.std.proofs.Common.{◌++◌, ◌∙◌, List, ap, map, refl, option_map}
use Rattle.std.proofs.lemmas.Result.{on_ok_weaker}
use Rattle.trace_export.specs.declared.columns.Column.{Column}
use Rattle.trace_export.specs.Columns.{forms_in}
use Rattle.trace_export.proofs.RowLemmas.{passes}
use Rattle.trace_export.proofs.table.write_table.Goals as goal

pub returns-clause-rows : goal.returns-clause-rows
returns-clause-rows g c =
    on_ok_weaker c.write_rows.result
    (λ tells bytes before remaining is.
    let (header, grown) = c.in_ok-append_header.ensures.header in
    let content = (g.S.Sink.view c.args.out.now.sink).content in
    let told = c.deref-2.ensures.value ∙ (c.in_ok-forms.ensures ∙ (ap (λ (cs : List Column). map (λ (x : Column). x.form) cs) c.deref.ensures.value ∙ (c.in_ok-columns.ensures ∙ ap (forms_in c.args.reals.now) c.ports.ensures))) in
    let headed = passes content c.args.out.now.bytes.items header c.append_header.new.out.items header before (option_map (λ b. b ++ c.append_header.new.out.items) content) grown refl refl is in
    (header, tells (forms_in c.args.reals.now) bytes (before ++ header) told (c.in_ok-stream.ensures.stands bytes remaining) headed))
    c.write_rows.ensures.rows
