use Rattle.std.proofs.Common.{arith, ◌<◌, length}
use Rattle.trace_export.proofs.FieldLemmas.{AddsFields-next}
use Rattle.trace_export.proofs.table.append_fields.Goals as goal

pub fields-preserved : goal.fields-preserved
fields-preserved c =
    let there : c.fields.port < length c.args.values.now = omega (arith, c.fields-test.true, c.requires) in
    AddsFields-next c.args.forms.now c.args.values.now c.fields.port _ _ c.args.out.now.items c.fields.out.items
    c.append_after_comma.new.out.items c.fields-test.true there c.fields.invariant c.in_ok-append_after_comma.ensures
