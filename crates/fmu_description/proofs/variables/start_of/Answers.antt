use Rattle.std.proofs.Common.{◌≡◌, Some, codes}
use Rattle.doc_tables.specs.Elements.{attribute}
use Rattle.fmu_description.proofs.variables.start_of.Goals as goal

pub unreachable-requires : goal.unreachable-requires
unreachable-requires c =
    let kind_is : c.args.kind ≡ Some c.in_ok-kind.field-0 = c.in_ok-kind.was in
    let text_is : attribute c.args.tree.now c.args.node (codes "start") ≡ Some c.in_ok-attribute.field-0.now = cc c.in_ok-attribute.ensures in
    c.requires c.in_ok-kind.field-0 c.in_ok-attribute.field-0.now kind_is text_is
    (λ value reads. let found : c.read_value.result ≡ Some value = c.read_value.ensures.exact value reads in cc c.in-None.is)
