use Rattle.std.proofs.Common.{sym, ◌∙◌}
use Rattle.doc_tables.specs.Elements.{children, name_of}
use Rattle.doc_tables.specs.Documents.{is_transformation}
use Rattle.transformations.specs.Changes.{IsChange, IsMisread}
use Rattle.parameter_sets.proofs.ListLemmas.{found_kept}
use Rattle.transformations.proofs.CallerLemmas.{some_read}
use Rattle.parameter_sets.proofs.entries.transformation.Goals as goal

pub unwrap-change-requires : goal.unwrap-change-requires
unwrap-change-requires c =
    some_read (IsMisread c.args.tree.now c.in-Some.child) (IsChange c.args.tree.now c.in-Some.child) c.in_ok-read_transformation.field-0 c.in_ok-read_transformation.ensures
    (c.requires c.in-Some.child (found_kept (λ k. is_transformation (name_of c.args.tree.now k)) (children c.args.tree.now c.args.node) c.in-Some.child (sym c.first_transformation.ensures ∙ c.in-Some.is)))
