use Rattle.std.proofs.Common.{ℕ, List}
use Rattle.doc_grammar.specs.Nodes.{Node}
use Rattle.system_loading.specs.Outlines.{element_in}
use Rattle.system_loading.proofs.WithinLemmas.{made_of, some_below}
use Rattle.system_loading.proofs.reading.mapping_within.Goals as goal

pub unwrap-element-requires : goal.unwrap-element-requires
unwrap-element-requires c =
    some_below {B = List Node × ℕ} c.element.result (λ e. (e.0.now, e.1)) (element_in c.args.outline.now c.args.holder) c.element.ensures c.requires

pub returns-clause-ok : goal.returns-clause-ok
returns-clause-ok c =
    c.mapping_in.ensures.ok c.args.outline.now c.args.holder
    (made_of {B = List Node × ℕ} c.element.result (λ e. (e.0.now, e.1)) c.unwrap-element.result (element_in c.args.outline.now c.args.holder) c.element.ensures
    c.unwrap-element.ensures)

pub returns-clause-err : goal.returns-clause-err
returns-clause-err c =
    c.mapping_in.ensures.err c.args.outline.now c.args.holder
    (made_of {B = List Node × ℕ} c.element.result (λ e. (e.0.now, e.1)) c.unwrap-element.result (element_in c.args.outline.now c.args.holder) c.element.ensures
    c.unwrap-element.ensures)
