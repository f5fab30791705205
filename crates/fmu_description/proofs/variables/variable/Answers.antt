use Rattle.std.proofs.Common.{sym, ◌∙◌}
use Rattle.fmu_description.proofs.SoundLemmas.{has_reference, reads_start}
use Rattle.fmu_description.proofs.KindLemmas.{is_kind}
use Rattle.fmu_description.proofs.variables.variable.Goals as goal

pub start_of-start-requires : goal.start_of-start-requires
start_of-start-requires c =
    reads_start c.args.tree.now c.args.node c.requires.sound c.requires.is c.kind_of-kind.result
    (λ ignored. c.kind_of-kind.ensures.ignored (c.requires.ignored.1 ignored))
    (λ own. c.kind_of-kind.ensures.own (λ is. own (c.requires.ignored.0 is)))

pub unwrap-reference-requires : goal.unwrap-reference-requires
unwrap-reference-requires c = rw c.reference_of.ensures (has_reference c.args.tree.now c.args.node c.requires.sound c.requires.is)

pub returns : goal.returns
returns c = record {
  name = c.in_ok-from_str.ensures ∙ c.text_of.ensures;
  aliases = c.in_ok-aliases_of.ensures;
  reference = sym c.reference_of.ensures ∙ c.unwrap-reference.ensures;
  kind =
      is_kind c.args.tree.now c.args.node c.args.is_ignored c.kind_of-kind.result c.start_of-start.result c.requires.ignored
      c.kind_of-kind.ensures.ignored c.kind_of-kind.ensures.own c.start_of-start.ensures;
  causality = c.causality_of.ensures;
  clocks = c.from_vec.ensures ∙ c.in_ok-references_of.ensures;
  again = c.is_kept_on.ensures;
}
