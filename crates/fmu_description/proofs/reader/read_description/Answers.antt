use Rattle.std.proofs.Common.{subst, ℕ, List}
use Rattle.doc_grammar.specs.Nodes.{Node}
use Rattle.fmu_description.specs.Description.{Describes}
use Rattle.fmu_description.proofs.reader.read_description.Goals as goal

pub returns-in-Ok-describe_indexed-clause-only : goal.returns-in-Ok-describe_indexed-clause-only
returns-in-Ok-describe_indexed-clause-only c =
    let own : Describes c.args.tree.now c.args.resolution c.in-Ok-describe_indexed.shape =
    subst (λ (t : List Node). Describes t c.args.resolution c.in-Ok-describe_indexed.shape) c.in-Ok.ensures.tree
    (subst (λ (n : ℕ). Describes c.in-Ok.indexed.tree.now n c.in-Ok-describe_indexed.shape) c.in-Ok.ensures.resolution c.in-Ok-describe_indexed.ensures) in
    λ shape sound describes. c.one_description.ensures c.args.tree.now c.args.resolution c.in-Ok-describe_indexed.shape shape sound own describes
