use Rattle.std.proofs.Common.{List, subst}
use Rattle.doc_tree.specs.declared.rule.NestingRule.TheVariants.{NoInnerConnector}
use Rattle.system_loading.specs.declared.documents.SystemDocument.{SystemDocument}
use Rattle.system_files.specs.Steps.{TellsNesting}
use Rattle.system_files.proofs.documents.finish.Goals as goal

pub returns-in-Ok-clause-ok : goal.returns-in-Ok-clause-ok
returns-in-Ok-clause-ok c =
    let whole = c.in-Ok.ensures.whole in record {
      none = whole.none;
      systems = whole.tree;
      numbers = whole.elements;
      documents = c.from_vec.ensures;
    }

pub returns-in-Err-clause-err : goal.returns-in-Err-clause-err
returns-in-Err-clause-err c = (
  c.in-Err.place,
  c.in-Err.ensures.lacking,
  subst (λ (documents : List SystemDocument). TellsNesting c.args.directory.now documents c.in-Err.place NoInnerConnector c.refuse_nesting.result) c.deref.ensures.value c.refuse_nesting.ensures,
)
