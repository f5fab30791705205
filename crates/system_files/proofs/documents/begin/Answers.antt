use Rattle.std.proofs.Common.{ℕ, List, [], ◌∷◌, ◌++◌, ap, ◌∙◌}
use Rattle.system_loading.specs.declared.documents.SystemDocument.{SystemDocument}
use Rattle.system_loading.specs.Documents.{said_of}
use Rattle.system_files.specs.Documents.{document_with}
use Rattle.system_files.proofs.documents.begin.Goals as goal

pub returns : goal.returns
returns c =
    let said = said_of c.args.read in
    let one : SystemDocument = document_with c.in_ok-path.path said in record {
      top = c.in_ok-nest.ensures;
      documents = c.push_reserved.ensures.items ∙ (ap (λ (ds : List SystemDocument). ds ++ one ∷ []) c.in_ok-documents.ensures.items
          ∙ ap (λ (path : List ℕ). document_with path said ∷ []) c.in_ok-path.ensures);
    }
