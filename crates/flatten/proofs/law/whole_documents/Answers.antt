use Rattle.flatten.proofs.WholeLemmas.{whole_document}
use Rattle.flatten.proofs.law.whole_documents.Goals as goal

pub returns : goal.returns
returns c = whole_document
