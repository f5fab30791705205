use Rattle.std.proofs.Common.{◌++◌, ◌∷◌, [], ap, ◌∙◌, rules, List, ℕ}
use Rattle.std.specs.Prelude.{Result}
use Rattle.sim_base.specs.declared.folder.ReadFault.{ReadFault}
use Rattle.sim_base.specs.declared.read_book.ReadNote.{ReadNote}
use Rattle.sim_base.proofs.ReadLemmas.{last_replaced}
use Rattle.sim_base.proofs.read_book.ReadBook.answer.Goals as goal

pub returns-clause-reads : goal.returns-clause-reads
returns-clause-reads c =
    last_replaced c.args.self.now.reads c.pop.new.self.items _ c.in-Some.last c.shared-result.result.0
    (search rules)
    (c.push_reserved.ensures.items ∙ ap (λ (read : ReadNote). c.pop.new.self.items ++ read ∷ [])
    (c.answered.ensures ∙ ap (λ (answer : Result (List ℕ) ReadFault). record c.in-Some.last { answer = answer }) c.shared-result.ensures.note))
