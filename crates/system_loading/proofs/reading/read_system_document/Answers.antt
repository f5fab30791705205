use Rattle.std.proofs.Common.{◌≡◌, ℕ, List, Err, refl, sym}
use Rattle.doc_grammar.specs.Nodes.{Node}
use Rattle.doc_tree.specs.declared.refusal.Refusal.{Refusal}
use Rattle.doc_tree.specs.declared.refusal.Refusal.TheVariants as r
use Rattle.doc_tree.specs.declared.rule.SystemRule.{SystemRule}
use Rattle.doc_tree.specs.declared.rule.Rule.{Rule}
use Rattle.doc_tree.specs.declared.rule.Rule.TheVariants.{System}
use Rattle.doc_tables.specs.Answers.{Gives, Refuses}
use Rattle.ssd_tree.specs.Answers.{Faults}
use Rattle.ssd_tree.specs.Rules.{IsFirstStructureViolation, IsSoundIn}
use Rattle.ssd_tree.specs.declared.lists.DocumentParts.{DocumentParts}
use Rattle.ssd_tree.specs.declared.tree.Setting.{Setting}
use Rattle.nested_documents.specs.States.{Document, document_of}
use Rattle.nesting_laws.specs.Says.{Says}
use Rattle.system_loading.specs.Documents.{IsSaidBy, Said}
use Rattle.system_loading.proofs.ReadingLemmas.{HasTree, SaysOne, document_told, element_told, says_alone}
use Rattle.system_loading.proofs.reading.read_system_document.Goals as goal

abbrev rule_of : SystemRule → Rule
rule_of r = System r

-- what is said is a document and its elements
same_said : (document : Document) (nodes : List Node) (other : Said) → document ≡ other.document → nodes ≡ other.nodes → record { document = document; nodes = nodes } ≡ other
same_said document nodes other e f = rw (e, f)

-- a refusal is one of another value too
refuses_too : (e : Refusal) (rule : Rule) (node : ℕ) → Refuses {A = DocumentParts} (Err e) rule node → Refuses {A = Said} (Err e) rule node
refuses_too (r.At file at told ports) rule node h = h
refuses_too r.Memory rule node h = h

none_given : (s : Setting) (t : List Node) (e : Refusal) → Faults s t e → (said : Said) → IsSoundIn s t → Gives (Err e) said
none_given s t (r.At file node rule ports) faults said sound = absurd (sound faults.0 node faults.1.is.broken)
none_given s t r.Memory faults said sound = tt

pub returns-in-Err-clause-err : goal.returns-in-Err-clause-err
returns-in-Err-clause-err c =
    let s = c.args.setting in
    document_told Said SystemRule rule_of (IsSoundIn s) (IsSaidBy s) (IsFirstStructureViolation s) c.args.bytes.now c.in-Err.error c.document_fault.result
    c.in-Err.ensures.fault c.in-Err.ensures.only c.in-Err.ensures.exact c.document_fault.ensures

pub returns-in-Ok-read_document-clause-ok : goal.returns-in-Ok-read_document-clause-ok
returns-in-Ok-read_document-clause-ok c =
    let s = c.args.setting in
    let t = c.in-Ok.tree in
    let document = document_of c.in-Ok-read_document.parts in
    let tree : HasTree c.args.bytes.now t = record { denotes = c.in-Ok.ensures.found; only = c.in-Ok.ensures.only; none = c.in-Ok.ensures.exact } in
    let said : Said = record { document = document; nodes = t } in
    let says : Says s t document = record {
      sound = c.in-Ok-read_document.ensures.sound;
      tree = c.in-Ok-read_document.ensures.found;
      nested = c.in-Ok-read_document.ensures.nested;
      elements = c.in-Ok-read_document.ensures.elements;
    } in
    let one : SaysOne (IsSoundIn s) (IsSaidBy s) (IsFirstStructureViolation s) t said = record {
      sound = c.in-Ok-read_document.ensures.sound;
      describes = (refl, says);
      only = λ other sound is. same_said document t other (c.one_nest.ensures.said s t document other.document says is.1) (sym is.0);
      none = λ k rule first. c.in-Ok-read_document.ensures.sound rule k first.is.broken;
    } in
    says_alone Said SystemRule rule_of (IsSoundIn s) (IsSaidBy s) (IsFirstStructureViolation s) c.args.bytes.now t tree said one

pub returns-in-Err-At-clause-err : goal.returns-in-Err-At-clause-err
returns-in-Err-At-clause-err c =
    let s = c.args.setting in
    let t = c.in-Ok.tree in
    let tree : HasTree c.args.bytes.now t = record { denotes = c.in-Ok.ensures.found; only = c.in-Ok.ensures.only; none = c.in-Ok.ensures.exact } in
    element_told Said SystemRule rule_of (IsSoundIn s) (IsSaidBy s) (IsFirstStructureViolation s) c.args.bytes.now t tree Said (λ (said : Said). said)
    c.in-Err-At.field-0 c.in-Err-At.field-0-0 c.in-Err-At.node c.in-Err-At.rule c.in-Err-At.field-0-3 c.element_fault.result c.in-Err-At.field-0-is
    c.in-Err-At.ensures.fault (λ other k first. refuses_too c.in-Err-At.field-0 (System other) k (c.in-Err-At.ensures.exact other k first))
    (λ said sound is. none_given s t c.in-Err-At.field-0 c.in-Err-At.ensures.fault said sound) c.element_fault.ensures
