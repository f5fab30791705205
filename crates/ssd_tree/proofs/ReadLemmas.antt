-- What a refusal says, where one violation is the first.
use Rattle.std.proofs.Common.{ℕ, List, Err}
use Rattle.doc_grammar.specs.Nodes.{Node}
use Rattle.doc_tree.specs.Rules.{system_number}
use Rattle.doc_tree.specs.declared.refusal.Refusal.{Refusal}
use Rattle.doc_tree.specs.declared.refusal.Refusal.TheVariants.{At, Memory}
use Rattle.doc_tree.specs.declared.rule.SystemRule.{SystemRule}
use Rattle.doc_tree.specs.declared.rule.Rule.TheVariants.{System}
use Rattle.doc_tables.specs.Answers.{Gives, IsRefusal, Refuses}
use Rattle.doc_tables.proofs.CallerLemmas as w
use Rattle.ssd_tree.specs.declared.lists.DocumentParts.{DocumentParts}
use Rattle.ssd_tree.specs.declared.tree.Setting.{Setting}
use Rattle.ssd_tree.specs.declared.tree.SystemTree.{SystemTree}
use Rattle.ssd_tree.specs.Answers.{Faults}
use Rattle.ssd_tree.specs.Parts.{Describes}
use Rattle.ssd_tree.specs.Rules.{ViolatesStructure, IsFirstStructureViolation, IsSoundIn, alone}
use Rattle.ssd_tree.proofs.RuleLemmas.{rules_apart}

pub faults : (s : Setting) (t : List Node) (e : Refusal) (a : SystemRule) (j : ℕ) → IsRefusal e (System a) j → IsFirstStructureViolation s t j a → Faults s t e
faults s t e a j is first = w.faults (λ (rule : SystemRule). System rule) (IsFirstStructureViolation s t) e a j is first

pub exact_at : (s : Setting) (t : List Node) (e : Refusal) (a : SystemRule) (j : ℕ) → IsRefusal e (System a) j → IsFirstStructureViolation s t j a
    → (rule : SystemRule) (node : ℕ) → IsFirstStructureViolation s t node rule → Refuses {A = SystemTree} (Err e) (System rule) node
exact_at s t e a j is first rule node other =
    w.refuses_first SystemTree (λ (rule : SystemRule). System rule) system_number (ViolatesStructure s t) rules_apart e a j is first rule node other

pub none_described : (s : Setting) (t : List Node) (a : SystemRule) (j : ℕ) → IsFirstStructureViolation s t j a → IsSoundIn s t → ⊥
none_described s t a j first sound = sound a j first.is.broken

pub none_violated : (s : Setting) (t : List Node) → IsSoundIn s t → (rule : SystemRule) (node : ℕ) → IsFirstStructureViolation s t node rule → ⊥
none_violated s t sound rule node first = sound rule node first.is.broken

pub exact_in : (s : Setting) (t : List Node) (e : Refusal) (a : SystemRule) (j : ℕ) → IsRefusal e (System a) j → IsFirstStructureViolation s t j a
    → (rule : SystemRule) (node : ℕ) → IsFirstStructureViolation s t node rule → Refuses {A = DocumentParts} (Err e) (System rule) node
exact_in s t e a j is first rule node other =
    w.refuses_first DocumentParts (λ (rule : SystemRule). System rule) system_number (ViolatesStructure s t) rules_apart e a j is first rule node other

-- ---- the same refusal of a reader of another value

pub same_refusal : (t : List Node) (e : Refusal) → ((rule : SystemRule) (node : ℕ) → IsFirstStructureViolation alone t node rule → Refuses {A = DocumentParts} (Err e) (System rule) node)
    → (rule : SystemRule) (node : ℕ) → IsFirstStructureViolation alone t node rule → Refuses {A = SystemTree} (Err e) (System rule) node
same_refusal t (At file node rule ports) exact = exact
same_refusal t Memory exact = exact

pub none_given : (t : List Node) (e : Refusal) → Faults alone t e → (read : SystemTree) → IsSoundIn alone t → Describes t read → Gives (Err e) read
none_given t (At file node rule ports) faults read sound describes = absurd (sound faults.0 node faults.1.is.broken)
none_given t Memory faults read sound describes = tt
