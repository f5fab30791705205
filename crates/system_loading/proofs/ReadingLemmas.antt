-- From the answers of the readers to what the bytes say.
use Rattle.std.proofs.Common.{◌≡◌, ℕ, List, Err, sym, ap, ◌∙◌, subst}
use Rattle.sim_base.specs.declared.numbers.PortId.{PortId}
use Rattle.doc_grammar.specs.declared.reasons.Rule as d
use Rattle.doc_grammar.specs.Faults.{IsFault}
use Rattle.doc_grammar.specs.Nodes.{Node, Denotes}
use Rattle.doc_events.specs.declared.error.DocError.{DocError}
use Rattle.doc_events.specs.declared.error.DocError.TheVariants as e
use Rattle.doc_events.specs.Answers as de
use Rattle.doc_tree.specs.Answers as dt
use Rattle.doc_tree.specs.Path.{path_to}
use Rattle.doc_tree.specs.declared.refusal.Refusal.{Refusal}
use Rattle.doc_tree.specs.declared.refusal.Refusal.TheVariants as r
use Rattle.doc_tables.specs.Answers as ta
use Rattle.doc_tree.specs.declared.place.Place.{Place}
use Rattle.doc_tree.specs.declared.place.Place.TheVariants.{Byte, Element}
use Rattle.doc_tree.specs.declared.rule.Rule.{Rule}
use Rattle.doc_tree.specs.declared.rule.Rule.TheVariants.{Document}
use Rattle.system_loading.specs.declared.fault.Fault.{Fault}
use Rattle.system_loading.specs.declared.fault.Fault.TheVariants as f
use Rattle.system_loading.specs.Faults.{IsDocumentFault, SaysFault, TellsFirst}
use Rattle.system_loading.specs.Readings.{SaysBy, BreaksBy, ByDocument, ByElement, SaysAlone, BreaksAlone}

-- the bytes have one tree, and are no fault
pub record HasTree (bytes : List ℕ) (t : List Node) : Type 0 where
  pub denotes : Denotes bytes t
  pub only : (nodes : List Node) → Denotes bytes nodes → t ≡ nodes
  pub none : (rule : d.Rule) (place : ℕ) → IsFault bytes rule place → ⊥

-- the tree says one thing, and has no violation
pub record SaysOne {A R : Type 0} (IsSound : List Node → Type 0) (Describes : List Node → A → Type 0) (IsFirst : List Node → ℕ → R → Type 0) (t : List Node) (said : A) : Type 0 where
  pub sound : IsSound t
  pub describes : Describes t said
  pub only : (other : A) → IsSound t → Describes t other → said ≡ other
  pub none : (k : ℕ) (broken : R) → IsFirst t k broken → ⊥

-- what a fault tells: what the bytes break, whose rule and place it says
told : (A : Type 0) (Says : A → Type 0) (Breaks : Rule → Place → Type 0) (rule : Rule) (place : Place) (fault : Fault) →
    ((n : Rule) (p : Place) → n ≡ rule → p ≡ place → BreaksAlone Says Breaks n p) → SaysFault rule place fault → TellsFirst Says Breaks fault
told A Says Breaks rule place (f.Broken n p) breaks says = breaks n p says.0 says.1
told A Says Breaks rule place f.Memory breaks says = tt

module _ (A R : Type 0) (rule_of : R → Rule) (IsSound : List Node → Type 0) (Describes : List Node → A → Type 0) (IsFirst : List Node → ℕ → R → Type 0) (bytes : List ℕ) where
  -- ---- no document

  document_breaks : (rule : d.Rule) (byte : ℕ) (n : Rule) (place : Place) → IsFault bytes rule byte →
      ((other : d.Rule) (at : ℕ) → IsFault bytes other at → (rule ≡ other) × (byte ≡ at)) → ((nodes : List Node) → Denotes bytes nodes → ⊥) →
      n ≡ Document rule → place ≡ Byte byte → BreaksAlone (SaysBy IsSound Describes bytes) (BreaksBy rule_of IsFirst bytes) n place
  document_breaks rule byte n place fault exact none is at = record {
    broken = ByDocument rule byte n place fault is at;
    only = same;
    none = λ other o. none o.document o.denotes;
  }
    where
      same : (other : Rule) (p : Place) → BreaksBy rule_of IsFirst bytes other p → (n ≡ other) × (place ≡ p)
      same m p (ByDocument rule2 byte2 n2 p2 fault2 e f) =
          let x = exact rule2 byte2 fault2 in
          (is ∙ ap (λ (r : d.Rule). Document r) x.0 ∙ sym e, at ∙ ap (λ (b : ℕ). Byte b) x.1 ∙ sym f)
      same m p (ByElement tree k broken n2 p2 denotes first e f) = absurd (none tree denotes)

  -- what read_tree answers, as a fault
  pub document_told : (error : DocError) (fault : Fault) → de.Faults error bytes →
      ((nodes : List Node) → Denotes bytes nodes → dt.Gives (Err error) nodes) → ((other : d.Rule) (at : ℕ) → IsFault bytes other at → dt.Refuses (Err error) other at) →
      IsDocumentFault error fault → TellsFirst (SaysBy IsSound Describes bytes) (BreaksBy rule_of IsFirst bytes) fault
  document_told (e.At why at) fault broken only exact says =
      told A (SaysBy IsSound Describes bytes) (BreaksBy rule_of IsFirst bytes) (Document why) (Byte at) fault
      (λ n place rule_is place_is. document_breaks why at n place broken exact only rule_is place_is) says
  document_told e.Memory fault broken only exact says = subst (TellsFirst (SaysBy IsSound Describes bytes) (BreaksBy rule_of IsFirst bytes)) (sym says) tt

  -- ---- a document

  module _ (t : List Node) (h : HasTree bytes t) where
    violation_in : (tree : List Node) (k : ℕ) (broken : R) → Denotes bytes tree → IsFirst tree k broken → IsFirst t k broken
    violation_in tree k broken denotes first = subst (λ (u : List Node). IsFirst u k broken) (sym (h.only tree denotes)) first

    says_here : (other : A) → SaysBy IsSound Describes bytes other → IsSound t × Describes t other
    says_here other s = (
      subst IsSound (sym (h.only s.document s.denotes)) s.sound,
      subst (λ (u : List Node). Describes u other) (sym (h.only s.document s.denotes)) s.describes,
    )

    -- it says one thing
    pub says_alone : (said : A) → SaysOne IsSound Describes IsFirst t said → SaysAlone (SaysBy IsSound Describes bytes) (BreaksBy rule_of IsFirst bytes) said
    says_alone said s = record {
      is = record { document = t; denotes = h.denotes; sound = s.sound; describes = s.describes };
      only = λ other o. s.only other (says_here other o).0 (says_here other o).1;
      none = nothing;
    }
      where
        nothing : (rule : Rule) (place : Place) → BreaksBy rule_of IsFirst bytes rule place → ⊥
        nothing n place (ByDocument rule byte n2 p2 fault e p) = h.none rule byte fault
        nothing n place (ByElement tree k broken n2 p2 denotes first e p) = s.none k broken (violation_in tree k broken denotes first)

    -- an element breaks a rule
    element_breaks : (k : ℕ) (broken : R) (n : Rule) (place : Place) → IsFirst t k broken →
        ((j : ℕ) (other : R) → IsFirst t j other → (k ≡ j) × (n ≡ rule_of other)) → ((said : A) → IsSound t → Describes t said → ⊥) →
        n ≡ rule_of broken → place ≡ Element (path_to t k) → BreaksAlone (SaysBy IsSound Describes bytes) (BreaksBy rule_of IsFirst bytes) n place
    element_breaks k broken n place first exact none is at = record {
      broken = ByElement t k broken n place h.denotes first is at;
      only = same;
      none = λ other o. none other (says_here other o).0 (says_here other o).1;
    }
      where
        same_path : (tree : List Node) (j : ℕ) → t ≡ tree → k ≡ j → Element (path_to t k) ≡ Element (path_to tree j)
        same_path tree j e f = ap (λ (u : List Node). Element (path_to u k)) e ∙ ap (λ (i : ℕ). Element (path_to tree i)) f

        same : (other : Rule) (p : Place) → BreaksBy rule_of IsFirst bytes other p → (n ≡ other) × (place ≡ p)
        same m p (ByDocument rule byte n2 p2 fault e f) = absurd (h.none rule byte fault)
        same m p (ByElement tree j other n2 p2 denotes violated e f) =
            let x = exact j other (violation_in tree j other denotes violated) in
            (x.1 ∙ sym e, at ∙ same_path tree j (h.only tree denotes) x.0 ∙ sym f)

    -- what the reader of a description answers, of a part of what is said, as a fault
    pub element_told : (B : Type 0) (part : A → B) (refusal : Refusal) (file node : ℕ) (rule : Rule) (ports : List PortId) (fault : Fault) →
        refusal ≡ r.At file node rule ports → ta.Faults rule_of (IsFirst t) refusal →
        ((other : R) (k : ℕ) → IsFirst t k other → ta.Refuses {A = B} (Err refusal) (rule_of other) k) →
        ((said : A) → IsSound t → Describes t said → ta.Gives {A = B} (Err refusal) (part said)) →
        SaysFault rule (Element (path_to t node)) fault → TellsFirst (SaysBy IsSound Describes bytes) (BreaksBy rule_of IsFirst bytes) fault
    element_told B part (r.At file2 k n ports2) file node rule ports fault is broken exact only says =
        let same_rule : n ≡ rule = cc in
        let same_node : k ≡ node = cc in
        told A (SaysBy IsSound Describes bytes) (BreaksBy rule_of IsFirst bytes) rule (Element (path_to t node)) fault
        (λ m place rule_is place_is. element_breaks k broken.0 m place broken.1
        (λ j other first. let x = exact other j first in (x.1, rule_is ∙ sym same_rule ∙ x.2)) only (rule_is ∙ sym same_rule ∙ broken.2.2)
        (place_is ∙ sym (ap (λ (i : ℕ). Element (path_to t i)) same_node)))
        says
    element_told B part r.Memory file node rule ports fault is broken exact only says = absurd (cc)
