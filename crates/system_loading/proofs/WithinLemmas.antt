-- From the answers of the readers to what an element of one of the outline's documents has within it.
use Rattle.std.proofs.Common.{◌≡◌, ℕ, List, Option, None, Some, Err, refl, sym, ap, ◌∙◌, subst}
use Rattle.std.specs.Option.{IsSome, option_map}
use Rattle.std.proofs.lemmas.Option.{same_Some}
use Rattle.sim_base.specs.declared.numbers.PortId.{PortId}
use Rattle.doc_grammar.specs.Nodes.{Node}
use Rattle.doc_tree.specs.Path.{path_to}
use Rattle.doc_tree.specs.declared.refusal.Refusal.{Refusal}
use Rattle.doc_tree.specs.declared.refusal.Refusal.TheVariants as r
use Rattle.doc_tables.specs.Answers as ta
use Rattle.doc_tree.specs.declared.place.Place.{Place}
use Rattle.doc_tree.specs.declared.place.Place.TheVariants.{Element}
use Rattle.doc_tree.specs.declared.rule.ParameterRule.{ParameterRule}
use Rattle.doc_tree.specs.declared.rule.Rule.{Rule}
use Rattle.doc_tree.specs.declared.rule.Rule.TheVariants.{Parameters}
use Rattle.system_loading.specs.declared.fault.Fault.{Fault}
use Rattle.system_loading.specs.declared.fault.Fault.TheVariants as f
use Rattle.system_loading.specs.declared.outline.Outline.{Outline}
use Rattle.system_loading.specs.Faults.{SaysFault, TellsFirst}
use Rattle.system_loading.specs.Outlines.{element_in}
use Rattle.system_loading.specs.Readings.{BreaksAlone, BreaksWithin, SaysAlone, SaysWithin}

-- what something is made of is there
some_mapped : {A B : Type 0} (o : Option A) (f : A → B) → IsSome (option_map f o) → IsSome o
some_mapped None f h = h
some_mapped (Some x) f h = refl

pub some_below : {A B : Type 0} (o : Option A) (f : A → B) (made : Option B) → option_map f o ≡ made → IsSome made → IsSome o
some_below {A} {B} o f made is h = some_mapped o f (subst (λ (x : Option B). IsSome x) (sym is) h)

-- and what is made of it is known
pub made_of : {A B : Type 0} (o : Option A) (f : A → B) (x : A) (made : Option B) → option_map f o ≡ made → o ≡ Some x → made ≡ Some (f x)
made_of {A} {B} o f x made is at = sym is ∙ ap (λ (y : Option A). option_map f y) at

-- the element of this document has one thing within it, and breaks no rule
pub record SaysOneWithin {A : Type 0} (IsSound : List Node → Option ℕ → Type 0) (Describes : List Node → Option ℕ → A → Type 0) (IsFirst : List Node → Option ℕ → ℕ → ParameterRule → Type 0)
    (t : List Node) (at : ℕ) (said : A) : Type 0 where
  pub sound : IsSound t (Some at)
  pub describes : Describes t (Some at) said
  pub only : (other : A) → IsSound t (Some at) → Describes t (Some at) other → said ≡ other
  pub none : (k : ℕ) (broken : ParameterRule) → IsFirst t (Some at) k broken → ⊥

module _ (A : Type 0) (IsSound : List Node → Option ℕ → Type 0) (Describes : List Node → Option ℕ → A → Type 0) (IsFirst : List Node → Option ℕ → ℕ → ParameterRule → Type 0)
    (o : Outline) (holder : ℕ) (t : List Node) (at : ℕ) (is : element_in o holder ≡ Some (t, at)) where
  same_element : (other : List Node) (n : ℕ) → element_in o holder ≡ Some (other, n) → ◌≡◌ {A = List Node × ℕ} (other, n) (t, at)
  same_element other n e = same_Some {A = List Node × ℕ} (other, n) (t, at) (sym e ∙ is)

  sound_here : (other : List Node) (n : ℕ) → element_in o holder ≡ Some (other, n) → IsSound other (Some n) → IsSound t (Some at)
  sound_here other n e h = subst (λ (x : List Node × ℕ). IsSound x.0 (Some x.1)) (same_element other n e) h

  says_here : (other : List Node) (n : ℕ) (said : A) → element_in o holder ≡ Some (other, n) → Describes other (Some n) said → Describes t (Some at) said
  says_here other n said e h = subst (λ (x : List Node × ℕ). Describes x.0 (Some x.1) said) (same_element other n e) h

  first_here : (other : List Node) (n k : ℕ) (broken : ParameterRule) → element_in o holder ≡ Some (other, n) → IsFirst other (Some n) k broken → IsFirst t (Some at) k broken
  first_here other n k broken e h = subst (λ (x : List Node × ℕ). IsFirst x.0 (Some x.1) k broken) (same_element other n e) h

  pub within_alone : (said : A) → SaysOneWithin IsSound Describes IsFirst t at said → SaysAlone (SaysWithin IsSound Describes o holder) (BreaksWithin IsFirst o holder) said
  within_alone said s = record {
    is = record { document = t; node = at; is = is; sound = s.sound; describes = s.describes };
    only = λ other w. s.only other (sound_here w.document w.node w.is w.sound) (says_here w.document w.node other w.is w.describes);
    none = λ rule place b. s.none b.element b.broken (first_here b.document b.node b.element b.broken b.is b.first);
  }

  breaks_within : (k : ℕ) (broken : ParameterRule) (n : Rule) (place : Place) → IsFirst t (Some at) k broken →
      ((j : ℕ) (other : ParameterRule) → IsFirst t (Some at) j other → (k ≡ j) × (n ≡ Parameters other)) → ((said : A) → IsSound t (Some at) → Describes t (Some at) said → ⊥) →
      n ≡ Parameters broken → place ≡ Element (path_to t k) → BreaksAlone (SaysWithin IsSound Describes o holder) (BreaksWithin IsFirst o holder) n place
  breaks_within k broken n place first exact none rule_is place_is = record {
    broken = record { document = t; node = at; is = is; element = k; broken = broken; first = first; rule_is = rule_is; place_is = place_is };
    only = λ other elsewhere b.
        let same : t ≡ b.document = ap (λ (x : List Node × ℕ). x.0) (sym (same_element b.document b.node b.is)) in
        let x = exact b.element b.broken (first_here b.document b.node b.element b.broken b.is b.first) in
        (x.1 ∙ sym b.rule_is, place_is ∙ ap (λ (d : List Node). Element (path_to d k)) same ∙ ap (λ (i : ℕ). Element (path_to b.document i)) x.0 ∙ sym b.place_is);
    none = λ other w. none other (sound_here w.document w.node w.is w.sound) (says_here w.document w.node other w.is w.describes);
  }

  told : (rule : Rule) (place : Place) (fault : Fault) → ((n : Rule) (p : Place) → n ≡ rule → p ≡ place → BreaksAlone (SaysWithin IsSound Describes o holder) (BreaksWithin IsFirst o holder) n p) →
      SaysFault rule place fault → TellsFirst (SaysWithin IsSound Describes o holder) (BreaksWithin IsFirst o holder) fault
  told rule place (f.Broken n p) breaks says = breaks n p says.0 says.1
  told rule place f.Memory breaks says = tt

  -- what the reader answers, of a part of what is said, as a fault
  pub told_within : (B : Type 0) (part : A → B) (refusal : Refusal) (file node : ℕ) (rule : Rule) (ports : List PortId) (fault : Fault) →
      refusal ≡ r.At file node rule ports → ta.Faults (λ (p : ParameterRule). Parameters p) (IsFirst t (Some at)) refusal →
      ((other : ParameterRule) (k : ℕ) → IsFirst t (Some at) k other → ta.Refuses {A = B} (Err refusal) (Parameters other) k) →
      ((said : A) → IsSound t (Some at) → Describes t (Some at) said → ta.Gives {A = B} (Err refusal) (part said)) →
      SaysFault rule (Element (path_to t node)) fault → TellsFirst (SaysWithin IsSound Describes o holder) (BreaksWithin IsFirst o holder) fault
  told_within B part (r.At file2 k n ports2) file node rule ports fault is_at broken exact only says =
      let same_rule : n ≡ rule = cc in
      let same_node : k ≡ node = cc in
      told rule (Element (path_to t node)) fault
      (λ m place rule_is place_is. breaks_within k broken.0 m place broken.1
      (λ j other first. let x = exact other j first in (x.1, rule_is ∙ sym same_rule ∙ x.2)) only (rule_is ∙ sym same_rule ∙ broken.2.2)
      (place_is ∙ sym (ap (λ (i : ℕ). Element (path_to t i)) same_node)))
      says
  told_within B part r.Memory file node rule ports fault is_at broken exact only says = absurd (cc)
