-- From the answers of flattening to what files say together.
use Rattle.std.proofs.Common.{◌≡◌, ◌⊎◌, inl, inr, ℕ, List, [], Err, sym, ◌∙◌, subst}
use Rattle.sim_base.specs.declared.numbers.PortId.{PortId}
use Rattle.value_types.specs.declared.shape.Shape.{Shape}
use Rattle.doc_tree.specs.declared.refusal.Refusal.{Refusal}
use Rattle.doc_tree.specs.declared.refusal.Refusal.TheVariants as r
use Rattle.doc_tree.specs.declared.rule.Rule.{Rule}
use Rattle.doc_tree.specs.declared.rule.Rule.TheVariants.{Loop}
use Rattle.doc_tables.specs.Answers.{Refuses}
use Rattle.system_model.specs.declared.system.System.{System}
use Rattle.flatten.specs.Answers.{Faults, GivesParts, TellsLoop}
use Rattle.flatten.specs.Flat.{Flattens}
use Rattle.flatten.specs.Rules.{IsFirstFlatteningViolation, IsFitting}
use Rattle.system_loading.specs.declared.outline.Outline.{Outline}
use Rattle.system_loading.specs.Assembly.{HasNoOrder, BreaksTogether, ByPart, ByLoop, HaveSameParts, MakesAlone, BreaksTogetherAlone}

module _ (o : Outline) (shapes : List Shape) where
  -- ---- what excludes what

  unfit : (node : ℕ) (rule : Rule) → IsFirstFlatteningViolation o.systems shapes node rule → IsFitting o.systems shapes → ⊥
  unfit node rule first fits = fits rule node first.is.broken

  -- ---- a violation

  part_breaks : (node : ℕ) (rule : Rule) (ports : List PortId) → IsFirstFlatteningViolation o.systems shapes node rule →
      ((other : Rule) (k : ℕ) → IsFirstFlatteningViolation o.systems shapes k other → (node ≡ k) × (rule ≡ other)) → ports ≡ [] → BreaksTogetherAlone o shapes rule node ports
  part_breaks node rule ports first exact none = record {
    broken = ByPart node rule ports first none;
    only = same;
    none = λ system m. unfit node rule first m.fits;
  }
    where
      same : (other : Rule) (at : ℕ) (l : List PortId) → BreaksTogether o shapes other at l → (rule ≡ other) × (node ≡ at)
      same m at l (ByPart k m2 l2 violated g) = let x = exact m k violated in (x.1, x.0)
      same m at l (ByLoop k m2 l2 none loop f) = absurd (unfit node rule first none.0)

  -- ---- a loop

  loop_breaks : (node : ℕ) (rule : Rule) (ports : List PortId) → HasNoOrder o shapes → TellsLoop o.systems shapes node ports → rule ≡ Loop → BreaksTogetherAlone o shapes rule node ports
  loop_breaks node rule ports none tells is = record {
    broken = ByLoop node rule ports none tells is;
    only = same;
    none = λ system m. none.1 system m.flattens;
  }
    where
      same : (other : Rule) (at : ℕ) (l : List PortId) → BreaksTogether o shapes other at l → (rule ≡ other) × (node ≡ at)
      same m at l (ByPart k m2 l2 violated g) = absurd (unfit k m violated none.0)
      same m at l (ByLoop k m2 l2 none2 tells2 f) = (is ∙ sym f, tells.at ∙ sym tells2.at)

  -- what flattening refuses, as a fault
  pub refusal_told : (refusal : Refusal) (file node : ℕ) (rule : Rule) (ports : List PortId) → refusal ≡ r.At file node rule ports →
      Faults o.systems shapes refusal → ((other : Rule) (k : ℕ) → IsFirstFlatteningViolation o.systems shapes k other → Refuses {A = System} (Err refusal) other k) →
      ((system : System) → IsFitting o.systems shapes → Flattens o.systems shapes system → GivesParts (Err refusal) system) → BreaksTogetherAlone o shapes rule node ports
  refusal_told (r.At file2 k n ports2) file node rule ports is broken exact only =
      subst (λ (m : Rule). BreaksTogetherAlone o shapes m node ports) same_rule
      (subst (λ (j : ℕ). BreaksTogetherAlone o shapes n j ports) same_node
      (subst (λ (l : List PortId). BreaksTogetherAlone o shapes n k l) same_ports (by broken.1)))
    where
      same_rule : n ≡ rule
      same_rule = cc

      same_node : k ≡ node
      same_node = cc

      same_ports : ports2 ≡ ports
      same_ports = cc

      by : ((ports2 ≡ []) × IsFirstFlatteningViolation o.systems shapes k n) ⊎ ((n ≡ Loop) × TellsLoop o.systems shapes k ports2) → BreaksTogetherAlone o shapes n k ports2
      by (inl first) = part_breaks k n ports2 first.1 (λ other j violated. let x = exact other j violated in (x.1, x.2)) first.0
      by (inr loop) = loop_breaks k n ports2 (loop.1.fitting, λ system flattens. only system loop.1.fitting flattens) loop.1 loop.0
  refusal_told r.Memory file node rule ports is broken exact only = absurd (cc)

  -- ---- the system

  pub makes_alone : (system : System) → IsFitting o.systems shapes → Flattens o.systems shapes system →
      ((other : System) → IsFitting o.systems shapes → Flattens o.systems shapes other → HaveSameParts system other) → MakesAlone o shapes system
  makes_alone system fits flattens only = record {
    is = record { fits = fits; flattens = flattens };
    only = λ other m. only other fits m.flattens;
    none = nothing;
  }
    where
      nothing : (rule : Rule) (node : ℕ) (ports : List PortId) → BreaksTogether o shapes rule node ports → ⊥
      nothing m at l (ByPart k m2 l2 violated g) = unfit k m violated fits
      nothing m at l (ByLoop k m2 l2 none tells f) = none.1 system flattens
