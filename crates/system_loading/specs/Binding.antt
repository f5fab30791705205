-- The values that the bindings of an outline give to parameters, or the first rule that they break by what they reach (SSP 1.0: ParameterBinding).
use Rattle.std.specs.Prelude.{◌≡◌, ℕ, suc, ◌+◌, ◌*◌, Bool, true, false, List, [], ◌∷◌, Option, Some, None, map, option_and_then, slice_get}
use Rattle.std.specs.Option.{option_map}
use Rattle.value_types.specs.declared.shape.Shape.{Shape}
use Rattle.doc_grammar.specs.Nodes.{Node}
use Rattle.doc_tree.specs.Path.{path_to}
use Rattle.doc_tree.specs.declared.place.Place.{Place}
use Rattle.doc_tree.specs.declared.place.Place.TheVariants.{Element}
use Rattle.doc_tree.specs.declared.rule.ParameterRule.{ParameterRule}
use Rattle.doc_tree.specs.declared.rule.Rule.{Rule}
use Rattle.doc_tree.specs.declared.rule.Rule.TheVariants.{Parameters}
use Rattle.system_model.specs.declared.bound.Bound.{Bound}
use Rattle.parameter_binding.specs.declared.sets.BindingSets.{BindingSets}
use Rattle.parameter_binding.specs.Binds.{AreBound}
use Rattle.parameter_binding.specs.Given.{AreGiven}
use Rattle.parameter_binding.specs.Rules as rules
use Rattle.system_loading.specs.declared.binding.BindingFault.{BindingFault}
use Rattle.system_loading.specs.declared.binding.BindingFault.TheVariants.{Broken, Memory}
use Rattle.system_loading.specs.declared.outline.Outline.{Outline}
use Rattle.system_loading.specs.declared.parameters.Documents.{Documents}
use Rattle.system_loading.specs.declared.parameters.GivenBinding.{GivenBinding}
use Rattle.system_loading.specs.declared.parameters.GivenMapping.{GivenMapping}
use Rattle.system_loading.specs.Outlines.{place_within}

-- ---- sets

-- the sets of the bindings, from the n-th on; a set and a mapping have each a number of their own
abbrev pub sets_at : ℕ → GivenBinding → BindingSets
sets_at n g = record {
  values = record { file = 2 * n; set = g.values.set };
  mapping =
      option_map (λ (m : GivenMapping). record { file = 2 * n + 1; mapping = m.mapping }) g.mapping;
}

abbrev pub sets_from : ℕ → List GivenBinding → List BindingSets
sets_from n [] = []
sets_from n (g ∷ gs) = sets_at n g ∷ sets_from (suc n) gs

abbrev pub sets_of : List GivenBinding → List BindingSets
sets_of given = sets_from 0 given

-- what is asked of them
abbrev pub AreReady : Outline → List Shape → List GivenBinding → Type 0
AreReady o shapes given = AreGiven o.systems shapes (sets_of given)

-- the number of the file of a binding's set, or of its mapping
abbrev pub file_number : ℕ → Bool → ℕ
file_number n false = 2 * n
file_number n true = 2 * n + 1

-- ---- places

-- the documents of a binding's set and of its mapping, where these are files of their own
abbrev pub documents_of : GivenBinding → Documents
documents_of g = record {
  values = g.values.document;
  mapping = option_and_then (λ (m : GivenMapping). m.document) g.mapping;
}

abbrev pub own_document : Bool → Documents → Option (List Node)
own_document false d = d.values
own_document true d = d.mapping

abbrev pub own_document_at : List Documents → ℕ → Bool → Option (List Node)
own_document_at documents n in_mapping =
    option_and_then (own_document in_mapping) (slice_get documents n)

-- where an element is told that stands in this document, or in that of the binding
abbrev pub place_by : Outline → ℕ → Option (List Node) → ℕ → Place
place_by o n None node = place_within o n node
place_by o n (Some t) node = Element (path_to t node)

abbrev pub place_in_part : Outline → List Documents → ℕ → Bool → ℕ → Place
place_in_part o documents n in_mapping node =
    place_by o n (own_document_at documents n in_mapping) node

-- where a place of a set or of a mapping is told: in its own document, or in that of its binding
abbrev pub place_at : Outline → List GivenBinding → rules.Place → Place
place_at o given p = place_in_part o (map documents_of given) p.binding p.in_mapping p.node

-- ---- what they give, and which rule they break

pub record Binds (o : Outline) (shapes : List Shape) (given : List GivenBinding)
    (bound : Bound) : Type 0 where
  pub fits : rules.IsFitting o.systems shapes (sets_of given)
  pub gives : AreBound o.systems shapes (sets_of given) bound

-- the set of a binding, or its mapping, breaks this rule first, at this place
pub record BreaksBinding (o : Outline) (shapes : List Shape) (given : List GivenBinding)
    (binding : ℕ) (in_mapping : Bool) (rule : Rule) (place : Place) : Type 0 where
  pub at : rules.Place
  pub broken : ParameterRule
  pub first : rules.IsFirstParameterViolation o.systems shapes (sets_of given) at broken
  pub binding_is : binding ≡ at.binding
  pub mapping_is : in_mapping ≡ at.in_mapping
  pub rule_is : rule ≡ Parameters broken
  pub place_is : place ≡ place_at o given at

-- these values are given and no others, and no rule is broken
pub record BindsAlone (o : Outline) (shapes : List Shape) (given : List GivenBinding)
    (bound : Bound) : Type 0 where
  pub is : Binds o shapes given bound
  pub only : (other : Bound) → Binds o shapes given other → bound ≡ other
  pub none : (binding : ℕ) (in_mapping : Bool) (rule : Rule) (place : Place) →
      BreaksBinding o shapes given binding in_mapping rule place → ⊥

-- this rule is broken first, at this place and no other, and no values are given
pub record BreaksBindingAlone (o : Outline) (shapes : List Shape) (given : List GivenBinding)
    (binding : ℕ) (in_mapping : Bool) (rule : Rule) (place : Place) : Type 0 where
  pub broken : BreaksBinding o shapes given binding in_mapping rule place
  pub only : (other : ℕ) (mapped : Bool) (another : Rule) (at : Place) →
      BreaksBinding o shapes given other mapped another at →
      (binding ≡ other) × (in_mapping ≡ mapped) × (rule ≡ another) × (place ≡ at)
  pub none : (bound : Bound) → Binds o shapes given bound → ⊥

abbrev pub TellsBinding : Outline → List Shape → List GivenBinding → BindingFault → Type 0
TellsBinding o shapes given (Broken binding in_mapping rule place) =
    BreaksBindingAlone o shapes given binding in_mapping rule place
TellsBinding o shapes given Memory = Unit {0}

-- the fault tells this binding, rule and place, unless memory runs out
abbrev pub SaysBinding : ℕ → Bool → Rule → Place → BindingFault → Type 0
SaysBinding binding in_mapping rule place (Broken n m r p) =
    (n ≡ binding) × (m ≡ in_mapping) × (r ≡ rule) × (p ≡ place)
SaysBinding binding in_mapping rule place Memory = Unit {0}
