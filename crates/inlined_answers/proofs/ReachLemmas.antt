-- Which parameters a triple reaches, in trees and sets that are the same but for the numbers of elements.
use Rattle.std.proofs.Common.{◌≡◌, ◌∙◌, ℕ, ◌++◌, ◌∷◌, List, [], map, Option, Some, None, refl, sym, ap, subst, slice_get}
use Rattle.std.specs.Option.{option_map}
use Rattle.std.proofs.lemmas.Option.{none-some, same_Some}
use Rattle.value_types.specs.declared.shape.Shape.{Shape}
use Rattle.ssd_tree.specs.declared.tree.Binding.{Binding}
use Rattle.ssd_tree.specs.declared.tree.ComponentPart.{ComponentPart}
use Rattle.ssd_tree.specs.declared.tree.Owner.{Owner}
use Rattle.ssd_tree.specs.declared.tree.Owner.TheVariants.{System, Component}
use Rattle.ssd_tree.specs.declared.tree.SystemPart.{SystemPart}
use Rattle.ssd_tree.specs.declared.tree.SystemTree.{SystemTree}
use Rattle.ssd_tree.specs.Named.{Inner, IsScope, Outermost}
use Rattle.parameter_targets.specs.declared.target.Target.{Target}
use Rattle.parameter_targets.specs.Scopes.{AtTop, Below, Deeper, IsDepth, IsLevel, IsWithin, Same, Sees, SeesBelow, SeesName}
use Rattle.parameter_values.specs.declared.change.Change.{Change}
use Rattle.parameter_values.specs.declared.set.Mapping.{Mapping}
use Rattle.parameter_values.specs.declared.set.MappingEntry.{MappingEntry}
use Rattle.parameter_values.specs.declared.set.Parameter.{Parameter}
use Rattle.parameter_values.specs.declared.set.Transformation.{Transformation}
use Rattle.parameter_binding.specs.declared.sets.BindingSets.{BindingSets}
use Rattle.parameter_binding.specs.declared.sets.MappingOf.{MappingOf}
use Rattle.parameter_binding.specs.Binds.{Beats, HasLevel, IsCandidate, IsMapped, Triple, change_of, mapping_of, prefixed}
use Rattle.inlined_answers.specs.Alike.{plain_binding, plain_component, plain_entry, plain_mapping, plain_mapping_of, plain_parameter, plain_sets, plain_system, plain_transformation, without_numbers}
use Rattle.inlined_answers.proofs.ListLemmas.{there}

-- ---- what an entry says

changes_plain : (x : Option Transformation) → option_map (λ (y : Transformation). y.change) (option_map plain_transformation x) ≡ option_map (λ (y : Transformation). y.change) x
changes_plain None = refl
changes_plain (Some x) = refl

pub change_same : (a b : MappingEntry) → plain_entry a ≡ plain_entry b → change_of a ≡ change_of b
change_same a b e = sym (changes_plain a.transformation) ∙ (ap change_of e ∙ changes_plain b.transformation)

mappings_plain : (x : Option MappingOf) → option_map (λ (m : MappingOf). m.mapping) (option_map plain_mapping_of x) ≡ option_map plain_mapping (option_map (λ (m : MappingOf). m.mapping) x)
mappings_plain None = refl
mappings_plain (Some x) = refl

pub mapping_same : (a b : BindingSets) → plain_sets a ≡ plain_sets b → option_map plain_mapping (mapping_of a) ≡ option_map plain_mapping (mapping_of b)
mapping_same a b e = sym (mappings_plain a.mapping) ∙ (ap mapping_of e ∙ mappings_plain b.mapping)

pub entries_same : (a b : Mapping) → plain_mapping a ≡ plain_mapping b → map plain_entry a.entries ≡ map plain_entry b.entries
entries_same a b e = ap (λ (m : Mapping). m.entries) e

mapped_too : (one other : Option Mapping) → option_map plain_mapping one ≡ option_map plain_mapping other → (place : ℕ) (source name : List ℕ) (change : Option Change) → IsMapped one place source name change →
    IsMapped other place source name change
mapped_too None None e place source name change h = h
mapped_too None (Some b) e place source name change h = absurd (none-some (plain_mapping b) e)
mapped_too (Some a) None e place source name change h = absurd (none-some (plain_mapping a) (sym e))
mapped_too (Some a) (Some b) e place source name change h =
    let x = there plain_entry a.entries b.entries (entries_same a b (same_Some (plain_mapping a) (plain_mapping b) e)) place h.0 h.1 in (
      x.0,
      x.1,
      sym (ap (λ (y : MappingEntry). y.source) x.2) ∙ h.2,
      h.3 ∙ ap (λ (y : MappingEntry). y.target) x.2,
      h.4 ∙ change_same h.0 x.0 x.2,
    )

-- a candidate of the one is one of the other, with a binding and a parameter that say the same
pub record Likewise (t u : SystemTree) (sets others : List BindingSets) (c : Triple) (binding : Binding) (parameter : Parameter) (name : List ℕ) (change : Option Change)
    (is : IsCandidate t sets c binding parameter name change) : Type 0 where
  pub other_binding : Binding
  pub binding_same : plain_binding binding ≡ plain_binding other_binding
  pub other_parameter : Parameter
  pub parameter_same : plain_parameter parameter ≡ plain_parameter other_parameter
  pub other : IsCandidate u others c other_binding other_parameter name change
  pub sets_same : plain_sets is.given ≡ plain_sets other.given

module _ (t u : SystemTree) (same : without_numbers t ≡ without_numbers u) (shapes : List Shape) where
  system_there : (s : ℕ) (x : SystemPart) → slice_get t.systems s ≡ Some x → (y : SystemPart) × (slice_get u.systems s ≡ Some y) × (plain_system x ≡ plain_system y)
  system_there = there plain_system t.systems u.systems (ap (λ (x : SystemTree). x.systems) same)

  component_there : (i : ℕ) (x : ComponentPart) → slice_get t.components i ≡ Some x → (y : ComponentPart) × (slice_get u.components i ≡ Some y) × (plain_component x ≡ plain_component y)
  component_there = there plain_component t.components u.components (ap (λ (x : SystemTree). x.components) same)

  binding_there : (i : ℕ) (x : Binding) → slice_get t.bindings i ≡ Some x → (y : Binding) × (slice_get u.bindings i ≡ Some y) × (plain_binding x ≡ plain_binding y)
  binding_there = there plain_binding t.bindings u.bindings (ap (λ (x : SystemTree). x.bindings) same)

  parent_same : (x y : SystemPart) (parent : Option ℕ) → plain_system x ≡ plain_system y → x.parent ≡ parent → y.parent ≡ parent
  parent_same x y parent e is = sym (ap (λ (z : SystemPart). z.parent) e) ∙ is

  -- ---- Systems

  within_too : (outer s : ℕ) → IsWithin t outer s → IsWithin u outer s
  within_too outer s (Same _ e) = Same s e
  within_too outer s (Deeper _ above part at parent rest) =
      let y = system_there s part at in
      Deeper s above y.0 y.1 (parent_same part y.0 (Some above) y.2 parent) (within_too outer above rest)

  depth_too : (s n : ℕ) → IsDepth t s n → IsDepth u s n
  depth_too s n (AtTop _ _ part at parent e) = let y = system_there s part at in AtTop s n y.0 y.1 (parent_same part y.0 None y.2 parent) e
  depth_too s n (Below _ outer _ m part at parent rest e) =
      let y = system_there s part at in
      Below s outer n m y.0 y.1 (parent_same part y.0 (Some outer) y.2 parent) (depth_too outer m rest) e

  scope_too : (s : ℕ) (scope : List ℕ) → IsScope t s scope → IsScope u s scope
  scope_too s scope (Outermost _ part _ at parent e) = let y = system_there s part at in Outermost s y.0 scope y.1 (parent_same part y.0 None y.2 parent) e
  scope_too s scope (Inner _ outer part above _ at parent rest e) =
      let y = system_there s part at in
      Inner s outer y.0 above scope y.1 (parent_same part y.0 (Some outer) y.2 parent) (scope_too outer above rest)
      (e ∙ ap (λ (x : SystemPart). above ++ (x.name ++ 46 ∷ [])) y.2)

  level_too : (owner : Owner) (n : ℕ) → IsLevel t owner n → IsLevel u owner n
  level_too (System s) n h = depth_too s n h
  level_too (Component i) n h =
      let y = component_there i h.0 h.1 in
      let deep = h.2 in
      (y.0, y.1, (deep.0, depth_too y.0.system deep.0 (subst (λ (s : ℕ). IsDepth t s deep.0) (ap (λ (x : ComponentPart). x.system) y.2) deep.1), deep.2))

  has_level : (b n : ℕ) → HasLevel t b n → HasLevel u b n
  has_level b n h =
      let y = binding_there b h.0 h.1 in
      (y.0, y.1, level_too y.0.owner n (subst (λ (o : Owner). IsLevel t o n) (ap (λ (x : Binding). x.owner) y.2) h.2))

  pub beats_too : (c d : Triple) → Beats t c d → Beats u c d
  beats_too c d h = record {
    own = h.own;
    other = h.other;
    own_is = has_level c.binding h.own h.own_is;
    other_is = has_level d.binding h.other h.other_is;
    higher = h.higher;
  }

  -- ---- names

  sees_below : (s component : ℕ) (own name : List ℕ) → SeesBelow t s component own name → SeesBelow u s component own name
  sees_below s component own name h =
      let y = component_there component h.part h.is in record {
        part = y.0;
        is = y.1;
        within = within_too s y.0.system (subst (λ (x : ℕ). IsWithin t s x) (ap (λ (x : ComponentPart). x.system) y.2) h.within);
        scope = h.scope;
        scope_is = scope_too s h.scope h.scope_is;
        full = h.full ∙ ap (λ (x : ComponentPart). x.name ++ 46 ∷ own) y.2;
      }

  pub sees_name : (owner : Owner) (component : ℕ) (own name : List ℕ) → SeesName t owner component own name → SeesName u owner component own name
  sees_name (Component i) component own name h = h
  sees_name (System s) component own name h = sees_below s component own name h

  abbrev pub sees_too : (owner : Owner) (name : List ℕ) (target : Target) → Sees t shapes owner name target → Sees u shapes owner name target
  sees_too owner name target h = record {
    variable = h.variable;
    is = h.is;
    own = h.own;
    called = h.called;
    seen = sees_name owner target.component h.own name h.seen;
  }

  -- ---- triples

  module _ (sets others : List BindingSets) (gives : map plain_sets sets ≡ map plain_sets others) where
    pub candidate_too : (c : Triple) (binding : Binding) (parameter : Parameter) (name : List ℕ) (change : Option Change) (is : IsCandidate t sets c binding parameter name change) →
        Likewise t u sets others c binding parameter name change is
    candidate_too c binding parameter name change x =
        let b = binding_there c.binding binding x.is in
        let g = there plain_sets sets others gives c.binding x.given x.has in
        let parameters_same : map plain_parameter x.given.values.set.parameters ≡ map plain_parameter g.0.values.set.parameters = ap (λ (y : BindingSets). y.values.set.parameters) g.2 in
        let p = there plain_parameter x.given.values.set.parameters g.0.values.set.parameters parameters_same c.parameter parameter x.at in
        let prefixed_same : prefixed binding parameter ≡ prefixed b.0 p.0 =
        ap (λ (y : Binding). y.prefix ++ parameter.name) b.2 ∙ ap (λ (y : Parameter). b.0.prefix ++ y.name) p.2 in
        record {
          other_binding = b.0;
          binding_same = b.2;
          other_parameter = p.0;
          parameter_same = p.2;
          other = record {
            is = b.1;
            given = g.0;
            has = g.1;
            at = p.1;
            mapped = subst (λ (source : List ℕ). IsMapped (mapping_of g.0) c.entry source name change) prefixed_same
                (mapped_too (mapping_of x.given) (mapping_of g.0) (mapping_same x.given g.0 g.2) c.entry (prefixed binding parameter) name change x.mapped);
          };
          sets_same = g.2;
        }
