-- What elements see by the tables of a walk, and the visits of its loops.
use Rattle.std.proofs.Common.{◌≡◌, ◌↔◌, ℕ, Bool, true, false, List, ◌++◌, Option, Some, None, IsSomeAnd, refl, sym, ap, ◌∙◌, subst}
use Rattle.std.specs.List.{slice_get, Contains}
use Rattle.std.specs.Option.{option_map, option_map_or}
use Rattle.std.proofs.lemmas.List.Elements.{All-contains}
use Rattle.std.proofs.lemmas.Option.{same_Some}
use Rattle.value_types.specs.declared.shape.Shape.{Shape}
use Rattle.value_types.specs.declared.shape.Variable.{Variable}
use Rattle.parameter_values.specs.declared.change.Change.{Change}
use Rattle.parameter_values.specs.declared.set.MappingEntry.{MappingEntry}
use Rattle.parameter_values.specs.declared.set.Parameter.{Parameter}
use Rattle.parameter_values.specs.declared.set.Transformation.{Transformation}
use Rattle.parameter_values.specs.Ranges.{AreInRange, IsInRange}
use Rattle.parameter_values.specs.Ready.{IsReady}
use Rattle.ssd_tree.specs.declared.tree.Binding.{Binding}
use Rattle.ssd_tree.specs.declared.tree.SystemTree.{SystemTree}
use Rattle.parameter_targets.specs.declared.target.Target.{Target}
use Rattle.ssd_tree.specs.Named.{IsOwner}
use Rattle.parameter_targets.specs.Scopes.{IsTarget, Sees}
use Rattle.parameter_targets.proofs.CallerLemmas.{contains_at}
use Rattle.parameter_binding.specs.declared.sets.BindingSets.{BindingSets}
use Rattle.parameter_binding.specs.declared.sets.MappingOf.{MappingOf}
use Rattle.parameter_binding.specs.declared.visit.Visit.{Visit}
use Rattle.parameter_binding.specs.declared.walk.Walk.{Walk}
use Rattle.parameter_binding.specs.Answers.{IsToldIn, file_in}
use Rattle.parameter_binding.specs.Binds.{IsMapped, change_of, mapping_of, prefixed}
use Rattle.parameter_binding.specs.Walk.{AreSeen, IsBindingAt, IsTransformation, IsVisit, IsWalk, triple_of}

pub seen_by : (w : Walk) (binding : Binding) (name : List ℕ) (targets some : List Target) → IsWalk w → some ≡ targets → ((target : Target) → Contains targets target ↔ Sees w.targets.tree.now w.targets.shapes.now binding.owner name target) → AreSeen w.tree.now w.shapes.now binding name some
seen_by w binding name targets some walk same seen target =
    let is : Contains targets target ↔ Sees w.tree.now w.shapes.now binding.owner name target =
    subst (λ (t : SystemTree). Contains targets target ↔ Sees t w.shapes.now binding.owner name target) walk.tree_is (subst (λ (s : List Shape). Contains targets target ↔ Sees w.targets.tree.now s binding.owner name target) walk.shapes_is (seen target)) in
    (λ c. is.0 (subst (λ (z : List Target). Contains z target) same c), λ s. subst (λ (z : List Target). Contains z target) (sym same) (is.1 s))

pub target_by : (w : Walk) (binding : Binding) (name : List ℕ) (some : List Target) → AreSeen w.tree.now w.shapes.now binding name some → (target : Target) → Contains some target → (v : Variable) × IsTarget w.shapes.now target v
target_by w binding name some seen target c = let s = (seen target).0 c in (s.variable, s.is)

-- ---- what holds of a binding at its place

told_at : (sets : List BindingSets) (b n file : ℕ) (in_mapping : Bool) (given : BindingSets) → slice_get sets b ≡ Some given → file_in in_mapping given ≡ Some file → IsToldIn sets (record { binding = b; in_mapping = in_mapping; node = n }) file
told_at sets b n file in_mapping given has is = subst (λ o. IsSomeAnd o (λ (z : BindingSets). file_in in_mapping z ≡ Some file)) (sym has) is

pub owner_at : (w : Walk) (b : ℕ) (binding : Binding) → IsWalk w → slice_get w.tree.now.bindings b ≡ Some binding → IsOwner w.tree.now binding.owner
owner_at w b binding walk is = All-contains (λ (z : Binding). IsOwner w.tree.now z.owner) w.tree.now.bindings binding walk.given.tree.owners (contains_at w.tree.now.bindings b binding is)

pub range_at : (w : Walk) (b p : ℕ) (given : BindingSets) (parameter : Parameter) → IsWalk w → slice_get w.sets.now b ≡ Some given → slice_get given.values.set.parameters p ≡ Some parameter → IsInRange parameter.value
range_at w b p given parameter walk has at =
    All-contains (λ (z : Parameter). IsInRange z.value) given.values.set.parameters parameter
    (All-contains (λ (z : BindingSets). AreInRange z.values.set) w.sets.now given walk.given.ranges (contains_at w.sets.now b given has)) (contains_at given.values.set.parameters p parameter at)

module _ (w : Walk) (v : Visit) (binding : Binding) (given : BindingSets) (name : List ℕ) (walk : IsWalk w) (at : IsBindingAt w v.binding binding given v.level) (parameter_at : slice_get given.values.set.parameters v.place ≡ Some v.parameter.now) (file : v.set_file ≡ given.values.file) where
  range : IsInRange v.parameter.now.value
  range = range_at w v.binding v.place given v.parameter.now walk at.has parameter_at

  told : (n : ℕ) → IsToldIn w.sets.now (record { binding = v.binding; in_mapping = false; node = n }) v.set_file
  told n = told_at w.sets.now v.binding n v.set_file false given at.has (ap Some (sym file))

  pub visit_plain : given.mapping ≡ None → v.entry ≡ 0 → IsReady None v.ready.now → name ≡ binding.prefix ++ v.parameter.now.name → IsVisit w.tree.now w.sets.now v binding name None
  visit_plain plain entry same is = record {
    candidate = record { is = at.is; given = given; has = at.has; at = parameter_at; mapped = subst (λ m. IsMapped m v.entry (prefixed binding v.parameter.now) name None) (sym (ap (option_map (λ (m : MappingOf). m.mapping)) plain)) (entry, is, refl) };
    range = range;
    ready = same;
    level = at.level_is;
    told = told;
    transformation = λ x e. absurd (none_some x e);
  }
    where
      none_some : (x : Change) → ◌≡◌ {A = Option Change} None (Some x) → ⊥
      none_some x e = cc

  pub visit_mapped : (mapping : MappingOf) (entry : MappingEntry) → given.mapping ≡ Some mapping → slice_get mapping.mapping.entries v.entry ≡ Some entry → entry.source ≡ binding.prefix ++ v.parameter.now.name → name ≡ entry.target → IsReady (change_of entry) v.ready.now → v.mapping_file ≡ mapping.file
      → ((x : Transformation) → entry.transformation ≡ Some x → v.transformation ≡ x.node) → IsVisit w.tree.now w.sets.now v binding name (change_of entry)
  visit_mapped mapping entry maps there source is ready mapping_file node = record {
    candidate = record { is = at.is; given = given; has = at.has; at = parameter_at; mapped = subst (λ m. IsMapped m v.entry (prefixed binding v.parameter.now) name (change_of entry)) (sym mapped) (entry, there, source, is, refl) };
    range = range;
    ready = ready;
    level = at.level_is;
    told = told;
    transformation = λ x e. transforms x entry.transformation refl e;
  }
    where
      mapped : mapping_of given ≡ Some mapping.mapping
      mapped = ap (option_map (λ (m : MappingOf). m.mapping)) maps

      transforms : (x : Change) (o : Option Transformation) → entry.transformation ≡ o → option_map (λ (z : Transformation). z.change) entry.transformation ≡ Some x → IsTransformation w.sets.now (triple_of v) x v.transformation v.mapping_file
      transforms x None e h = absurd (none_some x (sym (ap (option_map (λ (z : Transformation). z.change)) e) ∙ h))
        where
          none_some : (x : Change) → ◌≡◌ {A = Option Change} None (Some x) → ⊥
          none_some x e = cc
      transforms x (Some y) e h = record {
        given = given;
        has = at.has;
        mapping = mapping.mapping;
        mapped = mapped;
        entry = entry;
        entry_is = there;
        transformation = y;
        transforms = e;
        change_is = same_Some y.change x (sym (ap (option_map (λ (z : Transformation). z.change)) e) ∙ h);
        node_is = sym (node y e);
        told = λ n. told_at w.sets.now v.binding n v.mapping_file true given at.has (ap (λ o. option_map_or (λ (m : MappingOf). Some m.file) o None) maps ∙ ap Some (sym mapping_file));
      }
