-- Trees and sets that are the same but for the numbers of elements bind alike.
use Rattle.std.proofs.Common.{◌≡◌, ◌∙◌, ◌⊎◌, inl, inr, ℕ, List, map, Option, Some, refl, sym, ap, subst}
use Rattle.std.specs.Prelude.{ℤ}
use Rattle.std.specs.Option.{option_map}
use Rattle.value_types.specs.declared.shape.Shape.{Shape}
use Rattle.value_types.specs.declared.values.PortType.{PortType}
use Rattle.doc_tree.specs.declared.rule.ParameterRule.{ParameterRule}
use Rattle.doc_tree.specs.declared.rule.ParameterRule.TheVariants as r
use Rattle.system_model.specs.declared.bound.Bound.{Bound}
use Rattle.system_model.specs.declared.bound.BoundValue.{BoundValue}
use Rattle.ssd_tree.specs.declared.tree.Binding.{Binding}
use Rattle.ssd_tree.specs.declared.tree.Owner.{Owner}
use Rattle.ssd_tree.specs.declared.tree.SystemTree.{SystemTree}
use Rattle.parameter_targets.specs.declared.target.Target.{Target}
use Rattle.parameter_targets.specs.Scopes.{Sees, SeesName}
use Rattle.parameter_values.specs.declared.change.Change.{Change}
use Rattle.parameter_values.specs.declared.set.Mapping.{Mapping}
use Rattle.parameter_values.specs.declared.set.MappingEntry.{MappingEntry}
use Rattle.parameter_values.specs.declared.set.Parameter.{Parameter}
use Rattle.parameter_values.specs.declared.set.ParameterValue.{ParameterValue}
use Rattle.parameter_values.specs.declared.set.Transformation.{Transformation}
use Rattle.parameter_values.specs.Values.{Gives, HasNoPair, HasOtherChange, HasOtherClass, IsOutside}
use Rattle.parameter_binding.specs.declared.sets.BindingSets.{BindingSets}
use Rattle.parameter_binding.specs.Binds.{AreBound, AreBoundOf, Beats, Binds, IsBoundAt, IsReached, IsUnreached, ListsUnreached, ReachesTarget, Triple, Wins, mapping_of, target_at}
use Rattle.parameter_binding.specs.Rules.{Breaks, HoldsAt, IsFitting, NamesTwo, Place, ReachesKind, ReachesOther, ViolatesParameters}
use Rattle.inlined_answers.specs.Alike.{plain_entry, plain_mapping, plain_sets, plain_transformation, without_numbers}
use Rattle.inlined_answers.proofs.ListLemmas.{each_then, some_of, there}
use Rattle.inlined_answers.proofs.ReachLemmas.{Likewise, beats_too, candidate_too, entries_same, mapping_same, sees_name, sees_too}

module _ (t u : SystemTree) (same : without_numbers t ≡ without_numbers u) (shapes : List Shape) (sets others : List BindingSets) (gives : map plain_sets sets ≡ map plain_sets others) where
  -- ---- what is reached

  pub likewise : (target : Target) (c : Triple) (x : ReachesTarget t shapes sets target c) → Likewise t u sets others c x.binding x.parameter x.name x.change x.is
  likewise target c x = candidate_too t u same shapes sets others gives c x.binding x.parameter x.name x.change x.is

  pub seen_likewise : (target : Target) (c : Triple) (x : ReachesTarget t shapes sets target c) → SeesName u (likewise target c x).other_binding.owner target.component x.sees.own x.name
  seen_likewise target c x =
      subst (λ (o : Owner). SeesName u o target.component x.sees.own x.name) (ap (λ (b : Binding). b.owner) (likewise target c x).binding_same)
      (sees_name t u same shapes x.binding.owner target.component x.sees.own x.name x.sees.seen)

  abbrev pub reaches_too : (target : Target) (c : Triple) → ReachesTarget t shapes sets target c → ReachesTarget u shapes others target c
  reaches_too target c x = record {
    binding = (likewise target c x).other_binding;
    parameter = (likewise target c x).other_parameter;
    name = x.name;
    change = x.change;
    is = (likewise target c x).other;
    sees = record {
      variable = x.sees.variable;
      is = x.sees.is;
      own = x.sees.own;
      called = x.sees.called;
      seen = seen_likewise target c x;
    };
  }

  -- the parameter has the same value
  pub value_same : (target : Target) (c : Triple) (x : ReachesTarget t shapes sets target c) → x.parameter.value ≡ (likewise target c x).other_parameter.value
  value_same target c x = ap (λ (p : Parameter). p.value) (likewise target c x).parameter_same

  -- ---- rules

  abbrev kind_too : (c : Triple) (kind : PortType) → ReachesKind t shapes sets c kind → ReachesKind u shapes others c kind
  kind_too c kind x = record { target = x.target; reaches = reaches_too x.target c x.reaches; kind_is = x.kind_is }

  holds : (R : Option Change → ParameterValue → PortType → Type 0) (p : Place) (c : Triple) → HoldsAt R t shapes sets p c → (q : Place) × HoldsAt R u shapes others q c
  holds R p c x =
      let like = likewise x.of.target c x.of.reaches in (
        record { binding = p.binding; in_mapping = p.in_mapping; node = like.other_parameter.node },
        record {
          kind = x.kind;
          of = kind_too c x.kind x.of;
          binding = x.binding;
          in_set = x.in_set;
          node = refl;
          is = subst (λ (v : ParameterValue). R x.of.reaches.change v x.kind) (value_same x.of.target c x.of.reaches) x.is;
        },
      )

  reaches_other : (p : Place) (c : Triple) → ReachesOther t shapes sets p c → (q : Place) × ReachesOther u shapes others q c
  reaches_other p c x =
      let like = likewise x.of.target c x.of.reaches in
      let mappings = mapping_same x.of.reaches.is.given like.other.given like.sets_same in
      let m = some_of plain_mapping x.mapping (mapping_of like.other.given) (sym (ap (λ (o : Option Mapping). option_map plain_mapping o) x.has) ∙ mappings) in
      let e = there plain_entry x.mapping.entries m.0.entries (entries_same x.mapping m.0 m.2) c.entry x.entry x.entry_is in
      let transformations : option_map plain_transformation x.entry.transformation ≡ option_map plain_transformation e.0.transformation = ap (λ (y : MappingEntry). y.transformation) e.2 in
      let f = some_of plain_transformation x.transformation e.0.transformation (sym (ap (λ (o : Option Transformation). option_map plain_transformation o) x.transforms) ∙ transformations) in (
        record { binding = p.binding; in_mapping = p.in_mapping; node = f.0.node },
        record {
          kind = x.kind;
          of = kind_too c x.kind x.of;
          binding = x.binding;
          in_mapping = x.in_mapping;
          mapping = m.0;
          has = m.1;
          entry = e.0;
          entry_is = e.1;
          transformation = f.0;
          transforms = f.1;
          node = refl;
          other = subst (λ (change : Change). HasOtherChange (Some change) x.kind) (ap (λ (y : Transformation). y.change) f.2) x.other;
        },
      )

  names_two : (p : Place) (c : Triple) → NamesTwo t shapes sets p c → (q : Place) × NamesTwo u shapes others q c
  names_two p c x =
      let like = likewise x.target c x.reaches in (
        record { binding = p.binding; in_mapping = p.in_mapping; node = like.other_parameter.node },
        record {
          target = x.target;
          other = x.other;
          apart = x.apart;
          reaches = reaches_too x.target c x.reaches;
          sees = subst (λ (o : Owner). Sees u shapes o x.reaches.name x.other) (ap (λ (b : Binding). b.owner) like.binding_same) (sees_too t u same shapes x.reaches.binding.owner x.reaches.name x.other x.sees);
          binding = x.binding;
          in_set = x.in_set;
          node = refl;
        },
      )

  breaks : (rule : ParameterRule) (p : Place) (c : Triple) → Breaks t shapes sets rule p c → (q : Place) × Breaks u shapes others rule q c
  breaks r.Structure p c h = absurd h
  breaks r.Incomplete p c h = absurd h
  breaks r.OtherClass p c h = holds HasOtherClass p c h
  breaks r.OutOfRange p c h = holds IsOutside p c h
  breaks r.Transformation p c h = reaches_other p c h
  breaks r.NoMapEntry p c h = holds HasNoPair p c h
  breaks r.NamesTwo p c h = names_two p c h

  pub violates : (rule : ParameterRule) (p : Place) → ViolatesParameters t shapes sets rule p → (q : Place) × ViolatesParameters u shapes others rule q
  violates rule p h = let x = breaks rule p h.0 h.1 in (x.0, (h.0, x.1))

-- no place of the one breaks a rule, where none of the other does
pub fits_too : (t u : SystemTree) → without_numbers t ≡ without_numbers u → (shapes : List Shape) (sets others : List BindingSets) → map plain_sets sets ≡ map plain_sets others → IsFitting t shapes sets → IsFitting u shapes others
fits_too t u same shapes sets others gives fits rule p h = let v = violates u t (sym same) shapes others sets (sym gives) rule p h in fits rule v.0 v.1

-- ---- what is given

module _ (t u : SystemTree) (same : without_numbers t ≡ without_numbers u) (shapes : List Shape) (sets others : List BindingSets) (gives : map plain_sets sets ≡ map plain_sets others) where
  beats_each : (target : Target) (c : Triple) → Wins t shapes sets target c → (d : Triple) → ReachesTarget u shapes others target d → (d ≡ c) ⊎ Beats u c d
  beats_each target c w d x = elim (w.beats d (reaches_too u t (sym same) shapes others sets (sym gives) target d x)) [
    | inl e ↦ inl e
    | inr beats ↦ inr (beats_too t u same shapes c d beats)
  ]

  abbrev wins_too : (target : Target) (c : Triple) → Wins t shapes sets target c → Wins u shapes others target c
  wins_too target c w = record { reaches = reaches_too t u same shapes sets others gives target c w.reaches; beats = beats_each target c w }

  binds_too : (target : Target) (y : ℤ) → Binds t shapes sets target y → Binds u shapes others target y
  binds_too target y h =
      let c = h.0 in
      let w = h.1.0 in
      (c, (wins_too target c w, subst (λ (v : ParameterValue). Gives w.reaches.change v y) (value_same t u same shapes sets others gives target c w.reaches) h.1.1))

  pub bound_at : (i v : ℕ) (b : BoundValue) → IsBoundAt t shapes sets i v b → IsBoundAt u shapes others i v b
  bound_at i v b h = record {
    variable = h.variable;
    is = h.is;
    kind = h.kind;
    reference = h.reference;
    binds = binds_too (target_at i v) b.value h.binds;
  }

  pub reached_too : (i v : ℕ) → IsReached t shapes sets i v → IsReached u shapes others i v
  reached_too i v h = (h.0, reaches_too t u same shapes sets others gives (target_at i v) h.0 h.1)

  pub unreached_too : (c : Triple) → IsUnreached t shapes sets c → IsUnreached u shapes others c
  unreached_too c x =
      let like = candidate_too t u same shapes sets others gives c x.binding x.parameter x.name x.change x.is in record {
        binding = like.other_binding;
        parameter = like.other_parameter;
        name = x.name;
        change = x.change;
        is = like.other;
        none = λ target s. x.none target (subst (λ (o : Owner). Sees t shapes o x.name target) (sym (ap (λ (b : Binding). b.owner) like.binding_same))
            (sees_too u t (sym same) shapes like.other_binding.owner x.name target s));
      }

pub bound_too : (t u : SystemTree) → without_numbers t ≡ without_numbers u → (shapes : List Shape) (sets others : List BindingSets) → map plain_sets sets ≡ map plain_sets others → (bound : Bound) →
    AreBound t shapes sets bound → AreBound u shapes others bound
bound_too t u same shapes sets others gives bound h = record {
  len = h.len;
  values = λ i values is. bound_of i values (h.values i values is);
  all = h.all;
  lists = unreached;
  unreached = h.unreached;
}
  where
    bound_of : (i : ℕ) (values : List BoundValue) → AreBoundOf t shapes sets i values → AreBoundOf u shapes others i values
    bound_of i values x = record {
      places = x.places;
      listed = record {
        rising = x.listed.rising;
        each = λ k. let both = x.listed.each k in (
          λ held. reached_too t u same shapes sets others gives i k (both.0 held),
          λ reached. both.1 (reached_too u t (sym same) shapes others sets (sym gives) i k reached),
        );
      };
      each = each_then (IsBoundAt t shapes sets i) (IsBoundAt u shapes others i) (bound_at t u same shapes sets others gives i) x.places values x.each;
    }

    unreached : ListsUnreached u shapes others h.all
    unreached = record {
      each = λ c. let both = h.lists.each c in (
        λ held. unreached_too t u same shapes sets others gives c (both.0 held),
        λ none. both.1 (unreached_too u t (sym same) shapes others sets (sym gives) c none),
      );
      once = h.lists.once;
    }
