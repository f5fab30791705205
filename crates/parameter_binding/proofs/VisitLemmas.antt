-- What one triple breaks.
use Rattle.std.proofs.Common.{◌≡◌, ◌⊎◌, ◌<◌, ◌≤◌, ◌+◌, ℕ, ℤ, Bool, true, false, List, length, take, get_or, Option, Some, None, refl, sym, ap, ◌∙◌, subst, inl, inr, arith}
use Rattle.std.specs.List.{slice_get, Contains}
use Rattle.std.specs.Option.{option_map}
use Rattle.std.proofs.lemmas.Option.{same_Some}
use Rattle.std.proofs.lemmas.List.{take_more, take_all}
use Rattle.std.proofs.lemmas.List.Elements.{Contains-get_or, Contains-push_cases}
use Rattle.value_types.specs.Joint.{class_of}
use Rattle.value_types.specs.Values.{Fits}
use Rattle.value_types.specs.declared.values.PortType.{PortType}
use Rattle.value_types.specs.declared.shape.Shape.{Shape}
use Rattle.value_types.specs.declared.shape.Variable.{Variable}
use Rattle.doc_tree.specs.declared.rule.ParameterRule.{ParameterRule}
use Rattle.doc_tree.specs.declared.rule.ParameterRule.TheVariants as r
use Rattle.doc_tree.specs.Rules.{parameter_number}
use Rattle.parameter_values.specs.declared.change.Change.{Change}
use Rattle.parameter_values.specs.declared.set.Mapping.{Mapping}
use Rattle.parameter_values.specs.declared.set.MappingEntry.{MappingEntry}
use Rattle.parameter_values.specs.declared.set.Parameter.{Parameter}
use Rattle.parameter_values.specs.declared.set.ParameterValue.{ParameterValue}
use Rattle.parameter_values.specs.declared.set.Transformation.{Transformation}
use Rattle.parameter_values.specs.declared.judgement.Judgement.{Judgement}
use Rattle.parameter_values.specs.declared.judgement.Judgement.TheVariants as judgement
use Rattle.parameter_values.specs.Ready.{Judges}
use Rattle.parameter_values.specs.Values as values
use Rattle.ssd_tree.specs.declared.tree.Binding.{Binding}
use Rattle.ssd_tree.specs.declared.tree.SystemTree.{SystemTree}
use Rattle.parameter_targets.specs.declared.target.Target.{Target}
use Rattle.parameter_targets.specs.Scopes.{IsTarget, Sees}
use Rattle.parameter_binding.specs.declared.fault.Fault.{Fault}
use Rattle.parameter_binding.specs.declared.sets.BindingSets.{BindingSets}
use Rattle.parameter_binding.specs.declared.visit.Visit.{Visit}
use Rattle.parameter_binding.specs.Binds.{IsMapped, ReachesTarget, Triple, change_of, mapping_of, prefixed}
use Rattle.parameter_binding.specs.Rules.{Breaks, HoldsAt, NamesTwo, Place, ReachesOther}
use Rattle.parameter_binding.specs.Walk.{AreSeen, BreaksVia, CoveredBy, FindsFault, HasTwo, IsJudged, IsOwnFault, IsUpTo, IsVisit, NoneBreaks, mapping_fault, place_of, set_fault, part_number, triple_of}
use Rattle.parameter_binding.proofs.OnceLemmas.{candidate_once, gives_once, target_once}

-- ---- places

up_set : (v : Visit) (rule s : ParameterRule) (p : Place) → v.binding ≡ p.binding → p.in_mapping ≡ false → v.parameter.now.node ≡ p.node → parameter_number rule ≤ parameter_number s → IsUpTo (place_of (set_fault v rule)) rule p s
up_set v rule s p binding in_set node less = inr (binding, inr (ap part_number (sym in_set), inr (node, less)))

stage_above : (b : Bool) → b ≡ true → 0 < part_number b
stage_above true e = omega arith
stage_above false e = cc

up_map : (v : Visit) (rule s : ParameterRule) (p : Place) → v.binding ≡ p.binding → p.in_mapping ≡ true → IsUpTo (place_of (set_fault v rule)) rule p s
up_map v rule s p binding in_mapping = inr (binding, inl (stage_above p.in_mapping in_mapping))

up_change : (v : Visit) (p : Place) → v.binding ≡ p.binding → p.in_mapping ≡ true → v.transformation ≡ p.node → IsUpTo (place_of (mapping_fault v)) r.Transformation p r.Transformation
up_change v p binding in_mapping node = inr (binding, inr (ap part_number (sym in_mapping), inr (node, omega arith)))

-- ---- one triple and one target

module _ (t : SystemTree) (shapes : List Shape) (sets : List BindingSets) (binding : Binding) (name : List ℕ) (change : Option Change) (v : Visit) (visit : IsVisit t sets v binding name change) where
  c : Triple
  c = triple_of v

  abbrev pub reaches_own : (target : Target) → Sees t shapes binding.owner name target → ReachesTarget t shapes sets target (triple_of v)
  reaches_own target sees = record { binding = binding; parameter = v.parameter.now; name = name; change = change; is = visit.candidate; sees = sees }

  -- what reaches by the triple has its parameter and its change
  parameter_is : (target : Target) (h : ReachesTarget t shapes sets target (triple_of v)) → h.parameter ≡ v.parameter.now
  parameter_is target h = (candidate_once t sets (triple_of v) h.binding binding h.parameter v.parameter.now h.name name h.change change h.is visit.candidate).parameter

  change_is : (target : Target) (h : ReachesTarget t shapes sets target (triple_of v)) → h.change ≡ change
  change_is target h = (candidate_once t sets (triple_of v) h.binding binding h.parameter v.parameter.now h.name name h.change change h.is visit.candidate).change

  pub sees_own : (target : Target) (h : ReachesTarget t shapes sets target (triple_of v)) → Sees t shapes binding.owner name target
  sees_own target h =
      let one = candidate_once t sets (triple_of v) h.binding binding h.parameter v.parameter.now h.name name h.change change h.is visit.candidate in
      subst (λ (z : Binding). Sees t shapes z.owner name target) one.binding (subst (λ n. Sees t shapes h.binding.owner n target) one.name h.sees)

  pub holds_own : (R : Option Change → ParameterValue → PortType → Type 0) (rule : ParameterRule) (target : Target) (kind : PortType) (sees : Sees t shapes binding.owner name target) → sees.variable.kind ≡ Some kind → R change v.parameter.now.value kind
      → HoldsAt R t shapes sets (place_of (set_fault v rule)) (triple_of v)
  holds_own R rule target kind sees is broken = record {
    kind = kind;
    of = record { target = target; reaches = reaches_own target sees; kind_is = is };
    binding = refl;
    in_set = refl;
    node = refl;
    is = broken;
  }

  -- what holds of a triple's target holds of the value, the change and the type
  pub holds_of : (R : Option Change → ParameterValue → PortType → Type 0) (p : Place) (target : Target) (kind : PortType) (w : Variable) → IsTarget shapes target w → w.kind ≡ Some kind → (h : HoldsAt R t shapes sets p (triple_of v)) → h.of.target ≡ target → R change v.parameter.now.value kind
  holds_of R p target kind w is kind_is h same =
      let reached : IsTarget shapes target h.of.reaches.sees.variable = subst (λ z. IsTarget shapes z h.of.reaches.sees.variable) same h.of.reaches.sees.is in
      let one = target_once shapes target h.of.reaches.sees.variable w reached is in
      let kinds : h.kind ≡ kind = same_Some h.kind kind (sym h.of.kind_is ∙ ap (λ (z : Variable). z.kind) one ∙ kind_is) in
      subst (R change v.parameter.now.value) kinds (subst (λ (z : Parameter). R change z.value h.kind) (parameter_is h.of.target h.of.reaches) (subst (λ z. R z h.of.reaches.parameter.value h.kind) (change_is h.of.target h.of.reaches) h.is))

  up_holds : (R : Option Change → ParameterValue → PortType → Type 0) (rule s : ParameterRule) (p : Place) → (h : HoldsAt R t shapes sets p (triple_of v)) → parameter_number rule ≤ parameter_number s → IsUpTo (place_of (set_fault v rule)) rule p s
  up_holds R rule s p h less = up_set v rule s p h.binding h.in_set (sym (ap (λ (z : Parameter). z.node) (parameter_is h.of.target h.of.reaches)) ∙ h.node) less

  -- the transformation of the triple
  other_of : (p : Place) (target : Target) (kind : PortType) (w : Variable) → IsTarget shapes target w → w.kind ≡ Some kind → (h : ReachesOther t shapes sets p (triple_of v)) → h.of.target ≡ target → values.HasOtherChange change kind
  other_of p target kind w is kind_is h same =
      let reached : IsTarget shapes target h.of.reaches.sees.variable = subst (λ z. IsTarget shapes z h.of.reaches.sees.variable) same h.of.reaches.sees.is in
      let one = target_once shapes target h.of.reaches.sees.variable w reached is in
      let kinds : h.kind ≡ kind = same_Some h.kind kind (sym h.of.kind_is ∙ ap (λ (z : Variable). z.kind) one ∙ kind_is) in
      subst (values.HasOtherChange change) kinds (subst (λ o. values.HasOtherChange o h.kind) (sym (mapped (mapping_of h.of.reaches.is.given) h.has h.of.reaches.is.mapped) ∙ change_is h.of.target h.of.reaches) h.other)
    where
      mapped : (m : Option Mapping) → m ≡ Some h.mapping → IsMapped m (triple_of v).entry (prefixed h.of.reaches.binding h.of.reaches.parameter) h.of.reaches.name h.of.reaches.change → h.of.reaches.change ≡ Some h.transformation.change
      mapped None e x = cc
      mapped (Some m) e x =
          let maps : m ≡ h.mapping = same_Some m h.mapping e in
          let entry : x.0 ≡ h.entry = same_Some x.0 h.entry (sym x.1 ∙ ap (λ (z : Mapping). slice_get z.entries (triple_of v).entry) maps ∙ h.entry_is) in
          x.4 ∙ ap change_of entry ∙ ap (option_map (λ (z : Transformation). z.change)) h.transforms

  other_own : (x : Change) (target : Target) (kind : PortType) (sees : Sees t shapes binding.owner name target) → sees.variable.kind ≡ Some kind → change ≡ Some x → values.HasOtherChange change kind → ReachesOther t shapes sets (place_of (mapping_fault v)) (triple_of v)
  other_own x target kind sees is some other =
      let how = visit.transformation x some in
      record {
        kind = kind;
        of = record { target = target; reaches = reaches_own target sees; kind_is = is };
        binding = refl;
        in_mapping = refl;
        mapping = how.mapping;
        has = ap mapping_of (same_Some visit.candidate.given how.given (sym visit.candidate.has ∙ how.has)) ∙ how.mapped;
        entry = how.entry;
        entry_is = how.entry_is;
        transformation = how.transformation;
        transforms = how.transforms;
        node = how.node_is;
        other = subst (λ o. values.HasOtherChange o kind) (some ∙ ap Some (sym how.change_is)) other;
      }

  up_other : (p : Place) (x : Change) → change ≡ Some x → ReachesOther t shapes sets p (triple_of v) → IsUpTo (place_of (mapping_fault v)) r.Transformation p r.Transformation
  up_other p x some h =
      let how = visit.transformation x some in
      let given : h.of.reaches.is.given ≡ how.given = same_Some h.of.reaches.is.given how.given (sym h.of.reaches.is.has ∙ how.has) in
      let maps : h.mapping ≡ how.mapping = same_Some h.mapping how.mapping (sym h.has ∙ ap mapping_of given ∙ how.mapped) in
      let entry : h.entry ≡ how.entry = same_Some h.entry how.entry (sym h.entry_is ∙ ap (λ (z : Mapping). slice_get z.entries (triple_of v).entry) maps ∙ how.entry_is) in
      let one : h.transformation ≡ how.transformation = same_Some h.transformation how.transformation (sym h.transforms ∙ ap (λ (z : MappingEntry). z.transformation) entry ∙ how.transforms) in
      up_change v p h.binding h.in_mapping (sym how.node_is ∙ ap (λ (z : Transformation). z.node) (sym one) ∙ h.node)

  none_other : (kind : PortType) → change ≡ None → values.HasOtherChange change kind → ⊥
  none_other kind none other = subst (λ o. values.HasOtherChange o kind) none other tt

  module _ (target : Target) (kind : PortType) (w : Variable) (sees : Sees t shapes binding.owner name target) (is : IsTarget shapes target w) (kind_is : w.kind ≡ Some kind) where
    own_kind : sees.variable.kind ≡ Some kind
    own_kind = ap (λ (z : Variable). z.kind) (target_once shapes target sees.variable w sees.is is) ∙ kind_is

    -- the value isn't of the class
    pub judged_class : values.HasOtherClass change v.parameter.now.value kind → IsJudged t shapes sets (triple_of v) target (Some (set_fault v r.OtherClass))
    judged_class broken = record {
      own = (holds_own values.HasOtherClass r.OtherClass target kind sees own_kind broken, visit.told v.parameter.now.node);
      covers = covers;
    }
      where
        covers : (rule : ParameterRule) (p : Place) → BreaksVia t shapes sets target rule p (triple_of v) → CoveredBy (Some (set_fault v r.OtherClass)) p rule
        covers r.Structure p h = absurd h
        covers r.Incomplete p h = absurd h
        covers r.OtherClass p h = up_holds values.HasOtherClass r.OtherClass r.OtherClass p h.0 (omega arith)
        covers r.OutOfRange p h = up_holds values.IsOutside r.OtherClass r.OutOfRange p h.0 (omega arith)
        covers r.Transformation p h = up_map v r.OtherClass r.Transformation p h.0.binding h.0.in_mapping
        covers r.NoMapEntry p h = up_holds values.HasNoPair r.OtherClass r.NoMapEntry p h.0 (omega arith)
        covers r.NamesTwo p h = absurd h

    -- the change is for another class
    pub judged_change : values.IsOf v.parameter.now.value (class_of kind) → values.HasOtherChange change kind → IsJudged t shapes sets (triple_of v) target (Some (mapping_fault v))
    judged_change of other = by change refl
      where
        by : (o : Option Change) → change ≡ o → IsJudged t shapes sets (triple_of v) target (Some (mapping_fault v))
        by None none = absurd (none_other kind none other)
        by (Some x) some = record {
          own = (other_own x target kind sees own_kind some other, (visit.transformation x some).told v.transformation);
          covers = covers;
        }
          where
            covers : (rule : ParameterRule) (p : Place) → BreaksVia t shapes sets target rule p (triple_of v) → CoveredBy (Some (mapping_fault v)) p rule
            covers r.Structure p h = absurd h
            covers r.Incomplete p h = absurd h
            covers r.OtherClass p h = absurd (holds_of values.HasOtherClass p target kind w is kind_is h.0 h.1 of)
            covers r.OutOfRange p h = absurd (other (holds_of values.IsOutside p target kind w is kind_is h.0 h.1).0.1)
            covers r.Transformation p h = up_other p x some h.0
            covers r.NoMapEntry p h = absurd (other (holds_of values.HasNoPair p target kind w is kind_is h.0 h.1).0.1)
            covers r.NamesTwo p h = absurd h

    pub judged_pair : values.HasNoPair change v.parameter.now.value kind → IsJudged t shapes sets (triple_of v) target (Some (set_fault v r.NoMapEntry))
    judged_pair broken = record {
      own = (holds_own values.HasNoPair r.NoMapEntry target kind sees own_kind broken, visit.told v.parameter.now.node);
      covers = covers;
    }
      where
        covers : (rule : ParameterRule) (p : Place) → BreaksVia t shapes sets target rule p (triple_of v) → CoveredBy (Some (set_fault v r.NoMapEntry)) p rule
        covers r.Structure p h = absurd h
        covers r.Incomplete p h = absurd h
        covers r.OtherClass p h = absurd (holds_of values.HasOtherClass p target kind w is kind_is h.0 h.1 broken.0.0)
        covers r.OutOfRange p h = let outside = holds_of values.IsOutside p target kind w is kind_is h.0 h.1 in absurd (broken.1 outside.1.0 outside.1.1)
        covers r.Transformation p h = absurd (other_of p target kind w is kind_is h.0 h.1 broken.0.1)
        covers r.NoMapEntry p h = up_holds values.HasNoPair r.NoMapEntry r.NoMapEntry p h.0 (omega arith)
        covers r.NamesTwo p h = absurd h

    pub judged_outside : values.IsOutside change v.parameter.now.value kind → IsJudged t shapes sets (triple_of v) target (Some (set_fault v r.OutOfRange))
    judged_outside broken = record {
      own = (holds_own values.IsOutside r.OutOfRange target kind sees own_kind broken, visit.told v.parameter.now.node);
      covers = covers;
    }
      where
        covers : (rule : ParameterRule) (p : Place) → BreaksVia t shapes sets target rule p (triple_of v) → CoveredBy (Some (set_fault v r.OutOfRange)) p rule
        covers r.Structure p h = absurd h
        covers r.Incomplete p h = absurd h
        covers r.OtherClass p h = absurd (holds_of values.HasOtherClass p target kind w is kind_is h.0 h.1 broken.0.0)
        covers r.OutOfRange p h = up_holds values.IsOutside r.OutOfRange r.OutOfRange p h.0 (omega arith)
        covers r.Transformation p h = up_map v r.OutOfRange r.Transformation p h.0.binding h.0.in_mapping
        covers r.NoMapEntry p h = up_holds values.HasNoPair r.OutOfRange r.NoMapEntry p h.0 (omega arith)
        covers r.NamesTwo p h = absurd h

    pub judged_taken : (y : ℤ) → values.IsTaken change v.parameter.now.value kind y → IsJudged t shapes sets (triple_of v) target None
    judged_taken y taken = record { own = tt; covers = covers }
      where
        covers : (rule : ParameterRule) (p : Place) → BreaksVia t shapes sets target rule p (triple_of v) → ⊥
        covers r.Structure p h = h
        covers r.Incomplete p h = h
        covers r.OtherClass p h = holds_of values.HasOtherClass p target kind w is kind_is h.0 h.1 taken.0.0
        covers r.OutOfRange p h =
            let outside = holds_of values.IsOutside p target kind w is kind_is h.0 h.1 in
            outside.1.2 (subst (Fits kind) (gives_once change v.parameter.now.value y outside.1.0 taken.1 outside.1.1) taken.2)
        covers r.Transformation p h = other_of p target kind w is kind_is h.0 h.1 taken.0.1
        covers r.NoMapEntry p h = (holds_of values.HasNoPair p target kind w is kind_is h.0 h.1).1 y taken.1
        covers r.NamesTwo p h = h

    -- where nothing is broken the value is taken
    pub is_taken : (j : Judgement) → Judges change v.parameter.now.value kind j → NoneBreaks t shapes sets (λ d. d ≡ triple_of v) → (y : ℤ) × (j ≡ judgement.Taken y)
    is_taken (judgement.Taken y) j none = (y, refl)
    is_taken judgement.OtherClass j none = absurd (none (triple_of v) r.OtherClass _ refl (holds_own values.HasOtherClass r.OtherClass target kind sees own_kind j))
    is_taken judgement.OtherChange j none = by change refl
      where
        by : (o : Option Change) → change ≡ o → (y : ℤ) × (judgement.OtherChange ≡ judgement.Taken y)
        by None e = absurd (none_other kind e j.1)
        by (Some x) e = absurd (none (triple_of v) r.Transformation _ refl (other_own x target kind sees own_kind e j.1))
    is_taken judgement.NoPair j none = absurd (none (triple_of v) r.NoMapEntry _ refl (holds_own values.HasNoPair r.NoMapEntry target kind sees own_kind j))
    is_taken judgement.Outside j none = absurd (none (triple_of v) r.OutOfRange _ refl (holds_own values.IsOutside r.OutOfRange target kind sees own_kind j))

-- ---- all targets of a triple

-- the first fault of the triple and these targets
pub record AreJudged (t : SystemTree) (shapes : List Shape) (sets : List BindingSets) (c : Triple) (targets : List Target) (o : Option Fault) : Type 0 where
  pub own : IsOwnFault t shapes sets c o
  pub covers : (target : Target) (rule : ParameterRule) (p : Place) → Contains targets target → BreaksVia t shapes sets target rule p c → CoveredBy o p rule

pub judged_none : (t : SystemTree) (shapes : List Shape) (sets : List BindingSets) (c : Triple) (targets : List Target) → AreJudged t shapes sets c (take 0 targets) None
judged_none t shapes sets c targets = record { own = tt; covers = λ target rule p i h. omega (arith, i.1) }

own_either : (t : SystemTree) (shapes : List Shape) (sets : List BindingSets) (c : Triple) (a b o : Option Fault) → (o ≡ a) ⊎ (o ≡ b) → IsOwnFault t shapes sets c a → IsOwnFault t shapes sets c b → IsOwnFault t shapes sets c o
own_either t shapes sets c a b o (inl e) x y = subst (IsOwnFault t shapes sets c) (sym e) x
own_either t shapes sets c a b o (inr e) x y = subst (IsOwnFault t shapes sets c) (sym e) y

pub judged_more : (t : SystemTree) (shapes : List Shape) (sets : List BindingSets) (c : Triple) (targets : List Target) (i : ℕ) (d : Target) (a b o : Option Fault) → i < length targets → (o ≡ a) ⊎ (o ≡ b) → ((p : Place) (rule : ParameterRule) → CoveredBy a p rule ⊎ CoveredBy b p rule → CoveredBy o p rule)
    → IsJudged t shapes sets c (get_or targets i d) b → AreJudged t shapes sets c (take i targets) a → AreJudged t shapes sets c (take (i + 1) targets) o
judged_more t shapes sets c targets i d a b o less either both judged was = record {
  own = own_either t shapes sets c a b o either was.own judged.own;
  covers = λ target rule p inside h. both p rule (by target rule p h (Contains-push_cases (take i targets) (get_or targets i d) target (subst (λ (z : List Target). Contains z target) (take_more targets i d less) inside)));
}
  where
    by : (target : Target) (rule : ParameterRule) (p : Place) → BreaksVia t shapes sets target rule p c → Contains (take i targets) target ⊎ (get_or targets i d ≡ target) → CoveredBy a p rule ⊎ CoveredBy b p rule
    by target rule p h (inl x) = inl (was.covers target rule p x h)
    by target rule p h (inr e) = inr (judged.covers rule p (subst (λ z. BreaksVia t shapes sets z rule p c) (sym e) h))

module _ (t : SystemTree) (shapes : List Shape) (sets : List BindingSets) (binding : Binding) (name : List ℕ) (change : Option Change) (v : Visit) (visit : IsVisit t sets v binding name change) (targets : List Target) (seen : AreSeen t shapes binding name targets)
  where
    pub in_list : (target : Target) → ReachesTarget t shapes sets target (triple_of v) → Contains targets target
    in_list target h = (seen target).1 (sees_own t shapes sets binding name change v visit target h)

    two_of : (p : Place) → NamesTwo t shapes sets p (triple_of v) → HasTwo targets
    two_of p h =
        let one = candidate_once t sets (triple_of v) h.reaches.binding binding h.reaches.parameter v.parameter.now h.reaches.name name h.reaches.change change h.reaches.is visit.candidate in
        let other : Sees t shapes binding.owner name h.other = subst (λ (z : Binding). Sees t shapes z.owner name h.other) one.binding (subst (λ n. Sees t shapes h.reaches.binding.owner n h.other) one.name h.sees) in
        (h.target, h.other, in_list h.target h.reaches, (seen h.other).1 other, h.apart)

    pub two_own : HasTwo targets → NamesTwo t shapes sets (place_of (set_fault v r.NamesTwo)) (triple_of v)
    two_own h = record {
      target = h.0;
      other = h.1;
      apart = h.4;
      reaches = reaches_own t shapes sets binding name change v visit h.0 ((seen h.0).0 h.2);
      sees = (seen h.1).0 h.3;
      binding = refl;
      in_set = refl;
      node = refl;
    }

    -- each rule that the triple breaks is broken via one of its targets, or it names two
    covered : (o two : Option Fault) → AreJudged t shapes sets (triple_of v) targets o → ((p : Place) → NamesTwo t shapes sets p (triple_of v) → CoveredBy two p r.NamesTwo) → (rule : ParameterRule) (p : Place) → Breaks t shapes sets rule p (triple_of v) → CoveredBy o p rule ⊎ CoveredBy two p rule
    covered o two judged names r.Structure p h = absurd h
    covered o two judged names r.Incomplete p h = absurd h
    covered o two judged names r.OtherClass p h = inl (judged.covers h.of.target r.OtherClass p (in_list h.of.target h.of.reaches) (h, refl))
    covered o two judged names r.OutOfRange p h = inl (judged.covers h.of.target r.OutOfRange p (in_list h.of.target h.of.reaches) (h, refl))
    covered o two judged names r.Transformation p h = inl (judged.covers h.of.target r.Transformation p (in_list h.of.target h.of.reaches) (h, refl))
    covered o two judged names r.NoMapEntry p h = inl (judged.covers h.of.target r.NoMapEntry p (in_list h.of.target h.of.reaches) (h, refl))
    covered o two judged names r.NamesTwo p h = inr (names p h)

    pub found_of : (o : Option Fault) → IsOwnFault t shapes sets (triple_of v) o → ((rule : ParameterRule) (p : Place) → Breaks t shapes sets rule p (triple_of v) → CoveredBy o p rule) → FindsFault t shapes sets (λ c. c ≡ triple_of v) o
    found_of None own covers = λ c rule p same h. covers rule p (subst (Breaks t shapes sets rule p) same h)
    found_of (Some f) own covers = record {
      triple = triple_of v;
      done = refl;
      broken = own.0;
      told = own.1;
      least = λ c rule p same h. covers rule p (subst (Breaks t shapes sets rule p) same h);
    }

    -- there is one target at most
    pub found_one : (o : Option Fault) → AreJudged t shapes sets (triple_of v) targets o → (HasTwo targets → ⊥) → FindsFault t shapes sets (λ c. c ≡ triple_of v) o
    found_one o judged one = found_of o judged.own (λ rule p h. left_of p rule (covered o None judged (λ q names. one (two_of q names)) rule p h))
      where
        left_of : (p : Place) (rule : ParameterRule) → CoveredBy o p rule ⊎ ⊥ → CoveredBy o p rule
        left_of p rule (inl h) = h
        left_of p rule (inr h) = absurd h

    pub found_two : (o f : Option Fault) → AreJudged t shapes sets (triple_of v) targets o → HasTwo targets → (f ≡ o) ⊎ (f ≡ Some (set_fault v r.NamesTwo))
        → ((p : Place) (rule : ParameterRule) → CoveredBy o p rule ⊎ CoveredBy (Some (set_fault v r.NamesTwo)) p rule → CoveredBy f p rule) → FindsFault t shapes sets (λ c. c ≡ triple_of v) f
    found_two o f judged two either both = found_of f (own_either t shapes sets (triple_of v) o (Some (set_fault v r.NamesTwo)) f either judged.own (two_own two, visit.told v.parameter.now.node))
        (λ rule p h. both p rule (covered o (Some (set_fault v r.NamesTwo)) judged named rule p h))
      where
        named : (p : Place) → NamesTwo t shapes sets p (triple_of v) → IsUpTo (place_of (set_fault v r.NamesTwo)) r.NamesTwo p r.NamesTwo
        named p h =
            let one = candidate_once t sets (triple_of v) h.reaches.binding binding h.reaches.parameter v.parameter.now h.reaches.name name h.reaches.change change h.reaches.is visit.candidate in
            up_set v r.NamesTwo r.NamesTwo p h.binding h.in_set (sym (ap (λ (z : Parameter). z.node) one.parameter) ∙ h.node) (omega arith)

-- ---- targets that are all one

abbrev pub nothing : Target
nothing = record { component = 0; variable = 0 }

abbrev pub AreFirst : List Target → List Target → Type 0
AreFirst targets some = (a : Target) → Contains some a → a ≡ get_or targets 0 nothing

pub first_more : (targets : List Target) (i : ℕ) → i < length targets → get_or targets i nothing ≡ get_or targets 0 nothing → AreFirst targets (take i targets) → AreFirst targets (take (i + 1) targets)
first_more targets i less same was a h = by (Contains-push_cases (take i targets) (get_or targets i nothing) a (subst (λ (z : List Target). Contains z a) (take_more targets i nothing less) h))
  where
    by : Contains (take i targets) a ⊎ (get_or targets i nothing ≡ a) → a ≡ get_or targets 0 nothing
    by (inl x) = was a x
    by (inr e) = sym e ∙ same

pub first_all : (targets : List Target) (i : ℕ) → length targets ≤ i → AreFirst targets (take i targets) → HasTwo targets → ⊥
first_all targets i past was two =
    let whole : take i targets ≡ targets = take_all i targets past in
    two.4 (was two.0 (subst (λ (z : List Target). Contains z two.0) (sym whole) two.2) ∙ sym (was two.1 (subst (λ (z : List Target). Contains z two.1) (sym whole) two.3)))

pub two_here : (targets : List Target) (i : ℕ) → i < length targets → (get_or targets i nothing ≡ get_or targets 0 nothing → ⊥) → HasTwo targets
two_here targets i less apart = (get_or targets i nothing, get_or targets 0 nothing, Contains-get_or targets i nothing less, Contains-get_or targets 0 nothing (omega (arith, less)), apart)
