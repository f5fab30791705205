-- What is gathered of the triples of bindings, one after another in the order of bindings, entries and parameters.
use Rattle.std.specs.Prelude.{◌≡◌, ◌≢◌, ◌⊎◌, ◌↔◌, ◌<◌, ◌≤◌, ◌+◌, ℕ, Bool, true, false, List, [], ◌++◌, length, map, Option, Some, None, IsSome, slice_get, Contains}
use Rattle.std.specs.List.{AllZip}
use Rattle.std.specs.BTreeMap.{get}
use Rattle.value_types.specs.Index.{pair_cmp}
use Rattle.value_types.specs.declared.shape.Shape.{Shape}
use Rattle.value_types.specs.declared.shape.Variable.{Variable}
use Rattle.doc_tree.specs.declared.refusal.Refusal.{Refusal}
use Rattle.doc_tree.specs.declared.refusal.Refusal.TheVariants.{At, Memory}
use Rattle.doc_tree.specs.declared.rule.Rule.TheVariants.{Parameters}
use Rattle.doc_tree.specs.declared.rule.ParameterRule.{ParameterRule}
use Rattle.doc_tree.specs.declared.rule.ParameterRule.TheVariants as r
use Rattle.doc_tree.specs.Rules.{parameter_number}
use Rattle.parameter_values.specs.declared.change.Change.{Change}
use Rattle.parameter_values.specs.declared.set.Mapping.{Mapping}
use Rattle.parameter_values.specs.declared.set.MappingEntry.{MappingEntry}
use Rattle.parameter_values.specs.declared.set.Parameter.{Parameter}
use Rattle.parameter_values.specs.declared.set.Transformation.{Transformation}
use Rattle.parameter_values.specs.Ranges.{IsInRange}
use Rattle.parameter_values.specs.Ready.{IsReady}
use Rattle.parameter_values.specs.Values.{IsTaken}
use Rattle.parameter_values.specs.Values as values
use Rattle.ssd_tree.specs.declared.tree.Binding.{Binding}
use Rattle.ssd_tree.specs.declared.tree.SystemTree.{SystemTree}
use Rattle.parameter_targets.specs.declared.target.Target.{Target}
use Rattle.parameter_targets.specs.Chains.{FindsFrom}
use Rattle.parameter_targets.specs.Tables.{AreDepths, AreTargets}
use Rattle.parameter_targets.specs.Scopes.{IsLevel, IsTarget, Sees}
use Rattle.parameter_binding.specs.declared.fault.Fault.{Fault}
use Rattle.parameter_binding.specs.declared.gathered.Gathered.{Gathered}
use Rattle.parameter_binding.specs.declared.sets.BindingSets.{BindingSets}
use Rattle.parameter_binding.specs.declared.visit.Visit.{Visit}
use Rattle.parameter_binding.specs.declared.walk.Walk.{Walk}
use Rattle.parameter_binding.specs.declared.winners.Best.{Best}
use Rattle.parameter_binding.specs.declared.winners.Winners.{Winners}
use Rattle.system_model.specs.declared.bound.Bound.{Bound}
use Rattle.system_model.specs.declared.bound.BoundValue.{BoundValue}
use Rattle.ssd_tree.specs.Listings.{IsListingBelow}
use Rattle.parameter_binding.specs.Given.{AreGiven}
use Rattle.parameter_binding.specs.Answers.{IsToldIn}
use Rattle.parameter_binding.specs.Binds.{Beats, HasLevel, IsCandidate, IsLater, IsUnreached, ReachesTarget, Triple, mapping_of, target_at}
use Rattle.parameter_binding.specs.Rules.{Breaks, HoldsAt, Place, ReachesOther}

-- ---- the order of faults

-- a set comes before its mapping
abbrev pub part_number : Bool → ℕ
part_number false = 0
part_number true = 1

-- a fault isn't after a rule at a place, in the order of refusals
abbrev pub IsUpTo : Place → ParameterRule → Place → ParameterRule → Type 0
IsUpTo p r q s =
    (p.binding < q.binding) ⊎ ((p.binding ≡ q.binding) ×
    ((part_number p.in_mapping < part_number q.in_mapping) ⊎
    ((part_number p.in_mapping ≡ part_number q.in_mapping) ×
    ((p.node < q.node) ⊎ ((p.node ≡ q.node) × (parameter_number r ≤ parameter_number s))))))

abbrev pub place_of : Fault → Place
place_of f = record { binding = f.binding; in_mapping = f.in_mapping; node = f.node }

-- none of these triples breaks a rule
abbrev pub NoneBreaks : SystemTree → List Shape → List BindingSets → (Triple → Type 0) → Type 0
NoneBreaks t shapes sets Done =
    (c : Triple) (rule : ParameterRule) (p : Place) → Done c → Breaks t shapes sets rule p c → ⊥

-- the first rule that one of these triples breaks
pub record IsFirstFault (t : SystemTree) (shapes : List Shape) (sets : List BindingSets)
    (Done : Triple → Type 0) (f : Fault) : Type 0 where
  pub triple : Triple
  pub done : Done triple
  pub broken : Breaks t shapes sets f.rule (place_of f) triple
  pub told : IsToldIn sets (place_of f) f.file
  pub least : (c : Triple) (rule : ParameterRule) (p : Place) → Done c →
      Breaks t shapes sets rule p c → IsUpTo (place_of f) f.rule p rule

abbrev pub FindsFault : SystemTree → List Shape → List BindingSets → (Triple → Type 0) →
    Option Fault → Type 0
FindsFault t shapes sets Done None = NoneBreaks t shapes sets Done
FindsFault t shapes sets Done (Some f) = IsFirstFault t shapes sets Done f

-- ---- winners

-- the table is in the order of the components, and of their variables
abbrev pub best_of : Winners → Target → Option Best
best_of winners target = get pair_cmp winners.best (target.component, target.variable)

-- of these triples it is the one that wins, with its level and the value that the target takes
pub record IsBest (t : SystemTree) (shapes : List Shape) (sets : List BindingSets)
    (Done : Triple → Type 0) (target : Target) (b : Best) : Type 0 where
  pub triple : Triple
  pub done : Done triple
  pub reaches : ReachesTarget t shapes sets target triple
  pub level : HasLevel t triple.binding b.level
  pub kind : reaches.sees.variable.kind ≡ Some b.value.kind
  pub reference : reaches.sees.variable.reference ≡ b.value.reference
  pub taken : IsTaken reaches.change reaches.parameter.value b.value.kind b.value.value
  pub beats : (d : Triple) → Done d → ReachesTarget t shapes sets target d →
      (d ≡ triple) ⊎ Beats t triple d

abbrev pub IsWinner : SystemTree → List Shape → List BindingSets → (Triple → Type 0) → Target →
    Option Best → Type 0
IsWinner t shapes sets Done target None = (d : Triple) → Done d → ReachesTarget t shapes sets target d → ⊥
IsWinner t shapes sets Done target (Some b) = IsBest t shapes sets Done target b

abbrev pub AreWinners : SystemTree → List Shape → List BindingSets →
    (Triple → Type 0) → Winners → Type 0
AreWinners t shapes sets Done winners =
    (target : Target) → IsWinner t shapes sets Done target (best_of winners target)

-- ---- unresolved names

-- a list of those of these triples that are unresolved, each once
pub record AreCounted (t : SystemTree) (shapes : List Shape) (sets : List BindingSets)
    (Done : Triple → Type 0) (n : ℕ) : Type 0 where
  pub all : List Triple
  pub each : (c : Triple) → Contains all c ↔ (Done c × IsUnreached t shapes sets c)
  pub once : (j k : ℕ) (c : Triple) → slice_get all j ≡ Some c → slice_get all k ≡ Some c → j ≡ k
  pub number : n ≡ length all

-- a full counter says nothing
abbrev pub IsCounted : SystemTree → List Shape → List BindingSets →
    (Triple → Type 0) → Option ℕ → Type 0
IsCounted t shapes sets Done None = Unit {0}
IsCounted t shapes sets Done (Some n) = AreCounted t shapes sets Done n

-- ---- the whole

pub record AreGathered (t : SystemTree) (shapes : List Shape) (sets : List BindingSets)
    (Done : Triple → Type 0) (g : Gathered) : Type 0 where
  pub fault : FindsFault t shapes sets Done g.fault
  pub winners : g.fault ≡ None → AreWinners t shapes sets Done g.winners
  pub unreached : g.fault ≡ None → IsCounted t shapes sets Done g.unreached

-- all triples before this one
abbrev pub IsGathered : SystemTree → List Shape → List BindingSets → Triple → Gathered → Type 0
IsGathered t shapes sets q g = AreGathered t shapes sets (IsLater q) g

-- ---- one triple

abbrev pub triple_at : ℕ → ℕ → ℕ → Triple
triple_at b e p = record { binding = b; entry = e; parameter = p }

abbrev pub triple_of : Visit → Triple
triple_of v = triple_at v.binding v.entry v.place

-- the element and the file of the change
pub record IsTransformation (sets : List BindingSets) (c : Triple) (change : Change)
    (node file : ℕ) : Type 0 where
  pub given : BindingSets
  pub has : slice_get sets c.binding ≡ Some given
  pub mapping : Mapping
  pub mapped : mapping_of given ≡ Some mapping
  pub entry : MappingEntry
  pub entry_is : slice_get mapping.entries c.entry ≡ Some entry
  pub transformation : Transformation
  pub transforms : entry.transformation ≡ Some transformation
  pub change_is : transformation.change ≡ change
  pub node_is : transformation.node ≡ node
  pub told : (n : ℕ) → IsToldIn sets
      (record { binding = c.binding; in_mapping = true; node = n }) file

-- the triple with its name, its level, and its change made ready
pub record IsVisit (t : SystemTree) (sets : List BindingSets) (v : Visit) (binding : Binding)
    (name : List ℕ) (change : Option Change) : Type 0 where
  pub candidate : IsCandidate t sets (triple_of v) binding v.parameter.now name change
  pub range : IsInRange v.parameter.now.value
  pub ready : IsReady change v.ready.now
  pub level : IsLevel t binding.owner v.level
  pub told : (n : ℕ) → IsToldIn sets
      (record { binding = v.binding; in_mapping = false; node = n }) v.set_file
  pub transformation : (x : Change) → change ≡ Some x →
      IsTransformation sets (triple_of v) x v.transformation v.mapping_file

-- the targets of the triple, any of them any number of times
abbrev pub AreSeen : SystemTree → List Shape → Binding → List ℕ → List Target → Type 0
AreSeen t shapes binding name targets =
    (target : Target) → Contains targets target ↔ Sees t shapes binding.owner name target

-- the triple and those before it
abbrev pub IsUpToTriple : Triple → Triple → Type 0
IsUpToTriple c d = IsLater c d ⊎ (d ≡ c)

-- ---- parts of one triple's work

-- a fault isn't after the rule at the place
abbrev pub CoveredBy : Option Fault → Place → ParameterRule → Type 0
CoveredBy None p rule = ⊥
CoveredBy (Some f) p rule = IsUpTo (place_of f) f.rule p rule

-- the fault is one of the triple, and told in its file
abbrev pub IsOwnFault : SystemTree → List Shape → List BindingSets → Triple → Option Fault → Type 0
IsOwnFault t shapes sets c None = Unit {0}
IsOwnFault t shapes sets c (Some f) =
    Breaks t shapes sets f.rule (place_of f) c × IsToldIn sets (place_of f) f.file

-- by the triple and this target the element at the place breaks the rule
abbrev pub BreaksVia : SystemTree → List Shape → List BindingSets → Target → ParameterRule →
    Place → Triple → Type 0
BreaksVia t shapes sets target r.OtherClass p c =
    (h : HoldsAt values.HasOtherClass t shapes sets p c) × (h.of.target ≡ target)
BreaksVia t shapes sets target r.OutOfRange p c =
    (h : HoldsAt values.IsOutside t shapes sets p c) × (h.of.target ≡ target)
BreaksVia t shapes sets target r.NoMapEntry p c =
    (h : HoldsAt values.HasNoPair t shapes sets p c) × (h.of.target ≡ target)
BreaksVia t shapes sets target r.Transformation p c =
    (h : ReachesOther t shapes sets p c) × (h.of.target ≡ target)
BreaksVia t shapes sets target rule p c = ⊥

-- the first fault of the triple and this target
pub record IsJudged (t : SystemTree) (shapes : List Shape) (sets : List BindingSets) (c : Triple)
    (target : Target) (o : Option Fault) : Type 0 where
  pub own : IsOwnFault t shapes sets c o
  pub covers : (rule : ParameterRule) (p : Place) →
      BreaksVia t shapes sets target rule p c → CoveredBy o p rule

-- two targets of the list
abbrev pub HasTwo : List Target → Type 0
HasTwo targets = (a : Target) × (b : Target) × Contains targets a × Contains targets b × (a ≢ b)

-- what stands at the target after one more has come
abbrev pub IsPut : Option Best → Best → Option Best → Type 0
IsPut None next new = new ≡ Some next
IsPut (Some b) next new =
    ((next.level ≤ b.level) × (new ≡ Some next)) ⊎ ((b.level < next.level) × (new ≡ Some b))

pub record PutsBest (target : Target) (next : Best) (old new : Winners) : Type 0 where
  pub at : IsPut (best_of old target) next (best_of new target)
  pub others : (q : Target) → (q ≡ target → ⊥) → best_of new q ≡ best_of old q

-- the parameter breaks a rule
abbrev pub set_fault : Visit → ParameterRule → Fault
set_fault v rule = record {
  binding = v.binding;
  file = v.set_file;
  in_mapping = false;
  node = v.parameter.now.node;
  rule = rule;
}

-- the transformation is for another class
abbrev pub mapping_fault : Visit → Fault
mapping_fault v = record {
  binding = v.binding;
  file = v.mapping_file;
  in_mapping = true;
  node = v.transformation;
  rule = r.Transformation;
}

-- the value is put for a target that takes it
pub record PutsTaken (t : SystemTree) (shapes : List Shape) (change : Option Change) (v : Visit)
    (target : Target) (old new : Winners) : Type 0 where
  pub best : Best
  pub level : best.level ≡ v.level
  pub variable : Variable
  pub is : IsTarget shapes target variable
  pub kind : variable.kind ≡ Some best.value.kind
  pub reference : variable.reference ≡ best.value.reference
  pub taken : IsTaken change v.parameter.now.value best.value.kind best.value.value
  pub puts : PutsBest target best old new

-- nothing has come
pub record IsNothing (g : Gathered) : Type 0 where
  pub fault_none : g.fault ≡ None
  pub winners_none : (target : Target) → best_of g.winners target ≡ None
  pub count_zero : g.unreached ≡ Some 0

-- one more of an unresolved name; none where the counter is full
abbrev pub IsOneMore : Option ℕ → Option ℕ → Type 0
IsOneMore None new = new ≡ None
IsOneMore (Some n) new = (new ≡ None) ⊎ (new ≡ Some (n + 1))

-- ---- the walk over bindings

-- the tables of the tree and its shapes
pub record IsWalk (w : Walk) : Type 0 where
  pub given : AreGiven w.tree.now w.shapes.now w.sets.now
  pub targets : AreTargets w.targets
  pub tree_is : w.targets.tree.now ≡ w.tree.now
  pub shapes_is : w.targets.shapes.now ≡ w.shapes.now
  pub levels : AreDepths w.tree.now (length w.tree.now.systems) w.levels.depths.items

-- the binding at this place, with its sets and its level
pub record IsBindingAt (w : Walk) (b : ℕ) (binding : Binding) (given : BindingSets)
    (level : ℕ) : Type 0 where
  pub is : slice_get w.tree.now.bindings b ≡ Some binding
  pub has : slice_get w.sets.now b ≡ Some given
  pub level_is : IsLevel w.tree.now binding.owner level

-- the names of the parameters of a set
abbrev pub names_in : List Parameter → List (List ℕ)
names_in parameters = map (λ (p : Parameter). p.name) parameters

-- what has come up to all of the bindings before this one
abbrev pub IsGatheredTo : Walk → ℕ → ℕ → ℕ → Gathered → Type 0
IsGatheredTo w b e p g = IsGathered w.tree.now w.shapes.now w.sets.now (triple_at b e p) g

-- ---- all values

-- the values that win for the first n variables of a component, in their order
pub record AreValues (winners : Winners) (i n : ℕ) (values : List BoundValue) : Type 0 where
  pub places : List ℕ
  pub listed : IsListingBelow (λ v. IsSome (best_of winners (target_at i v))) n places
  pub each : AllZip (λ v b. (best : Best) × (best_of winners (target_at i v) ≡ Some best) ×
      (best.value ≡ b)) places values

-- those of the first components
pub record AreAllValues (shapes : List Shape) (winners : Winners) (n : ℕ)
    (components : List (List BoundValue)) : Type 0 where
  pub values_len : length components ≡ n
  pub each : (i : ℕ) (s : Shape) (values : List BoundValue) → slice_get shapes i ≡ Some s →
      slice_get components i ≡ Some values → AreValues winners i (length s.variables) values

-- of the parameters that the entry names those before this one have come
pub record IsAtNext (w : Walk) (b e : ℕ) (binding : Binding) (given : BindingSets)
    (entry : MappingEntry) (next : Option ℕ) (g : Gathered) : Type 0 where
  pub name : List ℕ
  pub source_is : entry.source ≡ binding.prefix ++ name
  pub n : ℕ
  pub finds : FindsFrom (names_in given.values.set.parameters) n name next
  pub come : IsGatheredTo w b e n g

-- ---- the answer

-- the bindings up to one with a fault, or all
pub record AreAllGathered (t : SystemTree) (shapes : List Shape) (sets : List BindingSets)
    (g : Gathered) : Type 0 where
  pub b : ℕ
  pub come : IsGathered t shapes sets (triple_at b 0 0) g
  pub all : g.fault ≡ None → length t.bindings ≤ b

abbrev pub IsRefusalOf : Fault → Refusal → Type 0
IsRefusalOf f (At file node rule ports) =
    (file ≡ f.file) × (node ≡ f.node) × (rule ≡ Parameters f.rule) × (ports ≡ [])
IsRefusalOf f Memory = ⊥

-- the values that were gathered
pub record IsBoundOf (shapes : List Shape) (g : Gathered) (bound : Bound) : Type 0 where
  pub values : AreAllValues shapes g.winners (length shapes) bound.components
  pub count : g.unreached ≡ Some bound.unreached
