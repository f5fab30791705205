-- The three FMUs side by side are a system that a master takes, and so are peers that were started for them.
use Rattle.std.proofs.Common.{◌≡◌, ℕ, zero, suc, ◌<◌, ℤ, pos, Bool, true, false, [], ◌∷◌, ap, ◌∙◌, length, refl, sym, subst, arith, All, nat_eq, ◌⊎◌, inr}
use Rattle.std.specs.Prelude.{List, Some, None, codes, slice_get}
use Rattle.std.specs.List.{AllZip, IsDistinct}
use Rattle.std.proofs.lemmas.Option.{none-some as none_some, same_Some}
use Rattle.std.proofs.lemmas.List.Elements.{All-nil, All-cons}
use Rattle.std.proofs.lemmas.Map.Keys.{IsDistinct-cons}
use Rattle.value_types.specs.declared.shape.Causality.TheVariants as V
use Rattle.value_types.specs.declared.values.PortType.TheVariants as T
use Rattle.value_types.specs.declared.shape.Variable.{Variable}
use Rattle.value_types.specs.declared.shape.Dependency.{Dependency}
use Rattle.value_types.specs.declared.shape.Knowns.TheVariants.{AllInputs, Listed}
use Rattle.value_types.specs.Shape.{is_clock, is_input_port}
use Rattle.value_types.specs.Values.{Fits}
use Rattle.system_model.specs.Bounds.{AreParameterValues, BindsParameters, IsParameterValue}
use Rattle.system_model.specs.declared.bound.Bound.{Bound}
use Rattle.system_model.specs.declared.bound.BoundValue.{BoundValue}
use Rattle.system_model.specs.declared.system.Component.{Component}
use Rattle.system_model.specs.declared.system.Port.{Port}
use Rattle.system_model.specs.declared.system.Role.TheVariants.{Output}
use Rattle.system_model.specs.declared.system.System.{System}
use Rattle.system_model.specs.Shapes.{HasFittingStart, HasNames, IsSoundShape, NamesClocks}
use Rattle.system_model.specs.Outputs.{HasOutputsAlone, IsOfOutputs}
use Rattle.system_model.specs.Sound.{IsSound}
use Rattle.system_model.proofs.CallerLemmas.{true_false, outputs_sound}
use Rattle.fmu_peer.specs.View.{View}
use Rattle.step_master.specs.System.{ArePeersOf, IsNew}
use Rattle.worked_rows.specs.Trio.{AreIncValues, component, counting, inc_value, number, on_nothing, port, trio}

all2 : {X : Type 0} (P : X → Type 0) (x y : X) → P x → P y → All P (x ∷ y ∷ [])
all2 P x y a b = All-cons P x (y ∷ []) a (All-cons P y [] b (All-nil P))

all3 : {X : Type 0} (P : X → Type 0) (x y z : X) → P x → P y → P z → All P (x ∷ y ∷ z ∷ [])
all3 P x y z a b c = All-cons P x (y ∷ z ∷ []) a (all2 P y z b c)

-- ---- an FMU

distinct_last : IsDistinct nat_eq (2 ∷ [])
unfolding IsDistinct
distinct_last = (tt, tt)

module _ (by : ℤ) (varies : Bool) (fits : Fits T.Int32 by) where
  abbrev inc : Variable
  inc = number (codes "inc") 1 V.Parameter (Some by)

  abbrev y : Variable
  y = number (codes "y") 2 V.Output None

  sound_shape : IsSoundShape (counting by varies)
  sound_shape = record {
    variables = record {
      named = all2 HasNames inc y (omega arith, All-nil _) (omega arith, All-nil _);
      distinct = IsDistinct-cons nat_eq 1 (2 ∷ []) (refl, tt) distinct_last;
      starts = all2 HasFittingStart inc y fits tt;
      clocks = all2 (NamesClocks (counting by varies)) inc y (λ e. All-nil _) (λ e. All-nil _);
    };
    clocks = tt;
    dependencies = (record { output = refl; on = All-nil _ }, tt);
    initial_dependencies = (record { output = refl; on = All-nil _ }, tt);
    serialized = λ e. absurd (true_false (sym e));
  }

  outputs_alone : HasOutputsAlone (counting by varies)
  outputs_alone = record {
    sound = sound_shape;
    no_events = refl;
    no_early = refl;
    no_inputs = all2 (λ (v : Variable). is_input_port v ≡ false) inc y refl refl;
    no_clocks = all2 (λ (v : Variable). is_clock v ≡ false) inc y refl refl;
    independent = All-cons (λ (d : Dependency). (d.on ≡ AllInputs) ⊎ (d.on ≡ Listed [])) on_nothing [] (inr refl) (All-nil _);
  }

-- ---- the system

abbrev first : Component
first = component (codes "first") 0 (counting (pos 2) true)

abbrev second : Component
second = component (codes "second") 0 (counting (pos 2) true)

abbrev third : Component
third = component (codes "third") 1 (counting (pos 5) false)

counts : All (λ (c : Component). c.shape.resolution ≡ 1000) trio.components
counts = all3 (λ (c : Component). c.shape.resolution ≡ 1000) first second third refl refl refl

of_outputs : IsOfOutputs trio
of_outputs = record {
  few = omega arith;
  named = all3 (λ (c : Component). 0 < length c.name) first second third (omega arith) (omega arith) (omega arith);
  shapes = all3 (λ (c : Component). HasOutputsAlone c.shape) first second third (outputs_alone (pos 2) true (omega arith, omega arith)) (outputs_alone (pos 2) true (omega arith, omega arith)) (outputs_alone (pos 5) false (omega arith, omega arith));
  per_second = 1000;
  above = omega arith;
  within = omega arith;
  resolutions = counts;
  few_ports = omega arith;
  numbered = refl;
  outputs = all3 (λ (p : Port). (p.role ≡ Output) × (p.clocks ≡ [])) (port 0) (port 1) (port 2) (refl, refl) (refl, refl) (refl, refl);
  instant_order = refl;
  initial_order = refl;
}

pub trio_sound : (system : System) → system ≡ trio → IsSound system
trio_sound system is = subst IsSound (sym is) (outputs_sound trio of_outputs)

pub trio_counts : (system : System) → system ≡ trio → All (λ (c : Component). c.shape.resolution ≡ 1000) system.components
trio_counts system is = subst (λ (s : System). All (λ (c : Component). c.shape.resolution ≡ 1000) s.components) (sym is) counts

-- ---- parameters

-- a number of 32 bits is a value for what a counter counts by
inc_alone : (inc : ℤ) → Fits T.Int32 inc → AreIncValues (inc_value inc ∷ [])
unfolding IsDistinct
inc_alone inc fits by varies = record {
  each = All-cons (IsParameterValue (counting by varies)) (inc_value inc) []
      (record { variable = number (codes "inc") 1 V.Parameter (Some by); at = refl; parameter = refl; kind = refl; no_clock = refl; fits = fits })
      (All-nil (IsParameterValue (counting by varies)));
  once = (tt, tt);
}

pub inc_bound : (values : List BoundValue) (b : BoundValue) → values ≡ b ∷ [] → b ≡ inc_value b.value → Fits T.Int32 b.value → AreIncValues values
inc_bound values b is value fits = subst AreIncValues (sym (is ∙ ap (λ (x : BoundValue). x ∷ []) value)) (inc_alone b.value fits)

-- and so is none
pub inc_unbound : (values : List BoundValue) → values ≡ [] → AreIncValues values
unfolding IsDistinct
inc_unbound values none = subst AreIncValues (sym none) (λ by varies. record { each = All-nil (IsParameterValue (counting by varies)); once = tt })

pub trio_bound : (a b c : List BoundValue) → AreIncValues a → AreIncValues b → AreIncValues c → (bound : Bound) → bound.components ≡ a ∷ b ∷ c ∷ [] → BindsParameters trio bound
trio_bound a b c of_a of_b of_c bound is =
    subst (λ (lists : List (List BoundValue)). AllZip (λ (of : Component) (values : List BoundValue). AreParameterValues of.shape values) trio.components lists) (sym is)
    (of_a (pos 2) true, (of_b (pos 2) true, (of_c (pos 5) false, tt)))

pub trio_binds : (system : System) (bound : Bound) → system ≡ trio → BindsParameters trio bound → BindsParameters system bound
trio_binds system bound is binds = subst (λ (s : System). BindsParameters s bound) (sym is) binds

-- ---- peers

pub trio_peers : (a b c : View) → IsNew (counting (pos 2) true) a → IsNew (counting (pos 2) true) b → IsNew (counting (pos 5) false) c → ArePeersOf trio (a ∷ b ∷ c ∷ [])
trio_peers a b c new_a new_b new_c = record { len = refl; each = each }
  where
    each : (i : ℕ) (of : Component) (v : View) → slice_get trio.components i ≡ Some of → slice_get (a ∷ b ∷ c ∷ []) i ≡ Some v → IsNew of.shape v
    each zero of v at is = subst (λ (x : Component). IsNew x.shape v) (same_Some first of at) (subst (IsNew first.shape) (same_Some a v is) new_a)
    each (suc zero) of v at is = subst (λ (x : Component). IsNew x.shape v) (same_Some second of at) (subst (IsNew second.shape) (same_Some b v is) new_b)
    each (suc (suc zero)) of v at is = subst (λ (x : Component). IsNew x.shape v) (same_Some third of at) (subst (IsNew third.shape) (same_Some c v is) new_c)
    each (suc (suc (suc i))) of v at is = absurd (none_some _ is)
