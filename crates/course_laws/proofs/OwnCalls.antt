-- The calls of one component among those of several.
use Rattle.std.proofs.Common.{◌≡◌, ◌≢◌, ℕ, zero, suc, ◌+◌, ◌<◌, ◌==◌, Bool, true, false, List, [], ◌∷◌, ◌++◌, Option, Some, None, refl, ap, ap₂, ◌∙◌, arith, map}
use Rattle.std.specs.Prelude.{if◌then◌else◌}
use Rattle.std.specs.List.{slice_get}
use Rattle.std.specs.Option.{option_map_or}
use Rattle.value_types.specs.declared.shape.Shape.{Shape}
use Rattle.fmi_calls.specs.declared.call.Call.{Call}
use Rattle.system_model.specs.declared.bound.BoundValue.{BoundValue}
use Rattle.system_model.specs.declared.system.Component.{Component}
use Rattle.system_model.specs.declared.system.System.{System}
use Rattle.run_model.specs.Initial.{set_call}
use Rattle.slot_calls.specs.Log.{ComponentCall, Sent, component_calls, part}
use Rattle.slot_calls.specs.Stage.{has_events, shapes_of, to_those, to_those_from}
use Rattle.slot_calls.proofs.CallerLemmas.{askings_append, other, same}
use Rattle.event_iteration.specs.WalkCalls.{has_events_at, own}
use Rattle.event_iteration.proofs.ByLog.{own_append}
use Rattle.calling_sequence.specs.Calls.{binding_from, sets_of}
use Rattle.fmu_peer.specs.Talk.{calls_in}

-- they are the calls of its part of the log
pub own_calls : (k : ℕ) (log : List Sent) → calls_in (part k log) ≡ own k (component_calls log)
own_calls k [] = refl
own_calls k (s ∷ log) = by (s.component == k) (own_calls k log) where
  by : (b : Bool) → calls_in (part k log) ≡ own k (component_calls log) → calls_in (if b then s.exchange ∷ part k log else part k log) ≡ (if b then s.exchange.call ∷ own k (component_calls log) else own k (component_calls log))
  by true e = ap (λ (cs : List Call). s.exchange.call ∷ cs) e
  by false e = e

pub own_log : (k : ℕ) (a b : List Sent) → own k (component_calls (a ++ b)) ≡ own k (component_calls a) ++ own k (component_calls b)
own_log k a b = ap (own k) (askings_append a b) ∙ own_append k (component_calls a) (component_calls b)

-- one call
abbrev one : ℕ → Call → List ComponentCall
one i c = record { component = i; call = c } ∷ []

own_one : (i k : ℕ) (c : Call) → i ≡ k → own k (one i c) ≡ c ∷ []
own_one i k c is = ap (λ (b : Bool). if b then c ∷ [] else []) (same i k is)

own_none : (i k : ℕ) (c : Call) → i ≢ k → own k (one i c) ≡ []
own_none i k c is = ap (λ (b : Bool). if b then c ∷ [] else []) (other i k is)

-- ---- calls to those whose shape passes a test

module _ (test : Shape → Bool) (call : Shape → Call) where
  abbrev those_from : ℕ → List Component → List ComponentCall
  those_from i cs = to_those_from i test call (map (λ (c : Component). c.shape) cs)

  -- the one to a component
  abbrev to_one : Component → List Call
  to_one c = if test c.shape then call c.shape ∷ [] else []

  first_there : (b : Bool) (i k : ℕ) (c : Call) (rest : List ComponentCall) → i ≢ k → own k (if b then record { component = i; call = c } ∷ rest else rest) ≡ own k rest
  first_there true i k c rest is = own_append k (one i c) rest ∙ ap (λ (cs : List Call). cs ++ own k rest) (own_none i k c is)
  first_there false i k c rest is = refl

  first_here : (b : Bool) (i k : ℕ) (c : Call) (rest : List ComponentCall) → i ≡ k → own k rest ≡ [] → own k (if b then record { component = i; call = c } ∷ rest else rest) ≡ (if b then c ∷ [] else [])
  first_here true i k c rest is none = own_append k (one i c) rest ∙ ap₂ ◌++◌ (own_one i k c is) none
  first_here false i k c rest is none = none

  none_before : (i k : ℕ) (cs : List Component) → k < i → own k (those_from i cs) ≡ []
  none_before i k [] w = refl
  none_before i k (c ∷ cs) w = first_there (test c.shape) i k (call c.shape) (those_from (i + 1) cs) (λ e. absurd (omega (arith, e, w))) ∙ none_before (i + 1) k cs (omega (arith, w))

  own_from : (i k : ℕ) (cs : List Component) → own (i + k) (those_from i cs) ≡ option_map_or to_one (slice_get cs k) []
  own_from i k [] = refl
  own_from i zero (c ∷ cs) = first_here (test c.shape) i (i + 0) (call c.shape) (those_from (i + 1) cs) (omega arith) (none_before (i + 1) (i + 0) cs (omega arith))
  own_from i (suc k) (c ∷ cs) =
      first_there (test c.shape) i (i + suc k) (call c.shape) (those_from (i + 1) cs) (λ e. absurd (omega (arith, e)))
      ∙ ap (λ (n : ℕ). own n (those_from (i + 1) cs)) (omega arith) ∙ own_from (i + 1) k cs

  own_those : (system : System) (k : ℕ) → own k (to_those test call (shapes_of system)) ≡ option_map_or to_one (slice_get system.components k) []
  own_those system k = ap (λ (n : ℕ). own n (to_those test call (shapes_of system))) (omega arith) ∙ own_from 0 k system.components

  pub own_there : (system : System) (k : ℕ) (c : Component) → slice_get system.components k ≡ Some c → own k (to_those test call (shapes_of system)) ≡ to_one c
  own_there system k c of = own_those system k ∙ ap (λ (o : Option Component). option_map_or to_one o []) of

-- those with event mode get one each
pub own_events : (call : Call) (system : System) (k : ℕ) → own k (to_those has_events (λ (shape : Shape). call) (shapes_of system)) ≡ (if has_events_at system k then call ∷ [] else [])
own_events call system k = own_those has_events (λ (shape : Shape). call) system k ∙ by (slice_get system.components k) where
  by : (o : Option Component) → option_map_or (λ (c : Component). if c.shape.has_event_mode then call ∷ [] else []) o [] ≡ (if option_map_or (λ (c : Component). c.shape.has_event_mode) o false then call ∷ [] else [])
  by None = refl
  by (Some c) = refl

-- ---- the Sets of parameters

pub own_sets : (i k : ℕ) (values : List BoundValue) → (i == k) ≡ true → own k (sets_of i values) ≡ map set_call values
own_sets i k [] is = refl
own_sets i k (b ∷ values) is = ap (λ (h : Bool). if h then set_call b ∷ own k (sets_of i values) else own k (sets_of i values)) is ∙ ap (λ (cs : List Call). set_call b ∷ cs) (own_sets i k values is)

pub own_others : (i k : ℕ) (values : List BoundValue) → (i == k) ≡ false → own k (sets_of i values) ≡ []
own_others i k [] is = refl
own_others i k (b ∷ values) is = ap (λ (h : Bool). if h then set_call b ∷ own k (sets_of i values) else own k (sets_of i values)) is ∙ own_others i k values is

pub none_bound : (i k : ℕ) (lists : List (List BoundValue)) → k < i → own k (binding_from i lists) ≡ []
none_bound i k [] w = refl
none_bound i k (values ∷ lists) w =
    own_append k (sets_of i values) (binding_from (i + 1) lists) ∙ ap₂ ◌++◌ (own_others i k values (other i k (λ e. absurd (omega (arith, e, w))))) (none_bound (i + 1) k lists (omega (arith, w)))
