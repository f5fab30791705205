-- The Sets of bound parameters: after them told machines have these values.
use Rattle.std.proofs.Common.{◌≡◌, ℕ, zero, suc, ◌+◌, ◌<◌, ◌==◌, Bool, true, false, List, [], ◌∷◌, ◌++◌, Some, refl, ap, ◌∙◌, arith, get_or}
use Rattle.std.specs.Prelude.{All, if◌then◌else◌}
use Rattle.std.specs.List.{AllZip, slice_get}
use Rattle.std.proofs.lemmas.List.Elements.{All-append, All-cons, All-head, All-nil, All-tail}
use Rattle.fmu_peer.specs.Machine.{Machine, MachineState, after}
use Rattle.system_model.specs.declared.bound.Bound.{Bound}
use Rattle.system_model.specs.declared.bound.BoundValue.{BoundValue}
use Rattle.system_model.specs.declared.system.Component.{Component}
use Rattle.system_model.specs.declared.system.System.{System}
use Rattle.system_model.specs.Bounds.{AreParameterValues, BindsParameters, IsParameterValue}
use Rattle.run_model.specs.Initial as I
use Rattle.run_model.specs.Initial.{set_call, with_bound}
use Rattle.run_model.specs.Run.{Run}
use Rattle.slot_calls.specs.Log.{ComponentCall, Sent, component_call, component_calls, part}
use Rattle.slot_calls.specs.Replies.{state_by, states_by}
use Rattle.slot_calls.specs.Stage.{IsAnswered, shapes_of}
use Rattle.slot_calls.proofs.CallerLemmas.{first_same, other, rest_same, same, skips, takes}
use Rattle.event_iteration.proofs.ByLog.{each_same}
use Rattle.calling_sequence.specs.Calls.{binding, binding_from, sets_of}

module _ (m : Machine) (k : ℕ) where
  abbrev Led : Bool → List BoundValue → List ComponentCall → List Sent → MachineState → Type 0
  Led own values rest log z = (more : List Sent) × (component_calls more ≡ rest) × (state_by m z (part k log) ≡ state_by m (if own then with_bound m values z else z) (part k more))

  -- the Sets of one component's values lead its machine on, and no other
  bound_on : (own : Bool) (i : ℕ) → (i == k) ≡ own → (values : List BoundValue) (rest : List ComponentCall) (log : List Sent) (z : MachineState) → component_calls log ≡ sets_of i values ++ rest → Led own values rest log z
  bound_on true i e [] rest log z is = (log, is, refl)
  bound_on false i e [] rest log z is = (log, is, refl)
  bound_on own i e (b ∷ bs) rest [] z is = absurd (cc)
  bound_on true i e (b ∷ bs) rest (s ∷ log) z is =
      let first = first_same (component_call s) (record { component = i; call = set_call b }) (component_calls log) (sets_of i bs ++ rest) is in
      let more = bound_on true i e bs rest log (after m z (set_call b)) (rest_same (component_call s) (record { component = i; call = set_call b }) (component_calls log) (sets_of i bs ++ rest) is) in
      (more.0, more.1, ap (state_by m z) (takes (s.component == k) s.exchange (part k log) (ap (λ (a : ComponentCall). a.component == k) first ∙ e)) ∙ ap (λ (a : ComponentCall). state_by m (after m z a.call) (part k log)) first ∙ more.2)
  bound_on false i e (b ∷ bs) rest (s ∷ log) z is =
      let first = first_same (component_call s) (record { component = i; call = set_call b }) (component_calls log) (sets_of i bs ++ rest) is in
      let more = bound_on false i e bs rest log z (rest_same (component_call s) (record { component = i; call = set_call b }) (component_calls log) (sets_of i bs ++ rest) is) in
      (more.0, more.1, ap (state_by m z) (skips (s.component == k) s.exchange (part k log) (ap (λ (a : ComponentCall). a.component == k) first ∙ e)) ∙ more.2)

  none_from : (i : ℕ) (lists : List (List BoundValue)) (log : List Sent) (z : MachineState) → component_calls log ≡ binding_from i lists → k < i → state_by m z (part k log) ≡ z
  none_from i [] [] z is before = refl
  none_from i [] (s ∷ log) z is before = absurd (cc)
  none_from i (values ∷ lists) log z is before =
      let one = bound_on false i (other i k (λ e. absurd (omega (arith, e, before)))) values (binding_from (i + 1) lists) log z is in
      one.2 ∙ none_from (i + 1) lists one.0 z one.1 (omega (arith, before))

  pub bound_from : (i d : ℕ) (lists : List (List BoundValue)) (log : List Sent) (z : MachineState) → component_calls log ≡ binding_from i lists → i + d ≡ k → state_by m z (part k log) ≡ with_bound m (get_or lists d []) z
  bound_from i d [] [] z is at = refl
  bound_from i d [] (s ∷ log) z is at = absurd (cc)
  bound_from i zero (values ∷ lists) log z is at =
      let one = bound_on true i (same i k (omega (arith, at))) values (binding_from (i + 1) lists) log z is in
      one.2 ∙ none_from (i + 1) lists one.0 (with_bound m values z) one.1 (omega (arith, at))
  bound_from i (suc d) (values ∷ lists) log z is at =
      let one = bound_on false i (other i k (λ e. absurd (omega (arith, e, at)))) values (binding_from (i + 1) lists) log z is in
      one.2 ∙ bound_from (i + 1) d lists one.0 z one.1 (omega (arith, at))

-- once the Sets were answered well, the parameters have their values
pub configured_states : (r : Run) (log : List Sent) → IsAnswered (shapes_of r.system) (binding r.bound) log → states_by r (I.instantiated r) log ≡ I.configured r
configured_states r log answered =
    each_same r (I.instantiated r) (λ i c m s. state_by m s (part i log)) (λ i c m s. with_bound m (I.bound_values r i) s) (λ i c m s fmu. bound_from m i 0 i r.bound.components log s answered.calls_are (omega arith))

-- ---- which calls these are

module _ (P : ComponentCall → Type 0) where
  all_sets : (i : ℕ) (values : List BoundValue) → All (λ (b : BoundValue). P (record { component = i; call = set_call b })) values → All P (sets_of i values)
  all_sets i [] all = All-nil P
  all_sets i (b ∷ bs) all =
      All-cons P (record { component = i; call = set_call b }) (sets_of i bs) (All-head (λ (x : BoundValue). P (record { component = i; call = set_call x })) b bs all)
      (all_sets i bs (All-tail (λ (x : BoundValue). P (record { component = i; call = set_call x })) b bs all))

-- a Set of a parameter of one of these components
pub record IsParameterSet (k : ℕ) (cs : List Component) (a : ComponentCall) : Type 0 where
  pub value : BoundValue
  pub place : ℕ
  pub component : Component
  pub call_is : a.call ≡ set_call value
  pub at : a.component ≡ k + place
  pub of : slice_get cs place ≡ Some component
  pub is : IsParameterValue component.shape value

one_later : (k : ℕ) (c : Component) (cs : List Component) (a : ComponentCall) → IsParameterSet (k + 1) cs a → IsParameterSet k (c ∷ cs) a
one_later k c cs a h = record {
  value = h.value;
  place = suc h.place;
  component = h.component;
  call_is = h.call_is;
  at = let e = h.at in omega (arith, e);
  of = h.of;
  is = h.is;
}

all_from : (k : ℕ) (cs : List Component) (lists : List (List BoundValue)) → AllZip (λ (c : Component) (values : List BoundValue). AreParameterValues c.shape values) cs lists →
    All (IsParameterSet k cs) (binding_from k lists)
all_from k cs [] zip = All-nil (IsParameterSet k cs)
all_from k [] (values ∷ lists) zip = absurd zip
all_from k (c ∷ cs) (values ∷ lists) zip =
    let more = all_from (k + 1) cs lists zip.1 in
    All-append (IsParameterSet k (c ∷ cs)) (sets_of k values) (binding_from (k + 1) lists)
    (all_sets (IsParameterSet k (c ∷ cs)) k values (λ i d w. record {
      value = get_or values i d;
      place = 0;
      component = c;
      call_is = refl;
      at = omega arith;
      of = refl;
      is = zip.0.each i d w;
    }))
    (λ i d w. one_later k c cs (get_or (binding_from (k + 1) lists) i d) (more i d w))

-- each is one of a parameter of its component
pub binding_all : (system : System) (bound : Bound) → BindsParameters system bound → All (IsParameterSet 0 system.components) (binding bound)
binding_all system bound binds = all_from 0 system.components bound.components binds

-- what holds of calls that go on after a log holds of one of its calls and of those before it
pub amid_all : (P : ComponentCall → Type 0) (prefix : List Sent) (last : Sent) (back : List Sent) (left : List ComponentCall) → All P (component_calls (prefix ++ last ∷ back) ++ left) →
    P (component_call last) × All (λ (s : Sent). P (component_call s)) prefix
amid_all P [] last back left all = (all 0 (component_call last) (omega arith), All-nil (λ (s : Sent). P (component_call s)))
amid_all P (f ∷ prefix) last back left all =
    let more = amid_all P prefix last back left (All-tail P (component_call f) (component_calls (prefix ++ last ∷ back) ++ left) all) in
    (more.0, All-cons (λ (s : Sent). P (component_call s)) f prefix (all 0 (component_call f) (omega arith)) more.1)
