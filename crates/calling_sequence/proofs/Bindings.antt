-- Sets of bound parameters, one after the other (FMI 3.0, 4.2.1: Instantiated).
use Rattle.std.proofs.Common.{◌≡◌, ℕ, zero, suc, ◌+◌, ◌<◌, ◌≤◌, false, List, [], ◌∷◌, ◌++◌, Option, Some, Result, Ok, Err, refl, sym, ap, ◌∙◌, subst, append_assoc, append-nil, arith, length, get_or, set, map, take, drop}
use Rattle.std.specs.Prelude.{All}
use Rattle.std.specs.List.{AllZip}
use Rattle.std.specs.Option.{option_map_or}
use Rattle.std.specs.Prelude.{IsSomeAnd}
use Rattle.std.proofs.lemmas.List.{length-map, length-take, map-append, take_all, take_more, take-append-drop}
use Rattle.value_types.specs.Shape.{is_clock_type, is_parameter}
use Rattle.value_types.specs.declared.shape.Shape.{Shape}
use Rattle.value_types.specs.declared.shape.Variable.{Variable}
use Rattle.fmi_calls.specs.declared.call.Call.{Call}
use Rattle.fmi_calls.specs.declared.call.Reply.{Reply}
use Rattle.fmi_calls.specs.declared.phase.InstanceState.{InstanceState}
use Rattle.fmi_calls.specs.declared.phase.Phase.{Phase}
use Rattle.fmi_calls.specs.Next.{counted, marks_after_set}
use Rattle.fmi_calls.specs.Permission.{Permitted, can_be_set, none_marked}
use Rattle.fmu_peer.specs.declared.peer.Exchange.{Exchange}
use Rattle.fmu_peer.specs.declared.ended.Why.{Why}
use Rattle.fmu_peer.specs.CloseAll.{Instance}
use Rattle.fmu_peer.specs.View.{View}
use Rattle.system_model.specs.declared.bound.Bound.{Bound}
use Rattle.system_model.specs.declared.bound.BoundValue.{BoundValue}
use Rattle.system_model.specs.declared.system.Component.{Component}
use Rattle.system_model.specs.declared.system.System.{System}
use Rattle.system_model.specs.Bounds.{AreParameterValues, BindsParameters, IsParameterValue}
use Rattle.run_model.specs.Initial.{set_call}
use Rattle.slot_calls.specs.declared.bad_answer.BadAnswer.{BadAnswer}
use Rattle.slot_calls.specs.Carried.{reply_in}
use Rattle.slot_calls.specs.Log.{ComponentCall, One, Sent, Told}
use Rattle.slot_calls.specs.Stage.{IsAnswered, Stage, StopsAt, nothing, shapes, shapes_of}
use Rattle.slot_calls.proofs.CallerLemmas.{one_log, shape_of, stage_cut, stage_cut_later, stage_on, stops_prefix, Led, led, shape_there, turn_answered, turn_stops, turn_told}
use Rattle.event_iteration.proofs.ByLog.{value_type}
use Rattle.calling_sequence.specs.Calls.{binding_from, sets_of}
use Rattle.calling_sequence.specs.Place.{IsMade}
use Rattle.calling_sequence.proofs.Chains.{IsSet}
use Rattle.calling_sequence.proofs.Phases.{room_on, set_leads}

-- ---- one Set

-- a parameter may be set before Initialization Mode
pub may_set : (v : View) (b : BoundValue) → IsMade v → IsParameterValue v.fixed.shape b → Permitted v.fixed.shape v.phase (set_call b)
may_set v b made h =
    let shape = v.fixed.shape in (
      ap (λ (s : InstanceState). can_be_set s shape v.phase.marks v.phase.active b.reference) made.state
          ∙ ap (λ (o : Option Variable). option_map_or (λ (x : Variable). is_parameter x.causality) o false) h.at ∙ ap is_parameter h.parameter,
      (
        value_type b.kind (ap is_clock_type (sym h.kind) ∙ h.no_clock),
        subst (λ (o : Option Variable). IsSomeAnd o (λ (x : Variable). x.kind ≡ Some b.kind)) (sym h.at) h.kind,
      ),
      h.fits,
    )

-- and that marks nothing
pub set_stays : (v w : View) (e : Exchange) → IsMade v → Led v e w → IsSet e → IsMade w
set_stays v w e h l set =
    let phase : w.phase ≡ counted v.phase e.call =
    set_leads v w e l set ∙ ap (λ (s : InstanceState). record (counted v.phase e.call) { marks = marks_after_set s v.fixed.shape v.phase.marks set.1 }) h.state in
    record {
      state = ap (λ (p : Phase). p.state) phase ∙ h.state;
      unstepped = ap (λ (p : Phase). p.first_size) phase ∙ h.unstepped;
      clear = record { unset = ap (λ (p : Phase). none_marked p.marks) phase ∙ h.clear.unset; empty = ap (λ (p : Phase). p.slot.is_full) phase ∙ h.clear.empty };
      room = room_on v w l.fixed (ap (λ (p : Phase). length p.active) phase) h.room;
    }

-- ---- the Sets of one component

abbrev asking_by : ℕ → BoundValue → ComponentCall
asking_by place b = record { component = place; call = set_call b }

module _ (place : ℕ) (values : List BoundValue) (i : ℕ) (b : BoundValue) (within : i < length values) (is : b ≡ get_or values i b) where
  pub sets_more : sets_of place (take (i + 1) values) ≡ sets_of place (take i values) ++ asking_by place b ∷ []
  sets_more =
      ap (sets_of place) (take_more values i b within) ∙ map-append (asking_by place) (take i values) (get_or values i b ∷ [])
      ∙ ap (λ (x : BoundValue). sets_of place (take i values) ++ asking_by place x ∷ []) (sym is)

  pub sets_split : sets_of place values ≡ (sets_of place (take i values) ++ asking_by place b ∷ []) ++ sets_of place (drop (i + 1) values)
  sets_split =
      ap (sets_of place) (sym (take-append-drop (i + 1) values)) ∙ map-append (asking_by place) (take (i + 1) values) (drop (i + 1) values)
      ∙ ap (λ (cs : List ComponentCall). cs ++ sets_of place (drop (i + 1) values)) sets_more

-- one of them more, with the instance in a slot
module _ {A : Type 0} (f : A → Instance) (olds news : List A) (log : List Sent) (told : Told log (map f olds) (map f news)) (place : ℕ) (d y : A) (inside : place < length news)
    (values : List BoundValue) (i : ℕ) (b : BoundValue) (within : i < length values) (is : b ≡ get_or values i b) (call : Call) (call_is : call ≡ set_call b) where
  abbrev there : Instance
  there = f (get_or news place d)

  pub may_set_there : IsMade there.view → ((e : Shape) → All (IsParameterValue (get_or (shapes (map f olds)) place e)) values) → Permitted there.view.fixed.shape there.view.phase call
  may_set_there made all =
      let shape = there.view.fixed.shape in
      let own : IsParameterValue (get_or (shapes (map f olds)) place shape) b = subst (IsParameterValue (get_or (shapes (map f olds)) place shape)) (sym is) (all shape i b within) in
      subst (Permitted shape there.view.phase) (sym call_is)
      (may_set there.view b made (subst (λ (s : Shape). IsParameterValue s b) (sym (shape_there f (map f olds) news log told place d y inside shape)) own))

  pub set_made : (v : Option Reply) → One call reply_in there (f y) (Ok v) → IsMade there.view → IsMade (f y).view
  set_made v o made =
      set_stays there.view (f y).view o.exchange made (led there.view (f y).view o.exchange o.has.talks o.worth.0) (b.kind, b.reference, b.value, o.is ∙ call_is)

  pub set_told : (r : Result (Option Reply) Why) (o : One call reply_in there (f y) r) → Told (log ++ one_log place o.exchange) (map f olds) (map f (set news place y))
  set_told r o = turn_told f (map f olds) news log told place d y inside call reply_in r o

  module _ (answered : IsAnswered (shapes (map f olds)) (sets_of place (take i values)) log) where
    pub set_answered : (v : Option Reply) (o : One call reply_in there (f y) (Ok v)) → IsAnswered (shapes (map f olds)) (sets_of place (take (i + 1) values)) (log ++ one_log place o.exchange)
    set_answered v o =
        subst (λ (cs : List ComponentCall). IsAnswered (shapes (map f olds)) cs (log ++ one_log place o.exchange))
        (ap (λ (x : Call). sets_of place (take i values) ++ record { component = place; call = x } ∷ []) call_is ∙ sym (sets_more place values i b within is))
        (turn_answered f (map f olds) news log told place d y inside call reply_in (sets_of place (take i values)) answered v o)

    pub set_badly : (bad : BadAnswer) → bad.component.0 ≡ place → One call reply_in there (f y) (Err bad.why) → Stage (sets_of place values) nothing (map f olds) (map f (set news place y)) (Err bad)
    set_badly bad at o = record {
      log = log ++ one_log place o.exchange;
      told = set_told (Err bad.why) o;
      says = subst (λ (cs : List ComponentCall). StopsAt (shapes (map f olds)) cs bad (log ++ one_log place o.exchange))
          (ap (λ (x : Call). (sets_of place (take i values) ++ record { component = place; call = x } ∷ []) ++ sets_of place (drop (i + 1) values)) call_is ∙ sym (sets_split place values i b within is))
          (stops_prefix (shapes (map f olds)) _ (sets_of place (drop (i + 1) values)) bad (log ++ one_log place o.exchange)
          (turn_stops f (map f olds) news log told place d y inside call reply_in (sets_of place (take i values)) answered bad at o));
    }

-- once all were sent
pub sets_all : (place : ℕ) (values : List BoundValue) (i : ℕ) → length values ≤ i → sets_of place (take i values) ≡ sets_of place values
sets_all place values i h = ap (sets_of place) (take_all i values h)

-- ---- the Sets of all

pub binding_append : (k : ℕ) (xs ys : List (List BoundValue)) → binding_from k (xs ++ ys) ≡ binding_from k xs ++ binding_from (k + length xs) ys
binding_append k [] ys = ap (λ (n : ℕ). binding_from n ys) (omega arith)
binding_append k (values ∷ xs) ys =
    let place : k + 1 + length xs ≡ k + length (values ∷ xs) = omega arith in
    ap (λ (cs : List ComponentCall). sets_of k values ++ cs) (binding_append (k + 1) xs ys ∙ ap (λ (n : ℕ). binding_from (k + 1) xs ++ binding_from n ys) place)
    ∙ sym (append_assoc (sets_of k values) (binding_from (k + 1) xs) (binding_from (k + length (values ∷ xs)) ys))

module _ (lists : List (List BoundValue)) (i : ℕ) (values : List BoundValue) (within : i < length lists) (is : values ≡ get_or lists i values) where
  taken : length (take i lists) ≡ i
  taken = let l = length-take i lists in omega (arith, l, within)

  pub binding_more : binding_from 0 (take (i + 1) lists) ≡ binding_from 0 (take i lists) ++ sets_of i values
  binding_more =
      ap (binding_from 0) (take_more lists i values within) ∙ binding_append 0 (take i lists) (get_or lists i values ∷ [])
      ∙ ap (λ (vs : List BoundValue). binding_from 0 (take i lists) ++ binding_from (0 + length (take i lists)) (vs ∷ [])) (sym is)
      ∙ ap (λ (cs : List ComponentCall). binding_from 0 (take i lists) ++ cs) (append-nil (sets_of (0 + length (take i lists)) values))
      ∙ ap (λ (n : ℕ). binding_from 0 (take i lists) ++ sets_of n values) (let t = taken in omega (arith, t))

  pub binding_split : binding_from 0 lists ≡ (binding_from 0 (take i lists) ++ sets_of i values) ++ binding_from (0 + length (take (i + 1) lists)) (drop (i + 1) lists)
  binding_split =
      ap (binding_from 0) (sym (take-append-drop (i + 1) lists)) ∙ binding_append 0 (take (i + 1) lists) (drop (i + 1) lists)
      ∙ ap (λ (cs : List ComponentCall). cs ++ binding_from (0 + length (take (i + 1) lists)) (drop (i + 1) lists)) binding_more

  module _ (olds mids news : List Instance) (s : Stage (binding_from 0 (take i lists)) nothing olds mids (Ok tt)) where
    -- one component more
    pub binding_on : Stage (sets_of i values) nothing mids news (Ok tt) → Stage (binding_from 0 (take (i + 1) lists)) nothing olds news (Ok tt)
    binding_on t =
        subst (λ (cs : List ComponentCall). Stage cs nothing olds news (Ok tt)) (sym binding_more)
        (stage_on (binding_from 0 (take i lists)) (sets_of i values) nothing nothing nothing olds mids news tt tt tt s t refl)

    -- or a bad answer
    pub binding_cut : (bad : BadAnswer) (r : Result (Unit {0}) BadAnswer) → r ≡ Err bad → Stage (sets_of i values) nothing mids news (Err bad) → Stage (binding_from 0 lists) nothing olds news r
    binding_cut bad r is_bad t =
        subst (λ (cs : List ComponentCall). Stage cs nothing olds news r) (sym binding_split)
        (stage_cut (binding_from 0 (take i lists) ++ sets_of i values) _ nothing nothing olds mids news bad r is_bad
        (stage_cut_later (binding_from 0 (take i lists)) (sets_of i values) nothing nothing olds mids news bad (Err bad) refl tt s nothing t))

-- ---- what they are of

-- the values of a component are its parameters'
pub values_at : (ss : List Shape) (lists : List (List BoundValue)) → AllZip AreParameterValues ss lists → (i : ℕ) (d : Shape) (e : List BoundValue) → i < length lists → AreParameterValues (get_or ss i d) (get_or lists i e)
values_at ss [] zip i d e w = absurd (omega (arith, w))
values_at [] (vs ∷ lists) zip i d e w = absurd zip
values_at (s ∷ ss) (vs ∷ lists) zip zero d e w = zip.0
values_at (s ∷ ss) (vs ∷ lists) zip (suc i) d e w = values_at ss lists zip.1 i d e (omega (arith, w))

pub lists_length : (ss : List Shape) (lists : List (List BoundValue)) → AllZip AreParameterValues ss lists → length lists ≡ length ss
lists_length [] [] zip = refl
lists_length [] (vs ∷ lists) zip = absurd zip
lists_length (s ∷ ss) [] zip = absurd zip
lists_length (s ∷ ss) (vs ∷ lists) zip = ap suc (lists_length ss lists zip.1)

pub slots_length : {A : Type 0} (f : A → Instance) (slots : List A) (lists : List (List BoundValue)) → AllZip AreParameterValues (shapes (map f slots)) lists → length lists ≡ length slots
slots_length f slots lists zip = lists_length (shapes (map f slots)) lists zip ∙ length-map (map f slots) shape_of ∙ length-map slots f

by_shapes : (cs : List Component) (lists : List (List BoundValue)) → AllZip (λ (c : Component) (values : List BoundValue). AreParameterValues c.shape values) cs lists → AllZip AreParameterValues (map (λ (c : Component). c.shape) cs) lists
by_shapes [] [] zip = zip
by_shapes [] (vs ∷ lists) zip = absurd zip
by_shapes (c ∷ cs) [] zip = absurd zip
by_shapes (c ∷ cs) (vs ∷ lists) zip = (zip.0, by_shapes cs lists zip.1)

pub binds_shapes : (system : System) (bound : Bound) → BindsParameters system bound → AllZip AreParameterValues (shapes_of system) bound.components
binds_shapes system bound binds = by_shapes system.components bound.components binds
