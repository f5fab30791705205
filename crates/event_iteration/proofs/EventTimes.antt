-- The event times that Updates ask for, FMU by FMU.
use Rattle.std.proofs.Common.{◌≡◌, ℕ, ◌+◌, ◌<◌, ◌≤◌, Bool, true, false, List, [], ◌∷◌, ◌++◌, Option, Some, None, refl, sym, ap, ap₂, ◌∙◌, subst, arith, length, get_or, take, set}
use Rattle.std.specs.Prelude.{IfSome, if◌then◌else◌, nat_lt, option_map}
use Rattle.std.specs.List.{slice_get}
use Rattle.std.proofs.lemmas.Bool.Decides.{nat_tests}
use Rattle.std.proofs.lemmas.List.{length-set, take_all, take_more, take_more_set}
use Rattle.std.proofs.lemmas.List.Elements.{All-cons, All-nil}
use Rattle.value_types.specs.declared.shape.Shape.{Shape}
use Rattle.fmi_calls.specs.declared.call.Call.TheVariants as C
use Rattle.fmi_calls.specs.declared.call.Content.TheVariants as A
use Rattle.fmi_calls.specs.declared.call.Reply.{Reply}
use Rattle.fmi_calls.specs.declared.call.Reply.TheVariants as R
use Rattle.std.specs.Prelude.{Result, Ok, Err}
use Rattle.std.specs.Result.{result_ok}
use Rattle.std.proofs.lemmas.Option.{get_or_from_slice_get, same_Some, slice_get-map, slice_get_within}
use Rattle.fmu_peer.specs.declared.peer.Exchange.{Exchange}
use Rattle.fmu_peer.specs.declared.peer.PeerFault.{PeerFault}
use Rattle.tick_schedule.specs.Timetable.{Timetable, with_event}
use Rattle.run_model.specs.AfterInstant.{event_after, if_later}
use Rattle.slot_calls.specs.Log.{ComponentCall, Sent, component_call, component_calls}
use Rattle.system_model.specs.declared.system.Component.{Component}
use Rattle.system_model.specs.declared.system.System.{System}
use Rattle.slot_calls.specs.Stage.{has_events, shapes_of, to_those_from}
use Rattle.slot_calls.proofs.CallerLemmas.{one_log, rest_same}
use Rattle.event_iteration.specs.Updates.{AreLater, event_by, events_told, first_event, other_answers, with_events}

-- ---- they are after the point

later_if : (t : ℕ) (asked : Option ℕ) → IfSome (if_later t asked) (λ time. t < time)
later_if t None = tt
later_if t (Some time) = by (nat_lt t time) refl
  where
    by : (b : Bool) → nat_lt t time ≡ b → IfSome (if b then Some time else None) (λ x. t < x)
    by true e = grind (arith, nat_tests)
    by false e = tt

later_after : (t : ℕ) (reply : Reply) → IfSome (event_after t reply) (λ time. t < time)
later_after t (R.Done is_warning (A.Update again terminate event_time)) = later_if t event_time
later_after t (R.Done is_warning content) = tt
later_after t (R.Refused k status) = tt

later_by : (t : ℕ) (result : Result Reply PeerFault) → IfSome (event_by t result) (λ time. t < time)
later_by t (Ok reply) = later_after t reply
later_by t (Err fault) = tt

later_first : (t : ℕ) (log : List Sent) → IfSome (first_event t log) (λ time. t < time)
later_first t [] = tt
later_first t (s ∷ log) = later_by t s.exchange.result

pub told_later : (t : ℕ) (shapes : List Shape) (log : List Sent) → AreLater t (events_told t shapes log)
told_later t [] log = All-nil (λ (e : Option ℕ). IfSome e (λ time. t < time))
told_later t (shape ∷ shapes) log = by (has_events shape) (told_later t shapes (other_answers log)) (told_later t shapes log)
  where
    by : (b : Bool) → AreLater t (events_told t shapes (other_answers log)) → AreLater t (events_told t shapes log) → AreLater t (if b then first_event t log ∷ events_told t shapes (other_answers log) else None ∷ events_told t shapes log)
    by true others all = All-cons (λ (e : Option ℕ). IfSome e (λ time. t < time)) (first_event t log) (events_told t shapes (other_answers log)) (later_first t log) others
    by false others all = All-cons (λ (e : Option ℕ). IfSome e (λ time. t < time)) None (events_told t shapes log) tt all

-- ---- one after the others

abbrev ask_update : ℕ → ComponentCall
ask_update k = record { component = k; call = C.Update }

abbrev updates_from : ℕ → List Shape → List ComponentCall
updates_from k shapes = to_those_from k has_events (λ (shape : Shape). C.Update) shapes

told_append : (t k : ℕ) (xs ys : List Shape) (log more : List Sent) → component_calls log ≡ updates_from k xs → events_told t (xs ++ ys) (log ++ more) ≡ events_told t xs log ++ events_told t ys more
told_append t k [] ys [] more is = refl
told_append t k [] ys (s ∷ log) more is = absurd (cc)
told_append t k (x ∷ xs) ys log more is = by (has_events x) log is (λ rest rest_is. told_append t (k + 1) xs ys rest more rest_is)
  where
    by : (b : Bool) (some : List Sent) → component_calls some ≡ (if b then ask_update k ∷ updates_from (k + 1) xs else updates_from (k + 1) xs) →
        ((rest : List Sent) → component_calls rest ≡ updates_from (k + 1) xs → events_told t (xs ++ ys) (rest ++ more) ≡ events_told t xs rest ++ events_told t ys more) →
        (if b then first_event t (some ++ more) ∷ events_told t (xs ++ ys) (other_answers (some ++ more)) else None ∷ events_told t (xs ++ ys) (some ++ more))
        ≡ (if b then first_event t some ∷ events_told t xs (other_answers some) else None ∷ events_told t xs some) ++ events_told t ys more
    by false some e on = ap (λ (es : List (Option ℕ)). None ∷ es) (on some e)
    by true [] e on = absurd (cc)
    by true (s ∷ some) e on = ap (λ (es : List (Option ℕ)). event_by t s.exchange.result ∷ es) (on some (rest_same (component_call s) (ask_update k) (component_calls some) (updates_from (k + 1) xs) e))

-- the shape of a component
pub shape_there : (system : System) (ss : List Shape) → ss ≡ shapes_of system → (place : ℕ) (component : Component) → slice_get system.components place ≡ Some component → (place < length ss) × (get_or ss place component.shape ≡ component.shape)
shape_there system ss alike place component of =
    let there : slice_get ss place ≡ Some component.shape = ap (λ (xs : List Shape). slice_get xs place) alike ∙ slice_get-map (λ (c : Component). c.shape) system.components place ∙ ap (option_map (λ (c : Component). c.shape)) of in
    (slice_get_within ss place component.shape there, get_or_from_slice_get ss place component.shape component.shape there)

-- the event times of the first FMUs are those that their answers ask for
pub record TellsUpTo (t place : ℕ) (shapes : List Shape) (first table : Timetable) (log : List Sent) : Type 0 where
  pub clocks : table ≡ with_events first table.events
  pub many : length table.events ≡ length first.events
  pub told : take place table.events ≡ events_told t (take place shapes) log

pub tells_none : (t : ℕ) (shapes : List Shape) (table : Timetable) → TellsUpTo t 0 shapes table table []
tells_none t shapes table = record { clocks = refl; many = refl; told = refl }

module _ (t place : ℕ) (shapes : List Shape) (first table next : Timetable) (log : List Sent) (shape : Shape) (prefix : TellsUpTo t place shapes first table log) (within : place < length table.events) (inside : place < length shapes)
    (is : get_or shapes place shape ≡ shape) (sent : component_calls log ≡ updates_from 0 (take place shapes)) where
  more_shapes : take (place + 1) shapes ≡ take place shapes ++ shape ∷ []
  more_shapes = take_more shapes place shape inside ∙ ap (λ (x : Shape). take place shapes ++ x ∷ []) is

  tells_one : (event : Option ℕ) (more : List Sent) → next ≡ with_event table place event → events_told t (shape ∷ []) more ≡ event ∷ [] → TellsUpTo t (place + 1) shapes first next (log ++ more)
  tells_one event more goes one =
      let events : next.events ≡ set table.events place event = ap (λ (x : Timetable). x.events) goes in
      record {
        clocks = goes ∙ ap (λ (x : Timetable). with_event x place event) prefix.clocks ∙ ap (λ (es : List (Option ℕ)). with_events first es) (sym events);
        many = ap length events ∙ length-set table.events place event ∙ prefix.many;
        told = ap (take (place + 1)) events ∙ take_more_set table.events place event within ∙ ap₂ (λ (xs ys : List (Option ℕ)). xs ++ ys) prefix.told (sym one)
            ∙ sym (ap (λ (xs : List Shape). events_told t xs (log ++ more)) more_shapes ∙ told_append t 0 (take place shapes) (shape ∷ []) log more sent);
      }

  -- one without event mode
  pub tells_left : has_events shape ≡ false → next ≡ with_event table place None → TellsUpTo t (place + 1) shapes first next log
  tells_left none goes =
      subst (λ (l : List Sent). TellsUpTo t (place + 1) shapes first next l) (append_none log)
      (tells_one None [] goes (ap (λ (b : Bool). if b then first_event t [] ∷ events_told t [] (other_answers []) else None ∷ events_told t [] []) none))
    where
      append_none : (l : List Sent) → l ++ [] ≡ l
      append_none [] = refl
      append_none (s ∷ l) = ap (λ (m : List Sent). s ∷ m) (append_none l)

  -- one that has answered
  pub tells_more : has_events shape ≡ true → (e : Exchange) (reply : Reply) (event : Option ℕ) → Some reply ≡ result_ok e.result → event ≡ event_after t reply → next ≡ with_event table place event → TellsUpTo t (place + 1) shapes first next (log ++ one_log place e)
  tells_more events e reply event told event_is goes =
      tells_one event (one_log place e) goes
      (ap (λ (b : Bool). if b then first_event t (one_log place e) ∷ events_told t [] (other_answers (one_log place e)) else None ∷ events_told t [] (one_log place e)) events
      ∙ ap (λ (x : Option ℕ). x ∷ []) (by e.result told ∙ sym event_is))
    where
      by : (result : Result Reply PeerFault) → Some reply ≡ result_ok result → event_by t result ≡ event_after t reply
      by (Ok y) same = ap (event_after t) (sym (same_Some _ _ same))
      by (Err fault) same = absurd (cc)

-- all of them
pub tells_all : (t place : ℕ) (shapes : List Shape) (first table : Timetable) (log : List Sent) → TellsUpTo t place shapes first table log → length first.events ≡ length shapes → length shapes ≤ place → table.events ≡ events_told t shapes log
tells_all t place shapes first table log all many whole =
    let of_table = all.many in
    sym (take_all place table.events (omega (arith, of_table, many, whole))) ∙ all.told ∙ ap (λ (xs : List Shape). events_told t xs log) (take_all place shapes whole)
