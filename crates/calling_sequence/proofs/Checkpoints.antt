-- The checkpoint of a run that is held, from the stages that make it.
use Rattle.std.proofs.Common.{◌≡◌, ℕ, ◌+◌, ◌^◌, ◌<◌, ◌≤◌, List, ◌++◌, Option, Ok, Err, ap, ◌∙◌, subst, append_assoc, arith, length}
use Rattle.std.specs.Prelude.{All, IfSome}
use Rattle.std.specs.List.{flat_map}
use Rattle.std.proofs.lemmas.List.{length-map}
use Rattle.value_types.specs.declared.shape.Shape.{Shape}
use Rattle.fmu_peer.specs.CloseAll.{Instance}
use Rattle.system_model.specs.declared.system.Component.{Component}
use Rattle.system_checkpoint.specs.declared.snapshot.ClockTimes.{ClockTimes}
use Rattle.system_checkpoint.specs.Spelling.{AreTimes, first_bytes, sized, spelling}
use Rattle.event_iteration.specs.Clocks.{timers_in}
use Rattle.slot_calls.specs.declared.bad_answer.BadAnswer.{BadAnswer}
use Rattle.slot_calls.specs.Stage.{IsAnswered, Stage, StopsAt, nothing, shapes, shapes_of}
use Rattle.slot_calls.proofs.CallerLemmas.{shape_of, shapes_same, stops_on, stops_prefix, told_on}
use Rattle.calling_sequence.specs.declared.buffers.Buffers.{Buffers}
use Rattle.calling_sequence.specs.declared.experiment.Experiment.{Experiment}
use Rattle.calling_sequence.specs.Calls.{entering_step, keeping, keeping_from}
use Rattle.calling_sequence.specs.Ends.{header_of}
use Rattle.calling_sequence.specs.StageOutcomes.{spot}
use Rattle.calling_sequence.specs.Holding.{KeepsBadly, KeepsBytes, KeepsWell, by_port, kept_at, rest_bytes, times_of}
use Rattle.calling_sequence.specs.Ready.{IsDone, MayBeRun}
use Rattle.calling_sequence.proofs.Held.{can_be_held}

-- ---- the bytes

-- the parts one after the other are the spelling
bytes_of : (e : Experiment) (t : ℕ) (b : Buffers) (states : List (List ℕ)) → b.schedule.stop ≡ e.plan.stop → (first mid last : List ℕ) → first ≡ first_bytes e.plan t ++ sized (header_of e.system e.plan) → mid ≡ first ++ flat_map sized states →
    last ≡ mid ++ rest_bytes e.system b.schedule.stop b.values (timers_in b.schedule) b.schedule.events → last ≡ spelling (header_of e.system e.plan) (kept_at e (spot t 0 b) states)
bytes_of e t b states stop first mid last one two three =
    let rest : ℕ → List ℕ = λ end. rest_bytes e.system end b.values (timers_in b.schedule) b.schedule.events in
    let prefix = first_bytes e.plan t in
    let header = sized (header_of e.system e.plan) in
    let all = flat_map sized states in
    three ∙ ap (λ (end : ℕ). mid ++ rest end) stop ∙ ap (λ (l : List ℕ). l ++ rest e.plan.stop) (two ∙ ap (λ (l : List ℕ). l ++ all) one)
    ∙ append_assoc (prefix ++ header) all (rest e.plan.stop) ∙ append_assoc prefix header (all ++ rest e.plan.stop)

-- ---- the stages

module _ (e : Experiment) (olds mids news : List Instance) (fits : shapes olds ≡ shapes_of e.system) (entered : Stage (entering_step e.system) nothing olds mids (Ok tt)) where
  fits_mids : shapes mids ≡ shapes_of e.system
  fits_mids = shapes_same entered.log olds mids entered.told ∙ fits

  answered : IsAnswered (shapes_of e.system) (entering_step e.system) entered.log
  answered = subst (λ (ss : List Shape). IsAnswered ss (entering_step e.system) entered.log) fits entered.says.0

  pub keeps_badly : (bad : BadAnswer) → Stage (keeping_from 0 (shapes mids)) nothing mids news (Err bad) → KeepsBadly e bad olds news
  keeps_badly bad k = record {
    log = entered.log ++ k.log;
    told = told_on olds mids news entered.log k.log entered.told k.told;
    stops = stops_on (shapes_of e.system) (entering_step e.system) (keeping e.system) entered.log k.log answered bad (subst (λ (ss : List Shape). StopsAt ss (keeping_from 0 ss) bad k.log) fits_mids k.says);
  }

  pub keeps_well : (t n : ℕ) (b : Buffers) → MayBeRun e → (1 ≤ e.plan.resolution) × (e.plan.resolution ≤ 2 ^ 62) → e.plan.start ≤ t → t < e.plan.stop → IsDone e t n b → All (λ (times : Option ClockTimes). IfSome times AreTimes) (by_port times_of e.system.ports (timers_in b.schedule)) →
      Stage (keeping_from 0 (shapes mids)) nothing mids news (Ok tt) → (first mid last : List ℕ) → first ≡ first_bytes e.plan t ++ sized (header_of e.system e.plan) → KeepsBytes mids first mid →
      last ≡ mid ++ rest_bytes e.system b.schedule.stop b.values (timers_in b.schedule) b.schedule.events → KeepsWell e (spot t 0 b) olds news last
  keeps_well t n b may resolution begun early done bounds k first mid last one kept three = record {
    entered = entered.log;
    kept = k.log;
    mids = mids;
    states = kept.states;
    into = entered.told;
    entered_is = answered;
    packed = kept.packed;
    told = k.told;
    kept_is = subst (λ (ss : List Shape). IsAnswered ss (keeping_from 0 ss) k.log) fits_mids k.says.0;
    can = can_be_held e t n b may resolution begun early done bounds kept.states
        (let a = kept.packed.len in let m = length-map mids shape_of in let s = ap length fits_mids in let l = length-map e.system.components (λ (c : Component). c.shape) in omega (arith, a, m, s, l)) kept.few kept.are_bytes;
    bytes_are = bytes_of e t b kept.states done.timed.stops first mid last one kept.text three;
  }

-- an answer to EnterStep isn't good
pub stepped_badly : (e : Experiment) (olds news : List Instance) → shapes olds ≡ shapes_of e.system → (bad : BadAnswer) → Stage (entering_step e.system) nothing olds news (Err bad) → KeepsBadly e bad olds news
stepped_badly e olds news fits bad s = record {
  log = s.log;
  told = s.told;
  stops = stops_prefix (shapes_of e.system) (entering_step e.system) (keeping e.system) bad s.log (subst (λ (ss : List Shape). StopsAt ss (entering_step e.system) bad s.log) fits s.says);
}
