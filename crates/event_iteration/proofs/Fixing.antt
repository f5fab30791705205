-- The questions of fixed and changing Clocks, port by port.
use Rattle.std.proofs.Common.{◌≡◌, inl, inr, ℕ, ◌+◌, ◌<◌, ◌≤◌, true, false, List, [], ◌∷◌, ◌++◌, Some, None, Ok, Err, refl, sym, ap, ap₂, ◌∙◌, subst, append_assoc, append-nil, arith, length, map, take, drop}
use Rattle.std.specs.Prelude.{option_map, slice_get}
use Rattle.std.proofs.lemmas.Bool.{cases_lt}
use Rattle.std.proofs.lemmas.List.{length-map, take-append-drop, take_all, take_more}
use Rattle.std.proofs.lemmas.Option.{get_or_from_slice_get, same_Some, slice_get-map, slice_get_within}
use Rattle.clock_fraction.specs.Counts.{counts_of}
use Rattle.value_types.specs.declared.shape.Shape.{Shape}
use Rattle.fmi_calls.specs.declared.call.Call.TheVariants as C
use Rattle.fmi_calls.specs.declared.call.Reply.{Reply}
use Rattle.fmu_peer.specs.CloseAll.{Instance}
use Rattle.system_model.specs.declared.system.Role.{Role}
use Rattle.system_model.specs.declared.system.Role.TheVariants.{TimeClock}
use Rattle.system_model.specs.declared.system.Timing.TheVariants.{Periodic, Answered, Countdown, Changing}
use Rattle.system_model.specs.declared.system.Component.{Component}
use Rattle.system_model.specs.declared.system.Port.{Port}
use Rattle.system_model.specs.declared.system.System.{System}
use Rattle.system_model.proofs.CallerLemmas.{all_by_place, true_false}
use Rattle.tick_schedule.specs.declared.clock.ClockState.{ClockState}
use Rattle.tick_schedule.specs.declared.clock.ClockState.TheVariants as S
use Rattle.tick_schedule.specs.Timetable.{Timetable}
use Rattle.run_model.specs.Initial.{interval_in, shift_in}
use Rattle.run_model.specs.Run.{Timer, Never, Every}
use Rattle.run_model.specs.Timers.{armed_after, fixed}
use Rattle.slot_calls.specs.declared.bad_answer.BadAnswer.{BadAnswer}
use Rattle.slot_calls.specs.Log.{ComponentCall, Sent, Told, component_calls}
use Rattle.slot_calls.specs.Stage.{IsAnswered, Stage, StopsAt, shapes, shapes_of}
use Rattle.slot_calls.proofs.CallerLemmas.{answered_none, answered_on, shapes_same, stops_on, stops_prefix, told_none, told_on}
use Rattle.event_iteration.specs.Clocks.{IsNextFrom, StandsAt, first_place, first_table, timer_in, timers_in}
use Rattle.event_iteration.specs.Intervals.{Fixes, first_told_by, first_told_in, log_after, shifted_timer, timing_calls, timing_calls_in, timing_calls_of, told_timer}
use Rattle.event_iteration.specs.Questions.{FixSays, FixesPort, IsEntered, IsFirstPlace, IsFixed, IsFixedUpTo, IsShifted, first_reply, is_asked, is_changing, modes}
use Rattle.event_iteration.proofs.Answering.{one_answer}
use Rattle.event_iteration.proofs.Fmus.{got}
use Rattle.event_iteration.proofs.Places.{beside_now, many_now, place_now, set_same, timers_now}

-- ---- one port

first_of : (start : ℕ) (role : Role) → is_asked role ≡ false → IsFirstPlace start role (first_place role)
first_of start (TimeClock Answered) none = absurd (true_false none)
first_of start (TimeClock (Periodic interval shift)) none = record { of = (0, refl); next = (omega arith, λ k lt. absurd (omega (arith, lt))) }
first_of start (TimeClock Countdown) none = record { of = (None, refl); next = tt }
first_of start (TimeClock Changing) none = record { of = (None, refl); next = tt }
first_of start role none = record { of = refl; next = tt }

timer_of_first : (role : Role) (per_second start : ℕ) → is_asked role ≡ false → timer_in (first_place role) ≡ first_told_by role per_second start []
timer_of_first (TimeClock Answered) per_second start none = absurd (true_false none)
timer_of_first role per_second start none = refl

no_calls : (role : Role) (port : Port) → is_asked role ≡ false → is_changing role ≡ false → timing_calls_of role port ≡ []
no_calls (TimeClock Answered) port none unchanging = absurd (true_false none)
no_calls (TimeClock Changing) port none unchanging = absurd (true_false unchanging)
no_calls role port none unchanging = refl

-- a port that isn't asked
pub fixes_none : (port : Port) (per_second p : ℕ) (table : Timetable) (is : List Instance) → is_asked port.role ≡ false → is_changing port.role ≡ false → slice_get table.clocks p ≡ Some (first_place port.role) → FixesPort port per_second p table table is is (Ok tt)
fixes_none port per_second p table is none unchanging first = record {
  log = [];
  told = told_none is;
  says = (
    subst (λ (cs : List ComponentCall). IsAnswered (shapes is) cs []) (sym (no_calls port.role port none unchanging)) (answered_none (shapes is)),
    record {
      place = first_place port.role;
      is = sym (ap (λ (cs : List ClockState). record table { clocks = cs }) (set_same table.clocks p (first_place port.role) first));
      timer = timer_of_first port.role per_second table.start none;
      first = first_of table.start port.role none;
    },
  );
}

abbrev pub ask_interval : Port → ComponentCall
ask_interval port = record { component = port.component.0; call = C.GetInterval port.reference }

abbrev pub ask_shift : Port → ComponentCall
ask_shift port = record { component = port.component.0; call = C.GetShift port.reference }

-- one that is asked
module _ (port : Port) (answered : port.role ≡ TimeClock Answered) (per_second p : ℕ) (before after : Timetable) (olds mids : List Instance) where
  pub fixes_cut : (bad : BadAnswer) → Stage (ask_interval port ∷ []) first_reply olds mids (Err bad) → FixesPort port per_second p before after olds mids (Err bad)
  fixes_cut bad stage = record {
    log = stage.log;
    told = stage.told;
    says = subst (λ (r : Role). StopsAt (shapes olds) (timing_calls_of r port) bad stage.log) (sym answered) (stops_prefix (shapes olds) (ask_interval port ∷ []) (ask_shift port ∷ []) bad stage.log stage.says);
  }

  module _ (interval : Reply) (one : Stage (ask_interval port ∷ []) first_reply olds mids (Ok (Some interval))) (news : List Instance) where
    pub fixes_cut_later : (bad : BadAnswer) → Stage (ask_shift port ∷ []) first_reply mids news (Err bad) → FixesPort port per_second p before after olds news (Err bad)
    fixes_cut_later bad two = record {
      log = one.log ++ two.log;
      told = told_on olds mids news one.log two.log one.told two.told;
      says = subst (λ (r : Role). StopsAt (shapes olds) (timing_calls_of r port) bad (one.log ++ two.log)) (sym answered)
          (stops_on (shapes olds) (ask_interval port ∷ []) (ask_shift port ∷ []) one.log two.log one.says.0 bad (subst (λ (ss : List Shape). StopsAt ss (ask_shift port ∷ []) bad two.log) (shapes_same one.log olds mids one.told) two.says));
    }

    pub fixes_both : (shift : Reply) → Stage (ask_shift port ∷ []) first_reply mids news (Ok (Some shift)) → (shape : Shape) → slice_get (shapes olds) port.component.0 ≡ Some shape → IsEntered p (fixed per_second (interval_in interval) (shift_in shift)) before after →
        FixesPort port per_second p before after olds news (Ok tt)
    fixes_both shift two shape at entered =
        let alike = shapes_same one.log olds mids one.told in
        let later : IsAnswered (shapes olds) (ask_shift port ∷ []) two.log = subst (λ (ss : List Shape). IsAnswered ss (ask_shift port ∷ []) two.log) alike two.says.0 in
        let a = one_answer (shapes olds) port.component.0 (C.GetInterval port.reference) shape interval one.log at one.says.0 one.says.1 in
        let b = one_answer (shapes olds) port.component.0 (C.GetShift port.reference) shape shift two.log at later two.says.1 in
        record {
          log = one.log ++ two.log;
          told = told_on olds mids news one.log two.log one.told two.told;
          says = subst (λ (r : Role). FixSays r port per_second p (shapes olds) (one.log ++ two.log) before after (Ok tt)) (sym answered) (
            answered_on (shapes olds) (ask_interval port ∷ []) (ask_shift port ∷ []) one.log two.log one.says.0 later,
            record {
              place = S.Periodic entered.interval entered.shift 0;
              is = entered.is;
              timer = sym entered.timer_is ∙ sym (ap₂ (λ (x y : List Sent). told_timer per_second (x ++ y)) a.is b.is);
              first = record {
                of = (entered.interval, entered.shift, 0, refl, entered.above);
                next = (omega arith, λ k lt. absurd (omega (arith, lt)));
              };
            },
          );
        }

-- a changing Clock
module _ (port : Port) (changing : port.role ≡ TimeClock Changing) (per_second p : ℕ) (before after : Timetable) (olds news : List Instance) where
  pub shift_cut : (bad : BadAnswer) → Stage (ask_shift port ∷ []) first_reply olds news (Err bad) → FixesPort port per_second p before after olds news (Err bad)
  shift_cut bad stage = record {
    log = stage.log;
    told = stage.told;
    says = subst (λ (r : Role). StopsAt (shapes olds) (timing_calls_of r port) bad stage.log) (sym changing) stage.says;
  }

  pub shift_entered : (shift : Reply) → Stage (ask_shift port ∷ []) first_reply olds news (Ok (Some shift)) → (shape : Shape) → slice_get (shapes olds) port.component.0 ≡ Some shape →
      IsShifted p (armed_after before.start (counts_of (shift_in shift) per_second)) before after → FixesPort port per_second p before after olds news (Ok tt)
  shift_entered shift stage shape at shifted =
      let a = one_answer (shapes olds) port.component.0 (C.GetShift port.reference) shape shift stage.log at stage.says.0 stage.says.1 in
      record {
        log = stage.log;
        told = stage.told;
        says = subst (λ (r : Role). FixSays r port per_second p (shapes olds) stage.log before after (Ok tt)) (sym changing) (
          stage.says.0,
          record {
            place = S.Countdown (Some (before.start + shifted.shift));
            is = shifted.is;
            timer = sym shifted.timer_is ∙ sym (ap (shifted_timer per_second before.start) a.is);
            first = record { of = (Some (before.start + shifted.shift), refl); next = omega arith };
          },
        );
      }

-- ---- the calls and the timers of several ports

calls_append : (xs ys : List Port) → timing_calls_in (xs ++ ys) ≡ timing_calls_in xs ++ timing_calls_in ys
calls_append [] ys = refl
calls_append (x ∷ xs) ys = ap (λ cs. timing_calls_of x.role x ++ cs) (calls_append xs ys) ∙ sym (append_assoc (timing_calls_of x.role x) (timing_calls_in xs) (timing_calls_in ys))

told_append : (per_second start : ℕ) (xs ys : List Port) (log more : List Sent) → component_calls log ≡ timing_calls_in xs →
    first_told_in per_second start (xs ++ ys) (log ++ more) ≡ first_told_in per_second start xs log ++ first_told_in per_second start ys more
told_append per_second start [] ys [] more is = refl
told_append per_second start [] ys (s ∷ log) more is = absurd (cc)
told_append per_second start (x ∷ xs) ys log more is = by x.role log is (λ rest rest_is. told_append per_second start xs ys rest more rest_is)
  where
    by : (role : Role) (some : List Sent) → component_calls some ≡ timing_calls_of role x ++ timing_calls_in xs →
        ((rest : List Sent) → component_calls rest ≡ timing_calls_in xs → first_told_in per_second start (xs ++ ys) (rest ++ more) ≡ first_told_in per_second start xs rest ++ first_told_in per_second start ys more) →
        first_told_by role per_second start (some ++ more) ∷ first_told_in per_second start (xs ++ ys) (log_after role (some ++ more)) ≡ first_told_by role per_second start some ∷ (first_told_in per_second start xs (log_after role some) ++ first_told_in per_second start ys more)
    by (TimeClock Answered) [] e on = absurd (cc)
    by (TimeClock Answered) (a ∷ []) e on = absurd (cc)
    by (TimeClock Answered) (a ∷ b ∷ rest) e on = ap (λ ts. told_timer per_second (a ∷ b ∷ rest) ∷ ts) (on rest (cc))
    by (TimeClock Changing) [] e on = absurd (cc)
    by (TimeClock Changing) (a ∷ rest) e on = ap (λ ts. shifted_timer per_second start (a ∷ rest) ∷ ts) (on rest (cc))
    by (TimeClock (Periodic interval shift)) some e on = ap (λ ts. Every interval shift ∷ ts) (on some e)
    by role some e on = ap (λ ts. Never ∷ ts) (on some e)

-- ---- the first ports

pub record Fixing (system : System) (per_second k : ℕ) (first table : Timetable) (olds mids : List Instance) : Type 0 where
  pub log : List Sent
  pub told : Told log olds mids
  pub answered : IsAnswered (shapes_of system) (timing_calls_in (take k system.ports)) log
  pub modes_are : modes mids ≡ modes olds
  pub start : table.start ≡ first.start
  pub stop : table.stop ≡ first.stop
  pub events : table.events ≡ first.events
  pub fixed : IsFixedUpTo system k table
  pub timers : take k (timers_in table) ≡ first_told_in per_second first.start (take k system.ports) log

pub fixing_none : (system : System) (per_second : ℕ) (table : Timetable) (is : List Instance) → table ≡ first_table system table.start table.stop → Fixing system per_second 0 table table is is
fixing_none system per_second table is first =
    let places : table.clocks ≡ map (λ (port : Port). first_place port.role) system.ports = ap (λ (x : Timetable). x.clocks) first in
    record {
      log = [];
      told = told_none is;
      answered = answered_none (shapes_of system);
      modes_are = refl;
      start = refl;
      stop = refl;
      events = refl;
      fixed = record {
        len = ap length places ∙ length-map system.ports (λ (port : Port). first_place port.role);
        after = λ q port place lt. absurd (omega (arith, lt));
        ahead = λ q port le at. ap (λ xs. slice_get xs q) places ∙ slice_get-map (λ (x : Port). first_place x.role) system.ports q ∙ ap (option_map (λ (x : Port). first_place x.role)) at;
      };
      timers = refl;
    }

module _ (system : System) (per_second k : ℕ) (port : Port) (is : slice_get system.ports k ≡ Some port) where
  within : k < length system.ports
  within = slice_get_within system.ports k port is

  more_ports : take (k + 1) system.ports ≡ take k system.ports ++ port ∷ []
  more_ports = take_more system.ports k port within ∙ ap (λ (x : Port). take k system.ports ++ x ∷ []) (get_or_from_slice_get system.ports k port port is)

  more_calls : timing_calls_in (take (k + 1) system.ports) ≡ timing_calls_in (take k system.ports) ++ timing_calls_of port.role port
  more_calls = ap timing_calls_in more_ports ∙ calls_append (take k system.ports) (port ∷ []) ∙ ap (λ cs. timing_calls_in (take k system.ports) ++ cs) (append-nil (timing_calls_of port.role port))

  split_calls : timing_calls system ≡ (timing_calls_in (take k system.ports) ++ timing_calls_of port.role port) ++ timing_calls_in (drop (k + 1) system.ports)
  split_calls = ap timing_calls_in (sym (take-append-drop (k + 1) system.ports)) ∙ calls_append (take (k + 1) system.ports) (drop (k + 1) system.ports) ∙ ap (λ cs. cs ++ timing_calls_in (drop (k + 1) system.ports)) more_calls

  module _ (first table next : Timetable) (olds mids news : List Instance) (alike : shapes olds ≡ shapes_of system) (prefix : Fixing system per_second k first table olds mids) where
    shapes_mid : shapes mids ≡ shapes_of system
    shapes_mid = shapes_same prefix.log olds mids prefix.told ∙ alike

    -- up to a bad answer
    pub fixing_until : (bad : BadAnswer) → FixesPort port per_second k table next mids news (Err bad) → Fixes system per_second first.start (timers_in next) olds news (Err bad)
    fixing_until bad turn = record {
      log = prefix.log ++ turn.log;
      told = told_on olds mids news prefix.log turn.log prefix.told turn.told;
      says = subst (λ (cs : List ComponentCall). StopsAt (shapes_of system) cs bad (prefix.log ++ turn.log)) (sym split_calls)
          (stops_prefix (shapes_of system) (timing_calls_in (take k system.ports) ++ timing_calls_of port.role port) (timing_calls_in (drop (k + 1) system.ports)) bad (prefix.log ++ turn.log)
          (stops_on (shapes_of system) (timing_calls_in (take k system.ports)) (timing_calls_of port.role port) prefix.log turn.log prefix.answered bad (subst (λ (ss : List Shape). StopsAt ss (timing_calls_of port.role port) bad turn.log) shapes_mid turn.says)));
    }

    -- one port more
    module _ (turn : FixesPort port per_second k table next mids news (Ok tt)) where
      done : IsFixed port.role per_second k turn.log table next
      done = turn.says.1

      good_turn : IsAnswered (shapes_of system) (timing_calls_of port.role port) turn.log
      good_turn = subst (λ (ss : List Shape). IsAnswered ss (timing_calls_of port.role port) turn.log) shapes_mid turn.says.0

      in_clocks : k < length table.clocks
      in_clocks = let e = prefix.fixed.len in let w = within in omega (arith, e, w)

      start_is : next.start ≡ table.start
      start_is = ap (λ (x : Timetable). x.start) done.is

      fixed_more : IsFixedUpTo system (k + 1) next
      fixed_more = record {
        len = many_now table next k done.place in_clocks done.is ∙ prefix.fixed.len;
        after = λ q x place lt at at_place. (elim (cases_lt q k) as (λ c. IsFirstPlace next.start x.role place) [
          | inl below ↦
              subst (λ n. IsFirstPlace n x.role place) (sym start_is)
              (prefix.fixed.after q x place below at (sym (beside_now table next k done.place in_clocks done.is q (λ e. absurd (omega (arith, e, below)))) ∙ at_place))
          | inr past ↦
              let same_place : q ≡ k = omega (arith, lt, past) in
              let its : port ≡ x = same_Some _ _ (sym is ∙ ap (slice_get system.ports) (sym same_place) ∙ at) in
              let own : done.place ≡ place = same_Some _ _ (sym (place_now table next k done.place in_clocks done.is) ∙ ap (slice_get next.clocks) (sym same_place) ∙ at_place) in
              subst (λ n. IsFirstPlace n x.role place) (sym start_is) (subst (λ (y : Port). IsFirstPlace table.start y.role place) its (subst (IsFirstPlace table.start port.role) own done.first))
        ]);
        ahead = λ q x le at. beside_now table next k done.place in_clocks done.is q (λ e. absurd (omega (arith, e, le))) ∙ prefix.fixed.ahead q x (omega (arith, le)) at;
      }

      pub fixing_more : modes news ≡ modes mids → Fixing system per_second (k + 1) first next olds news
      fixing_more modes_same = record {
        log = prefix.log ++ turn.log;
        told = told_on olds mids news prefix.log turn.log prefix.told turn.told;
        answered = subst (λ (cs : List ComponentCall). IsAnswered (shapes_of system) cs (prefix.log ++ turn.log)) (sym more_calls)
            (answered_on (shapes_of system) (timing_calls_in (take k system.ports)) (timing_calls_of port.role port) prefix.log turn.log prefix.answered good_turn);
        modes_are = modes_same ∙ prefix.modes_are;
        start = start_is ∙ prefix.start;
        stop = ap (λ (x : Timetable). x.stop) done.is ∙ prefix.stop;
        events = ap (λ (x : Timetable). x.events) done.is ∙ prefix.events;
        fixed = fixed_more;
        timers = timers_now table next k done.place in_clocks done.is ∙ ap₂ (λ ts (t : Timer). ts ++ t ∷ []) prefix.timers (done.timer ∙ ap (λ n. first_told_by port.role per_second n turn.log) prefix.start)
            ∙ sym (ap (λ ps. first_told_in per_second first.start ps (prefix.log ++ turn.log)) more_ports ∙ told_append per_second first.start (take k system.ports) (port ∷ []) prefix.log turn.log prefix.answered.calls_are);
      }

-- ---- all of them

module _ (system : System) (per_second k : ℕ) (first table : Timetable) (olds mids : List Instance) (all : Fixing system per_second k first table olds mids) (whole : length system.ports ≤ k) where
  timers_whole : take k (timers_in table) ≡ timers_in table
  timers_whole = take_all k (timers_in table) (let a = length-map table.clocks timer_in in let b = all.fixed.len in let w = whole in omega (arith, a, b, w))

  ports_whole : take k system.ports ≡ system.ports
  ports_whole = take_all k system.ports whole

  pub fixing_all : Fixes system per_second first.start (timers_in table) olds mids (Ok tt)
  fixing_all = record {
    log = all.log;
    told = all.told;
    says = (
      subst (λ (ps : List Port). IsAnswered (shapes_of system) (timing_calls_in ps) all.log) ports_whole all.answered,
      sym timers_whole ∙ all.timers ∙ ap (λ (ps : List Port). first_told_in per_second first.start ps all.log) ports_whole,
    );
  }

  pub fixing_stands : first ≡ first_table system first.start first.stop → first.start ≤ first.stop → StandsAt system first.start true table
  fixing_stands first_is run = record {
    len = all.fixed.len;
    components = ap length all.events ∙ ap (λ (x : Timetable). length x.events) first_is ∙ length-map system.components (λ (c : Component). None);
    places = λ p port place at at_place. (all.fixed.after p port place (let w = slice_get_within system.ports p port at in let n = whole in omega (arith, w, n)) at at_place).of;
    next = all_by_place (IsNextFrom table.start first.start true) table.clocks (λ q place at_place.
        let w = slice_get_within table.clocks q place at_place in
        let port = port_there q (let e = all.fixed.len in omega (arith, e, w)) in
        let n = whole in
        subst (λ t. IsNextFrom table.start t true place) all.start
        (all.fixed.after q port.0 place (let e = all.fixed.len in omega (arith, e, w, n)) port.1 at_place).next);
    within = let e = all.stop in omega (arith, run, e);
  }
    where
      port_there : (q : ℕ) → q < length system.ports → (port : Port) × (slice_get system.ports q ≡ Some port)
      port_there q lt = got system.ports q lt
