-- The questions of countdown and changing Clocks after an instant, port by port.
use Rattle.std.proofs.Common.{true, ◌≡◌, inl, inr, ℕ, zero, suc, ◌+◌, ◌<◌, ◌≤◌, ℤ, Bool, false, List, [], ◌∷◌, ◌++◌, Option, Some, None, Ok, Err, refl, sym, ap, ap₂, ◌∙◌, subst, arith, length, get_or, set, take, drop}
use Rattle.std.specs.Prelude.{All, Contains, IsSomeAnd, if◌then◌else◌, option_map, slice_get, ◌||◌}
use Rattle.std.specs.List.{list_any}
use Rattle.std.specs.Option.{option_map_or}
use Rattle.std.proofs.lemmas.Bool.{cases_lt, eq-eqb, ne_eqb}
use Rattle.std.proofs.lemmas.List.{ext_get_or, length-map, set-get_or, take_all}
use Rattle.std.proofs.lemmas.List.Folds.{list_any-append}
use Rattle.std.proofs.lemmas.Option.{get_or_from_slice_get, same_Some, slice_get-map, slice_get_within}
use Rattle.std.proofs.Math.Bool.{or-false}
use Rattle.value_types.specs.Shape.{timing_at}
use Rattle.value_types.specs.declared.shape.ClockTiming.{ClockTiming}
use Rattle.value_types.specs.declared.shape.Shape.{Shape}
use Rattle.value_types.specs.declared.shape.Variable.{Variable}
use Rattle.fmi_calls.specs.declared.call.Call.{Call}
use Rattle.fmi_calls.specs.declared.call.Call.TheVariants as C
use Rattle.fmi_calls.specs.declared.call.Reply.{Reply}
use Rattle.fmi_calls.specs.Next.{running_state}
use Rattle.fmu_peer.specs.CloseAll.{Instance}
use Rattle.fmu_peer.specs.Answer.{IsWhy}
use Rattle.fmu_peer.specs.Machine.{after}
use Rattle.system_model.specs.declared.system.Component.{Component}
use Rattle.system_model.specs.declared.system.Role.{Role}
use Rattle.system_model.specs.declared.system.Role.TheVariants.{TimeClock}
use Rattle.system_model.specs.declared.system.Timing.TheVariants.{Periodic, Countdown, Changing}
use Rattle.system_model.specs.declared.system.Port.{Port}
use Rattle.system_model.specs.declared.system.System.{System}
use Rattle.system_model.specs.Sound.{IsRole, IsSound, IsTiming}
use Rattle.system_model.proofs.CallerLemmas.{all_at, all_by_place, true_false, Placed, place_of}
use Rattle.tick_schedule.specs.declared.clock.ClockState.{ClockState}
use Rattle.tick_schedule.specs.Timetable.{Timetable, with_clock}
use Rattle.run_model.specs.Run.{Timer, Never}
use Rattle.system_model.specs.Values.{value}
use Rattle.run_model.specs.Timers.{is_armed_for}
use Rattle.slot_calls.specs.declared.bad_answer.BadAnswer.{BadAnswer}
use Rattle.run_model.proofs.CallerLemmas.{none_in}
use Rattle.slot_calls.specs.Log.{ComponentCall, Sent, Told, component_calls}
use Rattle.slot_calls.specs.Stage.{Stage, StopsAt, shapes, shapes_of}
use Rattle.slot_calls.proofs.CallerLemmas.{shape_of, told_none, told_on}
use Rattle.event_iteration.specs.Clocks.{IsNextFrom, IsPlaceOf, StandsAt, is_due_in, timer_in, timers_in}
use Rattle.event_iteration.specs.Explains.{Explains, all_said}
use Rattle.event_iteration.specs.Instants.{IsRunning}
use Rattle.event_iteration.specs.Intervals.{AsksIntervals, Rearms, TellsTicks, asks_interval, interval_by, intervals, timer_after, timers_after, timers_after_from}
use Rattle.event_iteration.specs.Questions.{AreRunning, AsksPort, GoesFrom, InstanceMode, IsAfterUpTo, first_reply, is_asked_after, mode_of, modes, place_after}
use Rattle.event_iteration.specs.Settings.{port_order}
use Rattle.event_iteration.specs.Turns.{IsPaired, Stops, Turn, sent_of}
use Rattle.event_iteration.proofs.Answering.{asked_after, one_answer, own_shape}
use Rattle.event_iteration.proofs.Fmus.{got}
use Rattle.event_iteration.proofs.Places.{IsPositive, beside_now, many_now, next_after, place_now, place_of_after, timer_of_place, timers_now}
use Rattle.event_iteration.proofs.Timing.{asks_it}
use Rattle.event_iteration.proofs.Setting.{NoNeeds, all_ports, in_order, port_number}
use Rattle.event_iteration.proofs.Walking.{AreAbout, Here, explains_more, here_at, more_replies, with_reply, more_order, split_order}

-- ---- the states of the components

pub are_running : (system : System) (ss : List Instance) → shapes ss ≡ shapes_of system → All (λ (x : Instance). IsRunning x.view) ss → AreRunning system (modes ss)
are_running system ss alike all i c state of at =
    let x = got ss i (let w = slice_get_within (modes ss) i state at in let e = length-map ss mode_of in omega (arith, w, e)) in
    let own : state ≡ mode_of x.0 = same_Some _ _ (sym at ∙ slice_get-map mode_of ss i ∙ ap (option_map mode_of) x.1) in
    let shape : x.0.view.fixed.shape ≡ c.shape =
    same_Some _ _ (sym (slice_get-map shape_of ss i ∙ ap (option_map shape_of) x.1) ∙ ap (λ xs. slice_get xs i) alike ∙ slice_get-map (λ (y : Component). y.shape) system.components i ∙ ap (option_map (λ (y : Component). y.shape)) of) in
    ap (λ (m : InstanceMode). m.state) own ∙ all_at (λ (y : Instance). IsRunning y.view) ss i x.0 all x.1 ∙ ap running_state shape

-- ---- one port's call

asks_none : (role : Role) (port : Port) (v : Option ℤ) → is_asked_after role v ≡ false → asks_interval role port v ≡ None
asks_none (TimeClock Countdown) port v none = absurd (true_false none)
asks_none (TimeClock Changing) port v none = ap (λ b. if b then Some (C.GetInterval port.reference) else None) none
asks_none role port v none = refl

asks_one : (role : Role) (port : Port) (v : Option ℤ) → is_asked_after role v ≡ true → asks_interval role port v ≡ Some (C.GetInterval port.reference)
asks_one role port v asked = asks_it role port v (asked_after role v asked)

stays : (values : List (Option ℤ)) (p : ℕ) → values ≡ set values p (value values p)
stays values p = sym (set-get_or values p None)

first_is : (a b : ComponentCall) (xs ys : List ComponentCall) → a ∷ xs ≡ b ∷ ys → a ≡ b
first_is a b xs ys same = cc

module _ (system : System) (sound : IsSound system) (p : ℕ) (port : Port) (is : slice_get system.ports p ≡ Some port) where
  abbrev placed : Placed system p port
  placed = place_of system sound p port is

  -- a port that isn't asked
  pub asks_nothing : (olds : List Instance) (v : Option ℤ) → is_asked_after port.role v ≡ false → AsksPort system p v olds olds (Ok None)
  asks_nothing olds v none = record {
    log = [];
    told = told_none olds;
    says = λ values at. record {
      port = port;
      is = is;
      component = placed.component;
      of = placed.is.of;
      paired = subst (λ (o : Option Call). IsPaired placed.component.shape o None) (sym (unasked values at)) tt;
      sent_is = sym (ap (λ (o : Option Call). sent_of port.component.0 o None) (unasked values at));
      next_is = stays values p;
    };
  }
    where
      unasked : (values : List (Option ℤ)) → value values p ≡ v → asks_interval port.role port (value values p) ≡ None
      unasked values at = asks_none port.role port (value values p) (ap (is_asked_after port.role) at ∙ none)

  module _ (olds news : List Instance) (alike : shapes olds ≡ shapes_of system) (v : Option ℤ) (asked : is_asked_after port.role v ≡ true) where
    asks_is : (values : List (Option ℤ)) → value values p ≡ v → asks_interval port.role port (value values p) ≡ Some (C.GetInterval port.reference)
    asks_is values at = asks_one port.role port (value values p) (ap (is_asked_after port.role) at ∙ asked)

    -- one that is asked
    pub asks_well : (reply : Reply) → Stage (record { component = port.component.0; call = C.GetInterval port.reference } ∷ []) first_reply olds news (Ok (Some reply)) → AsksPort system p v olds news (Ok (Some reply))
    asks_well reply stage =
        let one = one_answer (shapes olds) port.component.0 (C.GetInterval port.reference) placed.component.shape reply stage.log (ap (λ xs. slice_get xs port.component.0) alike ∙ own_shape system sound p port is olds alike) stage.says.0 stage.says.1 in
        record {
          log = stage.log;
          told = stage.told;
          says = λ values at. record {
            port = port;
            is = is;
            component = placed.component;
            of = placed.is.of;
            paired = subst (λ (o : Option Call). IsPaired placed.component.shape o (Some reply)) (sym (asks_is values at)) one.good;
            sent_is = one.is ∙ sym (ap (λ (o : Option Call). sent_of port.component.0 o (Some reply)) (asks_is values at));
            next_is = stays values p;
          };
        }

    pub asks_badly : (bad : BadAnswer) → Stage (record { component = port.component.0; call = C.GetInterval port.reference } ∷ []) first_reply olds news (Err bad) → AsksPort system p v olds news (Err bad)
    asks_badly bad stage = record {
      log = stage.log;
      told = stage.told;
      says = last_one stage.says;
    }
      where
        own : (d : Shape) → placed.component.shape ≡ get_or (shapes olds) port.component.0 d
        own d = sym (get_or_from_slice_get (shapes olds) port.component.0 placed.component.shape d (ap (λ xs. slice_get xs port.component.0) alike ∙ own_shape system sound p port is olds alike))

        last_one : StopsAt (shapes olds) (record { component = port.component.0; call = C.GetInterval port.reference } ∷ []) bad stage.log → (last : Sent) × (stage.log ≡ last ∷ []) × ((values : List (Option ℤ)) → value values p ≡ v → Stops system (intervals values) p bad values last)
        last_one stops = by stops.prefix stops.left stops.log_is (stops.calls_are ∙ ap (λ es. component_calls es ++ stops.left) stops.log_is)
          where
            by : (prefix : List Sent) (left : List ComponentCall) → stage.log ≡ prefix ++ stops.last ∷ [] → record { component = port.component.0; call = C.GetInterval port.reference } ∷ [] ≡ component_calls (prefix ++ stops.last ∷ []) ++ left →
                (last : Sent) × (stage.log ≡ last ∷ []) × ((values : List (Option ℤ)) → value values p ≡ v → Stops system (intervals values) p bad values last)
            by [] left log_is calls_are =
                let own_call = first_is _ _ _ _ calls_are in
                let at : stops.last.component ≡ port.component.0 = sym (ap (λ (a : ComponentCall). a.component) own_call) in
                let call_is : stops.last.exchange.call ≡ C.GetInterval port.reference = sym (ap (λ (a : ComponentCall). a.call) own_call) in (
                  stops.last,
                  log_is,
                  λ values at_p. record {
                    port = port;
                    is = is;
                    component = placed.component;
                    of = placed.is.of;
                    asks = asks_is values at_p ∙ ap Some (sym call_is);
                    sent_to = at;
                    told_of = sym stops.first.component ∙ at;
                    why = subst (λ (s : Shape). IsWhy s bad.why stops.last.exchange) (ap (λ n. get_or (shapes olds) n placed.component.shape) at ∙ sym (own placed.component.shape)) (stops.first.why placed.component.shape);
                  },
                )
            by (s ∷ []) left log_is calls_are = absurd (cc)
            by (s ∷ u ∷ prefix) left log_is calls_are = absurd (cc)

-- ---- the first ports

pub record Rearming (system : System) (per_second t k : ℕ) (values : List (Option ℤ)) (before table : Timetable) (armed : Bool) (olds mids : List Instance) : Type 0 where
  pub log : List Sent
  pub told : Told log olds mids
  pub explains : Explains system (intervals values) values (take k (port_order system)) values log
  pub modes_are : modes mids ≡ modes olds
  pub after : IsAfterUpTo system per_second t values explains.replies k before table
  pub armed_is : armed ≡ list_any (is_armed_for t) (take k (timers_in table))

pub rearming_none : (system : System) (per_second t : ℕ) (values : List (Option ℤ)) (table : Timetable) (is : List Instance) → Rearming system per_second t 0 values table table false is is
rearming_none system per_second t values table is = record {
  log = [];
  told = told_none is;
  explains = record {
    replies = λ q. None;
    log_is = refl;
    paired = λ p port c at of m. absurd (none_in p m);
    taken_values = λ p port at m. refl;
    left = λ p m. refl;
  };
  modes_are = refl;
  after = record {
    start = refl;
    stop = refl;
    events = refl;
    len = refl;
    after = λ q port place lt. absurd (omega (arith, lt));
    ahead = λ q le. refl;
  };
  armed_is = refl;
}

about_intervals : (system : System) (now : List (Option ℤ)) → AreAbout NoNeeds system (intervals now)
about_intervals system now = record { asks_same = λ p port c V W is h. refl; takes_same = λ p port V W last reply is h. refl }

module _ (system : System) (values : List (Option ℤ)) (places : length values ≡ length system.ports) (k : ℕ) (within : k < length system.ports) (log more : List Sent) (reply : Option Reply)
    (prefix : Explains system (intervals values) values (take k (port_order system)) values log) (turn : Turn system (intervals values) k reply values values more) where
  abbrev here_now : Here NoNeeds (take k (port_order system)) k
  here_now = here_at (λ q. q < length system.ports) NoNeeds (port_order system) (take k (port_order system)) k (drop (k + 1) (port_order system)) (in_order system) (split_order (port_order system) k k (port_number system k within))

  abbrev on : Explains system (intervals values) values (take k (port_order system) ++ k ∷ []) values (log ++ more)
  on = explains_more NoNeeds system (intervals values) (about_intervals system values) values (take k (port_order system)) k reply values values log more
      here_now places prefix turn

  replies_on : on.replies ≡ with_reply k reply prefix.replies
  replies_on = more_replies NoNeeds system (intervals values) (about_intervals system values) values (take k (port_order system)) k reply values values log more here_now places prefix turn

  order_on : take k (port_order system) ++ k ∷ [] ≡ take (k + 1) (port_order system)
  order_on = sym (more_order (port_order system) k k (port_number system k within))

  pub explains_on : Explains system (intervals values) values (take (k + 1) (port_order system)) values (log ++ more)
  explains_on = record {
    replies = on.replies;
    log_is = on.log_is ∙ ap (λ (o : List ℕ). all_said system (intervals values) values on.replies o) order_on;
    paired = λ p port c is of m. on.paired p port c is of (subst (λ (o : List ℕ). Contains o p) (sym order_on) m);
    taken_values = λ p port is m. refl;
    left = λ p m. refl;
  }

  pub reply_here : explains_on.replies k ≡ reply
  unfolding explains_on
  reply_here = ap (λ (f : ℕ → Option Reply). f k) replies_on ∙ ap (λ b. if b then reply else prefix.replies k) (eq-eqb k k refl)

  pub reply_old : (q : ℕ) → (q ≡ k → ⊥) → explains_on.replies q ≡ prefix.replies q
  unfolding explains_on
  reply_old q other = ap (λ (f : ℕ → Option Reply). f q) replies_on ∙ ap (λ b. if b then reply else prefix.replies q) (ne_eqb q k other)

module _ (system : System) (per_second t k : ℕ) (values : List (Option ℤ)) (places : length values ≡ length system.ports) (port : Port) (is : slice_get system.ports k ≡ Some port) (before table next : Timetable) (armed told : Bool)
    (olds mids news : List Instance) (prefix : Rearming system per_second t k values before table armed olds mids) where
  within : k < length system.ports
  within = slice_get_within system.ports k port is

  -- up to a bad answer
  pub rearming_until : (bad : BadAnswer) (after : List Timer) → AsksPort system k (value values k) mids news (Err bad) → AsksIntervals system per_second t values (timers_in before) after olds news (Err bad)
  rearming_until bad after turn = record {
    log = prefix.log ++ turn.log;
    told = told_on olds mids news prefix.log turn.log prefix.told turn.told;
    says = record {
      taken = take k (port_order system);
      p = k;
      rest = drop (k + 1) (port_order system);
      order_is = split_order (port_order system) k k (port_number system k within);
      prefix = prefix.log;
      last = turn.says.0;
      log_is = ap (λ es. prefix.log ++ es) turn.says.1;
      told = prefix.explains;
      stops = turn.says.2 values refl;
    };
  }

  -- one port more
  module _ (reply : Option Reply) (turn : AsksPort system k (value values k) mids news (Ok reply)) (modes_same : modes news ≡ modes mids) (place : ClockState) (there : slice_get table.clocks k ≡ Some place)
      (goes : next ≡ with_clock table k (place_after port.role per_second t (value values k) (interval_by reply) place)) (arms : told ≡ is_armed_for t (timer_in (place_after port.role per_second t (value values k) (interval_by reply) place))) where
    abbrev explains_next : Explains system (intervals values) values (take (k + 1) (port_order system)) values (prefix.log ++ turn.log)
    explains_next = explains_on system values places k within prefix.log turn.log reply prefix.explains (turn.says values refl)

    abbrev placed_next : ClockState
    placed_next = place_after port.role per_second t (value values k) (interval_by reply) place

    in_clocks : k < length table.clocks
    in_clocks = slice_get_within table.clocks k place there

    after_more : IsAfterUpTo system per_second t values explains_next.replies (k + 1) before next
    after_more = record {
      start = ap (λ (x : Timetable). x.start) goes ∙ prefix.after.start;
      stop = ap (λ (x : Timetable). x.stop) goes ∙ prefix.after.stop;
      events = ap (λ (x : Timetable). x.events) goes ∙ prefix.after.events;
      len = many_now table next k placed_next in_clocks goes ∙ prefix.after.len;
      after = λ q x old lt at at_old. (elim (cases_lt q k) as (λ c. slice_get next.clocks q ≡ Some (place_after x.role per_second t (value values q) (interval_by (explains_next.replies q)) old)) [
        | inl below ↦
            let other : q ≡ k → ⊥ = λ e. absurd (omega (arith, e, below)) in
            beside_now table next k placed_next in_clocks goes q other ∙ prefix.after.after q x old below at at_old
            ∙ ap (λ (o : Option Reply). Some (place_after x.role per_second t (value values q) (interval_by o) old)) (sym (reply_old system values places k within prefix.log turn.log reply prefix.explains (turn.says values refl) q other))
        | inr past ↦
            let same_place : q ≡ k = omega (arith, lt, past) in
            let its : port ≡ x = same_Some _ _ (sym is ∙ ap (slice_get system.ports) (sym same_place) ∙ at) in
            let own : place ≡ old = same_Some _ _ (sym there ∙ prefix.after.ahead k (omega arith) ∙ ap (slice_get before.clocks) (sym same_place) ∙ at_old) in
            ap (slice_get next.clocks) same_place ∙ place_now table next k placed_next in_clocks goes
            ∙ ap (λ (o : Option Reply). Some (place_after port.role per_second t (value values k) (interval_by o) place)) (sym (reply_here system values places k within prefix.log turn.log reply prefix.explains (turn.says values refl)))
            ∙ ap₂ (λ (n : ℕ) (y : Port). Some (place_after y.role per_second t (value values n) (interval_by (explains_next.replies n)) place)) (sym same_place) its
            ∙ ap (λ (y : ClockState). Some (place_after x.role per_second t (value values q) (interval_by (explains_next.replies q)) y)) own
      ]);
      ahead = λ q le. beside_now table next k placed_next in_clocks goes q (λ e. absurd (omega (arith, e, le))) ∙ prefix.after.ahead q (omega (arith, le));
    }

    pub rearming_more : (now : Bool) → now ≡ (armed || told) → Rearming system per_second t (k + 1) values before next now olds news
    rearming_more now now_is = record {
      log = prefix.log ++ turn.log;
      told = told_on olds mids news prefix.log turn.log prefix.told turn.told;
      explains = explains_next;
      modes_are = modes_same ∙ prefix.modes_are;
      after = after_more;
      armed_is = now_is ∙ ap₂ (λ (a b : Bool). a || b) prefix.armed_is (sym (or-false told) ∙ ap (λ b. b || false) arms) ∙ sym (ap (list_any (is_armed_for t)) (timers_now table next k placed_next in_clocks goes) ∙ list_any-append (is_armed_for t) (take k (timers_in table)) (timer_in placed_next ∷ []));
    }

-- ---- timers by place

timers_after_at : (per_second t : ℕ) (values : List (Option ℤ)) (replies : ℕ → Option Reply) (p : ℕ) (ports : List Port) (olds : List Timer) (q : ℕ) (port : Port) (old : Timer) → slice_get ports q ≡ Some port → slice_get olds q ≡ Some old →
    slice_get (timers_after_from per_second t values replies p ports olds) q ≡ Some (timer_after port.role per_second t (value values (p + q)) (replies (p + q)) old)
timers_after_at per_second t values replies p [] olds q port old is is_old = absurd (cc)
timers_after_at per_second t values replies p (x ∷ ports) [] q port old is is_old = absurd (cc)
timers_after_at per_second t values replies p (x ∷ ports) (y ∷ olds) zero port old is is_old =
    let place : p ≡ p + 0 = omega arith in
    ap₂ (λ (z : Port) (w : Timer). Some (timer_after z.role per_second t (value values p) (replies p) w)) (same_Some _ _ is) (same_Some _ _ is_old)
    ∙ ap (λ n. Some (timer_after port.role per_second t (value values n) (replies n) old)) place
timers_after_at per_second t values replies p (x ∷ ports) (y ∷ olds) (suc q) port old is is_old =
    let place : suc p + q ≡ p + suc q = omega arith in
    timers_after_at per_second t values replies (suc p) ports olds q port old is is_old ∙ ap (λ n. Some (timer_after port.role per_second t (value values n) (replies n) old)) place

timers_after_many : (per_second t : ℕ) (values : List (Option ℤ)) (replies : ℕ → Option Reply) (p : ℕ) (ports : List Port) (olds : List Timer) → length olds ≡ length ports → length (timers_after_from per_second t values replies p ports olds) ≡ length olds
timers_after_many per_second t values replies p [] [] e = refl
timers_after_many per_second t values replies p [] (y ∷ olds) e = absurd (omega (arith, e))
timers_after_many per_second t values replies p (x ∷ ports) [] e = refl
timers_after_many per_second t values replies p (x ∷ ports) (y ∷ olds) e = ap suc (timers_after_many per_second t values replies (suc p) ports olds (omega (arith, e)))

-- ---- where a port stands before it goes on

module _ (system : System) (per_second t : ℕ) (is_first : Bool) (values : List (Option ℤ)) (before : Timetable) (stands : StandsAt system t is_first before) (ticks : TellsTicks system before t values) where
  pub goes_from : (k : ℕ) (port : Port) (table : Timetable) (armed : Bool) (olds mids : List Instance) → slice_get system.ports k ≡ Some port → Rearming system per_second t k values before table armed olds mids → GoesFrom table port.role t k (value values k)
  goes_from k port table armed olds mids is prefix =
      let place = got before.clocks k (let w = slice_get_within system.ports k port is in let e = stands.len in omega (arith, w, e)) in
      let start = prefix.after.start in
      let stop = prefix.after.stop in
      record {
        place = place.0;
        is = prefix.after.ahead k (omega arith) ∙ place.1;
        of = stands.places k port place.0 is place.1;
        ticks = λ clock. ticks k port is clock ∙ ap (λ (o : Option ClockState). option_map_or (is_due_in before.start t) o false) place.1 ∙ ap (λ n. is_due_in n t place.0) (sym start);
        within = (let w = stands.within in omega (arith, w, stop));
      }

-- ---- all of them

positive_by : (system : System) → IsSound system → (p : ℕ) (port : Port) → slice_get system.ports p ≡ Some port → IsPositive port.role
positive_by system sound p port is = let placed = place_of system sound p port is in by port.role placed.component.shape placed.variable placed.role
  where
    by : (role : Role) (shape : Shape) (x : Variable) → IsRole shape x role → IsPositive role
    by (TimeClock (Periodic interval shift)) shape x h = some (timing_at shape.clocks x.reference) h.2
      where
        some : (o : Option ClockTiming) → IsSomeAnd o (λ (c : ClockTiming). IsTiming shape.resolution c (Periodic interval shift)) → 0 < interval
        some None g = absurd g
        some (Some c) g = g.interval_above
    by role shape x h = tt

module _ (system : System) (sound : IsSound system) (per_second t k : ℕ) (is_first : Bool) (values : List (Option ℤ)) (places : length values ≡ length system.ports) (before table : Timetable) (armed : Bool) (olds mids : List Instance)
    (stands : StandsAt system t is_first before) (ticks : TellsTicks system before t values) (whole : length system.ports ≤ k) (all : Rearming system per_second t k values before table armed olds mids) where
  len : length table.clocks ≡ length system.ports
  len = all.after.len ∙ stands.len

  abbrev replies : ℕ → Option Reply
  replies = all.explains.replies

  record At (q : ℕ) : Type 0 where
    port : Port
    is : slice_get system.ports q ≡ Some port
    place : ClockState
    was : slice_get before.clocks q ≡ Some place
    now : slice_get table.clocks q ≡ Some (place_after port.role per_second t (value values q) (interval_by (replies q)) place)
    of : IsPlaceOf port.role place

  at_place : (q : ℕ) → q < length system.ports → At q
  at_place q lt =
      let port = got system.ports q lt in
      let place = got before.clocks q (let e = stands.len in omega (arith, e, lt)) in
      record {
        port = port.0;
        is = port.1;
        place = place.0;
        was = place.1;
        now = all.after.after q port.0 place.0 (let w = whole in omega (arith, w, lt)) port.1 place.1;
        of = stands.places q port.0 place.0 port.1 place.1;
      }

  pub rearming_stands : StandsAt system t false table
  rearming_stands = record {
    len = len;
    components = ap length all.after.events ∙ stands.components;
    places = λ p port place is is_place.
        let here = at_place p (slice_get_within system.ports p port is) in
        let its : here.port ≡ port = same_Some _ _ (sym here.is ∙ is) in
        let own : place_after here.port.role per_second t (value values p) (interval_by (replies p)) here.place ≡ place = same_Some _ _ (sym here.now ∙ is_place) in
        subst (λ (x : Port). IsPlaceOf x.role place) its (subst (IsPlaceOf here.port.role) own (place_of_after here.port.role per_second t (value values p) (interval_by (replies p)) here.place here.of));
    next = all_by_place (IsNextFrom table.start t false) table.clocks (λ q place is_place.
        let here = at_place q (let w = slice_get_within table.clocks q place is_place in let e = len in omega (arith, w, e)) in
        let own : place_after here.port.role per_second t (value values q) (interval_by (replies q)) here.place ≡ place = same_Some _ _ (sym here.now ∙ is_place) in
        subst (λ n. IsNextFrom n t false place) (sym all.after.start)
        (subst (IsNextFrom before.start t false) own
        (next_after here.port.role per_second before.start t is_first (value values q) (interval_by (replies q)) here.place here.of (positive_by system sound q here.port here.is)
        (all_at (IsNextFrom before.start t is_first) before.clocks q here.place stands.next here.was)
        (λ clock. ticks q here.port here.is clock ∙ ap (λ (o : Option ClockState). option_map_or (is_due_in before.start t) o false) here.was))));
    within = (let w = stands.within in let e = all.after.stop in omega (arith, w, e));
  }

  olds_many : length (timers_in before) ≡ length system.ports
  olds_many = length-map before.clocks timer_in ∙ stands.len

  timers_are : timers_in table ≡ timers_after per_second t system values replies (timers_in before)
  timers_are =
      let many : length (timers_after per_second t system values replies (timers_in before)) ≡ length system.ports = timers_after_many per_second t values replies 0 system.ports (timers_in before) olds_many ∙ olds_many in
      let own : length (timers_in table) ≡ length system.ports = length-map table.clocks timer_in ∙ len in
      ext_get_or Never (timers_in table) (timers_after per_second t system values replies (timers_in before)) (own ∙ sym many)
      (λ q lt.
      let here = at_place q (omega (arith, own, lt)) in
      let place : q ≡ 0 + q = omega arith in
      let new : slice_get (timers_in table) q ≡ Some (timer_in (place_after here.port.role per_second t (value values q) (interval_by (replies q)) here.place)) = slice_get-map timer_in table.clocks q ∙ ap (option_map timer_in) here.now in
      let old : slice_get (timers_in before) q ≡ Some (timer_in here.place) = slice_get-map timer_in before.clocks q ∙ ap (option_map timer_in) here.was in
      get_or_from_slice_get (timers_in table) q _ Never new
      ∙ timer_of_place here.port.role per_second t (value values q) (replies q) here.place here.of
      ∙ ap (λ n. timer_after here.port.role per_second t (value values n) (replies n) (timer_in here.place)) place
      ∙ sym (get_or_from_slice_get (timers_after per_second t system values replies (timers_in before)) q _ Never (timers_after_at per_second t values replies 0 system.ports (timers_in before) q here.port (timer_in here.place) here.is old)))

  order_whole : take k (port_order system) ≡ port_order system
  order_whole = all_ports system k whole

  explains_whole : Explains system (intervals values) values (port_order system) values all.log
  explains_whole = record {
    replies = replies;
    log_is = all.explains.log_is ∙ ap (λ (o : List ℕ). all_said system (intervals values) values replies o) order_whole;
    paired = λ p port c is of m. all.explains.paired p port c is of (subst (λ (o : List ℕ). Contains o p) (sym order_whole) m);
    taken_values = λ p port is m. refl;
    left = λ p m. refl;
  }

  pub rearming_rearms : Rearms system per_second t values (timers_in before) (timers_in table) all.log
  unfolding explains_whole
  rearming_rearms = record { explains = explains_whole; timers_are = timers_are }

  pub rearming_all : AsksIntervals system per_second t values (timers_in before) (timers_in table) olds mids (Ok armed)
  rearming_all = record {
    log = all.log;
    told = all.told;
    says = (
      rearming_rearms,
      all.armed_is ∙ ap (list_any (is_armed_for t)) (take_all k (timers_in table) (let a = length-map table.clocks timer_in in let b = len in let w = whole in omega (arith, a, b, w))),
    );
  }
