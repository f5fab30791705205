-- Over machines the walk through an instant finds its solution, and writes it where there is event mode.
use Rattle.std.proofs.Common.{◌≡◌, inl, inr, ℕ, ◌<◌, ℤ, pos, Bool, true, false, List, [], ◌∷◌, ◌++◌, Option, Some, None, Contains, refl, sym, ap, ap₂, ◌∙◌, subst, append-nil, length, get_or}
use Rattle.std.specs.Prelude.{All, ◌==◌, if◌then◌else◌, option_map}
use Rattle.std.proofs.lemmas.List.{ext_get_or}
use Rattle.std.proofs.lemmas.List.Elements.{All-nil, Contains-append_left, Contains-push}
use Rattle.std.proofs.lemmas.Option.{slice_get_within}
use Rattle.fmi_calls.specs.declared.call.Call.{Call}
use Rattle.fmi_calls.specs.declared.call.Call.TheVariants as C
use Rattle.fmi_calls.specs.declared.call.Reply.{Reply}
use Rattle.fmu_peer.specs.declared.peer.Exchange.{Exchange}
use Rattle.fmu_peer.specs.CloseAll.{Instance}
use Rattle.fmu_peer.specs.Machine.{Machine, MachineState, output_of}
use Rattle.system_model.specs.declared.system.Component.{Component}
use Rattle.system_model.specs.declared.system.Feed.{Feed}
use Rattle.system_model.specs.declared.system.Role.{Role}
use Rattle.system_model.specs.declared.system.Timing.{Timing}
use Rattle.system_model.specs.declared.system.Role.TheVariants.{Input, Output, ClockInput, ClockOutput, TimeClock}
use Rattle.system_model.specs.declared.system.Port.{Port}
use Rattle.system_model.specs.declared.system.System.{System}
use Rattle.system_model.specs.Needs.{ByFeed, Needs}
use Rattle.system_model.specs.Ports.{is_clock_role, is_output_role, port_numbers, source_of}
use Rattle.system_model.specs.Sound.{IsSound}
use Rattle.system_model.proofs.CallerLemmas.{true_false}
use Rattle.run_model.specs.Run.{IsFmu, Run, Situation, at_fmu}
use Rattle.system_model.specs.Values.{value, is_active, is_present}
use Rattle.run_model.specs.AfterInstant.{written}
use Rattle.run_model.specs.Equations.{IsTickValue, Solves, SolvesAt, fed, source_value, output_value, shown, ticking, timer_of, value_in}
use Rattle.run_model.specs.Inputs.{state_with, state_written, written_at_port, written_by}
use Rattle.run_model.specs.Machines.{AreMachines, IsSituation}
use Rattle.run_model.specs.Walk.{only_at, write_if}
use Rattle.run_model.specs.Timers.{IsDue}
use Rattle.run_model.proofs.CallerLemmas.{fed_same, present_alike, written_at-is, decided, all_at_last, keeps_beside, looks_in_midst, nothing_at_first, writes_at_port, solvable, none_in, push_cases}
use Rattle.slot_calls.specs.Log.{Sent, Told, part}
use Rattle.slot_calls.specs.Replies.{AreReplies, RepliesBy, state_by, states_by}
use Rattle.slot_calls.specs.Stage.{IsGoodOf, shapes_of}
use Rattle.slot_calls.proofs.CallerLemmas.{replies_back}
use Rattle.tick_schedule.specs.Timetable.{Timetable}
use Rattle.event_iteration.specs.Clocks.{AreTicks, StandsAt, is_due_at, timers_in}
use Rattle.event_iteration.specs.Explains.{Explains}
use Rattle.event_iteration.specs.Instants.{SolvesInInstant, asks_in_instant, in_instant, seen_or, takes_in_instant, tick_value}
use Rattle.event_iteration.specs.Intervals.{TellsTicks, is_time_clock}
use Rattle.event_iteration.specs.Machines.{AreAt}
use Rattle.event_iteration.specs.Turns.{IsPaired, Turn, Walked}
use Rattle.event_iteration.proofs.ClockTicks.{are_ticks}
use Rattle.event_iteration.proofs.Fmus.{get_stays, part_more, set_writes, state_more, after_if, are_replies, at_fmu-is, each_same, exchanges_of, none_reply, good_in_part}
use Rattle.event_iteration.proofs.InInstant.{ReadsOrSets, clock_events, reads_or_sets}
use Rattle.event_iteration.proofs.Stages.{fmu_of, replies_first, states_all, told_on}
use Rattle.event_iteration.proofs.Turning.{IsCallOf, all_good, calls_more}
use Rattle.event_iteration.proofs.Walking.{Here, along, next_beside, next_here}

is_ticking : (b : Bool) → is_active (Some (tick_value b)) ≡ b
is_ticking true = refl
is_ticking false = refl

module _ (r : Run) (sound : IsSound r.system) (machines : AreMachines r) (s : Situation) (situation : IsSituation r s) (ticks : ℕ → Bool) (are_ticks : AreTicks r.system r.plan.start s.timers s.t s.n ticks) where
  -- ---- the midst of the instant
  module _ (W : List (Option ℤ)) (solved : Solves r s W) where
    abbrev at_port : ℕ → Option ℤ
    at_port = written_at_port r.system.ports W

    -- the state once these ports were taken, with event mode or without
    abbrev pub midst : List ℕ → Bool → ℕ → Machine → MachineState → MachineState
    midst taken events i m z = if events then state_written r.system.ports (only_at taken (written_at_port r.system.ports W)) i m z else z

    -- values and states are the solution's as far as the walk has come
    pub record Midst (taken : List ℕ) (values : List (Option ℤ)) (log : List Sent) : Type 0 where
      pub calls : All (IsCallOf ReadsOrSets r.system taken) log
      pub taken_values : (q : ℕ) → Contains taken q → value values q ≡ value W q
      pub left : (q : ℕ) → (Contains taken q → ⊥) → value values q ≡ value s.before q
      pub states : (i : ℕ) (c : Component) (m : Machine) (z : MachineState) → IsFmu r s.states i c m z → state_by m z (part i log) ≡ midst taken c.shape.has_event_mode i m z

    module _ (pre : List ℕ) (p : ℕ) (reply : Option Reply) (values next : List (Option ℤ)) (prefix sent : List Sent) (here : Here (Needs r.system) pre p) (len : length values ≡ length r.system.ports)
        (was : Midst pre values prefix) (turn : Turn r.system (in_instant ticks (s.n == 0)) p reply values next sent) (replies : AreReplies r s.states (prefix ++ sent)) where
      abbrev port : Port
      port = turn.port

      abbrev events : Bool
      events = turn.component.shape.has_event_mode

      abbrev first : Bool
      first = s.n == 0

      abbrev call : Option Call
      call = asks_in_instant port.role port events first (ticks p) values

      abbrev get : Call
      get = C.Get port.kind port.reference

      mine : (m : Machine) × (z : MachineState) × IsFmu r s.states port.component.0 turn.component m z
      mine = fmu_of r s.states (states_all r machines s situation) port.component.0 turn.component turn.of

      -- the source of an input has its value
      source_same : (feed : Feed) → source_of port.role ≡ Some feed.from.0 → source_value feed values ≡ source_value feed W
      source_same feed from = was.taken_values feed.from.0 (here.needed feed.from.0 (ByFeed port turn.is from))

      fed_alike : (feed : Feed) → source_of port.role ≡ Some feed.from.0 → fed port.kind feed values ≡ fed port.kind feed W
      fed_alike feed from = fed_same port.kind feed values W (source_same feed from)

      -- it is present by the solution where it is by the values so far
      present_same : is_present port values ≡ is_present port W
      present_same = present_alike r.system p port values W turn.is (λ q n. was.taken_values q (here.needed q n))

      last_same : value values p ≡ value s.before p
      last_same = was.left p here.fresh

      equation : (role : Role) → port.role ≡ role → SolvesAt role r s W p port (value s.before p) (value W p)
      equation role same = subst (λ x. SolvesAt x r s W p port (value s.before p) (value W p)) same (solved.equations p port turn.is)

      -- a Clock's FMU has event mode
      events_of : is_clock_role port.role ≡ true → events ≡ true
      events_of clock = clock_events r.system sound p port turn.component turn.is turn.of clock

      state_mid : state_by mine.0 mine.1 (part port.component.0 prefix) ≡ midst pre events port.component.0 mine.0 mine.1
      state_mid = was.states port.component.0 turn.component mine.0 mine.1 mine.2

      -- a reply is the machine's, in the midst
      replied : (k : Call) (x : Reply) → reply ≡ Some x → call ≡ Some k → x ≡ mine.0.look (midst pre events port.component.0 mine.0 mine.1) k
      replied k x is asks =
          let own : RepliesBy mine.0 mine.1 (part port.component.0 prefix ++ exchanges_of call reply) = subst (RepliesBy mine.0 mine.1) (part_more turn prefix) (replies port.component.0 turn.component mine.0 mine.1 mine.2) in
          let after = replies_back mine.0 (get_or (shapes_of r.system) port.component.0 turn.component.shape) mine.1 (part port.component.0 prefix) (exchanges_of call reply)
          (good_in_part (shapes_of r.system) prefix (all_good ReadsOrSets r.system pre prefix was.calls) port.component.0 turn.component.shape) own in
          let one : RepliesBy mine.0 (midst pre events port.component.0 mine.0 mine.1) (exchanges_of (Some k) (Some x)) =
          subst (λ z. RepliesBy mine.0 z (exchanges_of (Some k) (Some x))) state_mid
          (subst (λ (es : List Exchange). RepliesBy mine.0 (state_by mine.0 mine.1 (part port.component.0 prefix)) es) (ap₂ exchanges_of asks is) after) in
          one.0

      -- what is seen without a call, and with one
      seen_last : (o : Option Reply) → reply ≡ o → call ≡ None → seen_or port (value values p) reply ≡ value s.before p
      seen_last o is asks =
          ap (seen_or port (value values p)) (none_reply turn.component.shape reply (subst (λ k. IsPaired turn.component.shape k reply) asks turn.paired)) ∙ last_same

      seen_by : (k : Call) → call ≡ Some k → (state : MachineState) → mine.0.look (midst pre events port.component.0 mine.0 mine.1) k ≡ mine.0.look state k →
          seen_or port (value values p) reply ≡ value_in port.kind (mine.0.look state k)
      seen_by k asks state looks = by reply refl (subst (λ a. IsPaired turn.component.shape a reply) asks turn.paired)
        where
          by : (o : Option Reply) → reply ≡ o → IsPaired turn.component.shape (Some k) o → seen_or port (value values p) o ≡ value_in port.kind (mine.0.look state k)
          by None is paired = absurd paired
          by (Some x) is paired = ap (value_in port.kind) (replied k x is asks ∙ looks)

      -- with event mode an output shows in the midst what it shows with all values written
      looks_same : is_output_role port.role ≡ true → events ≡ true → (k : Call) → output_of k ≡ Some port.reference →
          mine.0.look (midst pre events port.component.0 mine.0 mine.1) k ≡ mine.0.look (state_with r.system.ports W port.component.0 mine.0 mine.1) k
      looks_same out e k at =
          ap (λ x. mine.0.look (midst pre x port.component.0 mine.0 mine.1) k) e
          ∙ looks_in_midst r sound machines s.states situation.shapes p port turn.is out W pre here.needed turn.component mine.0 mine.1 mine.2 e k at

      -- an output that is read shows what it shows with all values written
      module _ (same : port.role ≡ Output) where
        abbrev asks_get : Bool → Bool → Option Call
        asks_get b present = if (if b then present else first) then Some get else None

        call_is : (b present : Bool) → events ≡ b → is_present port W ≡ present → call ≡ asks_get b present
        call_is b present e there =
            ap (λ x. asks_in_instant x port events first (ticks p) values) same ∙ ap (λ x. asks_get x (is_present port values)) e ∙ ap (asks_get b) (present_same ∙ there)

        abbrev output_by : Bool → Bool → Bool → Option ℤ
        output_by b present n =
            if b then (if present then shown mine.0 (state_with r.system.ports W port.component.0 mine.0 mine.1) port else value s.before p)
            else (if n then shown mine.0 mine.1 port else value s.before p)

        seen_output : (b : Bool) → events ≡ b → (present : Bool) → is_present port W ≡ present → (n : Bool) → first ≡ n → seen_or port (value values p) reply ≡ output_by b present n
        seen_output true e true there n f =
            seen_by get (call_is true true e there) (state_with r.system.ports W port.component.0 mine.0 mine.1) (looks_same (ap is_output_role same) e get refl)
        seen_output true e false there n f = seen_last reply refl (call_is true false e there)
        seen_output false e present there true f =
            seen_by get (call_is false present e there ∙ ap (λ x. if x then Some get else None) f) mine.1 (ap (λ x. mine.0.look (midst pre x port.component.0 mine.0 mine.1) get) e)
        seen_output false e present there false f = seen_last reply refl (call_is false present e there ∙ ap (λ x. if x then Some get else None) f)

        output_here : seen_or port (value values p) reply ≡ at_fmu r s.states port.component.0 (output_value r s W (value s.before p) port)
        output_here =
            seen_output events refl (is_present port W) refl first refl
            ∙ sym (at_fmu-is r s.states port.component.0 turn.component mine.0 mine.1 (output_value r s W (value s.before p) port) mine.2)

      -- an output Clock is active as it is with all values written
      clock_here : port.role ≡ ClockOutput → seen_or port (value values p) reply ≡ at_fmu r s.states port.component.0 (λ c m state. ticking m (state_with r.system.ports W port.component.0 m state) port)
      clock_here same =
          seen_by (C.GetClock port.reference) (ap (λ x. asks_in_instant x port events first (ticks p) values) same) (state_with r.system.ports W port.component.0 mine.0 mine.1)
          (looks_same (ap is_output_role same) (events_of (ap is_clock_role same)) (C.GetClock port.reference) refl)
          ∙ sym (at_fmu-is r s.states port.component.0 turn.component mine.0 mine.1 (λ c m state. ticking m (state_with r.system.ports W port.component.0 m state) port) mine.2)

      -- a time-based Clock ticks as its timer does
      time_here : (timing : Timing) → port.role ≡ TimeClock timing → Some (tick_value (ticks p)) ≡ value W p
      time_here timing same = by (ticks p) refl (equation (TimeClock timing) same)
        where
          by : (b : Bool) → ticks p ≡ b → IsTickValue (IsDue r.plan.start (timer_of s.timers p) s.t s.n) (value W p) → Some (tick_value b) ≡ value W p
          by true e (inl due) = sym due.1
          by true e (inr not_due) = absurd (not_due.0 ((are_ticks p port timing turn.is same).0 e))
          by false e (inl due) = absurd (true_false (sym ((are_ticks p port timing turn.is same).1 due.0) ∙ e))
          by false e (inr not_due) = sym not_due.1

      -- the value that the port takes is the solution's
      value_here : (role : Role) → port.role ≡ role → takes_in_instant role port (ticks p) values (value values p) reply ≡ value W p
      value_here (Input None) same = sym (equation (Input None) same)
      value_here (Input (Some feed)) same =
          ap (λ b. if b then fed port.kind feed values else value values p) present_same
          ∙ ap₂ (λ (x y : Option ℤ). if is_present port W then x else y) (fed_alike feed (ap source_of same)) last_same
          ∙ sym (equation (Input (Some feed)) same)
      value_here Output same = output_here same ∙ sym (equation Output same)
      value_here (ClockInput None) same = sym (equation (ClockInput None) same)
      value_here (ClockInput (Some feed)) same = source_same feed (ap source_of same) ∙ sym (equation (ClockInput (Some feed)) same)
      value_here ClockOutput same = clock_here same ∙ sym (equation ClockOutput same)
      value_here (TimeClock timing) same = time_here timing same

      next_is_W : value next p ≡ value W p
      next_is_W = next_here turn len ∙ value_here port.role refl

      -- with event mode its call writes what is written at it
      sets_here : (feed : Feed) → port.role ≡ Input (Some feed) → (present : Bool) → is_present port W ≡ present → (m : Machine) (x : MachineState) →
          after_if m x (if present then option_map (λ v. C.Set port.kind port.reference v) (fed port.kind feed values) else None) ≡ write_if m port.reference x (if present then value W p else None)
      sets_here feed same true there m x =
          ap (λ o. after_if m x (option_map (λ v. C.Set port.kind port.reference v) o)) (sym value_fed) ∙ set_writes m x port (value W p)
        where
          value_fed : value W p ≡ fed port.kind feed values
          value_fed = equation (Input (Some feed)) same ∙ ap (λ b. if b then fed port.kind feed W else value s.before p) there ∙ sym (fed_alike feed (ap source_of same))
      sets_here feed same false there m x = refl

      tick_writes : (b : Bool) (m : Machine) (x : MachineState) → after_if m x (if b then Some (C.SetClock port.reference) else None) ≡ write_if m port.reference x (if b then Some (pos 1) else None)
      tick_writes true m x = refl
      tick_writes false m x = refl

      -- whether an input Clock is set is whether it is active
      sets_clock : (b : Bool) → b ≡ is_active (value W p) → (m : Machine) (x : MachineState) →
          after_if m x (if b then Some (C.SetClock port.reference) else None) ≡ write_if m port.reference x (if is_active (value W p) then Some (pos 1) else None)
      sets_clock b same m x = tick_writes b m x ∙ ap (λ c. write_if m port.reference x (if c then Some (pos 1) else None)) same

      abbrev writes_if : Bool → Machine → MachineState → Option ℤ → MachineState
      writes_if b m x o = if b then write_if m port.reference x o else x

      clock_writes : is_clock_role port.role ≡ true → (b : Bool) → events ≡ b → (m : Machine) (x y : MachineState) (o : Option ℤ) → y ≡ write_if m port.reference x o → y ≡ writes_if b m x o
      clock_writes clock true e m x y o h = h
      clock_writes clock false e m x y o h = absurd (true_false (sym (events_of clock) ∙ e))

      call_writes : (role : Role) → port.role ≡ role → (b : Bool) → events ≡ b → (m : Machine) (x : MachineState) →
          after_if m x (asks_in_instant role port b first (ticks p) values) ≡ writes_if b m x (written_by role port W (value W p))
      call_writes (Input None) same true e m x = refl
      call_writes (Input None) same false e m x = refl
      call_writes (Input (Some feed)) same true e m x =
          ap (λ c. after_if m x (if c then option_map (λ v. C.Set port.kind port.reference v) (fed port.kind feed values) else None)) present_same ∙ sets_here feed same (is_present port W) refl m x
      call_writes (Input (Some feed)) same false e m x = refl
      call_writes Output same true e m x = get_stays m x port (is_present port values)
      call_writes Output same false e m x = get_stays m x port first
      call_writes (ClockInput None) same b e m x =
          clock_writes (ap is_clock_role same) b e m x x _ (ap (λ o. write_if m port.reference x (if is_active o then Some (pos 1) else None)) (sym (equation (ClockInput None) same)))
      call_writes (ClockInput (Some feed)) same b e m x =
          clock_writes (ap is_clock_role same) b e m x _ _
          (sets_clock (is_active (source_value feed values)) (ap is_active (source_same feed (ap source_of same) ∙ sym (equation (ClockInput (Some feed)) same))) m x)
      call_writes ClockOutput same b e m x = clock_writes (ap is_clock_role same) b e m x x None refl
      call_writes (TimeClock timing) same b e m x =
          clock_writes (ap is_clock_role same) b e m x _ _ (sets_clock (ticks p) (sym (is_ticking (ticks p)) ∙ ap is_active (time_here timing same)) m x)

      written_on : (b : Bool) → events ≡ b → (m : Machine) (z : MachineState) → after_if m (midst pre b port.component.0 m z) (asks_in_instant port.role port b first (ticks p) values) ≡ midst (pre ++ p ∷ []) b port.component.0 m z
      written_on true e m z =
          call_writes port.role refl true e m (midst pre true port.component.0 m z)
          ∙ ap (write_if m port.reference (midst pre true port.component.0 m z)) (sym (written_at-is r.system.ports W p port turn.is))
          ∙ writes_at_port r.system sound p port turn.is pre here.fresh at_port m z
      written_on false e m z = call_writes port.role refl false e m z

      beside_on : (b : Bool) (i : ℕ) → (i ≡ port.component.0 → ⊥) → (m : Machine) (z : MachineState) → midst pre b i m z ≡ midst (pre ++ p ∷ []) b i m z
      beside_on true i other m z = keeps_beside r.system p port turn.is pre at_port i other m z
      beside_on false i other m z = refl

      midst_more : Midst (pre ++ p ∷ []) next (prefix ++ sent)
      midst_more = record {
        calls = calls_more ReadsOrSets r.system (in_instant ticks (s.n == 0)) (reads_or_sets r.system sound ticks (s.n == 0)) pre p reply values next prefix sent was.calls turn;
        taken_values = λ q m. push_cases pre p q m
            (λ old. next_beside turn q (λ same. here.fresh (subst (Contains pre) same old)) ∙ was.taken_values q old)
            (λ same. subst (λ x. value next x ≡ value W x) same next_is_W);
        left = λ q m. next_beside turn q (λ same. m (subst (Contains (pre ++ p ∷ [])) (sym same) (Contains-push pre p))) ∙ was.left q (λ old. m (Contains-append_left pre (p ∷ []) q old));
        states = λ i c m z fmu. state_more turn prefix m z (λ k d. midst pre d.shape.has_event_mode k m z) (λ k d. midst (pre ++ p ∷ []) d.shape.has_event_mode k m z) (written_on events refl m z)
            (λ k d other. beside_on d.shape.has_event_mode k other m z) i c fmu.component (was.states i c m z fmu);
      }

    none_midst : (b : Bool) (i : ℕ) (m : Machine) (z : MachineState) → z ≡ midst [] b i m z
    none_midst true i m z = sym (nothing_at_first r.system at_port i m z)
    none_midst false i m z = refl

    -- all along the walk
    pub midst_along : (taken rest : List ℕ) (values : List (Option ℤ)) (log : List Sent) → port_numbers r.system.instant_order ≡ taken ++ rest → Walked r.system (in_instant ticks (s.n == 0)) s.before taken values log → AreReplies r s.states log →
        (length values ≡ length r.system.ports) × Midst taken values log
    midst_along taken rest values log is walked replies =
        let all = along (λ q. q < length r.system.ports) (Needs r.system) r.system (in_instant ticks (s.n == 0)) s.before (port_numbers r.system.instant_order) sound.instant_order situation.before
        (λ t v l. AreReplies r s.states l → Midst t v l)
        (λ none. record {
          calls = All-nil (IsCallOf ReadsOrSets r.system []);
          taken_values = λ q m. absurd (none_in q m);
          left = λ q m. refl;
          states = λ i c m z fmu. none_midst c.shape.has_event_mode i m z;
        })
        (λ pre p reply v next prefix sent here len was turn h. midst_more pre p reply v next prefix sent here len (was (replies_first r s.states prefix sent h)) turn h)
        taken rest values log is walked in
        (all.0, all.1 replies)

  -- ---- at the end
  module _ (values : List (Option ℤ)) (log : List Sent) (walked : Walked r.system (in_instant ticks (s.n == 0)) s.before (port_numbers r.system.instant_order) values log) (replies : AreReplies r s.states log) where
    some : (W : List (Option ℤ)) × Solves r s W
    some = solvable r sound machines s situation.shapes (decided r s)

    end : (length values ≡ length r.system.ports) × Midst some.0 some.1 (port_numbers r.system.instant_order) values log
    end = midst_along some.0 some.1 (port_numbers r.system.instant_order) [] values log (sym (append-nil (port_numbers r.system.instant_order))) walked replies

    values_are : some.0 ≡ values
    values_are = sym (ext_get_or None values some.0 (end.0 ∙ sym some.1.places) (λ p lt. end.1.taken_values p (sound.instant_order.each p (subst (λ n. p < n) end.0 lt))))

    -- the values are the solution
    pub solves : Solves r s values
    solves = subst (Solves r s) values_are some.1

    -- each FMU with event mode has them written, and without event mode the states stay
    pub state_is : (i : ℕ) (c : Component) (m : Machine) (z : MachineState) → IsFmu r s.states i c m z → state_by m z (part i log) ≡ (if c.shape.has_event_mode then state_with r.system.ports values i m z else z)
    state_is i c m z fmu = end.1.states i c m z fmu ∙ last c.shape.has_event_mode ∙ ap (λ (V : List (Option ℤ)). if c.shape.has_event_mode then state_with r.system.ports V i m z else z) values_are
      where
        last : (b : Bool) → midst some.0 some.1 (port_numbers r.system.instant_order) b i m z ≡ (if b then state_with r.system.ports some.0 i m z else z)
        last true = all_at_last r.system sound some.0 i m z
        last false = refl

    pub states_are : states_by r s.states log ≡ written r s values
    states_are = each_same r s.states (λ i c m z. state_by m z (part i log)) (λ i c m z. if c.shape.has_event_mode then state_with r.system.ports values i m z else z) state_is

    pub answers_good : All (IsGoodOf (shapes_of r.system)) log
    answers_good = all_good ReadsOrSets r.system (port_numbers r.system.instant_order) log end.1.calls

-- the walk over a system finds the solution
pub solves_in_instant : (system : System) → IsSound system → (t : ℕ) (is_first : Bool) (table : Timetable) → StandsAt system t is_first table → (olds news : List Instance) (before values : List (Option ℤ)) (log : List Sent) → Told log olds news →
    Walked system (in_instant (is_due_at table t) is_first) before (port_numbers system.instant_order) values log → SolvesInInstant system table t is_first before values olds news
solves_in_instant system sound t is_first table stands olds news before values log told walked r s same start machines situation at first timers was there =
    let sound_own = subst IsSound (sym same) sound in
    let ticks = is_due_at table t in
    let own_ticks =
    subst (λ (x : System). AreTicks x r.plan.start s.timers s.t s.n ticks) (sym same)
    (subst (λ n. AreTicks system n s.timers s.t s.n ticks) (sym start)
    (subst (λ xs. AreTicks system table.start xs s.t s.n ticks) (sym timers)
    (subst (λ n. AreTicks system table.start (timers_in table) n s.n ticks) (sym at) (are_ticks system t is_first table stands s.n first)))) in
    let own =
    subst (λ (x : System). Walked x (in_instant ticks (s.n == 0)) s.before (port_numbers x.instant_order) values log) (sym same)
    (subst (λ b. Walked system (in_instant ticks b) s.before (port_numbers system.instant_order) values log) (sym first)
    (subst (λ V. Walked system (in_instant ticks is_first) V (port_numbers system.instant_order) values log) (sym was) walked)) in
    let replies = are_replies r s.states olds news there log told in (
      solves r sound_own machines s situation ticks own_ticks values log own replies,
      subst (λ (ss : List MachineState). AreAt r ss news) (states_are r sound_own machines s situation ticks own_ticks values log own replies) (told_on r s.states olds news there log told (answers_good r sound_own machines s situation ticks own_ticks values log own replies)),
    )

-- ---- the time-based Clocks that tick are those that are due

pub tells_ticks : (system : System) → IsSound system → (t : ℕ) (is_first : Bool) (table : Timetable) (before values : List (Option ℤ)) (log : List Sent) →
    Explains system (in_instant (is_due_at table t) is_first) before (port_numbers system.instant_order) values log → TellsTicks system table t values
tells_ticks system sound t is_first table before values log told p port is time =
    ap is_active (told.taken_values p port is (sound.instant_order.each p (slice_get_within system.ports p port is))) ∙ by port.role time
  where
    by : (role : Role) → is_time_clock role ≡ true → is_active (takes_in_instant role port (is_due_at table t p) values (value before p) (told.replies p)) ≡ is_due_at table t p
    by (TimeClock timing) h = is_ticking (is_due_at table t p)
    by role h = absurd (true_false (sym h))
