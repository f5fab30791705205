-- A machine that answers each call of a run well in each state behaves well as one FMU of any run; calls for the intervals and shifts of Clocks it may answer well only where they are sent.
use Rattle.std.proofs.Common.{◌≡◌, ◌⊎◌, ◌-◌, ℕ, ℤ, Bool, true, false, List, length, refl, sym, ◌∙◌, ap, subst, arith, inl, inr}
use Rattle.std.specs.Prelude.{Option, Some, None, IsSomeAnd, slice_get}
use Rattle.std.proofs.lemmas.Option.{same_Some}
use Rattle.value_types.specs.Shape.{is_clock, is_clock_type, timing_at, variable_at}
use Rattle.value_types.specs.declared.values.PortType.{PortType}
use Rattle.value_types.specs.declared.values.PortType.TheVariants as T
use Rattle.value_types.specs.declared.shape.Causality.TheVariants as V
use Rattle.value_types.specs.declared.shape.ClockTiming.{ClockTiming}
use Rattle.value_types.specs.declared.shape.Variable.{Variable}
use Rattle.value_types.specs.declared.shape.Shape.{Shape}
use Rattle.fmi_calls.specs.declared.call.Call.{Call}
use Rattle.fmi_calls.specs.declared.call.Call.TheVariants as C
use Rattle.fmi_calls.specs.Permission.{is_value_type}
use Rattle.fmu_peer.specs.Machine.{MachineState, Machine, IsMachineOf, after}
use Rattle.fmu_peer.specs.Mode.{instantiate_of}
use Rattle.system_model.specs.declared.system.Component.{Component}
use Rattle.system_model.specs.declared.system.Role.{Role}
use Rattle.system_model.specs.declared.system.Role.TheVariants.{Input, Output, ClockInput, ClockOutput, TimeClock}
use Rattle.system_model.specs.declared.system.Timing.{Timing}
use Rattle.system_model.specs.declared.system.Timing.TheVariants.{Periodic, Answered, Countdown, Changing}
use Rattle.system_model.specs.declared.system.Port.{Port}
use Rattle.system_model.specs.Ports.{is_clock_role, is_output_role}
use Rattle.system_model.specs.Sound.{IsSound, IsRole, IsTiming}
use Rattle.system_model.proofs.CallerLemmas.{true_false, Placed, place_of, is_output_of, clock_type_of}
use Rattle.run_model.specs.Run.{Run, Situation}
use Rattle.run_model.specs.Initial as I
use Rattle.run_model.specs.Equations.{Solves}
use Rattle.run_model.specs.AfterInstant.{written}
use Rattle.run_model.specs.Stepping.{GoesOn, Next, Departs, AtStop, WhereAsked, WhereFixed, ByStep, departing, step_to, kept_at}
use Rattle.run_model.specs.AfterInstant.{Following, OutOfRange, Ended, AtLimit, Again, Done, following}
use Rattle.run_model.specs.Trace.{LeadsBy}
use Rattle.run_model.specs.Behaved as B
use Rattle.run_model.specs.AlwaysWell.{RunSends, AlwaysWell, AlwaysBehaves, TimedBehaves, TimesWell, WellButTimings, asks_timing}
use Rattle.run_model.proofs.OneTrace.{situation_of, ends_or_goes}
use Rattle.run_model.proofs.States as S

-- ---- calls

-- a call that sets an input or keeps a state is one of a run
setting_is_run : (mode : B.Mode) (shape : Shape) (call : Call) → B.IsSetting mode shape call → RunSends shape call
setting_is_run B.Configuring shape (C.Set kind reference value) h = (h.0, h.1, weaker (variable_at shape.variables reference) h.2)
  where
    weaker : (o : Option Variable) → IsSomeAnd o (λ (v : Variable). (v.kind ≡ Some kind) × (v.causality ≡ V.Parameter)) → IsSomeAnd o (λ (v : Variable). (v.kind ≡ Some kind) × ((v.causality ≡ V.Parameter) ⊎ (v.causality ≡ V.Input)))
    weaker None k = k
    weaker (Some v) k = (k.0, inl k.1)
setting_is_run B.Initializing shape (C.Set kind reference value) h = (h.0, h.1, weaker (variable_at shape.variables reference) h.2)
  where
    weaker : (o : Option Variable) → IsSomeAnd o (λ (v : Variable). (v.kind ≡ Some kind) × ((v.causality ≡ V.Input) × (length v.clocks ≡ 0))) → IsSomeAnd o (λ (v : Variable). (v.kind ≡ Some kind) × ((v.causality ≡ V.Parameter) ⊎ (v.causality ≡ V.Input)))
    weaker None k = k
    weaker (Some v) k = (k.0, inr k.1.0)
setting_is_run B.Eventing shape (C.Set kind reference value) h = (h.0, h.1, weaker (variable_at shape.variables reference) h.2)
  where
    weaker : (o : Option Variable) → IsSomeAnd o (λ (v : Variable). (v.kind ≡ Some kind) × ((v.causality ≡ V.Input) × (shape.has_event_mode ≡ true))) → IsSomeAnd o (λ (v : Variable). (v.kind ≡ Some kind) × ((v.causality ≡ V.Parameter) ⊎ (v.causality ≡ V.Input)))
    weaker None k = k
    weaker (Some v) k = (k.0, inr k.1.0)
setting_is_run B.Stepping shape (C.Set kind reference value) h = (h.0, h.1, weaker (variable_at shape.variables reference) h.2)
  where
    weaker : (o : Option Variable) → IsSomeAnd o (λ (v : Variable). (v.kind ≡ Some kind) × ((v.causality ≡ V.Input) × (shape.has_event_mode ≡ false))) → IsSomeAnd o (λ (v : Variable). (v.kind ≡ Some kind) × ((v.causality ≡ V.Parameter) ⊎ (v.causality ≡ V.Input)))
    weaker None k = k
    weaker (Some v) k = (k.0, inr k.1.0)
setting_is_run B.Eventing shape (C.SetClock reference) h = h.1
setting_is_run B.Stepping shape C.Save h = h
setting_is_run B.Stepping shape C.Restore h = h
setting_is_run B.Stepping shape C.Free h = h
setting_is_run mode shape call h = absurd h

-- and none for the timing of a Clock
setting_is_untimed : (mode : B.Mode) (shape : Shape) (call : Call) → B.IsSetting mode shape call → asks_timing call ≡ false
setting_is_untimed B.Configuring shape (C.GetInterval reference) h = absurd h
setting_is_untimed B.Initializing shape (C.GetInterval reference) h = absurd h
setting_is_untimed B.Eventing shape (C.GetInterval reference) h = absurd h
setting_is_untimed B.Stepping shape (C.GetInterval reference) h = absurd h
setting_is_untimed B.Configuring shape (C.GetShift reference) h = absurd h
setting_is_untimed B.Initializing shape (C.GetShift reference) h = absurd h
setting_is_untimed B.Eventing shape (C.GetShift reference) h = absurd h
setting_is_untimed B.Stepping shape (C.GetShift reference) h = absurd h
setting_is_untimed mode shape call h = refl

-- ---- ports

value_type : (kind : PortType) → is_clock_type (Some kind) ≡ false → is_value_type kind ≡ true
value_type T.Clock e = absurd (cc)
value_type T.Int8 e = refl
value_type T.UInt8 e = refl
value_type T.Int16 e = refl
value_type T.UInt16 e = refl
value_type T.Int32 e = refl
value_type T.UInt32 e = refl
value_type T.Int64 e = refl
value_type T.UInt64 e = refl
value_type T.Boolean e = refl
value_type T.Enumeration e = refl

-- a port with its component, at which the role tells what may be asked
pub record IsOwn (r : Run) (port : Port) (c : Component) : Type 0 where
  pub p : ℕ
  pub is : slice_get r.system.ports p ≡ Some port
  pub placed : Placed r.system p port
  pub same : placed.component ≡ c

pub own_port : (r : Run) → IsSound r.system → (p : ℕ) (port : Port) → slice_get r.system.ports p ≡ Some port → (c : Component) → slice_get r.system.components port.component.0 ≡ Some c → IsOwn r port c
own_port r sound p port is c of = let placed = place_of r.system sound p port is in record { p = p; is = is; placed = placed; same = same_Some _ _ (sym placed.is.of ∙ of) }

-- an output that is no Clock is read
get_call : (r : Run) (port : Port) (c : Component) → IsOwn r port c → port.role ≡ Output → RunSends c.shape (C.Get port.kind port.reference)
get_call r port c own role =
    let placed = own.placed in
    let at : variable_at c.shape.variables port.reference ≡ Some placed.variable = ap (λ (x : Component). variable_at x.shape.variables port.reference) (sym own.same) ∙ placed.is.there in (
      value_type port.kind (clock_type_of r.system own.p port placed ∙ ap is_clock_role role),
      subst (λ o. IsSomeAnd o (λ (v : Variable). (v.kind ≡ Some port.kind) × (v.causality ≡ V.Output))) (sym at) (placed.kind, is_output_of r.system own.p port placed (ap is_output_role role)),
    )

-- an output Clock is asked
get_clock_call : (r : Run) (port : Port) (c : Component) → IsOwn r port c → port.role ≡ ClockOutput → RunSends c.shape (C.GetClock port.reference)
get_clock_call r port c own role =
    let placed = own.placed in
    let at : variable_at c.shape.variables port.reference ≡ Some placed.variable = ap (λ (x : Component). variable_at x.shape.variables port.reference) (sym own.same) ∙ placed.is.there in
    subst (λ o. IsSomeAnd o (λ (v : Variable). (is_clock v ≡ true) × (v.causality ≡ V.Output))) (sym at)
    (ap is_clock_type placed.kind ∙ clock_type_of r.system own.p port placed ∙ ap is_clock_role role, is_output_of r.system own.p port placed (ap is_output_role role))

-- the timing of a time-based Clock
pub timing_of : (r : Run) (port : Port) (c : Component) (own : IsOwn r port c) (timing : Timing) → port.role ≡ TimeClock timing → IsSomeAnd (timing_at c.shape.clocks port.reference) (λ (t : ClockTiming). IsTiming c.shape.resolution t timing)
timing_of r port c own timing role =
    let placed = own.placed in
    let there : IsRole placed.component.shape placed.variable (TimeClock timing) = subst (IsRole placed.component.shape placed.variable) role placed.role in
    subst (λ (x : Component). IsSomeAnd (timing_at x.shape.clocks port.reference) (λ (t : ClockTiming). IsTiming x.shape.resolution t timing)) own.same
    (subst (λ k. IsSomeAnd (timing_at placed.component.shape.clocks k) (λ (t : ClockTiming). IsTiming placed.component.shape.resolution t timing)) placed.reference there.2)

weaken : {X : Type 0} (o : Option X) (P Q : X → Type 0) → ((x : X) → P x → Q x) → IsSomeAnd o P → IsSomeAnd o Q
weaken None P Q h k = k
weaken (Some x) P Q h k = h x k

-- a fixed or changing Clock's FMU is asked for its interval and its shift, and a countdown Clock's for its interval
pub fixed_interval_call : (r : Run) (port : Port) (c : Component) → IsOwn r port c → port.role ≡ TimeClock Answered → RunSends c.shape (C.GetInterval port.reference)
fixed_interval_call r port c own role = weaken (timing_at c.shape.clocks port.reference) _ _ (λ t h. inr (inr h)) (timing_of r port c own Answered role)

pub shift_call : (r : Run) (port : Port) (c : Component) → IsOwn r port c → port.role ≡ TimeClock Answered → RunSends c.shape (C.GetShift port.reference)
shift_call r port c own role = weaken (timing_at c.shape.clocks port.reference) _ _ (λ t h. inr h) (timing_of r port c own Answered role)

pub changing_interval_call : (r : Run) (port : Port) (c : Component) → IsOwn r port c → port.role ≡ TimeClock Changing → RunSends c.shape (C.GetInterval port.reference)
changing_interval_call r port c own role = weaken (timing_at c.shape.clocks port.reference) _ _ (λ t h. inr (inl h)) (timing_of r port c own Changing role)

pub changing_shift_call : (r : Run) (port : Port) (c : Component) → IsOwn r port c → port.role ≡ TimeClock Changing → RunSends c.shape (C.GetShift port.reference)
changing_shift_call r port c own role = weaken (timing_at c.shape.clocks port.reference) _ _ (λ t h. inl h) (timing_of r port c own Changing role)

pub countdown_call : (r : Run) (port : Port) (c : Component) → IsOwn r port c → port.role ≡ TimeClock Countdown → RunSends c.shape (C.GetInterval port.reference)
countdown_call r port c own role = weaken (timing_at c.shape.clocks port.reference) _ _ (λ t h. inl h) (timing_of r port c own Countdown role)

-- ---- where a run comes to

fit_departs : {r : Run} {s : Situation} {next : Next} (i : ℕ) → S.IsMachineAt r i → S.IsStateAt r false s.states i → Departs r s next → (z : Situation) → next ≡ GoesOn z → S.IsStateAt r false z.states i
fit_departs {r} {s} i machine fit (AtStop next at a) z e = absurd (true_false (ap ends_or_goes (sym a ∙ e)))
fit_departs {r} {s} i machine fit (WhereAsked next k p step asks a) z e = absurd (true_false (ap ends_or_goes (sym a ∙ e)))
fit_departs {r} {s} i machine fit (WhereFixed next j f lacks a) z e = absurd (true_false (ap ends_or_goes (sym a ∙ e)))
fit_departs {r} {s} i machine fit (ByStep next k p step asks a) z e =
    subst (λ (x : Situation). S.IsStateAt r false x.states i) (ap (λ x. situation_of x z) (sym a ∙ e)) (S.fit_stepped r i machine s k p fit)

fit_leads : (f : Following) (r : Run) (s : Situation) (values : List (Option ℤ)) (z : Situation) (i : ℕ) → S.IsMachineAt r i → S.IsStateAt r false s.states i → LeadsBy f r s values (GoesOn z) → S.IsStateAt r false z.states i
fit_leads OutOfRange r s values z i machine fit a = absurd (true_false (sym (ap ends_or_goes a)))
fit_leads Ended r s values z i machine fit a = absurd (true_false (sym (ap ends_or_goes a)))
fit_leads AtLimit r s values z i machine fit a = absurd (true_false (sym (ap ends_or_goes a)))
fit_leads Again r s values z i machine fit a = subst (λ (x : Situation). S.IsStateAt r false x.states i) (ap (λ x. situation_of x z) (sym a)) (S.fit_updated r i machine s values fit)
fit_leads Done r s values z i machine fit a = fit_departs i machine (S.fit_updated r i machine s values fit) a z refl

pub fit_reached : {r : Run} {s : Situation} (i : ℕ) → S.IsMachineAt r i → B.Reached r s → S.IsStateAt r false s.states i
fit_reached {r} i machine (B.AtFirst s initial solves kept is) = subst (λ (x : Situation). S.IsStateAt r false x.states i) (sym is) (S.fit_beginning r i machine initial)
fit_reached {r} i machine (B.Onward s values next reached solves leads) = fit_leads (following r s values) r s values next i machine (fit_reached i machine reached) leads

-- ---- the law

-- what a machine does that always answers well, but perhaps for the timing of Clocks
module _ (r : Run) (sound : IsSound r.system) (i : ℕ)
    (always : (c : Component) (m : Machine) → slice_get r.system.components i ≡ Some c → slice_get r.machines i ≡ Some m → IsMachineOf c.shape m × WellButTimings c.shape m)
    (times : TimesWell r i) where
  machine : S.IsMachineAt r i
  machine c m of_c of_m = (always c m of_c of_m).0

  well : (b : Bool) (states : List MachineState) → S.IsStateAt r b states i → (call : Shape → Call) → ((c : Component) → slice_get r.system.components i ≡ Some c → RunSends c.shape (call c.shape) × (asks_timing (call c.shape) ≡ false)) → B.AnswersWell r states i call
  well b states fit call is c m s fmu = (always c m fmu.component fmu.machine).1 s (call c.shape) (fit c m s fmu).values (is c fmu.component).0 (is c fmu.component).1

  well_if : (e b : Bool) (states : List MachineState) → S.IsStateAt r b states i → (call : Shape → Call) →
      ((c : Component) → slice_get r.system.components i ≡ Some c → c.shape.has_event_mode ≡ e → RunSends c.shape (call c.shape) × (asks_timing (call c.shape) ≡ false)) → B.AnswersWellIf e r states i call
  well_if e b states fit call is c m s fmu events = (always c m fmu.component fmu.machine).1 s (call c.shape) (fit c m s fmu).values (is c fmu.component events).0 (is c fmu.component events).1

  sets : (mode : B.Mode) (b : Bool) (states : List MachineState) → S.IsStateAt r b states i → B.SetsWell mode r states i
  sets mode b states fit c m s z call fmu numbers values setting =
      (always c m fmu.component fmu.machine).1 z call (values ∙ (fit c m s fmu).values) (setting_is_run mode c.shape call setting) (setting_is_untimed mode c.shape call setting)

  before : B.BehavesBefore r i
  unfolding well
  before = record {
    instantiate = well false (I.first_states r) (S.fit_first r i machine) (instantiate_of r.plan.link) (λ c of. ((refl, refl), refl));
    parameters = sets B.Configuring false (I.instantiated r) (S.fit_instantiated r i machine);
    enter = well false (I.configured r) (S.fit_configured r i machine) (λ shape. I.enter_initialization r) (λ c of. (tt, refl));
  }

  initially : (values : List (Option ℤ)) → I.SolvesInitially r values → B.BehavesInitially r values i
  initially values solves = record {
    sets = sets B.Initializing true (I.initializing r) (S.fit_initializing r i machine);
    gets = λ p port is at role read. well true (I.initialized r values) (S.fit_initialized r i machine values) (λ shape. C.Get port.kind port.reference)
        (λ c of. (get_call r port c (own_port r sound p port is c (ap (slice_get r.system.components) at ∙ of)) role, refl));
    timings = times.initially values solves;
    exit = well true (I.initialized r values) (S.fit_initialized r i machine values) (λ shape. C.ExitInitialization) (λ c of. (tt, refl));
  }

  output : (s : Situation) (values : List (Option ℤ)) → S.IsStateAt r false s.states i → (p : ℕ) (port : Port) → slice_get r.system.ports p ≡ Some port → port.component.0 ≡ i → port.role ≡ Output → B.AnswersAt Output r s values p port
  output s values fit p port is at role = (
    λ present. subst (λ k. B.AnswersWellIf true r (written r s values) k (λ shape. C.Get port.kind port.reference)) (sym at)
        (well_if true false (written r s values) (S.fit_written r i machine s values fit) (λ shape. C.Get port.kind port.reference) (λ c of events. (get_call r port c (own_port r sound p port is c (ap (slice_get r.system.components) at ∙ of)) role, refl))),
    λ first. subst (λ k. B.AnswersWellIf false r s.states k (λ shape. C.Get port.kind port.reference)) (sym at)
        (well_if false false s.states fit (λ shape. C.Get port.kind port.reference) (λ c of events. (get_call r port c (own_port r sound p port is c (ap (slice_get r.system.components) at ∙ of)) role, refl))),
  )

  in_written : (s : Situation) (values : List (Option ℤ)) → S.IsStateAt r false s.states i → (p : ℕ) (port : Port) → slice_get r.system.ports p ≡ Some port → port.component.0 ≡ i → (call : Call) →
      ((c : Component) → IsOwn r port c → RunSends c.shape call) → asks_timing call ≡ false → B.AnswersWell r (written r s values) port.component.0 (λ shape. call)
  in_written s values fit p port is at call run untimed = subst (λ k. B.AnswersWell r (written r s values) k (λ shape. call)) (sym at)
      (well false (written r s values) (S.fit_written r i machine s values fit) (λ shape. call) (λ c of. (run c (own_port r sound p port is c (ap (slice_get r.system.components) at ∙ of)), untimed)))

  at_port : (s : Situation) (values : List (Option ℤ)) → B.Reached r s → Solves r s values → S.IsStateAt r false s.states i → (p : ℕ) (port : Port) → slice_get r.system.ports p ≡ Some port → port.component.0 ≡ i → (role : Role) → port.role ≡ role → B.AnswersAt role r s values p port
  at_port s values reached solves fit p port is at Output e = output s values fit p port is at e
  at_port s values reached solves fit p port is at ClockOutput e = in_written s values fit p port is at (C.GetClock port.reference) (λ c own. get_clock_call r port c own e) refl
  at_port s values reached solves fit p port is at (TimeClock timing) e = times.in_instants s values reached solves p port is at timing e
  at_port s values reached solves fit p port is at (Input feed) e = tt
  at_port s values reached solves fit p port is at (ClockInput feed) e = tt

  in_instant : (s : Situation) (values : List (Option ℤ)) → B.Reached r s → Solves r s values → B.BehavesInInstant r s values i
  in_instant s values reached solves = let fit = fit_reached i machine reached in record {
    sets = sets B.Eventing false s.states fit;
    ports = λ p port is at. at_port s values reached solves fit p port is at port.role refl;
    update = well_if true false (written r s values) (S.fit_written r i machine s values fit) (λ shape. C.Update) (λ c of events. (events, refl));
  }

  asked : (z : Situation) → S.IsStateAt r false z.states i → (ask : ℕ → ℕ) → S.IsStateAt r false (B.asked_states r z ask) i
  asked z fit ask = S.fit_each r i machine false false (departing r z) (λ k c m state. after m state (step_to z.t (ask k))) (S.fit_departing r i machine z fit) (λ c m x is f. S.fit_step c.shape m x z.t (ask i - z.t) is f)

  in_step : (z : Situation) → B.Departed r z → B.BehavesInStep r z i
  in_step z departed =
      let fit : S.IsStateAt r false z.states i = subst (λ (x : Situation). S.IsStateAt r false x.states i) (sym departed.is)
      (S.fit_updated r i machine departed.s departed.values (fit_reached i machine departed.reached)) in
      record {
        enters_step = well_if true false z.states fit (λ shape. C.EnterStep) (λ c of events. (events, refl));
        sets = λ c of plain. sets B.Stepping false z.states fit;
        saves = sets B.Stepping false (departing r z) (S.fit_departing r i machine z fit);
        asks = λ bound e is_bound is_asked later. (
          well false (departing r z) (S.fit_departing r i machine z fit) (λ shape. step_to z.t e) (λ c of. (omega (arith, later), refl)),
          sets B.Stepping false (B.asked_states r z (λ k. e)) (asked z fit (λ k. e)),
        );
        enters_event = λ kept point step goes. well_if true false (B.asked_states r z (kept_at kept)) (asked z fit (kept_at kept)) (λ shape. C.EnterEvent) (λ c of events. (events, refl));
      }

pub timed_behaves : TimedBehaves
timed_behaves r sound i always times = record {
  before = before r sound i always times;
  initially = initially r sound i always times;
  in_instants = in_instant r sound i always times;
  in_steps = in_step r sound i always times;
}

-- a machine that always answers well does so for the timing of Clocks too
module _ (r : Run) (sound : IsSound r.system) (i : ℕ)
    (always : (c : Component) (m : Machine) → slice_get r.system.components i ≡ Some c → slice_get r.machines i ≡ Some m → IsMachineOf c.shape m × AlwaysWell c.shape m) where
  of_shape : S.IsMachineAt r i
  of_shape c m of_c of_m = (always c m of_c of_m).0

  -- the FMU of a port answers a call of it well
  at_own : (b : Bool) (states : List MachineState) → S.IsStateAt r b states i → (p : ℕ) (port : Port) → slice_get r.system.ports p ≡ Some port → port.component.0 ≡ i → (call : Call) →
      ((c : Component) → IsOwn r port c → RunSends c.shape call) → B.AnswersWell r states port.component.0 (λ shape. call)
  at_own b states fit p port is at call run = subst (λ k. B.AnswersWell r states k (λ shape. call)) (sym at)
      (λ c m s fmu. (always c m fmu.component fmu.machine).1 s call (fit c m s fmu).values (run c (own_port r sound p port is c (ap (slice_get r.system.components) at ∙ fmu.component))))

  timing : (states : List MachineState) → S.IsStateAt r true states i → (p : ℕ) (port : Port) → slice_get r.system.ports p ≡ Some port → port.component.0 ≡ i → (role : Role) → port.role ≡ role → B.AnswersInitially role r states port
  timing states fit p port is at (TimeClock Answered) e = (
    at_own true states fit p port is at (C.GetInterval port.reference) (λ c own. fixed_interval_call r port c own e),
    at_own true states fit p port is at (C.GetShift port.reference) (λ c own. shift_call r port c own e),
  )
  timing states fit p port is at (TimeClock (Periodic interval shift)) e = tt
  timing states fit p port is at (TimeClock Countdown) e = tt
  timing states fit p port is at (TimeClock Changing) e = at_own true states fit p port is at (C.GetShift port.reference) (λ c own. changing_shift_call r port c own e)
  timing states fit p port is at (Input feed) e = tt
  timing states fit p port is at Output e = tt
  timing states fit p port is at (ClockInput feed) e = tt
  timing states fit p port is at ClockOutput e = tt

  interval : (s : Situation) (values : List (Option ℤ)) → S.IsStateAt r false (written r s values) i → (p : ℕ) (port : Port) → slice_get r.system.ports p ≡ Some port → port.component.0 ≡ i → (timing : Timing) → port.role ≡ TimeClock timing → B.AnswersAt (TimeClock timing) r s values p port
  interval s values fit p port is at Countdown e = at_own false (written r s values) fit p port is at (C.GetInterval port.reference) (λ c own. countdown_call r port c own e)
  interval s values fit p port is at Changing e = λ active. at_own false (written r s values) fit p port is at (C.GetInterval port.reference) (λ c own. changing_interval_call r port c own e)
  interval s values fit p port is at (Periodic every shift) e = tt
  interval s values fit p port is at Answered e = tt

  always_times : TimesWell r i
  always_times = record {
    initially = λ values solves p port is at. timing (I.initialized r values) (S.fit_initialized r i of_shape values) p port is at port.role refl;
    in_instants = λ s values reached solves. interval s values (S.fit_written r i of_shape s values (fit_reached i of_shape reached));
  }

pub always_behaves : AlwaysBehaves
always_behaves r sound i always = timed_behaves r sound i
    (λ c m of_c of_m. let a = always c m of_c of_m in (a.0, λ s call valued sends untimed. a.1 s call valued sends))
    (always_times r sound i always)
