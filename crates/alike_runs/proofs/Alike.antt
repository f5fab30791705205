-- A run is about the components and ports of its system, whatever their orders, and about a plan, whatever its workers.
use Rattle.std.proofs.Common.{◌≡◌, ℕ, suc, ℤ, Bool, true, false, ◌||◌, List, [], ◌∷◌, map, refl, sym, ◌∙◌, ap, subst}
use Rattle.std.specs.Prelude.{Option, Some, None, if◌then◌else◌, ◌==◌}
use Rattle.std.specs.List.{list_any}
use Rattle.sim_base.specs.declared.numbers.PortId.{PortId}
use Rattle.value_types.specs.declared.shape.Shape.{Shape}
use Rattle.fmi_calls.specs.declared.call.Call.{Call}
use Rattle.fmu_peer.specs.Machine.{Machine, MachineState}
use Rattle.system_model.specs.declared.bound.Bound.{Bound}
use Rattle.system_model.specs.declared.plan.EndKind.{EndKind}
use Rattle.system_model.specs.declared.plan.Plan.{Plan}
use Rattle.system_model.specs.declared.system.Component.{Component}
use Rattle.system_model.specs.declared.system.Port.{Port}
use Rattle.system_model.specs.declared.system.Role.{Role}
use Rattle.system_model.specs.declared.system.Role.TheVariants.{Input, Output, ClockInput, ClockOutput, TimeClock}
use Rattle.system_model.specs.declared.system.Timing.TheVariants.{Answered, Changing, Countdown, Periodic}
use Rattle.system_model.specs.Text.{Instant}
use Rattle.system_model.specs.Values.{value}
use Rattle.run_model.specs.AfterInstant.{Again, AtLimit, Done, Ended, Following, OutOfRange, any_update, asks_again, asks_for_end, following, next_timer, next_timers_from, updated, written}
use Rattle.run_model.specs.Behaved.{AnswersAt, AnswersInitially, AnswersWell, AnswersWellIf, AtFirst, BehavesBefore, BehavesInInstant, BehavesInStep, BehavesInitially, Configuring, Departed, Eventing, Initializing, Mode, Onward, Reached, SetsWell, Stepping, WellBehaved}
use Rattle.run_model.specs.Equations.{Solves, SolvesAt, is_bad}
use Rattle.run_model.specs.Initial.{SolvesInitially, beginning, first_timer, initial_value, initialized, instantiated, is_bad_initially}
use Rattle.run_model.specs.Run.{IsFmu, Run, Situation, Timer}
use Rattle.run_model.specs.Stepping.{AtStop, ByStep, Departs, Ends, EndsBefore, GoesOn, IsStep, LacksStep, Next, WhereAsked, WhereFixed}
use Rattle.run_model.specs.Steps.{AtEvent, AtTick, IsBound, IsMark, OnGrid, OnStop}
use Rattle.run_model.specs.Timers.{is_armed_for}
use Rattle.run_model.specs.Trace.{Continues, Fails, Further, IsTrace, Last, Leads, LeadsBy, Runs, Unwritten}
use Rattle.run_rest.specs.Held as H
use Rattle.run_rest.specs.Held.{Comes, Held}
use Rattle.run_rest.specs.Packing.{Packing, ReadsBack}
use Rattle.event_iteration.specs.Lost.{IsFirstLost}
use Rattle.event_iteration.specs.declared.lost.LostValue.{LostValue}
use Rattle.machine_courses.specs.Kept.{PutsState, TakesState}
use Rattle.run_rest.specs.Parted.{entering_step}
use Rattle.machine_courses.specs.Prefixes.{AtTheStart, InInstant, LacksStepAt, LosesAt}
use Rattle.alike_runs.specs.Alike.{AreAlike, BehaveAlike, HeldAlike, PutsAlike, ReadBackAlike, TakesAlike, TraceAlike}

mapped : {X Y : Type 0} (f g : X → Y) → ((x : X) → f x ≡ g x) → (xs : List X) → map f xs ≡ map g xs
mapped f g h [] = refl
mapped {X} {Y} f g h (x ∷ xs) = ap (λ (y : Y). y ∷ map f xs) (h x) ∙ ap (λ (ys : List Y). g x ∷ ys) (mapped f g h xs)

-- what no definition of a run reads
pub record Free : Type 0 where
  pub workers : ℕ
  pub instant_order : List PortId
  pub initial_order : List PortId

abbrev free_of : Run → Free
free_of r = record {
  workers = r.plan.workers;
  instant_order = r.system.instant_order;
  initial_order = r.system.initial_order;
}

-- a run of these parts, with these orders and workers
abbrev run : List Component → List Port → Bound → List Machine → Plan → Free → Run
run cs ps bound ms plan free = record {
  system = record { components = cs; ports = ps; instant_order = free.instant_order; initial_order = free.initial_order };
  bound = bound;
  machines = ms;
  plan = record plan { workers = free.workers };
}

module _ (cs : List Component) (ps : List Port) (bound : Bound) (ms : List Machine) (plan : Plan) where
  abbrev at : Free → Run
  at free = run cs ps bound ms plan free

  -- ---- the values of an instant

  fmu : (one other : Free) (states : List MachineState) (i : ℕ) (k : Component) (m : Machine) (s : MachineState) → IsFmu (at one) states i k m s → IsFmu (at other) states i k m s
  fmu one other states i k m s h = record { component = h.component; machine = h.machine; state = h.state }

  solves_at : (one other : Free) (role : Role) (s : Situation) (V : List (Option ℤ)) (p : ℕ) (port : Port) (last v : Option ℤ) → SolvesAt role (at one) s V p port last v →
      SolvesAt role (at other) s V p port last v
  solves_at one other (Input None) s V p port last v h = h
  solves_at one other (Input (Some feed)) s V p port last v h = h
  solves_at one other Output s V p port last v h = h
  solves_at one other (ClockInput None) s V p port last v h = h
  solves_at one other (ClockInput (Some feed)) s V p port last v h = h
  solves_at one other ClockOutput s V p port last v h = h
  solves_at one other (TimeClock timing) s V p port last v h = h

  solves : (one other : Free) (s : Situation) (V : List (Option ℤ)) → Solves (at one) s V → Solves (at other) s V
  solves one other s V h = record {
    places = h.places;
    equations = λ p port is. solves_at one other port.role s V p port (value s.before p) (value V p) (h.equations p port is);
  }

  -- ---- the beginning

  initial_same : (one other : Free) (role : Role) (V : List (Option ℤ)) (p : ℕ) (port : Port) → initial_value role (at one) V p port ≡ initial_value role (at other) V p port
  initial_same one other (Input None) V p port = refl
  initial_same one other (Input (Some feed)) V p port = refl
  initial_same one other Output V p port = refl
  initial_same one other (ClockInput feed) V p port = refl
  initial_same one other ClockOutput V p port = refl
  initial_same one other (TimeClock timing) V p port = refl

  solves_initially : (one other : Free) (V : List (Option ℤ)) → SolvesInitially (at one) V → SolvesInitially (at other) V
  solves_initially one other V h = record {
    places = h.places;
    equations = λ p port is. h.equations p port is ∙ initial_same one other port.role V p port;
  }

  bad_same : (one other : Free) (V : List (Option ℤ)) (port : Port) → is_bad_initially (at one).system V port ≡ is_bad_initially (at other).system V port
  bad_same one other V port = by port.role
    where
      by : (role : Role) → is_bad_initially (at one).system V (record port { role = role }) ≡ is_bad_initially (at other).system V (record port { role = role })
      by (Input None) = refl
      by (Input (Some feed)) = refl
      by Output = refl
      by (ClockInput feed) = refl
      by ClockOutput = refl
      by (TimeClock timing) = refl

  any_bad_same : (one other : Free) (V : List (Option ℤ)) (found : Bool) → list_any (is_bad_initially (at one).system V) ps ≡ found → list_any (is_bad_initially (at other).system V) ps ≡ found
  any_bad_same one other V found h = subst (λ (test : Port → Bool). list_any test ps ≡ found) (λ i port. bad_same one other V port i) h

  first_timer_same : (one other : Free) (role : Role) (states : List MachineState) (port : Port) → first_timer role (at one) states port ≡ first_timer role (at other) states port
  first_timer_same one other (TimeClock (Periodic interval shift)) states port = refl
  first_timer_same one other (TimeClock Answered) states port = refl
  first_timer_same one other (TimeClock Changing) states port = refl
  first_timer_same one other (TimeClock Countdown) states port = refl
  first_timer_same one other (Input feed) states port = refl
  first_timer_same one other Output states port = refl
  first_timer_same one other (ClockInput feed) states port = refl
  first_timer_same one other ClockOutput states port = refl

  beginning_same : (one other : Free) (V : List (Option ℤ)) → beginning (at one) V ≡ beginning (at other) V
  beginning_same one other V =
      ap (λ (ts : List Timer). record (beginning (at one) V) { timers = ts })
      (mapped (λ (port : Port). first_timer port.role (at one) (initialized (at one) V) port) (λ (port : Port). first_timer port.role (at other) (initialized (at one) V) port)
      (λ port. first_timer_same one other port.role (initialized (at one) V) port) ps)

  -- ---- what follows an instant

  next_timer_same : (one other : Free) (role : Role) (s : Situation) (V : List (Option ℤ)) (p : ℕ) (port : Port) (old : Timer) →
      next_timer role (at one) s V p port old ≡ next_timer role (at other) s V p port old
  next_timer_same one other (TimeClock Countdown) s V p port old = refl
  next_timer_same one other (TimeClock Changing) s V p port old = refl
  next_timer_same one other (TimeClock (Periodic interval shift)) s V p port old = refl
  next_timer_same one other (TimeClock Answered) s V p port old = refl
  next_timer_same one other (Input feed) s V p port old = refl
  next_timer_same one other Output s V p port old = refl
  next_timer_same one other (ClockInput feed) s V p port old = refl
  next_timer_same one other ClockOutput s V p port old = refl

  timers_from : (one other : Free) (s : Situation) (V : List (Option ℤ)) (p : ℕ) (ports : List Port) (olds : List Timer) →
      next_timers_from (at one) s V p ports olds ≡ next_timers_from (at other) s V p ports olds
  timers_from one other s V p [] olds = refl
  timers_from one other s V p (port ∷ ports) [] = refl
  timers_from one other s V p (port ∷ ports) (old ∷ olds) =
      ap (λ (t : Timer). t ∷ next_timers_from (at one) s V (suc p) ports olds) (next_timer_same one other port.role s V p port old)
      ∙ ap (λ (ts : List Timer). next_timer port.role (at other) s V p port old ∷ ts) (timers_from one other s V (suc p) ports olds)

  updated_same : (one other : Free) (s : Situation) (V : List (Option ℤ)) → updated (at one) s V ≡ updated (at other) s V
  updated_same one other s V = ap (λ (ts : List Timer). record (updated (at one) s V) { timers = ts }) (timers_from one other s V 0 ps s.timers)

  following_same : (one other : Free) (s : Situation) (V : List (Option ℤ)) → following (at one) s V ≡ following (at other) s V
  following_same one other s V =
      ap (λ (ts : List Timer). if list_any (is_bad V) ps then OutOfRange
      else (if any_update asks_for_end (at one) s V then Ended
      else (if any_update asks_again (at one) s V || list_any (is_armed_for s.t) ts
      then (if suc s.n == plan.limit then AtLimit else Again) else Done)))
      (timers_from one other s V 0 ps s.timers)

  -- ---- a step

  mark : (one other : Free) {timers : List Timer} {events : List (Option ℕ)} {point : ℕ} → IsMark (at one).plan timers events point → IsMark (at other).plan timers events point
  mark one other (OnGrid h) = OnGrid h
  mark one other (AtTick h) = AtTick h
  mark one other (AtEvent h) = AtEvent h
  mark one other (OnStop h) = OnStop h

  is_bound : (one other : Free) (timers : List Timer) (events : List (Option ℕ)) (t n : ℕ) → IsBound (at one).plan timers events t n → IsBound (at other).plan timers events t n
  is_bound one other timers events t n h = record { later = h.later; mark = mark one other h.mark; least = λ point later m. h.least point later (mark other one m) }

  is_step : (one other : Free) (z : Situation) (kept : List ℕ) (point : ℕ) → IsStep (at one) z kept point → IsStep (at other) z kept point
  is_step one other z kept point h = record { before_stop = h.before_stop; bound = h.bound; is_bound = is_bound one other z.timers z.events z.t h.bound h.is_bound; agree = h.agree }

  lacks_step : (one other : Free) (z : Situation) (i e : ℕ) → LacksStep (at one) z i e → LacksStep (at other) z i e
  lacks_step one other z i e h = record { before_stop = h.before_stop; bound = h.bound; is_bound = is_bound one other z.timers z.events z.t h.bound h.is_bound; stops = h.stops }

  departs : (one other : Free) {z : Situation} {next : Next} → Departs (at one) z next → Departs (at other) z next
  departs one other {z} (AtStop next at e) = AtStop next at e
  departs one other {z} (WhereAsked next kept point step asks e) = WhereAsked next kept point (is_step one other z kept point step) asks e
  departs one other {z} (WhereFixed next i end lacks e) = WhereFixed next i end (lacks_step one other z i end lacks) e
  departs one other {z} (ByStep next kept point step asks e) = ByStep next kept point (is_step one other z kept point step) asks e

  leads_by : (one other : Free) (f : Following) (s : Situation) (V : List (Option ℤ)) (next : Next) → LeadsBy f (at one) s V next → LeadsBy f (at other) s V next
  leads_by one other OutOfRange s V next h = h
  leads_by one other Ended s V next h = h
  leads_by one other AtLimit s V next h = h
  leads_by one other Again s V next h = h ∙ ap GoesOn (updated_same one other s V)
  leads_by one other Done s V next h =
      subst (λ (z : Situation). Departs (at other) z next) (updated_same one other s V) (departs one other h)

  leads : (one other : Free) (s : Situation) (V : List (Option ℤ)) (next : Next) → Leads (at one) s V next → Leads (at other) s V next
  leads one other s V next h =
      subst (λ (f : Following). LeadsBy f (at other) s V next) (following_same one other s V) (leads_by one other (following (at one) s V) s V next h)

  -- ---- the trace

  continues : (one other : Free) {s : Situation} {is : List Instant} {kind : EndKind} {end : ℕ} → Continues (at one) s is kind end → Continues (at other) s is kind end
  continues one other (Last s V is kind end solved leading e) = Last s V is kind end (solves one other s V solved) (leads one other s V (Ends kind end) leading) e
  continues one other (Unwritten s V is kind end solved leading e) = Unwritten s V is kind end (solves one other s V solved) (leads one other s V (EndsBefore kind end) leading) e
  continues one other (Further s V is kind end next rest solved leading e more) =
      Further s V is kind end next rest (solves one other s V solved) (leads one other s V (GoesOn next) leading) e (continues one other more)

  traced : (one other : Free) (is : List Instant) (kind : EndKind) (end : ℕ) → IsTrace (at one) is kind end → IsTrace (at other) is kind end
  traced one other is kind end (Fails initial solved bad none ranged start) = Fails initial (solves_initially one other initial solved) (any_bad_same one other initial true bad) none ranged start
  traced one other is kind end (Runs initial solved kept more) =
      Runs initial (solves_initially one other initial solved) (any_bad_same one other initial false kept)
      (subst (λ (s : Situation). Continues (at other) s is kind end) (beginning_same one other initial) (continues one other more))

  -- ---- where it comes to

  reached : (one other : Free) {s : Situation} → Reached (at one) s → Reached (at other) s
  reached one other (AtFirst s initial solved kept e) = AtFirst s initial (solves_initially one other initial solved) (any_bad_same one other initial false kept) (e ∙ beginning_same one other initial)
  reached one other (Onward s V next before solved leading) = Onward s V next (reached one other before) (solves one other s V solved) (leads one other s V (GoesOn next) leading)

  departed : (one other : Free) (z : Situation) → Departed (at one) z → Departed (at other) z
  departed one other z h = record {
    s = h.s;
    values = h.values;
    reached = reached one other h.reached;
    solves = solves one other h.s h.values h.solves;
    done = sym (following_same one other h.s h.values) ∙ h.done;
    is = h.is ∙ updated_same one other h.s h.values;
    before_stop = h.before_stop;
  }

  lacks_at : (one other : Free) (i point e : ℕ) → LacksStepAt (at one) i point e → LacksStepAt (at other) i point e
  lacks_at one other i point e h = record { z = h.z; departed = departed one other h.z h.departed; point = h.point; lacks = lacks_step one other h.z i e h.lacks }

  loses_at : (one other : Free) (lost : LostValue) (point : ℕ) → LosesAt (at one) lost point → LosesAt (at other) lost point
  loses_at one other lost point (AtTheStart initial solved first e) =
      AtTheStart initial (solves_initially one other initial solved) (subst (λ (test : Port → Bool). IsFirstLost test ps initial lost) (λ i port. bad_same one other initial port i) first) e
  loses_at one other lost point (InInstant s V way solved first e) = InInstant s V (reached one other way) (solves one other s V solved) first e

  -- ---- where it is held

  comes : (one other : Free) {is : List Instant} {s : Situation} → Comes (at one) is s → Comes (at other) is s
  comes one other (H.AtFirst s is initial solved kept e none) = H.AtFirst s is initial (solves_initially one other initial solved) (any_bad_same one other initial false kept) (e ∙ beginning_same one other initial) none
  comes one other (H.Onward is s V js next before solved leading e) = H.Onward is s V js next (comes one other before) (solves one other s V solved) (leads one other s V (GoesOn next) leading) e

  held : (one other : Free) (is : List Instant) (z : Situation) → Held (at one) is z → Held (at other) is z
  held one other is z h = record {
    before = h.before;
    s = h.s;
    values = h.values;
    comes = comes one other h.comes;
    solves = solves one other h.s h.values h.solves;
    done = sym (following_same one other h.s h.values) ∙ h.done;
    stands = h.stands ∙ updated_same one other h.s h.values;
    early = h.early;
    instants = h.instants;
  }

  reads_back : (one other : Free) (packings : List Packing) → ReadsBack (at one) packings → ReadsBack (at other) packings
  reads_back one other packings h = record { count = h.count; each = λ i packing is z s leaves here. h.each i packing is z s (departed other one z leaves) here }

  -- ---- states as bytes

  puts : (one other : Free) (i : ℕ) → PutsState (at one) i → PutsState (at other) i
  puts one other i h z c m s leaves f = h z c m s (departed other one z leaves) (fmu other one (entering_step (at one) z) i c m s f)

  takes : (one other : Free) (own : Plan) (i : ℕ) → TakesState (at one) own i → TakesState (at other) own i
  takes one other own i h z c m s u leaves f g =
      h z c m s u (departed other one z leaves) (fmu other one (instantiated (record (at one) { plan = own })) i c m s f) (fmu other one (entering_step (at one) z) i c m u g)

  -- ---- good replies

  answers : (one other : Free) (states : List MachineState) (i : ℕ) (call : Shape → Call) → AnswersWell (at one) states i call → AnswersWell (at other) states i call
  answers one other states i call h k m s f = h k m s (fmu other one states i k m s f)

  answers_if : (one other : Free) (has : Bool) (states : List MachineState) (i : ℕ) (call : Shape → Call) → AnswersWellIf has (at one) states i call → AnswersWellIf has (at other) states i call
  answers_if one other has states i call h k m s f = h k m s (fmu other one states i k m s f)

  sets : (one other : Free) (mode : Mode) (states : List MachineState) (i : ℕ) → SetsWell mode (at one) states i → SetsWell mode (at other) states i
  sets one other mode states i h k m s z call f = h k m s z call (fmu other one states i k m s f)

  answers_initially : (one other : Free) (role : Role) (states : List MachineState) (port : Port) → AnswersInitially role (at one) states port → AnswersInitially role (at other) states port
  answers_initially one other (TimeClock Answered) states port h = (answers one other states port.component.0 _ h.0, answers one other states port.component.0 _ h.1)
  answers_initially one other (TimeClock Changing) states port h = answers one other states port.component.0 _ h
  answers_initially one other (TimeClock (Periodic interval shift)) states port h = h
  answers_initially one other (TimeClock Countdown) states port h = h
  answers_initially one other (Input feed) states port h = h
  answers_initially one other Output states port h = h
  answers_initially one other (ClockInput feed) states port h = h
  answers_initially one other ClockOutput states port h = h

  answers_at : (one other : Free) (role : Role) (s : Situation) (V : List (Option ℤ)) (p : ℕ) (port : Port) → AnswersAt role (at one) s V p port → AnswersAt role (at other) s V p port
  answers_at one other Output s V p port h =
      (λ present. answers_if one other true (written (at one) s V) port.component.0 _ (h.0 present), λ first. answers_if one other false s.states port.component.0 _ (h.1 first))
  answers_at one other ClockOutput s V p port h = answers one other (written (at one) s V) port.component.0 _ h
  answers_at one other (TimeClock Countdown) s V p port h = answers one other (written (at one) s V) port.component.0 _ h
  answers_at one other (TimeClock Changing) s V p port h = λ ticks. answers one other (written (at one) s V) port.component.0 _ (h ticks)
  answers_at one other (TimeClock (Periodic interval shift)) s V p port h = h
  answers_at one other (TimeClock Answered) s V p port h = h
  answers_at one other (Input feed) s V p port h = h
  answers_at one other (ClockInput feed) s V p port h = h

  before : (one other : Free) (i : ℕ) → BehavesBefore (at one) i → BehavesBefore (at other) i
  before one other i h = record {
    instantiate = answers one other _ i _ h.instantiate;
    parameters = sets one other Configuring _ i h.parameters;
    enter = answers one other _ i _ h.enter;
  }

  initially : (one other : Free) (V : List (Option ℤ)) (i : ℕ) → BehavesInitially (at one) V i → BehavesInitially (at other) V i
  initially one other V i h = record {
    sets = sets one other Initializing _ i h.sets;
    gets = λ p port is of role read. answers one other _ i _ (h.gets p port is of role read);
    timings = λ p port is of. answers_initially one other port.role _ port (h.timings p port is of);
    exit = answers one other _ i _ h.exit;
  }

  in_instant : (one other : Free) (s : Situation) (V : List (Option ℤ)) (i : ℕ) → BehavesInInstant (at one) s V i → BehavesInInstant (at other) s V i
  in_instant one other s V i h = record {
    sets = sets one other Eventing _ i h.sets;
    ports = λ p port is of. answers_at one other port.role s V p port (h.ports p port is of);
    update = answers_if one other true _ i _ h.update;
  }

  in_step : (one other : Free) (z : Situation) (i : ℕ) → BehavesInStep (at one) z i → BehavesInStep (at other) z i
  in_step one other z i h = record {
    enters_step = answers_if one other true _ i _ h.enters_step;
    sets = λ k is has. sets one other Stepping _ i (h.sets k is has);
    saves = sets one other Stepping _ i h.saves;
    asks = λ n e bounds asked later. let x = h.asks n e (is_bound other one z.timers z.events z.t n bounds) asked later in (answers one other _ i _ x.0, sets one other Stepping _ i x.1);
    enters_event = λ kept point step asks. answers_if one other true _ i _ (h.enters_event kept point (is_step other one z kept point step) asks);
  }

  behaved : (one other : Free) → WellBehaved (at one) → WellBehaved (at other)
  behaved one other h i = let x = h i in record {
    before = before one other i x.before;
    initially = λ V solved. initially one other V i (x.initially V (solves_initially other one V solved));
    in_instants = λ s V way solved. in_instant one other s V i (x.in_instants s V (reached other one way) (solves other one s V solved));
    in_steps = λ z leaves. in_step one other z i (x.in_steps z (departed other one z leaves));
  }

-- ---- runs that are alike

same_run : (r q : Run) → AreAlike r q → run r.system.components r.system.ports r.bound r.machines r.plan (free_of q) ≡ q
same_run r q same =
    ap (λ (cs : List Component). run cs r.system.ports r.bound r.machines r.plan (free_of q)) same.components
    ∙ ap (λ (ps : List Port). run q.system.components ps r.bound r.machines r.plan (free_of q)) same.ports
    ∙ ap (λ (bound : Bound). run q.system.components q.system.ports bound r.machines r.plan (free_of q)) same.bound
    ∙ ap (λ (ms : List Machine). run q.system.components q.system.ports q.bound ms r.plan (free_of q)) same.machines
    ∙ ap (λ (plan : Plan). record q { plan = plan }) same.plan

-- what holds of a run whatever is free in it holds of each that is alike
pub by_parts : (P : Run → Type 0) → ((cs : List Component) (ps : List Port) (bound : Bound) (ms : List Machine) (plan : Plan) (one other : Free) → P (run cs ps bound ms plan one) → P (run cs ps bound ms plan other)) → (r q : Run) → AreAlike r q → P r → P q
by_parts P moved r q same p = subst P (same_run r q same) (moved r.system.components r.system.ports r.bound r.machines r.plan (free_of r) (free_of q) p)

pub trace_alike : TraceAlike
trace_alike r q same is kind point = by_parts (λ (x : Run). IsTrace x is kind point) (λ cs ps bound ms plan one other. traced cs ps bound ms plan one other is kind point) r q same

pub behave_alike : BehaveAlike
behave_alike = by_parts WellBehaved behaved

pub held_alike : HeldAlike
held_alike r q same is z = by_parts (λ (x : Run). Held x is z) (λ cs ps bound ms plan one other. held cs ps bound ms plan one other is z) r q same

pub read_back_alike : ReadBackAlike
read_back_alike r q same packings = by_parts (λ (x : Run). ReadsBack x packings) (λ cs ps bound ms plan one other. reads_back cs ps bound ms plan one other packings) r q same

pub puts_alike : PutsAlike
puts_alike r q same i = by_parts (λ (x : Run). PutsState x i) (λ cs ps bound ms plan one other. puts cs ps bound ms plan one other i) r q same

pub takes_alike : TakesAlike
takes_alike r q same own i = by_parts (λ (x : Run). TakesState x own i) (λ cs ps bound ms plan one other. takes cs ps bound ms plan one other own i) r q same

pub lacks_alike : (r q : Run) → AreAlike r q → (i at e : ℕ) → LacksStepAt r i at e → LacksStepAt q i at e
lacks_alike r q same i point e = by_parts (λ (x : Run). LacksStepAt x i point e) (λ cs ps bound ms plan one other. lacks_at cs ps bound ms plan one other i point e) r q same

pub loses_alike : (r q : Run) → AreAlike r q → (lost : LostValue) (point : ℕ) → LosesAt r lost point → LosesAt q lost point
loses_alike r q same lost point = by_parts (λ (x : Run). LosesAt x lost point) (λ cs ps bound ms plan one other. loses_at cs ps bound ms plan one other lost point) r q same
