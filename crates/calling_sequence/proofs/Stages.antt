-- A stage by its own contract: where it leads the run, and where it leaves the slots.
use Rattle.std.proofs.Common.{◌≡◌, ℕ, ℤ, Bool, true, false, List, [], Option, Result, Ok, Err, refl, sym, ap, subst, arith, ◌∙◌, ◌+◌}
use Rattle.std.specs.Prelude.{All, IfOk, OnOk, ◌||◌}
use Rattle.std.specs.List.{list_any}
use Rattle.std.proofs.lemmas.List.{length-map}
use Rattle.sim_base.specs.Sink.{SinkView, with_piece}
use Rattle.system_model.specs.Text.{instant_text}
use Rattle.event_iteration.specs.Updates.{Updates as UpdatesAt, events_told, updated_by, updating}
use Rattle.event_iteration.specs.declared.updates.Updated.{Updated}
use Rattle.value_types.specs.declared.shape.Shape.{Shape}
use Rattle.fmi_calls.specs.declared.call.Call.{Call}
use Rattle.fmu_peer.specs.CloseAll.{Instance, instance_in}
use Rattle.fmu_peer.specs.View.{View}
use Rattle.fmu_peer.specs.declared.peer.Exchange.{Exchange}
use Rattle.fmu_peer.specs.declared.slot.Slot.{Slot}
use Rattle.event_iteration.specs.Explains.{Explains, Walks}
use Rattle.event_iteration.specs.Intervals.{AsksIntervals, Fixes, is_some_armed}
use Rattle.event_iteration.specs.Settings.{before_step, port_order}
use Rattle.event_iteration.specs.Turns.{Rules}
use Rattle.run_model.specs.Equations.{is_bad}
use Rattle.run_model.specs.Initial.{is_bad_initially}
use Rattle.run_model.specs.Run.{Timer}
use Rattle.system_model.specs.declared.system.System.{System}
use Rattle.slot_calls.specs.declared.bad_answer.BadAnswer.{BadAnswer}
use Rattle.slot_calls.specs.Log.{ComponentCall, Sent, Told}
use Rattle.slot_calls.specs.Slots.{LiveSlot, Stands, instances}
use Rattle.slot_calls.specs.Stage.{IsAnswered, Stage, StopsAt, shapes, shapes_of, to_each, to_those}
use Rattle.slot_calls.proofs.CallerLemmas.{Led, stage_all, stage_those}
use Rattle.calling_sequence.specs.declared.experiment.Experiment.{Experiment}
use Rattle.calling_sequence.specs.Course.{Extent, Found, InstantDone, IsWithin, LeadsTo, MayLeave, Place, Read, Rearmed, Rearming, Spot, Timed, Times, Updates, part_at, shown}
use Rattle.calling_sequence.specs.Ends.{RunsIn, point_of, puts_instants}
use Rattle.calling_sequence.specs.StageOutcomes.{ComesTo, Crosses, Puts, ReachesEnd, ReachesPlace, StageOutcome, StepsFrom}
use Rattle.calling_sequence.specs.Here.{Follows, Here, Past}
use Rattle.calling_sequence.specs.declared.buffers.Buffers.{Buffers}
use Rattle.calling_sequence.specs.declared.ending.Break.{Break}
use Rattle.calling_sequence.specs.declared.ending.Ending.{Ending}
use Rattle.calling_sequence.specs.declared.ending.Break.TheVariants as B
use Rattle.calling_sequence.specs.declared.run_end.RunEnd.TheVariants as E
use Rattle.calling_sequence.specs.Parts.{Calls, Does, Falls, Part, Walk}
use Rattle.calling_sequence.specs.Ready.{Ready}
use Rattle.calling_sequence.proofs.Chains.{IsGoodly, IsQuestion, fits_on, keep_all}
use Rattle.calling_sequence.proofs.Walks.{asking_goodly, timing_goodly}
use Rattle.calling_sequence.proofs.Onto.{cut, off, on_quietly, on_shown, on_unput}
use Rattle.calling_sequence.specs.Puts.{PutsPrefixOf}

-- ---- where it leads the run

module _ {T : Type 0} (e : Experiment) (p : Place) (q : T → Place) (quiet : (x : T) → shown (q x) ≡ []) (within : (x : T) (extent : Extent) → IsWithin extent (q x)) (mids news : List Instance) (count : ℕ) where
  module _ (fits : shapes mids ≡ shapes_of e.system) (calls : List Shape → List ComponentCall) (value : List Sent → T) where
    -- the answers lead on by the value that they give
    abbrev pub LeadsBy : Type 0
    LeadsBy = (x : T) (log : List Sent) → IsAnswered (shapes_of e.system) (calls (shapes_of e.system)) log → x ≡ value log → LeadsTo e.system e.plan p [] log (q x)

    -- calls that stop at the first bad answer
    pub by_stage : part_at e.system e.bound e.plan p ≡ Calls (calls (shapes_of e.system)) → LeadsBy → (r : Result T BadAnswer) → Stage (calls (shapes mids)) value mids news r → StageOutcome e p q mids news count count r
    by_stage is leads (Ok x) s = λ v olds past h.
        let done = subst (λ (ss : List Shape). IsAnswered ss (calls ss) s.log) fits s.says.0 in
        on_quietly e olds past p mids news v count h s.log s.told (q x) [] (subst (λ (part : Part). Does e.system part [] s.log) (sym is) done) (leads x s.log done s.says.1) (within x past.extent) (quiet x)
    by_stage is leads (Err bad) s = λ v olds past h.
        off e olds past p mids news v count h s.log s.told bad (subst (λ (part : Part). Falls e.system part bad s.log) (sym is) (subst (λ (ss : List Shape). StopsAt ss (calls ss) bad s.log) fits s.says))

-- both hold after a good answer
pub both_ok : {T E : Type 0} (P Q : Type 0) (r : Result T E) → OnOk r P → OnOk r Q → OnOk r (P × Q)
both_ok P Q (Ok x) p q = (p, q)
both_ok P Q (Err bad) p q = tt

always : {T E : Type 0} (P : Type 0) (r : Result T E) → P → OnOk r P
always P (Ok x) p = p
always P (Err bad) p = tt

-- a walk, where after good answers it leads on
pub by_good_walk : (e : Experiment) (p q : Place) → shown q ≡ [] → ((extent : Extent) → IsWithin extent q) → (mids news : List Instance) (count : ℕ) (rules : Rules) (past : List (Option ℤ)) (order : List ℕ) (values : List (Option ℤ)) → part_at e.system e.bound e.plan p ≡ Walk rules past order →
    (r : Result (Unit {0}) BadAnswer) → ((log : List Sent) → OnOk r (LeadsTo e.system e.plan p values log q)) → Walks e.system rules past order values mids news r → StageOutcome e p (λ (x : Unit {0}). q) mids news count count r
by_good_walk e p q quiet within mids news count rules past order values is (Ok x) leads w = λ v olds past h.
    on_quietly e olds past p mids news v count h w.log w.told q values (subst (λ (part : Part). Does e.system part values w.log) (sym is) w.says) (leads w.log) (within past.extent) quiet
by_good_walk e p q quiet within mids news count rules past order values is (Err bad) leads w = λ v olds past h.
    off e olds past p mids news v count h w.log w.told bad (subst (λ (part : Part). Falls e.system part bad w.log) (sym is) w.says)

-- and where it always does
pub by_walk : (e : Experiment) (p q : Place) → shown q ≡ [] → ((extent : Extent) → IsWithin extent q) → (mids news : List Instance) (count : ℕ) (rules : Rules) (past : List (Option ℤ)) (order : List ℕ) (values : List (Option ℤ)) → part_at e.system e.bound e.plan p ≡ Walk rules past order →
    ((log : List Sent) → LeadsTo e.system e.plan p values log q) → (r : Result (Unit {0}) BadAnswer) → Walks e.system rules past order values mids news r → StageOutcome e p (λ (x : Unit {0}). q) mids news count count r
by_walk e p q quiet within mids news count rules past order values is leads r w =
    by_good_walk e p q quiet within mids news count rules past order values is r (λ log. always (LeadsTo e.system e.plan p values log q) r (leads log)) w

-- the questions for the timing of fixed and changing Clocks
pub by_fixes : (e : Experiment) (found : List (Option ℤ)) → list_any (is_bad_initially e.system found) e.system.ports ≡ false → (timers : List Timer) (mids news : List Instance) (count : ℕ) (r : Result (Unit {0}) BadAnswer) → Fixes e.system e.plan.resolution e.plan.start timers mids news r → StageOutcome e (Found found) (λ (x : Unit {0}). Timed timers) mids news count count r
by_fixes e found kept timers mids news count (Ok x) f = λ v olds past h. on_quietly e olds past (Found found) mids news v count h f.log f.told (Timed timers) [] f.says.0 (Times found [] f.log timers kept f.says.1) tt refl
by_fixes e found kept timers mids news count (Err bad) f = λ v olds past h. off e olds past (Found found) mids news v count h f.log f.told bad f.says

-- by another name of the start
pub fixes_as : (system : System) (per_second a b : ℕ) → a ≡ b → (timers : List Timer) (mids news : List Instance) (r : Result (Unit {0}) BadAnswer) → Fixes system per_second a timers mids news r → Fixes system per_second b timers mids news r
fixes_as system per_second a b same timers mids news r f = subst (λ (start : ℕ). Fixes system per_second start timers mids news r) same f

-- the questions for intervals
pub by_asking : (e : Experiment) (s : Spot) → list_any (is_bad s.values) e.system.ports ≡ false → (next : List Timer) (mids news : List Instance) (count : ℕ) (r : Result Bool BadAnswer) → AsksIntervals e.system e.plan.resolution s.t s.values s.timers next mids news r →
    StageOutcome e (Read s) (λ (armed : Bool). Rearmed (record s { timers = next })) mids news count count r
by_asking e s kept next mids news count (Ok x) a = λ v olds past h.
    on_quietly e olds past (Read s) mids news v count h a.log a.told (Rearmed (record s { timers = next })) s.values a.says.0.explains (Rearming s s.values next a.log kept a.says.0) tt refl
by_asking e s kept next mids news count (Err bad) a = λ v olds past h.
    off e olds past (Read s) mids news v count h a.log a.told bad (s.values, a.says)

-- the same event times, by another name
pub goes_as : (e : Experiment) (p : Place) (s : Spot) (events : List (Option ℕ)) → s.events ≡ events → (mids news : List Instance) (count counted : ℕ) (r : Result Bool BadAnswer) → StageOutcome e p (λ (armed : Bool). Rearmed s) mids news count counted r →
    StageOutcome e p (λ (armed : Bool). Rearmed (record s { events = events })) mids news count counted r
goes_as e p s events same mids news count counted r goes = subst (λ (es : List (Option ℕ)). StageOutcome {T = Bool} e p (λ (armed : Bool). Rearmed (record s { events = es })) mids news count counted r) same goes

pub armed_by : {system : System} {per_second t : ℕ} {values : List (Option ℤ)} {timers next : List Timer} {mids news : List Instance} (r : Result Bool BadAnswer) → AsksIntervals system per_second t values timers next mids news r → IfOk r (λ (b : Bool). b ≡ is_some_armed t next)
armed_by (Ok x) a = a.says.1
armed_by (Err bad) a = tt

-- Updates after which the instant is put
module _ (e : Experiment) (s : Spot) (events : List (Option ℕ)) (u v : Updated) (again : v.again ≡ (u.again || is_some_armed s.t s.timers)) (asked : v.asked ≡ u.asked) (mids news : List Instance) (fits : shapes mids ≡ shapes_of e.system) (updates : UpdatesAt s.t events mids news (Ok u))
    (olds : List Instance) (past : Past) (present : SinkView) (count : ℕ) (h : Here e olds past (Rearmed s) mids present count) where
  done : IsAnswered (shapes_of e.system) (updating (shapes_of e.system)) updates.stage.log
  done = subst (λ (ss : List Shape). IsAnswered ss (updating ss) updates.stage.log) fits updates.stage.says.0

  -- the spot with the event times that the Updates tell
  abbrev told_spot : Spot
  told_spot = record s { events = events }

  sees : LeadsTo e.system e.plan (Rearmed s) [] updates.stage.log (InstantDone told_spot v.again v.asked)
  sees =
      Updates s [] updates.stage.log events v.again v.asked (updates.events_are ∙ ap (λ (ss : List Shape). events_told s.t ss updates.stage.log) fits) (again ∙ ap (λ (x : Updated). x.again || is_some_armed s.t s.timers) updates.stage.says.1)
      (asked ∙ ap (λ (x : Updated). x.asked) updates.stage.says.1)

  abbrev goes_on : Place
  goes_on = InstantDone told_spot v.again v.asked

  -- the instant isn't put
  pub by_none : puts_instants past.extent ≡ false → Here e olds past goes_on news present count
  by_none unput = on_unput e olds past (Rearmed s) mids news present count h updates.stage.log updates.stage.told goes_on [] done sees tt _ refl unput

  pub by_put : puts_instants past.extent ≡ true → (after : SinkView) → after ≡ with_piece present (instant_text s.t s.n s.values) → Here e olds past goes_on news after (count + 1)
  by_put puts after put = on_shown e olds past (Rearmed s) mids news present count h updates.stage.log updates.stage.told goes_on [] done sees tt _ refl puts after put

  pub by_cut : puts_instants past.extent ≡ true → (after : SinkView) → PutsPrefixOf present (instant_text s.t s.n s.values) after → RunsIn e.system e.bound e.plan past.extent olds news past.sink after count E.WriteFault
  by_cut puts after put = cut e olds past (Rearmed s) mids news present count h updates.stage.log updates.stage.told goes_on [] done sees tt _ refl puts after put

pub badly_updated : (e : Experiment) (s : Spot) (mids news : List Instance) → shapes mids ≡ shapes_of e.system → (bad : BadAnswer) → Stage (updating (shapes mids)) updated_by mids news (Err bad) → (v : SinkView) (count : ℕ) →
    ReachesEnd e (Rearmed s) (record { end = E.Bad bad; point = s.t }) mids news v v count count
badly_updated e s mids news fits bad stage v count olds past h =
    off e olds past (Rearmed s) mids news v count h stage.log stage.told bad (subst (λ (ss : List Shape). StopsAt ss (updating ss) bad stage.log) fits stage.says)

-- ---- one stage after others

module _ {T : Type 0} (e : Experiment) (p q : Place) (r : T → Place) (olds mids news : List Instance) (count now counted : ℕ) where
  pub then_goes : point_of e.plan q ≡ point_of e.plan p → ((v : SinkView) → ReachesPlace e p q olds mids v v count now) → (x : Result T BadAnswer) → StageOutcome e q r mids news now counted x → StageOutcome e p r olds news count counted x
  then_goes same first (Ok x) s = λ v starts past h. s v starts past (first v starts past h)
  then_goes same first (Err bad) s = λ v starts past h.
      subst (λ (point : ℕ). Follows e past.extent starts past.sink (record { end = E.Bad bad; point = point }) news v counted) same (s v starts past (first v starts past h))

  pub then_crosses : ((v : SinkView) → ReachesPlace e p q olds mids v v count now) → (x : Result T Ending) → Crosses e q r mids news now counted x → Crosses e p r olds news count counted x
  then_crosses first (Ok x) s = λ v starts past h. s v starts past (first v starts past h)
  then_crosses first (Err ending) s = λ v starts past h. s v starts past (first v starts past h)

  pub then_steps : (t : ℕ) → ((v : SinkView) → ReachesPlace e p q olds mids v v count now) → (x : Result T Ending) → StepsFrom e t q r mids news now counted x → StepsFrom e t p r olds news count counted x
  then_steps t first (Ok x) s = λ v starts past may h. s v starts past may (first v starts past h)
  then_steps t first (Err ending) s = λ v starts past may h. s v starts past may (first v starts past h)

  -- a step that the run may leave for
  pub steps_after : (t : ℕ) → ((v : SinkView) (starts : List Instance) (past : Past) → MayLeave past.extent t → Here e starts past p olds v count → Here e starts past q mids v now) → (x : Result T Ending) → StepsFrom e t q r mids news now counted x → StepsFrom e t p r olds news count counted x
  steps_after t first (Ok x) s = λ v starts past may h. s v starts past may (first v starts past may h)
  steps_after t first (Err ending) s = λ v starts past may h. s v starts past may (first v starts past may h)

  -- and one after it
  pub steps_before : (t : ℕ) → ((v : SinkView) (starts : List Instance) (past : Past) → MayLeave past.extent t → Here e starts past p olds v count → Here e starts past q mids v now) → (x : Result T Ending) → Crosses e q r mids news now counted x → StepsFrom e t p r olds news count counted x
  steps_before t first (Ok x) s = λ v starts past may h. s v starts past (first v starts past may h)
  steps_before t first (Err ending) s = λ v starts past may h. s v starts past (first v starts past may h)

  pub then_puts : (puts : Bool) (present after : SinkView) → ReachesPlace e p q olds mids present present count now → (x : Result T Break) → Puts e puts q r mids news present after now counted x → Puts e puts p r olds news present after count counted x
  then_puts puts present after first (Ok x) s = λ starts past so h. s starts past so (first starts past h)
  then_puts puts present after first (Err broken) s = λ starts past so h. s starts past so (first starts past h)

-- a stage before those that take instants
pub before_come : (e : Experiment) (p q : Place) (b : Buffers) (olds mids news : List Instance) (present after : SinkView) (count now counted : ℕ) (puts : Bool) (limit : ℕ) → ReachesPlace e p q olds mids present present count now → (x : Result ℕ Break) → ComesTo e puts limit q b mids news present after now counted x →
    ComesTo e puts limit p b olds news present after count counted x
before_come e p q b olds mids news present after count now counted puts limit first (Ok t) s = λ starts past goes h. s starts past goes (first starts past h)
before_come e p q b olds mids news present after count now counted puts limit first (Err broken) s = λ starts past goes h. s starts past goes (first starts past h)

-- ---- where it leaves the slots

abbrev pub At : Experiment → ((stop step : ℕ) → View → Type 0) → View → Type 0
At e P = P e.plan.stop e.plan.step

module _ {L : Type 0} {g : _} (view : L → View) (e : Experiment) where
  -- what stands so stands in another way too
  pub weaker : (P Q : (stop step : ℕ) → View → Type 0) → ((v : View) → At e P v → At e Q v) → (slots : List (Slot L g)) → Ready view e P slots → Ready view e Q slots
  weaker P Q f slots r = record { may = r.may; few = r.few; shapes_are = r.shapes_are; live = r.live; stand = λ k d w. f _ (r.stand k d w) }

  module _ (P : (stop step : ℕ) → View → Type 0) (olds news : List (Slot L g)) (ready : Ready view e P olds) where
    -- a log leaves as many slots, of the same shapes
    pub still_so : (Q : (stop step : ℕ) → View → Type 0) (log : List Sent) → Told log (instances view olds) (instances view news) → All (LiveSlot view) news → All (Stands (At e Q) view) news → Ready view e Q news
    still_so Q log told live stand = record {
      may = ready.may;
      few = let a = length-map olds (λ s. instance_in view s) in let b = length-map news (λ s. instance_in view s) in let same = told.len in let few = ready.few in omega (arith, a, b, same, few);
      shapes_are = fits_on e.system log (instances view olds) (instances view news) ready.shapes_are told;
      live = live;
      stand = stand;
    }

    pub still : {T : Type 0} (Q : (stop step : ℕ) → View → Type 0) (r : Result T BadAnswer) (log : List Sent) → Told log (instances view olds) (instances view news) → OnOk r (All (LiveSlot view) news) → OnOk r (All (Stands (At e Q) view) news) → OnOk r (Ready view e Q news)
    still Q (Ok x) log told live stand = still_so Q log told live stand
    still Q (Err bad) log told live stand = tt

    -- one call to each whose shape passes a test
    pub still_those : {T : Type 0} (Q : (stop step : ℕ) → View → Type 0) (test : Shape → Bool) (call : Shape → Call) → ((v w : View) (x : Exchange) → At e P v → test v.fixed.shape ≡ true → Led v x w → x.call ≡ call v.fixed.shape → At e Q w) →
        ((v : View) → At e P v → test v.fixed.shape ≡ false → At e Q v) → (value : List Sent → T) (r : Result T BadAnswer) → Stage (to_those test call (shapes (instances view olds))) value (instances view olds) (instances view news) r →
        OnOk r (All (LiveSlot view) news) → OnOk r (Ready view e Q news)
    still_those Q test call leads stays value (Ok x) s live =
        still_so Q s.log s.told live (stage_those (λ s. instance_in view s) test call olds news s.log s.told s.says.0 (At e P) (At e Q) leads stays ready.stand)
    still_those Q test call leads stays value (Err bad) s live = tt

    -- and to each
    pub still_each : {T : Type 0} (Q : (stop step : ℕ) → View → Type 0) (call : Shape → Call) → ((v w : View) (x : Exchange) → At e P v → Led v x w → x.call ≡ call v.fixed.shape → At e Q w) → (value : List Sent → T) (r : Result T BadAnswer) →
        Stage (to_each call (shapes (instances view olds))) value (instances view olds) (instances view news) r → OnOk r (All (LiveSlot view) news) → OnOk r (Ready view e Q news)
    still_each Q call leads value (Ok x) s live = still_so Q s.log s.told live (stage_all (λ s. instance_in view s) call (At e P) (At e Q) leads olds news s.log s.told s.says.0 ready.stand)
    still_each Q call leads value (Err bad) s live = tt

    -- calls each of which leaves an instance as it stands
    module _ (K : Shape → Exchange → Type 0) (keeps : (v w : View) (x : Exchange) → At e P v → Led v x w → K v.fixed.shape x → At e P w) where
      pub keeping : {T : Type 0} (r : Result T BadAnswer) (log : List Sent) → Told log (instances view olds) (instances view news) → OnOk r (All (IsGoodly K (shapes_of e.system)) log) → OnOk r (All (LiveSlot view) news) → OnOk r (Ready view e P news)
      keeping (Ok x) log told goodly live = still_so P log told live (keep_all (λ s. instance_in view s) (At e P) K keeps (shapes_of e.system) olds news log told ready.shapes_are goodly ready.stand)
      keeping (Err bad) log told goodly live = tt

      pub keeping_walk : (rules : Rules) (before : List (Option ℤ)) (order : List ℕ) (values : List (Option ℤ)) → ((log : List Sent) → Explains e.system rules before order values log → All (IsGoodly K (shapes_of e.system)) log) →
          (r : Result (Unit {0}) BadAnswer) → Walks e.system rules before order values (instances view olds) (instances view news) r → OnOk r (All (LiveSlot view) news) → OnOk r (Ready view e P news)
      keeping_walk rules before order values goodly (Ok x) w live = keeping (Ok x) w.log w.told (goodly w.log w.says) live
      keeping_walk rules before order values goodly (Err bad) w live = tt

pub fixes_goodly : (system : System) (per_second start : ℕ) (timers : List Timer) (olds news : List Instance) (r : Result (Unit {0}) BadAnswer) → (f : Fixes system per_second start timers olds news r) → OnOk r (All (IsGoodly (λ shape. IsQuestion) (shapes_of system)) f.log)
fixes_goodly system per_second start timers olds news (Ok x) f = timing_goodly system f.log f.says.0
fixes_goodly system per_second start timers olds news (Err bad) f = tt

pub asks_goodly : (system : System) (per_second t : ℕ) (values : List (Option ℤ)) (timers next : List Timer) (olds news : List Instance) (r : Result Bool BadAnswer) → (a : AsksIntervals system per_second t values timers next olds news r) → OnOk r (All (IsGoodly (λ shape. IsQuestion) (shapes_of system)) a.log)
asks_goodly system per_second t values timers next olds news (Ok x) a = asking_goodly system values (port_order system) values a.log values a.says.0.explains
asks_goodly system per_second t values timers next olds news (Err bad) a = tt
