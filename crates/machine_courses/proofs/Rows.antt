-- Where each part of a course leads told machines.
use Rattle.std.proofs.Common.{◌≡◌, ℕ, suc, ◌<◌, ◌≤◌, ℤ, Bool, true, false, List, [], ◌∷◌, ◌++◌, Option, refl, sym, ap, ap₂, ◌∙◌, subst, append-nil, arith}
use Rattle.std.specs.Prelude.{◌==◌, ◌||◌, if◌then◌else◌}
use Rattle.std.proofs.lemmas.List.Elements.{All-nil}
use Rattle.value_types.specs.declared.shape.Shape.{Shape}
use Rattle.fmi_calls.specs.declared.call.Call.{Call}
use Rattle.fmi_calls.specs.declared.call.Call.TheVariants as C
use Rattle.fmu_peer.specs.Machine.{MachineState, after}
use Rattle.system_model.specs.Ports.{port_numbers}
use Rattle.system_model.specs.Sound.{IsSound}
use Rattle.system_model.specs.Text.{Instant}
use Rattle.run_model.specs.AfterInstant.{Again as Repeats, Done, following, goes_again, next_timers, updated, written}
use Rattle.run_model.specs.Initial as I
use Rattle.run_model.specs.Machines.{AreMachines, IsSituation}
use Rattle.run_model.specs.Run.{Run, Situation, Timer, each}
use Rattle.run_model.specs.Stepping as P
use Rattle.run_model.specs.Stepping.{departing, stepped}
use Rattle.run_model.specs.Steps.{OnStop}
use Rattle.run_model.specs.Trace.{Leads}
use Rattle.slot_calls.specs.Log.{Sent, component_calls}
use Rattle.slot_calls.specs.Replies.{AreReplies, states_by}
use Rattle.slot_calls.specs.Stage.{IsAnswered, everyone, has_events, shapes_of, to_those}
use Rattle.step_agreement.specs.Agreement.{Meets, Outcome, Unfit}
use Rattle.step_agreement.specs.OverMachines.{IgnoreSlots}
use Rattle.event_iteration.specs.Clocks.{AreTicks}
use Rattle.event_iteration.specs.Explains.{Explains}
use Rattle.event_iteration.specs.Instants.{in_instant}
use Rattle.event_iteration.specs.Intervals.{Rearms, is_some_armed}
use Rattle.event_iteration.specs.Updates.{events_told}
use Rattle.event_iteration.specs.Settings.{entered_step}
use Rattle.event_iteration.proofs.ByLog.{AreAll, IsRead, fixed_by_log, initial_by_log, instant_by_log, intervals_by_log, reads_stay, sets_by_log, stage_states, updated_all, updates_by_log}
use Rattle.calling_sequence.specs.Calls.{IsStep}
use Rattle.calling_sequence.specs.Course.{Again, Agreed, Agreeing, Arrives, Begins, Binds, Departing, Enters, Exits, Finds, Frees, GoesOn, Leaves, Leaving, LeadsTo, Left, Place, Reads, Rearming, Resumes, Saved, Saves, Sets, Short, Spot, Stepped, Stopping, Times, Updates, Way, part_at, shown}
use Rattle.calling_sequence.specs.Parts.{AllAgree, Does}
use Rattle.system_model.specs.Plans.{IsPlan}
use Rattle.run_rest.specs.Snapshot.{time_up_to, up_to}
use Rattle.run_rest.proofs.CallerLemmas.{any_across}
use Rattle.machine_courses.specs.Prefixes.{AtFirst, CameTo, Onward}
use Rattle.machine_courses.proofs.Bare.{AreBare, bare_at, bare_updated}
use Rattle.machine_courses.proofs.Following.{by_answers, following_by, leads_by, same_instant, situation_by}
use Rattle.machine_courses.proofs.Losing.{all_bad_same}
use Rattle.machine_courses.proofs.Near.{alike_same, rearms_across, step_near, ticks_across}
use Rattle.machine_courses.proofs.Places.{At, Comes, CountAs, Goes, IsWithin, Says, Sees, gone, over}
use Rattle.machine_courses.proofs.Steps.{after_step, agreed, arrived_is, entering_all, falls_short, freed_by_log, lands, saved, saved_by_log}
use Rattle.machine_courses.proofs.Parameters.{configured_states}

-- where the limit isn't reached one more instant is below it
pub below_more : (n limit : ℕ) → n < limit → (suc n == limit) ≡ false → suc n < limit
below_more n limit below other = by (λ same. absurd (let wrong = other in grind (arith, same))) where
  by : (suc n ≡ limit → ⊥) → suc n < limit
  by h = omega (arith, below, h)

none_sent : (log : List Sent) → component_calls log ≡ [] → log ≡ []
none_sent [] e = refl
none_sent (s ∷ log) e = absurd (cc)

module _ (r : Run) (more : List Sent) where
  -- where a part leads from states that are these
  beyond : (ss xs ys : List MachineState) → ss ≡ xs → states_by r xs more ≡ ys → states_by r ss more ≡ ys
  beyond ss xs ys is leads = ap (λ (zs : List MachineState). states_by r zs more) is ∙ leads

  pub inside : (ss xs : List MachineState) → ss ≡ xs → AreReplies r ss more → AreReplies r xs more
  inside ss xs is replies = subst (λ (zs : List MachineState). AreReplies r zs more) is replies

  -- a part that sends nothing
  stays : (ss : List MachineState) → AreAll r ss → IsAnswered (shapes_of r.system) [] more → states_by r ss more ≡ ss
  stays ss all answered = ap (states_by r ss) (none_sent more answered.calls_are) ∙ reads_stay r ss all [] (All-nil IsRead)

  -- one call to those
  sends : (ss xs : List MachineState) → ss ≡ xs → (test : Shape → Bool) (call : Shape → Call) → IsAnswered (shapes_of r.system) (to_those test call (shapes_of r.system)) more →
      states_by r ss more ≡ each r xs (λ i c m s. if test c.shape then after m s (call c.shape) else s)
  sends ss xs is test call answered = beyond ss xs _ is (stage_states r xs test call more answered)

-- the spot of a situation before an instant
module _ (r : Run) (s : Spot) (ticks : ℕ → Bool) (is : List Instant) (ss : List MachineState) (c : Comes r s ticks is ss) where
  pub ticks_at : AreTicks r.system r.plan.start c.z.timers c.z.t c.z.n ticks
  ticks_at =
      subst (λ (k : ℕ). AreTicks r.system r.plan.start c.z.timers c.z.t k ticks) (sym c.at.number)
      (subst (λ (k : ℕ). AreTicks r.system r.plan.start c.z.timers k s.n ticks) (sym c.at.point)
      (ticks_across r.plan c.z.timers s.timers c.timers r.system s.t s.n ticks c.at.within.ended c.begins.are_ticks))

  pub walk_at : (P : ℕ → List (Option ℤ) → Type 0) → P s.n s.values → P c.z.n c.z.before
  walk_at P h = subst (λ (n : ℕ). P n c.z.before) (sym c.at.number) (subst (P s.n) (sym c.values) h)

module _ (r : Run) (sound : IsSound r.system) (plan : IsPlan r.plan) (machines : AreMachines r) (ignore : IgnoreSlots r) where
  -- after an instant
  module _ (s : Spot) (is : List Instant) (x : Sees r s is) where
    pub sees_situation : IsSituation r x.z
    sees_situation = situation_by r sound machines x.z x.earlier x.at.came

    pub over_all : AreAll r (over r s is x).states
    over_all = updated_all r machines x.z sees_situation s.values

    pub over_bare : AreBare (over r s is x).states
    over_bare = bare_updated r x.z (bare_at r machines x.z x.earlier x.at.came) s.values

    pub leads_on : (next : Situation) → Leads r x.z s.values (P.GoesOn next) → CameTo r next is
    leads_on next leads = Onward next is x.z s.values x.earlier x.at.came x.solves leads x.is_is

  pub follows : (s : Spot) (again asked : Bool) (is : List Instant) (ss : List MachineState) (x : Says r s again asked is ss) → following r x.sees.z s.values ≡ by_answers asked again (suc s.n == r.plan.limit)
  follows s again asked is ss x =
      following_by r x.sees.z s.values x.sees.kept
      ∙ ap (λ (a : Bool). by_answers a (goes_again r x.sees.z s.values) (suc x.sees.z.n == r.plan.limit)) (sym x.asked_is)
      ∙ ap (λ (a : Bool). by_answers asked a (suc x.sees.z.n == r.plan.limit)) (sym x.again_is)
      ∙ ap (λ (k : ℕ). by_answers asked again (suc k == r.plan.limit)) x.sees.at.number

  -- a step from a point that is done
  module _ (w : Way) (is : List Instant) (g : Goes r w is) where
    abbrev u : Situation
    u = gone r w is g

    pub at_point : u.t ≡ w.s.t
    at_point = g.sees.at.point

    step_within : (s : Spot) → u.t < s.t → s.t ≤ w.to → IsWithin r.plan s.t 0
    step_within s later most =
        let begun = g.sees.at.within.begun in
        let here = at_point in
        let last = g.step.bound.bound.least r.plan.stop g.step.bound.before_stop (OnStop refl) in
        let some = plan.limit_above in
        record { begun = omega (arith, begun, here, later); ended = omega (arith, last, most); below = some }

    pub goes_all : AreAll r u.states
    goes_all = over_all (record w.s { n = g.n }) is g.sees

    pub goes_bare : AreBare u.states
    goes_bare = over_bare (record w.s { n = g.n }) is g.sees

    -- the agreement is one of their run
    pub agrees_here : (log : List Sent) (outcome : Outcome) → AllAgree r.system w.s.t r.plan.step w.to log outcome → AllAgree r.system u.t r.plan.step w.to log outcome
    agrees_here log outcome agrees = subst (λ (k : ℕ). AllAgree r.system k r.plan.step w.to log outcome) (sym at_point) agrees

  -- a row a part
  pub row : (p q : Place) (values : List (Option ℤ)) (more : List Sent) → LeadsTo r.system r.plan p values more q → (is : List Instant) (ss : List MachineState) → At r p is ss → Does r.system (part_at r.system r.bound r.plan p) values more → AreReplies r ss more →
      At r q (is ++ shown q) (states_by r ss more)
  row _ _ _ _ (Binds values more) is ss (none, at) does replies = (append-nil is ∙ none, beyond r more ss (I.instantiated r) (I.configured r) at (configured_states r more does))
  row _ _ _ _ (Enters values more) is ss (none, at) does replies = (append-nil is ∙ none, sends r more ss (I.configured r) at everyone (λ (shape : Shape). C.EnterInitialization r.plan.start r.plan.stop) does)
  row _ _ _ _ (Finds values more) is ss (none, at) does replies =
      let found = initial_by_log r values more sound machines does (inside r more ss (I.initializing r) at replies) in
      (append-nil is ∙ none, (record { initial = found.initial; solves = found.solves; states = beyond r more ss (I.initializing r) (I.initialized r found.initial) at found.states }, found.same))
  row _ _ _ _ (Times found values more timers kept timers_are) is ss (none, (at, same)) does replies =
      let told = fixed_by_log r at.initial more sound machines does (inside r more ss (I.initialized r at.initial) at.states replies) in
      (append-nil is ∙ none, (record { initial = at.initial; solves = at.solves; states = beyond r more ss (I.initialized r at.initial) (I.initialized r at.initial) at.states told.0 }, sym (all_bad_same r.system found at.initial same r.system.ports) ∙ kept), timers_are ∙ told.1)
  row _ _ _ _ (Exits timers values more s ticks s_is begins) is ss (none, (at, kept), timers_are) does replies =
      subst (λ (x : Spot). Comes r x ticks (is ++ []) (states_by r ss more)) (sym s_is) (record {
        z = I.beginning r at.initial;
        at = record { came = AtFirst (I.beginning r at.initial) (is ++ []) at.initial at.solves kept refl (append-nil is ∙ none); point = refl; number = refl; within = record { begun = omega arith; ended = plan.ordered; below = plan.limit_above } };
        values = refl;
        timers = alike_same (up_to r.plan.stop) _ _ (sym timers_are);
        begins = subst (λ (x : Spot). Begins r.system r.plan x ticks) s_is begins;
        states = sends r more ss (I.initialized r at.initial) at.states everyone (λ (shape : Shape). C.ExitInitialization) does;
      })
  row _ _ _ _ (Reads s ticks values more places) is ss c does replies =
      let told = instant_by_log r c.z ticks values more sound machines (situation_by r sound machines c.z is c.at.came) (ticks_at r s ticks is ss c) places
      (walk_at r s ticks is ss c (λ n before. Explains r.system (in_instant ticks (n == 0)) before (port_numbers r.system.instant_order) values more) does) (inside r more ss c.z.states c.states replies) in (
        record {
          z = c.z;
          at = record { came = subst (CameTo r c.z) (sym (append-nil is)) c.at.came; point = c.at.point; number = c.at.number; within = c.at.within };
          solves = told.0;
          states = beyond r more ss c.z.states (written r c.z values) c.states told.1;
        },
        c.timers,
      )
  row _ _ _ _ (Rearming s values next more kept rearms) is ss (f, timers) does replies =
      let z = f.z in
      let near = rearms_across r.system r.plan.stop r.plan.resolution z.t s.values z.timers s.timers next more timers
      (subst (λ (k : ℕ). Rearms r.system r.plan.resolution k s.values s.timers next more) (sym f.at.point) rearms) in
      let told = intervals_by_log r z s.values near.others more sound machines (situation_by r sound machines z is f.at.came) near.rearms (inside r more ss (written r z s.values) f.states replies) in (
        record {
          z = z;
          at = record { came = subst (CameTo r z) (sym (append-nil is)) f.at.came; point = f.at.point; number = f.at.number; within = f.at.within };
          solves = f.solves;
          states = beyond r more ss (written r z s.values) (written r z s.values) f.states told.0;
        },
        kept,
        subst (λ (ts : List Timer). CountAs r ts next) told.1 near.alike,
      )
  row _ _ _ _ (Updates s values more events again asked events_are again_is asked_is) is ss (f, kept, timers) does replies =
      let z = f.z in
      let point = f.at.point in
      let ended = f.at.within.ended in
      let within : z.t ≤ r.plan.stop = omega (arith, point, ended) in
      let told = updates_by_log r z s.values more machines (situation_by r sound machines z is f.at.came) does (inside r more ss (written r z s.values) f.states replies) in
      record {
        sees = record { z = z; earlier = is; at = record { came = f.at.came; point = f.at.point; number = f.at.number; within = f.at.within }; solves = f.solves; timers = timers; events = alike_same (time_up_to r.plan.stop) _ _ (sym (events_are ∙ ap (λ (k : ℕ). events_told k (shapes_of r.system) more) (sym f.at.point) ∙ told.3)); kept = kept; is_is = ap (λ (i : Instant). is ++ i ∷ []) (same_instant s z f.at.point f.at.number) };
        again_is = again_is ∙ ap₂ ◌||◌ told.1 (ap (λ (k : ℕ). is_some_armed k s.timers) (sym f.at.point) ∙ sym (any_across r.plan.stop z.t (next_timers r z s.values) s.timers within timers));
        asked_is = asked_is ∙ told.2;
        states = beyond r more ss (written r z s.values) (updated r z s.values).states f.states told.0;
      }
  row _ _ _ _ (Again s values more ticks below begins) is ss x does replies =
      let z = over r s is x.sees in
      let leads = leads_by r x.sees.z s.values Repeats (P.GoesOn z) (follows s true false is ss x ∙ ap (by_answers false true) below) refl in
      record {
        z = z;
        at = record { came = subst (CameTo r z) (sym (append-nil is)) (leads_on s is x.sees z leads); point = x.sees.at.point; number = ap suc x.sees.at.number; within = record { begun = x.sees.at.within.begun; ended = x.sees.at.within.ended; below = below_more s.n r.plan.limit x.sees.at.within.below below } };
        values = refl;
        timers = x.sees.timers;
        begins = begins;
        states = beyond r more ss z.states z.states x.states (stays r more z.states (over_all s is x.sees) does);
      }
  row _ _ _ _ (GoesOn w values more step) is ss x does replies =
      let z = over r w.s is x.sees in
      let own : IsStep r.system r.plan z.timers z.events z.t w.to =
      step_near r z.timers w.s.timers z.events w.s.events x.sees.timers x.sees.events z.t w.to
      (subst (λ (k : ℕ). IsStep r.system r.plan w.s.timers w.s.events k w.to) (sym x.sees.at.point) step) in
      subst (λ (js : List Instant). At r (Leaving w) js (states_by r ss more)) (sym (append-nil is))
      (record { n = w.s.n; sees = x.sees; done = follows w.s false false is ss x; step = own }, beyond r more ss z.states z.states x.states (stays r more z.states (over_all w.s is x.sees) does))
  row _ _ _ _ (Leaves w values more) is ss (g, at) does replies =
      subst (λ (js : List Instant). At r (Left w) js (states_by r ss more)) (sym (append-nil is))
      (g, sends r more ss (u w is g).states at has_events (λ (shape : Shape). C.EnterStep) does)
  row _ _ _ _ (Sets w values more) is ss (g, at) does replies =
      subst (λ (js : List Instant). At r (Departing w) js (states_by r ss more)) (sym (append-nil is))
      (g, beyond r more ss (entered_step r (u w is g)) (departing r (u w is g)) at (sets_by_log r (u w is g) values more sound g.sees.solves.places does))
  row _ _ _ _ (Saves w values more) is ss (g, at) does replies =
      let z = u w is g in
      subst (λ (js : List Instant). At r (Saved w) js (states_by r ss more)) (sym (append-nil is))
      (g, beyond r more ss (departing r z) (saved r z) at (saved_by_log r z (goes_all w is g) (goes_bare w is g) more does))
  row _ _ _ _ (Agreeing w values more point asked agrees asked_is) is ss (g, at) does replies =
      let z = u w is g in
      let l = lands r z (goes_all w is g) w.to g.step.bound ignore more (inside r more ss (saved r z) at replies) point (agrees_here w is g more (Meets point) agrees) in
      subst (λ (js : List Instant). At r (Agreed w point asked) js (states_by r ss more)) (sym (append-nil is)) (
        record { goes = g; asks = l.asks; made = l.made; later = l.later; within = l.within; asked_is = asked_is ∙ l.asked },
        beyond r more ss (saved r z) (agreed r z l.asks) at l.states,
      )
  row _ _ _ _ (Stopping w values more component end agrees) is ss (g, at) does replies =
      let z = u w is g in
      subst (λ (js : List Instant). At r (Short w component end) js (states_by r ss more)) (sym (append-nil is))
      (g, falls_short r z (goes_all w is g) w.to g.step.bound ignore more (inside r more ss (saved r z) at replies) component end (agrees_here w is g more (Unfit component end) agrees))
  row _ _ _ _ (Frees w point asked values more) is ss (l, at) does replies =
      let z = u w is l.goes in
      subst (λ (js : List Instant). At r (Stepped (record w.s { t = point; n = 0 }) asked) js (states_by r ss more)) (sym (append-nil is)) (record {
        w = w;
        lands = l;
        values = refl;
        timers = refl;
        states = beyond r more ss (agreed r z l.asks) (after_step r z l.asks) at (freed_by_log r z (goes_all w is l.goes) (goes_bare w is l.goes) l.asks more does);
      })
  row _ _ _ _ (Arrives s values more ticks begins) is ss x does replies =
      let g = x.lands.goes in
      let z = u x.w is g in
      let next = stepped r z x.lands.asks s.t in
      let leads = leads_by r g.sees.z x.w.s.values Done (P.GoesOn next) g.done (P.ByStep (P.GoesOn next) x.lands.asks s.t x.lands.made (sym x.lands.asked_is) refl) in
      record {
        z = next;
        at = record { came = subst (CameTo r next) (sym (append-nil is)) (leads_on (record x.w.s { n = g.n }) is g.sees next leads); point = refl; number = refl; within = step_within x.w is g s x.lands.later x.lands.within };
        values = x.values;
        timers = subst (λ (ts : List Timer). CountAs r (next_timers r g.sees.z x.w.s.values) ts) x.timers g.sees.timers;
        begins = begins;
        states = sends r more ss (after_step r z x.lands.asks) x.states has_events (λ (shape : Shape). C.EnterEvent) does ∙ arrived_is r z (goes_all x.w is g) x.lands.asks s.t;
      }
  row _ _ _ _ (Resumes w values more step) is ss x does replies =
      let z = updated r x.sees.z w.s.values in
      let s : Spot = record w.s { n = x.n } in
      let own : IsStep r.system r.plan z.timers z.events z.t w.to =
      step_near r z.timers w.s.timers z.events w.s.events x.sees.timers x.sees.events z.t w.to
      (subst (λ (k : ℕ). IsStep r.system r.plan w.s.timers w.s.events k w.to) (sym x.sees.at.point) step) in
      subst (λ (js : List Instant). At r (Left w) js (states_by r ss more)) (sym (append-nil is)) (
        record { n = x.n; sees = x.sees; done = x.done; step = own },
        beyond r more ss (entered_step r z) (entered_step r z) x.states (stays r more (entered_step r z) (entering_all r z (over_all s is x.sees)) does),
      )
