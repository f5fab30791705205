-- Along a run whose FMUs behave well: each instant stands in order after the one before, and no tick of a periodic Clock lies between two points.
use Rattle.std.proofs.Common.{◌≡◌, ℕ, zero, suc, ◌<◌, ◌≤◌, ℤ, Bool, true, false, List, [], ◌∷◌, length, map, refl, sym, ap, ◌∙◌, subst, inl, inr, arith}
use Rattle.std.specs.Prelude.{Option, Some, None, IfSome, if◌then◌else◌, ◌==◌, slice_get}
use Rattle.std.proofs.lemmas.Bool.{eq-eqb}
use Rattle.std.proofs.lemmas.List.{length-map}
use Rattle.value_types.specs.Values.{Fits}
use Rattle.fmi_calls.specs.declared.call.Call.TheVariants as C
use Rattle.fmu_peer.specs.Machine.{Machine, MachineState, after}
use Rattle.system_model.specs.declared.plan.EndKind.{EndKind}
use Rattle.system_model.specs.declared.plan.EndKind.TheVariants as K
use Rattle.system_model.specs.declared.system.Component.{Component}
use Rattle.system_model.specs.declared.system.Port.{Port}
use Rattle.system_model.proofs.CallerLemmas.{true_false}
use Rattle.run_model.specs.Run.{Every, Run, Situation, each, each_from}
use Rattle.system_model.specs.Values.{value}
use Rattle.run_model.specs.Equations.{Solves}
use Rattle.run_model.specs.Initial as I
use Rattle.std.specs.List.{list_any}
use Rattle.run_model.specs.Equations.{is_bad}
use Rattle.run_model.specs.AfterInstant.{Again, AtLimit, Done, Ended, Following, OutOfRange, any_update, asks_for_end, following, goes_again, updated, written}
use Rattle.run_model.specs.Stepping.{AtStop, ByStep, Departs, Ends, EndsBefore, GoesOn, IsStep, Next, WhereAsked, WhereFixed, departing, stepped}
use Rattle.run_model.specs.Trace.{Leads, LeadsBy, instant_of}
use Rattle.run_model.specs.Machines.{AreFitting}
use Rattle.run_model.specs.Behaved.{AtFirst, Departed, Onward, Reached}
use Rattle.run_model.specs.Laws.{SolvedByFitting}
use Rattle.trace_reading.specs.Form.{IsInstant, kinds_of}
use Rattle.trace_reading.specs.Written.{ports_told}
use Rattle.trace_check.specs.Instants.{IsInOrder}
use Rattle.trace_check.specs.Ticks.{PassesTick}
use Rattle.trace_laws.specs.Laws.{RunsWell}
use Rattle.trace_laws.proofs.Steps.{IsReachedFrom, step_reaches}
use Rattle.trace_laws.proofs.Timers.{IsPeriodicPort, KeepPeriods, first_periods, next_periods}
use Rattle.trace_laws.proofs.Clocks.{values_in_form}

-- ---- where a run stands

each_length : {X : Type 0} (f : ℕ → Component → Machine → MachineState → X) (k : ℕ) (cs : List Component) (ms : List Machine) (ss : List MachineState) → length ms ≡ length cs → length ss ≡ length cs → length (each_from f k cs ms ss) ≡ length cs
each_length f k [] ms ss m s = refl
each_length f k (c ∷ cs) [] ss m s = absurd (omega (arith, m))
each_length f k (c ∷ cs) (x ∷ ms) [] m s = absurd (omega (arith, s))
each_length f k (c ∷ cs) (x ∷ ms) (y ∷ ss) m s = ap suc (each_length f (suc k) cs ms ss (omega (arith, m)) (omega (arith, s)))

-- before an instant
pub record Stands (r : Run) (s : Situation) : Type 0 where
  pub reached : Reached r s
  pub states : length s.states ≡ length r.system.components
  pub types : AreFitting r.system s.before
  pub periods : KeepPeriods r s.timers
  pub point : s.t ≤ r.plan.stop
  pub number : s.n < r.plan.limit

-- what comes after the instant at last stands in order, and passes no tick
pub record Comes (r : Run) (last : Option (ℕ × ℕ)) (t n : ℕ) : Type 0 where
  pub order : IsInOrder r.plan.start r.plan.stop last t n
  pub passes_none : (p interval shift : ℕ) → IsPeriodicPort r.system.ports p interval shift → PassesTick r.plan.start interval shift last t → ⊥

-- the situation that an instant at a time leads to
pub record Goes (r : Run) (t n : ℕ) (next : Situation) : Type 0 where
  pub stands : Stands r next
  pub comes : Comes r (Some (t, n)) next.t next.n

-- the end that it leads to
pub record Finishes (r : Run) (t : ℕ) (kind : EndKind) (end : ℕ) : Type 0 where
  pub within : end ≤ r.plan.stop
  pub stop : kind ≡ K.Stop → (end ≡ r.plan.stop) × (t ≡ r.plan.stop)

none_fits : (ports : List Port) (p : ℕ) (port : Port) → slice_get ports p ≡ Some port → IfSome (value (map (λ (x : Port). None) ports) p) (Fits port.kind)
none_fits [] p port e = tt
none_fits (x ∷ xs) zero port e = tt
none_fits (x ∷ xs) (suc p) port e = none_fits xs p port e

-- ---- whether another instant follows

again_below : (n limit : ℕ) → n < limit → (suc n == limit) ≡ false → suc n < limit
again_below n limit below other = by (λ same. true_false (sym (eq-eqb (suc n) limit same) ∙ other))
  where
    by : (suc n ≡ limit → ⊥) → suc n < limit
    by apart = omega (arith, below, apart)

no_limit : (bad ends again at_limit : Bool) → (if bad then OutOfRange else (if ends then Ended else (if again then (if at_limit then AtLimit else Again) else Done))) ≡ Again → at_limit ≡ false
no_limit true ends again at_limit e = absurd (cc e)
no_limit false true again at_limit e = absurd (cc e)
no_limit false false true true e = absurd (cc e)
no_limit false false true false e = refl
no_limit false false false at_limit e = absurd (cc e)

module _ (r : Run) (well : RunsWell r) (fitting : SolvedByFitting) where
  size_of : {X : Type 0} (states : List MachineState) → length states ≡ length r.system.components → (f : ℕ → Component → Machine → MachineState → X) → length (each r states f) ≡ length r.system.components
  size_of states size f = each_length f 0 r.system.components r.machines states well.count size

  pub first_stands : (W : List (Option ℤ)) → I.SolvesInitially r W → list_any (I.is_bad_initially r.system W) r.system.ports ≡ false → Stands r (I.beginning r W)
  first_stands W solves kept =
      let first : length (I.first_states r) ≡ length r.system.components = length-map r.machines (λ (m : Machine). m.first) ∙ well.count in
      let two = size_of (I.first_states r) first _ in
      let three = size_of (I.instantiated r) two _ in
      let four = size_of (I.configured r) three _ in
      let five = size_of (I.initializing r) four _ in
      record {
        reached = AtFirst (I.beginning r W) W solves kept refl;
        states = size_of (I.initialized r W) five (λ i c m s. after m s C.ExitInitialization);
        types = none_fits r.system.ports;
        periods = first_periods r (I.initialized r W);
        point = well.plan.range.order;
        number = well.plan.some;
      }

  pub first_comes : Comes r None r.plan.start 0
  first_comes = record { order = (refl, refl); passes_none = λ p interval shift is passed. passed }

  -- ---- what an instant leads to

  module _ (s : Situation) (V : List (Option ℤ)) (at : Stands r s) (solves : Solves r s V) where
    states_after : length (updated r s V).states ≡ length r.system.components
    states_after = size_of (written r s V) (size_of s.states at.states _) _

    types_after : AreFitting r.system V
    types_after = fitting r well.sound s V at.types solves

    departed : following r s V ≡ Done → s.t < r.plan.stop → Departed r (updated r s V)
    departed done before = record { s = s; values = V; reached = at.reached; solves = solves; done = done; is = refl; before_stop = before }

    reaches : following r s V ≡ Done → (kept : List ℕ) (point : ℕ) → IsStep r (updated r s V) kept point → IsReachedFrom r (updated r s V) point
    reaches done kept point step =
        step_reaches r (updated r s V) (λ i. (well.behaved i).in_steps (updated r s V) (departed done step.before_stop)) kept point step

    goes_again_to : following r s V ≡ Again → Reached r (updated r s V) → Goes r s.t s.n (updated r s V)
    goes_again_to again reached =
        let other : (suc s.n == r.plan.limit) ≡ false = no_limit (list_any (is_bad V) r.system.ports) (any_update asks_for_end r s V) (goes_again r s V) (suc s.n == r.plan.limit) again in
        record {
          stands = record {
            reached = reached;
            states = states_after;
            types = types_after;
            periods = next_periods r s V at.periods;
            point = at.point;
            number = again_below s.n r.plan.limit at.number other;
          };
          comes = record {
            order = inl (refl, omega arith);
            passes_none = λ p interval shift is passed. omega (arith, passed.after, passed.before);
          };
        }

    goes_by_step : following r s V ≡ Done → (kept : List ℕ) (point : ℕ) → IsStep r (updated r s V) kept point → Reached r (stepped r (updated r s V) kept point) → Goes r s.t s.n (stepped r (updated r s V) kept point)
    goes_by_step done kept point step reached =
        let there = reaches done kept point step in
        let timers : KeepPeriods r (updated r s V).timers = next_periods r s V at.periods in
        record {
          stands = record {
            reached = reached;
            states = size_of (departing r (updated r s V)) (size_of (updated r s V).states states_after _) _;
            types = types_after;
            periods = timers;
            point = there.within;
            number = well.plan.some;
          };
          comes = record {
            order = inr (there.later, there.within, refl);
            passes_none = λ p interval shift is passed.
                let low : point ≤ passed.tick = there.passes_none p passed.tick (Every interval shift) (timers p interval shift is) passed.ticks passed.after in
                omega (arith, low, passed.before);
          };
        }

    next_of : (f : Following) → following r s V ≡ f → (next : Situation) → LeadsBy f r s V (GoesOn next) → Reached r next → Goes r s.t s.n next
    next_of OutOfRange is next leads reached = absurd (cc leads)
    next_of Ended is next leads reached = absurd (cc leads)
    next_of AtLimit is next leads reached = absurd (cc leads)
    next_of Again is next leads reached =
        let same : next ≡ updated r s V = cc leads in
        subst (λ (z : Situation). Goes r s.t s.n z) (sym same) (goes_again_to is (subst (λ (z : Situation). Reached r z) same reached))
    next_of Done is next leads reached = by leads refl
      where
        by : {x : Next} → Departs r (updated r s V) x → x ≡ GoesOn next → Goes r s.t s.n next
        by (AtStop x here a) e = absurd (cc (a, e))
        by (WhereAsked x kept point step asks a) e = absurd (cc (a, e))
        by (WhereFixed x i end lacks a) e = absurd (cc (a, e))
        by (ByStep x kept point step asks a) e =
            let same : next ≡ stepped r (updated r s V) kept point = cc (a, e) in
            subst (λ (z : Situation). Goes r s.t s.n z) (sym same) (goes_by_step is kept point step (subst (λ (z : Situation). Reached r z) same reached))

    ends_here : (kind other : EndKind) (end : ℕ) → kind ≡ other → end ≡ s.t → (other ≡ K.Stop → ⊥) → Finishes r s.t kind end
    ends_here kind other end same there apart = record { within = omega (arith, there, at.point); stop = λ stop. absurd (apart (sym same ∙ stop)) }

    finish : (f : Following) → following r s V ≡ f → (kind : EndKind) (end : ℕ) → LeadsBy f r s V (Ends kind end) → Finishes r s.t kind end
    finish OutOfRange is kind end leads = absurd (cc leads)
    finish Ended is kind end leads = ends_here kind K.Asked end (cc leads) (cc leads) (λ same. cc same)
    finish AtLimit is kind end leads = ends_here kind K.Limit end (cc leads) (cc leads) (λ same. cc same)
    finish Again is kind end leads = absurd (cc leads)
    finish Done is kind end leads = by leads refl
      where
        by : {x : Next} → Departs r (updated r s V) x → x ≡ Ends kind end → Finishes r s.t kind end
        by (AtStop x here a) e =
            let point : end ≡ s.t = cc (a, e) in
            record { within = omega (arith, point, at.point); stop = λ stop. (point ∙ here, here) }
        by (WhereAsked x kept point step asks a) e =
            let there : end ≡ point = cc (a, e) in
            let asked : kind ≡ K.Asked = cc (a, e) in
            record { within = omega (arith, there, (reaches is kept point step).within); stop = λ stop. absurd (cc (asked, stop)) }
        by (WhereFixed x i e_step lacks a) e =
            let point : end ≡ s.t = cc (a, e) in
            let fixed : kind ≡ K.Fixed = cc (a, e) in
            ends_here kind K.Fixed end fixed point (λ same. cc same)
        by (ByStep x kept point step asks a) e = absurd (cc (a, e))

    -- ---- its own form

    pub in_form : IsInstant (kinds_of (ports_told r.system)) (instant_of s V)
    in_form = record {
      point = omega (arith, at.point, well.plan.range.end);
      number = omega (arith, at.number, well.plan.few);
      values = values_in_form r well.sound well.count s at.states V solves (λ i. (well.behaved i).in_instants s V at.reached solves) types_after;
    }

    pub leads_on : (next : Situation) → Leads r s V (GoesOn next) → Goes r s.t s.n next
    leads_on next leads = next_of (following r s V) refl next leads (Onward s V next at.reached solves leads)

    -- where a value is lost the run ends at the point
    pub leads_off : (kind : EndKind) (end : ℕ) → Leads r s V (EndsBefore kind end) → (end ≡ s.t) × (kind ≡ K.Range)
    leads_off kind end leads = by (following r s V) leads
      where
        by : (f : Following) → LeadsBy f r s V (EndsBefore kind end) → (end ≡ s.t) × (kind ≡ K.Range)
        by OutOfRange leads = (cc leads, cc leads)
        by Ended leads = absurd (cc leads)
        by AtLimit leads = absurd (cc leads)
        by Again leads = absurd (cc leads)
        by Done leads = off leads refl
          where
            off : {x : Next} → Departs r (updated r s V) x → x ≡ EndsBefore kind end → (end ≡ s.t) × (kind ≡ K.Range)
            off (AtStop x here a) e = absurd (cc (a, e))
            off (WhereAsked x kept point step asks a) e = absurd (cc (a, e))
            off (WhereFixed x i e_step lacks a) e = absurd (cc (a, e))
            off (ByStep x kept point step asks a) e = absurd (cc (a, e))

    pub leads_out : (kind : EndKind) (end : ℕ) → Leads r s V (Ends kind end) → Finishes r s.t kind end
    leads_out kind end leads = finish (following r s V) refl kind end leads
