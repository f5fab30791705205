-- The step of a run of machines from a point that is done: the states that are saved for it, the agreement on its end, and the states that it leaves.
use Rattle.std.proofs.Common.{◌≡◌, ◌≢◌, ℕ, zero, suc, ◌-◌, ◌<◌, ◌≤◌, ◌==◌, Bool, true, false, List, [], ◌∷◌, Option, Some, None, refl, sym, ap, ap₂, ◌∙◌, subst, arith, length, map, not}
use Rattle.std.specs.Prelude.{All, ◌&&◌, if◌then◌else◌, position}
use Rattle.std.specs.List.{slice_get}
use Rattle.std.specs.Option.{option_map, option_map_or}
use Rattle.std.proofs.lemmas.Option.{none-some as none_some, same_Some, slice_get-map}
use Rattle.std.proofs.lemmas.Bool.Decides.{nat_tests}
use Rattle.value_types.specs.declared.shape.Shape.{Shape}
use Rattle.value_types.proofs.CallerLemmas.{position-map}
use Rattle.fmi_calls.specs.declared.call.Call.TheVariants as C
use Rattle.fmu_peer.specs.declared.peer.Exchange.{Exchange}
use Rattle.fmu_peer.specs.Machine.{Machine, MachineState, after}
use Rattle.system_model.specs.EarlyReturn.{early_count}
use Rattle.system_model.specs.declared.system.Component.{Component}
use Rattle.run_model.specs.Behaved as B
use Rattle.run_model.specs.Run.{Run, Situation, each, each_from}
use Rattle.run_model.specs.Stepping as P
use Rattle.run_model.specs.Stepping.{asked_first, asks_to_end, departing, ending, kept_at, step_to, stepped, steppers}
use Rattle.run_model.specs.Inputs.{state_with}
use Rattle.run_model.specs.Steps.{Stepper, StopsFirst}
use Rattle.slot_calls.specs.Log.{Sent}
use Rattle.slot_calls.specs.Replies.{AreReplies, states_by}
use Rattle.slot_calls.specs.Stage.{IsAnswered, shapes_of}
use Rattle.step_agreement.specs.Agreement.{Agrees, Meets, Outcome, Stand, Unfit, shapes_in}
use Rattle.step_agreement.specs.Ends.{standing}
use Rattle.step_agreement.specs.OverMachines.{IgnoreSlots, MachinesCome, RestoresSaved, fmus_of, saved_states, slot_in, with_slot}
use Rattle.step_agreement.specs.Saving.{AreAllAt, is_saved}
use Rattle.step_agreement.proofs.CallerLemmas.{IsKept, agrees_over_machines, meets_within, puts_back_saved, saved_in}
use Rattle.rollback.specs.StepsBy.{all_at, some_ask_from}
use Rattle.rollback.proofs.CallerLemmas.{some_ask_is}
use Rattle.event_iteration.specs.Settings.{entered_step}
use Rattle.event_iteration.proofs.ByLog.{AreAll, all_on, each_each, each_same, part_all, stage_states}
use Rattle.calling_sequence.specs.Calls.{IsBoundOf, first_unfit, freeing, saving}
use Rattle.calling_sequence.specs.Parts.{AllAgree}
use Rattle.machine_courses.proofs.Bare.{AreBare, bare_departing}

-- ---- lists

-- what depends on the component alone
map_from : {X Y : Type 0} (f : ℕ → Component → Machine → MachineState → X) (g : X → Y) (h : Component → Y) → ((i : ℕ) (c : Component) (m : Machine) (s : MachineState) → g (f i c m s) ≡ h c) →
    (k : ℕ) (cs : List Component) (ms : List Machine) (ss : List MachineState) → length ms ≡ length cs → length ss ≡ length cs → map g (each_from f k cs ms ss) ≡ map h cs
map_from f g h same k [] ms ss e l = refl
map_from f g h same k (c ∷ cs) [] ss e l = absurd (omega (arith, e))
map_from f g h same k (c ∷ cs) (m ∷ ms) [] e l = absurd (omega (arith, l))
map_from f g h same k (c ∷ cs) (m ∷ ms) (s ∷ ss) e l = ap₂ ◌∷◌ (same k c m s) (map_from f g h same (suc k) cs ms ss (omega (arith, e)) (omega (arith, l)))

map_twice : {X Y Z : Type 0} (f : X → Y) (g : Y → Z) (xs : List X) → map g (map f xs) ≡ map (λ x. g (f x)) xs
map_twice f g [] = refl
map_twice f g (x ∷ xs) = ap (λ ys. g (f x) ∷ ys) (map_twice f g xs)

-- ---- sizes

unfit_some : (b : Bool) (size step i : ℕ) (o : Option ℕ) → (size == step) ≡ b → (if b then None else o) ≡ Some i → (size ≢ step) × (o ≡ Some i)
unfit_some true size step i o e h = absurd (none_some i h)
unfit_some false size step i o e h = (unequal size step e, h) where
  unequal : (a b : ℕ) → (a == b) ≡ false → a ≢ b
  unequal a b q = grind (arith, nat_tests)

-- ---- who is where

-- all stand at the step's beginning
stands_at : (t : ℕ) (shapes : List Shape) (i : ℕ) (s : Stand) → slice_get (all_at t shapes) i ≡ Some s → s.point ≡ t
stands_at t [] i s at = absurd (none_some s at)
stands_at t (x ∷ shapes) zero s at = ap (λ (y : Stand). y.point) (sym (same_Some (record { shape = x; point = t; ask = t }) s at))
stands_at t (x ∷ shapes) (suc i) s at = stands_at t shapes i s at

pub shapes_at : (t : ℕ) (shapes : List Shape) → shapes_in (all_at t shapes) ≡ shapes
shapes_at t [] = refl
shapes_at t (x ∷ shapes) = ap (λ (ss : List Shape). x ∷ ss) (shapes_at t shapes)

-- the state of the i-th FMU is saved for a step
abbrev pub saves : Run → ℕ → Bool
saves r i = saved_in (shapes_of r.system) i

-- the states once they were saved
abbrev pub saved : Run → Situation → List MachineState
saved r z = saved_states r (departing r z) (saves r)

-- each was stepped to the ask that it keeps, and has what it saved
abbrev pub agreed : Run → Situation → List ℕ → List MachineState
agreed r z asks = each r (departing r z) (λ i c m s. with_slot (slot_in (saves r i) s) (after m s (step_to z.t (kept_at asks i))))

-- and nothing is saved any more
abbrev pub after_step : Run → Situation → List ℕ → List MachineState
after_step r z asks = B.asked_states r z (kept_at asks)

-- ---- the state of one

pub saves_is : (r : Run) (i : ℕ) (c : Component) → slice_get r.system.components i ≡ Some c → saves r i ≡ is_saved (early_count (shapes_of r.system)) c.shape
saves_is r i c at =
    ap (λ o. option_map_or (λ (shape : Shape). is_saved (early_count (shapes_of r.system)) shape) o false)
    (slice_get-map (λ (d : Component). d.shape) r.system.components i ∙ ap (option_map (λ (d : Component). d.shape)) at)

empty : (s : MachineState) → s.slot ≡ None → with_slot None s ≡ s
empty s none = ap (λ o. record s { slot = o }) (sym none)

now_saved : (m : Machine) (s : MachineState) (b : Bool) → s.slot ≡ None → (if b then after m s C.Save else s) ≡ with_slot (slot_in b s) s
now_saved m s true none = refl
now_saved m s false none = sym (empty s none)

now_freed : (m : Machine) (s y : MachineState) (b : Bool) → y.slot ≡ None → (if b then after m (with_slot (slot_in b s) y) C.Free else with_slot (slot_in b s) y) ≡ y
now_freed m s y true none = empty y none
now_freed m s y false none = empty y none

module _ (r : Run) (z : Situation) (all : AreAll r z.states) where
  -- those with event mode are in Step Mode, and of the others the inputs are set
  pub departing_all : AreAll r (departing r z)
  departing_all = all_on r z.states all (λ i c m state. if c.shape.has_event_mode then after m state C.EnterStep else state_with r.system.ports z.before i m state)

  -- and those with event mode alone
  pub entering_all : AreAll r (entered_step r z)
  entering_all = all_on r z.states all (λ i c m state. if c.shape.has_event_mode then after m state C.EnterStep else state)

  pub saved_all : AreAll r (saved r z)
  saved_all = all_on r (departing r z) departing_all (λ i c m s. with_slot (slot_in (saves r i) s) s)

  pub agreed_all : (asks : List ℕ) → AreAll r (agreed r z asks)
  agreed_all asks = all_on r (departing r z) departing_all (λ i c m s. with_slot (slot_in (saves r i) s) (after m s (step_to z.t (kept_at asks i))))

  pub after_all : (asks : List ℕ) → AreAll r (after_step r z asks)
  after_all asks = all_on r (departing r z) departing_all (λ i c m s. after m s (step_to z.t (kept_at asks i)))

  -- those with event mode entered Event Mode
  pub arrived_is : (asks : List ℕ) (point : ℕ) → each r (after_step r z asks) (λ i c m s. if c.shape.has_event_mode then after m s C.EnterEvent else s) ≡ (stepped r z asks point).states
  arrived_is asks point =
      each_each (λ i c m s. after m s (step_to z.t (kept_at asks i))) (λ i c m s. if c.shape.has_event_mode then after m s C.EnterEvent else s) 0 r.system.components r.machines (departing r z)

  -- ---- a bound whose size one doesn't take

  abbrev stepper_of : ℕ → Component → Machine → MachineState → Stepper
  stepper_of i c m state = record { has_variable_steps = c.shape.has_variable_steps; end = ending z.t c m state }

  abbrev fixed_size : Stepper → Bool
  fixed_size x = true && not x.has_variable_steps

  abbrev unvaried : Option ℕ
  unvaried = position (λ (c : Component). not c.shape.has_variable_steps) r.system.components

  unvaried_here : position fixed_size (steppers r z) ≡ unvaried
  unvaried_here =
      sym (position-map fixed_size (λ b. b) (steppers r z))
      ∙ ap (position (λ b. b)) (map_from stepper_of fixed_size (λ (c : Component). not c.shape.has_variable_steps) (λ i c m state. refl) 0 r.system.components r.machines (departing r z) departing_all.machines departing_all.states)
      ∙ position-map (λ (c : Component). not c.shape.has_variable_steps) (λ b. b) r.system.components

  module _ (u : ℕ) (bound : IsBoundOf r.plan z.timers z.events z.t u) where
    -- the least that takes no step of this size is told
    pub lacks : (i : ℕ) → first_unfit r.system r.plan (u - z.t) ≡ Some i → P.LacksStep r z i u
    lacks i unfit =
        let so = unfit_some ((u - z.t) == r.plan.step) (u - z.t) r.plan.step i unvaried refl unfit in
        record { before_stop = bound.before_stop; bound = u; is_bound = bound.bound; stops = StopsFirst u i u (record { other_size = so.0; least = unvaried_here ∙ so.1 }) refl }

  -- ---- saving and freeing

  module _ (bare : AreBare z.states) where
    pub bare_here : AreBare (departing r z)
    bare_here = bare_departing r z bare

    pub saved_by_log : (log : List Sent) → IsAnswered (shapes_of r.system) (saving r.system) log → states_by r (departing r z) log ≡ saved r z
    saved_by_log log answered =
        stage_states r (departing r z) (is_saved (early_count (shapes_of r.system))) (λ (shape : Shape). C.Save) log answered
        ∙ each_same r (departing r z) (λ i c m s. if is_saved (early_count (shapes_of r.system)) c.shape then after m s C.Save else s) (λ i c m s. with_slot (slot_in (saves r i) s) s)
        (λ i c m s fmu. ap (λ (b : Bool). if b then after m s C.Save else s) (sym (saves_is r i c fmu.component)) ∙ now_saved m s (saves r i) (bare_here i s fmu.state))

    pub freed_by_log : (asks : List ℕ) (log : List Sent) → IsAnswered (shapes_of r.system) (freeing r.system) log → states_by r (agreed r z asks) log ≡ after_step r z asks
    freed_by_log asks log answered =
        stage_states r (agreed r z asks) (is_saved (early_count (shapes_of r.system))) (λ (shape : Shape). C.Free) log answered
        ∙ each_each (λ i c m s. with_slot (slot_in (saves r i) s) (after m s (step_to z.t (kept_at asks i)))) (λ i c m s. if is_saved (early_count (shapes_of r.system)) c.shape then after m s C.Free else s) 0 r.system.components r.machines (departing r z)
        ∙ each_same r (departing r z)
        (λ i c m s. let y : MachineState = with_slot (slot_in (saves r i) s) (after m s (step_to z.t (kept_at asks i))) in if is_saved (early_count (shapes_of r.system)) c.shape then after m y C.Free else y)
        (λ i c m s. after m s (step_to z.t (kept_at asks i)))
        (λ i c m s fmu.
        let y : MachineState = with_slot (slot_in (saves r i) s) (after m s (step_to z.t (kept_at asks i))) in
        ap (λ (b : Bool). if b then after m y C.Free else y) (sym (saves_is r i c fmu.component)) ∙ now_freed m s (after m s (step_to z.t (kept_at asks i))) (saves r i) (bare_here i s fmu.state))

  -- ---- the agreement

  at_from : (k : ℕ) (cs : List Component) (ms : List Machine) (ss : List MachineState) → length ms ≡ length cs → length ss ≡ length cs →
      all_at z.t (map (λ (c : Component). c.shape) cs) ≡ standing z.t (each_from (λ i c m s. record { shape = c.shape; end = ending z.t c m s }) k cs ms ss)
  at_from k [] ms ss e l = refl
  at_from k (c ∷ cs) [] ss e l = absurd (omega (arith, e))
  at_from k (c ∷ cs) (m ∷ ms) [] e l = absurd (omega (arith, l))
  at_from k (c ∷ cs) (m ∷ ms) (s ∷ ss) e l = ap (λ (xs : List Stand). record { shape = c.shape; point = z.t; ask = z.t } ∷ xs) (at_from (suc k) cs ms ss (omega (arith, e)) (omega (arith, l)))

  pub all_at_is : all_at z.t (shapes_of r.system) ≡ standing z.t (fmus_of r (departing r z) z.t)
  all_at_is = at_from 0 r.system.components r.machines (departing r z) departing_all.machines departing_all.states

  -- none stands elsewhere at the step's beginning
  pub all_home : AreAllAt z.t (all_at z.t (shapes_of r.system))
  all_home i s at = stands_at z.t (shapes_of r.system) i s at

  module _ (b : ℕ) (later : z.t < b) (log : List Sent) (outcome : Outcome) (agrees : AllAgree r.system z.t r.plan.step b log outcome) where
    agrees_by : Agrees z.t r.plan.step (asked_first (early_count (shapes_in (all_at z.t (shapes_of r.system))))) b (all_at z.t (shapes_of r.system)) log outcome
    agrees_by = subst (λ (ss : List Shape). Agrees z.t r.plan.step (asked_first (early_count ss)) b (all_at z.t (shapes_of r.system)) log outcome) (sym (shapes_at z.t (shapes_of r.system))) agrees

    kept_here : All (IsKept (shapes_of r.system)) log
    kept_here = subst (λ (ss : List Shape). All (IsKept ss) log) (shapes_at z.t (shapes_of r.system)) (puts_back_saved z.t r.plan.step b (all_at z.t (shapes_of r.system)) log outcome later all_home agrees_by)

    pub restores_saved : RestoresSaved (saves r) log
    restores_saved i = part_all (λ (e : Exchange). e.call ≡ C.Restore → saves r i ≡ true) i log (λ k d w here back. subst (λ (n : ℕ). saved_in (shapes_of r.system) n ≡ true) here (kept_here k d w back))

    module _ (ignore : IgnoreSlots r) (replies : AreReplies r (saved r z) log) where
      -- the agreement of the run's model
      pub comes : MachinesCome r (departing r z) z.t r.plan.step b (saves r) log outcome
      comes = agrees_over_machines r (departing r z) z.t r.plan.step b (saves r) log outcome ignore later
          (subst (λ (ss : List Stand). Agrees z.t r.plan.step (asked_first (early_count (shapes_of r.system))) b ss log outcome) all_at_is agrees) restores_saved replies

  -- all come to one point
  pub record Lands (log : List Sent) (b point : ℕ) : Type 0 where
    pub asks : List ℕ
    pub made : P.IsStep r z asks point
    pub later : z.t < point
    pub within : point ≤ b
    pub asked : some_ask_from 0 (shapes_of r.system) log ≡ asks_to_end r z asks
    pub states : states_by r (saved r z) log ≡ agreed r z asks

  module _ (b : ℕ) (bound : IsBoundOf r.plan z.timers z.events z.t b) (ignore : IgnoreSlots r) (log : List Sent) (replies : AreReplies r (saved r z) log) where
    pub lands : (point : ℕ) → AllAgree r.system z.t r.plan.step b log (Meets point) → Lands log b point
    lands point agrees =
        let come = comes b bound.bound.later log (Meets point) agrees ignore replies in
        record {
          asks = come.0;
          made = record { before_stop = bound.before_stop; bound = b; is_bound = bound.bound; agree = come.1 };
          later = come.2;
          within = meets_within z.t r.plan.step b (all_at z.t (shapes_of r.system)) log point bound.bound.later all_home (agrees_by b bound.bound.later log (Meets point) agrees);
          asked = sym (some_ask_is r (departing r z) log departing_all.machines departing_all.states) ∙ come.4;
          states = come.3;
        }

    -- or the step isn't made
    pub falls_short : (i e : ℕ) → AllAgree r.system z.t r.plan.step b log (Unfit i e) → P.LacksStep r z i e
    falls_short i e agrees = record { before_stop = bound.before_stop; bound = b; is_bound = bound.bound; stops = comes b bound.bound.later log (Unfit i e) agrees ignore replies }
