-- A step is EnterStep and what is done from Step Mode on.
use Rattle.std.proofs.Common.{◌≡◌, ℕ, suc, Bool, true, false, List, [], ◌∷◌, refl, sym, ap, ◌∙◌, subst}
use Rattle.std.specs.Prelude.{if◌then◌else◌}
use Rattle.fmi_calls.specs.declared.call.Call.TheVariants as C
use Rattle.fmu_peer.specs.Machine.{MachineState, Machine, after}
use Rattle.system_model.specs.declared.system.Component.{Component}
use Rattle.run_model.specs.Run.{Run, Situation, each_from}
use Rattle.run_model.specs.Inputs.{state_with}
use Rattle.run_model.specs.Stepping as P
use Rattle.run_rest.specs.Parted.{DepartsFrom, AtStop, WhereAsked, WhereFixed, ByStep, at_step, entering_step, ready}

-- one change of each state after another
each_twice : (f g h : ℕ → Component → Machine → MachineState → MachineState) → ((i : ℕ) (c : Component) (m : Machine) (s : MachineState) → f i c m (g i c m s) ≡ h i c m s) →
    (k : ℕ) (cs : List Component) (ms : List Machine) (ss : List MachineState) → each_from f k cs ms (each_from g k cs ms ss) ≡ each_from h k cs ms ss
each_twice f g h same k [] ms ss = refl
each_twice f g h same k (c ∷ cs) [] ss = refl
each_twice f g h same k (c ∷ cs) (m ∷ ms) [] = refl
each_twice f g h same k (c ∷ cs) (m ∷ ms) (s ∷ ss) = ap (λ x. x ∷ each_from f (suc k) cs ms (each_from g (suc k) cs ms ss)) (same k c m s) ∙ ap (λ xs. h k c m s ∷ xs) (each_twice f g h same (suc k) cs ms ss)

if_twice : (b : Bool) (x s : MachineState) (w : MachineState → MachineState) → (if b then (if b then x else s) else w (if b then x else s)) ≡ (if b then x else w s)
if_twice true x s w = refl
if_twice false x s w = refl

ready_is : (r : Run) (z : Situation) → ready r (at_step r z) ≡ P.departing r z
ready_is r z =
    each_twice (λ i c m s. if c.shape.has_event_mode then s else state_with r.system.ports z.before i m s) (λ i c m s. if c.shape.has_event_mode then after m s C.EnterStep else s) (λ i c m s. if c.shape.has_event_mode then after m s C.EnterStep else state_with r.system.ports z.before i m s)
    (λ i c m s. if_twice c.shape.has_event_mode (after m s C.EnterStep) s (state_with r.system.ports z.before i m))
    0 r.system.components r.machines z.states

-- what a step begins from counts, and neither what was before nor the number of the instant
pub rebased : {r : Run} {y : Situation} {states : List MachineState} {next : P.Next} (others : List MachineState) (n : ℕ) → DepartsFrom r y states next → DepartsFrom r (record y { states = others; n = n }) states next
rebased others n (AtStop next at e) = AtStop next at e
rebased others n (WhereAsked next k p step asks e) = WhereAsked next k p (record { before_stop = step.before_stop; bound = step.bound; is_bound = step.is_bound; agree = step.agree }) asks e
rebased others n (WhereFixed next i e lacks x) = WhereFixed next i e (record { before_stop = lacks.before_stop; bound = lacks.bound; is_bound = lacks.is_bound; stops = lacks.stops }) x
rebased others n (ByStep next k p step asks e) = ByStep next k p (record { before_stop = step.before_stop; bound = step.bound; is_bound = step.is_bound; agree = step.agree }) asks e

-- a whole step is one from the states at its beginning
pub opened : {r : Run} {z : Situation} {next : P.Next} → P.Departs r z next → DepartsFrom r z (P.departing r z) next
opened (P.AtStop next at e) = AtStop next at e
opened (P.WhereAsked next k p step asks e) = WhereAsked next k p (record { before_stop = step.before_stop; bound = step.bound; is_bound = step.is_bound; agree = step.agree }) asks e
opened (P.WhereFixed next i e lacks x) = WhereFixed next i e (record { before_stop = lacks.before_stop; bound = lacks.bound; is_bound = lacks.is_bound; stops = lacks.stops }) x
opened (P.ByStep next k p step asks e) = ByStep next k p (record { before_stop = step.before_stop; bound = step.bound; is_bound = step.is_bound; agree = step.agree }) asks e

pub closed : {r : Run} {z : Situation} {next : P.Next} → DepartsFrom r z (P.departing r z) next → P.Departs r z next
closed (AtStop next at e) = P.AtStop next at e
closed (WhereAsked next k p step asks e) = P.WhereAsked next k p (record { before_stop = step.before_stop; bound = step.bound; is_bound = step.is_bound; agree = step.agree }) asks e
closed (WhereFixed next i e lacks x) = P.WhereFixed next i e (record { before_stop = lacks.before_stop; bound = lacks.bound; is_bound = lacks.is_bound; stops = lacks.stops }) x
closed (ByStep next k p step asks e) = P.ByStep next k p (record { before_stop = step.before_stop; bound = step.bound; is_bound = step.is_bound; agree = step.agree }) asks e

-- a step after EnterStep
pub enters : {r : Run} {z : Situation} {next : P.Next} → P.Departs r z next → DepartsFrom r (at_step r z) (ready r (at_step r z)) next
enters {r} {z} {next} d = subst (λ states. DepartsFrom r (at_step r z) states next) (sym (ready_is r z)) (rebased (entering_step r z) z.n (opened d))

pub entered : {r : Run} {z : Situation} {next : P.Next} → DepartsFrom r (at_step r z) (ready r (at_step r z)) next → P.Departs r z next
entered {r} {z} {next} d = closed (rebased z.states z.n (subst (λ states. DepartsFrom r (at_step r z) states next) (ready_is r z) d))
