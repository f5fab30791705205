-- Timers that differ in armings past the stop alone are due at the same points up to it, and stay so after instants.
use Rattle.std.proofs.Common.{◌≡◌, ℕ, suc, ◌<◌, ◌≤◌, ℤ, List, [], ◌∷◌, Option, refl, sym, subst}
use Rattle.std.specs.Prelude.{◌↔◌, Bool, true, if◌then◌else◌}
use Rattle.fmi_calls.specs.declared.call.Reply.{Reply}
use Rattle.system_model.specs.declared.plan.Plan.{Plan}
use Rattle.system_model.specs.declared.system.Port.{Port}
use Rattle.system_model.specs.declared.system.Role.{Role}
use Rattle.system_model.specs.declared.system.Role.TheVariants.{Input, Output, ClockInput, ClockOutput, TimeClock}
use Rattle.system_model.specs.declared.system.System.{System}
use Rattle.system_model.specs.declared.system.Timing.TheVariants.{Answered, Changing, Countdown, Periodic}
use Rattle.system_model.specs.Values.{is_active, value}
use Rattle.run_model.specs.Run.{Never, Run, Timer}
use Rattle.run_model.specs.Timers.{rearmed}
use Rattle.slot_calls.specs.Log.{Sent}
use Rattle.event_iteration.specs.Clocks.{AreTicks}
use Rattle.event_iteration.specs.Intervals.{Rearms, interval_by, timer_after, timers_after, timers_after_from}
use Rattle.calling_sequence.specs.Calls.{IsBoundOf, IsStep}
use Rattle.run_rest.specs.Snapshot.{time_up_to, up_to}
use Rattle.run_rest.proofs.CallerLemmas.{Alike, alike_refl, alike_sym, answered_across, bound_across, due_across, rearmed_across, timer_across}

-- equal lists are alike
pub alike_same : {X : Type 0} (f : X → X) (xs ys : List X) → xs ≡ ys → Alike f xs ys
alike_same f xs ys same = subst (Alike f xs) same (alike_refl f xs)

-- ---- ticks

module _ (plan : Plan) (xs ys : List Timer) (alike : Alike (up_to plan.stop) xs ys) where
  pub ticks_across : (system : System) (t n : ℕ) (ticks : ℕ → Bool) → t ≤ plan.stop → AreTicks system plan.start ys t n ticks → AreTicks system plan.start xs t n ticks
  ticks_across system t n ticks within are p port timing at role =
      let own = are p port timing at role in
      let there = timer_across plan.stop xs ys p alike in (
        (λ is. due_across plan.start plan.stop t n _ _ within (sym there) (own.0 is)),
        (λ due. own.1 (due_across plan.start plan.stop t n _ _ within there due)),
      )

-- ---- after an instant

after_one : (stop : ℕ) (role : Role) (per_second t : ℕ) (v : Option ℤ) (reply : Option Reply) (a b : Timer) → up_to stop a ≡ up_to stop b → up_to stop (timer_after role per_second t v reply a) ≡ up_to stop (timer_after role per_second t v reply b)
after_one stop (TimeClock Countdown) per_second t v reply a b same =
    answered_across stop per_second t (interval_by reply) (if is_active v then Never else a) (if is_active v then Never else b) (rearmed_across stop (is_active v) Never a b same)
after_one stop (TimeClock Changing) per_second t v reply a b same = rearmed_across stop (is_active v) (rearmed per_second t (interval_by reply)) a b same
after_one stop (TimeClock (Periodic interval shift)) per_second t v reply a b same = same
after_one stop (TimeClock Answered) per_second t v reply a b same = same
after_one stop (Input feed) per_second t v reply a b same = same
after_one stop Output per_second t v reply a b same = same
after_one stop (ClockInput feed) per_second t v reply a b same = same
after_one stop ClockOutput per_second t v reply a b same = same

after_all : (stop per_second t : ℕ) (values : List (Option ℤ)) (replies : ℕ → Option Reply) (p : ℕ) (ports : List Port) (xs ys : List Timer) → Alike (up_to stop) xs ys →
    Alike (up_to stop) (timers_after_from per_second t values replies p ports xs) (timers_after_from per_second t values replies p ports ys)
after_all stop per_second t values replies p [] xs ys alike = tt
after_all stop per_second t values replies p (port ∷ ports) [] [] alike = tt
after_all stop per_second t values replies p (port ∷ ports) (a ∷ xs) (b ∷ ys) alike =
    (after_one stop port.role per_second t (value values p) (replies p) a b alike.0, after_all stop per_second t values replies (suc p) ports xs ys alike.1)
after_all stop per_second t values replies p (port ∷ ports) [] (b ∷ ys) alike = absurd alike
after_all stop per_second t values replies p (port ∷ ports) (a ∷ xs) [] alike = absurd alike

-- the same answers lead such timers to such
pub record Rearmed (system : System) (stop per_second t : ℕ) (values : List (Option ℤ)) (xs nexts : List Timer) (log : List Sent) : Type 0 where
  pub others : List Timer
  pub rearms : Rearms system per_second t values xs others log
  pub alike : Alike (up_to stop) others nexts

pub rearms_across : (system : System) (stop per_second t : ℕ) (values : List (Option ℤ)) (xs ys nexts : List Timer) (log : List Sent) → Alike (up_to stop) xs ys → Rearms system per_second t values ys nexts log → Rearmed system stop per_second t values xs nexts log
rearms_across system stop per_second t values xs ys nexts log alike r =
    let others : List Timer = timers_after per_second t system values r.explains.replies xs in
    record {
      others = others;
      rearms = record { explains = r.explains; timers_are = refl };
      alike = subst (λ (ts : List Timer). Alike (up_to stop) others ts) (sym r.timers_are) (after_all stop per_second t values r.explains.replies 0 system.ports xs ys alike);
    }

-- ---- a step

module _ (r : Run) (xs ys : List Timer) (ds es : List (Option ℕ)) (alike : Alike (up_to r.plan.stop) xs ys) (times : Alike (time_up_to r.plan.stop) ds es) (t to : ℕ) where
  pub bound_near : IsBoundOf r.plan ys es t to → IsBoundOf r.plan xs ds t to
  bound_near b = record {
    before_stop = b.before_stop;
    bound = bound_across r ys xs es ds t to b.before_stop (alike_sym (up_to r.plan.stop) xs ys alike) (alike_sym (time_up_to r.plan.stop) ds es times) b.bound;
  }

  pub step_near : IsStep r.system r.plan ys es t to → IsStep r.system r.plan xs ds t to
  step_near s = record { bound = bound_near s.bound; fit = s.fit }
