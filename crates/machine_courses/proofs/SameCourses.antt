-- Where a run is resumed, what it sends depends on no value of a parameter, and neither on the workers nor on the link.
use Rattle.std.proofs.Common.{◌≡◌, ℕ, ◌<◌, ℤ, Bool, true, false, List, [], ◌++◌, Option, refl, subst}
use Rattle.system_model.specs.declared.bound.Bound.{Bound}
use Rattle.system_model.specs.declared.plan.Plan.{Plan}
use Rattle.system_model.specs.declared.system.System.{System}
use Rattle.system_model.specs.Text.{Instant}
use Rattle.run_model.specs.Run.{Timer}
use Rattle.run_model.specs.Steps.{AtEvent, AtTick, IsBound, IsMark, OnGrid, OnStop}
use Rattle.slot_calls.specs.Log.{Sent}
use Rattle.calling_sequence.specs.declared.run_end.RunEnd.{RunEnd}
use Rattle.calling_sequence.specs.declared.run_end.RunEnd.TheVariants as E
use Rattle.calling_sequence.specs.Calls.{IsBoundOf, IsStep}
use Rattle.calling_sequence.specs.Course as Q
use Rattle.calling_sequence.specs.Course.{Begins, CourseIn, FromHeld, LeadsTo, Place, Spot, part_at}
use Rattle.calling_sequence.specs.Ends.{AtLimit, AtShort, AtStop, Badly, ByStep, ByUpdate, EndsAt, FinishesIn, LostAtFirst, LostThere, Unfit, UnfitAtFirst, Well, point_of}
use Rattle.calling_sequence.specs.Parts.{Does, Falls, Part}
use Rattle.machine_courses.specs.Held.{GoesAs}

-- no part binds a parameter again
abbrev IsLater : Place → Type 0
IsLater Q.Made = ⊥
IsLater p = Unit {0}

later : {system : System} {plan : Plan} (p q : Place) (values : List (Option ℤ)) (log : List Sent) → LeadsTo system plan p values log q → IsLater q
later _ _ _ _ (Q.Binds v l) = tt
later _ _ _ _ (Q.Enters v l) = tt
later _ _ _ _ (Q.Finds v l) = tt
later _ _ _ _ (Q.Times found v l timers none are) = tt
later _ _ _ _ (Q.Exits timers v l s ticks is begins) = tt
later _ _ _ _ (Q.Reads s ticks v l len) = tt
later _ _ _ _ (Q.Rearming s v next l none rearms) = tt
later _ _ _ _ (Q.Updates s v l events again asked are goes asks) = tt
later _ _ _ _ (Q.Again s v l ticks other begins) = tt
later _ _ _ _ (Q.GoesOn w v l step) = tt
later _ _ _ _ (Q.Leaves w v l) = tt
later _ _ _ _ (Q.Sets w v l) = tt
later _ _ _ _ (Q.Saves w v l) = tt
later _ _ _ _ (Q.Agreeing w v l point asked agrees asks) = tt
later _ _ _ _ (Q.Stopping w v l component end agrees) = tt
later _ _ _ _ (Q.Frees w point asked v l) = tt
later _ _ _ _ (Q.Arrives s v l ticks begins) = tt
later _ _ _ _ (Q.Resumes w v l step) = tt

module _ (system : System) (old new : Bound) (own : Plan) (workers link : ℕ) (s : Spot) where
  abbrev plan : Plan
  plan = record own { workers = workers; link = link }

  same_mark : {timers : List Timer} {events : List (Option ℕ)} {point : ℕ} → IsMark own timers events point → IsMark plan timers events point
  same_mark (OnGrid is) = OnGrid is
  same_mark (AtTick is) = AtTick is
  same_mark (AtEvent is) = AtEvent is
  same_mark (OnStop is) = OnStop is

  own_mark : {timers : List Timer} {events : List (Option ℕ)} {point : ℕ} → IsMark plan timers events point → IsMark own timers events point
  own_mark (OnGrid is) = OnGrid is
  own_mark (AtTick is) = AtTick is
  own_mark (AtEvent is) = AtEvent is
  own_mark (OnStop is) = OnStop is

  same_bound : {timers : List Timer} {events : List (Option ℕ)} {t to : ℕ} → IsBoundOf own timers events t to → IsBoundOf plan timers events t to
  same_bound b = record {
    before_stop = b.before_stop;
    bound = record { later = b.bound.later; mark = same_mark b.bound.mark; least = λ point after mark. b.bound.least point after (own_mark mark) };
  }

  same_step : {timers : List Timer} {events : List (Option ℕ)} {t to : ℕ} → IsStep system own timers events t to → IsStep system plan timers events t to
  same_step step = record { bound = same_bound step.bound; fit = step.fit }

  same_ticks : {u : Spot} {ticks : ℕ → Bool} → Begins system own u ticks → Begins system plan u ticks
  same_ticks begins = record { known = begins.known; are_ticks = begins.are_ticks }

  same_leads : (p q : Place) (values : List (Option ℤ)) (log : List Sent) → LeadsTo system own p values log q → LeadsTo system plan p values log q
  same_leads _ _ _ _ (Q.Binds v l) = Q.Binds v l
  same_leads _ _ _ _ (Q.Enters v l) = Q.Enters v l
  same_leads _ _ _ _ (Q.Finds v l) = Q.Finds v l
  same_leads _ _ _ _ (Q.Times found v l timers none are) = Q.Times found v l timers none are
  same_leads _ _ _ _ (Q.Exits timers v l u ticks is begins) = Q.Exits timers v l u ticks is (same_ticks begins)
  same_leads _ _ _ _ (Q.Reads u ticks v l len) = Q.Reads u ticks v l len
  same_leads _ _ _ _ (Q.Rearming u v next l none rearms) = Q.Rearming u v next l none rearms
  same_leads _ _ _ _ (Q.Updates u v l events again asked are goes asks) = Q.Updates u v l events again asked are goes asks
  same_leads _ _ _ _ (Q.Again u v l ticks other begins) = Q.Again u v l ticks other (same_ticks begins)
  same_leads _ _ _ _ (Q.GoesOn w v l step) = Q.GoesOn w v l (same_step step)
  same_leads _ _ _ _ (Q.Leaves w v l) = Q.Leaves w v l
  same_leads _ _ _ _ (Q.Sets w v l) = Q.Sets w v l
  same_leads _ _ _ _ (Q.Saves w v l) = Q.Saves w v l
  same_leads _ _ _ _ (Q.Agreeing w v l point asked agrees asks) = Q.Agreeing w v l point asked agrees asks
  same_leads _ _ _ _ (Q.Stopping w v l component end agrees) = Q.Stopping w v l component end agrees
  same_leads _ _ _ _ (Q.Frees w point asked v l) = Q.Frees w point asked v l
  same_leads _ _ _ _ (Q.Arrives u v l ticks begins) = Q.Arrives u v l ticks (same_ticks begins)
  same_leads _ _ _ _ (Q.Resumes w v l step) = Q.Resumes w v l (same_step step)

  same_part : (p : Place) → IsLater p → part_at system old own p ≡ part_at system new plan p
  same_part Q.Made is = absurd is
  same_part Q.Configured is = refl
  same_part Q.Entered is = refl
  same_part (Q.Found values) is = refl
  same_part (Q.Timed timers) is = refl
  same_part (Q.Before u ticks) is = refl
  same_part (Q.Read u) is = refl
  same_part (Q.Rearmed u) is = refl
  same_part (Q.InstantDone u again asked) is = refl
  same_part (Q.Leaving w) is = refl
  same_part (Q.Left w) is = refl
  same_part (Q.Departing w) is = refl
  same_part (Q.Saved w) is = refl
  same_part (Q.Short w component end) is = refl
  same_part (Q.Agreed w point asked) is = refl
  same_part (Q.Stepped u true) is = refl
  same_part (Q.Stepped u false) is = refl
  same_part (Q.Restored u) is = refl

  same_point : (p : Place) → point_of plan p ≡ point_of own p
  same_point Q.Made = refl
  same_point Q.Configured = refl
  same_point Q.Entered = refl
  same_point (Q.Found values) = refl
  same_point (Q.Timed timers) = refl
  same_point (Q.Before u ticks) = refl
  same_point (Q.Read u) = refl
  same_point (Q.Rearmed u) = refl
  same_point (Q.InstantDone u again asked) = refl
  same_point (Q.Leaving w) = refl
  same_point (Q.Left w) = refl
  same_point (Q.Departing w) = refl
  same_point (Q.Saved w) = refl
  same_point (Q.Short w component end) = refl
  same_point (Q.Agreed w point asked) = refl
  same_point (Q.Stepped u asked) = refl
  same_point (Q.Restored u) = refl

  same_end : (end : RunEnd) (p : Place) → EndsAt system own end p → EndsAt system plan end p
  same_end _ _ (AtStop u stop) = AtStop u stop
  same_end _ _ (ByUpdate u again) = ByUpdate u again
  same_end _ _ (ByStep u) = ByStep u
  same_end _ _ (AtLimit u limit) = AtLimit u limit
  same_end _ _ (Unfit u component end bound unfit) = Unfit u component end (same_bound bound) unfit
  same_end _ _ (UnfitAtFirst u component end bound unfit) = UnfitAtFirst u component end (same_bound bound) unfit
  same_end _ _ (AtShort w component end) = AtShort w component end
  same_end _ _ (LostAtFirst values lost first) = LostAtFirst values lost first
  same_end _ _ (LostThere u lost first) = LostThere u lost first

  abbrev From : Bound → Plan → Place → List Sent → List Instant → Type 0
  From bound p place log is = CourseIn system bound p (FromHeld s) place log is

  course_by : (p : Place) (log : List Sent) (is : List Instant) → From old own p log is → From new plan p log is × IsLater p
  course_by _ _ _ Q.AtFirst = (Q.AtFirst, tt)
  course_by _ _ _ (Q.On p q values prefix more is course does leads within) =
      let c = course_by p prefix is course in
      (Q.On p q values prefix more is c.0 (subst (λ (part : Part). Does system part values more) (same_part p c.1) does) (same_leads p q values more leads) within, later p q values more leads)

  finish_by : (end : RunEnd) (point : ℕ) (log : List Sent) (is : List Instant) → FinishesIn system old own (FromHeld s) end point log is → FinishesIn system new plan (FromHeld s) end point log is
  finish_by _ _ _ _ (Well p end log is course ends may) =
      subst (λ (point : ℕ). FinishesIn system new plan (FromHeld s) end point log is) (same_point p) (Well p end log is (course_by p log is course).0 (same_end end p ends) may)
  finish_by _ _ _ _ (Badly p bad prefix more is course falls) =
      let c = course_by p prefix is course in
      subst (λ (point : ℕ). FinishesIn system new plan (FromHeld s) (E.Bad bad) point (prefix ++ more) is) (same_point p) (Badly p bad prefix more is c.0 (subst (λ (part : Part). Falls system part bad more) (same_part p c.1) falls))

-- by a plan that goes as the other
module _ (system : System) (old new : Bound) (own plan : Plan) (same : GoesAs own plan) (s : Spot) where
  pub same_course : (p : Place) (log : List Sent) (is : List Instant) → CourseIn system old own (FromHeld s) p log is → CourseIn system new plan (FromHeld s) p log is
  same_course p log is course = subst (λ (x : Plan). CourseIn system new x (FromHeld s) p log is) same (course_by system old new own plan.workers plan.link s p log is course).0

  pub same_finish : (end : RunEnd) (point : ℕ) (log : List Sent) (is : List Instant) → FinishesIn system old own (FromHeld s) end point log is → FinishesIn system new plan (FromHeld s) end point log is
  same_finish end point log is finishes = subst (λ (x : Plan). FinishesIn system new x (FromHeld s) end point log is) same (finish_by system old new own plan.workers plan.link s end point log is finishes)
