-- How each end of a run is a course, or a course and a bad answer.
use Rattle.std.proofs.Common.{◌≡◌, ℕ, false, List, [], ◌∷◌, ◌++◌, Option, Some, None, refl, sym, subst, append_assoc}
use Rattle.sim_base.specs.Sink.{SinkView}
use Rattle.system_model.specs.declared.bound.Bound.{Bound}
use Rattle.system_model.specs.declared.plan.Plan.{Plan}
use Rattle.system_model.specs.declared.system.System.{System}
use Rattle.system_model.specs.Bounds.{BindsParameters}
use Rattle.system_model.specs.Text.{Instant}
use Rattle.slot_calls.specs.declared.bad_answer.BadAnswer.{BadAnswer}
use Rattle.slot_calls.specs.Log.{Sent}
use Rattle.slot_calls.specs.Stage.{IsAnswered, shapes_of}
use Rattle.slot_calls.proofs.CallerLemmas.{answered_on}
use Rattle.calling_sequence.specs.declared.run_end.RunEnd.{RunEnd}
use Rattle.calling_sequence.specs.declared.run_end.RunEnd.TheVariants as E
use Rattle.calling_sequence.specs.Plans.{CountsBy}
use Rattle.calling_sequence.specs.Calls.{entering_step, keeping, making}
use Rattle.calling_sequence.specs.Course.{AtFirst, Course, CourseIn, Extent, FromHeld, InstantDone, IsWithin, Leaving, On, Place, UpToHeld, Whole, first_of, part_at, shown}
use Rattle.calling_sequence.specs.Ends.{AtStop, AwaitsIn, Badly, EndLine, EndsAt, EndsIn, FinishesIn, Header, Shown, Well}
use Rattle.calling_sequence.specs.Parts.{Falls}
use Rattle.calling_sequence.specs.Holding.{BadlyHeld, Early, WellHeld}
use Rattle.calling_sequence.proofs.CourseInduction.{along}
use Rattle.course_laws.specs.Runs.{BackFalling, BackStands, Comes, ComesAnyhow, EndsCome, Falling, Holding, HoldingBadly, HoldsCome, IsHalt, RestsCome, Stands, TellsEnd, Wholly}

well : (system : System) (plan : Plan) (end : RunEnd) (p : Place) → EndsAt system plan end p → TellsEnd end None
well system plan _ _ (AtStop s is) = refl
well system plan _ _ ends = refl

halts : (system : System) (plan : Plan) (end : RunEnd) (p : Place) → EndsAt system plan end p → IsHalt p
halts system plan _ _ (AtStop s is) = tt
halts system plan _ _ ends = tt

shown_halts : (p : Place) (i : Instant) → shown p ≡ i ∷ [] → IsHalt p
shown_halts (InstantDone s again asked) i shows = tt
shown_halts p i shows = absurd (cc)

-- where a course may stop, and where one falls, is told
module _ (system : System) (bound : Bound) (plan : Plan) (extent : Extent) (begins : IsHalt (first_of extent)) (To : Option BadAnswer → List Sent → Type 0)
    (stands : (p : Place) (log : List Sent) (is : List Instant) → CourseIn system bound plan extent p log is → IsHalt p → To None log)
    (falls : (p : Place) (bad : BadAnswer) (prefix more : List Sent) (is : List Instant) → CourseIn system bound plan extent p prefix is → Falls system (part_at system bound plan p) bad more → To (Some bad) (prefix ++ more)) where
  abbrev ComesTo : RunEnd → List Sent → Type 0
  ComesTo end log = (bad : Option BadAnswer) × TellsEnd end bad × To bad log

  finished : (end : RunEnd) (point : ℕ) (log : List Sent) (is : List Instant) → FinishesIn system bound plan extent end point log is → ComesTo end log
  finished _ _ _ _ (Well p end log is course ends may) = (None, well system plan end p ends, stands p log is course (halts system plan end p ends))
  finished _ _ _ _ (Badly p bad prefix more is course fell) = (Some bad, refl, falls p bad prefix more is course fell)

  awaited : (x : Extent) (log : List Sent) (is : List Instant) (pieces : List (List ℕ)) (piece : List ℕ) → x ≡ extent → AwaitsIn system bound plan x log is pieces piece → ComesTo E.WriteFault log
  awaited _ _ _ _ _ same Header = (None, tt, stands (first_of extent) [] [] AtFirst begins)
  awaited _ _ _ _ _ same (Shown x p log is i puts shows course) =
      (None, tt, stands p log (is ++ i ∷ []) (subst (λ (y : Extent). CourseIn system bound plan y p log (is ++ i ∷ [])) same course) (shown_halts p i shows))
  awaited _ _ _ _ _ same (EndLine x end point log is f) = let c = finished end point log is (subst (λ (y : Extent). FinishesIn system bound plan y end point log is) same f) in (c.0, tt, c.2)

  ends : (end : RunEnd) (log : List Sent) (is : List Instant) (before after : SinkView) → EndsIn system bound plan extent log is end before after → ComesTo end log
  ends E.WriteFault log is before after e = awaited extent log is e.pieces e.piece refl e.awaits
  ends (E.Held point) log is before after e = absurd e
  ends end log is before after e = finished end e.0 log is e.1

-- a course that may be held is one of a whole run
within_whole : (q : Place) → IsWithin Whole q
within_whole (Leaving w) = tt
within_whole q = tt

whole_course : (system : System) (bound : Bound) (plan : Plan) (at : ℕ) (p : Place) (log : List Sent) (is : List Instant) → CourseIn system bound plan (UpToHeld at) p log is → Course system bound plan p log is
whole_course system bound plan at = along system bound plan (UpToHeld at) (λ p log is. Course system bound plan p log is) AtFirst
    (λ p q values prefix more is course whole does leads within. On p q values prefix more is whole does leads (within_whole q))

module _ (system : System) (bound : Bound) (plan : Plan) (binds : BindsParameters system bound) (counts : CountsBy system plan) (made : List Sent) (answered : IsAnswered (shapes_of system) (making plan.link system) made) where
  abbrev AfterMade : Option BadAnswer → List Sent → Type 0
  AfterMade bad log = Comes system bad (made ++ log)

  stands_made : (p : Place) (log : List Sent) (is : List Instant) → Course system bound plan p log is → IsHalt p → AfterMade None log
  stands_made p log is course halt = Stands bound plan p made log is binds counts answered course halt

  falls_made : (p : Place) (bad : BadAnswer) (prefix more : List Sent) (is : List Instant) → Course system bound plan p prefix is → Falls system (part_at system bound plan p) bad more → AfterMade (Some bad) (prefix ++ more)
  falls_made p bad prefix more is course fell = Falling bound plan p bad made prefix more is binds counts answered course fell

pub ends_come : EndsCome
ends_come system bound plan made log is end before after binds counts answered e =
    ends system bound plan Whole tt (AfterMade system bound plan binds counts made answered)
    (stands_made system bound plan binds counts made answered) (falls_made system bound plan binds counts made answered) end log is before after e

pub holds_come : HoldsCome
holds_come e at olds made _ _ _ binds counts answered (Early end point log is f) =
    let go = whole_course e.system e.bound e.plan at in
    let c = finished e.system e.bound e.plan (UpToHeld at) tt (AfterMade e.system e.bound e.plan binds counts made answered)
    (λ p l js course halt. stands_made e.system e.bound e.plan binds counts made answered p l js (go p l js course) halt)
    (λ p bad prefix more js course fell. falls_made e.system e.bound e.plan binds counts made answered p bad prefix more js (go p prefix js course) fell) end point log is f in
    (c.0, c.1, Wholly c.0 (made ++ log) c.2)
holds_come e at olds made _ _ _ binds counts answered (BadlyHeld s bad prefix more is comes stops) =
    (Some bad, refl, HoldingBadly e.bound e.plan s bad made prefix more is binds counts answered (whole_course e.system e.bound e.plan at (InstantDone s false false) prefix is comes.course) stops)
holds_come e at olds made _ _ _ binds counts answered (WellHeld s prefix entered kept is mids states comes enters told packed keeps can) = (
  None,
  refl,
  subst (λ (l : List Sent). ComesAnyhow e.system None (made ++ l)) (sym (append_assoc prefix entered kept))
      (Holding e.bound e.plan s made prefix (entered ++ kept) is binds counts answered (whole_course e.system e.bound e.plan at (InstantDone s false false) prefix is comes.course)
      (answered_on (shapes_of e.system) (entering_step e.system) (keeping e.system) entered kept enters keeps)),
)

pub rests_come : RestsCome
rests_come system bound plan s sizes made back log is end before after binds counts may answered went e =
    ends system bound plan (FromHeld s) tt (λ bad l. ComesAnyhow system bad (made ++ (back ++ l)))
    (λ p l js course halt. BackStands bound plan s sizes p made back l js binds counts may answered went course halt)
    (λ p bad prefix more js course fell. BackFalling bound plan s sizes p bad made back prefix more js binds counts may answered went course fell)
    end log is before after e
