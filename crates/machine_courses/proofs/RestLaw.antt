-- A resumed run of told machines puts what is left of the run.
use Rattle.std.proofs.Common.{◌≡◌, ◌⊎◌, ℕ, suc, ◌<◌, ◌≤◌, ℤ, Bool, true, false, List, [], ◌∷◌, ◌++◌, Option, inl, inr, refl, sym, ap, ◌∙◌, subst, arith, length, map}
use Rattle.std.specs.Prelude.{◌==◌, if◌then◌else◌}
use Rattle.std.specs.List.{list_any}
use Rattle.fmu_peer.specs.declared.ended.Why.{Why}
use Rattle.fmu_peer.specs.Machine.{MachineState}
use Rattle.system_model.specs.declared.bound.Bound.{Bound}
use Rattle.system_model.specs.declared.plan.Plan.{Plan}
use Rattle.system_model.specs.declared.system.System.{System}
use Rattle.system_model.specs.Bounds.{BindsParameters}
use Rattle.system_model.specs.Plans.{IsPlan}
use Rattle.system_model.specs.Sound.{IsSound}
use Rattle.system_model.specs.Text.{Instant, end_text}
use Rattle.system_model.proofs.CallerLemmas.{true_false}
use Rattle.run_model.specs.AfterInstant as F
use Rattle.run_model.specs.Behaved.{WellBehaved}
use Rattle.run_model.specs.Equations.{is_bad}
use Rattle.run_model.specs.Machines.{AreMachines}
use Rattle.run_model.specs.Run.{Run, Situation, Timer}
use Rattle.run_model.specs.Stepping as P
use Rattle.run_model.specs.Trace.{LeadsBy}
use Rattle.run_model.proofs.CallerLemmas.{ends_or_goes, situation_of, situation_reached, values_fit}
use Rattle.run_rest.specs.Held as R
use Rattle.run_rest.specs.Held.{Held}
use Rattle.run_rest.specs.Parted.{entering_step}
use Rattle.run_rest.specs.Snapshot.{time_up_to, up_to}
use Rattle.run_rest.proofs.CallerLemmas.{IsKeepable, keeps_reached, keeps_updated, times_kept}
use Rattle.slot_calls.specs.declared.bad_answer.BadAnswer.{BadAnswer}
use Rattle.slot_calls.specs.Log.{Sent}
use Rattle.slot_calls.specs.Replies.{AreReplies}
use Rattle.step_agreement.specs.OverMachines.{IgnoreSlots}
use Rattle.event_iteration.proofs.ByLog.{AreAll, all_on, states_all, updated_all}
use Rattle.calling_sequence.specs.declared.run_end.RunEnd.{RunEnd}
use Rattle.calling_sequence.specs.declared.run_end.RunEnd.TheVariants as E
use Rattle.calling_sequence.specs.Course.{CourseIn, Extent, FromHeld, Place, Restored, Spot, shown}
use Rattle.calling_sequence.specs.Ends.{AwaitsIn, Badly, EndLine, EndsIn, FinishesIn, Header, Shown, Well, kind_of_end, pieces_in, text_of}
use Rattle.calling_sequence.specs.Holding.{spot_in}
use Rattle.calling_sequence.specs.Puts.{PutsPrefixOf, with_pieces}
use Rattle.machine_courses.specs.Prefixes.{AtFirst, CameTo, Onward}
use Rattle.machine_courses.specs.Held.{GoesAs, IsRestOf, StandsAs, checkpoint_of}
use Rattle.machine_courses.specs.Laws.{RestByLog, RestWellByLog, SnapshotsStand}
use Rattle.machine_courses.specs.Outcomes.{IsLost, Output, PutsPrefixOfRunIn, PutsPrefixOfTraceIn, PutsRunIn, Stretch, TracesWellIn, pieces_with_end, rest_after}
use Rattle.machine_courses.proofs.Following.{reached_by}
use Rattle.machine_courses.proofs.Places.{At, Resumes, Sees}
use Rattle.machine_courses.proofs.Rows.{below_more}
use Rattle.machine_courses.proofs.RunLaw.{puts_whole}
use Rattle.machine_courses.proofs.SameCourses.{same_course, same_finish}
use Rattle.machine_courses.proofs.RunLaw as L
use Rattle.machine_courses.proofs.TraceLaw as T
use Rattle.machine_courses.proofs.Words.{alike_map, same_alike, timers_back, values_back}

-- ---- where it stands

pub came_of : (r : Run) (z : Situation) (is : List Instant) → R.Comes r is z → CameTo r z is
came_of r _ _ (R.AtFirst s is initial solves kept begins none) = AtFirst s is initial solves kept begins none
came_of r _ _ (R.Onward is s values js next comes solves leads js_is) = Onward next js s values is (came_of r s is comes) solves leads js_is

abbrev timers_up_to : Run → Situation → List Timer
timers_up_to r u = map (up_to r.plan.stop) u.timers

abbrev times_up_to : Run → Situation → List (Option ℕ)
times_up_to r u = map (time_up_to r.plan.stop) u.events

abbrev by_tests : (lost asked again limited : Bool) → F.Following
by_tests lost asked again limited = if lost then F.OutOfRange else (if asked then F.Ended else (if again then (if limited then F.AtLimit else F.Again) else F.Done))

not_limited : (lost asked again limited : Bool) → by_tests lost asked again limited ≡ F.Again → limited ≡ false
not_limited true asked again limited e = absurd (cc)
not_limited false true again limited e = absurd (cc)
not_limited false false true true e = absurd (cc)
not_limited false false true false e = refl
not_limited false false false limited e = absurd (cc)

none_lost : (lost asked again limited : Bool) → by_tests lost asked again limited ≡ F.Done → lost ≡ false
none_lost true asked again limited e = absurd (cc)
none_lost false asked again limited e = refl

pub none_lost_done : (r : Run) (s : Situation) (V : List (Option ℤ)) → F.following r s V ≡ F.Done → list_any (is_bad V) r.system.ports ≡ false
none_lost_done r s V done = none_lost (list_any (is_bad V) r.system.ports) (F.any_update F.asks_for_end r s V) (F.goes_again r s V) (suc s.n == r.plan.limit) done

module _ (r : Run) (sound : IsSound r.system) (plan : IsPlan r.plan) (machines : AreMachines r) where
  -- a run makes no more instants at a point than it may
  below_departs : {s : Situation} {next : P.Next} → P.Departs r s next → (z : Situation) → next ≡ P.GoesOn z → z.n < r.plan.limit
  below_departs (P.AtStop next at a) z e = absurd (true_false (ap ends_or_goes (sym a ∙ e)))
  below_departs (P.WhereAsked next k p step asks a) z e = absurd (true_false (ap ends_or_goes (sym a ∙ e)))
  below_departs (P.WhereFixed next j f lacks a) z e = absurd (true_false (ap ends_or_goes (sym a ∙ e)))
  below_departs (P.ByStep next k p step asks a) z e =
      subst (λ (u : Situation). u.n < r.plan.limit) (ap (λ (x : P.Next). situation_of x z) (sym a ∙ e)) plan.limit_above

  below_leads : (f : F.Following) (s : Situation) (V : List (Option ℤ)) (z : Situation) → F.following r s V ≡ f → s.n < r.plan.limit → LeadsBy f r s V (P.GoesOn z) → z.n < r.plan.limit
  below_leads F.OutOfRange s V z is below a = absurd (true_false (sym (ap ends_or_goes a)))
  below_leads F.Ended s V z is below a = absurd (true_false (sym (ap ends_or_goes a)))
  below_leads F.AtLimit s V z is below a = absurd (true_false (sym (ap ends_or_goes a)))
  below_leads F.Again s V z is below a =
      let other = not_limited (list_any (is_bad V) r.system.ports) (F.any_update F.asks_for_end r s V) (F.goes_again r s V) (suc s.n == r.plan.limit) is in
      subst (λ (u : Situation). u.n < r.plan.limit) (ap (λ (x : P.Next). situation_of x z) (sym a)) (below_more s.n r.plan.limit below other)
  below_leads F.Done s V z is below a = below_departs a z refl

  below_comes : (is : List Instant) (s : Situation) → R.Comes r is s → s.n < r.plan.limit
  below_comes _ _ (R.AtFirst s is initial solves kept begins none) = subst (λ (u : Situation). u.n < r.plan.limit) (sym begins) plan.limit_above
  below_comes _ _ (R.Onward is s values js next comes solves leads js_is) = below_leads (F.following r s values) s values next refl (below_comes is s comes) leads

  module _ (prefix : List Instant) (z : Situation) (held : Held r prefix z) where
    abbrev here : Situation
    here = F.updated r held.s held.values

    came : CameTo r held.s held.before
    came = came_of r held.s held.before held.comes

    -- what each FMU's place and machine are
    pub entering_all_held : AreAll r (entering_step r z)
    entering_all_held = subst (λ (u : Situation). AreAll r (entering_step r u)) (sym held.stands)
        (all_on r here.states (updated_all r machines held.s (situation_reached sound machines (reached_by r held.s held.before came)) held.values) _)

    module _ (begun : r.plan.start ≤ z.t) where
      at_values : (s : Spot) → StandsAs r z s → (values : List (Option ℤ)) → held.values ≡ values → At r (Restored (record s { values = values })) prefix (entering_step r z)
      at_values s stands values same = subst (λ (V : List (Option ℤ)). At r (Restored (record s { values = V })) prefix (entering_step r z)) same (record {
        n = held.s.n;
        sees = record {
          z = held.s;
          earlier = held.before;
          at = record {
            came = came;
            point = there;
            number = refl;
            within = record {
              begun = (let early = begun in let at = stands.point in omega (arith, early, at));
              ended = (let early = held.early in let at = stands.point in omega (arith, early, at));
              below = below_comes held.before held.s held.comes;
            };
          };
          solves = held.solves;
          timers = alike_map (up_to r.plan.stop) here.timers s.timers (ap (timers_up_to r) (sym held.stands) ∙ stands.timers);
          events = alike_map (time_up_to r.plan.stop) here.events s.events (ap (times_up_to r) (sym held.stands) ∙ stands.events);
          kept = none_lost_done r held.s held.values held.done;
          is_is = held.instants;
        };
        done = held.done;
        states = ap (entering_step r) held.stands;
      }) where
        there : held.s.t ≡ s.t
        there = ap (λ (u : Situation). u.t) (sym held.stands) ∙ stands.point

      pub restored_at : (s : Spot) → StandsAs r z s → At r (Restored s) prefix (entering_step r z)
      restored_at s stands = at_values s stands s.values (ap (λ (u : Situation). u.before) (sym held.stands) ∙ stands.values)

    -- and so does the spot of its checkpoint
    pub stands_there : StandsAs r z (spot_in r.system (checkpoint_of r z))
    stands_there =
        let reached = reached_by r held.s held.before came in
        let situation = situation_reached sound machines reached in
        let keepable = keeps_updated r held.s held.values (keeps_reached machines reached) in
        subst (λ (u : Situation). StandsAs r u (spot_in r.system (checkpoint_of r u))) (sym held.stands) (record {
          point = refl;
          values = sym (values_back r.system.ports held.values held.solves.places (values_fit r sound held.s held.values situation.types held.solves));
          timers = timers_back r.plan.stop r.system.ports here.timers keepable.timers;
          events = same_alike (time_up_to r.plan.stop) here.events (map (time_up_to r.plan.stop) here.events) (times_kept r.plan.stop here.events);
        })

-- ---- what it puts

module _ (r : Run) (prefix : List Instant) (z : Situation) (s : Spot) (bound : Bound) (own : Plan) (same : GoesAs own r.plan) (o : Output) (sound : IsSound r.system) (plan : IsPlan r.plan) (machines : AreMachines r) (ignore : IgnoreSlots r) (held : Held r prefix z) (begun : r.plan.start ≤ z.t) (stands : StandsAs r z s) where
  abbrev part : Stretch
  part = rest_after prefix

  abbrev base : List MachineState
  base = entering_step r z

  all : AreAll r base
  all = entering_all_held r sound plan machines prefix z held

  begins : At r (Restored s) prefix base
  begins = restored_at r sound plan machines prefix z held begun s stands

  puts : (end : RunEnd) (point : ℕ) (log : List Sent) (is : List Instant) → FinishesIn r.system bound own (FromHeld s) end point log is → AreReplies r base log → o.counted ≡ length is →
      o.after ≡ with_pieces o.before (pieces_with_end part is (kind_of_end end) point) → PutsRunIn r part o end
  puts end point log is finishes = puts_whole r sound plan machines ignore part o (FromHeld s) base all begins end point log is (same_finish r.system bound r.bound own r.plan same s end point log is finishes)

  cut_by : (x : Extent) (log : List Sent) (is : List Instant) (pieces : List (List ℕ)) (piece : List ℕ) → x ≡ FromHeld s → AwaitsIn r.system bound own x log is pieces piece → AreReplies r base log → o.counted ≡ length is →
      PutsPrefixOf (with_pieces o.before pieces) piece o.after → PutsPrefixOfRunIn r part o
  cut_by _ _ _ _ _ from Header replies counted cut = absurd (cc)
  cut_by _ _ _ _ _ from (Shown x p log is i puts_them shows course) replies counted cut =
      L.cut_shown r sound plan machines ignore part o (FromHeld s) base all begins p log is i
      (same_course r.system bound r.bound own r.plan same s p log (is ++ i ∷ []) (subst (λ (y : Extent). CourseIn r.system bound own y p log (is ++ i ∷ [])) from course)) replies counted
      (subst (λ (y : Extent). PutsPrefixOf (with_pieces o.before (pieces_in r.system own y is)) (text_of i) o.after) from cut)
  cut_by _ _ _ _ _ from (EndLine x end point log is finishes) replies counted cut =
      L.cut_end r sound plan machines ignore part o (FromHeld s) base all begins end point log is
      (same_finish r.system bound r.bound own r.plan same s end point log is (subst (λ (y : Extent). FinishesIn r.system bound own y end point log is) from finishes)) replies counted
      (subst (λ (y : Extent). PutsPrefixOf (with_pieces o.before (pieces_in r.system own y is)) (end_text (kind_of_end end) point) o.after) from cut)

  puts_rest : (end : RunEnd) (log : List Sent) (is : List Instant) → EndsIn r.system bound own (FromHeld s) log is end o.before o.after → AreReplies r base log → o.counted ≡ length is → PutsRunIn r part o end
  puts_rest E.Stop log is (point, f, put) replies counted = puts E.Stop point log is f replies counted put
  puts_rest (E.Asked at) log is (point, f, put) replies counted = puts (E.Asked at) point log is f replies counted put
  puts_rest (E.EventLimit at) log is (point, f, put) replies counted = puts (E.EventLimit at) point log is f replies counted put
  puts_rest (E.FixedStep component at end) log is (point, f, put) replies counted = puts (E.FixedStep component at end) point log is f replies counted put
  puts_rest (E.Range lost at) log is (point, f, put) replies counted = puts (E.Range lost at) point log is f replies counted put
  puts_rest (E.Held at) log is ends replies counted = absurd ends
  puts_rest (E.Bad bad) log is (point, f, put) replies counted = puts (E.Bad bad) point log is f replies counted put
  puts_rest E.WriteFault log is x replies counted = cut_by (FromHeld s) log is x.pieces x.piece refl x.awaits replies counted x.cuts

  -- ---- of machines that behave well

  module _ (binds : BindsParameters r.system r.bound) (well : WellBehaved r) where
    abbrev Lost : List Sent → Why → Type 0
    Lost log why = IsLost (length r.system.components) log why

    lost_rest : (bad : BadAnswer) (point : ℕ) (log : List Sent) (is : List Instant) → FinishesIn r.system bound own (FromHeld s) (E.Bad bad) point log is → AreReplies r base log → Lost log bad.why
    lost_rest bad point log is finishes = T.lost_end r sound plan machines ignore binds well part (FromHeld s) base all begins bad point log is (same_finish r.system bound r.bound own r.plan same s (E.Bad bad) point log is finishes)

    cut_well : (x : Extent) (log : List Sent) (is : List Instant) (pieces : List (List ℕ)) (piece : List ℕ) → x ≡ FromHeld s → AwaitsIn r.system bound own x log is pieces piece → AreReplies r base log →
        PutsPrefixOf (with_pieces o.before pieces) piece o.after → ((why : Why) × Lost log why) ⊎ PutsPrefixOfTraceIn r part o
    cut_well _ _ _ _ _ from Header replies cut = absurd (cc)
    cut_well _ _ _ _ _ from (Shown x p log is i puts_them shows course) replies cut =
        T.cut_shown r sound plan machines ignore binds well part (FromHeld s) base all begins o p log is i
        (same_course r.system bound r.bound own r.plan same s p log (is ++ i ∷ []) (subst (λ (y : Extent). CourseIn r.system bound own y p log (is ++ i ∷ [])) from course)) replies
        (subst (λ (y : Extent). PutsPrefixOf (with_pieces o.before (pieces_in r.system own y is)) (text_of i) o.after) from cut)
    cut_well _ _ _ _ _ from (EndLine x end point log is finishes) replies cut =
        T.cut_end r sound plan machines ignore binds well part (FromHeld s) base all begins o end point log is
        (same_finish r.system bound r.bound own r.plan same s end point log is (subst (λ (y : Extent). FinishesIn r.system bound own y end point log is) from finishes)) replies
        (subst (λ (y : Extent). PutsPrefixOf (with_pieces o.before (pieces_in r.system own y is)) (end_text (kind_of_end end) point) o.after) from cut)

    rests_well : (end : RunEnd) (log : List Sent) (is : List Instant) → EndsIn r.system bound own (FromHeld s) log is end o.before o.after → AreReplies r base log → PutsRunIn r part o end → TracesWellIn r part log o end
    rests_well E.Stop log is ends replies puts = puts
    rests_well (E.Asked at) log is ends replies puts = puts
    rests_well (E.EventLimit at) log is ends replies puts = puts
    rests_well (E.FixedStep component at end) log is ends replies puts = puts
    rests_well (E.Range lost at) log is ends replies puts = puts
    rests_well (E.Held at) log is ends replies puts = absurd ends
    rests_well (E.Bad bad) log is (point, f, put) replies puts = lost_rest bad point log is f replies
    rests_well E.WriteFault log is x replies puts = cut_well (FromHeld s) log is x.pieces x.piece refl x.awaits replies x.cuts

pub rest_by_log : RestByLog
rest_by_log r prefix z s bound own log is end o c = puts_rest r prefix z s bound own c.same o c.sound c.plan c.machines c.ignore c.held c.begun c.stands end log is c.ends c.replies c.counted

pub rest_well_by_log : RestWellByLog
rest_well_by_log r prefix z s bound own log is end o binds well c =
    rests_well r prefix z s bound own c.same o c.sound c.plan c.machines c.ignore c.held c.begun c.stands binds well end log is c.ends c.replies (rest_by_log r prefix z s bound own log is end o c)

pub snapshots_stand : SnapshotsStand
snapshots_stand r sound plan machines prefix z held = stands_there r sound plan machines prefix z held
