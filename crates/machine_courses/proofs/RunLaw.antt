-- A log of told machines is their run, whatever they answer.
use Rattle.std.proofs.Common.{Option, ◌≡◌, ℕ, ℤ, Bool, true, false, Some, List, [], ◌∷◌, ◌++◌, inl, inr, refl, sym, ap, ◌∙◌, subst, append_assoc, length}
use Rattle.std.specs.Prelude.{suc, ◌-◌, ◌==◌}
use Rattle.fmu_peer.specs.Machine.{MachineState}
use Rattle.fmu_peer.specs.Mode.{instantiate_of}
use Rattle.system_model.specs.declared.plan.EndKind.{EndKind}
use Rattle.system_model.specs.declared.plan.EndKind.TheVariants as K
use Rattle.system_model.specs.Sound.{IsSound}
use Rattle.system_model.specs.Text.{Instant, end_text}
use Rattle.run_model.specs.AfterInstant.{AtLimit, Done, Ended, Following, OutOfRange, following}
use Rattle.run_model.specs.Equations.{is_bad}
use Rattle.run_model.specs.Initial as I
use Rattle.run_model.specs.Initial.{is_bad_initially}
use Rattle.run_model.specs.Machines.{AreMachines}
use Rattle.run_model.specs.Run.{Run, Situation, Timer}
use Rattle.run_model.specs.Stepping as P
use Rattle.run_model.specs.Stepping.{Ends, EndsBefore}
use Rattle.run_model.specs.Trace.{Fails, IsTrace, LeadsBy}
use Rattle.slot_calls.specs.Log.{Sent}
use Rattle.slot_calls.specs.Replies.{AreReplies, states_by}
use Rattle.slot_calls.specs.Stage.{IsAnswered, everyone, shapes_of}
use Rattle.step_agreement.specs.OverMachines.{IgnoreSlots}
use Rattle.event_iteration.proofs.ByLog.{AreAll, made_all, replies_first, replies_then, stage_states}
use Rattle.calling_sequence.specs.declared.run_end.RunEnd.{RunEnd}
use Rattle.calling_sequence.specs.declared.run_end.RunEnd.TheVariants as E
use Rattle.calling_sequence.specs.Calls.{IsBoundOf, first_unfit, making}
use Rattle.calling_sequence.specs.Course.{CourseIn, Extent, InstantDone, Made, Place, Spot, Stepped, Way, Whole, first_of}
use Rattle.calling_sequence.specs.Ends.{AtLimit as Limited, AtShort, AtStop, AwaitsIn, LostAtFirst, LostThere, Badly, ByStep, ByUpdate, EndLine, EndsAt, EndsBy, Finishes, FinishesIn, Header, Shown, Unfit, UnfitAtFirst, Well, kind_of_end, pieces_in, point_of, text_of}
use Rattle.system_model.specs.Plans.{IsPlan}
use Rattle.calling_sequence.specs.Puts.{PutsPrefixOf, with_pieces}
use Rattle.event_iteration.specs.Lost.{IsFirstLost}
use Rattle.event_iteration.specs.declared.lost.LostValue.{LostValue}
use Rattle.machine_courses.specs.Prefixes.{AtTheStart, InInstant, IsPrefix, LacksStepAt, LosesAt}
use Rattle.machine_courses.proofs.Losing.{first_same, some_lost}
use Rattle.machine_courses.specs.Laws.{RunByLog}
use Rattle.machine_courses.specs.Outcomes.{Output, PutsPrefixOfRunIn, PutsRun, PutsRunIn, PutsTraceIn, Stretch, pieces_up_to, pieces_with_end, whole_of}
use Rattle.machine_courses.proofs.Following.{by_answers, following_lost, leads_by, reached_by}
use Rattle.machine_courses.proofs.Prefixes.{Prefix, prefix_at, prefix_before, is_prefix, none, stands_in, trace_seen, trace_lost}
use Rattle.machine_courses.proofs.Near.{bound_near}
use Rattle.machine_courses.proofs.Places.{At, Goes, Says, Sees, gone, over, AreFound, Finds}
use Rattle.machine_courses.proofs.Rows.{follows, over_all}
use Rattle.machine_courses.proofs.Steps.{lacks}

-- once each was made
pub made_replies : (r : Run) (made log : List Sent) → IsAnswered (shapes_of r.system) (making r.plan.link r.system) made → AreReplies r (I.first_states r) (made ++ log) → AreReplies r (I.instantiated r) log
made_replies r made log making replies =
    subst (λ (ss : List MachineState). AreReplies r ss log) (stage_states r (I.first_states r) everyone (instantiate_of r.plan.link) made making) (replies_then r (I.first_states r) made log making.good replies)

module _ (r : Run) (sound : IsSound r.system) (plan : IsPlan r.plan) (machines : AreMachines r) (ignore : IgnoreSlots r) where
  -- after an instant
  module _ (s : Spot) (again asked : Bool) (is : List Instant) (ss : List MachineState) (x : Says r s again asked is ss) (kind : EndKind) (point : ℕ) where
    ends_by : (f : Following) → by_answers asked again (suc s.n == r.plan.limit) ≡ f → LeadsBy f r x.sees.z s.values (Ends kind point) → IsTrace r is kind point
    ends_by f e leads = trace_seen r s is x.sees kind point (leads_by r x.sees.z s.values f (Ends kind point) (follows r sound plan machines ignore s again asked is ss x ∙ e) leads)

  -- where the point is done, and the step has a size that one doesn't take
  module _ (s : Spot) (is : List Instant) (x : Sees r s is) (done : following r x.z s.values ≡ Done) (component end : ℕ) (bound : IsBoundOf r.plan s.timers s.events s.t end) (unfit : first_unfit r.system r.plan (end - s.t) ≡ Some component) where
    abbrev z : Situation
    z = over r s is x

    bound_here : IsBoundOf r.plan z.timers z.events z.t end
    bound_here = bound_near r z.timers s.timers z.events s.events x.timers x.events z.t end (subst (λ (k : ℕ). IsBoundOf r.plan s.timers s.events k end) (sym x.at.point) bound)

    lacks_here : P.LacksStep r z component end
    lacks_here = lacks r z (over_all r sound plan machines ignore s is x) end bound_here component (ap (λ (k : ℕ). first_unfit r.system r.plan (end - k)) x.at.point ∙ unfit)

    pub lacks_at : LacksStepAt r component s.t end
    lacks_at = record {
      z = z;
      departed = record {
        s = x.z;
        values = s.values;
        reached = reached_by r x.z x.earlier x.at.came;
        solves = x.solves;
        done = done;
        is = refl;
        before_stop = bound_here.before_stop;
      };
      point = x.at.point;
      lacks = lacks_here;
    }

    fixed_trace : IsTrace r is K.Fixed s.t
    fixed_trace = trace_seen r s is x K.Fixed s.t
        (leads_by r x.z s.values Done (Ends K.Fixed s.t) done (P.WhereFixed (Ends K.Fixed s.t) component end lacks_here (ap (Ends K.Fixed) (sym x.at.point))))

  -- where the agreement stops
  module _ (w : Way) (is : List Instant) (g : Goes r w is) (component end : ℕ) (lacking : P.LacksStep r (gone r w is g) component end) where
    pub short_at : LacksStepAt r component w.s.t end
    short_at = record {
      z = gone r w is g;
      departed = record {
        s = g.sees.z;
        values = w.s.values;
        reached = reached_by r g.sees.z g.sees.earlier g.sees.at.came;
        solves = g.sees.solves;
        done = g.done;
        is = refl;
        before_stop = g.step.bound.before_stop;
      };
      point = g.sees.at.point;
      lacks = lacking;
    }

    short_trace : IsTrace r is K.Fixed w.s.t
    short_trace = trace_seen r (record w.s { n = g.n }) is g.sees K.Fixed w.s.t
        (leads_by r g.sees.z w.s.values Done (Ends K.Fixed w.s.t) g.done (P.WhereFixed (Ends K.Fixed w.s.t) component end lacking (ap (Ends K.Fixed) (sym g.sees.at.point))))

  -- where a value is lost on its way
  module _ (s : Spot) (is : List Instant) (ss : List MachineState) (f : Finds r s is ss) (lost : LostValue) (first : IsFirstLost (is_bad s.values) r.system.ports s.values lost) where
    lost_trace : IsTrace r is K.Range s.t
    lost_trace = subst (λ (t : ℕ). IsTrace r is K.Range t) f.at.point
        (trace_lost r f.z is s.values K.Range f.z.t f.at.came f.solves (leads_by r f.z s.values OutOfRange (EndsBefore K.Range f.z.t) (following_lost r f.z s.values (some_lost (is_bad s.values) r.system.ports lost s.values first)) refl))

    pub loses_there : LosesAt r lost s.t
    loses_there = InInstant f.z s.values (reached_by r f.z is f.at.came) f.solves first f.at.point

  module _ (values : List (Option ℤ)) (is : List Instant) (ss : List MachineState) (none : is ≡ []) (at : AreFound r values ss) (lost : LostValue) (first : IsFirstLost (is_bad_initially r.system values) r.system.ports values lost) where
    own_first : IsFirstLost (is_bad_initially r.system at.0.initial) r.system.ports at.0.initial lost
    own_first = first_same r.system values at.0.initial at.1 lost first

    failed_trace : IsTrace r is K.Range r.plan.start
    failed_trace = Fails at.0.initial at.0.solves (some_lost (is_bad_initially r.system at.0.initial) r.system.ports lost at.0.initial own_first) none refl refl

    pub loses_at_first : LosesAt r lost r.plan.start
    loses_at_first = AtTheStart at.0.initial at.0.solves own_first refl

  -- at the place where the run ends
  pub trace_at : (end : RunEnd) (p : Place) → EndsAt r.system r.plan end p → (is : List Instant) (ss : List MachineState) → At r p is ss → IsTrace r is (kind_of_end end) (point_of r.plan p)
  trace_at _ _ (AtStop s at) is ss x = ends_by s false false is ss x K.Stop s.t Done refl (P.AtStop (Ends K.Stop s.t) (x.sees.at.point ∙ at) (ap (Ends K.Stop) (sym x.sees.at.point)))
  trace_at _ _ (ByUpdate s again) is ss x = ends_by s again true is ss x K.Asked s.t Ended refl (ap (Ends K.Asked) (sym x.sees.at.point))
  trace_at _ _ (ByStep s) is ss x =
      let g = x.lands.goes in
      trace_seen r (record x.w.s { n = g.n }) is g.sees K.Asked s.t
      (leads_by r g.sees.z x.w.s.values Done (Ends K.Asked s.t) g.done (P.WhereAsked (Ends K.Asked s.t) x.lands.asks s.t x.lands.made (sym x.lands.asked_is) refl))
  trace_at _ _ (Limited s limit) is ss x = ends_by s true false is ss x K.Limit s.t AtLimit (ap (by_answers false true) limit) (ap (Ends K.Limit) (sym x.sees.at.point))
  trace_at _ _ (Unfit s component end bound unfit) is ss x = fixed_trace s is x.sees (follows r sound plan machines ignore s false false is ss x) component.0 end bound unfit
  trace_at _ _ (UnfitAtFirst s component end bound unfit) is ss x = fixed_trace (record s { n = x.n }) is x.sees x.done component.0 end bound unfit
  trace_at _ _ (AtShort w component end) is ss (g, lacking) = short_trace w is g component.0 end lacking
  trace_at _ _ (LostAtFirst values lost first) is ss (none, at) = failed_trace values is ss none at lost first
  trace_at _ _ (LostThere s lost first) is ss (f, timers) = lost_trace s is ss f lost first

  -- of a stretch of the run
  module _ (part : Stretch) (o : Output) where
    module _ (is : List Instant) (counted : o.counted ≡ length is) where
      abbrev Put : EndKind → ℕ → Type 0
      Put kind point = o.after ≡ with_pieces o.before (pieces_with_end part is kind point)

      puts : (kind : EndKind) (point : ℕ) → Put kind point → IsTrace r (part.after ++ is) kind point → PutsTraceIn r part o kind point
      puts kind point put trace = record { is = is; trace = trace; text = record { counted = counted; put = put } }

      abbrev all : List Instant
      all = part.after ++ is

      puts_at : (end : RunEnd) (p : Place) → EndsAt r.system r.plan end p → (ss : List MachineState) → At r p all ss → Put (kind_of_end end) (point_of r.plan p) → PutsRunIn r part o end
      puts_at _ _ (AtStop s at) ss x put = subst (PutsTraceIn r part o K.Stop) at (puts K.Stop s.t put (trace_at E.Stop (InstantDone s false false) (AtStop s at) all ss x))
      puts_at _ _ (ByUpdate s again) ss x put = puts K.Asked s.t put (trace_at (E.Asked s.t) (InstantDone s again true) (ByUpdate s again) all ss x)
      puts_at _ _ (ByStep s) ss x put = puts K.Asked s.t put (trace_at (E.Asked s.t) (Stepped s true) (ByStep s) all ss x)
      puts_at _ _ (Limited s limit) ss x put = puts K.Limit s.t put (trace_at (E.EventLimit s.t) (InstantDone s true false) (Limited s limit) all ss x)
      puts_at _ _ (Unfit s component end bound unfit) ss x put =
          let done = follows r sound plan machines ignore s false false all ss x in
          (puts K.Fixed s.t put (fixed_trace s all x.sees done component.0 end bound unfit), lacks_at s all x.sees done component.0 end bound unfit)
      puts_at _ _ (UnfitAtFirst s component end bound unfit) ss x put =
          let t : Spot = record s { n = x.n } in
          (puts K.Fixed s.t put (fixed_trace t all x.sees x.done component.0 end bound unfit), lacks_at t all x.sees x.done component.0 end bound unfit)
      puts_at _ _ (LostAtFirst values lost first) ss (none, at) put = (puts K.Range r.plan.start put (failed_trace values all ss none at lost first), loses_at_first values all ss none at lost first)
      puts_at _ _ (LostThere s lost first) ss (f, timers) put = (puts K.Range s.t put (lost_trace s all ss f lost first), loses_there s all ss f lost first)
      puts_at _ _ (AtShort w component end) ss (g, lacking) put = (puts K.Fixed w.s.t put (short_trace w all g component.0 end lacking), short_at w all g component.0 end lacking)

    -- along a course from its first place on, whose log leads the machines from these states
    module _ (extent : Extent) (base : List MachineState) (all_base : AreAll r base) (begins : At r (first_of extent) part.after base) where
      stood : (p : Place) (log : List Sent) (is : List Instant) → CourseIn r.system r.bound r.plan extent p log is → AreReplies r base log → At r p (part.after ++ is) (states_by r base log)
      stood p log is course replies = (stands_in r sound plan machines ignore extent part.after base all_base begins p log is course replies).at

      prefix_of : (p : Place) (log : List Sent) (is : List Instant) → CourseIn r.system r.bound r.plan extent p log is → AreReplies r base log → Prefix r (part.after ++ is)
      prefix_of p log is course replies = prefix_at r sound plan machines ignore p (part.after ++ is) (states_by r base log) (stood p log is course replies)

      -- the instants so far
      pub prefix_finish : (end : RunEnd) (point : ℕ) (log : List Sent) (is : List Instant) → FinishesIn r.system r.bound r.plan extent end point log is → AreReplies r base log → Prefix r (part.after ++ is)
      prefix_finish _ _ _ _ (Well p end log is course ends may) replies = prefix_of p log is course replies
      prefix_finish _ _ _ _ (Badly p bad prefix more is course falls) replies = prefix_of p prefix is course (replies_first r base prefix more replies)

      pub puts_whole : (end : RunEnd) (point : ℕ) (log : List Sent) (is : List Instant) → FinishesIn r.system r.bound r.plan extent end point log is → AreReplies r base log → o.counted ≡ length is →
          o.after ≡ with_pieces o.before (pieces_with_end part is (kind_of_end end) point) → PutsRunIn r part o end
      puts_whole _ _ _ _ (Well p end log is course ends may) replies counted put = puts_at is counted end p ends (states_by r base log) (stood p log is course replies) put
      puts_whole _ _ _ _ (Badly p bad prefix more is course falls) replies counted put = record {
        is = is;
        point = point_of r.plan p;
        prefix = is_prefix r (part.after ++ is) (prefix_finish (E.Bad bad) (point_of r.plan p) (prefix ++ more) is (Badly p bad prefix more is course falls) replies);
        text = record { counted = counted; put = put };
      }

      -- where a put failed: the header's, that of an instant, or that of the end line
      pub cut_shown : (p : Place) (log : List Sent) (is : List Instant) (i : Instant) → CourseIn r.system r.bound r.plan extent p log (is ++ i ∷ []) → AreReplies r base log → o.counted ≡ length is →
          PutsPrefixOf (with_pieces o.before (pieces_up_to part is)) (text_of i) o.after → PutsPrefixOfRunIn r part o
      cut_shown p log is i course replies counted cut =
          let all = subst (IsPrefix r) (sym (append_assoc part.after is (i ∷ []))) (is_prefix r (part.after ++ (is ++ i ∷ [])) (prefix_of p log (is ++ i ∷ []) course replies)) in
          record { is = is; prefix = prefix_before r (part.after ++ is) i all; counted = counted; cut = inr (text_of i, inl (i, all, refl), cut) }

      pub cut_end : (end : RunEnd) (point : ℕ) (log : List Sent) (is : List Instant) → FinishesIn r.system r.bound r.plan extent end point log is → AreReplies r base log → o.counted ≡ length is →
          PutsPrefixOf (with_pieces o.before (pieces_up_to part is)) (end_text (kind_of_end end) point) o.after → PutsPrefixOfRunIn r part o
      cut_end end point log is finishes replies counted cut = record {
        is = is;
        prefix = is_prefix r (part.after ++ is) (prefix_finish end point log is finishes replies);
        counted = counted;
        cut = inr (end_text (kind_of_end end) point, inr (kind_of_end end, point, refl), cut);
      }

  -- a whole run
  module _ (o : Output) where
    abbrev w : Stretch
    w = whole_of r

    abbrev from_made : At r Made [] (I.instantiated r)
    from_made = (refl, refl)

    cut_by : (x : Extent) (log : List Sent) (is : List Instant) (pieces : List (List ℕ)) (piece : List ℕ) → x ≡ Whole → AwaitsIn r.system r.bound r.plan x log is pieces piece → AreReplies r (I.instantiated r) log → o.counted ≡ length is →
        PutsPrefixOf (with_pieces o.before pieces) piece o.after → PutsPrefixOfRunIn r w o
    cut_by _ _ _ _ _ same Header replies counted cut = record { is = []; prefix = is_prefix r [] (none r sound plan machines ignore [] refl); counted = counted; cut = inl cut }
    cut_by _ _ _ _ _ same (Shown x p log is i puts_them shows course) replies counted cut =
        cut_shown w o Whole (I.instantiated r) (made_all r machines) from_made p log is i (subst (λ (y : Extent). CourseIn r.system r.bound r.plan y p log (is ++ i ∷ [])) same course) replies counted
        (subst (λ (y : Extent). PutsPrefixOf (with_pieces o.before (pieces_in r.system r.plan y is)) (text_of i) o.after) same cut)
    cut_by _ _ _ _ _ same (EndLine x end point log is finishes) replies counted cut =
        cut_end w o Whole (I.instantiated r) (made_all r machines) from_made end point log is (subst (λ (y : Extent). FinishesIn r.system r.bound r.plan y end point log is) same finishes) replies counted
        (subst (λ (y : Extent). PutsPrefixOf (with_pieces o.before (pieces_in r.system r.plan y is)) (end_text (kind_of_end end) point) o.after) same cut)

    puts_made : (end : RunEnd) (point : ℕ) (log : List Sent) (is : List Instant) → Finishes r.system r.bound r.plan end point log is → AreReplies r (I.instantiated r) log → o.counted ≡ length is →
        o.after ≡ with_pieces o.before (pieces_with_end w is (kind_of_end end) point) → PutsRunIn r w o end
    puts_made = puts_whole w o Whole (I.instantiated r) (made_all r machines) from_made

    pub puts_run : (end : RunEnd) (log : List Sent) (is : List Instant) → EndsBy r.system r.bound r.plan log is end o.before o.after → AreReplies r (I.instantiated r) log → o.counted ≡ length is → PutsRun r o end
    puts_run E.Stop log is (point, f, put) replies counted = puts_made E.Stop point log is f replies counted put
    puts_run (E.Asked at) log is (point, f, put) replies counted = puts_made (E.Asked at) point log is f replies counted put
    puts_run (E.EventLimit at) log is (point, f, put) replies counted = puts_made (E.EventLimit at) point log is f replies counted put
    puts_run (E.FixedStep component at end) log is (point, f, put) replies counted = puts_made (E.FixedStep component at end) point log is f replies counted put
    puts_run (E.Range lost at) log is (point, f, put) replies counted = puts_made (E.Range lost at) point log is f replies counted put
    puts_run (E.Held at) log is ends replies counted = absurd ends
    puts_run (E.Bad bad) log is (point, f, put) replies counted = puts_made (E.Bad bad) point log is f replies counted put
    puts_run E.WriteFault log is w replies counted = cut_by Whole log is w.pieces w.piece refl w.awaits replies counted w.cuts

pub run_by_log : RunByLog
run_by_log r made log is end o c = puts_run r c.sound c.plan c.machines c.ignore o end log is c.ends (made_replies r made log c.making c.replies) c.counted
