-- An agreed step of a run: what it needs of the slots, where it leads the run, and where it leaves the slots.
use Rattle.std.proofs.Common.{◌≡◌, ℕ, ℤ, ◌-◌, ◌<◌, ◌≤◌, nat_lt, true, false, List, [], ◌++◌, Option, Some, None, Result, Ok, Err, refl, sym, ap, ◌∙◌, subst, arith, append-nil, append_assoc, is_some, length, get_or}
use Rattle.std.specs.Prelude.{All, slice_get}
use Rattle.std.proofs.lemmas.Bool.Decides.{nat_tests}
use Rattle.std.proofs.lemmas.List.{length-map, get_or_default}
use Rattle.std.proofs.lemmas.Option.{slice_get-get_or}
use Rattle.value_types.specs.declared.shape.Shape.{Shape}
use Rattle.fmi_calls.specs.declared.call.Call.TheVariants as C
use Rattle.fmu_peer.specs.declared.slot.Slot.{Slot}
use Rattle.fmu_peer.specs.declared.peer.Exchange.{Exchange}
use Rattle.fmu_peer.specs.CloseAll.{Instance, instance_in, peer_in}
use Rattle.fmu_peer.specs.View.{View}
use Rattle.system_model.specs.EarlyReturn.{early_count}
use Rattle.system_model.specs.declared.system.Component.{Component}
use Rattle.system_model.proofs.CallerLemmas.{all_at}
use Rattle.run_model.specs.Stepping.{asked_first}
use Rattle.system_model.specs.Text.{Instant}
use Rattle.slot_calls.specs.Log.{Has, Sent, part}
use Rattle.slot_calls.specs.Slots.{instances}
use Rattle.slot_calls.specs.Stage.{IsAnswered, shapes, shapes_of}
use Rattle.slot_calls.proofs.CallerLemmas.{map_at, shape_of, talks_fixed}
use Rattle.step_agreement.specs.Agreement.{Meets, Unfit}
use Rattle.step_agreement.specs.Saving.{is_saved}
use Rattle.rollback.specs.declared.step_end.Agreed.{Agreed}
use Rattle.rollback.specs.declared.step_end.StepEnd.{StepEnd}
use Rattle.rollback.specs.declared.step_end.StepEnd.TheVariants.{Bad, FixedStep}
use Rattle.rollback.specs.Asked.{MayBeSaved}
use Rattle.rollback.specs.Standing.{HasStepped, IsReady}
use Rattle.rollback.specs.StepsBy as S
use Rattle.rollback.specs.StepsBy.{Done, FreesBadly, SavesBadly, StepsBadly, StepsBy, StepsOver, StopsShort, Unfitted, some_ask_from}
use Rattle.calling_sequence.specs.declared.experiment.Experiment.{Experiment}
use Rattle.calling_sequence.specs.declared.run_end.RunEnd.TheVariants as E
use Rattle.calling_sequence.specs.Calls.{first_unfit, saving}
use Rattle.calling_sequence.specs.Course.{Agreed as AgreedAt, Agreeing, CourseIn, Departing, Extent, Frees, IsWithin, LeadsTo, MayLeave, On, Place, Saved, Saves, Short, Spot, Stopping, Way, part_at, shown}
use Rattle.calling_sequence.specs.Ends.{AtShort, Badly, FinishesIn, Well, end_of_step}
use Rattle.calling_sequence.specs.StageOutcomes.{StepsFrom, stepped_to}
use Rattle.calling_sequence.specs.Parts.{AllAgree, Does}
use Rattle.calling_sequence.specs.Place.{IsDeparting, IsStepping}
use Rattle.calling_sequence.specs.Ready.{Ready}
use Rattle.calling_sequence.proofs.Chains.{part_all}
use Rattle.calling_sequence.proofs.Onto.{off_far, on_far}
use Rattle.calling_sequence.proofs.Phases.{room_on}
use Rattle.calling_sequence.proofs.Sizes.{there_is, unfit_is}
use Rattle.calling_sequence.proofs.Stages.{still_so}
use Rattle.calling_sequence.proofs.Staying.{AreOfStep, IsOfStep, agreement_of_step, joined, round_of_step, talks_stay}

-- ---- where it leads the run

-- a part after which no instant stands
part_on : (e : Experiment) (extent : Extent) (p q : Place) (values : List (Option ℤ)) (prefix more : List Sent) (is : List Instant) → Does e.system (part_at e.system e.bound e.plan p) values more → LeadsTo e.system e.plan p values more q → IsWithin extent q → shown q ≡ [] → CourseIn e.system e.bound e.plan extent p prefix is → CourseIn e.system e.bound e.plan extent q (prefix ++ more) is
part_on e extent p q values prefix more is does leads within quiet course =
    subst (λ (l : List Instant). CourseIn e.system e.bound e.plan extent q (prefix ++ more) l) (ap (λ (l : List Instant). is ++ l) quiet ∙ append-nil is) (On p q values prefix more is course does leads within)

module _ (e : Experiment) (extent : Extent) (s : Spot) (may : MayLeave extent s.t) (bound : ℕ) where
  abbrev w : Way
  w = record { s = s; to = bound }

  abbrev Comes : Place → List Sent → Type 0
  Comes q more = (prefix : List Sent) (is : List Instant) → CourseIn e.system e.bound e.plan extent (Departing w) prefix is → CourseIn e.system e.bound e.plan extent q (prefix ++ more) is

  abbrev Steps : List Sent → Result Agreed StepEnd → Type 0
  Steps log r = StepsBy s.t e.plan.step bound (shapes_of e.system) log r

  -- the states were saved
  saved_on : (saves : List Sent) → IsAnswered (shapes_of e.system) (saving e.system) saves → Comes (Saved w) saves
  saved_on saves a prefix is course = part_on e extent (Departing w) (Saved w) [] prefix saves is a (Saves w [] saves) tt refl course

  -- they were, and all came to one point
  agreed_on : (saves agreed : List Sent) (m : ℕ) → IsAnswered (shapes_of e.system) (saving e.system) saves → AllAgree e.system s.t e.plan.step bound agreed (Meets m) →
      Comes (AgreedAt w m (some_ask_from 0 (shapes_of e.system) agreed)) (saves ++ agreed)
  agreed_on saves agreed m a agrees prefix is course =
      let q = AgreedAt w m (some_ask_from 0 (shapes_of e.system) agreed) in
      subst (λ (l : List Sent). CourseIn e.system e.bound e.plan extent q l is) (append_assoc prefix saves agreed)
      (part_on e extent (Saved w) q [] (prefix ++ saves) agreed is (Meets m, tt, agrees) (Agreeing w [] agreed m (some_ask_from 0 (shapes_of e.system) agreed) agrees refl) tt refl (saved_on saves a prefix is course))

  short_on : (saves agreed : List Sent) (i end : ℕ) → IsAnswered (shapes_of e.system) (saving e.system) saves → AllAgree e.system s.t e.plan.step bound agreed (Unfit i end) → Comes (Short w i end) (saves ++ agreed)
  short_on saves agreed i end a agrees prefix is course =
      subst (λ (l : List Sent). CourseIn e.system e.bound e.plan extent (Short w i end) l is) (append_assoc prefix saves agreed)
      (part_on e extent (Saved w) (Short w i end) [] (prefix ++ saves) agreed is (Unfit i end, tt, agrees) (Stopping w [] agreed i end agrees) tt refl (saved_on saves a prefix is course))

  -- a step that is made
  pub lands : (agreed : Agreed) (log : List Sent) → Steps log (Ok agreed) → Comes (stepped_to s agreed) log
  lands agreed log (Unfitted i unfit none is) = absurd (cc)
  lands agreed log (SavesBadly bad fits fails is) = absurd (cc)
  lands agreed log (StopsShort i end saves is) = absurd (cc)
  lands agreed log (StepsBadly bad saves is) = absurd (cc)
  lands agreed log (FreesBadly bad m frees saves fails is) = absurd (cc)
  lands agreed log (Done m frees saves freed is) = λ prefix is_shown course.
      let asked = some_ask_from 0 (shapes_of e.system) saves.agreed in
      let same : record { point = m; asked = asked } ≡ agreed = cc in
      let whole : prefix ++ log ≡ (prefix ++ (saves.saves ++ saves.agreed)) ++ frees =
      ap (λ (l : List Sent). prefix ++ l) (saves.log_is ∙ sym (append_assoc saves.saves saves.agreed frees)) ∙ sym (append_assoc prefix (saves.saves ++ saves.agreed) frees) in
      subst (λ (a : Agreed). CourseIn e.system e.bound e.plan extent (stepped_to s a) (prefix ++ log) is_shown) same
      (subst (λ (l : List Sent). CourseIn e.system e.bound e.plan extent (stepped_to s (record { point = m; asked = asked })) l is_shown) (sym whole)
      (part_on e extent (AgreedAt w m asked) (stepped_to s (record { point = m; asked = asked })) [] (prefix ++ (saves.saves ++ saves.agreed)) frees is_shown freed (Frees w m asked [] frees) tt refl
      (agreed_on saves.saves saves.agreed m saves.saved saves.agrees prefix is_shown course)))

  abbrev Ends : StepEnd → List Sent → Type 0
  Ends end log = (prefix : List Sent) (is : List Instant) → CourseIn e.system e.bound e.plan extent (Departing w) prefix is → FinishesIn e.system e.bound e.plan extent (end_of_step end) s.t (prefix ++ log) is

  ends_as : (end other : StepEnd) (log : List Sent) → (let r : Result Agreed StepEnd = Err end in r ≡ Err other) → Ends other log → Ends end log
  ends_as end other log is h = let same : other ≡ end = cc in subst (λ (x : StepEnd). Ends x log) same h

  -- and one that isn't
  pub stops : first_unfit e.system e.plan (bound - s.t) ≡ None → (end : StepEnd) (log : List Sent) → Steps log (Err end) → Ends end log
  stops fit end log (Unfitted i unfit none is) = let fits = unfit_is e.system e.plan s.t (bound - s.t) ∙ fit in absurd (cc)
  stops fit end log (SavesBadly bad fits fails is) = ends_as end (Bad bad) log is (λ prefix shown_is course. Badly (Departing w) bad prefix log shown_is course fails)
  stops fit end log (StopsShort i to saves is) = ends_as end (FixedStep (record { 0 = i }) s.t to) log is (λ prefix shown_is course.
      subst (λ (l : List Sent). FinishesIn e.system e.bound e.plan extent (E.FixedStep (record { 0 = i }) s.t to) s.t (prefix ++ l) shown_is) (sym (saves.log_is ∙ ap (λ (l : List Sent). saves.saves ++ l) (append-nil saves.agreed)))
      (Well (Short w i to) (E.FixedStep (record { 0 = i }) s.t to) (prefix ++ (saves.saves ++ saves.agreed)) shown_is (short_on saves.saves saves.agreed i to saves.saved saves.agrees prefix shown_is course) (AtShort w (record { 0 = i }) to) may))
  stops fit end log (StepsBadly bad saves is) = ends_as end (Bad bad) log is (λ prefix shown_is course.
      subst (λ (l : List Sent). FinishesIn e.system e.bound e.plan extent (E.Bad bad) s.t l shown_is)
      (append_assoc prefix saves.saves saves.agreed ∙ sym (ap (λ (l : List Sent). prefix ++ l) (saves.log_is ∙ ap (λ (l : List Sent). saves.saves ++ l) (append-nil saves.agreed))))
      (Badly (Saved w) bad (prefix ++ saves.saves) saves.agreed shown_is (saved_on saves.saves saves.saved prefix shown_is course) saves.agrees))
  stops fit end log (FreesBadly bad m frees saves fails is) = ends_as end (Bad bad) log is (λ prefix shown_is course.
      let asked = some_ask_from 0 (shapes_of e.system) saves.agreed in
      let whole : prefix ++ log ≡ (prefix ++ (saves.saves ++ saves.agreed)) ++ frees =
      ap (λ (l : List Sent). prefix ++ l) (saves.log_is ∙ sym (append_assoc saves.saves saves.agreed frees)) ∙ sym (append_assoc prefix (saves.saves ++ saves.agreed) frees) in
      subst (λ (l : List Sent). FinishesIn e.system e.bound e.plan extent (E.Bad bad) s.t l shown_is) (sym whole)
      (Badly (AgreedAt w m asked) bad (prefix ++ (saves.saves ++ saves.agreed)) frees shown_is (agreed_on saves.saves saves.agreed m saves.saved saves.agrees prefix shown_is course) fails))
  stops fit end log (Done m frees saves freed is) = absurd (cc)

-- ---- what it needs of the slots, and where it leaves them

module _ {L : Type 0} {g : _} (view : L → View) (e : Experiment) (t : ℕ) (olds : List (Slot L g)) (ready : Ready view e (IsDeparting t) olds) where
  abbrev seen : Slot L g → View
  seen s = view (peer_in s.held)

  pub are_ready : (bound : ℕ) → bound ≤ e.plan.stop → All (IsReady view t bound e.plan.step) olds
  are_ready bound within = λ k d w.
      let live = ready.live k d w in
      let h = ready.stand k d w in
      let none : is_some (get_or olds k d).saved ≡ false = live.token ∙ h.there.empty in
      record {
        placed = record {
          live = live.held;
          stands = record {
            state = h.state;
            stop = let is = h.there.stop_is in omega (arith, is, within);
            sized = h.there.sized;
            full = sym live.token;
            saved = λ q. absurd (let wrong : true ≡ false = sym q ∙ none in cc);
            may_save = λ q. absurd (let wrong : true ≡ false = sym q ∙ none in cc);
            unset = λ away. absurd (away h.there.point);
          };
        };
        unsaved = none;
        at = h.there.point;
      }

  -- the shape of a slot's FMU is that of its component
  record Own (k : ℕ) (shape : Shape) : Type 0 where
    component : Component
    at : slice_get e.system.components k ≡ Some component
    is : shape ≡ component.shape

  abbrev shape_in : Component → Shape
  shape_in c = c.shape

  abbrev own_shapes : List Shape
  own_shapes = shapes (instances view olds)

  counted : length olds ≡ length own_shapes
  counted = sym (length-map (instances view olds) shape_of ∙ length-map olds (λ s. instance_in view s))

  shape_here : (k : ℕ) (d : Slot L g) → k < length olds → (seen (get_or olds k d)).fixed.shape ≡ get_or own_shapes k (seen (get_or olds k d)).fixed.shape
  shape_here k d within =
      let s = get_or olds k d in
      let x : Instance = instance_in view s in
      let inside : k < length (instances view olds) = let m = length-map olds (λ s. instance_in view s) in omega (arith, m, within) in
      map_at shape_of (instances view olds) k x x.view.fixed.shape inside (map_at (λ s. instance_in view s) olds k s x within (get_or_default olds k d s within))

  own : (k : ℕ) (d : Slot L g) → k < length olds → Own k (seen (get_or olds k d)).fixed.shape
  own k d within =
      let x = (seen (get_or olds k d)).fixed.shape in
      let inside : k < length e.system.components = let n = counted in let m = ap length ready.shapes_are in let l = length-map e.system.components shape_in in omega (arith, n, m, l, within) in
      let c = there_is e.system.components k inside in
      record {
        component = c.0;
        at = slice_get-get_or e.system.components k c.0 inside ∙ ap Some (sym c.1);
        is = shape_here k d within ∙ ap (λ (ss : List Shape). get_or ss k x) ready.shapes_are ∙ get_or_default (shapes_of e.system) k x c.0.shape (let l = length-map e.system.components shape_in in omega (arith, l, inside)) ∙ sym (map_at shape_in e.system.components k c.0 c.0.shape inside c.1);
      }

  pub may_be_saved : All (MayBeSaved view (early_count (shapes (instances view olds)))) olds
  may_be_saved = λ k d within h.
      let here = own k d within in
      let two : 1 < early_count (shapes_of e.system) = subst (λ (ss : List Shape). 1 < early_count ss) ready.shapes_are (is_more 1 (early_count own_shapes) h) in
      ap (λ (s : Shape). s.can_save_state) here.is
      ∙ all_at (λ (c : Component). c.shape.can_save_state ≡ true) e.system.components k here.component (ready.may.sound.components.saved two) here.at where
        is_more : (a b : ℕ) → nat_lt a b ≡ true → a < b
        is_more a b q = grind (arith, nat_tests)

  -- after a step that is made
  module _ (bound : ℕ) (agreed : Agreed) (news : List (Slot L g)) (o : StepsOver view t e.plan.step bound olds news (Ok agreed)) where
    of_step : AreOfStep o.log
    of_step = by o.steps where
      by : StepsBy t e.plan.step bound own_shapes o.log (Ok agreed) → AreOfStep o.log
      by (Unfitted i unfit none is) = absurd (cc)
      by (SavesBadly bad fits fails is) = absurd (cc)
      by (StopsShort i end saves is) = absurd (cc)
      by (StepsBadly bad saves is) = absurd (cc)
      by (FreesBadly bad m frees saves fails is) = absurd (cc)
      by (Done m frees saves freed is) =
          subst AreOfStep (sym saves.log_is)
          (joined saves.saves (saves.agreed ++ frees) (round_of_step (is_saved (early_count own_shapes)) C.Save tt own_shapes saves.saves saves.saved.calls_are)
          (joined saves.agreed frees (agreement_of_step t e.plan.step bound (asked_first (early_count own_shapes)) (S.all_at t own_shapes) saves.agreed m saves.agrees) (round_of_step (is_saved (early_count own_shapes)) C.Free tt own_shapes frees freed.calls_are)))

    stands_there : (x y : Slot L g) (es : List Exchange) → IsDeparting t e.plan.stop e.plan.step (seen x) → Has (instance_in view x) es (instance_in view y) → All (λ (z : Exchange). IsOfStep z.call) es → HasStepped view agreed.point e.plan.step y → IsStepping agreed.point e.plan.stop e.plan.step (seen y)
    stands_there x y es h has all s =
        let stays = talks_stay (seen x) (seen y) es has.talks all in
        record {
          departing = record {
            there = record {
              point = s.ready.at;
              stop_is = stays.stop_is ∙ h.there.stop_is;
              sized = s.ready.placed.stands.sized;
              empty = s.ready.placed.stands.full ∙ s.ready.unsaved;
              room = room_on (seen x) (seen y) (talks_fixed (seen x) es (seen y) has.talks) stays.active h.there.room;
            };
            state = s.ready.placed.stands.state;
          };
          unset = s.unset;
        }

    pub have_stepped : All (HasStepped view agreed.point e.plan.step) news → Ready view e (IsStepping agreed.point) news
    have_stepped all =
        still_so view e (IsDeparting t) olds news ready (IsStepping agreed.point) o.log o.told
        (λ k d within. let s = (all k d within).ready in record { held = s.placed.live; token = sym s.placed.stands.full })
        (λ k d within.
        let n = length-map news (λ s. instance_in view s) in let m = length-map olds (λ s. instance_in view s) in let t_len = o.told.len in
        let w_old : k < length olds = omega (arith, n, m, t_len, within) in
        let in_olds : k < length (instances view olds) = omega (arith, m, w_old) in
        let x = get_or olds k d in
        let y = get_or news k d in
        let x_is : instance_in view x ≡ get_or (instances view olds) k (instance_in view x) = map_at (λ s. instance_in view s) olds k x (instance_in view x) w_old (get_or_default olds k d x w_old) in
        let y_is : instance_in view y ≡ get_or (instances view news) k (instance_in view x) = map_at (λ s. instance_in view s) news k y (instance_in view x) within (get_or_default news k d y within) in
        let has : Has (instance_in view x) (part k o.log) (instance_in view y) =
        subst (λ (i : Instance). Has i (part k o.log) (instance_in view y)) (sym x_is) (subst (λ (i : Instance). Has (get_or (instances view olds) k (instance_in view x)) (part k o.log) i) (sym y_is) (o.told.each k (instance_in view x) in_olds)) in
        stands_there x y (part k o.log) (ready.stand k d w_old) has (part_all (λ i z. IsOfStep z.call) k o.log of_step) (all k d within))

  -- ---- the stage

  module _ (bound : ℕ) (news : List (Slot L g)) (s : Spot) (count : ℕ) where
    abbrev here : Spot
    here = record s { t = t }

    abbrev start : Place
    start = Departing (record { s = record s { t = t }; to = bound })

    steps_as : (r : Result Agreed StepEnd) → (o : StepsOver view t e.plan.step bound olds news r) → StepsBy t e.plan.step bound (shapes_of e.system) o.log r
    steps_as r o = subst (λ (ss : List Shape). StepsBy t e.plan.step bound ss o.log r) ready.shapes_are o.steps

    pub crosses_well : (agreed : Agreed) → StepsOver view t e.plan.step bound olds news (Ok agreed) → StepsFrom e t start (stepped_to s) (instances view olds) (instances view news) count count (Ok agreed)
    crosses_well agreed o = λ v starts past may h. on_far e starts past start (instances view olds) (instances view news) v count h o.log o.told (stepped_to s agreed) (lands e past.extent here may bound agreed o.log (steps_as (Ok agreed) o))

    pub crosses_badly : first_unfit e.system e.plan (bound - t) ≡ None → (end : StepEnd) → StepsOver view t e.plan.step bound olds news (Err end) → StepsFrom {T = Agreed} e t start (stepped_to s) (instances view olds) (instances view news) count count (Err (record { end = end_of_step end; point = t }))
    crosses_badly fit end o = λ v starts past may h. off_far e starts past start (instances view olds) (instances view news) v count h o.log o.told (end_of_step end) t (stops e past.extent here may bound fit end o.log (steps_as (Err end) o))
