-- From the first call of each peer to its closing.
use Rattle.std.proofs.Common.{◌≡◌, inl, inr, ℕ, zero, suc, ◌<◌, ◌≤◌, refl, Bool, true, false, List, [], ◌∷◌, ◌++◌, Option, Some, None, Result, sym, ap, ◌∙◌, subst, arith, length, get_or, map, take, drop}
use Rattle.std.specs.Prelude.{All, ◌||◌}
use Rattle.std.specs.List.{list_any, slice_get}
use Rattle.std.specs.Option.{option_map}
use Rattle.std.specs.Result.{is_err}
use Rattle.std.proofs.lemmas.List.{length-map, get_or-take, length-take}
use Rattle.std.proofs.lemmas.List.Elements.{All-map}
use Rattle.std.proofs.lemmas.List.Folds.{list_any-append}
use Rattle.std.proofs.Math.Bool.{or-true}
use Rattle.std.proofs.lemmas.Option.{get_or_from_slice_get, slice_get-get_or, slice_get-map, slice_get_within}
use Rattle.std.proofs.lemmas.Simd.{map-map}
use Rattle.sim_base.specs.Causes.{Rose}
use Rattle.value_types.specs.declared.shape.Shape.{Shape}
use Rattle.fmi_calls.specs.declared.call.Reply.{Reply}
use Rattle.fmu_peer.specs.declared.peer.Exchange.{Exchange}
use Rattle.fmu_peer.specs.declared.peer.PeerFault.{PeerFault}
use Rattle.fmu_peer.specs.declared.ended.Why.{Why}
use Rattle.fmu_peer.specs.declared.ended.Why.TheVariants.{Link}
use Rattle.fmu_peer.specs.Answer.{IsFirstBad, IsLink, IsWhy}
use Rattle.fmu_peer.specs.CloseAll.{ClosesOne, Closing, InOrder, Instance, afters, befores, is_source_lost}
use Rattle.fmu_peer.specs.Talk as T
use Rattle.fmu_peer.specs.Updates.{AreUpdatesNeeded}
use Rattle.fmu_peer.specs.View.{View, without_machine}
use Rattle.sim_base.specs.Sink.{SinkView}
use Rattle.system_model.specs.EarlyReturn.{early_count}
use Rattle.system_model.specs.declared.bound.Bound.{Bound}
use Rattle.system_model.specs.declared.plan.Plan.{Plan}
use Rattle.system_model.specs.declared.system.Component.{Component}
use Rattle.system_model.specs.declared.system.Port.{Port}
use Rattle.system_model.specs.declared.system.Role.{Role}
use Rattle.system_model.specs.declared.system.Role.TheVariants.{Input, Output, ClockInput, ClockOutput, TimeClock}
use Rattle.system_model.specs.declared.system.System.{System}
use Rattle.system_model.specs.declared.system.Timing.TheVariants.{Periodic, Answered, Countdown, Changing}
use Rattle.system_model.specs.declared.plan.EndKind.TheVariants as K
use Rattle.system_model.specs.Bounds.{BindsParameters}
use Rattle.system_model.specs.Shapes.{IsSoundShape}
use Rattle.system_model.specs.Sound.{IsSound}
use Rattle.system_model.specs.Text.{end_text}
use Rattle.run_model.specs.Run.{Once}
use Rattle.system_checkpoint.specs.declared.snapshot.Arming.{Arming}
use Rattle.system_checkpoint.specs.declared.snapshot.ClockTimes.{ClockTimes}
use Rattle.system_checkpoint.specs.declared.snapshot.Snapshot.{Snapshot}
use Rattle.system_checkpoint.specs.Spelling.{AllBy, CanBeHeld, IsState}
use Rattle.slot_calls.specs.Keeping.{without_machines}
use Rattle.slot_calls.specs.declared.bad_answer.BadAnswer.{BadAnswer}
use Rattle.slot_calls.specs.Log.{Has, Sent, Told, part}
use Rattle.slot_calls.specs.SavedStates.{IsParted, LeavesState, Talk, last_step}
use Rattle.slot_calls.specs.Stage.{shapes, shapes_of}
use Rattle.slot_calls.proofs.CallerLemmas.{last_on, told_on, told_without}
use Rattle.calling_sequence.specs.declared.experiment.Experiment.{Experiment}
use Rattle.calling_sequence.specs.Course.{Spot}
use Rattle.calling_sequence.specs.Holding.{Back, HoldsWith, NotBack, PutsPiece, ResumesSlots, spot_in, timer_by, timers_by}
use Rattle.calling_sequence.specs.Plans.{CountsBy}
use Rattle.calling_sequence.specs.declared.run_end.RunEnd.{RunEnd}
use Rattle.calling_sequence.specs.declared.run_end.RunEnd.TheVariants as E
use Rattle.calling_sequence.specs.Ends.{EndsBy}
use Rattle.course_laws.specs.Laws.{AnswersAre, AreNeeded, AreTalks, EndAs, FirstBadAnswer, GoesOneWay, GoesWith, IsFirstBadOf, IsStateless, NoCallTwice, NothingSaved, StatesAreLeft, UpdatesAskedFor}
use Rattle.fmu_peer.specs.Talk.{calls_in}
use Rattle.course_laws.specs.Runs.{AreArmable, BackBadly, Comes, ComesAnyhow, EndsCome, HoldsCome, IsArmable, MayBack, RestsCome, TellsEnd, Unmade, Wholly}
use Rattle.step_master.specs.Holding as H
use Rattle.step_master.specs.Holding.{PreparesRest}
use Rattle.step_master.specs.Sessions.{Account, FailedStartIsClosed, HistoriesAreOver, HoldIsSession, ResumedIsSession, ResumedSession, RunIsSession, experiment_in, resumed_log}
use Rattle.step_master.specs.Histories.{AreGood, ArePeerHistories, AreUnsaved, EndsHistories, IsLeastBad, IsPeerHistory, PeerHistory, is_spared, is_unanswered, shape_in, talk_in, talks_in}
use Rattle.step_master.specs.Master.{Closes, Standing}
use Rattle.step_master.specs.FreshInstances.{fresh_instances, views_of}
use Rattle.step_master.specs.System.{ArePeersOf}
use Rattle.step_master.proofs.Living.{IsRow, Row, at_turn, history_of, is_history, row_at, row_closed, row_parted, row_plain, row_siblings, rows_from, sides_are, turn_open}
use Rattle.step_master.proofs.Leaving.{closed_over}
use Rattle.step_master.proofs.WithoutMachines.{closes_without, fresh_without, peers_without}
use Rattle.step_master.proofs.Parted.{closing_steps, turn_closes}
use Rattle.step_master.proofs.FreshLemmas.{IsFreshInstance, are_fresh, sources_fresh}
use Rattle.step_master.proofs.CallerLemmas.{fresh_shapes, got, length_fresh, unmapped, views_fresh}

-- what a mapped list has at a place
mapped : {A B : Type 0} (f : A → B) (xs : List A) (k : ℕ) (x : A) → slice_get xs k ≡ Some x → slice_get (map f xs) k ≡ Some (f x)
mapped f xs k x is = slice_get-map f xs k ∙ ap (option_map f) is

-- who can put a state as bytes can save it
abbrev SavesAsBytes : Shape → Type 0
SavesAsBytes shape = shape.can_serialize_state ≡ true → shape.can_save_state ≡ true

sound_saves : (system : System) → IsSound system → (k : ℕ) (d : Shape) → k < length system.components → SavesAsBytes (get_or (shapes_of system) k d)
sound_saves system sound k d w =
    (All-map IsSoundShape (λ (c : Component). c.shape) system.components sound.components.shapes k d (let e = length-map system.components (λ (c : Component). c.shape) in omega (arith, e, w))).serialized

-- a log whose calls are needed, and whose Updates are asked for
module _ (system : System) (olds : List View) (peers : ArePeersOf system olds) (log : List Sent) (mids : List Instance) (news : List View) (told : Told log (fresh_instances system.components olds) mids) (closes : Closes mids news)
    (needed : (k : ℕ) → k < length system.components → AreNeeded (calls_in (part k log))) (updates : (talks : List (List Exchange)) → AreTalks (length system.components) log talks → AreUpdatesNeeded talks)
    (left : (talks : List Talk) → EndAs system log talks → (k : ℕ) (d : Shape) → k < length system.components → LeavesState talks (get_or (shapes_of system) k d) (part k log))
    (can : (k : ℕ) (d : Shape) → k < length system.components → SavesAsBytes (get_or (shapes_of system) k d)) (way : (resumed : Bool) × ((k : ℕ) → All (GoesWith resumed) (calls_in (part k log)))) where
  abbrev closings : List Closing
  closings = closes.closes.closings

  abbrev fresh_slots : List Instance
  fresh_slots = fresh_instances system.components olds

  len_fresh : length fresh_slots ≡ length system.components
  len_fresh = length_fresh system.components olds (sym peers.len) ∙ peers.len

  beside : length closings ≡ length fresh_slots
  beside = sym (length-map closings (λ (c : Closing). c.old)) ∙ sym (ap length closes.closes.old_is) ∙ told.len

  abbrev rows : List Row
  rows = rows_from 0 fresh_slots closings

  abbrev pub histories : List PeerHistory
  histories = map (history_of log) rows

  abbrev talks : List Talk
  talks = talks_in histories

  len_rows : length rows ≡ length system.components
  len_rows = sym (length-map rows (λ (r : Row). r.slot)) ∙ ap length (sides_are 0 fresh_slots closings beside).0 ∙ len_fresh

  row_here : (k : ℕ) → k < length system.components → (row : Row) × (slice_get rows k ≡ Some row)
  row_here k w = got rows k (let e = len_rows in omega (arith, e, w))

  -- the run of a place, by what holds of its part for its shape
  run_by : (P : Shape → List Exchange → Type 0) (k : ℕ) (row : Row) → slice_get rows k ≡ Some row → ((d : Shape) → P (get_or (shapes_of system) k d) (part k log)) → P (shape_in (history_of log row)) (history_of log row).run
  run_by P k row at h =
      let r = row_at 0 fresh_slots closings k row at in
      let shape = shape_in (history_of log row) in
      let shape_is : get_or (shapes_of system) k shape ≡ shape =
      ap (λ (l : List Shape). get_or l k shape) (sym (fresh_shapes system olds peers))
      ∙ get_or_from_slice_get (shapes fresh_slots) k shape shape (mapped (λ (i : Instance). i.view.fixed.shape) fresh_slots k row.slot r.slot) in
      subst (λ (s : Shape). P s (part row.number log)) shape_is
      (subst (λ (n : ℕ). P (get_or (shapes_of system) k shape) (part n log)) (sym (r.number ∙ omega arith)) (h shape))

  -- the talks end with the steps of their runs
  ends_as : EndAs system log talks
  ends_as = record {
    shapes = map-map (λ (t : Talk). t.shape) (λ (l : PeerHistory). record { shape = shape_in l; exchanges = talk_in l }) histories ∙ map-map shape_in (history_of log) rows
        ∙ sym (map-map (λ (i : Instance). i.view.fixed.shape) (λ (r : Row). r.slot) rows) ∙ ap shapes (sides_are 0 fresh_slots closings beside).0 ∙ fresh_shapes system olds peers;
    steps = λ k d w.
        let x = row_here k w in
        let r = row_at 0 fresh_slots closings k x.0 x.1 in
        let one : (b : Bool) × ClosesOne b x.0.closing = (_, at_turn talks log [] closings k x.0.closing closes.closes.order r.closing) in
        ap (λ (t : Talk). last_step None t.exchanges) (get_or_from_slice_get talks k (record { shape = shape_in (history_of log x.0); exchanges = talk_in (history_of log x.0) }) d
        (mapped (λ (l : PeerHistory). record { shape = shape_in l; exchanges = talk_in l }) histories k (history_of log x.0) (mapped (history_of log) rows k x.0 x.1)))
        ∙ last_on None (part x.0.number log) x.0.closing.sent
        ∙ closing_steps x.0.closing.old.has_saved x.0.closing.sent (last_step None (part x.0.number log)) (turn_closes one.0 x.0.closing.old.has_saved x.0.closing.old.view x.0.closing.sent x.0.closing.new.view one.1.turn)
        ∙ ap (λ (n : ℕ). last_step None (part n log)) (r.number ∙ omega arith);
  }

  row_is : (n : ℕ) (row : Row) → slice_get rows n ≡ Some row → IsRow talks log row
  row_is n row at =
      let r = row_at 0 fresh_slots closings n row at in
      let number : n ≡ row.number = (let e = r.number in omega (arith, e)) in
      let inside = slice_get_within fresh_slots n row.slot r.slot in
      let d = row.closing.old in
      let mid : get_or mids n d ≡ d = ap (λ (l : List Instance). get_or l n d) closes.closes.old_is
      ∙ get_or_from_slice_get (befores closings) n d d (mapped (λ (c : Closing). c.old) closings n row.closing r.closing) in
      let has : Has row.slot (part n log) d =
      subst (λ (i : Instance). Has i (part n log) d) (get_or_from_slice_get fresh_slots n row.slot d r.slot) (subst (λ (i : Instance). Has (get_or fresh_slots n d) (part n log) i) mid (told.each n d inside)) in
      let one : (b : Bool) × ClosesOne b row.closing = (_, at_turn talks log [] closings n row.closing closes.closes.order r.closing) in
      let within : n < length system.components = (let e = len_fresh in omega (arith, e, inside)) in
      let need = run_by (λ s es. AreNeeded (calls_in es)) n row at (λ d. needed n within) in
      record {
        new = subst IsFreshInstance (get_or_from_slice_get fresh_slots n row.slot row.slot r.slot) (are_fresh system.components olds peers.each n row.slot inside);
        has = subst (λ (k : ℕ). Has row.slot (part k log) d) number has;
        spared = one.0;
        one = one.1;
        runs = need.runs;
        lean = need.lean;
        leaves = run_by (LeavesState talks) n row at (λ d. left talks ends_as n d within);
        can = run_by (λ s es. SavesAsBytes s) n row at (λ d. can n d within);
        resumed = way.0;
        goes = way.1 row.number;
      }

  all_rows : All (IsRow talks log) rows
  all_rows = λ k d w. row_is k (get_or rows k d) (slice_get-get_or rows k d w)

  order : InOrder [] (map (λ (r : Row). r.closing) rows)
  order = subst (InOrder []) (sym (sides_are 0 fresh_slots closings beside).1) closes.closes.order

  run_is : (k : ℕ) (history : PeerHistory) → slice_get histories k ≡ Some history → (row : Row) × (slice_get rows k ≡ Some row) × (history ≡ history_of log row) × (row.number ≡ k)
  run_is k history at =
      let u = unmapped (history_of log) rows k history at in
      (u.0, u.1, u.2, (let r = row_at 0 fresh_slots closings k u.0 u.1 in r.number ∙ omega arith))

  closed_at : (k : ℕ) (history : PeerHistory) → slice_get histories k ≡ Some history → is_spared histories k history ≡ false → T.Closed (shape_in history) (talk_in history)
  closed_at k history at spare =
      let u = run_is k history at in
      let row = u.0 in
      let r = row_is k row u.1 in
      let cs = map (λ (x : Row). x.closing) rows in
      let turn = at_turn talks log [] cs k row.closing order (mapped (λ (x : Row). x.closing) rows k row u.1) in
      let mine : is_spared histories k (history_of log row) ≡ false = ap (is_spared histories k) (sym u.2) ∙ spare in
      let open_turn : is_source_lost row.closing.old.source (afters (take k cs) ++ befores (drop k cs)) ≡ false =
      ap (λ (n : ℕ). is_source_lost n (afters (take k cs) ++ befores (drop k cs))) r.has.source ∙ turn_open talks log rows all_rows k row.slot.source mine in
      subst (λ (l : PeerHistory). T.Closed (shape_in l) (talk_in l)) (sym u.2)
      (row_closed talks log row r (subst (λ (b : Bool). ClosesOne b row.closing) open_turn turn))

  len_histories : length histories ≡ length system.components
  len_histories = length-map rows (history_of log) ∙ len_rows

  run_at : (k : ℕ) (history : PeerHistory) → slice_get histories k ≡ Some history → history.run ≡ part k log
  run_at k history at = let u = run_is k history at in ap (λ (l : PeerHistory). l.run) u.2 ∙ ap (λ (n : ℕ). part n log) u.3

  talk_at : (k : ℕ) (d : List Exchange) → k < length system.components → get_or (map (λ (l : PeerHistory). l.run) histories) k d ≡ part k log
  talk_at k d w =
      let x = row_here k w in
      let at = mapped (history_of log) rows k x.0 x.1 in
      get_or_from_slice_get (map (λ (l : PeerHistory). l.run) histories) k (history_of log x.0).run d (mapped (λ (l : PeerHistory). l.run) histories k (history_of log x.0) at) ∙ run_at k (history_of log x.0) at

  pub are_histories : ArePeerHistories system olds news log histories
  are_histories = record {
    olds_are = map-map (λ (l : PeerHistory). l.old) (history_of log) rows
        ∙ sym (map-map (λ (i : Instance). i.view) (λ (r : Row). r.slot) rows)
        ∙ ap views_of (sides_are 0 fresh_slots closings beside).0 ∙ views_fresh system.components olds peers.len;
    news_are = map-map (λ (l : PeerHistory). l.new) (history_of log) rows
        ∙ sym (map-map (λ (c : Closing). c.new.view) (λ (r : Row). r.closing) rows)
        ∙ ap (map (λ (c : Closing). c.new.view)) (sides_are 0 fresh_slots closings beside).1
        ∙ sym (map-map (λ (i : Instance). i.view) (λ (c : Closing). c.new) closings)
        ∙ ap views_of (sym closes.closes.new_is) ∙ sym closes.news_are;
    sources_are = map-map (λ (l : PeerHistory). l.source) (history_of log) rows
        ∙ sym (map-map (λ (i : Instance). i.source) (λ (r : Row). r.slot) rows)
        ∙ ap (map (λ (i : Instance). i.source)) (sides_are 0 fresh_slots closings beside).0 ∙ sources_fresh system.components olds peers.len;
    runs_are = run_at;
    each = All-map IsPeerHistory (history_of log) rows (λ k d w. is_history talks log (get_or rows k d) (all_rows k d w));
    siblings = row_siblings talks log rows all_rows order;
    updates = updates (map (λ (l : PeerHistory). l.run) histories) (record { len = length-map histories (λ (l : PeerHistory). l.run) ∙ len_histories; each = talk_at });
    parted = All-map (λ (l : PeerHistory). IsParted talks (shape_in l) l.run l.closing) (history_of log) rows (λ k d w. row_parted talks log (get_or rows k d) (all_rows k d w));
    closed = closed_at;
  }

  pub histories_plain : (early_count (shapes_of system) ≤ 1 → (k : ℕ) → All IsStateless (calls_in (part k log))) → AreUnsaved system histories
  histories_plain plain = λ few. All-map (λ (l : PeerHistory). All IsStateless (calls_in (talk_in l))) (history_of log) rows (λ k d w. row_plain talks log (get_or rows k d) (all_rows k d w) (plain few (get_or rows k d).number))

  -- ---- how they end

  history_here : (k : ℕ) (d : PeerHistory) → k < length histories → (row : Row) × (slice_get rows k ≡ Some row) × (get_or histories k d ≡ history_of log row)
  history_here k d w =
      let x = row_here k (let e = len_histories in omega (arith, e, w)) in
      (x.0, x.1, get_or_from_slice_get histories k (history_of log x.0) d (mapped (history_of log) rows k x.0 x.1))

  abbrev IsGoodLife : PeerHistory → Type 0
  IsGoodLife l = T.AllGood (shape_in l) l.run

  good_histories : AnswersAre (shapes_of system) None log → AreGood histories
  good_histories good = λ k d w.
      let x = history_here k d w in
      subst IsGoodLife (sym x.2) (run_by T.AllGood k x.0 x.1 (λ s. good k s))

  link_lost : (shape : Shape) (why : Why) (e : Exchange) → IsLink why → IsWhy shape why e → is_unanswered e ≡ true
  link_lost shape (Link call fault) e l w = ap (λ (r : Result Reply PeerFault). is_err r) w.1
  link_lost shape why e l w = absurd l

  -- an answer that was lost has raised the count
  lost_rose : (history : PeerHistory) (why : Why) → IsPeerHistory history → IsFirstBad (shape_in history) why history.run → IsLink why → Rose history.old.faults history.new.faults
  lost_rose history why is first l = is.counts.rose
      (list_any-append is_unanswered history.run history.closing
      ∙ ap (λ (b : Bool). b || list_any is_unanswered history.closing) (ap (list_any is_unanswered) first.is ∙ list_any-append is_unanswered first.prefix (first.last ∷ []))
      ∙ ap (λ (b : Bool). (list_any is_unanswered first.prefix || (b || false)) || list_any is_unanswered history.closing) (link_lost (shape_in history) why first.last l first.bad)
      ∙ ap (λ (b : Bool). b || list_any is_unanswered history.closing) (or-true (list_any is_unanswered first.prefix)))

  pub bad_histories : (bad : BadAnswer) → IsFirstBadOf (shapes_of system) bad log → IsLeastBad bad histories
  bad_histories bad b =
      let k = bad.component.0 in
      let within : k < length system.components = (let e = b.within in let f = length-map system.components (λ (c : Component). c.shape) in omega (arith, e, f)) in
      let x = row_here k within in
      let history = history_of log x.0 in
      let first : IsFirstBad (shape_in history) bad.why history.run = run_by (λ (s : Shape) (es : List Exchange). IsFirstBad s bad.why es) k x.0 x.1 b.first in
      record {
        history = history;
        here = mapped (history_of log) rows k x.0 x.1;
        first = first;
        before = λ j d w.
            let short : j < k = (let l = length-take k histories in omega (arith, l, w)) in
            let wide : j < length histories = (let e = len_histories in omega (arith, e, short, within)) in
            let y = history_here j d wide in
            subst IsGoodLife (sym (get_or-take k histories j d short ∙ y.2)) (run_by T.AllGood j y.0 y.1 (λ s. b.before j s short));
        rose = lost_rose history bad.why (is_history talks log x.0 (row_is k x.0 x.1)) first;
      }

  pub ends_histories : (end : RunEnd) (bad : Option BadAnswer) → TellsEnd end bad → AnswersAre (shapes_of system) bad log → EndsHistories end histories
  ends_histories (E.Bad b) bad tells answers = bad_histories b (subst (λ (o : Option BadAnswer). AnswersAre (shapes_of system) o log) tells answers)
  ends_histories E.WriteFault None tells answers = inl (good_histories answers)
  ends_histories E.WriteFault (Some bad) tells answers = inr (bad, bad_histories bad answers)
  ends_histories end bad tells answers = good_histories (subst (λ (o : Option BadAnswer). AnswersAre (shapes_of system) o log) tells answers)

-- ---- the laws, from those of a run's calls

-- ---- where a run stands that is resumed

all_by_length : {A B : Type 0} (P : A → B → Type 0) (xs : List A) (ys : List B) → AllBy P xs ys → length ys ≡ length xs
all_by_length P [] [] all = refl
all_by_length P [] (y ∷ ys) all = absurd all
all_by_length P (x ∷ xs) [] all = absurd all
all_by_length P (x ∷ xs) (y ∷ ys) all = ap suc (all_by_length P xs ys all.1)

pub states_each : (system : System) (held : Snapshot) → CanBeHeld system held → length held.states ≡ length system.components
states_each system held can = all_by_length IsState system.components held.states can.states

-- a timer that is armed is one of a countdown or changing Clock
armed_role : (role : Role) (times : Option ClockTimes) (arming : Arming) (point : ℕ) → timer_by role times arming ≡ Once point → IsArmable role
armed_role (TimeClock (Periodic interval shift)) times arming point e = absurd (cc)
armed_role (TimeClock Answered) None arming point e = absurd (cc)
armed_role (TimeClock Answered) (Some times) arming point e = absurd (cc)
armed_role (TimeClock Countdown) times arming point e = inl refl
armed_role (TimeClock Changing) times arming point e = inr refl
armed_role (Input feed) times arming point e = absurd (cc)
armed_role Output times arming point e = absurd (cc)
armed_role (ClockInput feed) times arming point e = absurd (cc)
armed_role ClockOutput times arming point e = absurd (cc)

armed_among : (ports : List Port) (times : List (Option ClockTimes)) (armings : List Arming) (p : ℕ) (port : Port) (point : ℕ) → slice_get ports p ≡ Some port → slice_get (timers_by ports times armings) p ≡ Some (Once point) → IsArmable port.role
armed_among [] times armings p port point of is = absurd (cc)
armed_among (x ∷ ports) [] armings p port point of is = absurd (cc)
armed_among (x ∷ ports) (t ∷ times) [] p port point of is = absurd (cc)
armed_among (x ∷ ports) (t ∷ times) (a ∷ armings) zero port point of is =
    subst (λ (y : Port). IsArmable y.role) (some_same x port of) (armed_role x.role t a point (some_same (timer_by x.role t a) (Once point) is)) where
      some_same : {X : Type 0} (u v : X) → Some u ≡ Some v → u ≡ v
      some_same u v h = cc
armed_among (x ∷ ports) (t ∷ times) (a ∷ armings) (suc p) port point of is = armed_among ports times armings p port point of is

armed_there : (system : System) (held : Snapshot) → AreArmable system (spot_in system held).timers
armed_there system held p port point of is = armed_among system.ports held.times held.armings p port point of is

-- what was run, by what the master ran
same_experiment : (a : Account) (s : Standing) → s.system ≡ a.system → s.bound ≡ a.bound → s.plan ≡ a.plan → H.experiment_of s ≡ experiment_in a
same_experiment a s system bound plan =
    ap (λ (x : System). make x s.bound s.plan) system ∙ ap (λ (x : Bound). make a.system x s.plan) bound ∙ ap (make a.system a.bound) plan where
      make : System → Bound → Plan → Experiment
      make system bound plan = record { system = system; bound = bound; plan = plan }

module _ (answers : FirstBadAnswer) (once : NoCallTwice) (asked_for : UpdatesAskedFor) (states : StatesAreLeft) (one_way : GoesOneWay) (unsaved : NothingSaved) (ends : EndsCome) (holds : HoldsCome) (rests : RestsCome) where
  -- a log that comes anyhow, of peers that were new
  module _ (system : System) (sound : IsSound system) (bad : Option BadAnswer) (log : List Sent) (come : ComesAnyhow system bad log) (olds : List View) (peers : ArePeersOf system olds) (mids : List Instance) (news : List View) (told : Told log (fresh_instances system.components olds) mids) (closes : Closes mids news) where
    needed : (k : ℕ) → k < length system.components → AreNeeded (calls_in (part k log))
    needed = once system bad log sound come

    updates : (talks : List (List Exchange)) → AreTalks (length system.components) log talks → AreUpdatesNeeded talks
    updates talks are = asked_for system bad log talks sound come are

    left : (talks : List Talk) → EndAs system log talks → (k : ℕ) (d : Shape) → k < length system.components → LeavesState talks (get_or (shapes_of system) k d) (part k log)
    left talks are = states system bad log talks sound come are

    abbrev all : List PeerHistory
    all = histories system olds peers log mids news told closes needed updates left (sound_saves system sound) (one_way system bad log sound come)

    are_all : ArePeerHistories system olds news log all
    are_all = are_histories system olds peers log mids news told closes needed updates left (sound_saves system sound) (one_way system bad log sound come)

    all_plain : Comes system bad log → AreUnsaved system all
    all_plain whole = histories_plain system olds peers log mids news told closes needed updates left (sound_saves system sound) (one_way system bad log sound come) (unsaved system bad log sound whole)

    ends_all : (end : RunEnd) → TellsEnd end bad → EndsHistories end all
    ends_all end tells = ends_histories system olds peers log mids news told closes needed updates left (sound_saves system sound) (one_way system bad log sound come) end bad tells (answers system bad log sound come)

    least_all : (b : BadAnswer) → bad ≡ Some b → IsLeastBad b all
    least_all b is = bad_histories system olds peers log mids news told closes needed updates left (sound_saves system sound) (one_way system bad log sound come) b
        (subst (λ (o : Option BadAnswer). AnswersAre (shapes_of system) o log) is (answers system bad log sound come))

    -- the end is that of what was to be put, or its put failed
    ends_put : (outcome : RunEnd) (piece : List ℕ) (before after : SinkView) (end : RunEnd) → TellsEnd outcome bad → PutsPiece outcome piece before after end → EndsHistories end all
    ends_put outcome piece before after end tells (inl (is, put)) = subst (λ (e : RunEnd). EndsHistories e all) (sym is) (ends_all outcome tells)
    ends_put outcome piece before after end tells (inr (is, cut)) = subst (λ (e : RunEnd). EndsHistories e all) (sym is) (ends_all E.WriteFault tt)

  pub run_is_session : RunIsSession
  run_is_session a ready done sound binds counts peers prepares runs closes count =
      let text : EndsBy a.system a.bound a.plan runs.log runs.is a.end a.before a.after =
      subst (λ (s : System). EndsBy s a.bound a.plan runs.log runs.is a.end a.before a.after) prepares.system_is
      (subst (λ (x : Bound). EndsBy ready.system x a.plan runs.log runs.is a.end a.before a.after) prepares.bound_is
      (subst (λ (p : Plan). EndsBy ready.system ready.bound p runs.log runs.is a.end a.before a.after) prepares.plan_is runs.ends)) in
      let log = prepares.log ++ runs.log in
      let told : Told log (fresh_instances a.system.components a.olds) done.instances =
      told_on (fresh_instances a.system.components a.olds) ready.instances done.instances prepares.log runs.log prepares.told runs.told in
      let come = ends a.system a.bound a.plan prepares.log runs.log runs.is a.end a.before a.after binds counts prepares.answered text in
      let anyhow : ComesAnyhow a.system come.0 log = Wholly come.0 log come.2 in
      record {
        made = prepares.log;
        log = runs.log;
        is = runs.is;
        histories = all a.system sound come.0 log anyhow a.olds peers done.instances a.news told closes;
        making = prepares.answered;
        are = are_all a.system sound come.0 log anyhow a.olds peers done.instances a.news told closes;
        text = text;
        counted = count ∙ runs.counted;
        ends = ends_all a.system sound come.0 log anyhow a.olds peers done.instances a.news told closes a.end come.1;
        unsaved = all_plain a.system sound come.0 log anyhow a.olds peers done.instances a.news told closes come.2;
        machines = prepares.machines;
      }

  pub hold_is_session : HoldIsSession
  hold_is_session a at ready done sound binds counts peers can prepares h closes =
      let e = same_experiment a ready prepares.system_is prepares.bound_is prepares.plan_is in
      let slots = h.holds in
      let holding : HoldsWith (experiment_in a) at ready.instances slots.outcome slots.log slots.piece =
      subst (λ (x : Experiment). HoldsWith x at ready.instances slots.outcome slots.log slots.piece) e slots.holds in
      let log = prepares.log ++ slots.log in
      let told : Told log (fresh_instances a.system.components a.olds) done.instances =
      told_on (fresh_instances a.system.components a.olds) ready.instances done.instances prepares.log slots.log prepares.told slots.told in
      let come = holds (experiment_in a) at ready.instances prepares.log slots.log slots.piece slots.outcome binds counts prepares.answered holding in
      record {
        made = prepares.log;
        log = slots.log;
        histories = all a.system sound come.0 log come.2 a.olds peers done.instances a.news told closes;
        making = prepares.answered;
        are = are_all a.system sound come.0 log come.2 a.olds peers done.instances a.news told closes;
        starts = ready.instances;
        told = prepares.told;
        outcome = slots.outcome;
        piece = slots.piece;
        holds = holding;
        puts = slots.puts;
        ends = ends_put a.system sound come.0 log come.2 a.olds peers done.instances a.news told closes slots.outcome slots.piece a.before a.after a.end come.1 slots.puts;
        peers = peers;
        machines = prepares.machines;
      }

  -- a run that is resumed
  module _ (a : Account) (held : Snapshot) (ready done : Standing) (sound : IsSound a.system) (binds : BindsParameters a.system a.bound) (counts : CountsBy a.system a.plan) (peers : ArePeersOf a.system a.olds) (can : CanBeHeld a.system held) (prepares : PreparesRest a.system a.plan held a.olds ready) (closes : Closes done.instances a.news) where
    abbrev s : Spot
    s = spot_in a.system held

    abbrev sizes : List ℕ
    sizes = map length held.states

    abbrev bare : List View
    bare = map without_machine a.olds

    may : MayBack a.system s sizes
    may = record { each = length-map held.states length ∙ states_each a.system held can; armable = armed_there a.system held }

    told_bare : (log : List Sent) → Told log (without_machines ready.instances) (without_machines done.instances) → Told (prepares.log ++ log) (fresh_instances a.system.components bare) (without_machines done.instances)
    told_bare log told = subst (λ (l : List Instance). Told (prepares.log ++ log) l (without_machines done.instances)) (sym (fresh_without a.system.components a.olds))
        (told_on (without_machines (fresh_instances a.system.components a.olds)) (without_machines ready.instances) (without_machines done.instances) prepares.log log
        (told_without prepares.log (fresh_instances a.system.components a.olds) ready.instances prepares.told) told)

    made_of : (log : List Sent) (bad : Option BadAnswer) (come : ComesAnyhow a.system bad (prepares.log ++ log)) (told : Told (prepares.log ++ log) (fresh_instances a.system.components bare) (without_machines done.instances)) →
        (resumes : ResumesSlots (experiment_in a) s held.states ready.instances done.instances a.before a.after a.instants a.end) → log ≡ resumed_log resumes →
        EndsHistories a.end (all a.system sound bad (prepares.log ++ log) come bare (peers_without a.system a.olds peers) (without_machines done.instances) (map without_machine a.news) told (closes_without done.instances a.news closes)) → ResumedSession a held
    made_of log bad come told resumes log_is ending = record {
      made = prepares.log;
      log = log;
      histories = all a.system sound bad (prepares.log ++ log) come bare (peers_without a.system a.olds peers) (without_machines done.instances) (map without_machine a.news) told (closes_without done.instances a.news closes);
      making = prepares.answered;
      are = are_all a.system sound bad (prepares.log ++ log) come bare (peers_without a.system a.olds peers) (without_machines done.instances) (map without_machine a.news) told (closes_without done.instances a.news closes);
      starts = ready.instances;
      lasts = done.instances;
      told = prepares.told;
      resumes = resumes;
      log_is = log_is;
      ends = ending;
      peers = peers;
      machines = prepares.machines;
    }

    rest_by : (resumes : ResumesSlots (experiment_in a) s held.states ready.instances done.instances a.before a.after a.instants a.end) → ResumedSession a held
    rest_by (Back mids back told_back answered restored runs) =
        let log = back ++ runs.log in
        let told = told_bare log (told_on (without_machines ready.instances) (without_machines mids) (without_machines done.instances) back runs.log told_back (told_without runs.log mids done.instances runs.told)) in
        let come = rests a.system a.bound a.plan s sizes prepares.log back runs.log runs.is a.end a.before a.after binds counts may prepares.answered answered runs.ends in
        made_of log come.0 come.2 told (Back mids back told_back answered restored runs) refl
        (ends_all a.system sound come.0 (prepares.log ++ log) come.2 bare (peers_without a.system a.olds peers) (without_machines done.instances) (map without_machine a.news) told (closes_without done.instances a.news closes) a.end come.1)
    rest_by (NotBack bad log told_back stops restored none puts) =
        let told = told_bare log told_back in
        let come : ComesAnyhow a.system (Some bad) (prepares.log ++ log) = BackBadly a.bound a.plan s sizes bad prepares.log log binds counts may prepares.answered stops in
        made_of log (Some bad) come told (NotBack bad log told_back stops restored none puts) refl
        (ends_put a.system sound (Some bad) (prepares.log ++ log) come bare (peers_without a.system a.olds peers) (without_machines done.instances) (map without_machine a.news) told (closes_without done.instances a.news closes)
        (E.Bad bad) (end_text K.Fault s.t) a.before a.after a.end refl puts)

  pub resumed_is_session : ResumedIsSession
  resumed_is_session a held ready done sound binds counts peers can holdable bound_is prepares rest closes count =
      let e = same_experiment a ready prepares.system_is bound_is prepares.plan_is in
      let resumes : ResumesSlots (experiment_in a) (spot_in a.system held) held.states ready.instances done.instances a.before a.after a.instants a.end =
      subst (λ (n : ℕ). ResumesSlots (experiment_in a) (spot_in a.system held) held.states ready.instances done.instances a.before a.after n a.end) (sym count)
      (subst (λ (x : Experiment). ResumesSlots x (spot_in x.system held) held.states ready.instances done.instances a.before a.after done.instants a.end) e rest.resumes) in
      rest_by a held ready done sound binds counts peers can prepares closes resumes

  pub failed_start_is_closed : FailedStartIsClosed
  failed_start_is_closed system link olds news bad sound peers u =
      let come : Comes system (Some bad) u.log = Unmade link bad u.log u.stops in
      let anyhow : ComesAnyhow system (Some bad) u.log = Wholly (Some bad) u.log come in
      record {
        log = u.log;
        histories = all system sound (Some bad) u.log anyhow olds peers u.mids news u.told u.closes;
        stops = u.stops;
        are = are_all system sound (Some bad) u.log anyhow olds peers u.mids news u.told u.closes;
        least = least_all system sound (Some bad) u.log anyhow olds peers u.mids news u.told u.closes bad refl;
        unsaved = all_plain system sound (Some bad) u.log anyhow olds peers u.mids news u.told u.closes come;
      }

pub histories_are_over : HistoriesAreOver
histories_are_over system olds news log histories are k history here spared = closed_over history (subst IsPeerHistory (get_or_from_slice_get histories k history history here) (are.each k history (slice_get_within histories k history here))) (are.closed k history here spared)
