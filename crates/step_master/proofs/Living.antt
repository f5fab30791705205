-- The histories of peers, from their slots through a log to their closing.
use Rattle.std.proofs.Common.{◌≡◌, ℕ, zero, suc, ◌+◌, ◌==◌, Bool, true, false, List, [], ◌∷◌, ◌++◌, Some, refl, sym, ap, ap₂, ◌∙◌, subst, append_assoc, arith, length, map, take, drop}
use Rattle.std.specs.Prelude.{All, ◌||◌, ◌&&◌, if◌then◌else◌}
use Rattle.std.specs.List.{slice_get}
use Rattle.std.proofs.lemmas.List.{append-nil, map-append, take-append-drop, take-map, drop-map}
use Rattle.std.proofs.lemmas.List.Elements.{All-nil, All-cons, All-head, All-tail, All-append, All-take, All-drop}
use Rattle.std.proofs.lemmas.List.Folds.{list_any-append}
use Rattle.std.proofs.lemmas.Bool.{and_from, both_ways, or_from, or_parts}
use Rattle.std.proofs.Math.Bool.{and-or_distrib_right, or-true, or_assoc, or_comm}
use Rattle.std.proofs.lemmas.Option.{same_Some}
use Rattle.value_types.specs.declared.shape.Shape.{Shape}
use Rattle.fmi_calls.specs.declared.phase.Phase.{Phase}
use Rattle.fmi_calls.specs.KindFacts.{IsClosingCall, IsRunCall}
use Rattle.fmu_peer.specs.declared.peer.Exchange.{Exchange}
use Rattle.fmu_peer.specs.Close.{any_fatal, closing_calls}
use Rattle.fmu_peer.specs.CloseAll.{ClosesOne, Closing, InOrder, Instance, afters, befores, is_source_lost, member_of}
use Rattle.fmu_peer.specs.Lean.{IsLean}
use Rattle.fmu_peer.specs.Siblings.{IsSpared, Member, Siblings, SparesLater}
use Rattle.fmu_peer.specs.Talk as T
use Rattle.fmu_peer.specs.View.{Fixed, View}
use Rattle.fmu_peer.proofs.CallerLemmas.{same_number, spared_from, spares_later}
use Rattle.step_master.specs.Histories.{ClosesInTurn, ComeInTurn, IsPeerHistory, PeerHistory, any_fatal_closing, any_fatal_run, member_in, shape_in, talk_in}
use Rattle.fmu_peer.specs.Talk.{calls_in}
use Rattle.slot_calls.specs.Log.{Has, Sent, Talks, part}
use Rattle.slot_calls.specs.SavedStates.{IsParted, LeavesState, Talk, saved_after}
use Rattle.course_laws.specs.Laws.{GoesWith, IsStateless}
use Rattle.course_laws.proofs.Unsaved.{never_held}
use Rattle.step_master.proofs.Leaving.{counts_of, leaves_one, talk_is, talks_legal, talks_phase, turn_all, turn_comes, turn_talks}
use Rattle.step_master.proofs.Parted.{Closes, all_closing, is_parted, turn_closes}
use Rattle.slot_calls.proofs.CallerLemmas.{talks_fixed, talks_on, replies_of}
use Rattle.step_master.proofs.FreshLemmas.{IsFreshInstance}

-- ---- lists side by side

-- the number of a component, its peer's instance before the first call, and its closing
pub record Row : Type 0 where
  pub number : ℕ
  pub slot : Instance
  pub closing : Closing

abbrev pub rows_from : ℕ → List Instance → List Closing → List Row
rows_from i (s ∷ ss) (k ∷ ks) = record { number = i; slot = s; closing = k } ∷ rows_from (i + 1) ss ks
rows_from i [] ks = []
rows_from i (s ∷ ss) [] = []

-- what a row has of the lists
pub record IsRowOf (i : ℕ) (ss : List Instance) (ks : List Closing) (n : ℕ) (row : Row) : Type 0 where
  pub number : row.number ≡ i + n
  pub slot : slice_get ss n ≡ Some row.slot
  pub closing : slice_get ks n ≡ Some row.closing

pub row_at : (i : ℕ) (ss : List Instance) (ks : List Closing) (n : ℕ) (row : Row) → slice_get (rows_from i ss ks) n ≡ Some row → IsRowOf i ss ks n row
row_at i (s ∷ ss) (k ∷ ks) zero row is =
    let same : record { number = i; slot = s; closing = k } ≡ row = same_Some _ row is in record {
      number = ap (λ (r : Row). r.number) (sym same) ∙ omega arith;
      slot = ap (λ (r : Row). Some r.slot) same;
      closing = ap (λ (r : Row). Some r.closing) same;
    }
row_at i (s ∷ ss) (k ∷ ks) (suc n) row is = let r = row_at (i + 1) ss ks n row is in record { number = r.number ∙ omega arith; slot = r.slot; closing = r.closing }
row_at i [] ks n row is = absurd (cc)
row_at i (s ∷ ss) [] n row is = absurd (cc)

-- side by side they are the two lists
pub sides_are : (i : ℕ) (ss : List Instance) (ks : List Closing) → length ks ≡ length ss → (map (λ (r : Row). r.slot) (rows_from i ss ks) ≡ ss) × (map (λ (r : Row). r.closing) (rows_from i ss ks) ≡ ks)
sides_are i [] [] e = (refl, refl)
sides_are i [] (k ∷ ks) e = absurd (omega (arith, e))
sides_are i (s ∷ ss) [] e = absurd (omega (arith, e))
sides_are i (s ∷ ss) (k ∷ ks) e = let rest = sides_are (i + 1) ss ks (omega (arith, e)) in (ap (λ (l : List Instance). s ∷ l) rest.0, ap (λ (l : List Closing). k ∷ l) rest.1)

-- ---- one row

abbrev pub history_of : List Sent → Row → PeerHistory
history_of log row = record { source = row.slot.source; old = row.slot.view; run = part row.number log; closing = row.closing.sent; new = row.closing.new.view }

-- a peer that was new had its part of the log, whose calls are needed ones of a run and leave a saved state as they may, and was closed
pub record IsRow (talks : List Talk) (log : List Sent) (row : Row) : Type 0 where
  pub new : IsFreshInstance row.slot
  pub has : Has row.slot (part row.number log) row.closing.old
  pub spared : Bool
  pub one : ClosesOne spared row.closing
  pub runs : All IsRunCall (calls_in (part row.number log))
  pub lean : IsLean (calls_in (part row.number log))
  pub leaves : LeavesState talks row.slot.view.fixed.shape (part row.number log)
  pub can : row.slot.view.fixed.shape.can_serialize_state ≡ true → row.slot.view.fixed.shape.can_save_state ≡ true
  pub resumed : Bool
  pub goes : All (GoesWith resumed) (calls_in (part row.number log))

module _ (talks : List Talk) (log : List Sent) (row : Row) (r : IsRow talks log row) where
  abbrev history : PeerHistory
  history = history_of log row

  abbrev mid : View
  mid = row.closing.old.view

  mid_fixed : mid.fixed ≡ row.slot.view.fixed
  mid_fixed = talks_fixed row.slot.view history.run mid r.has.talks

  closing_talks : Talks mid history.closing history.new
  closing_talks = turn_talks _ mid history.closing history.new r.one.turn

  all_talks : Talks row.slot.view (talk_in history) history.new
  all_talks = talks_on row.slot.view history.run mid history.closing history.new r.has.talks closing_talks

  saved_is : row.closing.old.has_saved ≡ saved_after row.slot.view.fixed.shape false history.run
  saved_is = r.has.saved ∙ ap (λ (b : Bool). saved_after row.slot.view.fixed.shape b history.run) r.new.unsaved

  in_turn : ClosesInTurn history
  in_turn = (
    r.spared,
    subst (λ (p : Phase). ComeInTurn row.slot.view.fixed.shape p (if r.spared then [] else closing_calls (saved_after row.slot.view.fixed.shape false history.run)) history.closing)
        (talks_phase row.slot.view history.run mid r.has.talks ∙ ap (λ (p : Phase). T.phase_from row.slot.view.fixed.shape p history.run) r.new.first)
        (subst (λ (f : Fixed). ComeInTurn f.shape mid.phase (if r.spared then [] else closing_calls (saved_after row.slot.view.fixed.shape false history.run)) history.closing) mid_fixed
        (subst (λ (b : Bool). ComeInTurn mid.fixed.shape mid.phase (if r.spared then [] else closing_calls b) history.closing) saved_is
        (turn_comes _ mid history.closing history.new r.one.turn))),
  )

  pub is_history : IsPeerHistory history
  is_history = record {
    fixed = talks_fixed row.slot.view (talk_in history) history.new all_talks;
    run_calls = r.runs;
    lean = r.lean;
    closing_calls = turn_all IsClosingCall _ mid history.closing history.new (all_closing IsClosingCall r.spared row.closing.old.has_saved (λ saved. refl) refl refl) r.one.turn;
    turn = in_turn;
    legal = subst (λ (p : Phase). T.LegalFrom row.slot.view.fixed.shape p (talk_in history)) r.new.first (talks_legal row.slot.view (talk_in history) history.new all_talks);
    phase = talks_phase row.slot.view (talk_in history) history.new all_talks ∙ ap (λ (p : Phase). T.phase_from row.slot.view.fixed.shape p (talk_in history)) r.new.first;
    talk = talk_is row.slot.view (talk_in history) history.new r.new.untold all_talks;
    counts = counts_of row.slot.view (talk_in history) history.new all_talks;
    replies = λ m s machine state. replies_of m row.slot.view (talk_in history) history.new all_talks s machine state;
  }

  -- where no call of its run saves a state, goes back to one or frees one, none of its closing does
  pub row_plain : All IsStateless (calls_in history.run) → All IsStateless (calls_in (talk_in history))
  row_plain plain =
      subst (All IsStateless) (sym (map-append (λ (e : Exchange). e.call) history.run history.closing))
      (All-append IsStateless (calls_in history.run) (calls_in history.closing) plain
      (turn_all IsStateless _ mid history.closing history.new (all_closing IsStateless r.spared row.closing.old.has_saved (λ saved. absurd (both_ways _ (saved_is ∙ never_held row.slot.view.fixed.shape history.run plain) saved)) tt tt) r.one.turn))

  pub same_shape : row.closing.old.view.fixed.shape ≡ shape_in history
  same_shape = ap (λ (f : Fixed). f.shape) mid_fixed

  -- an answer of the run by Fatal is known
  pub old_fatal : row.closing.old.is_fatal ≡ any_fatal (shape_in history) history.run
  old_fatal = r.has.fatal ∙ ap (λ (b : Bool). b || any_fatal (shape_in history) history.run) r.new.calm

  pub new_fatal : row.closing.new.is_fatal ≡ (any_fatal (shape_in history) history.run || any_fatal (shape_in history) history.closing)
  new_fatal = r.one.fatal ∙ ap₂ (λ (a b : Bool). a || b) old_fatal (ap (λ (s : Shape). any_fatal s history.closing) same_shape)

  -- not spared, it is closed
  pub row_closed : ClosesOne false row.closing → T.Closed (shape_in history) (talk_in history)
  row_closed one =
      subst (λ (s : Shape). T.Closed s (talk_in history)) same_shape
      (one.closed refl history.run (leaves_one r.resumed row.slot history.run row.closing.old r.new.first r.new.unsaved r.has r.can r.runs r.goes r.leaves.last))

  -- its run and its closing are told apart by the talks of all
  pub row_parted : IsParted talks (shape_in history) history.run history.closing
  row_parted = is_parted talks row.slot.view.fixed.shape history.run history.closing r.runs r.leaves
      (subst (λ (b : Bool). Closes b history.closing) saved_is (turn_closes r.spared row.closing.old.has_saved mid history.closing history.new r.one.turn))

-- ---- the siblings

module _ (talks : List Talk) (log : List Sent) where
  abbrev pub AreRows : List Row → Type 0
  AreRows rows = All (IsRow talks log) rows

  abbrev pub histories_of : List Row → List PeerHistory
  histories_of rows = map (history_of log) rows

  abbrev pub closings_of : List Row → List Closing
  closings_of rows = map (λ (r : Row). r.closing) rows

  spared_same : (source : ℕ) (rows : List Row) → AreRows rows → All (IsSpared source) (map member_of (closings_of rows)) → All (IsSpared source) (map member_in (histories_of rows))
  spared_same source [] rs all = All-nil (IsSpared source)
  spared_same source (row ∷ rows) rs all =
      All-cons (IsSpared source) (member_in (history_of log row)) (map member_in (histories_of rows))
      (λ same. All-head (IsSpared source) (member_of row.closing) (map member_of (closings_of rows)) all ((All-head (IsRow talks log) row rows rs).has.source ∙ same))
      (spared_same source rows (All-tail (IsRow talks log) row rows rs) (All-tail (IsSpared source) (member_of row.closing) (map member_of (closings_of rows)) all))

  later_same : (rows : List Row) → AreRows rows → SparesLater (map member_of (closings_of rows)) → SparesLater (map member_in (histories_of rows))
  later_same [] rs s = tt
  later_same (row ∷ rows) rs s =
      let r = All-head (IsRow talks log) row rows rs in
      let rest = All-tail (IsRow talks log) row rows rs in (
        (λ fatal. subst (λ (n : ℕ). All (IsSpared n) (map member_in (histories_of rows))) r.has.source
            (spared_same row.closing.old.source rows rest (s.0 (ap (λ (x : Shape). any_fatal x row.closing.sent) (same_shape talks log row r) ∙ fatal)))),
        later_same rows rest s.1,
      )

  -- ---- lost sources

  abbrev is_lost_of : ℕ → Instance → Bool
  is_lost_of source i = i.is_fatal && i.source == source

  or_mix : (a b c d : Bool) → ((a || b) || (c || d)) ≡ ((a || c) || (b || d))
  or_mix a b c d = sym (or_assoc (a || b) c d) ∙ ap (λ (x : Bool). x || d) (or_assoc a b c ∙ ap (λ (x : Bool). a || x) (or_comm b c) ∙ sym (or_assoc a c b)) ∙ or_assoc (a || c) b d

  lost_before : (source : ℕ) (rows : List Row) → AreRows rows → is_source_lost source (befores (closings_of rows)) ≡ any_fatal_run source (histories_of rows)
  lost_before source [] rs = refl
  lost_before source (row ∷ rows) rs =
      let r = All-head (IsRow talks log) row rows rs in
      ap₂ (λ (a b : Bool). a || b) (ap₂ (λ (f : Bool) (n : ℕ). f && n == source) (old_fatal talks log row r) r.has.source) (lost_before source rows (All-tail (IsRow talks log) row rows rs))

  lost_after : (source : ℕ) (rows : List Row) → AreRows rows → is_source_lost source (afters (closings_of rows)) ≡ (any_fatal_run source (histories_of rows) || any_fatal_closing source (histories_of rows))
  lost_after source [] rs = refl
  lost_after source (row ∷ rows) rs =
      let r = All-head (IsRow talks log) row rows rs in
      let l = history_of log row in
      let a = any_fatal (shape_in l) l.run in
      let b = any_fatal (shape_in l) l.closing in
      ap₂ (λ (x y : Bool). x || y)
      (ap₂ (λ (f : Bool) (n : ℕ). f && n == source) (new_fatal talks log row r) (r.one.source ∙ r.has.source) ∙ and-or_distrib_right a b (l.source == source))
      (lost_after source rows (All-tail (IsRow talks log) row rows rs))
      ∙ or_mix (a && l.source == source) (b && l.source == source) (any_fatal_run source (histories_of rows)) (any_fatal_closing source (histories_of rows))

  abbrev Spares : List Member → Member → Type 0
  Spares ms m = any_fatal m.shape m.run ≡ true → All (IsSpared m.source) ms

  after_run : (all : List Row) → AreRows all → InOrder [] (closings_of all) → (rows : List Row) → AreRows rows → ((source : ℕ) → any_fatal_run source (histories_of rows) ≡ true → any_fatal_run source (histories_of all) ≡ true) →
      All (Spares (map member_in (histories_of all))) (map member_in (histories_of rows))
  after_run all rs order [] mine among = All-nil (Spares (map member_in (histories_of all)))
  after_run all rs order (row ∷ rows) mine among =
      let l = history_of log row in
      All-cons (Spares (map member_in (histories_of all))) (member_in l) (map member_in (histories_of rows))
      (λ (fatal : any_fatal (shape_in l) l.run ≡ true). spared_same l.source all rs (spared_from l.source [] (closings_of all)
      (lost_before l.source all rs ∙ among l.source (ap (λ (b : Bool). b || any_fatal_run l.source (histories_of rows)) (and_from _ _ fatal (same_number l.source)))) order))
      (after_run all rs order rows (All-tail (IsRow talks log) row rows mine) (λ source h. among source (ap (λ (b : Bool). (any_fatal (shape_in l) l.run && l.source == source) || b) h ∙ or-true (any_fatal (shape_in l) l.run && l.source == source))))

  pub row_siblings : (rows : List Row) → AreRows rows → InOrder [] (closings_of rows) → Siblings (map member_in (histories_of rows))
  row_siblings rows rs order = record {
    after_run = after_run rows rs order rows rs (λ source h. h);
    later = later_same rows rs (spares_later [] (closings_of rows) order);
  }

  -- ---- each at its turn

  pub at_turn : (closed : List Instance) (cs : List Closing) (k : ℕ) (c : Closing) → InOrder closed cs → slice_get cs k ≡ Some c →
      ClosesOne (is_source_lost c.old.source ((closed ++ afters (take k cs)) ++ befores (drop k cs))) c
  at_turn closed [] k c order is = absurd (cc)
  at_turn closed (x ∷ cs) zero c order is =
      let same : x ≡ c = some_same x c is in
      subst (λ (y : Closing). ClosesOne (is_source_lost y.old.source ((closed ++ []) ++ befores (x ∷ cs))) y) same
      (subst (λ (l : List Instance). ClosesOne (is_source_lost x.old.source (l ++ befores (x ∷ cs))) x) (sym (append-nil closed)) order.0) where
        some_same : (a b : Closing) → Some a ≡ Some b → a ≡ b
        some_same a b h = cc
  at_turn closed (x ∷ cs) (suc k) c order is =
      subst (λ (l : List Instance). ClosesOne (is_source_lost c.old.source (l ++ befores (drop k cs))) c) (append_assoc closed (x.new ∷ []) (afters (take k cs)))
      (at_turn (closed ++ x.new ∷ []) cs k c order.1 is)

  or_none : (a b c : Bool) → ((a || c) || b) ≡ false → ((a || b) || c) ≡ false
  or_none a b c h = let p = or_parts (a || c) b h in let q = or_parts a c p.0 in or_from (a || b) c (or_from a b q.0 p.1) q.1

  -- who isn't spared is of no lost source at its turn
  pub turn_open : (rows : List Row) → AreRows rows → (k : ℕ) (source : ℕ) → (any_fatal_run source (histories_of rows) || any_fatal_closing source (take k (histories_of rows))) ≡ false →
      is_source_lost source (afters (take k (closings_of rows)) ++ befores (drop k (closings_of rows))) ≡ false
  turn_open rows rs k source spare =
      let prefix = take k rows in
      let back = drop k rows in
      let runs : any_fatal_run source (histories_of rows) ≡ (any_fatal_run source (histories_of prefix) || any_fatal_run source (histories_of back)) =
      ap (λ (l : List Row). any_fatal_run source (histories_of l)) (sym (take-append-drop k rows)) ∙ ap (any_fatal_run source) (map-append (history_of log) prefix back) ∙ list_any-append (λ (l : PeerHistory). any_fatal (shape_in l) l.run && l.source == source) (histories_of prefix) (histories_of back) in
      let closings : any_fatal_closing source (take k (histories_of rows)) ≡ any_fatal_closing source (histories_of prefix) = ap (any_fatal_closing source) (take-map (history_of log) k rows) in
      list_any-append (is_lost_of source) (afters (take k (closings_of rows))) (befores (drop k (closings_of rows)))
      ∙ ap₂ (λ (a b : Bool). a || b)
      (ap (λ (l : List Closing). is_source_lost source (afters l)) (take-map (λ (r : Row). r.closing) k rows) ∙ lost_after source prefix (All-take (IsRow talks log) k rows rs))
      (ap (λ (l : List Closing). is_source_lost source (befores l)) (drop-map (λ (r : Row). r.closing) k rows) ∙ lost_before source back (All-drop (IsRow talks log) k rows rs))
      ∙ or_none (any_fatal_run source (histories_of prefix)) (any_fatal_closing source (histories_of prefix)) (any_fatal_run source (histories_of back))
      (ap₂ (λ (a b : Bool). a || b) (sym runs) (sym closings) ∙ spare)
