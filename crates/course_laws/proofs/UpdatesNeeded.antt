-- The Updates along a run: each FMU with event mode has one in an instant, which follows another at the same point only where one of those asked for another, and none for the end.
use Rattle.std.proofs.Common.{◌≡◌, inl, inr, ℕ, suc, ◌<◌, ◌==◌, Bool, true, false, List, [], ◌∷◌, ◌++◌, Option, Some, None, refl, sym, ap, ◌∙◌, subst, append-nil, arith, length}
use Rattle.std.specs.Prelude.{All, ◌||◌, if◌then◌else◌}
use Rattle.std.specs.List.{list_any, slice_get}
use Rattle.std.specs.Option.{option_map_or}
use Rattle.std.proofs.lemmas.Bool.{or_left, or_right}
use Rattle.std.proofs.lemmas.List.{length-append}
use Rattle.std.proofs.lemmas.List.Elements.{All-weaker}
use Rattle.std.proofs.lemmas.Option.{slice_get_within}
use Rattle.value_types.specs.declared.shape.Shape.{Shape}
use Rattle.fmi_calls.specs.declared.call.Call.{Call}
use Rattle.fmi_calls.specs.declared.call.Call.TheVariants as C
use Rattle.fmu_peer.specs.declared.peer.Exchange.{Exchange}
use Rattle.fmu_peer.specs.Updates as U
use Rattle.fmu_peer.specs.Updates.{Stay, UpdateMark, no_stay, updates_from, updates_in}
use Rattle.system_model.specs.declared.system.Component.{Component}
use Rattle.system_model.specs.declared.system.System.{System}
use Rattle.run_model.specs.AfterInstant as F
use Rattle.slot_calls.specs.declared.bad_answer.BadAnswer.{BadAnswer}
use Rattle.slot_calls.specs.Log.{Sent, component_calls, part}
use Rattle.slot_calls.specs.Stage.{StopsAt, has_events, shapes_of, to_those}
use Rattle.slot_calls.proofs.CallerLemmas.{part_append, same, takes}
use Rattle.event_iteration.specs.Updates.{answer_passes, updated_by, updating}
use Rattle.event_iteration.specs.WalkCalls.{has_events_at, own}
use Rattle.event_iteration.proofs.ByLog.{own_append}
use Rattle.fmu_peer.specs.Talk.{calls_in}
use Rattle.course_laws.proofs.ArmedClocks.{is_arming}
use Rattle.course_laws.proofs.OwnCalls.{own_calls, own_events}
use Rattle.course_laws.proofs.UpdateMarks.{AtMost, IsNoUpdate, IsQuiet, NoneOf, OneOf, again_same, arms_after, at_most, ends_same, left_stands, mark_by, no_marks, none_stands, one_mark, one_stands, quiet_no, quiet_stands, stay_after, stay_append, updates_append}
use Rattle.course_laws.proofs.UpdateTables.{Ask, AreAskedFor, Comes, NoMark, OneMark, OldOrNew, SomeMark, Table, ask_same, column, grown, kept, marks_in, newest, old_or_new}

-- ---- whether one of the exchanges passes a test

module _ (f : Exchange → Bool) where
  abbrev any_sent : List Sent → Bool
  any_sent log = list_any (λ (s : Sent). f s.exchange) log

  pub any_in_part : (i : ℕ) (log : List Sent) → list_any f (part i log) ≡ true → any_sent log ≡ true
  any_in_part i [] h = absurd (cc)
  any_in_part i (s ∷ log) h = by (s.component == i) (f s.exchange) refl h (any_in_part i log) where
    by : (b c : Bool) → f s.exchange ≡ c → list_any f (if b then s.exchange ∷ part i log else part i log) ≡ true → (list_any f (part i log) ≡ true → any_sent log ≡ true) → (f s.exchange || any_sent log) ≡ true
    by b true is h more = or_left (f s.exchange) (any_sent log) is
    by true false is h more = or_right (f s.exchange) (any_sent log) (more (ap (λ (c : Bool). c || list_any f (part i log)) (sym is) ∙ h))
    by false false is h more = or_right (f s.exchange) (any_sent log) (more h)

  any_if : (b : Bool) (e : Exchange) (es : List Exchange) → list_any f es ≡ true → list_any f (if b then e ∷ es else es) ≡ true
  any_if true e es h = or_right (f e) (list_any f es) h
  any_if false e es h = h

  pub part_of_any : (log : List Sent) → any_sent log ≡ true → (i : ℕ) × (list_any f (part i log) ≡ true)
  part_of_any [] h = absurd (cc)
  part_of_any (s ∷ log) h = by (f s.exchange) refl h (part_of_any log) where
    by : (b : Bool) → f s.exchange ≡ b → (b || any_sent log) ≡ true → (any_sent log ≡ true → (i : ℕ) × (list_any f (part i log) ≡ true)) → (i : ℕ) × (list_any f (part i (s ∷ log)) ≡ true)
    by true is h more = (
      s.component,
      ap (list_any f) (takes (s.component == s.component) s.exchange (part s.component log) (same s.component s.component refl)) ∙ or_left (f s.exchange) (list_any f (part s.component log)) is,
    )
    by false is h more = let m = more h in (m.0, any_if (s.component == m.0) s.exchange (part m.0 log) m.1)

module _ (system : System) where
  abbrev n : ℕ
  n = length system.components

  abbrev event : ℕ → Bool
  event i = has_events_at system i

  inside : (i : ℕ) → event i ≡ true → i < n
  inside i h = by (slice_get system.components i) refl h where
    by : (o : Option Component) → slice_get system.components i ≡ o → option_map_or (λ (c : Component). c.shape.has_event_mode) o false ≡ true → i < n
    by None at h = absurd (cc)
    by (Some c) at h = slice_get_within system.components i c at

  -- ---- a log and more

  -- what stands before in the stay of the i-th
  abbrev stay_at : List Sent → ℕ → Stay
  stay_at log i = stay_after no_stay (part i log)

  stay_on : (log more : List Sent) (i : ℕ) → stay_at (log ++ more) i ≡ stay_after (stay_at log i) (part i more)
  stay_on log more i = ap (stay_after no_stay) (part_append i log more) ∙ stay_append no_stay (part i log) (part i more)

  marks_on : (log more : List Sent) (i : ℕ) → marks_in (log ++ more) i ≡ marks_in log i ++ updates_from (stay_at log i) (part i more)
  marks_on log more i = ap updates_in (part_append i log more) ∙ updates_append no_stay (part i log) (part i more)

  -- this holds of each call of a log
  abbrev pub Throughout : (Call → Type 0) → List Sent → Type 0
  Throughout P log = (i : ℕ) → All P (own i (component_calls log))

  in_part : (P : Call → Type 0) (log : List Sent) → Throughout P log → (i : ℕ) → All P (calls_in (part i log))
  in_part P log all i = subst (All P) (sym (own_calls i log)) (all i)

  -- m instants were taken; whether an Update stands in this stay in Event Mode, where one does of those with event mode
  pub record Talks (log : List Sent) (m : ℕ) (flag : Bool) : Type 0 where
    pub table : Table n event (marks_in log) m
    pub stands : (i : ℕ) → (stay_at log i).follows ≡ (if event i then flag else false)

  -- the last instant asks for another
  abbrev pub Asked : List Sent → ℕ → Type 0
  Asked log m = (k : ℕ) → suc k ≡ m → Ask n (column (marks_in log) k)

  no_flag : (b : Bool) → (if b then false else false) ≡ false
  no_flag true = refl
  no_flag false = refl

  pub nothing_yet : Talks [] 0 false
  nothing_yet = record {
    table = record { rows = λ i. none 0 (event i); needed = λ k i mark within at follows. absurd (cc) };
    stands = λ i. sym (no_flag (event i));
  } where
    none : (x : ℕ) (b : Bool) → x ≡ (if b then x else x)
    none x true = refl
    none x false = refl

  -- where no Update is among the others
  module _ (log more : List Sent) (m : ℕ) (flag : Bool) (table : Table n event (marks_in log) m) (none : Throughout IsNoUpdate more) where
    no_more : (i : ℕ) → updates_from (stay_at log i) (part i more) ≡ []
    no_more i = no_marks (part i more) (stay_at log i) (in_part IsNoUpdate more none i)

    abbrev more_marks : ℕ → List UpdateMark
    more_marks i = updates_from (stay_at log i) (part i more)

    none_comes : (i : ℕ) → Comes n event false i (more_marks i)
    none_comes i = NoMark (no_more i)

    pub still : Table n event (marks_in (log ++ more)) m
    still = record {
      rows = λ i. ap length (marks_on log more i ∙ ap (λ (l : List UpdateMark). marks_in log i ++ l) (no_more i) ∙ append-nil (marks_in log i)) ∙ table.rows i;
      needed = grown n event false (marks_in log) more_marks (marks_in (log ++ more)) m table (marks_on log more) none_comes (λ wrong. absurd (cc));
    }

    pub still_asked : Asked log m → Asked (log ++ more) m
    still_asked asked k is = ask_same n (column (marks_in log) k) (column (marks_in (log ++ more)) k)
        (λ i. sym (kept n event false (marks_in log) more_marks (marks_in (log ++ more)) m table (marks_on log more) none_comes k (omega (arith, is)) i)) (asked k is)

  pub quiet : (log more : List Sent) (m : ℕ) (flag : Bool) → Talks log m flag → Throughout IsQuiet more → Talks (log ++ more) m flag
  quiet log more m flag t all = record {
    table = still log more m flag t.table (no_of_quiet more all);
    stands = λ i. ap (λ (x : Stay). x.follows) (stay_on log more i) ∙ quiet_stands (part i more) (stay_at log i) (in_part IsQuiet more all i) ∙ t.stands i;
  } where
    no_of_quiet : (log : List Sent) → Throughout IsQuiet log → Throughout IsNoUpdate log
    no_of_quiet log all i = All-weaker IsQuiet IsNoUpdate quiet_no (own i (component_calls log)) (all i)

  pub calm : (log more : List Sent) (m : ℕ) → Talks log m false → Throughout IsNoUpdate more → Talks (log ++ more) m false
  calm log more m t none = record {
    table = still log more m false t.table none;
    stands = λ i. ap (λ (x : Stay). x.follows) (stay_on log more i) ∙ none_stands (part i more) (stay_at log i) (in_part IsNoUpdate more none i) (t.stands i ∙ no_flag (event i)) ∙ sym (no_flag (event i));
  }

  -- those with event mode leave Event Mode
  pub leave : (log more : List Sent) (m : ℕ) → Talks log m true → Throughout IsNoUpdate more → component_calls more ≡ to_those has_events (λ (s : Shape). C.EnterStep) (shapes_of system) → Talks (log ++ more) m false
  leave log more m t none answered = record {
    table = still log more m true t.table none;
    stands = λ i. ap (λ (x : Stay). x.follows) (stay_on log more i) ∙ left_stands (stay_at log i) (event i) (part i more) (t.stands i) (own_calls i more ∙ ap (own i) answered ∙ own_events C.EnterStep system i);
  }

  -- a Clock of an FMU with event mode was armed in the instant
  abbrev pub SomeArmed : List Sent → Type 0
  SomeArmed log = (i : ℕ) × (event i ≡ true) × ((stay_at log i).arms ≡ true)

  pub arm : (log more : List Sent) (i : ℕ) → event i ≡ true → Throughout IsQuiet more → list_any is_arming (part i more) ≡ true → SomeArmed (log ++ more)
  arm log more i is all arms = (i, is, ap (λ (x : Stay). x.arms) (stay_on log more i) ∙ arms_after (part i more) (stay_at log i) (in_part IsQuiet more all i) arms)

  -- ---- the Updates of an instant

  module _ (log updates : List Sent) (m : ℕ) (flag : Bool) (t : Talks log m flag) where
    abbrev news : ℕ → List UpdateMark
    news i = updates_from (stay_at log i) (part i updates)

    one_comes : ((i : ℕ) → AtMost (event i) (part i updates)) → (i : ℕ) → Comes n event flag i (news i)
    one_comes most i = by (most i) where
      by : AtMost (event i) (part i updates) → Comes n event flag i (news i)
      by (NoneOf none) = NoMark (ap (updates_from (stay_at log i)) none)
      by (OneOf is e one call) = OneMark is (mark_by (stay_at log i) e) (one_mark (stay_at log i) (part i updates) e one call) (t.stands i ∙ ap (λ (b : Bool). if b then flag else false) is)

    -- up to a bad answer
    pub stopped : (bad : BadAnswer) → StopsAt (shapes_of system) (updating (shapes_of system)) bad updates → (flag ≡ true → Asked log m) → AreAskedFor n (marks_in (log ++ updates))
    stopped bad stops asked = grown n event flag (marks_in log) news (marks_in (log ++ updates)) m t.table (marks_on log updates)
        (one_comes (λ i. at_most (event i) (part i updates) (own i stops.left)
        (sym (own_events C.Update system i) ∙ ap (own i) stops.calls_are ∙ own_append i (component_calls updates) stops.left ∙ ap (λ (cs : List Call). cs ++ own i stops.left) (sym (own_calls i updates))))) asked

    module _ (answered : component_calls updates ≡ updating (shapes_of system)) where
      calls_are : (i : ℕ) → calls_in (part i updates) ≡ (if event i then C.Update ∷ [] else [])
      calls_are i = own_calls i updates ∙ ap (own i) answered ∙ own_events C.Update system i

      most : (i : ℕ) → AtMost (event i) (part i updates)
      most i = at_most (event i) (part i updates) [] (sym (calls_are i) ∙ sym (append-nil (calls_in (part i updates))))

      -- what an FMU with event mode was asked, and another
      one_of : (i : ℕ) → event i ≡ true → (e : Exchange) × (part i updates ≡ e ∷ []) × (e.call ≡ C.Update)
      one_of i is = by (most i) where
        by : AtMost (event i) (part i updates) → (e : Exchange) × (part i updates ≡ e ∷ []) × (e.call ≡ C.Update)
        by (NoneOf none) = absurd (let wrong : C.Update ∷ [] ≡ [] = ap (λ (b : Bool). if b then C.Update ∷ [] else []) (sym is) ∙ sym (calls_are i) ∙ ap calls_in none in cc)
        by (OneOf there e one call) = (e, one, call)

      none_of : (i : ℕ) → event i ≡ false → part i updates ≡ []
      none_of i is = by (most i) where
        by : AtMost (event i) (part i updates) → part i updates ≡ []
        by (NoneOf none) = none
        by (OneOf there e one call) = absurd (let wrong : true ≡ false = sym there ∙ is in cc)

      new_one : (i : ℕ) (is : event i ≡ true) → news i ≡ mark_by (stay_at log i) (one_of i is).0 ∷ []
      new_one i is = let o = one_of i is in one_mark (stay_at log i) (part i updates) o.0 o.1 o.2

      row : (i : ℕ) (b : Bool) → event i ≡ b → length (marks_in (log ++ updates) i) ≡ (if b then suc m else 0)
      row i true is =
          let len : length (marks_in log i) ≡ m = t.table.rows i ∙ ap (λ (b : Bool). if b then m else 0) is in
          ap length (marks_on log updates i ∙ ap (λ (l : List UpdateMark). marks_in log i ++ l) (new_one i is)) ∙ length-append (marks_in log i) (mark_by (stay_at log i) (one_of i is).0 ∷ []) ∙ omega (arith, len)
      row i false is =
          ap length (marks_on log updates i ∙ ap (λ (l : List UpdateMark). marks_in log i ++ l) (ap (updates_from (stay_at log i)) (none_of i is)) ∙ append-nil (marks_in log i))
          ∙ t.table.rows i ∙ ap (λ (b : Bool). if b then m else 0) is

      stand : (i : ℕ) (b : Bool) → event i ≡ b → (stay_at (log ++ updates) i).follows ≡ (if b then true else false)
      stand i true is = let o = one_of i is in ap (λ (x : Stay). x.follows) (stay_on log updates i) ∙ one_stands (stay_at log i) (part i updates) o.0 o.1 o.2
      stand i false is =
          ap (λ (x : Stay). x.follows) (stay_on log updates i) ∙ ap (λ (es : List Exchange). (stay_after (stay_at log i) es).follows) (none_of i is) ∙ t.stands i ∙ ap (λ (b : Bool). if b then flag else false) is

      pub updated : (flag ≡ true → Asked log m) → Talks (log ++ updates) (suc m) true
      updated asked = record {
        table = record {
          rows = λ i. row i (event i) refl;
          needed = grown n event flag (marks_in log) news (marks_in (log ++ updates)) m t.table (marks_on log updates) (one_comes most) asked;
        };
        stands = λ i. stand i (event i) refl;
      }

      -- ---- one asked for another instant, or a Clock is armed for the point, and none asked for the end

      abbrev again_by : Exchange → Bool
      again_by e = answer_passes F.asks_again e.result

      abbrev ends_by : Exchange → Bool
      ends_by e = answer_passes F.asks_for_end e.result

      or_true : (a : Bool) → (a || false) ≡ true → a ≡ true
      or_true true h = refl
      or_true false h = h

      -- the mark of an FMU with event mode
      some_mark : (i : ℕ) (is : event i ≡ true) → (let mark = mark_by (stay_at log i) (one_of i is).0 in (mark.again || mark.arms) ≡ true) → SomeMark n (λ (x : UpdateMark). x.again || x.arms) (column (marks_in (log ++ updates)) m)
      some_mark i is passes = (
        i,
        mark_by (stay_at log i) (one_of i is).0,
        inside i is,
        newest n event flag (marks_in log) news (marks_in (log ++ updates)) m t.table (marks_on log updates) (one_comes most) i (mark_by (stay_at log i) (one_of i is).0) is (new_one i is),
        passes,
      )

      asks_some : (updated_by updates).again ≡ true → SomeMark n (λ (x : UpdateMark). x.again || x.arms) (column (marks_in (log ++ updates)) m)
      asks_some again = let p = part_of_any again_by updates again in by p.0 p.1 (event p.0) refl where
        by : (i : ℕ) → list_any again_by (part i updates) ≡ true → (b : Bool) → event i ≡ b → SomeMark n (λ (x : UpdateMark). x.again || x.arms) (column (marks_in (log ++ updates)) m)
        by i h true is =
            let o = one_of i is in
            some_mark i is (or_left (U.asks_again o.0.result) (stay_at log i).arms (sym (again_same o.0.result) ∙ or_true (again_by o.0) (ap (list_any again_by) (sym o.1) ∙ h)))
        by i h false is = absurd (let wrong : false ≡ true = ap (list_any again_by) (sym (none_of i is)) ∙ h in cc)

      armed_some : SomeArmed log → SomeMark n (λ (x : UpdateMark). x.again || x.arms) (column (marks_in (log ++ updates)) m)
      armed_some (i, is, arms) = some_mark i is (or_right (U.asks_again (one_of i is).0.result) (stay_at log i).arms arms)

      ends_none : (updated_by updates).asked ≡ false → SomeMark n (λ (x : UpdateMark). x.ends) (column (marks_in (log ++ updates)) m) → ⊥
      ends_none goes_on (i, mark, within, at, ends) = by (old_or_new n event flag (marks_in log) news (marks_in (log ++ updates)) m t.table (marks_on log updates) (one_comes most) m i mark at) where
        head_same : (a b : UpdateMark) → a ∷ [] ≡ b ∷ [] → a ≡ b
        head_same a b e = cc

        by : OldOrNew n event flag (marks_in log) news (marks_in (log ++ updates)) m t.table (marks_on log updates) (one_comes most) m i mark → ⊥
        by (inl (before, old)) = absurd (omega (arith, before))
        by (inr (here, is, one, follow)) =
            let o = one_of i is in
            let passes : ends_by o.0 ≡ true = ends_same o.0.result ∙ ap (λ (x : UpdateMark). x.ends) (head_same (mark_by (stay_at log i) o.0) mark (sym (new_one i is) ∙ one)) ∙ ends in
            absurd (let wrong : true ≡ false = sym (any_in_part ends_by i updates (ap (list_any ends_by) o.1 ∙ or_left (ends_by o.0) false passes)) ∙ goes_on in cc)

      pub asks : (armed : Bool) → ((updated_by updates).again || armed) ≡ true → (armed ≡ true → SomeArmed log) → (updated_by updates).asked ≡ false → Asked (log ++ updates) (suc m)
      asks armed again some goes_on k is = subst (λ (x : ℕ). Ask n (column (marks_in (log ++ updates)) x)) (omega (arith, is)) (record { again = by (updated_by updates).again refl again; goes_on = ends_none goes_on }) where
        by : (b : Bool) → (updated_by updates).again ≡ b → (b || armed) ≡ true → SomeMark n (λ (x : UpdateMark). x.again || x.arms) (column (marks_in (log ++ updates)) m)
        by true asked h = asks_some asked
        by false none h = armed_some (some h)
