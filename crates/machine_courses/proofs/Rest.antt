-- Of machines that behave well a trace goes on from each situation that their run comes to.
use Rattle.std.proofs.Common.{◌≡◌, ◌⊎◌, inl, inr, ℕ, zero, suc, ◌+◌, ◌<◌, ◌≤◌, ℤ, Bool, true, false, nat_lt, List, [], ◌∷◌, ◌++◌, Option, refl, sym, ap, ◌∙◌, subst, append_assoc, append-nil, arith}
use Rattle.std.specs.Prelude.{◌==◌}
use Rattle.std.proofs.lemmas.Bool.{both_ways}
use Rattle.std.proofs.lemmas.Bool.Decides.{nat_tests}
use Rattle.system_model.specs.declared.plan.EndKind.{EndKind}
use Rattle.system_model.specs.declared.plan.EndKind.TheVariants as K
use Rattle.system_model.specs.Sound.{IsSound}
use Rattle.system_model.specs.Text.{Instant}
use Rattle.run_model.specs.AfterInstant as F
use Rattle.run_model.specs.AfterInstant.{Again, AtLimit, Done, Ended, any_update, asks_for_end, following, updated}
use Rattle.run_model.specs.Behaved as B
use Rattle.run_model.specs.Behaved.{Reached, WellBehaved}
use Rattle.std.specs.List.{list_any}
use Rattle.run_model.specs.Equations.{Solves, is_bad}
use Rattle.run_model.specs.Initial as I
use Rattle.run_model.specs.Machines.{AreMachines}
use Rattle.run_model.specs.Run.{Run, Situation}
use Rattle.run_model.specs.Stepping as P
use Rattle.run_model.specs.Stepping.{Ends, GoesOn, asks_to_end, stepped, steppers}
use Rattle.run_model.specs.Steps.{Agree, OnStop, StopsShort}
use Rattle.run_model.specs.Trace.{Continues, Fails, Further, IsTrace, Last, Leads, Runs, Unwritten, instant_of}
use Rattle.run_model.proofs.CallerLemmas.{situation_reached, solvable_initially}
use Rattle.event_iteration.proofs.ByLog.{AreAll, updated_all}
use Rattle.step_agreement.specs.Exists.{EndWell}
use Rattle.step_agreement.proofs.CallerLemmas.{agree_within, agrees_or_stops, end_well}
use Rattle.calling_sequence.specs.Calls.{IsBoundOf}
use Rattle.system_model.specs.Plans.{IsPlan}
use Rattle.machine_courses.proofs.Bounds.{bound_exists}
use Rattle.machine_courses.proofs.Following.{by_answers, following_by, following_lost, leads_by, reached_by}
use Rattle.machine_courses.proofs.Prefixes.{Ahead, Nowhere, Past, Prefix, traced_on}
use Rattle.machine_courses.proofs.Instants.{solution}
use Rattle.machine_courses.proofs.Places.{IsWithin}
use Rattle.machine_courses.proofs.Rows.{below_more}
use Rattle.machine_courses.proofs.StepCalls.{ends_where}

same_place : (t stop : ℕ) → nat_lt t stop ≡ false → t ≤ stop → t ≡ stop
same_place t stop e within = grind (arith, nat_tests)

less_place : (t stop : ℕ) → nat_lt t stop ≡ true → t < stop
less_place t stop e = grind (arith, nat_tests)

-- the rest of a trace from a situation on, whose instant has these values; where none is lost on its way it is the first
record Rest (r : Run) (z : Situation) (V : List (Option ℤ)) : Type 0 where
  kind : EndKind
  end : ℕ
  is : List Instant
  on : Continues r z is kind end
  shows : list_any (is_bad V) r.system.ports ≡ false → (rest : List Instant) × (is ≡ instant_of z V ∷ rest)

module _ (r : Run) (sound : IsSound r.system) (plan : IsPlan r.plan) (machines : AreMachines r) (well : WellBehaved r) where
  -- from each situation that is so a trace goes on
  abbrev GoesOnWhere : (Situation → Type 0) → Type 0
  GoesOnWhere So = (z : Situation) → So z → Reached r z → IsWithin r.plan z.t z.n → (V : List (Option ℤ)) → Solves r z V → Rest r z V

  -- from an instant, where one goes on from each at a later point
  module _ (z : Situation) (onward : GoesOnWhere (λ y. z.t < y.t)) (reached : Reached r z) (within : IsWithin r.plan z.t z.n) (V : List (Option ℤ)) (solves : Solves r z V) where
    abbrev u : Situation
    u = updated r z V

    all : AreAll r u.states
    all = updated_all r machines z (situation_reached sound machines reached) V

    last : (kind : EndKind) (end : ℕ) → Leads r z V (Ends kind end) → Rest r z V
    last kind end leads = record { kind = kind; end = end; is = instant_of z V ∷ []; on = Last z V _ kind end solves leads refl; shows = λ kept. ([], refl) }

    further : (next : Situation) → Leads r z V (GoesOn next) → ((Reached r next) → (W : List (Option ℤ)) → Solves r next W → Rest r next W) → Rest r z V
    further next leads goes =
        let there = B.Onward z V next reached solves leads in
        let W = solution r sound machines next there in
        let more = goes there W.0 W.1 in
        record { kind = more.kind; end = more.end; is = instant_of z V ∷ more.is; on = Further z V _ more.kind more.end next more.is solves leads refl more.on; shows = λ kept. (more.is, refl) }

    -- the point is done
    module _ (done : following r z V ≡ Done) where
      departs : (next : P.Next) → P.Departs r u next → Leads r z V next
      departs next d = leads_by r z V Done next done d

      module _ (to : ℕ) (bound : IsBoundOf r.plan u.timers u.events z.t to) where
        ends_here : EndWell (steppers r u) z.t r.plan.step to
        ends_here = end_well (steppers r u) z.t r.plan.step to bound.bound.later
            (ends_where r sound machines well u all (record { s = z; values = V; reached = reached; solves = solves; done = done; is = refl; before_stop = bound.before_stop }) to bound.bound)

        by_answer : (kept : List ℕ) (point : ℕ) → P.IsStep r u kept point → z.t < point → point ≤ to → (a : Bool) → asks_to_end r u kept ≡ a → Rest r z V
        by_answer kept point made later most true asks = last K.Asked point (departs (Ends K.Asked point) (P.WhereAsked _ kept point made asks refl))
        by_answer kept point made later most false asks =
            let next = stepped r u kept point in
            let begun = within.begun in
            let high = bound.bound.least r.plan.stop bound.before_stop (OnStop refl) in
            further next (departs (GoesOn next) (P.ByStep _ kept point made asks refl))
            (λ there W solved. onward next later there (record { begun = omega (arith, begun, later); ended = omega (arith, most, high); below = plan.limit_above }) W solved)

        -- an agreement is there, or a step that one of them can't make
        by_end : ((kept : List ℕ) × (point : ℕ) × Agree (steppers r u) z.t r.plan.step to kept point) ⊎ ((i e : ℕ) × StopsShort (steppers r u) z.t r.plan.step to i e) → Rest r z V
        by_end (inl h) =
            let span = agree_within (steppers r u) z.t r.plan.step to h.0 h.1 h.2 bound.bound.later ends_here in
            by_answer h.0 h.1 (record { before_stop = bound.before_stop; bound = to; is_bound = bound.bound; agree = h.2 }) span.0 span.1 (asks_to_end r u h.0) refl
        by_end (inr h) = last K.Fixed z.t (departs (Ends K.Fixed z.t) (P.WhereFixed _ h.0 h.1 (record { before_stop = bound.before_stop; bound = to; is_bound = bound.bound; stops = h.2 }) refl))

      by_place : (c : Bool) → nat_lt z.t r.plan.stop ≡ c → Rest r z V
      by_place false e = last K.Stop z.t (departs (Ends K.Stop z.t) (P.AtStop _ (same_place z.t r.plan.stop e within.ended) refl))
      by_place true e =
          let before = less_place z.t r.plan.stop e in
          let bound = bound_exists r u.timers u.events z.t before in
          let own : IsBoundOf r.plan u.timers u.events z.t bound.0 = record { before_stop = before; bound = bound.1 } in
          by_end bound.0 own (agrees_or_stops (steppers r u) z.t r.plan.step bound.0 bound.1.later (ends_here bound.0 own))

    -- a value is lost on its way
    lost_here : list_any (is_bad V) r.system.ports ≡ true → Rest r z V
    lost_here lost = record {
      kind = K.Range;
      end = z.t;
      is = [];
      on = Unwritten z V [] K.Range z.t solves (leads_by r z V F.OutOfRange (P.EndsBefore K.Range z.t) (following_lost r z V lost) refl) refl;
      shows = λ kept. absurd (both_ways _ kept lost);
    }

    -- or another instant is asked for
    by_following : (Reached r u → IsWithin r.plan u.t u.n → (W : List (Option ℤ)) → Solves r u W → Rest r u W) → (asked goes limited : Bool) → (suc z.n == r.plan.limit) ≡ limited → following r z V ≡ by_answers asked goes limited → Rest r z V
    by_following again true goes limited l e = last K.Asked z.t (leads_by r z V Ended (Ends K.Asked z.t) e refl)
    by_following again false false limited l e = by_place e (nat_lt z.t r.plan.stop) refl
    by_following again false true true l e = last K.Limit z.t (leads_by r z V AtLimit (Ends K.Limit z.t) e refl)
    by_following again false true false l e =
        further u (leads_by r z V Again (GoesOn u) e refl) (λ there W solved. again there (record { begun = within.begun; ended = within.ended; below = below_more z.n r.plan.limit within.below l }) W solved)

  goes_again : (more : ℕ) (z : Situation) → r.plan.limit ≤ z.n + more → GoesOnWhere (λ y. z.t < y.t) → Reached r z → IsWithin r.plan z.t z.n → (V : List (Option ℤ)) → Solves r z V → Rest r z V
  goes_again zero z enough onward reached within V solves = absurd (let below = within.below in omega (arith, enough, below))
  goes_again (suc more) z enough onward reached within V solves =
      by_loss (λ there inside W solved. goes_again more (updated r z V) (omega (arith, enough)) onward there inside W solved) (list_any (is_bad V) r.system.ports) refl
    where
      by_loss : (Reached r (updated r z V) → IsWithin r.plan (updated r z V).t (updated r z V).n → (W : List (Option ℤ)) → Solves r (updated r z V) W → Rest r (updated r z V) W) → (b : Bool) →
          list_any (is_bad V) r.system.ports ≡ b → Rest r z V
      by_loss again true lost = lost_here z onward reached within V solves lost
      by_loss again false kept =
          by_following z onward reached within V solves again
          (any_update asks_for_end r z V) (F.goes_again r z V) (suc z.n == r.plan.limit) refl (following_by r z V kept)

  goes_on : (left : ℕ) → GoesOnWhere (λ z. r.plan.stop ≤ z.t + left)
  goes_on zero z enough reached within V solves =
      goes_again r.plan.limit z (omega arith) (λ y later there inside W solved. absurd (let ended = inside.ended in omega (arith, enough, ended, later))) reached within V solves
  goes_on (suc left) z enough reached within V solves =
      goes_again r.plan.limit z (omega arith) (λ y later there inside W solved. goes_on left y (omega (arith, enough, later)) there inside W solved) reached within V solves

  -- a trace after these instants
  pub record Whole (prefix : List Instant) : Type 0 where
    pub kind : EndKind
    pub point : ℕ
    pub rest : List Instant
    pub trace : IsTrace r (prefix ++ rest) kind point

  -- from its beginning
  from_start : (is : List Instant) → is ≡ [] → (W : List (Option ℤ)) → I.SolvesInitially r W → (b : Bool) → list_any (I.is_bad_initially r.system W) r.system.ports ≡ b → Whole is
  from_start is none W solves true lost =
      record { kind = K.Range; point = r.plan.start; rest = []; trace = Fails W solves lost (append-nil is ∙ none) refl refl }
  from_start is none W solves false kept =
      let z = I.beginning r W in
      let there = B.AtFirst z W solves kept refl in
      let V = solution r sound machines z there in
      let more = goes_on r.plan.stop z (omega arith) there (record { begun = omega arith; ended = plan.ordered; below = plan.limit_above }) V.0 V.1 in
      record { kind = more.kind; point = more.end; rest = more.is; trace = subst (λ (xs : List Instant). IsTrace r (xs ++ more.is) more.kind more.end) (sym none) (Runs W solves kept more.on) }

  pub whole : (is : List Instant) → Prefix r is → Whole is
  whole is (Nowhere none) =
      let W = solvable_initially r sound machines in
      from_start is none W.0 W.1 (list_any (I.is_bad_initially r.system W.0) r.system.ports) refl
  whole is (Ahead z came within) =
      let V = solution r sound machines z (reached_by r z is came) in
      let more = goes_on r.plan.stop z (omega arith) (reached_by r z is came) within V.0 V.1 in
      record { kind = more.kind; point = more.end; rest = more.is; trace = traced_on r more.kind more.end z is more.is came more.on }
  whole is (Past z V earlier came within solves kept is_is) =
      let more = goes_on r.plan.stop z (omega arith) (reached_by r z earlier came) within V solves in
      let shows = more.shows kept in
      record {
        kind = more.kind;
        point = more.end;
        rest = shows.0;
        trace = subst (λ (xs : List Instant). IsTrace r xs more.kind more.end) (sym (append_assoc earlier (instant_of z V ∷ []) shows.0) ∙ ap (λ (xs : List Instant). xs ++ shows.0) (sym is_is))
            (traced_on r more.kind more.end z earlier (instant_of z V ∷ shows.0) came (subst (λ (xs : List Instant). Continues r z xs more.kind more.end) shows.1 more.on));
      }
