-- From the place after an instant to the next, to a step and to an end, from the place after a step to an end, and the end line.
use Rattle.std.proofs.Common.{◌≡◌, ◌≢◌, ℕ, suc, ◌+◌, Bool, true, false, List, [], ◌∷◌, Option, Some, None, Result, inl, inr, refl, sym, ap, ◌∙◌, subst, arith}
use Rattle.std.specs.Prelude.{◌==◌, IfSome}
use Rattle.std.proofs.lemmas.Bool.Decides.{nat_tests}
use Rattle.sim_base.specs.Sink.{SinkView, with_piece}
use Rattle.fmu_peer.specs.CloseAll.{Instance}
use Rattle.system_model.specs.Text.{Instant, end_text}
use Rattle.slot_calls.specs.Log.{Sent}
use Rattle.event_iteration.specs.declared.updates.Updated.{Updated}
use Rattle.calling_sequence.specs.declared.buffers.Buffers.{Buffers}
use Rattle.calling_sequence.specs.declared.ending.Break.{Break}
use Rattle.calling_sequence.specs.declared.ending.Break.TheVariants as B
use Rattle.calling_sequence.specs.declared.ending.Ending.{Ending}
use Rattle.calling_sequence.specs.declared.experiment.Experiment.{Experiment}
use Rattle.calling_sequence.specs.declared.run_end.RunEnd.{RunEnd}
use Rattle.calling_sequence.specs.declared.run_end.RunEnd.TheVariants as E
use Rattle.calling_sequence.specs.Course.{Again, InstantDone, MayLeave, Place, Restored, Spot, Stepped}
use Rattle.calling_sequence.specs.Ends.{AtLimit, AtStop, ByStep, ByUpdate, EndLine, EndsAt, EndsIn, FinishesIn, LacksStep, MayEnd, PutsAll, RunsIn, Unfit, UnfitAtFirst, Well, kind_of_end, pieces_in, point_of}
use Rattle.calling_sequence.specs.StageOutcomes.{BreaksOff, Crosses, before_instant, instant_done, spot}
use Rattle.calling_sequence.specs.Here.{Follows, Here, Past, PutsEnd, PutsEndAfter}
use Rattle.calling_sequence.specs.Puts.{PutsPrefixOf}
use Rattle.calling_sequence.specs.Ready.{AreTimed}
use Rattle.calling_sequence.proofs.Onto.{ends, on_silently, pieces_append}
use Rattle.calling_sequence.proofs.ScheduleSteps.{begins, never_first}

pub reached : (n limit : ℕ) → n + 1 ≡ limit → (suc n == limit) ≡ true
reached n limit is = grind (arith, nat_tests)

pub more_left : (n limit : ℕ) → n + 1 ≢ limit → (suc n == limit) ≡ false
more_left n limit is = grind (arith, nat_tests)

module _ (e : Experiment) (t n : ℕ) (b : Buffers) (u : Updated) (olds : List Instance) (past : Past) (mids : List Instance) (present : SinkView) (count : ℕ) (h : Here e olds past (instant_done t n b u) mids present count) where
  abbrev here : Spot
  here = spot t n b

  ended : (end : RunEnd) (again asked : Bool) → u.again ≡ again → u.asked ≡ asked → EndsAt e.system e.plan end (InstantDone here again asked) → MayEnd past.extent end → Follows e past.extent olds past.sink (record { end = end; point = t }) mids present count
  ended end again asked f g at may =
      ends e olds past (instant_done t n b u) mids present count h end (subst (λ (x : Bool). EndsAt e.system e.plan end (InstantDone here x u.asked)) (sym f) (subst (λ (x : Bool). EndsAt e.system e.plan end (InstantDone here again x)) (sym g) at)) may

  pub asked_there : u.asked ≡ true → Follows e past.extent olds past.sink (record { end = E.Asked t; point = t }) mids present count
  asked_there is = ended (E.Asked t) u.again true refl is (ByUpdate here u.again) tt

  pub limited_there : u.again ≡ true → u.asked ≡ false → n + 1 ≡ e.plan.limit → Follows e past.extent olds past.sink (record { end = E.EventLimit t; point = t }) mids present count
  limited_there f g is = ended (E.EventLimit t) true false f g (AtLimit here (reached n e.plan.limit is)) tt

  pub stops_there : u.again ≡ false → u.asked ≡ false → t ≡ e.plan.stop → Follows e past.extent olds past.sink (record { end = E.Stop; point = t }) mids present count
  stops_there f g is = ended E.Stop false false f g (AtStop here is) tt

  -- the point is done
  pub done_there : u.again ≡ false → u.asked ≡ false → Here e olds past (InstantDone here false false) mids present count
  done_there f g = subst (λ (x : Bool). Here e olds past (InstantDone here false x) mids present count) g (subst (λ (x : Bool). Here e olds past (InstantDone here x u.asked) mids present count) f h)

  -- another instant
  pub again_there : u.again ≡ true → u.asked ≡ false → n + 1 ≢ e.plan.limit → AreTimed e t (n + 1) false b → Here e olds past (before_instant t (n + 1) b) mids present count
  again_there f g more timed = subst (λ (k : ℕ). Here e olds past (before_instant t k b) mids present count) (omega arith)
      (on_silently e olds past (InstantDone here true false) mids present count (subst (λ (x : Bool). Here e olds past (InstantDone here true x) mids present count) g (subst (λ (x : Bool). Here e olds past (InstantDone here x u.asked) mids present count) f h)) (before_instant t (suc n) b) refl
      (Again here [] [] _ (more_left n e.plan.limit more) (begins e.system e.plan b.schedule t (suc n) false b.values timed.places timed.starts timed.stands (never_first (suc n) n refl))) tt refl)

-- a step isn't made
module _ (e : Experiment) (s : Spot) (ending : Ending) (lacks : LacksStep e.system e.plan s.timers s.events s.t ending) (olds : List Instance) (past : Past) (may : MayLeave past.extent s.t) (mids : List Instance) (present : SinkView) (count : ℕ) where
  unfit_by : (p : Place) → EndsAt e.system e.plan (E.FixedStep lacks.component s.t lacks.to) p → point_of e.plan p ≡ s.t → Here e olds past p mids present count → Follows e past.extent olds past.sink ending mids present count
  unfit_by p ends_at there h =
      subst (λ (x : Ending). Follows e past.extent olds past.sink x mids present count) (sym lacks.ending_is)
      (subst (λ (k : ℕ). Follows e past.extent olds past.sink (record { end = E.FixedStep lacks.component s.t lacks.to; point = k }) mids present count) there
      (ends e olds past p mids present count h (E.FixedStep lacks.component s.t lacks.to) ends_at may))

  pub unfit_there : Here e olds past (InstantDone s false false) mids present count → Follows e past.extent olds past.sink ending mids present count
  unfit_there = unfit_by (InstantDone s false false) (Unfit s lacks.component lacks.to lacks.bound lacks.unfit) refl

  pub unfit_at_first : Here e olds past (Restored s) mids present count → Follows e past.extent olds past.sink ending mids present count
  unfit_at_first = unfit_by (Restored s) (UnfitAtFirst s lacks.component lacks.to lacks.bound lacks.unfit) refl

-- it ends so
pub ends_so : (e : Experiment) (olds : List Instance) (past : Past) (news : List Instance) (after : SinkView) (counted : ℕ) (x y : Ending) → x ≡ y → Follows e past.extent olds past.sink y news after counted → Follows e past.extent olds past.sink x news after counted
ends_so e olds past news after counted x y is f = subst (λ (z : Ending). Follows e past.extent olds past.sink z news after counted) (sym is) f

-- after a step
module _ (e : Experiment) (s : Spot) (asked : Bool) (olds : List Instance) (past : Past) (mids : List Instance) (present : SinkView) (count : ℕ) (h : Here e olds past (Stepped s asked) mids present count) where
  pub asked_by_step : asked ≡ true → Follows e past.extent olds past.sink (record { end = E.Asked s.t; point = s.t }) mids present count
  asked_by_step is = ends e olds past (Stepped s asked) mids present count h (E.Asked s.t) (subst (λ (x : Bool). EndsAt e.system e.plan (E.Asked s.t) (Stepped s x)) (sym is) (ByStep s)) tt

  pub stepped_there : asked ≡ false → Here e olds past (Stepped s false) mids present count
  stepped_there is = subst (λ (x : Bool). Here e olds past (Stepped s x) mids present count) is h

-- from a step whose answers ask for no end
pub crosses_plain : (e : Experiment) (s : Spot) (asked : Bool) → asked ≡ false → (q : ℕ → Place) (mids news : List Instance) (count : ℕ) (r : Result ℕ Ending) → Crosses e (Stepped s false) q mids news count count r → Crosses e (Stepped s asked) q mids news count count r
crosses_plain e s asked is q mids news count r crosses = subst (λ (x : Bool). Crosses e (Stepped s x) q mids news count count r) (sym is) crosses

-- what holds at the point that is reached
pub if_there : (r : Option ℕ) (m : ℕ) (P : ℕ → Type 0) → IfSome r (λ point. point ≡ m) → P m → IfSome r P
if_there (Some point) m P is p = subst P (sym is) p
if_there None m P is p = tt

-- ---- the end line

module _ (e : Experiment) (olds : List Instance) (past : Past) (news : List Instance) (present after : SinkView) (counted : ℕ) where
  abbrev Runs : RunEnd → Type 0
  Runs end = RunsIn e.system e.bound e.plan past.extent olds news past.sink after counted end

  whole : (log : List Sent) (is : List Instant) (end : RunEnd) (point : ℕ) → FinishesIn e.system e.bound e.plan past.extent end point log is → PutsAll e.system e.bound e.plan past.extent log is end past.sink after → EndsIn e.system e.bound e.plan past.extent log is end past.sink after
  whole log is E.Stop point f w = w
  whole log is (E.Asked at) point f w = w
  whole log is (E.EventLimit at) point f w = w
  whole log is (E.FixedStep component at end) point f w = w
  whole log is (E.Range lost at) point f w = w
  whole log is (E.Held at) point f w = absurd (never f) where
    never : {q : ℕ} → FinishesIn e.system e.bound e.plan past.extent (E.Held at) q log is → ⊥
    never (Well p end l i course at may) = elim at [ ]
  whole log is (E.Bad bad) point f w = w
  whole log is E.WriteFault point f w = absurd (never f) where
    never : {q : ℕ} → FinishesIn e.system e.bound e.plan past.extent E.WriteFault q log is → ⊥
    never (Well p end l i course at may) = elim at [ ]

  finished : (ending : Ending) (end : RunEnd) → Follows e past.extent olds past.sink ending news present counted → PutsEnd ending end present after → Runs end
  finished ending end f (inl (same, last)) = subst Runs (sym same) (record {
    log = f.log;
    is = f.is;
    told = f.told;
    ends = whole f.log f.is ending.end ending.point f.finishes (
      ending.point,
      f.finishes,
      last ∙ ap (λ (v : SinkView). with_piece v (end_text (kind_of_end ending.end) ending.point)) f.put ∙ sym (pieces_append past.sink (pieces_in e.system e.plan past.extent f.is) (end_text (kind_of_end ending.end) ending.point ∷ [])),
    );
    counted_is = f.counted;
  })
  finished ending end f (inr (same, cut)) = subst Runs (sym same) (record {
    log = f.log;
    is = f.is;
    told = f.told;
    ends = record {
      pieces = pieces_in e.system e.plan past.extent f.is;
      piece = end_text (kind_of_end ending.end) ending.point;
      awaits = EndLine past.extent ending.end ending.point f.log f.is f.finishes;
      cuts = subst (λ (v : SinkView). PutsPrefixOf v (end_text (kind_of_end ending.end) ending.point) after) f.put cut;
    };
    counted_is = f.counted;
  })

  -- how a run ends, by how it breaks off and its end line
  pub concluded : (broken : Break) → BreaksOff e olds past news present counted broken → (end : RunEnd) → PutsEndAfter broken end present after → Runs end
  concluded (B.Ends ending) b end c = finished ending end b c
  concluded B.Write b end (same, none) =
      subst Runs (sym same) (subst (λ (v : SinkView). RunsIn e.system e.bound e.plan past.extent olds news past.sink v counted E.WriteFault) (sym none) b)
