-- The trace of a run whose FMUs behave well is in form, and breaks no rule of its system.
use Rattle.std.proofs.Common.{◌≡◌, ℕ, suc, ◌-◌, ◌≤◌, ℤ, pos, Bool, List, [], ◌∷◌, ◌++◌, length, refl, sym, ap, ◌∙◌, subst, inl, inr, arith}
use Rattle.std.specs.Prelude.{Option, Some, None, if◌then◌else◌, slice_get}
use Rattle.std.specs.List.{AllByRecursion}
use Rattle.std.specs.Option.{option_map}
use Rattle.std.proofs.lemmas.Option.{get_or_from_slice_get, none-some as none_some, same_Some}
use Rattle.system_model.specs.declared.plan.EndKind.{EndKind}
use Rattle.system_model.specs.declared.plan.EndKind.TheVariants.{Range, Stop}
use Rattle.system_model.specs.declared.system.Role.{Role}
use Rattle.system_model.specs.declared.system.Role.TheVariants.{Input, Output, ClockInput, ClockOutput, TimeClock}
use Rattle.system_model.specs.Carried.{comes_to, fed, source_value}
use Rattle.system_model.specs.Text.{Instant}
use Rattle.run_model.specs.Run.{Every, Never, Run, Situation, Timer}
use Rattle.system_model.specs.Values.{value}
use Rattle.run_model.specs.Timers.{IsDue}
use Rattle.run_model.specs.Equations.{IsTickValue, Solves, SolvesAt, timer_of}
use Rattle.run_model.specs.Trace.{Continues, Fails, Further, IsTrace, Last, Runs, Unwritten, instant_of}
use Rattle.run_model.specs.Laws.{SolvedByFitting}
use Rattle.trace_reading.specs.Form.{IsInstant, kinds_of}
use Rattle.trace_reading.specs.Written.{IsWritable, ports_told, trace_told}
use Rattle.trace_check.specs.Instants.{IsInOrder, ReachesPoint, last_time}
use Rattle.trace_check.specs.Values.{DiffersFromSource}
use Rattle.trace_check.specs.Ticks.{IsConstantClock, IsOffTick, PassesTick}
use Rattle.trace_check.specs.Ticks.IsOffTick.{Wrong, Passed}
use Rattle.trace_check.specs.Rules.{Breaks, BreaksIn, KeepsRules}
use Rattle.trace_check.specs.Rules.Breaks.{AtPort, InInstant, AtEnd}
use Rattle.trace_check.specs.Rules.BreaksIn.{OutOfOrder, OffSource, OffTick}
use Rattle.trace_laws.specs.Laws.{IsTraceOf, RunsWell}
use Rattle.trace_laws.proofs.Timers.{IsPeriodicPort}
use Rattle.trace_laws.proofs.Lines.{same_instants}
use Rattle.trace_laws.proofs.RunOrder.{Comes, Stands, first_comes, first_stands, in_form, leads_off, leads_on, leads_out}

-- ---- one instant

-- it breaks no rule after the one at last
pub record KeepsIn (r : Run) (last : Option (ℕ × ℕ)) (i : Instant) : Type 0 where
  pub order : IsInOrder r.plan.start r.plan.stop last i.t i.n
  pub sources : (p : ℕ) → DiffersFromSource r.system i.values p → ⊥
  pub ticks : (p interval shift : ℕ) → IsConstantClock r.system p interval shift → IsOffTick r.plan.start interval shift last i.t i.n (value i.values p) → ⊥

-- an input that is present has what its path makes of its source's value
sources_same : (r : Run) (s : Situation) (V : List (Option ℤ)) → Solves r s V → (p : ℕ) → DiffersFromSource r.system V p → ⊥
sources_same r s V solves p d = by d.port.role d.fed (solves.equations p d.port d.at)
  where
    by : (role : Role) → comes_to role d.port.kind V ≡ Some d.comes → SolvesAt role r s V p d.port (value s.before p) (value V p) → ⊥
    by (Input None) from h = absurd (none_some d.comes from)
    by (Input (Some feed)) from h =
        d.differs (h ∙ ap (λ (b : Bool). if b then fed d.port.kind feed V else value s.before p) d.present ∙ same_Some (fed d.port.kind feed V) d.comes from)
    by Output from h = absurd (none_some d.comes from)
    by (ClockInput None) from h = absurd (none_some d.comes from)
    by (ClockInput (Some feed)) from h = d.differs (h ∙ same_Some (source_value feed V) d.comes from)
    by ClockOutput from h = absurd (none_some d.comes from)
    by (TimeClock timing) from h = absurd (none_some d.comes from)

one_zero : (v : Option ℤ) → v ≡ Some (pos 1) → v ≡ Some (pos 0) → ⊥
one_zero v one none =
    let same : pos 1 ≡ pos 0 = same_Some (pos 1) (pos 0) (sym one ∙ none) in
    let number : ◌≡◌ {A = ℕ} 1 0 = cc same in
    omega (arith, number)

-- a periodic Clock is 1 where it is due, and its ticks aren't passed over
tick_right : (start interval shift t n : ℕ) (last : Option (ℕ × ℕ)) (v : Option ℤ) → IsTickValue (IsDue start (Every interval shift) t n) v → (PassesTick start interval shift last t → ⊥) →
    IsOffTick start interval shift last t n v → ⊥
tick_right start interval shift t n last v (inl h) none (Wrong differs) = differs ((λ one. h.0), (λ due. h.1))
tick_right start interval shift t n last v (inr h) none (Wrong differs) = differs ((λ one. absurd (one_zero v one h.1)), (λ due. absurd (h.0 due)))
tick_right start interval shift t n last v h none (Passed passed) = none passed

keeps_in : (r : Run) (s : Situation) (V : List (Option ℤ)) (last : Option (ℕ × ℕ)) → Stands r s → Comes r last s.t s.n → Solves r s V → KeepsIn r last (instant_of s V)
keeps_in r s V last at comes solves = record {
  order = comes.order;
  sources = sources_same r s V solves;
  ticks = λ p interval shift clock.
      let periodic : IsPeriodicPort r.system.ports p interval shift = record { port = clock.port; at = clock.at; role = clock.role } in
      let timer : timer_of s.timers p ≡ Every interval shift = get_or_from_slice_get s.timers p (Every interval shift) Never (at.periods p interval shift periodic) in
      let equation = subst (λ (w : Role). SolvesAt w r s V p clock.port (value s.before p) (value V p)) clock.role (solves.equations p clock.port clock.at) in
      tick_right r.plan.start interval shift s.t s.n last (value V p) (subst (λ (w : Timer). IsTickValue (IsDue r.plan.start w s.t s.n) (value V p)) timer equation) (comes.passes_none p interval shift periodic);
}

-- ---- all instants

-- what is said of each instant and the time of the one before it
abbrev pub AllAfter : (Option (ℕ × ℕ) → Instant → Type 0) → Option (ℕ × ℕ) → List Instant → Type 0
AllAfter P last [] = Unit {0}
AllAfter P last (i ∷ is) = P last i × AllAfter P (Some (i.t, i.n)) is

abbrev last_or : Option (ℕ × ℕ) → List Instant → Option (ℕ × ℕ)
last_or last [] = last
last_or last (i ∷ is) = last_or (Some (i.t, i.n)) is

at_cut : (P : Option (ℕ × ℕ) → Instant → Type 0) (last : Option (ℕ × ℕ)) (a b : List Instant) (i : Instant) → AllAfter P last (a ++ (i ∷ b)) → P (last_or last a) i
at_cut P last [] b i all = all.0
at_cut P last (j ∷ a) b i all = at_cut P (Some (j.t, j.n)) a b i all.1

abbrev time_of : Option Instant → Option (ℕ × ℕ)
time_of o = option_map (λ (i : Instant). (i.t, i.n)) o

last_at : (i : Instant) (is : List Instant) → time_of (slice_get (i ∷ is) (length is)) ≡ last_or (Some (i.t, i.n)) is
last_at i [] = refl
last_at i (j ∷ is) = last_at j is

last_is : (is : List Instant) → last_time is ≡ last_or None is
last_is [] = refl
last_is (i ∷ is) =
    let size : length (i ∷ is) - 1 ≡ length is = omega arith in
    ap (λ (k : ℕ). time_of (slice_get (i ∷ is) k)) size ∙ last_at i is

-- the instants and the end, after the instant at last
pub record Told (r : Run) (last : Option (ℕ × ℕ)) (is : List Instant) (kind : EndKind) (end : ℕ) : Type 0 where
  pub keep : AllAfter (KeepsIn r) last is
  pub form : AllByRecursion (IsInstant (kinds_of (ports_told r.system))) is
  pub low : end ≤ r.plan.stop
  pub stops : kind ≡ Stop → (end ≡ r.plan.stop) × ReachesPoint r.plan.stop is

reached_later : (point : ℕ) (i : Instant) (is : List Instant) → ReachesPoint point is → ReachesPoint point (i ∷ is)
reached_later point i is reaches = record { place = suc reaches.place; instant = reaches.instant; at = reaches.at; there = reaches.there }

module _ (r : Run) (well : RunsWell r) (fitting : SolvedByFitting) where
  told : {s : Situation} {is : List Instant} {kind : EndKind} {end : ℕ} → Continues r s is kind end → (last : Option (ℕ × ℕ)) → Stands r s → Comes r last s.t s.n → Told r last is kind end
  told (Last s V is kind end solves leads e) last at comes =
      let out = leads_out r well fitting s V at solves kind end leads in
      subst (λ (xs : List Instant). Told r last xs kind end) (sym e) (record {
        keep = (keeps_in r s V last at comes solves, tt);
        form = (in_form r well fitting s V at solves, tt);
        low = out.within;
        stops = λ stop. ((out.stop stop).0, record { place = 0; instant = instant_of s V; at = refl; there = (out.stop stop).1 });
      })
  told (Unwritten s V is kind end solves leads e) last at comes =
      let off = leads_off r well fitting s V at solves kind end leads in
      let range : kind ≡ Range = off.1 in
      subst (λ (xs : List Instant). Told r last xs kind end) (sym e) (record {
        keep = tt;
        form = tt;
        low = (let there = off.0 in let most = at.point in omega (arith, there, most));
        stops = λ stop. absurd (cc (range, stop));
      })
  told (Further s V is kind end next rest solves leads e more) last at comes =
      let goes = leads_on r well fitting s V at solves next leads in
      let later = told more (Some (s.t, s.n)) goes.stands goes.comes in
      subst (λ (xs : List Instant). Told r last xs kind end) (sym e) (record {
        keep = (keeps_in r s V last at comes solves, later.keep);
        form = (in_form r well fitting s V at solves, later.form);
        low = later.low;
        stops = λ stop. ((later.stops stop).0, reached_later r.plan.stop (instant_of s V) rest (later.stops stop).1);
      })

  told_trace : {is : List Instant} {kind : EndKind} {end : ℕ} → IsTrace r is kind end → Told r None is kind end
  told_trace (Runs initial solves kept continues) = told continues None (first_stands r well fitting initial solves kept) (first_comes r well fitting)
  told_trace {is} {kind} {end} (Fails initial solves bad none range start) =
      subst (λ (xs : List Instant). Told r None xs kind end) (sym none) (record {
        keep = tt;
        form = tt;
        low = (let order = well.plan.range.order in omega (arith, start, order));
        stops = λ stop. absurd (cc (range, stop));
      })

-- ---- the trace

breaks_none : (r : Run) (is : List Instant) (kind : EndKind) (end : ℕ) (last : Option (ℕ × ℕ)) (i : Instant) (offset rule : ℕ) → KeepsIn r last i → BreaksIn r.system (trace_told r.system r.plan is kind end) last i offset rule → ⊥
breaks_none r is kind end last i offset rule keeps (OutOfOrder at rule_is wrong) = wrong keeps.order
breaks_none r is kind end last i offset rule keeps (OffSource p at rule_is differs) = keeps.sources p differs
breaks_none r is kind end last i offset rule keeps (OffTick at rule_is p interval shift clock off) = keeps.ticks p interval shift clock off

keeps_told : (r : Run) (is : List Instant) (kind : EndKind) (end : ℕ) → Told r None is kind end → (line rule : ℕ) → Breaks r.system (trace_told r.system r.plan is kind end) line rule → ⊥
keeps_told r is kind end all line rule (AtPort k at rule_is differs) = differs refl
keeps_told r is kind end all line rule (InInstant a b i offset lines at breaks) =
    let same : a ++ (i ∷ b) ≡ is = same_instants (kinds_of (ports_told r.system)) (a ++ (i ∷ b)) is lines.each all.form (sym lines.lines) in
    let keep : AllAfter (KeepsIn r) None (a ++ (i ∷ b)) = subst (AllAfter (KeepsIn r) None) (sym same) all.keep in
    let here : KeepsIn r (last_time a) i = subst (λ (last : Option (ℕ × ℕ)). KeepsIn r last i) (sym (last_is a)) (at_cut (KeepsIn r) None a b i keep) in
    breaks_none r is kind end (last_time a) i offset rule here breaks
keeps_told r is kind end all line rule (AtEnd instants lines at rule_is stop wrong) =
    let same : instants ≡ is = same_instants (kinds_of (ports_told r.system)) instants is lines.each all.form (sym lines.lines) in
    let stops = all.stops stop in
    wrong (record { point = stops.0; reached = subst (ReachesPoint r.plan.stop) (sym same) stops.1 })

pub is_writable : SolvedByFitting → (r : Run) (is : List Instant) (kind : EndKind) (end : ℕ) → IsTraceOf r is kind end → IsWritable r.system r.plan is end
is_writable fitting r is kind end of =
    let all = told_trace r of.well fitting of.trace in
    record { sound = of.well.sound; range = of.well.plan.range; each = all.form; low = omega (arith, all.low, of.well.plan.range.end) }

pub keeps_rules : SolvedByFitting → (r : Run) (is : List Instant) (kind : EndKind) (end : ℕ) → IsTraceOf r is kind end → KeepsRules r.system (trace_told r.system r.plan is kind end)
keeps_rules fitting r is kind end of = keeps_told r is kind end (told_trace r of.well fitting of.trace)
