-- A system without transformations has the trace in which each input has its source's value.
use Rattle.std.proofs.Common.{◌≡◌, ◌↔◌, ◌≤ℤ◌, ℕ, suc, ℤ, pos, negsuc, Bool, true, false, ◌&&◌, ◌||◌, not, List, [], ◌∷◌, Option, Some, None, refl, sym, ◌∙◌, ap, subst, arith}
use Rattle.std.specs.Prelude.{IfSome, is_some, option_and_then, if◌then◌else◌, slice_get, int_le, ◌==◌, ◌-◌, ◌^◌, T}
use Rattle.std.specs.List.{list_any}
use Rattle.std.proofs.lemmas.Int.{ints}
use Rattle.std.proofs.lemmas.Option.{same_Some}
use Rattle.value_types.specs.Values.{Fits, greatest_of, least_of}
use Rattle.value_types.specs.declared.values.PortType.{PortType}
use Rattle.value_types.specs.declared.values.PortType.TheVariants.{Boolean, Clock, Enumeration, Int16, Int32, Int64, Int8, UInt16, UInt32, UInt64, UInt8}
use Rattle.parameter_values.specs.declared.change.Change.{Change}
use Rattle.system_model.specs.Carried.{carried, fitting, through, within}
use Rattle.system_model.specs.Needs.{is_unclocked, is_unclocked_at}
use Rattle.system_model.specs.Ports.{feed_of, is_clock_role, is_output_role, source_of}
use Rattle.system_model.specs.Sound.{IsSound}
use Rattle.system_model.specs.Text.{Instant}
use Rattle.system_model.specs.Values.{value, is_present}
use Rattle.system_model.specs.declared.plan.EndKind.{EndKind}
use Rattle.system_model.specs.declared.system.Feed.{Feed}
use Rattle.system_model.specs.declared.system.Port.{Port}
use Rattle.system_model.specs.declared.system.Role.{Role}
use Rattle.system_model.specs.declared.system.Role.TheVariants.{Input, Output, ClockInput, ClockOutput, TimeClock}
use Rattle.system_model.specs.declared.system.System.{System}
use Rattle.system_model.proofs.CallerLemmas.{kind_of_clock, place_of, source_at, true_false}
use Rattle.run_model.specs.AfterInstant.{Again, AtLimit, Done, Ended, Following, OutOfRange, any_update, asks_for_end, following, goes_again, updated}
use Rattle.run_model.specs.Equations.{Solves, SolvesAt, fed, is_bad, is_lost, source_value, timer_of}
use Rattle.run_model.specs.Initial as I
use Rattle.run_model.specs.Initial.{is_bad_initially}
use Rattle.run_model.specs.Machines.{AreFitting}
use Rattle.run_model.specs.Plain.{FurtherWhole, GoesOnWhole, HandsOn, HandsOnAt, HandsOnInitially, HasNoChanges, IsWholeTrace, KeepsPlainTraces, LastWhole, LeadsWhole, following_whole, handed_initially}
use Rattle.run_model.specs.Run.{Run, Situation}
use Rattle.run_model.specs.Stepping.{Departs, AtStop, ByStep, Ends, EndsBefore, GoesOn, Next, WhereAsked, WhereFixed, stepped}
use Rattle.run_model.specs.Timers.{IsDue}
use Rattle.run_model.specs.Trace.{Continues, Fails, Further, IsTrace, Last, Leads, LeadsBy, Runs, Unwritten}
use Rattle.run_model.proofs.AlongRun.{FitsAt, if_fits, initial_output_fits, initial_values_fit, none_fits, output_value_fits, tick_fits, values_fit, wider, zero_fits}

-- ---- a value that fits is handed on

le_true : (a b : ℤ) → a ≤ℤ b → int_le a b ≡ true
le_true a b h = by (int_le a b) refl h.le
  where
    by : (c : Bool) → int_le a b ≡ c → T (int_le a b) → int_le a b ≡ true
    by true e t = e
    by false e t = absurd (subst T e t)

if_both : (a b : Bool) (x : ℤ) → a ≡ true → b ≡ true → (if a && b then Some x else None) ≡ Some x
if_both a b x p q = ap (λ (c : Bool). if c && b then Some x else None) p ∙ ap (λ (c : Bool). if c then Some x else None) q

-- each type is within 64 bits
wide_least : (kind : PortType) → negsuc (2 ^ 63 - 1) ≤ℤ least_of kind
wide_least Int8 = omega (arith, ints)
wide_least UInt8 = omega (arith, ints)
wide_least Int16 = omega (arith, ints)
wide_least UInt16 = omega (arith, ints)
wide_least Int32 = omega (arith, ints)
wide_least UInt32 = omega (arith, ints)
wide_least Int64 = omega (arith, ints)
wide_least UInt64 = omega (arith, ints)
wide_least Boolean = omega (arith, ints)
wide_least Enumeration = omega (arith, ints)
wide_least Clock = omega (arith, ints)

wide_greatest : (kind : PortType) → greatest_of kind ≤ℤ pos (2 ^ 64 - 1)
wide_greatest Int8 = omega (arith, ints)
wide_greatest UInt8 = omega (arith, ints)
wide_greatest Int16 = omega (arith, ints)
wide_greatest UInt16 = omega (arith, ints)
wide_greatest Int32 = omega (arith, ints)
wide_greatest UInt32 = omega (arith, ints)
wide_greatest Int64 = omega (arith, ints)
wide_greatest UInt64 = omega (arith, ints)
wide_greatest Boolean = omega (arith, ints)
wide_greatest Enumeration = omega (arith, ints)
wide_greatest Clock = omega (arith, ints)

within_is : (kind : PortType) (x : ℤ) → Fits kind x → within x ≡ Some x
within_is kind x fits =
    let low = wide_least kind in
    let high = wide_greatest kind in
    let least = fits.0 in
    let greatest = fits.1 in
    if_both (int_le (negsuc (2 ^ 63 - 1)) x) (int_le x (pos (2 ^ 64 - 1))) x
    (le_true (negsuc (2 ^ 63 - 1)) x (omega (arith, ints, low, least))) (le_true x (pos (2 ^ 64 - 1)) (omega (arith, ints, high, greatest)))

fits_some : (kind : PortType) (x : ℤ) → Fits kind x → fitting kind x ≡ Some x
fits_some kind x fits = if_both (int_le (least_of kind) x) (int_le x (greatest_of kind)) x (le_true (least_of kind) x fits.0) (le_true x (greatest_of kind) fits.1)

handed : (kind : PortType) (o : Option ℤ) → IfSome o (Fits kind) → option_and_then (carried [] kind) o ≡ o
handed kind None fits = refl
handed kind (Some x) fits =
    ap (λ (w : Option ℤ). option_and_then (λ y. option_and_then (fitting kind) (through [] y)) w) (within_is kind x fits)
    ∙ fits_some kind x fits

handed_fed : (kind : PortType) (feed : Feed) (V : List (Option ℤ)) → feed.changes ≡ [] → IfSome (source_value feed V) (Fits kind) → fed kind feed V ≡ source_value feed V
handed_fed kind feed V none fits =
    ap (λ (cs : List Change). option_and_then (carried cs kind) (source_value feed V)) none ∙ handed kind (source_value feed V) fits

-- an instant whose values are all kept isn't left before it is written
none_before : (r : Run) (s : Situation) (V : List (Option ℤ)) (kind : EndKind) (end : ℕ) → LeadsWhole r s V (EndsBefore kind end) → ⊥
none_before r s V kind end leads = by (any_update asks_for_end r s V) (goes_again r s V) (suc s.n == r.plan.limit) leads
  where
    off : {x : Next} → Departs r (updated r s V) x → x ≡ EndsBefore kind end → ⊥
    off (AtStop x here a) e = absurd (cc (a, e))
    off (WhereAsked x kept point step asks a) e = absurd (cc (a, e))
    off (WhereFixed x i e_step lacks a) e = absurd (cc (a, e))
    off (ByStep x kept point step asks a) e = absurd (cc (a, e))

    by : (asked again limited : Bool) → LeadsBy (if asked then Ended else (if again then (if limited then AtLimit else Again) else Done)) r s V (EndsBefore kind end) → ⊥
    by true again limited leads = absurd (cc leads)
    by false true true leads = absurd (cc leads)
    by false true false leads = absurd (cc leads)
    by false false limited leads = off leads refl

-- ---- nothing is lost

kept_some : (o : Option ℤ) → (is_some o && not (is_some o)) ≡ false
kept_some None = refl
kept_some (Some x) = refl

and_false : (b : Bool) → (b && false) ≡ false
and_false true = refl
and_false false = refl

none_so : (test : Port → Bool) (ports : List Port) → ((p : ℕ) (port : Port) → slice_get ports p ≡ Some port → test port ≡ false) → list_any test ports ≡ false
none_so test [] h = refl
none_so test (port ∷ ports) h = ap (λ (b : Bool). b || list_any test ports) (h 0 port refl) ∙ none_so test ports (λ p q is. h (suc p) q is)

module _ (system : System) (sound : IsSound system) where
  -- each value of its source is one of an input's type
  within_feed : (p : ℕ) (port : Port) (feed : Feed) → slice_get system.ports p ≡ Some port → feed_of port.role ≡ Some feed → feed.changes ≡ [] → source_of port.role ≡ Some feed.from.0 → (V : List (Option ℤ)) → AreFitting system V → IfSome (source_value feed V) (Fits port.kind)
  within_feed p port feed is by none from V fit =
      let source = source_at system sound p feed.from.0 port is from in
      wider source.source.kind port.kind (value V feed.from.0) (source.feed.range (subst (λ (f : Feed). f.changes ≡ []) (same_Some feed source.by (sym by ∙ source.by_is)) none)) (fit feed.from.0 source.source source.is)

  fed_is : (p : ℕ) (port : Port) (feed : Feed) → slice_get system.ports p ≡ Some port → port.role ≡ Input (Some feed) → feed.changes ≡ [] → (V : List (Option ℤ)) → AreFitting system V → fed port.kind feed V ≡ source_value feed V
  fed_is p port feed is same none V fit =
      handed_fed port.kind feed V none (within_feed p port feed is (ap feed_of same) none (ap source_of same) V fit)

  not_lost : (p : ℕ) (port : Port) (feed : Feed) → slice_get system.ports p ≡ Some port → port.role ≡ Input (Some feed) → feed.changes ≡ [] → (V : List (Option ℤ)) → AreFitting system V → is_lost port.kind feed V ≡ false
  not_lost p port feed is same none V fit =
      ap (λ (o : Option ℤ). is_some (source_value feed V) && not (is_some o)) (fed_is p port feed is same none V fit) ∙ kept_some (source_value feed V)

  -- an input whose path makes no change loses no value
  pub good_unchanged : (p : ℕ) (port : Port) → slice_get system.ports p ≡ Some port → ((feed : Feed) → port.role ≡ Input (Some feed) → feed.changes ≡ []) → (V : List (Option ℤ)) → AreFitting system V → is_bad V port ≡ false
  good_unchanged p port is none V fit = by port.role refl
    where
      by : (role : Role) → port.role ≡ role → is_bad V port ≡ false
      by (Input None) e = ap (λ (x : Role). is_bad V (record port { role = x })) e
      by (Input (Some feed)) e =
          ap (λ (x : Role). is_bad V (record port { role = x })) e
          ∙ ap (λ (b : Bool). is_present (record port { role = Input (Some feed) }) V && b) (not_lost p port feed is e (none feed e) V fit)
          ∙ and_false (is_present (record port { role = Input (Some feed) }) V)
      by Output e = ap (λ (x : Role). is_bad V (record port { role = x })) e
      by (ClockInput feed) e = ap (λ (x : Role). is_bad V (record port { role = x })) e
      by ClockOutput e = ap (λ (x : Role). is_bad V (record port { role = x })) e
      by (TimeClock timing) e = ap (λ (x : Role). is_bad V (record port { role = x })) e

  good_initially : (p : ℕ) (port : Port) → slice_get system.ports p ≡ Some port → ((feed : Feed) → port.role ≡ Input (Some feed) → feed.changes ≡ []) → (V : List (Option ℤ)) → AreFitting system V → is_bad_initially system V port ≡ false
  good_initially p port is none V fit = by port.role refl
    where
      by : (role : Role) → port.role ≡ role → is_bad_initially system V port ≡ false
      by (Input None) e = ap (λ (x : Role). is_bad_initially system V (record port { role = x })) e
      by (Input (Some feed)) e =
          ap (λ (x : Role). is_bad_initially system V (record port { role = x })) e
          ∙ ap (λ (b : Bool). is_unclocked (record port { role = Input (Some feed) }) && is_unclocked_at system.ports feed.from.0 && b) (not_lost p port feed is e (none feed e) V fit)
          ∙ and_false (is_unclocked (record port { role = Input (Some feed) }) && is_unclocked_at system.ports feed.from.0)
      by Output e = ap (λ (x : Role). is_bad_initially system V (record port { role = x })) e
      by (ClockInput feed) e = ap (λ (x : Role). is_bad_initially system V (record port { role = x })) e
      by ClockOutput e = ap (λ (x : Role). is_bad_initially system V (record port { role = x })) e
      by (TimeClock timing) e = ap (λ (x : Role). is_bad_initially system V (record port { role = x })) e

module _ (system : System) (sound : IsSound system) (plain : HasNoChanges system) where
  pub none_bad : (V : List (Option ℤ)) → AreFitting system V → list_any (is_bad V) system.ports ≡ false
  none_bad V fit = none_so (is_bad V) system.ports (λ p port is. good_unchanged system sound p port is (λ feed e. plain p port feed is (ap feed_of e)) V fit)

  pub none_bad_initially : (V : List (Option ℤ)) → AreFitting system V → list_any (is_bad_initially system V) system.ports ≡ false
  none_bad_initially V fit = none_so (is_bad_initially system V) system.ports (λ p port is. good_initially system sound p port is (λ feed e. plain p port feed is (ap feed_of e)) V fit)

module _ (r : Run) (sound : IsSound r.system) (plain : HasNoChanges r.system) where
  follows_whole : (s : Situation) (V : List (Option ℤ)) → AreFitting r.system V → following r s V ≡ following_whole r s V
  follows_whole s V fit = ap (λ (b : Bool). if b then OutOfRange else following_whole r s V) (none_bad r.system sound plain V fit)

  -- ---- the equations, one way and back

  hands_on : (s : Situation) (V : List (Option ℤ)) → AreFitting r.system V → Solves r s V → HandsOn r s V
  hands_on s V fit solves = record { places = solves.places; equations = λ p port is. at p port is port.role refl (solves.equations p port is) }
    where
      at : (p : ℕ) (port : Port) → slice_get r.system.ports p ≡ Some port → (role : Role) → port.role ≡ role → SolvesAt role r s V p port (value s.before p) (value V p) → HandsOnAt role r s V p port (value s.before p) (value V p)
      at p port is (Input None) e h = h
      at p port is (Input (Some feed)) e h = h ∙ ap (λ (o : Option ℤ). if is_present port V then o else value s.before p) (fed_is r.system sound p port feed is e (plain p port feed is (ap feed_of e)) V fit)
      at p port is Output e h = h
      at p port is (ClockInput feed) e h = h
      at p port is ClockOutput e h = h
      at p port is (TimeClock timing) e h = h

  handed_back : (s : Situation) (V : List (Option ℤ)) → AreFitting r.system V → HandsOn r s V → Solves r s V
  handed_back s V fit hands = record { places = hands.places; equations = λ p port is. at p port is port.role refl (hands.equations p port is) }
    where
      at : (p : ℕ) (port : Port) → slice_get r.system.ports p ≡ Some port → (role : Role) → port.role ≡ role → HandsOnAt role r s V p port (value s.before p) (value V p) → SolvesAt role r s V p port (value s.before p) (value V p)
      at p port is (Input None) e h = h
      at p port is (Input (Some feed)) e h = h ∙ ap (λ (o : Option ℤ). if is_present port V then o else value s.before p) (sym (fed_is r.system sound p port feed is e (plain p port feed is (ap feed_of e)) V fit))
      at p port is Output e h = h
      at p port is (ClockInput feed) e h = h
      at p port is ClockOutput e h = h
      at p port is (TimeClock timing) e h = h

  -- what is handed on fits
  handed_fits : (s : Situation) (V : List (Option ℤ)) → AreFitting r.system s.before → HandsOn r s V → AreFitting r.system V
  handed_fits s V fit hands p port is = at port.role refl (hands.equations p port is)
    where
      own : (q : ℕ) (source : Port) → slice_get r.system.ports q ≡ Some source → is_output_role source.role ≡ true → FitsAt source (value V q)
      own q source there output = output_value_fits r s V q source source.role output (value s.before q) (value V q) (fit q source there) (as_output source.role output (hands.equations q source there))
        where
          as_output : (role : Role) → is_output_role role ≡ true → HandsOnAt role r s V q source (value s.before q) (value V q) → SolvesAt role r s V q source (value s.before q) (value V q)
          as_output (Input None) e h = absurd (true_false (sym e))
          as_output (Input (Some feed)) e h = absurd (true_false (sym e))
          as_output Output e h = h
          as_output (ClockInput feed) e h = h
          as_output ClockOutput e h = h
          as_output (TimeClock timing) e h = h

      from_source : (feed : Feed) → feed_of port.role ≡ Some feed → source_of port.role ≡ Some feed.from.0 → FitsAt port (source_value feed V)
      from_source feed by from =
          let source = source_at r.system sound p feed.from.0 port is from in
          wider source.source.kind port.kind (value V feed.from.0) (source.feed.range (plain p port source.by is source.by_is)) (own feed.from.0 source.source source.is source.feed.output)

      clock : is_clock_role port.role ≡ true → port.kind ≡ Clock
      clock h = kind_of_clock r.system p port (place_of r.system sound p port is) h

      at : (role : Role) → port.role ≡ role → HandsOnAt role r s V p port (value s.before p) (value V p) → FitsAt port (value V p)
      at (Input None) e h = subst (FitsAt port) (sym h) tt
      at (Input (Some feed)) e h = subst (FitsAt port) (sym h) (if_fits port.kind (is_present port V) (source_value feed V) (value s.before p) (from_source feed (ap feed_of e) (ap source_of e)) (fit p port is))
      at Output e h = output_value_fits r s V p port Output refl (value s.before p) (value V p) (fit p port is) h
      at (ClockInput None) e h = subst (FitsAt port) (sym h) (zero_fits port.kind (clock (ap is_clock_role e)))
      at (ClockInput (Some feed)) e h = subst (FitsAt port) (sym h) (from_source feed (ap feed_of e) (ap source_of e))
      at ClockOutput e h = output_value_fits r s V p port ClockOutput refl (value s.before p) (value V p) (fit p port is) h
      at (TimeClock timing) e h = tick_fits (IsDue r.plan.start (timer_of s.timers p) s.t s.n) port (value V p) (clock (ap is_clock_role e)) h

  -- the same of Initialization Mode
  hands_initially : (W : List (Option ℤ)) → AreFitting r.system W → I.SolvesInitially r W → HandsOnInitially r W
  hands_initially W fit solves = record { places = solves.places; equations = λ p port is. solves.equations p port is ∙ at p port is port.role refl }
    where
      at : (p : ℕ) (port : Port) → slice_get r.system.ports p ≡ Some port → (role : Role) → port.role ≡ role → I.initial_value role r W p port ≡ handed_initially role r W p port
      at p port is (Input None) e = refl
      at p port is (Input (Some feed)) e = ap (λ (o : Option ℤ). if is_unclocked port && is_unclocked_at r.system.ports feed.from.0 then o else None) (fed_is r.system sound p port feed is e (plain p port feed is (ap feed_of e)) W fit)
      at p port is Output e = refl
      at p port is (ClockInput feed) e = refl
      at p port is ClockOutput e = refl
      at p port is (TimeClock timing) e = refl

  initially_back : (W : List (Option ℤ)) → AreFitting r.system W → HandsOnInitially r W → I.SolvesInitially r W
  initially_back W fit hands = record { places = hands.places; equations = λ p port is. hands.equations p port is ∙ at p port is port.role refl }
    where
      at : (p : ℕ) (port : Port) → slice_get r.system.ports p ≡ Some port → (role : Role) → port.role ≡ role → handed_initially role r W p port ≡ I.initial_value role r W p port
      at p port is (Input None) e = refl
      at p port is (Input (Some feed)) e = ap (λ (o : Option ℤ). if is_unclocked port && is_unclocked_at r.system.ports feed.from.0 then o else None) (sym (fed_is r.system sound p port feed is e (plain p port feed is (ap feed_of e)) W fit))
      at p port is Output e = refl
      at p port is (ClockInput feed) e = refl
      at p port is ClockOutput e = refl
      at p port is (TimeClock timing) e = refl

  handed_initially_fits : (W : List (Option ℤ)) → HandsOnInitially r W → AreFitting r.system W
  handed_initially_fits W hands p port is = subst (FitsAt port) (sym (hands.equations p port is)) (at port.role refl)
    where
      own : (q : ℕ) (source : Port) → slice_get r.system.ports q ≡ Some source → is_output_role source.role ≡ true → FitsAt source (value W q)
      own q source there output = subst (FitsAt source) (sym (hands.equations q source there ∙ as_output source.role output)) (initial_output_fits r W q source source.role output)
        where
          as_output : (role : Role) → is_output_role role ≡ true → handed_initially role r W q source ≡ I.initial_value role r W q source
          as_output (Input feed) e = absurd (true_false (sym e))
          as_output Output e = refl
          as_output (ClockInput feed) e = refl
          as_output ClockOutput e = refl
          as_output (TimeClock timing) e = refl

      at : (role : Role) → port.role ≡ role → FitsAt port (handed_initially role r W p port)
      at (Input None) e = tt
      at (Input (Some feed)) e =
          let source = source_at r.system sound p feed.from.0 port is (ap source_of e) in
          if_fits port.kind (is_unclocked port && is_unclocked_at r.system.ports feed.from.0) (source_value feed W) None
          (wider source.source.kind port.kind (value W feed.from.0) (source.feed.range (plain p port source.by is source.by_is)) (own feed.from.0 source.source source.is source.feed.output)) tt
      at Output e = initial_output_fits r W p port Output refl
      at (ClockInput feed) e = tt
      at ClockOutput e = tt
      at (TimeClock timing) e = tt

  -- ---- along the trace

  -- what comes before the next instant fits
  next_before : (s : Situation) (V : List (Option ℤ)) (next : Situation) → Leads r s V (GoesOn next) → next.before ≡ V
  next_before s V next leads = by (following r s V) leads
    where
      stepping : {x : Next} → Departs r (updated r s V) x → x ≡ GoesOn next → next.before ≡ V
      stepping (AtStop x here a) e = absurd (cc (a, e))
      stepping (WhereAsked x kept point step asks a) e = absurd (cc (a, e))
      stepping (WhereFixed x i e_step lacks a) e = absurd (cc (a, e))
      stepping (ByStep x kept point step asks a) e =
          let same : next ≡ stepped r (updated r s V) kept point = cc (a, e) in
          ap (λ (z : Situation). z.before) same

      by : (f : Following) → LeadsBy f r s V (GoesOn next) → next.before ≡ V
      by OutOfRange leads = absurd (cc leads)
      by Ended leads = absurd (cc leads)
      by AtLimit leads = absurd (cc leads)
      by Again leads = let same : next ≡ updated r s V = cc leads in ap (λ (z : Situation). z.before) same
      by Done leads = stepping leads refl

  -- before the first instant no port has a value
  begins_fitting : (W : List (Option ℤ)) → AreFitting r.system (I.beginning r W).before
  begins_fitting W = none_fits r.system.ports

  goes_whole : {s : Situation} {is : List Instant} {kind : EndKind} {end : ℕ} → AreFitting r.system s.before → Continues r s is kind end → GoesOnWhole r s is kind end
  goes_whole fit (Last s V is kind end solves leads i) =
      let own = values_fit r sound s V fit solves in
      LastWhole s V is kind end (hands_on s V own solves) (subst (λ f. LeadsBy f r s V (Ends kind end)) (follows_whole s V own) leads) i
  goes_whole fit (Unwritten s V is kind end solves leads i) =
      let own = values_fit r sound s V fit solves in
      absurd (none_before r s V kind end (subst (λ f. LeadsBy f r s V (EndsBefore kind end)) (follows_whole s V own) leads))
  goes_whole fit (Further s V is kind end next rest solves leads i more) =
      let own = values_fit r sound s V fit solves in
      FurtherWhole s V is kind end next rest (hands_on s V own solves) (subst (λ f. LeadsBy f r s V (GoesOn next)) (follows_whole s V own) leads) i
      (goes_whole (subst (AreFitting r.system) (sym (next_before s V next leads)) own) more)

  goes_back : {s : Situation} {is : List Instant} {kind : EndKind} {end : ℕ} → AreFitting r.system s.before → GoesOnWhole r s is kind end → Continues r s is kind end
  goes_back fit (LastWhole s V is kind end hands leads i) =
      let own = handed_fits s V fit hands in
      Last s V is kind end (handed_back s V own hands) (subst (λ f. LeadsBy f r s V (Ends kind end)) (sym (follows_whole s V own)) leads) i
  goes_back fit (FurtherWhole s V is kind end next rest hands leads i more) =
      let own = handed_fits s V fit hands in
      let there : Leads r s V (GoesOn next) = subst (λ f. LeadsBy f r s V (GoesOn next)) (sym (follows_whole s V own)) leads in
      Further s V is kind end next rest (handed_back s V own hands) there i (goes_back (subst (AreFitting r.system) (sym (next_before s V next there)) own) more)

  forward : {is : List Instant} {kind : EndKind} {end : ℕ} → IsTrace r is kind end → IsWholeTrace r is kind end
  forward (Runs W solves kept on) =
      let own = initial_values_fit r sound W solves in
      record { initial = W; hands_on = hands_initially W own solves; goes_on = goes_whole (begins_fitting W) on }
  forward (Fails W solves bad none kind end) =
      absurd (true_false (sym bad ∙ none_bad_initially r.system sound plain W (initial_values_fit r sound W solves)))

  back : {is : List Instant} {kind : EndKind} {end : ℕ} → IsWholeTrace r is kind end → IsTrace r is kind end
  back t =
      let own = handed_initially_fits t.initial t.hands_on in
      Runs t.initial (initially_back t.initial own t.hands_on) (none_bad_initially r.system sound plain t.initial own) (goes_back (begins_fitting t.initial) t.goes_on)

pub plain_traces : KeepsPlainTraces
plain_traces r sound plain is kind end = (forward r sound plain, back r sound plain)
