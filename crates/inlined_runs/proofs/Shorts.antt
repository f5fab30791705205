-- The step that a run can't make is one, and so is the value that it loses.
use Rattle.std.proofs.Common.{◌≡◌, ℕ, suc, ◌≤◌, Bool, true, false, List, refl, sym, ◌∙◌, ap, subst, arith, ℤ}
use Rattle.std.specs.Prelude.{Option, Some, ◌==◌, if◌then◌else◌, slice_get}
use Rattle.std.specs.List.{list_any, position}
use Rattle.std.proofs.lemmas.List.Folds.{list_any_at}
use Rattle.std.proofs.lemmas.List.Quantifiers.{position-Some}
use Rattle.std.proofs.lemmas.Option.{same_Some}
use Rattle.system_model.specs.declared.plan.EndKind.TheVariants.{Fixed, Range}
use Rattle.system_model.specs.declared.plan.Plan.{Plan}
use Rattle.system_model.specs.declared.system.Feed.{Feed}
use Rattle.system_model.specs.declared.system.Port.{Port}
use Rattle.system_model.specs.Ports.{feed_of}
use Rattle.system_model.specs.Sound.{IsSound}
use Rattle.run_model.specs.AfterInstant.{Again, AtLimit, Done, Ended, Following, OutOfRange, any_update, asks_for_end, following, goes_again, updated}
use Rattle.run_model.specs.Behaved.{AtFirst, Onward, Reached}
use Rattle.run_model.specs.Equations.{Solves, is_bad, source_value}
use Rattle.run_model.specs.Initial.{SolvesInitially, beginning, is_bad_initially}
use Rattle.run_model.specs.Laws.{OneNext, ReachesSituations, SolvedOnce, SolvedOnceInitially}
use Rattle.run_model.specs.Machines.{AreMachines}
use Rattle.run_model.specs.Run.{Run, Situation, Timer}
use Rattle.run_model.specs.Stepping.{Ends, EndsBefore, GoesOn, LacksStep, Next, WhereFixed}
use Rattle.run_model.specs.Steps.{FixedStep, IsBound, Stepper, StopsAgain, StopsFirst, StopsLater, StopsShort, fallen_bound, is_other, met}
use Rattle.run_model.specs.Trace.{Leads, LeadsBy}
use Rattle.event_iteration.specs.Lost.{IsFirstLost}
use Rattle.event_iteration.specs.declared.lost.LostValue.{LostValue}
use Rattle.machine_courses.specs.Prefixes.{AtTheStart, InInstant, LacksStepAt, LosesAt}
use Rattle.inlined_runs.specs.Shorts.{FixedOnce, LostOnce}

-- ---- one step

same_place : (fmus : List Stepper) (is_asked : Stepper → Bool) (t step i j e : ℕ) → FixedStep fmus is_asked t step i e → FixedStep fmus is_asked t step j e → i ≡ j
same_place fmus is_asked t step i j e x y = same_Some i j (sym x.least ∙ y.least)

abbrev Same : ℕ → ℕ → ℕ → ℕ → Type 0
Same i j e f = (i ≡ j) × (e ≡ f)

stops_same : {fmus : List Stepper} {t step b c i j e f : ℕ} → StopsShort fmus t step b i e → StopsShort fmus t step c j f → b ≡ c → Same i j e f
stops_same {fmus} {t} {step} (StopsFirst b i e fixed x) (StopsFirst c j f fixed2 y) s =
    (same_place fmus (λ (g : Stepper). true) t step i j c (subst (λ (a : ℕ). FixedStep fmus (λ (g : Stepper). true) t step i a) s fixed) fixed2, x ∙ s ∙ sym y)
stops_same {fmus} {t} {step} (StopsFirst b i e fixed x) (StopsAgain c j f may n fixed2 y) s = absurd (may i (subst (λ (a : ℕ). FixedStep fmus (λ (g : Stepper). true) t step i a) s fixed))
stops_same {fmus} {t} {step} (StopsFirst b i e fixed x) (StopsLater c j f may n again ends more) s = absurd (may i (subst (λ (a : ℕ). FixedStep fmus (λ (g : Stepper). true) t step i a) s fixed))
stops_same {fmus} {t} {step} (StopsAgain b i e may n fixed x) (StopsFirst c j f fixed2 y) s = absurd (may j (subst (λ (a : ℕ). FixedStep fmus (λ (g : Stepper). true) t step j a) (sym s) fixed2))
stops_same {fmus} {t} {step} (StopsAgain b i e may n fixed x) (StopsAgain c j f may2 n2 fixed2 y) s =
    (same_place fmus (is_other c (met fmus c)) t step i j (met fmus c) (subst (λ (a : ℕ). FixedStep fmus (is_other a (met fmus a)) t step i (met fmus a)) s fixed) fixed2, x ∙ ap (met fmus) s ∙ sym y)
stops_same {fmus} {t} {step} (StopsAgain b i e may n fixed x) (StopsLater c j f may2 n2 again ends more) s =
    absurd (again i (subst (λ (a : ℕ). FixedStep fmus (is_other a (met fmus a)) t step i (met fmus a)) s fixed))
stops_same {fmus} {t} {step} (StopsLater b i e may n again ends more) (StopsFirst c j f fixed2 y) s = absurd (may j (subst (λ (a : ℕ). FixedStep fmus (λ (g : Stepper). true) t step j a) (sym s) fixed2))
stops_same {fmus} {t} {step} (StopsLater b i e may n again ends more) (StopsAgain c j f may2 n2 fixed2 y) s =
    absurd (again j (subst (λ (a : ℕ). FixedStep fmus (is_other a (met fmus a)) t step j (met fmus a)) (sym s) fixed2))
stops_same {fmus} (StopsLater b i e may n again ends more) (StopsLater c j f may2 n2 again2 ends2 more2) s = stops_same more more2 (ap (fallen_bound fmus) s)

bound_same : (plan : Plan) (timers : List Timer) (events : List (Option ℕ)) (t b c : ℕ) → IsBound plan timers events t b → IsBound plan timers events t c → b ≡ c
bound_same plan timers events t b c x y =
    let low : b ≤ c = x.least c y.later y.mark in
    let high : c ≤ b = y.least b x.later x.mark in
    omega arith

lacks_same : (r : Run) (z : Situation) (i j e f : ℕ) → LacksStep r z i e → LacksStep r z j f → Same i j e f
lacks_same r z i j e f x y = stops_same x.stops y.stops (bound_same r.plan z.timers z.events z.t x.bound y.bound x.is_bound y.is_bound)

-- ---- along a run

-- from here the run comes there
pub data Goes (r : Run) : Situation → Situation → Type 0 where
  Here : (s z : Situation) → s ≡ z → Goes r s z
  There : (s : Situation) (V : List (Option ℤ)) (next z : Situation) → Solves r s V → Leads r s V (GoesOn next) → Goes r next z → Goes r s z

-- so it does from its beginning
pub record FromStart (r : Run) (z : Situation) : Type 0 where
  pub initial : List (Option ℤ)
  pub solved : SolvesInitially r initial
  pub kept : list_any (is_bad_initially r.system initial) r.system.ports ≡ false
  pub goes : Goes r (beginning r initial) z

from_start : {r : Run} {s : Situation} (z : Situation) → Reached r s → Goes r s z → FromStart r z
from_start {r} z (AtFirst s initial solved kept is) goes = record { initial = initial; solved = solved; kept = kept; goes = subst (λ (y : Situation). Goes r y z) is goes }
from_start {r} z (Onward s V next before solved leading) goes = from_start z before (There s V next z solved leading goes)

pub record Laws : Type 0 where
  pub solved : SolvedOnce
  pub initially : SolvedOnceInitially
  pub next : OneNext
  pub along : ReachesSituations

abbrev ends_here : Next → Bool
ends_here (Ends kind point) = true
ends_here (EndsBefore kind point) = true
ends_here (GoesOn s) = false

abbrev goes_to : Next → Situation → Situation
goes_to (Ends kind point) d = d
goes_to (EndsBefore kind point) d = d
goes_to (GoesOn s) d = s

true_false : true ≡ false → ⊥
true_false e = cc e

-- the run ends here, after the instant or before it
pub record Stops (r : Run) (s : Situation) : Type 0 where
  pub values : List (Option ℤ)
  pub solves : Solves r s values
  pub next : Next
  pub leads : Leads r s values next
  pub ends : ends_here next ≡ true

-- ---- the value that is lost

-- what is found is there
found_there : (test : Port → Bool) (ports : List Port) (p : ℕ) (target : Port) → position test ports ≡ Some p → slice_get ports p ≡ Some target → list_any test ports ≡ true
found_there test ports p target first at =
    let here = position-Some test ports p target first in
    list_any_at test ports p target here.0 here.1

first_same : (test : Port → Bool) (ports : List Port) (values : List (Option ℤ)) (lost other : LostValue) → IsFirstLost test ports values lost → IsFirstLost test ports values other → lost ≡ other
first_same test ports values lost other x y =
    let port : lost.port.0 ≡ other.port.0 = same_Some lost.port.0 other.port.0 (sym x.first ∙ y.first) in
    let target : x.target ≡ y.target = same_Some x.target y.target (sym x.at ∙ ap (slice_get ports) port ∙ y.at) in
    let feed : x.feed ≡ y.feed = same_Some x.feed y.feed (sym x.fed ∙ ap (λ (p : Port). feed_of p.role) target ∙ y.fed) in
    let came : lost.value ≡ other.value = same_Some lost.value other.value (sym x.value ∙ ap (λ (f : Feed). source_value f values) feed ∙ y.value) in
    λ i. record { port = record { 0 = port i }; value = came i }

lost_following : (r : Run) (s : Situation) (V : List (Option ℤ)) → list_any (is_bad V) r.system.ports ≡ true → following r s V ≡ OutOfRange
lost_following r s V lost =
    ap (λ (b : Bool). if b then OutOfRange else (if any_update asks_for_end r s V then Ended else (if goes_again r s V then (if suc s.n == r.plan.limit then AtLimit else Again) else Done))) lost

-- ---- one place to end at

module _ (laws : Laws) (r : Run) (sound : IsSound r.system) (machines : AreMachines r) where
  one_values : (s : Situation) (V W : List (Option ℤ)) → Reached r s → Solves r s V → Solves r s W → V ≡ W
  one_values s V W way v w = let one = laws.solved r sound machines s (laws.along r sound machines s way) in one.2 V v ∙ sym (one.2 W w)

  one_initial : (V W : List (Option ℤ)) → SolvesInitially r V → SolvesInitially r W → V ≡ W
  one_initial V W v w = let one = laws.initially r sound machines in one.2 V v ∙ sym (one.2 W w)

  one_next : (s : Situation) (V W : List (Option ℤ)) (x y : Next) → V ≡ W → Leads r s V x → Leads r s W y → x ≡ y
  one_next s V W x y same a b = laws.next r s W x y (subst (λ (U : List (Option ℤ)). Leads r s U x) same a) b

  -- where the run ends it doesn't go on
  no_further : (s z : Situation) (V : List (Option ℤ)) (next : Situation) → Reached r s → Solves r z V → Leads r z V (GoesOn next) → s ≡ z → Stops r s → ⊥
  no_further s z V next way v leading same stops =
      let values : V ≡ stops.values = one_values s V stops.values way (subst (λ (y : Situation). Solves r y V) (sym same) v) stops.solves in
      let on : GoesOn next ≡ stops.next = one_next s V stops.values (GoesOn next) stops.next values (subst (λ (y : Situation). Leads r y V (GoesOn next)) (sym same) leading) stops.leads in
      true_false (sym stops.ends ∙ ap ends_here (sym on))

  one_stop : {s z a b : Situation} → Reached r s → Goes r s a → Goes r z b → s ≡ z → Stops r a → Stops r b → a ≡ b
  one_stop way (Here s a e) (Here z b f) same x y = sym e ∙ same ∙ f
  one_stop way (Here s a e) (There z W next b w leading more) same x y = absurd (no_further a z W next (subst (Reached r) e way) w leading (sym e ∙ same) x)
  one_stop way (There s V next a v leading more) (Here z b f) same x y = absurd (no_further b s V next (subst (Reached r) (same ∙ f) way) v leading (sym f ∙ sym same) y)
  one_stop way (There s V next a v leading more) (There z W next2 b w leading2 more2) same x y =
      let values : V ≡ W = one_values s V W way v (subst (λ (y : Situation). Solves r y W) (sym same) w) in
      let on : GoesOn next ≡ GoesOn next2 = one_next s V W (GoesOn next) (GoesOn next2) values leading (subst (λ (y : Situation). Leads r y W (GoesOn next2)) (sym same) leading2) in
      one_stop (Onward s V next way v leading) more more2 (ap (λ (n : Next). goes_to n next) on) x y

  one_place : (a b : Situation) → Reached r a → Reached r b → Stops r a → Stops r b → a ≡ b
  one_place a b to_a to_b x y =
      let p = from_start a to_a (Here a a refl) in
      let q = from_start b to_b (Here b b refl) in
      let same : p.initial ≡ q.initial = one_initial p.initial q.initial p.solved q.solved in
      one_stop (AtFirst (beginning r p.initial) p.initial p.solved p.kept refl) p.goes q.goes (ap (beginning r) same) x y

  -- ---- the step that lacks

  lacking : (s : Situation) (V : List (Option ℤ)) (i e : ℕ) → Solves r s V → following r s V ≡ Done → LacksStep r (updated r s V) i e → Stops r s
  lacking s V i e solves done lacks = record {
    values = V;
    solves = solves;
    next = Ends Fixed s.t;
    leads = subst (λ (f : Following). LeadsBy f r s V (Ends Fixed s.t)) (sym done) (WhereFixed (Ends Fixed s.t) i e lacks refl);
    ends = refl;
  }

  fixed_same : (i j at other e f : ℕ) → LacksStepAt r i at e → LacksStepAt r j other f → (i ≡ j) × (at ≡ other) × (e ≡ f)
  fixed_same i j at other e f x y =
      let d = x.departed in
      let k = y.departed in
      let lacks : LacksStep r (updated r d.s d.values) i e = subst (λ (z : Situation). LacksStep r z i e) d.is x.lacks in
      let lacks2 : LacksStep r (updated r k.s k.values) j f = subst (λ (z : Situation). LacksStep r z j f) k.is y.lacks in
      let same : d.s ≡ k.s = one_place d.s k.s d.reached k.reached (lacking d.s d.values i e d.solves d.done lacks) (lacking k.s k.values j f k.solves k.done lacks2) in
      let values : d.values ≡ k.values = one_values d.s d.values k.values d.reached d.solves (subst (λ (z : Situation). Solves r z k.values) (sym same) k.solves) in
      let there : updated r d.s d.values ≡ updated r k.s k.values = ap (λ (U : List (Option ℤ)). updated r d.s U) values ∙ ap (λ (z : Situation). updated r z k.values) same in
      let step = lacks_same r (updated r k.s k.values) i j e f (subst (λ (z : Situation). LacksStep r z i e) there lacks) lacks2 in
      let point : at ≡ other = sym x.point ∙ ap (λ (z : Situation). z.t) d.is ∙ ap (λ (z : Situation). z.t) same ∙ sym (ap (λ (z : Situation). z.t) k.is) ∙ y.point in
      (step.0, point, step.1)

  -- ---- the value that is lost

  losing : (s : Situation) (V : List (Option ℤ)) (lost : LostValue) → Solves r s V → IsFirstLost (is_bad V) r.system.ports V lost → Stops r s
  losing s V lost solves first = record {
    values = V;
    solves = solves;
    next = EndsBefore Range s.t;
    leads = subst (λ (f : Following). LeadsBy f r s V (EndsBefore Range s.t)) (sym (lost_following r s V (found_there (is_bad V) r.system.ports lost.port.0 first.target first.first first.at))) refl;
    ends = refl;
  }

  -- no value is lost at the start of a run that comes to an instant
  none_initially : (s : Situation) (V : List (Option ℤ)) (lost : LostValue) → Reached r s → SolvesInitially r V → IsFirstLost (is_bad_initially r.system V) r.system.ports V lost → ⊥
  none_initially s V lost way solved first =
      let p = from_start s way (Here s s refl) in
      let same : p.initial ≡ V = one_initial p.initial V p.solved solved in
      let kept : list_any (is_bad_initially r.system V) r.system.ports ≡ false = subst (λ (U : List (Option ℤ)). list_any (is_bad_initially r.system U) r.system.ports ≡ false) same p.kept in
      true_false (sym (found_there (is_bad_initially r.system V) r.system.ports lost.port.0 first.target first.first first.at) ∙ kept)

  lost_same : (lost other : LostValue) (at point : ℕ) → LosesAt r lost at → LosesAt r other point → (lost ≡ other) × (at ≡ point)
  lost_same lost other at point (AtTheStart V v first e) (AtTheStart W w first2 f) =
      let same : V ≡ W = one_initial V W v w in
      let here : IsFirstLost (is_bad_initially r.system W) r.system.ports W lost = subst (λ (U : List (Option ℤ)). IsFirstLost (is_bad_initially r.system U) r.system.ports U lost) same first in
      (first_same (is_bad_initially r.system W) r.system.ports W lost other here first2, e ∙ sym f)
  lost_same lost other at point (AtTheStart V v first e) (InInstant s W way w first2 f) = absurd (none_initially s V lost way v first)
  lost_same lost other at point (InInstant s W way w first2 f) (AtTheStart V v first e) = absurd (none_initially s V other way v first)
  lost_same lost other at point (InInstant s V way v first e) (InInstant z W way2 w first2 f) =
      let same : s ≡ z = one_place s z way way2 (losing s V lost v first) (losing z W other w first2) in
      let values : V ≡ W = one_values s V W way v (subst (λ (y : Situation). Solves r y W) (sym same) w) in
      let here : IsFirstLost (is_bad W) r.system.ports W lost = subst (λ (U : List (Option ℤ)). IsFirstLost (is_bad U) r.system.ports U lost) values first in
      (first_same (is_bad W) r.system.ports W lost other here first2, sym e ∙ ap (λ (y : Situation). y.t) same ∙ f)

pub fixed_once : Laws → FixedOnce
fixed_once laws r sound machines i j at other e f x y = fixed_same laws r sound machines i j at other e f x y

pub lost_once : Laws → LostOnce
lost_once laws r sound machines lost other at point x y = lost_same laws r sound machines lost other at point x y
