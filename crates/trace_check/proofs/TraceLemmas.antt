-- The checking of a trace's instants one after another, and the first line of all that breaks a rule.
use Rattle.std.proofs.Common.{arith, ◌≡◌, ◌≢◌, ◌↔◌, refl, sym, ap, ◌∙◌, subst, ℕ, ◌+◌, ◌-◌, ◌^◌, ◌<◌, ◌≤◌, suc, zero, ℤ, Bool, false, IsTrue, List, [], ◌∷◌, ◌++◌, Option, Some, None, ◌⊎◌, inl, inr, length, append_assoc, length-append}
use Rattle.std.specs.Prelude.{slice_get, nat_eq, IfSome}
use Rattle.std.specs.List.{AllByRecursion, flat_map}
use Rattle.std.specs.Option.{option_map}
use Rattle.std.proofs.lemmas.Bool.{cases_lt, eq-eqb, eqb-true}
use Rattle.std.proofs.Math.ListN.{replicate}
use Rattle.std.proofs.lemmas.List.{length-map, length-replicate}
use Rattle.std.proofs.lemmas.List.Concat.{flat_map-append}
use Rattle.std.proofs.lemmas.Option.{none-some as none_some}
use Rattle.std.proofs.lemmas.Slice.Zip.{AllZip-long}
use Rattle.value_types.specs.declared.values.PortType.{PortType}
use Rattle.system_model.specs.Text.{Instant, instant_at}
use Rattle.system_model.specs.declared.plan.EndKind.TheVariants.{Stop}
use Rattle.system_model.specs.declared.system.System.{System}
use Rattle.system_model.proofs.CallerLemmas.{true_false}
use Rattle.trace_reading.specs.declared.trace.Trace.{Trace}
use Rattle.trace_reading.specs.declared.trace.TraceLine.{TraceLine}
use Rattle.trace_reading.specs.declared.trace.TraceLine.TheVariants.{At}
use Rattle.trace_reading.specs.declared.trace.TracePort.{TracePort}
use Rattle.trace_reading.specs.Form.{IsInstant, IsTrace, MayHave, instant_lines, kinds_of, told_values_from}
use Rattle.trace_reading.specs.Written.{port_told, ports_told}
use Rattle.trace_reading.proofs.CallerLemmas.{heads, tails, unsome}
use Rattle.trace_check.specs.Instants.{AreInstantsOf, ReachesPoint, end_line_number, last_time, line_after}
use Rattle.trace_check.specs.Rules.{Breaks, BreaksIn, IsFirst, KeepsRules}
use Rattle.trace_check.specs.Rules.Breaks.{AtPort, InInstant, AtEnd}
use Rattle.trace_check.specs.Steps.{BeginsNoValue, BeginsWithValues, IsFirstIn}
use Rattle.trace_check.proofs.InstantLemmas.{comes_first, offset_within, rule_above}

-- ---- lists

middle : {X : Type 0} (P : X → Type 0) (xs ys : List X) (x : X) → AllByRecursion P (xs ++ (x ∷ ys)) → P x
middle P [] ys x all = all.0
middle P (y ∷ xs) ys x all = middle P xs ys x all.1

at_middle : {X : Type 0} (xs ys : List X) (x : X) → slice_get (xs ++ (x ∷ ys)) (length xs) ≡ Some x
at_middle [] ys x = refl
at_middle (y ∷ xs) ys x = at_middle xs ys x

at_prefix : {X : Type 0} (xs ys : List X) (k : ℕ) (x : X) → slice_get xs k ≡ Some x → slice_get (xs ++ ys) k ≡ Some x
at_prefix [] ys k x e = absurd (none_some x e)
at_prefix (y ∷ xs) ys zero x e = e
at_prefix (y ∷ xs) ys (suc k) x e = at_prefix xs ys k x e

-- what stands in a list with one more at its end stands in it or is that one
data Pushed {X : Type 0} (xs : List X) (k : ℕ) (x y : X) : Type 0 where
  Old : slice_get xs k ≡ Some y → Pushed xs k x y
  New : y ≡ x → Pushed xs k x y

pushed_at : {X : Type 0} (xs : List X) (k : ℕ) (x y : X) → slice_get (xs ++ (x ∷ [])) k ≡ Some y → Pushed xs k x y
pushed_at [] zero x y e = New (sym (unsome x y e))
pushed_at [] (suc k) x y e = absurd (none_some y e)
pushed_at (z ∷ xs) zero x y e = Old e
pushed_at (z ∷ xs) (suc k) x y e = elim (pushed_at xs k x y e) [ Old old ↦ Old old | New new ↦ New new ]

-- one list cut at two places
data Cuts {X : Type 0} (a : List X) (j : X) (b : List X) (c : List X) (i : X) (d : List X) : Type 0 where
  Earlier : (e : List X) → c ≡ a ++ (j ∷ e) → Cuts a j b c i d
  There : a ≡ c → j ≡ i → Cuts a j b c i d
  Later : (e : List X) → a ≡ c ++ (i ∷ e) → Cuts a j b c i d

cuts : {X : Type 0} (a : List X) (j : X) (b : List X) (c : List X) (i : X) (d : List X) → a ++ (j ∷ b) ≡ c ++ (i ∷ d) → Cuts a j b c i d
cuts [] j b [] i d e = There refl (heads j i b d e)
cuts {X} [] j b (x ∷ c) i d e = Earlier c (ap (λ (y : X). y ∷ c) (sym (heads j x b (c ++ (i ∷ d)) e)))
cuts {X} (y ∷ a) j b [] i d e = Later a (ap (λ (z : X). z ∷ a) (heads y i (a ++ (j ∷ b)) d e))
cuts {X} (y ∷ a) j b (x ∷ c) i d e =
    let first : y ≡ x = heads y x (a ++ (j ∷ b)) (c ++ (i ∷ d)) e in
    elim (cuts a j b c i d (tails y x (a ++ (j ∷ b)) (c ++ (i ∷ d)) e)) [
      | Earlier f is ↦ Earlier f (ap (λ (z : X). z ∷ c) (sym first) ∙ ap (λ (zs : List X). y ∷ zs) is)
      | There same_prefix same ↦ There (ap (λ (z : X). z ∷ a) first ∙ ap (λ (zs : List X). x ∷ zs) same_prefix) same
      | Later f is ↦ Later f (ap (λ (z : X). z ∷ a) first ∙ ap (λ (zs : List X). x ∷ zs) is)
    ]

-- ---- instants and their lines

last_pushed : (before : List Instant) (i : Instant) → last_time (before ++ (i ∷ [])) ≡ Some (i.t, i.n)
last_pushed before i =
    let size : length (before ++ (i ∷ [])) - 1 ≡ length before = omega (arith, length-append before (i ∷ [])) in
    ap (λ (k : ℕ). option_map (λ (j : Instant). (j.t, j.n)) (slice_get (before ++ (i ∷ [])) k)) size
    ∙ ap (λ (o : Option Instant). option_map (λ (j : Instant). (j.t, j.n)) o) (at_middle before [] i)

no_value_first : (instants : List Instant) → BeginsNoValue (flat_map instant_lines instants)
no_value_first [] = tt
no_value_first (i ∷ instants) = tt

-- so far no line of an instant breaks a rule
pub record Along (system : System) (t : Trace) (instants : List Instant) (rest : List TraceLine) (last : Option (ℕ × ℕ)) (is_reached : Bool) : Type 0 where
  pub before : List Instant
  pub after : List Instant
  pub parts : instants ≡ before ++ after
  pub lines : rest ≡ flat_map instant_lines after
  pub last_is : last ≡ last_time before
  pub reached : IsTrue is_reached ↔ ReachesPoint t.stop before
  pub good : (a b : List Instant) (i : Instant) (o r : ℕ) → before ≡ a ++ (i ∷ b) → BreaksIn system t (last_time a) i o r → ⊥

reaches_none : (point : ℕ) → ReachesPoint point [] → ⊥
reaches_none point reaches = none_some reaches.instant reaches.at

no_cut : {X : Type 0} (a b : List X) (x : X) → [] ≡ a ++ (x ∷ b) → ⊥
no_cut [] b x e = cc e
no_cut (y ∷ a) b x e = cc e

pub along_none : (system : System) (t : Trace) (instants : List Instant) → AreInstantsOf t instants → Along system t instants t.lines None false
along_none system t instants told = record {
  before = [];
  after = instants;
  parts = refl;
  lines = told.lines;
  last_is = refl;
  reached = ((λ e. absurd (true_false (sym e))), (λ reaches. absurd (reaches_none t.stop reaches)));
  good = λ a b i o r e breaks. no_cut a b i e;
}

-- the instant whose `at` line comes next
pub record Coming (system : System) (t : Trace) (instants : List Instant) (rest rows : List TraceLine) (time n : ℕ) (last : Option (ℕ × ℕ)) (is_reached : Bool) (along : Along system t instants rest last is_reached) : Type 0 where
  pub instant : Instant
  pub later : List Instant
  pub after : along.after ≡ instant ∷ later
  pub at : instant.t ≡ time
  pub number : instant.n ≡ n
  pub rows_are : rows ≡ told_values_from 0 instant.values ++ flat_map instant_lines later

record ComingOf (after : List Instant) (rows : List TraceLine) (time n : ℕ) : Type 0 where
  instant : Instant
  later : List Instant
  is : after ≡ instant ∷ later
  at : instant.t ≡ time
  number : instant.n ≡ n
  rows_are : rows ≡ told_values_from 0 instant.values ++ flat_map instant_lines later

coming_of : (after : List Instant) (rows : List TraceLine) (time n : ℕ) → At time n ∷ rows ≡ flat_map instant_lines after → ComingOf after rows time n
coming_of [] rows time n e = absurd (cc e)
coming_of (i ∷ later) rows time n e =
    let line : At time n ≡ At i.t i.n = heads (At time n) (At i.t i.n) rows (told_values_from 0 i.values ++ flat_map instant_lines later) e in
    let left : rows ≡ told_values_from 0 i.values ++ flat_map instant_lines later = tails (At time n) (At i.t i.n) rows (told_values_from 0 i.values ++ flat_map instant_lines later) e in
    let same_time : i.t ≡ time = cc line in
    let same_number : i.n ≡ n = cc line in
    record { instant = i; later = later; is = refl; at = same_time; number = same_number; rows_are = left }

pub coming : (system : System) (t : Trace) (instants : List Instant) (rest rows : List TraceLine) (time n : ℕ) (last : Option (ℕ × ℕ)) (is_reached : Bool) (along : Along system t instants rest last is_reached) →
    rest ≡ At time n ∷ rows → Coming system t instants rest rows time n last is_reached along
coming system t instants rest rows time n last is_reached along e =
    let found = coming_of along.after rows time n (sym e ∙ along.lines) in
    record { instant = found.instant; later = found.later; after = found.is; at = found.at; number = found.number; rows_are = found.rows_are }

-- its values are one a port
pub coming_values : (t : Trace) (before later instants : List Instant) (i : Instant) (rows : List TraceLine) → AreInstantsOf t instants → instants ≡ before ++ (i ∷ later) →
    rows ≡ told_values_from 0 i.values ++ flat_map instant_lines later → BeginsWithValues rows (length t.ports) i.values (flat_map instant_lines later)
coming_values t before later instants i rows told parts lines =
    let whole : AllByRecursion (IsInstant (kinds_of t.ports)) (before ++ (i ∷ later)) = subst (AllByRecursion (IsInstant (kinds_of t.ports))) parts told.each in
    let is = middle (IsInstant (kinds_of t.ports)) before later i whole in
    record {
      size = AllZip-long MayHave (kinds_of t.ports) i.values is.values ∙ length-map t.ports (λ (p : TracePort). p.kind);
      parts = lines;
      ends = no_value_first later;
    }

pub instant_same : (i j : Instant) → i.t ≡ j.t → i.n ≡ j.n → i.values ≡ j.values → i ≡ j
instant_same i j t n values =
    ap (λ (x : ℕ). instant_at x i.n i.values) t ∙ ap (λ (x : ℕ). instant_at j.t x i.values) n ∙ ap (λ (x : List (Option ℤ)). instant_at j.t j.n x) values

-- the instant that comes next is this one
pub record Here (system : System) (t : Trace) (instants : List Instant) (rest : List TraceLine) (last : Option (ℕ × ℕ)) (is_reached : Bool) (i : Instant) : Type 0 where
  pub before : List Instant
  pub later : List Instant
  pub parts : instants ≡ before ++ (i ∷ later)
  pub lines : rest ≡ flat_map instant_lines (i ∷ later)
  pub last_is : last ≡ last_time before
  pub reached : IsTrue is_reached ↔ ReachesPoint t.stop before
  pub good : (a b : List Instant) (j : Instant) (o r : ℕ) → before ≡ a ++ (j ∷ b) → BreaksIn system t (last_time a) j o r → ⊥

-- what the reading of its values gives
pub record Told (t : Trace) (rows after : List TraceLine) (values : List (Option ℤ)) : Type 0 where
  pub values_are : (told : List (Option ℤ)) (rest : List TraceLine) → BeginsWithValues rows (length t.ports) told rest → values ≡ told
  pub rest_is : (told : List (Option ℤ)) (rest : List TraceLine) → BeginsWithValues rows (length t.ports) told rest → after ≡ rest

-- the lines after it are those of the later instants
pub record HereThen (system : System) (t : Trace) (instants : List Instant) (rest after : List TraceLine) (last : Option (ℕ × ℕ)) (is_reached : Bool) (i : Instant) : Type 0 where
  pub here : Here system t instants rest last is_reached i
  pub after_is : after ≡ flat_map instant_lines here.later

pub here : (system : System) (t : Trace) (instants : List Instant) (rest rows after : List TraceLine) (time n : ℕ) (last : Option (ℕ × ℕ)) (is_reached : Bool) (values : List (Option ℤ)) →
    AreInstantsOf t instants → Along system t instants rest last is_reached → rest ≡ At time n ∷ rows → Told t rows after values →
    HereThen system t instants rest after last is_reached (instant_at time n values)
here system t instants rest rows after time n last is_reached values told along e read =
    let next = coming system t instants rest rows time n last is_reached along e in
    let parts : instants ≡ along.before ++ (next.instant ∷ next.later) = along.parts ∙ ap (λ (xs : List Instant). along.before ++ xs) next.after in
    let begins = coming_values t along.before next.later instants next.instant rows told parts next.rows_are in
    let is : next.instant ≡ instant_at time n values = instant_same next.instant (instant_at time n values) next.at next.number (sym (read.values_are next.instant.values (flat_map instant_lines next.later) begins)) in
    record {
      here = record {
        before = along.before;
        later = next.later;
        parts = parts ∙ ap (λ (j : Instant). along.before ++ (j ∷ next.later)) is;
        lines = along.lines ∙ (ap (λ (xs : List Instant). flat_map instant_lines xs) next.after ∙ ap (λ (j : Instant). flat_map instant_lines (j ∷ next.later)) is);
        last_is = along.last_is;
        reached = along.reached;
        good = along.good;
      };
      after_is = read.rest_is next.instant.values (flat_map instant_lines next.later) begins;
    }

-- ---- an instant whose lines break no rule

reached_more : (point : ℕ) (before : List Instant) (i : Instant) → ReachesPoint point before → ReachesPoint point (before ++ (i ∷ []))
reached_more point before i reaches = record {
  place = reaches.place;
  instant = reaches.instant;
  at = at_prefix before (i ∷ []) reaches.place reaches.instant reaches.at;
  there = reaches.there;
}

reached_now : (point : ℕ) (before : List Instant) (i : Instant) → i.t ≡ point → ReachesPoint point (before ++ (i ∷ []))
reached_now point before i there = record { place = length before; instant = i; at = at_middle before [] i; there = there }

reached_before : (point : ℕ) (before : List Instant) (i : Instant) → ReachesPoint point (before ++ (i ∷ [])) → ReachesPoint point before ⊎ (i.t ≡ point)
reached_before point before i reaches =
    elim (pushed_at before reaches.place i reaches.instant reaches.at) [
      | Old old ↦ inl (record { place = reaches.place; instant = reaches.instant; at = old; there = reaches.there })
      | New new ↦ inr (sym (ap (λ (j : Instant). j.t) new) ∙ reaches.there)
    ]

reaches_step : (point : ℕ) (before : List Instant) (i : Instant) (was now : Bool) → IsTrue was ↔ ReachesPoint point before → IsTrue now ↔ (IsTrue was ⊎ (i.t ≡ point)) →
    IsTrue now ↔ ReachesPoint point (before ++ (i ∷ []))
reaches_step point before i was now old new = (
  (λ is. elim (new.0 is) [ inl earlier ↦ reached_more point before i (old.0 earlier) | inr there ↦ reached_now point before i there ]),
  (λ reaches. elim (reached_before point before i reaches) [ inl earlier ↦ new.1 (inl (old.1 earlier)) | inr there ↦ new.1 (inr there) ]),
)

too_long : (a b before f : List Instant) (i j : Instant) → before ++ (i ∷ []) ≡ a ++ (j ∷ b) → a ≡ before ++ (i ∷ f) → ⊥
too_long a b before f i j e is =
    let whole : length (before ++ (i ∷ [])) ≡ length (a ++ (j ∷ b)) = ap length e in
    let prefix : length a ≡ length (before ++ (i ∷ f)) = ap length is in
    omega (arith, whole, prefix, length-append before (i ∷ []), length-append a (j ∷ b), length-append before (i ∷ f))

good_more : (system : System) (t : Trace) (before : List Instant) (last : Option (ℕ × ℕ)) (i : Instant) → last ≡ last_time before →
    ((a b : List Instant) (j : Instant) (o r : ℕ) → before ≡ a ++ (j ∷ b) → BreaksIn system t (last_time a) j o r → ⊥) → ((o r : ℕ) → BreaksIn system t last i o r → ⊥) →
    (a b : List Instant) (j : Instant) (o r : ℕ) → before ++ (i ∷ []) ≡ a ++ (j ∷ b) → BreaksIn system t (last_time a) j o r → ⊥
good_more system t before last i last_is good none a b j o r e breaks =
    elim (cuts a j b before i [] (sym e)) [
      | Earlier f is ↦ good a f j o r is breaks
      | There same_prefix same ↦
          let P : List Instant → Type 0 = λ xs. BreaksIn system t (last_time xs) j o r in
          let Q : Instant → Type 0 = λ x. BreaksIn system t (last_time before) x o r in
          let R : Option (ℕ × ℕ) → Type 0 = λ x. BreaksIn system t x i o r in
          none o r (subst R (sym last_is) (subst Q same (subst P same_prefix breaks)))
      | Later f is ↦ too_long a b before f i j e is
    ]

pub along_more : (system : System) (t : Trace) (instants : List Instant) (rest after : List TraceLine) (time n : ℕ) (last : Option (ℕ × ℕ)) (was now : Bool) (values : List (Option ℤ)) →
    HereThen system t instants rest after last was (instant_at time n values) → ((o r : ℕ) → BreaksIn system t last (instant_at time n values) o r → ⊥) →
    IsTrue now ↔ (IsTrue was ⊎ (time ≡ t.stop)) → Along system t instants after (Some (time, n)) now
along_more system t instants rest after time n last was now values then none reached =
    let at = then.here in
    let i : Instant = instant_at time n values in
    record {
      before = at.before ++ (i ∷ []);
      after = at.later;
      parts = at.parts ∙ sym (append_assoc at.before (i ∷ []) at.later);
      lines = then.after_is;
      last_is = sym (last_pushed at.before i);
      reached = reaches_step t.stop at.before i was now at.reached reached;
      good = good_more system t at.before last i at.last_is at.good none;
    }

-- ---- no instant is left

nil_right : {X : Type 0} (xs : List X) → xs ++ [] ≡ xs
nil_right [] = refl
nil_right {X} (x ∷ xs) = ap (λ (ys : List X). x ∷ ys) (nil_right xs)

none_after : (after : List Instant) → ((time n : ℕ) (rows : List TraceLine) → flat_map instant_lines after ≡ At time n ∷ rows → ⊥) → after ≡ []
none_after [] no_more = refl
none_after (i ∷ later) no_more = absurd (no_more i.t i.n (told_values_from 0 i.values ++ flat_map instant_lines later) refl)

-- each of the trace's instants was checked
pub record AtLast (system : System) (t : Trace) (instants : List Instant) (rest : List TraceLine) (is_reached : Bool) : Type 0 where
  pub none_left : rest ≡ []
  pub reached : IsTrue is_reached ↔ ReachesPoint t.stop instants
  pub good : (a b : List Instant) (i : Instant) (o r : ℕ) → instants ≡ a ++ (i ∷ b) → BreaksIn system t (last_time a) i o r → ⊥

pub at_last : (system : System) (t : Trace) (instants : List Instant) (rest : List TraceLine) (last : Option (ℕ × ℕ)) (is_reached : Bool) → Along system t instants rest last is_reached →
    ((time n : ℕ) (rows : List TraceLine) → rest ≡ At time n ∷ rows → ⊥) → AtLast system t instants rest is_reached
at_last system t instants rest last is_reached along no_more =
    let none = none_after along.after (λ time n rows e. no_more time n rows (along.lines ∙ e)) in
    let whole : along.before ≡ instants = sym (along.parts ∙ (ap (λ (xs : List Instant). along.before ++ xs) none ∙ nil_right along.before)) in
    let P : List Instant → Type 0 = λ xs. IsTrue is_reached ↔ ReachesPoint t.stop xs in
    record {
      none_left = along.lines ∙ ap (λ (xs : List Instant). flat_map instant_lines xs) none;
      reached = subst P whole along.reached;
      good = λ a b i o r e breaks. along.good a b i o r (whole ∙ e) breaks;
    }

-- the lines of the ports are the system's
abbrev pub TellsPorts : System → Trace → Type 0
TellsPorts system t = (k : ℕ) → slice_get t.ports k ≡ slice_get (ports_told system) k

same_length : {X : Type 0} (xs ys : List X) → ((k : ℕ) → slice_get xs k ≡ slice_get ys k) → length xs ≡ length ys
same_length [] [] same = refl
same_length [] (y ∷ ys) same = absurd (none_some y (same 0))
same_length (x ∷ xs) [] same = absurd (none_some x (sym (same 0)))
same_length (x ∷ xs) (y ∷ ys) same = ap suc (same_length xs ys (λ k. same (suc k)))

pub ports_length : (system : System) (t : Trace) → TellsPorts system t → length t.ports ≡ length system.ports
ports_length system t ports = same_length t.ports (ports_told system) ports ∙ length-map system.ports (port_told system.components)

keeps_each : (system : System) (t : Trace) (rest : List TraceLine) (is_reached : Bool) → TellsPorts system t → ((instants : List Instant) → AreInstantsOf t instants → AtLast system t instants rest is_reached) →
    (t.kind ≡ Stop → (t.point ≡ t.stop) × IsTrue is_reached) → (line rule : ℕ) → Breaks system t line rule → ⊥
keeps_each system t rest is_reached ports all right line rule (AtPort k at rule_is differs) = differs (ports k)
keeps_each system t rest is_reached ports all right line rule (InInstant a b i o told at breaks) = (all (a ++ (i ∷ b)) told).good a b i o rule refl breaks
keeps_each system t rest is_reached ports all right line rule (AtEnd instants told at rule_is stop wrong) =
    let end = right stop in
    wrong (record { point = end.0; reached = (all instants told).reached.0 end.1 })

pub keeps : (system : System) (t : Trace) (rest : List TraceLine) (is_reached : Bool) → TellsPorts system t → ((instants : List Instant) → AreInstantsOf t instants → AtLast system t instants rest is_reached) →
    (t.kind ≡ Stop → (t.point ≡ t.stop) × IsTrue is_reached) → KeepsRules system t
keeps system t rest is_reached ports all right = keeps_each system t rest is_reached ports all right

end_least : (system : System) (t : Trace) (rest : List TraceLine) (is_reached : Bool) (number : ℕ) → number ≡ end_line_number t → TellsPorts system t →
    ((instants : List Instant) → AreInstantsOf t instants → AtLast system t instants rest is_reached) → (l r : ℕ) → Breaks system t l r → (number < l) ⊎ ((number ≡ l) × (2 ≤ r))
end_least system t rest is_reached number is ports all l r (AtPort k at rule_is differs) = absurd (differs (ports k))
end_least system t rest is_reached number is ports all l r (InInstant a b i o told at breaks) = absurd ((all (a ++ (i ∷ b)) told).good a b i o r refl breaks)
end_least system t rest is_reached number is ports all l r (AtEnd instants told at rule_is stop wrong) = comes_first number l 2 r (omega (arith, is, at)) (omega (arith, rule_is))

pub first_at_end : (system : System) (t : Trace) (rest : List TraceLine) (is_reached : Bool) (number : ℕ) → number ≡ length t.ports + 2 + (length t.lines - length rest) → IsTrace t → TellsPorts system t →
    ((instants : List Instant) → AreInstantsOf t instants → AtLast system t instants rest is_reached) → t.kind ≡ Stop → (t.point ≡ t.stop → IsTrue is_reached → ⊥) → IsFirst system t number 2
first_at_end system t rest is_reached number number_is form ports all stop wrong =
    let told : AreInstantsOf t form.instants = record { each = form.each; lines = form.lines } in
    let last = all form.instants told in
    let none : length rest ≡ 0 = ap length last.none_left in
    let is : number ≡ end_line_number t = omega (arith, number_is, none) in
    record {
      breaks = AtEnd form.instants told is refl stop (λ stops. wrong stops.point (last.reached.1 stops.reached));
      least = end_least system t rest is_reached number is ports all;
    }

-- ---- an instant with a line that breaks a rule

number_of : (system : System) (t : Trace) (instants : List Instant) (rest : List TraceLine) (last : Option (ℕ × ℕ)) (is_reached : Bool) (i : Instant) → AreInstantsOf t instants →
    (at : Here system t instants rest last is_reached i) → length t.lines ≡ length (flat_map instant_lines at.before) + length rest
number_of system t instants rest last is_reached i told at =
    ap length (told.lines ∙ (ap (λ (xs : List Instant). flat_map instant_lines xs) at.parts ∙ flat_map-append instant_lines at.before (i ∷ at.later)))
    ∙ (length-append (flat_map instant_lines at.before) (flat_map instant_lines (i ∷ at.later)) ∙ ap (λ (xs : List TraceLine). length (flat_map instant_lines at.before) + length xs) (sym at.lines))

lines_here : (i : Instant) (later : List Instant) → length (flat_map instant_lines (i ∷ later)) ≡ suc (length (told_values_from 0 i.values)) + length (flat_map instant_lines later)
lines_here i later = length-append (instant_lines i) (flat_map instant_lines later)

lines_past : (before e : List Instant) (i : Instant) → length (flat_map instant_lines (before ++ (i ∷ e))) ≡ length (flat_map instant_lines before) + (suc (length (told_values_from 0 i.values)) + length (flat_map instant_lines e))
lines_past before e i =
    ap length (flat_map-append instant_lines before (i ∷ e)) ∙ (length-append (flat_map instant_lines before) (flat_map instant_lines (i ∷ e)) ∙ ap (λ (m : ℕ). length (flat_map instant_lines before) + m) (lines_here i e))

ahead : (number o l o2 r rule : ℕ) → l ≡ number + o2 → (o < o2) ⊎ ((o ≡ o2) × (rule ≤ r)) → (number + o < l) ⊎ ((number + o ≡ l) × (rule ≤ r))
ahead number o l o2 r rule at (inl before) = inl (omega (arith, at, before))
ahead number o l o2 r rule at (inr same) = let line = same.0 in inr (omega (arith, at, line), same.1)

module _ (system : System) (t : Trace) (rest : List TraceLine) (last : Option (ℕ × ℕ)) (is_reached : Bool) (i : Instant) (number o rule : ℕ)
    (number_is : number ≡ length t.ports + 2 + (length t.lines - length rest)) (ports : TellsPorts system t)
    (all : (instants : List Instant) → AreInstantsOf t instants → Here system t instants rest last is_reached i) (first : IsFirstIn system t last i o rule) where
  line_here : (instants : List Instant) (told : AreInstantsOf t instants) → number ≡ line_after t (all instants told).before
  line_here instants told =
      let lines = number_of system t instants rest last is_reached i told (all instants told) in
      omega (arith, number_is, lines)

  within : o ≤ length (told_values_from 0 i.values)
  within = offset_within system t last i o rule first.breaks

  instant_least : (l r : ℕ) → Breaks system t l r → (number + o < l) ⊎ ((number + o ≡ l) × (rule ≤ r))
  instant_least l r (AtPort k at rule_is differs) = absurd (differs (ports k))
  instant_least l r (InInstant a b j o2 told at breaks) =
      let here2 = all (a ++ (j ∷ b)) told in
      let line = line_here (a ++ (j ∷ b)) told in
      elim (cuts a j b here2.before i here2.later here2.parts) [
        | Earlier e is ↦ absurd (here2.good a e j o2 r is breaks)
        | There same_prefix same ↦
            let P : List Instant → Type 0 = λ xs. BreaksIn system t (last_time xs) j o2 r in
            let Q : Instant → Type 0 = λ x. BreaksIn system t (last_time here2.before) x o2 r in
            let R : Option (ℕ × ℕ) → Type 0 = λ x. BreaksIn system t x i o2 r in
            let own : BreaksIn system t last i o2 r = subst R (sym here2.last_is) (subst Q same (subst P same_prefix breaks)) in
            let place : line_after t a ≡ line_after t here2.before = ap (line_after t) same_prefix in
            ahead number o l o2 r rule (omega (arith, at, place, line)) (first.least o2 r own)
        | Later e is ↦
            let place : length (flat_map instant_lines a) ≡ length (flat_map instant_lines (here2.before ++ (i ∷ e))) = ap (λ (xs : List Instant). length (flat_map instant_lines xs)) is in
            let past = lines_past here2.before e i in
            let near = within in
            inl (omega (arith, at, line, place, past, near))
      ]
  instant_least l r (AtEnd instants told at rule_is stop wrong) =
      let at_here = all instants told in
      let line = line_here instants told in
      let lines = number_of system t instants rest last is_reached i told at_here in
      let own : length rest ≡ length (flat_map instant_lines (i ∷ at_here.later)) = ap length at_here.lines in
      let here_lines = lines_here i at_here.later in
      let near = within in
      inl (omega (arith, at, line, lines, own, here_lines, near))

  pub first_in_instant : IsTrace t → IsFirst system t (number + o) rule
  first_in_instant form =
      let told : AreInstantsOf t form.instants = record { each = form.each; lines = form.lines } in
      let at = all form.instants told in
      let whole : AreInstantsOf t (at.before ++ (i ∷ at.later)) = subst (AreInstantsOf t) at.parts told in
      let line = line_here form.instants told in
      let P : Option (ℕ × ℕ) → Type 0 = λ x. BreaksIn system t x i o rule in
      record {
        breaks = InInstant at.before at.later i o whole (omega (arith, line)) (subst P at.last_is first.breaks);
        least = instant_least;
      }

-- ---- a port's line

port_least : (system : System) (t : Trace) (k : ℕ) → k ≤ length t.ports → ((j : ℕ) → j < k → slice_get t.ports j ≡ slice_get (ports_told system) j) →
    (l r : ℕ) → Breaks system t l r → (k + 2 < l) ⊎ ((k + 2 ≡ l) × (1 ≤ r))
port_least system t k within same l r (AtPort j at rule differs) =
    elim (cases_lt j k) [ inl earlier ↦ absurd (differs (same j earlier)) | inr later ↦ comes_first (k + 2) l 1 r (omega (arith, at, later)) (omega (arith, rule)) ]
port_least system t k within same l r (InInstant a b i o told at breaks) =
    let above = rule_above system t (last_time a) i o r breaks in
    comes_first (k + 2) l 1 r (omega (arith, at, within)) (omega (arith, above))
port_least system t k within same l r (AtEnd instants told at rule stop wrong) = comes_first (k + 2) l 1 r (omega (arith, at, within)) (omega (arith, rule))

pub first_port : (system : System) (t : Trace) (k : ℕ) → k ≤ length t.ports → slice_get t.ports k ≢ slice_get (ports_told system) k →
    ((j : ℕ) → j < k → slice_get t.ports j ≡ slice_get (ports_told system) j) → IsFirst system t (k + 2) 1
first_port system t k within differs same = record { breaks = AtPort k refl refl differs; least = port_least system t k within same }

-- ---- points within the limit

points_low : (kinds : List PortType) (before : List Instant) → AllByRecursion (IsInstant kinds) before → (k : ℕ) (i : Instant) → slice_get before k ≡ Some i → i.t ≤ 2 ^ 62
points_low kinds [] all k i at = absurd (none_some i at)
points_low kinds (j ∷ before) all zero i at = subst (λ (x : Instant). x.t ≤ 2 ^ 62) (unsome j i at) all.0.point
points_low kinds (j ∷ before) all (suc k) i at = points_low kinds before all.1 k i at

prefix_all : {X : Type 0} (P : X → Type 0) (xs ys : List X) → AllByRecursion P (xs ++ ys) → AllByRecursion P xs
prefix_all P [] ys all = tt
prefix_all P (x ∷ xs) ys all = (all.0, prefix_all P xs ys all.1)

low_of : (o : Option Instant) → ((i : Instant) → o ≡ Some i → i.t ≤ 2 ^ 62) → IfSome (option_map (λ (i : Instant). (i.t, i.n)) o) (λ (p : ℕ × ℕ). p.0 ≤ 2 ^ 62)
low_of None low = tt
low_of (Some i) low = low i refl

-- the point of the instant before, and that of this one
pub last_low : (system : System) (t : Trace) (rest : List TraceLine) (last : Option (ℕ × ℕ)) (is_reached : Bool) → IsTrace t →
    ((instants : List Instant) → AreInstantsOf t instants → Along system t instants rest last is_reached) → IfSome last (λ (p : ℕ × ℕ). p.0 ≤ 2 ^ 62)
last_low system t rest last is_reached form all =
    let along = all form.instants (record { each = form.each; lines = form.lines }) in
    let kinds = kinds_of t.ports in
    let whole : AllByRecursion (IsInstant kinds) (along.before ++ along.after) = subst (AllByRecursion (IsInstant kinds)) along.parts form.each in
    let prefix = prefix_all (IsInstant kinds) along.before along.after whole in
    let P : Option (ℕ × ℕ) → Type 0 = λ o. IfSome o (λ (p : ℕ × ℕ). p.0 ≤ 2 ^ 62) in
    subst P (sym along.last_is) (low_of (slice_get along.before (length along.before - 1)) (points_low kinds along.before prefix (length along.before - 1)))

pub point_low : (system : System) (t : Trace) (rest : List TraceLine) (last : Option (ℕ × ℕ)) (is_reached : Bool) (i : Instant) → IsTrace t →
    ((instants : List Instant) → AreInstantsOf t instants → Here system t instants rest last is_reached i) → i.t ≤ 2 ^ 62
point_low system t rest last is_reached i form all =
    let at = all form.instants (record { each = form.each; lines = form.lines }) in
    let kinds = kinds_of t.ports in
    let whole : AllByRecursion (IsInstant kinds) (at.before ++ (i ∷ at.later)) = subst (AllByRecursion (IsInstant kinds)) at.parts form.each in
    (middle (IsInstant kinds) at.before at.later i whole).point

-- ---- one round of the checking

-- a place for each port
pub room : (t : Trace) (values : List (Option ℤ)) → values ≡ replicate (length t.ports) None → length values ≡ length t.ports
room t values none = ap length none ∙ length-replicate (length t.ports) None

pub told_from : (t : Trace) (rows lines after : List TraceLine) (old values seen : List (Option ℤ)) → length old ≡ length t.ports → seen ≡ values →
    ((ports : ℕ) (told : List (Option ℤ)) (rest : List TraceLine) → BeginsWithValues rows ports told rest → lines ≡ told_values_from 0 told) →
    ((ports : ℕ) (told : List (Option ℤ)) (rest : List TraceLine) → BeginsWithValues rows ports told rest → after ≡ rest) →
    ((all : List (Option ℤ)) → length all ≡ length old → lines ≡ told_values_from 0 all → values ≡ all) → Told t rows after seen
told_from t rows lines after old values seen size same lines_are rest_is put = record {
  values_are = λ told rest begins. same ∙ put told (begins.size ∙ sym size) (lines_are (length t.ports) told rest begins);
  rest_is = λ told rest begins. rest_is (length t.ports) told rest begins;
}

-- so many lines are left at most
pub along_within : (system : System) (t : Trace) (rest : List TraceLine) (last : Option (ℕ × ℕ)) (is_reached : Bool) → IsTrace t →
    ((instants : List Instant) → AreInstantsOf t instants → Along system t instants rest last is_reached) → length rest ≤ length t.lines
along_within system t rest last is_reached form all =
    let told : AreInstantsOf t form.instants = record { each = form.each; lines = form.lines } in
    let along = all form.instants told in
    let parts = flat_map-append instant_lines along.before along.after in
    let whole : length t.lines ≡ length (flat_map instant_lines along.before ++ flat_map instant_lines along.after) =
    ap length (told.lines ∙ (ap (λ (xs : List Instant). flat_map instant_lines xs) along.parts ∙ parts)) in
    let sum = length-append (flat_map instant_lines along.before) (flat_map instant_lines along.after) in
    let own : length rest ≡ length (flat_map instant_lines along.after) = ap length along.lines in
    omega (arith, whole, sum, own)

module _ (system : System) (t : Trace) (rest rows after : List TraceLine) (time n : ℕ) (last : Option (ℕ × ℕ)) (was : Bool) (seen : List (Option ℤ)) (form : IsTrace t)
    (all : (instants : List Instant) → AreInstantsOf t instants → Along system t instants rest last was) (next : rest ≡ At time n ∷ rows) (read : Told t rows after seen) where
  at_each : (instants : List Instant) → AreInstantsOf t instants → HereThen system t instants rest after last was (instant_at time n seen)
  at_each instants told = here system t instants rest rows after time n last was seen told (all instants told) next read

  -- the lines that were read tell its values
  pub lines_tell : (lines : List TraceLine) → ((ports : ℕ) (told : List (Option ℤ)) (later : List TraceLine) → BeginsWithValues rows ports told later → lines ≡ told_values_from 0 told) →
      lines ≡ told_values_from 0 seen
  lines_tell lines lines_are =
      let told : AreInstantsOf t form.instants = record { each = form.each; lines = form.lines } in
      let along = all form.instants told in
      let coming_next = coming system t form.instants rest rows time n last was along next in
      let parts : form.instants ≡ along.before ++ (coming_next.instant ∷ coming_next.later) = along.parts ∙ ap (λ (xs : List Instant). along.before ++ xs) coming_next.after in
      let begins = coming_values t along.before coming_next.later form.instants coming_next.instant rows told parts coming_next.rows_are in
      lines_are (length t.ports) coming_next.instant.values (flat_map instant_lines coming_next.later) begins
      ∙ ap (told_values_from 0) (sym (read.values_are coming_next.instant.values (flat_map instant_lines coming_next.later) begins))

  pub time_low : time ≤ 2 ^ 62
  time_low = point_low system t rest last was (instant_at time n seen) form (λ instants told. (at_each instants told).here)

  pub rest_shorter : length after < length rest
  rest_shorter =
      let told : AreInstantsOf t form.instants = record { each = form.each; lines = form.lines } in
      let at = at_each form.instants told in
      let now : length rest ≡ length (flat_map instant_lines (instant_at time n seen ∷ at.here.later)) = ap length at.here.lines in
      let later : length after ≡ length (flat_map instant_lines at.here.later) = ap length at.after_is in
      let sum = lines_here (instant_at time n seen) at.here.later in
      omega (arith, now, later, sum)

  pub number_low : (number o rule : ℕ) → number ≡ length t.ports + 2 + (length t.lines - length rest) → IsFirstIn system t last (instant_at time n seen) o rule →
      number + o ≤ length t.ports + 2 + length t.lines
  number_low number o rule number_is first =
      let told : AreInstantsOf t form.instants = record { each = form.each; lines = form.lines } in
      let at = at_each form.instants told in
      let lines = number_of system t form.instants rest last was (instant_at time n seen) told at.here in
      let now : length rest ≡ length (flat_map instant_lines (instant_at time n seen ∷ at.here.later)) = ap length at.here.lines in
      let sum = lines_here (instant_at time n seen) at.here.later in
      let near = offset_within system t last (instant_at time n seen) o rule first.breaks in
      omega (arith, lines, now, sum, near, number_is)

  pub round_first : (number o rule : ℕ) → number ≡ length t.ports + 2 + (length t.lines - length rest) → TellsPorts system t → IsFirstIn system t last (instant_at time n seen) o rule →
      IsFirst system t (number + o) rule
  round_first number o rule number_is ports first =
      first_in_instant system t rest last was (instant_at time n seen) number o rule number_is ports (λ instants told. (at_each instants told).here) first form

  pub round_more : (now : Bool) → ((o r : ℕ) → BreaksIn system t last (instant_at time n seen) o r → ⊥) → IsTrue now ↔ (IsTrue was ⊎ (time ≡ t.stop)) →
      (instants : List Instant) → AreInstantsOf t instants → Along system t instants after (Some (time, n)) now
  round_more now none reached instants told = along_more system t instants rest after time n last was now seen (at_each instants told) none reached

-- no instant is left
module _ (system : System) (t : Trace) (rest : List TraceLine) (last : Option (ℕ × ℕ)) (is_reached : Bool) (form : IsTrace t)
    (all : (instants : List Instant) → AreInstantsOf t instants → Along system t instants rest last is_reached) (no_more : (time n : ℕ) (rows : List TraceLine) → rest ≡ At time n ∷ rows → ⊥)
    (ports : TellsPorts system t) where
  pub end_keeps : (t.kind ≡ Stop → (t.point ≡ t.stop) × IsTrue is_reached) → KeepsRules system t
  end_keeps right = keeps system t rest is_reached ports (λ instants told. at_last system t instants rest last is_reached (all instants told) no_more) right

  pub end_first : (number : ℕ) → number ≡ length t.ports + 2 + (length t.lines - length rest) → t.kind ≡ Stop → (t.point ≡ t.stop → IsTrue is_reached → ⊥) → IsFirst system t number 2
  end_first number number_is stop wrong =
      first_at_end system t rest is_reached number number_is form ports (λ instants told. at_last system t instants rest last is_reached (all instants told) no_more) stop wrong

-- ---- what is answered

pub reached_here : (was : Bool) (time stop : ℕ) → was ≡ false → IsTrue (nat_eq time stop) ↔ (IsTrue was ⊎ (time ≡ stop))
reached_here was time stop not_before = (
  (λ is. inr (eqb-true time stop is)),
  (λ either. elim either [ inl before ↦ absurd (true_false (sym before ∙ not_before)) | inr there ↦ eq-eqb time stop there ]),
)

pub first_is : (system : System) (t : Trace) (a b line rule : ℕ) → a ≡ line → b ≡ rule → IsFirst system t a b → IsFirst system t line rule
first_is system t a b line rule at same first =
    let P : ℕ → Type 0 = λ k. IsFirst system t k b in
    let Q : ℕ → Type 0 = λ r. IsFirst system t line r in
    subst Q same (subst P at first)

pub first_port_of : (system : System) (t : Trace) (told : List TracePort) (k : ℕ) → told ≡ t.ports → k ≤ length told → slice_get told k ≢ slice_get (ports_told system) k →
    ((j : ℕ) → j < k → slice_get told j ≡ slice_get (ports_told system) j) → IsFirst system t (k + 2) 1
first_port_of system t told k are within differs same =
    let P : List TracePort → Type 0 = λ ports. k ≤ length ports in
    let Q : List TracePort → Type 0 = λ ports. slice_get ports k ≢ slice_get (ports_told system) k in
    let R : List TracePort → Type 0 = λ ports. (j : ℕ) → j < k → slice_get ports j ≡ slice_get (ports_told system) j in
    first_port system t k (subst P are within) (subst Q are differs) (subst R are same)
