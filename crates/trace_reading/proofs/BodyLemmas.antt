-- The walk goes through exactly the lines of instants that are in form.
use Rattle.std.proofs.Common.{arith, ◌≡◌, ◌≢◌, refl, sym, ap, subst, inl, inr, ◌-◌, ◌∙◌, ℕ, ◌+◌, ◌^◌, ◌<◌, ◌≤◌, zero, suc, ℤ, List, [], ◌∷◌, ◌++◌, map, length, Option, Some, None, Bool, true, false, ◌&&◌, ◌==◌, nat_le, nat_lt, cond, drop, slice_get, count_by}
use Rattle.std.specs.List.{AllByRecursion, AllZip, flat_map}
use Rattle.std.specs.Option.{option_and_then, option_map_or}
use Rattle.std.proofs.lemmas.List.{append_assoc, map-append, drop_all, take_all, length-drop}
use Rattle.std.proofs.lemmas.Bool.{le-leb, leb-true, lt-ltb, ltb-true, eq-eqb, eqb-true, cases_lt}
use Rattle.std.proofs.lemmas.Option.{slice_get_within}
use Rattle.value_types.specs.declared.values.PortType.{PortType}
use Rattle.value_types.specs.declared.values.PortType.TheVariants.{Clock}
use Rattle.value_types.specs.Values.{Fits, is_fitting}
use Rattle.system_model.specs.declared.plan.EndKind.{EndKind}
use Rattle.system_model.specs.Text.{Instant}
use Rattle.trace_reading.specs.declared.trace.TraceLine.{TraceLine}
use Rattle.trace_reading.specs.declared.trace.TraceLine.TheVariants.{At, Value}
use Rattle.trace_reading.specs.declared.item.Item.{Item}
use Rattle.trace_reading.specs.declared.item.Item.TheVariants.{Row, End}
use Rattle.trace_reading.specs.declared.item.Place.{Place}
use Rattle.trace_reading.specs.declared.item.Place.TheVariants.{Between, Within, Ended}
use Rattle.trace_reading.specs.Form.{MayHave, IsInstant, instant_lines, told_values_from}
use Rattle.trace_reading.specs.Walk.{walk, is_closed, is_next, is_start, is_clock, fits_at, clocks_before, items_of}
use Rattle.trace_reading.proofs.ListLemmas.{both, parts, one_more, unsome}
use Rattle.trace_reading.proofs.FitLemmas.{fitting, fits, fitting_at}
use Rattle.trace_reading.proofs.ClockLemmas.{no_clock, past_other, more_clocks, same_count}

abbrev pub rows : List TraceLine → List Item
rows lines = map (λ (line : TraceLine). Row line) lines

-- a step that is allowed
goes : (kinds : List PortType) (test : Bool) (next : Place) (items : List Item) (end : Option Place) → test ≡ true → walk kinds next items ≡ end → option_and_then (λ (p : Place). walk kinds p items) (cond test (Some next) None) ≡ end
goes kinds true next items end e w = w
goes kinds false next items end e w = absurd (cc e)

pub none_left : (kinds : List PortType) (k : ℕ) → drop k kinds ≡ [] → clocks_before kinds k ≡ clocks_before kinds (length kinds)
none_left kinds k e =
    let short : length kinds ≤ k = omega (arith, length-drop k kinds, ap length e) in
    ap (λ (ks : List PortType). count_by is_clock ks) (take_all k kinds short ∙ sym (take_all (length kinds) kinds (omega arith)))

values_walked : (kinds : List PortType) (next k : ℕ) (ks : List PortType) (values : List (Option ℤ)) (rest : List Item) (end : Option Place) → drop k kinds ≡ ks → next ≤ k → clocks_before kinds next ≡ clocks_before kinds k → AllZip MayHave ks values → ((q : ℕ) → is_closed kinds (Within q) ≡ true → walk kinds (Within q) rest ≡ end) → walk kinds (Within next) (rows (told_values_from k values) ++ rest) ≡ end
values_walked kinds next k [] [] rest end left order same fit more =
    more next (eq-eqb (clocks_before kinds next) (clocks_before kinds (length kinds)) (same ∙ none_left kinds k left))
values_walked kinds next k [] (v ∷ vs) rest end left order same fit more = absurd fit
values_walked kinds next k (kind ∷ ks) [] rest end left order same fit more = absurd fit
values_walked kinds next k (kind ∷ ks) (None ∷ vs) rest end left order same fit more =
    let at = one_more kinds ks k kind left in
    values_walked kinds next (k + 1) ks vs rest end at.0 (omega (arith, order)) (same ∙ sym (past_other kinds k kind at.1 (no_clock kind fit.0))) fit.1 more
values_walked kinds next k (kind ∷ ks) (Some v ∷ vs) rest end left order same fit more =
    let at = one_more kinds ks k kind left in
    let fitted : fits_at kinds k v ≡ true = ap (λ (o : Option PortType). option_map_or (λ (p : PortType). is_fitting p v) o false) at.1 ∙ fitting kind v fit.0 in
    let test : is_next kinds next k v ≡ true = both (nat_le next k) (fits_at kinds k v && clocks_before kinds next == clocks_before kinds k) (le-leb next k order) (both (fits_at kinds k v) (clocks_before kinds next == clocks_before kinds k) fitted (eq-eqb (clocks_before kinds next) (clocks_before kinds k) same)) in
    goes kinds (is_next kinds next k v) (Within (k + 1)) (rows (told_values_from (k + 1) vs) ++ rest) end test
    (values_walked kinds (k + 1) (k + 1) ks vs rest end at.0 (omega arith) refl fit.1 more)

-- the items of some instants and the end
abbrev pub body_items : List Instant → EndKind → ℕ → List Item
body_items [] kind point = End kind point ∷ []
body_items (i ∷ is) kind point = Row (At i.t i.n) ∷ (rows (told_values_from 0 i.values) ++ body_items is kind point)

pub body_items_are : (is : List Instant) (kind : EndKind) (point : ℕ) → body_items is kind point ≡ items_of (flat_map instant_lines is) kind point
body_items_are [] kind point = refl
body_items_are (i ∷ is) kind point =
    ap (λ (xs : List Item). Row (At i.t i.n) ∷ xs) (
    ap (λ (xs : List Item). rows (told_values_from 0 i.values) ++ xs) (body_items_are is kind point)
    ∙ sym (append_assoc (rows (told_values_from 0 i.values)) (rows (flat_map instant_lines is)) (End kind point ∷ []))
    ∙ ap (λ (xs : List Item). xs ++ (End kind point ∷ [])) (sym (map-append (λ (line : TraceLine). Row line) (told_values_from 0 i.values) (flat_map instant_lines is))))

pub record IsBody (kinds : List PortType) (instants : List Instant) (point : ℕ) : Type 0 where
  pub each : AllByRecursion (IsInstant kinds) instants
  pub low : point ≤ 2 ^ 62

start_true : (t n : ℕ) → t ≤ 2 ^ 62 → n < 10000 → is_start t n ≡ true
start_true t n low few = both (nat_le t (2 ^ 62)) (nat_lt n 10000) (le-leb t (2 ^ 62) low) (lt-ltb n 10000 few)

body_walked : (kinds : List PortType) (place : Place) (is : List Instant) (kind : EndKind) (point : ℕ) → is_closed kinds place ≡ true → AllByRecursion (IsInstant kinds) is → point ≤ 2 ^ 62 → walk kinds place (body_items is kind point) ≡ Some (Ended kind point)
body_walked kinds place [] kind point closed all low =
    goes kinds (is_closed kinds place && nat_le point (2 ^ 62)) (Ended kind point) [] (Some (Ended kind point)) (both (is_closed kinds place) (nat_le point (2 ^ 62)) closed (le-leb point (2 ^ 62) low)) refl
body_walked kinds place (i ∷ is) kind point closed all low =
    goes kinds (is_closed kinds place && is_start i.t i.n) (Within 0) (rows (told_values_from 0 i.values) ++ body_items is kind point) (Some (Ended kind point))
    (both (is_closed kinds place) (is_start i.t i.n) closed (start_true i.t i.n all.0.point all.0.number))
    (values_walked kinds 0 0 kinds i.values (body_items is kind point) (Some (Ended kind point)) refl (omega arith) refl all.0.values
    (λ q free. body_walked kinds (Within q) is kind point free all.1 low))

-- what is in form is walked to its end
pub complete : (kinds : List PortType) (is : List Instant) (kind : EndKind) (point : ℕ) → IsBody kinds is point → walk kinds Between (items_of (flat_map instant_lines is) kind point) ≡ Some (Ended kind point)
complete kinds is kind point body =
    ap (λ (items : List Item). walk kinds Between items) (sym (body_items_are is kind point))
    ∙ body_walked kinds Between is kind point refl body.each body.low

-- what was asked of a step that went on
went : (kinds : List PortType) (test : Bool) (next : Place) (items : List Item) (end : Place) → option_and_then (λ (p : Place). walk kinds p items) (cond test (Some next) None) ≡ Some end → (test ≡ true) × (walk kinds next items ≡ Some end)
went kinds true next items end e = (refl, e)
went kinds false next items end e = absurd (cc e)

pub record Body (kinds : List PortType) (kind : EndKind) (point : ℕ) (items : List Item) : Type 0 where
  pub instants : List Instant
  pub form : IsBody kinds instants point
  pub lines : items ≡ body_items instants kind point

-- the values of the ports from next on, and then a body
pub record Open (kinds : List PortType) (kind : EndKind) (point next : ℕ) (items : List Item) : Type 0 where
  pub values : List (Option ℤ)
  pub later : List Item
  pub fit : AllZip MayHave (drop next kinds) values
  pub body : Body kinds kind point later
  pub lines : items ≡ rows (told_values_from next values) ++ later

-- what lies after a place, where the walk gets to the end
abbrev After : List PortType → EndKind → ℕ → Place → List Item → Type 0
After kinds kind point Between items = Body kinds kind point items
After kinds kind point (Within next) items = Open kinds kind point next items
After kinds kind point (Ended k t) items = (items ≡ []) × (Ended k t ≡ Ended kind point)

begin_instant : (kinds : List PortType) (kind : EndKind) (point t n : ℕ) (items : List Item) → is_start t n ≡ true → Open kinds kind point 0 items → Body kinds kind point (Row (At t n) ∷ items)
begin_instant kinds kind point t n items start left =
    let limits = parts (nat_le t (2 ^ 62)) (nat_lt n 10000) start in
    record {
      instants = record { t = t; n = n; values = left.values } ∷ left.body.instants;
      form = record { each = (record { point = leb-true t (2 ^ 62) limits.0; number = ltb-true n 10000 limits.1; values = left.fit }, left.body.form.each); low = left.body.form.low };
      lines = ap (λ (xs : List Item). Row (At t n) ∷ xs) (left.lines ∙ ap (λ (xs : List Item). rows (told_values_from 0 left.values) ++ xs) left.body.lines);
    }

end_body : (kinds : List PortType) (kind k : EndKind) (point t : ℕ) (items : List Item) → nat_le t (2 ^ 62) ≡ true → (items ≡ []) × (Ended k t ≡ Ended kind point) → Body kinds kind point (End k t ∷ items)
end_body kinds kind k point t items low ended =
    let points : t ≡ point = cc (ended.1) in
    let same : End k t ≡ End kind point = cc (ended.1) in
    record {
      instants = [];
      form = record { each = tt; low = omega (arith, points, leb-true t (2 ^ 62) low) };
      lines = ap (λ (xs : List Item). End k t ∷ xs) ended.0 ∙ ap (λ (item : Item). item ∷ []) same;
    }

-- ---- back over ports without a value

record Shown (kinds : List PortType) (k : ℕ) : Type 0 where
  kind : PortType
  at : slice_get kinds k ≡ Some kind
  parts : drop k kinds ≡ kind ∷ drop (k + 1) kinds

shown : (kinds : List PortType) (k : ℕ) → k < length kinds → Shown kinds k
shown [] k low = absurd (omega (arith, low))
shown (kind ∷ kinds) zero low = record { kind = kind; at = refl; parts = refl }
shown (kind ∷ kinds) (suc k) low =
    let later = shown kinds k (omega (arith, low)) in
    let up : suc k + 1 ≡ suc (k + 1) = omega arith in
    record { kind = later.kind; at = later.at; parts = later.parts ∙ ap (λ (m : ℕ). later.kind ∷ drop m (kind ∷ kinds)) (sym up) }

no_fewer : (kinds : List PortType) (k d : ℕ) → k + d ≤ length kinds → clocks_before kinds k ≤ clocks_before kinds (k + d)
no_fewer kinds k zero low = let same : k + 0 ≡ k = omega arith in omega (arith, ap (λ (m : ℕ). clocks_before kinds m) same)
no_fewer kinds k (suc d) low =
    let port = shown kinds k (omega (arith, low)) in
    let up : (k + 1) + d ≡ k + suc d = omega arith in
    omega (arith, more_clocks kinds k port.kind port.at, no_fewer kinds (k + 1) d (omega (arith, low)), ap (λ (m : ℕ). clocks_before kinds m) up)

one_back : (kinds : List PortType) (kind : EndKind) (point k : ℕ) (items : List Item) (port : Shown kinds k) → port.kind ≢ Clock → Open kinds kind point (k + 1) items → Open kinds kind point k items
one_back kinds kind point k items port free left =
    let P : List PortType → Type 0 = λ ks. AllZip MayHave ks (None ∷ left.values) in
    record { values = None ∷ left.values; later = left.later; fit = subst P (sym port.parts) (free, left.fit); body = left.body; lines = left.lines }

back : (kinds : List PortType) (kind : EndKind) (point d k : ℕ) (items : List Item) → k + d ≤ length kinds → clocks_before kinds (k + d) ≤ clocks_before kinds k → Open kinds kind point (k + d) items → Open kinds kind point k items
back kinds kind point zero k items low few left =
    let same : k + 0 ≡ k = omega arith in
    let P : ℕ → Type 0 = λ m. Open kinds kind point m items in
    subst P same left
back kinds kind point (suc d) k items low few left =
    let port = shown kinds k (omega (arith, low)) in
    let up : k + suc d ≡ (k + 1) + d = omega arith in
    let P : ℕ → Type 0 = λ m. Open kinds kind point m items in
    let counts = ap (λ (m : ℕ). clocks_before kinds m) up in
    let first = more_clocks kinds k port.kind port.at in
    let others = no_fewer kinds (k + 1) d (omega (arith, low)) in
    let after_it = back kinds kind point d (k + 1) items (omega (arith, low)) (omega (arith, few, counts, first)) (subst P up left) in
    one_back kinds kind point k items port (same_count kinds k port.kind port.at (omega (arith, few, counts, others))) after_it

nothing : (kinds : List PortType) (kind : EndKind) (point next : ℕ) (items : List Item) → length kinds ≤ next → Body kinds kind point items → Open kinds kind point next items
nothing kinds kind point next items past body =
    let P : List PortType → Type 0 = λ ks. AllZip MayHave ks [] in
    record { values = []; later = items; fit = subst P (sym (drop_all next kinds past)) tt; body = body; lines = refl }

close : (kinds : List PortType) (kind : EndKind) (point next : ℕ) (items : List Item) → is_closed kinds (Within next) ≡ true → Body kinds kind point items → Open kinds kind point next items
close kinds kind point next items closed body =
    let counts = eqb-true (clocks_before kinds next) (clocks_before kinds (length kinds)) closed in
    elim (cases_lt next (length kinds)) [
      | inl low ↦
          let up : next + (length kinds - next) ≡ length kinds = omega (arith, low) in
          let P : ℕ → Type 0 = λ m. Open kinds kind point m items in
          back kinds kind point (length kinds - next) next items (omega (arith, up)) (omega (arith, counts, ap (λ (m : ℕ). clocks_before kinds m) up)) (subst P (sym up) (nothing kinds kind point (length kinds) items (omega arith) body))
      | inr past ↦ nothing kinds kind point next items (omega (arith, past)) body
    ]

more_value : (kinds : List PortType) (kind : EndKind) (point next port : ℕ) (value : ℤ) (items : List Item) → is_next kinds next port value ≡ true → Open kinds kind point (port + 1) items → Open kinds kind point next (Row (Value port value) ∷ items)
more_value kinds kind point next port value items test left =
    let first = parts (nat_le next port) (fits_at kinds port value && clocks_before kinds next == clocks_before kinds port) test in
    let order = leb-true next port first.0 in
    let second = parts (fits_at kinds port value) (clocks_before kinds next == clocks_before kinds port) first.1 in
    let there = fitting_at kinds port value (slice_get kinds port) refl second.0 in
    let within = slice_get_within kinds port there.kind there.at in
    let here = shown kinds port within in
    let kinds_same : here.kind ≡ there.kind = unsome here.kind there.kind (sym here.at ∙ there.at) in
    let Q : PortType → Type 0 = λ k. Fits k value in
    let P : List PortType → Type 0 = λ ks. AllZip MayHave ks (Some value ∷ left.values) in
    let at_port : Open kinds kind point port (Row (Value port value) ∷ items) = record {
      values = Some value ∷ left.values;
      later = left.later;
      fit = subst P (sym here.parts) (subst Q (sym kinds_same) (fits there.kind value there.fits), left.fit);
      body = left.body;
      lines = ap (λ (xs : List Item). Row (Value port value) ∷ xs) left.lines;
    } in
    let up : next + (port - next) ≡ port = omega (arith, order) in
    let counts = eqb-true (clocks_before kinds next) (clocks_before kinds port) second.1 in
    let R : ℕ → Type 0 = λ m. Open kinds kind point m (Row (Value port value) ∷ items) in
    back kinds kind point (port - next) next (Row (Value port value) ∷ items) (omega (arith, up, within)) (omega (arith, counts, ap (λ (m : ℕ). clocks_before kinds m) up)) (subst R (sym up) at_port)

after : (kinds : List PortType) (kind : EndKind) (point : ℕ) (place : Place) (items : List Item) → walk kinds place items ≡ Some (Ended kind point) → After kinds kind point place items
after kinds kind point Between [] w = absurd (cc w)
after kinds kind point (Within next) [] w = absurd (cc w)
after kinds kind point (Ended k t) [] w = (refl, unsome (Ended k t) (Ended kind point) w)
after kinds kind point Between (Row (At t n) ∷ items) w =
    let step = went kinds (is_start t n) (Within 0) items (Ended kind point) w in
    begin_instant kinds kind point t n items step.0 (after kinds kind point (Within 0) items step.1)
after kinds kind point (Within next) (Row (At t n) ∷ items) w =
    let step = went kinds (is_closed kinds (Within next) && is_start t n) (Within 0) items (Ended kind point) w in
    let tests = parts (is_closed kinds (Within next)) (is_start t n) step.0 in
    close kinds kind point next (Row (At t n) ∷ items) tests.0 (begin_instant kinds kind point t n items tests.1 (after kinds kind point (Within 0) items step.1))
after kinds kind point (Ended k t) (Row (At u n) ∷ items) w = absurd (cc w)
after kinds kind point Between (Row (Value port value) ∷ items) w = absurd (cc w)
after kinds kind point (Within next) (Row (Value port value) ∷ items) w =
    let step = went kinds (is_next kinds next port value) (Within (port + 1)) items (Ended kind point) w in
    more_value kinds kind point next port value items step.0 (after kinds kind point (Within (port + 1)) items step.1)
after kinds kind point (Ended k t) (Row (Value port value) ∷ items) w = absurd (cc w)
after kinds kind point Between (End k t ∷ items) w =
    let step = went kinds (nat_le t (2 ^ 62)) (Ended k t) items (Ended kind point) w in
    end_body kinds kind k point t items step.0 (after kinds kind point (Ended k t) items step.1)
after kinds kind point (Within next) (End k t ∷ items) w =
    let step = went kinds (is_closed kinds (Within next) && nat_le t (2 ^ 62)) (Ended k t) items (Ended kind point) w in
    let tests = parts (is_closed kinds (Within next)) (nat_le t (2 ^ 62)) step.0 in
    close kinds kind point next (End k t ∷ items) tests.0 (end_body kinds kind k point t items tests.1 (after kinds kind point (Ended k t) items step.1))
after kinds kind point (Ended k t) (End k2 t2 ∷ items) w = absurd (cc w)

-- what is walked to its end is in form
pub sound : (kinds : List PortType) (kind : EndKind) (point : ℕ) (items : List Item) → walk kinds Between items ≡ Some (Ended kind point) → Body kinds kind point items
sound kinds kind point items w = after kinds kind point Between items w
