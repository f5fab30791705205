-- One tree flattens to one system, whatever its orders are, and a loop of its ports excludes orders.
use Rattle.std.proofs.Common.{◌≡◌, ℕ, suc, ◌/◌, ◌<◌, Bool, true, false, List, [], ◌∷◌, map, length, refl, sym, ◌∙◌, ap, subst, inl, inr, arith}
use Rattle.std.specs.Prelude.{Option, Some, None, slice_get, IsSomeAnd}
use Rattle.std.specs.List.{AllZip}
use Rattle.std.specs.Option.{option_map}
use Rattle.std.proofs.Math.Nat.{mul-div_cancel}
use Rattle.std.proofs.lemmas.Bool.{cases_order}
use Rattle.std.proofs.lemmas.Option.{none-some as none_some, same_Some, slice_get-map}
use Rattle.std.proofs.lemmas.List.{length-map}
use Rattle.sim_base.specs.declared.numbers.PortId.{PortId}
use Rattle.clock_fraction.specs.Counts.{IsCounts}
use Rattle.clock_fraction.specs.declared.fraction.Fraction.{Fraction}
use Rattle.value_types.specs.Shape.{is_clock, timing_at, variable_at}
use Rattle.value_types.specs.declared.shape.Causality.TheVariants as c
use Rattle.value_types.specs.declared.shape.IntervalVariability.{IntervalVariability}
use Rattle.value_types.specs.declared.shape.IntervalVariability.TheVariants as v
use Rattle.value_types.specs.declared.shape.ClockTiming.{ClockTiming}
use Rattle.value_types.specs.declared.shape.Variable.{Variable}
use Rattle.value_types.specs.declared.shape.Shape.{Shape}
use Rattle.doc_tables.specs.Tables.{IsFirstWith}
use Rattle.system_model.specs.declared.system.Component.{Component}
use Rattle.system_model.specs.declared.system.Feed.{Feed}
use Rattle.system_model.specs.declared.system.Port.{Port}
use Rattle.system_model.specs.declared.system.Role.{Role}
use Rattle.system_model.specs.declared.system.Role.TheVariants.{Input, Output, ClockInput, ClockOutput, TimeClock}
use Rattle.system_model.specs.declared.system.Timing.{Timing}
use Rattle.system_model.specs.declared.system.Timing.TheVariants.{Periodic, Answered, Countdown, Changing}
use Rattle.system_model.specs.declared.system.System.{System}
use Rattle.system_model.specs.Needs.{DependsOn, Needs, NeedsInitially, ByFeed, ByClock, ByDependency, InitiallyByFeed, InitiallyByDependency, is_unclocked_at}
use Rattle.system_model.specs.Ports.{Label, label_of, labels_from, port_numbers, feed_of}
use Rattle.system_model.specs.Shapes.{is_described}
use Rattle.system_model.specs.Sound.{IsRole, IsTiming, IsUnder}
use Rattle.system_model.proofs.CallerLemmas.{true_false, labels_apart, Placed}
use Rattle.port_orders.specs.Outcome.{HasLoop, HasOrders, OfInitialization, OfInstants}
use Rattle.ssd_tree.specs.declared.tree.ComponentPart.{ComponentPart}
use Rattle.ssd_tree.specs.declared.tree.SystemTree.{SystemTree}
use Rattle.flatten.specs.Points.{OfComponent}
use Rattle.flatten.specs.Paths.{Feeds}
use Rattle.flatten.specs.Flat.{AreComponentsOf, IsComponentOf, IsFlat, point_of_port, source_at}
use Rattle.flatten.specs.Given.{AreShapesOf}
use Rattle.flatten.proofs.RoleLemmas.{some_at, some_of}
use Rattle.flatten.proofs.SoundLemmas.{component_shapes, placed_in}

-- ---- lists

pub same_list : {X : Type 0} (xs ys : List X) → length xs ≡ length ys → ((i : ℕ) (x y : X) → slice_get xs i ≡ Some x → slice_get ys i ≡ Some y → x ≡ y) → xs ≡ ys
same_list [] [] len each = refl
same_list [] (y ∷ ys) len each = absurd (let e : 0 ≡ suc (length ys) = len in omega (arith, e))
same_list (x ∷ xs) [] len each = absurd (let e : suc (length xs) ≡ 0 = len in omega (arith, e))
same_list {X} (x ∷ xs) (y ∷ ys) len each =
    let more : length xs ≡ length ys = (let e : suc (length xs) ≡ suc (length ys) = len in omega (arith, e)) in
    let head : x ≡ y = each 0 x y refl refl in
    let tail : xs ≡ ys = same_list xs ys more (λ i a b at_a at_b. each (suc i) a b at_a at_b) in
    ap (λ z. z ∷ xs) head ∙ ap (λ zs. y ∷ zs) tail

-- ---- components

same_component : (a b : Component) → a.name ≡ b.name → a.source.0 ≡ b.source.0 → a.shape ≡ b.shape → a ≡ b
same_component a b name source shape = λ i. record { name = name i; source = record { 0 = source i }; shape = shape i }

one_first : {A : Type 0} (key : ℕ → Option A) (x y : A) (j k : ℕ) → x ≡ y → IsFirstWith key x j → IsFirstWith key y k → j ≡ k
one_first key x y j k same a b = elim (cases_order j k) [
  | inl e ↦ e
  | inr (inl less) ↦ absurd (b.1 j less (a.0 ∙ ap Some same))
  | inr (inr less) ↦ absurd (a.1 k less (b.0 ∙ ap Some (sym same)))
]

pub same_components : (parts : List ComponentPart) (shapes : List Shape) (a b : List Component) → AreComponentsOf parts shapes a → AreComponentsOf parts shapes b → a ≡ b
same_components parts shapes a b is_a is_b = same_list a b (is_a.len ∙ sym is_b.len) (λ i x y at_x at_y.
    let p : IsComponentOf parts shapes i x = is_a.each i x at_x in
    let q : IsComponentOf parts shapes i y = is_b.each i y at_y in
    let part : p.part ≡ q.part = same_Some _ _ (sym p.at ∙ q.at) in
    same_component x y (p.name ∙ ap (λ (k : ComponentPart). k.name) part ∙ sym q.name)
    (one_first (source_at parts) p.part.source q.part.source x.source.0 y.source.0 (ap (λ (k : ComponentPart). k.source) part) p.source q.source)
    (same_Some _ _ (sym p.shape ∙ q.shape)))

-- the shapes of the components
pub shapes_are : (parts : List ComponentPart) (shapes : List Shape) (components : List Component) → length shapes ≡ length parts → AreComponentsOf parts shapes components → map (λ (k : Component). k.shape) components ≡ shapes
shapes_are parts shapes components len are =
    same_list (map (λ (k : Component). k.shape) components) shapes (length-map components (λ (k : Component). k.shape) ∙ are.len ∙ sym len) (λ i x y at_x at_y.
    by i x y (slice_get components i) refl (sym (slice_get-map (λ (k : Component). k.shape) components i) ∙ at_x) at_y)
  where
    by : (i : ℕ) (x y : Shape) (o : Option Component) → slice_get components i ≡ o → option_map (λ (k : Component). k.shape) o ≡ Some x → slice_get shapes i ≡ Some y → x ≡ y
    by i x y None e f at = absurd (none_some _ f)
    by i x y (Some k) e f at = sym (same_Some _ _ f) ∙ same_Some _ _ (sym (are.each i k e).shape ∙ at)

-- ---- roles

same_counts : (f : Fraction) (per_second m n : ℕ) → IsCounts f per_second m → IsCounts f per_second n → m ≡ n
same_counts f per_second m n a b = sym (mul-div_cancel m a.known) ∙ ap (λ k. k / f.resolution) (a.whole ∙ sym b.whole) ∙ mul-div_cancel n a.known

same_told : (o : Option Fraction) (per_second m n : ℕ) → IsSomeAnd o (λ (f : Fraction). IsCounts f per_second m) → IsSomeAnd o (λ (f : Fraction). IsCounts f per_second n) → m ≡ n
same_told None per_second m n a b = absurd a
same_told (Some f) per_second m n a b = same_counts f per_second m n a b

fixed_asked : (clock : ClockTiming) → is_described clock.variability clock.supports_fraction ≡ true → clock.variability ≡ v.Fixed → clock.supports_fraction ≡ true → ⊥
fixed_asked clock described fixed asked = true_false (sym described ∙ ap (λ k. is_described k clock.supports_fraction) fixed ∙ ap (λ b. is_described v.Fixed b) asked)

-- an interval that is described is of none of the other kinds
undescribed : (clock : ClockTiming) (other : IntervalVariability) → is_described clock.variability clock.supports_fraction ≡ true → clock.variability ≡ other → is_described other clock.supports_fraction ≡ false → ⊥
undescribed clock other described is none = true_false (sym described ∙ ap (λ k. is_described k clock.supports_fraction) is ∙ none)

same_timing : (per_second : ℕ) (clock : ClockTiming) (s t : Timing) → IsTiming per_second clock s → IsTiming per_second clock t → s ≡ t
same_timing per_second clock (Periodic i j) (Periodic k l) a b =
    ap (λ n. Periodic n j) (same_told clock.interval per_second i k a.interval_counts b.interval_counts) ∙ ap (Periodic k) (same_told clock.shift per_second j l a.shift_counts b.shift_counts)
same_timing per_second clock (Periodic i j) Answered a b = absurd (fixed_asked clock a.described b.0 b.1)
same_timing per_second clock (Periodic i j) Countdown a b = absurd (undescribed clock v.Countdown a.described b refl)
same_timing per_second clock (Periodic i j) Changing a b = absurd (undescribed clock v.Changing a.described b refl)
same_timing per_second clock Answered (Periodic k l) a b = absurd (fixed_asked clock b.described a.0 a.1)
same_timing per_second clock Answered Answered a b = refl
same_timing per_second clock Answered Countdown a b = absurd (let e : v.Fixed ≡ v.Countdown = sym a.0 ∙ b in cc)
same_timing per_second clock Answered Changing a b = absurd (let e : v.Fixed ≡ v.Changing = sym a.0 ∙ b in cc)
same_timing per_second clock Countdown (Periodic k l) a b = absurd (undescribed clock v.Countdown b.described a refl)
same_timing per_second clock Countdown Answered a b = absurd (let e : v.Countdown ≡ v.Fixed = sym a ∙ b.0 in cc)
same_timing per_second clock Countdown Countdown a b = refl
same_timing per_second clock Countdown Changing a b = absurd (let e : v.Countdown ≡ v.Changing = sym a ∙ b in cc)
same_timing per_second clock Changing (Periodic k l) a b = absurd (undescribed clock v.Changing b.described a refl)
same_timing per_second clock Changing Answered a b = absurd (let e : v.Changing ≡ v.Fixed = sym a ∙ b.0 in cc)
same_timing per_second clock Changing Countdown a b = absurd (let e : v.Changing ≡ v.Countdown = sym a ∙ b in cc)
same_timing per_second clock Changing Changing a b = refl

same_timings : (per_second : ℕ) (o : Option ClockTiming) (s t : Timing) → IsSomeAnd o (λ (k : ClockTiming). IsTiming per_second k s) → IsSomeAnd o (λ (k : ClockTiming). IsTiming per_second k t) → s ≡ t
same_timings per_second None s t a b = absurd a
same_timings per_second (Some clock) s t a b = same_timing per_second clock s t a b

untimed_at : (per_second : ℕ) (clock : ClockTiming) (t : Timing) → clock.variability ≡ v.Triggered → IsTiming per_second clock t → ⊥
untimed_at per_second clock (Periodic k l) a b = undescribed clock v.Triggered b.described a refl
untimed_at per_second clock Answered a b = let e : v.Triggered ≡ v.Fixed = sym a ∙ b.0 in cc
untimed_at per_second clock Countdown a b = let e : v.Triggered ≡ v.Countdown = sym a ∙ b in cc
untimed_at per_second clock Changing a b = let e : v.Triggered ≡ v.Changing = sym a ∙ b in cc

untimed : (per_second : ℕ) (o : Option ClockTiming) (t : Timing) → IsSomeAnd o (λ (k : ClockTiming). k.variability ≡ v.Triggered) → IsSomeAnd o (λ (k : ClockTiming). IsTiming per_second k t) → ⊥
untimed per_second None t a b = a
untimed per_second (Some clock) t a b = untimed_at per_second clock t a b

same_fed : (f g : Option Feed) → ((h : Feed) → f ≡ Some h → g ≡ Some h) → ((h : Feed) → g ≡ Some h → f ≡ Some h) → f ≡ g
same_fed None None to from = refl
same_fed None (Some g) to from = absurd (none_some _ (from g refl))
same_fed (Some f) g to from = sym (to f refl)

two_causalities : (x : Variable) → x.causality ≡ c.Input → x.causality ≡ c.Output → ⊥
two_causalities x input output = let e : c.Input ≡ c.Output = sym input ∙ output in cc

two_tests : (b : Bool) → b ≡ true → b ≡ false → ⊥
two_tests b here other = true_false (sym here ∙ other)

same_role : (shape : Shape) (x : Variable) (r s : Role) → IsRole shape x r → IsRole shape x s → ((f : Feed) → feed_of r ≡ Some f → feed_of s ≡ Some f) → ((f : Feed) → feed_of s ≡ Some f → feed_of r ≡ Some f) → r ≡ s
same_role shape x (Input f) (Input g) is_r is_s to from = ap Input (same_fed f g to from)
same_role shape x (Input f) Output is_r is_s to from = absurd (two_causalities x is_r.0 is_s.0)
same_role shape x (Input f) (ClockInput g) is_r is_s to from = absurd (two_tests (is_clock x) is_s.1 is_r.1)
same_role shape x (Input f) ClockOutput is_r is_s to from = absurd (two_causalities x is_r.0 is_s.0)
same_role shape x (Input f) (TimeClock w) is_r is_s to from = absurd (two_tests (is_clock x) is_s.1 is_r.1)
same_role shape x Output (Input g) is_r is_s to from = absurd (two_causalities x is_s.0 is_r.0)
same_role shape x Output Output is_r is_s to from = refl
same_role shape x Output (ClockInput g) is_r is_s to from = absurd (two_causalities x is_s.0 is_r.0)
same_role shape x Output ClockOutput is_r is_s to from = absurd (two_tests (is_clock x) is_s.1 is_r.1)
same_role shape x Output (TimeClock w) is_r is_s to from = absurd (two_causalities x is_s.0 is_r.0)
same_role shape x (ClockInput f) (Input g) is_r is_s to from = absurd (two_tests (is_clock x) is_r.1 is_s.1)
same_role shape x (ClockInput f) Output is_r is_s to from = absurd (two_causalities x is_r.0 is_s.0)
same_role shape x (ClockInput f) (ClockInput g) is_r is_s to from = ap ClockInput (same_fed f g to from)
same_role shape x (ClockInput f) ClockOutput is_r is_s to from = absurd (two_causalities x is_r.0 is_s.0)
same_role shape x (ClockInput f) (TimeClock w) is_r is_s to from = absurd (untimed shape.resolution (timing_at shape.clocks x.reference) w is_r.2 is_s.2)
same_role shape x ClockOutput (Input g) is_r is_s to from = absurd (two_causalities x is_s.0 is_r.0)
same_role shape x ClockOutput Output is_r is_s to from = absurd (two_tests (is_clock x) is_r.1 is_s.1)
same_role shape x ClockOutput (ClockInput g) is_r is_s to from = absurd (two_causalities x is_s.0 is_r.0)
same_role shape x ClockOutput ClockOutput is_r is_s to from = refl
same_role shape x ClockOutput (TimeClock w) is_r is_s to from = absurd (two_causalities x is_s.0 is_r.0)
same_role shape x (TimeClock u) (Input g) is_r is_s to from = absurd (two_tests (is_clock x) is_r.1 is_s.1)
same_role shape x (TimeClock u) Output is_r is_s to from = absurd (two_causalities x is_r.0 is_s.0)
same_role shape x (TimeClock u) (ClockInput g) is_r is_s to from = absurd (untimed shape.resolution (timing_at shape.clocks x.reference) u is_s.2 is_r.2)
same_role shape x (TimeClock u) ClockOutput is_r is_s to from = absurd (two_causalities x is_r.0 is_s.0)
same_role shape x (TimeClock u) (TimeClock w) is_r is_s to from = ap TimeClock (same_timings shape.resolution (timing_at shape.clocks x.reference) u w is_r.2 is_s.2)

-- ---- ports

same_port : (a b : Port) → label_of a ≡ label_of b → a.role ≡ b.role → a.clocks ≡ b.clocks → a ≡ b
same_port a b label role clocks = λ i. record {
  component = record { 0 = (label i).component };
  name = (label i).name;
  kind = (label i).kind;
  reference = (label i).reference;
  role = role i;
  clocks = clocks i;
}

same_number : (a b : PortId) → a.0 ≡ b.0 → a ≡ b
same_number a b e = λ i. record { 0 = e i }

zip_same : {X Y : Type 0} (R S : X → Y → Type 0) → ((x : X) (y z : Y) → R x y → S x z → y ≡ z) → (xs : List X) (ys zs : List Y) → AllZip R xs ys → AllZip S xs zs → ys ≡ zs
zip_same R S f [] [] [] a b = refl
zip_same R S f [] [] (z ∷ zs) a b = absurd b
zip_same R S f [] (y ∷ ys) zs a b = absurd a
zip_same R S f (x ∷ xs) [] zs a b = absurd a
zip_same R S f (x ∷ xs) (y ∷ ys) [] a b = absurd b
zip_same R S f (x ∷ xs) (y ∷ ys) (z ∷ zs) a b = ap (λ w. w ∷ ys) (f x y z a.0 b.0) ∙ ap (λ ws. z ∷ ws) (zip_same R S f xs ys zs a.1 b.1)

module _ (t : SystemTree) (shapes : List Shape) (a b : System) (given : AreShapesOf t shapes) (is_a : IsFlat t shapes a) (is_b : IsFlat t shapes b) where
  components : a.components ≡ b.components
  components = same_components t.components shapes a.components b.components is_a.components is_b.components

  labels : map label_of a.ports ≡ map label_of b.ports
  labels = is_a.ports.numbered ∙ ap (labels_from 0) components ∙ sym is_b.ports.numbered

  label_at : (system : System) (p : ℕ) (port : Port) → slice_get system.ports p ≡ Some port → slice_get (map label_of system.ports) p ≡ Some (label_of port)
  label_at system p port at = slice_get-map label_of system.ports p ∙ ap (option_map label_of) at

  -- ports of both systems at one place
  same_label : (p : ℕ) (x y : Port) → slice_get a.ports p ≡ Some x → slice_get b.ports p ≡ Some y → label_of x ≡ label_of y
  same_label p x y at_x at_y = same_Some _ _ (sym (label_at a p x at_x) ∙ ap (λ ls. slice_get ls p) labels ∙ label_at b p y at_y)

  other_port : (p : ℕ) (x : Port) → slice_get a.ports p ≡ Some x → (y : Port) × (slice_get b.ports p ≡ Some y)
  other_port p x at = by (slice_get b.ports p) refl (sym (slice_get-map label_of b.ports p) ∙ ap (λ ls. slice_get ls p) (sym labels) ∙ label_at a p x at)
    where
      by : (o : Option Port) → slice_get b.ports p ≡ o → option_map label_of o ≡ Some (label_of x) → (y : Port) × (slice_get b.ports p ≡ Some y)
      by None e f = absurd (none_some _ f)
      by (Some y) e f = (y, e)

  -- under one reference of one component stands one port
  one_under : (i r : ℕ) (u w : PortId) → IsUnder a i r u → IsUnder b i r w → u ≡ w
  one_under i r u w here there =
      let x = some_of (slice_get a.ports u.0) (λ (port : Port). (port.component.0 ≡ i) × (port.reference ≡ r)) here in
      let y = some_of (slice_get b.ports w.0) (λ (port : Port). (port.component.0 ≡ i) × (port.reference ≡ r)) there in
      let sound = component_shapes t shapes a.components given is_a.components in
      same_number u w (labels_apart 0 a.components sound u.0 w.0 (label_of x.0) (label_of y.0)
      (ap (λ ls. slice_get ls u.0) (sym is_a.ports.numbered) ∙ label_at a u.0 x.0 x.1)
      (ap (λ ls. slice_get ls w.0) (sym is_a.ports.numbered ∙ labels) ∙ label_at b w.0 y.0 y.1)
      (record { component = x.2.0 ∙ sym y.2.0; reference = x.2.1 ∙ sym y.2.1 }))

  -- what feeds a port of the one feeds that of the other
  same_source : (p : ℕ) (feed : Feed) (x y : Port) → slice_get a.ports p ≡ Some x → slice_get b.ports p ≡ Some y → feed_of x.role ≡ Some feed → feed_of y.role ≡ Some feed
  same_source p feed x y at_x at_y fed =
      let q = feed.from.0 in
      let source = some_of (slice_get a.ports q) (λ (s : Port). Feeds t shapes (point_of_port s) feed.changes (point_of_port x)) ((is_a.feeds p x feed at_x).0 fed) in
      let other = other_port q source.0 source.1 in
      let from : point_of_port source.0 ≡ point_of_port other.0 = ap (λ (z : Label). OfComponent z.component z.reference) (same_label q source.0 other.0 source.1 other.1) in
      let to : point_of_port x ≡ point_of_port y = ap (λ (z : Label). OfComponent z.component z.reference) (same_label p x y at_x at_y) in
      (is_b.feeds p y feed at_y).1 (some_at (slice_get b.ports q) (λ (s : Port). Feeds t shapes (point_of_port s) feed.changes (point_of_port y)) other.0 other.1
      (subst (λ z. Feeds t shapes (point_of_port other.0) feed.changes z) to (subst (λ z. Feeds t shapes z feed.changes (point_of_port x)) from source.2)))

same_port_at : (t : SystemTree) (shapes : List Shape) (a b : System) → AreShapesOf t shapes → IsFlat t shapes a → IsFlat t shapes b
    → (p : ℕ) (x y : Port) → slice_get a.ports p ≡ Some x → slice_get b.ports p ≡ Some y → x ≡ y
same_port_at t shapes a b given is_a is_b p x y at_x at_y =
    let label : label_of x ≡ label_of y = same_label t shapes a b given is_a is_b p x y at_x at_y in
    let i = x.component.0 in
    let k : Placed a p x = placed_in a (component_shapes t shapes a.components given is_a.components) is_a.ports p x at_x in
    let l : Placed b p y = placed_in b (component_shapes t shapes b.components given is_b.components) is_b.ports p y at_y in
    let component : k.component ≡ l.component =
    same_Some _ _ (sym k.is.of ∙ ap (λ cs. slice_get cs i) (components t shapes a b given is_a is_b) ∙ ap (λ (z : Label). slice_get b.components z.component) label ∙ l.is.of) in
    let variable : k.variable ≡ l.variable =
    same_Some _ _ (sym k.is.there ∙ ap (λ (z : Component). variable_at z.shape.variables x.reference) component ∙ ap (λ (z : Label). variable_at l.component.shape.variables z.reference) label ∙ l.is.there) in
    let role : IsRole l.component.shape l.variable x.role =
    subst (λ (z : Variable). IsRole l.component.shape z x.role) variable (subst (λ (z : Component). IsRole z.shape k.variable x.role) component k.role) in
    let clocks_a : AllZip (IsUnder a i) l.variable.clocks x.clocks = subst (λ (z : Variable). AllZip (IsUnder a i) z.clocks x.clocks) variable (is_a.ports.clocks p x k.component k.variable k.is) in
    let clocks_b : AllZip (IsUnder b i) l.variable.clocks y.clocks = subst (λ (z : Label). AllZip (IsUnder b z.component) l.variable.clocks y.clocks) (sym label) (is_b.ports.clocks p y l.component l.variable l.is) in
    same_port x y label
    (same_role l.component.shape l.variable x.role y.role role l.role
    (λ f. same_source t shapes a b given is_a is_b p f x y at_x at_y)
    (λ f. same_source t shapes b a given is_b is_a p f y x at_y at_x))
    (zip_same (IsUnder a i) (IsUnder b i) (λ r u w. one_under t shapes a b given is_a is_b i r u w) l.variable.clocks x.clocks y.clocks clocks_a clocks_b)

pub same_parts : (t : SystemTree) (shapes : List Shape) (a b : System) → AreShapesOf t shapes → IsFlat t shapes a → IsFlat t shapes b → (a.components ≡ b.components) × (a.ports ≡ b.ports)
same_parts t shapes a b given is_a is_b = (
  components t shapes a b given is_a is_b,
  same_list a.ports b.ports (sym (length-map a.ports label_of) ∙ ap length (labels t shapes a b given is_a is_b) ∙ length-map b.ports label_of)
      (λ p x y at_x at_y. same_port_at t shapes a b given is_a is_b p x y at_x at_y),
)

-- ---- orders and loops

module _ (a b : System) (components_are : a.components ≡ b.components) (ports_are : a.ports ≡ b.ports) where
  port_at : (p : ℕ) (port : Port) → slice_get a.ports p ≡ Some port → slice_get b.ports p ≡ Some port
  port_at p port at = ap (λ ps. slice_get ps p) (sym ports_are) ∙ at

  depends_moved : (initializing : Bool) (p q : ℕ) → DependsOn a initializing p q → DependsOn b initializing p q
  depends_moved initializing p q d = record {
    port = d.port;
    on = d.on;
    component = d.component;
    at = port_at p d.port d.at;
    there = port_at q d.on d.there;
    of = ap (λ cs. slice_get cs d.port.component.0) (sym components_are) ∙ d.of;
    same = d.same;
    output = d.output;
    declared = d.declared;
  }

  needs_moved : (p q : ℕ) → Needs a p q → Needs b p q
  needs_moved p q (ByFeed port at e) = ByFeed port (port_at p port at) e
  needs_moved p q (ByClock port at k) = ByClock port (port_at p port at) k
  needs_moved p q (ByDependency d events) = ByDependency (record {
    port = d.port;
    on = d.on;
    component = d.component;
    at = port_at p d.port d.at;
    there = port_at q d.on d.there;
    of = ap (λ cs. slice_get cs d.port.component.0) (sym components_are) ∙ d.of;
    same = d.same;
    output = d.output;
    declared = d.declared;
  }) events

  unclocked_moved : (p : ℕ) → is_unclocked_at a.ports p ≡ true → is_unclocked_at b.ports p ≡ true
  unclocked_moved p is = ap (λ ps. is_unclocked_at ps p) (sym ports_are) ∙ is

  initially_moved : (p q : ℕ) → NeedsInitially a p q → NeedsInitially b p q
  initially_moved p q (InitiallyByFeed u w port at e) = InitiallyByFeed (unclocked_moved p u) (unclocked_moved q w) port (port_at p port at) e
  initially_moved p q (InitiallyByDependency u w d) = InitiallyByDependency (unclocked_moved p u) (unclocked_moved q w) (depends_moved true p q d)

  -- where the other has orders, this one has no loop
  pub no_loop : HasOrders b → (nodes : List ℕ) → HasLoop a nodes → ⊥
  no_loop orders nodes (OfInstants loop) =
      let o = orders.instant_order in
      loop.no_order (port_numbers b.instant_order) (record {
        each = λ p among. o.each p (subst (λ ps. p < length ps) ports_are among);
        only = λ p held. subst (λ ps. p < length ps) (sym ports_are) (o.only p held);
        once = o.once;
        after = λ before later p q e need. o.after before later p q e (needs_moved p q need);
      })
  no_loop orders nodes (OfInitialization order is loop) =
      let o = orders.initial_order in
      loop.no_order (port_numbers b.initial_order) (record {
        each = λ p among. o.each p (unclocked_moved p among);
        only = λ p held. ap (λ ps. is_unclocked_at ps p) ports_are ∙ o.only p held;
        once = o.once;
        after = λ before later p q e need. o.after before later p q e (initially_moved p q need);
      })
