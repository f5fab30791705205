-- A test of systems, which computes, and which sound systems pass alone: of systems at 1000 counts a second whose FMUs save their states, and whose connected ports have one type.
use Rattle.std.proofs.Common.{◌≡◌, ℕ, ◌<◌, Bool, true, false, not, ◌&&◌, List, [], ◌∷◌, length, map, refl, sym, ◌∙◌, ap, subst, All, arith, nat_lt, nat_le}
use Rattle.std.specs.Prelude.{slice_get, slice_index_or, ◌^◌, ◌==◌}
use Rattle.std.proofs.lemmas.Bool.{eqb-true, ltb-true, leb-true}
use Rattle.std.proofs.lemmas.List.Elements.{All-nil}
use Rattle.parameter_values.specs.declared.change.Change.{Change}
use Rattle.sim_base.specs.declared.numbers.PortId.{PortId}
use Rattle.clock_fraction.specs.Counts.{IsCounts}
use Rattle.clock_fraction.specs.declared.fraction.Fraction.{Fraction}
use Rattle.value_types.specs.Joint.{IsWithin, class_of}
use Rattle.value_types.specs.Shape.{is_clock, is_input, is_output, timing_at, variable_at}
use Rattle.value_types.specs.declared.values.PortType.{PortType}
use Rattle.value_types.specs.declared.values.PortType.TheVariants as T
use Rattle.value_types.specs.declared.shape.IntervalVariability.{IntervalVariability}
use Rattle.value_types.specs.declared.shape.IntervalVariability.TheVariants as v
use Rattle.value_types.specs.declared.shape.ClockTiming.{ClockTiming}
use Rattle.value_types.specs.declared.shape.Variable.{Variable}
use Rattle.value_types.specs.declared.shape.Shape.{Shape}
use Rattle.system_model.specs.declared.system.Component.{Component}
use Rattle.system_model.specs.declared.system.Timing.{Timing}
use Rattle.system_model.specs.declared.system.Timing.TheVariants.{Periodic, Answered, Countdown, Changing}
use Rattle.system_model.specs.declared.system.Feed.{Feed}
use Rattle.system_model.specs.declared.system.Role.{Role}
use Rattle.system_model.specs.declared.system.Role.TheVariants.{Input, Output, ClockInput, ClockOutput, TimeClock}
use Rattle.system_model.specs.declared.system.Port.{Port}
use Rattle.system_model.specs.declared.system.System.{System}
use Rattle.system_model.specs.Carried.{IsOn}
use Rattle.system_model.specs.Ports.{feed_of, is_output_role, label_of, labels_from}
use Rattle.system_model.specs.Shapes.{IsSoundShape, is_described}
use Rattle.system_model.specs.Sound.{IsPort, IsRole, IsTiming, IsUnder, IsFeed, HasSoundComponents, HasSoundPorts, HasSoundFeeds}
use Rattle.system_model.proofs.CallerLemmas.{all_at, all_by_place}
use Rattle.run_rows.proofs.Tests.{true_false, left, right, holds, parts, every, all_by, zips, zip_by, if_some, is_some_and, is_some_and_by, are_counts, counts_by}
use Rattle.run_rows.proofs.ShapeTests.{input_by, output_by, is_sound_shape, shape_by}

-- ---- components

abbrev pub component_parts : Component → List Bool
component_parts c = nat_lt 0 (length c.name) ∷ is_sound_shape c.shape ∷ (c.shape.resolution == 1000) ∷ c.shape.can_save_state ∷ []

pub components_by : (system : System) → nat_le (length system.components) 256 ≡ true → every (λ c. holds (component_parts c)) system.components ≡ true → HasSoundComponents system
components_by system few e =
    let all = all_by (λ c. holds (component_parts c)) (λ (c : Component). holds (component_parts c) ≡ true) (λ c h. h) system.components e in
    record {
      few = leb-true (length system.components) 256 few;
      named = all_by_place (λ (c : Component). 0 < length c.name) system.components (λ k c at. ltb-true 0 (length c.name) (parts (component_parts c) (all_at (λ (x : Component). holds (component_parts x) ≡ true) system.components k c all at)).0);
      shapes = all_by_place (λ (c : Component). IsSoundShape c.shape) system.components (λ k c at. shape_by c.shape (parts (component_parts c) (all_at (λ (x : Component). holds (component_parts x) ≡ true) system.components k c all at)).1.0);
      per_second = 1000;
      above = omega arith;
      within = omega arith;
      resolutions = all_by_place (λ (c : Component). c.shape.resolution ≡ 1000) system.components (λ k c at. eqb-true c.shape.resolution 1000 (parts (component_parts c) (all_at (λ (x : Component). holds (component_parts x) ≡ true) system.components k c all at)).1.1.0);
      saved = λ two. all_by_place (λ (c : Component). c.shape.can_save_state ≡ true) system.components (λ k c at. (parts (component_parts c) (all_at (λ (x : Component). holds (component_parts x) ≡ true) system.components k c all at)).1.1.1.0);
    }

-- ---- roles

-- variabilities by number
abbrev number : IntervalVariability → ℕ
number v.Constant = 0
number v.Fixed = 1
number v.Tunable = 2
number v.Changing = 3
number v.Countdown = 4
number v.Triggered = 5

abbrev numbered : ℕ → IntervalVariability
numbered k = slice_index_or (v.Constant ∷ v.Fixed ∷ v.Tunable ∷ v.Changing ∷ v.Countdown ∷ []) k v.Triggered

numbered_back : (x : IntervalVariability) → numbered (number x) ≡ x
numbered_back v.Constant = refl
numbered_back v.Fixed = refl
numbered_back v.Tunable = refl
numbered_back v.Changing = refl
numbered_back v.Countdown = refl
numbered_back v.Triggered = refl

abbrev pub is_of : IntervalVariability → IntervalVariability → Bool
is_of y x = number x == number y

of_by : (y x : IntervalVariability) → is_of y x ≡ true → x ≡ y
of_by y x e = sym (numbered_back x) ∙ ap numbered (eqb-true (number x) (number y) e) ∙ numbered_back y

abbrev periodic_parts : ℕ → ClockTiming → ℕ → ℕ → List Bool
periodic_parts per_second clock interval shift =
    is_described clock.variability clock.supports_fraction ∷ is_some_and (are_counts per_second interval) clock.interval ∷ is_some_and (are_counts per_second shift) clock.shift
    ∷ nat_lt 0 interval ∷ nat_le interval (2 ^ 126) ∷ nat_le shift (2 ^ 126) ∷ []

abbrev is_timing : ℕ → ClockTiming → Timing → Bool
is_timing per_second clock (Periodic interval shift) = holds (periodic_parts per_second clock interval shift)
is_timing per_second clock Answered = is_of v.Fixed clock.variability && clock.supports_fraction
is_timing per_second clock Countdown = is_of v.Countdown clock.variability
is_timing per_second clock Changing = is_of v.Changing clock.variability

timing_by : (per_second : ℕ) (clock : ClockTiming) (timing : Timing) → is_timing per_second clock timing ≡ true → IsTiming per_second clock timing
timing_by per_second clock (Periodic interval shift) e = let p = parts (periodic_parts per_second clock interval shift) e in
    record {
      described = p.0;
      interval_counts = is_some_and_by (are_counts per_second interval) (λ (f : Fraction). IsCounts f per_second interval) (λ f h. counts_by per_second interval f h) clock.interval p.1.0;
      shift_counts = is_some_and_by (are_counts per_second shift) (λ (f : Fraction). IsCounts f per_second shift) (λ f h. counts_by per_second shift f h) clock.shift p.1.1.0;
      interval_above = ltb-true 0 interval p.1.1.1.0;
      interval_within = leb-true interval (2 ^ 126) p.1.1.1.1.0;
      shift_within = leb-true shift (2 ^ 126) p.1.1.1.1.1.0;
    }
timing_by per_second clock Answered e = (of_by v.Fixed clock.variability (left (is_of v.Fixed clock.variability) clock.supports_fraction e), right (is_of v.Fixed clock.variability) clock.supports_fraction e)
timing_by per_second clock Countdown e = of_by v.Countdown clock.variability e
timing_by per_second clock Changing e = of_by v.Changing clock.variability e

not_by : (b : Bool) → not b ≡ true → b ≡ false
not_by true e = absurd (true_false (sym e))
not_by false e = refl

abbrev is_role : Shape → Variable → Role → Bool
is_role shape x (Input feed) = is_input x.causality && not (is_clock x)
is_role shape x Output = is_output x.causality && not (is_clock x)
is_role shape x (ClockInput feed) = is_input x.causality && (is_clock x && is_some_and (λ (t : ClockTiming). is_of v.Triggered t.variability) (timing_at shape.clocks x.reference))
is_role shape x ClockOutput = is_output x.causality && is_clock x
is_role shape x (TimeClock timing) = is_input x.causality && (is_clock x && is_some_and (λ (t : ClockTiming). is_timing shape.resolution t timing) (timing_at shape.clocks x.reference))

role_by : (shape : Shape) (x : Variable) (role : Role) → is_role shape x role ≡ true → IsRole shape x role
role_by shape x (Input feed) e = (input_by x.causality (left (is_input x.causality) (not (is_clock x)) e), not_by (is_clock x) (right (is_input x.causality) (not (is_clock x)) e))
role_by shape x Output e = (output_by x.causality (left (is_output x.causality) (not (is_clock x)) e), not_by (is_clock x) (right (is_output x.causality) (not (is_clock x)) e))
role_by shape x (ClockInput feed) e =
    let clock = is_some_and (λ (t : ClockTiming). is_of v.Triggered t.variability) (timing_at shape.clocks x.reference) in
    let more = right (is_input x.causality) (is_clock x && clock) e in (
      input_by x.causality (left (is_input x.causality) (is_clock x && clock) e),
      left (is_clock x) clock more,
      is_some_and_by (λ (t : ClockTiming). is_of v.Triggered t.variability) (λ (t : ClockTiming). t.variability ≡ v.Triggered) (λ t h. of_by v.Triggered t.variability h) (timing_at shape.clocks x.reference) (right (is_clock x) clock more),
    )
role_by shape x ClockOutput e = (output_by x.causality (left (is_output x.causality) (is_clock x) e), right (is_output x.causality) (is_clock x) e)
role_by shape x (TimeClock timing) e =
    let clock = is_some_and (λ (t : ClockTiming). is_timing shape.resolution t timing) (timing_at shape.clocks x.reference) in
    let more = right (is_input x.causality) (is_clock x && clock) e in (
      input_by x.causality (left (is_input x.causality) (is_clock x && clock) e),
      left (is_clock x) clock more,
      is_some_and_by (λ (t : ClockTiming). is_timing shape.resolution t timing) (λ (t : ClockTiming). IsTiming shape.resolution t timing) (λ t h. timing_by shape.resolution t timing h) (timing_at shape.clocks x.reference) (right (is_clock x) clock more),
    )

-- ---- ports

abbrev is_under : System → ℕ → ℕ → PortId → Bool
is_under system i reference p = is_some_and (λ (port : Port). (port.component.0 == i) && (port.reference == reference)) (slice_get system.ports p.0)

under_by : (system : System) (i reference : ℕ) (p : PortId) → is_under system i reference p ≡ true → IsUnder system i reference p
under_by system i reference p e = is_some_and_by (λ (port : Port). (port.component.0 == i) && (port.reference == reference)) (λ (port : Port). (port.component.0 ≡ i) × (port.reference ≡ reference))
    (λ port h. (eqb-true port.component.0 i (left (port.component.0 == i) (port.reference == reference) h), eqb-true port.reference reference (right (port.component.0 == i) (port.reference == reference) h)))
    (slice_get system.ports p.0) e

-- a port by its component and its variable, where they are there
abbrev pub is_sound_port : System → Port → Bool
is_sound_port system port =
    if_some (λ (c : Component). if_some (λ (x : Variable). is_role c.shape x port.role && zips (is_under system port.component.0) x.clocks port.clocks) (variable_at c.shape.variables port.reference))
    (slice_get system.components port.component.0)

port_by : (system : System) → every (is_sound_port system) system.ports ≡ true → (p : ℕ) (port : Port) (c : Component) (x : Variable) → IsPort system p port c x →
    (is_role c.shape x port.role && zips (is_under system port.component.0) x.clocks port.clocks) ≡ true
port_by system e p port c x is =
    let here : is_sound_port system port ≡ true = all_at (λ (y : Port). is_sound_port system y ≡ true) system.ports p port (all_by (is_sound_port system) (λ (y : Port). is_sound_port system y ≡ true) (λ y h. h) system.ports e) is.at in
    let test = λ (d : Component) (y : Variable). is_role d.shape y port.role && zips (is_under system port.component.0) y.clocks port.clocks in
    sym (ap (λ o. if_some (test c) o) is.there) ∙ sym (ap (λ o. if_some (λ (d : Component). if_some (test d) (variable_at d.shape.variables port.reference)) o) is.of) ∙ here

pub ports_by : (system : System) → nat_le (length system.ports) 65536 ≡ true → map label_of system.ports ≡ labels_from 0 system.components → every (is_sound_port system) system.ports ≡ true → HasSoundPorts system
ports_by system few numbered e = record {
  few = leb-true (length system.ports) 65536 few;
  numbered = numbered;
  roles = λ p port c x is. role_by c.shape x port.role (left (is_role c.shape x port.role) (zips (is_under system port.component.0) x.clocks port.clocks) (port_by system e p port c x is));
  clocks = λ p port c x is. zip_by (is_under system port.component.0) (IsUnder system port.component.0) (under_by system port.component.0) x.clocks port.clocks
      (right (is_role c.shape x port.role) (zips (is_under system port.component.0) x.clocks port.clocks) (port_by system e p port c x is));
}

-- ---- connections

abbrev same_type : PortType → PortType → Bool
same_type T.Int32 T.Int32 = true
same_type T.Clock T.Clock = true
same_type _ _ = false

same_type_by : (a b : PortType) → same_type a b ≡ true → (class_of a ≡ class_of b) × IsWithin a b
same_type_by T.Int32 T.Int32 e = (refl, λ x h. h)
same_type_by T.Clock T.Clock e = (refl, λ x h. h)
same_type_by a b e = absurd (true_false (sym e))

abbrev is_plain : List Change → Bool
is_plain [] = true
is_plain (change ∷ changes) = false

plain_by : (changes : List Change) → is_plain changes ≡ true → changes ≡ []
plain_by [] e = refl
plain_by (change ∷ changes) e = absurd (true_false (sym e))

abbrev is_feed : Feed → Port → Port → Bool
is_feed feed source target = is_output_role source.role && (same_type source.kind target.kind && is_plain feed.changes)

feed_by : (feed : Feed) (source target : Port) → is_feed feed source target ≡ true → IsFeed feed source target
feed_by feed source target e =
    let rest = right (is_output_role source.role) (same_type source.kind target.kind && is_plain feed.changes) e in
    let types = same_type_by source.kind target.kind (left (same_type source.kind target.kind) (is_plain feed.changes) rest) in
    let none = plain_by feed.changes (right (same_type source.kind target.kind) (is_plain feed.changes) rest) in
    record {
      output = left (is_output_role source.role) (same_type source.kind target.kind && is_plain feed.changes) e;
      same_class = types.0;
      changes = subst (All (IsOn (class_of target.kind))) (sym none) (All-nil (IsOn (class_of target.kind)));
      range = λ e. types.1;
    }

abbrev pub is_fed : System → Port → Bool
is_fed system port = if_some (λ (feed : Feed). is_some_and (λ (source : Port). is_feed feed source port) (slice_get system.ports feed.from.0)) (feed_of port.role)

pub feeds_by : (system : System) → every (is_fed system) system.ports ≡ true → HasSoundFeeds system
feeds_by system e p port feed is from =
    let here : is_fed system port ≡ true = all_at (λ (y : Port). is_fed system y ≡ true) system.ports p port (all_by (is_fed system) (λ (y : Port). is_fed system y ≡ true) (λ y h. h) system.ports e) is in
    is_some_and_by (λ (source : Port). is_feed feed source port) (λ (source : Port). IsFeed feed source port) (λ source h. feed_by feed source port h) (slice_get system.ports feed.from.0)
    (sym (ap (λ o. if_some (λ (f : Feed). is_some_and (λ (source : Port). is_feed f source port) (slice_get system.ports f.from.0)) o) from) ∙ here)
