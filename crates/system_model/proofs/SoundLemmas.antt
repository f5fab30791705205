-- What a sound system tells of each of its ports: for callers' proofs.
use Rattle.std.proofs.Common.{◌≡◌, ℕ, zero, suc, ◌+◌, Bool, true, false, List, [], ◌∷◌, refl, sym, ◌∙◌, ap, subst, arith, Contains}
use Rattle.std.specs.Prelude.{All, Option, Some, None, IsSomeAnd, is_some, slice_get}
use Rattle.std.specs.Option.{option_map, option_map_or}
use Rattle.std.specs.List.{AllZip}
use Rattle.std.proofs.lemmas.Option.{none-some as none_some, same_Some, slice_get-map}
use Rattle.sim_base.specs.declared.numbers.PortId.{PortId}
use Rattle.value_types.specs.Joint.{IsWithin, class_of}
use Rattle.parameter_values.specs.declared.change.Change.{Change}
use Rattle.parameter_values.specs.declared.change.Change.TheVariants as change
use Rattle.system_model.specs.Carried.{IsOn}
use Rattle.system_model.specs.declared.system.Feed.{Feed}
use Rattle.value_types.specs.Shape.{variable_at, is_at, is_clock, is_clock_type}
use Rattle.value_types.specs.declared.values.PortType.{PortType}
use Rattle.value_types.specs.declared.values.PortType.TheVariants as T
use Rattle.value_types.specs.declared.joint.Class.{Class}
use Rattle.value_types.specs.declared.joint.Class.TheVariants as class
use Rattle.value_types.specs.declared.shape.Causality.TheVariants as V
use Rattle.value_types.specs.declared.shape.Variable.{Variable}
use Rattle.value_types.specs.declared.shape.Shape.{Shape}
use Rattle.system_model.specs.declared.system.Component.{Component}
use Rattle.system_model.specs.declared.system.Role.{Role}
use Rattle.system_model.specs.declared.system.Role.TheVariants.{Input, Output, ClockInput, ClockOutput, TimeClock}
use Rattle.system_model.specs.declared.system.Port.{Port}
use Rattle.system_model.specs.declared.system.System.{System}
use Rattle.system_model.specs.Ports.{label_of, labels_from, port_numbers, is_output_role, is_clock_role, feed_of, source_of}
use Rattle.system_model.specs.Shapes.{IsSoundShape, IsSoundClock, NamesClocks}
use Rattle.system_model.specs.Sound.{IsSound, IsPort, IsRole, IsFeed, IsUnder}
use Rattle.system_model.proofs.Lists.{all_at, at_contains, contains_at, found_under, filtered_partner, true_false}
use Rattle.system_model.proofs.Labels.{Labels, label_found, labels_apart}

-- ---- a port and its variable

pub record Placed (system : System) (p : ℕ) (port : Port) : Type 0 where
  pub component : Component
  pub variable : Variable
  pub is : IsPort system p port component variable
  pub shape : IsSoundShape component.shape
  pub place : ℕ
  pub there : slice_get component.shape.variables place ≡ Some variable
  pub kind : variable.kind ≡ Some port.kind
  pub reference : variable.reference ≡ port.reference
  pub role : IsRole component.shape variable port.role

pub place_of : (system : System) → IsSound system → (p : ℕ) (port : Port) → slice_get system.ports p ≡ Some port → Placed system p port
place_of system sound p port is =
    let labelled : slice_get (labels_from 0 system.components) p ≡ Some (label_of port) =
    ap (λ xs. slice_get xs p) (sym sound.ports.numbered) ∙ slice_get-map label_of system.ports p ∙ ap (option_map label_of) is in
    let found : Labels 0 system.components (label_of port) = label_found 0 system.components p (label_of port) labelled in
    let number : found.number ≡ port.component.0 = (let e : port.component.0 ≡ 0 + found.number = found.is.component in omega (arith, e)) in
    let shape : IsSoundShape found.component.shape = all_at (λ (c : Component). IsSoundShape c.shape) system.components found.number found.component sound.components.shapes found.of in
    let under : variable_at found.component.shape.variables port.reference ≡ Some found.variable =
    ap (variable_at found.component.shape.variables) found.is.reference ∙ found_under (λ (v : Variable). v.reference) found.component.shape.variables found.place found.variable shape.variables.distinct found.there in
    let port_is : IsPort system p port found.component found.variable = record { at = is; of = ap (slice_get system.components) (sym number) ∙ found.of; there = under } in
    record {
      component = found.component;
      variable = found.variable;
      is = port_is;
      shape = shape;
      place = found.place;
      there = found.there;
      kind = found.is.kind;
      reference = sym found.is.reference;
      role = sound.ports.roles p port found.component found.variable port_is;
    }

-- no two ports of a component have one reference
pub own : (system : System) → IsSound system → (p q : ℕ) (a b : Port) → slice_get system.ports p ≡ Some a → slice_get system.ports q ≡ Some b →
    a.component.0 ≡ b.component.0 → a.reference ≡ b.reference → p ≡ q
own system sound p q a b at_a at_b component reference =
    labels_apart 0 system.components sound.components.shapes p q (label_of a) (label_of b)
    (ap (λ xs. slice_get xs p) (sym sound.ports.numbered) ∙ slice_get-map label_of system.ports p ∙ ap (option_map label_of) at_a)
    (ap (λ xs. slice_get xs q) (sym sound.ports.numbered) ∙ slice_get-map label_of system.ports q ∙ ap (option_map label_of) at_b)
    (record { component = component; reference = reference })

-- ---- roles

output_of_role : (shape : Shape) (v : Variable) (role : Role) → IsRole shape v role → is_output_role role ≡ true → v.causality ≡ V.Output
output_of_role shape v (Input feed) h o = absurd (true_false (sym o))
output_of_role shape v Output h o = h.0
output_of_role shape v (ClockInput feed) h o = absurd (true_false (sym o))
output_of_role shape v ClockOutput h o = h.0
output_of_role shape v (TimeClock timing) h o = absurd (true_false (sym o))

input_of_role : (shape : Shape) (v : Variable) (role : Role) → IsRole shape v role → is_output_role role ≡ false → v.causality ≡ V.Input
input_of_role shape v (Input feed) h o = h.0
input_of_role shape v Output h o = absurd (true_false o)
input_of_role shape v (ClockInput feed) h o = h.0
input_of_role shape v ClockOutput h o = absurd (true_false o)
input_of_role shape v (TimeClock timing) h o = h.0

clock_of_role : (shape : Shape) (v : Variable) (role : Role) → IsRole shape v role → is_clock v ≡ is_clock_role role
clock_of_role shape v (Input feed) h = h.1
clock_of_role shape v Output h = h.1
clock_of_role shape v (ClockInput feed) h = h.1
clock_of_role shape v ClockOutput h = h.1
clock_of_role shape v (TimeClock timing) h = h.1

-- an output is a variable of causality output, and an input one of causality input
pub is_output_of : (system : System) (p : ℕ) (port : Port) (placed : Placed system p port) → is_output_role port.role ≡ true → placed.variable.causality ≡ V.Output
is_output_of system p port placed = output_of_role placed.component.shape placed.variable port.role placed.role

pub is_input_of : (system : System) (p : ℕ) (port : Port) (placed : Placed system p port) → is_output_role port.role ≡ false → placed.variable.causality ≡ V.Input
is_input_of system p port placed = input_of_role placed.component.shape placed.variable port.role placed.role

-- a Clock's component has event mode
pub events_of : (system : System) (p : ℕ) (port : Port) (placed : Placed system p port) → is_clock_role port.role ≡ true → placed.component.shape.has_event_mode ≡ true
events_of system p port placed clock =
    let is : is_clock placed.variable ≡ true = clock_of_role placed.component.shape placed.variable port.role placed.role ∙ clock in
    let timed = filtered_partner (IsSoundClock placed.component.shape) is_clock placed.component.shape.variables placed.component.shape.clocks placed.place placed.variable placed.shape.clocks placed.there is in
    timed.holds.events

-- ---- types

clock_type : (kind : PortType) → is_clock_type (Some kind) ≡ true → kind ≡ T.Clock
clock_type T.Clock e = refl
clock_type T.Int8 e = absurd (true_false (sym e))
clock_type T.UInt8 e = absurd (true_false (sym e))
clock_type T.Int16 e = absurd (true_false (sym e))
clock_type T.UInt16 e = absurd (true_false (sym e))
clock_type T.Int32 e = absurd (true_false (sym e))
clock_type T.UInt32 e = absurd (true_false (sym e))
clock_type T.Int64 e = absurd (true_false (sym e))
clock_type T.UInt64 e = absurd (true_false (sym e))
clock_type T.Boolean e = absurd (true_false (sym e))
clock_type T.Enumeration e = absurd (true_false (sym e))

-- the type of a port is Clock exactly where its role is a Clock's
pub clock_type_of : (system : System) (p : ℕ) (port : Port) (placed : Placed system p port) → is_clock_type (Some port.kind) ≡ is_clock_role port.role
clock_type_of system p port placed = ap is_clock_type (sym placed.kind) ∙ clock_of_role placed.component.shape placed.variable port.role placed.role

pub kind_of_clock : (system : System) (p : ℕ) (port : Port) (placed : Placed system p port) → is_clock_role port.role ≡ true → port.kind ≡ T.Clock
kind_of_clock system p port placed clock = clock_type port.kind (clock_type_of system p port placed ∙ clock)

-- ---- connections

is_clock_class : Class → Bool
is_clock_class class.Integer = false
is_clock_class class.Boolean = false
is_clock_class class.Enumeration = false
is_clock_class class.Clock = true

clock_class : (kind : PortType) → is_clock_class (class_of kind) ≡ is_clock_type (Some kind)
unfolding is_clock_class
clock_class T.Clock = refl
clock_class T.Int8 = refl
clock_class T.UInt8 = refl
clock_class T.Int16 = refl
clock_class T.UInt16 = refl
clock_class T.Int32 = refl
clock_class T.UInt32 = refl
clock_class T.Int64 = refl
clock_class T.UInt64 = refl
clock_class T.Boolean = refl
clock_class T.Enumeration = refl

-- the source of an input
pub record Source (system : System) (port : Port) (q : ℕ) : Type 0 where
  pub source : Port
  pub is : slice_get system.ports q ≡ Some source
  pub by : Feed
  pub by_is : feed_of port.role ≡ Some by
  pub feed : IsFeed by source port
  pub clock : is_clock_role source.role ≡ is_clock_role port.role

record FeedFrom (role : Role) (q : ℕ) : Type 0 where
  feed : Feed
  is : feed_of role ≡ Some feed
  from : feed.from.0 ≡ q

feed_from : (role : Role) (q : ℕ) (feed : Option Feed) → feed_of role ≡ feed → option_map (λ (f : Feed). f.from.0) feed ≡ Some q → FeedFrom role q
feed_from role q None is e = absurd (none_some _ e)
feed_from role q (Some feed) is e = record { feed = feed; is = is; from = same_Some _ _ e }

feed_at : (role : Role) (q : ℕ) → source_of role ≡ Some q → FeedFrom role q
feed_at (Input feed) q e = feed_from (Input feed) q feed refl e
feed_at Output q e = absurd (none_some _ e)
feed_at (ClockInput feed) q e = feed_from (ClockInput feed) q feed refl e
feed_at ClockOutput q e = absurd (none_some _ e)
feed_at (TimeClock timing) q e = absurd (none_some _ e)

clock_integer : class.Clock ≡ class.Integer → ⊥
clock_integer e = absurd (cc)

clock_boolean : class.Clock ≡ class.Boolean → ⊥
clock_boolean e = absurd (cc)

-- no change is one of Clocks
changes_none : (cs : List Change) → All (IsOn class.Clock) cs → cs ≡ []
changes_none [] h = refl
changes_none (change.Linear factor offset ∷ cs) h = absurd (clock_integer (h 0 (change.Linear factor offset) (omega arith)))
changes_none (change.Integers pairs ∷ cs) h = absurd (clock_integer (h 0 (change.Integers pairs) (omega arith)))
changes_none (change.Booleans pairs ∷ cs) h = absurd (clock_boolean (h 0 (change.Booleans pairs) (omega arith)))

-- where it feeds a Clock, each value of the source is one of the input's type
pub within_of_clock : (feed : Feed) (source target : Port) → IsFeed feed source target → target.kind ≡ T.Clock → IsWithin source.kind target.kind
within_of_clock feed source target f e =
    f.range (changes_none feed.changes (subst (λ (k : PortType). All (IsOn (class_of k)) feed.changes) e f.changes))

pub source_at : (system : System) → IsSound system → (p q : ℕ) (port : Port) → slice_get system.ports p ≡ Some port → source_of port.role ≡ Some q → Source system port q
source_at system sound p q port is from =
    let f = feed_at port.role q from in
    (elim (slice_get system.ports q) as (λ o. slice_get system.ports q ≡ o → IsSomeAnd o (λ (source : Port). IsFeed f.feed source port) → Source system port q) [
      | None ↦ λ e h. absurd h
      | Some source ↦ λ e h.
          let there = place_of system sound q source e in
          let here = place_of system sound p port is in
          record {
            source = source;
            is = e;
            by = f.feed;
            by_is = f.is;
            feed = h;
            clock = sym (clock_type_of system q source there) ∙ sym (clock_class source.kind) ∙ ap is_clock_class h.same_class ∙ clock_class port.kind ∙ clock_type_of system p port here;
          }
    ]) refl (subst (λ n. IsSomeAnd (slice_get system.ports n) (λ (source : Port). IsFeed f.feed source port)) f.from (sound.feeds p port f.feed is f.is))

-- ---- Clocks of ports

-- a Clock of a port is a port of its component that is a Clock, which its variable names
pub record ClockOf (system : System) (port : Port) (variable : Variable) (q : ℕ) : Type 0 where
  pub clock : Port
  pub is : slice_get system.ports q ≡ Some clock
  pub component : clock.component.0 ≡ port.component.0
  pub role : is_clock_role clock.role ≡ true
  pub named : Contains variable.clocks clock.reference

clock_beside : (system : System) (i k : ℕ) (references : List ℕ) (clocks : List PortId) (c : PortId) → AllZip (IsUnder system i) references clocks → slice_get clocks k ≡ Some c →
    (r : ℕ) × (slice_get references k ≡ Some r) × IsUnder system i r c
clock_beside system i k [] [] c zip is = absurd (none_some _ is)
clock_beside system i k [] (x ∷ xs) c zip is = absurd zip
clock_beside system i k (r ∷ rs) [] c zip is = absurd zip
clock_beside system i zero (r ∷ rs) (x ∷ xs) c zip is = (r, refl, subst (IsUnder system i r) (same_Some _ _ is) zip.0)
clock_beside system i (suc k) (r ∷ rs) (x ∷ xs) c zip is = clock_beside system i k rs xs c zip.1 is

pub clock_at : (system : System) → IsSound system → (p : ℕ) (port : Port) (placed : Placed system p port) (q : ℕ) → Contains (port_numbers port.clocks) q → ClockOf system port placed.variable q
clock_at system sound p port placed q among =
    let at = contains_at (port_numbers port.clocks) q among in
    numbered at.0 (sym (slice_get-map (λ (x : PortId). x.0) port.clocks at.0) ∙ at.1)
  where
    from_port : (r k : ℕ) → slice_get placed.variable.clocks k ≡ Some r → IsSomeAnd (slice_get system.ports q) (λ (other : Port). (other.component.0 ≡ port.component.0) × (other.reference ≡ r)) → ClockOf system port placed.variable q
    from_port r k named under =
        (elim (slice_get system.ports q) as (λ o. slice_get system.ports q ≡ o → IsSomeAnd o (λ (other : Port). (other.component.0 ≡ port.component.0) × (other.reference ≡ r)) → ClockOf system port placed.variable q) [
          | None ↦ λ e h. absurd h
          | Some clock ↦ λ e h. record {
            clock = clock;
            is = e;
            component = h.0;
            role = clock_role clock e h.0 h.1 k named;
            named = subst (Contains placed.variable.clocks) (sym h.1) (at_contains placed.variable.clocks k r named);
          }
        ]) refl under
      where
        clock_role : (clock : Port) → slice_get system.ports q ≡ Some clock → clock.component.0 ≡ port.component.0 → clock.reference ≡ r → (j : ℕ) → slice_get placed.variable.clocks j ≡ Some r → is_clock_role clock.role ≡ true
        clock_role clock e component reference j at =
            let there = place_of system sound q clock e in
            let same : there.component ≡ placed.component = same_Some _ _ (sym there.is.of ∙ ap (slice_get system.components) component ∙ placed.is.of) in
            let names = all_at (NamesClocks placed.component.shape) placed.component.shape.variables placed.place placed.variable placed.shape.variables.clocks placed.there (ap is_some placed.kind) in
            let is_there : is_at is_clock placed.component.shape.variables r ≡ true = all_at (λ x. is_at is_clock placed.component.shape.variables x ≡ true) placed.variable.clocks j r names at in
            let found : variable_at placed.component.shape.variables r ≡ Some there.variable =
            ap (λ (c : Component). variable_at c.shape.variables r) (sym same) ∙ ap (variable_at there.component.shape.variables) (sym reference) ∙ there.is.there in
            sym (clock_of_role there.component.shape there.variable clock.role there.role) ∙ ap (λ o. option_map_or is_clock o false) (sym found) ∙ is_there

    numbered : (k : ℕ) → option_map (λ (x : PortId). x.0) (slice_get port.clocks k) ≡ Some q → ClockOf system port placed.variable q
    numbered k at =
        (elim (slice_get port.clocks k) as (λ o. slice_get port.clocks k ≡ o → option_map (λ (x : PortId). x.0) o ≡ Some q → ClockOf system port placed.variable q) [
          | None ↦ λ e h. absurd (none_some _ h)
          | Some c ↦ λ e h.
              let beside = clock_beside system port.component.0 k placed.variable.clocks port.clocks c (sound.ports.clocks p port placed.component placed.variable placed.is) e in
              let number : c.0 ≡ q = same_Some _ _ h in
              from_port beside.0 k beside.1 (subst (λ x. IsSomeAnd (slice_get system.ports x) (λ (other : Port). (other.component.0 ≡ port.component.0) × (other.reference ≡ beside.0))) number beside.2)
        ]) refl at
