-- A flattened system is sound: its components, its feeds, and the numbers that it names.
use Rattle.std.proofs.Common.{◌≡◌, ℕ, zero, suc, ◌+◌, ◌<◌, ℤ, ◌≤ℤ◌, Bool, true, false, List, [], ◌∷◌, length, map, refl, sym, ◌∙◌, ap, subst, inl, inr, arith, All}
use Rattle.std.specs.Prelude.{Option, Some, None, slice_get, IsSomeAnd, IfSome}
use Rattle.std.specs.Int.Signed.{clash_ℤ, lt_z, lt_z_no, lt_z_yes}
use Rattle.std.proofs.lemmas.Float.{T_from_true, T_from_false}
use Rattle.std.specs.List.{AllZip}
use Rattle.std.specs.Option.{option_map, option_and_then}
use Rattle.std.proofs.lemmas.Option.{none-some as none_some, same_Some, slice_get_within, slice_get-map}
use Rattle.sim_base.specs.declared.numbers.PortId.{PortId}
use Rattle.value_types.specs.Joint.{IsWithin, class_of}
use Rattle.value_types.specs.Values.{greatest_of, least_of}
use Rattle.value_types.specs.Shape.{variable_at}
use Rattle.value_types.specs.declared.joint.Class.{Class}
use Rattle.value_types.specs.declared.joint.Class.TheVariants as class
use Rattle.value_types.specs.declared.values.PortType.{PortType}
use Rattle.value_types.specs.declared.shape.Causality.TheVariants as c
use Rattle.value_types.specs.declared.shape.Variable.{Variable}
use Rattle.value_types.specs.declared.shape.Shape.{Shape}
use Rattle.doc_tree.specs.declared.rule.Rule.TheVariants.{Flattening, SavesNoState}
use Rattle.doc_tree.specs.declared.rule.FlatteningRule.TheVariants.{OtherClass, TooWide, OtherChange}
use Rattle.parameter_values.specs.declared.change.Change.{Change}
use Rattle.parameter_values.specs.declared.change.Change.TheVariants as change
use Rattle.system_model.specs.Carried.{IsOn}
use Rattle.system_model.specs.EarlyReturn.{early_count}
use Rattle.system_model.specs.declared.system.Component.{Component}
use Rattle.system_model.specs.declared.system.Feed.{Feed}
use Rattle.system_model.specs.declared.system.Port.{Port}
use Rattle.system_model.specs.declared.system.Role.{Role}
use Rattle.system_model.specs.declared.system.Role.TheVariants.{Input, Output, ClockInput, ClockOutput, TimeClock}
use Rattle.system_model.specs.declared.system.System.{System}
use Rattle.system_model.specs.Ports.{label_of, labels_from, feed_of, source_of, is_output_role}
use Rattle.system_model.specs.Shapes.{IsSoundShape}
use Rattle.system_model.specs.Sound.{HasSoundComponents, HasSoundFeeds, HasSoundPorts, IsFeed, IsPort, IsRole, IsSound, IsUnder}
use Rattle.system_model.proofs.CallerLemmas.{Early, all_at, all_by_place, counts_two, found_under, two_early, Labels, label_found, Placed}
use Rattle.port_orders.specs.Outcome.{unordered}
use Rattle.port_orders.specs.Placed.{ArePlaced, IsPlaced}
use Rattle.ssd_tree.specs.declared.tree.ComponentPart.{ComponentPart}
use Rattle.ssd_tree.specs.declared.tree.SystemTree.{SystemTree}
use Rattle.flatten.specs.Points.{Point, variable_at_point}
use Rattle.flatten.specs.Paths.{Feeds, plain}
use Rattle.flatten.specs.Rules.{IsFitting, Suits}
use Rattle.flatten.specs.Flat.{AreComponentsOf, Flattens, IsFlat, point_of_port}
use Rattle.flatten.specs.Given.{AreShapesOf, IsWholeTree}
use Rattle.flatten.proofs.AlongLemmas.{along, plain_feeds, plain_input, plain_output}
use Rattle.flatten.proofs.LastLemmas.{EndsAt, ends_at}
use Rattle.flatten.proofs.RoleLemmas.{some_at, some_of}

-- ---- ports of one system are those of another with the same components and ports

pub same_ports : (a b : System) → a.components ≡ b.components → a.ports ≡ b.ports → HasSoundPorts a → HasSoundPorts b
same_ports a b components ports h =
    back (subst (λ ps. HasSoundPorts (unordered b.components ps)) ports (subst (λ cs. HasSoundPorts (unordered cs a.ports)) components (record {
      few = h.few;
      numbered = h.numbered;
      roles = λ p port component x is. h.roles p port component x (record { at = is.at; of = is.of; there = is.there });
      clocks = λ p port component x is. h.clocks p port component x (record { at = is.at; of = is.of; there = is.there });
    })))
  where
    back : HasSoundPorts (unordered b.components b.ports) → HasSoundPorts b
    back g = record {
      few = g.few;
      numbered = g.numbered;
      roles = λ p port component x is. g.roles p port component x (record { at = is.at; of = is.of; there = is.there });
      clocks = λ p port component x is. g.clocks p port component x (record { at = is.at; of = is.of; there = is.there });
    }

-- ---- components

pub sound_components : (t : SystemTree) (shapes : List Shape) (system : System) → IsWholeTree t → AreShapesOf t shapes → IsFitting t shapes → AreComponentsOf t.components shapes system.components → HasSoundComponents system
sound_components t shapes system whole given fitting are = record {
  few = omega (arith, are.len, whole.few);
  named = all_by_place (λ (c : Component). 0 < length c.name) system.components (λ i c at.
      let is = are.each i c at in
      let part : 0 < length is.part.name = all_at (λ (k : ComponentPart). 0 < length k.name) t.components i is.part whole.named is.at in
      subst (λ name. 0 < length name) (sym is.name) part);
  shapes = all_by_place (λ (c : Component). IsSoundShape c.shape) system.components (λ i c at. all_at IsSoundShape shapes i c.shape given.sound (are.each i c at).shape);
  per_second = given.per_second;
  above = given.above;
  within = given.within;
  resolutions = all_by_place (λ (c : Component). c.shape.resolution ≡ given.per_second) system.components (λ i c at.
      all_at (λ (s : Shape). s.resolution ≡ given.per_second) shapes i c.shape given.resolutions (are.each i c at).shape);
  saved = λ two. all_by_place (λ (c : Component). c.shape.can_save_state ≡ true) system.components (λ j other at_other. saved_or other.shape.can_save_state (λ lacks.
      let is = are.each j other at_other in
      fitting SavesNoState is.part.node (
        j,
        (
          is.part,
          is.at,
          refl,
          (
            some_at (slice_get shapes j) (λ (s : Shape). s.can_save_state ≡ false) other.shape is.shape lacks,
            several two,
          ),
        ),
      )));
}
  where
    saved_or : (saves : Bool) → (saves ≡ false → ⊥) → saves ≡ true
    saved_or true lacks = refl
    saved_or false lacks = absurd (lacks refl)

    here : (e : Early (map (λ (c : Component). c.shape) system.components)) → slice_get shapes e.place ≡ Some e.shape
    here e = by (slice_get system.components e.place) refl where
      named : slice_get (map (λ (c : Component). c.shape) system.components) e.place ≡ option_map (λ (c : Component). c.shape) (slice_get system.components e.place)
      named = slice_get-map (λ (c : Component). c.shape) system.components e.place

      by : (o : Option Component) → slice_get system.components e.place ≡ o → slice_get shapes e.place ≡ Some e.shape
      by None none = absurd (none_some e.shape (ap (option_map (λ (c : Component). c.shape)) (sym none) ∙ sym named ∙ e.at))
      by (Some c) at = (are.each e.place c at).shape ∙ ap Some (same_Some c.shape e.shape (ap (option_map (λ (c : Component). c.shape)) (sym at) ∙ sym named ∙ e.at))

    -- two of the components might return early, so two of the shapes might
    several : 1 < early_count (map (λ (c : Component). c.shape) system.components) → 1 < early_count shapes
    several two =
        let t = two_early (map (λ (c : Component). c.shape) system.components) two in
        counts_two shapes t.one.place t.other.place t.one.shape t.other.shape t.apart (here t.one) (here t.other) t.one.early t.other.early

pub component_shapes : (t : SystemTree) (shapes : List Shape) (components : List Component) → AreShapesOf t shapes → AreComponentsOf t.components shapes components → All (λ (c : Component). IsSoundShape c.shape) components
component_shapes t shapes components given are =
    all_by_place (λ (c : Component). IsSoundShape c.shape) components (λ i c at. all_at IsSoundShape shapes i c.shape given.sound (are.each i c at).shape)

-- ---- a port and its variable

pub placed_in : (system : System) → All (λ (c : Component). IsSoundShape c.shape) system.components → HasSoundPorts system → (p : ℕ) (port : Port) → slice_get system.ports p ≡ Some port → Placed system p port
placed_in system shapes ports p port is =
    let named : slice_get (labels_from 0 system.components) p ≡ Some (label_of port) =
    ap (λ xs. slice_get xs p) (sym ports.numbered) ∙ slice_get-map label_of system.ports p ∙ ap (option_map label_of) is in
    let found : Labels 0 system.components (label_of port) = label_found 0 system.components p (label_of port) named in
    let number : found.number ≡ port.component.0 = (let e : port.component.0 ≡ 0 + found.number = found.is.component in omega (arith, e)) in
    let shape : IsSoundShape found.component.shape = all_at (λ (c : Component). IsSoundShape c.shape) system.components found.number found.component shapes found.of in
    let under : variable_at found.component.shape.variables port.reference ≡ Some found.variable =
    ap (variable_at found.component.shape.variables) found.is.reference ∙ found_under (λ (v : Variable). v.reference) found.component.shape.variables found.place found.variable shape.variables.distinct found.there in
    let port_is : IsPort system p port found.component found.variable = record { at = is; of = ap (slice_get system.components) (sym number) ∙ found.of; there = under } in
    record {
      component = found.component;
      variable = found.variable;
      is = port_is;
      shape = shape;
      place = found.place;
      there = found.there;
      kind = found.is.kind;
      reference = sym found.is.reference;
      role = ports.roles p port found.component found.variable port_is;
    }

-- the variable of a port is that at its point
own_variable : (t : SystemTree) (shapes : List Shape) (system : System) → AreComponentsOf t.components shapes system.components → (p : ℕ) (port : Port) (placed : Placed system p port)
    → variable_at_point shapes (point_of_port port) ≡ Some placed.variable
own_variable t shapes system are p port placed =
    ap (option_and_then (λ (s : Shape). variable_at s.variables port.reference)) (are.each port.component.0 placed.component placed.is.of).shape ∙ placed.is.there

-- ---- types that fit

apart : c.Input ≡ c.Output → ⊥
apart e = cc

output_role : (shape : Shape) (x : Variable) (role : Role) → IsRole shape x role → x.causality ≡ c.Output → is_output_role role ≡ true
output_role shape x (Input feed) role is = absurd (apart (sym role.0 ∙ is))
output_role shape x Output role is = refl
output_role shape x (ClockInput feed) role is = absurd (apart (sym role.0 ∙ is))
output_role shape x ClockOutput role is = refl
output_role shape x (TimeClock timing) role is = absurd (apart (sym role.0 ∙ is))

le_if : (a b : ℤ) → ((a ≤ℤ b → ⊥) → ⊥) → a ≤ℤ b
le_if a b h = (elim (lt_z b a) as (λ x. lt_z b a ≡ x → a ≤ℤ b) [
  | true ↦ λ e. absurd (h (λ le. clash_ℤ (lt_z_yes (T_from_true (lt_z b a) e)) le))
  | false ↦ λ e. lt_z_no (T_from_false (lt_z b a) e)
]) refl

within_if : (from to : PortType) → ((IsWithin from to → ⊥) → ⊥) → IsWithin from to
within_if from to h = λ value fits. (
  le_if (least_of to) value (λ low. h (λ within. low (within value fits).0)),
  le_if value (greatest_of to) (λ high. h (λ within. high (within value fits).1)),
)

class_if : (a b : Class) → ((Some a ≡ Some b → ⊥) → ⊥) → a ≡ b
class_if class.Integer class.Integer h = refl
class_if class.Integer class.Boolean h = absurd (h (λ e. cc))
class_if class.Integer class.Enumeration h = absurd (h (λ e. cc))
class_if class.Integer class.Clock h = absurd (h (λ e. cc))
class_if class.Boolean class.Integer h = absurd (h (λ e. cc))
class_if class.Boolean class.Boolean h = refl
class_if class.Boolean class.Enumeration h = absurd (h (λ e. cc))
class_if class.Boolean class.Clock h = absurd (h (λ e. cc))
class_if class.Enumeration class.Integer h = absurd (h (λ e. cc))
class_if class.Enumeration class.Boolean h = absurd (h (λ e. cc))
class_if class.Enumeration class.Enumeration h = refl
class_if class.Enumeration class.Clock h = absurd (h (λ e. cc))
class_if class.Clock class.Integer h = absurd (h (λ e. cc))
class_if class.Clock class.Boolean h = absurd (h (λ e. cc))
class_if class.Clock class.Enumeration h = absurd (h (λ e. cc))
class_if class.Clock class.Clock h = refl

suits_if : (c : Class) (change : Change) → ((IsOn c change → ⊥) → ⊥) → IsOn c change
suits_if c (change.Linear factor offset) h = class_if c class.Integer (λ no. h (λ e. no (ap Some e)))
suits_if c (change.Integers pairs) h = class_if c class.Integer (λ no. h (λ e. no (ap Some e)))
suits_if c (change.Booleans pairs) h = class_if c class.Boolean (λ no. h (λ e. no (ap Some e)))

some_kind : (P : PortType → Type 0) (o : Option PortType) (kind : PortType) → o ≡ Some kind → P kind → IsSomeAnd o P
some_kind P o kind e h = subst (λ z. IsSomeAnd z P) (sym e) h

-- where no rule is broken, what feeds an input is of its class, its changes are for that class, and without any its values are values of the input
module _ (t : SystemTree) (shapes : List Shape) (fitting : IsFitting t shapes) (p : Point) (changes : List Change) (q : Point) (feeds : Feeds t shapes p changes q)
    (from to : PortType) (output : feeds.output.kind ≡ Some from) (input : feeds.input.kind ≡ Some to) where
  one_class : class_of from ≡ class_of to
  one_class =
      let end : EndsAt t shapes p changes q feeds = ends_at t shapes p changes q feeds in
      class_if (class_of from) (class_of to) (λ other.
      fitting (Flattening OtherClass) end.connection.node (inr (
        end.connection,
        refl,
        (
          p,
          (
            end.start,
            (
              q,
              (
                feeds.output,
                (
                  feeds.input,
                  end.ends,
                  inr (inl (λ e. other (sym (ap (option_map class_of) output) ∙ e ∙ ap (option_map class_of) input))),
                ),
              ),
            ),
          ),
        ),
      )))

  in_range : changes ≡ [] → IsWithin from to
  in_range none =
      let flat : Feeds (plain t) shapes p changes q = plain_feeds t shapes p changes q feeds none in
      let out : flat.output.kind ≡ Some from = ap (λ (v : Variable). v.kind) (plain_output t shapes p changes q feeds none) ∙ output in
      let inp : flat.input.kind ≡ Some to = ap (λ (v : Variable). v.kind) (plain_input t shapes p changes q feeds none) ∙ input in
      let end : EndsAt (plain t) shapes p changes q flat = ends_at (plain t) shapes p changes q flat in
      within_if from to (λ wide.
      fitting (Flattening TooWide) end.connection.node (
        end.connection,
        refl,
        (
          p,
          (
            end.start,
            (
              q,
              (
                flat.output,
                (
                  flat.input,
                  end.ends,
                  some_at flat.output.kind (λ (a : PortType). IsSomeAnd flat.input.kind (λ (b : PortType). (class_of a ≡ class_of b) × (IsWithin a b → ⊥))) from out
                      (some_at flat.input.kind (λ (b : PortType). (class_of from ≡ class_of b) × (IsWithin from b → ⊥)) to inp (one_class, wide)),
                ),
              ),
            ),
          ),
        ),
      ))

  suited : All (IsOn (class_of to)) changes
  suited = along t shapes (IsOn (class_of to)) p changes q feeds (λ k change is among before. suits_if (class_of to) change (λ other.
      fitting (Flattening OtherChange) k.node (
        k,
        among,
        refl,
        (
          change,
          is,
          (
            feeds.input,
            before,
            λ suits. other (subst (Suits change) (ap (option_map class_of) input) suits),
          ),
        ),
      )))

pub sound_feeds : (t : SystemTree) (shapes : List Shape) (system : System) → IsFitting t shapes → AreShapesOf t shapes → IsFlat t shapes system → HasSoundFeeds system
sound_feeds t shapes system fitting given flat = λ p port feed at fed.
    let source = some_of (slice_get system.ports feed.from.0) (λ (s : Port). Feeds t shapes (point_of_port s) feed.changes (point_of_port port)) ((flat.feeds p port feed at).0 fed) in
    let feeds : Feeds t shapes (point_of_port source.0) feed.changes (point_of_port port) = source.2 in
    let sound = component_shapes t shapes system.components given flat.components in
    let a : Placed system feed.from.0 source.0 = placed_in system sound flat.ports feed.from.0 source.0 source.1 in
    let b : Placed system p port = placed_in system sound flat.ports p port at in
    let output : a.variable ≡ feeds.output = same_Some _ _ (sym (own_variable t shapes system flat.components feed.from.0 source.0 a) ∙ feeds.from.0) in
    let input : b.variable ≡ feeds.input = same_Some _ _ (sym (own_variable t shapes system flat.components p port b) ∙ feeds.to.0) in
    let out_kind : feeds.output.kind ≡ Some source.0.kind = ap (λ (v : Variable). v.kind) (sym output) ∙ a.kind in
    let in_kind : feeds.input.kind ≡ Some port.kind = ap (λ (v : Variable). v.kind) (sym input) ∙ b.kind in
    some_at (slice_get system.ports feed.from.0) (λ (s : Port). IsFeed feed s port) source.0 source.1 (record {
      output = output_role a.component.shape a.variable source.0.role a.role (ap (λ (v : Variable). v.causality) output ∙ feeds.from.1);
      same_class = one_class t shapes fitting (point_of_port source.0) feed.changes (point_of_port port) feeds source.0.kind port.kind out_kind in_kind;
      changes = suited t shapes fitting (point_of_port source.0) feed.changes (point_of_port port) feeds source.0.kind port.kind out_kind in_kind;
      range = in_range t shapes fitting (point_of_port source.0) feed.changes (point_of_port port) feeds source.0.kind port.kind out_kind in_kind;
    })

-- ---- the whole

pub sound_system : (t : SystemTree) (shapes : List Shape) (system : System) → IsWholeTree t → AreShapesOf t shapes → IsFitting t shapes → Flattens t shapes system → IsSound system
sound_system t shapes system whole given fitting is = record {
  components = sound_components t shapes system whole given fitting is.flat.components;
  ports = is.flat.ports;
  feeds = sound_feeds t shapes system fitting given is.flat;
  instant_order = is.orders.instant_order;
  initial_order = is.orders.initial_order;
}

-- ---- numbers that there are

zip_right : {X Y : Type 0} (R : X → Y → Type 0) (S : Y → Type 0) → ((x : X) (y : Y) → R x y → S y) → (xs : List X) (ys : List Y) → AllZip R xs ys → (k : ℕ) (y : Y) → slice_get ys k ≡ Some y → S y
zip_right R S f [] [] zip k y at = absurd (none_some _ at)
zip_right R S f [] (z ∷ ys) zip k y at = absurd zip
zip_right R S f (x ∷ xs) [] zip k y at = absurd zip
zip_right R S f (x ∷ xs) (z ∷ ys) zip zero y at = subst S (same_Some _ _ at) (f x z zip.0)
zip_right R S f (x ∷ xs) (z ∷ ys) zip (suc k) y at = zip_right R S f xs ys zip.1 k y at

feed_within : (ports : List Port) (o : Option Feed) → ((f : Feed) → o ≡ Some f → f.from.0 < length ports) → IfSome (option_map (λ (f : Feed). f.from.0) o) (λ q. q < length ports)
feed_within ports None h = tt
feed_within ports (Some f) h = h f refl

source_within : (ports : List Port) (role : Role) → ((f : Feed) → feed_of role ≡ Some f → f.from.0 < length ports) → IfSome (source_of role) (λ q. q < length ports)
source_within ports (Input feed) h = feed_within ports feed h
source_within ports Output h = tt
source_within ports (ClockInput feed) h = feed_within ports feed h
source_within ports ClockOutput h = tt
source_within ports (TimeClock timing) h = tt

pub are_placed : (t : SystemTree) (shapes : List Shape) (components : List Component) (ports : List Port) → IsWholeTree t → AreShapesOf t shapes → IsFlat t shapes (unordered components ports) → ArePlaced components ports
are_placed t shapes components ports whole given flat =
    let system = unordered components ports in
    let sound = component_shapes t shapes components given flat.components in
    record {
      few_components = omega (arith, flat.components.len, whole.few);
      few_ports = omega (arith, flat.ports.few);
      each = all_by_place (IsPlaced (length components) (length ports)) ports (λ p port at.
          let placed : Placed system p port = placed_in system sound flat.ports p port at in
          record {
            component = slice_get_within components port.component.0 placed.component placed.is.of;
            source = source_within ports port.role (λ f fed.
                let source = some_of (slice_get ports f.from.0) (λ (s : Port). Feeds t shapes (point_of_port s) f.changes (point_of_port port)) ((flat.feeds p port f at).0 fed) in
                slice_get_within ports f.from.0 source.0 source.1);
            clocks = all_by_place (λ (clock : PortId). clock.0 < length ports) port.clocks (zip_right (IsUnder system port.component.0) (λ (clock : PortId). clock.0 < length ports)
                (λ r clock u. let there = some_of (slice_get ports clock.0) (λ (o : Port). (o.component.0 ≡ port.component.0) × (o.reference ≡ r)) u in slice_get_within ports clock.0 there.0 there.1)
                placed.variable.clocks port.clocks (flat.ports.clocks p port placed.component placed.variable placed.is));
          });
    }
