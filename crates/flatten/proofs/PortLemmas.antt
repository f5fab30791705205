-- The ports of the flattened system: each has its place, its Clocks are ports, and its source is the output that feeds it.
use Rattle.std.proofs.Common.{◌≡◌, ℕ, ◌+◌, ◌≤◌, true, List, [], ◌∷◌, map, length, refl, sym, ◌∙◌, ap, subst, arith, All}
use Rattle.std.specs.Prelude.{Option, Some, None, slice_get, count_by, IsSomeAnd}
use Rattle.std.specs.List.{AllZip}
use Rattle.std.specs.Option.{option_map, option_and_then}
use Rattle.std.proofs.lemmas.Option.{none-some as none_some, same_Some, slice_get_within, slice_get-map}
use Rattle.std.proofs.lemmas.List.{length-map}
use Rattle.sim_base.specs.declared.numbers.PortId.{PortId}
use Rattle.value_types.specs.Shape.{is_port, variable_at, timing_at}
use Rattle.value_types.specs.declared.shape.Causality.TheVariants as c
use Rattle.value_types.specs.declared.shape.IntervalVariability.TheVariants.{Triggered}
use Rattle.value_types.specs.declared.shape.ClockTiming.{ClockTiming}
use Rattle.value_types.specs.declared.shape.Variable.{Variable}
use Rattle.value_types.specs.declared.shape.Shape.{Shape}
use Rattle.doc_tree.specs.declared.rule.Rule.TheVariants.{Flattening}
use Rattle.doc_tree.specs.declared.rule.FlatteningRule.TheVariants.{FedClock}
use Rattle.system_model.specs.declared.system.Component.{Component}
use Rattle.system_model.specs.declared.system.Feed.{Feed}
use Rattle.system_model.specs.declared.system.Port.{Port}
use Rattle.system_model.specs.declared.system.Role.{Role}
use Rattle.system_model.specs.declared.system.Role.TheVariants.{Input, Output, ClockInput, ClockOutput, TimeClock}
use Rattle.system_model.specs.Ports.{Label, label_of, feed_of}
use Rattle.system_model.specs.Shapes.{IsSoundShape}
use Rattle.system_model.specs.Sound.{HasSoundPorts, IsRole, IsUnder}
use Rattle.system_model.proofs.CallerLemmas.{all_at, found_under, IsLabel, labelled}
use Rattle.port_orders.specs.Outcome.{unordered}
use Rattle.parameter_values.specs.declared.change.Change.{Change}
use Rattle.ssd_tree.specs.declared.tree.SystemTree.{SystemTree}
use Rattle.flatten.specs.declared.ports.PortTable.{PortTable}
use Rattle.flatten.specs.Points.{Point, OfComponent, variable_at_point}
use Rattle.flatten.specs.Paths.{Feeds}
use Rattle.flatten.specs.Rules.{IsFitting}
use Rattle.flatten.specs.Flat.{AreComponentsOf, HasFeeds, IsSourceWith, point_of_port}
use Rattle.flatten.specs.Given.{AreShapesOf}
use Rattle.flatten.specs.Indexed.{all_variables, begin_of}
use Rattle.flatten.specs.Ports.{IsMade, IsNumberOf, IsPortOf, IsPortTable, IsPortUnder, labels_in, at_number}
use Rattle.flatten.proofs.LabelLemmas.{Numbered, numbered, label_at_number, as_port, label_there, labels_by_components, length_labels, numbered_port, port_numbered, ports_before, shapes_apart, variable_at_number, element_there}
use Rattle.flatten.proofs.LastLemmas.{ends_at}
use Rattle.flatten.proofs.RoleLemmas.{some_at, some_of}

-- ---- lists

zip_map : {X Y : Type 0} (R S : X → Y → Type 0) → ((x : X) (y : Y) → R x y → S x y) → (xs : List X) (ys : List Y) → AllZip R xs ys → AllZip S xs ys
zip_map R S f [] [] zip = zip
zip_map R S f [] (y ∷ ys) zip = zip
zip_map R S f (x ∷ xs) [] zip = zip
zip_map R S f (x ∷ xs) (y ∷ ys) zip = (f x y zip.0, zip_map R S f xs ys zip.1)

-- ---- sources

-- what feeds a role is what feeds its variable
source_feed : (shape : Shape) (x : Variable) (feed : Option Feed) (role : Role) (f : Feed) → IsSourceWith shape x feed role → feed_of role ≡ Some f → feed ≡ Some f
source_feed shape x feed (Input fed) f same is = sym same ∙ is
source_feed shape x feed Output f same is = absurd (none_some _ is)
source_feed shape x feed (ClockInput fed) f same is = sym same ∙ is
source_feed shape x feed ClockOutput f same is = absurd (none_some _ is)
source_feed shape x feed (TimeClock timing) f same is = absurd (none_some _ is)

apart : c.Input ≡ c.Output → ⊥
apart e = cc

feed_source : (shape : Shape) (x : Variable) (feed : Option Feed) (role : Role) (f : Feed) → IsRole shape x role → IsSourceWith shape x feed role → x.causality ≡ c.Input
    → (IsSomeAnd (timing_at shape.clocks x.reference) (λ (clock : ClockTiming). clock.variability ≡ Triggered → ⊥) → ⊥) → feed ≡ Some f → feed_of role ≡ Some f
feed_source shape x feed (Input fed) f role same input unfed is = same ∙ is
feed_source shape x feed Output f role same input unfed is = absurd (apart (sym input ∙ role.0))
feed_source shape x feed (ClockInput fed) f role same input unfed is = same ∙ is
feed_source shape x feed ClockOutput f role same input unfed is = absurd (apart (sym input ∙ role.0))
feed_source shape x feed (TimeClock timing) f role same input unfed is = absurd (unfed same)

-- a time-based Clock isn't fed where no rule is broken
unfed_clock : (t : SystemTree) (shapes : List Shape) → IsFitting t shapes → (p : Point) (changes : List Change) (i r : ℕ) → Feeds t shapes p changes (OfComponent i r) → (shape : Shape) → slice_get shapes i ≡ Some shape
    → IsSomeAnd (timing_at shape.clocks r) (λ (clock : ClockTiming). clock.variability ≡ Triggered → ⊥) → ⊥
unfed_clock t shapes fitting p changes i r feeds shape of timed =
    let end = ends_at t shapes p changes (OfComponent i r) feeds in
    fitting (Flattening FedClock) end.connection.node (
      end.connection,
      refl,
      (
        p,
        (
          end.start,
          (
            OfComponent i r,
            (
              feeds.output,
              (
                feeds.input,
                end.ends,
                some_at (slice_get shapes i) (λ (x : Shape). IsSomeAnd (timing_at x.clocks r) (λ (clock : ClockTiming). clock.variability ≡ Triggered → ⊥)) shape of timed,
              ),
            ),
          ),
        ),
      ),
    )

-- ---- the ports

module _ (t : SystemTree) (shapes : List Shape) (table : PortTable) (ports : List Port) (given : AreShapesOf t shapes) (is : IsPortTable t shapes table)
    (labels : map label_of ports ≡ labels_in 0 shapes) (made : All (IsMade shapes table) ports) where
  label_is : (p : ℕ) (port : Port) → slice_get ports p ≡ Some port → slice_get (labels_in 0 shapes) p ≡ Some (label_of port)
  label_is p port at = ap (λ ls. slice_get ls p) (sym labels) ∙ slice_get-map label_of ports p ∙ ap (option_map label_of) at

  record Labelled (p : ℕ) (label : Label) : Type 0 where
    pub port : Port
    pub at : slice_get ports p ≡ Some port
    pub same : label_of port ≡ label

  labelled_at : (p : ℕ) (label : Label) → slice_get (labels_in 0 shapes) p ≡ Some label → Labelled p label
  labelled_at p label here = by (slice_get ports p) refl (sym (slice_get-map label_of ports p) ∙ ap (λ ls. slice_get ls p) labels ∙ here)
    where
      by : (o : Option Port) → slice_get ports p ≡ o → option_map label_of o ≡ Some label → Labelled p label
      by None e f = absurd (none_some _ f)
      by (Some port) e f = record { port = port; at = e; same = same_Some _ _ f }

  -- the port of a variable
  pub record Found (i place : ℕ) (x : Variable) : Type 0 where
    pub port : Port
    pub at : slice_get ports (ports_before shapes (begin_of shapes i + place)) ≡ Some port
    pub component : port.component.0 ≡ i
    pub reference : port.reference ≡ x.reference

  pub port_found : (i : ℕ) (s : Shape) (place : ℕ) (x : Variable) → slice_get shapes i ≡ Some s → slice_get s.variables place ≡ Some x → is_port x ≡ true → Found i place x
  port_found i s place x of at port =
      let named = label_there (0 + i) x port in
      let is_label : IsLabel (0 + i) x named.0 = labelled (0 + i) x named.0 named.1 in
      let found : Labelled (ports_before shapes (begin_of shapes i + place)) named.0 = labelled_at (ports_before shapes (begin_of shapes i + place)) named.0 (label_at_number 0 shapes i s place x named.0 of at named.1 port) in
      let a : found.port.component.0 ≡ named.0.component = ap (λ (l : Label). l.component) found.same in
      let b : named.0.component ≡ 0 + i = is_label.component in
      record {
        port = found.port;
        at = found.at;
        component = omega (arith, a, b);
        reference = ap (λ (l : Label). l.reference) found.same ∙ is_label.reference;
      }

  pub made_at : (p : ℕ) (port : Port) → slice_get ports p ≡ Some port → IsMade shapes table port
  made_at p port at = all_at (IsMade shapes table) ports p port made at

  -- a port stands at its number
  pub place_of : (p : ℕ) (port : Port) (at : slice_get ports p ≡ Some port) (place : ℕ) (m : IsPortOf shapes table port.component.0 place port) → p ≡ ports_before shapes (begin_of shapes port.component.0 + place)
  place_of p port at place m =
      let found : Found port.component.0 place m.variable = port_found port.component.0 m.shape place m.variable m.of m.at m.is in
      shapes_apart shapes given.sound p (ports_before shapes (begin_of shapes port.component.0 + place)) (label_of port) (label_of found.port)
      (label_is p port at) (label_is (ports_before shapes (begin_of shapes port.component.0 + place)) found.port found.at)
      (record { component = sym found.component; reference = m.reference ∙ sym found.reference })

  pub under : (i r : ℕ) (q : PortId) → IsPortUnder shapes i r q → IsSomeAnd (slice_get ports q.0) (λ (port : Port). (port.component.0 ≡ i) × (port.reference ≡ r))
  under i r q u =
      let number = numbered_port shapes (begin_of shapes i + u.place) u.variable q u.is in
      let found : Found i u.place u.variable = port_found i u.shape u.place u.variable u.of u.at number.0 in
      some_at (slice_get ports q.0) (λ (port : Port). (port.component.0 ≡ i) × (port.reference ≡ r)) found.port (ap (slice_get ports) number.1 ∙ found.at) (found.component, found.reference ∙ u.under)

  -- the shape and the variable of a port
  own_variable : (port : Port) (place : ℕ) (m : IsPortOf shapes table port.component.0 place port) → variable_at m.shape.variables port.reference ≡ Some m.variable
  own_variable port place m =
      ap (variable_at m.shape.variables) m.reference
      ∙ found_under (λ (v : Variable). v.reference) m.shape.variables place m.variable (all_at IsSoundShape shapes port.component.0 m.shape given.sound m.of).variables.distinct m.at

  -- ---- sound ports

  module _ (components : List Component) (are : AreComponentsOf t.components shapes components) where
    own_shape : (port : Port) (place : ℕ) (m : IsPortOf shapes table port.component.0 place port) (component : Component) → slice_get components port.component.0 ≡ Some component → m.shape ≡ component.shape
    own_shape port place m component of = same_Some _ _ (sym m.of ∙ (are.each port.component.0 component of).shape)

    same_variable : (port : Port) (place : ℕ) (m : IsPortOf shapes table port.component.0 place port) (component : Component) (x : Variable) → slice_get components port.component.0 ≡ Some component
        → variable_at component.shape.variables port.reference ≡ Some x → m.variable ≡ x
    same_variable port place m component x of there =
        same_Some _ _ (sym (own_variable port place m) ∙ ap (λ (s : Shape). variable_at s.variables port.reference) (own_shape port place m component of) ∙ there)

    pub sound_ports : map (λ (c : Component). c.shape) components ≡ shapes → count_by is_port (all_variables shapes) ≤ 65536 → HasSoundPorts (unordered components ports)
    sound_ports shapes_are few =
        let len : length ports ≡ count_by is_port (all_variables shapes) = sym (length-map ports label_of) ∙ ap length labels ∙ length_labels 0 shapes in
        record {
          few = omega (arith, len, few);
          numbered = labels ∙ sym (labels_by_components 0 components ∙ ap (labels_in 0) shapes_are);
          roles = λ p port component x is_port.
              let m = made_at p port is_port.at in
              subst (λ (s : Shape). IsRole s x port.role) (own_shape port m.0 m.1 component is_port.of)
              (subst (λ (v : Variable). IsRole m.1.shape v port.role) (same_variable port m.0 m.1 component x is_port.of is_port.there) m.1.role);
          clocks = λ p port component x is_port.
              let m = made_at p port is_port.at in
              zip_map (IsPortUnder shapes port.component.0) (IsUnder (unordered components ports) port.component.0) (λ r q u. under port.component.0 r q u) x.clocks port.clocks
              (subst (λ (v : Variable). AllZip (IsPortUnder shapes port.component.0) v.clocks port.clocks) (same_variable port m.0 m.1 component x is_port.of is_port.there) m.1.clocks);
        }

  -- ---- feeds

  number_of_port : (port : Port) (place : ℕ) (m : IsPortOf shapes table port.component.0 place port) → IsNumberOf shapes (begin_of shapes port.component.0 + place) (point_of_port port)
  number_of_port port place m = record {
    component = port.component.0;
    place = place;
    shape = m.shape;
    variable = m.variable;
    of = m.of;
    at = m.at;
    number = refl;
    point = ap (OfComponent port.component.0) m.reference;
  }

  fed_by : (p : ℕ) (target : Port) (feed : Feed) → slice_get ports p ≡ Some target → feed_of target.role ≡ Some feed
      → IsSomeAnd (slice_get ports feed.from.0) (λ (source : Port). Feeds t shapes (point_of_port source) feed.changes (point_of_port target))
  fed_by p target feed at source =
      let m = made_at p target at in
      let n = begin_of shapes target.component.0 + m.0 in
      let fed : at_number table.feeds n ≡ Some feed = m.1.fed ∙ source_feed m.1.shape m.1.variable m.1.feed target.role feed m.1.source source in
      let from = is.feeds.none n feed fed in
      let y = element_there (all_variables shapes) from.0 (omega (arith, slice_get_within table.numbers.items from.0 (Some feed.from) from.1, is.numbers.len)) in
      let is_number = numbered_port shapes from.0 y.0 feed.from (same_Some _ _ (sym (is.numbers.each from.0 y.0 y.1) ∙ from.1)) in
      let stands : Numbered shapes from.0 y.0 = numbered shapes from.0 y.0 y.1 in
      let found : Found stands.component stands.place y.0 = port_found stands.component stands.shape stands.place y.0 stands.of stands.at is_number.0 in
      let number : IsNumberOf shapes from.0 (point_of_port found.port) = record {
        component = stands.component;
        place = stands.place;
        shape = stands.shape;
        variable = y.0;
        of = stands.of;
        at = stands.at;
        number = stands.number;
        point = ap (λ k. OfComponent k found.port.reference) found.component ∙ ap (OfComponent stands.component) found.reference;
      } in
      let feeds = (is.feeds.each from.0 n (point_of_port found.port) (point_of_port target) feed number (number_of_port target m.0 m.1) from.1).0 fed in
      let from_is : feed.from.0 ≡ ports_before shapes (begin_of shapes stands.component + stands.place) = is_number.1 ∙ ap (ports_before shapes) stands.number in
      let there : slice_get ports feed.from.0 ≡ Some found.port = ap (slice_get ports) from_is ∙ found.at in
      some_at (slice_get ports feed.from.0) (λ (source : Port). Feeds t shapes (point_of_port source) feed.changes (point_of_port target)) found.port there feeds

  feeds_it : IsFitting t shapes → (p : ℕ) (target : Port) (feed : Feed) → slice_get ports p ≡ Some target
      → IsSomeAnd (slice_get ports feed.from.0) (λ (source : Port). Feeds t shapes (point_of_port source) feed.changes (point_of_port target)) → feed_of target.role ≡ Some feed
  feeds_it fitting p target feed at some =
      let source = some_of (slice_get ports feed.from.0) (λ (source : Port). Feeds t shapes (point_of_port source) feed.changes (point_of_port target)) some in
      let feeds : Feeds t shapes (point_of_port source.0) feed.changes (point_of_port target) = source.2 in
      let m = made_at p target at in
      let o = made_at feed.from.0 source.0 source.1 in
      let k = begin_of shapes source.0.component.0 + o.0 in
      let n = begin_of shapes target.component.0 + m.0 in
      let there = variable_at_number shapes source.0.component.0 o.1.shape o.0 o.1.variable o.1.of o.1.at in
      let here : as_port (ports_before shapes k) ≡ feed.from = ap as_port (sym (place_of feed.from.0 source.0 source.1 o.0 o.1)) in
      let number : slice_get table.numbers.items k ≡ Some (Some feed.from) =
      is.numbers.each k o.1.variable there ∙ ap Some (port_numbered shapes k o.1.variable o.1.is) ∙ ap (λ (z : PortId). Some (Some z)) here in
      let fed = (is.feeds.each k n (point_of_port source.0) (point_of_port target) feed (number_of_port source.0 o.0 o.1) (number_of_port target m.0 m.1) number).1 feeds in
      let feed_is : m.1.feed ≡ Some feed = sym m.1.fed ∙ fed in
      let own : variable_at_point shapes (point_of_port target) ≡ Some m.1.variable =
      ap (option_and_then (λ (s : Shape). variable_at s.variables target.reference)) m.1.of ∙ own_variable target m.0 m.1 in
      let input : m.1.variable.causality ≡ c.Input = ap (λ (v : Variable). v.causality) (same_Some _ _ (sym own ∙ feeds.to.0)) ∙ feeds.to.1 in
      feed_source m.1.shape m.1.variable m.1.feed target.role feed m.1.role m.1.source input
      (λ timed. unfed_clock t shapes fitting (point_of_port source.0) feed.changes target.component.0 target.reference feeds m.1.shape m.1.of
      (subst (λ r. IsSomeAnd (timing_at m.1.shape.clocks r) (λ (clock : ClockTiming). clock.variability ≡ Triggered → ⊥)) (sym m.1.reference) timed)) feed_is

  pub has_feeds : IsFitting t shapes → HasFeeds t shapes ports
  has_feeds fitting = λ p target feed at. (fed_by p target feed at, feeds_it fitting p target feed at)
