-- Trees that are the same but for the numbers of elements are flattened alike.
use Rattle.std.proofs.Common.{◌≡◌, ◌∙◌, inl, inr, ℕ, Bool, true, false, cond, not, is_some, List, [], ◌∷◌, map, filter, length, Option, Some, refl, sym, ap, subst, get_or, slice_get}
use Rattle.std.specs.Prelude.{IsSomeAnd}
use Rattle.std.specs.List.{cons_option}
use Rattle.std.proofs.lemmas.List.{length-map}
use Rattle.value_types.specs.declared.joint.Class.{Class}
use Rattle.value_types.specs.declared.shape.Shape.{Shape}
use Rattle.value_types.specs.declared.shape.Variable.{Variable}
use Rattle.doc_tree.specs.declared.rule.FlatteningRule.{FlatteningRule}
use Rattle.doc_tree.specs.declared.rule.FlatteningRule.TheVariants as f
use Rattle.doc_tree.specs.declared.rule.Rule.{Rule}
use Rattle.doc_tree.specs.declared.rule.Rule.TheVariants.{Document, Description, System as OfSystem, Nesting, Flattening, Loop, SavesNoState, TooManyPorts, Parameters, CannotBeHeld}
use Rattle.parameter_values.specs.declared.change.Change.{Change}
use Rattle.system_model.specs.declared.system.Component.{Component}
use Rattle.system_model.specs.declared.system.Port.{Port}
use Rattle.system_model.specs.declared.system.System.{System}
use Rattle.ssd_tree.specs.declared.tree.ComponentPart.{ComponentPart}
use Rattle.ssd_tree.specs.declared.tree.Connection.{Connection}
use Rattle.ssd_tree.specs.declared.tree.Connector.{Connector}
use Rattle.ssd_tree.specs.declared.tree.ConnectorKind.{ConnectorKind}
use Rattle.ssd_tree.specs.declared.tree.Owner.{Owner}
use Rattle.ssd_tree.specs.declared.tree.SystemTree.{SystemTree}
use Rattle.ssd_tree.specs.declared.tree.TypeChild.{TypeChild}
use Rattle.flatten.specs.Flat.{AreComponentsOf, Flattens, IsComponentOf, point_of_port, source_at}
use Rattle.flatten.specs.Paths.{EndsBy, Feeds, IsBefore, IsOn, Joins, JoinsBy, Leads, LeadsBy, LeadsOnTo, LeadsUpTo, changes_along, plain}
use Rattle.flatten.specs.Points.{IsOfSystem, Itself, OfComponent, Point, is_of_system, named_by, point_for, point_of, variable_of}
use Rattle.flatten.specs.Rules.{Breaks, EndsPath, GivesOther, HasNoSavedState, HasOtherCausality, HasOtherType, HasTooManyPorts, IsFitting, IsForOther, IsOfConnector, IsOtherClass, IsTimeBased, IsTooWide, NamesNoVariable, PassesOther, PathFault, RepeatsEnd, ViolatesFlattening, class_at, end_at}
use Rattle.inlined_answers.specs.Alike.{plain_component, plain_connection, plain_connector, without_numbers}
use Rattle.inlined_answers.proofs.ListLemmas.{found_alike, held_there, leads_along, mapped_at, read_alike, some_then, some_there, there}

-- ---- connections without a transformation

abbrev has_none : Connection → Bool
has_none k = not (is_some k.change)

kept_alike : (b : Bool) (k : Connection) (ks ms : List Connection) → map plain_connection ks ≡ ms → map plain_connection (cond b (k ∷ ks) ks) ≡ cond b (plain_connection k ∷ ms) ms
kept_alike true k ks ms e = ap (λ (zs : List Connection). plain_connection k ∷ zs) e
kept_alike false k ks ms e = e

kept_plain : (ks : List Connection) → map plain_connection (filter has_none ks) ≡ filter has_none (map plain_connection ks)
kept_plain [] = refl
kept_plain (k ∷ ks) = kept_alike (has_none k) k (filter has_none ks) (filter has_none (map plain_connection ks)) (kept_plain ks)

plain_same : (t u : SystemTree) → without_numbers t ≡ without_numbers u → without_numbers (plain t) ≡ without_numbers (plain u)
plain_same t u same =
    ap (λ (ks : List Connection). record (without_numbers t) { connections = ks }) (kept_plain t.connections)
    ∙ ap (λ (x : SystemTree). record x { connections = filter has_none x.connections }) same
    ∙ ap (λ (ks : List Connection). record (without_numbers u) { connections = ks }) (sym (kept_plain u.connections))

change_first : (k m : Connection) (ks ms : List Connection) → k.change ≡ m.change → changes_along ks ≡ changes_along ms → changes_along (k ∷ ks) ≡ changes_along (m ∷ ms)
change_first k m ks ms e f = ap (λ (o : Option Change). cons_option o (changes_along ks)) e ∙ ap (cons_option m.change) f

onward : (u : SystemTree) (shapes : List Shape) (m : Connection) (p s q : Point) (ms : List Connection) → JoinsBy u shapes m p s → IsOfSystem u s → LeadsBy u shapes s ms q → LeadsBy u shapes p (m ∷ ms) q
onward u shapes m p s q [] joins through h = absurd h
onward u shapes m p s q (l ∷ ls) joins through h = (s, joins, through, h)

-- a path with the changes of another
record IsAlong (u : SystemTree) (shapes : List Shape) (p : Point) (ks : List Connection) (q : Point) : Type 0 where
  pub path : List Connection
  pub leads : LeadsBy u shapes p path q
  pub makes : changes_along ks ≡ changes_along path

module _ (t u : SystemTree) (same : without_numbers t ≡ without_numbers u) (shapes : List Shape) where
  components_same : map plain_component t.components ≡ map plain_component u.components
  components_same = ap (λ (x : SystemTree). x.components) same

  connectors_same : map plain_connector t.connectors ≡ map plain_connector u.connectors
  connectors_same = ap (λ (x : SystemTree). x.connectors) same

  connections_same : map plain_connection t.connections ≡ map plain_connection u.connections
  connections_same = ap (λ (x : SystemTree). x.connections) same

  connector_there : (c : ℕ) (k : Connector) → slice_get t.connectors c ≡ Some k → (m : Connector) × (slice_get u.connectors c ≡ Some m) × (plain_connector k ≡ plain_connector m)
  connector_there = there plain_connector t.connectors u.connectors connectors_same

  component_there : (i : ℕ) (c : ComponentPart) → slice_get t.components i ≡ Some c → (d : ComponentPart) × (slice_get u.components i ≡ Some d) × (plain_component c ≡ plain_component d)
  component_there = there plain_component t.components u.components components_same

  connection_there : (i : ℕ) (k : Connection) → slice_get t.connections i ≡ Some k → (m : Connection) × (slice_get u.connections i ≡ Some m) × (plain_connection k ≡ plain_connection m)
  connection_there = there plain_connection t.connections u.connections connections_same

  -- ---- what connectors stand for

  variables_same : (c : ℕ) → variable_of t shapes c ≡ variable_of u shapes c
  variables_same c =
      let named : Connector → Option Variable = λ k. named_by shapes k.owner k.name in
      found_alike plain_connector named named (λ a b e. ap named e) (slice_get t.connectors c) (slice_get u.connectors c) (mapped_at plain_connector t.connectors u.connectors connectors_same c)

  points_same : (c : ℕ) → point_of t shapes c ≡ point_of u shapes c
  points_same c =
      let point : Connector → Point = λ k. point_for c k.owner (named_by shapes k.owner k.name) in
      read_alike plain_connector point point (λ a b e. ap point e) (slice_get t.connectors c) (slice_get u.connectors c) (mapped_at plain_connector t.connectors u.connectors connectors_same c)

  of_system : (p : Point) → IsOfSystem t p → IsOfSystem u p
  of_system (OfComponent component reference) h = h
  of_system (Itself c) h =
      let IsSystems : Connector → Type 0 = λ k. is_of_system k.owner ≡ true in
      some_there plain_connector IsSystems IsSystems (λ a b e held. subst IsSystems e held) (slice_get t.connectors c) (slice_get u.connectors c)
      (mapped_at plain_connector t.connectors u.connectors connectors_same c) h

  -- ---- paths

  joins_by : (k : Connection) (p q : Point) → JoinsBy t shapes k p q → (m : Connection) × JoinsBy u shapes m p q × (k.change ≡ m.change)
  joins_by k p q j =
      let m = held_there plain_connection t.connections u.connections connections_same k j.is in
      let start_is : m.0.start ≡ k.start = sym (ap (λ (x : Connection). x.start) m.2) in
      let end_is : m.0.end ≡ k.end = sym (ap (λ (x : Connection). x.end) m.2) in (
        m.0,
        record {
          is = m.1;
          start = ap (point_of u shapes) start_is ∙ (sym (points_same k.start) ∙ j.start);
          end = ap (point_of u shapes) end_is ∙ (sym (points_same k.end) ∙ j.end);
        },
        ap (λ (x : Connection). x.change) m.2,
      )

  joins : (p q : Point) → Joins t shapes p q → Joins u shapes p q
  joins p q j = let m = joins_by j.0 p q j.1 in (m.0, m.1)

  leads : (p q : Point) → Leads t shapes p q → Leads u shapes p q
  leads p q l = record {
    between = l.between;
    through = λ k d below. of_system (get_or l.between k d) (l.through k d below);
    leads = leads_along (Joins t shapes) (Joins u shapes) joins p l.between q l.leads;
  }

  leads_up_to : (p s : Point) → LeadsUpTo t shapes p s → LeadsUpTo u shapes p s
  leads_up_to p s h = elim h [ inl e ↦ inl e | inr l ↦ inr (of_system s l.0, leads p s l.1) ]

  leads_onto : (e q : Point) → LeadsOnTo t shapes e q → LeadsOnTo u shapes e q
  leads_onto e q h = elim h [ inl same ↦ inl same | inr l ↦ inr (of_system e l.0, leads e q l.1) ]

  along : (p : Point) (ks : List Connection) (q : Point) → LeadsBy t shapes p ks q → IsAlong u shapes p ks q
  along p [] q h = absurd h
  along p (k ∷ []) q h = let m = joins_by k p q h in record { path = m.0 ∷ []; leads = m.1; makes = change_first k m.0 [] [] m.2 refl }
  along p (k ∷ (l ∷ ks)) q h =
      let m = joins_by k p h.0 h.1 in
      let more = along h.0 (l ∷ ks) q h.3 in
      record {
        path = m.0 ∷ more.path;
        leads = onward u shapes m.0 p h.0 q more.path m.1 (of_system h.0 h.2) more.leads;
        makes = change_first k m.0 (l ∷ ks) more.path m.2 more.makes;
      }

  feeds : (p : Point) (changes : List Change) (q : Point) → Feeds t shapes p changes q → Feeds u shapes p changes q
  feeds p changes q x =
      let a = along p x.path q x.leads in
      record { output = x.output; input = x.input; from = x.from; to = x.to; path = a.path; leads = a.leads; makes = x.makes ∙ a.makes }

  ends_by : (k : Connection) (p s q : Point) (output input : Variable) → EndsBy t shapes k p s q output input → (m : Connection) × EndsBy u shapes m p s q output input
  ends_by k p s q output input x =
      let last = joins_by k s q x.last in
      (last.0, record { from = x.from; to = x.to; up_to = leads_up_to p s x.up_to; last = last.1 })

  is_on : (p s : Point) (c : ℕ) → IsOn t shapes p s c → IsOn u shapes p s c
  is_on p s c h = (of_system (Itself c) h.0, leads p (Itself c) h.1, leads_up_to (Itself c) s h.2)

  -- ---- rules

  no_variable : (node : ℕ) → NamesNoVariable t shapes node → (other : ℕ) × NamesNoVariable u shapes other
  no_variable node h =
      let c = h.0 in
      let m = connector_there c h.1.0 h.1.1.0 in
      (m.0.node, (c, (m.0, (m.1, refl), subst (λ (o : Owner). is_of_system o ≡ false) (ap (λ (k : Connector). k.owner) m.2) h.1.2, sym (variables_same c) ∙ h.1.3)))

  of_connector : (R : Connector → Variable → Type 0) → ((k m : Connector) (x : Variable) → plain_connector k ≡ plain_connector m → R k x → R m x) → (node : ℕ) → IsOfConnector R t shapes node →
      (other : ℕ) × IsOfConnector R u shapes other
  of_connector R keeps node h =
      let c = h.0 in
      let k = h.1.0 in
      let x = h.1.1.0 in
      let m = connector_there c k h.1.1.1.0 in
      (m.0.node, (c, (m.0, (x, (m.1, refl), sym (variables_same c) ∙ h.1.1.2, keeps k m.0 x m.2 h.1.1.3))))

  other_causality : (k m : Connector) (x : Variable) → plain_connector k ≡ plain_connector m → HasOtherCausality k x → HasOtherCausality m x
  other_causality k m x e h = subst (λ (kind : ConnectorKind). IsForOther kind x.causality) (ap (λ (y : Connector). y.kind) e) h

  gives_other : (k m : Connector) (wanted : Option Class) → plain_connector k ≡ plain_connector m → GivesOther k.child wanted → GivesOther m.child wanted
  gives_other k m wanted e h = subst (λ (child : Option TypeChild). GivesOther child wanted) (ap (λ (y : Connector). y.child) e) h

  other_type : (k m : Connector) (x : Variable) → plain_connector k ≡ plain_connector m → HasOtherType k x → HasOtherType m x
  other_type k m x e h = (h.0, gives_other k m (class_at x) e h.1)

  ends_path : (Fault Another : PathFault) → ((p s q : Point) (output input : Variable) → Fault p s q output input → Another p s q output input) → (node : ℕ) → EndsPath Fault t shapes node →
      (other : ℕ) × EndsPath Another u shapes other
  ends_path Fault Another keeps node h =
      let p = h.2.0 in
      let s = h.2.1.0 in
      let q = h.2.1.1.0 in
      let output = h.2.1.1.1.0 in
      let input = h.2.1.1.1.1.0 in
      let m = ends_by h.0 p s q output input h.2.1.1.1.1.1 in
      (m.0.node, (m.0, refl, (p, (s, (q, (output, (input, m.1, keeps p s q output input h.2.1.1.1.1.2)))))))

  passes_other : (p s : Point) (wanted : Option Class) → PassesOther t shapes p s wanted → PassesOther u shapes p s wanted
  passes_other p s wanted h =
      let c = h.0 in
      let m = connector_there c h.1.0 h.1.2 in
      (c, (m.0, is_on p s c h.1.1, m.1, gives_other h.1.0 m.0 wanted m.2 h.1.3))

  other_class : (p s q : Point) (output input : Variable) → IsOtherClass t shapes p s q output input → IsOtherClass u shapes p s q output input
  other_class p s q output input h = elim h [
    | inl none ↦ inl none
    | inr (inl apart) ↦ inr (inl apart)
    | inr (inr passes) ↦ inr (inr (passes_other p s (class_at input) passes))
  ]

  ends_same : (i : ℕ) → end_at t shapes i ≡ end_at u shapes i
  ends_same i =
      found_alike plain_connection (λ (k : Connection). point_of t shapes k.end) (λ (k : Connection). point_of u shapes k.end)
      (λ a b e. points_same a.end ∙ ap (λ (k : Connection). point_of u shapes k.end) e) (slice_get t.connections i) (slice_get u.connections i)
      (mapped_at plain_connection t.connections u.connections connections_same i)

  repeats_end : (node : ℕ) → RepeatsEnd t shapes node → (other : ℕ) × RepeatsEnd u shapes other
  repeats_end node h =
      let i = h.0 in
      let m = connection_there i h.1.0 h.1.1 in
      let twice = h.1.3 in
      let before = twice.2 in
      (m.0.node, (i, (m.0, m.1, refl, (twice.0, sym (ends_same i) ∙ twice.1, (before.0, before.1, sym (ends_same before.0) ∙ before.2)))))

  too_many_ports : (node : ℕ) → HasTooManyPorts t shapes node → (other : ℕ) × HasTooManyPorts u shapes other
  too_many_ports node h =
      let d = component_there h.0 h.1.0 h.1.1 in
      (d.0.node, (h.0, (d.0, d.1, refl, h.1.3)))

  no_saved_state : (node : ℕ) → HasNoSavedState t shapes node → (other : ℕ) × HasNoSavedState u shapes other
  no_saved_state node h =
      let d = component_there h.0 h.1.0 h.1.1 in
      (d.0.node, (h.0, (d.0, d.1, refl, h.1.3)))

  other_change : (node : ℕ) → Breaks t shapes f.OtherChange node → (other : ℕ) × Breaks u shapes f.OtherChange other
  other_change node h =
      let b = h.3.2.1 in
      let m = joins_by h.0 b.s b.e b.is in
      let before : IsBefore u shapes m.0 h.3.2.0 = record {
        output = b.output;
        p = b.p;
        s = b.s;
        e = b.e;
        q = b.q;
        from = b.from;
        up_to = leads_up_to b.p b.s b.up_to;
        is = m.1;
        on = leads_onto b.e b.q b.on;
        to = b.to;
      } in
      (m.0.node, (m.0, m.1.is, refl, (h.3.0, sym m.2 ∙ h.3.1, (h.3.2.0, before, h.3.2.2))))

  -- ---- the flattened system

  pub feeds_some : (port : Option Port) (changes : List Change) (target : Port) → IsSomeAnd port (λ (source : Port). Feeds t shapes (point_of_port source) changes (point_of_port target)) →
      IsSomeAnd port (λ (source : Port). Feeds u shapes (point_of_port source) changes (point_of_port target))
  feeds_some port changes target h =
      some_then (λ (source : Port). Feeds t shapes (point_of_port source) changes (point_of_port target)) (λ (source : Port). Feeds u shapes (point_of_port source) changes (point_of_port target))
      (λ source x. feeds (point_of_port source) changes (point_of_port target) x) port h

  sources_same : (i : ℕ) → source_at t.components i ≡ source_at u.components i
  sources_same i =
      let source : ComponentPart → List ℕ = λ c. c.source in
      read_alike plain_component source source (λ a b e. ap source e) (slice_get t.components i) (slice_get u.components i) (mapped_at plain_component t.components u.components components_same i)

  component_of : (i : ℕ) (c : Component) → IsComponentOf t.components shapes i c → IsComponentOf u.components shapes i c
  component_of i c h =
      let d = component_there i h.part h.at in
      let source_is : h.part.source ≡ d.0.source = ap (λ (x : ComponentPart). x.source) d.2 in record {
        part = d.0;
        at = d.1;
        name = h.name ∙ ap (λ (x : ComponentPart). x.name) d.2;
        source = (
          sym (sources_same c.source.0) ∙ (h.source.0 ∙ ap (λ (x : List ℕ). Some x) source_is),
          λ j below is. h.source.1 j below (sources_same j ∙ (is ∙ ap (λ (x : List ℕ). Some x) (sym source_is))),
        );
        shape = h.shape;
      }

  lengths_same : length t.components ≡ length u.components
  lengths_same = sym (length-map t.components plain_component) ∙ (ap length components_same ∙ length-map u.components plain_component)

  pub components_of : (components : List Component) → AreComponentsOf t.components shapes components → AreComponentsOf u.components shapes components
  components_of components h = record {
    len = h.len ∙ lengths_same;
    each = λ i c is. component_of i c (h.each i c is);
  }

-- ---- the rules of both

breaks : (t u : SystemTree) → without_numbers t ≡ without_numbers u → (shapes : List Shape) (rule : FlatteningRule) (node : ℕ) → Breaks t shapes rule node → (other : ℕ) × Breaks u shapes rule other
breaks t u same shapes f.NoSuchVariable node h = no_variable t u same shapes node h
breaks t u same shapes f.OtherCausality node h = of_connector t u same shapes HasOtherCausality (other_causality t u same shapes) node h
breaks t u same shapes f.OtherClass node h = elim h [
  | inl at ↦ let o = of_connector t u same shapes HasOtherType (other_type t u same shapes) node at in (o.0, inl o.1)
  | inr ends ↦ let o = ends_path t u same shapes (IsOtherClass t shapes) (IsOtherClass u shapes) (other_class t u same shapes) node ends in (o.0, inr o.1)
]
breaks t u same shapes f.EndTwice node h = repeats_end t u same shapes node h
breaks t u same shapes f.TooWide node h = ends_path (plain t) (plain u) (plain_same t u same) shapes IsTooWide IsTooWide (λ p s q output input fault. fault) node h
breaks t u same shapes f.FedClock node h = ends_path t u same shapes (IsTimeBased shapes) (IsTimeBased shapes) (λ p s q output input fault. fault) node h
breaks t u same shapes f.OtherChange node h = other_change t u same shapes node h

violates : (t u : SystemTree) → without_numbers t ≡ without_numbers u → (shapes : List Shape) (rule : Rule) (node : ℕ) → ViolatesFlattening t shapes rule node → (other : ℕ) × ViolatesFlattening u shapes rule other
violates t u same shapes (Document rule) node h = absurd h
violates t u same shapes (Description rule) node h = absurd h
violates t u same shapes (OfSystem rule) node h = absurd h
violates t u same shapes (Nesting rule) node h = absurd h
violates t u same shapes (Flattening rule) node h = breaks t u same shapes rule node h
violates t u same shapes Loop node h = absurd h
violates t u same shapes SavesNoState node h = no_saved_state t u same shapes node h
violates t u same shapes TooManyPorts node h = too_many_ports t u same shapes node h
violates t u same shapes (Parameters rule) node h = absurd h
violates t u same shapes CannotBeHeld node h = absurd h

-- no element of the one breaks a rule, where none of the other does
pub fits_too : (t u : SystemTree) → without_numbers t ≡ without_numbers u → (shapes : List Shape) → IsFitting t shapes → IsFitting u shapes
fits_too t u same shapes fits rule node h = let v = violates u t (sym same) shapes rule node h in fits rule v.0 v.1

pub flattens_too : (t u : SystemTree) → without_numbers t ≡ without_numbers u → (shapes : List Shape) (system : System) → Flattens t shapes system → Flattens u shapes system
flattens_too t u same shapes system h = record {
  flat = record {
    components = components_of t u same shapes system.components h.flat.components;
    ports = h.flat.ports;
    feeds = λ p target feed is. let both = h.flat.feeds p target feed is in (
      λ fed. feeds_some t u same shapes (slice_get system.ports feed.from.0) feed.changes target (both.0 fed),
      λ x. both.1 (feeds_some u t (sym same) shapes (slice_get system.ports feed.from.0) feed.changes target x),
    );
  };
  orders = h.orders;
}
