-- The needs that are gathered are those of the system.
use Rattle.std.proofs.Common.{◌≡◌, ◌⊎◌, ℕ, zero, suc, ◌<◌, Bool, true, false, List, [], ◌∷◌, length, map, get_or, Option, Some, None, inl, inr, refl, sym, ap, ◌∙◌, subst, arith}
use Rattle.std.specs.Prelude.{◌&&◌, ◌==◌, IfSome, IsSomeAnd, if◌then◌else◌, unwrap_or}
use Rattle.std.specs.List.{Contains, All, list_any, slice_get}
use Rattle.std.specs.Option.{option_and_then, option_map, option_map_or}
use Rattle.std.proofs.lemmas.Bool.{eqb-true, eq-eqb, false≢true}
use Rattle.std.proofs.lemmas.List.Elements.{All-contains, All-map}
use Rattle.std.proofs.lemmas.List.{length-map}
use Rattle.std.proofs.lemmas.List.Folds.{Any-from_list_any, list_any_at}
use Rattle.std.proofs.lemmas.Option.{same_Some, none-some as none_some, slice_get-map, slice_get_within, unwrap_or-slice_get}
use Rattle.value_types.proofs.CallerLemmas.{find_missing, find_placed, placed_within}
use Rattle.value_types.specs.Shape.{dependency_at, is_declared, is_input_port, is_known, place_of, variable_at}
use Rattle.value_types.specs.declared.shape.Dependency.{Dependency}
use Rattle.value_types.specs.declared.shape.Knowns.{Knowns}
use Rattle.value_types.specs.declared.shape.Knowns.TheVariants.{AllInputs, Listed}
use Rattle.value_types.specs.declared.shape.Shape.{Shape}
use Rattle.value_types.specs.declared.shape.Variable.{Variable}
use Rattle.sim_base.specs.declared.numbers.PortId.{PortId}
use Rattle.dependency_order.specs.declared.grouped.GroupedNeeds.{GroupedNeeds}
use Rattle.dependency_order.specs.Grouped.{IsGrouped, NeedsGrouped}
use Rattle.dependency_order.specs.Paths.{IsMarked}
use Rattle.dependency_order.proofs.CallerLemmas.{marked_within}
use Rattle.system_model.proofs.CallerLemmas.{all_at, found_at}
use Rattle.system_model.specs.declared.system.Component.{Component}
use Rattle.system_model.specs.declared.system.Port.{Port}
use Rattle.system_model.specs.declared.system.System.{System}
use Rattle.system_model.specs.Needs.{DependsOn, Needs, NeedsInitially, ByFeed, ByClock, ByDependency, InitiallyByFeed, InitiallyByDependency, is_unclocked, is_unclocked_at}
use Rattle.system_model.specs.Ports.{is_output_role, port_numbers, source_of}
use Rattle.port_orders.specs.Gathered.{AreNeeds, IsInputOf, IsNamed, group_in, group_of, has_part, is_input_in, knowns_in, knowns_of, place_in}
use Rattle.port_orders.specs.Placed.{ArePlaced, IsPlaced}
use Rattle.port_orders.specs.Outcome.{unordered}

-- ---- marks

mark_is : {X : Type 0} (f : X → Bool) (xs : List X) (p : ℕ) → get_or (map f xs) p false ≡ unwrap_or (option_map f (slice_get xs p)) false
mark_is f xs p = sym (unwrap_or-slice_get (map f xs) p false) ∙ ap (λ z. unwrap_or z false) (slice_get-map f xs p)

pub marked_at : (initializing : Bool) (ports : List Port) (p : ℕ) (port : Port) → slice_get ports p ≡ Some port → IsMarked (map (has_part initializing) ports) p → has_part initializing port ≡ true
marked_at initializing ports p port at marked = sym (ap (λ z. unwrap_or (option_map (has_part initializing) z) false) at) ∙ sym (mark_is (has_part initializing) ports p) ∙ marked

pub part_marked : (initializing : Bool) (ports : List Port) (p : ℕ) (port : Port) → slice_get ports p ≡ Some port → has_part initializing port ≡ true → IsMarked (map (has_part initializing) ports) p
part_marked initializing ports p port at part = mark_is (has_part initializing) ports p ∙ ap (λ z. unwrap_or (option_map (has_part initializing) z) false) at ∙ part

at_place : {X : Type 0} (xs : List X) (k : ℕ) → k < length xs → (x : X) × (slice_get xs k ≡ Some x)
at_place [] k l = absurd (omega (arith, l))
at_place (x ∷ xs) zero l = (x, refl)
at_place (x ∷ xs) (suc k) l = at_place xs k (omega (arith, l))

-- ---- variables and their places

record Place (variables : List Variable) (reference place : ℕ) : Type 0 where
  variable : Variable
  found : variable_at variables reference ≡ Some variable
  under : variable.reference ≡ reference
  stands : slice_get variables place ≡ Some variable

placed_variable : (variables : List Variable) (reference place : ℕ) → place_of variables reference ≡ Some place → Place variables reference place
placed_variable variables reference place e =
    let l = placed_within (λ (v : Variable). v.reference == reference) variables place e in
    let v = at_place variables place l in
    let f : variable_at variables reference ≡ Some v.0 = find_placed (λ (v : Variable). v.reference == reference) variables place e ∙ v.1 in
    let at = found_at (λ (v : Variable). v.reference) variables reference v.0 f in
    record { variable = v.0; found = f; under = at.under; stands = v.1 }

place_found : (variables : List Variable) (reference : ℕ) (v : Variable) → variable_at variables reference ≡ Some v → (k : ℕ) × (place_of variables reference ≡ Some k)
place_found variables reference v found = by (place_of variables reference) refl
  where
    by : (o : Option ℕ) → place_of variables reference ≡ o → (k : ℕ) × (place_of variables reference ≡ Some k)
    by None e = absurd (none_some v (sym (find_missing (λ (v : Variable). v.reference == reference) variables e) ∙ found))
    by (Some k) e = (k, e)

any_contains : (x : ℕ) (xs : List ℕ) → list_any (λ r. r == x) xs ≡ true → Contains xs x
any_contains x xs e =
    let a = Any-from_list_any (λ r. r == x) xs e in
    subst (Contains xs) (eqb-true a.1 x a.4) (a.0, a.2, a.3)

-- ---- what an output depends on

if_known : (b : Bool) (o : Option Knowns) (kn : Knowns) → (if b then o else None) ≡ Some kn → (b ≡ true) × (o ≡ Some kn)
if_known true o kn e = (refl, e)
if_known false o kn e = absurd (none_some kn e)

both_true : (a b : Bool) → (a && b) ≡ true → (a ≡ true) × (b ≡ true)
both_true true b e = (refl, e)
both_true false b e = absurd (false≢true e)

abbrev listed_of : Shape → Bool → List Dependency
listed_of shape initializing = if initializing then shape.initial_dependencies else shape.dependencies

record Known (components : List Component) (initializing : Bool) (port : Port) (kn : Knowns) : Type 0 where
  component : Component
  of : slice_get components port.component.0 ≡ Some component
  part : has_part initializing port ≡ true
  output : is_output_role port.role ≡ true
  dependency : Dependency
  found : dependency_at (listed_of component.shape initializing) port.reference ≡ Some dependency
  on : dependency.on ≡ kn
  events : initializing ≡ false → component.shape.has_event_mode ≡ true

record Told (shape : Shape) (initializing : Bool) (reference : ℕ) (kn : Knowns) : Type 0 where
  dependency : Dependency
  found : dependency_at (listed_of shape initializing) reference ≡ Some dependency
  on : dependency.on ≡ kn
  events : initializing ≡ false → shape.has_event_mode ≡ true

on_of : (o : Option Dependency) (kn : Knowns) → option_map (λ (d : Dependency). d.on) o ≡ Some kn → (d : Dependency) × ((o ≡ Some d) × (d.on ≡ kn))
on_of None kn e = absurd (none_some kn e)
on_of (Some d) kn e = (d, (refl, same_Some d.on kn e))

told_of : (shape : Shape) (initializing : Bool) (reference : ℕ) (kn : Knowns) → knowns_of shape initializing reference ≡ Some kn → Told shape initializing reference kn
told_of shape true reference kn e =
    let d = on_of (dependency_at shape.initial_dependencies reference) kn e in
    record { dependency = d.0; found = d.1.0; on = d.1.1; events = λ no'. absurd (false≢true (sym no')) }
told_of shape false reference kn e =
    let b = if_known shape.has_event_mode (option_map (λ (d : Dependency). d.on) (dependency_at shape.dependencies reference)) kn e in
    let d = on_of (dependency_at shape.dependencies reference) kn b.1 in
    record { dependency = d.0; found = d.1.0; on = d.1.1; events = λ _. b.0 }

known_of : (components : List Component) (initializing : Bool) (port : Port) (kn : Knowns) → knowns_in components initializing port ≡ Some kn → Known components initializing port kn
known_of components initializing port kn e =
    let b = if_known (has_part initializing port && is_output_role port.role) (option_and_then (λ (c : Component). knowns_of c.shape initializing port.reference) (slice_get components port.component.0)) kn e in
    let t = both_true (has_part initializing port) (is_output_role port.role) b.0 in
    by (slice_get components port.component.0) refl b.1 t
  where
    by : (o : Option Component) → slice_get components port.component.0 ≡ o → option_and_then (λ (c : Component). knowns_of c.shape initializing port.reference) o ≡ Some kn → (has_part initializing port ≡ true) × (is_output_role port.role ≡ true) → Known components initializing port kn
    by None of h t = absurd (none_some kn h)
    by (Some c) of h t =
        let d = told_of c.shape initializing port.reference kn h in
        record { component = c; of = of; part = t.0; output = t.1; dependency = d.dependency; found = d.found; on = d.on; events = d.events }

told_back : (shape : Shape) (initializing : Bool) (reference : ℕ) (d : Dependency) → dependency_at (listed_of shape initializing) reference ≡ Some d → (initializing ≡ false → shape.has_event_mode ≡ true) → knowns_of shape initializing reference ≡ Some d.on
told_back shape true reference d found events = ap (option_map (λ (z : Dependency). z.on)) found
told_back shape false reference d found events =
    ap (λ b. if b then option_map (λ (z : Dependency). z.on) (dependency_at shape.dependencies reference) else None) (events refl) ∙ ap (option_map (λ (z : Dependency). z.on)) found

known_back : (components : List Component) (initializing : Bool) (port : Port) (c : Component) (d : Dependency) → slice_get components port.component.0 ≡ Some c → has_part initializing port ≡ true → is_output_role port.role ≡ true
    → dependency_at (listed_of c.shape initializing) port.reference ≡ Some d → (initializing ≡ false → c.shape.has_event_mode ≡ true) → knowns_in components initializing port ≡ Some d.on
known_back components initializing port c d of part output found events =
    ap (λ b. if b && is_output_role port.role then option_and_then (λ (c : Component). knowns_of c.shape initializing port.reference) (slice_get components port.component.0) else None) part
    ∙ ap (λ b. if b then option_and_then (λ (c : Component). knowns_of c.shape initializing port.reference) (slice_get components port.component.0) else None) output
    ∙ ap (option_and_then (λ (c : Component). knowns_of c.shape initializing port.reference)) of ∙ told_back c.shape initializing port.reference d found events

-- ---- dependencies of the system

module _ (components : List Component) (ports : List Port) (initializing : Bool) where
  depends : (kn : Knowns) (p q : ℕ) (port on : Port) (k : Known components initializing port kn) (v : Variable) → slice_get ports p ≡ Some port → slice_get ports q ≡ Some on → on.component.0 ≡ port.component.0
      → variable_at k.component.shape.variables on.reference ≡ Some v → is_known kn v ≡ true → (d : DependsOn (unordered components ports) initializing p q) × (initializing ≡ false → d.component.shape.has_event_mode ≡ true)
  depends kn p q port on k v at there same found known = (
    record {
      port = port;
      on = on;
      component = k.component;
      at = at;
      there = there;
      of = k.of;
      same = same;
      output = k.output;
      declared = subst (λ z. IsSomeAnd z (λ (w : Variable). is_declared k.component.shape initializing port.reference w ≡ true)) (sym found)
          (ap (λ z. option_map_or (λ (d : Dependency). is_known d.on v) z false) k.found ∙ ap (λ z. is_known z v) k.on ∙ known);
    },
    k.events,
  )

  input_variable : (component : Component) (on : Port) → slice_get components on.component.0 ≡ Some component → is_input_in components on ≡ true → (v : Variable) × ((variable_at component.shape.variables on.reference ≡ Some v) × (is_input_port v ≡ true))
  input_variable component on of input = by (variable_at component.shape.variables on.reference) refl (sym (ap (λ z. option_map_or (λ (c : Component). option_map_or is_input_port (variable_at c.shape.variables on.reference) false) z false) of) ∙ input)
    where
      by : (o : Option Variable) → variable_at component.shape.variables on.reference ≡ o → option_map_or is_input_port o false ≡ true → (v : Variable) × ((variable_at component.shape.variables on.reference ≡ Some v) × (is_input_port v ≡ true))
      by None e h = absurd (false≢true h)
      by (Some v) e h = (v, (e, h))

  -- an input of its component, where it depends on all
  on_input : (p q c : ℕ) (port : Port) → slice_get ports p ≡ Some port → knowns_in components initializing port ≡ Some AllInputs → port.component.0 ≡ c → IsInputOf components ports (map (has_part initializing) ports) c q
      → (d : DependsOn (unordered components ports) initializing p q) × (initializing ≡ false → d.component.shape.has_event_mode ≡ true)
  on_input p q c port at knowns c_is i =
      let k = known_of components initializing port AllInputs knowns in
      let same : i.port.component.0 ≡ port.component.0 = i.of ∙ sym c_is in
      let v = input_variable k.component i.port (ap (slice_get components) same ∙ k.of) i.input in
      depends AllInputs p q port i.port k v.0 at i.at same v.1.0 v.1.1

  -- a port that its list names
  on_named : (p q : ℕ) (port : Port) → slice_get ports p ≡ Some port → IsNamed components ports (map (has_part initializing) ports) initializing port q
      → (d : DependsOn (unordered components ports) initializing p q) × (initializing ≡ false → d.component.shape.has_event_mode ≡ true)
  on_named p q port at n =
      let k = known_of components initializing port (Listed n.on) n.knowns in
      let on = n.there.port in
      let same : on.component.0 ≡ port.component.0 = n.there.of in
      let here : place_of k.component.shape.variables n.reference ≡ Some n.place = sym (ap (option_and_then (λ (c : Component). place_of c.shape.variables n.reference)) k.of) ∙ n.stands in
      let there : place_of k.component.shape.variables on.reference ≡ Some n.place = sym (ap (option_and_then (λ (c : Component). place_of c.shape.variables on.reference)) (ap (slice_get components) same ∙ k.of)) ∙ n.there.stands in
      let a = placed_variable k.component.shape.variables n.reference n.place here in
      let b = placed_variable k.component.shape.variables on.reference n.place there in
      let one : a.variable ≡ b.variable = same_Some a.variable b.variable (sym a.stands ∙ b.stands) in
      let under : n.reference ≡ b.variable.reference = sym a.under ∙ ap (λ (v : Variable). v.reference) one in
      let h = n.listed in
      let known : list_any (λ r. r == b.variable.reference) n.on ≡ true = list_any_at (λ r. r == b.variable.reference) n.on h.0 n.reference h.1 (eq-eqb (get_or n.on h.0 n.reference) b.variable.reference (h.2 ∙ under)) in
      depends (Listed n.on) p q port on k b.variable at n.there.at same b.found known

  -- what the system needs, told as it was gathered
  pub record Needed (p q : ℕ) : Type 0 where
    pub port : Port
    pub at : slice_get ports p ≡ Some port
    pub part : has_part initializing port ≡ true
    pub marked : IsMarked (map (has_part initializing) ports) q
    pub why : (source_of port.role ≡ Some q) ⊎ (((initializing ≡ false) × Contains (port_numbers port.clocks) q)
        ⊎ ((d : DependsOn (unordered components ports) initializing p q) × (initializing ≡ false → d.component.shape.has_event_mode ≡ true)))

  why_told : (p q : ℕ) (port : Port) → slice_get ports p ≡ Some port → (source_of port.role ≡ Some q) ⊎ (((initializing ≡ false) × Contains (port_numbers port.clocks) q) ⊎ IsNamed components ports (map (has_part initializing) ports) initializing port q)
      → (source_of port.role ≡ Some q) ⊎ (((initializing ≡ false) × Contains (port_numbers port.clocks) q) ⊎ ((d : DependsOn (unordered components ports) initializing p q) × (initializing ≡ false → d.component.shape.has_event_mode ≡ true)))
  why_told p q port at (inl e) = inl e
  why_told p q port at (inr (inl e)) = inr (inl e)
  why_told p q port at (inr (inr n)) = inr (inr (on_named p q port at n))

  pub record Grouped (p c : ℕ) : Type 0 where
    pub port : Port
    pub at : slice_get ports p ≡ Some port
    pub knowns : knowns_in components initializing port ≡ Some AllInputs
    pub group : port.component.0 ≡ c

  pub grouped_at : (p c : ℕ) → get_or (map (group_in components initializing) ports) p None ≡ Some c → Grouped p c
  grouped_at p c e = by (slice_get ports p) refl (sym (ap (λ z. unwrap_or z None) (slice_get-map (group_in components initializing) ports p)) ∙ unwrap_or-slice_get (map (group_in components initializing) ports) p None ∙ e)
    where
      of : (port : Port) → slice_get ports p ≡ Some port → (o : Option Knowns) → knowns_in components initializing port ≡ o → group_of port.component.0 o ≡ Some c → Grouped p c
      of port at None k h = absurd (none_some c h)
      of port at (Some AllInputs) k h = record { port = port; at = at; knowns = k; group = same_Some port.component.0 c h }
      of port at (Some (Listed on)) k h = absurd (none_some c h)

      by : (o : Option Port) → slice_get ports p ≡ o → unwrap_or (option_map (group_in components initializing) o) None ≡ Some c → Grouped p c
      by None at h = absurd (none_some c h)
      by (Some port) at h = of port at (knowns_in components initializing port) refl h

  pub needed_of : (n : GroupedNeeds) → AreNeeds components ports (map (has_part initializing) ports) initializing n → (p q : ℕ) → NeedsGrouped n p q → Needed p q
  needed_of n an p q (inl h) =
      let t = (an.listed p q).0 h in
      record { port = t.port; at = t.at; part = marked_at initializing ports p t.port t.at t.part; marked = t.marked; why = why_told p q t.port t.at t.why }
  needed_of n an p q (inr k) =
      let g = grouped_at p k.0 (sym (ap (λ z. get_or z p None) an.group_of) ∙ k.1) in
      let i = ((an.groups.stands k.0 q).0 k.2).1 in
      record { port = g.port; at = g.at; part = (known_of components initializing g.port AllInputs g.knowns).part; marked = i.marked; why = inr (inr (on_input p q k.0 g.port g.at g.knowns g.group i)) }

  -- ---- and back

  pub grouped_dependency : (n : GroupedNeeds) → AreNeeds components ports (map (has_part initializing) ports) initializing n → (p q : ℕ) (d : DependsOn (unordered components ports) initializing p q) → has_part initializing d.port ≡ true
      → IsMarked (map (has_part initializing) ports) q → (initializing ≡ false → d.component.shape.has_event_mode ≡ true) → NeedsGrouped n p q
  grouped_dependency n an p q d part marked events = by_variable (variable_at d.component.shape.variables d.on.reference) refl d.declared
    where
      variables : List Variable
      variables = d.component.shape.variables

      on_of_component : slice_get components d.on.component.0 ≡ Some d.component
      on_of_component = ap (slice_get components) d.same ∙ d.of

      by_knowns : (v : Variable) → variable_at d.component.shape.variables d.on.reference ≡ Some v → (kn : Knowns) → knowns_in components initializing d.port ≡ Some kn → is_known kn v ≡ true → NeedsGrouped n p q
      by_knowns v found AllInputs knowns known =
          let group : get_or (map (group_in components initializing) ports) p None ≡ Some d.port.component.0 =
          sym (unwrap_or-slice_get (map (group_in components initializing) ports) p None) ∙ ap (λ z. unwrap_or z None) (slice_get-map (group_in components initializing) ports p ∙ ap (option_map (group_in components initializing)) d.at) ∙ ap (group_of d.port.component.0) knowns in
          let input : is_input_in components d.on ≡ true =
          ap (λ z. option_map_or (λ (c : Component). option_map_or is_input_port (variable_at c.shape.variables d.on.reference) false) z false) on_of_component ∙ ap (λ z. option_map_or is_input_port z false) found ∙ known in
          inr (d.port.component.0, ap (λ z. get_or z p None) an.group_of ∙ group, (an.groups.stands d.port.component.0 q).1 (slice_get_within ports q d.on d.there, record { port = d.on; at = d.there; of = d.same; marked = marked; input = input }))
      by_knowns v found (Listed on) knowns known =
          let k = place_found d.component.shape.variables d.on.reference v found in
          let under = (found_at (λ (z : Variable). z.reference) d.component.shape.variables d.on.reference v found).under in
          let stands : (port : Port) → slice_get components port.component.0 ≡ Some d.component → place_in components port d.on.reference ≡ Some k.0 =
          λ (port : Port) (of : slice_get components port.component.0 ≡ Some d.component). ap (option_and_then (λ (c : Component). place_of c.shape.variables d.on.reference)) of ∙ k.1 in
          inl ((an.listed p q).1 (record {
            port = d.port;
            at = d.at;
            part = part_marked initializing ports p d.port d.at part;
            marked = marked;
            why = inr (inr (record {
              on = on;
              reference = d.on.reference;
              place = k.0;
              knowns = knowns;
              listed = subst (Contains on) under (any_contains v.reference on known);
              stands = stands d.port d.of;
              there = record { port = d.on; at = d.there; of = d.same; marked = marked; stands = stands d.on on_of_component };
            }));
          }))

      by_dependency : (v : Variable) → variable_at d.component.shape.variables d.on.reference ≡ Some v → (o : Option Dependency) → dependency_at (listed_of d.component.shape initializing) d.port.reference ≡ o → option_map_or (λ (z : Dependency). is_known z.on v) o false ≡ true → NeedsGrouped n p q
      by_dependency v found None e h = absurd (false≢true h)
      by_dependency v found (Some z) e h = by_knowns v found z.on (known_back components initializing d.port d.component z d.of part d.output e events) h

      by_variable : (o : Option Variable) → variable_at d.component.shape.variables d.on.reference ≡ o → IsSomeAnd o (λ (v : Variable). is_declared d.component.shape initializing d.port.reference v ≡ true) → NeedsGrouped n p q
      by_variable None e h = absurd h
      by_variable (Some v) e h = by_dependency v e (dependency_at (listed_of d.component.shape initializing) d.port.reference) refl h

-- ---- instants and Initialization Mode

numbers_below : (count : ℕ) (clocks : List PortId) (q : ℕ) → All (λ (clock : PortId). clock.0 < count) clocks → Contains (port_numbers clocks) q → q < count
numbers_below count clocks q all h = All-contains (λ z. z < count) (port_numbers clocks) q (All-map (λ z. z < count) (λ (clock : PortId). clock.0) clocks all) h

source_below : (count : ℕ) (o : Option ℕ) (q : ℕ) → IfSome o (λ z. z < count) → o ≡ Some q → q < count
source_below count None q h e = absurd (none_some q e)
source_below count (Some z) q h e = subst (λ k. k < count) (same_Some z q e) h

abbrev pub NeedsBy : Bool → System → ℕ → ℕ → Type 0
NeedsBy false system p q = Needs system p q
NeedsBy true system p q = NeedsInitially system p q

abbrev pub IsAmong : Bool → System → ℕ → Type 0
IsAmong false system p = p < length system.ports
IsAmong true system p = is_unclocked_at system.ports p ≡ true

module _ (components : List Component) (ports : List Port) (placed : ArePlaced components ports) where
  placed_at : (p : ℕ) (port : Port) → slice_get ports p ≡ Some port → IsPlaced (length components) (length ports) port
  placed_at p port at = all_at (IsPlaced (length components) (length ports)) ports p port placed.each at

  -- ports that take part
  pub among_of : (initializing : Bool) (p : ℕ) → IsMarked (map (has_part initializing) ports) p → IsAmong initializing (unordered components ports) p
  among_of false p marked = let l = marked_within (map (has_part false) ports) p marked in let n = length-map ports (has_part false) in omega (arith, l, n)
  among_of true p marked = by (slice_get ports p) refl (sym (mark_is (has_part true) ports p) ∙ marked)
    where
      by : (o : Option Port) → slice_get ports p ≡ o → unwrap_or (option_map (has_part true) o) false ≡ true → is_unclocked_at ports p ≡ true
      by None e h = absurd (false≢true h)
      by (Some port) e h = ap (λ z. option_map_or is_unclocked z false) e ∙ h

  pub of_among : (initializing : Bool) (p : ℕ) → IsAmong initializing (unordered components ports) p → IsMarked (map (has_part initializing) ports) p
  of_among false p within = let x = at_place ports p within in part_marked false ports p x.0 x.1 refl
  of_among true p among = by (slice_get ports p) refl among
    where
      by : (o : Option Port) → slice_get ports p ≡ o → option_map_or is_unclocked o false ≡ true → IsMarked (map (has_part true) ports) p
      by None e h = absurd (false≢true h)
      by (Some port) e h = part_marked true ports p port e h

  pub needs_of : (initializing : Bool) (n : GroupedNeeds) → AreNeeds components ports (map (has_part initializing) ports) initializing n → (p q : ℕ) → NeedsGrouped n p q → NeedsBy initializing (unordered components ports) p q
  needs_of false n an p q h = by (needed_of components ports false n an p q h)
    where
      of : (x : Needed components ports false p q) → (source_of x.port.role ≡ Some q) ⊎ (((false ≡ false) × Contains (port_numbers x.port.clocks) q) ⊎ ((d : DependsOn (unordered components ports) false p q) × (false ≡ false → d.component.shape.has_event_mode ≡ true))) → Needs (unordered components ports) p q
      of x (inl e) = ByFeed x.port x.at e
      of x (inr (inl c)) = ByClock x.port x.at c.1
      of x (inr (inr d)) = ByDependency d.0 (d.1 refl)

      by : Needed components ports false p q → Needs (unordered components ports) p q
      by x = of x x.why
  needs_of true n an p q h = by (needed_of components ports true n an p q h)
    where
      of : (x : Needed components ports true p q) → (source_of x.port.role ≡ Some q) ⊎ (((true ≡ false) × Contains (port_numbers x.port.clocks) q) ⊎ ((d : DependsOn (unordered components ports) true p q) × (true ≡ false → d.component.shape.has_event_mode ≡ true))) → NeedsInitially (unordered components ports) p q
      of x (inl e) = InitiallyByFeed (among_of true p (part_marked true ports p x.port x.at x.part)) (among_of true q x.marked) x.port x.at e
      of x (inr (inl c)) = absurd (false≢true (sym c.0))
      of x (inr (inr d)) = InitiallyByDependency (among_of true p (part_marked true ports p x.port x.at x.part)) (among_of true q x.marked) d.0

      by : Needed components ports true p q → NeedsInitially (unordered components ports) p q
      by x = of x x.why

  pub grouped_of : (initializing : Bool) (n : GroupedNeeds) → AreNeeds components ports (map (has_part initializing) ports) initializing n → (p q : ℕ) → NeedsBy initializing (unordered components ports) p q → NeedsGrouped n p q
  grouped_of false n an p q (ByFeed port at e) =
      let w = of_among false q (source_below (length ports) (source_of port.role) q (placed_at p port at).source e) in
      inl ((an.listed p q).1 (record { port = port; at = at; part = part_marked false ports p port at refl; marked = w; why = inl e }))
  grouped_of false n an p q (ByClock port at c) =
      let w = of_among false q (numbers_below (length ports) port.clocks q (placed_at p port at).clocks c) in
      inl ((an.listed p q).1 (record { port = port; at = at; part = part_marked false ports p port at refl; marked = w; why = inr (inl (refl, c)) }))
  grouped_of false n an p q (ByDependency d events) =
      grouped_dependency components ports false n an p q d refl (part_marked false ports q d.on d.there refl) (λ _. events)
  grouped_of true n an p q (InitiallyByFeed u v port at e) =
      inl ((an.listed p q).1 (record { port = port; at = at; part = of_among true p u; marked = of_among true q v; why = inl e }))
  grouped_of true n an p q (InitiallyByDependency u v d) =
      grouped_dependency components ports true n an p q d (marked_at true ports p d.port d.at (of_among true p u)) (of_among true q v) (λ e. absurd (false≢true (sym e)))

  pub is_grouped : (initializing : Bool) (n : GroupedNeeds) → AreNeeds components ports (map (has_part initializing) ports) initializing n → IsGrouped n
  is_grouped initializing n an = record {
    places = ap length an.group_of ∙ length-map ports (group_in components initializing) ∙ sym an.len;
    listed = λ p q h.
        let l = marked_within (map (has_part initializing) ports) q ((an.listed p q).0 h).marked in
        let m = length-map ports (has_part initializing) in
        let k = an.len in
        omega (arith, l, m, k);
    groups = λ c q h. let l = ((an.groups.stands c q).0 h).0 in let k = an.len in omega (arith, l, k);
    named = λ p c e.
        let g = grouped_at components ports initializing p c (sym (ap (λ z. get_or z p None) an.group_of) ∙ e) in
        let w = (placed_at p g.port g.at).component in
        let k = an.groups.len in
        let same = g.group in
        omega (arith, w, k, same);
    few = let a = an.len in let b = an.groups.len in let x = placed.few_ports in let y = placed.few_components in omega (arith, a, b, x, y);
  }
