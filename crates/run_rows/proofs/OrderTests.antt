-- A test of the orders of a system, which computes; and the test of a whole system.
use Rattle.std.proofs.Common.{◌≡◌, ℕ, zero, suc, ◌<◌, Bool, true, false, not, ◌&&◌, ◌||◌, List, [], ◌∷◌, ◌++◌, length, map, refl, sym, ◌∙◌, ap, arith, Contains, nat_lt, nat_le}
use Rattle.std.specs.Prelude.{Option, Some, None, IsSomeAnd, slice_get, ◌==◌}
use Rattle.std.specs.Option.{option_map_or}
use Rattle.std.specs.List.{range_with_len}
use Rattle.std.proofs.lemmas.Bool.{eqb-true, eq-eqb, ltb-true}
use Rattle.std.proofs.lemmas.List.Elements.{All-contains}
use Rattle.std.proofs.lemmas.List.FromFn.{get_or-range_with_len, length-range_with_len}
use Rattle.std.proofs.lemmas.Option.{none-some as none_some, same_Some, slice_get_within}
use Rattle.value_types.specs.Shape.{is_declared, variable_at}
use Rattle.value_types.specs.declared.shape.Variable.{Variable}
use Rattle.system_model.specs.declared.system.Component.{Component}
use Rattle.system_model.specs.declared.system.Port.{Port}
use Rattle.system_model.specs.declared.system.System.{System}
use Rattle.system_model.specs.Ports.{port_numbers, source_of, is_output_role, label_of, labels_from}
use Rattle.system_model.specs.Needs.{DependsOn, Needs, ByFeed, ByClock, ByDependency, NeedsInitially, InitiallyByFeed, InitiallyByDependency, is_unclocked, is_unclocked_at}
use Rattle.system_model.specs.Orders.{IsOrder}
use Rattle.system_model.specs.Sound.{IsSound}
use Rattle.system_model.proofs.CallerLemmas.{IsOrderFrom, order_by}
use Rattle.run_rows.proofs.Tests.{true_false, left, right, implies, implied, holds, parts, every, all_by, if_some}
use Rattle.run_rows.proofs.SystemTests.{component_parts, components_by, is_sound_port, ports_by, is_fed, feeds_by}

-- ---- elements

abbrev is_in : List ℕ → ℕ → Bool
is_in [] q = false
is_in (x ∷ xs) q = (x == q) || is_in xs q

in_by : (xs : List ℕ) (q : ℕ) → is_in xs q ≡ true → Contains xs q
in_by xs q e = let at = place xs e in (at.0, slice_get_within xs at.0 q at.1, Rattle.std.proofs.lemmas.Option.get_or_from_slice_get xs at.0 q q at.1)
  where
    place : (ys : List ℕ) → is_in ys q ≡ true → (k : ℕ) × (slice_get ys k ≡ Some q)
    place [] h = absurd (true_false (sym h))
    place (y ∷ ys) h = (elim (y == q) as (λ b. (y == q) ≡ b → (b || is_in ys q) ≡ true → (k : ℕ) × (slice_get (y ∷ ys) k ≡ Some q)) [
      | true ↦ λ same _. (0, ap Some (eqb-true y q same))
      | false ↦ λ other more. let found = place ys more in (suc found.0, found.1)
    ]) refl h

in_range : (n p : ℕ) → p < n → Contains (range_with_len 0 n) p
in_range n p less =
    let long : length (range_with_len 0 n) ≡ n = length-range_with_len 0 n in
    let at = get_or-range_with_len 0 n p p less in
    (p, omega (arith, long, less), omega (arith, at))

-- ---- dependencies

abbrev declares : System → Bool → Port → Port → Component → Bool
declares system b port on c =
    (on.component.0 == port.component.0) && (is_output_role port.role && option_map_or (is_declared c.shape b port.reference) (variable_at c.shape.variables on.reference) false)

-- whether p depends on q, where both are there
abbrev depends : System → Bool → (Component → Bool) → ℕ → ℕ → Bool
depends system b also p q =
    option_map_or (λ (port : Port). option_map_or (λ (on : Port). option_map_or (λ (c : Component). declares system b port on c && also c) (slice_get system.components port.component.0) false) (slice_get system.ports q) false) (slice_get system.ports p) false

depends_is : (system : System) (b : Bool) (also : Component → Bool) (p q : ℕ) (d : DependsOn system b p q) → also d.component ≡ true → depends system b also p q ≡ true
depends_is system b also p q d also_is =
    ap (λ o. option_map_or (λ (port : Port). option_map_or (λ (on : Port). option_map_or (λ (c : Component). declares system b port on c && also c) (slice_get system.components port.component.0) false) (slice_get system.ports q) false) o false) d.at
    ∙ ap (λ o. option_map_or (λ (on : Port). option_map_or (λ (c : Component). declares system b d.port on c && also c) (slice_get system.components d.port.component.0) false) o false) d.there
    ∙ ap (λ o. option_map_or (λ (c : Component). declares system b d.port d.on c && also c) o false) d.of
    ∙ and (declares system b d.port d.on d.component) (also d.component)
    (and (d.on.component.0 == d.port.component.0) (is_output_role d.port.role && option_map_or (is_declared d.component.shape b d.port.reference) (variable_at d.component.shape.variables d.on.reference) false)
    (eq-eqb d.on.component.0 d.port.component.0 d.same)
    (and (is_output_role d.port.role) (option_map_or (is_declared d.component.shape b d.port.reference) (variable_at d.component.shape.variables d.on.reference) false) d.output
    (declared (variable_at d.component.shape.variables d.on.reference) d.declared)))
    also_is
  where
    and : (x y : Bool) → x ≡ true → y ≡ true → (x && y) ≡ true
    and true y h k = k
    and false y h k = absurd (true_false (sym h))

    declared : (o : Option Variable) → IsSomeAnd o (λ (v : Variable). is_declared d.component.shape b d.port.reference v ≡ true) → option_map_or (is_declared d.component.shape b d.port.reference) o false ≡ true
    declared None h = absurd h
    declared (Some v) h = h

-- ---- what a port needs was taken

abbrev has_source : System → List ℕ → ℕ → Bool
has_source system taken p = if_some (λ (port : Port). if_some (is_in taken) (source_of port.role)) (slice_get system.ports p)

abbrev has_clocks : System → List ℕ → ℕ → Bool
has_clocks system taken p = if_some (λ (port : Port). every (is_in taken) (port_numbers port.clocks)) (slice_get system.ports p)

abbrev has_dependencies : System → Bool → (Component → Bool) → (ℕ → Bool) → List ℕ → ℕ → Bool
has_dependencies system b also among taken p = every (λ q. implies (depends system b also p q && among q) (is_in taken q)) (range_with_len 0 (length system.ports))

source_taken : (system : System) (taken : List ℕ) (p q : ℕ) (port : Port) → has_source system taken p ≡ true → slice_get system.ports p ≡ Some port → source_of port.role ≡ Some q → Contains taken q
source_taken system taken p q port e is from =
    in_by taken q (sym (ap (λ o. if_some (is_in taken) o) from) ∙ sym (ap (λ o. if_some (λ (x : Port). if_some (is_in taken) (source_of x.role)) o) is) ∙ e)

clock_taken : (system : System) (taken : List ℕ) (p q : ℕ) (port : Port) → has_clocks system taken p ≡ true → slice_get system.ports p ≡ Some port → Contains (port_numbers port.clocks) q → Contains taken q
clock_taken system taken p q port e is among =
    in_by taken q (All-contains (λ x. is_in taken x ≡ true) (port_numbers port.clocks) q
    (all_by (is_in taken) (λ x. is_in taken x ≡ true) (λ x h. h) (port_numbers port.clocks) (sym (ap (λ o. if_some (λ (x : Port). every (is_in taken) (port_numbers x.clocks)) o) is) ∙ e)) among)

dependency_taken : (system : System) (b : Bool) (also : Component → Bool) (among : ℕ → Bool) (taken : List ℕ) (p q : ℕ) → has_dependencies system b also among taken p ≡ true → (d : DependsOn system b p q) → also d.component ≡ true → among q ≡ true → Contains taken q
dependency_taken system b also among taken p q e d also_is among_is =
    let test = λ (x : ℕ). implies (depends system b also p x && among x) (is_in taken x) in
    let here : implies (depends system b also p q && among q) (is_in taken q) ≡ true =
    All-contains (λ x. test x ≡ true) (range_with_len 0 (length system.ports)) q (all_by test (λ x. test x ≡ true) (λ x h. h) (range_with_len 0 (length system.ports)) e)
    (in_range (length system.ports) q (slice_get_within system.ports q d.on d.there)) in
    in_by taken q (implied (depends system b also p q && among q) (is_in taken q) here (and (depends system b also p q) (among q) (depends_is system b also p q d also_is) among_is))
  where
    and : (x y : Bool) → x ≡ true → y ≡ true → (x && y) ≡ true
    and true y h k = k
    and false y h k = absurd (true_false (sym h))

-- ---- orders

abbrev is_order_from : (List ℕ → ℕ → Bool) → List ℕ → List ℕ → Bool
is_order_from has_needs taken [] = true
is_order_from has_needs taken (p ∷ rest) = not (is_in taken p) && (has_needs taken p && is_order_from has_needs (taken ++ p ∷ []) rest)

contains_in : (xs : List ℕ) (q : ℕ) → Contains xs q → is_in xs q ≡ true
contains_in xs q m = here xs m.0 (Rattle.std.proofs.lemmas.Option.slice_get-get_or xs m.0 q m.1 ∙ ap Some m.2)
  where
    here : (ys : List ℕ) (k : ℕ) → slice_get ys k ≡ Some q → is_in ys q ≡ true
    here [] k e = absurd (none_some _ e)
    here (y ∷ ys) zero e = ap (λ b. b || is_in ys q) (eq-eqb y q (same_Some _ _ e))
    here (y ∷ ys) (suc k) e = or_right (y == q) (is_in ys q) (here ys k e)
      where
        or_right : (a b : Bool) → b ≡ true → (a || b) ≡ true
        or_right true b h = refl
        or_right false b h = h

order_from_by : (NeedsOf : ℕ → ℕ → Type 0) (has_needs : List ℕ → ℕ → Bool) → ((taken : List ℕ) (p q : ℕ) → has_needs taken p ≡ true → NeedsOf p q → Contains taken q) → (taken rest : List ℕ) → is_order_from has_needs taken rest ≡ true → IsOrderFrom NeedsOf taken rest
order_from_by NeedsOf has_needs shows taken [] e = tt
order_from_by NeedsOf has_needs shows taken (p ∷ rest) e =
    let more = right (not (is_in taken p)) (has_needs taken p && is_order_from has_needs (taken ++ p ∷ []) rest) e in (
      λ m. true_false (sym (left (not (is_in taken p)) (has_needs taken p && is_order_from has_needs (taken ++ p ∷ []) rest) e) ∙ ap not (contains_in taken p m)),
      λ q needs. shows taken p q (left (has_needs taken p) (is_order_from has_needs (taken ++ p ∷ []) rest) more) needs,
      order_from_by NeedsOf has_needs shows (taken ++ p ∷ []) rest (right (has_needs taken p) (is_order_from has_needs (taken ++ p ∷ []) rest) more),
    )

abbrev order_parts : System → (ℕ → Bool) → (List ℕ → ℕ → Bool) → List ℕ → List Bool
order_parts system among has_needs order =
    every (λ p. implies (among p) (is_in order p)) (range_with_len 0 (length system.ports)) ∷ every among order ∷ is_order_from has_needs [] order ∷ []

-- an order of the ports that pass a test
order_of : (system : System) (NeedsOf : ℕ → ℕ → Type 0) (among : ℕ → Bool) → ((p : ℕ) → among p ≡ true → p < length system.ports) → (has_needs : List ℕ → ℕ → Bool) →
    ((taken : List ℕ) (p q : ℕ) → has_needs taken p ≡ true → NeedsOf p q → Contains taken q) → (order : List ℕ) → holds (order_parts system among has_needs order) ≡ true → IsOrder (λ p. among p ≡ true) NeedsOf order
order_of system NeedsOf among within has_needs shows order e = let ps = parts (order_parts system among has_needs order) e in
    order_by (λ p. among p ≡ true) NeedsOf order
    (λ p is. in_by order p (implied (among p) (is_in order p)
    (All-contains (λ x. implies (among x) (is_in order x) ≡ true) (range_with_len 0 (length system.ports)) p
    (all_by (λ x. implies (among x) (is_in order x)) (λ x. implies (among x) (is_in order x) ≡ true) (λ x h. h) (range_with_len 0 (length system.ports)) ps.0) (in_range (length system.ports) p (within p is))) is))
    (λ p m. All-contains (λ x. among x ≡ true) order p (all_by among (λ x. among x ≡ true) (λ x h. h) order ps.1.0) m)
    (order_from_by NeedsOf has_needs shows [] order ps.1.1.0)

-- ---- in instants

abbrev is_port_number : System → ℕ → Bool
is_port_number system p = nat_lt p (length system.ports)

abbrev has_event_dependencies : System → List ℕ → ℕ → Bool
has_event_dependencies system taken p = has_dependencies system false (λ (c : Component). c.shape.has_event_mode) (λ q. true) taken p

abbrev has_needs : System → List ℕ → ℕ → Bool
has_needs system taken p = has_source system taken p && (has_clocks system taken p && has_event_dependencies system taken p)

needs_taken : (system : System) (taken : List ℕ) (p q : ℕ) → has_needs system taken p ≡ true → Needs system p q → Contains taken q
needs_taken system taken p q e (ByFeed port is from) =
    source_taken system taken p q port (left (has_source system taken p) (has_clocks system taken p && has_event_dependencies system taken p) e) is from
needs_taken system taken p q e (ByClock port is among) =
    let rest = right (has_source system taken p) (has_clocks system taken p && has_event_dependencies system taken p) e in
    clock_taken system taken p q port (left (has_clocks system taken p) (has_event_dependencies system taken p) rest) is among
needs_taken system taken p q e (ByDependency d events) =
    let rest = right (has_source system taken p) (has_clocks system taken p && has_event_dependencies system taken p) e in
    dependency_taken system false (λ (c : Component). c.shape.has_event_mode) (λ x. true) taken p q (right (has_clocks system taken p) (has_event_dependencies system taken p) rest) d events refl

-- ---- in Initialization Mode

abbrev has_source_initially : System → List ℕ → ℕ → Bool
has_source_initially system taken p =
    if_some (λ (port : Port). if_some (λ q. implies (is_unclocked_at system.ports q) (is_in taken q)) (source_of port.role)) (slice_get system.ports p)

abbrev has_needs_initially : System → List ℕ → ℕ → Bool
has_needs_initially system taken p =
    has_source_initially system taken p && has_dependencies system true (λ (c : Component). true) (is_unclocked_at system.ports) taken p

needs_taken_initially : (system : System) (taken : List ℕ) (p q : ℕ) → has_needs_initially system taken p ≡ true → NeedsInitially system p q → Contains taken q
needs_taken_initially system taken p q e (InitiallyByFeed here there port is from) =
    in_by taken q (implied (is_unclocked_at system.ports q) (is_in taken q)
    (sym (ap (λ o. if_some (λ k. implies (is_unclocked_at system.ports k) (is_in taken k)) o) from) ∙ sym (ap (λ o. if_some (λ (x : Port). if_some (λ k. implies (is_unclocked_at system.ports k) (is_in taken k)) (source_of x.role)) o) is)
    ∙ left (has_source_initially system taken p) (has_dependencies system true (λ (c : Component). true) (is_unclocked_at system.ports) taken p) e) there)
needs_taken_initially system taken p q e (InitiallyByDependency here there d) =
    dependency_taken system true (λ (c : Component). true) (is_unclocked_at system.ports) taken p q
    (right (has_source_initially system taken p) (has_dependencies system true (λ (c : Component). true) (is_unclocked_at system.ports) taken p) e) d refl there

unclocked_within : (ports : List Port) (p : ℕ) → is_unclocked_at ports p ≡ true → p < length ports
unclocked_within ports p e =
    (elim (slice_get ports p) as (λ o. slice_get ports p ≡ o → option_map_or is_unclocked o false ≡ true → p < length ports) [
      | None ↦ λ at h. absurd (true_false (sym h))
      | Some port ↦ λ at h. slice_get_within ports p port at
    ]) refl e

-- ---- the whole

abbrev system_parts : System → List Bool
system_parts system =
    nat_le (length system.components) 256 ∷ every (λ (c : Component). holds (component_parts c)) system.components
    ∷ nat_le (length system.ports) 65536 ∷ every (is_sound_port system) system.ports ∷ every (is_fed system) system.ports
    ∷ holds (order_parts system (is_port_number system) (has_needs system) (port_numbers system.instant_order))
    ∷ holds (order_parts system (is_unclocked_at system.ports) (has_needs_initially system) (port_numbers system.initial_order)) ∷ []

abbrev pub is_sound : System → Bool
is_sound system = holds (system_parts system)

pub sound_by : (system : System) → map label_of system.ports ≡ labels_from 0 system.components → is_sound system ≡ true → IsSound system
sound_by system numbered e = let ps = parts (system_parts system) e in
    let instants = order_of system (Needs system) (is_port_number system) (λ p h. ltb-true p (length system.ports) h) (has_needs system) (needs_taken system) (port_numbers system.instant_order) ps.1.1.1.1.1.0 in
    record {
      components = components_by system ps.0 ps.1.0;
      ports = ports_by system ps.1.1.0 numbered ps.1.1.1.0;
      feeds = feeds_by system ps.1.1.1.1.0;
      instant_order = record {
        each = λ p less. instants.each p (Rattle.std.proofs.lemmas.Bool.lt-ltb p (length system.ports) less);
        only = λ p m. ltb-true p (length system.ports) (instants.only p m);
        once = instants.once;
        after = instants.after;
      };
      initial_order = order_of system (NeedsInitially system) (is_unclocked_at system.ports) (unclocked_within system.ports) (has_needs_initially system) (needs_taken_initially system) (port_numbers system.initial_order) ps.1.1.1.1.1.1.0;
    }
