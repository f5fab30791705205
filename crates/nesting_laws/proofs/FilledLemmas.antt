-- Two documents put together: their Components have names and sources, and each number names a part.
use Rattle.std.proofs.Common.{◌≡◌, ◌∙◌, inl, inr, ℕ, zero, suc, ◌+◌, ◌-◌, ◌^◌, ◌<◌, ◌≤◌, ◌==◌, nat_lt, Bool, true, false, not, is_some, if◌then◌else◌, List, [], ◌∷◌, ◌++◌, length, map, take, drop, find, position, unwrap_or, cond, get_or, Option, Some, None, IfSome, option_map, option_and_then, refl, sym, ap, subst, arith, slice_get, All, length-append, length-drop}
use Rattle.std.specs.Option.{option_map_or}
use Rattle.std.proofs.lemmas.Bool.Decides.{nat_tests}
use Rattle.std.specs.List.{position_or_len}
use Rattle.std.proofs.lemmas.Option.{none-some, same_Some, slice_get-get_or}
use Rattle.std.proofs.lemmas.List.{length-map, length-take}
use Rattle.std.proofs.lemmas.List.Elements.{All-append, All-cons, All-drop, All-head, All-map, All-nil, All-tail, All-take, All-weaker}
use Rattle.std.proofs.lemmas.List.Sums.{count_by-le-length}
use Rattle.ssd_tree.specs.declared.tree.Binding.{Binding}
use Rattle.ssd_tree.specs.declared.tree.ComponentPart.{ComponentPart}
use Rattle.ssd_tree.specs.declared.tree.Connection.{Connection}
use Rattle.ssd_tree.specs.declared.tree.Connector.{Connector}
use Rattle.ssd_tree.specs.declared.tree.Origin.{Origin}
use Rattle.ssd_tree.specs.declared.tree.Origin.TheVariants.{File, Inline}
use Rattle.ssd_tree.specs.declared.tree.Owner.{Owner}
use Rattle.ssd_tree.specs.declared.tree.SourceBase.TheVariants as base
use Rattle.ssd_tree.specs.declared.tree.Owner.TheVariants as owner
use Rattle.ssd_tree.specs.declared.tree.SystemTree.{SystemTree}
use Rattle.ssd_tree.specs.Named.{IsOwner}
use Rattle.nested_documents.specs.declared.numbers.Place.{Place}
use Rattle.nested_documents.specs.declared.seam.Frame.{Frame}
use Rattle.nested_documents.specs.declared.seam.Seam.{Seam}
use Rattle.nested_documents.specs.declared.seam.Side.TheVariants as side
use Rattle.nested_documents.specs.Inlining.{bindings_before, connections_before, connectors_before, inner_end, inner_ends, inlined, inner_place, is_inner, own_connectors, own_count, put, seam_of}
use Rattle.nested_documents.specs.declared.seam.Side.{Side}
use Rattle.nested_documents.specs.Moves.{moved_binding, moved_component_part, moved_connection, moved_connector_part, moved_node, moved_origin, moved_owner, outer_connector, path_below}
use Rattle.nested_documents.specs.Nest.{earlier_place, first_lacking, is_before}
use Rattle.nested_documents.proofs.PutLemmas.{length_put}
use Rattle.structure_laws.specs.Orderly.{IsOrderly}
use Rattle.nesting_laws.specs.Proper.{AreBelow, HasEnds, IsOriginBelow}
use Rattle.nesting_laws.proofs.NameLemmas as names
use Rattle.nesting_laws.proofs.OrderlyLemmas as o

pub all_put : {A : Type 0} (P : A → Type 0) (at gone : ℕ) (ys xs : List A) → All P ys → All P xs → All P (put at gone ys xs)
all_put P at gone ys xs inside all =
    All-append P (take at xs) (ys ++ drop (at + gone) xs) (All-take P at xs all) (All-append P ys (drop (at + gone) xs) inside (All-drop P (at + gone) xs all))

-- ---- what a list of connectors lacks

-- what holds of each holds of what stands at a place
pub at_all : {A : Type 0} (P : A → Type 0) (xs : List A) (i : ℕ) (x : A) → All P xs → slice_get xs i ≡ Some x → P x
at_all P [] i x all at = absurd (none-some x at)
at_all P (y ∷ ys) zero x all at = subst P (same_Some y x at) (All-head P y ys all)
at_all P (y ∷ ys) (suc i) x all at = at_all P ys i x (All-tail P y ys all) at

-- after a list nothing stands
past : {A : Type 0} (xs : List A) (i : ℕ) → slice_get xs i ≡ None → length xs ≤ i
past [] i e = omega arith
past (x ∷ xs) zero e = absurd (none-some x (sym e))
past (x ∷ xs) (suc i) e = let less = past xs i e in omega (arith, less)

-- the place of what is found
place_within : {A : Type 0} (p : A → Bool) (xs : List A) (i : ℕ) → position p xs ≡ Some i → i < length xs
place_within p xs i e =
    (elim (nat_lt (position_or_len p xs) (length xs)) as (λ b. nat_lt (position_or_len p xs) (length xs) ≡ b → cond b (Some (position_or_len p xs)) None ≡ Some i → i < length xs) [
      | true ↦ λ t h.
          let same : position_or_len p xs ≡ i = same_Some (position_or_len p xs) i h in
          let below : position_or_len p xs < length xs = grind (arith, nat_tests) in
          omega (arith, same, below)
      | false ↦ λ t h. absurd (none-some i h)
    ]) refl e

-- what is found is one of them
found_holds : {A : Type 0} (P : A → Type 0) (p : A → Bool) (xs : List A) (x : A) → All P xs → find p xs ≡ Some x → P x
found_holds P p [] x all e = absurd (none-some x e)
found_holds P p (y ∷ ys) x all e =
    (elim (p y) as (λ b. cond b (Some y) (find p ys) ≡ Some x → P x) [
      | true ↦ λ h. subst P (same_Some y x h) (All-head P y ys all)
      | false ↦ λ h. found_holds P p ys x (All-tail P y ys all) h
    ]) e

found_none : {A : Type 0} (p : A → Bool) (xs : List A) → find p xs ≡ None → All (λ x. p x ≡ false) xs
found_none p [] e = All-nil (λ x. p x ≡ false)
found_none p (x ∷ xs) e =
    (elim (p x) as (λ b. p x ≡ b → cond b (Some x) (find p xs) ≡ None → All (λ z. p z ≡ false) (x ∷ xs)) [
      | true ↦ λ is none. absurd (none-some x (sym none))
      | false ↦ λ is none. All-cons (λ z. p z ≡ false) x xs is (found_none p xs none)
    ]) refl e

pub none_earlier : (p q : Option Place) → earlier_place p q ≡ None → (p ≡ None) × (q ≡ None)
none_earlier None q e = (refl, e)
none_earlier (Some p) None e = absurd (none-some p (sym e))
none_earlier (Some p) (Some q) e =
    (elim (is_before q p) as (λ b. (if b then Some q else Some p) ≡ None → (◌≡◌ {A = Option Place} (Some p) None) × (◌≡◌ {A = Option Place} (Some q) None)) [
      | true ↦ λ h. absurd (none-some q (sym h))
      | false ↦ λ h. absurd (none-some p (sym h))
    ]) e

abbrev is_lacking : List Connector → Connector → Bool
is_lacking inner x = not (is_some (inner_place inner x))

-- where no place is told, none is lacking
pub none_lacks : (elements : List Place) (own inner : List Connector) → All (λ (x : Connector). x.node < length elements) own → option_and_then (slice_get elements) (first_lacking own inner) ≡ None → All (λ (x : Connector). is_lacking inner x ≡ false) own
none_lacks elements own inner below e = found_none (is_lacking inner) own (by (find (is_lacking inner) own) refl e)
  where
    here : Place
    here = record { document = 0; node = 0 }

    by : (o : Option Connector) → find (is_lacking inner) own ≡ o → option_and_then (slice_get elements) (option_map (λ (x : Connector). x.node) o) ≡ None → find (is_lacking inner) own ≡ None
    by None is none = is
    by (Some x) is none =
        let within : x.node < length elements = found_holds (λ (y : Connector). y.node < length elements) (is_lacking inner) own x below is in
        absurd (none-some (get_or elements x.node here) (sym none ∙ slice_get-get_or elements x.node here within))

module _ (outer inner : SystemTree) (k : ℕ) (c : ComponentPart) (f : Frame) (elements count : ℕ) (out : IsOrderly count outer) (within : IsOrderly elements inner) (at : slice_get outer.components k ≡ Some c) where
  abbrev s : Seam
  s = seam_of outer k c inner elements

  abbrev whole : SystemTree
  whole = inlined outer k c f inner elements

  -- ---- elements

  c_below : c.node < count
  c_below = out.ends k c at

  our_below : (node : ℕ) → node < count → moved_node s side.Outer node < count + elements
  our_below node less = elim (o.either node c.node) [
    | inl a ↦ let e = o.prefix c.node elements node a in omega (arith, e, less)
    | inr b ↦ let e = o.back c.node elements node b in omega (arith, e, less)
  ]

  their_below : (node : ℕ) → node < elements → moved_node s side.Inner node < count + elements
  their_below node less = let h = c_below in omega (arith, h, less)

  our_origin : (x : Owner) (g : Origin) → IsOriginBelow count g → IsOriginBelow (count + elements) (moved_origin s f side.Outer x g)
  our_origin x (Inline node) h = our_below node h
  our_origin (owner.System place) (File base.Description path) h = tt
  our_origin (owner.System place) (File base.Component path) h = tt
  our_origin (owner.Component place) (File base.Description path) h = tt
  our_origin (owner.Component place) (File base.Component path) h =
      elim (place == k) as (λ b. IsOriginBelow (count + elements) (if b then File base.Description (path_below f.folder path) else File base.Component path)) [ true ↦ tt | false ↦ tt ]

  their_origin : (x : Owner) (g : Origin) → IsOriginBelow elements g → IsOriginBelow (count + elements) (moved_origin s f side.Inner x g)
  their_origin x (Inline node) h = their_below node h
  their_origin x (File base.Description path) h = tt
  their_origin x (File base.Component path) h = tt

  if_moved : (side : Side) (n : ℕ) → ((x : Owner) (g : Origin) → IsOriginBelow n g → IsOriginBelow (count + elements) (moved_origin s f side x g)) → (x : Owner) (o : Option Origin) → IfSome o (IsOriginBelow n) →
      IfSome (option_map (moved_origin s f side x) o) (IsOriginBelow (count + elements))
  if_moved side n so x None h = tt
  if_moved side n so x (Some g) h = so x g h

  pub whole_below : AreBelow count outer → AreBelow elements inner → AreBelow (count + elements) whole
  whole_below ours theirs =
      let n = count + elements in record {
        connectors = all_put (λ (x : Connector). x.node < n) (connectors_before c.node outer.connectors) (length (inner_ends s outer.connectors inner.connectors)) (map (moved_connector_part s side.Inner) inner.connectors) (map (moved_connector_part s side.Outer) outer.connectors)
            (All-map (λ (x : Connector). x.node < n) (moved_connector_part s side.Inner) inner.connectors (All-weaker (λ (x : Connector). x.node < elements) (λ (x : Connector). moved_node s side.Inner x.node < n) (λ x. their_below x.node) inner.connectors theirs.connectors))
            (All-map (λ (x : Connector). x.node < n) (moved_connector_part s side.Outer) outer.connectors (All-weaker (λ (x : Connector). x.node < count) (λ (x : Connector). moved_node s side.Outer x.node < n) (λ x. our_below x.node) outer.connectors ours.connectors));
        values = all_put (λ (b : Binding). IsOriginBelow n b.values) (bindings_before c.node outer.bindings) 0 (map (moved_binding s f side.Inner) inner.bindings) (map (moved_binding s f side.Outer) outer.bindings)
            (All-map (λ (b : Binding). IsOriginBelow n b.values) (moved_binding s f side.Inner) inner.bindings
            (All-weaker (λ (b : Binding). IsOriginBelow elements b.values) (λ (b : Binding). IsOriginBelow n (moved_origin s f side.Inner b.owner b.values)) (λ b. their_origin b.owner b.values) inner.bindings theirs.values))
            (All-map (λ (b : Binding). IsOriginBelow n b.values) (moved_binding s f side.Outer) outer.bindings
            (All-weaker (λ (b : Binding). IsOriginBelow count b.values) (λ (b : Binding). IsOriginBelow n (moved_origin s f side.Outer b.owner b.values)) (λ b. our_origin b.owner b.values) outer.bindings ours.values));
        mappings = all_put (λ (b : Binding). IfSome b.mapping (IsOriginBelow n)) (bindings_before c.node outer.bindings) 0 (map (moved_binding s f side.Inner) inner.bindings) (map (moved_binding s f side.Outer) outer.bindings)
            (All-map (λ (b : Binding). IfSome b.mapping (IsOriginBelow n)) (moved_binding s f side.Inner) inner.bindings
            (All-weaker (λ (b : Binding). IfSome b.mapping (IsOriginBelow elements)) (λ (b : Binding). IfSome (option_map (moved_origin s f side.Inner b.owner) b.mapping) (IsOriginBelow n)) (λ b. if_moved side.Inner elements their_origin b.owner b.mapping) inner.bindings theirs.mappings))
            (All-map (λ (b : Binding). IfSome b.mapping (IsOriginBelow n)) (moved_binding s f side.Outer) outer.bindings
            (All-weaker (λ (b : Binding). IfSome b.mapping (IsOriginBelow count)) (λ (b : Binding). IfSome (option_map (moved_origin s f side.Outer b.owner) b.mapping) (IsOriginBelow n)) (λ b. if_moved side.Outer count our_origin b.owner b.mapping) outer.bindings ours.mappings));
      }

  -- ---- names

  abbrev IsNameKept : ComponentPart → Type 0
  IsNameKept x = (0 < length x.name) × (length x.name ≤ 2 ^ 24)

  their_name : f.name ≡ c.name → (x : ComponentPart) → (length c.name + 1) + length x.name ≤ 2 ^ 24 → IsNameKept (moved_component_part s f side.Inner x)
  their_name same x short =
      let long = length-append f.name (46 ∷ x.name) in
      let e : length f.name ≡ length c.name = ap (λ (z : List ℕ). length z) same in
      (omega (arith, long), omega (arith, long, e, short))

  pub whole_names : f.name ≡ c.name → All IsNameKept outer.components → All (λ (x : ComponentPart). (length c.name + 1) + length x.name ≤ 2 ^ 24) inner.components → All IsNameKept whole.components
  whole_names same ours theirs =
      all_put IsNameKept k 1 (map (moved_component_part s f side.Inner) inner.components) (map (moved_component_part s f side.Outer) outer.components)
      (All-map IsNameKept (moved_component_part s f side.Inner) inner.components
      (All-weaker (λ (x : ComponentPart). (length c.name + 1) + length x.name ≤ 2 ^ 24) (λ (x : ComponentPart). IsNameKept (moved_component_part s f side.Inner x)) (their_name same) inner.components theirs))
      (All-map IsNameKept (moved_component_part s f side.Outer) outer.components
      (All-weaker IsNameKept (λ (x : ComponentPart). IsNameKept (moved_component_part s f side.Outer x)) (λ x h. h) outer.components ours))

  -- ---- connectors

  pub connector_owners : All (λ (x : Connector). IsOwner outer x.owner) outer.connectors → All (λ (x : Connector). IsOwner inner x.owner) inner.connectors → All (λ (x : Connector). IsOwner whole x.owner) whole.connectors
  connector_owners ours theirs =
      all_put (λ (x : Connector). IsOwner whole x.owner) (connectors_before c.node outer.connectors) (length (inner_ends s outer.connectors inner.connectors)) (map (moved_connector_part s side.Inner) inner.connectors) (map (moved_connector_part s side.Outer) outer.connectors)
      (All-map (λ (x : Connector). IsOwner whole x.owner) (moved_connector_part s side.Inner) inner.connectors
      (All-weaker (λ (x : Connector). IsOwner inner x.owner) (λ (x : Connector). IsOwner whole (moved_owner s side.Inner x.owner)) (λ x. names.their_owner outer inner k c f elements count out within at x.owner) inner.connectors theirs))
      (All-map (λ (x : Connector). IsOwner whole x.owner) (moved_connector_part s side.Outer) outer.connectors
      (All-weaker (λ (x : Connector). IsOwner outer x.owner) (λ (x : Connector). IsOwner whole (moved_owner s side.Outer x.owner)) (λ x. names.our_owner outer inner k c f elements count out within at x.owner) outer.connectors ours))

  abbrev q : ℕ
  q = connectors_before c.node outer.connectors

  abbrev own : List Connector
  own = own_connectors s outer.connectors

  abbrev ends : List ℕ
  ends = inner_ends s outer.connectors inner.connectors

  fits : q ≤ length outer.connectors
  fits = count_by-le-length (λ (x : Connector). nat_lt x.node c.node) outer.connectors

  few_own : q + length ends ≤ length outer.connectors
  few_own =
      let e = length-map own (inner_end s inner.connectors) in
      let t = length-take (own_count k (drop q outer.connectors)) (drop q outer.connectors) in
      let d = length-drop q outer.connectors in
      let h = fits in
      omega (arith, e, t, d, h)

  connectors_long : length whole.connectors ≡ (length outer.connectors - length ends) + length inner.connectors
  connectors_long =
      let n = length-map outer.connectors (moved_connector_part s side.Outer) in
      let m = length-map inner.connectors (moved_connector_part s side.Inner) in
      let few = few_own in
      let h = length_put q (length ends) (map (moved_connector_part s side.Inner) inner.connectors) (map (moved_connector_part s side.Outer) outer.connectors) (omega (arith, n, few)) in
      omega (arith, h, n, m)

  pub own_below : All (λ (x : Connector). x.node < count) outer.connectors → All (λ (x : Connector). x.node < count) own
  own_below all =
      All-take (λ (x : Connector). x.node < count) (own_count k (drop q outer.connectors)) (drop q outer.connectors) (All-drop (λ (x : Connector). x.node < count) q outer.connectors all)

  -- the inner connectors that stand for the Component's own are there
  end_within : (x : Connector) (o : Option ℕ) → inner_place inner.connectors x ≡ o → not (is_some o) ≡ false → unwrap_or o 0 + q < q + length inner.connectors
  end_within x None is e = absurd (cc)
  end_within x (Some i) is e = let less = place_within (is_inner x) inner.connectors i is in omega (arith, less)

  pub ends_within : All (λ (x : Connector). is_lacking inner.connectors x ≡ false) own → All (λ (e : ℕ). e < q + length inner.connectors) ends
  ends_within none =
      All-map (λ (e : ℕ). e < q + length inner.connectors) (inner_end s inner.connectors) own
      (All-weaker (λ (x : Connector). is_lacking inner.connectors x ≡ false) (λ (x : Connector). inner_end s inner.connectors x < q + length inner.connectors) (λ x e. end_within x (inner_place inner.connectors x) refl e) own none)

  module _ (there : All (λ (e : ℕ). e < q + length inner.connectors) ends) where
    our_end : (place : ℕ) → place < length outer.connectors → outer_connector s ends place < length whole.connectors
    our_end place less = elim (o.either place q) [
      | inl a ↦
          let e : nat_lt place q ≡ true = grind (arith, nat_tests) in
          let l = connectors_long in
          let few = few_own in
          rw e (omega (arith, l, few, a))
      | inr b ↦
          let e : nat_lt place q ≡ false = grind (arith, nat_tests) in
          rw e (by b (slice_get ends (place - q)) refl)
    ]
      where
        by : q ≤ place → (found : Option ℕ) → slice_get ends (place - q) ≡ found → option_map_or (λ end. end) found ((place - length ends) + length inner.connectors) < length whole.connectors
        by b (Some e) is =
            let low : e < q + length inner.connectors = at_all (λ (x : ℕ). x < q + length inner.connectors) ends (place - q) e there is in
            let l = connectors_long in
            let few = few_own in
            omega (arith, l, few, low)
        by b None is =
            let over : length ends ≤ place - q = past ends (place - q) is in
            let l = connectors_long in
            let few = few_own in
            omega (arith, l, few, over, b, less)

    their_end : (place : ℕ) → place < length inner.connectors → place + q < length whole.connectors
    their_end place less = let l = connectors_long in let few = few_own in omega (arith, l, few, less)

    pub whole_ends : All (HasEnds outer) outer.connections → All (HasEnds inner) inner.connections → All (HasEnds whole) whole.connections
    whole_ends ours theirs =
        all_put (HasEnds whole) (connections_before c.node outer.connections) 0 (map (moved_connection s ends side.Inner) inner.connections) (map (moved_connection s ends side.Outer) outer.connections)
        (All-map (HasEnds whole) (moved_connection s ends side.Inner) inner.connections
        (All-weaker (HasEnds inner) (λ (x : Connection). HasEnds whole (moved_connection s ends side.Inner x)) (λ x h. (their_end x.start h.0, their_end x.end h.1)) inner.connections theirs))
        (All-map (HasEnds whole) (moved_connection s ends side.Outer) outer.connections
        (All-weaker (HasEnds outer) (λ (x : Connection). HasEnds whole (moved_connection s ends side.Outer x)) (λ x h. (our_end x.start h.0, our_end x.end h.1)) outer.connections ours))
