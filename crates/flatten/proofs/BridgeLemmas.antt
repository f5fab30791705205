-- A path of connections over numbered points is one over the points of a tree.
use Rattle.std.proofs.Common.{◌≡◌, ◌⊎◌, ◌↔◌, ℕ, zero, suc, ◌+◌, ◌<◌, List, [], ◌∷◌, length, map, not, is_some, Option, Some, None, refl, sym, ap, ◌∙◌, subst, inl, inr, arith}
use Rattle.std.specs.List.{All, Contains, slice_get}
use Rattle.std.specs.Option.{option_map}
use Rattle.std.proofs.lemmas.List.{get_or-map, length-map}
use Rattle.std.proofs.lemmas.List.Elements.{All-filter, All-map, All-same, All-weaker}
use Rattle.std.proofs.lemmas.Option.{slice_get_within, get_or_from_slice_get, same_Some}
use Rattle.value_types.specs.declared.shape.Shape.{Shape}
use Rattle.connection_paths.specs.declared.point.Point as paths
use Rattle.connection_paths.specs.declared.point.Point.TheVariants.{Variable as Numbered}
use Rattle.connection_paths.specs.declared.point.Connection as joints
use Rattle.connection_paths.specs.Paths as numbers
use Rattle.ssd_tree.specs.declared.tree.Connector.{Connector}
use Rattle.ssd_tree.specs.declared.tree.Connection.{Connection}
use Rattle.ssd_tree.specs.declared.tree.SystemTree.{SystemTree}
use Rattle.flatten.specs.Points.{Point, OfComponent, Itself, IsOfSystem, named_by, point_for, point_of}
use Rattle.flatten.specs.Paths.{Joins, Leads, plain, turned}
use Rattle.flatten.specs.Given.{AreShapesOf, IsWholeTree}
use Rattle.flatten.specs.Indexed.{AreNumbered, begin_of, ends_of}
use Rattle.flatten.proofs.ReachLemmas.{Stands, reaches_carried}
use Rattle.flatten.proofs.StandsLemmas.{IsItself, IsNamed, sort_of, point_by_number, numbered_by_point}

-- ---- lists

pub at_place : {A : Type 0} (xs : List A) (c : ℕ) → c < length xs → (x : A) × (slice_get xs c ≡ Some x)
at_place [] c l = absurd (omega (arith, l))
at_place (x ∷ xs) zero l = (x, refl)
at_place (x ∷ xs) (suc c) l = at_place xs c (omega (arith, l))

pub slice_contains : {A : Type 0} (xs : List A) (c : ℕ) (x : A) → slice_get xs c ≡ Some x → Contains xs x
slice_contains xs c x e = (c, slice_get_within xs c x e, get_or_from_slice_get xs c x x e)

pub contains_map : {A B : Type 0} (f : A → B) (xs : List A) (x : A) → Contains xs x → Contains (map f xs) (f x)
contains_map f xs x h = (h.0, (let n = length-map xs f in let l = h.1 in omega (arith, n, l)), get_or-map f xs h.0 x (f x) h.1 ∙ ap f h.2)

pub map_contains : {A B : Type 0} (f : A → B) (xs : List A) (y : B) → Contains (map f xs) y → (x : A) × Contains xs x × (f x ≡ y)
map_contains f xs y h =
    let l : h.0 < length xs = (let n = length-map xs f in let w = h.1 in omega (arith, n, w)) in
    let e = at_place xs h.0 l in
    (e.0, slice_contains xs h.0 e.0 e.1, ap f (sym (get_or_from_slice_get xs h.0 e.0 e.0 e.1)) ∙ sym (get_or-map f xs h.0 e.0 y l) ∙ h.2)

-- both ends of each connection are connectors
abbrev pub AreInside : SystemTree → Connection → Type 0
AreInside t k = (k.start < length t.connectors) × (k.end < length t.connectors)

-- of any connections whose ends are
pub inside_within : (t : SystemTree) (n : ℕ) (connections : List joints.Connection) (ks : List Connection) → All (AreInside t) ks → n ≡ length t.connectors → connections ≡ map ends_of ks → All (numbers.IsWithin n) connections
inside_within t n connections ks inside len ends =
    All-same (numbers.IsWithin n) connections (map ends_of ks) ends (All-map (numbers.IsWithin n) ends_of ks
    (All-weaker (AreInside t) (λ (k : Connection). numbers.IsWithin n (ends_of k)) (λ k h. (let a = h.0 in omega (arith, a, len), let b = h.1 in omega (arith, b, len))) ks inside))

pub ends_within : (t : SystemTree) (n : ℕ) (connections : List joints.Connection) → IsWholeTree t → n ≡ length t.connectors → connections ≡ map ends_of t.connections → All (numbers.IsWithin n) connections
ends_within t n connections whole len ends = inside_within t n connections t.connections whole.ends len ends

-- those without a transformation, and those reversed
pub plain_within : (t : SystemTree) (n : ℕ) (connections : List joints.Connection) → IsWholeTree t → n ≡ length t.connectors → connections ≡ map ends_of (plain t).connections → All (numbers.IsWithin n) connections
plain_within t n connections whole len ends =
    inside_within t n connections (plain t).connections (All-filter (λ (k : Connection). not (is_some k.change)) (AreInside t) t.connections whole.ends) len ends

pub turned_within : (t : SystemTree) (n : ℕ) (connections : List joints.Connection) → IsWholeTree t → n ≡ length t.connectors → connections ≡ map ends_of (turned t).connections → All (numbers.IsWithin n) connections
turned_within t n connections whole len ends =
    let round = λ (k : Connection). record k { start = k.end; end = k.start } in
    inside_within t n connections (turned t).connections (All-map (AreInside t) round t.connections (All-weaker (AreInside t) (λ (k : Connection). AreInside t (round k)) (λ k h. (h.1, h.0)) t.connections whole.ends)) len ends

-- ---- what stands where

pub point_at : (t : SystemTree) (shapes : List Shape) (c : ℕ) → c < length t.connectors → (p : Point) × (point_of t shapes c ≡ Some p)
point_at t shapes c l =
    let k = at_place t.connectors c l in
    (point_for c k.0.owner (named_by shapes k.0.owner k.0.name), ap (option_map (λ (z : Connector). point_for c z.owner (named_by shapes z.owner z.name))) k.1)

pub point_within : (t : SystemTree) (shapes : List Shape) (c : ℕ) (p : Point) → point_of t shapes c ≡ Some p → c < length t.connectors
point_within t shapes c p e = by (slice_get t.connectors c) refl
  where
    by : (o : Option Connector) → slice_get t.connectors c ≡ o → c < length t.connectors
    by None none =
        let un = sym e ∙ ap (option_map (λ (z : Connector). point_for c z.owner (named_by shapes z.owner z.name))) none in
        cc
    by (Some k) some = slice_get_within t.connectors c k some

-- what is found along paths to a point: a connector of one of the starts, and nothing where none leads there
abbrev pub FindsFrom : SystemTree → List Shape → List ℕ → Point → Option ℕ → Type 0
FindsFrom t shapes starts to None = (s : ℕ) (from : Point) → Contains starts s → point_of t shapes s ≡ Some from → Leads t shapes from to → ⊥
FindsFrom t shapes starts to (Some s) = (from : Point) × (point_of t shapes s ≡ Some from) × ((c : ℕ) × Contains starts c × (point_of t shapes c ≡ Some from)) × Leads t shapes from to

-- the connectors at the ends of a connection
abbrev Ends : SystemTree → ℕ → ℕ → Type 0
Ends t start end = (k : Connection) × Contains t.connections k × (k.start ≡ start) × (k.end ≡ end)

module _ (t : SystemTree) (shapes : List Shape) (points : List paths.Point) (connections : List joints.Connection) (sound : AreShapesOf t shapes) (are : AreNumbered t shapes points) (ends : connections ≡ map ends_of t.connections) where
  sort : (c : ℕ) → c < length t.connectors → IsItself t shapes points c ⊎ IsNamed t shapes points c
  sort c l = let k = at_place t.connectors c l in sort_of t shapes points are c k.0 k.1

  number_within : (c : ℕ) (p : paths.Point) → slice_get points c ≡ Some p → c < length t.connectors
  number_within c p e =
      let l = slice_get_within points c p e in
      let n = are.len in
      omega (arith, l, n)

  pub number_at : (c : ℕ) (p : Point) → point_of t shapes c ≡ Some p → (n : paths.Point) × (slice_get points c ≡ Some n)
  number_at c p e =
      let l = point_within t shapes c p e in
      let n = are.len in
      at_place points c (omega (arith, l, n))

  same_point : (c d : ℕ) (p : paths.Point) → slice_get points c ≡ Some p → slice_get points d ≡ Some p → point_of t shapes c ≡ point_of t shapes d
  same_point c d p ep eq = point_by_number t shapes points sound c d p p (sort c (number_within c p ep)) (sort d (number_within d p eq)) ep eq refl

  pub same_number : (c d : ℕ) (p : Point) → point_of t shapes c ≡ Some p → point_of t shapes d ≡ Some p → slice_get points c ≡ slice_get points d
  same_number c d p ep eq = numbered_by_point t shapes points sound c d p (sort c (point_within t shapes c p ep)) (sort d (point_within t shapes d p eq)) ep eq

  pub system_there : (c : ℕ) (n : paths.Point) (p : Point) → slice_get points c ≡ Some n → point_of t shapes c ≡ Some p → numbers.IsOfSystem n ↔ IsOfSystem t p
  system_there c n p en ep = by (sort c (number_within c n en))
    where
      by : IsItself t shapes points c ⊎ IsNamed t shapes points c → numbers.IsOfSystem n ↔ IsOfSystem t p
      by (inl i) = subst (λ z. numbers.IsOfSystem z ↔ IsOfSystem t p) (same_Some i.number n (sym i.numbered ∙ en)) (subst (λ z. numbers.IsOfSystem i.number ↔ IsOfSystem t z) (same_Some (Itself c) p (sym i.point ∙ ep)) i.system)
      by (inr m) =
          subst (λ z. numbers.IsOfSystem z ↔ IsOfSystem t p) (same_Some (Numbered (begin_of shapes m.component + m.place)) n (sym m.numbered ∙ en))
          (subst (λ z. numbers.IsOfSystem (Numbered (begin_of shapes m.component + m.place)) ↔ IsOfSystem t z) (same_Some (OfComponent m.component m.variable.reference) p (sym m.point ∙ ep)) (λ h. h, λ h. h))

  numbers_apart : (p q : paths.Point) → numbers.Joins points connections p q → Stands (Ends t) (slice_get points) p q
  numbers_apart p q j =
      let k = map_contains ends_of t.connections j.connection (subst (λ z. Contains z j.connection) ends j.is) in
      record {
        start = j.connection.start;
        end = j.connection.end;
        are = (k.0, k.1, ap (λ (z : joints.Connection). z.start) k.2, ap (λ (z : joints.Connection). z.end) k.2);
        from = j.start;
        to = j.end;
      }

  numbers_together : (p q : paths.Point) → Stands (Ends t) (slice_get points) p q → numbers.Joins points connections p q
  numbers_together p q s = record {
    connection = ends_of s.are.0;
    is = subst (λ z. Contains z (ends_of s.are.0)) (sym ends) (contains_map ends_of t.connections s.are.0 s.are.1);
    start = ap (slice_get points) s.are.2 ∙ s.from;
    end = ap (slice_get points) s.are.3 ∙ s.to;
  }

  points_apart : (p q : Point) → Joins t shapes p q → Stands (Ends t) (point_of t shapes) p q
  points_apart p q j = record { start = j.0.start; end = j.0.end; are = (j.0, j.1.is, refl, refl); from = j.1.start; to = j.1.end }

  points_together : (p q : Point) → Stands (Ends t) (point_of t shapes) p q → Joins t shapes p q
  points_together p q s = (s.are.0, record { is = s.are.1; start = ap (point_of t shapes) s.are.2 ∙ s.from; end = ap (point_of t shapes) s.are.3 ∙ s.to })

  -- a path over numbers is one over points
  pub leads_by_numbers : (c d : ℕ) (m n : paths.Point) (p q : Point) → slice_get points c ≡ Some m → slice_get points d ≡ Some n → point_of t shapes c ≡ Some p → point_of t shapes d ≡ Some q
      → numbers.Feeds points connections m n → Leads t shapes p q
  leads_by_numbers c d m n p q em en ep eq h =
      reaches_carried (Ends t) (slice_get points) (point_of t shapes) (numbers.Joins points connections) (Joins t shapes) numbers.IsOfSystem (IsOfSystem t) numbers_apart points_together
      (λ x a e. point_at t shapes x (number_within x a e)) same_point (λ x a b ea eb. (system_there x a b ea eb).0) c d m n p q em en ep eq h

  -- and the other way round
  pub numbers_by_leads : (c d : ℕ) (m n : paths.Point) (p q : Point) → slice_get points c ≡ Some m → slice_get points d ≡ Some n → point_of t shapes c ≡ Some p → point_of t shapes d ≡ Some q
      → Leads t shapes p q → numbers.Feeds points connections m n
  numbers_by_leads c d m n p q em en ep eq h =
      reaches_carried (Ends t) (point_of t shapes) (slice_get points) (Joins t shapes) (numbers.Joins points connections) (IsOfSystem t) numbers.IsOfSystem points_apart numbers_together
      number_at same_number (λ x a b ea eb. (system_there x b a eb ea).1) c d p q m n ep eq em en h

  -- what is found of the number is found of the point
  pub finds_from : (starts : List ℕ) (c : ℕ) (to : Point) (o : Option ℕ) → point_of t shapes c ≡ Some to → ((n : paths.Point) → slice_get points c ≡ Some n → numbers.FindsSource points connections starts n o) → FindsFrom t shapes starts to o
  finds_from starts c to None e found =
      let n = number_at c to e in
      λ s from h es leads.
      let m = number_at s from es in
      found n.0 n.1 m.0 (s, h, m.1) (numbers_by_leads s c m.0 n.0 from to m.1 n.1 es e leads)
  finds_from starts c to (Some s) e found =
      let n = number_at c to e in
      let f = found n.0 n.1 in
      let p = point_at t shapes s (number_within s f.0 f.1) in
      let start = f.2.0 in
      (p.0, p.1, (start, f.2.1, same_point start s f.0 f.2.2 f.1 ∙ p.1), leads_by_numbers s c f.0 n.0 p.0 to f.1 n.1 p.1 e f.3)
