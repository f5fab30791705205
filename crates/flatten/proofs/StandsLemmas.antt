-- What connectors stand for, by points and by the numbers of variables: two have one number exactly where they have one point.
use Rattle.std.proofs.Common.{◌≡◌, ◌⊎◌, ◌↔◌, ℕ, zero, suc, ◌+◌, ◌<◌, ◌≤◌, ◌==◌, true, false, List, [], ◌∷◌, length, get_or, map, take, Option, Some, None, refl, sym, ap, ◌∙◌, subst, inl, inr, arith, nat_eq}
use Rattle.std.specs.List.{slice_get, find, position, IsDistinct}
use Rattle.std.specs.Option.{option_map, option_and_then, IsSomeAnd}
use Rattle.std.proofs.lemmas.Bool.{cases_order, false≢true, eq-eqb, ne_eqb}
use Rattle.std.proofs.lemmas.List.{get_or-map, length-map, length-append, take_all}
use Rattle.std.proofs.lemmas.List.Elements.{All-get_or}
use Rattle.std.proofs.lemmas.Map.Keys.{apart_from_distinct}
use Rattle.std.proofs.lemmas.Option.{slice_get_within, get_or_from_slice_get, same_Some}
use Rattle.value_types.specs.Shape.{variable_at}
use Rattle.value_types.specs.declared.shape.Variable.{Variable}
use Rattle.value_types.specs.declared.shape.Shape.{Shape}
use Rattle.value_types.proofs.CallerLemmas.{find_placed, find_missing, placed_within, position_first}
use Rattle.system_model.specs.Shapes.{IsSoundShape}
use Rattle.connection_paths.specs.declared.point.Point as paths
use Rattle.connection_paths.specs.declared.point.Point.TheVariants.{Variable as Numbered, OfSystem}
use Rattle.connection_paths.specs.Paths as numbers
use Rattle.ssd_tree.specs.declared.tree.Owner.{Owner}
use Rattle.ssd_tree.specs.declared.tree.Owner.TheVariants.{System, Component}
use Rattle.ssd_tree.specs.declared.tree.Connector.{Connector}
use Rattle.ssd_tree.specs.declared.tree.SystemTree.{SystemTree}
use Rattle.flatten.specs.Points.{Point, OfComponent, Itself, IsOfSystem, has_name, is_of_system, named_by, point_for, point_of, variable_of, variable_at_point}
use Rattle.flatten.specs.Given.{AreShapesOf}
use Rattle.flatten.specs.Indexed.{AreNumbered, all_variables, begin_of, number_for, place_for}
use Rattle.flatten.specs.Broken.{number_of}

-- ---- where the variables of a component begin

begin_before : (shapes : List Shape) (i j : ℕ) (s : Shape) → slice_get shapes i ≡ Some s → i < j → begin_of shapes i + length s.variables ≤ begin_of shapes j
begin_before [] i j s e l = cc
begin_before (x ∷ xs) i zero s e l = absurd (omega (arith, l))
begin_before (x ∷ xs) zero (suc j) s e l =
    let same = ap (λ (z : Shape). length z.variables) (same_Some x s e) in
    let n = length-append x.variables (all_variables (take j xs)) in
    omega (arith, same, n)
begin_before (x ∷ xs) (suc i) (suc j) s e l =
    let rest = begin_before xs i j s e (omega (arith, l)) in
    let n = length-append x.variables (all_variables (take i xs)) in
    let m = length-append x.variables (all_variables (take j xs)) in
    omega (arith, rest, n, m)

pub number_within : (shapes : List Shape) (i a : ℕ) (s : Shape) → slice_get shapes i ≡ Some s → a < length s.variables → begin_of shapes i + a < length (all_variables shapes)
number_within shapes i a s e l =
    let below = begin_before shapes i (length shapes) s e (slice_get_within shapes i s e) in
    let whole = ap (λ z. length (all_variables z)) (take_all (length shapes) shapes (omega arith)) in
    omega (arith, below, whole, l)

-- one number is that of one variable of one component
pub number_apart : (shapes : List Shape) (i j a b : ℕ) (s r : Shape) → slice_get shapes i ≡ Some s → slice_get shapes j ≡ Some r → a < length s.variables → b < length r.variables
    → begin_of shapes i + a ≡ begin_of shapes j + b → (i ≡ j) × (a ≡ b)
number_apart shapes i j a b s r ei ej la lb same = by (cases_order i j)
  where
    by : (i ≡ j) ⊎ ((i < j) ⊎ (j < i)) → (i ≡ j) × (a ≡ b)
    by (inl e) = let n = ap (begin_of shapes) e in (e, omega (arith, n, same))
    by (inr (inl l)) = let n = begin_before shapes i j s ei l in absurd (omega (arith, n, same, la))
    by (inr (inr l)) = let n = begin_before shapes j i r ej l in absurd (omega (arith, n, same, lb))

-- ---- value references

reference_apart : (xs : List Variable) (a b : ℕ) (x y : Variable) → IsDistinct nat_eq (map (λ (v : Variable). v.reference) xs) → slice_get xs a ≡ Some x → slice_get xs b ≡ Some y → a < b → x.reference ≡ y.reference → ⊥
reference_apart xs a b x y distinct ea eb l same =
    let la = slice_get_within xs a x ea in
    let lb = slice_get_within xs b y eb in
    let n = length-map xs (λ (v : Variable). v.reference) in
    let apart = apart_from_distinct nat_eq (map (λ (v : Variable). v.reference) xs) a b 0 distinct l (omega (arith, lb, n)) in
    let here = get_or-map (λ (v : Variable). v.reference) xs a x 0 la ∙ ap (λ (v : Variable). v.reference) (get_or_from_slice_get xs a x x ea) in
    let there = get_or-map (λ (v : Variable). v.reference) xs b y 0 lb ∙ ap (λ (v : Variable). v.reference) (get_or_from_slice_get xs b y y eb) in
    let is : nat_eq x.reference y.reference ≡ true = eq-eqb x.reference y.reference same in
    false≢true (sym apart ∙ ap (λ z. nat_eq z (get_or (map (λ (v : Variable). v.reference) xs) b 0)) here ∙ ap (nat_eq x.reference) there ∙ is)

-- one reference is that of one variable of a sound shape
pub place_alone : (shape : Shape) (a b : ℕ) (x y : Variable) → IsSoundShape shape → slice_get shape.variables a ≡ Some x → slice_get shape.variables b ≡ Some y → x.reference ≡ y.reference → a ≡ b
place_alone shape a b x y sound ea eb same = by (cases_order a b)
  where
    by : (a ≡ b) ⊎ ((a < b) ⊎ (b < a)) → a ≡ b
    by (inl e) = e
    by (inr (inl l)) = absurd (reference_apart shape.variables a b x y sound.variables.distinct ea eb l same)
    by (inr (inr l)) = absurd (reference_apart shape.variables b a y x sound.variables.distinct eb ea l (sym same))

-- the variable under the reference of one is this one
pub variable_under : (shape : Shape) (a : ℕ) (x : Variable) → IsSoundShape shape → slice_get shape.variables a ≡ Some x → variable_at shape.variables x.reference ≡ Some x
variable_under shape a x sound e =
    find_placed (λ (v : Variable). v.reference == x.reference) shape.variables a (position_first (λ (v : Variable). v.reference == x.reference) shape.variables a x e (eq-eqb x.reference x.reference refl) before) ∙ e
  where
    before : (k : ℕ) (y : Variable) → k < a → slice_get shape.variables k ≡ Some y → (y.reference == x.reference) ≡ false
    before k y l there = ne_eqb y.reference x.reference (λ same. let e' = place_alone shape k a y x sound there e same in absurd (omega (arith, e', l)))

pub sound_shape : (t : SystemTree) (shapes : List Shape) (i : ℕ) (s : Shape) → AreShapesOf t shapes → slice_get shapes i ≡ Some s → IsSoundShape s
sound_shape t shapes i s are e = subst IsSoundShape (get_or_from_slice_get shapes i s s e) (All-get_or IsSoundShape shapes i s (slice_get_within shapes i s e) are.sound)

-- ---- what a connector stands for

-- for itself
pub record IsItself (t : SystemTree) (shapes : List Shape) (points : List paths.Point) (c : ℕ) : Type 0 where
  pub number : paths.Point
  pub point : point_of t shapes c ≡ Some (Itself c)
  pub numbered : slice_get points c ≡ Some number
  pub after : number_of (length (all_variables shapes)) number ≡ length (all_variables shapes) + c
  pub system : numbers.IsOfSystem number ↔ IsOfSystem t (Itself c)
  pub names : variable_of t shapes c ≡ None

-- for a variable of a component
pub record IsNamed (t : SystemTree) (shapes : List Shape) (points : List paths.Point) (c : ℕ) : Type 0 where
  pub component : ℕ
  pub place : ℕ
  pub shape : Shape
  pub variable : Variable
  pub of : slice_get shapes component ≡ Some shape
  pub at : slice_get shape.variables place ≡ Some variable
  pub point : point_of t shapes c ≡ Some (OfComponent component variable.reference)
  pub numbered : slice_get points c ≡ Some (Numbered (begin_of shapes component + place))
  pub names : variable_of t shapes c ≡ Some variable
  pub other : IsOfSystem t (Itself c) → ⊥

module _ (t : SystemTree) (shapes : List Shape) (points : List paths.Point) (are : AreNumbered t shapes points) (c : ℕ) where
  abbrev Sort : Type 0
  Sort = IsItself t shapes points c ⊎ IsNamed t shapes points c

  -- a component's connector, by what its name is for
  of_place : (k : Connector) (i : ℕ) (s : Shape) (place : Option ℕ) → slice_get shapes i ≡ Some s → position (has_name k.name) s.variables ≡ place → (IsOfSystem t (Itself c) → ⊥)
      → point_of t shapes c ≡ Some (point_for c (Component i) (named_by shapes (Component i) k.name)) → slice_get points c ≡ Some (number_for shapes c (Component i) (place_for shapes (Component i) k.name)) → variable_of t shapes c ≡ named_by shapes (Component i) k.name → Sort
  of_place k i s None at none other point number variable =
      let here = ap (option_and_then (λ (z : Shape). position (has_name k.name) z.variables)) at ∙ none in
      let named = ap (option_and_then (λ (z : Shape). find (has_name k.name) z.variables)) at ∙ find_missing (has_name k.name) s.variables none in
      inl (record {
        number = Numbered (length (all_variables shapes) + c);
        point = point ∙ ap (λ z. Some (point_for c (Component i) z)) named;
        numbered = number ∙ ap (λ z. Some (number_for shapes c (Component i) z)) here;
        after = refl;
        system = (λ h. absurd h, λ h. absurd (other h));
        names = variable ∙ named;
      })
  of_place k i s (Some place) at some other point number variable =
      let x = get_or s.variables place in
      let here = ap (option_and_then (λ (z : Shape). position (has_name k.name) z.variables)) at ∙ some in
      let found = slice_get_there s.variables place (placed_within (has_name k.name) s.variables place some) in
      let named = ap (option_and_then (λ (z : Shape). find (has_name k.name) z.variables)) at ∙ find_placed (has_name k.name) s.variables place some ∙ found.1 in
      inr (record {
        component = i;
        place = place;
        shape = s;
        variable = found.0;
        of = at;
        at = found.1;
        point = point ∙ ap (λ z. Some (point_for c (Component i) z)) named;
        numbered = number ∙ ap (λ z. Some (number_for shapes c (Component i) z)) here;
        names = variable ∙ named;
        other = other;
      })
    where
      slice_get_there : (xs : List Variable) (n : ℕ) → n < length xs → (x : Variable) × (slice_get xs n ≡ Some x)
      slice_get_there [] n l = absurd (omega (arith, l))
      slice_get_there (x ∷ xs) zero l = (x, refl)
      slice_get_there (x ∷ xs) (suc n) l = slice_get_there xs n (omega (arith, l))

  of_component : (k : Connector) (i : ℕ) (s : Option Shape) → slice_get shapes i ≡ s → (IsOfSystem t (Itself c) → ⊥)
      → point_of t shapes c ≡ Some (point_for c (Component i) (named_by shapes (Component i) k.name)) → slice_get points c ≡ Some (number_for shapes c (Component i) (place_for shapes (Component i) k.name)) → variable_of t shapes c ≡ named_by shapes (Component i) k.name → Sort
  of_component k i None none other point number variable =
      let here = ap (option_and_then (λ (z : Shape). position (has_name k.name) z.variables)) none in
      let named = ap (option_and_then (λ (z : Shape). find (has_name k.name) z.variables)) none in
      inl (record {
        number = Numbered (length (all_variables shapes) + c);
        point = point ∙ ap (λ z. Some (point_for c (Component i) z)) named;
        numbered = number ∙ ap (λ z. Some (number_for shapes c (Component i) z)) here;
        after = refl;
        system = (λ h. absurd h, λ h. absurd (other h));
        names = variable ∙ named;
      })
  of_component k i (Some s) some other point number variable = of_place k i s (position (has_name k.name) s.variables) some refl other point number variable

  of_owner : (k : Connector) (o : Owner) → slice_get t.connectors c ≡ Some k → k.owner ≡ o
      → point_of t shapes c ≡ Some (point_for c o (named_by shapes o k.name)) → slice_get points c ≡ Some (number_for shapes c o (place_for shapes o k.name)) → variable_of t shapes c ≡ named_by shapes o k.name → Sort
  of_owner k (System system) at owner point number variable = inl (record {
    number = OfSystem c;
    point = point;
    numbered = number;
    after = refl;
    system = (λ h. subst (λ z. IsSomeAnd z (λ (z : Connector). is_of_system z.owner ≡ true)) (sym at) (ap is_of_system owner), λ h. tt);
    names = variable;
  })
  of_owner k (Component i) at owner point number variable =
      of_component k i (slice_get shapes i) refl (λ h. false≢true (sym (ap is_of_system owner) ∙ subst (λ z. IsSomeAnd z (λ (z : Connector). is_of_system z.owner ≡ true)) at h)) point number variable

  pub sort_of : (k : Connector) → slice_get t.connectors c ≡ Some k → Sort
  sort_of k at = of_owner k k.owner at refl (ap (option_map (λ (z : Connector). point_for c z.owner (named_by shapes z.owner z.name))) at) (are.each c k at) (ap (option_and_then (λ (z : Connector). named_by shapes z.owner z.name)) at)

-- ---- two connectors

module _ (t : SystemTree) (shapes : List Shape) (points : List paths.Point) (sound : AreShapesOf t shapes) where
  abbrev N : ℕ
  N = length (all_variables shapes)

  named_number : (c : ℕ) (n : IsNamed t shapes points c) → begin_of shapes n.component + n.place < N
  named_number c n = number_within shapes n.component n.place n.shape n.of (slice_get_within n.shape.variables n.place n.variable n.at)

  named_same : (c d : ℕ) (n : IsNamed t shapes points c) (m : IsNamed t shapes points d) → begin_of shapes n.component + n.place ≡ begin_of shapes m.component + m.place → point_of t shapes c ≡ point_of t shapes d
  named_same c d n m same =
      let e = number_apart shapes n.component m.component n.place m.place n.shape m.shape n.of m.of (slice_get_within n.shape.variables n.place n.variable n.at) (slice_get_within m.shape.variables m.place m.variable m.at) same in
      let shape : n.shape ≡ m.shape = same_Some n.shape m.shape (sym n.of ∙ ap (slice_get shapes) e.0 ∙ m.of) in
      let variable : n.variable ≡ m.variable = same_Some n.variable m.variable (sym n.at ∙ ap (slice_get n.shape.variables) e.1 ∙ ap (λ (z : Shape). slice_get z.variables m.place) shape ∙ m.at) in
      n.point ∙ ap (λ z. Some (OfComponent z n.variable.reference)) e.0 ∙ ap (λ (z : Variable). Some (OfComponent m.component z.reference)) variable ∙ sym m.point

  -- connectors of one number stand for one point
  pub point_by_number : (c d : ℕ) (p q : paths.Point) → IsItself t shapes points c ⊎ IsNamed t shapes points c → IsItself t shapes points d ⊎ IsNamed t shapes points d
      → slice_get points c ≡ Some p → slice_get points d ≡ Some q → number_of N p ≡ number_of N q → point_of t shapes c ≡ point_of t shapes d
  point_by_number c d p q (inl i) (inl j) ep eq same =
      let pi = ap (number_of N) (same_Some p i.number (sym ep ∙ i.numbered)) in
      let qj = ap (number_of N) (same_Some q j.number (sym eq ∙ j.numbered)) in
      let b = i.after in
      let e = j.after in
      let is : c ≡ d = omega (arith, pi, qj, same, b, e) in
      ap (point_of t shapes) is
  point_by_number c d p q (inl i) (inr m) ep eq same =
      let pi = ap (number_of N) (same_Some p i.number (sym ep ∙ i.numbered)) in
      let qm = ap (number_of N) (same_Some q (Numbered (begin_of shapes m.component + m.place)) (sym eq ∙ m.numbered)) in
      let b = i.after in
      let l = named_number d m in
      absurd (omega (arith, pi, qm, same, b, l))
  point_by_number c d p q (inr n) (inl j) ep eq same =
      let pn = ap (number_of N) (same_Some p (Numbered (begin_of shapes n.component + n.place)) (sym ep ∙ n.numbered)) in
      let qj = ap (number_of N) (same_Some q j.number (sym eq ∙ j.numbered)) in
      let e = j.after in
      let l = named_number c n in
      absurd (omega (arith, pn, qj, same, e, l))
  point_by_number c d p q (inr n) (inr m) ep eq same =
      let pn = ap (number_of N) (same_Some p (Numbered (begin_of shapes n.component + n.place)) (sym ep ∙ n.numbered)) in
      let qm = ap (number_of N) (same_Some q (Numbered (begin_of shapes m.component + m.place)) (sym eq ∙ m.numbered)) in
      named_same c d n m (sym pn ∙ same ∙ qm)

  -- connectors of one point have one number
  pub numbered_by_point : (c d : ℕ) (p : Point) → IsItself t shapes points c ⊎ IsNamed t shapes points c → IsItself t shapes points d ⊎ IsNamed t shapes points d
      → point_of t shapes c ≡ Some p → point_of t shapes d ≡ Some p → slice_get points c ≡ slice_get points d
  numbered_by_point c d p (inl i) (inl j) ep eq =
      let e : Some (Itself c) ≡ Some (Itself d) = sym i.point ∙ ep ∙ sym eq ∙ j.point in
      let is : c ≡ d = cc in
      ap (slice_get points) is
  numbered_by_point c d p (inl i) (inr m) ep eq =
      let e : Some (Itself c) ≡ Some (OfComponent m.component m.variable.reference) = sym i.point ∙ ep ∙ sym eq ∙ m.point in
      cc
  numbered_by_point c d p (inr n) (inl j) ep eq =
      let e : Some (OfComponent n.component n.variable.reference) ≡ Some (Itself d) = sym n.point ∙ ep ∙ sym eq ∙ j.point in
      cc
  numbered_by_point c d p (inr n) (inr m) ep eq =
      let e : Some (OfComponent n.component n.variable.reference) ≡ Some (OfComponent m.component m.variable.reference) = sym n.point ∙ ep ∙ sym eq ∙ m.point in
      let component : n.component ≡ m.component = cc in
      let reference : n.variable.reference ≡ m.variable.reference = cc in
      let shape : n.shape ≡ m.shape = same_Some n.shape m.shape (sym n.of ∙ ap (slice_get shapes) component ∙ m.of) in
      let place = place_alone n.shape n.place m.place n.variable m.variable (sound_shape t shapes n.component n.shape sound n.of) n.at (subst (λ (z : Shape). slice_get z.variables m.place ≡ Some m.variable) (sym shape) m.at) reference in
      n.numbered ∙ ap (λ z. Some (Numbered (begin_of shapes z + n.place))) component ∙ ap (λ z. Some (Numbered (begin_of shapes m.component + z))) place ∙ sym m.numbered

  -- the variable that a connector names is the one at its point
  pub variable_there : (c : ℕ) (p : Point) → IsItself t shapes points c ⊎ IsNamed t shapes points c → point_of t shapes c ≡ Some p → variable_at_point shapes p ≡ variable_of t shapes c
  variable_there c p (inl i) e =
      ap (variable_at_point shapes) (same_Some p (Itself c) (sym e ∙ i.point)) ∙ sym i.names
  variable_there c p (inr n) e =
      ap (variable_at_point shapes) (same_Some p (OfComponent n.component n.variable.reference) (sym e ∙ n.point)) ∙ ap (option_and_then (λ (s : Shape). variable_at s.variables n.variable.reference)) n.of
      ∙ variable_under n.shape n.place n.variable (sound_shape t shapes n.component n.shape sound n.of) n.at ∙ sym n.names
