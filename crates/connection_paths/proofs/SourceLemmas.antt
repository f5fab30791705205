-- Paths of connections are paths of links.
use Rattle.std.proofs.Common.{◌≡◌, ◌↔◌, ℕ, ◌<◌, Bool, List, [], ◌∷◌, length, get_or, map, Option, Some, None, Result, Ok, Err, refl, sym, ap, ◌∙◌, subst, arith}
use Rattle.std.specs.List.{Contains, All, slice_get}
use Rattle.std.proofs.lemmas.List.{get_or-map, length-map, get_or_default}
use Rattle.std.proofs.lemmas.List.Elements.{All-nil, All-cons, All-head, All-tail, All-contains, All-from_get_or, Contains-get_or}
use Rattle.std.proofs.lemmas.Option.{slice_get_within, same_Some}
use Rattle.std.specs.Result.{IfOk}
use Rattle.std.specs.declared.alloc.Global.{Global}
use Rattle.std.specs.declared.vec.Vec.{Vec}
use Rattle.dependency_order.specs.Graph.{AreBelow, Needs, Leads, IsClosed}
use Rattle.dependency_order.specs.Paths.{IsMarked}
use Rattle.dependency_order.specs.Paths.{IsReached, IsSpread}
use Rattle.connection_paths.specs.declared.point.Point.{Point}
use Rattle.connection_paths.specs.declared.point.Connection.{Connection}
use Rattle.connection_paths.specs.Paths.{Joins, IsOfSystem, Feeds, FindsSource}
use Rattle.connection_paths.specs.Firsts.{AreFirsts, AreLinks}
use Rattle.connection_paths.proofs.FirstLemmas.{point_at, first_within}

-- the first connectors of a list
pub contains_map : (f : ℕ → ℕ) (xs : List ℕ) (x : ℕ) → Contains xs x → Contains (map f xs) (f x)
contains_map f xs x h = (h.0, (let n = length-map xs f in let l = h.1 in omega (arith, n, l)), get_or-map f xs h.0 x (f x) h.1 ∙ ap f h.2)

pub map_contains : (f : ℕ → ℕ) (xs : List ℕ) (y : ℕ) → Contains (map f xs) y → (x : ℕ) × Contains xs x × (f x ≡ y)
map_contains f xs y h =
    let l : h.0 < length xs = (let n = length-map xs f in let w = h.1 in omega (arith, n, w)) in
    (get_or xs h.0 0, (h.0, l, same xs h.0 l), sym (get_or-map f xs h.0 0 y l) ∙ h.2)
  where
    same : (zs : List ℕ) (k : ℕ) → k < length zs → get_or zs k (get_or zs k 0) ≡ get_or zs k 0
    same zs k l = grind (arith, get_or_default)

module _ (points : List Point) (connections : List Connection) (firsts : List ℕ) (links : List (List ℕ)) (marks : List Bool) (a : AreFirsts points firsts) (are : AreLinks firsts connections links)
    (ends : (c : Connection) → Contains connections c → (c.start < length points) × (c.end < length points)) (marked : (c : ℕ) (p : Point) → slice_get points c ≡ Some p → IsMarked marks c ↔ IsOfSystem p) where
  one_point : (c : ℕ) (p q : Point) → slice_get points c ≡ Some p → slice_get points c ≡ Some q → p ≡ q
  one_point c p q e h = same_Some p q (sym e ∙ h)

  -- the end of a link is a connector with a point
  ends_at : (x y : ℕ) → Needs links x y → (p : Point) × (slice_get points y ≡ Some p)
  ends_at x y h =
      let l = (are x y).0 h in
      let p = point_at points l.connection.end (ends l.connection l.is).1 in
      (p.0, subst (λ z. slice_get points z ≡ Some p.0) l.end (a.is l.connection.end p.0 p.1))

  joins : (x y : ℕ) (p q : Point) → Needs links x y → slice_get points x ≡ Some p → slice_get points y ≡ Some q → Joins points connections p q
  joins x y p q h ex ey =
      let l = (are x y).0 h in
      let s = point_at points l.connection.start (ends l.connection l.is).0 in
      let t = point_at points l.connection.end (ends l.connection l.is).1 in
      let sp : s.0 ≡ p = one_point x s.0 p (subst (λ z. slice_get points z ≡ Some s.0) l.start (a.is l.connection.start s.0 s.1)) ex in
      let tq : t.0 ≡ q = one_point y t.0 q (subst (λ z. slice_get points z ≡ Some t.0) l.end (a.is l.connection.end t.0 t.1)) ey in
      record { connection = l.connection; is = l.is; start = s.1 ∙ ap Some sp; end = t.1 ∙ ap Some tq }

  to_points : (x : ℕ) (xs : List ℕ) (y : ℕ) (p q : Point) → All (IsMarked marks) xs → Leads (Needs links) x xs y → slice_get points x ≡ Some p → slice_get points y ≡ Some q → Feeds points connections p q
  to_points x [] y p q all leads ex ey = record { between = []; through = All-nil IsOfSystem; leads = joins x y p q leads ex ey }
  to_points x (z ∷ zs) y p q all leads ex ey =
      let r = ends_at x z leads.0 in
      let rest = to_points z zs y r.0 q (All-tail (IsMarked marks) z zs all) leads.1 r.1 ey in
      record {
        between = r.0 ∷ rest.between;
        through = All-cons IsOfSystem r.0 rest.between ((marked z r.0 r.1).0 (All-head (IsMarked marks) z zs all)) rest.through;
        leads = (joins x z p r.0 leads.0 ex r.1, rest.leads);
      }

  -- the first connector of a point
  IsFirst : Point → ℕ → Type 0
  IsFirst p x = (d : ℕ) → slice_get points d ≡ Some p → get_or firsts d 0 ≡ x

  needs : (x y : ℕ) (p q : Point) → IsFirst p x → IsFirst q y → Joins points connections p q → Needs links x y
  unfolding IsFirst
  needs x y p q fx fy j = (are x y).1 (record { connection = j.connection; is = j.is; start = fx j.connection.start j.start; end = fy j.connection.end j.end })

  to_links : (p : Point) (ps : List Point) (q : Point) (x y : ℕ) → All IsOfSystem ps → Leads (Joins points connections) p ps q → IsFirst p x → IsFirst q y → IsReached links marks x y
  unfolding IsFirst
  to_links p [] q x y all leads fx fy = record { between = []; through = All-nil (IsMarked marks); leads = needs x y p q fx fy leads }
  to_links p (r ∷ rs) q x y all leads fx fy =
      let j = leads.0 in
      let z = get_or firsts j.connection.end 0 in
      let fz : (d : ℕ) → slice_get points d ≡ Some r → get_or firsts d 0 ≡ get_or firsts j.connection.end 0 = λ (d : ℕ) (e : slice_get points d ≡ Some r). a.same d j.connection.end r e j.end in
      let rest = to_links r rs q z y (All-tail IsOfSystem r rs all) leads.1 fz fy in
      record {
        between = z ∷ rest.between;
        through = All-cons (IsMarked marks) z rest.between ((marked z r (a.is j.connection.end r j.end)).1 (All-head IsOfSystem r rs all)) rest.through;
        leads = (needs x z p r fx fz j, rest.leads);
      }

  finds : (outputs starts : List ℕ) (found : List (Option ℕ)) → ((c : ℕ) → Contains outputs c → c < length points) → starts ≡ map (λ c. get_or firsts c 0) outputs → IsSpread links marks starts found
      → (c : ℕ) (p : Point) → slice_get points c ≡ Some p → (o : Option ℕ) → get_or found (get_or firsts c 0) None ≡ o → FindsSource points connections outputs p o
  unfolding IsFirst
  finds outputs starts found inside is sp c p e None none =
      λ q h r. sp.none (get_or firsts c 0) (get_or firsts h.0 0) none (subst (λ z. Contains z (get_or firsts h.0 0)) (sym is) (contains_map (λ k. get_or firsts k 0) outputs h.0 h.1))
      (to_links q r.between p (get_or firsts h.0 0) (get_or firsts c 0) r.through r.leads (λ d x. a.same d h.0 q x h.2) (λ d x. a.same d c p x e))
  finds outputs starts found inside is sp c p e (Some s) some =
      let h = sp.start (get_or firsts c 0) s some in
      let o = map_contains (λ k. get_or firsts k 0) outputs s (subst (λ z. Contains z s) is h.0) in
      let q = point_at points o.0 (inside o.0 o.1) in
      let es : slice_get points s ≡ Some q.0 = subst (λ z. slice_get points z ≡ Some q.0) o.2 (a.is o.0 q.0 q.1) in
      (q.0, es, (o.0, o.1, q.1), to_points s h.1.between (get_or firsts c 0) q.0 p h.1.through h.1.leads es (a.is c p e))

-- ---- the code's steps

pub lent_within : (points : List Point) (firsts lent : List ℕ) (c : ℕ) → AreFirsts points firsts → lent ≡ firsts → c < length lent → get_or lent c 0 < length lent
lent_within points firsts lent c a is l = first_within points lent c (subst (AreFirsts points) (sym is) a) l

pub outputs_within : (points : List Point) (firsts lent : List ℕ) (c : ℕ) → AreFirsts points firsts → lent ≡ firsts → c < length points → c < length lent
outputs_within points firsts lent c a is l =
    let n = a.same_length in
    let m = ap length is in
    omega (arith, n, m, l)

below_links : (points : List Point) (connections : List Connection) (firsts lent : List ℕ) (links : List (List ℕ)) → AreFirsts points firsts → lent ≡ firsts → AreLinks lent connections links
    → ((c : Connection) → Contains connections c → (c.start < length points) × (c.end < length points)) → length links ≡ length lent → AreBelow links (length links)
below_links points connections firsts lent links a is are ends len p q h =
    let l = (are p q).0 h in
    let w = lent_within points firsts lent l.connection.end a is (outputs_within points firsts lent l.connection.end a is (ends l.connection l.is).1) in
    let e = l.end in
    omega (arith, w, e, len)

pub closed_links : (points : List Point) (connections : List Connection) (firsts lent : List ℕ) (links : List (List ℕ)) → AreFirsts points firsts → lent ≡ firsts → AreLinks lent connections links
    → ((c : Connection) → Contains connections c → (c.start < length points) × (c.end < length points)) → length links ≡ length lent → IsClosed links
closed_links points connections firsts lent links a is are ends len = record { below = below_links points connections firsts lent links a is are ends len }

pub starts_within : (points : List Point) (firsts lent begins made starts : List ℕ) (links : List (List ℕ)) (n : ℕ) → AreFirsts points firsts → lent ≡ firsts → made ≡ map (λ c. get_or lent c 0) starts → begins ≡ made → All (λ c. c < length points) starts
    → length links ≡ n → n ≡ length lent → All (λ s. s < length links) begins
starts_within points firsts lent begins made starts links n a is maps same inside len n' =
    All-from_get_or (λ s. s < length links) begins 0 (λ k l. by (get_or begins k 0) (Contains-get_or begins k 0 l))
  where
    by : (s : ℕ) → Contains begins s → s < length links
    by s h =
        let o = map_contains (λ k. get_or lent k 0) starts s (subst (λ z. Contains z s) (same ∙ maps) h) in
        let w = lent_within points firsts lent o.0 a is (outputs_within points firsts lent o.0 a is (All-contains (λ c. c < length points) starts o.0 inside o.1)) in
        let e = o.2 in
        omega (arith, w, e, len, n')

pub sources_found : {E : Type 0} (r : Result (Vec (Option ℕ) Global) E) (points : List Point) (connections : List Connection) (outputs firsts lent lent2 lent3 starts lent_starts : List ℕ) (links : List (List ℕ)) (marks lent_marks : List Bool) (found lent_found : List (Option ℕ))
    → AreFirsts points firsts → lent ≡ firsts → lent2 ≡ firsts → lent3 ≡ firsts → AreLinks lent connections links → ((c : Connection) → Contains connections c → (c.start < length points) × (c.end < length points))
    → ((c : ℕ) (p : Point) → slice_get points c ≡ Some p → IsMarked marks c ↔ IsOfSystem p) → lent_marks ≡ marks → ((c : ℕ) → Contains outputs c → c < length points) → starts ≡ map (λ c. get_or lent2 c 0) outputs → lent_starts ≡ starts
    → IsSpread links lent_marks lent_starts found → lent_found ≡ found → IfOk r (λ all. all.items ≡ map (λ c. get_or lent_found c None) lent3)
    → IfOk r (λ all. (c : ℕ) (p : Point) → slice_get points c ≡ Some p → FindsSource points connections outputs p (get_or all.items c None))
sources_found (Err e) points connections outputs firsts lent lent2 lent3 starts lent_starts links marks lent_marks found lent_found a l1 l2 l3 are ends marked lm inside maps ls sp lf gives = tt
sources_found (Ok all) points connections outputs firsts lent lent2 lent3 starts lent_starts links marks lent_marks found lent_found a l1 l2 l3 are ends marked lm inside maps ls sp lf gives =
    λ c p e.
    let n : c < length firsts = (let w = slice_get_within points c p e in let m = a.same_length in omega (arith, w, m)) in
    let read : get_or all.items c None ≡ get_or found (get_or firsts c 0) None =
    ap (λ (z : List (Option ℕ)). get_or z c None) (gives ∙ ap (λ z. map (λ k. get_or z k None) lent3) lf ∙ ap (map (λ k. get_or found k None)) l3) ∙ get_or-map (λ k. get_or found k None) firsts c 0 None n in
    subst (FindsSource points connections outputs p) (sym read)
    (finds points connections firsts links marks a (subst (λ z. AreLinks z connections links) l1 are) ends marked outputs starts found inside (maps ∙ ap (λ z. map (λ k. get_or z k 0) outputs) l2)
    (subst (λ z. IsSpread links z starts found) lm (subst (λ z. IsSpread links lent_marks z found) ls sp)) c p e (get_or found (get_or firsts c 0) None) refl)
