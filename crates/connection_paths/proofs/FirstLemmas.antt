-- First connectors, and links between them.
use Rattle.std.proofs.Common.{◌≡◌, ◌⊎◌, ℕ, zero, suc, ◌+◌, ◌<◌, ◌≤◌, List, [], ◌∷◌, ◌++◌, length, take, get_or, set, Some, refl, sym, ap, ◌∙◌, subst, inl, inr, arith}
use Rattle.std.specs.List.{Contains, slice_get}
use Rattle.std.specs.BTreeMap.{BTreeMap}
use Rattle.std.proofs.lemmas.Bool.{cases_lt}
use Rattle.std.proofs.lemmas.List.{take_more, take_all, length_push, get_or_push, get_or_append_left, get_or-set_same}
use Rattle.std.proofs.lemmas.List.Elements.{Contains-push, Contains-push_cases, Contains-append_left, Contains-get_or}
use Rattle.std.proofs.lemmas.Option.{slice_get_within, same_Some}
use Rattle.dependency_order.specs.Graph.{Needs}
use Rattle.dependency_order.proofs.CallerLemmas.{in_pushed, in_pushed_back}
use Rattle.connection_paths.specs.declared.point.Point.{Point}
use Rattle.connection_paths.specs.declared.point.Point.TheVariants.{Variable, OfSystem}
use Rattle.connection_paths.specs.declared.point.Connection.{Connection}
use Rattle.connection_paths.specs.Firsts.{AreFirsts, ArePlaced, AreLinks, IsTableOf, Link, at}

-- ---- first connectors

pub point_at : (points : List Point) (c : ℕ) → c < length points → (p : Point) × (slice_get points c ≡ Some p)
point_at [] c l = absurd (omega (arith, l))
point_at (p ∷ ps) zero l = (p, refl)
point_at (p ∷ ps) (suc c) l = point_at ps c (omega (arith, l))

pub first_within : (points : List Point) (firsts : List ℕ) (c : ℕ) → AreFirsts points firsts → c < length firsts → get_or firsts c 0 < length firsts
first_within points firsts c a l =
    let n = a.same_length in
    let p = point_at points c (omega (arith, n, l)) in
    let w = slice_get_within points (get_or firsts c 0) p.0 (a.is c p.0 p.1) in
    omega (arith, n, w)

placed_cases : (i c : ℕ) (P : ℕ → Type 0) → (c < i → P c) → P i → c < i + 1 → P c
placed_cases i c P below here l = by (cases_lt c i)
  where
    by : (c < i) ⊎ (i ≤ c) → P c
    by (inl h) = below h
    by (inr h) = let e : i ≡ c = omega arith in subst P e here

-- the next point is of this kind
table_here : (make : ℕ → Point) → ((v w : ℕ) → make v ≡ make w → v ≡ w) → (points : List Point) (i : ℕ) (table table' : BTreeMap ℕ ℕ) (all : List ℕ) (v first : ℕ) → length all ≡ i → IsTableOf make points i table all → slice_get points i ≡ Some (make v)
    → at table' v ≡ Some first → ((w c : ℕ) → at table w ≡ Some c → at table' w ≡ Some c) → ((w c : ℕ) → at table' w ≡ Some c → (at table w ≡ Some c) ⊎ ((w ≡ v) × (c ≡ i))) → IsTableOf make points (i + 1) table' (all ++ first ∷ [])
table_here make one points i table table' all v first len t is found kept only = record {
  stands = λ w c e. at_table w c (only w c e);
  told = λ c w l e. placed_cases i c (λ z. slice_get points z ≡ Some (make w) → at table' w ≡ Some (get_or (all ++ first ∷ []) z 0))
      (λ h e'. kept w (get_or all c 0) (t.told c w h e') ∙ ap Some (sym (get_or_append_left all (first ∷ []) 0 c (omega (arith, len, h)))))
      (λ e'. let same : v ≡ w = one v w (same_Some (make v) (make w) (sym is ∙ e')) in ap (at table') (sym same) ∙ found ∙ ap Some (sym (get_or_push all first 0 i len))) l e;
}
  where
    at_table : (w c : ℕ) → (at table w ≡ Some c) ⊎ ((w ≡ v) × (c ≡ i)) → slice_get points c ≡ Some (make w)
    at_table w c (inl e) = t.stands w c e
    at_table w c (inr h) = subst (λ z. slice_get points z ≡ Some (make w)) (sym h.1) (is ∙ ap (λ z. Some (make z)) (sym h.0))

-- it is of the other kind
table_other : (make : ℕ → Point) (points : List Point) (i : ℕ) (table : BTreeMap ℕ ℕ) (all : List ℕ) (first : ℕ) → length all ≡ i → IsTableOf make points i table all → ((w : ℕ) → slice_get points i ≡ Some (make w) → ⊥) → IsTableOf make points (i + 1) table (all ++ first ∷ [])
table_other make points i table all first len t other = record {
  stands = t.stands;
  told = λ c w l e. placed_cases i c (λ z. slice_get points z ≡ Some (make w) → at table w ≡ Some (get_or (all ++ first ∷ []) z 0))
      (λ h e'. t.told c w h e' ∙ ap Some (sym (get_or_append_left all (first ∷ []) 0 c (omega (arith, len, h)))))
      (λ e'. absurd (other w e')) l e;
}

pub placed_variable : (points : List Point) (i : ℕ) (table table' systems : BTreeMap ℕ ℕ) (all all' : List ℕ) (v first : ℕ) → ArePlaced points i table systems all → slice_get points i ≡ Some (Variable v)
    → at table' v ≡ Some first → ((w c : ℕ) → at table w ≡ Some c → at table' w ≡ Some c) → ((w c : ℕ) → at table' w ≡ Some c → (at table w ≡ Some c) ⊎ ((w ≡ v) × (c ≡ i))) → all' ≡ all ++ first ∷ []
    → ArePlaced points (i + 1) table' systems all'
placed_variable points i table table' systems all all' v first a is found kept only pushed = subst (ArePlaced points (i + 1) table' systems) (sym pushed) (record {
  len = length_push all first ∙ ap (λ n. n + 1) a.len;
  of_components = table_here Variable (λ v w e. cc) points i table table' all v first a.len a.of_components is found kept only;
  of_systems = table_other OfSystem points i systems all first a.len a.of_systems (λ w e. let un : Some (Variable v) ≡ Some (OfSystem w) = sym is ∙ e in cc);
})

pub placed_system : (points : List Point) (i : ℕ) (variables table table' : BTreeMap ℕ ℕ) (all all' : List ℕ) (v first : ℕ) → ArePlaced points i variables table all → slice_get points i ≡ Some (OfSystem v)
    → at table' v ≡ Some first → ((w c : ℕ) → at table w ≡ Some c → at table' w ≡ Some c) → ((w c : ℕ) → at table' w ≡ Some c → (at table w ≡ Some c) ⊎ ((w ≡ v) × (c ≡ i))) → all' ≡ all ++ first ∷ []
    → ArePlaced points (i + 1) variables table' all'
placed_system points i variables table table' all all' v first a is found kept only pushed = subst (ArePlaced points (i + 1) variables table') (sym pushed) (record {
  len = length_push all first ∙ ap (λ n. n + 1) a.len;
  of_components = table_other Variable points i variables all first a.len a.of_components (λ w e. let un : Some (OfSystem v) ≡ Some (Variable w) = sym is ∙ e in cc);
  of_systems = table_here OfSystem (λ v w e. cc) points i table table' all v first a.len a.of_systems is found kept only;
})

pub placed_end : (points : List Point) (i : ℕ) (variables systems : BTreeMap ℕ ℕ) (all : List ℕ) → length points ≤ i → i ≤ length points → ArePlaced points i variables systems all → AreFirsts points all
placed_end points i variables systems all past end a = record {
  same_length = let n = a.len in omega (arith, n);
  is = λ c p e. is c p e;
  same = λ c d p e h. same c d p e h;
}
  where
    below : (c : ℕ) (p : Point) → slice_get points c ≡ Some p → c < i
    below c p e = let w = slice_get_within points c p e in omega (arith, w)

    is : (c : ℕ) (p : Point) → slice_get points c ≡ Some p → slice_get points (get_or all c 0) ≡ Some p
    is c (Variable v) e = a.of_components.stands v (get_or all c 0) (a.of_components.told c v (below c (Variable v) e) e)
    is c (OfSystem v) e = a.of_systems.stands v (get_or all c 0) (a.of_systems.told c v (below c (OfSystem v) e) e)

    same : (c d : ℕ) (p : Point) → slice_get points c ≡ Some p → slice_get points d ≡ Some p → get_or all c 0 ≡ get_or all d 0
    same c d (Variable v) e h = same_Some (get_or all c 0) (get_or all d 0) (sym (a.of_components.told c v (below c (Variable v) e) e) ∙ a.of_components.told d v (below d (Variable v) h) h)
    same c d (OfSystem v) e h = same_Some (get_or all c 0) (get_or all d 0) (sym (a.of_systems.told c v (below c (OfSystem v) e) e) ∙ a.of_systems.told d v (below d (OfSystem v) h) h)

-- ---- links

link_more : (firsts : List ℕ) (some more : List Connection) (a b : ℕ) → ((k : Connection) → Contains some k → Contains more k) → Link firsts some a b → Link firsts more a b
link_more firsts some more a b on l = record { connection = l.connection; is = on l.connection l.is; start = l.start; end = l.end }

pub links_more : (firsts : List ℕ) (connections : List Connection) (i : ℕ) (d : Connection) (old new : List (List ℕ)) (start end : ℕ) → i < length connections → AreLinks firsts (take i connections) old
    → start ≡ get_or firsts (get_or connections i d).start 0 → end ≡ get_or firsts (get_or connections i d).end 0 → start < length old → new ≡ set old start (get_or old start [] ++ end ∷ []) → AreLinks firsts (take (i + 1) connections) new
links_more firsts connections i d old new start end within was es ee inside is a b =
    (λ h. from (in_pushed_back old start end a b inside (subst (λ z. Needs z a b) is h)), λ l. subst (λ z. Needs z a b) (sym is) (onto l.connection (Contains-push_cases (take i connections) (get_or connections i d) l.connection (subst (λ z. Contains z l.connection) (take_more connections i d within) l.is)) l.start l.end))
  where
    later : (k : Connection) → Contains (take i connections) k → Contains (take (i + 1) connections) k
    later k h = subst (λ z. Contains z k) (sym (take_more connections i d within)) (Contains-append_left (take i connections) (get_or connections i d ∷ []) k h)

    here : Contains (take (i + 1) connections) (get_or connections i d)
    here = subst (λ z. Contains z (get_or connections i d)) (sym (take_more connections i d within)) (Contains-push (take i connections) (get_or connections i d))

    from : Needs old a b ⊎ ((a ≡ start) × (end ≡ b)) → Link firsts (take (i + 1) connections) a b
    from (inl h) = link_more firsts (take i connections) (take (i + 1) connections) a b later ((was a b).0 h)
    from (inr e) = record { connection = get_or connections i d; is = here; start = sym es ∙ sym e.0; end = sym ee ∙ e.1 }

    onto : (k : Connection) → Contains (take i connections) k ⊎ (get_or connections i d ≡ k) → get_or firsts k.start 0 ≡ a → get_or firsts k.end 0 ≡ b → Needs (set old start (get_or old start [] ++ end ∷ [])) a b
    onto k (inl h) s e = in_pushed old start end a b inside ((was a b).1 (record { connection = k; is = h; start = s; end = e }))
    onto k (inr same) s e =
        let sa : start ≡ a = es ∙ ap (λ (z : Connection). get_or firsts z.start 0) same ∙ s in
        let eb : end ≡ b = ee ∙ ap (λ (z : Connection). get_or firsts z.end 0) same ∙ e in
        subst (λ z. Needs (set old start (get_or old start [] ++ end ∷ [])) z b) sa
        (subst (λ z. Contains (get_or (set old start (get_or old start [] ++ end ∷ [])) start []) z) eb
        (subst (λ z. Contains z end) (sym (get_or-set_same old start (get_or old start [] ++ end ∷ []) [] inside)) (Contains-push (get_or old start []) end)))

pub links_whole : (firsts : List ℕ) (connections : List Connection) (i : ℕ) (links : List (List ℕ)) → length connections ≤ i → AreLinks firsts (take i connections) links → AreLinks firsts connections links
links_whole firsts connections i links past was = subst (λ z. AreLinks firsts z links) (take_all i connections past) was

pub links_none : (firsts : List ℕ) (n : ℕ) (a b : ℕ) → Link firsts [] a b → ⊥
links_none firsts n a b l = let h = l.is.1 in absurd (omega (arith, h))

pub start_within : (firsts : List ℕ) (connections : List Connection) (i : ℕ) (d : Connection) (links : List (List ℕ)) (start : ℕ) → ((c : Connection) → Contains connections c → (c.start < length firsts) × (c.end < length firsts))
    → ((c : ℕ) → c < length firsts → get_or firsts c 0 < length firsts) → i < length connections → length links ≡ length firsts → start ≡ get_or firsts (get_or connections i d).start 0 → start < length links
start_within firsts connections i d links start ends below within len is =
    let e = ends (get_or connections i d) (Contains-get_or connections i d within) in
    let b = below (get_or connections i d).start e.0 in
    omega (arith, b, len, is)
