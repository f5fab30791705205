-- Connections as the last of paths, and connections with one end.
use Rattle.std.proofs.Common.{◌≡◌, ◌⊎◌, ◌↔◌, ℕ, ◌+◌, ◌<◌, ◌≤◌, Bool, true, false, List, length, get_or, set, map, Option, Some, None, refl, sym, ap, ◌∙◌, subst, inl, inr, arith, if◌then◌else◌}
use Rattle.std.specs.List.{Contains, slice_get}
use Rattle.std.specs.Option.{option_map, option_and_then}
use Rattle.std.proofs.lemmas.Bool.{cases_lt, cases_eq}
use Rattle.std.proofs.lemmas.List.{get_or-set_same, get_or-set_other, length-map}
use Rattle.std.proofs.lemmas.List.Elements.{All-contains}
use Rattle.std.proofs.lemmas.Option.{slice_get-map, slice_get_within, get_or_from_slice_get, same_Some}
use Rattle.dependency_order.specs.Paths.{IsMarked}
use Rattle.value_types.specs.Shape.{is_input}
use Rattle.value_types.specs.declared.shape.Causality.{Causality}
use Rattle.value_types.specs.declared.shape.Causality.TheVariants.{Input}
use Rattle.value_types.specs.declared.shape.Variable.{Variable}
use Rattle.value_types.specs.declared.shape.Shape.{Shape}
use Rattle.connection_paths.specs.declared.point.Point as paths
use Rattle.connection_paths.specs.declared.point.Point.TheVariants.{Variable as Numbered}
use Rattle.connection_paths.specs.declared.point.Connection as joints
use Rattle.connection_paths.specs.Paths as numbers
use Rattle.ssd_tree.specs.declared.tree.Connection.{Connection}
use Rattle.ssd_tree.specs.declared.tree.SystemTree.{SystemTree}
use Rattle.doc_tables.specs.Tables.{IsRepeated}
use Rattle.flatten.specs.declared.connectors.Variables.{Variables}
use Rattle.flatten.specs.Points.{Point, point_of, variable_of}
use Rattle.flatten.specs.Rules.{PathFault, IsLastOf, end_at}
use Rattle.flatten.specs.Given.{AreShapesOf, IsWholeTree}
use Rattle.flatten.specs.Indexed.{AreNumbered, AreVariables, all_variables, begin_of, ends_of}
use Rattle.flatten.specs.Broken.{IsReachedAt, IsReachedBy, input_of, number_of}
use Rattle.flatten.proofs.StandsLemmas.{IsItself, IsNamed, number_within, sort_of, point_by_number, numbered_by_point}
use Rattle.flatten.proofs.BridgeLemmas.{at_place, ends_within, point_at, slice_contains}
use Rattle.flatten.proofs.PathLemmas.{kind_of, names_variable, variable_here}

-- ---- the input at an end

input_is : (causality : Causality) → is_input causality ≡ true → causality ≡ Input
input_is Input e = refl
input_is _ e = cc

pub input_there : (t : SystemTree) (shapes : List Shape) (c : ℕ) (x : Variable) → input_of t shapes c ≡ Some x → (variable_of t shapes c ≡ Some x) × (x.causality ≡ Input)
input_there t shapes c x e = by (variable_of t shapes c) refl
  where
    tested : (y : Variable) (b : Bool) → is_input y.causality ≡ b → ◌≡◌ {A = Option Variable} (if b then Some y else None) (Some x) → (y ≡ x) × (x.causality ≡ Input)
    tested y true is some = let same : y ≡ x = same_Some y x some in (same, subst (λ (z : Variable). z.causality ≡ Input) same (input_is y.causality is))
    tested y false is some = cc

    by : (o : Option Variable) → variable_of t shapes c ≡ o → (variable_of t shapes c ≡ Some x) × (x.causality ≡ Input)
    by None is = let un = sym (ap (option_and_then (λ (y : Variable). if is_input y.causality then Some y else None)) is) ∙ e in cc
    by (Some y) is =
        let h = tested y (is_input y.causality) refl (sym (ap (option_and_then (λ (z : Variable). if is_input z.causality then Some z else None)) is) ∙ e) in
        (is ∙ ap Some h.0, h.1)

input_from : (t : SystemTree) (shapes : List Shape) (c : ℕ) (x : Variable) → variable_of t shapes c ≡ Some x → x.causality ≡ Input → input_of t shapes c ≡ Some x
input_from t shapes c x names is =
    ap (option_and_then (λ (y : Variable). if is_input y.causality then Some y else None)) names ∙ ap (λ (z : Causality). if is_input z then Some x else None) is

-- an end as it is read from the table
pub ends_read : (t : SystemTree) (connections : List joints.Connection) (i : ℕ) (e : joints.Connection) → connections ≡ map ends_of t.connections → e ≡ get_or connections i e → (y : Connection) → slice_get t.connections i ≡ Some y → e ≡ ends_of y
ends_read t connections i e ends read y at =
    let there : slice_get connections i ≡ Some (ends_of y) = ap (λ z. slice_get z i) ends ∙ slice_get-map ends_of t.connections i ∙ ap (option_map ends_of) at in
    read ∙ get_or_from_slice_get connections i (ends_of y) e there

-- ---- ends by their numbers

-- the connection ends at a point of this number
abbrev pub EndsWith : SystemTree → List paths.Point → ℕ → ℕ → ℕ → Type 0
EndsWith t points count i n = (k : Connection) × (slice_get t.connections i ≡ Some k) × ((p : paths.Point) × (slice_get points k.end ≡ Some p) × (number_of count p ≡ n))

-- the numbers that are taken are those of the first ends
abbrev pub AreTaken : SystemTree → List paths.Point → ℕ → ℕ → List Bool → Type 0
AreTaken t points count i taken = (n : ℕ) → IsMarked taken n ↔ ((j : ℕ) × (j < i) × EndsWith t points count j n)

pub taken_none : (t : SystemTree) (points : List paths.Point) (count : ℕ) (taken : List Bool) → ((n : ℕ) → IsMarked taken n → ⊥) → AreTaken t points count 0 taken
taken_none t points count taken none = λ n. (λ h. absurd (none n h), λ h. let l = h.1 in absurd (omega (arith, l)))

pub taken_more : (t : SystemTree) (points : List paths.Point) (count i n : ℕ) (taken : List Bool) → n < length taken → EndsWith t points count i n → AreTaken t points count i taken → AreTaken t points count (i + 1) (set taken n true)
taken_more t points count i n taken l ends was = λ m. (λ h. from m h (cases_eq m n), λ h. onto m h (cases_lt h.0 i))
  where
    from : (m : ℕ) → IsMarked (set taken n true) m → (m ≡ n) ⊎ (m ≡ n → ⊥) → (j : ℕ) × (j < i + 1) × EndsWith t points count j m
    from m h (inl e) = (i, omega arith, subst (EndsWith t points count i) (sym e) ends)
    from m h (inr other) = let w = (was m).0 (sym (get_or-set_other taken n m true false other) ∙ h) in (w.0, (let b = w.1 in omega (arith, b)), w.2)

    number_alone : (m : ℕ) → EndsWith t points count i m → m ≡ n
    number_alone m h =
        let k : h.0 ≡ ends.0 = same_Some h.0 ends.0 (sym h.1 ∙ ends.1) in
        let p : h.2.0 ≡ ends.2.0 = same_Some h.2.0 ends.2.0 (sym h.2.1 ∙ ap (λ (z : Connection). slice_get points z.end) k ∙ ends.2.1) in
        sym h.2.2 ∙ ap (number_of count) p ∙ ends.2.2

    taken_here : (m : ℕ) → m ≡ n → IsMarked (set taken n true) m
    taken_here m e = subst (IsMarked (set taken n true)) (sym e) (get_or-set_same taken n true false l)

    kept : (m : ℕ) → IsMarked taken m → (m ≡ n) ⊎ (m ≡ n → ⊥) → IsMarked (set taken n true) m
    kept m h (inl e) = taken_here m e
    kept m h (inr other) = get_or-set_other taken n m true false other ∙ h

    onto : (m : ℕ) (h : (j : ℕ) × (j < i + 1) × EndsWith t points count j m) → (h.0 < i) ⊎ (i ≤ h.0) → IsMarked (set taken n true) m
    onto m h (inl b) = kept m ((was m).1 (h.0, b, h.2)) (cases_eq m n)
    onto m h (inr g) =
        let w = h.1 in
        let e : h.0 ≡ i = omega (arith, w, g) in
        taken_here m (number_alone m (subst (λ z. EndsWith t points count z m) e h.2))

pub end_here : (t : SystemTree) (points : List paths.Point) (connections : List joints.Connection) (count i n : ℕ) (e : joints.Connection) → IsWholeTree t → length points ≡ length t.connectors → connections ≡ map ends_of t.connections
    → i < length t.connections → e ≡ get_or connections i e → ((p : paths.Point) → slice_get points e.end ≡ Some p → n ≡ number_of count p) → EndsWith t points count i n
end_here t points connections count i n e whole len ends l read tells =
    let k = at_place t.connections i l in
    let same : e ≡ ends_of k.0 = ends_read t connections i e ends read k.0 k.1 in
    let w = (All-contains (λ (z : Connection). (z.start < length t.connectors) × (z.end < length t.connectors)) t.connections k.0 whole.ends (slice_contains t.connections i k.0 k.1)).1 in
    let p = at_place points k.0.end (omega (arith, w, len)) in
    (k.0, k.1, (p.0, p.1, sym (tells p.0 (ap (λ (z : joints.Connection). slice_get points z.end) same ∙ p.1))))

-- a connection as it is read from the tree
pub of_tree : {xs lent : List Connection} (i : ℕ) {e : Connection} → lent ≡ xs → e ≡ get_or lent i e → e ≡ get_or xs i e
of_tree {xs} {lent} i {e} same read = read ∙ ap (λ (z : List Connection). get_or z i e) same

pub read_is : (xs : List Connection) (i : ℕ) {e k : Connection} → e ≡ get_or xs i e → slice_get xs i ≡ Some k → e ≡ k
read_is xs i {e} {k} read at = read ∙ get_or_from_slice_get xs i k e at

-- both its ends are connectors
pub ends_there : (t : SystemTree) (i : ℕ) (e : Connection) → IsWholeTree t → i < length t.connections → e ≡ get_or t.connections i e → (e.start < length t.connectors) × (e.end < length t.connectors)
ends_there t i e whole l read =
    All-contains (λ (z : Connection). (z.start < length t.connectors) × (z.end < length t.connectors)) t.connections e whole.ends (i, l, sym read)

-- so the second has a mark among those of all connectors
pub end_marked : (t : SystemTree) (i : ℕ) (e : Connection) {n : ℕ} → IsWholeTree t → i < length t.connections → e ≡ get_or t.connections i e → n ≡ length t.connectors → e.end < n
end_marked t i e whole l read len = let end = (ends_there t i e whole l read).1 in omega (arith, end, len)

-- both ends of a connection of the table are connectors
pub ends_in : (t : SystemTree) (connections : List joints.Connection) (e : joints.Connection) → IsWholeTree t → connections ≡ map ends_of t.connections → Contains connections e → (e.start < length t.connectors) × (e.end < length t.connectors)
ends_in t connections e whole ends is = All-contains (numbers.IsWithin (length t.connectors)) connections e (ends_within t (length t.connectors) connections whole refl ends) is

pub variables_len : (shapes : List Shape) (v : Variables) → AreVariables shapes v → length v.all.items ≡ length (all_variables shapes)
variables_len shapes v are = sym (length-map v.all.items (λ x. x.now)) ∙ ap length are.all

module _ (t : SystemTree) (shapes : List Shape) (points : List paths.Point) (sound : AreShapesOf t shapes) (are : AreNumbered t shapes points) (whole : IsWholeTree t) where
  end_within : (k : Connection) → Contains t.connections k → k.end < length t.connectors
  end_within k is = (All-contains (λ (z : Connection). (z.start < length t.connectors) × (z.end < length t.connectors)) t.connections k whole.ends is).1

  last_at : (Fault : PathFault) (k : Connection) (input : Variable) → Contains t.connections k → input_of t shapes k.end ≡ Some input → IsReachedAt Fault t shapes k.start k.end input → IsLastOf Fault t shapes k
  last_at Fault k input is names r =
      let x = input_there t shapes k.end input names in (
        r.p,
        (
          r.s,
          (
            r.q,
            (
              r.output,
              (
                input,
                record {
                  from = r.from;
                  to = variable_here t shapes points sound are Input k.end r.q input r.ends x.0 x.1;
                  up_to = r.up_to;
                  last = record { is = is; start = r.begins; end = r.ends };
                },
                r.broken,
              ),
            ),
          ),
        ),
      )

  last_by : (Fault : PathFault) (k : Connection) (input : Variable) → Contains t.connections k → input_of t shapes k.end ≡ Some input → IsReachedBy Fault t shapes k.start input → IsLastOf Fault t shapes k
  last_by Fault k input is names r =
      let q = point_at t shapes k.end (end_within k is) in
      last_at Fault k input is names (record { output = r.output; p = r.p; s = r.s; q = q.0; from = r.from; begins = r.begins; ends = q.1; up_to = r.up_to; broken = r.broken q.0 })

  pub last_input : (Fault : PathFault) (k : Connection) → IsLastOf Fault t shapes k → (x : Variable) × (input_of t shapes k.end ≡ Some x) × IsReachedAt Fault t shapes k.start k.end x
  last_input Fault k h =
      let e = h.1.1.1.1.1 in (
        h.1.1.1.1.0,
        input_from t shapes k.end h.1.1.1.1.0 (names_variable t shapes points sound are Input k.end h.1.1.0 h.1.1.1.1.0 e.last.end e.to) e.to.1,
        record { output = h.1.1.1.0; p = h.0; s = h.1.0; q = h.1.1.0; from = e.from; begins = e.last.start; ends = e.last.end; up_to = e.up_to; broken = h.1.1.1.1.2 },
      )

  of_last : (Fault : PathFault) (k : Connection) (input : Variable) → input_of t shapes k.end ≡ Some input → IsLastOf Fault t shapes k → IsReachedAt Fault t shapes k.start k.end input
  of_last Fault k input names h =
      let x = last_input Fault k h in
      subst (IsReachedAt Fault t shapes k.start k.end) (same_Some x.0 input (sym x.1 ∙ names)) x.2

  -- what is told at the connectors of a connection is told of it
  pub told_at : (Fault : PathFault) (ends : joints.Connection) (input : Variable) (b : Bool) → Some input ≡ input_of t shapes ends.end → (b ≡ true) ↔ IsReachedAt Fault t shapes ends.start ends.end input
      → (k : Connection) → Contains t.connections k → ends ≡ ends_of k → (b ≡ true) ↔ IsLastOf Fault t shapes k
  told_at Fault ends input b names told k is same =
      let at : (b ≡ true) ↔ IsReachedAt Fault t shapes k.start k.end input = subst (λ (z : joints.Connection). (b ≡ true) ↔ IsReachedAt Fault t shapes z.start z.end input) same told in
      let named : input_of t shapes k.end ≡ Some input = ap (λ (z : joints.Connection). input_of t shapes z.end) (sym same) ∙ sym names in
      (λ h. last_at Fault k input is named (at.0 h), λ h. at.1 (of_last Fault k input named h))

  pub told_by : (Fault : PathFault) (ends : joints.Connection) (input : Variable) (b : Bool) → ((p s q r : Point) (output x : Variable) → Fault p s q output x → Fault p s r output x) → Some input ≡ input_of t shapes ends.end
      → (b ≡ true) ↔ IsReachedBy Fault t shapes ends.start input → (k : Connection) → Contains t.connections k → ends ≡ ends_of k → (b ≡ true) ↔ IsLastOf Fault t shapes k
  told_by Fault ends input b any names told k is same =
      let by : (b ≡ true) ↔ IsReachedBy Fault t shapes k.start input = subst (λ (z : joints.Connection). (b ≡ true) ↔ IsReachedBy Fault t shapes z.start input) same told in
      let named : input_of t shapes k.end ≡ Some input = ap (λ (z : joints.Connection). input_of t shapes z.end) (sym same) ∙ sym names in
      (λ h. last_by Fault k input is named (by.0 h), λ h. by.1 (at_any (of_last Fault k input named h)))
    where
      at_any : IsReachedAt Fault t shapes k.start k.end input → IsReachedBy Fault t shapes k.start input
      at_any r = record { output = r.output; p = r.p; s = r.s; from = r.from; begins = r.begins; up_to = r.up_to; broken = λ q. any r.p r.s r.q q r.output input r.broken }

  -- a connection that ends at no input is the last of no path
  pub no_input : (Fault : PathFault) (ends : joints.Connection) → None ≡ input_of t shapes ends.end → (k : Connection) → ends ≡ ends_of k → IsLastOf Fault t shapes k → ⊥
  no_input Fault ends none k same h =
      let x = last_input Fault k h in
      let un = none ∙ ap (λ (z : joints.Connection). input_of t shapes z.end) same ∙ x.1 in
      cc

  -- the numbers of points are below those of variables and connectors together
  pub number_below : (c : ℕ) (p : paths.Point) → c < length t.connectors → slice_get points c ≡ Some p → number_of (length (all_variables shapes)) p < length (all_variables shapes) + length points
  number_below c p l e = by (let k = at_place t.connectors c l in sort_of t shapes points are c k.0 k.1)
    where
      by : IsItself t shapes points c ⊎ IsNamed t shapes points c → number_of (length (all_variables shapes)) p < length (all_variables shapes) + length points
      by (inl i) =
          let b = i.after in
          let n = are.len in
          let same = ap (number_of (length (all_variables shapes))) (same_Some p i.number (sym e ∙ i.numbered)) in
          omega (arith, b, n, same, l)
      by (inr m) =
          let b = number_within shapes m.component m.place m.shape m.of (slice_get_within m.shape.variables m.place m.variable m.at) in
          let same = ap (number_of (length (all_variables shapes))) (same_Some p (Numbered (begin_of shapes m.component + m.place)) (sym e ∙ m.numbered)) in
          omega (arith, b, same)

  connection_at : (i : ℕ) (x : Point) → end_at t shapes i ≡ Some x → (k : Connection) × (slice_get t.connections i ≡ Some k) × (point_of t shapes k.end ≡ Some x)
  connection_at i x e = by (slice_get t.connections i) refl
    where
      by : (o : Option Connection) → slice_get t.connections i ≡ o → (k : Connection) × (slice_get t.connections i ≡ Some k) × (point_of t shapes k.end ≡ Some x)
      by None none = let un = sym (ap (option_and_then (λ (z : Connection). point_of t shapes z.end)) none) ∙ e in cc
      by (Some k) some = (k, some, sym (ap (option_and_then (λ (z : Connection). point_of t shapes z.end)) some) ∙ e)

  end_of : (j : ℕ) (k : Connection) → slice_get t.connections j ≡ Some k → end_at t shapes j ≡ point_of t shapes k.end
  end_of j k at = ap (option_and_then (λ (z : Connection). point_of t shapes z.end)) at

  -- an end that a connection before it has is repeated
  pub ends_repeated : (i n : ℕ) → EndsWith t points (length (all_variables shapes)) i n → (j : ℕ) × (j < i) × EndsWith t points (length (all_variables shapes)) j n → IsRepeated (end_at t shapes) i
  ends_repeated i n ends h =
      let k = ends.0 in
      let k' = h.2.0 in
      let x = point_at t shapes k.end (end_within k (slice_contains t.connections i k ends.1)) in
      let y = point_at t shapes k'.end (end_within k' (slice_contains t.connections h.0 k' h.2.1)) in
      let same = point_by_number t shapes points sound k'.end k.end h.2.2.0 ends.2.0 (kind_of t shapes points sound are k'.end y.0 y.1) (kind_of t shapes points sound are k.end x.0 x.1) h.2.2.1 ends.2.1 (h.2.2.2 ∙ sym ends.2.2) in
      (x.0, end_of i k ends.1 ∙ x.1, (h.0, h.1, end_of h.0 k' h.2.1 ∙ same ∙ x.1))

  -- the number of an end is taken just where the end is repeated
  pub taken_repeats : (i n : ℕ) (taken : List Bool) → EndsWith t points (length (all_variables shapes)) i n → AreTaken t points (length (all_variables shapes)) i taken → IsMarked taken n ↔ IsRepeated (end_at t shapes) i
  taken_repeats i n taken ends was = (λ h. ends_repeated i n ends ((was n).0 h), λ h. (was n).1 (taken_by h))
    where
      taken_by : IsRepeated (end_at t shapes) i → (j : ℕ) × (j < i) × EndsWith t points (length (all_variables shapes)) j n
      taken_by h =
          let k = ends.0 in
          let k' = connection_at h.2.0 h.0 h.2.2 in
          let x = sym (end_of i k ends.1) ∙ h.1 in
          let same = numbered_by_point t shapes points sound k'.0.end k.end h.0 (kind_of t shapes points sound are k'.0.end h.0 k'.2) (kind_of t shapes points sound are k.end h.0 x) k'.2 x in
          (h.2.0, h.2.1, (k'.0, k'.1, (ends.2.0, same ∙ ends.2.1, ends.2.2)))
