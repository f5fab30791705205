-- The way back from where a path ends: where no two connections have one end, it is the path, and no connection stands on it twice.
use Rattle.std.proofs.Common.{◌≡◌, ◌⊎◌, ◌↔◌, ℕ, zero, suc, ◌+◌, ◌-◌, ◌<◌, ◌≤◌, List, [], ◌∷◌, ◌++◌, length, drop, drop-cons, get_or, reverse, Option, Some, None, refl, sym, ap, ◌∙◌, subst, inl, inr, arith, append_assoc}
use Rattle.std.specs.List.{All, cons_option, filter_map, slice_get}
use Rattle.std.specs.Option.{IsSomeAnd, option_and_then}
use Rattle.std.proofs.lemmas.Bool.{cases_eq, cases_lt, cases_order}
use Rattle.std.proofs.lemmas.List.{length-append, length-drop, length-map, reverse-append}
use Rattle.std.proofs.lemmas.List.Elements.{All-contains, filter_map-append}
use Rattle.std.proofs.lemmas.Option.{slice_get-get_or, slice_get_within, same_Some}
use Rattle.sim_base.specs.declared.numbers.PortId.{PortId}
use Rattle.system_model.specs.declared.system.Feed.{Feed}
use Rattle.value_types.specs.declared.shape.Causality.TheVariants.{Output}
use Rattle.value_types.specs.declared.shape.Variable.{Variable}
use Rattle.value_types.specs.declared.shape.Shape.{Shape}
use Rattle.parameter_values.specs.declared.change.Change.{Change}
use Rattle.doc_tree.specs.declared.rule.Rule.TheVariants.{Flattening}
use Rattle.doc_tree.specs.declared.rule.FlatteningRule.TheVariants.{EndTwice}
use Rattle.doc_tables.proofs.CallerLemmas.{IsOnce, no_longer}
use Rattle.connection_paths.specs.declared.point.Connection as joints
use Rattle.connection_paths.specs.declared.point.Point as paths
use Rattle.ssd_tree.specs.declared.tree.Connection.{Connection}
use Rattle.ssd_tree.specs.declared.tree.SystemTree.{SystemTree}
use Rattle.flatten.specs.declared.connectors.FlatTree.{FlatTree}
use Rattle.flatten.specs.Broken.{number_of}
use Rattle.flatten.specs.Points.{Point, Itself, IsOfSystem, IsVariable, point_of, variable_of}
use Rattle.flatten.specs.Paths.{JoinsBy, LeadsBy, changes_along}
use Rattle.flatten.specs.Given.{AreShapesOf}
use Rattle.flatten.specs.Indexed.{AreNumbered, IsIndexed, all_variables, ends_of}
use Rattle.flatten.specs.Marks.{IsOutputAt}
use Rattle.flatten.specs.Rules.{IsFitting, end_at}
use Rattle.flatten.specs.Fed.{FeedsFrom, HasPort}
use Rattle.flatten.specs.Ways.{AreLast, IsWay, JoinsAt, LeadsBack, change_at}
use Rattle.flatten.proofs.AloneLemmas.{output_alone}
use Rattle.flatten.proofs.LastLemmas.{reaches_by}
use Rattle.flatten.proofs.BridgeLemmas.{number_at, point_at, point_within, same_number, slice_contains}
use Rattle.flatten.proofs.EndLemmas.{EndsWith, ends_read, ends_repeated, variables_len}
use Rattle.flatten.proofs.StandsLemmas.{point_by_number}
use Rattle.flatten.proofs.PathLemmas.{itself_there, kind_of, names_variable, no_system, system_itself, variable_here}

-- ---- numbers below one

up_to : ℕ → List ℕ
up_to zero = []
up_to (suc n) = n ∷ up_to n

up_to_len : (n : ℕ) → length (up_to n) ≡ n
unfolding up_to
up_to_len zero = refl
up_to_len (suc n) = ap suc (up_to_len n)

up_to_has : (n x : ℕ) → x < n → (k : ℕ) × (slice_get (up_to n) k ≡ Some x)
unfolding up_to
up_to_has zero x l = absurd (omega (arith, l))
up_to_has (suc n) x l = by (λ less. up_to_has n x less) (cases_order x n)
  where
    by : (x < n → (k : ℕ) × (slice_get (up_to n) k ≡ Some x)) → (x ≡ n) ⊎ ((x < n) ⊎ (n < x)) → (k : ℕ) × (slice_get (n ∷ up_to n) k ≡ Some x)
    by rest (inl e) = (zero, ap Some (sym e))
    by rest (inr (inl less)) = let w = rest less in (suc w.0, w.1)
    by rest (inr (inr more)) = absurd (omega (arith, l, more))

-- a list of numbers below another that has none twice is at most so long
few_below : (n : ℕ) (is : List ℕ) → IsOnce is → ((j x : ℕ) → slice_get is j ≡ Some x → x < n) → length is ≤ n
few_below n is once below =
    let len = up_to_len n in
    let few : length is ≤ length (up_to n) = no_longer is (up_to n) once (λ x j at. up_to_has n x (below j x at)) in
    omega (arith, len, few)

-- ---- a way back, and the path

module _ (t : SystemTree) (shapes : List Shape) where
  -- one more connection, from where all others begin
  before_all : (p s q : Point) (k : ℕ) (is : List ℕ) → JoinsAt t shapes k p s → IsOfSystem t s → LeadsBack t shapes s is q → LeadsBack t shapes p (is ++ k ∷ []) q
  before_all p s q k [] joins through h = absurd h
  before_all p s q k (i ∷ []) joins through h = (s, h, through, joins)
  before_all p s q k (i ∷ (j ∷ js)) joins through h = (h.0, h.1, h.2, before_all p s h.0 k (j ∷ js) joins through h.3)

  -- one more after all others
  after_all : (p s q : Point) (ks : List Connection) (k : Connection) → LeadsBy t shapes p ks s → IsOfSystem t s → JoinsBy t shapes k s q → LeadsBy t shapes p (ks ++ k ∷ []) q
  after_all p s q [] k h through joins = absurd h
  after_all p s q (l ∷ []) k h through joins = (s, h, through, joins)
  after_all p s q (l ∷ (m ∷ ms)) k h through joins = (h.0, h.1, h.2, after_all h.0 s q (m ∷ ms) k h.3 through joins)

  joins_by : (i : ℕ) (p q : Point) (h : JoinsAt t shapes i p q) → JoinsBy t shapes h.connection p q
  joins_by i p q h = record { is = slice_contains t.connections i h.connection h.is; start = h.start; end = h.end }

  joins_at : (k : Connection) (p q : Point) → JoinsBy t shapes k p q → (i : ℕ) × JoinsAt t shapes i p q
  joins_at k p q h = (h.is.0, record { connection = k; is = slice_get-get_or t.connections h.is.0 k h.is.1 ∙ ap Some h.is.2; start = h.start; end = h.end })

  -- a path is led back along
  pub back_of : (p : Point) (ks : List Connection) (q : Point) → LeadsBy t shapes p ks q → (is : List ℕ) × LeadsBack t shapes p is q
  back_of p [] q h = absurd h
  back_of p (k ∷ []) q h = let j = joins_at k p q h in (j.0 ∷ [], j.1)
  back_of p (k ∷ (l ∷ ks)) q h =
      let j = joins_at k p h.0 h.1 in
      let more = back_of h.0 (l ∷ ks) q h.3 in
      (more.0 ++ j.0 ∷ [], before_all p h.0 q j.0 more.0 j.1 h.2 more.1)

  -- the path of a way back, with the changes of its connections
  pub record HasPath (p : Point) (is : List ℕ) (q : Point) : Type 0 where
    pub path : List Connection
    pub leads : LeadsBy t shapes p path q
    pub makes : filter_map (change_at t) (reverse is) ≡ changes_along path

  change_of : (i : ℕ) (k : Connection) → slice_get t.connections i ≡ Some k → change_at t i ≡ k.change
  change_of i k at = ap (option_and_then (λ (z : Connection). z.change)) at

  one_change : (i : ℕ) (k : Connection) → slice_get t.connections i ≡ Some k → filter_map (change_at t) (i ∷ []) ≡ changes_along (k ∷ [])
  one_change i k at = ap (λ (o : Option Change). filter_map (λ (z : Option Change). z) (o ∷ [])) (change_of i k at)

  pub path_of : (p : Point) (is : List ℕ) (q : Point) → LeadsBack t shapes p is q → HasPath p is q
  path_of p [] q h = absurd h
  path_of p (i ∷ []) q h = record { path = h.connection ∷ []; leads = joins_by i p q h; makes = one_change i h.connection h.is }
  path_of p (i ∷ (j ∷ js)) q h =
      let more = path_of p (j ∷ js) h.0 h.3 in
      let k = h.1.connection in
      record {
        path = more.path ++ k ∷ [];
        leads = after_all p h.0 q more.path k more.leads h.2 (joins_by i h.0 q h.1);
        makes = ap (filter_map (change_at t)) (reverse-append (i ∷ []) (j ∷ js)) ∙ filter_map-append (change_at t) (reverse (j ∷ js)) (i ∷ [])
            ∙ ap (λ zs. zs ++ filter_map (change_at t) (i ∷ [])) more.makes ∙ ap (λ zs. changes_along more.path ++ zs) (one_change i k h.1.is)
            ∙ sym (filter_map-append (λ (z : Connection). z.change) more.path (k ∷ []));
      }

  -- what follows a connection of a way leads there, too
  pub record IsPart (p : Point) (is : List ℕ) (j x : ℕ) : Type 0 where
    pub start : Point
    pub end : Point
    pub joins : JoinsAt t shapes x start end
    pub leads : LeadsBack t shapes p (drop j is) end

  part : (p q : Point) (is : List ℕ) → LeadsBack t shapes p is q → (j x : ℕ) → slice_get is j ≡ Some x → IsPart p is j x
  part p q [] h j x at = absurd h
  part p q (i ∷ []) h zero x at = record { start = p; end = q; joins = subst (λ z. JoinsAt t shapes z p q) (same_Some i x at) h; leads = h }
  part p q (i ∷ []) h (suc j) x at = cc
  part p q (i ∷ (k ∷ ks)) h zero x at = record { start = h.0; end = q; joins = subst (λ z. JoinsAt t shapes z h.0 q) (same_Some i x at) h.1; leads = h }
  part p q (i ∷ (k ∷ ks)) h (suc j) x at =
      let more = part p h.0 (k ∷ ks) h.3 j x at in
      record { start = more.start; end = more.end; joins = more.joins; leads = more.leads }

  -- its numbers are those of connections
  pub way_within : (p q : Point) (is : List ℕ) → LeadsBack t shapes p is q → All (λ (k : ℕ). k < length t.connections) is
  way_within p q is h = λ k d l.
      let a = part p q is h k (get_or is k d) (slice_get-get_or is k d l) in
      slice_get_within t.connections (get_or is k d) a.joins.connection a.joins.is

-- ---- where no two connections have one end

module _ (t : SystemTree) (shapes : List Shape) (fitting : IsFitting t shapes) where
  -- one connection ends at a point
  pub one_place : (i h : ℕ) (p r q : Point) → JoinsAt t shapes i p q → JoinsAt t shapes h r q → i ≡ h
  one_place i h p r q a b = by (cases_order i h)
    where
      end_i : end_at t shapes i ≡ Some q
      end_i = ap (option_and_then (λ (z : Connection). point_of t shapes z.end)) a.is ∙ a.end

      end_h : end_at t shapes h ≡ Some q
      end_h = ap (option_and_then (λ (z : Connection). point_of t shapes z.end)) b.is ∙ b.end

      by : (i ≡ h) ⊎ ((i < h) ⊎ (h < i)) → i ≡ h
      by (inl e) = e
      by (inr (inl l)) = absurd (fitting (Flattening EndTwice) b.connection.node (h, (b.connection, b.is, refl, (q, end_h, (i, l, end_i)))))
      by (inr (inr l)) = absurd (fitting (Flattening EndTwice) a.connection.node (i, (a.connection, a.is, refl, (q, end_i, (h, l, end_h)))))

  pub one_start : (i h : ℕ) (p r q : Point) → JoinsAt t shapes i p q → JoinsAt t shapes h r q → p ≡ r
  one_start i h p r q a b =
      let same = one_place i h p r q a b in
      let k : a.connection ≡ b.connection = same_Some a.connection b.connection (sym a.is ∙ ap (slice_get t.connections) same ∙ b.is) in
      same_Some p r (sym a.start ∙ ap (λ (z : Connection). point_of t shapes z.start) k ∙ b.start)

  -- both ends of one connection, by its place
  pub one_end : (i : ℕ) (p q r s : Point) → JoinsAt t shapes i p q → JoinsAt t shapes i r s → q ≡ s
  one_end i p q r s a b =
      let k : a.connection ≡ b.connection = same_Some a.connection b.connection (sym a.is ∙ b.is) in
      same_Some q s (sym a.end ∙ ap (λ (z : Connection). point_of t shapes z.end) k ∙ b.end)

  module _ (p : Point) (x : Variable) (output : IsVariable shapes Output p x) where
    -- one way leads there
    pub one_back : (is js : List ℕ) (q : Point) → LeadsBack t shapes p is q → LeadsBack t shapes p js q → is ≡ js
    one_back [] js q h g = absurd h
    one_back (i ∷ []) [] q h g = absurd g
    one_back (i ∷ (k ∷ ks)) [] q h g = absurd g
    one_back (i ∷ []) (j ∷ []) q h g = ap (λ z. z ∷ []) (one_place i j p p q h g)
    one_back (i ∷ []) (j ∷ (l ∷ ls)) q h g = absurd (no_system t shapes Output p x output (subst (IsOfSystem t) (sym (one_start i j p g.0 q h g.1)) g.2))
    one_back (i ∷ (k ∷ ks)) (j ∷ []) q h g = absurd (no_system t shapes Output p x output (subst (IsOfSystem t) (one_start i j h.0 p q h.1 g) h.2))
    one_back (i ∷ (k ∷ ks)) (j ∷ (l ∷ ls)) q h g =
        let same : h.0 ≡ g.0 = one_start i j h.0 g.0 q h.1 g.1 in
        let more : k ∷ ks ≡ l ∷ ls = one_back (k ∷ ks) (l ∷ ls) g.0 (subst (LeadsBack t shapes p (k ∷ ks)) same h.3) g.3 in
        ap (λ z. z ∷ (k ∷ ks)) (one_place i j h.0 g.0 q h.1 g.1) ∙ ap (λ zs. j ∷ zs) more

    -- no connection stands on it twice: what follows each of the two would be as long
    once : (is : List ℕ) (q : Point) → LeadsBack t shapes p is q → IsOnce is
    once is q h j k y at_j at_k =
        let a = part t shapes p q is h j y at_j in
        let b = part t shapes p q is h k y at_k in
        let end : a.end ≡ b.end = one_end y a.start a.end b.start b.end a.joins b.joins in
        let same : drop j is ≡ drop k is = one_back (drop j is) (drop k is) b.end (subst (LeadsBack t shapes p (drop j is)) end a.leads) b.leads in
        let len = sym (length-drop j is) ∙ ap length same ∙ length-drop k is in
        let within_j = slice_get_within is j y at_j in
        let within_k = slice_get_within is k y at_k in
        omega (arith, len, within_j, within_k)

    -- so it has at most as many as the tree
    pub few_on : (is : List ℕ) (q : Point) → LeadsBack t shapes p is q → length is ≤ length t.connections
    few_on is q h = few_below (length t.connections) is (once is q h)
        (λ j y at. let a = part t shapes p q is h j y at in slice_get_within t.connections y a.joins.connection a.joins.is)

-- ---- the way so far

-- each way from an output goes on from here along these connections, and each way to here makes one to the connector
pub record IsOnWay (t : SystemTree) (shapes : List Shape) (connector : ℕ) (back : List ℕ) (at : ℕ) : Type 0 where
  pub to : Point
  pub here : Point
  pub ends : point_of t shapes connector ≡ Some to
  pub stands : point_of t shapes at ≡ Some here
  pub on : (p : Point) (js : List ℕ) → LeadsBack t shapes p js here → LeadsBack t shapes p (back ++ js) to
  pub each : (p : Point) (x : Variable) (is : List ℕ) → IsVariable shapes Output p x → LeadsBack t shapes p is to → (js : List ℕ) × (is ≡ back ++ js) × LeadsBack t shapes p js here

-- there is no way from an output
abbrev pub HasNoWay : SystemTree → List Shape → ℕ → Type 0
HasNoWay t shapes connector = (to p : Point) (x : Variable) (is : List ℕ) → point_of t shapes connector ≡ Some to → IsVariable shapes Output p x → LeadsBack t shapes p is to → ⊥

pub way_none : (t : SystemTree) (shapes : List Shape) (connector : ℕ) (to : Point) → point_of t shapes connector ≡ Some to → IsOnWay t shapes connector [] connector
way_none t shapes connector to ends = record {
  to = to;
  here = to;
  ends = ends;
  stands = ends;
  on = λ p js h. h;
  each = λ p x is output h. (is, refl, h);
}

module _ (t : SystemTree) (shapes : List Shape) (points : List paths.Point) (sound : AreShapesOf t shapes) (are : AreNumbered t shapes points) (fitting : IsFitting t shapes) where
  -- a connector that names an output stands for it, and so does each that stands for it
  pub output_here : (c : ℕ) (p : Point) → point_of t shapes c ≡ Some p → IsOutputAt t shapes c → (x : Variable) × IsVariable shapes Output p x
  output_here c p stands is = by (variable_of t shapes c) refl is
    where
      by : (o : Option Variable) → variable_of t shapes c ≡ o → IsSomeAnd o (λ (x : Variable). (x.causality ≡ Output) × Unit {0}) → (x : Variable) × IsVariable shapes Output p x
      by None names is = absurd is
      by (Some x) names is = (x, variable_here t shapes points sound are Output c p x stands names is.0)

  pub output_at : (c : ℕ) (p : Point) (x : Variable) → point_of t shapes c ≡ Some p → IsVariable shapes Output p x → IsOutputAt t shapes c
  output_at c p x stands is =
      subst (λ (o : Option Variable). IsSomeAnd o (λ (z : Variable). (z.causality ≡ Output) × Unit {0})) (sym (names_variable t shapes points sound are Output c p x stands is)) (is.1, tt)

  module _ (connector : ℕ) (back : List ℕ) (at : ℕ) (way : IsOnWay t shapes connector back at) where
    -- no connection ends here
    pub way_ends : ((i : ℕ) (p : Point) → JoinsAt t shapes i p way.here → ⊥) → HasNoWay t shapes connector
    way_ends none to p x is ends output h =
        let same : to ≡ way.to = same_Some to way.to (sym ends ∙ way.ends) in
        let rest = way.each p x is output (subst (LeadsBack t shapes p is) same h) in
        by rest.0 rest.2
      where
        by : (js : List ℕ) → LeadsBack t shapes p js way.here → ⊥
        by [] g = g
        by (j ∷ []) g = none j p g
        by (j ∷ (l ∷ ls)) g = none j g.0 g.1

    -- as many connections follow it as there are
    pub way_long : length t.connections ≤ length back → HasNoWay t shapes connector
    way_long long to p x is ends output h =
        let same : to ≡ way.to = same_Some to way.to (sym ends ∙ way.ends) in
        let leads : LeadsBack t shapes p is way.to = subst (LeadsBack t shapes p is) same h in
        let rest = way.each p x is output leads in
        let few = few_on t shapes fitting p x output is way.to leads in
        let len = ap length rest.1 ∙ length-append back rest.0 in
        by rest.0 rest.2 (omega (arith, long, few, len))
      where
        by : (js : List ℕ) → LeadsBack t shapes p js way.here → length js ≤ 0 → ⊥
        by [] g l = g
        by (j ∷ js) g l = omega (arith, l)

    module _ (i next : ℕ) (s : Point) (joins : JoinsAt t shapes i s way.here) (begins : point_of t shapes next ≡ Some s) where
      -- it begins at an output
      pub way_whole : LeadsBack t shapes s (back ++ i ∷ []) way.to
      way_whole = way.on s (i ∷ []) joins

      -- it begins at neither
      pub way_stops : (IsOutputAt t shapes next → ⊥) → (IsOfSystem t (Itself next) → ⊥) → HasNoWay t shapes connector
      way_stops no_output no_system_there to p x is ends output h =
          let same : to ≡ way.to = same_Some to way.to (sym ends ∙ way.ends) in
          let rest = way.each p x is output (subst (LeadsBack t shapes p is) same h) in
          by rest.0 rest.2
        where
          by : (js : List ℕ) → LeadsBack t shapes p js way.here → ⊥
          by [] g = g
          by (j ∷ []) g = no_output (output_at next p x (begins ∙ ap Some (one_start t shapes fitting i j s p way.here joins g)) output)
          by (j ∷ (l ∷ ls)) g =
              let is_system : IsOfSystem t s = subst (IsOfSystem t) (sym (one_start t shapes fitting i j s g.0 way.here joins g.1)) g.2 in
              no_system_there (subst (IsOfSystem t) (system_itself t shapes points sound are next s begins is_system) is_system)

      -- it begins at a connector of a System
      pub way_more : IsOfSystem t (Itself next) → IsOnWay t shapes connector (back ++ i ∷ []) next
      way_more through = record {
        to = way.to;
        here = s;
        ends = way.ends;
        stands = begins;
        on = λ p js h. on p js h;
        each = λ p x is output h. each p x is output h;
      }
        where
          is_system : IsOfSystem t s
          is_system = subst (IsOfSystem t) (sym (itself_there t shapes points sound are next s begins through)) through

          step : (p : Point) (js : List ℕ) → LeadsBack t shapes p js s → LeadsBack t shapes p (i ∷ js) way.here
          step p [] h = absurd h
          step p (j ∷ js) h = (s, joins, is_system, h)

          on : (p : Point) (js : List ℕ) → LeadsBack t shapes p js s → LeadsBack t shapes p ((back ++ i ∷ []) ++ js) way.to
          on p js h = subst (λ zs. LeadsBack t shapes p zs way.to) (sym (append_assoc back (i ∷ []) js)) (way.on p (i ∷ js) (step p js h))

          each : (p : Point) (x : Variable) (is : List ℕ) → IsVariable shapes Output p x → LeadsBack t shapes p is way.to → (js : List ℕ) × (is ≡ (back ++ i ∷ []) ++ js) × LeadsBack t shapes p js s
          each p x is output h = let rest = way.each p x is output h in by rest.0 rest.1 rest.2
            where
              by : (js : List ℕ) → is ≡ back ++ js → LeadsBack t shapes p js way.here → (ks : List ℕ) × (is ≡ (back ++ i ∷ []) ++ ks) × LeadsBack t shapes p ks s
              by [] e g = absurd g
              by (j ∷ []) e g =
                  absurd (no_system t shapes Output p x output (subst (IsOfSystem t) (one_start t shapes fitting i j s p way.here joins g) is_system))
              by (j ∷ (l ∷ ls)) e g =
                  let one : j ≡ i = one_place t shapes fitting j i g.0 s way.here g.1 joins in
                  let from : g.0 ≡ s = one_start t shapes fitting j i g.0 s way.here g.1 joins in
                  (l ∷ ls, e ∙ ap (λ z. back ++ z ∷ (l ∷ ls)) one ∙ sym (append_assoc back (i ∷ []) (l ∷ ls)), subst (LeadsBack t shapes p (l ∷ ls)) from g.3)

-- ---- the table of last connections

module _ (f : FlatTree) (indexed : IsIndexed f) (last : ℕ → Option ℕ) (are : AreLast f last) where
  count_is : length f.variables.all.items ≡ length (all_variables f.shapes.now)
  count_is = variables_len f.shapes.now f.variables indexed.variables

  module _ (at n : ℕ) (here : Point) (stands : point_of f.tree.now f.shapes.now at ≡ Some here) (number : (p : paths.Point) → slice_get f.points.items at ≡ Some p → n ≡ number_of (length f.variables.all.items) p) where
    -- the one that is found ends here
    pub last_joins_here : (i : ℕ) → last n ≡ Some i → (s : Point) × JoinsAt f.tree.now f.shapes.now i s here
    last_joins_here i e =
        let ends = (are n i).0 e in
        let k = ends.0 in
        let both = ends_there_at k ends.1 in
        let there = point_at f.tree.now f.shapes.now k.end both.1 in
        let p = number_at f.tree.now f.shapes.now f.points.items f.connections.items indexed.shapes indexed.points indexed.connections at here stands in
        let numbers_same : number_of (length (all_variables f.shapes.now)) ends.2.0 ≡ number_of (length (all_variables f.shapes.now)) p.0 =
        subst (λ z. number_of z ends.2.0 ≡ number_of z p.0) count_is (ends.2.2 ∙ number p.0 p.1) in
        let one = point_by_number f.tree.now f.shapes.now f.points.items indexed.shapes k.end at ends.2.0 p.0 (kind_of f.tree.now f.shapes.now f.points.items indexed.shapes indexed.points k.end there.0 there.1)
        (kind_of f.tree.now f.shapes.now f.points.items indexed.shapes indexed.points at here stands) ends.2.1 p.1 numbers_same in
        let s = point_at f.tree.now f.shapes.now k.start both.0 in
        (s.0, record { connection = k; is = ends.1; start = s.1; end = one ∙ stands })
      where
        ends_there_at : (k : Connection) → slice_get f.tree.now.connections i ≡ Some k → (k.start < length f.tree.now.connectors) × (k.end < length f.tree.now.connectors)
        ends_there_at k e = All-contains (λ (z : Connection). (z.start < length f.tree.now.connectors) × (z.end < length f.tree.now.connectors)) f.tree.now.connections k indexed.whole.ends (slice_contains f.tree.now.connections i k e)

    -- where none is found, none does
    pub no_last_here : last n ≡ None → (i : ℕ) (s : Point) → JoinsAt f.tree.now f.shapes.now i s here → ⊥
    no_last_here e i s joins =
        let p = number_at f.tree.now f.shapes.now f.points.items f.connections.items indexed.shapes indexed.points indexed.connections at here stands in
        let q : slice_get f.points.items joins.connection.end ≡ Some p.0 =
        same_number f.tree.now f.shapes.now f.points.items f.connections.items indexed.shapes indexed.points indexed.connections joins.connection.end at here joins.end stands ∙ p.1 in
        let some : last n ≡ Some i = (are n i).1 (joins.connection, joins.is, (p.0, q, sym (number p.0 p.1))) in
        let un : None ≡ Some i = sym e ∙ some in
        cc

-- ---- the table of the first connections

abbrev pub AreLastBelow : SystemTree → List paths.Point → ℕ → ℕ → (ℕ → Option ℕ) → Type 0
AreLastBelow t points count i last = (n j : ℕ) → (last n ≡ Some j) ↔ ((j < i) × EndsWith t points count j n)

pub last_none : (t : SystemTree) (points : List paths.Point) (count : ℕ) (last : ℕ → Option ℕ) → ((n : ℕ) → last n ≡ None) → AreLastBelow t points count 0 last
last_none t points count last none = λ n j. (λ e. absurd (let un : None ≡ Some j = sym (none n) ∙ e in cc), λ h. let b = h.0 in absurd (omega (arith, b)))

-- one more, that ends where none before it does
pub last_more : (t : SystemTree) (points : List paths.Point) (count i m : ℕ) (last new : ℕ → Option ℕ) → EndsWith t points count i m → ((j : ℕ) → j < i → EndsWith t points count j m → ⊥)
    → new m ≡ Some i → ((n : ℕ) → (n ≡ m → ⊥) → new n ≡ last n) → AreLastBelow t points count i last → AreLastBelow t points count (i + 1) new
last_more t points count i m last new ends alone read only was = λ n j. (λ e. from n j e (cases_eq n m), λ h. onto n j h (cases_eq n m))
  where
    from : (n j : ℕ) → new n ≡ Some j → (n ≡ m) ⊎ (n ≡ m → ⊥) → (j < i + 1) × EndsWith t points count j n
    from n j e (inl same) =
        let here : i ≡ j = same_Some i j (sym read ∙ ap new (sym same) ∙ e) in
        (omega (arith, here), subst (λ z. EndsWith t points count z n) here (subst (EndsWith t points count i) (sym same) ends))
    from n j e (inr other) = let w = (was n j).0 (sym (only n other) ∙ e) in let b = w.0 in (omega (arith, b), w.1)

    onto : (n j : ℕ) → (j < i + 1) × EndsWith t points count j n → (n ≡ m) ⊎ (n ≡ m → ⊥) → new n ≡ Some j
    onto n j h (inl same) = by (cases_lt j i)
      where
        by : (j < i) ⊎ (i ≤ j) → new n ≡ Some j
        by (inl b) = absurd (alone j b (subst (EndsWith t points count j) same h.1))
        by (inr g) =
            let b = h.0 in
            let e : i ≡ j = omega (arith, b, g) in
            ap new same ∙ read ∙ ap Some e
    onto n j h (inr other) = only n other ∙ (was n j).1 (before j (cases_lt j i) h)
      where
        before : (j : ℕ) → (j < i) ⊎ (i ≤ j) → (j < i + 1) × EndsWith t points count j n → (j < i) × EndsWith t points count j n
        before j (inl b) h = (b, h.1)
        before j (inr g) h =
            let b = h.0 in
            let e : j ≡ i = omega (arith, b, g) in
            absurd (other (one_number (subst (λ z. EndsWith t points count z n) e h.1)))
          where
            one_number : EndsWith t points count i n → n ≡ m
            one_number k =
                let same : k.0 ≡ ends.0 = same_Some k.0 ends.0 (sym k.1 ∙ ends.1) in
                let p : k.2.0 ≡ ends.2.0 = same_Some k.2.0 ends.2.0 (sym k.2.1 ∙ ap (λ (z : Connection). slice_get points z.end) same ∙ ends.2.1) in
                sym k.2.2 ∙ ap (number_of count) p ∙ ends.2.2

-- no connection before this one ends where it does
pub last_alone : (f : FlatTree) → IsIndexed f → IsFitting f.tree.now f.shapes.now → (i n : ℕ) → EndsWith f.tree.now f.points.items (length f.variables.all.items) i n → (j : ℕ) → j < i → EndsWith f.tree.now f.points.items (length f.variables.all.items) j n → ⊥
last_alone f indexed fitting i n ends j less more =
    let t = f.tree.now in
    let shapes = f.shapes.now in
    let all : length f.variables.all.items ≡ length (all_variables shapes) = variables_len shapes f.variables indexed.variables in
    let here = subst (λ z. EndsWith t f.points.items z i n) all ends in
    let before = subst (λ z. EndsWith t f.points.items z j n) all more in
    let repeats = ends_repeated t shapes f.points.items indexed.shapes indexed.points indexed.whole i n here (j, less, before) in
    fitting (Flattening EndTwice) ends.0.node (i, (ends.0, ends.1, refl, repeats))

pub last_whole : (f : FlatTree) (last : ℕ → Option ℕ) (i : ℕ) → length f.tree.now.connections ≤ i
    → AreLastBelow f.tree.now f.points.items (length f.variables.all.items) i last → AreLast f last
last_whole f last i whole below = λ n j. (
  λ e. ((below n j).0 e).1,
  λ h. (below n j).1 ((let w = slice_get_within f.tree.now.connections j h.0 h.1 in omega (arith, w, whole)), h),
)

-- ---- what a way feeds

module _ (f : FlatTree) (indexed : IsIndexed f) (fitting : IsFitting f.tree.now f.shapes.now) (connector : ℕ) where
  -- there is no way to the connector
  pub finds_none : HasNoWay f.tree.now f.shapes.now connector → (source : ℕ) (back : List ℕ) → IsWay f connector source back → ⊥
  finds_none none source back way =
      let x = output_here f.tree.now f.shapes.now f.points.items indexed.shapes indexed.points fitting source way.from way.begins way.output in
      none way.to way.from x.0 back way.ends x.1 way.leads

  -- what feeds it makes a way
  pub way_of_feed : (numbers : List (Option PortId)) (feed : Feed) (from : FeedsFrom f numbers connector feed) → (back : List ℕ) × IsWay f connector from.source back
  way_of_feed numbers feed from =
      let back = back_of f.tree.now f.shapes.now from.from from.path from.to from.leads in
      (back.0, record { from = from.from; to = from.to; output = from.output; begins = from.begins; ends = from.ends; leads = back.1 })

  -- a way whose output has a port feeds it
  pub feed_of_way : (numbers : List (Option PortId)) (source : ℕ) (back : List ℕ) (feed : Feed) → IsWay f connector source back → HasPort f numbers source feed.from
      → feed.changes ≡ filter_map (change_at f.tree.now) (reverse back) → FeedsFrom f numbers connector feed
  feed_of_way numbers source back feed way port changes =
      let path = path_of f.tree.now f.shapes.now way.from back way.to way.leads in
      record {
        source = source;
        from = way.from;
        to = way.to;
        path = path.path;
        output = way.output;
        port = port;
        begins = way.begins;
        ends = way.ends;
        leads = path.leads;
        makes = changes ∙ path.makes;
      }

  -- without a port of its output nothing feeds it
  pub no_port_no_feed : (numbers : List (Option PortId)) (source : ℕ) (back : List ℕ) → IsWay f connector source back → ((port : PortId) → HasPort f numbers source port → ⊥) → (feed : Feed) → FeedsFrom f numbers connector feed → ⊥
  no_port_no_feed numbers source back way none feed from =
      let t = f.tree.now in
      let shapes = f.shapes.now in
      let x = output_here t shapes f.points.items indexed.shapes indexed.points fitting source way.from way.begins way.output in
      let y = output_here t shapes f.points.items indexed.shapes indexed.points fitting from.source from.from from.begins from.output in
      let to : from.to ≡ way.to = same_Some from.to way.to (sym from.ends ∙ way.ends) in
      let path = path_of t shapes way.from back way.to way.leads in
      let same : from.from ≡ way.from = output_alone t shapes from.from way.from way.to y.0 x.0 fitting y.1 x.1
      (reaches_by t shapes from.from from.path way.to (subst (LeadsBy t shapes from.from from.path) to from.leads)) (reaches_by t shapes way.from path.path way.to path.leads) in
      let numbered : slice_get f.points.items source ≡ slice_get f.points.items from.source =
      same_number t shapes f.points.items f.connections.items indexed.shapes indexed.points indexed.connections source from.source way.from way.begins (from.begins ∙ ap Some same) in
      none feed.from (from.port.0, numbered ∙ from.port.1, from.port.2)

-- ---- the changes of a way, from its end

-- one connection more
pub changes_more : (t : SystemTree) (back : List ℕ) (i k : ℕ) → i < length back → k ≡ get_or back (length back - 1 - i) 0
    → filter_map (change_at t) (reverse (drop (length back - (i + 1)) back)) ≡ filter_map (change_at t) (reverse (drop (length back - i) back)) ++ filter_map (change_at t) (k ∷ [])
changes_more t back i k within read =
    let here : length back - (i + 1) < length back = omega (arith, within) in
    let next : suc (length back - (i + 1)) ≡ length back - i = omega (arith, within) in
    let place : length back - 1 - i ≡ length back - (i + 1) = omega arith in
    let rest : List ℕ = drop (length back - i) back in
    let cut : drop (length back - (i + 1)) back ≡ k ∷ drop (length back - i) back =
    drop-cons back (length back - (i + 1)) 0 here ∙ ap (λ (z : ℕ). get_or back (length back - (i + 1)) 0 ∷ drop z back) next
    ∙ ap (λ (z : ℕ). z ∷ drop (length back - i) back) (sym (read ∙ ap (λ (z : ℕ). get_or back z 0) place)) in
    ap (λ (zs : List ℕ). filter_map (change_at t) (reverse zs)) cut ∙ ap (filter_map (change_at t)) (reverse-append (k ∷ []) rest) ∙ filter_map-append (change_at t) (reverse rest) (k ∷ [])

-- its change, where it has one
pub change_here : (t : SystemTree) (k : ℕ) (c : Connection) (o : Option Change) → slice_get t.connections k ≡ Some c → c.change ≡ o → filter_map (change_at t) (k ∷ []) ≡ cons_option o []
change_here t k c o at is = ap (λ (z : Option Change). cons_option z []) (ap (option_and_then (λ (z : Connection). z.change)) at ∙ is)

-- ---- one step back

module _ (f : FlatTree) (indexed : IsIndexed f) (last : ℕ → Option ℕ) (are : AreLast f last) (fitting : IsFitting f.tree.now f.shapes.now) (connector : ℕ) (back : List ℕ) (at : ℕ) (way : IsOnWay f.tree.now f.shapes.now connector back at)
    (n : ℕ) (number : (p : paths.Point) → slice_get f.points.items at ≡ Some p → n ≡ number_of (length f.variables.all.items) p) where
  -- no connection ends there
  pub way_ended : last n ≡ None → HasNoWay f.tree.now f.shapes.now connector
  way_ended none =
      way_ends f.tree.now f.shapes.now f.points.items indexed.shapes indexed.points fitting connector back at way
      (no_last_here f indexed last are at n way.here way.stands number none)

  -- the one that does, and where it begins
  module _ (i : ℕ) (found : last n ≡ Some i) where
    joined_here : (s : Point) × JoinsAt f.tree.now f.shapes.now i s way.here
    joined_here = last_joins_here f indexed last are at n way.here way.stands number i found

    pub step_within : i < length f.connections.items
    step_within =
        let less = slice_get_within f.tree.now.connections i joined_here.1.connection joined_here.1.is in
        let same = ap length indexed.connections ∙ length-map f.tree.now.connections ends_of in
        omega (arith, less, same)

    module _ (e : joints.Connection) (read : e ≡ get_or f.connections.items i e) where
      begins_at : point_of f.tree.now f.shapes.now e.start ≡ Some joined_here.0
      begins_at =
          ap (λ (z : joints.Connection). point_of f.tree.now f.shapes.now z.start)
          (ends_read f.tree.now f.connections.items i e indexed.connections read joined_here.1.connection joined_here.1.is) ∙ joined_here.1.start

      pub step_start : e.start < length f.tree.now.connectors
      step_start = point_within f.tree.now f.shapes.now e.start joined_here.0 begins_at

      pub way_found : (new : List ℕ) → new ≡ back ++ i ∷ [] → IsOutputAt f.tree.now f.shapes.now e.start → IsWay f connector e.start new
      way_found new more output = record {
        from = joined_here.0;
        to = way.to;
        output = output;
        begins = begins_at;
        ends = way.ends;
        leads = subst (λ (zs : List ℕ). LeadsBack f.tree.now f.shapes.now joined_here.0 zs way.to) (sym more)
            (way_whole f.tree.now f.shapes.now f.points.items indexed.shapes indexed.points fitting connector back at way i e.start joined_here.0 joined_here.1 begins_at);
      }

      pub way_stopped : (IsOutputAt f.tree.now f.shapes.now e.start → ⊥) → (IsOfSystem f.tree.now (Itself e.start) → ⊥) → HasNoWay f.tree.now f.shapes.now connector
      way_stopped no_output no_system_there =
          way_stops f.tree.now f.shapes.now f.points.items indexed.shapes indexed.points fitting connector back at way i e.start joined_here.0 joined_here.1 begins_at no_output no_system_there

      pub way_onward : (new : List ℕ) → new ≡ back ++ i ∷ [] → IsOfSystem f.tree.now (Itself e.start) → IsOnWay f.tree.now f.shapes.now connector new e.start
      way_onward new more through =
          subst (λ (zs : List ℕ). IsOnWay f.tree.now f.shapes.now connector zs e.start) (sym more)
          (way_more f.tree.now f.shapes.now f.points.items indexed.shapes indexed.points fitting connector back at way i e.start joined_here.0 joined_here.1 begins_at through)
