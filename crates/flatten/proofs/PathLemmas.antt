-- Paths of connections: where they begin and end, and how they go on.
use Rattle.std.proofs.Common.{◌≡◌, ◌⊎◌, ℕ, List, Some, sym, ap, ◌∙◌, subst, inl, inr}
use Rattle.std.proofs.lemmas.Option.{same_Some}
use Rattle.value_types.specs.declared.shape.Shape.{Shape}
use Rattle.value_types.specs.declared.shape.Variable.{Variable}
use Rattle.value_types.specs.declared.shape.Causality.{Causality}
use Rattle.connection_paths.specs.declared.point.Point as paths
use Rattle.ssd_tree.specs.declared.tree.SystemTree.{SystemTree}
use Rattle.flatten.specs.Points.{Point, OfComponent, Itself, IsOfSystem, IsVariable, point_of, variable_of}
use Rattle.flatten.specs.Paths.{Joins, Leads, LeadsUpTo}
use Rattle.flatten.specs.Given.{AreShapesOf}
use Rattle.flatten.specs.Indexed.{AreNumbered}
use Rattle.flatten.proofs.ReachLemmas.{reaches_on, up_to_on, first_link, last_link, before_last}
use Rattle.flatten.proofs.StandsLemmas.{IsItself, IsNamed, sort_of, variable_there}
use Rattle.flatten.proofs.BridgeLemmas.{at_place, point_within}

module _ (t : SystemTree) (shapes : List Shape) where
  -- a path to a connector of a System, and one from there
  pub leads_on : (p m q : Point) → Leads t shapes p m → IsOfSystem t m → Leads t shapes m q → Leads t shapes p q
  leads_on p m q = reaches_on (Joins t shapes) (IsOfSystem t) p m q

  pub leads_up_on : (p m s : Point) → Leads t shapes p m → IsOfSystem t m → LeadsUpTo t shapes m s → LeadsUpTo t shapes p s
  leads_up_on p m s = up_to_on (Joins t shapes) (IsOfSystem t) p m s

  -- a path has a last connection
  pub last_joins : (p q : Point) → Leads t shapes p q → (s : Point) × LeadsUpTo t shapes p s × Joins t shapes s q
  last_joins p q = last_link (Joins t shapes) (IsOfSystem t) p q

  pub leads_by_last : (p s q : Point) → LeadsUpTo t shapes p s → Joins t shapes s q → Leads t shapes p q
  leads_by_last p s q = before_last (Joins t shapes) (IsOfSystem t) p s q

  -- a path begins at a connector
  pub first_connector : (p q : Point) → Leads t shapes p q → (c : ℕ) × (point_of t shapes c ≡ Some p)
  first_connector p q h =
      let l = first_link (Joins t shapes) (IsOfSystem t) p q h in
      (l.1.0.start, l.1.1.start)

  pub start_connector : (p s : Point) (d : ℕ) → point_of t shapes d ≡ Some s → LeadsUpTo t shapes p s → (c : ℕ) × (point_of t shapes c ≡ Some p)
  start_connector p s d e (inl same) = (d, e ∙ ap Some (sym same))
  start_connector p s d e (inr h) = first_connector p s h.1

  -- a variable isn't a connector of a System
  pub no_system : (causality : Causality) (p : Point) (x : Variable) → IsVariable shapes causality p x → IsOfSystem t p → ⊥
  no_system causality (OfComponent component reference) x is h = h
  no_system causality (Itself c) x is h = let e = is.0 in cc

  module _ (points : List paths.Point) (sound : AreShapesOf t shapes) (are : AreNumbered t shapes points) where
    pub kind_of : (c : ℕ) (p : Point) → point_of t shapes c ≡ Some p → IsItself t shapes points c ⊎ IsNamed t shapes points c
    kind_of c p e =
        let k = at_place t.connectors c (point_within t shapes c p e) in
        sort_of t shapes points are c k.0 k.1

    -- the point of a connector of a System is the connector
    pub system_itself : (c : ℕ) (p : Point) → point_of t shapes c ≡ Some p → IsOfSystem t p → p ≡ Itself c
    system_itself c p e h = by (kind_of c p e)
      where
        by : IsItself t shapes points c ⊎ IsNamed t shapes points c → p ≡ Itself c
        by (inl i) = same_Some p (Itself c) (sym e ∙ i.point)
        by (inr n) = absurd (subst (IsOfSystem t) (same_Some p (OfComponent n.component n.variable.reference) (sym e ∙ n.point)) h)

    pub itself_there : (c : ℕ) (p : Point) → point_of t shapes c ≡ Some p → IsOfSystem t (Itself c) → p ≡ Itself c
    itself_there c p e h = by (kind_of c p e)
      where
        by : IsItself t shapes points c ⊎ IsNamed t shapes points c → p ≡ Itself c
        by (inl i) = same_Some p (Itself c) (sym e ∙ i.point)
        by (inr n) = absurd (n.other h)

    -- what connectors of one point name
    pub one_variable : (c d : ℕ) (p : Point) → point_of t shapes c ≡ Some p → point_of t shapes d ≡ Some p → variable_of t shapes c ≡ variable_of t shapes d
    one_variable c d p e h =
        sym (variable_there t shapes points sound c p (kind_of c p e) e) ∙ variable_there t shapes points sound d p (kind_of d p h) h

    -- the point of a connector that names a variable is the variable
    pub variable_here : (causality : Causality) (c : ℕ) (p : Point) (x : Variable) → point_of t shapes c ≡ Some p → variable_of t shapes c ≡ Some x → x.causality ≡ causality → IsVariable shapes causality p x
    variable_here causality c p x e names is = (variable_there t shapes points sound c p (kind_of c p e) e ∙ names, is)

    pub names_variable : (causality : Causality) (c : ℕ) (p : Point) (x : Variable) → point_of t shapes c ≡ Some p → IsVariable shapes causality p x → variable_of t shapes c ≡ Some x
    names_variable causality c p x e is = sym (variable_there t shapes points sound c p (kind_of c p e) e) ∙ is.0
