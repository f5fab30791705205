-- Paths of reversed connections lead back.
use Rattle.std.proofs.Common.{List, [], ◌∷◌, sym, ap, ◌∙◌, inl, inr}
use Rattle.std.specs.List.{All}
use Rattle.std.proofs.lemmas.List.Elements.{All-head, All-tail}
use Rattle.value_types.specs.declared.shape.Shape.{Shape}
use Rattle.dependency_order.specs.Graph as graph
use Rattle.dependency_order.specs.Paths.{Reaches}
use Rattle.ssd_tree.specs.declared.tree.Connection.{Connection}
use Rattle.ssd_tree.specs.declared.tree.SystemTree.{SystemTree}
use Rattle.flatten.specs.Points.{Point, OfComponent, Itself, IsOfSystem, point_of}
use Rattle.flatten.specs.Paths.{Joins, Leads, LeadsUpTo, LeadsOnTo, turned}
use Rattle.flatten.proofs.BridgeLemmas.{contains_map, map_contains}
use Rattle.flatten.proofs.ReachLemmas.{reaches_at_once, reaches_on}

module _ {A : Type 0} (Link Back : A → A → Type 0) (Through Passes : A → Type 0) (turn : (a b : A) → Link a b → Back b a) (pass : (a : A) → Through a → Passes a) where
  back : (a : A) (xs : List A) (b : A) → All Through xs → graph.Leads Link a xs b → Reaches Back Passes b a
  back a [] b all leads = reaches_at_once Back Passes b a (turn a b leads)
  back a (x ∷ xs) b all leads =
      reaches_on Back Passes b x a (back x xs b (All-tail Through x xs all) leads.1) (pass x (All-head Through x xs all)) (reaches_at_once Back Passes x a (turn a x leads.0))

  pub reaches_back : (a b : A) → Reaches Link Through a b → Reaches Back Passes b a
  reaches_back a b h = back a h.between b h.through h.leads

abbrev pub round : Connection → Connection
round k = record k { start = k.end; end = k.start }

module _ (t : SystemTree) (shapes : List Shape) where
  joins_turned : (p q : Point) → Joins t shapes p q → Joins (turned t) shapes q p
  joins_turned p q h = (round h.0, record { is = contains_map round t.connections h.0 h.1.is; start = h.1.end; end = h.1.start })

  joins_unturned : (p q : Point) → Joins (turned t) shapes p q → Joins t shapes q p
  joins_unturned p q h =
      let k = map_contains round t.connections h.0 h.1.is in (
        k.0,
        record {
          is = k.1;
          start = ap (λ (z : Connection). point_of t shapes z.end) k.2 ∙ h.1.end;
          end = ap (λ (z : Connection). point_of t shapes z.start) k.2 ∙ h.1.start;
        },
      )

  system_turned : (p : Point) → IsOfSystem t p → IsOfSystem (turned t) p
  system_turned (OfComponent component reference) h = h
  system_turned (Itself c) h = h

  system_unturned : (p : Point) → IsOfSystem (turned t) p → IsOfSystem t p
  system_unturned (OfComponent component reference) h = h
  system_unturned (Itself c) h = h

  pub leads_turned : (p q : Point) → Leads t shapes p q → Leads (turned t) shapes q p
  leads_turned p q = reaches_back (Joins t shapes) (Joins (turned t) shapes) (IsOfSystem t) (IsOfSystem (turned t)) joins_turned system_turned p q

  pub leads_unturned : (p q : Point) → Leads (turned t) shapes p q → Leads t shapes q p
  leads_unturned p q = reaches_back (Joins (turned t) shapes) (Joins t shapes) (IsOfSystem (turned t)) (IsOfSystem t) joins_unturned system_unturned p q

  -- what leads on to an input along the connections is led up to from there along the reversed ones
  pub on_from_up : (q e : Point) → LeadsUpTo (turned t) shapes q e → LeadsOnTo t shapes e q
  on_from_up q e (inl same) = inl (sym same)
  on_from_up q e (inr h) = inr (system_unturned e h.0, leads_unturned q e h.1)

  pub up_from_on : (q e : Point) → LeadsOnTo t shapes e q → LeadsUpTo (turned t) shapes q e
  up_from_on q e (inl same) = inl (sym same)
  up_from_on q e (inr h) = inr (system_turned e h.0, leads_turned e q h.1)
