-- A path has a last connection, and the path by which an output feeds an input is one of connections.
use Rattle.std.proofs.Common.{◌≡◌, ◌⊎◌, List, [], ◌∷◌, refl, subst, inl, inr, All}
use Rattle.std.proofs.lemmas.List.Elements.{All-head, All-tail, All-nil, All-cons}
use Rattle.value_types.specs.declared.shape.Shape.{Shape}
use Rattle.dependency_order.specs.Graph.{Leads}
use Rattle.dependency_order.specs.Paths.{Reaches}
use Rattle.parameter_values.specs.declared.change.Change.{Change}
use Rattle.ssd_tree.specs.declared.tree.Connection.{Connection}
use Rattle.ssd_tree.specs.declared.tree.SystemTree.{SystemTree}
use Rattle.flatten.specs.Points.{Point, IsOfSystem}
use Rattle.flatten.specs.Paths.{Joins, LeadsBy, Feeds, EndsBy}

module _ {A : Type 0} (Link : A → A → Type 0) (Through : A → Type 0) where
  -- the last link of a path, and the path up to it
  pub record HasLast (a b : A) : Type 0 where
    pub start : A
    pub up_to : (a ≡ start) ⊎ (Through start × Reaches Link Through a start)
    pub link : Link start b

  further : (a x s : A) → Link a x → Through x → (x ≡ s) ⊎ (Through s × Reaches Link Through x s) → Through s × Reaches Link Through a s
  further a x s link at (inl e) = (subst Through e at, record { between = []; through = All-nil Through; leads = subst (Link a) e link })
  further a x s link at (inr more) = (more.0, record { between = x ∷ more.1.between; through = All-cons Through x more.1.between at more.1.through; leads = (link, more.1.leads) })

  last_link : (a : A) (xs : List A) (b : A) → All Through xs → Leads Link a xs b → HasLast a b
  last_link a [] b all leads = record { start = a; up_to = inl refl; link = leads }
  last_link a (x ∷ xs) b all leads =
      let more : HasLast x b = last_link x xs b (All-tail Through x xs all) leads.1 in
      record { start = more.start; up_to = inr (further a x more.start leads.0 (All-head Through x xs all) more.up_to); link = more.link }

  pub last_of : (a b : A) → Reaches Link Through a b → HasLast a b
  last_of a b path = last_link a path.between b path.through path.leads

-- connections one after the other make a path
pub reaches_by : (t : SystemTree) (shapes : List Shape) (p : Point) (ks : List Connection) (q : Point) → LeadsBy t shapes p ks q → Reaches (Joins t shapes) (IsOfSystem t) p q
reaches_by t shapes p [] q h = absurd h
reaches_by t shapes p (k ∷ []) q h = record { between = []; through = All-nil (IsOfSystem t); leads = (k, h) }
reaches_by t shapes p (k ∷ (l ∷ ks)) q h =
    let more : Reaches (Joins t shapes) (IsOfSystem t) h.0 q = reaches_by t shapes h.0 (l ∷ ks) q h.3 in
    record { between = h.0 ∷ more.between; through = All-cons (IsOfSystem t) h.0 more.between h.2 more.through; leads = ((k, h.1), more.leads) }

-- the last connection of the path by which an output feeds an input
pub record EndsAt (t : SystemTree) (shapes : List Shape) (p : Point) (changes : List Change) (q : Point) (feeds : Feeds t shapes p changes q) : Type 0 where
  pub connection : Connection
  pub start : Point
  pub ends : EndsBy t shapes connection p start q feeds.output feeds.input

pub ends_at : (t : SystemTree) (shapes : List Shape) (p : Point) (changes : List Change) (q : Point) (feeds : Feeds t shapes p changes q) → EndsAt t shapes p changes q feeds
ends_at t shapes p changes q feeds =
    let last = last_of (Joins t shapes) (IsOfSystem t) p q (reaches_by t shapes p feeds.path q feeds.leads) in
    record {
      connection = last.link.0;
      start = last.start;
      ends = record { from = feeds.from; to = feeds.to; up_to = last.up_to; last = last.link.1 };
    }
