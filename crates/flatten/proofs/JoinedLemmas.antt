-- A tree with other connections between its connectors: what the connectors stand for stays.
use Rattle.std.proofs.Common.{◌≡◌, ◌+◌, ◌++◌, ℕ, Bool, true, false, cond, List, [], ◌∷◌, map, filter, take, get_or, length, not, is_some, refl, sym, ap, ◌∙◌, ◌<◌}
use Rattle.std.proofs.lemmas.List.{map-append}
use Rattle.std.proofs.lemmas.List.Elements.{All-filter, All-weaker, filter_more}
use Rattle.value_types.specs.declared.shape.Shape.{Shape}
use Rattle.connection_paths.specs.declared.point.Connection as joints
use Rattle.connection_paths.specs.declared.point.Point as paths
use Rattle.ssd_tree.specs.Named.{IsOwner}
use Rattle.ssd_tree.specs.declared.tree.Connection.{Connection}
use Rattle.ssd_tree.specs.declared.tree.Connector.{Connector}
use Rattle.ssd_tree.specs.declared.tree.Owner.{Owner}
use Rattle.ssd_tree.specs.declared.tree.Owner.TheVariants.{System, Component}
use Rattle.ssd_tree.specs.declared.tree.SystemTree.{SystemTree}
use Rattle.flatten.specs.Given.{AreShapesOf, IsWholeTree}
use Rattle.flatten.specs.Indexed.{AreNumbered, ends_of, joined}
use Rattle.flatten.specs.Paths.{plain}

pub shapes_joined : (t : SystemTree) (ks : List Connection) (shapes : List Shape) → AreShapesOf t shapes → AreShapesOf (joined t ks) shapes
shapes_joined t ks shapes h = record {
  len = h.len;
  sound = h.sound;
  per_second = h.per_second;
  above = h.above;
  within = h.within;
  resolutions = h.resolutions;
}

pub numbered_joined : (t : SystemTree) (ks : List Connection) (shapes : List Shape) (points : List paths.Point) → AreNumbered t shapes points → AreNumbered (joined t ks) shapes points
numbered_joined t ks shapes points h = record { len = h.len; each = h.each }

owner_plain : (t : SystemTree) (o : Owner) → IsOwner t o → IsOwner (plain t) o
owner_plain t (System i) h = h
owner_plain t (Component i) h = h

pub whole_plain : (t : SystemTree) → IsWholeTree t → IsWholeTree (plain t)
whole_plain t h = record {
  root = h.root;
  few = h.few;
  named = h.named;
  owners = All-weaker (λ (k : Connector). IsOwner t k.owner) (λ (k : Connector). IsOwner (plain t) k.owner) (λ k is. owner_plain t k.owner is) t.connectors h.owners;
  ends = All-filter (λ (k : Connection). not (is_some k.change)) (λ (k : Connection). (k.start < length t.connectors) × (k.end < length t.connectors)) t.connections h.ends;
}

-- ---- the table of the connections without a transformation

abbrev pub has_none : Connection → Bool
has_none k = not (is_some k.change)

abbrev pub plain_ends : List Connection → List joints.Connection
plain_ends ks = map ends_of (filter has_none ks)

pub plain_more : (ks : List Connection) (i : ℕ) (k : Connection) → i < length ks → k ≡ get_or ks i k → (b : Bool) → is_some k.change ≡ b → plain_ends (take (i + 1) ks) ≡ plain_ends (take i ks) ++ cond b [] (ends_of k ∷ [])
plain_more ks i k within read b is = whole ∙ by b is
  where
    whole : plain_ends (take (i + 1) ks) ≡ plain_ends (take i ks) ++ map ends_of (cond (has_none k) (k ∷ []) [])
    whole =
        ap (map ends_of) (filter_more has_none ks i k within ∙ ap (λ (z : Connection). filter has_none (take i ks) ++ cond (has_none z) (z ∷ []) []) (sym read))
        ∙ map-append ends_of (filter has_none (take i ks)) (cond (has_none k) (k ∷ []) [])

    by : (b : Bool) → is_some k.change ≡ b → plain_ends (take i ks) ++ map ends_of (cond (has_none k) (k ∷ []) []) ≡ plain_ends (take i ks) ++ cond b [] (ends_of k ∷ [])
    by true e = ap (λ (z : Bool). plain_ends (take i ks) ++ map ends_of (cond (not z) (k ∷ []) [])) e
    by false e = ap (λ (z : Bool). plain_ends (take i ks) ++ map ends_of (cond (not z) (k ∷ []) [])) e

-- ---- and that of all, reversed

abbrev pub ends_back : Connection → joints.Connection
ends_back k = record { start = k.end; end = k.start }

pub turned_ends : (ks : List Connection) → map ends_back ks ≡ map ends_of (map (λ (k : Connection). record k { start = k.end; end = k.start }) ks)
turned_ends [] = refl
turned_ends (k ∷ ks) = ap (λ (zs : List joints.Connection). ends_back k ∷ zs) (turned_ends ks)
