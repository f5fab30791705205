-- What a document without violation says is a tree whose names are those of its Systems.
use Rattle.std.proofs.Common.{◌≡◌, ◌⊎◌, ℕ, ◌<◌, List, [], ◌∷◌, ◌++◌, length, get_or, Option, Some, None, IsSomeAnd, MatchOption, codes, refl, sym, ap, ◌∙◌, subst, inl, inr, arith, append_assoc, All}
use Rattle.std.specs.List.{AllZip, slice_get}
use Rattle.std.proofs.lemmas.Bool.{cases_order}
use Rattle.std.proofs.lemmas.List.Elements.{All-cons, All-nil}
use Rattle.std.proofs.lemmas.Option.{get_or_from_slice_get, none-some, same_Some, slice_get-get_or, slice_get_within}
use Rattle.std.proofs.lemmas.Slice.Zip.{AllZip-left, AllZip-long, AllZip-right}
use Rattle.doc_grammar.specs.Nodes.{Node}
use Rattle.doc_tree.specs.Elements.{IsBelow, IsInOrder}
use Rattle.doc_tables.specs.Elements.{attribute, parent}
use Rattle.ssd_tree.specs.declared.tree.Owner.{Owner}
use Rattle.ssd_tree.specs.declared.tree.Owner.TheVariants.{System, Component}
use Rattle.ssd_tree.specs.declared.tree.Binding.{Binding}
use Rattle.ssd_tree.specs.declared.tree.ComponentPart.{ComponentPart}
use Rattle.ssd_tree.specs.declared.tree.SystemPart.{SystemPart}
use Rattle.ssd_tree.specs.declared.tree.SystemTree.{SystemTree}
use Rattle.ssd_tree.specs.Elements.{holder, IsComponent, IsSystem}
use Rattle.ssd_tree.specs.Parts.{Describes, InInner, InOutermost, IsBindingPart, IsComponentPart, IsFullName, IsPlaceOf, IsSystemPart, owner_node}
use Rattle.ssd_tree.specs.Rules.{IsSoundStructure}
use Rattle.ssd_tree.proofs.CallerLemmas.{holder_cases, alone_in_root, component_within as inside_document, contains_at, outermost_system, system_within}
use Rattle.structure_laws.specs.Orderly.{AreRising, IsOrderly, StandsAfter}
use Rattle.structure_laws.specs.OwnNames.{HasOwnName}
use Rattle.ssd_tree.specs.Named.{Inner, IsInScope, IsNamedTree, IsOwner, IsScope, Outermost}

-- ---- lists side by side

-- what holds of all that stands beside anything
each_beside : {X Y : Type 0} (R : X → Y → Type 0) (Q : Y → Type 0) → ((x : X) (y : Y) → R x y → Q y) → (xs : List X) (ys : List Y) → AllZip R xs ys → All Q ys
each_beside R Q h [] [] zip = All-nil Q
each_beside R Q h [] (y ∷ ys) zip = absurd zip
each_beside R Q h (x ∷ xs) [] zip = absurd zip
each_beside R Q h (x ∷ xs) (y ∷ ys) zip = All-cons Q y ys (h x y zip.0) (each_beside R Q h xs ys zip.1)

-- what stands beside an item of the second list
beside : {A B : Type 0} (R : A → B → Type 0) (xs : List A) (ys : List B) → AllZip R xs ys → (i : ℕ) (y : B) → slice_get ys i ≡ Some y → (x : A) × (slice_get xs i ≡ Some x) × R x y
beside {A} {B} R xs ys all i y e =
    pick (slice_get xs i) refl (subst (λ (o : Option B). MatchOption o (Unit {0}) (λ z. IsSomeAnd (slice_get xs i) (λ x. R x z))) e (AllZip-right R xs ys all i))
  where
    pick : (o : Option A) → slice_get xs i ≡ o → IsSomeAnd o (λ x. R x y) → (x : A) × (slice_get xs i ≡ Some x) × R x y
    pick None f h = absurd h
    pick (Some x) f h = (x, f, h)

-- what stands beside an item of the first list
across : {A B : Type 0} (R : A → B → Type 0) (xs : List A) (ys : List B) → AllZip R xs ys → (i : ℕ) (x : A) → slice_get xs i ≡ Some x → (y : B) × (slice_get ys i ≡ Some y) × R x y
across {A} {B} R xs ys all i x e =
    pick (slice_get ys i) refl (subst (λ (o : Option A). MatchOption o (Unit {0}) (λ z. IsSomeAnd (slice_get ys i) (R z))) e (AllZip-left R xs ys all i))
  where
    pick : (o : Option B) → slice_get ys i ≡ o → IsSomeAnd o (R x) → (y : B) × (slice_get ys i ≡ Some y) × R x y
    pick None f h = absurd h
    pick (Some y) f h = (y, f, h)

-- ---- places

-- the element that has the place
placed : (nodes : List ℕ) (place : ℕ) (o : Option ℕ) → IsPlaceOf nodes (Some place) o → (k : ℕ) × (o ≡ Some k) × (slice_get nodes place ≡ Some k)
placed nodes place None h = absurd h
placed nodes place (Some k) h = (k, refl, h)

unplaced : (nodes : List ℕ) (p o : Option ℕ) → IsPlaceOf nodes p o → o ≡ None → p ≡ None
unplaced nodes None o h e = refl
unplaced nodes (Some place) None h e = absurd h
unplaced nodes (Some place) (Some k) h e = absurd (none-some k (sym e))

has_place : (nodes : List ℕ) (p : Option ℕ) (k : ℕ) (o : Option ℕ) → IsPlaceOf nodes p o → o ≡ Some k → (place : ℕ) × (p ≡ Some place) × (slice_get nodes place ≡ Some k)
has_place nodes p k None h e = absurd (none-some k e)
has_place nodes None k (Some j) h e = absurd h
has_place nodes (Some place) k (Some j) h e = (place, refl, h ∙ e)

module _ (t : List Node) (in_order : IsInOrder t) where
  after : (k p : ℕ) → parent t k ≡ Some p → p < k
  after k p e = subst (IsBelow k) e (in_order k)

  holder_after : (k system : ℕ) (list : List ℕ) → holder t k list ≡ Some system → system < k
  holder_after k system list e =
      let parts = holder_cases t k system list e in
      omega (arith, after k parts.0 parts.1, after parts.0 system parts.3)

  module _ (tree : SystemTree) (sound : IsSoundStructure t) (describes : Describes t tree) where
    -- the element of a System, by its place
    element : (s : ℕ) (part : SystemPart) → slice_get tree.systems s ≡ Some part → (k : ℕ) × (slice_get describes.nodes.systems s ≡ Some k) × IsSystemPart t describes.nodes k part
    element s part e = beside (IsSystemPart t describes.nodes) describes.nodes.systems tree.systems describes.systems s part e

    lower : (i j a b : ℕ) → slice_get describes.nodes.systems i ≡ Some a → slice_get describes.nodes.systems j ≡ Some b → a < b → i < j
    lower i j a b p q less = at (cases_order i j)
      where
        at : (i ≡ j) ⊎ ((i < j) ⊎ (j < i)) → i < j
        at (inl e) =
            let same : a ≡ b = same_Some a b (sym p ∙ ap (λ (z : ℕ). slice_get describes.nodes.systems z) e ∙ q) in
            absurd (omega (arith, same, less))
        at (inr (inl h)) = h
        at (inr (inr h)) =
            let first : get_or describes.nodes.systems i 0 ≡ a = get_or_from_slice_get describes.nodes.systems i a 0 p in
            let second : get_or describes.nodes.systems j 0 ≡ b = get_or_from_slice_get describes.nodes.systems j b 0 q in
            let rises : get_or describes.nodes.systems j 0 < get_or describes.nodes.systems i 0 = describes.lists.systems.rising j i h (slice_get_within describes.nodes.systems i a p) in
            absurd (omega (arith, first, second, rises, less))

    outer : (s above : ℕ) (part : SystemPart) → slice_get tree.systems s ≡ Some part → part.parent ≡ Some above → above < s
    outer s above part e up =
        let here = element s part e in
        let around = placed describes.nodes.systems above (holder t here.0 (codes "Elements")) (subst (λ (p : Option ℕ). IsPlaceOf describes.nodes.systems p (holder t here.0 (codes "Elements"))) up here.2.outer) in
        lower above s around.0 here.0 around.2 here.1 (holder_after here.0 around.0 (codes "Elements") around.1)

    long : length tree.systems ≡ length describes.nodes.systems
    long = AllZip-long (IsSystemPart t describes.nodes) describes.nodes.systems tree.systems describes.systems

    pub component_count : length tree.components ≡ length describes.nodes.components
    component_count = AllZip-long (IsComponentPart t describes.nodes) describes.nodes.components tree.components describes.components

    component_within : (k : ℕ) (c : ComponentPart) → IsComponentPart t describes.nodes k c → c.system < length tree.systems
    component_within k c is =
        let around = placed describes.nodes.systems c.system (holder t k (codes "Elements")) is.system in
        let low = slice_get_within describes.nodes.systems c.system around.0 around.2 in
        let same = long in
        omega (arith, low, same)

    owned : (owner : Owner) (k : ℕ) → owner_node describes.nodes owner ≡ Some k → IsOwner tree owner
    owned (System place) k e = let low = slice_get_within describes.nodes.systems place k e in let same = long in omega (arith, low, same)
    owned (Component place) k e = let low = slice_get_within describes.nodes.components place k e in let same = component_count in omega (arith, low, same)

    -- a full name is the names of the Systems around, and its own
    record Scoped (k place : ℕ) (name : List ℕ) : Type 0 where
      scope : List ℕ
      scope_is : IsScope tree place scope
      own : List ℕ
      own_is : attribute t k (codes "name") ≡ Some own
      name_is : name ≡ scope ++ own

    scoped : (k place around : ℕ) (name : List ℕ) → IsFullName t k name → holder t k (codes "Elements") ≡ Some around → slice_get describes.nodes.systems place ≡ Some around → Scoped k place name
    scoped k place around name (InOutermost _ out _ up root own) here at =
        let same : out ≡ around = same_Some out around (sym up ∙ here) in
        let part = across (IsSystemPart t describes.nodes) describes.nodes.systems tree.systems describes.systems place around at in
        let alone : part.0.parent ≡ None = unplaced describes.nodes.systems part.0.parent (holder t around (codes "Elements")) part.2.outer (no_holder around (subst (λ (z : ℕ). parent t z ≡ Some 0) same root)) in
        record { scope = []; scope_is = Outermost place part.0 [] part.1 alone refl; own = name; own_is = own; name_is = refl }
      where
        no_holder : (s : ℕ) → parent t s ≡ Some 0 → holder t s (codes "Elements") ≡ None
        no_holder s root = by (holder t s (codes "Elements")) refl
          where
            by : (o : Option ℕ) → holder t s (codes "Elements") ≡ o → o ≡ None
            by None e = refl
            by (Some p) e = absurd (alone_in_root t s p sound root e)
    scoped k place around name (InInner _ system out above own up inner full named) here at =
        let same : system ≡ around = same_Some system around (sym up ∙ here) in
        let part = across (IsSystemPart t describes.nodes) describes.nodes.systems tree.systems describes.systems place around at in
        let held : holder t around (codes "Elements") ≡ Some out = subst (λ (z : ℕ). holder t z (codes "Elements") ≡ Some out) same inner in
        let above_place = has_place describes.nodes.systems part.0.parent out (holder t around (codes "Elements")) part.2.outer held in
        let rest = scoped system above_place.0 out above full inner above_place.2 in
        let own_name : part.0.name ≡ rest.own = same_Some part.0.name rest.own (sym part.2.name ∙ subst (λ (z : ℕ). attribute t z (codes "name") ≡ Some rest.own) same rest.own_is) in
        record {
          scope = rest.scope ++ (part.0.name ++ 46 ∷ []);
          scope_is = Inner place above_place.0 part.0 rest.scope (rest.scope ++ (part.0.name ++ 46 ∷ [])) part.1 above_place.1 rest.scope_is refl;
          own = own;
          own_is = named;
          name_is = joined rest.scope rest.own part.0.name above own own_name rest.name_is;
        }
      where
        joined : (scope own' name' above own : List ℕ) → name' ≡ own' → above ≡ scope ++ own' → above ++ 46 ∷ own ≡ (scope ++ (name' ++ 46 ∷ [])) ++ own
        joined scope own' name' above own e f =
            ap (λ (zs : List ℕ). zs ++ 46 ∷ own) (f ∙ ap (λ (zs : List ℕ). scope ++ zs) (sym e))
            ∙ append_assoc scope name' (46 ∷ own)
            ∙ ap (λ (zs : List ℕ). scope ++ zs) (sym (append_assoc name' (46 ∷ []) own))
            ∙ sym (append_assoc scope (name' ++ 46 ∷ []) own)

    -- ---- order

    system_at : (i k : ℕ) → slice_get describes.nodes.systems i ≡ Some k → IsSystem t k
    system_at i k at = (describes.lists.systems.each k).0 (contains_at describes.nodes.systems i k at)

    component_at : (i k : ℕ) → slice_get describes.nodes.components i ≡ Some k → IsComponent t k
    component_at i k at = (describes.lists.components.each k).0 (contains_at describes.nodes.components i k at)

    component_element : (i : ℕ) (c : ComponentPart) → slice_get tree.components i ≡ Some c → (k : ℕ) × (slice_get describes.nodes.components i ≡ Some k) × IsComponentPart t describes.nodes k c
    component_element i c e = beside (IsComponentPart t describes.nodes) describes.nodes.components tree.components describes.components i c e

    rising : AreRising tree.systems
    rising i j x y at there less =
        let one = element i x at in
        let two = element j y there in
        let first : get_or describes.nodes.systems i 0 ≡ one.0 = get_or_from_slice_get describes.nodes.systems i one.0 0 one.1 in
        let second : get_or describes.nodes.systems j 0 ≡ two.0 = get_or_from_slice_get describes.nodes.systems j two.0 0 two.1 in
        let rises : get_or describes.nodes.systems i 0 < get_or describes.nodes.systems j 0 = describes.lists.systems.rising i j less (slice_get_within describes.nodes.systems j two.0 two.1) in
        let a = one.2.node in
        let b = two.2.node in
        omega (arith, first, second, rises, a, b)

    below : (i : ℕ) (x : SystemPart) → slice_get tree.systems i ≡ Some x → x.node < length t
    below i x at =
        let here = element i x at in
        let inside = system_within t here.0 (system_at i here.0 here.1) in
        let a = here.2.node in
        omega (arith, inside, a)

    root : (x : SystemPart) × (slice_get tree.systems 0 ≡ Some x) × (x.parent ≡ None)
    root =
        let there = outermost_system t sound in
        let place = (describes.lists.systems.each there.0).1 there.1 in
        let more = place.1 in
        let many = long in
        let at : slice_get tree.systems 0 ≡ Some (get_or tree.systems 0 dummy) = slice_get-get_or tree.systems 0 dummy (omega (arith, more, many)) in
        let x = get_or tree.systems 0 dummy in
        (x, at, no_parent x.parent (λ above up. let h = outer 0 above x at up in omega (arith, h)))
      where
        dummy : SystemPart
        dummy = record { node = 0; parent = None; name = [] }

        no_parent : (o : Option ℕ) → ((above : ℕ) → o ≡ Some above → ⊥) → o ≡ None
        no_parent None none = refl
        no_parent (Some above) none = absurd (none above refl)

    stands : (i : ℕ) (c : ComponentPart) → slice_get tree.components i ≡ Some c → StandsAfter tree c
    stands i c at =
        let here = component_element i c at in
        let around = placed describes.nodes.systems c.system (holder t here.0 (codes "Elements")) here.2.system in
        let part = across (IsSystemPart t describes.nodes) describes.nodes.systems tree.systems describes.systems c.system around.0 around.2 in
        let less = holder_after here.0 around.0 (codes "Elements") around.1 in
        let a = here.2.node in
        let b = part.2.node in
        (part.0, part.1, omega (arith, less, a, b))

    ends : (i : ℕ) (c : ComponentPart) → slice_get tree.components i ≡ Some c → c.node < length t
    ends i c at =
        let here = component_element i c at in
        let inside = inside_document t here.0 (component_at i here.0 here.1) in
        let a = here.2.node in
        omega (arith, inside, a)

    pub orderly_tree : IsOrderly (length t) tree
    orderly_tree = record {
      rising = rising;
      below = below;
      root = root;
      outer = outer;
      within = stands;
      ends = ends;
    }

    -- ---- names

    -- a Component whose own name is known
    pub own_named : (place k : ℕ) (own : List ℕ) → slice_get describes.nodes.components place ≡ Some k → attribute t k (codes "name") ≡ Some own → HasOwnName tree place own
    own_named place k own at named =
        let part = across (IsComponentPart t describes.nodes) describes.nodes.components tree.components describes.components place k at in
        let around = placed describes.nodes.systems part.0.system (holder t k (codes "Elements")) part.2.system in
        let parts = scoped k part.0.system around.0 part.0.name part.2.name around.1 around.2 in
        let same : parts.own ≡ own = same_Some parts.own own (sym parts.own_is ∙ named) in
        record {
          component = part.0;
          at = part.1;
          scope = parts.scope;
          scope_is = parts.scope_is;
          is = parts.name_is ∙ ap (λ (zs : List ℕ). parts.scope ++ zs) same;
        }

    in_scope : (k : ℕ) (c : ComponentPart) → IsComponentPart t describes.nodes k c → IsInScope tree c
    in_scope k c is =
        let around = placed describes.nodes.systems c.system (holder t k (codes "Elements")) is.system in
        let parts = scoped k c.system around.0 c.name is.name around.1 around.2 in
        record { scope = parts.scope; scope_is = parts.scope_is; own = parts.own; is = parts.name_is }

    pub named_tree : IsNamedTree tree
    named_tree = record {
      outer = outer;
      within = each_beside (IsComponentPart t describes.nodes) (λ (c : ComponentPart). c.system < length tree.systems) component_within describes.nodes.components tree.components describes.components;
      scopes = each_beside (IsComponentPart t describes.nodes) (IsInScope tree) in_scope describes.nodes.components tree.components describes.components;
      owners = each_beside (IsBindingPart t describes.nodes) (λ (b : Binding). IsOwner tree b.owner) (λ k b is. owned b.owner is.part is.owner) describes.nodes.bindings tree.bindings describes.bindings;
    }
