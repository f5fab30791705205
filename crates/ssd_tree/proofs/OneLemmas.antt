-- A document has one tree of systems.
use Rattle.std.proofs.Common.{◌≡◌, ℕ, Bool, true, false, ◌++◌, List, [], ◌∷◌, Option, Some, None, slice_get, codes, refl, sym, ap, ◌∙◌, subst, inl}
use Rattle.std.specs.List.{AllZip}
use Rattle.std.proofs.lemmas.Option.{same_Some, none-some}
use Rattle.sim_base.specs.Path.{plain_path}
use Rattle.doc_grammar.specs.Nodes.{Node}
use Rattle.doc_tree.specs.declared.rule.SystemRule.TheVariants as r
use Rattle.doc_tables.specs.Elements.{attribute, parent, is_named, key_if, Lacks}
use Rattle.doc_tables.specs.Tables.{IsFirstWith}
use Rattle.ssd_tree.specs.declared.tree.Owner.{Owner}
use Rattle.ssd_tree.specs.declared.tree.Owner.TheVariants.{System, Component}
use Rattle.ssd_tree.specs.declared.tree.SystemPart.{SystemPart}
use Rattle.ssd_tree.specs.declared.tree.ComponentPart.{ComponentPart}
use Rattle.ssd_tree.specs.declared.tree.Connector.{Connector}
use Rattle.ssd_tree.specs.declared.tree.Connection.{Connection}
use Rattle.ssd_tree.specs.declared.tree.Binding.{Binding}
use Rattle.ssd_tree.specs.declared.tree.Origin.{Origin}
use Rattle.ssd_tree.specs.declared.tree.Origin.TheVariants.{File, Inline}
use Rattle.ssd_tree.specs.declared.tree.SourceBase.{SourceBase}
use Rattle.ssd_tree.specs.declared.tree.SystemTree.{SystemTree}
use Rattle.ssd_tree.specs.Elements.{both, holder, connector_key, element_key, IsSystem, IsComponent, IsConnector, IsConnection, IsBinding, IsMappingOf, mapping_key, first_child}
use Rattle.ssd_tree.specs.Listings.{IsRising}
use Rattle.ssd_tree.specs.Ends.{IsPartNamed, IsEnd}
use Rattle.ssd_tree.specs.Rules.{IsSoundStructure}
use Rattle.ssd_tree.specs.Parts.{PartNodes, ListsParts, IsFullName, InOutermost, InInner, IsPlaceOf, owner_node, IsSystemPart, IsComponentPart, IsConnectorPart, IsConnectionPart, IsBindingPart, HasPath, IsChangeBy, IsOrigin, IsMappingOrigin, Describes}
use Rattle.parameter_values.specs.declared.change.Change.{Change}
use Rattle.transformations.specs.Elements.{first_transformation}
use Rattle.transformations.proofs.CallerLemmas.{one_change}
use Rattle.ssd_tree.proofs.ListingLemmas.{one_place, one_listing, contains_at}
use Rattle.ssd_tree.proofs.ElementLemmas.{holder_cases, named_once, system_no_component, one_first}

-- ---- names and numbers

-- what stands directly in the root stands in no list of another element
pub alone_in_root : (t : List Node) (k p : ℕ) → IsSoundStructure t → parent t k ≡ Some 0 → holder t k (codes "Elements") ≡ Some p → ⊥
alone_in_root t k p sound root up =
    let parts = holder_cases t k p (codes "Elements") up in
    let same : parts.0 ≡ 0 = same_Some parts.0 0 (sym parts.1 ∙ root) in
    let named : is_named t 0 (codes "Elements") ≡ true = subst (λ (z : ℕ). is_named t z (codes "Elements") ≡ true) same parts.2 in
    none_false t sound named
  where
    other : (t : List Node) → is_named t 0 (codes "Elements") ≡ true → is_named t 0 (codes "SystemStructureDescription") ≡ true → ⊥
    other t p q = named_once t 0 (codes "Elements") (codes "SystemStructureDescription") refl p q

    none_false : (t : List Node) → IsSoundStructure t → is_named t 0 (codes "Elements") ≡ true → ⊥
    none_false t sound named =
        elim (is_named t 0 (codes "SystemStructureDescription")) as (λ b. is_named t 0 (codes "SystemStructureDescription") ≡ b → ⊥) [
          | true ↦ λ e. other t named e
          | false ↦ λ e. sound.1 r.Structure 0 (refl, inl e)
        ] refl

one_name : (t : List Node) → IsSoundStructure t → (j k : ℕ) (n m : List ℕ) → IsFullName t j n → IsFullName t k m → j ≡ k → n ≡ m
one_name t sound j k n m (InOutermost _ outer _ up root named) (InOutermost _ other _ up' root' named') e =
    same_Some n m (sym named ∙ ap (λ (z : ℕ). attribute t z (codes "name")) e ∙ named')
one_name t sound j k n m (InOutermost _ outer _ up root named) (InInner _ system above' last' name' up' inner' is' named') e =
    let same : outer ≡ system = same_Some outer system (sym up ∙ ap (λ (z : ℕ). holder t z (codes "Elements")) e ∙ up') in
    absurd (alone_in_root t system above' sound (subst (λ (z : ℕ). parent t z ≡ Some 0) same root) inner')
one_name t sound j k n m (InInner _ system above last name up inner is named) (InOutermost _ outer _ up' root' named') e =
    let same : outer ≡ system = same_Some outer system (sym up' ∙ ap (λ (z : ℕ). holder t z (codes "Elements")) (sym e) ∙ up) in
    absurd (alone_in_root t system above sound (subst (λ (z : ℕ). parent t z ≡ Some 0) same root') inner)
one_name t sound j k n m (InInner _ system outer above name up inner is named) (InInner _ system' outer' above' name' up' inner' is' named') e =
    let same : system ≡ system' = same_Some system system' (sym up ∙ ap (λ (z : ℕ). holder t z (codes "Elements")) e ∙ up') in
    let beginning : above ≡ above' = one_name t sound system system' above above' is is' same in
    let back : name ≡ name' = same_Some name name' (sym named ∙ ap (λ (z : ℕ). attribute t z (codes "name")) e ∙ named') in
    ap (λ (z : List ℕ). z ++ 46 ∷ name) beginning ∙ ap (λ (z : List ℕ). above' ++ 46 ∷ z) back

one_place_of : (nodes : List ℕ) → IsRising nodes → (a b h : Option ℕ) → IsPlaceOf nodes a h → IsPlaceOf nodes b h → a ≡ b
one_place_of nodes rising None None None p q = refl
one_place_of nodes rising (Some i) (Some j) (Some k) p q = ap (λ (z : ℕ). Some z) (one_place nodes i j k rising p q)
one_place_of nodes rising None (Some j) None p q = absurd q
one_place_of nodes rising (Some i) b None p q = absurd p
one_place_of nodes rising None b (Some k) p q = absurd p
one_place_of nodes rising (Some i) None (Some k) p q = absurd q

-- ---- where parameters are given

path_absent : (t : List Node) (k : ℕ) (path : List ℕ) → HasPath t k path → Lacks t k (codes "source") → ⊥
path_absent t k path has none = none-some has.0 (sym none ∙ has.1)

one_path : (t : List Node) (k : ℕ) (a b : List ℕ) → HasPath t k a → HasPath t k b → a ≡ b
one_path t k a b p q = p.2 ∙ ap plain_path (same_Some p.0 q.0 (sym p.1 ∙ q.1)) ∙ sym q.2

one_origin : (t : List Node) (k : ℕ) (inner : Option ℕ) (a b : Origin) → IsOrigin t k inner a → IsOrigin t k inner b → a ≡ b
one_origin t k inner (File base path) (File base' path') p q =
    ap (λ (z : SourceBase). File z path) (p.1 ∙ sym q.1) ∙ ap (λ (z : List ℕ). File base' z) (one_path t k path path' p.0 q.0)
one_origin t k inner (File base path) (Inline node) p q = absurd (path_absent t k path p.0 q.0)
one_origin t k inner (Inline node) (File base path) p q = absurd (path_absent t k path q.0 p.0)
one_origin t k inner (Inline node) (Inline node') p q = ap (λ (z : ℕ). Inline z) (same_Some node node' (sym p.1 ∙ q.1))

-- a binding has one mapping
pub mapping_keyed : (t : List Node) (m k : ℕ) → IsMappingOf t m k → mapping_key t m ≡ Some (k, codes "ParameterMapping")
mapping_keyed t m k is =
    ap (λ (b : Bool). key_if b (both (parent t m) (Some (codes "ParameterMapping")))) is.0 ∙ ap (λ (o : Option ℕ). both o (Some (codes "ParameterMapping"))) is.1

mapping_first : (t : List Node) (m k : ℕ) → IsMappingOf t m k → IsFirstWith (mapping_key t) (k, codes "ParameterMapping") m
mapping_first t m k is =
    let key : mapping_key t m ≡ Some (k, codes "ParameterMapping") = mapping_keyed t m k is in
    (key, λ j lower e. is.3 ((k, codes "ParameterMapping"), key, (j, lower, e)))

pub one_mapping_of : (t : List Node) (m n k : ℕ) → IsMappingOf t m k → IsMappingOf t n k → m ≡ n
one_mapping_of t m n k p q = one_first (mapping_key t) (k, codes "ParameterMapping") m n (mapping_first t m k p) (mapping_first t n k q)

one_mapping : (t : List Node) (k : ℕ) (a b : Option Origin) → IsMappingOrigin t k a → IsMappingOrigin t k b → a ≡ b
one_mapping t k None None p q = refl
one_mapping t k None (Some b) p q = absurd (p q.0 q.1)
one_mapping t k (Some a) None p q = absurd (q p.0 p.1)
one_mapping t k (Some a) (Some b) p q =
    let same : q.0 ≡ p.0 = one_mapping_of t q.0 p.0 k q.1 p.1 in
    ap (λ (z : Origin). Some z) (one_origin t p.0 (Some p.0) a b p.2 (subst (λ (m : ℕ). IsOrigin t m (Some m) b) same q.2))

module _ (t : List Node) (nodes : PartNodes) (lists : ListsParts t nodes) where
  apart : (i j k : ℕ) → slice_get nodes.systems i ≡ Some k → slice_get nodes.components j ≡ Some k → ⊥
  apart i j k p q =
      system_no_component t k ((lists.systems.each k).0 (contains_at nodes.systems i k p)) ((lists.components.each k).0 (contains_at nodes.components j k q))

  one_owner : (a b : Owner) (k : ℕ) → owner_node nodes a ≡ Some k → owner_node nodes b ≡ Some k → a ≡ b
  one_owner (System i) (System j) k p q = ap (λ (z : ℕ). System z) (one_place nodes.systems i j k lists.systems.rising p q)
  one_owner (System i) (Component j) k p q = absurd (apart i j k p q)
  one_owner (Component i) (System j) k p q = absurd (apart j i k q p)
  one_owner (Component i) (Component j) k p q = ap (λ (z : ℕ). Component z) (one_place nodes.components i j k lists.components.rising p q)

  one_owner_of : (a b : Owner) (h : Option ℕ) (k j : ℕ) → h ≡ Some k → h ≡ Some j → owner_node nodes a ≡ Some k → owner_node nodes b ≡ Some j → a ≡ b
  one_owner_of a b h k j e f p q = one_owner a b k p (q ∙ sym f ∙ e)

  -- ---- parts

  one_system : (k : ℕ) (x y : SystemPart) → IsSystemPart t nodes k x → IsSystemPart t nodes k y → x ≡ y
  one_system k x y p q =
      let node : x.node ≡ y.node = p.node ∙ sym q.node in
      let outer : x.parent ≡ y.parent = one_place_of nodes.systems lists.systems.rising x.parent y.parent (holder t k (codes "Elements")) p.outer q.outer in
      let name : x.name ≡ y.name = same_Some x.name y.name (sym p.name ∙ q.name) in
      λ i. record { node = node i; parent = outer i; name = name i }

  one_component : IsSoundStructure t → (k : ℕ) (x y : ComponentPart) → IsComponentPart t nodes k x → IsComponentPart t nodes k y → x ≡ y
  one_component sound k x y p q =
      let node : x.node ≡ y.node = p.node ∙ sym q.node in
      let system : x.system ≡ y.system =
      same_Some x.system y.system (one_place_of nodes.systems lists.systems.rising (Some x.system) (Some y.system) (holder t k (codes "Elements")) p.system q.system) in
      let name : x.name ≡ y.name = one_name t sound k k x.name y.name p.name q.name refl in
      let source : x.source ≡ y.source = p.source.2 ∙ ap plain_path (same_Some p.source.0 q.source.0 (sym p.source.1 ∙ q.source.1)) ∙ sym q.source.2 in
      λ i. record { node = node i; system = system i; name = name i; source = source i }

  one_connector : (k : ℕ) (x y : Connector) → IsConnectorPart t nodes k x → IsConnectorPart t nodes k y → x ≡ y
  one_connector k x y p q =
      let node : x.node ≡ y.node = p.node ∙ sym q.node in
      let owner : x.owner ≡ y.owner = one_owner_of x.owner y.owner (holder t k (codes "Connectors")) p.part q.part p.of q.of p.owner q.owner in
      let name : x.name ≡ y.name = same_Some x.name y.name (sym p.name ∙ q.name) in
      let kind : x.kind ≡ y.kind = same_Some x.kind y.kind (sym p.kind ∙ q.kind) in
      let child : x.child ≡ y.child = p.child ∙ sym q.child in
      λ i. record { node = node i; owner = owner i; name = name i; kind = kind i; child = child i }

  one_binding : (k : ℕ) (x y : Binding) → IsBindingPart t nodes k x → IsBindingPart t nodes k y → x ≡ y
  one_binding k x y p q =
      let node : x.node ≡ y.node = p.node ∙ sym q.node in
      let owner : x.owner ≡ y.owner = one_owner_of x.owner y.owner (holder t k (codes "ParameterBindings")) p.part q.part p.of q.of p.owner q.owner in
      let prefix : x.prefix ≡ y.prefix = p.prefix ∙ sym q.prefix in
      let values : x.values ≡ y.values = one_origin t k (first_child t k (codes "ParameterValues")) x.values y.values p.values q.values in
      let mapping : x.mapping ≡ y.mapping = one_mapping t k x.mapping y.mapping p.mapping q.mapping in
      λ i. record { node = node i; owner = owner i; prefix = prefix i; values = values i; mapping = mapping i }

-- ---- connections

pub one_part : (t : List Node) (s : ℕ) (name : Option (List ℕ)) (j k : ℕ) → IsPartNamed t s name j → IsPartNamed t s name k → j ≡ k
one_part t s None j k p q = p ∙ sym q
one_part t s (Some name) j k p q = one_first (element_key t) (s, name) j k p q

pub one_end : (t : List Node) (connection : ℕ) (element connector : List ℕ) (j k : ℕ) → IsEnd t connection element connector j → IsEnd t connection element connector k → j ≡ k
one_end t connection element connector j k p q =
    let system : q.system ≡ p.system = same_Some q.system p.system (sym q.of ∙ p.of) in
    let part : q.part ≡ p.part =
    one_part t p.system (attribute t connection element) q.part p.part (subst (λ (z : ℕ). IsPartNamed t z (attribute t connection element) q.part) system q.is_part) p.is_part in
    let name : q.name ≡ p.name = same_Some q.name p.name (sym q.named ∙ p.named) in
    one_first (connector_key t) (p.part, p.name) j k p.is (pair_first q.part p.part q.name p.name part name q.is)
  where
    pair_first : (a b : ℕ) (x y : List ℕ) → a ≡ b → x ≡ y → IsFirstWith (connector_key t) (a, x) k → IsFirstWith (connector_key t) (b, y) k
    pair_first a b x y e f h = subst (λ (z : List ℕ). IsFirstWith (connector_key t) (b, z) k) f (subst (λ (z : ℕ). IsFirstWith (connector_key t) (z, x) k) e h)

one_change_by : (t : List Node) (o : Option ℕ) (x y : Option Change) → IsChangeBy t o x → IsChangeBy t o y → x ≡ y
one_change_by t None None None p q = refl
one_change_by t None (Some x) y p q = absurd p
one_change_by t None None (Some y) p q = absurd q
one_change_by t (Some k) None y p q = absurd p
one_change_by t (Some k) (Some x) None p q = absurd q
one_change_by t (Some k) (Some x) (Some y) p q = ap (λ (z : Change). Some z) (one_change t k x y p q)

one_connection : (t : List Node) (nodes : PartNodes) → ListsParts t nodes → (k : ℕ) (x y : Connection) → IsConnectionPart t nodes k x → IsConnectionPart t nodes k y → x ≡ y
one_connection t nodes lists k x y p q =
    let node : x.node ≡ y.node = p.node ∙ sym q.node in
    let from : q.from ≡ p.from = one_end t k (codes "startElement") (codes "startConnector") q.from p.from q.is_from p.is_from in
    let to : q.to ≡ p.to = one_end t k (codes "endElement") (codes "endConnector") q.to p.to q.is_to p.is_to in
    let start : x.start ≡ y.start = one_place nodes.connectors x.start y.start p.from lists.connectors.rising p.start (q.start ∙ ap (λ (z : ℕ). Some z) from) in
    let end : x.end ≡ y.end = one_place nodes.connectors x.end y.end p.to lists.connectors.rising p.end (q.end ∙ ap (λ (z : ℕ). Some z) to) in
    let changes : x.change ≡ y.change = one_change_by t (first_transformation t k) x.change y.change p.change q.change in
    λ i. record { node = node i; start = start i; end = end i; change = changes i }

-- ---- the whole

pub zip_same : {A B : Type 0} (R : A → B → Type 0) → ((k : A) (x y : B) → R k x → R k y → x ≡ y) → (ks : List A) (xs ys : List B) → AllZip R ks xs → AllZip R ks ys → xs ≡ ys
zip_same R one [] [] [] p q = refl
zip_same R one [] [] (y ∷ ys) p q = absurd q
zip_same R one [] (x ∷ xs) ys p q = absurd p
zip_same R one (k ∷ ks) [] ys p q = absurd p
zip_same R one (k ∷ ks) (x ∷ xs) [] p q = absurd q
zip_same {A} {B} R one (k ∷ ks) (x ∷ xs) (y ∷ ys) p q =
    ap (λ (z : B). z ∷ xs) (one k x y p.0 q.0) ∙ ap (λ (zs : List B). y ∷ zs) (zip_same R one ks xs ys p.1 q.1)

one_nodes : (t : List Node) (a b : PartNodes) → ListsParts t a → ListsParts t b → a ≡ b
one_nodes t a b p q =
    let systems : a.systems ≡ b.systems = one_listing (IsSystem t) a.systems b.systems p.systems q.systems in
    let components : a.components ≡ b.components = one_listing (IsComponent t) a.components b.components p.components q.components in
    let connectors : a.connectors ≡ b.connectors = one_listing (IsConnector t) a.connectors b.connectors p.connectors q.connectors in
    let connections : a.connections ≡ b.connections = one_listing (IsConnection t) a.connections b.connections p.connections q.connections in
    let bindings : a.bindings ≡ b.bindings = one_listing (IsBinding t) a.bindings b.bindings p.bindings q.bindings in
    λ i. record { systems = systems i; components = components i; connectors = connectors i; connections = connections i; bindings = bindings i }

pub one_tree : (t : List Node) (a b : SystemTree) → IsSoundStructure t → Describes t a → Describes t b → a ≡ b
one_tree t a b sound p q =
    let n : PartNodes = p.nodes in
    let same : q.nodes ≡ n = one_nodes t q.nodes n q.lists p.lists in
    let systems : a.systems ≡ b.systems =
    zip_same (IsSystemPart t n) (one_system t n p.lists) n.systems a.systems b.systems p.systems
    (subst (λ (m : PartNodes). AllZip (IsSystemPart t m) m.systems b.systems) same q.systems) in
    let components : a.components ≡ b.components =
    zip_same (IsComponentPart t n) (one_component t n p.lists sound) n.components a.components b.components p.components
    (subst (λ (m : PartNodes). AllZip (IsComponentPart t m) m.components b.components) same q.components) in
    let connectors : a.connectors ≡ b.connectors =
    zip_same (IsConnectorPart t n) (one_connector t n p.lists) n.connectors a.connectors b.connectors p.connectors
    (subst (λ (m : PartNodes). AllZip (IsConnectorPart t m) m.connectors b.connectors) same q.connectors) in
    let connections : a.connections ≡ b.connections =
    zip_same (IsConnectionPart t n) (one_connection t n p.lists) n.connections a.connections b.connections p.connections
    (subst (λ (m : PartNodes). AllZip (IsConnectionPart t m) m.connections b.connections) same q.connections) in
    let bindings : a.bindings ≡ b.bindings =
    zip_same (IsBindingPart t n) (one_binding t n p.lists) n.bindings a.bindings b.bindings p.bindings
    (subst (λ (m : PartNodes). AllZip (IsBindingPart t m) m.bindings b.bindings) same q.bindings) in
    λ i. record { systems = systems i; components = components i; connectors = connectors i; connections = connections i; bindings = bindings i }
