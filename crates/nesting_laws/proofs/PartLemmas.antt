-- What stands in a document stands among its elements.
use Rattle.std.proofs.Common.{◌≡◌, ℕ, ◌<◌, List, [], ◌∷◌, length, Option, Some, None, IfSome, All, sym, subst, codes}
use Rattle.std.specs.List.{AllZip}
use Rattle.std.proofs.lemmas.List.Elements.{All-cons, All-nil}
use Rattle.std.proofs.lemmas.Option.{same_Some}
use Rattle.doc_grammar.specs.Nodes.{Node}
use Rattle.ssd_tree.specs.declared.tree.Binding.{Binding}
use Rattle.ssd_tree.specs.declared.tree.Connector.{Connector}
use Rattle.ssd_tree.specs.declared.tree.Origin.{Origin}
use Rattle.ssd_tree.specs.declared.tree.Origin.TheVariants.{File, Inline}
use Rattle.ssd_tree.specs.declared.tree.SystemTree.{SystemTree}
use Rattle.ssd_tree.specs.Elements.{first_child}
use Rattle.ssd_tree.specs.Parts.{Describes, IsBindingPart, IsConnectorPart, IsMappingOrigin, IsOrigin}
use Rattle.ssd_tree.proofs.CallerLemmas.{first_child_within, holder_within, parent_within}
use Rattle.nesting_laws.specs.Proper.{AreBelow, IsOriginBelow}

zip_all : {A B : Type 0} (P : B → Type 0) (R : A → B → Type 0) → ((k : A) (x : B) → R k x → P x) → (ks : List A) (xs : List B) → AllZip R ks xs → All P xs
zip_all P R one [] [] zip = All-nil P
zip_all P R one [] (x ∷ xs) zip = absurd zip
zip_all P R one (k ∷ ks) [] zip = absurd zip
zip_all P R one (k ∷ ks) (x ∷ xs) zip = All-cons P x xs (one k x zip.0) (zip_all P R one ks xs zip.1)

module _ (t : List Node) where
  origin_below : (k : ℕ) (inner : Option ℕ) (origin : Origin) → ((m : ℕ) → inner ≡ Some m → m < length t) → IsOrigin t k inner origin → IsOriginBelow (length t) origin
  origin_below k inner (File base path) inside is = tt
  origin_below k inner (Inline node) inside is = inside node is.1

  mapping_below : (k : ℕ) (o : Option Origin) → IsMappingOrigin t k o → IfSome o (IsOriginBelow (length t))
  mapping_below k None is = tt
  mapping_below k (Some origin) is = origin_below is.0 (Some is.0) origin (λ m e. subst (λ (z : ℕ). z < length t) (same_Some is.0 m e) (parent_within t is.0 k is.1.1)) is.2

  pub parts_below : (tree : SystemTree) → Describes t tree → AreBelow (length t) tree
  parts_below tree d = record {
    connectors = zip_all (λ (x : Connector). x.node < length t) (IsConnectorPart t d.nodes)
        (λ k x part. subst (λ (z : ℕ). z < length t) (sym part.node) (holder_within t k part.part (codes "Connectors") part.of)) d.nodes.connectors tree.connectors d.connectors;
    values = zip_all (λ (b : Binding). IsOriginBelow (length t) b.values) (IsBindingPart t d.nodes)
        (λ k b part. origin_below k (first_child t k (codes "ParameterValues")) b.values (λ m e. first_child_within t k (codes "ParameterValues") m e) part.values) d.nodes.bindings tree.bindings d.bindings;
    mappings = zip_all (λ (b : Binding). IfSome b.mapping (IsOriginBelow (length t))) (IsBindingPart t d.nodes)
        (λ k b part. mapping_below k b.mapping part.mapping) d.nodes.bindings tree.bindings d.bindings;
  }
