-- The Components of a document that are systems of their own, one after the other.
use Rattle.std.proofs.Common.{◌≡◌, ◌∙◌, ℕ, suc, ◌+◌, ◌<◌, ◌≤◌, List, [], ◌∷◌, ◌++◌, length, take, get_or, slice_get, Option, Some, None, is_some, sym, ap, subst, arith, if◌then◌else◌}
use Rattle.std.specs.List.{AllZip}
use Rattle.std.proofs.lemmas.List.{append-nil, map_push, take_all, take_more}
use Rattle.std.proofs.lemmas.List.Elements.{filter-append}
use Rattle.std.proofs.lemmas.Option.{same_Some, slice_get-get_or}
use Rattle.std.proofs.lemmas.Slice.Zip.{all_zipped_more}
use Rattle.doc_grammar.specs.Nodes.{Node}
use Rattle.ssd_tree.specs.declared.tree.NestedComponent.{NestedComponent}
use Rattle.ssd_tree.specs.declared.tree.NestedKind.{NestedKind}
use Rattle.ssd_tree.specs.declared.tree.Setting.{Setting}
use Rattle.ssd_tree.specs.Lists.{AreBetween, places_of}
use Rattle.ssd_tree.specs.Elements.{IsComponent}
use Rattle.ssd_tree.specs.Listings.{IsRising}
use Rattle.ssd_tree.specs.Nested.{DescribesNested, IsNestedPart, nested_nodes}
use Rattle.ssd_tree.specs.Rules.{kind_in}
use Rattle.ssd_tree.proofs.ListingLemmas.{one_listing, one_place}
use Rattle.ssd_tree.proofs.OneLemmas.{zip_same}

-- ---- places

between_wide : (low high more : ℕ) (ks : List ℕ) → high ≤ more → AreBetween low high ks → AreBetween low more ks
between_wide low high more [] le b = tt
between_wide low high more (k ∷ ks) le b = let l = b.1.0 in (b.0, (omega (arith, l, le), between_wide (suc k) high more ks le b.1.1))

between_push : (low high : ℕ) (ks : List ℕ) → low ≤ high → AreBetween low high ks → AreBetween low (high + 1) (ks ++ high ∷ [])
between_push low high [] le b = (le, (omega arith, tt))
between_push low high (k ∷ ks) le b = let l = b.1.0 in (b.0, (omega (arith, l), between_push (suc k) high ks (omega (arith, l)) b.1.1))

-- the places of one more, which is the last
pub placed_more : (component : ℕ) (old new : List NestedComponent) (x : NestedComponent) → x.component ≡ component → new ≡ old ++ x ∷ [] → AreBetween 0 component (places_of old) → AreBetween 0 (component + 1) (places_of new)
placed_more component old new x at grown b =
    let names : places_of new ≡ places_of old ++ component ∷ [] =
    ap (λ (xs : List NestedComponent). places_of xs) grown ∙ map_push (λ (n : NestedComponent). n.component) old x ∙ ap (λ (k : ℕ). places_of old ++ k ∷ []) at in
    subst (λ (ks : List ℕ). AreBetween 0 (component + 1) ks) (sym names) (between_push 0 component (places_of old) (omega arith) b)

pub placed_same : (component : ℕ) (old new : List NestedComponent) → new ≡ old → AreBetween 0 component (places_of old) → AreBetween 0 (component + 1) (places_of new)
placed_same component old new same b =
    subst (λ (xs : List NestedComponent). AreBetween 0 (component + 1) (places_of xs)) (sym same) (between_wide 0 component (component + 1) (places_of old) (omega arith) b)

-- ---- which are nested

a_nested : (s : Setting) (t : List Node) (node : ℕ) (kind : NestedKind) → kind_in s t node ≡ Some kind → nested_nodes s t (node ∷ []) ≡ node ∷ []
a_nested s t node kind is = ap (λ (o : Option NestedKind). if is_some o then node ∷ [] else []) is

no_nested : (s : Setting) (t : List Node) (node : ℕ) → kind_in s t node ≡ None → nested_nodes s t (node ∷ []) ≡ []
no_nested s t node is = ap (λ (o : Option NestedKind). if is_some o then node ∷ [] else []) is

pub each_more : (s : Setting) (t : List Node) (R : ℕ → NestedComponent → Type 0) (node : ℕ) (kind : NestedKind) (old new : List NestedComponent) (x : NestedComponent) → kind_in s t node ≡ Some kind → R node x → new ≡ old ++ x ∷ []
    → (nodes : List ℕ) → AllZip R nodes old → AllZip R (nodes ++ nested_nodes s t (node ∷ [])) new
each_more s t R node kind old new x is one grown nodes all =
    subst (λ (ns : List ℕ). AllZip R (nodes ++ ns) new) (sym (a_nested s t node kind is))
    (subst (λ (xs : List NestedComponent). AllZip R (nodes ++ node ∷ []) xs) (sym grown) (all_zipped_more R nodes old node x all one))

pub each_same : (s : Setting) (t : List Node) (R : ℕ → NestedComponent → Type 0) (node : ℕ) (old new : List NestedComponent) → kind_in s t node ≡ None → new ≡ old
    → (nodes : List ℕ) → AllZip R nodes old → AllZip R (nodes ++ nested_nodes s t (node ∷ [])) new
each_same s t R node old new is same nodes all =
    subst (λ (ns : List ℕ). AllZip R (nodes ++ ns) new) (sym (no_nested s t node is))
    (subst (λ (ns : List ℕ). AllZip R ns new) (sym (append-nil nodes))
    (subst (λ (xs : List NestedComponent). AllZip R nodes xs) (sym same) all))

-- those of one Component more
pub nested_more : (s : Setting) (t : List Node) (xs : List ℕ) (i : ℕ) → i < length xs → nested_nodes s t (take (i + 1) xs) ≡ nested_nodes s t (take i xs) ++ nested_nodes s t (get_or xs i 0 ∷ [])
nested_more s t xs i within =
    ap (λ (ys : List ℕ). nested_nodes s t ys) (take_more xs i 0 within) ∙ filter-append (λ (k : ℕ). is_some (kind_in s t k)) (take i xs) (get_or xs i 0 ∷ [])

pub nested_step : (s : Setting) (t : List Node) (R : ℕ → NestedComponent → Type 0) (xs ys : List ℕ) (i : ℕ) (new : List NestedComponent) → ys ≡ xs → i < length ys
    → AllZip R (nested_nodes s t (take i xs) ++ nested_nodes s t (get_or ys i 0 ∷ [])) new → AllZip R (nested_nodes s t (take (i + 1) xs)) new
nested_step s t R xs ys i new same within all =
    let inside : i < length xs = subst (λ (zs : List ℕ). i < length zs) same within in
    let here : AllZip R (nested_nodes s t (take i xs) ++ nested_nodes s t (get_or xs i 0 ∷ [])) new =
    subst (λ (zs : List ℕ). AllZip R (nested_nodes s t (take i xs) ++ nested_nodes s t (get_or zs i 0 ∷ [])) new) same all in
    subst (λ (ns : List ℕ). AllZip R ns new) (sym (nested_more s t xs i inside)) here

pub nested_end : (s : Setting) (t : List Node) (R : ℕ → NestedComponent → Type 0) (xs ys : List ℕ) (i : ℕ) (all : List NestedComponent) → ys ≡ xs → length ys ≤ i → AllZip R (nested_nodes s t (take i xs)) all → AllZip R (nested_nodes s t xs) all
nested_end s t R xs ys i all same past zip =
    let over : length xs ≤ i = subst (λ (zs : List ℕ). length zs ≤ i) same past in
    subst (λ (zs : List ℕ). AllZip R (nested_nodes s t zs) all) (take_all i xs over) zip

pub placed_end : (count high : ℕ) (xs : List NestedComponent) → count ≤ high → AreBetween 0 count (places_of xs) → AreBetween 0 high (places_of xs)
placed_end count high xs le b = between_wide 0 count high (places_of xs) le b

-- a node of the list, by its place
pub node_at : (xs ys : List ℕ) (i : ℕ) → ys ≡ xs → i < length ys → slice_get xs i ≡ Some (get_or ys i 0)
node_at xs ys i same within = subst (λ (zs : List ℕ). slice_get zs i ≡ Some (get_or ys i 0)) same (slice_get-get_or ys i 0 within)

-- ---- one list of them

one_part : (s : Setting) (t : List Node) (components : List ℕ) → IsRising components → (k : ℕ) (x y : NestedComponent) → IsNestedPart s t components k x → IsNestedPart s t components k y → x ≡ y
one_part s t components rising k x y p q =
    let component : x.component ≡ y.component = one_place components x.component y.component k rising p.place q.place in
    let node : x.node ≡ y.node = p.node ∙ sym q.node in
    let own_name : x.own_name ≡ y.own_name = same_Some x.own_name y.own_name (sym p.own_name ∙ q.own_name) in
    let kind : x.kind ≡ y.kind = same_Some x.kind y.kind (sym p.kind ∙ q.kind) in
    λ i. record { component = component i; node = node i; own_name = own_name i; kind = kind i }

pub one_nested : (s : Setting) (t : List Node) (a b : List NestedComponent) → DescribesNested s t a → DescribesNested s t b → a ≡ b
one_nested s t a b p q =
    let same : q.components ≡ p.components = one_listing (IsComponent t) q.components p.components q.list p.list in
    zip_same (IsNestedPart s t p.components) (one_part s t p.components p.list.rising) (nested_nodes s t p.components) a b p.each
    (subst (λ (cs : List ℕ). AllZip (IsNestedPart s t cs) (nested_nodes s t cs) b) same q.each)
