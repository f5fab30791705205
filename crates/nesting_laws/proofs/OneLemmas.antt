-- What documents come to is one thing.
use Rattle.std.proofs.Common.{◌≡◌, ◌≢◌, ◌∙◌, inl, inr, ℕ, suc, ◌<◌, true, false, List, [], ◌∷◌, ◌++◌, length, map, take, slice_index, Some, refl, sym, ap, subst, slice_get}
use Rattle.std.proofs.lemmas.Bool.{both_ways, cases_order}
use Rattle.std.proofs.lemmas.Option.{same_Some}
use Rattle.ssd_tree.specs.declared.tree.ComponentPart.{ComponentPart}
use Rattle.ssd_tree.specs.declared.tree.NestedKind.{NestedKind}
use Rattle.ssd_tree.specs.declared.tree.NestedKind.TheVariants as kind
use Rattle.ssd_tree.specs.declared.tree.Setting.{Setting}
use Rattle.nested_documents.specs.declared.components.Waiting.{Waiting}
use Rattle.nested_documents.specs.declared.nest.Next.{Next}
use Rattle.nested_documents.specs.declared.nest.Next.TheVariants as next
use Rattle.nested_documents.specs.declared.numbers.Place.{Place}
use Rattle.nested_documents.specs.declared.seam.Frame.{Frame}
use Rattle.nested_documents.specs.Folders.{Below, IsFolderIn, IsFolderOf, Top, document_path}
use Rattle.nested_documents.specs.Inlining.{inlined}
use Rattle.nested_documents.specs.Nest.{HoldsOnly, IsAdded, IsFrameFor, IsNext, WaitsFirst, earlier_place, is_refused, lacking_in, moved_waiting, seam_in, setting_in, waiting_from}
use Rattle.nested_documents.specs.Numbers.{with_elements}
use Rattle.nested_documents.specs.States.{Document, Gathered}

-- ---- folders

later : (path : List ℕ) (j k : ℕ) → j < k → k < length path → slice_index path k ≡ 47 → ((i : ℕ) → j < i → i < length path → slice_index path i ≢ 47) → ⊥
later path j k less within at none = none k less within at

one_folder : (path a b : List ℕ) → IsFolderIn path a → IsFolderIn path b → a ≡ b
one_folder path a b (Top _ none e) (Top _ none' e') = e ∙ sym e'
one_folder path a b (Top _ none e) (Below _ k within at last e') = absurd (none k within at)
one_folder path a b (Below _ k within at last e) (Top _ none e') = absurd (none k within at)
one_folder path a b (Below _ k within at last e) (Below _ k' within' at' last' e') = elim (cases_order k k') [
  | inl same ↦ e ∙ (ap (λ (n : ℕ). take n path) same ∙ sym e')
  | inr (inl less) ↦ absurd (later path k k' less within' at' last)
  | inr (inr more) ↦ absurd (later path k' k more within at last')
]

folder_of_one : (kind : NestedKind) (source a b : List ℕ) → IsFolderOf kind source a → IsFolderOf kind source b → a ≡ b
folder_of_one kind.Package source a b p q = p ∙ sym q
folder_of_one kind.Definition source a b p q = one_folder source a b p q

one_frame : (c : ComponentPart) (w : Waiting) (f g : Frame) → IsFrameFor c w f → IsFrameFor c w g → f ≡ g
one_frame c w f g p q =
    let name : f.name ≡ g.name = p.name ∙ sym q.name in
    let own_name : f.own_name ≡ g.own_name = p.own_name ∙ sym q.own_name in
    let folder : f.folder ≡ g.folder = folder_of_one w.kind c.source f.folder g.folder p.folder q.folder in
    λ i. record { name = name i; own_name = own_name i; folder = folder i }

-- ---- the first that waits

same_head : {A : Type 0} (x y : A) (xs ys : List A) → x ∷ xs ≡ y ∷ ys → x ≡ y
same_head x y xs ys e = cc

same_tail : {A : Type 0} (x y : A) (xs ys : List A) → x ∷ xs ≡ y ∷ ys → xs ≡ ys
same_tail x y xs ys e = cc

none_first : {A : Type 0} (x : A) (xs ys : List A) → ys ≡ [] → ys ≡ x ∷ xs → ⊥
none_first x xs ys e f = let h : [] ≡ x ∷ xs = sym e ∙ f in cc

first_one : (g : Gathered) (w v : Waiting) (rest more : List Waiting) → g.waiting ≡ w ∷ rest → g.waiting ≡ v ∷ more → w ≡ v
first_one g w v rest more e f = same_head w v rest more (sym e ∙ f)

component_one : (g : Gathered) (w v : Waiting) (rest more : List Waiting) (c d : ComponentPart) → WaitsFirst g w rest c → WaitsFirst g v more d → c ≡ d
component_one g w v rest more c d p q =
    let same : w ≡ v = first_one g w v rest more p.waits q.waits in
    same_Some c d (sym (subst (λ (x : Waiting). slice_get g.tree.components x.component ≡ Some c) same p.at) ∙ q.at)

-- ---- what comes next is one thing

one_document : (g : Gathered) (path other : List ℕ) (s t : Setting) → IsNext g (next.Document path s) → IsNext g (next.Document other t) → next.Document path s ≡ next.Document other t
one_document g path other s t p q =
    let same : p.0 ≡ q.0 = first_one g p.0 q.0 p.1 q.1 p.3.waits q.3.waits in
    let part : p.2 ≡ q.2 = component_one g p.0 q.0 p.1 q.1 p.2 q.2 p.3 q.3 in
    let mid : document_path p.0.kind p.2.source ≡ document_path q.0.kind q.2.source = λ i. document_path (same i).kind (part i).source in
    let paths : path ≡ other = p.5 ∙ (mid ∙ sym q.5) in
    let settings : s ≡ t = p.6 ∙ (ap (setting_in g) part ∙ sym q.6) in
    λ i. next.Document (paths i) (settings i)

one_refused : (g : Gathered) (w v : Waiting) (rest more : List Waiting) → g.waiting ≡ w ∷ rest → g.waiting ≡ v ∷ more → is_refused w g.documents ≡ false → is_refused v g.documents ≡ true → ⊥
one_refused g w v rest more e f reads refuses =
    let same : w ≡ v = first_one g w v rest more e f in
    both_ways (is_refused v g.documents) (subst (λ (x : Waiting). is_refused x g.documents ≡ false) same reads) refuses

pub one_next : (g : Gathered) (a b : Next) → IsNext g a → IsNext g b → a ≡ b
one_next g next.Nothing next.Nothing p q = refl
one_next g next.Nothing (next.Document path s) p q = absurd (none_first q.0 q.1 g.waiting p q.3.waits)
one_next g next.Nothing (next.TooDeep place) p q = absurd (none_first q.0 q.1 g.waiting p q.2)
one_next g (next.Document path s) next.Nothing p q = absurd (none_first p.0 p.1 g.waiting q p.3.waits)
one_next g (next.Document path s) (next.Document other t) p q = one_document g path other s t p q
one_next g (next.Document path s) (next.TooDeep place) p q = absurd (one_refused g p.0 q.0 p.1 q.1 p.3.waits q.2 p.4 q.3)
one_next g (next.TooDeep place) next.Nothing p q = absurd (none_first p.0 p.1 g.waiting q p.2)
one_next g (next.TooDeep place) (next.Document path s) p q = absurd (one_refused g q.0 p.0 q.1 p.1 q.3.waits p.2 q.4 p.3)
one_next g (next.TooDeep place) (next.TooDeep other) p q =
    let same : p.0 ≡ q.0 = first_one g p.0 q.0 p.1 q.1 p.2 q.2 in
    let at : place ≡ other = p.4 ∙ (ap (λ (w : Waiting). w.place) same ∙ sym q.4) in
    ap (λ (x : Place). next.TooDeep x) at

-- ---- and so is what is put together

pub one_top : (d : Document) (a b : Gathered) → HoldsOnly d a → HoldsOnly d b → a ≡ b
one_top d a b p q =
    let tree : a.tree ≡ b.tree = p.tree ∙ sym q.tree in
    let waiting : a.waiting ≡ b.waiting = p.waiting ∙ sym q.waiting in
    let elements : a.elements ≡ b.elements = p.elements ∙ sym q.elements in
    let documents : a.documents ≡ b.documents = p.documents ∙ sym q.documents in
    let lacking : a.lacking ≡ b.lacking = p.lacking ∙ sym q.lacking in
    λ i. record { tree = tree i; waiting = waiting i; elements = elements i; documents = documents i; lacking = lacking i }

pub one_added : (old : Gathered) (d : Document) (a b : Gathered) → IsAdded old d a → IsAdded old d b → a ≡ b
one_added old d a b p q =
    let w : p.next ≡ q.next = first_one old p.next q.next p.rest q.rest p.first.waits q.first.waits in
    let rest : p.rest ≡ q.rest = same_tail p.next q.next p.rest q.rest (sym p.first.waits ∙ q.first.waits) in
    let c : p.component ≡ q.component = component_one old p.next q.next p.rest q.rest p.component q.component p.first q.first in
    let is : IsFrameFor q.component q.next p.frame =
    subst (λ (x : Waiting). IsFrameFor q.component x p.frame) w (subst (λ (x : ComponentPart). IsFrameFor x p.next p.frame) c p.is_frame) in
    let f : p.frame ≡ q.frame = one_frame q.component q.next p.frame q.frame is q.is_frame in
    let tree_by : inlined old.tree p.next.component p.component p.frame d.tree d.elements ≡ inlined old.tree q.next.component q.component q.frame d.tree d.elements =
    λ i. inlined old.tree (w i).component (c i) (f i) d.tree d.elements in
    let waiting_by : map (waiting_from p.next.component old.documents (suc p.next.level)) d.nested ++ map (moved_waiting (seam_in old p.next p.component d)) p.rest
    ≡ map (waiting_from q.next.component old.documents (suc q.next.level)) d.nested ++ map (moved_waiting (seam_in old q.next q.component d)) q.rest =
    λ i. map (waiting_from (w i).component old.documents (suc (w i).level)) d.nested ++ map (moved_waiting (seam_in old (w i) (c i) d)) (rest i) in
    let elements_by : with_elements p.component.node old.documents d.elements old.elements ≡ with_elements q.component.node old.documents d.elements old.elements =
    λ i. with_elements (c i).node old.documents d.elements old.elements in
    let lacking_by : earlier_place old.lacking (lacking_in old.elements (seam_in old p.next p.component d) old.tree.connectors d.tree.connectors)
    ≡ earlier_place old.lacking (lacking_in old.elements (seam_in old q.next q.component d) old.tree.connectors d.tree.connectors) =
    λ i. earlier_place old.lacking (lacking_in old.elements (seam_in old (w i) (c i) d) old.tree.connectors d.tree.connectors) in
    let tree : a.tree ≡ b.tree = p.tree ∙ (tree_by ∙ sym q.tree) in
    let waiting : a.waiting ≡ b.waiting = p.waiting ∙ (waiting_by ∙ sym q.waiting) in
    let elements : a.elements ≡ b.elements = p.elements ∙ (elements_by ∙ sym q.elements) in
    let documents : a.documents ≡ b.documents = p.documents ∙ sym q.documents in
    let lacking : a.lacking ≡ b.lacking = p.lacking ∙ (lacking_by ∙ sym q.lacking) in
    λ i. record { tree = tree i; waiting = waiting i; elements = elements i; documents = documents i; lacking = lacking i }
