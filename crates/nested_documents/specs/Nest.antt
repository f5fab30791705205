-- The documents of a system, put together as they are read (SSP 1.0: Component; type). The first Component of the whole whose document isn't read yet
-- gets it next: so a document is followed by those that are nested in it, in document order, each by its own.
use Rattle.std.specs.Prelude.{◌≡◌, ℕ, suc, ◌+◌, ◌-◌, ◌==◌, ◌&&◌, ◌||◌, nat_lt, nat_le, not, Bool, true, false, List, [], ◌∷◌, ◌++◌, length, map, find, is_some, Option, Some, None, option_map, option_and_then, slice_get, if◌then◌else◌}
use Rattle.ssd_tree.specs.declared.tree.ComponentPart.{ComponentPart}
use Rattle.ssd_tree.specs.declared.tree.Connector.{Connector}
use Rattle.ssd_tree.specs.declared.tree.NestedComponent.{NestedComponent}
use Rattle.ssd_tree.specs.declared.tree.Setting.{Setting}
use Rattle.nested_documents.specs.declared.nest.Next.{Next}
use Rattle.nested_documents.specs.declared.nest.Next.TheVariants as next
use Rattle.nested_documents.specs.declared.components.Waiting.{Waiting}
use Rattle.nested_documents.specs.declared.numbers.Place.{Place}
use Rattle.nested_documents.specs.declared.seam.Frame.{Frame}
use Rattle.nested_documents.specs.declared.seam.Seam.{Seam}
use Rattle.nested_documents.specs.declared.seam.Side.TheVariants.{Outer}
use Rattle.nested_documents.specs.Folders.{IsFolderOf, document_path}
use Rattle.nested_documents.specs.Inlining.{inlined, inner_place, own_connectors, seam_of}
use Rattle.nested_documents.specs.Moves.{moved_component}
use Rattle.nested_documents.specs.Numbers.{run, with_elements}
use Rattle.nested_documents.specs.States.{Complete, Document, Gathered}

-- ---- what comes next

-- its document would stand at the ninth level below the outermost one, or would be the 257th
abbrev pub is_refused : Waiting → ℕ → Bool
is_refused w documents = nat_lt 8 w.level || nat_le 256 documents

-- the first that waits, and what is known of it
pub record WaitsFirst (n : Gathered) (w : Waiting) (rest : List Waiting)
    (c : ComponentPart) : Type 0 where
  pub waits : n.waiting ≡ w ∷ rest
  pub at : slice_get n.tree.components w.component ≡ Some c

-- how many FMUs the documents name that are read so far
abbrev pub fmus_in : Gathered → ℕ
fmus_in n = length n.tree.components - length n.waiting

-- what counts for the document that goes in place of a Component: the FMUs before it, and its name with a dot
abbrev pub setting_in : Gathered → ComponentPart → Setting
setting_in n c = record { nests = true; fmus = fmus_in n; name_above = length c.name + 1 }

abbrev pub IsNext : Gathered → Next → Type 0
IsNext n next.Nothing = n.waiting ≡ []
IsNext n (next.Document path setting) =
    (w : Waiting) × (rest : List Waiting) × (c : ComponentPart) × WaitsFirst n w rest c ×
    (is_refused w n.documents ≡ false) × (path ≡ document_path w.kind c.source) ×
    (setting ≡ setting_in n c)
IsNext n (next.TooDeep place) =
    (w : Waiting) × (rest : List Waiting) × (n.waiting ≡ w ∷ rest) ×
    (is_refused w n.documents ≡ true) × (place ≡ w.place)

-- ---- a document more

-- the inner document takes its names and its folder from the Component
pub record IsFrameFor (c : ComponentPart) (w : Waiting) (f : Frame) : Type 0 where
  pub name : f.name ≡ c.name
  pub own_name : f.own_name ≡ w.own_name
  pub folder : IsFolderOf w.kind c.source f.folder

-- one place before another: in an earlier document, or before it in the same one
abbrev pub is_before : Place → Place → Bool
is_before p q = nat_lt p.document q.document || (p.document == q.document && nat_lt p.node q.node)

abbrev pub earlier_place : Option Place → Option Place → Option Place
earlier_place None q = q
earlier_place (Some p) None = Some p
earlier_place (Some p) (Some q) = if is_before q p then Some q else Some p

-- the first of a Component's connectors for which the inner document's outermost System has none of its name and kind
abbrev pub first_lacking : List Connector → List Connector → Option ℕ
first_lacking own inner =
    option_map (λ (x : Connector). x.node)
    (find (λ (x : Connector). not (is_some (inner_place inner x))) own)

-- where a Component of the document with a number waits, whose Components stand in the whole after so many, at this level
abbrev pub waiting_from : ℕ → ℕ → ℕ → NestedComponent → Waiting
waiting_from before document level x = record {
  component = x.component + before;
  place = record { document = document; node = x.node };
  own_name = x.own_name;
  kind = x.kind;
  level = level;
}

abbrev pub moved_waiting : Seam → Waiting → Waiting
moved_waiting s w = record w { component = moved_component s Outer w.component }

-- what stands before the first that waits, and what goes in its place
abbrev pub seam_in : Gathered → Waiting → ComponentPart → Document → Seam
seam_in n w c d = seam_of n.tree w.component c d.tree d.elements

-- where the first lacking connector stands
abbrev pub lacking_in : List Place → Seam → List Connector → List Connector → Option Place
lacking_in elements s outer inner =
    option_and_then (slice_get elements) (first_lacking (own_connectors s outer) inner)

-- the outermost document alone
pub record HoldsOnly (d : Document) (n : Gathered) : Type 0 where
  pub tree : n.tree ≡ d.tree
  pub waiting : n.waiting ≡ map (waiting_from 0 0 1) d.nested
  pub elements : n.elements ≡ run 0 0 d.elements
  pub documents : n.documents ≡ 1
  pub lacking : n.lacking ≡ None

-- a document may be added: one waits, and it isn't refused
abbrev pub CanAdd : Gathered → Type 0
CanAdd n =
    (w : Waiting) × (rest : List Waiting) × (n.waiting ≡ w ∷ rest) ×
    (is_refused w n.documents ≡ false)

-- the document stands in place of the first that waited, and its own wait before the others
pub record IsAdded (old : Gathered) (d : Document) (new : Gathered) : Type 0 where
  pub next : Waiting
  pub rest : List Waiting
  pub component : ComponentPart
  pub first : WaitsFirst old next rest component
  pub frame : Frame
  pub is_frame : IsFrameFor component next frame
  pub tree : new.tree ≡ inlined old.tree next.component component frame d.tree d.elements
  pub waiting : new.waiting ≡
      map (waiting_from next.component old.documents (suc next.level)) d.nested
      ++ map (moved_waiting (seam_in old next component d)) rest
  pub elements : new.elements ≡
      with_elements component.node old.documents d.elements old.elements
  pub documents : new.documents ≡ suc old.documents
  pub lacking : new.lacking ≡ earlier_place old.lacking
      (lacking_in old.elements (seam_in old next component d)
      old.tree.connectors d.tree.connectors)

-- all documents are read, and no connector is lacking
pub record IsWholeNest (n : Gathered) (w : Complete) : Type 0 where
  pub none : n.lacking ≡ None
  pub tree : w.tree ≡ n.tree
  pub elements : w.elements ≡ n.elements
