-- The shapes of components, one component after another.
use Rattle.std.proofs.Common.{◌≡◌, ◌<◌, ◌≤◌, ◌+◌, ℕ, zero, suc, List, [], ◌∷◌, ◌++◌, length, map, take, drop, get_or, Option, Some, refl, sym, ap, ◌∙◌, subst, inl, inr, arith}
use Rattle.std.specs.Prelude.{All, slice_get}
use Rattle.std.specs.List.{AllZip}
use Rattle.std.proofs.lemmas.List.{length-take-le, map-append, take-append-drop}
use Rattle.std.proofs.lemmas.List.Elements.{All-take}
use Rattle.std.proofs.lemmas.Slice.Zip.{AllZip-long}
use Rattle.sim_base.specs.Asking.{Asks}
use Rattle.sim_base.specs.Folder.{FolderView}
use Rattle.sim_base.specs.declared.read_book.ReadNote.{ReadNote}
use Rattle.value_types.specs.declared.shape.Shape.{Shape}
use Rattle.ssd_tree.specs.declared.tree.ComponentPart.{ComponentPart}
use Rattle.doc_tables.specs.Tables.{IsTableBelow}
use Rattle.flatten.specs.Flat.{source_at}
use Rattle.system_files.specs.declared.loading.LoadError.{LoadError}
use Rattle.system_files.specs.declared.loading.LoadError.TheVariants as end
use Rattle.system_files.specs.Files.{Holds, first_uses}
use Rattle.system_files.specs.Order.{model_path}
use Rattle.system_files.specs.Steps.{AtShape, Copied, EndsNext, EndsShapes, HasShapeAlone, IsNew, NoCopy, NoRead, NoShapeRoom, Read, TakesNext, TakesShapes, paths_of}
use Rattle.system_files.proofs.AskLemmas.{asked_then, none_asked}
use Rattle.system_files.proofs.MoreLemmas.{among_left, among_right, more_shape, more_shapes}
use Rattle.system_files.proofs.ListLemmas.{one_more, parted, zip_push}
use Rattle.system_files.proofs.UseLemmas.{HasPlainSource, IsAmong, new_path, same_path, uses_new, uses_seen}

-- the shape of a component is that of the first with its source
copied : (R : ComponentPart → Shape → Type 0) (directory : List ℕ) (c : ComponentPart) → ((t : ComponentPart) (shape : Shape) → t.source ≡ c.source → R t shape → R c shape) →
    (taken rest : List ComponentPart) (shapes : List Shape) (k : ℕ) (shape : Shape) → AllZip R taken shapes → source_at (taken ++ rest) k ≡ Some c.source → slice_get shapes k ≡ Some shape →
    R c shape × IsAmong (model_path directory c) (map (model_path directory) taken)
copied R directory c so [] rest [] k shape each is at = absurd (cc)
copied R directory c so [] rest (s ∷ shapes) k shape each is at = absurd each
copied R directory c so (t ∷ taken) rest [] k shape each is at = absurd each
copied R directory c so (t ∷ taken) rest (s ∷ shapes) zero shape each is at =
    let source : t.source ≡ c.source = cc in
    let same : s ≡ shape = cc in
    (so t shape source (subst (R t) same each.0), inl (same_path directory t c source))
copied R directory c so (t ∷ taken) rest (s ∷ shapes) (suc k) shape each is at =
    let h = copied R directory c so taken rest shapes k shape each.1 is at in
    (h.0, inr h.1)

shape_at : (per_second : ℕ) (directory : List ℕ) (reads : List ReadNote) (c t : ComponentPart) (shape : Shape) → t.source ≡ c.source → HasShapeAlone per_second directory reads t shape →
    HasShapeAlone per_second directory reads c shape
shape_at per_second directory reads c t shape source h = (h.0, subst (λ (path : List ℕ). Holds reads path h.0) (same_path directory t c source) h.1, h.2)

-- the components before one have these shapes, and their descriptions were read
module _ (per_second : ℕ) (directory : List ℕ) (taken : List ComponentPart) (c : ComponentPart) (rest : List ComponentPart) (shapes : List Shape) (old mid : FolderView)
    (takes : TakesShapes per_second directory taken shapes old mid) (plain : All HasPlainSource taken) (own : HasPlainSource c) where
  paths_seen : IsAmong (model_path directory c) (map (model_path directory) taken) → paths_of directory (taken ++ c ∷ []) ≡ paths_of directory taken
  paths_seen among = ap first_uses (map-append (model_path directory) taken (c ∷ [])) ∙ uses_seen (map (model_path directory) taken) (model_path directory c) among

  paths_new : IsNew (taken ++ c ∷ rest) (length taken) c.source → paths_of directory (taken ++ c ∷ []) ≡ paths_of directory taken ++ model_path directory c ∷ []
  paths_new new =
      ap first_uses (map-append (model_path directory) taken (c ∷ []))
      ∙ uses_new (map (model_path directory) taken) (model_path directory c) (new_path directory taken (c ∷ rest) c plain own new)

  pub next_taken : (shape : Shape) (new : FolderView) → TakesNext per_second directory (taken ++ c ∷ rest) (length taken) c shapes shape mid new →
      TakesShapes per_second directory (taken ++ c ∷ []) (shapes ++ shape ∷ []) old new
  next_taken shape new (Copied first source at new_is) =
      let h = copied (HasShapeAlone per_second directory takes.reads) directory c (shape_at per_second directory takes.reads c) taken (c ∷ rest) shapes first shape takes.each source at in record {
        reads = takes.reads;
        each = zip_push (HasShapeAlone per_second directory takes.reads) taken shapes c shape takes.each h.0;
        asks = subst (λ (v : FolderView). Asks takes.reads (paths_of directory (taken ++ c ∷ [])) old v) (sym new_is)
            (subst (λ (paths : List (List ℕ)). Asks takes.reads paths old mid) (sym (paths_seen h.1)) takes.asks);
      }
  next_taken shape new (Read is_new h) = record {
    reads = takes.reads ++ h.reads;
    each = zip_push (HasShapeAlone per_second directory (takes.reads ++ h.reads)) taken shapes c shape
        (more_shapes takes.reads (takes.reads ++ h.reads) (among_left takes.reads h.reads) per_second directory taken shapes takes.each)
        (more_shape h.reads (takes.reads ++ h.reads) (among_right takes.reads h.reads) per_second directory c shape h.has);
    asks = subst (λ (paths : List (List ℕ)). Asks (takes.reads ++ h.reads) paths old new) (sym (paths_new is_new))
        (asked_then old mid new takes.reads h.reads (paths_of directory taken) (model_path directory c ∷ []) takes.asks h.asks);
  }

  pub next_ends : (ended : LoadError) (new : FolderView) → EndsNext per_second directory (taken ++ c ∷ rest) (length taken) c ended mid new →
      EndsShapes per_second directory (taken ++ c ∷ rest) ended old new
  next_ends ended new (NoCopy is new_is) = NoShapeRoom taken shapes (c ∷ rest) refl (subst (TakesShapes per_second directory taken shapes old) (sym new_is) takes) is
  next_ends ended new (NoRead is_new h) = AtShape taken shapes c rest mid refl takes (paths_new is_new) h

-- ---- by places in the list

module _ (per_second : ℕ) (directory : List ℕ) (old mid : FolderView) (components : List ComponentPart) (n : ℕ) (c : ComponentPart) (shapes : List Shape)
    (below : n < length components) (is : c ≡ get_or components n c) (takes : TakesShapes per_second directory (take n components) shapes old mid) (plain : All HasPlainSource components) where
  plain_taken : All HasPlainSource (take n components)
  plain_taken = All-take HasPlainSource n components plain

  own_plain : HasPlainSource c
  own_plain = subst HasPlainSource (sym is) (plain n c below)

  counted : length shapes ≡ length (take n components)
  counted = AllZip-long (HasShapeAlone per_second directory takes.reads) (take n components) shapes takes.each

  pub taken_more : (shape : Shape) (new : FolderView) → TakesNext per_second directory components (length shapes) c shapes shape mid new →
      TakesShapes per_second directory (take (n + 1) components) (shapes ++ shape ∷ []) old new
  taken_more shape new t =
      subst (λ (cs : List ComponentPart). TakesShapes per_second directory cs (shapes ++ shape ∷ []) old new)
      (one_more components n c below is)
      (next_taken per_second directory (take n components) c (drop (n + 1) components) shapes old mid takes plain_taken own_plain shape new
      (subst (λ (cs : List ComponentPart). TakesNext per_second directory cs (length (take n components)) c shapes shape mid new) (parted components n c below is)
      (subst (λ (m : ℕ). TakesNext per_second directory components m c shapes shape mid new) counted t)))

  pub ends_more : (ended : LoadError) (new : FolderView) → EndsNext per_second directory components (length shapes) c ended mid new → EndsShapes per_second directory components ended old new
  ends_more ended new t =
      subst (λ (cs : List ComponentPart). EndsShapes per_second directory cs ended old new) (sym (parted components n c below is))
      (next_ends per_second directory (take n components) c (drop (n + 1) components) shapes old mid takes plain_taken own_plain ended new
      (subst (λ (cs : List ComponentPart). EndsNext per_second directory cs (length (take n components)) c ended mid new) (parted components n c below is)
      (subst (λ (m : ℕ). EndsNext per_second directory components m c ended mid new) counted t)))

-- before the first
pub none_taken : (per_second : ℕ) (directory : List ℕ) (old : FolderView) → TakesShapes per_second directory [] [] old old
none_taken per_second directory old = record { reads = []; each = tt; asks = none_asked old }

-- as many shapes as components before the place
pub as_many : (per_second : ℕ) (directory : List ℕ) (old mid : FolderView) (components : List ComponentPart) (n : ℕ) (shapes : List Shape) → n ≤ length components →
    TakesShapes per_second directory (take n components) shapes old mid → length shapes ≡ n
as_many per_second directory old mid components n shapes within takes =
    AllZip-long (HasShapeAlone per_second directory takes.reads) (take n components) shapes takes.each ∙ length-take-le n components within

-- memory runs out before the next component
pub ends_here : (per_second : ℕ) (directory : List ℕ) (components : List ComponentPart) (n : ℕ) (shapes : List Shape) (ended : LoadError) (old new : FolderView) →
    TakesShapes per_second directory (take n components) shapes old new → ended ≡ end.Memory → EndsShapes per_second directory components ended old new
ends_here per_second directory components n shapes ended old new takes is =
    NoShapeRoom (take n components) shapes (drop n components) (sym (take-append-drop n components)) takes is

-- the table has the components before the place
pub table_here : (per_second : ℕ) (directory : List ℕ) (old mid : FolderView) (components : List ComponentPart) (n : ℕ) (shapes held : List Shape) (found : List ℕ → Option ℕ) →
    n < length components → held ≡ shapes → TakesShapes per_second directory (take n components) shapes old mid → IsTableBelow (source_at components) n found →
    IsTableBelow (source_at components) (length held) found
table_here per_second directory old mid components n shapes held found below same takes table =
    let within : n ≤ length components = omega arith in
    subst (λ (m : ℕ). IsTableBelow (source_at components) m found) (sym (ap length same ∙ as_many per_second directory old mid components n shapes within takes)) table
