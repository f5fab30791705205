-- From what is loaded to what can be run.
use Rattle.std.proofs.Common.{◌≡◌, inl, inr, ℕ, List, [], ◌∷◌, ◌++◌, Option, Some, length, refl, sym, ap, ◌∙◌, subst}
use Rattle.std.proofs.lemmas.List.{append-nil, length-map}
use Rattle.sim_base.specs.Folder.{FolderView}
use Rattle.sim_base.specs.declared.read_book.ReadNote.{ReadNote}
use Rattle.command_line.specs.Line.{Line}
use Rattle.system_files.specs.declared.loaded.Loaded.{Loaded}
use Rattle.value_types.specs.declared.shape.Shape.{Shape}
use Rattle.ssd_tree.specs.declared.tree.Binding.{Binding}
use Rattle.ssd_tree.specs.declared.tree.Origin.{Origin}
use Rattle.ssd_tree.specs.declared.tree.Origin.TheVariants.{File, Inline}
use Rattle.system_loading.specs.declared.outline.Outline.{Outline}
use Rattle.system_loading.specs.declared.parameters.GivenBinding.{GivenBinding}
use Rattle.system_loading.specs.declared.parameters.GivenSet.{GivenSet}
use Rattle.system_loading.specs.Documents.{BreaksStructure, IsStructure}
use Rattle.system_files.specs.Documents.{AtDocument, AtNesting, LacksOutline}
use Rattle.system_files.specs.Files.{Faulty, Flaw}
use Rattle.system_files.specs.Loads.{AsksSome, EndsLoading, FileFails, Loads, OfMapping, OfValues, ReadsSome, TakenBindings, TakenDocuments, ToDocument, ToPart, ToShape, UpTo}
use Rattle.system_files.specs.Order.{Comes, Fails, Finding, Found, InMapping, InValues, IsValuesPart, LacksBinding, NoBinding, NoOutline, NoSet, NoShape, NoSystem, ReachesBindings, Search, Whole, asked_with, binding_files, folder_of, mapping_files, part_files, part_path}
use Rattle.system_files.specs.declared.subject.Subject.TheVariants as what
use Rattle.system_files.specs.declared.loading.LoadError.{LoadError}
use Rattle.system_files.specs.declared.loading.LoadError.TheVariants as e
use Rattle.system_files.specs.declared.named.FileFault.{FileFault}
use Rattle.system_files.specs.declared.named.FileFault.TheVariants.{Unread, Missing, TooBig, Broken}
use Rattle.run_program.specs.declared.outcome.Outcome.{Outcome}
use Rattle.run_program.specs.Facts.{LoadFacts, search_for}
use Rattle.run_program.specs.Refusing.{TellsEnd, TellsFile}
use Rattle.run_program.specs.Runs.{HasFolders}

-- ---- what is loaded

-- a system that was found has a folder for each component
pub has_folders : (s : Search) (reads : List ReadNote) (asked : List (List ℕ)) (loaded : Loaded) → Comes s reads asked (Found loaded) → HasFolders loaded.folders loaded.system
has_folders s reads asked loaded comes = by (Found loaded) refl comes
  where
    found_same : (one other : Loaded) → Found one ≡ Found other → one ≡ other
    found_same one other e = cc

    by : (finding : Finding) → finding ≡ Found loaded → Comes s reads asked finding → HasFolders loaded.folders loaded.system
    by finding e (NoOutline told flaw a f subject lacks is) = absurd (apart (sym is ∙ e))
      where
        apart : {x : _} {y : _} → Fails x y ≡ Found loaded → ⊥
        apart e = cc
    by finding e (NoShape o taken shapes c rest flaw a f reaches lacks asks is) = absurd (cc)
    by finding e (NoSet o shapes taken given b rest files path flaw a f reaches lacks asks is) = absurd (cc)
    by finding e (NoBinding o shapes given n in_mapping rule place path a f reaches breaks told asks is) = absurd (cc)
    by finding e (NoSystem o shapes given bound rule node ports a f reaches binds breaks asks is) = absurd (cc)
    by finding e (Whole o shapes given one a f reaches binds makes folders asks is) =
        let same = found_same one loaded (sym is ∙ e) in
        ap (λ (x : Loaded). length x.folders) (sym same) ∙ ap (λ (x : List (List ℕ)). length x) folders ∙ length-map o.systems.components (folder_of s.directory)
        ∙ sym makes.flattens.flat.components.len ∙ ap (λ (x : Loaded). length x.system.components) same

-- ---- where memory runs out after the files

module _ (s : Search) (reads : List ReadNote) (o : Outline) (shapes : List Shape) (taken : List Binding) (given : List GivenBinding) (b : Binding) (rest : List Binding)
    (reaches : ReachesBindings s reads o shapes taken given (b ∷ rest)) where
  values_asked : (origin : Origin) → b.values ≡ origin → AsksSome s reads (asked_with s o taken ++ part_files s.directory o b.owner origin)
  values_asked (File base source) e =
      UpTo _ (part_path s.directory o b.owner base source) (ToPart o shapes taken given b rest (part_path s.directory o b.owner base source ∷ []) _ _ reaches
      (OfValues base source _ _ e (sym (ap (part_files s.directory o b.owner) e)) refl) refl)
  values_asked (Inline node) e = TakenBindings o shapes taken given (b ∷ rest) _ reaches (append-nil (asked_with s o taken))

  mapping_asked : (set : GivenSet) (origin : Origin) → IsValuesPart s.directory reads o b.owner b.values set → b.mapping ≡ Some origin →
      AsksSome s reads (asked_with s o taken ++ binding_files s.directory o b)
  mapping_asked set (File base source) values m =
      UpTo _ (part_path s.directory o b.owner base source) (ToPart o shapes taken given b rest (binding_files s.directory o b) _ _ reaches (OfMapping set base source _ _ values m refl refl) refl)
  mapping_asked set (Inline node) values m =
      subst (λ (files : List (List ℕ)). AsksSome s reads (asked_with s o taken ++ files))
      (sym (append-nil (part_files s.directory o b.owner b.values)) ∙ ap (λ (x : Option Origin). part_files s.directory o b.owner b.values ++ mapping_files s.directory o b.owner x) (sym m))
      (values_asked b.values refl)

  -- up to a part of a binding that isn't taken
  part_asked : (files : List (List ℕ)) (path : List ℕ) (flaw : Flaw) → LacksBinding s reads o b files path flaw → AsksSome s reads (asked_with s o taken ++ files)
  part_asked files path flaw (InValues f p x lacks e told) = subst (λ (z : List (List ℕ)). AsksSome s reads (asked_with s o taken ++ z)) (sym e) (values_asked b.values refl)
  part_asked files path flaw (InMapping origin set f p x values m lacks e told) =
      subst (λ (z : List (List ℕ)). AsksSome s reads (asked_with s o taken ++ z)) (sym e) (mapping_asked set origin values m)

-- up to where there is no outline
outline_asked : (s : Search) (reads : List ReadNote) (asked : List (List ℕ)) (told : List ℕ) (flaw : Flaw) → s.subject ≡ what.System → LacksOutline IsStructure BreaksStructure s.directory reads asked told flaw → AsksSome s reads asked
outline_asked s reads asked told flaw subject (AtDocument documents path t _ _ _ comes lacks asked_is told_is) = UpTo asked _ (ToDocument documents path t asked _ subject comes asked_is refl)
outline_asked s reads asked told flaw subject (AtNesting documents g place rule _ _ _ gathers stands asked_is told_is flaw_is) = TakenDocuments documents g asked subject gathers asked_is

-- what was asked for to an end was asked for in the order of reading
pub asks_some : (s : Search) (reads : List ReadNote) (asked : List (List ℕ)) (finding : Finding) → Comes s reads asked finding → AsksSome s reads asked
asks_some s reads asked finding (NoOutline told flaw a f subject lacks is) = outline_asked s reads a told flaw subject lacks
asks_some s reads asked finding (NoShape o taken shapes c rest flaw a f reaches lacks asks is) = UpTo asked _ (ToShape o taken shapes c rest asked _ reaches asks refl)
asks_some s reads asked finding (NoSet o shapes taken given b rest files path flaw a f reaches lacks asks is) =
    subst (AsksSome s reads) (sym asks) (part_asked s reads o shapes taken given b rest reaches files path flaw lacks)
asks_some s reads asked finding (NoBinding o shapes given n in_mapping rule place path a f reaches breaks told asks is) = TakenBindings o shapes o.systems.bindings given [] asked reaches asks
asks_some s reads asked finding (NoSystem o shapes given bound rule node ports a f reaches binds breaks asks is) =
    TakenBindings o shapes o.systems.bindings given [] asked reaches asks
asks_some s reads asked finding (Whole o shapes given one a f reaches binds makes folders asks is) = TakenBindings o shapes o.systems.bindings given [] asked reaches asks

pub reads_some : (s : Search) (finding : Finding) (old new : FolderView) → Loads s finding old new → ReadsSome s old new
reads_some s finding old new l = record { reads = l.reads; asked = l.asked; some = asks_some s l.reads l.asked finding l.comes.comes; asks = l.asks }

-- ---- where nothing is loaded

file_facts : (fault : FileFault) (o : Outcome) (line : Line) (path : List ℕ) (old new : FolderView) → FileFails (search_for line) fault path old new → TellsFile path fault o → LoadFacts o line old new
file_facts Unread o line path old new f tells = subst (λ (x : Outcome). LoadFacts x line old new) (sym tells) f
file_facts Missing o line path old new f tells = subst (λ (x : Outcome). LoadFacts x line old new) (sym tells) f
file_facts TooBig o line path old new f tells = subst (λ (x : Outcome). LoadFacts x line old new) (sym tells) f
file_facts (Broken rule place ports) o line path old new f (inl tells) = subst (λ (x : Outcome). LoadFacts x line old new) (sym tells) f
file_facts (Broken rule place ports) o line path old new f (inr tells) =
    subst (λ (x : Outcome). LoadFacts x line old new) (sym tells) (reads_some (search_for line) (Fails path (Faulty rule place ports)) old new f)

pub end_facts : (end : LoadError) (o : Outcome) (line : Line) (old new : FolderView) → EndsLoading (search_for line) end old new → TellsEnd end o → LoadFacts o line old new
end_facts (e.File file fault) o line old new ends tells = file_facts fault o line file.path old new ends tells
end_facts e.Memory o line old new ends tells = subst (λ (x : Outcome). LoadFacts x line old new) (sym tells) ends
