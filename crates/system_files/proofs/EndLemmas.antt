-- From the end of a step to that of the loading.
use Rattle.std.proofs.Common.{◌≡◌, ℕ, Option, Some, List, [], ◌∷◌, ◌++◌, refl, sym, ap, ◌∙◌, subst, inl, inr, append_assoc, append-nil}
use Rattle.std.specs.List.{flat_map}
use Rattle.sim_base.specs.Asking.{Asks}
use Rattle.sim_base.specs.Folder.{FolderView}
use Rattle.sim_base.specs.Path.{joined_path}
use Rattle.sim_base.specs.declared.read_book.ReadNote.{ReadNote}
use Rattle.sim_base.specs.declared.numbers.PortId.{PortId}
use Rattle.value_types.specs.declared.shape.Shape.{Shape}
use Rattle.doc_tree.specs.declared.place.Place.{Place}
use Rattle.doc_tree.specs.declared.rule.NestingRule.{NestingRule}
use Rattle.doc_tree.specs.declared.rule.Rule.{Rule}
use Rattle.doc_tree.specs.declared.rule.Rule.TheVariants.{Nesting}
use Rattle.ssd_tree.specs.declared.tree.Binding.{Binding}
use Rattle.ssd_tree.specs.declared.tree.ComponentPart.{ComponentPart}
use Rattle.ssd_tree.specs.declared.tree.Origin.{Origin}
use Rattle.ssd_tree.specs.declared.tree.Origin.TheVariants.{File, Inline}
use Rattle.ssd_tree.specs.declared.tree.SourceBase.{SourceBase}
use Rattle.ssd_tree.specs.declared.tree.Setting.{Setting}
use Rattle.nested_documents.specs.declared.numbers.Place as elements
use Rattle.nested_documents.specs.States.{Gathered}
use Rattle.system_loading.specs.declared.documents.SystemDocument.{SystemDocument}
use Rattle.system_loading.specs.declared.outline.Outline.{Outline}
use Rattle.system_loading.specs.declared.parameters.GivenBinding.{GivenBinding}
use Rattle.system_loading.specs.declared.parameters.GivenSet.{GivenSet}
use Rattle.system_loading.specs.Outlines.{place_at, place_in}
use Rattle.system_files.specs.declared.subject.Subject.TheVariants as what
use Rattle.system_files.specs.declared.loaded.Loaded.{Loaded}
use Rattle.system_files.specs.declared.loading.LoadError.{LoadError}
use Rattle.system_files.specs.declared.loading.LoadError.TheVariants as end
use Rattle.system_files.specs.declared.named.NamedFile.{NamedFile}
use Rattle.system_files.specs.declared.named.FileFault.{FileFault}
use Rattle.system_files.specs.declared.named.FileFault.TheVariants.{Unread, Missing, TooBig, Broken}
use Rattle.system_files.specs.Documents.{AtDocument, AtNesting, ComesDocument, ComesNext, ComesTop, HasNestingFlaw, LacksOutline, document_files, told_at, told_in}
use Rattle.system_files.specs.Files.{Absent, Faulty, Flaw, LacksFile, Long}
use Rattle.system_files.specs.Loads.{AsksSome, ComesTo, EndsLoading, FailsToRead, FileFails, Loads, Nothing, OfMapping, OfValues, ReadsSome, Taken, TakenBindings, TakenDocuments, ToDocument, ToPart, ToShape, UpTo}
use Rattle.system_files.specs.Order.{ComesAlone, Fails, Found, LacksPart, Search, asked_for, asked_with, binding_files, mapping_files, model_path, part_files, part_path, part_told}
use Rattle.system_files.specs.Steps.{AtBinding, AtMapping, AtParameter, AtRule, AtShape, AtValues, EndsAt, EndsAtDocument, EndsAtNesting, EndsBetween, EndsBinding, EndsBindings, EndsModels, EndsOutline, EndsPart, EndsShapes, EndsTogether, EndsWithin, FailsMapping, FailsMappingWithin, FailsModel, FailsStructure, FailsValues, FailsValuesWithin, GathersFrom, IsValuesAlone, LeavesFile, MayAsk, NoBindingRoom, NoOutlineRoom, NoShapeRoom, NoSystemRoom, OfBindings, OfShapes, OfSystem, SaysStructure, TakesBindings, TakesModels, TakesOutline, TakesParts, TakesShapes, TakesValues, TellsNesting, paths_of}
use Rattle.system_files.proofs.AskLemmas.{asked_then, none_here}
use Rattle.system_files.proofs.DocumentLemmas.{comes_plain, gathers_plain}
use Rattle.system_files.proofs.MoreLemmas.{AreAmong, all_given, among_left, among_right, more_bindings, more_document, more_flaw, more_outline, more_reached, more_shapes, more_values}
use Rattle.system_files.proofs.OnlyLemmas.{ReachesAlone, ReachesBindingsAlone, no_binding_alone, no_outline_alone, no_set_alone, no_shape_alone, no_system_alone, reached, reached_bindings, whole_alone}
use Rattle.system_files.proofs.PartLemmas.{InMappingAlone, InValuesAlone, is_values}

-- ---- the end at one file of a loading

-- the order of reading comes to the file at a path, and all its flaws are found alone, whatever is read after them
module _ (s : Search) (path : List ℕ) (some : List ReadNote) (paths : List (List ℕ)) (Breaks : List ℕ → Rule → Place → Type 0)
    (to : (all : List ReadNote) → AreAmong some all → ComesTo s all (paths ++ path ∷ []) path)
    (alone : (all : List ReadNote) → AreAmong some all → (flaw : Flaw) → LacksFile Breaks all path flaw → ComesAlone s all (paths ++ path ∷ []) (Fails path flaw))
    (first : AsksSome s some paths) (old before : FolderView) (asks : Asks some paths old before) where
  left : (flaw : Flaw) (file : NamedFile) (new : FolderView) → file.path ≡ path → LeavesFile Breaks path flaw before new → Loads s (Fails file.path flaw) old new
  left flaw file new is l =
      subst (λ (p : List ℕ). Loads s (Fails p flaw) old new) (sym is) (record {
        reads = some ++ l.reads;
        asked = paths ++ path ∷ [];
        comes = alone (some ++ l.reads) (among_left some l.reads) flaw (more_flaw l.reads (some ++ l.reads) (among_right some l.reads) Breaks path flaw l.lacks);
        asks = asked_then old before new some l.reads paths (path ∷ []) asks l.asks;
      })

  ends_file : (file : NamedFile) (fault : FileFault) (new : FolderView) → EndsAt Breaks path (end.File file fault) before new → EndsLoading s (end.File file fault) old new
  ends_file file Unread new h =
      subst (λ (p : List ℕ). FailsToRead s p old new) (sym h.0)
      (record { reads = some; asked = paths; mid = before; comes = to some (λ p answer held. held); asks = asks; told = h.1 })
  ends_file file Missing new h = left Absent file new h.0 h.1
  ends_file file TooBig new h = left Long file new h.0 h.1
  ends_file file (Broken rule place ports) new h = left (Faulty rule place ports) file new h.0 h.1

  ends_memory : (new : FolderView) → MayAsk path before new → ReadsSome s old new
  ends_memory new (inl h) = record {
    reads = some ++ h.0;
    asked = paths ++ path ∷ [];
    some = UpTo (paths ++ path ∷ []) path (to (some ++ h.0) (among_left some h.0));
    asks = asked_then old before new some h.0 paths (path ∷ []) asks h.1;
  }
  ends_memory new (inr same) = subst (ReadsSome s old) (sym same) (record { reads = some; asked = paths; some = first; asks = asks })

  ends_at : (ended : LoadError) (new : FolderView) → EndsAt Breaks path ended before new → EndsLoading s ended old new
  ends_at (end.File file fault) new h = ends_file file fault new h
  ends_at end.Memory new h = ends_memory new h

-- ---- before there is an outline

-- these documents are read
gathered_asked : (s : Search) (documents : List SystemDocument) (g : Gathered) (old new : FolderView) → s.subject ≡ what.System → (f : GathersFrom s.directory documents g old new) →
    AsksSome s f.reads (document_files s.directory documents)
gathered_asked s documents g old new sys f = TakenDocuments documents g _ sys (gathers_plain s.directory f.reads documents g f.gathers) refl

-- so many are read where one comes
come_asked : (s : Search) (all : List ReadNote) (documents : List SystemDocument) (path : List ℕ) (t : Setting) → s.subject ≡ what.System → ComesDocument SaysStructure s.directory all documents path t →
    AsksSome s all (document_files s.directory documents)
come_asked s all documents path t sys (ComesTop _ _ _ none path_is t_is) = Nothing (document_files s.directory documents) (ap (document_files s.directory) none)
come_asked s all documents path t sys (ComesNext _ _ _ g gathers comes) = TakenDocuments documents g _ sys (gathers_plain s.directory all documents g gathers) refl

-- the end at an element of a document
ends_nesting : (s : Search) (documents : List SystemDocument) (g : Gathered) (place : elements.Place) (rule : NestingRule) (old new : FolderView) → s.subject ≡ what.System →
    GathersFrom s.directory documents g old new → HasNestingFlaw g place rule → (ended : LoadError) → TellsNesting s.directory documents place rule ended → EndsLoading s ended old new
ends_nesting s documents g place rule old new sys f stands (end.File file fault) tells =
    let flaw = Faulty (Nesting rule) (place_at documents place) [] in
    let told = told_at s.directory documents place in
    let lacks : LacksOutline SaysStructure FailsStructure s.directory f.reads (document_files s.directory documents) told flaw =
    AtNesting documents g place rule _ _ _ f.gathers stands refl refl refl in
    subst (λ (x : FileFault). FileFails s x file.path old new) (sym tells.1) (record {
      reads = f.reads;
      asked = document_files s.directory documents;
      comes = subst (λ (q : List ℕ). ComesAlone s f.reads (document_files s.directory documents) (Fails q flaw)) (sym tells.0)
          (no_outline_alone s f.reads (document_files s.directory documents) told flaw sys lacks);
      asks = f.asks;
    })
ends_nesting s documents g place rule old new sys f stands end.Memory tells =
    record { reads = f.reads; asked = document_files s.directory documents; some = gathered_asked s documents g old new sys f; asks = f.asks }

pub ends_outline : (s : Search) (ended : LoadError) (old new : FolderView) → EndsOutline s.subject s.directory ended old new → EndsLoading s ended old new
ends_outline s ended old new (EndsAtDocument documents path t mid sys r h) =
    let file = joined_path s.directory path in
    let paths = document_files s.directory documents in
    ends_at s file r.reads paths (FailsStructure t)
    (λ all among. ToDocument documents path t _ _ sys (comes_plain s.directory all documents path t (more_document r.reads all among SaysStructure s.directory documents path t r.comes)) refl refl)
    (λ all among flaw l. no_outline_alone s all (paths ++ file ∷ []) file flaw sys
    (AtDocument documents path t _ _ flaw (more_document r.reads all among SaysStructure s.directory documents path t r.comes) l refl refl))
    (come_asked s r.reads documents path t sys r.comes) old mid r.asks ended new h
ends_outline s ended old new (EndsAtNesting documents g place rule sys f stands tells) = ends_nesting s documents g place rule old new sys f stands ended tells
ends_outline s ended old new (EndsBetween documents g sys f is) =
    subst (λ (e : LoadError). EndsLoading s e old new) (sym is)
    (record { reads = f.reads; asked = document_files s.directory documents; some = gathered_asked s documents g old new sys f; asks = f.asks })
ends_outline s ended old new (NoOutlineRoom is told) =
    subst (λ (e : LoadError). EndsLoading s e old new) (sym is) (record { reads = []; asked = []; some = Nothing [] refl; asks = none_here old new told })

-- ---- at a binding

-- the end at an element of the outline, which breaks a rule alone
within_end : (s : Search) (old new : FolderView) (path : List ℕ) (reads : List ReadNote) (asked : List (List ℕ)) (Spoils : Rule → Place → Type 0) →
    ((rule : Rule) (place : Place) → Spoils rule place → ComesAlone s reads asked (Fails path (Faulty rule place []))) → AsksSome s reads asked → Asks reads asked old new →
    (ended : LoadError) → EndsWithin Spoils path ended → EndsLoading s ended old new
within_end s old new path reads asked Spoils alone some asks (end.File file fault) h =
    let rule = h.0 in
    let place = h.1.0 in
    let path_is = h.1.1 in
    let fault_is = h.1.2 in
    subst (λ (x : FileFault). FileFails s x file.path old new) (sym fault_is) (record {
      reads = reads;
      asked = asked;
      comes = subst (λ (p : List ℕ). ComesAlone s reads asked (Fails p (Faulty rule place []))) (sym path_is) (alone rule place h.1.3);
      asks = asks;
    })
within_end s old new path reads asked Spoils alone some asks end.Memory h = record { reads = reads; asked = asked; some = some; asks = asks }

asks_as : (reads : List ReadNote) (paths files : List (List ℕ)) (old new : FolderView) → paths ≡ files → Asks reads paths old new → Asks reads files old new
asks_as reads paths files old new same asks = subst (λ (ps : List (List ℕ)). Asks reads ps old new) same asks

-- the bindings before one gave this
module _ (s : Search) (o : Outline) (shapes : List Shape) (taken : List Binding) (given : List GivenBinding) (b : Binding) (rest : List Binding) where
  to_values : (all : List ReadNote) → ReachesBindingsAlone s all o shapes taken given (b ∷ rest) → (base : SourceBase) (source : List ℕ) → b.values ≡ File base source →
      ComesTo s all (asked_with s o taken ++ part_path s.directory o b.owner base source ∷ []) (part_path s.directory o b.owner base source)
  to_values all reach base source e =
      ToPart o shapes taken given b rest (part_path s.directory o b.owner base source ∷ []) _ _ (reached_bindings s all o shapes taken given (b ∷ rest) reach)
      (OfValues base source _ _ e (sym (ap (part_files s.directory o b.owner) e)) refl) refl

  no_values : (all : List ReadNote) → ReachesBindingsAlone s all o shapes taken given (b ∷ rest) → (origin : Origin) (flaw : Flaw) → b.values ≡ origin →
      LacksPart FailsValues FailsValuesWithin s.directory all o b.owner origin flaw →
      ComesAlone s all (asked_with s o taken ++ part_files s.directory o b.owner origin) (Fails (part_told s.directory o b.owner origin) flaw)
  no_values all reach origin flaw e l =
      no_set_alone s all o shapes taken given b rest (part_files s.directory o b.owner origin) (part_told s.directory o b.owner origin) flaw reach
      (InValuesAlone _ _ flaw (subst (λ (x : Origin). LacksPart FailsValues FailsValuesWithin s.directory all o b.owner x flaw) (sym e) l)
      (sym (ap (part_files s.directory o b.owner) e)) (sym (ap (part_told s.directory o b.owner) e)))

  values_asked : (all : List ReadNote) → ReachesBindingsAlone s all o shapes taken given (b ∷ rest) → (origin : Origin) → b.values ≡ origin →
      AsksSome s all (asked_with s o taken ++ part_files s.directory o b.owner origin)
  values_asked all reach (File base source) e = UpTo _ (part_path s.directory o b.owner base source) (to_values all reach base source e)
  values_asked all reach (Inline node) e =
      TakenBindings o shapes taken given (b ∷ rest) _ (reached_bindings s all o shapes taken given (b ∷ rest) reach) (append-nil (asked_with s o taken))

  module _ (old before : FolderView) (some : List ReadNote) (reach : ReachesBindingsAlone s some o shapes taken given (b ∷ rest)) (asks : Asks some (asked_with s o taken) old before) where
    after : (all : List ReadNote) → AreAmong some all → ReachesBindingsAlone s all o shapes taken given (b ∷ rest)
    after all among = more_bindings some all among s o shapes taken given (b ∷ rest) reach

    ends_values : (origin : Origin) (ended : LoadError) (new : FolderView) → b.values ≡ origin →
        EndsPart FailsValues FailsValuesWithin s.directory o b.owner origin ended before new → EndsLoading s ended old new
    ends_values (File base source) ended new e h =
        ends_at s (part_path s.directory o b.owner base source) some (asked_with s o taken) FailsValues
        (λ all among. to_values all (after all among) base source e) (λ all among flaw l. no_values all (after all among) (File base source) flaw e l)
        (TakenBindings o shapes taken given (b ∷ rest) _ (reached_bindings s some o shapes taken given (b ∷ rest) reach) refl) old before asks ended new h
    ends_values (Inline node) ended new e h =
        within_end s old new (told_in s.directory o node) some (asked_with s o taken ++ []) (FailsValuesWithin o node)
        (λ rule place w. no_values some reach (Inline node) (Faulty rule place []) e (rule, (place, w, refl))) (values_asked some reach (Inline node) e)
        (asks_as some (asked_with s o taken) (asked_with s o taken ++ []) old new (sym (append-nil (asked_with s o taken))) (subst (Asks some (asked_with s o taken) old) (sym h.0) asks)) ended h.1

    module _ (set : GivenSet) (middle : FolderView) (values : TakesValues s.directory o b set before middle) where
      both : List ReadNote
      both = some ++ values.reads

      both_asked : Asks both (asked_with s o taken ++ part_files s.directory o b.owner b.values) old middle
      unfolding both
      both_asked = asked_then old before middle some values.reads (asked_with s o taken) (part_files s.directory o b.owner b.values) asks values.asks

      both_reach : ReachesBindingsAlone s both o shapes taken given (b ∷ rest)
      unfolding both
      both_reach = after (some ++ values.reads) (among_left some values.reads)

      set_alone : IsValuesAlone s.directory both o b.owner b.values set
      unfolding both
      set_alone = more_values values.reads (some ++ values.reads) (among_right some values.reads) s.directory o b set values.is

      module _ (all : List ReadNote) (among : AreAmong both all) where
        after_both : ReachesBindingsAlone s all o shapes taken given (b ∷ rest)
        after_both = more_bindings both all among s o shapes taken given (b ∷ rest) both_reach

        after_set : IsValuesAlone s.directory all o b.owner b.values set
        after_set = more_values both all among s.directory o b set set_alone

      ends_mapping : (origin : Origin) (ended : LoadError) (new : FolderView) → b.mapping ≡ Some origin →
          EndsPart FailsMapping FailsMappingWithin s.directory o b.owner origin ended middle new → EndsLoading s ended old new
      ends_mapping (File base source) ended new m h =
          let path = part_path s.directory o b.owner base source in
          let before_it = asked_with s o taken ++ part_files s.directory o b.owner b.values in
          let whole = asked_with s o taken ++ binding_files s.directory o b in
          let same : whole ≡ before_it ++ path ∷ [] =
          ap (λ (x : Option Origin). asked_with s o taken ++ (part_files s.directory o b.owner b.values ++ mapping_files s.directory o b.owner x)) m
          ∙ sym (append_assoc (asked_with s o taken) (part_files s.directory o b.owner b.values) (path ∷ [])) in
          ends_at s path both before_it FailsMapping
          (λ all among. subst (λ (ps : List (List ℕ)). ComesTo s all ps path) same
          (ToPart o shapes taken given b rest (binding_files s.directory o b) _ _ (reached_bindings s all o shapes taken given (b ∷ rest) (after_both all among))
          (OfMapping set base source _ _ (is_values s all o b set (after_set all among)) m refl refl) refl))
          (λ all among flaw l. subst (λ (ps : List (List ℕ)). ComesAlone s all ps (Fails path flaw)) same
          (no_set_alone s all o shapes taken given b rest (binding_files s.directory o b) path flaw (after_both all among)
          (InMappingAlone (File base source) set _ _ flaw (after_set all among) m l refl refl)))
          (values_asked both both_reach b.values refl) old middle both_asked ended new h
      ends_mapping (Inline node) ended new m h =
          within_end s old new (told_in s.directory o node) both (asked_with s o taken ++ part_files s.directory o b.owner b.values) (FailsMappingWithin o node)
          (λ rule place w. no_set_alone s both o shapes taken given b rest (part_files s.directory o b.owner b.values) (told_in s.directory o node) (Faulty rule place []) both_reach
          (InMappingAlone (Inline node) set _ _ (Faulty rule place []) set_alone m (rule, (place, w, refl))
          (sym (append-nil (part_files s.directory o b.owner b.values)) ∙ ap (λ (x : Option Origin). part_files s.directory o b.owner b.values ++ mapping_files s.directory o b.owner x) (sym m)) refl))
          (values_asked both both_reach b.values refl) (subst (Asks both (asked_with s o taken ++ part_files s.directory o b.owner b.values) old) (sym h.0) both_asked) ended h.1

    pub ends_binding : (ended : LoadError) (new : FolderView) → EndsBinding s.directory o b ended before new → EndsLoading s ended old new
    ends_binding ended new (AtValues h) = ends_values b.values ended new refl h
    ends_binding ended new (AtMapping set origin middle values m h) = ends_mapping set middle values origin ended new m h

-- ---- after there is one

module _ (s : Search) (o : Outline) (old mid : FolderView) (outline : TakesOutline s.subject s.directory o old mid) where
  -- the first shapes after the outline
  some_taken : (taken : List ComponentPart) (shapes : List Shape) (rest : List ComponentPart) (new : FolderView) → o.systems.components ≡ taken ++ rest →
      (t : TakesShapes s.per_second s.directory taken shapes mid new) →
      ReachesAlone s (outline.reads ++ t.reads) o taken shapes rest × Asks (outline.reads ++ t.reads) (asked_for s o taken) old new
  some_taken taken shapes rest new is t = (
    record {
      outline = more_outline outline.reads (outline.reads ++ t.reads) (among_left outline.reads t.reads) s.subject s.directory o outline.is;
      is = is;
      each = more_shapes t.reads (outline.reads ++ t.reads) (among_right outline.reads t.reads) s.per_second s.directory taken shapes t.each;
    },
    asked_then old mid new outline.reads t.reads (document_files s.directory o.documents) (paths_of s.directory taken) outline.asks t.asks,
  )

  -- the first bindings after all shapes
  parts_reach : (shapes : List Shape) (taken : List Binding) (given : List GivenBinding) (rest : List Binding) (middle new : FolderView) → o.systems.bindings ≡ taken ++ rest →
      TakesShapes s.per_second s.directory o.systems.components shapes mid middle → TakesBindings s.directory o taken given middle new →
      (reads : List ReadNote) × ReachesBindingsAlone s reads o shapes taken given rest × Asks reads (asked_with s o taken) old new
  parts_reach shapes taken given rest middle new is t g =
      let r = some_taken o.systems.components shapes [] middle (sym (append-nil o.systems.components)) t in
      let some = outline.reads ++ t.reads in (
        some ++ g.reads,
        record {
          outline = more_outline some (some ++ g.reads) (among_left some g.reads) s.subject s.directory o r.0.outline;
          shaped = more_shapes some (some ++ g.reads) (among_left some g.reads) s.per_second s.directory o.systems.components shapes r.0.each;
          is = is;
          each = all_given g.reads (some ++ g.reads) (among_right some g.reads) s.directory o taken given g.each;
        },
        asked_then old middle new some g.reads (asked_for s o o.systems.components) (flat_map (binding_files s.directory o) taken) r.1 g.asks,
      )

  pub all_reach : (shapes : List Shape) (given : List GivenBinding) (new : FolderView) → TakesParts s.per_second s.directory o shapes given mid new →
      (reads : List ReadNote) × ReachesBindingsAlone s reads o shapes o.systems.bindings given [] × Asks reads (asked_with s o o.systems.bindings) old new
  all_reach shapes given new t = parts_reach shapes o.systems.bindings given [] t.mid new (sym (append-nil o.systems.bindings)) t.takes t.gives

  pub loads : (loaded : Loaded) (new : FolderView) → TakesModels s.per_second s.directory o loaded mid new → Loads s (Found loaded) old new
  loads loaded new t =
      let h = all_reach t.shapes t.given new t.takes in
      record { reads = h.0; asked = asked_with s o o.systems.bindings; comes = whole_alone s h.0 o t.shapes t.given h.1 loaded t.is; asks = h.2 }

  ends_taken : (taken : List ComponentPart) (shapes : List Shape) (rest : List ComponentPart) (new : FolderView) → o.systems.components ≡ taken ++ rest →
      TakesShapes s.per_second s.directory taken shapes mid new → ReadsSome s old new
  ends_taken taken shapes rest new is t =
      let r = some_taken taken shapes rest new is t in record {
        reads = outline.reads ++ t.reads;
        asked = asked_for s o taken;
        some = Taken o taken shapes rest _ (reached s (outline.reads ++ t.reads) o taken shapes rest r.0) refl;
        asks = r.1;
      }

  ends_shapes : (ended : LoadError) (new : FolderView) → EndsShapes s.per_second s.directory o.systems.components ended mid new → EndsLoading s ended old new
  ends_shapes ended new (AtShape taken shapes c rest middle is t more h) =
      let r = some_taken taken shapes (c ∷ rest) middle is t in
      let some = outline.reads ++ t.reads in
      let path = model_path s.directory c in
      let same : asked_for s o (taken ++ c ∷ []) ≡ asked_for s o taken ++ path ∷ [] =
      ap (λ (paths : List (List ℕ)). document_files s.directory o.documents ++ paths) more
      ∙ sym (append_assoc (document_files s.directory o.documents) (paths_of s.directory taken) (path ∷ [])) in
      ends_at s path some (asked_for s o taken) (FailsModel s.per_second)
      (λ all among. ToShape o taken shapes c rest _ _ (reached s all o taken shapes (c ∷ rest) (more_reached some all among s o taken shapes (c ∷ rest) r.0)) (sym same) refl)
      (λ all among flaw l. subst (λ (ps : List (List ℕ)). ComesAlone s all ps (Fails path flaw)) same
      (no_shape_alone s all o taken shapes c rest flaw (more_reached some all among s o taken shapes (c ∷ rest) r.0) l))
      (Taken o taken shapes (c ∷ rest) _ (reached s some o taken shapes (c ∷ rest) r.0) refl) old middle r.1 ended new h
  ends_shapes ended new (NoShapeRoom taken shapes rest is t ended_is) =
      subst (λ (e : LoadError). EndsLoading s e old new) (sym ended_is) (ends_taken taken shapes rest new is t)

  ends_bindings : (shapes : List Shape) (middle : FolderView) (ended : LoadError) (new : FolderView) → TakesShapes s.per_second s.directory o.systems.components shapes mid middle →
      EndsBindings s.directory o ended middle new → EndsLoading s ended old new
  ends_bindings shapes middle ended new t (AtBinding taken given b rest before is takes h) =
      let r = parts_reach shapes taken given (b ∷ rest) middle before is t takes in
      ends_binding s o shapes taken given b rest old before r.0 r.1 r.2 ended new h
  ends_bindings shapes middle ended new t (NoBindingRoom is new_is) =
      subst (λ (e : LoadError). EndsLoading s e old new) (sym is)
      (ends_taken o.systems.components shapes [] new (sym (append-nil o.systems.components))
      (subst (TakesShapes s.per_second s.directory o.systems.components shapes mid) (sym new_is) t))

  ends_together : (shapes : List Shape) (given : List GivenBinding) (ended : LoadError) (new : FolderView) → TakesParts s.per_second s.directory o shapes given mid new → EndsTogether s.directory o shapes given ended →
      EndsLoading s ended old new
  ends_together shapes given ended new t (AtParameter n in_mapping rule place ports file broken in_file none is) =
      let r = all_reach shapes given new t in
      subst (λ (e : LoadError). EndsLoading s e old new) (sym is) (record {
        reads = r.0;
        asked = asked_with s o o.systems.bindings;
        comes = subst (λ (xs : List PortId). ComesAlone s r.0 (asked_with s o o.systems.bindings) (Fails file.path (Faulty rule place xs))) (sym none)
            (no_binding_alone s r.0 o shapes given r.1 n in_mapping rule place file.path broken in_file);
        asks = r.2;
      })
  ends_together shapes given ended new t (AtRule bound rule node ports file binds broken in_file is) =
      let r = all_reach shapes given new t in
      subst (λ (e : LoadError). EndsLoading s e old new) (sym is) (record {
        reads = r.0;
        asked = asked_with s o o.systems.bindings;
        comes = subst (λ (p : List ℕ). ComesAlone s r.0 (asked_with s o o.systems.bindings) (Fails p (Faulty rule (place_in o node) ports))) (sym in_file)
            (no_system_alone s r.0 o shapes given r.1 bound rule node ports binds broken);
        asks = r.2;
      })
  ends_together shapes given ended new t (NoSystemRoom is) =
      let r = all_reach shapes given new t in
      subst (λ (e : LoadError). EndsLoading s e old new) (sym is) (record {
        reads = r.0;
        asked = asked_with s o o.systems.bindings;
        some = TakenBindings o shapes o.systems.bindings given [] _ (reached_bindings s r.0 o shapes o.systems.bindings given [] r.1) refl;
        asks = r.2;
      })

  pub ends_models : (ended : LoadError) (new : FolderView) → EndsModels s.per_second s.directory o ended mid new → EndsLoading s ended old new
  ends_models ended new (OfShapes h) = ends_shapes ended new h
  ends_models ended new (OfBindings shapes middle t h) = ends_bindings shapes middle ended new t h
  ends_models ended new (OfSystem shapes given t h) = ends_together shapes given ended new t h
