-- The documents of a system, read one after another.
use Rattle.std.proofs.Common.{◌≡◌, ◌∙◌, ℕ, suc, ◌-◌, ◌<◌, ◌||◌, nat_lt, nat_le, Bool, true, false, List, [], ◌∷◌, ◌++◌, Some, refl, sym, ap, subst, inl, arith}
use Rattle.std.proofs.lemmas.Bool.Decides.{nat_tests}
use Rattle.std.proofs.lemmas.List.{map-append}
use Rattle.sim_base.specs.Asking.{Asks}
use Rattle.sim_base.specs.Folder.{FolderView}
use Rattle.sim_base.specs.Path.{joined_path}
use Rattle.sim_base.specs.declared.read_book.ReadNote.{ReadNote}
use Rattle.doc_tree.specs.declared.rule.NestingRule.TheVariants as n
use Rattle.ssd_tree.specs.declared.tree.Setting.{Setting}
use Rattle.nested_documents.specs.declared.nest.TheConstants.{OUTERMOST}
use Rattle.nested_documents.specs.declared.nest.Next.TheVariants as next
use Rattle.nested_documents.specs.declared.numbers.Place as elements
use Rattle.nested_documents.specs.Nest.{CanAdd, IsNext}
use Rattle.nested_documents.specs.States.{Gathered}
use Rattle.system_loading.specs.declared.documents.SystemDocument.{SystemDocument}
use Rattle.system_loading.specs.declared.outline.Outline.{Outline}
use Rattle.system_loading.specs.Documents.{Said}
use Rattle.system_files.specs.declared.loading.LoadError.{LoadError}
use Rattle.system_files.specs.declared.loading.LoadError.TheVariants as end
use Rattle.system_files.specs.declared.subject.Subject.TheVariants as what
use Rattle.system_files.specs.Documents.{Begins, ComesNext, ComesTop, IsGathered, LacksConnector, Nested, Outermost, StandsTooDeep, document_files, top_path}
use Rattle.system_files.specs.Steps.{AddsDocument, EndsAt, EndsAtDocument, EndsAtNesting, EndsBetween, EndsOutline, FailsStructure, GathersFrom, SaysStructure, TakesFile, TakesOutline, TellsNesting}
use Rattle.system_files.proofs.AskLemmas.{asked_then, none_asked}
use Rattle.system_files.proofs.MoreLemmas.{among_left, among_right, more_file, more_gathers}

module _ (directory : List ℕ) where
  files_as : (reads : List ReadNote) (files : List (List ℕ)) (documents : List SystemDocument) (old new : FolderView) → files ≡ document_files directory documents → Asks reads files old new → Asks reads (document_files directory documents) old new
  files_as reads files documents old new same asks = subst (λ (paths : List (List ℕ)). Asks reads paths old new) same asks

  -- ---- the outermost document

  pub gathers_top : (said : Said) (documents : List SystemDocument) (g : Gathered) (old new : FolderView) → TakesFile (SaysStructure OUTERMOST) (joined_path directory top_path) said old new → Begins said documents g →
      GathersFrom directory documents g old new
  gathers_top said documents g old new takes begins = record {
    reads = takes.reads;
    gathers = Outermost said documents g takes.has begins;
    asks = files_as takes.reads (joined_path directory top_path ∷ []) documents old new (sym (ap (document_files directory) begins.documents)) takes.asks;
  }

  pub ends_top : (ended : LoadError) (old new : FolderView) → EndsAt (FailsStructure OUTERMOST) (joined_path directory top_path) ended old new → EndsOutline what.System directory ended old new
  ends_top ended old new h = EndsAtDocument [] top_path OUTERMOST old refl (record { reads = []; comes = ComesTop [] top_path OUTERMOST refl refl refl; asks = none_asked old }) h

  -- it was read, and then memory ran out
  pub top_left : (said : Said) (old new : FolderView) → TakesFile (SaysStructure OUTERMOST) (joined_path directory top_path) said old new → EndsOutline what.System directory end.Memory old new
  top_left said old new takes = ends_top end.Memory old new (inl (takes.reads, takes.asks))

  -- ---- a document more

  module _ (before : List SystemDocument) (g : Gathered) (old mid : FolderView) (so_far : GathersFrom directory before g old mid) where
    pub gathers_more : (path : List ℕ) (s : Setting) (documents : List SystemDocument) (h : Gathered) (new : FolderView) → IsNext g (next.Document path s) → AddsDocument directory path s before g documents h mid new →
        GathersFrom directory documents h old new
    gathers_more path s documents h new comes adds =
        let some = so_far.reads in
        let more = adds.takes.reads in
        let files : document_files directory before ++ joined_path directory path ∷ [] ≡ document_files directory documents =
        sym (ap (document_files directory) adds.adds.documents ∙ map-append (λ (d : SystemDocument). joined_path directory d.path) before (record { path = path; tree = adds.said.nodes } ∷ [])) in
        record {
          reads = some ++ more;
          gathers = Nested before g path s adds.said documents h (more_gathers some (some ++ more) (among_left some more) SaysStructure directory before g so_far.gathers) comes
              (more_file more (some ++ more) (among_right some more) (SaysStructure s) (joined_path directory path) adds.said adds.takes.has) adds.adds;
          asks = files_as (some ++ more) (document_files directory before ++ joined_path directory path ∷ []) documents old new files
              (asked_then old mid new some more (document_files directory before) (joined_path directory path ∷ []) so_far.asks adds.takes.asks);
        }

    pub ends_more : (path : List ℕ) (s : Setting) (ended : LoadError) (new : FolderView) → IsNext g (next.Document path s) → EndsAt (FailsStructure s) (joined_path directory path) ended mid new → EndsOutline what.System directory ended old new
    ends_more path s ended new comes h =
        EndsAtDocument before path s mid refl (record { reads = so_far.reads; comes = ComesNext before path s g so_far.gathers comes; asks = so_far.asks }) h

    pub ends_here : EndsOutline what.System directory end.Memory old mid
    ends_here = EndsBetween before g refl so_far refl

    pub ends_deep : (place : elements.Place) (ended : LoadError) → IsNext g (next.TooDeep place) → TellsNesting directory before place n.TooDeep ended → EndsOutline what.System directory ended old mid
    ends_deep place ended comes tells = EndsAtNesting before g place n.TooDeep refl so_far (StandsTooDeep place n.TooDeep comes refl) tells

    -- ---- all are read

    pub takes_all : (o : Outline) → IsNext g next.Nothing → IsGathered before g o → TakesOutline what.System directory o old mid
    takes_all o all is = record {
      reads = so_far.reads;
      is = record { documents = before; last = g; gathers = so_far.gathers; all = all; is = is };
      asks = subst (λ (ds : List SystemDocument). Asks so_far.reads (document_files directory ds) old mid) (sym is.documents) so_far.asks;
    }

    pub ends_lacking : (place : elements.Place) (ended : LoadError) → IsNext g next.Nothing → g.lacking ≡ Some place → TellsNesting directory before place n.NoInnerConnector ended → EndsOutline what.System directory ended old mid
    ends_lacking place ended all lacks tells = EndsAtNesting before g place n.NoInnerConnector refl so_far (LacksConnector place n.NoInnerConnector all lacks refl) tells

-- ---- how many

-- a document comes where one may be added
pub can_add : (g : Gathered) (path : List ℕ) (s : Setting) → IsNext g (next.Document path s) → CanAdd g
can_add g path s h = (h.0, h.1, h.3.waits, h.4)

either_false : (a b : Bool) → (a || b) ≡ false → b ≡ false
either_false true b e = absurd (cc)
either_false false b e = e

-- and then fewer than 256 are read
pub below_most : (g : Gathered) (path : List ℕ) (s : Setting) → IsNext g (next.Document path s) → g.documents < 256
below_most g path s h =
    let none : nat_le 256 g.documents ≡ false = either_false (nat_lt 8 h.0.level) (nat_le 256 g.documents) h.4 in
    grind (arith, nat_tests)

pub one_more : (g h : Gathered) → h.documents ≡ suc g.documents → g.documents < 256 → 257 - h.documents < 257 - g.documents
one_more g h more less = omega (arith, more, less)
