-- Reads, one after another.
use Rattle.std.proofs.Common.{◌≡◌, ◌≤◌, ◌^◌, ℕ, List, [], ◌∷◌, ◌++◌, length, Option, Some, None, IfSome, refl, sym, ap, ap₂, ◌∙◌, subst, inl, inr, append_assoc, append-nil}
use Rattle.std.specs.Prelude.{Result, Ok, Err}
use Rattle.std.proofs.lemmas.List.{map-append}
use Rattle.std.proofs.lemmas.List.Elements.{All-append, All-cons, All-nil, Contains-push}
use Rattle.sim_base.specs.Asking.{AreOfFiles, Asks, IsAnswerOf, with_reads}
use Rattle.sim_base.specs.Folder.{FolderView, KeepsLimit, NotesRead, Reads}
use Rattle.sim_base.specs.ReadNotes.{read_of}
use Rattle.sim_base.specs.declared.folder.ReadFault.{ReadFault}
use Rattle.sim_base.specs.declared.folder.ReadFault.TheVariants as r
use Rattle.sim_base.specs.declared.read_book.ReadNote.{ReadNote}
use Rattle.doc_tree.specs.declared.place.Place.{Place}
use Rattle.doc_tree.specs.declared.rule.Rule.{Rule}
use Rattle.system_loading.specs.declared.fault.Fault.{Fault}
use Rattle.system_loading.specs.declared.fault.Fault.TheVariants as f
use Rattle.system_loading.specs.Faults.{TellsFirst}
use Rattle.system_loading.specs.Readings.{BreaksAlone}
use Rattle.system_files.specs.declared.named.NamedFile.{NamedFile}
use Rattle.system_files.specs.Files.{Holds}
use Rattle.system_files.specs.Steps.{EndsAt, TakesFile, fault_end, unread_end}

-- ---- none, or some and then others

of_none : (files : Option (List ℕ → Option (List ℕ))) → AreOfFiles files []
of_none None = tt
of_none (Some at) = All-nil (λ (read : ReadNote). IsAnswerOf (at read.path) read.answer)

of_both : (files : Option (List ℕ → Option (List ℕ))) (some more : List ReadNote) → AreOfFiles files some → AreOfFiles files more → AreOfFiles files (some ++ more)
of_both None some more a b = tt
of_both (Some at) some more a b = All-append (λ (read : ReadNote). IsAnswerOf (at read.path) read.answer) some more a b

pub none_asked : (v : FolderView) → Asks [] [] v v
none_asked v = record {
  told = ap (λ (reads : List ReadNote). record v { reads = reads }) (sym (append-nil v.reads));
  paths_are = refl;
  unfailed = All-nil (λ (read : ReadNote). read.answer ≡ Err r.Failed → ⊥);
  given = of_none v.files;
}

pub none_here : (old new : FolderView) → new ≡ old → Asks [] [] old new
none_here old new same = subst (Asks [] [] old) (sym same) (none_asked old)

-- some files were read, and then others
pub asked_then : (old mid new : FolderView) (some more : List ReadNote) (paths files : List (List ℕ)) → Asks some paths old mid → Asks more files mid new →
    Asks (some ++ more) (paths ++ files) old new
asked_then old mid new some more paths files m n = record {
  told = n.told ∙ ap (λ (v : FolderView). with_reads v more) m.told ∙ ap (λ (reads : List ReadNote). record old { reads = reads }) (append_assoc old.reads some more);
  paths_are = map-append (λ (read : ReadNote). read.path) some more ∙ ap₂ (λ (a b : List (List ℕ)). a ++ b) m.paths_are n.paths_are;
  unfailed = All-append (λ (read : ReadNote). read.answer ≡ Err r.Failed → ⊥) some more m.unfailed n.unfailed;
  given = of_both old.files some more m.given
      (subst (λ (files : Option (List ℕ → Option (List ℕ))). AreOfFiles files more) (ap (λ (v : FolderView). v.files) m.told) n.given);
}

-- ---- one read

-- the answer to a read
abbrev pub Answer : Type 0
Answer = Result (List ℕ) ReadFault

-- where a folder tells its files, this is the answer to a read of a path
abbrev pub Answers : FolderView → List ℕ → Answer → Type 0
Answers folder path answer = IfSome folder.files (λ at. Reads (at path) (2 ^ 24) answer)

abbrev one_read : List ℕ → Answer → List ReadNote
one_read path answer = read_of path answer ∷ []

answers_so : (at : Option (List ℕ)) (answer : Answer) → Reads at (2 ^ 24) answer → IsAnswerOf at answer
answers_so at (Ok bytes) h = h.0
answers_so at (Err r.Missing) h = h
answers_so at (Err (r.TooBig n)) h = (h.0, h.1, h.2)
answers_so at (Err r.Failed) h = tt
answers_so at (Err r.Memory) h = tt

of_one : (files : Option (List ℕ → Option (List ℕ))) (path : List ℕ) (answer : Answer) → IfSome files (λ at. Reads (at path) (2 ^ 24) answer) → AreOfFiles files (one_read path answer)
of_one None path answer told = tt
of_one (Some at) path answer told =
    All-cons (λ (read : ReadNote). IsAnswerOf (at read.path) read.answer) (read_of path answer) [] (answers_so (at path) answer told)
    (All-nil (λ (read : ReadNote). IsAnswerOf (at read.path) read.answer))

one_asked : (path : List ℕ) (answer : Answer) (old new : FolderView) → new ≡ with_reads old (one_read path answer) → (answer ≡ Err r.Failed → ⊥) → Answers old path answer →
    Asks (one_read path answer) (path ∷ []) old new
one_asked path answer old new told unfailed answers = record {
  told = told;
  paths_are = refl;
  unfailed = All-cons (λ (read : ReadNote). read.answer ≡ Err r.Failed → ⊥) (read_of path answer) [] unfailed
      (All-nil (λ (read : ReadNote). read.answer ≡ Err r.Failed → ⊥));
  given = of_one old.files path answer answers;
}

held : (path : List ℕ) (answer : Result (List ℕ) ReadFault) → Holds (read_of path answer ∷ []) path answer
held path answer = Contains-push [] (read_of path answer)

-- bytes that were read
module _ (path : List ℕ) (bytes : List ℕ) (read : List ℕ) (old new : FolderView) (same : read ≡ bytes) (short : length bytes ≤ 2 ^ 24)
    (answers : Answers old path (Ok bytes)) (noted : NotesRead old new path (Ok bytes)) where
  asks_bytes : Asks (one_read path (Ok bytes)) (path ∷ []) old new
  asks_bytes = one_asked path (Ok bytes) old new noted (λ e. cc) answers

  pub takes_file : {A : Type 0} (Says : List ℕ → A → Type 0) (said : A) → Says read said → TakesFile Says path said old new
  takes_file Says said says = record {
    reads = one_read path (Ok bytes);
    has = (Ok bytes, held path (Ok bytes), (bytes, refl, short, subst (λ (b : List ℕ). Says b said) same says));
    asks = asks_bytes;
  }

  pub ends_fault : {A : Type 0} (Says : List ℕ → A → Type 0) (Breaks : List ℕ → Rule → Place → Type 0) (file : NamedFile) (fault : Fault) → file.path ≡ path →
      TellsFirst (Says read) (Breaks read) fault → EndsAt (λ bytes rule place. BreaksAlone (Says bytes) (Breaks bytes) rule place) path (fault_end file fault) old new
  ends_fault Says Breaks file (f.Broken rule place) is first = (
    is,
    record {
      reads = one_read path (Ok bytes);
      lacks = (Ok bytes, held path (Ok bytes), (refl, (bytes, refl, short, subst (λ (b : List ℕ). BreaksAlone (Says b) (Breaks b) rule place) same first)));
      asks = asks_bytes;
    },
  )
  ends_fault Says Breaks file f.Memory is first = inl (one_read path (Ok bytes), asks_bytes)

-- a read that got no bytes
pub ends_unread : (Breaks : List ℕ → Rule → Place → Type 0) (path : List ℕ) (file : NamedFile) (fault : ReadFault) (old new : FolderView) → file.path ≡ path → Answers old path (Err fault) →
    KeepsLimit (2 ^ 24) (Err fault) → NotesRead old new path (Err fault) → EndsAt Breaks path (unread_end file fault) old new
ends_unread Breaks path file r.Failed old new is answers within noted = (is, noted)
ends_unread Breaks path file r.Missing old new is answers within noted = (
  is,
  record {
    reads = one_read path (Err r.Missing);
    lacks = (Err r.Missing, held path (Err r.Missing), refl);
    asks = one_asked path (Err r.Missing) old new noted (λ e. cc) answers;
  },
)
ends_unread Breaks path file (r.TooBig n) old new is answers within noted = (
  is,
  record {
    reads = one_read path (Err (r.TooBig n));
    lacks = (Err (r.TooBig n), held path (Err (r.TooBig n)), (n, refl, within));
    asks = one_asked path (Err (r.TooBig n)) old new noted (λ e. cc) answers;
  },
)
ends_unread Breaks path file r.Memory old new is answers within (inl noted) = inl (one_read path (Err r.Memory), one_asked path (Err r.Memory) old new noted (λ e. cc) answers)
ends_unread Breaks path file r.Memory old new is answers within (inr same) = inr same
