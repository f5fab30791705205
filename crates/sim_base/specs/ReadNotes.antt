-- What a folder notes of its reads.
use Rattle.std.specs.Prelude.{ℕ, List, [], ◌∷◌, ◌++◌, Result, Ok, Err, Vec}
use Rattle.std.specs.declared.alloc.Global.{Global}
use Rattle.sim_base.specs.Causes.{one_more}
use Rattle.sim_base.specs.declared.folder.ReadFault.{ReadFault}
use Rattle.sim_base.specs.declared.folder.ReadFault.TheVariants.{Failed, Missing, TooBig, Memory}
use Rattle.sim_base.specs.declared.read_book.ReadNote.{ReadNote}

-- the reads, the newest last; how often one has failed
pub record ReadNotes : Type 0 where
  pub reads : List ReadNote
  pub faults : ℕ

-- a read of a path with this answer
abbrev pub read_of : List ℕ → Result (List ℕ) ReadFault → ReadNote
read_of path answer = record { path = path; answer = answer }

-- the answer as it is noted: its bytes, or why there are none
abbrev pub told_answer : Result (Vec ℕ Global) ReadFault → Result (List ℕ) ReadFault
told_answer (Ok bytes) = Ok bytes.items
told_answer (Err fault) = Err fault

-- the count of failed reads after an answer
abbrev pub faults_after : ℕ → Result (List ℕ) ReadFault → ℕ
faults_after n (Ok bytes) = n
faults_after n (Err Failed) = one_more n
faults_after n (Err Missing) = n
faults_after n (Err (TooBig length)) = n
faults_after n (Err Memory) = n

-- one read more of a path, with this answer
abbrev pub noting : ReadNotes → List ℕ → Result (List ℕ) ReadFault → ReadNotes
noting notes path answer = record {
  reads = notes.reads ++ read_of path answer ∷ [];
  faults = faults_after notes.faults answer;
}

-- the answer of the newest read is another
abbrev pub with_last : List ReadNote → Result (List ℕ) ReadFault → List ReadNote
with_last [] answer = []
with_last (read ∷ []) answer = record read { answer = answer } ∷ []
with_last (read ∷ next ∷ reads) answer = read ∷ with_last (next ∷ reads) answer
