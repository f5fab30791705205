-- What reads of paths got, and which files are asked for.
use Rattle.std.specs.Prelude.{◌≡◌, ℕ, ◌<◌, ◌≤◌, ◌^◌, not, List, [], ◌∷◌, ◌++◌, length, filter, Result, Ok, Err, Contains, codes, bytes_eq}
use Rattle.sim_base.specs.declared.folder.ReadFault.{ReadFault}
use Rattle.sim_base.specs.declared.folder.ReadFault.TheVariants as r
use Rattle.sim_base.specs.declared.numbers.PortId.{PortId}
use Rattle.sim_base.specs.declared.read_book.ReadNote.{ReadNote}
use Rattle.doc_tree.specs.declared.place.Place.{Place}
use Rattle.doc_tree.specs.declared.rule.Rule.{Rule}

-- ---- paths

-- where an FMU's description stands in its directory (FMI 3.0, 2.5.1: modelDescription.xml)
abbrev pub description_path : List ℕ → List ℕ
description_path directory = directory ++ codes "/modelDescription.xml"

-- each path at its first place alone
abbrev pub first_uses : List (List ℕ) → List (List ℕ)
first_uses [] = []
first_uses (path ∷ paths) = path ∷ filter (λ other. not (bytes_eq other path)) (first_uses paths)

-- ---- reads

-- one of these reads is of the path, and has this answer
abbrev pub Holds : List ReadNote → List ℕ → Result (List ℕ) ReadFault → Type 0
Holds reads path answer = Contains reads (record { path = path; answer = answer })

-- no path was read twice with two answers
abbrev pub AreSteady : List ReadNote → Type 0
AreSteady reads = (path : List ℕ) (one other : Result (List ℕ) ReadFault) → Holds reads path one →
    Holds reads path other → one ≡ other

-- the answer is that the file is longer than a file may be: 16 MiB
abbrev pub IsTooBig : Result (List ℕ) ReadFault → Type 0
IsTooBig answer = (n : ℕ) × (answer ≡ Err (r.TooBig n)) × (2 ^ 24 < n)

-- the answer is a file that is no longer, and its bytes are so
abbrev pub IsFile : (List ℕ → Type 0) → Result (List ℕ) ReadFault → Type 0
IsFile P answer = (bytes : List ℕ) × (answer ≡ Ok bytes) × (length bytes ≤ 2 ^ 24) × P bytes

-- why a file isn't taken: there is none, it is too long, or it breaks this rule first at this place; a loop has ports
pub data Flaw : Type 0 where
  Absent : Flaw
  Long : Flaw
  Faulty : Rule → Place → List PortId → Flaw

-- a file has the flaw, where bytes break rules so
abbrev pub HasFlaw : (List ℕ → Rule → Place → Type 0) → Flaw → Result (List ℕ) ReadFault → Type 0
HasFlaw Breaks Absent file = file ≡ Err r.Missing
HasFlaw Breaks Long file = IsTooBig file
HasFlaw Breaks (Faulty rule place ports) file =
    (ports ≡ []) × IsFile (λ bytes. Breaks bytes rule place) file

-- a read of the path got a file that says this
abbrev pub HasFile : {A : Type 0} → (List ℕ → A → Type 0) → List ReadNote → List ℕ → A → Type 0
HasFile Says reads path said =
    (file : Result (List ℕ) ReadFault) × Holds reads path file × IsFile (λ bytes. Says bytes said) file

-- a read of the path got this flaw: a file, or none
abbrev pub LacksFile : (List ℕ → Rule → Place → Type 0) → List ReadNote → List ℕ → Flaw → Type 0
LacksFile Breaks reads path flaw =
    (file : Result (List ℕ) ReadFault) × Holds reads path file × HasFlaw Breaks flaw file
