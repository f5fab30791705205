-- What stands at a path is found in one way.
use Rattle.std.proofs.Common.{◌≡◌, ℕ, List, subst}
use Rattle.std.specs.Prelude.{Result, Ok, Err}
use Rattle.sim_base.specs.declared.folder.ReadFault.{ReadFault}
use Rattle.sim_base.specs.declared.folder.ReadFault.TheVariants as r
use Rattle.sim_base.specs.declared.read_book.ReadNote.{ReadNote}
use Rattle.doc_tree.specs.declared.place.Place.{Place}
use Rattle.doc_tree.specs.declared.rule.Rule.{Rule}
use Rattle.system_loading.specs.Readings.{BreaksAlone, SaysAlone}
use Rattle.system_files.specs.Files.{Absent, AreSteady, Faulty, Flaw, HasFile, HasFlaw, IsFile, LacksFile, Long}
use Rattle.system_files.specs.Order.{AreAlike}

none_there : (file : Result (List ℕ) ReadFault) (bytes : List ℕ) → file ≡ Err r.Missing → file ≡ Ok bytes → ⊥
none_there file bytes none some = cc

same_bytes : (file : Result (List ℕ) ReadFault) (a b : List ℕ) → file ≡ Ok a → file ≡ Ok b → a ≡ b
same_bytes file a b x y = cc

long_short : (file : Result (List ℕ) ReadFault) (n : ℕ) (b : List ℕ) → file ≡ Err (r.TooBig n) → file ≡ Ok b → ⊥
long_short file n b x y = cc

none_long : (file : Result (List ℕ) ReadFault) (n : ℕ) → file ≡ Err r.Missing → file ≡ Err (r.TooBig n) → ⊥
none_long file n none some = cc

-- ---- what bytes say, or which rule they break

module _ {A : Type 0} (Says : List ℕ → A → Type 0) (Breaks : List ℕ → Rule → Place → Type 0) where
  both_say : (file : Result (List ℕ) ReadFault) (one other : A) → IsFile (λ bytes. SaysAlone (Says bytes) (Breaks bytes) one) file → IsFile (λ bytes. Says bytes other) file → one ≡ other
  both_say file one other a f = a.3.only other (subst (λ (c : List ℕ). Says c other) (same_bytes file f.0 a.0 f.1 a.1) f.3)

  said_flawed : (file : Result (List ℕ) ReadFault) (said : A) (flaw : Flaw) → IsFile (λ bytes. SaysAlone (Says bytes) (Breaks bytes) said) file → HasFlaw Breaks flaw file → ⊥
  said_flawed file said Absent a f = none_there file a.0 f a.1
  said_flawed file said Long a f = long_short file f.0 a.0 f.1 a.1
  said_flawed file said (Faulty rule place ports) a f = a.3.none rule place (subst (λ (c : List ℕ). Breaks c rule place) (same_bytes file f.1.0 a.0 f.1.1 a.1) f.1.3)

  flawed_said : (file : Result (List ℕ) ReadFault) (said : A) (flaw : Flaw) → HasFlaw (λ bytes rule place. BreaksAlone (Says bytes) (Breaks bytes) rule place) flaw file → IsFile (λ bytes. Says bytes said) file → ⊥
  flawed_said file said Absent a f = none_there file f.0 a f.1
  flawed_said file said Long a f = long_short file a.0 f.0 a.1 f.1
  flawed_said file said (Faulty rule place ports) a f = a.1.3.none said (subst (λ (c : List ℕ). Says c said) (same_bytes file f.0 a.1.0 f.1 a.1.1) f.3)

  both_flawed : (file : Result (List ℕ) ReadFault) (one other : Flaw) → HasFlaw (λ bytes rule place. BreaksAlone (Says bytes) (Breaks bytes) rule place) one file → HasFlaw Breaks other file → AreAlike one other
  both_flawed file Absent Absent a f = tt
  both_flawed file Absent Long a f = absurd (none_long file f.0 a f.1)
  both_flawed file Absent (Faulty rule place ports) a f = absurd (none_there file f.1.0 a f.1.1)
  both_flawed file Long Absent a f = absurd (none_long file a.0 f a.1)
  both_flawed file Long Long a f = tt
  both_flawed file Long (Faulty rule place ports) a f = absurd (long_short file a.0 f.1.0 a.1 f.1.1)
  both_flawed file (Faulty rule place ports) Absent a f = absurd (none_there file a.1.0 f a.1.1)
  both_flawed file (Faulty rule place ports) Long a f = absurd (long_short file f.0 a.1.0 f.1 a.1.1)
  both_flawed file (Faulty rule place ports) (Faulty other at loop) a f = a.1.3.only other at (subst (λ (c : List ℕ). Breaks c other at) (same_bytes file f.1.0 a.1.0 f.1.1 a.1.1) f.1.3)

  -- what is found alone is found
  pub is_said : (reads : List ReadNote) (path : List ℕ) (said : A) → HasFile (λ bytes a. SaysAlone (Says bytes) (Breaks bytes) a) reads path said → HasFile Says reads path said
  is_said reads path said h = (h.0, h.1, (h.2.0, h.2.1, h.2.2, h.2.3.is))

  flawed : (file : Result (List ℕ) ReadFault) (flaw : Flaw) → HasFlaw (λ bytes rule place. BreaksAlone (Says bytes) (Breaks bytes) rule place) flaw file → HasFlaw Breaks flaw file
  flawed file Absent a = a
  flawed file Long a = a
  flawed file (Faulty rule place ports) a = (a.0, (a.1.0, a.1.1, a.1.2, a.1.3.broken))

  pub is_flawed : (reads : List ReadNote) (path : List ℕ) (flaw : Flaw) → LacksFile (λ bytes rule place. BreaksAlone (Says bytes) (Breaks bytes) rule place) reads path flaw → LacksFile Breaks reads path flaw
  is_flawed reads path flaw h = (h.0, h.1, flawed h.0 flaw h.2)

  module _ (reads : List ReadNote) (steady : AreSteady reads) (path : List ℕ) where
    pub said_once : (one other : A) → HasFile (λ bytes a. SaysAlone (Says bytes) (Breaks bytes) a) reads path one → HasFile Says reads path other → one ≡ other
    said_once one other a f = both_say a.0 one other a.2 (subst (IsFile (λ bytes. Says bytes other)) (steady path f.0 a.0 f.1 a.1) f.2)

    pub said_unflawed : (said : A) (flaw : Flaw) → HasFile (λ bytes a. SaysAlone (Says bytes) (Breaks bytes) a) reads path said → LacksFile Breaks reads path flaw → ⊥
    said_unflawed said flaw a f = said_flawed a.0 said flaw a.2 (subst (HasFlaw Breaks flaw) (steady path f.0 a.0 f.1 a.1) f.2)

    pub flawed_unsaid : (said : A) (flaw : Flaw) → LacksFile (λ bytes rule place. BreaksAlone (Says bytes) (Breaks bytes) rule place) reads path flaw → HasFile Says reads path said → ⊥
    flawed_unsaid said flaw a f = flawed_said a.0 said flaw a.2 (subst (IsFile (λ bytes. Says bytes said)) (steady path f.0 a.0 f.1 a.1) f.2)

    pub flawed_once : (one other : Flaw) → LacksFile (λ bytes rule place. BreaksAlone (Says bytes) (Breaks bytes) rule place) reads path one → LacksFile Breaks reads path other → AreAlike one other
    flawed_once one other a f = both_flawed a.0 one other a.2 (subst (HasFlaw Breaks other) (steady path f.0 a.0 f.1 a.1) f.2)
