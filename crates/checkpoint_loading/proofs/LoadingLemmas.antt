-- What a run goes on from is one thing.
use Rattle.std.proofs.Common.{◌≡◌, ℕ, ◌^◌, List, [], refl, sym, subst, inl, inr}
use Rattle.std.specs.Prelude.{All, IfSome, IfOk, IfErr, Option, Some, None, Result, Ok, Err}
use Rattle.std.proofs.lemmas.List.{append-nil}
use Rattle.sim_base.specs.Asking.{Asks, IsAnswerOf}
use Rattle.sim_base.specs.Folder as folder
use Rattle.sim_base.specs.Folder.{FolderView, KeepsLimit, NotesRead, with_read}
use Rattle.sim_base.specs.declared.folder.ReadFault.{ReadFault}
use Rattle.sim_base.specs.declared.folder.ReadFault.TheVariants as r
use Rattle.sim_base.specs.declared.read_book.ReadNote.{ReadNote}
use Rattle.system_model.specs.declared.plan.Plan.{Plan}
use Rattle.system_model.specs.declared.system.Component.{Component}
use Rattle.system_model.specs.declared.system.Port.{Port}
use Rattle.system_model.specs.declared.system.System.{System}
use Rattle.system_loading.specs.Assembly.{HaveSameParts}
use Rattle.system_files.specs.declared.loaded.Loaded.{Loaded}
use Rattle.system_files.specs.declared.loading.LoadError.{LoadError}
use Rattle.system_files.specs.declared.loading.LoadError.TheVariants as load
use Rattle.system_files.specs.declared.named.NamedFile.{NamedFile}
use Rattle.system_files.specs.declared.named.FileFault.TheVariants.{Unread, Missing, TooBig, Broken}
use Rattle.system_files.specs.Files.{Absent, Faulty, Flaw, Long}
use Rattle.system_files.specs.Holding.{ComesHeld, EndsHeld, LoadsHeld, search_by}
use Rattle.system_files.proofs.AskLemmas.{none_here}
use Rattle.system_files.specs.Order.{Fails, Found}
use Rattle.system_files.specs.Order as order
use Rattle.system_checkpoint.specs.declared.snapshot.CheckpointFault.{CheckpointFault}
use Rattle.system_checkpoint.specs.declared.snapshot.CheckpointFault.TheVariants as F
use Rattle.system_checkpoint.specs.declared.snapshot.Snapshot.{Snapshot}
use Rattle.system_checkpoint.specs.First.{HasNone, HasPlan}
use Rattle.system_checkpoint.specs.Plans.{BeginsWithPlan, BreaksAtOne, HasOnePlan, LacksAtOne}
use Rattle.system_checkpoint.specs.Spelling.{KeepsOne}
use Rattle.trace_text.specs.Holding.{IsHoldable}
use Rattle.system_checkpoint.specs.Whole.{Answers, Checkpoint, IsBad}
use Rattle.checkpoint_loading.specs.declared.rest.HeldRun.{HeldRun}
use Rattle.checkpoint_loading.specs.declared.rest.RestEnd.{RestEnd}
use Rattle.checkpoint_loading.specs.declared.rest.RestEnd.TheVariants as end
use Rattle.checkpoint_loading.specs.Loading.{Agree, AllFiles, Comes, EndsRest, Finding, IsRead, Lacks, Loads, LongFile, NoCheckpoint, NoFile, NoPlan, NoRest, NoSystem, Nothing, OfCheckpoint, OfSystem, Question, Rests, SomeFiles, TakesBytes, Unkept, Whole, header_by}
use Rattle.checkpoint_loading.specs.Steps.{AfterSystem, EndsSystem, LacksBytes, NoRestThere, TakesRest, Unloaded, end_at, end_of, unread_end}

-- ---- the laws of checkpoints

pub record LawsOfCheckpoints : Type 0 where
  pub one : HasOnePlan
  pub begins : BeginsWithPlan
  pub lacks : LacksAtOne
  pub breaks : BreaksAtOne
  pub keeps : KeepsOne

-- ---- what a read got

same_read : (answer : Result (List ℕ) ReadFault) (a b : List ℕ) → answer ≡ Ok a → answer ≡ Ok b → a ≡ b
same_read answer a b x y = cc

none_read : (answer : Result (List ℕ) ReadFault) (b : List ℕ) → answer ≡ Err r.Missing → answer ≡ Ok b → ⊥
none_read answer b x y = cc

long_read : (answer : Result (List ℕ) ReadFault) (n : ℕ) (b : List ℕ) → answer ≡ Err (r.TooBig n) → answer ≡ Ok b → ⊥
long_read answer n b x y = cc

none_long : (answer : Result (List ℕ) ReadFault) (n : ℕ) → answer ≡ Err r.Missing → answer ≡ Err (r.TooBig n) → ⊥
none_long answer n x y = cc

-- ---- systems of the same parts

-- the system with other parts
abbrev with_parts : System → List Component → List Port → System
with_parts s components ports = record s { components = components; ports = ports }

turned : (one other : System) → HaveSameParts one other → HaveSameParts other one
turned one other same = (sym same.0, sym same.1)

module _ (plan : Plan) (bytes : List ℕ) where
  is_there : (one other : System) (held : Snapshot) → HaveSameParts one other → Checkpoint one (header_by one plan) held bytes → Checkpoint other (header_by other plan) held bytes
  is_there one other held same is =
      let first : Checkpoint (with_parts other one.components one.ports) (header_by (with_parts other one.components one.ports) plan) held bytes = is in
      subst (λ (ports : List Port). Checkpoint (with_parts other other.components ports) (header_by (with_parts other other.components ports) plan) held bytes) same.1
      (subst (λ (components : List Component). Checkpoint (with_parts other components one.ports) (header_by (with_parts other components one.ports) plan) held bytes) same.0 first)

  bad_there : (one other : System) (at : ℕ) → HaveSameParts one other → IsBad one (header_by one plan) bytes at → IsBad other (header_by other plan) bytes at
  bad_there one other at same is =
      let first : IsBad (with_parts other one.components one.ports) (header_by (with_parts other one.components one.ports) plan) bytes at = record { within = is.within; prefix = is.prefix; next = is.next; none = is.none } in
      let last : IsBad (with_parts other other.components other.ports) (header_by (with_parts other other.components other.ports) plan) bytes at =
      subst (λ (ports : List Port). IsBad (with_parts other other.components ports) (header_by (with_parts other other.components ports) plan) bytes at) same.1
      (subst (λ (components : List Component). IsBad (with_parts other components one.ports) (header_by (with_parts other components one.ports) plan) bytes at) same.0 first) in
      record { within = last.within; prefix = last.prefix; next = last.next; none = last.none }

-- ---- it comes to one thing

module _ (laws : LawsOfCheckpoints) (q : Question) (answer : Result (List ℕ) ReadFault) (rest : List ReadNote) where
  -- there is no file of the checkpoint
  pub no_file_only : answer ≡ Err r.Missing → (others : List (List ℕ)) (other : Finding) → Comes q answer rest others other → ([] ≡ others) × Agree (Lacks q.file Absent) other
  no_file_only none others other (NoFile _ _ is a f) = (sym a, subst (Agree (Lacks q.file Absent)) (sym f) (refl, tt))
  no_file_only none others other (LongFile n _ _ is long a f) = absurd (none_long answer n none is)
  no_file_only none others other (NoPlan bytes at _ _ read lacks a f) = absurd (none_read answer bytes none read.0)
  no_file_only none others other (NoSystem bytes plan path flaw _ _ read has c f) = absurd (none_read answer bytes none read.0)
  no_file_only none others other (NoRest bytes plan loaded at _ _ read has c bad f) = absurd (none_read answer bytes none read.0)
  no_file_only none others other (Whole bytes plan loaded held _ _ read has c is f) = absurd (none_read answer bytes none read.0)

  -- it is too long
  pub long_file_only : (n : ℕ) → answer ≡ Err (r.TooBig n) → (others : List (List ℕ)) (other : Finding) → Comes q answer rest others other → ([] ≡ others) × Agree (Lacks q.file Long) other
  long_file_only n long others other (NoFile _ _ is a f) = absurd (none_long answer n is long)
  long_file_only n long others other (LongFile m _ _ is far a f) = (sym a, subst (Agree (Lacks q.file Long)) (sym f) (refl, tt))
  long_file_only n long others other (NoPlan bytes at _ _ read lacks a f) = absurd (long_read answer n bytes long read.0)
  long_file_only n long others other (NoSystem bytes plan path flaw _ _ read has c f) = absurd (long_read answer n bytes long read.0)
  long_file_only n long others other (NoRest bytes plan loaded at _ _ read has c bad f) = absurd (long_read answer n bytes long read.0)
  long_file_only n long others other (Whole bytes plan loaded held _ _ read has c is f) = absurd (long_read answer n bytes long read.0)

  module _ (bytes : List ℕ) (read : IsRead answer bytes) where
    -- the bytes begin with no plan
    no_plan_there : (at : ℕ) (other : List ℕ) (plan : Plan) → HasNone bytes at → IsRead answer other → HasPlan other plan → ⊥
    no_plan_there at other plan lacks got has = lacks.none plan (subst (λ (xs : List ℕ). HasPlan xs plan) (same_read answer other bytes got.0 read.0) has)

    pub no_plan_only : (at : ℕ) → HasNone bytes at → (others : List (List ℕ)) (other : Finding) → Comes q answer rest others other → ([] ≡ others) × Agree (NoCheckpoint at) other
    no_plan_only at lacks others other (NoFile _ _ is a f) = absurd (none_read answer bytes is read.0)
    no_plan_only at lacks others other (LongFile n _ _ is long a f) = absurd (long_read answer n bytes is read.0)
    no_plan_only at lacks others other (NoPlan bytes2 at2 _ _ read2 lacks2 a f) =
        let there = subst (λ (xs : List ℕ). HasNone xs at2) (same_read answer bytes2 bytes read2.0 read.0) lacks2 in
        (sym a, subst (Agree (NoCheckpoint at)) (sym f) (laws.lacks bytes at at2 lacks there))
    no_plan_only at lacks others other (NoSystem bytes2 plan path flaw _ _ read2 has c f) = absurd (no_plan_there at bytes2 plan lacks read2 has)
    no_plan_only at lacks others other (NoRest bytes2 plan loaded at2 _ _ read2 has c bad f) = absurd (no_plan_there at bytes2 plan lacks read2 has)
    no_plan_only at lacks others other (Whole bytes2 plan loaded held _ _ read2 has c is f) = absurd (no_plan_there at bytes2 plan lacks read2 has)

    -- they begin with one, by which the files of the system come to something
    module _ (plan : Plan) (has : HasPlan bytes plan) (asked : List (List ℕ)) (found : order.Finding)
        (only : (others : List (List ℕ)) (other : order.Finding) → ComesHeld (search_by q.directory plan) plan rest others other → (asked ≡ others) × order.Agree found other) where
      same_found : (bytes2 : List ℕ) (plan2 : Plan) (others : List (List ℕ)) (other : order.Finding) → IsRead answer bytes2 → HasPlan bytes2 plan2 → ComesHeld (search_by q.directory plan2) plan2 rest others other →
          (bytes2 ≡ bytes) × (plan2 ≡ plan) × (asked ≡ others) × order.Agree found other
      same_found bytes2 plan2 others other read2 has2 comes =
          let b = same_read answer bytes2 bytes read2.0 read.0 in
          let p = laws.one bytes plan2 plan (subst (λ (xs : List ℕ). HasPlan xs plan2) b has2) has in
          let f = only others other (subst (λ (x : Plan). ComesHeld (search_by q.directory x) x rest others other) p comes) in
          (b, p, f.0, f.1)

      not_lacking : (at : ℕ) (bytes2 : List ℕ) → IsRead answer bytes2 → HasNone bytes2 at → ⊥
      not_lacking at bytes2 read2 lacks = lacks.none plan (subst (λ (xs : List ℕ). HasPlan xs plan) (same_read answer bytes bytes2 read.0 read2.0) has)

      -- a file of the system isn't taken
      pub no_system_only : (path : List ℕ) (flaw : Flaw) → found ≡ Fails path flaw → (others : List (List ℕ)) (other : Finding) → Comes q answer rest others other → (asked ≡ others) × Agree (Lacks path flaw) other
      no_system_only path flaw e others other (NoFile _ _ is a f) = absurd (none_read answer bytes is read.0)
      no_system_only path flaw e others other (LongFile n _ _ is long a f) = absurd (long_read answer n bytes is read.0)
      no_system_only path flaw e others other (NoPlan bytes2 at _ _ read2 lacks a f) = absurd (not_lacking at bytes2 read2 lacks)
      no_system_only path flaw e others other (NoSystem bytes2 plan2 path2 flaw2 _ _ read2 has2 c f) =
          let s = same_found bytes2 plan2 others (Fails path2 flaw2) read2 has2 c in
          (s.2, subst (Agree (Lacks path flaw)) (sym f) (subst (λ (x : order.Finding). order.Agree x (Fails path2 flaw2)) e s.3))
      no_system_only path flaw e others other (NoRest bytes2 plan2 loaded at _ _ read2 has2 c bad f) =
          let s = same_found bytes2 plan2 others (Found loaded) read2 has2 c in absurd (subst (λ (x : order.Finding). order.Agree x (Found loaded)) e s.3)
      no_system_only path flaw e others other (Whole bytes2 plan2 loaded held _ _ read2 has2 c is f) =
          let s = same_found bytes2 plan2 others (Found loaded) read2 has2 c in absurd (subst (λ (x : order.Finding). order.Agree x (Found loaded)) e s.3)

      -- what comes after the plan, by the other system, is so by this one
      module _ (loaded : Loaded) (e : found ≡ Found loaded) where
        same_system : (loaded2 : Loaded) → order.Agree found (Found loaded2) → order.Agree (Found loaded) (Found loaded2)
        same_system loaded2 agree = subst (λ (x : order.Finding). order.Agree x (Found loaded2)) e agree

        bad_here : (bytes2 : List ℕ) (plan2 : Plan) (loaded2 : Loaded) (at : ℕ) → bytes2 ≡ bytes → plan2 ≡ plan → HaveSameParts loaded.system loaded2.system → IsBad loaded2.system (header_by loaded2.system plan2) bytes2 at →
            IsBad loaded.system (header_by loaded.system plan) bytes at
        bad_here bytes2 plan2 loaded2 at b p same bad =
            bad_there plan bytes loaded2.system loaded.system at (turned loaded.system loaded2.system same)
            (subst (λ (xs : List ℕ). IsBad loaded2.system (header_by loaded2.system plan) xs at) b (subst (λ (x : Plan). IsBad loaded2.system (header_by loaded2.system x) bytes2 at) p bad))

        is_here : (bytes2 : List ℕ) (plan2 : Plan) (loaded2 : Loaded) (held : Snapshot) → bytes2 ≡ bytes → plan2 ≡ plan → HaveSameParts loaded.system loaded2.system → Checkpoint loaded2.system (header_by loaded2.system plan2) held bytes2 →
            Checkpoint loaded.system (header_by loaded.system plan) held bytes
        is_here bytes2 plan2 loaded2 held b p same is =
            is_there plan bytes loaded2.system loaded.system held (turned loaded.system loaded2.system same)
            (subst (λ (xs : List ℕ). Checkpoint loaded2.system (header_by loaded2.system plan) held xs) b (subst (λ (x : Plan). Checkpoint loaded2.system (header_by loaded2.system x) held bytes2) p is))

        -- they are no checkpoint of it
        pub no_rest_only : (at : ℕ) → IsBad loaded.system (header_by loaded.system plan) bytes at → (others : List (List ℕ)) (other : Finding) → Comes q answer rest others other → (asked ≡ others) × Agree (NoCheckpoint at) other
        no_rest_only at bad others other (NoFile _ _ is a f) = absurd (none_read answer bytes is read.0)
        no_rest_only at bad others other (LongFile n _ _ is long a f) = absurd (long_read answer n bytes is read.0)
        no_rest_only at bad others other (NoPlan bytes2 at2 _ _ read2 lacks a f) = absurd (not_lacking at2 bytes2 read2 lacks)
        no_rest_only at bad others other (NoSystem bytes2 plan2 path2 flaw2 _ _ read2 has2 c f) =
            let s = same_found bytes2 plan2 others (Fails path2 flaw2) read2 has2 c in absurd (subst (λ (x : order.Finding). order.Agree x (Fails path2 flaw2)) e s.3)
        no_rest_only at bad others other (NoRest bytes2 plan2 loaded2 at2 _ _ read2 has2 c bad2 f) =
            let s = same_found bytes2 plan2 others (Found loaded2) read2 has2 c in
            let same = same_system loaded2 s.3 in
            (s.2, subst (Agree (NoCheckpoint at)) (sym f) (laws.breaks loaded.system (header_by loaded.system plan) bytes at at2 bad (bad_here bytes2 plan2 loaded2 at2 s.0 s.1 same.0 bad2)))
        no_rest_only at bad others other (Whole bytes2 plan2 loaded2 held _ _ read2 has2 c is f) =
            let s = same_found bytes2 plan2 others (Found loaded2) read2 has2 c in
            let same = same_system loaded2 s.3 in
            absurd (bad.none held (is_here bytes2 plan2 loaded2 held s.0 s.1 same.0 is))

        -- they are one
        pub whole_only : (held : Snapshot) → Checkpoint loaded.system (header_by loaded.system plan) held bytes → (others : List (List ℕ)) (other : Finding) → Comes q answer rest others other → (asked ≡ others) × Agree (Rests loaded held) other
        whole_only held is others other (NoFile _ _ none a f) = absurd (none_read answer bytes none read.0)
        whole_only held is others other (LongFile n _ _ far long a f) = absurd (long_read answer n bytes far read.0)
        whole_only held is others other (NoPlan bytes2 at2 _ _ read2 lacks a f) = absurd (not_lacking at2 bytes2 read2 lacks)
        whole_only held is others other (NoSystem bytes2 plan2 path2 flaw2 _ _ read2 has2 c f) =
            let s = same_found bytes2 plan2 others (Fails path2 flaw2) read2 has2 c in absurd (subst (λ (x : order.Finding). order.Agree x (Fails path2 flaw2)) e s.3)
        whole_only held is others other (NoRest bytes2 plan2 loaded2 at2 _ _ read2 has2 c bad2 f) =
            let s = same_found bytes2 plan2 others (Found loaded2) read2 has2 c in
            let same = same_system loaded2 s.3 in
            absurd ((bad_here bytes2 plan2 loaded2 at2 s.0 s.1 same.0 bad2).none held is)
        whole_only held is others other (Whole bytes2 plan2 loaded2 held2 _ _ read2 has2 c is2 f) =
            let s = same_found bytes2 plan2 others (Found loaded2) read2 has2 c in
            let same = same_system loaded2 s.3 in
            let here = is_here bytes2 plan2 loaded2 held2 s.0 s.1 same.0 is2 in
            let one = laws.keeps loaded.system (header_by loaded.system plan) held held2 bytes [] is (subst (Checkpoint loaded.system (header_by loaded.system plan) held2) (sym (append-nil bytes)) here) in
            (s.2, subst (Agree (Rests loaded held)) (sym f) (same, one.0))

-- ---- the answers

no_more : (old : FolderView) → Asks [] [] old old
no_more old = none_here old old refl

module _ (laws : LawsOfCheckpoints) (q : Question) (old new : FolderView) where
  -- the bytes weren't got
  pub lacks_bytes : (ended : RestEnd) → LacksBytes q ended old new → EndsRest q ended old new
  lacks_bytes (end.File file Unread) h = OfCheckpoint h.0 (subst (λ (p : List ℕ). new ≡ with_read old p (Err r.Failed)) (sym h.0) h.1)
  lacks_bytes (end.File file Missing) h =
      subst (λ (p : List ℕ). Loads q (Lacks p Absent) old new) (sym h.0) (record {
        answer = Err r.Missing;
        mid = new;
        told = h.1.told;
        given = h.1.given;
        rest = [];
        asked = [];
        comes = NoFile _ _ refl refl refl;
        only = λ steady. no_file_only laws q (Err r.Missing) [] refl;
        asks = no_more new;
      })
  lacks_bytes (end.File file TooBig) h =
      subst (λ (p : List ℕ). Loads q (Lacks p Long) old new) (sym h.0) (record {
        answer = Err (r.TooBig h.1.0);
        mid = new;
        told = h.1.2.told;
        given = h.1.2.given;
        rest = [];
        asked = [];
        comes = LongFile h.1.0 _ _ refl h.1.1 refl refl;
        only = λ steady. long_file_only laws q (Err (r.TooBig h.1.0)) [] h.1.0 refl;
        asks = no_more new;
      })
  lacks_bytes (end.File file (Broken rule place ports)) h = absurd h.1
  lacks_bytes (end.NoCheckpoint file at) h = absurd h
  lacks_bytes end.Memory (inl told) = Unkept told
  lacks_bytes end.Memory (inr same) = Nothing same

  -- they begin with no plan
  pub lacks_plan : (bytes : List ℕ) (at : ℕ) → TakesBytes q bytes old new → HasNone bytes at → Loads q (NoCheckpoint at) old new
  lacks_plan bytes at takes lacks = record {
    answer = Ok bytes;
    mid = new;
    told = takes.told;
    given = takes.given;
    rest = [];
    asked = [];
    comes = NoPlan bytes at _ _ (refl, takes.short) lacks refl refl;
    only = λ steady. no_plan_only laws q (Ok bytes) [] bytes (refl, takes.short) at lacks;
    asks = no_more new;
  }

  pub bad_plan : (bytes : List ℕ) (file : NamedFile) (fault : CheckpointFault) → TakesBytes q bytes old new → file.path ≡ q.file → (at : ℕ) × (fault ≡ F.Bad at) × HasNone bytes at → EndsRest q (end_at file fault) old new
  bad_plan bytes file fault takes path_is h = subst (λ (f : CheckpointFault). EndsRest q (end_at file f) old new) (sym h.1) (path_is, lacks_plan bytes h.0 takes h.2)

  -- they begin with one
  module _ (bytes : List ℕ) (plan : Plan) (mid : FolderView) (takes : TakesBytes q bytes old mid) (has : HasPlan bytes plan) where
    refused : (path : List ℕ) (flaw : Flaw) → LoadsHeld (search_by q.directory plan) plan (Fails path flaw) mid new → Loads q (Lacks path flaw) old new
    refused path flaw l = record {
      answer = Ok bytes;
      mid = mid;
      told = takes.told;
      given = takes.given;
      rest = l.reads;
      asked = l.asked;
      comes = NoSystem bytes plan path flaw _ _ (refl, takes.short) has l.comes refl;
      only = λ steady. no_system_only laws q (Ok bytes) l.reads bytes (refl, takes.short) plan has l.asked (Fails path flaw) (l.only steady) path flaw refl;
      asks = l.asks;
    }

    unloaded : (ended : LoadError) → EndsHeld (search_by q.directory plan) plan ended mid new → EndsRest q (end_of ended) old new
    unloaded (load.File file Unread) h = OfSystem bytes plan mid takes has h
    unloaded (load.File file Missing) h = refused file.path Absent h
    unloaded (load.File file TooBig) h = refused file.path Long h
    unloaded (load.File file (Broken rule place ports)) h = refused file.path (Faulty rule place ports) h
    unloaded load.Memory h = SomeFiles bytes plan mid takes has h

    pub ends_system : (ended : RestEnd) → EndsSystem q.directory plan bytes q.file ended mid new → EndsRest q ended old new
    ends_system _ (Unloaded ended h is) = subst (λ (x : RestEnd). EndsRest q x old new) (sym is) (unloaded ended h)
    ends_system _ (NoRestThere loaded file at l bad path_is is) = subst (λ (x : RestEnd). EndsRest q x old new) (sym is) (
      path_is,
      record {
        answer = Ok bytes;
        mid = mid;
        told = takes.told;
        given = takes.given;
        rest = l.reads;
        asked = l.asked;
        comes = NoRest bytes plan loaded at _ _ (refl, takes.short) has l.comes bad refl;
        only = λ steady. no_rest_only laws q (Ok bytes) l.reads bytes (refl, takes.short) plan has l.asked (Found loaded) (l.only steady) loaded refl at bad;
        asks = l.asks;
      },
    )
    ends_system _ (AfterSystem loaded l is) = subst (λ (x : RestEnd). EndsRest q x old new) (sym is) (AllFiles bytes plan loaded mid takes has l)

    pub takes_rest : (run : HeldRun) → TakesRest q.directory plan bytes run mid new → Loads q (Rests run.loaded run.held) old new
    takes_rest run t = record {
      answer = Ok bytes;
      mid = mid;
      told = takes.told;
      given = takes.given;
      rest = t.loads.reads;
      asked = t.loads.asked;
      comes = Whole bytes plan run.loaded run.held _ _ (refl, takes.short) has t.loads.comes t.is refl;
      only = λ steady. whole_only laws q (Ok bytes) t.loads.reads bytes (refl, takes.short) plan has t.loads.asked (Found run.loaded) (t.loads.only steady) run.loaded refl run.held t.is;
      asks = t.loads.asks;
    }

-- ---- the read of the checkpoint

abbrev pub Answer : Type 0
Answer = Result (List ℕ) ReadFault

-- where a folder tells its files, this is the answer to the read
abbrev pub Answered : FolderView → List ℕ → Answer → Type 0
Answered view path answer = IfSome view.files (λ at. folder.Reads (at path) (2 ^ 29) answer)

answers_so : (at : Option (List ℕ)) (answer : Answer) → folder.Reads at (2 ^ 29) answer → IsAnswerOf at answer
answers_so at (Ok bytes) h = h.0
answers_so at (Err r.Missing) h = h
answers_so at (Err (r.TooBig n)) h = (h.0, h.1, h.2)
answers_so at (Err r.Failed) h = tt
answers_so at (Err r.Memory) h = tt

given_so : (files : Option (List ℕ → Option (List ℕ))) (path : List ℕ) (answer : Answer) → IfSome files (λ at. folder.Reads (at path) (2 ^ 29) answer) → IfSome files (λ at. IsAnswerOf (at path) answer)
given_so None path answer h = tt
given_so (Some at) path answer h = answers_so (at path) answer h

pub takes_bytes : (directory path : List ℕ) (bytes : List ℕ) (old new : FolderView) → Answered old path (Ok bytes) → KeepsLimit (2 ^ 29) (Ok bytes) → NotesRead old new path (Ok bytes) →
    TakesBytes (record { directory = directory; file = path }) bytes old new
takes_bytes directory path bytes old new answers within noted = record { told = noted; given = given_so old.files path (Ok bytes) answers; short = within }

pub lacks_read : (directory path : List ℕ) (file : NamedFile) (fault : ReadFault) (old new : FolderView) → file.path ≡ path → Answered old path (Err fault) → KeepsLimit (2 ^ 29) (Err fault) → NotesRead old new path (Err fault) →
    LacksBytes (record { directory = directory; file = path }) (unread_end file fault) old new
lacks_read directory path file r.Failed old new is answers within noted = (is, noted)
lacks_read directory path file r.Missing old new is answers within noted = (is, record { told = noted; given = given_so old.files path (Err r.Missing) answers })
lacks_read directory path file (r.TooBig n) old new is answers within noted = (is, (n, within, record { told = noted; given = given_so old.files path (Err (r.TooBig n)) answers }))
lacks_read directory path file r.Memory old new is answers within noted = noted

-- at the path that was asked for, whatever the directory
pub takes_there : (directory path named : List ℕ) (bytes : List ℕ) (old new : FolderView) → named ≡ path → ((directory : List ℕ) → TakesBytes (record { directory = directory; file = named }) bytes old new) →
    TakesBytes (record { directory = directory; file = path }) bytes old new
takes_there directory path named bytes old new is takes = subst (λ (p : List ℕ). TakesBytes (record { directory = directory; file = p }) bytes old new) is (takes directory)

pub lacks_there : (directory path named : List ℕ) (ended : RestEnd) (old new : FolderView) → named ≡ path → ((directory : List ℕ) → LacksBytes (record { directory = directory; file = named }) ended old new) →
    LacksBytes (record { directory = directory; file = path }) ended old new
lacks_there directory path named ended old new is lacks = subst (λ (p : List ℕ). LacksBytes (record { directory = directory; file = p }) ended old new) is (lacks directory)

-- the rest is no checkpoint of the system, or memory ran out
pub breaks_off : (directory : List ℕ) (plan : Plan) (bytes : List ℕ) (file : NamedFile) (loaded : Loaded) (fault : CheckpointFault) (ended : RestEnd) (old new : FolderView) →
    LoadsHeld (search_by directory plan) plan (Found loaded) old new → Answers loaded.system (header_by loaded.system plan) bytes (Err fault) → ended ≡ end_at file fault → EndsSystem directory plan bytes file.path ended old new
breaks_off directory plan bytes file loaded (F.Bad at) ended old new loads bad is = NoRestThere loaded file at loads bad refl is
breaks_off directory plan bytes file loaded F.Memory ended old new loads none is = AfterSystem loaded loads is

-- what the checkpoint keeps has the plan that it begins with
pub kept_plan : LawsOfCheckpoints → (bytes : List ℕ) (plan : Plan) (system : System) (header : List ℕ) (held : Snapshot) → HasPlan bytes plan → Checkpoint system header held bytes → plan ≡ held.plan
kept_plan laws bytes plan system header held has is = laws.one bytes plan held.plan has (laws.begins system header held bytes is)

-- ---- the function

pub if_ok_too : {A E : Type 0} (r : Result A E) (P Q : A → Type 0) → ((x : A) → P x → Q x) → IfOk r P → IfOk r Q
if_ok_too (Ok x) P Q f p = f x p
if_ok_too (Err e) P Q f p = tt

pub if_err_too : {A E : Type 0} (r : Result A E) (P Q : E → Type 0) → ((e : E) → P e → Q e) → IfErr r P → IfErr r Q
if_err_too (Ok x) P Q f p = tt
if_err_too (Err e) P Q f p = f e p

-- what was held by the plan that the checkpoint begins with
module _ (laws : LawsOfCheckpoints) (bytes : List ℕ) (plan : Plan) (system : System) (held : Snapshot) (has : HasPlan bytes plan) (is : Checkpoint system (header_by system plan) held bytes) where
  pub holdable_by : IsHoldable system plan → IsHoldable system held.plan
  holdable_by can = subst (IsHoldable system) (kept_plan laws bytes plan system (header_by system plan) held has is) can

  pub counts_by : All (λ (c : Component). c.shape.resolution ≡ plan.resolution) system.components → All (λ (c : Component). c.shape.resolution ≡ held.plan.resolution) system.components
  counts_by counts = subst (λ (p : Plan). All (λ (c : Component). c.shape.resolution ≡ p.resolution) system.components) (kept_plan laws bytes plan system (header_by system plan) held has is) counts
