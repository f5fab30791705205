-- Calls over the same files find the same system.
use Rattle.std.proofs.Common.{◌≡◌, inl, inr, ℕ, ◌≤◌, true, List, length, refl, sym, ap, ◌∙◌, subst}
use Rattle.std.specs.Prelude.{All, Contains, Err}
use Rattle.std.proofs.lemmas.List.{append_cancel_left}
use Rattle.std.proofs.lemmas.List.Elements.{All-contains, All-contains_itself, All-weaker}
use Rattle.sim_base.specs.Asking.{AreUnfailed, with_reads}
use Rattle.sim_base.specs.Folder.{FolderView}
use Rattle.sim_base.specs.declared.folder.ReadFault.TheVariants as f
use Rattle.sim_base.specs.declared.read_book.ReadNote.{ReadNote}
use Rattle.system_model.specs.declared.plan.Plan.{Plan}
use Rattle.system_model.specs.declared.system.Component.{Component}
use Rattle.system_model.specs.declared.system.Port.{Port}
use Rattle.system_model.specs.declared.system.System.{System}
use Rattle.system_model.specs.Text.{header_text}
use Rattle.trace_text.specs.Holding.{IsHoldable, held_header_max}
use Rattle.command_line.specs.Line as lines
use Rattle.system_loading.specs.Assembly.{HaveSameParts}
use Rattle.system_files.specs.declared.loaded.Loaded.{Loaded}
use Rattle.system_files.specs.Files.{AreSteady, Flaw}
use Rattle.system_files.specs.Holding.{ComesHeld, Holdable, LoadsHeld, Refused, Unheld}
use Rattle.system_files.specs.Loads.{FailsToRead}
use Rattle.system_files.specs.Order.{Agree, Comes, ComesAlone, Fails, Finding, Found, Search, Whole}
use Rattle.system_files.proofs.ComesLemmas.{more_comes}
use Rattle.system_files.proofs.MoreLemmas.{AreAmong}
use Rattle.run_program.specs.Facts.{search_for}
use Rattle.run_program.specs.Happened.{Happened}
use Rattle.run_program.specs.Rows as rows
use Rattle.run_program.specs.Rows.{Answers, ReadsFiles}
use Rattle.run_program.proofs.CallerLemmas.{system_rows}
use Rattle.checked_runs.specs.TwoParts.{IsRun, LosesNothing, Shared}
use Rattle.checked_runs.proofs.Checking.{none_failed}

-- ---- the same parts

turned : (one other : System) → HaveSameParts one other → HaveSameParts other one
turned one other same = (sym same.0, sym same.1)

-- what agrees with one thing agrees
agree_from : (one other : Finding) (loaded : Loaded) → Agree one (Found loaded) → Agree one other → Agree (Found loaded) other
agree_from (Fails path flaw) other loaded a b = absurd a
agree_from (Found made) (Fails path flaw) loaded a b = absurd b
agree_from (Found made) (Found third) loaded a b =
    ((sym a.0.0 ∙ b.0.0, sym a.0.1 ∙ b.0.1), sym a.1 ∙ b.1, sym a.2 ∙ b.2)

pub holdable_too : (one other : System) (plan : Plan) → HaveSameParts one other → IsHoldable one plan → IsHoldable other plan
holdable_too one other plan same can = record {
  serializes = subst (λ (cs : List Component). All (λ (c : Component). c.shape.can_serialize_state ≡ true) cs) same.0 can.serializes;
  header =
      subst (λ (ps : List Port). length (header_text (record one { components = other.components; ports = ps }) plan.resolution plan.start plan.stop) ≤ held_header_max) same.1
      (subst (λ (cs : List Component). length (header_text (record one { components = cs }) plan.resolution plan.start plan.stop) ≤ held_header_max) same.0 can.header);
}

-- ---- the reads of another call

-- none of these failed, where none of those did among which they are
pub unfailed_too : (some all : List ReadNote) → AreAmong some all → AreUnfailed all → AreUnfailed some
unfailed_too some all among unfailed =
    All-weaker (Contains some) (λ (read : ReadNote). read.answer ≡ Err f.Failed → ⊥)
    (λ read there. All-contains (λ (x : ReadNote). x.answer ≡ Err f.Failed → ⊥) all read unfailed (among read.path read.answer there)) some (All-contains_itself some)

-- and none was read with two answers
pub steady_too : (all : List ReadNote) → AreSteady all → (some : List ReadNote) → AreAmong some all → AreSteady some
steady_too all steady some among path one other a b = steady path one other (among path one a) (among path other b)

-- the same notes are told
pub same_reads : (old new : FolderView) (some other : List ReadNote) → new ≡ with_reads old some → new ≡ with_reads old other → some ≡ other
same_reads old new some other a b = append_cancel_left old.reads some other (ap (λ (v : FolderView). v.reads) (sym a ∙ b))

-- ---- what the files come to

module _ (s : Search) (reads : List ReadNote) (steady : AreSteady reads) (loaded : Loaded)
    (only : (others : List (List ℕ)) (other : Finding) → Comes s reads others other → Agree (Found loaded) other) where
  found_too : (some : List ReadNote) → AreAmong some reads → (asked : List (List ℕ)) (finding : Finding) → Comes s some asked finding → Agree (Found loaded) finding
  found_too some among asked finding comes = only asked finding (more_comes some reads among s asked finding comes)

  module _ (plan : Plan) (can : IsHoldable loaded.system plan) where
    -- no file isn't taken
    pub none_lacks : (path : List ℕ) (flaw : Flaw) (some : List ReadNote) (asked : List (List ℕ)) → AreAmong some reads → ComesHeld s plan some asked (Fails path flaw) →
        ((others : List (List ℕ)) (other : Loaded) → ComesHeld s plan some others (Found other) → ⊥) → ⊥
    none_lacks path flaw some asked among comes own = by asked (Fails path flaw) comes refl
      where
        by : (asked : List (List ℕ)) (finding : Finding) → ComesHeld s plan some asked finding → finding ≡ Fails path flaw → ⊥
        by asked finding (Refused path2 _ _ flaw2 comes is) e = found_too some among asked (Fails path2 flaw2) comes
        by asked finding (Unheld o other node _ _ w first is) e =
            let whole : Comes s some asked (Found other) = Whole o w.shapes w.given other asked (Found other) w.reaches w.binds w.makes w.folders w.asked_is refl in
            let same = found_too some among asked (Found other) whole in
            own asked other (Holdable other asked (Found other) whole (holdable_too loaded.system other.system plan same.0 can) refl)
        by asked finding (Holdable other _ _ comes can2 is) e = absurd (let same = sym e ∙ is in cc)

    pub none_held : (path : List ℕ) (flaw : Flaw) (old new : FolderView) (l : LoadsHeld s plan (Fails path flaw) old new) → AreAmong l.reads reads → ⊥
    none_held path flaw old new l among =
        none_lacks path flaw l.reads l.asked among l.comes (λ others other comes. (l.only (steady_too reads steady l.reads among) others (Found other) comes).1)

    -- and what is found is the same system
    pub found_held : (other : Loaded) (some : List ReadNote) (asked : List (List ℕ)) → AreAmong some reads → ComesHeld s plan some asked (Found other) → Agree (Found loaded) (Found other)
    found_held other some asked among comes = by asked (Found other) comes refl
      where
        by : (asked : List (List ℕ)) (finding : Finding) → ComesHeld s plan some asked finding → finding ≡ Found other → Agree (Found loaded) (Found other)
        by asked finding (Refused path _ _ flaw comes is) e = absurd (let same = sym e ∙ is in cc)
        by asked finding (Unheld o third node _ _ w first is) e = absurd (let same = sym e ∙ is in cc)
        by asked finding (Holdable third _ _ comes can2 is) e = subst (Agree (Found loaded)) (sym is ∙ e) (found_too some among asked (Found third) comes)

-- no read of the system's files failed
pub none_unread : (s : Search) (path : List ℕ) (old new : FolderView) (told : List ReadNote) → FailsToRead s path old new → new ≡ with_reads old told → AreUnfailed told → ⊥
none_unread s path old new told fails is unfailed = none_failed old fails.mid new fails.reads told path fails.asks.told fails.told is unfailed

-- ---- the run's own files

-- an answer of this status isn't there, where that status isn't and no put failed
pub unanswered : (h : Happened) (status : ℕ) (text : List ℕ) → LosesNothing h → (h.status ≡ status → ⊥) → Answers h status text → ⊥
unanswered h status text loses never (inl said) = never said.0
unanswered h status text loses never (inr mute) = loses.puts mute.0

-- the files of the run make its system, and no other
pub only_run : (h : Happened) (x : Shared) → IsRun h x → (others : List (List ℕ)) (other : Finding) → Comes (search_for (lines.Run x.asked)) x.reads others other → Agree (Found x.loaded) other
only_run h x run others other comes = by ((system_rows h (lines.Run x.asked) run.keeps run.line).reading.some (lines.Run x.asked) run.line)
  where
    by : ReadsFiles h (lines.Run x.asked) → Agree (Found x.loaded) other
    by (rows.Whole finding loads) =
        let same : loads.reads ≡ x.reads = same_reads h.old.folder h.new.folder loads.reads x.reads loads.asks.told run.alike.told in
        let alone : ComesAlone (search_for (lines.Run x.asked)) x.reads loads.asked finding = subst (λ (rs : List ReadNote). ComesAlone (search_for (lines.Run x.asked)) rs loads.asked finding) same loads.comes in
        agree_from finding other x.loaded (alone.only run.alike.steady run.paths (Found x.loaded) run.comes).1 (alone.only run.alike.steady others other comes).1
    by (rows.Failing path fails answers) = absurd (none_unread (search_for (lines.Run x.asked)) path h.old.folder h.new.folder x.reads fails run.alike.told run.alike.unfailed)
    by (rows.OutOfMemory few answers) = absurd (unanswered h 11 rows.memory_line run.loses run.memory answers)
