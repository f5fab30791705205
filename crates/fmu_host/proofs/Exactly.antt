-- Where a status has to come.
use Rattle.std.proofs.Common.{◌≡◌, ◌⊎◌, inl, inr, ℕ, ◌<◌, ◌≤◌, ◌^◌, ◌∷◌, [], List, Option, Some, None, refl, sym, ap, ap₂, ◌∙◌, subst, arith, decimal}
use Rattle.std.specs.Prelude.{Result, Ok, Err}
use Rattle.std.proofs.lemmas.Fmt.{decimal_injective}
use Rattle.std.proofs.lemmas.List.{append_cancel_left}
use Rattle.sim_base.specs.Folder.{FolderView}
use Rattle.sim_base.specs.ReadNotes.{read_of}
use Rattle.sim_base.specs.declared.folder.ReadFault.{ReadFault}
use Rattle.sim_base.specs.declared.folder.ReadFault.TheVariants as r
use Rattle.sim_base.specs.declared.read_book.ReadNote.{ReadNote}
use Rattle.value_types.specs.declared.shape.Shape.{Shape}
use Rattle.doc_tree.specs.declared.place.Place.{Place}
use Rattle.doc_tree.specs.declared.rule.Rule.{Rule}
use Rattle.system_loading.specs.Readings.{BreaksAlone, BreaksModel, IsModel, SaysAlone}
use Rattle.bench_fmus.specs.declared.model.Model.{Model}
use Rattle.bench_fmus.specs.Models.{model_named}
use Rattle.host_serving.specs.declared.serving.ServeEnd.{ServeEnd}
use Rattle.fmu_host.specs.declared.hosting.HostEnd.{HostEnd}
use Rattle.fmu_host.specs.declared.hosting.HostEnd.TheVariants as H
use Rattle.fmu_host.specs.Description.{IsRead, LacksShape, Reads, path_of}
use Rattle.fmu_host.specs.Facts.{ServesShape, ShapeFacts, Unbegun, WithoutLine, WithoutShape, WithShape}
use Rattle.fmu_host.specs.Happened.{Happened}
use Rattle.fmu_host.specs.Line.{IsLine, IsNoLine, Line}
use Rattle.fmu_host.specs.Rows.{OrMemory, Tells, TellsShape, serve_status}
use Rattle.fmu_host.specs.Status.{status_of}
use Rattle.fmu_host.proofs.When.{HasFacts}

-- ---- the arguments are one command line

tails : (words : List (List ℕ)) (d e r s : List ℕ) → words ≡ d ∷ r ∷ [] → words ≡ e ∷ s ∷ [] → r ≡ s
tails words d e r s a b = cc

heads : (words : List (List ℕ)) (d e r s : List ℕ) → words ≡ d ∷ r ∷ [] → words ≡ e ∷ s ∷ [] → d ≡ e
heads words d e r s a b = cc

small : (n : ℕ) → n ≤ 2 ^ 62 → n < 2 ^ 64
small n le = omega arith

pub same_line : (words : List (List ℕ)) (a b : Line) → IsLine words a → IsLine words b → a ≡ b
same_line words a b one other =
    let digits = tails words a.directory b.directory (decimal a.resolution) (decimal b.resolution) one.spelled other.spelled in
    ap₂ (λ d r. record { directory = d; resolution = r })
    (heads words a.directory b.directory (decimal a.resolution) (decimal b.resolution) one.spelled other.spelled)
    (decimal_injective a.resolution b.resolution (small a.resolution one.most) (small b.resolution other.most) digits)

-- ---- what the read got

-- what is done with it
data Finds (e : HostEnd) (h : Happened) (line : Line) (answer : Result (List ℕ) ReadFault) : Type 0 where
  OutOfMemory : e ≡ H.Memory → Finds e h line answer
  Unread : e ≡ H.Unread → answer ≡ Err r.Failed → Finds e h line answer
  Absent : e ≡ H.Missing → answer ≡ Err r.Missing → Finds e h line answer
  Long : (n : ℕ) → e ≡ H.TooBig → answer ≡ Err (r.TooBig n) → Finds e h line answer
  Faulty : (bytes : List ℕ) (rule : Rule) (place : Place) → e ≡ H.Broken → answer ≡ Ok bytes →
      BreaksAlone (IsModel line.resolution bytes) (BreaksModel line.resolution bytes) rule place → Finds e h line answer
  Said : (bytes : List ℕ) (shape : Shape) → answer ≡ Ok bytes →
      SaysAlone (IsModel line.resolution bytes) (BreaksModel line.resolution bytes) shape → ShapeFacts e shape h.old.link h.new.link → Finds e h line answer

-- the answer of the first of some reads
abbrev first_answer : Result (List ℕ) ReadFault → List ReadNote → Result (List ℕ) ReadFault
first_answer none [] = none
first_answer none (read ∷ reads) = read.answer

last_same : (path : List ℕ) (one other : Result (List ℕ) ReadFault) → read_of path one ∷ [] ≡ read_of path other ∷ [] → one ≡ other
last_same path one other e = ap (first_answer one) e

stands : (h : Happened) (line : Line) (answer one : Result (List ℕ) ReadFault) → Tells h line answer → Reads line one h.old.folder h.new.folder → answer ≡ one
stands h line answer one t reads =
    last_same (path_of line) answer one (append_cancel_left h.old.folder.reads (read_of (path_of line) answer ∷ []) (read_of (path_of line) one ∷ [])
    (ap (λ (v : FolderView). v.reads) (sym t.told ∙ reads.told)))

without_shape : (e : HostEnd) (h : Happened) (line : Line) (answer : Result (List ℕ) ReadFault) → Tells h line answer → LacksShape e line h.old.folder h.new.folder → Finds e h line answer
without_shape H.NoWords h line answer t f = absurd f
without_shape H.Unread h line answer t f = Unread refl (stands h line answer (Err r.Failed) t f)
without_shape H.Missing h line answer t f = Absent refl (stands h line answer (Err r.Missing) t f)
without_shape H.TooBig h line answer t f = Long f.0 refl (stands h line answer (Err (r.TooBig f.0)) t f.2)
without_shape H.Broken h line answer t f = Faulty f.bytes f.rule f.place refl (stands h line answer (Ok f.bytes) t f.got.reads) f.breaks
without_shape H.Unknown h line answer t f = absurd f
without_shape (H.Served end) h line answer t f = absurd f
without_shape H.Memory h line answer t f = OutOfMemory refl

finds : (e : HostEnd) (h : Happened) (line : Line) (answer : Result (List ℕ) ReadFault) → HasFacts e h → Tells h line answer → Finds e h line answer
finds e h line answer (Unbegun is same) t = OutOfMemory is
finds e h line answer (WithoutLine is none same) t = absurd (none line t.is)
finds e h line answer (WithoutShape other is f same) t =
    without_shape e h line answer t (subst (λ l. LacksShape e l h.old.folder h.new.folder) (same_line h.words other line is t.is) f)
finds e h line answer (WithShape other shape is read f) t =
    let here : IsRead line shape h.old.folder h.new.folder = subst (λ l. IsRead l shape h.old.folder h.new.folder) (same_line h.words other line is t.is) read in
    Said here.bytes shape (stands h line answer (Ok here.bytes) t here.got.reads) here.says f

-- ---- the statuses

abbrev got_bytes : List ℕ → Result (List ℕ) ReadFault
got_bytes bytes = Ok bytes

same_Ok : (bytes other : List ℕ) → got_bytes bytes ≡ got_bytes other → bytes ≡ other
same_Ok bytes other e = cc

module _ (e : HostEnd) (h : Happened) (f : HasFacts e h) (status : h.status ≡ status_of e) where
  has : (other : HostEnd) → e ≡ other → h.status ≡ status_of other
  has other is = status ∙ ap status_of is

  pub words_exact : IsNoLine h.words → OrMemory h 2
  words_exact none = by_facts f
    where
      by_facts : HasFacts e h → OrMemory h 2
      by_facts (Unbegun is same) = inr (has H.Memory is)
      by_facts (WithoutLine is lacks same) = inl (has H.NoWords is)
      by_facts (WithoutShape line is lacks same) = absurd (none line is)
      by_facts (WithShape line shape is read facts) = absurd (none line is)

  pub failed_exact : (line : Line) → Tells h line (Err r.Failed) → OrMemory h 3
  failed_exact line t = by_finds (finds e h line (Err r.Failed) f t)
    where
      by_finds : Finds e h line (Err r.Failed) → OrMemory h 3
      by_finds (OutOfMemory is) = inr (has H.Memory is)
      by_finds (Unread is got) = inl (has H.Unread is)
      by_finds (Absent is got) = inl (has H.Missing is)
      by_finds (Long n is got) = inl (has H.TooBig is)
      by_finds (Faulty bytes rule place is got breaks) = absurd (cc)
      by_finds (Said bytes shape got says facts) = absurd (cc)

  pub missing_exact : (line : Line) → Tells h line (Err r.Missing) → OrMemory h 3
  missing_exact line t = by_finds (finds e h line (Err r.Missing) f t)
    where
      by_finds : Finds e h line (Err r.Missing) → OrMemory h 3
      by_finds (OutOfMemory is) = inr (has H.Memory is)
      by_finds (Unread is got) = inl (has H.Unread is)
      by_finds (Absent is got) = inl (has H.Missing is)
      by_finds (Long n is got) = inl (has H.TooBig is)
      by_finds (Faulty bytes rule place is got breaks) = absurd (cc)
      by_finds (Said bytes shape got says facts) = absurd (cc)

  pub big_exact : (line : Line) (n : ℕ) → Tells h line (Err (r.TooBig n)) → OrMemory h 3
  big_exact line n t = by_finds (finds e h line (Err (r.TooBig n)) f t)
    where
      by_finds : Finds e h line (Err (r.TooBig n)) → OrMemory h 3
      by_finds (OutOfMemory is) = inr (has H.Memory is)
      by_finds (Unread is got) = inl (has H.Unread is)
      by_finds (Absent is got) = inl (has H.Missing is)
      by_finds (Long m is got) = inl (has H.TooBig is)
      by_finds (Faulty bytes rule place is got breaks) = absurd (cc)
      by_finds (Said bytes shape got says facts) = absurd (cc)

  pub rule_exact : (line : Line) (bytes : List ℕ) (rule : Rule) (place : Place) → Tells h line (Ok bytes) →
      BreaksModel line.resolution bytes rule place → OrMemory h 4
  rule_exact line bytes rule place t broken = by_finds (finds e h line (Ok bytes) f t)
    where
      by_finds : Finds e h line (Ok bytes) → OrMemory h 4
      by_finds (OutOfMemory is) = inr (has H.Memory is)
      by_finds (Unread is got) = absurd (cc)
      by_finds (Absent is got) = absurd (cc)
      by_finds (Long n is got) = absurd (cc)
      by_finds (Faulty other first at is got breaks) = inl (has H.Broken is)
      by_finds (Said other shape got says facts) =
          absurd (says.none rule place (subst (λ (b : List ℕ). BreaksModel line.resolution b rule place) (same_Ok bytes other got) broken))

  -- what is done with the shape that the folder tells
  shaped : (line : Line) (shape : Shape) → TellsShape h line shape → (e ≡ H.Memory) ⊎ ShapeFacts e shape h.old.link h.new.link
  shaped line shape t = by_finds (finds e h line (Ok t.bytes) f t.tells)
    where
      by_finds : Finds e h line (Ok t.bytes) → (e ≡ H.Memory) ⊎ ShapeFacts e shape h.old.link h.new.link
      by_finds (OutOfMemory is) = inl is
      by_finds (Unread is got) = absurd (cc)
      by_finds (Absent is got) = absurd (cc)
      by_finds (Long n is got) = absurd (cc)
      by_finds (Faulty other rule place is got breaks) =
          absurd (breaks.none shape (subst (λ (b : List ℕ). IsModel line.resolution b shape) (same_Ok t.bytes other got) t.is))
      by_finds (Said other made got says facts) =
          inr (subst (λ (s : Shape). ShapeFacts e s h.old.link h.new.link)
          (says.only shape (subst (λ (b : List ℕ). IsModel line.resolution b shape) (same_Ok t.bytes other got) t.is)) facts)

none_model : (named : Option Model) (model : Model) → named ≡ None → named ≡ Some model → ⊥
none_model named model a b = cc

unknown_is : (e : HostEnd) (h : Happened) (shape : Shape) → h.status ≡ status_of e → model_named shape.identifier ≡ None → ShapeFacts e shape h.old.link h.new.link → OrMemory h 5
unknown_is H.NoWords h shape status none f = absurd f
unknown_is H.Unread h shape status none f = absurd f
unknown_is H.Missing h shape status none f = absurd f
unknown_is H.TooBig h shape status none f = absurd f
unknown_is H.Broken h shape status none f = absurd f
unknown_is H.Unknown h shape status none f = inl status
unknown_is (H.Served end) h shape status none f = absurd (none_model (model_named shape.identifier) f.model none f.named)
unknown_is H.Memory h shape status none f = inr status

abbrev pub IsServed : Happened → Shape → Type 0
IsServed h shape = (h.status ≡ 11) ⊎ ((end : ServeEnd) × (h.status ≡ serve_status end) × ServesShape end shape h.old.link h.new.link)

served_is : (e : HostEnd) (h : Happened) (shape : Shape) (model : Model) → h.status ≡ status_of e → model_named shape.identifier ≡ Some model →
    ShapeFacts e shape h.old.link h.new.link → IsServed h shape
served_is H.NoWords h shape model status named f = absurd f
served_is H.Unread h shape model status named f = absurd f
served_is H.Missing h shape model status named f = absurd f
served_is H.TooBig h shape model status named f = absurd f
served_is H.Broken h shape model status named f = absurd f
served_is H.Unknown h shape model status named f = absurd (none_model (model_named shape.identifier) model f.0 named)
served_is (H.Served end) h shape model status named f = inr (end, status, f)
served_is H.Memory h shape model status named f = inl status

pub unknown_exact : (e : HostEnd) (h : Happened) → HasFacts e h → h.status ≡ status_of e → (line : Line) (shape : Shape) → TellsShape h line shape →
    model_named shape.identifier ≡ None → OrMemory h 5
unknown_exact e h f status line shape t none = by_shape (shaped e h f status line shape t)
  where
    by_shape : (e ≡ H.Memory) ⊎ ShapeFacts e shape h.old.link h.new.link → OrMemory h 5
    by_shape (inl is) = inr (status ∙ ap status_of is)
    by_shape (inr facts) = unknown_is e h shape status none facts

pub served_exact : (e : HostEnd) (h : Happened) → HasFacts e h → h.status ≡ status_of e → (line : Line) (shape : Shape) (model : Model) → TellsShape h line shape →
    model_named shape.identifier ≡ Some model → IsServed h shape
served_exact e h f status line shape model t named = by_shape (shaped e h f status line shape t)
  where
    by_shape : (e ≡ H.Memory) ⊎ ShapeFacts e shape h.old.link h.new.link → IsServed h shape
    by_shape (inl is) = inl (status ∙ ap status_of is)
    by_shape (inr facts) = served_is e h shape model status named facts
