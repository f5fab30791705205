-- Calls that may be asked one after another have frames, and go into one batch.
use Rattle.std.proofs.Common.{◌≡◌, ℕ, ◌≤◌, List, [], ◌∷◌, length, true, false, Some, refl, sym, subst, ◌∙◌, arith, inl, inr}
use Rattle.std.specs.Prelude.{All}
use Rattle.std.proofs.lemmas.List.Elements.{All-cons, All-head, All-nil, All-tail}
use Rattle.value_types.specs.declared.shape.Shape.{Shape}
use Rattle.value_types.specs.declared.values.PortType.{PortType}
use Rattle.value_types.specs.declared.values.PortType.TheVariants as T
use Rattle.fmi_calls.specs.Kinds.{kind_of}
use Rattle.fmi_calls.specs.Next.{next_of}
use Rattle.fmi_calls.specs.Permission.{Permitted, is_value_type}
use Rattle.fmi_calls.specs.Worth.{grade_of}
use Rattle.fmi_calls.specs.declared.call.Call.{Call}
use Rattle.fmi_calls.specs.declared.call.Call.TheVariants as C
use Rattle.fmi_calls.specs.declared.call.Content.TheVariants as A
use Rattle.fmi_calls.specs.declared.call.Grade.TheVariants as G
use Rattle.fmi_calls.specs.declared.call.Kind.{Kind}
use Rattle.fmi_calls.specs.declared.call.Reply.{Reply}
use Rattle.fmi_calls.specs.declared.call.Reply.TheVariants as R
use Rattle.fmi_calls.specs.declared.phase.Phase.{Phase}
use Rattle.fmu_peer.specs.Many.{AreOfOneSort, MayAskAll}
use Rattle.fmu_peer.proofs.KeptStates.{sorts_of}
use Rattle.fmu_peer.proofs.SeveralLemmas.{AreSorts, ReadsOrSets, Sort, Reads, Writes, sort_of}
use Rattle.link_frames.specs.Batch.{CanBeBatched, kind_of_first}
use Rattle.link_frames.specs.Call.{CanBeSent}

-- ---- a good reply

-- 0 is a word of each type
zero_read : (shape : Shape) (kind : PortType) (reference : ℕ) → grade_of shape (C.Get kind reference) (R.Done false (A.Get 0)) ≡ G.Good
zero_read shape T.Int8 reference = refl
zero_read shape T.UInt8 reference = refl
zero_read shape T.Int16 reference = refl
zero_read shape T.UInt16 reference = refl
zero_read shape T.Int32 reference = refl
zero_read shape T.UInt32 reference = refl
zero_read shape T.Int64 reference = refl
zero_read shape T.UInt64 reference = refl
zero_read shape T.Boolean reference = refl
zero_read shape T.Enumeration reference = refl
zero_read shape T.Clock reference = refl

-- a call has a good reply
record HasGood (shape : Shape) (call : Call) : Type 0 where
  reply : Reply
  good : grade_of shape call reply ≡ G.Good

has_good : (shape : Shape) (call : Call) → Sort call → HasGood shape call
has_good shape call (Reads kind reference is) = subst (HasGood shape) (sym is) (record { reply = R.Done false (A.Get 0); good = zero_read shape kind reference })
has_good shape call (Writes kind reference value is) = subst (HasGood shape) (sym is) (record { reply = R.Done false A.Set; good = refl })

-- ---- frames

no_clock : (kind : PortType) → is_value_type kind ≡ true → kind ≡ T.Clock → ⊥
no_clock T.Clock value e = absurd (cc)
no_clock kind value e = cc

can_go : (shape : Shape) (phase : Phase) (call : Call) → Sort call → Permitted shape phase call → CanBeSent call 0 0
can_go shape phase call (Reads kind reference is) may =
    let at : Permitted shape phase (C.Get kind reference) = subst (Permitted shape phase) is may in
    subst (λ (c : Call). CanBeSent c 0 0) (sym is) (no_clock kind at.1.0)
can_go shape phase call (Writes kind reference value is) may =
    let at : Permitted shape phase (C.Set kind reference value) = subst (Permitted shape phase) is may in
    subst (λ (c : Call). CanBeSent c 0 0) (sym is) (no_clock kind at.1.0, at.2)

all_go : (shape : Shape) (phase : Phase) (calls : List Call) → AreSorts calls → MayAskAll shape phase calls → All (λ (call : Call). CanBeSent call 0 0) calls
all_go shape phase [] sorts may = All-nil (λ (call : Call). CanBeSent call 0 0)
all_go shape phase (c ∷ cs) sorts may =
    let sort = sort_of c (All-head ReadsOrSets c cs sorts) in
    let has = has_good shape c sort in
    All-cons (λ (call : Call). CanBeSent call 0 0) c cs (can_go shape phase c sort may.0)
    (all_go shape (next_of shape phase c (Some has.reply)) cs (All-tail ReadsOrSets c cs sorts) (may.1 has.reply has.good))

first_kind : (calls : List Call) (one : Kind) → 1 ≤ length calls → All (λ (call : Call). kind_of call ≡ one) calls → kind_of_first calls ≡ one
first_kind [] one some each = absurd (omega (arith, some))
first_kind (c ∷ cs) one some each = All-head (λ (call : Call). kind_of call ≡ one) c cs each

pub can_be_batched : (shape : Shape) (phase : Phase) (calls : List Call) → AreOfOneSort calls → MayAskAll shape phase calls → CanBeBatched calls
can_be_batched shape phase calls sort may =
    let first : kind_of_first calls ≡ sort.one = first_kind calls sort.one sort.some sort.each in
    record {
      some = sort.some;
      few = sort.few;
      one_kind = λ k d lt. sort.each k d lt ∙ sym first;
      reads_or_sets = elim sort.reads_or_sets [ inl e ↦ inl (first ∙ e) | inr e ↦ inr (first ∙ e) ];
      can_be_sent = all_go shape phase calls (sorts_of calls sort) may;
    }
