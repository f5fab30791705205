-- What is put of a run of told machines, by its end: their run so far, and their one trace (FMI 3.0, 2.1.5: super-dense time; 4.2.1: Co-Simulation).
use Rattle.std.specs.Prelude.{◌≡◌, ◌⊎◌, ℕ, ◌<◌, true, List, ◌∷◌, [], ◌++◌, length, map}
use Rattle.std.specs.Result.{is_err}
use Rattle.sim_base.specs.Sink.{SinkView}
use Rattle.fmu_peer.specs.declared.ended.Why.{Why}
use Rattle.fmu_peer.specs.Answer.{IsLink}
use Rattle.system_model.specs.declared.plan.EndKind.{EndKind}
use Rattle.system_model.specs.declared.plan.EndKind.TheVariants as K
use Rattle.system_model.specs.Text.{Instant, end_text}
use Rattle.run_model.specs.Run.{Run}
use Rattle.run_model.specs.Trace.{IsTrace}
use Rattle.slot_calls.specs.Log.{Sent}
use Rattle.calling_sequence.specs.declared.run_end.RunEnd.{RunEnd}
use Rattle.calling_sequence.specs.declared.run_end.RunEnd.TheVariants as E
use Rattle.calling_sequence.specs.Ends.{header_of, text_of}
use Rattle.calling_sequence.specs.Puts.{PutsPrefixOf, with_pieces}
use Rattle.machine_courses.specs.Prefixes.{IsPrefix, LacksStepAt, LosesAt}

-- what a sink was before and is after a run, and how many instants were counted
pub record Output : Type 0 where
  pub before : SinkView
  pub after : SinkView
  pub counted : ℕ

-- what of a run is put: the instants that it has after it before, and the pieces that are put before its own
pub record Stretch : Type 0 where
  pub after : List Instant
  pub head : List (List ℕ)

-- all of it, after the header; or what is left after these instants
abbrev pub whole_of : Run → Stretch
whole_of r = record { after = []; head = header_of r.system r.plan ∷ [] }

abbrev pub rest_after : List Instant → Stretch
rest_after prefix = record { after = prefix; head = [] }

-- the text of these instants, and of an end
abbrev pub pieces_up_to : Stretch → List Instant → List (List ℕ)
pieces_up_to part is = part.head ++ map text_of is

abbrev pub pieces_with_end : Stretch → List Instant → EndKind → ℕ → List (List ℕ)
pieces_with_end part is kind point = pieces_up_to part is ++ end_text kind point ∷ []

-- ---- whatever the machines answer

-- the text of these instants and an end, and no others
pub record PutsText (part : Stretch) (o : Output) (is : List Instant) (kind : EndKind)
    (point : ℕ) : Type 0 where
  pub counted : o.counted ≡ length is
  pub put : o.after ≡ with_pieces o.before (pieces_with_end part is kind point)

-- the trace
pub record PutsTraceIn (r : Run) (part : Stretch) (o : Output) (kind : EndKind)
    (point : ℕ) : Type 0 where
  pub is : List Instant
  pub trace : IsTrace r (part.after ++ is) kind point
  pub text : PutsText part o is kind point

-- the run so far, with the end of a run that is broken off
pub record PutsBrokenIn (r : Run) (part : Stretch) (o : Output) : Type 0 where
  pub is : List Instant
  pub point : ℕ
  pub prefix : IsPrefix r (part.after ++ is)
  pub text : PutsText part o is K.Fault point

-- a piece after the text of these instants: the next instant of the run, or an end line
abbrev pub IsNextPiece : Run → List Instant → List ℕ → Type 0
IsNextPiece r is piece =
    ((i : Instant) × IsPrefix r (is ++ i ∷ []) × (piece ≡ text_of i)) ⊎
    ((kind : EndKind) × (point : ℕ) × (piece ≡ end_text kind point))

-- the put of the first of these pieces failed
abbrev pub PutsPrefixOfFirst : List (List ℕ) → Output → Type 0
PutsPrefixOfFirst [] o = ⊥
PutsPrefixOfFirst (piece ∷ pieces) o = PutsPrefixOf o.before piece o.after

-- the header's put failed, or that of a piece after the text of the run so far
pub record PutsPrefixOfRunIn (r : Run) (part : Stretch) (o : Output) : Type 0 where
  pub is : List Instant
  pub prefix : IsPrefix r (part.after ++ is)
  pub counted : o.counted ≡ length is
  pub cut : PutsPrefixOfFirst part.head o
      ⊎ ((piece : List ℕ) × IsNextPiece r (part.after ++ is) piece ×
      PutsPrefixOf (with_pieces o.before (pieces_up_to part is)) piece o.after)

-- by the end: the trace, or the run so far
abbrev pub PutsRunIn : Run → Stretch → Output → RunEnd → Type 0
PutsRunIn r part o E.Stop = PutsTraceIn r part o K.Stop r.plan.stop
PutsRunIn r part o (E.Asked point) = PutsTraceIn r part o K.Asked point
PutsRunIn r part o (E.EventLimit point) = PutsTraceIn r part o K.Limit point
PutsRunIn r part o (E.FixedStep component at end) =
    PutsTraceIn r part o K.Fixed at × LacksStepAt r component.0 at end
PutsRunIn r part o (E.Range lost point) = PutsTraceIn r part o K.Range point × LosesAt r lost point
PutsRunIn r part o (E.Held point) = ⊥
PutsRunIn r part o (E.Bad bad) = PutsBrokenIn r part o
PutsRunIn r part o E.WriteFault = PutsPrefixOfRunIn r part o

-- of a whole run
abbrev pub PutsTrace : Run → Output → EndKind → ℕ → Type 0
PutsTrace r o kind point = PutsTraceIn r (whole_of r) o kind point

abbrev pub PutsRun : Run → Output → RunEnd → Type 0
PutsRun r o end = PutsRunIn r (whole_of r) o end

-- ---- machines that behave well

-- why a run of the first n components is broken off is that a call of this log had no reply
pub record IsLost (n : ℕ) (log : List Sent) (why : Why) : Type 0 where
  pub link : IsLink why
  pub prefix : List Sent
  pub last : Sent
  pub back : List Sent
  pub is : log ≡ prefix ++ last ∷ back
  pub within : last.component < n
  pub unanswered : is_err last.exchange.result ≡ true

-- the put of one piece of the trace failed, after those before it
pub record PutsPrefixOfTraceIn (r : Run) (part : Stretch) (o : Output) : Type 0 where
  pub is : List Instant
  pub kind : EndKind
  pub point : ℕ
  pub trace : IsTrace r (part.after ++ is) kind point
  pub pieces : List (List ℕ)
  pub piece : List ℕ
  pub rest : List (List ℕ)
  pub are : pieces_with_end part is kind point ≡ pieces ++ piece ∷ rest
  pub cut : PutsPrefixOf (with_pieces o.before pieces) piece o.after

-- nothing but a call that failed breaks their run off, or a put
abbrev pub TracesWellIn : Run → Stretch → List Sent → Output → RunEnd → Type 0
TracesWellIn r part log o (E.Bad bad) = IsLost (length r.system.components) log bad.why
TracesWellIn r part log o E.WriteFault =
    ((why : Why) × IsLost (length r.system.components) log why) ⊎ PutsPrefixOfTraceIn r part o
TracesWellIn r part log o end = PutsRunIn r part o end

-- of a whole run
abbrev pub PutsPrefixOfTrace : Run → Output → Type 0
PutsPrefixOfTrace r o = PutsPrefixOfTraceIn r (whole_of r) o

abbrev pub TracesWell : Run → List Sent → Output → RunEnd → Type 0
TracesWell r log o end = TracesWellIn r (whole_of r) log o end
