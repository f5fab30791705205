-- A run over slots as it stands at a place, and how it comes to its end.
use Rattle.std.specs.Prelude.{◌≡◌, ◌⊎◌, ◌≤◌, ℕ, List, length}
use Rattle.sim_base.specs.Sink.{SinkView, with_piece}
use Rattle.fmu_peer.specs.CloseAll.{Instance}
use Rattle.system_model.specs.declared.plan.EndKind.{EndKind}
use Rattle.system_model.specs.Text.{Instant, end_text}
use Rattle.trace_text.specs.Room.{IsCount}
use Rattle.slot_calls.specs.Log.{Sent, Told}
use Rattle.calling_sequence.specs.declared.experiment.Experiment.{Experiment}
use Rattle.calling_sequence.specs.declared.ending.Break.{Break}
use Rattle.calling_sequence.specs.declared.ending.Break.TheVariants as B
use Rattle.calling_sequence.specs.declared.ending.Ending.{Ending}
use Rattle.calling_sequence.specs.declared.run_end.RunEnd.{RunEnd}
use Rattle.calling_sequence.specs.declared.run_end.RunEnd.TheVariants as E
use Rattle.calling_sequence.specs.Course.{CourseIn, Extent, Place}
use Rattle.calling_sequence.specs.Ends.{FinishesIn, counted_in, kind_of_end, pieces_in}
use Rattle.calling_sequence.specs.Puts.{PutsPrefixOf, with_pieces}

-- how a run began: the sink before it, and how much of it is gone through
pub record Past : Type 0 where
  pub sink : SinkView
  pub extent : Extent

-- what was called and what was put on the way to a place
pub record Here (e : Experiment) (olds : List Instance) (past : Past) (p : Place)
    (news : List Instance) (after : SinkView) (count : ℕ) : Type 0 where
  pub log : List Sent
  pub is : List Instant
  pub told : Told log olds news
  pub course : CourseIn e.system e.bound e.plan past.extent p log is
  pub put : after ≡ with_pieces past.sink (pieces_in e.system e.plan past.extent is)
  pub counted : count ≡ counted_in past.extent is

-- and on the way to an end, but for its end line
pub record Follows (e : Experiment) (extent : Extent) (olds : List Instance) (before : SinkView)
    (ending : Ending) (news : List Instance) (after : SinkView) (count : ℕ) : Type 0 where
  pub log : List Sent
  pub is : List Instant
  pub told : Told log olds news
  pub finishes : FinishesIn e.system e.bound e.plan extent ending.end ending.point log is
  pub put : after ≡ with_pieces before (pieces_in e.system e.plan extent is)
  pub counted : count ≡ counted_in extent is

-- ---- the end line

-- each end line fits
abbrev pub HoldsEnds : ℕ → Type 0
HoldsEnds room = (kind : EndKind) (t : ℕ) → IsCount t → length (end_text kind t) ≤ room

-- the end line was put, or its put failed
abbrev pub PutsEnd : Ending → RunEnd → SinkView → SinkView → Type 0
PutsEnd ending end before after =
    ((end ≡ ending.end) × (after ≡
    with_piece before (end_text (kind_of_end ending.end) ending.point)))
    ⊎ ((end ≡ E.WriteFault) × PutsPrefixOf before
    (end_text (kind_of_end ending.end) ending.point) after)

-- and it isn't put after a put that failed
abbrev pub PutsEndAfter : Break → RunEnd → SinkView → SinkView → Type 0
PutsEndAfter (B.Ends ending) end before after = PutsEnd ending end before after
PutsEndAfter B.Write end before after = (end ≡ E.WriteFault) × (after ≡ before)
