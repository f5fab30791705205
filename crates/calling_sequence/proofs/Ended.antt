-- How a run that is held ends, and one that is resumed.
use Rattle.std.proofs.Common.{◌≡◌, ℕ, ◌≤◌, ◌<◌, ◌++◌, List, [], false, true, inr, refl, sym, subst}
use Rattle.sim_base.specs.Sink.{SinkView}
use Rattle.fmu_peer.specs.CloseAll.{Instance}
use Rattle.system_model.specs.Text.{Instant, end_text}
use Rattle.system_checkpoint.specs.Spelling.{spelling}
use Rattle.slot_calls.specs.declared.bad_answer.BadAnswer.{BadAnswer}
use Rattle.slot_calls.specs.Log.{Sent}
use Rattle.slot_calls.proofs.CallerLemmas.{told_none, told_on}
use Rattle.calling_sequence.specs.declared.buffers.Buffers.{Buffers}
use Rattle.calling_sequence.specs.declared.ending.Break.{Break}
use Rattle.calling_sequence.specs.declared.ending.Break.TheVariants as B
use Rattle.calling_sequence.specs.declared.experiment.Experiment.{Experiment}
use Rattle.calling_sequence.specs.declared.run_end.RunEnd.{RunEnd}
use Rattle.calling_sequence.specs.declared.run_end.RunEnd.TheVariants as E
use Rattle.calling_sequence.specs.Course.{AtFirst, FromHeld, InstantDone, Made, Restored, Spot, UpToHeld}
use Rattle.calling_sequence.specs.Ends.{AwaitsIn, EndLine, PutFailsIn, Shown, header_of, kind_of_end}
use Rattle.calling_sequence.specs.StageOutcomes.{BreaksOff, spot}
use Rattle.calling_sequence.specs.Here.{Here, Past, PutsEndAfter}
use Rattle.calling_sequence.specs.Holding.{BadlyHeld, ComesToHold, Early, HoldsSlots, HoldsWith, KeepsBadly, KeepsWell, PutsPiece, WellHeld, kept_at}
use Rattle.calling_sequence.specs.Puts.{PutsPrefixOf, with_pieces}

-- where a run begins that is held, and where one goes on
pub at_start : (e : Experiment) (at : ℕ) (olds : List Instance) (sink : SinkView) (count : ℕ) → count ≡ 0 → Here e olds (record { sink = sink; extent = UpToHeld at }) Made olds sink count
at_start e at olds sink count none = record { log = []; is = []; told = told_none olds; course = AtFirst; put = refl; counted = none }

pub at_hold : (e : Experiment) (s : Spot) (olds : List Instance) (sink : SinkView) (count : ℕ) → count ≡ 0 → Here e olds (record { sink = sink; extent = FromHeld s }) (Restored s) olds sink count
at_hold e s olds sink count none = record { log = []; is = []; told = told_none olds; course = AtFirst; put = refl; counted = none }

module _ (e : Experiment) (at : ℕ) (olds : List Instance) (sink : SinkView) where
  abbrev past : Past
  past = record { sink = sink; extent = UpToHeld at }

  -- ---- before it is held

  cut_early : (log : List Sent) (is : List Instant) (pieces : List (List ℕ)) (piece : List ℕ) → AwaitsIn e.system e.bound e.plan (UpToHeld at) log is pieces piece → (end : RunEnd) × HoldsWith e at olds end log piece × (pieces ≡ [])
  cut_early _ _ _ _ (Shown _ p log is i puts shows course) = absurd (let wrong : false ≡ true = puts in cc)
  cut_early _ _ _ _ (EndLine _ end point log is finishes) = (end, Early end point log is finishes, refl)

  pub ends_early : (news : List Instance) (present after : SinkView) (counted : ℕ) (broken : Break) → BreaksOff e olds past news present counted broken → (end : RunEnd) → PutsEndAfter broken end present after → HoldsSlots e at olds news sink after end
  ends_early news present after counted (B.Ends ending) f end puts = record {
    log = f.log;
    told = f.told;
    outcome = ending.end;
    piece = end_text (kind_of_end ending.end) ending.point;
    holds = Early ending.end ending.point f.log f.is f.finishes;
    puts = subst (λ (v : SinkView). PutsPiece ending.end (end_text (kind_of_end ending.end) ending.point) v after end) f.put puts;
  }
  ends_early news present after counted B.Write r end (same, none) =
      let fails : PutFailsIn e.system e.bound e.plan (UpToHeld at) r.log r.is sink present = r.ends in
      let cut = cut_early r.log r.is fails.pieces fails.piece fails.awaits in
      record {
        log = r.log;
        told = r.told;
        outcome = cut.0;
        piece = fails.piece;
        holds = cut.1;
        puts = inr (same, subst (λ (v : SinkView). PutsPrefixOf sink fails.piece v) (sym none) (subst (λ (ps : List (List ℕ)). PutsPrefixOf (with_pieces sink ps) fails.piece present) cut.2 fails.cuts));
      }

  -- ---- where it is held

  module _ (t n : ℕ) (b : Buffers) (mids : List Instance) (present : SinkView) (count : ℕ) (h : Here e olds past (InstantDone (spot t n b) false false) mids present count) (reached : at ≤ t) (early : t < e.plan.stop) where
    comes : ComesToHold e at (spot t n b) h.log h.is
    comes = record { course = h.course; reached = reached; early = early }

    pub held_well : (news : List Instance) (bytes : List ℕ) → KeepsWell e (spot t 0 b) mids news bytes → (end : RunEnd) (after : SinkView) → PutsPiece (E.Held t) bytes present after end → HoldsSlots e at olds news sink after end
    held_well news bytes k end after puts = record {
      log = (h.log ++ k.entered) ++ k.kept;
      told = told_on olds k.mids news (h.log ++ k.entered) k.kept (told_on olds mids k.mids h.log k.entered h.told k.into) k.told;
      outcome = E.Held t;
      piece = spelling (header_of e.system e.plan) (kept_at e (spot t n b) k.states);
      holds = WellHeld (spot t n b) h.log k.entered k.kept h.is k.mids k.states comes k.entered_is (told_on olds mids k.mids h.log k.entered h.told k.into) k.packed k.kept_is k.can;
      puts = subst (λ (l : List ℕ). PutsPiece (E.Held t) l sink after end) k.bytes_are (subst (λ (v : SinkView). PutsPiece (E.Held t) bytes v after end) h.put puts);
    }

    pub held_badly : (bad : BadAnswer) (news : List Instance) → KeepsBadly e bad mids news → (end : RunEnd) (after : SinkView) → PutsEndAfter (B.Ends (record { end = E.Bad bad; point = t })) end present after → HoldsSlots e at olds news sink after end
    held_badly bad news k end after puts = record {
      log = h.log ++ k.log;
      told = told_on olds mids news h.log k.log h.told k.told;
      outcome = E.Bad bad;
      piece = end_text (kind_of_end (E.Bad bad)) t;
      holds = BadlyHeld (spot t n b) bad h.log k.log h.is comes k.stops;
      puts = subst (λ (v : SinkView). PutsPiece (E.Bad bad) (end_text (kind_of_end (E.Bad bad)) t) v after end) h.put puts;
    }
