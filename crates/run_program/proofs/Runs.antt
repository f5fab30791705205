-- Whether a run began, and what it says of the status.
use Rattle.std.proofs.Common.{◌≡◌, ◌⊎◌, inl, inr, ℕ, ◌<◌, List, Option, Some, None, refl, ap, subst, arith}
use Rattle.sim_base.specs.Sink.{SinkView}
use Rattle.calling_sequence.specs.declared.run_end.RunEnd.{RunEnd}
use Rattle.calling_sequence.specs.declared.run_end.RunEnd.TheVariants as E
use Rattle.command_line.specs.Line.{Line, IsLine, run_in}
use Rattle.system_files.specs.declared.loaded.Loaded.{Loaded}
use Rattle.run_program.specs.declared.outcome.Outcome.{Outcome}
use Rattle.run_program.specs.declared.outcome.Outcome.TheVariants.{Words, Memory, File, Start, Ran, Checked, Untold}
use Rattle.run_program.specs.declared.outcome.End.{End}
use Rattle.run_program.specs.declared.outcome.End.TheVariants as O
use Rattle.run_program.specs.Message.{Reports, end_message, end_status}
use Rattle.run_program.specs.Facts.{CheckFacts, FailsToTell, LineFacts, LoadsLine, OfSystem, RunFacts, TellsSize, Unloaded, WithLine, WithoutLine, task_of}
use Rattle.run_program.specs.Happened.{Happened}
use Rattle.run_program.specs.Rows.{Idle, IsIdle, IsOfRun, IsUncalled, OnCheck, PeerRow}
use Rattle.run_program.specs.Rows as R
use Rattle.run_program.specs.Runs.{HasRun, IsEndOf, Names, names_of}
use Rattle.run_program.proofs.Outs.{TellsOut, tells_out}
use Rattle.run_program.proofs.When.{HasFacts, HasPut, by_run, for_run, line_idle, same_idle, same_uncalled, taken_idle, unstarted_idle}

-- a run of the line's system, whose end the outcome tells
pub record HasRunOne (o : Outcome) (h : Happened) : Type 0 where
  pub line : Line
  pub is : IsLine h.words line
  pub it : IsOfRun h line
  pub end : RunEnd
  pub e : End
  pub outcome : o ≡ Ran e
  pub named : IsEndOf (names_of it.loaded.system) end e
  pub run : HasRun (task_of it.asked it.loaded) it.loaded.system end h.old.run h.new.run

-- a check of the line's system
pub data HasCheck (o : Outcome) (h : Happened) : Type 0 where
  Tells : o ≡ Checked → (line : Line) → IsLine h.words line → OnCheck h line TellsSize → HasCheck o h
  Fails : o ≡ Untold → (line : Line) → IsLine h.words line → OnCheck h line FailsToTell → HasCheck o h

-- nothing was begun, or a run, or a check
pub data Course (o : Outcome) (h : Happened) : Type 0 where
  Still : IsIdle h → Course o h
  OfRun : HasRunOne o h → Course o h
  OfCheck : HasCheck o h → Course o h

of_run : (o : Outcome) (line : Line) (h : Happened) → IsLine h.words line → (it : IsOfRun h line) → RunFacts o (task_of it.asked it.loaded) it.loaded.system h.old.run h.new.run → Course o h
of_run Words line h is it f = absurd f
of_run Memory line h is it f = Still (taken_idle (task_of it.asked it.loaded) it.loaded.system h (for_run line h is it) f)
of_run (File path fault) line h is it f = absurd f
of_run (Start name cause) line h is it f = Still (unstarted_idle (task_of it.asked it.loaded) it.loaded.system name cause h (for_run line h is it) f)
of_run (Ran e) line h is it f = OfRun (record { line = line; is = is; it = it; end = f.0; e = e; outcome = refl; named = f.1; run = f.2 })
of_run Checked line h is it f = absurd f
of_run Untold line h is it f = absurd f

of_check : (o : Outcome) (line : Line) (h : Happened) (loaded : Loaded) → IsLine h.words line → run_in line ≡ None → LoadsLine line loaded h.old.folder h.new.folder →
    CheckFacts o loaded h.old.run h.new.run → Course o h
of_check Words line h loaded is none loads f = absurd f
of_check Memory line h loaded is none loads f = absurd f
of_check (File path fault) line h loaded is none loads f = absurd f
of_check (Start name cause) line h loaded is none loads f = absurd f
of_check (Ran e) line h loaded is none loads f = absurd f
of_check Checked line h loaded is none loads f = OfCheck (Tells refl line is (loaded, none, loads, f))
of_check Untold line h loaded is none loads f = OfCheck (Fails refl line is (loaded, none, loads, f))

of_line : (o : Outcome) (line : Line) (h : Happened) → IsLine h.words line → LineFacts o line h.old h.new → Course o h
of_line o line h is (Unloaded calm f) = Still (line_idle h calm)
of_line o line h is (OfSystem loaded loads f) = by_run o line h loaded loads f (λ it same g. of_run o line h is it g) (λ none g. of_check o line h loaded is none loads g)

pub course : (o : Outcome) (h : Happened) → HasFacts o h → Course o h
course o h (WithoutLine w) = Still (same_idle h w.same)
course o h (WithLine r) = of_line o r.line h r.is r.facts

-- where no run was begun no peer was called
pub uncalled_or_run : (o : Outcome) (h : Happened) → Course o h → IsUncalled h ⊎ HasRunOne o h
uncalled_or_run o h (Still idle) = inl idle.uncalled
uncalled_or_run o h (OfRun one) = inr one
uncalled_or_run o h (OfCheck (Tells e line is on)) = inl (same_uncalled h on.3.spawner)
uncalled_or_run o h (OfCheck (Fails e line is on)) = inl (same_uncalled h on.3.spawner)

-- the outcome's line and status
pub ran_put : (o : Outcome) (h : Happened) → HasPut o h → (one : HasRunOne o h) → Reports (end_message one.e) (end_status one.e) h.status h.err h.err_after
ran_put o h p one = subst (λ (x : Outcome). HasPut x h) one.outcome p

-- ---- the status 10

pub peer_case : (h : Happened) (o : Outcome) → HasPut o h → Course o h → PeerRow h
peer_case h o p (Still idle) = Idle idle
peer_case h o p (OfRun one) = R.Ran one.line one.is one.end (record { it = one.it; run = one.run; reports = (one.e, one.named, ran_put o h p one) })
peer_case h o p (OfCheck (Tells e line is on)) = R.Checked line is (inl on)
peer_case h o p (OfCheck (Fails e line is on)) = R.Checked line is (inr on)

not_higher : {A : Type 0} (a b : ℕ) → b ≡ a → a < b → A
not_higher a b e higher = absurd (omega arith)

end_higher : (names : Names) (end : RunEnd) (e : End) (h : Happened) → IsEndOf names end e → TellsOut end h.old.run.out.faults h.new.run.out.faults →
    Reports (end_message e) (end_status e) h.status h.err h.err_after → h.old.run.out.faults < h.new.run.out.faults → h.status ≡ 10
end_higher names E.Stop e h named outs p higher = not_higher h.old.run.out.faults h.new.run.out.faults outs higher
end_higher names (E.Asked point) e h named outs p higher = not_higher h.old.run.out.faults h.new.run.out.faults outs higher
end_higher names (E.EventLimit point) e h named outs p higher = not_higher h.old.run.out.faults h.new.run.out.faults outs higher
end_higher names (E.FixedStep component at end) e h named outs p higher = not_higher h.old.run.out.faults h.new.run.out.faults outs higher
end_higher names (E.Range lost at) e h named outs p higher = not_higher h.old.run.out.faults h.new.run.out.faults outs higher
end_higher names (E.Bad bad) e h named outs p higher = not_higher h.old.run.out.faults h.new.run.out.faults outs higher
end_higher names (E.Held point) e h named outs p higher = absurd outs
end_higher names E.WriteFault e h named outs p higher = put (subst (λ (x : End). Reports (end_message x) (end_status x) h.status h.err h.err_after) named p)
  where
    put : Reports (end_message O.WriteFault) (end_status O.WriteFault) h.status h.err h.err_after → h.status ≡ 10
    put (inl q) = q.0
    put (inr q) = q.0

unwritten : (o : Outcome) (h : Happened) → HasPut o h → o ≡ Untold → h.status ≡ 10
unwritten o h p e = by (subst (λ (x : Outcome). HasPut x h) e p)
  where
    by : HasPut Untold h → h.status ≡ 10
    by (inl q) = q.0
    by (inr q) = q.0

pub out_higher : (o : Outcome) (h : Happened) → HasPut o h → Course o h → h.old.run.out.faults < h.new.run.out.faults → h.status ≡ 10
out_higher o h p (Still idle) higher = not_higher h.old.run.out.faults h.new.run.out.faults (ap (λ (s : SinkView). s.faults) idle.out) higher
out_higher o h p (OfRun one) higher =
    let task = task_of one.it.asked one.it.loaded in
    let system = one.it.loaded.system in
    end_higher (names_of system) one.end one.e h one.named (tells_out task system one.end h.old.run h.new.run one.run) (ran_put o h p one) higher
out_higher o h p (OfCheck (Tells e line is on)) higher = not_higher h.old.run.out.faults h.new.run.out.faults (ap (λ (s : SinkView). s.faults) on.3.out) higher
out_higher o h p (OfCheck (Fails e line is on)) higher = unwritten o h p e

pub err_higher : (m : Option (List ℕ)) (w : ℕ) (h : Happened) → Reports m w h.status h.err h.err_after → h.err.faults < h.err_after.faults → h.status ≡ 10
err_higher None w h p higher = not_higher h.err.faults h.err_after.faults (ap (λ (s : SinkView). s.faults) p.1) higher
err_higher (Some text) w h (inl p) higher = not_higher h.err.faults h.err_after.faults (ap (λ (s : SinkView). s.faults) p.1) higher
err_higher (Some text) w h (inr p) higher = p.0
