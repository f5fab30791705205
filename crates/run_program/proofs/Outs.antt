-- What a run's end says of the count of the sink that the trace is put on.
use Rattle.std.proofs.Common.{◌≡◌, ℕ, List, [], ◌∷◌, refl, sym, ap, ◌∙◌, subst, arith}
use Rattle.sim_base.specs.Causes.{Rose, one_more}
use Rattle.sim_base.specs.Sink.{SinkView, with_piece}
use Rattle.system_model.specs.declared.bound.Bound.{Bound}
use Rattle.system_model.specs.declared.plan.Plan.{Plan}
use Rattle.system_model.specs.declared.system.System.{System}
use Rattle.system_model.specs.Text.{Instant}
use Rattle.calling_sequence.specs.declared.run_end.RunEnd.{RunEnd}
use Rattle.calling_sequence.specs.declared.run_end.RunEnd.TheVariants as E
use Rattle.calling_sequence.specs.Ends.{EndsBy, PutsWhole, kind_of_end, trace_pieces}
use Rattle.slot_calls.specs.Log.{Sent}
use Rattle.calling_sequence.specs.Puts.{PutsPrefixOf, with_pieces}
use Rattle.run_program.specs.Happened.{Scene}
use Rattle.run_program.specs.Runs.{Broke, HasRun, Task, Went}

pieces_faults : (view : SinkView) (pieces : List (List ℕ)) → (with_pieces view pieces).faults ≡ view.faults
pieces_faults view [] = refl
pieces_faults view (piece ∷ pieces) = pieces_faults (with_piece view piece) pieces

raised : (before after : ℕ) → after ≡ one_more before → Rose before after
raised before after e = omega arith

pub cut_rose : (view : SinkView) (pieces : List (List ℕ)) (piece : List ℕ) (new : SinkView) → PutsPrefixOf (with_pieces view pieces) piece new → Rose view.faults new.faults
cut_rose view pieces piece new cut = raised view.faults new.faults (ap (λ (s : SinkView). s.faults) cut.1 ∙ ap one_more (pieces_faults view pieces))

-- the count stays, and rises where a put failed
abbrev pub TellsOut : RunEnd → ℕ → ℕ → Type 0
TellsOut E.Stop before after = after ≡ before
TellsOut (E.Asked point) before after = after ≡ before
TellsOut (E.EventLimit point) before after = after ≡ before
TellsOut (E.FixedStep component at end) before after = after ≡ before
TellsOut (E.Range lost at) before after = after ≡ before
TellsOut (E.Bad bad) before after = after ≡ before
TellsOut (E.Held point) before after = ⊥
TellsOut E.WriteFault before after = Rose before after

whole_same : (system : System) (bound : Bound) (plan : Plan) (log : List Sent) (is : List Instant) (end : RunEnd) (before after : SinkView) → PutsWhole system bound plan log is end before after → after.faults ≡ before.faults
whole_same system bound plan log is end before after w =
    ap (λ (s : SinkView). s.faults) w.2 ∙ pieces_faults before (trace_pieces system plan is (kind_of_end end) w.0)

tells : (system : System) (bound : Bound) (plan : Plan) (log : List Sent) (is : List Instant) (end : RunEnd) (before after : SinkView) → EndsBy system bound plan log is end before after → TellsOut end before.faults after.faults
tells system bound plan log is E.Stop before after e = whole_same system bound plan log is E.Stop before after e
tells system bound plan log is (E.Asked point) before after e = whole_same system bound plan log is (E.Asked point) before after e
tells system bound plan log is (E.EventLimit point) before after e = whole_same system bound plan log is (E.EventLimit point) before after e
tells system bound plan log is (E.Range lost at) before after e = whole_same system bound plan log is (E.Range lost at) before after e
tells system bound plan log is (E.FixedStep component at end) before after e = whole_same system bound plan log is (E.FixedStep component at end) before after e
tells system bound plan log is (E.Bad bad) before after e = whole_same system bound plan log is (E.Bad bad) before after e
tells system bound plan log is (E.Held point) before after e = e
tells system bound plan log is E.WriteFault before after e = cut_rose before e.pieces e.piece after e.cuts

pub tells_out : (task : Task) (system : System) (end : RunEnd) (old new : Scene) → HasRun task system end old new → TellsOut end old.out.faults new.out.faults
tells_out task system end old new (Went g) =
    let t = g.traces in
    let a = t.account in
    subst (λ (e : RunEnd). TellsOut e old.out.faults new.out.faults) t.end_is
    (subst (λ (s : SinkView). TellsOut a.end s.faults new.out.faults) t.before_is
    (subst (λ (s : SinkView). TellsOut a.end a.before.faults s.faults) t.after_is
    (tells a.system a.bound a.plan g.session.log g.session.is a.end a.before a.after g.session.text)))
tells_out task system end old new (Broke bad is fails) =
    subst (λ (e : RunEnd). TellsOut e old.out.faults new.out.faults) (sym is) (ap (λ (s : SinkView). s.faults) fails.out)
