-- What may be resumed: no parameter is bound, and each FMU takes its state in.
use Rattle.std.proofs.Common.{◌≡◌, ℕ, ◌≤◌, ◌^◌, List, [], ◌∷◌, refl, sym, ap, ◌∙◌, subst, length, map, replicate}
use Rattle.std.specs.Prelude.{All, Option, Some, None}
use Rattle.sim_base.specs.Sink.{SinkView}
use Rattle.std.specs.List.{AllZip, IsDistinct}
use Rattle.std.proofs.lemmas.List.Elements.{All-cons, All-nil}
use Rattle.system_model.specs.declared.bound.Bound.{Bound}
use Rattle.system_model.specs.declared.bound.BoundValue.{BoundValue}
use Rattle.system_model.specs.declared.system.Component.{Component}
use Rattle.system_model.specs.declared.system.System.{System}
use Rattle.system_model.specs.Bounds.{AreParameterValues, BindsParameters, IsParameterValue}
use Rattle.system_checkpoint.specs.Spelling.{AllBy, IsState}
use Rattle.system_checkpoint.specs.declared.snapshot.Snapshot.{Snapshot}
use Rattle.calling_sequence.specs.declared.run_end.RunEnd.{RunEnd}
use Rattle.step_master.specs.Holding.{Rests, RunsFrom}
use Rattle.step_master.specs.Master.{Runs, Standing}

-- ---- parameters

blank_each : {A B : Type 0} (b : B) (xs : List A) → replicate (length xs) b ≡ map (λ (x : A). b) xs
blank_each b [] = refl
blank_each {A} {B} b (x ∷ xs) = ap (λ (l : List B). b ∷ l) (blank_each b xs)

-- as many of one thing as there are others
pub blanks : {A B : Type 0} (b : B) (xs : List A) (ys : List B) → length ys ≡ length xs → ys ≡ replicate (length ys) b → ys ≡ map (λ (x : A). b) xs
blanks b xs ys len all = all ∙ ap (λ (n : ℕ). replicate n b) len ∙ blank_each b xs

none_bound : (cs : List Component) → AllZip (λ (c : Component) (values : List BoundValue). AreParameterValues c.shape values) cs (map (λ (c : Component). []) cs)
unfolding IsDistinct
none_bound [] = tt
none_bound (c ∷ cs) = (record { each = All-nil (IsParameterValue c.shape); once = tt }, none_bound cs)

pub binds_none : (system : System) (bound : Bound) (lent : List Component) → lent ≡ system.components → bound.components ≡ map (λ (c : Component). []) lent → BindsParameters system bound
binds_none system bound lent same is = subst (λ (l : List (List BoundValue)). AllZip (λ (c : Component) (values : List BoundValue). AreParameterValues c.shape values) system.components l) (sym (is ∙ ap (map (λ (c : Component). [])) same)) (none_bound system.components)

-- ---- states

pub few_states : (cs : List Component) (states : List (List ℕ)) → AllBy IsState cs states → All (λ (state : List ℕ). length state ≤ 2 ^ 20) states
few_states [] [] all = All-nil (λ (state : List ℕ). length state ≤ 2 ^ 20)
few_states [] (s ∷ states) all = absurd all
few_states (c ∷ cs) [] all = absurd all
few_states (c ∷ cs) (s ∷ states) all = All-cons (λ (state : List ℕ). length state ≤ 2 ^ 20) s states all.0.size (few_states cs states all.1)

-- ---- by what the run goes on from

pub runs_whole : {old new : Standing} {before after : SinkView} {end : RunEnd} (held : Option Snapshot) → held ≡ None → Runs old new before after end → RunsFrom held old new before after end
runs_whole {old} {new} {before} {after} {end} held is runs = subst (λ (h : Option Snapshot). RunsFrom h old new before after end) (sym is) runs

pub runs_rest : {old new : Standing} {before after : SinkView} {end : RunEnd} (held : Option Snapshot) (kept : Snapshot) → held ≡ Some kept → Rests kept old new before after end → RunsFrom held old new before after end
runs_rest {old} {new} {before} {after} {end} held kept is rests = subst (λ (h : Option Snapshot). RunsFrom h old new before after end) (sym is) rests
