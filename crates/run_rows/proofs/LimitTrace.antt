-- The trace of `settle` up to the limit.
use Rattle.std.proofs.Common.{ℤ, List, [], ◌∷◌, refl}
use Rattle.std.specs.Prelude.{Option, None}
use Rattle.system_model.specs.declared.plan.EndKind.TheVariants.{Limit}
use Rattle.run_model.specs.Run.{Situation}
use Rattle.run_model.specs.Initial.{beginning}
use Rattle.run_model.specs.AfterInstant.{updated}
use Rattle.run_model.specs.Trace.{IsTrace, Runs, Last, Further}
use Rattle.run_rows.specs.Limit as row
use Rattle.run_rows.proofs.Tools.{solves_by, initially_by}

abbrev w : List (Option ℤ)
w = None ∷ []

abbrev s0 : Situation
s0 = beginning row.limit_run w

abbrev s1 : Situation
s1 = updated row.limit_run s0 row.v0

abbrev s2 : Situation
s2 = updated row.limit_run s1 row.v1

pub trace : IsTrace row.limit_run row.limit_instants Limit 0
trace = Runs w (initially_by row.limit_run w refl (refl, tt)) refl
    (Further s0 row.v0 _ Limit 0 s1 _ (solves_by row.limit_run s0 row.v0 refl (refl, tt)) refl refl
    (Further s1 row.v1 _ Limit 0 s2 _ (solves_by row.limit_run s1 row.v1 refl (refl, tt)) refl refl
    (Last s2 row.v2 _ Limit 0 (solves_by row.limit_run s2 row.v2 refl (refl, tt)) refl refl)))
