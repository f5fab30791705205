use Rattle.std.proofs.Common.{sym, ◌∙◌, refl, arith}
use Rattle.std.proofs.lemmas.Bool.{both_ways}
use Rattle.fmu_description.specs.Places.{found}
use Rattle.fmu_description.proofs.TableUse.{one_missing, none_missing, none_from}
use Rattle.fmu_description.proofs.indexed.misses_one.Goals as goal

pub returns-then-is_none : goal.returns-then-is_none
returns-then-is_none c = λ key table.
    (λ _. one_missing (found c.args.places.now) c.args.references.now c.loop-reference.reference-index (omega arith) (sym c.find.ensures ∙ none_from c.find.result c.is_none.result c.is_none.ensures c.if-is_none.true) key table, λ _. refl)

pub returns : goal.returns
returns c = λ key table.
    (λ e. absurd (both_ways _ refl e), λ n. absurd (none_missing (found c.args.places.now) c.args.references.now (λ j lower e. c.loop-reference.invariant j (omega arith) e) key table n))
