use Rattle.std.proofs.Common.{◌≡◌, sym, ◌∙◌, arith, to_z, of_z}
use Rattle.std.specs.Int.{w128}
use Rattle.std.proofs.lemmas.Int.{ints}
use Rattle.bench_fmus.proofs.ValueLemmas.{value_of_found}
use Rattle.bench_fmus.proofs.built_in_state.value_under.Goals as goal

pub returns-in-Some : goal.returns-in-Some
returns-in-Some c =
    let same : to_z w128 (of_z w128 c.number_at.result) ≡ c.number_at.result = omega (arith, ints) in
    same ∙ c.number_at.ensures
    ∙ sym (value_of_found c.args.variables.now c.args.values.now c.args.reference c.in-Some.place (sym c.in-Some.ensures.place))
