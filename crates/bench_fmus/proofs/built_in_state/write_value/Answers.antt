use Rattle.std.proofs.Common.{◌≡◌, set, sym, ap, ◌∙◌, arith}
use Rattle.std.specs.Int.{w128}
use Rattle.std.proofs.lemmas.Int.{to_z-of_z}
use Rattle.bench_fmus.specs.BuiltIn.{spread}
use Rattle.bench_fmus.proofs.ValueLemmas.{spread_set, spread_unset}
use Rattle.bench_fmus.proofs.built_in_state.write_value.Goals as goal

pub returns-in-Some-clause-values : goal.returns-in-Some-clause-values
returns-in-Some-clause-values c =
    let put : c.put.new.values ≡ set c.args.values.now c.in-Some.place c.args.value =
    c.put.ensures ∙ ap (set c.args.values.now c.in-Some.place) (to_z-of_z w128 c.args.value c.ranges.value) in
    ap (spread c.args.variables.now) put
    ∙ spread_set c.args.variables.now c.args.values.now c.args.reference c.args.value c.in-Some.place (omega (arith, c.in-Some.ensures.within)) (sym c.in-Some.ensures.place)

pub returns-in-None-clause-values : goal.returns-in-None-clause-values
returns-in-None-clause-values c = spread_unset c.args.variables.now c.args.values.now c.args.reference c.args.value (sym c.in-None.ensures.place)
