use Rattle.std.proofs.Common.{rules, arith, ◌≡◌, ℕ, ◌+◌, ◌<◌, ◌≤◌, ap, sym, ◌∙◌, subst, List, Some, length, inl, inr}
use Rattle.std.specs.List.{slice_get}
use Rattle.std.proofs.lemmas.Bool.{cases_lt}
use Rattle.std.proofs.lemmas.Option.{slice_get-get_or, slice_get_within}
use Rattle.system_model.specs.declared.system.Port.{Port}
use Rattle.system_model.proofs.CallerLemmas.{all_by_place}
use Rattle.trace_reading.proofs.CallerLemmas.{unsome}
use Rattle.trace_check.specs.Ticks.{HasLimits}
use Rattle.tests_of_traces.proofs.check_tests.keeps_limits.Goals as goal

-- the port at p keeps the limits too
limits_next : (ports : List Port) (p : ℕ) (here : Port) → slice_get ports p ≡ Some here → HasLimits here.role →
    ((k : ℕ) (port : Port) → k < p → slice_get ports k ≡ Some port → HasLimits port.role) → (k : ℕ) (port : Port) → k < p + 1 → slice_get ports k ≡ Some port → HasLimits port.role
limits_next ports p here at limits before k port low at_k =
    elim (cases_lt k p) [
      | inl earlier ↦ before k port earlier at_k
      | inr later ↦
          let same : p ≡ k = omega (arith, low, later) in
          subst (λ (x : Port). HasLimits x.role) (unsome here port (sym at ∙ (ap (λ (j : ℕ). slice_get ports j) same ∙ at_k))) limits
    ]

pub loop-port-preserved : goal.loop-port-preserved
loop-port-preserved c =
    let at : slice_get c.args.system.now.ports c.loop-port.port-index ≡ Some c.port-item.result =
    ap (λ (ports : List Port). slice_get ports c.loop-port.port-index) (sym c.as_slice-port-items.ensures)
    ∙ (slice_get-get_or c.as_slice-port-items.result.now c.loop-port.port-index c.port-item.result c.loop-port-test.true ∙ ap (λ (port : Port). Some port) (sym c.port-item.is)) in
    let limits : HasLimits c.port-item.result.role = search rules in
    limits_next c.args.system.now.ports c.loop-port.port-index c.port-item.result at limits c.loop-port.invariant

pub returns : goal.returns
returns c = λ yes.
    let whole : length c.args.system.now.ports ≤ c.loop-port.port-index = search rules in
    all_by_place (λ (port : Port). HasLimits port.role) c.args.system.now.ports (λ k port at.
    let within = slice_get_within c.args.system.now.ports k port at in
    c.loop-port.invariant k port (omega (arith, within, whole)) at)
