use Rattle.std.proofs.Common.{rules, arith, ◌≡◌, ◌∙◌, ap, ℕ, ◌∷◌, [], ◌++◌, List, Some, length, refl, sym, subst, true, false}
use Rattle.std.specs.Prelude.{is_some}
use Rattle.std.specs.List.{slice_get}
use Rattle.std.proofs.lemmas.Option.{slice_get_read}
use Rattle.system_model.specs.declared.system.Port.{Port}
use Rattle.system_model.specs.Ports.{source_of}
use Rattle.trace_check.specs.Inputs.{HoldInputs, is_steady}
use Rattle.trace_check.proofs.InputLemmas.{hold_steady, hold_ticks, hold_unfed}
use Rattle.trace_check.proofs.inputs.FedInputs.of.Goals as goal
use Rattle.trace_check.proofs.inputs.FedInputs.of.Goals.{then-is_some+then-len-eq0+in_ok-push, then-is_clock, else-is_clock, then-is_some+else-len-eq0+in_ok-await_ticks, else-is_some}

pub loop-p-preserved : goal.loop-p-preserved
loop-p-preserved c =
    let ports = c.args.system.now.ports in
    let port = c.port-item.result in
    let now : List ℕ = c.if-is_some.steady.items in
    let items = c.as_slice-port-items.result.now in
    let here : slice_get items c.loop-p.p ≡ Some port = slice_get_read items (length items) c.loop-p.p port refl (omega arith) c.port-item.is in
    let at : slice_get ports c.loop-p.p ≡ Some port = ap (λ (xs : List Port). slice_get xs c.loop-p.p) (sym c.as_slice-port-items.ensures) ∙ here in
    elim c.if-is_some.branch [
      | then-is_some+then-len-eq0+in_ok-push w ↦
          let is : is_steady port ≡ true = elim w.if-is_clock.branch [ then-is_clock v ↦ search rules | else-is_clock v ↦ search rules ] in
          let pushed : now ≡ c.loop-p.steady.items ++ c.loop-p.p ∷ [] = search rules in
          let same : c.if-is_some.at_ticks ≡ c.loop-p.at_ticks = search rules in
          hold_steady ports c.loop-p.p c.loop-p.steady.items c.loop-p.at_ticks port c.loop-p.invariant at now c.if-is_some.at_ticks pushed same is
      | then-is_some+else-len-eq0+in_ok-await_ticks w ↦
          let is : is_steady port ≡ false = elim w.if-is_clock.branch [ then-is_clock v ↦ search rules | else-is_clock v ↦ search rules ] in
          let same : now ≡ c.loop-p.steady.items = search rules in
          hold_ticks ports c.loop-p.p c.loop-p.steady.items c.loop-p.at_ticks port c.loop-p.invariant at now c.if-is_some.at_ticks same is (search rules)
      | else-is_some w ↦
          let same : now ≡ c.loop-p.steady.items = search rules in
          let lists : c.if-is_some.at_ticks ≡ c.loop-p.at_ticks = search rules in
          let unfed : is_some (source_of port.role) ≡ false = search rules in
          hold_unfed ports c.loop-p.p c.loop-p.steady.items c.loop-p.at_ticks port c.loop-p.invariant at now c.if-is_some.at_ticks same lists unfed
    ]

pub returns : goal.returns
returns c =
    let end : c.loop-p.p ≡ length c.args.system.now.ports = search rules in
    subst (λ (k : ℕ). HoldInputs c.args.system.now.ports k c.loop-p.steady.items c.loop-p.at_ticks) end c.loop-p.invariant
