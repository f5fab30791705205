use Rattle.std.proofs.Common.{◌+◌, sym, ◌∙◌, subst}
use Rattle.std.specs.declared.alloc.Global.{Global}
use Rattle.std.specs.declared.vec.Vec.{Vec}
use Rattle.system_model.specs.declared.bound.BoundValue.{BoundValue}
use Rattle.parameter_binding.specs.Walk.{AreValues}
use Rattle.parameter_binding.proofs.BoundLemmas.{values_more, values_none, values_skip}
use Rattle.parameter_binding.proofs.bound.component_values.Goals as goal
use Rattle.parameter_binding.proofs.bound.component_values.Goals.{in-Some+in_ok-push, in_default}

pub loop-variable-init : goal.loop-variable-init
loop-variable-init c = values_none c.args.winners.now c.args.component c.new-values.result.items c.new-values.ensures.items

pub loop-variable-preserved : goal.loop-variable-preserved
loop-variable-preserved c =
    let winners = c.args.winners.now in
    let i = c.args.component in
    let v = c.loop-variable.variable in
    elim c.match-get.branch [
      | in-Some+in_ok-push w ↦ subst (λ (z : Vec BoundValue Global). AreValues winners i (v + 1) z.items) (sym w.values-is)
          (values_more winners i v c.loop-variable.values.items w.push.new.self.items w.in-Some.best (sym c.get.ensures ∙ w.in-Some.is) w.in_ok-push.ensures.items c.loop-variable.invariant)
      | in_default w ↦ subst (λ (z : Vec BoundValue Global). AreValues winners i (v + 1) z.items) (sym w.values-is)
          (values_skip winners i v c.loop-variable.values.items (sym c.get.ensures ∙ w.in_default.is) c.loop-variable.invariant)
    ]
