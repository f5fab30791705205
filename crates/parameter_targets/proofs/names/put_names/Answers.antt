use Rattle.std.proofs.Common.{◌≡◌, ◌<◌, ℕ, List, length, get_or, take, sym, ap, ◌∙◌, refl, subst, arith}
use Rattle.parameter_targets.specs.Tables.{IsNamed}
use Rattle.parameter_targets.proofs.NameLemmas.{IsCalledBy, called_all, puts_alias, puts_as, puts_own}
use Rattle.parameter_targets.proofs.names.put_names.Goals as goal

pub loop-alias-init : goal.loop-alias-init
loop-alias-init c = puts_own c.args.entries.now.items c.push.new.self.items _ c.args.place c.args.variable.now c.in_ok-push.ensures.items refl c.as_str.ensures

pub loop-alias-preserved : goal.loop-alias-preserved
loop-alias-preserved c =
    let i = c.loop-alias.alias-index in
    let alias = c.alias-item.result in
    let within = subst (λ (z : List (List ℕ)). i < length z) c.as_slice-alias-items.ensures c.loop-alias-test.true in
    let is = subst (λ (z : List (List ℕ)). alias ≡ get_or z i alias) c.as_slice-alias-items.ensures c.alias-item.is in
    puts_alias c.args.entries.now.items c.loop-alias.entries.items c.push-in-loop-alias.new.self.items _ c.args.place c.loop-alias.alias-index c.args.variable.now c.alias-item.result c.in_ok-push-2.ensures.items refl c.as_str-in-loop-alias.ensures
    within is c.loop-alias.invariant

pub returns-after-loop-alias : goal.returns-after-loop-alias
returns-after-loop-alias c =
    let v = c.args.variable.now in
    let i = c.loop-alias.alias-index in
    let len = ap length c.as_slice-alias-items.ensures in
    puts_as c.args.entries.now.items c.loop-alias.entries.items c.args.place (IsCalledBy v (take i v.aliases)) (IsNamed v)
    (λ name. called_all v i name (omega (arith, len)) (sym c.is_parameter.ensures ∙ c.if-is_parameter.true) (sym c.is_some.ensures ∙ c.if-is_some.true)) c.loop-alias.invariant
