use Rattle.std.proofs.Common.{◌≡◌, ◌++◌, ◌<◌, List, length, None, refl, sym, ap, subst, arith, rules}
use Rattle.parameter_values.specs.declared.set.Parameter.{Parameter}
use Rattle.parameter_targets.proofs.CallerLemmas.{read_at}
use Rattle.parameter_binding.specs.Binds.{IsLater}
use Rattle.parameter_binding.specs.Walk.{triple_at}
use Rattle.parameter_binding.proofs.MoveLemmas.{next_binding, next_parameter, real_plain}
use Rattle.parameter_binding.proofs.WalkLemmas.{visit_plain}
use Rattle.parameter_binding.proofs.walk.Walk.put_plain.Goals as goal

pub loop-place-preserved : goal.loop-place-preserved
loop-place-preserved c =
    let w = c.args.self.now in
    let p = c.loop-place.place in
    let given = c.args.given.now in
    let parameter = c.index-parameters-place.result in
    let parameters = given.values.set.parameters in
    let within : p < length parameters = subst (λ (z : List Parameter). p < length z) c.as_slice-parameters.ensures (omega arith) in
    let at = read_at parameters c.as_slice-parameters.result.now p parameter c.as_slice-parameters.ensures within c.index-parameters-place.is in
    let name : c.as_str-in-loop-place-2.result.now ≡ c.args.binding.now.prefix ++ parameter.name = search rules in
    let visit = visit_plain w _ c.args.binding.now given c.as_str-in-loop-place-2.result.now c.requires.walk c.requires.at at refl c.requires.plain refl c.requires.same name in
    next_parameter w.tree.now w.shapes.now w.sets.now c.args.b 0 p c.put.new.gathered (c.in_ok-put.ensures None visit c.loop-place.invariant)

pub returns : goal.returns
returns c =
    let w = c.args.self.now in
    let given = c.args.given.now in
    let p = c.loop-place.place in
    let len = ap length c.as_slice-parameters.ensures in
    let all : p ≡ length given.values.set.parameters = omega (arith, len) in
    next_binding w.tree.now w.shapes.now w.sets.now c.args.b 0 p c.loop-place.gathered
    (λ t real e. subst (λ n. IsLater (triple_at c.args.b 0 n) t) (sym all) (real_plain w.tree.now w.sets.now c.args.b given c.requires.at.has c.requires.plain t real e)) c.loop-place.invariant
