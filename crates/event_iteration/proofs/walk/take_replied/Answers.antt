use Rattle.std.proofs.Common.{ℤ, List, arith, length, Option, ◌+◌, Some, drop, get_or, map, ap, ◌∙◌, sym, refl}
use Rattle.std.proofs.lemmas.List.{drop_all, length-set}
use Rattle.fmi_calls.specs.declared.call.Reply.{Reply}
use Rattle.event_iteration.specs.Waits.{turned}
use Rattle.event_iteration.proofs.Turned.{replied_more, value_by}
use Rattle.event_iteration.proofs.walk.take_replied.Goals as goal

pub loop-i-init : goal.loop-i-init
loop-i-init g c = record { places = refl; taken = refl }

pub value_of-value-requires-clause-port : goal.value_of-value-requires-clause-port
value_of-value-requires-clause-port g c = c.requires.within c.loop-i.i 0 c.loop-i-test.true

pub value_of-value-requires-clause-values : goal.value_of-value-requires-clause-values
value_of-value-requires-clause-values g c = c.loop-i.invariant.places ∙ c.requires.values

pub put-requires : goal.put-requires
put-requires g c = let low = c.requires.within c.loop-i.i 0 c.loop-i-test.true in let long = c.loop-i.invariant.places in let n = c.requires.values in omega (arith, low, long, n)

pub loop-i-preserved : goal.loop-i-preserved
loop-i-preserved g c =
    let system = c.args.system.now in
    let rules = g.T.Turns.rules c.args.turns.now system in
    let p = get_or c.args.ports.now c.loop-i.i 0 in
    let v = value_by system rules c.loop-i.values p (Some _) c.value_of-value.result c.at.result (c.requires.within c.loop-i.i 0 c.loop-i-test.true) c.at.ensures c.value_of-value.ensures in
    record {
      places = ap length c.put.ensures ∙ length-set c.loop-i.values p c.value_of-value.result ∙ c.loop-i.invariant.places;
      taken = ap (λ (V : List (Option ℤ)). turned system rules (drop (c.loop-i.i + 1) c.args.ports.now) (map (λ (r : Reply). Some r) (drop (c.loop-i.i + 1) c.args.replies.now)) V) c.put.ensures
          ∙ replied_more system rules c.args.ports.now c.args.replies.now c.loop-i.i c.loop-i.values _ c.value_of-value.result c.loop-i-test.true c.requires.places v ∙ c.loop-i.invariant.taken;
    }

pub returns : goal.returns
returns g c =
    let system = c.args.system.now in
    let rules = g.T.Turns.rules c.args.turns.now system in
    sym (ap (λ ps. turned system rules ps (map (λ (r : Reply). Some r) (drop c.loop-i.i c.args.replies.now)) c.loop-i.values) (drop_all c.loop-i.i c.args.ports.now c.loop-i-test.false)) ∙ c.loop-i.invariant.taken
