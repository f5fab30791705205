use Rattle.std.proofs.Common.{◌≡◌, Some, length, get_or, ap, sym, ◌∙◌, arith}
use Rattle.std.specs.Prelude.{unwrap_or}
use Rattle.std.proofs.lemmas.List.{length-map, take_all}
use Rattle.fmi_calls.specs.declared.call.Call.{Call}
use Rattle.fmi_calls.specs.declared.call.Call.TheVariants as C
use Rattle.system_model.proofs.CallerLemmas.{place_of}
use Rattle.event_iteration.specs.Waits.{call_in}
use Rattle.event_iteration.proofs.Fmus.{got}
use Rattle.event_iteration.proofs.Gathering.{call_in-is}
use Rattle.event_iteration.proofs.Turned.{made_more}
use Rattle.event_iteration.proofs.walk.make_calls.Goals as goal

pub loop-i-preserved : goal.loop-i-preserved
loop-i-preserved g c = λ made all.
    let system = c.args.system.now in
    let rules = g.T.Turns.rules c.args.turns.now system in
    let ports = c.args.ports.now in
    let p = get_or ports c.loop-i.i 0 in
    let port = got system.ports p (c.requires.within c.loop-i.i 0 c.loop-i-test.true) in
    let placed = place_of system c.requires.sound p port.0 port.1 in
    let call : c.call_of.result ≡ call_in system rules c.args.values.now p = c.call_of.ensures port.0 placed.component port.1 placed.is.of ∙ sym (call_in-is system rules c.args.values.now p port.0 placed.component port.1 placed.is.of) in
    made_more (call_in system rules c.args.values.now) ports made c.loop-i.calls c.loop-i.i 0 C.FreeInstance c.unwrap_or.result all c.loop-i-test.true (c.loop-i.auto.calls ∙ c.requires.places) (c.loop-i.invariant made all)
    (λ is. c.unwrap_or.ensures ∙ ap (λ o. unwrap_or o C.FreeInstance) (call ∙ is))

pub returns : goal.returns
returns g c = λ made all.
    let system = c.args.system.now in
    let rules = g.T.Turns.rules c.args.turns.now system in
    let ports = c.args.ports.now in
    let long : length made ≡ length ports = (let a = ap length all in let b = length-map ports (call_in system rules c.args.values.now) in let d = length-map made (λ (x : Call). Some x) in omega (arith, a, b, d)) in
    sym (take_all c.loop-i.i c.loop-i.calls (let a = c.loop-i.auto.calls in let b = c.requires.places in let t = c.loop-i-test.false in omega (arith, a, b, t))) ∙ c.loop-i.invariant made all ∙ take_all c.loop-i.i made (let t = c.loop-i-test.false in omega (arith, t, long))
