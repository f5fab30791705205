use Rattle.std.proofs.Common.{length, replicate, ap, subst, ◌∙◌}
use Rattle.std.proofs.lemmas.List.{length-replicate}
use Rattle.value_types.specs.declared.shape.Shape.{Shape}
use Rattle.fmu_peer.specs.Many.{IsWorthOf, to_come}
use Rattle.fmu_peer.proofs.KeptStates.{agrees_fault, agrees_first, sorts_of}
use Rattle.fmu_peer.proofs.SeveralLemmas.{all_by_worth, came_within, counted_some, err_by_worth, failed_at, ok_by_worth}
use Rattle.fmu_peer.proofs.fmu.ask_many.Goals as goal

pub call_many-requires-clause-places : goal.call_many-requires-clause-places
call_many-requires-clause-places g c = ap length c.clear.ensures ∙ length-replicate (length c.args.replies.now) to_come ∙ c.requires.places

pub worth_of_last-requires-clause-some : goal.worth_of_last-requires-clause-some
worth_of_last-requires-clause-some g c =
    counted_some (g.L.Peer.view c.args.peer.now) c.args.calls.now c.call_many.new.replies c.in-Ok.count (g.L.Peer.view c.call_many.new.self) c.in-Ok.ensures.asked

pub worth_of_last-requires-clause-few : goal.worth_of_last-requires-clause-few
worth_of_last-requires-clause-few g c = c.in-Ok.ensures.asked.within

pub returns-in-Ok-clause-all : goal.returns-in-Ok-clause-all
returns-in-Ok-clause-all g c =
    let new = g.L.Peer.view c.call_many.new.self in
    all_by_worth (g.L.Peer.view c.args.peer.now) c.args.calls.now c.call_many.new.replies c.in-Ok.count new c.in-Ok.ensures.asked c.in-Ok.ensures.places c.worth_of_last.result
    (subst (λ (s : Shape). IsWorthOf s c.args.calls.now c.call_many.new.replies c.in-Ok.count c.worth_of_last.result) c.shape.ensures c.worth_of_last.ensures)

pub returns-in-Ok-clause-ok : goal.returns-in-Ok-clause-ok
returns-in-Ok-clause-ok g c =
    let new = g.L.Peer.view c.call_many.new.self in
    ok_by_worth (g.L.Peer.view c.args.peer.now) c.args.calls.now c.call_many.new.replies c.in-Ok.count new c.in-Ok.ensures.asked c.in-Ok.ensures.places c.worth_of_last.result
    (subst (λ (s : Shape). IsWorthOf s c.args.calls.now c.call_many.new.replies c.in-Ok.count c.worth_of_last.result) c.shape.ensures c.worth_of_last.ensures)

pub returns-in-Ok-clause-err : goal.returns-in-Ok-clause-err
returns-in-Ok-clause-err g c =
    let new = g.L.Peer.view c.call_many.new.self in
    err_by_worth (g.L.Peer.view c.args.peer.now) c.args.calls.now c.call_many.new.replies c.in-Ok.count new c.in-Ok.ensures.asked c.in-Ok.ensures.places c.worth_of_last.result
    (subst (λ (s : Shape). IsWorthOf s c.args.calls.now c.call_many.new.replies c.in-Ok.count c.worth_of_last.result) c.shape.ensures c.worth_of_last.ensures)

pub returns-in-Ok-clause-keeps : goal.returns-in-Ok-clause-keeps
returns-in-Ok-clause-keeps g c = λ mode h.
    agrees_first mode (g.L.Peer.view c.args.peer.now) (g.L.Peer.view c.call_many.new.self) c.args.calls.now c.call_many.new.replies c.in-Ok.count c.in-Ok.ensures.asked c.in-Ok.ensures.places c.requires.sort h

pub lost_at-requires : goal.lost_at-requires
lost_at-requires g c =
    let none = c.clear.ensures ∙ ap (λ n. replicate n to_come) c.requires.places in
    came_within (g.L.Peer.view c.args.peer.now) c.args.calls.now c.clear.new.replies c.call_many.new.replies c.in-Err.fault (g.L.Peer.view c.call_many.new.self) c.in-Err.ensures.asked (sorts_of c.args.calls.now c.requires.sort) none c.came.result c.came.ensures

pub returns-in-Err-clause-err : goal.returns-in-Err-clause-err
returns-in-Err-clause-err g c =
    let none = c.clear.ensures ∙ ap (λ n. replicate n to_come) c.requires.places in
    failed_at (g.L.Peer.view c.args.peer.now) c.args.calls.now c.clear.new.replies c.call_many.new.replies c.in-Err.fault (g.L.Peer.view c.call_many.new.self) c.in-Err.ensures.asked (sorts_of c.args.calls.now c.requires.sort) none c.came.result c.lost_at.result c.came.ensures c.lost_at.ensures

pub returns-in-Err-clause-keeps : goal.returns-in-Err-clause-keeps
returns-in-Err-clause-keeps g c = λ mode h.
    agrees_fault mode (g.L.Peer.view c.args.peer.now) (g.L.Peer.view c.call_many.new.self) c.args.calls.now c.clear.new.replies c.call_many.new.replies c.in-Err.fault c.in-Err.ensures.asked c.requires.sort h
