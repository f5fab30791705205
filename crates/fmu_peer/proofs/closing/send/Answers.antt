use Rattle.std.proofs.Common.{◌∙◌, ap, rules}
use Rattle.fmu_peer.specs.Close.{is_fatal_answer}
use Rattle.fmu_peer.specs.View.{Fixed}
use Rattle.value_types.specs.declared.shape.Shape.{Shape}
use Rattle.fmu_peer.proofs.CloseLemmas.{sends_one, not_permitted}
use Rattle.fmu_peer.proofs.closing.send.Goals as goal

pub returns-then-permitted : goal.returns-then-permitted
returns-then-permitted g c =
    sends_one (g.L.Peer.view c.args.peer.now) (g.L.Peer.view c.call-answer.new.self) c.args.call c.call-answer.result c.is_fatal.result (search rules) c.call-answer.ensures
    (c.is_fatal.ensures ∙ ap (λ (s : Shape). is_fatal_answer s c.args.call c.call-answer.result) (c.shape-then-permitted.ensures ∙ ap (λ (f : Fixed). f.shape) c.call-answer.ensures.fixed))

pub returns-else-permitted : goal.returns-else-permitted
returns-else-permitted g c =
    not_permitted (g.L.Peer.view c.args.peer.now) c.args.call c.shape.result.now c.phase.result.now c.permitted.result c.shape.ensures c.phase.ensures.phase c.permitted.ensures.1 c.if-permitted.false
