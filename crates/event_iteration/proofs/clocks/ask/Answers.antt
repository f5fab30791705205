use Rattle.std.proofs.Common.{refl}
use Rattle.std.proofs.lemmas.List.Elements.{All-set}
use Rattle.fmu_peer.specs.CloseAll.{instance_in}
use Rattle.slot_calls.specs.Slots.{LiveSlot}
use Rattle.event_iteration.proofs.Asking.{may_send, modes_after, sort_of, stage_bad, stage_good}
use Rattle.event_iteration.proofs.clocks.ask.Goals as goal

pub send-requires-clause-permitted : goal.send-requires-clause-permitted
send-requires-clause-permitted g c κs within =
    may_send (λ s. instance_in g.L.Peer.view s) c.args.slots.now c.args.component.0 c.index-slots-component.result c.requires.within c.args.call c.requires.may

pub send-requires-clause-sort : goal.send-requires-clause-sort
send-requires-clause-sort g c κs within =
    sort_of (λ s. instance_in g.L.Peer.view s) c.args.slots.now c.args.component.0 c.index-slots-component.result c.requires.within c.args.call c.requires.may

pub returns-in-Ok-clause-live : goal.returns-in-Ok-clause-live
returns-in-Ok-clause-live g c = All-set (LiveSlot g.L.Peer.view) c.args.slots.now c.args.component.0 c.send.new.slot c.in-Ok.ensures.live c.requires.live

pub returns-in-Ok-clause-modes : goal.returns-in-Ok-clause-modes
returns-in-Ok-clause-modes g c =
    modes_after (λ s. instance_in g.L.Peer.view s) c.args.slots.now c.args.component.0 c.index-slots-component.result c.requires.within c.args.call c.send.new.slot c.requires.may c.in-Ok.reply c.in-Ok.ensures.one

pub returns-in-Ok-clause-stage : goal.returns-in-Ok-clause-stage
returns-in-Ok-clause-stage g c =
    stage_good (λ s. instance_in g.L.Peer.view s) c.args.slots.now c.args.component.0 c.index-slots-component.result c.requires.within c.args.call c.send.new.slot c.requires.may c.in-Ok.reply c.in-Ok.ensures.one

pub returns-in-Err-clause-stage : goal.returns-in-Err-clause-stage
returns-in-Err-clause-stage g c =
    stage_bad (λ s. instance_in g.L.Peer.view s) c.args.slots.now c.args.component.0 c.index-slots-component.result c.requires.within c.args.call c.send.new.slot (record { component = c.args.component; why = c.in-Err.why }) refl c.in-Err.ensures.one
