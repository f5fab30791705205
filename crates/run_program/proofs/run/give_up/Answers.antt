use Rattle.std.proofs.Common.{map, subst}
use Rattle.fmu_peer.specs.declared.spawner.StartFault.{StartFault}
use Rattle.run_program.specs.declared.outcome.StartCause.TheVariants.{Failed, Unknown}
use Rattle.run_program.specs.Peers.{NotesFault}
use Rattle.run_program.proofs.GivingUp.{gave_up}
use Rattle.run_program.proofs.run.give_up.Goals as goal

pub returns-in-Failed : goal.returns-in-Failed
returns-in-Failed g c = λ task system before out same starts.
    gave_up task system before (g.S.Spawner.view c.args.spawner.now) (g.S.Spawner.view c.retire_each.new.spawner) out c.args.naming c.args.unstarted.component.0
    (map g.S.Link.Peer.view c.args.unstarted.peers.items) c.args.unstarted.fault Failed c.report_start_fault.result.outcome
    (λ component old new n. subst (λ (f : StartFault). NotesFault task.host f component old new) c.in-Failed.is n) same starts c.retire_each.ensures
    c.report_start_fault.ensures

pub returns-in-Unknown : goal.returns-in-Unknown
returns-in-Unknown g c = λ task system before out same starts.
    gave_up task system before (g.S.Spawner.view c.args.spawner.now) (g.S.Spawner.view c.retire_each.new.spawner) out c.args.naming c.args.unstarted.component.0
    (map g.S.Link.Peer.view c.args.unstarted.peers.items) c.args.unstarted.fault Unknown c.report_start_fault-in-Unknown.result.outcome
    (λ component old new n. subst (λ (f : StartFault). NotesFault task.host f component old new) c.in-Unknown.is n) same starts c.retire_each.ensures
    c.report_start_fault-in-Unknown.ensures
