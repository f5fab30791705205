use Rattle.fmu_peer.specs.CloseAll.{instance_in}
use Rattle.fmu_peer.specs.Mode.{instantiate_of}
use Rattle.step_master.specs.FreshInstances.{IsFresh}
use Rattle.calling_sequence.specs.Place.{IsMade}
use Rattle.slot_calls.proofs.CallerLemmas.{stage_all}
use Rattle.step_master.proofs.FreshLemmas.{start_leads}
use Rattle.step_master.proofs.taking.make.Goals as goal

pub returns-clause-made : goal.returns-clause-made
returns-clause-made g c =
    let stage = c.in_ok-each.ensures.stage in
    stage_all (λ s. instance_in g.L.Peer.view s) (instantiate_of c.args.link) IsFresh IsMade (start_leads c.args.link) c.args.slots.now c.each.new.slots stage.log stage.told stage.says.0 c.requires.fresh
