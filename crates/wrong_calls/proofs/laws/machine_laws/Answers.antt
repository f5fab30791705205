use Rattle.wrong_calls.specs.Steady.{answers_alike, is_lawful, machine_is, unpacks_well}
use Rattle.wrong_calls.proofs.laws.machine_laws.Goals as goal

pub returns : goal.returns
returns c = record { machine = machine_is; ignores_slot = answers_alike; unpacks = unpacks_well; lawful = is_lawful }
