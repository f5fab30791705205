use Rattle.system_model.proofs.ExampleSound.{example_sound}
use Rattle.system_model.proofs.OutputsSound.{outputs_sound}
use Rattle.system_model.proofs.laws.sound_systems.Goals as goal

pub returns : goal.returns
returns c = record { example = example_sound; outputs = outputs_sound }
