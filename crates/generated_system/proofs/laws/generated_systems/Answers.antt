use Rattle.std.proofs.Common.{refl}
use Rattle.generated_system.specs.Draws.{draw, drawn_for, next_number, number_after}
use Rattle.generated_system.proofs.SystemSound.{system_suited}
use Rattle.generated_system.proofs.laws.generated_systems.Goals as goal

pub returns : goal.returns
unfolding draw number_after next_number
returns c = record { draws = (refl, refl, refl, refl); components = λ seed n. system_suited (drawn_for seed) n }
