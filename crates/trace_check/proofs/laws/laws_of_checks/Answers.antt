use Rattle.trace_check.proofs.LawLemmas.{limits_of_sound, one_first}
use Rattle.trace_check.proofs.laws.laws_of_checks.Goals as goal

pub returns : goal.returns
returns c = record { limits = limits_of_sound; one = one_first }
