use Rattle.std.proofs.Common.{false, ap, ◌∙◌}
use Rattle.std.proofs.lemmas.List.{get_or_default}
use Rattle.fmi_calls.specs.declared.call.Call.{Call}
use Rattle.fmi_calls.specs.declared.call.Call.TheVariants as C
use Rattle.fmu_peer.specs.declared.ended.Why.TheVariants.{Link}
use Rattle.fmu_peer.proofs.fmu.lost_at.Goals as goal

pub returns : goal.returns
returns c = λ d. c.lost.ensures ∙ ap (λ (x : Call). Link x c.args.fault) (get_or_default c.args.calls.now c.args.i (C.Instantiate false false false) d c.requires)
