use Rattle.std.proofs.Common.{◌≡◌, List, sym, ◌∙◌, ap, subst}
use Rattle.std.proofs.lemmas.Option.{same_Some}
use Rattle.fmu_peer.specs.Machine.{SavedMachine}
use Rattle.run_rest.specs.Parted.{at_step}
use Rattle.run_rest.specs.Rest.{Rest}
use Rattle.run_rest.specs.Snapshot.{Snapshot, resumed, snapshot_of}
use Rattle.held_laws.proofs.laws.resumes_from_bytes.Goals as goal

pub returns : goal.returns
returns c = λ r sound machines behaved packings reads prefix is js k l p q z read held trace from left.
    let kept : Snapshot = snapshot_of r (at_step r z) in
    let back = c.bytes_read_back.ensures r sound machines packings reads prefix z held in
    let states : read.states ≡ kept.states = same_Some _ _ (sym from.states ∙ back) in
    let same : read ≡ kept = from.others ∙ ap (λ (ss : List SavedMachine). record kept { states = ss }) states in
    c.resumption.ensures r sound machines (c.steps_within.ensures r behaved) prefix is js k l p q z held trace
    (subst (λ (x : Snapshot). Rest r (resumed r x) js l q) same left)
