use Rattle.std.proofs.Common.{ap, arith, length, map, ◌∙◌}
use Rattle.std.specs.Prelude.{slice_set, true}
use Rattle.std.proofs.lemmas.List.{length-map}
use Rattle.tick_schedule.specs.Pending.{is_to_take}
use Rattle.tick_schedule.proofs.PendingLemmas.{flags_set, place_is_to_take}
use Rattle.tick_schedule.proofs.pending.Pending.add.Goals as goal

pub returns : goal.returns
returns c =
    let points = c.self.inside.heap in
    let place = c.args.place in
    let few = c.self.invariant.1 in
    let long = ap length c.self.view_is in
    let more = length-map points is_to_take in
    let within = c.requires in
    ap (map is_to_take) c.put_by.ensures ∙ flags_set points place place
    ∙ ap (slice_set (map is_to_take points) place) (place_is_to_take place (omega (arith, few, long, more, within)))
    ∙ ap (λ flags. slice_set flags place true) c.self.view_is
