use Rattle.std.proofs.Common.{◌++◌, take, arith, ap, ◌∙◌}
use Rattle.std.proofs.lemmas.Option.{slice_get-get_or}
use Rattle.std.specs.Prelude.{decimal, get_or}
use Rattle.run_program.proofs.LoopText.{one_more}
use Rattle.run_program.proofs.message.append_ports.Goals as goal

pub append_number-end-requires : goal.append_number-end-requires
append_number-end-requires c =
    let i = c.loop-port.invariant in
    let less = c.loop-port-test.true in
    let room = c.requires in
    let end = c.append-end.ensures.end in
    let same = c.append-end.auto.text in
    let up_to = i.end in
    let all = i.room in
    omega (arith, less, room, end, same, up_to, all)

pub loop-port-preserved : goal.loop-port-preserved
loop-port-preserved c =
    let i = c.loop-port.invariant in
    let less = c.loop-port-test.true in
    let end = c.append-end.ensures.end in
    let last = c.append_number-end.ensures.end in
    let one = c.append-end.auto.text in
    let two = c.append_number-end.auto.text in
    let up_to = i.end in
    let all = i.room in
    record {
      within = omega (arith, less);
      room = omega (arith, one, two, all);
      end = omega (arith, end, last, up_to);
      text = one_more (take c.args.at c.args.text.now) _ _ _ c.args.ports.now c.loop-port.port-index (get_or c.args.ports.now c.loop-port.port-index (record { 0 = 0 }))
          (slice_get-get_or c.args.ports.now c.loop-port.port-index (record { 0 = 0 }) less)
          i.text c.append-end.ensures.text
          (c.append_number-end.ensures.text ∙ ap (λ n. take c.append-end.result c.append-end.new.text ++ decimal n) c.from.ensures);
    }
