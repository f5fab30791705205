use Rattle.std.proofs.Common.{◌≡◌, ◌<◌, arith, length, map, sym, get_or, ◌∙◌}
use Rattle.system_checkpoint.specs.Spelling.{arming_bytes}
use Rattle.system_checkpoint.proofs.CallerLemmas.{next_room}
use Rattle.event_iteration.specs.Clocks.{timer_in}
use Rattle.calling_sequence.specs.Holding.{arming_of, by_port}
use Rattle.calling_sequence.proofs.Putting.{at_place, by_port_at, by_port_len, put_all, put_on, seen_at}
use Rattle.calling_sequence.proofs.kept.put_armings.Goals as goal

pub arming_at-requires : goal.arming_at-requires
arming_at-requires c = let w = c.loop-place-test.true in let clocks = c.requires.clocks in omega (arith, w, clocks)

pub put_arming-requires : goal.put_arming-requires
put_arming-requires c =
    let k = c.loop-place.place in
    let ports = c.args.ports.now in
    let states = c.args.schedule.now.clocks in
    let w : k < length ports = c.loop-place-test.true in
    let clocks = c.requires.clocks in
    let all = by_port (arming_of c.args.schedule.now.stop) ports (map timer_in states) in
    let within : k < length all = let l = by_port_len (arming_of c.args.schedule.now.stop) ports states clocks in omega (arith, l, w) in
    let state = seen_at states k (omega (arith, w, clocks)) in
    let port = at_place ports k c.index-ports-place.result w c.index-ports-place.is in
    let x = c.arming_at.result in
    let is : x ≡ get_or all k x = c.arming_at.ensures state.0 state.1 (c.requires.stand k c.index-ports-place.result state.0 port state.1) ∙ sym (by_port_at (arming_of c.args.schedule.now.stop) ports states k c.index-ports-place.result state.0 x port state.1) in
    let i = c.loop-place.invariant in
    let fits = next_room arming_bytes all k x x c.args.bytes.now.items c.loop-place.bytes.items _ _ _ is within i.text c.args.bytes.now.ok.0 c.loop-place.bytes.ok.0 c.requires.room in
    let room = i.room in
    omega (arith, fits, room)

pub loop-place-preserved : goal.loop-place-preserved
loop-place-preserved c =
    let k = c.loop-place.place in
    let ports = c.args.ports.now in
    let states = c.args.schedule.now.clocks in
    let w : k < length ports = c.loop-place-test.true in
    let clocks = c.requires.clocks in
    let all = by_port (arming_of c.args.schedule.now.stop) ports (map timer_in states) in
    let within : k < length all = let l = by_port_len (arming_of c.args.schedule.now.stop) ports states clocks in omega (arith, l, w) in
    let state = seen_at states k (omega (arith, w, clocks)) in
    let port = at_place ports k c.index-ports-place.result w c.index-ports-place.is in
    let x = c.arming_at.result in
    let is : x ≡ get_or all k x = c.arming_at.ensures state.0 state.1 (c.requires.stand k c.index-ports-place.result state.0 port state.1) ∙ sym (by_port_at (arming_of c.args.schedule.now.stop) ports states k c.index-ports-place.result state.0 x port state.1) in
    let i = c.loop-place.invariant in
    let a = i.room in
    let b = c.put_arming.ensures.room in
    record { text = put_on arming_bytes all k x is within _ _ _ i.text c.put_arming.ensures.text; room = omega (arith, a, b) }

pub returns-clause-text : goal.returns-clause-text
returns-clause-text c =
    let over = c.loop-place-test.false in
    let ports = c.args.ports.now in
    let states = c.args.schedule.now.clocks in
    let l = by_port_len (arming_of c.args.schedule.now.stop) ports states c.requires.clocks in
    put_all arming_bytes (by_port (arming_of c.args.schedule.now.stop) ports (map timer_in states)) c.loop-place.place (omega (arith, over, l)) _ _ c.loop-place.invariant.text
