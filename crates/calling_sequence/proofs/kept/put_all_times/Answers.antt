use Rattle.std.proofs.Common.{◌≡◌, ◌<◌, Option, arith, length, map, sym, append-nil, get_or, ◌∙◌}
use Rattle.std.specs.Prelude.{IfSome}
use Rattle.std.proofs.lemmas.List.Elements.{All-nil}
use Rattle.system_checkpoint.specs.declared.snapshot.ClockTimes.{ClockTimes}
use Rattle.system_checkpoint.specs.Spelling.{AreTimes, times_bytes}
use Rattle.system_checkpoint.proofs.CallerLemmas.{next_room}
use Rattle.event_iteration.specs.Clocks.{timer_in}
use Rattle.calling_sequence.specs.Holding.{by_port, times_of}
use Rattle.calling_sequence.proofs.Putting.{at_place, by_port_at, by_port_len, all_bounds, bounds_more, put_all, put_on, seen_at}
use Rattle.calling_sequence.proofs.kept.put_all_times.Goals as goal

abbrev HasBounds : Option ClockTimes → Type 0
HasBounds times = IfSome times AreTimes

pub times_at-requires : goal.times_at-requires
times_at-requires c = let w = c.loop-place-test.true in let clocks = c.requires.clocks in omega (arith, w, clocks)

pub put_times-requires : goal.put_times-requires
put_times-requires c =
    let k = c.loop-place.place in
    let ports = c.args.ports.now in
    let states = c.args.schedule.now.clocks in
    let w : k < length ports = c.loop-place-test.true in
    let clocks = c.requires.clocks in
    let all = by_port times_of ports (map timer_in states) in
    let within : k < length all = let l = by_port_len times_of ports states clocks in omega (arith, l, w) in
    let state = seen_at states k (omega (arith, w, clocks)) in
    let port = at_place ports k c.index-ports-place.result w c.index-ports-place.is in
    let x = c.times_at.result in
    let is : x ≡ get_or all k x = c.times_at.ensures.times state.0 state.1 (c.requires.stand k c.index-ports-place.result state.0 port state.1) ∙ sym (by_port_at times_of ports states k c.index-ports-place.result state.0 x port state.1) in
    let i = c.loop-place.invariant in
    let fits = next_room times_bytes all k x x c.args.bytes.now.items c.loop-place.bytes.items _ _ _ is within i.text c.args.bytes.now.ok.0 c.loop-place.bytes.ok.0 c.requires.room in
    let room = i.room in
    omega (arith, fits, room)

pub loop-place-preserved : goal.loop-place-preserved
loop-place-preserved c =
    let k = c.loop-place.place in
    let ports = c.args.ports.now in
    let states = c.args.schedule.now.clocks in
    let w : k < length ports = c.loop-place-test.true in
    let clocks = c.requires.clocks in
    let all = by_port times_of ports (map timer_in states) in
    let within : k < length all = let l = by_port_len times_of ports states clocks in omega (arith, l, w) in
    let state = seen_at states k (omega (arith, w, clocks)) in
    let port = at_place ports k c.index-ports-place.result w c.index-ports-place.is in
    let x = c.times_at.result in
    let is : x ≡ get_or all k x = c.times_at.ensures.times state.0 state.1 (c.requires.stand k c.index-ports-place.result state.0 port state.1) ∙ sym (by_port_at times_of ports states k c.index-ports-place.result state.0 x port state.1) in
    let i = c.loop-place.invariant in
    let a = i.room in
    let b = c.put_times.ensures.room in
    record { text = put_on times_bytes all k x is within _ _ _ i.text c.put_times.ensures.text; room = omega (arith, a, b); bounds = bounds_more HasBounds all k x is within i.bounds c.times_at.ensures.bounds }

pub returns-clause-text : goal.returns-clause-text
returns-clause-text c =
    let over = c.loop-place-test.false in
    let ports = c.args.ports.now in
    let states = c.args.schedule.now.clocks in
    let l = by_port_len times_of ports states c.requires.clocks in
    put_all times_bytes (by_port times_of ports (map timer_in states)) c.loop-place.place (omega (arith, over, l)) _ _ c.loop-place.invariant.text

pub returns-clause-bounds : goal.returns-clause-bounds
returns-clause-bounds c =
    let over = c.loop-place-test.false in
    let ports = c.args.ports.now in
    let states = c.args.schedule.now.clocks in
    let l = by_port_len times_of ports states c.requires.clocks in
    all_bounds HasBounds (by_port times_of ports (map timer_in states)) c.loop-place.place (omega (arith, over, l)) c.loop-place.invariant.bounds

pub loop-place-init : goal.loop-place-init
loop-place-init c = record { text = sym (append-nil c.args.bytes.now.items); room = omega arith; bounds = All-nil (λ (times : Option ClockTimes). IfSome times AreTimes) }
