use Rattle.std.proofs.Common.{◌≡◌, arith, map, get_or}
use Rattle.std.proofs.lemmas.List.{length-map}
use Rattle.run_rest.specs.Snapshot.{time_up_to}
use Rattle.system_checkpoint.specs.Spelling.{option_bytes}
use Rattle.system_checkpoint.proofs.CallerLemmas.{next_room, option_len}
use Rattle.calling_sequence.proofs.Putting.{event_there, put_all, put_on}
use Rattle.calling_sequence.proofs.kept.put_events.Goals as goal

pub put_option-requires : goal.put_option-requires
put_option-requires c =
    let k = c.loop-component.component in
    let table = c.args.schedule.now in
    let times = map (time_up_to table.stop) table.events in
    let n = c.requires.events in
    let w = c.loop-component-test.true in
    let l = length-map table.events (time_up_to table.stop) in
    let x = c.event_point.result in
    let is : x ≡ get_or times k x = event_there table k x (omega (arith, n, w)) c.event_point.ensures.found c.event_point.ensures.none in
    let i = c.loop-component.invariant in
    let fits = next_room option_bytes times k x x c.args.bytes.now.items c.loop-component.bytes.items _ _ _ is (omega (arith, n, w, l)) i.text c.args.bytes.now.ok.0 c.loop-component.bytes.ok.0 c.requires.room in
    let len = option_len x in
    let room = i.room in
    omega (arith, fits, len, room)

pub loop-component-preserved : goal.loop-component-preserved
loop-component-preserved c =
    let k = c.loop-component.component in
    let table = c.args.schedule.now in
    let times = map (time_up_to table.stop) table.events in
    let n = c.requires.events in
    let w = c.loop-component-test.true in
    let l = length-map table.events (time_up_to table.stop) in
    let x = c.event_point.result in
    let is : x ≡ get_or times k x = event_there table k x (omega (arith, n, w)) c.event_point.ensures.found c.event_point.ensures.none in
    let i = c.loop-component.invariant in
    let a = i.room in
    let b = c.put_option.ensures.room in
    record { text = put_on option_bytes times k x is (omega (arith, n, w, l)) _ _ _ i.text c.put_option.ensures.text; room = omega (arith, a, b) }

pub returns : goal.returns
returns c =
    let table = c.args.schedule.now in
    let over = c.loop-component-test.false in
    let n = c.requires.events in
    let l = length-map table.events (time_up_to table.stop) in
    record { text = put_all option_bytes (map (time_up_to table.stop) table.events) c.loop-component.component (omega (arith, over, n, l)) _ _ c.loop-component.invariant.text }
