use Rattle.std.proofs.Common.{◌≤◌, ℕ, Option, ap, arith, length, map, sym, ◌∙◌}
use Rattle.std.specs.List.{flat_map}
use Rattle.std.specs.Option.{option_map}
use Rattle.std.proofs.lemmas.List.{length-map}
use Rattle.value_types.specs.Values.{word_of}
use Rattle.run_rest.specs.Snapshot.{time_up_to}
use Rattle.system_checkpoint.specs.Spelling.{arming_bytes, option_bytes, times_bytes}
use Rattle.system_checkpoint.proofs.CallerLemmas.{arming_len, option_len, times_len}
use Rattle.event_iteration.specs.Clocks.{timers_in}
use Rattle.calling_sequence.specs.Holding.{arming_of, by_port, times_of}
use Rattle.calling_sequence.proofs.Putting.{by_port_len, len_after, most_bytes}
use Rattle.calling_sequence.proofs.kept.put_rest.Goals as goal

few_option : (x : Option ℕ) → length (option_bytes x) ≤ 9
few_option x = let len = option_len x in omega (arith, len)

pub put_words-requires-clause-room : goal.put_words-requires-clause-room
put_words-requires-clause-room c =
    let words = map (option_map word_of) c.args.buffers.now.values in
    let most = most_bytes option_bytes 9 few_option words in
    let l = length-map c.args.buffers.now.values (option_map word_of) in
    let places = c.requires.places in
    let room = c.requires.room in
    omega (arith, most, l, places, room)

pub put_all_times-requires-clause-room : goal.put_all_times-requires-clause-room
put_all_times-requires-clause-room c =
    let words = map (option_map word_of) c.args.buffers.now.values in
    let most = most_bytes option_bytes 9 few_option words in
    let l = length-map c.args.buffers.now.values (option_map word_of) in
    let places = c.requires.places in
    let room = c.requires.room in
    let ports = c.as_slice-ports.result.now in
    let p = ap length c.as_slice-ports.ensures in
    let clocks = c.requires.clocks in
    let n = by_port_len times_of ports c.args.buffers.now.schedule.clocks (clocks ∙ sym p) in
    let times = most_bytes times_bytes 32 times_len (by_port times_of ports (timers_in c.args.buffers.now.schedule)) in
    let b0 = c.args.bytes.now.ok.0 in
    let b1 = c.put_words.new.bytes.ok.0 in
    let l1 = len_after c.args.bytes.now.items c.put_words.new.bytes.items (flat_map option_bytes words) c.put_words.ensures.text in
    let grown = c.put_words.ensures.room in
    omega (arith, most, l, places, room, p, n, times, b0, b1, l1, grown)

pub put_armings-requires-clause-room : goal.put_armings-requires-clause-room
put_armings-requires-clause-room c =
    let words = map (option_map word_of) c.args.buffers.now.values in
    let most = most_bytes option_bytes 9 few_option words in
    let l = length-map c.args.buffers.now.values (option_map word_of) in
    let places = c.requires.places in
    let room = c.requires.room in
    let ports = c.as_slice-ports.result.now in
    let table = c.args.buffers.now.schedule in
    let p = ap length c.as_slice-ports.ensures in
    let clocks = c.requires.clocks in
    let n = by_port_len times_of ports table.clocks (clocks ∙ sym p) in
    let times = most_bytes times_bytes 32 times_len (by_port times_of ports (timers_in table)) in
    let m = by_port_len (arming_of table.stop) ports table.clocks (clocks ∙ sym p) in
    let armings = most_bytes arming_bytes 9 arming_len (by_port (arming_of table.stop) ports (timers_in table)) in
    let b0 = c.args.bytes.now.ok.0 in
    let b1 = c.put_words.new.bytes.ok.0 in
    let b2 = c.put_all_times.new.bytes.ok.0 in
    let l1 = len_after c.args.bytes.now.items c.put_words.new.bytes.items (flat_map option_bytes words) c.put_words.ensures.text in
    let l2 = len_after c.put_words.new.bytes.items c.put_all_times.new.bytes.items (flat_map times_bytes (by_port times_of ports (timers_in c.args.buffers.now.schedule))) c.put_all_times.ensures.text in
    let g1 = c.put_words.ensures.room in
    let g2 = c.put_all_times.ensures.room in
    omega (arith, most, l, places, room, p, n, times, m, armings, b0, b1, b2, l1, l2, g1, g2)

pub put_events-requires-clause-room : goal.put_events-requires-clause-room
put_events-requires-clause-room c =
    let words = map (option_map word_of) c.args.buffers.now.values in
    let most = most_bytes option_bytes 9 few_option words in
    let l = length-map c.args.buffers.now.values (option_map word_of) in
    let places = c.requires.places in
    let room = c.requires.room in
    let ports = c.as_slice-ports.result.now in
    let table = c.args.buffers.now.schedule in
    let p = ap length c.as_slice-ports.ensures in
    let clocks = c.requires.clocks in
    let n = by_port_len times_of ports table.clocks (clocks ∙ sym p) in
    let times = most_bytes times_bytes 32 times_len (by_port times_of ports (timers_in table)) in
    let m = by_port_len (arming_of table.stop) ports table.clocks (clocks ∙ sym p) in
    let armings = most_bytes arming_bytes 9 arming_len (by_port (arming_of table.stop) ports (timers_in table)) in
    let v = length-map table.events (time_up_to table.stop) in
    let events = most_bytes option_bytes 9 few_option (map (time_up_to table.stop) table.events) in
    let each = c.requires.events in
    let b0 = c.args.bytes.now.ok.0 in
    let b1 = c.put_words.new.bytes.ok.0 in
    let b2 = c.put_all_times.new.bytes.ok.0 in
    let b3 = c.put_armings.new.bytes.ok.0 in
    let l1 = len_after c.args.bytes.now.items c.put_words.new.bytes.items (flat_map option_bytes words) c.put_words.ensures.text in
    let l2 = len_after c.put_words.new.bytes.items c.put_all_times.new.bytes.items (flat_map times_bytes (by_port times_of ports (timers_in c.args.buffers.now.schedule))) c.put_all_times.ensures.text in
    let l3 = len_after c.put_all_times.new.bytes.items c.put_armings.new.bytes.items (flat_map arming_bytes (by_port (arming_of c.args.buffers.now.schedule.stop) ports (timers_in c.args.buffers.now.schedule))) c.put_armings.ensures.text in
    let g1 = c.put_words.ensures.room in
    let g2 = c.put_all_times.ensures.room in
    let g3 = c.put_armings.ensures.room in
    omega (arith, most, l, places, room, p, n, times, m, armings, v, events, each, b0, b1, b2, b3, l1, l2, l3, g1, g2, g3)
