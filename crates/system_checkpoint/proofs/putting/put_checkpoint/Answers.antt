use Rattle.std.proofs.Common.{ap, arith, length}
use Rattle.std.specs.List.{flat_map}
use Rattle.system_checkpoint.specs.Spelling.{arming_bytes, first_bytes, option_bytes, sized, times_bytes}
use Rattle.system_checkpoint.proofs.LengthLemmas.{spelled_len}
use Rattle.system_checkpoint.proofs.PutLemmas.{put_after, put_list}
use Rattle.system_checkpoint.proofs.putting.put_checkpoint.Goals as goal

pub put_first-requires : goal.put_first-requires
put_first-requires c =
    let whole = spelled_len c.args.header.now c.args.held.now in
    record { room = omega (arith, c.requires.room, whole) }

pub put_sized-requires-clause-room : goal.put_sized-requires-clause-room
put_sized-requires-clause-room c =
    let whole = spelled_len c.args.header.now c.args.held.now in
    omega (arith, c.requires.room, whole, c.put_first.ensures.len, c.put_first.ensures.room)

pub put_states-requires-clause-room : goal.put_states-requires-clause-room
put_states-requires-clause-room c =
    let whole = spelled_len c.args.header.now c.args.held.now in
    let l2 = ap (λ xs. length (flat_map sized xs)) c.as_slice.ensures in
    omega (arith, c.requires.room, whole, c.put_first.ensures.len, c.put_first.ensures.room, c.put_sized.ensures.len, c.put_sized.ensures.room, l2)

pub put_options-requires : goal.put_options-requires
put_options-requires c =
    let whole = spelled_len c.args.header.now c.args.held.now in
    let l2 = ap (λ xs. length (flat_map sized xs)) c.as_slice.ensures in
    let l3 = ap (λ xs. length (flat_map option_bytes xs)) c.as_slice-2.ensures in
    record { room = omega (arith, c.requires.room, whole, c.put_first.ensures.len, c.put_first.ensures.room, c.put_sized.ensures.len, c.put_sized.ensures.room, l2, c.put_states.ensures.len, c.put_states.ensures.room, l3) }

pub put_all_times-requires : goal.put_all_times-requires
put_all_times-requires c =
    let whole = spelled_len c.args.header.now c.args.held.now in
    let l2 = ap (λ xs. length (flat_map sized xs)) c.as_slice.ensures in
    let l3 = ap (λ xs. length (flat_map option_bytes xs)) c.as_slice-2.ensures in
    let l4 = ap (λ xs. length (flat_map times_bytes xs)) c.as_slice-3.ensures in
    record { room = omega (arith, c.requires.room, whole, c.put_first.ensures.len, c.put_first.ensures.room, c.put_sized.ensures.len, c.put_sized.ensures.room, l2, c.put_states.ensures.len, c.put_states.ensures.room, l3, c.put_options.ensures.len, c.put_options.ensures.room, l4) }

pub put_armings-requires : goal.put_armings-requires
put_armings-requires c =
    let whole = spelled_len c.args.header.now c.args.held.now in
    let l2 = ap (λ xs. length (flat_map sized xs)) c.as_slice.ensures in
    let l3 = ap (λ xs. length (flat_map option_bytes xs)) c.as_slice-2.ensures in
    let l4 = ap (λ xs. length (flat_map times_bytes xs)) c.as_slice-3.ensures in
    let l5 = ap (λ xs. length (flat_map arming_bytes xs)) c.as_slice-4.ensures in
    record { room = omega (arith, c.requires.room, whole, c.put_first.ensures.len, c.put_first.ensures.room, c.put_sized.ensures.len, c.put_sized.ensures.room, l2, c.put_states.ensures.len, c.put_states.ensures.room, l3, c.put_options.ensures.len, c.put_options.ensures.room, l4, c.put_all_times.ensures.len, c.put_all_times.ensures.room, l5) }

pub put_options-requires-2 : goal.put_options-requires-2
put_options-requires-2 c =
    let whole = spelled_len c.args.header.now c.args.held.now in
    let l2 = ap (λ xs. length (flat_map sized xs)) c.as_slice.ensures in
    let l3 = ap (λ xs. length (flat_map option_bytes xs)) c.as_slice-2.ensures in
    let l4 = ap (λ xs. length (flat_map times_bytes xs)) c.as_slice-3.ensures in
    let l5 = ap (λ xs. length (flat_map arming_bytes xs)) c.as_slice-4.ensures in
    let l6 = ap (λ xs. length (flat_map option_bytes xs)) c.as_slice-5.ensures in
    record { room = omega (arith, c.requires.room, whole, c.put_first.ensures.len, c.put_first.ensures.room, c.put_sized.ensures.len, c.put_sized.ensures.room, l2, c.put_states.ensures.len, c.put_states.ensures.room, l3, c.put_options.ensures.len, c.put_options.ensures.room, l4, c.put_all_times.ensures.len, c.put_all_times.ensures.room, l5, c.put_armings.ensures.len, c.put_armings.ensures.room, l6) }

pub returns-clause-text : goal.returns-clause-text
returns-clause-text c =
    let held = c.args.held.now in
    put_after _ _ _ (first_bytes held.plan held.point) _ c.put_first.ensures.text
    (put_after _ _ _ (sized c.args.header.now) _ c.put_sized.ensures.text
    (put_after _ _ _ (flat_map sized held.states) _ (put_list sized _ held.states _ _ c.as_slice.ensures c.put_states.ensures.text)
    (put_after _ _ _ (flat_map option_bytes held.words) _ (put_list option_bytes _ held.words _ _ c.as_slice-2.ensures c.put_options.ensures.text)
    (put_after _ _ _ (flat_map times_bytes held.times) _ (put_list times_bytes _ held.times _ _ c.as_slice-3.ensures c.put_all_times.ensures.text)
    (put_after _ _ _ (flat_map arming_bytes held.armings) (flat_map option_bytes held.events) (put_list arming_bytes _ held.armings _ _ c.as_slice-4.ensures c.put_armings.ensures.text)
    (put_list option_bytes _ held.events _ _ c.as_slice-5.ensures c.put_options-2.ensures.text))))))
