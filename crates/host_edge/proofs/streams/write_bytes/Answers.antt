use Rattle.std.proofs.Common.{◌<◌, ◌^◌, arith, length, take, ◌++◌}
use Rattle.host_edge.proofs.StreamLemmas.{part_broken, part_error, split_more, takes_more}
use Rattle.host_edge.proofs.streams.write_bytes.Goals as goal

pub returns-in-Err : goal.returns-in-Err
returns-in-Err g c =
    let so_far = c.writes.invariant in
    part_error _ _ _ _ _ _ so_far.split so_far.takes c.in-Err.ensures.some

pub writes-preserved : goal.writes-preserved
writes-preserved g c =
    let so_far = c.writes.invariant in
    let rest = c.writes.rest.now in
    let more = takes_more _ _ _ so_far.done rest c.in-Ok.count _ c.in-Ok.ensures.bound c.in-Ok.ensures.some so_far.takes so_far.turns in
    record {
      done = so_far.done ++ take c.in-Ok.count rest;
      split = split_more _ so_far.done rest c.in-Ok.count so_far.split;
      takes = more.0;
      turns = more.1;
    }

pub returns : goal.returns
returns g c =
    let so_far = c.writes.invariant in
    let short : length c.args.bytes.now < 2 ^ 63 = omega arith in
    part_broken _ _ _ so_far.done c.writes.rest.now _ so_far.split so_far.takes so_far.turns c.writes-test.false short
