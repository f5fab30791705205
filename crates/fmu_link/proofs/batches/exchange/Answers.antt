use Rattle.std.proofs.Common.{◌≡◌, ◌+◌, length, arith}
use Rattle.std.proofs.lemmas.List.{length-take}
use Rattle.fmu_link.proofs.BatchHeads.{alone_arrives, alone_asked, both_arrive, both_asked, rest_long}
use Rattle.fmu_link.proofs.batches.exchange.Goals as goal

pub slice_bounds-copy_from_slice-end-2 : goal.slice_bounds-copy_from_slice-end-2
slice_bounds-copy_from_slice-end-2 g c = omega (arith, length-take 24 c.args.bytes.now)

pub copy_from_slice-requires : goal.copy_from_slice-requires
copy_from_slice-requires g c = omega (arith, length-take 24 c.args.bytes.now)

pub returns-in_default-clause-came : goal.returns-in_default-clause-came
returns-in_default-clause-came g c =
    let view = g.W.Wire.view in
    alone_arrives c.args.bytes.now c.copy_from_slice.new.self c.receive.new.into c.requires (omega arith) c.copy_from_slice.ensures.after
    (view c.args.wire.now) (view c.send.new.self) (view c.receive.new.self) c.args.batch.now c.in_ok-send.ensures.noted c.in_ok-receive.ensures.noted

pub returns-in_default-clause-asked_for : goal.returns-in_default-clause-asked_for
returns-in_default-clause-asked_for g c =
    alone_asked c.args.bytes.now c.copy_from_slice.new.self c.receive.new.into c.requires (omega arith) c.copy_from_slice.ensures.after c.in_default.ensures.none

pub returns-clause-came : goal.returns-clause-came
returns-clause-came g c =
    let view = g.W.Wire.view in
    let room = c.args.bytes.now in
    let end = c.batch_len-end.result in
    let head : length c.receive.new.into ≡ 24 = omega arith in
    let few = c.in-Some.ensures.some.few in
    let all : end ≡ 24 + length c.receive-2.new.into = rest_long room c.copy_from_slice.new.self c.receive.new.into c.requires head c.copy_from_slice.ensures.after c.receive-2.new.into end (omega (arith, few)) (omega (arith, few)) c.receive-2.auto.into in
    both_arrive room c.copy_from_slice.new.self c.receive.new.into c.requires head c.copy_from_slice.ensures.after
    (view c.args.wire.now) (view c.send.new.self) (view c.receive.new.self) (view c.receive-2.new.self) c.args.batch.now c.receive-2.new.into end all c.in_ok-send.ensures.noted c.in_ok-receive.ensures.noted c.in_ok-receive-2.ensures.noted

pub returns-clause-asked_for : goal.returns-clause-asked_for
returns-clause-asked_for g c =
    let room = c.args.bytes.now in
    let end = c.batch_len-end.result in
    let head : length c.receive.new.into ≡ 24 = omega arith in
    let few = c.in-Some.ensures.some.few in
    let all : end ≡ 24 + length c.receive-2.new.into = rest_long room c.copy_from_slice.new.self c.receive.new.into c.requires head c.copy_from_slice.ensures.after c.receive-2.new.into end (omega (arith, few)) (omega (arith, few)) c.receive-2.auto.into in
    both_asked room c.copy_from_slice.new.self c.receive.new.into c.requires head c.copy_from_slice.ensures.after c.receive-2.new.into end c.in-Some.count all c.batch_len-end.ensures c.in-Some.ensures.some
