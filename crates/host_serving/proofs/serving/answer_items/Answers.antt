use Rattle.std.proofs.Common.{◌≡◌, ◌+◌, ◌*◌, ◌<◌, ◌∙◌, ℕ, length, take, ap, sym, subst, arith}
use Rattle.std.proofs.lemmas.Bool.{false≢true}
use Rattle.std.proofs.lemmas.List.{length-set}
use Rattle.fmi_calls.specs.Kinds.{kind_of}
use Rattle.fmu_peer.specs.Many.{AnsweredFirst}
use Rattle.host_serving.proofs.AnsweringLemmas.{all_answered, answered_up_to, as_many, call_in, can_put, can_put_all, forbids, is_item, item_is, kind_in, loses_fault, loses_kind, one_more, plain_call}
use Rattle.host_serving.proofs.ServingLemmas.{calls_in, said_no, said_yes}
use Rattle.host_serving.proofs.serving.answer_items.Goals as goal

pub item-call-requires : goal.item-call-requires
item-call-requires g c = is_item c.args.room.now (length c.args.places.now) c.loop-i.i c.told-room c.requires (omega (arith, c.loop-i-test.true))

pub call-requires-clause-plain : goal.call-requires-clause-plain
call-requires-clause-plain g c =
    let room = c.args.room.now in
    let bytes = take (24 * (length c.args.places.now + 1)) room in
    let call = c.item-call.result in
    let batch = calls_in (length c.args.places.now) bytes c.requires in
    let calls = batch.0 in
    let is = batch.1 in
    let count = as_many (length c.args.places.now) bytes calls c.requires is in
    let at : call ≡ call_in calls c.loop-i.i = item_is room (length c.args.places.now) c.loop-i.i calls is count (omega (arith, c.loop-i-test.true)) call c.item-call.ensures in
    plain_call is.batch.one call is.batch.reads_or_sets (ap kind_of at ∙ kind_in calls bytes c.loop-i.i is (omega (arith, count, c.loop-i-test.true)))

pub returns-then-not-permitted-clause-answered : goal.returns-then-not-permitted-clause-answered
returns-then-not-permitted-clause-answered g c = λ calls is.
    let old = g.M.Peer.view c.args.machine.now in
    let now = g.M.Peer.view c.loop-i.machine in
    let room = c.args.room.now in
    let bytes = take (24 * (length c.args.places.now + 1)) room in
    let i = c.loop-i.i in
    let call = c.item-call.result in
    let count = as_many (length c.args.places.now) bytes calls c.requires is in
    let many : length c.loop-i.places ≡ length calls = c.loop-i.invariant.places ∙ sym count in
    let lt : i < length calls = omega (arith, count, c.loop-i-test.true) in
    let at : call ≡ call_in calls i = item_is room (length c.args.places.now) i calls is count (omega (arith, c.loop-i-test.true)) call c.item-call.ensures in
    let so = c.loop-i.invariant.answering calls is in
    forbids is.batch.one old now calls c.loop-i.places i call many lt at so
    (said_no c.permitted.result now.fixed.shape c.shape.result.now now.phase c.phase.result.now call c.permitted.ensures c.if-not-permitted.true c.shape.ensures c.phase.ensures.phase)

pub returns-in-Err-clause-answered : goal.returns-in-Err-clause-answered
returns-in-Err-clause-answered g c = λ calls is.
    let old = g.M.Peer.view c.args.machine.now in
    let now = g.M.Peer.view c.loop-i.machine in
    let room = c.args.room.now in
    let bytes = take (24 * (length c.args.places.now + 1)) room in
    let i = c.loop-i.i in
    let call = c.item-call.result in
    let count = as_many (length c.args.places.now) bytes calls c.requires is in
    let many : length c.loop-i.places ≡ length calls = c.loop-i.invariant.places ∙ sym count in
    let lt : i < length calls = omega (arith, count, c.loop-i-test.true) in
    let at : call ≡ call_in calls i = item_is room (length c.args.places.now) i calls is count (omega (arith, c.loop-i-test.true)) call c.item-call.ensures in
    let so = c.loop-i.invariant.answering calls is in
    let may = said_yes c.permitted.result now.fixed.shape c.shape.result.now now.phase c.phase.result.now call c.permitted.ensures c.if-not-permitted.false c.shape.ensures c.phase.ensures.phase in
    loses_fault is.batch.one old now calls c.loop-i.places i call many lt at so (g.M.Peer.view c.call.new.self) may c.in-Err.ensures.cause.rose

pub returns-then-not-is_of_kind-clause-answered : goal.returns-then-not-is_of_kind-clause-answered
returns-then-not-is_of_kind-clause-answered g c = λ calls is.
    let old = g.M.Peer.view c.args.machine.now in
    let now = g.M.Peer.view c.loop-i.machine in
    let room = c.args.room.now in
    let bytes = take (24 * (length c.args.places.now + 1)) room in
    let i = c.loop-i.i in
    let call = c.item-call.result in
    let count = as_many (length c.args.places.now) bytes calls c.requires is in
    let many : length c.loop-i.places ≡ length calls = c.loop-i.invariant.places ∙ sym count in
    let lt : i < length calls = omega (arith, count, c.loop-i-test.true) in
    let at : call ≡ call_in calls i = item_is room (length c.args.places.now) i calls is count (omega (arith, c.loop-i-test.true)) call c.item-call.ensures in
    let so = c.loop-i.invariant.answering calls is in
    let may = said_yes c.permitted.result now.fixed.shape c.shape.result.now now.phase c.phase.result.now call c.permitted.ensures c.if-not-permitted.false c.shape.ensures c.phase.ensures.phase in
    loses_kind is.batch.one old now calls c.loop-i.places i call many lt at so (g.M.Peer.view c.call.new.self) c.in-Ok.reply may c.in-Ok.ensures
    (λ same. false≢true (sym c.if-not-is_of_kind.true ∙ c.is_of_kind.ensures.1 same))

pub returns-in-Refused-clause-answered : goal.returns-in-Refused-clause-answered
returns-in-Refused-clause-answered g c = λ calls is.
    let old = g.M.Peer.view c.args.machine.now in
    let now = g.M.Peer.view c.loop-i.machine in
    let room = c.args.room.now in
    let bytes = take (24 * (length c.args.places.now + 1)) room in
    let i = c.loop-i.i in
    let call = c.item-call.result in
    let count = as_many (length c.args.places.now) bytes calls c.requires is in
    let many : length c.loop-i.places ≡ length calls = c.loop-i.invariant.places ∙ sym count in
    let lt : i < length calls = omega (arith, count, c.loop-i-test.true) in
    let at : call ≡ call_in calls i = item_is room (length c.args.places.now) i calls is count (omega (arith, c.loop-i-test.true)) call c.item-call.ensures in
    let so = c.loop-i.invariant.answering calls is in
    let may = said_yes c.permitted.result now.fixed.shape c.shape.result.now now.phase c.phase.result.now call c.permitted.ensures c.if-not-permitted.false c.shape.ensures c.phase.ensures.phase in
    answered_up_to is.batch.one old now calls c.loop-i.places i call many lt at so (g.M.Peer.view c.call.new.self) c.in-Ok.reply may c.in-Ok.ensures
    c.shape-in-loop-i.result.now c.grade.result c.shape-in-loop-i.ensures c.grade.ensures c.in-Refused.is

pub returns-in-Refused-clause-can : goal.returns-in-Refused-clause-can
returns-in-Refused-clause-can g c =
    let old = g.M.Peer.view c.args.machine.now in
    let now = g.M.Peer.view c.loop-i.machine in
    let room = c.args.room.now in
    let bytes = take (24 * (length c.args.places.now + 1)) room in
    let i = c.loop-i.i in
    let call = c.item-call.result in
    let batch = calls_in (length c.args.places.now) bytes c.requires in
    let calls = batch.0 in
    let is = batch.1 in
    let count = as_many (length c.args.places.now) bytes calls c.requires is in
    let many : length c.loop-i.places ≡ length calls = c.loop-i.invariant.places ∙ sym count in
    let lt : i < length calls = omega (arith, count, c.loop-i-test.true) in
    let at : call ≡ call_in calls i = item_is room (length c.args.places.now) i calls is count (omega (arith, c.loop-i-test.true)) call c.item-call.ensures in
    let so = c.loop-i.invariant.answering calls is in
    let kind = c.is_of_kind.ensures.0 c.if-not-is_of_kind.false ∙ ap kind_of at ∙ kind_in calls bytes i is lt in
    let few = c.requires.batch.few in
    let size = c.requires.count_is in
    can_put is.batch.one c.loop-i.places i c.in-Ok.reply is.batch.reads_or_sets (omega (arith, few, size, c.loop-i.invariant.places)) (omega (arith, lt, many)) so.kinds kind

pub returns-in-Refused-clause-within : goal.returns-in-Refused-clause-within
returns-in-Refused-clause-within g c =
    let whole = length-set c.loop-i.places c.loop-i.i c.in-Ok.reply in
    omega (arith, whole, c.loop-i.invariant.places, c.loop-i-test.true)

pub loop-i-preserved : goal.loop-i-preserved
loop-i-preserved g c = record {
  places = length-set c.loop-i.places c.loop-i.i c.in-Ok.reply ∙ c.loop-i.invariant.places;
  answering = λ calls is.
      let old = g.M.Peer.view c.args.machine.now in
      let now = g.M.Peer.view c.loop-i.machine in
      let room = c.args.room.now in
      let bytes = take (24 * (length c.args.places.now + 1)) room in
      let i = c.loop-i.i in
      let call = c.item-call.result in
      let count = as_many (length c.args.places.now) bytes calls c.requires is in
      let many : length c.loop-i.places ≡ length calls = c.loop-i.invariant.places ∙ sym count in
      let lt : i < length calls = omega (arith, count, c.loop-i-test.true) in
      let at : call ≡ call_in calls i = item_is room (length c.args.places.now) i calls is count (omega (arith, c.loop-i-test.true)) call c.item-call.ensures in
      let so = c.loop-i.invariant.answering calls is in
      let may = said_yes c.permitted.result now.fixed.shape c.shape.result.now now.phase c.phase.result.now call c.permitted.ensures c.if-not-permitted.false c.shape.ensures c.phase.ensures.phase in
      let kind = c.is_of_kind.ensures.0 c.if-not-is_of_kind.false ∙ ap kind_of at ∙ kind_in calls bytes i is lt in
      one_more is.batch.one old now calls c.loop-i.places i call many lt at so (g.M.Peer.view c.call.new.self) c.in-Ok.reply may c.in-Ok.ensures
      c.shape-in-loop-i.result.now c.grade.result c.shape-in-loop-i.ensures c.grade.ensures kind c.in-Good.is;
}

pub returns-clause-answered : goal.returns-clause-answered
returns-clause-answered g c = λ calls is.
    let old = g.M.Peer.view c.args.machine.now in
    let now = g.M.Peer.view c.loop-i.machine in
    let count = as_many (length c.args.places.now) (take (24 * (length c.args.places.now + 1)) c.args.room.now) calls c.requires is in
    let many : length c.loop-i.places ≡ length calls = c.loop-i.invariant.places ∙ sym count in
    let some = c.requires.batch.some in
    let size = c.requires.count_is in
    subst (λ (n : ℕ). AnsweredFirst old calls c.loop-i.places n now) (sym many)
    (all_answered is.batch.one old now calls c.loop-i.places c.loop-i.i many (omega (arith, count, some, size)) (omega (arith, c.loop-i-test.false, many, c.loop-i.auto.i-end)) (c.loop-i.invariant.answering calls is))

pub returns-clause-can : goal.returns-clause-can
returns-clause-can g c =
    let batch = calls_in (length c.args.places.now) (take (24 * (length c.args.places.now + 1)) c.args.room.now) c.requires in
    let some = c.requires.batch.some in
    let few = c.requires.batch.few in
    let size = c.requires.count_is in
    can_put_all batch.1.batch.one c.loop-i.places c.loop-i.i batch.1.batch.reads_or_sets (omega (arith, some, size, c.loop-i.invariant.places)) (omega (arith, few, size, c.loop-i.invariant.places))
    (omega (arith, c.loop-i-test.false, c.loop-i.auto.i-end)) (c.loop-i.invariant.answering batch.0 batch.1).kinds
