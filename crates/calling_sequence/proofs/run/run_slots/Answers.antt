use Rattle.std.proofs.Common.{[], ap, length, refl, subst, sym, ◌∙◌}
use Rattle.std.proofs.lemmas.List.{with_items_is}
use Rattle.trace_text.specs.Room.{HoldsEach}
use Rattle.slot_calls.proofs.CallerLemmas.{told_none}
use Rattle.slot_calls.specs.Slots.{instances}
use Rattle.calling_sequence.specs.Course.{AtFirst, Made, Whole}
use Rattle.calling_sequence.specs.Ends.{Header, header_of}
use Rattle.calling_sequence.specs.Here.{Here, HoldsEnds, Past}
use Rattle.calling_sequence.proofs.Ways.{concluded}
use Rattle.calling_sequence.proofs.run.run_slots.Goals as goal

pub returns-in-Err : goal.returns-in-Err
returns-in-Err g c =
    let e = c.args.experiment.now in
    record {
      log = [];
      is = [];
      told = told_none (instances g.L.Peer.view c.args.slots.now);
      ends = record { pieces = []; piece = header_of e.system e.plan; awaits = Header; cuts = c.in-Err.ensures.err.1 };
      counted_is = c.requires.fresh.none;
    }

pub follow-broken-requires-after_bounds : goal.follow-broken-requires-after_bounds
follow-broken-requires-after_bounds g c κs lives =
    let f = c.requires.fresh in
    let text = with_items_is c.args.buffers.now.text c.put_head.new.text (c.put_head.auto.text ∙ c.deref_mut.ensures.len) in
    let same = ap length text ∙ c.put_head.auto.text ∙ ap length c.deref_mut.ensures.value in
    record { ready = c.requires.ready; fresh = record { reads_are = f.reads_are; know = record { participants = f.know.participants; room = f.know.room }; clocks = f.clocks; places = f.places; holds = subst (HoldsEach c.args.experiment.now.system) (sym same) f.holds; none = f.none } }

pub conclude-requires : goal.conclude-requires
conclude-requires g c =
    let text = with_items_is c.args.buffers.now.text c.put_head.new.text (c.put_head.auto.text ∙ c.deref_mut.ensures.len) in
    let same = ap length c.deref_mut-2.ensures.value ∙ c.follow-broken.ensures.text ∙ ap length text ∙ c.put_head.auto.text ∙ ap length c.deref_mut.ensures.value in
    subst HoldsEnds (sym same) c.requires.fresh.holds.end

pub returns : goal.returns
returns g c =
    let e = c.args.experiment.now in
    let past : Past = record { sink = g.O.Sink.view c.args.out.now; extent = Whole } in
    let here : Here e (instances g.L.Peer.view c.args.slots.now) past Made (instances g.L.Peer.view c.args.slots.now) (g.O.Sink.view c.put_head.new.out) c.args.buffers.now.instants =
    record { log = []; is = []; told = told_none (instances g.L.Peer.view c.args.slots.now); course = AtFirst; put = c.in-Ok.ensures.ok; counted = c.requires.fresh.none } in
    concluded e _ past _ _ _ _ c.follow-broken.result (c.follow-broken.ensures.breaks _ past (record { puts_them = refl; leaves = λ t below. tt }) here) c.conclude.result c.conclude.ensures
