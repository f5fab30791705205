use Rattle.std.proofs.Common.{arith, false, is_some, All, subst, ◌≡◌}
use Rattle.std.proofs.lemmas.List.Elements.{All-head, All-tail}
use Rattle.std.specs.Vec.Iter.{into_iter_items}
use Rattle.fmu_peer.specs.CloseAll.{peer_in}
use Rattle.step_master.proofs.FreshLemmas.{given_more}
use Rattle.step_master.proofs.taking.give_back.Goals as goal

pub peer_of-requires-after_bounds : goal.peer_of-requires-after_bounds
peer_of-requires-after_bounds g c κs within =
    All-head (λ s. is_some s.saved ≡ false) c.in-Some.slot (into_iter_items c.next.new.self) (subst (All (λ s. is_some s.saved ≡ false)) c.in-Some.ensures.items c.loop-slot.invariant.spent)

pub loop-slot-preserved : goal.loop-slot-preserved
loop-slot-preserved g c = record {
  given = given_more (λ s. peer_in s.held) _ _ _ _ (into_iter_items c.next.new.self) c.in-Some.slot _ c.loop-slot.invariant.given c.in-Some.ensures.items c.peer_of.ensures c.push_reserved.ensures.items;
  spent = All-tail (λ s. is_some s.saved ≡ false) c.in-Some.slot (into_iter_items c.next.new.self) (subst (All (λ s. is_some s.saved ≡ false)) c.in-Some.ensures.items c.loop-slot.invariant.spent);
  room = omega (arith, c.in-Some.ensures.len, c.push_reserved.ensures.len, c.push_reserved.ensures.capacity, c.loop-slot.invariant.room);
}
