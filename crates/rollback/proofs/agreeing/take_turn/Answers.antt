use Rattle.std.proofs.Common.{arith, sym, ◌∙◌}
use Rattle.rollback.proofs.Turning.{back_now, first_stops, goes_anew, later_now, met_first, met_next, next_stops, placed_now, tested_all, tested_now}
use Rattle.rollback.proofs.agreeing.take_turn.Goals as goal

pub ask-requires-clause-tested : goal.ask-requires-clause-tested
ask-requires-clause-tested g c κs within = tested_all g.L.Peer.view c.args.step _ c.args.slots.now

pub returns-in-Err : goal.returns-in-Err
returns-in-Err g c = first_stops g.L.Peer.view c.args.t c.args.step c.args.bound c.requires.later c.args.slots.now c.requires.several c.requires.saved c.ask.new.slots c.in-Err.end c.in-Err.ensures

pub returns-then-are_at : goal.returns-then-are_at
returns-then-are_at g c = met_first g.L.Peer.view c.args.t c.args.step c.args.bound c.requires.later c.args.slots.now c.requires.several c.requires.saved c.ask.new.slots (omega arith) c.in-Ok.ensures c.reached-m.result c.reached-m.ensures (sym c.are_at.ensures ∙ c.if-are_at.true)

pub ask-requires-2-clause-later : goal.ask-requires-2-clause-later
ask-requires-2-clause-later g c κs within = later_now g.L.Peer.view c.args.t c.args.step c.args.bound c.requires.later c.args.slots.now c.requires.several c.requires.saved c.ask.new.slots (omega arith) c.in-Ok.ensures c.reached-m.result c.reached-m.ensures

pub ask-requires-2-clause-meant : goal.ask-requires-2-clause-meant
ask-requires-2-clause-meant g c κs within = later_now g.L.Peer.view c.args.t c.args.step c.args.bound c.requires.later c.args.slots.now c.requires.several c.requires.saved c.ask.new.slots (omega arith) c.in-Ok.ensures c.reached-m.result c.reached-m.ensures

pub ask-requires-2-clause-placed : goal.ask-requires-2-clause-placed
ask-requires-2-clause-placed g c κs within = placed_now g.L.Peer.view c.args.t c.args.step c.args.bound c.requires.later c.args.slots.now c.requires.several c.requires.saved c.ask.new.slots (omega arith) c.in-Ok.ensures c.reached-m.result c.reached-m.ensures

pub ask-requires-2-clause-tested : goal.ask-requires-2-clause-tested
ask-requires-2-clause-tested g c κs within = tested_now g.L.Peer.view c.args.t c.args.step c.args.bound c.requires.later c.args.slots.now c.requires.several c.requires.saved c.ask.new.slots (omega arith) c.in-Ok.ensures c.reached-m.result c.reached-m.ensures

pub ask-requires-2-clause-back : goal.ask-requires-2-clause-back
ask-requires-2-clause-back g c κs within = back_now g.L.Peer.view c.args.t c.args.step c.args.bound c.requires.later c.args.slots.now c.requires.several c.requires.saved c.ask.new.slots (omega arith) c.in-Ok.ensures c.reached-m.result c.reached-m.ensures

pub returns-in-Err-ask : goal.returns-in-Err-ask
returns-in-Err-ask g c = next_stops g.L.Peer.view c.args.t c.args.step c.args.bound c.requires.later c.args.slots.now c.requires.several c.requires.saved c.ask.new.slots (omega arith) c.in-Ok.ensures c.reached-m.result c.reached-m.ensures (sym c.are_at.ensures ∙ c.if-are_at.false) c.ask-2.new.slots c.in-Err-ask.end c.in-Err-ask.ensures

pub returns-then-are_at-2 : goal.returns-then-are_at-2
returns-then-are_at-2 g c = met_next g.L.Peer.view c.args.t c.args.step c.args.bound c.requires.later c.args.slots.now c.requires.several c.requires.saved c.ask.new.slots (omega arith) c.in-Ok.ensures c.reached-m.result c.reached-m.ensures (sym c.are_at.ensures ∙ c.if-are_at.false) c.ask-2.new.slots (omega arith) c.in-Ok-ask.ensures (sym c.are_at-2.ensures ∙ c.if-are_at-2.true)

pub returns : goal.returns
returns g c = goes_anew g.L.Peer.view c.args.t c.args.step c.args.bound c.requires.later c.args.slots.now c.requires.several c.requires.saved c.ask.new.slots (omega arith) c.in-Ok.ensures c.reached-m.result c.reached-m.ensures (sym c.are_at.ensures ∙ c.if-are_at.false) c.ask-2.new.slots (omega arith) c.in-Ok-ask.ensures (sym c.are_at-2.ensures ∙ c.if-are_at-2.false) c.reached.result c.reached.ensures
