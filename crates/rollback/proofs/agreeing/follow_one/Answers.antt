use Rattle.std.proofs.Common.{arith, sym, ◌∙◌}
use Rattle.rollback.proofs.OneTurn.{home_first, home_others, later_one, one_meets, one_stops, others_meet, others_stop, placed_others, tested_first, tested_others}
use Rattle.rollback.proofs.agreeing.follow_one.Goals as goal

pub ask_home-requires-clause-tested : goal.ask_home-requires-clause-tested
ask_home-requires-clause-tested g c κs within = tested_first g.L.Peer.view c.args.t c.args.step c.args.bound c.requires.later c.args.slots.now c.requires.home c.requires.one

pub ask_home-requires-clause-home : goal.ask_home-requires-clause-home
ask_home-requires-clause-home g c κs within = home_first g.L.Peer.view c.args.t c.args.step c.args.bound c.requires.later c.args.slots.now c.requires.home c.requires.one

pub returns-in-Err : goal.returns-in-Err
returns-in-Err g c = one_stops g.L.Peer.view c.args.t c.args.step c.args.bound c.requires.later c.args.slots.now c.requires.home c.requires.one c.ask_home.new.slots c.in-Err.unmade c.in-Err.ensures

pub returns-then-are_at : goal.returns-then-are_at
returns-then-are_at g c = one_meets g.L.Peer.view c.args.t c.args.step c.args.bound c.requires.later c.args.slots.now c.requires.home c.requires.one c.ask_home.new.slots (omega arith) c.in-Ok.ensures c.reached-first_end.result c.reached-first_end.ensures (sym c.are_at.ensures ∙ c.if-are_at.true)

pub ask_home-requires-2-clause-later : goal.ask_home-requires-2-clause-later
ask_home-requires-2-clause-later g c κs within = later_one g.L.Peer.view c.args.t c.args.step c.args.bound c.requires.later c.args.slots.now c.requires.home c.requires.one c.ask_home.new.slots (omega arith) c.in-Ok.ensures c.reached-first_end.result c.reached-first_end.ensures

pub ask_home-requires-2-clause-meant : goal.ask_home-requires-2-clause-meant
ask_home-requires-2-clause-meant g c κs within = later_one g.L.Peer.view c.args.t c.args.step c.args.bound c.requires.later c.args.slots.now c.requires.home c.requires.one c.ask_home.new.slots (omega arith) c.in-Ok.ensures c.reached-first_end.result c.reached-first_end.ensures

pub ask_home-requires-2-clause-placed : goal.ask_home-requires-2-clause-placed
ask_home-requires-2-clause-placed g c κs within = placed_others g.L.Peer.view c.args.t c.args.step c.args.bound c.requires.later c.args.slots.now c.requires.home c.requires.one c.ask_home.new.slots (omega arith) c.in-Ok.ensures c.reached-first_end.result c.reached-first_end.ensures

pub ask_home-requires-2-clause-tested : goal.ask_home-requires-2-clause-tested
ask_home-requires-2-clause-tested g c κs within = tested_others g.L.Peer.view c.args.t c.args.step c.args.bound c.requires.later c.args.slots.now c.requires.home c.requires.one c.ask_home.new.slots (omega arith) c.in-Ok.ensures c.reached-first_end.result c.reached-first_end.ensures

pub ask_home-requires-2-clause-home : goal.ask_home-requires-2-clause-home
ask_home-requires-2-clause-home g c κs within = home_others g.L.Peer.view c.args.t c.args.step c.args.bound c.requires.later c.args.slots.now c.requires.home c.requires.one c.ask_home.new.slots (omega arith) c.in-Ok.ensures c.reached-first_end.result c.reached-first_end.ensures

pub returns-in-Ok-ask_home : goal.returns-in-Ok-ask_home
returns-in-Ok-ask_home g c = others_meet g.L.Peer.view c.args.t c.args.step c.args.bound c.requires.later c.args.slots.now c.requires.home c.requires.one c.ask_home.new.slots (omega arith) c.in-Ok.ensures c.reached-first_end.result c.reached-first_end.ensures (sym c.are_at.ensures ∙ c.if-are_at.false) c.ask_home-2.new.slots (omega arith) c.in-Ok-ask_home.ensures

pub returns-in-Err-ask_home : goal.returns-in-Err-ask_home
returns-in-Err-ask_home g c = others_stop g.L.Peer.view c.args.t c.args.step c.args.bound c.requires.later c.args.slots.now c.requires.home c.requires.one c.ask_home.new.slots (omega arith) c.in-Ok.ensures c.reached-first_end.result c.reached-first_end.ensures (sym c.are_at.ensures ∙ c.if-are_at.false) c.ask_home-2.new.slots c.in-Err-ask_home.end c.in-Err-ask_home.ensures
