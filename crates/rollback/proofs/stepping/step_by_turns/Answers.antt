use Rattle.std.proofs.Common.{arith, ◌∙◌}
use Rattle.rollback.proofs.SavedSteps.{agreement_stops, all_stepped, at_mid, can_free, can_save, done, early_counted, early_mid, fits_all, frees_bad, placed_mid, saved_mid, saves_badly, unfitted}
use Rattle.rollback.proofs.stepping.step_by_turns.Goals as goal

pub returns-in-Err-clause-steps : goal.returns-in-Err-clause-steps
returns-in-Err-clause-steps g c = unfitted g.L.Peer.view c.args.t c.args.bound c.args.step c.args.slots.now c.requires.ready c.in-Err.unfit c.in-Err.ensures

pub send-requires-clause-can : goal.send-requires-clause-can
send-requires-clause-can g c κs within = can_save g.L.Peer.view c.args.t c.args.bound c.args.step c.early_count-early.result c.args.slots.now c.requires.ready (c.early_count-early.ensures ∙ early_counted g.L.Peer.view c.args.slots.now) c.requires.saves

pub returns-in-Err-send-clause-steps : goal.returns-in-Err-send-clause-steps
returns-in-Err-send-clause-steps g c =
    saves_badly g.L.Peer.view c.args.t c.args.bound c.args.step c.args.slots.now c.requires.ready c.early_count-early.result (c.early_count-early.ensures ∙ early_counted g.L.Peer.view c.args.slots.now) c.send.new.slots c.in-Err-send.bad c.in-Ok.ensures c.in-Err-send.ensures

pub agree-requires-clause-placed : goal.agree-requires-clause-placed
agree-requires-clause-placed g c κs within = placed_mid g.L.Peer.view c.args.t c.args.bound c.args.step c.early_count-early.result c.args.slots.now c.requires.ready (c.early_count-early.ensures ∙ early_counted g.L.Peer.view c.args.slots.now) c.requires.saves c.send.new.slots (omega arith) c.in-Ok-send.ensures

pub agree-requires-clause-saved : goal.agree-requires-clause-saved
agree-requires-clause-saved g c κs within = saved_mid g.L.Peer.view c.args.t c.args.bound c.args.step c.early_count-early.result c.args.slots.now c.requires.ready (c.early_count-early.ensures ∙ early_counted g.L.Peer.view c.args.slots.now) c.requires.saves c.send.new.slots (omega arith) c.in-Ok-send.ensures

pub agree-requires-clause-home : goal.agree-requires-clause-home
agree-requires-clause-home g c κs within = at_mid g.L.Peer.view c.args.t c.args.bound c.args.step c.early_count-early.result c.args.slots.now c.requires.ready (c.early_count-early.ensures ∙ early_counted g.L.Peer.view c.args.slots.now) c.requires.saves c.send.new.slots (omega arith) c.in-Ok-send.ensures

pub agree-requires-clause-counted : goal.agree-requires-clause-counted
agree-requires-clause-counted g c κs within = early_mid g.L.Peer.view c.args.t c.args.bound c.args.step c.early_count-early.result c.args.slots.now c.requires.ready (c.early_count-early.ensures ∙ early_counted g.L.Peer.view c.args.slots.now) c.requires.saves c.send.new.slots (omega arith) c.in-Ok-send.ensures

pub returns-in-Err-agree-clause-steps : goal.returns-in-Err-agree-clause-steps
returns-in-Err-agree-clause-steps g c = agreement_stops g.L.Peer.view c.args.t c.args.bound c.args.step c.early_count-early.result c.args.slots.now c.requires.ready (c.early_count-early.ensures ∙ early_counted g.L.Peer.view c.args.slots.now) c.requires.saves c.send.new.slots (omega arith) c.in-Ok-send.ensures (fits_all g.L.Peer.view c.args.t c.args.bound c.args.step c.args.slots.now c.requires.ready c.in-Ok.ensures) c.agree.new.slots c.in-Err-agree.end c.in-Err-agree.ensures

pub send-requires-2-clause-can : goal.send-requires-2-clause-can
send-requires-2-clause-can g c κs within = can_free g.L.Peer.view c.args.t c.args.bound c.args.step c.early_count-early.result c.args.slots.now c.requires.ready (c.early_count-early.ensures ∙ early_counted g.L.Peer.view c.args.slots.now) c.requires.saves c.send.new.slots (omega arith) c.in-Ok-send.ensures (fits_all g.L.Peer.view c.args.t c.args.bound c.args.step c.args.slots.now c.requires.ready c.in-Ok.ensures) c.agree.new.slots (omega arith) c.in-Ok-agree.point c.in-Ok-agree.ensures

pub returns-in-Ok-send-2-clause-stepped : goal.returns-in-Ok-send-2-clause-stepped
returns-in-Ok-send-2-clause-stepped g c = all_stepped g.L.Peer.view c.args.t c.args.bound c.args.step c.early_count-early.result c.args.slots.now c.requires.ready (c.early_count-early.ensures ∙ early_counted g.L.Peer.view c.args.slots.now) c.requires.saves c.send.new.slots (omega arith) c.in-Ok-send.ensures (fits_all g.L.Peer.view c.args.t c.args.bound c.args.step c.args.slots.now c.requires.ready c.in-Ok.ensures) c.agree.new.slots (omega arith) c.in-Ok-agree.point c.in-Ok-agree.ensures c.send-2.new.slots (omega arith) c.in-Ok-send-2.ensures

pub returns-in-Ok-send-2-clause-steps : goal.returns-in-Ok-send-2-clause-steps
returns-in-Ok-send-2-clause-steps g c = done g.L.Peer.view c.args.t c.args.bound c.args.step c.early_count-early.result c.args.slots.now c.requires.ready (c.early_count-early.ensures ∙ early_counted g.L.Peer.view c.args.slots.now) c.requires.saves c.send.new.slots (omega arith) c.in-Ok-send.ensures (fits_all g.L.Peer.view c.args.t c.args.bound c.args.step c.args.slots.now c.requires.ready c.in-Ok.ensures) c.agree.new.slots (omega arith) c.in-Ok-agree.point c.in-Ok-agree.ensures c.send-2.new.slots (omega arith) c.in-Ok-send-2.ensures c.some_ask-asked.result c.some_ask-asked.ensures

pub returns-in-Err-send-2-clause-steps : goal.returns-in-Err-send-2-clause-steps
returns-in-Err-send-2-clause-steps g c = frees_bad g.L.Peer.view c.args.t c.args.bound c.args.step c.early_count-early.result c.args.slots.now c.requires.ready (c.early_count-early.ensures ∙ early_counted g.L.Peer.view c.args.slots.now) c.requires.saves c.send.new.slots (omega arith) c.in-Ok-send.ensures (fits_all g.L.Peer.view c.args.t c.args.bound c.args.step c.args.slots.now c.requires.ready c.in-Ok.ensures) c.agree.new.slots (omega arith) c.in-Ok-agree.point c.in-Ok-agree.ensures c.send-2.new.slots c.in-Err-send-2.bad c.in-Err-send-2.ensures
