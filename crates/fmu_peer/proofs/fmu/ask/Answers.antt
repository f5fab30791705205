use Rattle.std.proofs.Common.{rules, Ok, Err}
use Rattle.fmu_peer.proofs.TalkLemmas.{answered_good, failed_bad}
use Rattle.fmu_peer.proofs.fmu.ask.Goals as goal

pub returns-in-Good-clause-ok : goal.returns-in-Good-clause-ok
returns-in-Good-clause-ok g c = record {
  asked = c.in-Ok.ensures;
  good = search rules;
  quiet = search rules;
  talk_good = answered_good (g.L.Peer.view c.args.peer.now) (g.L.Peer.view c.call.new.self) c.args.call.now c.in-Ok.reply c.in-Ok.ensures (search rules);
}

pub returns-in-Refused-clause-err : goal.returns-in-Refused-clause-err
returns-in-Refused-clause-err g c = record {
  fails = search rules;
  fixed = search rules;
  later = search rules;
  rose = search rules;
  quiet = search rules;
  bad = failed_bad (g.L.Peer.view c.args.peer.now) (g.L.Peer.view c.call.new.self) c.args.call.now (Ok c.in-Ok.reply) c.refusal.result c.in-Ok.ensures (search rules);
}

pub returns-in-Misreply-clause-err : goal.returns-in-Misreply-clause-err
returns-in-Misreply-clause-err g c = record {
  fails = search rules;
  fixed = search rules;
  later = search rules;
  rose = search rules;
  quiet = search rules;
  bad = failed_bad (g.L.Peer.view c.args.peer.now) (g.L.Peer.view c.call.new.self) c.args.call.now (Ok c.in-Ok.reply) c.misreply.result c.in-Ok.ensures (search rules);
}

pub returns-in-Err-clause-err : goal.returns-in-Err-clause-err
returns-in-Err-clause-err g c = record {
  fails = search rules;
  fixed = search rules;
  later = search rules;
  rose = search rules;
  quiet = search rules;
  bad = failed_bad (g.L.Peer.view c.args.peer.now) (g.L.Peer.view c.call.new.self) c.args.call.now (Err c.in-Err.fault) c.lost.result c.in-Err.ensures (search rules);
}
