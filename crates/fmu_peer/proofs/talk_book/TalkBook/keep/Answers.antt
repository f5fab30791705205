use Rattle.std.proofs.Common.{Ok, rules}
use Rattle.fmu_peer.proofs.TalkLemmas.{kept_leads_on}
use Rattle.fmu_peer.proofs.talk_book.TalkBook.keep.Goals as goal

pub invariant_of-self-clause-legal : goal.invariant_of-self-clause-legal
invariant_of-self-clause-legal c =
    kept_leads_on c.args.self.now.shape c.args.self.now.phase c.next_phase.new.phase c.args.self.now.talk _ (record { call = c.args.call.now; result = Ok c.in-Ok.reply })
    c.args.self.now.legal c.requires c.next_phase.ensures.next (search (rules, c.keep_in.ensures.exchanges))
