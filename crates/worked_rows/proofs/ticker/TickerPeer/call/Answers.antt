use Rattle.fmu_peer.specs.declared.peer.PeerFault.TheVariants.{Failed}
use Rattle.fmu_peer.specs.Book.{fills_next}
use Rattle.bench_fmus.proofs.CallerLemmas.{in_phase_kept}
use Rattle.worked_rows.specs.Ticker.{state_in, ticker}
use Rattle.worked_rows.specs.TickerLaws.{untold_kept}
use Rattle.worked_rows.proofs.ticker.TickerPeer.call.Goals as goal

pub invariant_of-self-2 : goal.invariant_of-self-2
invariant_of-self-2 c =
    let old = c.args.self.now in
    record {
      is = rw c.keep.ensures.shape old.is;
      in_phase = in_phase_kept old.book.shape (ticker old.counts) old.book.phase _ (state_in old.counts old.counted old.saved) _ c.args.call.now c.answer-reply.result
          (fills_next old.book.talk) Failed c.keep.result old.is c.requires.permitted old.in_phase c.answer-reply.ensures c.go_on.ensures c.keep.ensures.kept c.keep.ensures.phase;
      untold = untold_kept old.book.talk c.keep.new.self.talk c.args.call.now c.keep.result old.untold c.keep.ensures.talk;
    }
