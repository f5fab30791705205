use Rattle.step_master.proofs.SessionLemmas.{failed_start_is_closed, histories_are_over, hold_is_session, resumed_is_session, run_is_session}
use Rattle.step_master.proofs.laws.histories_of_peers.Goals as goal

pub returns : goal.returns
returns c =
    let calls = c.calls_of_runs.ensures in record {
      run = run_is_session calls.answers calls.once calls.updates calls.left calls.way calls.unsaved calls.ends calls.holds calls.rests;
      hold = hold_is_session calls.answers calls.once calls.updates calls.left calls.way calls.unsaved calls.ends calls.holds calls.rests;
      rest = resumed_is_session calls.answers calls.once calls.updates calls.left calls.way calls.unsaved calls.ends calls.holds calls.rests;
      unmade = failed_start_is_closed calls.answers calls.once calls.updates calls.left calls.way calls.unsaved calls.ends calls.holds calls.rests;
      over = histories_are_over;
    }
