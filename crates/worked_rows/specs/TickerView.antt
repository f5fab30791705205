-- What an instance of a machine of the tests' own tells.
use Rattle.std.specs.Prelude.{Some, None}
use Rattle.fmu_peer.specs.View.{View}
use Rattle.worked_rows.specs.declared.ticker.Ticker.{Ticker}
use Rattle.worked_rows.specs.Ticker.{state_in, ticker}

abbrev pub ticker_view : Ticker → View
ticker_view p = record {
  fixed = record { shape = p.book.shape; origin = None; machine = Some (ticker p.counts) };
  phase = p.book.phase;
  talk = None;
  state = Some (state_in p.counts p.counted p.saved);
  faults = p.book.faults;
}
