-- The lemmas of this crate that others may cite.
pub use Rattle.run_model.proofs.Alike.{Found, both, fed_same, found_at, present_alike, written_at-is, written_at-output}
pub use Rattle.run_model.proofs.AlongRun.{fed_fits, initial_values_fit, reply_fits, situation_reached, values_fit}
pub use Rattle.run_model.proofs.Behaves.{IsOwn, always_behaves, changing_shift_call, own_port, shift_call, timed_behaves, timing_of}
pub use Rattle.run_model.proofs.Decided.{decided, same_number}
pub use Rattle.run_model.proofs.Initially.{none_outside, read_unclocked, unclocked_at-is, written_none}
pub use Rattle.run_model.proofs.InitiallySolvable.{solvable_initially}
pub use Rattle.run_model.proofs.Midst.{all_at_last, all_at_last_initially, is-taken, keeps_beside, looks_in_midst, looks_initially, nothing_at_first, taken-is, writes_at_port}
pub use Rattle.run_model.proofs.OneTrace.{ends_or_goes, situation_of, trace_same}
pub use Rattle.run_model.proofs.PlainTraces.{good_unchanged}
pub use Rattle.run_model.proofs.Solvable.{solvable}
pub use Rattle.run_model.proofs.States.{each-get, fmu_before, written-length}
pub use Rattle.run_model.proofs.Unique.{IsClosed, closed-push, none_in, push_cases}
pub use Rattle.run_model.proofs.Written.{all_written-get}
pub use Rattle.run_model.proofs.WhoIsFirst.{asked_as_first, comes_first, first_by}
