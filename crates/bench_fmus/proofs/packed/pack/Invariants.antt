use Rattle.std.proofs.Common.{◌≡◌, ◌≤◌, ◌++◌, take}
use Rattle.std.specs.Prelude.{vec_capacity}
use Rattle.std.specs.List.{flat_map}
use Rattle.bench_fmus.specs.Packed.{entry_bytes, numbers_bytes}
use Rattle.bench_fmus.specs.State.{spread}
use Rattle.bench_fmus.specs.Told.{told}
use Rattle.bench_fmus.proofs.packed.pack.Given as goal

-- the values so far are put
abbrev pub invariant-loop-entry : goal.invariant-loop-entry
invariant-loop-entry l = record {
  bytes : l.into.items ≡ l.fn.into.items ++ (numbers_bytes (told l.kept.numbers) ++ flat_map (entry_bytes l.variables (spread l.variables l.kept.values.items)) (take l.entry-index l.order));
  room : vec_capacity l.fn.into ≤ vec_capacity l.into;
}
