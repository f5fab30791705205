-- What a script tells: no machine.
use Rattle.std.specs.Prelude.{ℕ, ◌≤◌, List, length, map, Some, None}
use Rattle.std.proofs.lemmas.List.{length-map}
use Rattle.fmu_peer.specs.View.{View}
use Rattle.bench_fmus.specs.declared.script.Script.{Script}
use Rattle.bench_fmus.specs.Told.{talk_in, origin_in}

abbrev pub script_view : Script → View
script_view s = record {
  fixed = record { shape = s.book.shape; origin = Some (origin_in s.origin); machine = None };
  phase = s.book.phase;
  talk = talk_in s.book.talk;
  state = None;
  faults = s.book.faults;
}

pub fewer_scripts : (scripts : List Script) (n : ℕ) → length scripts ≤ n →
    length (map script_view scripts) ≤ n
fewer_scripts scripts n fewer = rw length-map fewer
