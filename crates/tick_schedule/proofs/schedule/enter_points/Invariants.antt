use Rattle.std.proofs.Common.{◌≡◌, ℕ, ◌<◌, ◌≤◌, length, map, get_or}
use Rattle.tick_schedule.specs.Points.{past, point_of}
use Rattle.tick_schedule.proofs.schedule.enter_points.Given as goal

abbrev pub invariant-loop-clock : goal.invariant-loop-clock
invariant-loop-clock g l = record {
  len : length l.points ≡ length l.initial.points;
  rest : (k : ℕ) → l.clock ≤ k → k < length l.points → get_or l.points k 0 ≡ past;
  entered : (k : ℕ) → k < l.clock → get_or l.points k 0 ≡ get_or (map (point_of l.start l.stop) l.states) k 0;
}
