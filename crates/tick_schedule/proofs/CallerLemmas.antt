-- For callers that know where each Clock stands.
use Rattle.std.proofs.Common.{◌≡◌, ℕ, ◌^◌, ◌≤◌, Bool, true, List, [], ◌∷◌, Some, nat_le, arith, refl, subst, sym, zero, suc}
use Rattle.std.specs.Prelude.{Option}
use Rattle.std.specs.List.{list_all, slice_get}
use Rattle.std.proofs.lemmas.Bool.Decides.{nat_tests}
use Rattle.tick_schedule.specs.declared.clock.ClockState.{ClockState}
use Rattle.tick_schedule.specs.Points.{point_of}
use Rattle.tick_schedule.specs.Timetable.{HasNext, IsToTick, TicksAt, Timetable}
use Rattle.tick_schedule.proofs.PointLemmas.{point_below_tick, ticks_at_point}
use Rattle.tick_schedule.proofs.ScheduleLemmas.{place_of, to_place}

-- no next point is below `t`
abbrev pub are_later : ℕ → ℕ → ℕ → List ClockState → Bool
are_later start stop t clocks = list_all (λ state. nat_le t (point_of start stop state)) clocks

later_at : (start stop t : ℕ) (clocks : List ClockState) (clock : ℕ) (state : ClockState) → are_later start stop t clocks ≡ true → slice_get clocks clock ≡ Some state → t ≤ point_of start stop state
later_at start stop t [] clock state all there = cc
later_at start stop t (first ∷ rest) zero state all there = grind (arith, nat_tests)
later_at start stop t (first ∷ rest) (suc clock) state all there = later_at start stop t rest clock state (grind (arith, nat_tests)) there

-- so no Clock ticks below it
pub none_below : (table : Timetable) (start stop t : ℕ) (clocks : List ClockState) (events : List (Option ℕ)) → table ≡ record { start = start; stop = stop; clocks = clocks; events = events } → are_later start stop t clocks ≡ true → (clock point : ℕ) → TicksAt table clock point → t ≤ point
none_below table start stop t clocks events is all clock point ticks =
    let P : Timetable → Type 0 = λ it. TicksAt it clock point in
    let here = subst P is ticks in
    let (state, there, tick) = place_of clocks clock (λ s. IsToTick start s point) here.1 in
    let before : point ≤ stop = here.0 in
    let above : point_of start stop state ≤ point = point_below_tick start stop state point tick before in
    let below : t ≤ point_of start stop state = later_at start stop t clocks clock state all there in
    omega arith

-- a Clock whose next point isn't past the stop has a next tick
pub has_next : (table : Timetable) (start stop : ℕ) (clocks : List ClockState) (events : List (Option ℕ)) (clock : ℕ) (state : ClockState) → table ≡ record { start = start; stop = stop; clocks = clocks; events = events } → stop ≤ 2 ^ 62 → slice_get clocks clock ≡ Some state → point_of start stop state ≤ stop → HasNext table clock
has_next table start stop clocks events clock state is near there before =
    let P : Timetable → Type 0 = λ it. HasNext it clock in
    let p : ℕ = point_of start stop state in
    subst P (sym is) (p, (before, to_place (λ s. IsToTick start s p) (slice_get clocks clock) state there (ticks_at_point start stop state p near refl before)))
