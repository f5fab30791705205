-- The sequence of draws, and what they give each component. Each number follows from the one before (a linear congruential generator of 31 bits), and its upper 15 bits are drawn.
use Rattle.std.specs.Prelude.{ℕ, zero, suc, ◌+◌, ◌*◌, ◌/◌, ◌%◌, ◌^◌, ◌==◌, Option, Some, None, is_some, if◌then◌else◌}
use Rattle.generated_system.specs.declared.drawn.DrawnMachine.{DrawnMachine}
use Rattle.generated_system.specs.declared.drawn.DrawnMachine.TheVariants.{Counter, Gain, Alarm}
use Rattle.generated_system.specs.declared.drawn.Drawn.{Drawn}

-- ---- the sequence

unfoldable pub next_number : ℕ → ℕ
next_number x = (x * 1103515245 + 12345) % 2 ^ 31

-- the number that so many draws leave
unfoldable pub number_after : ℕ → ℕ → ℕ
number_after x zero = x
number_after x (suc k) = next_number (number_after x k)

-- the k-th draw after the number x, counted from 0
unfoldable pub draw : ℕ → ℕ → ℕ
draw x k = number_after x (suc k) / 65536

-- ---- what is drawn for a component

abbrev pub machine_drawn : ℕ → DrawnMachine
machine_drawn d = if d % 3 == 0 then Counter else (if d % 3 == 1 then Gain else Alarm)

-- the value of its first parameter: from 1 to 17, and five times that for an alarm
abbrev pub parameter_drawn : DrawnMachine → ℕ → ℕ
parameter_drawn Counter e = e % 17 + 1
parameter_drawn Gain e = e % 17 + 1
parameter_drawn Alarm e = 5 * (e % 17 + 1)

-- the component before the i-th that feeds it, where it is a gain
abbrev pub feeder_drawn : ℕ → DrawnMachine → ℕ → Option ℕ
feeder_drawn i Counter s = None
feeder_drawn i Gain s = if i == 0 then None else Some (s % i)
feeder_drawn i Alarm s = None

-- the first draw after x says what machine the i-th component is, the second its parameter, and the third what feeds it
unfoldable pub drawn_from : ℕ → ℕ → Drawn
drawn_from x i = record {
  machine = machine_drawn (draw x 0);
  parameter = parameter_drawn (machine_drawn (draw x 0)) (draw x 1);
  feeder = feeder_drawn i (machine_drawn (draw x 0)) (draw x 2);
}

-- the third is drawn only where something feeds it
abbrev pub draws_taken : Drawn → ℕ
draws_taken drawn = if is_some drawn.feeder then 3 else 2

-- ---- the components in turn

-- the number after which the draws for the i-th component begin
unfoldable pub number_before : ℕ → ℕ → ℕ
number_before seed zero = seed
number_before seed (suc i) =
    let x = number_before seed i in number_after x (draws_taken (drawn_from x i))

abbrev pub drawn_for : ℕ → ℕ → Drawn
drawn_for seed i = drawn_from (number_before seed i) i
