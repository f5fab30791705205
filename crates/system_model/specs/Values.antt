-- The values of an instant, a place for each port, and which ports are present (FMI 3.0, 2.2.8: clocks; clocked variables are set and read at the ticks of their Clocks alone).
use Rattle.std.specs.Prelude.{ℕ, ℤ, pos, Bool, false, ◌||◌, ◌==◌, List, length, Option, None, slice_index_or}
use Rattle.std.specs.List.{list_any}
use Rattle.std.specs.Option.{option_map_or}
use Rattle.std.specs.Ordering.{int_eq}
use Rattle.sim_base.specs.declared.numbers.PortId.{PortId}
use Rattle.system_model.specs.declared.system.Port.{Port}
use Rattle.system_model.specs.Ports.{is_clock_role}

-- the value of a port, or none
abbrev pub value : List (Option ℤ) → ℕ → Option ℤ
value values p = slice_index_or values p None

-- a Clock is active where its value is 1
abbrev pub is_active : Option ℤ → Bool
is_active v = option_map_or (λ x. int_eq x (pos 1)) v false

-- a Clock is always present, and so is a port that has no Clocks; another is where one of them is active
abbrev pub is_present : Port → List (Option ℤ) → Bool
is_present port values =
    is_clock_role port.role || length port.clocks == 0 ||
    list_any (λ (c : PortId). is_active (value values c.0)) port.clocks
