-- The connected inputs of a system by when they are present (FMI 3.0, 2.2.8: clocked variables; SSP 1.0: connections).
use Rattle.std.specs.Prelude.{◌≡◌, ℕ, ◌<◌, ◌==◌, ◌||◌, Bool, true, false, is_some, List, [], Some, length, slice_get, slice_index_or, Contains}
use Rattle.sim_base.specs.declared.numbers.PortId.{PortId}
use Rattle.system_model.specs.declared.system.Port.{Port}
use Rattle.system_model.specs.Ports.{is_clock_role, source_of}

-- a Clock is present in each instant, and so is what has no Clocks
abbrev pub is_steady : Port → Bool
is_steady port = is_clock_role port.role || length port.clocks == 0

-- the port at p is a connected input; with true it is present in each instant, with false where a Clock of it ticks
pub record IsFed (ports : List Port) (p : ℕ) (port : Port) (steady : Bool) : Type 0 where
  pub at : slice_get ports p ≡ Some port
  pub fed : is_some (source_of port.role) ≡ true
  pub kind : is_steady port ≡ steady

-- the lists hold the connected inputs below k: those that are present in each instant, and by Clock those that are where it ticks
pub record HoldInputs (ports : List Port) (k : ℕ) (steady : List ℕ)
    (at_ticks : List (List ℕ)) : Type 0 where
  pub size : length at_ticks ≡ length ports
  pub always : (p : ℕ) (port : Port) → p < k → IsFed ports p port true → Contains steady p
  pub by_ticks : (p : ℕ) (port : Port) (c : PortId) → p < k → IsFed ports p port false →
      Contains port.clocks c → c.0 < length ports → Contains (slice_index_or at_ticks c.0 []) p

-- the input stands in the list of each of these Clocks that has one; what stood in a list stands there still
pub record WaitToo (clocks : List PortId) (input : ℕ)
    (before after : List (List ℕ)) : Type 0 where
  pub size : length after ≡ length before
  pub kept : (c p : ℕ) → Contains (slice_index_or before c []) p →
      Contains (slice_index_or after c []) p
  pub waits : (c : PortId) → Contains clocks c → c.0 < length before →
      Contains (slice_index_or after c.0 []) input
