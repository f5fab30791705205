-- What a wire in memory tells.
use Rattle.std.specs.Prelude.{Some, drop}
use Rattle.fmu_link.specs.declared.mem_wire.MemWire.{MemWire}
use Rattle.fmu_link.specs.Wire.{WireView, wire_view}

abbrev pub mem_view : MemWire → WireView
mem_view wire = wire_view (Some wire.sent.items) (Some (drop wire.taken wire.coming)) wire.faults
