-- What a spawner of FMUs behind wires in memory tells.
use Rattle.std.specs.Prelude.{ℕ, ◌≤◌, List, length, map, true, None}
use Rattle.std.proofs.lemmas.List.{length-map}
use Rattle.fmu_link.specs.MemWire.{mem_view}
use Rattle.fmu_link.specs.Piped.{piped_view}
use Rattle.fmu_link.specs.declared.mem_wire.MemWire.{MemWire}
use Rattle.fmu_link.specs.declared.piped.Piped.{Piped}
use Rattle.fmu_peer.specs.Start.{SpawnerView}
use Rattle.fmu_peer.specs.View.{View}
use Rattle.program_rows.specs.declared.wires.Wires.{Wires}

abbrev pub wire_peer_view : Piped MemWire → View
wire_peer_view peer = piped_view mem_view peer

-- it knows every identifier by every host, and tells no machine; no start fails
abbrev pub wires_view : Wires → SpawnerView
wires_view w = record {
  started = w.retired.started;
  retired = map wire_peer_view w.retired.peers.items;
  knows = λ host identifier. true;
  makes = λ host identifier. None;
  faults = 0;
}

pub fewer_peers : (peers : List (Piped MemWire)) (n : ℕ) → length peers ≤ n →
    length (map wire_peer_view peers) ≤ n
fewer_peers peers n fewer = rw length-map fewer
