-- What the spawners of this crate tell.
use Rattle.std.specs.Prelude.{◌≡◌, ℕ, List, None, map, true}
use Rattle.fmu_peer.specs.Start.{SpawnerView}
use Rattle.bench_fmus.specs.declared.bench.Bench.{Bench}
use Rattle.bench_fmus.specs.declared.scripts.Scripts.{Scripts}
use Rattle.bench_fmus.specs.BuiltInView.{built_in_view}
use Rattle.bench_fmus.specs.Models.{is_model, machine_named}
use Rattle.bench_fmus.specs.ScriptView.{script_view}

-- by this host the spawner knows the built-in machines, and starts that of each name
pub record StartsBuiltIns (host : List ℕ) (spawner : SpawnerView) : Type 0 where
  pub known : (name : List ℕ) → spawner.knows host name ≡ is_model name
  pub made : (name : List ℕ) → spawner.makes host name ≡ machine_named name

-- it knows the built-in machines, whatever host is named
abbrev pub bench_view : Bench → SpawnerView
bench_view b = record {
  started = b.retired.started;
  retired = map built_in_view b.retired.peers.items;
  knows = λ host. is_model;
  makes = λ host. machine_named;
  faults = b.plan.faults;
}

-- it knows every identifier by every host, and says of no machine
abbrev pub scripts_view : Scripts → SpawnerView
scripts_view s = record {
  started = s.retired.started;
  retired = map script_view s.retired.peers.items;
  knows = λ host identifier. true;
  makes = λ host identifier. None;
  faults = s.plan.faults;
}
