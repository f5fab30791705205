-- What happened in a call of the program.
use Rattle.std.specs.Prelude.{ℕ, List}
use Rattle.sim_base.specs.Folder.{FolderView}
use Rattle.sim_base.specs.Sink.{SinkView}
use Rattle.fmu_peer.specs.Start.{SpawnerView}

-- what peers and output tell
pub record Scene : Type 0 where
  pub spawner : SpawnerView
  pub out : SinkView

abbrev pub scene : SpawnerView → SinkView → Scene
scene spawner out = record { spawner = spawner; out = out }

-- and what files tell
pub record Outside : Type 0 where
  pub folder : FolderView
  pub run : Scene

abbrev pub outside : FolderView → SpawnerView → SinkView → Outside
outside folder spawner out = record { folder = folder; run = scene spawner out }

-- the arguments, what is told before and after, what the error sink tells before and after, and the status
pub record Happened : Type 0 where
  pub words : List (List ℕ)
  pub old : Outside
  pub new : Outside
  pub err : SinkView
  pub err_after : SinkView
  pub status : ℕ

abbrev pub happened : List (List ℕ) → Outside → Outside → SinkView → SinkView → ℕ → Happened
happened words old new err err_after status =
    record {
      words = words;
      old = old;
      new = new;
      err = err;
      err_after = err_after;
      status = status;
    }
