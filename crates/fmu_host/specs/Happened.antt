-- What happened in a call of the program.
use Rattle.std.specs.Prelude.{ℕ, List}
use Rattle.sim_base.specs.Folder.{FolderView}
use Rattle.sim_base.specs.Sink.{SinkView}
use Rattle.sim_base.specs.Source.{SourceView}

-- what input and output tell
pub record Link : Type 0 where
  pub input : SourceView
  pub output : SinkView

abbrev pub link : SourceView → SinkView → Link
link input output = record { input = input; output = output }

-- and what files tell
pub record Outside : Type 0 where
  pub folder : FolderView
  pub link : Link

abbrev pub outside : FolderView → SourceView → SinkView → Outside
outside folder input output = record { folder = folder; link = link input output }

-- the arguments, what is told before and after, and the status
pub record Happened : Type 0 where
  pub words : List (List ℕ)
  pub old : Outside
  pub new : Outside
  pub status : ℕ

abbrev pub happened : List (List ℕ) → Outside → Outside → ℕ → Happened
happened words old new status = record { words = words; old = old; new = new; status = status }
