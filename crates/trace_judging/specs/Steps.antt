-- What is known once the trace is read.
use Rattle.std.specs.Prelude.{◌≡◌}
use Rattle.sim_base.specs.Folder.{FolderView}
use Rattle.trace_reading.specs.declared.trace.Trace.{Trace}
use Rattle.trace_check.specs.declared.verdict.Verdict.{Verdict}
use Rattle.system_files.specs.declared.loaded.Loaded.{Loaded}
use Rattle.system_files.specs.declared.loading.LoadError.{LoadError}
use Rattle.system_files.specs.declared.loading.LoadError.TheVariants as end
use Rattle.system_files.specs.Loads.{EndsLoading, Loads}
use Rattle.system_files.specs.Order.{Found, Search}
use Rattle.trace_judging.specs.Judging.{IsVerdict}

-- a system is loaded, and this is the verdict on the trace
pub record JudgesTrace (s : Search) (t : Trace) (verdict : Verdict)
    (old new : FolderView) : Type 0 where
  pub loaded : Loaded
  pub loads : Loads s (Found loaded) old new
  pub verdict_is : IsVerdict loaded.system t verdict

-- no system is loaded, or memory runs out after it
pub data LacksTraceVerdict (s : Search) (ended : LoadError) (old new : FolderView) : Type 0 where
  Unloaded : EndsLoading s ended old new → LacksTraceVerdict s ended old new
  AfterSystem : (loaded : Loaded) → ended ≡ end.Memory → Loads s (Found loaded) old new →
      LacksTraceVerdict s ended old new
