-- What a line asks for, whichever its command is.
use Rattle.std.specs.Prelude.{◌≡◌, ◌≤◌, ◌^◌, IfSome, option_map}
use Rattle.command_line.specs.Line.{IsWithin, Line, run_in, run_of}
use Rattle.command_line.specs.declared.words.Options.{Options}
use Rattle.system_files.specs.Order.{search_of}
use Rattle.run_program.specs.declared.request.SystemRequest.{SystemRequest}
use Rattle.run_program.specs.Facts.{search_for}

-- it asks the files for what the line asks for, and for the same run or for none
pub record IsRequestOf (line : Line) (request : SystemRequest) : Type 0 where
  pub search : search_of request.subject request.directory.now request.resolution ≡ search_for line
  pub run : option_map run_of request.run ≡ run_in line

-- its counts are within their limits, and a run has as many a second as its documents are read with
pub record KeepsCounts (request : SystemRequest) : Type 0 where
  pub above : 1 ≤ request.resolution
  pub within : request.resolution ≤ 2 ^ 62
  pub plan : IfSome request.run
      (λ (o : Options). IsWithin o.plan × (o.plan.resolution ≡ request.resolution))
