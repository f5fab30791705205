-- What the arguments that the host gives say, where it can't give them.
use Rattle.std.specs.declared.io.ErrorKind.{ErrorKind}
use Rattle.std.specs.declared.io.ErrorKind.TheVariants.{OutOfMemory}
use Rattle.run_program.specs.declared.outcome.Outcome.{Outcome}
use Rattle.run_program.specs.declared.outcome.Outcome.TheVariants.{Words, Memory}

-- they are no command line, as where one of them isn't UTF-8, or memory runs out
abbrev pub ungiven_outcome : ErrorKind → Outcome
ungiven_outcome OutOfMemory = Memory
ungiven_outcome _ = Words
