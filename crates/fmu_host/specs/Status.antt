-- The status of each end of the program.
use Rattle.std.specs.Prelude.{ℕ}
use Rattle.std.specs.declared.io.ErrorKind.{ErrorKind}
use Rattle.std.specs.declared.io.ErrorKind.TheVariants.{OutOfMemory}
use Rattle.fmu_host.specs.declared.hosting.HostEnd.{HostEnd}
use Rattle.fmu_host.specs.declared.hosting.HostEnd.TheVariants.{NoWords, Unread, Missing, TooBig, Broken, Unknown, Served, Memory}
use Rattle.fmu_host.specs.Rows.{serve_status}

abbrev pub status_of : HostEnd → ℕ
status_of NoWords = 2
status_of Unread = 3
status_of Missing = 3
status_of TooBig = 3
status_of Broken = 4
status_of Unknown = 5
status_of (Served end) = serve_status end
status_of Memory = 11

-- where the host can't give the arguments: they are no command line, as where one of them isn't UTF-8, or memory runs out
abbrev pub ungiven_end : ErrorKind → HostEnd
ungiven_end OutOfMemory = Memory
ungiven_end _ = NoWords
