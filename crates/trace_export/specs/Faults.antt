-- What a fault of the stream is called where a trace is shown.
use Rattle.trace_stream.specs.declared.fault.StreamFault.{StreamFault}
use Rattle.trace_stream.specs.declared.fault.StreamFault.TheVariants as stream
use Rattle.trace_export.specs.declared.fault.ViewFault.{ViewFault}
use Rattle.trace_export.specs.declared.fault.ViewFault.TheVariants.{Line, Read, Memory}

abbrev pub told_fault : StreamFault → ViewFault
told_fault (stream.Line n) = Line n
told_fault stream.Read = Read
told_fault stream.Memory = Memory
