-- What a sink in memory tells.
use Rattle.std.specs.Prelude.{[], ◌++◌, replicate, Some}
use Rattle.sim_base.specs.declared.sink.MemSink.{MemSink}
use Rattle.sim_base.specs.Pieces.{cut}
use Rattle.sim_base.specs.Sink.{SinkView}

-- its bytes; its pieces, and after them an empty one for each put past its room; its count
abbrev pub mem_view : MemSink → SinkView
mem_view sink = record {
  content = Some sink.bytes.items;
  puts = Some (cut sink.lengths.items sink.bytes.items ++ replicate sink.beyond []);
  faults = sink.faults;
}
