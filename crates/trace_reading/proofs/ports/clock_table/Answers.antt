use Rattle.std.proofs.Common.{arith, ◌≡◌, ◌<◌, ◌++◌, [], ◌∷◌, length}
use Rattle.trace_reading.specs.Form.{kinds_of}
use Rattle.trace_reading.specs.Walk.{is_clock}
use Rattle.trace_reading.proofs.TableLemmas.{count_next, size_push, small_count, table_push}
use Rattle.trace_reading.proofs.ports.clock_table.Goals as goal

pub loop-port-preserved : goal.loop-port-preserved
loop-port-preserved c =
    let low : c.loop-port.port-index < length c.args.ports.now = omega arith in
    let next = count_next c.args.ports.now c.loop-port.port-index c.port-item.result low c.port-item.is in
    let pushed : c.push.new.self.items ≡ c.loop-port.table.items ++ (c.loop-port.clocks ∷ []) = c.in_ok-push.ensures.items in
    record {
      size = size_push c.loop-port.table.items c.push.new.self.items c.loop-port.clocks c.loop-port.port-index pushed c.loop-port.invariant.size;
      each = table_push c.loop-port.table.items c.push.new.self.items c.loop-port.clocks c.loop-port.port-index (kinds_of c.args.ports.now) pushed c.loop-port.invariant.size c.loop-port.invariant.each c.loop-port.invariant.now;
      now = omega (arith, c.loop-port.invariant.now, c.clock_count-clocks.ensures, next);
      few = omega (arith, c.clock_count-clocks.ensures, small_count (is_clock c.port-item.result.kind), c.loop-port.invariant.few);
    }
