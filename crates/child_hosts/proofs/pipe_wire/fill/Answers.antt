use Rattle.std.proofs.Common.{◌≡◌, ◌+◌, ◌++◌, ap, drop, subst, sym, take, ◌∙◌}
use Rattle.std.proofs.Math.Seq.{take-add}
use Rattle.std.specs.Io.KnownBytes.{Consumes}
use Rattle.child_hosts.proofs.WireLemmas.{consumes_more}
use Rattle.child_hosts.proofs.pipe_wire.fill.Goals as goal

pub takes-preserved : goal.takes-preserved
takes-preserved g c =
    let filled = c.takes.filled in
    let count = c.in-Ok.count in
    let before = c.takes.into in
    let into = c.take_after.new.into in
    let old = (g.S.Source.view c.args.source.now).left in
    let mid = (g.S.Source.view c.takes.source).left in
    let new = (g.S.Source.view c.take_after.new.source).left in
    let prefix : take filled before ++ take count (drop filled into) ≡ take (filled + count) into =
    ap (λ l. l ++ take count (drop filled into)) (sym c.in-Ok.ensures.prefix) ∙ sym (take-add filled count into) in
    record {
      within = c.in-Ok.ensures.some.1;
      taken = subst (Consumes old new) prefix (consumes_more old mid new (take filled before) (take count (drop filled into)) c.takes.invariant.taken c.in-Ok.ensures.taken);
    }
