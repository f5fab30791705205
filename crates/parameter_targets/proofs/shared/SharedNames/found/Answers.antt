use Rattle.std.proofs.Common.{refl, arith}
use Rattle.parameter_targets.proofs.ListLemmas.{read_at}
use Rattle.parameter_targets.proofs.shared.SharedNames.found.Goals as goal

pub returns-then-are_of : goal.returns-then-are_of
returns-then-are_of c =
    let self = c.args.self.now in
    let of = self.of in
    let tables = self.tables in
    let first = c.in_ok-first.first in
    let at = c.index-at.result.now in
    let table = c.index.result.now in (
      first,
      table,
      read_at of.items of.items first at refl (omega (arith, c.if-len-first.false, of.ok.0)) c.index-at.ensures,
      read_at tables.items tables.items at table refl (omega (arith, c.if-len-at.false, tables.ok.0)) c.index.ensures,
      c.are_of.ensures c.if-are_of.true,
    )
