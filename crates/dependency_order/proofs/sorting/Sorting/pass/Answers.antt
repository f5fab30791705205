use Rattle.dependency_order.proofs.SortLemmas.{row_within}
use Rattle.dependency_order.proofs.sorting.Sorting.pass.Goals as goal

pub next_unplaced-at-requires : goal.next_unplaced-at-requires
next_unplaced-at-requires c =
    row_within c.args.needs.now c.args.self.now.placed.items c.as_slice.result.now c.row-row.result.now c.args.node c.as_slice.ensures.value c.requires.sorting.marks c.row-row.ensures c.requires.closed
