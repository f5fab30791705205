use Rattle.std.proofs.Common.{not, rules}
use Rattle.std.specs.Ordering.{is_lt, nat_cmp}
use Rattle.std.specs.Cmp.Lexicographic.{slice_cmp}
use Rattle.std.proofs.lemmas.List.Sorted.{IsPartitionPoint-from_clause}
use Rattle.name_prefixes.specs.Prefixes.{Entry}
use Rattle.name_prefixes.proofs.StepLemmas.{last_found, parted}
use Rattle.name_prefixes.proofs.prefixes.last_up_to.Goals as goal

pub returns : goal.returns
returns c =
    last_found c.args.sorted.now c.args.name.now c.partition_point-end.result c.checked_sub.result c.partition_point-end.ensures.bound
    (IsPartitionPoint-from_clause (λ (e : Entry). not (is_lt (slice_cmp nat_cmp c.args.name.now e.0.now))) c.args.sorted.now _ c.partition_point-end.ensures.partitioned
    (parted c.args.sorted.now c.args.name.now c.requires) (λ a b q k. search rules)) c.checked_sub.ensures
