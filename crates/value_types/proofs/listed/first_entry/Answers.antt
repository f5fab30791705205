use Rattle.std.proofs.Common.{ℕ, nat_lt, rules}
use Rattle.std.proofs.lemmas.List.Sorted.{IsPartitionPoint-from_clause, IsPartitionedBy-ltb}
use Rattle.value_types.proofs.IndexLemmas.{rising}
use Rattle.value_types.proofs.listed.first_entry.Goals as goal

pub returns : goal.returns
returns c = λ sorted.
    IsPartitionPoint-from_clause (λ (e : ℕ × ℕ). nat_lt e.0 c.args.reference) c.args.index.now _ c.partition_point.ensures.partitioned
    (IsPartitionedBy-ltb (λ (e : ℕ × ℕ). e.0) c.args.index.now c.args.reference (rising c.args.index.now sorted)) (λ a b q k. search rules)
