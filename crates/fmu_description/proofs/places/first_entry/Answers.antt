use Rattle.std.proofs.Common.{ℕ, nat_lt, rules}
use Rattle.std.proofs.lemmas.List.Sorted.{IsPartitionPoint-from_clause, IsPartitionedBy-ltb}
use Rattle.value_types.proofs.CallerLemmas.{rising}
use Rattle.fmu_description.proofs.places.first_entry.Goals as goal

pub returns : goal.returns
returns c = λ sorted.
    IsPartitionPoint-from_clause (λ (e : ℕ × ℕ). nat_lt e.0 c.args.reference) c.args.entries.now _ c.partition_point.ensures.partitioned
    (IsPartitionedBy-ltb (λ (e : ℕ × ℕ). e.0) c.args.entries.now c.args.reference (rising c.args.entries.now sorted)) (λ a b q k. search rules)
