use Rattle.std.proofs.Common.{ℕ, rules, nat_lt, arith}
use Rattle.std.proofs.lemmas.List.Sorted.{IsPartitionPoint-from_clause, IsPartitionedBy-ltb}
use Rattle.dependency_index.proofs.Splitting.{front_is, rising_up}
use Rattle.dependency_index.proofs.graph.below.Goals as goal

pub returns : goal.returns
returns c =
    let p = λ (x : ℕ). nat_lt x c.args.number in
    let xs = c.args.numbers.now in
    let at = IsPartitionPoint-from_clause p xs c.partition_point.result c.partition_point.ensures.partitioned
    (IsPartitionedBy-ltb (λ (x : ℕ). x) xs c.args.number (rising_up xs c.requires)) (λ x b f k. search rules) in
    front_is p xs c.partition_point.result (λ k d lt. at.0 k d (omega arith) lt) at.1 c.partition_point.ensures.bound
