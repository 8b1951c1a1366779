use Rattle.std.proofs.Common.{ℕ, rules, nat_le, nat_lt, arith, ◌∙◌}
use Rattle.std.proofs.lemmas.Bool.{leb-true, leb-false, lt-ltb, le-ltb}
use Rattle.std.proofs.lemmas.List.{length-drop, take_all}
use Rattle.std.proofs.lemmas.List.Sorted.{IsPartitionPoint-from_clause, IsPartitionedBy-leb}
use Rattle.dependency_index.proofs.Splitting.{rest_is, rising_up}
use Rattle.dependency_index.proofs.graph.above.Goals as goal

pub returns : goal.returns
returns c =
    let n = c.args.number in
    let xs = c.args.numbers.now in
    let at = IsPartitionPoint-from_clause (λ (x : ℕ). nat_le x n) xs c.partition_point.result c.partition_point.ensures.partitioned
    (IsPartitionedBy-leb (λ (x : ℕ). x) xs n (rising_up xs c.requires)) (λ x b f k. search rules) in
    take_all _ _ (rw length-drop (omega arith)) ∙ rest_is (λ (x : ℕ). nat_lt n x) xs c.partition_point.result
    (λ k d lt. le-ltb n _ (leb-true _ n (at.0 k d (omega arith) lt)))
    (λ k d from within. lt-ltb n _ (leb-false _ n (at.1 k d from within))) c.partition_point.ensures.bound
