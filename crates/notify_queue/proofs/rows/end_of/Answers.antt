use Rattle.std.proofs.Common.{rules, nat_le}
use Rattle.std.proofs.lemmas.Bool.{leb-true, leb-false}
use Rattle.std.proofs.lemmas.List.Sorted.{IsPartitionPoint-from_clause, IsPartitionedBy-leb}
use Rattle.scm_model.specs.declared.flat.Registration.{Registration}
use Rattle.notify_queue.proofs.rows.end_of.Goals as goal

pub returns-clause-ends : goal.returns-clause-ends
returns-clause-ends c =
    let at = IsPartitionPoint-from_clause (λ (row : Registration). nat_le row.service c.args.service) c.args.rows.now
    c.partition_point.result c.partition_point.ensures.partitioned
    (IsPartitionedBy-leb (λ (row : Registration). row.service) c.args.rows.now c.args.service c.requires) (λ row b f k. search rules) in
    (λ k d from below. leb-true _ _ (at.0 k d from below), λ k d from within. leb-false _ _ (at.1 k d from within))
