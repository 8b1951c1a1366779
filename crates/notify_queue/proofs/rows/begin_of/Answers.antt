use Rattle.std.proofs.Common.{rules, nat_lt}
use Rattle.std.proofs.lemmas.Bool.{ltb-true, ltb-false}
use Rattle.std.proofs.lemmas.List.Sorted.{IsPartitionPoint-from_clause, IsPartitionedBy-ltb}
use Rattle.scm_model.specs.declared.flat.Registration.{Registration}
use Rattle.notify_queue.proofs.rows.begin_of.Goals as goal

pub returns-clause-begins : goal.returns-clause-begins
returns-clause-begins c =
    let at = IsPartitionPoint-from_clause (λ (row : Registration). nat_lt row.service c.args.service) c.args.rows.now
    c.partition_point.result c.partition_point.ensures.partitioned
    (IsPartitionedBy-ltb (λ (row : Registration). row.service) c.args.rows.now c.args.service c.requires) (λ row b f k. search rules) in
    (λ k d from below. ltb-true _ _ (at.0 k d from below), λ k d from within. ltb-false _ _ (at.1 k d from within))
