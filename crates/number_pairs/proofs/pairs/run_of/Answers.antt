use Rattle.std.proofs.Common.{rules, ◌∙◌, ◌-◌, sym, subst, length, take, drop}
use Rattle.std.proofs.lemmas.List.Sorted.{IsPartitionPoint-from_clause, IsPartitionedBy-leb, IsPartitionedBy-ltb}
use Rattle.number_pairs.specs.declared.pairs.Pair.{Pair}
use Rattle.number_pairs.specs.Keyed.{AreSorted}
use Rattle.number_pairs.proofs.Runs.{keys_rise, is_under, is_upto, begins_at, rest_rises, ends_at, whole_rest}
use Rattle.number_pairs.proofs.pairs.run_of.Goals as goal

pub returns : goal.returns
returns c =
    let xs = c.args.pairs.now in
    let key = c.args.key in
    let start = c.partition_point-start.result in
    let rest = take (length xs - start) (drop start xs) in
    let first = IsPartitionPoint-from_clause (is_under key) xs start c.partition_point-start.ensures.partitioned
    (IsPartitionedBy-ltb (λ (p : Pair). p.key) xs key (keys_rise xs c.requires)) (λ a r f' k. search rules) in
    let is = whole_rest xs start ∙ begins_at key xs start first c.partition_point-start.ensures.bound in
    let rising : AreSorted rest = subst AreSorted (sym is) (rest_rises key xs c.requires) in
    let last = IsPartitionPoint-from_clause (is_upto key) rest c.partition_point-end.result c.partition_point-end.ensures.partitioned
    (IsPartitionedBy-leb (λ (p : Pair). p.key) rest key (keys_rise rest rising)) (λ a r f' k. search rules) in
    ends_at key xs rest c.partition_point-end.result is last c.partition_point-end.ensures.bound
