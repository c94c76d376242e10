use Rattle.std.proofs.Common.{◌+◌, ltb, arith, rules}
use Rattle.std.proofs.lemmas.Bool.Decides.{nat_tests}
use Rattle.std.proofs.lemmas.List.Sorted.{IsPartitionPoint-from_clause, IsPartitionedBy-ltb}
use Rattle.extents.specs.declared.extent.Extent.{Extent}
use Rattle.extents.proofs.join.ended.Goals as goal

pub returns-clause-before : goal.returns-clause-before
returns-clause-before c k d lt =
    let parted = IsPartitionedBy-ltb (λ (run : Extent). run.first + run.len) c.args.runs.now c.args.sector c.requires in
    let point = IsPartitionPoint-from_clause (λ (run : Extent). ltb (run.first + run.len) c.args.sector) _ _
    c.partition_point.ensures.partitioned parted (λ a r q k. search rules) in
    let test = point.0 k d (omega arith) lt in
    grind (arith, nat_tests)

pub returns-clause-after : goal.returns-clause-after
returns-clause-after c k d le lt =
    let parted = IsPartitionedBy-ltb (λ (run : Extent). run.first + run.len) c.args.runs.now c.args.sector c.requires in
    let point = IsPartitionPoint-from_clause (λ (run : Extent). ltb (run.first + run.len) c.args.sector) _ _
    c.partition_point.ensures.partitioned parted (λ a r q k. search rules) in
    let test = point.1 k d le lt in
    grind (arith, nat_tests)
