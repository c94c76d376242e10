use Rattle.std.proofs.Common.{ltb, arith, rules}
use Rattle.std.proofs.lemmas.Bool.Decides.{nat_tests}
use Rattle.std.proofs.lemmas.List.Sorted.{IsPartitionPoint-from_clause, IsPartitionedBy-ltb}
use Rattle.object_store.specs.declared.catalogue.entry.Entry.{Entry}
use Rattle.object_store.proofs.EntriesLemmas.{not_falling}
use Rattle.object_store.proofs.entries.place_of.Goals as goal

pub returns-clause-before : goal.returns-clause-before
returns-clause-before c k d lt =
    let parted =
    IsPartitionedBy-ltb (λ (e : Entry). e.id) c.args.entries.now c.args.id
    (not_falling (λ (e : Entry). e.id) c.args.entries.now c.requires) in
    let point =
    IsPartitionPoint-from_clause (λ (e : Entry). ltb e.id c.args.id) _ _ c.partition_point.ensures.partitioned
    parted (λ a r q k. search rules) in
    let test = point.0 k d (omega arith) lt in
    grind (arith, nat_tests)

pub returns-clause-after : goal.returns-clause-after
returns-clause-after c k d le lt =
    let parted =
    IsPartitionedBy-ltb (λ (e : Entry). e.id) c.args.entries.now c.args.id
    (not_falling (λ (e : Entry). e.id) c.args.entries.now c.requires) in
    let point =
    IsPartitionPoint-from_clause (λ (e : Entry). ltb e.id c.args.id) _ _ c.partition_point.ensures.partitioned
    parted (λ a r q k. search rules) in
    let test = point.1 k d le lt in
    grind (arith, nat_tests)
