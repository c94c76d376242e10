use Rattle.std.proofs.Common.{nat_lt, rules}
use Rattle.std.proofs.lemmas.List.Sorted.{answers_always}
use Rattle.wire.proofs.Ascending.{ascending}
use Rattle.object_store.proofs.catalogue.decoding.ascend.Goals as goal

pub returns : goal.returns
returns c =
    ascending (λ entry. entry.id) _ _
    (c.is_sorted_by.ensures.cases (λ one other. nat_lt one.id other.id)
    (answers_always _ _ _ (λ f a r k called. search rules)))
