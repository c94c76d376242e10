use Rattle.std.proofs.Common.{◌≡◌, ◌∙◌, sym, subst, length}
use Rattle.std.proofs.lemmas.List.{with_items_is}
use Rattle.group_tallies.specs.Coarser.{MayMerge, MergesIn}
use Rattle.group_tallies.proofs.coarser.merge.Goals as goal

pub merge_in_all-requires-clause-may : goal.merge_in_all-requires-clause-may
merge_in_all-requires-clause-may c =
    subst (MayMerge c.args.sources.now c.args.targets.now) (sym c.as_mut_slice.ensures.value) c.requires.may

pub returns-in-Ok-clause-ok : goal.returns-in-Ok-clause-ok
returns-in-Ok-clause-ok c =
    let new = c.merge_in_all.new.columns in
    let len : length new ≡ c.args.columns.now.len = c.merge_in_all.auto.columns ∙ c.as_mut_slice.ensures.len in
    let merged : MergesIn c.args.sources.now c.args.targets.now c.args.columns.now.items new =
    subst (λ old. MergesIn c.args.sources.now c.args.targets.now old new) c.as_mut_slice.ensures.value
    c.in-Ok.ensures.ok in
    subst (MergesIn c.args.sources.now c.args.targets.now c.args.columns.now.items)
    (sym (with_items_is c.args.columns.now new len)) merged
