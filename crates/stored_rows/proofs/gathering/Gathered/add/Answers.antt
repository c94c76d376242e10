use Rattle.std.proofs.Common.{◌≤◌, ℕ, ◌++◌, ⊎_elim, inl, inr, Some, List, length, All, ap, refl, sym, ◌∙◌, subst}
use Rattle.cube_model.specs.Limits.{longest_text}
use Rattle.cube_model.specs.ShipModes.{modes_cause, reserved_place}
use Rattle.cube_model.specs.declared.fault.MemberPlace.TheVariants.{InBatch, InStoredBatch}
use Rattle.dictionary.specs.Dictionary.{firsts}
use Rattle.batch_admission.specs.ShipModes.{row_number_at}
use Rattle.stored_rows.specs.Gathered.{modes_before}
use Rattle.stored_rows.proofs.OneBatchMore.{crowding, found_none, gathered_crowded, gathered_more, gathered_still}
use Rattle.stored_rows.proofs.OneBatchMore.{none_there}
use Rattle.stored_rows.proofs.OneBatchMore.{refused_row, some_there}
use Rattle.stored_rows.proofs.gathering.Gathered.add.Goals as goal

pub returns-in-Some-clause-refused : goal.returns-in-Some-clause-refused
returns-in-Some-clause-refused c = inr (λ batches before batch same here modes is.
    refused_row batches before batch here c.args.self.now is c.args.number c.in-Some.row same
    (sym c.in-Some.is ∙ c.reserved_row.ensures
    ∙ ap (λ (l : List (List ℕ)). row_number_at (reserved_place l)) (c.coded.ensures.texts ∙ modes)))

pub returns-then-is_some-clause-ok : goal.returns-then-is_some-clause-ok
returns-then-is_some-clause-ok c = λ batches before batch same here modes is.
    let there = some_there c.args.self.now.crowded (sym c.is_some.ensures ∙ c.if-is_some.true) in
    gathered_still batches before batch here c.args.self.now c.args.self.now is
    (found_none _ (sym c.in_default.is ∙ c.reserved_row.ensures
    ∙ ap (λ (l : List (List ℕ)). row_number_at (reserved_place l)) (c.coded.ensures.texts ∙ modes))) there.0 there.1
    refl

pub with_batch-requires-clause-short : goal.with_batch-requires-clause-short
with_batch-requires-clause-short c =
    subst (λ (l : List (List ℕ)). All (λ text. length text ≤ longest_text) l) (sym c.coded.ensures.texts)
    c.coded.ensures.short

pub returns-in-Ok-clause-ok : goal.returns-in-Ok-clause-ok
returns-in-Ok-clause-ok c = λ batches before batch same here modes is.
    let none = none_there c.args.self.now.crowded (sym c.is_some.ensures ∙ c.if-is_some.false) in
    gathered_more batches before batch here c.args.self.now _ is
    (found_none _ (sym c.in_default.is ∙ c.reserved_row.ensures
    ∙ ap (λ (l : List (List ℕ)). row_number_at (reserved_place l)) (c.coded.ensures.texts ∙ modes))) none
    (ap (modes_cause InBatch (modes_before batches before)) (sym (c.coded.ensures.texts ∙ modes))
    ∙ c.in-Ok.ensures.none (modes_before batches before) (is.modes none)) none
    (c.in-Ok.ensures.ok (modes_before batches before) (is.modes none)
    ∙ ap (λ (l : List (List ℕ)). firsts (modes_before batches before ++ l)) (c.coded.ensures.texts ∙ modes))

pub returns-in-Err-TooManyMembers-InBatch-clause-ok : goal.returns-in-Err-TooManyMembers-InBatch-clause-ok
returns-in-Err-TooManyMembers-InBatch-clause-ok c = λ batches before batch same here modes is.
    let none = none_there c.args.self.now.crowded (sym c.is_some.ensures ∙ c.if-is_some.false) in
    gathered_crowded batches before batch here c.args.self.now _ is
    (found_none _ (sym c.in_default.is ∙ c.reserved_row.ensures
    ∙ ap (λ (l : List (List ℕ)). row_number_at (reserved_place l)) (c.coded.ensures.texts ∙ modes))) none
    c.in-Err-TooManyMembers-InBatch.row
    (ap (modes_cause InBatch (modes_before batches before)) (sym (c.coded.ensures.texts ∙ modes))
    ∙ crowding _ c.in-Err-TooManyMembers-InBatch.field-0 c.in-Err-TooManyMembers-InBatch.field-0-0
    c.in-Err-TooManyMembers-InBatch.row c.in-Err-TooManyMembers-InBatch.field-0-is
    c.in-Err-TooManyMembers-InBatch.field-0-0-is
    (⊎_elim (λ memory. inl memory) (λ cause. inr (cause (modes_before batches before) (is.modes none)))
    c.in-Err-TooManyMembers-InBatch.ensures.cause))
    (ap (λ (n : ℕ). Some (InStoredBatch n c.in-Err-TooManyMembers-InBatch.row)) same)
