use Rattle.std.proofs.Common.{subst, List, ℕ, codes, refl}
use Rattle.wire.specs.Reading.{TakesBytes}
use Rattle.column_segment.proofs.ReadingLemmas.{header_is, none_many, none_name, none_number, none_rows, other_name}
use Rattle.column_segment.proofs.ReadingLemmas.{own_name}
use Rattle.column_segment.proofs.reading.read_header.Goals as goal

pub returns-then-ne-clause-none : goal.returns-then-ne-clause-none
returns-then-ne-clause-none c =
    let taken = subst (λ (old : List ℕ). TakesBytes 4 old c.bytes.new.self c.in_ok-bytes.field-0.now)
    c.new-cursor.ensures c.in_ok-bytes.ensures.value in
    λ err. none_name _ _ _ taken (other_name c.in_ok-bytes.field-0.now (codes "SEG1") _ c.ne.ensures c.if-ne.true)

pub returns-in_err-number-clause-none : goal.returns-in_err-number-clause-none
returns-in_err-number-clause-none c =
    let taken = subst (λ (old : List ℕ). TakesBytes 4 old c.bytes.new.self c.in_ok-bytes.field-0.now)
    c.new-cursor.ensures c.in_ok-bytes.ensures.value in
    λ err. none_number _ _ _ taken (c.in_err-number.ensures.short.0 refl)

pub returns-in_err-rows-clause-none : goal.returns-in_err-rows-clause-none
returns-in_err-rows-clause-none c =
    let taken = subst (λ (old : List ℕ). TakesBytes 4 old c.bytes.new.self c.in_ok-bytes.field-0.now)
    c.new-cursor.ensures c.in_ok-bytes.ensures.value in
    λ err. none_rows _ _ _ taken _ _ c.in_ok-number.ensures.value (c.in_err-rows.ensures.short.0 refl)

pub returns-then-rows-gt-MOST_BATCH_ROWS-clause-none : goal.returns-then-rows-gt-MOST_BATCH_ROWS-clause-none
returns-then-rows-gt-MOST_BATCH_ROWS-clause-none c =
    let taken = subst (λ (old : List ℕ). TakesBytes 4 old c.bytes.new.self c.in_ok-bytes.field-0.now)
    c.new-cursor.ensures c.in_ok-bytes.ensures.value in
    λ err. none_many _ _ _ taken _ _ c.in_ok-number.ensures.value _ _ c.in_ok-rows.ensures.value
    c.if-rows-gt-MOST_BATCH_ROWS.true

pub returns-clause-ok : goal.returns-clause-ok
returns-clause-ok c =
    let taken = subst (λ (old : List ℕ). TakesBytes 4 old c.bytes.new.self c.in_ok-bytes.field-0.now)
    c.new-cursor.ensures c.in_ok-bytes.ensures.value in
    header_is _ _ _ taken _ _ c.in_ok-number.ensures.value _ _ c.in_ok-rows.ensures.value
    (own_name c.in_ok-bytes.field-0.now (codes "SEG1") _ c.ne.ensures c.if-ne.false)
    c.if-rows-gt-MOST_BATCH_ROWS.false
