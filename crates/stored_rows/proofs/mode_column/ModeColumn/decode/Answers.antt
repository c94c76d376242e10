use Rattle.std.proofs.Common.{◌∙◌, inr, refl, sym, ap, subst, List, [], ℕ, map, length, true≢false}
use Rattle.std.specs.Int.{from_le_bytes, w16}
use Rattle.cube_model.specs.declared.rows.LineOrder.{LineOrder}
use Rattle.column_segment.specs.declared.columns.TextColumn.TheVariants.{ShipMode}
use Rattle.batch_admission.specs.ShipModes.{texts_by}
use Rattle.dictionary.specs.Columns.{AreCodes}
use Rattle.stored_rows.specs.TextColumns.{IsCoded, SpellLast}
use Rattle.stored_rows.proofs.TextColumns.{are_coded, handed_on, has_codes, many_modes, modes_one, no_columns}
use Rattle.stored_rows.proofs.TextColumns.{none_left}
use Rattle.stored_rows.proofs.mode_column.ModeColumn.decode.Goals as goal
use Rattle.stored_rows.proofs.mode_column.ModeColumn.decode.Goals.{then-not-is_empty-via-then-not-is_empty}
use Rattle.stored_rows.proofs.mode_column.ModeColumn.decode.Goals.{
  then-not-is_empty-via-else-not-is_empty+then-not-are_codes,
}

pub returns-in_err-texts-clause-refused : goal.returns-in_err-texts-clause-refused
returns-in_err-texts-clause-refused c =
    handed_on c.from_residual.result _ c.from_residual.ensures.1
    (λ none others are. no_columns c.args.rows c.new-cursor.result [] ShipMode others none
    (subst (λ (bytes : List ℕ). SpellLast c.args.rows bytes others) (sym c.new-cursor.ensures) are))
    c.in_err-texts.ensures.refused

pub returns-then-not-is_empty-clause-refused : goal.returns-then-not-is_empty-clause-refused
returns-then-not-is_empty-clause-refused c =
    let rows : ℕ = c.args.rows in
    let taken = c.in_ok-texts.ensures.ok in
    let last : (others : List LineOrder) → SpellLast rows c.args.bytes.now others
    → SpellLast rows c.new-cursor.result others =
    λ others are. subst (λ (bytes : List ℕ). SpellLast rows bytes others) (sym c.new-cursor.ensures) are in
    inr (
      refl,
      λ others are. elim c.then-not-is_empty.branch [
        | then-not-is_empty-via-then-not-is_empty w ↦ true≢false
            (sym (c.is_empty.ensures.1 (none_left rows c.new-cursor.result c.take_column.new.cursor
            c.in_ok-texts.texts.texts c.in_ok-texts.part.now c.requires.few taken _ c.as_chunks.ensures.front others
            (last others are))) ∙ w.if-not-is_empty.true)
        | then-not-is_empty-via-else-not-is_empty+then-not-are_codes w ↦ true≢false
            (sym (w.are_codes.ensures.1
            (subst (λ (n : ℕ). AreCodes n (map (from_le_bytes w16) c.as_chunks.result.0.now)) (sym w.len.ensures.count)
            (has_codes rows c.new-cursor.result c.take_column.new.cursor
            c.in_ok-texts.texts.texts c.in_ok-texts.part.now c.requires.few taken _ c.as_chunks.ensures.front others
            (last others are)))) ∙ w.if-not-are_codes.true)
      ],
    )

pub invariant_of-result : goal.invariant_of-result
invariant_of-result c =
    let texts : List (List ℕ) = c.in_ok-texts.texts.texts in
    subst (IsCoded texts) (sym c.in_ok-codes.ensures.items)
    (are_coded c.args.rows c.new-cursor.result c.take_column.new.cursor texts c.in_ok-texts.part.now
    c.requires.few c.in_ok-texts.ensures.ok _ c.as_chunks.ensures.front
    (subst (λ (n : ℕ). AreCodes n (map (from_le_bytes w16) c.as_chunks.result.0.now)) c.len.ensures.count
    (c.are_codes.ensures.0 c.if-not-are_codes.false)))

pub returns-clause-ok : goal.returns-clause-ok
returns-clause-ok c = λ others are.
    let texts : List (List ℕ) = c.in_ok-texts.texts.texts in
    ap (texts_by texts) c.in_ok-codes.ensures.items
    ∙ modes_one c.args.rows c.new-cursor.result c.take_column.new.cursor texts c.in_ok-texts.part.now
    c.requires.few c.in_ok-texts.ensures.ok _ c.as_chunks.ensures.front others
    (subst (λ (bytes : List ℕ). SpellLast c.args.rows bytes others) (sym c.new-cursor.ensures) are)

pub returns-clause-count : goal.returns-clause-count
returns-clause-count c =
    let texts : List (List ℕ) = c.in_ok-texts.texts.texts in
    ap (λ (codes : List (List ℕ)). length (texts_by texts codes)) c.in_ok-codes.ensures.items
    ∙ many_modes c.args.rows c.new-cursor.result c.take_column.new.cursor texts c.in_ok-texts.part.now
    c.requires.few c.in_ok-texts.ensures.ok _ c.as_chunks.ensures.front
