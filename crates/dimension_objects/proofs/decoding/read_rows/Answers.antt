use Rattle.std.proofs.Common.{sym, subst, refl, inr, true≢false, ℕ, List}
use Rattle.std.proofs.lemmas.Result.{err_from_is_err_and}
use Rattle.dimensions.specs.declared.coded.CodedColumn.{CodedColumn}
use Rattle.dimension_objects.specs.Columns.{IsSpelled, ReadsDimensionHeader}
use Rattle.dimension_objects.proofs.Refused.{refused_so}
use Rattle.dimension_objects.proofs.decoding.read_rows.Goals as goal

pub returns-in_err-keys-clause-refused : goal.returns-in_err-keys-clause-refused
returns-in_err-keys-clause-refused c =
    let p = err_from_is_err_and c.from_residual-in_err-keys.result c.from_residual-in_err-keys.ensures.1 in
    let header = subst (λ (b : List ℕ). ReadsDimensionHeader c.args.axis b c.read_header.new.cursor c.in_ok-rows.rows)
    c.new-cursor.ensures c.in_ok-rows.ensures.ok in
    rw (p.1, p.2)
    (refused_so c.in_err-keys.field-0.0 (λ none. none c.args.bytes.now header) c.in_err-keys.ensures.refused)

pub returns-then-not-is_empty-clause-refused : goal.returns-then-not-is_empty-clause-refused
returns-then-not-is_empty-clause-refused c =
    let header = subst (λ (b : List ℕ). ReadsDimensionHeader c.args.axis b c.read_header.new.cursor c.in_ok-rows.rows)
    c.new-cursor.ensures c.in_ok-rows.ensures.ok in
    inr (
      refl,
      c.in_ok-keys.ensures.after c.args.bytes.now header
          (λ empty. absurd (true≢false (sym (c.if-not-is_empty.ensures.1 empty)))),
    )

pub returns-clause-ok : goal.returns-clause-ok
returns-clause-ok c =
    let header = subst (λ (b : List ℕ). ReadsDimensionHeader c.args.axis b c.read_header.new.cursor c.in_ok-rows.rows)
    c.new-cursor.ensures c.in_ok-rows.ensures.ok in
    subst (λ (columns : List CodedColumn). IsSpelled c.args.axis c.args.bytes.now
    (record { keys = c.in_ok-keys.keys; columns = columns })) (sym c.from_vec.ensures)
    (c.in_ok-keys.ensures.ok c.args.bytes.now header (c.is_empty.ensures.0 c.if-not-is_empty.false))
