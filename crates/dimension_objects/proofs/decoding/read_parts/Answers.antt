use Rattle.std.proofs.Common.{subst, ℕ, List}
use Rattle.std.proofs.lemmas.Result.{err_from_is_err_and}
use Rattle.dimension_objects.specs.Columns.{BeginsWithNoCodes, BeginsWithNoTexts, ReadsColumns, ReadsColumnTexts}
use Rattle.dimension_objects.proofs.Refused.{refused_so}
use Rattle.dimension_objects.proofs.DecodingLemmas.{none_end, none_keys, none_linked, none_rows, none_texts, whole}
use Rattle.dimension_objects.proofs.decoding.read_parts.Goals as goal

pub returns-in_err-read_texts-clause-refused : goal.returns-in_err-read_texts-clause-refused
returns-in_err-read_texts-clause-refused c =
    let p = err_from_is_err_and c.from_residual.result c.from_residual.ensures.1 in
    rw (p.1, p.2) (refused_so c.in_err-read_texts.field-0.0
    (λ none bytes header. none_texts c.args.axis bytes c.args.cursor.now c.args.rows header
    (subst (λ (order : List ℕ). BeginsWithNoTexts order c.args.cursor.now) c.stored_columns.ensures none))
    c.in_err-read_texts.ensures.refused)

pub returns-in_err-read_columns-clause-refused : goal.returns-in_err-read_columns-clause-refused
returns-in_err-read_columns-clause-refused c =
    let p = err_from_is_err_and c.from_residual-in_err-read_columns.result
    c.from_residual-in_err-read_columns.ensures.1 in
    let texts =
    subst (λ (order : List ℕ). ReadsColumnTexts order c.args.cursor.now c.read_texts.new.cursor c.args.columns.now.items
    c.read_texts.new.columns.items) c.stored_columns.ensures c.in_ok-read_texts.ensures.ok in
    rw (p.1, p.2) (refused_so c.in_err-read_columns.field-0.0
    (λ none bytes header. none_linked c.args.axis bytes c.args.cursor.now c.args.rows header c.read_texts.new.cursor
    c.args.columns.now.items c.read_texts.new.columns.items c.requires.count texts
    (subst (λ (order : List ℕ). BeginsWithNoCodes c.args.axis c.args.rows order c.read_texts.new.columns.items
    c.read_texts.new.cursor) c.linked_columns.ensures none))
    c.in_err-read_columns.ensures.refused)

pub returns-in_err-keys-clause-refused : goal.returns-in_err-keys-clause-refused
returns-in_err-keys-clause-refused c =
    let p = err_from_is_err_and c.from_residual-in_err-keys.result c.from_residual-in_err-keys.ensures.1 in
    let texts =
    subst (λ (order : List ℕ). ReadsColumnTexts order c.args.cursor.now c.read_texts.new.cursor c.args.columns.now.items
    c.read_texts.new.columns.items) c.stored_columns.ensures c.in_ok-read_texts.ensures.ok in
    let linked =
    subst (λ (order : List ℕ). ReadsColumns c.args.axis c.args.rows order c.read_texts.new.cursor
    c.read_columns.new.cursor c.read_texts.new.columns.items c.read_columns.new.columns.items)
    c.linked_columns.ensures c.in_ok-read_columns.ensures.ok in
    rw (p.1, p.2) (refused_so c.in_err-keys.field-0.0
    (λ short bytes header. none_keys c.args.axis bytes c.args.cursor.now c.args.rows header c.read_texts.new.cursor
    c.args.columns.now.items c.read_texts.new.columns.items c.requires.count texts c.read_columns.new.cursor
    c.read_columns.new.columns.items linked short)
    c.in_err-keys.ensures.refused)

pub returns-in_err-read_columns-2-clause-refused : goal.returns-in_err-read_columns-2-clause-refused
returns-in_err-read_columns-2-clause-refused c =
    let p = err_from_is_err_and c.from_residual-in_err-read_columns-2.result
    c.from_residual-in_err-read_columns-2.ensures.1 in
    let texts =
    subst (λ (order : List ℕ). ReadsColumnTexts order c.args.cursor.now c.read_texts.new.cursor c.args.columns.now.items
    c.read_texts.new.columns.items) c.stored_columns.ensures c.in_ok-read_texts.ensures.ok in
    let linked =
    subst (λ (order : List ℕ). ReadsColumns c.args.axis c.args.rows order c.read_texts.new.cursor
    c.read_columns.new.cursor c.read_texts.new.columns.items c.read_columns.new.columns.items)
    c.linked_columns.ensures c.in_ok-read_columns.ensures.ok in
    rw (p.1, p.2) (refused_so c.in_err-read_columns-2.field-0.0
    (λ none bytes header. none_rows c.args.axis bytes c.args.cursor.now c.args.rows header c.read_texts.new.cursor
    c.args.columns.now.items c.read_texts.new.columns.items c.requires.count texts c.read_columns.new.cursor
    c.read_columns.new.columns.items linked
    c.read_keys.new.cursor c.in_ok-keys.keys c.in_ok-keys.ensures.ok
    (subst (λ (order : List ℕ). BeginsWithNoCodes c.args.axis c.args.rows order c.read_columns.new.columns.items
    c.read_keys.new.cursor) c.row_columns.ensures none))
    c.in_err-read_columns-2.ensures.refused)

pub returns-clause-ok : goal.returns-clause-ok
returns-clause-ok c =
    let texts =
    subst (λ (order : List ℕ). ReadsColumnTexts order c.args.cursor.now c.read_texts.new.cursor c.args.columns.now.items
    c.read_texts.new.columns.items) c.stored_columns.ensures c.in_ok-read_texts.ensures.ok in
    let linked =
    subst (λ (order : List ℕ). ReadsColumns c.args.axis c.args.rows order c.read_texts.new.cursor
    c.read_columns.new.cursor c.read_texts.new.columns.items c.read_columns.new.columns.items)
    c.linked_columns.ensures c.in_ok-read_columns.ensures.ok in
    let by_row =
    subst (λ (order : List ℕ). ReadsColumns c.args.axis c.args.rows order c.read_keys.new.cursor
    c.read_columns-2.new.cursor c.read_columns.new.columns.items c.read_columns-2.new.columns.items)
    c.row_columns.ensures c.in_ok-read_columns-2.ensures.ok in
    λ bytes header empty. whole c.args.axis bytes c.args.cursor.now c.args.rows header c.read_texts.new.cursor
    c.args.columns.now.items c.read_texts.new.columns.items c.requires.count texts
    c.read_columns.new.cursor c.read_columns.new.columns.items linked c.read_keys.new.cursor c.in_ok-keys.keys
    c.in_ok-keys.ensures.ok c.read_columns-2.new.cursor c.read_columns-2.new.columns.items by_row empty

pub returns-clause-after : goal.returns-clause-after
returns-clause-after c =
    let texts =
    subst (λ (order : List ℕ). ReadsColumnTexts order c.args.cursor.now c.read_texts.new.cursor c.args.columns.now.items
    c.read_texts.new.columns.items) c.stored_columns.ensures c.in_ok-read_texts.ensures.ok in
    let linked =
    subst (λ (order : List ℕ). ReadsColumns c.args.axis c.args.rows order c.read_texts.new.cursor
    c.read_columns.new.cursor c.read_texts.new.columns.items c.read_columns.new.columns.items)
    c.linked_columns.ensures c.in_ok-read_columns.ensures.ok in
    let by_row =
    subst (λ (order : List ℕ). ReadsColumns c.args.axis c.args.rows order c.read_keys.new.cursor
    c.read_columns-2.new.cursor c.read_columns.new.columns.items c.read_columns-2.new.columns.items)
    c.row_columns.ensures c.in_ok-read_columns-2.ensures.ok in
    λ bytes header more. none_end c.args.axis bytes c.args.cursor.now c.args.rows header c.read_texts.new.cursor
    c.args.columns.now.items c.read_texts.new.columns.items c.requires.count texts
    c.read_columns.new.cursor c.read_columns.new.columns.items linked c.read_keys.new.cursor c.in_ok-keys.keys
    c.in_ok-keys.ensures.ok c.read_columns-2.new.cursor c.read_columns-2.new.columns.items by_row more
