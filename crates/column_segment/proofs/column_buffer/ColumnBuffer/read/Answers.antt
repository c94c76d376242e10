use Rattle.std.proofs.Common.{◌≡◌, ℕ, List, ap, arith, length, subst, sym, ◌∙◌}
use Rattle.std.specs.List.{AllByRecursion}
use Rattle.std.specs.Option.{IsSomeAnd}
use Rattle.std.specs.Vec.{with_items}
use Rattle.std.proofs.lemmas.List.{with_items_is}
use Rattle.column_segment.specs.declared.layout.Layout.{Layout}
use Rattle.column_segment.specs.Projected.{HasColumns, ShareColumn}
use Rattle.column_segment.proofs.Shared.{found_agrees}
use Rattle.column_segment.proofs.Values.{rows_many}
use Rattle.column_segment.proofs.column_buffer.ColumnBuffer.read.Goals as goal

-- a layout of so many rows
abbrev laid : Layout → ℕ → Layout
laid layout rows = record { number = layout.number; rows = rows; texts = layout.texts }

pub returns-clause-count : goal.returns-clause-count
returns-clause-count g c =
    rows_many (with_items c.resize.new.self c.read_columns.new.bytes).items (laid c.self.inside.layout c.args.rows)

pub returns-clause-ok : goal.returns-clause-ok
returns-clause-ok g c keeps =
    let new : List ℕ = c.read_columns.new.bytes in
    let long : length new ≡ c.resize.new.self.len = c.read_columns.auto.bytes ∙ c.as_mut_slice.ensures.len in
    let kept : List ℕ = (with_items c.resize.new.self new).items in
    let rows : ℕ = c.args.rows in
    found_agrees kept (laid c.self.inside.layout rows) c.args.number c.args.columns.now
    (record {
      few = omega (arith, c.if-rows-gt-MOST_BATCH_ROWS.false);
      room = omega (arith, ap length (with_items_is c.resize.new.self new long), long, c.in_ok-resize.ensures.len);
    })
    (g.S.Source.texts c.args.source.now c.args.id)
    (subst (λ (l : List ℕ). IsSomeAnd (g.S.Source.texts c.args.source.now c.args.id)
    (λ t. HasColumns t c.args.number rows × AllByRecursion (ShareColumn rows l t) c.args.columns.now))
    (sym (with_items_is c.resize.new.self new long)) (c.in_ok-read_columns.ensures.found keeps))
