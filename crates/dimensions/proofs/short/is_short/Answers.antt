use Rattle.std.proofs.Common.{◌≤◌, ap, arith, length, get_or, [], List, ℕ}
use Rattle.dimensions.specs.TextRows.{TextRow}
use Rattle.dimensions.proofs.ShortLaws.{all_at, all_more, all_whole}
use Rattle.dimensions.proofs.short.is_short.Goals as goal

abbrev IsShort : List ℕ → Type 0
IsShort text = length text ≤ 255

pub loop-column-preserved : goal.loop-column-preserved
loop-column-preserved g c =
    let row : TextRow = g.R.DimensionRow.shown c.args.row.now in
    all_more IsShort row.texts c.loop-column.column [] (omega (arith, c.loop-column-test.true, c.requires))
    c.loop-column.invariant
    (omega (arith, ap length c.text-text.ensures, c.if-text-gt-LONGEST_TEXT.false))

pub returns-then-text-gt-LONGEST_TEXT-clause-no : goal.returns-then-text-gt-LONGEST_TEXT-clause-no
returns-then-text-gt-LONGEST_TEXT-clause-no g c = λ all.
    let row : TextRow = g.R.DimensionRow.shown c.args.row.now in
    let short : length (get_or row.texts c.loop-column.column []) ≤ 255 =
    all_at IsShort row.texts c.loop-column.column [] (omega (arith, c.loop-column-test.true, c.requires)) all in
    absurd (omega (arith, short, ap length c.text-text.ensures, c.if-text-gt-LONGEST_TEXT.true))

pub returns-clause-yes : goal.returns-clause-yes
returns-clause-yes g c =
    let row : TextRow = g.R.DimensionRow.shown c.args.row.now in
    all_whole IsShort row.texts c.loop-column.column
    (omega (arith, c.loop-column-test.false, c.loop-column.auto.column-end, c.requires)) c.loop-column.invariant
