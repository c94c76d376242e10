use Rattle.std.proofs.Common.{◌≡◌, ◌<◌, ◌∙◌, ap, sym, subst, arith, length, map, get_or, List}
use Rattle.std.proofs.lemmas.List.{length-map, get_or-map}
use Rattle.dimensions.specs.TextRows.{TextRow}
use Rattle.dimensions.specs.ShortTexts.{IsShortRow}
use Rattle.dimensions.proofs.ShortLaws.{all_at, all_more, all_whole}
use Rattle.dimensions.proofs.short.are_short.Goals as goal

pub loop-row-preserved : goal.loop-row-preserved
loop-row-preserved g c =
    let all : List TextRow = map g.R.DimensionRow.shown c.args.rows.now in
    let row : TextRow = g.R.DimensionRow.shown c.row-item.result in
    let lt : c.loop-row.row-index < length all =
    omega (arith, length-map c.args.rows.now g.R.DimensionRow.shown, c.loop-row-test.true) in
    let at : get_or all c.loop-row.row-index row ≡ row =
    get_or-map g.R.DimensionRow.shown c.args.rows.now c.loop-row.row-index c.row-item.result row c.loop-row-test.true
    ∙ ap g.R.DimensionRow.shown (sym c.row-item.is) in
    all_more IsShortRow all c.loop-row.row-index row lt c.loop-row.invariant
    (subst IsShortRow (sym at) c.if-not-is_short.ensures.yes)

pub returns-then-not-is_short-clause-no : goal.returns-then-not-is_short-clause-no
returns-then-not-is_short-clause-no g c = λ every.
    let all : List TextRow = map g.R.DimensionRow.shown c.args.rows.now in
    let row : TextRow = g.R.DimensionRow.shown c.row-item.result in
    let lt : c.loop-row.row-index < length all =
    omega (arith, length-map c.args.rows.now g.R.DimensionRow.shown, c.loop-row-test.true) in
    let at : get_or all c.loop-row.row-index row ≡ row =
    get_or-map g.R.DimensionRow.shown c.args.rows.now c.loop-row.row-index c.row-item.result row c.loop-row-test.true
    ∙ ap g.R.DimensionRow.shown (sym c.row-item.is) in
    c.if-not-is_short.ensures.no (subst IsShortRow at (all_at IsShortRow all c.loop-row.row-index row lt every))

pub returns-clause-yes : goal.returns-clause-yes
returns-clause-yes g c =
    let all : List TextRow = map g.R.DimensionRow.shown c.args.rows.now in
    all_whole IsShortRow all c.loop-row.row-index
    (omega (
      arith,
      length-map c.args.rows.now g.R.DimensionRow.shown,
      c.loop-row-test.false,
      c.loop-row.auto.row-index-end,
    )) c.loop-row.invariant
