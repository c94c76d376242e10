use Rattle.std.proofs.Common.{◌==◌, ◌≡◌, ◌∙◌, sym, refl, get_or, arith}
use Rattle.std.specs.List.{position_or_len}
use Rattle.std.proofs.lemmas.Bool.{false≢true}
use Rattle.dimensions.proofs.CountedKeys.{counted_distinct}
use Rattle.dimensions.proofs.KeyLaws.{distinct_place, places_distinct}
use Rattle.dimensions.proofs.key_rows.Lookup.tells_apart.Goals as goal
use borrow.Author.Count.{below_more}

pub returns-in-Consecutive : goal.returns-in-Consecutive
returns-in-Consecutive c =
    (λ _. counted_distinct c.in-Consecutive.first c.args.keys.now (rw c.in-Consecutive.is at c.requires), λ _. refl)

pub returns-then-row_index-row : goal.returns-then-row_index-row
returns-then-row_index-row c = (
  λ no. absurd (false≢true no),
  λ distinct.
      absurd (c.if-row_index-row.true
      (c.row_index.ensures ∙ distinct_place c.args.keys.now c.loop-row.row distinct c.loop-row-test.true)),
)

pub loop-row-preserved : goal.loop-row-preserved
loop-row-preserved c =
    below_more (λ k. position_or_len (λ other. other == get_or c.args.keys.now k 0) c.args.keys.now ≡ k) c.loop-row.row
    c.loop-row.invariant (sym c.row_index.ensures ∙ c.if-row_index-row.false)

pub returns : goal.returns
returns c = (
  λ _. places_distinct c.args.keys.now (λ row lt. c.loop-row.invariant row (omega (arith, lt))),
  λ _. refl,
)
