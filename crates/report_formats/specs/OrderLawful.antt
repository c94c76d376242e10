-- What the order of a report means. Each is proved as the contract of a function of its name.
use Rattle.std.specs.Prelude.{◌≡◌, ◌≤◌, ℕ, ℤ, pos, Some, List}
use Rattle.std.specs.List.Sorted.{IsPermutation}
use Rattle.cube_model.specs.Answers.{answer}
use Rattle.cube_model.specs.Ascending.{IsAscending}
use Rattle.cube_model.specs.Fractions.{fraction_of}
use Rattle.cube_model.specs.declared.answer.Value.TheVariants.{Whole}
use Rattle.cube_model.specs.declared.query.Query.{Query}
use Rattle.cube_model.specs.declared.rows.DimRows.{DimRows}
use Rattle.cube_model.specs.declared.rows.LineOrder.{LineOrder}
use Rattle.report_formats.specs.declared.arrangement.Sorting.{Sorting}
use Rattle.report_formats.specs.Arranging.{sorted}
use Rattle.report_formats.specs.Sorting.{fraction_cmp, quotient, sorting_cmp}

-- the lines of an answer are all there once sorted, and each is below those after it
abbrev pub AnswersAreSorted : Type 0
AnswersAreSorted = (query : Query) (dimensions : DimRows) (rows : List LineOrder) (sorting : Sorting)
    → IsPermutation (answer query dimensions rows).lines (sorted (Some sorting) (answer query dimensions rows).lines)
    × IsAscending (sorting_cmp sorting) (sorted (Some sorting) (answer query dimensions rows).lines)

-- averages compare as their sums over their counts: a report with either has its lines in one order
abbrev pub AveragesSortAlike : Type 0
AveragesSortAlike = (sum other : ℤ) (count many : ℕ) → 1 ≤ count → 1 ≤ many
    → fraction_cmp (fraction_of sum count) (fraction_of other many)
    ≡ fraction_cmp (quotient (Whole sum) (Whole (pos count))) (quotient (Whole other) (Whole (pos many)))
