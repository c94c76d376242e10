-- Tables of codes lead from a row of a dimension to the code of its member.
use Rattle.std.proofs.Common.{◌≡◌, ◌∙◌, sym, ap, refl, ℕ, zero, suc, ◌<◌, List, [], ◌∷◌, length, get_or, Some, None}
use Rattle.std.proofs.Common.{arith}
use Rattle.cube_model.specs.declared.attr.Axis.{Axis}
use Rattle.cube_model.specs.declared.attr.Axis.TheVariants.{Customer, Supplier, Part, Date}
use Rattle.cube_model.specs.declared.rows.DimRows.{DimRows}
use Rattle.cube_model.specs.Places.{row_count_of}
use Rattle.dictionary.specs.Columns.{codes_of}
use Rattle.dimensions.specs.Coded.{AreGoodRows, texts_at_places}
use Rattle.dimensions.specs.Columns.{code_at}
use Rattle.dimensions.specs.Shapes.{lower_of}
use Rattle.dimensions.specs.Shown.{rows_on}
use Rattle.dimensions.specs.TextRows.{TextRow, column_of}
use Rattle.dimensions.proofs.AttributeLaws.{count_on}
use Rattle.lattice.specs.declared.level.Level.{Level}
use Rattle.lattice.specs.declared.level.Level.TheVariants.{All}
use Rattle.lattice.specs.Levels.{level_attribute}
use Rattle.cuboid_upkeep.specs.Codes.{level_column, member_code}
use Rattle.cuboid_upkeep.specs.Tables.{LeadToMembers}
use Rattle.cuboid_upkeep.proofs.Coded.{code_below, few_days, in_level_column, in_no_column, read_above, read_at_row}

-- below two lower columns there is none
of_three : (column lower lowest : ℕ) → lower_of Customer column ≡ Some lower → lower_of Customer lower ≡ Some lowest
    → lower_of Customer lowest ≡ None
of_three zero lower lowest first second = absurd (cc first)
of_three (suc zero) lower lowest first second =
    (let is : 0 ≡ lower = cc first in absurd (cc (ap (lower_of Customer) is ∙ second)))
of_three (suc (suc zero)) lower lowest first second =
    let is : 1 ≡ lower = cc first in
    let some : Some 0 ≡ Some lowest = ap (lower_of Customer) is ∙ second in
    let low : 0 ≡ lowest = cc some in
    sym (ap (lower_of Customer) low)
of_three (suc (suc (suc n))) lower lowest first second = absurd (cc first)

of_four : (column lower lowest : ℕ) → lower_of Date column ≡ Some lower → lower_of Date lower ≡ Some lowest
    → lower_of Date lowest ≡ None
of_four zero lower lowest first second = absurd (cc first)
of_four (suc zero) lower lowest first second =
    (let is : 0 ≡ lower = cc first in absurd (cc (ap (lower_of Date) is ∙ second)))
of_four (suc (suc zero)) lower lowest first second =
    (let is : 0 ≡ lower = cc first in absurd (cc (ap (lower_of Date) is ∙ second)))
of_four (suc (suc (suc zero))) lower lowest first second = absurd (cc first)
of_four (suc (suc (suc (suc n)))) lower lowest first second = absurd (cc first)

pub no_third : (axis : Axis) (column lower lowest : ℕ) → lower_of axis column ≡ Some lower
    → lower_of axis lower ≡ Some lowest → lower_of axis lowest ≡ None
no_third Customer column lower lowest first second = of_three column lower lowest first second
no_third Supplier column lower lowest first second = of_three column lower lowest first second
no_third Part column lower lowest first second = of_three column lower lowest first second
no_third Date column lower lowest first second = of_four column lower lowest first second

-- a place of a list is one of an equal list, and the same number is there
read_in : (codes others : List ℕ) (place at : ℕ) → codes ≡ others → place ≡ at → at < length others
    → (place < length codes) × (get_or codes place 0 ≡ get_or others at 0)
read_in codes others place at same there within =
    (omega (arith, ap length same, there, within), λ i. get_or (same i) (there i) 0)

module _ (dimensions : DimRows) (axis : Axis) (grouped : Level) (good : AreGoodRows axis (rows_on dimensions axis))
  where
    abbrev rows : List TextRow
    rows = rows_on dimensions axis

    abbrev table : ℕ → List ℕ
    table column = codes_of (texts_at_places axis column rows)

    in_rows : (place : ℕ) → place < row_count_of dimensions axis → place < length rows
    in_rows place there = omega (arith, there, count_on dimensions axis)

    -- a day is its row
    pub days_lead : level_column (level_attribute axis grouped) ≡ None → (grouped ≡ All → ⊥)
        → LeadToMembers dimensions axis grouped []
    days_lead none apart = record {
      leads = λ place there. (in_no_column dimensions place axis grouped none apart).1;
      below = λ place there.
          (let is = in_no_column dimensions place axis grouped none apart in
          let few = few_days axis rows good is.0 in
          omega (arith, there, few, count_on dimensions axis, is.1));
    }

    module _ (column : ℕ) (is : level_column (level_attribute axis grouped) ≡ Some column) where
      member : (place : ℕ) → code_at (column_of column rows) place ≡ member_code dimensions axis grouped place
      member place = (in_level_column dimensions place column axis grouped is).1

      low : (place : ℕ) → place < row_count_of dimensions axis → member_code dimensions axis grouped place < 65535
      low place there =
          let below =
          code_below axis rows good column place (in_rows place there)
          (in_level_column dimensions place column axis grouped is).0 in
          omega (arith, below, member place)

      pub one_leads : (codes : List ℕ) → codes ≡ table column → lower_of axis column ≡ None
          → LeadToMembers dimensions axis grouped (codes ∷ [])
      one_leads codes codes_are none = record {
        leads = λ place there.
            (let own = read_at_row axis rows good column place (in_rows place there) none in
            let read = read_in codes (table column) place place codes_are refl own.0 in
            (read.0, read.1 ∙ own.1 ∙ member place));
        below = low;
      }

      pub two_lead : (lower : ℕ) (lowers codes : List ℕ) → lowers ≡ table lower → codes ≡ table column
          → lower_of axis column ≡ Some lower → lower_of axis lower ≡ None
          → LeadToMembers dimensions axis grouped (lowers ∷ codes ∷ [])
      two_lead lower lowers codes lowers_are codes_are above none = record {
        leads = λ place there.
            (let within = in_rows place there in
            let first = read_at_row axis rows good lower place within none in
            let own = read_above axis rows good column place within lower above in
            let read = read_in lowers (table lower) place place lowers_are refl first.0 in
            let next = read_in codes (table column) (get_or lowers place 0) (code_at (column_of lower rows) place)
            codes_are (read.1 ∙ first.1) own.0 in
            (read.0, (next.0, next.1 ∙ own.1 ∙ member place)));
        below = low;
      }

      pub three_lead : (lower lowest : ℕ) (lowests lowers codes : List ℕ) → lowests ≡ table lowest
          → lowers ≡ table lower
          → codes ≡ table column
          → lower_of axis column ≡ Some lower → lower_of axis lower ≡ Some lowest
          → LeadToMembers dimensions axis grouped (lowests ∷ lowers ∷ codes ∷ [])
      three_lead lower lowest lowests lowers codes lowests_are lowers_are codes_are above above_lower = record {
        leads = λ place there.
            (let within = in_rows place there in
            let first =
            read_at_row axis rows good lowest place within (no_third axis column lower lowest above above_lower) in
            let second = read_above axis rows good lower place within lowest above_lower in
            let own = read_above axis rows good column place within lower above in
            let read = read_in lowests (table lowest) place place lowests_are refl first.0 in
            let next = read_in lowers (table lower) (get_or lowests place 0) (code_at (column_of lowest rows) place)
            lowers_are (read.1 ∙ first.1) second.0 in
            let last = read_in codes (table column) (get_or lowers (get_or lowests place 0) 0)
            (code_at (column_of lower rows) place) codes_are (next.1 ∙ second.1) own.0 in
            (read.0, (next.0, (last.0, last.1 ∙ own.1 ∙ member place))));
        below = low;
      }
