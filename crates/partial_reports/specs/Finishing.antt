-- Why merged lines are not finished, and when they are. Our own.
use Rattle.std.specs.Prelude.{◌≡◌, ◌⊎◌, ◌≤ℤ◌, pos, List, [], ◌∷◌}
use Rattle.std.specs.List.{AllByRecursion, Any}
use Rattle.cube_model.specs.declared.answer.Answer.{Answer}
use Rattle.cube_model.specs.declared.answer.Line.{Line}
use Rattle.cube_model.specs.declared.answer.Value.{Value}
use Rattle.cube_model.specs.declared.fault.Fault.{Fault}
use Rattle.cube_model.specs.declared.fault.Fault.TheVariants.{Memory, BadLayout}
use Rattle.cube_model.specs.declared.measure.Agg.{Agg}
use Rattle.cube_model.specs.declared.measure.Agg.TheVariants.{Count}
use Rattle.partial_reports.specs.Parts.{value_number}
use Rattle.partial_reports.specs.Readable.{IsWholeNumber}
use Rattle.partial_reports.specs.Wide.{range_fault}

-- some number passes 64 bits, and a fault is that of its aggregate
abbrev pub IsPastRange : Fault → List Agg → List Value → Type 0
IsPastRange fault [] values = ⊥
IsPastRange fault (agg ∷ aggs) [] = ⊥
IsPastRange fault (agg ∷ aggs) (value ∷ values) = ((fault ≡ range_fault agg) × (IsWholeNumber value → ⊥))
    ⊎ IsPastRange fault aggs values

-- the count, which is the first of a line's values, is less than 1
abbrev pub CountsNoRow : List Value → Type 0
CountsNoRow [] = ⊥
CountsNoRow (count ∷ kept) = value_number count ≤ℤ pos 0

-- a line counts no row, or one of its numbers passes 64 bits
abbrev pub LineRefuses : List Agg → Fault → Line → Type 0
LineRefuses aggs fault line = ((fault ≡ BadLayout) × CountsNoRow line.values)
    ⊎ IsPastRange fault (Count ∷ aggs) line.values

-- memory ran out, or one of the lines is such a line
abbrev pub FinishRefuses : List Agg → List Line → Fault → Type 0
FinishRefuses aggs lines fault = (fault ≡ Memory) ⊎ Any (LineRefuses aggs fault) lines

-- a line counts a row at least
abbrev pub CountsRows : List Value → Type 0
CountsRows [] = Unit {0}
CountsRows (count ∷ kept) = pos 1 ≤ℤ value_number count

-- each line of an answer does, and its numbers have 64 bits
abbrev pub CanBeFinished : Answer → Type 0
CanBeFinished partial = AllByRecursion (λ line. CountsRows line.values × AllByRecursion IsWholeNumber line.values)
    partial.lines
