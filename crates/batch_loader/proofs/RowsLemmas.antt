-- What a line comes to: a row, or its first fault.
use Rattle.std.proofs.Common.{◌≡◌, ◌≤◌, ◌⊎◌, ◌∙◌, sym, ap, inl, arith, ℕ, List, cond, false, length, Some, None, Result}
use Rattle.std.proofs.Common.{Ok, Err, IfOk, IfErr, MatchResult}
use Rattle.std.specs.Prelude.{nat_lt}
use Rattle.cube_model.specs.declared.fault.Fault.{Fault}
use Rattle.cube_model.specs.declared.fault.Fault.TheVariants.{FieldCount, FieldTooLong, Memory}
use Rattle.cube_model.specs.declared.fault.Place.TheVariants.{Line}
use Rattle.cube_model.specs.Limits.{longest_line}
use Rattle.batch_loader.specs.declared.columns.Column.{Column}
use Rattle.batch_loader.specs.Columns.{fields_fault, row_of, row_of_fields}
use Rattle.batch_loader.specs.Fields.{fields_of}
use Rattle.batch_loader.specs.Outcomes.{unless}

module _ {Row : Type 0} (columns : List Column) (row : List (List ℕ) → Row) (number : ℕ) (line : List ℕ)
    (short : length line ≤ longest_line) where
  row_by_fields : row_of columns row number line ≡ row_of_fields columns row number (fields_of (length columns) line)
  row_by_fields =
      let within : nat_lt longest_line (length line) ≡ false = grind arith in
      ap (λ longer. cond longer (Err (FieldTooLong (Line number) 0))
      (row_of_fields columns row number (fields_of (length columns) line))) within

  -- the line has not as many fields as there are columns
  pub no_fields : fields_of (length columns) line ≡ None → row_of columns row number line ≡ Err (FieldCount number)
  no_fields none = row_by_fields ∙ ap (row_of_fields columns row number) none

  module _ (fields : List (List ℕ)) (are : fields_of (length columns) line ≡ Some fields) where
    row_unless : row_of columns row number line ≡ unless (fields_fault number 1 columns fields) (Ok (row fields))
    row_unless = row_by_fields ∙ ap (row_of_fields columns row number) are

    -- a field does not fit its column
    pub no_row : (fault : Fault) → fields_fault number 1 columns fields ≡ Some fault
        → row_of columns row number line ≡ Err fault
    no_row fault refused = row_unless ∙ ap (λ cause. unless cause (Ok (row fields))) refused

    -- all fields fit
    pub is_row : fields_fault number 1 columns fields ≡ None → row_of columns row number line ≡ Ok (row fields)
    is_row fit = row_unless ∙ ap (λ cause. unless cause (Ok (row fields))) fit

    -- all fields fit, and the row is made of them, unless there is no memory
    pub row_or_memory : fields_fault number 1 columns fields ≡ None → (result : Result Row Fault)
        → IfOk result (λ made. made ≡ row fields) → IfErr result (λ fault. fault ≡ Memory)
        → MatchResult result (λ made. row_of columns row number line ≡ Ok made)
        (λ fault. (fault ≡ Memory) ⊎ (row_of columns row number line ≡ Err fault))
    row_or_memory fit (Ok made) is memory = is_row fit ∙ ap Ok (sym is)
    row_or_memory fit (Err fault) is memory = inl memory
