-- The check of the rows that were read.
use Rattle.std.proofs.Common.{◌≡◌, ◌⊎◌, inl, inr, Some, Result, Ok, Err, IfOk, IfErr, OnOk, sym, ap, ◌∙◌}
use Rattle.batch_loader.specs.Outcomes.{unless}
use Rattle.cube_model.specs.declared.fault.Fault.{Fault}
use Rattle.cube_model.specs.declared.fault.Fault.TheVariants.{Memory}
use Rattle.cube_model.specs.declared.rows.DimRows.{DimRows}
use Rattle.cube_model.specs.Validity.{invalid_cause, IsValid}
use Rattle.dimension_tables.specs.Texts.{GivesUnlessFailed, valid_rows}

-- the check of the rows of the dimensions
pub gives-valid : (rows : DimRows) (result : Result DimRows Fault) → IfOk result (λ found. found ≡ rows)
    → OnOk result (IsValid rows) → IfErr result (λ fault. (fault ≡ Memory) ⊎ (invalid_cause rows ≡ Some fault))
    → GivesUnlessFailed (valid_rows rows) result
gives-valid rows (Ok found) is valid refused = ap (λ cause. unless cause (Ok rows)) valid ∙ ap Ok (sym is)
gives-valid rows (Err fault) is valid (inl memory) = inl memory
gives-valid rows (Err fault) is valid (inr cause) = inr (inr (ap (λ one. unless one (Ok rows)) cause))
