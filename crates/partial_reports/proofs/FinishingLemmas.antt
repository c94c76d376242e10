-- The line for which merged lines are not finished.
use Rattle.std.proofs.Common.{◌≡◌, ◌∙◌, sym, ap, subst, ℕ, ◌<◌, List, length, get_or, ◌⊎◌, inl, inr}
use Rattle.std.proofs.Math.ListN.{get_or-map}
use Rattle.std.proofs.lemmas.List.{length-map}
use Rattle.cube_model.specs.declared.fault.Fault.{Fault}
use Rattle.cube_model.specs.declared.fault.Fault.TheVariants.{Memory}
use Rattle.cube_model.specs.declared.measure.Agg.{Agg}
use Rattle.partial_reports.specs.declared.wide.WideLine.{WideLine}
use Rattle.partial_reports.specs.Finishing.{FinishRefuses, LineRefuses}
use Rattle.partial_reports.specs.Wide.{narrow_line, narrow_lines}

-- it is one of the lines
pub refused_at : (aggs : List Agg) (lines : List WideLine) (place : ℕ) (line : WideLine) (fault : Fault)
    → place < length lines → line ≡ get_or lines place line
    → (fault ≡ Memory) ⊎ LineRefuses aggs fault (narrow_line line) → FinishRefuses aggs (narrow_lines lines) fault
refused_at aggs lines place line fault within is (inl memory) = inl memory
refused_at aggs lines place line fault within is (inr refuses) = inr (
  place,
  narrow_line line,
  subst (λ n. place < n) (sym (length-map lines narrow_line)) within,
  get_or-map narrow_line lines place line ∙ ap narrow_line (sym is),
  refuses,
)
