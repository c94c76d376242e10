-- Lines whose keys stay are in the order of their keys as before.
use Rattle.std.proofs.Common.{◌≡◌, ◌∙◌, sym, refl, subst, None, List, [], ◌∷◌, map}
use Rattle.std.specs.List.{AllByRecursion}
use Rattle.std.specs.declared.cmp.Ordering.TheVariants.{Less}
use Rattle.cube_model.specs.declared.answer.Line.{Line}
use Rattle.cube_model.specs.declared.measure.Agg.{Agg}
use Rattle.cube_model.specs.Ascending.{IsAscending}
use Rattle.cube_model.specs.Keys.{key_cmp}
use Rattle.cube_model.specs.Orders.{answer_cmp}
use Rattle.partial_reports.specs.declared.wide.WideLine.{WideLine}
use Rattle.partial_reports.specs.Parts.{finished_line}
use Rattle.partial_reports.specs.Wide.{Rise, narrow_lines}
use Rattle.report_merge.specs.Finishing.{recounted_line}

module _ (f : Line → Line) (own : (line : Line) → (f line).key ≡ line.key) where
  below : (line : Line) (others : List Line) → AllByRecursion (λ other. answer_cmp None line other ≡ Less) others
      → AllByRecursion (λ other. answer_cmp None (f line) other ≡ Less) (map f others)
  below line [] all = tt
  below line (other ∷ others) all = ((λ i. key_cmp (own line i) (own other i)) ∙ all.0, below line others all.1)

  map_rise : (lines : List Line) → IsAscending (answer_cmp None) lines → IsAscending (answer_cmp None) (map f lines)
  map_rise [] rise = tt
  map_rise (line ∷ lines) rise = (below line lines rise.0, map_rise lines rise.1)

pub finished_rise : (aggs : List Agg) (wide : List WideLine) (lines : List Line)
    → lines ≡ map (finished_line aggs) (narrow_lines wide) → Rise wide
    → IsAscending (answer_cmp None) lines
finished_rise aggs wide lines are rise =
    subst (IsAscending (answer_cmp None)) (sym are)
    (map_rise (finished_line aggs) (λ line. refl) (narrow_lines wide) rise)

pub recounted_rise : (wide found : List WideLine) → narrow_lines found ≡ map recounted_line (narrow_lines wide)
    → Rise wide
    → Rise found
recounted_rise wide found are rise =
    subst (IsAscending (answer_cmp None)) (sym are) (map_rise recounted_line (λ line. refl) (narrow_lines wide) rise)
