-- Lines and places are in total orders.
use Rattle.std.proofs.Common.{subst, Bool, true, false, List}
use Rattle.std.specs.declared.cmp.Ordering.{Ordering}
use Rattle.std.specs.Cmp.{IsTotalOrder, back_total, nat_cmp_total, on_total, then_total}
use Rattle.std.specs.FinMap.{IsAntisymmetric, nat_cmp-IsAntisymmetric}
use Rattle.cube_model.specs.declared.answer.Line.{Line}
use Rattle.cube_model.proofs.KeyOrder.{member_cmp_total}
use Rattle.cube_model.proofs.KeyOrder.{key_cmp_total}
use Rattle.cube_model.proofs.LawsLemmas.{last_ties}
use Rattle.group_tallies.specs.GroupLines.{line_at}
use Rattle.report_formats.specs.declared.arrangement.SortKey.{SortKey}
use Rattle.report_formats.specs.declared.arrangement.SortKey.TheVariants.{Column, Aggregate, Average}
use Rattle.report_formats.specs.declared.arrangement.Sorting.{Sorting}
use Rattle.report_formats.specs.Arranging.{place_cmp}
use Rattle.report_formats.specs.Sorting.{aggregate_at, average_at, directed, line_member, sort_key_cmp, sorting_cmp}
use Rattle.report_formats.proofs.SizeOrder.{fraction_cmp_total}

sort_key_cmp_total : (key : SortKey) → IsTotalOrder (sort_key_cmp key)
sort_key_cmp_total (Column column) = on_total (λ line. line_member line column) member_cmp_total
sort_key_cmp_total (Aggregate aggregate) = on_total (λ line. aggregate_at line aggregate) fraction_cmp_total
sort_key_cmp_total (Average sum count) = on_total (λ line. average_at line sum count) fraction_cmp_total

directed_total : {X : Type 0} (R : X → X → Ordering) → IsTotalOrder R → (descending : Bool)
    → IsTotalOrder (λ x y. directed descending (R x y))
directed_total R o false = o
directed_total R o true = subst IsTotalOrder (λ i x y. o.antisymm y x i) (back_total o)

pub sorting_cmp_total : (sorting : Sorting) → IsTotalOrder (sorting_cmp sorting)
sorting_cmp_total sorting =
    then_total (directed_total (sort_key_cmp sorting.key) (sort_key_cmp_total sorting.key) sorting.descending)
    (on_total (λ (line : Line). line.key) key_cmp_total)

pub place_cmp_total : (sorting : Sorting) (lines : List Line) → IsTotalOrder (place_cmp sorting lines)
place_cmp_total sorting lines = then_total (on_total (line_at lines) (sorting_cmp_total sorting)) nat_cmp_total

pub place_cmp-IsAntisymmetric : (sorting : Sorting) (lines : List Line) → IsAntisymmetric (place_cmp sorting lines)
place_cmp-IsAntisymmetric sorting lines left right e =
    nat_cmp-IsAntisymmetric left right (last_ties (sorting_cmp sorting (line_at lines left) (line_at lines right)) _ e)
