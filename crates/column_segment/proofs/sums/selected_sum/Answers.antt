use Rattle.std.proofs.Common.{◌≡◌, ℤ, List, map, sym, ap, ◌∙◌}
use Rattle.std.specs.Int.{w128}
use Rattle.std.proofs.lemmas.Int.{to_z-of_z}
use Rattle.cube_model.specs.Aggregates.{total}
use Rattle.cube_model.specs.Measures.{measure_of}
use Rattle.cube_model.specs.declared.measure.Measure.{Measure}
use Rattle.cube_model.specs.declared.measure.Measure.TheVariants.{Quantity, ExtendedPrice, Revenue, SupplyCost}
use Rattle.cube_model.specs.declared.measure.Measure.TheVariants.{Discounted, Profit}
use Rattle.cube_model.specs.declared.rows.LineOrder.{LineOrder}
use Rattle.column_kernels.specs.Masks.{selected_by}
use Rattle.column_segment.specs.Decoded.{decoded_rows}
use Rattle.column_segment.proofs.sums.selected_sum.Goals as goal

-- the sum of the measure that is asked for
sum_of : (measure asked : Measure) (sum : ℤ) (rows : List LineOrder) → sum ≡ total (map (measure_of measure) rows)
    → asked ≡ measure → sum ≡ total (map (measure_of asked) rows)
sum_of measure asked sum rows is same = is ∙ ap (λ (one : Measure). total (map (measure_of one) rows)) (sym same)

pub returns-in-Quantity : goal.returns-in-Quantity
returns-in-Quantity c =
    to_z-of_z w128 c.sum_of_bytes.result (record { sfits = c.sum_of_bytes.type_inv })
    ∙ sum_of Quantity c.args.measure c.sum_of_bytes.result
    (selected_by c.args.mask.now (decoded_rows c.args.bytes.now c.args.layout.now)) c.sum_of_bytes.ensures
    c.in-Quantity.is

pub returns-in-ExtendedPrice : goal.returns-in-ExtendedPrice
returns-in-ExtendedPrice c =
    to_z-of_z w128 c.sum_of_amounts.result (record { sfits = c.sum_of_amounts.type_inv })
    ∙ sum_of ExtendedPrice c.args.measure c.sum_of_amounts.result
    (selected_by c.args.mask.now (decoded_rows c.args.bytes.now c.args.layout.now)) c.sum_of_amounts.ensures
    c.in-ExtendedPrice.is

pub returns-in-Revenue : goal.returns-in-Revenue
returns-in-Revenue c =
    to_z-of_z w128 c.sum_of_amounts-in-Revenue.result (record { sfits = c.sum_of_amounts-in-Revenue.type_inv })
    ∙ sum_of Revenue c.args.measure c.sum_of_amounts-in-Revenue.result
    (selected_by c.args.mask.now (decoded_rows c.args.bytes.now c.args.layout.now)) c.sum_of_amounts-in-Revenue.ensures
    c.in-Revenue.is

pub returns-in-SupplyCost : goal.returns-in-SupplyCost
returns-in-SupplyCost c =
    to_z-of_z w128 c.sum_of_amounts-in-SupplyCost.result (record { sfits = c.sum_of_amounts-in-SupplyCost.type_inv })
    ∙ sum_of SupplyCost c.args.measure c.sum_of_amounts-in-SupplyCost.result
    (selected_by c.args.mask.now (decoded_rows c.args.bytes.now c.args.layout.now))
    c.sum_of_amounts-in-SupplyCost.ensures
    c.in-SupplyCost.is

pub returns-in-Discounted : goal.returns-in-Discounted
returns-in-Discounted c =
    to_z-of_z w128 c.sum_of_discounted.result (record { sfits = c.sum_of_discounted.type_inv })
    ∙ sum_of Discounted c.args.measure c.sum_of_discounted.result
    (selected_by c.args.mask.now (decoded_rows c.args.bytes.now c.args.layout.now)) c.sum_of_discounted.ensures
    c.in-Discounted.is

pub returns-in-Profit : goal.returns-in-Profit
returns-in-Profit c =
    to_z-of_z w128 c.sum_of_profit.result (record { sfits = c.sum_of_profit.type_inv })
    ∙ sum_of Profit c.args.measure c.sum_of_profit.result
    (selected_by c.args.mask.now (decoded_rows c.args.bytes.now c.args.layout.now)) c.sum_of_profit.ensures
    c.in-Profit.is
