-- A query that does not look at ship modes has the answer of a query of the dimensions alone.
use Rattle.std.proofs.Common.{◌≡◌, ◌∙◌, sym, ap, refl, Bool, true, false, List, map, ◌&&◌, None}
use Rattle.cube_model.specs.declared.rows.DimRows.{DimRows}
use Rattle.cube_model.specs.declared.rows.LineOrder.{LineOrder}
use Rattle.cube_model.specs.Answers.{answer, keys_among, line_of}
use Rattle.cube_model.specs.Orders.{in_order}
use Rattle.cube_model.specs.Selection.{is_selected}
use Rattle.mode_queries.specs.Answers.{moded_answer}
use Rattle.mode_queries.specs.Joining.{passing}
use Rattle.mode_queries.specs.Lawful.{AnswersWithoutShipModes}
use Rattle.mode_queries.specs.Selection.{passes_modes}
use Rattle.mode_queries.specs.declared.query.ModeQuery.{ModeQuery}
use Rattle.mode_queries.proofs.Tests.{filter_filter, filter_same}

and_true : (b : Bool) → (b && true) ≡ b
and_true true = refl
and_true false = refl

pub answers_without_ship_modes : AnswersWithoutShipModes
answers_without_ship_modes query dimensions rows =
    ap (λ of_all. record {
      lines = in_order query.order (map (line_of dimensions query of_all) (keys_among dimensions query of_all));
    })
    (filter_same (λ row. is_selected dimensions query.conditions row && true) (is_selected dimensions query.conditions)
    (λ row. and_true (is_selected dimensions query.conditions row)) rows)

-- without a column of ship modes the answer is that over the rows that pass
pub answers_without_column : (asked : ModeQuery) (dimensions : DimRows) (rows : List LineOrder) → asked.place ≡ None
    → moded_answer asked dimensions rows ≡ answer asked.query dimensions (passing asked.conditions rows)
answers_without_column asked dimensions rows none =
    ap (λ place. moded_answer (record { query = asked.query; place = place; conditions = asked.conditions }) dimensions
    rows) none
    ∙ ap (λ of_all. record {
      lines = in_order asked.query.order
          (map (line_of dimensions asked.query of_all) (keys_among dimensions asked.query of_all));
    })
    (filter_same
    (λ row. is_selected dimensions asked.query.conditions row && passes_modes asked.conditions row.shipmode)
    (λ row. passes_modes asked.conditions row.shipmode && is_selected dimensions asked.query.conditions row)
    (λ row. turned (is_selected dimensions asked.query.conditions row) (passes_modes asked.conditions row.shipmode))
    rows
    ∙ sym (filter_filter (is_selected dimensions asked.query.conditions)
    (λ row. passes_modes asked.conditions row.shipmode) rows))
  where
    turned : (a b : Bool) → (a && b) ≡ (b && a)
    turned true true = refl
    turned true false = refl
    turned false true = refl
    turned false false = refl
