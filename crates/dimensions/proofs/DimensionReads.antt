-- What is read of a dimension.
use Rattle.std.proofs.Common.{◌≡◌, ◌<◌, ◌∙◌, sym, ap, subst, arith, ℕ, List, [], length, get_or, Option, Some, None}
use Rattle.std.specs.Option.{option_map}
use Rattle.std.proofs.lemmas.List.{length-map}
use Rattle.cube_model.specs.declared.attr.Axis.{Axis}
use Rattle.cube_model.specs.Validity.{members_of}
use Rattle.dictionary.specs.Dictionary.{firsts}
use Rattle.dimensions.specs.declared.dimension.Dimension.{Dimension}
use Rattle.dimensions.specs.TextRows.{TextRow, text_in, column_of}
use Rattle.dimensions.specs.Shapes.{lowers_of, lower_of}
use Rattle.dimensions.specs.Columns.{IsColumn, code_at, code_place}
use Rattle.dimensions.specs.Dimensions.{column_at, lower_texts, IsDimension, StoresRows}
use Rattle.dimensions.specs.Ranked.{IsRankAt}
use Rattle.dimensions.proofs.ColumnLaws.{code_at-within, code_at-text}
use Rattle.dimensions.proofs.MemberLaws.{members_of-firsts}

module _ (axis : Axis) (rows : List TextRow) (dimension : Dimension) (is : StoresRows axis rows dimension) (column : ℕ)
    (lt : column < length dimension.columns.items) (row : ℕ) (within : row < length dimension.keys) where
  pub column_lt : column < length (lowers_of axis)
  column_lt = omega (arith, lt, is.count)

  pub row_lt : row < length rows
  row_lt = omega (arith, within, ap length is.keys, length-map rows (λ r. r.key))

  pub in_column : row < length (column_of column rows)
  in_column = omega (arith, row_lt, length-map rows (text_in column))

  -- the code at the place of a row
  pub code_within : get_or (column_at dimension column).codes (code_place (lower_texts axis column rows) row) 0
      ≡ code_at (column_of column rows) row
  code_within = (is.columns column column_lt).reads row in_column

  pub place_within : code_place (lower_texts axis column rows) row < length (column_at dimension column).codes
  place_within =
      let step : (o : Option ℕ)
      → IsColumn (column_of column rows) (option_map (λ j. column_of j rows) o) (column_at dimension column)
      → code_place (option_map (λ j. column_of j rows) o) row < length (column_at dimension column).codes =
      λ o. elim o as
      (λ p. IsColumn (column_of column rows) (option_map (λ j. column_of j rows) p) (column_at dimension column)
      → code_place (option_map (λ j. column_of j rows) p) row < length (column_at dimension column).codes) [
        | None ↦ λ col. let r = in_column in omega (arith, r, col.count)
        | Some j ↦ λ col.
            let inside = code_at-within (column_of j rows) row (omega (arith, row_lt, length-map rows (text_in j))) in
            omega (arith, inside, col.count)
      ] in
      step (lower_of axis column) (is.columns column column_lt)

module _ (axis : Axis) (rows : List TextRow) (dimension : Dimension) (is : IsDimension axis rows dimension) (column : ℕ)
    (lt : column < length dimension.columns.items) where
  pub ranks_are : (column_at dimension column).ranks ≡ firsts (column_of column rows)
  ranks_are = is.ranks column lt ∙ (is.stores.columns column (omega (arith, lt, is.stores.count))).texts_are

  pub members_are : members_of (column_at dimension column).ranks ≡ members_of (column_of column rows)
  members_are = ap members_of ranks_are ∙ members_of-firsts (column_of column rows)

  module _ (row : ℕ) (within : row < length dimension.keys) (code : ℕ)
      (is_code : code ≡ code_at (column_of column rows) row) (ranks : List (List ℕ))
      (is_ranks : ranks ≡ (column_at dimension column).ranks) where
    at : row < length (column_of column rows)
    at = in_column axis rows dimension is.stores column lt row within

    pub rank_within : code < length ranks
    rank_within = let inside = code_at-within (column_of column rows) row at in
        omega (arith, inside, is_code, ap length (is_ranks ∙ ranks_are))

    pub rank_is : (rank : ℕ) → rank < length (members_of ranks)
        → get_or (members_of ranks) rank [] ≡ get_or ranks code [] → IsRankAt (column_of column rows) row rank
    rank_is rank below text =
        let same : members_of ranks ≡ members_of (column_of column rows) = ap members_of is_ranks ∙ members_are in (
          subst (λ m. rank < length m) same below,
          ap (λ m. get_or m rank []) (sym same) ∙ text ∙ ap (λ l. get_or l code []) (is_ranks ∙ ranks_are)
              ∙ ap (λ n. get_or (firsts (column_of column rows)) n []) is_code
              ∙ code_at-text (column_of column rows) row at,
        )
