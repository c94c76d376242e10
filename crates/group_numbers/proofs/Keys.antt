-- The keys of the rows of a dimension.
use Rattle.std.proofs.Common.{◌≡◌, ◌≢◌, ◌∙◌, sym, ap, refl, subst, ℕ, suc, ◌==◌, ◌<◌, List, [], ◌∷◌, map, length}
use Rattle.std.proofs.Common.{get_or}
use Rattle.std.specs.List.{position_or_len}
use Rattle.cube_model.specs.declared.attr.Axis.{Axis}
use Rattle.cube_model.specs.declared.rows.DimRows.{DimRows}
use Rattle.cube_model.specs.Places.{row_count_of, row_index_of}
use Rattle.dimensions.specs.Coded.{KeysAreDistinct, AreGoodRows}
use Rattle.dimensions.specs.Shown.{rows_on}
use Rattle.dimensions.specs.TextRows.{TextRow}
use Rattle.dimensions.proofs.AttributeLaws.{count_on, index_on}
use Rattle.dimensions.proofs.CodedRules.{pairs_map}
use Rattle.dimensions.proofs.KeyLaws.{distinct_place}

length_keys : (rows : List TextRow) → length (map (λ (row : TextRow). row.key) rows) ≡ length rows
length_keys [] = refl
length_keys (row ∷ rows) = ap suc (length_keys rows)

module _ (dimensions : DimRows) (axis : Axis) (all : List ℕ)
    (is : all ≡ map (λ (row : TextRow). row.key) (rows_on dimensions axis)) where
  pub row_total : length all ≡ row_count_of dimensions axis
  row_total = ap length is ∙ length_keys (rows_on dimensions axis) ∙ count_on dimensions axis

  pub index_is : (key : ℕ) → position_or_len (λ other. other == key) all ≡ row_index_of dimensions axis key
  index_is key = ap (position_or_len (λ other. other == key)) is ∙ index_on dimensions axis key

  -- the key at a row is that of the row
  pub own_row : AreGoodRows axis (rows_on dimensions axis) → (place : ℕ) → place < length all
      → row_index_of dimensions axis (get_or all place 0) ≡ place
  own_row good place within =
      let distinct : KeysAreDistinct all =
      subst KeysAreDistinct (sym is)
      (pairs_map (λ key other. key ≢ other) (λ (row : TextRow). row.key) (rows_on dimensions axis)
      good.keep.keys_differ) in
      sym (index_is (get_or all place 0)) ∙ distinct_place all place distinct within
