-- Cells after rows were added.
use Rattle.std.proofs.Common.{◌≡◌, ◌∙◌, sym, ap, refl, subst, ℕ, ◌<◌, ◌==◌, cond, List, [], ◌∷◌, length, get_or, Option}
use Rattle.std.proofs.Common.{Some, None, All}
use Rattle.std.proofs.lemmas.List.Elements.{All-filter, All-head, All-tail}
use Rattle.cube_model.specs.declared.attr.Attr.{Attr}
use Rattle.cube_model.specs.declared.attr.Attr.TheVariants.{CustomerCity, CustomerNation, CustomerRegion, SupplierCity}
use Rattle.cube_model.specs.declared.attr.Attr.TheVariants.{SupplierNation, SupplierRegion, PartBrand1, PartCategory}
use Rattle.cube_model.specs.declared.attr.Attr.TheVariants.{PartMfgr, DateKey, DateYearmonthnum, DateYear}
use Rattle.cube_model.specs.declared.attr.Axis.{Axis}
use Rattle.cube_model.specs.declared.attr.Axis.TheVariants.{Customer, Supplier, Part, Date}
use Rattle.cube_model.specs.declared.rows.DimRows.{DimRows}
use Rattle.cube_model.specs.declared.rows.LineOrder.{LineOrder}
use Rattle.cube_model.specs.Attributes.{axis_of, key_on}
use Rattle.cube_model.specs.Places.{row_count_of, row_index_of}
use Rattle.dimensions.specs.Shapes.{attr_column}
use Rattle.group_numbers.specs.Numbers.{IsKnownOn}
use Rattle.lattice.specs.declared.level.Level.{Level}
use Rattle.lattice.specs.declared.level.Level.TheVariants as level
use Rattle.lattice.specs.declared.view.View.{View}
use Rattle.cuboid_cells.specs.Cells.{key_as_number}
use Rattle.cuboid_upkeep.specs.Codes.{code_in, member_code_of, mode_code}
use Rattle.cuboid_upkeep.specs.Grouping.{HasMembers, cell_over, code_on, key_of, rows_of_number, summaries_over}
use Rattle.dimensions.specs.Added.{joined}
use Rattle.stored_rows.specs.Lawful.{CellsStay}
use Rattle.stored_rows.proofs.Codes.{code_of_kept, index_kept, known_kept}

module _ (rows more : DimRows) where
  in_kept : (column : Option ℕ) (attr : Attr) (place : ℕ) → place < row_count_of rows (axis_of attr)
      → code_in column (joined rows more) attr place ≡ code_in column rows attr place
  in_kept None attr place within = refl
  in_kept (Some column) attr place within = code_of_kept rows more attr place within

  of_kept : (attr : Attr) (axis : Axis) (row : LineOrder) → axis_of attr ≡ axis → IsKnownOn rows row axis
      → member_code_of (Some attr) (joined rows more) (row_index_of (joined rows more) axis (key_on axis row))
      ≡ member_code_of (Some attr) rows (row_index_of rows axis (key_on axis row))
  of_kept attr axis row is within =
      let place = row_index_of rows axis (key_on axis row) in
      ap (member_code_of (Some attr) (joined rows more)) (index_kept rows more axis (key_on axis row) within)
      ∙ in_kept (attr_column attr) attr place (subst (λ (one : Axis). place < row_count_of rows one) (sym is) within)

  -- the code of a fact row's member at a level that is grouped, or that of ALL
  level_kept : (axis : Axis) (at : Level) (row : LineOrder) → ((at ≡ level.All → ⊥) → IsKnownOn rows row axis)
      → code_on (joined rows more) axis at row ≡ code_on rows axis at row
  level_kept axis level.All row known = refl
  level_kept Customer level.Lowest row known = of_kept CustomerCity Customer row refl (known (λ e. cc))
  level_kept Customer level.Middle row known = of_kept CustomerNation Customer row refl (known (λ e. cc))
  level_kept Customer level.Highest row known = of_kept CustomerRegion Customer row refl (known (λ e. cc))
  level_kept Supplier level.Lowest row known = of_kept SupplierCity Supplier row refl (known (λ e. cc))
  level_kept Supplier level.Middle row known = of_kept SupplierNation Supplier row refl (known (λ e. cc))
  level_kept Supplier level.Highest row known = of_kept SupplierRegion Supplier row refl (known (λ e. cc))
  level_kept Part level.Lowest row known = of_kept PartBrand1 Part row refl (known (λ e. cc))
  level_kept Part level.Middle row known = of_kept PartCategory Part row refl (known (λ e. cc))
  level_kept Part level.Highest row known = of_kept PartMfgr Part row refl (known (λ e. cc))
  level_kept Date level.Lowest row known = of_kept DateKey Date row refl (known (λ e. cc))
  level_kept Date level.Middle row known = of_kept DateYearmonthnum Date row refl (known (λ e. cc))
  level_kept Date level.Highest row known = of_kept DateYear Date row refl (known (λ e. cc))

module _ (rows more : DimRows) (modes : List (List ℕ)) (view : View) where
  members_kept : (row : LineOrder) → HasMembers rows modes view row → HasMembers (joined rows more) modes view row
  members_kept row has =
      record { axes = λ axis grouped. known_kept rows more row axis (has.axes axis grouped); ship_mode = has.ship_mode }

  key_kept : (row : LineOrder) → HasMembers rows modes view row
      → key_of (joined rows more) modes view row ≡ key_of rows modes view row
  key_kept row has =
      let customer = level_kept rows more Customer view.customer row (has.axes Customer) in
      let supplier = level_kept rows more Supplier view.supplier row (has.axes Supplier) in
      let part = level_kept rows more Part view.part row (has.axes Part) in
      let date = level_kept rows more Date view.date row (has.axes Date) in
      λ i. record {
        customer = customer i;
        supplier = supplier i;
        part = part i;
        date = date i;
        ship_mode = mode_code view.ship_mode modes row.shipmode;
      }

  of_number_kept : (number : ℕ) (facts : List LineOrder) → All (HasMembers rows modes view) facts
      → rows_of_number (joined rows more) modes view number facts ≡ rows_of_number rows modes view number facts
  of_number_kept number [] all = refl
  of_number_kept number (row ∷ facts) all =
      let key = key_kept row (All-head (HasMembers rows modes view) row facts all) in
      let rest = of_number_kept number facts (All-tail (HasMembers rows modes view) row facts all) in
      λ i. cond (key_as_number (key i) == number) (row ∷ rest i) (rest i)

  cell_kept : (facts : List LineOrder) → All (HasMembers rows modes view) facts
      → cell_over (joined rows more) modes view facts ≡ cell_over rows modes view facts
  cell_kept [] all = refl
  cell_kept (row ∷ facts) all =
      let key = key_kept row (All-head (HasMembers rows modes view) row facts all) in
      λ i. Some (record { key = key i; count = length (row ∷ facts); measures = summaries_over (row ∷ facts) })

pub cells_kept : CellsStay
cells_kept rows more modes facts plain represent =
    let view = plain.view in
    record {
      known = λ place default within. members_kept rows more modes view (get_or facts place default)
          (represent.known place default within);
      ascending = represent.ascending;
      group = λ number.
          represent.group number
          ∙ sym (ap (cell_over (joined rows more) modes view)
          (of_number_kept rows more modes view number facts represent.known)
          ∙ cell_kept rows more modes view (rows_of_number rows modes view number facts)
          (All-filter (λ row. key_as_number (key_of rows modes view row) == number) (HasMembers rows modes view) facts
          represent.known));
    }
