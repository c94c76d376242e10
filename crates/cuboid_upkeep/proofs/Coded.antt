-- Codes that are read from the columns of a dimension.
use Rattle.std.proofs.Common.{◌≡◌, ◌∙◌, sym, ap, refl, subst, ℕ, ◌<◌, ◌≤◌, List, [], map, length, get_or, Option, Some}
use Rattle.std.proofs.Common.{None, arith}
use Rattle.std.proofs.lemmas.List.{get_or-map, length-map}
use Rattle.cube_model.specs.declared.attr.Attr.{Attr}
use Rattle.cube_model.specs.declared.attr.Attr.TheVariants.{CustomerCity, CustomerNation, CustomerRegion, SupplierCity}
use Rattle.cube_model.specs.declared.attr.Attr.TheVariants.{SupplierNation, SupplierRegion, PartBrand1, PartCategory}
use Rattle.cube_model.specs.declared.attr.Attr.TheVariants.{PartMfgr, DateYearmonthnum, DateYear}
use Rattle.cube_model.specs.declared.attr.Axis.{Axis}
use Rattle.cube_model.specs.declared.attr.Axis.TheVariants.{Customer, Supplier, Part, Date}
use Rattle.cube_model.specs.declared.rows.DimRows.{DimRows}
use Rattle.cube_model.specs.Attributes.{axis_of}
use Rattle.dictionary.specs.Dictionary.{firsts}
use Rattle.dictionary.specs.Columns.{codes_of, place_of}
use Rattle.dimensions.specs.Coded.{AreGoodRows, place_texts, text_next_to, texts_at_places, texts_below}
use Rattle.dimensions.specs.Columns.{code_at}
use Rattle.dimensions.specs.Shapes.{attr_column, lower_of, lowers_of, row_limit_of}
use Rattle.dimensions.specs.Shown.{rows_on}
use Rattle.dimensions.specs.TextRows.{TextRow, column_of, text_in}
use Rattle.dimensions.proofs.AttributeLaws.{has_column}
use Rattle.dimensions.proofs.CallerLemmas.{good_texts}
use Rattle.dimensions.proofs.CodedRules.{determined, firsts_placed}
use Rattle.dimensions.proofs.CodedTexts.{IsDetermined, firsts_at_places}
use Rattle.dimensions.proofs.ColumnLaws.{code_at-text, code_at-within}
use Rattle.lattice.specs.declared.level.Level.{Level}
use Rattle.lattice.specs.declared.level.Level.TheVariants.{Lowest, Middle, Highest, All}
use Rattle.lattice.specs.Levels.{level_attribute}
use Rattle.cuboid_cells.specs.Cells.{IsCodeAt}
use Rattle.cuboid_upkeep.specs.Codes.{code_in, level_column, member_code}

-- the code above that of the lower text
above : (lowers texts : List (List ℕ)) (place : ℕ) → place < length lowers → length texts ≡ length lowers
    → IsDetermined lowers texts
    → get_or (codes_of (place_texts (Some lowers) texts)) (code_at lowers place) 0 ≡ code_at texts place
above lowers texts place within count is =
    let placed : List (List ℕ) = map (text_next_to lowers texts) (firsts lowers) in
    let low : code_at lowers place < length (firsts lowers) = code_at-within lowers place within in
    let low_placed : code_at lowers place < length placed =
    omega (arith, low, length-map (firsts lowers) (text_next_to lowers texts)) in
    get_or-map (place_of (firsts placed)) placed (code_at lowers place) [] 0 low_placed
    ∙ ap (place_of (firsts placed))
    (get_or-map (text_next_to lowers texts) (firsts lowers) (code_at lowers place) [] [] low
    ∙ ap (text_next_to lowers texts) (code_at-text lowers place within)
    ∙ sym (get_or-map (text_next_to lowers texts) lowers place [] [] within)
    ∙ ap (λ (l : List (List ℕ)). get_or l place []) (sym is))
    ∙ ap (λ (l : List (List ℕ)). place_of l (get_or texts place [])) (firsts_at_places lowers texts is)

module _ (axis : Axis) (rows : List TextRow) (good : AreGoodRows axis rows) (column place : ℕ)
    (within : place < length rows) where
  pub in_texts : (i : ℕ) → place < length (column_of i rows)
  in_texts i = omega (arith, within, length-map rows (text_in i))

  pub read_at_row : lower_of axis column ≡ None
      → (place < length (codes_of (texts_at_places axis column rows)))
      × (get_or (codes_of (texts_at_places axis column rows)) place 0 ≡ code_at (column_of column rows) place)
  read_at_row none =
      let texts : List (List ℕ) = column_of column rows in
      subst (λ (o : Option ℕ). (place < length (codes_of (place_texts (texts_below o rows) texts)))
      × (get_or (codes_of (place_texts (texts_below o rows) texts)) place 0 ≡ code_at texts place))
      (sym none) (
        omega (arith, in_texts column, length-map texts (place_of (firsts texts))),
        get_or-map (place_of (firsts texts)) texts place [] 0 (in_texts column),
      )

  pub read_above : (lower : ℕ) → lower_of axis column ≡ Some lower
      → (code_at (column_of lower rows) place < length (codes_of (texts_at_places axis column rows)))
      × (get_or (codes_of (texts_at_places axis column rows)) (code_at (column_of lower rows) place) 0
      ≡ code_at (column_of column rows) place)
  read_above lower is =
      let texts : List (List ℕ) = column_of column rows in
      let lowers : List (List ℕ) = column_of lower rows in
      let placed : List (List ℕ) = map (text_next_to lowers texts) (firsts lowers) in
      let low : code_at lowers place < length (firsts lowers) = code_at-within lowers place (in_texts lower) in
      subst (λ (o : Option ℕ). (code_at lowers place < length (codes_of (place_texts (texts_below o rows) texts)))
      × (get_or (codes_of (place_texts (texts_below o rows) texts)) (code_at lowers place) 0 ≡ code_at texts place))
      (sym is) (
        omega (
          arith,
          low,
          length-map (firsts lowers) (text_next_to lowers texts),
          length-map placed (place_of (firsts placed)),
        ),
        above lowers texts place (in_texts lower)
            (length-map rows (text_in column) ∙ sym (length-map rows (text_in lower)))
            (determined axis rows good.keep column lower is),
      )

  -- a code is below the one of ALL
  pub code_below : column < length (lowers_of axis) → code_at (column_of column rows) place < 65535
  code_below lt =
      let inside = code_at-within (column_of column rows) place (in_texts column) in
      let most = (good_texts axis rows good column lt).most in
      omega (arith, inside, most, ap length (firsts_placed axis rows good.keep column))

-- a code of a member is not that of ALL
pub not_all : (level : Level) (code : ℕ) → (level ≡ All → ⊥) → code < 65535 → IsCodeAt level code
not_all level code apart below = (λ same. absurd (omega (arith, same, below)), λ is. absurd (apart is))

-- ---- the column of a level

-- the members of a level are in its column
abbrev pub Representative : DimRows → Axis → Level → ℕ → ℕ → Type 0
Representative dimensions axis level place column = (column < length (lowers_of axis))
    × (code_at (column_of column (rows_on dimensions axis)) place ≡ member_code dimensions axis level place)

module _ (dimensions : DimRows) (place column : ℕ) where
  in_column : (attr : Attr) → attr_column attr ≡ Some column
      → (column < length (lowers_of (axis_of attr)))
      × (code_at (column_of column (rows_on dimensions (axis_of attr))) place
      ≡ code_in (attr_column attr) dimensions attr place)
  in_column attr e =
      let has = has_column dimensions attr column e in (
        has.1,
        ap (λ (texts : List (List ℕ)). code_at texts place) (sym has.0)
            ∙ ap (λ (o : Option ℕ). code_in o dimensions attr place) (sym e),
      )

  pub in_level_column : (axis : Axis) (level : Level) → level_column (level_attribute axis level) ≡ Some column
      → Representative dimensions axis level place column
  in_level_column Customer Lowest e = in_column CustomerCity e
  in_level_column Customer Middle e = in_column CustomerNation e
  in_level_column Customer Highest e = in_column CustomerRegion e
  in_level_column Customer All e = absurd cc
  in_level_column Supplier Lowest e = in_column SupplierCity e
  in_level_column Supplier Middle e = in_column SupplierNation e
  in_level_column Supplier Highest e = in_column SupplierRegion e
  in_level_column Supplier All e = absurd cc
  in_level_column Part Lowest e = in_column PartBrand1 e
  in_level_column Part Middle e = in_column PartCategory e
  in_level_column Part Highest e = in_column PartMfgr e
  in_level_column Part All e = absurd cc
  in_level_column Date Lowest e = absurd cc
  in_level_column Date Middle e = in_column DateYearmonthnum e
  in_level_column Date Highest e = in_column DateYear e
  in_level_column Date All e = absurd cc

-- only days have members that are in no column: a day is its row
pub in_no_column : (dimensions : DimRows) (place : ℕ) (axis : Axis) (level : Level)
    → level_column (level_attribute axis level) ≡ None → (level ≡ All → ⊥)
    → (axis ≡ Date) × (place ≡ member_code dimensions axis level place)
in_no_column dimensions place Customer Lowest e apart = absurd cc
in_no_column dimensions place Customer Middle e apart = absurd cc
in_no_column dimensions place Customer Highest e apart = absurd cc
in_no_column dimensions place Customer All e apart = absurd (apart refl)
in_no_column dimensions place Supplier Lowest e apart = absurd cc
in_no_column dimensions place Supplier Middle e apart = absurd cc
in_no_column dimensions place Supplier Highest e apart = absurd cc
in_no_column dimensions place Supplier All e apart = absurd (apart refl)
in_no_column dimensions place Part Lowest e apart = absurd cc
in_no_column dimensions place Part Middle e apart = absurd cc
in_no_column dimensions place Part Highest e apart = absurd cc
in_no_column dimensions place Part All e apart = absurd (apart refl)
in_no_column dimensions place Date Lowest e apart = (refl, refl)
in_no_column dimensions place Date Middle e apart = absurd cc
in_no_column dimensions place Date Highest e apart = absurd cc
in_no_column dimensions place Date All e apart = absurd (apart refl)

-- there are fewer days than codes
pub few_days : (axis : Axis) (rows : List TextRow) → AreGoodRows axis rows → axis ≡ Date → length rows ≤ 65535
few_days axis rows good same =
    let few : length rows ≤ row_limit_of axis = good.keep.few_rows in
    omega (arith, few, ap row_limit_of same)
