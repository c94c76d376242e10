-- The codes of members after rows were added: those that were there stay.
use Rattle.std.proofs.Common.{◌≡◌, ◌∙◌, ap, refl, arith, ℕ, ◌<◌, ◌≤◌, true, List, [], ◌∷◌, ◌++◌, length, length-append}
use Rattle.std.proofs.Common.{get_or}
use Rattle.std.specs.Prelude.{◌==◌, not}
use Rattle.std.specs.List.{filter, list_any, position_or_len}
use Rattle.std.specs.Fmt.{decimal}
use Rattle.std.specs.Str.{bytes_eq}
use Rattle.std.proofs.lemmas.List.{get_or_append_left, map-append}
use Rattle.std.proofs.lemmas.List.Elements.{filter-append}
use Rattle.cube_model.specs.declared.attr.Attr.{Attr}
use Rattle.cube_model.specs.declared.attr.Attr.TheVariants.{CustomerCity, CustomerNation, CustomerRegion, SupplierCity}
use Rattle.cube_model.specs.declared.attr.Attr.TheVariants.{SupplierNation, SupplierRegion, PartBrand1, PartCategory}
use Rattle.cube_model.specs.declared.attr.Attr.TheVariants.{PartMfgr, DateKey, DateYearmonthnum, DateYear}
use Rattle.cube_model.specs.declared.attr.Attr.TheVariants.{DateYearmonth, DateWeeknuminyear}
use Rattle.cube_model.specs.declared.attr.Axis.{Axis}
use Rattle.cube_model.specs.declared.attr.Axis.TheVariants.{Customer, Supplier, Part, Date}
use Rattle.cube_model.specs.declared.rows.DimRows.{DimRows}
use Rattle.cube_model.specs.declared.rows.LineOrder.{LineOrder}
use Rattle.cube_model.specs.Attributes.{axis_of, key_on}
use Rattle.cube_model.specs.Places.{row_count_of, row_index_of, texts_of}
use Rattle.dictionary.specs.Dictionary.{firsts}
use Rattle.dictionary.proofs.CallerLemmas.{bytes_eq-refl, list_any-firsts, list_any_here, place_append, place_seen}
use Rattle.dimensions.specs.Columns.{code_at}
use Rattle.group_numbers.specs.Numbers.{IsKnownOn}
use Rattle.group_numbers.proofs.Numbers.{text_count}
use Rattle.dimensions.specs.Added.{joined}

-- ---- places of rows
module _ (rows more : DimRows) where
  pub index_kept : (axis : Axis) (key : ℕ) → row_index_of rows axis key < row_count_of rows axis
      → row_index_of (joined rows more) axis key ≡ row_index_of rows axis key
  index_kept Customer key within =
      place_append (λ row. row.key == key) rows.customers more.customers
      (place_seen (λ row. row.key == key) rows.customers within)
  index_kept Supplier key within =
      place_append (λ row. row.key == key) rows.suppliers more.suppliers
      (place_seen (λ row. row.key == key) rows.suppliers within)
  index_kept Part key within =
      place_append (λ row. row.key == key) rows.parts more.parts (place_seen (λ row. row.key == key) rows.parts within)
  index_kept Date key within =
      place_append (λ row. row.key == key) rows.dates more.dates (place_seen (λ row. row.key == key) rows.dates within)

  count_more : (axis : Axis) → row_count_of rows axis ≤ row_count_of (joined rows more) axis
  count_more Customer = omega (arith, length-append rows.customers more.customers)
  count_more Supplier = omega (arith, length-append rows.suppliers more.suppliers)
  count_more Part = omega (arith, length-append rows.parts more.parts)
  count_more Date = omega (arith, length-append rows.dates more.dates)

  pub known_kept : (row : LineOrder) (axis : Axis) → IsKnownOn rows row axis → IsKnownOn (joined rows more) row axis
  known_kept row axis within = omega (arith, within, index_kept axis (key_on axis row) within, count_more axis)

-- ---- codes of texts

-- the texts of a longer list begin with those of the shorter one
firsts_begin : (texts others : List (List ℕ)) → (rest : List (List ℕ))
    × (firsts (texts ++ others) ≡ firsts texts ++ rest)
firsts_begin [] others = (firsts others, refl)
firsts_begin (text ∷ texts) others =
    let shorter = firsts_begin texts others in
    let differs = λ (other : List ℕ). not (bytes_eq text other) in (
      filter differs shorter.0,
      ap (λ l. text ∷ filter differs l) shorter.1
          ∙ ap (λ l. text ∷ l) (filter-append differs (firsts texts) shorter.0),
    )

pub code_kept : (texts others : List (List ℕ)) (row : ℕ) → row < length texts
    → code_at (texts ++ others) row ≡ code_at texts row
code_kept texts others row within =
    let text = get_or texts row [] in
    let longer = firsts_begin texts others in
    let among : list_any (bytes_eq text) (firsts texts) ≡ true = list_any-firsts text texts
    ∙ list_any_here (bytes_eq text) texts row [] within (bytes_eq-refl text) in
    ap (λ own. position_or_len (bytes_eq own) (firsts (texts ++ others)))
    (get_or_append_left texts others [] row within)
    ∙ ap (position_or_len (bytes_eq text)) longer.1
    ∙ place_append (bytes_eq text) (firsts texts) longer.0 among

-- ---- the texts of an attribute
module _ (rows more : DimRows) where
  pub texts_more : (attr : Attr) → texts_of (joined rows more) attr ≡ texts_of rows attr ++ texts_of more attr
  texts_more CustomerCity = map-append (λ row. row.city) rows.customers more.customers
  texts_more CustomerNation = map-append (λ row. row.nation) rows.customers more.customers
  texts_more CustomerRegion = map-append (λ row. row.region) rows.customers more.customers
  texts_more SupplierCity = map-append (λ row. row.city) rows.suppliers more.suppliers
  texts_more SupplierNation = map-append (λ row. row.nation) rows.suppliers more.suppliers
  texts_more SupplierRegion = map-append (λ row. row.region) rows.suppliers more.suppliers
  texts_more PartBrand1 = map-append (λ row. row.brand1) rows.parts more.parts
  texts_more PartCategory = map-append (λ row. row.category) rows.parts more.parts
  texts_more PartMfgr = map-append (λ row. row.mfgr) rows.parts more.parts
  texts_more DateKey = map-append (λ row. decimal row.key) rows.dates more.dates
  texts_more DateYearmonthnum = map-append (λ row. row.yearmonthnum) rows.dates more.dates
  texts_more DateYear = map-append (λ row. row.year) rows.dates more.dates
  texts_more DateYearmonth = map-append (λ row. row.yearmonth) rows.dates more.dates
  texts_more DateWeeknuminyear = map-append (λ row. row.weeknuminyear) rows.dates more.dates

  -- the code of an attribute at a row that is there
  pub code_of_kept : (attr : Attr) (row : ℕ) → row < row_count_of rows (axis_of attr)
      → code_at (texts_of (joined rows more) attr) row ≡ code_at (texts_of rows attr) row
  code_of_kept attr row within =
      ap (λ texts. code_at texts row) (texts_more attr)
      ∙ code_kept (texts_of rows attr) (texts_of more attr) row (omega (arith, within, text_count rows attr))
