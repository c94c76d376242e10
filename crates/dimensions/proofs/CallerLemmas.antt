-- What callers need of texts and members.
use Rattle.std.proofs.Common.{◌≡◌, ◌<◌, ◌≤◌, ◌^◌, ◌∙◌, ap, ℕ, true, List, length, Some, None}
use Rattle.std.specs.List.{AllByRecursion, list_any}
use Rattle.std.specs.Str.{bytes_eq}
use Rattle.cube_model.specs.declared.attr.Axis.{Axis}
use Rattle.cube_model.specs.declared.attr.Axis.TheVariants.{Customer, Supplier, Part, Date}
use Rattle.cube_model.specs.declared.rows.DimRows.{DimRows}
use Rattle.cube_model.specs.Lawful.{KeepAllRules}
use Rattle.cube_model.specs.Limits.{most_dimension_rows, most_members}
use Rattle.cube_model.specs.Validity.{HaveShortTexts, members_of}
use Rattle.dictionary.specs.Columns.{codes_of}
use Rattle.dictionary.specs.Dictionary.{firsts}
use Rattle.dictionary.specs.Spelling.{AreProper}
use Rattle.dictionary.proofs.CallerLemmas as texts
use Rattle.dimensions.specs.Coded.{AreGoodRows, texts_at_places}
use Rattle.dimensions.specs.Shapes.{lowers_of, lower_of}
use Rattle.dimensions.specs.Shown.{rows_on, AreStorable}
use Rattle.dimensions.specs.TextRows.{TextRow}
use Rattle.dimensions.proofs.GoodLaws as codes
use Rattle.dimensions.proofs.MadeLaws as made
use Rattle.dimensions.proofs.MemberLaws as members
use Rattle.dimensions.proofs.ShapeLaws as shapes
use Rattle.cube_model.proofs.LawsLemmas.{valid_rows_keep_the_rules}

pub bytes_eq-same : (a b : List ℕ) → bytes_eq a b ≡ true → a ≡ b
bytes_eq-same = texts.bytes_eq-same

pub bytes_eq-refl : (a : List ℕ) → bytes_eq a a ≡ true
bytes_eq-refl = texts.bytes_eq-refl

pub bytes_eq-symm : (a b : List ℕ) → bytes_eq a b ≡ bytes_eq b a
bytes_eq-symm = texts.bytes_eq-symm

-- the members of a list are its texts
pub has-members_of : (text : List ℕ) (list : List (List ℕ))
    → list_any (bytes_eq text) (members_of list) ≡ list_any (bytes_eq text) list
has-members_of = members.has-members_of

-- ---- rows by codes that keep the rules

module _ (axis : Axis) (rows : List TextRow) (good : AreGoodRows axis rows) where
  pub few_good_rows : length rows ≤ most_dimension_rows
  few_good_rows = codes.few_good_rows axis rows good

  pub good_texts : (i : ℕ) → i < length (lowers_of axis) → AreProper most_members (firsts (texts_at_places axis i rows))
  good_texts = codes.good_texts axis rows good

  pub good_codes : (i : ℕ) → i < length (lowers_of axis)
      → AllByRecursion (λ code. code < 2 ^ 16) (codes_of (texts_at_places axis i rows))
  good_codes = codes.good_codes axis rows good

  -- above the rows a column has a place for each row
  pub good_places_of_rows : (i : ℕ) → i < length (lowers_of axis) → lower_of axis i ≡ None
      → length (codes_of (texts_at_places axis i rows)) ≡ length rows
  good_places_of_rows i lt e = codes.good_places axis rows good i lt ∙ ap (codes.places_of_rows axis rows) e

  -- above a lower column it has a place for each of its texts
  pub good_places_above : (i j : ℕ) → i < length (lowers_of axis) → lower_of axis i ≡ Some j
      → length (codes_of (texts_at_places axis i rows)) ≡ length (firsts (texts_at_places axis j rows))
  good_places_above i j lt e = codes.good_places axis rows good i lt ∙ ap (codes.places_of_rows axis rows) e

-- a lower column is before those that it determines
pub lower_below : (axis : Axis) (i j : ℕ) → lower_of axis i ≡ Some j → j < i
lower_below = shapes.lower_below

-- ---- valid rows with short texts keep the rules of each dimension

module _ (rows : DimRows) where
  pub good_customers : KeepAllRules rows → HaveShortTexts rows → AreGoodRows Customer (rows_on rows Customer)
  good_customers = made.good_customers rows

  pub good_suppliers : KeepAllRules rows → HaveShortTexts rows → AreGoodRows Supplier (rows_on rows Supplier)
  good_suppliers = made.good_suppliers rows

  pub good_parts : KeepAllRules rows → HaveShortTexts rows → AreGoodRows Part (rows_on rows Part)
  good_parts = made.good_parts rows

  pub good_dates : KeepAllRules rows → HaveShortTexts rows → AreGoodRows Date (rows_on rows Date)
  good_dates = made.good_dates rows

  -- rows that can be stored keep the rules of each dimension
  pub good_on : AreStorable rows → (axis : Axis) → AreGoodRows axis (rows_on rows axis)
  good_on storable Customer = good_customers ((valid_rows_keep_the_rules rows).0 storable.valid) storable.short
  good_on storable Supplier = good_suppliers ((valid_rows_keep_the_rules rows).0 storable.valid) storable.short
  good_on storable Part = good_parts ((valid_rows_keep_the_rules rows).0 storable.valid) storable.short
  good_on storable Date = good_dates ((valid_rows_keep_the_rules rows).0 storable.valid) storable.short
