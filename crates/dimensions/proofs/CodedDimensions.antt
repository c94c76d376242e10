-- A dimension whose columns have codes in order is that of its rows.
use Rattle.std.proofs.Common.{◌≡◌, ◌<◌, ◌≤◌, ◌∙◌, zero, suc, sym, ap, refl, subst, arith, ℕ, List, [], ◌∷◌, map, length}
use Rattle.std.proofs.Common.{get_or, unwrap_or, Option, Some, None, ◌^◌}
use Rattle.std.specs.List.{position_or_len, AllByRecursion}
use Rattle.std.specs.Option.{option_map}
use Rattle.std.specs.Str.{bytes_eq}
use Rattle.std.proofs.lemmas.List.{ext_get_or, length-map, get_or-map}
use Rattle.cube_model.specs.declared.attr.Axis.{Axis}
use Rattle.cube_model.specs.declared.attr.Axis.TheVariants.{Customer, Supplier, Part, Date}
use Rattle.cube_model.specs.Limits.{most_members}
use Rattle.dictionary.specs.Dictionary.{EachOnce, firsts}
use Rattle.dictionary.specs.Columns.{AreCodes, codes_of, text_of_code}
use Rattle.dimensions.specs.declared.column.Column.{Column}
use Rattle.dimensions.specs.declared.dimension.Dimension.{Dimension}
use Rattle.dimensions.specs.TextRows.{text_in, column_of}
use Rattle.dimensions.specs.Shapes.{lowers_of, lower_of}
use Rattle.dimensions.specs.Columns.{code_at, IsColumn}
use Rattle.dimensions.specs.Coded.{place_texts, texts_below, texts_at_places}
use Rattle.dimensions.specs.Dimensions.{column_at, lower_texts, StoresRows}
use Rattle.dimensions.specs.Shown.{code_up, text_up, each_row, text_row, rows_of_dimension}
use Rattle.dimensions.proofs.ColumnLaws.{code_at-within}
use Rattle.dimensions.proofs.ShapeLaws.{lower_below}
use Rattle.dimensions.proofs.CodeLaws.{decoded}
use Rattle.dimensions.proofs.CodedTexts.{own_place, firsts-map, place_image}
use Rattle.dimensions.proofs.ShortLaws.{all_unmap}

-- ---- rows by index

pub each_row-length : {X : Type 0} (row : ℕ → X) (n : ℕ) → length (each_row row n) ≡ n
each_row-length row zero = refl
each_row-length row (suc n) = ap suc (each_row-length (λ k. row (suc k)) n)

pub each_row-get : {X : Type 0} (row : ℕ → X) (n k : ℕ) (d : X) → k < n → get_or (each_row row n) k d ≡ row k
each_row-get row zero k d lt = absurd (omega (arith, lt))
each_row-get row (suc n) zero d lt = refl
each_row-get row (suc n) (suc k) d lt = each_row-get (λ i. row (suc i)) n k d (omega (arith, lt))

pub each_row-map : {X Y : Type 0} (f : X → Y) (row : ℕ → X) (n : ℕ)
    → map f (each_row row n) ≡ each_row (λ k. f (row k)) n
each_row-map f row zero = refl
each_row-map f row (suc n) = ap (λ l. f (row 0) ∷ l) (each_row-map f (λ k. row (suc k)) n)

pub each_row-same : {X : Type 0} (row other : ℕ → X) (n : ℕ) → ((k : ℕ) → k < n → row k ≡ other k)
    → each_row row n ≡ each_row other n
each_row-same row other zero same = refl
each_row-same row other (suc n) same =
    λ i. same 0 (omega arith) i ∷ each_row-same (λ k. row (suc k)) (λ k. other (suc k)) n
    (λ k lt. same (suc k) (omega (arith, lt))) i

pub each_row-of : {X : Type 0} (xs : List X) (d : X) → each_row (λ k. get_or xs k d) (length xs) ≡ xs
each_row-of [] d = refl
each_row-of (x ∷ xs) d = ap (λ l. x ∷ l) (each_row-of xs d)

-- how many columns a dimension has
pub few_columns : (axis : Axis) → length (lowers_of axis) ≤ 4
few_columns Customer = omega arith
few_columns Supplier = omega arith
few_columns Part = omega arith
few_columns Date = omega arith

-- ---- columns with codes in order

-- how many places a column of a dimension has
abbrev pub places_in : Dimension → Option ℕ → ℕ
places_in dimension None = length dimension.keys
places_in dimension (Some lower) = length (column_at dimension lower).texts.texts

pub record IsInOrder (places : ℕ) (column : Column) : Type 0 where
  pub limit : column.texts.limit ≡ most_members
  pub once : EachOnce column.texts.texts
  pub room : length column.texts.texts ≤ most_members
  pub places_are : length column.codes ≡ places
  pub order : AreCodes (length column.texts.texts) column.codes

-- the columns of a dimension are those of its dimension, each with codes in order
pub record AreInOrder (axis : Axis) (dimension : Dimension) : Type 0 where
  pub fit : AllByRecursion (λ key. key < 2 ^ 32) dimension.keys
  pub count : length dimension.columns.items ≡ length (lowers_of axis)
  pub lowers : (i : ℕ) → i < length (lowers_of axis) → (column_at dimension i).lower ≡ lower_of axis i
  pub columns : (i : ℕ) → i < length (lowers_of axis)
      → IsInOrder (places_in dimension (lower_of axis i)) (column_at dimension i)

module _ (axis : Axis) (dimension : Dimension) (are : AreInOrder axis dimension) where
  abbrev n : ℕ
  n = length dimension.keys

  abbrev texts : ℕ → List (List ℕ)
  texts i = (column_at dimension i).texts.texts

  abbrev codes : ℕ → List ℕ
  codes i = (column_at dimension i).codes

  abbrev code : ℕ → ℕ → ℕ
  code i row = code_up 4 dimension i row

  -- the texts of a column, row by row
  abbrev pub column_up : ℕ → List (List ℕ)
  column_up i = each_row (text_up dimension i) n

  -- the texts at its places
  abbrev pub placed : ℕ → List (List ℕ)
  placed i = map (text_of_code (texts i)) (codes i)

  -- ---- steps up

  enough : (s t i row : ℕ) → i < s → i < t → i < length (lowers_of axis)
      → code_up s dimension i row ≡ code_up t dimension i row
  enough zero t i row below _ lt = absurd (omega (arith, below))
  enough (suc s) zero i row _ below lt = absurd (omega (arith, below))
  enough (suc s) (suc t) i row below below' lt =
      ap (λ o. get_or (codes i) (unwrap_or (option_map (λ lower. code_up s dimension lower row) o) row) 0)
      (are.lowers i lt)
      ∙ elim (lower_of axis i) as
      (λ o. lower_of axis i ≡ o
      → get_or (codes i) (unwrap_or (option_map (λ lower. code_up s dimension lower row) o) row) 0
      ≡ get_or (codes i) (unwrap_or (option_map (λ lower. code_up t dimension lower row) o) row) 0) [
        | None ↦ λ e. refl
        | Some j ↦ λ e.
            let before = lower_below axis i j e in
            ap (λ k. get_or (codes i) k 0)
            (enough s t j row (omega (arith, before, below)) (omega (arith, before, below'))
            (omega (arith, before, lt)))
      ] refl
      ∙ sym (ap (λ o. get_or (codes i) (unwrap_or (option_map (λ lower. code_up t dimension lower row) o) row) 0)
      (are.lowers i lt))

  code_above_rows : (i row : ℕ) → i < length (lowers_of axis) → lower_of axis i ≡ None
      → code i row ≡ get_or (codes i) row 0
  code_above_rows i row lt e =
      ap (λ o. get_or (codes i) (unwrap_or (option_map (λ lower. code_up 3 dimension lower row) o) row) 0)
      (are.lowers i lt ∙ e)

  code_above : (i j row : ℕ) → i < length (lowers_of axis) → lower_of axis i ≡ Some j
      → code i row ≡ get_or (codes i) (code j row) 0
  code_above i j row lt e =
      let before = lower_below axis i j e in
      let few = few_columns axis in
      ap (λ o. get_or (codes i) (unwrap_or (option_map (λ lower. code_up 3 dimension lower row) o) row) 0)
      (are.lowers i lt ∙ e)
      ∙ ap (λ k. get_or (codes i) k 0)
      (enough 3 4 j row (omega (arith, before, lt, few)) (omega (arith, before, lt, few))
      (omega (arith, before, lt)))

  -- ---- one column

  module _ (i : ℕ) (lt : i < length (lowers_of axis)) where
    own : IsInOrder (places_in dimension (lower_of axis i)) (column_at dimension i)
    own = are.columns i lt

    pub placed_firsts : firsts (placed i) ≡ texts i
    placed_firsts = (decoded (texts i) (codes i) own.once own.order).0

    pub placed_codes : codes_of (placed i) ≡ codes i
    placed_codes = (decoded (texts i) (codes i) own.once own.order).1

    placed_count : length (placed i) ≡ length (codes i)
    placed_count = length-map (codes i) (text_of_code (texts i))

    placed_at : (k : ℕ) → k < length (codes i) → get_or (placed i) k [] ≡ get_or (texts i) (get_or (codes i) k 0) []
    placed_at k k_lt = get_or-map (text_of_code (texts i)) (codes i) k 0 [] k_lt

    -- each code is that of a text
    code_within : (k : ℕ) → k < length (codes i) → get_or (codes i) k 0 < length (texts i)
    code_within k k_lt =
        let is : get_or (codes i) k 0 ≡ code_at (placed i) k =
        ap (λ l. get_or l k 0) (sym placed_codes)
        ∙ get_or-map (λ text. position_or_len (bytes_eq text) (firsts (placed i))) (placed i) k [] 0
        (omega (arith, placed_count, k_lt)) in
        let within = code_at-within (placed i) k (omega (arith, placed_count, k_lt)) in
        omega (arith, is, within, ap length placed_firsts)

  -- a column has just its texts, and the code of each row is one of them
  pub record IsGood (i : ℕ) : Type 0 where
    pub firsts_are : firsts (column_up i) ≡ texts i
    pub within : (row : ℕ) → row < n → code i row < length (texts i)

  column_count : (i : ℕ) → length (column_up i) ≡ n
  column_count i = each_row-length (text_up dimension i) n

  good_above_rows : (i : ℕ) (lt : i < length (lowers_of axis)) → lower_of axis i ≡ None → (column_up i ≡ placed i)
      × IsGood i
  good_above_rows i lt e =
      let count : length (codes i) ≡ n = (own i lt).places_are ∙ ap (places_in dimension) e in
      let same : column_up i ≡ placed i =
      ext_get_or [] (column_up i) (placed i) (omega (arith, column_count i, placed_count i lt, count)) (λ k k_lt.
      let k_n : k < n = omega (arith, k_lt, column_count i) in
      each_row-get (text_up dimension i) n k [] k_n ∙ ap (λ c. get_or (texts i) c []) (code_above_rows i k lt e)
      ∙ sym (placed_at i lt k (omega (arith, k_n, count)))) in (
        same,
        record {
          firsts_are = ap firsts same ∙ placed_firsts i lt;
          within = λ row row_lt. let w = code_within i lt row (omega (arith, row_lt, count)) in
              omega (arith, w, code_above_rows i row lt e);
        },
      )

  -- the text above a text of a lower column
  abbrev pub image : ℕ → ℕ → List ℕ → List ℕ
  image i j text = get_or (placed i) (position_or_len (bytes_eq text) (texts j)) []

  module _ (i j : ℕ) (lt : i < length (lowers_of axis)) (e : lower_of axis i ≡ Some j) (below : IsGood j) where
    j_lt : j < length (lowers_of axis)
    j_lt = let before = lower_below axis i j e in omega (arith, before, lt)

    count_above : length (codes i) ≡ length (texts j)
    count_above = (own i lt).places_are ∙ ap (places_in dimension) e

    within_above : (row : ℕ) → row < n → code i row < length (texts i)
    within_above row row_lt =
        let w = code_within i lt (code j row) (omega (arith, below.within row row_lt, count_above)) in
        omega (arith, w, code_above i j row lt e)

    image_at : (k : ℕ) → k < length (texts j) → image i j (get_or (texts j) k []) ≡ get_or (placed i) k []
    image_at k k_lt = ap (λ p. get_or (placed i) p []) (own_place (texts j) k (own j j_lt).once k_lt)

    pub image_column : column_up i ≡ map (image i j) (column_up j)
    image_column = sym (each_row-map (image i j) (text_up dimension j) n ∙ each_row-same _ _ n (λ row row_lt.
        image_at (code j row) (below.within row row_lt)
        ∙ placed_at i lt (code j row) (omega (arith, below.within row row_lt, count_above))
        ∙ ap (λ c. get_or (texts i) c []) (sym (code_above i j row lt e))))

    pub image_texts : map (image i j) (texts j) ≡ placed i
    image_texts =
        ext_get_or [] (map (image i j) (texts j)) (placed i)
        (omega (arith, length-map (texts j) (image i j), placed_count i lt, count_above)) (λ k k_lt.
        let k_j : k < length (texts j) = omega (arith, k_lt, length-map (texts j) (image i j)) in
        get_or-map (image i j) (texts j) k [] [] k_j ∙ image_at k k_j)

    good_above : IsGood i
    good_above = record {
      firsts_are = ap firsts image_column ∙ sym (firsts-map (image i j) (column_up j))
          ∙ ap (λ l. firsts (map (image i j) l)) below.firsts_are ∙ ap firsts image_texts ∙ placed_firsts i lt;
      within = within_above;
    }

  good_in : (steps i : ℕ) → i < steps → i < length (lowers_of axis) → IsGood i
  good_in zero i below lt = absurd (omega (arith, below))
  good_in (suc steps) i below lt =
      elim (lower_of axis i) as (λ o. lower_of axis i ≡ o → IsGood i) [
        | None ↦ λ e. (good_above_rows i lt e).1
        | Some j ↦ λ e.
            let before = lower_below axis i j e in
            good_above i j lt e (good_in steps j (omega (arith, before, below)) (omega (arith, before, lt)))
      ] refl

  pub good : (i : ℕ) → i < length (lowers_of axis) → IsGood i
  good i lt = good_in (suc i) i (omega arith) lt

  -- the code of a row's text
  code_is : (i row : ℕ) → i < length (lowers_of axis) → row < n → code_at (column_up i) row ≡ code i row
  code_is i row lt row_lt =
      ap (λ l. position_or_len (bytes_eq (get_or (column_up i) row [])) l) (good i lt).firsts_are
      ∙ ap (λ t. position_or_len (bytes_eq t) (texts i)) (each_row-get (text_up dimension i) n row [] row_lt)
      ∙ own_place (texts i) (code i row) (own i lt).once ((good i lt).within row row_lt)

  -- a column is that of its texts
  is_column : (i : ℕ) → i < length (lowers_of axis)
      → IsColumn (column_up i) (option_map column_up (lower_of axis i)) (column_at dimension i)
  is_column i lt =
      let room : length (firsts (column_up i)) ≤ most_members =
      omega (arith, (own i lt).room, ap length (good i lt).firsts_are) in
      elim (lower_of axis i) as
      (λ o. lower_of axis i ≡ o → IsColumn (column_up i) (option_map column_up o) (column_at dimension i)) [
        | None ↦ λ e. record {
          limit = (own i lt).limit;
          texts_are = sym (good i lt).firsts_are;
          room = room;
          count = (own i lt).places_are ∙ ap (places_in dimension) e ∙ sym (column_count i);
          reads = λ row row_lt. let row_n : row < n = omega (arith, row_lt, column_count i) in
              sym (code_above_rows i row lt e) ∙ sym (code_is i row lt row_n);
        }
        | Some j ↦ λ e.
            let before = lower_below axis i j e in
            let j_lt : j < length (lowers_of axis) = omega (arith, before, lt) in record {
              limit = (own i lt).limit;
              texts_are = sym (good i lt).firsts_are;
              room = room;
              count = (own i lt).places_are ∙ ap (places_in dimension) e ∙ ap length (sym (good j j_lt).firsts_are);
              reads = λ row row_lt.
                  let row_n : row < n = omega (arith, row_lt, column_count i) in
                  ap (λ k. get_or (codes i) k 0) (code_is j row j_lt row_n) ∙ sym (code_above i j row lt e)
                  ∙ sym (code_is i row lt row_n);
            }
      ] refl

  -- ---- the rows

  pub column_is : (i : ℕ) → i < length (lowers_of axis) → column_of i (rows_of_dimension axis dimension) ≡ column_up i
  column_is i lt =
      each_row-map (text_in i) (text_row axis dimension) n
      ∙ each_row-same _ _ n
      (λ row row_lt. each_row-get (λ column. text_up dimension column row) (length (lowers_of axis)) i [] lt)

  keys_are : map (λ row. row.key) (rows_of_dimension axis dimension) ≡ dimension.keys
  keys_are = each_row-map (λ row. row.key) (text_row axis dimension) n ∙ each_row-of dimension.keys 0

  pub dimension_is : StoresRows axis (rows_of_dimension axis dimension) dimension
  dimension_is = record {
    keys = sym keys_are;
    fit = all_unmap (λ key. key < 2 ^ 32) (λ row. row.key) (rows_of_dimension axis dimension)
        (subst (AllByRecursion (λ key. key < 2 ^ 32)) (sym keys_are) are.fit);
    count = are.count;
    lowers = are.lowers;
    columns = λ i lt.
        subst (λ l. IsColumn l (lower_texts axis i (rows_of_dimension axis dimension)) (column_at dimension i))
        (sym (column_is i lt))
        (elim (lower_of axis i) as
        (λ o. lower_of axis i ≡ o → IsColumn (column_up i) (option_map column_up o) (column_at dimension i)
        → IsColumn (column_up i) (option_map (λ lower. column_of lower (rows_of_dimension axis dimension)) o)
        (column_at dimension i)) [
          | None ↦ λ e is. is
          | Some j ↦ λ e is. let before = lower_below axis i j e in
              subst (λ l. IsColumn (column_up i) (Some l) (column_at dimension i))
              (sym (column_is j (omega (arith, before, lt)))) is
        ] refl (is_column i lt));
  }

  -- the texts at the places of a column are those of its codes
  pub places_are : (i : ℕ) → i < length (lowers_of axis) → texts_at_places axis i (rows_of_dimension axis dimension)
      ≡ placed i
  places_are i lt =
      elim (lower_of axis i) as
      (λ o. lower_of axis i ≡ o
      → place_texts (texts_below o (rows_of_dimension axis dimension)) (column_of i (rows_of_dimension axis dimension))
      ≡ placed i) [
        | None ↦ λ e. column_is i lt ∙ (good_above_rows i lt e).0
        | Some j ↦ λ e.
            let before = lower_below axis i j e in
            let j_lt : j < length (lowers_of axis) = omega (arith, before, lt) in
            (λ k. place_texts (Some (column_is j j_lt k)) (column_is i lt k))
            ∙ place_image (image i j) (column_up j) (column_up i) (image_column i j lt e (good j j_lt))
            ∙ ap (map (image i j)) (good j j_lt).firsts_are ∙ image_texts i j lt e (good j j_lt)
      ] refl
