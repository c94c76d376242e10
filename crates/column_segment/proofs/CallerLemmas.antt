-- What the bytes of a batch determine, for the proofs of other crates too.
use Rattle.std.proofs.Common.{◌≡◌, ℕ, ◌^◌, ◌<◌, ◌≤◌, List, [], ◌∷◌, ◌++◌, length, map, codes, All, refl, sym, ap, ◌∙◌}
use Rattle.std.proofs.Common.{arith, append_assoc, append-nil}
use Rattle.std.specs.List.{AllByRecursion, flat_map}
use Rattle.std.proofs.lemmas.List.{append_cancel_left, length-map}
use Rattle.std.proofs.lemmas.List.Elements.{All-head, All-map, All-tail}
use Rattle.std.proofs.lemmas.List.Folds.{flat_map-map}
use Rattle.cube_model.specs.Limits.{longest_text, most_batch_rows}
use Rattle.cube_model.specs.declared.rows.LineOrder.{LineOrder}
use Rattle.wire.specs.Spelling.{spelling}
use Rattle.wire.proofs.CallerLemmas.{spelling-one}
use Rattle.dictionary.specs.Dictionary.{firsts}
use Rattle.dictionary.specs.Spelling.{AreShort, texts_spelling}
use Rattle.dictionary.specs.Columns.{codes_of, codes_spelling, column_spelling, text_of_code}
use Rattle.dictionary.proofs.ColumnLaws.{AreCodes-below, AreProper-firsts, column_has_codes, length-firsts}
use Rattle.dictionary.proofs.ColumnLaws.{texts_spelling-one}
use Rattle.column_segment.specs.declared.columns.FactColumn.{FactColumn}
use Rattle.column_segment.specs.Columns.{FitsColumn, fact_value, figure_columns, limit_of, number_columns, text_columns}
use Rattle.column_segment.specs.Columns.{text_of, width_of}
use Rattle.column_segment.specs.Encoding.{HaveFigures, HaveRows}
use Rattle.column_segment.specs.declared.gathering.Figures.{Figures}
use Rattle.column_segment.specs.declared.encoding.BatchColumns.{BatchColumns}
use Rattle.column_segment.specs.Segment.{FitColumns, IsBatch, IsSegment, segment_header, number_column, text_column}
use Rattle.column_segment.specs.declared.columns.TextColumn.{TextColumn}

-- bytes begin with one list of so many numbers at most
numbers-one : (n : ℕ) (some others : List ℕ) (xs ys : List ℕ) → length some ≡ length others
    → AllByRecursion (λ x. x < 256 ^ n) some → AllByRecursion (λ x. x < 256 ^ n) others
    → flat_map (spelling n) some ++ xs ≡ flat_map (spelling n) others ++ ys → (some ≡ others) × (xs ≡ ys)
numbers-one n [] [] xs ys many fit also same = (refl, same)
numbers-one n [] (y ∷ others) xs ys many fit also same = absurd (omega arith)
numbers-one n (x ∷ some) [] xs ys many fit also same = absurd (omega arith)
numbers-one n (x ∷ some) (y ∷ others) xs ys many fit also same =
    let parts = sym (append_assoc (spelling n x) (flat_map (spelling n) some) xs) ∙ same
    ∙ append_assoc (spelling n y) (flat_map (spelling n) others) ys in
    let first = spelling-one n x y (flat_map (spelling n) some ++ xs) (flat_map (spelling n) others ++ ys) fit.0 also.0
    parts in
    let rest = numbers-one n some others xs ys (omega arith) fit.1 also.1 first.1 in
    (cons x y some others first.0 rest.0, rest.1)
  where
    cons : (a b : ℕ) (as_ bs : List ℕ) → a ≡ b → as_ ≡ bs → a ∷ as_ ≡ b ∷ bs
    cons a b as_ bs head tail = rw (head, tail) refl

-- bytes begin with one column of so many texts at most
pub texts-one : (column others : List (List ℕ)) (xs ys : List ℕ) → length column ≡ length others
    → length column ≤ most_batch_rows → AreShort column → AreShort others
    → column_spelling column ++ xs ≡ column_spelling others ++ ys → (column ≡ others) × (xs ≡ ys)
texts-one column others xs ys many few short also same =
    let c1 : List ℕ = codes_of column in
    let c2 : List ℕ = codes_of others in
    let count1 = length-firsts column in
    let count2 = length-firsts others in
    let has1 = column_has_codes column in
    let has2 = column_has_codes others in
    let parts = sym (append_assoc (texts_spelling (firsts column)) (codes_spelling c1) xs) ∙ same
    ∙ append_assoc (texts_spelling (firsts others)) (codes_spelling c2) ys in
    let texts = texts_spelling-one most_batch_rows (firsts column) (firsts others) (codes_spelling c1 ++ xs)
    (codes_spelling c2 ++ ys) (omega arith)
    (AreProper-firsts most_batch_rows column short (omega arith))
    (AreProper-firsts most_batch_rows others also (omega arith)) parts in
    let len1 : length c1 ≡ length column = length-map column _ in
    let len2 : length c2 ≡ length others = length-map others _ in
    let below1 = weaker (length (firsts column)) c1 (omega arith) (AreCodes-below (length (firsts column)) c1 has1.0) in
    let below2 = weaker (length (firsts others)) c2 (omega arith) (AreCodes-below (length (firsts others)) c2 has2.0) in
    let same_codes = numbers-one 2 c1 c2 xs ys (len1 ∙ many ∙ sym len2) below1 below2 texts.1 in (
      sym has1.1 ∙ ap (λ (t : List (List ℕ)). map (text_of_code t) c1) texts.0
          ∙ ap (map (text_of_code (firsts others))) same_codes.0 ∙ has2.1,
      same_codes.1,
    )
  where
    weaker : (count : ℕ) (list : List ℕ) → count ≤ 65536 → AllByRecursion (λ x. x < count) list
        → AllByRecursion (λ x. x < 256 ^ 2) list
    weaker count [] le all = tt
    weaker count (x ∷ list) le all = (omega (arith, all.0), weaker count list le all.1)

-- ---- the columns of numbers

abbrev Wide : List FactColumn → Type 0
Wide columns = AllByRecursion (λ column. limit_of column ≤ 256 ^ width_of column) columns

abbrev Fit : List FactColumn → List LineOrder → Type 0
Fit columns rows = AllByRecursion (λ column. All (FitsColumn column) rows) columns

abbrev Same : List FactColumn → List LineOrder → List LineOrder → Type 0
Same columns rows others = AllByRecursion (λ column. map (fact_value column) rows ≡ map (fact_value column) others)
    columns

below : (column : FactColumn) (rows : List LineOrder) → limit_of column ≤ 256 ^ width_of column
    → All (FitsColumn column) rows
    → AllByRecursion (λ x. x < 256 ^ width_of column) (map (fact_value column) rows)
below column [] wide fit = tt
below column (row ∷ rows) wide fit =
    let head = All-head (FitsColumn column) row rows fit in
    (omega (arith, head, wide), below column rows wide (All-tail (FitsColumn column) row rows fit))

columns-one : (columns : List FactColumn) (rows others : List LineOrder) (xs ys : List ℕ) → length rows ≡ length others
    → Wide columns → Fit columns rows → Fit columns others
    → flat_map (number_column rows) columns ++ xs ≡ flat_map (number_column others) columns ++ ys
    → Same columns rows others × (xs ≡ ys)
columns-one [] rows others xs ys many wide fit also same = (tt, same)
columns-one (column ∷ columns) rows others xs ys many wide fit also same =
    let a : List ℕ = flat_map (spelling (width_of column)) (map (fact_value column) rows) in
    let b : List ℕ = flat_map (spelling (width_of column)) (map (fact_value column) others) in
    let a_is : a ≡ number_column rows column = flat_map-map (spelling (width_of column)) (fact_value column) rows in
    let b_is : b ≡ number_column others column = flat_map-map (spelling (width_of column)) (fact_value column) others in
    let rest1 : List ℕ = flat_map (number_column rows) columns ++ xs in
    let rest2 : List ℕ = flat_map (number_column others) columns ++ ys in
    let parts : a ++ rest1 ≡ b ++ rest2 =
    ap (λ (l : List ℕ). l ++ rest1) a_is
    ∙ sym (append_assoc (number_column rows column) (flat_map (number_column rows) columns) xs) ∙ same
    ∙ append_assoc (number_column others column) (flat_map (number_column others) columns) ys
    ∙ ap (λ (l : List ℕ). l ++ rest2) (sym b_is) in
    let len : length (map (fact_value column) rows) ≡ length (map (fact_value column) others) =
    length-map rows (fact_value column) ∙ many
    ∙ sym (length-map others (fact_value column)) in
    let first = numbers-one (width_of column) (map (fact_value column) rows) (map (fact_value column) others) rest1
    rest2 len
    (below column rows wide.0 fit.0) (below column others wide.0 also.0) parts in
    let more = columns-one columns rows others xs ys many wide.1 fit.1 also.1 first.1 in
    ((first.0, more.0), more.1)

-- ---- the columns of texts

abbrev SameTexts : List TextColumn → List LineOrder → List LineOrder → Type 0
SameTexts columns rows others = AllByRecursion (λ column. map (text_of column) rows ≡ map (text_of column) others)
    columns

pub shorts : (rows : List LineOrder) → IsBatch rows → (column : TextColumn) → AreShort (map (text_of column) rows)
shorts rows batch column =
    All-map (λ (text : List ℕ). length text ≤ longest_text) (text_of column) rows (batch.short column)

text_columns-one : (columns : List TextColumn) (rows others : List LineOrder) (xs ys : List ℕ)
    → length rows ≡ length others → IsBatch rows → IsBatch others
    → flat_map (text_column rows) columns ++ xs ≡ flat_map (text_column others) columns ++ ys
    → SameTexts columns rows others × (xs ≡ ys)
text_columns-one [] rows others xs ys many batch also same = (tt, same)
text_columns-one (column ∷ columns) rows others xs ys many batch also same =
    let rest1 : List ℕ = flat_map (text_column rows) columns ++ xs in
    let rest2 : List ℕ = flat_map (text_column others) columns ++ ys in
    let parts : text_column rows column ++ rest1 ≡ text_column others column ++ rest2 =
    sym (append_assoc (text_column rows column) (flat_map (text_column rows) columns) xs) ∙ same
    ∙ append_assoc (text_column others column) (flat_map (text_column others) columns) ys in
    let len1 : length (map (text_of column) rows) ≡ length rows = length-map rows (text_of column) in
    let len2 : length (map (text_of column) others) ≡ length others = length-map others (text_of column) in
    let first = texts-one (map (text_of column) rows) (map (text_of column) others) rest1 rest2 (len1 ∙ many ∙ sym len2)
    (omega (arith, batch.few))
    (shorts rows batch column) (shorts others also column) parts in
    let more = text_columns-one columns rows others xs ys many batch also first.1 in
    ((first.0, more.0), more.1)

-- ---- the rows

-- a row is its columns
row_of : (one other : LineOrder)
    → AllByRecursion (λ column. fact_value column one ≡ fact_value column other) number_columns
    → AllByRecursion (λ column. text_of column one ≡ text_of column other) text_columns → one ≡ other
row_of one other n t =
    let orderkey : one.orderkey ≡ other.orderkey = n.0 in
    let linenumber : one.linenumber ≡ other.linenumber = n.1.0 in
    let custkey : one.custkey ≡ other.custkey = n.1.1.0 in
    let partkey : one.partkey ≡ other.partkey = n.1.1.1.0 in
    let suppkey : one.suppkey ≡ other.suppkey = n.1.1.1.1.0 in
    let orderdate : one.orderdate ≡ other.orderdate = n.1.1.1.1.1.0 in
    let m = n.1.1.1.1.1.1 in
    let quantity : one.quantity ≡ other.quantity = m.0 in
    let extendedprice : one.extendedprice ≡ other.extendedprice = m.1.0 in
    let ordtotalprice : one.ordtotalprice ≡ other.ordtotalprice = m.1.1.0 in
    let discount : one.discount ≡ other.discount = m.1.1.1.0 in
    let revenue : one.revenue ≡ other.revenue = m.1.1.1.1.0 in
    let supplycost : one.supplycost ≡ other.supplycost = m.1.1.1.1.1.0 in
    let tax : one.tax ≡ other.tax = m.1.1.1.1.1.1.0 in
    let orderpriority : one.orderpriority ≡ other.orderpriority = t.0 in
    let shippriority : one.shippriority ≡ other.shippriority = t.1.0 in
    let commitdate : one.commitdate ≡ other.commitdate = t.1.1.0 in
    let shipmode : one.shipmode ≡ other.shipmode = t.1.1.1.0 in
    λ i. record {
      orderkey = orderkey i;
      linenumber = linenumber i;
      custkey = custkey i;
      partkey = partkey i;
      suppkey = suppkey i;
      orderdate = orderdate i;
      orderpriority = orderpriority i;
      shippriority = shippriority i;
      quantity = quantity i;
      extendedprice = extendedprice i;
      ordtotalprice = ordtotalprice i;
      discount = discount i;
      revenue = revenue i;
      supplycost = supplycost i;
      tax = tax i;
      commitdate = commitdate i;
      shipmode = shipmode i;
    }

heads : (columns : List FactColumn) (one other : LineOrder) (rows others : List LineOrder)
    → Same columns (one ∷ rows) (other ∷ others)
    → AllByRecursion (λ column. fact_value column one ≡ fact_value column other) columns × Same columns rows others
heads [] one other rows others same = (tt, tt)
heads (column ∷ columns) one other rows others same =
    let parts = split (fact_value column one) (fact_value column other) (map (fact_value column) rows)
    (map (fact_value column) others)
    same.0 in
    let rest = heads columns one other rows others same.1 in
    ((parts.0, rest.0), (parts.1, rest.1))
  where
    split : (a b : ℕ) (xs ys : List ℕ) → a ∷ xs ≡ b ∷ ys → (a ≡ b) × (xs ≡ ys)
    split a b xs ys e = (cc, cc)

text_heads : (columns : List TextColumn) (one other : LineOrder) (rows others : List LineOrder)
    → SameTexts columns (one ∷ rows) (other ∷ others)
    → AllByRecursion (λ column. text_of column one ≡ text_of column other) columns × SameTexts columns rows others
text_heads [] one other rows others same = (tt, tt)
text_heads (column ∷ columns) one other rows others same =
    let parts =
    split (text_of column one) (text_of column other) (map (text_of column) rows) (map (text_of column) others)
    same.0 in
    let rest = text_heads columns one other rows others same.1 in
    ((parts.0, rest.0), (parts.1, rest.1))
  where
    split : (a b : List ℕ) (xs ys : List (List ℕ)) → a ∷ xs ≡ b ∷ ys → (a ≡ b) × (xs ≡ ys)
    split a b xs ys e = (cc, cc)

rows-one : (rows others : List LineOrder) → length rows ≡ length others → Same number_columns rows others
    → SameTexts text_columns rows others → rows ≡ others
rows-one [] [] many same texts = refl
rows-one [] (other ∷ others) many same texts = absurd (omega arith)
rows-one (one ∷ rows) [] many same texts = absurd (omega arith)
rows-one (one ∷ rows) (other ∷ others) many same texts =
    let n = heads number_columns one other rows others same in
    let t = text_heads text_columns one other rows others texts in
    let head : one ≡ other = row_of one other n.0 t.0 in
    let tail : rows ≡ others = rows-one rows others (omega arith) n.1 t.1 in
    λ i. head i ∷ tail i

-- ---- the whole

-- the name, the number and how many rows, one after the other
pub header-append : (n c : ℕ) (rest : List ℕ)
    → segment_header n c ++ rest ≡ codes "SEG1" ++ (spelling 4 n ++ (spelling 4 c ++ rest))
header-append n c rest = append_assoc (codes "SEG1") (spelling 4 n ++ spelling 4 c) rest
    ∙ ap (λ (part : List ℕ). codes "SEG1" ++ part) (append_assoc (spelling 4 n) (spelling 4 c) rest)

pub header-one : (number count others other : ℕ) (xs ys : List ℕ) → number < 2 ^ 32 → count < 2 ^ 32 → others < 2 ^ 32
    → other < 2 ^ 32
    → segment_header number count ++ xs ≡ segment_header others other ++ ys → (number ≡ others) × (count ≡ other)
    × (xs ≡ ys)
header-one number count others other xs ys fit1 fit2 fit3 fit4 same =
    let parts : codes "SEG1" ++ (spelling 4 number ++ (spelling 4 count ++ xs)) ≡ codes "SEG1"
    ++ (spelling 4 others ++ (spelling 4 other ++ ys)) =
    sym (header-append number count xs) ∙ same ∙ header-append others other ys in
    let left = append_cancel_left (codes "SEG1") (spelling 4 number ++ (spelling 4 count ++ xs))
    (spelling 4 others ++ (spelling 4 other ++ ys)) parts in
    let first = spelling-one 4 number others (spelling 4 count ++ xs) (spelling 4 other ++ ys) fit1 fit3 left in
    let second = spelling-one 4 count other xs ys fit2 fit4 first.1 in
    (first.0, second.0, second.1)

wide : Wide number_columns
wide = (
  omega arith,
  (
    omega arith,
    (
      omega arith,
      (
        omega arith,
        (
          omega arith,
          (
            omega arith,
            (omega arith, (omega arith, (omega arith, (omega arith, (omega arith, (omega arith, (omega arith, tt))))))),
          ),
        ),
      ),
    ),
  ),
)

-- bytes are one batch at most
pub IsSegment-one : (text : List ℕ) (number other : ℕ) (rows others : List LineOrder) → IsSegment text number rows
    → IsSegment text other others → (number ≡ other) × (rows ≡ others)
IsSegment-one text number other rows others is also =
    let same = sym is.spelled ∙ also.spelled in
    let mid1 : List ℕ = flat_map (number_column rows) number_columns in
    let mid2 : List ℕ = flat_map (number_column others) number_columns in
    let end1 : List ℕ = flat_map (text_column rows) text_columns in
    let end2 : List ℕ = flat_map (text_column others) text_columns in
    let header = header-one number (length rows) other (length others) (mid1 ++ end1) (mid2 ++ end2)
    is.number_fits (omega (arith, is.batch.few)) also.number_fits (omega (arith, also.batch.few)) same in
    let columns = columns-one number_columns rows others end1 end2 header.1 wide is.fits also.fits header.2 in
    let padded : end1 ++ [] ≡ end2 ++ [] = append-nil end1 ∙ columns.1 ∙ sym (append-nil end2) in
    let texts = text_columns-one text_columns rows others [] [] header.1 is.batch also.batch padded in
    (header.0, rows-one rows others header.1 columns.0 texts.0)

-- the numbers of rows whose columns there are fit these
figures_fit : (rows : List LineOrder) (columns : Figures) → HaveFigures rows columns
    → AllByRecursion (λ column. All (FitsColumn column) rows) figure_columns
figures_fit rows columns have = (
  have.quantity.fits,
  (
    have.extendedprice.fits,
    (have.ordtotalprice.fits, (have.discount.fits, (have.revenue.fits, (have.supplycost.fits, (have.tax.fits, tt))))),
  ),
)

pub rows_fit : (rows : List LineOrder) (columns : BatchColumns) → HaveRows rows columns → FitColumns rows
rows_fit rows columns have =
    let keys = have.keys in (
      keys.orderkey.fits,
      (
        keys.linenumber.fits,
        (
          keys.custkey.fits,
          (
            keys.partkey.fits,
            (keys.suppkey.fits, (keys.orderdate.fits, figures_fit rows columns.figures have.figures)),
          ),
        ),
      ),
    )
