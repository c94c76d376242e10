-- The bytes of a batch pass each check, and so bytes that fail one are those of none. Our own.
use Rattle.std.proofs.Common.{◌≡◌, ◌≢◌, ℕ, ◌+◌, ◌-◌, ◌*◌, ◌^◌, ◌<◌, ◌≤◌, ◌&&◌, true, nat_lt, List, [], ◌∷◌, ◌++◌}
use Rattle.std.proofs.Common.{length, map, take, drop, codes, All, refl, sym, ap, subst, ◌∙◌, arith, append_assoc}
use Rattle.std.proofs.Common.{append-nil, length-append, length-drop, drop-drop}
use Rattle.std.specs.Int.{from_le_bytes, w16, w64}
use Rattle.std.specs.List.{AllByRecursion, flat_map}
use Rattle.std.specs.Simd.{first_chunks}
use Rattle.std.proofs.lemmas.Bool.{lt-ltb}
use Rattle.std.proofs.lemmas.List.{drop_at, length-map, take_at}
use Rattle.std.proofs.lemmas.List.Elements.{All-head, All-tail}
use Rattle.cube_model.specs.Limits.{most_batch_rows}
use Rattle.cube_model.specs.declared.rows.LineOrder.{LineOrder}
use Rattle.column_kernels.specs.Checks.{all_below}
use Rattle.wire.specs.Spelling.{spelling}
use Rattle.wire.proofs.CallerLemmas.{length-spelling}
use Rattle.dictionary.specs.Columns.{AreCodes, codes_of, codes_spelling, column_spelling}
use Rattle.dictionary.specs.Dictionary.{firsts}
use Rattle.dictionary.specs.Spelling.{AreProper, AreShort, BeginsWithNone, ReadsTexts, texts_spelling}
use Rattle.dictionary.proofs.ColumnLaws.{AreCodes-below, AreProper-firsts, column_has_codes, length-firsts}
use Rattle.dictionary.proofs.ColumnLaws.{texts_spelling-one}
use Rattle.column_segment.specs.declared.columns.FactColumn.{FactColumn}
use Rattle.column_segment.specs.declared.columns.FactColumn.TheVariants.{OrderKey, LineNumber, CustKey, PartKey}
use Rattle.column_segment.specs.declared.columns.FactColumn.TheVariants.{SuppKey, OrderDate, Quantity, ExtendedPrice}
use Rattle.column_segment.specs.declared.columns.FactColumn.TheVariants.{OrdTotalPrice, Discount, Revenue, SupplyCost}
use Rattle.column_segment.specs.declared.columns.FactColumn.TheVariants.{Tax}
use Rattle.column_segment.specs.declared.columns.TextColumn.{TextColumn}
use Rattle.column_segment.specs.declared.columns.TextColumn.TheVariants.{OrderPriority, ShipPriority, CommitDate}
use Rattle.column_segment.specs.declared.columns.TextColumn.TheVariants.{ShipMode}
use Rattle.column_segment.specs.declared.layout.Coded.{Coded}
use Rattle.column_segment.specs.Columns.{FitsColumn, fact_value, number_columns, text_columns, text_of, width_of}
use Rattle.column_segment.specs.Decoded.{amounts_in, column_bytes, texts_in}
use Rattle.column_segment.specs.Reading.{BeginsWithCodes, BeginsWithNoColumn, HasColumn, HasHeader, HasNumbers}
use Rattle.column_segment.specs.Reading.{SpellNoTexts, SpellNone}
use Rattle.column_segment.specs.Segment.{IsBatch, IsSegment, segment_header, number_column, text_column}
use Rattle.column_segment.proofs.CallerLemmas.{header-one, shorts, texts-one}
use Rattle.column_segment.proofs.Chunked.{AreBytes, chunks_of, length-parts, read_2, read_8}
use Rattle.column_segment.proofs.Whole.{column_many, column_short, column_holds, sum_times, total}

-- ---- the header

pub length-header : (number rows : ℕ) → length (segment_header number rows) ≡ 12
length-header number rows =
    omega (
      arith,
      length-append (codes "SEG1") (spelling 4 number ++ spelling 4 rows),
      length-append (spelling 4 number) (spelling 4 rows),
      length-spelling 4 number,
      length-spelling 4 rows,
    )

-- a header is before what is left after twelve bytes
pub header_holds : (text rest : List ℕ) (number rows : ℕ) → text ≡ segment_header number rows ++ rest
    → drop 12 text ≡ rest
header_holds text rest number rows is = ap (drop 12) is
    ∙ drop_at (segment_header number rows) rest 12 (length-header number rows)

pub has_header : (text : List ℕ) (number : ℕ) (rows : List LineOrder) → IsSegment text number rows
    → HasHeader text number (length rows)
has_header text number rows is =
    let rest : List ℕ = flat_map (number_column rows) number_columns ++ flat_map (text_column rows) text_columns in
    record {
      spelled = is.spelled
          ∙ ap (λ (l : List ℕ). segment_header number (length rows) ++ l)
          (sym (header_holds text rest number (length rows) is.spelled));
      fits = is.number_fits;
      few = is.batch.few;
    }

pub header_same : (text : List ℕ) (number other rows others : ℕ) → HasHeader text number rows
    → HasHeader text other others → rows ≡ others
header_same text number other rows others one two =
    (header-one number rows other others (drop 12 text) (drop 12 text) one.fits (omega (arith, one.few)) two.fits
    (omega (arith, two.few)) (sym one.spelled ∙ two.spelled)).1

-- ---- the columns of numbers

abbrev pub Sections : List FactColumn → ℕ → ℕ → List LineOrder → List ℕ → Type 0
Sections [] place n rows xs = Unit {0}
Sections (column ∷ columns) place n rows xs =
    (take (width_of column * n) (drop (place * n) xs) ≡ number_column rows column)
    × Sections columns (place + width_of column) n rows xs

length-column : (rows : List LineOrder) (column : FactColumn)
    → length (number_column rows column) ≡ width_of column * length rows
length-column rows column =
    length-parts (width_of column) (λ (row : LineOrder). spelling (width_of column) (fact_value column row))
    (λ row. length-spelling (width_of column) (fact_value column row)) rows

sections : (columns : List FactColumn) (place n : ℕ) (rows : List LineOrder) (xs rest : List ℕ) → length rows ≡ n
    → drop (place * n) xs ≡ flat_map (number_column rows) columns ++ rest
    → Sections columns place n rows xs
sections [] place n rows xs rest many is = tt
sections (column ∷ columns) place n rows xs rest many is =
    let own : List ℕ = number_column rows column in
    let more : List ℕ = flat_map (number_column rows) columns ++ rest in
    let parts : drop (place * n) xs ≡ own ++ more = is
    ∙ append_assoc own (flat_map (number_column rows) columns) rest in
    let long : length own ≡ width_of column * n = length-column rows column
    ∙ ap (λ (m : ℕ). width_of column * m) many in
    let left : drop ((place + width_of column) * n) xs ≡ more =
    ap (λ (m : ℕ). drop m xs) (sum_times place (width_of column) n)
    ∙ sym (drop-drop (width_of column * n) (place * n) xs)
    ∙ ap (drop (width_of column * n)) parts ∙ drop_at own more (width_of column * n) long in (
      ap (take (width_of column * n)) parts ∙ take_at own more (width_of column * n) long,
      sections columns (place + width_of column) n rows xs rest many left,
    )

length-columns : (columns : List FactColumn) (rows : List LineOrder)
    → length (flat_map (number_column rows) columns) ≡ total columns * length rows
length-columns [] rows = omega arith
length-columns (column ∷ columns) rows =
    omega (
      arith,
      length-append (number_column rows column) (flat_map (number_column rows) columns),
      length-column rows column,
      length-columns columns rows,
      sum_times (width_of column) (total columns) (length rows),
    )

-- numbers that are read back from their bytes, each from its own
module _ (width : ℕ) (read : List ℕ → ℕ) (limit : ℕ) (back : (x : ℕ) → x < limit → read (spelling width x) ≡ x)
    (value : LineOrder → ℕ) where
  each_back : (rows : List LineOrder) → All (λ row. value row < limit) rows
      → map read (map (λ row. spelling width (value row)) rows) ≡ map value rows
  each_back [] fit = refl
  each_back (row ∷ rows) fit =
      let head = back (value row) (All-head (λ (r : LineOrder). value r < limit) row rows fit) in
      let tail = each_back rows (All-tail (λ (r : LineOrder). value r < limit) row rows fit) in
      λ i. head i ∷ tail i

  -- from the bytes of a column
  pub column_back : (rows : List LineOrder) → All (λ row. value row < limit) rows
      → map read (first_chunks width (length rows) (flat_map (λ row. spelling width (value row)) rows))
      ≡ map value rows
  column_back rows fit =
      let part : LineOrder → List ℕ = λ row. spelling width (value row) in
      ap (λ (l : List ℕ). map read (first_chunks width (length rows) l)) (sym (append-nil (flat_map part rows)))
      ∙ ap (map read) (chunks_of width part (λ row. length-spelling width (value row)) (length rows) rows [] refl)
      ∙ each_back rows fit

all_below_of : (value : LineOrder → ℕ) (limit : ℕ) (rows : List LineOrder) → All (λ row. value row < limit) rows
    → all_below limit (map value rows) ≡ true
all_below_of value limit [] fit = refl
all_below_of value limit (row ∷ rows) fit =
    let own : nat_lt (value row) limit ≡ true =
    lt-ltb (value row) limit (All-head (λ (r : LineOrder). value r < limit) row rows fit) in
    let rest = all_below_of value limit rows (All-tail (λ (r : LineOrder). value r < limit) row rows fit) in
    λ i. own i && rest i

module _ (text : List ℕ) (number : ℕ) (rows : List LineOrder) (is : IsSegment text number rows) where
  number_part : List ℕ
  number_part = flat_map (number_column rows) number_columns

  text_part : List ℕ
  text_part = flat_map (text_column rows) text_columns

  left : drop 12 text ≡ flat_map (number_column rows) number_columns ++ flat_map (text_column rows) text_columns
  left = header_holds text (flat_map (number_column rows) number_columns ++ flat_map (text_column rows) text_columns)
      number (length rows) is.spelled

  numbers_long : length (flat_map (number_column rows) number_columns) ≡ 63 * length rows
  numbers_long = length-columns number_columns rows

  pub segment_sections : Sections number_columns 0 (length rows) rows (drop 12 text)
  segment_sections =
      let start : 0 * length rows ≡ 0 = omega arith in
      sections number_columns 0 (length rows) rows (drop 12 text) (flat_map (text_column rows) text_columns) refl
      (ap (λ (m : ℕ). drop m (drop 12 text)) start ∙ left)

  amount_column : (place : ℕ) (value : LineOrder → ℕ)
      → take (8 * length rows) (drop (place * length rows) (drop 12 text))
      ≡ flat_map (λ row. spelling 8 (value row)) rows
      → All (λ row. value row < 2 ^ 63) rows
      → all_below (2 ^ 63)
      (map (from_le_bytes w64) (first_chunks 8 (length rows) (column_bytes place 8 (length rows) text))) ≡ true
  amount_column place value holds fit =
      ap (λ (l : List ℕ). all_below (2 ^ 63) (map (from_le_bytes w64) (first_chunks 8 (length rows) l))) holds
      ∙ ap (all_below (2 ^ 63))
      (column_back 8 (from_le_bytes w64) (2 ^ 63) (λ x h. read_8 x (omega (arith, h))) value rows fit)
      ∙ all_below_of value (2 ^ 63) rows fit

  pub has_numbers : HasNumbers text (length rows)
  has_numbers =
      let s = segment_sections in
      let f = is.fits in
      record {
        room = omega (
          arith,
          ap length left,
          length-append (flat_map (number_column rows) number_columns) (flat_map (text_column rows) text_columns),
          numbers_long,
          length-drop 12 text,
          ap length is.spelled,
          length-append (segment_header number (length rows))
              (flat_map (number_column rows) number_columns ++ flat_map (text_column rows) text_columns),
          length-header number (length rows),
        );
        amounts = λ column wide. by column wide s f;
      }
    where
      by : (column : FactColumn) → width_of column ≡ 8 → Sections number_columns 0 (length rows) rows (drop 12 text)
          → AllByRecursion (λ c. All (FitsColumn c) rows) number_columns
          → all_below (2 ^ 63) (amounts_in text (length rows) column) ≡ true
      by OrderKey wide s f = amount_column 0 (fact_value OrderKey) s.0 f.0
      by LineNumber wide s f = absurd (omega (arith, wide))
      by CustKey wide s f = absurd (omega (arith, wide))
      by PartKey wide s f = absurd (omega (arith, wide))
      by SuppKey wide s f = absurd (omega (arith, wide))
      by OrderDate wide s f = absurd (omega (arith, wide))
      by Quantity wide s f = absurd (omega (arith, wide))
      by ExtendedPrice wide s f = amount_column 29 (fact_value ExtendedPrice) s.1.1.1.1.1.1.1.0 f.1.1.1.1.1.1.1.0
      by OrdTotalPrice wide s f = amount_column 37 (fact_value OrdTotalPrice) s.1.1.1.1.1.1.1.1.0 f.1.1.1.1.1.1.1.1.0
      by Discount wide s f = absurd (omega (arith, wide))
      by Revenue wide s f = amount_column 46 (fact_value Revenue) s.1.1.1.1.1.1.1.1.1.1.0 f.1.1.1.1.1.1.1.1.1.1.0
      by SupplyCost wide s f =
          amount_column 54 (fact_value SupplyCost) s.1.1.1.1.1.1.1.1.1.1.1.0 f.1.1.1.1.1.1.1.1.1.1.1.0
      by Tax wide s f = absurd (omega (arith, wide))

  pub texts_left : drop (12 + 63 * length rows) text ≡ flat_map (text_column rows) text_columns
  texts_left =
      sym (drop-drop (63 * length rows) 12 text) ∙ ap (drop (63 * length rows)) left
      ∙ drop_at (flat_map (number_column rows) number_columns) (flat_map (text_column rows) text_columns)
      (63 * length rows) numbers_long

-- ---- a column of texts

pub no_dictionary : (n : ℕ) (bytes : List ℕ) → n ≤ most_batch_rows → BeginsWithNone most_batch_rows bytes
    → BeginsWithNoColumn n bytes
no_dictionary n bytes few none = λ column rest many short is.
    none (firsts column) (codes_spelling (codes_of column) ++ rest)
    (AreProper-firsts most_batch_rows column short (omega (arith, many, few, length-firsts column)))
    (is ∙ append_assoc (texts_spelling (firsts column)) (codes_spelling (codes_of column)) rest)

pub codes_back : (list : List ℕ) → AllByRecursion (λ code. code < 2 ^ 16) list
    → map (from_le_bytes w16) (map (spelling 2) list) ≡ list
codes_back [] fit = refl
codes_back (code ∷ list) fit = let head = read_2 code fit.0 in let tail = codes_back list fit.1 in λ i. head i ∷ tail i

pub weaker : (count : ℕ) (list : List ℕ) → count ≤ 65536 → AllByRecursion (λ x. x < count) list
    → AllByRecursion (λ x. x < 2 ^ 16) list
weaker count [] le all = tt
weaker count (x ∷ list) le all = (omega (arith, all.0, le), weaker count list le all.1)

pub no_codes : (n count : ℕ) (bytes left : List ℕ) (texts : List (List ℕ)) → n ≤ most_batch_rows
    → ReadsTexts most_batch_rows bytes left texts → count ≡ length texts
    → (BeginsWithCodes left n count → ⊥) → BeginsWithNoColumn n bytes
no_codes n count bytes left texts few read count_is none = λ column rest many short is.
    let proper : AreProper most_batch_rows (firsts column) =
    AreProper-firsts most_batch_rows column short (omega (arith, many, few, length-firsts column)) in
    let own : List ℕ = codes_of column in
    let tail : List ℕ = codes_spelling own ++ rest in
    let one = texts_spelling-one most_batch_rows texts (firsts column) left tail (omega arith) read.proper proper
    (sym read.spelled ∙ is ∙ append_assoc (texts_spelling (firsts column)) (codes_spelling own) rest) in
    let laws = column_has_codes column in
    let own_many : length own ≡ n = length-map column _ ∙ many in
    let below =
    weaker (length (firsts column)) own (omega (arith, proper.most))
    (AreCodes-below (length (firsts column)) own laws.0) in
    let long : length (codes_spelling own) ≡ 2 * n = length-parts 2 (spelling 2) (length-spelling 2) own
    ∙ ap (λ (m : ℕ). 2 * m) own_many in
    let front : take (2 * n) left ≡ codes_spelling own = ap (take (2 * n)) one.1
    ∙ take_at (codes_spelling own) rest (2 * n) long in
    let cut : first_chunks 2 n (codes_spelling own) ≡ map (spelling 2) own =
    ap (first_chunks 2 n) (sym (append-nil (codes_spelling own)))
    ∙ chunks_of 2 (spelling 2) (length-spelling 2) n own [] own_many in
    let found : map (from_le_bytes w16) (first_chunks 2 n (take (2 * n) left)) ≡ own =
    ap (λ (l : List ℕ). map (from_le_bytes w16) (first_chunks 2 n l)) front ∙ ap (map (from_le_bytes w16)) cut
    ∙ codes_back own below in
    none (record {
      room = omega (arith, ap length one.1, length-append (codes_spelling own) rest, long);
      are = subst (λ (m : ℕ). AreCodes m (map (from_le_bytes w16) (first_chunks 2 n (take (2 * n) left))))
          (ap length (sym one.0) ∙ sym count_is)
          (subst (AreCodes (length (firsts column))) (sym found) laws.0);
    })

-- what is left after a part, by how long it is
pub left_at : (text front left : List ℕ) (from : ℕ) → from ≤ length text → drop from text ≡ front ++ left
    → left ≡ drop (length text - length left) text
left_at text front left from within is =
    let whole : length text - from ≡ length front + length left = sym (length-drop from text) ∙ ap length is
    ∙ length-append front left in
    let place : from + length front ≡ length text - length left = omega (arith, whole, within) in
    sym (ap (drop (length front)) is ∙ drop_at front left (length front) refl) ∙ drop-drop (length front) from text
    ∙ ap (λ (m : ℕ). drop m text) place

pub within_left : (text : List ℕ) (from : ℕ) (left front : List ℕ) → drop from text ≡ front ++ left
    → length left ≤ length text
within_left text from left front is = omega (arith, ap length is, length-append front left, length-drop from text)

-- the column that was read is the one that is there
column_one : (text : List ℕ) (n from : ℕ) (coded : Coded) (column : List (List ℕ)) (rest : List ℕ) → AreBytes text
    → HasColumn text n from coded → n ≤ most_batch_rows → length column ≡ n → AreShort column
    → drop from text ≡ column_spelling column ++ rest → drop (coded.at + 2 * n) text ≡ rest
column_one text n from coded column rest are read few many short is =
    let own = column_many text n from coded are read in
    (texts-one (texts_in text n coded) column (drop (coded.at + 2 * n) text) rest (own ∙ sym many)
    (omega (arith, own, few)) (column_short text n from coded are read) short
    (sym (column_holds text n from coded are read) ∙ is)).1

-- ---- all columns of texts

module _ (text : List ℕ) (n from : ℕ) (are : AreBytes text) (few : n ≤ most_batch_rows) where
  abbrev Rest : List LineOrder → List TextColumn → List ℕ
  Rest rows columns = flat_map (text_column rows) columns

  after : (rows : List LineOrder) (column : TextColumn) (columns : List TextColumn) (at : ℕ) (coded : Coded)
      → length rows ≡ n → IsBatch rows → HasColumn text n at coded
      → drop at text ≡ text_column rows column ++ flat_map (text_column rows) columns
      → drop (coded.at + 2 * n) text ≡ flat_map (text_column rows) columns
  after rows column columns at coded many batch read is =
      column_one text n at coded (map (text_of column) rows) (flat_map (text_column rows) columns) are read few
      (length-map rows (text_of column) ∙ many) (shorts rows batch column) is

  none : (rows : List LineOrder) (column : TextColumn) (columns : List TextColumn) (at : ℕ) → length rows ≡ n
      → IsBatch rows → BeginsWithNoColumn n (drop at text)
      → drop at text ≢ text_column rows column ++ flat_map (text_column rows) columns
  none rows column columns at many batch missing = λ is.
      missing (map (text_of column) rows) (flat_map (text_column rows) columns)
      (length-map rows (text_of column) ∙ many) (shorts rows batch column) is

  pub none_first : BeginsWithNoColumn n (drop from text) → SpellNoTexts n (drop from text)
  none_first missing = λ rows many batch is. none rows OrderPriority (ShipPriority ∷ CommitDate ∷ ShipMode ∷ []) from
      many batch missing is

  module _ (one : Coded) (first : HasColumn text n from one) where
    after_one : (rows : List LineOrder) → length rows ≡ n → IsBatch rows
        → drop from text ≡ flat_map (text_column rows) text_columns
        → drop (one.at + 2 * n) text ≡ flat_map (text_column rows) (ShipPriority ∷ CommitDate ∷ ShipMode ∷ [])
    after_one rows many batch is = after rows OrderPriority (ShipPriority ∷ CommitDate ∷ ShipMode ∷ []) from one many
        batch first is

    pub none_second : BeginsWithNoColumn n (drop (one.at + 2 * n) text) → SpellNoTexts n (drop from text)
    none_second missing = λ rows many batch is. none rows ShipPriority (CommitDate ∷ ShipMode ∷ []) (one.at + 2 * n)
        many batch missing (after_one rows many batch is)

    module _ (two : Coded) (second : HasColumn text n (one.at + 2 * n) two) where
      after_two : (rows : List LineOrder) → length rows ≡ n → IsBatch rows
          → drop from text ≡ flat_map (text_column rows) text_columns
          → drop (two.at + 2 * n) text ≡ flat_map (text_column rows) (CommitDate ∷ ShipMode ∷ [])
      after_two rows many batch is =
          after rows ShipPriority (CommitDate ∷ ShipMode ∷ []) (one.at + 2 * n) two many batch second
          (after_one rows many batch is)

      pub none_last : SpellNone (CommitDate ∷ ShipMode ∷ []) n (drop (two.at + 2 * n) text)
          → SpellNoTexts n (drop from text)
      none_last missing = λ rows many batch is. missing rows many batch (after_two rows many batch is)

  pub none_third : BeginsWithNoColumn n (drop from text) → SpellNone (CommitDate ∷ ShipMode ∷ []) n (drop from text)
  none_third missing = λ rows many batch is. none rows CommitDate (ShipMode ∷ []) from many batch missing is

  module _ (three : Coded) (third : HasColumn text n from three) where
    after_three : (rows : List LineOrder) → length rows ≡ n → IsBatch rows
        → drop from text ≡ flat_map (text_column rows) (CommitDate ∷ ShipMode ∷ [])
        → drop (three.at + 2 * n) text ≡ flat_map (text_column rows) (ShipMode ∷ [])
    after_three rows many batch is = after rows CommitDate (ShipMode ∷ []) from three many batch third is

    pub none_fourth : BeginsWithNoColumn n (drop (three.at + 2 * n) text)
        → SpellNone (CommitDate ∷ ShipMode ∷ []) n (drop from text)
    none_fourth missing = λ rows many batch is. none rows ShipMode [] (three.at + 2 * n) many batch missing
        (after_three rows many batch is)

    pub none_end : (four : Coded) → HasColumn text n (three.at + 2 * n) four → four.at + 2 * n ≢ length text
        → SpellNone (CommitDate ∷ ShipMode ∷ []) n (drop from text)
    none_end four fourth more = λ rows many batch is.
        let last : drop (four.at + 2 * n) text ≡ [] =
        after rows ShipMode [] (three.at + 2 * n) four many batch fourth (after_three rows many batch is) in
        more (omega (arith, ap length last, length-drop (four.at + 2 * n) text, fourth.room))

-- ---- bytes of no batch

abbrev AreNone : List ℕ → Type 0
AreNone text = (number : ℕ) (rows : List LineOrder) → IsSegment text number rows → ⊥

pub none_header : (text : List ℕ) → ((number rows : ℕ) → HasHeader text number rows → ⊥) → AreNone text
none_header text none = λ number rows is. none number (length rows) (has_header text number rows is)

pub none_numbers : (text : List ℕ) (number n : ℕ) → HasHeader text number n → (HasNumbers text n → ⊥) → AreNone text
none_numbers text number n header none = λ other rows is.
    none (subst (HasNumbers text) (header_same text other number (length rows) n (has_header text other rows is) header)
    (has_numbers text other rows is))

pub none_texts : (text : List ℕ) (number n : ℕ) → HasHeader text number n → SpellNoTexts n (drop (12 + 63 * n) text)
    → AreNone text
none_texts text number n header none = λ other rows is.
    let same : length rows ≡ n = header_same text other number (length rows) n (has_header text other rows is) header in
    none rows same is.batch (ap (λ (m : ℕ). drop (12 + 63 * m) text) (sym same) ∙ texts_left text other rows is)
