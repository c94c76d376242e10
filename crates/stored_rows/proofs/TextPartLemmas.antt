-- The part of a batch's bytes that is read for its ship modes. Our own.
use Rattle.std.proofs.Common.{◌≡◌, ◌∙◌, ap, sym, subst, refl, arith, ℕ, ◌+◌, ◌*◌, ◌^◌, ◌<◌, ◌≤◌}
use Rattle.std.proofs.Common.{Bool, true, Option, Some, None, List, [], ◌∷◌, ◌++◌, length, map, take, drop, codes}
use Rattle.std.proofs.Common.{◌↔◌, IsTrue, append_assoc, append-nil, drop-drop, length-append, length-drop}
use Rattle.std.specs.List.{flat_map}
use Rattle.std.specs.Option.{IsSomeAnd}
use Rattle.std.specs.Str.{bytes_eq}
use Rattle.std.proofs.lemmas.List.{drop_all, drop_at, take-append-drop, take_all, take_at}
use Rattle.cube_model.specs.Limits.{most_batch_rows}
use Rattle.cube_model.specs.ShipModes.{modes_in}
use Rattle.cube_model.specs.declared.rows.LineOrder.{LineOrder}
use Rattle.wire.specs.Parts.{Gives}
use Rattle.wire.specs.Spelling.{spelling}
use Rattle.wire.specs.Writing.{with_field}
use Rattle.wire.proofs.CallerLemmas.{length-spelling, with_field-done}
use Rattle.dictionary.specs.Columns.{codes_of, codes_spelling, column_spelling}
use Rattle.dictionary.specs.Dictionary.{firsts}
use Rattle.dictionary.specs.Spelling.{text_spelling, texts_spelling}
use Rattle.dictionary.proofs.CallerLemmas.{bytes_eq-refl, bytes_eq-same}
use Rattle.object_store.specs.Content.{Content, bytes_of}
use Rattle.column_segment.specs.declared.columns.FactColumn.{FactColumn}
use Rattle.column_segment.specs.Columns.{fact_value, number_columns, text_columns, text_of, width_of}
use Rattle.column_segment.specs.declared.columns.TextColumn.TheVariants.{ShipMode}
use Rattle.column_segment.specs.Projected.{HasColumns, HoldsNoneOf}
use Rattle.column_segment.specs.Reading.{HasHeader}
use Rattle.column_segment.specs.Segment.{IsSegment, segment_header, number_column, text_column}
use Rattle.column_segment.proofs.CallerLemmas.{header-one}
use Rattle.stored_rows.specs.Stored.{HoldsModes}
use Rattle.stored_rows.specs.Passing.{LeadsToLast}
use Rattle.stored_rows.specs.TextColumns.{SpellColumns, SpellLast}

-- ---- the bytes of a batch

length-header : (number rows : ℕ) → length (segment_header number rows) ≡ 12
length-header number rows =
    omega (
      arith,
      length-append (codes "SEG1") (spelling 4 number ++ spelling 4 rows),
      length-append (spelling 4 number) (spelling 4 rows),
      length-spelling 4 number,
      length-spelling 4 rows,
    )

length-column : (column : FactColumn) (rows : List LineOrder)
    → length (number_column rows column) ≡ width_of column * length rows
length-column column [] = omega arith
length-column column (row ∷ rows) =
    omega (
      arith,
      length-append (spelling (width_of column) (fact_value column row)) (number_column rows column),
      length-spelling (width_of column) (fact_value column row),
      length-column column rows,
    )

widths : List FactColumn → ℕ
widths [] = 0
widths (column ∷ columns) = width_of column + widths columns

length-columns : (columns : List FactColumn) (rows : List LineOrder)
    → length (flat_map (number_column rows) columns) ≡ widths columns * length rows
unfolding widths
length-columns [] rows = omega arith
length-columns (column ∷ columns) rows =
    omega (
      arith,
      length-append (number_column rows column) (flat_map (number_column rows) columns),
      length-column column rows,
      length-columns columns rows,
    )

numbers_long : (rows : List LineOrder) → length (flat_map (number_column rows) number_columns) ≡ 63 * length rows
unfolding widths
numbers_long rows = length-columns number_columns rows

module _ (text : List ℕ) (number : ℕ) (rows : List LineOrder) (is : IsSegment text number rows) where
  after_header : drop 12 text ≡ flat_map (number_column rows) number_columns ++ flat_map (text_column rows) text_columns
  after_header = ap (drop 12) is.spelled
      ∙ drop_at (segment_header number (length rows)) _ 12 (length-header number (length rows))

  -- a batch has a header, and room for its columns of numbers
  pub columns_there : HasColumns text number (length rows)
  columns_there = record {
    header = record {
      spelled = is.spelled ∙ ap (λ (l : List ℕ). segment_header number (length rows) ++ l) (sym after_header);
      fits = is.number_fits;
      few = is.batch.few;
    };
    room = omega (
      arith,
      ap length is.spelled,
      length-append (segment_header number (length rows))
          (flat_map (number_column rows) number_columns ++ flat_map (text_column rows) text_columns),
      length-append (flat_map (number_column rows) number_columns) (flat_map (text_column rows) text_columns),
      length-header number (length rows),
      numbers_long rows,
    );
  }

  -- after them are the columns of texts
  pub texts_there : SpellColumns text_columns (length rows) (drop (12 + 63 * length rows) text) rows
  texts_there = record {
    many = refl;
    batch = is.batch;
    spelled = sym (drop-drop (63 * length rows) 12 text) ∙ ap (drop (63 * length rows)) after_header
        ∙ drop_at (flat_map (number_column rows) number_columns) (flat_map (text_column rows) text_columns)
        (63 * length rows) (numbers_long rows);
  }

  -- it has one header
  pub header_same : (other count : ℕ) → HasHeader text other count → (number ≡ other) × (length rows ≡ count)
  header_same other count has =
      let one = header-one number (length rows) other count (drop 12 text) (drop 12 text) is.number_fits
      (omega (arith, is.batch.few)) has.fits (omega (arith, has.few))
      (sym columns_there.header.spelled ∙ has.spelled) in
      (one.0, one.1)

-- ---- a header

-- one that was written
pub written : (zeros first second third : List ℕ) (number rows : ℕ) → length zeros ≡ 12
    → first ≡ with_field 0 (codes "SEG1") zeros → second ≡ with_field 4 (spelling 4 number) first
    → third ≡ with_field 8 (spelling 4 rows) second → third ≡ segment_header number rows
written zeros first second third number rows long is then after =
    let name : List ℕ = codes "SEG1" in
    let f2 : List ℕ = spelling 4 number in
    let f3 : List ℕ = spelling 4 rows in
    let rest : List ℕ = drop (length f2) (drop 4 zeros) in
    let two : second ≡ (name ++ f2) ++ rest =
    then ∙ ap (with_field 4 f2) is ∙ with_field-done name f2 (drop 4 zeros) ∙ sym (append_assoc name f2 rest) in
    let eight : 8 ≡ length (name ++ f2) = omega (arith, length-append name f2, length-spelling 4 number) in
    let three : third ≡ (name ++ f2) ++ (f3 ++ drop (length f3) rest) =
    after ∙ ap (with_field 8 f3) two ∙ ap (λ (n : ℕ). with_field n f3 ((name ++ f2) ++ rest)) eight
    ∙ with_field-done (name ++ f2) f3 rest in
    let none : drop (length f3) rest ≡ [] =
    drop_all (length f3) rest (omega (
      arith,
      long,
      length-drop (length f2) (drop 4 zeros),
      length-drop 4 zeros,
      length-spelling 4 number,
      length-spelling 4 rows,
    )) in
    three ∙ ap (λ (l : List ℕ). (name ++ f2) ++ (f3 ++ l)) none ∙ ap (λ (l : List ℕ). (name ++ f2) ++ l) (append-nil f3)
    ∙ append_assoc name f2 f3

-- one that is compared with the first bytes of a text
module _ (text part own : List ℕ) (number rows : ℕ) (long : length part ≡ 12)
    (gives : part ≡ take (length part) (drop 0 text)) (is : own ≡ segment_header number rows) (same : Bool)
    (compares : same ≡ bytes_eq part own) where
  front : part ≡ take 12 text
  front = gives ∙ ap (λ (n : ℕ). take n text) long

  pub compared : number < 2 ^ 32 → rows ≤ most_batch_rows → (same ≡ true → HasHeader text number rows)
      × (HasHeader text number rows → same ≡ true)
  compared fits few = (
    λ equal. record {
      spelled = sym (take-append-drop 12 text)
          ∙ ap (λ (l : List ℕ). l ++ drop 12 text) (sym front ∙ bytes_eq-same part own (sym compares ∙ equal) ∙ is);
      fits = fits;
      few = few;
    },
    λ has.
        let alike : part ≡ own =
        front ∙ ap (take 12) has.spelled
        ∙ take_at (segment_header number rows) (drop 12 text) 12 (length-header number rows) ∙ sym is in
        compares ∙ ap (λ (l : List ℕ). bytes_eq l own) alike ∙ bytes_eq-refl own,
  )

-- ---- what was read

-- a header, and room for the columns of numbers, or no such room
pub columns_same : (text : List ℕ) (number rows count : ℕ) (answer : Bool) → 12 + 63 * rows + count ≡ length text
    → IsTrue answer ↔ HasHeader text number rows → IsTrue answer ↔ HasColumns text number rows
columns_same text number rows count answer total same = (
  λ is. record { header = same.0 is; room = omega (arith, total) },
  λ has. same.1 has.header,
)

-- the rest of a text from a place on
pub rest_read : (o : Option (List ℕ)) (at count : ℕ) (part items : List ℕ)
    → IsSomeAnd o (λ text. at + count ≡ length text) → Gives o at part → length part ≡ count → items ≡ part
    → IsSomeAnd o (λ text. items ≡ drop at text)
rest_read None at count part items total gives long is = total
rest_read (Some text) at count part items total gives long is =
    is ∙ gives
    ∙ take_all (length part) (drop at text) (omega (arith, length-drop at text, total, long))

-- it is the last column of texts, where a place leads there
pub last_found : (o : Option (List ℕ)) (number rows at : ℕ) (items : List ℕ)
    → ((text : List ℕ) → o ≡ Some text → HasColumns text number rows)
    → ((text : List ℕ) → o ≡ Some text → LeadsToLast rows (drop (12 + 63 * rows) text) (drop at text))
    → IsSomeAnd o (λ text. items ≡ drop at text)
    → IsSomeAnd o (λ text. HasColumns text number rows × LeadsToLast rows (drop (12 + 63 * rows) text) items)
last_found None number rows at items has leads read = absurd read
last_found (Some text) number rows at items has leads read = (
  has text refl,
  λ others are. subst (λ (l : List ℕ). SpellLast rows l others) (sym read) (leads text refl others are),
)

-- a last column of texts has bytes
pub no_last : (rows at : ℕ) (text : List ℕ) (others : List LineOrder) → length text < at
    → SpellLast rows (drop at text) others → ⊥
no_last rows at text others past are =
    let modes : List (List ℕ) = map (text_of ShipMode) others in
    let texts : List (List ℕ) = firsts modes in
    absurd (omega (
      arith,
      past,
      length-drop at text,
      ap length are.spelled,
      length-append (column_spelling modes) [],
      length-append (texts_spelling texts) (codes_spelling (codes_of modes)),
      length-append (spelling 4 (length texts)) (flat_map text_spelling texts),
      length-spelling 4 (length texts),
    ))

-- the columns of texts of a batch of so many rows
pub texts_of : (text : List ℕ) (number count : ℕ) (rows : List LineOrder) → IsSegment text number rows
    → length rows ≡ count → SpellColumns text_columns count (drop (12 + 63 * count) text) rows
texts_of text number count rows is many =
    subst (λ (n : ℕ). SpellColumns text_columns n (drop (12 + 63 * n) text) rows) many (texts_there text number rows is)

module _ (c : Content) (id number rows : ℕ) (items : List ℕ)
    (found : IsSomeAnd (bytes_of c id) (λ text. HasColumns text number rows
    × LeadsToLast rows (drop (12 + 63 * rows) text) items)) where
  -- the last column of texts that was read is that of the batch that is there
  spelled : (text : List ℕ) → HasColumns text number rows × LeadsToLast rows (drop (12 + 63 * rows) text) items
      → (other : ℕ) (others : List LineOrder) → IsSegment text other others
      → (other ≡ number) × SpellLast rows items others
  spelled text has other others is =
      let same = header_same text other others is number rows has.0.header in
      (same.0, has.1 others (texts_of text other rows others is same.1))

  pub holds_modes : (modes : List (List ℕ))
      → ((others : List LineOrder) → SpellLast rows items others → modes ≡ modes_in others)
      → HoldsModes c id number modes
  holds_modes modes one = by (bytes_of c id) refl found
    where
      by : (o : Option (List ℕ)) → bytes_of c id ≡ o → IsSomeAnd o (λ text. HasColumns text number rows
          × LeadsToLast rows (drop (12 + 63 * rows) text) items) → HoldsModes c id number modes
      by None at none = absurd none
      by (Some text) at has = record {
        bytes = text;
        there = at;
        own = λ other others is. let own = spelled text has other others is in (own.0, one others own.1);
      }

  pub holds_none : ((others : List LineOrder) → SpellLast rows items others → ⊥)
      → HoldsNoneOf (bytes_of c id) number rows
  holds_none none = λ bytes others at many is.
      none others (spelled bytes
      (subst (λ (o : Option (List ℕ)). IsSomeAnd o (λ text. HasColumns text number rows
      × LeadsToLast rows (drop (12 + 63 * rows) text) items)) at found) number others is).1
