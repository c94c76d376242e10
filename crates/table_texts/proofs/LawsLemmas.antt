-- Lemmas of `laws`, by subject.
use Rattle.std.proofs.Common.{◌≡◌, ◌∙◌, sym, ap, refl, ℕ, ◌-◌, Bool, true, false, cond, List, [], ◌∷◌, ◌++◌, length}
use Rattle.std.proofs.Common.{take, arith, ◌+◌, ◌*◌, ◌/◌, ◌%◌, ◌<◌, ◌≤◌, ◌^◌, length-append, map, Some, None, Ok, Err}
use Rattle.std.proofs.Common.{inl, append_assoc}
use Rattle.std.specs.Prelude.{suc, nat_lt, ◌&&◌, ◌==◌, slice_index, nat_le, not}
use Rattle.std.specs.List.{join_with_byte, list_all, AllByRecursion}
use Rattle.std.proofs.lemmas.Bool.Decides.{nat_tests}
use Rattle.batch_loader.specs.Fields.{without_cr, fields_of}
use Rattle.table_texts.specs.Spellable.{ends_in_cr, is_field_text, is_plain_byte, is_spellable_customer}
use Rattle.table_texts.specs.Spellable.{is_spellable_supplier, is_spellable_part, is_spellable_date, has_field_texts}
use Rattle.table_texts.specs.Spellable.{has_figures_in_range, has_keys_in_range, is_spellable}
use Rattle.std.specs.Fmt.{decimal}
use Rattle.std.proofs.lemmas.Fmt.{decimal_by_steps, length-decimal-le}
use Rattle.std.proofs.lemmas.List.Folds.{list_all-append}
use Rattle.std.proofs.lemmas.List.Sums.{fold-append}
use Rattle.cube_model.specs.Limits.{longest_text, longest_line}
use Rattle.batch_loader.specs.Numbers.{is_digit, digits_value, spells_number}
use Rattle.std.proofs.lemmas.List.Concat.{flat_map-cons}
use Rattle.cube_model.specs.declared.fault.Fault.TheVariants.{BadNumber, FieldTooLong}
use Rattle.cube_model.specs.declared.fault.Place.TheVariants.{Line}
use Rattle.cube_model.specs.Causes.{first_cause, cause_if}
use Rattle.batch_loader.specs.declared.columns.Column.{Column}
use Rattle.batch_loader.specs.declared.columns.Column.TheVariants.{Number, Text, Skipped}
use Rattle.batch_loader.specs.Columns.{field_fault, fields_fault, row_of, row_of_fields}
use Rattle.batch_loader.specs.Grammar.{HasNoBar, HasNoLf, ended, SpellsFields, SpellsLines, FieldsAreSpelled}
use Rattle.batch_loader.specs.Grammar.{LinesAreSpelled}
use Rattle.batch_loader.specs.Lines.{lines_of}
use Rattle.batch_loader.specs.Outcomes.{unless}
use Rattle.batch_loader.specs.Rows.{row_before, rows_of, next_number}
use Rattle.ssb_reports.specs.Report.{row_text}
use Rattle.table_texts.specs.Texts.{table_text, customer_fields, supplier_fields, part_fields, date_fields, fact_fields}
use Rattle.cube_model.specs.declared.rows.CustomerRow.{CustomerRow}
use Rattle.cube_model.specs.declared.rows.SupplierRow.{SupplierRow}
use Rattle.cube_model.specs.declared.rows.PartRow.{PartRow}
use Rattle.cube_model.specs.declared.rows.DateRow.{DateRow}
use Rattle.batch_loader.specs.Tables.{customer_columns, customer_of_fields, supplier_columns, supplier_of_fields}
use Rattle.batch_loader.specs.Tables.{part_columns, part_of_fields, date_columns, date_of_fields, lineorder_columns}
use Rattle.batch_loader.specs.Tables.{lineorder_of_fields}
use Rattle.table_texts.specs.Lawful.{DimensionsReadBack, FactsReadBack}
use Rattle.cube_model.specs.declared.rows.LineOrder.{LineOrder}

-- ==== Lines that do not end with a carriage return.

-- the same by recursion
abbrev last_is_cr : List ℕ → Bool
last_is_cr [] = false
last_is_cr (byte ∷ []) = byte == 13
last_is_cr (byte ∷ next ∷ text) = last_is_cr (next ∷ text)

cr-is : (text : List ℕ) → ends_in_cr text ≡ last_is_cr text
cr-is [] = refl
cr-is (byte ∷ []) = refl
cr-is (byte ∷ next ∷ text) =
    ap (λ b. b && (slice_index (byte ∷ next ∷ text) (length (byte ∷ next ∷ text) - 1) == 13)) (some (suc (length text)))
    ∙ ap (λ k. slice_index (byte ∷ next ∷ text) k == 13) (before (length text))
    ∙ ap (λ b. b && (slice_index (next ∷ text) (length (next ∷ text) - 1) == 13)) (sym (some (length text)))
    ∙ cr-is (next ∷ text)
  where
    some : (n : ℕ) → nat_lt 0 (suc n) ≡ true
    some n = grind (arith, nat_tests)

    before : (n : ℕ) → suc (suc n) - 1 ≡ suc (suc n - 1)
    before n = omega arith

after-bar : (rest : List ℕ) → last_is_cr rest ≡ false → last_is_cr (124 ∷ rest) ≡ false
after-bar [] none = refl
after-bar (byte ∷ rest) none = none

after-front : (front rest : List ℕ) → last_is_cr rest ≡ false → last_is_cr (front ++ 124 ∷ rest) ≡ false
after-front [] rest none = after-bar rest none
after-front (byte ∷ []) rest none = after-bar rest none
after-front (byte ∷ next ∷ front) rest none = after-front (next ∷ front) rest none

joined-no_cr : (fields : List (List ℕ)) (last : List ℕ) → last_is_cr last ≡ false
    → last_is_cr (join_with_byte 124 (fields ++ last ∷ [])) ≡ false
joined-no_cr [] last none = none
joined-no_cr (field ∷ []) last none = after-front field last none
joined-no_cr (field ∷ next ∷ fields) last none =
    after-front field (join_with_byte 124 (next ∷ (fields ++ last ∷ []))) (joined-no_cr (next ∷ fields) last none)

-- fields whose last one does not end with a carriage return are whole as a line
pub no_cr-joined : (fields : List (List ℕ)) (last : List ℕ) → ends_in_cr last ≡ false
    → without_cr (join_with_byte 124 (fields ++ last ∷ [])) ≡ join_with_byte 124 (fields ++ last ∷ [])
no_cr-joined fields last none =
    let line = join_with_byte 124 (fields ++ last ∷ []) in
    ap (λ b. cond b (take (length line - 1) line) line)
    (cr-is line ∙ joined-no_cr fields last (sym (cr-is last) ∙ none))

-- ==== The decimal of a number spells it.

-- digits of a number: one or more, of its value
record Spells (n : ℕ) (digits : List ℕ) : Type 0 where
  some : 0 < length digits
  digits_are : list_all is_digit digits ≡ true
  value : digits_value digits ≡ n

digit-is : (n : ℕ) → n < 10 → is_digit (48 + n) ≡ true
digit-is n small = grind (arith, nat_tests)

both : (a b : Bool) → a ≡ true → b ≡ true → (a && b) ≡ true
both a b p q = rw (p, q) refl

one : (n : ℕ) → n < 10 → Spells n ((48 + n) ∷ [])
one n small = record {
  some = omega arith;
  digits_are = both (is_digit (48 + n)) true (digit-is n small) refl;
  value = omega arith;
}

more : (n : ℕ) (ds : List ℕ) → 10 ≤ n → Spells (n / 10) ds → Spells n (ds ++ ((48 + n % 10) ∷ []))
more n ds large so_far = record {
  some = omega (arith, length-append ds ((48 + n % 10) ∷ []));
  digits_are =
      list_all-append is_digit ds ((48 + n % 10) ∷ [])
      ∙ both (list_all is_digit ds) (is_digit (48 + n % 10) && true) so_far.digits_are
      (both (is_digit (48 + n % 10)) true (digit-is (n % 10) (omega arith)) refl);
  value =
      fold-append (λ sum byte. sum * 10 + (byte - 48)) 0 ds ((48 + n % 10) ∷ [])
      ∙ ap (λ sum. sum * 10 + ((48 + n % 10) - 48)) so_far.value ∙ omega arith;
}

decimal-spells : (n : ℕ) → n < 2 ^ 64 → Spells n (decimal n)
decimal-spells = decimal_by_steps Spells one more

-- a number up to a limit of 64 bits is read from its decimal
pub value-decimal : (n : ℕ) → n < 2 ^ 64 → digits_value (decimal n) ≡ n
value-decimal n small = (decimal-spells n small).value

pub spells-decimal : (limit n : ℕ) → n ≤ limit → n < 2 ^ 64 → spells_number limit (decimal n) ≡ true
spells-decimal limit n within small =
    let spells = decimal-spells n small in
    both (nat_lt 0 (length (decimal n))) (list_all is_digit (decimal n) && nat_le (digits_value (decimal n)) limit)
    (some (length (decimal n)) spells.some)
    (both (list_all is_digit (decimal n)) (nat_le (digits_value (decimal n)) limit) spells.digits_are
    (ap (λ value. nat_le value limit) spells.value ∙ least n limit within))
  where
    some : (count : ℕ) → 0 < count → nat_lt 0 count ≡ true
    some count h = grind (arith, nat_tests)

    least : (n limit : ℕ) → n ≤ limit → nat_le n limit ≡ true
    least n limit h = grind (arith, nat_tests)

-- the decimal of a number is the text of a field
digit-plain : (n : ℕ) → n < 10 → (not ((48 + n) == 124) && not ((48 + n) == 10)) ≡ true
digit-plain n small = rw (apart 124 n (omega arith), feed n small) refl
  where
    apart : (c n : ℕ) → 48 + n < c → ((48 + n) == c) ≡ false
    apart c n h = grind (arith, nat_tests)

    feed : (n : ℕ) → n < 10 → ((48 + n) == 10) ≡ false
    feed n h = grind (arith, nat_tests)

decimal-plain : (n : ℕ) → n < 2 ^ 64 → list_all is_plain_byte (decimal n) ≡ true
decimal-plain =
    decimal_by_steps (λ n ds. list_all is_plain_byte ds ≡ true)
    (λ n small. both (is_plain_byte (48 + n)) true (digit-plain n small) refl)
    (λ n ds large so_far. list_all-append is_plain_byte ds ((48 + n % 10) ∷ [])
    ∙ both (list_all is_plain_byte ds) (is_plain_byte (48 + n % 10) && true) so_far
    (both (is_plain_byte (48 + n % 10)) true (digit-plain (n % 10) (omega arith)) refl))

pub field-decimal : (n : ℕ) → n < 2 ^ 64 → is_field_text (decimal n) ≡ true
field-decimal n small =
    both (nat_le (length (decimal n)) longest_text) (list_all is_plain_byte (decimal n))
    (short (length (decimal n)) (length-decimal-le 20 n (omega arith) (omega arith) small)) (decimal-plain n small)
  where
    short : (count : ℕ) → count ≤ 20 → nat_le count 255 ≡ true
    short count h = grind (arith, nat_tests)

-- ==== A table that was written is read back, whatever its columns are.

pub and-true : (a b : Bool) → (a && b) ≡ true → (a ≡ true) × (b ≡ true)
and-true true b is = (refl, is)
and-true false b is = absurd (cc)

-- ---- the text of a field
not-true : (a : Bool) → not a ≡ true → a ≡ false
not-true true is = absurd (cc)
not-true false is = refl

plain-no_bar : (text : List ℕ) → list_all is_plain_byte text ≡ true → HasNoBar text
plain-no_bar [] all = tt
plain-no_bar (byte ∷ text) all =
    let here = and-true (is_plain_byte byte) (list_all is_plain_byte text) all in
    (not-true (byte == 124) (and-true (not (byte == 124)) (not (byte == 10)) here.0).0, plain-no_bar text here.1)

plain-no_lf : (text : List ℕ) → list_all is_plain_byte text ≡ true → HasNoLf text
plain-no_lf [] all = tt
plain-no_lf (byte ∷ text) all =
    let here = and-true (is_plain_byte byte) (list_all is_plain_byte text) all in
    (not-true (byte == 10) (and-true (not (byte == 124)) (not (byte == 10)) here.0).1, plain-no_lf text here.1)

abbrev pub IsFieldText : List ℕ → Type 0
IsFieldText text = is_field_text text ≡ true

plain_of : (text : List ℕ) → IsFieldText text → list_all is_plain_byte text ≡ true
plain_of text is = (and-true (nat_le (length text) longest_text) (list_all is_plain_byte text) is).1

pub short_of : (text : List ℕ) → IsFieldText text → length text ≤ 255
short_of text is =
    within (length text) (and-true (nat_le (length text) longest_text) (list_all is_plain_byte text) is).0
  where
    within : (count : ℕ) → nat_le count 255 ≡ true → count ≤ 255
    within count h = grind (arith, nat_tests)

-- ---- fields that are joined
fields-no_bar : (fields : List (List ℕ)) → AllByRecursion IsFieldText fields → AllByRecursion HasNoBar fields
fields-no_bar [] are = tt
fields-no_bar (field ∷ fields) are = (plain-no_bar field (plain_of field are.0), fields-no_bar fields are.1)

no_lf-append : (front back : List ℕ) → HasNoLf front → HasNoLf back → HasNoLf (front ++ back)
no_lf-append [] back first second = second
no_lf-append (byte ∷ front) back first second = (first.0, no_lf-append front back first.1 second)

joined-no_lf : (fields : List (List ℕ)) → AllByRecursion IsFieldText fields → HasNoLf (join_with_byte 124 fields)
joined-no_lf [] are = tt
joined-no_lf (field ∷ []) are = plain-no_lf field (plain_of field are.0)
joined-no_lf (field ∷ next ∷ fields) are =
    no_lf-append field (124 ∷ join_with_byte 124 (next ∷ fields)) (plain-no_lf field (plain_of field are.0))
    (refl, joined-no_lf (next ∷ fields) are.1)

joined-short : (fields : List (List ℕ)) → AllByRecursion IsFieldText fields
    → length (join_with_byte 124 fields) ≤ 256 * length fields
joined-short [] are = omega arith
joined-short (field ∷ []) are = omega (arith, short_of field are.0)
joined-short (field ∷ next ∷ fields) are =
    omega (
      arith,
      short_of field are.0,
      length-append field (124 ∷ join_with_byte 124 (next ∷ fields)),
      joined-short (next ∷ fields) are.1,
    )

-- ---- fields that fit their columns
abbrev FitsIn : Column → List ℕ → Type 0
FitsIn (Number limit) text = spells_number limit text ≡ true
FitsIn Text text = length text ≤ 255
FitsIn Skipped text = Unit {0}

abbrev pub FitEach : List Column → List (List ℕ) → Type 0
FitEach [] fields = Unit {0}
FitEach (column ∷ columns) [] = Unit {0}
FitEach (column ∷ columns) (field ∷ fields) = FitsIn column field × FitEach columns fields

fits-none : (line k : ℕ) (column : Column) (text : List ℕ) → FitsIn column text → field_fault line k column text ≡ None
fits-none line k (Number limit) text fits = ap (λ spells. cause_if (not spells) (BadNumber line k)) fits
fits-none line k Text text fits = ap (λ long. cause_if long (FieldTooLong (Line line) k)) (within (length text) fits)
  where
    within : (count : ℕ) → count ≤ 255 → nat_lt 255 count ≡ false
    within count h = grind (arith, nat_tests)
fits-none line k Skipped text fits = refl

each-none : (line k : ℕ) (columns : List Column) (fields : List (List ℕ)) → FitEach columns fields
    → fields_fault line k columns fields ≡ None
each-none line k [] fields fit = refl
each-none line k (column ∷ columns) [] fit = refl
each-none line k (column ∷ columns) (field ∷ fields) fit =
    ap (λ cause. first_cause (cause ∷ fields_fault line (k + 1) columns fields ∷ []))
    (fits-none line k column field fit.0)
    ∙ ap (λ cause. first_cause (None ∷ cause ∷ [])) (each-none line (k + 1) columns fields fit.1)

-- the fields of a row are those of a line that the row is read from
pub record IsSpelled {Row : Type 0} (columns : List Column) (of_fields : List (List ℕ) → Row) (row : Row)
    (fields : List (List ℕ)) : Type 0 where
  pub count : length fields ≡ length columns
  pub some : 0 < length columns
  pub few : length columns ≤ 32
  pub texts : AllByRecursion IsFieldText fields
  pub no_cr : without_cr (join_with_byte 124 fields) ≡ join_with_byte 124 fields
  pub fit : FitEach columns fields
  pub back : of_fields fields ≡ row

module _ {Row : Type 0} (columns : List Column) (of_fields : List (List ℕ) → Row) (fields_law : FieldsAreSpelled) where
  fields-back : (row : Row) (fields : List (List ℕ)) → IsSpelled columns of_fields row fields
      → fields_of (length columns) (join_with_byte 124 fields) ≡ Some fields
  fields-back row fields is =
      let spells : SpellsFields (length columns) (join_with_byte 124 fields) fields =
      record { count = is.count; no_bar = fields-no_bar fields is.texts; joined = inl is.no_cr } in
      (fields_law (length columns) (join_with_byte 124 fields) fields is.some).1 spells

  row-back : (number : ℕ) (row : Row) (fields : List (List ℕ)) → IsSpelled columns of_fields row fields
      → row_of columns of_fields number (join_with_byte 124 fields) ≡ Ok row
  row-back number row fields is =
      let line = join_with_byte 124 fields in
      let within : nat_lt longest_line (length line) ≡ false =
      short (length line) (omega (arith, joined-short fields is.texts, is.count, is.few)) in
      ap (λ long. cond long (Err (FieldTooLong (Line number) 0))
      (row_of_fields columns of_fields number (fields_of (length columns) line))) within
      ∙ ap (row_of_fields columns of_fields number) (fields-back row fields is)
      ∙ ap (λ cause. unless cause (Ok (of_fields fields))) (each-none number 1 columns fields is.fit)
      ∙ ap Ok is.back
    where
      short : (count : ℕ) → count ≤ 8192 → nat_lt 8192 count ≡ false
      short count h = grind (arith, nat_tests)

  module _ (fields : Row → List (List ℕ)) (spellable : Row → Bool) (spelled : (row : Row) → spellable row ≡ true
      → IsSpelled columns of_fields row (fields row)) where
    abbrev line : Row → List ℕ
    line row = join_with_byte 124 (fields row)

    text-ended : (rows : List Row) → table_text fields rows ≡ ended (map line rows)
    text-ended [] = refl
    text-ended (row ∷ rows) =
        flat_map-cons (λ one. row_text (fields one)) row rows
        ∙ append_assoc (line row) (10 ∷ []) (table_text fields rows)
        ∙ ap (λ rest. line row ++ 10 ∷ rest) (text-ended rows)

    lines-no_lf : (rows : List Row) → list_all spellable rows ≡ true → AllByRecursion HasNoLf (map line rows)
    lines-no_lf [] all = tt
    lines-no_lf (row ∷ rows) all =
        let here = and-true (spellable row) (list_all spellable rows) all in
        (joined-no_lf (fields row) (spelled row here.0).texts, lines-no_lf rows here.1)

    each-back : (number : ℕ) (rows : List Row) → list_all spellable rows ≡ true
        → rows_of (row_of columns of_fields) number (map line rows) ≡ Ok rows
    each-back number [] all = refl
    each-back number (row ∷ rows) all =
        let here = and-true (spellable row) (list_all spellable rows) all in
        ap (λ first. row_before first (rows_of (row_of columns of_fields) (next_number number) (map line rows)))
        (row-back number row (fields row) (spelled row here.0))
        ∙ ap (row_before (Ok row)) (each-back (next_number number) rows here.1)

    -- the lines of a table's text are those of its rows
    pub table-back : LinesAreSpelled → (number : ℕ) (rows : List Row) → list_all spellable rows ≡ true
        → rows_of (row_of columns of_fields) number (lines_of (table_text fields rows)) ≡ Ok rows
    table-back lines_law number rows all =
        let spells : SpellsLines (table_text fields rows) (map line rows) =
        record { no_lf = lines-no_lf rows all; spelled = inl (text-ended rows) } in
        ap (rows_of (row_of columns of_fields) number) ((lines_law (table_text fields rows) (map line rows)).1 spells)
        ∙ each-back number rows all

-- ==== Dimension rows that lines can spell are read back.

module _ (n : ℕ) (in_range : nat_lt n (2 ^ 32) ≡ true) where
  below : n < 2 ^ 32
  below = grind (arith, nat_tests)

  key-text : IsFieldText (decimal n)
  key-text = field-decimal n (omega (arith, below))

  key-fits : spells_number 4294967295 (decimal n) ≡ true
  key-fits = spells-decimal 4294967295 n (omega (arith, below)) (omega (arith, below))

  key-value : digits_value (decimal n) ≡ n
  key-value = value-decimal n (omega (arith, below))

customer-spelled : (row : CustomerRow) → is_spellable_customer row ≡ true
    → IsSpelled customer_columns customer_of_fields row (customer_fields row)
customer-spelled row is =
    let a = and-true _ _ is in
    let b = and-true _ _ a.1 in
    let d = and-true _ _ b.1 in
    let e = and-true _ _ d.1 in
    record {
      count = refl;
      some = omega arith;
      few = omega arith;
      texts = (key-text row.key a.0, (refl, (refl, (b.0, (d.0, (e.0, (refl, (refl, tt))))))));
      no_cr = no_cr-joined (decimal row.key ∷ [] ∷ [] ∷ row.city ∷ row.nation ∷ row.region ∷ [] ∷ []) [] refl;
      fit = (
        key-fits row.key a.0,
        (tt, (tt, (short_of row.city b.0, (short_of row.nation d.0, (short_of row.region e.0, (tt, (tt, tt))))))),
      );
      back = λ i. record { key = key-value row.key a.0 i; city = row.city; nation = row.nation; region = row.region };
    }

supplier-spelled : (row : SupplierRow) → is_spellable_supplier row ≡ true
    → IsSpelled supplier_columns supplier_of_fields row (supplier_fields row)
supplier-spelled row is =
    let a = and-true _ _ is in
    let b = and-true _ _ a.1 in
    let d = and-true _ _ b.1 in
    let e = and-true _ _ d.1 in
    record {
      count = refl;
      some = omega arith;
      few = omega arith;
      texts = (key-text row.key a.0, (refl, (refl, (b.0, (d.0, (e.0, (refl, tt)))))));
      no_cr = no_cr-joined (decimal row.key ∷ [] ∷ [] ∷ row.city ∷ row.nation ∷ row.region ∷ []) [] refl;
      fit = (
        key-fits row.key a.0,
        (tt, (tt, (short_of row.city b.0, (short_of row.nation d.0, (short_of row.region e.0, (tt, tt)))))),
      );
      back = λ i. record { key = key-value row.key a.0 i; city = row.city; nation = row.nation; region = row.region };
    }

part-spelled : (row : PartRow) → is_spellable_part row ≡ true
    → IsSpelled part_columns part_of_fields row (part_fields row)
part-spelled row is =
    let a = and-true _ _ is in
    let b = and-true _ _ a.1 in
    let d = and-true _ _ b.1 in
    let e = and-true _ _ d.1 in
    record {
      count = refl;
      some = omega arith;
      few = omega arith;
      texts = (key-text row.key a.0, (refl, (e.0, (d.0, (b.0, (refl, (refl, (refl, (refl, tt)))))))));
      no_cr = no_cr-joined (decimal row.key ∷ [] ∷ row.mfgr ∷ row.category ∷ row.brand1 ∷ [] ∷ [] ∷ [] ∷ []) [] refl;
      fit = (
        key-fits row.key a.0,
        (
          tt,
          (
            short_of row.mfgr e.0,
            (short_of row.category d.0, (short_of row.brand1 b.0, (tt, (tt, (tt, (tt, tt)))))),
          ),
        ),
      );
      back = λ i. record {
        key = key-value row.key a.0 i;
        brand1 = row.brand1;
        category = row.category;
        mfgr = row.mfgr;
      };
    }

date-spelled : (row : DateRow) → is_spellable_date row ≡ true
    → IsSpelled date_columns date_of_fields row (date_fields row)
date-spelled row is =
    let a = and-true _ _ is in
    let b = and-true _ _ a.1 in
    let d = and-true _ _ b.1 in
    let e = and-true _ _ d.1 in
    let f = and-true _ _ e.1 in
    record {
      count = refl;
      some = omega arith;
      few = omega arith;
      texts = (
        key-text row.key a.0,
        (
          refl,
          (
            refl,
            (
              refl,
              (
                d.0,
                (
                  b.0,
                  (
                    e.0,
                    (
                      refl,
                      (
                        refl,
                        (
                          refl,
                          (
                            refl,
                            (f.0, (refl, (refl, (refl, (refl, (refl, tt)))))),
                          ),
                        ),
                      ),
                    ),
                  ),
                ),
              ),
            ),
          ),
        ),
      );
      no_cr = no_cr-joined (decimal row.key ∷ [] ∷ [] ∷ [] ∷ row.year ∷ row.yearmonthnum ∷ row.yearmonth ∷ [] ∷ [] ∷ []
          ∷ []
          ∷ row.weeknuminyear ∷ [] ∷ [] ∷ [] ∷ [] ∷ []) [] refl;
      fit = (
        key-fits row.key a.0,
        (
          tt,
          (
            tt,
            (
              tt,
              (
                short_of row.year d.0,
                (
                  short_of row.yearmonthnum b.0,
                  (
                    short_of row.yearmonth e.0,
                    (tt, (tt, (tt, (tt, (short_of row.weeknuminyear f.0, (tt, (tt, (tt, (tt, (tt, tt)))))))))),
                  ),
                ),
              ),
            ),
          ),
        ),
      );
      back = λ i. record {
        key = key-value row.key a.0 i;
        year = row.year;
        yearmonthnum = row.yearmonthnum;
        yearmonth = row.yearmonth;
        weeknuminyear = row.weeknuminyear;
      };
    }

pub dimensions-read_back : LinesAreSpelled → FieldsAreSpelled → DimensionsReadBack
dimensions-read_back lines_law fields_law = record {
  customers = table-back customer_columns customer_of_fields fields_law customer_fields is_spellable_customer
      customer-spelled lines_law;
  suppliers = table-back supplier_columns supplier_of_fields fields_law supplier_fields is_spellable_supplier
      supplier-spelled lines_law;
  parts = table-back part_columns part_of_fields fields_law part_fields is_spellable_part part-spelled lines_law;
  dates = table-back date_columns date_of_fields fields_law date_fields is_spellable_date date-spelled lines_law;
}

-- ==== Fact rows that lines can spell are read back.

less-than : (a b : ℕ) → nat_lt a b ≡ true → a < b
less-than a b is = grind (arith, nat_tests)

record HasKeys (row : LineOrder) : Type 0 where
  orderkey : row.orderkey < 2 ^ 63
  linenumber : row.linenumber < 2 ^ 32
  custkey : row.custkey < 2 ^ 32
  partkey : row.partkey < 2 ^ 32
  suppkey : row.suppkey < 2 ^ 32
  orderdate : row.orderdate < 2 ^ 32

record HasFigures (row : LineOrder) : Type 0 where
  quantity : row.quantity < 2 ^ 8
  extendedprice : row.extendedprice < 2 ^ 63
  ordtotalprice : row.ordtotalprice < 2 ^ 63
  discount : row.discount < 2 ^ 8
  revenue : row.revenue < 2 ^ 63
  supplycost : row.supplycost < 2 ^ 63
  tax : row.tax < 2 ^ 8

record HasTexts (row : LineOrder) : Type 0 where
  orderpriority : IsFieldText row.orderpriority
  shippriority : IsFieldText row.shippriority
  commitdate : IsFieldText row.commitdate
  shipmode : IsFieldText row.shipmode
  no_cr : ends_in_cr row.shipmode ≡ false

keys-in_range : (row : LineOrder) → has_keys_in_range row ≡ true → HasKeys row
keys-in_range row is =
    let a = and-true _ _ is in
    let b = and-true _ _ a.1 in
    let d = and-true _ _ b.1 in
    let e = and-true _ _ d.1 in
    let f = and-true _ _ e.1 in
    record {
      orderkey = less-than row.orderkey (2 ^ 63) a.0;
      linenumber = less-than row.linenumber (2 ^ 32) b.0;
      custkey = less-than row.custkey (2 ^ 32) d.0;
      partkey = less-than row.partkey (2 ^ 32) e.0;
      suppkey = less-than row.suppkey (2 ^ 32) f.0;
      orderdate = less-than row.orderdate (2 ^ 32) f.1;
    }

figures-in_range : (row : LineOrder) → has_figures_in_range row ≡ true → HasFigures row
figures-in_range row is =
    let a = and-true _ _ is in
    let b = and-true _ _ a.1 in
    let d = and-true _ _ b.1 in
    let e = and-true _ _ d.1 in
    let f = and-true _ _ e.1 in
    let g = and-true _ _ f.1 in
    record {
      quantity = less-than row.quantity (2 ^ 8) a.0;
      extendedprice = less-than row.extendedprice (2 ^ 63) b.0;
      ordtotalprice = less-than row.ordtotalprice (2 ^ 63) d.0;
      discount = less-than row.discount (2 ^ 8) e.0;
      revenue = less-than row.revenue (2 ^ 63) f.0;
      supplycost = less-than row.supplycost (2 ^ 63) g.0;
      tax = less-than row.tax (2 ^ 8) g.1;
    }

texts-plain : (row : LineOrder) → has_field_texts row ≡ true → HasTexts row
texts-plain row is =
    let a = and-true _ _ is in
    let b = and-true _ _ a.0 in
    let d = and-true _ _ b.1 in
    let e = and-true _ _ d.1 in
    let f = and-true _ _ e.1 in
    record {
      orderpriority = b.0;
      shippriority = d.0;
      commitdate = e.0;
      shipmode = f.0;
      no_cr = not-true (ends_in_cr row.shipmode) a.1;
    }

-- a key, an amount of money and a small count: the text of a field, which spells the number
module _ (n : ℕ) where
  number-text : n < 2 ^ 32 → IsFieldText (decimal n)
  number-text small = field-decimal n (omega arith)

  number-fits : n < 2 ^ 32 → spells_number 4294967295 (decimal n) ≡ true
  number-fits small = spells-decimal 4294967295 n (omega arith) (omega arith)

  amount-text : n < 2 ^ 63 → IsFieldText (decimal n)
  amount-text small = field-decimal n (omega arith)

  amount-fits : n < 2 ^ 63 → spells_number 9223372036854775807 (decimal n) ≡ true
  amount-fits small = spells-decimal 9223372036854775807 n (omega arith) (omega arith)

  small-text : n < 2 ^ 8 → IsFieldText (decimal n)
  small-text small = field-decimal n (omega arith)

  small-fits : n < 2 ^ 8 → spells_number 255 (decimal n) ≡ true
  small-fits small = spells-decimal 255 n (omega arith) (omega arith)

abbrev front : LineOrder → List (List ℕ)
front row =
    decimal row.orderkey ∷ decimal row.linenumber ∷ decimal row.custkey ∷ decimal row.partkey ∷ decimal row.suppkey
    ∷ decimal row.orderdate ∷ row.orderpriority ∷ row.shippriority ∷ decimal row.quantity ∷ decimal row.extendedprice
    ∷ decimal row.ordtotalprice ∷ decimal row.discount ∷ decimal row.revenue ∷ decimal row.supplycost
    ∷ decimal row.tax ∷ row.commitdate ∷ []

module _ (row : LineOrder) (keys : HasKeys row) (figures : HasFigures row) (texts : HasTexts row) where
  fact-texts : IsSpelled lineorder_columns lineorder_of_fields row (fact_fields row)
  fact-texts = record {
    count = refl;
    some = omega arith;
    few = omega arith;
    texts = (
      amount-text row.orderkey keys.orderkey,
      (
        number-text row.linenumber keys.linenumber,
        (
          number-text row.custkey keys.custkey,
          (
            number-text row.partkey keys.partkey,
            (
              number-text row.suppkey keys.suppkey,
              (
                number-text row.orderdate keys.orderdate,
                (
                  texts.orderpriority,
                  (
                    texts.shippriority,
                    (
                      small-text row.quantity figures.quantity,
                      (
                        amount-text row.extendedprice figures.extendedprice,
                        (
                          amount-text row.ordtotalprice figures.ordtotalprice,
                          (
                            small-text row.discount figures.discount,
                            (
                              amount-text row.revenue figures.revenue,
                              (
                                amount-text row.supplycost figures.supplycost,
                                (small-text row.tax figures.tax, (texts.commitdate, (texts.shipmode, tt))),
                              ),
                            ),
                          ),
                        ),
                      ),
                    ),
                  ),
                ),
              ),
            ),
          ),
        ),
      ),
    );
    no_cr = no_cr-joined (front row) row.shipmode texts.no_cr;
    fit = (
      amount-fits row.orderkey keys.orderkey,
      (
        number-fits row.linenumber keys.linenumber,
        (
          number-fits row.custkey keys.custkey,
          (
            number-fits row.partkey keys.partkey,
            (
              number-fits row.suppkey keys.suppkey,
              (
                number-fits row.orderdate keys.orderdate,
                (
                  short_of row.orderpriority texts.orderpriority,
                  (
                    short_of row.shippriority texts.shippriority,
                    (
                      small-fits row.quantity figures.quantity,
                      (
                        amount-fits row.extendedprice figures.extendedprice,
                        (
                          amount-fits row.ordtotalprice figures.ordtotalprice,
                          (
                            small-fits row.discount figures.discount,
                            (
                              amount-fits row.revenue figures.revenue,
                              (
                                amount-fits row.supplycost figures.supplycost,
                                (
                                  small-fits row.tax figures.tax,
                                  (
                                    short_of row.commitdate texts.commitdate,
                                    (short_of row.shipmode texts.shipmode, tt),
                                  ),
                                ),
                              ),
                            ),
                          ),
                        ),
                      ),
                    ),
                  ),
                ),
              ),
            ),
          ),
        ),
      ),
    );
    back = λ i. record {
      orderkey = value-decimal row.orderkey (omega (arith, keys.orderkey)) i;
      linenumber = value-decimal row.linenumber (omega (arith, keys.linenumber)) i;
      custkey = value-decimal row.custkey (omega (arith, keys.custkey)) i;
      partkey = value-decimal row.partkey (omega (arith, keys.partkey)) i;
      suppkey = value-decimal row.suppkey (omega (arith, keys.suppkey)) i;
      orderdate = value-decimal row.orderdate (omega (arith, keys.orderdate)) i;
      orderpriority = row.orderpriority;
      shippriority = row.shippriority;
      quantity = value-decimal row.quantity (omega (arith, figures.quantity)) i;
      extendedprice = value-decimal row.extendedprice (omega (arith, figures.extendedprice)) i;
      ordtotalprice = value-decimal row.ordtotalprice (omega (arith, figures.ordtotalprice)) i;
      discount = value-decimal row.discount (omega (arith, figures.discount)) i;
      revenue = value-decimal row.revenue (omega (arith, figures.revenue)) i;
      supplycost = value-decimal row.supplycost (omega (arith, figures.supplycost)) i;
      tax = value-decimal row.tax (omega (arith, figures.tax)) i;
      commitdate = row.commitdate;
      shipmode = row.shipmode;
    };
  }

row-spelled : (row : LineOrder) → is_spellable row ≡ true
    → IsSpelled lineorder_columns lineorder_of_fields row (fact_fields row)
row-spelled row is =
    let a = and-true _ _ is in
    let b = and-true _ _ a.1 in
    fact-texts row (keys-in_range row a.0) (figures-in_range row b.0) (texts-plain row b.1)

pub facts-read_back : LinesAreSpelled → FieldsAreSpelled → FactsReadBack
facts-read_back lines_law fields_law =
    table-back lineorder_columns lineorder_of_fields fields_law fact_fields is_spellable row-spelled lines_law
