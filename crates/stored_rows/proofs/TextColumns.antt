-- The columns of texts of a batch, taken one after the other. Our own.
use Rattle.std.proofs.Common.{◌≡◌, ◌⊎◌, inl, inr, ℕ, zero, suc, ◌+◌, ◌*◌, ◌/◌, ◌^◌, ◌<◌, ◌≤◌, List, [], ◌∷◌, ◌++◌}
use Rattle.std.proofs.Common.{length, map, take, drop, All, refl, sym, ap, subst, ◌∙◌, arith, append_assoc}
use Rattle.std.proofs.Common.{length-append, Result, Ok, Err, IfErr}
use Rattle.std.specs.Int.{from_le_bytes, w16}
use Rattle.std.specs.List.{AllByRecursion, flat_map}
use Rattle.std.specs.Result.{IsErrAnd}
use Rattle.std.specs.Simd.{first_chunks}
use Rattle.std.proofs.lemmas.List.{drop_at, length-map, take_at}
use Rattle.std.proofs.lemmas.List.Elements.{All-from_recursion}
use Rattle.std.proofs.lemmas.Nat.{from_le_bytes-to_le_bytes_2}
use Rattle.cube_model.specs.Limits.{longest_text, most_batch_rows}
use Rattle.cube_model.specs.ShipModes.{modes_in}
use Rattle.cube_model.specs.declared.fault.Fault.{Fault}
use Rattle.cube_model.specs.declared.fault.Fault.TheVariants.{BadLayout, Memory}
use Rattle.cube_model.specs.declared.rows.LineOrder.{LineOrder}
use Rattle.wire.specs.Reading.{TakesBytes}
use Rattle.wire.specs.Spelling.{spelling}
use Rattle.wire.proofs.CallerLemmas.{length-spelling}
use Rattle.dictionary.specs.Columns.{AreCodes, codes_of, codes_spelling, column_spelling, place_of, text_of_code}
use Rattle.dictionary.specs.Dictionary.{firsts}
use Rattle.dictionary.specs.Spelling.{AreProper, AreShort, BeginsWithNone, ReadsTexts, texts_spelling}
use Rattle.dictionary.proofs.ColumnLaws.{AreCodes-below, AreProper-firsts, column_has_codes, length-firsts}
use Rattle.dictionary.proofs.ColumnLaws.{texts_spelling-one}
use Rattle.batch_admission.specs.ShipModes.{texts_by}
use Rattle.column_segment.specs.declared.columns.TextColumn.{TextColumn}
use Rattle.column_segment.specs.declared.columns.TextColumn.TheVariants.{OrderPriority, ShipPriority, CommitDate}
use Rattle.column_segment.specs.declared.columns.TextColumn.TheVariants.{ShipMode}
use Rattle.column_segment.specs.Columns.{text_columns, text_of}
use Rattle.column_segment.specs.Reading.{BeginsWithNoColumn}
use Rattle.column_segment.specs.Segment.{text_column}
use Rattle.column_segment.proofs.CallerLemmas.{shorts}
use Rattle.stored_rows.specs.TextColumns.{IsCoded, SpellColumns, SpellLast, TakesColumn}

-- ---- codes in two bytes each

pub length-codes : (codes : List ℕ) → length (codes_spelling codes) ≡ 2 * length codes
length-codes [] = refl
length-codes (code ∷ codes) =
    omega (arith, length-append (spelling 2 code) (codes_spelling codes), length-spelling 2 code, length-codes codes)

-- a column has a code for each text
pub long_codes : (rows : ℕ) (column : List (List ℕ)) → length column ≡ rows
    → length (codes_spelling (codes_of column)) ≡ 2 * rows
long_codes rows column many =
    omega (
      arith,
      length-codes (codes_of column),
      length-map column (place_of (firsts column)),
      many,
    )

chunks_of : (n : ℕ) (codes : List ℕ) → length codes ≡ n → first_chunks 2 n (codes_spelling codes)
    ≡ map (spelling 2) codes
chunks_of zero [] many = refl
chunks_of zero (code ∷ codes) many = absurd (omega (arith, many))
chunks_of (suc n) [] many = absurd (omega (arith, many))
chunks_of (suc n) (code ∷ codes) many =
    let head : take 2 (spelling 2 code ++ codes_spelling codes) ≡ spelling 2 code =
    take_at (spelling 2 code) (codes_spelling codes) 2 (length-spelling 2 code) in
    let left : drop 2 (spelling 2 code ++ codes_spelling codes) ≡ codes_spelling codes =
    drop_at (spelling 2 code) (codes_spelling codes) 2 (length-spelling 2 code) in
    let tail = ap (first_chunks 2 n) left ∙ chunks_of n codes (omega (arith, many)) in
    λ i. head i ∷ tail i

read_back : (code : ℕ) → code < 2 ^ 16 → from_le_bytes w16 (spelling 2 code) ≡ code
unfolding spelling
read_back code fits = from_le_bytes-to_le_bytes_2 code fits

codes_back : (count : ℕ) (codes : List ℕ) → count ≤ 65536 → AllByRecursion (λ code. code < count) codes
    → map (from_le_bytes w16) (map (spelling 2) codes) ≡ codes
codes_back count [] few below = refl
codes_back count (code ∷ codes) few below =
    let head = read_back code (omega (arith, below.0, few)) in
    let tail = codes_back count codes few below.1 in
    λ i. head i ∷ tail i

length-chunks : (n : ℕ) (xs : List ℕ) → length (first_chunks 2 n xs) ≡ n
length-chunks zero xs = refl
length-chunks (suc n) xs = omega (arith, length-chunks n (drop 2 xs))

texts_below : (P : List ℕ → Type 0) (texts : List (List ℕ)) (codes : List ℕ) → All P texts
    → AllByRecursion (λ code. code < length texts) codes → AllByRecursion P (map (text_of_code texts) codes)
texts_below P texts [] all below = tt
texts_below P texts (code ∷ codes) all below = (all code [] below.0, texts_below P texts codes all below.1)

-- ---- refusals

abbrev Says : Type 0 → Fault → Type 0
Says None fault = (fault ≡ Memory) ⊎ ((fault ≡ BadLayout) × None)

weaker : {A B : Type 0} (fault : Fault) → (A → B) → Says A fault → Says B fault
weaker fault so (inl memory) = inl memory
weaker fault so (inr bad) = inr (bad.0, so bad.1)

-- the refusal of a call is that of its caller
pub handed_on : {T A B : Type 0} (result : Result T Fault) (fault : Fault) → IsErrAnd result (λ own. own ≡ fault)
    → (A → B) → Says A fault → IfErr result (Says B)
handed_on (Ok value) fault is so says = absurd is
handed_on {A = A} (Err own) fault is so says = weaker own so (rw is says)

-- ---- one column

-- the texts of a column of no more rows than a batch has are proper
proper_of : (rows : ℕ) (column : List (List ℕ)) → rows ≤ most_batch_rows → length column ≡ rows → AreShort column
    → AreProper most_batch_rows (firsts column)
proper_of rows column few many short =
    AreProper-firsts most_batch_rows column short (omega (arith, many, few, length-firsts column))

pub no_dictionary : (rows : ℕ) (bytes : List ℕ) → rows ≤ most_batch_rows → BeginsWithNone most_batch_rows bytes
    → BeginsWithNoColumn rows bytes
no_dictionary rows bytes few none = λ column rest many short is.
    none (firsts column) (codes_spelling (codes_of column) ++ rest) (proper_of rows column few many short)
    (is ∙ append_assoc (texts_spelling (firsts column)) (codes_spelling (codes_of column)) rest)

module _ (rows : ℕ) (old left : List ℕ) (texts : List (List ℕ)) (few : rows ≤ most_batch_rows)
    (read : ReadsTexts most_batch_rows old left texts) where
  -- what was read of a column is its dictionary, and its codes are next
  dictionary_one : (column : List (List ℕ)) (rest : List ℕ) → length column ≡ rows → AreShort column
      → old ≡ column_spelling column ++ rest
      → (texts ≡ firsts column) × (left ≡ codes_spelling (codes_of column) ++ rest)
  dictionary_one column rest many short is =
      texts_spelling-one most_batch_rows texts (firsts column) left (codes_spelling (codes_of column) ++ rest)
      (omega arith) read.proper (proper_of rows column few many short)
      (sym read.spelled ∙ is
      ∙ append_assoc (texts_spelling (firsts column)) (codes_spelling (codes_of column)) rest)

  pub no_codes : length left < 2 * rows → BeginsWithNoColumn rows old
  no_codes short = λ column rest many texts_short is.
      absurd (omega (
        arith,
        ap length (dictionary_one column rest many texts_short is).1,
        length-append (codes_spelling (codes_of column)) rest,
        long_codes rows column many,
        short,
      ))

  pub takes : (new codes : List ℕ) → TakesBytes (2 * rows) left new codes → TakesColumn rows old new texts codes
  takes new codes taken = record {
    proper = read.proper;
    many = taken.many;
    spelled = read.spelled ∙ ap (λ (l : List ℕ). texts_spelling texts ++ l) taken.spelled;
  }

module _ (rows : ℕ) (old new : List ℕ) (texts : List (List ℕ)) (codes : List ℕ) (few : rows ≤ most_batch_rows)
    (taken : TakesColumn rows old new texts codes) where
  -- a column that was taken is the one with which the bytes begin
  pub column_one : (column : List (List ℕ)) (rest : List ℕ) → length column ≡ rows → AreShort column
      → old ≡ column_spelling column ++ rest
      → (texts ≡ firsts column) × (codes ≡ codes_spelling (codes_of column)) × (new ≡ rest)
  column_one column rest many short is =
      let one = dictionary_one rows old (codes ++ new) texts few
      (record { proper = taken.proper; spelled = taken.spelled }) column rest many short is in
      let own : List ℕ = codes_spelling (codes_of column) in
      let long : length own ≡ 2 * rows = long_codes rows column many in
      let front : codes ≡ own =
      sym (take_at codes new (2 * rows) taken.many) ∙ ap (take (2 * rows)) one.1 ∙ take_at own rest (2 * rows) long in
      let back : new ≡ rest =
      sym (drop_at codes new (2 * rows) taken.many) ∙ ap (drop (2 * rows)) one.1 ∙ drop_at own rest (2 * rows) long in
      (one.0, front, back)

  -- and so it is of the rows of a batch
  pub text_column_one : (columns : List TextColumn) (column : TextColumn) (others : List LineOrder)
      → SpellColumns (column ∷ columns) rows old others → (texts ≡ firsts (map (text_of column) others))
      × (codes ≡ codes_spelling (codes_of (map (text_of column) others))) × SpellColumns columns rows new others
  text_column_one columns column others are =
      let one = column_one (map (text_of column) others) (flat_map (text_column others) columns)
      (length-map others (text_of column) ∙ are.many) (shorts others are.batch column) are.spelled in (
        one.0,
        one.1,
        record { many = are.many; batch = are.batch; spelled = one.2 },
      )

-- bytes that begin with no column are not those of columns
pub no_columns : (rows : ℕ) (bytes : List ℕ) (columns : List TextColumn) (column : TextColumn) (others : List LineOrder)
    → BeginsWithNoColumn rows bytes → SpellColumns (column ∷ columns) rows bytes others → ⊥
no_columns rows bytes columns column others none are =
    none (map (text_of column) others) (flat_map (text_column others) columns)
    (length-map others (text_of column) ∙ are.many) (shorts others are.batch column) are.spelled

-- ---- the columns before the ship modes

-- the first of those after so many
pub first_of : ℕ → TextColumn
first_of zero = OrderPriority
first_of (suc zero) = ShipPriority
first_of (suc (suc k)) = CommitDate

pub split_at : (place : ℕ) → place < 3 → drop place text_columns ≡ first_of place ∷ drop (place + 1) text_columns
unfolding first_of
split_at zero less = refl
split_at (suc zero) less = refl
split_at (suc (suc zero)) less = refl
split_at (suc (suc (suc k))) less = absurd (omega (arith, less))

-- ---- the ship modes

module _ (rows : ℕ) (left new : List ℕ) (texts : List (List ℕ)) (part : List ℕ) (few : rows ≤ most_batch_rows)
    (taken : TakesColumn rows left new texts part) (chunks : List (List ℕ))
    (chunks_are : chunks ≡ first_chunks 2 (length part / 2) part) where
  cut : chunks ≡ first_chunks 2 rows part
  cut = let half : length part / 2 ≡ rows = omega (arith, taken.many) in
      chunks_are ∙ ap (λ (n : ℕ). first_chunks 2 n part) half

  pub many_chunks : length chunks ≡ rows
  many_chunks = ap length cut ∙ length-chunks rows part

  pub many_modes : length (texts_by texts chunks) ≡ rows
  many_modes = length-map (map (from_le_bytes w16) chunks) (text_of_code texts) ∙ length-map chunks (from_le_bytes w16)
      ∙ many_chunks

  -- texts by codes that were checked
  pub are_coded : AreCodes (length texts) (map (from_le_bytes w16) chunks) → IsCoded texts chunks
  are_coded are =
      let below = AreCodes-below (length texts) (map (from_le_bytes w16) chunks) are in record {
        below = All-from_recursion (λ (code : ℕ). code < length texts) (map (from_le_bytes w16) chunks) below;
        few = omega (arith, many_chunks, few);
        short = All-from_recursion (λ (t : List ℕ). length t ≤ longest_text) (texts_by texts chunks)
            (texts_below (λ (t : List ℕ). length t ≤ longest_text) texts (map (from_le_bytes w16) chunks)
            taken.proper.short below);
      }

  module _ (others : List LineOrder) (are : SpellLast rows left others) where
    one : (texts ≡ firsts (modes_in others)) × (part ≡ codes_spelling (codes_of (modes_in others)))
        × SpellColumns [] rows new others
    one = text_column_one rows left new texts part few taken [] ShipMode others are

    read : map (from_le_bytes w16) chunks ≡ codes_of (modes_in others)
    read =
        let modes : List (List ℕ) = modes_in others in
        let laws = column_has_codes modes in
        let many : length (codes_of modes) ≡ rows = length-map modes (place_of (firsts modes))
        ∙ length-map others (text_of ShipMode) ∙ are.many in
        ap (map (from_le_bytes w16)) (cut ∙ ap (first_chunks 2 rows) one.1 ∙ chunks_of rows (codes_of modes) many)
        ∙ codes_back (length (firsts modes)) (codes_of modes)
        (omega (arith, length-firsts modes, length-map others (text_of ShipMode), are.many, few))
        (AreCodes-below (length (firsts modes)) (codes_of modes) laws.0)

    pub modes_one : texts_by texts chunks ≡ modes_in others
    modes_one = (λ i. map (text_of_code (one.0 i)) (read i)) ∙ (column_has_codes (modes_in others)).1

    pub has_codes : AreCodes (length texts) (map (from_le_bytes w16) chunks)
    has_codes = subst (λ (t : List (List ℕ)). AreCodes (length t) (map (from_le_bytes w16) chunks)) (sym one.0)
        (subst (AreCodes (length (firsts (modes_in others)))) (sym read) (column_has_codes (modes_in others)).0)

    pub none_left : new ≡ []
    none_left = one.2.spelled
