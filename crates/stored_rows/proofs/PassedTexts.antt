-- Columns of texts that are passed over, of which only the dictionaries are read. Our own.
use Rattle.std.proofs.Common.{◌≡◌, ◌∙◌, sym, ap, subst, arith, ℕ, suc, ◌+◌, ◌-◌, ◌<◌, ◌≤◌, List, [], ◌∷◌}
use Rattle.std.proofs.Common.{◌++◌, length, take, drop, get_or, append_assoc, drop-drop, length-append, length-drop}
use Rattle.std.proofs.Common.{length-take, Option, Some, map, min, ◌*◌, ◌^◌}
use Rattle.std.specs.Int.{from_le_bytes, w32}
use Rattle.std.specs.Option.{IsSomeAnd}
use Rattle.std.proofs.lemmas.Nat.{from_le_bytes-to_le_bytes_4}
use Rattle.std.specs.List.{flat_map}
use Rattle.std.specs.Prelude.{slice_index}
use Rattle.std.proofs.lemmas.List.{drop_at, get_or-drop, get_or-take, length-map, take_at, take_min}
use Rattle.std.proofs.lemmas.List.Elements.{All-head, All-tail}
use Rattle.cube_model.specs.Limits.{longest_text, most_batch_rows}
use Rattle.cube_model.specs.declared.rows.LineOrder.{LineOrder}
use Rattle.wire.specs.Parts.{Gives}
use Rattle.wire.specs.Spelling.{spelling}
use Rattle.wire.proofs.CallerLemmas.{length-spelling}
use Rattle.dictionary.specs.Columns.{codes_of, codes_spelling, column_spelling}
use Rattle.dictionary.specs.Dictionary.{firsts}
use Rattle.dictionary.specs.Spelling.{AreShort, text_spelling, texts_spelling}
use Rattle.dictionary.proofs.ColumnLaws.{AreProper-firsts, length-firsts}
use Rattle.column_segment.specs.declared.columns.TextColumn.{TextColumn}
use Rattle.column_segment.specs.Columns.{text_of}
use Rattle.column_segment.specs.Segment.{text_column}
use Rattle.column_segment.proofs.CallerLemmas.{shorts}
use Rattle.stored_rows.specs.Passing.{BeginsWithDictionary, BeginsWithTexts, PassesColumn, window_bytes}
use Rattle.stored_rows.specs.TextColumns.{SpellColumns}
use Rattle.stored_rows.proofs.TextColumns.{long_codes}

-- the length of a short text is its one byte
one_byte : (n : ℕ) → n ≤ 255 → spelling 1 n ≡ n ∷ []
unfolding spelling
one_byte n small = ap (λ (m : ℕ). m ∷ []) (omega arith)

-- a count is what its four bytes spell
number_back : (n : ℕ) → n < 2 ^ 32 → from_le_bytes w32 (spelling 4 n) ≡ n
unfolding spelling
number_back n fits = from_le_bytes-to_le_bytes_4 n fits

-- the first of some texts: its length is first, and the others are after it
first_text : (count : ℕ) (bytes rest : List ℕ) → BeginsWithTexts (suc count) bytes rest
    → (1 + slice_index bytes 0 ≤ length bytes) × (slice_index bytes 0 ≤ 255)
    × BeginsWithTexts count (drop (1 + slice_index bytes 0) bytes) rest
first_text count bytes rest begins = by begins.texts begins.short begins.many begins.spelled
  where
    by : (texts : List (List ℕ)) → AreShort texts → length texts ≡ suc count
        → bytes ≡ flat_map text_spelling texts ++ rest
        → (1 + slice_index bytes 0 ≤ length bytes) × (slice_index bytes 0 ≤ 255)
        × BeginsWithTexts count (drop (1 + slice_index bytes 0) bytes) rest
    by [] short many is = absurd (omega (arith, many))
    by (text ∷ texts) short many is =
        let own : length text ≤ 255 = All-head (λ (t : List ℕ). length t ≤ longest_text) text texts short in
        let left : List ℕ = flat_map text_spelling texts ++ rest in
        let whole : bytes ≡ length text ∷ (text ++ left) =
        is ∙ append_assoc (text_spelling text) (flat_map text_spelling texts) rest
        ∙ append_assoc (spelling 1 (length text)) text left
        ∙ ap (λ (l : List ℕ). l ++ (text ++ left)) (one_byte (length text) own) in
        let byte : slice_index bytes 0 ≡ length text = ap (λ (l : List ℕ). slice_index l 0) whole in
        let after : drop (1 + slice_index bytes 0) bytes ≡ left =
        ap (λ (n : ℕ). drop (1 + n) bytes) byte ∙ ap (drop (1 + length text)) whole
        ∙ drop_at (length text ∷ text) left (1 + length text) (omega arith) in (
          omega (arith, byte, ap length whole, length-append text left),
          omega (arith, byte, own),
          record {
            texts = texts;
            short = All-tail (λ (t : List ℕ). length t ≤ longest_text) text texts short;
            many = omega (arith, many);
            spelled = after;
          },
        )

-- ---- a window on bytes

-- its bytes are those at the same places
seen : (window all : List ℕ) (at : ℕ) → window ≡ take window_bytes all → at < window_bytes
    → slice_index window at ≡ slice_index (drop at all) 0
seen window all at is inside =
    ap (λ (l : List ℕ). get_or l at 0) is ∙ get_or-take window_bytes all at 0 inside
    ∙ ap (λ (n : ℕ). get_or all n 0) (sym (plus_none at)) ∙ sym (get_or-drop at all 0 0)
  where
    plus_none : (n : ℕ) → n + 0 ≡ n
    plus_none n = omega arith

-- one text more was passed over
pub text_passed : (window all rest : List ℕ) (wanted done at end : ℕ) → window ≡ take window_bytes all → done < wanted
    → at < length window → end ≡ at + (1 + slice_index window at) → BeginsWithTexts (wanted - done) (drop at all) rest
    → BeginsWithTexts (wanted - (done + 1)) (drop end all) rest
text_passed window all rest wanted done at end is more inside end_is begins =
    let left : ℕ = wanted - (done + 1) in
    let some : BeginsWithTexts (suc left) (drop at all) rest =
    subst (λ (n : ℕ). BeginsWithTexts n (drop at all) rest) (omega (arith, more)) begins in
    let byte : slice_index window at ≡ slice_index (drop at all) 0 =
    seen window all at is (omega (arith, inside, ap length is, length-take window_bytes all)) in
    let place : at + (1 + slice_index (drop at all) 0) ≡ end = omega (arith, byte, end_is) in
    subst (λ (l : List ℕ). BeginsWithTexts left l rest)
    (drop-drop (1 + slice_index (drop at all) 0) at all ∙ ap (λ (n : ℕ). drop n all) place)
    (first_text left (drop at all) rest some).2

-- a window has at least one whole text, if there is one
pub one_whole : (window all rest : List ℕ) (wanted at : ℕ) → window ≡ take window_bytes all → 0 < wanted
    → at ≡ 0 → length window < at + (1 + slice_index window at) → BeginsWithTexts wanted all rest → ⊥
one_whole window all rest wanted at is more none short begins =
    let some : BeginsWithTexts (suc (wanted - 1)) all rest =
    subst (λ (n : ℕ). BeginsWithTexts n all rest) (omega (arith, more)) begins in
    let first = first_text (wanted - 1) all rest some in
    let byte : slice_index window 0 ≡ slice_index all 0 = seen window all 0 is (omega arith) in
    let cut : length window < 0 + (1 + slice_index window 0) =
    subst (λ (n : ℕ). length window < n + (1 + slice_index window n)) none short in
    absurd (omega (arith, first.0, first.1, byte, cut, ap length is, length-take window_bytes all))

-- what is after all texts
pub all_passed : (count : ℕ) (bytes rest : List ℕ) → count ≡ 0 → BeginsWithTexts count bytes rest → bytes ≡ rest
all_passed count bytes rest none begins = by begins.texts begins.many begins.spelled
  where
    by : (texts : List (List ℕ)) → length texts ≡ count → bytes ≡ flat_map text_spelling texts ++ rest → bytes ≡ rest
    by [] many is = is
    by (text ∷ texts) many is = absurd (omega (arith, many, none))

-- ---- parts of a text that were read

-- nothing begins with a text after the end of another
pub no_texts : (count at : ℕ) (text rest : List ℕ) → 0 < count → length text < at
    → BeginsWithTexts count (drop at text) rest → ⊥
no_texts count at text rest more past begins =
    let some : BeginsWithTexts (suc (count - 1)) (drop at text) rest =
    subst (λ (n : ℕ). BeginsWithTexts n (drop at text) rest) (omega (arith, more)) begins in
    absurd (omega (arith, (first_text (count - 1) (drop at text) rest some).0, length-drop at text, past))

module _ (found : Option (List ℕ)) (text rest : List ℕ) (there : found ≡ Some text) (at : ℕ) (part : List ℕ)
    (gives : Gives found at part) where
  given : part ≡ take (length part) (drop at text)
  given = subst (λ (o : Option (List ℕ)). Gives o at part) there gives

  -- a window up to the end of a text, or as long as it can be
  pub window_on : (more : ℕ) → IsSomeAnd found (λ own. at + more ≡ length own) → length part ≡ min more window_bytes
      → part ≡ take window_bytes (drop at text)
  window_on more total long =
      let left : at + more ≡ length text =
      subst (λ (o : Option (List ℕ)). IsSomeAnd o (λ own. at + more ≡ length own)) there total in
      given
      ∙ ap (λ (n : ℕ). take n (drop at text)) (omega (arith, long, left, length-drop at text))
      ∙ take_min window_bytes (drop at text)

  -- the count of texts of a dictionary
  pub counted : (most count from : ℕ) → most ≤ most_batch_rows → length part ≡ 4 → count ≡ from_le_bytes w32 part
      → from ≡ at + 4 → BeginsWithDictionary most (drop at text) rest
      → (count ≤ most) × BeginsWithTexts count (drop from text) rest
  counted most count from few long is from_is begins =
      let own : ℕ = length begins.texts in
      let left : List ℕ = flat_map text_spelling begins.texts ++ rest in
      let whole : drop at text ≡ spelling 4 own ++ left =
      begins.spelled ∙ append_assoc (spelling 4 own) (flat_map text_spelling begins.texts) rest in
      let field : part ≡ spelling 4 own =
      given ∙ ap (λ (n : ℕ). take n (drop at text)) long ∙ ap (take 4) whole
      ∙ take_at (spelling 4 own) left 4 (length-spelling 4 own) in
      let same : count ≡ own =
      is ∙ ap (from_le_bytes w32) field ∙ number_back own (omega (arith, begins.few, few)) in (
        omega (arith, same, begins.few),
        record {
          texts = begins.texts;
          short = begins.short;
          many = sym same;
          spelled = ap (λ (n : ℕ). drop n text) from_is ∙ sym (drop-drop 4 at text) ∙ ap (drop 4) whole
              ∙ drop_at (spelling 4 own) left 4 (length-spelling 4 own);
        },
      )

-- a dictionary has a count of its texts
pub no_count : (most : ℕ) (bytes rest : List ℕ) → length bytes < 4 → BeginsWithDictionary most bytes rest → ⊥
no_count most bytes rest short begins =
    let own : ℕ = length begins.texts in
    let left : List ℕ = flat_map text_spelling begins.texts ++ rest in
    absurd (omega (
      arith,
      ap length (begins.spelled ∙ append_assoc (spelling 4 own) (flat_map text_spelling begins.texts) rest),
      length-append (spelling 4 own) left,
      length-spelling 4 own,
      short,
    ))

-- ---- columns

-- a column begins with a dictionary
pub dictionary_first : (rows : ℕ) (bytes rest : List ℕ) (column : List (List ℕ)) → length column ≡ rows
    → AreShort column → bytes ≡ column_spelling column ++ rest
    → BeginsWithDictionary rows bytes (codes_spelling (codes_of column) ++ rest)
dictionary_first rows bytes rest column many short is = record {
  texts = firsts column;
  short = (AreProper-firsts rows column short (omega (arith, many, length-firsts column))).short;
  few = omega (arith, many, length-firsts column);
  spelled = is ∙ append_assoc (texts_spelling (firsts column)) (codes_spelling (codes_of column)) rest;
}

-- its codes are after it
pub codes_there : (rows : ℕ) (bytes rest : List ℕ) (column : List (List ℕ)) → length column ≡ rows
    → bytes ≡ codes_spelling (codes_of column) ++ rest → length bytes < 2 * rows → ⊥
codes_there rows bytes rest column many is short =
    absurd (omega (
      arith,
      ap length is,
      length-append (codes_spelling (codes_of column)) rest,
      long_codes rows column many,
      short,
    ))

pub codes_passed : (rows at end : ℕ) (text rest : List ℕ) (column : List (List ℕ)) → length column ≡ rows
    → drop at text ≡ codes_spelling (codes_of column) ++ rest → end ≡ at + 2 * rows → drop end text ≡ rest
codes_passed rows at end text rest column many is end_is =
    ap (λ (n : ℕ). drop n text) end_is ∙ sym (drop-drop (2 * rows) at text) ∙ ap (drop (2 * rows)) is
    ∙ drop_at (codes_spelling (codes_of column)) rest (2 * rows) (long_codes rows column many)

-- a column of a batch is passed over
pub column_passed : (rows : ℕ) (old new : List ℕ) (columns : List TextColumn) (column : TextColumn)
    (others : List LineOrder)
    → PassesColumn rows old new → SpellColumns (column ∷ columns) rows old others → SpellColumns columns rows new others
column_passed rows old new columns column others passes are = record {
  many = are.many;
  batch = are.batch;
  spelled = passes (map (text_of column) others) (flat_map (text_column others) columns)
      (length-map others (text_of column) ∙ are.many) (shorts others are.batch column) are.spelled;
}
