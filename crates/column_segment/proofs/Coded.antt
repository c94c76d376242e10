-- A column of texts while it is being coded. Our own.
use Rattle.std.proofs.Common.{◌≡◌, ◌<◌, ◌≤◌, ◌+◌, ◌∙◌, sym, ap, subst, arith, ℕ, Some, List}
use Rattle.std.proofs.Common.{[], ◌∷◌, ◌++◌, map, length}
use Rattle.std.proofs.Common.{take, get_or, append_assoc}
use Rattle.std.proofs.lemmas.List.{flat_map_more, length-map, map-append, take_more}
use Rattle.std.proofs.lemmas.List.Elements.{All-map}
use Rattle.cube_model.specs.Limits.{longest_text, most_batch_rows}
use Rattle.cube_model.specs.declared.rows.LineOrder.{LineOrder}
use Rattle.wire.specs.Spelling.{spelling}
use Rattle.dictionary.specs.Dictionary.{Adds, Texts}
use Rattle.dictionary.specs.Spelling.{AreShort, texts_spelling}
use Rattle.dictionary.specs.Columns.{codes_of, codes_spelling, column_spelling}
use Rattle.dictionary.proofs.ColumnLaws.{AreProper-firsts, adds_column, codes_more, length-firsts}
use Rattle.column_segment.specs.Coding.{AreCoded}
use Rattle.column_segment.specs.Columns.{text_of}
use Rattle.column_segment.specs.Segment.{HaveShort}
use Rattle.column_segment.specs.declared.columns.TextColumn.{TextColumn}

-- one text more
pub coded_more : (column : List (List ℕ)) (text : List ℕ) (before after : Texts) (codes more : List ℕ) (code : ℕ)
    → AreCoded column before codes
    → Adds before text (Some code) after → length after.texts ≤ after.limit → more ≡ codes ++ spelling 2 code
    → AreCoded (column ++ text ∷ []) after more
coded_more column text before after codes more code are adds few is =
    let laws = adds_column column text before after code are.texts_are adds in
    let codes_is : codes_of (column ++ text ∷ []) ≡ codes_of column ++ code ∷ [] = codes_more column text
    ∙ ap (λ (n : ℕ). codes_of column ++ n ∷ []) laws.2 in
    record {
      texts_are = laws.0;
      limit = laws.1 ∙ are.limit;
      few = omega (arith, few, laws.1, are.limit);
      codes_are = is ∙ ap (λ (l : List ℕ). l ++ spelling 2 code) are.codes_are
          ∙ flat_map_more (spelling 2) [] (codes_of column) code
          ∙ sym (ap codes_spelling codes_is);
    }

-- a dictionary of fewer texts than a batch may have rows takes one more
pub has_room : (column : List (List ℕ)) (texts : Texts) (codes : List ℕ) → AreCoded column texts codes
    → length column < most_batch_rows
    → length texts.texts < texts.limit
has_room column texts codes are few = omega (arith, ap length are.texts_are, length-firsts column, are.limit)

-- the texts of one row more
pub row_more : (column : TextColumn) (rows : List LineOrder) (i : ℕ) (row : LineOrder) (text : List ℕ) → i < length rows
    → row ≡ get_or rows i row
    → text ≡ text_of column row → map (text_of column) (take (i + 1) rows) ≡ map (text_of column) (take i rows) ++ text
    ∷ []
row_more column rows i row text lt is text_is =
    ap (map (text_of column)) (take_more rows i row lt)
    ∙ map-append (text_of column) (take i rows) (get_or rows i row ∷ [])
    ∙ ap (λ (r : LineOrder). map (text_of column) (take i rows) ++ text_of column r ∷ []) (sym is)
    ∙ ap (λ (t : List ℕ). map (text_of column) (take i rows) ++ t ∷ []) (sym text_is)

-- the texts of a column's dictionary are short
pub texts_short : (column : TextColumn) (rows : List LineOrder) (texts : Texts) (codes : List ℕ)
    → AreCoded (map (text_of column) rows) texts codes
    → HaveShort rows column → length rows ≤ most_batch_rows → AreShort texts.texts
texts_short column rows texts codes are short few =
    let shorts : AreShort (map (text_of column) rows) =
    All-map (λ (text : List ℕ). length text ≤ longest_text) (text_of column) rows short in
    let count = length-firsts (map (text_of column) rows) in
    let proper =
    AreProper-firsts most_batch_rows (map (text_of column) rows) shorts
    (omega (arith, count, length-map rows (text_of column))) in
    subst AreShort (sym are.texts_are) proper.short

-- the dictionary and the codes, one after the other, are the column
pub column_put : (column : List (List ℕ)) (texts : Texts) (codes s0 s1 s2 : List ℕ) → AreCoded column texts codes
    → s1 ≡ s0 ++ texts_spelling texts.texts
    → s2 ≡ s1 ++ codes → s2 ≡ s0 ++ column_spelling column
column_put column texts codes s0 s1 s2 are first second =
    second ∙ ap (λ (l : List ℕ). l ++ codes) first ∙ append_assoc s0 (texts_spelling texts.texts) codes
    ∙ ap (λ (l : List ℕ). s0 ++ (texts_spelling texts.texts ++ l)) are.codes_are
    ∙ ap (λ (t : List (List ℕ)). s0 ++ (texts_spelling t ++ codes_spelling (codes_of column))) are.texts_are

-- before the first text
pub coded_none : (texts : Texts) (codes : List ℕ) → texts ≡ record { texts = []; limit = most_batch_rows } → codes ≡ []
    → AreCoded [] texts codes
coded_none texts codes are is =
    record {
      texts_are = ap (λ (t : Texts). t.texts) are;
      limit = ap (λ (t : Texts). t.limit) are;
      few = omega (arith, ap (λ (t : Texts). length t.texts) are);
      codes_are = is;
    }
