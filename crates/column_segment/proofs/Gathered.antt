-- Columns that were gathered, numbers piece by piece and texts row by row. Our own.
use Rattle.std.proofs.Common.{◌≡◌, ◌<◌, ◌≤◌, ◌+◌, ◌-◌, ◌∙◌, sym, ap, refl, arith, ℕ, List, [], ◌∷◌, ◌++◌, map, length}
use Rattle.std.proofs.Common.{take, get_or, slice_range, length-append, append_assoc}
use Rattle.std.specs.List.{flat_map}
use Rattle.std.proofs.Math.Seq.{take-add}
use Rattle.std.proofs.lemmas.List.Elements.{All-append}
use Rattle.std.proofs.lemmas.List.{flat_map_more, length-map, length-take-le, map-append, take_more}
use Rattle.cube_model.specs.Limits.{most_batch_rows}
use Rattle.cube_model.specs.declared.rows.LineOrder.{LineOrder}
use Rattle.wire.specs.Spelling.{spelling}
use Rattle.column_segment.specs.declared.columns.FactColumn.{FactColumn}
use Rattle.column_segment.specs.Columns.{FitsColumn, fact_value, text_of, width_of}
use Rattle.column_segment.specs.Encoding.{CodingHasRoom, CodingsHaveRoom, HaveTexts, IsCoding, IsColumnOf, PutsColumn}
use Rattle.column_segment.specs.Encoding.{number_chunks}
use Rattle.column_segment.specs.Segment.{number_column}
use Rattle.column_segment.specs.declared.coding.Coding.{Coding}
use Rattle.column_segment.specs.declared.coding.Texts.{Texts}
use Rattle.column_segment.specs.declared.columns.TextColumn.{TextColumn}
use Rattle.column_segment.specs.declared.columns.TextColumn.TheVariants.{OrderPriority, ShipPriority, CommitDate}
use Rattle.column_segment.specs.declared.columns.TextColumn.TheVariants.{ShipMode}
use Rattle.column_segment.proofs.Coded.{has_room}

-- ---- numbers

flat_chunks : (column : FactColumn) (rows : List LineOrder) → flat_map (λ chunk. chunk) (number_chunks column rows)
    ≡ number_column rows column
flat_chunks column [] = refl
flat_chunks column (row ∷ rows) =
    ap (λ (l : List ℕ). spelling (width_of column) (fact_value column row) ++ l) (flat_chunks column rows)

-- the bytes of all rows, one after the other, are the column
pub column_after : (column : FactColumn) (rows : List LineOrder) (items slice : List (List ℕ)) (s0 s1 : List ℕ)
    → IsColumnOf column rows items → slice ≡ items
    → s1 ≡ s0 ++ flat_map (λ chunk. chunk) slice → s1 ≡ s0 ++ number_column rows column
column_after column rows items slice s0 s1 are same put =
    put ∙ ap (λ (l : List (List ℕ)). s0 ++ flat_map (λ chunk. chunk) l) (same ∙ are.chunks)
    ∙ ap (λ (l : List ℕ). s0 ++ l) (flat_chunks column rows)

-- ---- texts

-- the bytes of one code more
pub flat_more : (old new : List (List ℕ)) (chunk : List ℕ) → new ≡ old ++ chunk ∷ []
    → flat_map (λ code. code) new ≡ flat_map (λ code. code) old ++ chunk
flat_more old new chunk put = ap (flat_map (λ code. code)) put
    ∙ sym (flat_map_more (λ (code : List ℕ). code) [] old chunk)

one_room : (column : TextColumn) (rows : List LineOrder) (coding : Coding) → IsCoding (map (text_of column) rows) coding
    → length rows < most_batch_rows → CodingHasRoom coding
one_room column rows coding are few = record {
  room = has_room (map (text_of column) rows) coding.texts (flat_map (λ code. code) coding.codes.items) are
      (omega (arith, length-map rows (text_of column), few));
  limit = omega (arith, are.limit);
}

-- after fewer rows than a batch may have there is room for one more
pub room_left : (rows : List LineOrder) (texts : Texts) → HaveTexts rows texts → length rows < most_batch_rows
    → CodingsHaveRoom texts
room_left rows texts have few = record {
  orderpriority = one_room OrderPriority rows texts.orderpriority have.orderpriority few;
  shippriority = one_room ShipPriority rows texts.shippriority have.shippriority few;
  commitdate = one_room CommitDate rows texts.commitdate have.commitdate few;
  shipmode = one_room ShipMode rows texts.shipmode have.shipmode few;
}

-- so many of further rows after the rows before them
pub length_after : (before rows : List LineOrder) (i : ℕ) → i ≤ length rows
    → length (before ++ take i rows) ≡ length before + i
length_after before rows i le = length-append before (take i rows)
    ∙ ap (λ (n : ℕ). length before + n) (length-take-le i rows le)

-- ---- pieces of rows

-- the bytes of a piece after those of the rows before
pub chunks_after : (column : FactColumn) (before piece : List LineOrder) (old new : List (List ℕ))
    → IsColumnOf column before old → PutsColumn column piece old new → IsColumnOf column (before ++ piece) new
chunks_after column before piece old new are puts = record {
  chunks = puts.put ∙ ap (λ (l : List (List ℕ)). l ++ number_chunks column piece) are.chunks
      ∙ sym (map-append (λ (r : LineOrder). spelling (width_of column) (fact_value column r)) before piece);
  fits = All-append (FitsColumn column) before piece are.fits puts.fits;
}

-- one row more of further rows
pub one_after : (before rows : List LineOrder) (i : ℕ) (row : LineOrder) → i < length rows → row ≡ get_or rows i row
    → (before ++ take i rows) ++ row ∷ [] ≡ before ++ take (i + 1) rows
one_after before rows i row lt is = append_assoc before (take i rows) (row ∷ [])
    ∙ ap (λ (l : List LineOrder). before ++ l) (ap (λ (r : LineOrder). take i rows ++ r ∷ []) is
    ∙ sym (take_more rows i row lt))

-- one piece more of them
pub piece_after : (before rows : List LineOrder) (from to : ℕ) → from ≤ to
    → (before ++ take from rows) ++ slice_range rows from to ≡ before ++ take to rows
piece_after before rows from to order =
    let width : from + (to - from) ≡ to = omega (arith, order) in
    append_assoc before (take from rows) (slice_range rows from to)
    ∙ ap (λ (l : List LineOrder). before ++ l)
    (sym (take-add from (to - from) rows) ∙ ap (λ (n : ℕ). take n rows) width)
