use Rattle.std.proofs.Common.{◌≡◌, ◌<◌, ◌^◌, ℕ, List, [], map, length, get_or, slice_index, arith, sym, subst, ap, ◌∙◌}
use Rattle.std.specs.Int.{from_le_bytes, w64}
use Rattle.column_segment.specs.Decoded.{amounts_in, column_bytes, fact_place}
use Rattle.column_segment.proofs.Chunked.{length-read}
use Rattle.column_segment.proofs.Parts.{at-map}
use Rattle.column_segment.proofs.rows.amount_at.Goals as goal

pub new-requires : goal.new-requires
new-requires c =
    let text : List ℕ = c.args.bytes.now in
    let rows : ℕ = c.args.layout.now.rows in
    let chunks : List (List ℕ) = c.chunks.result.now in
    let many : length (amounts_in text rows c.args.column.name) ≡ rows =
    length-read (from_le_bytes w64) 8 rows (column_bytes (fact_place c.args.column.name) 8 rows text) in
    let small : slice_index (amounts_in text rows c.args.column.name) c.args.row < 2 ^ 63 =
    c.requires.readable.amounts c.args.column.name c.args.column.wide c.args.row 0
    (omega (arith, many, c.requires.within)) in
    let is : slice_index (amounts_in text rows c.args.column.name) c.args.row
    ≡ from_le_bytes w64 (get_or chunks c.args.row []) =
    ap (λ (l : List (List ℕ)). get_or (map (from_le_bytes w64) l) c.args.row 0) (sym c.chunks.ensures.value)
    ∙ at-map (from_le_bytes w64) chunks c.args.row [] 0
    (omega (arith, c.chunks.ensures.many, c.requires.within)) in
    subst (λ (n : ℕ). n < 2 ^ 63) (is ∙ sym c.from_le_bytes.ensures) small
