use Rattle.std.proofs.Common.{◌≡◌, ◌*◌, ◌+◌, ◌<◌, ◌≤◌, ◌∙◌, ◌++◌, ℕ, All, List, [], ◌∷◌, add-one, ap, arith, length}
use Rattle.std.proofs.Common.{length-set, subst, sym}
use Rattle.std.proofs.Common.{take}
use Rattle.std.proofs.Math.ListN.{set}
use Rattle.std.proofs.Math.Seq.{take-suc-set}
use Rattle.std.proofs.lemmas.List.{map-append, take_more}
use Rattle.wire.specs.Spelling.{spelling}
use Rattle.column_segment.specs.Encoding.{number_chunks}
use Rattle.std.proofs.lemmas.List.Elements.{All-append, All-cons, All-nil}
use Rattle.cube_model.specs.declared.rows.LineOrder.{LineOrder}
use Rattle.column_segment.specs.Columns.{FitsColumn, fact_value, width_of}
use Rattle.std.proofs.lemmas.Nat.{mul-le}
use Rattle.column_segment.proofs.ColumnsLemmas.{few_bytes}
use Rattle.column_segment.proofs.gathering.put.Goals as goal

pub offset_bounds-chunks-place : goal.offset_bounds-chunks-place
offset_bounds-chunks-place g c =
    let narrow : g.row.WIDTH ≤ 8 = subst (λ (n : ℕ). n ≤ 8) c.args.column.wide (few_bytes c.args.column.name) in
    omega (
      arith,
      mul-le c.loop-place.place (g.row.WIDTH * 1) 256 8 (omega (arith, c.loop-place-test.true, c.requires.piece))
          (omega (arith, narrow)),
    )

pub shared_whole_as_front-extend_from_slice : goal.shared_whole_as_front-extend_from_slice
shared_whole_as_front-extend_from_slice g c =
    let narrow : g.row.WIDTH ≤ 8 = subst (λ (n : ℕ). n ≤ 8) c.args.column.wide (few_bytes c.args.column.name) in
    (c.requires.piece, omega (arith, narrow))

pub loop-place-preserved : goal.loop-place-preserved
loop-place-preserved g c =
    let so_far = c.loop-place.invariant in
    let rows = c.args.rows.now in
    let place : ℕ = c.loop-place.place in
    let row : LineOrder = c.index-rows-place.result in
    let column = c.args.column.name in
    let chunk = λ (r : LineOrder). spelling (width_of column) (fact_value column r) in
    let room : place < length c.loop-place.chunks =
    omega (arith, c.loop-place-test.true, c.requires.piece, so_far.count) in
    let more : take (place + 1) rows ≡ take place rows ++ row ∷ [] =
    take_more rows place row c.loop-place-test.true
    ∙ ap (λ (r : LineOrder). take place rows ++ r ∷ []) (sym c.index-rows-place.is) in record {
      fits = subst (All (FitsColumn column)) (sym more)
          (All-append (FitsColumn column) (take place rows) (row ∷ []) so_far.fits
          (All-cons (FitsColumn column) row [] c.bytes_of.ensures.fits (All-nil (FitsColumn column))));
      chunks = ap (λ (n : ℕ). take n (set c.loop-place.chunks place c.bytes_of.result)) (add-one place)
          ∙ take-suc-set c.loop-place.chunks place c.bytes_of.result room
          ∙ ap (λ (l : List (List ℕ)). l ++ c.bytes_of.result ∷ []) so_far.chunks
          ∙ ap (λ (l : List ℕ). number_chunks column (take place rows) ++ l ∷ [])
          (c.bytes_of.ensures.value ∙ ap (λ (n : ℕ). spelling n (fact_value column row)) (sym c.args.column.wide))
          ∙ sym (map-append chunk (take place rows) (row ∷ [])) ∙ ap (number_chunks column) (sym more);
      count = length-set c.loop-place.chunks place c.bytes_of.result ∙ so_far.count;
    }
