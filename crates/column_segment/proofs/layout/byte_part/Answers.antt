use Rattle.std.proofs.Common.{◌<◌, ◌*◌, ◌^◌, ℕ, All, drop, subst, sym}
use Rattle.std.proofs.lemmas.List.Elements.{All-from_recursion}
use Rattle.column_segment.specs.Decoded.{column_bytes}
use Rattle.column_segment.proofs.Chunked.{AreBytes-drop, AreBytes-take, bytes_below}
use Rattle.column_segment.proofs.layout.byte_part.Goals as goal

pub returns-clause-fit : goal.returns-clause-fit
returns-clause-fit c =
    let bytes = c.args.bytes.now in
    let place : ℕ = c.place.result in
    let at : ℕ = place * c.args.rows in
    subst (All (λ (number : ℕ). number < 2 ^ 8)) (sym c.part.ensures.value)
    (All-from_recursion (λ (number : ℕ). number < 2 ^ 8) (column_bytes place 1 c.args.rows bytes)
    (bytes_below _ (AreBytes-take (1 * c.args.rows) (drop at (drop 12 bytes))
    (AreBytes-drop at (drop 12 bytes) (AreBytes-drop 12 bytes (λ k. (c.type_inv.bytes k).fits))))))
