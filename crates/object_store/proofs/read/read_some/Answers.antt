use Rattle.std.proofs.Common.{◌∙◌, ℕ, List, ◌++◌, ◌+◌, ◌/◌, ◌≡◌, length, take, drop, sym, ap, arith}
use Rattle.object_store.specs.Places.{bytes_at, sectors_bytes}
use Rattle.object_store.proofs.Pieces.{IfOk-both, piece_is, run_within}
use Rattle.object_store.proofs.read.read_some.Goals as goal

pub returns-then-to-ge512-clause-bytes : goal.returns-then-to-ge512-clause-bytes
returns-then-to-ge512-clause-bytes g c =
    let device = c.args.device.now in
    let reads = (g.D.Sectors.state device).reads in
    let to = c.args.to.now in
    let first = c.args.first in
    let place = c.args.place in
    IfOk-both c.read_whole.result _ _ _ (λ n many bytes w total enough.
    let w0 = c.read_whole.ensures.reads.word w in
    let piece : take n (drop place (bytes_at reads first total))
    ≡ sectors_bytes reads (first + place / 512) (length to / 512) =
    ap (λ (k : ℕ). take k (drop place (bytes_at reads first total))) many
    ∙ run_within reads first place (length to / 512) total c.if-place-eq0.true (omega (arith, enough))
    (λ k lt. g.met.D.Sectors.whole device (first + k) (reads (first + k)) w0
    (omega (arith, lt, c.requires.in_range, c.if-place-eq0.true))
    (g.met.D.Sectors.read_may_stay device (first + k) w0)) in
    bytes w ∙ ap (λ (l : List ℕ). l ++ drop n to) (sym piece)) c.read_whole.ensures.many c.read_whole.ensures.bytes

pub returns-clause-bytes : goal.returns-clause-bytes
returns-clause-bytes g c =
    let device = c.args.device.now in
    let reads = (g.D.Sectors.state device).reads in
    let to = c.args.to.now in
    let first = c.args.first in
    let place = c.args.place in
    IfOk-both c.read_piece.result _ _ _ (λ n many bytes w total enough.
    let w0 = c.read_piece.ensures.reads.word w in
    bytes w ∙ ap (λ (l : List ℕ). l ++ drop n to)
    (sym (piece_is reads first place n total (omega (arith, many, c.requires.some)) (omega (arith, many))
    (omega (arith, many, enough))
    (λ k le. g.met.D.Sectors.whole device (first + k) (reads (first + k)) w0
    (omega (arith, le, c.requires.in_range, c.requires.some))
    (g.met.D.Sectors.read_may_stay device (first + k) w0))))) c.read_piece.ensures.many c.read_piece.ensures.bytes
