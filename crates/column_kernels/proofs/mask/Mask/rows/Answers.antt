use Rattle.std.proofs.Common.{◌≡◌, ◌+◌, ◌*◌, ℕ, Bool, List, length, sym, ap, ◌∙◌, arith}
use Rattle.column_kernels.proofs.Blocks.{view_long}
use Rattle.column_kernels.proofs.mask.Mask.rows.Goals as goal

pub returns : goal.returns
returns c =
    let words : List ℕ = c.self.inside.words.items in
    let n : ℕ = c.self.inside.rest_rows in
    let rows : length c.args.self.now ≡ 32 * length words + n
    = ap (λ (l : List Bool). length l) (sym c.self.view_is) ∙ view_long words c.self.inside.rest n in
    omega (arith, rows, c.len.ensures)
