use Rattle.std.proofs.Common.{◌≡◌, ◌<◌, ◌/◌, ℕ, length, subst, ap, ◌∙◌}
use Rattle.std.proofs.Math.Nat.{mul-div_cancel_left}
use Rattle.std.specs.Simd.{first_chunks}
use Rattle.column_segment.specs.Decoded.{column_bytes}
use Rattle.column_segment.proofs.ColumnsLemmas.{some_bytes}
use Rattle.column_segment.proofs.layout.chunks.Goals as goal

pub returns-clause-value : goal.returns-clause-value
returns-clause-value g c =
    let some : 0 < g.row.WIDTH = subst (λ (n : ℕ). 0 < n) c.args.column.wide (some_bytes c.args.column.name) in
    let many : length c.part.result.now / g.row.WIDTH ≡ c.args.rows =
    ap (λ (n : ℕ). n / g.row.WIDTH) c.part.ensures.many
    ∙ mul-div_cancel_left c.args.rows some in
    c.as_chunks.ensures.front ∙ ap (λ (n : ℕ). first_chunks g.row.WIDTH n c.part.result.now) many
    ∙ ap (first_chunks g.row.WIDTH c.args.rows)
    (c.part.ensures.value
    ∙ ap (λ (p : ℕ). column_bytes p g.row.WIDTH c.args.rows c.args.bytes.now) c.place.ensures.value)
