use Rattle.std.proofs.Common.{rules, ◌≡◌, ◌≤◌, false, is_some, arith}
use Rattle.cube_model.specs.Limits.{most_batch_rows}
use Rattle.warehouse.proofs.GrowingLemmas.{grown-batch, grown-columns}
use Rattle.column_segment.proofs.CallerLemmas.{rows_fit}
use Rattle.warehouse.proofs.growing.GrowingBatch.segment.Goals as goal

pub encode-requires : goal.encode-requires
encode-requires c =
    let short : is_some c.args.self.now.found.long_text ≡ false = search rules in
    let few : c.args.self.now.found.row_count ≤ most_batch_rows =
    omega (arith, c.has_long_text.ensures.few) in
    record {
      batch = (
        c.requires.grown.2,
        grown-columns _ _ _ c.args.self.now c.requires.grown.3 short,
        grown-batch _ _ _ c.args.self.now c.requires.grown.3 short few,
      );
    }

pub returns-clause-spelled : goal.returns-clause-spelled
returns-clause-spelled c = λ dimensions root rows grown.
    let short : is_some c.args.self.now.found.long_text ≡ false = search rules in
    let few : c.args.self.now.found.row_count ≤ most_batch_rows =
    omega (arith, c.has_long_text.ensures.few) in (
      c.in_ok-encode.ensures.ok rows (grown-columns dimensions root rows c.args.self.now grown short),
      grown-batch dimensions root rows c.args.self.now grown short few,
      rows_fit rows c.args.self.now.columns (grown-columns dimensions root rows c.args.self.now grown short),
    )
