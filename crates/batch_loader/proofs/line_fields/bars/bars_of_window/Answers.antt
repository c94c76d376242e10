use Rattle.std.proofs.Common.{◌==◌, ◌∙◌, ap, refl}
use Rattle.std.specs.Int.{bit_at}
use Rattle.std.specs.Simd.Lanes.{chunk}
use Rattle.std.proofs.lemmas.Simd.{length-chunk}
use Rattle.batch_loader.proofs.LineFieldsLemmas.{bit_at-window}
use Rattle.batch_loader.proofs.line_fields.bars.bars_of_window.Goals as goal

pub returns : goal.returns
returns c = λ k below.
    ap (λ n. bit_at n k) c.bars_of_lanes.ensures
    ∙ bit_at-window (λ byte. byte == 124) c.args.text.now (chunk c.args.first 64 c.args.text.now) c.args.first 64 k
    c.requires below refl

pub bars_of_lanes-requires : goal.bars_of_lanes-requires
bars_of_lanes-requires c = length-chunk c.args.first 64 c.args.text.now c.requires
