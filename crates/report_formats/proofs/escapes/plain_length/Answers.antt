use Rattle.std.proofs.Common.{◌<◌, length, rules}
use Rattle.report_formats.specs.Escapes.{byte_text}
use Rattle.report_formats.proofs.EscapesLemmas.{plain_more}
use Rattle.report_formats.proofs.escapes.plain_length.Goals as goal

pub loop-place-preserved : goal.loop-place-preserved
loop-place-preserved c =
    let within : c.loop-place.place < length c.args.text.now = search rules in
    plain_more (byte_text c.args.how) c.args.text.now c.loop-place.place within c.loop-place.invariant (search rules)
