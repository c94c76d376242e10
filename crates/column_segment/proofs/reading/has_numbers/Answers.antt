use Rattle.column_segment.proofs.ReadingLemmas.{has_all}
use Rattle.column_segment.proofs.reading.has_numbers.Goals as goal

pub returns : goal.returns
returns c = has_all c.args.bytes.now c.args.rows c.if-bytes-rows.false _ _ _ _ _ c.fits.ensures c.fits-2.ensures
    c.fits-3.ensures c.fits-4.ensures c.fits-5.ensures
