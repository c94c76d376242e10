use Rattle.journal_device.proofs.ImageDiskLemmas.{reads, whole}
use Rattle.journal_device.proofs.image_disk.ImageDisk.over.Goals as goal

pub invariant_of-result-clause-whole : goal.invariant_of-result-clause-whole
invariant_of-result-clause-whole c =
    whole c.args.image.now c.as_chunks.result.0.now c.as_chunks.ensures.front c.as_chunks.ensures.front_len

pub returns-clause-reads : goal.returns-clause-reads
returns-clause-reads c =
    reads c.args.image.now c.as_chunks.result.0.now c.as_chunks.ensures.front c.as_chunks.ensures.front_len
