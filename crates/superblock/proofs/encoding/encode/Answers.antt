use Rattle.std.proofs.Common.{codes, refl}
use Rattle.wire.specs.Spelling.{spelling}
use Rattle.wire.proofs.CallerLemmas.{length-spelling}
use Rattle.superblock.proofs.Places.{fields_put}
use Rattle.superblock.proofs.encoding.encode.Goals as goal

pub returns : goal.returns
returns c =
    let s = c.args.superblock.now in
    fields_put (codes "SSBCUBE1") (spelling 4 s.layout) (spelling 4 s.sectors) (spelling 8 s.generation)
    (spelling 4 s.catalogue) (spelling 4 s.bytes)
    _ _ _ _ _ _
    refl (length-spelling 4 s.layout) (length-spelling 4 s.sectors) (length-spelling 8 s.generation)
    (length-spelling 4 s.catalogue) (length-spelling 4 s.bytes)
    c.write_bytes.ensures c.write_u32.ensures c.write_u32-2.ensures c.write_u64.ensures c.write_u32-3.ensures
    c.write_u32-4.ensures
