use Rattle.std.proofs.Common.{ap, ◌∙◌, Ok}
use Rattle.superblock.proofs.Places.{said_is}
use Rattle.superblock.proofs.decoding.fields.Goals as goal

pub returns : goal.returns
returns c = λ s proper is. ap Ok (said_is s _ _ _ _ _ _ _ _ _ _ _ _ _
    c.in_ok-bytes.ensures.value c.in_ok-u32.ensures.value c.in_ok-u32-2.ensures.value c.in_ok-u64.ensures.value
    c.in_ok-u32-3.ensures.value c.in_ok-u32-4.ensures.value proper (c.new-cursor.ensures ∙ is))
