use Rattle.std.proofs.Common.{◌+◌, ◌-◌, ◌*◌, ◌∙◌, arith}
use Rattle.sector_device.proofs.Runs.{put_here, put_before}
use Rattle.sector_device.proofs.run.put_sector.Goals as goal

pub returns-clause-here : goal.returns-clause-here
returns-clause-here c =
    put_here c.args.k (c.args.k * 512 + 512 - c.args.k * 512) c.args.bytes.now c.copy_from_slice.new.self
    (omega (arith, c.copy_from_slice.auto.self, c.copy_from_slice.ensures.len)) c.requires
    ∙ c.copy_from_slice.ensures.after

pub returns-clause-before : goal.returns-clause-before
returns-clause-before c j before =
    put_before j c.args.k (c.args.k * 512 + 512 - c.args.k * 512) c.args.bytes.now c.copy_from_slice.new.self before
    c.requires
