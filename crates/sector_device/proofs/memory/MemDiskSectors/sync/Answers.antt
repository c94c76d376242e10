use Rattle.std.proofs.Common.{List, reverse, subst, sym}
use Rattle.sector_device.specs.Device.{Syncs}
use Rattle.sector_device.specs.Memory.{memory_state}
use Rattle.sector_device.specs.declared.change.Change.{Change}
use Rattle.sector_device.proofs.MemorySteps.{syncs, whole_or_not}
use Rattle.sector_device.proofs.memory.MemDiskSectors.sync.Goals as goal

pub invariant_of-self : goal.invariant_of-self
invariant_of-self c = record {
  counted = c.args.self.now.counted;
  roomy = c.args.self.now.roomy;
  whole = whole_or_not c.noted.result c.args.self.now.sectors.items c.args.self.now.log.items c.noted.new.log.items
      c.noted.ensures.ok c.noted.ensures.err c.args.self.now.whole;
}

pub returns-clause-syncs : goal.returns-clause-syncs
returns-clause-syncs c =
    let sectors = c.args.self.now.sectors.items in
    let log = reverse c.args.self.now.log.items in
    subst (λ (l : List Change). Syncs (memory_state sectors log) (memory_state sectors l))
    (sym c.in_ok-noted.ensures.ok) (syncs sectors log)
