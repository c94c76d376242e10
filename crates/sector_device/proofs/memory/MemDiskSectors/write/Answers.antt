use Rattle.std.proofs.Common.{◌≡◌, ◌∷◌, List, ℕ, length, reverse, ap, subst, sym, ◌∙◌, refl, rules, arith, ◌<◌}
use Rattle.std.proofs.Math.ListN.{set}
use Rattle.std.proofs.lemmas.List.{length-set}
use Rattle.sector_device.specs.Device.{WritesSector}
use Rattle.sector_device.specs.Memory.{content, memory_state, AreWhole}
use Rattle.sector_device.specs.declared.change.Change.{Change}
use Rattle.sector_device.specs.declared.change.Change.TheVariants.{Replaced}
use Rattle.sector_device.proofs.MemorySteps.{writes, stay_whole, any_default, adds}
use Rattle.sector_device.proofs.memory.MemDiskSectors.write.Goals as goal

-- at the failure
pub invariant_of-self : goal.invariant_of-self
invariant_of-self c = record {
  counted = c.args.self.now.counted;
  roomy = c.args.self.now.roomy;
  whole = subst (λ (l : List Change). AreWhole c.args.self.now.sectors.items (reverse l))
      (sym c.in_err-noted.ensures.err) c.args.self.now.whole;
}

pub invariant_of-self-2 : goal.invariant_of-self-2
invariant_of-self-2 c =
    let sectors = c.args.self.now.sectors.items in
    let log = reverse c.args.self.now.log.items in
    let below : c.args.i < length sectors = search rules in
    let old : c.index-old.result.now ≡ content sectors c.args.i =
    any_default sectors c.args.i c.index-old.result.now below c.index-old.ensures in
    let is = c.in_ok-noted.ensures.ok ∙ ap (λ (b : List ℕ). Replaced c.args.i b ∷ log) old in record {
      counted = length-set sectors c.args.i c.args.from.now ∙ c.args.self.now.counted;
      roomy = c.args.self.now.roomy;
      whole = subst (λ (l : List Change). AreWhole (set sectors c.args.i c.args.from.now) l) (sym is)
          (stay_whole sectors log c.args.i c.args.from.now below (omega (arith, c.fits-from)) c.args.self.now.whole);
    }

pub returns-clause-writes : goal.returns-clause-writes
returns-clause-writes c =
    let sectors = c.args.self.now.sectors.items in
    let log = reverse c.args.self.now.log.items in
    let below : c.args.i < length sectors = search rules in
    let old : c.index-old.result.now ≡ content sectors c.args.i =
    any_default sectors c.args.i c.index-old.result.now below c.index-old.ensures in
    let is = c.in_ok-noted.ensures.ok ∙ ap (λ (b : List ℕ). Replaced c.args.i b ∷ log) old in
    subst (λ (l : List Change). WritesSector c.args.i c.args.from.now (memory_state sectors log)
    (memory_state (set sectors c.args.i c.args.from.now) l)) (sym is)
    (writes sectors log c.args.i c.args.from.now below)

pub returns-clause-adds : goal.returns-clause-adds
returns-clause-adds c =
    let sectors = c.args.self.now.sectors.items in
    let log = reverse c.args.self.now.log.items in
    let below : c.args.i < length sectors = search rules in
    let old : c.index-old.result.now ≡ content sectors c.args.i =
    any_default sectors c.args.i c.index-old.result.now below c.index-old.ensures in
    adds c.args.self.now _ c.args.i c.args.from.now below refl
    (c.in_ok-noted.ensures.ok ∙ ap (λ (b : List ℕ). Replaced c.args.i b ∷ log) old)
