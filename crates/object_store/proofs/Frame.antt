-- What an image shows where nothing in use was written.
use Rattle.std.proofs.Common.{⊎_elim, ℕ, ◌<◌, ◌≤◌, List, sym, arith}
use Rattle.sector_device.specs.Device.{Image}
use Rattle.extents.specs.declared.extent.Extent.{Extent}
use Rattle.extents.specs.Extents.{SomeHolds, AreLaidOut}
use Rattle.superblock.specs.declared.superblock.Super.{Super}
use Rattle.object_store.specs.declared.catalogue.entry.Entry.{Entry}
use Rattle.object_store.specs.Content.{Content}
use Rattle.object_store.specs.Places.{used_by}
use Rattle.object_store.specs.Shows.{ShowsBy}
use Rattle.object_store.specs.Publish.{IsUnchangedOutside}
use Rattle.object_store.proofs.Frames.{shows_same}
use Rattle.object_store.proofs.Extents.{held_in_range}

-- where nothing in use was written, an image shows what another showed
pub shows_outside : (size : ℕ) (was image : Image) (c : Content) (super : Super) (entries : List Entry)
    (written : List Extent) → ShowsBy size was c super entries → AreLaidOut size written
    → ((i : ℕ) → SomeHolds written i → SomeHolds (used_by super entries) i → ⊥) → IsUnchangedOutside written was image
    → ShowsBy size image c super entries
shows_outside size was image c super entries written shows laid apart outside =
    shows_same size was image c super entries shows (λ i used. sym (outside i (λ held.
    ⊎_elim (λ lt. absurd
    (let r : (2 ≤ i) × (i < size) = held_in_range size written laid.in_range i held in omega (arith, lt, r.0)))
    (λ in_use. apart i held in_use) used)))
