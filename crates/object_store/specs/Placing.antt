-- Where the puts of a commit are placed. Our own.
use Rattle.std.specs.Prelude.{◌≡◌, ◌⊎◌, ℕ, ◌^◌, ◌<◌, List, All}
use Rattle.extents.specs.Extents.{SomeHolds, AreLaidOut}
use Rattle.extents.specs.declared.extent.Extent.{Extent}
use Rattle.extents.specs.Runs.{FreeSectors, IsFree, IsFreeOutside}
use Rattle.cube_model.specs.declared.fault.Fault.{Fault}
use Rattle.cube_model.specs.declared.fault.Fault.TheVariants.{Memory, Full}
use Rattle.object_store.specs.declared.catalogue.entry.Entry.{Entry}
use Rattle.object_store.specs.Places.{extents_of}
use Rattle.object_store.specs.Room.{AreFirstFits, lengths_of}
use Rattle.object_store.specs.Publish.{AreFor}

-- entries for some puts, placed one after another by first fit
pub record ArePlaced (first : FreeSectors) (puts : List (ℕ × List ℕ)) (entries : List Entry) (now : FreeSectors) : Type
    0 where
  pub places : AreFor entries puts
  pub fits : AreFirstFits first (lengths_of puts) (extents_of entries) now
  pub ids_fit : All (λ e. e.id < 2 ^ 32) entries
  pub laid_out : AreLaidOut first.count (extents_of entries)
  pub were_free : (sector : ℕ) → SomeHolds (extents_of entries) sector → IsFree first sector
  pub still_free : (sector : ℕ) → IsFree now sector → IsFree first sector × (¬ SomeHolds (extents_of entries) sector)
  pub count : now.count ≡ first.count

-- entries for some puts, placed outside the sectors in use, and what is then free
pub record ArePlacedOutside (sectors : ℕ) (used : List Extent) (puts : List (ℕ × List ℕ)) (entries : List Entry)
    (now : FreeSectors) : Type 0 where
  pub first : FreeSectors
  pub outside : IsFreeOutside sectors used first
  pub placed : ArePlaced first puts entries now

-- a refusal when out of memory or room
abbrev pub LacksMemoryOr : Type 0 → Fault → Type 0
LacksMemoryOr room fault = (fault ≡ Memory) ⊎ ((fault ≡ Full) × room)
