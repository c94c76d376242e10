-- What was asked of a file before it became a device. Our own.
use Rattle.std.specs.Prelude.{◌≡◌, ◌≢◌, ◌⊎◌, ℕ, ◌*◌, List, [], ◌∷◌, replicate, true}
use Rattle.file_device.specs.Length.{IsNotToBeMade}
use Rattle.file_device.specs.declared.claim.Existing.{Existing}
use Rattle.file_device.specs.declared.claim.Existing.TheVariants.{Any}
use Rattle.sector_device.specs.declared.event.Event.{Event}
use Rattle.sector_device.specs.declared.event.Event.TheVariants.{Locked, Measured, Lengthened, Read, Written, Synced}

-- a sector of zeros
abbrev pub blank : List ℕ
blank = replicate 512 0

-- the calls by which a file became a device of so many sectors, after earlier ones: it was empty and was given its
-- length; or it had its length, and its first two sectors were all zero, unless it may hold anything
abbrev pub IsClaimedBy : Existing → ℕ → List Event → List Event → Type 0
IsClaimedBy existing sectors earlier calls =
    (calls ≡ Synced true ∷ Lengthened (sectors * 512) true ∷ Measured 0 ∷ earlier)
    ⊎ ((calls ≡ Read 1 blank ∷ Read 0 blank ∷ Measured (sectors * 512) ∷ earlier)
    ⊎ ((existing ≡ Any) × (calls ≡ Measured (sectors * 512) ∷ earlier)))

-- the calls changed nothing: no write, no other length
abbrev pub ChangeNothing : List Event → Type 0
ChangeNothing [] = Unit {0}
ChangeNothing (Locked kind ∷ earlier) = ChangeNothing earlier
ChangeNothing (Measured n ∷ earlier) = ChangeNothing earlier
ChangeNothing (Lengthened n ok ∷ earlier) = ⊥
ChangeNothing (Read at b ∷ earlier) = ChangeNothing earlier
ChangeNothing (Written at b ok ∷ earlier) = ⊥
ChangeNothing (Synced ok ∷ earlier) = ChangeNothing earlier

-- the last call measured a length that a file of so many sectors cannot have at first
abbrev pub MeasuredOther : ℕ → List Event → Type 0
MeasuredOther sectors [] = ⊥
MeasuredOther sectors (Locked kind ∷ earlier) = ⊥
MeasuredOther sectors (Measured n ∷ earlier) = IsNotToBeMade n sectors
MeasuredOther sectors (Lengthened n ok ∷ earlier) = ⊥
MeasuredOther sectors (Read at b ∷ earlier) = ⊥
MeasuredOther sectors (Written at b ok ∷ earlier) = ⊥
MeasuredOther sectors (Synced ok ∷ earlier) = ⊥

-- the last call read one of the first two sectors, and found other than zeros
abbrev pub ReadOther : List Event → Type 0
ReadOther [] = ⊥
ReadOther (Locked kind ∷ earlier) = ⊥
ReadOther (Measured n ∷ earlier) = ⊥
ReadOther (Lengthened n ok ∷ earlier) = ⊥
ReadOther (Read at b ∷ earlier) = ((at ≡ 0) ⊎ (at ≡ 1)) × (b ≢ blank)
ReadOther (Written at b ok ∷ earlier) = ⊥
ReadOther (Synced ok ∷ earlier) = ⊥
