-- Which slot the number of a group has. Our own.
use Rattle.std.specs.Prelude.{◌≡◌, ℕ, zero, suc, ◌+◌, ◌<◌, ◌≤◌, ◌⊎◌, List, [], ◌∷◌, map, length, Option, Some, None}
use Rattle.std.specs.Prelude.{MatchOption, cond}
use Rattle.std.specs.BTreeMap.{is_at}
use Rattle.std.specs.List.Sorted.{IsStrictlySortedBy}
use Rattle.std.specs.Map.{lookup}
use Rattle.std.specs.Ordering.{nat_cmp}
use Rattle.group_tallies.specs.Numbered.{entries_in}
use Rattle.group_tallies.specs.declared.slots.Slots.{Slots}
use Rattle.group_tallies.specs.declared.slots.Slots.TheVariants.{Direct, Below, Seen}

-- a number from the first on, so many of them, each with itself for its slot
abbrev pub numbers_from : ℕ → ℕ → List (ℕ × ℕ)
numbers_from first zero = []
numbers_from first (suc count) = (first, first) ∷ numbers_from (suc first) count

-- the numbers that have a slot, ascending, each with its slot
abbrev pub entries_of : Slots → List (ℕ × ℕ)
entries_of (Direct count) = numbers_from 0 count
entries_of (Below table) = entries_in table.numbers
entries_of (Seen numbers) = entries_in numbers

-- the slot of a number
abbrev pub slot_of : List (ℕ × ℕ) → ℕ → Option ℕ
slot_of entries number = lookup (is_at (nat_cmp number)) entries

-- numbers below a bound, ascending, no two with one slot
pub record AreSlots (bound : ℕ) (entries : List (ℕ × ℕ)) : Type 0 where
  pub sorted : IsStrictlySortedBy nat_cmp (map (λ e. e.0) entries)
  pub below : (number slot : ℕ) → slot_of entries number ≡ Some slot → number < bound
  pub within : (number slot : ℕ) → slot_of entries number ≡ Some slot → slot < length entries
  pub apart : (number other slot : ℕ) → slot_of entries number ≡ Some slot → slot_of entries other ≡ Some slot
      → number ≡ other

-- there is a slot for a number, or one can be given
abbrev pub CanPlace : Slots → ℕ → Type 0
CanPlace (Direct count) number = number < count
CanPlace (Below table) number = number < table.bound
CanPlace (Seen numbers) number = Unit {0}

-- slots that are there from the start are those of the numbers below the bound, and a table is one of these numbers
abbrev pub Cover : ℕ → Slots → Type 0
Cover bound (Direct count) = count ≡ bound
Cover bound (Below table) = table.bound ≡ bound
Cover bound (Seen numbers) = Unit {0}

-- a new number with the next slot
pub record AddsSlot (old : List (ℕ × ℕ)) (number slot : ℕ) (new : List (ℕ × ℕ)) : Type 0 where
  pub sorted : IsStrictlySortedBy nat_cmp (map (λ e. e.0) new)
  pub longer : length new ≡ length old + 1
  pub slot_is : slot ≡ length old
  pub slots : (other : ℕ) → slot_of new other ≡ cond (is_at (nat_cmp number) other) (Some slot) (slot_of old other)

-- a number that has a slot keeps it, and a new one gets the next
abbrev pub Places : List (ℕ × ℕ) → ℕ → ℕ → List (ℕ × ℕ) → Type 0
Places old number slot new = MatchOption (slot_of old number) (AddsSlot old number slot new) (λ kept. (slot ≡ kept)
    × (new ≡ old))

-- more numbers may have a slot, and those that had one keep it
pub record Grow (bound : ℕ) (old new : List (ℕ × ℕ)) : Type 0 where
  pub slots : AreSlots bound new
  pub longer : length old ≤ length new
  pub keep : (number slot : ℕ) → slot_of old number ≡ Some slot → slot_of new number ≡ Some slot
  pub fresh : (number slot : ℕ) → slot_of new number ≡ Some slot
      → (slot_of old number ≡ Some slot) ⊎ ((slot_of old number ≡ None) × (length old ≤ slot))
