-- Texts that can be merged. Our own.
use Rattle.std.specs.Prelude.{ℕ, List, [], ◌∷◌}
use Rattle.report_merge.specs.declared.refused.Refused.{Refused}
use Rattle.report_merge.specs.declared.refused.Refused.TheVariants.{Memory, Input}
use Rattle.report_merge.specs.Merging.{AreOfOne, IsMergedPart, IsPartialReport, Part}
use Rattle.report_merge.specs.Refusals.{AreDisjoint}

-- texts are partial reports of more parts of the whole that a part is of, and the numbers of each are not in yet
abbrev pub CanAdd : Part → List (List ℕ) → Type 0
CanAdd start [] = Unit {0}
CanAdd start (text ∷ texts) = (other : Part) × IsPartialReport text other × AreOfOne start other
    × AreDisjoint start.head.numbers other.head.numbers
    × ((both : Part) → IsMergedPart start other both → CanAdd both texts)

-- texts are partial reports of parts of one whole, and no number is in two of them
abbrev pub CanMerge : List (List ℕ) → Type 0
CanMerge [] = ⊥
CanMerge (text ∷ texts) = (first : Part) × IsPartialReport text first × CanAdd first texts

-- memory ran out, or a reader failed
abbrev pub IsOutside : Refused → Type 0
IsOutside Memory = Unit {0}
IsOutside Input = Unit {0}
IsOutside _ = ⊥
