-- Which of two superblocks is current. Our layout.
use Rattle.std.specs.Prelude.{◌≡◌, ◌≤◌, ◌⊎◌, Option, Some, IsSomeAnd}
use Rattle.superblock.specs.declared.superblock.Super.{Super}

-- one of the two is current, the one with the greater generation; the first, if the generations are equal
pub record IsCurrentOf (first second chosen : Option Super) : Type 0 where
  pub given : (chosen ≡ first) ⊎ (chosen ≡ second)
  pub newest : (s : Super) → (first ≡ Some s) ⊎ (second ≡ Some s) → IsSomeAnd chosen (λ c. s.generation ≤ c.generation)
  pub equal : (a b : Super) → first ≡ Some a → second ≡ Some b → a.generation ≡ b.generation → chosen ≡ first
