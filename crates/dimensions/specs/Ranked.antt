-- Members in order, and the ranks of texts among them.
use Rattle.std.specs.Prelude.{◌≡◌, ℕ, ◌<◌, ◌≤◌, List, [], map, length, slice_index_or}
use Rattle.cube_model.specs.Limits.{most_members}
use Rattle.cube_model.specs.Validity.{members_of}

-- codes are all below a number
abbrev pub AreCodesBelow : ℕ → List ℕ → Type 0
AreCodesBelow count codes = (k : ℕ) → k < length codes → slice_index_or codes k 0 < count

-- the texts at some ranks
abbrev pub texts_of_ranks : List (List ℕ) → List ℕ → List (List ℕ)
texts_of_ranks members ranks = map (λ rank. slice_index_or members rank []) ranks

-- the members are those of the texts at the ranks, and not too many
pub record AreRanks (members : List (List ℕ)) (ranks : List ℕ) : Type 0 where
  pub few : length members ≤ most_members
  pub within : AreCodesBelow (length members) ranks
  pub members_are : members ≡ members_of (texts_of_ranks members ranks)

-- the rank of the text at a row of a column among the column's members
abbrev pub IsRankAt : List (List ℕ) → ℕ → ℕ → Type 0
IsRankAt texts row rank = (rank < length (members_of texts))
    × (slice_index_or (members_of texts) rank [] ≡ slice_index_or texts row [])
