-- Which candidate of each sector a list of picks names. Our own.
use Rattle.std.specs.Prelude.{ℕ, zero, suc, ◌+◌, ◌%◌, nat_lt, if◌then◌else◌, List, [], length, slice_index}
use Rattle.std.specs.Prelude.{slice_index_or}
use Rattle.sector_device.specs.Device.{Image}

-- how many of the sectors below one have several candidates, where this is the number of each
abbrev pub several_below : (ℕ → ℕ) → ℕ → ℕ
several_below number zero = 0
several_below number (suc i) = several_below number i + (if nat_lt 1 (number i) then 1 else 0)

-- the j-th sector with several candidates takes the one of the j-th pick, modulo their number; a missing pick is 0
abbrev pub named : (ℕ → List (List ℕ)) → List ℕ → Image
named candidates picks i =
    let j = several_below (λ k. length (candidates k)) i in
    slice_index_or (candidates i) (slice_index picks j % length (candidates i)) []
