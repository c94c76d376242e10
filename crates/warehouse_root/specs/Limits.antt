-- The limits of what a root says, besides those of rows and batches, each in one place. Our layout.
use Rattle.std.specs.Prelude.{ℕ}

-- times that rows of dimensions were added
abbrev pub most_additions : ℕ
most_additions = 4096

-- the sum of the absolute values of a measure, so that each sum of rows fits a signed number of eight bytes
abbrev pub greatest_total : ℕ
greatest_total = 9223372036854775807

-- cuboids that are stored
abbrev pub most_cuboids : ℕ
most_cuboids = 16

-- runs of a cuboid
abbrev pub most_runs : ℕ
most_runs = 8
