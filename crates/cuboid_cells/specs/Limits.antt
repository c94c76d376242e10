-- The limits of cells, each in one place. Our layout.
use Rattle.std.specs.Prelude.{ℕ}

-- cells of a cuboid
abbrev pub most_cells : ℕ
most_cells = 262144

-- the code that means every member of an axis; those of members are below it
abbrev pub all_code : ℕ
all_code = 65535
