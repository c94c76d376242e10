-- The line of a test that found nothing wrong.
use Rattle.std.specs.Prelude.{ℕ, List, ◌++◌, codes}
use Rattle.std.specs.Fmt.{decimal}

-- so many crashes were opened
abbrev pub crashes_line : ℕ → List ℕ
crashes_line crashes = codes "ok: " ++ (decimal crashes ++ codes " stops opened\n")
