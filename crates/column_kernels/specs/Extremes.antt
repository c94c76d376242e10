-- The least and the greatest of some numbers. Our own.
use Rattle.std.specs.Prelude.{ℕ, ℤ, pos, negsuc, List, [], ◌∷◌, map, Option, Some, None, Bool, cond}
use Rattle.std.specs.Int.{int_min, int_max}
use Rattle.cube_model.specs.Aggregates.{least, greatest}
use Rattle.column_kernels.specs.declared.extremes.Extremes.{Extremes}

-- the least and the greatest of some numbers, if there are any
abbrev pub extremes_of : List ℤ → Option (ℤ × ℤ)
extremes_of [] = None
extremes_of (number ∷ numbers) = Some (least (number ∷ numbers), greatest (number ∷ numbers))

-- numbers of a column as whole numbers
abbrev pub wholes : List ℕ → List ℤ
wholes numbers = map (λ number. pos number) numbers

-- what is kept of numbers while they are gone through: of none the ends of the range, the wrong way round
abbrev pub kept_extremes : List ℤ → Extremes
kept_extremes [] = record {
  least = pos 170141183460469231731687303715884105727;
  greatest = negsuc 170141183460469231731687303715884105727;
}
kept_extremes (number ∷ numbers) = record { least = least (number ∷ numbers); greatest = greatest (number ∷ numbers) }

-- with one number more
abbrev pub kept_with : Extremes → ℤ → Extremes
kept_with kept number = record { least = int_min kept.least number; greatest = int_max kept.greatest number }
