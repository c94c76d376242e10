-- There is room for the numbers of groups.
use Rattle.std.proofs.Common.{ℕ, ◌*◌, ◌^◌, ◌<◌, ◌≤◌, List, [], ◌∷◌, length, arith}
use Rattle.std.proofs.lemmas.Nat.{mul-le}
use Rattle.cube_model.specs.declared.attr.Attr.{Attr}
use Rattle.group_numbers.specs.Parts.{number_room_of}

-- five columns have numbers of 80 bits
room_bound : (columns : List Attr) → length columns ≤ 5 → number_room_of columns ≤ 2 ^ 80
room_bound [] few = omega arith
room_bound (a ∷ []) few = omega arith
room_bound (a ∷ b ∷ []) few = omega arith
room_bound (a ∷ b ∷ c ∷ []) few = omega arith
room_bound (a ∷ b ∷ c ∷ d ∷ []) few = omega arith
room_bound (a ∷ b ∷ c ∷ d ∷ e ∷ []) few = omega arith
room_bound (a ∷ b ∷ c ∷ d ∷ e ∷ f ∷ columns) few = absurd (omega (arith, few))

-- one digit more
product_bound : (digit count : ℕ) (columns : List Attr) → digit ≤ 65536 → count ≤ number_room_of columns
    → digit * count ≤ 65536 * number_room_of columns
product_bound digit count columns small within = mul-le digit count 65536 (number_room_of columns) small within

pub product_fits : (digit count : ℕ) (columns : List Attr) → digit ≤ 65536 → count ≤ number_room_of columns
    → length columns ≤ 5 → digit * count < 2 ^ 97
product_fits digit count columns small within few =
    omega (arith, product_bound digit count columns small within, room_bound columns few)
