-- Ship modes as the members of an axis of their own, and the first cause to refuse those of a batch. Our own.
use Rattle.std.specs.Prelude.{ℕ, suc, ◌+◌, if◌then◌else◌, nat_lt, Option, Some, None, List, [], ◌∷◌, ◌++◌}
use Rattle.std.specs.Prelude.{codes, length, map, position}
use Rattle.std.specs.Option.{option_map}
use Rattle.std.specs.Str.{bytes_eq}
use Rattle.cube_model.specs.declared.fault.Fault.{Fault}
use Rattle.cube_model.specs.declared.fault.Fault.TheVariants.{ReservedMember, TooManyMembers}
use Rattle.cube_model.specs.declared.fault.MemberPlace.{MemberPlace}
use Rattle.cube_model.specs.declared.rows.LineOrder.{LineOrder}
use Rattle.cube_model.specs.Causes.{first_cause}
use Rattle.cube_model.specs.Limits.{most_members}
use Rattle.cube_model.specs.Validity.{members_of}

-- the ship modes of fact rows, row by row
abbrev pub modes_in : List LineOrder → List (List ℕ)
modes_in rows = map (λ row. row.shipmode) rows

-- the place of the first ship mode that is the text that means all of them
abbrev pub reserved_place : List (List ℕ) → Option ℕ
reserved_place modes = position (bytes_eq (codes "ALL")) modes

-- the place of the first ship mode with which there are too many different ones, after earlier ones
abbrev pub crowded_place : List (List ℕ) → List (List ℕ) → Option ℕ
crowded_place earlier [] = None
crowded_place earlier (mode ∷ modes) =
    if nat_lt most_members (length (members_of (earlier ++ mode ∷ []))) then Some 0
    else option_map suc (crowded_place (earlier ++ mode ∷ []) modes)

-- the first cause to refuse ship modes after earlier ones. Rows count from 1, and are at places of some kind
abbrev pub modes_cause : (ℕ → MemberPlace) → List (List ℕ) → List (List ℕ) → Option Fault
modes_cause at earlier modes = first_cause (
    option_map (λ place. ReservedMember (at (place + 1))) (reserved_place modes)
    ∷ option_map (λ place. TooManyMembers (at (place + 1))) (crowded_place earlier modes) ∷ [])
