-- The numbers of keys: the codes of a key are the digits of a number, the customer's first, on each axis to the base of
-- its count. So the numbers of a view's keys are close together, and ascend as the keys do. Our own.
use Rattle.std.specs.Prelude.{ℕ, ◌+◌, ◌*◌, ◌<◌, ◌≤◌, ◌==◌, cond}
use Rattle.cuboid_cells.specs.declared.key.Key.{Key}
use Rattle.cuboid_cells.specs.Limits.{all_code, most_cells}
use Rattle.cuboid_upkeep.specs.declared.member_codes.ViewMembers.{ViewMembers}

-- the digit of a code: that of every member together is the only one of its axis
abbrev pub code_digit : ℕ → ℕ
code_digit code = cond (code == all_code) 0 code

-- the number of a key
abbrev pub key_place : ViewMembers → Key → ℕ
key_place members key =
    ((code_digit key.customer * members.suppliers.count + code_digit key.supplier) * members.parts.count
    + code_digit key.part) * members.dates.count + code_digit key.date

-- how many numbers there are
abbrev pub numbers_count : ViewMembers → ℕ
numbers_count members =
    ((members.customers.count * members.suppliers.count) * members.parts.count) * members.dates.count

-- the digits of a key are below the counts
pub record LiesIn (members : ViewMembers) (key : Key) : Type 0 where
  pub customer : code_digit key.customer < members.customers.count
  pub supplier : code_digit key.supplier < members.suppliers.count
  pub part : code_digit key.part < members.parts.count
  pub date : code_digit key.date < members.dates.count

-- there are no more numbers than a cuboid can have cells, however many axes are counted
pub record AreFew (members : ViewMembers) : Type 0 where
  pub two : members.customers.count * members.suppliers.count ≤ most_cells
  pub three : (members.customers.count * members.suppliers.count) * members.parts.count ≤ most_cells
  pub four : numbers_count members ≤ most_cells
