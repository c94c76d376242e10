-- How many rows the tables of the benchmark have at a scale, which is given in hundredths (O'Neil, O'Neil, Chen).
use Rattle.std.specs.Prelude.{ℕ, ◌+◌, ◌*◌, ◌/◌, nat_lt, if◌then◌else◌}

-- 30,000 customers at scale 1
abbrev pub customers_of : ℕ → ℕ
customers_of hundredths = 300 * hundredths

-- 2,000 suppliers
abbrev pub suppliers_of : ℕ → ℕ
suppliers_of hundredths = 20 * hundredths

-- 1,500,000 orders
abbrev pub orders_of : ℕ → ℕ
orders_of hundredths = 15000 * hundredths

-- how often 1 is doubled without passing a number below 128
abbrev pub doublings : ℕ → ℕ
doublings number =
    if nat_lt number 2 then 0
    else (if nat_lt number 4 then 1
    else (if nat_lt number 8 then 2
    else (if nat_lt number 16 then 3
    else (if nat_lt number 32 then 4
    else (if nat_lt number 64 then 5 else 6)))))

-- 200,000 parts, and as many more for each doubling of scale 1; below it in proportion
abbrev pub part_count : ℕ → ℕ
part_count hundredths = if nat_lt hundredths 100 then 2000 * hundredths else 200000 * (1 + doublings (hundredths / 100))
