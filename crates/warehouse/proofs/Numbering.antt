-- The numbers of additions, and what forbids one.
use Rattle.std.proofs.Common.{◌≡◌, ◌∙◌, ℕ, ◌+◌, ◌<◌, Bool, true, false, nat_le, nat_lt, Option, Some, None, [], ◌∷◌}
use Rattle.std.proofs.Common.{◌++◌, length, refl, ap, arith}
use Rattle.std.specs.Option.{option_map}
use Rattle.std.proofs.lemmas.Bool.Decides.{nat_tests}
use Rattle.cube_model.specs.declared.fault.Fault.{Fault}
use Rattle.cube_model.specs.declared.fault.Fault.TheVariants.{Gap, Repeated, TooManyAdditions}
use Rattle.cube_model.specs.declared.rows.DimRows.{DimRows}
use Rattle.cube_model.specs.Causes.{cause_if, first_cause}
use Rattle.cube_model.specs.Validity.{IsValid, customer_rules, date_rules, dimension_cause, part_rules, supplier_rules}
use Rattle.dimensions.specs.Added.{addition_cause, counted_after, joined}
use Rattle.warehouse_root.specs.Limits.{most_additions}
use Rattle.warehouse_objects.specs.Facts.{AdmitsRows, number_refusal}
use Rattle.warehouse_objects.specs.Warehouse.{Warehouse}

-- the first of two causes
pub neither : (one other : Option Fault) → first_cause (one ∷ other ∷ []) ≡ None → (one ≡ None) × (other ≡ None)
neither None None e = (refl, refl)
neither None (Some fault) e = absurd cc
neither (Some fault) other e = absurd cc

pub both_none : (one other : Option Fault) → one ≡ None → other ≡ None → first_cause (one ∷ other ∷ []) ≡ None
both_none one other first second = ap (λ o. first_cause (o ∷ other ∷ [])) first ∙ ap (λ o. first_cause (o ∷ [])) second

pub first_of : (one other : Option Fault) (fault : Fault) → one ≡ Some fault
    → first_cause (one ∷ other ∷ []) ≡ Some fault
first_of one other fault is = ap (λ o. first_cause (o ∷ other ∷ [])) is

pub second_of : (one other : Option Fault) (fault : Fault) → one ≡ None → other ≡ Some fault
    → first_cause (one ∷ other ∷ []) ≡ Some fault
second_of one other fault none is = ap (λ o. first_cause (o ∷ other ∷ [])) none ∙ ap (λ o. first_cause (o ∷ [])) is

-- a number that is not refused is the next one, of not too many
pub next_of : (additions number : ℕ) → number_refusal additions number ≡ None → (number ≡ additions + 1)
    × (additions < most_additions)
next_of additions number none =
    by (nat_le number additions) (nat_lt (additions + 1) number) (nat_le most_additions additions) refl refl refl none
  where
    by : (a b c : Bool) → nat_le number additions ≡ a → nat_lt (additions + 1) number ≡ b
        → nat_le most_additions additions ≡ c
        → first_cause (cause_if a Repeated ∷ cause_if b Gap ∷ cause_if c TooManyAdditions ∷ []) ≡ None
        → (number ≡ additions + 1) × (additions < most_additions)
    by false false false one two three e = (grind (arith, nat_tests, one, two), grind (arith, nat_tests, three))
    by true b c one two three e = absurd cc
    by false true c one two three e = absurd cc
    by false false true one two three e = absurd cc

pub addition_number : (w : Warehouse) (number : ℕ) (more : DimRows) → AdmitsRows w number more
    → number ≡ w.additions + 1
addition_number w number more admits =
    (next_of w.additions number (neither (number_refusal w.additions number) (addition_cause w.rows more) admits).0).0

-- rows that are valid after others may be added to them
pub valid_allows : (old new : DimRows) → IsValid (joined old new) → addition_cause old new ≡ None
valid_allows old new valid =
    four_none (length old.customers) (length old.suppliers) (length old.parts) (length old.dates)
    (dimension_cause customer_rules (old.customers ++ new.customers))
    (dimension_cause supplier_rules (old.suppliers ++ new.suppliers))
    (dimension_cause part_rules (old.parts ++ new.parts)) (dimension_cause date_rules (old.dates ++ new.dates)) valid
  where
    four_none : (k l m n : ℕ) (a b c d : Option Fault) → first_cause (a ∷ b ∷ c ∷ d ∷ []) ≡ None
        → first_cause (option_map (counted_after k) a ∷ option_map (counted_after l) b ∷ option_map (counted_after m) c
        ∷ option_map (counted_after n) d ∷ []) ≡ None
    four_none k l m n None None None None e = refl
    four_none k l m n None None None (Some fault) e = absurd cc
    four_none k l m n None None (Some fault) d e = absurd cc
    four_none k l m n None (Some fault) c d e = absurd cc
    four_none k l m n (Some fault) b c d e = absurd cc
