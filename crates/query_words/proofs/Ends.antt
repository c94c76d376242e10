-- What is after the sign of a condition.
use Rattle.std.proofs.Common.{◌≡◌, ℕ, ◌≤◌, ◌+◌, List, refl, sym, ap, codes, eqb, length, arith}
use Rattle.std.specs.List.{count_by}
use Rattle.std.proofs.lemmas.List.Splits.{length-slice_split}
use Rattle.cube_model.specs.declared.attr.Attr.{Attr}
use Rattle.cube_model.specs.declared.attr.Attr.TheVariants.{CustomerCity, CustomerNation, CustomerRegion, SupplierCity}
use Rattle.cube_model.specs.declared.attr.Attr.TheVariants.{SupplierNation, SupplierRegion, PartBrand1, PartCategory}
use Rattle.cube_model.specs.declared.attr.Attr.TheVariants.{PartMfgr, DateKey, DateYearmonthnum, DateYear}
use Rattle.cube_model.specs.declared.attr.Attr.TheVariants.{DateYearmonth, DateWeeknuminyear}
use Rattle.cube_model.specs.declared.query.Cond.TheVariants.{OneOf, Between, Quantity, Discount}
use Rattle.cube_model.specs.Names.{attr_name}
use Rattle.mode_queries.specs.declared.query.ModeCond.TheVariants as modes
use Rattle.mode_queries.specs.Names.{ship_mode_name}
use Rattle.query_words.specs.declared.cube_parts.Condition.{Condition}
use Rattle.query_words.specs.declared.cube_parts.Condition.TheVariants.{Dimension, Modes}
use Rattle.query_words.specs.declared.known.Column.{Column}
use Rattle.query_words.specs.declared.known.Column.TheVariants.{Attribute, ShipMode}
use Rattle.query_words.specs.declared.known.Subject.{Subject}
use Rattle.query_words.specs.declared.known.Subject.TheVariants as subjects
use Rattle.query_words.specs.Known.{column_name}
use Rattle.query_words.specs.Spelled.{SpellsAfter}
use Rattle.query_words.specs.Words.{SpellsBounds, parts_by}
use Rattle.query_words.proofs.Shapes.{apart}

-- nothing that can be a column has the name of a number
pub no_such_number : (attr : Attr) → (attr_name attr ≡ codes "quantity" → ⊥) × (attr_name attr ≡ codes "discount" → ⊥)
no_such_number attr = elim attr as (λ a. (attr_name a ≡ codes "quantity" → ⊥) × (attr_name a ≡ codes "discount" → ⊥)) [
  | CustomerCity ↦
      (apart (attr_name CustomerCity) (codes "quantity") refl, apart (attr_name CustomerCity) (codes "discount") refl)
  | CustomerNation ↦ (
    apart (attr_name CustomerNation) (codes "quantity") refl,
    apart (attr_name CustomerNation) (codes "discount")
        refl,
  )
  | CustomerRegion ↦ (
    apart (attr_name CustomerRegion) (codes "quantity") refl,
    apart (attr_name CustomerRegion) (codes "discount")
        refl,
  )
  | SupplierCity ↦
      (apart (attr_name SupplierCity) (codes "quantity") refl, apart (attr_name SupplierCity) (codes "discount") refl)
  | SupplierNation ↦ (
    apart (attr_name SupplierNation) (codes "quantity") refl,
    apart (attr_name SupplierNation) (codes "discount")
        refl,
  )
  | SupplierRegion ↦ (
    apart (attr_name SupplierRegion) (codes "quantity") refl,
    apart (attr_name SupplierRegion) (codes "discount")
        refl,
  )
  | PartBrand1 ↦
      (apart (attr_name PartBrand1) (codes "quantity") refl, apart (attr_name PartBrand1) (codes "discount") refl)
  | PartCategory ↦
      (apart (attr_name PartCategory) (codes "quantity") refl, apart (attr_name PartCategory) (codes "discount") refl)
  | PartMfgr ↦ (apart (attr_name PartMfgr) (codes "quantity") refl, apart (attr_name PartMfgr) (codes "discount") refl)
  | DateKey ↦ (apart (attr_name DateKey) (codes "quantity") refl, apart (attr_name DateKey) (codes "discount") refl)
  | DateYearmonthnum ↦ (
    apart (attr_name DateYearmonthnum) (codes "quantity") refl,
    apart (attr_name DateYearmonthnum)
        (codes "discount") refl,
  )
  | DateYear ↦ (apart (attr_name DateYear) (codes "quantity") refl, apart (attr_name DateYear) (codes "discount") refl)
  | DateYearmonth ↦
      (apart (attr_name DateYearmonth) (codes "quantity") refl, apart (attr_name DateYearmonth) (codes "discount") refl)
  | DateWeeknuminyear ↦ (
    apart (attr_name DateWeeknuminyear) (codes "quantity") refl,
    apart (attr_name DateWeeknuminyear)
        (codes "discount") refl,
  )
]

pub no_number : (column : Column)
    → (column_name column ≡ codes "quantity" → ⊥) × (column_name column ≡ codes "discount" → ⊥)
no_number (Attribute attr) = no_such_number attr
no_number ShipMode = (apart ship_mode_name (codes "quantity") refl, apart ship_mode_name (codes "discount") refl)

-- a text has at least one part
pub some_part : (sign : ℕ) (text : List ℕ) → 1 ≤ length (parts_by sign text)
some_part sign text = let count : length (parts_by sign text) ≡ count_by (λ byte. eqb byte sign) text + 1 =
    length-slice_split
    (λ byte. eqb byte sign) text in omega arith

-- a range has two ends
bounds_two : (range : List ℕ) (m n : ℕ) → SpellsBounds range m n → length (parts_by 124 range) ≡ 2
bounds_two range m n bounds = ap length bounds.parts

pub two_ends : (subject : Subject) (range : List ℕ) (condition : Condition) → SpellsAfter subject 58 range condition
    → length (parts_by 124 range) ≡ 2
two_ends subject range (Dimension (OneOf attr texts)) after = absurd (omega (arith, after.sign_is))
two_ends subject range (Dimension (Between attr low high)) after = sym (ap length after.spelled)
two_ends subject range (Dimension (Quantity m n)) after = bounds_two range m n after.spelled
two_ends subject range (Dimension (Discount m n)) after = bounds_two range m n after.spelled
two_ends subject range (Modes (modes.OneOf texts)) after = absurd (omega (arith, after.sign_is))
two_ends subject range (Modes (modes.Between low high)) after = sym (ap length after.spelled)

-- texts are of what can be a column
pub no_texts : (subject : Subject) (list : List ℕ) (condition : Condition)
    → (column_is : (column : Column) → subject ≡ subjects.Member column → ⊥) → SpellsAfter subject 61 list condition
    → ⊥
no_texts (subjects.Member column) list condition none after = none column refl
no_texts subjects.Quantity list (Dimension (OneOf attr texts)) none after = (no_such_number attr).0 after.name_is
no_texts subjects.Quantity list (Dimension (Between attr low high)) none after = (no_such_number attr).0 after.name_is
no_texts subjects.Quantity list (Dimension (Quantity m n)) none after = absurd (omega (arith, after.sign_is))
no_texts subjects.Quantity list (Dimension (Discount m n)) none after = absurd (omega (arith, after.sign_is))
no_texts subjects.Quantity list (Modes condition) none after = (no_number ShipMode).0 after.name_is
no_texts subjects.Discount list (Dimension (OneOf attr texts)) none after = (no_such_number attr).1 after.name_is
no_texts subjects.Discount list (Dimension (Between attr low high)) none after = (no_such_number attr).1 after.name_is
no_texts subjects.Discount list (Dimension (Quantity m n)) none after = absurd (omega (arith, after.sign_is))
no_texts subjects.Discount list (Dimension (Discount m n)) none after = absurd (omega (arith, after.sign_is))
no_texts subjects.Discount list (Modes condition) none after = (no_number ShipMode).1 after.name_is
