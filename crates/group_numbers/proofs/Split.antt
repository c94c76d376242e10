-- Conditions and columns, dimension by dimension.
use Rattle.std.proofs.Common.{◌≡◌, ◌∙◌, ap, refl, ℕ, Bool, true, false, cond, ◌&&◌, List, [], ◌∷◌}
use Rattle.std.specs.List.{list_any, list_all}
use Rattle.std.specs.Str.{bytes_eq}
use Rattle.cube_model.specs.declared.attr.Attr.{Attr}
use Rattle.cube_model.specs.declared.attr.Axis.{Axis}
use Rattle.cube_model.specs.declared.attr.Axis.TheVariants.{Customer, Supplier, Part, Date}
use Rattle.cube_model.specs.declared.query.Cond.{Cond}
use Rattle.cube_model.specs.declared.query.Cond.TheVariants.{OneOf, Between, Quantity, Discount}
use Rattle.cube_model.specs.declared.rows.DimRows.{DimRows}
use Rattle.cube_model.specs.declared.rows.LineOrder.{LineOrder}
use Rattle.cube_model.specs.Attributes.{attribute_of, axis_of, key_on}
use Rattle.cube_model.specs.Places.{row_index_of, text_at}
use Rattle.cube_model.specs.Selection.{holds_of, is_selected, text_le}
use Rattle.group_numbers.specs.Parts.{is_same, holds_at, holds_in}
use Rattle.group_numbers.proofs.AtPlaces.{attribute_at_place}

-- what five tests say together
abbrev pub all_five : Bool → Bool → Bool → Bool → Bool → Bool
all_five n c s p d = n && (c && (s && (p && d)))

-- five tests of one thing and of others are five tests of each
interchange : (n c s p d n' c' s' p' d' : Bool)
    → (all_five n c s p d && all_five n' c' s' p' d') ≡ all_five (n && n') (c && c') (s && s') (p && p') (d && d')
interchange false c s p d n' c' s' p' d' = refl
interchange true false s p d true c' s' p' d' = refl
interchange true false s p d false c' s' p' d' = refl
interchange true true false p d true true s' p' d' = refl
interchange true true false p d true false s' p' d' = refl
interchange true true false p d false c' s' p' d' = refl
interchange true true true false d true true true p' d' = refl
interchange true true true false d true true false p' d' = refl
interchange true true true false d true false s' p' d' = refl
interchange true true true false d false c' s' p' d' = refl
interchange true true true true false true true true true d' = refl
interchange true true true true false true true true false d' = refl
interchange true true true true false true true false p' d' = refl
interchange true true true true false true false s' p' d' = refl
interchange true true true true false false c' s' p' d' = refl
interchange true true true true true n' c' s' p' d' = refl

-- a test on one dimension among the tests on all of them
among : (axis : Axis) (b : Bool)
    → b ≡ all_five true (cond (is_same axis Customer) b true) (cond (is_same axis Supplier) b true)
    (cond (is_same axis Part) b true) (cond (is_same axis Date) b true)
among Customer true = refl
among Customer false = refl
among Supplier true = refl
among Supplier false = refl
among Part true = refl
among Part false = refl
among Date true = refl
among Date false = refl

alone : (b : Bool) → b ≡ all_five b true true true true
alone true = refl
alone false = refl

module _ (dimensions : DimRows) (row : LineOrder) where
  -- the place of a fact row on a dimension
  abbrev pub place_on : Axis → ℕ
  place_on axis = row_index_of dimensions axis (key_on axis row)

  -- a test on the attribute's own dimension, at each dimension
  on_axis : (own axis : Axis) (text : List ℕ) (at : Axis → List ℕ) (test : List ℕ → Bool) → text ≡ at own
      → cond (is_same own axis) (test text) true ≡ cond (is_same own axis) (test (at axis)) true
  on_axis Customer Customer text at test is = ap test is
  on_axis Customer Supplier text at test is = refl
  on_axis Customer Part text at test is = refl
  on_axis Customer Date text at test is = refl
  on_axis Supplier Customer text at test is = refl
  on_axis Supplier Supplier text at test is = ap test is
  on_axis Supplier Part text at test is = refl
  on_axis Supplier Date text at test is = refl
  on_axis Part Customer text at test is = refl
  on_axis Part Supplier text at test is = refl
  on_axis Part Part text at test is = ap test is
  on_axis Part Date text at test is = refl
  on_axis Date Customer text at test is = refl
  on_axis Date Supplier text at test is = refl
  on_axis Date Part text at test is = refl
  on_axis Date Date text at test is = ap test is

  same_place : (attr : Attr) (axis : Axis) (test : List ℕ → Bool)
      → cond (is_same (axis_of attr) axis) (test (attribute_of dimensions attr row)) true
      ≡ cond (is_same (axis_of attr) axis) (test (text_at dimensions attr (place_on axis))) true
  same_place attr axis test =
      on_axis (axis_of attr) axis (attribute_of dimensions attr row) (λ other. text_at dimensions attr (place_on other))
      test (attribute_at_place dimensions attr row)

  by_text : (attr : Attr) (test : List ℕ → Bool) → test (attribute_of dimensions attr row) ≡ all_five true
      (cond (is_same (axis_of attr) Customer) (test (text_at dimensions attr (place_on Customer))) true)
      (cond (is_same (axis_of attr) Supplier) (test (text_at dimensions attr (place_on Supplier))) true)
      (cond (is_same (axis_of attr) Part) (test (text_at dimensions attr (place_on Part))) true)
      (cond (is_same (axis_of attr) Date) (test (text_at dimensions attr (place_on Date))) true)
  by_text attr test = among (axis_of attr) (test (attribute_of dimensions attr row))
      ∙ (λ i. all_five true (same_place attr Customer test i) (same_place attr Supplier test i)
      (same_place attr Part test i) (same_place attr Date test i))

  -- one condition
  one : (condition : Cond) → holds_of dimensions condition row ≡ all_five (holds_in row condition)
      (holds_at dimensions Customer (place_on Customer) condition)
      (holds_at dimensions Supplier (place_on Supplier) condition)
      (holds_at dimensions Part (place_on Part) condition) (holds_at dimensions Date (place_on Date) condition)
  one (OneOf attr texts) = by_text attr (λ text. list_any (λ other. bytes_eq other text) texts)
  one (Between attr low high) = by_text attr (λ text. text_le low text && text_le text high)
  one (Quantity low high) = alone (holds_in row (Quantity low high))
  one (Discount low high) = alone (holds_in row (Discount low high))

  -- the places of a fact row pass all conditions on their dimensions
  abbrev pub passes_at : List Cond → Axis → Bool
  passes_at conditions axis = list_all (holds_at dimensions axis (place_on axis)) conditions

  -- a fact row is selected exactly if its numbers and its places are
  pub selected_by_places : (conditions : List Cond) → is_selected dimensions conditions row
      ≡ all_five (list_all (holds_in row) conditions) (passes_at conditions Customer) (passes_at conditions Supplier)
      (passes_at conditions Part) (passes_at conditions Date)
  selected_by_places [] = refl
  selected_by_places (condition ∷ conditions) = (λ i. one condition i && selected_by_places conditions i)
      ∙ interchange (holds_in row condition) (holds_at dimensions Customer (place_on Customer) condition)
      (holds_at dimensions Supplier (place_on Supplier) condition)
      (holds_at dimensions Part (place_on Part) condition) (holds_at dimensions Date (place_on Date) condition)
      (list_all (holds_in row) conditions) (passes_at conditions Customer) (passes_at conditions Supplier)
      (passes_at conditions Part) (passes_at conditions Date)
