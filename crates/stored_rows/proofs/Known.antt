-- Look-ups of known keys after rows were added.
use Rattle.std.proofs.Common.{◌≡◌, ◌∙◌, ap, refl, arith, ℕ, zero, suc, ◌+◌, Bool, true, false, List, [], ◌∷◌, ◌++◌}
use Rattle.std.proofs.Common.{Option, Some, None, is_none, All}
use Rattle.std.specs.Prelude.{◌==◌, unwrap_or, find}
use Rattle.std.specs.Option.{option_and_then, option_or}
use Rattle.std.proofs.lemmas.List.Folds.{find-append}
use Rattle.cube_model.specs.declared.attr.Attr.{Attr}
use Rattle.cube_model.specs.declared.attr.Axis.{Axis}
use Rattle.cube_model.specs.declared.attr.Axis.TheVariants.{Customer, Supplier, Part, Date}
use Rattle.cube_model.specs.declared.fault.Fault.{Fault}
use Rattle.cube_model.specs.declared.fault.Fault.TheVariants.{UnknownCustomer, UnknownSupplier, UnknownPart}
use Rattle.cube_model.specs.declared.fault.Fault.TheVariants.{UnknownDate}
use Rattle.cube_model.specs.declared.rows.DimRows.{DimRows}
use Rattle.cube_model.specs.declared.rows.LineOrder.{LineOrder}
use Rattle.cube_model.specs.Admission.{unknown_axis, unknown_key}
use Rattle.cube_model.specs.Attributes.{attribute_at, attribute_of, axis_of, customer_of, date_of, key_on, of_customer}
use Rattle.cube_model.specs.Attributes.{of_date, of_part, of_supplier, part_of, supplier_of}
use Rattle.cube_model.specs.Causes.{cause_if, first_cause}
use Rattle.dimensions.specs.Added.{joined}

-- each key of a fact row is that of a dimension row
pub record HasKeys (rows : DimRows) (row : LineOrder) : Type 0 where
  pub customer : is_none (customer_of rows row.custkey) ≡ false
  pub supplier : is_none (supplier_of rows row.suppkey) ≡ false
  pub part : is_none (part_of rows row.partkey) ≡ false
  pub date : is_none (date_of rows row.orderdate) ≡ false

-- ---- no cause, so each key is known
no_cause : (test : Bool) (fault : Fault) (causes : List (Option Fault))
    → first_cause (cause_if test fault ∷ causes) ≡ None → (test ≡ false) × (first_cause causes ≡ None)
no_cause true fault causes e = cc
no_cause false fault causes e = (refl, e)

pub both : (cause : Option Fault) (causes : List (Option Fault)) → first_cause (cause ∷ causes) ≡ None
    → (cause ≡ None) × (first_cause causes ≡ None)
both None causes e = (refl, e)
both (Some fault) causes e = cc

keys_known : (rows : DimRows) (number : ℕ) (row : LineOrder) → unknown_axis rows number row ≡ None → HasKeys rows row
keys_known rows number row e =
    let dates = cause_if (is_none (date_of rows row.orderdate)) (UnknownDate number) ∷ [] in
    let parts = cause_if (is_none (part_of rows row.partkey)) (UnknownPart number) ∷ dates in
    let suppliers = cause_if (is_none (supplier_of rows row.suppkey)) (UnknownSupplier number) ∷ parts in
    let one = no_cause (is_none (customer_of rows row.custkey)) (UnknownCustomer number) suppliers e in
    let two = no_cause (is_none (supplier_of rows row.suppkey)) (UnknownSupplier number) parts one.1 in
    let three = no_cause (is_none (part_of rows row.partkey)) (UnknownPart number) dates two.1 in
    let four = no_cause (is_none (date_of rows row.orderdate)) (UnknownDate number) [] three.1 in
    record { customer = one.0; supplier = two.0; part = three.0; date = four.0 }

pub all_known : (rows : DimRows) (number : ℕ) (facts : List LineOrder) → unknown_key rows number facts ≡ None
    → All (HasKeys rows) facts
all_known rows number [] e k row within = absurd (omega (arith, within))
all_known rows number (first ∷ facts) e zero row within =
    keys_known rows number first (both (unknown_axis rows number first) _ e).0
all_known rows number (first ∷ facts) e (suc k) row within =
    let rest = both (unknown_key rows (number + 1) facts) [] (both (unknown_axis rows number first) _ e).1 in
    all_known rows (number + 1) facts rest.0 k row (omega (arith, within))

-- ---- a row that is found is found after more rows
kept : {X : Type 0} (one other : Option X) → is_none one ≡ false → option_or one other ≡ one
kept (Some x) other e = refl
kept None other e = cc

found : {X : Type 0} (p : X → Bool) (xs ys : List X) → is_none (find p xs) ≡ false → find p (xs ++ ys) ≡ find p xs
found p xs ys some = find-append p xs ys ∙ kept (find p xs) (find p ys) some

module _ (rows more : DimRows) (row : LineOrder) (has : HasKeys rows row) where
  pub customer_kept : customer_of (joined rows more) row.custkey ≡ customer_of rows row.custkey
  customer_kept = found (λ other. other.key == row.custkey) rows.customers more.customers has.customer

  pub supplier_kept : supplier_of (joined rows more) row.suppkey ≡ supplier_of rows row.suppkey
  supplier_kept = found (λ other. other.key == row.suppkey) rows.suppliers more.suppliers has.supplier

  pub part_kept : part_of (joined rows more) row.partkey ≡ part_of rows row.partkey
  part_kept = found (λ other. other.key == row.partkey) rows.parts more.parts has.part

  pub date_kept : date_of (joined rows more) row.orderdate ≡ date_of rows row.orderdate
  date_kept = found (λ other. other.key == row.orderdate) rows.dates more.dates has.date

  on_axis : (axis : Axis) (attr : Attr) → attribute_at (joined rows more) axis (key_on axis row) attr
      ≡ attribute_at rows axis (key_on axis row) attr
  on_axis Customer attr = ap (option_and_then (of_customer attr)) customer_kept
  on_axis Supplier attr = ap (option_and_then (of_supplier attr)) supplier_kept
  on_axis Part attr = ap (option_and_then (of_part attr)) part_kept
  on_axis Date attr = ap (option_and_then (of_date attr)) date_kept

  -- an attribute of the fact row
  pub attribute_kept : (attr : Attr) → attribute_of (joined rows more) attr row ≡ attribute_of rows attr row
  attribute_kept attr = ap (λ text. unwrap_or text []) (on_axis (axis_of attr) attr)

  -- the cause for which it is refused
  pub axis_kept : (number : ℕ) → unknown_axis (joined rows more) number row ≡ unknown_axis rows number row
  axis_kept number = λ i. first_cause (
      cause_if (is_none (customer_kept i)) (UnknownCustomer number)
      ∷ cause_if (is_none (supplier_kept i)) (UnknownSupplier number)
      ∷ cause_if (is_none (part_kept i)) (UnknownPart number)
      ∷ cause_if (is_none (date_kept i)) (UnknownDate number) ∷ [])
