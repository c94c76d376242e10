-- Reading the fields of a line, column by column.
use Rattle.std.proofs.Common.{◌≡◌, ◌∙◌, sym, ap, subst, refl, ℕ, ◌+◌, ◌<◌, ◌≤◌, Bool, true, false, cond, List, [], ◌∷◌}
use Rattle.std.proofs.Common.{length, get_or, get_or-set_other, get_or-set_same, drop, arith, below_more, Some, None}
use Rattle.std.specs.Prelude.{suc, zero, ◌&&◌, nat_lt, nat_le, slice_set, slice_index, slice_index_or, Option}
use Rattle.std.specs.List.{list_all}
use Rattle.std.proofs.lemmas.Bool.Decides.{nat_tests}
use Rattle.std.proofs.Math.ListN.{drop_of_length-le, length-set}
use Rattle.cube_model.specs.declared.fault.Fault.{Fault}
use Rattle.cube_model.specs.Causes.{first_cause}
use Rattle.cube_model.specs.Limits.{longest_text}
use Rattle.batch_loader.specs.declared.columns.Column.{Column}
use Rattle.batch_loader.specs.declared.columns.Column.TheVariants.{Number, Text, Skipped}
use Rattle.batch_loader.specs.Columns.{field_fault, fields_fault, number_in, field_text}
use Rattle.batch_loader.specs.Fields.{parts_at}
use Rattle.batch_loader.specs.Numbers.{is_digit, digits_value, spells_number, number_spelled}
use Rattle.batch_loader.specs.Parsing.{FitsField, AreNumbers, ReadsField, ReadsFields}

pub length-parts_at : (line ends : List ℕ) (from : ℕ) → length (parts_at line from ends) ≡ length ends
length-parts_at line [] from = refl
length-parts_at line (end ∷ ends) from = ap suc (length-parts_at line ends (end + 1))

-- what the loop keeps that reads the fields of n columns
pub record IsRead (line n : ℕ) (columns : List Column) (fields : List (List ℕ)) (numbers : List ℕ) (place : ℕ) : Type 0
  where
    pub fault : fields_fault line 1 columns fields ≡ fields_fault line (place + 1) (drop place columns)
        (drop place fields)
    pub numbers_fit : (k : ℕ) → k < place
        → FitsField (slice_index_or columns k Skipped) (number_in fields k) (get_or numbers k 0)
    pub count : length numbers ≡ n
    pub columns_count : length columns ≡ n
    pub fields_count : length fields ≡ n

drop_next : {X : Type 0} (items : List X) (default : X) (i : ℕ) → i < length items
    → drop i items ≡ slice_index_or items i default ∷ drop (i + 1) items
drop_next [] default i below = absurd (omega arith)
drop_next (item ∷ items) default zero below = refl
drop_next (item ∷ items) default (suc i) below = drop_next items default i (omega arith)
    ∙ ap (λ n. slice_index_or items i default ∷ drop n (item ∷ items)) (shifted i)
  where
    shifted : (i : ℕ) → suc (i + 1) ≡ suc i + 1
    shifted i = omega arith

-- the fault of the fields from a place on, by the field there
fault-next : (line place : ℕ) (columns : List Column) (fields : List (List ℕ)) → place < length columns
    → place < length fields
    → fields_fault line (place + 1) (drop place columns) (drop place fields)
    ≡ first_cause (field_fault line (place + 1) (slice_index_or columns place Skipped) (field_text fields place)
    ∷ fields_fault line (place + 1 + 1) (drop (place + 1) columns) (drop (place + 1) fields) ∷ [])
fault-next line place columns fields in_columns in_fields =
    ap (λ cs. fields_fault line (place + 1) cs (drop place fields)) (drop_next columns Skipped place in_columns)
    ∙ ap (λ ts. fields_fault line (place + 1) (slice_index_or columns place Skipped ∷ drop (place + 1) columns) ts)
    (drop_next fields [] place in_fields)

only_cause : (cause : Option Fault) → first_cause (cause ∷ []) ≡ cause
only_cause None = refl
only_cause (Some fault) = refl

-- a field is read, and fits
pub IsRead-next : (line n : ℕ) (columns : List Column) (fields : List (List ℕ)) (numbers : List ℕ) (place number : ℕ)
    → place < n
    → field_fault line (place + 1) (slice_index_or columns place Skipped) (field_text fields place) ≡ None
    → FitsField (slice_index_or columns place Skipped) (number_in fields place) number
    → IsRead line n columns fields numbers place
    → IsRead line n columns fields (slice_set numbers place number) (place + 1)
IsRead-next line n columns fields numbers place number below fits is before = record {
  fault = before.fault
      ∙ fault-next line place columns fields (omega (arith, before.columns_count)) (omega (arith, before.fields_count))
      ∙ ap (λ cause. first_cause
      (cause ∷ fields_fault line (place + 1 + 1) (drop (place + 1) columns) (drop (place + 1) fields) ∷ [])) fits
      ∙ only_cause (fields_fault line (place + 1 + 1) (drop (place + 1) columns) (drop (place + 1) fields));
  numbers_fit = below_more _ _
      (λ k less. subst (FitsField (slice_index_or columns k Skipped) (number_in fields k))
      (sym (get_or-set_other numbers place k number 0 (omega arith))) (before.numbers_fit k less))
      (subst (FitsField (slice_index_or columns place Skipped) (number_in fields place))
      (sym (get_or-set_same numbers place number 0 (omega (arith, before.count)))) is);
  count = length-set numbers place number ∙ before.count;
  columns_count = before.columns_count;
  fields_count = before.fields_count;
}

-- a field is refused
pub IsRead-refused : (line n : ℕ) (columns : List Column) (fields : List (List ℕ)) (numbers : List ℕ) (place : ℕ)
    (fault : Fault) → place < n
    → field_fault line (place + 1) (slice_index_or columns place Skipped) (field_text fields place) ≡ Some fault
    → IsRead line n columns fields numbers place → fields_fault line 1 columns fields ≡ Some fault
IsRead-refused line n columns fields numbers place fault below refused before =
    before.fault
    ∙ fault-next line place columns fields (omega (arith, before.columns_count))
    (omega (arith, before.fields_count))
    ∙ ap (λ cause. first_cause
    (cause ∷ fields_fault line (place + 1 + 1) (drop (place + 1) columns) (drop (place + 1) fields) ∷ [])) refused

-- all fields were read
pub IsRead-fits : (line n : ℕ) (columns : List Column) (fields : List (List ℕ)) (numbers : List ℕ) (place : ℕ)
    → n ≤ place
    → IsRead line n columns fields numbers place → fields_fault line 1 columns fields ≡ None
IsRead-fits line n columns fields numbers place last before =
    before.fault
    ∙ ap (λ cs. fields_fault line (place + 1) cs (drop place fields))
    (drop_of_length-le columns (omega (arith, before.columns_count)))

AreNumbers-from : (first : ℕ) (columns : List Column) (fields : List (List ℕ)) (numbers : List ℕ)
    → ((k : ℕ) → k < length columns
    → FitsField (slice_index_or columns k Skipped) (number_in fields (first + k)) (get_or numbers (first + k) 0))
    → AreNumbers first columns fields numbers
AreNumbers-from first [] fields numbers each = tt
AreNumbers-from first (column ∷ columns) fields numbers each = (
  subst (λ n. FitsField column (number_in fields n) (get_or numbers n 0)) (at_first first) (each 0 (omega arith)),
  AreNumbers-from (suc first) columns fields numbers
      (λ k less. subst (λ n. FitsField (slice_index_or columns k Skipped) (number_in fields n) (get_or numbers n 0))
      (later first k) (each (suc k) (omega arith))),
)
  where
    at_first : (first : ℕ) → first + 0 ≡ first
    at_first first = omega arith

    later : (first k : ℕ) → first + suc k ≡ suc first + k
    later first k = omega arith

pub IsRead-numbers : (line n : ℕ) (columns : List Column) (fields : List (List ℕ)) (numbers : List ℕ) (place : ℕ)
    → n ≤ place
    → IsRead line n columns fields numbers place → AreNumbers 0 columns fields numbers
IsRead-numbers line n columns fields numbers place last before =
    AreNumbers-from 0 columns fields numbers
    (λ k less. subst (λ n. FitsField (slice_index_or columns k Skipped) (number_in fields n) (get_or numbers n 0))
    (sym (omega arith)) (before.numbers_fit k (omega (arith, before.columns_count))))

-- a number that a text spells
record IsSpelled (limit number : ℕ) (text : List ℕ) : Type 0 where
  pub value : number ≡ digits_value text
  pub within : number ≤ limit
  pub spells : spells_number limit text ≡ true

spelled : (limit number : ℕ) (text : List ℕ) → Some number ≡ number_spelled limit text → IsSpelled limit number text
spelled limit number text is =
    let parts = by_tests (nat_lt 0 (length text)) (list_all is_digit text) (nat_le (digits_value text) limit)
    (digits_value text) is in
    record { value = parts.0; within = at_most (digits_value text) parts.0 parts.1; spells = parts.2 }
  where
    by_tests : (some digits small : Bool) (value : ℕ) → Some number ≡ cond (some && (digits && small)) (Some value) None
        → (number ≡ value) × (small ≡ true) × ((some && (digits && small)) ≡ true)
    by_tests true true true value is = (cc, refl, refl)
    by_tests true true false value is = absurd (cc)
    by_tests true false small value is = absurd (cc)
    by_tests false digits small value is = absurd (cc)

    at_most : (value : ℕ) → number ≡ value → nat_le value limit ≡ true → number ≤ limit
    at_most value same small = grind (arith, nat_tests)

-- fields that are read are the numbers that they spell
pub ReadsFields-numbers : (place : ℕ) (columns : List Column) (fields : List (List ℕ)) (numbers : List ℕ)
    → ReadsFields place columns fields numbers → AreNumbers place columns fields numbers
ReadsFields-numbers place [] fields numbers read = tt
ReadsFields-numbers place (column ∷ columns) fields numbers read = (
  fits column (field_text fields place) (slice_index numbers place) read.0,
  ReadsFields-numbers (suc place) columns fields numbers read.1,
)
  where
    fits : (column : Column) (text : List ℕ) (number : ℕ) → ReadsField column text number
        → FitsField column (digits_value text) number
    fits (Number limit) text number is = let number_is = spelled limit number text is in
        (number_is.value, number_is.within)
    fits Text text number is = tt
    fits Skipped text number is = tt

-- a field that is read has no fault
ReadsField-fits : (line place : ℕ) (column : Column) (text : List ℕ) (number : ℕ) → ReadsField column text number
    → field_fault line place column text ≡ None
ReadsField-fits line place (Number limit) text number is = rw (spelled limit number text is).spells refl
ReadsField-fits line place Text text number is = rw (short (length text) is) refl
  where
    short : (n : ℕ) → n ≤ longest_text → nat_lt longest_text n ≡ false
    short n small = grind (arith, nat_tests)
ReadsField-fits line place Skipped text number is = refl

-- fields that are read have no fault
pub ReadsFields-fits : (line place : ℕ) (columns : List Column) (fields : List (List ℕ)) (numbers : List ℕ)
    → length fields ≡ place + length columns
    → ReadsFields place columns fields numbers → fields_fault line (place + 1) columns (drop place fields) ≡ None
ReadsFields-fits line place [] fields numbers count read = refl
ReadsFields-fits line place (column ∷ columns) fields numbers count read =
    ap (λ texts. fields_fault line (place + 1) (column ∷ columns) texts) (drop_next fields [] place (omega arith))
    ∙ ap (λ cause. first_cause (cause ∷ fields_fault line (place + 1 + 1) columns (drop (place + 1) fields) ∷ []))
    (ReadsField-fits line (place + 1) column (field_text fields place) (slice_index numbers place) read.0)
    ∙ only_cause (fields_fault line (place + 1 + 1) columns (drop (place + 1) fields))
    ∙ ap (λ next. fields_fault line (next + 1) columns (drop next fields)) (one_more place)
    ∙ ReadsFields-fits line (suc place) columns fields numbers (omega arith) read.1
  where
    one_more : (place : ℕ) → place + 1 ≡ suc place
    one_more place = omega arith
