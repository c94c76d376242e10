-- Lemmas of `dims`, by subject.
use Rattle.std.proofs.Common.{◌≡◌, ◌<◌, ◌∙◌, ◌==◌, zero, suc, sym, ap, refl, subst, arith, ℕ, Bool, true, false, ◌||◌}
use Rattle.std.proofs.Common.{not, nat_lt, List, [], ◌∷◌, ◌++◌, map, length, get_or, Some, None, ◌⊎◌, inl, inr, Option}
use Rattle.std.proofs.Common.{Ok, Err}
use Rattle.std.specs.List.{filter, list_any, position_or_len, AllByRecursion}
use Rattle.std.specs.Str.{bytes_eq}
use Rattle.std.proofs.lemmas.List.{length-map, map-append}
use Rattle.std.proofs.lemmas.List.Elements.{filter-append}
use Rattle.cube_model.specs.declared.attr.Axis.{Axis}
use Rattle.cube_model.specs.declared.attr.Axis.TheVariants.{Customer, Supplier, Part, Date}
use Rattle.cube_model.specs.declared.rows.DimRows.{DimRows}
use Rattle.cube_model.specs.Places.{row_index_of, row_count_of}
use Rattle.dictionary.specs.Columns.{place_of, codes_of}
use Rattle.dictionary.specs.Dictionary.{firsts}
use Rattle.dictionary.proofs.CallerLemmas.{bytes_eq-refl, list_any-firsts, list_any_place, place_append, place_within}
use Rattle.dimensions.specs.Added.{joined, added_cause, addition_cause, counted_after}
use Rattle.dimensions.specs.Coded.{place_texts, text_next_to, texts_at_places, texts_below}
use Rattle.dimensions.specs.KeptCodes.{GoesOnFrom, KeepCodes}
use Rattle.dimensions.specs.Shapes.{lower_of, text_rules}
use Rattle.dimensions.specs.Shown.{rows_on}
use Rattle.dimensions.specs.TextRows.{TextRow, text_in, column_of, row_of_customer, row_of_supplier, row_of_part}
use Rattle.dimensions.specs.TextRows.{row_of_date}
use Rattle.std.specs.Option.{option_map}
use Rattle.cube_model.specs.declared.fault.Fault.{Fault}
use Rattle.cube_model.specs.declared.fault.Fault.TheVariants.{Memory}
use Rattle.cube_model.specs.Causes.{first_cause}
use Rattle.cube_model.specs.Validity.{HasShortTexts, HaveShortTexts, IsValid, customer_rules, supplier_rules}
use Rattle.cube_model.specs.Validity.{part_rules, date_rules, dimension_cause}
use Rattle.dimensions.specs.declared.dimension.Dimension.{Dimension}
use Rattle.dimensions.specs.Dimensions.{ExtendsDimension, HoldsDimension, HoldsRows, IsDimension}
use Rattle.dimensions.proofs.ShownLaws.{Passes, customer_cause, supplier_cause, part_cause, date_cause}

-- ==== Codes that stay where rows come after others.

or_after : (a b : Bool) → b ≡ true → (a || b) ≡ true
or_after true b e = refl
or_after false b e = e

-- functions that are the same at each text of a list that is among others
same_among : {X : Type 0} (f g : List ℕ → X) (all texts : List (List ℕ))
    → ((text : List ℕ) → list_any (bytes_eq text) texts ≡ true → list_any (bytes_eq text) all ≡ true)
    → ((text : List ℕ) → list_any (bytes_eq text) all ≡ true → f text ≡ g text) → map f texts ≡ map g texts
same_among f g all [] among same = refl
same_among f g all (text ∷ texts) among same =
    let here = same text (among text (ap (λ b. b || list_any (bytes_eq text) texts) (bytes_eq-refl text))) in
    let rest = same_among f g all texts
    (λ other some. among other (or_after (bytes_eq other text) (list_any (bytes_eq other) texts) some)) same in
    λ i. here i ∷ rest i

get_front : {X : Type 0} (xs ys : List X) (k : ℕ) (d : X) → k < length xs → get_or (xs ++ ys) k d ≡ get_or xs k d
get_front [] ys k d lt = absurd (omega (arith, lt))
get_front (x ∷ xs) ys zero d lt = refl
get_front (x ∷ xs) ys (suc k) d lt = get_front xs ys k d (omega (arith, lt))

-- ---- texts in the order of their first use

pub firsts_go_on : (texts others : List (List ℕ)) → GoesOnFrom (firsts texts) (firsts (texts ++ others))
firsts_go_on [] others = (firsts others, refl)
firsts_go_on (text ∷ texts) others =
    let rest = firsts_go_on texts others in (
      filter (λ other. not (bytes_eq text other)) rest.0,
      ap (λ l. text ∷ filter (λ other. not (bytes_eq text other)) l) rest.1
          ∙ ap (λ l. text ∷ l) (filter-append (λ other. not (bytes_eq text other)) (firsts texts) rest.0),
    )

-- the codes of a column of texts go on
pub codes_go_on : (texts others : List (List ℕ)) → GoesOnFrom (codes_of texts) (codes_of (texts ++ others))
codes_go_on texts others =
    let more = firsts_go_on texts others in
    let same : map (place_of (firsts (texts ++ others))) texts ≡ codes_of texts =
    same_among (place_of (firsts (texts ++ others))) (place_of (firsts texts)) texts texts (λ text some. some)
    (λ text some.
    ap (position_or_len (bytes_eq text)) more.1
    ∙ place_append (bytes_eq text) (firsts texts) more.0 (list_any-firsts text texts ∙ some)) in (
      map (place_of (firsts (texts ++ others))) others,
      map-append (place_of (firsts (texts ++ others))) texts others
          ∙ ap (λ l. l ++ map (place_of (firsts (texts ++ others))) others) same,
    )

-- the texts next_to those of a lower column go on
next_to_go_on : (lowers texts more_lowers more : List (List ℕ)) → length texts ≡ length lowers
    → GoesOnFrom (place_texts (Some lowers) texts) (place_texts (Some (lowers ++ more_lowers)) (texts ++ more))
next_to_go_on lowers texts more_lowers more many =
    let next = firsts_go_on lowers more_lowers in
    let next_to : List ℕ → List ℕ = text_next_to (lowers ++ more_lowers) (texts ++ more) in
    let same : map next_to (firsts lowers) ≡ map (text_next_to lowers texts) (firsts lowers) =
    same_among next_to (text_next_to lowers texts) lowers (firsts lowers)
    (λ text some. sym (list_any-firsts text lowers)
    ∙ some) (λ text some.
    let within = place_within (bytes_eq text) lowers some in
    ap (λ n. get_or (texts ++ more) n []) (place_append (bytes_eq text) lowers more_lowers some)
    ∙ get_front texts more (position_or_len (bytes_eq text) lowers) [] (omega (arith, within, many))) in (
      map next_to next.0,
      ap (map next_to) next.1 ∙ map-append next_to (firsts lowers) next.0
          ∙ ap (λ l. l ++ map next_to next.0) same,
    )

-- ---- columns

module _ (axis : Axis) (old new : List TextRow) where
  pub places_go_on : (column : ℕ)
      → GoesOnFrom (texts_at_places axis column old) (texts_at_places axis column (old ++ new))
  places_go_on column =
      elim (lower_of axis column) as
      (λ o. GoesOnFrom (place_texts (texts_below o old) (column_of column old))
      (place_texts (texts_below o (old ++ new)) (column_of column (old ++ new)))) [
        | None ↦ (column_of column new, map-append (text_in column) old new)
        | Some lower ↦
            let on = next_to_go_on (column_of lower old) (column_of column old) (column_of lower new)
            (column_of column new)
            (length-map old (text_in column) ∙ sym (length-map old (text_in lower))) in (
              on.0,
              (λ i. place_texts (Some (map-append (text_in lower) old new i)) (map-append (text_in column) old new i))
                  ∙ on.1,
            )
      ]

  pub texts_stay : (column : ℕ)
      → GoesOnFrom (firsts (texts_at_places axis column old)) (firsts (texts_at_places axis column (old ++ new)))
  texts_stay column =
      let on = places_go_on column in
      let more = firsts_go_on (texts_at_places axis column old) on.0 in
      (more.0, ap firsts on.1 ∙ more.1)

  pub codes_stay : (column : ℕ)
      → GoesOnFrom (codes_of (texts_at_places axis column old)) (codes_of (texts_at_places axis column (old ++ new)))
  codes_stay column =
      let on = places_go_on column in
      let more = codes_go_on (texts_at_places axis column old) on.0 in
      (more.0, ap codes_of on.1 ∙ more.1)

-- ---- the four dimensions

pub rows_on-joined : (old new : DimRows) (axis : Axis) → rows_on (joined old new) axis ≡ rows_on old axis
    ++ rows_on new axis
rows_on-joined old new Customer = map-append row_of_customer old.customers new.customers
rows_on-joined old new Supplier = map-append row_of_supplier old.suppliers new.suppliers
rows_on-joined old new Part = map-append row_of_part old.parts new.parts
rows_on-joined old new Date = map-append row_of_date old.dates new.dates

-- the first row of a key stays the first
first_stays : {Row : Type 0} (p : Row → Bool) (old new : List Row) → position_or_len p old < length old
    → position_or_len p (old ++ new) ≡ position_or_len p old
first_stays p old new lt =
    let test : nat_lt (position_or_len p old) (length old) ≡ true = grind arith in
    place_append p old new (list_any_place p old ∙ test)

index_stays : (old new : DimRows) (axis : Axis) (key : ℕ) → row_index_of old axis key < row_count_of old axis
    → row_index_of (joined old new) axis key ≡ row_index_of old axis key
index_stays old new Customer key lt = first_stays (λ row. row.key == key) old.customers new.customers lt
index_stays old new Supplier key lt = first_stays (λ row. row.key == key) old.suppliers new.suppliers lt
index_stays old new Part key lt = first_stays (λ row. row.key == key) old.parts new.parts lt
index_stays old new Date key lt = first_stays (λ row. row.key == key) old.dates new.dates lt

pub keep_codes : (old new : DimRows) → KeepCodes old (joined old new)
keep_codes old new = record {
  texts = λ axis column lt. subst
      (λ rows. GoesOnFrom (firsts (texts_at_places axis column (rows_on old axis)))
      (firsts (texts_at_places axis column rows))) (sym (rows_on-joined old new axis))
      (texts_stay axis (rows_on old axis) (rows_on new axis) column);
  codes = λ axis column lt. subst
      (λ rows. GoesOnFrom (codes_of (texts_at_places axis column (rows_on old axis)))
      (codes_of (texts_at_places axis column rows))) (sym (rows_on-joined old new axis))
      (codes_stay axis (rows_on old axis) (rows_on new axis) column);
  keys = λ axis. (
    map (λ row. row.key) (rows_on new axis),
    ap (map (λ row. row.key)) (rows_on-joined old new axis)
        ∙ map-append (λ row. row.key) (rows_on old axis) (rows_on new axis),
  );
  row_indexes = index_stays old new;
}

-- ==== The four dimensions with more rows after their own.

-- ---- short texts

all_append : {X : Type 0} (P : X → Type 0) (xs ys : List X) → AllByRecursion P xs → AllByRecursion P ys
    → AllByRecursion P (xs ++ ys)
all_append P [] ys all more = more
all_append P (x ∷ xs) ys all more = (all.0, all_append P xs ys all.1 more)

pub joined_short : (old new : DimRows) → HaveShortTexts old → HaveShortTexts new → HaveShortTexts (joined old new)
joined_short old new short more = record {
  customers = all_append (HasShortTexts customer_rules) old.customers new.customers short.customers more.customers;
  suppliers = all_append (HasShortTexts supplier_rules) old.suppliers new.suppliers short.suppliers more.suppliers;
  parts = all_append (HasShortTexts part_rules) old.parts new.parts short.parts more.parts;
  dates = all_append (HasShortTexts date_rules) old.dates new.dates short.dates more.dates;
}

-- ---- the rows that are there

none_of_four : (a b c d : Option Fault) → first_cause (a ∷ b ∷ c ∷ d ∷ []) ≡ None → (a ≡ None) × (b ≡ None) × (c ≡ None)
    × (d ≡ None)
none_of_four None None None None e = (refl, refl, refl, refl)
none_of_four None None None (Some fault) e = absurd cc
none_of_four None None (Some fault) d e = absurd cc
none_of_four None (Some fault) c d e = absurd cc
none_of_four (Some fault) b c d e = absurd cc

pub passes_valid : (rows : DimRows) (axis : Axis) → IsValid rows → Passes axis rows
passes_valid rows axis valid =
    let none = none_of_four (dimension_cause customer_rules rows.customers)
    (dimension_cause supplier_rules rows.suppliers) (dimension_cause part_rules rows.parts)
    (dimension_cause date_rules rows.dates) valid in
    at axis none
  where
    at : (axis : Axis) → (dimension_cause customer_rules rows.customers ≡ None)
        × (dimension_cause supplier_rules rows.suppliers ≡ None) × (dimension_cause part_rules rows.parts ≡ None)
        × (dimension_cause date_rules rows.dates ≡ None) → Passes axis rows
    at Customer none = customer_cause rows ∙ none.0
    at Supplier none = supplier_cause rows ∙ none.1
    at Part none = part_cause rows ∙ none.2
    at Date none = date_cause rows ∙ none.3

-- ---- the rows that are added

module _ (old new : DimRows) where
  -- a dimension with the rows added
  pub extended : (axis : Axis) (dimension : Dimension)
      → ExtendsDimension axis (rows_on old axis) (rows_on new axis) (Ok dimension)
      → HoldsDimension axis (rows_on (joined old new) axis) dimension
  extended axis dimension is = subst (λ rows. HoldsDimension axis rows dimension) (sym (rows_on-joined old new axis)) is

  -- what a dimension with more rows is, from what it does to any rows that it holds
  module _ (axis : Axis) (own : Dimension) (more : List TextRow) (is : more ≡ rows_on new axis) (valid : IsValid old)
      (on : IsDimension axis (rows_on old axis) own) where
    pub extends_ok : (dimension : Dimension)
        → ((rows : List TextRow) → HoldsRows axis rows own → ExtendsDimension axis rows more (Ok dimension))
        → HoldsDimension axis (rows_on (joined old new) axis) dimension
    extends_ok dimension extends =
        extended axis dimension
        (subst (λ l. ExtendsDimension axis (rows_on old axis) l (Ok dimension)) is
        (extends (rows_on old axis) (on.stores, passes_valid old axis valid)))

    pub extends_err : (fault : Fault)
        → ((rows : List TextRow) → HoldsRows axis rows own → ExtendsDimension axis rows more (Err fault))
        → (fault ≡ Memory) ⊎ (added_cause (text_rules axis) (rows_on old axis) (rows_on new axis) ≡ Some fault)
    extends_err fault extends =
        subst (λ l. ExtendsDimension axis (rows_on old axis) l (Err fault)) is
        (extends (rows_on old axis) (on.stores, passes_valid old axis valid))

  -- the cause of a dimension, by texts
  abbrev pub added_on : Axis → Option Fault
  added_on axis = added_cause (text_rules axis) (rows_on old axis) (rows_on new axis)

  by_texts : (axis : Axis) (count : ℕ) (cause : Option Fault) → length (rows_on old axis) ≡ count
      → dimension_cause (text_rules axis) (rows_on (joined old new) axis) ≡ cause
      → added_on axis ≡ option_map (counted_after count) cause
  by_texts axis count cause many is =
      ap (λ n. option_map (counted_after n) (dimension_cause (text_rules axis) (rows_on old axis ++ rows_on new axis)))
      many
      ∙ ap (λ rows. option_map (counted_after count) (dimension_cause (text_rules axis) rows))
      (sym (rows_on-joined old new axis)) ∙ ap (option_map (counted_after count)) is

  customers_added : added_on Customer ≡ added_cause customer_rules old.customers new.customers
  customers_added = by_texts Customer (length old.customers) _ (length-map old.customers row_of_customer)
      (customer_cause (joined old new))

  suppliers_added : added_on Supplier ≡ added_cause supplier_rules old.suppliers new.suppliers
  suppliers_added = by_texts Supplier (length old.suppliers) _ (length-map old.suppliers row_of_supplier)
      (supplier_cause (joined old new))

  parts_added : added_on Part ≡ added_cause part_rules old.parts new.parts
  parts_added = by_texts Part (length old.parts) _ (length-map old.parts row_of_part) (part_cause (joined old new))

  dates_added : added_on Date ≡ added_cause date_rules old.dates new.dates
  dates_added = by_texts Date (length old.dates) _ (length-map old.dates row_of_date) (date_cause (joined old new))

  -- a dimension that passes has no cause
  no_cause : (axis : Axis) → Passes axis (joined old new) → added_on axis ≡ None
  no_cause axis passes = by_texts axis (length (rows_on old axis)) None refl passes

  -- why the rows of a dimension are refused, and those of all
  abbrev pub RefusedOn : Axis → Fault → Type 0
  RefusedOn axis fault = (fault ≡ Memory) ⊎ (added_on axis ≡ Some fault)

  abbrev pub RefusedAtAll : Fault → Type 0
  RefusedAtAll fault = (fault ≡ Memory) ⊎ (addition_cause old new ≡ Some fault)

  by_axes : (fault : Fault) → first_cause (added_on Customer ∷ added_on Supplier ∷ added_on Part ∷ added_on Date ∷ [])
      ≡ Some fault → RefusedAtAll fault
  by_axes fault is =
      inr ((λ i. first_cause (sym customers_added i ∷ sym suppliers_added i ∷ sym parts_added i ∷ sym dates_added i
      ∷ [])) ∙ is)

  module _ (fault : Fault) where
    pub added_customers : RefusedOn Customer fault → RefusedAtAll fault
    added_customers (inl memory) = inl memory
    added_customers (inr cause) =
        by_axes fault (λ i. first_cause (cause i ∷ added_on Supplier ∷ added_on Part ∷ added_on Date ∷ []))

    pub added_suppliers : Passes Customer (joined old new) → RefusedOn Supplier fault → RefusedAtAll fault
    added_suppliers first (inl memory) = inl memory
    added_suppliers first (inr cause) =
        by_axes fault (λ i. first_cause (no_cause Customer first i ∷ cause i ∷ added_on Part ∷ added_on Date ∷ []))

    pub added_parts : Passes Customer (joined old new) → Passes Supplier (joined old new) → RefusedOn Part fault
        → RefusedAtAll fault
    added_parts first second (inl memory) = inl memory
    added_parts first second (inr cause) =
        by_axes fault
        (λ i. first_cause (no_cause Customer first i ∷ no_cause Supplier second i ∷ cause i ∷ added_on Date ∷ []))

    pub added_dates : Passes Customer (joined old new) → Passes Supplier (joined old new) → Passes Part (joined old new)
        → RefusedOn Date fault → RefusedAtAll fault
    added_dates first second third (inl memory) = inl memory
    added_dates first second third (inr cause) =
        by_axes fault
        (λ i. first_cause (no_cause Customer first i ∷ no_cause Supplier second i ∷ no_cause Part third i ∷ cause i
        ∷ []))
