-- What the bytes of a dimension determine.
use Rattle.std.proofs.Common.{◌≡◌, ◌≢◌, ◌<◌, ◌^◌, ◌∙◌, zero, suc, sym, ap, refl, subst, arith, ℕ, List, [], ◌∷◌, ◌++◌}
use Rattle.std.proofs.Common.{map, length, Option, Some, None}
use Rattle.std.specs.List.{AllByRecursion}
use Rattle.std.proofs.lemmas.List.{length-map}
use Rattle.cube_model.specs.declared.attr.Axis.{Axis}
use Rattle.cube_model.specs.declared.attr.Axis.TheVariants.{Customer, Supplier, Part, Date}
use Rattle.cube_model.specs.Lawful.{EachPair}
use Rattle.cube_model.specs.Limits.{most_members}
use Rattle.dictionary.specs.Spelling.{AreProper, texts_spelling}
use Rattle.dictionary.specs.Columns.{codes_spelling}
use Rattle.dictionary.proofs.ColumnLaws.{texts_spelling-one}
use Rattle.dimensions.specs.declared.coded.CodedRows.{CodedRows}
use Rattle.dimensions.specs.TextRows.{TextRow}
use Rattle.dimensions.specs.Shapes.{lowers_of, lower_of}
use Rattle.dimensions.specs.Coded.{AreCodedRows, AreGoodRows, no_coded, place_total}
use Rattle.dimensions.proofs.CallerLemmas.{few_good_rows, good_codes, good_places_above, good_places_of_rows}
use Rattle.dimensions.proofs.CallerLemmas.{good_texts, lower_below}
use Rattle.dimensions.specs.TextRows.{KeysFit}
use Rattle.dimension_objects.specs.Spelled.{codes_in_order, dimension_spelling, dimension_header}
use Rattle.dimension_objects.specs.Spelled.{keys_spelling}
use Rattle.dimension_objects.specs.Spelled.{linked_columns, dimension_parts, row_columns, stored_columns}
use Rattle.dimension_objects.specs.Spelled.{texts_in_order}
use Rattle.dimension_objects.specs.Columns.{IsSpelled, column_codes_in, column_texts_in}
use Rattle.dimension_objects.proofs.Front.{FitCodes, codes-one, header_of-one, in_order-one, in_order-same, numbers-one}
use Rattle.dimension_objects.proofs.Steps.{all_get}

-- ---- each column is in its order

-- what holds of each column of a dimension holds of each in an order
pub stored_all : (axis : Axis) (P : ℕ → Type 0) → ((i : ℕ) → i < length (lowers_of axis) → P i)
    → AllByRecursion P (stored_columns axis)
stored_all Customer P each = (each 0 (omega arith), (each 1 (omega arith), (each 2 (omega arith), tt)))
stored_all Supplier P each = (each 0 (omega arith), (each 1 (omega arith), (each 2 (omega arith), tt)))
stored_all Part P each = (each 0 (omega arith), (each 1 (omega arith), (each 2 (omega arith), tt)))
stored_all Date P each =
    (each 0 (omega arith), (each 2 (omega arith), (each 1 (omega arith), (each 3 (omega arith), tt))))

pub linked_all : (axis : Axis) (P : ℕ → Type 0) → ((i : ℕ) → i < length (lowers_of axis) → P i)
    → AllByRecursion P (linked_columns axis)
linked_all Customer P each = (each 1 (omega arith), (each 2 (omega arith), tt))
linked_all Supplier P each = (each 1 (omega arith), (each 2 (omega arith), tt))
linked_all Part P each = (each 1 (omega arith), (each 2 (omega arith), tt))
linked_all Date P each = (each 2 (omega arith), (each 1 (omega arith), tt))

pub row_all : (axis : Axis) (P : ℕ → Type 0) → ((i : ℕ) → i < length (lowers_of axis) → P i)
    → AllByRecursion P (row_columns axis)
row_all Customer P each = (each 0 (omega arith), tt)
row_all Supplier P each = (each 0 (omega arith), tt)
row_all Part P each = (each 0 (omega arith), tt)
row_all Date P each = (each 0 (omega arith), (each 3 (omega arith), tt))

-- and the other way round
three : (P : ℕ → Type 0) → P 0 → P 1 → P 2 → (i : ℕ) → i < 3 → P i
three P a b c zero lt = a
three P a b c (suc zero) lt = b
three P a b c (suc (suc zero)) lt = c
three P a b c (suc (suc (suc i))) lt = absurd (omega (arith, lt))

four : (P : ℕ → Type 0) → P 0 → P 1 → P 2 → P 3 → (i : ℕ) → i < 4 → P i
four P a b c d zero lt = a
four P a b c d (suc zero) lt = b
four P a b c d (suc (suc zero)) lt = c
four P a b c d (suc (suc (suc zero))) lt = d
four P a b c d (suc (suc (suc (suc i)))) lt = absurd (omega (arith, lt))

pub each_stored : (axis : Axis) (P : ℕ → Type 0) → AllByRecursion P (stored_columns axis) → (i : ℕ)
    → i < length (lowers_of axis) → P i
each_stored Customer P all i lt = three P all.0 all.1.0 all.1.1.0 i lt
each_stored Supplier P all i lt = three P all.0 all.1.0 all.1.1.0 i lt
each_stored Part P all i lt = three P all.0 all.1.0 all.1.1.0 i lt
each_stored Date P all i lt = four P all.0 all.1.1.0 all.1.0 all.1.1.1.0 i lt

pub each_column : (axis : Axis) (P : ℕ → Type 0) → AllByRecursion P (linked_columns axis)
    → AllByRecursion P (row_columns axis) → (i : ℕ) → i < length (lowers_of axis) → P i
each_column Customer P linked row i lt = three P row.0 linked.0 linked.1.0 i lt
each_column Supplier P linked row i lt = three P row.0 linked.0 linked.1.0 i lt
each_column Part P linked row i lt = three P row.0 linked.0 linked.1.0 i lt
each_column Date P linked row i lt = four P row.0 linked.1.0 linked.0 row.1.0 i lt

-- no column is twice in an order
pub stored_distinct : (axis : Axis) → EachPair (λ column other. column ≢ other) (stored_columns axis)
stored_distinct Customer = (
  ((λ e. absurd (omega (arith, e))), ((λ e. absurd (omega (arith, e))), tt)),
  (((λ e. absurd (omega (arith, e))), tt), (tt, tt)),
)
stored_distinct Supplier = (
  ((λ e. absurd (omega (arith, e))), ((λ e. absurd (omega (arith, e))), tt)),
  (((λ e. absurd (omega (arith, e))), tt), (tt, tt)),
)
stored_distinct Part = (
  ((λ e. absurd (omega (arith, e))), ((λ e. absurd (omega (arith, e))), tt)),
  (((λ e. absurd (omega (arith, e))), tt), (tt, tt)),
)
stored_distinct Date = (
  ((λ e. absurd (omega (arith, e))), ((λ e. absurd (omega (arith, e))), ((λ e. absurd (omega (arith, e))), tt))),
  (
    ((λ e. absurd (omega (arith, e))), ((λ e. absurd (omega (arith, e))), tt)),
    (((λ e. absurd (omega (arith, e))), tt), (tt, tt)),
  ),
)

pub linked_distinct : (axis : Axis) → EachPair (λ column other. column ≢ other) (linked_columns axis)
linked_distinct Customer = (((λ e. absurd (omega (arith, e))), tt), (tt, tt))
linked_distinct Supplier = (((λ e. absurd (omega (arith, e))), tt), (tt, tt))
linked_distinct Part = (((λ e. absurd (omega (arith, e))), tt), (tt, tt))
linked_distinct Date = (((λ e. absurd (omega (arith, e))), tt), (tt, tt))

pub row_distinct : (axis : Axis) → EachPair (λ column other. column ≢ other) (row_columns axis)
row_distinct Customer = (tt, tt)
row_distinct Supplier = (tt, tt)
row_distinct Part = (tt, tt)
row_distinct Date = (((λ e. absurd (omega (arith, e))), tt), (tt, tt))

-- no column is both linked and by row
pub linked_apart : (axis : Axis)
    → AllByRecursion (λ column. AllByRecursion (λ other. other ≢ column) (row_columns axis)) (linked_columns axis)
linked_apart Customer = (((λ e. absurd (omega (arith, e))), tt), (((λ e. absurd (omega (arith, e))), tt), tt))
linked_apart Supplier = (((λ e. absurd (omega (arith, e))), tt), (((λ e. absurd (omega (arith, e))), tt), tt))
linked_apart Part = (((λ e. absurd (omega (arith, e))), tt), (((λ e. absurd (omega (arith, e))), tt), tt))
linked_apart Date = (
  ((λ e. absurd (omega (arith, e))), ((λ e. absurd (omega (arith, e))), tt)),
  (((λ e. absurd (omega (arith, e))), ((λ e. absurd (omega (arith, e))), tt)), tt),
)

all_unmap : {X Y : Type 0} (P : Y → Type 0) (f : X → Y) (xs : List X) → AllByRecursion P (map f xs)
    → AllByRecursion (λ x. P (f x)) xs
all_unmap P f [] all = tt
all_unmap P f (x ∷ xs) all = (all.0, all_unmap P f xs all.1)

all_map : {X Y : Type 0} (P : Y → Type 0) (f : X → Y) (xs : List X) → AllByRecursion (λ x. P (f x)) xs
    → AllByRecursion P (map f xs)
all_map P f [] all = tt
all_map P f (x ∷ xs) all = (all.0, all_map P f xs all.1)

pub both_weaker : {X : Type 0} (P Q R : X → Type 0) (xs : List X) → ((x : X) → P x → Q x → R x) → AllByRecursion P xs
    → AllByRecursion Q xs → AllByRecursion R xs
both_weaker P Q R [] weaker ps qs = tt
both_weaker P Q R (x ∷ xs) weaker ps qs = (weaker x ps.0 qs.0, both_weaker P Q R xs weaker ps.1 qs.1)

-- ---- bytes that begin as those of rows do

module _ (axis : Axis) (rows : List TextRow) (good : AreGoodRows axis rows) (have_keys : KeysFit rows) where
  abbrev keys : List ℕ
  keys = map (λ row. row.key) rows

  abbrev texts : ℕ → List (List ℕ)
  texts = (dimension_parts axis rows).texts

  abbrev numbers : ℕ → List ℕ
  numbers = (dimension_parts axis rows).codes

  few_keys : length keys < 2 ^ 32
  few_keys = let few = few_good_rows axis rows good in omega (arith, few, length-map rows (λ row. row.key))

  pub keys_fit : AllByRecursion (λ key. key < 2 ^ 32) keys
  keys_fit = all_map (λ key. key < 2 ^ 32) (λ row. row.key) rows have_keys

  pub proper_texts : AllByRecursion (λ column. AreProper most_members (texts column)) (stored_columns axis)
  proper_texts = stored_all axis (λ column. AreProper most_members (texts column)) (good_texts axis rows good)

  -- how many places a column has
  abbrev pub places : ℕ → (ℕ → List (List ℕ)) → Option ℕ → ℕ
  places n others None = n
  places n others (Some lower) = length (others lower)

  -- where the texts are these, so are the numbers of places
  module _ (n : ℕ) (is_n : n ≡ length keys) (others : ℕ → List (List ℕ)) (same : (i : ℕ) → i < length (lowers_of axis)
      → others i ≡ texts i) where
    pub many : (i : ℕ) → i < length (lowers_of axis) → length (numbers i) ≡ places n others (lower_of axis i)
    many i lt = elim (lower_of axis i) as (λ o. lower_of axis i ≡ o → length (numbers i) ≡ places n others o) [
      | None ↦ λ e. good_places_of_rows axis rows good i lt e ∙ sym (is_n ∙ length-map rows (λ row. row.key))
      | Some j ↦ λ e.
          let before = lower_below axis i j e in
          good_places_above axis rows good i j lt e ∙ ap length (sym (same j (omega (arith, before, lt))))
    ] refl

  pub after_header : (n : ℕ) (mid : List ℕ) → n < 2 ^ 32 → dimension_header axis n ++ mid ≡ dimension_spelling axis rows
      → (n ≡ length keys)
      × (mid ≡ texts_in_order texts (stored_columns axis)
      ++ (codes_in_order numbers (linked_columns axis)
      ++ (keys_spelling keys ++ codes_in_order numbers (row_columns axis))))
  after_header n mid fits is =
      header_of-one axis n (length keys) mid
      (texts_in_order texts (stored_columns axis)
      ++ (codes_in_order numbers (linked_columns axis)
      ++ (keys_spelling keys ++ codes_in_order numbers (row_columns axis)))) fits few_keys is

  pub after_texts : (others : ℕ → List (List ℕ)) (mid : List ℕ)
      → AllByRecursion (λ column. AreProper most_members (others column)) (stored_columns axis)
      → texts_in_order others (stored_columns axis) ++ mid ≡ texts_in_order texts (stored_columns axis)
      ++ (codes_in_order numbers (linked_columns axis)
      ++ (keys_spelling keys ++ codes_in_order numbers (row_columns axis)))
      → AllByRecursion (λ column. others column ≡ texts column) (stored_columns axis)
      × (mid ≡ codes_in_order numbers (linked_columns axis)
      ++ (keys_spelling keys ++ codes_in_order numbers (row_columns axis)))
  after_texts others mid proper is =
      in_order-one texts_spelling (λ column x. AreProper most_members x)
      (λ column x y xs ys p q same. texts_spelling-one most_members x y xs ys (omega arith) p q same)
      others texts (stored_columns axis) mid
      (codes_in_order numbers (linked_columns axis)
      ++ (keys_spelling keys ++ codes_in_order numbers (row_columns axis))) proper proper_texts is

  pub after_codes : (counts : ℕ → ℕ) (order : List ℕ) (others : ℕ → List ℕ) (mid rest : List ℕ)
      → AllByRecursion (λ column. FitCodes counts column (others column)) order
      → AllByRecursion (λ column. FitCodes counts column (numbers column)) order
      → codes_in_order others order ++ mid ≡ codes_in_order numbers order ++ rest
      → AllByRecursion (λ column. others column ≡ numbers column) order × (mid ≡ rest)
  after_codes counts order others mid rest fit fit' is =
      in_order-one codes_spelling (FitCodes counts) (codes-one counts) others numbers order mid rest fit fit' is

  -- the rows by codes are those of the rows
  pub spelled_one : (bytes : List ℕ) (coded : CodedRows) → IsSpelled axis bytes coded
      → bytes ≡ dimension_spelling axis rows → AreCodedRows axis rows coded
  spelled_one bytes coded is spells =
      let others : ℕ → List (List ℕ) = column_texts_in coded.columns in
      let given : ℕ → List ℕ = column_codes_in coded.columns in
      let counts : ℕ → ℕ = λ column. place_total coded (lower_of axis column) in
      let first = after_header (length coded.keys) _ is.rows_fit (sym is.spelled ∙ spells) in
      let proper : AllByRecursion (λ column. AreProper most_members (others column)) (stored_columns axis) =
      stored_all axis (λ column. AreProper most_members (others column))
      (λ i lt. all_get (λ c. AreProper most_members c.texts.texts) coded.columns i no_coded
      (omega (arith, lt, is.count)) is.have.proper) in
      let second = after_texts others _ proper first.1 in
      let same : (i : ℕ) → i < length (lowers_of axis) → others i ≡ texts i =
      each_stored axis (λ i. others i ≡ texts i) second.0 in
      let fits : (i : ℕ) → i < length (lowers_of axis) → FitCodes counts i (numbers i) =
      λ i lt. (
        many (length coded.keys) first.0 others same i lt
            ∙ counted coded (lower_of axis i),
        good_codes axis rows good i lt,
      ) in
      let third =
      after_codes counts (linked_columns axis) given _ _
      (both_weaker _ _ _ (linked_columns axis) (λ c p q. (p, q)) is.linked_many is.linked_fit)
      (linked_all axis (λ i. FitCodes counts i (numbers i)) fits) second.1 in
      let fourth =
      numbers-one 4 coded.keys keys (codes_in_order given (row_columns axis))
      (codes_in_order numbers (row_columns axis)) is.keys_fit keys_fit first.0 third.1 in
      let ends : codes_in_order given (row_columns axis) ++ [] ≡ codes_in_order numbers (row_columns axis) ++ [] =
      ap (λ part. part ++ []) fourth.1 in
      let fifth =
      after_codes counts (row_columns axis) given [] []
      (both_weaker _ _ _ (row_columns axis) (λ c p q. (p, q)) is.rows_many is.codes_fit)
      (row_all axis (λ i. FitCodes counts i (numbers i)) fits) ends in
      record {
        keys_are = fourth.0;
        count = is.count;
        columns = λ i lt. record {
          texts_are = same i lt;
          codes_are = each_column axis (λ i. given i ≡ numbers i) third.0 fifth.0 i lt;
        };
      }
    where
      counted : (coded : CodedRows) (o : Option ℕ) → places (length coded.keys) (column_texts_in coded.columns) o
          ≡ place_total coded o
      counted coded None = refl
      counted coded (Some lower) = refl

-- ---- rows by codes have the bytes of their rows

pub spelled_same : (axis : Axis) (rows : List TextRow) (bytes : List ℕ) (coded : CodedRows) → IsSpelled axis bytes coded
    → AreCodedRows axis rows coded
    → (bytes ≡ dimension_spelling axis rows) × KeysFit rows
spelled_same axis rows bytes coded is are = (
  is.spelled
      ∙ (λ i. dimension_header axis (length (are.keys_are i))
      ++ (in_order-same texts_spelling (column_texts_in coded.columns) (dimension_parts axis rows).texts
      (stored_columns axis)
      texts_same i
      ++ (in_order-same codes_spelling (column_codes_in coded.columns) (dimension_parts axis rows).codes
      (linked_columns axis)
      linked_same i
      ++ (keys_spelling (are.keys_are i)
      ++ in_order-same codes_spelling (column_codes_in coded.columns) (dimension_parts axis rows).codes
      (row_columns axis) rows_same
      i)))),
  all_unmap (λ key. key < 2 ^ 32) (λ row. row.key) rows
      (subst (AllByRecursion (λ key. key < 2 ^ 32)) are.keys_are is.keys_fit),
)
  where
    texts_same : AllByRecursion (λ c. column_texts_in coded.columns c ≡ (dimension_parts axis rows).texts c)
        (stored_columns axis)
    texts_same =
        stored_all axis (λ c. column_texts_in coded.columns c ≡ (dimension_parts axis rows).texts c)
        (λ i lt. (are.columns i lt).texts_are)

    linked_same : AllByRecursion (λ c. column_codes_in coded.columns c ≡ (dimension_parts axis rows).codes c)
        (linked_columns axis)
    linked_same =
        linked_all axis (λ c. column_codes_in coded.columns c ≡ (dimension_parts axis rows).codes c)
        (λ i lt. (are.columns i lt).codes_are)

    rows_same : AllByRecursion (λ c. column_codes_in coded.columns c ≡ (dimension_parts axis rows).codes c)
        (row_columns axis)
    rows_same =
        row_all axis (λ c. column_codes_in coded.columns c ≡ (dimension_parts axis rows).codes c)
        (λ i lt. (are.columns i lt).codes_are)
