-- The rules that rows keep, and those of their codes.
use Rattle.std.proofs.Common.{◌≡◌, ◌≢◌, ◌<◌, ◌≤◌, ◌+◌, ◌∙◌, inl, inr, zero, suc, sym, ap, refl, subst, arith, ℕ, List}
use Rattle.std.proofs.Common.{[], ◌∷◌, map, length, get_or, codes, Option, Some, None}
use Rattle.std.specs.List.{AllByRecursion, position_or_len}
use Rattle.std.specs.Str.{bytes_eq}
use Rattle.std.proofs.lemmas.Bool.{cases_lt}
use Rattle.std.proofs.lemmas.List.{ext_get_or, length-map, get_or-map}
use Rattle.cube_model.specs.declared.attr.Axis.{Axis}
use Rattle.cube_model.specs.Lawful.{EachPair, KeepsRules}
use Rattle.cube_model.specs.Limits.{longest_text, most_members}
use Rattle.cube_model.specs.Validity.{members_of}
use Rattle.dictionary.specs.Dictionary.{firsts}
use Rattle.dictionary.specs.Columns.{AreCodes}
use Rattle.dictionary.proofs.CallerLemmas.{list_any_here, place_within, text_at_place, bytes_eq-refl}
use Rattle.dimensions.specs.declared.coded.CodedRows.{CodedRows}
use Rattle.dimensions.specs.declared.dimension.Dimension.{Dimension}
use Rattle.dimensions.specs.TextRows.{TextRow, text_in, column_of}
use Rattle.dimensions.specs.Shapes.{lowers_of, lower_of, row_limit_of, text_rules, texts_from, links_from}
use Rattle.dimensions.specs.ShortTexts.{IsShortRow}
use Rattle.dimensions.specs.Coded.{text_next_to, place_texts, texts_below, texts_at_places, coded_at, AreCodedRows}
use Rattle.dimensions.specs.Coded.{AreGoodRows, place_total, HaveProperColumns, KeysAreDistinct}
use Rattle.dimensions.specs.Dimensions.{column_at}
use Rattle.dimensions.specs.Shown.{text_up, each_row, text_row, rows_of_dimension}
use Rattle.dimensions.proofs.MemberLaws.{length-members}
use Rattle.dimensions.proofs.ShapeLaws.{lower_below}
use Rattle.dimensions.proofs.ShortLaws.{all_at, all_map}
use Rattle.dimensions.proofs.CodeLaws.{coded}
use Rattle.dimensions.proofs.CodedTexts.{all_from_get, all_firsts, IsDetermined, firsts_at_places}
use Rattle.dimensions.proofs.CodedDimensions.{each_row-length, each_row-get, each_row-map, each_row-of, AreInOrder}
use Rattle.dimensions.proofs.CodedDimensions.{column_up, column_is, image, image_column, good}

-- ---- pairs

pub pairs_map : {X Y : Type 0} (R : Y → Y → Type 0) (f : X → Y) (xs : List X) → EachPair (λ x y. R (f x) (f y)) xs
    → EachPair R (map f xs)
pairs_map R f [] pairs = tt
pairs_map R f (x ∷ xs) pairs = (all_map (R (f x)) f xs pairs.0, pairs_map R f xs pairs.1)

all_unmap : {X Y : Type 0} (P : Y → Type 0) (f : X → Y) (xs : List X) → AllByRecursion P (map f xs)
    → AllByRecursion (λ x. P (f x)) xs
all_unmap P f [] all = tt
all_unmap P f (x ∷ xs) all = (all.0, all_unmap P f xs all.1)

pub pairs_unmap : {X Y : Type 0} (R : Y → Y → Type 0) (f : X → Y) (xs : List X) → EachPair R (map f xs)
    → EachPair (λ x y. R (f x) (f y)) xs
pairs_unmap R f [] pairs = tt
pairs_unmap R f (x ∷ xs) pairs = (all_unmap (R (f x)) f xs pairs.0, pairs_unmap R f xs pairs.1)

all_weaker : {X : Type 0} (P Q : X → Type 0) (xs : List X) → ((x : X) → P x → Q x) → AllByRecursion P xs
    → AllByRecursion Q xs
all_weaker P Q [] weaker all = tt
all_weaker P Q (x ∷ xs) weaker all = (weaker x all.0, all_weaker P Q xs weaker all.1)

-- what any two items with a property are to one another, each pair is
pub pairs_of : {X : Type 0} (P : X → Type 0) (R : X → X → Type 0) (xs : List X) → ((x y : X) → P x → P y → R x y)
    → AllByRecursion P xs → EachPair R xs
pairs_of P R [] both all = tt
pairs_of P R (x ∷ xs) both all = (all_weaker P (R x) xs (λ y p. both x y all.0 p) all.1, pairs_of P R xs both all.1)

pub pair_at : {X : Type 0} (R : X → X → Type 0) (xs : List X) (d : X) → EachPair R xs → (k l : ℕ) → k < l
    → l < length xs → R (get_or xs k d) (get_or xs l d)
pair_at R [] d pairs k l before lt = absurd (omega (arith, lt))
pair_at R (x ∷ xs) d pairs k zero before lt = absurd (omega (arith, before))
pair_at R (x ∷ xs) d pairs zero (suc l) before lt = all_at (R x) xs l d (omega (arith, lt)) pairs.0
pair_at R (x ∷ xs) d pairs (suc k) (suc l) before lt =
    pair_at R xs d pairs.1 k l (omega (arith, before)) (omega (arith, lt))

-- ---- all columns and links

next : (n i : ℕ) → n + suc i ≡ suc n + i
next n i = omega arith

module _ (P : (TextRow → List ℕ) → Type 0) where
  columns_from_all : (n : ℕ) (lowers : List (Option ℕ)) → ((i : ℕ) → i < length lowers → P (text_in (n + i)))
      → AllByRecursion P (texts_from n lowers)
  columns_from_all n [] each = tt
  columns_from_all n (lower ∷ lowers) each =
      let here : n + 0 ≡ n = omega arith in (
        subst (λ k. P (text_in k)) here (each 0 (omega arith)),
        columns_from_all (suc n) lowers
            (λ i lt. subst (λ k. P (text_in k)) (next n i) (each (suc i) (omega (arith, lt)))),
      )

  pub all_columns : (lowers : List (Option ℕ)) → ((i : ℕ) → i < length lowers → P (text_in i))
      → AllByRecursion P (texts_from 0 lowers)
  all_columns lowers each =
      columns_from_all 0 lowers (λ i lt. let at : i ≡ 0 + i = omega arith in subst (λ k. P (text_in k)) at (each i lt))

  column_from_at : (n : ℕ) (lowers : List (Option ℕ)) (i : ℕ) → i < length lowers
      → AllByRecursion P (texts_from n lowers) → P (text_in (n + i))
  column_from_at n [] i lt all = absurd (omega (arith, lt))
  column_from_at n (lower ∷ lowers) zero lt all = let here : n ≡ n + 0 = omega arith in
      subst (λ k. P (text_in k)) here all.0
  column_from_at n (lower ∷ lowers) (suc i) lt all =
      subst (λ k. P (text_in k)) (sym (next n i)) (column_from_at (suc n) lowers i (omega (arith, lt)) all.1)

  pub one_column : (lowers : List (Option ℕ)) (i : ℕ) → i < length lowers → AllByRecursion P (texts_from 0 lowers)
      → P (text_in i)
  one_column lowers i lt all = let at : 0 + i ≡ i = omega arith in
      subst (λ k. P (text_in k)) at (column_from_at 0 lowers i lt all)

module _ (P : ((TextRow → List ℕ) × (TextRow → List ℕ)) → Type 0) where
  links_from_all : (n : ℕ) (lowers : List (Option ℕ))
      → ((i j : ℕ) → i < length lowers → get_or lowers i None ≡ Some j → P (text_in j, text_in (n + i)))
      → AllByRecursion P (links_from n lowers)
  links_from_all n [] each = tt
  links_from_all n (None ∷ lowers) each =
      links_from_all (suc n) lowers
      (λ i j lt at. subst (λ k. P (text_in j, text_in k)) (next n i) (each (suc i) j (omega (arith, lt)) at))
  links_from_all n (Some lower ∷ lowers) each =
      let here : n + 0 ≡ n = omega arith in (
        subst (λ k. P (text_in lower, text_in k)) here (each 0 lower (omega arith) refl),
        links_from_all (suc n) lowers
            (λ i j lt at. subst (λ k. P (text_in j, text_in k)) (next n i) (each (suc i) j (omega (arith, lt)) at)),
      )

  pub all_links : (lowers : List (Option ℕ))
      → ((i j : ℕ) → i < length lowers → get_or lowers i None ≡ Some j → P (text_in j, text_in i))
      → AllByRecursion P (links_from 0 lowers)
  all_links lowers each =
      links_from_all 0 lowers
      (λ i j lt at. let is : i ≡ 0 + i = omega arith in subst (λ k. P (text_in j, text_in k)) is (each i j lt at))

  link_from_at : (n : ℕ) (lowers : List (Option ℕ)) (i j : ℕ) → get_or lowers i None ≡ Some j
      → AllByRecursion P (links_from n lowers) → P (text_in j, text_in (n + i))
  link_from_at n [] i j at all = absurd cc
  link_from_at n (None ∷ lowers) zero j at all = absurd cc
  link_from_at n (None ∷ lowers) (suc i) j at all =
      subst (λ k. P (text_in j, text_in k)) (sym (next n i)) (link_from_at (suc n) lowers i j at all)
  link_from_at n (Some lower ∷ lowers) zero j at all =
      let here : n ≡ n + 0 = omega arith in
      let same : lower ≡ j = cc in
      subst (λ k. P (text_in j, text_in k)) here (subst (λ l. P (text_in l, text_in n)) same all.0)
  link_from_at n (Some lower ∷ lowers) (suc i) j at all =
      subst (λ k. P (text_in j, text_in k)) (sym (next n i)) (link_from_at (suc n) lowers i j at all.1)

  pub one_link : (lowers : List (Option ℕ)) (i j : ℕ) → get_or lowers i None ≡ Some j
      → AllByRecursion P (links_from 0 lowers) → P (text_in j, text_in i)
  one_link lowers i j at all = let is : 0 + i ≡ i = omega arith in
      subst (λ k. P (text_in j, text_in k)) is (link_from_at 0 lowers i j at all)

-- ---- from codes to rows

abbrev no_row : TextRow
no_row = record { key = 0; texts = [] }

module _ (axis : Axis) (dimension : Dimension) (are : AreInOrder axis dimension) where
  abbrev rows : List TextRow
  rows = rows_of_dimension axis dimension

  row_count : length rows ≡ length dimension.keys
  row_count = each_row-length (text_row axis dimension) (length dimension.keys)

  -- what holds of each text of a column holds of each row's text there
  in_each_row : (P : List ℕ → Type 0) (i : ℕ) → i < length (lowers_of axis)
      → AllByRecursion P (column_at dimension i).texts.texts → (k : ℕ) → k < length rows
      → P (text_in i (get_or rows k no_row))
  in_each_row P i lt all k k_lt =
      let k_n : k < length dimension.keys = omega (arith, k_lt, row_count) in
      let at : text_in i (get_or rows k no_row) ≡ text_up dimension i k =
      ap (text_in i) (each_row-get (text_row axis dimension) (length dimension.keys) k no_row k_n)
      ∙ each_row-get (λ column. text_up dimension column k) (length (lowers_of axis)) i [] lt in
      subst P (sym at)
      (all_at P (column_at dimension i).texts.texts _ [] ((good axis dimension are i lt).within k k_n) all)

  module _ (short : (i : ℕ) → i < length (lowers_of axis)
      → AllByRecursion (λ text. length text ≤ longest_text) (column_at dimension i).texts.texts)
      (members : (i : ℕ) → i < length (lowers_of axis)
      → AllByRecursion (λ text. text ≢ codes "ALL") (column_at dimension i).texts.texts)
      (few : length dimension.keys ≤ row_limit_of axis) (distinct : KeysAreDistinct dimension.keys) where
    short_row : (k : ℕ) → k < length rows → IsShortRow (get_or rows k no_row)
    short_row k k_lt =
        let k_n : k < length dimension.keys = omega (arith, k_lt, row_count) in
        subst IsShortRow (sym (each_row-get (text_row axis dimension) (length dimension.keys) k no_row k_n))
        (all_from_get (λ text. length text ≤ longest_text)
        (each_row (λ column. text_up dimension column k) (length (lowers_of axis))) [] (λ i i_lt.
        let lt : i < length (lowers_of axis) =
        omega (arith, i_lt, each_row-length (λ column. text_up dimension column k) (length (lowers_of axis))) in
        subst (λ text. length text ≤ longest_text)
        (sym (each_row-get (λ column. text_up dimension column k) (length (lowers_of axis)) i [] lt))
        (all_at (λ text. length text ≤ longest_text) (column_at dimension i).texts.texts _ []
        ((good axis dimension are i lt).within k k_n) (short i lt))))

    few_members : (i : ℕ) → i < length (lowers_of axis) → length (members_of (map (text_in i) rows)) ≤ most_members
    few_members i lt =
        omega (
          arith,
          ap (λ l. length (members_of l)) (column_is axis dimension are i lt),
          length-members (column_up axis dimension are i),
          ap length (good axis dimension are i lt).firsts_are,
          (are.columns i lt).room,
        )

    above : (i j : ℕ) (lt : i < length (lowers_of axis)) → lower_of axis i ≡ Some j → (k : ℕ) → k < length rows
        → text_in i (get_or rows k no_row) ≡ image axis dimension are i j (text_in j (get_or rows k no_row))
    above i j lt e k k_lt =
        let before = lower_below axis i j e in
        let j_lt : j < length (lowers_of axis) = omega (arith, before, lt) in
        let columns : column_of i rows ≡ map (image axis dimension are i j) (column_of j rows) =
        column_is axis dimension are i lt ∙ image_column axis dimension are i j lt e (good axis dimension are j j_lt)
        ∙ ap (map (image axis dimension are i j)) (sym (column_is axis dimension are j j_lt)) in
        sym (get_or-map (text_in i) rows k no_row [] k_lt) ∙ ap (λ l. get_or l k []) columns
        ∙ get_or-map (image axis dimension are i j) (column_of j rows) k [] []
        (omega (arith, k_lt, length-map rows (text_in j)))
        ∙ ap (image axis dimension are i j) (get_or-map (text_in j) rows k no_row [] k_lt)

    pub good_rows : AreGoodRows axis rows
    good_rows = record {
      keep = record {
        few_rows = omega (arith, few, row_count);
        keys_differ =
            pairs_unmap (λ key other. key ≢ other) (λ row. row.key) rows
            (subst KeysAreDistinct
            (sym (each_row-map (λ row. row.key) (text_row axis dimension) (length dimension.keys)
            ∙ each_row-of dimension.keys 0))
            distinct);
        none_reserved =
            all_from_get (λ row. AllByRecursion (λ text. text row ≢ codes "ALL") (texts_from 0 (lowers_of axis))) rows
            no_row
            (λ k k_lt. all_columns (λ text. text (get_or rows k no_row) ≢ codes "ALL") (lowers_of axis)
            (λ i lt. in_each_row (λ text. text ≢ codes "ALL") i lt (members i lt) k k_lt));
        few_members = all_columns (λ text. length (members_of (map text rows)) ≤ most_members) (lowers_of axis)
            few_members;
        one_upper =
            all_links (λ link. EachPair (λ row other. link.0 row ≡ link.0 other → link.1 row ≡ link.1 other) rows)
            (lowers_of axis) (λ i j lt e.
            pairs_of (λ row. text_in i row ≡ image axis dimension are i j (text_in j row))
            (λ row other. text_in j row ≡ text_in j other → text_in i row ≡ text_in i other) rows
            (λ row other p q same. p ∙ ap (image axis dimension are i j) same ∙ sym q)
            (all_from_get (λ row. text_in i row ≡ image axis dimension are i j (text_in j row)) rows no_row
            (above i j lt e)));
      };
      short = all_from_get IsShortRow rows no_row short_row;
    }

-- ---- from rows to codes

module _ (axis : Axis) (rows : List TextRow) (keep : KeepsRules (text_rules axis) rows) where
  -- a text is the one of the first row with its lower text
  pub determined : (i j : ℕ) → lower_of axis i ≡ Some j → IsDetermined (column_of j rows) (column_of i rows)
  determined i j e =
      let pairs : EachPair (λ row other. text_in j row ≡ text_in j other → text_in i row ≡ text_in i other) rows =
      one_link (λ link. EachPair (λ row other. link.0 row ≡ link.0 other → link.1 row ≡ link.1 other) rows)
      (lowers_of axis) i j e keep.one_upper in
      let lowers : List (List ℕ) = column_of j rows in
      let texts : List (List ℕ) = column_of i rows in
      ext_get_or [] texts (map (text_next_to lowers texts) lowers)
      (length-map rows (text_in i)
      ∙ sym (length-map lowers (text_next_to lowers texts) ∙ length-map rows (text_in j))) (λ k k_lt.
      let k_rows : k < length rows = omega (arith, k_lt, length-map rows (text_in i)) in
      let k_lowers : k < length lowers = omega (arith, k_rows, length-map rows (text_in j)) in
      first_alike k k_rows k_lowers pairs ∙ sym (get_or-map (text_next_to lowers texts) lowers k [] [] k_lowers))
    where
      first_alike : (k : ℕ) → k < length rows → k < length (column_of j rows)
          → EachPair (λ row other. text_in j row ≡ text_in j other → text_in i row ≡ text_in i other) rows
          → get_or (column_of i rows) k [] ≡ text_next_to (column_of j rows) (column_of i rows)
          (get_or (column_of j rows) k [])
      first_alike k k_rows k_lowers pairs =
          let lowers : List (List ℕ) = column_of j rows in
          let under : List ℕ = get_or lowers k [] in
          let l : ℕ = position_or_len (bytes_eq under) lowers in
          let l_lt : position_or_len (bytes_eq under) lowers < length lowers =
          place_within (bytes_eq under) lowers
          (list_any_here (bytes_eq under) lowers k [] k_lowers (bytes_eq-refl under)) in
          let l_rows : position_or_len (bytes_eq under) lowers < length rows =
          omega (arith, l_lt, length-map rows (text_in j)) in
          let alike : text_in j (get_or rows l no_row) ≡ text_in j (get_or rows k no_row) =
          sym (get_or-map (text_in j) rows l no_row [] l_rows) ∙ text_at_place lowers under l_lt
          ∙ get_or-map (text_in j) rows k no_row [] k_rows in
          let upper : text_in i (get_or rows k no_row) ≡ text_in i (get_or rows l no_row) = elim (cases_lt k l) [
            | inl below ↦ pair_at _ rows no_row pairs k l below l_rows (sym alike)
            | inr above ↦ elim (cases_lt l k) [
              | inl below ↦ sym (pair_at _ rows no_row pairs l k below k_rows alike)
              | inr same ↦ let is : k ≡ position_or_len (bytes_eq under) lowers = omega (arith, above, same) in
                  ap (λ m. text_in i (get_or rows m no_row)) is
            ]
          ] in
          get_or-map (text_in i) rows k no_row [] k_rows ∙ upper ∙ sym (get_or-map (text_in i) rows l no_row [] l_rows)

  -- the first uses of a column's texts are those at its places
  pub firsts_placed : (i : ℕ) → firsts (texts_at_places axis i rows) ≡ firsts (column_of i rows)
  firsts_placed i =
      elim (lower_of axis i) as (λ o. lower_of axis i ≡ o → firsts (place_texts (texts_below o rows) (column_of i rows))
      ≡ firsts (column_of i rows)) [
        | None ↦ λ e. refl
        | Some j ↦ λ e. firsts_at_places (column_of j rows) (column_of i rows) (determined i j e)
      ] refl

  -- what holds of each row's text holds of each of the texts
  pub all_texts : (P : List ℕ → Type 0) (i : ℕ) → AllByRecursion (λ row. P (text_in i row)) rows
      → AllByRecursion P (firsts (texts_at_places axis i rows))
  all_texts P i all =
      subst (AllByRecursion P) (sym (firsts_placed i))
      (all_firsts P (column_of i rows) (all_map P (text_in i) rows all))

  module _ (coded_rows : CodedRows) (is : AreCodedRows axis rows coded_rows) where
    unreserved : (i : ℕ) → i < length (lowers_of axis) → AllByRecursion (λ row. text_in i row ≢ codes "ALL") rows
    unreserved i lt =
        all_weaker (λ row. AllByRecursion (λ text. text row ≢ codes "ALL") (texts_from 0 (lowers_of axis)))
        (λ row. text_in i row ≢ codes "ALL") rows
        (λ row all. one_column (λ text. text row ≢ codes "ALL") (lowers_of axis) i lt all) keep.none_reserved

    place_count : (i : ℕ) → i < length (lowers_of axis)
        → length (texts_at_places axis i rows) ≡ place_total coded_rows (lower_of axis i)
    place_count i lt =
        elim (lower_of axis i) as
        (λ o. lower_of axis i ≡ o → length (place_texts (texts_below o rows) (column_of i rows))
        ≡ place_total coded_rows o) [
          | None ↦ λ e. length-map rows (text_in i) ∙ sym (ap length is.keys_are ∙ length-map rows (λ row. row.key))
          | Some j ↦ λ e.
              let before = lower_below axis i j e in
              length-map (firsts (column_of j rows)) (text_next_to (column_of j rows) (column_of i rows))
              ∙ ap length (sym (firsts_placed j)) ∙ ap length (sym (is.columns j (omega (arith, before, lt))).texts_are)
        ] refl

    pub proper_columns : HaveProperColumns axis coded_rows
    proper_columns = record {
      few_rows = omega (arith, keep.few_rows, ap length is.keys_are, length-map rows (λ row. row.key));
      count = is.count;
      columns = λ i lt.
          let own = is.columns i lt in record {
            members = subst (AllByRecursion (λ text. text ≢ codes "ALL")) (sym own.texts_are)
                (all_texts (λ text. text ≢ codes "ALL") i (unreserved i lt));
            places_are = ap length own.codes_are ∙ length-map (texts_at_places axis i rows) _ ∙ place_count i lt;
            order = subst (λ l. AreCodes (length l) (coded_at coded_rows i).codes) (sym own.texts_are)
                (subst (λ l. AreCodes (length (firsts (texts_at_places axis i rows))) l) (sym own.codes_are)
                (coded (texts_at_places axis i rows)));
          };
    }

    pub distinct_keys : KeysAreDistinct coded_rows.keys
    distinct_keys =
        subst KeysAreDistinct (sym is.keys_are)
        (pairs_map (λ key other. key ≢ other) (λ row. row.key) rows keep.keys_differ)
