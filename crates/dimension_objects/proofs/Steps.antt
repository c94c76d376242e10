-- One column more is read.
use Rattle.std.proofs.Common.{◌≡◌, ◌≢◌, ◌==◌, true, false, ◌<◌, ◌+◌, ◌*◌, ◌^◌, ◌∙◌, zero, suc, sym, ap, refl, subst}
use Rattle.std.proofs.Common.{arith, ℕ, List, [], ◌∷◌, ◌++◌, length, get_or, set, take, drop, Option, Some, None}
use Rattle.std.proofs.Common.{append_assoc, length-append, append-nil}
use Rattle.std.specs.List.{AllByRecursion, flat_map}
use Rattle.std.proofs.lemmas.Bool.{eqb-true, eqb-false}
use Rattle.std.proofs.lemmas.Grind.{flat_map-append}
use Rattle.std.proofs.lemmas.List.{get_or-set_same, get_or-set_other, length-set, take_more}
use Rattle.cube_model.specs.declared.attr.Axis.{Axis}
use Rattle.cube_model.specs.Lawful.{EachPair}
use Rattle.cube_model.specs.Limits.{most_members}
use Rattle.dictionary.specs.Spelling.{AreProper, texts_spelling, BeginsWithNone}
use Rattle.dictionary.specs.Columns.{codes_spelling}
use Rattle.dictionary.proofs.ColumnLaws.{texts_spelling-one}
use Rattle.dimensions.specs.declared.coded.CodedColumn.{CodedColumn}
use Rattle.dimensions.specs.Shapes.{lower_of}
use Rattle.dimensions.specs.Coded.{ColumnsHaveTexts, no_coded}
use Rattle.dimension_objects.specs.Spelled.{codes_in_order, texts_in_order}
use Rattle.dimension_objects.specs.Columns.{column_texts_in, column_codes_in, places_of, IsOrderOfColumns}
use Rattle.dimension_objects.specs.Columns.{ReadsColumnTexts, BeginsWithNoTexts}
use Rattle.dimension_objects.specs.Columns.{ReadsCodes, ReadsColumns, BeginsWithNoCodes}
use Rattle.dimension_objects.proofs.Front.{in_order-one, total_of, length-codes, total-append}

-- ---- what holds of each

pub all_append : {X : Type 0} (P : X → Type 0) (xs ys : List X) → AllByRecursion P xs → AllByRecursion P ys
    → AllByRecursion P (xs ++ ys)
all_append P [] ys all others = others
all_append P (x ∷ xs) ys all others = (all.0, all_append P xs ys all.1 others)

pub all_front : {X : Type 0} (P : X → Type 0) (xs ys : List X) → AllByRecursion P (xs ++ ys) → AllByRecursion P xs
all_front P [] ys all = tt
all_front P (x ∷ xs) ys all = (all.0, all_front P xs ys all.1)

pub all_after : {X : Type 0} (P : X → Type 0) (xs ys : List X) → AllByRecursion P (xs ++ ys) → AllByRecursion P ys
all_after P [] ys all = all
all_after P (x ∷ xs) ys all = all_after P xs ys all.1

pub all_weaker : {X : Type 0} (P Q : X → Type 0) (xs : List X) → ((x : X) → P x → Q x) → AllByRecursion P xs
    → AllByRecursion Q xs
all_weaker P Q [] weaker all = tt
all_weaker P Q (x ∷ xs) weaker all = (weaker x all.0, all_weaker P Q xs weaker all.1)

pub all_get : {X : Type 0} (P : X → Type 0) (xs : List X) (i : ℕ) (d : X) → i < length xs → AllByRecursion P xs
    → P (get_or xs i d)
all_get P [] i d lt all = absurd (omega (arith, lt))
all_get P (x ∷ xs) zero d lt all = all.0
all_get P (x ∷ xs) (suc i) d lt all = all_get P xs i d (omega (arith, lt)) all.1

pub all_set : {X : Type 0} (P : X → Type 0) (xs : List X) (i : ℕ) (y : X) → AllByRecursion P xs → P y
    → AllByRecursion P (set xs i y)
all_set P [] i y all here = tt
all_set P (x ∷ xs) zero y all here = (here, all.1)
all_set P (x ∷ xs) (suc i) y all here = (all.0, all_set P xs i y all.1 here)

-- an item is none of those before it
pub before_differ : (xs : List ℕ) (i : ℕ) → EachPair (λ one other. one ≢ other) xs → i < length xs
    → AllByRecursion (λ other. other ≢ get_or xs i 0) (take i xs)
before_differ [] i pairs lt = absurd (omega (arith, lt))
before_differ (x ∷ xs) zero pairs lt = tt
before_differ (x ∷ xs) (suc i) pairs lt =
    (all_get (λ other. x ≢ other) xs i 0 (omega (arith, lt)) pairs.0, before_differ xs i pairs.1 (omega (arith, lt)))

-- ---- a column that is set

module _ (columns : List CodedColumn) (column : ℕ) (new : CodedColumn) where
  pub texts_set : column < length columns → column_texts_in (set columns column new) column ≡ new.texts.texts
  texts_set lt = ap (λ c. c.texts.texts) (get_or-set_same columns column new no_coded lt)

  pub codes_set : column < length columns → column_codes_in (set columns column new) column ≡ new.codes
  codes_set lt = ap (λ c. c.codes) (get_or-set_same columns column new no_coded lt)

  pub texts_other : (other : ℕ) → other ≢ column
      → column_texts_in (set columns column new) other ≡ column_texts_in columns other
  texts_other other apart = ap (λ c. c.texts.texts) (get_or-set_other columns column other new no_coded apart)

  pub codes_other : (other : ℕ) → other ≢ column
      → column_codes_in (set columns column new) other ≡ column_codes_in columns other
  codes_other other apart = ap (λ c. c.codes) (get_or-set_other columns column other new no_coded apart)

  pub have_set : ColumnsHaveTexts columns → new.texts.limit ≡ most_members → AreProper most_members new.texts.texts
      → ColumnsHaveTexts (set columns column new)
  have_set have limit proper = record {
    limits = all_set (λ c. c.texts.limit ≡ most_members) columns column new have.limits limit;
    proper = all_set (λ c. AreProper most_members c.texts.texts) columns column new have.proper proper;
  }

-- parts in an order stay where others are set
parts_stay : {X : Type 0} (spelled : X → List ℕ) (f g : ℕ → X) (column : ℕ) (order : List ℕ)
    → ((other : ℕ) → other ≢ column → f other ≡ g other) → AllByRecursion (λ other. other ≢ column) order
    → flat_map (λ c. spelled (f c)) order ≡ flat_map (λ c. spelled (g c)) order
parts_stay spelled f g column [] same apart = refl
parts_stay spelled f g column (other ∷ order) same apart = λ i. spelled (same other apart.0 i)
    ++ parts_stay spelled f g column order same apart.1 i

single : {X : Type 0} (spelled : X → List ℕ) (f : ℕ → X) (column : ℕ)
    → flat_map (λ c. spelled (f c)) (column ∷ []) ≡ spelled (f column)
single spelled f column = append-nil (spelled (f column))

-- one part more after those that were read
grows : {X : Type 0} (spelled : X → List ℕ) (f g : ℕ → X) (front : List ℕ) (column : ℕ) (x : X)
    (bytes mid left : List ℕ)
    → bytes ≡ flat_map (λ c. spelled (f c)) front ++ mid → mid ≡ spelled x ++ left → g column ≡ x
    → ((other : ℕ) → other ≢ column → g other ≡ f other)
    → AllByRecursion (λ other. other ≢ column) front → bytes ≡ flat_map (λ c. spelled (g c)) (front ++ column ∷ [])
    ++ left
grows spelled f g front column x bytes mid left was is here same apart =
    was ∙ ap (λ part. flat_map (λ c. spelled (f c)) front ++ part) is
    ∙ sym (append_assoc (flat_map (λ c. spelled (f c)) front) (spelled x) left)
    ∙ ap (λ part. part ++ left) (
    (λ i. sym (parts_stay spelled g f column front same apart) i
    ++ (ap spelled (sym here) ∙ sym (single spelled g column)) i)
    ∙ sym (flat_map-append (λ c. spelled (g c)) front (column ∷ []))
    )

-- the order from a place on
pub order_split : (order : List ℕ) (i : ℕ) → i < length order
    → order ≡ take i order ++ (get_or order i 0 ∷ drop (i + 1) order)
order_split [] i lt = absurd (omega (arith, lt))
order_split (x ∷ order) zero lt = refl
order_split (x ∷ order) (suc i) lt =
    let next : suc (i + 1) ≡ suc i + 1 = omega arith in
    ap (λ l. x ∷ l) (order_split order i (omega (arith, lt)))
    ∙ ap (λ k. x ∷ (take i order ++ (get_or order i 0 ∷ drop k (x ∷ order)))) next

-- ---- texts

module _ (order : List ℕ) (i : ℕ) (lt : i < length order) (bytes mid : List ℕ) (old columns : List CodedColumn)
    (reads : ReadsColumnTexts (take i order) bytes mid old columns)
    (are : IsOrderOfColumns (length old) order) where
  abbrev column : ℕ
  column = get_or order i 0

  column_lt : column < length columns
  column_lt = let own = all_get (λ c. c < length old) order i 0 lt are.within in omega (arith, own, reads.count)

  pub texts_step : (new : CodedColumn) (left : List ℕ) → mid ≡ texts_spelling new.texts.texts ++ left
      → AreProper most_members new.texts.texts → new.texts.limit ≡ most_members
      → ReadsColumnTexts (take (i + 1) order) bytes left old (set columns column new)
  texts_step new left is proper limit = record {
    spelled = grows texts_spelling (column_texts_in columns) (column_texts_in (set columns column new)) (take i order)
        column
        new.texts.texts bytes mid left
        reads.spelled is (texts_set columns column new column_lt) (texts_other columns column new)
        (before_differ order i are.distinct lt)
        ∙ ap (λ l. texts_in_order (column_texts_in (set columns column new)) l ++ left) (sym (take_more order i 0 lt));
    count = length-set columns column new ∙ reads.count;
    have = have_set columns column new reads.have limit proper;
  }

  -- the texts of the columns so far are proper
  so_far : AllByRecursion (λ c. AreProper most_members (column_texts_in columns c)) (take i order)
  so_far = all_weaker (λ c. c < length old) (λ c. AreProper most_members (column_texts_in columns c)) (take i order)
      (λ c c_lt. all_get (λ own. AreProper most_members own.texts.texts) columns c no_coded
      (omega (arith, c_lt, reads.count)) reads.have.proper)
      (all_front (λ c. c < length old) (take i order) (column ∷ drop (i + 1) order)
      (subst (AllByRecursion (λ c. c < length old)) (order_split order i lt) are.within))

  pub texts_none : BeginsWithNone most_members mid → BeginsWithNoTexts order bytes
  texts_none none = λ texts rest proper is.
      let split = order_split order i lt in
      let parts : AllByRecursion (λ c. AreProper most_members (texts c))
      (take i order ++ (column ∷ drop (i + 1) order)) =
      subst (AllByRecursion (λ c. AreProper most_members (texts c))) split proper in
      let own = all_after (λ c. AreProper most_members (texts c)) (take i order) (column ∷ drop (i + 1) order) parts in
      let whole : bytes ≡ texts_in_order texts (take i order)
      ++ (texts_spelling (texts column) ++ (texts_in_order texts (drop (i + 1) order) ++ rest)) =
      is ∙ ap (λ l. texts_in_order texts l ++ rest) split
      ∙ ap (λ part. part ++ rest)
      (flat_map-append (λ c. texts_spelling (texts c)) (take i order) (column ∷ drop (i + 1) order))
      ∙ append_assoc (texts_in_order texts (take i order))
      (texts_spelling (texts column) ++ texts_in_order texts (drop (i + 1) order)) rest
      ∙ ap (λ part. texts_in_order texts (take i order) ++ part)
      (append_assoc (texts_spelling (texts column)) (texts_in_order texts (drop (i + 1) order)) rest) in
      let one = in_order-one texts_spelling (λ c x. AreProper most_members x)
      (λ c x y xs ys p q same. texts_spelling-one most_members x y xs ys (omega arith) p q same)
      (column_texts_in columns) texts (take i order) mid
      (texts_spelling (texts column) ++ (texts_in_order texts (drop (i + 1) order) ++ rest)) so_far
      (all_front (λ c. AreProper most_members (texts c)) (take i order) (column ∷ drop (i + 1) order) parts)
      (sym reads.spelled ∙ whole) in
      none (texts column) (texts_in_order texts (drop (i + 1) order) ++ rest) own.0 one.1

-- ---- codes

module _ (axis : Axis) (rows : ℕ) (order : List ℕ) (i : ℕ) (lt : i < length order) (bytes mid : List ℕ)
    (old columns : List CodedColumn)
    (reads : ReadsColumns axis rows (take i order) bytes mid old columns) (are : IsOrderOfColumns (length old) order)
  where
    abbrev next_column : ℕ
    next_column = get_or order i 0

    pub next_lt : next_column < length columns
    next_lt = let own = all_get (λ c. c < length old) order i 0 lt are.within in omega (arith, own, reads.count)

    places_stay : (o : Option ℕ) → places_of rows columns o ≡ places_of rows old o
    places_stay None = refl
    places_stay (Some lower) = ap length (reads.texts_stay lower)

    pub codes_step : (new : CodedColumn) (left : List ℕ) → new.texts ≡ (get_or columns next_column no_coded).texts
        → ReadsCodes (places_of rows columns (lower_of axis next_column)) mid left new.codes
        → ReadsColumns axis rows (take (i + 1) order) bytes left old (set columns next_column new)
    codes_step new left texts read =
        let apart = before_differ order i are.distinct lt in
        let front : take (i + 1) order ≡ take i order ++ next_column ∷ [] = take_more order i 0 lt in
        let here : column_codes_in (set columns next_column new) next_column ≡ new.codes =
        codes_set columns next_column new next_lt in record {
          spelled = grows codes_spelling (column_codes_in columns) (column_codes_in (set columns next_column new))
              (take i order)
              next_column new.codes bytes mid left
              reads.spelled read.spelled here (codes_other columns next_column new) apart
              ∙ ap (λ l. codes_in_order (column_codes_in (set columns next_column new)) l ++ left) (sym front);
          many = subst
              (AllByRecursion
              (λ c. length (column_codes_in (set columns next_column new) c) ≡ places_of rows old (lower_of axis c)))
              (sym front)
              (all_append
              (λ c. length (column_codes_in (set columns next_column new) c) ≡ places_of rows old (lower_of axis c))
              (take i order) (next_column ∷ [])
              (both_weaker (λ c. c ≢ next_column)
              (λ c. length (column_codes_in columns c) ≡ places_of rows old (lower_of axis c)) _ (take i order)
              (λ c differs many. ap length (codes_other columns next_column new c differs) ∙ many) apart reads.many)
              (ap length here ∙ read.many ∙ places_stay (lower_of axis next_column), tt));
          fit = subst
              (AllByRecursion
              (λ c. AllByRecursion (λ code. code < 2 ^ 16) (column_codes_in (set columns next_column new) c)))
              (sym front)
              (all_append
              (λ c. AllByRecursion (λ code. code < 2 ^ 16) (column_codes_in (set columns next_column new) c))
              (take i order) (next_column ∷ [])
              (both_weaker (λ c. c ≢ next_column)
              (λ c. AllByRecursion (λ code. code < 2 ^ 16) (column_codes_in columns c)) _
              (take i order)
              (λ c differs fit. subst (AllByRecursion (λ code. code < 2 ^ 16))
              (sym (codes_other columns next_column new c differs)) fit) apart reads.fit)
              (subst (AllByRecursion (λ code. code < 2 ^ 16)) (sym here) read.fit, tt));
          count = length-set columns next_column new ∙ reads.count;
          have = have_set columns next_column new reads.have
              (ap (λ t. t.limit) texts
              ∙ all_get (λ c. c.texts.limit ≡ most_members) columns next_column no_coded next_lt
              reads.have.limits)
              (subst (λ t. AreProper most_members t.texts) (sym texts)
              (all_get (λ c. AreProper most_members c.texts.texts) columns next_column no_coded next_lt
              reads.have.proper));
          texts_stay = λ c. texts_kept c ∙ reads.texts_stay c;
          others_stay = λ c out.
              let parts = subst (AllByRecursion (λ other. other ≢ c)) front out in
              codes_other columns next_column new c
              (λ same. (all_after (λ other. other ≢ c) (take i order) (next_column ∷ []) parts).0 (sym same))
              ∙ reads.others_stay c (all_front (λ other. other ≢ c) (take i order) (next_column ∷ []) parts);
        }
      where
        both_weaker : {X : Type 0} (P Q R : X → Type 0) (xs : List X) → ((x : X) → P x → Q x → R x)
            → AllByRecursion P xs
            → AllByRecursion Q xs → AllByRecursion R xs
        both_weaker P Q R [] weaker ps qs = tt
        both_weaker P Q R (x ∷ xs) weaker ps qs = (weaker x ps.0 qs.0, both_weaker P Q R xs weaker ps.1 qs.1)

        texts_kept : (c : ℕ) → column_texts_in (set columns next_column new) c ≡ column_texts_in columns c
        texts_kept c =
            elim (c == next_column) as
            (λ b. (c == next_column) ≡ b
            → column_texts_in (set columns next_column new) c ≡ column_texts_in columns c) [
              | true ↦ λ e.
                  let is : next_column ≡ c = sym (eqb-true c next_column e) in
                  subst (λ k. column_texts_in (set columns next_column new) k ≡ column_texts_in columns k) is
                  (texts_set columns next_column new next_lt ∙ ap (λ t. t.texts) texts)
              | false ↦ λ e. texts_other columns next_column new c (eqb-false c next_column e)
            ] refl

    pub codes_none : length mid < 2 * places_of rows columns (lower_of axis next_column)
        → BeginsWithNoCodes axis rows order old bytes
    codes_none short = λ numbers rest many is.
        let places : ℕ → ℕ = λ c. places_of rows old (lower_of axis c) in
        let split = order_split order i lt in
        let totals : total_of places order ≡ total_of places (take i order)
        + (places next_column + total_of places (drop (i + 1) order)) =
        ap (total_of places) split ∙ total-append places (take i order) (next_column ∷ drop (i + 1) order) in
        let asked : length bytes ≡ 2 * total_of places order + length rest = ap length is
        ∙ length-append (codes_in_order numbers order) rest
        ∙ ap (λ n. n + length rest) (length-codes places numbers order many) in
        let given : length bytes ≡ 2 * total_of places (take i order) + length mid =
        ap length reads.spelled ∙ length-append (codes_in_order (column_codes_in columns) (take i order)) mid
        ∙ ap (λ n. n + length mid) (length-codes places (column_codes_in columns) (take i order) reads.many) in
        let here : places_of rows columns (lower_of axis next_column) ≡ places next_column =
        places_stay (lower_of axis next_column) in
        absurd (omega (arith, totals, asked, given, here, short))
