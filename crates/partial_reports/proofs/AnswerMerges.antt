-- Answers over parts of the fact rows merge into the answer over all of them.
use Rattle.std.proofs.Common.{◌≡◌, ◌∙◌, sym, ap, refl, ℤ, pos, ◌+ℤ◌, Bool, true, false, cond, Option, Some, None, List}
use Rattle.std.proofs.Common.{[], ◌∷◌, ◌++◌, map, length, length-append, append-nil, append_assoc, arith}
use Rattle.std.specs.Prelude.{◌||◌}
use Rattle.std.specs.List.{cons_option, fold, filter, filter_map, flat_map, list_any, AllByRecursion}
use Rattle.std.specs.Int.{int_min, int_max}
use Rattle.std.specs.Ordering.{eq_by_cmp, is_eq}
use Rattle.std.specs.declared.cmp.Ordering.{Ordering}
use Rattle.std.specs.declared.cmp.Ordering.TheVariants.{Less, Equal, Greater}
use Rattle.std.proofs.lemmas.Cmp.{eq_by_cmp_equiv}
use Rattle.std.proofs.lemmas.Grind.{flat_map-append}
use Rattle.std.proofs.lemmas.Int.{ints}
use Rattle.std.proofs.lemmas.List.{map-append}
use Rattle.std.proofs.lemmas.List.Elements.{filter-append}
use Rattle.std.proofs.lemmas.List.Folds.{list_any-append}
use Rattle.std.proofs.lemmas.List.Sums.{fold-append}
use Rattle.cube_model.specs.declared.answer.Answer.{Answer}
use Rattle.cube_model.specs.declared.answer.Line.{Line}
use Rattle.cube_model.specs.declared.answer.Member.{Member}
use Rattle.cube_model.specs.declared.answer.Value.{Value}
use Rattle.cube_model.specs.declared.answer.Value.TheVariants.{Whole}
use Rattle.cube_model.specs.declared.measure.Agg.{Agg}
use Rattle.cube_model.specs.declared.measure.Agg.TheVariants.{Count, Sum, Min, Max, Avg}
use Rattle.cube_model.specs.declared.query.Query.{Query}
use Rattle.cube_model.specs.declared.rows.DimRows.{DimRows}
use Rattle.cube_model.specs.declared.rows.LineOrder.{LineOrder}
use Rattle.cube_model.specs.Admission.{all_rows}
use Rattle.cube_model.specs.Aggregates.{aggregate, total, least, greatest}
use Rattle.cube_model.specs.Answers.{answer, keys_among, line_of, rows_of_key}
use Rattle.cube_model.specs.Ascending.{ascending}
use Rattle.cube_model.proofs.Ascending.{IsAscending-ascending, list_any-ascending}
use Rattle.cube_model.specs.Keys.{key_cmp, keys_of}
use Rattle.cube_model.specs.Measures.{measure_of}
use Rattle.cube_model.proofs.KeyOrder.{key_cmp_total, key_cmp-IsAntisymmetric}
use Rattle.cube_model.specs.Orders.{in_order}
use Rattle.cube_model.specs.Proper.{is_average}
use Rattle.cube_model.specs.Selection.{selected, is_selected}
use Rattle.cube_model.proofs.Entries.{IsAscending-unique}
use Rattle.partial_reports.specs.MergeLawful.{IsMergeable, AnswersMerge, PartialAnswersSuffice, PartsMakeTheAnswer}
use Rattle.partial_reports.specs.MergeLawful.{MergingIsAssociative}
use Rattle.partial_reports.specs.Merges.{merged_answer, merged_all, merged_line_if_any, merged_lines, merged_number}
use Rattle.partial_reports.specs.Merges.{merged_values, keys_in, line_of_key}
use Rattle.partial_reports.specs.Parts.{finished, finished_line, finished_values, value_number, partial_agg}
use Rattle.partial_reports.specs.Parts.{partial_query}

-- ---- numbers put end to end
sum_from : (a : ℤ) (xs : List ℤ) → fold (λ so_far number. so_far +ℤ number) a xs ≡ a +ℤ total xs
sum_from a [] = omega (arith, ints)
sum_from a (x ∷ xs) = sum_from (a +ℤ x) xs ∙ (omega (arith, ints, sum_from (pos 0 +ℤ x) xs))

pub total-append : (xs ys : List ℤ) → total (xs ++ ys) ≡ total xs +ℤ total ys
total-append xs ys = fold-append (λ so_far number. so_far +ℤ number) (pos 0) xs ys ∙ sum_from (total xs) ys

min_assoc : (a b c : ℤ) → int_min (int_min a b) c ≡ int_min a (int_min b c)
min_assoc a b c = grind (arith, ints)

max_assoc : (a b c : ℤ) → int_max (int_max a b) c ≡ int_max a (int_max b c)
max_assoc a b c = grind (arith, ints)

fold_from : (f : ℤ → ℤ → ℤ) → ((a b c : ℤ) → f (f a b) c ≡ f a (f b c)) → (a b : ℤ) (xs : List ℤ)
    → fold f (f a b) xs ≡ f a (fold f b xs)
fold_from f assoc a b [] = refl
fold_from f assoc a b (x ∷ xs) = ap (λ start. fold f start xs) (assoc a b x) ∙ fold_from f assoc a (f b x) xs

pub least-append : (x : ℤ) (xs : List ℤ) (y : ℤ) (ys : List ℤ)
    → least ((x ∷ xs) ++ (y ∷ ys)) ≡ int_min (least (x ∷ xs)) (least (y ∷ ys))
least-append x xs y ys = fold-append int_min x xs (y ∷ ys) ∙ fold_from int_min min_assoc (fold int_min x xs) y ys

pub greatest-append : (x : ℤ) (xs : List ℤ) (y : ℤ) (ys : List ℤ)
    → greatest ((x ∷ xs) ++ (y ∷ ys)) ≡ int_max (greatest (x ∷ xs)) (greatest (y ∷ ys))
greatest-append x xs y ys = fold-append int_max x xs (y ∷ ys) ∙ fold_from int_max max_assoc (fold int_max x xs) y ys

-- ---- aggregates over rows put end to end, where there is some row in each
aggregate-append : (agg : Agg) (row : LineOrder) (rows : List LineOrder) (other : LineOrder) (others : List LineOrder)
    → is_average agg ≡ false
    → aggregate agg ((row ∷ rows) ++ (other ∷ others))
    ≡ Whole (merged_number agg (value_number (aggregate agg (row ∷ rows)))
    (value_number (aggregate agg (other ∷ others))))
aggregate-append Count row rows other others whole =
    ap (λ n. Whole (pos n)) (length-append (row ∷ rows) (other ∷ others))
aggregate-append (Sum measure) row rows other others whole =
    ap Whole (ap total (map-append (measure_of measure) (row ∷ rows) (other ∷ others))
    ∙ total-append (map (measure_of measure) (row ∷ rows)) (map (measure_of measure) (other ∷ others)))
aggregate-append (Min measure) row rows other others whole =
    ap Whole (ap least (map-append (measure_of measure) (row ∷ rows) (other ∷ others))
    ∙ least-append (measure_of measure row) (map (measure_of measure) rows) (measure_of measure other)
    (map (measure_of measure) others))
aggregate-append (Max measure) row rows other others whole =
    ap Whole (ap greatest (map-append (measure_of measure) (row ∷ rows) (other ∷ others))
    ∙ greatest-append (measure_of measure row) (map (measure_of measure) rows) (measure_of measure other)
    (map (measure_of measure) others))
aggregate-append (Avg measure) row rows other others whole = cc

values-append : (aggs : List Agg) (row : LineOrder) (rows : List LineOrder) (other : LineOrder)
    (others : List LineOrder) → AllByRecursion (λ agg. is_average agg ≡ false) aggs
    → map (λ agg. aggregate agg ((row ∷ rows) ++ (other ∷ others))) aggs
    ≡ merged_values aggs (map (λ agg. aggregate agg (row ∷ rows)) aggs)
    (map (λ agg. aggregate agg (other ∷ others)) aggs)
values-append [] row rows other others all = refl
values-append (agg ∷ aggs) row rows other others all =
    λ i. aggregate-append agg row rows other others all.0 i ∷ values-append aggs row rows other others all.1 i

-- ---- keys
pub or_true : (b : Bool) → (b || true) ≡ true
or_true true = refl
or_true false = refl

pub or_false : (b : Bool) → (b || false) ≡ b
or_false true = refl
or_false false = refl

abbrev pub same_key : List Member → List Member → Bool
same_key = eq_by_cmp key_cmp

pub same_key-refl : (key : List Member) → same_key key key ≡ true
same_key-refl key = (eq_by_cmp_equiv key_cmp_total).refl key

is_equal : (r : Ordering) → is_eq r ≡ true → r ≡ Equal
is_equal Less e = cc
is_equal Equal e = refl
is_equal Greater e = cc

-- keys that tie are one
pub same_key-is : (one other : List Member) → same_key one other ≡ true → one ≡ other
same_key-is one other e = key_cmp-IsAntisymmetric one other (is_equal (key_cmp one other) e)

-- what is said of each key of a list alone
pub map_some : {X : Type 0} (g : List Member → Option X) (f : List Member → X) (keys : List (List Member))
    → ((key : List Member) → list_any (same_key key) keys ≡ true → g key ≡ Some (f key))
    → filter_map g keys ≡ map f keys
map_some g f [] each = refl
map_some g f (key ∷ keys) each =
    let here : g key ≡ Some (f key) = each key (ap (λ b. b || list_any (same_key key) keys) (same_key-refl key)) in
    let there : filter_map g keys ≡ map f keys =
    map_some g f keys (λ q is. each q (ap (λ b. same_key q key || b) is ∙ or_true (same_key q key))) in
    ap (λ found. cons_option found (filter_map g keys)) here ∙ ap (λ rest. f key ∷ rest) there

-- keys in order, of two lists that are in order
ascending_both : (ones others : List (List Member))
    → ascending key_cmp (ascending key_cmp ones ++ ascending key_cmp others) ≡ ascending key_cmp (ones ++ others)
ascending_both ones others =
    let o = key_cmp_total in
    let same = key_cmp-IsAntisymmetric in
    let halves = ascending key_cmp ones ++ ascending key_cmp others in
    IsAscending-unique key_cmp o same (ascending key_cmp halves) (ascending key_cmp (ones ++ others))
    (IsAscending-ascending key_cmp o same halves) (IsAscending-ascending key_cmp o same (ones ++ others))
    (λ q. list_any-ascending key_cmp o same q halves
    ∙ list_any-append (same_key q) (ascending key_cmp ones) (ascending key_cmp others)
    ∙ (λ i. list_any-ascending key_cmp o same q ones i || list_any-ascending key_cmp o same q others i)
    ∙ sym (list_any-append (same_key q) ones others)
    ∙ sym (list_any-ascending key_cmp o same q (ones ++ others)))

-- the line of a key among lines that are made of keys
pub line_of_key-map : (f : List Member → Line) → ((key : List Member) → (f key).key ≡ key)
    → (q : List Member) (keys : List (List Member))
    → line_of_key q (map f keys) ≡ cond (list_any (same_key q) keys) (Some (f q)) None
line_of_key-map f own q [] = refl
line_of_key-map f own q (key ∷ keys) =
    ap (λ k. cond (same_key q k) (Some (f key)) (line_of_key q (map f keys))) (own key)
    ∙ (elim (same_key q key) as
    (λ b. same_key q key ≡ b → cond b (Some (f key)) (line_of_key q (map f keys))
    ≡ cond (b || list_any (same_key q) keys) (Some (f q)) None) [
      | true ↦ λ e. ap (λ k. Some (f k)) (sym (same_key-is q key e))
      | false ↦ λ e. line_of_key-map f own q keys
    ]) refl

keys_in-map : (f : List Member → Line) → ((key : List Member) → (f key).key ≡ key) → (keys : List (List Member))
    → keys_in (map f keys) ≡ keys
keys_in-map f own [] = refl
keys_in-map f own (key ∷ keys) = λ i. own key i ∷ keys_in-map f own keys i

-- ---- the rows of a key
list_any-flat_map : {X Y : Type 0} (p : Y → Bool) (f : X → List Y) (xs : List X)
    → list_any p (flat_map f xs) ≡ list_any (λ x. list_any p (f x)) xs
list_any-flat_map p f [] = refl
list_any-flat_map p f (x ∷ xs) = list_any-append p (f x) (flat_map f xs)
    ∙ ap (λ b. list_any p (f x) || b) (list_any-flat_map p f xs)

-- a test that no item passes leaves none, and one that some item passes leaves some
abbrev pub has_some : {X : Type 0} → List X → Bool
has_some [] = false
has_some (x ∷ xs) = true

has_some-filter : {X : Type 0} (p : X → Bool) (xs : List X) → has_some (filter p xs) ≡ list_any p xs
has_some-filter p [] = refl
has_some-filter p (x ∷ xs) =
    elim (p x) as (λ b. has_some (cond b (x ∷ filter p xs) (filter p xs)) ≡ (b || list_any p xs)) [
      | true ↦ refl
      | false ↦ has_some-filter p xs
    ]

module _ (query : Query) (dimensions : DimRows) where
  abbrev of_key : List Member → List LineOrder → List LineOrder
  of_key key rows = rows_of_key dimensions query key rows

  -- a key that is among those of rows has some row, and no other key has one
  pub has_rows : (key : List Member) (rows : List LineOrder)
      → list_any (same_key key) (keys_among dimensions query rows) ≡ has_some (of_key key rows)
  has_rows key rows =
      list_any-ascending key_cmp key_cmp_total key_cmp-IsAntisymmetric key (flat_map (keys_of dimensions query) rows)
      ∙ list_any-flat_map (same_key key) (keys_of dimensions query) rows
      ∙ sym (has_some-filter (λ row. list_any (same_key key) (keys_of dimensions query row)) rows)

  abbrev values_over : List LineOrder → List Value
  values_over rows = map (λ agg. aggregate agg rows) query.aggregates

  -- the line of a key over rows put end to end, by what each of both has of it
  line-append : (key : List Member) (rows others : List LineOrder)
      → AllByRecursion (λ agg. is_average agg ≡ false) query.aggregates
      → (has_some rows || has_some others) ≡ true
      → merged_line_if_any query.aggregates
      (cond (has_some rows) (Some (record { key = key; values = values_over rows })) None)
      (cond (has_some others) (Some (record { key = key; values = values_over others })) None)
      ≡ Some (record { key = key; values = values_over (rows ++ others) })
  line-append key [] [] all some = cc
  line-append key [] (other ∷ others) all some = refl
  line-append key (row ∷ rows) [] all some =
      ap (λ both. Some (record { key = key; values = values_over both })) (sym (append-nil (row ∷ rows)))
  line-append key (row ∷ rows) (other ∷ others) all some =
      ap (λ values. Some (record { key = key; values = values }))
      (sym (values-append query.aggregates row rows other others all))

  -- the same of rows that are selected
  merged-chosen : (rows others : List LineOrder) → AllByRecursion (λ agg. is_average agg ≡ false) query.aggregates
      → merged_lines query.aggregates (map (line_of dimensions query rows) (keys_among dimensions query rows))
      (map (line_of dimensions query others) (keys_among dimensions query others))
      ≡ map (line_of dimensions query (rows ++ others)) (keys_among dimensions query (rows ++ others))
  merged-chosen rows others all =
      let f = line_of dimensions query rows in
      let g = line_of dimensions query others in
      let ones = keys_among dimensions query rows in
      let twos = keys_among dimensions query others in
      let both = keys_among dimensions query (rows ++ others) in
      let keys_are : ascending key_cmp (keys_in (map f ones) ++ keys_in (map g twos)) ≡ both =
      (λ i. ascending key_cmp (keys_in-map f (λ key. refl) ones i ++ keys_in-map g (λ key. refl) twos i))
      ∙ ascending_both (flat_map (keys_of dimensions query) rows) (flat_map (keys_of dimensions query) others)
      ∙ ap (ascending key_cmp) (sym (flat_map-append (keys_of dimensions query) rows others)) in
      ap (filter_map
      (λ key. merged_line_if_any query.aggregates (line_of_key key (map f ones)) (line_of_key key (map g twos))))
      keys_are
      ∙ map_some (λ key. merged_line_if_any query.aggregates (line_of_key key (map f ones))
      (line_of_key key (map g twos))) (line_of dimensions query (rows ++ others)) both
      (λ key is.
      let split : of_key key (rows ++ others) ≡ of_key key rows ++ of_key key others =
      filter-append (λ row. list_any (same_key key) (keys_of dimensions query row)) rows others in
      let first : line_of_key key (map f ones) ≡ cond (has_some (of_key key rows)) (Some (f key)) None =
      line_of_key-map f (λ k. refl) key ones ∙ ap (λ b. cond b (Some (f key)) None) (has_rows key rows) in
      let second : line_of_key key (map g twos) ≡ cond (has_some (of_key key others)) (Some (g key)) None =
      line_of_key-map g (λ k. refl) key twos ∙ ap (λ b. cond b (Some (g key)) None) (has_rows key others) in
      let some : (has_some (of_key key rows) || has_some (of_key key others)) ≡ true =
      sym (some-append (of_key key rows) (of_key key others)) ∙ ap has_some (sym split)
      ∙ sym (has_rows key (rows ++ others)) ∙ is in
      (λ i. merged_line_if_any query.aggregates (first i) (second i))
      ∙ line-append key (of_key key rows) (of_key key others) all some
      ∙ ap (λ own. Some (record { key = key; values = values_over own })) (sym split))
    where
      some-append : (xs ys : List LineOrder) → has_some (xs ++ ys) ≡ (has_some xs || has_some ys)
      some-append [] ys = refl
      some-append (x ∷ xs) ys = refl

in_order-none : (query : Query) (lines : List Line) → query.order ≡ None → in_order query.order lines ≡ lines
in_order-none query lines e = ap (λ order. in_order order lines) e

pub answers_merge : AnswersMerge
answers_merge query dimensions rows others mergeable =
    let chosen = selected dimensions query.conditions in
    let lines : List LineOrder → List Line =
    λ some. map (line_of dimensions query some) (keys_among dimensions query some) in
    let plain : (some : List LineOrder) → in_order query.order (lines (chosen some)) ≡ lines (chosen some) =
    λ some. in_order-none query (lines (chosen some)) mergeable.by_key in
    let split : chosen (rows ++ others) ≡ chosen rows ++ chosen others =
    filter-append (is_selected dimensions query.conditions) rows others in
    ap (λ all. record { lines = all })
    (plain (rows ++ others) ∙ ap lines split
    ∙ sym (merged-chosen query dimensions (chosen rows) (chosen others) mergeable.whole)
    ∙ (λ i. merged_lines query.aggregates (sym (plain rows) i) (sym (plain others) i)))

-- ---- partial answers
no_average : (aggs : List Agg) → AllByRecursion (λ agg. is_average agg ≡ false) (map partial_agg aggs)
no_average [] = tt
no_average (Count ∷ aggs) = (refl, no_average aggs)
no_average (Sum measure ∷ aggs) = (refl, no_average aggs)
no_average (Min measure ∷ aggs) = (refl, no_average aggs)
no_average (Max measure ∷ aggs) = (refl, no_average aggs)
no_average (Avg measure ∷ aggs) = (refl, no_average aggs)

partial-IsMergeable : (query : Query) → IsMergeable (partial_query query)
partial-IsMergeable query = record { whole = (refl, no_average query.aggregates); by_key = refl }

finished-values : (aggs : List Agg) (rows : List LineOrder)
    → finished_values aggs (Whole (pos (length rows))) (map (λ agg. aggregate agg rows) (map partial_agg aggs))
    ≡ map (λ agg. aggregate agg rows) aggs
finished-values [] rows = refl
finished-values (Count ∷ aggs) rows = ap (λ rest. aggregate Count rows ∷ rest) (finished-values aggs rows)
finished-values (Sum measure ∷ aggs) rows = ap (λ rest. aggregate (Sum measure) rows ∷ rest) (finished-values aggs rows)
finished-values (Min measure ∷ aggs) rows = ap (λ rest. aggregate (Min measure) rows ∷ rest) (finished-values aggs rows)
finished-values (Max measure ∷ aggs) rows = ap (λ rest. aggregate (Max measure) rows ∷ rest) (finished-values aggs rows)
finished-values (Avg measure ∷ aggs) rows = ap (λ rest. aggregate (Avg measure) rows ∷ rest) (finished-values aggs rows)

map_map : {X Y Z : Type 0} (g : Y → Z) (f : X → Y) (h : X → Z) → ((x : X) → g (f x) ≡ h x) → (xs : List X)
    → map g (map f xs) ≡ map h xs
map_map g f h each [] = refl
map_map g f h each (x ∷ xs) = λ i. each x i ∷ map_map g f h each xs i

pub finished-answer : (query : Query) (dimensions : DimRows) (rows : List LineOrder)
    → finished query (answer (partial_query query) dimensions rows) ≡ answer query dimensions rows
finished-answer query dimensions rows =
    let chosen = selected dimensions query.conditions rows in
    let keys = keys_among dimensions query chosen in
    ap (λ all. record { lines = in_order query.order all })
    (map_map (finished_line query.aggregates) (line_of dimensions (partial_query query) chosen)
    (line_of dimensions query chosen)
    (λ key. ap (λ values. record { key = key; values = values })
    (finished-values query.aggregates (rows_of_key dimensions query key chosen))) keys)

pub partial_answers_suffice : PartialAnswersSuffice
partial_answers_suffice query dimensions rows = (partial-IsMergeable query, sym (finished-answer query dimensions rows))

-- ---- any number of parts
merged-from : (query : Query) → IsMergeable query
    → (dimensions : DimRows) (rows : List LineOrder) (parts : List (List LineOrder))
    → fold (merged_answer query) (answer query dimensions rows) (map (answer query dimensions) parts)
    ≡ answer query dimensions (rows ++ all_rows parts)
merged-from query mergeable dimensions rows [] = ap (answer query dimensions) (sym (append-nil rows))
merged-from query mergeable dimensions rows (part ∷ parts) =
    ap (λ start. fold (merged_answer query) start (map (answer query dimensions) parts))
    (sym (answers_merge query dimensions rows part mergeable))
    ∙ merged-from query mergeable dimensions (rows ++ part) parts
    ∙ ap (answer query dimensions) (append_assoc rows part (all_rows parts))

-- over no row an answer has no line
over_none : (query : Query) (dimensions : DimRows) → query.order ≡ None → answer query dimensions [] ≡ record {
  lines = [];
}
over_none query dimensions e = ap (λ order. record { lines = in_order order [] }) e

-- the merge of partial answers is the partial answer over all rows
pub merged-parts : (query : Query) (dimensions : DimRows) (parts : List (List LineOrder))
    → merged_all (partial_query query) (map (answer (partial_query query) dimensions) parts)
    ≡ answer (partial_query query) dimensions (all_rows parts)
merged-parts query dimensions parts =
    let partial = partial_query query in
    sym (ap (λ start. fold (merged_answer partial) start (map (answer partial dimensions) parts))
    (over_none partial dimensions refl))
    ∙ merged-from partial (partial-IsMergeable query) dimensions [] parts

pub parts_make_the_answer : PartsMakeTheAnswer
parts_make_the_answer query dimensions parts =
    sym (finished-answer query dimensions (all_rows parts))
    ∙ ap (finished query) (sym (merged-parts query dimensions parts))

pub merging_is_associative : MergingIsAssociative
merging_is_associative query dimensions rows others more mergeable =
    let over : List LineOrder → Answer = answer query dimensions in
    ap (λ both. merged_answer query both (over more)) (sym (answers_merge query dimensions rows others mergeable))
    ∙ sym (answers_merge query dimensions (rows ++ others) more mergeable)
    ∙ ap over (append_assoc rows others more)
    ∙ answers_merge query dimensions rows (others ++ more) mergeable
    ∙ ap (merged_answer query (over rows)) (answers_merge query dimensions others more mergeable)
