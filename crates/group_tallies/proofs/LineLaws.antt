-- The lines of groups, and what they are in the answer.
use Rattle.std.proofs.Common.{◌≡◌, ◌∙◌, sym, ap, refl, subst, ℕ, zero, suc, ◌<◌, ◌≤◌, true, false, cond, Bool, List, []}
use Rattle.std.proofs.Common.{◌∷◌, ◌++◌, map, length, get_or, Some, arith}
use Rattle.std.specs.Prelude.{nat_lt, ◌&&◌, IfSome, IsSomeAnd, slice_get}
use Rattle.std.specs.List.{All, AllByRecursion, IsDistinct, list_all, list_any, filter, flat_map}
use Rattle.std.specs.List.Sorted.{IsPermutation, IsStrictlySortedBy}
use Rattle.std.specs.Ordering.{nat_cmp, eq_by_cmp}
use Rattle.std.specs.declared.alloc.Global.{Global}
use Rattle.std.specs.declared.vec.Vec.{Vec}
use Rattle.std.proofs.lemmas.Bool.Decides.{nat_tests}
use Rattle.std.proofs.lemmas.List.Elements.{All-from_recursion, All-filter}
use Rattle.std.proofs.lemmas.List.Sorted.{IsPermutation-map, All-permutation, list_any-IsPermutation}
use Rattle.std.proofs.lemmas.Map.Keys.{IsDistinct-from_sorted}
use Rattle.std.proofs.lemmas.Map.Made.{IsDistinct-keys_filter}
use Rattle.cube_model.specs.Answers.{answer, line_of, keys_among}
use Rattle.cube_model.specs.Ascending.{IsAscending}
use Rattle.cube_model.proofs.Ascending.{list_any-ascending}
use Rattle.cube_model.specs.Keys.{key_cmp, keys_of}
use Rattle.cube_model.specs.Lawful.{AnswerIsTheOne}
use Rattle.cube_model.proofs.KeyOrder.{key_cmp_total, key_cmp-IsAntisymmetric}
use Rattle.cube_model.specs.Orders.{line_cmp, answer_cmp}
use Rattle.cube_model.specs.Proper.{is_average, IsFitOrder, IsProper}
use Rattle.cube_model.specs.Selection.{selected}
use Rattle.cube_model.specs.declared.answer.Line.{Line}
use Rattle.cube_model.specs.declared.answer.Member.{Member}
use Rattle.cube_model.specs.declared.answer.Value.{Value}
use Rattle.cube_model.specs.declared.measure.Agg.{Agg}
use Rattle.cube_model.specs.declared.measure.Agg.TheVariants.{Count}
use Rattle.cube_model.specs.declared.query.Order.{Order}
use Rattle.cube_model.specs.declared.query.Query.{Query}
use Rattle.cube_model.specs.declared.rows.DimRows.{DimRows}
use Rattle.cube_model.specs.declared.rows.LineOrder.{LineOrder}
use Rattle.group_tallies.specs.Columns.{entry_line, is_seen, line_with, seen_entries, seen_groups, tallies_at, tally_at}
use Rattle.group_tallies.specs.GroupLines.{HaveLines}
use Rattle.group_tallies.specs.Slots.{slot_of, AreSlots}
use Rattle.group_tallies.specs.Tallies.{value_of, values_of}
use Rattle.group_tallies.specs.declared.tally.Tally.{Tally}
use Rattle.group_numbers.specs.Numbers.{group_count}
use Rattle.group_tallies.proofs.Seen.{each_number, All-numbers}

recursion_from : {X : Type 0} (P : X → Type 0) (xs : List X) → All P xs → AllByRecursion P xs
recursion_from P [] all = tt
recursion_from P (x ∷ xs) all = (all 0 x (omega arith), recursion_from P xs (λ i d h. all (suc i) d (omega (arith, h))))

pub all_push : {X : Type 0} (P : X → Type 0) (xs : List X) (x : X) → All P xs → P x → All P (xs ++ x ∷ [])
all_push P xs x all here = All-from_recursion P (xs ++ x ∷ []) (more xs (recursion_from P xs all))
  where
    more : (ys : List _) → AllByRecursion P ys → AllByRecursion P (ys ++ x ∷ [])
    more [] before = (here, tt)
    more (y ∷ ys) before = (before.0, more ys before.1)

-- ---- values
module _ (slot : ℕ) where
  pub values_of-at : (aggs : List Agg) (columns : List (Vec Tally Global)) (i : ℕ) (agg : Agg)
      (column : Vec Tally Global) (value : Value) → length columns ≡ length aggs → i < length aggs
      → get_or (values_of aggs (tallies_at columns slot)) i value
      ≡ value_of (get_or aggs i agg) (tally_at (get_or columns i column).items slot)
  values_of-at [] columns i agg column value same h = absurd (omega (arith, h))
  values_of-at (first ∷ aggs) [] i agg column value same h = absurd (omega (arith, same))
  values_of-at (first ∷ aggs) (one ∷ columns) zero agg column value same h = refl
  values_of-at (first ∷ aggs) (one ∷ columns) (suc i) agg column value same h =
      values_of-at aggs columns i agg column value (omega (arith, same)) (omega (arith, h))

  pub length-values_of : (aggs : List Agg) (columns : List (Vec Tally Global)) → length columns ≡ length aggs
      → length (values_of aggs (tallies_at columns slot)) ≡ length aggs
  length-values_of [] columns same = refl
  length-values_of (first ∷ aggs) [] same = absurd (omega (arith, same))
  length-values_of (first ∷ aggs) (one ∷ columns) same = ap suc (length-values_of aggs columns (omega (arith, same)))

  counted_all : (columns : List (Vec Tally Global))
      → list_all (λ (tally : Tally). nat_lt 0 tally.count) (tallies_at columns slot) ≡ true
      → (i : ℕ) (column : Vec Tally Global) → i < length columns
      → 1 ≤ (tally_at (get_or columns i column).items slot).count
  counted_all [] all i column h = absurd (omega (arith, h))
  counted_all (one ∷ columns) all zero column h =
      let here : nat_lt 0 (tally_at one.items slot).count ≡ true =
      left (nat_lt 0 (tally_at one.items slot).count) _ all in
      grind (arith, nat_tests)
    where
      left : (a b : Bool) → (a && b) ≡ true → a ≡ true
      left true b e = refl
      left false b e = e
  counted_all (one ∷ columns) all (suc i) column h =
      counted_all columns (right (nat_lt 0 (tally_at one.items slot).count) _ all) i column (omega (arith, h))
    where
      right : (a b : Bool) → (a && b) ≡ true → b ≡ true
      right true b e = e
      right false b e = cc

  -- where there are rows, each tally counts some
  pub counted : (columns : List (Vec Tally Global)) → is_seen (tallies_at columns slot) ≡ true
      → (i : ℕ) (column : Vec Tally Global) → i < length columns
      → 1 ≤ (tally_at (get_or columns i column).items slot).count
  counted [] seen i column h = absurd (omega (arith, h))
  counted (one ∷ columns) seen i column h = counted_all (one ∷ columns) seen i column h

  all_tallies : (columns : List (Vec Tally Global))
      → list_all (λ (column : Vec Tally Global). nat_lt 0 (tally_at column.items slot).count) columns
      ≡ list_all (λ (tally : Tally). nat_lt 0 tally.count) (tallies_at columns slot)
  all_tallies [] = refl
  all_tallies (one ∷ columns) = ap (λ b. nat_lt 0 (tally_at one.items slot).count && b) (all_tallies columns)

  pub is_seen-all : (columns : List (Vec Tally Global)) → 0 < length columns
      → list_all (λ (column : Vec Tally Global). nat_lt 0 (tally_at column.items slot).count) columns
      ≡ is_seen (tallies_at columns slot)
  is_seen-all [] some = absurd (omega (arith, some))
  is_seen-all (one ∷ columns) some = all_tallies (one ∷ columns)

-- ---- groups that have rows
pub seen_groups-map : (key : ℕ → List Member) (tallies : ℕ → List Tally) (entries : List (ℕ × ℕ))
    → seen_groups key tallies entries ≡ map (λ entry. (key entry.0, tallies entry.1)) (seen_entries tallies entries)
seen_groups-map key tallies [] = refl
seen_groups-map key tallies (entry ∷ entries) =
    let rest = seen_groups-map key tallies entries in
    elim (is_seen (tallies entry.1)) as
    (λ b. cond b ((key entry.0, tallies entry.1) ∷ seen_groups key tallies entries)
    (seen_groups key tallies entries)
    ≡ map (λ entry. (key entry.0, tallies entry.1))
    (cond b (entry ∷ seen_entries tallies entries) (seen_entries tallies entries))) [
      | true ↦ ap (λ more. (key entry.0, tallies entry.1) ∷ more) rest
      | false ↦ rest
    ]

pub map-map : {X Y Z : Type 0} (g : Y → Z) (f : X → Y) (xs : List X) → map g (map f xs) ≡ map (λ x. g (f x)) xs
map-map g f [] = refl
map-map g f (x ∷ xs) = ap (λ rest. g (f x) ∷ rest) (map-map g f xs)

pub seen_lines : (key : ℕ → List Member) (aggs : List Agg) (columns : List (Vec Tally Global)) (entries : List (ℕ × ℕ))
    → map (entry_line key aggs columns) (seen_entries (tallies_at columns) entries)
    ≡ map (line_with aggs) (seen_groups key (tallies_at columns) entries)
seen_lines key aggs columns entries =
    sym (ap (map (line_with aggs)) (seen_groups-map key (tallies_at columns) entries)
    ∙ map-map (line_with aggs) (λ (entry : ℕ × ℕ). (key entry.0, tallies_at columns entry.1))
    (seen_entries (tallies_at columns) entries))

passes : {X : Type 0} (p : X → Bool) (xs : List X) → AllByRecursion (λ x. p x ≡ true) (filter p xs)
passes p [] = tt
passes p (x ∷ xs) =
    (elim (p x) as (λ b. p x ≡ b → AllByRecursion (λ x. p x ≡ true) (cond b (x ∷ filter p xs) (filter p xs))) [
      | true ↦ λ e. (e, passes p xs)
      | false ↦ λ e. passes p xs
    ]) refl

pub all_seen : (tallies : ℕ → List Tally) (entries : List (ℕ × ℕ))
    → All (λ entry. is_seen (tallies entry.1) ≡ true) (seen_entries tallies entries)
all_seen tallies entries =
    All-from_recursion (λ (entry : ℕ × ℕ). is_seen (tallies entry.1) ≡ true) (seen_entries tallies entries)
    (passes (λ (entry : ℕ × ℕ). is_seen (tallies entry.1)) entries)

pub seen_below : (bound : ℕ) (tallies : ℕ → List Tally) (entries : List (ℕ × ℕ))
    → IsStrictlySortedBy nat_cmp (map (λ e. e.0) entries)
    → ((number slot : ℕ) → slot_of entries number ≡ Some slot → number < bound)
    → All (λ entry. entry.0 < bound) (seen_entries tallies entries)
seen_below bound tallies entries sorted below =
    All-filter (λ (entry : ℕ × ℕ). is_seen (tallies entry.1)) (λ (entry : ℕ × ℕ). entry.0 < bound) entries
    (All-numbers (λ number. number < bound) entries (each_number (λ number. number < bound) entries sorted below))

-- the groups that have rows have lines
pub seen_have_lines : (dimensions : DimRows) (query : Query) (columns : List (Vec Tally Global))
    (entries : List (ℕ × ℕ)) → AreSlots (group_count dimensions query.columns) entries
    → HaveLines dimensions query columns (seen_entries (tallies_at columns) entries)
seen_have_lines dimensions query columns entries slots =
    let below = seen_below (group_count dimensions query.columns) (tallies_at columns) entries slots.sorted
    slots.below in
    let seen = all_seen (tallies_at columns) entries in
    λ i d h. (below i d h, seen i d h)

pub seen_apart : (tallies : ℕ → List Tally) (entries : List (ℕ × ℕ))
    → IsStrictlySortedBy nat_cmp (map (λ e. e.0) entries)
    → IsDistinct (eq_by_cmp nat_cmp) (map (λ e. e.0) (seen_entries tallies entries))
seen_apart tallies entries sorted =
    IsDistinct-keys_filter (eq_by_cmp nat_cmp) (λ (entry : ℕ × ℕ). is_seen (tallies entry.1)) entries
    (IsDistinct-from_sorted nat_cmp (map (λ (e : ℕ × ℕ). e.0) entries) sorted)

-- ---- an order that fits
at_some : {X : Type 0} (P : X → Type 0) (xs : List X) (i : ℕ) (d : X) → IsSomeAnd (slice_get xs i) P
    → (i < length xs) × P (get_or xs i d)
at_some P [] i d is = absurd is
at_some P (x ∷ xs) zero d is = (omega arith, is)
at_some P (x ∷ xs) (suc i) d is = let rest = at_some P xs i d is in (omega (arith, rest.0), rest.1)

pub fit_order : (query : Query) (order : Order) → IsProper query → query.order ≡ Some order
    → (order.column < length query.columns) × (order.aggregate < length query.aggregates)
    × (is_average (get_or query.aggregates order.aggregate Count) ≡ false)
fit_order query order proper is =
    let fit : IsFitOrder query order = subst (λ o. IfSome o (IsFitOrder query)) is proper.fit_order in
    let at = at_some (λ agg. is_average agg ≡ false) query.aggregates order.aggregate Count fit.aggregate in
    (fit.column, at.0, at.1)

-- ---- lines in the query's order
line_keys : (f : List Member → Line) → ((key : List Member) → (f key).key ≡ key) → (keys : List (List Member))
    → map (λ line. line.key) (map f keys) ≡ keys
line_keys f own [] = refl
line_keys f own (key ∷ keys) = λ i. own key i ∷ line_keys f own keys i

each_of : (f : List Member → Line) → ((key : List Member) → (f key).key ≡ key) → (keys : List (List Member))
    → AllByRecursion (λ line. line ≡ f line.key) (map f keys)
each_of f own [] = tt
each_of f own (key ∷ keys) = (ap f (sym (own key)), each_of f own keys)

-- lines that are those of the answer in another order, which is the query's
pub sorted_answer : (dimensions : DimRows) (query : Query) (rows : List LineOrder) (order : Order)
    → query.order ≡ Some order → AnswerIsTheOne
    → (lines sorted : List Line)
    → lines ≡ map (line_of dimensions query (selected dimensions query.conditions rows))
    (keys_among dimensions query (selected dimensions query.conditions rows))
    → IsPermutation lines sorted → IsAscending (line_cmp order) sorted → sorted ≡ (answer query dimensions rows).lines
sorted_answer dimensions query rows order asked one lines sorted are same rising =
    let chosen = selected dimensions query.conditions rows in
    let line_at = line_of dimensions query chosen in
    let keys = keys_among dimensions query chosen in
    (one query dimensions rows).1 sorted (record {
      in_order = subst (λ o. IsAscending (answer_cmp o) sorted) (sym asked) rising;
      keys = λ q.
          sym (list_any-IsPermutation (eq_by_cmp key_cmp q) (map (λ (line : Line). line.key) lines)
          (map (λ (line : Line). line.key) sorted)
          (IsPermutation-map (λ (line : Line). line.key) lines sorted same))
          ∙ ap (λ ls. list_any (eq_by_cmp key_cmp q) (map (λ (line : Line). line.key) ls)) are
          ∙ ap (list_any (eq_by_cmp key_cmp q)) (line_keys line_at (λ _. refl) keys)
          ∙ list_any-ascending key_cmp key_cmp_total key_cmp-IsAntisymmetric q
          (flat_map (keys_of dimensions query) chosen);
      aggregates =
          recursion_from (λ line. line ≡ line_at line.key) sorted
          (All-permutation (λ line. line ≡ line_at line.key) lines sorted same
          (All-from_recursion (λ line. line ≡ line_at line.key) lines
          (subst (λ ls. AllByRecursion (λ line. line ≡ line_at line.key) ls) (sym are)
          (each_of line_at (λ _. refl) keys))));
    })
