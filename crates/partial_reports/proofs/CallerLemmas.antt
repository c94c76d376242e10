-- What callers need: of lines that are merged one by one, that the merge begins with the line of the lowest key; of
-- lines that can be read back, that a bar ends a field and a line feed a line.
use Rattle.std.proofs.Common.{◌≡◌, ◌∙◌, sym, ap, refl, subst, ℕ, ◌+◌, ◌≤◌, ℤ, pos, negsuc, ◌+ℤ◌, Bool, true, false}
use Rattle.std.proofs.Common.{cond, Option, Some, None, List, [], ◌∷◌, ◌++◌, map, arith}
use Rattle.std.specs.Prelude.{◌||◌, nat_abs, int_lt}
use Rattle.std.specs.Int.{int_max, int_min}
use Rattle.std.specs.List.{AllByRecursion, list_any}
use Rattle.std.specs.Ordering.{is_eq, ordering_reverse}
use Rattle.std.specs.declared.cmp.Ordering.TheVariants.{Less, Equal, Greater}
use Rattle.std.proofs.lemmas.Int.{ints}
use Rattle.std.proofs.lemmas.List.Folds.{list_any-append}
use Rattle.cube_model.specs.declared.answer.Line.{Line}
use Rattle.cube_model.specs.declared.answer.Member.{Member}
use Rattle.cube_model.specs.declared.answer.Value.{Value}
use Rattle.cube_model.specs.declared.measure.Agg.{Agg}
use Rattle.cube_model.specs.Ascending.{ascending, by_order, insert_once, IsAscending}
use Rattle.cube_model.proofs.Ascending.{IsAscending-ascending}
use Rattle.cube_model.proofs.Ascending.{list_any-ascending}
use Rattle.cube_model.specs.Keys.{key_cmp}
use Rattle.cube_model.proofs.KeyOrder.{key_cmp_total, key_cmp-IsAntisymmetric}
use Rattle.cube_model.specs.Orders.{answer_cmp}
use Rattle.partial_reports.proofs.AnswerMerges.{line_of_key-map, map_some, same_key, same_key-is}
use Rattle.partial_reports.proofs.TheOne.{has, has_line, has_merged, merge_is_the_one}
use Rattle.partial_reports.specs.Merges.{keys_in, line_of_key, merged_line, merged_line_if_any, merged_lines}
pub use Rattle.partial_reports.proofs.ReadBack.{line_bar, line_lf}

-- what is found by a key has this key
abbrev KeyIs : List Member → Option Line → Type 0
KeyIs key None = Unit {0}
KeyIs key (Some line) = line.key ≡ key

found_key : (key : List Member) (lines : List Line) → KeyIs key (line_of_key key lines)
found_key key [] = tt
found_key key (line ∷ lines) =
    (elim (same_key key line.key) as (λ b. same_key key line.key ≡ b
    → KeyIs key (cond b (Some line) (line_of_key key lines))) [
      | true ↦ λ e. sym (same_key-is key line.key e)
      | false ↦ λ e. found_key key lines
    ]) refl

merged_key : (aggs : List Agg) (key : List Member) (one other : Option Line) → KeyIs key one → KeyIs key other
    → KeyIs key (merged_line_if_any aggs one other)
merged_key aggs key None other first second = second
merged_key aggs key (Some one) None first second = first
merged_key aggs key (Some one) (Some other) first second = first

abbrev values_in : Option Line → List Value
values_in None = []
values_in (Some line) = line.values

own_line : (key : List Member) (found : Option Line) → KeyIs key found → has found ≡ true
    → found ≡ Some (record { key = key; values = values_in found })
own_line key None is some = cc
own_line key (Some line) is some = ap (λ k. Some (record { key = k; values = line.values })) is

own_or_none : (key : List Member) (found : Option Line) → KeyIs key found
    → cond (has found) (Some (record { key = key; values = values_in found })) None ≡ found
own_or_none key None is = refl
own_or_none key (Some line) is = ap (λ k. Some (record { key = k; values = line.values })) (sym is)

-- each item of a list is in it in order
all_inserted : (P : List Member → Type 0) (key : List Member) (keys : List (List Member)) → P key
    → AllByRecursion P keys
    → AllByRecursion P (insert_once key_cmp key keys)
all_inserted P key [] here all = (here, all)
all_inserted P key (first ∷ others) here all =
    elim (key_cmp key first) as
    (λ r. AllByRecursion P
    (by_order r (key ∷ first ∷ others) (first ∷ others) (first ∷ insert_once key_cmp key others))) [
      | Less ↦ (here, all)
      | Equal ↦ all
      | Greater ↦ (all.0, all_inserted P key others here all.1)
    ]

all_ascending : (P : List Member → Type 0) (keys : List (List Member)) → AllByRecursion P keys
    → AllByRecursion P (ascending key_cmp keys)
all_ascending P [] all = tt
all_ascending P (key ∷ keys) all = all_inserted P key (ascending key_cmp keys) all.0 (all_ascending P keys all.1)

-- the keys of some lines are above a key
abbrev pub AreAbove : List Member → List Line → Type 0
AreAbove key lines = AllByRecursion (λ line. key_cmp key line.key ≡ Less) lines

keys_above : (key : List Member) (ones others : List Line) → AreAbove key ones → AreAbove key others
    → AllByRecursion (λ other. key_cmp key other ≡ Less) (keys_in ones ++ keys_in others)
keys_above key [] [] first second = tt
keys_above key [] (line ∷ others) first second = (second.0, keys_above key [] others tt second.1)
keys_above key (line ∷ ones) others first second = (first.0, keys_above key ones others first.1 second)

module _ (aggs : List Agg) (ones others : List Line) where
  abbrev found : List Member → Option Line
  found key = merged_line_if_any aggs (line_of_key key ones) (line_of_key key others)

  abbrev keys : List (List Member)
  keys = ascending key_cmp (keys_in ones ++ keys_in others)

  abbrev own : List Member → Line
  own key = record { key = key; values = values_in (found key) }

  is_found : (key : List Member) → has (found key) ≡ list_any (same_key key) keys
  is_found key =
      has_merged aggs (line_of_key key ones) (line_of_key key others)
      ∙ (λ i. has_line key ones i || has_line key others i)
      ∙ sym (list_any-append (same_key key) (keys_in ones) (keys_in others))
      ∙ sym (list_any-ascending key_cmp key_cmp_total key_cmp-IsAntisymmetric key (keys_in ones ++ keys_in others))

  key_is : (key : List Member) → KeyIs key (found key)
  key_is key = merged_key aggs key (line_of_key key ones) (line_of_key key others) (found_key key ones)
      (found_key key others)

  by_keys : merged_lines aggs ones others ≡ map own keys
  by_keys = map_some found own keys (λ key is. own_line key (found key) (key_is key) (is_found key ∙ is))

  -- the line of a key in the merge is the merge of its lines
  pub line_of_key-merged : (key : List Member)
      → line_of_key key (merged_lines aggs ones others) ≡ merged_line_if_any aggs (line_of_key key ones)
      (line_of_key key others)
  line_of_key-merged key =
      ap (line_of_key key) by_keys
      ∙ line_of_key-map own (λ k. refl) key keys
      ∙ ap (λ b. cond b (Some (own key)) None) (sym (is_found key))
      ∙ own_or_none key (found key) (key_is key)

  own_above : (key : List Member) (more : List (List Member)) → AllByRecursion (λ other. key_cmp key other ≡ Less) more
      → AreAbove key (map own more)
  own_above key [] all = tt
  own_above key (next ∷ more) all = (all.0, own_above key more all.1)

  own_rise : (more : List (List Member)) → IsAscending key_cmp more → IsAscending (answer_cmp None) (map own more)
  own_rise [] rise = tt
  own_rise (key ∷ more) rise = (own_above key more rise.0, own_rise more rise.1)

  -- the lines of the merge are in the order of their keys
  pub merged_lines-rise : IsAscending (answer_cmp None) (merged_lines aggs ones others)
  merged_lines-rise =
      subst (IsAscending (answer_cmp None)) (sym by_keys)
      (own_rise keys
      (IsAscending-ascending key_cmp key_cmp_total key_cmp-IsAntisymmetric (keys_in ones ++ keys_in others)))

  -- a key below those of both is below those of the merge
  merged_above : (key : List Member) → AreAbove key ones → AreAbove key others
      → AreAbove key (merged_lines aggs ones others)
  merged_above key first second =
      subst (AreAbove key) (sym by_keys)
      (own_above key keys
      (all_ascending (λ other. key_cmp key other ≡ Less) (keys_in ones ++ keys_in others)
      (keys_above key ones others first second)))

-- a key below those of lines has none of them
none_above : (key : List Member) (lines : List Line) → AreAbove key lines → line_of_key key lines ≡ None
none_above key [] all = refl
none_above key (line ∷ lines) all = ap (λ r. cond (is_eq r) (Some line) (line_of_key key lines)) all.0
    ∙ none_above key lines all.1

only_one : (aggs : List Agg) (line : Line) (other : Option Line) → other ≡ None
    → Some line ≡ merged_line_if_any aggs (Some line) other
only_one aggs line other none = ap (merged_line_if_any aggs (Some line)) (sym none)

only_other : (aggs : List Agg) (line : Line) (one : Option Line) → one ≡ None
    → Some line ≡ merged_line_if_any aggs one (Some line)
only_other aggs line one none = ap (λ o. merged_line_if_any aggs o (Some line)) (sym none)

both_or_rest : (aggs : List Agg) (one other : Line) (found first second : Option Line) (b : Bool)
    → found ≡ merged_line_if_any aggs first second
    → cond b (Some (merged_line aggs one other)) found ≡ merged_line_if_any aggs (cond b (Some one) first)
    (cond b (Some other) second)
both_or_rest aggs one other found first second true is = refl
both_or_rest aggs one other found first second false is = is

-- the merge begins with a line whose key is below all others
pub merged_lines-one : (aggs : List Agg) (line : Line) (ones others : List Line) → AreAbove line.key ones
    → AreAbove line.key others
    → merged_lines aggs (line ∷ ones) others ≡ line ∷ merged_lines aggs ones others
merged_lines-one aggs line ones others first second =
    sym (merge_is_the_one aggs (line ∷ ones) others (line ∷ merged_lines aggs ones others) (record {
      in_order = (merged_above aggs ones others line.key first second, merged_lines-rise aggs ones others);
      by_key = λ key. (elim (same_key key line.key) as (λ b. same_key key line.key ≡ b
          → cond b (Some line) (line_of_key key (merged_lines aggs ones others))
          ≡ merged_line_if_any aggs (cond b (Some line) (line_of_key key ones)) (line_of_key key others)) [
            | true ↦ λ e. only_one aggs line (line_of_key key others)
                (ap (λ k. line_of_key k others) (same_key-is key line.key e) ∙ none_above line.key others second)
            | false ↦ λ e. line_of_key-merged aggs ones others key
          ]) refl;
    }))

pub merged_lines-other : (aggs : List Agg) (line : Line) (ones others : List Line) → AreAbove line.key ones
    → AreAbove line.key others
    → merged_lines aggs ones (line ∷ others) ≡ line ∷ merged_lines aggs ones others
merged_lines-other aggs line ones others first second =
    sym (merge_is_the_one aggs ones (line ∷ others) (line ∷ merged_lines aggs ones others) (record {
      in_order = (merged_above aggs ones others line.key first second, merged_lines-rise aggs ones others);
      by_key = λ key. (elim (same_key key line.key) as (λ b. same_key key line.key ≡ b
          → cond b (Some line) (line_of_key key (merged_lines aggs ones others))
          ≡ merged_line_if_any aggs (line_of_key key ones) (cond b (Some line) (line_of_key key others))) [
            | true ↦ λ e. only_other aggs line (line_of_key key ones)
                (ap (λ k. line_of_key k ones) (same_key-is key line.key e) ∙ none_above line.key ones first)
            | false ↦ λ e. line_of_key-merged aggs ones others key
          ]) refl;
    }))

-- or with the merge of the first lines, where both have the same key
pub merged_lines-both : (aggs : List Agg) (one other : Line) (ones others : List Line)
    → key_cmp one.key other.key ≡ Equal
    → AreAbove one.key ones → AreAbove other.key others
    → merged_lines aggs (one ∷ ones) (other ∷ others) ≡ merged_line aggs one other ∷ merged_lines aggs ones others
merged_lines-both aggs one other ones others same first second =
    let key_is : one.key ≡ other.key = key_cmp-IsAntisymmetric one.key other.key same in
    let above : AreAbove one.key others = subst (λ k. AreAbove k others) (sym key_is) second in
    sym (merge_is_the_one aggs (one ∷ ones) (other ∷ others)
    (merged_line aggs one other ∷ merged_lines aggs ones others) (record {
      in_order = (merged_above aggs ones others one.key first above, merged_lines-rise aggs ones others);
      by_key = λ key.
          both_or_rest aggs one other (line_of_key key (merged_lines aggs ones others)) (line_of_key key ones)
          (line_of_key key others) (same_key key one.key) (line_of_key-merged aggs ones others key)
          ∙ ap (λ k. merged_line_if_any aggs (cond (same_key key one.key) (Some one) (line_of_key key ones))
          (cond (same_key key k) (Some other) (line_of_key key others))) key_is;
    }))

all_further : (key first : List Member) (lines : List Line) → key_cmp key first ≡ Less → AreAbove first lines
    → AreAbove key lines
all_further key first [] less all = tt
all_further key first (next ∷ lines) less all =
    (key_cmp_total.trans key first next.key less all.0, all_further key first lines less all.1)

-- a key below that of the first of lines in order is below those of all
pub above_first : (key : List Member) (first : Line) (lines : List Line) → key_cmp key first.key ≡ Less
    → IsAscending (answer_cmp None) (first ∷ lines)
    → AreAbove key (first ∷ lines)
above_first key first lines less rise = (less, all_further key first.key lines less rise.0)

pub turned_less : (one other : List Member) → key_cmp one other ≡ Greater → key_cmp other one ≡ Less
turned_less one other greater = key_cmp_total.antisymm other one ∙ ap ordering_reverse greater

-- the size of a sum, and of the less or the greater of two numbers
pub abs_sum : (a b : ℤ) → nat_abs (a +ℤ b) ≤ nat_abs a + nat_abs b
abs_sum (pos a) (pos b) = omega (arith, ints)
abs_sum (pos a) (negsuc b) = omega (arith, ints)
abs_sum (negsuc a) (pos b) = omega (arith, ints)
abs_sum (negsuc a) (negsuc b) = omega (arith, ints)

pub min_closed : (a b : ℤ) (most : ℕ) → nat_abs a ≤ most → nat_abs b ≤ most → nat_abs (int_min a b) ≤ most
min_closed a b most first second = elim (int_lt b a) as (λ t. nat_abs (cond t b a) ≤ most) [
  | true ↦ second
  | false ↦ first
]

pub max_closed : (a b : ℤ) (most : ℕ) → nat_abs a ≤ most → nat_abs b ≤ most → nat_abs (int_max a b) ≤ most
max_closed a b most first second = elim (int_lt b a) as (λ t. nat_abs (cond t a b) ≤ most) [
  | true ↦ first
  | false ↦ second
]
