-- Lemmas of `laws`, by subject.
use Rattle.std.proofs.Common.{◌≡◌, ◌↔◌, ◌∙◌, sym, ap, refl, subst, List, [], ◌∷◌, map, Option, Some, None, ◌||◌}
use Rattle.std.proofs.Common.{slice_index_or, pos, ℕ, zero, suc, ◌+◌, ◌*◌, ◌/◌, ◌%◌, ◌<◌, ◌≤◌, ◌==◌, true, false, cond}
use Rattle.std.proofs.Common.{ℤ, negsuc, ◌*ℤ◌, nat_abs, arith, Bool, ◌++◌, length, ◌⊎◌, inl, inr, ◌≢◌, nat_lt, ◌&&◌}
use Rattle.std.proofs.Common.{not, append_assoc}
use Rattle.std.specs.List.{list_any, AllByRecursion, flat_map, filter}
use Rattle.std.specs.Ordering.{eq_by_cmp, is_eq, ordering_reverse, ordering_then, on, nat_cmp}
use Rattle.std.specs.declared.cmp.Ordering.{Ordering}
use Rattle.std.specs.declared.cmp.Ordering.TheVariants.{Less, Equal, Greater}
use Rattle.std.specs.Cmp.{IsTotalOrder, on_total, back_total, then_total, int_cmp_total}
use Rattle.std.specs.FinMap.{IsAntisymmetric, nat_cmp-IsAntisymmetric, slice_cmp-IsAntisymmetric}
use Rattle.cube_model.specs.declared.answer.Line.{Line}
use Rattle.cube_model.specs.declared.answer.Member.{Member}
use Rattle.cube_model.specs.declared.answer.Member.TheVariants.{All}
use Rattle.cube_model.specs.declared.answer.Value.{Value}
use Rattle.cube_model.specs.declared.answer.Value.TheVariants.{Whole, Ratio}
use Rattle.cube_model.specs.declared.query.Order.{Order}
use Rattle.cube_model.specs.declared.query.Query.{Query}
use Rattle.cube_model.specs.declared.rows.DimRows.{DimRows}
use Rattle.cube_model.specs.declared.rows.LineOrder.{LineOrder}
use Rattle.cube_model.specs.Answers.{answer, line_of, rows_of_key}
use Rattle.cube_model.specs.Ascending.{by_order, insert_once, ascending, IsAscending}
use Rattle.cube_model.proofs.Ascending.{IsAscending-ascending, list_any-ascending}
use Rattle.cube_model.specs.Keys.{key_cmp, keys_of, GroupingSet, beginnings, subsets, grouping_sets, key_under}
use Rattle.cube_model.specs.Lawful.{AnswerIsTheOne, FractionIsTheOne, IsAnswer, RowsOfAKey, EachPair, KeepsRules}
use Rattle.cube_model.specs.Lawful.{ValidRowsKeepTheRules}
use Rattle.cube_model.proofs.KeyOrder.{member_cmp_total}
use Rattle.cube_model.proofs.KeyOrder.{key_cmp_total, key_cmp-IsAntisymmetric}
use Rattle.cube_model.specs.Orders.{answer_cmp, value_cmp, in_order}
use Rattle.cube_model.specs.Selection.{selected}
use Rattle.cube_model.proofs.Entries.{IsAscending-unique}
use Rattle.std.proofs.Math.IntN.{neg_ℤ}
use Rattle.std.proofs.Math.Nat.{dvd-mul_left, div-mul_cancel, mul-div_cancel, dvd_of_mul-dvd-mul_right}
use Rattle.std.proofs.Math.Nat.{mul-dvd-mul_right, one-dvd}
use Rattle.std.specs.Int.{IsGcd, ◌∣◌}
use Rattle.std.proofs.lemmas.Bool.Decides.{nat_tests}
use Rattle.std.proofs.lemmas.Nat.Gcd.{IsGcd-from_zero, IsGcd-from_mod, same_from_IsGcd, dvd_trans}
use Rattle.cube_model.specs.declared.answer.Fraction.{Fraction}
use Rattle.cube_model.specs.Fractions.{IsFractionOf, gcd_in, with_sign_of, fraction_of}
use Rattle.std.proofs.lemmas.List.{length-map, map-append, append-nil}
use Rattle.std.proofs.lemmas.List.Elements.{filter_agree}
use Rattle.cube_model.specs.declared.attr.Attr.{Attr}
use Rattle.cube_model.specs.declared.query.Kind.{Kind}
use Rattle.cube_model.specs.declared.query.Kind.TheVariants.{Plain, Rollup, Cube}
use Rattle.std.proofs.lemmas.List.Folds.{list_any-append}
use Rattle.std.specs.Prelude.{codes}
use Rattle.std.specs.Str.{bytes_eq}
use Rattle.std.specs.Cmp.Lexicographic.{slice_cmp, nat_list_cmp_total, same_text, other_text}
use Rattle.cube_model.specs.declared.fault.Fault.{Fault}
use Rattle.cube_model.specs.declared.fault.Fault.TheVariants.{TooManyRows, DuplicateKey, ReservedMember, TooManyMembers}
use Rattle.cube_model.specs.declared.fault.Fault.TheVariants.{HierarchyBroken}
use Rattle.cube_model.specs.declared.fault.MemberPlace.TheVariants.{InDimension}
use Rattle.cube_model.specs.Causes.{first_cause, cause_if}
use Rattle.cube_model.specs.Validity.{Rules, customer_rules, supplier_rules, part_rules, date_rules, members_of}
use Rattle.cube_model.specs.Validity.{repeats_key, names_all, overflows, breaks_link, row_cause, rows_cause}
use Rattle.cube_model.specs.Validity.{dimension_cause}

-- ==== The answer is the one list of lines that is in order and has just the right lines.

-- values are in a total order, in which averages tie
pub value_cmp_total : IsTotalOrder value_cmp
value_cmp_total = record {
  antisymm = antisymm;
  trans = trans;
  congr = congr;
} where
  antisymm : (x y : Value) → value_cmp x y ≡ ordering_reverse (value_cmp y x)
  antisymm (Whole x) (Whole y) = int_cmp_total.antisymm x y
  antisymm (Whole x) (Ratio y) = refl
  antisymm (Ratio x) (Whole y) = refl
  antisymm (Ratio x) (Ratio y) = refl

  trans : (x y z : Value) → value_cmp x y ≡ Less → value_cmp y z ≡ Less → value_cmp x z ≡ Less
  trans (Whole x) (Whole y) (Whole z) p q = int_cmp_total.trans x y z p q
  trans (Whole x) (Whole y) (Ratio z) p q = refl
  trans (Whole x) (Ratio y) (Whole z) p q = cc
  trans (Whole x) (Ratio y) (Ratio z) p q = refl
  trans (Ratio x) (Whole y) z p q = cc
  trans (Ratio x) (Ratio y) z p q = cc

  congr : (x y z : Value) → value_cmp x y ≡ Equal → value_cmp x z ≡ value_cmp y z
  congr (Whole x) (Whole y) (Whole z) p = int_cmp_total.congr x y z p
  congr (Whole x) (Whole y) (Ratio z) p = refl
  congr (Whole x) (Ratio y) z p = cc
  congr (Ratio x) (Whole y) z p = cc
  congr (Ratio x) (Ratio y) (Whole z) p = refl
  congr (Ratio x) (Ratio y) (Ratio z) p = refl

-- the lines of an answer compare in a total order
pub answer_cmp_total : (order : Option Order) → IsTotalOrder (answer_cmp order)
answer_cmp_total None = on_total (λ line. line.key) key_cmp_total
answer_cmp_total (Some order) =
    then_total (on_total (λ line. slice_index_or line.key order.column All) member_cmp_total)
    (then_total
    (back_total (on_total (λ line. slice_index_or line.values order.aggregate (Whole (pos 0))) value_cmp_total))
    (on_total (λ line. line.key) key_cmp_total))

-- what ends in a comparison ties only where this ties
pub last_ties : (a b : Ordering) → ordering_then a b ≡ Equal → b ≡ Equal
last_ties Less b e = cc
last_ties Equal b e = e
last_ties Greater b e = cc

module _ (order : Option Order) (f : List Member → Line) (own : (key : List Member) → (f key).key ≡ key) where
  -- the order of the lines, as one of their keys
  abbrev by_line : List Member → List Member → Ordering
  by_line = on f (answer_cmp order)

  by_line_total : IsTotalOrder by_line
  by_line_total = on_total f (answer_cmp_total order)

  -- two keys whose lines tie are one
  by_line_same : IsAntisymmetric by_line
  by_line_same left right e =
      key_cmp-IsAntisymmetric left right
      (subst (λ key. key_cmp left key ≡ Equal) (own right)
      (subst (λ key. key_cmp key (f right).key ≡ Equal) (own left) (ties order e)))
    where
      ties : (o : Option Order) → answer_cmp o (f left) (f right) ≡ Equal → key_cmp (f left).key (f right).key ≡ Equal
      ties None h = h
      ties (Some o) h = last_ties _ _ (last_ties _ _ h)

  IsAscending-map : (keys : List (List Member)) → IsAscending by_line keys → IsAscending (answer_cmp order) (map f keys)
  IsAscending-map [] sorted = tt
  IsAscending-map (key ∷ keys) sorted = (below keys sorted.0, IsAscending-map keys sorted.1)
    where
      below : (others : List (List Member)) → AllByRecursion (λ other. by_line key other ≡ Less) others
          → AllByRecursion (λ line. answer_cmp order (f key) line ≡ Less) (map f others)
      below [] all = tt
      below (other ∷ others) all = (all.0, below others all.1)

  IsAscending-unmap : (keys : List (List Member)) → IsAscending (answer_cmp order) (map f keys)
      → IsAscending by_line keys
  IsAscending-unmap [] sorted = tt
  IsAscending-unmap (key ∷ keys) sorted = (below keys sorted.0, IsAscending-unmap keys sorted.1)
    where
      below : (others : List (List Member))
          → AllByRecursion (λ line. answer_cmp order (f key) line ≡ Less) (map f others)
          → AllByRecursion (λ other. by_line key other ≡ Less) others
      below [] all = tt
      below (other ∷ others) all = (all.0, below others all.1)

  insert_once-map : (key : List Member) (keys : List (List Member))
      → insert_once (answer_cmp order) (f key) (map f keys) ≡ map f (insert_once by_line key keys)
  insert_once-map key [] = refl
  insert_once-map key (first ∷ others) =
      elim (by_line key first) as
      (λ r. by_order r (f key ∷ f first ∷ map f others) (f first ∷ map f others)
      (f first ∷ insert_once (answer_cmp order) (f key) (map f others))
      ≡ map f (by_order r (key ∷ first ∷ others) (first ∷ others) (first ∷ insert_once by_line key others))) [
        | Less ↦ refl
        | Equal ↦ refl
        | Greater ↦ ap (λ lines. f first ∷ lines) (insert_once-map key others)
      ]

  ascending-map : (keys : List (List Member))
      → ascending (answer_cmp order) (map f keys) ≡ map f (ascending by_line keys)
  ascending-map [] = refl
  ascending-map (key ∷ keys) = ap (insert_once (answer_cmp order) (f key)) (ascending-map keys)
      ∙ insert_once-map key (ascending by_line keys)

-- a list in order is as it was
module _ {K : Type 0} (R : K → K → Ordering) where
  pub ascending_again : (keys : List K) → IsAscending R keys → ascending R keys ≡ keys
  ascending_again [] sorted = refl
  ascending_again (key ∷ []) sorted = refl
  ascending_again (key ∷ first ∷ others) sorted =
      ap (insert_once R key) (ascending_again (first ∷ others) sorted.1)
      ∙ ap (λ r. by_order r (key ∷ first ∷ others) (first ∷ others) (first ∷ insert_once R key others)) sorted.0.0

-- two orders in which only equal things tie have the same ties
is_eq_same : (r s : Ordering) → (r ≡ Equal → s ≡ Equal) → (s ≡ Equal → r ≡ Equal) → is_eq r ≡ is_eq s
is_eq_same Less Less p q = refl
is_eq_same Less Equal p q = let e = q refl in cc
is_eq_same Less Greater p q = refl
is_eq_same Equal Less p q = let e = p refl in cc
is_eq_same Equal Equal p q = refl
is_eq_same Equal Greater p q = let e = p refl in cc
is_eq_same Greater Less p q = refl
is_eq_same Greater Equal p q = let e = q refl in cc
is_eq_same Greater Greater p q = refl

turned_self : (r : Ordering) → r ≡ ordering_reverse r → r ≡ Equal
turned_self Less e = cc
turned_self Equal e = refl
turned_self Greater e = cc

module _ {K : Type 0} (R S : K → K → Ordering) (r : IsTotalOrder R) (s : IsTotalOrder S) (r_same : IsAntisymmetric R)
    (s_same : IsAntisymmetric S) where
  same_ties : (x y : K) → eq_by_cmp R x y ≡ eq_by_cmp S x y
  same_ties x y =
      is_eq_same (R x y) (S x y)
      (λ e. subst (λ z. S x z ≡ Equal) (r_same x y e) (turned_self (S x x) (s.antisymm x x)))
      (λ e. subst (λ z. R x z ≡ Equal) (s_same x y e) (turned_self (R x x) (r.antisymm x x)))

  same_ties_among : (q : K) (keys : List K) → list_any (eq_by_cmp R q) keys ≡ list_any (eq_by_cmp S q) keys
  same_ties_among q [] = refl
  same_ties_among q (key ∷ keys) = λ i. same_ties q key i || same_ties_among q keys i

line_keys : (f : List Member → Line) → ((key : List Member) → (f key).key ≡ key) → (keys : List (List Member))
    → map (λ line. line.key) (map f keys) ≡ keys
line_keys f own [] = refl
line_keys f own (key ∷ keys) = λ i. own key i ∷ line_keys f own keys i

each_of : (f : List Member → Line) → ((key : List Member) → (f key).key ≡ key) → (keys : List (List Member))
    → AllByRecursion (λ line. line ≡ f line.key) (map f keys)
each_of f own [] = tt
each_of f own (key ∷ keys) = (ap f (sym (own key)), each_of f own keys)

each_line : (f : List Member → Line) (lines : List Line) → AllByRecursion (λ line. line ≡ f line.key) lines
    → lines ≡ map f (map (λ line. line.key) lines)
each_line f [] all = refl
each_line f (line ∷ lines) all = λ i. all.0 i ∷ each_line f lines all.1 i

module _ (query : Query) (dimensions : DimRows) (rows : List LineOrder) where
  abbrev chosen : List LineOrder
  chosen = selected dimensions query.conditions rows

  abbrev line_at : List Member → Line
  line_at = line_of dimensions query chosen

  -- the keys of the rows, as they come
  abbrev row_keys : List (List Member)
  row_keys = flat_map (keys_of dimensions query) chosen

  -- how the query orders keys
  abbrev ordered_by : List Member → List Member → Ordering
  ordered_by = by_line query.order line_at (λ _. refl)

  abbrev ordered_keys : List (List Member)
  ordered_keys = ascending ordered_by (ascending key_cmp row_keys)

  total_order : IsTotalOrder ordered_by
  total_order = by_line_total query.order line_at (λ _. refl)

  no_ties : IsAntisymmetric ordered_by
  no_ties = by_line_same query.order line_at (λ _. refl)

  lines_are : (answer query dimensions rows).lines ≡ map line_at ordered_keys
  lines_are = by_cases query.order
    where
      by_cases : (order : Option Order) → in_order order (map line_at (ascending key_cmp row_keys))
          ≡ map line_at (ascending (by_line order line_at (λ _. refl)) (ascending key_cmp row_keys))
      by_cases None =
          ap (map line_at)
          (sym (ascending_again key_cmp (ascending key_cmp row_keys)
          (IsAscending-ascending key_cmp key_cmp_total key_cmp-IsAntisymmetric row_keys)))
      by_cases (Some order) = ascending-map (Some order) line_at (λ _. refl) (ascending key_cmp row_keys)

  has_keys : (q : List Member) → list_any (eq_by_cmp key_cmp q) ordered_keys ≡ list_any (eq_by_cmp key_cmp q) row_keys
  has_keys q =
      sym (same_ties_among ordered_by key_cmp total_order key_cmp_total no_ties key_cmp-IsAntisymmetric q ordered_keys)
      ∙ list_any-ascending ordered_by total_order no_ties q (ascending key_cmp row_keys)
      ∙ same_ties_among ordered_by key_cmp total_order key_cmp_total no_ties key_cmp-IsAntisymmetric q
      (ascending key_cmp row_keys)
      ∙ list_any-ascending key_cmp key_cmp_total key_cmp-IsAntisymmetric q row_keys

  pub answer-IsAnswer : IsAnswer query dimensions rows (answer query dimensions rows).lines
  answer-IsAnswer = subst (IsAnswer query dimensions rows) (sym lines_are) (record {
    in_order = IsAscending-map query.order line_at (λ _. refl) ordered_keys
        (IsAscending-ascending ordered_by total_order no_ties (ascending key_cmp row_keys));
    keys = λ q. ap (list_any (eq_by_cmp key_cmp q)) (line_keys line_at (λ _. refl) ordered_keys) ∙ has_keys q;
    aggregates = each_of line_at (λ _. refl) ordered_keys;
  })

  pub answer-unique : (lines : List Line) → IsAnswer query dimensions rows lines
      → lines ≡ (answer query dimensions rows).lines
  answer-unique lines is =
      let keys = map (λ line. line.key) lines in
      let each : lines ≡ map line_at keys = each_line line_at lines is.aggregates in
      let rising : IsAscending ordered_by keys =
      IsAscending-unmap query.order line_at (λ _. refl) keys
      (subst (IsAscending (answer_cmp query.order)) each is.in_order) in
      let one : keys ≡ ordered_keys = IsAscending-unique ordered_by total_order no_ties keys ordered_keys rising
      (IsAscending-ascending ordered_by total_order no_ties (ascending key_cmp row_keys))
      (λ q. same_ties_among ordered_by key_cmp total_order key_cmp_total no_ties key_cmp-IsAntisymmetric q keys
      ∙ is.keys q ∙ sym (has_keys q)
      ∙ sym (same_ties_among ordered_by key_cmp total_order key_cmp_total no_ties key_cmp-IsAntisymmetric q
      ordered_keys)) in
      each ∙ ap (map line_at) one ∙ sym lines_are

-- keys tie exactly where they are equal
pub key_cmp-ties : (left right : List Member) → (key_cmp left right ≡ Equal) ↔ (left ≡ right)
key_cmp-ties left right = (
  key_cmp-IsAntisymmetric left right,
  λ e. subst (λ key. key_cmp left key ≡ Equal) e
      (turned_self (key_cmp left left) (key_cmp_total.antisymm left left)),
)

-- ==== An average is the one fraction in lowest terms.

is_zero : (b : ℕ) → (b == 0) ≡ true → b ≡ 0
is_zero b e = grind (arith, nat_tests)

is_above_zero : (b : ℕ) → (b == 0) ≡ false → 0 < b
is_above_zero b e = grind (arith, nat_tests)

fewer : (a b steps : ℕ) → 0 < b → b < suc steps → a % b < steps
fewer a b steps above below = omega arith

-- enough of Euclid's steps give the greatest common divisor
gcd_in-IsGcd : (steps a b : ℕ) → b < steps → IsGcd a b (gcd_in steps a b)
gcd_in-IsGcd zero a b below = absurd (omega arith)
gcd_in-IsGcd (suc steps) a b below =
    elim (b == 0) as (λ t. (b == 0) ≡ t → IsGcd a b (cond t a (gcd_in steps b (a % b)))) [
      | true ↦ λ e. IsGcd-from_zero a b (is_zero b e)
      | false ↦ λ e. IsGcd-from_mod a b (gcd_in steps b (a % b))
          (gcd_in-IsGcd steps b (a % b) (fewer a b steps (is_above_zero b e) below))
    ] refl

below_next : (b : ℕ) → b < b + 1
below_next b = omega arith

nat_abs-with_sign_of : (sum : ℤ) (size : ℕ) → nat_abs (with_sign_of sum size) ≡ size
nat_abs-with_sign_of (pos n) size = refl
nat_abs-with_sign_of (negsuc n) zero = refl
nat_abs-with_sign_of (negsuc n) (suc size) = refl

nothing : (c : ℕ) → 0 * c ≡ 0
nothing c = omega arith

-- sizes that are equal products are so with the sign
with_sign_of-product : (sum : ℤ) (size count part : ℕ) → size * count ≡ nat_abs sum * part
    → with_sign_of sum size *ℤ pos count ≡ sum *ℤ pos part
with_sign_of-product (pos n) size count part e = ap pos e
with_sign_of-product (negsuc n) zero count part e =
    ap pos (nothing count) ∙ ap (λ k. neg_ℤ (pos k)) (sym (nothing count) ∙ e)
with_sign_of-product (negsuc n) (suc size) count part e = ap (λ k. neg_ℤ (pos k)) e

nat_abs-neg : (k : ℕ) → nat_abs (neg_ℤ (pos k)) ≡ k
nat_abs-neg zero = refl
nat_abs-neg (suc k) = refl

nat_abs-product : (a : ℤ) (c : ℕ) → nat_abs (a *ℤ pos c) ≡ nat_abs a * c
nat_abs-product (pos n) c = refl
nat_abs-product (negsuc n) c = nat_abs-neg (suc n * c)

cancelled : (a b c : ℕ) → 0 < c → a * c ≡ b * c → a ≡ b
cancelled a b c above e = sym (mul-div_cancel a above) ∙ ap (λ n. n / c) e ∙ mul-div_cancel b above

size_above : (b c : ℕ) → 0 < c → 0 < suc b * c
size_above b c above = grind arith

no_sign : (n k : ℕ) → 0 < k → pos n ≡ neg_ℤ (pos k) → ⊥
no_sign n zero above e = absurd (omega arith)
no_sign n (suc k) above e = cc

-- a factor above 0 is taken from both sides
cancelled_signed : (a b : ℤ) (c : ℕ) → 0 < c → a *ℤ pos c ≡ b *ℤ pos c → a ≡ b
cancelled_signed (pos a) (pos b) c above e = ap pos (cancelled a b c above (ap nat_abs e))
cancelled_signed (pos a) (negsuc b) c above e = absurd (no_sign (a * c) (suc b * c) (size_above b c above) e)
cancelled_signed (negsuc a) (pos b) c above e = absurd (no_sign (b * c) (suc a * c) (size_above a c above) (sym e))
cancelled_signed (negsuc a) (negsuc b) c above e =
    let sizes : suc a * c ≡ suc b * c = sym (nat_abs-neg (suc a * c)) ∙ ap nat_abs e ∙ nat_abs-neg (suc b * c) in
    let same : suc a ≡ suc b = cancelled (suc a) (suc b) c above sizes in
    ap (λ n. neg_ℤ (pos n)) same

-- where nothing above 1 divides two numbers, m is what divides both their products by m
IsGcd-scaled : (p q m : ℕ) → 0 < m → IsGcd p q 1 → IsGcd (p * m) (q * m) m
IsGcd-scaled p q m above lowest =
    let divisor = gcd_in (q * m + 1) (p * m) (q * m) in
    let greatest : IsGcd (p * m) (q * m) divisor = gcd_in-IsGcd (q * m + 1) (p * m) (q * m) (below_next (q * m)) in
    let parts : divisor / m * m ≡ divisor = div-mul_cancel m (greatest.2 m (dvd-mul_left m p) (dvd-mul_left m q)) in
    let first : divisor / m ∣ p =
    dvd_of_mul-dvd-mul_right (divisor / m) above (subst (λ d. d ∣ p * m) (sym parts) greatest.0) in
    let second : divisor / m ∣ q =
    dvd_of_mul-dvd-mul_right (divisor / m) above (subst (λ d. d ∣ q * m) (sym parts) greatest.1) in
    let one : divisor / m ∣ 1 = lowest.2 (divisor / m) first second in
    let back : divisor ∣ 1 * m = subst (λ d. d ∣ 1 * m) parts (mul-dvd-mul_right (divisor / m) one m) in
    let whole : 1 * m ≡ m = omega arith in (
      dvd-mul_left m p,
      dvd-mul_left m q,
      λ d left right. dvd_trans d (greatest.2 d left right)
          (subst (λ n. divisor ∣ n) whole back),
    )

times-more : (p q0 c s q : ℕ) → p * c ≡ s * q → (p * q0) * c ≡ (s * q) * q0
times-more p q0 c s q e = swapped p q0 c ∙ ap (λ n. n * q0) e
  where
    swapped : (a b d : ℕ) → (a * b) * d ≡ (a * d) * b
    swapped a b d = omega arith

swapped_last : (s q q0 : ℕ) → (s * q) * q0 ≡ (s * q0) * q
swapped_last s q q0 = omega arith

comm : (a b : ℕ) → a * b ≡ b * a
comm a b = omega arith

-- two fractions in lowest terms of one sum and count are one
pub IsFractionOf-unique : (sum : ℤ) (count : ℕ) → 1 ≤ count → (f g : Fraction) → IsFractionOf sum count f
    → IsFractionOf sum count g → f ≡ g
IsFractionOf-unique sum count above f g a b =
    let p = nat_abs f.numerator in
    let r = nat_abs g.numerator in
    let first : p * count ≡ nat_abs sum * f.denominator = sym (nat_abs-product f.numerator count) ∙ ap nat_abs a.equal
    ∙ nat_abs-product sum f.denominator in
    let second : r * count ≡ nat_abs sum * g.denominator = sym (nat_abs-product g.numerator count) ∙ ap nat_abs b.equal
    ∙ nat_abs-product sum g.denominator in
    let crossed : p * g.denominator ≡ r * f.denominator =
    cancelled (p * g.denominator) (r * f.denominator) count above
    (times-more p g.denominator count (nat_abs sum) f.denominator first
    ∙ swapped_last (nat_abs sum) f.denominator g.denominator
    ∙ sym (times-more r f.denominator count (nat_abs sum) g.denominator second)) in
    let left : IsGcd (p * g.denominator) (f.denominator * g.denominator) g.denominator =
    IsGcd-scaled p f.denominator g.denominator b.positive a.lowest in
    let right : IsGcd (r * f.denominator) (g.denominator * f.denominator) f.denominator =
    IsGcd-scaled r g.denominator f.denominator a.positive b.lowest in
    let moved : IsGcd (p * g.denominator) (f.denominator * g.denominator) f.denominator =
    subst (λ n. IsGcd n (f.denominator * g.denominator) f.denominator) (sym crossed)
    (subst (λ n. IsGcd (r * f.denominator) n f.denominator) (comm g.denominator f.denominator) right) in
    let denominators : f.denominator ≡ g.denominator =
    same_from_IsGcd (p * g.denominator) (f.denominator * g.denominator) f.denominator g.denominator moved left in
    let numerators : f.numerator ≡ g.numerator =
    cancelled_signed f.numerator g.numerator count above (a.equal ∙ ap (λ n. sum *ℤ pos n) denominators
    ∙ sym b.equal) in
    λ i. record { numerator = numerators i; denominator = denominators i }

above_zero : (a b : ℕ) → a * b ≡ 0 → 0 < b → a ≡ 0
above_zero a b e above = cancelled a 0 b above (e ∙ sym (nothing b))

-- the fraction is in lowest terms
pub fraction_of-IsFractionOf : (sum : ℤ) (count : ℕ) → 1 ≤ count → IsFractionOf sum count (fraction_of sum count)
unfolding fraction_of
fraction_of-IsFractionOf sum count above =
    let size = nat_abs sum in
    let divisor = gcd_in (count + 1) size count in
    let greatest : IsGcd size count divisor = gcd_in-IsGcd (count + 1) size count (below_next count) in
    let numerator_parts : size / divisor * divisor ≡ size = div-mul_cancel divisor greatest.0 in
    let denominator_parts : count / divisor * divisor ≡ count = div-mul_cancel divisor greatest.1 in
    let positive : 1 ≤ count / divisor = not_zero (count / divisor) divisor count denominator_parts above in
    let divisor_above : 0 < divisor =
    not_zero divisor (count / divisor) count (comm divisor (count / divisor) ∙ denominator_parts) above in
    let products : size / divisor * count ≡ size * (count / divisor) =
    ap (λ n. size / divisor * n) (sym denominator_parts) ∙ regroup (size / divisor) (count / divisor) divisor
    ∙ ap (λ n. n * (count / divisor)) numerator_parts in
    record {
      equal = with_sign_of-product sum (size / divisor) count (count / divisor) products;
      positive = positive;
      lowest = subst (λ n. IsGcd n (count / divisor) 1) (sym (nat_abs-with_sign_of sum (size / divisor))) (
        one-dvd (size / divisor),
        one-dvd (count / divisor),
        λ d left right.
            dvd_of_mul-dvd-mul_right d divisor_above
            (subst (λ n. d * divisor ∣ n) (sym (single divisor))
            (greatest.2 (d * divisor)
            (subst (λ n. d * divisor ∣ n) numerator_parts (mul-dvd-mul_right d left divisor))
            (subst (λ n. d * divisor ∣ n) denominator_parts (mul-dvd-mul_right d right divisor)))),
      );
    }
  where
    not_zero : (a b c : ℕ) → a * b ≡ c → 1 ≤ c → 1 ≤ a
    not_zero zero b c e h = absurd (omega arith)
    not_zero (suc a) b c e h = omega arith

    regroup : (a b d : ℕ) → a * (b * d) ≡ (a * d) * b
    regroup a b d = omega arith

    single : (d : ℕ) → 1 * d ≡ d
    single d = omega arith

-- ==== Under one grouping set each row has one key, and the rows of a key are those that have it there.

-- an item of a list
In : {X : Type 0} → X → List X → Type 0
In g [] = ⊥
In g (x ∷ xs) = (g ≡ x) ⊎ In g xs

module _ {X : Type 0} (P : X → Type 0) where
  each : (xs : List X) → ((g : X) → In g xs → P g) → AllByRecursion P xs
  unfolding In
  each [] f = tt
  each (x ∷ xs) f = (f x (inl refl), each xs (λ g i. f g (inr i)))

  of_each : (xs : List X) → AllByRecursion P xs → (g : X) → In g xs → P g
  unfolding In
  of_each [] all g i = absurd i
  of_each (x ∷ xs) all g (inl e) = subst P (sym e) all.0
  of_each (x ∷ xs) all g (inr i) = of_each xs all.1 g i

module _ {X Y : Type 0} (P : Y → Type 0) (f : X → Y) where
  each_map : (xs : List X) → AllByRecursion (λ x. P (f x)) xs → AllByRecursion P (map f xs)
  each_map [] all = tt
  each_map (x ∷ xs) all = (all.0, each_map xs all.1)

module _ {X : Type 0} (P Q : X → Type 0) where
  each_more : ((x : X) → P x → Q x) → (xs : List X) → AllByRecursion P xs → AllByRecursion Q xs
  each_more f [] all = tt
  each_more f (x ∷ xs) all = (f x all.0, each_more f xs all.1)

module _ {X : Type 0} (P : X → Type 0) where
  each_append : (xs ys : List X) → AllByRecursion P xs → AllByRecursion P ys → AllByRecursion P (xs ++ ys)
  each_append [] ys first second = second
  each_append (x ∷ xs) ys first second = (first.0, each_append xs ys first.1 second)

-- a grouping set has an entry for each column
IsFor : List Attr → GroupingSet → Type 0
IsFor columns grouping = length grouping ≡ length columns

for_more : (column : Attr) (columns : List Attr) (b : Bool) (grouping : GroupingSet) → IsFor columns grouping
    → IsFor (column ∷ columns) (b ∷ grouping)
unfolding IsFor
for_more column columns b grouping is = ap (λ n. suc n) is

beginnings-IsFor : (columns : List Attr) → AllByRecursion (IsFor columns) (beginnings columns)
unfolding IsFor
beginnings-IsFor [] = (refl, tt)
beginnings-IsFor (column ∷ columns) = (
  length-map (column ∷ columns) (λ _. false),
  each_map (IsFor (column ∷ columns)) (λ grouping. true ∷ grouping) (beginnings columns)
      (each_more (IsFor columns) (λ grouping. IsFor (column ∷ columns) (true ∷ grouping)) (for_more column columns true)
      (beginnings columns) (beginnings-IsFor columns)),
)

subsets-IsFor : (columns : List Attr) → AllByRecursion (IsFor columns) (subsets columns)
unfolding IsFor
subsets-IsFor [] = (refl, tt)
subsets-IsFor (column ∷ columns) =
    each_append (IsFor (column ∷ columns)) (map (λ grouping. true ∷ grouping) (subsets columns))
    (map (λ grouping. false ∷ grouping) (subsets columns))
    (each_map (IsFor (column ∷ columns)) (λ grouping. true ∷ grouping) (subsets columns)
    (each_more (IsFor columns) (λ grouping. IsFor (column ∷ columns) (true ∷ grouping)) (for_more column columns true)
    (subsets columns) (subsets-IsFor columns)))
    (each_map (IsFor (column ∷ columns)) (λ grouping. false ∷ grouping) (subsets columns)
    (each_more (IsFor columns) (λ grouping. IsFor (column ∷ columns) (false ∷ grouping)) (for_more column columns false)
    (subsets columns) (subsets-IsFor columns)))

grouping_sets-IsFor : (kind : Kind) (columns : List Attr) → AllByRecursion (IsFor columns) (grouping_sets kind columns)
unfolding IsFor
grouping_sets-IsFor Plain columns = (length-map columns (λ _. true), tt)
grouping_sets-IsFor Rollup columns = beginnings-IsFor columns
grouping_sets-IsFor Cube columns = subsets-IsFor columns

one_less : (n m : ℕ) → suc n ≡ suc m → n ≡ m
one_less n m e = omega arith

none_of_some : (n : ℕ) → suc n ≡ 0 → ⊥
none_of_some n e = omega arith

-- one key under two grouping sets: they are the same
same_grouping : (dimensions : DimRows) (row other : LineOrder) (columns : List Attr) (g h : GroupingSet)
    → IsFor columns g → IsFor columns h
    → key_under dimensions row columns g ≡ key_under dimensions other columns h → g ≡ h
unfolding IsFor
same_grouping d row other [] [] [] p q e = refl
same_grouping d row other [] [] (b ∷ h) p q e = absurd (none_of_some (length h) q)
same_grouping d row other [] (b ∷ g) h p q e = absurd (none_of_some (length g) p)
same_grouping d row other (c ∷ cs) [] h p q e = absurd (none_of_some (length cs) (sym p))
same_grouping d row other (c ∷ cs) (b ∷ g) [] p q e = absurd (none_of_some (length cs) (sym q))
same_grouping d row other (c ∷ cs) (true ∷ g) (true ∷ h) p q e =
    let others : key_under d row cs g ≡ key_under d other cs h = cc in
    ap (λ t. true ∷ t) (same_grouping d row other cs g h (one_less _ _ p) (one_less _ _ q) others)
same_grouping d row other (c ∷ cs) (true ∷ g) (false ∷ h) p q e = cc
same_grouping d row other (c ∷ cs) (false ∷ g) (true ∷ h) p q e = cc
same_grouping d row other (c ∷ cs) (false ∷ g) (false ∷ h) p q e =
    let others : key_under d row cs g ≡ key_under d other cs h = cc in
    ap (λ t. false ∷ t) (same_grouping d row other cs g h (one_less _ _ p) (one_less _ _ q) others)

is_equal : (r : Ordering) → is_eq r ≡ true → r ≡ Equal
is_equal Less e = cc
is_equal Equal e = refl
is_equal Greater e = cc

or_true : (b : Bool) → (b || true) ≡ true
or_true true = refl
or_true false = refl

module _ {X : Type 0} (p : X → Bool) where
  any_in : (xs : List X) (g : X) → In g xs → p g ≡ true → list_any p xs ≡ true
  unfolding In
  any_in [] g i passes = absurd i
  any_in (x ∷ xs) g (inl e) passes = ap (λ b. b || list_any p xs) (ap p (sym e) ∙ passes)
  any_in (x ∷ xs) g (inr i) passes = ap (λ b. p x || b) (any_in xs g i passes) ∙ or_true (p x)

  none_in : (xs : List X) → ((h : X) → In h xs → p h ≡ false) → list_any p xs ≡ false
  unfolding In
  none_in [] fails = refl
  none_in (x ∷ xs) fails = ap (λ b. b || list_any p xs) (fails x (inl refl)) ∙ none_in xs (λ h i. fails h (inr i))

  -- where a test passes at no other item than this one, it passes at some item exactly where it passes at this one
  only_at : (xs : List X) (g : X) → In g xs → ((h : X) → In h xs → p h ≡ true → p g ≡ true) → list_any p xs ≡ p g
  only_at xs g i only =
      elim (p g) as (λ b. p g ≡ b → list_any p xs ≡ b) [
        | true ↦ λ passes. any_in xs g i passes
        | false ↦ λ fails. none_in xs (λ h j. elim (p h) as (λ b. p h ≡ b → b ≡ false) [
          | true ↦ λ passes. let again = only h j passes in cc
          | false ↦ λ e. refl
        ] refl)
      ] refl

list_any-map : {X Y : Type 0} (p : Y → Bool) (f : X → Y) (xs : List X)
    → list_any p (map f xs) ≡ list_any (λ x. p (f x)) xs
list_any-map p f [] = refl
list_any-map p f (x ∷ xs) = ap (λ b. p (f x) || b) (list_any-map p f xs)

module _ (dimensions : DimRows) (query : Query) where
  -- a row has the key of another one under a grouping set: under that set alone
  has_key : (row other : LineOrder) (g : GroupingSet) → In g (grouping_sets query.kind query.columns)
      → list_any (eq_by_cmp key_cmp (key_under dimensions row query.columns g)) (keys_of dimensions query other)
      ≡ eq_by_cmp key_cmp (key_under dimensions row query.columns g) (key_under dimensions other query.columns g)
  has_key row other g i =
      let sets = grouping_sets query.kind query.columns in
      let key = key_under dimensions row query.columns g in
      let for_each = of_each (IsFor query.columns) sets (grouping_sets-IsFor query.kind query.columns) in
      list_any-map (eq_by_cmp key_cmp key) (key_under dimensions other query.columns) sets
      ∙ only_at (λ h. eq_by_cmp key_cmp key (key_under dimensions other query.columns h)) sets g i
      (λ h j passes.
      let same : key ≡ key_under dimensions other query.columns h =
      key_cmp-IsAntisymmetric key (key_under dimensions other query.columns h) (is_equal _ passes) in
      let one : g ≡ h = same_grouping dimensions row other query.columns g h (for_each g i) (for_each h j) same in
      subst (λ t. eq_by_cmp key_cmp key (key_under dimensions other query.columns t) ≡ true) (sym one) passes)

pub rows_of_a_key : RowsOfAKey
rows_of_a_key query dimensions rows =
    each (λ grouping. (row : LineOrder)
    → rows_of_key dimensions query (key_under dimensions row query.columns grouping) rows
    ≡ filter (λ other. eq_by_cmp key_cmp (key_under dimensions row query.columns grouping)
    (key_under dimensions other query.columns grouping)) rows)
    (grouping_sets query.kind query.columns)
    (λ grouping i row. filter_agree
    (λ other. list_any (eq_by_cmp key_cmp (key_under dimensions row query.columns grouping))
    (keys_of dimensions query other))
    (λ other. eq_by_cmp key_cmp (key_under dimensions row query.columns grouping)
    (key_under dimensions other query.columns grouping))
    (λ other. has_key dimensions query row other grouping i) rows)

-- ==== More texts have no fewer members.

none_more : (n : ℕ) → 0 ≤ n
none_more n = omega arith

one_more : (n m : ℕ) → n ≤ m → suc n ≤ suc m
one_more n m h = omega arith

later : (n m : ℕ) → n ≤ m → n ≤ suc m
later n m h = omega arith

module _ {K : Type 0} (R : K → K → Ordering) (o : IsTotalOrder R) (same : IsAntisymmetric R) where
  ties_self : (k : K) → R k k ≡ Equal
  ties_self k = by (R k k) (o.antisymm k k)
    where
      by : (r : Ordering) → r ≡ ordering_reverse r → r ≡ Equal
      by Less e = cc
      by Equal e = refl
      by Greater e = cc

  -- below every item of a list: not among them
  not_among : (k : K) (ks : List K) → AllByRecursion (λ other. R k other ≡ Less) ks
      → list_any (eq_by_cmp R k) ks ≡ false
  not_among k [] all = refl
  not_among k (x ∷ ks) all = ap (λ r. is_eq r || list_any (eq_by_cmp R k) ks) all.0 ∙ not_among k ks all.1

  below_all : (k first : K) (ks : List K) → R k first ≡ Less → AllByRecursion (λ other. R first other ≡ Less) ks
      → AllByRecursion (λ other. R k other ≡ Less) ks
  below_all k first [] less all = tt
  below_all k first (x ∷ ks) less all = (o.trans k first x less all.0, below_all k first ks less all.1)

  abbrev Within : List K → List K → Type 0
  Within xs ys = (q : K) → list_any (eq_by_cmp R q) xs ≡ true → list_any (eq_by_cmp R q) ys ≡ true

  -- what is among later items is not the first of a list in order
  apart : (q first : K) (ks : List K) → AllByRecursion (λ other. R first other ≡ Less) ks
      → list_any (eq_by_cmp R q) ks ≡ true → eq_by_cmp R q first ≡ false
  apart q first ks all among =
      elim (R q first) as (λ r. R q first ≡ r → is_eq r ≡ false) [
        | Less ↦ λ e. refl
        | Equal ↦ λ e. let none : list_any (eq_by_cmp R q) ks ≡ false =
            subst (λ k. list_any (eq_by_cmp R k) ks ≡ false) (sym (same q first e)) (not_among first ks all) in cc
        | Greater ↦ λ e. refl
      ] refl

  or_false : (a b : Bool) → (a || b) ≡ true → a ≡ false → b ≡ true
  or_false true b h e = cc
  or_false false b h e = h

  or_right : (a b : Bool) → b ≡ true → (a || b) ≡ true
  or_right true b h = refl
  or_right false b h = h

  or_left : (a b : Bool) → a ≡ true → (a || b) ≡ true
  or_left true b h = refl
  or_left false b h = cc

  self_among : (k : K) (ks : List K) → list_any (eq_by_cmp R k) (k ∷ ks) ≡ true
  self_among k ks = ap (λ r. is_eq r || list_any (eq_by_cmp R k) ks) (ties_self k)

  turned : (a b : K) → R a b ≡ Greater → R b a ≡ Less
  turned a b e = o.antisymm b a ∙ ap ordering_reverse e

  -- among a list whose first is below it, so among the others
  among_others : (q first : K) (ks : List K) → R first q ≡ Less → list_any (eq_by_cmp R q) (first ∷ ks) ≡ true
      → list_any (eq_by_cmp R q) ks ≡ true
  among_others q first ks less among =
      or_false (eq_by_cmp R q first) (list_any (eq_by_cmp R q) ks) among
      (ap is_eq (o.antisymm q first ∙ ap ordering_reverse less))

  length-within : (ys xs : List K) → IsAscending R xs → IsAscending R ys → Within xs ys → length xs ≤ length ys
  length-within ys [] first second within = none_more (length ys)
  length-within [] (x ∷ xs) first second within = let found = within x (self_among x xs) in cc
  length-within (y ∷ ys) (x ∷ xs) first second within =
      elim (R x y) as (λ r. R x y ≡ r → length (x ∷ xs) ≤ length (y ∷ ys)) [
        | Less ↦ λ e. let found = within x (self_among x xs) in
            let none : list_any (eq_by_cmp R x) (y ∷ ys) ≡ false =
            not_among x (y ∷ ys) (e, below_all x y ys e second.0) in cc
        | Equal ↦ λ e. one_more (length xs) (length ys) (length-within ys xs first.1 second.1
            (λ q among. or_false (eq_by_cmp R q y) (list_any (eq_by_cmp R q) ys)
            (within q (or_right (eq_by_cmp R q x) (list_any (eq_by_cmp R q) xs) among))
            (subst (λ k. eq_by_cmp R q k ≡ false) (same x y e) (apart q x xs first.0 among))))
        | Greater ↦ λ e. later (length (x ∷ xs)) (length ys) (length-within ys (x ∷ xs) first second.1
            (λ q among. or_false (eq_by_cmp R q y) (list_any (eq_by_cmp R q) ys) (within q among)
            (above q x xs y first.0 (turned x y e) among)))
      ] refl
    where
      -- no item of a list in order whose first is above y is y
      above : (q x : K) (xs : List K) (y : K) → AllByRecursion (λ other. R x other ≡ Less) xs → R y x ≡ Less
          → list_any (eq_by_cmp R q) (x ∷ xs) ≡ true → eq_by_cmp R q y ≡ false
      above q x xs y all less among = apart q y (x ∷ xs) (less, below_all y x xs less all) among

  -- a list's items in order, each once, are no more than those of a longer one
  pub length-ascending-append : (xs ys : List K) → length (ascending R xs) ≤ length (ascending R (xs ++ ys))
  length-ascending-append xs ys =
      length-within (ascending R (xs ++ ys)) (ascending R xs) (IsAscending-ascending R o same xs)
      (IsAscending-ascending R o same (xs ++ ys)) within
    where
      within : Within (ascending R xs) (ascending R (xs ++ ys))
      within q among =
          list_any-ascending R o same q (xs ++ ys) ∙ list_any-append (eq_by_cmp R q) xs ys
          ∙ or_left (list_any (eq_by_cmp R q) xs) (list_any (eq_by_cmp R q) ys)
          (sym (list_any-ascending R o same q xs) ∙ among)

-- ==== Rows have no cause to be refused exactly where they keep the rules.

-- causes

no_cause : (cause : Fault) → Some cause ≡ None → ⊥
no_cause cause e = cc

two_none : (a b : Option Fault) → (first_cause (a ∷ b ∷ []) ≡ None) ↔ ((a ≡ None) × (b ≡ None))
two_none None None = (λ e. (refl, refl), λ p. refl)
two_none None (Some b) = (λ e. absurd (no_cause b e), λ p. p.1)
two_none (Some a) b = (λ e. absurd (no_cause a e), λ p. absurd (no_cause a p.0))

four_none : (a b c d : Option Fault) → (first_cause (a ∷ b ∷ c ∷ d ∷ []) ≡ None)
    ↔ ((a ≡ None) × (b ≡ None) × (c ≡ None) × (d ≡ None))
four_none None None None None = (λ e. (refl, refl, refl, refl), λ p. refl)
four_none None None None (Some d) = (λ e. absurd (no_cause d e), λ p. p.3)
four_none None None (Some c) d = (λ e. absurd (no_cause c e), λ p. absurd (no_cause c p.2))
four_none None (Some b) c d = (λ e. absurd (no_cause b e), λ p. absurd (no_cause b p.1))
four_none (Some a) b c d = (λ e. absurd (no_cause a e), λ p. absurd (no_cause a p.0))

if_none : (test : Bool) (cause : Fault) → (cause_if test cause ≡ None) ↔ (test ≡ false)
if_none true cause = (λ e. absurd (no_cause cause e), λ e. cc)
if_none false cause = (λ e. refl, λ e. refl)

-- tests

any_false : {X : Type 0} (p : X → Bool) (P : X → Type 0) → ((x : X) → (p x ≡ false) ↔ P x) → (xs : List X)
    → (list_any p xs ≡ false) ↔ AllByRecursion P xs
any_false p P is [] = (λ e. tt, λ all. refl)
any_false p P is (x ∷ xs) = (
  λ e. ((is x).0 (left (p x) (list_any p xs) e), (any_false p P is xs).0 (right (p x) (list_any p xs) e)),
  λ all. ap (λ b. b || list_any p xs) ((is x).1 all.0) ∙ (any_false p P is xs).1 all.1,
)
  where
    left : (a b : Bool) → (a || b) ≡ false → a ≡ false
    left true b e = cc
    left false b e = refl

    right : (a b : Bool) → (a || b) ≡ false → b ≡ false
    right true b e = cc
    right false b e = e

texts_differ : (left right : List ℕ) → (bytes_eq left right ≡ false) ↔ (left ≢ right)
texts_differ left right = (
  λ e. other_text left right (sym e),
  λ differ. elim (bytes_eq left right) as (λ b. bytes_eq left right ≡ b → b ≡ false) [
    | true ↦ λ e. absurd (differ (same_text left right (sym e)))
    | false ↦ λ e. refl
  ] refl,
)

texts_same : (left right : List ℕ) → left ≡ right → bytes_eq left right ≡ true
texts_same left right same =
    elim (bytes_eq left right) as (λ b. bytes_eq left right ≡ b → b ≡ true) [
      | true ↦ λ e. refl
      | false ↦ λ e. absurd (other_text left right (sym e) same)
    ] refl

-- a text that determines another one, as a test
determines : (lower other_lower upper other_upper : List ℕ)
    → ((bytes_eq lower other_lower && not (bytes_eq upper other_upper)) ≡ false)
    ↔ (lower ≡ other_lower → upper ≡ other_upper)
determines lower other_lower upper other_upper = (
  λ e same. by (bytes_eq lower other_lower) (bytes_eq upper other_upper) (texts_same lower other_lower same)
      (λ t. same_text upper other_upper (sym t)) e,
  λ goes. elim (bytes_eq lower other_lower) as (λ b. bytes_eq lower other_lower ≡ b
      → (b && not (bytes_eq upper other_upper)) ≡ false) [
        | true ↦ λ e. ap not (texts_same upper other_upper (goes (same_text lower other_lower (sym e))))
        | false ↦ λ e. refl
      ] refl,
)
  where
    by : (a b : Bool) → a ≡ true → (b ≡ true → upper ≡ other_upper) → (a && not b) ≡ false → upper ≡ other_upper
    by true true is found e = found refl
    by true false is found e = cc
    by false b is found e = cc

numbers_differ : (n m : ℕ) → ((n == m) ≡ false) ↔ (n ≢ m)
numbers_differ n m = ((λ e. differ n m e), (λ h. tested n m h))
  where
    differ : (n m : ℕ) → (n == m) ≡ false → n ≢ m
    differ n m e = λ same. grind (arith, nat_tests)

    tested : (n m : ℕ) → n ≢ m → (n == m) ≡ false
    tested n m h = grind (arith, nat_tests)

few_tested : (n : ℕ) (limit : ℕ) → (nat_lt limit n ≡ false) ↔ (n ≤ limit)
few_tested n limit = (few n limit, tested n limit)
  where
    few : (n limit : ℕ) → nat_lt limit n ≡ false → n ≤ limit
    few n limit e = grind (arith, nat_tests)

    tested : (n limit : ℕ) → n ≤ limit → nat_lt limit n ≡ false
    tested n limit h = grind (arith, nat_tests)

-- facts of each row after the earlier ones

module _ {Row : Type 0} where
  abbrev Each : (List Row → Row → Type 0) → List Row → List Row → Type 0
  Each P earlier [] = Unit {0}
  Each P earlier (row ∷ rows) = P earlier row × Each P (earlier ++ row ∷ []) rows

  each_iff : (P Q : List Row → Row → Type 0) → ((earlier : List Row) (row : Row) → P earlier row ↔ Q earlier row)
      → (earlier rows : List Row) → Each P earlier rows ↔ Each Q earlier rows
  each_iff P Q is earlier [] = (λ _. tt, λ _. tt)
  each_iff P Q is earlier (row ∷ rows) =
      let others = each_iff P Q is (earlier ++ row ∷ []) rows in
      (λ each. ((is earlier row).0 each.0, others.0 each.1), λ each. ((is earlier row).1 each.0, others.1 each.1))

  each_both : (P Q : List Row → Row → Type 0) → (earlier rows : List Row) → Each (λ e r. P e r × Q e r) earlier rows
      ↔ (Each P earlier rows × Each Q earlier rows)
  each_both P Q earlier [] = (λ _. (tt, tt), λ _. tt)
  each_both P Q earlier (row ∷ rows) =
      let others = each_both P Q (earlier ++ row ∷ []) rows in (
        λ each. ((each.0.0, (others.0 each.1).0), (each.0.1, (others.0 each.1).1)),
        λ each. ((each.0.0, each.1.0), others.1 (each.0.1, each.1.1)),
      )

  -- a fact of the row alone
  each_alone : (P : Row → Type 0) → (earlier rows : List Row) → Each (λ e r. P r) earlier rows ↔ AllByRecursion P rows
  each_alone P earlier [] = (λ _. tt, λ _. tt)
  each_alone P earlier (row ∷ rows) =
      let others = each_alone P (earlier ++ row ∷ []) rows in
      (λ each. (each.0, others.0 each.1), λ all. (all.0, others.1 all.1))

  all_append : (P : Row → Type 0) (xs : List Row) (y : Row) → AllByRecursion P (xs ++ y ∷ [])
      ↔ (AllByRecursion P xs × P y)
  all_append P [] y = (λ all. (tt, all.0), λ both. (both.1, tt))
  all_append P (x ∷ xs) y =
      let others = all_append P xs y in
      (λ all. ((all.0, (others.0 all.1).0), (others.0 all.1).1), λ both. (both.0.0, others.1 (both.0.1, both.1)))

  -- a relation of each earlier row to the row: of each pair
  each_pair : (R : Row → Row → Type 0) → (earlier rows : List Row)
      → Each (λ e r. AllByRecursion (λ other. R other r) e) earlier rows
      ↔ (EachPair R rows × AllByRecursion (λ r. AllByRecursion (λ other. R other r) earlier) rows)
  each_pair R earlier [] = (λ _. (tt, tt), λ _. tt)
  each_pair R earlier (row ∷ rows) =
      let others = each_pair R (earlier ++ row ∷ []) rows in (
        λ each.
            let found = others.0 each.1 in
            let parts = split rows found.1 in
            ((parts.1, found.0), (each.0, parts.0)),
        λ both. (both.1.0, others.1 (both.0.1, join rows both.1.1 both.0.0)),
      )
    where
      split : (rs : List Row) → AllByRecursion (λ r. AllByRecursion (λ other. R other r) (earlier ++ row ∷ [])) rs
          → AllByRecursion (λ r. AllByRecursion (λ other. R other r) earlier) rs × AllByRecursion (R row) rs
      split [] all = (tt, tt)
      split (r ∷ rs) all =
          let here = (all_append (λ other. R other r) earlier row).0 all.0 in
          let there = split rs all.1 in
          ((here.0, there.0), (here.1, there.1))

      join : (rs : List Row) → AllByRecursion (λ r. AllByRecursion (λ other. R other r) earlier) rs
          → AllByRecursion (R row) rs
          → AllByRecursion (λ r. AllByRecursion (λ other. R other r) (earlier ++ row ∷ [])) rs
      join [] first second = tt
      join (r ∷ rs) first second =
          ((all_append (λ other. R other r) earlier row).1 (first.0, second.0), join rs first.1 second.1)

  pairs : (R : Row → Row → Type 0) (rows : List Row) → Each (λ e r. AllByRecursion (λ other. R other r) e) [] rows
      ↔ EachPair R rows
  pairs R rows =
      let is = each_pair R [] rows in
      (λ each. (is.0 each).0, λ all. is.1 (all, none rows))
    where
      none : (rs : List Row) → AllByRecursion (λ r. AllByRecursion (λ other. R other r) []) rs
      none [] = tt
      none (r ∷ rs) = (tt, none rs)

  -- a fact of the rows so far, which holds of none and of each beginning of rows that have it
  so_far : (Q : List Row → Type 0) → (earlier rows : List Row) → Q earlier → Each (λ e r. Q (e ++ r ∷ [])) earlier rows
      → Q (earlier ++ rows)
  so_far Q earlier [] here each = subst Q (sym (append-nil earlier)) here
  so_far Q earlier (row ∷ rows) here each =
      subst Q (append_assoc earlier (row ∷ []) rows) (so_far Q (earlier ++ row ∷ []) rows each.0 each.1)

  each_beginning : (Q : List Row → Type 0) → ((xs ys : List Row) → Q (xs ++ ys) → Q xs) → (earlier rows : List Row)
      → Q (earlier ++ rows) → Each (λ e r. Q (e ++ r ∷ [])) earlier rows
  each_beginning Q front earlier [] all = tt
  each_beginning Q front earlier (row ∷ rows) all =
      let again : Q ((earlier ++ row ∷ []) ++ rows) = subst Q (sym (append_assoc earlier (row ∷ []) rows)) all in
      (front (earlier ++ row ∷ []) rows again, each_beginning Q front (earlier ++ row ∷ []) rows again)

module _ {Row : Type 0} (rules : Rules Row) where
  rows_none : (earlier rows : List Row) → (rows_cause rules earlier rows ≡ None)
      ↔ Each (λ e r. row_cause rules e r ≡ None) earlier rows
  rows_none earlier [] = (λ _. tt, λ _. refl)
  rows_none earlier (row ∷ rows) =
      let two = two_none (row_cause rules earlier row) (rows_cause rules (earlier ++ row ∷ []) rows) in
      let others = rows_none (earlier ++ row ∷ []) rows in
      (λ e. let both = two.0 e in (both.0, others.0 both.1), λ each. two.1 (each.0, others.1 each.1))

  abbrev KeyDiffers : Row → Row → Type 0
  KeyDiffers row other = rules.key row ≢ rules.key other

  abbrev NoneReserved : Row → Type 0
  NoneReserved row = AllByRecursion (λ text. text row ≢ codes "ALL") rules.texts

  abbrev HasFewMembers : List Row → Type 0
  HasFewMembers rows = AllByRecursion (λ text. length (members_of (map text rows)) ≤ 65535) rules.texts

  abbrev OneUpper : ((Row → List ℕ) × (Row → List ℕ)) → Row → Row → Type 0
  OneUpper link row other = link.0 row ≡ link.0 other → link.1 row ≡ link.1 other

  abbrev LinksHold : List ((Row → List ℕ) × (Row → List ℕ)) → List Row → Row → Type 0
  LinksHold links earlier row = AllByRecursion (λ link. AllByRecursion (λ other. OneUpper link other row) earlier) links

  row_none : (earlier : List Row) (row : Row) → (row_cause rules earlier row ≡ None)
      ↔ (AllByRecursion (λ other. KeyDiffers other row) earlier
      × (NoneReserved row × (HasFewMembers (earlier ++ row ∷ []) × LinksHold rules.links earlier row)))
  row_none earlier row =
      let number = length earlier + 1 in
      let four = four_none (cause_if (repeats_key rules earlier row) (DuplicateKey rules.axis number))
      (cause_if (names_all rules row) (ReservedMember (InDimension rules.axis number)))
      (cause_if (overflows rules earlier row) (TooManyMembers (InDimension rules.axis number)))
      (cause_if (breaks_link rules earlier row) (HierarchyBroken rules.axis number)) in
      let keys = any_false (λ other. rules.key other == rules.key row) (λ other. KeyDiffers other row)
      (λ other. numbers_differ (rules.key other) (rules.key row)) earlier in
      let reserved = any_false (λ text. bytes_eq (codes "ALL") (text row)) (λ text. text row ≢ codes "ALL")
      (λ text. (
        λ e same. (texts_differ (codes "ALL") (text row)).0 e (sym same),
        λ differ. (texts_differ (codes "ALL") (text row)).1 (λ same. differ (sym same)),
      )) rules.texts in
      let members = any_false (λ text. nat_lt 65535 (length (members_of (map text (earlier ++ row ∷ [])))))
      (λ text. length (members_of (map text (earlier ++ row ∷ []))) ≤ 65535)
      (λ text. few_tested (length (members_of (map text (earlier ++ row ∷ [])))) 65535) rules.texts in
      let links =
      any_false (λ link. list_any
      (λ other. bytes_eq (link.0 other) (link.0 row) && not (bytes_eq (link.1 other) (link.1 row))) earlier)
      (λ link. AllByRecursion (λ other. OneUpper link other row) earlier)
      (λ link. any_false (λ other. bytes_eq (link.0 other) (link.0 row) && not (bytes_eq (link.1 other) (link.1 row)))
      (λ other. OneUpper link other row)
      (λ other. determines (link.0 other) (link.0 row) (link.1 other) (link.1 row)) earlier) rules.links in (
        λ e. let all = four.0 e in (
          keys.0 ((if_none _ _).0 all.0),
          (
            reserved.0 ((if_none _ _).0 all.1),
            (members.0 ((if_none _ _).0 all.2), links.0 ((if_none _ _).0 all.3)),
          ),
        ),
        λ all. four.1 (
          (if_none _ _).1 (keys.1 all.0),
          (if_none _ _).1 (reserved.1 all.1.0),
          (if_none _ _).1 (members.1 all.1.1.0),
          (if_none _ _).1 (links.1 all.1.1.1),
        ),
      )

  no_members : (texts : List (Row → List ℕ)) → AllByRecursion (λ text. length (members_of (map text [])) ≤ 65535) texts
  no_members [] = tt
  no_members (text ∷ texts) = (omega arith, no_members texts)

  fewer_members : (texts : List (Row → List ℕ)) (xs ys : List Row)
      → AllByRecursion (λ text. length (members_of (map text (xs ++ ys))) ≤ 65535) texts
      → AllByRecursion (λ text. length (members_of (map text xs)) ≤ 65535) texts
  fewer_members [] xs ys all = tt
  fewer_members (text ∷ texts) xs ys all = (below, fewer_members texts xs ys all.1)
    where
      at_most : (a b : ℕ) → a ≤ b → b ≤ 65535 → a ≤ 65535
      at_most a b h k = omega arith

      below : length (members_of (map text xs)) ≤ 65535
      below = at_most (length (members_of (map text xs))) (length (members_of (map text xs ++ map text ys)))
          (length-ascending-append (slice_cmp nat_cmp) nat_list_cmp_total
          (slice_cmp-IsAntisymmetric nat_cmp-IsAntisymmetric) (map text xs) (map text ys))
          (subst (λ texts. length (members_of texts) ≤ 65535) (map-append text xs ys) all.0)

  links_hold : (links : List ((Row → List ℕ) × (Row → List ℕ))) (rows : List Row)
      → Each (λ e r. LinksHold links e r) [] rows ↔ AllByRecursion (λ link. EachPair (OneUpper link) rows) links
  links_hold [] rows = (λ _. tt, λ _. trivial [] rows)
    where
      trivial : (earlier rs : List Row) → Each (λ e r. LinksHold [] e r) earlier rs
      trivial earlier [] = tt
      trivial earlier (r ∷ rs) = (tt, trivial (earlier ++ r ∷ []) rs)
  links_hold (link ∷ links) rows =
      let both = each_both (λ e r. AllByRecursion (λ other. OneUpper link other r) e) (λ e r. LinksHold links e r) []
      rows in
      let first = pairs (OneUpper link) rows in
      let others = links_hold links rows in
      (λ each. (first.0 (both.0 each).0, others.0 (both.0 each).1), λ all. both.1 (first.1 all.0, others.1 all.1))

  dimension_keeps : (rows : List Row) → (dimension_cause rules rows ≡ None) ↔ KeepsRules rules rows
  dimension_keeps rows =
      let two = two_none (cause_if (nat_lt rules.row_limit (length rows)) TooManyRows) (rows_cause rules [] rows) in
      let few = few_tested (length rows) rules.row_limit in
      let number = if_none (nat_lt rules.row_limit (length rows)) TooManyRows in
      let causes = rows_none [] rows in
      let parts = each_iff (λ e r. row_cause rules e r ≡ None)
      (λ e r. AllByRecursion (λ other. KeyDiffers other r) e
      × (NoneReserved r × (HasFewMembers (e ++ r ∷ []) × LinksHold rules.links e r))) row_none [] rows in
      let keys_and =
      each_both (λ e r. AllByRecursion (λ other. KeyDiffers other r) e)
      (λ e r. NoneReserved r × (HasFewMembers (e ++ r ∷ []) × LinksHold rules.links e r)) [] rows in
      let reserved_and =
      each_both (λ e r. NoneReserved r) (λ e r. HasFewMembers (e ++ r ∷ []) × LinksHold rules.links e r) [] rows in
      let members_and = each_both (λ e r. HasFewMembers (e ++ r ∷ [])) (λ e r. LinksHold rules.links e r) [] rows in
      let keys = pairs KeyDiffers rows in
      let reserved = each_alone NoneReserved [] rows in
      let links = links_hold rules.links rows in (
        λ none.
            let both = two.0 none in
            let by_keys = keys_and.0 (parts.0 (causes.0 both.1)) in
            let by_reserved = reserved_and.0 by_keys.1 in
            let by_members = members_and.0 by_reserved.1 in
            record {
              few_rows = few.0 (number.0 both.0);
              keys_differ = keys.0 by_keys.0;
              none_reserved = reserved.0 by_reserved.0;
              few_members = so_far HasFewMembers [] rows (no_members rules.texts) by_members.0;
              one_upper = links.0 by_members.1;
            },
        λ keeps.
            two.1 (
              number.1 (few.1 keeps.few_rows),
              causes.1 (parts.1 (keys_and.1 (
                keys.1 keeps.keys_differ,
                reserved_and.1 (
                  reserved.1 keeps.none_reserved,
                  members_and.1 (
                    each_beginning HasFewMembers (fewer_members rules.texts) [] rows keeps.few_members,
                    links.1 keeps.one_upper,
                  ),
                ),
              ))),
            ),
      )

pub valid_rows_keep_the_rules : ValidRowsKeepTheRules
valid_rows_keep_the_rules rows =
    let four = four_none (dimension_cause customer_rules rows.customers) (dimension_cause supplier_rules rows.suppliers)
    (dimension_cause part_rules rows.parts) (dimension_cause date_rules rows.dates) in
    let customers = dimension_keeps customer_rules rows.customers in
    let suppliers = dimension_keeps supplier_rules rows.suppliers in
    let parts = dimension_keeps part_rules rows.parts in
    let dates = dimension_keeps date_rules rows.dates in (
      λ none. let all = four.0 none in
          record {
            customers = customers.0 all.0;
            suppliers = suppliers.0 all.1;
            parts = parts.0 all.2;
            dates = dates.0 all.3;
          },
      λ keep. four.1 (customers.1 keep.customers, suppliers.1 keep.suppliers, parts.1 keep.parts, dates.1 keep.dates),
    )

pub answer_is_the_one : AnswerIsTheOne
answer_is_the_one query dimensions rows =
    (answer-IsAnswer query dimensions rows, λ lines is. answer-unique query dimensions rows lines is)

pub fraction_is_the_one : FractionIsTheOne
fraction_is_the_one sum count above = (
  fraction_of-IsFractionOf sum count above,
  λ fraction is. IsFractionOf-unique sum count above fraction
      (fraction_of sum count) is (fraction_of-IsFractionOf sum count above),
)
