-- Groups that are sorted by what a query's order asks for have their lines in that order.
use Rattle.std.proofs.Common.{◌≡◌, ◌≢◌, ◌∙◌, sym, ap, refl, subst, ℕ, pos, false, List, map, get_or, arith, inl, inr}
use Rattle.std.specs.List.{All, IsDistinct}
use Rattle.std.specs.List.Sorted.{IsSorted}
use Rattle.std.specs.Cmp.{IsTotalOrder, then_total, on_total, back_total}
use Rattle.std.specs.declared.cmp.Ordering.{Ordering}
use Rattle.std.specs.declared.cmp.Ordering.TheVariants.{Less, Equal, Greater}
use Rattle.std.specs.Ordering.{nat_cmp, int_cmp, ordering_then, ordering_reverse, is_lt, eq_by_cmp}
use Rattle.std.proofs.lemmas.Bool.{cases_order}
use Rattle.std.proofs.lemmas.Bool.Decides.{nat_tests}
use Rattle.std.proofs.lemmas.Cmp.{nat_cmp_total, int_cmp_total}
use Rattle.std.proofs.lemmas.List.Sorted.{sorted_far, ranks_by}
use Rattle.cube_model.specs.Ascending.{IsAscending}
use Rattle.cube_model.specs.Keys.{key_cmp, member_cmp}
use Rattle.cube_model.proofs.KeyOrder.{member_cmp_total}
use Rattle.cube_model.specs.Orders.{line_cmp, value_cmp}
use Rattle.cube_model.specs.declared.answer.Line.{Line}
use Rattle.cube_model.specs.declared.answer.Member.{Member}
use Rattle.cube_model.specs.declared.answer.Member.TheVariants.{All as Any}
use Rattle.cube_model.specs.declared.answer.Value.TheVariants.{Whole}
use Rattle.cube_model.specs.declared.attr.Attr.{Attr}
use Rattle.cube_model.specs.declared.query.Order.{Order}
use Rattle.cube_model.specs.declared.rows.DimRows.{DimRows}
use Rattle.group_numbers.specs.Columns.{attr_at}
use Rattle.group_numbers.specs.Numbers.{group_key_at, digit_member, KeysRise}
use Rattle.group_numbers.proofs.Numbers.{member_rises}
use Rattle.group_tallies.specs.Ranks.{Rank, rank_cmp, IsRank}
use Rattle.group_tallies.proofs.Lists.{ascending_from, get_or-map, IsAscending-map, length_same, map-twice}
use Rattle.group_tallies.proofs.Lists.{numbers_apart}
use Rattle.group_tallies.proofs.Placing.{below_less}

-- ---- ranks
rank_cmp_total : IsTotalOrder rank_cmp
rank_cmp_total =
    then_total (then_total (on_total (λ (r : Rank). r.0) nat_cmp_total)
    (on_total (λ (r : Rank). r.1.0) (back_total int_cmp_total)))
    (then_total (on_total (λ (r : Rank). r.2.0) nat_cmp_total) (on_total (λ (r : Rank). r.2.1) nat_cmp_total))

nat_tie : (a : ℕ) → nat_cmp a a ≡ Equal
nat_tie a = grind (arith, nat_tests)

member_tie : (a : Member) → member_cmp a a ≡ Equal
member_tie a = tie (member_cmp a a) (member_cmp_total.antisymm a a)
  where
    tie : (r : Ordering) → r ≡ ordering_reverse r → r ≡ Equal
    tie Less e = cc
    tie Equal e = refl
    tie Greater e = cc

not_less : (r : Ordering) → is_lt r ≡ false → r ≡ Less → ⊥
not_less Less e h = cc
not_less Equal e h = cc
not_less Greater e h = cc

module _ (dimensions : DimRows) (columns : List Attr) (rising : KeysRise dimensions columns) (order : Order)
    (line : ℕ × ℕ → Line) (key_is : (e : ℕ × ℕ) → (line e).key ≡ group_key_at dimensions columns e.0) where
  -- a rank that is not before another one has its line after it
  ranked_less : (x y : Rank) → IsRank dimensions columns order line x → IsRank dimensions columns order line y
      → is_lt (rank_cmp y x) ≡ false → x.2.0 ≢ y.2.0
      → line_cmp order (line x.2) (line y.2) ≡ Less
  ranked_less x y rx ry last apart =
      let attr = attr_at columns order.column in
      let members : member_cmp (get_or (line x.2).key order.column Any) (get_or (line y.2).key order.column Any)
      ≡ member_cmp (digit_member dimensions attr x.0) (digit_member dimensions attr y.0) =
      λ i. member_cmp (rx.member i) (ry.member i) in
      let values : value_cmp (get_or (line y.2).values order.aggregate (Whole (pos 0)))
      (get_or (line x.2).values order.aggregate (Whole (pos 0))) ≡ int_cmp y.1.0 x.1.0 =
      λ i. value_cmp (ry.value i) (rx.value i) in
      let keys : key_cmp (line x.2).key (line y.2).key ≡ key_cmp (group_key_at dimensions columns x.2.0)
      (group_key_at dimensions columns y.2.0) = λ i. key_cmp (key_is x.2 i) (key_is y.2 i) in
      let whole : line_cmp order (line x.2) (line y.2)
      ≡ ordering_then (member_cmp (digit_member dimensions attr x.0) (digit_member dimensions attr y.0))
      (ordering_then (int_cmp y.1.0 x.1.0)
      (key_cmp (group_key_at dimensions columns x.2.0) (group_key_at dimensions columns y.2.0))) =
      λ i. ordering_then (members i) (ordering_then (values i) (keys i)) in
      let turned : int_cmp x.1.0 y.1.0 ≡ ordering_reverse (int_cmp y.1.0 x.1.0) = int_cmp_total.antisymm x.1.0 y.1.0 in
      whole ∙ elim (cases_order x.0 y.0) [
        | inr (inl below) ↦
            ap (λ r. ordering_then r
            (ordering_then (int_cmp y.1.0 x.1.0)
            (key_cmp (group_key_at dimensions columns x.2.0) (group_key_at dimensions columns y.2.0))))
            (member_rises dimensions attr x.0 y.0 below ry.digit)
        | inr (inr above) ↦
            let less : rank_cmp y x ≡ Less =
            ap (λ r. ordering_then (ordering_then r (int_cmp x.1.0 y.1.0))
            (ordering_then (nat_cmp y.2.0 x.2.0) (nat_cmp y.2.1 x.2.1))) (below_less y.0 x.0 above) in
            absurd (not_less (rank_cmp y x) last less)
        | inl same ↦
            let tie : member_cmp (digit_member dimensions attr x.0) (digit_member dimensions attr y.0) ≡ Equal =
            ap (λ d. member_cmp (digit_member dimensions attr x.0) (digit_member dimensions attr d)) (sym same)
            ∙ member_tie (digit_member dimensions attr x.0) in
            let back : nat_cmp y.0 x.0 ≡ Equal = ap (nat_cmp y.0) same ∙ nat_tie y.0 in
            ap (λ r. ordering_then r
            (ordering_then (int_cmp y.1.0 x.1.0)
            (key_cmp (group_key_at dimensions columns x.2.0) (group_key_at dimensions columns y.2.0)))) tie
            ∙ (elim (int_cmp y.1.0 x.1.0) as (λ r. int_cmp x.1.0 y.1.0 ≡ ordering_reverse r
            → ordering_then r (key_cmp (group_key_at dimensions columns x.2.0) (group_key_at dimensions columns y.2.0))
            ≡ Less) [
              | Less ↦ λ e. refl
              | Greater ↦ λ e.
                  let less : rank_cmp y x ≡ Less =
                  (λ i. ordering_then (ordering_then (back i) (e i))
                  (ordering_then (nat_cmp y.2.0 x.2.0) (nat_cmp y.2.1 x.2.1))) in
                  absurd (not_less (rank_cmp y x) last less)
              | Equal ↦ λ e. elim (cases_order x.2.0 y.2.0) [
                | inr (inl below) ↦ rising x.2.0 y.2.0 below ry.below
                | inr (inr above) ↦
                    let less : rank_cmp y x ≡ Less =
                    (λ i. ordering_then (ordering_then (back i) (e i))
                    (ordering_then (below_less y.2.0 x.2.0 above i) (nat_cmp y.2.1 x.2.1))) in
                    absurd (not_less (rank_cmp y x) last less)
                | inl one ↦ absurd (apart one)
              ]
            ]) turned
      ]

  pub sorted_lines : (ranks : List Rank) → All (IsRank dimensions columns order line) ranks → IsSorted rank_cmp ranks
      → IsDistinct (eq_by_cmp nat_cmp) (map (λ r. r.2.0) ranks)
      → IsAscending (line_cmp order) (map line (map (λ r. r.2) ranks))
  sorted_lines ranks are sorted apart =
      subst (IsAscending (line_cmp order)) (sym (map-twice line (λ (r : Rank). r.2) ranks))
      (IsAscending-map (line_cmp order) (λ (r : Rank). line r.2) ranks
      (ascending_from (λ r s. line_cmp order (line r.2) (line s.2)) ranks
      (λ i j d below h.
      let x = get_or ranks i d in
      let y = get_or ranks j d in
      let last : is_lt (rank_cmp y x) ≡ false =
      sorted_far (λ a b. is_lt (rank_cmp a b)) (ranks_by rank_cmp_total (λ (r : Rank). r)) ranks sorted i j d
      (omega (arith, below)) h in
      let differ : x.2.0 ≢ y.2.0 = λ same.
      numbers_apart (map (λ (r : Rank). r.2.0) ranks) apart i j d.2.0 below
      (omega (arith, h, length_same (λ (r : Rank). r.2.0) ranks))
      (get_or-map (λ (r : Rank). r.2.0) ranks i d (omega (arith, below, h)) ∙ same
      ∙ sym (get_or-map (λ (r : Rank). r.2.0) ranks j d h)) in
      ranked_less x y (are i d (omega (arith, below, h))) (are j d h) last differ)))
