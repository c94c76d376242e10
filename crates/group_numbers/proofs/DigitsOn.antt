-- The digits that a dimension has in the numbers of groups, and what a place adds by them.
use Rattle.std.proofs.Common.{◌≡◌, ◌∙◌, ap, arith, refl, sym, subst, ℕ, ◌+◌, ◌*◌, ◌<◌, ◌≤◌, true, false, cond, List, []}
use Rattle.std.proofs.Common.{◌∷◌, get_or, length, take}
use Rattle.std.specs.List.{All}
use Rattle.std.proofs.lemmas.List.Elements.{All-nil, All-cons}
use Rattle.std.proofs.lemmas.List.Sums.{sum_by-cons, sum_by_more, sum_by_more_le}
use Rattle.cube_model.specs.declared.attr.Attr.{Attr}
use Rattle.cube_model.specs.declared.attr.Axis.{Axis}
use Rattle.cube_model.specs.declared.rows.DimRows.{DimRows}
use Rattle.cube_model.specs.Attributes.{axis_of}
use Rattle.cube_model.specs.Places.{attr_members, row_count_of, text_at}
use Rattle.group_numbers.specs.declared.digits.Digit.{Digit}
use Rattle.group_numbers.specs.Numbers.{group_count}
use Rattle.group_numbers.specs.Parts.{digits_on, is_same, part_at, part_by, rank_at}
use Rattle.group_numbers.proofs.Members.{rank_is}
use Rattle.group_numbers.proofs.Numbers.{is_same-same}

module _ (dimensions : DimRows) (axis : Axis) (place : ℕ) where
  -- a place of a dimension is one of the dimension of each of its digits
  pub digits_there : place < row_count_of dimensions axis → (columns : List Attr)
      → All (λ (digit : Digit). place < row_count_of dimensions (axis_of digit.attr))
      (digits_on dimensions axis columns)
  digits_there within [] = All-nil (λ (digit : Digit). place < row_count_of dimensions (axis_of digit.attr))
  digits_there within (column ∷ columns) =
      let There = λ (digit : Digit). place < row_count_of dimensions (axis_of digit.attr) in
      let others = digits_on dimensions axis columns in
      let digit : Digit = record { attr = column; weight = group_count dimensions columns } in
      let rest = digits_there within columns in
      elim (is_same (axis_of column) axis) as (λ b. is_same (axis_of column) axis ≡ b
      → All There (cond b (digit ∷ others) others)) [
        | true ↦ λ e. All-cons There digit others
            (subst (λ own. place < row_count_of dimensions own) (sym (is_same-same (axis_of column) axis e)) within)
            rest
        | false ↦ λ e. rest
      ] refl

  -- what a place adds by the digits of its dimension is what it adds by all columns
  pub part_by-digits_on : (columns : List Attr) → part_by dimensions place (digits_on dimensions axis columns)
      ≡ part_at dimensions axis place columns
  part_by-digits_on [] = refl
  part_by-digits_on (column ∷ columns) =
      let others = digits_on dimensions axis columns in
      let digit : Digit = record { attr = column; weight = group_count dimensions columns } in
      let here = rank_at dimensions column place * group_count dimensions columns in
      let rest = part_by-digits_on columns in
      elim (is_same (axis_of column) axis) as
      (λ b. part_by dimensions place (cond b (digit ∷ others) others) ≡ cond b here 0
      + part_at dimensions axis place columns) [
        | true ↦ sum_by-cons (λ (d : Digit). rank_at dimensions d.attr place * d.weight) digit others
            ∙ ap (λ n. here + n) rest
        | false ↦ omega (arith, rest)
      ]

-- ---- one digit more, in which the place has some rank
module _ (dimensions : DimRows) (place : ℕ) (digits : List Digit) (i : ℕ) (default : Digit) (within : i < length digits)
    (rank number : ℕ)
    (below : rank < length (attr_members dimensions (get_or digits i default).attr))
    (text : get_or (attr_members dimensions (get_or digits i default).attr) rank []
    ≡ text_at dimensions (get_or digits i default).attr place)
    (same : number ≡ rank) where
  -- what the place adds at it
  counts : rank_at dimensions (get_or digits i default).attr place * (get_or digits i default).weight
      ≡ number * (get_or digits i default).weight
  counts = ap (λ n. n * (get_or digits i default).weight)
      (rank_is dimensions (get_or digits i default).attr place rank below text ∙ sym same)

  -- with those before
  pub part_more : part_by dimensions place (take i digits) + number * (get_or digits i default).weight
      ≡ part_by dimensions place (take (i + 1) digits)
  part_more =
      omega (
        arith,
        counts,
        sum_by_more (λ (d : Digit). rank_at dimensions d.attr place * d.weight) digits i default
            within,
      )

  -- which is within what the place adds by all
  pub part_more_le : part_by dimensions place (take i digits) + number * (get_or digits i default).weight ≤ part_by
      dimensions place digits
  part_more_le =
      omega (
        arith,
        counts,
        sum_by_more_le (λ (d : Digit). rank_at dimensions d.attr place * d.weight) digits i default
            within,
      )
