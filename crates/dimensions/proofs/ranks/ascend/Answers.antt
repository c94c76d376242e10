use Rattle.std.proofs.Common.{◌≡◌, ◌<◌, ◌-◌, ◌∙◌, sym, ap, inl, inr, arith, suc, [], length, get_or}
use Rattle.std.proofs.lemmas.Bool.{cases_lt}
use Rattle.std.proofs.lemmas.List.{get_or_read}
use Rattle.dimensions.proofs.MemberLaws.{text_cmp}
use Rattle.dimensions.proofs.RankLaws.{less_of, own_members}
use Rattle.dimensions.proofs.ranks.ascend.Goals as goal

pub loop-place-preserved : goal.loop-place-preserved
loop-place-preserved c = λ k lt. elim (cases_lt (suc k) c.loop-place.place) [
  | inl here ↦ c.loop-place.invariant k here
  | inr after ↦
      let low : k ≡ c.loop-place.place - 1 = omega (arith, lt, after) in
      let high : suc k ≡ c.loop-place.place = omega (arith, lt, after) in
      let before : c.loop-place.place - 1 < length c.args.texts.now = omega (arith, c.loop-place-test.true) in
      let within : c.loop-place.place < length c.args.texts.now = omega (arith, c.loop-place-test.true) in
      let first = ap (λ n. get_or c.args.texts.now n []) low
      ∙ sym (get_or_read c.args.texts.now (c.loop-place.place - 1) c.index-texts-place.result before
      c.index-texts-place.is []) in
      let second = ap (λ n. get_or c.args.texts.now n []) high
      ∙ sym (get_or_read c.args.texts.now c.loop-place.place c.index-texts-place-in-loop-place.result within
      c.index-texts-place-in-loop-place.is []) in
      (λ i. text_cmp (first i) (second i)) ∙ sym c.cmp.ensures
      ∙ less_of c.cmp.result (sym c.is_lt.ensures ∙ c.if-not-is_lt.false)
]

pub returns : goal.returns
returns c =
    λ yes. own_members c.args.texts.now (λ k lt. c.loop-place.invariant k (omega (arith, lt, c.loop-place-test.false)))
