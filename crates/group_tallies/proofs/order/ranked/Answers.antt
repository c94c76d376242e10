use Rattle.std.proofs.Common.{rules, w64, ℤ, FitsSigned, to_z, of_z, to_z-of_z, ◌≡◌, ◌∙◌, ◌++◌, ◌∷◌, [], pos, sym, ap}
use Rattle.std.proofs.Common.{subst, get_or, map}
use Rattle.std.specs.List.{All}
use Rattle.std.proofs.lemmas.List.{take_more, map-append}
use Rattle.cube_model.specs.declared.answer.Value.TheVariants.{Whole}
use Rattle.cube_model.specs.declared.measure.Agg.TheVariants.{Count}
use Rattle.group_tallies.specs.Columns.{entry_line, tally_at}
use Rattle.group_tallies.specs.Ranks.{Rank, IsRank}
use Rattle.group_tallies.specs.Tallies.{value_of}
use Rattle.group_tallies.proofs.LineLaws.{values_of-at, all_push}
use Rattle.group_numbers.specs.Numbers.{group_key_at}
use Rattle.group_tallies.proofs.order.ranked.Goals as goal

pub loop-i-preserved : goal.loop-i-preserved
loop-i-preserved c =
    let dims = c.args.grouping.now.dimensions in
    let attrs = c.args.grouping.now.query.columns in
    let aggs = c.args.aggregates.now in
    let columns = c.args.columns.now in
    let order = c.args.order in
    let groups = c.args.groups.now in
    let i = c.loop-i.i in
    let group = get_or groups i (0, 0) in
    let line = entry_line (group_key_at dims attrs) aggs columns in
    let column = c.index-columns-order.result in
    let tally : c.tally_at.result ≡ tally_at (get_or columns order.aggregate column).items group.1 =
    c.tally_at.ensures
    ∙ ap (λ items. tally_at items group.1)
    (c.as_slice-column.ensures.value ∙ ap (λ one. one.items) c.index-columns-order.is) in
    let rank : Rank = (c.digit.result, record { 0 = c.whole-value.result }, group) in
    let fits : FitsSigned w64 c.whole-value.result = search rules in
    let exact : to_z w64 (of_z w64 c.whole-value.result) ≡ c.whole-value.result = to_z-of_z fits in
    let pushed : c.push.new.self.items ≡ c.loop-i.ranked.items ++ rank ∷ [] =
    c.in_ok-push.ensures.items ∙ ap (λ (v : ℤ). c.loop-i.ranked.items ++ (c.digit.result, record { 0 = v }, group) ∷ [])
    exact in
    let is : IsRank dims attrs order line rank = record {
      digit = c.digit.ensures.below;
      member = c.digit.ensures.member;
      value = values_of-at group.1 aggs columns order.aggregate Count column (Whole (pos 0)) c.requires.columns
          c.requires.aggregate
          ∙ ap (value_of (get_or aggs order.aggregate Count)) (sym tally) ∙ c.whole-value.ensures;
      below = c.requires.below i (0, 0) c.loop-i-test.true;
    } in (
      ap (map (λ (r : Rank). r.2)) pushed
          ∙ map-append (λ (r : Rank). r.2) c.loop-i.ranked.items (rank ∷ [])
          ∙ ap (λ front. front ++ group ∷ []) c.loop-i.invariant.0
          ∙ sym (take_more groups i (0, 0) c.loop-i-test.true),
      subst (All (IsRank dims attrs order line)) (sym pushed)
          (all_push (IsRank dims attrs order line) c.loop-i.ranked.items rank c.loop-i.invariant.1 is),
    )
