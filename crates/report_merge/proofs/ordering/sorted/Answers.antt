use Rattle.std.proofs.Common.{◌∙◌, subst, rules, List, Some}
use Rattle.std.specs.List.Sorted.{IsPermutation}
use Rattle.std.specs.Ordering.{is_lt}
use Rattle.std.proofs.lemmas.Fn.{always_returns_same}
use Rattle.std.proofs.lemmas.List.Sorted.{ranks_by}
use Rattle.cube_model.specs.declared.answer.Line.{Line}
use Rattle.cube_model.specs.Orders.{line_cmp}
use Rattle.cube_model.proofs.LawsLemmas.{answer_cmp_total}
use Rattle.report_merge.proofs.OrderingLemmas.{sorted_lines}
use Rattle.report_merge.proofs.ordering.sorted.Goals as goal

pub returns : goal.returns
returns c =
    let order = c.args.order in
    let found = c.sort_unstable_by.new.self.items in
    c.from_vec.ensures
    ∙ sorted_lines order c.args.lines c.requires found
    (subst (λ (all : List Line). IsPermutation all found) c.into_vec-lines.ensures
    c.sort_unstable_by.ensures.permutation)
    (c.sort_unstable_by.ensures.sorted (λ left right. is_lt (line_cmp order left right))
    (ranks_by (answer_cmp_total (Some order)) (λ line. line))
    (always_returns_same _ _ _ (λ a r f k. search rules)))
