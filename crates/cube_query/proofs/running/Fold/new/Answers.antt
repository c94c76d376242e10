use Rattle.std.proofs.Common.{◌≡◌, ◌∙◌, ℕ, [], ap, subst, sym}
use Rattle.cube_model.specs.Proper.{IsProper}
use Rattle.cube_model.specs.declared.query.Query.{Query}
use Rattle.group_tallies.specs.Columns.{tallies_at}
use Rattle.group_tallies.specs.Slots.{entries_of, AreSlots, Cover}
use Rattle.group_tallies.specs.Tallies.{tallies_of}
use Rattle.group_numbers.specs.GroupNumbers.{query_of}
use Rattle.group_numbers.proofs.Extending.{grouping_of_over}
use Rattle.cube_query.proofs.RunningLemmas.{begun}
use Rattle.cube_query.proofs.running.Fold.new.Goals as goal

pub invariant_of-result : goal.invariant_of-result
invariant_of-result c =
    let grouping = c.in_ok-grouping.grouping in
    let slots = c.in_ok-slots.slots in
    let columns = c.in_ok-columns.columns.items in
    let same : c.get.result.now ≡ query_of grouping = c.get.ensures.query ∙ sym c.in_ok-grouping.ensures.query in
    let none = λ (slot : ℕ).
    (let here : tallies_at columns slot ≡ tallies_of (query_of grouping).aggregates [] = c.in_ok-columns.ensures slot
    ∙ ap (λ aggs. tallies_of aggs []) (c.as_slice.ensures ∙ ap (λ (q : Query). q.aggregates) same) in here) in
    record {
      proper = subst IsProper same c.get.ensures.proper;
      numbers = subst (λ n. AreSlots n (entries_of slots)) c.group_count.ensures c.in_ok-slots.ensures.numbers;
      cover = subst (λ n. Cover n slots) c.group_count.ensures c.in_ok-slots.ensures.cover;
      fresh = λ slot h. none slot;
    }

pub returns : goal.returns
returns c =
    let dims = c.args.dims.now in
    let grouping = c.in_ok-grouping.grouping in
    let slots = c.in_ok-slots.slots in
    let columns = c.in_ok-columns.columns.items in
    let same : c.get.result.now ≡ query_of grouping = c.get.ensures.query ∙ sym c.in_ok-grouping.ensures.query in
    let none = λ (slot : ℕ).
    (let here : tallies_at columns slot ≡ tallies_of (query_of grouping).aggregates [] = c.in_ok-columns.ensures slot
    ∙ ap (λ aggs. tallies_of aggs []) (c.as_slice.ensures ∙ ap (λ (q : Query). q.aggregates) same) in here) in
    let made = grouping_of_over dims grouping c.in_ok-grouping.ensures.over in
    record {
      query_is = c.in_ok-grouping.ensures.query;
      represents =
          begun dims grouping c.in_ok-grouping.ensures.over slots columns
          (subst (λ n. AreSlots n (entries_of slots)) (c.group_count.ensures ∙ made.counted)
          c.in_ok-slots.ensures.numbers) none;
    }
