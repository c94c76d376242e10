use Rattle.std.proofs.Common.{◌∙◌, ◌<◌, ◌^◌, sym, ap, subst, rules}
use Rattle.cube_model.specs.declared.query.Query.{Query}
use Rattle.group_numbers.specs.Numbers.{group_count}
use Rattle.group_numbers.specs.GroupNumbers.{AreBounds, IsGroupNumbersOf}
use Rattle.group_numbers.proofs.Extending.{grouping_over}
use Rattle.group_numbers.proofs.Numbers.{keys_rise}
use Rattle.group_numbers.proofs.group_numbers.GroupNumbers.new.Goals as goal

pub returns-clause-over : goal.returns-clause-over
returns-clause-over c =
    let dims = c.args.dims.now in
    let query = c.get-query.result.now in
    let fits : c.group_count-count.result < 2 ^ 128 = search rules in
    grouping_over dims _ (subst (λ (copy : Query). IsGroupNumbersOf dims (record {
      query = copy;
      bounds = c.of.result;
      columns = c.in_ok-copy.columns;
      sides = c.in_ok-sides.sides;
      filters = c.in_ok-sides.filters;
      count = c.group_count-count.result;
    })) (sym c.in_ok-copy.ensures.copy) (record {
      few = c.get-query.ensures.proper.few_columns;
      within = subst (λ conditions. AreBounds conditions c.of.result) c.as_slice-2.ensures c.of.ensures;
      sides = c.in_ok-sides.ensures.sides;
      filters = c.in_ok-sides.ensures.filters;
      columns = c.in_ok-copy.ensures.columns;
      rising = keys_rise dims query.columns;
      counted = c.group_count-count.ensures.count ∙ ap (group_count dims) c.as_slice.ensures;
      fits = fits;
    }))

pub returns-clause-query : goal.returns-clause-query
returns-clause-query c = c.in_ok-copy.ensures.copy ∙ c.get-query.ensures.query
