use Rattle.std.proofs.Common.{inr, List, subst}
use Rattle.query_words.specs.declared.known.Column.{Column}
use Rattle.query_words.specs.Limits.{OccursTwice}
use Rattle.query_words.proofs.limits.limit_mistake.Goals as goal

pub returns-in-Some : goal.returns-in-Some
returns-in-Some c = inr (inr (inr (
  c.in-Some.column,
  c.name.result,
  c.of.ensures,
  c.name.ensures,
  subst (λ
      (columns : List Column). OccursTwice columns c.in-Some.column) c.as_slice.ensures c.in-Some.ensures,
)))
