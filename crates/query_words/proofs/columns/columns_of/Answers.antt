use Rattle.std.proofs.Common.{[], inr, refl, arith}
use Rattle.query_words.specs.Known.{column_name}
use Rattle.query_words.proofs.Listed.{names_none}
use Rattle.query_words.proofs.Refusals.{has_text}
use Rattle.query_words.proofs.columns.columns_of.Goals as goal

pub returns-in_default : goal.returns-in_default
returns-in_default c = inr (
  (
    refl,
    has_text (λ name. name.now) c.args.names.now c.loop-name.name-index (record { ref_ptr = (0, 0); now = [] })
        (omega arith),
    λ name. c.in_default.ensures name.0 name.1,
  ),
  λ values e. names_none column_name (λ name. name.now) c.args.names.now c.loop-name.name-index
      (record { ref_ptr = (0, 0); now = [] })
      (omega arith) c.in_default.ensures values e,
)
