use Rattle.std.proofs.Common.{◌≡◌, inl, inr, refl, length, rules}
use Rattle.query_words.proofs.Refusals.{empty, no_columns}
use Rattle.query_words.proofs.columns.columns_named.Goals as goal

pub returns-then-is_empty : goal.returns-then-is_empty
returns-then-is_empty c =
    let none : length c.args.text.now ≡ 0 = search rules in
    inr (inl (refl, empty c.args.text.now none), no_columns c.args.text.now none)
