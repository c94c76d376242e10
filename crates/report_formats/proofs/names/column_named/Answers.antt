use Rattle.std.proofs.Common.{◌≡◌, ◌∙◌, ◌<◌, [], true, ap, arith, get_or, length, sym}
use Rattle.std.proofs.lemmas.Grind.{common_steps}
use Rattle.std.proofs.lemmas.List.Sums.{position_or_len_is}
use Rattle.std.specs.List.{position_or_len}
use Rattle.std.specs.Str.{bytes_eq}
use Rattle.mode_queries.specs.Names.{column_names}
use Rattle.report_formats.proofs.names.column_named.Goals as goal

pub returns-then-eq : goal.returns-then-eq
returns-then-eq c =
    let names = column_names c.args.asked.now in
    let within : c.loop-column.column < length names = omega arith in
    let found : bytes_eq c.args.name.now (get_or names c.loop-column.column []) ≡ true =
    sym (c.eq.ensures ∙ ap (bytes_eq c.args.name.now) c.column_name.ensures) ∙ c.if-eq.true in
    let first : position_or_len (bytes_eq c.args.name.now) names ≡ c.loop-column.column =
    position_or_len_is (bytes_eq c.args.name.now) names c.loop-column.column [] (omega arith) c.loop-column.invariant
    (λ below. found) in
    grind (arith, common_steps)

pub returns : goal.returns
returns c =
    let names = column_names c.args.asked.now in
    let none : position_or_len (bytes_eq c.args.name.now) names ≡ length names =
    position_or_len_is (bytes_eq c.args.name.now) names (length names) [] (omega arith)
    (λ k below. c.loop-column.invariant k (omega arith)) (λ below. absurd (omega arith)) in
    grind (arith, common_steps)
