use Rattle.std.proofs.Common.{Bor, List, ℕ, Option, map, subst, sym}
use Rattle.std.specs.Option.{option_map}
use Rattle.query_words.specs.declared.cube_parts.CubeParts.{CubeParts}
use Rattle.query_words.specs.Words.{SpellsProper}
use Rattle.query_words.proofs.WordsLemmas.{ArePartsOf, columns_stop, conditions_stop, cube_words, exceeds, within}
use Rattle.query_words.proofs.words.read_cube.Goals as goal

abbrev text_in : Option (Bor (List ℕ)) → Option (List ℕ)
text_in word = option_map (λ one. one.now) word

abbrev texts_in : List (Bor (List ℕ)) → List (List ℕ)
texts_in words = map (λ word. word.now) words

pub returns-in_err-columns : goal.returns-in_err-columns
returns-in_err-columns c = columns_stop (text_in c.args.set) (text_in c.args.by) c.args.agg.now
    (texts_in c.args.conditions.now) c.in_err-columns.field-0.0 c.from_residual-in_err-columns.result
    c.from_residual-in_err-columns.ensures.1 c.in_err-columns.ensures

pub returns-in_err-conditions : goal.returns-in_err-conditions
returns-in_err-conditions c = conditions_stop (text_in c.args.set) (text_in c.args.by) c.args.agg.now
    (texts_in c.args.conditions.now) c.in_err-conditions.field-0.0 c.from_residual-in_err-conditions.result
    c.from_residual-in_err-conditions.ensures.1 c.in_err-conditions.ensures

pub returns-in-None : goal.returns-in-None
returns-in-None c =
    let parts : CubeParts = record {
      kind = c.in_ok-kind.kind;
      columns = c.in_ok-columns.columns;
      conditions = c.in_ok-conditions.conditions;
      aggregates = c.in_ok-aggregates.aggregates;
    } in
    let are : ArePartsOf (text_in c.args.set) (text_in c.args.by) c.args.agg.now (texts_in c.args.conditions.now)
    parts = record {
      kind =
          c.in_ok-kind.ensures;
      columns = c.in_ok-columns.ensures;
      fit = c.in_ok-conditions.ensures;
      aggregates =
          c.in_ok-aggregates.ensures;
    } in
    subst (SpellsProper (cube_words (text_in c.args.set) (text_in c.args.by) c.args.agg.now
    (texts_in c.args.conditions.now))) (sym c.in_ok-into_query-in-None.ensures)
    (within (text_in c.args.set) (text_in c.args.by) c.args.agg.now (texts_in c.args.conditions.now) parts are
    c.in-None.ensures)

pub returns : goal.returns
returns c =
    let parts : CubeParts = record {
      kind = c.in_ok-kind.kind;
      columns = c.in_ok-columns.columns;
      conditions = c.in_ok-conditions.conditions;
      aggregates = c.in_ok-aggregates.aggregates;
    } in
    let are : ArePartsOf (text_in c.args.set) (text_in c.args.by) c.args.agg.now (texts_in c.args.conditions.now)
    parts = record {
      kind =
          c.in_ok-kind.ensures;
      columns = c.in_ok-columns.ensures;
      fit = c.in_ok-conditions.ensures;
      aggregates =
          c.in_ok-aggregates.ensures;
    } in
    exceeds (text_in c.args.set) (text_in c.args.by) c.args.agg.now (texts_in c.args.conditions.now) parts
    c.in-Some.refused are
    c.in-Some.ensures
