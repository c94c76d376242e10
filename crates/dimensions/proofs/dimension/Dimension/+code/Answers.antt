use Rattle.std.proofs.Common.{◌≡◌, ◌<◌, ◌∙◌, sym, ap, arith, length, get_or}
use Rattle.std.specs.Option.{option_map}
use Rattle.std.proofs.lemmas.List.{get_or_read}
use Rattle.dimensions.specs.TextRows.{column_of}
use Rattle.dimensions.specs.Shapes.{lower_of}
use Rattle.dimensions.specs.Columns.{code_place}
use Rattle.dimensions.specs.Dimensions.{column_at, no_column, lower_texts}
use Rattle.dimensions.proofs.DimensionReads.{code_within, place_within, column_lt}
use Rattle.dimensions.proofs.dimension.Dimension.+code.Goals as goal
use Rattle.dimensions.proofs.dimension.Dimension.+code.Goals.{in-None, in-Some}

pub code-requires-2 : goal.code-requires-2
code-requires-2 n c =
    let axis = c.requires.sound.0 in
    let rows = c.requires.sound.1.0 in
    let is = c.requires.sound.1.1 in
    let lt : c.args.column < length c.args.self.now.columns.items =
    omega (arith, c.requires.column, c.args.self.now.columns.ok.0) in
    let first = get_or_read c.args.self.now.columns.items c.args.column c.index.result.now lt c.index.ensures
    no_column in
    let second = get_or_read c.args.self.now.columns.items c.args.column c.index-2.result.now lt c.index-2.ensures
    no_column in
    let lower : lower_of axis c.args.column ≡ c.lower.result =
    sym (is.lowers c.args.column
    (column_lt axis rows c.args.self.now is c.args.column lt c.args.row c.requires.row))
    ∙ ap (λ t. t.lower) (sym first) ∙ sym c.lower.ensures in
    let place : c.match-lower.place ≡ code_place (lower_texts axis c.args.column rows) c.args.row =
    elim c.match-lower.branch [
      | in-None w ↦ w.place-is
          ∙ ap (λ o. code_place (option_map (λ j. column_of j rows) o) c.args.row) (sym (lower ∙ w.in-None.is))
      | in-Some w ↦ w.place-is ∙ w.from-place.ensures ∙ w.code.ensures axis rows is
          ∙ ap (λ o. code_place (option_map (λ j. column_of j rows) o) c.args.row) (sym (lower ∙ w.in-Some.is))
    ] in
    let within = place_within axis rows c.args.self.now is c.args.column lt c.args.row c.requires.row in
    omega (arith, within, place, ap (λ t. length t.codes) second)

pub returns : goal.returns
returns n c = λ axis rows is.
    let lt : c.args.column < length c.args.self.now.columns.items =
    omega (arith, c.requires.column, c.args.self.now.columns.ok.0) in
    let first = get_or_read c.args.self.now.columns.items c.args.column c.index.result.now lt c.index.ensures
    no_column in
    let second = get_or_read c.args.self.now.columns.items c.args.column c.index-2.result.now lt c.index-2.ensures
    no_column in
    let lower : lower_of axis c.args.column ≡ c.lower.result =
    sym (is.lowers c.args.column
    (column_lt axis rows c.args.self.now is c.args.column lt c.args.row c.requires.row))
    ∙ ap (λ t. t.lower) (sym first) ∙ sym c.lower.ensures in
    let place : c.match-lower.place ≡ code_place (lower_texts axis c.args.column rows) c.args.row =
    elim c.match-lower.branch [
      | in-None w ↦ w.place-is
          ∙ ap (λ o. code_place (option_map (λ j. column_of j rows) o) c.args.row) (sym (lower ∙ w.in-None.is))
      | in-Some w ↦ w.place-is ∙ w.from-place.ensures ∙ w.code.ensures axis rows is
          ∙ ap (λ o. code_place (option_map (λ j. column_of j rows) o) c.args.row) (sym (lower ∙ w.in-Some.is))
    ] in
    c.code-2.ensures ∙ ap (λ t. get_or t.codes c.match-lower.place 0) second
    ∙ ap (λ n. get_or (column_at c.args.self.now c.args.column).codes n 0) place
    ∙ code_within axis rows c.args.self.now is c.args.column lt c.args.row c.requires.row
