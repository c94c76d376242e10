use Rattle.std.proofs.Common.{◌<◌, ◌∙◌, ap, arith, length}
use Rattle.std.proofs.lemmas.List.{get_or_read}
use Rattle.dimensions.specs.Dimensions.{no_column}
use Rattle.dimensions.proofs.DimensionReads.{rank_within, rank_is}
use Rattle.dimensions.proofs.dimension.Dimension.rank.Goals as goal

pub rank-requires : goal.rank-requires
rank-requires c =
    let axis = c.requires.sound.0 in
    let rows = c.requires.sound.1.0 in
    let is = c.requires.sound.1.1 in
    let lt : c.args.column < length c.args.self.now.columns.items =
    omega (arith, c.requires.column, c.args.self.now.columns.ok.0) in
    rank_within axis rows c.args.self.now is c.args.column lt c.args.row c.requires.row c.from.result
    (c.from.ensures ∙ c.code-code.ensures axis rows is.stores) c.ranks.result.now
    (c.ranks.ensures ∙ ap (λ t. t.ranks) (get_or_read c.args.self.now.columns.items c.args.column c.index.result.now lt
    c.index.ensures no_column))

pub returns : goal.returns
returns c = λ axis rows is.
    let lt : c.args.column < length c.args.self.now.columns.items =
    omega (arith, c.requires.column, c.args.self.now.columns.ok.0) in
    rank_is axis rows c.args.self.now is c.args.column lt c.args.row c.requires.row c.from.result
    (c.from.ensures ∙ c.code-code.ensures axis rows is.stores) c.ranks.result.now
    (c.ranks.ensures ∙ ap (λ t. t.ranks) (get_or_read c.args.self.now.columns.items c.args.column c.index.result.now lt
    c.index.ensures no_column)) c.rank.result c.rank.ensures.below c.rank.ensures.text
