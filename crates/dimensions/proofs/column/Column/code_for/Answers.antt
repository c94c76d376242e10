use Rattle.std.proofs.Common.{◌≡◌, ◌∙◌, sym, arith, false}
use Rattle.std.specs.List.{list_any}
use Rattle.std.specs.Str.{bytes_eq}
use Rattle.dictionary.proofs.CallerLemmas.{absent, place_after}
use Rattle.dimensions.proofs.column.Column.code_for.Goals as goal

pub returns-then-next-ge-MOST_MEMBERS : goal.returns-then-next-ge-MOST_MEMBERS
returns-then-next-ge-MOST_MEMBERS c = (
  absent c.args.self.now.texts.texts c.args.text.now (sym c.code.ensures.value ∙ c.in_default.is),
  omega (arith, c.len-next.ensures.count, c.if-next-ge-MOST_MEMBERS.true),
)

pub returns : goal.returns
returns c =
    let new : list_any (bytes_eq c.args.text.now) c.args.self.now.texts.texts ≡ false =
    absent c.args.self.now.texts.texts c.args.text.now (sym c.code.ensures.value ∙ c.in_default.is) in (
      c.len-next.ensures.count ∙ sym (place_after (bytes_eq c.args.text.now) c.args.self.now.texts.texts new),
      omega (arith, c.if-next-ge-MOST_MEMBERS.false),
    )
