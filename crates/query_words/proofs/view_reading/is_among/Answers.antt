use Rattle.std.proofs.Common.{rules, ◌∙◌, sym}
use Rattle.std.proofs.lemmas.List.{get_or_default}
use Rattle.lattice.proofs.Places.{one_view}
use Rattle.query_words.proofs.view_reading.is_among.Goals as goal

pub returns-then-index : goal.returns-then-index
returns-then-index c =
    let same = sym c.index.ensures ∙ c.if-index.true ∙ c.index-in-loop-other.ensures in (
      λ t. (
        c.loop-other.other-index,
        c.loop-other-test.true,
        get_or_default c.args.views.now c.loop-other.other-index c.args.view _ c.loop-other-test.true
            ∙ one_view _ c.args.view same,
      ),
      λ there. search rules,
    )
