use Rattle.std.proofs.Common.{[], rules}
use Rattle.query_words.proofs.NamedViews.{named_more, named_twice}
use Rattle.query_words.proofs.view_reading.push_view.Goals as goal

pub returns-then-is_among-clause-err : goal.returns-then-is_among-clause-err
returns-then-is_among-clause-err c =
    named_twice c.args.words.now c.args.views.now.items c.args.place c.in-Some.view
    (record { ref_ptr = (0, 0); now = [] }) c.requires.within c.requires.named.named (search rules) (search rules)

pub returns-in-Ok-push-clause-ok : goal.returns-in-Ok-push-clause-ok
returns-in-Ok-push-clause-ok c =
    rw (c.in-Ok-push.ensures.items)
    (named_more c.args.words.now c.args.views.now.items c.args.place c.in-Some.view
    (record { ref_ptr = (0, 0); now = [] }) c.requires.within c.requires.named (search rules) (search rules))
