use Rattle.std.proofs.Common.{◌∙◌, sym}
use Rattle.std.proofs.lemmas.Result.{IfOk-weaker}
use Rattle.partial_reports.proofs.MergingLemmas.{taken_equal, taken_greater, taken_less}
use Rattle.partial_reports.proofs.merging.next_line.Goals as goal

pub returns-in-Less-clause-some : goal.returns-in-Less-clause-some
returns-in-Less-clause-some c =
    taken_less c.args.aggs.now c.args.ones.now.items c.args.others.now.items c.pop_front.new.self.items
    c.pop_front.result
    (sym c.compare_fronts.ensures ∙ c.in-Less.is) c.pop_front.ensures.items c.requires.ones c.requires.others

pub returns-in-Greater-clause-some : goal.returns-in-Greater-clause-some
returns-in-Greater-clause-some c =
    taken_greater c.args.aggs.now c.args.ones.now.items c.args.others.now.items c.pop_front-in-Greater.new.self.items
    c.pop_front-in-Greater.result
    (sym c.compare_fronts.ensures ∙ c.in-Greater.is) c.pop_front-in-Greater.ensures.items c.requires.ones
    c.requires.others

pub returns-in-Equal-clause-some : goal.returns-in-Equal-clause-some
returns-in-Equal-clause-some c =
    IfOk-weaker c.merged_if_both.result _ _
    (λ merged is. taken_equal c.args.aggs.now c.args.ones.now.items c.args.others.now.items
    c.pop_front-in-Equal.new.self.items c.pop_front-in-Equal-2.new.self.items
    c.pop_front-in-Equal.result c.pop_front-in-Equal-2.result merged
    (sym c.compare_fronts.ensures ∙ c.in-Equal.is) c.pop_front-in-Equal.ensures.items
    c.pop_front-in-Equal-2.ensures.items is c.requires.ones c.requires.others)
    c.merged_if_both.ensures.ok
