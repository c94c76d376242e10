use Rattle.std.proofs.Common.{rules}
use Rattle.std.proofs.lemmas.Result.{on_ok_weaker}
use Rattle.warehouse.proofs.GrowingLemmas.{grown-more, grown-long, had_columns}
use Rattle.warehouse.proofs.growing.GrowingBatch.push.Goals as goal

pub push-requires : goal.push-requires
push-requires c =
    let root = c.requires.few.0 in
    let few = c.requires.few.1 in
    record {
      few = (
        few.0,
        had_columns c.args.dims.now root few.0 c.args.rows.now c.args.self.now c.more-self.result few.1
            (c.more-self.ensures root.totals few.0 few.1.found) (search rules),
        few.2,
      );
    }

pub returns-then-has_long_text-clause-ok : goal.returns-then-has_long_text-clause-ok
returns-then-has_long_text-clause-ok c = λ root before grown.
    grown-long c.args.dims.now root before c.args.rows.now c.args.self.now c.more-self.result grown
    (c.more-self.ensures root.totals before grown.found) (search rules)

pub returns-clause-ok : goal.returns-clause-ok
returns-clause-ok c =
    on_ok_weaker c.push.result
    (λ pushed root before grown.
    grown-more c.args.dims.now root before c.args.rows.now c.args.self.now c.more-self.result grown
    (c.more-self.ensures root.totals before grown.found) c.push.new.self (search rules) (pushed before))
    c.push.ensures.ok
