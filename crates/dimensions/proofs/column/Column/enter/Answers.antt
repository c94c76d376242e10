use Rattle.std.proofs.Common.{◌∙◌, sym, ap, arith}
use Rattle.dimensions.proofs.ColumnLemmas.{added, kept, enters_ok}
use Rattle.dimensions.proofs.column.Column.enter.Goals as goal
use Rattle.dimensions.proofs.column.Column.enter.Goals.{then-from-len+in_ok-add, else-from-len}

pub returns-clause-ok : goal.returns-clause-ok
returns-clause-ok c =
    let has = c.requires.code in
    elim c.if-from-len.branch [
      | then-from-len+in_ok-add w ↦
          enters_ok c.args.self.now c.if-from-len.self c.if-from-len.self.ranks c.args.place c.args.text.now c.args.code
          c.link.result
          c.link.new.self
          (ap (λ s. s.lower) w.self-is)
          (ap (λ s. s.texts) w.self-is
          ∙ added c.args.self.now.texts c.args.text.now _ w.add.new.self w.in_ok-add.ensures.ok
          (omega (arith, has.0, has.1, c.requires.limit)))
          (ap (λ s. s.codes) w.self-is) c.link.ensures.ok
      | else-from-len w ↦ enters_ok c.args.self.now c.if-from-len.self c.if-from-len.self.ranks c.args.place
          c.args.text.now c.args.code
          c.link.result c.link.new.self
          (ap (λ s. s.lower) w.self-is)
          (ap (λ s. s.texts) w.self-is
          ∙ sym (kept c.args.self.now.texts c.args.text.now
          (λ last. w.if-from-len.false (c.from.ensures ∙ has.0 ∙ last ∙ sym c.len.ensures.count))))
          (ap (λ s. s.codes) w.self-is) c.link.ensures.ok
    ]
