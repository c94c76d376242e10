use Rattle.std.proofs.Common.{⊎_elim, inl, inr, None, refl, subst}
use Rattle.warehouse_objects.specs.Facts.{facts_in}
use Rattle.warehouse.proofs.Refusing.{device_or}
use Rattle.warehouse.proofs.ReopeningLemmas.{left_by_crash}
use Rattle.warehouse.proofs.reopening.open_and_query.Goals as goal

pub returns-in-Ok-query-clause-answers : goal.returns-in-Ok-query-clause-answers
returns-in-Ok-query-clause-answers g c w v slots earlier later replies others crash k =
    let law = c.later_crash_is_found.ensures w v slots earlier later replies others c.args.device crash in
    let now = c.in-Ok.ensures.ok (facts_in law.1.found) None law.1.represents (c.query.ensures.reads.calls.word k) in
    let found = c.in-Ok-query.ensures.answer now.0 now.3 k in (
      now.0,
      left_by_crash g.D.Sectors w v now.0 earlier later replies others c.args.device law.0 law.1 now.1,
      found.0,
      found.1,
    )

pub returns-in-Err-clause-refused : goal.returns-in-Err-clause-refused
returns-in-Err-clause-refused g c w v slots earlier later replies others crash k =
    let law = c.later_crash_is_found.ensures w v slots earlier later replies others c.args.device crash in
    ⊎_elim (λ memory. inl memory) (λ device. inr (inl device))
    (c.in-Err.ensures.refused.never (facts_in law.1.found) None law.1.represents k)

pub returns-in-Err-query-clause-refused : goal.returns-in-Err-query-clause-refused
returns-in-Err-query-clause-refused g c w v slots earlier later replies others crash k =
    let law = c.later_crash_is_found.ensures w v slots earlier later replies others c.args.device crash in
    let word = subst (λ (d : g.row.D.Denot). g.D.Sectors.keeps_word d) c.close.ensures k in
    let now = c.in-Ok.ensures.ok (facts_in law.1.found) None law.1.represents (c.query.ensures.reads.calls.word word) in
    let left = left_by_crash g.D.Sectors w v now.0 earlier later replies others c.args.device law.0 law.1 now.1 in
    ⊎_elim (λ device. inr (inl device))
    (λ other. inr (inr (now.0, left, c.in-Err-query.ensures.refused.causes _ refl other now.0 now.3 word)))
    (device_or c.in-Err-query.fault)
