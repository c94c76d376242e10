use Rattle.std.proofs.Common.{ℕ, inr, subst}
use Rattle.std.proofs.lemmas.Result.{IfErr-weaker, IfOk-weaker}
use Rattle.c_library.specs.Loading.{IsLoadJournal, RefusesLoad}
use Rattle.c_library.proofs.changes.load_rows.Goals as goal

pub returns-clause-loads : goal.returns-clause-loads
returns-clause-loads c = IfOk-weaker c.load.result _ _
    (λ journal is. subst (λ (n : ℕ). IsLoadJournal c.args.image.now n c.args.rows c.args.lineorder.now journal.items)
    c.in-Some.ensures.some
    (subst (λ (n : ℕ). IsLoadJournal c.args.image.now c.in-Some.number n c.args.lineorder.now journal.items)
    c.in-Some-new.ensures.some is))
    c.load.ensures.loads

pub returns-clause-refused : goal.returns-clause-refused
returns-clause-refused c = IfErr-weaker c.load.result _ _
    (λ fault why. inr
    (subst (λ (n : ℕ). RefusesLoad c.args.image.now n c.args.rows c.args.lineorder.now fault) c.in-Some.ensures.some
    (subst (λ (n : ℕ). RefusesLoad c.args.image.now c.in-Some.number n c.args.lineorder.now fault)
    c.in-Some-new.ensures.some why)))
    c.load.ensures.refused
