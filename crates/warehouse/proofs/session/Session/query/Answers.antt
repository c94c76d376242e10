use Rattle.warehouse.proofs.OnlyReading.{reads_alike}
use Rattle.warehouse.proofs.session.Session.query.Goals as goal

pub returns-in-Ok-answer-clause-reads : goal.returns-in-Ok-answer-clause-reads
returns-in-Ok-answer-clause-reads g c =
    reads_alike g.D.Sectors c.args.self.now c.query_groups.new.self _ _ (λ is. absurd cc, λ is. absurd cc)
    (λ is. absurd cc, λ is. absurd cc) c.in-Ok.ensures.reads

pub returns-in-Ok-clause-reads : goal.returns-in-Ok-clause-reads
returns-in-Ok-clause-reads g c =
    reads_alike g.D.Sectors c.args.self.now c.query_groups.new.self _ _ (λ is. absurd cc, λ is. absurd cc)
    (λ is. absurd cc, λ is. absurd cc) c.in-Ok.ensures.reads
