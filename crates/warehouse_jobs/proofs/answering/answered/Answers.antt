use Rattle.std.proofs.Common.{◌≡◌, ◌∙◌, inl, ℕ, Option, rules, Some, None, List, [], ◌∷◌, true, refl, sym, subst}
use Rattle.cube_model.specs.declared.query.Query.{Query}
use Rattle.cube_model.specs.Proper.{IsProper}
use Rattle.planned_queries.specs.ModeAnswers.{moded_answer_as_of}
use Rattle.planned_queries.specs.ModesPlanned.{looks_at_modes}
use Rattle.mode_queries.specs.Lawful.{without_modes}
use Rattle.mode_queries.specs.Proper.{IsProperByModes}
use Rattle.mode_queries.specs.declared.query.ModeCond.{ModeCond}
use Rattle.mode_queries.specs.declared.query.ModeQuery.{ModeQuery}
use Rattle.mode_queries.proofs.CallerLemmas.{proper_without}
use Rattle.warehouse.specs.ByModes.{IsAskedByModes}
use Rattle.warehouse.proofs.Asking.{asks_alike}
use Rattle.warehouse.proofs.OnlyReading.{reads_alike}
use Rattle.warehouse_jobs.proofs.CallerLemmas.{answered_without_ship_modes, asked_as_modes}
use Rattle.warehouse_jobs.proofs.answering.answered.Goals as goal

-- a query that is not one of the dimensions alone looks at ship modes
looks : (query : Query) (place : Option ℕ) (conditions : List ModeCond)
    → ((plain : Query) → record { query = query; place = place; conditions = conditions } ≡ without_modes plain → ⊥)
    → looks_at_modes (record { query = query; place = place; conditions = conditions }) ≡ true
looks query (Some place) conditions never = refl
looks query None (condition ∷ conditions) never = search rules
looks query None [] never = absurd (never query refl)

-- it is proper exactly where it is as a query of the dimensions alone
proper_by_modes : (query : Query) (asked : ModeQuery) → asked ≡ without_modes query → IsProper query
    → IsProperByModes asked
proper_by_modes query asked same proper = subst IsProperByModes (sym same) (proper_without query proper)

proper_plain : (query : Query) (asked : ModeQuery) → asked ≡ without_modes query → IsProperByModes asked
    → IsProper query
proper_plain query asked same proper = (subst IsProperByModes same proper).without

pub moded_groups-requires : goal.moded_groups-requires
moded_groups-requires g c =
    let asked = c.args.asked.now in
    record { looks = looks asked.query asked.place asked.conditions c.in-None.ensures.none }

pub returns-in-Ok-clause-answer : goal.returns-in-Ok-clause-answer
returns-in-Ok-clause-answer g c w at k =
    let query = c.in-Some.query.now in
    let found = c.in-Ok.ensures.answer w at k in
    let same : c.args.asked.now ≡ without_modes query = c.in-Some.ensures.some in
    subst (λ (asked : ModeQuery). IsAskedByModes w c.args.as_of asked
    × (c.without_modes.result ≡ moded_answer_as_of asked c.args.as_of w.rows w.batches)) (sym same) (
      asked_as_modes w c.args.as_of query found.0,
      c.without_modes.ensures ∙ found.1 ∙ sym (answered_without_ship_modes query c.args.as_of w.rows w.batches),
    )

pub returns-in-Ok-clause-reads : goal.returns-in-Ok-clause-reads
returns-in-Ok-clause-reads g c =
    reads_alike g.D.Sectors c.args.session.now c.query_groups.new.self _ _ (λ is. absurd cc, λ is. absurd cc)
    (λ is. absurd cc, λ is. absurd cc) c.in-Ok.ensures.reads

pub returns-in-Ok-moded_groups-clause-reads : goal.returns-in-Ok-moded_groups-clause-reads
returns-in-Ok-moded_groups-clause-reads g c =
    reads_alike g.D.Sectors c.args.session.now c.moded_groups.new.self _ _ (λ is. absurd cc, λ is. absurd cc)
    (λ is. absurd cc, λ is. absurd cc) c.in-Ok-moded_groups.ensures.reads

pub returns-in-Ok-clause-refused : goal.returns-in-Ok-clause-refused
returns-in-Ok-clause-refused g c =
    let query = c.in-Some.query.now in
    asks_alike g.D.Sectors c.args.as_of _ _ _ _ c.args.session.now c.query_groups.new.self
    (proper_by_modes query c.args.asked.now c.in-Some.ensures.some)
    (proper_plain query c.args.asked.now c.in-Some.ensures.some) (λ fault is. absurd cc) (λ fault is. absurd cc)
    c.in-Ok.ensures.refused

pub returns-in-Err-clause-refused : goal.returns-in-Err-clause-refused
returns-in-Err-clause-refused g c =
    let query = c.in-Some.query.now in
    asks_alike g.D.Sectors c.args.as_of _ _ _ _ c.args.session.now c.query_groups.new.self
    (proper_by_modes query c.args.asked.now c.in-Some.ensures.some)
    (proper_plain query c.args.asked.now c.in-Some.ensures.some) (λ fault is. cc) (λ fault is. inl cc)
    c.in-Err.ensures.refused
