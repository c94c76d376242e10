use Rattle.std.proofs.Common.{List, ℕ, Option, subst}
use Rattle.std.specs.Option.{IsSomeAnd}
use Rattle.std.proofs.lemmas.Result.{IfOk-weaker}
use Rattle.wire.proofs.Stopped.{decoded_bad, decoded_run, stopped_bad, stopped_run}
use Rattle.cuboid_cells.specs.Spelled.{HoldsNoRun, IsRun}
use Rattle.cuboid_cells.proofs.sources.decode_from.Goals as goal

pub returns-in_err-found-clause-refused : goal.returns-in_err-found-clause-refused
returns-in_err-found-clause-refused g c = λ err keeps.
    absurd (stopped_bad g.S.Source c.args.source.now c.read_whole.new.source c.from_residual.result _
    c.from_residual.ensures.1 c.in_err-found.ensures.run err)

pub returns-in_err-found-clause-run : goal.returns-in_err-found-clause-run
returns-in_err-found-clause-run g c =
    stopped_run g.S.Source c.args.source.now c.read_whole.new.source c.from_residual.result _ c.from_residual.ensures.1
    c.in_err-found.ensures.run

pub returns-clause-ok : goal.returns-clause-ok
returns-clause-ok g c =
    IfOk-weaker c.decode_found.result _ _
    (λ run is keeps. subst (λ (text : Option (List ℕ)). IsSomeAnd text (λ bytes. IsRun bytes run.0 run.1))
    (c.in_ok-found.ensures.found keeps) is)
    c.decode_found.ensures.ok

pub returns-clause-refused : goal.returns-clause-refused
returns-clause-refused g c =
    λ err keeps. subst HoldsNoRun (c.in_ok-found.ensures.found keeps)
    (decoded_bad _ c.decode_found.result c.decode_found.ensures.refused err)

pub returns-clause-run : goal.returns-clause-run
returns-clause-run g c = decoded_run g.S.Source c.args.source.now c.read_whole.new.source _ c.decode_found.result
    c.in_ok-found.ensures.run c.decode_found.ensures.refused
