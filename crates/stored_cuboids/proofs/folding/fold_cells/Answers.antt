use Rattle.std.proofs.Common.{List, OnOk, subst, sym, ℕ}
use Rattle.object_store.specs.Content.{bytes_of}
use Rattle.object_store.specs.Store.{content_of, device_of}
use Rattle.cuboid_cells.specs.Steps.{cells_of}
use Rattle.cuboid_upkeep.specs.Grouping.{RepresentRows}
use Rattle.cube_query.specs.CellRuns.{TakesRun}
use Rattle.stored_cuboids.proofs.folding.fold_cells.Goals as goal

pub returns-clause-ok : goal.returns-clause-ok
returns-clause-ok g c =
    subst (λ (modes : List (List ℕ)). OnOk c.add_run.result
    (g.D.Sectors.keeps_word (device_of c.add_run.new.source)
    → TakesRun c.args.dims.now modes (bytes_of (content_of g.D.Sectors c.args.store.now) c.args.run.now.id)
    c.args.run.now c.args.fold.now c.add_run.new.self)) c.dictionary.ensures.texts c.add_run.ensures.ok

pub returns-clause-refused : goal.returns-clause-refused
returns-clause-refused g c = λ is k cells left rows represent can.
    c.add_run.ensures.refused is k cells left rows
    (subst (λ (modes : List (List ℕ)). RepresentRows c.args.dims.now modes rows
    (cells_of c.args.run.now.head.view cells)) (sym c.dictionary.ensures.texts) represent) can
