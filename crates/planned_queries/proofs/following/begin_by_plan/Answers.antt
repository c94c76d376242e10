use Rattle.std.proofs.Common.{sym, subst, take, rules}
use Rattle.cube_model.specs.Admission.{all_rows}
use Rattle.cube_query.specs.Groups.{RepresentsRows}
use Rattle.planner.specs.declared.price.AccessPath.{AccessPath}
use Rattle.planned_queries.specs.Planned.{IsOfCuboid, mark_of}
use Rattle.warehouse_objects.proofs.OneMoreRead.{reads_nothing}
use Rattle.planned_queries.proofs.following.begin_by_plan.Goals as goal

pub returns-in_ok-add_cuboid-in-Cells-clause-ok : goal.returns-in_ok-add_cuboid-in-Cells-clause-ok
returns-in_ok-add_cuboid-in-Cells-clause-ok g c = λ k w represents rooted same.
    subst (λ (plan : AccessPath). IsOfCuboid w plan
    → RepresentsRows c.args.dims.now c.add_cuboid.new.fold (all_rows (take (mark_of plan) w.batches)))
    (sym c.in-Cells.is)
    (λ has. c.in_ok-add_cuboid-in-Cells.ensures.ok k w represents rooted same has)

pub returns-in-Scan-clause-reads : goal.returns-in-Scan-clause-reads
returns-in-Scan-clause-reads g c =
    reads_nothing g.D.Sectors g.met.D.Sectors.only_now c.args.store.now c.requires.fine _ (λ is. search rules)
