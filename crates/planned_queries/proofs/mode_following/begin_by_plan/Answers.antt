use Rattle.std.proofs.Common.{sym, subst, take, rules}
use Rattle.cube_model.specs.Admission.{all_rows}
use Rattle.mode_folds.specs.States.{RepresentsModeRows}
use Rattle.planner.specs.declared.price.AccessPath.{AccessPath}
use Rattle.planned_queries.specs.Planned.{IsOfCuboid, mark_of}
use Rattle.planned_queries.specs.ModesPlanned.{ServesByModes}
use Rattle.planned_queries.proofs.Views.{groups_by_mode}
use Rattle.warehouse_objects.proofs.OneMoreRead.{reads_nothing}
use Rattle.planned_queries.proofs.mode_following.begin_by_plan.Goals as goal

pub add_cuboid-requires-clause-serves : goal.add_cuboid-requires-clause-serves
add_cuboid-requires-clause-serves g c =
    let serves = subst (ServesByModes c.args.fold.now.asked) c.in-Cells.is c.requires.serves in record {
      serves = serves.0;
      grouped = groups_by_mode c.args.fold.now.asked c.in-Cells.view c.requires.looks serves.1;
    }

pub returns-in_ok-add_cuboid-in-Cells-clause-ok : goal.returns-in_ok-add_cuboid-in-Cells-clause-ok
returns-in_ok-add_cuboid-in-Cells-clause-ok g c = λ k w represents rooted same.
    subst (λ (plan : AccessPath). IsOfCuboid w plan
    → RepresentsModeRows c.args.dims.now c.add_cuboid.new.fold (all_rows (take (mark_of plan) w.batches)))
    (sym c.in-Cells.is)
    (λ has. c.in_ok-add_cuboid-in-Cells.ensures.ok k w represents rooted same has)

pub returns-in-Scan-clause-reads : goal.returns-in-Scan-clause-reads
returns-in-Scan-clause-reads g c =
    reads_nothing g.D.Sectors g.met.D.Sectors.only_now c.args.store.now c.requires.fine _ (λ is. search rules)
