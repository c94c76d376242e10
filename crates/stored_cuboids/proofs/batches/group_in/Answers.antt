use Rattle.std.proofs.Common.{ℕ, List, ◌++◌, subst}
use Rattle.std.proofs.lemmas.Result.{IfErr-weaker}
use Rattle.cube_model.specs.declared.rows.LineOrder.{LineOrder}
use Rattle.cuboid_upkeep.specs.Grouping.{RepresentRows}
use Rattle.cuboid_upkeep.specs.Steps.{IsAddFault}
use Rattle.warehouse_objects.proofs.Folded.{ok_so}
use Rattle.cuboid_upkeep.specs.Growing.{grown}
use Rattle.stored_cuboids.specs.Grouped.{GroupsMore, IsAddFaultOf}
use Rattle.stored_cuboids.proofs.batches.group_in.Goals as goal

pub returns-clause-ok : goal.returns-clause-ok
returns-clause-ok c =
    ok_so _ _ c.add_rows.result (λ more.
    subst (λ (modes : List (List ℕ)). GroupsMore c.args.dims.now modes (grown c.args.cells.now) c.args.segment.now.rows
    (grown c.add_rows.new.self)) c.dictionary.ensures.texts (record {
      represent =
          λ so_far represent. subst (λ (rows : List LineOrder).
          RepresentRows c.args.dims.now c.dictionary.result.now.texts (so_far ++ rows) (grown c.add_rows.new.self))
          c.of-rows.ensures.rows (more so_far represent);
    })) c.add_rows.ensures.ok

pub returns-clause-refused : goal.returns-clause-refused
returns-clause-refused c =
    IfErr-weaker c.add_rows.result _ _
    (λ fault why.
    subst (λ (modes : List (List ℕ)). IsAddFaultOf c.args.dims.now modes (grown c.args.cells.now)
    c.args.segment.now.rows fault) c.dictionary.ensures.texts
    (λ so_far represent. subst (λ (rows : List LineOrder).
    IsAddFault c.args.dims.now c.dictionary.result.now.texts (grown c.args.cells.now).view (so_far ++ rows) fault)
    c.of-rows.ensures.rows (why so_far represent)))
    c.add_rows.ensures.refused
