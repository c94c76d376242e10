use Rattle.std.proofs.Common.{◌≡◌, ◌∙◌, ◌++◌, ◌∷◌, [], Some, map, sym, ap}
use Rattle.planner.specs.declared.stored.Stored.{Stored}
use Rattle.warehouse_objects.specs.Represents.{said_of}
use Rattle.planned_queries.specs.Planned.{seen_of}
use Rattle.planned_queries.proofs.Cuboids.{seen_so_far}
use Rattle.planned_queries.proofs.planning.stored_in.Goals as goal
use Rattle.planned_queries.proofs.planning.stored_in.Goals.{in-Some+in_ok-push, in_default}

pub loop-cuboid-preserved : goal.loop-cuboid-preserved
loop-cuboid-preserved c = λ w rooted.
    let entries : c.cuboids-cuboids.result.now ≡ map said_of w.cuboids = c.cuboids-cuboids.ensures.value
    ∙ ap (λ r. r.cuboids) rooted in
    let next = seen_so_far w.cuboids c.cuboids-cuboids.result.now c.loop-cuboid.cuboid-index _
    c.loop-cuboid.stored.items entries c.loop-cuboid-test.true (c.loop-cuboid.invariant w rooted) in
    let seen : c.seen_of.result ≡ Some (seen_of next.0) = c.seen_of.ensures next.0 next.1 in
    elim c.match-seen_of.branch [
      | in-Some+in_ok-push b ↦
          let same : Some b.in-Some.seen ≡ Some (seen_of next.0) = sym b.in-Some.is ∙ seen in
          let is : b.in-Some.seen ≡ seen_of next.0 = cc same in
          ap (λ s. s.items) b.stored-is ∙ b.in_ok-push.ensures.items
          ∙ ap (λ (s : Stored). c.loop-cuboid.stored.items ++ s ∷ []) is ∙ next.2
      | in_default b ↦ absurd (b.in_default.not-Some _ seen)
    ]
