use Rattle.std.proofs.Common.{ℕ, refl, subst, inr}
use Rattle.column_segment.specs.Segment.{IsSegment}
use Rattle.warehouse_objects.proofs.Folded.{other_rows}
use Rattle.warehouse_objects.proofs.folding.decoded_batch.Goals as goal

pub returns-then-not-is_batch-clause-refused : goal.returns-then-not-is_batch-clause-refused
returns-then-not-is_batch-clause-refused c =
    inr (
      refl,
      other_rows c.args.bytes.items c.args.number c.args.count c.in_ok-segment.segment.number
          c.in_ok-segment.segment.rows c.in_ok-segment.ensures.ok
          (λ numbered many. let yes = c.is_batch.ensures.1 (numbered, many) in
          absurd (cc (yes, c.if-not-is_batch.true))),
    )

pub returns-clause-ok : goal.returns-clause-ok
returns-clause-ok c =
    subst (λ (n : ℕ). IsSegment c.args.bytes.items n c.in_ok-segment.segment.rows)
    (c.is_batch.ensures.0 c.if-not-is_batch.false).0 c.in_ok-segment.ensures.ok
