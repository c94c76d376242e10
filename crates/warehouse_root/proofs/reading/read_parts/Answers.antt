use Rattle.std.proofs.Common.{List, ℕ, subst}
use Rattle.warehouse_root.specs.Reading.{ReadsFront}
use Rattle.warehouse_root.proofs.ReadingLemmas.{parts_of_bytes}
use Rattle.warehouse_root.proofs.reading.read_parts.Goals as goal

pub returns-clause-ok : goal.returns-clause-ok
returns-clause-ok c =
    let front =
    subst (λ (bytes : List ℕ). ReadsFront bytes c.read_front.new.cursor c.in_ok-counts.counts c.in_ok-counts.totals)
    c.new-cursor.ensures c.in_ok-counts.ensures.ok in
    parts_of_bytes c.args.bytes.now _ _ _ c.in_ok-counts.counts c.in_ok-counts.totals _ _ front
    c.in_ok-batches.ensures.ok c.in_ok-cuboids.ensures.ok
