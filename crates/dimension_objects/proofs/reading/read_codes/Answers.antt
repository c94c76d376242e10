use Rattle.std.proofs.Common.{subst, sym, List, ℕ}
use Rattle.dimension_objects.specs.Columns.{ReadsCodes}
use Rattle.dimension_objects.proofs.ReadingLemmas.{codes_in_front}
use Rattle.dimension_objects.proofs.reading.read_codes.Goals as goal

pub returns-clause-ok : goal.returns-clause-ok
returns-clause-ok c =
    subst (λ (list : List ℕ). ReadsCodes c.args.count c.args.cursor.now c.bytes.new.self list) (sym c.from_vec.ensures)
    (codes_in_front c.args.count _ c.args.cursor.now c.bytes.new.self _ c.in_ok-codes.codes.items
    c.in_ok-part.ensures.value c.in_ok-codes.ensures)
