use Rattle.std.proofs.Common.{◌≡◌, ℕ, List, Ok, subst, sym}
use Rattle.batch_loader.specs.Lines.{lines_of}
use Rattle.batch_loader.specs.Rows.{rows_of}
use Rattle.batch_loader.specs.Tables.{lineorder_row}
use Rattle.table_texts.proofs.LawsLemmas.{facts-read_back}
use Rattle.batch_loader.proofs.LawsLemmas.{fields_are_spelled, lines_are_spelled}
use Rattle.warehouse_jobs.proofs.dump_laws.dumps_read_back.Goals as goal

pub returns : goal.returns
returns c rows text number written =
    subst (λ (bytes : List ℕ). rows_of lineorder_row number (lines_of bytes) ≡ Ok rows) (sym written.lines)
    (facts-read_back lines_are_spelled fields_are_spelled number rows written.spellable)
