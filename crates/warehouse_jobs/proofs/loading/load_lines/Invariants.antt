use Rattle.std.proofs.Common.{◌≡◌, ℕ, List, length, Option, None}
use Rattle.std.specs.Prelude.{IfSome}
use Rattle.std.specs.Io.KnownBytes.{Keeps}
use Rattle.ssb_eval.specs.Tables.{IsInNoRow}
use Rattle.warehouse_objects.specs.Warehouse.{Warehouse}
use Rattle.warehouse.specs.Session.{device_of, IsAt}
use Rattle.warehouse_jobs.specs.Loading.{Done}
use Rattle.warehouse_jobs.proofs.LoadingLemmas.{IsThrough}
use Rattle.warehouse_jobs.proofs.loading.load_lines.Given as goal

abbrev pub invariant-loop-done : goal.invariant-loop-done
invariant-loop-done g l = record {
  fault : l.lines.fault ≡ None;
  word : g.D.Sectors.keeps_word (device_of l.session) → g.D.Sectors.keeps_word (device_of l.initial.session);
  through : (w : Warehouse) (text : Option (List ℕ)) → IsAt g.D.Sectors l.initial.session w
      → Keeps text l.initial.lines.left → l.initial.lines.number ≡ 0 → g.D.Sectors.keeps_word (device_of l.session)
      → (trace : List (Done g.D.Sectors)) × (length trace ≡ l.done)
      × IsThrough g.D.Sectors w l.first l.size text l.initial.session l.session (g.W.Write.contents l.initial.out)
      (g.W.Write.contents l.out) l.lines trace;
  unknown : (w : Warehouse) → IsAt g.D.Sectors l.initial.session w → g.D.Sectors.keeps_word (device_of l.session)
      → l.initial.lines.number ≡ 0
      → l.initial.kept.unknown ≡ None → IfSome l.kept.unknown (IsInNoRow w.rows);
}
