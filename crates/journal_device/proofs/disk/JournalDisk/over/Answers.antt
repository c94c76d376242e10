use Rattle.std.proofs.Common.{◌∙◌, ap, subst, sym, List, length, All}
use Rattle.std.proofs.lemmas.List.Elements.{All-nil}
use Rattle.journal_device.specs.Calls.{IsWithin}
use Rattle.sector_device.specs.EventRuns.{sectors_in}
use Rattle.journal_device.specs.After.{CallsAreWhole}
use Rattle.journal_device.specs.declared.call.Call.{Call}
use Rattle.journal_device.proofs.DiskLemmas.{agrees_at_first, whole_at_first}
use Rattle.journal_device.proofs.disk.JournalDisk.over.Goals as goal

pub invariant_of-result : goal.invariant_of-result
invariant_of-result g c =
    let image = g.O.Origin.image in record {
      over = c.in_ok-under.ensures.sectors ∙ ap sectors_in c.requires.origin;
      agrees = agrees_at_first image c.new-2.result.items c.new.result.entries c.new-2.ensures.items
          c.new.ensures.empty;
      whole = subst (CallsAreWhole image) (sym c.new-2.ensures.items) (whole_at_first image);
      within = subst (λ (l : List Call). All (IsWithin (length (sectors_in image))) l) (sym c.new-2.ensures.items)
          (All-nil (IsWithin (length (sectors_in image))));
    }
