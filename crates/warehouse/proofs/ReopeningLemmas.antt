-- What is found by opening after a crash.
use Rattle.std.proofs.Common.{◌≡◌, ◌⊎◌, ⊎_elim, None, Some, Option, List, take, slice_get, sym, subst}
use Rattle.sector_device.specs.declared.device.Sectors.{Ghosts}
use Rattle.warehouse_objects.specs.Facts.{AddsChange, Change, Facts, facts_in}
use Rattle.warehouse_objects.specs.Warehouse.{Warehouse}
use Rattle.warehouse.specs.declared.command.Command.{Command}
use Rattle.warehouse.specs.declared.command.Reply.{Reply}
use Rattle.warehouse.specs.Found.{MayBeFound}
use Rattle.warehouse.specs.Headline.{IsFoundAfter, IsLeftByCrash, acknowledged_all, submitted}

-- what is found without a change has the facts
same_found : (facts : Facts) (now : Warehouse) → MayBeFound facts None now → facts_in now ≡ facts
same_found facts now =
    ⊎_elim {C = facts_in now ≡ facts}
    (λ same. same)
    (λ more. let never : Option.None ≡ Some more.0 = more.1 in absurd cc)

pub left_by_crash : {D : Type 0} (g : Ghosts D) (w v now : Warehouse) (earlier later : List Command)
    (replies others : List Reply) (device : D)
    → facts_in v ≡ acknowledged_all (facts_in w) earlier replies → (stop : IsFoundAfter g v later others device)
    → MayBeFound (facts_in stop.found) None now
    → IsLeftByCrash w earlier later replies others now
left_by_crash g w v now earlier later replies others device before stop may =
    let last = submitted (slice_get later stop.done) in
    let same = same_found (facts_in stop.found) now may in record {
      done = stop.done;
      within = stop.within;
      may = subst
          (λ (facts : Facts). MayBeFound (acknowledged_all facts (take stop.done later) (take stop.done others)) last
          now) before
          (subst (λ (found : Facts).
          (found ≡ acknowledged_all (facts_in v) (take stop.done later) (take stop.done others))
          ⊎ ((change : Change) × (last ≡ Some change)
          × AddsChange (acknowledged_all (facts_in v) (take stop.done later) (take stop.done others)) change found))
          (sym same) stop.may);
    }
