-- The answer of a job that was done.
use Rattle.std.proofs.Common.{◌≡◌, ℕ, Bool, true, List, Option, Result, Ok, Err}
use Rattle.std.specs.Prelude.{MatchResult}
use Rattle.sector_device.specs.declared.device.Sectors.{Ghosts}
use Rattle.cube_model.specs.declared.fault.Fault.{Fault}
use Rattle.cube_model.specs.declared.query.Query.{Query}
use Rattle.warehouse_objects.specs.Warehouse.{Warehouse}
use Rattle.warehouse.specs.declared.chosen.Chosen.{Chosen}
use Rattle.warehouse.specs.declared.session.Session.{Session}
use Rattle.warehouse_jobs.specs.Cuboids.{KeepsUp, StoresChoice}
use Rattle.warehouse_jobs.specs.Loading.{Loads}
use Rattle.warehouse_jobs.specs.Migrating.{Migrates}
use Rattle.warehouse_jobs.specs.Reporting.{Reports, Tells}

abbrev pub Says : Result Unit Fault → Result Bool Fault → Type 0
Says done result = MatchResult done (λ _. result ≡ Ok true) (λ fault. result ≡ Err fault)

module _ {D : Type 0} (g : Ghosts D) (w : Warehouse) (old new : Session D g) (before after : Option (List ℕ)) where
  pub yes-loads : (first size : ℕ) (text : Option (List ℕ)) (done : Result Unit Fault) (result : Result Bool Fault)
      → Says done result → Loads g w first size text old new before after done
      → Loads g w first size text old new before after result
  yes-loads first size text (Ok wrote) result is loads = rw is (record {
    trace = loads.trace;
    next = loads.next;
    left = loads.left;
    cut = loads.cut;
    does = loads.does;
    stay = loads.stay;
    at = loads.at;
    written = loads.written;
    ends = loads.ends;
    leaves = loads.leaves;
  })
  yes-loads first size text (Err fault) result is loads = rw is (record {
    trace = loads.trace;
    next = loads.next;
    left = loads.left;
    cut = loads.cut;
    does = loads.does;
    stay = loads.stay;
    at = loads.at;
    written = loads.written;
    ends = loads.ends;
    leaves = loads.leaves;
  })

  pub yes-reports : (as_of : Option ℕ) (query : Query) (done : Result Unit Fault) (result : Result Bool Fault)
      → Says done result → Reports g w as_of query old new before after done
      → Reports g w as_of query old new before after result
  yes-reports as_of query (Ok wrote) result is reports = rw is (record { ends = reports.ends; leaves = reports.leaves })
  yes-reports as_of query (Err fault) result is reports =
      rw is (record { ends = reports.ends; leaves = reports.leaves })

  pub yes-tells : (done : Result Unit Fault) (result : Result Bool Fault) → Says done result
      → Tells g w old new before after done → Tells g w old new before after result
  yes-tells (Ok wrote) result is tells = rw is tells
  yes-tells (Err fault) result is tells = rw is tells

  pub yes-chooses : (IsIt : List Chosen → Type 0) (refuses : Fault → Type 0) (done : Result Unit Fault)
      (result : Result Bool Fault) → Says done result
      → StoresChoice g w IsIt refuses old new before after done
      → StoresChoice g w IsIt refuses old new before after result
  yes-chooses IsIt refuses (Ok wrote) result is chooses =
      rw is (record { ends = chooses.ends; leaves = chooses.leaves })
  yes-chooses IsIt refuses (Err fault) result is chooses =
      rw is (record { ends = chooses.ends; leaves = chooses.leaves })

  pub yes-keeps : (done : Result Unit Fault) (result : Result Bool Fault) → Says done result
      → KeepsUp g w old new before after done → KeepsUp g w old new before after result
  yes-keeps (Ok wrote) result is keeps = rw is (record { ends = keeps.ends; leaves = keeps.leaves })
  yes-keeps (Err fault) result is keeps = rw is (record { ends = keeps.ends; leaves = keeps.leaves })

  pub yes-migrates : (done : Result Unit Fault) (result : Result Bool Fault) → Says done result
      → Migrates g w old new before after done → Migrates g w old new before after result
  yes-migrates (Ok wrote) result is moves = rw is (record { ends = moves.ends; leaves = moves.leaves })
  yes-migrates (Err fault) result is moves = rw is (record { ends = moves.ends; leaves = moves.leaves })
