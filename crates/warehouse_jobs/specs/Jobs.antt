-- What each job does. Our own.
use Rattle.std.specs.Prelude.{ℕ, List, Option, Result}
use Rattle.sector_device.specs.declared.device.Sectors.{Ghosts}
use Rattle.cube_model.specs.declared.fault.Fault.{Fault}
use Rattle.warehouse_objects.specs.Warehouse.{Warehouse}
use Rattle.warehouse.specs.declared.session.Session.{Session}
use Rattle.warehouse_jobs.specs.declared.job.Job.{Job}
use Rattle.warehouse_jobs.specs.declared.job.Job.TheVariants.{Load, Report, Status, Choose, ChooseFor, Upkeep, Audit}
use Rattle.warehouse_jobs.specs.declared.job.Job.TheVariants.{Migrate}
use Rattle.warehouse_jobs.specs.Cuboids.{Audits, Chooses, ChoosesFor, KeepsUp}
use Rattle.warehouse_jobs.specs.Loading.{Loads}
use Rattle.warehouse_jobs.specs.Migrating.{Migrates}
use Rattle.warehouse_jobs.specs.Reporting.{Reports, Tells}

-- what a job on a warehouse does. What its reader holds is a text, or it is not known
abbrev pub Performs : {D A : Type 0} (g : Ghosts D) → Warehouse → Option (List ℕ) → Job → (old new : Session D g)
    → (before after : Option (List ℕ)) → Result A Fault → Type 0
Performs g w text (Load first rows) old new before after result = Loads g w first rows text old new before after result
Performs g w text (Report as_of query) old new before after result = Reports g w as_of query old new before after result
Performs g w text Status old new before after result = Tells g w old new before after result
Performs g w text (Choose k) old new before after result = Chooses g w k old new before after result
Performs g w text (ChooseFor k demanded) old new before after result =
    ChoosesFor g w demanded.items k old new before after result
Performs g w text Upkeep old new before after result = KeepsUp g w old new before after result
Performs g w text Audit old new before after result = Audits g w old new before after result
Performs g w text Migrate old new before after result = Migrates g w old new before after result

-- a job whose answer may be no
abbrev pub MayAnswerNo : Job → Type 0
MayAnswerNo Audit = Unit {0}
MayAnswerNo _ = ⊥
