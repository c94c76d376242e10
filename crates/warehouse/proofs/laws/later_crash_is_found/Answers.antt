use Rattle.warehouse.specs.Running.{none_running}
use Rattle.warehouse.proofs.LawsLemmas.{stopped_amid, ends_at}
use Rattle.warehouse.proofs.laws.later_crash_is_found.Goals as goal

pub returns : goal.returns
returns g c w v slots earlier later replies others device crash =
    let here = ends_at g.D.Sectors crash.old crash.mid w v none_running slots earlier replies
    crash.began crash.first in (
      here.0,
      stopped_amid g.D.Sectors g.met.D.Sectors.only_now crash.mid crash.new v slots later others crash.after here.1
          crash.then_ran crash.word crash.image crash.left device crash.restarted,
    )
