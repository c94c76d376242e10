use Rattle.std.proofs.Common.{None, subst, sym}
use Rattle.cube_model.specs.declared.fault.Fault.{Fault}
use Rattle.c_library.specs.Loading.{LoadRefuses, LoadsOn}
use Rattle.warehouse.specs.Session.{device_of}
use Rattle.c_library.proofs.LoadingLemmas.{loads_on, not_opened, refuses}
use Rattle.c_library.proofs.loading.load_on.Goals as goal

pub returns-in-Err-clause-refused : goal.returns-in-Err-clause-refused
returns-in-Err-clause-refused g c keeps facts shows =
    subst (λ (f : Fault). LoadRefuses facts c.args.first c.args.rows c.args.lineorder.now f) (sym c.named.ensures)
    (not_opened facts c.args.first c.args.rows c.args.lineorder.now c.in-Err.fault
    (c.in-Err.ensures.refused.never facts None shows (keeps c.in-Err.field-0-1)))

pub returns-in-Ok-perform-clause-loads : goal.returns-in-Ok-perform-clause-loads
returns-in-Ok-perform-clause-loads g c keeps facts shows =
    let found = c.in-Ok.ensures.ok facts None shows (keeps (device_of c.in-Ok.session)) in
    subst (λ (d : g.row.D.Denot). LoadsOn g.D.Sectors facts c.args.first c.args.rows c.args.lineorder.now c.args.device
    d) (sym c.close.ensures)
    (loads_on g.D.Sectors facts found.0 c.args.first c.args.rows c.args.lineorder.now c.args.device c.in-Ok.session
    c.perform.new.session found.1 _ _
    c.load_holds_its_batches.ensures (c.in-Ok.ensures.leaves facts None shows)
    (c.in-Ok-perform.ensures.performs found.0 found.3 (keeps (device_of c.perform.new.session))))

pub returns-in-Err-perform-clause-refused : goal.returns-in-Err-perform-clause-refused
returns-in-Err-perform-clause-refused g c keeps facts shows =
    let found = c.in-Ok.ensures.ok facts None shows (keeps (device_of c.in-Ok.session)) in
    subst (λ (f : Fault). LoadRefuses facts c.args.first c.args.rows c.args.lineorder.now f)
    (sym c.named-in-Err-perform.ensures)
    (refuses g.D.Sectors facts found.0 c.args.first c.args.rows c.args.lineorder.now c.args.device c.in-Ok.session
    c.perform.new.session found.1 _ _
    (c.in-Err-perform.ensures.performs found.0 found.3 (keeps (device_of c.perform.new.session))))
