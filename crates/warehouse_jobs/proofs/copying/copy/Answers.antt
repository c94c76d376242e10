use Rattle.std.proofs.Common.{◌≡◌, true, false, ⊎_elim, inl, sym, subst, ◌∙◌}
use Rattle.cube_model.specs.declared.fault.Fault.TheVariants.{Memory}
use Rattle.object_store.specs.Disk.{ShowsSomeOrNone, disk}
use Rattle.object_store.proofs.Moments.{begins}
use Rattle.sector_device.specs.Device.{IsImage}
use Rattle.warehouse_objects.specs.Warehouse.{Warehouse}
use Rattle.warehouse.specs.Session.{IsAt}
use Rattle.warehouse_jobs.specs.Copied.{HoldsPart}
use Rattle.warehouse_jobs.proofs.CopyingLemmas.{back_leaves, back_spared, back_word, filling_leaves, fresh_first}
use Rattle.warehouse_jobs.proofs.CopyingLemmas.{making_leaves}
use Rattle.warehouse_jobs.proofs.CopyCauses.{is_fault, of_making}
use Rattle.warehouse_jobs.proofs.copying.copy.Goals as goal

pub returns-in-Err-clause-leaves_err : goal.returns-in-Err-clause-leaves_err
returns-in-Err-clause-leaves_err g c w from k blank =
    begins (ShowsSomeOrNone (HoldsPart w)) (disk g.E.Sectors c.args.device)
    (λ word image. g.met.E.Sectors.only_now c.args.device image word) (λ word image is. inl (blank word image is))

pub returns-in-Err-clause-spared : goal.returns-in-Err-clause-spared
returns-in-Err-clause-spared g c some =
    begins (λ _ image. IsImage (g.E.Sectors.state c.args.device) image) (disk g.E.Sectors c.args.device)
    (λ word image. g.met.E.Sectors.only_now c.args.device image word) (λ word image is. is)

pub returns-in-Err-clause-causes : goal.returns-in-Err-clause-causes
returns-in-Err-clause-causes g c w from k word =
    ⊎_elim (λ memory. is_fault c.in-Err.fault Memory tt memory) (λ failed. let no : true ≡ false = sym failed.1
    ∙ from.fine in absurd cc) c.in-Err.ensures.refused

pub returns-in-Err-create_as-clause-leaves_err : goal.returns-in-Err-create_as-clause-leaves_err
returns-in-Err-create_as-clause-leaves_err g c w from k blank =
    making_leaves w c.layout-layout.result c.in-Ok.dims (c.layout-layout.ensures w from k) (c.in-Ok.ensures.ok w from k)
    _ _ (c.in-Err-create_as.ensures.refused.leaves blank)

pub returns-in-Err-create_as-clause-causes : goal.returns-in-Err-create_as-clause-causes
returns-in-Err-create_as-clause-causes g c w from k word = of_making _ c.in-Err-create_as.ensures.refused.causes

pub returns-in-Ok-copy_into-clause-ok : goal.returns-in-Ok-copy_into-clause-ok
returns-in-Ok-copy_into-clause-ok g c w from k =
    let word = c.copy_into.ensures.from_word k in
    let begun =
    subst (λ (v : Warehouse). IsAt g.E.Sectors c.in-Ok-create_as.session v)
    (fresh_first w c.layout-layout.result c.in-Ok.dims (c.layout-layout.ensures w from word)
    (c.in-Ok.ensures.ok w from word)) c.in-Ok-create_as.ensures.ok.at in
    c.in-Ok-copy_into.ensures.ok w from begun k

pub returns-in-Ok-copy_into-clause-leaves : goal.returns-in-Ok-copy_into-clause-leaves
returns-in-Ok-copy_into-clause-leaves g c w from k blank =
    let word = c.copy_into.ensures.from_word k in
    let same = c.in-Ok.ensures.ok w from word in
    let alike = c.layout-layout.ensures w from word in
    let begun =
    subst (λ (v : Warehouse). IsAt g.E.Sectors c.in-Ok-create_as.session v)
    (fresh_first w c.layout-layout.result c.in-Ok.dims alike same)
    c.in-Ok-create_as.ensures.ok.at in
    filling_leaves w c.layout-layout.result c.in-Ok.dims alike same _ _ _ (c.in-Ok-create_as.ensures.ok.leaves blank)
    (c.copy_into.ensures.leaves w from begun k)

pub returns-in-Ok-copy_into-clause-unformatted : goal.returns-in-Ok-copy_into-clause-unformatted
returns-in-Ok-copy_into-clause-unformatted g c word =
    c.in-Ok-create_as.ensures.ok.unformatted (c.copy_into.ensures.word word)

pub returns-in-Err-copy_into-clause-leaves_err : goal.returns-in-Err-copy_into-clause-leaves_err
returns-in-Err-copy_into-clause-leaves_err g c w from k blank =
    let word = c.copy_into.ensures.from_word k in
    let same = c.in-Ok.ensures.ok w from word in
    let alike = c.layout-layout.ensures w from word in
    let begun =
    subst (λ (v : Warehouse). IsAt g.E.Sectors c.in-Ok-create_as.session v)
    (fresh_first w c.layout-layout.result c.in-Ok.dims alike same)
    c.in-Ok-create_as.ensures.ok.at in
    back_leaves g.E.Sectors c.args.device c.close.result _ c.close.ensures (HoldsPart w)
    (filling_leaves w c.layout-layout.result c.in-Ok.dims alike same _ _ _ (c.in-Ok-create_as.ensures.ok.leaves blank)
    (c.copy_into.ensures.leaves w from begun k))

pub returns-in-Err-copy_into-clause-spared : goal.returns-in-Err-copy_into-clause-spared
returns-in-Err-copy_into-clause-spared g c =
    back_spared g.E.Sectors c.args.device c.close.result _ c.close.ensures
    (λ word. c.in-Ok-create_as.ensures.ok.unformatted (c.copy_into.ensures.word word))

pub returns-in-Err-copy_into-clause-causes : goal.returns-in-Err-copy_into-clause-causes
returns-in-Err-copy_into-clause-causes g c w from k word =
    let same = c.in-Ok.ensures.ok w from (c.copy_into.ensures.from_word k) in
    let alike = c.layout-layout.ensures w from (c.copy_into.ensures.from_word k) in
    let begun =
    subst (λ (v : Warehouse). IsAt g.E.Sectors c.in-Ok-create_as.session v)
    (fresh_first w c.layout-layout.result c.in-Ok.dims alike same)
    c.in-Ok-create_as.ensures.ok.at in
    c.in-Err-copy_into.ensures.refused w from begun k
    (back_word g.E.Sectors c.args.device c.close.result _ c.close.ensures word)

pub returns-in-Ok-copy_into-clause-from_stays : goal.returns-in-Ok-copy_into-clause-from_stays
returns-in-Ok-copy_into-clause-from_stays g c w from = c.in-Ok-copy_into.ensures.from_stays (λ is. cc) w from

pub returns-in-Err-copy_into-clause-from_stays_err : goal.returns-in-Err-copy_into-clause-from_stays_err
returns-in-Err-copy_into-clause-from_stays_err g c other w from =
    c.in-Err-copy_into.ensures.from_stays (λ is. other (cc is)) w from
