use Rattle.std.proofs.Common.{◌∙◌, ap, refl, Some}
use Rattle.stored_rows.proofs.AmongLemmas.{has-supplier, on_true}
use Rattle.stored_rows.proofs.among.SupplierRowKnownRow.is_in.Goals as goal

pub returns-clause-yes : goal.returns-clause-yes
returns-clause-yes c =
    on_true c.has_text-3.result (λ yes. has-supplier c.args.dims.now c.args.self.now
    (c.if-not-has_text.ensures.0 refl ∙ ap Some c.as_slice.ensures)
    (c.if-not-has_text-2.ensures.0 refl ∙ ap Some c.as_slice-2.ensures)
    (c.has_text-3.ensures.0 yes ∙ ap Some c.as_slice-3.ensures))
