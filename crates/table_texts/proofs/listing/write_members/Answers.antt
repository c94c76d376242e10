use Rattle.std.proofs.Common.{Err, inl, inr, ◌∙◌, ap}
use Rattle.std.proofs.lemmas.Result.{err_from_is_err_and}
use Rattle.std.proofs.KnownBytes.{Keeps-refl}
use Rattle.table_texts.proofs.listing.write_members.Goals as goal

pub returns : goal.returns
returns g c = inr c.write_list.ensures

pub returns-in_err-tallies : goal.returns-in_err-tallies
returns-in_err-tallies g c =
    let stop = err_from_is_err_and _ c.from_residual.ensures.1 in
    inl (stop.1 ∙ ap Err (stop.2 ∙ c.in_err-tallies.ensures.err), Keeps-refl _)
