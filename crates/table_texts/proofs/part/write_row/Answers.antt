use Rattle.std.proofs.Common.{◌++◌, codes, refl}
use Rattle.std.specs.List.{join_with_byte}
use Rattle.std.proofs.lemmas.Result.{err_from_is_err_and}
use Rattle.ssb_reports.proofs.Beginnings.{Writes-on, Writes-stop}
use Rattle.table_texts.proofs.part.write_row.Goals as goal

pub returns-in_err-write_joined : goal.returns-in_err-write_joined
returns-in_err-write_joined g c =
    Writes-stop _ _ _ _ (join_with_byte 124 (g.F.Fields.texts c.args.fields.now ++ g.G.Fields.texts c.args.others.now))
    (codes "\n") _
    (err_from_is_err_and _ c.from_residual.ensures.1) c.in_err-write_joined.ensures refl

pub returns : goal.returns
returns g c =
    Writes-on _ _ _ _ (join_with_byte 124 (g.F.Fields.texts c.args.fields.now ++ g.G.Fields.texts c.args.others.now))
    (codes "\n") _
    c.in_ok-write_joined.ensures c.write_bytes.ensures refl
