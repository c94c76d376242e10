use Rattle.std.proofs.Common.{refl, length}
use Rattle.std.specs.List.{flat_map}
use Rattle.std.proofs.lemmas.Result.{err_from_is_err_and}
use Rattle.cube_model.specs.Places.{attr_members}
use Rattle.table_texts.specs.Members.{header_line, member_line, members_line}
use Rattle.ssb_reports.proofs.Beginnings.{Writes-on, Writes-stop, Writes-stop_after}
use Rattle.table_texts.proofs.listing.write_list.Goals as goal

pub returns-in_err-write_header : goal.returns-in_err-write_header
returns-in_err-write_header g c =
    Writes-stop _ _ _ _ (header_line c.args.attr) _ _ (err_from_is_err_and _ c.from_residual.ensures.1)
    c.in_err-write_header.ensures refl

pub returns-in_err-write_lines : goal.returns-in_err-write_lines
returns-in_err-write_lines g c =
    Writes-stop_after _ (g.W.Write.contents c.write_header.new.out) _ _ _ (header_line c.args.attr)
    (flat_map (member_line c.args.dims.now c.args.attr) (attr_members c.args.dims.now c.args.attr)) _ _
    (err_from_is_err_and _ c.from_residual-in_err-write_lines.ensures.1) c.in_ok-write_header.ensures
    c.in_err-write_lines.ensures refl

pub returns : goal.returns
returns g c =
    Writes-on _ (g.W.Write.contents c.write_header.new.out) _ _ (header_line c.args.attr) _ _
    c.in_ok-write_header.ensures
    (Writes-on _ (g.W.Write.contents c.write_lines.new.out) _ _
    (flat_map (member_line c.args.dims.now c.args.attr) (attr_members c.args.dims.now c.args.attr))
    (members_line (length (attr_members c.args.dims.now c.args.attr))) _ c.in_ok-write_lines.ensures
    (rw c.requires.count at c.write_count.ensures) refl) refl
