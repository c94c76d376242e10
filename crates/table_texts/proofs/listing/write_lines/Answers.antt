use Rattle.std.proofs.Common.{◌<◌, [], length, get_or, subst}
use Rattle.std.proofs.lemmas.Result.{err_from_is_err_and}
use Rattle.std.proofs.lemmas.List.{get_or_default}
use Rattle.cube_model.specs.Places.{attr_members}
use Rattle.ssb_reports.proofs.Beginnings.{Writes-stop_after}
use Rattle.ssb_reports.proofs.Rows.{flat_map-around}
use Rattle.table_texts.specs.Members.{member_line}
use Rattle.table_texts.proofs.ListingLemmas.{Appends-next}
use Rattle.table_texts.proofs.listing.write_lines.Goals as goal

pub returns-in_err-write_line : goal.returns-in_err-write_line
returns-in_err-write_line g c =
    let members = attr_members c.args.dims.now c.args.attr in
    let within : c.loop-rank.rank < length members =
    subst (λ count. c.loop-rank.rank < count) c.members-rank-end.ensures.count c.loop-rank-test.true in
    Writes-stop_after _ _ _ _ _ _ _ _ _ (err_from_is_err_and _ c.from_residual.ensures.1) c.loop-rank.invariant
    c.in_err-write_line.ensures
    (flat_map-around (member_line c.args.dims.now c.args.attr) members c.loop-rank.rank
    (get_or members c.loop-rank.rank []) within (get_or_default members c.loop-rank.rank _ _ within))

pub loop-rank-preserved : goal.loop-rank-preserved
loop-rank-preserved g c =
    let members = attr_members c.args.dims.now c.args.attr in
    let within : c.loop-rank.rank < length members =
    subst (λ count. c.loop-rank.rank < count) c.members-rank-end.ensures.count c.loop-rank-test.true in
    Appends-next (member_line c.args.dims.now c.args.attr) members c.loop-rank.rank [] _ _ _ within
    c.loop-rank.invariant c.in_ok-write_line.ensures
