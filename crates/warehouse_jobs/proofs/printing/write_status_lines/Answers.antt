use Rattle.std.proofs.Common.{rules, ◌++◌, refl, codes}
use Rattle.std.specs.List.{flat_map}
use Rattle.std.proofs.lemmas.Result.{err_from_is_err_and}
use Rattle.ssb_reports.proofs.Beginnings.{Writes-on, Writes-stop, Writes-stop_after}
use Rattle.warehouse_jobs.specs.Printed.{counts_text, named_line, place_text}
use Rattle.warehouse_jobs.proofs.printing.write_status_lines.Goals as goal

pub returns-in_err-write_counts : goal.returns-in_err-write_counts
returns-in_err-write_counts g c =
    let status = c.args.status.now in
    let places = flat_map place_text status.cuboids in
    Writes-stop _ (g.W.Write.contents c.write_counts.new.out) _ _ (counts_text status.batches status.additions)
    (named_line (codes "rows ") status.rows
    ++ (named_line (codes "target ") status.target
    ++ (named_line (codes "generation ") status.generation ++ places))) _
    (err_from_is_err_and _ c.from_residual.ensures.1) (search rules) refl

pub returns-in_err-write_named : goal.returns-in_err-write_named
returns-in_err-write_named g c =
    let status = c.args.status.now in
    let places = flat_map place_text status.cuboids in
    Writes-stop_after _ (g.W.Write.contents c.write_counts.new.out) _ _ _ (counts_text status.batches status.additions)
    (named_line (codes "rows ") status.rows)
    (named_line (codes "target ") status.target ++ (named_line (codes "generation ") status.generation ++ places)) _
    (err_from_is_err_and _ c.from_residual-in_err-write_named.ensures.1) (search rules) (search rules) refl

pub returns-in_err-write_named-2 : goal.returns-in_err-write_named-2
returns-in_err-write_named-2 g c =
    let status = c.args.status.now in
    let places = flat_map place_text status.cuboids in
    Writes-on _ (g.W.Write.contents c.write_counts.new.out) _ _ (counts_text status.batches status.additions)
    (named_line (codes "rows ") status.rows
    ++ (named_line (codes "target ") status.target
    ++ (named_line (codes "generation ") status.generation ++ places))) _ (search rules)
    (Writes-stop_after _ (g.W.Write.contents c.write_named.new.out) _ _ _ (named_line (codes "rows ") status.rows)
    (named_line (codes "target ") status.target)
    (named_line (codes "generation ") status.generation ++ places) _
    (err_from_is_err_and _ c.from_residual-in_err-write_named-2.ensures.1) (search rules) (search rules) refl) refl

pub returns-in_err-write_named-3 : goal.returns-in_err-write_named-3
returns-in_err-write_named-3 g c =
    let status = c.args.status.now in
    let places = flat_map place_text status.cuboids in
    Writes-on _ (g.W.Write.contents c.write_counts.new.out) _ _ (counts_text status.batches status.additions)
    (named_line (codes "rows ") status.rows
    ++ (named_line (codes "target ") status.target
    ++ (named_line (codes "generation ") status.generation ++ places))) _ (search rules)
    (Writes-on _ (g.W.Write.contents c.write_named.new.out) _ _ (named_line (codes "rows ") status.rows)
    (named_line (codes "target ") status.target ++ (named_line (codes "generation ") status.generation ++ places)) _
    (search rules)
    (Writes-stop_after _ (g.W.Write.contents c.write_named-2.new.out) _ _ _
    (named_line (codes "target ") status.target) (named_line (codes "generation ") status.generation)
    places _ (err_from_is_err_and _ c.from_residual-in_err-write_named-3.ensures.1) (search rules) (search rules) refl)
    refl) refl

pub returns : goal.returns
returns g c =
    let status = c.args.status.now in
    let places = flat_map place_text status.cuboids in
    Writes-on _ (g.W.Write.contents c.write_counts.new.out) _ _ (counts_text status.batches status.additions)
    (named_line (codes "rows ") status.rows
    ++ (named_line (codes "target ") status.target
    ++ (named_line (codes "generation ") status.generation ++ places))) _ (search rules)
    (Writes-on _ (g.W.Write.contents c.write_named.new.out) _ _ (named_line (codes "rows ") status.rows)
    (named_line (codes "target ") status.target ++ (named_line (codes "generation ") status.generation ++ places)) _
    (search rules)
    (Writes-on _ (g.W.Write.contents c.write_named-2.new.out) _ _ (named_line (codes "target ") status.target)
    (named_line (codes "generation ") status.generation ++ places) _ (search rules)
    (Writes-on _ (g.W.Write.contents c.write_named-3.new.out) _ _ (named_line (codes "generation ") status.generation)
    places _ c.in_ok-write_named-3.ensures c.write_places.ensures refl) refl) refl) refl
