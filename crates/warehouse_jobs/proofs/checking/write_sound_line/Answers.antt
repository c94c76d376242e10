use Rattle.std.proofs.Common.{rules, ◌≡◌, subst, List, ℕ, ◌++◌, codes}
use Rattle.std.specs.Fmt.{decimal}
use Rattle.ssb_reports.specs.Writing.{Writes}
use Rattle.warehouse_jobs.proofs.checking.write_sound_line.Goals as goal

pub returns : goal.returns
returns g c =
    let batches : c.as_bytes.result.now ≡ decimal c.args.batches = search rules in
    let rows : c.as_bytes-2.result.now ≡ decimal c.args.rows = search rules in
    let cuboids : c.as_bytes-3.result.now ≡ decimal c.args.cuboids = search rules in
    subst (λ (bytes : List ℕ). Writes (g.W.Write.contents c.args.out.now) (g.W.Write.contents c.write_parts.new.out)
    c.write_parts.result bytes)
    (λ i. codes "ok: batches "
    ++ (batches i ++ (codes ", rows " ++ (rows i ++ (codes ", cuboids " ++ (cuboids i ++ codes "\n"))))))
    c.write_parts.ensures
