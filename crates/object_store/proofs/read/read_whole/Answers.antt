use Rattle.std.proofs.Common.{◌∙◌, ℕ, List, ◌++◌, ◌*◌, ◌/◌, ◌≡◌, length, drop, ap, arith}
use Rattle.std.proofs.lemmas.List.{length-take-le}
use Rattle.object_store.proofs.Pieces.{run_is}
use Rattle.object_store.proofs.read.read_whole.Goals as goal

pub returns-clause-bytes : goal.returns-clause-bytes
returns-clause-bytes g c w =
    let to = c.args.to.now in
    let n : ℕ = length to / 512 in
    let long : length c.read_run.new.to ≡ n * 512 = c.read_run.auto.to ∙ length-take-le (n * 512) to (omega arith) in
    ap (λ (l : List ℕ). l ++ drop (n * 512) to)
    (run_is n c.read_run.new.to (g.D.Sectors.state c.args.device.now).reads c.args.first long
    (λ k lt. c.in_ok-read_run.ensures.bytes w k (omega (arith, lt, long))))
