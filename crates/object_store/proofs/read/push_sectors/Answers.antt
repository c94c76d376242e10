use Rattle.std.proofs.Common.{◌∙◌, ℕ, List, ◌++◌, ◌*◌, ◌+◌, ◌-◌, ◌≡◌, length, take, drop, replicate, ap, arith}
use Rattle.std.proofs.Common.{length-append, length-drop}
use Rattle.std.proofs.lemmas.List.{take_all, take_at, length-take-le}
use Rattle.std.proofs.lemmas.Grind.{common_steps}
use Rattle.std.proofs.lemmas.Result.{on_ok_weaker}
use Rattle.std.specs.Vec.{vec_len}
use Rattle.object_store.proofs.Pieces.{after, run_is}
use Rattle.object_store.proofs.read.push_sectors.Goals as goal

pub returns-clause-bytes : goal.returns-clause-bytes
returns-clause-bytes g c =
    let old = c.args.to.now.items in
    let at = c.len-at.result in
    let n = c.args.n in
    let all = c.deref_mut.result.now in
    let new = c.read_run.new.to in
    let room = c.resize.new.self.items in
    let more : ℕ = at + n * 512 in
    let zeros : List ℕ = replicate (more - vec_len c.args.to.now) 0 in
    let resized : room ≡ take more old ++ zeros = rw (c.unwrap.ensures) at c.resize.ensures.items in
    let long : vec_len c.resize.new.self ≡ more = rw (c.unwrap.ensures) at c.resize.ensures.len in
    let here : at ≡ length old = grind (arith, common_steps, c.len-at.ensures) in
    let is : all ≡ old ++ zeros = c.deref_mut.ensures.value ∙ resized
    ∙ ap (λ (l : List ℕ). l ++ zeros) (take_all more old (omega (arith, here))) in
    let many : length all ≡ more = c.deref_mut.ensures.len ∙ long in
    let whole : length new ≡ n * 512 = c.read_run.auto.to
    ∙ length-take-le (length all - at) (drop at all) (omega (arith, length-drop at all)) ∙ omega (arith, many) in
    on_ok_weaker c.read_run.result (λ bytes w.
    ap (λ (l : List ℕ). take c.resize.new.self.len (l ++ drop (length l) room)) (after at old zeros all new here is)
    ∙ take_at (old ++ new) (drop (length (old ++ new)) room) c.resize.new.self.len
    (omega (arith, length-append old new, here, whole, long))
    ∙ ap (λ (l : List ℕ). old ++ l)
    (run_is n new (g.D.Sectors.state c.args.device.now).reads c.args.first whole
    (λ k lt. bytes w k (omega (arith, lt, whole))))) c.read_run.ensures.bytes
