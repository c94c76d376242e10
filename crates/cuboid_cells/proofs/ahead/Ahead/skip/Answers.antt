use Rattle.std.proofs.Common.{◌≡◌, ◌∙◌, ℕ, ◌+◌, ◌-◌, ◌≤◌, List, length, take, drop, sym, ap, arith}
use Rattle.std.proofs.lemmas.Grind.{common_steps}
use Rattle.std.proofs.lemmas.List.{drop-drop, drop-take}
use Rattle.cuboid_cells.proofs.ahead.Ahead.skip.Goals as goal

short : (n count : ℕ) (xs : List ℕ) → count ≤ length (take n xs) → count ≤ n
short n count xs within = grind (arith, common_steps)

pub returns : goal.returns
returns c =
    let a = c.self.inside in
    let n : ℕ = c.args.count in
    let all : List ℕ = a.bytes.items in
    let size : ℕ = a.to - a.from in
    let inside : n ≤ size = short size n (drop a.from all) (omega (arith, c.requires, ap length c.self.view_is)) in
    let less : a.to - (a.from + n) ≡ size - n = omega arith in
    let cut : n + (size - n) ≡ size = omega (arith, inside) in
    ap (λ (m : ℕ). take m (drop (a.from + n) all)) less
    ∙ ap (λ (rest : List ℕ). take (size - n) rest) (sym (drop-drop n a.from all))
    ∙ sym (drop-take n (size - n) (drop a.from all))
    ∙ ap (λ (m : ℕ). drop n (take m (drop a.from all))) cut
    ∙ ap (drop n) c.self.view_is
