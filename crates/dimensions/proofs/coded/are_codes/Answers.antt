use Rattle.std.proofs.Common.{◌≡◌, ◌==◌, ◌∙◌, ℕ, List, false, ap, drop, sym, arith}
use Rattle.std.proofs.lemmas.Grind.{common_steps}
use Rattle.dictionary.proofs.CodeOrder.{all_used, in_order, in_order_is}
use Rattle.dimensions.proofs.coded.are_codes.Goals as goal

pub returns-then-next-count : goal.returns-then-next-count
returns-then-next-count c =
    let count = c.args.count in
    let left : List ℕ = c.split_at.result.1.now in
    in_order_is count c.args.codes.now c.are_below.result
    (c.loop-i.invariant ∙ ap (λ (n : ℕ). in_order count n (drop c.loop-i.i c.args.codes.now)) c.if-next-count.true
    ∙ sym (ap (λ (l : List ℕ). in_order count count l) c.split_at.ensures.back)
    ∙ all_used count left ∙ sym c.are_below.ensures)

pub returns-then-code-next : goal.returns-then-code-next
returns-then-code-next c =
    let out : false ≡ in_order c.args.count 0 c.args.codes.now = grind (arith, common_steps) in
    in_order_is c.args.count c.args.codes.now false (sym out)

pub returns : goal.returns
returns c =
    let all : (c.loop-i.next == c.args.count) ≡ in_order c.args.count 0 c.args.codes.now =
    grind (arith, common_steps) in
    in_order_is c.args.count c.args.codes.now _ (sym all)
