use Rattle.std.proofs.Common.{◌≡◌, ◌≢◌, ◌∙◌, ◌+◌, ◌+ℤ◌, sym, ap, arith, rules, false, cond}
use Rattle.std.specs.Prelude.{◌==◌}
use Rattle.std.specs.Int.{int_min, int_max}
use Rattle.std.proofs.lemmas.Bool.Decides.{nat_tests}
use Rattle.group_tallies.specs.Tallies.{merged_tally}
use Rattle.group_tallies.specs.declared.tally.Tally.{Tally}
use Rattle.group_tallies.proofs.tally.Tally.joined.Goals as goal

pub returns : goal.returns
returns c =
    let left = c.args.self in
    let right = c.args.other in
    let all : Tally =
    record {
      count = left.count + right.count;
      sum = left.sum +ℤ right.sum;
      least = int_min left.least right.least;
      greatest = int_max left.greatest right.greatest;
    } in
    let some_left : (left.count == 0) ≡ false =
    (let apart : left.count ≢ 0 = λ e. c.if-get-eq0.false (c.get.ensures.value ∙ e) in grind (arith, nat_tests)) in
    let some_right : (right.count == 0) ≡ false =
    (let apart : right.count ≢ 0 = λ e. c.if-get-eq0-2.false (c.get-2.ensures.value ∙ e) in
    grind (arith, nat_tests)) in
    let whole : merged_tally left right ≡ all = ap (λ b. cond b right (cond (right.count == 0) left all)) some_left
    ∙ ap (λ b. cond b left all) some_right in
    let same : _ ≡ all = search rules in
    same ∙ sym whole
