use Rattle.std.proofs.Common.{◌≡◌, ◌+◌, ◌-◌, ◌∙◌, ap, arith, slice_range, rules}
use Rattle.batch_loader.specs.Numbers.{digits_value}
use Rattle.batch_loader.proofs.NumbersLemmas.{number_of-within, number_of-above}
use Rattle.batch_loader.proofs.numbers.number_between.Goals as goal

pub returns-then-value-limit : goal.returns-then-value-limit
returns-then-value-limit c =
    let end : c.args.start + (c.args.end - c.args.start) ≡ c.args.end = omega arith in
    number_of-above c.args.limit c.args.text.now c.args.start c.args.end c.short_value-value.result (omega arith)
    c.requires.within (c.are_digits.ensures (search rules))
    (c.short_value-value.ensures ∙ ap (λ n. digits_value (slice_range c.args.text.now c.args.start n)) end)
    c.if-value-limit.true

pub returns : goal.returns
returns c =
    let end : c.args.start + (c.args.end - c.args.start) ≡ c.args.end = omega arith in
    number_of-within c.args.limit c.args.text.now c.args.start c.args.end c.short_value-value.result (omega arith)
    c.requires.within (c.are_digits.ensures (search rules))
    (c.short_value-value.ensures ∙ ap (λ n. digits_value (slice_range c.args.text.now c.args.start n)) end)
    c.if-value-limit.false
