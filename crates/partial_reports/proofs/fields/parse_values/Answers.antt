use Rattle.std.proofs.Common.{◌∙◌, ap, ◌++◌, ◌∷◌, []}
use Rattle.partial_reports.proofs.FieldsLemmas.{next_value}
use Rattle.ssb_reports.specs.Report.{value_text}
use Rattle.partial_reports.proofs.fields.parse_values.Goals as goal

pub returns-in_err-value_of-in-Some : goal.returns-in_err-value_of-in-Some
returns-in_err-value_of-in-Some c = λ values size whole left.
    let next = next_value values c.loop-aggregate.values c.args.aggregates c.loop-aggregate._aggregate _
    c.loop-aggregate-test.true (c.loop-aggregate.invariant values size whole left) in
    let read = c.in-Some.ensures (value_text next.value) next.more next.fields in
    absurd (c.in_err-value_of-in-Some.ensures next.value next.whole read.0)

pub returns-in-None : goal.returns-in-None
returns-in-None c = λ values size whole left.
    let next = next_value values c.loop-aggregate.values c.args.aggregates c.loop-aggregate._aggregate _
    c.loop-aggregate-test.true (c.loop-aggregate.invariant values size whole left) in
    absurd (c.in-None.ensures (value_text next.value) next.more next.fields).0

pub loop-aggregate-preserved : goal.loop-aggregate-preserved
loop-aggregate-preserved c = λ values size whole left.
    let next = next_value values c.loop-aggregate.values c.args.aggregates c.loop-aggregate._aggregate _
    c.loop-aggregate-test.true (c.loop-aggregate.invariant values size whole left) in
    let read = c.in-Some.ensures (value_text next.value) next.more next.fields in
    let same = c.in_ok-value_of-in-Some.ensures next.value next.whole read.0 in
    next.after c.push.new.self _ (c.in_ok-push-in-Some.ensures.ok ∙ ap (λ v. c.loop-aggregate.values ++ v ∷ []) same)
    read.1
