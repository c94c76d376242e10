use Rattle.std.proofs.Common.{◌≡◌, ◌-◌, ◌∙◌, List, ℕ, drop, drop-drop, length, length-take, min, refl, subst, arith}
use Rattle.stored_rows.specs.Passing.{BeginsWithTexts, window_bytes}
use Rattle.stored_rows.proofs.PassedTexts.{no_texts, window_on}
use Rattle.stored_rows.proofs.passing.pass_window.Goals as goal

pub returns-in_default-clause-refused : goal.returns-in_default-clause-refused
returns-in_default-clause-refused g c = λ err keeps text rest there begins.
    no_texts c.args.left c.args.at text rest c.requires.some (c.in_default.ensures.none refl keeps text there) begins

pub returns-then-passed-eq0-clause-refused : goal.returns-then-passed-eq0-clause-refused
returns-then-passed-eq0-clause-refused g c = λ err keeps text rest there begins.
    let kept = c.in_ok-read_part.ensures.run.stays.word keeps in
    let long : length c.read_part.new.to ≡ min c.in-Some.more window_bytes =
    c.read_part.auto.to ∙ simp length-take (omega arith) in
    c.pass_texts-passed.ensures.none c.if-passed-eq0.true c.requires.some (drop c.args.at text) rest
    (window_on (g.S.Source.texts c.args.source.now c.args.id) text rest there c.args.at c.read_part.new.to
    (c.in_ok-read_part.ensures.bytes keeps) c.in-Some.more (c.in-Some.ensures.text kept) long) begins

pub returns-clause-passed : goal.returns-clause-passed
returns-clause-passed g c = λ keeps text rest there begins.
    let kept = c.in_ok-read_part.ensures.run.stays.word keeps in
    let long : length c.read_part.new.to ≡ min c.in-Some.more window_bytes =
    c.read_part.auto.to ∙ simp length-take (omega arith) in
    let passed = c.pass_texts-passed.result in
    subst (λ (l : List ℕ). BeginsWithTexts (c.args.left - passed.texts) l rest)
    (drop-drop passed.bytes c.args.at text)
    (c.pass_texts-passed.ensures.passed (drop c.args.at text) rest
    (window_on (g.S.Source.texts c.args.source.now c.args.id) text rest there c.args.at c.read_part.new.to
    (c.in_ok-read_part.ensures.bytes keeps) c.in-Some.more (c.in-Some.ensures.text kept) long) begins)
