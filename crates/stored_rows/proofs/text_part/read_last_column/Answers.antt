use Rattle.std.proofs.Common.{◌≡◌, ◌⊎◌, ◌∙◌, sym, subst, inr, drop, Option, List, ℕ, true≢false}
use Rattle.std.specs.Option.{IsSomeAnd}
use Rattle.std.proofs.lemmas.Result.{IfOk-weaker}
use Rattle.cube_model.specs.declared.fault.Fault.TheVariants.{BadLayout, Memory}
use Rattle.wire.proofs.CallerLemmas.{HasRead-then}
use Rattle.column_segment.specs.Projected.{HasColumns}
use Rattle.stored_rows.proofs.MoreReads.{ends_later, ends_stays, ends_then, err_later, word_then}
use Rattle.stored_rows.proofs.TextPartLemmas.{columns_there, last_found, no_last, texts_of}
use Rattle.stored_rows.proofs.text_part.read_last_column.Goals as goal

pub returns-then-not-branch-clause-refused : goal.returns-then-not-branch-clause-refused
returns-then-not-branch-clause-refused g c = λ err keeps text rows there many is.
    true≢false (sym ((c.in_ok-has_columns.ensures.same keeps text there).1
    (subst (HasColumns text c.args.number) many (columns_there text c.args.number rows is)))
    ∙ c.if-not-branch.true)

pub returns-in_err-at-clause-refused : goal.returns-in_err-at-clause-refused
returns-in_err-at-clause-refused g c = λ err keeps text rows there many is.
    let kept = (ends_stays (λ fault. fault ≡ BadLayout) g.S.Source c.has_columns.new.source c.after_columns.new.source _
    c.in_err-at.ensures.run).word keeps in
    c.in_err-at.ensures.refused
    (err_later c.from_residual-in_err-at.result _ c.from_residual-in_err-at.ensures.1 err) keeps text
    (c.in_ok-has_columns.ensures.run.stays.texts kept c.args.id ∙ there) rows
    (texts_of text c.args.number c.args.rows rows is many)

pub returns-in_err-at-clause-run : goal.returns-in_err-at-clause-run
returns-in_err-at-clause-run g c =
    ends_later g.S.Source g.met.S.Source.reads_on g.met.S.Source.fails_later c.args.source.now c.has_columns.new.source
    c.after_columns.new.source c.in_ok-has_columns.ensures.run (λ fault. fault ≡ BadLayout)
    (λ fault. (fault ≡ Memory) ⊎ (fault ≡ BadLayout)) (λ fault bad. inr bad)
    c.from_residual-in_err-at.result _ c.from_residual-in_err-at.ensures.1 c.in_err-at.ensures.run

pub returns-clause-found : goal.returns-clause-found
returns-clause-found g c =
    IfOk-weaker c.read_rest.result _ _ (λ bytes found keeps.
    let id : ℕ = c.args.id in
    let left = word_then g.S.Source c.after_columns.new.source c.read_rest.new.source _
    (ends_stays (λ fault. (fault ≡ Memory) ⊎ (fault ≡ BadLayout)) g.S.Source c.after_columns.new.source
    c.read_rest.new.source)
    c.read_rest.result c.read_rest.ensures.run keeps in
    let kept = c.in_ok-at.ensures.run.stays.word left in
    let first = c.in_ok-has_columns.ensures.run.stays.texts kept id in
    let second = c.in_ok-at.ensures.run.stays.texts left id in
    last_found (g.S.Source.texts c.args.source.now id) c.args.number c.args.rows c.in_ok-at.at bytes.items
    (λ text there. (c.in_ok-has_columns.ensures.same kept text there).0 c.if-not-branch.false)
    (λ text there. c.in_ok-at.ensures.passed left text (first ∙ there))
    (subst (λ (o : Option (List ℕ)). IsSomeAnd o (λ text. bytes.items ≡ drop c.in_ok-at.at text)) (second ∙ first)
    (found keeps)))
    c.read_rest.ensures.found

pub returns-clause-refused : goal.returns-clause-refused
returns-clause-refused g c = λ err keeps text rows there many is.
    let id : ℕ = c.args.id in
    let left = word_then g.S.Source c.after_columns.new.source c.read_rest.new.source _
    (ends_stays (λ fault. (fault ≡ Memory) ⊎ (fault ≡ BadLayout)) g.S.Source c.after_columns.new.source
    c.read_rest.new.source)
    c.read_rest.result c.read_rest.ensures.run keeps in
    let kept = c.in_ok-at.ensures.run.stays.word left in
    let first = c.in_ok-has_columns.ensures.run.stays.texts kept id in
    let second = c.in_ok-at.ensures.run.stays.texts left id in
    no_last c.args.rows c.in_ok-at.at text rows
    (c.read_rest.ensures.refused err keeps text (second ∙ first ∙ there))
    (c.in_ok-at.ensures.passed left text (first ∙ there) rows (texts_of text c.args.number c.args.rows rows is many))

pub returns-clause-run : goal.returns-clause-run
returns-clause-run g c =
    let join = g.met.S.Source.reads_on in
    ends_then g.S.Source join g.met.S.Source.fails_later c.args.source.now c.after_columns.new.source
    c.read_rest.new.source
    (HasRead-then g.S.Source join _ _ _ c.in_ok-has_columns.ensures.run c.in_ok-at.ensures.run)
    (λ fault. (fault ≡ Memory) ⊎ (fault ≡ BadLayout)) (λ fault. (fault ≡ Memory) ⊎ (fault ≡ BadLayout))
    (λ fault own. own) c.read_rest.result c.read_rest.ensures.run
