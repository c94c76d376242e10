use Rattle.std.proofs.Common.{◌≡◌, ◌-◌, ◌++◌, length-drop, ℕ, List, length, drop, arith, inr, refl, sym, subst, ap, ◌∙◌}
use Rattle.std.proofs.Common.{true≢false}
use Rattle.cube_model.specs.Limits.{most_batch_rows}
use Rattle.dictionary.specs.Spelling.{BeginsWithNone, ReadsTexts, texts_spelling}
use Rattle.column_segment.specs.Reading.{BeginsWithCodes}
use Rattle.column_segment.proofs.Passes.{left_at, no_codes, no_dictionary, within_left}
use Rattle.column_segment.proofs.ReadingLemmas.{refused}
use Rattle.column_segment.proofs.reading.read_column.Goals as goal

pub returns-in_err-texts-clause-refused : goal.returns-in_err-texts-clause-refused
returns-in_err-texts-clause-refused c =
    let start : c.new-cursor.result ≡ drop c.args.from c.args.bytes.now = c.new-cursor.ensures
    ∙ c.split_at.ensures.back in
    refused c.from_residual.result _ c.from_residual.ensures.1
    (λ none. no_dictionary c.args.rows (drop c.args.from c.args.bytes.now) c.requires.few
    (subst (BeginsWithNone most_batch_rows) start none))
    c.in_err-texts.ensures.refused

pub returns-then-not-has_codes-clause-refused : goal.returns-then-not-has_codes-clause-refused
returns-then-not-has_codes-clause-refused c =
    let text : List ℕ = c.args.bytes.now in
    let left : List ℕ = c.read.new.cursor in
    let texts : List (List ℕ) = c.in_ok-texts.texts.texts in
    let read : ReadsTexts most_batch_rows (drop c.args.from text) left texts =
    subst (λ (old : List ℕ). ReadsTexts most_batch_rows old left texts) (c.new-cursor.ensures ∙ c.split_at.ensures.back)
    c.in_ok-texts.ensures.ok in
    let here : left ≡ c.split_at-2.result.1.now =
    left_at text (texts_spelling texts) left c.args.from c.requires.within read.spelled
    ∙ ap (λ (m : ℕ). drop (length text - m) text) (sym c.len.ensures) ∙ sym c.split_at-2.ensures.back in
    inr (
      refl,
      no_codes c.args.rows c.len-2.result (drop c.args.from text) left texts c.requires.few read c.len-2.ensures.count
          (λ begins. true≢false
          (sym (c.has_codes.ensures.1
          (subst (λ (l : List ℕ). BeginsWithCodes l c.args.rows c.len-2.result) here begins))
          ∙ c.if-not-has_codes.true)),
    )

pub returns-clause-ok : goal.returns-clause-ok
returns-clause-ok c =
    let text : List ℕ = c.args.bytes.now in
    let at : ℕ = length text - c.len.result in
    let left : List ℕ = c.read.new.cursor in
    let texts : List (List ℕ) = c.in_ok-texts.texts.texts in
    let read : ReadsTexts most_batch_rows (drop c.args.from text) left texts =
    subst (λ (old : List ℕ). ReadsTexts most_batch_rows old left texts) (c.new-cursor.ensures ∙ c.split_at.ensures.back)
    c.in_ok-texts.ensures.ok in
    let here : left ≡ drop at text =
    left_at text (texts_spelling texts) left c.args.from c.requires.within read.spelled
    ∙ ap (λ (m : ℕ). drop (length text - m) text) (sym c.len.ensures) in
    let has : BeginsWithCodes (drop at text) c.args.rows (length texts) =
    subst (λ (n : ℕ). BeginsWithCodes (drop at text) c.args.rows n) c.len-2.ensures.count
    (subst (λ (l : List ℕ). BeginsWithCodes l c.args.rows c.len-2.result) c.split_at-2.ensures.back
    (c.has_codes.ensures.0 c.if-not-has_codes.false)) in
    record {
      proper = read.proper;
      room = omega (
        arith,
        has.room,
        length-drop at text,
        ap length here,
        c.len.ensures,
        within_left text c.args.from left (texts_spelling texts) read.spelled,
      );
      are = has.are;
      spelled = read.spelled ∙ ap (λ (l : List ℕ). texts_spelling texts ++ l) here;
    }
