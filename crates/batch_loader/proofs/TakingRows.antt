-- Rows of lines, taken one by one.
use Rattle.std.proofs.Common.{◌≡◌, ◌∙◌, sym, ap, subst, refl, ℕ, ◌+◌, ◌-◌, ◌<◌, ◌≤◌, List, [], ◌∷◌, ◌++◌, length, take}
use Rattle.std.proofs.Common.{drop, arith, Some, None, append-nil, append_assoc, length-append, inl, inr}
use Rattle.std.specs.Prelude.{suc, zero, true, Option, ⊤, Result, Ok, Err, IfOk, IfSome}
use Rattle.std.proofs.lemmas.Grind.{common_steps}
use Rattle.std.proofs.lemmas.List.{take_all}
use Rattle.std.proofs.lemmas.Result.{IfOk-at_ok}
use Rattle.std.specs.Io.KnownBytes.{IsAtEnd}
use Rattle.cube_model.specs.declared.fault.Fault.{Fault}
use Rattle.batch_loader.specs.Lines.{lines_of}
use Rattle.batch_loader.specs.Rows.{next_number, number_after, row_before, rows_of}
use Rattle.batch_loader.specs.Unread.{Unread}
use Rattle.batch_loader.specs.Reading.{TakesLine, TakesNext, IsAllTaken, StaysAtEnd, IsNextFault, PushesRow, PushesNext}
use Rattle.batch_loader.specs.Reading.{RefusesRow, TakesRows, IsFirstFault, TakesBatch, RefusesBatch, AreRowsOf}
use Rattle.batch_loader.specs.Reading.{IsFaultOf, TakesTable, RefusesTable, AnswersRows}

-- rows in front of others
abbrev pub rows_before : {Row : Type 0} → List Row → Result (List Row) Fault → Result (List Row) Fault
rows_before rows (Err fault) = Err fault
rows_before rows (Ok others) = Ok (rows ++ others)

-- the rows so far are in front of those of the lines that are left
abbrev pub AreInFront : {Row : Type 0} → (ℕ → List ℕ → Result Row Fault) → ℕ → ℕ → Option (List ℕ) → ℕ → ℕ
    → Option (List ℕ) → List Row → Type 0
AreInFront row max number None more from now rows = ⊤
AreInFront row max number (Some text) more from None rows = ⊥
AreInFront row max number (Some text) more from (Some rest) rows =
    (rows_of row (next_number number) (take max (lines_of text))
    ≡ rows_before rows (rows_of row (next_number from) (take more (lines_of rest))))
    × (drop max (lines_of text) ≡ drop more (lines_of rest))

-- what the loop keeps that takes rows
pub record IsTaking {Row : Type 0} (row : ℕ → List ℕ → Result Row Fault) (max : ℕ) (old now : Unread) (rows : List Row)
    (count : ℕ) : Type 0 where
  pub front : AreInFront row max old.number old.left (max - count) now.number now.left rows
  pub number : now.number ≡ number_after count old.number
  pub count_is : length rows ≡ count
  pub fault : now.fault ≡ None

nothing_before : {Row : Type 0} (others : Result (List Row) Fault) → rows_before [] others ≡ others
nothing_before (Err fault) = refl
nothing_before (Ok rows) = refl

in_front-start : {Row : Type 0} (row : ℕ → List ℕ → Result Row Fault) (max number : ℕ) (left : Option (List ℕ))
    → AreInFront row max number left max number left []
in_front-start row max number None = tt
in_front-start row max number (Some text) =
    (sym (nothing_before (rows_of row (next_number number) (take max (lines_of text)))), refl)

less_nothing : (max : ℕ) → max ≡ max - 0
less_nothing max = omega arith

pub IsTaking-start : {Row : Type 0} (row : ℕ → List ℕ → Result Row Fault) (max : ℕ) (old : Unread) → old.fault ≡ None
    → IsTaking row max old old [] 0
IsTaking-start row max old fault = record {
  front = subst (λ more. AreInFront row max old.number old.left more old.number old.left []) (less_nothing max)
      (in_front-start row max old.number old.left);
  number = refl;
  count_is = refl;
  fault = fault;
}

pushed : {Row : Type 0} (rows : List Row) (first : Row) (others : Result (List Row) Fault)
    → rows_before rows (row_before (Ok first) others) ≡ rows_before (rows ++ first ∷ []) others
pushed rows first (Err fault) = refl
pushed rows first (Ok others) = ap Ok (sym (append_assoc rows (first ∷ []) others))

in_front-next : {Row : Type 0} (row : ℕ → List ℕ → Result Row Fault) (max number : ℕ) (old : Option (List ℕ))
    (more less from : ℕ) (now new : Option (List ℕ)) (line : List ℕ) (rows : List Row) (first : Row)
    → more ≡ suc less → TakesLine now new line → row (next_number from) line ≡ Ok first
    → AreInFront row max number old more from now rows
    → AreInFront row max number old less (next_number from) new (rows ++ first ∷ [])
in_front-next row max number None more less from now new line rows first is taken given before = tt
in_front-next row max number (Some text) more less from None new line rows first is taken given before = absurd before
in_front-next row max number (Some text) more less from (Some rest) None line rows first is taken given before =
    absurd taken
in_front-next row max number (Some text) more less from (Some rest) (Some left) line rows first is taken
    given before = (
      before.0
          ∙ ap (λ n. rows_before rows (rows_of row (next_number from) (take n (lines_of rest)))) is
          ∙ ap (λ lines. rows_before rows (rows_of row (next_number from) (take (suc less) lines))) taken
          ∙ ap (λ found. rows_before rows
          (row_before found (rows_of row (next_number (next_number from)) (take less (lines_of left))))) given
          ∙ pushed rows first (rows_of row (next_number (next_number from)) (take less (lines_of left))),
      before.1 ∙ ap (λ n. drop n (lines_of rest)) is ∙ ap (drop (suc less)) taken,
    )

pub number_after-next : (count number : ℕ)
    → next_number (number_after count number) ≡ number_after count (next_number number)
number_after-next zero number = refl
number_after-next (suc count) number = number_after-next count (next_number number)

one_more : (count : ℕ) → suc count ≡ count + 1
one_more count = omega arith

-- one row more
pub IsTaking-next : {Row : Type 0} (row : ℕ → List ℕ → Result Row Fault) (max : ℕ) (old now new : Unread)
    (rows : List Row) (count : ℕ) (first : Row)
    → count < max → TakesNext now new new.line → row (next_number now.number) new.line ≡ Ok first
    → IsTaking row max old now rows count → IsTaking row max old new (rows ++ first ∷ []) (count + 1)
IsTaking-next row max old now new rows count first below taken given before = record {
  front = subst (λ n. AreInFront row max old.number old.left (max - (count + 1)) n new.left (rows ++ first ∷ []))
      (sym taken.number)
      (in_front-next row max old.number old.left (max - count) (max - (count + 1)) now.number now.left new.left new.line
      rows first (omega arith) taken.taken given before.front);
  number = taken.number ∙ ap next_number before.number ∙ number_after-next count old.number
      ∙ ap (λ n. number_after n old.number) (one_more count);
  count_is = omega (arith, length-append rows (first ∷ []), before.count_is);
  fault = taken.fault;
}

-- the same as a call says it
pub IsTaking-push : {Row : Type 0} (row : ℕ → List ℕ → Result Row Fault) (max : ℕ) (old now new : Unread)
    (rows after : List Row) (count : ℕ)
    → count < max → PushesNext row now new rows after true → IsTaking row max old now rows count
    → IsTaking row max old new after (count + 1)
IsTaking-push {Row = Row} row max old now new rows after count below pushed before =
    by_row (row (next_number now.number) new.line) refl pushed.1
  where
    by_row : (found : Result Row Fault) → row (next_number now.number) new.line ≡ found → PushesRow found rows after
        → IsTaking row max old new after (count + 1)
    by_row (Ok first) is holds =
        subst (λ list. IsTaking row max old new list (count + 1)) (sym holds)
        (IsTaking-next row max old now new rows count first below pushed.0 is before)
    by_row (Err fault) is holds = absurd holds

in_front-whole : {Row : Type 0} (row : ℕ → List ℕ → Result Row Fault) (max number : ℕ) (old : Option (List ℕ))
    (more from : ℕ) (now : Option (List ℕ)) (rows : List Row)
    → more ≡ 0 → AreInFront row max number old more from now rows → TakesRows row max number old now rows
in_front-whole row max number None more from now rows is before = tt
in_front-whole row max number (Some text) more from None rows is before = absurd before
in_front-whole row max number (Some text) more from (Some rest) rows is before = (
  before.0 ∙ ap (λ n. rows_before rows (rows_of row (next_number from) (take n (lines_of rest)))) is
      ∙ ap Ok (append-nil rows),
  sym (before.1 ∙ ap (λ n. drop n (lines_of rest)) is),
)

-- as many rows as were asked for
pub IsTaking-whole : {Row : Type 0} (row : ℕ → List ℕ → Result Row Fault) (max : ℕ) (old now : Unread) (rows : List Row)
    (count : ℕ)
    → count ≡ max → IsTaking row max old now rows count → TakesBatch row max old now rows
IsTaking-whole row max old now rows count is before = record {
  taken = in_front-whole row max old.number old.left (max - count) now.number now.left rows (omega arith) before.front;
  few = omega (arith, before.count_is);
  end = λ fewer. absurd (omega (arith, before.count_is));
  number = before.number ∙ ap (λ n. number_after n old.number) (sym before.count_is);
  fault = before.fault;
}

take_nothing : (n : ℕ) → take n (lines_of []) ≡ []
take_nothing zero = refl
take_nothing (suc n) = refl

drop_nothing : (n : ℕ) → drop n (lines_of []) ≡ []
drop_nothing zero = refl
drop_nothing (suc n) = refl

pub in_front-end : {Row : Type 0} (row : ℕ → List ℕ → Result Row Fault) (max number : ℕ) (old : Option (List ℕ))
    (more from : ℕ) (now new : Option (List ℕ)) (rows : List Row)
    → StaysAtEnd now new → AreInFront row max number old more from now rows → TakesRows row max number old new rows
in_front-end row max number None more from now new rows at_end before = tt
in_front-end row max number (Some text) more from None new rows at_end before = absurd before
in_front-end row max number (Some text) more from (Some rest) None rows at_end before = absurd at_end
in_front-end row max number (Some text) more from (Some rest) (Some left) rows at_end before = (
  before.0
      ∙ ap (λ bytes. rows_before rows (rows_of row (next_number from) (take more (lines_of bytes)))) at_end.0
      ∙ ap (λ lines. rows_before rows (rows_of row (next_number from) lines)) (take_nothing more)
      ∙ ap Ok (append-nil rows),
  ap lines_of at_end.1 ∙ sym (before.1 ∙ ap (λ bytes. drop more (lines_of bytes)) at_end.0 ∙ drop_nothing more),
)

StaysAtEnd-after : (old new : Option (List ℕ)) → StaysAtEnd old new → IsAtEnd new
StaysAtEnd-after None new at_end = at_end
StaysAtEnd-after (Some text) None at_end = absurd at_end
StaysAtEnd-after (Some text) (Some rest) at_end = at_end.1

-- the text is at its end
pub IsTaking-end : {Row : Type 0} (row : ℕ → List ℕ → Result Row Fault) (max : ℕ) (old now new : Unread)
    (rows : List Row) (count : ℕ)
    → count ≤ max → IsAllTaken now new → IsTaking row max old now rows count → TakesBatch row max old new rows
IsTaking-end row max old now new rows count within all before = record {
  taken = in_front-end row max old.number old.left (max - count) now.number now.left new.left rows all.end before.front;
  few = omega (arith, before.count_is);
  end = λ fewer. StaysAtEnd-after now.left new.left all.end;
  number = all.number ∙ before.number ∙ ap (λ n. number_after n old.number) (sym before.count_is);
  fault = all.fault;
}

in_front-fault : {Row : Type 0} (row : ℕ → List ℕ → Result Row Fault) (max number : ℕ) (old : Option (List ℕ))
    (more less from : ℕ) (now : Option (List ℕ)) (rows : List Row) (fault : Fault)
    → more ≡ suc less → IsNextFault row from now fault → AreInFront row max number old more from now rows
    → IsFirstFault row max number old fault
in_front-fault row max number None more less from now rows fault is next before = tt
in_front-fault row max number (Some text) more less from None rows fault is next before = absurd before
in_front-fault row max number (Some text) more less from (Some rest) rows fault is next before =
    before.0
    ∙ ap (λ n. rows_before rows (rows_of row (next_number from) (take n (lines_of rest)))) is
    ∙ ap (λ lines. rows_before rows (rows_of row (next_number from) (take (suc less) lines))) next.2
    ∙ ap (λ found. rows_before rows
    (row_before found (rows_of row (next_number (next_number from)) (take less next.1)))) next.3

-- the next line is refused
pub IsTaking-refused : {Row : Type 0} (row : ℕ → List ℕ → Result Row Fault) (max : ℕ) (old now : Unread)
    (rows : List Row) (count : ℕ) (fault : Fault)
    → count < max → RefusesRow row now fault → IsTaking row max old now rows count → RefusesBatch row max old fault
IsTaking-refused row max old now rows count fault below (inl memory) before = inl memory
IsTaking-refused row max old now rows count fault below (inr (inl input)) before = inr (inl input)
IsTaking-refused row max old now rows count fault below (inr (inr next)) before =
    inr (inr (in_front-fault row max old.number old.left (max - count) (max - (count + 1)) now.number now.left rows
    fault (omega arith) next before.front))

count-row_before : {Row : Type 0} (first : Result Row Fault) (others : Result (List Row) Fault) (n : ℕ)
    → IfOk others (λ rows. length rows ≡ n) → IfOk (row_before first others) (λ rows. length rows ≡ suc n)
count-row_before (Err fault) others n is = tt
count-row_before (Ok first) (Err fault) n is = tt
count-row_before (Ok first) (Ok rows) n is = ap suc is

count-rows_of : {Row : Type 0} (row : ℕ → List ℕ → Result Row Fault) (number : ℕ) (lines : List (List ℕ))
    → IfOk (rows_of row number lines) (λ rows. length rows ≡ length lines)
count-rows_of row number [] = refl
count-rows_of row number (line ∷ lines) =
    count-row_before (row number line) (rows_of row (next_number number) lines) (length lines)
    (count-rows_of row (next_number number) lines)

-- as many rows as lines
pub length-rows_of : {Row : Type 0} (row : ℕ → List ℕ → Result Row Fault) (number : ℕ) (lines : List (List ℕ))
    (rows : List Row) → rows_of row number lines ≡ Ok rows → length rows ≡ length lines
length-rows_of row number lines rows is =
    IfOk-at_ok (λ rows. length rows ≡ length lines) is (count-rows_of row number lines)

take_short : {X : Type 0} (n count : ℕ) (items : List X) → count ≡ length (take n items) → count < n → length items ≤ n
take_short n count items is fewer = grind (arith, common_steps)

rows-all : {Row : Type 0} (row : ℕ → List ℕ → Result Row Fault) (max number : ℕ) (old new : Option (List ℕ))
    (rows : List Row) → length rows < max → TakesRows row max number old new rows → AreRowsOf row number old rows
rows-all row max number None new rows fewer taken = tt
rows-all row max number (Some text) None rows fewer taken = absurd taken
rows-all row max number (Some text) (Some rest) rows fewer taken =
    ap (rows_of row (next_number number))
    (sym (take_all max (lines_of text)
    (take_short max (length rows) (lines_of text)
    (length-rows_of row (next_number number) (take max (lines_of text)) rows taken.0) fewer))) ∙ taken.0

-- fewer rows than were asked for are those of all lines
pub TakesTable-fewer : {Row : Type 0} (row : ℕ → List ℕ → Result Row Fault) (max : ℕ) (old new : Unread)
    (rows : List Row) → length rows < max → TakesBatch row max old new rows → TakesTable row old new rows
TakesTable-fewer row max old new rows fewer batch = record {
  taken = rows-all row max old.number old.left new.left rows fewer batch.taken;
  end = batch.end fewer;
  number = batch.number;
  fault = batch.fault;
}

fault-row_before : {Row : Type 0} (first : Result Row Fault) (short long : Result (List Row) Fault) (fault : Fault)
    → (short ≡ Err fault → long ≡ Err fault) → row_before first short ≡ Err fault → row_before first long ≡ Err fault
fault-row_before (Err other) short long fault keeps is = is
fault-row_before (Ok first) (Err other) long fault keeps is = ap (row_before (Ok first)) (keeps is)
fault-row_before (Ok first) (Ok rows) long fault keeps is = absurd (cc)

-- the first fault of some lines is that of all
pub rows_of-fault : {Row : Type 0} (row : ℕ → List ℕ → Result Row Fault) (max number : ℕ) (lines : List (List ℕ))
    (fault : Fault) → rows_of row number (take max lines) ≡ Err fault → rows_of row number lines ≡ Err fault
rows_of-fault row zero number lines fault is = absurd (cc)
rows_of-fault row (suc max) number [] fault is = absurd (cc)
rows_of-fault row (suc max) number (line ∷ lines) fault is =
    fault-row_before (row number line) (rows_of row (next_number number) (take max lines))
    (rows_of row (next_number number) lines) fault (rows_of-fault row max (next_number number) lines fault) is

fault-all : {Row : Type 0} (row : ℕ → List ℕ → Result Row Fault) (max number : ℕ) (old : Option (List ℕ))
    (fault : Fault) → IsFirstFault row max number old fault → IsFaultOf row number old fault
fault-all row max number None fault is = tt
fault-all row max number (Some text) fault is = rows_of-fault row max (next_number number) (lines_of text) fault is

-- what refuses a batch refuses the table
pub RefusesTable-batch : {Row : Type 0} (row : ℕ → List ℕ → Result Row Fault) (max : ℕ) (old : Unread) (fault : Fault)
    → RefusesBatch row max old fault → RefusesTable row old fault
RefusesTable-batch row max old fault (inl memory) = inl memory
RefusesTable-batch row max old fault (inr (inl input)) = inr (inl input)
RefusesTable-batch row max old fault (inr (inr first)) = inr (inr (fault-all row max old.number old.left fault first))

-- a call that fails
abbrev failed : (Given : Type 0) → Fault → Result Given Fault
failed Given fault = Err fault

abbrev fault_or : {Given : Type 0} → Fault → Result Given Fault → Fault
fault_or other (Ok given) = other
fault_or other (Err fault) = fault

failed_again : (Given Made : Type 0) (met : Option Fault) (fault : Fault)
    → IfSome met (λ first. failed Given fault ≡ Err first) → IfSome met (λ first. failed Made fault ≡ Err first)
failed_again Given Made None fault again = tt
failed_again Given Made (Some first) fault again = ap (failed Made) (ap (fault_or fault) again)

-- a fault of a callee is answered as one's own
pub AnswersRows-refused : {Row Given Made : Type 0} (row : ℕ → List ℕ → Result Row Fault) (Takes : Given → Type 0)
    (Makes : Made → Type 0) (Refuses Stops : Fault → Type 0) (old now new : Unread) (fault : Fault)
    → old.fault ≡ now.fault → (now.fault ≡ None → Refuses fault → Stops fault)
    → AnswersRows row Takes Refuses now new (Err fault) → AnswersRows row Makes Stops old new (Err fault)
AnswersRows-refused {Given = Given} {Made = Made} row Takes Makes Refuses Stops old now new fault same stops answered =
    record {
      again = subst (λ met. IfSome met (λ first. failed Made fault ≡ Err first)) (sym same)
          (failed_again Given Made now.fault fault answered.again);
      held = answered.held;
      taken = tt;
      refused = λ none. stops (sym same ∙ none) (answered.refused (sym same ∙ none));
      line = λ none. answered.line (sym same ∙ none);
    }
