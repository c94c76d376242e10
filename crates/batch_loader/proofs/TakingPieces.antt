-- Rows of lines, taken in pieces that are put end to end.
use Rattle.std.proofs.Common.{◌≡◌, ◌∙◌, sym, ap, subst, refl, ℕ, ◌+◌, ◌-◌, ◌<◌, ◌≤◌, List, [], ◌∷◌, ◌++◌, length, take}
use Rattle.std.proofs.Common.{drop, arith, Some, None, append_assoc, length-append, inl, inr}
use Rattle.std.specs.Prelude.{suc, zero, Option, Result, Ok, Err}
use Rattle.std.specs.Io.KnownBytes.{IsAtEnd}
use Rattle.cube_model.specs.declared.fault.Fault.{Fault}
use Rattle.batch_loader.specs.Lines.{lines_of}
use Rattle.batch_loader.specs.Rows.{next_number, number_after, rows_of}
use Rattle.batch_loader.specs.Unread.{Unread}
use Rattle.batch_loader.specs.Reading.{StaysAtEnd, TakesRows, IsFirstFault, TakesBatch, RefusesBatch}
use Rattle.batch_loader.proofs.CallerLemmas.{rows_of-append}
use Rattle.batch_loader.proofs.TakingRows.{AreInFront, IsTaking, in_front-end, length-rows_of, number_after-next}
use Rattle.batch_loader.proofs.TakingRows.{rows_before, rows_of-fault}

twice : {Row : Type 0} (rows piece : List Row) (others : Result (List Row) Fault)
    → rows_before rows (rows_before piece others) ≡ rows_before (rows ++ piece) others
twice rows piece (Err fault) = refl
twice rows piece (Ok others) = ap Ok (sym (append_assoc rows piece others))

take_nothing : {X : Type 0} (n : ℕ) (items : List X) → length items ≡ 0 → items ≡ take n items
take_nothing zero [] none = refl
take_nothing (suc n) [] none = refl
take_nothing n (item ∷ items) none = absurd (omega arith)

drop_nothing : {X : Type 0} (n : ℕ) (items : List X) → length items ≡ 0 → items ≡ drop n items
drop_nothing zero [] none = refl
drop_nothing (suc n) [] none = refl
drop_nothing n (item ∷ items) none = absurd (omega arith)

-- so many items, cut after the first of them
take_cut : {X : Type 0} (size more : ℕ) (items : List X) → size ≤ more
    → take more items ≡ take size items ++ take (more - size) (drop size items)
take_cut zero more items within =
    let same : more ≡ more - 0 = omega arith in
    ap (λ n. take n items) same
take_cut (suc size) zero items within = absurd (omega arith)
take_cut (suc size) (suc more) [] within = take_nothing (suc more - suc size) [] refl
take_cut (suc size) (suc more) (item ∷ items) within =
    let same : more - size ≡ suc more - suc size = omega arith in
    ap (λ others. item ∷ others)
    (take_cut size more items (omega arith) ∙ ap (λ n. take size items ++ take n (drop size items)) same)

drop_cut : {X : Type 0} (size more : ℕ) (items : List X) → size ≤ more
    → drop more items ≡ drop (more - size) (drop size items)
drop_cut zero more items within =
    let same : more ≡ more - 0 = omega arith in
    ap (λ n. drop n items) same
drop_cut (suc size) zero items within = absurd (omega arith)
drop_cut (suc size) (suc more) [] within = drop_nothing (suc more - suc size) [] refl
drop_cut (suc size) (suc more) (item ∷ items) within =
    let same : more - size ≡ suc more - suc size = omega arith in
    drop_cut size more items (omega arith) ∙ ap (λ n. drop n (drop size items)) same

-- the rows of the first of some lines are in front of those of the others
rows_of-cut : {Row : Type 0} (row : ℕ → List ℕ → Result Row Fault) (size more number : ℕ) (lines others : List (List ℕ))
    (piece : List Row) → size ≤ more
    → rows_of row number (take size lines) ≡ Ok piece → others ≡ drop size lines
    → rows_of row number (take more lines)
    ≡ rows_before piece (rows_of row (number_after (length piece) number) (take (more - size) others))
rows_of-cut row size more number lines others piece within read left =
    ap (rows_of row number) (take_cut size more lines within)
    ∙ rows_of-append row number (take size lines) (take (more - size) (drop size lines)) piece read
    ∙ ap (λ n. rows_before piece (rows_of row (number_after n number) (take (more - size) (drop size lines))))
    (sym (length-rows_of row number (take size lines) piece read))
    ∙ ap (λ some. rows_before piece (rows_of row (number_after (length piece) number) (take (more - size) some)))
    (sym left)

in_front-piece : {Row : Type 0} (row : ℕ → List ℕ → Result Row Fault) (max number : ℕ) (old : Option (List ℕ))
    (more size from : ℕ) (now new : Option (List ℕ)) (rows piece : List Row)
    → size ≤ more → TakesRows row size from now new piece → AreInFront row max number old more from now rows
    → AreInFront row max number old (more - size) (number_after (length piece) from) new (rows ++ piece)
in_front-piece row max number None more size from now new rows piece within taken before = tt
in_front-piece row max number (Some text) more size from None new rows piece within taken before = absurd before
in_front-piece row max number (Some text) more size from (Some rest) None rows piece within taken before = absurd taken
in_front-piece row max number (Some text) more size from (Some rest) (Some left) rows piece within taken before = (
  before.0
      ∙ ap (rows_before rows)
      (rows_of-cut row size more (next_number from) (lines_of rest) (lines_of left) piece within taken.0 taken.1)
      ∙ ap (λ n. rows_before rows (rows_before piece (rows_of row n (take (more - size) (lines_of left)))))
      (sym (number_after-next (length piece) from))
      ∙ twice rows piece
      (rows_of row (next_number (number_after (length piece) from)) (take (more - size) (lines_of left))),
  before.1 ∙ drop_cut size more (lines_of rest) within ∙ ap (drop (more - size)) (sym taken.1),
)

number_after-add : (count more number : ℕ)
    → number_after more (number_after count number) ≡ number_after (count + more) number
number_after-add zero more number =
    let same : more ≡ zero + more = omega arith in
    ap (λ n. number_after n number) same
number_after-add (suc count) more number =
    let same : suc (count + more) ≡ suc count + more = omega arith in
    number_after-add count more (next_number number) ∙ ap (λ n. number_after n number) same

-- a whole piece more
pub IsTaking-piece : {Row : Type 0} (row : ℕ → List ℕ → Result Row Fault) (max size : ℕ) (old now new : Unread)
    (rows piece : List Row) (count : ℕ)
    → count + size ≤ max → length piece ≡ size → TakesBatch row size now new piece → IsTaking row max old now rows count
    → IsTaking row max old new (rows ++ piece) (count + size)
IsTaking-piece row max size old now new rows piece count within whole taken before =
    let less : max - count - size ≡ max - (count + size) = omega arith in
    record {
      front = subst (λ more. AreInFront row max old.number old.left more new.number new.left (rows ++ piece)) less
          (subst (λ n. AreInFront row max old.number old.left (max - count - size) n new.left (rows ++ piece))
          (sym taken.number)
          (in_front-piece row max old.number old.left (max - count) size now.number now.left new.left rows piece
          (omega arith) taken.taken before.front));
      number = taken.number ∙ ap (number_after (length piece)) before.number
          ∙ number_after-add count (length piece) old.number ∙ ap (λ n. number_after (count + n) old.number) whole;
      count_is = omega (arith, length-append rows piece, before.count_is, whole);
      fault = taken.fault;
    }

stays : (left : Option (List ℕ)) → IsAtEnd left → StaysAtEnd left left
stays None at_end = at_end
stays (Some text) at_end = (at_end, at_end)

-- a piece that ends the text
pub TakesBatch-last : {Row : Type 0} (row : ℕ → List ℕ → Result Row Fault) (max size : ℕ) (old now new : Unread)
    (rows piece : List Row) (count : ℕ)
    → count + size ≤ max → length piece < size → TakesBatch row size now new piece → IsTaking row max old now rows count
    → TakesBatch row max old new (rows ++ piece)
TakesBatch-last row max size old now new rows piece count within short taken before =
    let at_end = taken.end short in
    let all : count + length piece ≡ length (rows ++ piece) =
    omega (arith, length-append rows piece, before.count_is) in
    let front = in_front-piece row max old.number old.left (max - count) size now.number now.left new.left rows piece
    (omega arith) taken.taken before.front in
    record {
      taken = in_front-end row max old.number old.left (max - count - size) (number_after (length piece) now.number)
          new.left new.left (rows ++ piece) (stays new.left at_end) front;
      few = omega (arith, length-append rows piece, before.count_is);
      end = λ fewer. at_end;
      number = taken.number ∙ ap (number_after (length piece)) before.number
          ∙ number_after-add count (length piece) old.number
          ∙ ap (λ n. number_after n old.number) all;
      fault = taken.fault;
    }

take_again : {X : Type 0} (size more : ℕ) (items : List X) → size ≤ more → take size (take more items) ≡ take size items
take_again zero more items within = refl
take_again (suc size) zero items within = absurd (omega arith)
take_again (suc size) (suc more) [] within = refl
take_again (suc size) (suc more) (item ∷ items) within =
    ap (λ others. item ∷ others) (take_again size more items (omega arith))

in_front-stopped : {Row : Type 0} (row : ℕ → List ℕ → Result Row Fault) (max number : ℕ) (old : Option (List ℕ))
    (more size from : ℕ) (now : Option (List ℕ)) (rows : List Row) (fault : Fault)
    → size ≤ more → IsFirstFault row size from now fault → AreInFront row max number old more from now rows
    → IsFirstFault row max number old fault
in_front-stopped row max number None more size from now rows fault within first before = tt
in_front-stopped row max number (Some text) more size from None rows fault within first before = absurd before
in_front-stopped row max number (Some text) more size from (Some rest) rows fault within first before =
    before.0 ∙ ap (rows_before rows)
    (rows_of-fault row size (next_number from) (take more (lines_of rest)) fault
    (ap (rows_of row (next_number from)) (take_again size more (lines_of rest) within) ∙ first))

-- a piece that is refused
pub RefusesBatch-piece : {Row : Type 0} (row : ℕ → List ℕ → Result Row Fault) (max size : ℕ) (old now : Unread)
    (rows : List Row) (count : ℕ) (fault : Fault)
    → count + size ≤ max → RefusesBatch row size now fault → IsTaking row max old now rows count
    → RefusesBatch row max old fault
RefusesBatch-piece row max size old now rows count fault within (inl memory) before = inl memory
RefusesBatch-piece row max size old now rows count fault within (inr (inl input)) before = inr (inl input)
RefusesBatch-piece row max size old now rows count fault within (inr (inr first)) before =
    inr (inr (in_front-stopped row max old.number old.left (max - count) size now.number now.left rows fault
    (omega arith) first before.front))
