-- Lemmas of `merge`, by subject.
use Rattle.std.proofs.Common.{◌≡◌, ◌∙◌, sym, ap, refl, subst, ℤ, pos, ◌≤ℤ◌, Bool, true, false, cond, List, [], ◌∷◌}
use Rattle.std.proofs.Common.{◌++◌, map, inl, inr, arith, ℕ, Option, Result, Ok, Err}
use Rattle.std.specs.List.{AllByRecursion}
use Rattle.std.proofs.lemmas.Int.{ints}
use Rattle.cube_model.specs.declared.answer.Answer.{Answer}
use Rattle.cube_model.specs.declared.answer.Line.{Line}
use Rattle.cube_model.specs.declared.answer.Value.{Value}
use Rattle.cube_model.specs.declared.fault.Fault.{Fault}
use Rattle.cube_model.specs.declared.fault.Fault.TheVariants.{Memory}
use Rattle.cube_model.specs.declared.measure.Agg.{Agg}
use Rattle.cube_model.specs.declared.measure.Agg.TheVariants.{Count}
use Rattle.cube_model.specs.declared.query.Query.{Query}
use Rattle.partial_reports.specs.Finishing.{CanBeFinished, CountsNoRow, CountsRows, FinishRefuses, IsPastRange}
use Rattle.partial_reports.specs.Finishing.{LineRefuses}
use Rattle.partial_reports.specs.Parts.{value_number, partial_query}
use Rattle.partial_reports.specs.Readable.{IsWholeNumber}
use Rattle.report_formats.specs.declared.layout.Layout.{Layout}
use Rattle.report_formats.specs.Asked.{query_for}
use Rattle.report_merge.specs.Finishing.{asks_for_counts, count_alone, partial_for, recounted, recounted_line}
use Rattle.report_formats.proofs.Inserted.{at_each}
use Rattle.std.proofs.KnownBytes.{Keeps-refl}
use Rattle.partial_reports.specs.Head.{head_text}
use Rattle.ssb_reports.specs.Report.{report_of}
use Rattle.ssb_reports.specs.Writing.{Writes}
use Rattle.report_merge.specs.Merging.{Part}
use Rattle.report_merge.specs.Ranges.{IsRangeOrMemory}
use Rattle.report_merge.specs.Written.{WritesOrKeeps}

-- ==== Merged lines that can be finished are.

abbrev answer_with : List Line → Answer
answer_with lines = record { lines = lines }

-- a line that counts a row at least, with numbers of 64 bits
abbrev IsFine : Line → Type 0
IsFine line = CountsRows line.values × AllByRecursion IsWholeNumber line.values

lines_for : (counts : Bool) (lines : List Line)
    → (cond counts (recounted (answer_with lines)) (answer_with lines)).lines ≡ cond counts (map recounted_line lines)
    lines
lines_for true lines = refl
lines_for false lines = refl

-- lines that are refused are those of what is asked for
pub refused_for : (layout : Layout) (query asked : Query) (counts : Bool) (lines all : List Line) (fault : Fault)
    → asked ≡ query_for layout query
    → counts ≡ asks_for_counts layout query → all ≡ cond counts (map recounted_line lines) lines
    → FinishRefuses asked.aggregates all fault
    → FinishRefuses (query_for layout query).aggregates (partial_for layout query (record { lines = lines })).lines
    fault
refused_for layout query asked counts lines all fault asked_is counts_is all_is refused =
    let same : all ≡ (partial_for layout query (answer_with lines)).lines =
    all_is ∙ ap (λ b. cond b (map recounted_line lines) lines) counts_is
    ∙ sym (lines_for (asks_for_counts layout query) lines) in
    subst (λ (found : List Line). FinishRefuses (query_for layout query).aggregates found fault) same
    (subst (λ (one : Query). FinishRefuses one.aggregates all fault) asked_is refused)

some_row : (number : ℤ) → pos 1 ≤ℤ number → number ≤ℤ pos 0 → ⊥
some_row number some none = omega (arith, ints, some, none)

no_row : (values : List Value) → CountsRows values → CountsNoRow values → ⊥
no_row [] some none = none
no_row (count ∷ kept) some none = some_row (value_number count) some none

not_past : (fault : Fault) (aggs : List Agg) (values : List Value) → AllByRecursion IsWholeNumber values
    → IsPastRange fault aggs values → ⊥
not_past fault [] values all past = past
not_past fault (agg ∷ aggs) [] all past = past
not_past fault (agg ∷ aggs) (value ∷ values) all (inl here) = here.1 all.0
not_past fault (agg ∷ aggs) (value ∷ values) all (inr there) = not_past fault aggs values all.1 there

fine_line : (aggs : List Agg) (fault : Fault) (line : Line) → IsFine line → LineRefuses aggs fault line → ⊥
fine_line aggs fault line fine (inl none) = no_row line.values fine.0 none.1
fine_line aggs fault line fine (inr past) = not_past fault (Count ∷ aggs) line.values fine.1 past

fine_lines : (aggs : List Agg) (lines : List Line) (fault : Fault) → AllByRecursion IsFine lines
    → FinishRefuses aggs lines fault → fault ≡ Memory
fine_lines aggs lines fault all (inl memory) = memory
fine_lines aggs lines fault all (inr any) =
    absurd (fine_line aggs fault any.1 (subst IsFine any.3 (at_each IsFine lines all any.0 any.1 any.2)) any.4)

all_whole : (xs ys : List Value) → AllByRecursion IsWholeNumber xs → AllByRecursion IsWholeNumber ys
    → AllByRecursion IsWholeNumber (xs ++ ys)
all_whole [] ys one other = other
all_whole (x ∷ xs) ys one other = (one.0, all_whole xs ys one.1 other)

fine_again : (values : List Value) → CountsRows values → AllByRecursion IsWholeNumber values
    → CountsRows (values ++ count_alone values) × AllByRecursion IsWholeNumber (values ++ count_alone values)
fine_again [] some all = (tt, tt)
fine_again (count ∷ kept) some all = (some, (all.0, all_whole kept (count ∷ []) all.1 (all.0, tt)))

all_again : (lines : List Line) → AllByRecursion IsFine lines → AllByRecursion IsFine (map recounted_line lines)
all_again [] all = tt
all_again (line ∷ lines) all = (fine_again line.values all.0.0 all.0.1, all_again lines all.1)

fine_for : (counts : Bool) (lines : List Line) → AllByRecursion IsFine lines
    → AllByRecursion IsFine (cond counts (map recounted_line lines) lines)
fine_for true lines all = all_again lines all
fine_for false lines all = all

-- lines that can be finished are refused for memory only
pub fine_memory : (aggs : List Agg) (counts : Bool) (lines all : List Line) (fault : Fault)
    → all ≡ cond counts (map recounted_line lines) lines
    → CanBeFinished (record { lines = lines }) → FinishRefuses aggs all fault → fault ≡ Memory
fine_memory aggs counts lines all fault all_is can refused =
    fine_lines aggs all fault (subst (AllByRecursion IsFine) (sym all_is) (fine_for counts lines can)) refused

-- ==== What a writer got where nothing was written, and where the text of a report was.

-- nothing was written
pub nothing : (known : Option (List ℕ)) (fault : Fault) (result : Result Unit Fault) (bytes : List ℕ)
    → (other : Fault) × (result ≡ Err other) × (other ≡ fault)
    → IsRangeOrMemory fault → WritesOrKeeps known known result bytes
nothing known fault result bytes stop range = rw (stop.1, stop.2) (inr (range, Keeps-refl known))

pub lacks : (known : Option (List ℕ)) (fault : Fault) (result : Result Unit Fault) (bytes : List ℕ)
    → (other : Fault) × (result ≡ Err other) × (other ≡ fault)
    → fault ≡ Memory → WritesOrKeeps known known result bytes
lacks known fault result bytes stop memory =
    nothing known fault result bytes stop (subst IsRangeOrMemory (sym memory) tt)

pub written : (old new : Option (List ℕ)) (result : Result Unit Fault) (bytes : List ℕ) → Writes old new result bytes
    → WritesOrKeeps old new result bytes
written old new (Ok done) bytes writes = writes
written old new (Err fault) bytes writes = inl writes

-- the text of a part was written
pub part_written : (old new : Option (List ℕ)) (result : Result Unit Fault) (part : Part) (head : List ℕ)
    (partial : Query) (answer : Answer)
    → head ≡ head_text part.head part.digest → partial ≡ partial_query part.query → answer ≡ part.answer
    → Writes old new result (head ++ report_of partial answer)
    → WritesOrKeeps old new result (head_text part.head part.digest ++ report_of (partial_query part.query) part.answer)
part_written old new result part head partial answer head_is partial_is answer_is writes =
    written old new result (head_text part.head part.digest ++ report_of (partial_query part.query) part.answer)
    (subst (Writes old new result) (λ i. head_is i ++ report_of (partial_is i) (answer_is i)) writes)
