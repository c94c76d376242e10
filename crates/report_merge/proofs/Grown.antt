-- A part with one more.
use Rattle.std.proofs.Common.{◌≡◌, ◌∙◌, sym, ap, refl, subst, None, ℕ, ◌<◌, true, List, ◌++◌, length, length-append}
use Rattle.std.proofs.Common.{arith}
use Rattle.std.specs.Prelude.{◌&&◌, nat_le, nat_lt}
use Rattle.std.specs.List.{list_all}
use Rattle.std.specs.List.Sorted.{IsPermutation}
use Rattle.std.proofs.lemmas.Bool.Decides.{nat_tests}
use Rattle.std.proofs.lemmas.List.Sorted.{length_permutation}
use Rattle.cube_model.specs.declared.answer.Answer.{Answer}
use Rattle.cube_model.specs.declared.query.Query.{Query}
use Rattle.cube_model.specs.Ascending.{IsAscending}
use Rattle.cube_model.specs.Orders.{answer_cmp}
use Rattle.partial_reports.specs.declared.wide.WideLine.{WideLine}
use Rattle.partial_reports.specs.Merges.{merged_answer}
use Rattle.partial_reports.specs.Parts.{partial_query}
use Rattle.partial_reports.specs.Readable.{IsReadableAnswer}
use Rattle.partial_reports.specs.Wide.{Rise, narrow_lines}
use Rattle.partial_reports.specs.declared.head.Head.{Head}
use Rattle.partial_reports.specs.Head.{are_parts, ascend_between, head_text, is_proper, is_short_word, most_parts}
use Rattle.ssb_reports.specs.Report.{report_of}
use Rattle.report_merge.specs.Kept.{IsKeptPart, IsMore, with_lines}
use Rattle.partial_reports.specs.HeadReading.{IsDigest}
use Rattle.report_merge.specs.Refusals.{IsAlike}
use Rattle.report_merge.specs.Merging.{AddsPart, IsPartialReport, Part, SpellsWords}
use Rattle.report_merge.proofs.Gaps.{both, joined}

some : (n : ℕ) → nat_lt 0 n ≡ true → 0 < n
some n e = grind (arith, nat_tests)

is_some : (n : ℕ) → 0 < n → nat_lt 0 n ≡ true
is_some n h = grind (arith, nat_tests)

-- a proper head is so with more numbers that ascend
pub proper_on : (head : Head) (others numbers : List ℕ) → is_proper head ≡ true
    → IsPermutation (head.numbers ++ others) numbers
    → ascend_between 0 head.parts numbers ≡ true
    → is_proper (record { numbers = numbers; parts = head.parts; words = head.words }) ≡ true
proper_on head others numbers proper moved ascend =
    let halves = both (are_parts head.parts head.numbers) (list_all is_short_word head.words) proper in
    let few = both (nat_le head.parts most_parts)
    (nat_lt 0 (length head.numbers) && ascend_between 0 head.parts head.numbers) halves.first in
    let any = both (nat_lt 0 (length head.numbers)) (ascend_between 0 head.parts head.numbers) few.second in
    let before : 0 < length head.numbers = some (length head.numbers) any.first in
    let after : 0 < length numbers =
    omega (arith, length_permutation (head.numbers ++ others) numbers moved, length-append head.numbers others) in
    joined (are_parts head.parts numbers) (list_all is_short_word head.words)
    (joined (nat_le head.parts most_parts) (nat_lt 0 (length numbers) && ascend_between 0 head.parts numbers) few.first
    (joined (nat_lt 0 (length numbers)) (ascend_between 0 head.parts numbers) (is_some (length numbers) after) ascend))
    halves.second

-- a report that was read is of the partial answer to a query
pub record IsRead (partial : Query) (report : List ℕ) (answer : Answer) : Type 0 where
  pub text : report ≡ report_of partial answer
  pub readable : IsReadableAnswer partial answer
  pub rising : IsAscending (answer_cmp None) answer.lines

-- a text that was read is the partial report of a part
pub is_report : (text : List ℕ) (head : Head) (digest : List ℕ) (query partial : Query) (report : List ℕ)
    (answer : Answer)
    → text ≡ head_text head digest ++ report → is_proper head ≡ true → IsDigest digest → SpellsWords head.words query
    → partial ≡ partial_query query
    → IsRead partial report answer
    → IsPartialReport text (record { head = head; digest = digest; query = query; answer = answer })
is_report text head digest query partial report answer spelled proper is words partial_is read = record {
  proper = proper;
  digest = is;
  words = words;
  readable = subst (λ q. IsReadableAnswer q answer) partial_is read.readable;
  rising = read.rising;
  spelled = spelled ∙ ap (λ rest. head_text head digest ++ rest) (read.text ∙ ap (λ q. report_of q answer) partial_is);
}

-- the same with its lines as they are merged
pub first_report : (text : List ℕ) (head : Head) (digest : List ℕ) (query partial : Query) (report : List ℕ)
    (answer : Answer) (lines : List WideLine)
    → text ≡ head_text head digest ++ report → is_proper head ≡ true → IsDigest digest → SpellsWords head.words query
    → partial ≡ partial_query query
    → IsRead partial report answer → narrow_lines lines ≡ answer.lines
    → IsPartialReport text
    (record { head = head; digest = digest; query = query; answer = record { lines = narrow_lines lines } })
first_report text head digest query partial report answer lines spelled proper is words partial_is read same =
    subst (λ all. IsPartialReport text
    (record { head = head; digest = digest; query = query; answer = record { lines = all } })) (sym same)
    (is_report text head digest query partial report answer spelled proper is words partial_is read)

pub first_kept : (head : Head) (digest : List ℕ) (query partial : Query) (report : List ℕ) (answer : Answer)
    (lines : List WideLine)
    → is_proper head ≡ true → IsDigest digest → SpellsWords head.words query → partial ≡ partial_query query
    → IsRead partial report answer → narrow_lines lines ≡ answer.lines → IsKeptPart head digest query partial lines
first_kept head digest query partial report answer lines proper is words partial_is read same = record {
  proper = proper;
  digest_is = is;
  words = words;
  partial_is = partial_is;
  rise = subst (IsAscending (answer_cmp None)) (sym same) read.rising;
}

-- what was read of one more partial report
pub one_more : (start : Part) (text : List ℕ) (head : Head) (digest : List ℕ) (partial : Query)
    (report numbers : List ℕ) (answer : Answer) (own : List WideLine)
    → IsKeptPart start.head start.digest start.query partial own
    → text ≡ head_text head digest ++ report → is_proper head ≡ true → IsAlike start.head start.digest head digest
    → IsPermutation (start.head.numbers ++ head.numbers) numbers → ascend_between 0 start.head.parts numbers ≡ true
    → IsRead partial report answer
    → IsMore start text numbers answer
one_more start text head digest partial report numbers answer own kept spelled proper alike moved ascend read = record {
  other = record { head = head; digest = digest; query = start.query; answer = answer };
  report = is_report text head digest start.query partial report answer spelled proper
      (subst IsDigest (sym alike.dimensions) kept.digest_is)
      (subst (λ words. SpellsWords words start.query) (sym alike.words) kept.words) kept.partial_is read;
  alike = record { words = alike.words; parts = alike.parts; dimensions = alike.dimensions; query = refl };
  moved = moved;
  proper = proper_on start.head head.numbers numbers kept.proper moved ascend;
  answer_is = refl;
  rising = read.rising;
}

-- a part with the lines of one more
pub added : (start : Part) (text : List ℕ) (partial : Query) (numbers : List ℕ) (answer : Answer)
    (own lines : List WideLine)
    → start.answer ≡ record { lines = narrow_lines own } → partial ≡ partial_query start.query
    → IsMore start text numbers answer
    → narrow_lines lines ≡ (merged_answer partial (record { lines = narrow_lines own }) answer).lines
    → AddsPart start text (with_lines start numbers lines)
added start text partial numbers answer own lines start_is partial_is more merged = record {
  other = more.other;
  report = more.report;
  merged = record {
    alike = more.alike;
    same = record { words = refl; parts = refl; dimensions = refl; query = refl };
    proper = more.proper;
    numbers = more.moved;
    answer = ap (λ all. record { lines = all }) merged
        ∙ (λ i. merged_answer (partial_is i) (sym start_is i) (more.answer_is i));
  };
}

-- what is kept with it
pub still_kept : (start : Part) (text : List ℕ) (partial : Query) (numbers : List ℕ) (answer : Answer)
    (own lines : List WideLine)
    → IsKeptPart start.head start.digest start.query partial own → IsMore start text numbers answer → Rise lines
    → IsKeptPart (record { numbers = numbers; parts = start.head.parts; words = start.head.words }) start.digest
    start.query
    partial lines
still_kept start text partial numbers answer own lines kept more rise = record {
  proper = more.proper;
  digest_is = kept.digest_is;
  words = kept.words;
  partial_is = kept.partial_is;
  rise = rise;
}
