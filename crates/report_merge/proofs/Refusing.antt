-- Why texts are not merged.
use Rattle.std.proofs.Common.{◌≡◌, ◌∙◌, sym, ap, refl, subst, ℕ, true, List, length, ◌⊎◌, inl, inr, IfErr}
use Rattle.std.specs.Prelude.{◌&&◌, nat_le, nat_lt, Result, Ok, Err}
use Rattle.std.specs.List.{list_all}
use Rattle.cube_model.specs.declared.query.Query.{Query}
use Rattle.partial_reports.specs.MergeLawful.{ReportsReadBack}
use Rattle.partial_reports.specs.Parts.{partial_query}
use Rattle.partial_reports.specs.Readable.{IsReadableAnswer}
use Rattle.mode_queries.specs.declared.query.ModeQuery.{ModeQuery}
use Rattle.mode_queries.specs.Lawful.{without_modes}
use Rattle.mode_queries.proofs.CallerLemmas.{proper_without}
use Rattle.partial_reports.specs.declared.head.Head.{Head}
use Rattle.partial_reports.specs.declared.refused.Refused.{Refused as Unread}
use Rattle.partial_reports.specs.declared.refused.Refused.TheVariants.{Memory as NoMemory, At as WrongAt}
use Rattle.partial_reports.specs.declared.words.Word.{Word}
use Rattle.partial_reports.specs.Head.{are_parts, ascend_between, is_proper, is_short_word, most_parts, words_given}
use Rattle.partial_reports.specs.HeadLaws.{HeadsReadBack}
use Rattle.query_words.specs.declared.refused.Refused.{Refused as Unspelled}
use Rattle.query_words.specs.declared.refused.Refused.TheVariants.{Memory as NoMemoryForWords, NothingAsked, NotAlone}
use Rattle.query_words.specs.declared.refused.Refused.TheVariants.{NoAggregate, NoColumn, Unknown, Wrong, TooMany}
use Rattle.query_words.specs.Laws.{SpellOneQuery}
use Rattle.query_words.specs.Mistakes.{IsMistakeOf}
use Rattle.query_words.specs.Reading.{Reads}
use Rattle.query_words.specs.Words.{SpellsProper, SpellsQuery, Words}
use Rattle.ssb_reports.specs.Report.{report_of}
use Rattle.report_merge.specs.declared.refused.Refused.{Refused}
use Rattle.report_merge.specs.declared.refused.Refused.TheVariants.{Memory, Input, At, OtherWords, OtherParts}
use Rattle.report_merge.specs.declared.refused.Refused.TheVariants.{OtherDimensions, Twice}
use Rattle.report_merge.specs.Given.{no_query, unspelled}
use Rattle.report_merge.specs.Lawful.{PartialReportsAreOfOnePart}
use Rattle.report_merge.specs.Merging.{AddsPart, AreOfOne, IsMergedPart, IsPartialReport, Part, SpellsWords}
use Rattle.report_merge.specs.Refusals.{RefusesAdding, AreDisjoint, BeginsWith, IsAlike, IsLeastOfBoth, IsUnlike}
use Rattle.report_merge.specs.Refusals.{NewRefuses}
use Rattle.report_merge.specs.Refusals.{NumbersRefuse, WordsRefuse, refused_of}
use Rattle.report_merge.proofs.Gaps.{both}
use Rattle.report_merge.proofs.Given.{one_query, spelled_by}
use Rattle.report_merge.proofs.Grown.{IsRead}
use Rattle.partial_reports.proofs.HeadTexts.{heads_read_back}
use Rattle.partial_reports.proofs.ReadBack.{reports_read_back}
use Rattle.query_words.proofs.Once.{spell_one_query}

-- a text is the partial report of one part
pub one_part : HeadsReadBack → SpellOneQuery → ReportsReadBack → PartialReportsAreOfOnePart
one_part heads words reports text one other p q =
    let read = heads one.head other.head one.digest other.digest (report_of (partial_query one.query) one.answer)
    (report_of (partial_query other.query) other.answer)
    p.proper q.proper p.digest q.digest (sym p.spelled ∙ q.spelled) in
    let query : one.query ≡ other.query =
    one_query words one.head.words one.query other.query p.words
    (subst (λ (head : Head). SpellsWords head.words other.query) (sym read.0) q.words) in
    let readable : IsReadableAnswer (partial_query one.query) other.answer =
    subst (λ (asked : Query). IsReadableAnswer (partial_query asked) other.answer) (sym query) q.readable in
    let answers = reports (partial_query one.query) one.answer other.answer p.readable readable
    (read.2 ∙ ap (λ (asked : Query). report_of (partial_query asked) other.answer) (sym query)) in
    λ i. record { head = read.0 i; digest = read.1 i; query = query i; answer = answers i }

-- a text that is not read is no first part, where it is read if it is a partial report
pub new_unread : (text : List ℕ) (refused : Refused) (was : Unread)
    → ((part : Part) → IsPartialReport text part → was ≡ NoMemory) → refused ≡ refused_of was
    → NewRefuses text refused
new_unread text refused NoMemory none is = subst (NewRefuses text) (sym is) tt
new_unread text refused (WrongAt line wrong) none is =
    subst (NewRefuses text) (sym is) (λ part report. let e : WrongAt line wrong ≡ NoMemory = none part report in cc)

pub add_unread : (start : Part) (text : List ℕ) (refused : Refused) (was : Unread)
    → ((part : Part) → IsPartialReport text part → was ≡ NoMemory)
    → refused ≡ refused_of was → RefusesAdding start text refused
add_unread start text refused NoMemory none is = subst (RefusesAdding start text) (sym is) tt
add_unread start text refused (WrongAt line wrong) none is =
    subst (RefusesAdding start text) (sym is)
    (λ part report. let e : WrongAt line wrong ≡ NoMemory = none part report in cc)

-- words that spell a query are refused for memory only
pub words_memory : (words : List Word) (refused : Refused) (query : Query) → WordsRefuse words refused
    → SpellsWords words query → refused ≡ Memory
words_memory words Memory query is spelled = refl
words_memory words Input query is spelled = absurd is
words_memory words (At line wrong) query is spelled = absurd (is query spelled)
words_memory words OtherWords query is spelled = absurd is
words_memory words OtherParts query is spelled = absurd is
words_memory words OtherDimensions query is spelled = absurd is
words_memory words (Twice number) query is spelled = absurd is

-- words are refused, where they are read if they spell a query
pub words_refused : (words : List Word) (refused : Refused) → (refused ≡ Memory) ⊎ (refused ≡ no_query)
    → ((query : Query) → SpellsWords words query → refused ≡ Memory) → WordsRefuse words refused
words_refused words refused (inl memory) none = subst (WordsRefuse words) (sym memory) tt
words_refused words refused (inr wrong) none =
    subst (WordsRefuse words) (sym wrong) (λ query spelled. let e : no_query ≡ Memory = sym wrong
    ∙ none query spelled in cc)

-- words that are not read spell no query
unspelled_either : (was : Unspelled) → (unspelled was ≡ Memory) ⊎ (unspelled was ≡ no_query)
unspelled_either NoMemoryForWords = inl refl
unspelled_either NothingAsked = inr refl
unspelled_either NotAlone = inr refl
unspelled_either NoAggregate = inr refl
unspelled_either NoColumn = inr refl
unspelled_either (Unknown word known) = inr refl
unspelled_either (Wrong word mistake) = inr refl
unspelled_either (TooMany counted count most) = inr refl

pub unread_words : (given : List Word) (words : Words) (refused : Refused) (was : Unspelled)
    → given ≡ words_given words.q words.set words.by words.agg words.conditions
    → Reads (SpellsProper words) (IsMistakeOf words) (Err was) → refused ≡ unspelled was → WordsRefuse given refused
unread_words given words refused was are (inl memory) is = subst (WordsRefuse given) (sym (is ∙ ap unspelled memory)) tt
unread_words given words refused was are (inr wrong) is =
    let either = subst (λ (one : Refused). (one ≡ Memory) ⊎ (one ≡ no_query)) (sym is) (unspelled_either was) in
    words_refused given refused either
    (λ query spells. absurd (wrong.1 (without_modes query)
    (spelled_by given words query are spells, proper_without query spells.asked)))

-- words that spell a query that looks at ship modes spell none of the dimensions alone
pub moded_words : SpellOneQuery → (found : Result Query Refused) (given : List Word) (words : Words)
    (asked : ModeQuery) → given ≡ words_given words.q words.set words.by words.agg words.conditions
    → SpellsQuery words asked
    → IfErr found (λ refused. (refused ≡ no_query) × ((query : Query) → asked ≡ without_modes query → ⊥))
    → IfErr found (WordsRefuse given)
moded_words law (Ok query) given words asked are spelled is = tt
moded_words law (Err refused) given words asked are spelled is =
    words_refused given refused (inr is.0) (λ query spells. absurd
    (is.1 query (law words asked (without_modes query) spelled (spelled_by given words query are spells))))

-- a text whose words are refused is no first part
pub new_words : (text : List ℕ) (words : List Word) (refused : Refused) → WordsRefuse words refused
    → ((part : Part) → IsPartialReport text part → SpellsWords words part.query) → NewRefuses text refused
new_words text words Memory is spelled = tt
new_words text words Input is spelled = absurd is
new_words text words (At line wrong) is spelled = λ part report. is part.query (spelled part report)
new_words text words OtherWords is spelled = absurd is
new_words text words OtherParts is spelled = absurd is
new_words text words OtherDimensions is spelled = absurd is
new_words text words (Twice number) is spelled = absurd is

-- a head that is not alike
pub add_unlike : (start : Part) (text : List ℕ) (head : Head) (digest : List ℕ) (refused : Refused)
    → BeginsWith text head digest
    → IsUnlike start.head start.digest head digest refused → RefusesAdding start text refused
add_unlike start text head digest Memory begins is = absurd is
add_unlike start text head digest Input begins is = absurd is
add_unlike start text head digest (At line wrong) begins is = absurd is
add_unlike start text head digest OtherWords begins is = (head, digest, begins, is)
add_unlike start text head digest OtherParts begins is = (head, digest, begins, is)
add_unlike start text head digest OtherDimensions begins is = (head, digest, begins, is)
add_unlike start text head digest (Twice number) begins is = absurd is

-- numbers that are in already
pub add_numbers : (start : Part) (text : List ℕ) (head : Head) (digest ones others : List ℕ) (refused : Refused)
    → BeginsWith text head digest
    → IsAlike start.head start.digest head digest → ones ≡ start.head.numbers → others ≡ head.numbers
    → NumbersRefuse ones others refused → RefusesAdding start text refused
add_numbers start text head digest ones others Memory begins alike one other is = tt
add_numbers start text head digest ones others Input begins alike one other is = absurd is
add_numbers start text head digest ones others (At line wrong) begins alike one other is = absurd is
add_numbers start text head digest ones others OtherWords begins alike one other is = absurd is
add_numbers start text head digest ones others OtherParts begins alike one other is = absurd is
add_numbers start text head digest ones others OtherDimensions begins alike one other is = absurd is
add_numbers start text head digest ones others (Twice number) begins alike one other is = (
  head,
  digest,
  begins,
  (
    alike,
    subst (λ (l : List ℕ). IsLeastOfBoth l head.numbers number) one
        (subst (λ (l : List ℕ). IsLeastOfBoth ones l number) other is),
  ),
)

-- the head that a text begins with is that of the part of which it is the partial report
same_head : HeadsReadBack → (text : List ℕ) (head : Head) (digest : List ℕ) (other : Part) → BeginsWith text head digest
    → IsPartialReport text other
    → (head ≡ other.head) × (digest ≡ other.digest)
same_head heads text head digest other begins report =
    let read = heads head other.head digest other.digest begins.left
    (report_of (partial_query other.query) other.answer) begins.proper report.proper begins.digest_is report.digest
    (sym begins.spelled ∙ report.spelled) in
    (read.0, read.1)

-- one more part of the whole, whose numbers are not in, is refused for memory only
pub add_memory : HeadsReadBack → (start other : Part) (text : List ℕ) (refused : Refused)
    → RefusesAdding start text refused → IsPartialReport text other
    → AreOfOne start other → AreDisjoint start.head.numbers other.head.numbers → refused ≡ Memory
add_memory heads start other text Memory is report alike apart = refl
add_memory heads start other text Input is report alike apart = absurd is
add_memory heads start other text (At line wrong) is report alike apart = absurd (is other report)
add_memory heads start other text OtherWords is report alike apart =
    let same = same_head heads text is.0 is.1 other is.2 report in
    absurd (is.3 (ap (λ (head : Head). head.words) same.0 ∙ alike.words))
add_memory heads start other text OtherParts is report alike apart =
    let same = same_head heads text is.0 is.1 other is.2 report in
    absurd (is.3.1 (ap (λ (head : Head). head.parts) same.0 ∙ alike.parts))
add_memory heads start other text OtherDimensions is report alike apart =
    let same = same_head heads text is.0 is.1 other is.2 report in
    absurd (is.3.2 (same.1 ∙ alike.dimensions))
add_memory heads start other text (Twice number) is report alike apart =
    let same = same_head heads text is.0 is.1 other is.2 report in
    let least = subst (λ (head : Head). IsLeastOfBoth start.head.numbers head.numbers number) same.0 is.3.1 in
    absurd (apart number least.one least.other)

-- what was added is that part
pub add_whole : PartialReportsAreOfOnePart → (start other next : Part) (text : List ℕ) → AddsPart start text next
    → IsPartialReport text other → IsMergedPart start other next
add_whole one start other next text adds report =
    subst (λ (part : Part). IsMergedPart start part next) (one text adds.other other adds.report report) adds.merged

-- the numbers of a proper head ascend
pub proper_ascend : (head : Head) → is_proper head ≡ true → ascend_between 0 head.parts head.numbers ≡ true
proper_ascend head proper =
    let halves = both (are_parts head.parts head.numbers) (list_all is_short_word head.words) proper in
    let few = both (nat_le head.parts most_parts)
    (nat_lt 0 (length head.numbers) && ascend_between 0 head.parts head.numbers) halves.first in
    (both (nat_lt 0 (length head.numbers)) (ascend_between 0 head.parts head.numbers) few.second).second

-- the report that a text has is that of the part
pub answer_read : (text : List ℕ) (part : Part) (query partial : Query) (report : List ℕ) → IsPartialReport text part
    → part.query ≡ query → partial ≡ partial_query query
    → report ≡ report_of (partial_query part.query) part.answer → IsRead partial report part.answer
answer_read text part query partial report is same partial_is left =
    let asked : partial_query part.query ≡ partial = ap partial_query same ∙ sym partial_is in
    record {
      text = left ∙ ap (λ (q : Query). report_of q part.answer) asked;
      readable = subst (λ (q : Query). IsReadableAnswer q part.answer) asked is.readable;
      rising = is.rising;
    }

-- the law of parts, as others cite it
pub partial_reports_are_of_one_part : PartialReportsAreOfOnePart
partial_reports_are_of_one_part = one_part heads_read_back spell_one_query reports_read_back
