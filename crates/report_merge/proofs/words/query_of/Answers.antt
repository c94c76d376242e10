use Rattle.std.proofs.Common.{◌≡◌, ◌∙◌, ◌++◌, ◌⊎◌, ap, sym, subst, inr, map, List}
use Rattle.std.specs.Option.{option_map}
use Rattle.std.proofs.lemmas.Result.{err_from_is_err_and}
use Rattle.partial_reports.specs.declared.words.Word.{Word}
use Rattle.partial_reports.specs.declared.words.WordKind.TheVariants.{Q, Set, By, Agg}
use Rattle.partial_reports.specs.Head.{word_if_any}
use Rattle.query_words.specs.Words.{SpellsProper, Words}
use Rattle.report_merge.specs.declared.refused.Refused.{Refused}
use Rattle.report_merge.specs.declared.refused.Refused.TheVariants.{Memory}
use Rattle.report_merge.specs.Given.{no_query}
use Rattle.report_merge.proofs.Given.{spelled_if}
use Rattle.report_merge.proofs.Refusing.{moded_words, unread_words, words_refused}
use Rattle.report_merge.proofs.WordsLemmas.{after_agg, after_by, after_q, after_set, last_given, next_agg, next_by}
use Rattle.report_merge.proofs.WordsLemmas.{next_q, next_set}
use Rattle.query_words.proofs.Once.{spell_one_query}
use Rattle.report_merge.proofs.words.query_of.Goals as goal

pub returns-in_err-q-clause-refused : goal.returns-in_err-q-clause-refused
returns-in_err-q-clause-refused c =
    let given = c.args.words.now in
    let p = err_from_is_err_and c.from_residual.result c.from_residual.ensures.1 in
    rw p.1 (words_refused given p.0 (inr (p.2 ∙ c.in_err-q.ensures.only))
    (λ query spells. absurd
    (c.in_err-q.ensures.complete spells.words.q (after_q spells.words) (next_q given query spells))))

pub returns-in_err-set-clause-refused : goal.returns-in_err-set-clause-refused
returns-in_err-set-clause-refused c =
    let given = c.args.words.now in
    let p = err_from_is_err_and c.from_residual-in_err-set.result c.from_residual-in_err-set.ensures.1 in
    rw p.1 (words_refused given p.0 (inr (p.2 ∙ c.in_err-set.ensures.only)) (λ query spells.
    let q = c.in_ok-q.ensures.complete spells.words.q (after_q spells.words) (next_q given query spells) in
    absurd (c.in_err-set.ensures.complete spells.words.set (after_set spells.words)
    (next_set given query spells c.in_ok-q.left.now q.1))))

pub returns-in_err-by-clause-refused : goal.returns-in_err-by-clause-refused
returns-in_err-by-clause-refused c =
    let given = c.args.words.now in
    let p = err_from_is_err_and c.from_residual-in_err-by.result c.from_residual-in_err-by.ensures.1 in
    rw p.1 (words_refused given p.0 (inr (p.2 ∙ c.in_err-by.ensures.only)) (λ query spells.
    let q = c.in_ok-q.ensures.complete spells.words.q (after_q spells.words) (next_q given query spells) in
    let set = c.in_ok-set.ensures.complete spells.words.set (after_set spells.words)
    (next_set given query spells c.in_ok-q.left.now q.1) in
    absurd (c.in_err-by.ensures.complete spells.words.by (after_by spells.words)
    (next_by given query spells c.in_ok-set.left.now set.1))))

pub returns-in_err-agg-clause-refused : goal.returns-in_err-agg-clause-refused
returns-in_err-agg-clause-refused c =
    let given = c.args.words.now in
    let p = err_from_is_err_and c.from_residual-in_err-agg.result c.from_residual-in_err-agg.ensures.1 in
    rw p.1 (words_refused given p.0 (inr (p.2 ∙ c.in_err-agg.ensures.only)) (λ query spells.
    let q = c.in_ok-q.ensures.complete spells.words.q (after_q spells.words) (next_q given query spells) in
    let set = c.in_ok-set.ensures.complete spells.words.set (after_set spells.words)
    (next_set given query spells c.in_ok-q.left.now q.1) in
    let by = c.in_ok-by.ensures.complete spells.words.by (after_by spells.words)
    (next_by given query spells c.in_ok-set.left.now set.1) in
    absurd (c.in_err-agg.ensures.complete spells.words.agg (after_agg spells.words)
    (next_agg given query spells c.in_ok-by.left.now by.1))))

pub returns-in_err-conditions-clause-refused : goal.returns-in_err-conditions-clause-refused
returns-in_err-conditions-clause-refused c =
    let given = c.args.words.now in
    let p = err_from_is_err_and c.from_residual-in_err-conditions.result c.from_residual-in_err-conditions.ensures.1 in
    rw p.1 (words_refused given p.0
    (subst (λ (one : Refused). (one ≡ Memory) ⊎ (one ≡ no_query)) (sym p.2) c.in_err-conditions.ensures.only)
    (λ query spells.
    let q = c.in_ok-q.ensures.complete spells.words.q (after_q spells.words) (next_q given query spells) in
    let set = c.in_ok-set.ensures.complete spells.words.set (after_set spells.words)
    (next_set given query spells c.in_ok-q.left.now q.1) in
    let by = c.in_ok-by.ensures.complete spells.words.by (after_by spells.words)
    (next_by given query spells c.in_ok-set.left.now set.1) in
    let agg = c.in_ok-agg.ensures.complete spells.words.agg (after_agg spells.words)
    (next_agg given query spells c.in_ok-by.left.now by.1) in
    p.2 ∙ c.in_err-conditions.ensures.complete (last_given given query spells c.in_ok-agg.left.now agg.1)))

pub returns-in_err-asked-clause-refused : goal.returns-in_err-asked-clause-refused
returns-in_err-asked-clause-refused c =
    let q = option_map (λ word. word.now) c.in_ok-q.q in
    let set = option_map (λ word. word.now) c.in_ok-set.set in
    let by = option_map (λ word. word.now) c.in_ok-by.by in
    let agg = option_map (λ word. word.now) c.in_ok-agg.agg in
    let words : Words =
    record {
      q = q;
      set = set;
      by = by;
      agg = agg;
      conditions =
          map (λ word. word.now) c.in_ok-conditions.conditions.items;
    } in
    let after_agg = c.in_ok-agg.ensures.ok
    ∙ ap (λ (rest : List Word). word_if_any Agg agg ++ rest) c.in_ok-conditions.ensures.ok in
    let after_by = c.in_ok-by.ensures.ok ∙ ap (λ (rest : List Word). word_if_any By by ++ rest) after_agg in
    let after_set = c.in_ok-set.ensures.ok ∙ ap (λ (rest : List Word). word_if_any Set set ++ rest) after_by in
    let are = c.in_ok-q.ensures.ok ∙ ap (λ (rest : List Word). word_if_any Q q ++ rest) after_set in
    let p = err_from_is_err_and c.from_residual-in_err-asked.result c.from_residual-in_err-asked.ensures.1 in
    rw p.1 (unread_words c.args.words.now words p.0 _ are (rw c.as_slice.ensures.value at c.in_err-asked.ensures) p.2)

pub returns-clause-ok : goal.returns-clause-ok
returns-clause-ok c =
    let q = option_map (λ word. word.now) c.in_ok-q.q in
    let set = option_map (λ word. word.now) c.in_ok-set.set in
    let by = option_map (λ word. word.now) c.in_ok-by.by in
    let agg = option_map (λ word. word.now) c.in_ok-agg.agg in
    let words : Words =
    record {
      q = q;
      set = set;
      by = by;
      agg = agg;
      conditions =
          map (λ word. word.now) c.in_ok-conditions.conditions.items;
    } in
    let after_agg = c.in_ok-agg.ensures.ok
    ∙ ap (λ (rest : List Word). word_if_any Agg agg ++ rest) c.in_ok-conditions.ensures.ok in
    let after_by = c.in_ok-by.ensures.ok ∙ ap (λ (rest : List Word). word_if_any By by ++ rest) after_agg in
    let after_set = c.in_ok-set.ensures.ok ∙ ap (λ (rest : List Word). word_if_any Set set ++ rest) after_by in
    let are = c.in_ok-q.ensures.ok ∙ ap (λ (rest : List Word). word_if_any Q q ++ rest) after_set in
    let read : SpellsProper words c.in_ok-asked.asked = rw c.as_slice.ensures.value at c.in_ok-asked.ensures in
    let utf8 = c.in_ok-q.ensures.utf8
    (c.in_ok-set.ensures.utf8
    (c.in_ok-by.ensures.utf8 (c.in_ok-agg.ensures.utf8 c.in_ok-conditions.ensures.utf8))) in
    spelled_if c.plain_of.result c.args.words.now words c.in_ok-asked.asked are utf8 read c.plain_of.ensures.ok

pub returns-clause-refused : goal.returns-clause-refused
returns-clause-refused c =
    let q = option_map (λ word. word.now) c.in_ok-q.q in
    let set = option_map (λ word. word.now) c.in_ok-set.set in
    let by = option_map (λ word. word.now) c.in_ok-by.by in
    let agg = option_map (λ word. word.now) c.in_ok-agg.agg in
    let words : Words =
    record {
      q = q;
      set = set;
      by = by;
      agg = agg;
      conditions =
          map (λ word. word.now) c.in_ok-conditions.conditions.items;
    } in
    let after_agg = c.in_ok-agg.ensures.ok
    ∙ ap (λ (rest : List Word). word_if_any Agg agg ++ rest) c.in_ok-conditions.ensures.ok in
    let after_by = c.in_ok-by.ensures.ok ∙ ap (λ (rest : List Word). word_if_any By by ++ rest) after_agg in
    let after_set = c.in_ok-set.ensures.ok ∙ ap (λ (rest : List Word). word_if_any Set set ++ rest) after_by in
    let are = c.in_ok-q.ensures.ok ∙ ap (λ (rest : List Word). word_if_any Q q ++ rest) after_set in
    let read : SpellsProper words c.in_ok-asked.asked = rw c.as_slice.ensures.value at c.in_ok-asked.ensures in
    moded_words spell_one_query c.plain_of.result c.args.words.now words c.in_ok-asked.asked are read.0
    c.plain_of.ensures.refused
