use Rattle.std.proofs.Common.{rules, ◌≡◌, ◌<◌, ◌∷◌, sym, subst, length, arith}
use Rattle.std.proofs.lemmas.Grind.{common_steps}
use Rattle.std.proofs.lemmas.Result.{IfOk-weaker}
use Rattle.report_merge.specs.declared.refused.Unmerged.{Unmerged}
use Rattle.report_merge.specs.Mergeable.{CanMerge, IsOutside}
use Rattle.report_merge.proofs.ReadersLemmas.{all_merged, can_first, no_texts, split}
use Rattle.report_merge.proofs.Refusing.{partial_reports_are_of_one_part}
use Rattle.report_merge.proofs.readers.merge_readers.Goals as goal

pub returns-in-Ok-clause-ok : goal.returns-in-Ok-clause-ok
returns-in-Ok-clause-ok g c =
    let some : 0 < length c.args.readers.items =
    first_of (omega (arith, c.remove-reader.ensures.len), search rules, grind (arith, common_steps)) in
    IfOk-weaker c.add_all.result _ _
    (λ whole merges texts e. all_merged g.R.Read.remaining c.in-Ok.merge whole c.args.readers.items
    c.remove-reader.new.self.items c.remove-reader.result texts some
    c.remove-reader.ensures.value c.remove-reader.ensures.items c.in-Ok.ensures.ok merges e)
    c.add_all.ensures.ok

pub returns-in-Ok-clause-complete : goal.returns-in-Ok-clause-complete
returns-in-Ok-clause-complete g c = λ texts e can.
    let some : 0 < length c.args.readers.items =
    first_of (omega (arith, c.remove-reader.ensures.len), search rules, grind (arith, common_steps)) in
    let s = split g.R.Read.remaining c.args.readers.items c.remove-reader.new.self.items c.remove-reader.result texts
    some c.remove-reader.ensures.value c.remove-reader.ensures.items e in
    c.add_all.ensures.complete s.others s.more
    (can_first partial_reports_are_of_one_part s.text s.others texts c.in-Ok.merge s.are can
    (c.in-Ok.ensures.ok s.text s.one))

pub returns-in-Err-clause-complete : goal.returns-in-Err-clause-complete
returns-in-Err-clause-complete g c = λ texts e can.
    let some : 0 < length c.args.readers.items =
    first_of (omega (arith, c.remove-reader.ensures.len), search rules, grind (arith, common_steps)) in
    let s = split g.R.Read.remaining c.args.readers.items c.remove-reader.new.self.items c.remove-reader.result texts
    some c.remove-reader.ensures.value c.remove-reader.ensures.items e in
    let all : CanMerge (s.text ∷ s.others) = subst CanMerge s.are can in
    subst (λ (found : Unmerged). IsOutside found.refused) (sym c.unmerged-in-Err.ensures)
    (c.in-Err.ensures.complete s.text all.0 s.one all.1)

pub returns-then-is_empty-clause-complete : goal.returns-then-is_empty-clause-complete
returns-then-is_empty-clause-complete g c =
    let none : length c.args.readers.items ≡ 0 = first_of (search rules, grind (arith, common_steps)) in
    λ texts e can. absurd (no_texts g.R.Read.remaining c.args.readers.items texts none e can)
