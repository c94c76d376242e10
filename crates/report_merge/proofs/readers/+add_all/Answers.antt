use Rattle.std.proofs.Common.{rules, ◌≡◌, ◌<◌, ◌∷◌, sym, subst, length, arith}
use Rattle.std.proofs.lemmas.Grind.{common_steps}
use Rattle.std.proofs.lemmas.Result.{IfOk-weaker}
use Rattle.report_merge.specs.declared.refused.Unmerged.{Unmerged}
use Rattle.report_merge.specs.Mergeable.{CanAdd, IsOutside}
use Rattle.report_merge.proofs.ReadersLemmas.{can_next, first_more, no_more, split}
use Rattle.report_merge.proofs.Refusing.{partial_reports_are_of_one_part}
use Rattle.report_merge.proofs.readers.+add_all.Goals as goal

pub returns-in-Ok-clause-ok : goal.returns-in-Ok-clause-ok
returns-in-Ok-clause-ok g t c =
    let some : 0 < length c.args.readers.items =
    first_of (omega (arith, c.remove-reader.ensures.len), search rules, grind (arith, common_steps)) in
    IfOk-weaker c.add_all.result _ _
    (λ whole merges texts e. first_more g.R.Read.remaining c.args.merge c.in-Ok.merge whole c.args.readers.items
    c.remove-reader.new.self.items
    c.remove-reader.result texts some c.remove-reader.ensures.value c.remove-reader.ensures.items c.in-Ok.ensures.ok
    merges e)
    c.add_all.ensures.ok

pub returns-then-is_empty-clause-ok : goal.returns-then-is_empty-clause-ok
returns-then-is_empty-clause-ok g t c =
    let none : length c.args.readers.items ≡ 0 = first_of (search rules, grind (arith, common_steps)) in
    λ texts e. no_more g.R.Read.remaining c.args.merge c.args.readers.items texts none e

pub returns-in-Ok-clause-complete : goal.returns-in-Ok-clause-complete
returns-in-Ok-clause-complete g t c = λ texts e can.
    let some : 0 < length c.args.readers.items =
    first_of (omega (arith, c.remove-reader.ensures.len), search rules, grind (arith, common_steps)) in
    let s = split g.R.Read.remaining c.args.readers.items c.remove-reader.new.self.items c.remove-reader.result texts
    some c.remove-reader.ensures.value c.remove-reader.ensures.items e in
    c.add_all.ensures.complete s.others s.more
    (can_next partial_reports_are_of_one_part s.text s.others texts c.args.merge c.in-Ok.merge s.are can
    (c.in-Ok.ensures.ok s.text s.one))

pub returns-in-Err-clause-complete : goal.returns-in-Err-clause-complete
returns-in-Err-clause-complete g t c = λ texts e can.
    let some : 0 < length c.args.readers.items =
    first_of (omega (arith, c.remove-reader.ensures.len), search rules, grind (arith, common_steps)) in
    let s = split g.R.Read.remaining c.args.readers.items c.remove-reader.new.self.items c.remove-reader.result texts
    some c.remove-reader.ensures.value c.remove-reader.ensures.items e in
    let all : CanAdd c.args.merge (s.text ∷ s.others) = subst (CanAdd c.args.merge) s.are can in
    subst (λ (found : Unmerged). IsOutside found.refused) (sym c.unmerged.ensures)
    (c.in-Err.ensures.complete s.text all.0 s.one all.1 all.2 all.3)
