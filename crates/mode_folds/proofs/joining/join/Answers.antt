use Rattle.std.proofs.Common.{◌≡◌, ◌∙◌, sym, ap, subst, rules, true, false, arith}
use Rattle.std.proofs.lemmas.Grind.{common_steps}
use Rattle.std.proofs.lemmas.Iterator.Adapters.{YieldsList-from_vec}
use Rattle.std.proofs.lemmas.Iterator.Consumers.{YieldsList-end}
use Rattle.std.proofs.lemmas.List.{map-id}
use Rattle.std.specs.Prelude.{is_some}
use Rattle.std.specs.Option.{option_map}
use Rattle.mode_folds.proofs.JoiningLemmas.{Gathers, gathers_kept, gathers_other, is_some-map}
use Rattle.mode_queries.specs.Joining.{is_kept}
use Rattle.mode_folds.proofs.joining.join.Goals as goal

pub loop-line-preserved-in_ok-insert : goal.loop-line-preserved-in_ok-insert
loop-line-preserved-in_ok-insert c =
    let mode = option_map (λ mode. mode.now) c.args.mode in
    let kept : is_kept c.args.kind c.args.place (is_some mode) c.in-Some.line.key ≡ true =
    ap (λ b. is_kept c.args.kind c.args.place b c.in-Some.line.key) (is_some-map (λ mode. mode.now) c.args.mode)
    ∙ search (rules, c.is_kept.ensures, c.is_some.ensures, c.if-is_kept.true) in
    gathers_kept c.args.kind c.args.place mode c.args.lines.now c.loop-line.lines c.insert.new.self
    c.loop-line.yielded c.in-Some.line c.in_ok-key.key c.loop-line.invariant kept c.in_ok-key.ensures
    c.in_ok-insert.ensures.updates

pub loop-line-preserved-in_ok-insert-2 : goal.loop-line-preserved-in_ok-insert-2
loop-line-preserved-in_ok-insert-2 c =
    let mode = option_map (λ mode. mode.now) c.args.mode in
    let kept : is_kept c.args.kind c.args.place (is_some mode) c.in-Some.line.key ≡ true =
    ap (λ b. is_kept c.args.kind c.args.place b c.in-Some.line.key) (is_some-map (λ mode. mode.now) c.args.mode)
    ∙ search (rules, c.is_kept.ensures, c.is_some.ensures, c.if-is_kept.true) in
    gathers_kept c.args.kind c.args.place mode c.args.lines.now c.loop-line.lines c.insert.new.self
    c.loop-line.yielded c.in-Some.line c.in_ok-key.key c.loop-line.invariant kept c.in_ok-key.ensures
    c.in_ok-insert.ensures.updates

pub loop-line-preserved : goal.loop-line-preserved
loop-line-preserved c =
    let mode = option_map (λ mode. mode.now) c.args.mode in
    let kept : is_kept c.args.kind c.args.place (is_some mode) c.in-Some.line.key ≡ false =
    ap (λ b. is_kept c.args.kind c.args.place b c.in-Some.line.key) (is_some-map (λ mode. mode.now) c.args.mode)
    ∙ search (rules, c.is_kept.ensures, c.is_some.ensures, c.if-is_kept.false) in
    gathers_other c.args.kind c.args.place mode c.args.lines.now c.loop-line.lines c.loop-line.yielded
    c.in-Some.line c.loop-line.invariant kept

pub returns-clause-ok : goal.returns-clause-ok
returns-clause-ok c =
    let mode = option_map (λ mode. mode.now) c.args.mode in
    let gives = c.into_iter-line-iterator.ensures.into_iter_gives in
    let ends = YieldsList-end
    (YieldsList-from_vec {s = c.into_iter-line-iterator.result} c.into_vec-line-items.result.items gives.0
    (first_of (omega (arith, gives.1), cc, search rules, grind (arith, common_steps)))) c.loop-line.yielded
    c.loop-line.line-iterator c.loop-line.yielded_by c.next.result c.next.new.self c.in-None.is
    c.next.ensures.steps in
    let whole : c.loop-line.yielded ≡ c.args.found.lines = sym (map-id c.loop-line.yielded) ∙ ends.0
    ∙ c.into_vec-line-items.ensures in
    subst (λ lines. Gathers c.args.kind c.args.place mode c.args.lines.now lines c.loop-line.lines) whole
    c.loop-line.invariant
