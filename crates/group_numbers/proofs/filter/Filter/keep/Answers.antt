use Rattle.std.proofs.Common.{◌∙◌, ◌<◌, sym, ap, subst, arith, length, slice_index_or}
use Rattle.std.proofs.lemmas.List.{get_or_default}
use Rattle.group_numbers.specs.Filters.{passes}
use Rattle.group_numbers.proofs.Filtering.{pass_more, read_there}
use Rattle.group_numbers.proofs.filter.Filter.keep.Goals as goal

pub key-requires : goal.key-requires
key-requires g c =
    let inside : c.loop-i.i < length c.args.places.now =
    omega (arith, c.loop-i-test.true, c.loop-i.invariant.long, c.loop-i.auto.places) in
    subst (λ place. place < length (g.F.FactRows.rows c.args.rows.now)) (sym (read_there c.loop-i.invariant 0))
    (c.requires c.loop-i.i 0 inside)

pub loop-i-preserved : goal.loop-i-preserved
loop-i-preserved g c =
    let place = slice_index_or c.loop-i.places c.loop-i.i 0 in
    let within : c.loop-i.i < length c.loop-i.places =
    omega (arith, c.loop-i-test.true, c.loop-i.invariant.long, c.loop-i.auto.places) in
    pass_more place c.from-kept.result c.lets_pass.result c.loop-i.invariant within
    (get_or_default c.loop-i.places c.loop-i.i 0 place within)
    (sym (c.lets_pass.ensures ∙ ap (passes c.args.self.now) c.key.ensures)) c.from-kept.ensures
