use Rattle.std.proofs.Common.{◌<◌, ℕ, List, [], ◌∷◌, ap, sym, subst}
use Rattle.cube_model.specs.declared.attr.Axis.{Axis}
use Rattle.cube_model.specs.Places.{row_count_of}
use Rattle.table_texts.proofs.Counting.{first-within}
use Rattle.table_texts.proofs.ListingLemmas.{line-is}
use Rattle.table_texts.proofs.Ranks.{axes}
use Rattle.ssb_reports.specs.Writing.{Writes}
use Rattle.table_texts.proofs.listing.write_line.Goals as goal

pub text_at-requires : goal.text_at-requires
text_at-requires g c =
    subst (λ (axis : Axis). c.args.tally.first < row_count_of c.args.dims.now axis)
    (sym (axes c.args.attr (c.in-One.next ∷ []) c.in-One.ensures).0)
    (first-within c.args.dims.now c.args.attr c.args.rank c.requires.rank c.args.tally c.requires.tally)

pub text_at-requires-in-Two : goal.text_at-requires-in-Two
text_at-requires-in-Two g c =
    subst (λ (axis : Axis). c.args.tally.first < row_count_of c.args.dims.now axis)
    (sym (axes c.args.attr (c.in-Two.next ∷ c.in-Two.top ∷ []) c.in-Two.ensures).0)
    (first-within c.args.dims.now c.args.attr c.args.rank c.requires.rank c.args.tally c.requires.tally)

pub text_at-requires-in-Two-2 : goal.text_at-requires-in-Two-2
text_at-requires-in-Two-2 g c =
    subst (λ (axis : Axis). c.args.tally.first < row_count_of c.args.dims.now axis)
    (sym (axes c.args.attr (c.in-Two.next ∷ c.in-Two.top ∷ []) c.in-Two.ensures).1.0)
    (first-within c.args.dims.now c.args.attr c.args.rank c.requires.rank c.args.tally c.requires.tally)

pub returns-in-One : goal.returns-in-One
returns-in-One g c =
    let line = line-is c.args.dims.now c.args.attr c.args.rank c.requires.rank c.args.tally c.requires.tally
    c.member.result.now (c.in-One.next ∷ []) (c.text_at.result.now ∷ [])
    c.member.ensures c.in-One.ensures (ap (λ (text : List ℕ). text ∷ []) c.text_at.ensures) in
    subst (λ (text : List ℕ). Writes (g.W.Write.contents c.args.out.now) (g.W.Write.contents c.write_row-in-One.new.out)
    c.write_row-in-One.result text) line
    (rw (c.as_slice-in-One.ensures, c.as_slice-count.ensures) at c.write_row-in-One.ensures)

pub returns-in-Two : goal.returns-in-Two
returns-in-Two g c =
    let line = line-is c.args.dims.now c.args.attr c.args.rank c.requires.rank c.args.tally c.requires.tally
    c.member.result.now (c.in-Two.next ∷ c.in-Two.top ∷ [])
    (c.text_at-in-Two.result.now ∷ c.text_at-in-Two-2.result.now ∷ [])
    c.member.ensures c.in-Two.ensures (λ i. c.text_at-in-Two.ensures i ∷ c.text_at-in-Two-2.ensures i ∷ []) in
    subst (λ (text : List ℕ). Writes (g.W.Write.contents c.args.out.now) (g.W.Write.contents c.write_row-in-Two.new.out)
    c.write_row-in-Two.result text) line
    (rw (c.as_slice-in-Two.ensures, c.as_slice-count.ensures) at c.write_row-in-Two.ensures)
