use Rattle.std.proofs.Common.{arith, sym, subst}
use Rattle.query_words.specs.Spelled.{SpellsAfter}
use Rattle.query_words.proofs.Signs.{lists, no_list}
use Rattle.query_words.proofs.conditions.read_list.Goals as goal

pub returns-in_default : goal.returns-in_default
returns-in_default c = no_list c.args.name c.args.subject c.args.list.now c.of.result c.requires c.in_default.not-Member
    c.of.ensures

pub returns : goal.returns
returns c =
    subst (SpellsAfter c.args.subject 61 c.args.list.now) (sym c.one_of.ensures)
    (lists c.args.subject c.in-Member.column c.args.list.now c.in_ok-copies.field-0 c.as_slice.result.now
    c.in_ok-texts.texts.items
    c.in-Member.is c.in_ok-copies.ensures c.as_slice.ensures.value c.in_ok-texts.ensures (omega
    (arith, c.if-len-gt-MOST_LISTED_TEXTS.false, c.len.ensures)))
