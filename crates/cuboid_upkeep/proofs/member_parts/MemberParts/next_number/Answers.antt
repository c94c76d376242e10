use Rattle.std.proofs.Common.{◌<◌, ◌+◌, ◌*◌, subst}
use Rattle.cuboid_upkeep.proofs.Unwanted.{none_unselected, some_unselected}
use Rattle.cuboid_upkeep.proofs.member_parts.MemberParts.next_number.Goals as goal

pub returns-in_default : goal.returns-in_default
returns-in_default c =
    none_unselected c.args.self.now c.args.before c.args.unit c.args.from c.saturating_sub-first.result c.requires.unit
    c.saturating_sub-first.ensures c.in_default.ensures.none

pub returns : goal.returns
returns c = λ code rest within low high less.
    some_unselected c.args.self.now c.args.before c.args.unit c.args.from c.saturating_sub-first.result c.in-Some.code
    c.requires.unit c.saturating_sub-first.ensures c.in-Some.ensures.some code rest within low high
    (subst (λ n. (c.args.before + code) * c.args.unit + rest < (c.args.before + n) * c.args.unit) c.from-2.ensures less)
