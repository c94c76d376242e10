use Rattle.std.proofs.Common.{◌≡◌, ◌<◌, ◌∙◌, ap, ℕ, List, get_or, arith}
use Rattle.cube_model.specs.Places.{row_count_of, row_index_of}
use Rattle.lattice.specs.declared.level.Level.TheVariants as level
use Rattle.cuboid_upkeep.specs.Codes.{member_code}
use Rattle.cuboid_upkeep.proofs.Coded.{not_all}
use Rattle.cuboid_upkeep.proofs.Members.{own_digit}
use Rattle.cuboid_upkeep.proofs.member_codes.MemberCodes.code.Goals as goal

pub returns-clause-some : goal.returns-clause-some
returns-clause-some g c =
    let own : ℕ = c.row_index-own.result in
    let apart = λ (is : c.args.grouped ≡ level.All). absurd (cc (c.is_all.ensures.1 is, c.if-is_all.false)) in
    let row : own < row_count_of c.args.dims.now c.args.axis =
    omega (arith, c.if-own-row_count.false, c.row_count.ensures.count) in
    let have = c.requires.codes.each apart own row in
    c.code_at-code.ensures ∙ ap (λ (l : List ℕ). get_or l own 0) c.as_slice.ensures.value ∙ have.is
    ∙ ap (member_code c.args.dims.now c.args.axis c.args.grouped)
    (c.row_index-own.ensures ∙ ap (row_index_of c.args.dims.now c.args.axis) c.key.ensures)

pub returns-clause-apart : goal.returns-clause-apart
returns-clause-apart g c =
    let own : ℕ = c.row_index-own.result in
    let apart = λ (is : c.args.grouped ≡ level.All). absurd (cc (c.is_all.ensures.1 is, c.if-is_all.false)) in
    let row : own < row_count_of c.args.dims.now c.args.axis =
    omega (arith, c.if-own-row_count.false, c.row_count.ensures.count) in
    let have = c.requires.codes.each apart own row in
    let is = c.code_at-code.ensures ∙ ap (λ (l : List ℕ). get_or l own 0) c.as_slice.ensures.value ∙ have.is in
    not_all c.args.grouped c.code_at-code.result apart (omega (arith, is, have.below))

pub returns-clause-low : goal.returns-clause-low
returns-clause-low g c =
    let own : ℕ = c.row_index-own.result in
    let apart = λ (is : c.args.grouped ≡ level.All). absurd (cc (c.is_all.ensures.1 is, c.if-is_all.false)) in
    let row : own < row_count_of c.args.dims.now c.args.axis =
    omega (arith, c.if-own-row_count.false, c.row_count.ensures.count) in
    let have = c.requires.codes.each apart own row in
    let read = c.code_at-code.ensures ∙ ap (λ (l : List ℕ). get_or l own 0) c.as_slice.ensures.value in
    let below = c.requires.codes.above own have.within in
    omega (arith, read, below, own_digit c.code_at-code.result (omega (arith, read, have.is, have.below)))
