use Rattle.std.proofs.Common.{◌≡◌, refl, arith, codes}
use Rattle.std.proofs.lemmas.Result.{IfOk-weaker}
use Rattle.dimension_objects.specs.Spelled.{axis_number}
use Rattle.dimension_objects.proofs.ReadingLemmas.{header_is, none_axis, none_name, none_number, none_rows_left}
use Rattle.dimension_objects.proofs.ReadingLemmas.{name_differs, name_is_same}
use Rattle.dimension_objects.proofs.reading.read_header.Goals as goal

pub returns-then-ne-clause-none : goal.returns-then-ne-clause-none
returns-then-ne-clause-none c = λ err.
    none_name c.args.axis _ _ _ c.in_ok-bytes.ensures.value
    (name_differs c.in_ok-bytes.field-0.now (codes "DIM1") _ c.ne.ensures c.if-ne.true)

pub returns-in_err-u32-clause-none : goal.returns-in_err-u32-clause-none
returns-in_err-u32-clause-none c =
    λ err. none_number c.args.axis _ _ _ c.in_ok-bytes.ensures.value (c.in_err-u32.ensures.short.0 refl)

pub returns-then-branch-axis_number-clause-none : goal.returns-then-branch-axis_number-clause-none
returns-then-branch-axis_number-clause-none c = λ err.
    none_axis c.args.axis _ _ _ c.in_ok-bytes.ensures.value _ _ c.in_ok-u32.ensures.value
    (λ same. absurd (omega (arith, same, c.axis_number.ensures, c.if-branch-axis_number.true)))

pub returns-clause-ok : goal.returns-clause-ok
returns-clause-ok c =
    let name : c.in_ok-bytes.field-0.now ≡ codes "DIM1" =
    name_is_same c.in_ok-bytes.field-0.now (codes "DIM1") _ c.ne.ensures c.if-ne.false in
    let own : c.in_ok-u32.field-0 ≡ axis_number c.args.axis =
    omega (arith, c.if-branch-axis_number.false, c.axis_number.ensures) in
    IfOk-weaker c.u32-2.result _ _
    (λ rows read. header_is c.args.axis _ _ _ c.in_ok-bytes.ensures.value _ _ c.in_ok-u32.ensures.value _ rows name
    own read) c.u32-2.ensures.value

pub returns-clause-none : goal.returns-clause-none
returns-clause-none c =
    λ err. none_rows_left c.args.axis _ _ _ c.in_ok-bytes.ensures.value _ _ c.in_ok-u32.ensures.value
    (c.u32-2.ensures.short.0 err)
