use Rattle.std.proofs.Common.{◌≡◌, ◌<◌, ◌∙◌, sym, refl, codes, length, arith}
use Rattle.object_store.proofs.CatalogueLemmas.{header_read, name_of, name_differs, name_is_same, too_short}
use Rattle.object_store.proofs.catalogue.reading.read_header.Goals as goal

pub returns-then-ne-clause-none : goal.returns-then-ne-clause-none
returns-then-ne-clause-none c = λ err entries root rest is.
    name_differs _ _ _ c.ne.ensures c.if-ne.true (name_of _ _ _ entries root rest c.in_ok-bytes.ensures.value is
    ∙ sym c.as_slice.ensures)

pub returns-in_err-u32-clause-none : goal.returns-in_err-u32-clause-none
returns-in_err-u32-clause-none c = λ err entries root rest is.
    let short : length c.bytes.new.self < 4 = c.in_err-u32.ensures.short.0 refl in
    too_short _ entries root rest (omega (arith, c.in_ok-bytes.ensures.value.left)) is

pub returns-in_err-u32-2-clause-none : goal.returns-in_err-u32-2-clause-none
returns-in_err-u32-2-clause-none c = λ err entries root rest is.
    let short : length c.u32.new.self < 4 = c.in_err-u32-2.ensures.short.0 refl in
    too_short _ entries root rest (omega (arith, c.in_ok-bytes.ensures.value.left, c.in_ok-u32.ensures.value.left)) is

pub returns-clause-ok : goal.returns-clause-ok
returns-clause-ok c =
    let name : c.in_ok-bytes.field-0.now ≡ codes "CAT1" = name_is_same _ _ _ c.ne.ensures c.if-ne.false
    ∙ c.as_slice.ensures in
    header_read _ _ _ _ _ _ _ c.in_ok-bytes.ensures.value name c.in_ok-u32.ensures.value c.in_ok-u32-2.ensures.value
