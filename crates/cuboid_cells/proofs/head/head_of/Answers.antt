use Rattle.std.proofs.Common.{◌<◌, ℕ, List, length, ◌++◌, drop, refl, ap, subst, arith}
use Rattle.cuboid_cells.specs.Reading.{IsHeaderOf, ReadsRunHeader}
use Rattle.cuboid_cells.proofs.Continuing.{on_text}
use Rattle.cuboid_cells.proofs.Decoded.{header_is_of, too_short}
use Rattle.cuboid_cells.proofs.head.head_of.Goals as goal

pub returns-in_default-clause-none : goal.returns-in_default-clause-none
returns-in_default-clause-none c = λ text many gives span plain is.
    let few : length c.new-cursor.result < 20 = c.in_default.ensures.short.0 refl in
    let short : length text < 20 = omega (arith, few, ap length c.new-cursor.ensures, c.requires, many) in
    too_short text short span plain is

pub returns-in-None-clause-none : goal.returns-in-None-clause-none
returns-in-None-clause-none c = λ text many gives span plain is.
    let header = c.in-Ok.header in
    let reads = subst (λ (bytes : List ℕ). ReadsRunHeader bytes c.read_header.new.cursor header) c.new-cursor.ensures
    c.in-Ok.ensures.ok in
    let own = on_text text c.args.bytes.now c.read_header.new.cursor header gives reads in
    c.in-None.ensures.none plain.view (subst (λ (n : ℕ). IsHeaderOf n header plain.view) many
    (header_is_of text (c.read_header.new.cursor ++ drop (length c.args.bytes.now) text) header own span plain is))
