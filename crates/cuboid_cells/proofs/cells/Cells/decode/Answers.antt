use Rattle.std.proofs.Common.{ℕ, ◌<◌, List, length, IsTrue, inr, refl, ap, subst, arith}
use Rattle.std.proofs.lemmas.Result.{err_from_is_err_and}
use Rattle.cuboid_cells.specs.Reading.{ReadsRunHeader}
use Rattle.cuboid_cells.proofs.Decoded.{header_is_of, is_run, kept, they_keep, too_short}
use Rattle.cuboid_cells.proofs.cells.Cells.decode.Goals as goal

-- fewer bytes than the header has
pub returns-in_err-header-clause-refused : goal.returns-in_err-header-clause-refused
returns-in_err-header-clause-refused c =
    let refused = err_from_is_err_and c.from_residual.result c.from_residual.ensures.1 in
    let few : length c.new-cursor.result < 20 = c.in_err-header.ensures.short.0 refl in
    let short : length c.args.bytes.now < 20 = omega (arith, few, ap length c.new-cursor.ensures) in
    rw (refused.1, refused.2, c.in_err-header.ensures.fault)
    (inr (refl, λ span plain is. too_short c.args.bytes.now short span plain is))

-- the header of a run is that of its view
pub returns-in_default-clause-refused : goal.returns-in_default-clause-refused
returns-in_default-clause-refused c = inr (
  refl,
  λ span plain is.
      let reads = subst (λ (bytes : List ℕ). ReadsRunHeader bytes c.read_header.new.cursor c.in_ok-header.header)
      c.new-cursor.ensures c.in_ok-header.ensures.ok in
      c.in_default.ensures.none plain.view
      (header_is_of c.args.bytes.now c.read_header.new.cursor c.in_ok-header.header reads span plain is),
)

-- the cells of a run of these bytes are those that were read, and keep the rules
pub returns-then-not-fine-clause-refused : goal.returns-then-not-fine-clause-refused
returns-then-not-fine-clause-refused c = inr (
  refl,
  λ span plain is.
      let reads = subst (λ (bytes : List ℕ). ReadsRunHeader bytes c.read_header.new.cursor c.in_ok-header.header)
      c.new-cursor.ensures c.in_ok-header.ensures.ok in
      let keep = they_keep c.args.bytes.now c.read_header.new.cursor c.in_ok-header.header reads c.read_cells.new.cursor
      c.in-Some.view c.in_ok-cells.cells.items
      c.in-Some.ensures.some c.in_ok-cells.ensures.ok span plain is in
      let yes : IsTrue c.in_ok-cells.fine = c.in_ok-cells.ensures.rules.1 (keep.each, keep.ascending) in
      cc c.if-not-fine.true,
)

pub returns-clause-ok : goal.returns-clause-ok
returns-clause-ok c =
    let reads = subst (λ (bytes : List ℕ). ReadsRunHeader bytes c.read_header.new.cursor c.in_ok-header.header)
    c.new-cursor.ensures c.in_ok-header.ensures.ok in
    let rules = kept c.in-Some.view c.in_ok-header.header.cells c.read_header.new.cursor c.read_cells.new.cursor
    c.in_ok-cells.cells.items c.in_ok-cells.ensures.ok
    c.in-Some.ensures.some.rest.few (c.in_ok-cells.ensures.rules.0 c.if-not-fine.false) in
    is_run c.args.bytes.now c.read_header.new.cursor c.in_ok-header.header reads c.read_cells.new.cursor c.in-Some.view
    c.in_ok-cells.cells.items
    c.in-Some.ensures.some c.in_ok-cells.ensures.ok rules

pub invariant_of-result : goal.invariant_of-result
invariant_of-result c = record {
  rules = kept c.in-Some.view c.in_ok-header.header.cells c.read_header.new.cursor c.read_cells.new.cursor
      c.in_ok-cells.cells.items c.in_ok-cells.ensures.ok
      c.in-Some.ensures.some.rest.few (c.in_ok-cells.ensures.rules.0 c.if-not-fine.false);
  fit = λ k d within. (c.in_ok-cells.ensures.ok.readable k d within).fits;
}
