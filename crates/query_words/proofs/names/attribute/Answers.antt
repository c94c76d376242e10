use Rattle.std.proofs.Common.{◌≡◌, sym, arith}
use Rattle.cube_model.specs.declared.attr.Attr.TheVariants.{CustomerCity, CustomerNation, CustomerRegion, SupplierCity}
use Rattle.cube_model.specs.declared.attr.Attr.TheVariants.{SupplierNation, SupplierRegion, PartBrand1, PartCategory}
use Rattle.cube_model.specs.declared.attr.Attr.TheVariants.{PartMfgr, DateKey, DateYearmonthnum, DateYear}
use Rattle.cube_model.specs.declared.attr.Attr.TheVariants.{DateYearmonth, DateWeeknuminyear}
use Rattle.cube_model.specs.Names.{attr_name}
use Rattle.query_words.proofs.names.attribute.Goals as goal

pub returns : goal.returns
returns c = λ value. elim value as (λ one. c.args.name.now ≡ attr_name one → ⊥) [
  | CustomerCity ↦ λ e. c.loop-attr.invariant 0 (omega arith) (sym e)
  | CustomerNation ↦ λ e. c.loop-attr.invariant 1 (omega arith) (sym e)
  | CustomerRegion ↦ λ e. c.loop-attr.invariant 2 (omega arith) (sym e)
  | SupplierCity ↦ λ e. c.loop-attr.invariant 3 (omega arith) (sym e)
  | SupplierNation ↦ λ e. c.loop-attr.invariant 4 (omega arith) (sym e)
  | SupplierRegion ↦ λ e. c.loop-attr.invariant 5 (omega arith) (sym e)
  | PartBrand1 ↦ λ e. c.loop-attr.invariant 6 (omega arith) (sym e)
  | PartCategory ↦ λ e. c.loop-attr.invariant 7 (omega arith) (sym e)
  | PartMfgr ↦ λ e. c.loop-attr.invariant 8 (omega arith) (sym e)
  | DateKey ↦ λ e. c.loop-attr.invariant 9 (omega arith) (sym e)
  | DateYearmonthnum ↦ λ e. c.loop-attr.invariant 10 (omega arith) (sym e)
  | DateYear ↦ λ e. c.loop-attr.invariant 11 (omega arith) (sym e)
  | DateYearmonth ↦ λ e. c.loop-attr.invariant 12 (omega arith) (sym e)
  | DateWeeknuminyear ↦ λ e. c.loop-attr.invariant 13 (omega arith) (sym e)
]
