use Rattle.std.proofs.Common.{◌≡◌, sym, arith}
use Rattle.ssb_reports.specs.declared.number.QNumber.TheVariants.{Q11, Q12, Q13, Q21, Q22, Q23, Q31, Q32, Q33, Q34, Q41}
use Rattle.ssb_reports.specs.declared.number.QNumber.TheVariants.{Q42, Q43}
use Rattle.ssb_reports.specs.Benchmark.{query_number_text}
use Rattle.query_words.proofs.names.number.Goals as goal

pub returns : goal.returns
returns c = λ value. elim value as (λ one. c.args.name.now ≡ query_number_text one → ⊥) [
  | Q11 ↦ λ e. c.loop-number.invariant 0 (omega arith) (sym e)
  | Q12 ↦ λ e. c.loop-number.invariant 1 (omega arith) (sym e)
  | Q13 ↦ λ e. c.loop-number.invariant 2 (omega arith) (sym e)
  | Q21 ↦ λ e. c.loop-number.invariant 3 (omega arith) (sym e)
  | Q22 ↦ λ e. c.loop-number.invariant 4 (omega arith) (sym e)
  | Q23 ↦ λ e. c.loop-number.invariant 5 (omega arith) (sym e)
  | Q31 ↦ λ e. c.loop-number.invariant 6 (omega arith) (sym e)
  | Q32 ↦ λ e. c.loop-number.invariant 7 (omega arith) (sym e)
  | Q33 ↦ λ e. c.loop-number.invariant 8 (omega arith) (sym e)
  | Q34 ↦ λ e. c.loop-number.invariant 9 (omega arith) (sym e)
  | Q41 ↦ λ e. c.loop-number.invariant 10 (omega arith) (sym e)
  | Q42 ↦ λ e. c.loop-number.invariant 11 (omega arith) (sym e)
  | Q43 ↦ λ e. c.loop-number.invariant 12 (omega arith) (sym e)
]
