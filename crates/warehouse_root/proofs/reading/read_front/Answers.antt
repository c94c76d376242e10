use Rattle.std.proofs.Common.{ℕ, ◌<◌, length, IsTrue, refl, sym, subst, arith}
use Rattle.std.proofs.lemmas.Result.{err_from_is_err_and}
use Rattle.warehouse_root.specs.Reading.{AreCountsOf}
use Rattle.warehouse_root.proofs.ReadingLemmas.{counts_are_of, too_short}
use Rattle.warehouse_root.proofs.reading.read_front.Goals as goal

-- fewer bytes than the counts have
pub returns-in_err-counts-clause-refused : goal.returns-in_err-counts-clause-refused
returns-in_err-counts-clause-refused c =
    let refused = err_from_is_err_and c.from_residual.result c.from_residual.ensures.1 in
    let few : length c.args.cursor.now < 16 = c.in_err-counts.ensures.short.0 refl in
    rw (refused.1, refused.2, c.in_err-counts.ensures.fault) (refl, too_short c.args.cursor.now (omega (arith, few)))

-- the counts of a root say how many bytes it has
pub returns-then-not-are_of-clause-refused : goal.returns-then-not-are_of-clause-refused
returns-then-not-are_of-clause-refused c = (
  refl,
  λ root is.
      let same = counts_are_of c.args.cursor.now c.read_counts.new.cursor c.in_ok-counts.counts
      c.in_ok-counts.ensures.ok root is in
      let yes : IsTrue c.are_of.result =
      c.are_of.ensures.1 (subst (λ (n : ℕ). AreCountsOf n c.in_ok-counts.counts) (sym c.len-bytes.ensures) same) in
      cc c.if-not-are_of.true,
)
