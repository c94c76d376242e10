-- What an addition puts.
use Rattle.std.proofs.Common.{◌≢◌, ◌≤◌, zero, suc, arith, ℕ, List, [], ◌++◌, length, All, AllPairs}
use Rattle.std.proofs.lemmas.List.{length-append}
use Rattle.std.proofs.lemmas.List.Elements.{All-nil, All-cons}
use Rattle.std.proofs.lemmas.List.Kept.{AllPairs-cons}
use Rattle.cube_model.specs.declared.attr.Axis.{Axis}
use Rattle.cube_model.specs.declared.attr.Axis.TheVariants.{Customer, Supplier, Part, Date}
use Rattle.cube_model.specs.declared.rows.DimRows.{DimRows}
use Rattle.object_store.specs.Commit.{ArePuts, IsObject}
use Rattle.object_store.proofs.Lists.{AllPairs-nil}
use Rattle.warehouse_objects.specs.Lawful.{dimension_puts}
use Rattle.warehouse_objects.specs.Represents.{dimension_of}
use Rattle.dimensions.specs.Added.{joined}
use Rattle.stored_rows.specs.Added.{put_of, widening_puts}

abbrev Put : Type 0
Put = ℕ × List ℕ

abbrev AreApart : List Put → Type 0
AreApart puts = AllPairs (λ (a : Put) (b : Put). a.0 ≢ b.0) puts

module _ (rows : DimRows) (axis : Axis) (id : ℕ) where
  -- what holds of the put and of those after it
  all_then : (P : Put → Type 0) (count : ℕ) (puts : List Put) → P (id, dimension_of rows axis) → All P puts
      → All P (put_of rows axis id count ++ puts)
  all_then P zero puts own rest = rest
  all_then P (suc count) puts own rest = All-cons P (id, dimension_of rows axis) puts own rest

  apart_then : (count : ℕ) (puts : List Put) → All (λ (put : Put). id ≢ put.0) puts → AreApart puts
      → AreApart (put_of rows axis id count ++ puts)
  apart_then zero puts other rest = rest
  apart_then (suc count) puts other rest =
      AllPairs-cons (λ (a : Put) (b : Put). a.0 ≢ b.0) (id, dimension_of rows axis) puts other rest

  all_one : (P : Put → Type 0) (count : ℕ) → P (id, dimension_of rows axis) → All P (put_of rows axis id count)
  all_one P zero own = All-nil P
  all_one P (suc count) own = All-cons P (id, dimension_of rows axis) [] own (All-nil P)

  apart_one : (count : ℕ) → AreApart (put_of rows axis id count)
  apart_one zero = AllPairs-nil (λ (a : Put) (b : Put). a.0 ≢ b.0)
  apart_one (suc count) = AllPairs-cons (λ (a : Put) (b : Put). a.0 ≢ b.0) (id, dimension_of rows axis) []
      (All-nil (λ (put : Put). id ≢ put.0)) (AllPairs-nil (λ (a : Put) (b : Put). a.0 ≢ b.0))

  one_at_most : (count : ℕ) → length (put_of rows axis id count) ≤ 1
  one_at_most zero = omega arith
  one_at_most (suc count) = omega arith

-- dimensions that may be put together may be put apart
pub puts_widened : (rows more : DimRows) → ArePuts (dimension_puts (joined rows more))
    → ArePuts (widening_puts rows more)
puts_widened rows more puts =
    let then_rows = joined rows more in
    let nc = length more.customers in
    let ns = length more.suppliers in
    let np = length more.parts in
    let nd = length more.dates in
    let d = put_of then_rows Date 4 nd in
    let p = put_of then_rows Part 3 np ++ d in
    let s = put_of then_rows Supplier 2 ns ++ p in
    let none : Put = (0, []) in
    let customer = puts.each 0 none (omega arith) in
    let supplier = puts.each 1 none (omega arith) in
    let part = puts.each 2 none (omega arith) in
    let date = puts.each 3 none (omega arith) in
    record {
      each = all_then then_rows Customer 1 IsObject nc s customer
          (all_then then_rows Supplier 2 IsObject ns p supplier
          (all_then then_rows Part 3 IsObject np d part (all_one then_rows Date 4 IsObject nd date)));
      distinct = apart_then then_rows Customer 1 nc s
          (all_then then_rows Supplier 2 (λ put. 1 ≢ put.0) ns p (λ e. omega (arith, e))
          (all_then then_rows Part 3 (λ put. 1 ≢ put.0) np d (λ e. omega (arith, e))
          (all_one then_rows Date 4 (λ put. 1 ≢ put.0) nd (λ e. omega (arith, e)))))
          (apart_then then_rows Supplier 2 ns p
          (all_then then_rows Part 3 (λ put. 2 ≢ put.0) np d (λ e. omega (arith, e))
          (all_one then_rows Date 4 (λ put. 2 ≢ put.0) nd (λ e. omega (arith, e))))
          (apart_then then_rows Part 3 np d (all_one then_rows Date 4 (λ put. 3 ≢ put.0) nd (λ e. omega (arith, e)))
          (apart_one then_rows Date 4 nd)));
    }

-- there are four at most
pub length_of_puts : (rows more : DimRows) → length (widening_puts rows more) ≤ 4
length_of_puts rows more =
    let then_rows = joined rows more in
    let c = put_of then_rows Customer 1 (length more.customers) in
    let s = put_of then_rows Supplier 2 (length more.suppliers) in
    let p = put_of then_rows Part 3 (length more.parts) in
    let d = put_of then_rows Date 4 (length more.dates) in
    omega (
      arith,
      length-append c (s ++ (p ++ d)),
      length-append s (p ++ d),
      length-append p d,
      one_at_most then_rows Customer 1 (length more.customers),
      one_at_most then_rows Supplier 2 (length more.suppliers),
      one_at_most then_rows Part 3 (length more.parts),
      one_at_most then_rows Date 4 (length more.dates),
    )
