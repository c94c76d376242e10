use Rattle.std.proofs.Common.{ℕ, List, [], get_or, Bor, Err, inr, ap, arith}
use Rattle.std.proofs.lemmas.Result.{err_from_is_err_and}
use Rattle.object_store.specs.Commit.{IsObject}
use Rattle.object_store.proofs.Fits.{put_object, placed_step, fail_put}
use Rattle.object_store.proofs.place.place.Goals as goal

-- what is read past the end of a list
abbrev no_put : ℕ × Bor (List ℕ)
no_put = (0, record { ref_ptr = (0, 0); now = [] })

pub overflow_cast-div_ceil : goal.overflow_cast-div_ceil
overflow_cast-div_ceil c =
    let o : IsObject ((get_or c.args.puts.now c.loop-k.k no_put).0, (get_or c.args.puts.now c.loop-k.k no_put).1.now) =
    put_object c.args.puts.now c.loop-k.k no_put c.requires c.loop-k-test.true in
    omega (arith, c.div_ceil.ensures, o.most)

pub take-requires : goal.take-requires
take-requires c =
    let o : IsObject ((get_or c.args.puts.now c.loop-k.k no_put).0, (get_or c.args.puts.now c.loop-k.k no_put).1.now) =
    put_object c.args.puts.now c.loop-k.k no_put c.requires c.loop-k-test.true in
    omega (arith, c.div_ceil.ensures, o.least)

pub returns-in_err-extent-clause-refused : goal.returns-in_err-extent-clause-refused
returns-in_err-extent-clause-refused c =
    let p = err_from_is_err_and c.from_residual-in_err-extent.result c.from_residual-in_err-extent.ensures.1 in
    rw (p.1, p.2) (
    inr (
      c.in_err-extent.ensures.only_full,
      fail_put c.args.free.now c.loop-k.free c.args.puts.now c.loop-k.k no_put c.loop-k.placed.items c.div_ceil.result
          c.loop-k-test.true c.loop-k.invariant (omega (arith, c.div_ceil.ensures))
          ((c.in_err-extent.ensures.full).0 (ap Err c.in_err-extent.ensures.only_full)),
    ))

pub loop-k-preserved : goal.loop-k-preserved
loop-k-preserved c =
    placed_step c.args.free.now c.loop-k.free c.take.new.self c.args.puts.now c.loop-k.k no_put c.loop-k.placed.items
    c.push.new.self.items c.entry.result c.in_ok-extent.extent c.div_ceil.result c.loop-k-test.true
    c.loop-k.invariant
    c.entry.ensures.value c.entry.ensures.id_fits c.in_ok-push.ensures.items (omega (arith, c.div_ceil.ensures))
    c.in_ok-extent.ensures.first_fit c.in_ok-extent.ensures.in_range c.in_ok-extent.ensures.taken
