use Rattle.std.proofs.Common.{◌∙◌, List, [], length, get_or, sym, subst, ℕ, Bor, arith}
use Rattle.extents.specs.Extents.{Holds, SomeHolds, IsInRange}
use Rattle.object_store.specs.declared.catalogue.entry.Entry.{Entry}
use Rattle.object_store.specs.Places.{extent_of, extents_of}
use Rattle.object_store.proofs.DeviceCalls.{writes_then}
use Rattle.object_store.proofs.PublishLemmas.{in_range, held, object_step}
use Rattle.object_store.proofs.publish.write_objects.Goals as goal

-- what is read past the end of a list
abbrev no_entry : Entry
no_entry = record { id = 0; first = 0; bytes = 0 }

abbrev no_put : ℕ × Bor (List ℕ)
no_put = (0, record { ref_ptr = (0, 0); now = [] })

pub write_extent-requires-clause-in_range : goal.write_extent-requires-clause-in_range
write_extent-requires-clause-in_range g c =
    subst (λ (n : ℕ). IsInRange n
    (extent_of (get_or c.args.placed.now c.loop-k.k no_entry).first
    (length (get_or c.args.puts.now c.loop-k.k no_put).1.now))) (sym c.loop-k.invariant.writes.size)
    (in_range c.args.placed.now c.args.puts.now c.requires.places c.loop-k.k no_entry no_put (omega arith)
    (g.D.Sectors.state c.args.device.now).size c.requires.laid_out)

pub returns-in_err-write_extent-clause-writes : goal.returns-in_err-write_extent-clause-writes
returns-in_err-write_extent-clause-writes g c =
    writes_then g.D.Sectors (SomeHolds (extents_of c.args.placed.now))
    (Holds (extent_of (get_or c.args.placed.now c.loop-k.k no_entry).first
    (length (get_or c.args.puts.now c.loop-k.k no_put).1.now)))
    c.args.device.now c.loop-k.device c.write_extent.new.device
    (held c.args.placed.now c.args.puts.now c.requires.places c.loop-k.k no_entry no_put (omega arith))
    c.loop-k.invariant.writes c.write_extent.ensures.writes

pub loop-k-preserved : goal.loop-k-preserved
loop-k-preserved g c =
    let so_far = c.loop-k.invariant in record {
      writes = writes_then g.D.Sectors (SomeHolds (extents_of c.args.placed.now))
          (Holds (extent_of (get_or c.args.placed.now c.loop-k.k no_entry).first
          (length (get_or c.args.puts.now c.loop-k.k no_put).1.now)))
          c.args.device.now c.loop-k.device c.write_extent.new.device
          (held c.args.placed.now c.args.puts.now c.requires.places c.loop-k.k no_entry no_put (omega arith))
          so_far.writes c.write_extent.ensures.writes;
      failures = c.in_ok-write_extent.ensures.failures ∙ so_far.failures;
      objects = λ w. object_step c.args.placed.now c.args.puts.now c.requires.places c.loop-k.k no_entry no_put
          (omega arith)
          (g.D.Sectors.state c.loop-k.device).reads (g.D.Sectors.state c.write_extent.new.device).reads
          c.requires.laid_out.apart (so_far.objects (c.write_extent.ensures.writes.word w))
          (c.write_extent.ensures.writes.only w).others (c.in_ok-write_extent.ensures.written w);
    }
