use Rattle.std.proofs.Common.{is_some, All, IsTrue, take}
use Rattle.object_store.specs.Content.{bytes_of}
use Rattle.object_store.specs.Store.{content_of, device_of}
use Rattle.warehouse_objects.proofs.objects.has_each.Given as goal

abbrev pub invariant-loop-id : goal.invariant-loop-id
invariant-loop-id g l =
    g.D.Sectors.keeps_word (device_of l.store)
    → All (λ id. IsTrue (is_some (bytes_of (content_of g.D.Sectors l.store) id))) (take l.id-index l.ids)
