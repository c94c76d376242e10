use Rattle.std.proofs.Common.{◌≡◌, ℕ, List, Option, Some, None, option_map, length, sym, ◌∙◌, ap}
use Rattle.object_store.specs.declared.catalogue.entry.Entry.{Entry}
use Rattle.object_store.specs.Commit.{find_by}
use Rattle.object_store.proofs.Contents.{bytes_none, bytes_some, found_range, length_bytes_at}
use Rattle.object_store.proofs.store.Store.size.Goals as goal

pub returns-in-Some-clause-bytes : goal.returns-in-Some-clause-bytes
returns-in-Some-clause-bytes g c w =
    let store = c.args.self.now in
    let s = g.D.Sectors.state store.device in
    let e = c.in-Some.entry in
    let found : find_by (λ x. x.id) c.args.id store.entries.items ≡ Some e =
    ap (λ (l : List Entry). find_by (λ x. x.id) c.args.id l) (sym c.deref.ensures.value) ∙ sym c.find.ensures
    ∙ c.in-Some.is in
    let long = length_bytes_at s.reads e.first e.bytes s.size
    (found_range s.size c.args.id store.superblock store.entries.items e found store.kept.laid_out)
    (λ i lt. g.met.D.Sectors.whole store.device i (s.reads i) w lt (g.met.D.Sectors.read_may_stay store.device i w)) in
    ap (λ (n : ℕ). Some n) (sym long)
    ∙ sym (ap (λ (o : Option (List ℕ)). option_map (λ (l : List ℕ). length l) o)
    (bytes_some s.reads store.entries.items c.args.id e found))

pub returns-in-None-clause-bytes : goal.returns-in-None-clause-bytes
returns-in-None-clause-bytes g c w =
    let store = c.args.self.now in
    let s = g.D.Sectors.state store.device in
    let found : find_by (λ (x : Entry). x.id) c.args.id store.entries.items ≡ None =
    ap (λ (l : List Entry). find_by (λ x. x.id) c.args.id l) (sym c.deref.ensures.value) ∙ sym c.find.ensures
    ∙ c.in-None.is in
    sym (ap (λ (o : Option (List ℕ)). option_map (λ (l : List ℕ). length l) o)
    (bytes_none s.reads store.entries.items c.args.id found))
