use Rattle.std.proofs.Common.{◌≡◌, ⊎_elim, inl, inr, ℕ, ◌+◌, ◌*◌, List, length, Err, refl, ◌∙◌, ap, subst, arith, rules}
use Rattle.std.proofs.lemmas.Result.{err_from_is_err_and}
use Rattle.extents.specs.Runs.{IsFirstFit}
use Rattle.superblock.specs.Superblock.{sectors_of}
use Rattle.object_store.specs.declared.catalogue.entry.Entry.{Entry}
use Rattle.object_store.specs.Catalogue.{catalogue_of}
use Rattle.object_store.proofs.Catalogues.{length-catalogue_of}
use Rattle.object_store.specs.Commit.{put_each, puts_of}
use Rattle.object_store.proofs.StagedLemmas.{is_staged, lacks_put, lacks_catalogue, objects_after}
use Rattle.object_store.proofs.staged.stage.Goals as goal

pub returns-in_err-free-clause-refused : goal.returns-in_err-free-clause-refused
returns-in_err-free-clause-refused c =
    let p = err_from_is_err_and c.from_residual.result c.from_residual.ensures.1 in
    rw (p.1, p.2) (
    ⊎_elim (λ memory. inl memory)
    (λ full. inr (
      full.0,
      lacks_put c.args.stamp.sectors c.args.used.now c.args.kept.items (puts_of c.args.puts.now)
          c.args.root.now full.1.free full.1.outside full.1.fail,
    )) c.in_err-free.ensures.refused)

pub catalogued-requires-clause-few : goal.catalogued-requires-clause-few
catalogued-requires-clause-few c =
    let kept = c.args.kept.items in
    let same = ap (λ (l : List Entry). length (put_each (λ e. e.id) l kept)) c.deref.ensures.value in
    omega (
      arith,
      same,
      objects_after c.in_ok-free.placed.items kept (puts_of c.args.puts.now)
          c.in_ok-free.ensures.ok.placed.places,
      c.requires.few,
    )

pub overflow_cast-div_ceil : goal.overflow_cast-div_ceil
overflow_cast-div_ceil c =
    let kept = c.args.kept.items in
    let merged : c.in_ok-entries.entries.items ≡ put_each (λ e. e.id) c.in_ok-free.placed.items kept =
    c.in_ok-entries.ensures.entries ∙ ap (λ (l : List Entry). put_each (λ e. e.id) l kept) c.deref.ensures.value in
    let many = objects_after c.in_ok-free.placed.items kept (puts_of c.args.puts.now)
    c.in_ok-free.ensures.ok.placed.places in
    let few = c.requires.few in
    let len : c.len.result ≡ length c.in_ok-entries.catalogue.items = search rules in
    let bytes : length c.in_ok-entries.catalogue.items ≡ 12 + 16 * length c.in_ok-entries.entries.items
    + length c.args.root.now = ap (λ (l : List ℕ). length l) c.in_ok-entries.ensures.catalogue
    ∙ length-catalogue_of c.in_ok-entries.entries.items c.args.root.now in
    omega (arith, c.div_ceil.ensures, len, bytes, ap (λ (l : List Entry). length l) merged, many, few, c.requires.root)

pub overflow_cast-superblock : goal.overflow_cast-superblock
overflow_cast-superblock c =
    let kept = c.args.kept.items in
    let merged : c.in_ok-entries.entries.items ≡ put_each (λ e. e.id) c.in_ok-free.placed.items kept =
    c.in_ok-entries.ensures.entries ∙ ap (λ (l : List Entry). put_each (λ e. e.id) l kept) c.deref.ensures.value in
    let many = objects_after c.in_ok-free.placed.items kept (puts_of c.args.puts.now)
    c.in_ok-free.ensures.ok.placed.places in
    let few = c.requires.few in
    let len : c.len-2.result ≡ length c.in_ok-entries.catalogue.items = search rules in
    let bytes : length c.in_ok-entries.catalogue.items ≡ 12 + 16 * length c.in_ok-entries.entries.items
    + length c.args.root.now = ap (λ (l : List ℕ). length l) c.in_ok-entries.ensures.catalogue
    ∙ length-catalogue_of c.in_ok-entries.entries.items c.args.root.now in
    omega (arith, len, bytes, ap (λ (l : List Entry). length l) merged, many, few, c.requires.root)

pub returns-in_err-extent-clause-refused : goal.returns-in_err-extent-clause-refused
returns-in_err-extent-clause-refused c =
    let p = err_from_is_err_and c.from_residual-in_err-extent.result c.from_residual-in_err-extent.ensures.1 in
    rw (p.1, p.2) (
    let kept = c.args.kept.items in
    let merged : c.in_ok-entries.entries.items ≡ put_each (λ e. e.id) c.in_ok-free.placed.items kept =
    c.in_ok-entries.ensures.entries ∙ ap (λ (l : List Entry). put_each (λ e. e.id) l kept) c.deref.ensures.value in
    let spelled : c.in_ok-entries.catalogue.items ≡ catalogue_of c.in_ok-entries.entries.items c.args.root.now =
    c.in_ok-entries.ensures.catalogue in
    let len : c.len.result ≡ length c.in_ok-entries.catalogue.items = search rules in
    inr (
      c.in_err-extent.ensures.only_full,
      lacks_catalogue c.args.stamp.sectors c.args.used.now kept c.in_ok-free.placed.items c.in_ok-entries.entries.items
          (puts_of c.args.puts.now) c.args.root.now c.in_ok-entries.catalogue.items c.in_ok-free.ensures.ok.first
          c.in_ok-free.free c.div_ceil.result
          c.in_ok-free.ensures.ok.outside c.in_ok-free.ensures.ok.placed merged spelled
          (omega (arith, c.div_ceil.ensures, len))
          ((c.in_err-extent.ensures.full).0 (ap Err c.in_err-extent.ensures.only_full)),
    ))

pub returns-clause-ok : goal.returns-clause-ok
returns-clause-ok c =
    let kept = c.args.kept.items in
    let merged : c.in_ok-entries.entries.items ≡ put_each (λ e. e.id) c.in_ok-free.placed.items kept =
    c.in_ok-entries.ensures.entries ∙ ap (λ (l : List Entry). put_each (λ e. e.id) l kept) c.deref.ensures.value in
    let spelled : c.in_ok-entries.catalogue.items ≡ catalogue_of c.in_ok-entries.entries.items c.args.root.now =
    c.in_ok-entries.ensures.catalogue in
    let len : c.len.result ≡ length c.in_ok-entries.catalogue.items = search rules in
    let len2 : c.len-2.result ≡ length c.in_ok-entries.catalogue.items = search rules in
    let asked : c.div_ceil.result ≡ sectors_of (length c.in_ok-entries.catalogue.items) =
    omega (arith, c.div_ceil.ensures, len) in
    is_staged c.args.stamp.sectors c.args.used.now kept (puts_of c.args.puts.now) c.args.root.now
    c.args.stamp.generation
    c.args.stamp.layout _ c.in_ok-free.ensures.ok.first c.in_ok-free.free c.take.new.self c.in_ok-extent.extent
    c.requires.sectors c.requires.few_sectors c.requires.generation c.requires.last c.requires.layout c.requires.kept
    c.requires.in_use c.requires.fit c.requires.proper c.requires.ascending c.requires.puts c.requires.root
    c.requires.few
    c.in_ok-free.ensures.ok.outside c.in_ok-free.ensures.ok.placed merged c.in_ok-entries.ensures.root spelled
    (subst (λ (n : ℕ). IsFirstFit c.in_ok-free.free n c.in_ok-extent.extent) asked c.in_ok-extent.ensures.first_fit)
    c.in_ok-extent.ensures.in_range refl refl refl refl len2
