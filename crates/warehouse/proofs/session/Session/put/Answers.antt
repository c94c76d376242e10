use Rattle.std.proofs.Common.{◌≡◌, ◌≤◌, ℕ, true, false, Err, List, [], inr, length, take, sym, ◌∙◌, ap, subst}
use Rattle.std.proofs.lemmas.List.{length-take-le}
use Rattle.wire.specs.Limits.{most_root_bytes}
use Rattle.object_store.specs.Content.{Content}
use Rattle.object_store.specs.Commit.{ArePuts, committed, puts_of}
use Rattle.object_store.specs.Disk.{Leaves}
use Rattle.object_store.specs.Store as stores
use Rattle.object_store.specs.declared.store.Store.{Store}
use Rattle.object_store.proofs.CallerLemmas.{generation_after}
use Rattle.warehouse_root.specs.Layouts.{layout_number}
use Rattle.warehouse_root.proofs.CallerLemmas.{root_is_short}
use Rattle.warehouse_objects.specs.Warehouse.{loaded}
use Rattle.warehouse_objects.specs.Represents.{Represents}
use Rattle.warehouse_objects.specs.Loaded.{IsLoaded}
use Rattle.warehouse.specs.Session.{disk_of}
use Rattle.warehouse.proofs.Represented.{is_at}
use Rattle.warehouse.specs.Submitting.{WithOrWithout}
use Rattle.warehouse.proofs.Represented.{store_at, session_at, as_before_at, as_before_leaves}
use Rattle.warehouse.proofs.SessionLemmas.{few_more, loaded_after, modes_now, prepared_is_put, ready_agrees}
use Rattle.warehouse.proofs.SessionLemmas.{represents_after, submit_causes, submit_leaves}
use Rattle.warehouse.proofs.session.Session.put.Goals as goal
use Rattle.warehouse.proofs.session.Session.put.Goals.{in-Some, in_default}

pub slice_bounds-puts-end : goal.slice_bounds-puts-end
slice_bounds-puts-end g c = c.puts_of-count.ensures.within

pub slice_bounds-commit-end : goal.slice_bounds-commit-end
slice_bounds-commit-end g c =
    sym (length-take-le c.puts_of-count.result.1 c.puts_of-count.result.0 c.puts_of-count.ensures.within)

pub commit-requires-clause-puts : goal.commit-requires-clause-puts
commit-requires-clause-puts g c =
    let ready = c.requires.ready.1 in
    let p = c.args.prepared in
    subst ArePuts (sym c.puts_of-count.ensures.puts)
    (prepared_is_put c.args.self.now.root.layout c.args.number c.requires.ready.0 p.segment.items p.more ready.segment
    ready.follows.batch ready.more)

pub commit-requires-clause-root : goal.commit-requires-clause-root
commit-requires-clause-root g c =
    let p = c.args.prepared in
    subst (λ (b : List ℕ). length b ≤ most_root_bytes) (sym c.as_slice.ensures.value)
    (root_is_short p.root_bytes.items p.root c.requires.ready.1.spelled)

pub commit-requires-clause-few : goal.commit-requires-clause-few
commit-requires-clause-few g c =
    let s = c.args.self.now in
    let p = c.args.prepared in
    let content = stores.content_of g.D.Sectors s.store in
    let puts = puts_of (take c.puts_of-count.result.1 c.puts_of-count.result.0) in
    few_more content puts c.as_slice.result.now c.number-layout.result c.args.number p.segment.items p.more
    c.puts_of-count.ensures.puts c.requires.few

pub invariant_of-self : goal.invariant_of-self
invariant_of-self g c = record {
  loaded = λ fine k.
      let s = c.args.self.now in
      let p = c.args.prepared in
      let content = stores.content_of g.D.Sectors s.store in
      let puts = puts_of (take c.puts_of-count.result.1 c.puts_of-count.result.0) in
      let ready = c.requires.ready.1 in
      let bytes_are = c.as_slice.ensures.value ∙ ready.spelled.spelled in
      let layout_is = c.number-layout.ensures ∙ ap layout_number c.layout.ensures.value in
      let was = s.loaded c.requires.fine ((c.commit.ensures.leaves c.requires.fine).word k) in
      subst (λ (x : Content). IsLoaded x s.dims.value c.in-Some.more.modes p.root) (sym (c.in-Ok.ensures.ok k))
      (subst (λ (m : List (List ℕ)). IsLoaded (committed puts [] c.as_slice.result.now c.number-layout.result content)
      s.dims.value m p.root) (ap (modes_now s.modes) c.in-Some.is)
      (loaded_after content puts c.as_slice.result.now c.number-layout.result c.args.number p.segment.items p.more
      p.root
      c.puts_of-count.ensures.puts bytes_are layout_is ready.spelled.proper s.dims.value s.modes s.root was
      ready.of_layout ready.more));
}

pub invariant_of-self-in_default : goal.invariant_of-self-in_default
invariant_of-self-in_default g c = record {
  loaded = λ fine k.
      let s = c.args.self.now in
      let p = c.args.prepared in
      let content = stores.content_of g.D.Sectors s.store in
      let puts = puts_of (take c.puts_of-count.result.1 c.puts_of-count.result.0) in
      let ready = c.requires.ready.1 in
      let bytes_are = c.as_slice.ensures.value ∙ ready.spelled.spelled in
      let layout_is = c.number-layout.ensures ∙ ap layout_number c.layout.ensures.value in
      let was = s.loaded c.requires.fine ((c.commit.ensures.leaves c.requires.fine).word k) in
      subst (λ (x : Content). IsLoaded x s.dims.value s.modes p.root) (sym (c.in-Ok.ensures.ok k))
      (subst (λ (m : List (List ℕ)). IsLoaded (committed puts [] c.as_slice.result.now c.number-layout.result content)
      s.dims.value m p.root) (ap (modes_now s.modes) c.in_default.is)
      (loaded_after content puts c.as_slice.result.now c.number-layout.result c.args.number p.segment.items p.more
      p.root
      c.puts_of-count.ensures.puts bytes_are layout_is ready.spelled.proper s.dims.value s.modes s.root was
      ready.of_layout ready.more));
}

pub returns-after-more-clause-leaves : goal.returns-after-more-clause-leaves
returns-after-more-clause-leaves g c = λ w rows ready.
    let s = c.args.self.now in
    let p = c.args.prepared in
    let content = stores.content_of g.D.Sectors s.store in
    let puts = puts_of (take c.puts_of-count.result.1 c.puts_of-count.result.0) in
    let at = ready.at in
    let is = ready.prepared_is in
    let bytes_are = c.as_slice.ensures.value ∙ is.spelled.spelled in
    let layout_is = c.number-layout.ensures ∙ ap layout_number c.layout.ensures.value in
    let model = λ (k : g.D.Sectors.keeps_word (stores.device_of s.store)). ready_agrees w c.args.number rows s.root p
    puts c.puts_of-count.ensures.puts is
    (ready.admissible k) in
    let store_is : c.match-more.self.store ≡ c.commit.new.self =
    elim c.match-more.branch
    [ in-Some w ↦ ap (λ s. s.store) w.self-is | in_default w ↦ ap (λ s. s.store) w.self-is ] in
    subst (λ (x : Store _ _). Leaves (disk_of g.D.Sectors s) (stores.disk_of g.D.Sectors x)
    (WithOrWithout w c.args.number rows)) (sym store_is)
    (submit_leaves content puts c.as_slice.result.now c.number-layout.result c.args.number p.segment.items p.more p.root
    c.puts_of-count.ensures.puts bytes_are layout_is rows w (stores.disk_of g.D.Sectors s.store)
    (stores.disk_of g.D.Sectors c.commit.new.self) at.represents model is.fits (c.commit.ensures.leaves at.fine))

pub returns-in-Err-clause-leaves : goal.returns-in-Err-clause-leaves
returns-in-Err-clause-leaves g c = λ w rows ready.
    let s = c.args.self.now in
    let p = c.args.prepared in
    let content = stores.content_of g.D.Sectors s.store in
    let puts = puts_of (take c.puts_of-count.result.1 c.puts_of-count.result.0) in
    let at = ready.at in
    let is = ready.prepared_is in
    let bytes_are = c.as_slice.ensures.value ∙ is.spelled.spelled in
    let layout_is = c.number-layout.ensures ∙ ap layout_number c.layout.ensures.value in
    let model = λ (k : g.D.Sectors.keeps_word (stores.device_of s.store)). ready_agrees w c.args.number rows s.root p
    puts c.puts_of-count.ensures.puts is
    (ready.admissible k) in
    submit_leaves content puts c.as_slice.result.now c.number-layout.result c.args.number p.segment.items p.more p.root
    c.puts_of-count.ensures.puts bytes_are layout_is rows w (stores.disk_of g.D.Sectors s.store)
    (stores.disk_of g.D.Sectors c.commit.new.self) at.represents model is.fits (c.commit.ensures.leaves at.fine)

pub returns-after-more-clause-ok : goal.returns-after-more-clause-ok
returns-after-more-clause-ok g c = λ w rows ready.
    let s = c.args.self.now in
    let p = c.args.prepared in
    let content = stores.content_of g.D.Sectors s.store in
    let puts = puts_of (take c.puts_of-count.result.1 c.puts_of-count.result.0) in
    let at = ready.at in
    let is = ready.prepared_is in
    let bytes_are = c.as_slice.ensures.value ∙ is.spelled.spelled in
    let layout_is = c.number-layout.ensures ∙ ap layout_number c.layout.ensures.value in
    let model = λ (k : g.D.Sectors.keeps_word (stores.device_of s.store)). ready_agrees w c.args.number rows s.root p
    puts c.puts_of-count.ensures.puts is
    (ready.admissible k) in
    let store_is : c.match-more.self.store ≡ c.commit.new.self =
    elim c.match-more.branch
    [ in-Some w ↦ ap (λ s. s.store) w.self-is | in_default w ↦ ap (λ s. s.store) w.self-is ] in
    let word = (c.commit.ensures.leaves at.fine).word in
    let here = subst (λ (x : Store _ _). g.D.Sectors.keeps_word (stores.device_of x)) store_is in (
      is_at g.D.Sectors _ (loaded w rows) (ap stores.has_failed store_is ∙ c.in-Ok.ensures.fine.1)
          (λ k. subst (λ (x : Store _ _). Represents (stores.content_of g.D.Sectors x) (loaded w rows)) (sym store_is)
          (subst (λ (x : Content). Represents x (loaded w rows)) (sym (c.in-Ok.ensures.ok (here k)))
          (represents_after content puts c.as_slice.result.now c.number-layout.result c.args.number p.segment.items
          p.more p.root
          c.puts_of-count.ensures.puts bytes_are layout_is rows w
          (at.represents (word (here k))) (model (word (here k))).0 is.fits (model (word (here k))).2
          (model (word (here k))).1))),
      λ k. (model (word (here k))).0,
    )

pub returns-after-more-clause-once : goal.returns-after-more-clause-once
returns-after-more-clause-once g c = λ k.
    let s = c.args.self.now in
    let p = c.args.prepared in
    let content = stores.content_of g.D.Sectors s.store in
    let puts = puts_of (take c.puts_of-count.result.1 c.puts_of-count.result.0) in
    let store_is : c.match-more.self.store ≡ c.commit.new.self =
    elim c.match-more.branch
    [ in-Some w ↦ ap (λ s. s.store) w.self-is | in_default w ↦ ap (λ s. s.store) w.self-is ] in
    let here = subst (λ (x : Store _ _). g.D.Sectors.keeps_word (stores.device_of x)) store_is in
    ap (λ (x : Store _ _). (stores.content_of g.D.Sectors x).generation) store_is
    ∙ ap (λ (x : Content). x.generation) (c.in-Ok.ensures.ok (here k))
    ∙ generation_after puts [] c.as_slice.result.now c.number-layout.result content

pub returns-in-Err-clause-refused : goal.returns-in-Err-clause-refused
returns-in-Err-clause-refused g c = λ cause w rows ready.
    let same = c.in-Err.ensures.refused cause in (
      session_at g.D.Sectors w _
          (as_before_at g.D.Sectors w c.args.self.now.store c.commit.new.self
          (store_at g.D.Sectors w c.args.self.now ready.at) same),
      as_before_leaves g.D.Sectors w c.args.self.now.store c.commit.new.self same ready.still,
    )

pub returns-in-Err-clause-causes : goal.returns-in-Err-clause-causes
returns-in-Err-clause-causes g c = λ cause w rows ready k.
    let s = c.args.self.now in
    let p = c.args.prepared in
    let content = stores.content_of g.D.Sectors s.store in
    let puts = puts_of (take c.puts_of-count.result.1 c.puts_of-count.result.0) in
    let at = ready.at in
    let is = ready.prepared_is in
    let bytes_are = c.as_slice.ensures.value ∙ is.spelled.spelled in
    let layout_is = c.number-layout.ensures ∙ ap layout_number c.layout.ensures.value in
    let model = λ (k : g.D.Sectors.keeps_word (stores.device_of s.store)). ready_agrees w c.args.number rows s.root p
    puts c.puts_of-count.ensures.puts is
    (ready.admissible k) in
    let word = (c.commit.ensures.leaves at.fine).word in
    inr (inr (
      (model (word k)).0,
      submit_causes content puts c.as_slice.result.now c.number-layout.result c.args.number p.segment.items p.more
          p.root
          c.puts_of-count.ensures.puts bytes_are layout_is rows w
          (stores.room_of s.store) c.in-Err.fault (model (word k)).1 (model (word k)).2
          (c.in-Err.ensures.refuses cause
          (λ e. let bad : true ≡ false = sym (c.in-Err.ensures.failed.0 (ap (λ f. Err f) e))
          ∙ at.fine in absurd (cc))),
    ))
