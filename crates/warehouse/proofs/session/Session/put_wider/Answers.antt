use Rattle.std.proofs.Common.{◌≡◌, ◌≤◌, ℕ, true, false, Err, List, [], inl, inr, length, sym, ◌∙◌, ap, subst}
use Rattle.cube_model.specs.declared.rows.DimRows.{DimRows}
use Rattle.wire.specs.Limits.{most_root_bytes}
use Rattle.stored_rows.specs.Added.{widened, widening_puts}
use Rattle.object_store.specs.Content.{Content}
use Rattle.object_store.proofs.Moments.{leaves_weaker}
use Rattle.object_store.specs.Commit.{ArePuts, committed, puts_of}
use Rattle.object_store.specs.Store as stores
use Rattle.object_store.proofs.CallerLemmas.{generation_after}
use Rattle.warehouse_root.specs.Layouts.{layout_number}
use Rattle.warehouse_root.proofs.CallerLemmas.{root_is_short}
use Rattle.warehouse_objects.specs.Represents.{Represents}
use Rattle.warehouse_objects.specs.Loaded.{IsLoaded}
use Rattle.warehouse.proofs.Represented.{is_at}
use Rattle.warehouse.specs.Widening.{WidenedOrNot, shown_puts}
use Rattle.warehouse.proofs.Represented.{store_at, session_at, as_before_at, as_before_leaves}
use Rattle.warehouse.proofs.SessionLemmas.{few_wider, loaded_wider, represents_wider, wider_causes, wider_leaves}
use Rattle.warehouse.proofs.session.Session.put_wider.Goals as goal

pub invariant_of-self-in-Err-commit : goal.invariant_of-self-in-Err-commit
invariant_of-self-in-Err-commit g c = record {
  loaded = λ fine k.
      let s = c.args.self.now in
      let before = c.in-Err-commit.ensures.refused
      (λ e. let bad : true ≡ false = sym (c.in-Err-commit.ensures.device (ap (λ f. Err f) e)).failed ∙ fine in
      absurd (cc)) in
      subst (λ (x : Content). IsLoaded x s.dims.value s.modes s.root) (sym before.content)
      (s.loaded (sym before.failed ∙ fine)
      (subst (λ (d : g.row.D.Denot). g.D.Sectors.keeps_word d) before.device k));
}

pub commit-requires-clause-puts : goal.commit-requires-clause-puts
commit-requires-clause-puts g c =
    let s = c.args.self.now in
    let content = stores.content_of g.D.Sectors s.store in
    let wider = c.args.wider in
    let is = c.requires.widens.1 in
    let puts_are : puts_of c.as_slice-2.result.now ≡ widening_puts s.dims.value c.requires.widens.0 =
    ap puts_of c.as_slice-2.ensures.value ∙ c.in-Ok.ensures.ok ∙ ap shown_puts c.as_slice.ensures.value
    ∙ is.objects_are in
    let bytes_are = c.as_slice-3.ensures.value ∙ is.spelled.spelled in
    subst ArePuts (sym puts_are) is.puts

pub commit-requires-clause-root : goal.commit-requires-clause-root
commit-requires-clause-root g c =
    let is = c.requires.widens.1 in
    let wider = c.args.wider in
    subst (λ (b : List ℕ). length b ≤ most_root_bytes) (sym c.as_slice-3.ensures.value)
    (root_is_short wider.root_bytes.items wider.root is.spelled)

pub commit-requires-clause-few : goal.commit-requires-clause-few
commit-requires-clause-few g c =
    let s = c.args.self.now in
    let content = stores.content_of g.D.Sectors s.store in
    let wider = c.args.wider in
    let is = c.requires.widens.1 in
    let puts_are : puts_of c.as_slice-2.result.now ≡ widening_puts s.dims.value c.requires.widens.0 =
    ap puts_of c.as_slice-2.ensures.value ∙ c.in-Ok.ensures.ok ∙ ap shown_puts c.as_slice.ensures.value
    ∙ is.objects_are in
    let bytes_are = c.as_slice-3.ensures.value ∙ is.spelled.spelled in
    few_wider content s.dims.value c.requires.widens.0 (puts_of c.as_slice-2.result.now) c.as_slice-3.result.now
    c.number-layout.result puts_are c.requires.few

pub invariant_of-self : goal.invariant_of-self
invariant_of-self g c =
    record {
      loaded = λ fine k.
          let s = c.args.self.now in
          let content = stores.content_of g.D.Sectors s.store in
          let wider = c.args.wider in
          let is = c.requires.widens.1 in
          let puts_are : puts_of c.as_slice-2.result.now ≡ widening_puts s.dims.value c.requires.widens.0 =
          ap puts_of c.as_slice-2.ensures.value ∙ c.in-Ok.ensures.ok ∙ ap shown_puts c.as_slice.ensures.value
          ∙ is.objects_are in
          let bytes_are = c.as_slice-3.ensures.value ∙ is.spelled.spelled in
          let more = c.requires.widens.0 in
          let before = c.in-Ok-commit.ensures.fine.0 in
          let was = s.loaded before ((c.commit.ensures.leaves before).word k) in
          subst (λ (x : Content). IsLoaded x wider.dims.value s.modes wider.root) (sym (c.in-Ok-commit.ensures.ok k))
          (subst (λ (r : DimRows). IsLoaded
          (committed (puts_of c.as_slice-2.result.now) [] c.as_slice-3.result.now c.number-layout.result content) r
          s.modes wider.root) (sym is.dims_are)
          (loaded_wider content (puts_of c.as_slice-2.result.now) c.as_slice-3.result.now c.number-layout.result
          s.dims.value more s.root wider.root puts_are bytes_are is.root_is
          (c.number-layout.ensures ∙ ap layout_number c.layout.ensures.value) is.spelled.proper is.storable s.modes
          was));
    }

pub returns-in-Ok-commit-clause-leaves : goal.returns-in-Ok-commit-clause-leaves
returns-in-Ok-commit-clause-leaves g c w number more ready =
    let s = c.args.self.now in
    let content = stores.content_of g.D.Sectors s.store in
    let wider = c.args.wider in
    let is = ready.widening_is in
    let puts_are : puts_of c.as_slice-2.result.now ≡ widening_puts s.dims.value more =
    ap puts_of c.as_slice-2.ensures.value ∙ c.in-Ok.ensures.ok ∙ ap shown_puts c.as_slice.ensures.value
    ∙ is.objects_are in
    let bytes_are = c.as_slice-3.ensures.value ∙ is.spelled.spelled in
    wider_leaves content (puts_of c.as_slice-2.result.now) c.as_slice-3.result.now c.number-layout.result s.dims.value
    more
    s.root wider.root puts_are bytes_are is.root_is (c.number-layout.ensures ∙ ap layout_number c.layout.ensures.value)
    w
    number (stores.disk_of g.D.Sectors s.store)
    (stores.disk_of g.D.Sectors c.commit.new.self) ready.at.represents ready.admissible is.storable
    (c.commit.ensures.leaves ready.at.fine)

pub returns-in-Err-commit-clause-leaves : goal.returns-in-Err-commit-clause-leaves
returns-in-Err-commit-clause-leaves g c w number more ready =
    let s = c.args.self.now in
    let content = stores.content_of g.D.Sectors s.store in
    let wider = c.args.wider in
    let is = ready.widening_is in
    let puts_are : puts_of c.as_slice-2.result.now ≡ widening_puts s.dims.value more =
    ap puts_of c.as_slice-2.ensures.value ∙ c.in-Ok.ensures.ok ∙ ap shown_puts c.as_slice.ensures.value
    ∙ is.objects_are in
    let bytes_are = c.as_slice-3.ensures.value ∙ is.spelled.spelled in
    wider_leaves content (puts_of c.as_slice-2.result.now) c.as_slice-3.result.now c.number-layout.result s.dims.value
    more
    s.root wider.root puts_are bytes_are is.root_is (c.number-layout.ensures ∙ ap layout_number c.layout.ensures.value)
    w
    number (stores.disk_of g.D.Sectors s.store)
    (stores.disk_of g.D.Sectors c.commit.new.self) ready.at.represents ready.admissible is.storable
    (c.commit.ensures.leaves ready.at.fine)

pub returns-in-Ok-commit-clause-ok : goal.returns-in-Ok-commit-clause-ok
returns-in-Ok-commit-clause-ok g c w number more ready =
    let s = c.args.self.now in
    let content = stores.content_of g.D.Sectors s.store in
    let wider = c.args.wider in
    let is = ready.widening_is in
    let puts_are : puts_of c.as_slice-2.result.now ≡ widening_puts s.dims.value more =
    ap puts_of c.as_slice-2.ensures.value ∙ c.in-Ok.ensures.ok ∙ ap shown_puts c.as_slice.ensures.value
    ∙ is.objects_are in
    let bytes_are = c.as_slice-3.ensures.value ∙ is.spelled.spelled in
    let word = (c.commit.ensures.leaves ready.at.fine).word in (
      is_at g.D.Sectors _ (widened w more) c.in-Ok-commit.ensures.fine.1
          (λ k. subst (λ (x : Content). Represents x (widened w more)) (sym (c.in-Ok-commit.ensures.ok k))
          (represents_wider content (puts_of c.as_slice-2.result.now) c.as_slice-3.result.now c.number-layout.result
          s.dims.value more s.root wider.root puts_are bytes_are is.root_is
          (c.number-layout.ensures ∙ ap layout_number c.layout.ensures.value) w number
          (ready.at.represents (word k)) (ready.admissible (word k)) is.storable)),
      λ k. (ready.admissible (word k)).0,
    )

pub returns-in-Ok-commit-clause-once : goal.returns-in-Ok-commit-clause-once
returns-in-Ok-commit-clause-once g c k =
    ap (λ (x : Content). x.generation) (c.in-Ok-commit.ensures.ok k)
    ∙ generation_after (puts_of c.as_slice-2.result.now) [] c.as_slice-3.result.now c.number-layout.result
    (stores.content_of g.D.Sectors c.args.self.now.store)

pub returns-in-Err-commit-clause-refused : goal.returns-in-Err-commit-clause-refused
returns-in-Err-commit-clause-refused g c cause w number more ready =
    let same = c.in-Err-commit.ensures.refused cause in (
      session_at g.D.Sectors w _
          (as_before_at g.D.Sectors w c.args.self.now.store c.commit.new.self
          (store_at g.D.Sectors w c.args.self.now ready.at) same),
      as_before_leaves g.D.Sectors w c.args.self.now.store c.commit.new.self same ready.still,
    )

pub returns-in-Err-commit-clause-causes : goal.returns-in-Err-commit-clause-causes
returns-in-Err-commit-clause-causes g c cause w number more ready k =
    let s = c.args.self.now in
    let content = stores.content_of g.D.Sectors s.store in
    let wider = c.args.wider in
    let is = ready.widening_is in
    let puts_are : puts_of c.as_slice-2.result.now ≡ widening_puts s.dims.value more =
    ap puts_of c.as_slice-2.ensures.value ∙ c.in-Ok.ensures.ok ∙ ap shown_puts c.as_slice.ensures.value
    ∙ is.objects_are in
    let bytes_are = c.as_slice-3.ensures.value ∙ is.spelled.spelled in
    let word = (c.commit.ensures.leaves ready.at.fine).word in
    let model = ready.admissible (word k) in
    inr (inr (
      model.0,
      wider_causes content (puts_of c.as_slice-2.result.now) c.as_slice-3.result.now c.number-layout.result
          s.dims.value more s.root wider.root puts_are bytes_are is.root_is
          (c.number-layout.ensures ∙ ap layout_number c.layout.ensures.value) w number
          (stores.room_of s.store) c.in-Err-commit.fault model.1
          (c.in-Err-commit.ensures.refuses cause
          (λ e. let bad : true ≡ false = sym (c.in-Err-commit.ensures.failed.0 (ap (λ f. Err f) e))
          ∙ ready.at.fine in absurd (cc))),
    ))

-- no memory for what is put

pub returns-in-Err-clause-leaves : goal.returns-in-Err-clause-leaves
returns-in-Err-clause-leaves g c w number more ready =
    leaves_weaker (λ x. Represents x w) (WidenedOrNot w number more) _ _ (λ k x represents. inl represents) ready.still

pub returns-in-Err-clause-refused : goal.returns-in-Err-clause-refused
returns-in-Err-clause-refused g c cause w number more ready = (ready.at, ready.still)

pub returns-in-Err-clause-causes : goal.returns-in-Err-clause-causes
returns-in-Err-clause-causes g c cause w number more ready k =
    inr (inr ((ready.admissible k).0, inl c.in-Err.ensures.memory))
