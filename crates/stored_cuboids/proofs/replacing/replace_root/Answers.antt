use Rattle.std.proofs.Common.{◌≤◌, List, ℕ, length, sym, ◌∙◌, subst, arith, ap, ◌≡◌, inl, true, false, Err}
use Rattle.cube_model.specs.declared.fault.Fault.{Fault}
use Rattle.wire.specs.Limits.{most_root_bytes}
use Rattle.object_store.specs.Content.{Content}
use Rattle.object_store.specs.Store as stores
use Rattle.warehouse_root.specs.Layouts.{layout_number}
use Rattle.warehouse_root.proofs.CallerLemmas.{root_is_short}
use Rattle.warehouse_objects.specs.Loaded.{IsLoaded}
use Rattle.stored_cuboids.proofs.Replaced.{few_replaced, loaded_replaced, replaced_by}
use Rattle.object_store.proofs.Moments.{leaves_weaker}
use Rattle.object_store.proofs.CallerLemmas.{leaves_now}
use Rattle.stored_cuboids.proofs.StoreCalls.{no_call_yet, out_of_memory}
use Rattle.object_store.specs.Disk.{disk}
use Rattle.stored_cuboids.proofs.replacing.replace_root.Goals as goal

pub commit-requires-clause-root : goal.commit-requires-clause-root
commit-requires-clause-root g c =
    subst (λ (b : List ℕ). length b ≤ most_root_bytes) (sym c.as_slice.ensures.value)
    (root_is_short c.in-Ok.bytes.items c.args.next c.in-Ok.ensures.ok)

pub commit-requires-clause-few : goal.commit-requires-clause-few
commit-requires-clause-few g c =
    few_replaced (stores.content_of g.D.Sectors c.args.store.now) c.args.drops.now c.as_slice.result.now
    c.number-layout.result
    (omega (arith, c.objects.ensures, c.if-objects-gt-MOST_OBJECTS.false))

pub returns-in-Ok-commit-clause-loaded : goal.returns-in-Ok-commit-clause-loaded
returns-in-Ok-commit-clause-loaded g c k rows modes is =
    let before = stores.content_of g.D.Sectors c.args.store.now in
    let after = c.in-Ok-commit.ensures.ok k
    ∙ replaced_by before c.args.drops.now c.as_slice.result.now c.number-layout.result c.args.next
    (c.as_slice.ensures.value ∙ c.in-Ok.ensures.ok.spelled)
    (c.number-layout.ensures ∙ ap layout_number c.layout.ensures.value) in
    subst (λ (x : Content). IsLoaded x rows modes c.args.next) (sym after)
    (loaded_replaced before c.args.drops.now c.args.next c.requires.runs c.in-Ok.ensures.ok.proper rows modes
    c.args.root.now c.requires.layout
    is)

pub returns-in-Err-clause-leaves : goal.returns-in-Err-clause-leaves
returns-in-Err-clause-leaves g c =
    let store = c.args.store.now in
    leaves_weaker (λ content. content ≡ stores.content_of g.D.Sectors store) _ (stores.disk_of g.D.Sectors store)
    (stores.disk_of g.D.Sectors store) (λ k content is. inl is)
    (leaves_now g.D.Sectors g.met.D.Sectors.only_now store c.requires.fine)

pub returns-in-Ok-commit-clause-calls : goal.returns-in-Ok-commit-clause-calls
returns-in-Ok-commit-clause-calls g c = record {
  failed = λ is. cc;
  device = λ is. absurd cc;
  fine = λ other. c.in-Ok-commit.ensures.fine.1;
  failures = λ other. c.in-Ok-commit.ensures.failures;
  word = (c.commit.ensures.leaves c.requires.fine).word;
}

pub returns-in-Err-commit-clause-calls : goal.returns-in-Err-commit-clause-calls
returns-in-Err-commit-clause-calls g c =
    let fine = c.requires.fine in
    let refused = c.in-Err-commit.ensures.refused in record {
      failed = λ is. let broken : true ≡ false = sym (c.in-Err-commit.ensures.failed.0 is) ∙ fine in absurd cc;
      device = c.in-Err-commit.ensures.device;
      fine = λ other. (refused (λ e. other (ap (λ (f : Fault). Err f) e))).failed ∙ fine;
      failures = λ other. ap (λ d. (disk g.D.Sectors d).failures)
          (refused (λ e. other (ap (λ (f : Fault). Err f) e))).device;
      word = (c.commit.ensures.leaves fine).word;
    }

pub returns-in-Err-clause-calls : goal.returns-in-Err-clause-calls
returns-in-Err-clause-calls g c =
    out_of_memory g.D.Sectors c.in-Err.fault c.args.store.now c.requires.fine c.in-Err.ensures.memory

pub returns-then-objects-gt-MOST_OBJECTS-clause-calls : goal.returns-then-objects-gt-MOST_OBJECTS-clause-calls
returns-then-objects-gt-MOST_OBJECTS-clause-calls g c =
    no_call_yet g.D.Sectors _ c.args.store.now c.requires.fine (λ is. cc) (λ is. cc)
