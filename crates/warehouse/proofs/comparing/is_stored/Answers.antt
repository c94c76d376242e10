use Rattle.std.proofs.Common.{rules, ◌≡◌, ◌≤◌, ◌∙◌, Some}
use Rattle.std.proofs.lemmas.Result.{IfOk-weaker}
use Rattle.cube_model.specs.Limits.{most_batches}
use Rattle.object_store.specs.Store as stores
use Rattle.warehouse_objects.proofs.Folded.{some_of}
use Rattle.warehouse.proofs.Compared.{is-there, never-long, none-so, other-count}
use Rattle.warehouse_objects.proofs.OneMoreRead.{reads_nothing}
use Rattle.warehouse.proofs.comparing.is_stored.Goals as goal

pub returns-then-ne-clause-answer : goal.returns-then-ne-clause-answer
returns-then-ne-clause-answer g c = λ k w dimensions rows represents rooted grown.
    let other : c.rows_of.result ≡ Some c.row_count.result → ⊥ = search rules in (
      λ yes. absurd (cc),
      λ here. absurd
          (other-count w c.args.root.now c.args.number c.row_count.result rows rooted
          (c.row_count.ensures.count dimensions c.args.root.now rows grown) (λ is. other (c.rows_of.ensures.rows ∙ is))
          here),
    )

pub returns-in-Some-clause-answer : goal.returns-in-Some-clause-answer
returns-in-Some-clause-answer g c =
    IfOk-weaker c.has_object.result _ _
    (λ yes same k w dimensions rows represents rooted grown.
    let there : c.rows_of.result ≡ Some c.row_count.result = search rules in
    let few : c.args.number ≤ most_batches =
    some_of _ c.rows_of.result c.row_count.result there c.rows_of.ensures.few in
    let bytes =
    some_of _ _ c.in-Some.segment c.in-Some.is
    (c.in_ok-segment.ensures.spelled dimensions c.args.root.now rows grown) in
    let is = is-there (stores.content_of g.D.Sectors c.args.store.now) w represents c.args.number c.segment_id.result
    rows c.as_slice.result.now few c.segment_id.ensures bytes.1 bytes.2 (c.as_slice.ensures.value ∙ bytes.0) in
    (λ t. is.0 ((same k).0 t), λ h. (same k).1 (is.1 h)))
    c.has_object.ensures.same

pub returns-in-None-clause-answer : goal.returns-in-None-clause-answer
returns-in-None-clause-answer g c = λ k w dimensions rows represents rooted grown. (
  λ yes. absurd (cc),
  λ here. absurd
      (never-long (stores.content_of g.D.Sectors c.args.store.now) w represents c.args.number rows
      (none-so _ _ c.in-None.is (c.in_ok-segment.ensures.long dimensions c.args.root.now rows grown)) here),
)

pub returns-then-ne-clause-reads : goal.returns-then-ne-clause-reads
returns-then-ne-clause-reads g c =
    reads_nothing g.D.Sectors g.met.D.Sectors.only_now c.args.store.now c.requires.fine _ (λ is. search rules)

pub returns-in_err-segment-clause-reads : goal.returns-in_err-segment-clause-reads
returns-in_err-segment-clause-reads g c =
    reads_nothing g.D.Sectors g.met.D.Sectors.only_now c.args.store.now c.requires.fine _ (λ is. search rules)

pub returns-in-None-clause-reads : goal.returns-in-None-clause-reads
returns-in-None-clause-reads g c =
    reads_nothing g.D.Sectors g.met.D.Sectors.only_now c.args.store.now c.requires.fine _ (λ is. search rules)
