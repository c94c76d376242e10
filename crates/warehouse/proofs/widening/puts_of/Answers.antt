use Rattle.std.proofs.Common.{◌≡◌, ◌∙◌, ◌+◌, ℕ, Bor, Some, List, [], ◌∷◌, ◌++◌, take, slice_get, refl, sym, ap, add-one}
use Rattle.std.proofs.lemmas.List.{map-append}
use Rattle.std.proofs.lemmas.Option.{slice_get-map, slice_get_read}
use Rattle.std.specs.Option.{option_map}
use Rattle.object_store.specs.Commit as commits
use Rattle.warehouse.specs.Widening.{shown_puts}
use Rattle.warehouse.specs.declared.widening.NewObject.{NewObject}
use Rattle.warehouse.proofs.Whole.{take_next}
use Rattle.warehouse.proofs.widening.puts_of.Goals as goal

pub loop-object-preserved : goal.loop-object-preserved
loop-object-preserved c =
    let i : ℕ = c.loop-object.object-index in
    let objects = c.args.objects.now in
    let shown = shown_puts objects in
    let object = c.object-item.result in
    let here : slice_get objects i ≡ Some object =
    slice_get_read objects _ i object refl c.loop-object-test.true c.object-item.is in
    let next : take (i + 1) shown ≡ take i shown ++ (object.id, object.bytes.items) ∷ [] =
    ap (λ n. take n shown) (add-one i)
    ∙ take_next shown i (object.id, object.bytes.items)
    (slice_get-map (λ (o : NewObject). (o.id, o.bytes.items)) objects i
    ∙ ap (option_map (λ (o : NewObject). (o.id, o.bytes.items))) here) in
    ap commits.puts_of c.in_ok-push.ensures.items
    ∙ map-append (λ (put : ℕ × Bor (List ℕ)). (put.0, put.1.now)) c.loop-object.puts.items
    ((object.id, c.as_slice.result) ∷ [])
    ∙ ap (λ l. l ++ (object.id, c.as_slice.result.now) ∷ []) c.loop-object.invariant
    ∙ ap (λ b. take i shown ++ (object.id, b) ∷ []) c.as_slice.ensures.value
    ∙ sym next
