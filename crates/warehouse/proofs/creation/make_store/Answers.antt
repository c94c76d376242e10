use Rattle.std.proofs.Common.{◌≡◌, ◌≤◌, ℕ, List, [], ◌∷◌, length, take, sym, ◌∙◌, subst}
use Rattle.wire.specs.Limits.{most_root_bytes}
use Rattle.object_store.specs.Commit.{ArePuts, puts_of}
use Rattle.warehouse_root.specs.Root as roots
use Rattle.warehouse_root.proofs.CallerLemmas.{root_is_short}
use Rattle.warehouse_objects.specs.Lawful.{beginning_puts}
use Rattle.warehouse.proofs.CreationLemmas.{few_at_first, makes_store, puts_are, refuses_to_make}
use Rattle.warehouse_objects.proofs.Contents.{beginning_is_put, dimensions_are_puts}
use Rattle.warehouse.proofs.creation.make_store.Goals as goal

pub create-requires-clause-puts : goal.create-requires-clause-puts
create-requires-clause-puts g c =
    let is = c.requires.begins in
    let puts : List (ℕ × List ℕ) = puts_of (take c.dimensions-count.result
    ((1, c.as_slice.result) ∷ (2, c.as_slice-2.result) ∷ (3, c.as_slice-3.result) ∷ (4, c.as_slice-4.result)
    ∷ (5, c.as_slice-5.result) ∷ [])) in
    let are : puts ≡ beginning_puts c.args.layout c.args.dims.now.value =
    puts_are c.args.layout c.args.dims.now.value c.dimensions-count.result c.as_slice.result c.as_slice-2.result
    c.as_slice-3.result c.as_slice-4.result c.as_slice-5.result c.dimensions-count.ensures
    (c.as_slice.ensures.value ∙ is.customers) (c.as_slice-2.ensures.value ∙ is.suppliers)
    (c.as_slice-3.ensures.value ∙ is.parts) (c.as_slice-4.ensures.value ∙ is.dates)
    (c.as_slice-5.ensures.value ∙ is.modes) in
    subst ArePuts (sym are) (beginning_is_put c.args.dims.now.value
    (dimensions_are_puts c.args.dims.now.value is.storable) c.args.layout)

pub create-requires-clause-root : goal.create-requires-clause-root
create-requires-clause-root g c =
    let b = c.args.beginning.now in
    subst (λ (l : List ℕ). length l ≤ most_root_bytes) (sym c.as_slice-6.ensures.value)
    (root_is_short b.root_bytes.items b.root c.requires.begins.spelled)

pub create-requires-clause-few : goal.create-requires-clause-few
create-requires-clause-few g c =
    let is = c.requires.begins in
    let b = c.args.beginning.now in
    let bytes = c.as_slice-6.result.now in
    let puts : List (ℕ × List ℕ) = puts_of (take c.dimensions-count.result
    ((1, c.as_slice.result) ∷ (2, c.as_slice-2.result) ∷ (3, c.as_slice-3.result) ∷ (4, c.as_slice-4.result)
    ∷ (5, c.as_slice-5.result) ∷ [])) in
    let are : puts ≡ beginning_puts c.args.layout c.args.dims.now.value =
    puts_are c.args.layout c.args.dims.now.value c.dimensions-count.result c.as_slice.result c.as_slice-2.result
    c.as_slice-3.result c.as_slice-4.result c.as_slice-5.result c.dimensions-count.ensures
    (c.as_slice.ensures.value ∙ is.customers) (c.as_slice-2.ensures.value ∙ is.suppliers)
    (c.as_slice-3.ensures.value ∙ is.parts) (c.as_slice-4.ensures.value ∙ is.dates)
    (c.as_slice-5.ensures.value ∙ is.modes) in
    let bytes_are : bytes ≡ roots.root_spelling b.root = c.as_slice-6.ensures.value ∙ is.spelled.spelled in
    few_at_first c.args.layout c.args.dims.now.value puts bytes c.number.result b.root
    is.storable are
    is.root_is bytes_are c.number.ensures

pub returns-clause-ok : goal.returns-clause-ok
returns-clause-ok g c =
    let is = c.requires.begins in
    let b = c.args.beginning.now in
    let bytes = c.as_slice-6.result.now in
    let puts : List (ℕ × List ℕ) = puts_of (take c.dimensions-count.result
    ((1, c.as_slice.result) ∷ (2, c.as_slice-2.result) ∷ (3, c.as_slice-3.result) ∷ (4, c.as_slice-4.result)
    ∷ (5, c.as_slice-5.result) ∷ [])) in
    let are : puts ≡ beginning_puts c.args.layout c.args.dims.now.value =
    puts_are c.args.layout c.args.dims.now.value c.dimensions-count.result c.as_slice.result c.as_slice-2.result
    c.as_slice-3.result c.as_slice-4.result c.as_slice-5.result c.dimensions-count.ensures
    (c.as_slice.ensures.value ∙ is.customers) (c.as_slice-2.ensures.value ∙ is.suppliers)
    (c.as_slice-3.ensures.value ∙ is.parts) (c.as_slice-4.ensures.value ∙ is.dates)
    (c.as_slice-5.ensures.value ∙ is.modes) in
    let bytes_are : bytes ≡ roots.root_spelling b.root = c.as_slice-6.ensures.value ∙ is.spelled.spelled in
    makes_store c.args.layout c.args.dims.now.value puts bytes c.number.result b.root is.storable
    are
    is.root_is bytes_are c.number.ensures g.D.Sectors c.args.device c.create.result
    c.create.ensures.leaves c.create.ensures.fine c.create.ensures.ok c.create.ensures.unformatted

pub returns-clause-refused : goal.returns-clause-refused
returns-clause-refused g c =
    let is = c.requires.begins in
    let b = c.args.beginning.now in
    let bytes = c.as_slice-6.result.now in
    let puts : List (ℕ × List ℕ) = puts_of (take c.dimensions-count.result
    ((1, c.as_slice.result) ∷ (2, c.as_slice-2.result) ∷ (3, c.as_slice-3.result) ∷ (4, c.as_slice-4.result)
    ∷ (5, c.as_slice-5.result) ∷ [])) in
    let are : puts ≡ beginning_puts c.args.layout c.args.dims.now.value =
    puts_are c.args.layout c.args.dims.now.value c.dimensions-count.result c.as_slice.result c.as_slice-2.result
    c.as_slice-3.result c.as_slice-4.result c.as_slice-5.result c.dimensions-count.ensures
    (c.as_slice.ensures.value ∙ is.customers) (c.as_slice-2.ensures.value ∙ is.suppliers)
    (c.as_slice-3.ensures.value ∙ is.parts) (c.as_slice-4.ensures.value ∙ is.dates)
    (c.as_slice-5.ensures.value ∙ is.modes) in
    let bytes_are : bytes ≡ roots.root_spelling b.root = c.as_slice-6.ensures.value ∙ is.spelled.spelled in
    refuses_to_make c.args.layout c.args.dims.now.value puts bytes c.number.result b.root
    is.storable are
    is.root_is bytes_are c.number.ensures g.D.Sectors c.args.device c.create.result
    c.create.ensures.leaves_err c.create.ensures.still_blank c.create.ensures.not_already c.create.ensures.only
    c.create.ensures.spared c.create.ensures.device c.create.ensures.size c.create.ensures.full
    c.create.ensures.causes
