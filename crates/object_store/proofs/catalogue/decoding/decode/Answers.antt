use Rattle.std.proofs.Common.{ℕ, ◌<◌, List, ◌++◌, length, All, IsTrue, inr, refl, sym, ◌∙◌, ap, subst, arith}
use Rattle.object_store.specs.Catalogue.{IdsAscend, IsProperEntry}
use Rattle.object_store.specs.CatalogueReading.{ReadsCatalogueHeader}
use Rattle.object_store.proofs.CatalogueLemmas.{entries_are, is_catalogue, is_of, root_left}
use Rattle.object_store.proofs.catalogue.decoding.decode.Goals as goal
use Rattle.object_store.proofs.catalogue.decoding.decode.Goals.{then-not-are_proper-via-then-not-are_proper}
use Rattle.object_store.proofs.catalogue.decoding.decode.Goals.{then-not-are_proper-via-else-not-are_proper+then-not-ascend}

-- the header of a catalogue keeps its rules
pub returns-then-not-is_of-clause-refused : goal.returns-then-not-is_of-clause-refused
returns-then-not-is_of-clause-refused c = inr (
  refl,
  λ entries root is.
      let header =
      subst (λ (bytes : List ℕ). ReadsCatalogueHeader bytes c.read_header.new.cursor c.in_ok-header.header.entries
      c.in_ok-header.header.root) c.new-cursor.ensures c.in_ok-header.ensures.ok in
      let yes : IsTrue c.is_of.result = c.is_of.ensures.1 (is_of _ _ _ _ header entries root is) in
      cc c.if-not-is_of.true,
)

-- the entries of a catalogue are those that were read
pub returns-then-not-are_proper-clause-refused : goal.returns-then-not-are_proper-clause-refused
returns-then-not-are_proper-clause-refused c = inr (
  refl,
  λ entries root is.
      let header =
      subst (λ (bytes : List ℕ). ReadsCatalogueHeader bytes c.read_header.new.cursor c.in_ok-header.header.entries
      c.in_ok-header.header.root) c.new-cursor.ensures c.in_ok-header.ensures.ok in
      let same = entries_are _ _ _ _ header _ _ entries root c.in_ok-entries.ensures.ok is in
      elim c.then-not-are_proper.branch [
        | then-not-are_proper-via-then-not-are_proper w ↦
            let yes : IsTrue c.are_proper.result =
            c.are_proper.ensures.1
            (subst (All IsProperEntry) (sym same ∙ sym c.deref.ensures.value) is.proper.each) in
            cc w.if-not-are_proper.true
        | then-not-are_proper-via-else-not-are_proper+then-not-ascend w ↦
            let yes : IsTrue w.ascend.result =
            w.ascend.ensures.1
            (subst IdsAscend (sym same ∙ sym w.deref-else-not-are_proper.ensures.value) is.proper.ascending) in
            cc w.if-not-ascend.true
      ],
)

-- there are as many bytes left as the root has
pub returns-in_err-bytes-clause-refused : goal.returns-in_err-bytes-clause-refused
returns-in_err-bytes-clause-refused c =
    let header =
    subst (λ (bytes : List ℕ). ReadsCatalogueHeader bytes c.read_header.new.cursor c.in_ok-header.header.entries
    c.in_ok-header.header.root) c.new-cursor.ensures c.in_ok-header.ensures.ok in
    let left = root_left _ _ _ _ header _ _ c.in_ok-entries.ensures.ok (c.is_of.ensures.0 c.if-not-is_of.false) in
    let short : length c.read_entries.new.cursor < c.in_ok-header.header.root = c.in_err-bytes.ensures.short.0 refl in
    absurd (omega (arith, left))

pub returns-clause-ok : goal.returns-clause-ok
returns-clause-ok c =
    let header =
    subst (λ (bytes : List ℕ). ReadsCatalogueHeader bytes c.read_header.new.cursor c.in_ok-header.header.entries
    c.in_ok-header.header.root) c.new-cursor.ensures c.in_ok-header.ensures.ok in
    let each : All IsProperEntry c.deref.result.now = c.are_proper.ensures.0 c.if-not-are_proper.false in
    let ascend : IdsAscend c.deref-else-not-are_proper.result.now = c.ascend.ensures.0 c.if-not-ascend.false in
    let taken = c.in_ok-bytes.ensures.value in
    let root = c.in_ok-root.ensures.items in
    is_catalogue _ _ _ _ header _ c.bytes.new.self c.in_ok-root.root.items _ c.in_ok-entries.ensures.ok
    (c.is_of.ensures.0 c.if-not-is_of.false)
    (taken.spelled ∙ ap (λ (part : List ℕ). part ++ c.bytes.new.self) (sym root)) (ap length root ∙ taken.many)
    (subst (All IsProperEntry) c.deref.ensures.value each)
    (subst IdsAscend c.deref-else-not-are_proper.ensures.value ascend)
