use Rattle.std.proofs.Common.{◌∙◌, ap, arith}
use Rattle.std.proofs.lemmas.List.{get_or_default}
use Rattle.object_store.specs.declared.catalogue.entry.Entry.{Entry}
use Rattle.object_store.proofs.EntriesLemmas.{not_there}
use Rattle.object_store.proofs.entries.search.Goals as goal
use Rattle.object_store.proofs.entries.search.Goals.{else-place-entries-via-then-place-entries+else-entries-place}
use Rattle.object_store.proofs.entries.search.Goals.{else-place-entries-via-else-place-entries}

-- what is read past the end of a list
abbrev no_entry : Entry
no_entry = record { id = 0; first = 0; bytes = 0 }

pub returns-then-entries-place-clause-found : goal.returns-then-entries-place-clause-found
returns-then-entries-place-clause-found c = (
  c.if-place-entries.true,
  λ d. ap (λ (e : Entry). e.id)
      (get_or_default c.args.entries.now c.place_of-place.result d no_entry c.if-place-entries.true)
      ∙ c.if-entries-place.true,
)

pub returns-clause-missing : goal.returns-clause-missing
returns-clause-missing c =
    let place = c.place_of-place in
    not_there (λ (e : Entry). e.id) c.args.id c.args.entries.now place.result c.requires
    (place.ensures.within, place.ensures.before, place.ensures.after)
    (λ d less same. elim c.else-place-entries.branch [
      | else-place-entries-via-then-place-entries+else-entries-place w ↦
          w.if-entries-place.false
          (ap (λ (e : Entry). e.id) (get_or_default c.args.entries.now place.result no_entry d less) ∙ same)
      | else-place-entries-via-else-place-entries w ↦ omega arith
    ])
