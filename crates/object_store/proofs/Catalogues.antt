-- What the bytes of a catalogue determine, for the proofs of other crates too.
use Rattle.std.proofs.Common.{◌≡◌, ℕ, ◌+◌, ◌*◌, ◌^◌, ◌<◌, List, [], ◌∷◌, ◌++◌, length, codes, All, refl, sym, ap, ◌∙◌}
use Rattle.std.proofs.Common.{arith, append_assoc, length-append}
use Rattle.std.proofs.lemmas.List.{append_cancel_left}
use Rattle.std.proofs.lemmas.List.Elements.{All-head, All-tail}
use Rattle.std.specs.List.{flat_map}
use Rattle.wire.specs.Spelling.{spelling}
use Rattle.wire.proofs.CallerLemmas.{length-spelling, spelling-one}
use Rattle.object_store.specs.declared.catalogue.entry.Entry.{Entry}
use Rattle.object_store.specs.Catalogue.{FitsFields, IsCatalogue, IsProperCatalogue, catalogue_of, entry_of}
use Rattle.object_store.specs.Catalogue.{catalogue_header}

-- an entry has 16 bytes
pub length-entry_of : (entry : Entry) → length (entry_of entry) ≡ 16
length-entry_of entry =
    let last = length-append (spelling 4 entry.first) (spelling 8 entry.bytes) in
    let whole = length-append (spelling 4 entry.id) (spelling 4 entry.first ++ spelling 8 entry.bytes) in
    omega (arith, last, whole, length-spelling 4 entry.id, length-spelling 4 entry.first, length-spelling 8 entry.bytes)

pub length-entries : (entries : List Entry) → length (flat_map entry_of entries) ≡ 16 * length entries
length-entries [] = refl
length-entries (entry ∷ entries) =
    omega (
      arith,
      length-append (entry_of entry) (flat_map entry_of entries),
      length-entry_of entry,
      length-entries entries,
    )

-- a header has 12 bytes
pub length-header_of : (entries root : ℕ) → length (catalogue_header entries root) ≡ 12
length-header_of entries root =
    omega (
      arith,
      length-append (codes "CAT1") (spelling 4 entries ++ spelling 4 root),
      length-append (spelling 4 entries) (spelling 4 root),
      length-spelling 4 entries,
      length-spelling 4 root,
    )

-- how many bytes a catalogue has
pub length-catalogue_of : (entries : List Entry) (root : List ℕ)
    → length (catalogue_of entries root) ≡ 12 + 16 * length entries + length root
length-catalogue_of entries root =
    omega (
      arith,
      length-append (catalogue_header (length entries) (length root)) (flat_map entry_of entries ++ root),
      length-append (flat_map entry_of entries) root,
      length-header_of (length entries) (length root),
      length-entries entries,
    )

-- the parts of a header, one after the other
pub header_of-append : (entries root : ℕ) (rest : List ℕ)
    → catalogue_header entries root ++ rest ≡ codes "CAT1" ++ (spelling 4 entries ++ (spelling 4 root ++ rest))
header_of-append entries root rest =
    append_assoc (codes "CAT1") (spelling 4 entries ++ spelling 4 root) rest
    ∙ ap (λ (part : List ℕ). codes "CAT1" ++ part) (append_assoc (spelling 4 entries) (spelling 4 root) rest)

-- the parts of an entry, one after the other
pub entry_of-append : (entry : Entry) (rest : List ℕ)
    → entry_of entry ++ rest ≡ spelling 4 entry.id ++ (spelling 4 entry.first ++ (spelling 8 entry.bytes ++ rest))
entry_of-append entry rest =
    append_assoc (spelling 4 entry.id) (spelling 4 entry.first ++ spelling 8 entry.bytes) rest
    ∙ ap (λ (part : List ℕ). spelling 4 entry.id ++ part)
    (append_assoc (spelling 4 entry.first) (spelling 8 entry.bytes) rest)

-- an entry is its fields
made_of : (one other : Entry) → one.id ≡ other.id → one.first ≡ other.first → one.bytes ≡ other.bytes → one ≡ other
made_of one other same1 same2 same3 =
    let is : ◌≡◌ {A = Entry} (record { id = one.id; first = one.first; bytes = one.bytes })
    (record { id = other.id; first = other.first; bytes = other.bytes }) = rw (same1, same2, same3) refl in is

-- bytes begin with one header at most
pub header_of-one : (entries root others other : ℕ) (xs ys : List ℕ) → entries < 2 ^ 32 → root < 2 ^ 32
    → others < 2 ^ 32 → other < 2 ^ 32
    → catalogue_header entries root ++ xs ≡ catalogue_header others other ++ ys → (entries ≡ others) × (root ≡ other)
    × (xs ≡ ys)
header_of-one entries root others other xs ys fit1 fit2 fit3 fit4 same =
    let parts : codes "CAT1" ++ (spelling 4 entries ++ (spelling 4 root ++ xs)) ≡ codes "CAT1"
    ++ (spelling 4 others ++ (spelling 4 other ++ ys)) =
    sym (header_of-append entries root xs) ∙ same ∙ header_of-append others other ys in
    let numbers = append_cancel_left (codes "CAT1") (spelling 4 entries ++ (spelling 4 root ++ xs))
    (spelling 4 others ++ (spelling 4 other ++ ys)) parts in
    let first = spelling-one 4 entries others (spelling 4 root ++ xs) (spelling 4 other ++ ys) fit1 fit3 numbers in
    let second = spelling-one 4 root other xs ys fit2 fit4 first.1 in
    (first.0, second.0, second.1)

-- bytes begin with one entry at most
pub entry_of-one : (one other : Entry) (xs ys : List ℕ) → FitsFields one → FitsFields other
    → entry_of one ++ xs ≡ entry_of other ++ ys → (one ≡ other) × (xs ≡ ys)
entry_of-one one other xs ys fits other_fits same =
    let parts = sym (entry_of-append one xs) ∙ same ∙ entry_of-append other ys in
    let first = spelling-one 4 one.id other.id (spelling 4 one.first ++ (spelling 8 one.bytes ++ xs))
    (spelling 4 other.first ++ (spelling 8 other.bytes ++ ys)) fits.id other_fits.id parts in
    let second = spelling-one 4 one.first other.first (spelling 8 one.bytes ++ xs) (spelling 8 other.bytes ++ ys)
    fits.first other_fits.first first.1 in
    let third = spelling-one 8 one.bytes other.bytes xs ys fits.bytes other_fits.bytes second.1 in
    (made_of one other first.0 second.0 third.0, third.1)

-- bytes begin with one list of so many entries at most
pub entries-one : (entries others : List Entry) (xs ys : List ℕ) → All FitsFields entries → All FitsFields others
    → length entries ≡ length others
    → flat_map entry_of entries ++ xs ≡ flat_map entry_of others ++ ys → (entries ≡ others) × (xs ≡ ys)
entries-one [] [] xs ys fit others_fit many same = (refl, same)
entries-one [] (other ∷ others) xs ys fit others_fit many same = absurd (omega arith)
entries-one (entry ∷ entries) [] xs ys fit others_fit many same = absurd (omega arith)
entries-one (entry ∷ entries) (other ∷ others) xs ys fit others_fit many same =
    let parts = sym (append_assoc (entry_of entry) (flat_map entry_of entries) xs) ∙ same
    ∙ append_assoc (entry_of other) (flat_map entry_of others) ys in
    let first = entry_of-one entry other (flat_map entry_of entries ++ xs) (flat_map entry_of others ++ ys)
    (All-head FitsFields entry entries fit) (All-head FitsFields other others others_fit) parts in
    let rest = entries-one entries others xs ys (All-tail FitsFields entry entries fit)
    (All-tail FitsFields other others others_fit) (omega arith) first.1 in
    (rw (first.0, rest.0) refl, rest.1)

-- the numbers of a proper catalogue fit its header
pub entries_fit : (entries : List Entry) (root : List ℕ) → IsProperCatalogue entries root → length entries < 2 ^ 32
entries_fit entries root proper = omega (arith, proper.most_entries)

pub root_fits : (entries : List Entry) (root : List ℕ) → IsProperCatalogue entries root → length root < 2 ^ 32
root_fits entries root proper = omega (arith, proper.most_root)

-- bytes are one catalogue at most
pub IsCatalogue-one : (bytes : List ℕ) (entries others : List Entry) (root other : List ℕ)
    → IsCatalogue bytes entries root → IsCatalogue bytes others other → (entries ≡ others) × (root ≡ other)
IsCatalogue-one bytes entries others root other is also =
    let same = sym is.spelled ∙ also.spelled in
    let header =
    header_of-one (length entries) (length root) (length others) (length other) (flat_map entry_of entries ++ root)
    (flat_map entry_of others ++ other)
    (entries_fit entries root is.proper) (root_fits entries root is.proper) (entries_fit others other also.proper)
    (root_fits others other also.proper) same in
    entries-one entries others root other is.proper.fit also.proper.fit header.0 header.2
