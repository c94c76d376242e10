-- Lemmas of `catalogue`, by subject.
use Rattle.std.proofs.Common.{◌≡◌, ℕ, ◌+◌, ◌*◌, List, [], ◌∷◌, ◌++◌, length, All, refl, sym, ap, ◌∙◌, arith}
use Rattle.std.proofs.Common.{length-append, append-nil, drop, append_assoc, length-drop, Bool, true, false, not, ◌<◌}
use Rattle.std.proofs.Common.{take, codes, subst}
use Rattle.std.specs.List.{flat_map}
use Rattle.object_store.specs.declared.catalogue.entry.Entry.{Entry}
use Rattle.object_store.specs.Catalogue.{IdsAscend, IsCatalogue, IsProperEntry, catalogue_of, entry_of}
use Rattle.object_store.specs.Catalogue.{catalogue_header, FitsFields}
use Rattle.object_store.specs.CatalogueReading.{IsCatalogueHeader, ReadsEntries, ReadsCatalogueHeader, ReadsEntry}
use Rattle.object_store.proofs.Catalogues.{entries-one, entries_fit, header_of-one, length-entries, root_fits}
use Rattle.object_store.proofs.Catalogues.{header_of-append, length-header_of}
use Rattle.std.proofs.lemmas.List.{drop_all, flat_map_more}
use Rattle.wire.specs.Writing.{with_field}
use Rattle.wire.proofs.CallerLemmas.{with_field-done}
use Rattle.std.proofs.Math.Seq.{take-append_seam}
use Rattle.std.proofs.lemmas.List.Elements.{All-push}
use Rattle.std.proofs.lemmas.Slice.Eq.{bytes_eq-Decides}
use Rattle.std.specs.Str.{bytes_eq}
use Rattle.wire.specs.Spelling.{spelling}
use Rattle.wire.specs.Reading.{ReadsNumber, TakesBytes}

-- ==== When the parts that were read are a catalogue. Our own.

module _ (bytes mid : List ℕ) (count root_bytes : ℕ) (header : ReadsCatalogueHeader bytes mid count root_bytes) where
  -- the header of a catalogue is the one that was read
  pub header_is : (entries : List Entry) (root : List ℕ) → IsCatalogue bytes entries root
      → (count ≡ length entries) × (root_bytes ≡ length root) × (mid ≡ flat_map entry_of entries ++ root)
  header_is entries root is =
      header_of-one count root_bytes (length entries) (length root) mid (flat_map entry_of entries ++ root)
      header.entries_fit header.root_fits (entries_fit entries root is.proper) (root_fits entries root is.proper)
      (sym header.spelled ∙ is.spelled)

  -- the length of a catalogue
  pub length_is : (entries : List Entry) (root : List ℕ) → IsCatalogue bytes entries root
      → length bytes ≡ 12 + 16 * count + root_bytes
  length_is entries root is =
      let same = header_is entries root is in
      let rest : length mid ≡ 16 * length entries + length root =
      ap length same.2 ∙ length-append (flat_map entry_of entries) root
      ∙ ap (λ (n : ℕ). n + length root) (length-entries entries) in
      omega (arith, header.left, same.0, same.1)

  -- the header of a catalogue keeps its rules
  pub is_of : (entries : List Entry) (root : List ℕ) → IsCatalogue bytes entries root
      → IsCatalogueHeader (length bytes) count root_bytes
  is_of entries root is =
      let same = header_is entries root is in record {
        most_entries = omega (arith, same.0, is.proper.most_entries);
        most_root = omega (arith, same.1, is.proper.most_root);
        whole = length_is entries root is;
      }

  -- the entries of a catalogue are those that were read
  pub entries_are : (rest : List ℕ) (read entries : List Entry) (root : List ℕ) → ReadsEntries count mid rest read
      → IsCatalogue bytes entries root → read ≡ entries
  entries_are rest read entries root reads is =
      let same = header_is entries root is in
      (entries-one read entries rest root reads.fit is.proper.fit (reads.many ∙ same.0) (sym reads.spelled ∙ same.2)).0

  -- the bytes after the entries
  pub root_left : (rest : List ℕ) (read : List Entry) → ReadsEntries count mid rest read
      → IsCatalogueHeader (length bytes) count root_bytes → length rest ≡ root_bytes
  root_left rest read reads proper =
      let all : length mid ≡ length (flat_map entry_of read) + length rest = ap length reads.spelled
      ∙ length-append (flat_map entry_of read) rest in
      omega (arith, header.left, length-entries read, reads.many, proper.whole)

  -- what keeps the rules is a catalogue
  pub is_catalogue : (rest left root : List ℕ) (read : List Entry) → ReadsEntries count mid rest read
      → IsCatalogueHeader (length bytes) count root_bytes
      → rest ≡ root ++ left → length root ≡ root_bytes → All IsProperEntry read → IdsAscend read
      → IsCatalogue bytes read root
  is_catalogue rest left root read reads proper split is_root each ascending =
      let all : length rest ≡ root_bytes = root_left rest read reads proper in
      let none : length left ≡ 0 = omega (arith, ap length split, length-append root left) in
      let empty : left ≡ [] = elim left as (λ (xs : List ℕ). length xs ≡ 0 → xs ≡ []) [
        | [] ↦ λ e. refl
        | x ∷ xs ↦ λ e. absurd (omega arith)
      ] none in
      let is_rest : rest ≡ root = split ∙ ap (λ (xs : List ℕ). root ++ xs) empty ∙ append-nil root in
      let said : bytes ≡ catalogue_of read root =
      header.spelled ∙ ap (λ (n : ℕ). catalogue_header n root_bytes ++ mid) (sym reads.many)
      ∙ ap (λ (n : ℕ). catalogue_header (length read) n ++ mid) (sym is_root)
      ∙ ap (λ (xs : List ℕ). catalogue_header (length read) (length root) ++ xs)
      (reads.spelled ∙ ap (λ (xs : List ℕ). flat_map entry_of read ++ xs) is_rest) in record {
        spelled = said;
        proper = record {
          fit = reads.fit;
          each = each;
          ascending = ascending;
          most_entries = omega (arith, reads.many, proper.most_entries);
          most_root = omega (arith, proper.most_root);
        };
      }

-- ==== Fields that are written one after the other. Our own.

-- a field after those that are done
field_put : (at : ℕ) (done field rest old new : List ℕ) → length done ≡ at → old ≡ done ++ rest
    → new ≡ with_field at field old → new ≡ (done ++ field) ++ drop (length field) rest
field_put at done field rest old new is_at was is =
    is ∙ ap (λ (bytes : List ℕ). with_field at field bytes) was
    ∙ ap (λ (n : ℕ). with_field n field (done ++ rest)) (sym is_at)
    ∙ with_field-done done field rest
    ∙ sym (append_assoc done field (drop (length field) rest))

-- three fields one after the other, which fill the bytes
pub three_put : (a b c s0 s1 s2 s3 : List ℕ) (at1 at2 : ℕ) → length a ≡ at1 → at1 + length b ≡ at2
    → length s0 ≡ at2 + length c
    → s1 ≡ with_field 0 a s0 → s2 ≡ with_field at1 b s1 → s3 ≡ with_field at2 c s2 → s3 ≡ a ++ (b ++ c)
three_put a b c s0 s1 s2 s3 at1 at2 is1 is2 room put1 put2 put3 =
    let r1 : List ℕ = drop (length a) s0 in
    let r2 : List ℕ = drop (length b) r1 in
    let e1 : s1 ≡ a ++ r1 = field_put 0 [] a s0 s0 s1 refl refl put1 in
    let e2 : s2 ≡ (a ++ b) ++ r2 = field_put at1 a b r1 s1 s2 is1 e1 put2 in
    let two : length (a ++ b) ≡ at2 = omega (arith, length-append a b) in
    let e3 : s3 ≡ ((a ++ b) ++ c) ++ drop (length c) r2 = field_put at2 (a ++ b) c r2 s2 s3 two e2 put3 in
    let full : drop (length c) r2 ≡ [] =
    drop_all (length c) r2 (omega (arith, length-drop (length a) s0, length-drop (length b) r1)) in
    e3 ∙ ap (λ (rest : List ℕ). ((a ++ b) ++ c) ++ rest) full ∙ append-nil ((a ++ b) ++ c) ∙ append_assoc a b c

-- ==== What the parts that were read say of the bytes. Our own.

-- bytes that a comparison found to differ, or found to be the same
pub name_differs : (a b : List ℕ) (r : Bool) → r ≡ not (bytes_eq a b) → r ≡ true → a ≡ b → ⊥
name_differs a b r is differs same = let found : bytes_eq a b ≡ true = (bytes_eq-Decides a b).1 same in
    let no : r ≡ false = is ∙ ap not found in cc

pub name_is_same : (a b : List ℕ) (r : Bool) → r ≡ not (bytes_eq a b) → r ≡ false → a ≡ b
name_is_same a b r is alike =
    (bytes_eq-Decides a b).0
    ((elim (bytes_eq a b) as (λ (t : Bool). false ≡ not t → t ≡ true) [ true ↦ λ e. refl | false ↦ λ e. e ])
    (sym alike ∙ is))

-- fewer bytes than a header has
pub too_short : (old : List ℕ) (entries root : ℕ) (rest : List ℕ) → length old < 12
    → old ≡ catalogue_header entries root ++ rest → ⊥
too_short old entries root rest short is =
    let long : length old ≡ 12 + length rest = ap length is ∙ length-append (catalogue_header entries root) rest
    ∙ ap (λ (n : ℕ). n + length rest) (length-header_of entries root) in omega arith

-- the first four bytes of a header
pub name_of : (old new part : List ℕ) (entries root : ℕ) (rest : List ℕ) → TakesBytes 4 old new part
    → old ≡ catalogue_header entries root ++ rest → part ≡ codes "CAT1"
name_of old new part entries root rest taken is =
    sym (take-append_seam part new) ∙ ap (λ (n : ℕ). take n (part ++ new)) taken.many
    ∙ ap (take 4) (sym taken.spelled ∙ is)

-- the name and two numbers are a header
pub header_read : (old r0 r1 new part : List ℕ) (entries root : ℕ) → TakesBytes 4 old r0 part → part ≡ codes "CAT1"
    → ReadsNumber 4 r0 r1 entries → ReadsNumber 4 r1 new root → ReadsCatalogueHeader old new entries root
header_read old r0 r1 new part entries root taken name one two = record {
  entries_fit = one.fits;
  root_fits = two.fits;
  spelled = taken.spelled ∙ ap (λ (front : List ℕ). front ++ r0) name
      ∙ ap (λ (rest : List ℕ). codes "CAT1" ++ rest)
      (one.spelled ∙ ap (λ (rest : List ℕ). spelling 4 entries ++ rest) two.spelled)
      ∙ sym (header_of-append entries root new);
  left = omega (arith, taken.left, one.left, two.left);
}

-- one more entry was read, after those before it
pub one_more : (count : ℕ) (old mid new : List ℕ) (entries after : List Entry) (entry : Entry)
    → ReadsEntries count old mid entries → ReadsEntry mid new entry
    → after ≡ entries ++ entry ∷ [] → ReadsEntries (count + 1) old new after
one_more count old mid new entries after entry before one is = record {
  fit = subst (All FitsFields) (sym is) (All-push FitsFields entries entry before.fit one.fits);
  many = ap length is ∙ length-append entries (entry ∷ []) ∙ ap (λ (n : ℕ). n + 1) before.many;
  spelled = before.spelled ∙ ap (λ (rest : List ℕ). flat_map entry_of entries ++ rest) one.spelled
      ∙ sym (append_assoc (flat_map entry_of entries) (entry_of entry) new)
      ∙ ap (λ (front : List ℕ). front ++ new) (flat_map_more entry_of [] entries entry
      ∙ ap (flat_map entry_of) (sym is));
}
