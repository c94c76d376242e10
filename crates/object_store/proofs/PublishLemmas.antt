-- Lemmas of `publish`, by subject.
use Rattle.std.proofs.Common.{◌≡◌, ℕ, ◌+◌, ◌<◌, List, [], ◌∷◌, ◌++◌, length, take, get_or, Bor, sym, ◌∙◌, ap, subst}
use Rattle.std.proofs.Common.{arith, ◌≢◌, ◌⊎◌, inl, inr, ⊎_elim, ◌≤◌}
use Rattle.std.specs.List.{AllPairs}
use Rattle.std.proofs.lemmas.List.{length-map, get_or-map, map_more, take_more, take-map}
use Rattle.std.proofs.lemmas.List.Elements.{All-get_or}
use Rattle.sector_device.specs.Device.{Image, DeviceState, IsImage, IsSettled, WritesSector, WritesWithin, Syncs}
use Rattle.sector_device.specs.Device.{LeavesOnly}
use Rattle.extents.specs.declared.extent.Extent.{Extent}
use Rattle.extents.specs.Extents.{Holds, SomeHolds, AreApart, IsInRange, AreLaidOut}
use Rattle.object_store.specs.declared.catalogue.entry.Entry.{Entry}
use Rattle.object_store.specs.Commit.{put_size, puts_of}
use Rattle.object_store.specs.Places.{bytes_at, extent_of, extents_of, object_at, objects_at, size_at}
use Rattle.object_store.specs.Publish.{AreFor, written_by, staged_slot, HasWritten, IsEither}
use Rattle.object_store.proofs.Extents.{before_apart, one_holds, held_in_range}
use Rattle.object_store.proofs.Frames.{objects_same, bytes_same}
use Rattle.std.proofs.lemmas.Bool.{cases_eq}
use Rattle.sector_device.proofs.Moments.{goes_on, leaves_also}
use Rattle.sector_device.proofs.WriteRuns.{synced_within}
use Rattle.superblock.specs.Superblock.{sector_of}
use Rattle.object_store.specs.declared.staged.Staged.{Staged}

-- ==== One object more in its place.

module _ (placed : List Entry) (raw : List (ℕ × Bor (List ℕ))) (for_puts : AreFor placed (puts_of raw)) (k : ℕ)
    (d : Entry) (e : ℕ × Bor (List ℕ)) (lt : k < length placed) where
  pub many : length placed ≡ length raw
  many = sym (length-map placed size_at) ∙ ap length for_puts ∙ length-map (puts_of raw) put_size
      ∙ length-map raw (λ put. (put.0, put.1.now))

  below : k < length raw
  below = omega (arith, lt, many)

  put_is : get_or (puts_of raw) k (e.0, e.1.now) ≡ ((get_or raw k e).0, (get_or raw k e).1.now)
  put_is = get_or-map (λ put. (put.0, put.1.now)) raw k e (e.0, e.1.now) below

  sizes : size_at (get_or placed k d) ≡ put_size ((get_or raw k e).0, (get_or raw k e).1.now)
  sizes =
      let many_puts : length (puts_of raw) ≡ length raw = length-map raw (λ put. (put.0, put.1.now)) in
      sym (get_or-map size_at placed k d (0, 0) lt)
      ∙ ap (λ (l : List (ℕ × ℕ)). get_or l k (0, 0)) for_puts
      ∙ get_or-map put_size (puts_of raw) k (e.0, e.1.now) (0, 0) (omega (arith, below, many_puts))
      ∙ ap put_size put_is

  same_bytes : (get_or placed k d).bytes ≡ length (get_or raw k e).1.now
  same_bytes = ap (λ (s : ℕ × ℕ). s.1) sizes

  -- its extent is one of the list
  extent_is : get_or (extents_of placed) k (extent_of d.first d.bytes)
      ≡ extent_of (get_or placed k d).first (length (get_or raw k e).1.now)
  extent_is =
      get_or-map (λ (x : Entry). extent_of x.first x.bytes) placed k d (extent_of d.first d.bytes) lt
      ∙ ap (λ (n : ℕ). extent_of (get_or placed k d).first n) same_bytes

  pub in_range : (size : ℕ) → AreLaidOut size (extents_of placed)
      → IsInRange size (extent_of (get_or placed k d).first (length (get_or raw k e).1.now))
  in_range size laid =
      let many_extents : length (extents_of placed) ≡ length placed =
      length-map placed (λ (x : Entry). extent_of x.first x.bytes) in
      subst (IsInRange size) extent_is
      (All-get_or (IsInRange size) (extents_of placed) k (extent_of d.first d.bytes)
      (omega (arith, lt, many_extents)) laid.in_range)

  pub held : (i : ℕ) → Holds (extent_of (get_or placed k d).first (length (get_or raw k e).1.now)) i
      → SomeHolds (extents_of placed) i
  held i here =
      let many_extents : length (extents_of placed) ≡ length placed =
      length-map placed (λ (x : Entry). extent_of x.first x.bytes) in
      one_holds (extents_of placed) k (extent_of d.first d.bytes) (omega (arith, lt, many_extents)) i
      (subst (λ (x : Extent). Holds x i) (sym extent_is) here)

  pub object_step : (mid new : Image) → AllPairs AreApart (extents_of placed)
      → objects_at mid (take k placed) ≡ take k (puts_of raw)
      → ((i : ℕ) → (Holds (extent_of (get_or placed k d).first (length (get_or raw k e).1.now)) i → ⊥) → new i ≡ mid i)
      → bytes_at new (get_or placed k d).first (length (get_or raw k e).1.now) ≡ (get_or raw k e).1.now
      → objects_at new (take (k + 1) placed) ≡ take (k + 1) (puts_of raw)
  object_step mid new apart so_far others written =
      let many_extents : length (extents_of placed) ≡ length placed =
      length-map placed (λ (x : Entry). extent_of x.first x.bytes) in
      let many_puts : length (puts_of raw) ≡ length raw = length-map raw (λ put. (put.0, put.1.now)) in
      let earlier : objects_at new (take k placed) ≡ objects_at mid (take k placed) =
      objects_same new mid (take k placed) (λ i there.
      others i (λ here. before_apart (extents_of placed) k (extent_of d.first d.bytes) apart
      (omega (arith, lt, many_extents)) i
      (subst (λ (l : List Extent). SomeHolds l i) (sym (take-map (λ (x : Entry). extent_of x.first x.bytes) k placed))
      there)
      (subst (λ (x : Extent). Holds x i) (sym extent_is) here))) in
      let this : object_at new (get_or placed k d) ≡ ((get_or raw k e).0, (get_or raw k e).1.now) =
      ap (λ (s : ℕ × ℕ). (s.0, bytes_at new (get_or placed k d).first s.1)) sizes
      ∙ ap (λ (b : List ℕ). ((get_or raw k e).0, b)) written in
      map_more (object_at new) placed k d lt
      ∙ ap (λ (l : List (ℕ × List ℕ)). l ++ object_at new (get_or placed k d) ∷ []) (earlier ∙ so_far)
      ∙ ap (λ (o : ℕ × List ℕ). take k (puts_of raw) ++ o ∷ []) (this ∙ sym put_is)
      ∙ sym (take_more (puts_of raw) k (e.0, e.1.now) (omega (arith, below, many_puts)))

-- ==== How the writes of what is staged go on, call by call.

module _ (staged : Staged) (puts : List (ℕ × List ℕ)) (s0 : DeviceState) (settled : IsSettled s0) where
  -- while the objects and the catalogue are written
  pub writing : (now : DeviceState) → WritesWithin (SomeHolds (written_by staged)) s0 now
      → LeavesOnly s0 now (IsEither staged puts s0.reads)
  writing now writes = leaves_also s0 now _ _ (λ image held. inl (λ i out. settled i (image i) (held i out)))
      writes.leaves

  module _ (size : ℕ) (laid : AreLaidOut size (written_by staged)) (s1 s2 s3 : DeviceState)
      (written : WritesWithin (SomeHolds (written_by staged)) s0 s1)
      (objects : objects_at s1.reads staged.placed.items ≡ puts)
      (catalogue : bytes_at s1.reads staged.superblock.catalogue staged.superblock.bytes ≡ staged.catalogue.items)
      (syncs : Syncs s1 s2) (settled2 : IsSettled s2) (block : List ℕ) (is_block : block ≡ sector_of staged.superblock)
      (writes : WritesSector (staged_slot staged) block s2 s3) where
    kept : WritesWithin (SomeHolds (written_by staged)) s0 s2
    kept = synced_within (SomeHolds (written_by staged)) s0 s1 s2 written syncs

    -- an image with the superblock in its slot, and as it was synced else
    after : (image : Image) → image (staged_slot staged) ≡ block
        → ((i : ℕ) → i ≢ staged_slot staged → image i ≡ s2.reads i)
        → HasWritten staged puts s0.reads image
    after image here others =
        let off : (i : ℕ) → SomeHolds (written_by staged) i → image i ≡ s1.reads i = λ i held.
        let r : (2 ≤ i) × (i < size) = held_in_range size (written_by staged) laid.in_range i held in
        others i (λ e. omega (arith, e, r.0)) ∙ syncs.reads i in record {
          block = here ∙ is_block;
          others = λ i out ne. others i ne ∙ kept.others i out;
          objects = objects_same image s1.reads staged.placed.items (λ i held. off i (inr held)) ∙ objects;
          catalogue =
              bytes_same image s1.reads staged.superblock.catalogue staged.superblock.bytes (λ i held. off i (inl held))
              ∙ catalogue;
        }

    each : (image : Image) → IsImage s3 image → IsEither staged puts s0.reads image
    each image is = by (writes.no_more (staged_slot staged) (image (staged_slot staged)) (is (staged_slot staged)))
      where
        others : (i : ℕ) → i ≢ staged_slot staged → image i ≡ s2.reads i
        others i ne =
            settled2 i (image i) (⊎_elim (λ was. was) (λ put. absurd (ne put.0)) (writes.no_more i (image i) (is i)))

        by : s2.may_hold (staged_slot staged) (image (staged_slot staged))
            ⊎ ((staged_slot staged ≡ staged_slot staged) × (image (staged_slot staged) ≡ block))
            → IsEither staged puts s0.reads image
        by (inr here) = inr (after image here.1 others)
        by (inl was) = inl (λ i out. at i (cases_eq i (staged_slot staged)) ∙ kept.others i out)
          where
            at : (i : ℕ) → (i ≡ staged_slot staged) ⊎ (i ≡ staged_slot staged → ⊥) → image i ≡ s2.reads i
            at i (inl e) = ap image e ∙ settled2 (staged_slot staged) (image (staged_slot staged)) was
                ∙ ap s2.reads (sym e)
            at i (inr ne) = others i ne

    -- the superblock is written
    pub switching : LeavesOnly s0 s3 (IsEither staged puts s0.reads)
    switching = goes_on s0 s2 s3 _ (writing s2 kept) writes.time each

    -- and synced
    pub ended : (s4 : DeviceState) → Syncs s3 s4 → LeavesOnly s0 s4 (IsEither staged puts s0.reads)
    ended s4 last =
        goes_on s0 s3 s4 _ switching last.time (λ image is. each image (λ i. last.no_more i (image i) (is i)))

    pub has_written : (s4 : DeviceState) → Syncs s3 s4 → s3.reads (staged_slot staged) ≡ block
        → HasWritten staged puts s0.reads s4.reads
    has_written s4 last here =
        after s4.reads (last.reads (staged_slot staged) ∙ here) (λ i ne. last.reads i ∙ writes.others i ne)
