-- When the parts that were read are a root. Our own.
use Rattle.std.proofs.Common.{◌≡◌, ℕ, ◌<◌, List, [], ◌∷◌, ◌++◌, length, refl, sym, ap, ◌∙◌, arith, append-nil}
use Rattle.std.specs.List.{flat_map}
use Rattle.wire.specs.Spelling.{spelling}
use Rattle.warehouse_root.specs.declared.cuboid.StoredCuboid.{StoredCuboid}
use Rattle.warehouse_root.specs.declared.layout.Layout.{Layout}
use Rattle.warehouse_root.specs.declared.reading.Counts.{Counts}
use Rattle.cube_model.specs.declared.totals.Totals.{Totals}
use Rattle.warehouse_root.specs.Reading.{AreCountsOf, ArePartsOf, ReadsCounts, ReadsCuboids, ReadsFront, ReadsRows}
use Rattle.warehouse_root.specs.Reading.{ReadsTotals, SpellNoRoot, root_of_parts}
use Rattle.warehouse_root.specs.Root.{IsProperRoot, IsRoot, IsRootOf, PlainRoot, counts_spelling, cuboid_of}
use Rattle.warehouse_root.specs.Root.{root_spelling, totals_spelling}
use Rattle.warehouse_root.proofs.CallerLemmas.{RootFits, length-root_of, root_fits, root_of-one}
use Rattle.warehouse_root.proofs.Fields.{four-one}

module _ (bytes : List ℕ) where
  -- a root has more bytes than its counts and its totals
  pub too_short : length bytes < 64 → SpellNoRoot bytes
  too_short short root is = omega (arith, short, ap length is.spelled, length-root_of root)

  -- the counts of a root are those that are at its front
  pub counts_are_of : (mid : List ℕ) (counts : Counts) → ReadsCounts bytes mid counts → (root : PlainRoot)
      → IsRoot bytes root → AreCountsOf (length bytes) counts
  counts_are_of mid counts reads root is =
      let fits = root_fits root is.proper in
      let same = four-one 4 4 4 4 counts.batches counts.target counts.additions counts.cuboids (length root.batches)
      root.target root.additions (length root.cuboids)
      mid (totals_spelling root.totals ++ (flat_map (spelling 4) root.batches ++ flat_map cuboid_of root.cuboids))
      reads.fit.batches reads.fit.target reads.fit.additions reads.fit.cuboids fits.many fits.target fits.additions
      fits.cuboids (sym reads.spelled ∙ is.spelled) in
      omega (arith, ap length is.spelled, length-root_of root, same.0, same.3)

module _ (layout : Layout) (bytes : List ℕ) where
  module _ (r0 r1 r2 r3 : List ℕ) (counts : Counts) (totals : Totals) (batches : List ℕ)
      (cuboids : List StoredCuboid)
      (reads0 : ReadsCounts bytes r0 counts) (whole : AreCountsOf (length bytes) counts)
      (reads1 : ReadsTotals r0 r1 totals)
      (reads2 : ReadsRows counts.batches r1 r2 batches) (reads3 : ReadsCuboids counts.cuboids r2 r3 cuboids) where
    -- no byte is left
    none_left : r3 ≡ []
    none_left =
        let none : length r3 ≡ 0 = omega (arith, whole, reads0.left, reads1.left, reads2.left, reads3.left) in
        (elim r3 as (λ (xs : List ℕ). length xs ≡ 0 → xs ≡ []) [ [] ↦ λ e. refl | x ∷ xs ↦ λ e. absurd (omega arith) ])
        none

    -- the bytes are those of the parts
    pub parts_spelled : bytes ≡ root_spelling (root_of_parts layout counts totals batches cuboids)
    parts_spelled =
        let ends : r2 ≡ flat_map cuboid_of cuboids = reads3.spelled
        ∙ ap (λ (xs : List ℕ). flat_map cuboid_of cuboids ++ xs) none_left
        ∙ append-nil (flat_map cuboid_of cuboids) in
        let rest : r0 ≡ totals_spelling totals ++ (flat_map (spelling 4) batches ++ flat_map cuboid_of cuboids) =
        reads1.spelled
        ∙ ap (λ (xs : List ℕ). totals_spelling totals ++ xs)
        (reads2.spelled ∙ ap (λ (xs : List ℕ). flat_map (spelling 4) batches ++ xs) ends) in
        reads0.spelled
        ∙ ap (λ (xs : List ℕ). counts_spelling counts.batches counts.target counts.additions counts.cuboids ++ xs) rest
        ∙ ap (λ (n : ℕ). counts_spelling n counts.target counts.additions counts.cuboids
        ++ (totals_spelling totals ++ (flat_map (spelling 4) batches ++ flat_map cuboid_of cuboids))) (sym reads2.many)
        ∙ ap (λ (n : ℕ). counts_spelling (length batches) counts.target counts.additions n
        ++ (totals_spelling totals ++ (flat_map (spelling 4) batches ++ flat_map cuboid_of cuboids))) (sym reads3.many)

    parts_fit : RootFits (root_of_parts layout counts totals batches cuboids)
    parts_fit = record {
      many = omega (arith, reads2.many, reads0.fit.batches);
      target = reads0.fit.target;
      additions = reads0.fit.additions;
      cuboids = omega (arith, reads3.many, reads0.fit.cuboids);
      totals = reads1.fit;
      rows = reads2.fit;
      each = reads3.fit;
    }

    -- a root of these bytes has these parts
    pub parts_are : (root : PlainRoot) → IsRootOf layout bytes root
        → root_of_parts layout counts totals batches cuboids ≡ root
    parts_are root is =
        root_of-one (root_of_parts layout counts totals batches cuboids) root parts_fit
        (root_fits root is.is_root.proper)
        (sym is.of_layout) (sym parts_spelled ∙ is.is_root.spelled)

    -- the parts are a root, where they keep the rules
    pub is_root_of : IsProperRoot (root_of_parts layout counts totals batches cuboids)
        → IsRootOf layout bytes (root_of_parts layout counts totals batches cuboids)
    is_root_of proper = record { of_layout = refl; is_root = record { spelled = parts_spelled; proper = proper } }

-- the front and what is after it
pub parts_of_bytes : (bytes r1 r2 r3 : List ℕ) (counts : Counts) (totals : Totals) (batches : List ℕ)
    (cuboids : List StoredCuboid)
    → ReadsFront bytes r1 counts totals → ReadsRows counts.batches r1 r2 batches
    → ReadsCuboids counts.cuboids r2 r3 cuboids → ArePartsOf bytes counts totals batches cuboids
parts_of_bytes bytes r1 r2 r3 counts totals batches cuboids front rows last = record {
  many = rows.many;
  is_root_of = λ layout. is_root_of layout bytes front.mid r1 r2 r3 counts totals batches cuboids front.counts_read
      front.whole front.totals_read rows last;
  parts_are = λ layout. parts_are layout bytes front.mid r1 r2 r3 counts totals batches cuboids front.counts_read
      front.whole front.totals_read rows last;
}
