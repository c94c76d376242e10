-- Lists of numbers that climb from one number to another. Our own.
use Rattle.std.proofs.Common.{◌≡◌, ℕ, zero, suc, ◌+◌, ◌<◌, ◌≤◌, List, [], ◌∷◌, ◌++◌, length, slice_index_or, All, arith}
use Rattle.std.specs.List.{AllPairs, flat_map, range_with_len}
use Rattle.std.proofs.lemmas.List.Elements.{All-cons, All-nil, All-head, All-tail}
use Rattle.std.proofs.lemmas.List.Kept.{AllPairs-cons}
use Rattle.warehouse_root.specs.declared.cuboid.StoredCuboid.{StoredCuboid}
use Rattle.warehouse_root.specs.declared.layout.Layout.{Layout}
use Rattle.warehouse_root.specs.declared.layout.Layout.TheVariants.{First, Second}
use Rattle.warehouse_root.specs.Layouts.{dimension_object_count}
use Rattle.warehouse_root.specs.Objects.{dimension_ids, object_ids, run_ids, run_id, segment_ids}
use Rattle.warehouse_root.specs.Root.{ViewsAscend, IsProperRoot, IsProperCuboid, PlainRoot}

-- each is above those before it, none is below `low`, and all are below `high`
abbrev pub Climbs : ℕ → List ℕ → ℕ → Type 0
Climbs low [] high = low ≤ high
Climbs low (x ∷ xs) high = (low ≤ x) × Climbs (x + 1) xs high

-- from lower down
lower : (low at high : ℕ) (xs : List ℕ) → low ≤ at → Climbs at xs high → Climbs low xs high
lower low at high [] below climbs = omega (arith, climbs)
lower low at high (x ∷ xs) below climbs = (omega (arith, climbs.0), climbs.1)

-- one after the other
join : (low mid high : ℕ) (xs ys : List ℕ) → Climbs low xs mid → Climbs mid ys high → Climbs low (xs ++ ys) high
join low mid high [] ys first second = lower low mid high ys first second
join low mid high (x ∷ xs) ys first second = (first.0, join (x + 1) mid high xs ys first.1 second)

-- numbers in a row
row : (first count : ℕ) → Climbs first (range_with_len first count) (first + count)
row first zero = omega arith
row first (suc count) =
    let more : first + 1 + count ≡ first + suc count = omega arith in
    (omega arith, rw (← more) (row (first + 1) count))

none_below : (low high : ℕ) (xs : List ℕ) → Climbs low xs high → All (λ x. low ≤ x) xs
none_below low high [] climbs = All-nil (λ x. low ≤ x)
none_below low high (x ∷ xs) climbs =
    All-cons (λ y. low ≤ y) x xs climbs.0
    (none_below low high xs (lower low (x + 1) high xs (omega (arith, climbs.0)) climbs.1))

pub apart : (low high : ℕ) (xs : List ℕ) → Climbs low xs high → AllPairs (λ one other. one < other) xs
apart low high [] climbs = λ i j d before within. absurd (omega arith)
apart low high (x ∷ xs) climbs =
    AllPairs-cons (λ one other. one < other) x xs
    (λ k d within. omega (arith, none_below (x + 1) high xs climbs.1 k d within)) (apart (x + 1) high xs climbs.1)

-- the runs of cuboids whose views ascend
runs : (layout : Layout) (batches low : ℕ) (cuboids : List StoredCuboid)
    → All (λ cuboid. low ≤ run_id cuboid.view 0) cuboids
    → All (IsProperCuboid layout batches) cuboids → ViewsAscend cuboids
    → (high : ℕ) × Climbs low (flat_map run_ids cuboids) high
runs layout batches low [] above each ascending = (low, omega arith)
runs layout batches low (cuboid ∷ cuboids) above each ascending =
    let proper = All-head (IsProperCuboid layout batches) cuboid cuboids each in
    let first : ℕ = run_id cuboid.view 0 in
    let after : All (λ later. first + cuboid.runs ≤ run_id later.view 0) cuboids =
    λ k d within. let over : cuboid.view < (slice_index_or cuboids k d).view =
    ascending 0 (suc k) d (omega arith) (omega arith) in omega (arith, proper.most_runs, over) in
    let rest = runs layout batches (first + cuboid.runs) cuboids after
    (All-tail (IsProperCuboid layout batches) cuboid cuboids each)
    (λ i j d before within. ascending (suc i) (suc j) d (omega arith) (omega arith)) in (
      rest.0,
      join low (first + cuboid.runs) rest.0 (run_ids cuboid) (flat_map run_ids cuboids)
          (lower low first (first + cuboid.runs) (run_ids cuboid)
          (All-head (λ later. low ≤ run_id later.view 0) cuboid cuboids above) (row first cuboid.runs)) rest.1,
    )

few_dimensions : (layout : Layout) → dimension_object_count layout ≤ 5
few_dimensions First = omega arith
few_dimensions Second = omega arith

-- the objects of a proper root
pub objects : (root : PlainRoot) → IsProperRoot root → AllPairs (λ one other. one < other) (object_ids root)
objects root proper =
    let batches : ℕ = length root.batches in
    let dimensions : ℕ = dimension_object_count root.layout in
    let last = runs root.layout batches (65536 + 1 + batches) root.cuboids
    (λ k d within. omega (arith, proper.most_batches)) proper.each proper.ascending in
    let after = join 65537 (65537 + batches) last.0 (segment_ids batches) (flat_map run_ids root.cuboids)
    (row 65537 batches) last.1 in
    let whole =
    join 1 (1 + dimensions) last.0 (dimension_ids root.layout)
    (segment_ids batches ++ flat_map run_ids root.cuboids) (row 1 dimensions)
    (lower (1 + dimensions) 65537 last.0 (segment_ids batches ++ flat_map run_ids root.cuboids)
    (omega (arith, few_dimensions root.layout)) after) in
    apart 1 last.0 (object_ids root) whole
