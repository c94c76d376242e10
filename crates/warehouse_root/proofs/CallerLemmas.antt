-- What the bytes of a root determine, for the proofs of other crates too.
use Rattle.std.proofs.Common.{◌≡◌, ℕ, ◌+◌, ◌*◌, ◌^◌, ◌<◌, ◌≤◌, List, [], ◌∷◌, ◌++◌, length, All, refl, sym, ap, ◌∙◌}
use Rattle.std.proofs.Common.{arith, append_assoc, append-nil, length-append}
use Rattle.std.proofs.lemmas.List.Elements.{All-head, All-tail}
use Rattle.std.specs.List.{flat_map}
use Rattle.wire.specs.Limits.{most_root_bytes}
use Rattle.wire.specs.Spelling.{spelling}
use Rattle.wire.proofs.CallerLemmas.{length-spelling, spelling-one}
use Rattle.warehouse_root.specs.declared.cuboid.StoredCuboid.{StoredCuboid}
use Rattle.warehouse_root.specs.declared.layout.Layout.{Layout}
use Rattle.warehouse_root.specs.declared.layout.Layout.TheVariants.{First, Second}
use Rattle.cube_model.specs.declared.totals.Totals.{Totals}
use Rattle.warehouse_root.specs.Layouts.{view_count}
use Rattle.warehouse_root.specs.Reading.{CuboidFits, TotalsFit}
use Rattle.warehouse_root.specs.Root.{AreProperTotals, IsProperRoot, IsRoot, IsRootOf, PlainRoot, counts_spelling}
use Rattle.warehouse_root.specs.Root.{cuboid_of}
use Rattle.warehouse_root.specs.Root.{root_spelling, totals_spelling}
use Rattle.warehouse_root.proofs.Fields.{four-one, length-four, six-append}

-- the counts have 16 bytes
pub length-counts_of : (batches target additions cuboids : ℕ)
    → length (counts_spelling batches target additions cuboids) ≡ 16
length-counts_of batches target additions cuboids =
    omega (
      arith,
      length-four (spelling 4 batches) (spelling 4 target) (spelling 4 additions) (spelling 4 cuboids),
      length-spelling 4 batches,
      length-spelling 4 target,
      length-spelling 4 additions,
      length-spelling 4 cuboids,
    )

-- a cuboid has 12 bytes
pub length-cuboid_of : (cuboid : StoredCuboid) → length (cuboid_of cuboid) ≡ 12
length-cuboid_of cuboid =
    omega (
      arith,
      length-four (spelling 2 cuboid.view) (spelling 2 cuboid.runs) (spelling 4 cuboid.mark) (spelling 4 cuboid.cells),
      length-spelling 2 cuboid.view,
      length-spelling 2 cuboid.runs,
      length-spelling 4 cuboid.mark,
      length-spelling 4 cuboid.cells,
    )

-- the last four of the totals
last_totals : Totals → List ℕ
last_totals totals =
    spelling 8 totals.revenue
    ++ (spelling 8 totals.supplycost ++ (spelling 8 totals.discounted ++ spelling 8 totals.profit))

-- the totals have 48 bytes
pub length-totals_of : (totals : Totals) → length (totals_spelling totals) ≡ 48
unfolding last_totals
length-totals_of totals =
    let last : length (last_totals totals) ≡ 32 = omega (
      arith,
      length-four (spelling 8 totals.revenue) (spelling 8 totals.supplycost) (spelling 8 totals.discounted)
          (spelling 8 totals.profit),
      length-spelling 8 totals.revenue,
      length-spelling 8 totals.supplycost,
      length-spelling 8 totals.discounted,
      length-spelling 8 totals.profit,
    ) in
    omega (
      arith,
      last,
      length-append (spelling 8 totals.quantity) (spelling 8 totals.extendedprice ++ last_totals totals),
      length-append (spelling 8 totals.extendedprice) (last_totals totals),
      length-spelling 8 totals.quantity,
      length-spelling 8 totals.extendedprice,
    )

pub length-rows : (batches : List ℕ) → length (flat_map (spelling 4) batches) ≡ 4 * length batches
length-rows [] = refl
length-rows (rows ∷ batches) =
    omega (
      arith,
      length-append (spelling 4 rows) (flat_map (spelling 4) batches),
      length-spelling 4 rows,
      length-rows batches,
    )

pub length-cuboids : (cuboids : List StoredCuboid) → length (flat_map cuboid_of cuboids) ≡ 12 * length cuboids
length-cuboids [] = refl
length-cuboids (cuboid ∷ cuboids) =
    omega (
      arith,
      length-append (cuboid_of cuboid) (flat_map cuboid_of cuboids),
      length-cuboid_of cuboid,
      length-cuboids cuboids,
    )

-- how many bytes a root has
pub length-root_of : (root : PlainRoot)
    → length (root_spelling root) ≡ 64 + 4 * length root.batches + 12 * length root.cuboids
length-root_of root =
    let counts : List ℕ = counts_spelling (length root.batches) root.target root.additions (length root.cuboids) in
    let batches : List ℕ = flat_map (spelling 4) root.batches in
    let cuboids : List ℕ = flat_map cuboid_of root.cuboids in
    omega (
      arith,
      length-append counts (totals_spelling root.totals ++ (batches ++ cuboids)),
      length-append (totals_spelling root.totals) (batches ++ cuboids),
      length-append batches cuboids,
      length-counts_of (length root.batches) root.target root.additions (length root.cuboids),
      length-totals_of root.totals,
      length-rows root.batches,
      length-cuboids root.cuboids,
    )

-- a proper root has no more bytes than a store takes
pub root_is_short : (bytes : List ℕ) (root : PlainRoot) → IsRoot bytes root → length bytes ≤ most_root_bytes
root_is_short bytes root is =
    omega (arith, ap length is.spelled, length-root_of root, is.proper.most_batches, is.proper.most_cuboids)

-- bytes begin with the totals of one
pub totals-one : (one other : Totals) (xs ys : List ℕ) → TotalsFit one → TotalsFit other
    → totals_spelling one ++ xs ≡ totals_spelling other ++ ys → (one ≡ other) × (xs ≡ ys)
totals-one one other xs ys fit other_fit same =
    let parts =
    sym (six-append (spelling 8 one.quantity) (spelling 8 one.extendedprice) (spelling 8 one.revenue)
    (spelling 8 one.supplycost) (spelling 8 one.discounted) (spelling 8 one.profit) xs)
    ∙ same ∙ six-append (spelling 8 other.quantity) (spelling 8 other.extendedprice) (spelling 8 other.revenue)
    (spelling 8 other.supplycost) (spelling 8 other.discounted) (spelling 8 other.profit) ys in
    let first = spelling-one 8 one.quantity other.quantity _ _ fit.quantity other_fit.quantity parts in
    let second = spelling-one 8 one.extendedprice other.extendedprice _ _ fit.extendedprice other_fit.extendedprice
    first.1 in
    let third = spelling-one 8 one.revenue other.revenue _ _ fit.revenue other_fit.revenue second.1 in
    let fourth = spelling-one 8 one.supplycost other.supplycost _ _ fit.supplycost other_fit.supplycost third.1 in
    let fifth = spelling-one 8 one.discounted other.discounted _ _ fit.discounted other_fit.discounted fourth.1 in
    let sixth = spelling-one 8 one.profit other.profit xs ys fit.profit other_fit.profit fifth.1 in
    let is : ◌≡◌ {A = Totals}
    (record {
      quantity = one.quantity;
      extendedprice = one.extendedprice;
      revenue = one.revenue;
      supplycost =
          one.supplycost;
      discounted = one.discounted;
      profit = one.profit;
    })
    (record {
      quantity = other.quantity;
      extendedprice = other.extendedprice;
      revenue = other.revenue;
      supplycost =
          other.supplycost;
      discounted = other.discounted;
      profit = other.profit;
    }) =
    rw (first.0, second.0, third.0, fourth.0, fifth.0, sixth.0) refl in
    (is, sixth.1)

-- bytes begin with the rows of one list of so many batches at most
pub rows-one : (batches others : List ℕ) (xs ys : List ℕ) → All (λ rows. rows < 2 ^ 32) batches
    → All (λ rows. rows < 2 ^ 32) others → length batches ≡ length others
    → flat_map (spelling 4) batches ++ xs ≡ flat_map (spelling 4) others ++ ys → (batches ≡ others) × (xs ≡ ys)
rows-one [] [] xs ys fit others_fit many same = (refl, same)
rows-one [] (other ∷ others) xs ys fit others_fit many same = absurd (omega arith)
rows-one (rows ∷ batches) [] xs ys fit others_fit many same = absurd (omega arith)
rows-one (rows ∷ batches) (other ∷ others) xs ys fit others_fit many same =
    let parts = sym (append_assoc (spelling 4 rows) (flat_map (spelling 4) batches) xs) ∙ same
    ∙ append_assoc (spelling 4 other) (flat_map (spelling 4) others) ys in
    let first = spelling-one 4 rows other (flat_map (spelling 4) batches ++ xs) (flat_map (spelling 4) others ++ ys)
    (All-head (λ rows. rows < 2 ^ 32) rows batches fit) (All-head (λ rows. rows < 2 ^ 32) other others others_fit)
    parts in
    let rest = rows-one batches others xs ys (All-tail (λ rows. rows < 2 ^ 32) rows batches fit)
    (All-tail (λ rows. rows < 2 ^ 32) other others others_fit) (omega arith) first.1 in
    (rw (first.0, rest.0) refl, rest.1)

-- bytes begin with one cuboid at most
pub cuboid_of-one : (one other : StoredCuboid) (xs ys : List ℕ) → CuboidFits one → CuboidFits other
    → cuboid_of one ++ xs ≡ cuboid_of other ++ ys → (one ≡ other) × (xs ≡ ys)
cuboid_of-one one other xs ys fits other_fits same =
    let parts = four-one 2 2 4 4 one.view one.runs one.mark one.cells other.view other.runs other.mark other.cells xs ys
    fits.view fits.runs fits.mark fits.cells other_fits.view other_fits.runs other_fits.mark other_fits.cells same in
    let is : ◌≡◌ {A = StoredCuboid} (record { view = one.view; runs = one.runs; mark = one.mark; cells = one.cells })
    (record { view = other.view; runs = other.runs; mark = other.mark; cells = other.cells }) =
    rw (parts.0, parts.1, parts.2, parts.3) refl in
    (is, parts.4)

-- bytes begin with one list of so many cuboids at most
pub cuboids-one : (cuboids others : List StoredCuboid) (xs ys : List ℕ) → All CuboidFits cuboids → All CuboidFits others
    → length cuboids ≡ length others
    → flat_map cuboid_of cuboids ++ xs ≡ flat_map cuboid_of others ++ ys → (cuboids ≡ others) × (xs ≡ ys)
cuboids-one [] [] xs ys fit others_fit many same = (refl, same)
cuboids-one [] (other ∷ others) xs ys fit others_fit many same = absurd (omega arith)
cuboids-one (cuboid ∷ cuboids) [] xs ys fit others_fit many same = absurd (omega arith)
cuboids-one (cuboid ∷ cuboids) (other ∷ others) xs ys fit others_fit many same =
    let parts = sym (append_assoc (cuboid_of cuboid) (flat_map cuboid_of cuboids) xs) ∙ same
    ∙ append_assoc (cuboid_of other) (flat_map cuboid_of others) ys in
    let first = cuboid_of-one cuboid other (flat_map cuboid_of cuboids ++ xs) (flat_map cuboid_of others ++ ys)
    (All-head CuboidFits cuboid cuboids fit) (All-head CuboidFits other others others_fit) parts in
    let rest = cuboids-one cuboids others xs ys (All-tail CuboidFits cuboid cuboids fit)
    (All-tail CuboidFits other others others_fit) (omega arith) first.1 in
    (rw (first.0, rest.0) refl, rest.1)

-- the numbers of a root fit their fields
pub record RootFits (root : PlainRoot) : Type 0 where
  pub many : length root.batches < 2 ^ 32
  pub target : root.target < 2 ^ 32
  pub additions : root.additions < 2 ^ 32
  pub cuboids : length root.cuboids < 2 ^ 32
  pub totals : TotalsFit root.totals
  pub rows : All (λ rows. rows < 2 ^ 32) root.batches
  pub each : All CuboidFits root.cuboids

totals_fit : (totals : Totals) → AreProperTotals totals → TotalsFit totals
totals_fit totals proper = record {
  quantity = omega (arith, proper.quantity);
  extendedprice = omega (arith, proper.extendedprice);
  revenue = omega (arith, proper.revenue);
  supplycost = omega (arith, proper.supplycost);
  discounted = omega (arith, proper.discounted);
  profit = omega (arith, proper.profit);
}

few_views : (layout : Layout) → view_count layout ≤ 512
few_views layout = elim layout as (λ l. view_count l ≤ 512) [ First ↦ omega arith | Second ↦ omega arith ]

-- those of a proper root do
pub root_fits : (root : PlainRoot) → IsProperRoot root → RootFits root
root_fits root proper = record {
  many = omega (arith, proper.most_batches);
  target = omega (arith, proper.target, proper.most_batches);
  additions = omega (arith, proper.additions);
  cuboids = omega (arith, proper.most_cuboids);
  totals = totals_fit root.totals proper.totals;
  rows = λ k d within. omega (arith, proper.rows k d within);
  each = λ k d within.
      let cuboid = proper.each k d within in record {
        view = omega (arith, cuboid.view, few_views root.layout);
        runs = omega (arith, cuboid.most_runs);
        mark = omega (arith, cuboid.mark, proper.most_batches);
        cells = omega (arith, cuboid.most_cells);
      };
}

-- a root is its fields
made_of : (one other : PlainRoot) → one.layout ≡ other.layout → one.batches ≡ other.batches → one.target ≡ other.target
    → one.additions ≡ other.additions
    → one.totals ≡ other.totals → one.cuboids ≡ other.cuboids → one ≡ other
made_of one other same0 same1 same2 same3 same4 same5 =
    let is : ◌≡◌ {A = PlainRoot}
    (record {
      layout = one.layout;
      batches = one.batches;
      target = one.target;
      additions = one.additions;
      totals = one.totals;
      cuboids = one.cuboids;
    })
    (record {
      layout = other.layout;
      batches = other.batches;
      target = other.target;
      additions = other.additions;
      totals = other.totals;
      cuboids = other.cuboids;
    }) =
    rw (same0, same1, same2, same3, same4, same5) refl in is

-- a root whose numbers fit is the only one of its layout with its bytes
pub root_of-one : (one other : PlainRoot) → RootFits one → RootFits other → one.layout ≡ other.layout
    → root_spelling one ≡ root_spelling other → one ≡ other
root_of-one one other fits other_fits layout same =
    let counts = four-one 4 4 4 4 (length one.batches) one.target one.additions (length one.cuboids)
    (length other.batches) other.target other.additions (length other.cuboids)
    (totals_spelling one.totals ++ (flat_map (spelling 4) one.batches ++ flat_map cuboid_of one.cuboids))
    (totals_spelling other.totals ++ (flat_map (spelling 4) other.batches ++ flat_map cuboid_of other.cuboids))
    fits.many fits.target fits.additions fits.cuboids other_fits.many other_fits.target other_fits.additions
    other_fits.cuboids same in
    let totals =
    totals-one one.totals other.totals (flat_map (spelling 4) one.batches ++ flat_map cuboid_of one.cuboids)
    (flat_map (spelling 4) other.batches ++ flat_map cuboid_of other.cuboids)
    fits.totals other_fits.totals counts.4 in
    let rows = rows-one one.batches other.batches (flat_map cuboid_of one.cuboids) (flat_map cuboid_of other.cuboids)
    fits.rows other_fits.rows counts.0 totals.1 in
    let ends = append-nil (flat_map cuboid_of one.cuboids) ∙ rows.1
    ∙ sym (append-nil (flat_map cuboid_of other.cuboids)) in
    let cuboids = cuboids-one one.cuboids other.cuboids [] [] fits.each other_fits.each counts.3 ends in
    made_of one other layout rows.0 counts.1 counts.2 totals.0 cuboids.0

-- bytes are one root of a layout at most
pub IsRootOf-one : (layout : Layout) (bytes : List ℕ) (a b : PlainRoot) → IsRootOf layout bytes a
    → IsRootOf layout bytes b → a ≡ b
IsRootOf-one layout bytes a b is also =
    root_of-one a b (root_fits a is.is_root.proper) (root_fits b also.is_root.proper)
    (is.of_layout ∙ sym also.of_layout) (sym is.is_root.spelled ∙ also.is_root.spelled)
