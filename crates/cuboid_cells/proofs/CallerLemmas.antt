-- What the bytes of a run determine, for the proofs of other crates too.
use Rattle.std.proofs.Common.{◌≡◌, ℕ, ◌+◌, ◌*◌, ◌^◌, ◌<◌, Bool, true, false, List, [], ◌∷◌, ◌++◌, length, All, refl}
use Rattle.std.proofs.Common.{sym, ap, ◌∙◌, subst, arith, append_assoc, append-nil, length-append}
use Rattle.std.proofs.lemmas.List.Elements.{All-head, All-tail}
use Rattle.std.specs.List.{flat_map}
use Rattle.wire.specs.Spelling.{signed_spelling, spelling}
use Rattle.wire.proofs.CallerLemmas.{length-spelling, spelling-one}
use Rattle.lattice.specs.declared.view.View.{View}
use Rattle.lattice.specs.Views.{index_of}
use Rattle.lattice.proofs.Places.{index_below, one_view}
use Rattle.cuboid_cells.specs.declared.cell.Cell.{Cell}
use Rattle.cuboid_cells.specs.declared.key.Key.{Key}
use Rattle.cuboid_cells.specs.declared.span.Span.{Span}
use Rattle.cuboid_cells.specs.declared.summary.Summaries.{Summaries}
use Rattle.cuboid_cells.specs.declared.summary.Summary.{Summary}
use Rattle.cuboid_cells.specs.Cells.{AreProperCells, KeyFits, PlainCells, SummariesFit, SummaryFits}
use Rattle.cuboid_cells.specs.Limits.{all_code}
use Rattle.cuboid_cells.specs.Reading.{IsReadableCell}
use Rattle.cuboid_cells.specs.Spelled.{IsRun, cell_bytes, cell_of, run_header, key_codes, mode_bytes, mode_of, name_of}
use Rattle.cuboid_cells.specs.Spelled.{run_of, summaries_of, summary_of}
use Rattle.cuboid_cells.proofs.Fields.{five-append, length-five, length-six, length-three, part-one, signed-one}
use Rattle.cuboid_cells.proofs.Fields.{six-append, three-append}

pub length-mode_of : (grouped : Bool) (code : ℕ) → length (mode_of grouped code) ≡ mode_bytes grouped
length-mode_of false code = refl
length-mode_of true code = length-spelling 2 code

pub length-key_of : (grouped : Bool) (key : Key) → length (key_codes grouped key) ≡ 8 + mode_bytes grouped
length-key_of grouped key =
    omega (
      arith,
      length-five (spelling 2 key.customer) (spelling 2 key.supplier) (spelling 2 key.part) (spelling 2 key.date)
          (mode_of grouped key.ship_mode),
      length-spelling 2 key.customer,
      length-spelling 2 key.supplier,
      length-spelling 2 key.part,
      length-spelling 2 key.date,
      length-mode_of grouped key.ship_mode,
    )

pub length-summary_of : (summary : Summary) → length (summary_of summary) ≡ 24
length-summary_of summary =
    length-three (signed_spelling summary.sum) (signed_spelling summary.least) (signed_spelling summary.greatest)
    ∙ ap (λ (n : ℕ). n + (length (signed_spelling summary.least) + length (signed_spelling summary.greatest)))
    (length-spelling 8 _)
    ∙ ap (λ (n : ℕ). 8 + (n + length (signed_spelling summary.greatest))) (length-spelling 8 _)
    ∙ ap (λ (n : ℕ). 8 + (8 + n)) (length-spelling 8 _)

pub length-summaries_of : (measures : Summaries) → length (summaries_of measures) ≡ 144
length-summaries_of measures =
    omega (
      arith,
      length-six (summary_of measures.quantity) (summary_of measures.extendedprice) (summary_of measures.revenue)
          (summary_of measures.supplycost) (summary_of measures.discounted) (summary_of measures.profit),
      length-summary_of measures.quantity,
      length-summary_of measures.extendedprice,
      length-summary_of measures.revenue,
      length-summary_of measures.supplycost,
      length-summary_of measures.discounted,
      length-summary_of measures.profit,
    )

pub length-cell_of : (grouped : Bool) (cell : Cell) → length (cell_of grouped cell) ≡ cell_bytes grouped
length-cell_of grouped cell =
    omega (
      arith,
      length-three (key_codes grouped cell.key) (spelling 8 cell.count) (summaries_of cell.measures),
      length-key_of grouped cell.key,
      length-spelling 8 cell.count,
      length-summaries_of cell.measures,
    )

pub length-cells : (grouped : Bool) (cells : List Cell)
    → length (flat_map (cell_of grouped) cells) ≡ cell_bytes grouped * length cells
length-cells grouped [] = omega arith
length-cells false (cell ∷ cells) =
    omega (
      arith,
      length-append (cell_of false cell) (flat_map (cell_of false) cells),
      length-cell_of false cell,
      length-cells false cells,
    )
length-cells true (cell ∷ cells) =
    omega (
      arith,
      length-append (cell_of true cell) (flat_map (cell_of true) cells),
      length-cell_of true cell,
      length-cells true cells,
    )

pub length-name_of : (grouped : Bool) → length (name_of grouped) ≡ 4
length-name_of false = refl
length-name_of true = refl

pub length-header_of : (name : List ℕ) (view from to cells : ℕ) → length name ≡ 4
    → length (run_header name view from to cells) ≡ 20
length-header_of name view from to cells four =
    omega (
      arith,
      four,
      length-five name (spelling 4 view) (spelling 4 from) (spelling 4 to) (spelling 4 cells),
      length-spelling 4 view,
      length-spelling 4 from,
      length-spelling 4 to,
      length-spelling 4 cells,
    )

-- how many bytes a run has
pub length-run_of : (span : Span) (plain : PlainCells)
    → length (run_of span plain) ≡ 20 + cell_bytes plain.view.ship_mode * length plain.cells
length-run_of span plain =
    let header = run_header (name_of plain.view.ship_mode) (index_of plain.view) span.from span.to
    (length plain.cells) in
    omega (
      arith,
      length-append header (flat_map (cell_of plain.view.ship_mode) plain.cells),
      length-header_of (name_of plain.view.ship_mode) (index_of plain.view) span.from span.to (length plain.cells)
          (length-name_of plain.view.ship_mode),
      length-cells plain.view.ship_mode plain.cells,
    )

-- bytes begin with one fifth code at most
mode-one : (grouped : Bool) (a b : ℕ) (xs ys : List ℕ) → a < 2 ^ 16 → b < 2 ^ 16
    → (grouped ≡ false → a ≡ all_code) → (grouped ≡ false → b ≡ all_code)
    → mode_of grouped a ++ xs ≡ mode_of grouped b ++ ys → (a ≡ b) × (xs ≡ ys)
mode-one false a b xs ys fits others none no_other same = (none refl ∙ sym (no_other refl), same)
mode-one true a b xs ys fits others none no_other same = spelling-one 2 a b xs ys fits others same

-- bytes begin with one key at most
pub key-one : (grouped : Bool) (one other : Key) (xs ys : List ℕ) → KeyFits one → KeyFits other
    → (grouped ≡ false → one.ship_mode ≡ all_code) → (grouped ≡ false → other.ship_mode ≡ all_code)
    → key_codes grouped one ++ xs ≡ key_codes grouped other ++ ys → (one ≡ other) × (xs ≡ ys)
key-one grouped one other xs ys fits others none no_other same =
    let parts =
    sym (five-append (spelling 2 one.customer) (spelling 2 one.supplier) (spelling 2 one.part) (spelling 2 one.date)
    (mode_of grouped one.ship_mode) xs)
    ∙ same ∙ five-append (spelling 2 other.customer) (spelling 2 other.supplier) (spelling 2 other.part)
    (spelling 2 other.date) (mode_of grouped other.ship_mode) ys in
    let first = spelling-one 2 one.customer other.customer _ _ fits.customer others.customer parts in
    let second = spelling-one 2 one.supplier other.supplier _ _ fits.supplier others.supplier first.1 in
    let third = spelling-one 2 one.part other.part _ _ fits.part others.part second.1 in
    let fourth = spelling-one 2 one.date other.date _ _ fits.date others.date third.1 in
    let fifth = mode-one grouped one.ship_mode other.ship_mode xs ys fits.ship_mode others.ship_mode none no_other
    fourth.1 in
    let is : ◌≡◌ {A = Key}
    (record {
      customer = one.customer;
      supplier = one.supplier;
      part = one.part;
      date = one.date;
      ship_mode =
          one.ship_mode;
    })
    (record {
      customer = other.customer;
      supplier = other.supplier;
      part = other.part;
      date = other.date;
      ship_mode =
          other.ship_mode;
    }) =
    rw (first.0, second.0, third.0, fourth.0, fifth.0) refl in
    (is, fifth.1)

-- bytes begin with what is kept of one measure at most
summary-one : (one other : Summary) (xs ys : List ℕ) → SummaryFits one → SummaryFits other
    → summary_of one ++ xs ≡ summary_of other ++ ys → (one ≡ other) × (xs ≡ ys)
summary-one one other xs ys fits others same =
    let parts =
    sym (three-append (signed_spelling one.sum) (signed_spelling one.least) (signed_spelling one.greatest) xs)
    ∙ same ∙ three-append (signed_spelling other.sum) (signed_spelling other.least) (signed_spelling other.greatest)
    ys in
    let first = signed-one one.sum other.sum _ _ fits.sum others.sum parts in
    let second = signed-one one.least other.least _ _ fits.least others.least first.1 in
    let third = signed-one one.greatest other.greatest xs ys fits.greatest others.greatest second.1 in
    let is : ◌≡◌ {A = Summary} (record { sum = one.sum; least = one.least; greatest = one.greatest })
    (record { sum = other.sum; least = other.least; greatest = other.greatest }) =
    rw (first.0, second.0, third.0) refl in
    (is, third.1)

-- bytes begin with what is kept of the measures of one cell at most
summaries-one : (one other : Summaries) (xs ys : List ℕ) → SummariesFit one → SummariesFit other
    → summaries_of one ++ xs ≡ summaries_of other ++ ys → (one ≡ other) × (xs ≡ ys)
summaries-one one other xs ys fit others same =
    let parts =
    sym (six-append (summary_of one.quantity) (summary_of one.extendedprice) (summary_of one.revenue)
    (summary_of one.supplycost) (summary_of one.discounted) (summary_of one.profit) xs)
    ∙ same ∙ six-append (summary_of other.quantity) (summary_of other.extendedprice) (summary_of other.revenue)
    (summary_of other.supplycost) (summary_of other.discounted) (summary_of other.profit) ys in
    let first = summary-one one.quantity other.quantity _ _ fit.quantity others.quantity parts in
    let second = summary-one one.extendedprice other.extendedprice _ _ fit.extendedprice others.extendedprice first.1 in
    let third = summary-one one.revenue other.revenue _ _ fit.revenue others.revenue second.1 in
    let fourth = summary-one one.supplycost other.supplycost _ _ fit.supplycost others.supplycost third.1 in
    let fifth = summary-one one.discounted other.discounted _ _ fit.discounted others.discounted fourth.1 in
    let sixth = summary-one one.profit other.profit xs ys fit.profit others.profit fifth.1 in
    let is : ◌≡◌ {A = Summaries}
    (record {
      quantity = one.quantity;
      extendedprice = one.extendedprice;
      revenue = one.revenue;
      supplycost =
          one.supplycost;
      discounted = one.discounted;
      profit = one.profit;
    })
    (record {
      quantity = other.quantity;
      extendedprice = other.extendedprice;
      revenue = other.revenue;
      supplycost =
          other.supplycost;
      discounted = other.discounted;
      profit = other.profit;
    }) =
    rw (first.0, second.0, third.0, fourth.0, fifth.0, sixth.0) refl in
    (is, sixth.1)

-- bytes begin with one cell at most
cell-one : (grouped : Bool) (one other : Cell) (xs ys : List ℕ) → IsReadableCell grouped one
    → IsReadableCell grouped other
    → cell_of grouped one ++ xs ≡ cell_of grouped other ++ ys → (one ≡ other) × (xs ≡ ys)
cell-one grouped one other xs ys is also same =
    let parts = sym (three-append (key_codes grouped one.key) (spelling 8 one.count) (summaries_of one.measures) xs)
    ∙ same ∙ three-append (key_codes grouped other.key) (spelling 8 other.count) (summaries_of other.measures) ys in
    let first = key-one grouped one.key other.key _ _ is.fits.key also.fits.key is.absent also.absent parts in
    let second = spelling-one 8 one.count other.count _ _ is.fits.count also.fits.count first.1 in
    let third = summaries-one one.measures other.measures xs ys is.fits.measures also.fits.measures second.1 in
    let whole : ◌≡◌ {A = Cell} (record { key = one.key; count = one.count; measures = one.measures })
    (record { key = other.key; count = other.count; measures = other.measures }) =
    rw (first.0, second.0, third.0) refl in
    (whole, third.1)

-- bytes begin with one list of so many cells at most
pub cells-one : (grouped : Bool) (cells others : List Cell) (xs ys : List ℕ) → All (IsReadableCell grouped) cells
    → All (IsReadableCell grouped) others → length cells ≡ length others
    → flat_map (cell_of grouped) cells ++ xs ≡ flat_map (cell_of grouped) others ++ ys → (cells ≡ others) × (xs ≡ ys)
cells-one grouped [] [] xs ys are also many same = (refl, same)
cells-one grouped [] (other ∷ others) xs ys are also many same = absurd (omega arith)
cells-one grouped (cell ∷ cells) [] xs ys are also many same = absurd (omega arith)
cells-one grouped (cell ∷ cells) (other ∷ others) xs ys are also many same =
    let parts = sym (append_assoc (cell_of grouped cell) (flat_map (cell_of grouped) cells) xs) ∙ same
    ∙ append_assoc (cell_of grouped other) (flat_map (cell_of grouped) others) ys in
    let first =
    cell-one grouped cell other (flat_map (cell_of grouped) cells ++ xs) (flat_map (cell_of grouped) others ++ ys)
    (All-head (IsReadableCell grouped) cell cells are) (All-head (IsReadableCell grouped) other others also) parts in
    let rest = cells-one grouped cells others xs ys (All-tail (IsReadableCell grouped) cell cells are)
    (All-tail (IsReadableCell grouped) other others also) (omega arith) first.1 in
    (rw (first.0, rest.0) refl, rest.1)

-- bytes begin with one header at most
pub header-one : (name other : List ℕ) (view from to cells view' from' to' cells' : ℕ) (xs ys : List ℕ)
    → length name ≡ 4 → length other ≡ 4
    → view < 2 ^ 32 → from < 2 ^ 32 → to < 2 ^ 32 → cells < 2 ^ 32 → view' < 2 ^ 32 → from' < 2 ^ 32 → to' < 2 ^ 32
    → cells' < 2 ^ 32
    → run_header name view from to cells ++ xs ≡ run_header other view' from' to' cells' ++ ys
    → (name ≡ other) × (view ≡ view') × (from ≡ from') × (to ≡ to') × (cells ≡ cells') × (xs ≡ ys)
header-one name other view from to cells view' from' to' cells' xs ys four as_many f1 f2 f3 f4 g1 g2 g3 g4 same =
    let parts = sym (five-append name (spelling 4 view) (spelling 4 from) (spelling 4 to) (spelling 4 cells) xs)
    ∙ same ∙ five-append other (spelling 4 view') (spelling 4 from') (spelling 4 to') (spelling 4 cells') ys in
    let first = part-one name other _ _ (four ∙ sym as_many) parts in
    let second = spelling-one 4 view view' _ _ f1 g1 first.1 in
    let third = spelling-one 4 from from' _ _ f2 g2 second.1 in
    let fourth = spelling-one 4 to to' _ _ f3 g3 third.1 in
    let fifth = spelling-one 4 cells cells' xs ys f4 g4 fourth.1 in
    (first.0, second.0, third.0, fourth.0, fifth.0, fifth.1)

pub views_below : (view : View) → index_of view < 512
views_below view = index_below view

-- the cells of a view that are proper can be read back
pub are_readable : (plain : PlainCells) → AreProperCells plain → All (IsReadableCell plain.view.ship_mode) plain.cells
are_readable plain proper = λ k d within. record {
  fits = proper.fit k d within;
  absent = λ none. (proper.rules.each k d within).key.ship_mode.1 none;
}

-- a run is its view, its batches and its cells
module _ (bytes : List ℕ) where
  pub IsRun-one : (span to : Span) (a b : PlainCells) → IsRun bytes span a → IsRun bytes to b → (span ≡ to) × (a ≡ b)
  IsRun-one span to a b is also =
      let header = header-one (name_of a.view.ship_mode) (name_of b.view.ship_mode) (index_of a.view) span.from span.to
      (length a.cells)
      (index_of b.view) to.from to.to (length b.cells) (flat_map (cell_of a.view.ship_mode) a.cells)
      (flat_map (cell_of b.view.ship_mode) b.cells)
      (length-name_of a.view.ship_mode) (length-name_of b.view.ship_mode)
      (omega (arith, views_below a.view)) (omega (arith, is.span.some, is.span.fits)) is.span.fits
      (omega (arith, is.proper.rules.few))
      (omega (arith, views_below b.view)) (omega (arith, also.span.some, also.span.fits)) also.span.fits
      (omega (arith, also.proper.rules.few))
      (sym is.spelled ∙ also.spelled) in
      let view : a.view ≡ b.view = one_view a.view b.view header.1 in
      let grouped : b.view.ship_mode ≡ a.view.ship_mode = ap (λ (v : View). v.ship_mode) (sym view) in
      let rest : flat_map (cell_of a.view.ship_mode) a.cells ≡ flat_map (cell_of a.view.ship_mode) b.cells =
      header.5 ∙ ap (λ (g : Bool). flat_map (cell_of g) b.cells) grouped in
      let ends = append-nil (flat_map (cell_of a.view.ship_mode) a.cells) ∙ rest
      ∙ sym (append-nil (flat_map (cell_of a.view.ship_mode) b.cells)) in
      let cells = cells-one a.view.ship_mode a.cells b.cells [] [] (are_readable a is.proper)
      (subst (λ (g : Bool). All (IsReadableCell g) b.cells) grouped (are_readable b also.proper)) header.4 ends in
      let spans : ◌≡◌ {A = Span} (record { from = span.from; to = span.to }) (record { from = to.from; to = to.to }) =
      rw (header.2, header.3) refl in
      let whole : ◌≡◌ {A = PlainCells} (record { view = a.view; cells = a.cells })
      (record { view = b.view; cells = b.cells }) = rw (view, cells.0) refl in
      (spans, whole)
