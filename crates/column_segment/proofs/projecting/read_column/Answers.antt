use Rattle.std.proofs.Common.{◌≡◌, ◌+◌, ◌*◌, ◌<◌, ℕ, List, slice_index, sym, subst, ◌∙◌, true≢false}
use Rattle.column_segment.specs.Columns.{width_of}
use Rattle.column_segment.specs.Decoded.{fact_place}
use Rattle.column_segment.specs.Projected.{StaysOutside}
use Rattle.column_segment.proofs.ProjectingLemmas.{fits_shared, shares, still_shares}
use Rattle.column_segment.proofs.projecting.read_column.Goals as goal

pub returns-clause-found : goal.returns-clause-found
returns-clause-found g c keeps text at enough =
    let old : List ℕ = c.args.bytes.now in
    let new : List ℕ = c.read_over.new.bytes in
    let rows : ℕ = c.args.rows in
    let column = c.args.column in
    let room = c.requires.holds.room in
    let outside : StaysOutside (12 + fact_place column * rows) (width_of column * rows) old new =
    subst (λ (width : ℕ). StaysOutside (12 + fact_place column * rows) (width * rows) old new) c.width.ensures
    (subst (λ (place : ℕ). StaysOutside (12 + place * rows) (c.width.result * rows) old new) c.place.ensures.value
    c.read_over.ensures.outside) in
    let inside : (place : ℕ) → place < width_of column * rows → slice_index new (12 + fact_place column * rows + place)
    ≡ slice_index text (12 + fact_place column * rows + place) =
    subst (λ (width : ℕ). (place : ℕ) → place < width * rows → slice_index new (12 + fact_place column * rows + place)
    ≡ slice_index text (12 + fact_place column * rows + place)) c.width.ensures
    (subst (λ (start : ℕ). (place : ℕ) → place < c.width.result * rows
    → slice_index new (12 + start * rows + place) ≡ slice_index text (12 + start * rows + place))
    c.place.ensures.value
    (c.in_ok-read_over.ensures.inside keeps text at)) in
    let own = shares old new rows column room outside text enough inside in (
      own,
      fits_shared text new rows column (sym own) (c.fits_column.ensures.0 c.if-not-fits_column.false),
      still_shares old new rows column room outside text enough inside,
    )

pub returns-then-not-fits_column-clause-refused : goal.returns-then-not-fits_column-clause-refused
returns-then-not-fits_column-clause-refused g c = λ err keeps text at has.
    let old : List ℕ = c.args.bytes.now in
    let new : List ℕ = c.read_over.new.bytes in
    let rows : ℕ = c.args.rows in
    let column = c.args.column in
    let outside : StaysOutside (12 + fact_place column * rows) (width_of column * rows) old new =
    subst (λ (width : ℕ). StaysOutside (12 + fact_place column * rows) (width * rows) old new) c.width.ensures
    (subst (λ (place : ℕ). StaysOutside (12 + place * rows) (c.width.result * rows) old new) c.place.ensures.value
    c.read_over.ensures.outside) in
    let inside : (place : ℕ) → place < width_of column * rows → slice_index new (12 + fact_place column * rows + place)
    ≡ slice_index text (12 + fact_place column * rows + place) =
    subst (λ (width : ℕ). (place : ℕ) → place < width * rows → slice_index new (12 + fact_place column * rows + place)
    ≡ slice_index text (12 + fact_place column * rows + place)) c.width.ensures
    (subst (λ (start : ℕ). (place : ℕ) → place < c.width.result * rows
    → slice_index new (12 + start * rows + place) ≡ slice_index text (12 + start * rows + place))
    c.place.ensures.value
    (c.in_ok-read_over.ensures.inside keeps text at)) in
    let fits = fits_shared new text rows column
    (shares old new rows column c.requires.holds.room outside text has.room inside)
    (has.amounts column) in
    true≢false (sym (c.fits_column.ensures.1 fits) ∙ c.if-not-fits_column.true)
