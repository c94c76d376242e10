-- The codes of ship modes.
use Rattle.std.proofs.Common.{◌≡◌, ◌∙◌, sym, ap, refl, ℕ, ◌==◌, ◌<◌, Bool, true, false, cond, List, [], ◌∷◌, ◌++◌}
use Rattle.std.proofs.Common.{length, length-append, get_or, Some, None, arith, All}
use Rattle.std.specs.Prelude.{slice_get}
use Rattle.std.specs.List.{position_or_len}
use Rattle.std.specs.Str.{bytes_eq}
use Rattle.std.proofs.lemmas.Option.{slice_get-get_or}
use Rattle.std.proofs.lemmas.List.Elements.{All-filter, All-head, All-tail}
use Rattle.cube_model.specs.declared.attr.Axis.TheVariants.{Customer, Supplier, Part, Date}
use Rattle.cube_model.specs.declared.rows.DimRows.{DimRows}
use Rattle.cube_model.specs.declared.rows.LineOrder.{LineOrder}
use Rattle.dictionary.specs.Columns.{place_of}
use Rattle.dictionary.specs.Dictionary.{code_of}
use Rattle.dictionary.proofs.CallerLemmas.{place_append, place_seen, slice_get-lt}
use Rattle.dimensions.proofs.Keys.{place_of_some}
use Rattle.lattice.specs.declared.view.View.{View}
use Rattle.cuboid_cells.specs.Cells.{key_as_number}
use Rattle.cuboid_cells.specs.Limits.{all_code}
use Rattle.cuboid_upkeep.specs.Codes.{IsMode, mode_code}
use Rattle.cuboid_upkeep.specs.Grouping.{HasMembers, cell_over, code_on, key_of, rows_of_number, summaries_over}
use Rattle.cuboid_upkeep.specs.Lawful.{ModesAreAddedAfter}
use Rattle.cuboid_upkeep.specs.Representatives.{IsCodeOfMode}

-- ---- modes after others
still : (modes more : List (List ℕ)) (text : List ℕ) → place_of modes text < length modes
    → place_of (modes ++ more) text ≡ place_of modes text
still modes more text within = place_append (bytes_eq text) modes more (place_seen (bytes_eq text) modes within)

code_still : (grouped : Bool) (modes more : List (List ℕ)) (text : List ℕ) → (grouped ≡ true → IsMode modes text)
    → mode_code grouped (modes ++ more) text ≡ mode_code grouped modes text
code_still false modes more text mode = refl
code_still true modes more text mode = still modes more text (mode refl).among

module _ (dimensions : DimRows) (modes more : List (List ℕ)) (view : View) where
  members_still : (row : LineOrder) → HasMembers dimensions modes view row
      → HasMembers dimensions (modes ++ more) view row
  members_still row has = record {
    axes = has.axes;
    ship_mode = λ is.
        (let mode = has.ship_mode is in
        let same = still modes more row.shipmode mode.among in
        record {
          among = omega (arith, mode.among, same, length-append modes more);
          below = omega (arith, mode.below, same);
        });
  }

  key_still : (row : LineOrder) → HasMembers dimensions modes view row
      → key_of dimensions (modes ++ more) view row ≡ key_of dimensions modes view row
  key_still row has =
      let mode = code_still view.ship_mode modes more row.shipmode has.ship_mode in
      λ i. record {
        customer = code_on dimensions Customer view.customer row;
        supplier = code_on dimensions Supplier view.supplier row;
        part = code_on dimensions Part view.part row;
        date = code_on dimensions Date view.date row;
        ship_mode = mode i;
      }

  rows_still : (number : ℕ) (rows : List LineOrder) → All (HasMembers dimensions modes view) rows
      → rows_of_number dimensions (modes ++ more) view number rows ≡ rows_of_number dimensions modes view number rows
  rows_still number [] all = refl
  rows_still number (row ∷ rows) all =
      let key = key_still row (All-head (HasMembers dimensions modes view) row rows all) in
      let rest = rows_still number rows (All-tail (HasMembers dimensions modes view) row rows all) in
      λ i. cond (key_as_number (key i) == number) (row ∷ rest i) (rest i)

  cell_still : (rows : List LineOrder) → All (HasMembers dimensions modes view) rows
      → cell_over dimensions (modes ++ more) view rows ≡ cell_over dimensions modes view rows
  cell_still [] all = refl
  cell_still (row ∷ rows) all =
      let key = key_still row (All-head (HasMembers dimensions modes view) row rows all) in
      λ i. Some (record { key = key i; count = length (row ∷ rows); measures = summaries_over (row ∷ rows) })

pub they_still_represent : ModesAreAddedAfter
they_still_represent dimensions modes more rows plain represent =
    let view = plain.view in
    record {
      known = λ place default within. members_still dimensions modes more view (get_or rows place default)
          (represent.known place default within);
      ascending = represent.ascending;
      group = λ number.
          represent.group number
          ∙ sym (ap (cell_over dimensions (modes ++ more) view)
          (rows_still dimensions modes more view number rows represent.known)
          ∙ cell_still dimensions modes more view (rows_of_number dimensions modes view number rows)
          (All-filter (λ row. key_as_number (key_of dimensions modes view row) == number)
          (HasMembers dimensions modes view)
          rows represent.known));
    }

-- ---- codes of cells

-- a text is found at the code
pub code_found : (modes : List (List ℕ)) (place code : ℕ) (text : List ℕ) → place ≡ code
    → Some text ≡ slice_get modes place → code_of modes text ≡ Some place
    → code < all_code → IsCodeOfMode modes code
code_found modes place code text same found again below =
    let within : place < length modes = slice_get-lt modes place text (sym found) in
    let there : Some text ≡ Some (get_or modes place []) = found ∙ slice_get-get_or modes place [] within in
    let text_is : text ≡ get_or modes place [] = cc there in
    let place_is : position_or_len (bytes_eq text) modes ≡ place = place_of_some (bytes_eq text) modes place again in
    record {
      among = omega (arith, within, same);
      again = ap (λ (n : ℕ). place_of modes (get_or modes n [])) (sym same) ∙ ap (place_of modes) (sym text_is)
          ∙ place_is ∙ same;
      below = below;
    }

pub code_absent : (modes : List (List ℕ)) (place code : ℕ) → place ≡ code → None ≡ slice_get modes place
    → IsCodeOfMode modes code → ⊥
code_absent modes place code same none is =
    let within : place < length modes = omega (arith, is.among, same) in
    let there : None ≡ Some (get_or modes place []) = none ∙ slice_get-get_or modes place [] within in
    absurd (cc there)
