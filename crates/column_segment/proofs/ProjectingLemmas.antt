-- Lemmas of `projecting`, by subject.
use Rattle.std.proofs.Common.{◌≡◌, ◌⊎◌, inl, inr, ℕ, ◌+◌, ◌-◌, ◌*◌, ◌^◌, ◌<◌, ◌≤◌, Bool, true, false, nat_lt, List}
use Rattle.std.proofs.Common.{length, map, take, drop, slice_index, refl, sym, ap, subst, ◌∙◌, arith, length-drop}
use Rattle.std.proofs.Common.{drop-drop, Option, Some, None, [], ◌∷◌, ◌++◌, All, zero, suc, Result, Ok, Err, get_or}
use Rattle.std.specs.Int.{from_le_bytes, w64}
use Rattle.std.specs.Simd.{first_chunks}
use Rattle.std.proofs.lemmas.Bool.{ltb-false, ltb-true}
use Rattle.std.proofs.lemmas.List.{ext_get_or, get_or-drop, get_or-take, length-take-le, take-append-drop}
use Rattle.column_kernels.specs.Checks.{all_below}
use Rattle.column_segment.specs.declared.columns.FactColumn.{FactColumn}
use Rattle.column_segment.specs.declared.columns.FactColumn.TheVariants.{OrderKey, LineNumber, CustKey, PartKey}
use Rattle.column_segment.specs.declared.columns.FactColumn.TheVariants.{SuppKey, OrderDate, Quantity, ExtendedPrice}
use Rattle.column_segment.specs.declared.columns.FactColumn.TheVariants.{OrdTotalPrice, Discount, Revenue, SupplyCost}
use Rattle.column_segment.specs.declared.columns.FactColumn.TheVariants.{Tax}
use Rattle.column_segment.specs.Columns.{width_of}
use Rattle.column_segment.specs.Decoded.{column_bytes, fact_place}
use Rattle.column_segment.specs.Projected.{FitsColumnIn, HasColumns, ShareColumn, StaysOutside}
use Rattle.column_segment.proofs.Chunked.{within_rows}
use Rattle.std.specs.List.{AllByRecursion}
use Rattle.std.specs.Option.{IsSomeAnd}
use Rattle.std.proofs.Math.Seq.{take-append_seam}
use Rattle.std.proofs.lemmas.List.Elements.{recursion_from_All}
use Rattle.column_segment.specs.Reading.{HasHeader, HasNumbers}
use Rattle.column_segment.specs.Segment.{segment_header}
use Rattle.column_segment.proofs.Passes.{length-header}
use Rattle.std.specs.Result.{IsErrAnd, IsErrOf, MatchResult}
use Rattle.cube_model.specs.declared.fault.Fault.{Fault}
use Rattle.cube_model.specs.declared.fault.Fault.TheVariants.{BadLayout}
use Rattle.wire.specs.declared.source.Source.{Ghosts}
use Rattle.wire.specs.Runs.{HasRead, IsRefused}
use Rattle.wire.proofs.CallerLemmas.{HasRead-then, IsRefused-later}

-- ==== Bytes into which one column of a batch is read. Our own.

-- ---- a part of a list, item by item

pub part_same : (at count : ℕ) (xs ys : List ℕ) → at + count ≤ length xs → at + count ≤ length ys
    → ((place : ℕ) → place < count → slice_index xs (at + place) ≡ slice_index ys (at + place))
    → take count (drop at xs) ≡ take count (drop at ys)
part_same at count xs ys room also same =
    let long : length (take count (drop at xs)) ≡ count =
    length-take-le count (drop at xs) (omega (arith, room, length-drop at xs)) in
    let other : length (take count (drop at ys)) ≡ count =
    length-take-le count (drop at ys) (omega (arith, also, length-drop at ys)) in
    ext_get_or 0 (take count (drop at xs)) (take count (drop at ys)) (long ∙ sym other) (λ i lt.
    let below : i < count = omega (arith, lt, long) in
    get_or-take count (drop at xs) i 0 below ∙ get_or-drop at xs i 0 ∙ same i below ∙ sym (get_or-drop at ys i 0)
    ∙ sym (get_or-take count (drop at ys) i 0 below))

pub item_same : (at count : ℕ) (xs ys : List ℕ) → take count (drop at xs) ≡ take count (drop at ys) → (place : ℕ)
    → place < count → slice_index xs (at + place) ≡ slice_index ys (at + place)
item_same at count xs ys same place below =
    sym (get_or-drop at xs place 0) ∙ sym (get_or-take count (drop at xs) place 0 below)
    ∙ ap (λ (l : List ℕ). slice_index l place) same
    ∙ get_or-take count (drop at ys) place 0 below ∙ get_or-drop at ys place 0

-- before, after or within
abbrev Side : ℕ → ℕ → ℕ → Type 0
Side at count place = (place < at) ⊎ ((at + count ≤ place) ⊎ ((k : ℕ) × ((k < count) × (at + k ≡ place))))

side : (at count place : ℕ) → Side at count place
side at count place = by (nat_lt place at) refl
  where
    within : at ≤ place → (b : Bool) → nat_lt place (at + count) ≡ b → Side at count place
    within from true is = let lt : place < at + count = ltb-true place (at + count) is in
        inr (inr (place - at, (omega (arith, lt, from), omega (arith, from))))
    within from false is = inr (inl (ltb-false place (at + count) is))

    by : (b : Bool) → nat_lt place at ≡ b → Side at count place
    by true is = inl (ltb-true place at is)
    by false is = within (ltb-false place at is) (nat_lt place (at + count)) refl

-- ---- where columns are

pub column_place : (column : FactColumn) → fact_place column + width_of column ≤ 63
column_place OrderKey = omega arith
column_place LineNumber = omega arith
column_place CustKey = omega arith
column_place PartKey = omega arith
column_place SuppKey = omega arith
column_place OrderDate = omega arith
column_place Quantity = omega arith
column_place ExtendedPrice = omega arith
column_place OrdTotalPrice = omega arith
column_place Discount = omega arith
column_place Revenue = omega arith
column_place SupplyCost = omega arith
column_place Tax = omega arith

pub column_within : (column : FactColumn) (rows : ℕ)
    → 12 + fact_place column * rows + width_of column * rows ≤ 12 + 63 * rows
column_within column rows = omega (arith, within_rows (fact_place column) (width_of column) rows (column_place column))

pub column_part : (column : FactColumn) (rows : ℕ) (xs : List ℕ)
    → column_bytes (fact_place column) (width_of column) rows xs
    ≡ take (width_of column * rows) (drop (12 + fact_place column * rows) xs)
column_part column rows xs = ap (take (width_of column * rows)) (drop-drop (fact_place column * rows) 12 xs)

-- ---- a column read

module _ (old new : List ℕ) (rows : ℕ) (column : FactColumn) (room : 12 + 63 * rows ≤ length old)
    (outside : StaysOutside (12 + fact_place column * rows) (width_of column * rows) old new) where
  -- columns that have what a text has, once this one has
  module _ (text : List ℕ) (enough : 12 + 63 * rows ≤ length text)
      (inside : (place : ℕ) → place < width_of column * rows → slice_index new (12 + fact_place column * rows + place)
      ≡ slice_index text (12 + fact_place column * rows + place)) where
    pub shares : ShareColumn rows new text column
    shares =
        let within = column_within column rows in
        column_part column rows new
        ∙ part_same (12 + fact_place column * rows) (width_of column * rows) new text
        (omega (arith, within, room, outside.long)) (omega (arith, within, enough)) inside
        ∙ sym (column_part column rows text)

    pub still_shares : (other : FactColumn) → ShareColumn rows old text other → ShareColumn rows new text other
    still_shares other same =
        let within = column_within other rows in
        let at : ℕ = 12 + fact_place other * rows in
        let count : ℕ = width_of other * rows in
        let before : take count (drop at old) ≡ take count (drop at text) = sym (column_part other rows old) ∙ same
        ∙ column_part other rows text in
        column_part other rows new
        ∙ part_same at count new text (omega (arith, within, room, outside.long)) (omega (arith, within, enough))
        (λ place below. by (at + place) (item_same at count old text before place below)
        (side (12 + fact_place column * rows) (width_of column * rows) (at + place)))
        ∙ sym (column_part other rows text)
      where
        by : (place : ℕ) → slice_index old place ≡ slice_index text place
            → Side (12 + fact_place column * rows) (width_of column * rows) place
            → slice_index new place ≡ slice_index text place
        by place was (inl front) = outside.front place front ∙ was
        by place was (inr (inl back)) = outside.back place back ∙ was
        by place was (inr (inr here)) = ap (slice_index new) (sym here.1.1) ∙ inside here.0 here.1.0
            ∙ ap (slice_index text) here.1.1

-- a column that shares its numbers with one that fits
pub fits_shared : (new text : List ℕ) (rows : ℕ) (column : FactColumn) → ShareColumn rows new text column
    → FitsColumnIn text rows column → FitsColumnIn new rows column
fits_shared new text rows column same all wide =
    let own : column_bytes (fact_place column) 8 rows new ≡ column_bytes (fact_place column) 8 rows text =
    subst (λ (width : ℕ). column_bytes (fact_place column) width rows new
    ≡ column_bytes (fact_place column) width rows text) wide same in
    ap (λ (part : List ℕ). all_below (2 ^ 63) (map (from_le_bytes w64) (first_chunks 8 rows part))) own ∙ all wide

-- ==== Bytes over whose front that of a text was read. Our own.

-- a header goes with the first twelve bytes
header_moved : (some others : List ℕ) (number rows : ℕ) → take 12 some ≡ take 12 others → HasHeader some number rows
    → HasHeader others number rows
header_moved some others number rows same has =
    let head : List ℕ = segment_header number rows in
    let first : take 12 some ≡ head =
    ap (take 12) has.spelled ∙ ap (λ (n : ℕ). take n (head ++ drop 12 some)) (sym (length-header number rows))
    ∙ take-append_seam head (drop 12 some) in
    record {
      spelled = sym (take-append-drop 12 others) ∙ ap (λ (l : List ℕ). l ++ drop 12 others) (sym same ∙ first);
      fits = has.fits;
      few = has.few;
    }

-- what holds of each thing holds of each in a list
each_of : {X : Type 0} (P : X → Type 0) → ((x : X) → P x) → (xs : List X) → AllByRecursion P xs
each_of P each [] = tt
each_of P each (x ∷ xs) = (each x, each_of P each xs)

module _ (new text : List ℕ) (rows : ℕ) (room : 12 + 63 * rows ≤ length new) (enough : 12 + 63 * rows ≤ length text)
    (inside : (place : ℕ) → place < 12 + 63 * rows → slice_index new (0 + place) ≡ slice_index text (0 + place)) where
  here : (place : ℕ) → place < 12 + 63 * rows → slice_index new place ≡ slice_index text place
  here place below = let same : 0 + place ≡ place = omega arith in
      subst (λ (i : ℕ). slice_index new i ≡ slice_index text i) same (inside place below)

  first_same : take 12 new ≡ take 12 text
  first_same =
      part_same 0 12 new text (omega (arith, room)) (omega (arith, enough))
      (λ place below. inside place (omega (arith, below)))

  front_shares : (column : FactColumn) → ShareColumn rows new text column
  front_shares column =
      let within = column_within column rows in
      let at : ℕ = 12 + fact_place column * rows in
      let count : ℕ = width_of column * rows in
      column_part column rows new
      ∙ part_same at count new text (omega (arith, within, room)) (omega (arith, within, enough))
      (λ place below. here (at + place) (omega (arith, within, below)))
      ∙ sym (column_part column rows text)

  front_read : (number : ℕ) (columns : List FactColumn) → HasHeader new number rows
      × All (FitsColumnIn new rows) columns
      → HasColumns text number rows
      × (AllByRecursion (ShareColumn rows new text) columns × AllByRecursion (FitsColumnIn text rows) columns)
  front_read number columns own = (
    record { header = header_moved new text number rows first_same own.0; room = enough },
    (
      each_of (ShareColumn rows new text) front_shares columns,
      recursion_from_All (FitsColumnIn text rows) columns
          (λ i d lt. fits_shared text new rows _ (sym (front_shares _)) (own.1 i d lt)),
    ),
  )

  pub front_fits : (number : ℕ) (columns : List FactColumn) → HasHeader text number rows → HasNumbers text rows
      → HasHeader new number rows × All (FitsColumnIn new rows) columns
  front_fits number columns header numbers = (
    header_moved text new number rows (sym first_same) header,
    λ i d lt. fits_shared new text rows _ (front_shares _) (numbers.amounts _),
  )

-- the same of the text at an id, if there is one
pub front_found : (new : List ℕ) (rows : ℕ) (text : Option (List ℕ)) → 12 + 63 * rows ≤ length new
    → IsSomeAnd text (λ t. 12 + 63 * rows ≤ length t)
    → ((t : List ℕ) → text ≡ Some t → (place : ℕ) → place < 12 + 63 * rows
    → slice_index new (0 + place) ≡ slice_index t (0 + place))
    → (number : ℕ) (columns : List FactColumn) → HasHeader new number rows × All (FitsColumnIn new rows) columns
    → IsSomeAnd text (λ t. HasColumns t number rows × AllByRecursion (ShareColumn rows new t) columns)
    × IsSomeAnd text (λ t. HasColumns t number rows × AllByRecursion (FitsColumnIn t rows) columns)
front_found new rows None room enough inside number columns own = absurd enough
front_found new rows (Some text) room enough inside number columns own =
    let read = front_read new text rows room enough (inside text refl) number columns own in
    ((read.0, read.1.0), (read.0, read.1.1))

-- ==== Columns that are read one after the other. Our own.

-- ---- how a run of reads ends

abbrev pub Ends : {S : Type 0} → Ghosts S → S → S → Fault → Type 0
Ends g from to fault = ((fault ≡ BadLayout) × HasRead g from to) ⊎ IsRefused g fault from to

module _ {S : Type 0} (g : Ghosts S) (join : (a b c : S) → g.reads a b → g.reads b c → g.reads a c)
    (later : (fault : Fault) (a b c : S) → g.reads a b → g.fails fault b c → g.fails fault a c) (old mid new : S)
    (read : HasRead g old mid) where
  ends_after : (fault : Fault) → Ends g mid new fault → Ends g old new fault
  ends_after fault (inl bad) = inl (bad.0, HasRead-then g join old mid new read bad.1)
  ends_after fault (inr refused) = inr (IsRefused-later g later fault old mid new read refused)

  -- a refusal after reads, handed on
  pub ends_later : {T : Type 0} (result : Result T Fault) (fault : Fault) → IsErrAnd result (λ own. own ≡ fault)
      → Ends g mid new fault → MatchResult result (λ _. HasRead g old new) (Ends g old new)
  ends_later (Ok value) fault is ends = absurd is
  ends_later (Err own) fault is ends = subst (λ (f : Fault). Ends g old new f) (sym is) (ends_after fault ends)

pub ends_word : {S : Type 0} (g : Ghosts S) (mid new : S) (fault : Fault) → Ends g mid new fault → g.keeps_word new
    → g.keeps_word mid
ends_word g mid new fault (inl bad) = bad.1.stays.word
ends_word g mid new fault (inr refused) = refused.stays.word

pub err_later : {T U : Type 0} (result : Result T Fault) (fault : Fault) → IsErrAnd result (λ own. own ≡ fault)
    → IsErrOf result BadLayout → IsErrOf {T = U} (Err fault) BadLayout
err_later (Ok value) fault is err = absurd is
err_later (Err own) fault is err = let same : own ≡ BadLayout = cc in ap (λ (f : Fault). Err f) (sym is ∙ same)

-- ---- what holds of one more

pub one_more : {X : Type 0} (P Q : X → Type 0) (xs : List X) (i : ℕ) (d : X) → i < length xs → ((x : X) → P x → Q x)
    → AllByRecursion P (take i xs) → Q (get_or xs i d) → AllByRecursion Q (take (suc i) xs)
one_more P Q [] i d lt so all own = absurd (omega arith)
one_more P Q (x ∷ xs) zero d lt so all own = (own, tt)
one_more P Q (x ∷ xs) (suc i) d lt so all own = (so x all.0, one_more P Q xs i d (omega (arith, lt)) so all.1 own)
