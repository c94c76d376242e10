-- The places of kinds: where codes that are in the order of their first use are first used.
use Rattle.std.proofs.Common.{◌≡◌, ◌∙◌, sym, ap, refl, subst, ℕ, zero, suc, ◌+◌, ◌==◌, ◌<◌, ◌≤◌, nat_lt, Some, true}
use Rattle.std.proofs.Common.{false, cond, inl, inr, List, [], ◌∷◌, ◌++◌, drop, length, get_or, arith}
use Rattle.std.specs.List.{range_with_len}
use Rattle.std.proofs.lemmas.Bool.{cases_lt, ltb-true}
use Rattle.std.proofs.lemmas.List.{drop_more, get_or-map, get_or_append_left, get_or_push, length-map, length_push}
use Rattle.std.proofs.lemmas.List.FromFn.{get_or-range_with_len, length-range_with_len}
use Rattle.std.proofs.lemmas.Bool.Decides.{nat_tests}
use Rattle.cube_model.specs.declared.attr.Attr.{Attr}
use Rattle.cube_model.specs.declared.attr.Attr.TheVariants.{CustomerCity, SupplierCity, PartBrand1}
use Rattle.cube_model.specs.declared.attr.Axis.{Axis}
use Rattle.cube_model.specs.declared.attr.Axis.TheVariants.{Customer, Supplier, Part, Date}
use Rattle.cube_model.specs.declared.rows.DimRows.{DimRows}
use Rattle.cube_model.specs.Attributes.{axis_of}
use Rattle.cube_model.specs.Places.{row_count_of, texts_of}
use Rattle.dictionary.specs.Columns.{AreCodes, codes_of, place_of}
use Rattle.dictionary.specs.Dictionary.{firsts}
use Rattle.dictionary.proofs.CodeOrder.{in_order, in_order_is}
use Rattle.dictionary.proofs.ColumnLaws.{AreCodes-below, Below, column_has_codes}
use Rattle.dimensions.specs.Coded.{texts_at_places}
use Rattle.dimensions.specs.Columns.{code_at}
use Rattle.dimensions.specs.Shapes.{attr_column, lowers_of}
use Rattle.dimensions.specs.Shown.{rows_on}
use Rattle.dimensions.specs.TextRows.{column_of}
use Rattle.dimensions.proofs.AttributeLaws.{has_column, texts_count}
use Rattle.group_numbers.specs.Kinds.{HasEachCode, HasEachKind, kind_at}

-- ---- one code after another

-- a code in order is one of those that were used, or the next
step : (count next code : ℕ) (codes : List ℕ) → in_order count next (code ∷ codes) ≡ true
    → ((code == next) ≡ false → (code < next) × (in_order count next codes ≡ true))
    × (code ≡ next → in_order count (next + 1) codes ≡ true)
step count next code codes order = (
  λ apart. elim (nat_lt code next) as
      (λ b. nat_lt code next ≡ b
      → cond b (in_order count next codes) (cond (code == next) (in_order count (next + 1) codes) false) ≡ true
      → (code < next) × (in_order count next codes ≡ true)) [
        | true ↦ λ e o. (ltb-true code next e, o)
        | false ↦ λ e o. absurd (cc (o, ap (λ b. cond b (in_order count (next + 1) codes) false) apart))
      ] refl order,
  λ same.
      let low : nat_lt code next ≡ false = grind (arith, nat_tests, same) in
      let here : (code == next) ≡ true = grind (arith, nat_tests, same) in
      sym (ap (λ b. cond b (in_order count next codes) (cond (code == next) (in_order count (next + 1) codes) false))
      low
      ∙ ap (λ b. cond b (in_order count (next + 1) codes) false) here) ∙ order,
)

-- the codes at the first places, so many, in their order
pub record AreFirst (count : ℕ) (codes : List ℕ) (place : ℕ) (places : List ℕ) : Type 0 where
  pub order : in_order count (length places) (drop place codes) ≡ true
  pub within : (code : ℕ) → code < length places → get_or places code 0 < place
  pub own : (code : ℕ) → code < length places → get_or codes (get_or places code 0) 0 ≡ code
  pub all : (other : ℕ) → other < place → get_or codes other 0 < length places

module _ (count : ℕ) (codes : List ℕ) where
  pub none_first : AreCodes count codes → AreFirst count codes 0 []
  none_first are = record {
    order = elim (in_order count 0 codes) as (λ b. in_order count 0 codes ≡ b → b ≡ true) [
      | true ↦ λ e. refl
      | false ↦ λ e. (in_order_is count codes false e).1 are
    ] refl;
    within = λ code low. absurd (omega (arith, low));
    own = λ code low. absurd (omega (arith, low));
    all = λ other low. absurd (omega (arith, low));
  }

  module _ (place : ℕ) (places : List ℕ) (first : AreFirst count codes place places) (there : place < length codes)
    where
      order_here : in_order count (length places) (get_or codes place 0 ∷ drop (place + 1) codes) ≡ true
      order_here = ap (in_order count (length places)) (sym (drop_more codes place 0 there)) ∙ first.order

      -- a code that was used
      pub seen_more : (get_or codes place 0 == length places) ≡ false → AreFirst count codes (place + 1) places
      seen_more apart =
          let here = (step count (length places) (get_or codes place 0) (drop (place + 1) codes) order_here).0 apart in
          record {
            order = here.1;
            within = λ code low. omega (arith, first.within code low);
            own = first.own;
            all = λ other low. elim (cases_lt other place) [
              | inl early ↦ first.all other early
              | inr late ↦
                  let same : other ≡ place = omega (arith, low, late) in
                  subst (λ (n : ℕ). get_or codes n 0 < length places) (sym same) here.0
            ];
          }

      -- the next code
      pub first_more : get_or codes place 0 ≡ length places → AreFirst count codes (place + 1) (places ++ place ∷ [])
      first_more same =
          let longer = length_push places place in
          let rest = (step count (length places) (get_or codes place 0) (drop (place + 1) codes) order_here).1 same in
          record {
            order = subst (λ (n : ℕ). in_order count n (drop (place + 1) codes) ≡ true) (sym longer) rest;
            within = λ code low. elim (cases_lt code (length places)) [
              | inl early ↦
                  (let is = get_or_append_left places (place ∷ []) 0 code early in
                  omega (arith, first.within code early, is))
              | inr late ↦
                  (let is = get_or_push places place 0 code (omega (arith, low, late, longer)) in omega (arith, is))
            ];
            own = λ code low. elim (cases_lt code (length places)) [
              | inl early ↦ ap (λ (n : ℕ). get_or codes n 0) (get_or_append_left places (place ∷ []) 0 code early)
                  ∙ first.own code early
              | inr late ↦
                  (let last : length places ≡ code = omega (arith, low, late, longer) in
                  ap (λ (n : ℕ). get_or codes n 0) (get_or_push places place 0 code last) ∙ same ∙ last)
            ];
            all = λ other low. elim (cases_lt other place) [
              | inl early ↦ (let small = first.all other early in omega (arith, small, longer))
              | inr late ↦
                  (let last : other ≡ place = omega (arith, low, late) in
                  let is : get_or codes other 0 ≡ length places = ap (λ (n : ℕ). get_or codes n 0) last ∙ same in
                  omega (arith, is, longer))
            ];
          }

  -- all were used
  pub all_first : AreCodes count codes → (place : ℕ) (places : List ℕ) → AreFirst count codes place places
      → place ≤ length codes → length places ≡ count
      → HasEachCode codes places
  all_first are place places first inside whole = record {
    within = λ code low. omega (arith, first.within code low, inside);
    own = first.own;
    all = λ other low. omega (arith, below codes (AreCodes-below count codes are) other low, whole);
  }
    where
      below : (list : List ℕ) → Below count list → (other : ℕ) → other < length list → get_or list other 0 < count
      below [] all other low = absurd (omega (arith, low))
      below (code ∷ list) all zero low = all.0
      below (code ∷ list) all (suc other) low = below list all.1 other (omega (arith, low))

  -- all were looked at
  pub last_first : (place : ℕ) (places : List ℕ) → AreFirst count codes place places → place ≡ length codes
      → HasEachCode codes places
  last_first place places first whole = record {
    within = λ code low. omega (arith, first.within code low, whole);
    own = first.own;
    all = λ other low. first.all other (omega (arith, low, whole));
  }

-- ---- the kinds of a dimension
codes_at : (texts : List (List ℕ)) (codes : List ℕ) → codes ≡ codes_of texts
    → (length codes ≡ length texts) × ((place : ℕ) → place < length texts → get_or codes place 0 ≡ code_at texts place)
codes_at texts codes is = (
  ap length is ∙ length-map texts (place_of (firsts texts)),
  λ place low. ap (λ (l : List ℕ). get_or l place 0) is ∙ get_or-map (place_of (firsts texts)) texts place [] 0 low,
)

pub some_column : (axis : Axis) → 0 < length (lowers_of axis)
some_column Customer = omega arith
some_column Supplier = omega arith
some_column Part = omega arith
some_column Date = omega arith

module _ (dimensions : DimRows) where
  codes_on : (attr : Attr) (codes : List ℕ) → attr_column attr ≡ Some 0
      → codes ≡ codes_of (column_of 0 (rows_on dimensions (axis_of attr)))
      → (length codes ≡ row_count_of dimensions (axis_of attr))
      × ((place : ℕ) → place < row_count_of dimensions (axis_of attr)
      → get_or codes place 0 ≡ code_at (texts_of dimensions attr) place)
  codes_on attr codes e is =
      let both = codes_at (texts_of dimensions attr) codes
      (is ∙ ap codes_of (sym (has_column dimensions attr 0 e).0)) in
      let many = texts_count dimensions attr in
      (both.0 ∙ many, λ place low. both.1 place (omega (arith, low, many)))

  -- the codes of the lowest texts are the kinds
  pub codes_are_kinds : (axis : Axis) (codes : List ℕ) → (axis ≡ Date → ⊥)
      → codes ≡ codes_of (texts_at_places axis 0 (rows_on dimensions axis))
      → (length codes ≡ row_count_of dimensions axis)
      × ((place : ℕ) → place < row_count_of dimensions axis → get_or codes place 0 ≡ kind_at dimensions axis place)
  codes_are_kinds Customer codes apart is = codes_on CustomerCity codes refl is
  codes_are_kinds Supplier codes apart is = codes_on SupplierCity codes refl is
  codes_are_kinds Part codes apart is = codes_on PartBrand1 codes refl is
  codes_are_kinds Date codes apart is = absurd (apart refl)

  module _ (axis : Axis) (codes places : List ℕ) (apart : axis ≡ Date → ⊥)
      (is : codes ≡ codes_of (texts_at_places axis 0 (rows_on dimensions axis))) where
    pub kinds_of_codes : HasEachCode codes places → HasEachKind dimensions axis places
    kinds_of_codes hold =
        let kinds = codes_are_kinds axis codes apart is in
        record {
          within = λ kind low. omega (arith, hold.within kind low, kinds.0);
          own = λ kind low. sym (kinds.1 (get_or places kind 0) (omega (arith, hold.within kind low, kinds.0)))
              ∙ hold.own kind low;
          all = λ place within. omega (arith, hold.all place (omega (arith, within, kinds.0)), kinds.1 place within);
        }

  -- each day is a kind of its own
  pub days_are_kinds : (axis : Axis) (places : List ℕ) → axis ≡ Date
      → places ≡ range_with_len 0 (row_count_of dimensions axis) → HasEachKind dimensions axis places
  days_are_kinds axis places day are =
      let count = row_count_of dimensions axis in
      let many : length places ≡ count = ap length are ∙ length-range_with_len 0 count in
      let kind_is : (place : ℕ) → kind_at dimensions axis place ≡ place =
      λ place. ap (λ a. kind_at dimensions a place) day in
      let own : (kind : ℕ) → kind < length places → get_or places kind 0 ≡ kind =
      λ kind low. (let at : 0 + kind ≡ kind = omega arith in ap (λ (l : List ℕ). get_or l kind 0) are
      ∙ get_or-range_with_len 0 count kind 0 (omega (arith, low, many)) ∙ at) in
      record {
        within = λ kind low. omega (arith, own kind low, low, many);
        own = λ kind low. kind_is (get_or places kind 0) ∙ own kind low;
        all = λ place within. omega (arith, kind_is place, within, many);
      }

-- codes are in the order of their first use
pub in_first_order : (texts : List (List ℕ)) (codes : List ℕ) (count : ℕ) → codes ≡ codes_of texts
    → count ≡ length (firsts texts) → AreCodes count codes
in_first_order texts codes count is many =
    subst (λ n. AreCodes n codes) (sym many)
    (subst (AreCodes (length (firsts texts))) (sym is) (column_has_codes texts).0)
