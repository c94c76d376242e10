-- Fact rows by their ship modes, one row more.
use Rattle.std.proofs.Common.{◌≡◌, ◌∙◌, sym, ap, refl, subst, ℕ, suc, ◌+◌, Bool, true, false, cond, not}
use Rattle.std.proofs.Common.{List, [], ◌∷◌, ◌++◌, map, length, get_or, arith, ◌||◌, ◌&&◌, true≢false}
use Rattle.std.proofs.Math.ListN.{replicate, set}
use Rattle.std.specs.List.{list_any, position_or_len}
use Rattle.std.specs.Str.{bytes_eq}
use Rattle.std.proofs.lemmas.List.{append-nil, map-append}
use Rattle.std.proofs.lemmas.List.Elements.{filter-append}
use Rattle.std.proofs.lemmas.List.Folds.{list_all-append, list_any-append}
use Rattle.cube_model.specs.declared.rows.LineOrder.{LineOrder}
use Rattle.dictionary.proofs.CallerLemmas.{bytes_eq-refl, bytes_eq-same, bytes_eq-symm, or_first, or_second}
use Rattle.dictionary.specs.Dictionary.{EachOnce}
use Rattle.mode_queries.specs.Joining.{have_modes, of_mode}

of_last : (mode : List ℕ) (rows : List LineOrder) (row : LineOrder) (b : Bool) → bytes_eq mode row.shipmode ≡ b
    → of_mode mode (rows ++ row ∷ []) ≡ of_mode mode rows ++ cond b (row ∷ []) []
of_last mode rows row b e = filter-append (λ other. bytes_eq mode other.shipmode) rows (row ∷ [])
    ∙ ap (λ t. of_mode mode rows ++ cond t (row ∷ []) []) e

-- of rows that have other ship modes none has this one
pub none_of : (mode : List ℕ) (modes : List (List ℕ)) (others : List LineOrder) → have_modes modes others ≡ true
    → list_any (bytes_eq mode) modes ≡ false → of_mode mode others ≡ []
none_of mode modes [] known none = refl
none_of mode modes (other ∷ others) known none =
    (elim (bytes_eq mode other.shipmode) as (λ b. bytes_eq mode other.shipmode ≡ b
    → cond b (other ∷ of_mode mode others) (of_mode mode others) ≡ []) [
      | true ↦ λ e. absurd (true≢false (sym (first (list_any (bytes_eq other.shipmode) modes)
          (have_modes modes others) known)
          ∙ ap (λ m. list_any (bytes_eq m) modes) (sym (bytes_eq-same mode other.shipmode e)) ∙ none))
      | false ↦ λ e. none_of mode modes others
          (second (list_any (bytes_eq other.shipmode) modes) (have_modes modes others) known) none
    ]) refl
  where
    first : (a b : Bool) → (a && b) ≡ true → a ≡ true
    first true b e = refl
    first false b e = e

    second : (a b : Bool) → (a && b) ≡ true → b ≡ true
    second true b e = e
    second false b e = cc

-- rows that have some ship modes have those and others
pub have_more : (modes more : List (List ℕ)) (others : List LineOrder) → have_modes modes others ≡ true
    → have_modes (modes ++ more) others ≡ true
have_more modes more [] known = refl
have_more modes more (other ∷ others) known =
    both (list_any (bytes_eq other.shipmode) modes) (list_any (bytes_eq other.shipmode) more)
    (list_any (bytes_eq other.shipmode) (modes ++ more)) (have_modes modes others) (have_modes (modes ++ more) others)
    (list_any-append (bytes_eq other.shipmode) modes more) (have_more modes more others) known
  where
    both : (a b c d e : Bool) → c ≡ (a || b) → (d ≡ true → e ≡ true) → (a && d) ≡ true → (c && e) ≡ true
    both true b c d e is rest known = (λ i. is i && rest known i)
    both false b c d e is rest known = absurd (true≢false (sym known))

module _ (rows : List LineOrder) (row : LineOrder) where
  abbrev before : List (List ℕ) → List (List LineOrder)
  before modes = map (λ mode. of_mode mode rows) modes

  abbrev after : List (List ℕ) → List (List LineOrder)
  after modes = map (λ mode. of_mode mode (rows ++ row ∷ [])) modes

  stays : (mode : List ℕ) → bytes_eq row.shipmode mode ≡ false → of_mode mode (rows ++ row ∷ []) ≡ of_mode mode rows
  stays mode apart = of_last mode rows row false (bytes_eq-symm mode row.shipmode ∙ apart)
      ∙ append-nil (of_mode mode rows)

  grows : (mode : List ℕ) → bytes_eq row.shipmode mode ≡ true
      → of_mode mode (rows ++ row ∷ []) ≡ of_mode mode rows ++ row ∷ []
  grows mode same = of_last mode rows row true (bytes_eq-symm mode row.shipmode ∙ same)

  -- the parts of other ship modes stay
  pub all_stay : (modes : List (List ℕ)) → list_any (bytes_eq row.shipmode) modes ≡ false → after modes ≡ before modes
  all_stay [] none = refl
  all_stay (mode ∷ modes) none =
      λ i. stays mode (or_first (bytes_eq row.shipmode mode) (list_any (bytes_eq row.shipmode) modes) none) i
      ∷ all_stay modes (or_second (bytes_eq row.shipmode mode) (list_any (bytes_eq row.shipmode) modes) none) i

  -- that of a ship mode that was met gets the row
  pub one_grows : (modes : List (List ℕ)) → list_any (bytes_eq row.shipmode) modes ≡ true → EachOnce modes
      → after modes ≡ set (before modes) (position_or_len (bytes_eq row.shipmode) modes)
      (get_or (before modes) (position_or_len (bytes_eq row.shipmode) modes) [] ++ row ∷ [])
  one_grows [] some once = absurd (true≢false (sym some))
  one_grows (mode ∷ modes) some once =
      (elim (bytes_eq row.shipmode mode) as (λ b. bytes_eq row.shipmode mode ≡ b
      → after (mode ∷ modes) ≡ set (before (mode ∷ modes))
      (cond (not b) (1 + position_or_len (bytes_eq row.shipmode) modes) 0)
      (get_or (before (mode ∷ modes)) (cond (not b) (1 + position_or_len (bytes_eq row.shipmode) modes) 0) []
      ++ row ∷ [])) [
        | true ↦ λ e. λ i. grows mode e i ∷ all_stay modes
            (subst (λ m. list_any (bytes_eq m) modes ≡ false) (sym (bytes_eq-same row.shipmode mode e)) once.0) i
        | false ↦ λ e.
            let place = position_or_len (bytes_eq row.shipmode) modes in
            let next : suc place ≡ 1 + place = omega arith in
            (λ i. stays mode e i ∷ one_grows modes
            (ap (λ b. b || list_any (bytes_eq row.shipmode) modes) (sym e) ∙ some) once.1 i)
            ∙ (λ i. set (before (mode ∷ modes)) (next i) (get_or (before (mode ∷ modes)) (next i) [] ++ row ∷ []))
      ]) refl

  -- that of a new ship mode has the row alone
  pub one_begins : (modes : List (List ℕ)) → have_modes modes rows ≡ true
      → list_any (bytes_eq row.shipmode) modes ≡ false
      → after (modes ++ row.shipmode ∷ []) ≡ before modes ++ (row ∷ []) ∷ []
  one_begins modes known none =
      map-append (λ mode. of_mode mode (rows ++ row ∷ [])) modes (row.shipmode ∷ [])
      ∙ (λ i. all_stay modes none i
      ++ (grows row.shipmode (bytes_eq-refl row.shipmode)
      ∙ ap (λ own. own ++ row ∷ []) (none_of row.shipmode modes rows known none)) i ∷ [])

  -- ---- the ship modes of the rows
  pub have_last : (modes : List (List ℕ)) → have_modes modes rows ≡ true
      → list_any (bytes_eq row.shipmode) modes ≡ true → have_modes modes (rows ++ row ∷ []) ≡ true
  have_last modes known some =
      list_all-append (λ other. list_any (bytes_eq other.shipmode) modes) rows (row ∷ [])
      ∙ (λ i. known i && (some i && true))

  pub have_new : (modes : List (List ℕ)) → have_modes modes rows ≡ true
      → have_modes (modes ++ row.shipmode ∷ []) (rows ++ row ∷ []) ≡ true
  have_new modes known =
      have_last (modes ++ row.shipmode ∷ []) (have_more modes (row.shipmode ∷ []) rows known)
      (list_any-append (bytes_eq row.shipmode) modes (row.shipmode ∷ [])
      ∙ ap (λ b. list_any (bytes_eq row.shipmode) modes || (b || false)) (bytes_eq-refl row.shipmode)
      ∙ or_true (list_any (bytes_eq row.shipmode) modes))
    where
      or_true : (b : Bool) → (b || true) ≡ true
      or_true true = refl
      or_true false = refl

-- of no row each part has none
pub no_parts : (modes : List (List ℕ)) → map (λ mode. of_mode mode []) modes ≡ replicate (length modes) []
no_parts [] = refl
no_parts (mode ∷ modes) = ap (λ rest. [] ∷ rest) (no_parts modes)
