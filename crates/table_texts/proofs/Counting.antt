-- The tallies of members, row by row.
use Rattle.std.proofs.Common.{◌≡◌, ◌∙◌, sym, ap, subst, refl, ℕ, zero, suc, ◌+◌, ◌<◌, ◌≤◌, ◌≢◌, Bool, true, false, cond}
use Rattle.std.proofs.Common.{List, [], ◌∷◌, length, take, set, get_or, get_or-set_same, get_or-set_other, length-set}
use Rattle.std.proofs.Common.{arith, ◌⊎◌, inl, inr}
use Rattle.std.specs.Prelude.{count_by, ◌==◌}
use Rattle.std.specs.List.{position_or_len}
use Rattle.std.specs.Str.{bytes_eq}
use Rattle.std.proofs.lemmas.Bool.Decides.{nat_tests}
use Rattle.std.proofs.lemmas.List.{take_all}
use Rattle.std.proofs.lemmas.List.Sums.{count_by_more_no, count_by_more_yes, position_or_len_is, sum_by-cons}
use Rattle.cube_model.specs.declared.attr.Attr.{Attr}
use Rattle.cube_model.specs.declared.rows.DimRows.{DimRows}
use Rattle.cube_model.specs.Attributes.{axis_of}
use Rattle.cube_model.specs.Places.{attr_members, row_count_of, texts_of, text_at}
use Rattle.dimensions.proofs.CallerLemmas.{bytes_eq-refl}
use Rattle.table_texts.specs.declared.tallies.Tally.{Tally}
use Rattle.table_texts.specs.Members.{first_with, rows_with}
use Rattle.table_texts.specs.Tallies.{AreTallies, IsTally, empty_tally}
use Rattle.table_texts.proofs.Ranks.{apart, is_counted, is_placed, length-texts}

-- of texts of which none is counted none is the one
no-earlier : (test : List ℕ → Bool) (texts : List (List ℕ)) (place k : ℕ) → place ≤ length texts
    → count_by test (take place texts) ≡ 0 → k < place → test (get_or texts k []) ≡ false
no-earlier test [] place k within none below = absurd (omega arith)
no-earlier test (text ∷ texts) zero k within none below = absurd (omega arith)
no-earlier test (text ∷ texts) (suc place) zero within none below =
    here (test text) (count_by test (take place texts))
    (sym (sum_by-cons (λ one. cond (test one) 1 0) text (take place texts)) ∙ none)
  where
    here : (b : Bool) (n : ℕ) → cond b 1 0 + n ≡ 0 → b ≡ false
    here true n is = absurd (omega arith)
    here false n is = refl
no-earlier test (text ∷ texts) (suc place) (suc k) within none below =
    no-earlier test texts place k (omega arith)
    (after (test text) (count_by test (take place texts))
    (sym (sum_by-cons (λ one. cond (test one) 1 0) text (take place texts)) ∙ none)) (omega arith)
  where
    after : (b : Bool) (n : ℕ) → cond b 1 0 + n ≡ 0 → n ≡ 0
    after true n is = absurd (omega arith)
    after false n is = omega arith

module _ (texts : List (List ℕ)) (place : ℕ) (within : place < length texts) (text : List ℕ) (tally next : Tally)
    (is : IsTally texts place text tally) where
  first-next : bytes_eq text (get_or texts place []) ≡ true → next.first ≡ cond (tally.rows == 0) place tally.first
      → (tally.rows ≡ 0) ⊎ (0 < tally.rows) → next.first ≡ position_or_len (bytes_eq text) texts
  first-next here first (inl none) =
      let no : count_by (bytes_eq text) (take place texts) ≡ 0 = sym is.rows ∙ none in
      first ∙ ap (λ rows. cond (rows == 0) place tally.first) none
      ∙ sym (position_or_len_is (bytes_eq text) texts place [] (omega arith)
      (λ k below. no-earlier (bytes_eq text) texts place k (omega arith) no below) (λ _. here))
  first-next here first (inr some) = first ∙ ap (λ b. cond b place tally.first) (not-zero tally.rows some)
      ∙ is.first some
    where
      not-zero : (n : ℕ) → 0 < n → (n == 0) ≡ false
      not-zero n h = grind (arith, nat_tests)

  -- the row at the place has the text
  tally-yes : bytes_eq text (get_or texts place []) ≡ true → next.first ≡ cond (tally.rows == 0) place tally.first
      → next.rows ≡ tally.rows + 1 → IsTally texts (place + 1) text next
  tally-yes here first rows = record {
    rows = rows ∙ ap (λ n. n + 1) is.rows ∙ sym (count_by_more_yes (bytes_eq text) texts place [] within here);
    first = λ some. first-next here first (zero-or tally.rows);
  }
    where
      zero-or : (n : ℕ) → (n ≡ 0) ⊎ (0 < n)
      zero-or n = grind arith

  -- the row has another text
  tally-no : bytes_eq text (get_or texts place []) ≡ false → IsTally texts (place + 1) text tally
  tally-no other = record {
    rows = is.rows ∙ sym (count_by_more_no (bytes_eq text) texts place [] within other);
    first = is.first;
  }

module _ (rows : DimRows) (attr : Attr) where
  abbrev members : List (List ℕ)
  members = attr_members rows attr

  module _ (place rank : ℕ) (tallies : List Tally) (next : Tally) (within : place < length (texts_of rows attr))
      (lt : rank < length members)
      (text : get_or members rank [] ≡ text_at rows attr place) (are : AreTallies rows attr place tallies)
      (first : next.first ≡ cond ((get_or tallies rank empty_tally).rows == 0) place
      (get_or tallies rank empty_tally).first)
      (counted : next.rows ≡ (get_or tallies rank empty_tally).rows + 1) where
    abbrev IsNext : ℕ → Type 0
    IsNext k = IsTally (texts_of rows attr) (place + 1) (get_or members k [])
        (get_or (set tallies rank next) k empty_tally)

    same-rank : (k : ℕ) → k < length members → k ≡ rank → IsNext k
    same-rank k below same =
        let bound : rank < length tallies = omega (arith, are.count) in
        let here : bytes_eq (get_or members rank []) (get_or (texts_of rows attr) place []) ≡ true =
        rw text (bytes_eq-refl (text_at rows attr place)) in
        subst IsNext (sym same)
        (rw get_or-set_same
        (tally-yes (texts_of rows attr) place within (get_or members rank []) (get_or tallies rank empty_tally) next
        (are.each rank lt) here first counted))

    other-rank : (k : ℕ) → k < length members → k ≢ rank → IsNext k
    other-rank k below differ =
        let other : bytes_eq (get_or members k []) (get_or (texts_of rows attr) place []) ≡ false =
        rw (← text) (apart rows attr k rank differ below lt) in
        rw get_or-set_other
        (tally-no (texts_of rows attr) place within (get_or members k []) (get_or tallies k empty_tally) next
        (are.each k below) other)

    -- one row more is counted
    pub tallies-next : AreTallies rows attr (place + 1) (set tallies rank next)
    tallies-next = record {
      count = length-set tallies rank next ∙ are.count;
      each = λ k below. by_rank k below (same-or k rank);
    }
      where
        same-or : (k rank : ℕ) → (k ≡ rank) ⊎ (k ≢ rank)
        same-or k rank = grind arith

        by_rank : (k : ℕ) → k < length members → (k ≡ rank) ⊎ (k ≢ rank) → IsNext k
        by_rank k below (inl same) = same-rank k below same
        by_rank k below (inr differ) = other-rank k below differ

  -- what the tally of a rank says at the end
  module _ (rank : ℕ) (lt : rank < length members) (tally : Tally)
      (is : IsTally (texts_of rows attr) (row_count_of rows (axis_of attr)) (get_or members rank []) tally) where
    abbrev member : List ℕ
    member = get_or members rank []

    pub all-rows : tally.rows ≡ rows_with rows attr member
    all-rows = is.rows
        ∙ ap (count_by (bytes_eq member))
        (take_all (row_count_of rows (axis_of attr)) (texts_of rows attr) (omega (arith, length-texts rows attr)))

    pub first-row : tally.first ≡ first_with rows attr member
    first-row = is.first (omega (arith, all-rows, is_counted rows attr rank lt))

    pub first-within : tally.first < row_count_of rows (axis_of attr)
    first-within = omega (arith, first-row, is_placed rows attr rank lt, length-texts rows attr)
