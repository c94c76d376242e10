-- One text more in a column by codes.
use Rattle.std.proofs.Common.{◌≡◌, ◌<◌, ◌≤◌, ◌∙◌, ◌⊎◌, inl, inr, zero, suc, sym, ap, refl, arith, ℕ, true, false, ◌==◌}
use Rattle.std.proofs.Common.{List, [], ◌∷◌, ◌++◌, length, get_or, slice_get, Option, Some, None, if◌then◌else◌}
use Rattle.std.proofs.Common.{MatchOption}
use Rattle.std.specs.Str.{bytes_eq}
use Rattle.std.specs.List.{list_any, position_or_len}
use Rattle.std.proofs.lemmas.List.{length_push, get_or_append_left, get_or_push}
use Rattle.std.proofs.lemmas.Bool.{cases_lt}
use Rattle.dictionary.specs.Dictionary.{Texts, firsts, with_text}
use Rattle.dictionary.proofs.CallerLemmas.{bytes_eq-refl, list_any_here, list_any-firsts, firsts-again, firsts-new}
use Rattle.dictionary.proofs.CallerLemmas.{place-kept, place-own, place_within, place_le, place_after, place_seen}
use Rattle.dictionary.proofs.CallerLemmas.{place_unseen, text_at_place}
use Rattle.hierarchy.specs.Hierarchy.{PutsUpper}
use Rattle.dimensions.specs.declared.column.Column.{Column}
use Rattle.dimensions.specs.Columns.{code_at, code_place, place_count, IsColumn, HasCode, learned, Enters}

-- ---- one more link

-- a place has a code now, and the others have those that they had
pub record Linked (old : List ℕ) (place code : ℕ) (new : List ℕ) : Type 0 where
  pub code_is : get_or new place 0 ≡ code
  pub keeps : (k : ℕ) → k < length old → get_or new k 0 ≡ get_or old k 0
  pub cases : ((place < length old) × (new ≡ old)) ⊎ ((place ≡ length old) × (new ≡ old ++ code ∷ []))

slice_get-Some : (xs : List ℕ) (k x : ℕ) → slice_get xs k ≡ Some x → (k < length xs) × (get_or xs k 0 ≡ x)
slice_get-Some [] k x e = absurd cc
slice_get-Some (y ∷ ys) zero x e = (omega arith, cc)
slice_get-Some (y ∷ ys) (suc k) x e = let rest = slice_get-Some ys k x e in (omega (arith, rest.0), rest.1)

slice_get-None : (xs : List ℕ) (k : ℕ) → slice_get xs k ≡ None → length xs ≤ k
slice_get-None [] k e = omega arith
slice_get-None (x ∷ xs) zero e = absurd cc
slice_get-None (x ∷ xs) (suc k) e = let rest = slice_get-None xs k e in omega (arith, rest)

same : (a b : ℕ) → true ≡ (a == b) → a ≡ b
same a b e = grind arith

differ : (a b : ℕ) → false ≡ (a == b) → a ≡ b → ⊥
differ a b e is = absurd (grind arith)

Linked-from : (old : List ℕ) (place code : ℕ) (new : List ℕ) → PutsUpper old place code true new
    → Linked old place code new
Linked-from old place code new puts =
    elim (slice_get old place) as (λ o. slice_get old place ≡ o → MatchOption o
    ((true ≡ (place == length old)) × (new ≡ (if place == length old then old ++ code ∷ [] else old)))
    (λ other. (true ≡ (other == code)) × (new ≡ old)) → Linked old place code new) [
      | None ↦ λ e p.
          let last : place ≡ length old = same place (length old) p.0 in
          let is : new ≡ old ++ code ∷ [] = p.1 ∙ ap (λ b. if b then old ++ code ∷ [] else old) (sym p.0) in record {
            code_is = ap (λ l. get_or l place 0) is ∙ get_or_push old code 0 place (sym last);
            keeps = λ k lt. ap (λ l. get_or l k 0) is ∙ get_or_append_left old (code ∷ []) 0 k lt;
            cases = inr (last, is);
          }
      | Some other ↦ λ e p.
          let at = slice_get-Some old place other e in
          let is : other ≡ code = same other code p.0 in record {
            code_is = ap (λ l. get_or l place 0) p.1 ∙ at.1 ∙ is;
            keeps = λ k lt. ap (λ l. get_or l k 0) p.1;
            cases = inl (at.0, p.1);
          }
    ] refl puts

-- ---- codes of texts

module _ (texts : List (List ℕ)) where
  among : (row : ℕ) → row < length texts → list_any (bytes_eq (get_or texts row [])) texts ≡ true
  among row lt = list_any_here (bytes_eq (get_or texts row [])) texts row [] lt (bytes_eq-refl (get_or texts row []))

  pub code_at-within : (row : ℕ) → row < length texts → code_at texts row < length (firsts texts)
  code_at-within row lt =
      place_within (bytes_eq (get_or texts row [])) (firsts texts) (list_any-firsts (get_or texts row []) texts
      ∙ among row lt)

  -- the text of a code
  pub code_at-text : (row : ℕ) → row < length texts → get_or (firsts texts) (code_at texts row) [] ≡ get_or texts row []
  code_at-text row lt = text_at_place (firsts texts) (get_or texts row []) (code_at-within row lt)

  -- one text more keeps the codes of the others
  pub code_at-kept : (text : List ℕ) (row : ℕ) → row < length texts
      → code_at (texts ++ text ∷ []) row ≡ code_at texts row
  code_at-kept text row lt =
      ap (λ t. position_or_len (bytes_eq t) (firsts (texts ++ text ∷ [])))
      (get_or_append_left texts (text ∷ []) [] row lt)
      ∙ place-kept texts text (get_or texts row []) (among row lt)

  pub code_at-last : (text : List ℕ)
      → code_at (texts ++ text ∷ []) (length texts) ≡ position_or_len (bytes_eq text) (firsts texts)
  code_at-last text =
      ap (λ t. position_or_len (bytes_eq t) (firsts (texts ++ text ∷ [])))
      (get_or_push texts text [] (length texts) refl) ∙ place-own texts text

  learned-firsts : (old : Texts) (text : List ℕ) → old.texts ≡ firsts texts
      → (learned old text).texts ≡ firsts (texts ++ text ∷ [])
  learned-firsts old text is =
      elim (list_any (bytes_eq text) old.texts) as (λ b. list_any (bytes_eq text) old.texts ≡ b
      → (if b then old else with_text old text).texts ≡ firsts (texts ++ text ∷ [])) [
        | true ↦ λ e. is
            ∙ sym (firsts-again texts text (sym (list_any-firsts text texts) ∙ ap (list_any (bytes_eq text)) (sym is)
            ∙ e))
        | false ↦ λ e. ap (λ l. l ++ text ∷ []) is
            ∙ sym (firsts-new texts text (sym (list_any-firsts text texts) ∙ ap (list_any (bytes_eq text)) (sym is)
            ∙ e))
      ] refl

  -- there is room where the code is one of the first
  pub room_for : (text : List ℕ) → position_or_len (bytes_eq text) (firsts texts) < 65535
      → length (firsts texts) ≤ 65535 → length (firsts (texts ++ text ∷ [])) ≤ 65535
  room_for text lt room =
      elim (list_any (bytes_eq text) texts) as (λ b. list_any (bytes_eq text) texts ≡ b
      → length (firsts (texts ++ text ∷ [])) ≤ 65535) [
        | true ↦ λ e. omega (arith, room, ap length (firsts-again texts text e))
        | false ↦ λ e.
            let last = place_after (bytes_eq text) (firsts texts) (list_any-firsts text texts ∙ e) in
            omega (arith, lt, last, ap length (firsts-new texts text e), length_push (firsts texts) text)
      ] refl

learned-limit : (old : Texts) (text : List ℕ) → (learned old text).limit ≡ old.limit
learned-limit old text =
    elim (list_any (bytes_eq text) old.texts) as (λ b. (if b then old else with_text old text).limit ≡ old.limit) [
      | true ↦ refl
      | false ↦ refl
    ]

-- ---- a column and one text more

module _ (texts : List (List ℕ)) (old new : Column) (text : List ℕ) (code place : ℕ) (has : HasCode old.texts text code)
  where
    code_is : (lower : Option (List (List ℕ))) → IsColumn texts lower old
        → code ≡ position_or_len (bytes_eq text) (firsts texts)
    code_is lower is = has.0 ∙ ap (position_or_len (bytes_eq text)) is.texts_are

    pub has_room : (lower : Option (List (List ℕ))) → IsColumn texts lower old
        → length (firsts (texts ++ text ∷ [])) ≤ 65535
    has_room lower is = room_for texts text (omega (arith, has.1, code_is lower is)) is.room

    grown : (lower lower' : Option (List (List ℕ))) → IsColumn texts lower old → Enters old place text code true new
        → length new.codes ≡ place_count lower' (length (texts ++ text ∷ []))
        → ((row : ℕ) → row < length (texts ++ text ∷ [])
        → get_or new.codes (code_place lower' row) 0 ≡ code_at (texts ++ text ∷ []) row)
        → IsColumn (texts ++ text ∷ []) lower' new
    grown lower lower' is enters count reads = record {
      limit = ap (λ t. t.limit) enters.texts ∙ learned-limit old.texts text ∙ is.limit;
      texts_are = ap (λ t. t.texts) enters.texts ∙ learned-firsts texts old.texts text is.texts_are;
      room = has_room lower is;
      count = count;
      reads = reads;
    }

    -- above the rows
    module _ (is : IsColumn texts None old) (at : place ≡ length texts) where
      pub grows_above_rows : Enters old place text code true new → IsColumn (texts ++ text ∷ []) None new
      grows_above_rows enters =
          let linked = Linked-from old.codes place code new.codes enters.codes in
          let count : length new.codes ≡ length (texts ++ text ∷ []) = elim linked.cases [
            | inl before ↦ absurd (omega (arith, before.0, at, is.count))
            | inr last ↦ omega (arith, ap length last.1, length_push old.codes code, length_push texts text, is.count)
          ] in
          grown None None is enters count (λ row lt. elim (cases_lt row (length texts)) [
            | inl below ↦ linked.keeps row (omega (arith, below, is.count)) ∙ is.reads row below
                ∙ sym (code_at-kept texts text row below)
            | inr above ↦
                let last : row ≡ length texts = omega (arith, lt, above, length_push texts text) in
                ap (λ n. get_or new.codes n 0) (last ∙ sym at) ∙ linked.code_is ∙ code_is None is
                ∙ sym (code_at-last texts text) ∙ ap (λ n. code_at (texts ++ text ∷ []) n) (sym last)
          ])

      -- a new row has no other code
      pub fits_above_rows : Enters old place text code false new → ⊥
      fits_above_rows enters =
          elim (slice_get old.codes place) as (λ o. slice_get old.codes place ≡ o → MatchOption o
          ((false ≡ (place == length old.codes))
          × (new.codes ≡ (if place == length old.codes then old.codes ++ code ∷ [] else old.codes)))
          (λ other. (false ≡ (other == code)) × (new.codes ≡ old.codes)) → ⊥) [
            | None ↦ λ e p. differ place (length old.codes) p.0 (at ∙ sym is.count)
            | Some other ↦ λ e p. let lt = (slice_get-Some old.codes place other e).0 in
                absurd (omega (arith, lt, at, is.count))
          ] refl enters.codes

    -- above a lower column
    module _ (lower : List (List ℕ)) (under : List ℕ) (is : IsColumn texts (Some lower) old)
        (long : length lower ≡ length texts) (at : place ≡ position_or_len (bytes_eq under) (firsts lower)) where
      own : Option (List (List ℕ))
      own = Some lower

      place_is : (row : ℕ) → get_or lower row [] ≡ under → code_at lower row ≡ place
      place_is row here = ap (λ t. position_or_len (bytes_eq t) (firsts lower)) here ∙ sym at

      pub grows_above : Enters old place text code true new
          → IsColumn (texts ++ text ∷ []) (Some (lower ++ under ∷ [])) new
      grows_above enters =
          let linked = Linked-from old.codes place code new.codes enters.codes in
          let count : length new.codes ≡ length (firsts (lower ++ under ∷ [])) = elim linked.cases [
            | inl before ↦
                let seen : list_any (bytes_eq under) lower ≡ true = sym (list_any-firsts under lower)
                ∙ place_seen (bytes_eq under) (firsts lower) (omega (arith, before.0, at, is.count)) in
                ap length before.1 ∙ is.count ∙ ap length (sym (firsts-again lower under seen))
            | inr last ↦
                let fresh : list_any (bytes_eq under) lower ≡ false = sym (list_any-firsts under lower)
                ∙ place_unseen (bytes_eq under) (firsts lower) (omega (arith, last.0, at, is.count)) in
                omega (
                  arith,
                  ap length last.1,
                  length_push old.codes code,
                  length_push (firsts lower) under,
                  ap length (firsts-new lower under fresh),
                  is.count,
                )
          ] in
          grown (Some lower) (Some (lower ++ under ∷ [])) is enters count
          (λ row lt. elim (cases_lt row (length texts)) [
            | inl below ↦
                let within = code_at-within lower row (omega (arith, below, long)) in
                ap (λ n. get_or new.codes n 0) (code_at-kept lower under row (omega (arith, below, long)))
                ∙ linked.keeps (code_at lower row) (omega (arith, within, is.count)) ∙ is.reads row below
                ∙ sym (code_at-kept texts text row below)
            | inr above ↦
                let last : row ≡ length texts = omega (arith, lt, above, length_push texts text) in
                ap (λ n. get_or new.codes n 0) (ap (λ n. code_at (lower ++ under ∷ []) n) (last ∙ sym long)
                ∙ code_at-last lower under ∙ sym at)
                ∙ linked.code_is ∙ code_is (Some lower) is ∙ sym (code_at-last texts text)
                ∙ ap (λ n. code_at (texts ++ text ∷ []) n) (sym last)
          ])

      -- a row with the lower text has the text
      pub agrees_above : Enters old place text code true new → (row : ℕ) → row < length texts
          → get_or lower row [] ≡ under → get_or texts row [] ≡ text
      agrees_above enters row lt here =
          let linked = Linked-from old.codes place code new.codes enters.codes in
          let at_place : code_at lower row ≡ place = place_is row here in
          let within = code_at-within lower row (omega (arith, lt, long)) in
          let place_lt : place < length old.codes = omega (arith, within, at_place, is.count) in
          let kept : new.codes ≡ old.codes = elim linked.cases [
            | inl before ↦ before.1
            | inr last ↦ absurd (omega (arith, last.0, place_lt))
          ] in
          let is_code : code ≡ code_at texts row = sym linked.code_is ∙ ap (λ l. get_or l place 0) kept
          ∙ ap (λ n. get_or old.codes n 0) (sym at_place) ∙ is.reads row lt in
          let named = code_is (Some lower) is in
          let code_within = code_at-within texts row lt in
          let own_within : position_or_len (bytes_eq text) (firsts texts) < length (firsts texts) =
          omega (arith, code_within, is_code, named) in
          sym (code_at-text texts row lt) ∙ ap (λ n. get_or (firsts texts) n []) (sym is_code ∙ named)
          ∙ text_at_place (firsts texts) text own_within

      -- a row has the lower text with another text
      abbrev pub Disagrees : ℕ → Type 0
      Disagrees row = (row < length texts) × (get_or lower row [] ≡ under) × (get_or texts row [] ≡ text → ⊥)

      other_text : (other : ℕ) → slice_get old.codes place ≡ Some other → false ≡ (other == code) → (row : ℕ)
          → row < length texts → get_or lower row [] ≡ under → get_or texts row [] ≡ text → ⊥
      other_text other some apart row lt here again =
          let at' = slice_get-Some old.codes place other some in
          let is_other : other ≡ code_at texts row = sym at'.1
          ∙ ap (λ n. get_or old.codes n 0) (sym (place_is row here))
          ∙ is.reads row lt in
          differ other code apart (is_other ∙ ap (λ t. position_or_len (bytes_eq t) (firsts texts)) again
          ∙ sym (code_is (Some lower) is))

      pub disagrees_above : Enters old place text code false new → (row : ℕ) × Disagrees row
      disagrees_above enters =
          elim (slice_get old.codes place) as (λ o. slice_get old.codes place ≡ o → MatchOption o
          ((false ≡ (place == length old.codes))
          × (new.codes ≡ (if place == length old.codes then old.codes ++ code ∷ [] else old.codes)))
          (λ other. (false ≡ (other == code)) × (new.codes ≡ old.codes)) → (row : ℕ) × Disagrees row) [
            | None ↦ λ e p.
                let after = slice_get-None old.codes place e in
                let le = place_le (bytes_eq under) (firsts lower) in
                absurd (differ place (length old.codes) p.0 (omega (arith, after, le, at, is.count)))
            | Some other ↦ λ e p.
                let place_lt = (slice_get-Some old.codes place other e).0 in
                let seen : list_any (bytes_eq under) lower ≡ true = sym (list_any-firsts under lower)
                ∙ place_seen (bytes_eq under) (firsts lower) (omega (arith, place_lt, at, is.count)) in
                let lt : position_or_len (bytes_eq under) lower < length lower =
                place_within (bytes_eq under) lower seen in
                let here = text_at_place lower under lt in (
                  position_or_len (bytes_eq under) lower,
                  (
                    omega (arith, lt, long),
                    here,
                    other_text other e p.0 (position_or_len (bytes_eq under) lower)
                        (omega (arith, lt, long)) here,
                  ),
                )
          ] refl enters.codes
