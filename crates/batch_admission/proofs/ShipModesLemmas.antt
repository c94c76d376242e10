-- Ship modes by their codes: the first one that is reserved, and those that are added to earlier ones row by row.
use Rattle.std.proofs.Common.{◌≡◌, ◌≢◌, ◌<◌, ◌≤◌, ◌+◌, ◌||◌, ◌==◌, ◌∙◌, suc, sym, ap, refl, subst, arith, true≢false}
use Rattle.std.proofs.Common.{cond, ℕ, Bool, true, false, nat_lt, List, [], ◌∷◌, ◌++◌, map, length, get_or, set, take}
use Rattle.std.proofs.Common.{drop, Option, Some, None, is_some, MatchOption, position, add-one, append_assoc}
use Rattle.std.proofs.Common.{length-append, get_or-set_other}
use Rattle.std.specs.Int.{from_le_bytes, w16}
use Rattle.std.specs.List.{list_any, position_or_len}
use Rattle.std.specs.Option.{option_map}
use Rattle.std.specs.Str.{bytes_eq}
use Rattle.std.proofs.Math.Seq.{drop-cons}
use Rattle.std.proofs.lemmas.Bool.{eq-eqb, eqb-true}
use Rattle.std.proofs.lemmas.Bool.Decides.{nat_tests}
use Rattle.std.proofs.lemmas.List.{get_or-map, get_or_default, length-map, length-set, take_more}
use Rattle.std.proofs.lemmas.List.Sums.{position_or_len_is}
use Rattle.cube_model.specs.Limits.{most_members}
use Rattle.cube_model.specs.ShipModes.{crowded_place}
use Rattle.cube_model.specs.Validity.{members_of}
use Rattle.dictionary.specs.Columns.{text_of_code}
use Rattle.dictionary.specs.Dictionary.{Adds, Texts, code_of, firsts, with_text}
use Rattle.dictionary.proofs.CallerLemmas.{absent, bytes_eq-refl, bytes_eq-symm, firsts-again, firsts-new}
use Rattle.dictionary.proofs.CallerLemmas.{list_any-firsts, list_any_here, list_any_nowhere, list_any_place}
use Rattle.dictionary.proofs.CallerLemmas.{list_any_push, present}
use Rattle.dictionary.proofs.ColumnLaws.{adds_column}
use Rattle.dimensions.proofs.MemberLaws.{length-members}
use Rattle.batch_admission.specs.ShipModes.{AreCodesAmong, texts_by}

-- ---- texts by their codes

module _ (texts codes : List (List ℕ)) (k : ℕ) (within : k < length codes) where
  pub text_by : get_or (texts_by texts codes) k [] ≡ text_of_code texts (from_le_bytes w16 (get_or codes k []))
  text_by =
      let many : k < length (map (from_le_bytes w16) codes) = omega (arith, length-map codes (from_le_bytes w16)) in
      get_or-map (text_of_code texts) (map (from_le_bytes w16) codes) k 0 [] many
      ∙ ap (text_of_code texts) (get_or-map (from_le_bytes w16) codes k [] 0 within)

  pub code_below : AreCodesAmong texts codes → from_le_bytes w16 (get_or codes k []) < length texts
  code_below below =
      let many : k < length (map (from_le_bytes w16) codes) = omega (arith, length-map codes (from_le_bytes w16)) in
      subst (λ (n : ℕ). n < length texts) (get_or-map (from_le_bytes w16) codes k [] 0 within) (below k 0 many)

  -- it is compared with another text
  pub text_matches : (text found : List ℕ) (code : ℕ) (same : Bool) → code ≡ from_le_bytes w16 (get_or codes k [])
      → found ≡ text_of_code texts code → same ≡ bytes_eq found text
      → bytes_eq text (get_or (texts_by texts codes) k []) ≡ same
  text_matches text found code same code_is found_is same_is =
      ap (bytes_eq text) (text_by ∙ ap (text_of_code texts) (sym code_is) ∙ sym found_is)
      ∙ bytes_eq-symm text found ∙ sym same_is

pub length-texts_by : (texts codes : List (List ℕ)) → length (texts_by texts codes) ≡ length codes
length-texts_by texts codes = length-map (map (from_le_bytes w16) codes) (text_of_code texts)
    ∙ length-map codes (from_le_bytes w16)

-- ---- the first one that is reserved

pub no_text : (found : Option ℕ) → is_some found ≡ false → found ≡ None
no_text None e = refl
no_text (Some n) e = absurd (true≢false e)

pub some_text : (found : Option ℕ) → is_some found ≡ true → (code : ℕ) × (found ≡ Some code)
some_text None e = absurd (true≢false (sym e))
some_text (Some n) e = (n, refl)

no_position : (p : List ℕ → Bool) (xs : List (List ℕ)) → list_any p xs ≡ false → position p xs ≡ None
no_position p xs none = ap (λ b. cond b (Some (position_or_len p xs)) None) (sym (list_any_place p xs) ∙ none)

pub nowhere : (p : List ℕ → Bool) (xs : List (List ℕ)) → ((k : ℕ) → k < length xs → p (get_or xs k []) ≡ false)
    → position p xs ≡ None
nowhere p xs none = no_position p xs (list_any_nowhere p xs [] none)

pub position_at : (p : List ℕ → Bool) (xs : List (List ℕ)) (i : ℕ) → i < length xs
    → ((k : ℕ) → k < i → p (get_or xs k []) ≡ false) → p (get_or xs i []) ≡ true → position p xs ≡ Some i
position_at p xs i lt before here =
    let le : i ≤ length xs = omega arith in
    let place : position_or_len p xs ≡ i = position_or_len_is p xs i [] le before (λ h. here) in
    let test : nat_lt i (length xs) ≡ true = grind (arith, nat_tests) in
    (λ j. cond (nat_lt (place j) (length xs)) (Some (place j)) None) ∙ ap (λ b. cond b (Some i) None) test

-- a text that is not there is at no place
no_place : (p : List ℕ → Bool) (texts : List (List ℕ)) (code : ℕ) → list_any p texts ≡ false → code < length texts
    → p (text_of_code texts code) ≡ false
no_place p texts code none lt = by (p (text_of_code texts code)) refl
  where
    by : (b : Bool) → p (text_of_code texts code) ≡ b → p (text_of_code texts code) ≡ false
    by true is = absurd (true≢false (sym (list_any_here p texts code [] lt is) ∙ none))
    by false is = is

pub none_reserved : (texts codes : List (List ℕ)) (text : List ℕ) → code_of texts text ≡ None
    → AreCodesAmong texts codes → position (bytes_eq text) (texts_by texts codes) ≡ None
none_reserved texts codes text none below =
    nowhere (bytes_eq text) (texts_by texts codes)
    (λ k lt. let within : k < length codes = omega (arith, length-texts_by texts codes) in
    ap (bytes_eq text) (text_by texts codes k within)
    ∙ no_place (bytes_eq text) texts _ (absent texts text none) (code_below texts codes k within below))

-- ---- with which there are too many

abbrev pub after : ℕ → Option ℕ → Option ℕ
after n place = option_map (λ k. n + k) place

after_suc : (n : ℕ) (place : Option ℕ) → after n (option_map suc place) ≡ after (n + 1) place
after_suc n None = refl
after_suc n (Some k) = let same : n + suc k ≡ (n + 1) + k = omega arith in ap Some same

-- after some texts of a column the dictionary has those and earlier ones, and the rest decides where they are too many
pub record Follows (earlier column : List (List ℕ)) (i : ℕ) (texts : List (List ℕ)) : Type 0 where
  pub texts_are : texts ≡ firsts (earlier ++ take i column)
  pub crowded : crowded_place earlier column ≡ after i (crowded_place (earlier ++ take i column) (drop i column))

module _ (earlier column : List (List ℕ)) (i : ℕ) (within : i < length column) where
  next : (earlier ++ take i column) ++ get_or column i [] ∷ [] ≡ earlier ++ take (i + 1) column
  next = append_assoc earlier (take i column) (get_or column i [] ∷ [])
      ∙ ap (λ l. earlier ++ l) (sym (take_more column i [] within))

  left : drop i column ≡ get_or column i [] ∷ drop (i + 1) column
  left = drop-cons column i [] within ∙ ap (λ n. get_or column i [] ∷ drop n column) (sym (add-one i))

  abbrev rest : Option ℕ
  rest = crowded_place (earlier ++ take (i + 1) column) (drop (i + 1) column)

  judged : crowded_place (earlier ++ take i column) (drop i column)
      ≡ cond (nat_lt most_members (length (members_of (earlier ++ take (i + 1) column)))) (Some 0) (option_map suc rest)
  judged = ap (crowded_place (earlier ++ take i column)) left
      ∙ ap (λ (l : List (List ℕ)). cond (nat_lt most_members (length (members_of l))) (Some 0)
      (option_map suc (crowded_place l (drop (i + 1) column)))) next

  fits : (n count : ℕ) → n ≡ count → count ≤ most_members → nat_lt most_members n ≡ false
  fits n count same le = grind (arith, nat_tests)

  over : (n count : ℕ) → n ≡ count + 1 → most_members ≤ count → nat_lt most_members n ≡ true
  over n count same le = grind (arith, nat_tests)

  -- one text more, with which they are not too many
  follows_more : (before texts : List (List ℕ)) → Follows earlier column i before
      → texts ≡ firsts ((earlier ++ take i column) ++ get_or column i [] ∷ []) → length texts ≤ most_members
      → Follows earlier column (i + 1) texts
  follows_more before texts so_far are few =
      let whole : texts ≡ firsts (earlier ++ take (i + 1) column) = are ∙ ap firsts next in
      let small : nat_lt most_members (length (members_of (earlier ++ take (i + 1) column))) ≡ false =
      fits _ (length texts) (length-members (earlier ++ take (i + 1) column) ∙ sym (ap length whole)) few in
      record {
        texts_are = whole;
        crowded = so_far.crowded
            ∙ ap (after i) (judged ∙ ap (λ b. cond b (Some 0) (option_map suc rest)) small)
            ∙ after_suc i rest;
      }

  -- one with which they are
  crowded_here : (texts : List (List ℕ)) → Follows earlier column i texts
      → list_any (bytes_eq (get_or column i [])) texts ≡ false → most_members ≤ length texts
      → crowded_place earlier column ≡ Some i
  crowded_here texts so_far new many =
      let fresh : list_any (bytes_eq (get_or column i [])) (earlier ++ take i column) ≡ false =
      sym (list_any-firsts (get_or column i []) (earlier ++ take i column))
      ∙ sym (ap (list_any (bytes_eq (get_or column i []))) so_far.texts_are) ∙ new in
      let whole : firsts (earlier ++ take (i + 1) column) ≡ texts ++ get_or column i [] ∷ [] = sym (ap firsts next)
      ∙ firsts-new (earlier ++ take i column) (get_or column i []) fresh
      ∙ ap (λ (l : List (List ℕ)). l ++ get_or column i [] ∷ []) (sym so_far.texts_are) in
      let big : nat_lt most_members (length (members_of (earlier ++ take (i + 1) column))) ≡ true =
      over _ (length texts)
      (length-members (earlier ++ take (i + 1) column) ∙ ap length whole
      ∙ length-append texts (get_or column i [] ∷ [])) many in
      let last : i + 0 ≡ i = omega arith in
      so_far.crowded ∙ ap (after i) (judged ∙ ap (λ b. cond b (Some 0) (option_map suc rest)) big) ∙ ap Some last

-- ---- a dictionary with one text more

-- what it has after a text was added
pub record Grows (known more : Texts) (text : List ℕ) : Type 0 where
  pub limit : more.limit ≡ known.limit
  pub keeps : (q : List ℕ) → list_any (bytes_eq q) known.texts ≡ true → list_any (bytes_eq q) more.texts ≡ true
  pub has : list_any (bytes_eq text) more.texts ≡ true

or_left : (a b : Bool) → a ≡ true → (a || b) ≡ true
or_left true b e = refl
or_left false b e = absurd (true≢false (sym e))

or_right : (a b : Bool) → b ≡ true → (a || b) ≡ true
or_right true b e = refl
or_right false b e = e

-- the same as adding one, where it is known whether it was there
abbrev AddsAt : Texts → List ℕ → Option ℕ → Option ℕ → Texts → Type 0
AddsAt old text seen code new = MatchOption seen
    (MatchOption code ((old.limit ≤ length old.texts) × (new ≡ old))
    (λ c. (c ≡ length old.texts) × (length old.texts < old.limit) × (new ≡ with_text old text)))
    (λ c. (code ≡ Some c) × (new ≡ old))

grows : (known more : Texts) (text : List ℕ) (code : ℕ) → Adds known text (Some code) more → Grows known more text
grows known more text code adds = by (code_of known.texts text) refl adds
  where
    by : (seen : Option ℕ) → code_of known.texts text ≡ seen → AddsAt known text seen (Some code) more
        → Grows known more text
    by None is new =
        let texts_are : more.texts ≡ known.texts ++ text ∷ [] = ap (λ (t : Texts). t.texts) new.2 in
        record {
          limit = ap (λ (t : Texts). t.limit) new.2;
          keeps = λ q has. ap (list_any (bytes_eq q)) texts_are ∙ list_any_push (bytes_eq q) known.texts text
              ∙ or_left _ _ has;
          has = ap (list_any (bytes_eq text)) texts_are ∙ list_any_push (bytes_eq text) known.texts text
              ∙ or_right _ _ (bytes_eq-refl text);
        }
    by (Some c) is old =
        let texts_are : more.texts ≡ known.texts = ap (λ (t : Texts). t.texts) old.1 in
        record {
          limit = ap (λ (t : Texts). t.limit) old.1;
          keeps = λ q has. ap (list_any (bytes_eq q)) texts_are ∙ has;
          has = ap (list_any (bytes_eq text)) texts_are ∙ present known.texts text c is;
        }

none_some : (code : ℕ) → ◌≡◌ {A = Option ℕ} None (Some code) → ⊥
none_some code e = cc

-- one that takes no further text does not have it
full : (known more : Texts) (text : List ℕ) → Adds known text None more
    → (list_any (bytes_eq text) known.texts ≡ false) × (known.limit ≤ length known.texts)
full known more text adds = by (code_of known.texts text) refl adds
  where
    by : (seen : Option ℕ) → code_of known.texts text ≡ seen → AddsAt known text seen None more
        → (list_any (bytes_eq text) known.texts ≡ false) × (known.limit ≤ length known.texts)
    by None is new = (absent known.texts text is, new.0)
    by (Some c) is old = absurd (none_some c old.0)

-- ---- a dictionary to which the texts of codes are added

-- the codes at the places before one were added, and those that were met are marked
pub record Adding (before known : Texts) (texts codes : List (List ℕ)) (met : List Bool) (place : ℕ) : Type 0 where
  pub limit : known.limit ≡ most_members
  pub kept : length before.texts ≤ most_members → length known.texts ≤ most_members
  pub few : (code : ℕ) → get_or met code false ≡ true → length known.texts ≤ most_members
  pub many : length met ≡ length texts
  pub marked : (code : ℕ) → get_or met code false ≡ true
      → list_any (bytes_eq (text_of_code texts code)) known.texts ≡ true
  pub follows : (earlier : List (List ℕ)) → before.texts ≡ firsts earlier
      → Follows earlier (texts_by texts codes) place known.texts

-- a mark that was read
pub mark_is : (met : List Bool) (n code : ℕ) (mark : Bool) → n ≡ code → n < length met → mark ≡ get_or met n mark
    → mark ≡ true → get_or met code false ≡ true
mark_is met n code mark same lt is marked =
    ap (λ (m : ℕ). get_or met m false) (sym same) ∙ get_or_default met n false mark lt ∙ sym is ∙ marked

module _ (before known : Texts) (texts codes : List (List ℕ)) (met : List Bool) (place : ℕ)
    (adding : Adding before known texts codes met place) (within : place < length codes) where
  abbrev text : List ℕ
  text = text_of_code texts (from_le_bytes w16 (get_or codes place []))

  inside : place < length (texts_by texts codes)
  inside = omega (arith, length-texts_by texts codes, within)

  -- a code that was met changes nothing
  pub adding_again : get_or met (from_le_bytes w16 (get_or codes place [])) false ≡ true
      → Adding before known texts codes met (place + 1)
  adding_again is = record {
    limit = adding.limit;
    kept = adding.kept;
    few = adding.few;
    many = adding.many;
    marked = adding.marked;
    follows = λ earlier are.
        let so_far = adding.follows earlier are in
        let column : List (List ℕ) = texts_by texts codes in
        let here : get_or column place [] ≡ text = text_by texts codes place within in
        let seen : list_any (bytes_eq (get_or column place [])) (earlier ++ take place column) ≡ true =
        sym (list_any-firsts (get_or column place []) (earlier ++ take place column))
        ∙ sym (ap (list_any (bytes_eq (get_or column place []))) so_far.texts_are)
        ∙ ap (λ (t : List ℕ). list_any (bytes_eq t) known.texts) here
        ∙ adding.marked (from_le_bytes w16 (get_or codes place [])) is in
        follows_more earlier column place inside known.texts known.texts so_far
        (so_far.texts_are ∙ sym (firsts-again (earlier ++ take place column) (get_or column place []) seen))
        (adding.few (from_le_bytes w16 (get_or codes place [])) is);
  }

  -- one that is met for the first time
  pub adding_more : (code : ℕ) (more : Texts) → Adds known text (Some code) more
      → length more.texts ≤ more.limit
      → Adding before more texts codes (set met (from_le_bytes w16 (get_or codes place [])) true) (place + 1)
  adding_more code more adds fits =
      let grown = grows known more text code adds in
      let few : length more.texts ≤ most_members = omega (arith, adding.limit, grown.limit, fits) in
      record {
        limit = grown.limit ∙ adding.limit;
        kept = λ own. few;
        few = λ other is. few;
        many = length-set met (from_le_bytes w16 (get_or codes place [])) true ∙ adding.many;
        marked = λ other is. by_code other (other == from_le_bytes w16 (get_or codes place [])) refl is grown;
        follows = λ earlier are.
            let so_far = adding.follows earlier are in
            let column : List (List ℕ) = texts_by texts codes in
            let here : get_or column place [] ≡ text = text_by texts codes place within in
            let laws = adds_column (earlier ++ take place column) text known more code so_far.texts_are adds in
            follows_more earlier column place inside known.texts more.texts so_far
            (laws.0 ∙ ap (λ (t : List ℕ). firsts ((earlier ++ take place column) ++ t ∷ [])) (sym here)) few;
      }
    where
      by_code : (other : ℕ) (same : Bool) → (other == from_le_bytes w16 (get_or codes place [])) ≡ same
          → get_or (set met (from_le_bytes w16 (get_or codes place [])) true) other false ≡ true
          → Grows known more text → list_any (bytes_eq (text_of_code texts other)) more.texts ≡ true
      by_code other true same is grown =
          let code_is : other ≡ from_le_bytes w16 (get_or codes place []) = eqb-true _ _ same in
          subst (λ (n : ℕ). list_any (bytes_eq (text_of_code texts n)) more.texts ≡ true) (sym code_is) grown.has
      by_code other false same is grown =
          let apart : other ≢ from_le_bytes w16 (get_or codes place []) = λ e. true≢false (sym (eq-eqb _ _ e) ∙ same) in
          grown.keeps (text_of_code texts other)
          (adding.marked other
          (sym (get_or-set_other met (from_le_bytes w16 (get_or codes place [])) other true false apart) ∙ is))

  -- one for which there is no room
  pub adding_none : (more : Texts) → Adds known text None more → (earlier : List (List ℕ))
      → before.texts ≡ firsts earlier → crowded_place earlier (texts_by texts codes) ≡ Some place
  adding_none more adds earlier are =
      let no_room = full known more text adds in
      let here : get_or (texts_by texts codes) place [] ≡ text = text_by texts codes place within in
      crowded_here earlier (texts_by texts codes) place inside known.texts (adding.follows earlier are)
      (ap (λ (t : List ℕ). list_any (bytes_eq t) known.texts) here ∙ no_room.0)
      (omega (arith, no_room.1, adding.limit))
