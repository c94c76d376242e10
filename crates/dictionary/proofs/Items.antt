-- The texts of a set's keys, and what an addition does to them.
use Rattle.std.proofs.Common.{◌≡◌, ◌<◌, ◌≤◌, ◌∙◌, ◌+◌, ap, refl, cond, not, ℕ, Bool, false, nat_lt, List, [], ◌∷◌, ◌++◌}
use Rattle.std.proofs.Common.{map, length, position, Some, None, if◌then◌else◌}
use Rattle.std.proofs.lemmas.List.{length-map, map-append}
use Rattle.std.specs.List.{list_any, position_or_len}
use Rattle.indexmap.specs.IndexSet.{insert_key}
use Rattle.dictionary.specs.Dictionary.{Texts, Adds, code_of, with_text}

module _ {A B : Type 0} (p : B → Bool) (f : A → B) where
  pub position_or_len-map : (xs : List A) → position_or_len p (map f xs) ≡ position_or_len (λ x. p (f x)) xs
  position_or_len-map [] = refl
  position_or_len-map (x ∷ xs) = ap (λ n. cond (not (p (f x))) (1 + n) 0) (position_or_len-map xs)

  -- the place of an image
  pub position-map : (xs : List A) → position p (map f xs) ≡ position (λ x. p (f x)) xs
  position-map xs = λ i. cond (nat_lt (position_or_len-map xs i) (length-map xs f i)) (Some (position_or_len-map xs i))
      None

-- a text that was seen
pub Adds-seen : (old : Texts) (text : List ℕ) (place : ℕ) → code_of old.texts text ≡ Some place
    → Adds old text (Some place) old
Adds-seen old text place seen = rw seen (refl, refl)

-- a new text for which there is no room
pub Adds-full : (old : Texts) (text : List ℕ) → code_of old.texts text ≡ None → old.limit ≤ length old.texts
    → Adds old text None old
Adds-full old text new full = rw new (full, refl)

-- a new text
pub Adds-new : (old : Texts) (text : List ℕ) (next : ℕ) (after : Texts) → code_of old.texts text ≡ None
    → next ≡ length old.texts → length old.texts < old.limit
    → after ≡ with_text old text → Adds old text (Some next) after
Adds-new old text next after new last room is = rw new (last, room, is)

-- a new key goes after the others, with its text
pub map-insert_key : {A : Type 0} (eq : List ℕ → List ℕ → Bool) (f : A → List ℕ) (keys : List A) (key : A)
    (text : List ℕ) → f key ≡ text
    → list_any (λ other. eq text (f other)) keys ≡ false → map f (insert_key (λ x y. eq (f x) (f y)) keys key)
    ≡ map f keys ++ text ∷ []
map-insert_key eq f keys key text is new =
    ap (λ b. map f (if b then keys else keys ++ key ∷ [])) (ap (λ t. list_any (λ other. eq t (f other)) keys) is ∙ new)
    ∙ map-append f keys (key ∷ []) ∙ ap (λ t. map f keys ++ t ∷ []) is
