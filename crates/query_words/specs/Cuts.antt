-- Where a word is cut at a sign. Our own.
use Rattle.std.specs.Prelude.{◌≡◌, ◌≢◌, ◌<◌, ◌⊎◌, ℕ, List, ◌∷◌, ◌++◌, length, slice_index}

-- neither of two signs is in a text
abbrev pub HasNeither : ℕ → ℕ → List ℕ → Type 0
HasNeither one other text = (i : ℕ) → i < length text → (slice_index text i ≢ one) × (slice_index text i ≢ other)

-- the first of two signs in a text, what is before it, and what is after it
pub record IsCut (one other : ℕ) (text before : List ℕ) (sign : ℕ) (after : List ℕ) : Type 0 where
  pub whole : text ≡ before ++ sign ∷ after
  pub is_sign : (sign ≡ one) ⊎ (sign ≡ other)
  pub first : HasNeither one other before
