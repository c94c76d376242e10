-- Lemmas of `line_fields`, by subject.
use Rattle.std.proofs.Common.{◌≡◌, ◌∙◌, sym, ap, refl, ℕ, ◌+◌, ◌-◌, ◌<◌, ◌≤◌, Bool, true, false, cond, List, [], ◌∷◌}
use Rattle.std.proofs.Common.{◌++◌, length, get_or, take, drop, slice_range, arith, Some, None, length-drop, append-nil}
use Rattle.std.proofs.Common.{append_assoc, get_or-set_other, get_or-set_same, below_more, add-one, ◌≢◌, map}
use Rattle.std.specs.Prelude.{◌==◌, nat_le, not, suc, zero, Option, slice_index_or, slice_set, slice_index}
use Rattle.std.specs.List.{position_or_len, onto_first}
use Rattle.std.specs.Option.{option_map}
use Rattle.std.proofs.lemmas.Bool.Decides.{nat_tests}
use Rattle.std.proofs.lemmas.Grind.{common_steps}
use Rattle.std.proofs.lemmas.List.{drop-drop, take_more_set, take_all}
use Rattle.std.proofs.lemmas.List.Sums.{position_or_len_is}
use Rattle.std.proofs.Math.ListN.{drop_of_length-le, length-set}
use Rattle.batch_loader.specs.Fields.{between_bars, first_parts, parts_at, bar_from, start_of}
use Rattle.std.specs.Int.{bit_at}
use Rattle.std.proofs.lemmas.Nat.Bits.{bit_at-zero, bit_at_above}
use Rattle.std.proofs.lemmas.Simd.{bit_mask_l, length-chunk, get_or-chunk}
use Rattle.std.specs.Simd.Lanes.{mask_l, chunk}
use Rattle.batch_loader.specs.Bars.{AreBarsAfter, bar_bit}

-- ==== The parts of a line, by the places of its bars.

abbrev is_bar : ℕ → Bool
is_bar byte = byte == 124

-- the parts after a place, of which there are none past the end
abbrev pub parts_left : List ℕ → ℕ → List (List ℕ)
parts_left line from = cond (nat_le from (length line)) (between_bars (drop from line)) []

begin : ℕ → List ℕ → ℕ → ℕ
begin from ends zero = from
begin from ends (suc place) = get_or ends place 0 + 1

part : (line : List ℕ) (from : ℕ) (ends : List ℕ) (place : ℕ) → place < length ends
    → slice_index_or (parts_at line from ends) place [] ≡ slice_range line (begin from ends place) (get_or ends place 0)
unfolding begin
part line from [] place below = absurd (omega arith)
part line from (end ∷ ends) zero below = refl
part line from (end ∷ ends) (suc zero) below = part line (end + 1) ends zero (omega arith)
part line from (end ∷ ends) (suc (suc place)) below = part line (end + 1) ends (suc place) (omega arith)

-- the part at a place lies between where it begins and where it ends
pub part-at : (line ends : List ℕ) (place : ℕ) → place < length ends
    → slice_range line (start_of ends place) (get_or ends place 0) ≡ slice_index_or (parts_at line 0 ends) place []
unfolding begin
part-at line ends zero below = sym (part line 0 ends zero below)
part-at line ends (suc place) below = sym (part line 0 ends (suc place) below)

not_true : (b : Bool) → (b ≡ true → ⊥) → b ≡ false
not_true true refuted = absurd (refuted refl)
not_true false refuted = refl

not_bar : (byte : ℕ) → (byte ≡ 124 → ⊥) → is_bar byte ≡ false
not_bar byte other = grind (arith, nat_tests)

one_bar : (byte : ℕ) → byte ≡ 124 → is_bar byte ≡ true
one_bar byte here = grind (arith, nat_tests)

get_after : (text : List ℕ) (from k : ℕ) → get_or (drop from text) k 0 ≡ get_or text (from + k) 0
get_after text from k = grind (arith, common_steps)

-- the first bar from a place on
pub bar_from-is : (text : List ℕ) (from at : ℕ) → from ≤ at → at ≤ length text
    → ((k : ℕ) → from ≤ k → k < at → get_or text k 0 ≡ 124 → ⊥) → (at < length text → get_or text at 0 ≡ 124)
    → at ≡ bar_from text from
bar_from-is text from at after within none here =
    let place : position_or_len is_bar (drop from text) ≡ at - from =
    position_or_len_is is_bar (drop from text) (at - from) 0 (omega (arith, length-drop from text))
    (λ k below. ap is_bar (get_after text from k)
    ∙ not_bar (get_or text (from + k) 0) (none (from + k) (omega arith) (omega arith)))
    (λ inside. ap is_bar (get_after text from (at - from))
    ∙ one_bar (get_or text (from + (at - from)) 0) (ap (λ n. get_or text n 0) (back from at after)
    ∙ here (omega (arith, length-drop from text)))) in
    omega (arith, place)
  where
    back : (from at : ℕ) → from ≤ at → from + (at - from) ≡ at
    back from at after = omega arith

holds : (a b : ℕ) → a ≤ b → nat_le a b ≡ true
holds a b below = grind (arith, nat_tests)

fails : (a b : ℕ) → b < a → nat_le a b ≡ false
fails a b above = grind (arith, nat_tests)

pub parts_left-past : (line : List ℕ) (from : ℕ) → length line < from → parts_left line from ≡ []
parts_left-past line from past = ap (λ b. cond b (between_bars (drop from line)) []) (fails from (length line) past)

parts_left-within : (line : List ℕ) (from : ℕ) → from ≤ length line
    → parts_left line from ≡ between_bars (drop from line)
parts_left-within line from within =
    ap (λ b. cond b (between_bars (drop from line)) []) (holds from (length line) within)

le-suc : (a b : ℕ) → nat_le (suc a) (suc b) ≡ nat_le a b
le-suc a b = grind (arith, nat_tests)

parts_left-cons : (byte : ℕ) (text : List ℕ) (n : ℕ) → parts_left (byte ∷ text) (suc n) ≡ parts_left text n
parts_left-cons byte text n = ap (λ b. cond b (between_bars (drop n text)) []) (le-suc n (length text))

one_more : (n : ℕ) → 1 + n ≡ suc n
one_more n = omega arith

next_suc : (n : ℕ) → 1 + n + 1 ≡ suc (n + 1)
next_suc n = omega arith

-- a text's first part ends at its first bar
parts-step : (text : List ℕ) → between_bars text ≡ take (position_or_len is_bar text) text
    ∷ parts_left text (position_or_len is_bar text + 1)
parts-step [] = refl
parts-step (byte ∷ text) =
    elim (is_bar byte) as (λ b. cond b ([] ∷ between_bars text) (onto_first byte (between_bars text))
    ≡ take (cond (not b) (1 + position_or_len is_bar text) 0) (byte ∷ text)
    ∷ parts_left (byte ∷ text) (cond (not b) (1 + position_or_len is_bar text) 0 + 1)) [
      | true ↦ ap (λ rest. [] ∷ rest) (sym (parts_left-within (byte ∷ text) 1 (omega arith)))
      | false ↦ ap (onto_first byte) (parts-step text)
          ∙ ap (λ rest. (byte ∷ take (position_or_len is_bar text) text) ∷ rest)
          (sym (parts_left-cons byte text (position_or_len is_bar text + 1)))
          ∙ ap (λ n. take n (byte ∷ text) ∷ parts_left (byte ∷ text) (suc (position_or_len is_bar text + 1)))
          (sym (one_more (position_or_len is_bar text)))
          ∙ ap (λ n. take (1 + position_or_len is_bar text) (byte ∷ text) ∷ parts_left (byte ∷ text) n)
          (sym (next_suc (position_or_len is_bar text)))
    ]

drops : (from at : ℕ) (line : List ℕ) → drop at (drop from line) ≡ drop (from + at) line
drops from at line = drop-drop at from line

reached : (a b : ℕ) → nat_le a b ≡ true → a ≤ b
reached a b is = grind (arith, nat_tests)

missed : (a b : ℕ) → nat_le a b ≡ false → b < a
missed a b is = grind (arith, nat_tests)

parts_left-after : (line : List ℕ) (from n : ℕ) → from ≤ length line
    → parts_left (drop from line) n ≡ parts_left line (from + n)
parts_left-after line from n within =
    (elim (nat_le n (length (drop from line))) as (λ b. nat_le n (length (drop from line)) ≡ b
    → parts_left (drop from line) n ≡ parts_left line (from + n)) [
      | true ↦ λ is. parts_left-within (drop from line) n (reached n (length (drop from line)) is)
          ∙ ap between_bars (drops from n line)
          ∙ sym (parts_left-within line (from + n)
          (omega (arith, length-drop from line, reached n (length (drop from line)) is)))
      | false ↦ λ is. parts_left-past (drop from line) n (missed n (length (drop from line)) is)
          ∙ sym (parts_left-past line (from + n)
          (omega (arith, length-drop from line, missed n (length (drop from line)) is)))
    ]) refl

between : (from n : ℕ) → n ≡ from + n - from
between from n = omega arith

-- the parts after a place begin with the one that ends at the next bar
pub parts_left-step : (line : List ℕ) (from : ℕ) → from ≤ length line
    → parts_left line from ≡ slice_range line from (bar_from line from) ∷ parts_left line (bar_from line from + 1)
parts_left-step line from within =
    parts_left-within line from within ∙ parts-step (drop from line)
    ∙ ap (λ n. take n (drop from line) ∷ parts_left (drop from line) (position_or_len is_bar (drop from line) + 1))
    (between from (position_or_len is_bar (drop from line)))
    ∙ ap (λ rest. slice_range line from (bar_from line from) ∷ rest)
    (parts_left-after line from (position_or_len is_bar (drop from line) + 1) within
    ∙ ap (parts_left line) (grouped from (position_or_len is_bar (drop from line)))
    )
  where
    grouped : (a b : ℕ) → a + (b + 1) ≡ a + b + 1
    grouped a b = omega arith

option_map-map : (front : List (List ℕ)) (part : List ℕ) (found : Option (List (List ℕ)))
    → option_map (λ others. front ++ others) (option_map (λ others. part ∷ others) found)
    ≡ option_map (λ others. (front ++ part ∷ []) ++ others) found
option_map-map front part None = refl
option_map-map front part (Some others) = ap Some (sym (append_assoc front (part ∷ []) others))

-- one part more
pub first_parts-step : (n m from : ℕ) (line : List ℕ) (front : List (List ℕ)) → n ≡ suc m → from ≤ length line
    → option_map (λ others. front ++ others) (first_parts n (parts_left line from))
    ≡ option_map (λ others. (front ++ slice_range line from (bar_from line from) ∷ []) ++ others)
    (first_parts m (parts_left line (bar_from line from + 1)))
first_parts-step n m from line front is within =
    ap (λ n. option_map (λ others. front ++ others) (first_parts n (parts_left line from))) is
    ∙ ap (λ parts. option_map (λ others. front ++ others) (first_parts (suc m) parts))
    (parts_left-step line from within)
    ∙ option_map-map front (slice_range line from (bar_from line from))
    (first_parts m (parts_left line (bar_from line from + 1)))

-- no part is left
pub first_parts-none : (n m from : ℕ) (line : List ℕ) (front : List (List ℕ)) → n ≡ suc m → length line < from
    → option_map (λ others. front ++ others) (first_parts n (parts_left line from)) ≡ None
first_parts-none n m from line front is past =
    ap (λ n. option_map (λ others. front ++ others) (first_parts n (parts_left line from))) is
    ∙ ap (λ parts. option_map (λ others. front ++ others) (first_parts (suc m) parts)) (parts_left-past line from past)

-- all parts were found, and nothing is left but perhaps an empty one
pub first_parts-all : (n from : ℕ) (line : List ℕ) (front : List (List ℕ)) → n ≡ 0 → length line ≤ from
    → option_map (λ others. front ++ others) (first_parts n (parts_left line from)) ≡ Some front
first_parts-all n from line front is past =
    ap (λ n. option_map (λ others. front ++ others) (first_parts n (parts_left line from))) is
    ∙ (elim (nat_le from (length line)) as
    (λ b. option_map (λ others. front ++ others) (first_parts 0 (cond b (between_bars (drop from line)) []))
    ≡ Some front) [
      | true ↦ ap (λ rest. option_map (λ others. front ++ others) (first_parts 0 (between_bars rest)))
          (drop_of_length-le line past) ∙ ap Some (append-nil front)
      | false ↦ ap Some (append-nil front)
    ])

-- bytes are no single empty part
first_parts-bytes : (text : List ℕ) → 0 < length text → first_parts 0 (between_bars text) ≡ None
first_parts-bytes [] some = absurd (omega arith)
first_parts-bytes (byte ∷ text) some =
    elim (is_bar byte) as (λ b. first_parts 0 (cond b ([] ∷ between_bars text) (onto_first byte (between_bars text)))
    ≡ None) [
      | true ↦ ap (λ parts. first_parts 0 ([] ∷ parts)) (parts-step text)
      | false ↦ ap (λ parts. first_parts 0 (onto_first byte parts)) (parts-step text)
    ]

-- all parts were found, and more is left
pub first_parts-more : (n from : ℕ) (line : List ℕ) (front : List (List ℕ)) → n ≡ 0 → from < length line
    → option_map (λ others. front ++ others) (first_parts n (parts_left line from)) ≡ None
first_parts-more n from line front is more =
    ap (λ n. option_map (λ others. front ++ others) (first_parts n (parts_left line from))) is
    ∙ ap (λ parts. option_map (λ others. front ++ others) (first_parts 0 parts))
    (parts_left-within line from (omega arith))
    ∙ ap (λ found. option_map (λ others. front ++ others) found)
    (first_parts-bytes (drop from line) (omega (arith, length-drop from line)))

-- ==== Splitting a line, end by end.

-- where the part after some ends begins
abbrev pub next_from : ℕ → List ℕ → ℕ
next_from from [] = from
next_from from (end ∷ ends) = next_from (end + 1) ends

next_from-push : (from end : ℕ) (ends : List ℕ) → next_from from (ends ++ end ∷ []) ≡ end + 1
next_from-push from end [] = refl
next_from-push from end (first ∷ ends) = next_from-push (first + 1) end ends

parts_at-push : (line : List ℕ) (from end : ℕ) (ends : List ℕ)
    → parts_at line from (ends ++ end ∷ []) ≡ parts_at line from ends ++ slice_range line (next_from from ends) end ∷ []
parts_at-push line from end [] = refl
parts_at-push line from end (first ∷ ends) =
    ap (λ parts. slice_range line from first ∷ parts) (parts_at-push line (first + 1) end ends)

-- what the loop keeps that finds the ends: the parts so far are in front of the parts that are left
pub record IsSplitting (n : ℕ) (line ends : List ℕ) (place from : ℕ) : Type 0 where
  pub front : first_parts n (between_bars line) ≡ option_map (λ others. parts_at line 0 (take place ends) ++ others)
      (first_parts (n - place) (parts_left line from))
  pub within : (k : ℕ) → k < place → (start_of ends k ≤ get_or ends k 0) × (get_or ends k 0 ≤ length line)
  pub from_is : from ≡ start_of ends place
  pub next_is : next_from 0 (take place ends) ≡ from
  pub count : length ends ≡ n

start_of-set : (ends : List ℕ) (place end k : ℕ) → k ≤ place → start_of (slice_set ends place end) k ≡ start_of ends k
start_of-set ends place end zero below = refl
start_of-set ends place end (suc k) below = ap (λ n. n + 1) (get_or-set_other ends place k end 0 (omega arith))

start_of-next : (ends : List ℕ) (place end : ℕ) → place < length ends
    → start_of (slice_set ends place end) (place + 1) ≡ end + 1
start_of-next ends place end below = ap (start_of (slice_set ends place end)) (add-one place)
    ∙ ap (λ n. n + 1) (get_or-set_same ends place end 0 below)

-- one end more
pub IsSplitting-next : (n : ℕ) (line ends : List ℕ) (place from end : ℕ) → place < n → from ≤ length line
    → end ≡ bar_from line from → end ≤ length line
    → IsSplitting n line ends place from → IsSplitting n line (slice_set ends place end) (place + 1) (end + 1)
IsSplitting-next n line ends place from end below within is inside before =
    let room : place < length ends = omega (arith, before.count) in
    let taken : parts_at line 0 (take (place + 1) (slice_set ends place end)) ≡ parts_at line 0 (take place ends)
    ++ slice_range line from (bar_from line from) ∷ [] =
    ap (parts_at line 0) (take_more_set ends place end room) ∙ parts_at-push line 0 end (take place ends)
    ∙ ap (λ start. parts_at line 0 (take place ends) ++ slice_range line start end ∷ []) before.next_is
    ∙ ap (λ stop. parts_at line 0 (take place ends) ++ slice_range line from stop ∷ []) is in
    record {
      front = before.front
          ∙ first_parts-step (n - place) (n - (place + 1)) from line (parts_at line 0 (take place ends)) (omega arith)
          within
          ∙ ap (λ front. option_map (λ others. front ++ others)
          (first_parts (n - (place + 1)) (parts_left line (bar_from line from + 1)))) (sym taken)
          ∙ ap (λ stop. option_map (λ others. parts_at line 0 (take (place + 1) (slice_set ends place end)) ++ others)
          (first_parts (n - (place + 1)) (parts_left line (stop + 1)))) (sym is);
      within = below_more _ _
          (λ k less. (
            omega (
              arith,
              start_of-set ends place end k (omega arith),
              get_or-set_other ends place k end 0 (omega arith),
              (before.within k less).0,
            ),
            omega (arith, get_or-set_other ends place k end 0 (omega arith), (before.within k less).1),
          )) (
            omega (
              arith,
              start_of-set ends place end place (omega arith),
              get_or-set_same ends place end 0 room,
              before.from_is,
              is,
            ),
            omega (arith, get_or-set_same ends place end 0 room),
          );
      from_is = sym (start_of-next ends place end room);
      next_is = ap (next_from 0) (take_more_set ends place end room) ∙ next_from-push 0 end (take place ends);
      count = length-set ends place end ∙ before.count;
    }

whole : (ends : List ℕ) (place : ℕ) → length ends ≤ place → take place ends ≡ ends
whole ends place past = take_all place ends past

-- all ends are found, and the line is used up
pub IsSplitting-end : (n : ℕ) (line ends : List ℕ) (place from : ℕ) → n ≤ place → length line ≤ from
    → IsSplitting n line ends place from
    → first_parts n (between_bars line) ≡ Some (parts_at line 0 ends)
IsSplitting-end n line ends place from last past before =
    before.front ∙ first_parts-all (n - place) from line (parts_at line 0 (take place ends)) (omega arith) past
    ∙ ap (λ ends. Some (parts_at line 0 ends)) (whole ends place (omega (arith, before.count)))

-- all ends are found, and more is left
pub IsSplitting-more : (n : ℕ) (line ends : List ℕ) (place from : ℕ) → n ≤ place → from < length line
    → IsSplitting n line ends place from
    → first_parts n (between_bars line) ≡ None
IsSplitting-more n line ends place from last more before =
    before.front ∙ first_parts-more (n - place) from line (parts_at line 0 (take place ends)) (omega arith) more

-- no part is left for the next end
pub IsSplitting-none : (n : ℕ) (line ends : List ℕ) (place from : ℕ) → place < n → length line < from
    → IsSplitting n line ends place from
    → first_parts n (between_bars line) ≡ None
IsSplitting-none n line ends place from below past before =
    before.front ∙ first_parts-none (n - place) (n - (place + 1)) from line (parts_at line 0 (take place ends))
    (omega arith) past

-- ==== The first bar after a place, by the lowest bit of a window.

abbrev bit_of : ℕ → ℕ
bit_of byte = cond (byte == 124) 1 0

at_bar : (byte : ℕ) → bit_of byte ≡ 1 → byte ≡ 124
at_bar byte is = grind (arith, nat_tests)

no_bar : (byte : ℕ) → bit_of byte ≡ 0 → byte ≡ 124 → ⊥
no_bar byte is here = grind (arith, nat_tests)

pub bar_bit-at : (text : List ℕ) (place : ℕ) → slice_index text place ≡ 124 → bar_bit text place ≡ 1
bar_bit-at text place is = ap bit_of is

other_byte : (byte : ℕ) → (byte ≡ 124 → ⊥) → bit_of byte ≡ 0
other_byte byte other = grind (arith, nat_tests)

pub bar_bit-other : (text : List ℕ) (place : ℕ) → (slice_index text place ≡ 124 → ⊥) → bar_bit text place ≡ 0
bar_bit-other text place other = other_byte (slice_index text place) other

past : (text : List ℕ) (place : ℕ) → length text ≤ place → slice_index text place ≡ 0
past [] place end = refl
past (byte ∷ text) zero end = absurd (omega arith)
past (byte ∷ text) (suc place) end = past text place (omega arith)

-- no byte is a bar past the end
pub bar_bit-past : (text : List ℕ) (place : ℕ) → length text ≤ place → bar_bit text place ≡ 0
bar_bit-past text place end = ap bit_of (past text place end)

bit_after : (from place bit : ℕ) → from ≤ place → cond (nat_le from place) bit 0 ≡ bit
bit_after from place bit after = grind (arith, nat_tests)

before : (from place bit : ℕ) → place < from → cond (nat_le from place) bit 0 ≡ 0
before from place bit less = grind (arith, nat_tests)

is_after : (from place bit : ℕ) → cond (nat_le from place) bit 0 ≡ 1 → (from ≤ place) × (bit ≡ 1)
is_after from place bit is =
    (elim (nat_le from place) as (λ b. nat_le from place ≡ b → cond b bit 0 ≡ 1 → (from ≤ place) × (bit ≡ 1)) [
      | true ↦ λ reached here. (holds reached, here)
      | false ↦ λ missed here. absurd (omega arith)
    ]) refl is
  where
    holds : nat_le from place ≡ true → from ≤ place
    holds reached = grind (arith, nat_tests)

-- the next bar is in the window
pub record IsNext (text : List ℕ) (from end : ℕ) : Type 0 where
  pub after : from ≤ end
  pub within : end < length text
  pub bar : end ≡ bar_from text from

within_text : (text : List ℕ) (place : ℕ) → slice_index text place ≡ 124 → place < length text
within_text [] place is = absurd (omega arith)
within_text (byte ∷ text) zero is = omega arith
within_text (byte ∷ text) (suc place) is = omega (arith, within_text text place is)

none_before : (text : List ℕ) (from first bars bit : ℕ) → bit ≤ 64 → ((k : ℕ) → k < bit → bit_at bars k ≡ 0)
    → AreBarsAfter text from first bars
    → (place : ℕ) → from ≤ place → place < first + bit → bar_bit text place ≡ 0
none_before text from first bars bit bound below window place after less =
    (elim (nat_le first place) as (λ b. nat_le first place ≡ b → bar_bit text place ≡ 0) [
      | true ↦ λ inside. in_window (reached inside)
      | false ↦ λ outside. window.none place after (missed outside)
    ]) refl
  where
    reached : nat_le first place ≡ true → first ≤ place
    reached is = grind (arith, nat_tests)

    missed : nat_le first place ≡ false → place < first
    missed is = grind (arith, nat_tests)

    in_window : first ≤ place → bar_bit text place ≡ 0
    in_window inside =
        let same : first + (place - first) ≡ place = omega arith in
        sym (bit_after from place (bar_bit text place) after)
        ∙ ap (λ n. cond (nat_le from n) (bar_bit text n) 0) (sym same)
        ∙ sym (window.bits (place - first) (omega arith)) ∙ below (place - first) (omega arith)

-- the lowest bit is the next bar
pub IsNext-lowest : (text : List ℕ) (from first bars bit : ℕ) → bit < 64 → bit_at bars bit ≡ 1
    → ((k : ℕ) → k < bit → bit_at bars k ≡ 0) → AreBarsAfter text from first bars
    → IsNext text from (first + bit)
IsNext-lowest text from first bars bit bound set below window =
    let here = is_after from (first + bit) (bar_bit text (first + bit)) (sym (window.bits bit bound) ∙ set) in
    let bar : slice_index text (first + bit) ≡ 124 = at_bar (slice_index text (first + bit)) here.1 in
    let inside : first + bit < length text = within_text text (first + bit) bar in
    record {
      after = here.0;
      within = inside;
      bar = bar_from-is text from (first + bit) here.0 (omega arith)
          (λ k after less. no_bar (slice_index text k)
          (none_before text from first bars bit (omega arith) below window k after less))
          (λ _. bar);
    }

-- the bars after it
pub AreBarsAfter-next : (text : List ℕ) (from first bars others bit : ℕ) → bit < 64 → bit_at bars bit ≡ 1
    → ((k : ℕ) → k < bit → bit_at bars k ≡ 0)
    → bit_at others bit ≡ 0 → ((k : ℕ) → k < 64 → k ≢ bit → bit_at others k ≡ bit_at bars k)
    → AreBarsAfter text from first bars
    → AreBarsAfter text (first + bit + 1) first others
AreBarsAfter-next text from first bars others bit bound set below cleared same window =
    let here = is_after from (first + bit) (bar_bit text (first + bit)) (sym (window.bits bit bound) ∙ set) in
    record {
      near = omega arith;
      none = λ place after less. absurd (omega arith);
      bits = λ k less. each k less here.0;
    }
  where
    lower : (k : ℕ) → k < 64 → k < bit
        → bit_at others k ≡ cond (nat_le (first + bit + 1) (first + k)) (bar_bit text (first + k)) 0
    lower k less under = same k less (λ e. omega (arith, e)) ∙ below k under
        ∙ sym (before (first + bit + 1) (first + k) (bar_bit text (first + k)) (omega arith))

    equal : (k : ℕ) → k ≡ bit → bit_at others k ≡ cond (nat_le (first + bit + 1) (first + k)) (bar_bit text (first + k))
        0
    equal k e = ap (bit_at others) e ∙ cleared
        ∙ sym (before (first + bit + 1) (first + k) (bar_bit text (first + k)) (omega arith))

    higher : (k : ℕ) → k < 64 → bit < k → from ≤ first + bit
        → bit_at others k ≡ cond (nat_le (first + bit + 1) (first + k)) (bar_bit text (first + k)) 0
    higher k less over after =
        same k less (λ e. omega (arith, e)) ∙ window.bits k less
        ∙ bit_after from (first + k) (bar_bit text (first + k)) (omega arith)
        ∙ sym (bit_after (first + bit + 1) (first + k) (bar_bit text (first + k)) (omega arith))

    each : (k : ℕ) → k < 64 → from ≤ first + bit
        → bit_at others k ≡ cond (nat_le (first + bit + 1) (first + k)) (bar_bit text (first + k)) 0
    each k less after =
        (elim (nat_le k bit) as
        (λ b. nat_le k bit ≡ b
        → bit_at others k ≡ cond (nat_le (first + bit + 1) (first + k)) (bar_bit text (first + k)) 0) [
          | true ↦ λ low.
              (elim (nat_le bit k) as
              (λ b. nat_le bit k ≡ b
              → bit_at others k ≡ cond (nat_le (first + bit + 1) (first + k)) (bar_bit text (first + k)) 0) [
                | true ↦ λ high. equal k (both low high)
                | false ↦ λ high. lower k less (not_le bit k high)
              ]) refl
          | false ↦ λ over. higher k less (not_le k bit over) after
        ]) refl
      where
        both : nat_le k bit ≡ true → nat_le bit k ≡ true → k ≡ bit
        both low high = grind (arith, nat_tests)

        not_le : (a b : ℕ) → nat_le a b ≡ false → b < a
        not_le a b is = grind (arith, nat_tests)

no_bits : (bars : ℕ) → bars ≡ 0 → (k : ℕ) → k < 64 → bit_at bars k ≡ 0
no_bits bars empty k less = ap (λ n. bit_at n k) empty ∙ bit_at-zero k

-- a window without a bar: those of the window after it
pub AreBarsAfter-skip : (text : List ℕ) (from first bars others next : ℕ) → bars ≡ 0 → next ≡ first + 64
    → ((k : ℕ) → k < 64 → bit_at others k ≡ bar_bit text (next + k)) → AreBarsAfter text from first bars
    → AreBarsAfter text from next others
AreBarsAfter-skip text from first bars others next empty is bits window = record {
  near = omega (arith, window.near);
  none = λ place after less. none_before text from first bars 64 (omega arith) (no_bits bars empty) window place after
      (omega arith);
  bits = λ k less. bits k less ∙ sym (bit_after from (next + k) (bar_bit text (next + k)) (omega (arith, window.near)));
}

-- all bars are still to come
pub AreBarsAfter-start : (text : List ℕ) (bars : ℕ) → ((k : ℕ) → k < 64 → bit_at bars k ≡ bar_bit text (0 + k))
    → AreBarsAfter text 0 0 bars
AreBarsAfter-start text bars bits = record {
  near = omega arith;
  none = λ place after less. absurd (omega arith);
  bits = λ k less. bits k less ∙ sym (bit_after 0 (0 + k) (bar_bit text (0 + k)) (omega arith));
}

-- no bar is left
pub bar_from-none : (text : List ℕ) (from first bars : ℕ) → from ≤ length text → bars ≡ 0 → length text ≤ first + 64
    → AreBarsAfter text from first bars → length text ≡ bar_from text from
bar_from-none text from first bars within empty last window =
    bar_from-is text from (length text) within (omega arith)
    (λ k after less. no_bar (slice_index text k)
    (none_before text from first bars 64 (omega arith) (no_bits bars empty) window k after (omega arith)))
    (λ inside. absurd (omega arith))

-- where a bar is still to come the place is not past the end
pub still_within : (from end bars : ℕ) → (end < from → bars ≡ 0) → bars ≢ 0 → from ≤ end
still_within from end bars past some =
    (elim (nat_le from end) as (λ b. nat_le from end ≡ b → from ≤ end) [
      | true ↦ λ is. reached is
      | false ↦ λ is. absurd (some (past (missed is)))
    ]) refl
  where
    reached : nat_le from end ≡ true → from ≤ end
    reached is = grind (arith, nat_tests)

    missed : nat_le from end ≡ false → end < from
    missed is = grind (arith, nat_tests)

get_or-map : {A B : Type 0} (f : A → B) (items : List A) (k : ℕ) (a : A) (b : B) → k < length items
    → get_or (map f items) k b ≡ f (get_or items k a)
get_or-map f [] k a b below = absurd (omega arith)
get_or-map f (item ∷ items) zero a b below = refl
get_or-map f (item ∷ items) (suc k) a b below = get_or-map f items k a b (omega arith)

-- a bit of the bytes of a window that pass a test
pub bit_at-window : (test : ℕ → Bool) (text lanes : List ℕ) (first width k : ℕ) → first + width ≤ length text
    → k < width → lanes ≡ chunk first width text
    → bit_at (mask_l (map test lanes)) k ≡ cond (test (slice_index text (first + k))) 1 0
bit_at-window test text lanes first width k room below is =
    bit_mask_l (map test lanes) k
    ∙ ap (λ bytes. cond (get_or (map test bytes) k false) 1 0) is
    ∙ ap (λ passes. cond passes 1 0)
    (get_or-map test (chunk first width text) k 0 false (omega (arith, length-chunk first width text room))
    ∙ ap test (get_or-chunk first width text k 0 below))

-- the bits of the bars before a place
pub record AreBarsUpTo (text : List ℕ) (first place bars : ℕ) : Type 0 where
  pub found : (k : ℕ) → first + k < place → bit_at bars k ≡ bar_bit text (first + k)
  pub others : (k : ℕ) → place ≤ first + k → bit_at bars k ≡ 0

pub AreBarsUpTo-none : (text : List ℕ) (first : ℕ) → AreBarsUpTo text first first 0
AreBarsUpTo-none text first = record { found = λ k less. absurd (omega arith); others = λ k after. bit_at-zero k }

-- one byte more that is a bar
pub AreBarsUpTo-bar : (text : List ℕ) (first place bars more : ℕ) → first ≤ place → slice_index text place ≡ 124
    → bit_at more (place - first) ≡ 1 → ((k : ℕ) → k ≢ place - first → bit_at more k ≡ bit_at bars k)
    → AreBarsUpTo text first place bars → AreBarsUpTo text first (place + 1) more
AreBarsUpTo-bar text first place bars more after bar set same before = record {
  found = λ k less. each k less;
  others = λ k past. same k (λ e. omega (arith, e)) ∙ before.others k (omega arith);
}
  where
    each : (k : ℕ) → first + k < place + 1 → bit_at more k ≡ bar_bit text (first + k)
    each k less =
        (elim (nat_le place (first + k)) as (λ b. nat_le place (first + k) ≡ b
        → bit_at more k ≡ bar_bit text (first + k)) [
          | true ↦ λ last. here k (reached k last) less
          | false ↦ λ earlier. same k (λ e. omega (arith, e, missed k earlier)) ∙ before.found k (missed k earlier)
        ]) refl
      where
        reached : (k : ℕ) → nat_le place (first + k) ≡ true → place ≤ first + k
        reached k is = grind (arith, nat_tests)

        missed : (k : ℕ) → nat_le place (first + k) ≡ false → first + k < place
        missed k is = grind (arith, nat_tests)

        here : (k : ℕ) → place ≤ first + k → first + k < place + 1 → bit_at more k ≡ bar_bit text (first + k)
        here k there less =
            let bit : k ≡ place - first = omega arith in
            let at : place ≡ first + k = omega arith in
            ap (bit_at more) bit ∙ set ∙ sym (bar_bit-at text place bar) ∙ ap (bar_bit text) at

-- one byte more that is no bar
pub AreBarsUpTo-other : (text : List ℕ) (first place bars : ℕ) → (slice_index text place ≡ 124 → ⊥)
    → AreBarsUpTo text first place bars → AreBarsUpTo text first (place + 1) bars
AreBarsUpTo-other text first place bars other before = record {
  found = λ k less. each k less;
  others = λ k past. before.others k (omega arith);
}
  where
    each : (k : ℕ) → first + k < place + 1 → bit_at bars k ≡ bar_bit text (first + k)
    each k less =
        (elim (nat_le place (first + k)) as (λ b. nat_le place (first + k) ≡ b
        → bit_at bars k ≡ bar_bit text (first + k)) [
          | true ↦ λ last. here k (reached k last) less
          | false ↦ λ earlier. before.found k (missed k earlier)
        ]) refl
      where
        reached : (k : ℕ) → nat_le place (first + k) ≡ true → place ≤ first + k
        reached k is = grind (arith, nat_tests)

        missed : (k : ℕ) → nat_le place (first + k) ≡ false → first + k < place
        missed k is = grind (arith, nat_tests)

        here : (k : ℕ) → place ≤ first + k → first + k < place + 1 → bit_at bars k ≡ bar_bit text (first + k)
        here k there less =
            let at : place ≡ first + k = omega arith in
            before.others k there ∙ sym (bar_bit-other text place other) ∙ ap (bar_bit text) at

-- all bytes after the place are looked at
pub AreBarsUpTo-all : (text : List ℕ) (first place bars : ℕ) → length text ≤ place → AreBarsUpTo text first place bars
    → (k : ℕ) → bit_at bars k ≡ bar_bit text (first + k)
AreBarsUpTo-all text first place bars end before k =
    (elim (nat_le place (first + k)) as (λ b. nat_le place (first + k) ≡ b → bit_at bars k ≡ bar_bit text (first + k)) [
      | true ↦ λ past. before.others k (reached past)
          ∙ sym (bar_bit-past text (first + k) (omega (arith, reached past)))
      | false ↦ λ earlier. before.found k (missed earlier)
    ]) refl
  where
    reached : nat_le place (first + k) ≡ true → place ≤ first + k
    reached is = grind (arith, nat_tests)

    missed : nat_le place (first + k) ≡ false → first + k < place
    missed is = grind (arith, nat_tests)

-- the bits of the last window of a text, less those before a place
pub bits-last : (text : List ℕ) (first before bars : ℕ) → bars < 18446744073709551616 → before ≤ first
    → first + 64 ≡ length text + before
    → ((k : ℕ) → k < 64 → bit_at bars k ≡ bar_bit text (first - before + k)) → (k : ℕ)
    → bit_at bars (before + k) ≡ bar_bit text (first + k)
bits-last text first before bars small less whole bits k =
    (elim (nat_le 64 (before + k)) as (λ b. nat_le 64 (before + k) ≡ b
    → bit_at bars (before + k) ≡ bar_bit text (first + k)) [
      | true ↦ λ past. bit_at_above bars 64 (before + k) small (reached past)
          ∙ sym (bar_bit-past text (first + k) (omega (arith, reached past)))
      | false ↦ λ inside. bits (before + k) (missed inside) ∙ ap (bar_bit text) (omega arith)
    ]) refl
  where
    reached : nat_le 64 (before + k) ≡ true → 64 ≤ before + k
    reached is = grind (arith, nat_tests)

    missed : nat_le 64 (before + k) ≡ false → before + k < 64
    missed is = grind (arith, nat_tests)
