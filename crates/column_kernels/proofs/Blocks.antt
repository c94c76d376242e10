-- A mask in blocks of 32 rows and what is after them.
use Rattle.std.proofs.Common.{◌≡◌, ℕ, zero, suc, ◌+◌, ◌*◌, ◌^◌, ◌<◌, ◌≤◌, ◌==◌, Bool, true, false, cond, Some, List, []}
use Rattle.std.proofs.Common.{◌∷◌, ◌++◌, length, length-append, take, drop, get_or, slice_get, refl, sym, ap, ◌∙◌}
use Rattle.std.proofs.Common.{arith, length-take-le, append-nil, append_assoc}
use Rattle.std.proofs.Math.Seq.{take-add}
use Rattle.std.proofs.lemmas.List.{take_more, take-append-drop, get_or_append_left, length-drop, length-take}
use Rattle.std.proofs.lemmas.Grind.{flat_map-append}
use Rattle.std.proofs.lemmas.List.Recursion.{is_count_by}
use Rattle.std.proofs.lemmas.Option.{slice_get-get_or}
use Rattle.std.proofs.lemmas.Simd.{length-zip2}
use Rattle.std.specs.Int.{bit_at}
use Rattle.std.specs.Int.RustNames.{count_ones}
use Rattle.std.specs.List.{flat_map, count_by, sum}
use Rattle.std.specs.Simd.{first_chunks}
use Rattle.std.specs.Simd.Lanes.{mask_l, zip2, chunk}
use Rattle.column_kernels.specs.Masks.{bits_of, selected_by}
use Rattle.column_kernels.proofs.Bits.{length-bits_of, bits_of-mask_l_at, bits_of-next, bits_of-at, ones_of}
use Rattle.column_kernels.proofs.Bits.{mask_l-next, mask_l-small}
use Rattle.column_kernels.proofs.Chunks.{zip2-append, zip2_parts, next_pair}
use Rattle.column_kernels.proofs.Selecting.{selected-append, sum-append, one_selected}

pub length_words : (words : List ℕ) → length (flat_map (bits_of 32) words) ≡ 32 * length words
length_words [] = refl
length_words (word ∷ words) =
    length-append (bits_of 32 word) (flat_map (bits_of 32) words)
    ∙ omega (arith, length-bits_of 32 word, length_words words)

pub next_word : (words : List ℕ) (i : ℕ) → i < length words
    → flat_map (bits_of 32) (take (i + 1) words) ≡ flat_map (bits_of 32) (take i words) ++ bits_of 32 (get_or words i 0)
next_word words i lt =
    ap (flat_map (bits_of 32)) (take_more words i 0 lt)
    ∙ flat_map-append (bits_of 32) (take i words) (get_or words i 0 ∷ [])
    ∙ ap (λ (l : List Bool). flat_map (bits_of 32) (take i words) ++ l) (append-nil (bits_of 32 (get_or words i 0)))

-- a block more
pub more_blocks : (words : List ℕ) (i : ℕ) (numbers : List ℕ) → i < length words → 32 * length words ≤ length numbers
    → sum (selected_by (flat_map (bits_of 32) (take (i + 1) words)) (take (32 * (i + 1)) numbers))
    ≡ sum (selected_by (flat_map (bits_of 32) (take i words)) (take (32 * i) numbers))
    + sum (selected_by (bits_of 32 (get_or words i 0)) (chunk (32 * i) 32 numbers))
more_blocks words i numbers lt room =
    let before : List Bool = flat_map (bits_of 32) (take i words) in
    let next : List Bool = bits_of 32 (get_or words i 0) in
    let step : 32 * (i + 1) ≡ 32 * i + 32 = omega arith in
    let count : length (take i words) ≡ i = length-take-le i words (omega (arith, lt)) in
    let rows : length (take (32 * i) numbers) ≡ 32 * i = length-take-le (32 * i) numbers (omega (arith, lt, room)) in
    let long : length before ≡ length (take (32 * i) numbers) =
    omega (arith, length_words (take i words), count, rows) in
    ap (λ (l : List Bool). sum (selected_by l (take (32 * (i + 1)) numbers))) (next_word words i lt)
    ∙ ap (λ (l : List ℕ). sum (selected_by (before ++ next) l))
    (ap (λ (m : ℕ). take m numbers) step ∙ take-add (32 * i) 32 numbers)
    ∙ ap sum (selected-append before next (take (32 * i) numbers) (chunk (32 * i) 32 numbers) long)
    ∙ sum-append (selected_by before (take (32 * i) numbers)) (selected_by next (chunk (32 * i) 32 numbers))

-- a row more
pub more_rest : (word i : ℕ) (numbers : List ℕ) → i < length numbers
    → sum (selected_by (bits_of (i + 1) word) (take (i + 1) numbers))
    ≡ sum (selected_by (bits_of i word) (take i numbers)) + cond (bit_at word i == 1) (get_or numbers i 0) 0
more_rest word i numbers lt =
    let bit : Bool = bit_at word i == 1 in
    let x : ℕ = get_or numbers i 0 in
    let rows : length (take i numbers) ≡ i = length-take-le i numbers (omega (arith, lt)) in
    let long : length (bits_of i word) ≡ length (take i numbers) = length-bits_of i word ∙ sym rows in
    ap (λ (l : List Bool). sum (selected_by l (take (i + 1) numbers))) (bits_of-next i word)
    ∙ ap (λ (l : List ℕ). sum (selected_by (bits_of i word ++ bit ∷ []) l)) (take_more numbers i 0 lt)
    ∙ ap sum (selected-append (bits_of i word) (bit ∷ []) (take i numbers) (x ∷ []) long)
    ∙ sum-append (selected_by (bits_of i word) (take i numbers)) (selected_by (bit ∷ []) (x ∷ []))
    ∙ ap (λ (n : ℕ). sum (selected_by (bits_of i word) (take i numbers)) + n) (one_selected bit x)

-- the blocks and what is after them
pub whole_sum : (words : List ℕ) (rest n : ℕ) (numbers : List ℕ) → length numbers ≡ 32 * length words + n
    → sum (selected_by (flat_map (bits_of 32) words ++ bits_of n rest) numbers)
    ≡ sum (selected_by (flat_map (bits_of 32) words) (take (32 * length words) numbers))
    + sum (selected_by (bits_of n rest) (drop (32 * length words) numbers))
whole_sum words rest n numbers room =
    let m : ℕ = 32 * length words in
    let blocks : List Bool = flat_map (bits_of 32) words in
    let rows : length (take m numbers) ≡ m = length-take-le m numbers (omega (arith, room)) in
    let long : length blocks ≡ length (take m numbers) = length_words words ∙ sym rows in
    ap (λ (l : List ℕ). sum (selected_by (blocks ++ bits_of n rest) l)) (sym (take-append-drop m numbers))
    ∙ ap sum (selected-append blocks (bits_of n rest) (take m numbers) (drop m numbers) long)
    ∙ sum-append (selected_by blocks (take m numbers)) (selected_by (bits_of n rest) (drop m numbers))

abbrev set_count : List Bool → ℕ
set_count [] = 0
set_count (b ∷ marks) = cond b (1 + set_count marks) (set_count marks)

set_count_is : (marks : List Bool) → set_count marks ≡ count_by (λ (b : Bool). b) marks
set_count_is = is_count_by set_count (λ (b : Bool). b) refl (λ b marks. refl)

set_count-append : (ms ns : List Bool) → set_count (ms ++ ns) ≡ set_count ms + set_count ns
set_count-append [] ns = omega arith
set_count-append (true ∷ ms) ns = omega (arith, set_count-append ms ns)
set_count-append (false ∷ ms) ns = set_count-append ms ns

pub count-append : (ms ns : List Bool) → count_by (λ (b : Bool). b) (ms ++ ns) ≡ count_by (λ (b : Bool). b) ms
    + count_by (λ (b : Bool). b) ns
count-append ms ns = omega (arith, set_count_is (ms ++ ns), set_count_is ms, set_count_is ns, set_count-append ms ns)

pub count_next : (words : List ℕ) (i word : ℕ) → i < length words → get_or words i 0 ≡ word → word < 2 ^ 32
    → count_by (λ (b : Bool). b) (flat_map (bits_of 32) (take (i + 1) words))
    ≡ count_by (λ (b : Bool). b) (flat_map (bits_of 32) (take i words)) + count_ones word
count_next words i word lt is small =
    ap (count_by (λ (b : Bool). b))
    (next_word words i lt ∙ ap (λ (w : ℕ). flat_map (bits_of 32) (take i words) ++ bits_of 32 w) is)
    ∙ count-append (flat_map (bits_of 32) (take i words)) (bits_of 32 word)
    ∙ ap (λ (n : ℕ). count_by (λ (b : Bool). b) (flat_map (bits_of 32) (take i words)) + n)
    (sym (ones_of 32 word small))

-- the words of the whole blocks of two columns
pub words_of_blocks : (f : ℕ → ℕ → Bool) (k : ℕ) (xs ys : List ℕ) → k * 32 ≤ length xs → k * 32 ≤ length ys
    → flat_map (bits_of 32) (zip2 (λ x y. mask_l (zip2 f x y)) (first_chunks 32 k xs) (first_chunks 32 k ys))
    ≡ zip2 f (take (k * 32) xs) (take (k * 32) ys)
words_of_blocks f zero xs ys room other = refl
words_of_blocks f (suc k) xs ys room other =
    let x_rows : length (take 32 xs) ≡ 32 = length-take-le 32 xs (omega (arith, room)) in
    let y_rows : length (take 32 ys) ≡ 32 = length-take-le 32 ys (omega (arith, other)) in
    let one : length (zip2 f (take 32 xs) (take 32 ys)) ≡ 32 =
    length-zip2 f (take 32 xs) (take 32 ys) (x_rows ∙ sym y_rows) ∙ x_rows in
    let step : 32 + k * 32 ≡ suc k * 32 = omega arith in
    let whole : zip2 f (take (suc k * 32) xs) (take (suc k * 32) ys) ≡ zip2 f (take 32 xs) (take 32 ys)
    ++ zip2 f (take (k * 32) (drop 32 xs)) (take (k * 32) (drop 32 ys))
    = ap (λ (m : ℕ). zip2 f (take m xs) (take m ys)) (sym step)
    ∙ ap (λ (l : List ℕ). zip2 f l (take (32 + k * 32) ys)) (take-add 32 (k * 32) xs)
    ∙ ap (zip2 f (take 32 xs ++ take (k * 32) (drop 32 xs))) (take-add 32 (k * 32) ys)
    ∙ zip2-append f (take 32 xs) (take (k * 32) (drop 32 xs)) (take 32 ys) (take (k * 32) (drop 32 ys))
    (x_rows ∙ sym y_rows) in
    let left : k * 32 ≤ length (drop 32 xs) = omega (arith, room, length-drop 32 xs) in
    let right : k * 32 ≤ length (drop 32 ys) = omega (arith, other, length-drop 32 ys) in
    let others : List Bool = zip2 f (take (k * 32) (drop 32 xs)) (take (k * 32) (drop 32 ys)) in
    ap (λ (l : List Bool). bits_of 32 (mask_l (zip2 f (take 32 xs) (take 32 ys))) ++ l)
    (words_of_blocks f k (drop 32 xs) (drop 32 ys) left right)
    ∙ ap (λ (l : List Bool). l ++ others) (bits_of-mask_l_at (zip2 f (take 32 xs) (take 32 ys)) 32 one)
    ∙ sym whole

-- the mask of two columns, from the words of their blocks and of what is after them
pub mask_of : (f : ℕ → ℕ → Bool) (k : ℕ) (xs ys : List ℕ) (words : List ℕ) (rest n : ℕ) → k * 32 ≤ length xs
    → length ys ≡ length xs
    → words ≡ zip2 (λ x y. mask_l (zip2 f x y)) (first_chunks 32 k xs) (first_chunks 32 k ys)
    → rest ≡ mask_l (zip2 f (drop (k * 32) xs) (drop (k * 32) ys)) → n ≡ length (drop (k * 32) xs)
    → flat_map (bits_of 32) words ++ bits_of n rest ≡ zip2 f xs ys
mask_of f k xs ys words rest n room same words_are rest_is many =
    let m : ℕ = k * 32 in
    let after : List Bool = zip2 f (drop m xs) (drop m ys) in
    let equal : length (drop m xs) ≡ length (drop m ys) = omega (arith, length-drop m xs, length-drop m ys, same) in
    let long : length after ≡ n = length-zip2 f (drop m xs) (drop m ys) equal ∙ sym many in
    ap (λ (l : List ℕ). flat_map (bits_of 32) l ++ bits_of n rest) words_are
    ∙ ap (λ (l : List Bool). l ++ bits_of n rest) (words_of_blocks f k xs ys room (omega (arith, room, same)))
    ∙ ap (λ (l : List Bool). zip2 f (take m xs) (take m ys) ++ l)
    (ap (bits_of n) rest_is ∙ bits_of-mask_l_at after n long)
    ∙ sym (zip2_parts f m xs ys (omega (arith, room)) (omega (arith, room, same)))

slice_get_after : (front after : List Bool) (i : ℕ)
    → slice_get (front ++ after) (length front + i) ≡ slice_get after i
slice_get_after [] after i =
    let at : 0 + i ≡ i = omega arith in
    ap (slice_get after) at
slice_get_after (b ∷ front) after i =
    let at : suc (length front) + i ≡ suc (length front + i) = omega arith in
    ap (slice_get (b ∷ (front ++ after))) at ∙ slice_get_after front after i

-- a truth value by its row
pub get_block : (words : List ℕ) (block i d : ℕ) (tail : List Bool) → block < length words → i < 32
    → slice_get (flat_map (bits_of 32) words ++ tail) (32 * block + i) ≡ Some (bit_at (get_or words block d) i == 1)
get_block [] block i d tail lt in_block = absurd (omega (arith, lt))
get_block (word ∷ words) zero i d tail lt in_block =
    let here : List Bool = bits_of 32 word in
    let after : List Bool = flat_map (bits_of 32) words ++ tail in
    let at : 32 * 0 + i ≡ i = omega arith in
    let inside : i < length here = omega (arith, length-bits_of 32 word, in_block) in
    let room : i < length (here ++ after) = omega (arith, length-append here after, inside) in
    ap (λ (l : List Bool). slice_get l (32 * 0 + i)) (append_assoc here (flat_map (bits_of 32) words) tail)
    ∙ ap (slice_get (here ++ after)) at ∙ slice_get-get_or (here ++ after) i false room
    ∙ ap (λ (b : Bool). Some b) (get_or_append_left here after false i inside ∙ bits_of-at 32 word i false in_block)
get_block (word ∷ words) (suc block) i d tail lt in_block =
    let here : List Bool = bits_of 32 word in
    let at : 32 * suc block + i ≡ length here + (32 * block + i) = omega (arith, length-bits_of 32 word) in
    ap (λ (l : List Bool). slice_get l (32 * suc block + i)) (append_assoc here (flat_map (bits_of 32) words) tail)
    ∙ ap (slice_get (here ++ (flat_map (bits_of 32) words ++ tail))) at
    ∙ slice_get_after here (flat_map (bits_of 32) words ++ tail) (32 * block + i)
    ∙ get_block words block i d tail (omega (arith, lt)) in_block

-- a truth value of the rows after the blocks
pub get_rest : (words : List ℕ) (rest n i : ℕ) → i < n
    → slice_get (flat_map (bits_of 32) words ++ bits_of n rest) (32 * length words + i) ≡ Some (bit_at rest i == 1)
get_rest words rest n i lt =
    let blocks : List Bool = flat_map (bits_of 32) words in
    let at : 32 * length words + i ≡ length blocks + i = omega (arith, length_words words) in
    ap (slice_get (blocks ++ bits_of n rest)) at ∙ slice_get_after blocks (bits_of n rest) i
    ∙ slice_get-get_or (bits_of n rest) i false (omega (arith, length-bits_of n rest, lt))
    ∙ ap (λ (b : Bool). Some b) (bits_of-at n rest i false lt)

pub view_long : (words : List ℕ) (rest n : ℕ) → length (flat_map (bits_of 32) words ++ bits_of n rest)
    ≡ 32 * length words + n
view_long words rest n =
    length-append (flat_map (bits_of 32) words) (bits_of n rest)
    ∙ omega (arith, length_words words, length-bits_of n rest)

set_or_0 : (b : Bool) (n : ℕ) → cond b 1 0 * n ≡ cond b n 0
set_or_0 true n = omega arith
set_or_0 false n = omega arith

-- the bit of a row more
pub rest_next : (f : ℕ → ℕ → Bool) (xs ys : List ℕ) (i word bit : ℕ) (b : Bool) → i < length xs → length ys ≡ length xs
    → word ≡ mask_l (take i (zip2 f xs ys)) → b ≡ f (get_or xs i 0) (get_or ys i 0) → bit ≡ cond b (2 ^ i) 0
    → word + bit ≡ mask_l (take (i + 1) (zip2 f xs ys))
rest_next f xs ys i word bit b lt same word_is b_is bit_is =
    let marks : List Bool = take i (zip2 f xs ys) in
    let whole : length (zip2 f xs ys) ≡ length xs = length-zip2 f xs ys (sym same) in
    let long : length marks ≡ i = length-take-le i (zip2 f xs ys) (omega (arith, whole, lt)) in
    let next : mask_l (take (i + 1) (zip2 f xs ys)) ≡ mask_l (marks ++ b ∷ [])
    = ap mask_l (next_pair f xs ys i 0 0 lt (omega (arith, lt, same)))
    ∙ ap (λ (c : Bool). mask_l (marks ++ c ∷ [])) (sym b_is) in
    let more : mask_l (marks ++ b ∷ []) ≡ mask_l marks + cond b (2 ^ i) 0
    = mask_l-next marks b
    ∙ ap (λ (n : ℕ). mask_l marks + n) (ap (λ (n : ℕ). cond b 1 0 * 2 ^ n) long ∙ set_or_0 b (2 ^ i)) in
    omega (arith, next, more, word_is, bit_is)

pub take_small : (marks : List Bool) (i : ℕ) → i ≤ 32 → mask_l (take i marks) < 2 ^ 32
take_small marks i few = mask_l-small (take i marks) (omega (arith, length-take i marks, few))
