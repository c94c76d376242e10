-- Pieces of bytes that lie in sectors.
use Rattle.std.proofs.Common.{◌≡◌, ℕ, zero, suc, ◌+◌, ◌-◌, ◌*◌, ◌/◌, ◌%◌, ◌<◌, ◌≤◌, List, [], ◌∷◌, ◌++◌, length, take}
use Rattle.std.proofs.Common.{drop, refl, sym, ◌∙◌, ap, arith, length-append, length-drop, append_assoc, append-nil}
use Rattle.std.proofs.Common.{Result, Ok, Err, IfOk}
use Rattle.std.proofs.lemmas.List.{length-take-le, drop-append-le, take-append-le, take-take, drop-take, drop-drop}
use Rattle.std.proofs.lemmas.List.{take-append-drop, take_at, drop_all}
use Rattle.std.proofs.Math.Seq.{drop-append-add, take-append-add, take-add}
use borrow.Rule.Slice.PartMut.{put_mid, post_of}
use Rattle.sector_device.specs.Device.{Image}
use Rattle.superblock.specs.Superblock.{sectors_of}
use Rattle.object_store.specs.Places.{sectors_bytes, bytes_at}

-- a piece within one sector of a run
run_piece : (image : Image) (q r first m n : ℕ) → q < m → r + n ≤ 512
    → ((k : ℕ) → k ≤ q → length (image (first + k)) ≡ 512) → take n (drop (q * 512 + r) (sectors_bytes image first m))
    ≡ take n (drop r (image (first + q)))
run_piece image q r first zero n lt fits whole = absurd (omega (arith, lt))
run_piece image zero r first (suc m) n lt fits whole =
    let here : first + 0 ≡ first = omega arith in
    let start : 0 * 512 + r ≡ r = omega arith in
    let long : length (image first) ≡ 512 = sym (ap (λ (i : ℕ). length (image i)) here) ∙ whole 0 (omega arith) in
    let rest : List ℕ = sectors_bytes image (suc first) m in
    ap (λ (i : ℕ). take n (drop i (image first ++ rest))) start
    ∙ ap (λ (l : List ℕ). take n l) (drop-append-le r (image first) rest (omega (arith, fits, long)))
    ∙ take-append-le n (drop r (image first)) rest (omega (arith, fits, long, length-drop r (image first)))
    ∙ ap (λ (i : ℕ). take n (drop r (image i))) (sym here)
run_piece image (suc q) r first (suc m) n lt fits whole =
    let here : first + 0 ≡ first = omega arith in
    let long : length (image first) ≡ 512 = sym (ap (λ (i : ℕ). length (image i)) here) ∙ whole 0 (omega arith) in
    let rest : List ℕ = sectors_bytes image (suc first) m in
    let start : suc q * 512 + r ≡ length (image first) + (q * 512 + r) = omega (arith, long) in
    let there : suc first + q ≡ first + suc q = omega arith in
    ap (λ (i : ℕ). take n (drop i (image first ++ rest))) start
    ∙ ap (λ (l : List ℕ). take n l) (drop-append-add (image first) rest (q * 512 + r))
    ∙ run_piece image q r (suc first) m n (omega (arith, lt)) fits
    (λ k le. let at : suc first + k ≡ first + suc k = omega arith in ap (λ (i : ℕ). length (image i)) at
    ∙ whole (suc k) (omega (arith, le)))
    ∙ ap (λ (i : ℕ). take n (drop r (image i))) there

-- of so many bytes, of which the last sector may have more
within_total : (image : Image) (first place n total : ℕ) → place + n ≤ total
    → take n (drop place (bytes_at image first total))
    ≡ take n (drop place (sectors_bytes image first (sectors_of total)))
within_total image first place n total within =
    let run : List ℕ = sectors_bytes image first (sectors_of total) in
    let all : total ≡ place + (total - place) = omega (arith, within) in
    ap (λ (i : ℕ). take n (drop place (take i run))) all
    ∙ ap (λ (l : List ℕ). take n l) (drop-take place (total - place) run)
    ∙ take-take n (total - place) (drop place run) (omega (arith, within))

pub piece_is : (image : Image) (first place n total : ℕ) → 1 ≤ n → place % 512 + n ≤ 512 → place + n ≤ total
    → ((k : ℕ) → k ≤ place / 512 → length (image (first + k)) ≡ 512)
    → take n (drop place (bytes_at image first total)) ≡ take n (drop (place % 512) (image (first + place / 512)))
piece_is image first place n total some fits within whole =
    let split : place ≡ place / 512 * 512 + place % 512 = omega arith in
    within_total image first place n total within
    ∙ ap (λ (i : ℕ). take n (drop i (sectors_bytes image first (sectors_of total)))) split
    ∙ run_piece image (place / 512) (place % 512) first (sectors_of total) n (omega (arith, some, within)) fits whole

-- so many sectors have so many bytes
pub length_run : (image : Image) (first n : ℕ) → ((k : ℕ) → k < n → length (image (first + k)) ≡ 512)
    → length (sectors_bytes image first n) ≡ n * 512
length_run image first zero whole = refl
length_run image first (suc n) whole =
    let here : first + 0 ≡ first = omega arith in
    let long : length (image first) ≡ 512 = sym (ap (λ (i : ℕ). length (image i)) here) ∙ whole 0 (omega arith) in
    let rest : length (sectors_bytes image (suc first) n) ≡ n * 512 =
    length_run image (suc first) n
    (λ k lt. let at : suc first + k ≡ first + suc k = omega arith in ap (λ (i : ℕ). length (image i)) at
    ∙ whole (suc k) (omega (arith, lt))) in
    omega (arith, long, rest, length-append (image first) (sectors_bytes image (suc first) n))

-- one run after another
pub run-append : (image : Image) (first a b : ℕ) → sectors_bytes image first (a + b) ≡ sectors_bytes image first a
    ++ sectors_bytes image (first + a) b
run-append image first zero b =
    let none : 0 + b ≡ b = omega arith in
    let here : first ≡ first + 0 = omega arith in
    ap (λ (n : ℕ). sectors_bytes image first n) none ∙ ap (λ (i : ℕ). sectors_bytes image i b) here
run-append image first (suc a) b =
    let next : suc a + b ≡ suc (a + b) = omega arith in
    let there : suc first + a ≡ first + suc a = omega arith in
    ap (λ (n : ℕ). sectors_bytes image first n) next
    ∙ ap (λ (l : List ℕ). image first ++ l)
    (run-append image (suc first) a b
    ∙ ap (λ (i : ℕ). sectors_bytes image (suc first) a ++ sectors_bytes image i b) there)
    ∙ sym (append_assoc (image first) (sectors_bytes image (suc first) a) (sectors_bytes image (first + suc a) b))

-- whole sectors of so many bytes
pub run_within : (image : Image) (first place m total : ℕ) → place % 512 ≡ 0 → place + m * 512 ≤ total
    → ((k : ℕ) → k < place / 512 + m → length (image (first + k)) ≡ 512)
    → take (m * 512) (drop place (bytes_at image first total)) ≡ sectors_bytes image (first + place / 512) m
run_within image first place m total begins within whole =
    let q : ℕ = place / 512 in
    let more : ℕ = sectors_of total - (q + m) in
    let split : sectors_of total ≡ q + (m + more) = omega (arith, begins, within) in
    let front : List ℕ = sectors_bytes image first q in
    let long : length front ≡ q * 512 = length_run image first q (λ k lt. whole k (omega (arith, lt))) in
    let at : place ≡ length front + 0 = omega (arith, long, begins) in
    let here : List ℕ = sectors_bytes image (first + q) m in
    let short : length here ≡ m * 512 =
    length_run image (first + q) m
    (λ k lt. let there : first + q + k ≡ first + (q + k) = omega arith in ap (λ (i : ℕ). length (image i)) there
    ∙ whole (q + k) (omega (arith, lt))) in
    within_total image first place (m * 512) total within
    ∙ ap (λ (n : ℕ). take (m * 512) (drop place (sectors_bytes image first n))) split
    ∙ ap (λ (l : List ℕ). take (m * 512) (drop place l)) (run-append image first q (m + more))
    ∙ ap (λ (i : ℕ). take (m * 512) (drop i (front ++ sectors_bytes image (first + q) (m + more)))) at
    ∙ ap (λ (l : List ℕ). take (m * 512) l) (drop-append-add front (sectors_bytes image (first + q) (m + more)) 0
    ∙ run-append image (first + q) m more)
    ∙ take_at here (sectors_bytes image (first + q + m) more) (m * 512) short

-- a piece more of what is read
range_step : (bytes old whole piece rest post : List ℕ) (at done n : ℕ) → done ≤ length old
    → take done old ≡ take done (drop at bytes) → length piece ≡ n → piece ≡ take n (drop (at + done) bytes)
    → whole ≡ take done old ++ ((piece ++ rest) ++ post) → take (done + n) whole ≡ take (done + n) (drop at bytes)
range_step bytes old whole piece rest post at done n within so_far long is grown =
    let front : length (take done old) ≡ done = length-take-le done old within in
    let many : done + n ≡ length (take done old) + n = omega (arith, front) in
    ap (λ (l : List ℕ). take (done + n) l) grown
    ∙ ap (λ (i : ℕ). take i (take done old ++ ((piece ++ rest) ++ post))) many
    ∙ take-append-add (take done old) ((piece ++ rest) ++ post) n
    ∙ ap (λ (l : List ℕ). take done old ++ take n l) (append_assoc piece rest post)
    ∙ ap (λ (l : List ℕ). take done old ++ l) (take_at piece (rest ++ post) n long ∙ is
    ∙ sym (ap (λ (l : List ℕ). take n l) (drop-drop done at bytes)))
    ∙ ap (λ (l : List ℕ). l ++ take n (drop done (drop at bytes))) so_far
    ∙ sym (take-add done n (drop at bytes))

pub range_grows : (bytes old sub new whole post : List ℕ) (at done n : ℕ) → done ≤ length old → n ≤ length sub
    → length new ≡ length sub → take done old ≡ take done (drop at bytes)
    → new ≡ take n (drop (at + done) bytes) ++ drop n sub → whole ≡ take done old ++ (new ++ post)
    → take (done + n) whole ≡ take (done + n) (drop at bytes)
range_grows bytes old sub new whole post at done n within fits same so_far is grown =
    let piece : List ℕ = take n (drop (at + done) bytes) in
    let long : length new ≡ length (piece ++ drop n sub) = ap (λ (l : List ℕ). length l) is in
    range_step bytes old whole piece (drop n sub) post at done n within so_far
    (omega (arith, fits, same, long, length-append piece (drop n sub), length-drop n sub)) refl
    (grown ∙ ap (λ (l : List ℕ). take done old ++ (l ++ post)) is)

-- a piece ends where its part ends at the latest
pub part_within : (done n : ℕ) (to part : List ℕ) (k : ℕ) → done < length to → n ≤ length to - done
    → length part ≡ length to - done → done + n ≤ length (put_mid done k to part)
part_within done n to part k less fits long =
    let front : length (take done to) ≡ done = length-take-le done to (omega (arith, less)) in
    omega (
      arith,
      front,
      fits,
      long,
      length-append (take done to) (part ++ post_of done k to),
      length-append part (post_of done k to),
    )

-- whole sectors whose bytes are those of a run
pub run_is : (n : ℕ) (bytes : List ℕ) (image : Image) (first : ℕ) → length bytes ≡ n * 512
    → ((k : ℕ) → k < n → take 512 (drop (k * 512) bytes) ≡ image (first + k)) → bytes ≡ sectors_bytes image first n
run_is zero [] image first long each = refl
run_is zero (x ∷ bytes) image first long each = absurd (omega (arith, long))
run_is (suc n) bytes image first long each =
    let here : first + 0 ≡ first = omega arith in
    let front : take 512 bytes ≡ image first = each 0 (omega arith) ∙ ap image here in
    let later : (k : ℕ) → k < n → take 512 (drop (k * 512) (drop 512 bytes)) ≡ image (suc first + k) = λ k lt.
    let far : 512 + k * 512 ≡ suc k * 512 = omega arith in
    let there : first + suc k ≡ suc first + k = omega arith in
    ap (λ (l : List ℕ). take 512 l) (drop-drop (k * 512) 512 bytes ∙ ap (λ (i : ℕ). drop i bytes) far)
    ∙ each (suc k) (omega (arith, lt)) ∙ ap image there in
    sym (take-append-drop 512 bytes) ∙ ap (λ (l : List ℕ). l ++ drop 512 bytes) front
    ∙ ap (λ (l : List ℕ). image first ++ l)
    (run_is n (drop 512 bytes) image (suc first) (omega (arith, long, length-drop 512 bytes)) later)

-- a part after others, in the place of zeros
pub after : (at : ℕ) (old zeros all new : List ℕ) → at ≡ length old → all ≡ old ++ zeros
    → take at all ++ (new ++ post_of at (length all - at) all) ≡ old ++ new
after at old zeros all new here is =
    let front : take at all ≡ old = ap (λ (l : List ℕ). take at l) is ∙ take_at old zeros at (sym here) in
    let back : post_of at (length all - at) all ≡ [] =
    drop_all (length all - at) (drop at all) (omega (arith, length-drop at all)) in
    ap (λ (l : List ℕ). l ++ (new ++ post_of at (length all - at) all)) front
    ∙ ap (λ (l : List ℕ). old ++ (new ++ l)) back
    ∙ ap (λ (l : List ℕ). old ++ l) (append-nil new)

pub IfOk-both : {T E : Type 0} (r : Result T E) (P Q R : T → Type 0) → ((x : T) → P x → Q x → R x) → IfOk r P → IfOk r Q
    → IfOk r R
IfOk-both (Ok x) P Q R so p q = so x p q
IfOk-both (Err e) P Q R so p q = tt
