-- What the spelling of a number determines, and how runs of reads go on, for the proofs of other crates too.
use Rattle.std.proofs.Common.{◌≡◌, ℕ, zero, suc, ◌+◌, ◌*◌, ◌/◌, ◌%◌, ◌^◌, ◌<◌, ◌≤◌, List, [], ◌∷◌, ◌++◌, length, take}
use Rattle.std.proofs.Common.{drop, slice_index, refl, sym, ap, ◌∙◌, arith}
use Rattle.std.proofs.Math.Nat.{div-div-eq-div-mul, pow-succ'}
use Rattle.std.proofs.Math.Seq.{drop-append-add, take-append_seam}
use Rattle.std.proofs.lemmas.List.{take_all, append_cancel_left}
use Rattle.std.specs.Int.{byte_at, bytes_low_first}
use Rattle.byteorder.specs.Endian.{little_from, little_number, little_bytes}
use Rattle.byteorder.specs.Numbers.{little_from-cons, little_number-reads_back, length-bytes_low_first}
use Rattle.cube_model.specs.declared.fault.Fault.{Fault}
use Rattle.wire.specs.declared.source.Source.{Ghosts}
use Rattle.wire.specs.Runs.{Stays, HasRead, IsRefused}
use Rattle.wire.specs.Spelling.{spelling}
use Rattle.wire.specs.Writing.{with_field}

-- a byte further up is that byte of what is left above the lowest
byte_at-suc : (i x : ℕ) → byte_at (suc i) x ≡ byte_at i (x / 256)
byte_at-suc zero x = refl
byte_at-suc (suc i) x =
    ap (λ (y : ℕ). y % 256) (ap (λ (p : ℕ). x / p) (pow-succ' 256 (suc i))
    ∙ sym (div-div-eq-div-mul x 256 (256 ^ suc i)))

bytes_low_first-suc : (k i x : ℕ) → bytes_low_first (suc i) k x ≡ bytes_low_first i k (x / 256)
bytes_low_first-suc zero i x = refl
bytes_low_first-suc (suc k) i x = rw (byte_at-suc i x, bytes_low_first-suc k (suc i) x) refl

-- the bytes of the number that is in n bytes are these bytes
bytes_of-number : (n : ℕ) (xs : List ℕ) → n ≤ length xs → ((k : ℕ) → slice_index xs k < 256)
    → bytes_low_first 0 n (little_from 0 n xs) ≡ take n xs
bytes_of-number zero xs room are_bytes = refl
bytes_of-number (suc n) [] room are_bytes = absurd (omega arith)
bytes_of-number (suc n) (a ∷ xs) room are_bytes =
    let lowest : a < 256 = are_bytes 0 in
    let rest = bytes_of-number n xs (omega arith) (λ k. are_bytes (suc k)) in
    let low : (a + 256 * little_from 0 n xs) % 256 ≡ a = omega arith in
    let high : (a + 256 * little_from 0 n xs) / 256 ≡ little_from 0 n xs = omega arith in
    rw (little_from-cons 0 n a xs, bytes_low_first-suc n 0 (a + 256 * little_from 0 n xs), low, high, rest) refl

-- n bytes are the spelling of the number that is in them
pub spelling-number : (n : ℕ) (field : List ℕ) → length field ≡ n → ((k : ℕ) → slice_index field k < 256)
    → spelling n (little_number n field) ≡ field
unfolding spelling
spelling-number n field many are_bytes = bytes_of-number n field (omega arith) are_bytes
    ∙ take_all n field (omega arith)

-- a spelling has as many bytes as asked for
pub length-spelling : (n x : ℕ) → length (spelling n x) ≡ n
unfolding spelling
length-spelling n x = length-bytes_low_first 0 n x

-- bytes begin with one spelling of n bytes at most
pub spelling-one : (n x y : ℕ) (xs ys : List ℕ) → x < 256 ^ n → y < 256 ^ n
    → spelling n x ++ xs ≡ spelling n y ++ ys → (x ≡ y) × (xs ≡ ys)
unfolding spelling
spelling-one n x y xs ys x_fits y_fits same =
    let numbers : x ≡ y =
    sym (little_number-reads_back n x xs x_fits) ∙ ap (little_number n) same ∙ little_number-reads_back n y ys y_fits in
    (numbers, append_cancel_left (little_bytes n x) xs ys (same ∙ ap (λ (z : ℕ). little_bytes n z ++ ys) (sym numbers)))

-- a field over the bytes that follow those that are done
pub with_field-done : (done field rest : List ℕ) → with_field (length done) field (done ++ rest) ≡ done
    ++ (field ++ drop (length field) rest)
with_field-done done field rest = rw (take-append_seam done rest, drop-append-add done rest (length field)) refl

-- before the first read
pub Stays-none : {S : Type 0} (g : Ghosts S) (s : S) → Stays g s s
Stays-none g s = record {
  totals = λ id. refl;
  texts = λ keeps id. refl;
  word = λ keeps. keeps;
  goes_on = λ always keeps. keeps;
}

-- one run after another
pub Stays-then : {S : Type 0} (g : Ghosts S) (old mid new : S)
    → Stays g old mid → Stays g mid new → Stays g old new
Stays-then g old mid new first second = record {
  totals = λ id. second.totals id ∙ first.totals id;
  texts = λ keeps id. second.texts keeps id ∙ first.texts (second.word keeps) id;
  word = λ keeps. first.word (second.word keeps);
  goes_on = λ always keeps. second.goes_on always (first.goes_on always keeps);
}

-- no read leaves a source as it is, where no read is a run
pub HasRead-none : {S : Type 0} (g : Ghosts S) → ((s : S) → g.reads s s) → (s : S) → HasRead g s s
HasRead-none g none s = record { stays = Stays-none g s; run = none s }

-- a run of reads after another is one, where runs join
pub HasRead-then : {S : Type 0} (g : Ghosts S) → ((a b c : S) → g.reads a b → g.reads b c → g.reads a c)
    → (old mid new : S) → HasRead g old mid → HasRead g mid new → HasRead g old new
HasRead-then g join old mid new first second =
    record { stays = Stays-then g old mid new first.stays second.stays; run = join old mid new first.run second.run }

-- a refusal after a run of reads
pub IsRefused-later : {S : Type 0} (g : Ghosts S)
    → ((fault : Fault) (a b c : S) → g.reads a b → g.fails fault b c → g.fails fault a c)
    → (fault : Fault) (old mid new : S) → HasRead g old mid → IsRefused g fault mid new → IsRefused g fault old new
IsRefused-later g join fault old mid new first second = record {
  stays = Stays-then g old mid new first.stays second.stays;
  cause = second.cause;
  run = join fault old mid new first.run second.run;
}
